-- A step of a call on the tree leaves all safe, but for the deferral of a node that it marks.
use Rattle.std.proofs.Common.{◌≡◌, ◌<◌, ℕ, suc, Bool, true, false, List, refl, sym, ◌∙◌, ap, subst, inl, inr, arith}
use Rattle.std.proofs.Math.ListN.{set}
use Rattle.std.specs.Prelude.{Option, None, Some, is_some, length, slice_get}
use Rattle.std.proofs.lemmas.List.{length-set}
use Rattle.std.specs.List.{Contains}
use Rattle.judge.specs.declared.journal.Reply.{Reply}
use Rattle.crossbeam_epoch.specs.world.History.{Mark, WasDeferred}
use Rattle.crossbeam_epoch.specs.world.Machine.{State, place, with_store}
use Rattle.crossbeam_epoch.specs.world.Reach.{marks_of, WasIn}
use Rattle.crossbeam_epoch.specs.world.Store.{Store, value_at}
use Rattle.congee.specs.declared.protocol.run.Step.{Step}
use Rattle.congee.specs.declared.protocol.machine.Machine.{Machine}
use Rattle.congee.specs.declared.protocol.machine.Move.{Move}
use Rattle.congee.specs.declared.protocol.phase.Kind.{Kind}
use Rattle.congee.specs.declared.protocol.phase.Phase.{Phase}
use Rattle.congee.specs.declared.protocol.phase.Phase.TheVariants.{Retire}
use Rattle.congee.specs.protocol.Bounds.{Within}
use Rattle.congee.specs.protocol.Events.{RetireGives}
use Rattle.congee.specs.Heap.{Stands}
use Rattle.congee.specs.Keys.{key_bytes}
use Rattle.congee.specs.protocol.Holdings.{MadeBy}
use Rattle.congee.specs.Notes.{is_published}
use Rattle.congee.specs.protocol.Names.{name_made, names}
use Rattle.congee.specs.protocol.Play.{EachKnown, Protocol, IsMoved, StepPlays, Settled}
use Rattle.congee.specs.protocol.Protocol.{Known, TakenOut}
use Rattle.congee.specs.protocol.Steps.{PhaseStepped, after_retire}
use Rattle.congee.specs.protocol.State.{retiring}
use Rattle.joint.specs.declared.id.Id.{Id}
use Rattle.joint.specs.declared.nodes.slot.Slot.{Slot}
use Rattle.joint.specs.nodes.Nodes.{Nodes, nodes, frame, Refuses}
use Rattle.joint.specs.engine.Laws.{CellLaws, CallLaws, LeavesLaw}
use Rattle.joint.specs.engine.Safety.{IsSound, IsSafe, Runs, retiring_at, Owes, IsSafeOrOwes}
use Rattle.joint.specs.nodes.Slots.{slot_names}
use Rattle.joint.specs.engine.Sound.{IsSecured, Guards}
use Rattle.joint.specs.nodes.View.{view, heap, id_number}
use Rattle.joint.proofs.lemmas.engine.Retiring.{retiring_some}
use Rattle.joint.proofs.lemmas.engine.SecuredPlaces.{handed_secured, retiring_room, secured_step}
use Rattle.joint.proofs.lemmas.nodes.SlotViews.{slot_view}
use Rattle.joint.proofs.lemmas.nodes.Views.{heap_ties}
use Rattle.joint.proofs.lemmas.engine.SoundSteps.{Went, step_sound}

-- sound calls follow the protocol
pub protocol : {J V : Type 0} (same : V → V → Bool) (always : Bool) (s : State (Slot V) J) (ms : List (Machine Id V)) → IsSound same always s ms → Protocol id_number same always (heap s.store) ms
protocol same always s ms i = record { notes = i.sound.settled.0; tree = i.sound.settled.1.tree; words = i.sound.settled.1.words; each = i.sound.settled.1.each }

module _ {V : Type 0} (same : V → V → Bool) (always : Bool) (cells : CellLaws {T = Slot V} (Unit {0}) slot_names) (calls : CallLaws {C = Id} {V = V} id_number same always)
    (s s' : Nodes V) (leaves : LeavesLaw {C = Id} {V = V} id_number same always s.version_max (Refuses s)) (ms ms' : List (Machine Id V)) (step : Step Id V) (d : Move V)
    (safe : IsSafe same always s ms) (run : Runs ms step.who) (fr : frame s' ≡ frame s) (within : Within s'.version_max (nodes s'))
    (plays : StepPlays id_number same always s.version_max (Refuses s) (nodes s) ms step d (nodes s') ms') where
  abbrev m : Machine Id V
  m = run.0

  abbrev st' : Store (Slot V)
  st' = s'.collector.store

  abbrev moved : IsMoved id_number same always s.version_max (Refuses s) (nodes s) ms m step d (nodes s') ms'
  moved = plays.moved m run.1

  collector_is : s'.collector ≡ with_store s.collector st'
  collector_is = ap (λ x. with_store x.collector st') fr

  abbrev guards : Guards (place s.collector step.who) m
  guards = safe.sound.sound.guarded step.who m run.1

  abbrev known : EachKnown id_number same always safe.sound.sound.settled.0 (nodes s) step.who m
  known = safe.sound.sound.settled.1.each step.who m run.1

  secured : IsSecured moved.now.kind moved.now.phase (length (place s.collector step.who).bag)
  secured =
      let P : Kind V → Type 0 = λ k. IsSecured k moved.now.phase (length (place s.collector step.who).bag) in
      subst P (sym moved.step.kind) (secured_step id_number same always s.version_max (Refuses s) m.root m.key (key_bytes m.key) m.kind step.noise.fail step.noise.answer m.given moved.now.given step.who safe.sound.sound.settled.0 (nodes s) (nodes s')
      (record { phase = moved.now.phase; report = d }) m.phase (length (place s.collector step.who).bag) guards.secured known.known moved.step.step)

  all : Went same always safe.sound.past s'.collector ms'
  all =
      let w : Went same always safe.sound.past (with_store s.collector st') (set ms step.who moved.now) = step_sound same always cells calls s.version_max (Refuses s) leaves s.collector ms safe.sound step.who m moved.now d st' step.noise.fail step.noise.answer
      run.1 (guards.pinned run.2) (record { registered = λ _. guards.registered run.2; pinned = λ _. guards.pinned run.2; idle = λ _. guards.idle run.2; secured = secured })
      moved.step moved.keeps moved.origin
      (λ a p h. let P : List (Machine Id V) → Type 0 = λ x. Settled id_number same always (nodes s') x in subst P moved.calls (plays.settled a p h)) plays.untouched in
      let P : List (Machine Id V) → Type 0 = λ x. Went same always safe.sound.past (with_store s.collector st') x in
      let Q : State (Slot V) (Unit {0}) → Type 0 = λ x. Went same always safe.sound.past x ms' in
      subst Q (sym collector_is) (subst P (sym moved.calls) w)

  abbrev now_safe : IsSafe same always s' ms'
  now_safe = record { sound = all.sound; within = within }

  -- what a call owes that marked its node
  module _ (n : Id) (next : Option Id) (p : Id) (r : Reply V) (at : m.phase ≡ Retire n next p r) where
    taken : TakenOut step.who safe.sound.sound.settled.0 (nodes s) (id_number p) (id_number n)
    taken =
        let P : Phase Id V → Type 0 = λ x. Known id_number same always step.who safe.sound.sound.settled.0 (nodes s) m.key (key_bytes m.key) m.kind m.given x in
        (subst P at known.known).0

    gives : RetireGives (nodes s) (id_number n) (nodes s')
    gives =
        let P : Phase Id V → Type 0 = λ x. PhaseStepped id_number same always s.version_max (Refuses s) m.root (key_bytes m.key) m.kind step.noise.fail step.noise.answer m.given x (nodes s) moved.now.given (record { phase = moved.now.phase; report = d }) (nodes s') in
        (subst P at moved.step.step).1

    goes_on : record { phase = moved.now.phase; report = d } ≡ after_retire next p r
    goes_on =
        let P : Phase Id V → Type 0 = λ x. PhaseStepped id_number same always s.version_max (Refuses s) m.root (key_bytes m.key) m.kind step.noise.fail step.noise.answer m.given x (nodes s) moved.now.given (record { phase = moved.now.phase; report = d }) (nodes s') in
        (subst P at moved.step.step).2

    stood : Stands (nodes s (id_number n))
    stood = (safe.sound.sound.settled.1.words.each (id_number n)).stands (ap is_published taken.gone)

    stands_now : Stands (nodes s' (id_number n))
    stands_now = record { made = ap (λ x. x.made) gives.after ∙ stood.made; kept = ap (λ x. x.destroyed) gives.after ∙ stood.kept }

    was : WasIn safe.sound.past n.name
    was =
        let P : Phase Id V → Type 0 = λ x. Contains (names id_number x) (id_number n) in
        let Q : Phase Id V → Type 0 = λ x. MadeBy id_number x (id_number n) → ⊥ in
        let has : Contains (names id_number m.phase) (id_number n) = subst P (sym at) (0, (let l : 0 < suc (suc (length (name_made id_number next))) = omega arith in l), refl) in
        elim (safe.sound.sound.seen step.who m n.name run.1 has) [
          | inl made ↦ absurd (subst Q (sym at) (λ z. z) made)
          | inr v ↦ cells.visible_was safe.sound.past step.who n.name v
        ]

    fresh : (t : ℕ) → WasDeferred (marks_of safe.sound.past) t n.name → ⊥
    fresh t w =
        let live : is_some (value_at s.collector.store n.name) ≡ true = (heap_ties slot_names view slot_view s.collector.store).live n.name stood in
        let y : (nodes s (id_number n)).retired ≡ true = safe.sound.sound.deferred t n.name w live in
        let u : (nodes s (id_number n)).retired ≡ false = taken.unretired in
        cc

    places : IsSecured m.kind (Retire n next p r) (length (place s.collector step.who).bag)
    places = let P : Phase Id V → Type 0 = λ x. IsSecured m.kind x (length (place s.collector step.who).bag) in subst P at guards.secured

    room : length (place s.collector step.who).bag < 64
    room = retiring_room m.kind n next p r (length (place s.collector step.who).bag) places

    same_place : place s'.collector step.who ≡ place s.collector step.who
    same_place = ap (λ x. place x step.who) collector_is

    secured_then : (x : Machine Id V) → slice_get ms' step.who ≡ Some x → IsSecured x.kind x.phase (suc (length (place s'.collector step.who).bag))
    secured_then x got =
        let P : List (Machine Id V) → Type 0 = λ y. slice_get y step.who ≡ Some x in
        elim (calls.either ms step.who step.who moved.now x (subst P moved.calls got)) [
          | inl e ↦ (
              let jobs = length (place s.collector step.who).bag in
              let Q : Machine Id V → Type 0 = λ y. IsSecured y.kind y.phase (suc (length (place s'.collector step.who).bag)) in
              let R : ℕ → Type 0 = λ j. IsSecured moved.now.kind moved.now.phase (suc j) in
              let K : Kind V → Type 0 = λ k. IsSecured k moved.now.phase (suc jobs) in
              subst Q e.1 (subst R (ap (λ x. length x.bag) (sym same_place)) (subst K (sym moved.step.kind) (handed_secured m.kind n next p r (record { phase = moved.now.phase; report = d }) jobs goes_on places))))
          | inr apart ↦ absurd (apart.0 refl)
        ]

    owes : Owes same always s' ms' step.who n
    owes = record {
      safe = now_safe;
      marked = ap (λ x. x.retired) gives.after;
      stands = (heap_ties slot_names view slot_view st').live n.name stands_now;
      was = all.still n.name was;
      fresh = λ t w. fresh t (let P : List Mark → Type 0 = λ h. WasDeferred h t n.name in subst P all.marks w);
      registered = ap (λ x. x.registered) same_place ∙ guards.registered run.2;
      pinned = ap (λ x. is_some x.word) same_place ∙ guards.pinned run.2;
      idle = ap (λ x. x.phase) same_place ∙ guards.idle run.2;
      room = (let P : ℕ → Type 0 = λ k. k < 64 in subst P (ap (λ x. length x.bag) (sym same_place)) room);
      secured = secured_then;
    }

  by_phase : (x : Option Id) → retiring m.phase ≡ x → IsSafeOrOwes same always x s' ms' step.who
  by_phase None e = now_safe
  by_phase (Some n) e =
      let k : (next : Option Id) × (p : Id) × (r : Reply V) × (m.phase ≡ Retire n next p r) = retiring_some m.phase n e in
      owes n k.0 k.1 k.2 k.3

  -- after the step all is safe, but for the deferral of the node that it marks, if it marks one
  pub stepped_safe : IsSafeOrOwes same always (retiring_at (slice_get ms step.who)) s' ms' step.who
  stepped_safe =
      let P : Option (Machine Id V) → Type 0 = λ x. IsSafeOrOwes same always (retiring_at x) s' ms' step.who in
      subst P (sym run.1) (by_phase (retiring m.phase) refl)

  -- there are as many machines as before
  pub same_length : length ms' ≡ length ms
  same_length = ap length moved.calls ∙ length-set ms step.who moved.now
