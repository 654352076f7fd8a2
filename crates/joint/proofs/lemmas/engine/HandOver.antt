-- The deferral of a node that a call has just marked finds its place, and leaves all safe.
use Rattle.std.proofs.Common.{◌≡◌, ◌≢◌, ◌+◌, ◌-◌, ◌^◌, ◌<◌, ◌≤◌, ◌==◌, arith, ℕ, suc, Bool, true, false, List, [], ◌∷◌, ◌++◌, refl, sym, ◌∙◌, ap, subst, inl, inr, ◌⊎◌}
use Rattle.std.specs.Prelude.{Option, None, Some, is_none, is_some, length, slice_get, slice_index_or, if◌then◌else◌, MatchOption}
use Rattle.std.proofs.lemmas.Bool.{cases_eq, cases_lt, ne_eqb}
use Rattle.std.proofs.lemmas.List.{get_or_past, get_or-set_same, get_or-set_other, length-append}
use Rattle.crossbeam_epoch.specs.declared.bag.Work.{Work}
use Rattle.crossbeam_epoch.specs.declared.bag.Work.TheVariants.{Remove}
use Rattle.crossbeam_epoch.specs.declared.fault.Fault.{Fault}
use Rattle.crossbeam_epoch.specs.declared.fault.Fault.TheVariants.{Memory, Unpinned, Count, Unknown}
use Rattle.crossbeam_epoch.specs.declared.names.Name.{Name}
use Rattle.crossbeam_epoch.specs.declared.world.participant.Participant.{Participant}
use Rattle.crossbeam_epoch.specs.declared.world.participant.Phase.{Phase as CollectorPhase}
use Rattle.crossbeam_epoch.specs.world.History.{Deferred, WasDeferred}
use Rattle.crossbeam_epoch.specs.world.Machine.{State, blank, place, deferred, deferred_anew, after_deferral}
use Rattle.crossbeam_epoch.specs.world.Reach.{Marked, Moment, marks_of, moment, HasMoments}
use Rattle.crossbeam_epoch.specs.world.Steps.{when, quiet_fault, or_count, defer_fault, destroy_fault}
use Rattle.congee.specs.declared.protocol.machine.Machine.{Machine}
use Rattle.joint.specs.declared.id.Id.{Id}
use Rattle.joint.specs.declared.nodes.slot.Slot.{Slot}
use Rattle.joint.specs.nodes.Nodes.{Nodes, nodes, with_collector}
use Rattle.joint.specs.engine.Laws.{CellLaws, CallLaws}
use Rattle.joint.specs.engine.Safety.{IsSafe, Owes}
use Rattle.joint.specs.nodes.Slots.{slot_names}
use Rattle.joint.specs.Names.{number, named}
use Rattle.joint.specs.NameLemmas.{named_number, number_named}
use Rattle.joint.specs.engine.Sound.{IsSecured, Guards}
use Rattle.joint.specs.nodes.View.{view, id_number}
use Rattle.joint.proofs.lemmas.engine.SoundHandOver.{handed}
use Rattle.joint.proofs.lemmas.engine.ReachMoments.{entered_live}
use Rattle.joint.proofs.lemmas.nodes.SlotViews.{slot_view}
use Rattle.joint.proofs.lemmas.nodes.Tickets.{at_most_by_relation}
use Rattle.joint.proofs.lemmas.nodes.Views.{heap_ties}

-- a participant that is registered has a place in the table
pub held_place : {J : Type 0} (table : List (Participant J)) (who : ℕ) → (slice_index_or table who blank).registered ≡ true → who < length table
held_place {J} table who e = elim (cases_lt who (length table)) [
  | inl lt ↦ lt
  | inr ge ↦ absurd (
      let p : slice_index_or table who blank ≡ blank {J = J} = get_or_past table who (blank {J = J}) ge in
      let z : (slice_index_or table who blank).registered ≡ false = ap (λ x. x.registered) p in
      cc)
]

module _ {V : Type 0} (same : V → V → Bool) (always : Bool) (cells : CellLaws {T = Slot V} (Unit {0}) slot_names) (calls : CallLaws {C = Id} {V = V} id_number same always)
    (s : Nodes V) (ms : List (Machine Id V)) (who : ℕ) (node : Id) (few : (n : ℕ) → (nodes s n).made ≡ true → n < 2 ^ 64 - 1) (owes : Owes same always s ms who node) where
  abbrev c : State (Slot V) (Unit {0})
  c = s.collector

  abbrev past : List Moment
  past = owes.safe.sound.past

  -- what was deferred was made
  deferred_made : (t : ℕ) (n : Name) → WasDeferred (marks_of past) t n → (nodes s (number n)).made ≡ true
  deferred_made t n w =
      (heap_ties slot_names view slot_view c.store).given n (owes.safe.sound.sound.tells.given n (entered_live past owes.safe.sound.sound.careful.enters n (owes.safe.sound.sound.left t n w)))

  -- the names that the tickets have, with the one that is to come
  abbrev Has : ℕ → ℕ → Type 0
  Has t k = WasDeferred (marks_of past) t (named k) ⊎ ((t ≡ c.next) × (k ≡ id_number node))

  has : (t : ℕ) → t < c.next + 1 → (k : ℕ) × Has t k
  has t l = elim (cases_lt t c.next) [
    | inl lt ↦ (let d : (n : Name) × WasDeferred (marks_of past) t n = owes.safe.sound.sound.named t lt in (number d.0, inl (subst (λ (n : Name). WasDeferred (marks_of past) t n) (sym (named_number d.0)) d.1)))
    | inr ge ↦ (id_number node, inr (omega (arith, l, ge), refl))
  ]

  bound : (t k : ℕ) → t < c.next + 1 → Has t k → k < 2 ^ 64 - 1
  bound t k l (inl d) = few k (subst (λ (y : ℕ). (nodes s y).made ≡ true) (number_named k) (deferred_made t (named k) d))
  bound t k l (inr e) = subst (λ (y : ℕ). y < 2 ^ 64 - 1) (sym e.1) (few (id_number node) ((heap_ties slot_names view slot_view c.store).stands node.name owes.stands).made)

  never : (t k : ℕ) → WasDeferred (marks_of past) t (named k) → k ≡ id_number node → ⊥
  never t k d e = owes.fresh t (subst (λ (n : Name). WasDeferred (marks_of past) t n) (ap named e ∙ named_number node.name) d)

  one : (t u k : ℕ) → t < c.next + 1 → u < c.next + 1 → Has t k → Has u k → t ≡ u
  one t u k lt lu (inl d) (inl e) = owes.safe.sound.sound.once t u (named k) d e
  one t u k lt lu (inl d) (inr e) = absurd (never t k d e.1)
  one t u k lt lu (inr d) (inl e) = absurd (never u k e d.1)
  one t u k lt lu (inr d) (inr e) = d.0 ∙ sym e.0

  counted : c.next + 1 ≤ 2 ^ 64 - 1
  counted = at_most_by_relation (2 ^ 64 - 1) (c.next + 1) Has has bound one

  no_count : (c.next == 2 ^ 64 - 1) ≡ false
  no_count = ne_eqb c.next (2 ^ 64 - 1) (λ e. let z : c.next + 1 ≤ 2 ^ 64 - 1 = counted in omega (arith, e, z))

  pinned : (w : Option ℕ) → is_some w ≡ true → is_none w ≡ false
  pinned (Some e) q = refl
  pinned None q = absurd (cc q)

  -- nothing refuses the deferral
  no_fault : destroy_fault c who node.name ≡ None
  no_fault =
      let p : Participant (Unit {0}) = place c who in
      let quiet : quiet_fault p.phase p ≡ None = ap (λ (x : CollectorPhase). quiet_fault x p) owes.idle ∙ ap (λ (b : Bool). when b Unpinned) (pinned p.word owes.pinned) in
      let count : or_count c.next (quiet_fault p.phase p) ≡ None = ap (or_count c.next) quiet ∙ ap (λ (b : Bool). when b Count) no_count in
      let held : defer_fault c who ≡ or_count c.next (quiet_fault p.phase p) = ap (λ (b : Bool). if b then or_count c.next (quiet_fault p.phase p) else Some Unknown) owes.registered in
      ap (λ (b : Bool). if b then defer_fault c who else Some Unknown) owes.stands ∙ held ∙ count

  no_full : (length (place c who).bag == 64) ≡ false
  no_full = let r : length (place c who).bag < 64 = owes.room in ne_eqb (length (place c who).bag) 64 (λ e. omega (arith, e, r))

  abbrev work : Work (Unit {0})
  work = Remove node.name

  -- the node's removal comes into the worker's bag, which isn't full
  pub into_place : after_deferral c who work ≡ deferred c who work
  into_place = ap (λ (b : Bool). if b then deferred_anew c who work else deferred c who work) no_full

  abbrev next : State (Slot V) (Unit {0})
  next = deferred c who work

  inside : who < length c.table
  inside = held_place c.table who owes.registered

  abbrev put : Participant (Unit {0})
  put = record (place c who) { bag = (place c who).bag ++ record { ticket = c.next; work = work } ∷ [] }

  place_here : place next who ≡ put
  place_here = get_or-set_same c.table who put blank inside

  place_apart : (i : ℕ) → i ≢ who → place next i ≡ place c i
  place_apart i ne = get_or-set_other c.table who i put blank ne

  guards : (i : ℕ) (m : Machine Id V) → slice_get ms i ≡ Some m → Guards (place next i) m
  guards i m at = elim (cases_eq i who) [
    | inl e ↦ (
        let g : Guards (place c i) m = owes.safe.sound.sound.guarded i m at in
        let q : place next i ≡ put = ap (place next) e ∙ place_here in
        let l = length-append (place c who).bag (record { ticket = c.next; work = work } ∷ []) in
        let n : length (place next i).bag ≡ suc (length (place c who).bag) = ap (λ x. length x.bag) q ∙ (let k : length put.bag ≡ suc (length (place c who).bag) = omega (arith, l) in k) in
        record {
          registered = λ _. ap (λ x. x.registered) q ∙ owes.registered;
          pinned = λ _. ap (λ x. is_some x.word) q ∙ owes.pinned;
          idle = λ _. ap (λ x. x.phase) q ∙ owes.idle;
          secured = subst (λ (j : ℕ). IsSecured m.kind m.phase j) (sym n) (owes.secured m (subst (λ (j : ℕ). slice_get ms j ≡ Some m) e at));
        })
    | inr ne ↦ subst (λ (p : Participant (Unit {0})). Guards p m) (sym (place_apart i ne)) (owes.safe.sound.sound.guarded i m at)
  ]

  -- once the removal is deferred all is safe
  pub handed_safe : (t : ℕ) (s' : Nodes V) → s' ≡ with_collector s (after_deferral c who work) → t ≡ c.next
      → ((h : List Moment) → HasMoments slot_names h c → HasMoments slot_names (moment slot_names (Marked (Deferred t (Some node.name))) s'.collector ∷ h) s'.collector) → IsSafe same always s' ms
  handed_safe t s' e ticket told =
      let at : s' ≡ with_collector s next = e ∙ ap (with_collector s) into_place in
      let P : Nodes V → Type 0 = λ x. HasMoments slot_names (moment slot_names (Marked (Deferred t (Some node.name))) x.collector ∷ past) x.collector in
      let Q : Nodes V → Type 0 = λ x. IsSafe same always x ms in
      subst Q (sym at) (record {
        sound = record {
          top = owes.safe.sound.top;
          past = moment slot_names (Marked (Deferred t (Some node.name))) next ∷ past;
          sound = handed slot_names view slot_view id_number same always cells calls owes.safe.sound.top past c ms owes.safe.sound.sound node.name owes.marked owes.was t next
              (subst P at (told past owes.safe.sound.sound.tells)) (cells.deferred_orderly c who work inside owes.room owes.safe.sound.sound.orderly).orderly refl refl ticket refl owes.fresh guards;
        };
        within = owes.safe.within;
      })

  -- the deferral is refused for no fault
  pub never_refused : (f : Fault) → MatchOption (destroy_fault c who node.name) ((f ≡ Memory) × (length (place c who).bag ≡ 64) × (c.room ≡ 0)) (λ x. f ≡ x) → ⊥
  never_refused f m =
      let P : Option Fault → Type 0 = λ o. MatchOption o ((f ≡ Memory) × (length (place c who).bag ≡ 64) × (c.room ≡ 0)) (λ x. f ≡ x) in
      let full : length (place c who).bag ≡ 64 = (subst P no_fault m).1 in
      let r : length (place c who).bag < 64 = owes.room in
      omega (arith, full, r)
