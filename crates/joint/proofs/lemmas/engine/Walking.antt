-- A step of a call on the tree leaves the machine intact; its worker stands between calls after the last one.
use Rattle.std.proofs.Common.{◌≡◌, ◌≢◌, ◌<◌, ◌++◌, [], ◌∷◌, ℕ, Bool, true, false, List, refl, sym, ◌∙◌, ap, subst, inl, inr}
use Rattle.std.proofs.Math.ListN.{set}
use Rattle.std.specs.Prelude.{Option, None, Some, length, not, slice_get, slice_set, if◌then◌else◌}
use Rattle.std.proofs.lemmas.List.{length-set, get_or-set_other, get_or-set_same}
use Rattle.crossbeam_epoch.specs.declared.bag.Work.TheVariants.{Remove}
use Rattle.crossbeam_epoch.specs.declared.world.participant.Participant.{Participant}
use Rattle.crossbeam_epoch.specs.declared.world.participant.Phase.TheVariants as collector_phase
use Rattle.crossbeam_epoch.specs.world.Machine.{State, blank, place, with_store}
use Rattle.congee.specs.declared.protocol.run.Step.{Step}
use Rattle.congee.specs.declared.protocol.machine.Machine.{Machine}
use Rattle.congee.specs.declared.protocol.machine.Move.{Move}
use Rattle.congee.specs.declared.protocol.phase.Phase.{Phase}
use Rattle.congee.specs.declared.protocol.phase.Phase.TheVariants.{Ended}
use Rattle.congee.specs.protocol.Play.{IsMoved}
use Rattle.congee.specs.protocol.State.{is_done, is_over}
use Rattle.joint.specs.declared.engine.in_flight.InFlight.{InFlight}
use Rattle.joint.specs.declared.engine.in_flight.InFlight.TheVariants.{Idle, Walking}
use Rattle.joint.specs.declared.id.Id.{Id}
use Rattle.joint.specs.declared.nodes.slot.Slot.{Slot}
use Rattle.joint.specs.nodes.Nodes.{Nodes, nodes, Refuses}
use Rattle.joint.specs.engine.Intact.{IsAt, IsIntact, WalkedOn, cleared, cleared_at, over_at, rested, resting}
use Rattle.joint.specs.engine.Laws.{CallLaws}
use Rattle.joint.specs.engine.Safety.{IsSafe, Runs, retiring_at, after_walk, Walked}
use Rattle.joint.specs.engine.Sound.{IsUnderWay}
use Rattle.joint.specs.nodes.View.{id_number}
use Rattle.joint.proofs.lemmas.engine.Ending.{goes_on_after}
use Rattle.joint.proofs.lemmas.engine.Collecting.{get_inside, inside_machines}
use Rattle.joint.proofs.lemmas.engine.HandOver.{held_place}
use Rattle.joint.proofs.lemmas.engine.ScanEnds.{not_done, cleared_safe, cleared_is, now_between, told_final}
use Rattle.congee.proofs.Laws.{get_set, set_here}

-- a phase that is over is the last
pub over_ended : {V : Type 0} (x : Phase Id V) → is_over x ≡ true → x ≡ Ended
over_ended Ended e = refl
over_ended _ e = absurd (cc e)

not_over : {V : Type 0} (x : Phase Id V) → is_over x ≡ false → IsUnderWay x
not_over Ended e = absurd (cc e)
not_over _ e = tt

-- a worker whose call is on the tree is registered
pub registered : {V : Type 0} (same : V → V → Bool) (always : Bool) (s : Nodes V) (ms : List (Machine Id V)) (calls : List (InFlight V)) → IsIntact same always s ms calls → (who : ℕ) → slice_get calls who ≡ Some Walking → (place s.collector who).registered ≡ true
registered same always s ms calls intact who on =
    let x = get_inside ms who (inside_machines same always s ms calls intact who Walking on) in
    (intact.safe.sound.sound.guarded who x.0 x.1).registered (intact.each who Walking x.0 on x.1).0

-- a deferral leaves other places, and the phase of its own
module _ {T : Type 0} (c : State T (Unit {0})) (who : ℕ) where
  abbrev put : Id → Participant (Unit {0})
  put n = record (place c who) { bag = (place c who).bag ++ record { ticket = c.next; work = Remove n.name } ∷ [] }

  walk_table : (o : Option Id) → length (after_walk o c who).table ≡ length c.table
  walk_table None = refl
  walk_table (Some n) = length-set c.table who (put n)

  walk_others : (o : Option Id) (i : ℕ) → i ≢ who → place (after_walk o c who) i ≡ place c i
  walk_others None i ne = refl
  walk_others (Some n) i ne = get_or-set_other c.table who i (put n) blank ne

  walk_phase : (o : Option Id) → who < length c.table → (place (after_walk o c who) who).phase ≡ (place c who).phase
  walk_phase None l = refl
  walk_phase (Some n) l = ap (λ x. x.phase) (get_or-set_same c.table who (put n) blank l)

-- a call that has not ended is no scan that has told its end
rests : {V : Type 0} (m : Machine Id V) → is_over (rested m).phase ≡ false → is_done m.phase ≡ false
rests m = by (is_done m.phase) refl where
  by : (b : Bool) → is_done m.phase ≡ b → is_over (if b then resting else m).phase ≡ false → is_done m.phase ≡ false
  by true e o = absurd (cc o)
  by false e o = e

module _ {V : Type 0} (same : V → V → Bool) (always : Bool) (laws : CallLaws {C = Id} {V = V} id_number same always) (s : Nodes V) (ms : List (Machine Id V)) (calls : List (InFlight V)) (intact : IsIntact same always s ms calls) (step : Step Id V)
    (on : slice_get calls step.who ≡ Some Walking) where
  abbrev old : (x : Machine Id V) × (slice_get ms step.who ≡ Some x)
  old = get_inside ms step.who (inside_machines same always s ms calls intact step.who Walking on)

  -- the worker has a call on the tree under way
  abbrev pub runs : Runs ms step.who
  runs = (old.0, old.1, (intact.each step.who Walking old.0 on old.1).0)

  -- there are as many machines as before
  pub long_walk : (d : Move V) (s' : Nodes V) (ms' : List (Machine Id V)) → Walked same always s ms step d s' ms' → length ms' ≡ length ms
  long_walk d s' ms' walked = let moved = walked.plays.moved old.0 old.1 in ap length moved.calls ∙ length-set ms step.who moved.now

  module _ (d : Move V) (s' : Nodes V) (ms' : List (Machine Id V)) (on_walked : WalkedOn same always s ms step d s' ms') where
    abbrev walked : Walked same always s ms step d s' on_walked.between
    walked = on_walked.walked

    abbrev moved : IsMoved id_number same always s.version_max (Refuses s) (nodes s) ms old.0 step d (nodes s') on_walked.between
    moved = walked.plays.moved old.0 old.1

    abbrev final : Machine Id V
    final = rested moved.now

    -- the worker's machine is the one that took the step, or at rest after a scan that is done, and the others stay
    pub final_is : ms' ≡ set ms step.who final
    final_is = on_walked.machines ∙ cleared_is ms on_walked.between step.who old.0 moved.now old.1 moved.calls

    safe : IsSafe same always s' ms'
    safe =
        let P : List (Machine Id V) → Type 0 = λ xs. IsSafe same always s' xs in
        subst P (sym on_walked.machines) (cleared_safe same always s' on_walked.between step.who moved.now (now_between ms on_walked.between step.who old.0 moved.now old.1 moved.calls) walked.safe)

    abbrev mid : State (Slot V) (Unit {0})
    mid = with_store s.collector s'.collector.store

    abbrev owed : Option Id
    owed = retiring_at (slice_get ms step.who)

    long : length ms' ≡ length ms
    long = ap length final_is ∙ length-set ms step.who final

    table : length s'.collector.table ≡ length s.collector.table
    table = ap (λ c. length c.table) walked.collector_is ∙ walk_table mid step.who owed

    others : (i : ℕ) → i ≢ step.who → place s'.collector i ≡ place s.collector i
    others i ne = ap (λ c. place c i) walked.collector_is ∙ walk_others mid step.who owed i ne

    place_idle : (place s'.collector step.who).phase ≡ collector_phase.Idle
    place_idle =
        let l : step.who < length s.collector.table = held_place s.collector.table step.who ((intact.safe.sound.sound.guarded step.who old.0 old.1).registered runs.2) in
        ap (λ c. (place c step.who).phase) walked.collector_is ∙ walk_phase mid step.who owed l ∙ (intact.safe.sound.sound.guarded step.who old.0 old.1).idle runs.2

    -- that machine stands in the worker's place
    pub now_here : slice_get ms' step.who ≡ Some final
    now_here = ap (λ xs. slice_get xs step.who) final_is ∙ set_here ms step.who final old.0 old.1

    -- it has ended exactly where it reports so
    pub told : is_over final.phase ≡ not (goes_on_after d.outcome)
    told =
        let k : IsAt Walking (place s.collector step.who) old.0 = intact.each step.who Walking old.0 on old.1 in
        told_final same always s.version_max (Refuses s) old.0 moved.now (nodes s) (nodes s') step.noise.fail step.noise.answer d moved.step k.0 k.1

    -- the call on the tree has ended just where the step doesn't tell that it goes on
    pub over_now : over_at (slice_get ms' step.who) ≡ not (goes_on_after d.outcome)
    over_now = ap over_at now_here ∙ told

    abbrev next : InFlight V
    next = if over_at (slice_get ms' step.who) then Idle else Walking

    by_end : (b : Bool) → is_over final.phase ≡ b → IsAt (if b then Idle else Walking) (place s'.collector step.who) final
    by_end true e = (place_idle, over_ended final.phase e)
    by_end false e = (not_over final.phase e, not_done moved.now)

    at_now : IsAt next (place s'.collector step.who) final
    at_now =
        let P : Option (Machine Id V) → Type 0 = λ x. IsAt (if over_at x then Idle else Walking) (place s'.collector step.who) final in
        subst P (sym now_here) (by_end (is_over final.phase) refl)

    -- the machine is intact with the worker idle where its call on the tree has ended
    pub walked_on : IsIntact same always s' ms' (set calls step.who next)
    walked_on = record {
      safe = safe;
      machines = long ∙ intact.machines ∙ sym (length-set calls step.who next);
      table = table ∙ intact.table ∙ sym (length-set calls step.who next);
      few = rw (length-set calls step.who next) intact.few;
      filed = walked.filed intact.filed;
      each = λ i k m at here. elim (get_set calls step.who i next k at) [
        | inl e ↦ (
            let q : Some final ≡ Some m = sym now_here ∙ subst (λ (j : ℕ). slice_get ms' j ≡ Some m) e.0 here in
            let x : final ≡ m = cc in
            let P : InFlight V → Type 0 = λ y. IsAt y (place s'.collector i) m in
            let Q : ℕ → Type 0 = λ j. IsAt next (place s'.collector j) m in
            let R : Machine Id V → Type 0 = λ y. IsAt next (place s'.collector step.who) y in
            subst P e.1 (subst Q (sym e.0) (subst R x at_now)))
        | inr apart ↦ (
            let P : List (Machine Id V) → Type 0 = λ xs. slice_get xs i ≡ Some m in
            elim (laws.either ms step.who i final m (subst P final_is here)) [
              | inl e ↦ absurd (apart.0 e.0)
              | inr y ↦ subst (λ (p : Participant (Unit {0})). IsAt k p m) (sym (others i apart.0)) (intact.each i k m apart.1 y.1)
            ])
      ];
    }

  -- a call that goes on has nothing to clear
  pub uncleared : (d : Move V) (s' : Nodes V) (between : List (Machine Id V)) → Walked same always s ms step d s' between → goes_on_after d.outcome ≡ true → between ≡ cleared between step.who
  uncleared d s' between w g =
      let on_walked : WalkedOn same always s ms step d s' (cleared between step.who) = record { between = between; walked = w; machines = refl } in
      let now : Machine Id V = (moved d s' (cleared between step.who) on_walked).now in
      let quiet : is_done now.phase ≡ false = rests now (told d s' (cleared between step.who) on_walked ∙ ap not g) in
      let here : slice_get between step.who ≡ Some now = now_between ms between step.who old.0 now old.1 (moved d s' (cleared between step.who) on_walked).calls in
      sym (ap (λ o. cleared_at o between step.who) here ∙ ap (λ b. if b then slice_set between step.who resting else between) quiet)
