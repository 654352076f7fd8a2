-- A call on the tree begins in the place of a worker without a call in flight, who is pinned and has secured its places.
use Rattle.std.proofs.Common.{◌≡◌, ◌+◌, ◌<◌, ◌≤◌, ℕ, arith, Bool, true, false, List, [], refl, sym, ◌∙◌, ap, subst, inl, inr}
use Rattle.std.proofs.Math.ListN.{set}
use Rattle.std.specs.Prelude.{Some, is_some, length, slice_get}
use Rattle.std.proofs.lemmas.List.{length-set}
use Rattle.std.proofs.lemmas.Option.{slice_get_within}
use Rattle.crossbeam_epoch.specs.declared.world.participant.Phase.TheVariants as collector_phase
use Rattle.crossbeam_epoch.specs.world.Machine.{place}
use Rattle.congee.specs.declared.protocol.machine.Machine.{Machine}
use Rattle.congee.specs.declared.protocol.op.Op.{Op}
use Rattle.congee.specs.declared.protocol.op.Op.TheVariants.{Get, Insert, Remove, ComputePresent, ComputeInsert, Exchange, Range, RangeInclusive}
use Rattle.congee.specs.declared.protocol.phase.Kind.{Kind}
use Rattle.congee.specs.declared.protocol.phase.Phase.{Phase}
use Rattle.congee.specs.declared.protocol.phase.Phase.TheVariants.{New, Ended}
use Rattle.congee.specs.protocol.Holdings.{MadeBy}
use Rattle.congee.specs.protocol.Names.{names}
use Rattle.congee.specs.protocol.Play.{begun, first_phase, parts, IsNew}
use Rattle.congee.specs.protocol.State.{is_done}
use Rattle.joint.specs.declared.engine.in_flight.InFlight.{InFlight}
use Rattle.joint.specs.declared.engine.in_flight.InFlight.TheVariants.{Idle, Walking}
use Rattle.joint.specs.declared.id.Id.{Id}
use Rattle.joint.specs.nodes.Nodes.{Nodes}
use Rattle.joint.specs.nodes.Heap.{heap_of}
use Rattle.joint.specs.engine.Intact.{IsAt, IsIntact, MayStart, writes}
use Rattle.joint.specs.Names.{root}
use Rattle.joint.specs.engine.Laws.{CallLaws}
use Rattle.joint.specs.nodes.Slots.{slot_names}
use Rattle.joint.specs.engine.Sound.{IsUnderWay, IsSecured, Guards, most_left}
use Rattle.joint.specs.nodes.View.{view, id_number}
use Rattle.joint.proofs.lemmas.engine.SoundBegins as begin
use Rattle.joint.proofs.lemmas.engine.Collecting.{get_inside, inside_machines}
use Rattle.congee.proofs.Laws.{get_set}

-- a call that has not begun has no names, has made nothing, is under way, and needs places only if it writes
pub record Begins {V : Type 0} (kind : Kind V) (phase : Phase Id V) : Type 0 where
  pub names_none : names id_number phase ≡ []
  pub no_made : (k : ℕ) → MadeBy id_number phase k → ⊥
  pub under_way : IsUnderWay phase
  pub not_done : is_done phase ≡ false
  pub secured : (jobs : ℕ) → IsSecured {C = Id} kind New jobs → IsSecured kind phase jobs

first : {V : Type 0} (op : Op V) → Begins (parts op).1 (first_phase root op)
first (Range start end size) = record { names_none = refl; no_made = λ k x. x; under_way = tt; not_done = refl; secured = λ jobs x. x }
first (RangeInclusive start last size) = record { names_none = refl; no_made = λ k x. x; under_way = tt; not_done = refl; secured = λ jobs x. x }
first (Get k) = record { names_none = refl; no_made = λ k x. x; under_way = tt; not_done = refl; secured = λ jobs x. x }
first (Insert k v) = record { names_none = refl; no_made = λ k x. x; under_way = tt; not_done = refl; secured = λ jobs x. x }
first (Remove k) = record { names_none = refl; no_made = λ k x. x; under_way = tt; not_done = refl; secured = λ jobs x. x }
first (ComputePresent k) = record { names_none = refl; no_made = λ k x. x; under_way = tt; not_done = refl; secured = λ jobs x. x }
first (ComputeInsert k) = record { names_none = refl; no_made = λ k x. x; under_way = tt; not_done = refl; secured = λ jobs x. x }
first (Exchange k old new) = record { names_none = refl; no_made = λ k x. x; under_way = tt; not_done = refl; secured = λ jobs x. x }

module _ {V : Type 0} (same : V → V → Bool) (always : Bool) (laws : CallLaws {C = Id} {V = V} id_number same always) (s : Nodes V) (ms : List (Machine Id V)) (calls : List (InFlight V)) (intact : IsIntact same always s ms calls) (who : ℕ)
    (idle : slice_get calls who ≡ Some Idle) (op : Op V) (may : MayStart s.collector who op) (m : Machine Id V) (is : m ≡ begun root op) (new : IsNew m) where
  old : (x : Machine Id V) × (slice_get ms who ≡ Some x)
  old = get_inside ms who (subst (λ (k : ℕ). who < k) (sym intact.machines) (slice_get_within calls who Idle idle))

  begins : Begins m.kind m.phase
  begins = let P : Machine Id V → Type 0 = λ x. Begins x.kind x.phase in subst P (sym is) (first op)

  at_idle : ((place s.collector who).phase ≡ collector_phase.Idle) × (old.0.phase ≡ Ended)
  at_idle = intact.each who Idle old.0 idle old.1

  guards : Guards (place s.collector who) m
  guards =
      let P : Machine Id V → Type 0 = λ x. IsSecured {C = Id} x.kind New (length (place s.collector who).bag) in
      record {
        registered = λ _. may.registered;
        pinned = λ _. may.pinned;
        idle = λ _. at_idle.0;
        secured = begins.secured (length (place s.collector who).bag) (subst P (sym is) may.room);
      }

  -- the machine is intact with the call on the tree begun
  pub started : IsIntact same always s (set ms who m) (set calls who Walking)
  started = record {
    safe = record {
      sound = record {
        top = intact.safe.sound.top;
        past = intact.safe.sound.past;
        sound = begin.begun slot_names view id_number same always laws.either intact.safe.sound.top intact.safe.sound.past s.collector ms intact.safe.sound.sound who m
            (laws.begins (heap_of view s.collector.store) ms who old.0 m intact.safe.sound.sound.settled old.1 at_idle.1 new (ap (λ x. id_number x.root) is)) begins.names_none begins.no_made guards;
      };
      within = intact.safe.within;
    };
    machines = length-set ms who m ∙ intact.machines ∙ sym (length-set calls who Walking);
    table = intact.table ∙ sym (length-set calls who Walking);
    few = rw (length-set calls who Walking) intact.few;
    filed = intact.filed;
    each = λ i k x at here. elim (get_set calls who i Walking k at) [
      | inl e ↦ (
          let P : InFlight V → Type 0 = λ y. IsAt y (place s.collector i) x in
          subst P e.1 (elim (laws.either ms who i m x here) [
            | inl q ↦ (let Q : Machine Id V → Type 0 = λ y. IsUnderWay y.phase × (is_done y.phase ≡ false) in subst Q q.1 (begins.under_way, begins.not_done))
            | inr apart ↦ absurd (apart.0 e.0)
          ]))
      | inr apart ↦ elim (laws.either ms who i m x here) [
        | inl q ↦ absurd (apart.0 q.0)
        | inr y ↦ intact.each i k x apart.1 y.1
      ]
    ];
  }

-- a reading call hands nothing over
room_for : {V : Type 0} (op : Op V) (jobs : ℕ) → writes op ≡ false → jobs ≤ 64 → IsSecured {C = Id} (parts op).1 New jobs
room_for (Get k) jobs e l = let x : jobs + 0 ≤ 64 = omega (arith, l) in x
room_for (Range start end size) jobs e l = let x : jobs + 0 ≤ 64 = omega (arith, l) in x
room_for (RangeInclusive start last size) jobs e l = let x : jobs + 0 ≤ 64 = omega (arith, l) in x
room_for (Insert k v) jobs e l = absurd (cc e)
room_for (Remove k) jobs e l = absurd (cc e)
room_for (ComputePresent k) jobs e l = absurd (cc e)
room_for (ComputeInsert k) jobs e l = absurd (cc e)
room_for (Exchange k old new) jobs e l = absurd (cc e)

-- so a pinned worker may begin one at once
pub reader_may : {V : Type 0} (same : V → V → Bool) (always : Bool) (s : Nodes V) (ms : List (Machine Id V)) (calls : List (InFlight V)) → IsIntact same always s ms calls → (who : ℕ) → slice_get calls who ≡ Some Idle → (op : Op V) → (place s.collector who).registered ≡ true
    → is_some (place s.collector who).word ≡ true → writes op ≡ false → MayStart s.collector who op
reader_may same always s ms calls intact who idle op registered pinned reads =
    let m = get_inside ms who (inside_machines same always s ms calls intact who Idle idle) in
    let secured : length (place s.collector who).bag + most_left m.0.kind m.0.phase ≤ 64 = (intact.safe.sound.sound.guarded who m.0 m.1).secured in
    let few : length (place s.collector who).bag ≤ 64 = omega (arith, secured) in
    record { registered = registered; pinned = pinned; room = room_for op (length (place s.collector who).bag) reads few }
