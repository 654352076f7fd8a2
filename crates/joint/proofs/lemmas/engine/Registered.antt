-- Where a worker takes a place, the machine stays intact.
use Rattle.std.proofs.Common.{◌≡◌, ◌<◌, ℕ, Bool, true, false, List, ◌∷◌, refl, sym, ◌∙◌, ap, subst, inl, inr}
use Rattle.std.specs.Prelude.{Some, length, slice_get}
use Rattle.std.proofs.lemmas.Bool.{cases_eq}
use Rattle.std.proofs.lemmas.List.{length-set, get_or-set_same, get_or-set_other}
use Rattle.crossbeam_epoch.specs.declared.names.Name.{Name}
use Rattle.crossbeam_epoch.specs.declared.world.participant.Participant.{Participant}
use Rattle.crossbeam_epoch.specs.world.Machine.{State, blank, place, registered}
use Rattle.crossbeam_epoch.specs.world.Reach.{Act, Quiet, Marked, GivenBack, Moment, moment, HasMoments}
use Rattle.congee.specs.declared.protocol.machine.Machine.{Machine}
use Rattle.joint.specs.declared.engine.in_flight.InFlight.{InFlight}
use Rattle.joint.specs.declared.engine.in_flight.InFlight.TheVariants.{Idle, Collecting, Reserving, Securing, Walking}
use Rattle.joint.specs.declared.id.Id.{Id}
use Rattle.joint.specs.declared.nodes.slot.Slot.{Slot}
use Rattle.joint.specs.nodes.Nodes.{Nodes, with_collector}
use Rattle.joint.specs.engine.Intact.{IsAt, IsIntact}
use Rattle.joint.specs.engine.Laws.{CellLaws, CallLaws}
use Rattle.joint.specs.nodes.Slots.{slot_names}
use Rattle.joint.specs.engine.Sound.{Guards, Sound}
use Rattle.joint.specs.nodes.View.{view, id_number}
use Rattle.joint.proofs.lemmas.engine.Filing.{filed_registered}
use Rattle.joint.proofs.lemmas.engine.ReachMoments.{was_in}
use Rattle.joint.proofs.lemmas.engine.InReach.{never}
use Rattle.joint.proofs.lemmas.nodes.SlotViews.{slot_view}

abbrev is_gift : Act → Type 0
is_gift Quiet = ⊥
is_gift (Marked k) = ⊥
is_gift (GivenBack n) = Unit {0}

module _ {V : Type 0} (same : V → V → Bool) (always : Bool) (cells : CellLaws {T = Slot V} (Unit {0}) slot_names) (calls : CallLaws {C = Id} {V = V} id_number same always)
    (s : Nodes V) (ms : List (Machine Id V)) (ks : List (InFlight V)) (intact : IsIntact same always s ms ks) (n : ℕ) (inside : n < length s.collector.table) (free : (place s.collector n).registered ≡ false)
    (told : (h : List Moment) → HasMoments slot_names h s.collector → HasMoments slot_names (moment slot_names Quiet (registered s.collector n) ∷ h) (registered s.collector n)) where
  abbrev c : State (Slot V) (Unit {0})
  c = s.collector

  abbrev c' : State (Slot V) (Unit {0})
  c' = registered c n

  abbrev past : List Moment
  past = intact.safe.sound.past

  abbrev sound : Sound slot_names view id_number same always intact.safe.sound.top past c ms
  sound = intact.safe.sound.sound

  abbrev now : Moment
  now = moment slot_names Quiet c'

  abbrev put : Participant (Unit {0})
  put = record (place c n) { registered = true; pins = 0 }

  here : place c' n ≡ put
  here = get_or-set_same c.table n put blank inside

  apart : (i : ℕ) → (i ≡ n → ⊥) → place c' i ≡ place c i
  apart i ne = get_or-set_other c.table n i put blank ne

  no_gift : (x : Name) → Quiet ≡ GivenBack x → ⊥
  no_gift x e = subst is_gift (sym e) tt

  guards : (i : ℕ) (m : Machine Id V) → slice_get ms i ≡ Some m → Guards (place c' i) m
  guards i m at = elim (cases_eq i n) [
    | inl e ↦ (
        let g : Guards (place c n) m = subst (λ (j : ℕ). Guards (place c j) m) e (sound.guarded i m at) in
        let q : place c' i ≡ put = ap (place c') e ∙ here in
        subst (λ (p : Participant (Unit {0})). Guards p m) (sym q) (record { registered = λ _. refl; pinned = g.pinned; idle = g.idle; secured = g.secured }))
    | inr ne ↦ subst (λ (p : Participant (Unit {0})). Guards p m) (sym (apart i ne)) (sound.guarded i m at)
  ]

  still_sound : Sound slot_names view id_number same always intact.safe.sound.top (now ∷ past) c' ms
  still_sound = record {
    orderly = cells.registered_orderly c n inside sound.orderly;
    rooted = sound.rooted;
    settled = sound.settled;
    tells = told past sound.tells;
    careful = record {
      leaves = (λ t x d i. never slot_names view slot_view id_number same always calls intact.safe.sound.top past c ms sound t x d i, sound.careful.leaves);
      enters = cells.enters_next now past c sound.tells.now (λ x i. inr i) sound.careful.enters;
      gives = (λ x e w. no_gift x e, sound.careful.gives);
    };
    deferred = sound.deferred;
    left = λ t x d. inr (sound.left t x d);
    named = sound.named;
    once = sound.once;
    unseen = λ i m x at made w. elim w [
      | inl r ↦ sound.unseen i m x at made (was_in cells c past sound.tells.now x r)
      | inr old ↦ sound.unseen i m x at made old
    ];
    seen = λ i m x at k. elim (sound.seen i m x at k) [ inl made ↦ inl made | inr v ↦ inr (inr (refl, v)) ];
    guarded = guards;
  }

  at_here : (k : InFlight V) (m : Machine Id V) → IsAt k (place c n) m → IsAt k put m
  at_here Idle m x = x
  at_here (Collecting op) m x = absurd (let z : (place c n).registered ≡ true = x.0.0 in cc)
  at_here (Reserving op) m x = absurd (let z : (place c n).registered ≡ true = x.0 in cc)
  at_here (Securing op) m x = absurd (let z : (place c n).registered ≡ true = x.0.0 in cc)
  at_here Walking m x = x

  -- the machine is intact with the worker registered
  pub taken : IsIntact same always (with_collector s c') ms ks
  taken = record {
    safe = record { sound = record { top = intact.safe.sound.top; past = now ∷ past; sound = still_sound }; within = intact.safe.within };
    machines = intact.machines;
    table = length-set c.table n put ∙ intact.table;
    few = intact.few;
    filed = filed_registered cells s n inside sound.orderly intact.filed;
    each = λ i k m at got. elim (cases_eq i n) [
      | inl e ↦ (
          let x : IsAt k (place c n) m = subst (λ (j : ℕ). IsAt k (place c j) m) e (intact.each i k m at got) in
          subst (λ (p : Participant (Unit {0})). IsAt k p m) (sym (ap (place c') e ∙ here)) (at_here k m x))
      | inr ne ↦ subst (λ (p : Participant (Unit {0})). IsAt k p m) (sym (apart i ne)) (intact.each i k m at got)
    ];
  }

-- whatever state is left so is intact
pub taken_at : {V : Type 0} (same : V → V → Bool) (always : Bool) → CellLaws {T = Slot V} (Unit {0}) slot_names → CallLaws {C = Id} {V = V} id_number same always → (s s' : Nodes V) (ms : List (Machine Id V)) (ks : List (InFlight V)) → IsIntact same always s ms ks → (n : ℕ)
    → n < length s.collector.table → (place s.collector n).registered ≡ false → s' ≡ with_collector s (registered s.collector n)
    → ((h : List Moment) → HasMoments slot_names h s.collector → HasMoments slot_names (moment slot_names Quiet s'.collector ∷ h) s'.collector) → IsIntact same always s' ms ks
taken_at {V} same always cells calls s s' ms ks intact n inside free e told =
    let P : Nodes V → Type 0 = λ x. IsIntact same always x ms ks in
    subst P (sym e) (taken same always cells calls s ms ks intact n inside free (λ h t. let Q : Nodes V → Type 0 = λ x. HasMoments slot_names (moment slot_names Quiet x.collector ∷ h) x.collector in subst Q e (told h t)))
