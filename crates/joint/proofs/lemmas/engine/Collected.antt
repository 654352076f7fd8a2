-- A step of the collector destroys no node that a call has, and leaves tree, calls and history sound.
use Rattle.std.proofs.Common.{◌≡◌, ◌≢◌, ◌<◌, arith, ℕ, Bool, true, false, List, ◌∷◌, sym, ◌∙◌, ap, subst, inl, inr, ◌⊎◌}
use Rattle.std.specs.Prelude.{Option, None, Some, is_some, slice_get}
use Rattle.std.specs.List.{Contains}
use Rattle.std.proofs.lemmas.Bool.{cases_eq}
use Rattle.std.proofs.lemmas.List.Elements.{All-weaker, All-contains_itself}
use Rattle.crossbeam_epoch.specs.declared.names.Name.{Name}
use Rattle.crossbeam_epoch.specs.declared.names.Ptr.{Ptr}
use Rattle.crossbeam_epoch.specs.declared.world.participant.Participant.{Participant}
use Rattle.crossbeam_epoch.specs.world.Machine.{State, place}
use Rattle.crossbeam_epoch.specs.world.History.{began, WasDeferred}
use Rattle.crossbeam_epoch.specs.world.Progress.{Moves, Empties, EmptiesAt}
use Rattle.crossbeam_epoch.specs.world.Reach.{Act, GivenBack, Moment, marks_of, InReach, IsIn, IsBy, WasIn, Visible, IsCareful, links_of, links_in, moment, HasMoments}
use Rattle.crossbeam_epoch.specs.world.Store.{Store, Sets, value_at, was_given, emptied}
use Rattle.congee.specs.declared.protocol.machine.Machine.{Machine}
use Rattle.congee.specs.declared.protocol.phase.Phase.TheVariants.{Ended}
use Rattle.congee.specs.Heap.{Node}
use Rattle.congee.specs.Notes.{Note}
use Rattle.congee.specs.protocol.Names.{names}
use Rattle.congee.specs.protocol.Answers.{SameMap}
use Rattle.congee.specs.protocol.Play.{Settled}
use Rattle.congee.specs.protocol.Destroys.{Lost, Destroys}
use Rattle.joint.specs.Names.{number, named}
use Rattle.joint.specs.nodes.Heap.{IsView, node_at, heap_of}
use Rattle.joint.specs.engine.Laws.{CellLaws, CallLaws}
use Rattle.joint.specs.engine.Sound.{Guards, Sound}
use Rattle.joint.proofs.lemmas.engine.NamesInStretch.{deferred_on, pinned_stretch, ended_guards, no_names}
use Rattle.joint.specs.NameLemmas.{number_named, same_name}
use Rattle.joint.proofs.lemmas.nodes.Views.{heap_of_number, stands_at}
use Rattle.joint.proofs.lemmas.engine.ReachMoments.{Reaches, was_in}
use Rattle.joint.proofs.lemmas.engine.InReach.{never}

-- what a name stands for after a step of the collector
abbrev pub Fate : {T : Type 0} → Option T → Option T → Type 0
Fate v v' = (v' ≡ v) ⊎ ((is_some v ≡ true) × (v' ≡ None))

is_none_false : {T : Type 0} (v : Option T) → v ≡ None → is_some v ≡ false
is_none_false v e = ap is_some e

module _ {T J C V : Type 0} (tnames : T → List Name) (view : Bool → Option T → Node V) (ok : IsView tnames view) (num : C → ℕ) (same : V → V → Bool) (always : Bool) (cells : CellLaws J tnames) (calls : CallLaws {C = C} num same always) (top : Name)
    (past : List Moment) (s : State T J) (ms : List (Machine C V)) (sound : Sound tnames view num same always top past s ms)
    (who : ℕ) (a : Act) (s' : State T J) (by : IsBy who a) (told : HasMoments tnames (moment tnames a s' ∷ past) s')
    (job : Option (ℕ × Option Name)) (moves : Moves s who job s')
    (rests : (m : Machine C V) → slice_get ms who ≡ Some m → m.phase ≡ Ended) where
  abbrev now : Moment
  now = moment tnames a s'

  -- the cell that went, if one did
  abbrev Went : Store T → Type 0
  Went st = (st ≡ s.store) ⊎ ((n : Name) × (is_some (value_at s.store n) ≡ true) × (st ≡ emptied s.store n.cell))

  went_at : (st : Store T) (o : Option Name) → EmptiesAt s.store o st → Went st
  went_at st None e = inl e
  went_at st (Some n) e = inr (n, e.0, e.1)

  went : (st : Store T) (c : Option (ℕ × Option Name)) → Empties s.store c st → Went st
  went st None e = inl e
  went st (Some c) e = went_at st c.1 e

  lost : Went s'.store
  lost = went s'.store job moves.cells

  fate : (n : Name) → Fate (value_at s.store n) (value_at s'.store n)
  fate n = elim lost [
    | inl e ↦ inl (ap (λ st. value_at st n) e)
    | inr x ↦ (let z : Sets s.store x.0 None (emptied s.store x.0.cell) = cells.emptied_sets s.store x.0 x.1 in elim (cases_eq (number n) (number x.0)) [
      | inl e ↦ (
          let q : n ≡ x.0 = same_name n x.0 e in
          let P : Name → Type 0 = λ y. Fate (value_at s.store y) (value_at s'.store y) in
          subst P (sym q) (inr (x.1, ap (λ st. value_at st x.0) x.2 ∙ z.value)))
      | inr ne ↦ inl (ap (λ st. value_at st n) x.2 ∙ z.others n (λ q. ne (ap number q)))
    ])
  ]

  given : (n : Name) → was_given s'.store n ≡ was_given s.store n
  given n = elim lost [
    | inl e ↦ ap (λ st. was_given st n) e
    | inr x ↦ (let z : Sets s.store x.0 None (emptied s.store x.0.cell) = cells.emptied_sets s.store x.0 x.1 in elim (cases_eq (number n) (number x.0)) [
      | inl e ↦ (
          let q : n ≡ x.0 = same_name n x.0 e in
          let P : Name → Type 0 = λ y. was_given s'.store y ≡ was_given s.store y in
          subst P (sym q) (ap (λ st. was_given st x.0) x.2 ∙ z.used ∙ sym (cells.live_given s.store x.0 x.1)))
      | inr ne ↦ ap (λ st. was_given st n) x.2 ∙ z.given n (λ q. ne (ap number q))
    ])
  ]

  none_held : (v : Option T) (n : Name) → v ≡ None → Contains (links_in tnames v) n → ⊥
  none_held v n e c =
      let P : Option T → Type 0 = λ y. Contains (links_in tnames y) n in
      let z : Contains (links_in tnames None) n = subst P e c in
      let bad : z.0 < 0 = z.1 in omega (arith, bad)

  links_before : (c n : Name) → Contains (links_of tnames s'.store c) n → Contains (links_of tnames s.store c) n
  links_before c n x = elim (fate c) [
    | inl e ↦ (let P : Option T → Type 0 = λ y. Contains (links_in tnames y) n in subst P e x)
    | inr gone ↦ absurd (none_held (value_at s'.store c) n gone.1 x)
  ]

  before : (n : Name) → IsIn now n → Reaches tnames s n
  before n i = let P : List Ptr → Type 0 = λ r. InReach r (links_of tnames s.store) n in subst P moves.roots (cells.fewer_reach s'.roots (links_of tnames s.store) (links_of tnames s'.store) n links_before i)

  abbrev notes : ℕ → Note
  notes = sound.settled.0

  no_gift : (n : Name) (x : Act) → IsBy who x → x ≡ GivenBack n → ⊥
  no_gift n x b e = let P : Act → Type 0 = λ y. IsBy who y in subst P e b

  -- with this step's moment the history still is as the collector's promise on reach asks
  pub careful : IsCareful (now ∷ past)
  careful = record {
    leaves = (λ t n d i. never tnames view ok num same always calls top past s ms sound t n (cells.deferred_before (marks_of past) who t n a by d) (before n i), sound.careful.leaves);
    enters = cells.enters_next now past s sound.tells.now (λ n i. inr (before n i)) sound.careful.enters;
    gives = (λ n e w. no_gift n a by e, sound.careful.gives);
  }

  gone_deferred : (n : Name) → is_some (value_at s.store n) ≡ true → value_at s'.store n ≡ None → (t : ℕ) × WasDeferred (marks_of past) t n
  gone_deferred n live gone =
      cells.called_one (marks_of past) who n a by (cells.ended_by now past s n sound.tells.now told.ends live (is_none_false (value_at s'.store n) gone)) told.fits.later

  not_who : (i : ℕ) (m : Machine C V) (k : ℕ) → slice_get ms i ≡ Some m → Contains (names num m.phase) k → i ≢ who
  not_who i m k at c e =
      let P : ℕ → Type 0 = λ j. slice_get ms j ≡ Some m in
      no_names num m k (rests m (subst P e at)) c

  seen_on : (i : ℕ) (n : Name) → i ≢ who → Visible past i n → Visible (now ∷ past) i n
  seen_on i n ne v = inr (cells.turns_apart who i a by ne, v)

  pinned_on : (i k : ℕ) (m : Machine C V) → slice_get ms i ≡ Some m → Contains (names num m.phase) k → is_some (began (marks_of (now ∷ past)) i) ≡ true
  pinned_on i k m at c =
      ap is_some (cells.began_same (marks_of past) i a (cells.turns_apart who i a by (not_who i m k at c)))
      ∙ pinned_stretch num (marks_of past) s i m k sound.tells.fits (sound.guarded i m at) c

  guarded_on : (i : ℕ) (m : Machine C V) → slice_get ms i ≡ Some m → Guards (place s' i) m
  guarded_on i m at = elim (cases_eq i who) [
    | inl e ↦ (let P : ℕ → Type 0 = λ j. slice_get ms j ≡ Some m in ended_guards (place s' i) m (moves.orderly.bags i) (rests m (subst P e at)))
    | inr ne ↦ (let P : Participant J → Type 0 = λ p. Guards p m in subst P (sym (moves.others i ne)) (sound.guarded i m at))
  ]

  -- the value under a name that a call has stands
  pub kept : (i : ℕ) (m : Machine C V) (n : Name) → slice_get ms i ≡ Some m → Contains (names num m.phase) (number n) → value_at s'.store n ≡ value_at s.store n
  kept i m n at c = elim (fate n) [
    | inl e ↦ e
    | inr gone ↦ absurd (elim (sound.seen i m n at c) [
      | inl made ↦ (let d : (t : ℕ) × WasDeferred (marks_of past) t n = gone_deferred n gone.0 gone.1 in sound.unseen i m n at made (sound.left d.0 n d.1))
      | inr v ↦ (
          let l : is_some (value_at s'.store n) ≡ true = cells.stands (now ∷ past) s' i n told careful (pinned_on i (number n) m at c) (seen_on i n (not_who i m (number n) at c) v) in
          let f : is_some (value_at s'.store n) ≡ false = is_none_false (value_at s'.store n) gone.1 in
          cc)
    ])
  ]

  as_it_was : (n : Name) → value_at s'.store n ≡ value_at s.store n → node_at view s'.store n ≡ node_at view s.store n
  as_it_was n e = ap (λ g. view g (value_at s'.store n)) (given n) ∙ ap (λ v. view (was_given s.store n) v) e

  lost_node : (n : Name) → is_some (value_at s.store n) ≡ true → value_at s'.store n ≡ None → Lost (node_at view s.store n) (node_at view s'.store n)
  lost_node n live gone =
      let d : (t : ℕ) × WasDeferred (marks_of past) t n = gone_deferred n live gone in
      let r : (heap_of view s.store (number n)).retired ≡ true = sound.deferred d.0 n d.1 live in
      let g : was_given s.store n ≡ true = sound.tells.given n (cells.was_live past s n sound.tells.now live) in
      let q : node_at view s'.store n ≡ view true None = ap (λ b. view b (value_at s'.store n)) (given n ∙ g) ∙ ap (λ v. view true v) gone in
      record {
        handed = ap (λ x. x.retired) (sym (heap_of_number tnames view ok s.store n)) ∙ r;
        stood = (stands_at tnames view ok (was_given s.store n) (value_at s.store n) live).kept;
        destroyed = ap (λ x. x.destroyed) q ∙ ok.lost;
        made = ap (λ x. x.made) q ∙ ok.used;
      }

  -- nodes go that had been handed over and that no call names, and each other one is as it was
  pub destroys : Destroys num (heap_of view s.store) ms (heap_of view s'.store)
  destroys = record {
    each = λ k. elim (fate (named k)) [
      | inl e ↦ inl (as_it_was (named k) e)
      | inr gone ↦ inr (lost_node (named k) gone.0 gone.1)
    ];
    named = λ i m at. All-weaker (Contains (names num m.phase)) (λ k. heap_of view s'.store k ≡ heap_of view s.store k) (λ k c.
        let P : ℕ → Type 0 = λ x. Contains (names num m.phase) x in
        as_it_was (named k) (kept i m (named k) at (subst P (sym (number_named k)) c))) (names num m.phase) (All-contains_itself (names num m.phase));
  }

  -- the calls know and hold the nodes as before, and the map is the same
  pub spares_all : Settled num same always (heap_of view s'.store) ms × SameMap (heap_of view s.store) (heap_of view s'.store)
  spares_all = calls.spares (heap_of view s.store) ms notes (heap_of view s'.store) sound.settled.1 sound.settled.2 destroys

  was_before : (n : Name) → WasIn (now ∷ past) n → WasIn past n
  was_before n w = elim w [ inl i ↦ was_in cells s past sound.tells.now n (before n i) | inr x ↦ x ]

  still_retired : (t : ℕ) (n : Name) → WasDeferred (marks_of past) t n → is_some (value_at s'.store n) ≡ true → (heap_of view s'.store (number n)).retired ≡ true
  still_retired t n d live = elim (fate n) [
    | inl e ↦ ap (λ x. x.retired) (heap_of_number tnames view ok s'.store n ∙ as_it_was n e ∙ sym (heap_of_number tnames view ok s.store n)) ∙ sound.deferred t n d (ap is_some (sym e) ∙ live)
    | inr gone ↦ absurd (let f : is_some (value_at s'.store n) ≡ false = is_none_false (value_at s'.store n) gone.1 in cc)
  ]

  -- tree, calls and history are sound after the step
  pub collected : Sound tnames view num same always top (now ∷ past) s' ms
  collected = record {
    orderly = moves.orderly;
    rooted = record { only = moves.roots ∙ sound.rooted.only; first = sound.rooted.first };
    settled = spares_all.0;
    tells = told;
    careful = careful;
    deferred = λ t n d live. still_retired t n (cells.deferred_before (marks_of past) who t n a by d) live;
    left = λ t n d. inr (sound.left t n (cells.deferred_before (marks_of past) who t n a by d));
    named = λ t l. (let d : (n : Name) × WasDeferred (marks_of past) t n = sound.named t (subst (λ (k : ℕ). t < k) moves.next l) in (d.0, deferred_on a (marks_of past) t d.0 d.1));
    once = λ t u n d e. sound.once t u n (cells.deferred_before (marks_of past) who t n a by d) (cells.deferred_before (marks_of past) who u n a by e);
    unseen = λ i m n at made w. sound.unseen i m n at made (was_before n w);
    seen = λ i m n at c. elim (sound.seen i m n at c) [ inl made ↦ inl made | inr v ↦ inr (seen_on i n (not_who i m (number n) at c) v) ];
    guarded = guarded_on;
  }
