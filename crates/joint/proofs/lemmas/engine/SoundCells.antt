-- A step of a call leaves tree, calls and history sound, where it changes nothing of the collector but the cells.
use Rattle.std.proofs.Common.{◌≡◌, ℕ, Bool, true, false, List, [], ◌∷◌, refl, sym, ◌∙◌, ap, subst, inl, inr, ◌⊎◌}
use Rattle.std.proofs.Math.ListN.{set}
use Rattle.std.specs.Prelude.{Option, None, Some, is_some, slice_get}
use Rattle.std.specs.List.{Contains, All}
use Rattle.std.proofs.lemmas.List.Elements.{All-contains}
use Rattle.crossbeam_epoch.specs.declared.names.Name.{Name}
use Rattle.crossbeam_epoch.specs.world.Machine.{State, place, with_store}
use Rattle.crossbeam_epoch.specs.world.History.{Mark, began, WasDeferred}
use Rattle.crossbeam_epoch.specs.world.Store.{Store, value_at, was_given}
use Rattle.crossbeam_epoch.specs.world.Progress.{Orderly}
use Rattle.crossbeam_epoch.specs.world.Fits.{Fits}
use Rattle.crossbeam_epoch.specs.world.Reach.{Act, Quiet, Marked, GivenBack, Moment, marks_of, IsIn, WasIn, Visible, IsCareful, moment, HasMoments}
use Rattle.congee.specs.declared.protocol.machine.Machine.{Machine}
use Rattle.congee.specs.declared.protocol.machine.Move.{Move}
use Rattle.congee.specs.Heap.{Node, Below, Stands}
use Rattle.congee.specs.protocol.Handing.{InTree, Untouched, is_handed_over}
use Rattle.congee.specs.Notes.{Status, Note, Linked, Gone, Held, Unmade, Back, Destroyed, is_published, LockWords}
use Rattle.congee.specs.protocol.Holdings.{MadeBy}
use Rattle.congee.specs.protocol.Names.{names, Comes, Had, Top, New_made, Hangs}
use Rattle.congee.specs.protocol.Answers.{Keeps}
use Rattle.congee.specs.protocol.Play.{EachKnown, Settled}
use Rattle.congee.specs.protocol.Leaving.{StepLeaves}
use Rattle.joint.specs.Names.{number}
use Rattle.joint.specs.nodes.Heap.{IsView, heap_of}
use Rattle.joint.specs.nodes.Ties.{Ties}
use Rattle.joint.specs.engine.Laws.{CellLaws, CallLaws}
use Rattle.joint.specs.engine.Sound.{Guards, Sound}
use Rattle.joint.proofs.lemmas.nodes.Views.{heap_ties, heap_of_number}
use Rattle.joint.proofs.lemmas.nodes.Paths.{in_tree, in_reach}
use Rattle.joint.proofs.lemmas.engine.ReachMoments.{Reaches, was_in, entered_live}
use Rattle.joint.proofs.lemmas.engine.GivenBack.{backs, same_marks, still_in, still_seen, newest_in, careful_backs, ends_next, ends_backs, lived_first, lived_apart, given_backs}
use Rattle.joint.proofs.lemmas.engine.InReach.{never}

-- what was handed over and stands waits
pub retired_waits : {V : Type 0} (n : Node V) → n.retired ≡ true → Stands n → is_handed_over n ≡ true
retired_waits n r s = let m : n.made ≡ true = s.made in let k : n.destroyed ≡ false = s.kept in rw (r, m, k) refl

by_status : (x : Status) → is_published x ≡ true → (x ≡ Linked) ⊎ (x ≡ Gone)
by_status Unmade p = absurd (cc p)
by_status (Held j) p = absurd (cc p)
by_status Linked p = inl refl
by_status Gone p = inr refl
by_status Back p = absurd (cc p)
by_status Destroyed p = absurd (cc p)

by_stands : {V : Type 0} (n : Node V) (P : Type 0) → (n.made ≡ true) → (Stands n → P) → (n.destroyed ≡ true → P) → P
by_stands n P m f g = on n.destroyed refl
  where
    on : (b : Bool) → n.destroyed ≡ b → P
    on true e = g e
    on false e = f (record { made = m; kept = e })

module _ {T J C V : Type 0} (tnames : T → List Name) (view : Bool → Option T → Node V) (ok : IsView tnames view) (num : C → ℕ) (same : V → V → Bool) (always : Bool) (cells : CellLaws J tnames) (calls : CallLaws {C = C} num same always) (top : Name)
    (past : List Moment) (s : State T J) (ms : List (Machine C V)) (sound : Sound tnames view num same always top past s ms)
    (i : ℕ) (m m' : Machine C V) (at : slice_get ms i ≡ Some m) (d : Move V) (st' : Store T)
    (guards : Guards (place s i) m') (pin : is_some (began (marks_of past) i) ≡ true)
    (keeps : Keeps num same always i sound.settled.0 m (heap_of view s.store) m' (heap_of view st') d)
    (origin : All (Comes (num m.root) (names num m.phase) (heap_of view s.store) (heap_of view st')) (names num m'.phase))
    (settled : Settled num same always (heap_of view st') (set ms i m'))
    (untouched : Untouched (heap_of view s.store) (heap_of view st'))
    (more : StepLeaves num i sound.settled.0 keeps.notes (heap_of view s.store) (heap_of view st') m m')
    (back : List Name) (goes : (n : Name) → is_some (value_at s.store n) ≡ true → (is_some (value_at st' n) ≡ true) ⊎ Contains back n)
    (own : (n : Name) → Contains back n → MadeBy num m.phase (number n)) where
  abbrev s' : State T J
  s' = with_store s st'

  abbrev now : Moment
  now = moment tnames Quiet s'

  abbrev past' : List Moment
  past' = backs tnames s past back

  abbrev h : ℕ → Node V
  h = heap_of view s.store

  abbrev h' : ℕ → Node V
  h' = heap_of view st'

  abbrev notes : ℕ → Note
  notes = sound.settled.0

  tied : Ties tnames s.store h
  tied = heap_ties tnames view ok s.store

  tied' : Ties tnames st' h'
  tied' = heap_ties tnames view ok st'

  -- paths and the tree, before and after
  linked_reach : (n : Name) → (notes (number n)).status ≡ Linked → Reaches tnames s n
  linked_reach n l = in_reach tnames s.store h s.roots top tied sound.rooted n (calls.linked notes h (number n) sound.settled.1.tree l)

  linked_now : (n : Name) → (keeps.notes (number n)).status ≡ Linked → IsIn now n
  linked_now n l = in_reach tnames st' h' s.roots top tied' sound.rooted n (calls.linked keeps.notes h' (number n) keeps.effect.tree l)

  now_linked : (n : Name) → IsIn now n → (keeps.notes (number n)).status ≡ Linked
  now_linked n r =
      let p : InTree h' (number n) = in_tree tnames st' h' s.roots top tied' sound.rooted r in
      calls.leads keeps.notes h' keeps.effect.tree p.0 0 (number n) keeps.effect.tree.root p.1

  linked_stands : (a : ℕ → Note) (g : ℕ → Node V) (n : ℕ) → LockWords a g → (a n).status ≡ Linked → Stands (g n)
  linked_stands a g n w l = (w.each n).stands (rw l refl)

  now_live : (n : Name) → IsIn now n → is_some (value_at st' n) ≡ true
  now_live n r = tied'.live n (linked_stands keeps.notes h' (number n) keeps.effect.words (now_linked n r))

  -- what was in reach was given
  was_made : (n : Name) → WasIn past n → (h (number n)).made ≡ true
  was_made n w = tied.given n (sound.tells.given n (entered_live past sound.careful.enters n w))

  -- a node that was handed over is so still
  deferred_still : (t : ℕ) (n : Name) → WasDeferred (marks_of past) t n → is_some (value_at st' n) ≡ true → (h' (number n)).retired ≡ true
  deferred_still t n w l =
      let made : (h (number n)).made ≡ true = was_made n (sound.left t n w) in
      let f : (h' (number n)).destroyed ≡ false = (tied'.stands n l).kept in
      by_stands (h (number n)) ((h' (number n)).retired ≡ true) made
      (λ st. let r : (h (number n)).retired ≡ true = sound.deferred t n w (tied.live n st) in ap (λ x. x.retired) (untouched (number n) (retired_waits (h (number n)) r st)) ∙ r)
      (λ gone. absurd (let g : (h' (number n)).destroyed ≡ true = ap (λ x. x.destroyed) (more.dead (number n) made gone) ∙ gone in cc))

  never_now : (t : ℕ) (n : Name) → WasDeferred (marks_of past) t n → IsIn now n → ⊥
  never_now t n w r =
      let u : (h' (number n)).retired ≡ false = (keeps.effect.words.each (number n)).unretired (now_linked n r) in
      let y : (h' (number n)).retired ≡ true = deferred_still t n w (now_live n r) in
      cc

  unseen_back : (n : Name) → Contains back n → WasIn past n → ⊥
  unseen_back n c w = sound.unseen i m n at (own n c) w

  careful' : IsCareful past'
  careful' = careful_backs tnames s cells past sound.tells.now sound.careful back unseen_back (never tnames view ok num same always calls top past s ms sound)

  abbrev gift_of : Act → Type 0
  gift_of Quiet = ⊥
  gift_of (Marked k) = Unit {0}
  gift_of (GivenBack n) = Unit {0}

  no_gift : (n : Name) → Quiet ≡ GivenBack n → ⊥
  no_gift n e = subst gift_of (sym e) tt

  -- with this step's moment the history still is as the collector's promise on reach asks
  pub careful : IsCareful (now ∷ past')
  careful = record {
    leaves = (λ t n w r. never_now t n (let P : List Mark → Type 0 = λ x. WasDeferred x t n in subst P (same_marks tnames s past back) w) r, careful'.leaves);
    enters = newest_in tnames s cells past sound.tells.now back now (λ n r. inl (now_live n r)) careful'.enters;
    gives = (λ n e w. no_gift n e, careful'.gives);
  }

  used_then : (n : Name) → was_given s.store n ≡ true → was_given st' n ≡ true
  used_then n g =
      let u : (h' (number n)).made ≡ true = more.used (number n) (tied.given n g) in
      by_view (was_given st' n) (value_at st' n) (cells.live_given st' n) (sym (ap (λ x. x.made) (heap_of_number tnames view ok st' n)) ∙ u)
    where
      by_view : (b : Bool) (v : Option T) → (is_some v ≡ true → b ≡ true) → (view b v).made ≡ true → b ≡ true
      by_view true v f e = refl
      by_view false (Some x) f e = f refl
      by_view false None f e = absurd (let z : (view false None).made ≡ false = ok.unmade in cc)

  -- the moments with those of what was given back and the step's lead to the state after it
  pub tells : HasMoments tnames (now ∷ past') s'
  tells = record {
    fits = (let P : List Mark → Type 0 = λ x. Fits x s' in subst P (sym (same_marks tnames s past back)) (cells.fits_stored (marks_of past) s st' sound.tells.fits));
    now = (refl, λ n. refl, λ n. refl);
    ends = ends_next tnames s cells past sound.tells.now back now (λ n l f. elim (goes n (lived_first tnames s cells past sound.tells.now back n l)) [
      | inl y ↦ absurd (let z : is_some (value_at st' n) ≡ false = f in cc)
      | inr c ↦ absurd (lived_apart tnames s cells past sound.tells.now back n l c)
    ]) (ends_backs tnames s cells past sound.tells.now sound.tells.ends back);
    table = sound.tells.table;
    given = λ n w. elim w [
      | inl l ↦ cells.live_given st' n l
      | inr r ↦ used_then n (given_backs tnames s cells past sound.tells.now sound.tells.given back n r)
    ];
  }

  -- the names of the call
  seen_on : (j : ℕ) (n : Name) → Visible past j n → Visible (now ∷ past') j n
  seen_on j n v = inr (refl, still_seen tnames s cells past sound.tells.now back j n v)

  -- a name of the next phase whose node wasn't in reach before: the call's own, or just hung
  new_seen : (n : Name) → Contains (names num m'.phase) (number n) → (is_published (notes (number n)).status ≡ true → ⊥) → MadeBy num m'.phase (number n) ⊎ Visible (now ∷ past') i n
  new_seen n c un = elim (more.named (number n) c) [
    | inl p ↦ elim (by_status (keeps.notes (number n)).status p) [
      | inl l ↦ inr (inl (linked_now n l))
      | inr g ↦ absurd (un (more.gone (number n) g))
    ]
    | inr made ↦ inl made
  ]

  published_was : (n : Name) → is_published (notes (number n)).status ≡ true → MadeBy num m.phase (number n) → ⊥
  published_was n p made =
      let k : EachKnown num same always notes h i m = sound.settled.1.each i m at in
      let e : (notes (number n)).status ≡ Held i = calls.held i notes h m.key m.kind m.given (number n) m.phase k.known made in
      let z : is_published (notes (number n)).status ≡ false = ap is_published e in
      cc

  came : (n : Name) → Contains (names num m'.phase) (number n) → Comes (num m.root) (names num m.phase) h h' (number n) → MadeBy num m'.phase (number n) ⊎ Visible (now ∷ past') i n
  came n c (Had x) = elim (sound.seen i m n at x) [
    | inl made ↦ new_seen n c (λ p. published_was n p made)
    | inr v ↦ inr (seen_on i n v)
  ]
  came n c (Top e) = inr (seen_on i n (cells.seen_now past s i n sound.tells.now (
      let z : number n ≡ 0 = e ∙ (sound.settled.1.each i m at).root in
      let P : ℕ → Type 0 = λ k. (notes k).status ≡ Linked in
      linked_reach n (subst P (sym z) sound.settled.1.tree.root))))
  came n c (New_made u v) = new_seen n c (λ p. let st : Stands (h (number n)) = (sound.settled.1.words.each (number n)).stands p in let z : (h (number n)).made ≡ true = st.made in cc)
  came n c (Hangs p b tree e) = inr (seen_on i n (cells.seen_now past s i n sound.tells.now (linked_reach n (hung_linked p b (number n) tree e))))
    where
      hung_linked : (p b k : ℕ) → InTree h p → (h p).children b ≡ Below k → (notes k).status ≡ Linked
      hung_linked p b k tree e = (sound.settled.1.tree.down p b k (calls.leads notes h sound.settled.1.tree tree.0 0 p sound.settled.1.tree.root tree.1) e).linked

  abbrev ms' : List (Machine C V)
  ms' = set ms i m'

  seen' : (j : ℕ) (x : Machine C V) (n : Name) → slice_get ms' j ≡ Some x → Contains (names num x.phase) (number n) → MadeBy num x.phase (number n) ⊎ Visible (now ∷ past') j n
  seen' j x n got c = elim (calls.either ms i j m' x got) [
    | inl same ↦ (
        let P : Machine C V → Type 0 = λ y. Contains (names num y.phase) (number n) → MadeBy num y.phase (number n) ⊎ Visible (now ∷ past') i n in
        let Q : ℕ → Type 0 = λ y. MadeBy num x.phase (number n) ⊎ Visible (now ∷ past') y n in
        let r : MadeBy num x.phase (number n) ⊎ Visible (now ∷ past') i n = subst P same.1 (λ c'. came n c' (All-contains (Comes (num m.root) (names num m.phase) h h') (names num m'.phase) (number n) origin c')) c in
        subst Q (sym same.0) r)
    | inr apart ↦ elim (sound.seen j x n apart.1 c) [ inl made ↦ inl made | inr v ↦ inr (seen_on j n v) ]
  ]

  -- the nodes that calls have made
  was_in_all : (n : Name) → WasIn (now ∷ past') n → IsIn now n ⊎ WasIn past n
  was_in_all n w = elim w [ inl y ↦ inl y | inr y ↦ inr (in_backs back y) ]
    where
      in_backs : (xs : List Name) → WasIn (backs tnames s past xs) n → WasIn past n
      in_backs [] y = y
      in_backs (x ∷ xs) y = elim y [ inl z ↦ was_in cells s past sound.tells.now n z | inr z ↦ in_backs xs z ]

  made_now : (j : ℕ) (x : Machine C V) (n : Name) → slice_get ms' j ≡ Some x → MadeBy num x.phase (number n) → IsIn now n → ⊥
  made_now j x n got made r =
      let k : EachKnown num same always settled.0 h' j x = settled.1.each j x got in
      let e : (settled.0 (number n)).status ≡ Held j = calls.held j settled.0 h' x.key x.kind x.given (number n) x.phase k.known made in
      let p : InTree h' (number n) = in_tree tnames st' h' s.roots top tied' sound.rooted r in
      let l : (settled.0 (number n)).status ≡ Linked = calls.leads settled.0 h' settled.1.tree p.0 0 (number n) settled.1.tree.root p.1 in
      let z : Held j ≡ Linked = sym e ∙ l in
      cc

  mine_unseen : (n : Name) → MadeBy num m'.phase (number n) → WasIn past n → ⊥
  mine_unseen n made w = elim ((keeps.effect.fares (number n)).held i (more.mine (number n) made)) [
    | inl was ↦ (
        let x : (y : Machine C V) × (slice_get ms i ≡ Some y) × MadeBy num y.phase (number n) = sound.settled.2.held (number n) i was.0 in
        sound.unseen i x.0 n x.1 x.2 w)
    | inr new ↦ (let z : (h (number n)).made ≡ true = was_made n w in let y : (h (number n)).made ≡ false = new.1 in cc)
  ]

  unseen' : (j : ℕ) (x : Machine C V) (n : Name) → slice_get ms' j ≡ Some x → MadeBy num x.phase (number n) → WasIn (now ∷ past') n → ⊥
  unseen' j x n got made w = elim (was_in_all n w) [
    | inl r ↦ made_now j x n got made r
    | inr w' ↦ elim (calls.either ms i j m' x got) [
      | inl same ↦ (let P : Machine C V → Type 0 = λ y. MadeBy num y.phase (number n) → ⊥ in subst P same.1 (λ z. mine_unseen n z w') made)
      | inr apart ↦ sound.unseen j x n apart.1 made w'
    ]
  ]

  guarded' : (j : ℕ) (x : Machine C V) → slice_get ms' j ≡ Some x → Guards (place s' j) x
  guarded' j x got = elim (calls.either ms i j m' x got) [
    | inl same ↦ (
        let P : Machine C V → Type 0 = λ y. Guards (place s i) y in
        let Q : ℕ → Type 0 = λ y. Guards (place s y) x in
        subst Q (sym same.0) (subst P same.1 guards))
    | inr apart ↦ sound.guarded j x apart.1
  ]

  orderly' : Orderly s'
  orderly' = record { hands = sound.orderly.hands; bags = sound.orderly.bags; held = sound.orderly.held; sealed = sound.orderly.sealed }

  -- tree, calls and history are sound after the step
  pub stepped : Sound tnames view num same always top (now ∷ past') s' ms'
  stepped = record {
    orderly = orderly';
    rooted = sound.rooted;
    settled = settled;
    tells = tells;
    careful = careful;
    deferred = λ t n w l. deferred_still t n (marks_back t n w) l;
    left = λ t n w. inr (still_in tnames s cells past sound.tells.now back n (sound.left t n (marks_back t n w)));
    named = λ t l. (let d : (n : Name) × WasDeferred (marks_of past) t n = sound.named t l in (d.0, (let P : List Mark → Type 0 = λ x. WasDeferred x t d.0 in subst P (sym (same_marks tnames s past back)) d.1)));
    once = λ t u n d e. sound.once t u n (marks_back t n d) (marks_back u n e);
    unseen = unseen';
    seen = seen';
    guarded = guarded';
  }
    where
      marks_back : (t : ℕ) (n : Name) → WasDeferred (marks_of (now ∷ past')) t n → WasDeferred (marks_of past) t n
      marks_back t n w = let P : List Mark → Type 0 = λ x. WasDeferred x t n in subst P (same_marks tnames s past back) w
