-- What a step leaves a call of locks and made nodes.
use Rattle.std.proofs.Common.{◌≡◌, ◌≢◌, ℕ, ◌+◌, ◌⊎◌, inl, inr, Bool, true, false, List, get_or, refl, sym, ◌∙◌, ap, subst}
use Rattle.std.proofs.lemmas.Bool.{true_from_ne_false}
use Rattle.std.specs.Prelude.{Option, None, Some, Result, Ok, Err}
use Rattle.judge.specs.declared.journal.Reply.{Reply}
use Rattle.congee.specs.declared.forms.base_node.NodeType.{NodeType}
use Rattle.congee.specs.declared.protocol.store.Stamp.{Stamp}
use Rattle.congee.specs.declared.protocol.store.Refusal.{Refusal}
use Rattle.congee.specs.declared.protocol.store.Upgrade.{Upgrade}
use Rattle.congee.specs.declared.protocol.store.Upgrade.TheVariants.{Locked, Failed, Exhausted}
use Rattle.congee.specs.declared.protocol.phase.Kind.{Kind}
use Rattle.congee.specs.declared.protocol.phase.Parent.{Parent}
use Rattle.congee.specs.declared.protocol.phase.Above.{Above as Over}
use Rattle.congee.specs.declared.protocol.phase.Site.{Site}
use Rattle.congee.specs.declared.protocol.phase.Placement.{Placement}
use Rattle.congee.specs.declared.protocol.phase.Placement.TheVariants.{Set, Link}
use Rattle.congee.specs.declared.protocol.phase.NodeChange.{NodeChange}
use Rattle.congee.specs.declared.protocol.phase.Replacement.{Replacement}
use Rattle.congee.specs.declared.protocol.phase.Replacement.TheVariants.{Unlink, Grow, GrowLink, Split, Shrink, Collapse, ShrinkAbove}
use Rattle.congee.specs.declared.protocol.phase.ParentChange.{ParentChange}
use Rattle.congee.specs.declared.protocol.phase.Plan.{Plan}
use Rattle.congee.specs.declared.protocol.phase.Plan.TheVariants.{Here, Above}
use Rattle.congee.specs.declared.protocol.phase.Phase.{Phase}
use Rattle.congee.specs.declared.protocol.phase.Phase.TheVariants.{MakeLeaf, MakeGreater, MakeTop, MakeBeside, MakeLesser, AskNew, CheckAbove, UpgradeHere, ChangeHere, UpgradeTop, UpgradeAbove, UpgradeBelow, ChangeAbove, Obsolete, Retire, UnlockBelow, Unlock, Unwind, Ended}
use Rattle.congee.specs.declared.protocol.next_phase.NextPhase.{NextPhase}
use Rattle.congee.specs.Heap.{Node, Hung, Below, is_taken}
use Rattle.congee.specs.protocol.Events.{SameBut, NewNode, ChangeGives, TakeOverGives, BackGives}
use Rattle.congee.specs.protocol.Steps.{node_of, both, given_up, after_top, after_retire, after_unwind, PutsLesser, Collapses, Lessens, quiet, again, decided, asking, asks_new, absent_reply, started, ready, plan_here, unless_full, unwound, greater, after_change, BackHere, BackAbove, BackLeaf, MadeLeaf, MadeGreater, MadeTop, MadeBeside, MadeLesser, UpgradedHere, UpgradedTop, UpgradedAbove, UpgradedBelow, ChangedHere, ChangedAbove, IsGivenNew, PhaseStepped}
use Rattle.congee.specs.Keys.{key_bytes}
use Rattle.congee.specs.Notes.{Note, Unmade, Held, Linked, is_published, Tree, LockWords}
use Rattle.congee.specs.protocol.Protocol.{HasTop, Made, Holding, MadeHere, MadeAbove, MadeLeafFor, Fares, Known}
use Rattle.congee.specs.protocol.Holdings.{IsTop, LockedBy, MadeForHere, MadeForAbove, MadeForPlan, IsMade, MadeBy}
use Rattle.congee.proofs.lemmas.Graft.{on_test}
use Rattle.congee.proofs.lemmas.Tree.{same_or_not}
use Rattle.congee.proofs.lemmas.protocol.Touch.{by_test, owner_locked}
use Rattle.congee.proofs.lemmas.protocol.Change.{made_apart}

-- where the made nodes of a plan are, when it begins
started_made : {C V : Type 0} (number : C → ℕ) (plan : Plan C) (r : Reply V) (n : ℕ) → MadeForPlan number plan n → MadeBy number (started plan r).phase n
started_made number (Here None one) r n m = m
started_made number (Here (Some p) one) r n m = m
started_made number (Above two) r n m = m

ready_made : {C V : Type 0} (number : C → ℕ) (kind : Kind V) (plan : Plan C) (n : ℕ) → MadeForPlan number plan n → MadeBy number (ready kind plan).phase n
ready_made {C} {V} number kind plan n m = by_test (λ (t : NextPhase C V). MadeBy number t.phase n) (asks_new kind) _ _ (λ _. m) (λ _. started_made number plan (absent_reply kind) n m)

unless_made : {C V : Type 0} (number : C → ℕ) (kind : Kind V) (s : Site C) (full : Bool) (above : Option (Over C)) (leaf : C) → MadeBy number (unless_full kind s full above (Some leaf) (Link leaf)).phase (number leaf)
unless_made number kind s true (Some p) leaf = refl
unless_made number kind s true None leaf = ready_made number kind (plan_here s (Link leaf)) (number leaf) refl
unless_made number kind s false above leaf = ready_made number kind (plan_here s (Link leaf)) (number leaf) refl

greater_for : {C : Type 0} (number : C → ℕ) (s : Site C) (leaf : Option C) (c : C) (n : ℕ) → IsMade number leaf n ⊎ (n ≡ number c) → MadeForAbove number (greater s leaf c) n
greater_for number s None c n (inl m) = absurd m
greater_for number s None c n (inr m) = m
greater_for number s (Some leaf) c n (inl m) = inr m
greater_for number s (Some leaf) c n (inr m) = inl m

-- no lock is taken and no node is made
pub record Flags {V : Type 0} (h h' : ℕ → Node V) : Type 0 where
  pub locked : (n : ℕ) → (h' n).locked ≡ (h n).locked
  pub made : (n : ℕ) → (h' n).made ≡ (h n).made

flags_then : {V : Type 0} (h h1 h2 : ℕ → Node V) → Flags h h1 → Flags h1 h2 → Flags h h2
flags_then h h1 h2 f g = record { locked = λ n. g.locked n ∙ f.locked n; made = λ n. g.made n ∙ f.made n }

flags_change : {V : Type 0} (h : ℕ → Node V) (m b : ℕ) (x : Hung V) (h' : ℕ → Node V) → ChangeGives h m b x h' → Flags h h'
flags_change h m b x h' k = record {
  locked = λ n. elim (same_or_not n m) [
    | inl q ↦ (let P : ℕ → Type 0 = λ y. (h' y).locked ≡ (h y).locked in subst P (sym q) k.locked)
    | inr ne ↦ ap (λ z. z.locked) (k.others n ne)
  ];
  made = λ n. elim (same_or_not n m) [
    | inl q ↦ (let P : ℕ → Type 0 = λ y. (h' y).made ≡ (h y).made in subst P (sym q) k.made)
    | inr ne ↦ ap (λ z. z.made) (k.others n ne)
  ];
}

flags_take : {V : Type 0} (h : ℕ → Node V) (m c : ℕ) (h' : ℕ → Node V) → TakeOverGives h m c h' → Flags h h'
flags_take h m c h' k = record {
  locked = λ n. elim (same_or_not n c) [
    | inl q ↦ (let P : ℕ → Type 0 = λ y. (h' y).locked ≡ (h y).locked in subst P (sym q) k.locked)
    | inr nc ↦ elim (same_or_not n m) [
      | inl q ↦ (let P : ℕ → Type 0 = λ y. (h' y).locked ≡ (h y).locked in subst P (sym q) k.locked_old)
      | inr nm ↦ ap (λ z. z.locked) (k.others n nc nm)
    ]
  ];
  made = λ n. elim (same_or_not n c) [
    | inl q ↦ (let P : ℕ → Type 0 = λ y. (h' y).made ≡ (h y).made in subst P (sym q) k.made)
    | inr nc ↦ elim (same_or_not n m) [
      | inl q ↦ (let P : ℕ → Type 0 = λ y. (h' y).made ≡ (h y).made in subst P (sym q) k.made_old)
      | inr nm ↦ ap (λ z. z.made) (k.others n nc nm)
    ]
  ];
}

flags_one : {C V : Type 0} (number : C → ℕ) (key : List ℕ) (new : Option V) (one : NodeChange C) (change : Placement C) (h h' : ℕ → Node V) → ChangedHere number key new one change h h' → Flags h h'
flags_one number key new one Set h h' g = flags_change h _ _ _ h' g
flags_one number key new one (Link leaf) h h' g = flags_then h g.0 h' (flags_change h _ _ _ g.0 g.1) (flags_change g.0 _ _ _ h' g.2)

flags_lesser : {V : Type 0} (h : ℕ → Node V) (m c b p up : ℕ) (h' : ℕ → Node V) → PutsLesser h m c b p up h' → Flags h h'
flags_lesser h m c b p up h' g = flags_then h g.0 h' (flags_take h _ _ g.0 g.2) (flags_then g.0 g.1 h' (flags_change g.0 _ _ _ g.1 g.3) (flags_change g.1 _ _ _ h' g.4))

flags_collapse : {C V : Type 0} (number : C → ℕ) (two : ParentChange C) (top : Option (Parent C)) (h h' : ℕ → Node V) → Collapses number two top h h' → Flags h h'
flags_collapse number two None h h' g = absurd g
flags_collapse number two (Some top) h h' g = flags_change h _ _ _ h' g.2

flags_lessen : {C V : Type 0} (number : C → ℕ) (two : ParentChange C) (c : C) (top : Option (Parent C)) (h h' : ℕ → Node V) → Lessens number two c top h h' → Flags h h'
flags_lessen number two c None h h' g = absurd g
flags_lessen number two c (Some top) h h' g = flags_lesser h _ _ _ _ _ h' g

flags_two : {C V : Type 0} (number : C → ℕ) (key : List ℕ) (new : Option V) (two : ParentChange C) (change : Replacement C) (h h' : ℕ → Node V) → ChangedAbove number key new two change h h' → Flags h h'
flags_two number key new two Unlink h h' g = flags_change h _ _ _ h' g
flags_two number key new two (Shrink c) h h' g = flags_lesser h _ _ _ _ _ h' g
flags_two number key new two Collapse h h' g = flags_collapse number two two.top h h' g
flags_two number key new two (ShrinkAbove c) h h' g = flags_lessen number two c two.top h h' g
flags_two number key new two (Grow c) h h' g = flags_then h g.0 h' (flags_take h _ _ g.0 g.2) (flags_then g.0 g.1 h' (flags_change g.0 _ _ _ g.1 g.3) (flags_change g.1 _ _ _ h' g.4))
flags_two number key new two (GrowLink c leaf byte) h h' g =
    flags_then h g.0 h' (flags_change h _ _ _ g.0 g.3) (flags_then g.0 g.1 h' (flags_take g.0 _ _ g.1 g.4) (flags_then g.1 g.2 h' (flags_change g.1 _ _ _ g.2 g.5) (flags_change g.2 _ _ _ h' g.6)))
flags_two number key new two (Split top leaf common byte) h h' g =
    flags_then h g.0 h' (flags_change h _ _ _ g.0 g.3) (flags_then g.0 g.1 h' (flags_change g.0 _ _ _ g.1 g.4) (flags_then g.1 g.2 h' (flags_change g.1 _ _ _ g.2 g.5) (flags_change g.2 _ _ _ h' g.6)))

-- a node is as it was, or stood and was given back
abbrev IsBack : {V : Type 0} → Node V → Node V → Type 0
IsBack p q = (p.made ≡ true) × (p.destroyed ≡ false) × (q.destroyed ≡ true) × (q.locked ≡ false)

abbrev Returns : {V : Type 0} → (ℕ → Node V) → (ℕ → Node V) → Type 0
Returns h h' = (n : ℕ) → (h' n ≡ h n) ⊎ IsBack (h n) (h' n)

module _ {C V : Type 0} (number : C → ℕ) (same : V → V → Bool) (always : Bool) (i : ℕ) (a : ℕ → Note) (h : ℕ → Node V) (a' : ℕ → Note) (h' : ℕ → Node V) (key : List ℕ)
    (w : LockWords a h) (w' : LockWords a' h') (t' : Tree a' h') (f : (n : ℕ) → Fares i (a n) (a' n) (h n) (h' n)) where
  -- what the call holds after the step
  pub record Holds_now (s : Phase C V) : Type 0 where
    pub own : (n : ℕ) → (a' n).owner ≡ Some i → LockedBy number s n
    pub mine : (n : ℕ) → (a' n).status ≡ Held i → MadeBy number s n

  -- its lock of before, or one of a node that was free
  own_now : (n : ℕ) → (a' n).owner ≡ Some i → ((a n).owner ≡ Some i) ⊎ (((h n).locked ≡ false) × ((h' n).locked ≡ true))
  own_now n e = elim ((f n).owner i e) [
    | inl x ↦ inl x
    | inr x ↦ inr (x.1, owner_locked a' h' w' n i e)
  ]

  mine_now : (n : ℕ) → (a' n).status ≡ Held i → (((a n).status ≡ Held i) × (h' n ≡ h n)) ⊎ (((h n).made ≡ false) × ((h' n).made ≡ true))
  mine_now n e = elim ((f n).held i e) [
    | inl x ↦ inl x
    | inr x ↦ inr (x.1, true_from_ne_false (h' n).made (λ z. let y : (a' n).status ≡ Unmade = (w'.each n).unmade z in let q : Unmade ≡ Held i = sym y ∙ e in cc))
  ]

  -- where no lock is taken and no node is made
  own_flags : Flags h h' → (n : ℕ) → (a' n).owner ≡ Some i → (a n).owner ≡ Some i
  own_flags g n e = elim (own_now n e) [
    | inl x ↦ x
    | inr x ↦ absurd (let z : true ≡ false = sym x.1 ∙ (g.locked n ∙ x.0) in cc)
  ]

  mine_flags : Flags h h' → (n : ℕ) → (a' n).status ≡ Held i → ((a n).status ≡ Held i) × (h' n ≡ h n)
  mine_flags g n e = elim (mine_now n e) [
    | inl x ↦ x
    | inr x ↦ absurd (let z : true ≡ false = sym x.1 ∙ (g.made n ∙ x.0) in cc)
  ]

  calm : h' ≡ h → Flags h h'
  calm e = let P : (ℕ → Node V) → Type 0 = λ g. Flags h g in subst P (sym e) (record { locked = λ n. refl; made = λ n. refl })

  -- one node is locked
  same_but_flags : (m : ℕ) → SameBut h m (record (h m) { locked = true }) h' → (n : ℕ) → ((h' n ≡ h n) ⊎ (n ≡ m)) × ((h' n).made ≡ (h n).made)
  same_but_flags m g n = elim (same_or_not n m) [
    | inl q ↦ (inr q, (let P : ℕ → Type 0 = λ y. (h' y).made ≡ (h y).made in subst P (sym q) (rw g.after refl)))
    | inr ne ↦ (inl (g.others n ne), ap (λ z. z.made) (g.others n ne))
  ]

  own_lock : (m : ℕ) → SameBut h m (record (h m) { locked = true }) h' → (n : ℕ) → (a' n).owner ≡ Some i → ((a n).owner ≡ Some i) ⊎ (n ≡ m)
  own_lock m g n e = elim (own_now n e) [
    | inl x ↦ inl x
    | inr x ↦ elim (same_but_flags m g n).0 [
      | inl q ↦ absurd (let z : true ≡ false = sym x.1 ∙ (ap (λ y. y.locked) q ∙ x.0) in cc)
      | inr q ↦ inr q
    ]
  ]

  mine_lock : (m : ℕ) → SameBut h m (record (h m) { locked = true }) h' → (n : ℕ) → (a' n).status ≡ Held i → (a n).status ≡ Held i
  mine_lock m g n e = elim (mine_now n e) [
    | inl x ↦ x.0
    | inr x ↦ absurd (let z : true ≡ false = sym x.1 ∙ ((same_but_flags m g n).1 ∙ x.0) in cc)
  ]

  -- a node is made
  own_new : (c : ℕ) (form : NodeType) (size : ℕ) → NewNode h c form key size h' → (n : ℕ) → (a' n).owner ≡ Some i → (a n).owner ≡ Some i
  own_new c form size g n e = elim (own_now n e) [
    | inl x ↦ x
    | inr x ↦ elim (same_or_not n c) [
      | inl q ↦ absurd (let z : (h' n).locked ≡ false = (let P : ℕ → Type 0 = λ y. (h' y).locked ≡ false in subst P (sym q) g.free) in let y : (h' n).locked ≡ true = x.1 in cc)
      | inr ne ↦ absurd (let z : true ≡ false = sym x.1 ∙ (ap (λ y. y.locked) (g.others n ne) ∙ x.0) in cc)
    ]
  ]

  mine_new : (c : ℕ) (form : NodeType) (size : ℕ) → NewNode h c form key size h' → (n : ℕ) → (a' n).status ≡ Held i → ((a n).status ≡ Held i) ⊎ (n ≡ c)
  mine_new c form size g n e = elim (mine_now n e) [
    | inl x ↦ inl x.0
    | inr x ↦ elim (same_or_not n c) [
      | inl q ↦ inr q
      | inr ne ↦ absurd (let z : true ≡ false = sym x.1 ∙ (ap (λ y. y.made) (g.others n ne) ∙ x.0) in cc)
    ]
  ]

  -- made nodes go back
  own_back : Returns h h' → (n : ℕ) → (a' n).owner ≡ Some i → (a n).owner ≡ Some i
  own_back g n e = elim (own_now n e) [
    | inl x ↦ x
    | inr x ↦ elim (g n) [
      | inl q ↦ absurd (let z : true ≡ false = sym x.1 ∙ (ap (λ y. y.locked) q ∙ x.0) in cc)
      | inr q ↦ absurd (let z : true ≡ false = sym x.1 ∙ q.3 in cc)
    ]
  ]

  mine_back : Returns h h' → (n : ℕ) → (a' n).status ≡ Held i → ((a n).status ≡ Held i) × (h' n ≡ h n)
  mine_back g n e = elim (mine_now n e) [
    | inl x ↦ x
    | inr x ↦ elim (g n) [
      | inl q ↦ absurd (let z : true ≡ false = sym x.1 ∙ (ap (λ y. y.made) q ∙ x.0) in cc)
      | inr q ↦ absurd (let z : true ≡ false = sym q.0 ∙ x.0 in cc)
    ]
  ]

  -- none of the nodes that went back is held
  none_back : (n c : ℕ) → n ≡ c → h' n ≡ h n → IsBack (h c) (h' c) → ⊥
  none_back n c q e b =
      let d : (h' c).destroyed ≡ (h c).destroyed = (let P : ℕ → Type 0 = λ y. (h' y).destroyed ≡ (h y).destroyed in subst P q (ap (λ z. z.destroyed) e)) in
      let z : true ≡ false = sym b.2 ∙ (d ∙ b.1) in cc

-- the nodes of a change that go back
back_node : {V : Type 0} (i : ℕ) (a : ℕ → Note) (h : ℕ → Node V) (key : List ℕ) (c size least : ℕ) (h' : ℕ → Node V) → Made i a h key c size least → BackGives h c h' → Returns h h' × IsBack (h c) (h' c)
back_node {V} i a h key c size least h' m g =
    let b : IsBack (h c) (h' c) = (m.made, m.kept, g.gone, g.unlocked) in (
      (λ n. elim (same_or_not n c) [
        | inl q ↦ inr (let P : ℕ → Type 0 = λ y. IsBack (h y) (h' y) in subst P (sym q) b)
        | inr ne ↦ inl (g.others n ne)
      ]),
      b,
    )

back_nodes : {V : Type 0} (i : ℕ) (a : ℕ → Note) (h : ℕ → Node V) (key : List ℕ) (c size least d : ℕ) (h1 h' : ℕ → Node V) → Made i a h key c size least → Made i a h key d 7 0 → c ≢ d → BackGives h d h1 → BackGives h1 c h'
    → Returns h h' × IsBack (h c) (h' c) × IsBack (h d) (h' d)
back_nodes {V} i a h key c size least d h1 h' mc md ne g k =
    let dc : d ≢ c = (λ e. ne (sym e)) in
    let b : IsBack (h c) (h' c) = (mc.made, mc.kept, k.gone, k.unlocked) in
    let b' : IsBack (h d) (h' d) = (md.made, md.kept, rw (k.others d dc) g.gone, rw (k.others d dc) g.unlocked) in (
      (λ n. elim (same_or_not n c) [
        | inl q ↦ inr (let P : ℕ → Type 0 = λ y. IsBack (h y) (h' y) in subst P (sym q) b)
        | inr nc ↦ elim (same_or_not n d) [
          | inl q ↦ inr (let P : ℕ → Type 0 = λ y. IsBack (h y) (h' y) in subst P (sym q) b')
          | inr nd ↦ inl (k.others n nc ∙ g.others n nd)
        ]
      ]),
      b,
      b',
    )

returns_none : {V : Type 0} (h h' : ℕ → Node V) → h' ≡ h → Returns h h'
returns_none {V} h h' e = let P : (ℕ → Node V) → Type 0 = λ g. Returns h g in subst P (sym e) (λ n. inl refl)

module _ {C V : Type 0} (number : C → ℕ) (i : ℕ) (a : ℕ → Note) (h : ℕ → Node V) (h' : ℕ → Node V) (key : List ℕ) where
  abbrev AllBack : (ℕ → Type 0) → Type 0
  AllBack M = Returns h h' × ((n : ℕ) → M n → IsBack (h n) (h' n))

  at_node : (n c : ℕ) → n ≡ c → IsBack (h c) (h' c) → IsBack (h n) (h' n)
  at_node n c q b = let P : ℕ → Type 0 = λ y. IsBack (h y) (h' y) in subst P (sym q) b

  all_one : (change : Placement C) → MadeHere number i a h key change → BackHere number h change h' → AllBack (MadeForHere number change)
  all_one Set m g = (returns_none h h' g, (λ n x. absurd x))
  all_one (Link leaf) m g =
      let r : Returns h h' × IsBack (h (number leaf)) (h' (number leaf)) = back_node i a h key (number leaf) 7 0 h' m g in (r.0, (λ n x. at_node n (number leaf) x r.1))

  all_leaf : (leaf : Option C) (s : Site C) → MadeLeafFor number i a h key s leaf → BackLeaf number h leaf h' → AllBack (IsMade number leaf)
  all_leaf None s m g = (returns_none h h' g, (λ n x. absurd x))
  all_leaf (Some leaf) s m g =
      let r : Returns h h' × IsBack (h (number leaf)) (h' (number leaf)) = back_node i a h key (number leaf) 7 0 h' m.1 g in (r.0, (λ n x. at_node n (number leaf) x r.1))

  all_two : (p : Parent C) (change : Replacement C) (size q : ℕ) → MadeAbove number i a h key p change size q → BackAbove number h change h' → AllBack (MadeForAbove number change)
  all_two p Unlink size q m g = (returns_none h h' g, (λ n x. absurd x))
  all_two p Collapse size q m g = (returns_none h h' g, (λ n x. absurd x))
  all_two p (Shrink c) size q m g =
      let r : Returns h h' × IsBack (h (number c)) (h' (number c)) = back_node i a h key (number c) size q h' m g in (r.0, (λ n x. at_node n (number c) x r.1))
  all_two p (ShrinkAbove c) size q m g =
      let r : Returns h h' × IsBack (h (number c)) (h' (number c)) = back_node i a h key (number c) p.depth q h' m.0 g in (r.0, (λ n x. at_node n (number c) x r.1))
  all_two p (Grow c) size q m g =
      let r : Returns h h' × IsBack (h (number c)) (h' (number c)) = back_node i a h key (number c) size q h' m g in (r.0, (λ n x. at_node n (number c) x r.1))
  all_two p (GrowLink c leaf byte) size q m g =
      let r : Returns h h' × IsBack (h (number c)) (h' (number c)) × IsBack (h (number leaf)) (h' (number leaf)) = back_nodes i a h key (number c) size q (number leaf) g.0 h' m.0 m.1 m.2 g.1 g.2 in (r.0, two_of (number c) (number leaf) r.1 r.2)
    where
      two_of : (c d : ℕ) → IsBack (h c) (h' c) → IsBack (h d) (h' d) → (n : ℕ) → (n ≡ c) ⊎ (n ≡ d) → IsBack (h n) (h' n)
      two_of c d x y n (inl e) = at_node n c e x
      two_of c d x y n (inr e) = at_node n d e y
  all_two p (Split top leaf common byte) size q m g =
      let r : Returns h h' × IsBack (h (number top)) (h' (number top)) × IsBack (h (number leaf)) (h' (number leaf)) = back_nodes i a h key (number top) common 1 (number leaf) g.0 h' m.0 m.1 m.2 g.1 g.2 in (r.0, two_of (number top) (number leaf) r.1 r.2)
    where
      two_of : (c d : ℕ) → IsBack (h c) (h' c) → IsBack (h d) (h' d) → (n : ℕ) → (n ≡ c) ⊎ (n ≡ d) → IsBack (h n) (h' n)
      two_of c d x y n (inl e) = at_node n c e x
      two_of c d x y n (inr e) = at_node n d e y

module _ {C V : Type 0} (number : C → ℕ) (same : V → V → Bool) (always : Bool) (i : ℕ) (a : ℕ → Note) (h : ℕ → Node V) (a' : ℕ → Note) (h' : ℕ → Node V) (k : ℕ)
    (w : LockWords a h) (t : Tree a h) (w' : LockWords a' h') (t' : Tree a' h') (f : (n : ℕ) → Fares i (a n) (a' n) (h n) (h' n)) where
  -- after the step the call's locks and made nodes are those that its next phase has
  abbrev pub Now : Phase C V → Type 0
  Now s = Holds_now number same always i a h a' h' (key_bytes k) w w' t' f s

  abbrev Own : (ℕ → Type 0) → Type 0
  Own L = (n : ℕ) → (a n).owner ≡ Some i → L n

  abbrev Mine : (ℕ → Type 0) → Type 0
  Mine M = (n : ℕ) → (a n).status ≡ Held i → M n

  at_next_phase : (x y : NextPhase C V) → y ≡ x → Now x.phase → Now y.phase
  at_next_phase x y e m = let P : NextPhase C V → Type 0 = λ z. Now z.phase in subst P (sym e) m

  -- a call that holds nothing before a step that leaves the nodes holds nothing after it
  calm_bare : h' ≡ h → Own (λ _. ⊥) → Mine (λ _. ⊥) → (s : Phase C V) → Now s
  calm_bare e o m s = record {
    own = λ n x. absurd (o n (own_flags number same always i a h a' h' (key_bytes k) w w' t' f (calm number same always i a h a' h' (key_bytes k) w w' t' f e) n x));
    mine = λ n x. absurd (m n (mine_flags number same always i a h a' h' (key_bytes k) w w' t' f (calm number same always i a h a' h' (key_bytes k) w w' t' f e) n x).0);
  }

  -- one that holds made nodes keeps them
  calm_mine : h' ≡ h → Own (λ _. ⊥) → (M : ℕ → Type 0) → Mine M → (s : Phase C V) → ((n : ℕ) → M n → MadeBy number s n) → Now s
  calm_mine e o M m s g = record {
    own = λ n x. absurd (o n (own_flags number same always i a h a' h' (key_bytes k) w w' t' f (calm number same always i a h a' h' (key_bytes k) w w' t' f e) n x));
    mine = λ n x. g n (m n (mine_flags number same always i a h a' h' (key_bytes k) w w' t' f (calm number same always i a h a' h' (key_bytes k) w w' t' f e) n x).0);
  }

  -- one whose made nodes went back has none
  bare_back : (M : ℕ → Type 0) → Mine M → AllBack number i a h h' (key_bytes k) M → (n : ℕ) → (a' n).status ≡ Held i → ⊥
  bare_back M m g n x =
      let y : ((a n).status ≡ Held i) × (h' n ≡ h n) = mine_back number same always i a h a' h' (key_bytes k) w w' t' f g.0 n x in
      none_back number same always i a h a' h' (key_bytes k) w w' t' f n n refl y.1 (g.1 n (m n y.0))

  back_bare : Own (λ _. ⊥) → (M : ℕ → Type 0) → Mine M → AllBack number i a h h' (key_bytes k) M → (s : Phase C V) → Now s
  back_bare o M m g s = record {
    own = λ n x. absurd (o n (own_back number same always i a h a' h' (key_bytes k) w w' t' f g.0 n x));
    mine = λ n x. absurd (bare_back M m g n x);
  }

  -- a node is made
  new_made : (c : ℕ) (form : NodeType) (size : ℕ) → NewNode h c form (key_bytes k) size h' → Own (λ _. ⊥) → (M : ℕ → Type 0) → Mine M → (s : Phase C V) → ((n : ℕ) → M n ⊎ (n ≡ c) → MadeBy number s n) → Now s
  new_made c form size g o M m s r = record {
    own = λ n x. absurd (o n (own_new number same always i a h a' h' (key_bytes k) w w' t' f c form size g n x));
    mine = λ n x. elim (mine_new number same always i a h a' h' (key_bytes k) w w' t' f c form size g n x) [
      | inl y ↦ r n (inl (m n y))
      | inr y ↦ r n (inr y)
    ];
  }

  only_new : (m n : ℕ) → ⊥ ⊎ (n ≡ m) → n ≡ m
  only_new m n (inl x) = absurd x
  only_new m n (inr x) = x

  leaf_holds : (kind : Kind V) (s : Site C) (r : Result C Refusal) (next_phase : NextPhase C V) → Own (λ _. ⊥) → Mine (λ _. ⊥) → MadeLeaf number kind s h (key_bytes k) r h' next_phase → Now next_phase.phase
  leaf_holds kind s (Ok leaf) next_phase o m g = at_next_phase _ next_phase g.1 (new_made (number leaf) _ 7 g.0 o (λ _. ⊥) m _ (by_leaf leaf)) where
    by_leaf : (leaf : C) (n : ℕ) → ⊥ ⊎ (n ≡ number leaf) → MadeBy number (unless_full kind s s.full s.above (Some leaf) (Link leaf)).phase n
    by_leaf leaf n (inl x) = absurd x
    by_leaf leaf n (inr x) = let P : ℕ → Type 0 = λ y. MadeBy number (unless_full kind s s.full s.above (Some leaf) (Link leaf)).phase y in subst P (sym x) (unless_made number kind s s.full s.above leaf)
  leaf_holds kind s (Err e) next_phase o m g = at_next_phase _ next_phase g.1 (calm_bare g.0 o m Ended)

  greater_holds : (kind : Kind V) (s : Site C) (p : Parent C) (leaf : Option C) (r : Result C Refusal) (next_phase : NextPhase C V) → Own (λ _. ⊥) → Mine (IsMade number leaf) → MadeLeafFor number i a h (key_bytes k) s leaf
      → MadeGreater number kind s p leaf h (key_bytes k) r h' next_phase → Now next_phase.phase
  greater_holds kind s p leaf (Ok c) next_phase o m l g = at_next_phase _ next_phase g.1
      (new_made (number c) _ s.depth g.0 o (IsMade number leaf) m _ (λ n x. ready_made number kind (Above (both p s (greater s leaf c))) n (greater_for number s leaf c n x)))
  greater_holds kind s p leaf (Err e) next_phase o m l g = at_next_phase _ next_phase g.1 (back_bare o (IsMade number leaf) m (all_leaf number i a h h' (key_bytes k) leaf s l g.0) Ended)

  top_holds : (p : Parent C) (at : Stamp C) (common byte : ℕ) (r : Result C Refusal) (next_phase : NextPhase C V) → Own (λ _. ⊥) → Mine (λ _. ⊥) → MadeTop number p at common byte h (key_bytes k) r h' next_phase → Now next_phase.phase
  top_holds p at common byte (Ok top) next_phase o m g = at_next_phase _ next_phase g.1 (new_made (number top) _ common g.0 o (λ _. ⊥) m _ (by_top top)) where
    by_top : (top : C) (n : ℕ) → ⊥ ⊎ (n ≡ number top) → n ≡ number top
    by_top top n (inl x) = absurd x
    by_top top n (inr x) = x
  top_holds p at common byte (Err e) next_phase o m g = at_next_phase _ next_phase g.1 (calm_bare g.0 o m Ended)

  beside_holds : (kind : Kind V) (p : Parent C) (at : Stamp C) (common byte : ℕ) (top : C) (r : Result C Refusal) (next_phase : NextPhase C V) → Own (λ _. ⊥) → Mine (λ n. n ≡ number top) → Made i a h (key_bytes k) (number top) common 1
      → MadeBeside number kind p at common byte top h (key_bytes k) r h' next_phase → Now next_phase.phase
  beside_holds kind p at common byte top (Ok leaf) next_phase o m l g = at_next_phase _ next_phase g.1
      (new_made (number leaf) _ 7 g.0 o (λ n. n ≡ number top) m _ (λ n x. ready_made number kind (Above (record { top = None; above = p; at = at; change = Split top leaf common byte })) n x))
  beside_holds kind p at common byte top (Err e) next_phase o m l g =
      let r : Returns h h' × IsBack (h (number top)) (h' (number top)) = back_node i a h (key_bytes k) (number top) common 1 h' l g.0 in
      at_next_phase _ next_phase g.1 (back_bare o (λ n. n ≡ number top) m (r.0, (λ n x. at_node number i a h h' (key_bytes k) n (number top) x r.1)) Ended)

  lesser_holds : (s : Site C) (p : Parent C) (top : Option (Parent C)) (r : Reply V) (x : Result C Refusal) (next_phase : NextPhase C V) → Own (λ _. ⊥) → Mine (λ _. ⊥) → MadeLesser number s p top r h (key_bytes k) x h' next_phase → Now next_phase.phase
  lesser_holds s p None r (Ok c) next_phase o m g = at_next_phase _ next_phase g.1 (new_made (number c) _ s.depth g.0 o (λ _. ⊥) m _ (only_new (number c)))
  lesser_holds s p None r (Err e) next_phase o m g = at_next_phase _ next_phase g.1 (calm_bare g.0 o m _)
  lesser_holds s p (Some top) r (Ok c) next_phase o m g = at_next_phase _ next_phase g.1 (new_made (number c) _ p.depth g.0 o (λ _. ⊥) m _ (only_new (number c)))
  lesser_holds s p (Some top) r (Err e) next_phase o m g = at_next_phase _ next_phase g.1 (calm_bare g.0 o m _)

  -- a node is locked
  lock_holds : (L M : ℕ → Type 0) (m : ℕ) → SameBut h m (record (h m) { locked = true }) h' → Own L → Mine M → (s : Phase C V) → ((n : ℕ) → L n ⊎ (n ≡ m) → LockedBy number s n) → ((n : ℕ) → M n → MadeBy number s n) → Now s
  lock_holds L M m g o x s l r = record {
    own = λ n e. elim (own_lock number same always i a h a' h' (key_bytes k) w w' t' f m g n e) [
      | inl y ↦ l n (inl (o n y))
      | inr y ↦ l n (inr y)
    ];
    mine = λ n e. r n (x n (mine_lock number same always i a h a' h' (key_bytes k) w w' t' f m g n e));
  }

  only : (m n : ℕ) → ⊥ ⊎ (n ≡ m) → n ≡ m
  only m n (inl x) = absurd x
  only m n (inr x) = x

  one_upgraded : (root : C) (one : NodeChange C) (r : Reply V) (u : Upgrade) (next_phase : NextPhase C V) → Own (λ _. ⊥) → Mine (MadeForHere number one.change) → MadeHere number i a h (key_bytes k) one.change → UpgradedHere number root one r h u h' next_phase → Now next_phase.phase
  one_upgraded root one r Locked next_phase o m l g = at_next_phase _ next_phase g.1 (lock_holds (λ _. ⊥) (MadeForHere number one.change) (number one.at.node) g.0 o m (ChangeHere one r) (only (number one.at.node)) (λ n x. x))
  one_upgraded root one r Failed next_phase o m l g = at_next_phase _ next_phase g.1 (back_bare o (MadeForHere number one.change) m (all_one number i a h h' (key_bytes k) one.change l g.0) _)
  one_upgraded root one r Exhausted next_phase o m l g = at_next_phase _ next_phase g.1 (back_bare o (MadeForHere number one.change) m (all_one number i a h h' (key_bytes k) one.change l g.0) _)

  top_upgraded : (root : C) (top : Parent C) (two : ParentChange C) (r : Reply V) (size q : ℕ) (u : Upgrade) (next_phase : NextPhase C V) → Own (λ _. ⊥) → Mine (MadeForAbove number two.change) → MadeAbove number i a h (key_bytes k) two.above two.change size q
      → UpgradedTop number root top two r h u h' next_phase → Now next_phase.phase
  top_upgraded root top two r size q Locked next_phase o m l g = at_next_phase _ next_phase g.1 (lock_holds (λ _. ⊥) (MadeForAbove number two.change) (number top.stamp.node) g.0 o m (UpgradeAbove (record two { top = Some top }) r) (only (number top.stamp.node)) (λ n x. x))
  top_upgraded root top two r size q Failed next_phase o m l g = at_next_phase _ next_phase g.1 (back_bare o (MadeForAbove number two.change) m (all_two number i a h h' (key_bytes k) two.above two.change size q l g.0) _)
  top_upgraded root top two r size q Exhausted next_phase o m l g = at_next_phase _ next_phase g.1 (back_bare o (MadeForAbove number two.change) m (all_two number i a h h' (key_bytes k) two.above two.change size q l g.0) _)

  -- the made nodes go back, and the locks of the nodes above stay
  back_locked : (p : C) (next : Option C) (refusal : Option Refusal) (M : ℕ → Type 0) → Own (λ n. (n ≡ number p) ⊎ IsMade number next n) → Mine M → AllBack number i a h h' (key_bytes k) M → Now (Unwind p next refusal)
  back_locked p next refusal M o m g = record {
    own = λ n x. o n (own_back number same always i a h a' h' (key_bytes k) w w' t' f g.0 n x);
    mine = λ n x. absurd (bare_back M m g n x);
  }

  gives_up : (root : C) (top : Option (Parent C)) (refusal : Option Refusal) (M : ℕ → Type 0) → Own (IsTop number top) → Mine M → AllBack number i a h h' (key_bytes k) M → Now (given_up {V = V} root top refusal).phase
  gives_up root None None M o m g = back_bare o M m g _
  gives_up root None (Some e) M o m g = back_bare o M m g _
  gives_up root (Some top) refusal M o m g = back_locked top.stamp.node None refusal M (λ n x. inl (o n x)) m g

  swap : (L M : Type 0) → L ⊎ M → M ⊎ L
  swap L M (inl x) = inr x
  swap L M (inr x) = inl x

  above_upgraded : (root : C) (two : ParentChange C) (r : Reply V) (size q : ℕ) (u : Upgrade) (next_phase : NextPhase C V) → Own (IsTop number two.top) → Mine (MadeForAbove number two.change) → MadeAbove number i a h (key_bytes k) two.above two.change size q
      → UpgradedAbove number root two r h u h' next_phase → Now next_phase.phase
  above_upgraded root two r size q Locked next_phase o m l g = at_next_phase _ next_phase g.1 (lock_holds (IsTop number two.top) (MadeForAbove number two.change) (number two.above.stamp.node) g.0 o m (UpgradeBelow two r) (λ n x. swap _ _ x) (λ n x. x))
  above_upgraded root two r size q Failed next_phase o m l g = at_next_phase _ next_phase g.1 (gives_up root two.top None (MadeForAbove number two.change) o m (all_two number i a h h' (key_bytes k) two.above two.change size q l g.0))
  above_upgraded root two r size q Exhausted next_phase o m l g = at_next_phase _ next_phase g.1 (gives_up root two.top _ (MadeForAbove number two.change) o m (all_two number i a h h' (key_bytes k) two.above two.change size q l g.0))

  top_is : (top : Option (Parent C)) (n : ℕ) → IsTop number top n → IsMade number (node_of top) n
  top_is None n x = x
  top_is (Some top) n x = x

  above_or_top : (two : ParentChange C) (n : ℕ) → (n ≡ number two.above.stamp.node) ⊎ IsTop number two.top n → (n ≡ number two.above.stamp.node) ⊎ IsMade number (node_of two.top) n
  above_or_top two n (inl x) = inl x
  above_or_top two n (inr x) = inr (top_is two.top n x)

  all_locked : (two : ParentChange C) (n : ℕ) → ((n ≡ number two.above.stamp.node) ⊎ IsTop number two.top n) ⊎ (n ≡ number two.at.node) → ((n ≡ number two.above.stamp.node) ⊎ (n ≡ number two.at.node)) ⊎ IsTop number two.top n
  all_locked two n (inl (inl x)) = inl (inl x)
  all_locked two n (inl (inr x)) = inr x
  all_locked two n (inr x) = inl (inr x)

  both_upgraded : (two : ParentChange C) (r : Reply V) (size q : ℕ) (u : Upgrade) (next_phase : NextPhase C V) → Own (λ n. (n ≡ number two.above.stamp.node) ⊎ IsTop number two.top n) → Mine (MadeForAbove number two.change) → MadeAbove number i a h (key_bytes k) two.above two.change size q
      → UpgradedBelow number two r h u h' next_phase → Now next_phase.phase
  both_upgraded two r size q Locked next_phase o m l g = at_next_phase _ next_phase g.1
      (lock_holds (λ n. (n ≡ number two.above.stamp.node) ⊎ IsTop number two.top n) (MadeForAbove number two.change) (number two.at.node) g.0 o m (ChangeAbove two r) (all_locked two) (λ n x. x))
  both_upgraded two r size q Failed next_phase o m l g = at_next_phase _ next_phase g.1
      (back_locked two.above.stamp.node (node_of two.top) None (MadeForAbove number two.change) (λ n x. above_or_top two n (o n x)) m (all_two number i a h h' (key_bytes k) two.above two.change size q l g.0))
  both_upgraded two r size q Exhausted next_phase o m l g = at_next_phase _ next_phase g.1
      (back_locked two.above.stamp.node (node_of two.top) _ (MadeForAbove number two.change) (λ n x. above_or_top two n (o n x)) m (all_two number i a h h' (key_bytes k) two.above two.change size q l g.0))

  -- what hangs in the tree is held by no call
  hung_free : (n m b c : ℕ) → (a' m).status ≡ Linked → (h' m).children b ≡ Below c → n ≡ c → (a' n).status ≡ Held i → ⊥
  hung_free n m b c l e q x =
      let y : (a' c).status ≡ Linked = (t'.down m b c l e).linked in
      let z : (a' n).status ≡ Linked = (let P : ℕ → Type 0 = λ u. (a' u).status ≡ Linked in subst P (sym q) y) in
      let u : Linked ≡ Held i = sym z ∙ x in cc

  one_changed : (given : Option V) (one : NodeChange C) (change : Placement C) → (a' (number one.at.node)).status ≡ Linked → ChangedHere number (key_bytes k) given one change h h' → (n : ℕ) → MadeForHere number change n → (a' n).status ≡ Held i → ⊥
  one_changed given one Set l g n m x = m
  one_changed given one (Link leaf) l g n m x = hung_free n (number one.at.node) one.byte (number leaf) l g.2.child m x

  -- the changed node stays in the tree
  abbrev StaysIn : ParentChange C → Replacement C → Option (Parent C) → Type 0
  StaysIn two Collapse (Some top) = (a' (number top.stamp.node)).status ≡ Linked
  StaysIn two (ShrinkAbove c) (Some top) = (a' (number top.stamp.node)).status ≡ Linked
  StaysIn two Collapse None = Unit {0}
  StaysIn two (ShrinkAbove c) None = Unit {0}
  StaysIn two _ top = (a' (number two.above.stamp.node)).status ≡ Linked

  lesser_hung : (two : ParentChange C) (c : C) (top : Option (Parent C)) → StaysIn two (ShrinkAbove c) top → Lessens number two c top h h' → (n : ℕ) → n ≡ number c → (a' n).status ≡ Held i → ⊥
  lesser_hung two c None l g n y x = g
  lesser_hung two c (Some top) l g n y x = hung_free n (number top.stamp.node) top.byte (number c) l g.4.child y x

  two_changed : (given : Option V) (two : ParentChange C) (change : Replacement C) (size q : ℕ) → (a (number two.above.stamp.node)).status ≡ Linked → StaysIn two change two.top → MadeAbove number i a h (key_bytes k) two.above change size q
      → ChangedAbove number (key_bytes k) given two change h h' → (n : ℕ) → MadeForAbove number change n → (a' n).status ≡ Held i → ⊥
  two_changed given two Unlink size q l0 l m g n y x = y
  two_changed given two Collapse size q l0 l m g n y x = y
  two_changed given two (Shrink c) size q l0 l m g n y x = hung_free n (number two.above.stamp.node) two.above.byte (number c) l g.4.child y x
  two_changed given two (ShrinkAbove c) size q l0 l m g n y x = lesser_hung two c two.top l g n y x
  two_changed given two (Grow c) size q l0 l m g n y x = hung_free n (number two.above.stamp.node) two.above.byte (number c) l g.4.child y x
  two_changed given two (GrowLink c leaf byte) size q l0 l m g n (inl y) x = hung_free n (number two.above.stamp.node) two.above.byte (number c) l g.6.child y x
  two_changed given two (GrowLink c leaf byte) size q l0 l m g n (inr y) x =
      let cl : (a' (number c)).status ≡ Linked = (t'.down (number two.above.stamp.node) two.above.byte (number c) l g.6.child).linked in
      let e : h' (number c) ≡ g.2 (number c) = g.6.others (number c) (made_apart i a h (key_bytes k) (number c) size q (number two.above.stamp.node) m.0 (ap is_published l0)) in
      hung_free n (number c) byte (number leaf) cl (rw e g.5.child) y x
  two_changed given two (Split top leaf common byte) size q l0 l m g n (inl y) x = hung_free n (number two.above.stamp.node) two.above.byte (number top) l g.6.child y x
  two_changed given two (Split top leaf common byte) size q l0 l m g n (inr y) x =
      let cl : (a' (number top)).status ≡ Linked = (t'.down (number two.above.stamp.node) two.above.byte (number top) l g.6.child).linked in
      let e : h' (number top) ≡ g.2 (number top) = g.6.others (number top) (made_apart i a h (key_bytes k) (number top) common 1 (number two.above.stamp.node) m.0 (ap is_published l0)) in
      hung_free n (number top) (get_or (key_bytes k) common 0) (number leaf) cl (rw e g.5.child) y x

  -- the locks that a change of two nodes leaves, or of three
  abbrev Locks : ParentChange C → Option (Parent C) → ℕ → Type 0
  Locks two top n = ((n ≡ number two.above.stamp.node) ⊎ (n ≡ number two.at.node)) ⊎ IsTop number top n

  abbrev Goes : ParentChange C → Replacement C → Option (Parent C) → Phase C V → Type 0
  Goes two change top s = StaysIn two change top × ((n : ℕ) → Locks two top n → LockedBy number s n)

  no_top : (top : Option (Parent C)) (n : ℕ) → top ≡ None → IsTop number top n → ⊥
  no_top None n e x = x
  no_top (Some top) n e x = absurd cc

  marks : (two : ParentChange C) (r : Reply V) (next_phase : NextPhase C V) (given' : Option V) (kind : Kind V) (top : Option (Parent C)) → next_phase ≡ decided (Obsolete two.at.node None two.above.stamp.node r) → top ≡ None → Known number same always i a' h' k (key_bytes k) kind given' next_phase.phase
      → ((a' (number two.above.stamp.node)).status ≡ Linked) × ((n : ℕ) → Locks two top n → LockedBy number next_phase.phase n)
  marks two r next_phase given' kind top e z =
      let P : NextPhase C V → Type 0 = λ y. Known number same always i a' h' k (key_bytes k) kind given' y.phase → ((a' (number two.above.stamp.node)).status ≡ Linked) × ((n : ℕ) → Locks two top n → LockedBy number y.phase n) in
      subst P (sym e) (λ x. (x.0.above.linked, by_lock))
    where
      by_lock : (n : ℕ) → Locks two top n → ((n ≡ number two.above.stamp.node) ⊎ (n ≡ number two.at.node)) ⊎ ⊥
      by_lock n (inl y) = inl y
      by_lock n (inr y) = inr (no_top top n z y)

  lets_go : (two : ParentChange C) (r : Reply V) (next_phase : NextPhase C V) (given' : Option V) (kind : Kind V) (top : Option (Parent C)) → next_phase ≡ decided (UnlockBelow two.at.node two.above.stamp.node r) → top ≡ None → Known number same always i a' h' k (key_bytes k) kind given' next_phase.phase
      → ((a' (number two.above.stamp.node)).status ≡ Linked) × ((n : ℕ) → Locks two top n → LockedBy number next_phase.phase n)
  lets_go two r next_phase given' kind top e z =
      let P : NextPhase C V → Type 0 = λ y. Known number same always i a' h' k (key_bytes k) kind given' y.phase → ((a' (number two.above.stamp.node)).status ≡ Linked) × ((n : ℕ) → Locks two top n → LockedBy number y.phase n) in
      subst P (sym e) (λ x. (x.1.linked, by_lock))
    where
      by_lock : (n : ℕ) → Locks two top n → (n ≡ number two.above.stamp.node) ⊎ (n ≡ number two.at.node)
      by_lock n (inl y) = y
      by_lock n (inr y) = absurd (no_top top n z y)

  tops : (two : ParentChange C) (r : Reply V) (next_phase : NextPhase C V) (given' : Option V) (kind : Kind V) (top : Parent C) → next_phase ≡ after_top two r (Some top) → Known number same always i a' h' k (key_bytes k) kind given' next_phase.phase
      → ((a' (number top.stamp.node)).status ≡ Linked) × ((n : ℕ) → Locks two (Some top) n → LockedBy number next_phase.phase n)
  tops two r next_phase given' kind top e =
      let P : NextPhase C V → Type 0 = λ y. Known number same always i a' h' k (key_bytes k) kind given' y.phase → ((a' (number top.stamp.node)).status ≡ Linked) × ((n : ℕ) → Locks two (Some top) n → LockedBy number y.phase n) in
      subst P (sym e) (λ x. (x.0.above.linked, by_lock))
    where
      by_lock : (n : ℕ) → Locks two (Some top) n → ((n ≡ number top.stamp.node) ⊎ (n ≡ number two.at.node)) ⊎ (n ≡ number two.above.stamp.node)
      by_lock n (inl (inl y)) = inr y
      by_lock n (inl (inr y)) = inl (inr y)
      by_lock n (inr y) = inl (inl y)

  collapse_goes : (two : ParentChange C) (r : Reply V) (next_phase : NextPhase C V) (given' : Option V) (kind : Kind V) (top : Option (Parent C)) → next_phase ≡ after_top two r top → HasTop {C = C} Collapse top → Known number same always i a' h' k (key_bytes k) kind given' next_phase.phase → Goes two Collapse top next_phase.phase
  collapse_goes two r next_phase given' kind None e z x = absurd z
  collapse_goes two r next_phase given' kind (Some top) e z x = tops two r next_phase given' kind top e x

  lessen_goes : (two : ParentChange C) (r : Reply V) (next_phase : NextPhase C V) (given' : Option V) (kind : Kind V) (c : C) (top : Option (Parent C)) → next_phase ≡ after_top two r top → HasTop (ShrinkAbove c) top → Known number same always i a' h' k (key_bytes k) kind given' next_phase.phase → Goes two (ShrinkAbove c) top next_phase.phase
  lessen_goes two r next_phase given' kind c None e z x = absurd z
  lessen_goes two r next_phase given' kind c (Some top) e z x = tops two r next_phase given' kind top e x

  after_two : (two : ParentChange C) (r : Reply V) (change : Replacement C) (next_phase : NextPhase C V) (given' : Option V) (kind : Kind V) → next_phase ≡ after_change two r change → HasTop change two.top → Known number same always i a' h' k (key_bytes k) kind given' next_phase.phase → Goes two change two.top next_phase.phase
  after_two two r Collapse next_phase given' kind e z x = collapse_goes two r next_phase given' kind two.top e z x
  after_two two r (ShrinkAbove c) next_phase given' kind e z x = lessen_goes two r next_phase given' kind c two.top e z x
  after_two two r (Split top leaf common byte) next_phase given' kind e z x = lets_go two r next_phase given' kind two.top e z x
  after_two two r _ next_phase given' kind e z x = marks two r next_phase given' kind two.top e z x

  -- a change of the nodes
  changes : (L M : ℕ → Type 0) → Own L → Mine M → Flags h h' → ((n : ℕ) → M n → (a' n).status ≡ Held i → ⊥) → (s : Phase C V) → ((n : ℕ) → (a' n).owner ≡ Some i → L n → LockedBy number s n) → Now s
  changes L M o m g b s l = record {
    own = λ n x. l n x (o n (own_flags number same always i a h a' h' (key_bytes k) w w' t' f g n x));
    mine = λ n x. absurd (b n (m n (mine_flags number same always i a h a' h' (key_bytes k) w w' t' f g n x).0) x);
  }

  -- a lock goes
  unlocked_not : (m n : ℕ) → SameBut h m (record (h m) { version = (h m).version + 1; locked = false }) h' → n ≡ m → (a' n).owner ≡ Some i → ⊥
  unlocked_not m n g q x =
      let z : (h' n).locked ≡ true = owner_locked a' h' w' n i x in
      let y : (h' n).locked ≡ false = (let P : ℕ → Type 0 = λ u. (h' u).locked ≡ false in subst P (sym q) (rw g.after refl)) in cc

  unlocks : (m : ℕ) → SameBut h m (record (h m) { version = (h m).version + 1; locked = false }) h' → (L : ℕ → Type 0) → Own L → Mine (λ _. ⊥) → (s : Phase C V) → ((n : ℕ) → L n → (n ≡ m) ⊎ LockedBy number s n) → Now s
  unlocks m g L o x s l = record {
    own = λ n e. elim (own_now number same always i a h a' h' (key_bytes k) w w' t' f n e) [
      | inl y ↦ elim (l n (o n y)) [
        | inl q ↦ absurd (unlocked_not m n g q e)
        | inr q ↦ q
      ]
      | inr y ↦ absurd (elim (same_or_not n m) [
        | inl q ↦ unlocked_not m n g q e
        | inr ne ↦ (let z : true ≡ false = sym y.1 ∙ (ap (λ u. u.locked) (g.others n ne) ∙ y.0) in cc)
      ])
    ];
    mine = λ n e. absurd (elim (mine_now number same always i a h a' h' (key_bytes k) w w' t' f n e) [
      | inl y ↦ x n y.0
      | inr y ↦ elim (same_or_not n m) [
        | inl q ↦ (let u : (h' n).made ≡ (h n).made = (let P : ℕ → Type 0 = λ v. (h' v).made ≡ (h v).made in subst P (sym q) (rw g.after refl)) in let z : true ≡ false = sym y.1 ∙ (u ∙ y.0) in cc)
        | inr ne ↦ (let z : true ≡ false = sym y.1 ∙ (ap (λ u. u.made) (g.others n ne) ∙ y.0) in cc)
      ]
    ]);
  }

  marked_flags : (m : ℕ) (x : Node V) → SameBut h m x h' → x.locked ≡ (h m).locked → x.made ≡ (h m).made → Flags h h'
  marked_flags m x g l e = record {
    locked = λ n. elim (same_or_not n m) [
      | inl q ↦ (let P : ℕ → Type 0 = λ y. (h' y).locked ≡ (h y).locked in subst P (sym q) (ap (λ z. z.locked) g.after ∙ l))
      | inr ne ↦ ap (λ z. z.locked) (g.others n ne)
    ];
    made = λ n. elim (same_or_not n m) [
      | inl q ↦ (let P : ℕ → Type 0 = λ y. (h' y).made ≡ (h y).made in subst P (sym q) (ap (λ z. z.made) g.after ∙ e))
      | inr ne ↦ ap (λ z. z.made) (g.others n ne)
    ];
  }

  unwound_holds : (root : C) (e : Option Refusal) (next_phase : NextPhase C V) → next_phase ≡ unwound root e → ((s : Phase C V) → Now s) → Now next_phase.phase
  unwound_holds root None next_phase x g = at_next_phase _ next_phase x (g _)
  unwound_holds root (Some r) next_phase x g = at_next_phase _ next_phase x (g _)

  unwinds : (root : C) (n : C) (next : Option C) (e : Option Refusal) (next_phase : NextPhase C V) → next_phase ≡ after_unwind root next e → SameBut h (number n) (record (h (number n)) { version = (h (number n)).version + 1; locked = false }) h'
      → Own (λ u. (u ≡ number n) ⊎ IsMade number next u) → Mine (λ _. ⊥) → Now next_phase.phase
  unwinds root n None e next_phase x g o m = unwound_holds root e next_phase x (λ s. unlocks (number n) g (λ u. (u ≡ number n) ⊎ ⊥) o m s (λ u z. elim z [
    | inl q ↦ inl q
    | inr q ↦ absurd q
  ]))
  unwinds root n (Some c) e next_phase x g o m = at_next_phase _ next_phase x (unlocks (number n) g (λ u. (u ≡ number n) ⊎ (u ≡ number c)) o m (Unwind c None e) (λ u z. elim z [
    | inl q ↦ inl q
    | inr q ↦ inr (inl q)
  ]))

  -- every step
  pub step_holds : (most : ℕ) (why : NodeType → Refusal → Type 0) (root : C) (kind : Kind V) (fail : Bool) (answer : Option (Option V)) (given : Option V) (s : Phase C V) (given' : Option V) (next_phase : NextPhase C V)
      → Own (LockedBy number s) → Mine (MadeBy number s) → Known number same always i a h k (key_bytes k) kind given s → Known number same always i a' h' k (key_bytes k) kind given' next_phase.phase
      → PhaseStepped number same always most why root (key_bytes k) kind fail answer given s h given' next_phase h' → Now next_phase.phase
  step_holds most why root kind fail answer given (MakeLeaf s) given' next_phase o m x x' g = leaf_holds kind s g.1.0 next_phase o m g.1.1
  step_holds most why root kind fail answer given (MakeGreater s p leaf) given' next_phase o m x x' g = greater_holds kind s p leaf g.1.0 next_phase o m x.3 g.1.1
  step_holds most why root kind fail answer given (MakeTop p at common byte) given' next_phase o m x x' g = top_holds p at common byte g.1.0 next_phase o m g.1.1
  step_holds most why root kind fail answer given (MakeBeside p at common byte top) given' next_phase o m x x' g = beside_holds kind p at common byte top g.1.0 next_phase o m x.6 g.1.1
  step_holds most why root kind fail answer given (MakeLesser s p top r) given' next_phase o m x x' g = lesser_holds s p top r g.1.0 next_phase o m g.1.1
  step_holds most why root kind fail answer given (AskNew plan) given' next_phase o m x x' g = asked answer g.1 where
    stays : next_phase ≡ asking (AskNew plan) None → Now next_phase.phase
    stays e = at_next_phase _ next_phase e (calm_mine g.0 o (MadeForPlan number plan) m (AskNew plan) (λ n y. y))

    asked : (answer : Option (Option V)) → IsGivenNew plan answer given given' next_phase → Now next_phase.phase
    asked None y = stays y.1
    asked (Some None) y = stays y.1
    asked (Some (Some z)) y = at_next_phase _ next_phase y.1 (calm_mine g.0 o (MadeForPlan number plan) m _ (λ n u. started_made number plan _ n u))
  step_holds most why root kind fail answer given (CheckAbove p one r) given' next_phase o m x x' g = on_test (is_taken (h (number p.node)) p.version)
      (λ y. let z : (h' ≡ h) × (next_phase ≡ quiet (UpgradeHere one r)) = g.1.goes_on y in at_next_phase _ next_phase z.1 (calm_mine z.0 o (MadeForHere number one.change) m (UpgradeHere one r) (λ n u. u)))
      (λ y. let z : BackHere number h one.change h' × (next_phase ≡ again root) = g.1.goes_back y in at_next_phase _ next_phase z.1 (back_bare o (MadeForHere number one.change) m (all_one number i a h h' (key_bytes k) one.change x.2.made z.0) _))
  step_holds most why root kind fail answer given (UpgradeHere one r) given' next_phase o m x x' g = one_upgraded root one r g.1.0 next_phase o m x.1.1.made g.1.2
  step_holds most why root kind fail answer given (ChangeHere one r) given' next_phase o m x x' g =
      let P : NextPhase C V → Type 0 = λ z. Known number same always i a' h' k (key_bytes k) kind given' z.phase in
      let y : Holding i a' (number one.at.node) = subst P g.2 x' in
      at_next_phase _ next_phase g.2 (changes (λ n. n ≡ number one.at.node) (MadeForHere number one.change) o m (flags_one number (key_bytes k) given one one.change h h' g.1) (one_changed given one one.change y.linked g.1) (Unlock one.at.node r) (λ n e l. l))
  step_holds most why root kind fail answer given (UpgradeTop top two r) given' next_phase o m x x' g = top_upgraded root top two r _ _ g.1.0 next_phase o m x.1.2.made g.1.2
  step_holds most why root kind fail answer given (UpgradeAbove two r) given' next_phase o m x x' g = above_upgraded root two r _ _ g.1.0 next_phase o m x.1.2.made g.1.2
  step_holds most why root kind fail answer given (UpgradeBelow two r) given' next_phase o m x x' g = both_upgraded two r _ _ g.1.0 next_phase o m x.1.2.made g.1.2
  step_holds most why root kind fail answer given (ChangeAbove two r) given' next_phase o m x x' g =
      let y : Goes two two.change two.top next_phase.phase = after_two two r two.change next_phase given' kind g.2 x.3 x' in
      changes (Locks two two.top) (MadeForAbove number two.change) o m (flags_two number (key_bytes k) given two two.change h h' g.1)
      (two_changed given two two.change _ _ x.2.above.holding.linked y.0 x.2.made g.1) next_phase.phase (λ n e l. y.1 n l)
  step_holds most why root kind fail answer given (Obsolete n next p r) given' next_phase o m x x' g =
      at_next_phase _ next_phase g.2 (changes (λ u. ((u ≡ number p) ⊎ (u ≡ number n)) ⊎ IsMade number next u) (λ _. ⊥) o m (marked_flags (number n) _ g.1 refl refl) (λ u y _. y) (Retire n next p r) (λ u e l. l))
  step_holds most why root kind fail answer given (Retire n next p r) given' next_phase o m x x' g =
      at_next_phase _ next_phase g.2 (changes (λ u. ((u ≡ number p) ⊎ (u ≡ number n)) ⊎ IsMade number next u) (λ _. ⊥) o m (marked_flags (number n) _ g.1 refl refl) (λ u y _. y) (after_retire next p r).phase (λ u e l. handed u e next l))
    where
      not_kept : (u : ℕ) → (a' u).owner ≡ Some i → u ≡ number n → ⊥
      not_kept u e q =
          let y : (h' u).retired ≡ (h u).retired = (f u).handed i e in
          let z : (h' (number n)).retired ≡ (h (number n)).retired = (let P : ℕ → Type 0 = λ v. (h' v).retired ≡ (h v).retired in subst P q y) in
          let v : (h' (number n)).retired ≡ true = rw g.1.after refl in
          let b : true ≡ false = sym v ∙ (z ∙ x.0.unretired) in cc

      handed : (u : ℕ) → (a' u).owner ≡ Some i → (next : Option C) → ((u ≡ number p) ⊎ (u ≡ number n)) ⊎ IsMade number next u → LockedBy number (after_retire next p r).phase u
      handed u e None (inl (inl q)) = q
      handed u e None (inl (inr q)) = absurd (not_kept u e q)
      handed u e None (inr q) = absurd q
      handed u e (Some c) (inl (inl q)) = inl (inl q)
      handed u e (Some c) (inl (inr q)) = absurd (not_kept u e q)
      handed u e (Some c) (inr q) = inl (inr q)
  step_holds most why root kind fail answer given (UnlockBelow n p r) given' next_phase o m x x' g =
      at_next_phase _ next_phase g.2 (unlocks (number n) g.1 (λ u. (u ≡ number p) ⊎ (u ≡ number n)) o m (Unlock p r) (λ u y. elim y [
        | inl q ↦ inr q
        | inr q ↦ inl q
      ]))
  step_holds most why root kind fail answer given (Unlock n r) given' next_phase o m x x' g = at_next_phase _ next_phase g.2 (unlocks (number n) g.1 (λ u. u ≡ number n) o m Ended (λ u y. inl y))
  step_holds most why root kind fail answer given (Unwind n next e) given' next_phase o m x x' g = unwinds root n next e next_phase g.2 g.1 o m
  step_holds most why root kind fail answer given _ given' next_phase o m x x' g = calm_bare g.0 o m next_phase.phase
