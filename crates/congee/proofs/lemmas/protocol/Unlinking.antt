-- What a step takes out of the tree: nothing, or the nodes that its call then hands over.
use Rattle.std.specs.List.{Contains}
use Rattle.std.proofs.lemmas.List.Elements.{Contains-append_left, Contains-push}
use Rattle.std.proofs.Common.{◌≡◌, ℕ, zero, suc, ◌<◌, ◌⊎◌, inl, inr, Bool, true, false, List, [], ◌∷◌, ◌++◌, length, get_or, refl, sym, ◌∙◌, ap, subst, arith}
use Rattle.std.proofs.Math.ListN.{set}
use Rattle.std.specs.Prelude.{Option, None, Some, slice_get}
use Rattle.congee.specs.declared.forms.base_node.NodeType.{NodeType}
use Rattle.congee.specs.declared.protocol.store.Refusal.{Refusal}
use Rattle.judge.specs.declared.journal.Reply.{Reply}
use Rattle.congee.specs.declared.protocol.phase.Kind.{Kind}
use Rattle.congee.specs.declared.protocol.phase.Phase.TheVariants as phase
use Rattle.congee.specs.declared.protocol.phase.Phase.{Phase}
use Rattle.congee.specs.declared.protocol.phase.Phase.TheVariants.{Obsolete, Retire, Unlock}
use Rattle.congee.specs.declared.protocol.next_phase.NextPhase.{NextPhase}
use Rattle.congee.specs.declared.protocol.machine.Machine.{Machine}
use Rattle.congee.specs.declared.protocol.run.Step.{Step}
use Rattle.congee.specs.Heap.{Node, Below, Stands}
use Rattle.congee.specs.protocol.Steps.{after_retire, PhaseStepped}
use Rattle.congee.specs.Keys.{key_bytes}
use Rattle.congee.specs.Notes.{Note, Status, Unmade, Held, Linked, Gone, Back, Destroyed, is_published, is_spent, IsChild, HasParent, Tree, LockWords}
use Rattle.congee.specs.protocol.Protocol.{Fares, AlsoOut, Known}
use Rattle.congee.specs.protocol.Holdings.{IsMade, LockedBy, MadeBy, TakenBy, Holdings}
use Rattle.congee.specs.protocol.Handing.{is_handed_over, Leads, InTree, AreOneOrTwo, HandsAt, IsLeaving, Leaving, TakesAt, Leaves, Due, Accounted, Unlinking, StepHands, StepTakes}
use Rattle.congee.proofs.lemmas.Tree.{same_or_not}
use Rattle.congee.proofs.lemmas.protocol.Owners.{get_set, set_here, set_apart, IsTaken, taken_known, locked_linked, gone_taken, taken_on}
use Rattle.congee.proofs.lemmas.protocol.Handing.{leads_linked, unlinked_out, giving, giving_here, giving_apart, some_of, none_if}

-- a path leads to each node of the tree
leads_more : {V : Type 0} (h : ℕ → Node V) (path : List ℕ) (m p b n : ℕ) → Leads h m path p → (h p).children b ≡ Below n → Leads h m (path ++ b ∷ []) n
leads_more h [] m p b n e c = (n, (let P : ℕ → Type 0 = λ x. (h x).children b ≡ Below n in subst P (sym e) c), refl)
leads_more h (x ∷ path) m p b n e c = (e.0, e.1, leads_more h path e.0 p b n e.2 c)

reached : {V : Type 0} (a : ℕ → Note) (h : ℕ → Node V) → Tree a h → (f n : ℕ) → length (h n).prefix < f → (a n).status ≡ Linked → InTree h n
reached a h t zero n lt l = absurd (omega (arith, lt))
reached a h t (suc f) n lt l = elim (same_or_not n 0) [
  | inl q ↦ ([], sym q)
  | inr ne ↦ (let u : HasParent a h n = t.up n l ne in
      let c : IsChild a h (a n).parent u.byte n = t.down (a n).parent u.byte n u.linked u.holds in
      let r : InTree h (a n).parent = reached a h t f (a n).parent (omega (arith, lt, c.longer)) u.linked in
      (r.0 ++ u.byte ∷ [], leads_more h r.0 0 (a n).parent u.byte n r.1 u.holds))
]

-- a path from the root leads to a node that is noted in the tree
pub linked_in : {V : Type 0} (a : ℕ → Note) (h : ℕ → Node V) (n : ℕ) → Tree a h → (a n).status ≡ Linked → InTree h n
linked_in a h n t l = reached a h t (suc (length (h n).prefix)) n (omega arith) l

in_linked : {V : Type 0} (a : ℕ → Note) (h : ℕ → Node V) (n : ℕ) → Tree a h → InTree h n → (a n).status ≡ Linked
in_linked a h n t x = leads_linked a h t x.0 0 n t.root x.1

-- what a call has taken out
abbrev next_list : {C : Type 0} → (C → ℕ) → Option C → List ℕ
next_list number None = []
next_list number (Some c) = number c ∷ []

abbrev taken_list : {C V : Type 0} → (C → ℕ) → Phase C V → List ℕ
taken_list number (Obsolete m next p r) = number m ∷ next_list number next
taken_list number (Retire m next p r) = number m ∷ next_list number next
taken_list number _ = []

has_first : (x : ℕ) (xs : List ℕ) (n : ℕ) → n ≡ x → Contains (x ∷ xs) n
has_first x xs n e = let P : ℕ → Type 0 = λ y. Contains (x ∷ xs) y in subst P (sym e) (0, omega arith, refl)

has_more : (x : ℕ) (xs : List ℕ) (n : ℕ) → Contains xs n → Contains (x ∷ xs) n
has_more x xs n c = (suc c.0, omega (arith, c.1), c.2)

has_cases : (x : ℕ) (xs : List ℕ) (n : ℕ) → Contains (x ∷ xs) n → (n ≡ x) ⊎ Contains xs n
has_cases x xs n c = at c.0 c.1 c.2 where
  at : (k : ℕ) → k < length (x ∷ xs) → get_or (x ∷ xs) k n ≡ n → (n ≡ x) ⊎ Contains xs n
  at zero l e = inl (sym e)
  at (suc k) l e = inr (k, omega (arith, l), e)

next_has : {C : Type 0} (number : C → ℕ) (next : Option C) (n : ℕ) → IsMade number next n → Contains (next_list number next) n
next_has number None n l = absurd l
next_has number (Some c) n l = has_first (number c) [] n l

next_from : {C : Type 0} (number : C → ℕ) (next : Option C) (n : ℕ) → Contains (next_list number next) n → IsMade number next n
next_from number None n c = absurd (some_of [] n c refl)
next_from number (Some d) n c = elim (has_cases (number d) [] n c) [
  | inl q ↦ q
  | inr q ↦ absurd (some_of [] n q refl)
]

both_has : {C : Type 0} (number : C → ℕ) (m : C) (next : Option C) (n : ℕ) → (n ≡ number m) ⊎ IsMade number next n → Contains (number m ∷ next_list number next) n
both_has number m next n (inl q) = has_first (number m) (next_list number next) n q
both_has number m next n (inr q) = has_more (number m) (next_list number next) n (next_has number next n q)

both_from : {C : Type 0} (number : C → ℕ) (m : C) (next : Option C) (n : ℕ) → Contains (number m ∷ next_list number next) n → (n ≡ number m) ⊎ IsMade number next n
both_from number m next n c = elim (has_cases (number m) (next_list number next) n c) [
  | inl q ↦ inl q
  | inr q ↦ inr (next_from number next n q)
]

taken_has : {C V : Type 0} (number : C → ℕ) (s : Phase C V) (n : ℕ) → TakenBy number s n → Contains (taken_list number s) n
taken_has number (Obsolete m next p r) n x = both_has number m next n x
taken_has number (Retire m next p r) n x = both_has number m next n x
taken_has number _ n x = absurd x

taken_in : {C V : Type 0} (number : C → ℕ) (s : Phase C V) (n : ℕ) → Contains (taken_list number s) n → TakenBy number s n
taken_in number (Obsolete m next p r) n x = both_from number m next n x
taken_in number (Retire m next p r) n x = both_from number m next n x
taken_in number _ n x = absurd (some_of [] n x refl)

one_taken : {C V : Type 0} (number : C → ℕ) (s : Phase C V) → ((n : ℕ) × TakenBy number s n) ⊎ ((c : ℕ) → TakenBy number s c → ⊥)
one_taken number (Obsolete m next p r) = inl (number m, inl refl)
one_taken number (Retire m next p r) = inl (number m, inl refl)
one_taken number _ = inr (λ c q. q)

-- a node that a call took out is locked by it
pub taken_locked : {C V : Type 0} (number : C → ℕ) (s : Phase C V) (n : ℕ) → TakenBy number s n → LockedBy number s n
taken_locked number (Obsolete m next p r) n (inl x) = inl (inr x)
taken_locked number (Obsolete m next p r) n (inr x) = inr x
taken_locked number (Retire m next p r) n (inl x) = inl (inr x)
taken_locked number (Retire m next p r) n (inr x) = inr x
taken_locked number _ n x = absurd x

module _ {C V : Type 0} (number : C → ℕ) (same : V → V → Bool) (always : Bool) (i : ℕ) (a : ℕ → Note) (h : ℕ → Node V) (k : ℕ) (kind : Kind V) (given : Option V) where
  -- they are different ones
  apart : (next : Option C) (m : C) → AlsoOut number i a h (number m) next → AreOneOrTwo (number m ∷ next_list number next)
  apart None m x = tt
  apart (Some c) m x = λ e. x.3 (sym e)

  one_or_two : (s : Phase C V) (n : ℕ) → Known number same always i a h k (key_bytes k) kind given s → TakenBy number s n → AreOneOrTwo (taken_list number s)
  one_or_two (Obsolete m next p r) n x y = apart next m x.1
  one_or_two (Retire m next p r) n x y = apart next m x.1
  one_or_two _ n x y = absurd y

-- a node of the tree stays in it, or leaves it under the lock of the call
linked_after : {V : Type 0} (i : ℕ) (x y : Note) (p q : Node V) → Fares i x y p q → x.status ≡ Linked → is_published y.status ≡ true → (s : Status) → y.status ≡ s → (y.status ≡ Linked) ⊎ ((y.status ≡ Gone) × (y.owner ≡ Some i))
linked_after i x y p q f l u Linked e = inl e
linked_after i x y p q f l u Gone e = elim (f.gone e) [
  | inl o ↦ inr (e, o)
  | inr o ↦ absurd (let z : Linked ≡ Gone = sym l ∙ o.0 in cc)
]
linked_after i x y p q f l u _ e = let z : true ≡ false = sym u ∙ ap is_published e in absurd cc

module _ {C V : Type 0} (number : C → ℕ) (same : V → V → Bool) (always : Bool) (most : ℕ) (why : NodeType → Refusal → Type 0) (i : ℕ) (a : ℕ → Note) (h : ℕ → Node V) (a' : ℕ → Note) (h' : ℕ → Node V) (ms : List (Machine C V)) (m m' : Machine C V)
    (e : slice_get ms i ≡ Some m) (w : LockWords a h) (t : Tree a h) (t' : Tree a' h') (f : (n : ℕ) → Fares i (a n) (a' n) (h n) (h' n))
    (pub_kept : (n : ℕ) → is_published (a n).status ≡ true → is_published (a' n).status ≡ true) (w' : LockWords a' h')
    (own_was : (n : ℕ) → (a n).owner ≡ Some i → LockedBy number m.phase n) (own_is : (n : ℕ) → (a' n).owner ≡ Some i → LockedBy number m'.phase n)
    (x : Known number same always i a h m.key (key_bytes m.key) m.kind m.given m.phase) (x' : Known number same always i a' h' m.key (key_bytes m.key) m.kind m'.given m'.phase)
    (root : C) (fail : Bool) (answer : Option (Option V)) (d : NextPhase C V) (dm : d.phase ≡ m'.phase)
    (g : PhaseStepped number same always most why root (key_bytes m.key) m.kind fail answer m.given m.phase h m'.given d h')
    (leaves : (c : ℕ) → IsLeaving m.phase c → IsLeaving m'.phase c) (hands : StepHands number h ms i h' (set ms i m')) where
  -- what the call has taken out after the step was taken out before, or in the tree
  taken_from : (n : ℕ) → TakenBy number m'.phase n → TakenBy number m.phase n ⊎ ((a n).status ≡ Linked)
  taken_from n y =
      let z : IsTaken i a' h' n = taken_known number same always i a' h' m.key (key_bytes m.key) m.kind m'.given n m'.phase x' y in
      elim ((f n).owner i z.owner) [
        | inl o ↦ elim (locked_linked number same always i a h m.key (key_bytes m.key) m.kind m.given n t m.phase x (own_was n o)) [
          | inl l ↦ inr l
          | inr q ↦ inl q
        ]
        | inr o ↦ absurd (let v : Linked ≡ Gone = sym o.2 ∙ z.gone in cc)
      ]

  -- it stays in its hands until it is handed over
  taken_to : (n : ℕ) → TakenBy number m.phase n → ((h' n).retired ≡ true) ⊎ TakenBy number m'.phase n
  taken_to n y = elim (taken_on number same always i a h m.key m.kind m.given n most why root fail answer m.phase m'.given d h' g y) [
    | inl r ↦ inl r
    | inr r ↦ inr (let P : Phase C V → Type 0 = λ z. TakenBy number z n in subst P dm r)
  ]

  -- the nodes of the tree stay in it, but for one that the call takes out
  stays : (n : ℕ) → InTree h n → InTree h' n ⊎ (TakenBy number m'.phase n × ((a n).status ≡ Linked))
  stays n y =
      let l : (a n).status ≡ Linked = in_linked a h n t y in
      elim (linked_after i (a n) (a' n) (h n) (h' n) (f n) l (pub_kept n (ap is_published l)) (a' n).status refl) [
        | inl z ↦ inl (linked_in a' h' n t' z)
        | inr z ↦ inr (gone_taken number same always i a' h' m.key m.kind m'.given n t' m'.phase x' (own_is n z.1) z.0, l)
      ]

  not_gone : (n : ℕ) → TakenBy number m.phase n → (a n).status ≡ Linked → ⊥
  not_gone n y l = let z : Linked ≡ Gone = sym l ∙ (taken_known number same always i a h m.key (key_bytes m.key) m.kind m.given n m.phase x y).gone in cc

  at_place : (k : Machine C V) → slice_get ms i ≡ Some k → k ≡ m
  at_place k q = let z : Some k ≡ Some m = sym q ∙ e in cc

  mine_at : (j n : ℕ) → j ≡ i → (k : Machine C V) → slice_get ms j ≡ Some k → TakenBy number k.phase n → TakenBy number m.phase n
  mine_at j n q k s y =
      let P : ℕ → Type 0 = λ z. slice_get ms z ≡ Some k in
      let Q : Machine C V → Type 0 = λ z. TakenBy number z.phase n in subst Q (at_place k (subst P q s)) y

  abbrev Has : ℕ → ℕ → Type 0
  Has j n = (k : Machine C V) × (slice_get (set ms i m') j ≡ Some k) × TakenBy number k.phase n

  has_here : (j n : ℕ) → j ≡ i → TakenBy number m'.phase n → Has j n
  has_here j n q y = let P : ℕ → Type 0 = λ z. Has z n in subst P (sym q) (m', set_here ms i m' m e, y)

  -- a call that has nodes in its hands takes out no other
  taken_old : (n : ℕ) → TakenBy number m.phase n → (c : ℕ) → TakenBy number m'.phase c → TakenBy number m.phase c
  taken_old n y c z = by_phase m.phase y g (let P : Phase C V → Type 0 = λ v. TakenBy number v c in subst P (sym dm) z) where
    next_was : (next : Option C) (m p : C) (r : Reply V) → TakenBy number (after_retire {V = V} next p r).phase c → (c ≡ number m) ⊎ IsMade number next c
    next_was None m p r v = absurd v
    next_was (Some b) m p r (inl v) = inr v
    next_was (Some b) m p r (inr v) = absurd v

    by_phase : (s : Phase C V) → TakenBy number s n → PhaseStepped number same always most why root (key_bytes m.key) m.kind fail answer m.given s h m'.given d h' → TakenBy number d.phase c → TakenBy number s c
    by_phase (Obsolete b next p r) y g v = let P : NextPhase C V → Type 0 = λ u. TakenBy number u.phase c in subst P g.2 v
    by_phase (Retire b next p r) y g v = let P : NextPhase C V → Type 0 = λ u. TakenBy number u.phase c in next_was next b p r (subst P g.2 v)
    by_phase _ y g v = absurd y

  -- one that is leaving, with none in its hands, takes out none
  leaving_none : (k : ℕ) → IsLeaving m.phase k → ((c : ℕ) → TakenBy number m.phase c → ⊥) → (n : ℕ) → TakenBy number m'.phase n → ⊥
  leaving_none k v empty n z = by_phase m.phase v empty g (let P : Phase C V → Type 0 = λ v. TakenBy number v n in subst P (sym dm) z) where
    by_phase : (s : Phase C V) → IsLeaving s k → ((c : ℕ) → TakenBy number s c → ⊥) → PhaseStepped number same always most why root (key_bytes m.key) m.kind fail answer m.given s h m'.given d h' → TakenBy number d.phase n → ⊥
    by_phase (Obsolete b next p r) v empty g u = empty (number b) (inl refl)
    by_phase (Retire b next p r) v empty g u = empty (number b) (inl refl)
    by_phase (Unlock b r) v empty g u = let P : NextPhase C V → Type 0 = λ y. TakenBy number y.phase n in subst P g.2 u
    by_phase phase.Ended v empty g u = let P : NextPhase C V → Type 0 = λ y. TakenBy number y.phase n in subst P g.2 u
    by_phase _ v empty g u = v

  module _ (by took : ℕ → List ℕ) (l : Leaving by ms) (u : Due number by took ms) where
    -- a node that goes out of the call's hands was handed over by it
    handed_now : (n : ℕ) → TakenBy number m.phase n → (h' n).retired ≡ true → (by' : ℕ → List ℕ) → HandsAt by h i by' h' → Contains (by' i) n
    handed_now n y r by' z =
        let o : IsTaken i a h n = taken_known number same always i a h m.key (key_bytes m.key) m.kind m.given n m.phase x y in
        let s : Stands (h' n) = (w'.each n).stands (pub_kept n (ap is_published o.gone)) in
        let b : is_handed_over (h' n) ≡ true = rw (r, s.made, s.kept) refl in
        let c : is_handed_over (h n) ≡ false = rw o.unretired refl in
        by_hands z b c where
          by_hands : HandsAt by h i by' h' → is_handed_over (h' n) ≡ true → is_handed_over (h n) ≡ false → Contains (by' i) n
          by_hands (inl z) b c = absurd (let v : true ≡ false = sym b ∙ (z.nodes n ∙ c) in cc)
          by_hands (inr z) b c = elim (same_or_not n z.0) [
            | inl q ↦ (let R : List ℕ → Type 0 = λ v. Contains v n in
                let P : ℕ → Type 0 = λ v. Contains (by i ++ z.0 ∷ []) v in subst R (sym z.1.now) (subst P (sym q) (Contains-push (by i) z.0)))
            | inr ne ↦ absurd (let v : true ≡ false = sym b ∙ (z.1.nodes n ne ∙ c) in cc)
          ]

    -- what was handed over stays handed over
    given_on : (by' : ℕ → List ℕ) → HandsAt by h i by' h' → (j n : ℕ) → Contains (by j) n → Contains (by' j) n
    given_on by' (inl z) j n q = let R : List ℕ → Type 0 = λ v. Contains v n in subst R (sym (z.calls j)) q
    given_on by' (inr z) j n q = elim (same_or_not j i) [
      | inl b ↦ (let P : ℕ → Type 0 = λ c. Contains (by c) n in
          let R : List ℕ → Type 0 = λ v. Contains v n in
          let Q : ℕ → Type 0 = λ c. Contains (by' c) n in subst Q (sym b) (subst R (sym z.1.now) (Contains-append_left (by i) (z.0 ∷ []) n (subst P b q))))
      | inr ne ↦ (let R : List ℕ → Type 0 = λ v. Contains v n in subst R (sym (z.1.others j ne)) q)
    ]

    -- a call that took out no node has none in its hands
    idle_took : ((c : ℕ) → TakenBy number m.phase c → ⊥) → (n : ℕ) → TakenBy number m'.phase n → took i ≡ []
    idle_took empty n y = none_if (took i) (λ c q. elim (u.due i c q) [
      | inl b ↦ (let z : (k : Machine C V) × (slice_get ms i ≡ Some k) × IsLeaving k.phase (length (by i)) = l i (some_of (by i) c b) in
          let P : Machine C V → Type 0 = λ v. IsLeaving v.phase (length (by i)) in leaving_none (length (by i)) (subst P (at_place z.0 z.1) z.2) empty n y)
      | inr b ↦ empty c (mine_at i c refl b.0 b.1 b.2)
    ])

    -- what is due after the step, of the calls that took what they had taken before
    due_on : (took' : ℕ → List ℕ) → ((j n : ℕ) → Contains (took j) n → Contains (took' j) n) → ((j n : ℕ) → Contains (took' j) n → Contains (took j) n ⊎ ((j ≡ i) × TakenBy number m'.phase n)) → ((n : ℕ) → TakenBy number m'.phase n → Contains (took' i) n)
        → Due number (hands by l).0 took' (set ms i m')
    due_on took' on from mine = record {
      handed = λ j n q. elim ((hands by l).3 j n q) [
        | inl b ↦ on j n (u.handed j n b)
        | inr b ↦ on j n (u.held j n b.0 b.1 b.2)
      ];
      due = λ j n q. elim (from j n q) [
        | inl b ↦ due_was j n (u.due j n b)
        | inr b ↦ inr (has_here j n b.0 b.1)
      ];
      held = λ j n k q y. elim (get_set ms i j m' k q) [
        | inl b ↦ (let P : Machine C V → Type 0 = λ z. TakenBy number z.phase n in
            let Q : ℕ → Type 0 = λ z. Contains (took' z) n in subst Q (sym b.0) (mine n (subst P (sym b.1) y)))
        | inr b ↦ on j n (u.held j n k b.1 y)
      ];
    } where
      due_was : (j n : ℕ) → Contains (by j) n ⊎ ((k : Machine C V) × (slice_get ms j ≡ Some k) × TakenBy number k.phase n) → Contains ((hands by l).0 j) n ⊎ Has j n
      due_was j n (inl b) = inl (given_on (hands by l).0 (hands by l).1 j n b)
      due_was j n (inr b) = elim (same_or_not j i) [
        | inl q ↦ elim (taken_to n (mine_at j n q b.0 b.1 b.2)) [
          | inl r ↦ inl (let P : ℕ → Type 0 = λ z. Contains ((hands by l).0 z) n in subst P (sym q) (handed_now n (mine_at j n q b.0 b.1 b.2) r (hands by l).0 (hands by l).1))
          | inr r ↦ inr (has_here j n q r)
        ]
        | inr ne ↦ inr (b.0, set_apart ms i j m' b.0 ne b.1, b.2)
      ]

    takes_nothing : ((n : ℕ) → TakenBy number m'.phase n → TakenBy number m.phase n) → (took' : ℕ → List ℕ) × TakesAt took h i took' h' × Due number (hands by l).0 took' (set ms i m')
    takes_nothing old = (
      took,
      inl (record {
        calls = λ j. refl;
        tree = λ n y. elim (stays n y) [
          | inl z ↦ z
          | inr z ↦ absurd (not_gone n (old n z.0) z.1)
        ];
      }),
      due_on took (λ j n q. q) (λ j n q. inl q) (λ n y. u.held i n m e (old n y)),
    )

    takes_nodes : (n : ℕ) → TakenBy number m'.phase n → ((c : ℕ) → TakenBy number m.phase c → ⊥) → (took' : ℕ → List ℕ) × TakesAt took h i took' h' × Due number (hands by l).0 took' (set ms i m')
    takes_nodes n y empty =
        let xs : List ℕ = taken_list number m'.phase in
        let first : took i ≡ [] = idle_took empty n y in (
          giving took i (taken_list number m'.phase),
          inr (
            taken_list number m'.phase,
            record {
              first = first;
              few = one_or_two number same always i a' h' m.key m.kind m'.given m'.phase n x' y;
              now = giving_here took i (taken_list number m'.phase);
              others = λ j ne. giving_apart took i (taken_list number m'.phase) j ne;
              was = λ c z. elim (taken_from c (taken_in number m'.phase c z)) [
                | inl b ↦ absurd (empty c b)
                | inr b ↦ linked_in a h c t b
              ];
              out = λ c z. unlinked_out a' h' c t' (λ b. let v : Linked ≡ Gone = sym b ∙ (taken_known number same always i a' h' m.key (key_bytes m.key) m.kind m'.given c m'.phase x' (taken_in number m'.phase c z)).gone in cc);
              tree = λ c ne z. elim (stays c z) [
                | inl b ↦ b
                | inr b ↦ absurd (ne (taken_has number m'.phase c b.0))
              ];
            },
          ),
          due_on (giving took i (taken_list number m'.phase))
              (λ j c q. elim (same_or_not j i) [
                | inl z ↦ absurd (let P : ℕ → Type 0 = λ b. Contains (took b) c in some_of (took i) c (subst P z q) first)
                | inr ne ↦ (let R : List ℕ → Type 0 = λ v. Contains v c in subst R (sym (giving_apart took i (taken_list number m'.phase) j ne)) q)
              ])
              (λ j c q. elim (same_or_not j i) [
                | inl z ↦ (let P : ℕ → Type 0 = λ b. Contains (giving took i (taken_list number m'.phase) b) c in
                    let R : List ℕ → Type 0 = λ v. Contains v c in inr (z, taken_in number m'.phase c (subst R (giving_here took i (taken_list number m'.phase)) (subst P z q))))
                | inr ne ↦ inl (let R : List ℕ → Type 0 = λ v. Contains v c in subst R (giving_apart took i (taken_list number m'.phase) j ne) q)
              ])
              (λ c z. let R : List ℕ → Type 0 = λ v. Contains v c in subst R (sym (giving_here took i (taken_list number m'.phase))) (taken_has number m'.phase c z)),
        )

  -- every step
  pub step_takes : StepTakes number h ms i h' (set ms i m') hands
  step_takes by took l u = elim (one_taken number m.phase) [
    | inl z ↦ takes_nothing by took l u (λ n y. taken_old z.0 z.1 n y)
    | inr empty ↦ elim (one_taken number m'.phase) [
      | inl z ↦ takes_nodes by took l u z.0 z.1 empty
      | inr none ↦ takes_nothing by took l u (λ n y. absurd (none n y))
    ]
  ]

-- a call that isn't there takes nothing out
pub idle_takes : {C V : Type 0} (number : C → ℕ) (h : ℕ → Node V) (ms : List (Machine C V)) (i : ℕ) (hands : StepHands number h ms i h ms)
    → ((by : ℕ → List ℕ) (l : Leaving by ms) → (j : ℕ) → (hands by l).0 j ≡ by j) → StepTakes number h ms i h ms hands
idle_takes number h ms i hands same by took l u = (
  took,
  inl (record { calls = λ j. refl; tree = λ n y. y }),
  record {
    handed = λ j n q. u.handed j n (let R : List ℕ → Type 0 = λ v. Contains v n in subst R (same by l j) q);
    due = λ j n q. elim (u.due j n q) [
      | inl b ↦ inl (let R : List ℕ → Type 0 = λ v. Contains v n in subst R (sym (same by l j)) b)
      | inr b ↦ inr b
    ];
    held = u.held;
  },
)

-- no node is lost
accounts : {C V : Type 0} (number : C → ℕ) (a : ℕ → Note) (h : ℕ → Node V) (ms : List (Machine C V)) → Tree a h → Holdings number a h ms → (n : ℕ) → Stands (h n) → (s : Status) → (a n).status ≡ s
    → (InTree h n ⊎ (is_handed_over (h n) ≡ true)) ⊎ ((i : ℕ) × (m : Machine C V) × (slice_get ms i ≡ Some m) × (MadeBy number m.phase n ⊎ TakenBy number m.phase n))
accounts number a h ms t o n s Linked e = inl (inl (linked_in a h n t e))
accounts {C} {V} number a h ms t o n s (Held i) e = let x : (m : Machine C V) × (slice_get ms i ≡ Some m) × MadeBy number m.phase n = o.held n i e in inr (i, x.0, x.1, inl x.2)
accounts number a h ms t o n s Gone e = elim (o.gone n e) [
  | inl r ↦ inl (inr (rw (r, s.made, s.kept) refl))
  | inr x ↦ inr (x.0, x.1, x.2, inr x.3)
]
accounts number a h ms t o n s Unmade e = absurd (let z : true ≡ false = sym s.made ∙ o.unmade n e in cc)
accounts number a h ms t o n s Back e = absurd (let z : true ≡ false = sym (o.spent n (ap is_spent e)) ∙ s.kept in cc)
accounts number a h ms t o n s Destroyed e = absurd (let z : true ≡ false = sym (o.spent n (ap is_spent e)) ∙ s.kept in cc)

-- each node that stands is in the tree, waits, or is a call's between two of its steps
pub accounted : {C V : Type 0} (number : C → ℕ) (a : ℕ → Note) (h : ℕ → Node V) (ms : List (Machine C V)) → Tree a h → Holdings number a h ms → Accounted number h ms
accounted number a h ms t o n s = accounts number a h ms t o n s (a n).status refl

-- steps, one after another
leaves_more : {C V : Type 0} (took by : ℕ → List ℕ) (h : ℕ → Node V) (ss : List (Step C V)) (took1 by1 : ℕ → List ℕ) (h1 : ℕ → Node V) (s : Step C V) (took2 by2 : ℕ → List ℕ) (h2 : ℕ → Node V)
    → Leaves took by h ss took1 by1 h1 → TakesAt took1 h1 s.who took2 h2 → HandsAt by1 h1 s.who by2 h2 → ((i n : ℕ) → Contains (by2 i) n → Contains (took1 i) n) → Leaves took by h (ss ++ s ∷ []) took2 by2 h2
leaves_more {C} {V} took by h [] took1 by1 h1 s took2 by2 h2 r q b o =
    let A : (ℕ → Node V) → Type 0 = λ x. TakesAt took1 x s.who took2 h2 in
    let B : (ℕ → Node V) → Type 0 = λ x. HandsAt by1 x s.who by2 h2 in
    let P : (ℕ → List ℕ) → Type 0 = λ x. TakesAt x h s.who took2 h2 in
    let Q : (ℕ → List ℕ) → Type 0 = λ x. HandsAt x h s.who by2 h2 in
    let R : (ℕ → List ℕ) → Type 0 = λ x. (i n : ℕ) → Contains (by2 i) n → Contains (x i) n in
    (took2, by2, h2, subst P r.0 (subst A r.2 q), subst Q r.1 (subst B r.2 b), subst R r.0 o, (refl, refl, refl))
leaves_more took by h (x ∷ ss) took1 by1 h1 s took2 by2 h2 r q b o = (r.0, r.1, r.2, r.3, r.4, r.5, leaves_more r.0 r.1 r.2 ss took1 by1 h1 s took2 by2 h2 r.6 q b o)

-- with one more step: what a run's calls took out, that they hand it over, and that no node is lost
pub unlinking_more : {C V : Type 0} (number : C → ℕ) (by : ℕ → List ℕ) (h0 : ℕ → Node V) (ss : List (Step C V)) (h : ℕ → Node V) (ms : List (Machine C V)) (s : Step C V) (h' : ℕ → Node V) (ms' : List (Machine C V))
    (l : Leaving by ms) (hands : StepHands number h ms s.who h' ms') → StepTakes number h ms s.who h' ms' hands → Unlinking number by h0 ss h ms → Accounted number h' ms'
    → Unlinking number (hands by l).0 h0 (ss ++ s ∷ []) h' ms'
unlinking_more {C} {V} number by h0 ss h ms s h' ms' l hands takes u o =
    let x : (took' : ℕ → List ℕ) × TakesAt u.0 h s.who took' h' × Due number (hands by l).0 took' ms' = takes by u.0 l u.2 in (
      x.0,
      leaves_more (λ _. []) (λ _. []) h0 ss u.0 by h s x.0 (hands by l).0 h' u.1 x.1 (hands by l).1 (λ i n q. elim ((hands by l).3 i n q) [
        | inl b ↦ u.2.handed i n b
        | inr b ↦ u.2.held i n b.0 b.1 b.2
      ]),
      x.2,
      o,
    )

-- over no steps nothing is taken out, where no call has anything that it took out
pub unlinking_none : {C V : Type 0} (number : C → ℕ) (h : ℕ → Node V) (ms : List (Machine C V)) → ((i n : ℕ) (m : Machine C V) → slice_get ms i ≡ Some m → TakenBy number m.phase n → ⊥) → Accounted number h ms
    → Unlinking number (λ _. []) h [] h ms
unlinking_none number h ms empty o = (
  (λ _. []),
  (refl, refl, refl),
  record {
    handed = λ i n q. q;
    due = λ i n q. absurd (some_of [] n q refl);
    held = λ i n m q y. absurd (empty i n m q y);
  },
  o,
)
