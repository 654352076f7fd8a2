-- Where a store destroys nodes that no call names, the tree stands, and each call knows and holds what it did.
use Rattle.std.proofs.Common.{◌≡◌, ℕ, zero, suc, ◌⊎◌, inl, inr, Bool, true, false, List, length, get_or, refl, sym, ◌∙◌, ap, subst, arith}
use Rattle.std.specs.Prelude.{Option, None, Some, slice_get}
use Rattle.std.proofs.lemmas.List.Elements.{recursion_from_All}
use Rattle.congee.specs.declared.protocol.phase.Site.{Site}
use Rattle.congee.specs.declared.protocol.phase.Placement.{Placement}
use Rattle.congee.specs.declared.protocol.phase.Placement.TheVariants.{Set, Link}
use Rattle.congee.specs.declared.protocol.phase.Replacement.{Replacement}
use Rattle.congee.specs.declared.protocol.phase.Replacement.TheVariants.{Unlink, Grow, GrowLink, Split, Shrink, Collapse, ShrinkAbove}
use Rattle.congee.specs.declared.protocol.phase.Parent.{Parent}
use Rattle.congee.specs.declared.protocol.phase.ParentChange.{ParentChange}
use Rattle.congee.specs.declared.protocol.phase.Plan.{Plan}
use Rattle.congee.specs.declared.protocol.phase.Plan.TheVariants.{Here, Above}
use Rattle.congee.specs.declared.protocol.phase.Phase.{Phase}
use Rattle.congee.specs.declared.protocol.phase.Phase.TheVariants.{MakeGreater, MakeBeside, AskNew, CheckAbove, UpgradeHere, ChangeHere, UpgradeTop, UpgradeAbove, UpgradeBelow, ChangeAbove, Obsolete, Retire, UnlockBelow, Unlock, Unwind}
use Rattle.congee.specs.declared.protocol.machine.Machine.{Machine}
use Rattle.congee.specs.Heap.{Node, walk}
use Rattle.congee.specs.Keys.{key_bytes}
use Rattle.congee.specs.Notes.{Note, Status, Unmade, Held, Linked, Gone, Destroyed, is_published, is_spent, IsChild, HasParent, Tree, WordAt, LockWords}
use Rattle.congee.specs.protocol.Protocol.{Rely}
use Rattle.congee.specs.protocol.Answers.{SameMap}
use Rattle.congee.specs.protocol.Holdings.{IsTop, LockedBy, MadeForHere, MadeForAbove, MadeForPlan, IsMade, MadeBy, Holdings}
use Rattle.congee.specs.protocol.Names.{name_above, name_stamped, name_made, names_for_one, names_for_two, names_site, names_one, names_two, names_plan, names}
use Rattle.congee.specs.protocol.Play.{EachKnown, ProtocolAt, Settled}
use Rattle.congee.specs.protocol.Destroys.{Lost, Destroys, Spares}
use Rattle.congee.proofs.lemmas.protocol.Each.{Each, each_left, each_right}
use Rattle.congee.proofs.lemmas.Tree.{step_same}
use Rattle.congee.proofs.lemmas.protocol.Rely.{known_kept}

-- a call names what it has locked, and what it has made
module _ {C : Type 0} (number : C → ℕ) (K : ℕ → Type 0) (n : ℕ) where
  at_name : (c : C) → n ≡ number c → K (number c) → K n
  at_name c q k = subst K (sym q) k

  one_named : (change : Placement C) → Each K (names_for_one number change) → MadeForHere number change n → K n
  one_named Set e x = absurd x
  one_named (Link leaf) e x = at_name leaf x e.0

  two_named : (change : Replacement C) → Each K (names_for_two number change) → MadeForAbove number change n → K n
  two_named Unlink e x = absurd x
  two_named (Grow c) e x = at_name c x e.0
  two_named (Shrink c) e x = at_name c x e.0
  two_named Collapse e x = absurd x
  two_named (ShrinkAbove c) e x = at_name c x e.0
  two_named (GrowLink c leaf byte) e (inl x) = at_name c x e.0
  two_named (GrowLink c leaf byte) e (inr x) = at_name leaf x e.1.0
  two_named (Split top leaf common byte) e (inl x) = at_name top x e.0
  two_named (Split top leaf common byte) e (inr x) = at_name leaf x e.1.0

  -- what a change of two nodes names behind the two
  made_for_two : (two : ParentChange C) → Each K (names_two number two) → MadeForAbove number two.change n → K n
  made_for_two two e x = two_named two.change (each_right K (name_above number two.top) (names_for_two number two.change) e.1.1) x

  above_named : (top : Option (Parent C)) → Each K (name_above number top) → IsTop number top n → K n
  above_named None e x = absurd x
  above_named (Some p) e x = at_name p.stamp.node x e.0

  top_named : (two : ParentChange C) → Each K (names_two number two) → IsTop number two.top n → K n
  top_named two e x = above_named two.top (each_left K (name_above number two.top) (names_for_two number two.change) e.1.1) x

  next_named : (next : Option C) → Each K (name_made number next) → IsMade number next n → K n
  next_named None e x = absurd x
  next_named (Some c) e x = at_name c x e.0

  plan_named : (plan : Plan C) → Each K (names_plan number plan) → MadeForPlan number plan n → K n
  plan_named (Here check one) e x = one_named one.change (each_right K (name_stamped number check) (names_one number one) e).1 x
  plan_named (Above two) e x = made_for_two two e x

  leaf_named : (leaf : Option C) (s : Site C) → Each K (name_made number leaf) → IsMade number leaf n → K n
  leaf_named None s e x = absurd x
  leaf_named (Some leaf) s e x = at_name leaf x e.0

  module _ {V : Type 0} where
    made_named : (s : Phase C V) → Each K (names number s) → MadeBy number s n → K n
    made_named (MakeGreater s p leaf) e x = leaf_named leaf s (each_left K (name_made number leaf) (names_site number s) e.1) x
    made_named (MakeBeside p at common byte top) e x = at_name top x e.1.1.0
    made_named (AskNew plan) e x = plan_named plan e x
    made_named (CheckAbove p one r) e x = one_named one.change e.1.1 x
    made_named (UpgradeHere one r) e x = one_named one.change e.1 x
    made_named (ChangeHere one r) e x = one_named one.change e.1 x
    made_named (UpgradeTop g two r) e x = made_for_two two e.1 x
    made_named (UpgradeAbove two r) e x = made_for_two two e x
    made_named (UpgradeBelow two r) e x = made_for_two two e x
    made_named (ChangeAbove two r) e x = made_for_two two e x
    made_named _ e x = absurd x

    locked_named : (s : Phase C V) → Each K (names number s) → LockedBy number s n → K n
    locked_named (ChangeHere one r) e x = at_name one.at.node x e.0
    locked_named (UpgradeAbove two r) e x = top_named two e x
    locked_named (UpgradeBelow two r) e (inl x) = at_name two.above.stamp.node x e.0
    locked_named (UpgradeBelow two r) e (inr x) = top_named two e x
    locked_named (ChangeAbove two r) e (inl (inl x)) = at_name two.above.stamp.node x e.0
    locked_named (ChangeAbove two r) e (inl (inr x)) = at_name two.at.node x e.1.0
    locked_named (ChangeAbove two r) e (inr x) = top_named two e x
    locked_named (Obsolete m next p r) e (inl (inl x)) = at_name p x e.1.0
    locked_named (Obsolete m next p r) e (inl (inr x)) = at_name m x e.0
    locked_named (Obsolete m next p r) e (inr x) = next_named next e.1.1 x
    locked_named (Retire m next p r) e (inl (inl x)) = at_name p x e.1.0
    locked_named (Retire m next p r) e (inl (inr x)) = at_name m x e.0
    locked_named (Retire m next p r) e (inr x) = next_named next e.1.1 x
    locked_named (UnlockBelow m p r) e (inl x) = at_name p x e.1.0
    locked_named (UnlockBelow m p r) e (inr x) = at_name m x e.0
    locked_named (Unlock m r) e x = at_name m x e.0
    locked_named (Unwind m next f) e (inl x) = at_name m x e.0
    locked_named (Unwind m next f) e (inr x) = next_named next e.1 x
    locked_named _ e x = absurd x

-- the note of a destroyed node, and of one that is as it was

-- the note of a node that is as it was, or was destroyed
pub note_after : {V : Type 0} (x : Note) (p q : Node V) → (q ≡ p) ⊎ Lost p q → Note
note_after x p q (inl e) = x
note_after x p q (inr l) = record x { status = Destroyed; owner = None }

abbrev Fate : {V : Type 0} → Note → Note → Node V → Node V → Type 0
Fate x y p q = ((q ≡ p) × (y ≡ x)) ⊎ (Lost p q × (y.status ≡ Destroyed) × (y.owner ≡ None))

fate_after : {V : Type 0} (x : Note) (p q : Node V) (u : (q ≡ p) ⊎ Lost p q) → Fate x (note_after x p q u) p q
unfolding note_after
fate_after x p q (inl e) = inl (e, refl)
fate_after x p q (inr l) = inr (l, refl, refl)

module _ {C V : Type 0} (number : C → ℕ) (same : V → V → Bool) (always : Bool) (a : ℕ → Note) (h : ℕ → Node V) (ms : List (Machine C V)) (a' : ℕ → Note) (h' : ℕ → Node V)
    (p : ProtocolAt number same always a h ms) (s : Holdings number a h ms) (d : Destroys number h ms h') (fate : (n : ℕ) → Fate (a n) (a' n) (h n) (h' n)) where
  -- a node that is as it was has its note
  noted : (n : ℕ) → h' n ≡ h n → a' n ≡ a n
  noted n e = elim (fate n) [
    | inl x ↦ x.1
    | inr x ↦ absurd (let f : (h n).destroyed ≡ true = sym (ap (λ z. z.destroyed) e) ∙ x.0.destroyed in let g : (h n).destroyed ≡ false = x.0.stood in cc)
  ]

  was : (n : ℕ) (st : Status) → (a' n).status ≡ st → (st ≡ Destroyed → ⊥) → (h' n ≡ h n) × (a' n ≡ a n)
  was n st e ne = elim (fate n) [
    | inl x ↦ x
    | inr x ↦ absurd (ne (sym e ∙ x.1))
  ]

  linked_was : (n : ℕ) → (a' n).status ≡ Linked → (h' n ≡ h n) × (a' n ≡ a n)
  linked_was n e = was n Linked e (λ z. cc)

  linked_stays : (n : ℕ) → (a n).status ≡ Linked → (h' n ≡ h n) × (a' n ≡ a n)
  linked_stays n e = elim (fate n) [
    | inl x ↦ x
    | inr x ↦ absurd (let f : (h n).retired ≡ false = (p.words.each n).unretired e in let g : (h n).retired ≡ true = x.0.handed in cc)
  ]

  before : (n : ℕ) (st : Status) → a' n ≡ a n → (a' n).status ≡ st → (a n).status ≡ st
  before n st q e = sym (ap (λ z. z.status) q) ∙ e

  tree_stays : Tree a' h'
  tree_stays = record {
    root = ap (λ z. z.status) (linked_stays 0 p.tree.root).1 ∙ p.tree.root;
    empty = ap (λ z. z.prefix) (linked_stays 0 p.tree.root).0 ∙ p.tree.empty;
    short = λ n l. let k : (h' n ≡ h n) × (a' n ≡ a n) = linked_was n l in rw k.0 (p.tree.short n (before n Linked k.1 l));
    leaves = λ n b v l e. let k : (h' n ≡ h n) × (a' n ≡ a n) = linked_was n l in
        rw k.0 (p.tree.leaves n b v (before n Linked k.1 l) (sym (ap (λ z. z.children b) k.0) ∙ e));
    down = λ n b c l e.
        let k : (h' n ≡ h n) × (a' n ≡ a n) = linked_was n l in
        let i : IsChild a h n b c = p.tree.down n b c (before n Linked k.1 l) (sym (ap (λ z. z.children b) k.0) ∙ e) in
        let kc : (h' c ≡ h c) × (a' c ≡ a c) = linked_stays c i.linked in
        record {
          linked = ap (λ z. z.status) kc.1 ∙ i.linked;
          parent = ap (λ z. z.parent) kc.1 ∙ i.parent;
          fitted = rw (k.0, kc.0) i.fitted;
          longer = rw (k.0, kc.0) i.longer;
          byte = rw (k.0, kc.0) i.byte;
        };
    up = λ n l ne.
        let k : (h' n ≡ h n) × (a' n ≡ a n) = linked_was n l in
        let u : HasParent a h n = p.tree.up n (before n Linked k.1 l) ne in
        let q : (a' n).parent ≡ (a n).parent = ap (λ z. z.parent) k.1 in
        let kp : (h' (a n).parent ≡ h (a n).parent) × (a' (a n).parent ≡ a (a n).parent) = linked_stays (a n).parent u.linked in
        record {
          linked = rw q (ap (λ z. z.status) kp.1 ∙ u.linked);
          byte = u.byte;
          holds = rw q (ap (λ z. z.children u.byte) kp.0 ∙ u.holds);
        };
  }

  word_stays : (n : ℕ) → WordAt (a' n) (h' n)
  word_stays n = elim (fate n) [
    | inl x ↦ (let P : Note → Type 0 = λ y. WordAt y (h' n) in let Q : Node V → Type 0 = λ z. WordAt (a n) z in subst P (sym x.1) (subst Q (sym x.0) (p.words.each n)))
    | inr x ↦ record {
      free = λ _. x.2;
      gone = λ e. absurd (let z : Gone ≡ Destroyed = sym e ∙ x.1 in cc);
      unmade = λ e. absurd (let z : (h' n).made ≡ true = x.0.made in cc);
      stands = λ e. absurd (let z : is_published (a' n).status ≡ false = ap is_published x.1 in cc);
      unretired = λ e. absurd (let z : Linked ≡ Destroyed = sym e ∙ x.1 in cc);
      live = λ e. absurd (let z : Linked ≡ Destroyed = sym e ∙ x.1 in cc);
      keyed = λ e. absurd (let z : Linked ≡ Destroyed = sym e ∙ x.1 in cc);
    }
  ]

  words_stay : LockWords a' h'
  words_stay = record { each = word_stays; wide = ap (λ z. z.capacity) (linked_stays 0 p.tree.root).0 ∙ p.words.wide }

  abbrev Kept_node : ℕ → Type 0
  Kept_node n = h' n ≡ h n

  named : (i : ℕ) (m : Machine C V) → slice_get ms i ≡ Some m → Each Kept_node (names number m.phase)
  named i m e = recursion_from_All Kept_node (names number m.phase) (d.named i m e)

  rely : (i : ℕ) → Rely Kept_node i a h a' h'
  rely i = record {
    version = λ n k q. rw k (omega arith);
    prefix = λ n k q. ap (λ z. z.prefix) k;
    published = λ n k q. ap (λ z. is_published z.status) (noted n k) ∙ q;
    word = λ n v k q up t. k;
    mine = λ n o.
        let x : (m : Machine C V) × (slice_get ms i ≡ Some m) × LockedBy number m.phase n = s.owned n i o in
        let k : h' n ≡ h n = locked_named number Kept_node n x.0.phase (named i x.0 x.1) x.2 in
        (k, ap (λ z. z.status) (noted n k), ap (λ z. z.owner) (noted n k));
    held = λ n o.
        let x : (m : Machine C V) × (slice_get ms i ≡ Some m) × MadeBy number m.phase n = s.held n i o in
        let k : h' n ≡ h n = made_named number Kept_node n x.0.phase (named i x.0 x.1) x.2 in
        (k, noted n k);
  }

  protocol_stays : ProtocolAt number same always a' h' ms
  protocol_stays = record {
    tree = tree_stays;
    words = words_stay;
    each = λ i m e. let o : EachKnown number same always a h i m = p.each i m e in record {
      root = o.root;
      key = o.key;
      known = known_kept number same always Kept_node i a h a' h' (rely i) m.key (key_bytes m.key) m.kind m.given m.phase (named i m e) o.known;
    };
  }

  holdings_stay : Holdings number a' h' ms
  holdings_stay = record {
    owned = λ n i o. elim (fate n) [
      | inl x ↦ s.owned n i (sym (ap (λ z. z.owner) x.1) ∙ o)
      | inr x ↦ absurd (let z : Some i ≡ None = sym o ∙ x.2 in cc)
    ];
    held = λ n i o. elim (fate n) [
      | inl x ↦ s.held n i (sym (ap (λ z. z.status) x.1) ∙ o)
      | inr x ↦ absurd (let z : Held i ≡ Destroyed = sym o ∙ x.1 in cc)
    ];
    locked = λ n l o.
        let k : (h' n ≡ h n) × (a' n ≡ a n) = linked_was n l in
        let x : (i : ℕ) × ((a n).owner ≡ Some i) = s.locked n (before n Linked k.1 l) (sym (ap (λ z. z.locked) k.0) ∙ o) in
        (x.0, ap (λ z. z.owner) k.1 ∙ x.1);
    gone = λ n g. elim (fate n) [
      | inl x ↦ elim (s.gone n (sym (ap (λ z. z.status) x.1) ∙ g)) [
        | inl r ↦ inl (ap (λ z. z.retired) x.0 ∙ r)
        | inr y ↦ inr y
      ]
      | inr x ↦ absurd (let z : Gone ≡ Destroyed = sym g ∙ x.1 in cc)
    ];
    spent = λ n g. elim (fate n) [
      | inl x ↦ ap (λ z. z.destroyed) x.0 ∙ s.spent n (sym (ap (λ z. is_spent z.status) x.1) ∙ g)
      | inr x ↦ x.0.destroyed
    ];
    unmade = λ n g. elim (fate n) [
      | inl x ↦ ap (λ z. z.made) x.0 ∙ s.unmade n (sym (ap (λ z. z.status) x.1) ∙ g)
      | inr x ↦ absurd (let z : Unmade ≡ Destroyed = sym g ∙ x.1 in cc)
    ];
  }

  walk_stays : (f n : ℕ) (key : List ℕ) → (a n).status ≡ Linked → walk h' f n key ≡ walk h f n key
  walk_stays zero n key l = refl
  walk_stays (suc f) n key l =
      let k : h' n ≡ h n = (linked_stays n l).0 in
      step_same h h' f f n key (ap (λ z. z.prefix) k) (λ _. ap (λ z. z.children (get_or key (length (h n).prefix) 0)) k) (λ c e. walk_stays f c key (p.tree.down n _ c l e).linked)

  all_stays : Settled number same always h' ms × SameMap h h'
  all_stays = ((a', protocol_stays, holdings_stay), λ x _. walk_stays 8 0 x p.tree.root)

-- the law of a store that destroys nodes
pub spares : {C V : Type 0} (number : C → ℕ) (same : V → V → Bool) (always : Bool) (h : ℕ → Node V) (ms : List (Machine C V)) → Spares number same always h ms
spares number same always h ms a h' p s d =
    all_stays number same always a h ms (λ n. note_after (a n) (h n) (h' n) (d.each n)) h' p s d (λ n. fate_after (a n) (h n) (h' n) (d.each n))

-- what it leaves, for more that calls are about to do
abbrev spared_notes : {C V : Type 0} (number : C → ℕ) (a : ℕ → Note) (h : ℕ → Node V) (ms : List (Machine C V)) (h' : ℕ → Node V) → Destroys number h ms h' → ℕ → Note
spared_notes number a h ms h' d n = note_after (a n) (h n) (h' n) (d.each n)

module _ {C V : Type 0} (number : C → ℕ) (same : V → V → Bool) (always : Bool) (a : ℕ → Note) (h : ℕ → Node V) (ms : List (Machine C V)) (h' : ℕ → Node V)
    (p : ProtocolAt number same always a h ms) (s : Holdings number a h ms) (d : Destroys number h ms h') where
  -- over the destruction a call may count on each node that is as it was
  pub spared_rely : (i : ℕ) → Rely (λ n. h' n ≡ h n) i a h (spared_notes number a h ms h' d) h'
  spared_rely i = rely number same always a h ms (spared_notes number a h ms h' d) h' p s d (λ n. fate_after (a n) (h n) (h' n) (d.each n)) i

  -- each node that a call names is as it was
  pub spared_named : (i : ℕ) (m : Machine C V) → slice_get ms i ≡ Some m → Each (λ n. h' n ≡ h n) (names number m.phase)
  spared_named i m e = named number same always a h ms (spared_notes number a h ms h' d) h' p s d (λ n. fate_after (a n) (h n) (h' n) (d.each n)) i m e

  -- each node of the tree is as it was
  pub spared_linked : (n : ℕ) → (a n).status ≡ Linked → h' n ≡ h n
  spared_linked n l = (linked_stays number same always a h ms (spared_notes number a h ms h' d) h' p s d (λ n. fate_after (a n) (h n) (h' n) (d.each n)) n l).0
