-- Every step of a call leaves the tree filled, and what the call and the others are about to do.
use Rattle.std.proofs.Common.{◌≡◌, ◌≢◌, ℕ, suc, ◌<◌, ◌≤◌, ◌==◌, ◌&&◌, ◌⊎◌, inl, inr, Bool, true, false, List, length, refl, sym, ◌∙◌, ap, subst, arith}
use Rattle.std.proofs.lemmas.Bool.Decides.{nat_tests}
use Rattle.std.specs.Prelude.{ltb, leb, Option, None, Some, Result, Ok, Err}
use Rattle.judge.specs.declared.journal.Reply.{Reply}
use Rattle.judge.specs.declared.journal.Reply.TheVariants as reply
use Rattle.congee.specs.declared.forms.base_node.NodeType.{NodeType}
use Rattle.congee.specs.declared.forms.base_node.NodeType.TheVariants.{N4, N16, N48, N256}
use Rattle.congee.specs.declared.forms.child.Child.{Child}
use Rattle.congee.specs.declared.forms.child.Child.TheVariants as child
use Rattle.congee.specs.declared.protocol.store.Reading.{Reading}
use Rattle.congee.specs.declared.protocol.store.Reading.TheVariants.{Differs, Fits, Uncopied}
use Rattle.congee.specs.declared.protocol.store.Refusal.{Refusal}
use Rattle.congee.specs.declared.protocol.store.Refusal.TheVariants as refusal
use Rattle.congee.specs.declared.protocol.store.Stamp.{Stamp}
use Rattle.congee.specs.declared.protocol.store.Upgrade.{Upgrade}
use Rattle.congee.specs.declared.protocol.store.Upgrade.TheVariants.{Locked, Failed, Exhausted}
use Rattle.congee.specs.declared.protocol.phase.Kind.{Kind}
use Rattle.congee.specs.declared.protocol.phase.Kind.TheVariants.{Get, Insert, Remove, ComputePresent, ComputeInsert, Exchange}
use Rattle.congee.specs.declared.protocol.phase.Parent.{Parent}
use Rattle.congee.specs.declared.protocol.phase.Above.{Above as Over}
use Rattle.congee.specs.declared.protocol.phase.Site.{Site}
use Rattle.congee.specs.declared.protocol.phase.Placement.{Placement}
use Rattle.congee.specs.declared.protocol.phase.Placement.TheVariants.{Set, Link}
use Rattle.congee.specs.declared.protocol.phase.NodeChange.{NodeChange}
use Rattle.congee.specs.declared.protocol.phase.Replacement.{Replacement}
use Rattle.congee.specs.declared.protocol.phase.Replacement.TheVariants.{Unlink, Grow, GrowLink, Split, Shrink, Collapse, ShrinkAbove}
use Rattle.congee.specs.declared.protocol.phase.ParentChange.{ParentChange}
use Rattle.congee.specs.declared.protocol.phase.Plan.{Plan}
use Rattle.congee.specs.declared.protocol.phase.Plan.TheVariants.{Here, Above}
use Rattle.congee.specs.declared.protocol.phase.Phase.{Phase}
use Rattle.congee.specs.declared.protocol.phase.Phase.TheVariants.{New, Version, Read, Check, CheckUncopied, CheckMiss, CheckDown, CheckOld, MakeLeaf, MakeGreater, MakeTop, MakeBeside, MakeLesser, AskOld, AskNew, Confirm, CheckAbove, UpgradeHere, UpgradeTop, UpgradeAbove, UpgradeBelow, ChangeAbove, Retire, Unwind, Scan}
use Rattle.congee.specs.declared.protocol.next_phase.NextPhase.{NextPhase}
use Rattle.congee.specs.Heap.{Node, Nothing, Below, Holds, child_for, is_taken, is_free, version_of}
use Rattle.congee.specs.Notes.{Note, Linked, is_published, IsChild, Tree, LockWords}
use Rattle.congee.specs.protocol.Events.{places, hung, SameBut, NewNode, upgrade_gives}
use Rattle.congee.specs.protocol.Steps.{quiet, answered, refused, adds, form_above, form_below, shrinks, after_version, after_read, down, started, ready, plan_here, unless_full, missing, absent, CopyFailed, IsAsked, replaced, set_at, both, last_out, taken_out, emptied, is_same, IsAtOld, IsAdded, IsExchanged, IsPresent, IsChecked, IsIf, after_miss, IsGiven, IsGivenNew, MadeLeaf, MadeGreater, MadeTop, MadeBeside, MadeLesser, unwound, given_up, UpgradedHere, UpgradedTop, UpgradedAbove, UpgradedBelow, after_top, after_change, after_retire, after_unwind, PhaseStepped}
use Rattle.congee.specs.Keys.{key_bytes}
use Rattle.congee.specs.protocol.Protocol.{ChildOf, IsFar, IsAbove, Sees, Knows, HasGift, Known}
use Rattle.congee.specs.protocol.Filled.{least_in, places_in, FilledAs, IsFilled, AllFilledBy, FilledWithout, FillsHere, FillsAbove, FillsAt, MayFillHere, MayFillHalf, MayFillAbove, MayFillPlan, IsSmall, Fills}
use Rattle.congee.proofs.lemmas.Fits.{both_true, same_test}
use Rattle.congee.proofs.lemmas.Graft.{on_test}
use Rattle.congee.proofs.lemmas.Tree.{same_or_not}
use Rattle.congee.proofs.lemmas.protocol.Touch.{by_test, taken_linked}
use Rattle.congee.proofs.lemmas.protocol.Locks.{locked_taken}
use Rattle.congee.proofs.lemmas.protocol.Plans.{at_leaf}
use Rattle.congee.proofs.lemmas.protocol.Filling.{enough, least_of, filled_same, Alike, alike_same, Still, was_filled}

-- what is left of a node that isn't too small, or gives place to a lesser one, or to a greater one
less_or : (n m : ℕ) → leb n m ≡ false → m < n
less_or n m e = grind (arith, nat_tests)

not_one : (n : ℕ) → n == 1 ≡ false → n ≢ 1
not_one n e q = let z : n == 1 ≡ true = same_test n 1 q in cc

not_two : (n : ℕ) → n == 2 ≡ false → n ≢ 2
not_two n e q = let z : n == 2 ≡ true = same_test n 2 q in cc

spared : (form : NodeType) (n k : ℕ) → shrinks form n ≡ false → suc k ≡ n → least_in form ≤ k
spared N4 n k e s = omega arith
spared N16 n k e s = omega (arith, s, less_or n 4 e)
spared N48 n k e s = omega (arith, s, less_or n 13 e)
spared N256 n k e s = omega (arith, s, less_or n 41 e)

lessened : (form : NodeType) (n k : ℕ) → least_in form ≤ n → suc k ≡ n → least_in (form_below form) ≤ k
lessened N4 n k l s = omega arith
lessened N16 n k l s = omega arith
lessened N48 n k l s = omega (arith, s, l)
lessened N256 n k l s = omega (arith, s, l)

grown : (n : ℕ) → least_in (form_above n) ≤ suc n
grown n = by_test (λ (x : NodeType). least_in x ≤ suc n) (ltb n 4) _ _ (λ _. omega arith)
    (λ a. by_test (λ (x : NodeType). least_in x ≤ suc n) (ltb n 16) _ _ (λ _. omega (arith, at_least n 4 a))
    (λ b. by_test (λ (x : NodeType). least_in x ≤ suc n) (ltb n 48) _ _ (λ _. omega (arith, at_least n 16 b)) (λ c. omega (arith, at_least n 48 c))))
  where
    at_least : (n m : ℕ) → ltb n m ≡ false → m ≤ n
    at_least n m e = grind (arith, nat_tests)

module _ {V : Type 0} (a : ℕ → Note) (h : ℕ → Node V) (w : LockWords a h) where
  -- where no node changed, what was in the tree is as it was
  pub still_equal : (h' : ℕ → Node V) → h' ≡ h → Still a h h'
  still_equal h' e n l = alike_same (h n) (h' n) (ap (λ g. g n) e)

  -- where one node alone changed, and kept prefix, children and places, what was in the tree is as it was
  pub still_but : (h' : ℕ → Node V) (c : ℕ) (x : Node V) → Alike (h c) x → SameBut h c x h' → Still a h h'
  still_but h' c x s g n l = elim (same_or_not n c) [
    | inl e ↦ (let P : ℕ → Type 0 = λ y. Alike (h y) (h' y) in let Q : Node V → Type 0 = λ y. Alike (h c) y in subst P (sym e) (subst Q (sym g.after) s))
    | inr ne ↦ alike_same (h n) (h' n) (g.others n ne)
  ]

  -- a new node was no node of the tree, nor one that a call has made
  new_apart : (h' : ℕ → Node V) (c : ℕ) (form : NodeType) (key : List ℕ) (size n : ℕ) → NewNode h c form key size h' → (h n).made ≡ true → n ≢ c
  new_apart h' c form key size n g m e = let P : ℕ → Type 0 = λ y. (h y).made ≡ true in let z : true ≡ false = sym (subst P e m) ∙ g.unmade in absurd cc

  published_made : (n : ℕ) → is_published (a n).status ≡ true → (h n).made ≡ true
  published_made n p = ((w.each n).stands p).made

  -- where a new node was made, what was in the tree is as it was
  pub still_new : (h' : ℕ → Node V) (c : ℕ) (form : NodeType) (key : List ℕ) (size : ℕ) → NewNode h c form key size h' → Still a h h'
  still_new h' c form key size g n l = alike_same (h n) (h' n) (g.others n (new_apart h' c form key size n g (published_made n (ap is_published l))))

-- a node whose word is free after a lock is another one, and as it was
free_after : {V : Type 0} (h : ℕ → Node V) (c : ℕ) (h' : ℕ → Node V) → SameBut h c (record (h c) { locked = true }) h' → (n v : ℕ) → is_taken (h' n) v ≡ true → h' n ≡ h n
free_after {V} h c h' g n v e = elim (same_or_not n c) [
  | inl q ↦ (let P : ℕ → Type 0 = λ y. is_taken (h' y) v ≡ true in let Q : Node V → Type 0 = λ y. is_free y ≡ true in
      let z : false ≡ true = subst Q g.after (both_true _ _ (subst P q e)).1 in absurd cc)
  | inr ne ↦ g.others n ne
]

-- the lock of one node leaves prefix, children and places of each
pub locked_alike : {V : Type 0} (h : ℕ → Node V) (c : ℕ) (h' : ℕ → Node V) → SameBut h c (record (h c) { locked = true }) h' → (n : ℕ) → Alike (h n) (h' n)
locked_alike {V} h c h' g n = elim (same_or_not n c) [
  | inl e ↦ (let P : ℕ → Type 0 = λ y. Alike (h y) (h' y) in let Q : Node V → Type 0 = λ y. Alike (h c) y in
      subst P (sym e) (subst Q (sym g.after) (record { prefix = refl; children = λ b. refl; count = refl; capacity = refl })))
  | inr ne ↦ alike_same (h n) (h' n) (g.others n ne)
]

module _ {C V : Type 0} (number : C → ℕ) (h h' : ℕ → Node V) where
  -- the made nodes of a change have as many places
  abbrev pub PlacesHere : Placement C → Type 0
  PlacesHere Set = Unit {0}
  PlacesHere (Link leaf) = (h' (number leaf)).capacity ≡ (h (number leaf)).capacity

  -- the made nodes of a change of two have as many places
  abbrev pub PlacesAbove : Replacement C → Type 0
  PlacesAbove Unlink = Unit {0}
  PlacesAbove Collapse = Unit {0}
  PlacesAbove (ShrinkAbove c) = (h' (number c)).capacity ≡ (h (number c)).capacity
  PlacesAbove (Shrink c) = (h' (number c)).capacity ≡ (h (number c)).capacity
  PlacesAbove (Grow c) = (h' (number c)).capacity ≡ (h (number c)).capacity
  PlacesAbove (GrowLink c leaf byte) = ((h' (number c)).capacity ≡ (h (number c)).capacity) × ((h' (number leaf)).capacity ≡ (h (number leaf)).capacity)
  PlacesAbove (Split top leaf common byte) = ((h' (number top)).capacity ≡ (h (number top)).capacity) × ((h' (number leaf)).capacity ≡ (h (number leaf)).capacity)

  places_one : (change : Placement C) → ((n : ℕ) → (h' n).capacity ≡ (h n).capacity) → PlacesHere change
  places_one Set e = tt
  places_one (Link leaf) e = e (number leaf)

  places_two : (change : Replacement C) → ((n : ℕ) → (h' n).capacity ≡ (h n).capacity) → PlacesAbove change
  places_two Unlink e = tt
  places_two Collapse e = tt
  places_two (ShrinkAbove c) e = e (number c)
  places_two (Shrink c) e = e (number c)
  places_two (Grow c) e = e (number c)
  places_two (GrowLink c leaf byte) e = (e (number c), e (number leaf))
  places_two (Split top leaf common byte) e = (e (number top), e (number leaf))

module _ {C V : Type 0} (by_form : Bool) (number : C → ℕ) (h h' : ℕ → Node V) where
  without_on : (s s' c c' k k' : ℕ) → s' ≡ s → c' ≡ c → k' ≡ k → FilledWithout s c (places_in by_form k) → FilledWithout s' c' (places_in by_form k')
  without_on s s' c c' k k' es ec ek x j e = filled_same by_form s j k s' j k' es refl ek (x j (e ∙ ec))

  -- what a change of one node leaves filled, it leaves so where the node is alike
  pub fills_one_on : (change : Placement C) (given : Option V) (k : ℕ) (n n' : Node V) → Alike n n' → PlacesHere number h h' change → FillsHere by_form number h change given k n → FillsHere by_form number h' change given k n'
  fills_one_on (Link leaf) given k n n' s e x = e ∙ x
  fills_one_on Set None k n n' s e x = λ nz. without_on (length n.prefix) (length n'.prefix) n.count n'.count n.capacity n'.capacity (ap length s.prefix) s.count s.capacity (x nz)
  fills_one_on Set (Some v) k n n' s e x = tt

  -- what a change of two nodes leaves filled, it leaves so where both nodes are alike
  pub fills_two_on : (change : Replacement C) (m : ℕ) (q q' : Node V) (k : ℕ) (n n' : Node V) → Alike q q' → Alike n n' → PlacesAbove number h h' change → FillsAbove by_form number h change m q k n → FillsAbove by_form number h' change m q' k n'
  fills_two_on Unlink m q q' k n n' sq sn e x = λ nz. without_on (length q.prefix) (length q'.prefix) q.count q'.count q.capacity q'.capacity (ap length sq.prefix) sq.count sq.capacity (x nz)
  fills_two_on Collapse m q q' k n n' sq sn e x = tt
  fills_two_on (ShrinkAbove c) m q q' k n n' sq sn e x = λ nz. without_on (length q.prefix) (length q'.prefix) q.count q'.count (h (number c)).capacity (h' (number c)).capacity (ap length sq.prefix) sq.count e (x nz)
  fills_two_on (Shrink c) m q q' k n n' sq sn e x = λ nz. without_on (length n.prefix) (length n'.prefix) n.count n'.count (h (number c)).capacity (h' (number c)).capacity (ap length sn.prefix) sn.count e (x nz)
  fills_two_on (Grow c) m q q' k n n' sq sn e x = λ nz. filled_same by_form (length n.prefix) (suc n.count) (h (number c)).capacity (length n'.prefix) (suc n'.count) (h' (number c)).capacity (ap length sn.prefix) (ap suc sn.count) e (x nz)
  fills_two_on (GrowLink c leaf byte) m q q' k n n' sq sn e x =
      ((λ nz. filled_same by_form (length n.prefix) (suc n.count) (h (number c)).capacity (length n'.prefix) (suc n'.count) (h' (number c)).capacity (ap length sn.prefix) (ap suc sn.count) e.0 (x.0 nz)), e.1 ∙ x.1)
  fills_two_on (Split top leaf common byte) m q q' k n n' sq sn e x = (e.0 ∙ x.0, e.1 ∙ x.1)

-- what the call is about to do, after a step that leaves the nodes
module _ {C V : Type 0} (by_form : Bool) (number : C → ℕ) (h : ℕ → Node V) where
  -- what the call does next leaves the tree filled
  abbrev pub Next : Option V → NextPhase C V → Type 0
  Next given next_phase = Fills by_form number h given next_phase.phase

  next_phase_at : (given : Option V) (x next_phase : NextPhase C V) → next_phase ≡ x → Next given x → Next given next_phase
  next_phase_at given x next_phase e n = let P : NextPhase C V → Type 0 = λ y. Next given y in subst P (sym e) n

  started_next : (v : V) (plan : Plan C) (r : Reply V) → MayFillPlan by_form number h v plan → Next (Some v) (started plan r)
  started_next v (Here None one) r f = f
  started_next v (Here (Some p) one) r f = f
  started_next v (Above two) r f = f

  ready_next : (kind : Kind V) (given : Option V) (plan : Plan C) → adds kind ≡ true → HasGift kind given → ((v : V) → MayFillPlan by_form number h v plan) → Next given (ready kind plan)
  ready_next ComputeInsert given plan e g f = f
  ready_next Insert given plan e g f = let P : Option V → Type 0 = λ o. Next o (started plan (reply.Insert None)) in subst P (sym g.1) (started_next g.0 plan (reply.Insert None) (f g.0))
  ready_next _ given plan e g f = absurd cc

  set_plan : (s : Site C) (v : V) → MayFillPlan by_form number h v (plan_here s Set)
  set_plan s v = λ _. tt

  unless_full_next : (kind : Kind V) (given : Option V) (s : Site C) (full : Bool) (p : Option (Over C)) (leaf : Option C) (change : Placement C) → adds kind ≡ true → HasGift kind given → IsSmall number h leaf
      → ((v : V) → MayFillPlan by_form number h v (plan_here s change)) → Next given (unless_full kind s full p leaf change)
  unless_full_next kind given s true (Some u) leaf change e g small f = small
  unless_full_next kind given s true None leaf change e g small f = ready_next kind given (plan_here s change) e g f
  unless_full_next kind given s false p leaf change e g small f = ready_next kind given (plan_here s change) e g f

  missing_next : (kind : Kind V) (given : Option V) (s : Site C) → adds kind ≡ true → HasGift kind given → Next given (missing kind s)
  missing_next kind given s e g = by_test (λ (x : NextPhase C V). Next given x) (s.depth == 7) _ _ (λ _. unless_full_next kind given s s.full s.above None Set e g tt (set_plan s)) (λ _. tt)

  absent_next : (kind : Kind V) (given : Option V) (s : Site C) → HasGift kind given → Next given (absent kind s)
  absent_next kind given s g = by_test (λ (x : NextPhase C V). Next given x) (adds kind) _ _ (λ e. missing_next kind given s e g) (λ _. tt)

  down_next : (given : Option V) (b : Bool) (s : Site C) (p : Option (Over C)) (c : C) → Next given (down b s p c)
  down_next given false s p c = tt
  down_next given true s None c = tt
  down_next given true s (Some u) c = tt

  replaced_next : (v : V) (s : Site C) (same : Bool) (r : Reply V) → Next (Some v) (replaced s same r)
  replaced_next v s true r = tt
  replaced_next v s false r = λ _. tt

  asked_next : (always : Bool) (given : Option V) (s : Site C) (v : V) (next_phase : NextPhase C V) → IsAsked always s v next_phase → Next given next_phase
  asked_next always given s v next_phase (inl e) = next_phase_at given _ next_phase e tt
  asked_next always given s v next_phase (inr e) = next_phase_at given _ next_phase e.1 tt

  version_next : (given : Option V) (root : C) (p : Option (Over C)) (n : C) (o : Option ℕ) → Next given (after_version root p n o)
  version_next given root p n None = tt
  version_next given root p n (Some v) = tt

  read_next : (given : Option V) (root : C) (p : Option (Over C)) (at : Stamp C) (r : Reading C V) → Next given (after_read root p at r)
  read_next given root None at (Differs common byte) = tt
  read_next given root (Some u) at (Differs common byte) = tt
  read_next given root None at (Fits depth form s) = tt
  read_next given root (Some u) at (Fits depth form s) = tt
  read_next given root None at Uncopied = tt
  read_next given root (Some u) at Uncopied = tt

  miss_next : (given : Option V) (kind : Kind V) (p : Parent C) (at : Stamp C) (common byte : ℕ) → Next given (after_miss kind p at common byte)
  miss_next given kind p at common byte = by_test (λ (x : NextPhase C V). Next given x) (adds kind) _ _ (λ _. tt) (λ _. tt)

  unwound_next : (given : Option V) (root : C) (e : Option Refusal) → Next given (unwound root e)
  unwound_next given root None = tt
  unwound_next given root (Some e) = tt

  given_up_next : (given : Option V) (root : C) (top : Option (Parent C)) (e : Option Refusal) → Next given (given_up root top e)
  given_up_next given root None e = unwound_next given root e
  given_up_next given root (Some g) e = tt

  unwind_next : (given : Option V) (root : C) (next : Option C) (e : Option Refusal) → Next given (after_unwind root next e)
  unwind_next given root None e = unwound_next given root e
  unwind_next given root (Some n) e = tt

  retire_next : (given : Option V) (next : Option C) (p : C) (r : Reply V) → Next given (after_retire next p r)
  retire_next given None p r = tt
  retire_next given (Some n) p r = tt

  top_next : (given : Option V) (two : ParentChange C) (r : Reply V) (top : Option (Parent C)) → Next given (after_top two r top)
  top_next given two r None = tt
  top_next given two r (Some g) = tt

  change_next : (given : Option V) (two : ParentChange C) (r : Reply V) (change : Replacement C) → Next given (after_change two r change)
  change_next given two r Collapse = top_next given two r two.top
  change_next given two r (ShrinkAbove c) = top_next given two r two.top
  change_next given two r _ = tt

  if_next : (given : Option V) (taken : Bool) (root : C) (Then : NextPhase C V → Type 0) (next_phase : NextPhase C V) → IsIf taken root Then next_phase → (taken ≡ true → Then next_phase → Next given next_phase) → Next given next_phase
  if_next given taken root Then next_phase x n = on_test taken (λ e. n e (x.0 e)) (λ e. next_phase_at given _ next_phase (x.1 e) tt)

both_false : (x y : Bool) → x && y ≡ false → x ≡ true → y ≡ false
both_false true true e f = absurd (let z : true ≡ false = e in cc)
both_false true false e f = refl
both_false false y e f = absurd (let z : false ≡ true = f in cc)

two_below : (n : ℕ) → 2 < n → ltb 2 n ≡ true
two_below n l = grind (arith, nat_tests)

-- and one that finds its key there
module _ {C V : Type 0} (by_form : Bool) (number : C → ℕ) (same : V → V → Bool) (always : Bool) (i : ℕ) (a : ℕ → Note) (h : ℕ → Node V) (k : ℕ) (t : Tree a h) (w : LockWords a h) (f : AllFilledBy by_form h) where
  stays_next : (s : Site C) (v : V) (r : Reply V) → Knows number a h (key_bytes k) s (Holds v) → s.depth ≡ 7 → s.count ≢ 1 → (by_form ≡ true → shrinks s.form s.count ≡ false) → Next by_form number h None (quiet (UpgradeHere (set_at s) r))
  stays_next s v r m d one large = λ q nz j e.
      let y : Sees (key_bytes k) s (Holds v) (h (number s.at.node)) = m.fresh.holds q in
      let x : IsFilled by_form (h (number s.at.node)) = was_filled by_form a h t f (number s.at.node) (taken_linked a h w (number s.at.node) s.at.version m.fresh.stamped.published q) nz in
      record {
        some = omega (arith, e, x.some, y.count, one);
        branches = λ z. absurd (omega (arith, z, m.depth, d));
        least = enough by_form s.form j (h (number s.at.node)).capacity y.form (λ asked. spared s.form s.count j (large asked) (e ∙ y.count));
      }

  above_next : (s : Site C) (r : Reply V) (p : Parent C) → ChildOf number a h (key_bytes k) p (number s.at.node) → p.count ≢ 2 → (by_form ≡ true → 2 < p.count → shrinks p.form p.count ≡ false) → Next by_form number h None (quiet (UpgradeAbove (both p s Unlink) r))
  above_next s r p c two large = λ q _ nz j e.
      let y : (child_for (h (number p.stamp.node)) (key_bytes k) ≡ Below (number s.at.node)) × ((h (number p.stamp.node)).count ≡ p.count) × ((h (number p.stamp.node)).capacity ≡ places p.form) = c.fresh.holds q in
      let l : (a (number p.stamp.node)).status ≡ Linked = taken_linked a h w (number p.stamp.node) p.stamp.version c.fresh.stamped.published q in
      let ch : IsChild a h (number p.stamp.node) _ (number s.at.node) = t.down (number p.stamp.node) _ (number s.at.node) l y.0 in
      let x : IsFilled by_form (h (number p.stamp.node)) = was_filled by_form a h t f (number p.stamp.node) l nz in
      let least : 2 ≤ (h (number p.stamp.node)).count = x.branches (omega (arith, ch.longer, t.short (number s.at.node) ch.linked)) in
      let more : 2 < p.count = omega (arith, least, y.1, two) in
      record {
        some = omega (arith, e, y.1, more);
        branches = λ _. omega (arith, e, y.1, more);
        least = enough by_form p.form j (h (number p.stamp.node)).capacity y.2 (λ asked. spared p.form p.count j (large asked more) (e ∙ y.1));
      }

  last_next : (s : Site C) (r : Reply V) (p : Parent C) (far : Option (Parent C)) → ChildOf number a h (key_bytes k) p (number s.at.node) → IsFar number a h (key_bytes k) far (number p.stamp.node) → Next by_form number h None (last_out s p far r)
  last_next s r p None c z = λ _ _ nz. absurd (nz z)
  last_next s r p (Some top) c z = by_test (λ (x : NextPhase C V). Next by_form number h None x) (p.count == 2) _ _ (λ _. λ _ _. tt)
      (λ two. by_test (λ (x : NextPhase C V). Next by_form number h None x) (ltb 2 p.count && shrinks p.form p.count) _ _ (λ _. tt) (λ large. above_next s r p c (not_two p.count two) (λ _ more. both_false (ltb 2 p.count) (shrinks p.form p.count) large (two_below p.count more))))

  taken_next : (s : Site C) (v : V) (r : Reply V) (p : Option (Over C)) → IsAbove number a h (key_bytes k) p (number s.at.node) → Knows number a h (key_bytes k) s (Holds v) → s.depth ≡ 7 → Next by_form number h None (taken_out s p r)
  taken_next s v r None z m d = λ _ nz. absurd (nz z)
  taken_next s v r (Some u) z m d = by_test (λ (x : NextPhase C V). Next by_form number h None x) (s.count == 1) _ _ (λ _. last_next s r u.near u.far z.0 z.1)
      (λ one. by_test (λ (x : NextPhase C V). Next by_form number h None x) (shrinks s.form s.count) _ _ (λ _. not_one s.count one) (λ large. stays_next s v r m d (not_one s.count one) (λ _. large)))

  emptied_next : (s : Site C) (v : V) (r : Reply V) → Knows number a h (key_bytes k) s (Holds v) → s.depth ≡ 7 → Next by_form number h None (emptied s r)
  emptied_next s v r m d = taken_next s v r s.above m.above m d

  emptied_as : (given : Option V) (s : Site C) (v : V) (r : Reply V) → given ≡ None → Knows number a h (key_bytes k) s (Holds v) → s.depth ≡ 7 → Next by_form number h given (emptied s r)
  emptied_as given s v r e m d = let P : Option V → Type 0 = λ o. Next by_form number h o (emptied s r) in subst P (sym e) (emptied_next s v r m d)

  replaced_as : (given : Option V) (v : V) (s : Site C) (b : Bool) (r : Reply V) → given ≡ Some v → Next by_form number h given (replaced s b r)
  replaced_as given v s b r e = let P : Option V → Type 0 = λ o. Next by_form number h o (replaced s b r) in subst P (sym e) (replaced_next by_form number h v s b r)

  at_old_next : (kind : Kind V) (given : Option V) (s : Site C) (v : V) (next_phase : NextPhase C V) → HasGift kind given → IsAtOld always same kind given s v next_phase → Next by_form number h given next_phase
  at_old_next Insert given s v next_phase g e = next_phase_at by_form number h given _ next_phase e (replaced_as given g.0 s (is_same same v given) (reply.Insert (Some v)) g.1)
  at_old_next _ given s v next_phase g e = asked_next by_form number h always given s v next_phase e

  added_next : (kind : Kind V) (given : Option V) (s : Site C) (p : Option (Over C)) (v : V) (next_phase : NextPhase C V) → HasGift kind given → IsAdded always same kind given s p v next_phase → Next by_form number h given next_phase
  added_next kind given s None v next_phase g e = at_old_next kind given s v next_phase g e
  added_next kind given s (Some u) v next_phase g e = next_phase_at by_form number h given _ next_phase e tt

  exchanged_next : (given : Option V) (s : Site C) (v : V) (next_phase : NextPhase C V) → Knows number a h (key_bytes k) s (Holds v) → s.depth ≡ 7 → IsExchanged always same given s v next_phase → Next by_form number h given next_phase
  exchanged_next None s v next_phase m d e = next_phase_at by_form number h None _ next_phase e (emptied_next s v (reply.Exchange (Ok None)) m d)
  exchanged_next (Some x) s v next_phase m d (inl e) = next_phase_at by_form number h (Some x) _ next_phase e (replaced_next by_form number h x s (same v x) (reply.Exchange (Ok (Some x))))
  exchanged_next (Some x) s v next_phase m d (inr e) = next_phase_at by_form number h (Some x) _ next_phase e.1 tt

  present_next : (kind : Kind V) (given : Option V) (s : Site C) (v : V) (next_phase : NextPhase C V) → HasGift kind given → Knows number a h (key_bytes k) s (Holds v) → s.depth ≡ 7 → IsPresent always same kind given s v next_phase → Next by_form number h given next_phase
  present_next Get given s v next_phase g m d e = next_phase_at by_form number h given _ next_phase e tt
  present_next Insert given s v next_phase g m d e = added_next Insert given s s.above v next_phase g e
  present_next Remove given s v next_phase g m d e = next_phase_at by_form number h given _ next_phase e (emptied_as given s v (reply.Remove (Some v)) g m d)
  present_next ComputePresent given s v next_phase g m d e = asked_next by_form number h always given s v next_phase e
  present_next ComputeInsert given s v next_phase g m d e = added_next ComputeInsert given s s.above v next_phase g e
  present_next (Exchange old) given s v next_phase g m d e = on_test (same v old) (λ q. exchanged_next given s v next_phase m d (e.0 q)) (λ q. next_phase_at by_form number h given _ next_phase (e.1 q) tt)

  checked_next : (kind : Kind V) (given : Option V) (s : Site C) (c : Child C V) (next_phase : NextPhase C V) → HasGift kind given → Knows number a h (key_bytes k) s (hung number c) → is_taken (h (number s.at.node)) s.at.version ≡ true
      → IsChecked always same kind given s c next_phase → Next by_form number h given next_phase
  checked_next kind given s child.Blank next_phase g m q e = next_phase_at by_form number h given _ next_phase e (absent_next by_form number h kind given s g)
  checked_next kind given s (child.Node c) next_phase g m q e = next_phase_at by_form number h given _ next_phase e (down_next by_form number h given (adds kind) s s.above c)
  checked_next kind given s (child.Value v) next_phase g m q e = present_next kind given s v next_phase g m (at_leaf number same always i a h k t w s v m q) e

  out_next : (given' : Option V) (s : Site C) (v : V) (r : Reply V) (next_phase : NextPhase C V) → Knows number a h (key_bytes k) s (Holds v) → s.depth ≡ 7 → (given' ≡ None) × (next_phase ≡ emptied s r) → Next by_form number h given' next_phase
  out_next given' s v r next_phase m d e = next_phase_at by_form number h given' _ next_phase e.1 (emptied_as given' s v r e.0 m d)

  in_next : (given' : Option V) (x : V) (s : Site C) (b : Bool) (r : Reply V) (next_phase : NextPhase C V) → given' ≡ Some x → (next_phase ≡ replaced s b r) ⊎ CopyFailed always next_phase → Next by_form number h given' next_phase
  in_next given' x s b r next_phase e (inl z) = next_phase_at by_form number h given' _ next_phase z (replaced_as given' x s b r e)
  in_next given' x s b r next_phase e (inr z) = next_phase_at by_form number h given' _ next_phase z.1 tt

  given_next : (kind : Kind V) (given given' : Option V) (answer : Option (Option V)) (s : Site C) (v : V) (next_phase : NextPhase C V) → Knows number a h (key_bytes k) s (Holds v) → s.depth ≡ 7 → IsGiven always same kind s v answer given given' next_phase → Next by_form number h given' next_phase
  given_next kind given given' None s v next_phase m d e = asked_next by_form number h always given' s v next_phase e.1
  given_next ComputeInsert given given' (Some None) s v next_phase m d e = asked_next by_form number h always given' s v next_phase e.1
  given_next ComputeInsert given given' (Some (Some x)) s v next_phase m d e = next_phase_at by_form number h given' _ next_phase e.1 (replaced_as given' x s (same v x) (reply.ComputeInsert (Some v)) e.0)
  given_next Get given given' (Some None) s v next_phase m d e = out_next given' s v (reply.ComputePresent (Some (v, None))) next_phase m d e
  given_next Insert given given' (Some None) s v next_phase m d e = out_next given' s v (reply.ComputePresent (Some (v, None))) next_phase m d e
  given_next Remove given given' (Some None) s v next_phase m d e = out_next given' s v (reply.ComputePresent (Some (v, None))) next_phase m d e
  given_next ComputePresent given given' (Some None) s v next_phase m d e = out_next given' s v (reply.ComputePresent (Some (v, None))) next_phase m d e
  given_next (Exchange old) given given' (Some None) s v next_phase m d e = out_next given' s v (reply.ComputePresent (Some (v, None))) next_phase m d e
  given_next Get given given' (Some (Some x)) s v next_phase m d e = in_next given' x s (same v x) (reply.ComputePresent (Some (v, Some x))) next_phase e.0 e.1
  given_next Insert given given' (Some (Some x)) s v next_phase m d e = in_next given' x s (same v x) (reply.ComputePresent (Some (v, Some x))) next_phase e.0 e.1
  given_next Remove given given' (Some (Some x)) s v next_phase m d e = in_next given' x s (same v x) (reply.ComputePresent (Some (v, Some x))) next_phase e.0 e.1
  given_next ComputePresent given given' (Some (Some x)) s v next_phase m d e = in_next given' x s (same v x) (reply.ComputePresent (Some (v, Some x))) next_phase e.0 e.1
  given_next (Exchange old) given given' (Some (Some x)) s v next_phase m d e = in_next given' x s (same v x) (reply.ComputePresent (Some (v, Some x))) next_phase e.0 e.1

  given_new_next : (given given' : Option V) (answer : Option (Option V)) (plan : Plan C) (next_phase : NextPhase C V) → ((v : V) → MayFillPlan by_form number h v plan) → IsGivenNew plan answer given given' next_phase → Next by_form number h given' next_phase
  given_new_next given given' None plan next_phase x e = next_phase_at by_form number h given' _ next_phase e.1 x
  given_new_next given given' (Some None) plan next_phase x e = next_phase_at by_form number h given' _ next_phase e.1 x
  given_new_next given given' (Some (Some v)) plan next_phase x e = next_phase_at by_form number h given' _ next_phase e.1 (let P : Option V → Type 0 = λ o. Next by_form number h o (started plan (reply.ComputeInsert None)) in subst P (sym e.0) (started_next by_form number h v plan (reply.ComputeInsert None) (x v)))

-- steps that make and lock nodes
module _ {C V : Type 0} (by_form : Bool) (number : C → ℕ) (same : V → V → Bool) (always : Bool) (i : ℕ) (a : ℕ → Note) (h h' : ℕ → Node V) (k : ℕ) (kind : Kind V) (given : Option V) (t : Tree a h) (w : LockWords a h) (f : AllFilledBy by_form h) where
  was : (n v : ℕ) → h' n ≡ h n → is_taken (h' n) v ≡ true → is_taken (h n) v ≡ true
  was n v e q = let P : Node V → Type 0 = λ y. is_taken y v ≡ true in subst P e q

  leaf_made_next : (s : Site C) (next_phase : NextPhase C V) (x : Result C Refusal) → Known number same always i a h k (key_bytes k) kind given (MakeLeaf s) → MadeLeaf number kind s h (key_bytes k) x h' next_phase → Next by_form number h' given next_phase
  leaf_made_next s next_phase (Err e) m g = next_phase_at by_form number h' given _ next_phase g.1 tt
  leaf_made_next s next_phase (Ok leaf) m g = next_phase_at by_form number h' given _ next_phase g.1 (unless_full_next by_form number h' kind given s s.full s.above (Some leaf) (Link leaf) m.3 m.0 g.0.capacity (λ v _. g.0.capacity))

  -- a greater node with the children of the one at hand and one more
  greater_fills : (s : Site C) (c : C) → Knows number a h (key_bytes k) s Nothing → NewNode h (number c) (form_above s.count) (key_bytes k) s.depth h' → is_taken (h' (number s.at.node)) s.at.version ≡ true → number s.at.node ≢ 0
      → FilledAs (length (h' (number s.at.node)).prefix) (suc (h' (number s.at.node)).count) (places_in by_form (h' (number c)).capacity)
  greater_fills s c m g q nz =
      let pu : is_published (a (number s.at.node)).status ≡ true = m.fresh.stamped.published in
      let e : h' (number s.at.node) ≡ h (number s.at.node) = g.others (number s.at.node) (new_apart a h w h' (number c) _ (key_bytes k) s.depth (number s.at.node) g (published_made a h w (number s.at.node) pu)) in
      let q' : is_taken (h (number s.at.node)) s.at.version ≡ true = was (number s.at.node) s.at.version e q in
      let y : Sees (key_bytes k) s Nothing (h (number s.at.node)) = m.fresh.holds q' in
      let x : IsFilled by_form (h (number s.at.node)) = was_filled by_form a h t f (number s.at.node) (taken_linked a h w (number s.at.node) s.at.version pu q') nz in
      let P : ℕ → Type 0 = λ z. least_in (form_above s.count) ≤ suc z in
      filled_same by_form (length (h (number s.at.node)).prefix) (suc (h (number s.at.node)).count) (h' (number c)).capacity (length (h' (number s.at.node)).prefix) (suc (h' (number s.at.node)).count) (h' (number c)).capacity
      (ap (λ z. length z.prefix) e) (ap (λ z. suc z.count) e) refl
      (record {
        some = omega arith;
        branches = λ z. omega (arith, x.branches z);
        least = enough by_form (form_above s.count) (suc (h (number s.at.node)).count) (h' (number c)).capacity g.capacity (λ _. subst P (sym y.count) (grown s.count));
      })

  greater_made_next : (s : Site C) (p : Parent C) (leaf : Option C) (next_phase : NextPhase C V) (x : Result C Refusal) → Known number same always i a h k (key_bytes k) kind given (MakeGreater s p leaf) → IsSmall number h leaf
      → MadeGreater number kind s p leaf h (key_bytes k) x h' next_phase → Next by_form number h' given next_phase
  greater_made_next s p leaf next_phase (Err e) m small g = next_phase_at by_form number h' given _ next_phase g.1 tt
  greater_made_next s p None next_phase (Ok c) m small g = next_phase_at by_form number h' given _ next_phase g.1 (ready_next by_form number h' kind given _ m.4 m.0 (λ v _ q nz. greater_fills s c m.1 g.0 q nz))
  greater_made_next s p (Some leaf) next_phase (Ok c) m small g =
      let four : (h' (number leaf)).capacity ≡ 4 = ap (λ z. z.capacity) (g.0.others (number leaf) (new_apart a h w h' (number c) _ (key_bytes k) s.depth (number leaf) g.0 m.3.1.made)) ∙ small in
      next_phase_at by_form number h' given _ next_phase g.1 (ready_next by_form number h' kind given _ m.4 m.0 (λ v _ q. ((λ nz. greater_fills s c m.1 g.0 q nz), four)))

  top_made_next : (p : Parent C) (at : Stamp C) (common byte : ℕ) (next_phase : NextPhase C V) (x : Result C Refusal) → MadeTop number p at common byte h (key_bytes k) x h' next_phase → Next by_form number h' given next_phase
  top_made_next p at common byte next_phase (Err e) g = next_phase_at by_form number h' given _ next_phase g.1 tt
  top_made_next p at common byte next_phase (Ok top) g = next_phase_at by_form number h' given _ next_phase g.1 g.0.capacity

  beside_made_next : (p : Parent C) (at : Stamp C) (common byte : ℕ) (top : C) (next_phase : NextPhase C V) (x : Result C Refusal) → Known number same always i a h k (key_bytes k) kind given (MakeBeside p at common byte top) → (h (number top)).capacity ≡ 4
      → MadeBeside number kind p at common byte top h (key_bytes k) x h' next_phase → Next by_form number h' given next_phase
  beside_made_next p at common byte top next_phase (Err e) m small g = next_phase_at by_form number h' given _ next_phase g.1 tt
  beside_made_next p at common byte top next_phase (Ok leaf) m small g =
      let four : (h' (number top)).capacity ≡ 4 = ap (λ z. z.capacity) (g.0.others (number top) (new_apart a h w h' (number leaf) _ (key_bytes k) 7 (number top) g.0 m.6.made)) ∙ small in
      next_phase_at by_form number h' given _ next_phase g.1 (ready_next by_form number h' kind given _ m.5 m.0 (λ v _ _. (four, g.0.capacity)))

  -- a lesser leaf with the values but one
  leaf_fills : (s : Site C) (c : C) (v : V) → Knows number a h (key_bytes k) s (Holds v) → s.depth ≡ 7 → s.count ≢ 1 → NewNode h (number c) (form_below s.form) (key_bytes k) s.depth h' → is_taken (h' (number s.at.node)) s.at.version ≡ true
      → number s.at.node ≢ 0 → FilledWithout (length (h' (number s.at.node)).prefix) (h' (number s.at.node)).count (places_in by_form (h' (number c)).capacity)
  leaf_fills s c v m d more g q nz j ej =
      let pu : is_published (a (number s.at.node)).status ≡ true = m.fresh.stamped.published in
      let e : h' (number s.at.node) ≡ h (number s.at.node) = g.others (number s.at.node) (new_apart a h w h' (number c) _ (key_bytes k) s.depth (number s.at.node) g (published_made a h w (number s.at.node) pu)) in
      let q' : is_taken (h (number s.at.node)) s.at.version ≡ true = was (number s.at.node) s.at.version e q in
      let y : Sees (key_bytes k) s (Holds v) (h (number s.at.node)) = m.fresh.holds q' in
      let x : IsFilled by_form (h (number s.at.node)) = was_filled by_form a h t f (number s.at.node) (taken_linked a h w (number s.at.node) s.at.version pu q') nz in
      let es : suc j ≡ s.count = ej ∙ (ap (λ z. z.count) e ∙ y.count) in
      filled_same by_form (length (h (number s.at.node)).prefix) j (h' (number c)).capacity (length (h' (number s.at.node)).prefix) j (h' (number c)).capacity (ap (λ z. length z.prefix) e) refl refl
      (record {
        some = omega (arith, es, x.some, y.count, more);
        branches = λ z. absurd (omega (arith, z, m.depth, d));
        least = enough by_form (form_below s.form) j (h' (number c)).capacity g.capacity
            (λ asked. lessened s.form s.count j (let l = least_of by_form (length (h (number s.at.node)).prefix) (h (number s.at.node)).count (h (number s.at.node)).capacity s.form x (sym y.form) asked in omega (arith, y.count, l)) es);
      })

  -- a lesser node with the other children of the node above
  above_fills : (p : Parent C) (n : ℕ) (c : C) → ChildOf number a h (key_bytes k) p n → 2 < p.count → NewNode h (number c) (form_below p.form) (key_bytes k) p.depth h' → is_taken (h' (number p.stamp.node)) p.stamp.version ≡ true
      → number p.stamp.node ≢ 0 → FilledWithout (length (h' (number p.stamp.node)).prefix) (h' (number p.stamp.node)).count (places_in by_form (h' (number c)).capacity)
  above_fills p n c ch more g q nz j ej =
      let pu : is_published (a (number p.stamp.node)).status ≡ true = ch.fresh.stamped.published in
      let e : h' (number p.stamp.node) ≡ h (number p.stamp.node) = g.others (number p.stamp.node) (new_apart a h w h' (number c) _ (key_bytes k) p.depth (number p.stamp.node) g (published_made a h w (number p.stamp.node) pu)) in
      let q' : is_taken (h (number p.stamp.node)) p.stamp.version ≡ true = was (number p.stamp.node) p.stamp.version e q in
      let y : (child_for (h (number p.stamp.node)) (key_bytes k) ≡ Below n) × ((h (number p.stamp.node)).count ≡ p.count) × ((h (number p.stamp.node)).capacity ≡ places p.form) = ch.fresh.holds q' in
      let x : IsFilled by_form (h (number p.stamp.node)) = was_filled by_form a h t f (number p.stamp.node) (taken_linked a h w (number p.stamp.node) p.stamp.version pu q') nz in
      let es : suc j ≡ p.count = ej ∙ (ap (λ z. z.count) e ∙ y.1) in
      filled_same by_form (length (h (number p.stamp.node)).prefix) j (h' (number c)).capacity (length (h' (number p.stamp.node)).prefix) j (h' (number c)).capacity (ap (λ z. length z.prefix) e) refl refl
      (record {
        some = omega (arith, es, more);
        branches = λ _. omega (arith, es, more);
        least = enough by_form (form_below p.form) j (h' (number c)).capacity g.capacity
            (λ asked. lessened p.form p.count j (let l = least_of by_form (length (h (number p.stamp.node)).prefix) (h (number p.stamp.node)).count (h (number p.stamp.node)).capacity p.form x (sym y.2) asked in omega (arith, y.1, l)) es);
      })

  -- the call goes on without a lesser node
  skipped_to : (x next_phase : NextPhase C V) → h' ≡ h → given ≡ None → next_phase ≡ x → Next by_form number h None x → Next by_form number h' given next_phase
  skipped_to x next_phase same none is n =
      let P : (ℕ → Node V) → Type 0 = λ y. Next by_form number y given next_phase in
      let Q : Option V → Type 0 = λ o. Next by_form number h o next_phase in
      subst P (sym same) (subst Q (sym none) (next_phase_at by_form number h None x next_phase is n))

  lesser_made_next : (s : Site C) (p : Parent C) (top : Option (Parent C)) (r : Reply V) (next_phase : NextPhase C V) (x : Result C Refusal) → Known number same always i a h k (key_bytes k) kind given (MakeLesser s p top r) → Fills by_form number h given (MakeLesser s p top r)
      → (by_form ≡ true → next_phase.report.skipped ≡ false) → MadeLesser number s p top r h (key_bytes k) x h' next_phase → Next by_form number h' given next_phase
  lesser_made_next s p None r next_phase (Err e) m more skip g = skipped_to _ next_phase g.0 m.3 g.1
      (stays_next by_form number same always i a h k t w f s m.1.0 r m.1.1 m.2 more (λ asked. let z : next_phase.report.skipped ≡ true = ap (λ (y : NextPhase C V). y.report.skipped) g.1 in let y = skip asked in absurd (cc)))
  lesser_made_next s p (Some top) r next_phase (Err e) m more skip g = skipped_to _ next_phase g.0 m.3 g.1
      (above_next by_form number same always i a h k t w f s r p m.4 (λ two. let l = m.5.2 in omega (arith, l, two)) (λ asked _. let z : next_phase.report.skipped ≡ true = ap (λ (y : NextPhase C V). y.report.skipped) g.1 in let y = skip asked in absurd (cc)))
  lesser_made_next s p None r next_phase (Ok c) m more skip g = next_phase_at by_form number h' given _ next_phase g.1 (λ _ q nz. leaf_fills s c m.1.0 m.1.1 m.2 more g.0 q nz)
  lesser_made_next s p (Some top) r next_phase (Ok c) m more skip g = next_phase_at by_form number h' given _ next_phase g.1 (λ q _ nz. above_fills p (number s.at.node) c m.4 m.5.2 g.0 q nz)

  one_locked_next : (most : ℕ) (fail : Bool) (root : C) (one : NodeChange C) (r : Reply V) (next_phase : NextPhase C V) (u : Upgrade) → MayFillHere by_form number h given one → u ≡ upgrade_gives most (h (number one.at.node)) one.at.version fail
      → UpgradedHere number root one r h u h' next_phase → Next by_form number h' given next_phase
  one_locked_next most fail root one r next_phase Failed x e g = next_phase_at by_form number h' given _ next_phase g.1 tt
  one_locked_next most fail root one r next_phase Exhausted x e g = next_phase_at by_form number h' given _ next_phase g.1 tt
  one_locked_next most fail root one r next_phase Locked x e g = next_phase_at by_form number h' given _ next_phase g.1
      (fills_one_on by_form number h h' one.change given (number one.at.node) (h (number one.at.node)) (h' (number one.at.node)) (locked_alike h (number one.at.node) h' g.0 (number one.at.node))
      (places_one number h h' one.change (λ n. (locked_alike h (number one.at.node) h' g.0 n).capacity)) (x (locked_taken most (h (number one.at.node)) one.at.version fail e)))

  -- over a lock of node n
  over_lock : (n : ℕ) (two : ParentChange C) → SameBut h n (record (h n) { locked = true }) h' → FillsAt by_form number h two → FillsAt by_form number h' two
  over_lock n two g x = fills_two_on by_form number h h' two.change (number two.above.stamp.node) (h (number two.above.stamp.node)) (h' (number two.above.stamp.node)) (number two.at.node) (h (number two.at.node)) (h' (number two.at.node))
      (locked_alike h n h' g (number two.above.stamp.node)) (locked_alike h n h' g (number two.at.node)) (places_two number h h' two.change (λ m. (locked_alike h n h' g m).capacity)) x

  top_locked_next : (most : ℕ) (fail : Bool) (root : C) (top : Parent C) (two : ParentChange C) (r : Reply V) (next_phase : NextPhase C V) (u : Upgrade) → MayFillAbove by_form number h two → u ≡ upgrade_gives most (h (number top.stamp.node)) top.stamp.version fail
      → UpgradedTop number root top two r h u h' next_phase → Next by_form number h' given next_phase
  top_locked_next most fail root top two r next_phase Failed x e g = next_phase_at by_form number h' given _ next_phase g.1 tt
  top_locked_next most fail root top two r next_phase Exhausted x e g = next_phase_at by_form number h' given _ next_phase g.1 tt
  top_locked_next most fail root top two r next_phase Locked x e g = next_phase_at by_form number h' given _ next_phase g.1 (λ p q. over_lock (number top.stamp.node) two g.0
      (x (was (number two.above.stamp.node) two.above.stamp.version (free_after h (number top.stamp.node) h' g.0 (number two.above.stamp.node) two.above.stamp.version p) p)
      (was (number two.at.node) two.at.version (free_after h (number top.stamp.node) h' g.0 (number two.at.node) two.at.version q) q)))

  above_locked_next : (most : ℕ) (fail : Bool) (root : C) (two : ParentChange C) (r : Reply V) (next_phase : NextPhase C V) (u : Upgrade) → MayFillAbove by_form number h two → u ≡ upgrade_gives most (h (number two.above.stamp.node)) two.above.stamp.version fail
      → UpgradedAbove number root two r h u h' next_phase → Next by_form number h' given next_phase
  above_locked_next most fail root two r next_phase Failed x e g = next_phase_at by_form number h' given _ next_phase g.1 (given_up_next by_form number h' given root two.top _)
  above_locked_next most fail root two r next_phase Exhausted x e g = next_phase_at by_form number h' given _ next_phase g.1 (given_up_next by_form number h' given root two.top _)
  above_locked_next most fail root two r next_phase Locked x e g = next_phase_at by_form number h' given _ next_phase g.1 (λ q. over_lock (number two.above.stamp.node) two g.0
      (x (locked_taken most (h (number two.above.stamp.node)) two.above.stamp.version fail e)
      (was (number two.at.node) two.at.version (free_after h (number two.above.stamp.node) h' g.0 (number two.at.node) two.at.version q) q)))

  both_locked_next : (most : ℕ) (fail : Bool) (two : ParentChange C) (r : Reply V) (next_phase : NextPhase C V) (u : Upgrade) → MayFillHalf by_form number h two → u ≡ upgrade_gives most (h (number two.at.node)) two.at.version fail
      → UpgradedBelow number two r h u h' next_phase → Next by_form number h' given next_phase
  both_locked_next most fail two r next_phase Failed x e g = next_phase_at by_form number h' given _ next_phase g.1 tt
  both_locked_next most fail two r next_phase Exhausted x e g = next_phase_at by_form number h' given _ next_phase g.1 tt
  both_locked_next most fail two r next_phase Locked x e g = next_phase_at by_form number h' given _ next_phase g.1 (over_lock (number two.at.node) two g.0 (x (locked_taken most (h (number two.at.node)) two.at.version fail e)))

  -- a step that leaves the nodes and the call's new value
  equal_next : (given' : Option V) (next_phase : NextPhase C V) → h' ≡ h → given' ≡ given → Next by_form number h given next_phase → Next by_form number h' given' next_phase
  equal_next given' next_phase e eg n = let P : (ℕ → Node V) → Option V → Type 0 = λ y o. Next by_form number y o next_phase in let Q : Option V → Type 0 = λ o. P h o in let R : (ℕ → Node V) → Type 0 = λ y. P y given' in subst R (sym e) (subst Q (sym eg) n)

  given_to : (given' : Option V) (next_phase : NextPhase C V) → given' ≡ given → Next by_form number h' given next_phase → Next by_form number h' given' next_phase
  given_to given' next_phase e n = let P : Option V → Type 0 = λ o. Next by_form number h' o next_phase in subst P (sym e) n

  -- every step
  pub step_next : (most : ℕ) (why : NodeType → Refusal → Type 0) (root : C) (fail : Bool) (answer : Option (Option V)) (s : Phase C V) (given' : Option V) (next_phase : NextPhase C V) → Known number same always i a h k (key_bytes k) kind given s → Fills by_form number h given s
      → (by_form ≡ true → next_phase.report.skipped ≡ false) → PhaseStepped number same always most why root (key_bytes k) kind fail answer given s h given' next_phase h' → Next by_form number h' given' next_phase
  step_next most why root fail answer New given' next_phase m x z g = equal_next given' next_phase g.0 g.1 (next_phase_at by_form number h given _ next_phase g.2 (version_next by_form number h given root None root (version_of (h (number root)))))
  step_next most why root fail answer (Version p n) given' next_phase m x z g = equal_next given' next_phase g.0 g.1 (next_phase_at by_form number h given _ next_phase g.2 (version_next by_form number h given root p n (version_of (h (number n)))))
  step_next most why root fail answer (Read p at) given' next_phase m x z g = equal_next given' next_phase g.0 g.1 (next_phase_at by_form number h given _ next_phase g.2.2 (read_next by_form number h given root p at g.2.0))
  step_next most why root fail answer (Check s c) given' next_phase m x z g = equal_next given' next_phase g.0 g.1 (if_next by_form number h given _ root (IsChecked always same kind given s c) next_phase g.2 (λ q e. checked_next by_form number same always i a h k t w f kind given s c next_phase m.0 m.1 q e))
  step_next most why root fail answer (CheckUncopied at) given' next_phase m x z g = equal_next given' next_phase g.0 g.1 (if_next by_form number h given _ root (λ (u : NextPhase C V). u ≡ refused refusal.Count) next_phase g.2 (λ q e. next_phase_at by_form number h given _ next_phase e tt))
  step_next most why root fail answer (CheckMiss p at common byte) given' next_phase m x z g = equal_next given' next_phase g.0 g.1 (if_next by_form number h given _ root (λ (u : NextPhase C V). u ≡ after_miss kind p at common byte) next_phase g.2 (λ q e. next_phase_at by_form number h given _ next_phase e (miss_next by_form number h given kind p at common byte)))
  step_next most why root fail answer (CheckDown p at c) given' next_phase m x z g = equal_next given' next_phase g.0 g.1 (if_next by_form number h given _ root (λ (u : NextPhase C V). u ≡ quiet (Version (Some at) c)) next_phase g.2 (λ q e. next_phase_at by_form number h given _ next_phase e tt))
  step_next most why root fail answer (CheckOld p s v) given' next_phase m x z g = equal_next given' next_phase g.0 g.1 (if_next by_form number h given _ root (IsAtOld always same kind given s v) next_phase g.2 (λ q e. at_old_next by_form number same always i a h k t w f kind given s v next_phase m.0 e))
  step_next most why root fail answer (MakeLeaf s) given' next_phase m x z g = given_to given' next_phase g.0 (leaf_made_next s next_phase g.1.0 m g.1.1)
  step_next most why root fail answer (MakeGreater s p leaf) given' next_phase m x z g = given_to given' next_phase g.0 (greater_made_next s p leaf next_phase g.1.0 m x g.1.1)
  step_next most why root fail answer (MakeTop p at common byte) given' next_phase m x z g = given_to given' next_phase g.0 (top_made_next p at common byte next_phase g.1.0 g.1.1)
  step_next most why root fail answer (MakeBeside p at common byte top) given' next_phase m x z g = given_to given' next_phase g.0 (beside_made_next p at common byte top next_phase g.1.0 m x g.1.1)
  step_next most why root fail answer (MakeLesser s p top r) given' next_phase m x z g = given_to given' next_phase g.0 (lesser_made_next s p top r next_phase g.1.0 m x z g.1.1)
  step_next most why root fail answer (AskOld s v) given' next_phase m x z g = let P : (ℕ → Node V) → Type 0 = λ y. Next by_form number y given' next_phase in subst P (sym g.0) (given_next by_form number same always i a h k t w f kind given given' answer s v next_phase m.1 m.3 g.1)
  step_next most why root fail answer (AskNew plan) given' next_phase m x z g = let P : (ℕ → Node V) → Type 0 = λ y. Next by_form number y given' next_phase in subst P (sym g.0) (given_new_next by_form number same always i a h k t w f given given' answer plan next_phase x g.1)
  step_next most why root fail answer (Confirm at r) given' next_phase m x z g = equal_next given' next_phase g.0 g.1 (if_next by_form number h given _ root (λ (u : NextPhase C V). u ≡ answered r) next_phase g.2 (λ q e. next_phase_at by_form number h given _ next_phase e tt))
  step_next most why root fail answer (CheckAbove p one r) given' next_phase m x z g = given_to given' next_phase g.0 (on_test (is_taken (h (number p.node)) p.version)
      (λ q. let P : (ℕ → Node V) → Type 0 = λ y. Next by_form number y given next_phase in subst P (sym (g.1.goes_on q).0) (next_phase_at by_form number h given _ next_phase (g.1.goes_on q).1 x))
      (λ q. next_phase_at by_form number h' given _ next_phase (g.1.goes_back q).1 tt))
  step_next most why root fail answer (UpgradeHere one r) given' next_phase m x z g = given_to given' next_phase g.0 (one_locked_next most fail root one r next_phase g.1.0 x g.1.1 g.1.2)
  step_next most why root fail answer (UpgradeTop top two r) given' next_phase m x z g = given_to given' next_phase g.0 (top_locked_next most fail root top two r next_phase g.1.0 x g.1.1 g.1.2)
  step_next most why root fail answer (UpgradeAbove two r) given' next_phase m x z g = given_to given' next_phase g.0 (above_locked_next most fail root two r next_phase g.1.0 x g.1.1 g.1.2)
  step_next most why root fail answer (UpgradeBelow two r) given' next_phase m x z g = given_to given' next_phase g.0 (both_locked_next most fail two r next_phase g.1.0 x g.1.1 g.1.2)
  step_next most why root fail answer (ChangeAbove two r) given' next_phase m x z g = next_phase_at by_form number h' given' _ next_phase g.2 (change_next by_form number h' given' two r two.change)
  step_next most why root fail answer (Retire n next p r) given' next_phase m x z g = next_phase_at by_form number h' given' _ next_phase g.2 (retire_next by_form number h' given' next p r)
  step_next most why root fail answer (Unwind n next e) given' next_phase m x z g = next_phase_at by_form number h' given' _ next_phase g.2 (unwind_next by_form number h' given' root next e)
  step_next most why root fail answer (Scan s) given' next_phase m x z g = next_phase_at by_form number h' given' _ next_phase g.2.3 tt
  step_next most why root fail answer _ given' next_phase m x z g = next_phase_at by_form number h' given' _ next_phase g.2 tt
