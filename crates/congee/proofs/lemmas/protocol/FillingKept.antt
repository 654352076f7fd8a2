-- The tree stays filled over every step, and what a call is about to do over the steps of others.
use Rattle.std.proofs.Common.{◌≡◌, ◌≢◌, ℕ, Bool, true, List, refl, sym, ◌∙◌, ap, subst}
use Rattle.std.specs.Prelude.{Option, None, Some, Result, Ok, Err}
use Rattle.judge.specs.declared.journal.Reply.{Reply}
use Rattle.congee.specs.declared.forms.base_node.NodeType.{NodeType}
use Rattle.congee.specs.declared.protocol.store.Refusal.{Refusal}
use Rattle.congee.specs.declared.protocol.store.Stamp.{Stamp}
use Rattle.congee.specs.declared.protocol.store.Upgrade.{Upgrade}
use Rattle.congee.specs.declared.protocol.store.Upgrade.TheVariants.{Locked, Failed, Exhausted}
use Rattle.congee.specs.declared.protocol.phase.Kind.{Kind}
use Rattle.congee.specs.declared.protocol.phase.Parent.{Parent}
use Rattle.congee.specs.declared.protocol.phase.Site.{Site}
use Rattle.congee.specs.declared.protocol.phase.Placement.{Placement}
use Rattle.congee.specs.declared.protocol.phase.Placement.TheVariants.{Set, Link}
use Rattle.congee.specs.declared.protocol.phase.NodeChange.{NodeChange}
use Rattle.congee.specs.declared.protocol.phase.Replacement.{Replacement}
use Rattle.congee.specs.declared.protocol.phase.Replacement.TheVariants.{Unlink, Grow, GrowLink, Split, Shrink, Collapse, ShrinkAbove}
use Rattle.congee.specs.declared.protocol.phase.ParentChange.{ParentChange}
use Rattle.congee.specs.declared.protocol.phase.Plan.{Plan}
use Rattle.congee.specs.declared.protocol.phase.Plan.TheVariants.{Here, Above}
use Rattle.congee.specs.declared.protocol.phase.Phase.{Phase}
use Rattle.congee.specs.declared.protocol.phase.Phase.TheVariants.{MakeLeaf, MakeGreater, MakeTop, MakeBeside, MakeLesser, AskNew, CheckAbove, UpgradeHere, ChangeHere, UpgradeTop, UpgradeAbove, UpgradeBelow, ChangeAbove, Obsolete, Retire, UnlockBelow, Unlock, Unwind}
use Rattle.congee.specs.declared.protocol.next_phase.NextPhase.{NextPhase}
use Rattle.congee.specs.Heap.{Node, Hung, is_taken}
use Rattle.congee.specs.Keys.{key_bytes}
use Rattle.congee.specs.Notes.{Note, Linked, is_published, Tree, LockWords}
use Rattle.congee.specs.protocol.Events.{BackGives}
use Rattle.congee.specs.protocol.Steps.{BackHere, BackAbove, BackLeaf, MadeLeaf, MadeGreater, MadeTop, MadeBeside, MadeLesser, UpgradedHere, UpgradedTop, UpgradedAbove, UpgradedBelow, PhaseStepped}
use Rattle.congee.specs.protocol.Protocol.{Made, MadeHere, MadeAbove, MadeLeafFor, HereKnown, AboveKnown, HalfLocked, PlanKnown, Rely, Known}
use Rattle.congee.specs.protocol.Names.{names, names_plan, name_stamped, names_one}
use Rattle.congee.specs.protocol.Filled.{AllFilledBy, FillsAt, MayFillHere, MayFillHalf, MayFillAbove, MayFillPlan, IsSmall, Fills}
use Rattle.congee.proofs.lemmas.Graft.{on_test}
use Rattle.congee.proofs.lemmas.protocol.Each.{Each, each_right}
use Rattle.congee.proofs.lemmas.protocol.Change.{made_apart}
use Rattle.congee.proofs.lemmas.protocol.Filling.{Alike, alike_same, Still, still_filled}
use Rattle.congee.proofs.lemmas.protocol.FillingChanges.{one_filled, two_filled}
use Rattle.congee.proofs.lemmas.protocol.FillingSteps.{still_equal, still_but, still_new, locked_alike, PlacesHere, PlacesAbove, fills_one_on, fills_two_on}

module _ {C V : Type 0} (number : C → ℕ) (i : ℕ) (a : ℕ → Note) (h h' : ℕ → Node V) (key : List ℕ) (w : LockWords a h) where
  apart_made : (c size least : ℕ) → Made i a h key c size least → (n : ℕ) → (a n).status ≡ Linked → n ≢ c
  apart_made c size least m n l e = made_apart i a h key c size least n m (ap is_published l) (sym e)

  back_still : (c size least : ℕ) → Made i a h key c size least → BackGives h c h' → Still a h h'
  back_still c size least m g n l = alike_same (h n) (h' n) (g.others n (apart_made c size least m n l))

  both_back_still : (h1 : ℕ → Node V) (c d size least size' least' : ℕ) → Made i a h key c size least → Made i a h key d size' least' → BackGives h d h1 → BackGives h1 c h' → Still a h h'
  both_back_still h1 c d size least size' least' mc md gd gc n l = alike_same (h n) (h' n) (gc.others n (apart_made c size least mc n l) ∙ gd.others n (apart_made d size' least' md n l))

  one_back_still : (change : Placement C) → MadeHere number i a h key change → BackHere number h change h' → Still a h h'
  one_back_still Set m g = still_equal a h w h' g
  one_back_still (Link leaf) m g = back_still (number leaf) 7 0 m g

  two_back_still : (p : Parent C) (change : Replacement C) (size q : ℕ) → MadeAbove number i a h key p change size q → BackAbove number h change h' → Still a h h'
  two_back_still p Unlink size q m g = still_equal a h w h' g
  two_back_still p Collapse size q m g = still_equal a h w h' g
  two_back_still p (Shrink c) size q m g = back_still (number c) size q m g
  two_back_still p (ShrinkAbove c) size q m g = back_still (number c) p.depth q m.0 g
  two_back_still p (Grow c) size q m g = back_still (number c) size q m g
  two_back_still p (GrowLink c leaf byte) size q m g = both_back_still g.0 (number c) (number leaf) size q 7 0 m.0 m.1 g.1 g.2
  two_back_still p (Split top leaf common byte) size q m g = both_back_still g.0 (number top) (number leaf) common 1 7 0 m.0 m.1 g.1 g.2

  leaf_back_still : (s : Site C) (leaf : Option C) → MadeLeafFor number i a h key s leaf → BackLeaf number h leaf h' → Still a h h'
  leaf_back_still s None m g = still_equal a h w h' g
  leaf_back_still s (Some leaf) m g = back_still (number leaf) 7 0 m.1 g

module _ {C V : Type 0} (by_form : Bool) (number : C → ℕ) (same : V → V → Bool) (always : Bool) (i : ℕ) (a : ℕ → Note) (h h' : ℕ → Node V) (k : ℕ) (kind : Kind V) (given : Option V) (t : Tree a h) (w : LockWords a h) (f : AllFilledBy by_form h) where
  stays : Still a h h' → AllFilledBy by_form h'
  stays s = still_filled by_form a h t f h' s

  equal : h' ≡ h → AllFilledBy by_form h'
  equal e = stays (still_equal a h w h' e)

  leaf_made : (s : Site C) (next_phase : NextPhase C V) (x : Result C Refusal) → MadeLeaf number kind s h (key_bytes k) x h' next_phase → AllFilledBy by_form h'
  leaf_made s next_phase (Ok c) g = stays (still_new a h w h' (number c) _ (key_bytes k) 7 g.0)
  leaf_made s next_phase (Err e) g = equal g.0

  greater_made : (s : Site C) (p : Parent C) (leaf : Option C) (next_phase : NextPhase C V) (x : Result C Refusal) → MadeLeafFor number i a h (key_bytes k) s leaf → MadeGreater number kind s p leaf h (key_bytes k) x h' next_phase → AllFilledBy by_form h'
  greater_made s p leaf next_phase (Ok c) m g = stays (still_new a h w h' (number c) _ (key_bytes k) s.depth g.0)
  greater_made s p leaf next_phase (Err e) m g = stays (leaf_back_still number i a h h' (key_bytes k) w s leaf m g.0)

  top_made : (p : Parent C) (at : Stamp C) (common byte : ℕ) (next_phase : NextPhase C V) (x : Result C Refusal) → MadeTop number p at common byte h (key_bytes k) x h' next_phase → AllFilledBy by_form h'
  top_made p at common byte next_phase (Ok c) g = stays (still_new a h w h' (number c) _ (key_bytes k) common g.0)
  top_made p at common byte next_phase (Err e) g = equal g.0

  beside_made : (p : Parent C) (at : Stamp C) (common byte : ℕ) (top : C) (next_phase : NextPhase C V) (x : Result C Refusal) → Made i a h (key_bytes k) (number top) common 1 → MadeBeside number kind p at common byte top h (key_bytes k) x h' next_phase → AllFilledBy by_form h'
  beside_made p at common byte top next_phase (Ok c) m g = stays (still_new a h w h' (number c) _ (key_bytes k) 7 g.0)
  beside_made p at common byte top next_phase (Err e) m g = stays (back_still number i a h h' (key_bytes k) w (number top) common 1 m g.0)

  lesser_made : (s : Site C) (p : Parent C) (top : Option (Parent C)) (r : Reply V) (next_phase : NextPhase C V) (x : Result C Refusal) → MadeLesser number s p top r h (key_bytes k) x h' next_phase → AllFilledBy by_form h'
  lesser_made s p None r next_phase (Ok c) g = stays (still_new a h w h' (number c) _ (key_bytes k) s.depth g.0)
  lesser_made s p None r next_phase (Err e) g = equal g.0
  lesser_made s p (Some top) r next_phase (Ok c) g = stays (still_new a h w h' (number c) _ (key_bytes k) p.depth g.0)
  lesser_made s p (Some top) r next_phase (Err e) g = equal g.0

  locked : (n : ℕ) → ((m : ℕ) → Alike (h m) (h' m)) → AllFilledBy by_form h'
  locked n e = stays (λ m _. e m)

  one_upgraded : (root : C) (one : NodeChange C) (r : Reply V) (next_phase : NextPhase C V) (u : Upgrade) → MadeHere number i a h (key_bytes k) one.change → UpgradedHere number root one r h u h' next_phase → AllFilledBy by_form h'
  one_upgraded root one r next_phase Locked m g = locked (number one.at.node) (locked_alike h (number one.at.node) h' g.0)
  one_upgraded root one r next_phase Failed m g = stays (one_back_still number i a h h' (key_bytes k) w one.change m g.0)
  one_upgraded root one r next_phase Exhausted m g = stays (one_back_still number i a h h' (key_bytes k) w one.change m g.0)

  two_back : (two : ParentChange C) (size q : ℕ) → MadeAbove number i a h (key_bytes k) two.above two.change size q → BackAbove number h two.change h' → AllFilledBy by_form h'
  two_back two size q m g = stays (two_back_still number i a h h' (key_bytes k) w two.above two.change size q m g)

  top_upgraded : (root : C) (top : Parent C) (two : ParentChange C) (r : Reply V) (next_phase : NextPhase C V) (u : Upgrade) (size q : ℕ) → MadeAbove number i a h (key_bytes k) two.above two.change size q → UpgradedTop number root top two r h u h' next_phase → AllFilledBy by_form h'
  top_upgraded root top two r next_phase Locked size q m g = locked (number top.stamp.node) (locked_alike h (number top.stamp.node) h' g.0)
  top_upgraded root top two r next_phase Failed size q m g = two_back two size q m g.0
  top_upgraded root top two r next_phase Exhausted size q m g = two_back two size q m g.0

  above_upgraded : (root : C) (two : ParentChange C) (r : Reply V) (next_phase : NextPhase C V) (u : Upgrade) (size q : ℕ) → MadeAbove number i a h (key_bytes k) two.above two.change size q → UpgradedAbove number root two r h u h' next_phase → AllFilledBy by_form h'
  above_upgraded root two r next_phase Locked size q m g = locked (number two.above.stamp.node) (locked_alike h (number two.above.stamp.node) h' g.0)
  above_upgraded root two r next_phase Failed size q m g = two_back two size q m g.0
  above_upgraded root two r next_phase Exhausted size q m g = two_back two size q m g.0

  both_upgraded : (two : ParentChange C) (r : Reply V) (next_phase : NextPhase C V) (u : Upgrade) (size q : ℕ) → MadeAbove number i a h (key_bytes k) two.above two.change size q → UpgradedBelow number two r h u h' next_phase → AllFilledBy by_form h'
  both_upgraded two r next_phase Locked size q m g = locked (number two.at.node) (locked_alike h (number two.at.node) h' g.0)
  both_upgraded two r next_phase Failed size q m g = two_back two size q m g.0
  both_upgraded two r next_phase Exhausted size q m g = two_back two size q m g.0

  -- every step
  pub step_filled : (most : ℕ) (why : NodeType → Refusal → Type 0) (root : C) (fail : Bool) (answer : Option (Option V)) (s : Phase C V) (given' : Option V) (next_phase : NextPhase C V) → Known number same always i a h k (key_bytes k) kind given s → Fills by_form number h given s
      → PhaseStepped number same always most why root (key_bytes k) kind fail answer given s h given' next_phase h' → AllFilledBy by_form h'
  step_filled most why root fail answer (MakeLeaf s) given' next_phase m x g = leaf_made s next_phase g.1.0 g.1.1
  step_filled most why root fail answer (MakeGreater s p leaf) given' next_phase m x g = greater_made s p leaf next_phase g.1.0 m.3 g.1.1
  step_filled most why root fail answer (MakeTop p at common byte) given' next_phase m x g = top_made p at common byte next_phase g.1.0 g.1.1
  step_filled most why root fail answer (MakeBeside p at common byte top) given' next_phase m x g = beside_made p at common byte top next_phase g.1.0 m.6 g.1.1
  step_filled most why root fail answer (MakeLesser s p top r) given' next_phase m x g = lesser_made s p top r next_phase g.1.0 g.1.1
  step_filled most why root fail answer (CheckAbove p one r) given' next_phase m x g = on_test (is_taken (h (number p.node)) p.version) (λ q. equal (g.1.goes_on q).0) (λ q. stays (one_back_still number i a h h' (key_bytes k) w one.change m.2.made (g.1.goes_back q).0))
  step_filled most why root fail answer (UpgradeHere one r) given' next_phase m x g = one_upgraded root one r next_phase g.1.0 m.1.1.made g.1.2
  step_filled most why root fail answer (ChangeHere one r) given' next_phase m x g = one_filled by_form number i a h (key_bytes k) t w f one m.0 given h' m.1 m.2 x g.1
  step_filled most why root fail answer (UpgradeTop top two r) given' next_phase m x g = top_upgraded root top two r next_phase g.1.0 _ m.1.1 m.1.2.made g.1.2
  step_filled most why root fail answer (UpgradeAbove two r) given' next_phase m x g = above_upgraded root two r next_phase g.1.0 _ m.1.1 m.1.2.made g.1.2
  step_filled most why root fail answer (UpgradeBelow two r) given' next_phase m x g = both_upgraded two r next_phase g.1.0 _ m.1.1 m.1.2.made g.1.2
  step_filled most why root fail answer (ChangeAbove two r) given' next_phase m x g = two_filled by_form number i a h (key_bytes k) t w f two given m.0 m.1 h' m.2.top m.2.above m.2.placed m.2.wanted m.2.made m.4 x g.1
  step_filled most why root fail answer (Obsolete n next p r) given' next_phase m x g = stays (still_but a h w h' (number n) _ (record { prefix = refl; children = λ b. refl; count = refl; capacity = refl }) g.1)
  step_filled most why root fail answer (Retire n next p r) given' next_phase m x g = stays (still_but a h w h' (number n) _ (record { prefix = refl; children = λ b. refl; count = refl; capacity = refl }) g.1)
  step_filled most why root fail answer (UnlockBelow n p r) given' next_phase m x g = stays (still_but a h w h' (number n) _ (record { prefix = refl; children = λ b. refl; count = refl; capacity = refl }) g.1)
  step_filled most why root fail answer (Unlock n r) given' next_phase m x g = stays (still_but a h w h' (number n) _ (record { prefix = refl; children = λ b. refl; count = refl; capacity = refl }) g.1)
  step_filled most why root fail answer (Unwind n next e) given' next_phase m x g = stays (still_but a h w h' (number n) _ (record { prefix = refl; children = λ b. refl; count = refl; capacity = refl }) g.1)
  step_filled most why root fail answer _ given' next_phase m x g = equal g.0

-- the steps of others, and nodes that are destroyed, leave what a call is about to do
module _ {C V : Type 0} (by_form : Bool) (number : C → ℕ) (key : List ℕ) (K : ℕ → Type 0) (i : ℕ) (a : ℕ → Note) (h : ℕ → Node V) (a' : ℕ → Note) (h' : ℕ → Node V) (r : Rely K i a h a' h') where
  held_places : (c size least : ℕ) → Made i a h key c size least → (h' c).capacity ≡ (h c).capacity
  held_places c size least m = ap (λ z. z.capacity) (r.held c m.held).0

  one_places : (change : Placement C) → MadeHere number i a h key change → PlacesHere number h h' change
  one_places Set m = tt
  one_places (Link leaf) m = held_places (number leaf) 7 0 m

  two_places : (p : Parent C) (change : Replacement C) (size q : ℕ) → MadeAbove number i a h key p change size q → PlacesAbove number h h' change
  two_places p Unlink size q m = tt
  two_places p Collapse size q m = tt
  two_places p (Shrink c) size q m = held_places (number c) size q m
  two_places p (ShrinkAbove c) size q m = held_places (number c) p.depth q m.0
  two_places p (Grow c) size q m = held_places (number c) size q m
  two_places p (GrowLink c leaf byte) size q m = (held_places (number c) size q m.0, held_places (number leaf) 7 0 m.1)
  two_places p (Split top leaf common byte) size q m = (held_places (number top) common 1 m.0, held_places (number leaf) 7 0 m.1)

  one_on : (given : Option V) (one : NodeChange C) (x : Hung V) → K (number one.at.node) → HereKnown number i a h key one x → MayFillHere by_form number h given one → MayFillHere by_form number h' given one
  one_on given one x kn m fills q =
      let e : h' (number one.at.node) ≡ h (number one.at.node) = r.word (number one.at.node) one.at.version kn m.fresh.stamped.published m.fresh.stamped.up q in
      let P : Node V → Type 0 = λ y. is_taken y one.at.version ≡ true in
      fills_one_on by_form number h h' one.change given (number one.at.node) (h (number one.at.node)) (h' (number one.at.node)) (alike_same (h (number one.at.node)) (h' (number one.at.node)) e) (one_places one.change m.made) (fills (subst P e q))

  at_on : (two : ParentChange C) (size q : ℕ) → MadeAbove number i a h key two.above two.change size q → h' (number two.above.stamp.node) ≡ h (number two.above.stamp.node) → h' (number two.at.node) ≡ h (number two.at.node) → FillsAt by_form number h two → FillsAt by_form number h' two
  at_on two size q m ep en x = fills_two_on by_form number h h' two.change (number two.above.stamp.node) (h (number two.above.stamp.node)) (h' (number two.above.stamp.node)) (number two.at.node) (h (number two.at.node)) (h' (number two.at.node))
      (alike_same (h (number two.above.stamp.node)) (h' (number two.above.stamp.node)) ep) (alike_same (h (number two.at.node)) (h' (number two.at.node)) en) (two_places two.above two.change size q m) x

  two_on : (two : ParentChange C) (found : Option V) (q : ℕ) → K (number two.above.stamp.node) → K (number two.at.node) → AboveKnown number i a h key two found q → MayFillAbove by_form number h two → MayFillAbove by_form number h' two
  two_on two found q kp kn m fills tp tn =
      let ep : h' (number two.above.stamp.node) ≡ h (number two.above.stamp.node) = r.word (number two.above.stamp.node) two.above.stamp.version kp m.above.fresh.stamped.published m.above.fresh.stamped.up tp in
      let en : h' (number two.at.node) ≡ h (number two.at.node) = r.word (number two.at.node) two.at.version kn m.fresh.stamped.published m.fresh.stamped.up tn in
      let P : Node V → Type 0 = λ y. is_taken y two.above.stamp.version ≡ true in
      let Q : Node V → Type 0 = λ y. is_taken y two.at.version ≡ true in
      at_on two _ q m.made ep en (fills (subst P ep tp) (subst Q en tn))

  half_on : (two : ParentChange C) (found : Option V) (q : ℕ) → K (number two.at.node) → HalfLocked number i a h key two found q → MayFillHalf by_form number h two → MayFillHalf by_form number h' two
  half_on two found q kn m fills tn =
      let ep : h' (number two.above.stamp.node) ≡ h (number two.above.stamp.node) = (r.mine (number two.above.stamp.node) m.above.holding.owner).0 in
      let en : h' (number two.at.node) ≡ h (number two.at.node) = r.word (number two.at.node) two.at.version kn m.fresh.stamped.published m.fresh.stamped.up tn in
      let Q : Node V → Type 0 = λ y. is_taken y two.at.version ≡ true in
      at_on two _ q m.made ep en (fills (subst Q en tn))

  plan_on : (v : V) (plan : Plan C) → Each K (names_plan number plan) → PlanKnown number i a h key plan → MayFillPlan by_form number h v plan → MayFillPlan by_form number h' v plan
  plan_on v (Here check one) e m x = one_on (Some v) one _ (each_right K (name_stamped number check) (names_one number one) e).0 m.1 x
  plan_on v (Above two) e m x = two_on two None m.0.0 e.0 e.1.0 m.0.1 x

  small_on : (s : Site C) (leaf : Option C) → MadeLeafFor number i a h key s leaf → IsSmall number h leaf → IsSmall number h' leaf
  small_on s None m x = tt
  small_on s (Some leaf) m x = held_places (number leaf) 7 0 m.1 ∙ x

  -- what a call is about to do leaves the tree filled over the steps of others
  pub fills_kept : (same : V → V → Bool) (always : Bool) (k : ℕ) (kind : Kind V) (given : Option V) (s : Phase C V) → Each K (names number s) → Known number same always i a h k key kind given s → Fills by_form number h given s → Fills by_form number h' given s
  fills_kept same always k kind given (MakeGreater s p leaf) e m x = small_on s leaf m.3 x
  fills_kept same always k kind given (MakeBeside p at common byte top) e m x = held_places (number top) common 1 m.6 ∙ x
  fills_kept same always k kind given (MakeLesser s p None r') e m x = x
  fills_kept same always k kind given (MakeLesser s p (Some top) r') e m x = tt
  fills_kept same always k kind given (AskNew plan) e m x = λ v. plan_on v plan e m.0 (x v)
  fills_kept same always k kind given (CheckAbove p one r') e m x = one_on given one _ e.1.0 m.2 x
  fills_kept same always k kind given (UpgradeHere one r') e m x = one_on given one m.1.0 e.0 m.1.1 x
  fills_kept same always k kind given (ChangeHere one r') e m x = fills_one_on by_form number h h' one.change given (number one.at.node) (h (number one.at.node)) (h' (number one.at.node))
      (alike_same (h (number one.at.node)) (h' (number one.at.node)) (r.mine (number one.at.node) m.1.holding.owner).0) (one_places one.change m.1.made) x
  fills_kept same always k kind given (UpgradeTop g two r') e m x = two_on two m.1.0 m.1.1 e.1.0 e.1.1.0 m.1.2 x
  fills_kept same always k kind given (UpgradeAbove two r') e m x = two_on two m.1.0 m.1.1 e.0 e.1.0 m.1.2 x
  fills_kept same always k kind given (UpgradeBelow two r') e m x = half_on two m.1.0 m.1.1 e.1.0 m.1.2 x
  fills_kept same always k kind given (ChangeAbove two r') e m x = at_on two _ m.1 m.2.made (r.mine (number two.above.stamp.node) m.2.above.holding.owner).0 (r.mine (number two.at.node) m.2.owner).0 x
  fills_kept same always k kind given _ e m x = tt
