-- A step of a call leaves what was destroyed as it is, and every used name used.
use Rattle.std.proofs.Common.{◌≡◌, ◌≢◌, ℕ, Bool, true, false, List, sym, ◌∙◌, ap, subst, inl, inr}
use Rattle.std.specs.Prelude.{Option, None, Some, Result, Ok, Err}
use Rattle.std.proofs.lemmas.Bool.{cases_eq}
use Rattle.judge.specs.declared.journal.Reply.{Reply}
use Rattle.congee.specs.declared.forms.base_node.NodeType.{NodeType}
use Rattle.congee.specs.declared.protocol.store.Refusal.{Refusal}
use Rattle.congee.specs.declared.protocol.store.Stamp.{Stamp}
use Rattle.congee.specs.declared.protocol.store.Upgrade.{Upgrade}
use Rattle.congee.specs.declared.protocol.store.Upgrade.TheVariants.{Locked, Failed, Exhausted}
use Rattle.congee.specs.declared.protocol.phase.Kind.{Kind}
use Rattle.congee.specs.declared.protocol.phase.Parent.{Parent}
use Rattle.congee.specs.declared.protocol.phase.Site.{Site}
use Rattle.congee.specs.declared.protocol.phase.Placement.{Placement}
use Rattle.congee.specs.declared.protocol.phase.Placement.TheVariants.{Set, Link}
use Rattle.congee.specs.declared.protocol.phase.NodeChange.{NodeChange}
use Rattle.congee.specs.declared.protocol.phase.Replacement.{Replacement}
use Rattle.congee.specs.declared.protocol.phase.Replacement.TheVariants.{Unlink, Grow, GrowLink, Split, Shrink, Collapse, ShrinkAbove}
use Rattle.congee.specs.declared.protocol.phase.ParentChange.{ParentChange}
use Rattle.congee.specs.declared.protocol.phase.Phase.{Phase}
use Rattle.congee.specs.declared.protocol.phase.Phase.TheVariants.{MakeLeaf, MakeGreater, MakeTop, MakeBeside, MakeLesser, CheckAbove, UpgradeHere, ChangeHere, UpgradeTop, UpgradeAbove, UpgradeBelow, ChangeAbove, Obsolete, Retire, UnlockBelow, Unlock, Unwind}
use Rattle.congee.specs.declared.protocol.next_phase.NextPhase.{NextPhase}
use Rattle.congee.specs.Heap.{Node, Hung, Stands, is_taken}
use Rattle.congee.specs.protocol.Events.{SameBut, ChangeGives, TakeOverGives, BackGives}
use Rattle.congee.specs.protocol.Steps.{BackHere, BackAbove, BackLeaf, MadeLeaf, MadeGreater, MadeTop, MadeBeside, MadeLesser, UpgradedHere, UpgradedTop, UpgradedAbove, UpgradedBelow, PutsLesser, Collapses, Lessens, MayLessen, MayTop, ChangedHere, ChangedAbove, PhaseStepped, MayStep, MayBackHere, MayBackAbove, MayBackLeaf, MayChangeHere, MayChangeAbove}
use Rattle.congee.proofs.lemmas.Graft.{on_test}

-- a used name stays used, and its node, if it was destroyed, as it is
pub record StillAt {V : Type 0} (p q : Node V) : Type 0 where
  pub dead : p.destroyed ≡ true → q ≡ p
  pub used : q.made ≡ true

-- each used name stays used, and what was destroyed stays as it is
abbrev pub Still : {V : Type 0} → (ℕ → Node V) → (ℕ → Node V) → Type 0
Still h h' = (n : ℕ) → (h n).made ≡ true → StillAt (h n) (h' n)

module _ {V : Type 0} where
  still_same : (h h' : ℕ → Node V) → h' ≡ h → Still h h'
  still_same h h' e n m = record { dead = λ _. ap (λ k. k n) e; used = ap (λ k. (k n).made) e ∙ m }

  still_then : (h h1 h2 : ℕ → Node V) → Still h h1 → Still h1 h2 → Still h h2
  still_then h h1 h2 f g n m =
      let a : StillAt (h n) (h1 n) = f n m in
      let b : StillAt (h1 n) (h2 n) = g n a.used in
      record { dead = λ d. b.dead (ap (λ x. x.destroyed) (a.dead d) ∙ d) ∙ a.dead d; used = b.used }

  -- one node changes, which stood or was new
  still_one : (h h' : ℕ → Node V) (c : ℕ) → Stands (h c) → (h' c).made ≡ true → ((m : ℕ) → m ≢ c → h' m ≡ h m) → Still h h'
  still_one h h' c s made others n m = elim (cases_eq n c) [
    | inl e ↦ (
        let P : ℕ → Type 0 = λ y. StillAt (h y) (h' y) in
        subst P (sym e) (record { dead = λ d. absurd (let k : (h c).destroyed ≡ false = s.kept in cc); used = made }))
    | inr ne ↦ record { dead = λ _. others n ne; used = ap (λ x. x.made) (others n ne) ∙ m }
  ]

  still_new : (h h' : ℕ → Node V) (c : ℕ) → (h c).made ≡ false → ((m : ℕ) → m ≢ c → h' m ≡ h m) → Still h h'
  still_new h h' c un others n m = elim (cases_eq n c) [
    | inl e ↦ absurd (let P : ℕ → Type 0 = λ y. (h y).made ≡ true in let z : (h c).made ≡ true = subst P e m in cc)
    | inr ne ↦ record { dead = λ _. others n ne; used = ap (λ x. x.made) (others n ne) ∙ m }
  ]

  still_but : (h h' : ℕ → Node V) (c : ℕ) (x : Node V) → Stands (h c) → x.made ≡ true → SameBut h c x h' → Still h h'
  still_but h h' c x s made g = still_one h h' c s (ap (λ y. y.made) g.after ∙ made) g.others

  still_change : (h h' : ℕ → Node V) (c b : ℕ) (x : Hung V) → Stands (h c) → ChangeGives h c b x h' → Still h h'
  still_change h h' c b x s g = still_one h h' c s (g.made ∙ s.made) g.others

  still_back : (h h' : ℕ → Node V) (c : ℕ) → Stands (h c) → BackGives h c h' → Still h h'
  still_back h h' c s g = still_one h h' c s g.made g.others

  still_over : (h h' : ℕ → Node V) (m c : ℕ) → Stands (h m) → Stands (h c) → TakeOverGives h m c h' → Still h h'
  still_over h h' m c sm sc g n made = elim (cases_eq n c) [
    | inl e ↦ (
        let P : ℕ → Type 0 = λ y. StillAt (h y) (h' y) in
        subst P (sym e) (record { dead = λ d. absurd (let k : (h c).destroyed ≡ false = sc.kept in cc); used = g.made ∙ sc.made }))
    | inr nc ↦ elim (cases_eq n m) [
      | inl e ↦ (
          let P : ℕ → Type 0 = λ y. StillAt (h y) (h' y) in
          subst P (sym e) (record { dead = λ d. absurd (let k : (h m).destroyed ≡ false = sm.kept in cc); used = g.made_old ∙ sm.made }))
      | inr nm ↦ record { dead = λ _. g.others n nc nm; used = ap (λ x. x.made) (g.others n nc nm) ∙ made }
    ]
  ]

  -- what stands, stands after a change
  pub stands_changed : (h h' : ℕ → Node V) (c b n : ℕ) (x : Hung V) → ChangeGives h c b x h' → Stands (h n) → Stands (h' n)
  stands_changed h h' c b n x g s = elim (cases_eq n c) [
    | inl e ↦ (
        let P : ℕ → Type 0 = λ y. Stands (h y) → Stands (h' y) in
        subst P (sym e) (λ z. record { made = g.made ∙ z.made; kept = g.destroyed ∙ z.kept }) s)
    | inr ne ↦ subst Stands (sym (g.others n ne)) s
  ]

  -- a node that stood stands after the children of one node went over into another
  pub stands_over : (h h' : ℕ → Node V) (m c n : ℕ) → TakeOverGives h m c h' → Stands (h n) → Stands (h' n)
  stands_over h h' m c n g s = elim (cases_eq n c) [
    | inl e ↦ (let P : ℕ → Type 0 = λ y. Stands (h y) → Stands (h' y) in subst P (sym e) (λ z. record { made = g.made ∙ z.made; kept = g.destroyed ∙ z.kept }) s)
    | inr nc ↦ elim (cases_eq n m) [
      | inl e ↦ (let P : ℕ → Type 0 = λ y. Stands (h y) → Stands (h' y) in subst P (sym e) (λ z. record { made = g.made_old ∙ z.made; kept = g.destroyed_old ∙ z.kept }) s)
      | inr nm ↦ subst Stands (sym (g.others n nc nm)) s
    ]
  ]

module _ {C V : Type 0} (number : C → ℕ) (h h' : ℕ → Node V) where
  one_back : (change : Placement C) → MayBackHere number h change → BackHere number h change h' → Still h h'
  one_back Set may g = still_same h h' g
  one_back (Link leaf) may g = still_back h h' (number leaf) may g

  two_back : (change : Replacement C) → MayBackAbove number h change → BackAbove number h change h' → Still h h'
  two_back Unlink may g = still_same h h' g
  two_back Collapse may g = still_same h h' g
  two_back (Shrink c) may g = still_back h h' (number c) may g
  two_back (ShrinkAbove c) may g = still_back h h' (number c) may g
  two_back (Grow c) may g = still_back h h' (number c) may g
  two_back (GrowLink c leaf byte) may g =
      let s : Stands (g.0 (number c)) = subst Stands (sym (g.1.others (number c) may.2)) may.1 in
      still_then h g.0 h' (still_back h g.0 (number leaf) may.0 g.1) (still_back g.0 h' (number c) s g.2)
  two_back (Split top leaf common byte) may g =
      let s : Stands (g.0 (number top)) = subst Stands (sym (g.1.others (number top) may.2)) may.1 in
      still_then h g.0 h' (still_back h g.0 (number leaf) may.0 g.1) (still_back g.0 h' (number top) s g.2)

  leaf_back : (leaf : Option C) → MayBackLeaf number h leaf → BackLeaf number h leaf h' → Still h h'
  leaf_back None may g = still_same h h' g
  leaf_back (Some leaf) may g = still_back h h' (number leaf) may g

  leaf_made : (kind : Kind V) (s : Site C) (key : List ℕ) (r : Result C Refusal) (t : NextPhase C V) → MadeLeaf number kind s h key r h' t → Still h h'
  leaf_made kind s key (Ok c) t g = still_new h h' (number c) g.0.unmade g.0.others
  leaf_made kind s key (Err e) t g = still_same h h' g.0

  greater_made : (kind : Kind V) (s : Site C) (p : Parent C) (leaf : Option C) (key : List ℕ) (r : Result C Refusal) (t : NextPhase C V) → MayBackLeaf number h leaf → MadeGreater number kind s p leaf h key r h' t → Still h h'
  greater_made kind s p leaf key (Ok c) t may g = still_new h h' (number c) g.0.unmade g.0.others
  greater_made kind s p leaf key (Err e) t may g = leaf_back leaf may g.0

  top_made : (p : Parent C) (at : Stamp C) (common byte : ℕ) (key : List ℕ) (r : Result C Refusal) (t : NextPhase C V) → MadeTop number p at common byte h key r h' t → Still h h'
  top_made p at common byte key (Ok c) t g = still_new h h' (number c) g.0.unmade g.0.others
  top_made p at common byte key (Err e) t g = still_same h h' g.0

  beside_made : (kind : Kind V) (p : Parent C) (at : Stamp C) (common byte : ℕ) (top : C) (key : List ℕ) (r : Result C Refusal) (t : NextPhase C V) → Stands (h (number top)) → MadeBeside number kind p at common byte top h key r h' t → Still h h'
  beside_made kind p at common byte top key (Ok c) t s g = still_new h h' (number c) g.0.unmade g.0.others
  beside_made kind p at common byte top key (Err e) t s g = still_back h h' (number top) s g.0

  lesser_made : (s : Site C) (p : Parent C) (top : Option (Parent C)) (r : Reply V) (key : List ℕ) (x : Result C Refusal) (t : NextPhase C V) → MadeLesser number s p top r h key x h' t → Still h h'
  lesser_made s p None r key (Ok c) t g = still_new h h' (number c) g.0.unmade g.0.others
  lesser_made s p None r key (Err e) t g = still_same h h' g.0
  lesser_made s p (Some top) r key (Ok c) t g = still_new h h' (number c) g.0.unmade g.0.others
  lesser_made s p (Some top) r key (Err e) t g = still_same h h' g.0

  locked : (n : ℕ) → Stands (h n) → SameBut h n (record (h n) { locked = true }) h' → Still h h'
  locked n s g = still_but h h' n _ s s.made g

  one_upgraded : (root : C) (one : NodeChange C) (r : Reply V) (u : Upgrade) (t : NextPhase C V) → Stands (h (number one.at.node)) → MayBackHere number h one.change → UpgradedHere number root one r h u h' t → Still h h'
  one_upgraded root one r Locked t s may g = locked (number one.at.node) s g.0
  one_upgraded root one r Failed t s may g = one_back one.change may g.0
  one_upgraded root one r Exhausted t s may g = one_back one.change may g.0

  top_upgraded : (root : C) (top : Parent C) (two : ParentChange C) (r : Reply V) (u : Upgrade) (t : NextPhase C V) → Stands (h (number top.stamp.node)) → MayBackAbove number h two.change → UpgradedTop number root top two r h u h' t → Still h h'
  top_upgraded root top two r Locked t s may g = locked (number top.stamp.node) s g.0
  top_upgraded root top two r Failed t s may g = two_back two.change may g.0
  top_upgraded root top two r Exhausted t s may g = two_back two.change may g.0

  above_upgraded : (root : C) (two : ParentChange C) (r : Reply V) (u : Upgrade) (t : NextPhase C V) → Stands (h (number two.above.stamp.node)) → MayBackAbove number h two.change → UpgradedAbove number root two r h u h' t → Still h h'
  above_upgraded root two r Locked t s may g = locked (number two.above.stamp.node) s g.0
  above_upgraded root two r Failed t s may g = two_back two.change may g.0
  above_upgraded root two r Exhausted t s may g = two_back two.change may g.0

  both_upgraded : (two : ParentChange C) (r : Reply V) (u : Upgrade) (t : NextPhase C V) → Stands (h (number two.at.node)) → MayBackAbove number h two.change → UpgradedBelow number two r h u h' t → Still h h'
  both_upgraded two r Locked t s may g = locked (number two.at.node) s g.0
  both_upgraded two r Failed t s may g = two_back two.change may g.0
  both_upgraded two r Exhausted t s may g = two_back two.change may g.0

  one_changed : (key : List ℕ) (new : Option V) (one : NodeChange C) (change : Placement C) → MayChangeHere number new one change h → ChangedHere number key new one change h h' → Still h h'
  one_changed key new one Set may g = still_change h h' (number one.at.node) _ _ may.stands g
  one_changed key None one (Link leaf) may g = absurd may
  one_changed key (Some v) one (Link leaf) may g =
      still_then h g.0 h' (still_change h g.0 (number leaf) _ _ may.1.stands g.1)
      (still_change g.0 h' (number one.at.node) _ _ (stands_changed h g.0 (number leaf) _ (number one.at.node) _ g.1 may.0.stands) g.2)

  lessened : (m c b p up : ℕ) → MayLessen h m c b p up → PutsLesser h m c b p up h' → Still h h'
  lessened m c b p up may g =
      let up1 : Stands (g.0 p) = stands_over h g.0 m c p g.2 may.above.stands in
      let c1 : Stands (g.0 c) = stands_over h g.0 m c c g.2 may.blank.stands in
      still_then h g.0 h' (still_over h g.0 m c may.stands may.blank.stands g.2)
      (still_then g.0 g.1 h' (still_change g.0 g.1 c _ _ c1 g.3) (still_change g.1 h' p _ _ (stands_changed g.0 g.1 c _ p _ g.3 up1) g.4))

  top_changed : (two : ParentChange C) (top : Option (Parent C)) → MayTop number two Collapse top h → Collapses number two top h h' → Still h h'
  top_changed two None may g = absurd may
  top_changed two (Some top) may g = still_change h h' (number top.stamp.node) _ _ may.stands_top g.2

  top_lessened : (two : ParentChange C) (c : C) (top : Option (Parent C)) → MayTop number two (ShrinkAbove c) top h → Lessens number two c top h h' → Still h h'
  top_lessened two c None may g = absurd may
  top_lessened two c (Some top) may g = lessened _ _ _ _ _ may g

  two_changed : (key : List ℕ) (new : Option V) (two : ParentChange C) (change : Replacement C) → MayChangeAbove number key new two change h → ChangedAbove number key new two change h h' → Still h h'
  two_changed key new two Unlink may g = still_change h h' (number two.above.stamp.node) _ _ may.stands g
  two_changed key new two (Shrink c) may g = lessened _ _ _ _ _ may g
  two_changed key new two Collapse may g = top_changed two two.top may g
  two_changed key new two (ShrinkAbove c) may g = top_lessened two c two.top may g
  two_changed key None two (Grow c) may g = absurd may
  two_changed key None two (GrowLink c leaf byte) may g = absurd may
  two_changed key None two (Split top leaf common byte) may g = absurd may
  two_changed key (Some v) two (Grow c) may g =
      let up1 : Stands (g.0 (number two.above.stamp.node)) = stands_over h g.0 (number two.at.node) (number c) (number two.above.stamp.node) g.2 may.0.stands in
      let c1 : Stands (g.0 (number c)) = stands_over h g.0 (number two.at.node) (number c) (number c) g.2 may.2.stands in
      still_then h g.0 h' (still_over h g.0 (number two.at.node) (number c) may.1 may.2.stands g.2)
      (still_then g.0 g.1 h' (still_change g.0 g.1 (number c) _ _ c1 g.3)
      (still_change g.1 h' (number two.above.stamp.node) _ _ (stands_changed g.0 g.1 (number c) _ (number two.above.stamp.node) _ g.3 up1) g.4))
  two_changed key (Some v) two (GrowLink c leaf byte) may g =
      let h1 : ℕ → Node V = g.0 in let h2 : ℕ → Node V = g.1 in let h3 : ℕ → Node V = g.2 in
      let up1 : Stands (h1 (number two.above.stamp.node)) = stands_changed h h1 (number leaf) _ (number two.above.stamp.node) _ g.3 may.0.stands in
      let at1 : Stands (h1 (number two.at.node)) = stands_changed h h1 (number leaf) _ (number two.at.node) _ g.3 may.1 in
      let c1 : Stands (h1 (number c)) = stands_changed h h1 (number leaf) _ (number c) _ g.3 may.2.stands in
      let up2 : Stands (h2 (number two.above.stamp.node)) = stands_over h1 h2 (number two.at.node) (number c) (number two.above.stamp.node) g.4 up1 in
      let c2 : Stands (h2 (number c)) = stands_over h1 h2 (number two.at.node) (number c) (number c) g.4 c1 in
      let up3 : Stands (h3 (number two.above.stamp.node)) = stands_changed h2 h3 (number c) _ (number two.above.stamp.node) _ g.5 up2 in
      still_then h h1 h' (still_change h h1 (number leaf) _ _ may.3.stands g.3)
      (still_then h1 h2 h' (still_over h1 h2 (number two.at.node) (number c) at1 c1 g.4)
      (still_then h2 h3 h' (still_change h2 h3 (number c) _ _ c2 g.5)
      (still_change h3 h' (number two.above.stamp.node) _ _ up3 g.6)))
  two_changed key (Some v) two (Split top leaf common byte) may g =
      let h1 : ℕ → Node V = g.0 in let h2 : ℕ → Node V = g.1 in let h3 : ℕ → Node V = g.2 in
      let up1 : Stands (h1 (number two.above.stamp.node)) = stands_changed h h1 (number leaf) _ (number two.above.stamp.node) _ g.3 may.0.stands in
      let t1 : Stands (h1 (number top)) = stands_changed h h1 (number leaf) _ (number top) _ g.3 may.1.stands in
      let up2 : Stands (h2 (number two.above.stamp.node)) = stands_changed h1 h2 (number top) _ (number two.above.stamp.node) _ g.4 up1 in
      let t2 : Stands (h2 (number top)) = stands_changed h1 h2 (number top) _ (number top) _ g.4 t1 in
      let up3 : Stands (h3 (number two.above.stamp.node)) = stands_changed h2 h3 (number top) _ (number two.above.stamp.node) _ g.5 up2 in
      still_then h h1 h' (still_change h h1 (number leaf) _ _ may.2.stands g.3)
      (still_then h1 h2 h' (still_change h1 h2 (number top) _ _ t1 g.4)
      (still_then h2 h3 h' (still_change h2 h3 (number top) _ _ t2 g.5)
      (still_change h3 h' (number two.above.stamp.node) _ _ up3 g.6)))

  -- a step of a call leaves used names used, and destroyed nodes as they are
  pub step_still : (same : V → V → Bool) (always : Bool) (most : ℕ) (why : NodeType → Refusal → Type 0) (root : C) (key : List ℕ) (kind : Kind V) (fail : Bool) (answer : Option (Option V)) (new : Option V) (s : Phase C V) (new' : Option V) (t : NextPhase C V)
      → MayStep number root key new s h → PhaseStepped number same always most why root key kind fail answer new s h new' t h' → Still h h'
  step_still same always most why root key kind fail answer new (MakeLeaf s) new' t may g = leaf_made kind s key g.1.0 t g.1.1
  step_still same always most why root key kind fail answer new (MakeGreater s p leaf) new' t may g = greater_made kind s p leaf key g.1.0 t may.1 g.1.1
  step_still same always most why root key kind fail answer new (MakeTop p at common byte) new' t may g = top_made p at common byte key g.1.0 t g.1.1
  step_still same always most why root key kind fail answer new (MakeBeside p at common byte top) new' t may g = beside_made kind p at common byte top key g.1.0 t may g.1.1
  step_still same always most why root key kind fail answer new (MakeLesser s p top r) new' t may g = lesser_made s p top r key g.1.0 t g.1.1
  step_still same always most why root key kind fail answer new (CheckAbove p one r) new' t may g =
      on_test (is_taken (h (number p.node)) p.version) (λ e. still_same h h' (g.1.goes_on e).0) (λ e. one_back one.change may.1 (g.1.goes_back e).0)
  step_still same always most why root key kind fail answer new (UpgradeHere one r) new' t may g = one_upgraded root one r g.1.0 t may.0 may.1 g.1.2
  step_still same always most why root key kind fail answer new (ChangeHere one r) new' t may g = one_changed key new one one.change may g.1
  step_still same always most why root key kind fail answer new (UpgradeTop top two r) new' t may g = top_upgraded root top two r g.1.0 t may.0 may.1 g.1.2
  step_still same always most why root key kind fail answer new (UpgradeAbove two r) new' t may g = above_upgraded root two r g.1.0 t may.0 may.1 g.1.2
  step_still same always most why root key kind fail answer new (UpgradeBelow two r) new' t may g = both_upgraded two r g.1.0 t may.0 may.1 g.1.2
  step_still same always most why root key kind fail answer new (ChangeAbove two r) new' t may g = two_changed key new two two.change may g.1
  step_still same always most why root key kind fail answer new (Obsolete n next p r) new' t may g = still_but h h' (number n) _ may.0 may.0.made g.1
  step_still same always most why root key kind fail answer new (Retire n next p r) new' t may g = still_but h h' (number n) _ may.0 may.0.made g.1
  step_still same always most why root key kind fail answer new (UnlockBelow n p r) new' t may g = still_but h h' (number n) _ may.0 may.0.made g.1
  step_still same always most why root key kind fail answer new (Unlock n r) new' t may g = still_but h h' (number n) _ may.0 may.0.made g.1
  step_still same always most why root key kind fail answer new (Unwind n next e) new' t may g = still_but h h' (number n) _ may.0 may.0.made g.1
  step_still same always most why root key kind fail answer new _ new' t may g = still_same h h' g.0
