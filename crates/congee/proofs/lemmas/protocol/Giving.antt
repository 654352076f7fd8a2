-- A step of a call destroys only nodes that it has made.
use Rattle.std.proofs.Common.{◌≡◌, ◌≢◌, ℕ, Bool, true, false, List, refl, sym, ◌∙◌, ap, subst, inl, inr, ◌⊎◌}
use Rattle.std.specs.Prelude.{Option, None, Some, Result, Ok, Err}
use Rattle.std.proofs.lemmas.Bool.{cases_eq}
use Rattle.judge.specs.declared.journal.Reply.{Reply}
use Rattle.congee.specs.declared.forms.base_node.NodeType.{NodeType}
use Rattle.congee.specs.declared.protocol.store.Refusal.{Refusal}
use Rattle.congee.specs.declared.protocol.store.Stamp.{Stamp}
use Rattle.congee.specs.declared.protocol.store.Upgrade.{Upgrade}
use Rattle.congee.specs.declared.protocol.store.Upgrade.TheVariants.{Locked, Failed, Exhausted}
use Rattle.congee.specs.declared.protocol.phase.Kind.{Kind}
use Rattle.congee.specs.declared.protocol.phase.Parent.{Parent}
use Rattle.congee.specs.declared.protocol.phase.Site.{Site}
use Rattle.congee.specs.declared.protocol.phase.Placement.{Placement}
use Rattle.congee.specs.declared.protocol.phase.Placement.TheVariants.{Set, Link}
use Rattle.congee.specs.declared.protocol.phase.NodeChange.{NodeChange}
use Rattle.congee.specs.declared.protocol.phase.Replacement.{Replacement}
use Rattle.congee.specs.declared.protocol.phase.Replacement.TheVariants.{Unlink, Grow, GrowLink, Split, Shrink, Collapse, ShrinkAbove}
use Rattle.congee.specs.declared.protocol.phase.ParentChange.{ParentChange}
use Rattle.congee.specs.declared.protocol.phase.Phase.{Phase}
use Rattle.congee.specs.declared.protocol.phase.Phase.TheVariants.{MakeLeaf, MakeGreater, MakeTop, MakeBeside, MakeLesser, CheckAbove, UpgradeHere, ChangeHere, UpgradeTop, UpgradeAbove, UpgradeBelow, ChangeAbove, Obsolete, Retire, UnlockBelow, Unlock, Unwind}
use Rattle.congee.specs.declared.protocol.next_phase.NextPhase.{NextPhase}
use Rattle.congee.specs.Heap.{Node, Stands, is_taken}
use Rattle.congee.specs.protocol.Events.{SameBut, BackGives}
use Rattle.congee.specs.protocol.Steps.{BackHere, BackAbove, BackLeaf, MadeLeaf, MadeGreater, MadeTop, MadeBeside, MadeLesser, UpgradedHere, UpgradedTop, UpgradedAbove, UpgradedBelow, PutsLesser, Collapses, Lessens, ChangedHere, ChangedAbove, PhaseStepped}
use Rattle.congee.specs.protocol.Holdings.{MadeForHere, MadeForAbove, IsMade, MadeBy}
use Rattle.congee.proofs.lemmas.Graft.{on_test}
use Rattle.congee.proofs.lemmas.protocol.Lasting.{stands_changed, stands_over}

-- each node that stood stands, or is one of M
abbrev Loses : {V : Type 0} → (ℕ → Type 0) → (ℕ → Node V) → (ℕ → Node V) → Type 0
Loses M h h' = (n : ℕ) → Stands (h n) → Stands (h' n) ⊎ M n

module _ {V : Type 0} (M : ℕ → Type 0) where
  loses_none : (h h' : ℕ → Node V) → ((n : ℕ) → Stands (h n) → Stands (h' n)) → Loses M h h'
  loses_none h h' f n s = inl (f n s)

  loses_same : (h h' : ℕ → Node V) → h' ≡ h → Loses M h h'
  loses_same h h' e n s = inl (subst (λ k. Stands (k n)) (sym e) s)

  -- a change of one node that leaves it where it was
  loses_one : (h h' : ℕ → Node V) (c : ℕ) → (Stands (h c) → Stands (h' c)) → ((m : ℕ) → m ≢ c → h' m ≡ h m) → Loses M h h'
  loses_one h h' c here others n s = elim (cases_eq n c) [
    | inl e ↦ (let P : ℕ → Type 0 = λ y. Stands (h y) → Stands (h' y) in inl (subst P (sym e) here s))
    | inr ne ↦ inl (subst Stands (sym (others n ne)) s)
  ]

  loses_new : (h h' : ℕ → Node V) (c : ℕ) → (h c).made ≡ false → ((m : ℕ) → m ≢ c → h' m ≡ h m) → Loses M h h'
  loses_new h h' c un others = loses_one h h' c (λ s. absurd (let z : (h c).made ≡ true = s.made in cc)) others

  loses_but : (h h' : ℕ → Node V) (c : ℕ) (x : Node V) → x.made ≡ (h c).made → x.destroyed ≡ (h c).destroyed → SameBut h c x h' → Loses M h h'
  loses_but h h' c x m d g = loses_one h h' c (λ s. record { made = ap (λ y. y.made) g.after ∙ m ∙ s.made; kept = ap (λ y. y.destroyed) g.after ∙ d ∙ s.kept }) g.others

  loses_back : (h h' : ℕ → Node V) (c : ℕ) → M c → BackGives h c h' → Loses M h h'
  loses_back h h' c m g n s = elim (cases_eq n c) [
    | inl e ↦ inr (subst M (sym e) m)
    | inr ne ↦ inl (subst Stands (sym (g.others n ne)) s)
  ]

  loses_then : (h h1 h2 : ℕ → Node V) → Loses M h h1 → Loses M h1 h2 → Loses M h h2
  loses_then h h1 h2 f g n s = elim (f n s) [ inl t ↦ g n t | inr m ↦ inr m ]

module _ {C V : Type 0} (number : C → ℕ) (h h' : ℕ → Node V) where
  one_back : (change : Placement C) → BackHere number h change h' → Loses (MadeForHere number change) h h'
  one_back Set g = loses_same _ h h' g
  one_back (Link leaf) g = loses_back _ h h' (number leaf) refl g

  two_back : (change : Replacement C) → BackAbove number h change h' → Loses (MadeForAbove number change) h h'
  two_back Unlink g = loses_same _ h h' g
  two_back Collapse g = loses_same _ h h' g
  two_back (Shrink c) g = loses_back _ h h' (number c) refl g
  two_back (ShrinkAbove c) g = loses_back _ h h' (number c) refl g
  two_back (Grow c) g = loses_back _ h h' (number c) refl g
  two_back (GrowLink c leaf byte) g = loses_then _ h g.0 h' (loses_back _ h g.0 (number leaf) (inr refl) g.1) (loses_back _ g.0 h' (number c) (inl refl) g.2)
  two_back (Split top leaf common byte) g = loses_then _ h g.0 h' (loses_back _ h g.0 (number leaf) (inr refl) g.1) (loses_back _ g.0 h' (number top) (inl refl) g.2)

  leaf_back : (leaf : Option C) → BackLeaf number h leaf h' → Loses (IsMade number leaf) h h'
  leaf_back None g = loses_same _ h h' g
  leaf_back (Some leaf) g = loses_back _ h h' (number leaf) refl g

  leaf_made : (M : ℕ → Type 0) (kind : Kind V) (s : Site C) (key : List ℕ) (r : Result C Refusal) (t : NextPhase C V) → MadeLeaf number kind s h key r h' t → Loses M h h'
  leaf_made M kind s key (Ok c) t g = loses_new M h h' (number c) g.0.unmade g.0.others
  leaf_made M kind s key (Err e) t g = loses_same M h h' g.0

  greater_made : (kind : Kind V) (s : Site C) (p : Parent C) (leaf : Option C) (key : List ℕ) (r : Result C Refusal) (t : NextPhase C V) → MadeGreater number kind s p leaf h key r h' t → Loses (IsMade number leaf) h h'
  greater_made kind s p leaf key (Ok c) t g = loses_new _ h h' (number c) g.0.unmade g.0.others
  greater_made kind s p leaf key (Err e) t g = leaf_back leaf g.0

  top_made : (M : ℕ → Type 0) (p : Parent C) (at : Stamp C) (common byte : ℕ) (key : List ℕ) (r : Result C Refusal) (t : NextPhase C V) → MadeTop number p at common byte h key r h' t → Loses M h h'
  top_made M p at common byte key (Ok c) t g = loses_new M h h' (number c) g.0.unmade g.0.others
  top_made M p at common byte key (Err e) t g = loses_same M h h' g.0

  beside_made : (kind : Kind V) (p : Parent C) (at : Stamp C) (common byte : ℕ) (top : C) (key : List ℕ) (r : Result C Refusal) (t : NextPhase C V) → MadeBeside number kind p at common byte top h key r h' t → Loses (λ n. n ≡ number top) h h'
  beside_made kind p at common byte top key (Ok c) t g = loses_new _ h h' (number c) g.0.unmade g.0.others
  beside_made kind p at common byte top key (Err e) t g = loses_back _ h h' (number top) refl g.0

  lesser_made : (M : ℕ → Type 0) (s : Site C) (p : Parent C) (top : Option (Parent C)) (r : Reply V) (key : List ℕ) (x : Result C Refusal) (t : NextPhase C V) → MadeLesser number s p top r h key x h' t → Loses M h h'
  lesser_made M s p None r key (Ok c) t g = loses_new M h h' (number c) g.0.unmade g.0.others
  lesser_made M s p None r key (Err e) t g = loses_same M h h' g.0
  lesser_made M s p (Some top) r key (Ok c) t g = loses_new M h h' (number c) g.0.unmade g.0.others
  lesser_made M s p (Some top) r key (Err e) t g = loses_same M h h' g.0

  one_upgraded : (root : C) (one : NodeChange C) (r : Reply V) (u : Upgrade) (t : NextPhase C V) → UpgradedHere number root one r h u h' t → Loses (MadeForHere number one.change) h h'
  one_upgraded root one r Locked t g = loses_but _ h h' (number one.at.node) _ refl refl g.0
  one_upgraded root one r Failed t g = one_back one.change g.0
  one_upgraded root one r Exhausted t g = one_back one.change g.0

  top_upgraded : (root : C) (top : Parent C) (two : ParentChange C) (r : Reply V) (u : Upgrade) (t : NextPhase C V) → UpgradedTop number root top two r h u h' t → Loses (MadeForAbove number two.change) h h'
  top_upgraded root top two r Locked t g = loses_but _ h h' (number top.stamp.node) _ refl refl g.0
  top_upgraded root top two r Failed t g = two_back two.change g.0
  top_upgraded root top two r Exhausted t g = two_back two.change g.0

  above_upgraded : (root : C) (two : ParentChange C) (r : Reply V) (u : Upgrade) (t : NextPhase C V) → UpgradedAbove number root two r h u h' t → Loses (MadeForAbove number two.change) h h'
  above_upgraded root two r Locked t g = loses_but _ h h' (number two.above.stamp.node) _ refl refl g.0
  above_upgraded root two r Failed t g = two_back two.change g.0
  above_upgraded root two r Exhausted t g = two_back two.change g.0

  both_upgraded : (two : ParentChange C) (r : Reply V) (u : Upgrade) (t : NextPhase C V) → UpgradedBelow number two r h u h' t → Loses (MadeForAbove number two.change) h h'
  both_upgraded two r Locked t g = loses_but _ h h' (number two.at.node) _ refl refl g.0
  both_upgraded two r Failed t g = two_back two.change g.0
  both_upgraded two r Exhausted t g = two_back two.change g.0

  one_changed : (M : ℕ → Type 0) (key : List ℕ) (new : Option V) (one : NodeChange C) (change : Placement C) → ChangedHere number key new one change h h' → Loses M h h'
  one_changed M key new one Set g = loses_none M h h' (λ n s. stands_changed h h' _ _ n _ g s)
  one_changed M key new one (Link leaf) g = loses_none M h h' (λ n s. stands_changed g.0 h' _ _ n _ g.2 (stands_changed h g.0 _ _ n _ g.1 s))

  lessened : (M : ℕ → Type 0) (m c b p up : ℕ) → PutsLesser h m c b p up h' → Loses M h h'
  lessened M m c b p up g = loses_none M h h' (λ n s. stands_changed g.1 h' _ _ n _ g.4 (stands_changed g.0 g.1 _ _ n _ g.3 (stands_over h g.0 _ _ n g.2 s)))

  top_changed : (M : ℕ → Type 0) (two : ParentChange C) (top : Option (Parent C)) → Collapses number two top h h' → Loses M h h'
  top_changed M two None g = absurd g
  top_changed M two (Some top) g = loses_none M h h' (λ n s. stands_changed h h' _ _ n _ g.2 s)

  top_lessened : (M : ℕ → Type 0) (two : ParentChange C) (c : C) (top : Option (Parent C)) → Lessens number two c top h h' → Loses M h h'
  top_lessened M two c None g = absurd g
  top_lessened M two c (Some top) g = lessened M _ _ _ _ _ g

  two_changed : (M : ℕ → Type 0) (key : List ℕ) (new : Option V) (two : ParentChange C) (change : Replacement C) → ChangedAbove number key new two change h h' → Loses M h h'
  two_changed M key new two Unlink g = loses_none M h h' (λ n s. stands_changed h h' _ _ n _ g s)
  two_changed M key new two (Shrink c) g = lessened M _ _ _ _ _ g
  two_changed M key new two Collapse g = top_changed M two two.top g
  two_changed M key new two (ShrinkAbove c) g = top_lessened M two c two.top g
  two_changed M key new two (Grow c) g = loses_none M h h' (λ n s. stands_changed g.1 h' _ _ n _ g.4 (stands_changed g.0 g.1 _ _ n _ g.3 (stands_over h g.0 _ _ n g.2 s)))
  two_changed M key new two (GrowLink c leaf byte) g = loses_none M h h' (λ n s. stands_changed g.2 h' _ _ n _ g.6 (stands_changed g.1 g.2 _ _ n _ g.5 (stands_over g.0 g.1 _ _ n g.4 (stands_changed h g.0 _ _ n _ g.3 s))))
  two_changed M key new two (Split top leaf common byte) g = loses_none M h h' (λ n s. stands_changed g.2 h' _ _ n _ g.6 (stands_changed g.1 g.2 _ _ n _ g.5 (stands_changed g.0 g.1 _ _ n _ g.4 (stands_changed h g.0 _ _ n _ g.3 s))))

  -- a node that stood before a call's step stands after it, or is one that the call had made
  pub step_loses : (same : V → V → Bool) (always : Bool) (most : ℕ) (why : NodeType → Refusal → Type 0) (root : C) (key : List ℕ) (kind : Kind V) (fail : Bool) (answer : Option (Option V)) (new : Option V) (s : Phase C V) (new' : Option V) (t : NextPhase C V)
      → PhaseStepped number same always most why root key kind fail answer new s h new' t h' → Loses (MadeBy number s) h h'
  step_loses same always most why root key kind fail answer new (MakeLeaf s) new' t g = leaf_made _ kind s key g.1.0 t g.1.1
  step_loses same always most why root key kind fail answer new (MakeGreater s p leaf) new' t g = greater_made kind s p leaf key g.1.0 t g.1.1
  step_loses same always most why root key kind fail answer new (MakeTop p at common byte) new' t g = top_made _ p at common byte key g.1.0 t g.1.1
  step_loses same always most why root key kind fail answer new (MakeBeside p at common byte top) new' t g = beside_made kind p at common byte top key g.1.0 t g.1.1
  step_loses same always most why root key kind fail answer new (MakeLesser s p top r) new' t g = lesser_made _ s p top r key g.1.0 t g.1.1
  step_loses same always most why root key kind fail answer new (CheckAbove p one r) new' t g =
      on_test (is_taken (h (number p.node)) p.version) (λ e. loses_same _ h h' (g.1.goes_on e).0) (λ e. one_back one.change (g.1.goes_back e).0)
  step_loses same always most why root key kind fail answer new (UpgradeHere one r) new' t g = one_upgraded root one r g.1.0 t g.1.2
  step_loses same always most why root key kind fail answer new (ChangeHere one r) new' t g = one_changed _ key new one one.change g.1
  step_loses same always most why root key kind fail answer new (UpgradeTop top two r) new' t g = top_upgraded root top two r g.1.0 t g.1.2
  step_loses same always most why root key kind fail answer new (UpgradeAbove two r) new' t g = above_upgraded root two r g.1.0 t g.1.2
  step_loses same always most why root key kind fail answer new (UpgradeBelow two r) new' t g = both_upgraded two r g.1.0 t g.1.2
  step_loses same always most why root key kind fail answer new (ChangeAbove two r) new' t g = two_changed _ key new two two.change g.1
  step_loses same always most why root key kind fail answer new (Obsolete n next p r) new' t g = loses_but _ h h' (number n) _ refl refl g.1
  step_loses same always most why root key kind fail answer new (Retire n next p r) new' t g = loses_but _ h h' (number n) _ refl refl g.1
  step_loses same always most why root key kind fail answer new (UnlockBelow n p r) new' t g = loses_but _ h h' (number n) _ refl refl g.1
  step_loses same always most why root key kind fail answer new (Unlock n r) new' t g = loses_but _ h h' (number n) _ refl refl g.1
  step_loses same always most why root key kind fail answer new (Unwind n next e) new' t g = loses_but _ h h' (number n) _ refl refl g.1
  step_loses same always most why root key kind fail answer new _ new' t g = loses_same _ h h' g.0
