-- A step of a call keeps the versions within their limit.
use Rattle.std.proofs.Common.{◌≡◌, ◌≢◌, ℕ, ◌+◌, ◌<◌, ◌==◌, ◌&&◌, not, Bool, true, false, cond, List, sym, ◌∙◌, subst, inl, inr, arith}
use Rattle.std.specs.Prelude.{Option, None, Some, Result, Ok, Err}
use Rattle.std.proofs.lemmas.Bool.{cases_eq}
use Rattle.std.proofs.lemmas.Bool.Decides.{nat_tests}
use Rattle.judge.specs.declared.journal.Reply.{Reply}
use Rattle.congee.specs.declared.forms.base_node.NodeType.{NodeType}
use Rattle.congee.specs.declared.protocol.store.Refusal.{Refusal}
use Rattle.congee.specs.declared.protocol.store.Stamp.{Stamp}
use Rattle.congee.specs.declared.protocol.store.Upgrade.{Upgrade}
use Rattle.congee.specs.declared.protocol.store.Upgrade.TheVariants.{Locked, Failed, Exhausted}
use Rattle.congee.specs.declared.protocol.phase.Kind.{Kind}
use Rattle.congee.specs.declared.protocol.phase.Parent.{Parent}
use Rattle.congee.specs.declared.protocol.phase.Site.{Site}
use Rattle.congee.specs.declared.protocol.phase.Placement.{Placement}
use Rattle.congee.specs.declared.protocol.phase.Placement.TheVariants.{Set, Link}
use Rattle.congee.specs.declared.protocol.phase.NodeChange.{NodeChange}
use Rattle.congee.specs.declared.protocol.phase.Replacement.{Replacement}
use Rattle.congee.specs.declared.protocol.phase.Replacement.TheVariants.{Unlink, Grow, GrowLink, Split, Shrink, Collapse, ShrinkAbove}
use Rattle.congee.specs.declared.protocol.phase.ParentChange.{ParentChange}
use Rattle.congee.specs.declared.protocol.phase.Phase.{Phase}
use Rattle.congee.specs.declared.protocol.phase.Phase.TheVariants.{MakeLeaf, MakeGreater, MakeTop, MakeBeside, MakeLesser, CheckAbove, UpgradeHere, ChangeHere, UpgradeTop, UpgradeAbove, UpgradeBelow, ChangeAbove, Obsolete, Retire, UnlockBelow, Unlock, Unwind}
use Rattle.congee.specs.declared.protocol.next_phase.NextPhase.{NextPhase}
use Rattle.congee.specs.Heap.{Node, Hung, Stands, is_taken}
use Rattle.congee.specs.protocol.Bounds.{Bounded, Within}
use Rattle.congee.specs.protocol.Events.{SameBut, NewNode, ChangeGives, TakeOverGives, BackGives, UnlockGives, upgrade_gives}
use Rattle.congee.specs.protocol.Steps.{BackHere, BackAbove, BackLeaf, MadeLeaf, MadeGreater, MadeTop, MadeBeside, MadeLesser, UpgradedHere, UpgradedTop, UpgradedAbove, UpgradedBelow, PutsLesser, Collapses, Lessens, ChangedHere, ChangedAbove, PhaseStepped, MayStep}
use Rattle.congee.proofs.lemmas.Fits.{equal_of_test, both_true}
use Rattle.congee.proofs.lemmas.Graft.{on_test}
use Rattle.congee.proofs.lemmas.protocol.Locks.{locked_taken}

-- an upgrade that locked wasn't at the limit
locked_below : {V : Type 0} (most : ℕ) (n : Node V) (v : ℕ) (fail : Bool) → Locked ≡ upgrade_gives most n v fail → v ≢ most
locked_below most n v fail e q = absurd (by_limit (v == most) (grind (arith, nat_tests)) e) where
  by_limit : (b : Bool) → b ≡ true → Locked ≡ cond b Exhausted (cond (is_taken n v && not fail) Locked Failed) → ⊥
  by_limit true p x = absurd cc
  by_limit false p x = absurd cc

module _ {V : Type 0} (most : ℕ) where
  same : (h h' : ℕ → Node V) → h' ≡ h → Within most h → Within most h'
  same h h' e w = let P : (ℕ → Node V) → Type 0 = λ k. Within most k in subst P (sym e) w

  -- one node is changed
  one : (h h' : ℕ → Node V) (c : ℕ) → (Stands (h' c) → Bounded most (h' c)) → ((m : ℕ) → m ≢ c → h' m ≡ h m) → Within most h → Within most h'
  one h h' c here others w n s = elim (cases_eq n c) [
    | inl e ↦ (let P : ℕ → Type 0 = λ y. Stands (h' y) → Bounded most (h' y) in subst P (sym e) here s)
    | inr ne ↦ subst (Bounded most) (sym (others n ne)) (w n (subst Stands (others n ne) s))
  ]

  but : (h h' : ℕ → Node V) (c : ℕ) (x : Node V) → Bounded most x → SameBut h c x h' → Within most h → Within most h'
  but h h' c x b g w = one h h' c (λ s. subst (Bounded most) (sym g.after) b) g.others w

  made : (h h' : ℕ → Node V) (c : ℕ) (form : NodeType) (key : List ℕ) (size : ℕ) → NewNode h c form key size h' → Within most h → Within most h'
  made h h' c form key size g w = one h h' c (λ s. record {
    low = let e : (h' c).version ≡ 0 = g.version in omega (arith, e);
    locked = λ l. let z : true ≡ false = sym l ∙ g.free in absurd cc;
  }) g.others w

  back : (h h' : ℕ → Node V) (c : ℕ) → BackGives h c h' → Within most h → Within most h'
  back h h' c g w = one h h' c (λ s. let z : true ≡ false = sym g.gone ∙ s.kept in absurd cc) g.others w

  -- a node with the version, lock and life of another one
  like : (p q : Node V) → q.version ≡ p.version → q.locked ≡ p.locked → q.made ≡ p.made → q.destroyed ≡ p.destroyed → (Stands p → Bounded most p) → Stands q → Bounded most q
  like p q ev el em ed b s =
      let x : Bounded most p = b (record { made = sym em ∙ s.made; kept = sym ed ∙ s.kept }) in
      record { low = omega (arith, ev, x.low); locked = λ l. let y : p.version < most = x.locked (sym el ∙ l) in omega (arith, ev, y) }

  changed : (h h' : ℕ → Node V) (c b : ℕ) (x : Hung V) → ChangeGives h c b x h' → Within most h → Within most h'
  changed h h' c b x g w = one h h' c (like (h c) (h' c) g.version g.locked g.made g.destroyed (w c)) g.others w

  over : (h h' : ℕ → Node V) (m c : ℕ) → TakeOverGives h m c h' → Within most h → Within most h'
  over h h' m c g w n s = elim (cases_eq n c) [
    | inl e ↦ (let P : ℕ → Type 0 = λ y. Stands (h' y) → Bounded most (h' y) in subst P (sym e) (like (h c) (h' c) g.version g.locked g.made g.destroyed (w c)) s)
    | inr ne ↦ elim (cases_eq n m) [
      | inl e ↦ (let P : ℕ → Type 0 = λ y. Stands (h' y) → Bounded most (h' y) in subst P (sym e) (like (h m) (h' m) g.version_old g.locked_old g.made_old g.destroyed_old (w m)) s)
      | inr nm ↦ subst (Bounded most) (sym (g.others n ne nm)) (w n (subst Stands (g.others n ne nm) s))
    ]
  ]

  locks : (h h' : ℕ → Node V) (c v : ℕ) (fail : Bool) → Stands (h c) → Locked ≡ upgrade_gives most (h c) v fail → SameBut h c (record (h c) { locked = true }) h' → Within most h → Within most h'
  locks h h' c v fail s e g w =
      let at : (h c).version ≡ v = equal_of_test (h c).version v (both_true _ _ (locked_taken most (h c) v fail e)).0 in
      let ne : v ≢ most = locked_below most (h c) v fail e in
      let x : Bounded most (h c) = w c s in
      but h h' c (record (h c) { locked = true }) (record { low = x.low; locked = λ l. omega (arith, x.low, at, ne) }) g w

  unlocks : (h h' : ℕ → Node V) (c : ℕ) → Stands (h c) → (h c).locked ≡ true → UnlockGives h c h' → Within most h → Within most h'
  unlocks h h' c s l g w =
      let x : (h c).version < most = (w c s).locked l in
      but h h' c (record (h c) { version = (h c).version + 1; locked = false }) (record { low = omega (arith, x); locked = λ z. let y : false ≡ true = z in absurd cc }) g w

module _ {C V : Type 0} (number : C → ℕ) (most : ℕ) (h h' : ℕ → Node V) (w : Within most h) where
  one_back : (change : Placement C) → BackHere number h change h' → Within most h'
  one_back Set g = same most h h' g w
  one_back (Link leaf) g = back most h h' (number leaf) g w

  two_back : (change : Replacement C) → BackAbove number h change h' → Within most h'
  two_back Unlink g = same most h h' g w
  two_back Collapse g = same most h h' g w
  two_back (Shrink c) g = back most h h' (number c) g w
  two_back (ShrinkAbove c) g = back most h h' (number c) g w
  two_back (Grow c) g = back most h h' (number c) g w
  two_back (GrowLink c leaf byte) g = back most g.0 h' (number c) g.2 (back most h g.0 (number leaf) g.1 w)
  two_back (Split top leaf common byte) g = back most g.0 h' (number top) g.2 (back most h g.0 (number leaf) g.1 w)

  leaf_back : (leaf : Option C) → BackLeaf number h leaf h' → Within most h'
  leaf_back None g = same most h h' g w
  leaf_back (Some leaf) g = back most h h' (number leaf) g w

  leaf_made : (kind : Kind V) (s : Site C) (key : List ℕ) (r : Result C Refusal) (t : NextPhase C V) → MadeLeaf number kind s h key r h' t → Within most h'
  leaf_made kind s key (Ok c) t g = made most h h' (number c) _ key 7 g.0 w
  leaf_made kind s key (Err e) t g = same most h h' g.0 w

  greater_made : (kind : Kind V) (s : Site C) (p : Parent C) (leaf : Option C) (key : List ℕ) (r : Result C Refusal) (t : NextPhase C V) → MadeGreater number kind s p leaf h key r h' t → Within most h'
  greater_made kind s p leaf key (Ok c) t g = made most h h' (number c) _ key s.depth g.0 w
  greater_made kind s p leaf key (Err e) t g = leaf_back leaf g.0

  top_made : (p : Parent C) (at : Stamp C) (common byte : ℕ) (key : List ℕ) (r : Result C Refusal) (t : NextPhase C V) → MadeTop number p at common byte h key r h' t → Within most h'
  top_made p at common byte key (Ok c) t g = made most h h' (number c) _ key common g.0 w
  top_made p at common byte key (Err e) t g = same most h h' g.0 w

  beside_made : (kind : Kind V) (p : Parent C) (at : Stamp C) (common byte : ℕ) (top : C) (key : List ℕ) (r : Result C Refusal) (t : NextPhase C V) → MadeBeside number kind p at common byte top h key r h' t → Within most h'
  beside_made kind p at common byte top key (Ok c) t g = made most h h' (number c) _ key 7 g.0 w
  beside_made kind p at common byte top key (Err e) t g = back most h h' (number top) g.0 w

  lesser_made : (s : Site C) (p : Parent C) (top : Option (Parent C)) (r : Reply V) (key : List ℕ) (x : Result C Refusal) (t : NextPhase C V) → MadeLesser number s p top r h key x h' t → Within most h'
  lesser_made s p None r key (Ok c) t g = made most h h' (number c) _ key s.depth g.0 w
  lesser_made s p None r key (Err e) t g = same most h h' g.0 w
  lesser_made s p (Some top) r key (Ok c) t g = made most h h' (number c) _ key p.depth g.0 w
  lesser_made s p (Some top) r key (Err e) t g = same most h h' g.0 w

  one_upgraded : (root : C) (one : NodeChange C) (r : Reply V) (fail : Bool) (u : Upgrade) (t : NextPhase C V) → Stands (h (number one.at.node)) → u ≡ upgrade_gives most (h (number one.at.node)) one.at.version fail → UpgradedHere number root one r h u h' t → Within most h'
  one_upgraded root one r fail Locked t s e g = locks most h h' (number one.at.node) one.at.version fail s e g.0 w
  one_upgraded root one r fail Failed t s e g = one_back one.change g.0
  one_upgraded root one r fail Exhausted t s e g = one_back one.change g.0

  top_upgraded : (root : C) (top : Parent C) (two : ParentChange C) (r : Reply V) (fail : Bool) (u : Upgrade) (t : NextPhase C V) → Stands (h (number top.stamp.node)) → u ≡ upgrade_gives most (h (number top.stamp.node)) top.stamp.version fail → UpgradedTop number root top two r h u h' t
      → Within most h'
  top_upgraded root top two r fail Locked t s e g = locks most h h' (number top.stamp.node) top.stamp.version fail s e g.0 w
  top_upgraded root top two r fail Failed t s e g = two_back two.change g.0
  top_upgraded root top two r fail Exhausted t s e g = two_back two.change g.0

  above_upgraded : (root : C) (two : ParentChange C) (r : Reply V) (fail : Bool) (u : Upgrade) (t : NextPhase C V) → Stands (h (number two.above.stamp.node)) → u ≡ upgrade_gives most (h (number two.above.stamp.node)) two.above.stamp.version fail → UpgradedAbove number root two r h u h' t
      → Within most h'
  above_upgraded root two r fail Locked t s e g = locks most h h' (number two.above.stamp.node) two.above.stamp.version fail s e g.0 w
  above_upgraded root two r fail Failed t s e g = two_back two.change g.0
  above_upgraded root two r fail Exhausted t s e g = two_back two.change g.0

  both_upgraded : (two : ParentChange C) (r : Reply V) (fail : Bool) (u : Upgrade) (t : NextPhase C V) → Stands (h (number two.at.node)) → u ≡ upgrade_gives most (h (number two.at.node)) two.at.version fail → UpgradedBelow number two r h u h' t → Within most h'
  both_upgraded two r fail Locked t s e g = locks most h h' (number two.at.node) two.at.version fail s e g.0 w
  both_upgraded two r fail Failed t s e g = two_back two.change g.0
  both_upgraded two r fail Exhausted t s e g = two_back two.change g.0

  one_changed : (key : List ℕ) (new : Option V) (one : NodeChange C) (change : Placement C) → ChangedHere number key new one change h h' → Within most h'
  one_changed key new one Set g = changed most h h' (number one.at.node) _ _ g w
  one_changed key new one (Link leaf) g = changed most g.0 h' (number one.at.node) _ _ g.2 (changed most h g.0 (number leaf) _ _ g.1 w)

  lessened : (m c b p up : ℕ) → PutsLesser h m c b p up h' → Within most h'
  lessened m c b p up g = changed most g.1 h' p _ _ g.4 (changed most g.0 g.1 c _ _ g.3 (over most h g.0 m c g.2 w))

  top_changed : (two : ParentChange C) (top : Option (Parent C)) → Collapses number two top h h' → Within most h'
  top_changed two None g = absurd g
  top_changed two (Some top) g = changed most h h' (number top.stamp.node) _ _ g.2 w

  top_lessened : (two : ParentChange C) (c : C) (top : Option (Parent C)) → Lessens number two c top h h' → Within most h'
  top_lessened two c None g = absurd g
  top_lessened two c (Some top) g = lessened _ _ _ _ _ g

  two_changed : (key : List ℕ) (new : Option V) (two : ParentChange C) (change : Replacement C) → ChangedAbove number key new two change h h' → Within most h'
  two_changed key new two Unlink g = changed most h h' (number two.above.stamp.node) _ _ g w
  two_changed key new two (Shrink c) g = lessened _ _ _ _ _ g
  two_changed key new two Collapse g = top_changed two two.top g
  two_changed key new two (ShrinkAbove c) g = top_lessened two c two.top g
  two_changed key new two (Grow c) g = changed most g.1 h' (number two.above.stamp.node) _ _ g.4 (changed most g.0 g.1 (number c) _ _ g.3 (over most h g.0 (number two.at.node) (number c) g.2 w))
  two_changed key new two (GrowLink c leaf byte) g =
      changed most g.2 h' (number two.above.stamp.node) _ _ g.6 (changed most g.1 g.2 (number c) _ _ g.5 (over most g.0 g.1 (number two.at.node) (number c) g.4 (changed most h g.0 (number leaf) _ _ g.3 w)))
  two_changed key new two (Split top leaf common byte) g =
      changed most g.2 h' (number two.above.stamp.node) _ _ g.6 (changed most g.1 g.2 (number top) _ _ g.5 (changed most g.0 g.1 (number top) _ _ g.4 (changed most h g.0 (number leaf) _ _ g.3 w)))

  -- a step of a call leaves the versions of all nodes that stand within their limit
  pub step_within : (same_as : V → V → Bool) (always : Bool) (why : NodeType → Refusal → Type 0) (root : C) (key : List ℕ) (kind : Kind V) (fail : Bool) (answer : Option (Option V)) (new : Option V) (s : Phase C V) (new' : Option V) (t : NextPhase C V)
      → MayStep number root key new s h → PhaseStepped number same_as always most why root key kind fail answer new s h new' t h' → Within most h'
  step_within same_as always why root key kind fail answer new (MakeLeaf s) new' t may g = leaf_made kind s key g.1.0 t g.1.1
  step_within same_as always why root key kind fail answer new (MakeGreater s p leaf) new' t may g = greater_made kind s p leaf key g.1.0 t g.1.1
  step_within same_as always why root key kind fail answer new (MakeTop p at common byte) new' t may g = top_made p at common byte key g.1.0 t g.1.1
  step_within same_as always why root key kind fail answer new (MakeBeside p at common byte top) new' t may g = beside_made kind p at common byte top key g.1.0 t g.1.1
  step_within same_as always why root key kind fail answer new (MakeLesser s p top r) new' t may g = lesser_made s p top r key g.1.0 t g.1.1
  step_within same_as always why root key kind fail answer new (CheckAbove p one r) new' t may g =
      on_test (is_taken (h (number p.node)) p.version) (λ e. same most h h' (g.1.goes_on e).0 w) (λ e. one_back one.change (g.1.goes_back e).0)
  step_within same_as always why root key kind fail answer new (UpgradeHere one r) new' t may g = one_upgraded root one r fail g.1.0 t may.0 g.1.1 g.1.2
  step_within same_as always why root key kind fail answer new (ChangeHere one r) new' t may g = one_changed key new one one.change g.1
  step_within same_as always why root key kind fail answer new (UpgradeTop top two r) new' t may g = top_upgraded root top two r fail g.1.0 t may.0 g.1.1 g.1.2
  step_within same_as always why root key kind fail answer new (UpgradeAbove two r) new' t may g = above_upgraded root two r fail g.1.0 t may.0 g.1.1 g.1.2
  step_within same_as always why root key kind fail answer new (UpgradeBelow two r) new' t may g = both_upgraded two r fail g.1.0 t may.0 g.1.1 g.1.2
  step_within same_as always why root key kind fail answer new (ChangeAbove two r) new' t may g = two_changed key new two two.change g.1
  step_within same_as always why root key kind fail answer new (Obsolete n next p r) new' t may g = let b : Bounded most (h (number n)) = w (number n) may.0 in but most h h' (number n) _ (record { low = b.low; locked = b.locked }) g.1 w
  step_within same_as always why root key kind fail answer new (Retire n next p r) new' t may g = let b : Bounded most (h (number n)) = w (number n) may.0 in but most h h' (number n) _ (record { low = b.low; locked = b.locked }) g.1 w
  step_within same_as always why root key kind fail answer new (UnlockBelow n p r) new' t may g = unlocks most h h' (number n) may.0 may.1 g.1 w
  step_within same_as always why root key kind fail answer new (Unlock n r) new' t may g = unlocks most h h' (number n) may.0 may.1 g.1 w
  step_within same_as always why root key kind fail answer new (Unwind n next e) new' t may g = unlocks most h h' (number n) may.0 may.1 g.1 w
  step_within same_as always why root key kind fail answer new _ new' t may g = same most h h' g.0 w
