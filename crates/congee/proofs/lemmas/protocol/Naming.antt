-- Each name of a call is of a node that is or was in reach, or of one that it made.
use Rattle.std.proofs.Common.{◌≡◌, ℕ, suc, Bool, true, List, [], ◌∷◌, refl, ap, inl, inr, ◌⊎◌}
use Rattle.std.specs.Prelude.{Option, None, Some}
use Rattle.std.specs.List.{Contains}
use Rattle.std.proofs.lemmas.List.Elements.{All-from_recursion, All-contains}
use Rattle.congee.specs.declared.protocol.store.Stamp.{Stamp}
use Rattle.congee.specs.declared.protocol.phase.Kind.{Kind}
use Rattle.congee.specs.declared.protocol.phase.Parent.{Parent}
use Rattle.congee.specs.declared.protocol.phase.Above.{Above as Over}
use Rattle.congee.specs.declared.protocol.phase.Site.{Site}
use Rattle.congee.specs.declared.protocol.phase.Placement.{Placement}
use Rattle.congee.specs.declared.protocol.phase.Placement.TheVariants.{Set, Link}
use Rattle.congee.specs.declared.protocol.phase.NodeChange.{NodeChange}
use Rattle.congee.specs.declared.protocol.phase.Replacement.{Replacement}
use Rattle.congee.specs.declared.protocol.phase.Replacement.TheVariants.{Unlink, GrowLink, Split, Collapse}
use Rattle.congee.specs.declared.protocol.phase.ParentChange.{ParentChange}
use Rattle.congee.specs.declared.protocol.phase.Plan.{Plan}
use Rattle.congee.specs.declared.protocol.phase.Plan.TheVariants.{Here, Above}
use Rattle.congee.specs.declared.protocol.phase.Phase.{Phase}
use Rattle.congee.specs.declared.protocol.phase.Phase.TheVariants.{New, Version, Read, Check, CheckUncopied, CheckMiss, CheckDown, CheckOld, MakeLeaf, MakeGreater, MakeTop, MakeBeside, MakeLesser, AskOld, AskNew, Confirm, CheckAbove, UpgradeHere, ChangeHere, UpgradeTop, UpgradeAbove, UpgradeBelow, ChangeAbove, Obsolete, Retire, UnlockBelow, Unlock, Unwind, Scan, Ended}
use Rattle.congee.specs.declared.protocol.scan.Rung.{Rung}
use Rattle.congee.specs.declared.protocol.scan.Stage.{Stage}
use Rattle.congee.specs.declared.protocol.scan.Stage.TheVariants as stage
use Rattle.congee.specs.declared.protocol.scan.ScanState.{ScanState as ScanState}
use Rattle.congee.specs.protocol.ScanSteps.{rungs_of}
use Rattle.congee.specs.protocol.ScanKnown.{RungsKnown, ScanKnownAt, names_rungs, names_scan_at, names_scan}
use Rattle.congee.specs.Heap.{Node, Hung, Below, child_for}
use Rattle.congee.specs.Notes.{Note, Linked, is_published, Tree}
use Rattle.congee.specs.protocol.Protocol.{Known, Knows, TopLocked, AlsoOut, AlsoHolding, IsFar, IsAbove, IsLesser, StampedIf, PlanKnown}
use Rattle.congee.specs.protocol.Holdings.{LockedBy, MadeBy, MadeForHere, MadeForAbove, MadeForPlan, IsMade}
use Rattle.congee.specs.protocol.Names.{name_above, names_over, name_stamped, name_made, names_for_one, names_for_two, names_site, names_one, names_two, names_plan, names}
use Rattle.congee.proofs.lemmas.protocol.Each.{Each, each_append}
use Rattle.congee.proofs.lemmas.protocol.Owners.{taken_known, locked_linked}

each_weaker : (K L : ℕ → Type 0) → ((n : ℕ) → K n → L n) → (xs : List ℕ) → Each K xs → Each L xs
each_weaker K L f [] e = tt
each_weaker K L f (x ∷ xs) e = (f x e.0, each_weaker K L f xs e.1)

module _ {C V : Type 0} (number : C → ℕ) (same : V → V → Bool) (always : Bool) (i : ℕ) (a : ℕ → Note) (h : ℕ → Node V) (key : List ℕ) where
  abbrev In : ℕ → Type 0
  In n = is_published (a n).status ≡ true

  abbrev Or : (ℕ → Type 0) → ℕ → Type 0
  Or M n = In n ⊎ M n

  tree_in : (n : ℕ) → (a n).status ≡ Linked → In n
  tree_in n e = ap is_published e

  far_in : (p : Option (Parent C)) (n : ℕ) → IsFar number a h key p n → Each In (name_above number p)
  far_in None n x = tt
  far_in (Some p) n x = (x.fresh.stamped.published, tt)

  above_in : (p : Option (Over C)) (n : ℕ) → IsAbove number a h key p n → Each In (names_over number p)
  above_in None n x = tt
  above_in (Some u) n x = (x.0.fresh.stamped.published, far_in u.far (number u.near.stamp.node) x.1)

  lesser_in : (s : Site C) (p : Parent C) (g : Option (Parent C)) → IsLesser number a h key s p g → Each In (name_above number g)
  lesser_in s p None x = tt
  lesser_in s p (Some g) x = (x.0.fresh.stamped.published, tt)

  top_in : (top : Option (Parent C)) (n : ℕ) → TopLocked number i a h key top n → Each In (name_above number top)
  top_in None n x = tt
  top_in (Some g) n x = (tree_in _ x.holding.linked, tt)

  out_in : (next : Option C) (n : ℕ) → AlsoOut number i a h n next → Each In (name_made number next)
  out_in None n x = tt
  out_in (Some c) n x = (ap is_published x.1, tt)

  holding_in : (next : Option C) (n : ℕ) → AlsoHolding number i a n next → Each In (name_made number next)
  holding_in None n x = tt
  holding_in (Some c) n x = (tree_in _ x.0.linked, tt)

  site_in : (s : Site C) (x : Hung V) → Knows number a h key s x → Each In (names_site number s)
  site_in s x k = (k.fresh.stamped.published, above_in s.above (number s.at.node) k.above)

  stamped_in : (p : Option (Stamp C)) → StampedIf number a h p → Each In (name_stamped number p)
  stamped_in None x = tt
  stamped_in (Some p) x = (x.published, tt)

  up : (M : ℕ → Type 0) (xs : List ℕ) → Each In xs → Each (Or M) xs
  up M xs e = each_weaker In (Or M) (λ n x. inl x) xs e

  for_one : (change : Placement C) → Each (Or (MadeForHere number change)) (names_for_one number change)
  for_one Set = tt
  for_one (Link leaf) = (inr refl, tt)

  for_two : (change : Replacement C) → Each (Or (MadeForAbove number change)) (names_for_two number change)
  for_two Unlink = tt
  for_two Collapse = tt
  for_two (GrowLink c leaf byte) = (inr (inl refl), (inr (inr refl), tt))
  for_two (Split top leaf common byte) = (inr (inl refl), (inr (inr refl), tt))
  for_two _ = (inr refl, tt)

  one_in : (one : NodeChange C) → In (number one.at.node) → Each (Or (MadeForHere number one.change)) (names_one number one)
  one_in one at = (inl at, for_one one.change)

  two_in : (two : ParentChange C) → Each In (name_above number two.top) → In (number two.above.stamp.node) → In (number two.at.node) → Each (Or (MadeForAbove number two.change)) (names_two number two)
  two_in two top p at = (inl p, (inl at, each_append (Or (MadeForAbove number two.change)) (name_above number two.top) (names_for_two number two.change) (up _ (name_above number two.top) top) (for_two two.change)))

  plan_in : (plan : Plan C) → PlanKnown number i a h key plan → Each (Or (MadeForPlan number plan)) (names_plan number plan)
  plan_in (Here check one) x = each_append (Or (MadeForHere number one.change)) (name_stamped number check) (names_one number one) (up _ (name_stamped number check) (stamped_in check x.0)) (one_in one x.1.fresh.stamped.published)
  plan_in (Above two) x = two_in two (top_in two.top _ x.0.1.top) x.0.1.above.fresh.stamped.published x.0.1.fresh.stamped.published

  made_in : (leaf : Option C) → Each (Or (IsMade number leaf)) (name_made number leaf)
  made_in None = tt
  made_in (Some leaf) = (inr refl, tt)

  rungs_in : (end above : ℕ) (rs : List (Rung C)) → RungsKnown number a h end above rs → Each In (names_rungs number rs)
  rungs_in end above [] x = tt
  rungs_in end above (r ∷ rs) x = (x.0.stamped.published, rungs_in end (suc above) rs x.1)

  scan_at : (s : ScanState C V) (x : Stage C V) → ScanKnownAt number always a h s x → Each In (names_scan_at number s x)
  scan_at s (stage.Enter n y) x = (x.1, rungs_in s.last 0 (rungs_of s.above) x.0.rungs)
  scan_at s (stage.Look r) x = (x.1.stamped.published, rungs_in s.last 0 (rungs_of s.above) x.0.rungs)
  scan_at s (stage.Check r y) x = (x.1.stamped.published, rungs_in s.last 0 (rungs_of s.above) x.0.rungs)
  scan_at s _ x = tt

  module _ (t : Tree a h) (k : ℕ) where
    below_in : (p n : ℕ) → (a p).status ≡ Linked → child_for (h p) key ≡ Below n → In n
    below_in p n l e = tree_in n (t.down p _ n l e).linked

    names_known : (kind : Kind V) (given : Option V) (s : Phase C V) → Known number same always i a h k key kind given s → Each (Or (MadeBy number s)) (names number s)
    names_known kind given New x = tt
    names_known kind given (Version p c) x = (inl x.2, up _ (names_over number p) (above_in p (number c) x.1))
    names_known kind given (Read p at) x = (inl x.2.published, up _ (names_over number p) (above_in p (number at.node) x.1))
    names_known kind given (Check s c) x = up _ (names_site number s) (site_in s _ x.1)
    names_known kind given (CheckUncopied at) x = (inl x.1.published, tt)
    names_known kind given (CheckMiss p at common byte) x = (inl x.1.fresh.stamped.published, (inl x.2.published, tt))
    names_known kind given (CheckDown p at c) x = (inl x.1.published, (inl x.3, up _ (names_over number (Some at)) (above_in (Some at) (number c) x.2)))
    names_known kind given (CheckOld p s v) x = (inl x.1.published, up _ (names_site number s) (site_in s _ x.2))
    names_known kind given (MakeLeaf s) x = up _ (names_site number s) (site_in s _ x.1)
    names_known kind given (MakeGreater s p leaf) x = (inl x.2.fresh.stamped.published, each_append (Or (IsMade number leaf)) (name_made number leaf) (names_site number s) (made_in leaf) (up _ (names_site number s) (site_in s _ x.1)))
    names_known kind given (MakeTop p at common byte) x = (inl x.1.fresh.stamped.published, (inl x.2.published, tt))
    names_known kind given (MakeBeside p at common byte top) x = (inl x.1.fresh.stamped.published, (inl x.2.published, (inr refl, tt)))
    names_known kind given (MakeLesser s p g r) x = (inl x.4.fresh.stamped.published, each_append (Or (λ _. ⊥)) (name_above number g) (names_site number s) (up _ (name_above number g) (lesser_in s p g x.5)) (up _ (names_site number s) (site_in s _ x.1.1)))
    names_known kind given (AskOld s v) x = up _ (names_site number s) (site_in s _ x.1)
    names_known kind given (AskNew plan) x = plan_in plan x.0
    names_known kind given (Confirm at r) x = (inl x.1.1.fresh.stamped.published, tt)
    names_known kind given (CheckAbove p one r) x = (inl x.1.published, one_in one x.2.fresh.stamped.published)
    names_known kind given (UpgradeHere one r) x = one_in one x.1.1.fresh.stamped.published
    names_known kind given (ChangeHere one r) x = one_in one (tree_in _ x.1.holding.linked)
    names_known kind given (UpgradeTop g two r) x = (inl x.2.fresh.stamped.published, two_in two (top_in two.top _ x.1.2.top) x.1.2.above.fresh.stamped.published x.1.2.fresh.stamped.published)
    names_known kind given (UpgradeAbove two r) x = two_in two (top_in two.top _ x.1.2.top) x.1.2.above.fresh.stamped.published x.1.2.fresh.stamped.published
    names_known kind given (UpgradeBelow two r) x = two_in two (top_in two.top _ x.1.2.top) (tree_in _ x.1.2.above.holding.linked) x.1.2.fresh.stamped.published
    names_known kind given (ChangeAbove two r) x = two_in two (top_in two.top _ x.2.top) (tree_in _ x.2.above.holding.linked) (below_in _ _ x.2.above.holding.linked x.2.above.child)
    names_known kind given (Obsolete n next p r) x = (inl (ap is_published x.0.gone), (inl (tree_in _ x.0.above.linked), up _ (name_made number next) (out_in next (number n) x.1)))
    names_known kind given (Retire n next p r) x = (inl (ap is_published x.0.gone), (inl (tree_in _ x.0.above.linked), up _ (name_made number next) (out_in next (number n) x.1)))
    names_known kind given (UnlockBelow n p r) x = (inl (tree_in _ x.0.linked), (inl (tree_in _ x.1.linked), tt))
    names_known kind given (Unlock n r) x = (inl (tree_in _ x.linked), tt)
    names_known kind given (Unwind n next e) x = (inl (tree_in _ x.1.linked), up _ (name_made number next) (holding_in next (number n) x.2))
    names_known kind given (Scan s) x = up _ (names_scan number s) (scan_at s s.stage x)
    names_known kind given Ended x = tt

    -- each node that a call names is or was in reach, or is one that it has made
    pub named : (kind : Kind V) (given : Option V) (s : Phase C V) → Known number same always i a h k key kind given s → (n : ℕ) → Contains (names number s) n → (is_published (a n).status ≡ true) ⊎ MadeBy number s n
    named kind given s x n c = All-contains (Or (MadeBy number s)) (names number s) n (All-from_recursion (Or (MadeBy number s)) (names number s) (names_known kind given s x)) c

    -- a lock is of a node that is or was in reach
    pub locked_in : (kind : Kind V) (given : Option V) (s : Phase C V) → Known number same always i a h k key kind given s → (n : ℕ) → LockedBy number s n → is_published (a n).status ≡ true
    locked_in kind given s x n l = elim (locked_linked number same always i a h k key kind given n t s x l) [
      | inl e ↦ tree_in n e
      | inr y ↦ ap is_published (taken_known number same always i a h k key kind given n s x y).gone
    ]
