-- Where the names of a next phase come from: each step of the table gives the call a name that it had, the root's,
-- that of a node just made, or that of a child which the check of its parent found.
use Rattle.std.proofs.Common.{◌≡◌, ℕ, ◌==◌, ◌&&◌, ◌⊎◌, inl, inr, Bool, true, false, List, length, refl, sym, ◌∙◌, subst}
use Rattle.std.specs.Prelude.{Option, None, Some, Result, Ok, Err, slice_index}
use Rattle.std.proofs.Math.Dec.{ltb}
use Rattle.std.specs.List.{All, Contains}
use Rattle.std.proofs.lemmas.List.Elements.{All-from_recursion, recursion_from_All, All-weaker, All-contains_itself}
use Rattle.judge.specs.declared.journal.Reply.{Reply}
use Rattle.judge.specs.declared.journal.Reply.TheVariants as reply
use Rattle.congee.specs.declared.forms.base_node.NodeType.{NodeType}
use Rattle.congee.specs.declared.forms.child.Child.{Child}
use Rattle.congee.specs.declared.forms.child.Child.TheVariants as child
use Rattle.congee.specs.declared.protocol.store.Reading.{Reading}
use Rattle.congee.specs.declared.protocol.store.Reading.TheVariants.{Differs, Fits, Uncopied}
use Rattle.congee.specs.declared.protocol.store.Stamp.{Stamp}
use Rattle.congee.specs.declared.protocol.store.Upgrade.{Upgrade}
use Rattle.congee.specs.declared.protocol.store.Upgrade.TheVariants.{Locked, Failed, Exhausted}
use Rattle.congee.specs.declared.protocol.store.Refusal.{Refusal}
use Rattle.congee.specs.declared.protocol.store.Refusal.TheVariants as refusal
use Rattle.congee.specs.declared.protocol.phase.Kind.{Kind}
use Rattle.congee.specs.declared.protocol.phase.Kind.TheVariants.{Get, Insert, Remove, ComputePresent, ComputeInsert, Exchange}
use Rattle.congee.specs.declared.protocol.phase.Parent.{Parent}
use Rattle.congee.specs.declared.protocol.phase.Above.{Above as Over}
use Rattle.congee.specs.declared.protocol.phase.Site.{Site}
use Rattle.congee.specs.declared.protocol.phase.Placement.{Placement}
use Rattle.congee.specs.declared.protocol.phase.Placement.TheVariants.{Set, Link}
use Rattle.congee.specs.declared.protocol.phase.NodeChange.{NodeChange}
use Rattle.congee.specs.declared.protocol.phase.Replacement.{Replacement}
use Rattle.congee.specs.declared.protocol.phase.Replacement.TheVariants.{Unlink, Collapse, ShrinkAbove}
use Rattle.congee.specs.declared.protocol.phase.ParentChange.{ParentChange}
use Rattle.congee.specs.declared.protocol.phase.Plan.{Plan}
use Rattle.congee.specs.declared.protocol.phase.Plan.TheVariants.{Here, Above}
use Rattle.congee.specs.declared.protocol.phase.Phase.{Phase}
use Rattle.congee.specs.declared.protocol.phase.Phase.TheVariants.{New, Version, Read, Check, CheckUncopied, CheckMiss, CheckDown, CheckOld, MakeLeaf, MakeGreater, MakeTop, MakeBeside, MakeLesser, AskOld, AskNew, Confirm, CheckAbove, UpgradeHere, ChangeHere, UpgradeTop, UpgradeAbove, UpgradeBelow, ChangeAbove, Obsolete, Retire, UnlockBelow, Unlock, Unwind, Scan, Ended}
use Rattle.congee.specs.declared.protocol.next_phase.NextPhase.{NextPhase}
use Rattle.congee.specs.declared.protocol.machine.Machine.{Machine}
use Rattle.congee.specs.Heap.{Node, Below, is_taken}
use Rattle.congee.specs.protocol.Events.{hung}
use Rattle.congee.specs.protocol.Steps.{skipping, shrinks, set_at, both as both_of, last_out, near_of, node_of, given_up, after_top, after_retire, after_unwind, quiet, after_scan, again, answered, finished, refused, decided, CopyFailed, adds, asks_new, absent_reply, stamp_above, after_version, after_read, down, started, ready, plan_here, unless_full, absent, IsAsked, replaced, taken_out, emptied, is_same, IsAtOld, IsAdded, IsExchanged, IsPresent, IsChecked, after_miss, IsGiven, IsGivenNew, MadeLeaf, greater, MadeGreater, MadeTop, MadeBeside, MadeLesser, UpgradedHere, UpgradedTop, UpgradedAbove, UpgradedBelow, after_change, unwound, PhaseStepped}
use Rattle.congee.specs.Keys.{key_bytes}
use Rattle.congee.specs.Notes.{Note, Linked, LockWords}
use Rattle.congee.specs.protocol.Protocol.{Knows, Known}
use Rattle.congee.specs.protocol.Names.{name_above, names_over, name_stamped, name_made, names_for_one, names_for_two, names_site, names_one, names_two, names_plan, names, Comes, Had, Top, New_made, Hangs, KeepsOrigin}
use Rattle.congee.proofs.lemmas.protocol.Each.{Each, each_append, each_left, each_right}
use Rattle.congee.proofs.lemmas.Graft.{on_test}
use Rattle.congee.proofs.lemmas.protocol.Touch.{by_test, taken_linked}
use Rattle.congee.proofs.lemmas.protocol.ScanNames.{scan_names}
use Rattle.congee.proofs.lemmas.protocol.Unlinking.{linked_in}

-- the names of a next phase all have what the names before it, the root's and the new ones have
module _ {C : Type 0} (V : Type 0) (number : C → ℕ) (K : ℕ → Type 0) where
  abbrev Leaves : NextPhase C V → Type 0
  Leaves t = Each K (names number t.phase)

  at_next_phase : (t u : NextPhase C V) → t ≡ u → Leaves u → Leaves t
  at_next_phase t u e l = subst Leaves (sym e) l

  stamped : (p : Option (Over C)) → Each K (names_over number p) → Each K (name_stamped number (stamp_above p))
  stamped None e = tt
  stamped (Some u) e = (e.0, tt)

  nearest : (p : Option (Over C)) → Each K (names_over number p) → Each K (name_above number (near_of p))
  nearest None e = tt
  nearest (Some u) e = (e.0, tt)

  of_version : (root : C) → K (number root) → (p : Option (Over C)) (c : C) (v : Option ℕ) → K (number c) → Each K (names_over number p) → Leaves (after_version root p c v)
  of_version root r p c None k e = (r, tt)
  of_version root r p c (Some v) k e = (k, e)

  of_read : (root : C) → K (number root) → (p : Option (Over C)) (at : Stamp C) (x : Reading C V) → K (number at.node) → Each K (names_over number p) → Leaves (after_read root p at x)
  of_read root r None at (Differs common byte) k e = (r, tt)
  of_read root r (Some p) at (Differs common byte) k e = (e.0, (k, tt))
  of_read root r None at (Fits depth form s) k e = (k, e)
  of_read root r (Some p) at (Fits depth form s) k e = (k, e)
  of_read root r None at Uncopied k e = (k, tt)
  of_read root r (Some p) at Uncopied k e = (k, tt)

  of_down : (b : Bool) (s : Site C) (p : Option (Over C)) (c : C) → Each K (names_site number s) → Each K (names_over number p) → K (number c) → Leaves (down b s p c)
  of_down false s p c e f n = (n, (e.0, nearest s.above e.1))
  of_down true s None c e f n = (n, (e.0, nearest s.above e.1))
  of_down true s (Some u) c e f n = (f.0, (n, (e.0, nearest s.above e.1)))

  of_started : (plan : Plan C) (r : Reply V) → Each K (names_plan number plan) → Leaves (started plan r)
  of_started (Here None one) r e = e
  of_started (Here (Some p) one) r e = e
  of_started (Above two) r e = e

  of_ready : (kind : Kind V) (plan : Plan C) → Each K (names_plan number plan) → Leaves (ready kind plan)
  of_ready kind plan e = by_test Leaves (asks_new kind) _ _ (λ _. e) (λ _. of_started plan (absent_reply kind) e)

  of_here : (kind : Kind V) (s : Site C) (change : Placement C) → Each K (names_site number s) → Each K (names_for_one number change) → Leaves (ready kind (plan_here s change))
  of_here kind s change e f = of_ready kind (plan_here s change) (each_append K (name_stamped number (stamp_above s.above)) _ (stamped s.above e.1) (e.0, f))

  of_unless_full : (kind : Kind V) (s : Site C) (full : Bool) (p : Option (Over C)) (leaf : Option C) (change : Placement C) → Each K (names_site number s) → Each K (names_over number p) → Each K (name_made number leaf)
      → Each K (names_for_one number change) → Leaves (unless_full kind s full p leaf change)
  of_unless_full kind s true (Some p) leaf change e f l m = (f.0, each_append K (name_made number leaf) (names_site number s) l e)
  of_unless_full kind s true None leaf change e f l m = of_here kind s change e m
  of_unless_full kind s false p leaf change e f l m = of_here kind s change e m

  of_absent : (kind : Kind V) (s : Site C) → Each K (names_site number s) → Leaves (absent kind s)
  of_absent kind s e = by_test Leaves (adds kind) _ _
      (λ _. by_test Leaves (s.depth == 7) _ _ (λ _. of_unless_full kind s s.full s.above None Set e e.1 tt tt) (λ _. e))
      (λ _. tt)

  of_asked : (always : Bool) (s : Site C) (v : V) (t : NextPhase C V) → IsAsked always s v t → Each K (names_site number s) → Leaves t
  of_asked always s v t (inl x) e = at_next_phase t _ x e
  of_asked always s v t (inr x) e = at_next_phase t (refused refusal.Count) x.1 tt

  of_replaced : (s : Site C) (same : Bool) (r : Reply V) → Each K (names_site number s) → Leaves (replaced s same r)
  of_replaced s true r e = (e.0, tt)
  of_replaced s false r e = (e.0, tt)

  -- a value's going
  of_last_out : (s : Site C) (p : Parent C) (top : Option (Parent C)) (r : Reply V) → Each K (names_site number s) → K (number p.stamp.node) → Each K (name_above number top) → Leaves (last_out s p top r)
  of_last_out s p None r e k f = (k, (e.0, tt))
  of_last_out s p (Some top) r e k f = by_test Leaves (p.count == 2) _ _ (λ _. (f.0, (k, (e.0, tt))))
      (λ _. by_test Leaves (ltb 2 p.count && shrinks p.form p.count) _ _ (λ _. (k, (f.0, e))) (λ _. (k, (e.0, tt))))

  of_taken_out : (s : Site C) (p : Option (Over C)) (r : Reply V) → Each K (names_site number s) → Each K (names_over number p) → Leaves (taken_out s p r)
  of_taken_out s None r e f = (e.0, tt)
  of_taken_out s (Some u) r e f = by_test Leaves (s.count == 1) _ _ (λ _. of_last_out s u.near u.far r e f.0 f.1)
      (λ _. by_test Leaves (shrinks s.form s.count) _ _ (λ _. (f.0, e)) (λ _. (e.0, tt)))

  of_emptied : (s : Site C) (r : Reply V) → Each K (names_site number s) → Leaves (emptied s r)
  of_emptied s r e = of_taken_out s s.above r e e.1

  of_old : (always : Bool) (same : V → V → Bool) (kind : Kind V) (new : Option V) (s : Site C) (v : V) (t : NextPhase C V) → IsAtOld always same kind new s v t → Each K (names_site number s) → Leaves t
  of_old always same Insert new s v t x e = at_next_phase t _ x (of_replaced s (is_same same v new) (reply.Insert (Some v)) e)
  of_old always same _ new s v t x e = of_asked always s v t x e

  of_added : (always : Bool) (same : V → V → Bool) (kind : Kind V) (new : Option V) (s : Site C) (p : Option (Over C)) (v : V) (t : NextPhase C V) → IsAdded always same kind new s p v t → Each K (names_site number s)
      → Each K (names_over number p) → Leaves t
  of_added always same kind new s None v t x e f = of_old always same kind new s v t x e
  of_added always same kind new s (Some p) v t x e f = at_next_phase t _ x (f.0, e)

  of_exchanged : (always : Bool) (same : V → V → Bool) (new : Option V) (s : Site C) (v : V) (t : NextPhase C V) → IsExchanged always same new s v t → Each K (names_site number s) → Leaves t
  of_exchanged always same None s v t x e = at_next_phase t _ x (of_emptied s _ e)
  of_exchanged always same (Some w) s v t (inl x) e = at_next_phase t _ x (of_replaced s (same v w) _ e)
  of_exchanged always same (Some w) s v t (inr x) e = at_next_phase t (refused refusal.Count) x.1 tt

  of_present : (always : Bool) (same : V → V → Bool) (kind : Kind V) (new : Option V) (s : Site C) (v : V) (t : NextPhase C V) → IsPresent always same kind new s v t → Each K (names_site number s) → Leaves t
  of_present always same Get new s v t x e = at_next_phase t _ x tt
  of_present always same Insert new s v t x e = of_added always same Insert new s s.above v t x e e.1
  of_present always same Remove new s v t x e = at_next_phase t _ x (of_emptied s _ e)
  of_present always same ComputePresent new s v t x e = of_asked always s v t x e
  of_present always same ComputeInsert new s v t x e = of_added always same ComputeInsert new s s.above v t x e e.1
  of_present always same (Exchange old) new s v t x e = on_test (same v old)
      (λ q. of_exchanged always same new s v t (x.0 q) e)
      (λ q. at_next_phase t _ (x.1 q) (e.0, tt))

  -- where the check found the node that the read saw
  of_checked : (always : Bool) (same : V → V → Bool) (kind : Kind V) (new : Option V) (s : Site C) (c : Child C V) (t : NextPhase C V) → IsChecked always same kind new s c t → Each K (names_site number s)
      → ((n : ℕ) → hung number c ≡ Below n → K n) → Leaves t
  of_checked always same kind new s child.Blank t x e f = at_next_phase t _ x (of_absent kind s e)
  of_checked always same kind new s (child.Node c) t x e f = at_next_phase t _ x (of_down (adds kind) s s.above c e e.1 (f (number c) refl))
  of_checked always same kind new s (child.Value v) t x e f = of_present always same kind new s v t x e

  of_if : (root : C) → K (number root) → (taken : Bool) (T : Type 0) (t : NextPhase C V) → (taken ≡ true → T) × (taken ≡ false → t ≡ again root) → (taken ≡ true → T → Leaves t) → Leaves t
  of_if root r taken T t x f = on_test taken (λ q. f q (x.0 q)) (λ q. at_next_phase t _ (x.1 q) (r, tt))

  of_miss : (kind : Kind V) (p : Parent C) (at : Stamp C) (common byte : ℕ) → K (number p.stamp.node) → K (number at.node) → Leaves (after_miss kind p at common byte)
  of_miss kind p at common byte k l = by_test Leaves (adds kind) _ _ (λ _. (k, (l, tt))) (λ _. tt)

  of_either : (always : Bool) (s : Site C) (same : Bool) (r : Reply V) (t : NextPhase C V) → (t ≡ replaced s same r) ⊎ CopyFailed always t → Each K (names_site number s) → Leaves t
  of_either always s same r t (inl x) e = at_next_phase t _ x (of_replaced s same r e)
  of_either always s same r t (inr x) e = at_next_phase t (refused refusal.Count) x.1 tt

  of_given : (always : Bool) (same : V → V → Bool) (kind : Kind V) (s : Site C) (v : V) (answer : Option (Option V)) (new new' : Option V) (t : NextPhase C V) → IsGiven always same kind s v answer new new' t
      → Each K (names_site number s) → Leaves t
  of_given always same kind s v None new new' t x e = of_asked always s v t x.1 e
  of_given always same ComputeInsert s v (Some None) new new' t x e = of_asked always s v t x.1 e
  of_given always same ComputeInsert s v (Some (Some w)) new new' t x e = at_next_phase t _ x.1 (of_replaced s (same v w) _ e)
  of_given always same Get s v (Some None) new new' t x e = at_next_phase t _ x.1 (of_emptied s _ e)
  of_given always same Insert s v (Some None) new new' t x e = at_next_phase t _ x.1 (of_emptied s _ e)
  of_given always same Remove s v (Some None) new new' t x e = at_next_phase t _ x.1 (of_emptied s _ e)
  of_given always same ComputePresent s v (Some None) new new' t x e = at_next_phase t _ x.1 (of_emptied s _ e)
  of_given always same (Exchange old) s v (Some None) new new' t x e = at_next_phase t _ x.1 (of_emptied s _ e)
  of_given always same Get s v (Some (Some w)) new new' t x e = of_either always s (same v w) _ t x.1 e
  of_given always same Insert s v (Some (Some w)) new new' t x e = of_either always s (same v w) _ t x.1 e
  of_given always same Remove s v (Some (Some w)) new new' t x e = of_either always s (same v w) _ t x.1 e
  of_given always same ComputePresent s v (Some (Some w)) new new' t x e = of_either always s (same v w) _ t x.1 e
  of_given always same (Exchange old) s v (Some (Some w)) new new' t x e = of_either always s (same v w) _ t x.1 e

  of_new : (plan : Plan C) (answer : Option (Option V)) (new new' : Option V) (t : NextPhase C V) → IsGivenNew plan answer new new' t → Each K (names_plan number plan) → Leaves t
  of_new plan None new new' t x e = at_next_phase t _ x.1 e
  of_new plan (Some None) new new' t x e = at_next_phase t _ x.1 e
  of_new plan (Some (Some v)) new new' t x e = at_next_phase t _ x.1 (of_started plan _ e)

  of_greater : (s : Site C) (leaf : Option C) (c : C) → Each K (name_made number leaf) → K (number c) → Each K (names_for_two number (greater s leaf c))
  of_greater s None c e k = (k, tt)
  of_greater s (Some leaf) c e k = (k, e)

  of_top : (two : ParentChange C) (r : Reply V) (top : Option (Parent C)) → K (number two.above.stamp.node) → K (number two.at.node) → Each K (name_above number top) → Leaves (after_top two r top)
  of_top two r None k l e = (k, tt)
  of_top two r (Some top) k l e = (l, (e.0, (k, tt)))

  of_change : (two : ParentChange C) (r : Reply V) (change : Replacement C) → Each K (names_two number two) → Leaves (after_change two r change)
  of_change two r Collapse e = of_top two r two.top e.0 e.1.0 (each_left K (name_above number two.top) (names_for_two number two.change) e.1.1)
  of_change two r (ShrinkAbove c) e = of_top two r two.top e.0 e.1.0 (each_left K (name_above number two.top) (names_for_two number two.change) e.1.1)
  of_change two r _ e = (e.1.0, (e.0, tt))

  of_retired : (next : Option C) (p : C) (r : Reply V) → K (number p) → Each K (name_made number next) → Leaves (after_retire next p r)
  of_retired None p r k e = (k, tt)
  of_retired (Some c) p r k e = (e.0, (k, tt))

  of_unwound : (root : C) → K (number root) → (e : Option Refusal) → Leaves (unwound root e)
  of_unwound root r None = (r, tt)
  of_unwound root r (Some e) = tt

  of_after_unwind : (root : C) → K (number root) → (next : Option C) (e : Option Refusal) → Each K (name_made number next) → Leaves (after_unwind root next e)
  of_after_unwind root r None e f = of_unwound root r e
  of_after_unwind root r (Some c) e f = (f.0, tt)

  of_given_up : (root : C) → K (number root) → (top : Option (Parent C)) (e : Option Refusal) → Each K (name_above number top) → Leaves (given_up root top e)
  of_given_up root r None e f = of_unwound root r e
  of_given_up root r (Some top) e f = (f.0, tt)

  of_node : (top : Option (Parent C)) → Each K (name_above number top) → Each K (name_made number (node_of top))
  of_node None e = tt
  of_node (Some top) e = e

  -- steps that make a node, or lock one
  module _ (root : C) (top : K (number root)) (h h' : ℕ → Node V) (fresh : (n : ℕ) → (h n).made ≡ false → (h' n).made ≡ true → K n) (k : ℕ) (kind : Kind V) where
    of_leaf : (s : Site C) (r : Result C Refusal) (t : NextPhase C V) → MadeLeaf number kind s h (key_bytes k) r h' t → Each K (names_site number s) → Leaves t
    of_leaf s (Ok leaf) t x e =
        let k : K (number leaf) = fresh (number leaf) x.0.unmade x.0.made in
        at_next_phase t _ x.1 (of_unless_full kind s s.full s.above (Some leaf) (Link leaf) e e.1 (k, tt) (k, tt))
    of_leaf s (Err e') t x e = at_next_phase t (refused e') x.1 tt

    of_made_greater : (s : Site C) (p : Parent C) (leaf : Option C) (r : Result C Refusal) (t : NextPhase C V) → MadeGreater number kind s p leaf h (key_bytes k) r h' t → K (number p.stamp.node) → Each K (name_made number leaf)
        → Each K (names_site number s) → Leaves t
    of_made_greater s p leaf (Ok c) t x k l e = at_next_phase t _ x.1 (of_ready kind _ (k, (e.0, of_greater s leaf c l (fresh (number c) x.0.unmade x.0.made))))
    of_made_greater s p leaf (Err e') t x k l e = at_next_phase t (refused e') x.1 tt

    of_made_top : (p : Parent C) (at : Stamp C) (common byte : ℕ) (r : Result C Refusal) (t : NextPhase C V) → MadeTop number p at common byte h (key_bytes k) r h' t → K (number p.stamp.node) → K (number at.node) → Leaves t
    of_made_top p at common byte (Ok c) t x k l = at_next_phase t _ x.1 (k, (l, (fresh (number c) x.0.unmade x.0.made, tt)))
    of_made_top p at common byte (Err e') t x k l = at_next_phase t (refused e') x.1 tt

    of_made_beside : (p : Parent C) (at : Stamp C) (common byte : ℕ) (c : C) (r : Result C Refusal) (t : NextPhase C V) → MadeBeside number kind p at common byte c h (key_bytes k) r h' t → K (number p.stamp.node) → K (number at.node)
        → K (number c) → Leaves t
    of_made_beside p at common byte c (Ok leaf) t x k l m = at_next_phase t _ x.1 (of_ready kind _ (k, (l, (m, (fresh (number leaf) x.0.unmade x.0.made, tt)))))
    of_made_beside p at common byte c (Err e') t x k l m = at_next_phase t (refused e') x.1 tt

    of_made_lesser : (s : Site C) (p : Parent C) (g : Option (Parent C)) (r : Reply V) (x : Result C Refusal) (t : NextPhase C V) → MadeLesser number s p g r h (key_bytes k) x h' t → K (number p.stamp.node) → Each K (name_above number g) → Each K (names_site number s) → Leaves t
    of_made_lesser s p None r (Ok c) t x k f e = at_next_phase t _ x.1 (k, (e.0, (fresh (number c) x.0.unmade x.0.made, tt)))
    of_made_lesser s p None r (Err e') t x k f e = at_next_phase t (skipping (UpgradeHere (set_at s) r)) x.1 (e.0, tt)
    of_made_lesser s p (Some g) r (Ok c) t x k f e = at_next_phase t _ x.1 (f.0, (k, (e.0, (fresh (number c) x.0.unmade x.0.made, tt))))
    of_made_lesser s p (Some g) r (Err e') t x k f e = at_next_phase t (skipping (UpgradeAbove (both_of p s Unlink) r)) x.1 (k, (e.0, tt))

    of_upgraded_one : (one : NodeChange C) (r : Reply V) (u : Upgrade) (t : NextPhase C V) → UpgradedHere number root one r h u h' t → Each K (names_one number one) → Leaves t
    of_upgraded_one one r Locked t x e = at_next_phase t _ x.1 e
    of_upgraded_one one r Failed t x e = at_next_phase t _ x.1 (top, tt)
    of_upgraded_one one r Exhausted t x e = at_next_phase t (refused refusal.Exhausted) x.1 tt

    tops : (two : ParentChange C) → Each K (names_two number two) → Each K (name_above number two.top)
    tops two e = each_left K (name_above number two.top) (names_for_two number two.change) e.1.1

    of_upgraded_above : (two : ParentChange C) (r : Reply V) (u : Upgrade) (t : NextPhase C V) → UpgradedAbove number root two r h u h' t → Each K (names_two number two) → Leaves t
    of_upgraded_above two r Locked t x e = at_next_phase t _ x.1 e
    of_upgraded_above two r Failed t x e = at_next_phase t _ x.1 (of_given_up root top two.top None (tops two e))
    of_upgraded_above two r Exhausted t x e = at_next_phase t _ x.1 (of_given_up root top two.top (Some refusal.Exhausted) (tops two e))

    of_upgraded_top : (g : Parent C) (two : ParentChange C) (r : Reply V) (u : Upgrade) (t : NextPhase C V) → UpgradedTop number root g two r h u h' t → K (number g.stamp.node) → Each K (names_two number two) → Leaves t
    of_upgraded_top g two r Locked t x k e = at_next_phase t _ x.1 (e.0, (e.1.0, (k, each_right K (name_above number two.top) (names_for_two number two.change) e.1.1)))
    of_upgraded_top g two r Failed t x k e = at_next_phase t _ x.1 (top, tt)
    of_upgraded_top g two r Exhausted t x k e = at_next_phase t (refused refusal.Exhausted) x.1 tt

    of_upgraded_both : (two : ParentChange C) (r : Reply V) (u : Upgrade) (t : NextPhase C V) → UpgradedBelow number two r h u h' t → Each K (names_two number two) → Leaves t
    of_upgraded_both two r Locked t x e = at_next_phase t _ x.1 e
    of_upgraded_both two r Failed t x e = at_next_phase t _ x.1 (e.0, of_node two.top (tops two e))
    of_upgraded_both two r Exhausted t x e = at_next_phase t _ x.1 (e.0, of_node two.top (tops two e))

    -- each step of the table
    module _ (same : V → V → Bool) (always : Bool) (most : ℕ) (why : NodeType → Refusal → Type 0) (i : ℕ) (a : ℕ → Note) (fail : Bool) (answer : Option (Option V)) (given given' : Option V) (next_phase : NextPhase C V) (w : LockWords a h)
        (hangs : (p b n : ℕ) → (a p).status ≡ Linked → (h p).children b ≡ Below n → K n) where
      -- a child that was read in a node whose lock word is the one taken
      found : (s : Site C) (c : Child C V) → Knows number a h (key_bytes k) s (hung number c) → is_taken (h (number s.at.node)) s.at.version ≡ true → (n : ℕ) → hung number c ≡ Below n → K n
      found s c m q n e = hangs (number s.at.node) (slice_index (key_bytes k) (length (h (number s.at.node)).prefix)) n
          (taken_linked a h w (number s.at.node) s.at.version m.fresh.stamped.published q) ((m.fresh.holds q).child ∙ e)

      step_names : (s : Phase C V) → Known number same always i a h k (key_bytes k) kind given s → PhaseStepped number same always most why root (key_bytes k) kind fail answer given s h given' next_phase h' → Each K (names number s) → Leaves next_phase
      step_names New m g e = at_next_phase next_phase _ g.2 (of_version root top None root _ top tt)
      step_names (Version p c) m g e = at_next_phase next_phase _ g.2 (of_version root top p c _ e.0 e.1)
      step_names (Read p at) m g e = at_next_phase next_phase _ g.2.2 (of_read root top p at g.2.0 e.0 e.1)
      step_names (Check s c) m g e = of_if root top _ _ next_phase g.2 (λ y x. of_checked always same kind given s c next_phase x e (found s c m.1 y))
      step_names (CheckUncopied at) m g e = of_if root top _ _ next_phase g.2 (λ y x. at_next_phase next_phase (refused refusal.Count) x tt)
      step_names (CheckMiss p at common byte) m g e = of_if root top _ _ next_phase g.2 (λ y x. at_next_phase next_phase _ x (of_miss kind p at common byte e.0 e.1.0))
      step_names (CheckDown p at c) m g e = of_if root top _ _ next_phase g.2 (λ y x. at_next_phase next_phase (quiet (Version (Some at) c)) x (e.1.0, e.1.1))
      step_names (CheckOld p s v) m g e = of_if root top _ _ next_phase g.2 (λ y x. of_old always same kind given s v next_phase x e.1)
      step_names (MakeLeaf s) m g e = of_leaf s g.1.0 next_phase g.1.1 e
      step_names (MakeGreater s p leaf) m g e = of_made_greater s p leaf g.1.0 next_phase g.1.1 e.0
          (each_left K (name_made number leaf) (names_site number s) e.1) (each_right K (name_made number leaf) (names_site number s) e.1)
      step_names (MakeTop p at common byte) m g e = of_made_top p at common byte g.1.0 next_phase g.1.1 e.0 e.1.0
      step_names (MakeBeside p at common byte c) m g e = of_made_beside p at common byte c g.1.0 next_phase g.1.1 e.0 e.1.0 e.1.1.0
      step_names (MakeLesser s p top r) m g e = of_made_lesser s p top r g.1.0 next_phase g.1.1 e.0 (each_left K (name_above number top) (names_site number s) e.1) (each_right K (name_above number top) (names_site number s) e.1)
      step_names (AskOld s v) m g e = of_given always same kind s v answer given given' next_phase g.1 e
      step_names (AskNew plan) m g e = of_new plan answer given given' next_phase g.1 e
      step_names (Confirm at r) m g e = of_if root top _ _ next_phase g.2 (λ y x. at_next_phase next_phase (answered r) x tt)
      step_names (CheckAbove p one r) m g e = on_test (is_taken (h (number p.node)) p.version)
          (λ y. at_next_phase next_phase (quiet (UpgradeHere one r)) (g.1.goes_on y).1 e.1)
          (λ y. at_next_phase next_phase (again root) (g.1.goes_back y).1 (top, tt))
      step_names (UpgradeHere one r) m g e = of_upgraded_one one r g.1.0 next_phase g.1.2 e
      step_names (ChangeHere one r) m g e = at_next_phase next_phase (decided (Unlock one.at.node r)) g.2 (e.0, tt)
      step_names (UpgradeTop top two r) m g e = of_upgraded_top top two r g.1.0 next_phase g.1.2 e.0 e.1
      step_names (UpgradeAbove two r) m g e = of_upgraded_above two r g.1.0 next_phase g.1.2 e
      step_names (UpgradeBelow two r) m g e = of_upgraded_both two r g.1.0 next_phase g.1.2 e
      step_names (ChangeAbove two r) m g e = at_next_phase next_phase _ g.2 (of_change two r two.change e)
      step_names (Obsolete n next p r) m g e = at_next_phase next_phase (quiet (Retire n next p r)) g.2 e
      step_names (Retire n next p r) m g e = at_next_phase next_phase _ g.2 (of_retired next p r e.1.0 e.1.1)
      step_names (UnlockBelow n p r) m g e = at_next_phase next_phase (quiet (Unlock p r)) g.2 (e.1.0, tt)
      step_names (Unlock n r) m g e = at_next_phase next_phase (finished r) g.2 tt
      step_names (Unwind n next r) m g e = at_next_phase next_phase _ g.2 (of_after_unwind root top next r e.1)
      step_names (Scan s) m g e = at_next_phase next_phase (after_scan g.2.0 g.2.1) g.2.3 (scan_names number always a h K root top hangs w s (g.2.0, g.2.1) m g.2.2 e)
      step_names Ended m g e = at_next_phase next_phase (quiet Ended) g.2 tt

-- a step by the table gives the call names of known origin
pub stepped_origin : {C V : Type 0} (number : C → ℕ) (same : V → V → Bool) (always : Bool) (most : ℕ) (why : NodeType → Refusal → Type 0) (m : Machine C V) (h : ℕ → Node V) (fail : Bool) (answer : Option (Option V)) (given' : Option V) (next_phase : NextPhase C V) (m' : Machine C V) (h' : ℕ → Node V)
    → m'.phase ≡ next_phase.phase → PhaseStepped number same always most why m.root (key_bytes m.key) m.kind fail answer m.given m.phase h given' next_phase h' → KeepsOrigin number same always m h m' h'
stepped_origin {C} {V} number same always most why m h fail answer given' next_phase m' h' e s i a z t w known =
    let had : List ℕ = names number m.phase in
    let K : ℕ → Type 0 = Comes (number m.root) had h h' in
    let P : Phase C V → Type 0 = λ x. All K (names number x) in
    subst P (sym e) (All-from_recursion K (names number next_phase.phase)
    (step_names V number K m.root (Top refl) h h' (λ n x y. New_made x y) m.key m.kind same always most why i a fail answer m.given given' next_phase w
    (λ p b n l e. Hangs p b (linked_in a h p t l) e)
    m.phase known s (recursion_from_All K had (All-weaker (Contains had) K (λ n c. Had c) had (All-contains_itself had)))))
