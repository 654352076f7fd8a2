-- The next phase of a call on a store, and that of the same call by numbers.
use Rattle.std.proofs.Common.{◌≡◌, ℕ, ◌==◌, ◌&&◌, Bool, true, false, cond, List, refl, sym, ◌∙◌, ap, subst, inl, inr, ◌⊎◌}
use Rattle.std.proofs.Math.Dec.{ltb}
use Rattle.std.specs.Prelude.{Option, None, Some, Ok, Err}
use Rattle.judge.specs.declared.journal.Reply.{Reply}
use Rattle.judge.specs.declared.journal.Reply.TheVariants as reply
use Rattle.congee.specs.declared.forms.base_node.NodeType.{NodeType}
use Rattle.congee.specs.declared.forms.child.Child.{Child}
use Rattle.congee.specs.declared.forms.child.Child.TheVariants as child
use Rattle.congee.specs.declared.protocol.store.Refusal.{Refusal}
use Rattle.congee.specs.declared.protocol.store.Refusal.TheVariants as refusal
use Rattle.congee.specs.declared.protocol.store.Stamp.{Stamp}
use Rattle.congee.specs.declared.protocol.phase.Kind.{Kind}
use Rattle.congee.specs.declared.protocol.phase.Kind.TheVariants.{Get, Insert, Remove, ComputePresent, ComputeInsert, Exchange}
use Rattle.congee.specs.declared.protocol.phase.Parent.{Parent}
use Rattle.congee.specs.declared.protocol.phase.Above.{Above as Over}
use Rattle.congee.specs.declared.protocol.phase.Site.{Site}
use Rattle.congee.specs.declared.protocol.phase.Placement.{Placement}
use Rattle.congee.specs.declared.protocol.phase.Placement.TheVariants.{Set}
use Rattle.congee.specs.declared.protocol.phase.Replacement.{Replacement}
use Rattle.congee.specs.declared.protocol.phase.Replacement.TheVariants.{Unlink, Grow, GrowLink, Split, Shrink, Collapse, ShrinkAbove}
use Rattle.congee.specs.declared.protocol.phase.ParentChange.{ParentChange}
use Rattle.congee.specs.declared.protocol.phase.Plan.{Plan}
use Rattle.congee.specs.declared.protocol.phase.Plan.TheVariants.{Here, Above}
use Rattle.congee.specs.declared.protocol.phase.Phase.{Phase}
use Rattle.congee.specs.declared.protocol.phase.Phase.TheVariants.{Version, Read, CheckDown, CheckOld, MakeLeaf, MakeGreater, MakeTop, MakeLesser, AskOld, AskNew, Confirm, CheckAbove, UpgradeHere, UpgradeTop, UpgradeAbove, Obsolete, UnlockBelow, Unlock, Unwind}
use Rattle.congee.specs.declared.protocol.next_phase.NextPhase.{NextPhase}
use Rattle.congee.specs.Heap.{Node}
use Rattle.congee.specs.protocol.Alike.{Named, StampAlike, ParentAlike, TopAlike, OverAlike, AboveAlike, StampedAlike, MadeAlike, SiteAlike, ReadAlike, PlacementAlike, ReplacementAlike, ParentChangeAlike, PlanAlike, SeesAlike, PhaseAlike, NextPhaseAlike, IsUnrefused}
use Rattle.congee.specs.protocol.Steps.{shrinks, here_of, near_of, node_of, below, set_at, both, last_out, after_top, after_retire, after_unwind, given_up, quiet, again, answered, finished, refused, decided, asking, adds, asks_new, absent_reply, after_version, down, started, ready, stamp_above, plan_here, unless_full, missing, absent, CopyFailed, IsAsked, replaced, taken_out, emptied, is_same, IsAtOld, IsAdded, IsExchanged, IsCompared, IsPresent, IsChecked, after_miss, IsGiven, IsGivenNew, greater, after_change, unwound}
use Rattle.congee.specs.protocol.PlainSteps.{asked, at_old, added, exchanged, present, checked, given_old, given_new}
use Rattle.congee.specs.declared.forms.prefix.TheConstants.{MAX_PREFIX_LEN}

module _ {C V : Type 0} (order : List ℕ) (number : C → ℕ) (h : ℕ → Node V) where
  -- a next phase on the store and one by numbers report the same, and go on in the same phase
  abbrev pub Alike : NextPhase C V → NextPhase ℕ V → Type 0
  Alike t u = NextPhaseAlike order number h t u

  -- next phases that report nothing and go on in the same phase are alike on both sides
  pub quiet_alike : (p : Phase C V) (q : Phase ℕ V) → PhaseAlike order number h p q → Alike (quiet p) (quiet q)
  quiet_alike p q x = record { report = refl; phase = x }

  asking_alike : (p : Phase C V) (q : Phase ℕ V) (o : Option V) → PhaseAlike order number h p q → Alike (asking p o) (asking q o)
  asking_alike p q o x = record { report = refl; phase = x }

  -- next phases that report that the call took effect, and go on in the same phase, are alike on both sides
  pub decided_alike : (p : Phase C V) (q : Phase ℕ V) → PhaseAlike order number h p q → Alike (decided p) (decided q)
  decided_alike p q x = record { report = refl; phase = x }

  -- the next phase that takes effect and ends with a reply is alike on both sides
  pub answered_alike : (r : Reply V) → Alike (answered r) (answered r)
  answered_alike r = record { report = refl; phase = refl }

  -- the next phase that ends with a reply after the call took effect is alike on both sides
  pub finished_alike : (r : Reply V) → Alike (finished r) (finished r)
  finished_alike r = record { report = refl; phase = refl }

  -- the next phase that ends with a refusal is alike on both sides
  pub refused_alike : (e : Refusal) → Alike (refused e) (refused e)
  refused_alike e = record { report = refl; phase = refl }

  -- one side's next phase by another name
  pub alike_at : (t s : NextPhase C V) (u : NextPhase ℕ V) → t ≡ s → Alike s u → Alike t u
  alike_at t s u e x = let P : NextPhase C V → Type 0 = λ z. Alike z u in subst P (sym e) x

  -- the next phase by numbers may go by another name for the same one
  pub alike_to : (t : NextPhase C V) (u w : NextPhase ℕ V) → w ≡ u → Alike t u → Alike t w
  alike_to t u w e x = let P : NextPhase ℕ V → Type 0 = λ z. Alike t z in subst P (sym e) x

  -- a call that begins anew at the root does so on both sides
  pub again_alike : (root : C) (n : ℕ) → Named order number root n → Alike (again root) (again n)
  again_alike root n x = quiet_alike (Version None root) (Version None n) (None, n, refl, refl, x)

  -- after a version is read both sides read the node, or begin anew where there was none
  pub version_alike : (root : C) (m : ℕ) (above : Option (Over C)) (o : Option (Over ℕ)) (c : C) (n : ℕ) (v : Option ℕ) → Named order number root m → AboveAlike order number above o → Named order number c n
      → Alike (after_version root above c v) (after_version m o n v)
  version_alike root m above o c n None r a x = again_alike root m r
  version_alike root m above o c n (Some v) r a x = quiet_alike (Read above (record { node = c; version = v })) (Read o (record { node = n; version = v })) (o, record { node = n; version = v }, refl, a, record { node = x; version = refl })

  -- the node at hand as the one above the next, and the nodes above that
  parent_alike : (s : Site C) (u : Site ℕ) → ReadAlike order number s u → ParentAlike order number (here_of s) (here_of u)
  parent_alike s u x = record { stamp = x.site.at; byte = x.site.byte; depth = x.site.depth; count = x.count; form = x.site.form }

  near_alike : (above : Option (Over C)) (o : Option (Over ℕ)) → AboveAlike order number above o → TopAlike order number (near_of above) (near_of o)
  near_alike None o a = ap near_of a
  near_alike (Some u) o a = (a.0.near, ap near_of a.1, a.2.near)

  below_alike : (s : Site C) (u : Site ℕ) → ReadAlike order number s u → OverAlike order number (below s) (below u)
  below_alike s u x = record { near = parent_alike s u x; far = near_alike s.above u.above x.site.above }

  down_alike : (b : Bool) (s : Site C) (u : Site ℕ) (above : Option (Over C)) (o : Option (Over ℕ)) (c : C) (n : ℕ) → ReadAlike order number s u → AboveAlike order number above o → Named order number c n
      → Alike (down b s above c) (down b u o n)
  down_alike false s u above o c n x a y = quiet_alike (Version (Some (below s)) c) (Version (Some (below u)) n) (Some (below u), n, refl, (below u, refl, below_alike s u x), y)
  down_alike true s u None o c n x a y =
      alike_to (down true s None c) (down true u None n) (down true u o n) (ap (λ z. down true u z n) a)
      (quiet_alike (Version (Some (below s)) c) (Version (Some (below u)) n) (Some (below u), n, refl, (below u, refl, below_alike s u x), y))
  down_alike true s u (Some p) o c n x a y =
      alike_to (down true s (Some p) c) (down true u (Some a.0) n) (down true u o n) (ap (λ z. down true u z n) a.1)
      (quiet_alike (CheckDown p.near.stamp (below s) c) (CheckDown a.0.near.stamp (below u) n) (a.0.near.stamp, below u, n, refl, a.2.near.stamp, below_alike s u x, y))

  started_alike : (plan : Plan C) (y : Plan ℕ) (r : Reply V) → PlanAlike order number plan y → Alike (started plan r) (started y r)
  started_alike (Here None one) y r x =
      alike_to _ (started (Here None x.1) r) (started y r) (ap (λ z. started z r) (x.2 ∙ ap (λ z. Here z x.1) x.3)) (quiet_alike (UpgradeHere one r) (UpgradeHere x.1 r) (x.1, refl, x.4))
  started_alike (Here (Some p) one) y r x =
      alike_to _ (started (Here (Some x.3.0) x.1) r) (started y r) (ap (λ z. started z r) (x.2 ∙ ap (λ z. Here z x.1) x.3.1)) (quiet_alike (CheckAbove p one r) (CheckAbove x.3.0 x.1 r) (x.3.0, x.1, refl, x.3.2, x.4))
  started_alike (Above two) y r x =
      alike_to _ (started (Above x.0) r) (started y r) (ap (λ z. started z r) x.1) (quiet_alike (UpgradeAbove two r) (UpgradeAbove x.0 r) (x.0, refl, x.2))

  -- a plan on both sides begins on both, or its closure is asked first on both
  pub ready_alike : (kind : Kind V) (plan : Plan C) (y : Plan ℕ) → PlanAlike order number plan y → Alike (ready kind plan) (ready kind y)
  ready_alike kind plan y x = by (asks_new kind) where
    by : (b : Bool) → Alike (cond b (asking (AskNew plan) None) (started plan (absent_reply kind))) (cond b (asking (AskNew y) None) (started y (absent_reply kind)))
    by true = asking_alike (AskNew plan) (AskNew y) None (y, refl, x)
    by false = started_alike plan y (absent_reply kind) x

  stamped_above : (above : Option (Over C)) (o : Option (Over ℕ)) → AboveAlike order number above o → StampedAlike order number (stamp_above above) (stamp_above o)
  stamped_above None o x = ap stamp_above x
  stamped_above (Some p) o x = (x.0.near.stamp, ap stamp_above x.1, x.2.near.stamp)

  here_alike : (s : Site C) (u : Site ℕ) (change : Placement C) (y : Placement ℕ) → SiteAlike order number s u → PlacementAlike order number change y → PlanAlike order number (plan_here s change) (plan_here u y)
  here_alike s u change y x a = (stamp_above u.above, record { at = u.at; byte = u.byte; change = y }, refl, stamped_above s.above u.above x.above, record { at = x.at; byte = x.byte; change = a })

  -- a full node gives way to a greater one on both sides, and a node with room is changed on both
  pub full_alike : (kind : Kind V) (s : Site C) (u : Site ℕ) (b : Bool) (above : Option (Over C)) (o : Option (Over ℕ)) (leaf : Option C) (l : Option ℕ) (change : Placement C) (y : Placement ℕ)
      → ReadAlike order number s u → AboveAlike order number above o → MadeAlike order number leaf l → PlacementAlike order number change y → Alike (unless_full kind s b above leaf change) (unless_full kind u b o l y)
  full_alike kind s u true (Some p) o leaf l change y x a m d =
      alike_to _ (unless_full kind u true (Some a.0) l y) (unless_full kind u true o l y) (ap (λ z. unless_full kind u true z l y) a.1)
      (quiet_alike (MakeGreater s p.near leaf) (MakeGreater u a.0.near l) (u, a.0.near, l, refl, x, a.2.near, m))
  full_alike kind s u true None o leaf l change y x a m d =
      alike_to _ (unless_full kind u true None l y) (unless_full kind u true o l y) (ap (λ z. unless_full kind u true z l y) a)
      (ready_alike kind (plan_here s change) (plan_here u y) (here_alike s u change y x.site d))
  full_alike kind s u false above o leaf l change y x a m d = ready_alike kind (plan_here s change) (plan_here u y) (here_alike s u change y x.site d)

  missing_alike : (kind : Kind V) (s : Site C) (u : Site ℕ) → ReadAlike order number s u → u.full ≡ s.full → Alike (missing kind s) (missing kind u)
  missing_alike kind s u x f =
      alike_to (missing kind s) (by_depth (s.depth == MAX_PREFIX_LEN) s.full) (missing kind u) (ap (λ z. by_depth (z == MAX_PREFIX_LEN) u.full) x.site.depth ∙ ap (λ z. by_depth (s.depth == MAX_PREFIX_LEN) z) f) (each (s.depth == MAX_PREFIX_LEN))
    where
      by_depth : Bool → Bool → NextPhase ℕ V
      by_depth b full = cond b (unless_full kind u full u.above None Set) (quiet (MakeLeaf u))

      each : (b : Bool) → Alike (cond b (unless_full kind s s.full s.above None Set) (quiet (MakeLeaf s))) (cond b (unless_full kind u s.full u.above None Set) (quiet (MakeLeaf u)))
      each true = full_alike kind s u s.full s.above u.above None None Set Set x x.site.above refl refl
      each false = quiet_alike (MakeLeaf s) (MakeLeaf u) (u, refl, x, f)

  absent_alike : (kind : Kind V) (s : Site C) (u : Site ℕ) → ReadAlike order number s u → u.full ≡ s.full → Alike (absent kind s) (absent kind u)
  absent_alike kind s u x f = by (adds kind) where
    by : (b : Bool) → Alike (cond b (missing kind s) (answered (absent_reply kind))) (cond b (missing kind u) (answered (absent_reply kind)))
    by true = missing_alike kind s u x f
    by false = answered_alike (absent_reply kind)

  set_alike : (s : Site C) (u : Site ℕ) (r : Reply V) → SiteAlike order number s u
      → Alike (quiet (UpgradeHere (record { at = s.at; byte = s.byte; change = Set }) r)) (quiet (UpgradeHere (record { at = u.at; byte = u.byte; change = Set }) r))
  set_alike s u r x = quiet_alike (UpgradeHere (record { at = s.at; byte = s.byte; change = Set }) r) (UpgradeHere (record { at = u.at; byte = u.byte; change = Set }) r)
      (record { at = u.at; byte = u.byte; change = Set }, refl, record { at = x.at; byte = x.byte; change = refl })

  confirm_alike : (at : Stamp C) (a : Stamp ℕ) (r : Reply V) → StampAlike order number at a → Alike (quiet (Confirm at r)) (quiet (Confirm a r))
  confirm_alike at a r x = quiet_alike (Confirm at r) (Confirm a r) (a, refl, x)

  replaced_alike : (s : Site C) (u : Site ℕ) (b : Bool) (r : Reply V) → SiteAlike order number s u → Alike (replaced s b r) (replaced u b r)
  replaced_alike s u true r x = confirm_alike s.at u.at r x.at
  replaced_alike s u false r x = set_alike s u r x

  -- a value's going
  out_alike : (s : Site C) (u : Site ℕ) (p : Parent C) (q : Parent ℕ) (r : Reply V) → SiteAlike order number s u → ParentAlike order number p q → Alike (quiet (UpgradeAbove (both p s Unlink) r)) (quiet (UpgradeAbove (both q u Unlink) r))
  out_alike s u p q r x y = quiet_alike (UpgradeAbove (both p s Unlink) r) (UpgradeAbove (both q u Unlink) r) (both q u Unlink, refl, record { top = refl; above = y; at = x.at; change = refl })

  last_alike : (s : Site C) (u : Site ℕ) (p : Parent C) (q : Parent ℕ) (top : Option (Parent C)) (o : Option (Parent ℕ)) (r : Reply V) → ReadAlike order number s u → ParentAlike order number p q → TopAlike order number top o
      → Alike (last_out s p top r) (last_out u q o r)
  last_alike s u p q None o r x y a = alike_to _ (last_out u q None r) _ (ap (λ z. last_out u q z r) a) (out_alike s u p q r x.site y)
  last_alike s u p q (Some top) o r x y a =
      alike_to _ (last_out u q (Some a.0) r) _ (ap (λ z. last_out u q z r) a.1)
      (alike_to _ (by_read p.count p.form) _ (ap (λ z. by_read z q.form) y.count ∙ ap (λ z. by_read p.count z) y.form) (each (p.count == 2) (ltb 2 p.count && shrinks p.form p.count)))
    where
      by_read : ℕ → NodeType → NextPhase ℕ V
      by_read n f = cond (n == 2) (quiet (UpgradeTop a.0 (both q u Collapse) r)) (cond (ltb 2 n && shrinks f n) (quiet (MakeLesser u q (Some a.0) r)) (quiet (UpgradeAbove (both q u Unlink) r)))

      each : (b c : Bool) → Alike (cond b (quiet (UpgradeTop top (both p s Collapse) r)) (cond c (quiet (MakeLesser s p (Some top) r)) (quiet (UpgradeAbove (both p s Unlink) r))))
          (cond b (quiet (UpgradeTop a.0 (both q u Collapse) r)) (cond c (quiet (MakeLesser u q (Some a.0) r)) (quiet (UpgradeAbove (both q u Unlink) r))))
      each true c = quiet_alike (UpgradeTop top (both p s Collapse) r) (UpgradeTop a.0 (both q u Collapse) r) (a.0, both q u Collapse, refl, a.2, record { top = refl; above = y; at = x.site.at; change = refl })
      each false true = quiet_alike (MakeLesser s p (Some top) r) (MakeLesser u q (Some a.0) r) (u, q, Some a.0, refl, x, y, (a.0, refl, a.2))
      each false false = out_alike s u p q r x.site y

  taken_alike : (s : Site C) (u : Site ℕ) (above : Option (Over C)) (o : Option (Over ℕ)) (r : Reply V) → ReadAlike order number s u → AboveAlike order number above o → Alike (taken_out s above r) (taken_out u o r)
  taken_alike s u None o r x a = alike_to _ (taken_out u None r) (taken_out u o r) (ap (λ z. taken_out u z r) a) (set_alike s u r x.site)
  taken_alike s u (Some w) o r x a =
      alike_to _ (taken_out u (Some a.0) r) (taken_out u o r) (ap (λ z. taken_out u z r) a.1)
      (alike_to _ (by_read s.count s.form) _ (ap (λ z. by_read z u.form) x.count ∙ ap (λ z. by_read s.count z) x.site.form) (each (s.count == 1) (shrinks s.form s.count)))
    where
      by_read : ℕ → NodeType → NextPhase ℕ V
      by_read n f = cond (n == 1) (last_out u a.0.near a.0.far r) (cond (shrinks f n) (quiet (MakeLesser u a.0.near None r)) (quiet (UpgradeHere (set_at u) r)))

      each : (b c : Bool) → Alike (cond b (last_out s w.near w.far r) (cond c (quiet (MakeLesser s w.near None r)) (quiet (UpgradeHere (set_at s) r))))
          (cond b (last_out u a.0.near a.0.far r) (cond c (quiet (MakeLesser u a.0.near None r)) (quiet (UpgradeHere (set_at u) r))))
      each true c = last_alike s u w.near a.0.near w.far a.0.far r x a.2.near a.2.far
      each false true = quiet_alike (MakeLesser s w.near None r) (MakeLesser u a.0.near None r) (u, a.0.near, None, refl, x, a.2.near, refl)
      each false false = set_alike s u r x.site

  emptied_alike : (s : Site C) (u : Site ℕ) (r : Reply V) → ReadAlike order number s u → Alike (emptied s r) (emptied u r)
  emptied_alike s u r x = taken_alike s u s.above u.above r x x.site.above

  -- no copy failed
  copied : (always : Bool) (t : NextPhase C V) → IsUnrefused t.report.outcome → CopyFailed always t → ⊥
  copied always t n x =
      let e : refusal.Count ≡ refusal.Exhausted = n refusal.Count (ap (λ z. z.report.outcome) x.1) in
      cc

  asked_alike : (always : Bool) (s : Site C) (u : Site ℕ) (v : V) (t : NextPhase C V) → ReadAlike order number s u → IsUnrefused t.report.outcome → IsAsked always s v t → Alike t (asked u v)
  asked_alike always s u v t x n (inl e) = alike_at t _ (asked u v) e (asking_alike (AskOld s v) (AskOld u v) (Some v) (u, refl, x))
  asked_alike always s u v t x n (inr f) = absurd (copied always t n f)

  -- at a value that stands both sides put the call's value, or ask, unless a copy was refused
  pub old_alike : (always : Bool) (same : V → V → Bool) (kind : Kind V) (new : Option V) (s : Site C) (u : Site ℕ) (v : V) (t : NextPhase C V) → ReadAlike order number s u → IsUnrefused t.report.outcome → IsAtOld always same kind new s v t
      → Alike t (at_old same kind new u v)
  old_alike always same Insert new s u v t x n e = alike_at t _ _ e (replaced_alike s u (is_same same v new) (reply.Insert (Some v)) x.site)
  old_alike always same _ new s u v t x n e = asked_alike always s u v t x n e

  added_alike : (always : Bool) (same : V → V → Bool) (kind : Kind V) (new : Option V) (s : Site C) (u : Site ℕ) (above : Option (Over C)) (o : Option (Over ℕ)) (v : V) (t : NextPhase C V)
      → ReadAlike order number s u → AboveAlike order number above o → IsUnrefused t.report.outcome → IsAdded always same kind new s above v t → Alike t (added same kind new u o v)
  added_alike always same kind new s u None o v t x a n e = alike_to t (added same kind new u None v) (added same kind new u o v) (ap (λ z. added same kind new u z v) a) (old_alike always same kind new s u v t x n e)
  added_alike always same kind new s u (Some p) o v t x a n e =
      alike_to t (added same kind new u (Some a.0) v) (added same kind new u o v) (ap (λ z. added same kind new u z v) a.1)
      (alike_at t _ _ e (quiet_alike (CheckOld p.near.stamp s v) (CheckOld a.0.near.stamp u v) (a.0.near.stamp, u, refl, a.2.near.stamp, x)))

  exchanged_alike : (always : Bool) (same : V → V → Bool) (new : Option V) (s : Site C) (u : Site ℕ) (v : V) (t : NextPhase C V) → ReadAlike order number s u → IsUnrefused t.report.outcome → IsExchanged always same new s v t
      → Alike t (exchanged same new u v)
  exchanged_alike always same None s u v t x n e = alike_at t _ _ e (emptied_alike s u (reply.Exchange (Ok None)) x)
  exchanged_alike always same (Some w) s u v t x n (inl e) = alike_at t _ _ e (replaced_alike s u (same v w) (reply.Exchange (Ok (Some w))) x.site)
  exchanged_alike always same (Some w) s u v t x n (inr f) = absurd (copied always t n f)

  compared_alike : (always : Bool) (same : V → V → Bool) (b : Bool) (new : Option V) (s : Site C) (u : Site ℕ) (v : V) (t : NextPhase C V) → ReadAlike order number s u → IsUnrefused t.report.outcome → IsCompared b always same new s v t
      → Alike t (cond b (exchanged same new u v) (quiet (Confirm u.at (reply.Exchange (Err (Some v))))))
  compared_alike always same true new s u v t x n e = exchanged_alike always same new s u v t x n (e.0 refl)
  compared_alike always same false new s u v t x n e = alike_at t _ _ (e.1 refl) (confirm_alike s.at u.at (reply.Exchange (Err (Some v))) x.site.at)

  present_alike : (always : Bool) (same : V → V → Bool) (kind : Kind V) (new : Option V) (s : Site C) (u : Site ℕ) (v : V) (t : NextPhase C V) → ReadAlike order number s u → IsUnrefused t.report.outcome → IsPresent always same kind new s v t
      → Alike t (present same kind new u v)
  present_alike always same Get new s u v t x n e = alike_at t _ _ e (answered_alike (reply.Get (Some v)))
  present_alike always same Insert new s u v t x n e = added_alike always same Insert new s u s.above u.above v t x x.site.above n e
  present_alike always same Remove new s u v t x n e = alike_at t _ _ e (emptied_alike s u (reply.Remove (Some v)) x)
  present_alike always same ComputePresent new s u v t x n e = asked_alike always s u v t x n e
  present_alike always same ComputeInsert new s u v t x n e = added_alike always same ComputeInsert new s u s.above u.above v t x x.site.above n e
  present_alike always same (Exchange old) new s u v t x n e = compared_alike always same (same v old) new s u v t x n e

  -- after a check that succeeded both sides go on alike from the child that was read, unless a copy was refused
  pub checked_alike : (always : Bool) (same : V → V → Bool) (kind : Kind V) (new : Option V) (s : Site C) (c : Child C V) (u : Site ℕ) (d : Child ℕ V) (t : NextPhase C V) → SiteAlike order number s u → SeesAlike order number s c u d
      → IsUnrefused t.report.outcome → IsChecked always same kind new s c t → Alike t (checked same kind new u d)
  checked_alike always same kind new s child.Blank u d t x y n e =
      alike_to t (checked same kind new u child.Blank) (checked same kind new u d) (ap (checked same kind new u) y.hangs) (alike_at t _ _ e (absent_alike kind s u (record { site = x; count = y.count }) (y.full refl)))
  checked_alike always same kind new s (child.Node c) u d t x y n e =
      alike_to t (checked same kind new u (child.Node y.hangs.0)) (checked same kind new u d) (ap (checked same kind new u) y.hangs.1) (alike_at t _ _ e (down_alike (adds kind) s u s.above u.above c y.hangs.0 (record { site = x; count = y.count }) x.above y.hangs.2))
  checked_alike always same kind new s (child.Value v) u d t x y n e =
      alike_to t (checked same kind new u (child.Value v)) (checked same kind new u d) (ap (checked same kind new u) y.hangs) (present_alike always same kind new s u v t (record { site = x; count = y.count }) n e)

  -- where the key's way parts within a prefix both sides make a node there, or both answer
  pub miss_alike : (kind : Kind V) (p : Parent C) (q : Parent ℕ) (at : Stamp C) (a : Stamp ℕ) (common byte : ℕ) → ParentAlike order number p q → StampAlike order number at a → Alike (after_miss kind p at common byte) (after_miss kind q a common byte)
  miss_alike kind p q at a common byte x y = by (adds kind) where
    by : (b : Bool) → Alike (cond b (quiet (MakeTop p at common byte)) (answered (absent_reply kind))) (cond b (quiet (MakeTop q a common byte)) (answered (absent_reply kind)))
    by true = quiet_alike (MakeTop p at common byte) (MakeTop q a common byte) (q, a, refl, x, y)
    by false = answered_alike (absent_reply kind)

  -- the closure's answer
  pub record GivenAlike (new' : Option V) (t : NextPhase C V) (w : Option V × NextPhase ℕ V) : Type 0 where
    pub given : w.0 ≡ new'
    pub next_phase : Alike t w.1

  some_given : (always : Bool) (same : V → V → Bool) (s : Site C) (u : Site ℕ) (v y : V) (t : NextPhase C V) → ReadAlike order number s u → IsUnrefused t.report.outcome
      → (t ≡ replaced s (same v y) (reply.ComputePresent (Some (v, Some y)))) ⊎ CopyFailed always t → Alike t (replaced u (same v y) (reply.ComputePresent (Some (v, Some y))))
  some_given always same s u v y t x n (inl e) = alike_at t _ _ e (replaced_alike s u (same v y) (reply.ComputePresent (Some (v, Some y))) x.site)
  some_given always same s u v y t x n (inr f) = absurd (copied always t n f)

  -- a closure's answer about a value that stands gives both sides the same new value and the same next phase
  pub given_alike : (always : Bool) (same : V → V → Bool) (kind : Kind V) (s : Site C) (u : Site ℕ) (v : V) (answer : Option (Option V)) (new new' : Option V) (t : NextPhase C V) → ReadAlike order number s u → IsUnrefused t.report.outcome
      → IsGiven always same kind s v answer new new' t → GivenAlike new' t (given_old same kind u v answer new)
  given_alike always same kind s u v None new new' t x n e = record { given = sym e.0; next_phase = asked_alike always s u v t x n e.1 }
  given_alike always same ComputeInsert s u v (Some None) new new' t x n e = record { given = sym e.0; next_phase = asked_alike always s u v t x n e.1 }
  given_alike always same ComputeInsert s u v (Some (Some y)) new new' t x n e = record { given = sym e.0; next_phase = alike_at t _ _ e.1 (replaced_alike s u (same v y) (reply.ComputeInsert (Some v)) x.site) }
  given_alike always same Get s u v (Some None) new new' t x n e = record { given = sym e.0; next_phase = alike_at t _ _ e.1 (emptied_alike s u (reply.ComputePresent (Some (v, None))) x) }
  given_alike always same Insert s u v (Some None) new new' t x n e = record { given = sym e.0; next_phase = alike_at t _ _ e.1 (emptied_alike s u (reply.ComputePresent (Some (v, None))) x) }
  given_alike always same Remove s u v (Some None) new new' t x n e = record { given = sym e.0; next_phase = alike_at t _ _ e.1 (emptied_alike s u (reply.ComputePresent (Some (v, None))) x) }
  given_alike always same ComputePresent s u v (Some None) new new' t x n e = record { given = sym e.0; next_phase = alike_at t _ _ e.1 (emptied_alike s u (reply.ComputePresent (Some (v, None))) x) }
  given_alike always same (Exchange old) s u v (Some None) new new' t x n e = record { given = sym e.0; next_phase = alike_at t _ _ e.1 (emptied_alike s u (reply.ComputePresent (Some (v, None))) x) }
  given_alike always same Get s u v (Some (Some y)) new new' t x n e = record { given = sym e.0; next_phase = some_given always same s u v y t x n e.1 }
  given_alike always same Insert s u v (Some (Some y)) new new' t x n e = record { given = sym e.0; next_phase = some_given always same s u v y t x n e.1 }
  given_alike always same Remove s u v (Some (Some y)) new new' t x n e = record { given = sym e.0; next_phase = some_given always same s u v y t x n e.1 }
  given_alike always same ComputePresent s u v (Some (Some y)) new new' t x n e = record { given = sym e.0; next_phase = some_given always same s u v y t x n e.1 }
  given_alike always same (Exchange old) s u v (Some (Some y)) new new' t x n e = record { given = sym e.0; next_phase = some_given always same s u v y t x n e.1 }

  -- a closure's answer about an absent key gives both sides the same new value and the same next phase
  pub new_alike : (plan : Plan C) (y : Plan ℕ) (answer : Option (Option V)) (new new' : Option V) (t : NextPhase C V) → PlanAlike order number plan y → IsGivenNew plan answer new new' t → GivenAlike new' t (given_new y answer new)
  new_alike plan y (Some (Some v)) new new' t x e = record { given = sym e.0; next_phase = alike_at t _ _ e.1 (started_alike plan y (reply.ComputeInsert None) x) }
  new_alike plan y (Some None) new new' t x e = record { given = sym e.0; next_phase = alike_at t _ _ e.1 (asking_alike (AskNew plan) (AskNew y) None (y, refl, x)) }
  new_alike plan y None new new' t x e = record { given = sym e.0; next_phase = alike_at t _ _ e.1 (asking_alike (AskNew plan) (AskNew y) None (y, refl, x)) }

  -- the change to a greater node, with a leaf or without, is the same on both sides
  pub greater_alike : (s : Site C) (u : Site ℕ) (leaf : Option C) (l : Option ℕ) (c : C) (n : ℕ) → SiteAlike order number s u → MadeAlike order number leaf l → Named order number c n → ReplacementAlike order number (greater s leaf c) (greater u l n)
  greater_alike s u None l c n x m y = (n, ap (λ z. greater u z n) m, y)
  greater_alike s u (Some leaf) l c n x m y = (n, m.0, ap (λ z. greater u z n) m.1 ∙ ap (λ z. GrowLink n m.0 z) x.byte, y, m.2)

  out : (two : ParentChange C) (u : ParentChange ℕ) (r : Reply V) → ParentChangeAlike order number two u → Alike (decided (Obsolete two.at.node None two.above.stamp.node r)) (decided (Obsolete u.at.node None u.above.stamp.node r))
  out two u r x = decided_alike (Obsolete two.at.node None two.above.stamp.node r) (Obsolete u.at.node None u.above.stamp.node r) (u.at.node, None, u.above.stamp.node, refl, x.at.node, refl, x.above.stamp.node)

  top_alike : (two : ParentChange C) (u : ParentChange ℕ) (r : Reply V) → ParentChangeAlike order number two u → (top : Option (Parent C)) (o : Option (Parent ℕ)) → TopAlike order number top o → Alike (after_top two r top) (after_top u r o)
  top_alike two u r x None o a = alike_to _ (after_top u r None) _ (ap (after_top u r) a) (decided_alike (Unlock two.above.stamp.node r) (Unlock u.above.stamp.node r) (u.above.stamp.node, refl, x.above.stamp.node))
  top_alike two u r x (Some top) o a =
      alike_to _ (after_top u r (Some a.0)) _ (ap (after_top u r) a.1)
      (decided_alike (Obsolete two.at.node (Some two.above.stamp.node) top.stamp.node r) (Obsolete u.at.node (Some u.above.stamp.node) a.0.stamp.node r)
      (u.at.node, Some u.above.stamp.node, a.0.stamp.node, refl, x.at.node, (u.above.stamp.node, refl, x.above.stamp.node), a.2.stamp.node))

  -- the name of the node above both is the same on both sides, or neither has one
  pub node_alike : (top : Option (Parent C)) (o : Option (Parent ℕ)) → TopAlike order number top o → MadeAlike order number (node_of top) (node_of o)
  node_alike None o a = ap node_of a
  node_alike (Some top) o a = (a.0.stamp.node, ap node_of a.1, a.2.stamp.node)

  -- after a node was handed over both sides mark the same next one, or let the last lock go
  pub retired_alike : (next : Option C) (o : Option ℕ) (p : C) (q : ℕ) (r : Reply V) → MadeAlike order number next o → Named order number p q → Alike (after_retire next p r) (after_retire o q r)
  retired_alike None o p q r a y = alike_to _ (after_retire None q r) _ (ap (λ z. after_retire z q r) a) (quiet_alike (Unlock p r) (Unlock q r) (q, refl, y))
  retired_alike (Some c) o p q r a y =
      alike_to _ (after_retire (Some a.0) q r) _ (ap (λ z. after_retire z q r) a.1) (quiet_alike (Obsolete c None p r) (Obsolete a.0 None q r) (a.0, None, q, refl, a.2, refl, y))

  -- after a change of two nodes both sides mark the same node next, or unlock the same one
  pub change_alike : (two : ParentChange C) (u : ParentChange ℕ) (r : Reply V) → ParentChangeAlike order number two u → (d : Replacement C) (y : Replacement ℕ) → ReplacementAlike order number d y → Alike (after_change two r d) (after_change u r y)
  change_alike two u r x (Shrink c) y e = alike_to _ (after_change u r (Shrink e.0)) _ (ap (after_change u r) e.1) (out two u r x)
  change_alike two u r x Collapse y e = alike_to _ (after_change u r Collapse) _ (ap (after_change u r) e) (top_alike two u r x two.top u.top x.top)
  change_alike two u r x (ShrinkAbove c) y e = alike_to _ (after_change u r (ShrinkAbove e.0)) _ (ap (after_change u r) e.1) (top_alike two u r x two.top u.top x.top)
  change_alike two u r x Unlink y e = alike_to _ (after_change u r Unlink) _ (ap (after_change u r) e) (out two u r x)
  change_alike two u r x (Grow c) y e = alike_to _ (after_change u r (Grow e.0)) _ (ap (after_change u r) e.1) (out two u r x)
  change_alike two u r x (GrowLink c leaf byte) y e = alike_to _ (after_change u r (GrowLink e.0 e.1 byte)) _ (ap (after_change u r) e.2) (out two u r x)
  change_alike two u r x (Split top leaf common byte) y e =
      alike_to _ (after_change u r (Split e.0 e.1 common byte)) _ (ap (after_change u r) e.2)
      (decided_alike (UnlockBelow two.at.node two.above.stamp.node r) (UnlockBelow u.at.node u.above.stamp.node r) (u.at.node, u.above.stamp.node, refl, x.at.node, x.above.stamp.node))

  unwound_alike : (root : C) (n : ℕ) (e : Option Refusal) → Named order number root n → Alike (unwound root e) (unwound n e)
  unwound_alike root n None x = again_alike root n x
  unwound_alike root n (Some e) x = refused_alike e

  -- after a lock of a given-up attempt was let go both sides let the same next one go, or end alike
  pub left_alike : (root : C) (n : ℕ) (next : Option C) (o : Option ℕ) (e : Option Refusal) → Named order number root n → MadeAlike order number next o → Alike (after_unwind root next e) (after_unwind n o e)
  left_alike root n None o e x a = alike_to _ (after_unwind n None e) _ (ap (λ z. after_unwind n z e) a) (unwound_alike root n e x)
  left_alike root n (Some c) o e x a = alike_to _ (after_unwind n (Some a.0) e) _ (ap (λ z. after_unwind n z e) a.1) (quiet_alike (Unwind c None e) (Unwind a.0 None e) (a.0, None, refl, a.2, refl))

  -- an attempt that is given up lets the same node above go on both sides, or ends alike
  pub given_up_alike : (root : C) (n : ℕ) (top : Option (Parent C)) (o : Option (Parent ℕ)) (e : Option Refusal) → Named order number root n → TopAlike order number top o → Alike (given_up root top e) (given_up n o e)
  given_up_alike root n None o e x a = alike_to _ (given_up n None e) _ (ap (λ z. given_up n z e) a) (unwound_alike root n e x)
  given_up_alike root n (Some top) o e x a =
      alike_to _ (given_up n (Some a.0) e) _ (ap (λ z. given_up n z e) a.1) (quiet_alike (Unwind top.stamp.node None e) (Unwind a.0.stamp.node None e) (a.0.stamp.node, None, refl, a.2.stamp.node, refl))
