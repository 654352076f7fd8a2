-- A call that may still hand nodes over keeps a place in the bag for each from step to step, and a reading call needs none.
use Rattle.std.proofs.Common.{◌≡◌, ◌+◌, ◌≤◌, ℕ, suc, ◌==◌, Bool, true, false, List, refl, sym, ap, ◌∙◌, subst, inl, inr, ◌⊎◌, arith}
use Rattle.std.specs.Prelude.{Option, None, Some, Result, Ok, Err, cond, ltb, ◌&&◌}
use Rattle.judge.specs.declared.journal.Call.{Call}
use Rattle.judge.specs.declared.journal.Reply.{Reply}
use Rattle.judge.specs.Answer.{leaves}
use Rattle.congee.specs.declared.forms.base_node.NodeType.{NodeType}
use Rattle.congee.specs.declared.forms.child.Child.{Child}
use Rattle.congee.specs.declared.forms.child.Child.TheVariants as child
use Rattle.congee.specs.declared.protocol.store.Reading.{Reading}
use Rattle.congee.specs.declared.protocol.store.Reading.TheVariants.{Differs, Fits, Uncopied}
use Rattle.congee.specs.declared.protocol.store.Refusal.{Refusal}
use Rattle.congee.specs.declared.protocol.store.Refusal.TheVariants as refusal
use Rattle.congee.specs.declared.protocol.store.Stamp.{Stamp}
use Rattle.congee.specs.declared.protocol.store.Upgrade.{Upgrade}
use Rattle.congee.specs.declared.protocol.store.Upgrade.TheVariants.{Locked, Failed, Exhausted}
use Rattle.congee.specs.declared.protocol.phase.Kind.{Kind}
use Rattle.congee.specs.declared.protocol.phase.Kind.TheVariants.{Get, Insert, Remove, ComputePresent, ComputeInsert, Exchange}
use Rattle.congee.specs.declared.protocol.phase.Parent.{Parent}
use Rattle.congee.specs.declared.protocol.phase.Above.{Above as Over}
use Rattle.congee.specs.declared.protocol.phase.Site.{Site}
use Rattle.congee.specs.declared.protocol.phase.NodeChange.{NodeChange}
use Rattle.congee.specs.declared.protocol.phase.Placement.{Placement}
use Rattle.congee.specs.declared.protocol.phase.Replacement.{Replacement}
use Rattle.congee.specs.declared.protocol.phase.Replacement.TheVariants.{Unlink, Grow, GrowLink, Split, Shrink, Collapse, ShrinkAbove}
use Rattle.congee.specs.declared.protocol.phase.ParentChange.{ParentChange}
use Rattle.congee.specs.declared.protocol.phase.Plan.{Plan}
use Rattle.congee.specs.declared.protocol.phase.Plan.TheVariants.{Here, Above}
use Rattle.congee.specs.declared.protocol.phase.Phase.{Phase}
use Rattle.congee.specs.declared.protocol.phase.Phase.TheVariants.{New, Version, Read, Check, CheckUncopied, CheckMiss, CheckDown, CheckOld, MakeLeaf, MakeGreater, MakeTop, MakeBeside, MakeLesser, AskOld, AskNew, Confirm, CheckAbove, UpgradeHere, ChangeHere, UpgradeTop, UpgradeAbove, UpgradeBelow, ChangeAbove, Obsolete, Retire, UnlockBelow, Unlock, Unwind, Scan, Ended}
use Rattle.congee.specs.declared.protocol.next_phase.NextPhase.{NextPhase}
use Rattle.congee.specs.Heap.{Node, is_taken}
use Rattle.congee.specs.Notes.{Note}
use Rattle.congee.specs.protocol.Protocol.{Known, FitsAbove, Settles}
use Rattle.congee.specs.protocol.Steps.{PhaseStepped, quiet, again, answered, refused, adds, asks_new, absent_reply, after_version, after_read, down, started, ready, plan_here, unless_full, missing, absent, CopyFailed, IsAsked, replaced, last_out, taken_out, shrinks, is_same, IsAtOld, IsAdded, IsExchanged, IsCompared, IsPresent, IsChecked, IsIf, after_miss, IsGiven, IsGivenNew, MadeLeaf, MadeGreater, MadeTop, MadeBeside, MadeLesser, UpgradedHere, UpgradedTop, UpgradedAbove, UpgradedBelow, unwound, given_up, after_retire, after_unwind}
use Rattle.joint.specs.engine.Sound.{most_left, IsSecured}

-- the call has not taken a node out of the tree that it has yet to hand over
abbrev pub OwesNone : {C V : Type 0} → Phase C V → Type 0
OwesNone (Obsolete n next p r) = ⊥
OwesNone (Retire n next p r) = ⊥
OwesNone _ = Unit {0}

module _ {C V : Type 0} where
  abbrev Light : NextPhase C V → Type 0
  Light t = OwesNone t.phase

  at : (t u : NextPhase C V) → t ≡ u → Light u → Light t
  at t u e l = subst Light (sym e) l

  cond_light : (b : Bool) (t u : NextPhase C V) → Light t → Light u → Light (cond b t u)
  cond_light true t u x y = x
  cond_light false t u x y = y

  version_light : (root : C) (above : Option (Over C)) (n : C) (v : Option ℕ) (t : NextPhase C V) → t ≡ after_version root above n v → Light t
  version_light root above n None t e = at t _ e tt
  version_light root above n (Some v) t e = at t _ e tt

  read_light : (root : C) (above : Option (Over C)) (s : Stamp C) (r : Reading C V) → Light (after_read root above s r)
  read_light root None s (Differs common byte) = tt
  read_light root (Some u) s (Differs common byte) = tt
  read_light root None s (Fits depth form x) = tt
  read_light root (Some u) s (Fits depth form x) = tt
  read_light root None s Uncopied = tt
  read_light root (Some u) s Uncopied = tt

  down_light : (b : Bool) (s : Site C) (above : Option (Over C)) (c : C) (t : NextPhase C V) → t ≡ down b s above c → Light t
  down_light false s above c t e = at t _ e tt
  down_light true s None c t e = at t _ e tt
  down_light true s (Some p) c t e = at t _ e tt

  started_light : (plan : Plan C) (r : Reply V) → Light (started plan r)
  started_light (Here None one) r = tt
  started_light (Here (Some p) one) r = tt
  started_light (Above two) r = tt

  ready_light : (kind : Kind V) (plan : Plan C) → Light (ready kind plan)
  ready_light kind plan = cond_light (asks_new kind) _ _ tt (started_light plan (absent_reply kind))

  full_light : (kind : Kind V) (s : Site C) (full : Bool) (above : Option (Over C)) (leaf : Option C) (change : Placement C) → Light (unless_full kind s full above leaf change)
  full_light kind s true (Some p) leaf change = tt
  full_light kind s true None leaf change = ready_light kind (plan_here s change)
  full_light kind s false above leaf change = ready_light kind (plan_here s change)

  missing_light : (kind : Kind V) (s : Site C) → Light (missing kind s)
  missing_light kind s = cond_light (s.depth == 7) _ _ (full_light kind s s.full s.above None _) tt

  absent_light : (kind : Kind V) (s : Site C) → Light (absent kind s)
  absent_light kind s = cond_light (adds kind) _ _ (missing_light kind s) tt

  uncounted_light : (always : Bool) (t : NextPhase C V) → CopyFailed always t → Light t
  uncounted_light always t u = at t (refused _) u.1 tt

  asked_light : (always : Bool) (s : Site C) (v : V) (t : NextPhase C V) → IsAsked always s v t → Light t
  asked_light always s v t (inl e) = at t _ e tt
  asked_light always s v t (inr u) = uncounted_light always t u

  replaced_light : (s : Site C) (b : Bool) (r : Reply V) → Light (replaced s b r)
  replaced_light s b r = cond_light b _ _ tt tt

  last_light : (s : Site C) (p : Parent C) (top : Option (Parent C)) (r : Reply V) → Light (last_out s p top r)
  last_light s p None r = tt
  last_light s p (Some g) r = cond_light (p.count == 2) _ _ tt (cond_light (ltb 2 p.count && shrinks p.form p.count) _ _ tt tt)

  taken_light : (s : Site C) (above : Option (Over C)) (r : Reply V) → Light (taken_out s above r)
  taken_light s None r = tt
  taken_light s (Some u) r = cond_light (s.count == 1) _ _ (last_light s u.near u.far r) (cond_light (shrinks s.form s.count) _ _ tt tt)

  old_light : (always : Bool) (same : V → V → Bool) (kind : Kind V) (new : Option V) (s : Site C) (v : V) (t : NextPhase C V) → IsAtOld always same kind new s v t → Light t
  old_light always same Insert new s v t g = at t _ g (replaced_light s (is_same same v new) _)
  old_light always same Get new s v t g = asked_light always s v t g
  old_light always same Remove new s v t g = asked_light always s v t g
  old_light always same ComputePresent new s v t g = asked_light always s v t g
  old_light always same ComputeInsert new s v t g = asked_light always s v t g
  old_light always same (Exchange old) new s v t g = asked_light always s v t g

  added_light : (always : Bool) (same : V → V → Bool) (kind : Kind V) (new : Option V) (s : Site C) (above : Option (Over C)) (v : V) (t : NextPhase C V) → IsAdded always same kind new s above v t → Light t
  added_light always same kind new s None v t g = old_light always same kind new s v t g
  added_light always same kind new s (Some p) v t g = at t _ g tt

  exchanged_light : (always : Bool) (same : V → V → Bool) (new : Option V) (s : Site C) (v : V) (t : NextPhase C V) → IsExchanged always same new s v t → Light t
  exchanged_light always same None s v t g = at t _ g (taken_light s s.above _)
  exchanged_light always same (Some w) s v t (inl e) = at t _ e (replaced_light s (same v w) _)
  exchanged_light always same (Some w) s v t (inr u) = uncounted_light always t u

  compared_light : (found always : Bool) (same : V → V → Bool) (new : Option V) (s : Site C) (v : V) (t : NextPhase C V) → IsCompared found always same new s v t → Light t
  compared_light true always same new s v t g = exchanged_light always same new s v t (g.0 refl)
  compared_light false always same new s v t g = at t _ (g.1 refl) tt

  present_light : (always : Bool) (same : V → V → Bool) (kind : Kind V) (new : Option V) (s : Site C) (v : V) (t : NextPhase C V) → IsPresent always same kind new s v t → Light t
  present_light always same Get new s v t g = at t _ g tt
  present_light always same Insert new s v t g = added_light always same Insert new s s.above v t g
  present_light always same Remove new s v t g = at t _ g (taken_light s s.above _)
  present_light always same ComputePresent new s v t g = asked_light always s v t g
  present_light always same ComputeInsert new s v t g = added_light always same ComputeInsert new s s.above v t g
  present_light always same (Exchange old) new s v t g = compared_light (same v old) always same new s v t g

  checked_light : (always : Bool) (same : V → V → Bool) (kind : Kind V) (new : Option V) (s : Site C) (c : Child C V) (t : NextPhase C V) → IsChecked always same kind new s c t → Light t
  checked_light always same kind new s child.Blank t g = at t _ g (absent_light kind s)
  checked_light always same kind new s (child.Node c) t g = down_light (adds kind) s s.above c t g
  checked_light always same kind new s (child.Value v) t g = present_light always same kind new s v t g

  if_light : (taken : Bool) (root : C) (Then : NextPhase C V → Type 0) (t : NextPhase C V) → ((u : NextPhase C V) → Then u → Light u) → IsIf taken root Then t → Light t
  if_light true root Then t f g = f t (g.0 refl)
  if_light false root Then t f g = at t _ (g.1 refl) tt

  if_this : (taken : Bool) (root : C) (u t : NextPhase C V) → Light u → IsIf taken root (λ x. x ≡ u) t → Light t
  if_this true root u t l g = at t u (g.0 refl) l
  if_this false root u t l g = at t _ (g.1 refl) tt

  miss_light : (kind : Kind V) (p : Parent C) (s : Stamp C) (common byte : ℕ) → Light (after_miss kind p s common byte)
  miss_light kind p s common byte = cond_light (adds kind) (quiet (MakeTop p s common byte)) (answered (absent_reply kind)) tt tt

  either_light : (always : Bool) (s : Site C) (b : Bool) (r : Reply V) (t : NextPhase C V) → (t ≡ replaced s b r) ⊎ CopyFailed always t → Light t
  either_light always s b r t (inl e) = at t _ e (replaced_light s b r)
  either_light always s b r t (inr u) = uncounted_light always t u

  given_light : (always : Bool) (same : V → V → Bool) (kind : Kind V) (s : Site C) (v : V) (answer : Option (Option V)) (new new' : Option V) (t : NextPhase C V) → IsGiven always same kind s v answer new new' t → Light t
  given_light always same kind s v None new new' t g = asked_light always s v t g.1
  given_light always same ComputeInsert s v (Some None) new new' t g = asked_light always s v t g.1
  given_light always same ComputeInsert s v (Some (Some x)) new new' t g = at t _ g.1 (replaced_light s (same v x) _)
  given_light always same Get s v (Some None) new new' t g = at t _ g.1 (taken_light s s.above _)
  given_light always same Insert s v (Some None) new new' t g = at t _ g.1 (taken_light s s.above _)
  given_light always same Remove s v (Some None) new new' t g = at t _ g.1 (taken_light s s.above _)
  given_light always same ComputePresent s v (Some None) new new' t g = at t _ g.1 (taken_light s s.above _)
  given_light always same (Exchange old) s v (Some None) new new' t g = at t _ g.1 (taken_light s s.above _)
  given_light always same Get s v (Some (Some x)) new new' t g = either_light always s (same v x) _ t g.1
  given_light always same Insert s v (Some (Some x)) new new' t g = either_light always s (same v x) _ t g.1
  given_light always same Remove s v (Some (Some x)) new new' t g = either_light always s (same v x) _ t g.1
  given_light always same ComputePresent s v (Some (Some x)) new new' t g = either_light always s (same v x) _ t g.1
  given_light always same (Exchange old) s v (Some (Some x)) new new' t g = either_light always s (same v x) _ t g.1

  new_light : (plan : Plan C) (answer : Option (Option V)) (new new' : Option V) (t : NextPhase C V) → IsGivenNew plan answer new new' t → Light t
  new_light plan (Some (Some x)) new new' t g = at t _ g.1 (started_light plan _)
  new_light plan (Some None) new new' t g = at t _ g.1 tt
  new_light plan None new new' t g = at t _ g.1 tt

  unwound_light : (root : C) (e : Option Refusal) (t : NextPhase C V) → t ≡ unwound root e → Light t
  unwound_light root None t q = at t _ q tt
  unwound_light root (Some e) t q = at t _ q tt

  up_light : (root : C) (top : Option (Parent C)) (e : Option Refusal) (t : NextPhase C V) → t ≡ given_up root top e → Light t
  up_light root None e t q = unwound_light root e t q
  up_light root (Some g) e t q = at t _ q tt

  unwind_light : (root : C) (next : Option C) (e : Option Refusal) (t : NextPhase C V) → t ≡ after_unwind root next e → Light t
  unwind_light root None e t q = unwound_light root e t q
  unwind_light root (Some n) e t q = at t _ q tt

  leaf_light : (number : C → ℕ) (kind : Kind V) (s : Site C) (h : ℕ → Node V) (key : List ℕ) (r : Result C Refusal) (h' : ℕ → Node V) (t : NextPhase C V) → MadeLeaf number kind s h key r h' t → Light t
  leaf_light number kind s h key (Ok leaf) h' t g = at t _ g.1 (full_light kind s s.full s.above _ _)
  leaf_light number kind s h key (Err e) h' t g = at t _ g.1 tt

  greater_light : (number : C → ℕ) (kind : Kind V) (s : Site C) (p : Parent C) (leaf : Option C) (h : ℕ → Node V) (key : List ℕ) (r : Result C Refusal) (h' : ℕ → Node V) (t : NextPhase C V) → MadeGreater number kind s p leaf h key r h' t → Light t
  greater_light number kind s p leaf h key (Ok c) h' t g = at t _ g.1 (ready_light kind _)
  greater_light number kind s p leaf h key (Err e) h' t g = at t _ g.1 tt

  top_light : (number : C → ℕ) (p : Parent C) (s : Stamp C) (common byte : ℕ) (h : ℕ → Node V) (key : List ℕ) (r : Result C Refusal) (h' : ℕ → Node V) (t : NextPhase C V) → MadeTop number p s common byte h key r h' t → Light t
  top_light number p s common byte h key (Ok top) h' t g = at t _ g.1 tt
  top_light number p s common byte h key (Err e) h' t g = at t _ g.1 tt

  beside_light : (number : C → ℕ) (kind : Kind V) (p : Parent C) (s : Stamp C) (common byte : ℕ) (top : C) (h : ℕ → Node V) (key : List ℕ) (r : Result C Refusal) (h' : ℕ → Node V) (t : NextPhase C V) → MadeBeside number kind p s common byte top h key r h' t → Light t
  beside_light number kind p s common byte top h key (Ok leaf) h' t g = at t _ g.1 (ready_light kind _)
  beside_light number kind p s common byte top h key (Err e) h' t g = at t _ g.1 tt

  lesser_light : (number : C → ℕ) (s : Site C) (p : Parent C) (top : Option (Parent C)) (r : Reply V) (h : ℕ → Node V) (key : List ℕ) (x : Result C Refusal) (h' : ℕ → Node V) (t : NextPhase C V) → MadeLesser number s p top r h key x h' t → Light t
  lesser_light number s p None r h key (Ok c) h' t g = at t _ g.1 tt
  lesser_light number s p None r h key (Err e) h' t g = at t _ g.1 tt
  lesser_light number s p (Some q) r h key (Ok c) h' t g = at t _ g.1 tt
  lesser_light number s p (Some q) r h key (Err e) h' t g = at t _ g.1 tt

  one_light : (number : C → ℕ) (root : C) (one : NodeChange C) (r : Reply V) (h : ℕ → Node V) (u : Upgrade) (h' : ℕ → Node V) (t : NextPhase C V) → UpgradedHere number root one r h u h' t → Light t
  one_light number root one r h Locked h' t g = at t _ g.1 tt
  one_light number root one r h Failed h' t g = at t _ g.1 tt
  one_light number root one r h Exhausted h' t g = at t _ g.1 tt

  first_light : (number : C → ℕ) (root : C) (top : Parent C) (two : ParentChange C) (r : Reply V) (h : ℕ → Node V) (u : Upgrade) (h' : ℕ → Node V) (t : NextPhase C V) → UpgradedTop number root top two r h u h' t → Light t
  first_light number root top two r h Locked h' t g = at t _ g.1 tt
  first_light number root top two r h Failed h' t g = at t _ g.1 tt
  first_light number root top two r h Exhausted h' t g = at t _ g.1 tt

  above_light : (number : C → ℕ) (root : C) (two : ParentChange C) (r : Reply V) (h : ℕ → Node V) (u : Upgrade) (h' : ℕ → Node V) (t : NextPhase C V) → UpgradedAbove number root two r h u h' t → Light t
  above_light number root two r h Locked h' t g = at t _ g.1 tt
  above_light number root two r h Failed h' t g = up_light root two.top _ t g.1
  above_light number root two r h Exhausted h' t g = up_light root two.top _ t g.1

  both_light : (number : C → ℕ) (two : ParentChange C) (r : Reply V) (h : ℕ → Node V) (u : Upgrade) (h' : ℕ → Node V) (t : NextPhase C V) → UpgradedBelow number two r h u h' t → Light t
  both_light number two r h Locked h' t g = at t _ g.1 tt
  both_light number two r h Failed h' t g = at t _ g.1 tt
  both_light number two r h Exhausted h' t g = at t _ g.1 tt

  by_check : (b : Bool) (t u w : NextPhase C V) → (b ≡ true → t ≡ u) → (b ≡ false → t ≡ w) → Light u → Light w → Light t
  by_check true t u w f g x y = at t u (f refl) x
  by_check false t u w f g x y = at t w (g refl) y

  -- a phase after which a call may owe a node
  abbrev Unlinks : Phase C V → Type 0
  Unlinks (ChangeAbove two r) = Unit {0}
  Unlinks (Obsolete n next p r) = Unit {0}
  Unlinks (Retire n next p r) = Unit {0}
  Unlinks _ = ⊥

  module _ (number : C → ℕ) (same : V → V → Bool) (always : Bool) (most : ℕ) (why : NodeType → Refusal → Type 0) (root : C) (key : List ℕ) (kind : Kind V) (fail : Bool) (answer : Option (Option V)) (new new' : Option V) (h h' : ℕ → Node V) (t : NextPhase C V) where
    -- a step from any other phase leaves the call owing nothing
    step_light : (s : Phase C V) → (Unlinks s → ⊥) → PhaseStepped number same always most why root key kind fail answer new s h new' t h' → Light t
    step_light New never g = version_light root None root _ t g.2
    step_light (Version above n) never g = version_light root above n _ t g.2
    step_light (Read above s) never g = at t _ g.2.2 (read_light root above s g.2.0)
    step_light (Check s c) never g = if_light (is_taken (h (number s.at.node)) s.at.version) root (IsChecked always same kind new s c) t (λ u x. checked_light always same kind new s c u x) g.2
    step_light (CheckUncopied s) never g = if_this (is_taken (h (number s.node)) s.version) root (refused refusal.Count) t tt g.2
    step_light (CheckMiss p s common byte) never g = if_this (is_taken (h (number p.stamp.node)) p.stamp.version) root (after_miss kind p s common byte) t (miss_light kind p s common byte) g.2
    step_light (CheckDown p s c) never g = if_this (is_taken (h (number p.node)) p.version) root (quiet (Version (Some s) c)) t tt g.2
    step_light (CheckOld p s v) never g = if_light (is_taken (h (number p.node)) p.version) root (IsAtOld always same kind new s v) t (λ u x. old_light always same kind new s v u x) g.2
    step_light (MakeLeaf s) never g = leaf_light number kind s h key g.1.0 h' t g.1.1
    step_light (MakeGreater s p leaf) never g = greater_light number kind s p leaf h key g.1.0 h' t g.1.1
    step_light (MakeTop p s common byte) never g = top_light number p s common byte h key g.1.0 h' t g.1.1
    step_light (MakeBeside p s common byte top) never g = beside_light number kind p s common byte top h key g.1.0 h' t g.1.1
    step_light (MakeLesser s p top r) never g = lesser_light number s p top r h key g.1.0 h' t g.1.1
    step_light (AskOld s v) never g = given_light always same kind s v answer new new' t g.1
    step_light (AskNew plan) never g = new_light plan answer new new' t g.1
    step_light (Confirm s r) never g = if_this (is_taken (h (number s.node)) s.version) root (answered r) t tt g.2
    step_light (CheckAbove p one r) never g = by_check (is_taken (h (number p.node)) p.version) t (quiet (UpgradeHere one r)) (again root) (λ e. (g.1.goes_on e).1) (λ e. (g.1.goes_back e).1) tt tt
    step_light (UpgradeHere one r) never g = one_light number root one r h g.1.0 h' t g.1.2
    step_light (ChangeHere one r) never g = at t _ g.2 tt
    step_light (UpgradeTop top two r) never g = first_light number root top two r h g.1.0 h' t g.1.2
    step_light (UpgradeAbove two r) never g = above_light number root two r h g.1.0 h' t g.1.2
    step_light (UpgradeBelow two r) never g = both_light number two r h g.1.0 h' t g.1.2
    step_light (ChangeAbove two r) never g = absurd (never tt)
    step_light (Obsolete n next p r) never g = absurd (never tt)
    step_light (Retire n next p r) never g = absurd (never tt)
    step_light (UnlockBelow n p r) never g = at t _ g.2 tt
    step_light (Unlock n r) never g = at t _ g.2 tt
    step_light (Unwind n next e) never g = unwind_light root next e t g.2
    step_light (Scan s) never g = at t _ g.2.3 tt
    step_light Ended never g = at t _ g.2 tt

-- a reading call never changes two nodes
fits_both : {C V : Type 0} (change : Replacement C) (found : Option V) → FitsAbove change found found → ⊥
fits_both Unlink None f = f
fits_both Unlink (Some v) f = f
fits_both (Shrink c) None f = f
fits_both (Shrink c) (Some v) f = f
fits_both Collapse None f = f
fits_both Collapse (Some v) f = f
fits_both (ShrinkAbove c) None f = f
fits_both (ShrinkAbove c) (Some v) f = f
fits_both (Grow c) None f = f
fits_both (Grow c) (Some v) f = f
fits_both (GrowLink c leaf byte) None f = f
fits_both (GrowLink c leaf byte) (Some v) f = f
fits_both (Split top leaf common byte) None f = f
fits_both (Split top leaf common byte) (Some v) f = f

left_found : {V : Type 0} (same : V → V → Bool) (k : ℕ) (given found : Option V) (r : Reply V) → Settles same k Get given found r given → found ≡ given
left_found {V} same k given found r s =
    let P : Call V → Type 0 = λ c. leaves same c found ≡ given in
    subst P s.is_call s.left

abbrev IsLate : {C V : Type 0} → Phase C V → Type 0
IsLate (UnlockBelow n p r) = Unit {0}
IsLate (Unlock n r) = Unit {0}
IsLate Ended = Unit {0}
IsLate _ = ⊥

abbrev IsOwing : {C V : Type 0} → Phase C V → Type 0
IsOwing (Obsolete n next p r) = Unit {0}
IsOwing (Retire n next p r) = Unit {0}
IsOwing _ = ⊥

module _ {C V : Type 0} where
  stance : (kind : Kind V) (s : Phase C V) → (IsLate s ⊎ IsOwing s) ⊎ ((most_left kind s ≡ 2) ⊎ ((kind ≡ Get) × OwesNone s))
  stance kind (UnlockBelow n p r) = inl (inl tt)
  stance kind (Unlock n r) = inl (inl tt)
  stance kind Ended = inl (inl tt)
  stance kind (Obsolete n next p r) = inl (inr tt)
  stance kind (Retire n next p r) = inl (inr tt)
  stance Get _ = inr (inr (refl, tt))
  stance Insert _ = inr (inl refl)
  stance Remove _ = inr (inl refl)
  stance ComputePresent _ = inr (inl refl)
  stance ComputeInsert _ = inr (inl refl)
  stance (Exchange old) _ = inr (inl refl)

  -- two at most
  two_left : (kind : Kind V) (s : Phase C V) → most_left kind s ≤ 2
  two_left kind (UnlockBelow n p r) = omega arith
  two_left kind (Unlock n r) = omega arith
  two_left kind Ended = omega arith
  two_left kind (Obsolete n None p r) = omega arith
  two_left kind (Obsolete n (Some m) p r) = omega arith
  two_left kind (Retire n None p r) = omega arith
  two_left kind (Retire n (Some m) p r) = omega arith
  two_left Get _ = omega arith
  two_left Insert _ = omega arith
  two_left Remove _ = omega arith
  two_left ComputePresent _ = omega arith
  two_left ComputeInsert _ = omega arith
  two_left (Exchange old) _ = omega arith

  -- two free places in the bag are enough in any phase
  pub with_room : (kind : Kind V) (s : Phase C V) (jobs : ℕ) → jobs + 2 ≤ 64 → IsSecured kind s jobs
  with_room kind s jobs x = let n : most_left kind s ≤ 2 = two_left kind s in let y : jobs + most_left kind s ≤ 64 = omega (arith, x, n) in y

  reading : (s : Phase C V) → OwesNone s → most_left Get s ≡ 0
  reading (UnlockBelow n p r) x = refl
  reading (Unlock n r) x = refl
  reading Ended x = refl
  reading (Obsolete n next p r) x = absurd x
  reading (Retire n next p r) x = absurd x
  reading _ x = refl

  -- as many are left after the mark, and one fewer once the node is handed over
  marked_left : (kind : Kind V) (n : C) (next : Option C) (p : C) (r : Reply V) → most_left kind (Retire n next p r) ≡ most_left kind (Obsolete n next p r)
  marked_left kind n None p r = refl
  marked_left kind n (Some m) p r = refl

  handed_left : (kind : Kind V) (n : C) (next : Option C) (p : C) (r : Reply V) (t : NextPhase C V) → t ≡ after_retire next p r → suc (most_left kind t.phase) ≡ most_left kind (Retire n next p r)
  handed_left kind n None p r t e = let P : NextPhase C V → Type 0 = λ u. suc (most_left kind u.phase) ≡ 1 in subst P (sym e) refl
  handed_left kind n (Some m) p r t e = let P : NextPhase C V → Type 0 = λ u. suc (most_left kind u.phase) ≡ 2 in subst P (sym e) refl

  -- so with the node in the bag the places that are left are enough
  pub handed_secured : (kind : Kind V) (n : C) (next : Option C) (p : C) (r : Reply V) (t : NextPhase C V) (jobs : ℕ) → t ≡ after_retire next p r → IsSecured kind (Retire n next p r) jobs → IsSecured kind t.phase (suc jobs)
  handed_secured kind n next p r t jobs e x =
      let y : jobs + most_left kind (Retire n next p r) ≤ 64 = x in
      let z : suc (most_left kind t.phase) ≡ most_left kind (Retire n next p r) = handed_left kind n next p r t e in
      let w : suc jobs + most_left kind t.phase ≤ 64 = omega (arith, y, z) in
      w

  -- a node that is to be handed over has a free place in the bag
  pub retiring_room : (kind : Kind V) (n : C) (next : Option C) (p : C) (r : Reply V) (jobs : ℕ) → IsSecured kind (Retire n next p r) jobs → suc jobs ≤ 64
  retiring_room kind n None p r jobs x = let y : jobs + 1 ≤ 64 = x in omega (arith, y)
  retiring_room kind n (Some m) p r jobs x = let y : jobs + 2 ≤ 64 = x in omega (arith, y)

  module _ (number : C → ℕ) (same : V → V → Bool) (always : Bool) (most : ℕ) (why : NodeType → Refusal → Type 0) (root : C) (k : ℕ) (key : List ℕ) (kind : Kind V) (fail : Bool) (answer : Option (Option V)) (new new' : Option V) (i : ℕ) (a : ℕ → Note) (h h' : ℕ → Node V) (t : NextPhase C V) where
    none_by : (s : Phase C V) → most_left kind s ≡ 0 → (u : NextPhase C V) → t ≡ u → most_left kind u.phase ≡ 0 → most_left kind t.phase ≤ most_left kind s
    none_by s z u e y = let n : most_left kind t.phase ≡ 0 = ap (λ w. most_left kind w.phase) e ∙ y in omega (arith, n)

    late_step : (s : Phase C V) → IsLate s → PhaseStepped number same always most why root key kind fail answer new s h new' t h' → most_left kind t.phase ≤ most_left kind s
    late_step (UnlockBelow n p r) l g = none_by (UnlockBelow n p r) refl _ g.2 refl
    late_step (Unlock n r) l g = none_by (Unlock n r) refl _ g.2 refl
    late_step Ended l g = none_by Ended refl _ g.2 refl
    late_step _ l g = absurd l

    owing_step : (s : Phase C V) → IsOwing s → PhaseStepped number same always most why root key kind fail answer new s h new' t h' → most_left kind t.phase ≤ most_left kind s
    owing_step (Obsolete n next p r) l g =
        let e : most_left kind t.phase ≡ most_left kind (Obsolete n next p r) = ap (λ w. most_left kind w.phase) g.2 ∙ marked_left kind n next p r in
        omega (arith, e)
    owing_step (Retire n next p r) l g =
        let e : suc (most_left kind t.phase) ≡ most_left kind (Retire n next p r) = handed_left kind n next p r t g.2 in
        omega (arith, e)
    owing_step _ l g = absurd l

    -- a reading call that owes none isn't about to
    reads_on : (s : Phase C V) → OwesNone s → Known number same always i a h k key Get new s → Unlinks s → ⊥
    reads_on (ChangeAbove two r) o known u =
        let e : known.0 ≡ new = left_found same k new known.0 r known.5 in
        let P : Option V → Type 0 = λ x. FitsAbove two.change known.0 x in
        fits_both two.change known.0 (subst P (sym e) known.4)
    reads_on (Obsolete n next p r) o known u = o
    reads_on (Retire n next p r) o known u = o
    reads_on _ o known u = u

    -- no step leaves a call with more to hand over
    falls : (s : Phase C V) → Known number same always i a h k key kind new s → PhaseStepped number same always most why root key kind fail answer new s h new' t h' → most_left kind t.phase ≤ most_left kind s
    falls s known g = elim (stance kind s) [
      | inl (inl late) ↦ late_step s late g
      | inl (inr owing) ↦ owing_step s owing g
      | inr (inl two) ↦ (let n : most_left kind t.phase ≤ 2 = two_left kind t.phase in omega (arith, n, two))
      | inr (inr r) ↦ (
          let P : Kind V → Type 0 = λ y. Known number same always i a h k key y new s in
          let Q : Kind V → Type 0 = λ y. most_left y t.phase ≡ 0 in
          let z : most_left kind t.phase ≡ 0 = subst Q (sym r.0) (reading t.phase (step_light number same always most why root key kind fail answer new new' h h' t s (reads_on s r.1 (subst P r.0 known)) g)) in
          omega (arith, z))
    ]

    -- a step of a call leaves it a place in the bag for each node that it may still hand over
    pub secured_step : (s : Phase C V) (jobs : ℕ) → IsSecured kind s jobs → Known number same always i a h k key kind new s → PhaseStepped number same always most why root key kind fail answer new s h new' t h' → IsSecured kind t.phase jobs
    secured_step s jobs x known g =
        let y : jobs + most_left kind s ≤ 64 = x in
        let f : most_left kind t.phase ≤ most_left kind s = falls s known g in
        let z : jobs + most_left kind t.phase ≤ 64 = omega (arith, y, f) in
        z
