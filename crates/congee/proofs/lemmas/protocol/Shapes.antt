-- What a step of the table may be: before the call took effect it goes on, asks, is refused, answers at once, or
-- takes effect with the reply that it will give.
use Rattle.std.proofs.Math.Dec.{ltb}
use Rattle.std.proofs.Common.{◌≡◌, ℕ, ◌==◌, ◌&&◌, ◌⊎◌, inl, inr, Bool, true, false, List, refl, sym, ◌∙◌, ap, subst}
use Rattle.std.specs.Prelude.{Option, None, Some, Result, Ok, Err}
use Rattle.judge.specs.declared.journal.Reply.{Reply}
use Rattle.judge.specs.declared.journal.Reply.TheVariants as reply
use Rattle.congee.specs.declared.forms.child.Child.{Child}
use Rattle.congee.specs.declared.forms.child.Child.TheVariants as child
use Rattle.congee.specs.declared.protocol.store.Reading.{Reading}
use Rattle.congee.specs.declared.protocol.store.Reading.TheVariants.{Differs, Fits, Uncopied}
use Rattle.congee.specs.declared.protocol.store.Stamp.{Stamp}
use Rattle.congee.specs.declared.protocol.store.Upgrade.{Upgrade}
use Rattle.congee.specs.declared.protocol.store.Upgrade.TheVariants.{Locked, Failed, Exhausted}
use Rattle.congee.specs.declared.protocol.store.Refusal.{Refusal}
use Rattle.congee.specs.declared.protocol.store.Refusal.TheVariants as refusal
use Rattle.congee.specs.declared.protocol.phase.Kind.{Kind}
use Rattle.congee.specs.declared.protocol.phase.Kind.TheVariants.{Get, Insert, Remove, ComputePresent, ComputeInsert, Exchange}
use Rattle.congee.specs.declared.protocol.phase.Parent.{Parent}
use Rattle.congee.specs.declared.protocol.phase.Above.{Above as Over}
use Rattle.congee.specs.declared.protocol.phase.Site.{Site}
use Rattle.congee.specs.declared.protocol.phase.Placement.{Placement}
use Rattle.congee.specs.declared.protocol.phase.Placement.TheVariants.{Set, Link}
use Rattle.congee.specs.declared.protocol.phase.NodeChange.{NodeChange}
use Rattle.congee.specs.declared.protocol.phase.Replacement.{Replacement}
use Rattle.congee.specs.declared.protocol.phase.Replacement.TheVariants.{Unlink, Shrink, Collapse, ShrinkAbove}
use Rattle.congee.specs.declared.protocol.phase.ParentChange.{ParentChange}
use Rattle.congee.specs.declared.protocol.phase.Plan.{Plan}
use Rattle.congee.specs.declared.protocol.phase.Plan.TheVariants.{Here, Above}
use Rattle.congee.specs.declared.protocol.phase.Phase.{Phase}
use Rattle.congee.specs.declared.protocol.phase.Phase.TheVariants.{Version, Read, Check, CheckUncopied, CheckMiss, CheckDown, CheckOld, MakeLeaf, MakeGreater, MakeTop, MakeBeside, MakeLesser, AskOld, AskNew, Confirm, CheckAbove, UpgradeHere, ChangeHere, UpgradeTop, UpgradeAbove, UpgradeBelow, ChangeAbove, Unwind}
use Rattle.congee.specs.declared.protocol.next_phase.NextPhase.{NextPhase}
use Rattle.congee.specs.Heap.{Node}
use Rattle.congee.specs.protocol.Steps.{skipping, shrinks, set_at, both, last_out, after_top, given_up, after_unwind, quiet, again, answered, refused, decided, asking, adds, asks_new, absent_reply, after_version, after_read, down, started, ready, plan_here, unless_full, missing, absent, CopyFailed, IsAsked, replaced, taken_out, emptied, is_same, IsAtOld, IsAdded, IsExchanged, IsPresent, IsChecked, after_miss, IsGiven, IsGivenNew, MadeLeaf, MadeGreater, MadeTop, MadeBeside, MadeLesser, UpgradedHere, UpgradedTop, UpgradedAbove, UpgradedBelow, after_change}
use Rattle.congee.specs.protocol.Protocol.{Asking}
use Rattle.congee.specs.protocol.Answers.{reply_in}
use Rattle.congee.specs.protocol.Play.{Question, Unasked, Asked, Replied, Pending, Decided, value_answered, resolved, Carries, heeding, flight_in}
use Rattle.congee.proofs.lemmas.Graft.{on_test}
use Rattle.congee.proofs.lemmas.protocol.Touch.{by_test}

-- the call may go to work on its value, or give that reply: it has its closure's answer to a question about what it found, or no closure
abbrev pub Ripe : {V : Type 0} → Reply V → Question V → Type 0
Ripe r q = Carries q (heeding r)

-- a call that is at work may
pub ripe_at_work : {V : Type 0} (r : Reply V) → Ripe r (heeding r)
ripe_at_work (reply.ComputePresent None) = tt
ripe_at_work (reply.ComputePresent (Some x)) = refl
ripe_at_work (reply.ComputeInsert x) = refl
ripe_at_work _ = tt

-- one that puts its value at an absent key without a question has no closure
ripe_new : {V : Type 0} (kind : Kind V) (q : Question V) → adds kind ≡ true → asks_new kind ≡ false → Ripe (absent_reply kind) q
ripe_new ComputePresent q e f = absurd cc
ripe_new ComputeInsert q e f = absurd cc
ripe_new _ q e f = tt

-- a call that asks for an absent key has a closure
asks_for : {V : Type 0} (kind : Kind V) → asks_new kind ≡ true → Asking kind
asks_for ComputePresent e = tt
asks_for ComputeInsert e = tt
asks_for _ e = absurd cc

-- a call that puts no value at an absent key may answer there at once
fair_absent : {V : Type 0} (kind : Kind V) (q : Question V) → adds kind ≡ false → Ripe (absent_reply kind) q
fair_absent ComputeInsert q e = absurd cc
fair_absent _ q e = tt

-- `v` was the call's value, `v1` is it after an answer, and v' is what the machine has after the step; q is what the
-- call has of its closure
pub data StepShape {C V : Type 0} (k : ℕ) (kind : Kind V) (v v1 v' : Option V) (q : Question V) (t : NextPhase C V) : Type 0 where
  GoesOn : (s : Phase C V) (q' : Question V) → t ≡ quiet s → flight_in k kind v' s ≡ Pending k kind v1 q' → Carries q q' → StepShape k kind v v1 v' q t
  Skips : (s : Phase C V) (q' : Question V) → t ≡ skipping s → flight_in k kind v' s ≡ Pending k kind v1 q' → Carries q q' → StepShape k kind v v1 v' q t
  Wonders : (s : Phase C V) (o : Option V) → t ≡ asking s o → Asking kind → flight_in k kind v' s ≡ Pending k kind v1 (Asked o) → StepShape k kind v v1 v' q t
  Stops : (e : Refusal) → t ≡ refused e → StepShape k kind v v1 v' q t
  Replies : (r : Reply V) → t ≡ answered r → v1 ≡ v → Ripe r q → StepShape k kind v v1 v' q t
  Takes : (s : Phase C V) (r : Reply V) → t ≡ decided s → flight_in k kind v' s ≡ Decided r → reply_in s ≡ Some r → v1 ≡ v → Ripe r q → StepShape k kind v v1 v' q t

-- where a step of the call may lead, whatever its value is after an answer
module _ {C V : Type 0} (k : ℕ) (v v1 v' : Option V) (e : v' ≡ v1) (q : Question V) where
  on : (kind : Kind V) (s : Phase C V) → flight_in k kind v' s ≡ Pending k kind v' Unasked → StepShape k kind v v1 v' q (quiet s)
  on kind s f = GoesOn s Unasked refl (f ∙ ap (λ x. Pending k kind x Unasked) e) tt

  works : (kind : Kind V) (r : Reply V) (s : Phase C V) → Ripe r q → flight_in k kind v' s ≡ Pending k kind v' (heeding r) → StepShape k kind v v1 v' q (quiet s)
  works kind r s c f = GoesOn s (heeding r) refl (f ∙ ap (λ x. Pending k kind x (heeding r)) e) c

  wonders : (kind : Kind V) (s : Phase C V) (o : Option V) → Asking kind → flight_in k kind v' s ≡ Pending k kind v' (Asked o) → StepShape k kind v v1 v' q (asking s o)
  wonders kind s o w f = Wonders s o refl w (f ∙ ap (λ x. Pending k kind x (Asked o)) e)

  to : (kind : Kind V) (x y : NextPhase C V) → y ≡ x → StepShape k kind v v1 v' q x → StepShape k kind v v1 v' q y
  to kind x y p s = subst (λ (z : NextPhase C V). StepShape k kind v v1 v' q z) (sym p) s

  anew : (kind : Kind V) (root : C) → StepShape k kind v v1 v' q (again root)
  anew kind root = on kind (Version None root) refl

  stopped : (kind : Kind V) (r : Refusal) → StepShape {C = C} k kind v v1 v' q (refused r)
  stopped kind r = Stops r refl

  starts : (kind : Kind V) (plan : Plan C) (r : Reply V) → Ripe r q → StepShape k kind v v1 v' q (started plan r)
  starts kind (Here None one) r c = works kind r (UpgradeHere one r) c refl
  starts kind (Here (Some p) one) r c = works kind r (CheckAbove p one r) c refl
  starts kind (Above two) r c = works kind r (UpgradeAbove two r) c refl

  readies : (kind : Kind V) (plan : Plan C) → adds kind ≡ true → StepShape k kind v v1 v' q (ready kind plan)
  readies kind plan w = by_test (λ (z : NextPhase C V). StepShape k kind v v1 v' q z) (asks_new kind) _ _ (λ p. wonders kind (AskNew plan) None (asks_for kind p) refl)
      (λ n. starts kind plan (absent_reply kind) (ripe_new kind q w n))

  unless : (kind : Kind V) (s : Site C) (full : Bool) (above : Option (Over C)) (leaf : Option C) (change : Placement C) → adds kind ≡ true → StepShape k kind v v1 v' q (unless_full kind s full above leaf change)
  unless kind s true (Some u) leaf change w = on kind (MakeGreater s u.near leaf) refl
  unless kind s true None leaf change w = readies kind (plan_here s change) w
  unless kind s false above leaf change w = readies kind (plan_here s change) w

  misses : (kind : Kind V) (s : Site C) → adds kind ≡ true → StepShape k kind v v1 v' q (missing kind s)
  misses kind s w = by_test (λ (z : NextPhase C V). StepShape k kind v v1 v' q z) (s.depth == 7) _ _ (λ _. unless kind s s.full s.above None Set w) (λ _. on kind (MakeLeaf s) refl)

  replaces : (kind : Kind V) (s : Site C) (b : Bool) (r : Reply V) → Ripe r q → StepShape k kind v v1 v' q (replaced s b r)
  replaces kind s b r c = by_test (λ (z : NextPhase C V). StepShape k kind v v1 v' q z) b _ _ (λ _. works kind r (Confirm s.at r) c refl) (λ _. works kind r (UpgradeHere _ r) c refl)

  -- a value's going
  last : (kind : Kind V) (s : Site C) (p : Parent C) (top : Option (Parent C)) (r : Reply V) → Ripe r q → StepShape k kind v v1 v' q (last_out s p top r)
  last kind s p None r c = works kind r (UpgradeAbove (both p s Unlink) r) c refl
  last kind s p (Some top) r c = by_test (λ (z : NextPhase C V). StepShape k kind v v1 v' q z) (p.count == 2) _ _ (λ _. works kind r (UpgradeTop top (both p s Collapse) r) c refl)
      (λ _. by_test (λ (z : NextPhase C V). StepShape k kind v v1 v' q z) (ltb 2 p.count && shrinks p.form p.count) _ _
      (λ _. works kind r (MakeLesser s p (Some top) r) c refl) (λ _. works kind r (UpgradeAbove (both p s Unlink) r) c refl))

  takes_out : (kind : Kind V) (s : Site C) (above : Option (Over C)) (r : Reply V) → Ripe r q → StepShape k kind v v1 v' q (taken_out s above r)
  takes_out kind s None r c = works kind r (UpgradeHere (set_at s) r) c refl
  takes_out kind s (Some u) r c = by_test (λ (z : NextPhase C V). StepShape k kind v v1 v' q z) (s.count == 1) _ _ (λ _. last kind s u.near u.far r c)
      (λ _. by_test (λ (z : NextPhase C V). StepShape k kind v v1 v' q z) (shrinks s.form s.count) _ _ (λ _. works kind r (MakeLesser s u.near None r) c refl) (λ _. works kind r (UpgradeHere (set_at s) r) c refl))

  empties : (kind : Kind V) (s : Site C) (r : Reply V) → Ripe r q → StepShape k kind v v1 v' q (emptied s r)
  empties kind s r c = takes_out kind s s.above r c

  uncounted : (kind : Kind V) (always : Bool) (x t : NextPhase C V) → (t ≡ x) ⊎ CopyFailed always t → StepShape k kind v v1 v' q x → StepShape k kind v v1 v' q t
  uncounted kind always x t (inl p) s = to kind x t p s
  uncounted kind always x t (inr p) s = to kind (refused refusal.Count) t p.1 (stopped kind refusal.Count)

  asks : (kind : Kind V) (always : Bool) (s : Site C) (old : V) (t : NextPhase C V) → Asking kind → IsAsked always s old t → StepShape k kind v v1 v' q t
  asks kind always s old t w x = uncounted kind always (asking (AskOld s old) (Some old)) t x (wonders kind (AskOld s old) (Some old) w refl)

  -- what a call that adds does at a value that stands is a step that it may take
  pub at_old : (always : Bool) (same : V → V → Bool) (kind : Kind V) (new : Option V) (s : Site C) (old : V) (t : NextPhase C V) → adds kind ≡ true → IsAtOld always same kind new s old t → StepShape k kind v v1 v' q t
  at_old always same Insert new s old t w x = to Insert _ t x (replaces Insert s (is_same same old new) (reply.Insert (Some old)) tt)
  at_old always same ComputeInsert new s old t w x = asks ComputeInsert always s old t tt x
  at_old always same _ new s old t w x = absurd cc

  adds_at : (always : Bool) (same : V → V → Bool) (kind : Kind V) (new : Option V) (s : Site C) (above : Option (Over C)) (old : V) (t : NextPhase C V) → adds kind ≡ true → IsAdded always same kind new s above old t → StepShape k kind v v1 v' q t
  adds_at always same kind new s None old t w x = at_old always same kind new s old t w x
  adds_at always same kind new s (Some u) old t w x = to kind _ t x (on kind (CheckOld u.near.stamp s old) refl)

  exchanges : (always : Bool) (same : V → V → Bool) (w : V) (new : Option V) (s : Site C) (old : V) (t : NextPhase C V) → IsExchanged always same new s old t → StepShape k (Exchange w) v v1 v' q t
  exchanges always same w None s old t x = to (Exchange w) _ t x (empties (Exchange w) s (reply.Exchange (Ok None)) tt)
  exchanges always same w (Some u) s old t x = uncounted (Exchange w) always _ t x (replaces (Exchange w) s (same old u) (reply.Exchange (Ok (Some u))) tt)

  downs : (kind : Kind V) (b : Bool) (s : Site C) (above : Option (Over C)) (c : C) → StepShape k kind v v1 v' q (down b s above c)
  downs kind false s above c = on kind (Version _ c) refl
  downs kind true s None c = on kind (Version _ c) refl
  downs kind true s (Some u) c = on kind (CheckDown u.near.stamp _ c) refl

-- before an answer was wanted
pub presents : {C V : Type 0} (k : ℕ) (v v' : Option V) (e : v' ≡ v) (q : Question V) (always : Bool) (same : V → V → Bool) (kind : Kind V) (new : Option V) (s : Site C) (old : V) (t : NextPhase C V)
    → IsPresent always same kind new s old t → StepShape k kind v v v' q t
presents k v v' e q always same Get new s old t x = to k v v v' e q Get _ t x (Replies (reply.Get (Some old)) refl refl tt)
presents k v v' e q always same Insert new s old t x = adds_at k v v v' e q always same Insert new s s.above old t refl x
presents k v v' e q always same Remove new s old t x = to k v v v' e q Remove _ t x (empties k v v v' e q Remove s (reply.Remove (Some old)) tt)
presents k v v' e q always same ComputePresent new s old t x = asks k v v v' e q ComputePresent always s old t tt x
presents k v v' e q always same ComputeInsert new s old t x = adds_at k v v v' e q always same ComputeInsert new s s.above old t refl x
presents k v v' e q always same (Exchange w) new s old t x = on_test (same old w) (λ p. exchanges k v v v' e q always same w new s old t (x.0 p))
    (λ p. to k v v v' e q (Exchange w) _ t (x.1 p) (works k v v v' e q (Exchange w) (reply.Exchange (Err (Some old))) (Confirm s.at (reply.Exchange (Err (Some old)))) tt refl))

module _ {C V : Type 0} (number : C → ℕ) (k : ℕ) (kind : Kind V) (v v' : Option V) (e : v' ≡ v) (q : Question V) where
  -- a call may go on with no question open
  pub quiet_shape : (s : Phase C V) → flight_in k kind v' s ≡ Pending k kind v' Unasked → StepShape k kind v v v' q (quiet s)
  quiet_shape s f = on k v v v' e q kind s f

  -- a call that is ripe for a reply may go to work on it
  pub goes_to_work : (r : Reply V) (s : Phase C V) → Ripe r q → flight_in k kind v' s ≡ Pending k kind v' (heeding r) → StepShape k kind v v v' q (quiet s)
  goes_to_work r s c f = works k v v v' e q kind r s c f

  -- a call may begin anew
  pub again_shape : (root : C) → StepShape k kind v v v' q (again root)
  again_shape root = anew k v v v' e q kind root

  -- a step by another name is a step that the call may take, where the step is
  pub shape_at : (x y : NextPhase C V) → y ≡ x → StepShape k kind v v v' q x → StepShape k kind v v v' q y
  shape_at x y p s = to k v v v' e q kind x y p s

  -- a call that is ripe for a reply may answer with it at once
  pub answers : (r : Reply V) → Ripe r q → StepShape {C = C} k kind v v v' q (answered r)
  answers r f = Replies r refl refl f

  absents : (s : Site C) → StepShape k kind v v v' q (absent kind s)
  absents s = by_test (λ (z : NextPhase C V). StepShape k kind v v v' q z) (adds kind) _ _ (λ w. misses k v v v' e q kind s w) (λ w. answers (absent_reply kind) (fair_absent kind q w))

  -- what a call does after a check that succeeded is a step that it may take
  pub checks : (always : Bool) (same : V → V → Bool) (new : Option V) (s : Site C) (c : Child C V) (t : NextPhase C V) → IsChecked always same kind new s c t → StepShape k kind v v v' q t
  checks always same new s child.Blank t x = shape_at _ t x (absents s)
  checks always same new s (child.Node c) t x = shape_at _ t x (downs k v v v' e q kind (adds kind) s s.above c)
  checks always same new s (child.Value old) t x = presents k v v' e q always same kind new s old t x

  -- what a call does after a read is a step that it may take
  pub reads : (root : C) (above : Option (Over C)) (stamp : Stamp C) (r : Reading C V) → StepShape k kind v v v' q (after_read root above stamp r)
  reads root None stamp (Differs common byte) = again_shape root
  reads root (Some u) stamp (Differs common byte) = quiet_shape (CheckMiss u.near stamp common byte) refl
  reads root above stamp (Fits depth form s) = quiet_shape (Check _ s.child) refl
  reads root above stamp Uncopied = quiet_shape (CheckUncopied stamp) refl

  -- what a call does after it took a version, or found none, is a step that it may take
  pub versions : (root : C) (above : Option (Over C)) (n : C) (o : Option ℕ) → StepShape k kind v v v' q (after_version root above n o)
  versions root above n None = again_shape root
  versions root above n (Some x) = quiet_shape (Read above _) refl

  -- what a call does after a check is a step that it may take, where it is so after one that succeeded
  pub if_taken : (taken : Bool) (root : C) (T : Type 0) (t : NextPhase C V) → (taken ≡ true → T) × (taken ≡ false → t ≡ again root) → (T → StepShape k kind v v v' q t) → StepShape k kind v v v' q t
  if_taken taken root T t x f = on_test taken (λ p. f (x.0 p)) (λ p. shape_at _ t (x.1 p) (again_shape root))

  -- what a call does where its key's way parts within a prefix is a step that it may take
  pub misses_at : (p : Parent C) (stamp : Stamp C) (common byte : ℕ) → StepShape k kind v v v' q (after_miss kind p stamp common byte)
  misses_at p stamp common byte = by_test (λ (z : NextPhase C V). StepShape k kind v v v' q z) (adds kind) _ _ (λ _. quiet_shape (MakeTop p stamp common byte) refl) (λ w. answers (absent_reply kind) (fair_absent kind q w))

  -- a call may be refused
  pub halts : (r : Refusal) (t : NextPhase C V) → t ≡ refused r → StepShape k kind v v v' q t
  halts r t p = Stops r p

  -- what a call that adds does once its leaf was made or refused is a step that it may take
  pub leaf_made : (s : Site C) (h : ℕ → Node V) (key : List ℕ) (r : Result C Refusal) (h' : ℕ → Node V) (t : NextPhase C V) → adds kind ≡ true → MadeLeaf number kind s h key r h' t → StepShape k kind v v v' q t
  leaf_made s h key (Ok leaf) h' t w x = shape_at _ t x.1 (unless k v v v' e q kind s s.full s.above (Some leaf) (Link leaf) w)
  leaf_made s h key (Err r) h' t w x = halts r t x.1

  -- what a call that adds does once its greater node was made or refused is a step that it may take
  pub greater_made : (s : Site C) (p : Parent C) (leaf : Option C) (h : ℕ → Node V) (key : List ℕ) (r : Result C Refusal) (h' : ℕ → Node V) (t : NextPhase C V) → adds kind ≡ true → MadeGreater number kind s p leaf h key r h' t → StepShape k kind v v v' q t
  greater_made s p leaf h key (Ok c) h' t w x = shape_at _ t x.1 (readies k v v v' e q kind _ w)
  greater_made s p leaf h key (Err r) h' t w x = halts r t x.1

  -- what a call does once the node where ways part was made or refused is a step that it may take
  pub top_made : (p : Parent C) (stamp : Stamp C) (common byte : ℕ) (h : ℕ → Node V) (key : List ℕ) (r : Result C Refusal) (h' : ℕ → Node V) (t : NextPhase C V) → MadeTop number p stamp common byte h key r h' t → StepShape k kind v v v' q t
  top_made p stamp common byte h key (Ok top) h' t x = shape_at _ t x.1 (quiet_shape (MakeBeside p stamp common byte top) refl)
  top_made p stamp common byte h key (Err r) h' t x = halts r t x.1

  -- what a call that adds does once the leaf beside was made or refused is a step that it may take
  pub beside_made : (p : Parent C) (stamp : Stamp C) (common byte : ℕ) (top : C) (h : ℕ → Node V) (key : List ℕ) (r : Result C Refusal) (h' : ℕ → Node V) (t : NextPhase C V) → adds kind ≡ true → MadeBeside number kind p stamp common byte top h key r h' t
      → StepShape k kind v v v' q t
  beside_made p stamp common byte top h key (Ok leaf) h' t w x = shape_at _ t x.1 (readies k v v v' e q kind _ w)
  beside_made p stamp common byte top h key (Err r) h' t w x = halts r t x.1

  skips_to : (r : Reply V) (s : Phase C V) → Ripe r q → flight_in k kind v' s ≡ Pending k kind v' (heeding r) → StepShape k kind v v v' q (skipping s)
  skips_to r s c f = Skips s (heeding r) refl (f ∙ ap (λ x. Pending k kind x (heeding r)) e) c

  -- what a ripe call does once its lesser node was made, or wasn't, is a step that it may take
  pub lesser_made : (s : Site C) (p : Parent C) (top : Option (Parent C)) (r : Reply V) (h : ℕ → Node V) (key : List ℕ) (x : Result C Refusal) (h' : ℕ → Node V) (t : NextPhase C V) → Ripe r q → MadeLesser number s p top r h key x h' t → StepShape k kind v v v' q t
  lesser_made s p None r h key (Ok c) h' t f x = shape_at _ t x.1 (goes_to_work r (UpgradeAbove (both p s (Shrink c)) r) f refl)
  lesser_made s p None r h key (Err o) h' t f x = shape_at _ t x.1 (skips_to r (UpgradeHere (set_at s) r) f refl)
  lesser_made s p (Some top) r h key (Ok c) h' t f x = shape_at _ t x.1 (goes_to_work r (UpgradeTop top (both p s (ShrinkAbove c)) r) f refl)
  lesser_made s p (Some top) r h key (Err o) h' t f x = shape_at _ t x.1 (skips_to r (UpgradeAbove (both p s Unlink) r) f refl)

  -- what a ripe call does once it locked its one node, or couldn't, is a step that it may take
  pub one_upgraded : (root : C) (one : NodeChange C) (r : Reply V) (h : ℕ → Node V) (u : Upgrade) (h' : ℕ → Node V) (t : NextPhase C V) → Ripe r q → UpgradedHere number root one r h u h' t → StepShape k kind v v v' q t
  one_upgraded root one r h Locked h' t c x = shape_at _ t x.1 (goes_to_work r (ChangeHere one r) c refl)
  one_upgraded root one r h Failed h' t c x = shape_at _ t x.1 (again_shape root)
  one_upgraded root one r h Exhausted h' t c x = halts refusal.Exhausted t x.1

  gives_up : (root : C) (top : Option (Parent C)) (o : Option Refusal) (t : NextPhase C V) → t ≡ given_up root top o → StepShape k kind v v v' q t
  gives_up root None None t x = shape_at _ t x (again_shape root)
  gives_up root None (Some r) t x = halts r t x
  gives_up root (Some top) o t x = shape_at _ t x (quiet_shape (Unwind top.stamp.node None o) refl)

  -- what a ripe call does once it locked the upper of two nodes, or couldn't, is a step that it may take
  pub above_upgraded : (root : C) (two : ParentChange C) (r : Reply V) (h : ℕ → Node V) (u : Upgrade) (h' : ℕ → Node V) (t : NextPhase C V) → Ripe r q → UpgradedAbove number root two r h u h' t → StepShape k kind v v v' q t
  above_upgraded root two r h Locked h' t c x = shape_at _ t x.1 (goes_to_work r (UpgradeBelow two r) c refl)
  above_upgraded root two r h Failed h' t c x = gives_up root two.top None t x.1
  above_upgraded root two r h Exhausted h' t c x = gives_up root two.top (Some refusal.Exhausted) t x.1

  -- what a ripe call does once it locked the node above both, or couldn't, is a step that it may take
  pub top_upgraded : (root : C) (top : Parent C) (two : ParentChange C) (r : Reply V) (h : ℕ → Node V) (u : Upgrade) (h' : ℕ → Node V) (t : NextPhase C V) → Ripe r q → UpgradedTop number root top two r h u h' t → StepShape k kind v v v' q t
  top_upgraded root top two r h Locked h' t c x = shape_at _ t x.1 (goes_to_work r (UpgradeAbove (record two { top = Some top }) r) c refl)
  top_upgraded root top two r h Failed h' t c x = shape_at _ t x.1 (again_shape root)
  top_upgraded root top two r h Exhausted h' t c x = halts refusal.Exhausted t x.1

  -- what a ripe call does once it locked the lower of two nodes, or couldn't, is a step that it may take
  pub both_upgraded : (two : ParentChange C) (r : Reply V) (h : ℕ → Node V) (u : Upgrade) (h' : ℕ → Node V) (t : NextPhase C V) → Ripe r q → UpgradedBelow number two r h u h' t → StepShape k kind v v v' q t
  both_upgraded two r h Locked h' t c x = shape_at _ t x.1 (goes_to_work r (ChangeAbove two r) c refl)
  both_upgraded two r h Failed h' t c x = shape_at _ t x.1 (quiet_shape (Unwind _ _ None) refl)
  both_upgraded two r h Exhausted h' t c x = shape_at _ t x.1 (quiet_shape (Unwind _ _ (Some refusal.Exhausted)) refl)

  -- what a call does once it let a lock of a given-up attempt go is a step that it may take
  pub unwinds : (root : C) (next : Option C) (o : Option Refusal) (t : NextPhase C V) → t ≡ after_unwind root next o → StepShape k kind v v v' q t
  unwinds root None None t x = shape_at _ t x (again_shape root)
  unwinds root None (Some r) t x = halts r t x
  unwinds root (Some c) o t x = shape_at _ t x (quiet_shape (Unwind c None o) refl)

-- a change takes effect
top_shape : {C V : Type 0} (k : ℕ) (kind : Kind V) (v v' : Option V) (two : ParentChange C) (r : Reply V) (top : Option (Parent C)) (t : NextPhase C V) → t ≡ after_top two r top → StepShape k kind v v v' (heeding r) t
top_shape k kind v v' two r None t x = Takes _ r x refl refl refl (ripe_at_work r)
top_shape k kind v v' two r (Some top) t x = Takes _ r x refl refl refl (ripe_at_work r)

-- a change of two nodes takes effect with the call's reply
pub change_shape : {C V : Type 0} (k : ℕ) (kind : Kind V) (v v' : Option V) (two : ParentChange C) (r : Reply V) (change : Replacement C) (t : NextPhase C V) → t ≡ after_change two r change → StepShape k kind v v v' (heeding r) t
change_shape k kind v v' two r Collapse t x = top_shape k kind v v' two r two.top t x
change_shape k kind v v' two r (ShrinkAbove c) t x = top_shape k kind v v' two r two.top t x
change_shape k kind v v' two r _ t x = Takes _ r x refl refl refl (ripe_at_work r)

-- the closure's answer
pub given_shape : {C V : Type 0} (always : Bool) (same : V → V → Bool) (k : ℕ) (kind : Kind V) (s : Site C) (old : V) (told : Option (Option V)) (v v' : Option V) (t : NextPhase C V)
    → Asking kind → IsGiven always same kind s old told v v' t → StepShape k kind v (value_answered kind (Asked (Some old)) told v) v' (resolved kind (Asked (Some old)) told) t
given_shape always same k kind s old None v v' t w x = asks k v v v' x.0 (Asked (Some old)) kind always s old t w x.1
given_shape always same k ComputeInsert s old (Some None) v v' t w x = asks k v v v' x.0 (Asked (Some old)) ComputeInsert always s old t tt x.1
given_shape always same k ComputeInsert s old (Some (Some y)) v v' t w x = to k v (Some y) v' x.0 (Replied (Some old)) ComputeInsert _ t x.1 (replaces k v (Some y) v' x.0 (Replied (Some old)) ComputeInsert s (same old y) _ refl)
given_shape always same k ComputePresent s old (Some None) v v' t w x = to k v None v' x.0 (Replied (Some old)) ComputePresent _ t x.1 (empties k v None v' x.0 (Replied (Some old)) ComputePresent s _ refl)
given_shape always same k ComputePresent s old (Some (Some y)) v v' t w x = uncounted k v (Some y) v' x.0 (Replied (Some old)) ComputePresent always _ t x.1 (replaces k v (Some y) v' x.0 (Replied (Some old)) ComputePresent s (same old y) _ refl)
given_shape always same k Get s old (Some o) v v' t w x = absurd w
given_shape always same k Insert s old (Some o) v v' t w x = absurd w
given_shape always same k Remove s old (Some o) v v' t w x = absurd w
given_shape always same k (Exchange y) s old (Some o) v v' t w x = absurd w

given_new_shape : {C V : Type 0} (k : ℕ) (plan : Plan C) (told : Option (Option V)) (v v' : Option V) (t : NextPhase C V) → IsGivenNew plan told v v' t → StepShape k ComputeInsert v (value_answered ComputeInsert (Asked None) told v) v' (resolved ComputeInsert (Asked None) told) t
given_new_shape k plan None v v' t x = to k v v v' x.0 (Asked None) ComputeInsert _ t x.1 (wonders k v v v' x.0 (Asked None) ComputeInsert (AskNew plan) None tt refl)
given_new_shape k plan (Some None) v v' t x = to k v v v' x.0 (Asked None) ComputeInsert _ t x.1 (wonders k v v v' x.0 (Asked None) ComputeInsert (AskNew plan) None tt refl)
given_new_shape k plan (Some (Some y)) v v' t x = to k v (Some y) v' x.0 (Replied None) ComputeInsert _ t x.1 (starts k v (Some y) v' x.0 (Replied None) ComputeInsert plan _ refl)

-- the closure's answer about an absent key: the call goes to work on it, or asks anew
pub given_new_shape_at : {C V : Type 0} (k : ℕ) (kind : Kind V) (plan : Plan C) (told : Option (Option V)) (v v' : Option V) (t : NextPhase C V) → kind ≡ ComputeInsert → IsGivenNew plan told v v' t → StepShape k kind v (value_answered kind (Asked None) told v) v' (resolved kind (Asked None) told) t
given_new_shape_at {C} {V} k kind plan told v v' t e x = let P : Kind V → Type 0 = λ y. StepShape k y v (value_answered y (Asked None) told v) v' (resolved y (Asked None) told) t in subst P (sym e) (given_new_shape k plan told v v' t x)
