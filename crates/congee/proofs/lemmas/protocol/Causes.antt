-- A step refuses for its cause alone.
use Rattle.std.proofs.Common.{◌≡◌, ℕ, ◌==◌, ◌&&◌, ◌⊎◌, Bool, true, false, cond, List, refl, sym, ◌∙◌, ap, subst, inl, inr}
use Rattle.std.specs.Prelude.{Option, None, Some, Result, Ok, Err, IfErr}
use Rattle.std.proofs.Math.Dec.{ltb}
use Rattle.judge.specs.declared.journal.Reply.{Reply}
use Rattle.judge.specs.declared.journal.Reply.TheVariants as reply
use Rattle.congee.specs.declared.forms.base_node.NodeType.{NodeType}
use Rattle.congee.specs.declared.forms.base_node.NodeType.TheVariants.{N4}
use Rattle.congee.specs.declared.forms.child.Child.{Child}
use Rattle.congee.specs.declared.forms.child.Child.TheVariants as child
use Rattle.congee.specs.declared.protocol.store.Reading.{Reading}
use Rattle.congee.specs.declared.protocol.store.Reading.TheVariants.{Differs, Fits, Uncopied}
use Rattle.congee.specs.declared.protocol.store.Least.{Least}
use Rattle.congee.specs.declared.protocol.store.Least.TheVariants as least
use Rattle.congee.specs.declared.protocol.store.Refusal.{Refusal}
use Rattle.congee.specs.declared.protocol.store.Refusal.TheVariants as refusal
use Rattle.congee.specs.declared.protocol.store.Region.{Region}
use Rattle.congee.specs.declared.protocol.store.Stamp.{Stamp}
use Rattle.congee.specs.declared.protocol.store.Upgrade.{Upgrade}
use Rattle.congee.specs.declared.protocol.store.Upgrade.TheVariants.{Locked, Failed, Exhausted}
use Rattle.congee.specs.declared.protocol.phase.Kind.{Kind}
use Rattle.congee.specs.declared.protocol.phase.Kind.TheVariants.{Get, Insert, Remove, ComputePresent, ComputeInsert, Exchange}
use Rattle.congee.specs.declared.protocol.phase.Parent.{Parent}
use Rattle.congee.specs.declared.protocol.phase.Above.{Above as Over}
use Rattle.congee.specs.declared.protocol.phase.Site.{Site}
use Rattle.congee.specs.declared.protocol.phase.Placement.{Placement}
use Rattle.congee.specs.declared.protocol.phase.Placement.TheVariants.{Set, Link}
use Rattle.congee.specs.declared.protocol.phase.NodeChange.{NodeChange}
use Rattle.congee.specs.declared.protocol.phase.Replacement.{Replacement}
use Rattle.congee.specs.declared.protocol.phase.Replacement.TheVariants.{Split, Collapse, ShrinkAbove}
use Rattle.congee.specs.declared.protocol.phase.ParentChange.{ParentChange}
use Rattle.congee.specs.declared.protocol.phase.Plan.{Plan}
use Rattle.congee.specs.declared.protocol.phase.Plan.TheVariants.{Here, Above}
use Rattle.congee.specs.declared.protocol.phase.Phase.{Phase}
use Rattle.congee.specs.declared.protocol.phase.Phase.TheVariants.{New, Version, Read, Check, CheckUncopied, CheckMiss, CheckDown, CheckOld, MakeLeaf, MakeGreater, MakeTop, MakeBeside, MakeLesser, AskOld, AskNew, Confirm, CheckAbove, UpgradeHere, UpgradeTop, UpgradeAbove, UpgradeBelow, ChangeAbove, Retire, Unlock, Unwind, Scan}
use Rattle.congee.specs.declared.protocol.machine.Outcome.{Outcome}
use Rattle.congee.specs.declared.protocol.machine.Outcome.TheVariants.{Running, Asks, Found, Done, Scanned, Refused}
use Rattle.congee.specs.declared.protocol.machine.Move.{Move}
use Rattle.congee.specs.declared.protocol.machine.Machine.{Machine}
use Rattle.congee.specs.declared.protocol.run.Step.{Step}
use Rattle.congee.specs.declared.protocol.next_phase.NextPhase.{NextPhase}
use Rattle.congee.specs.Keys.{key_bytes}
use Rattle.congee.specs.protocol.Play.{NextAt}
use Rattle.congee.specs.declared.protocol.scan.Rung.{Rung}
use Rattle.congee.specs.declared.protocol.scan.Stage.{Stage}
use Rattle.congee.specs.declared.protocol.scan.Stage.TheVariants as stage
use Rattle.congee.specs.declared.protocol.scan.ScanState.{ScanState as ScanState}
use Rattle.congee.specs.declared.protocol.scan.ScanReport.{ScanReport}
use Rattle.congee.specs.declared.protocol.scan.ScanReport.TheVariants as scan_report
use Rattle.congee.specs.Heap.{Node, is_taken}
use Rattle.congee.specs.protocol.Events.{upgrade_gives}
use Rattle.congee.specs.Notes.{Note}
use Rattle.congee.specs.protocol.Causes.{NoneLeft, Uncounted, Causes, IsCause}
use Rattle.congee.specs.protocol.Protocol.{IsFailure, Known}
use Rattle.congee.specs.protocol.ScanEvents.{IsAny}
use Rattle.congee.specs.protocol.ScanKnown.{ScanKnownAt}
use Rattle.congee.specs.protocol.ScanSteps.{whole, is_outside, last_of, NextScan, anew, left_to, entered, begins, IsFollowed, ScanSteppedAt}
use Rattle.congee.specs.protocol.Steps.{shrinks, lesser_form, both, last_out, after_top, after_retire, after_unwind, given_up, again, refused, asking, CopyFailed as UncopiedNext, adds, asks_new, absent_reply, form_above, greater, after_version, after_read, down, started, ready, plan_here, unless_full, absent, IsAsked, replaced, taken_out, is_same, IsAtOld, IsAdded, IsExchanged, IsPresent, IsChecked, after_miss, IsGiven, IsGivenNew, MadeLeaf, MadeGreater, MadeTop, MadeBeside, MadeLesser, UpgradedHere, UpgradedTop, UpgradedAbove, UpgradedBelow, after_change, outcome_of, PhaseStepped}
use Rattle.congee.proofs.lemmas.Fits.{equal_of_test}
use Rattle.congee.proofs.lemmas.Graft.{on_test}
use Rattle.congee.proofs.lemmas.protocol.Touch.{by_test}

-- where a step may refuse for nothing but a refusal of Q
module _ (C V : Type 0) (Q : Refusal → Type 0) where
  abbrev Only : NextPhase C V → Type 0
  Only t = (e : Refusal) → t.report.outcome ≡ Refused e → Q e

  to : (x y : NextPhase C V) → y ≡ x → Only x → Only y
  to x y p f = subst (λ (z : NextPhase C V). Only z) (sym p) f

  runs : (e : Refusal) → ◌≡◌ {A = Outcome V} Running (Refused e) → Q e
  runs e p = let z : ◌≡◌ {A = Outcome V} Running (Refused e) = p in absurd cc

  wonders : (o : Option V) (e : Refusal) → ◌≡◌ {A = Outcome V} (Asks o) (Refused e) → Q e
  wonders o e p = let z : ◌≡◌ {A = Outcome V} (Asks o) (Refused e) = p in absurd cc

  answers : (r : Reply V) (e : Refusal) → ◌≡◌ {A = Outcome V} (Done r) (Refused e) → Q e
  answers r e p = let z : ◌≡◌ {A = Outcome V} (Done r) (Refused e) = p in absurd cc

  stops : (r : Refusal) → Q r → (e : Refusal) → ◌≡◌ {A = Outcome V} (Refused r) (Refused e) → Q e
  stops r q e p = let z : ◌≡◌ {A = Outcome V} (Refused r) (Refused e) = p in let y : r ≡ e = cc in subst Q y q

  starts : (plan : Plan C) (r : Reply V) → Only (started plan r)
  starts (Here None one) r = runs
  starts (Here (Some p) one) r = runs
  starts (Above two) r = runs

  readies : (kind : Kind V) (plan : Plan C) → Only (ready kind plan)
  readies kind plan = by_test (λ (z : NextPhase C V). Only z) (asks_new kind) _ _ (λ _. wonders None) (λ _. starts plan (absent_reply kind))

  unless : (kind : Kind V) (s : Site C) (full : Bool) (above : Option (Over C)) (leaf : Option C) (change : Placement C) → Only (unless_full kind s full above leaf change)
  unless kind s true (Some p) leaf change = runs
  unless kind s true None leaf change = readies kind (plan_here s change)
  unless kind s false above leaf change = readies kind (plan_here s change)

  absents : (kind : Kind V) (s : Site C) → Only (absent kind s)
  absents kind s = by_test (λ (z : NextPhase C V). Only z) (adds kind) _ _
      (λ _. by_test (λ (z : NextPhase C V). Only z) (s.depth == 7) _ _ (λ _. unless kind s s.full s.above None Set) (λ _. runs))
      (λ _. answers (absent_reply kind))

  replaces : (s : Site C) (b : Bool) (r : Reply V) → Only (replaced s b r)
  replaces s b r = by_test (λ (z : NextPhase C V). Only z) b _ _ (λ _. runs) (λ _. runs)

  last : (s : Site C) (p : Parent C) (top : Option (Parent C)) (r : Reply V) → Only (last_out s p top r)
  last s p None r = runs
  last s p (Some top) r = by_test (λ (z : NextPhase C V). Only z) (p.count == 2) _ _ (λ _. runs) (λ _. by_test (λ (z : NextPhase C V). Only z) (ltb 2 p.count && shrinks p.form p.count) _ _ (λ _. runs) (λ _. runs))

  takes_out : (s : Site C) (above : Option (Over C)) (r : Reply V) → Only (taken_out s above r)
  takes_out s None r = runs
  takes_out s (Some u) r = by_test (λ (z : NextPhase C V). Only z) (s.count == 1) _ _ (λ _. last s u.near u.far r) (λ _. by_test (λ (z : NextPhase C V). Only z) (shrinks s.form s.count) _ _ (λ _. runs) (λ _. runs))

  downs : (b : Bool) (s : Site C) (above : Option (Over C)) (c : C) → Only (down b s above c)
  downs false s above c = runs
  downs true s None c = runs
  downs true s (Some p) c = runs

  reads : (root : C) (above : Option (Over C)) (stamp : Stamp C) (r : Reading C V) → Only (after_read root above stamp r)
  reads root None stamp (Differs common byte) = runs
  reads root (Some p) stamp (Differs common byte) = runs
  reads root above stamp (Fits depth form s) = runs
  reads root above stamp Uncopied = runs

  versions : (root : C) (above : Option (Over C)) (n : C) (o : Option ℕ) → Only (after_version root above n o)
  versions root above n None = runs
  versions root above n (Some x) = runs

  if_taken : (taken : Bool) (root : C) (T : Type 0) (t : NextPhase C V) → (taken ≡ true → T) × (taken ≡ false → t ≡ again root) → (T → Only t) → Only t
  if_taken taken root T t x f = on_test taken (λ p. f (x.0 p)) (λ p. to _ t (x.1 p) runs)

  misses : (kind : Kind V) (p : Parent C) (stamp : Stamp C) (common byte : ℕ) → Only (after_miss kind p stamp common byte)
  misses kind p stamp common byte = by_test (λ (z : NextPhase C V). Only z) (adds kind) _ _ (λ _. runs) (λ _. answers (absent_reply kind))

  tops : (two : ParentChange C) (r : Reply V) (top : Option (Parent C)) → Only (after_top two r top)
  tops two r None = runs
  tops two r (Some top) = runs

  hands_on : (next : Option C) (last : C) (r : Reply V) → Only (after_retire next last r)
  hands_on None last r = runs
  hands_on (Some c) last r = runs

  changes : (two : ParentChange C) (r : Reply V) (change : Replacement C) → Only (after_change two r change)
  changes two r Collapse = tops two r two.top
  changes two r (ShrinkAbove c) = tops two r two.top
  changes two r _ = runs

  given_new : (plan : Plan C) (told : Option (Option V)) (v v' : Option V) (t : NextPhase C V) → IsGivenNew plan told v v' t → Only t
  given_new plan None v v' t x = to _ t x.1 (wonders None)
  given_new plan (Some None) v v' t x = to _ t x.1 (wonders None)
  given_new plan (Some (Some y)) v v' t x = to _ t x.1 (starts plan (reply.ComputeInsert None))

  -- where copies may fail, Q has their refusal
  module _ (always : Bool) (count : always ≡ false → Q refusal.Count) where
    uncounted : (x t : NextPhase C V) → (t ≡ x) ⊎ UncopiedNext always t → Only x → Only t
    uncounted x t (inl p) f = to x t p f
    uncounted x t (inr p) f = to (refused refusal.Count) t p.1 (stops refusal.Count (count p.0))

    asks : (s : Site C) (old : V) (t : NextPhase C V) → IsAsked always s old t → Only t
    asks s old t x = uncounted (asking (AskOld s old) (Some old)) t x (wonders (Some old))

    at_old : (same : V → V → Bool) (kind : Kind V) (new : Option V) (s : Site C) (old : V) (t : NextPhase C V) → IsAtOld always same kind new s old t → Only t
    at_old same Insert new s old t x = to _ t x (replaces s (is_same same old new) (reply.Insert (Some old)))
    at_old same _ new s old t x = asks s old t x

    adds_at : (same : V → V → Bool) (kind : Kind V) (new : Option V) (s : Site C) (above : Option (Over C)) (old : V) (t : NextPhase C V) → IsAdded always same kind new s above old t → Only t
    adds_at same kind new s None old t x = at_old same kind new s old t x
    adds_at same kind new s (Some p) old t x = to _ t x runs

    exchanges : (same : V → V → Bool) (new : Option V) (s : Site C) (old : V) (t : NextPhase C V) → IsExchanged always same new s old t → Only t
    exchanges same None s old t x = to _ t x (takes_out s s.above (reply.Exchange (Ok None)))
    exchanges same (Some u) s old t x = uncounted _ t x (replaces s (same old u) (reply.Exchange (Ok (Some u))))

    presents : (same : V → V → Bool) (kind : Kind V) (new : Option V) (s : Site C) (old : V) (t : NextPhase C V) → IsPresent always same kind new s old t → Only t
    presents same Get new s old t x = to _ t x (answers (reply.Get (Some old)))
    presents same Insert new s old t x = adds_at same Insert new s s.above old t x
    presents same Remove new s old t x = to _ t x (takes_out s s.above (reply.Remove (Some old)))
    presents same ComputePresent new s old t x = asks s old t x
    presents same ComputeInsert new s old t x = adds_at same ComputeInsert new s s.above old t x
    presents same (Exchange w) new s old t x = on_test (same old w) (λ p. exchanges same new s old t (x.0 p)) (λ p. to _ t (x.1 p) runs)

    checks : (same : V → V → Bool) (kind : Kind V) (new : Option V) (s : Site C) (c : Child C V) (t : NextPhase C V) → IsChecked always same kind new s c t → Only t
    checks same kind new s child.Blank t x = to _ t x (absents kind s)
    checks same kind new s (child.Node c) t x = to _ t x (downs (adds kind) s s.above c)
    checks same kind new s (child.Value old) t x = presents same kind new s old t x

    given : (same : V → V → Bool) (kind : Kind V) (s : Site C) (old : V) (told : Option (Option V)) (v v' : Option V) (t : NextPhase C V) → IsGiven always same kind s old told v v' t → Only t
    given same kind s old None v v' t x = asks s old t x.1
    given same ComputeInsert s old (Some None) v v' t x = asks s old t x.1
    given same ComputeInsert s old (Some (Some y)) v v' t x = to _ t x.1 (replaces s (same old y) (reply.ComputeInsert (Some old)))
    given same Get s old (Some None) v v' t x = to _ t x.1 (takes_out s s.above (reply.ComputePresent (Some (old, None))))
    given same Insert s old (Some None) v v' t x = to _ t x.1 (takes_out s s.above (reply.ComputePresent (Some (old, None))))
    given same Remove s old (Some None) v v' t x = to _ t x.1 (takes_out s s.above (reply.ComputePresent (Some (old, None))))
    given same ComputePresent s old (Some None) v v' t x = to _ t x.1 (takes_out s s.above (reply.ComputePresent (Some (old, None))))
    given same (Exchange w) s old (Some None) v v' t x = to _ t x.1 (takes_out s s.above (reply.ComputePresent (Some (old, None))))
    given same Get s old (Some (Some y)) v v' t x = uncounted _ t x.1 (replaces s (same old y) (reply.ComputePresent (Some (old, Some y))))
    given same Insert s old (Some (Some y)) v v' t x = uncounted _ t x.1 (replaces s (same old y) (reply.ComputePresent (Some (old, Some y))))
    given same Remove s old (Some (Some y)) v v' t x = uncounted _ t x.1 (replaces s (same old y) (reply.ComputePresent (Some (old, Some y))))
    given same ComputePresent s old (Some (Some y)) v v' t x = uncounted _ t x.1 (replaces s (same old y) (reply.ComputePresent (Some (old, Some y))))
    given same (Exchange w) s old (Some (Some y)) v v' t x = uncounted _ t x.1 (replaces s (same old y) (reply.ComputePresent (Some (old, Some y))))

-- an upgrade is refused at the limit alone
last_version : {V : Type 0} (most : ℕ) (n : Node V) (v : ℕ) (fail : Bool) → Exhausted ≡ upgrade_gives most n v fail → v ≡ most
last_version most n v fail e = equal_of_test v most (by_limit (v == most) _ (λ b. by_word b) e) where
  by_word : (b : Bool) → Exhausted ≡ cond b Locked Failed → ⊥
  by_word true x = absurd cc
  by_word false x = absurd cc

  by_limit : (b c : Bool) → ((d : Bool) → Exhausted ≡ cond d Locked Failed → ⊥) → Exhausted ≡ cond b Exhausted (cond c Locked Failed) → b ≡ true
  by_limit true c f x = refl
  by_limit false c f x = absurd (f c x)

-- a scan is refused where a value could not be copied
module _ {C V : Type 0} (number : C → ℕ) (always : Bool) (root : C) (s : ScanState C V) where
  abbrev Told_only : NextScan C V → Type 0
  Told_only u = (e : Refusal) → u.1 ≡ scan_report.Refused e → Uncounted always e

  told_to : (x y : NextScan C V) → y ≡ x → Told_only x → Told_only y
  told_to x y p f = subst (λ (z : NextScan C V). Told_only z) (sym p) f

  told_runs : (e : Refusal) → ◌≡◌ {A = ScanReport V} scan_report.Running (scan_report.Refused e) → Uncounted always e
  told_runs e p = let z : ◌≡◌ {A = ScanReport V} scan_report.Running (scan_report.Refused e) = p in absurd cc

  told_done : (n : ℕ) (e : Refusal) → ◌≡◌ {A = ScanReport V} (scan_report.Done n) (scan_report.Refused e) → Uncounted always e
  told_done n e p = let z : ◌≡◌ {A = ScanReport V} (scan_report.Done n) (scan_report.Refused e) = p in absurd cc

  told_left : (y : ScanState C V) (o : Option (Rung C)) → Told_only (left_to y o)
  told_left y None = told_done _
  told_left y (Some r) = told_runs

  told_entered : (y : ScanState C V) (n : C) (x : Region) (o : Option ℕ) → Told_only (entered root y n x o)
  told_entered y n x None = told_runs
  told_entered y n x (Some v) = by_test (λ (z : NextScan C V). Told_only z) (is_outside y.start y.last x) _ _ (λ _. told_left y (last_of y.above)) (λ _. told_runs)

  told_begun : (o : Option ℕ) → Told_only (begins root s o)
  told_begun o = by_test (λ (z : NextScan C V). Told_only z) (s.size == 0) _ _ (λ _. told_done _) (λ _. told_entered (anew root s).0 root whole o)

  told_followed : (h : ℕ → Node V) (r : Rung C) (x : Least C V) (u : NextScan C V) → IsAny always x → IsFollowed number h s r x u → Told_only u
  told_followed h r least.Nothing u a p = told_to _ u p (told_left s (last_of s.above))
  told_followed h r (least.Node byte c) u a p = told_to _ u p.2 told_runs
  told_followed h r (least.Value byte v) u a p = told_to _ u p (λ e q. let z : ◌≡◌ {A = ScanReport V} (scan_report.Found s.count _ v) (scan_report.Refused e) = q in absurd cc)
  told_followed h r least.Uncopied u a p = told_to _ u p (λ e q. let z : ◌≡◌ {A = ScanReport V} (scan_report.Refused refusal.Count) (scan_report.Refused e) = q in record { count = let y : refusal.Count ≡ e = cc in sym y; may_fail = a })

  told_after_scan : (a : ℕ → Note) (h : ℕ → Node V) (x : Stage C V) (u : NextScan C V) → ScanKnownAt number always a h s x → ScanSteppedAt number always root s x h u → Told_only u
  told_after_scan a h stage.New u k p = told_to _ u p (told_begun _)
  told_after_scan a h (stage.Enter n x) u k p = told_to _ u p (told_entered s n x _)
  told_after_scan a h (stage.Look r) u k p = told_to _ u p.2 told_runs
  told_after_scan a h (stage.Check r x) u k p = on_test (is_taken (h (number r.at.node)) r.at.version) (λ t. told_followed h r x u k.2 (p.goes_on t)) (λ t. told_to _ u (p.goes_back t) told_runs)
  told_after_scan a h stage.Full u k p = told_to _ u p (told_done _)
  told_after_scan a h stage.Over u k p = told_to _ u p told_runs

  told_cause : (o : ScanReport V) → ((e : Refusal) → o ≡ scan_report.Refused e → Uncounted always e) → (e : Refusal) → outcome_of o ≡ Refused e → Uncounted always e
  told_cause scan_report.Running f e p = let z : ◌≡◌ {A = Outcome V} Running (Refused e) = p in absurd cc
  told_cause (scan_report.Found place key v) f e p = let z : ◌≡◌ {A = Outcome V} (Found place key v) (Refused e) = p in absurd cc
  told_cause (scan_report.Done n) f e p = let z : ◌≡◌ {A = Outcome V} (Scanned n) (Refused e) = p in absurd cc
  told_cause (scan_report.Refused r) f e p = let z : ◌≡◌ {A = Outcome V} (Refused r) (Refused e) = p in let y : r ≡ e = cc in subst (Uncounted always) y (f r refl)

module _ {C V : Type 0} (number : C → ℕ) (same : V → V → Bool) (always : Bool) (most : ℕ) (why : NodeType → Refusal → Type 0) (i : ℕ) (a : ℕ → Note) (h h' : ℕ → Node V) (k : ℕ) (key : List ℕ) (root : C) (kind : Kind V) (fail : Bool) (answer : Option (Option V)) where
  abbrev By : Phase C V → Refusal → Type 0
  By s e = Causes why most always s e

  count : always ≡ false → Uncounted always refusal.Count
  count p = record { count = refl; may_fail = p }

  leaf_made : (s : Site C) (r : Result C Refusal) (t : NextPhase C V) → MadeLeaf number kind s h key r h' t → (e : Refusal) → t.report.outcome ≡ Refused e → r ≡ Err e
  leaf_made s (Ok c) t g e p = absurd (to C V (λ _. ⊥) _ t g.1 (unless C V (λ _. ⊥) kind s s.full s.above (Some c) (Link c)) e p)
  leaf_made s (Err r) t g e p = to C V (λ x. ◌≡◌ {A = Result C Refusal} (Err r) (Err x)) _ t g.1 (stops C V (λ x. ◌≡◌ {A = Result C Refusal} (Err r) (Err x)) r refl) e p

  greater_made : (s : Site C) (above : Parent C) (leaf : Option C) (r : Result C Refusal) (t : NextPhase C V) → MadeGreater number kind s above leaf h key r h' t → (e : Refusal) → t.report.outcome ≡ Refused e → r ≡ Err e
  greater_made s above leaf (Ok c) t g e p = absurd (to C V (λ _. ⊥) _ t g.1 (readies C V (λ _. ⊥) kind (Above (both above s (greater s leaf c)))) e p)
  greater_made s above leaf (Err r) t g e p = to C V (λ x. ◌≡◌ {A = Result C Refusal} (Err r) (Err x)) _ t g.1 (stops C V (λ x. ◌≡◌ {A = Result C Refusal} (Err r) (Err x)) r refl) e p

  top_made : (above : Parent C) (at : Stamp C) (common byte : ℕ) (r : Result C Refusal) (t : NextPhase C V) → MadeTop number above at common byte h key r h' t → (e : Refusal) → t.report.outcome ≡ Refused e → r ≡ Err e
  top_made above at common byte (Ok c) t g e p = absurd (to C V (λ _. ⊥) _ t g.1 (runs C V (λ _. ⊥)) e p)
  top_made above at common byte (Err r) t g e p = to C V (λ x. ◌≡◌ {A = Result C Refusal} (Err r) (Err x)) _ t g.1 (stops C V (λ x. ◌≡◌ {A = Result C Refusal} (Err r) (Err x)) r refl) e p

  beside_made : (above : Parent C) (at : Stamp C) (common byte : ℕ) (top : C) (r : Result C Refusal) (t : NextPhase C V) → MadeBeside number kind above at common byte top h key r h' t → (e : Refusal) → t.report.outcome ≡ Refused e → r ≡ Err e
  beside_made above at common byte top (Ok c) t g e p = absurd (to C V (λ _. ⊥) _ t g.1 (readies C V (λ _. ⊥) kind (Above (record { top = None; above = above; at = at; change = Split top c common byte }))) e p)
  beside_made above at common byte top (Err r) t g e p = to C V (λ x. ◌≡◌ {A = Result C Refusal} (Err r) (Err x)) _ t g.1 (stops C V (λ x. ◌≡◌ {A = Result C Refusal} (Err r) (Err x)) r refl) e p

  lesser_made : (s : Site C) (p : Parent C) (top : Option (Parent C)) (r : Reply V) (x : Result C Refusal) (t : NextPhase C V) → MadeLesser number s p top r h key x h' t → Only C V (λ _. ⊥) t
  lesser_made s p None r (Ok c) t g = to C V _ _ t g.1 (runs C V _)
  lesser_made s p None r (Err e) t g = to C V _ _ t g.1 (runs C V _)
  lesser_made s p (Some top) r (Ok c) t g = to C V _ _ t g.1 (runs C V _)
  lesser_made s p (Some top) r (Err e) t g = to C V _ _ t g.1 (runs C V _)

  refused_make : (form : NodeType) (r : Result C Refusal) → IfErr r (why form) → (e : Refusal) → r ≡ Err e → why form e
  refused_make form r f e p = let P : Result C Refusal → Type 0 = λ x. IfErr x (why form) in subst P p f

  none_left : (n : Node V) (v : ℕ) → Exhausted ≡ upgrade_gives most n v fail → NoneLeft most v refusal.Exhausted
  none_left n v e = record { exhausted = refl; last = last_version most n v fail e }

  one_upgraded : (one : NodeChange C) (r : Reply V) (u : Upgrade) (t : NextPhase C V) → u ≡ upgrade_gives most (h (number one.at.node)) one.at.version fail → UpgradedHere number root one r h u h' t → Only C V (NoneLeft most one.at.version) t
  one_upgraded one r Locked t q g = to C V _ _ t g.1 (runs C V _)
  one_upgraded one r Failed t q g = to C V _ _ t g.1 (runs C V _)
  one_upgraded one r Exhausted t q g = to C V _ _ t g.1 (stops C V _ refusal.Exhausted (none_left (h (number one.at.node)) one.at.version q))

  above_upgraded : (two : ParentChange C) (r : Reply V) (u : Upgrade) (t : NextPhase C V) → u ≡ upgrade_gives most (h (number two.above.stamp.node)) two.above.stamp.version fail → UpgradedAbove number root two r h u h' t → Only C V (NoneLeft most two.above.stamp.version) t
  above_upgraded two r Locked t q g = to C V _ _ t g.1 (runs C V _)
  above_upgraded two r Failed t q g = to C V _ _ t g.1 (gives_up two.top)
    where
      gives_up : (top : Option (Parent C)) → Only C V (NoneLeft most two.above.stamp.version) (given_up root top None)
      gives_up None = runs C V _
      gives_up (Some top) = runs C V _
  above_upgraded two r Exhausted t q g = to C V _ _ t g.1 (gives_up two.top)
    where
      gives_up : (top : Option (Parent C)) → Only C V (NoneLeft most two.above.stamp.version) (given_up root top (Some refusal.Exhausted))
      gives_up None = stops C V _ refusal.Exhausted (none_left (h (number two.above.stamp.node)) two.above.stamp.version q)
      gives_up (Some top) = runs C V _

  top_upgraded : (top : Parent C) (two : ParentChange C) (r : Reply V) (u : Upgrade) (t : NextPhase C V) → u ≡ upgrade_gives most (h (number top.stamp.node)) top.stamp.version fail → UpgradedTop number root top two r h u h' t → Only C V (NoneLeft most top.stamp.version) t
  top_upgraded top two r Locked t q g = to C V _ _ t g.1 (runs C V _)
  top_upgraded top two r Failed t q g = to C V _ _ t g.1 (runs C V _)
  top_upgraded top two r Exhausted t q g = to C V _ _ t g.1 (stops C V _ refusal.Exhausted (none_left (h (number top.stamp.node)) top.stamp.version q))

  both_upgraded : (two : ParentChange C) (r : Reply V) (u : Upgrade) (t : NextPhase C V) → UpgradedBelow number two r h u h' t → Only C V (λ _. ⊥) t
  both_upgraded two r Locked t g = to C V _ _ t g.1 (runs C V _)
  both_upgraded two r Failed t g = to C V _ _ t g.1 (runs C V _)
  both_upgraded two r Exhausted t g = to C V _ _ t g.1 (runs C V _)

  unwinds : (next : Option C) (o : Option Refusal) (t : NextPhase C V) → IsFailure o → t ≡ after_unwind root next o → Only C V (λ e. e ≡ refusal.Exhausted) t
  unwinds None None t f p = to C V _ _ t p (runs C V _)
  unwinds None (Some r) t f p = to C V _ _ t p (stops C V _ r f)
  unwinds (Some c) o t f p = to C V _ _ t p (runs C V _)

  only : (new : Option V) (s : Phase C V) (new' : Option V) (t : NextPhase C V) → Known number same always i a h k key kind new s → PhaseStepped number same always most why root key kind fail answer new s h new' t h' → Only C V (By s) t
  only new New new' t x g = to C V _ _ t g.2 (versions C V _ root None root _)
  only new (Version above n) new' t x g = to C V _ _ t g.2 (versions C V _ root above n _)
  only new (Read above at) new' t x g = to C V _ _ t g.2.2 (reads C V _ root above at g.2.0)
  only new (Check s c) new' t x g = if_taken C V _ _ root _ t g.2 (λ y. checks C V _ always count same kind new s c t y)
  only new (CheckUncopied at) new' t x g = if_taken C V _ _ root _ t g.2 (λ y. to C V _ _ t y (stops C V _ refusal.Count (count x.2)))
  only new (CheckMiss p at common byte) new' t x g = if_taken C V _ _ root _ t g.2 (λ y. to C V _ _ t y (misses C V _ kind p at common byte))
  only new (CheckDown p at c) new' t x g = if_taken C V _ _ root _ t g.2 (λ y. to C V _ _ t y (runs C V _))
  only new (CheckOld p s v) new' t x g = if_taken C V _ _ root _ t g.2 (λ y. at_old C V _ always count same kind new s v t y)
  only new (MakeLeaf s) new' t x g = λ e p. refused_make N4 g.1.0 g.1.2 e (leaf_made s g.1.0 t g.1.1 e p)
  only new (MakeGreater s p leaf) new' t x g = λ e q. refused_make (form_above s.count) g.1.0 g.1.2 e (greater_made s p leaf g.1.0 t g.1.1 e q)
  only new (MakeTop p at common byte) new' t x g = λ e q. refused_make N4 g.1.0 g.1.2 e (top_made p at common byte g.1.0 t g.1.1 e q)
  only new (MakeBeside p at common byte top) new' t x g = λ e q. refused_make N4 g.1.0 g.1.2 e (beside_made p at common byte top g.1.0 t g.1.1 e q)
  only new (MakeLesser s p top r) new' t x g = lesser_made s p top r g.1.0 t g.1.1
  only new (AskOld s v) new' t x g = given C V _ always count same kind s v answer new new' t g.1
  only new (AskNew plan) new' t x g = given_new C V _ plan answer new new' t g.1
  only new (Confirm at r) new' t x g = if_taken C V _ _ root _ t g.2 (λ y. to C V _ _ t y (answers C V _ r))
  only new (CheckAbove p one r) new' t x g = on_test (is_taken (h (number p.node)) p.version) (λ e. to C V _ _ t (g.1.goes_on e).1 (runs C V _)) (λ e. to C V _ _ t (g.1.goes_back e).1 (runs C V _))
  only new (UpgradeHere one r) new' t x g = one_upgraded one r g.1.0 t g.1.1 g.1.2
  only new (UpgradeTop top two r) new' t x g = top_upgraded top two r g.1.0 t g.1.1 g.1.2
  only new (UpgradeAbove two r) new' t x g = above_upgraded two r g.1.0 t g.1.1 g.1.2
  only new (UpgradeBelow two r) new' t x g = both_upgraded two r g.1.0 t g.1.2
  only new (ChangeAbove two r) new' t x g = to C V _ _ t g.2 (changes C V _ two r two.change)
  only new (Retire n next p r) new' t x g = to C V _ _ t g.2 (hands_on C V _ next p r)
  only new (Unlock n r) new' t x g = to C V _ _ t g.2 (answers C V _ r)
  only new (Unwind n next e) new' t x g = unwinds next e t x.3 g.2
  only new (Scan s) new' t x g = λ e p. told_cause number always root s g.2.1 (told_after_scan number always root s a h s.stage (g.2.0, g.2.1) x g.2.2) e (sym (ap (λ (u : NextPhase C V). u.report.outcome) g.2.3) ∙ p)
  only new _ new' t x g = to C V _ _ t g.2 (runs C V _)

  by_outcome : (s : Phase C V) (o : Outcome V) → ((e : Refusal) → o ≡ Refused e → By s e) → IsCause why most always s o
  by_outcome s (Refused e) f = f e refl
  by_outcome s _ f = tt

  -- a step that is refused has its cause
  pub caused : (new : Option V) (s : Phase C V) (new' : Option V) (t : NextPhase C V) → Known number same always i a h k key kind new s → PhaseStepped number same always most why root key kind fail answer new s h new' t h' → IsCause why most always s t.report.outcome
  caused new s new' t x g = by_outcome s t.report.outcome (only new s new' t x g)

-- what a store says of its refusals, said more weakly
module _ {C V : Type 0} (number : C → ℕ) (same : V → V → Bool) (always : Bool) (most : ℕ) (near far : NodeType → Refusal → Type 0) where
  err_weaker : (form : NodeType) (r : Result C Refusal) → ((form : NodeType) (e : Refusal) → near form e → far form e) → IfErr r (near form) → IfErr r (far form)
  err_weaker form (Ok c) f x = tt
  err_weaker form (Err e) f x = f form e x

  step_weaker : (root : C) (key : List ℕ) (kind : Kind V) (fail : Bool) (answer : Option (Option V)) (new : Option V) (s : Phase C V) (h : ℕ → Node V) (new' : Option V) (t : NextPhase C V) (h' : ℕ → Node V)
      → ((form : NodeType) (e : Refusal) → near form e → far form e) → PhaseStepped number same always most near root key kind fail answer new s h new' t h' → PhaseStepped number same always most far root key kind fail answer new s h new' t h'
  step_weaker root key kind fail answer new (MakeLeaf s) h new' t h' f g = (g.0, (g.1.0, g.1.1, err_weaker N4 g.1.0 f g.1.2))
  step_weaker root key kind fail answer new (MakeGreater s p leaf) h new' t h' f g = (g.0, (g.1.0, g.1.1, err_weaker (form_above s.count) g.1.0 f g.1.2))
  step_weaker root key kind fail answer new (MakeTop p at common byte) h new' t h' f g = (g.0, (g.1.0, g.1.1, err_weaker N4 g.1.0 f g.1.2))
  step_weaker root key kind fail answer new (MakeBeside p at common byte top) h new' t h' f g = (g.0, (g.1.0, g.1.1, err_weaker N4 g.1.0 f g.1.2))
  step_weaker root key kind fail answer new (MakeLesser s p top r) h new' t h' f g = (g.0, (g.1.0, g.1.1, err_weaker (lesser_form s p top) g.1.0 f g.1.2))
  step_weaker root key kind fail answer new _ h new' t h' f g = g

  cause_weaker : (s : Phase C V) (e : Refusal) → ((form : NodeType) (e : Refusal) → near form e → far form e) → Causes near most always s e → Causes far most always s e
  cause_weaker (MakeLeaf s) e f x = f N4 e x
  cause_weaker (MakeGreater s p leaf) e f x = f (form_above s.count) e x
  cause_weaker (MakeTop p at common byte) e f x = f N4 e x
  cause_weaker (MakeBeside p at common byte top) e f x = f N4 e x
  cause_weaker _ e f x = x

  is_weaker : (s : Phase C V) (o : Outcome V) → ((form : NodeType) (e : Refusal) → near form e → far form e) → IsCause near most always s o → IsCause far most always s o
  is_weaker s (Refused e) f x = cause_weaker s e f x
  is_weaker s _ f x = tt

  -- a step on a store that refuses nodes for some reasons is one on a store that may do so for more
  pub next_weaker : (h : ℕ → Node V) (ms : List (Machine C V)) (o : Option (Machine C V)) (s : Step C V) (d : Move V) (h' : ℕ → Node V) (ms' : List (Machine C V)) → ((form : NodeType) (e : Refusal) → near form e → far form e)
      → NextAt number same always most near h ms o s d h' ms' → NextAt number same always most far h ms o s d h' ms'
  next_weaker h ms None s d h' ms' f g = g
  next_weaker h ms (Some m) s d h' ms' f g = (
    g.0,
    record {
      root = g.1.root;
      key = g.1.key;
      kind = g.1.kind;
      step = step_weaker m.root (key_bytes m.key) m.kind s.noise.fail s.noise.answer m.given m.phase h g.0.given (record { phase = g.0.phase; report = d }) h' f g.1.step;
    },
    is_weaker m.phase d.outcome f g.2,
    g.3,
  )
