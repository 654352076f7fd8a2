-- A step of a call on a key reports the call's end exactly where it ends the call.
use Rattle.std.proofs.Common.{◌≡◌, ℕ, ◌==◌, Bool, true, false, cond, List, refl, sym, subst, inl, inr}
use Rattle.std.specs.Prelude.{not, ltb, ◌&&◌, Option, None, Some, Result, Ok, Err}
use Rattle.judge.specs.declared.journal.Reply.{Reply}
use Rattle.congee.specs.declared.forms.base_node.NodeType.{NodeType}
use Rattle.congee.specs.declared.forms.child.Child.{Child}
use Rattle.congee.specs.declared.forms.child.Child.TheVariants as child
use Rattle.congee.specs.declared.protocol.machine.Machine.{Machine}
use Rattle.congee.specs.declared.protocol.machine.Move.{Move}
use Rattle.congee.specs.declared.protocol.machine.Outcome.{Outcome}
use Rattle.congee.specs.declared.protocol.machine.Outcome.TheVariants.{Running, Asks, Found, Done, Scanned, Refused}
use Rattle.congee.specs.declared.protocol.phase.Replacement.{Replacement}
use Rattle.congee.specs.declared.protocol.phase.Replacement.TheVariants.{Unlink, Grow, GrowLink, Split, Shrink, Collapse, ShrinkAbove}
use Rattle.congee.specs.declared.protocol.phase.Kind.{Kind}
use Rattle.congee.specs.declared.protocol.phase.Kind.TheVariants.{Get, Insert, Remove, ComputePresent, ComputeInsert, Exchange}
use Rattle.congee.specs.declared.protocol.phase.NodeChange.{NodeChange}
use Rattle.congee.specs.declared.protocol.phase.Above.{Above as Over}
use Rattle.congee.specs.declared.protocol.phase.Parent.{Parent}
use Rattle.congee.specs.declared.protocol.phase.Phase.{Phase}
use Rattle.congee.specs.declared.protocol.phase.Phase.TheVariants.{New, Version, Read, Check, CheckUncopied, CheckMiss, CheckDown, CheckOld, MakeLeaf, MakeGreater, MakeTop, MakeBeside, MakeLesser, AskOld, AskNew, Confirm, CheckAbove, UpgradeHere, ChangeHere, UpgradeTop, UpgradeAbove, UpgradeBelow, ChangeAbove, Obsolete, Retire, UnlockBelow, Unlock, Unwind, Scan, Ended}
use Rattle.congee.specs.declared.protocol.phase.Plan.{Plan}
use Rattle.congee.specs.declared.protocol.phase.Plan.TheVariants.{Here, Above}
use Rattle.congee.specs.declared.protocol.phase.Placement.{Placement}
use Rattle.congee.specs.declared.protocol.phase.Placement.TheVariants.{Set}
use Rattle.congee.specs.declared.protocol.phase.Site.{Site}
use Rattle.congee.specs.declared.protocol.phase.ParentChange.{ParentChange}
use Rattle.congee.specs.declared.protocol.store.Reading.{Reading}
use Rattle.congee.specs.declared.protocol.store.Reading.TheVariants.{Differs, Fits, Uncopied}
use Rattle.congee.specs.declared.protocol.store.Refusal.{Refusal}
use Rattle.congee.specs.declared.protocol.store.Refusal.TheVariants as refusal
use Rattle.congee.specs.declared.protocol.store.Stamp.{Stamp}
use Rattle.congee.specs.declared.protocol.store.Upgrade.{Upgrade}
use Rattle.congee.specs.declared.protocol.store.Upgrade.TheVariants.{Locked, Failed, Exhausted}
use Rattle.congee.specs.declared.protocol.next_phase.NextPhase.{NextPhase}
use Rattle.congee.specs.Heap.{Node, is_taken}
use Rattle.congee.specs.protocol.Steps.{quiet, again, answered, refused, adds, asks_new, absent_reply, after_version, after_read, down, started, ready, unless_full, missing, absent, CopyFailed, IsAsked, replaced, last_out, taken_out, shrinks, IsAtOld, IsAdded, IsExchanged, IsCompared, IsPresent, IsChecked, IsIf, after_miss, IsGiven, IsGivenNew, MadeLeaf, MadeGreater, MadeTop, MadeBeside, MadeLesser, IsCheckedAbove, UpgradedHere, UpgradedTop, UpgradedAbove, UpgradedBelow, after_change, after_top, after_retire, after_unwind, given_up, unwound, PhaseStepped, Stepped}
use Rattle.congee.specs.protocol.State.{is_over}
use Rattle.joint.specs.declared.id.Id.{Id}
use Rattle.joint.specs.engine.Sound.{IsUnderWay}

-- the call is one on a key, and no scan
abbrev pub IsOnKey : {V : Type 0} → Phase Id V → Type 0
IsOnKey (Scan s) = ⊥
IsOnKey _ = Unit {0}

-- whether the call goes on after such a report
abbrev pub goes_on_after : {V : Type 0} → Outcome V → Bool
goes_on_after Running = true
goes_on_after (Asks found) = true
goes_on_after (Found place key value) = true
goes_on_after (Done reply) = false
goes_on_after (Scanned count) = false
goes_on_after (Refused cause) = false

-- what a step leaves has ended where its report says so, and is no scan
abbrev Tells : {V : Type 0} → NextPhase Id V → Type 0
Tells t = (is_over t.phase ≡ not (goes_on_after t.report.outcome)) × IsOnKey t.phase

version : (V : Type 0) (root : Id) (above : Option (Over Id)) (n : Id) (o : Option ℕ) → Tells (after_version {V = V} root above n o)
version V root above n None = (refl, tt)
version V root above n (Some v) = (refl, tt)

going_down : (V : Type 0) (b : Bool) (s : Site Id) (above : Option (Over Id)) (c : Id) → Tells (down {V = V} b s above c)
going_down V false s above c = (refl, tt)
going_down V true s None c = (refl, tt)
going_down V true s (Some p) c = (refl, tt)

unwinding : (V : Type 0) (root : Id) (e : Option Refusal) → Tells (unwound {V = V} root e)
unwinding V root None = (refl, tt)
unwinding V root (Some e) = (refl, tt)

giving_up : (V : Type 0) (root : Id) (top : Option (Parent Id)) (e : Option Refusal) → Tells (given_up {V = V} root top e)
giving_up V root None e = unwinding V root e
giving_up V root (Some g) e = (refl, tt)

going_back : (V : Type 0) (root : Id) (next : Option Id) (e : Option Refusal) → Tells (after_unwind {V = V} root next e)
going_back V root None e = unwinding V root e
going_back V root (Some n) e = (refl, tt)

module _ {V : Type 0} where
  by : (t u : NextPhase Id V) → t ≡ u → Tells u → Tells t
  by t u e x = let P : NextPhase Id V → Type 0 = λ y. Tells y in subst P (sym e) x

  by_cond : (b : Bool) (t u : NextPhase Id V) → Tells t → Tells u → Tells (cond b t u)
  by_cond true t u x y = x
  by_cond false t u x y = y

  by_if : (b : Bool) (root : Id) (Then : NextPhase Id V → Type 0) (t : NextPhase Id V) → (Then t → Tells t) → IsIf b root Then t → Tells t
  by_if true root Then t f x = f (x.0 refl)
  by_if false root Then t f x = by t (again root) (x.1 refl) (refl, tt)

  by_same : (b : Bool) (root : Id) (v t : NextPhase Id V) → Tells v → IsIf b root (λ u. u ≡ v) t → Tells t
  by_same b root v t h x = by_if b root (λ u. u ≡ v) t (λ e. by t v e h) x

  reading : (root : Id) (above : Option (Over Id)) (at : Stamp Id) (r : Reading Id V) → Tells (after_read root above at r)
  reading root None at (Differs common byte) = (refl, tt)
  reading root (Some p) at (Differs common byte) = (refl, tt)
  reading root above at (Fits depth form s) = (refl, tt)
  reading root above at Uncopied = (refl, tt)

  starting : (plan : Plan Id) (r : Reply V) → Tells (started plan r)
  starting (Here None one) r = (refl, tt)
  starting (Here (Some p) one) r = (refl, tt)
  starting (Above two) r = (refl, tt)

  readying : (kind : Kind V) (plan : Plan Id) → Tells (ready kind plan)
  readying kind plan = by_cond (asks_new kind) _ _ (refl, tt) (starting plan (absent_reply kind))

  filling : (kind : Kind V) (s : Site Id) (full : Bool) (above : Option (Over Id)) (leaf : Option Id) (change : Placement Id) → Tells (unless_full kind s full above leaf change)
  filling kind s true (Some p) leaf change = (refl, tt)
  filling kind s true None leaf change = readying kind _
  filling kind s false above leaf change = readying kind _

  lacking : (kind : Kind V) (s : Site Id) → Tells (absent kind s)
  lacking kind s = by_cond (adds kind) (missing kind s) (answered (absent_reply kind)) (by_cond (s.depth == 7) (unless_full kind s s.full s.above None Set) (quiet (MakeLeaf s)) (filling kind s s.full s.above None Set) (refl, tt)) (refl, tt)

  uncopied : (always : Bool) (t : NextPhase Id V) → CopyFailed always t → Tells t
  uncopied always t x = by t _ x.1 (refl, tt)

  asked : (always : Bool) (s : Site Id) (v : V) (t : NextPhase Id V) → IsAsked always s v t → Tells t
  asked always s v t (inl e) = by t _ e (refl, tt)
  asked always s v t (inr f) = uncopied always t f

  replacing : (s : Site Id) (b : Bool) (r : Reply V) → Tells (replaced s b r)
  replacing s b r = by_cond b _ _ (refl, tt) (refl, tt)

  last_taking : (s : Site Id) (p : Parent Id) (top : Option (Parent Id)) (r : Reply V) → Tells (last_out s p top r)
  last_taking s p None r = (refl, tt)
  last_taking s p (Some g) r = by_cond (p.count == 2) _ _ (refl, tt) (by_cond (ltb 2 p.count && shrinks p.form p.count) _ _ (refl, tt) (refl, tt))

  taking : (s : Site Id) (above : Option (Over Id)) (r : Reply V) → Tells (taken_out s above r)
  taking s None r = (refl, tt)
  taking s (Some u) r = by_cond (s.count == 1) _ _ (last_taking s u.near u.far r) (by_cond (shrinks s.form s.count) _ _ (refl, tt) (refl, tt))

  at_old : (always : Bool) (same : V → V → Bool) (kind : Kind V) (new : Option V) (s : Site Id) (v : V) (t : NextPhase Id V) → IsAtOld always same kind new s v t → Tells t
  at_old always same Insert new s v t x = by t _ x (replacing s _ _)
  at_old always same _ new s v t x = asked always s v t x

  adding : (always : Bool) (same : V → V → Bool) (kind : Kind V) (new : Option V) (s : Site Id) (above : Option (Over Id)) (v : V) (t : NextPhase Id V) → IsAdded always same kind new s above v t → Tells t
  adding always same kind new s None v t x = at_old always same kind new s v t x
  adding always same kind new s (Some p) v t x = by t _ x (refl, tt)

  exchanging : (always : Bool) (same : V → V → Bool) (new : Option V) (s : Site Id) (v : V) (t : NextPhase Id V) → IsExchanged always same new s v t → Tells t
  exchanging always same None s v t x = by t _ x (taking s _ _)
  exchanging always same (Some w) s v t (inl x) = by t _ x (replacing s _ _)
  exchanging always same (Some w) s v t (inr f) = uncopied always t f

  comparing : (found always : Bool) (same : V → V → Bool) (new : Option V) (s : Site Id) (v : V) (t : NextPhase Id V) → IsCompared found always same new s v t → Tells t
  comparing true always same new s v t x = exchanging always same new s v t (x.0 refl)
  comparing false always same new s v t x = by t _ (x.1 refl) (refl, tt)

  present : (always : Bool) (same : V → V → Bool) (kind : Kind V) (new : Option V) (s : Site Id) (v : V) (t : NextPhase Id V) → IsPresent always same kind new s v t → Tells t
  present always same Get new s v t x = by t _ x (refl, tt)
  present always same Insert new s v t x = adding always same Insert new s s.above v t x
  present always same Remove new s v t x = by t _ x (taking s _ _)
  present always same ComputePresent new s v t x = asked always s v t x
  present always same ComputeInsert new s v t x = adding always same ComputeInsert new s s.above v t x
  present always same (Exchange old) new s v t x = comparing (same v old) always same new s v t x

  checked : (always : Bool) (same : V → V → Bool) (kind : Kind V) (new : Option V) (s : Site Id) (c : Child Id V) (t : NextPhase Id V) → IsChecked always same kind new s c t → Tells t
  checked always same kind new s child.Blank t x = by t _ x (lacking kind s)
  checked always same kind new s (child.Node c) t x = by t _ x (going_down V (adds kind) s s.above c)
  checked always same kind new s (child.Value v) t x = present always same kind new s v t x

  given : (always : Bool) (same : V → V → Bool) (kind : Kind V) (s : Site Id) (v : V) (answer : Option (Option V)) (new new' : Option V) (t : NextPhase Id V) → IsGiven always same kind s v answer new new' t → Tells t
  given always same kind s v None new new' t x = asked always s v t x.1
  given always same ComputeInsert s v (Some None) new new' t x = asked always s v t x.1
  given always same ComputeInsert s v (Some (Some w)) new new' t x = by t _ x.1 (replacing s _ _)
  given always same _ s v (Some None) new new' t x = by t _ x.1 (taking s _ _)
  given always same _ s v (Some (Some w)) new new' t (e, inl x) = by t _ x (replacing s _ _)
  given always same _ s v (Some (Some w)) new new' t (e, inr f) = uncopied always t f

  given_new : (plan : Plan Id) (answer : Option (Option V)) (new new' : Option V) (t : NextPhase Id V) → IsGivenNew plan answer new new' t → Tells t
  given_new plan (Some (Some x)) new new' t y = by t _ y.1 (starting plan _)
  given_new plan (Some None) new new' t y = by t _ y.1 (refl, tt)
  given_new plan None new new' t y = by t _ y.1 (refl, tt)

  module _ (number : Id → ℕ) (h h' : ℕ → Node V) (key : List ℕ) (t : NextPhase Id V) where
    leaf : (kind : Kind V) (s : Site Id) (r : Result Id Refusal) → MadeLeaf number kind s h key r h' t → Tells t
    leaf kind s (Ok c) x = by t _ x.1 (filling kind s _ _ _ _)
    leaf kind s (Err e) x = by t _ x.1 (refl, tt)

    greater : (kind : Kind V) (s : Site Id) (p : Parent Id) (made : Option Id) (r : Result Id Refusal) → MadeGreater number kind s p made h key r h' t → Tells t
    greater kind s p made (Ok c) x = by t _ x.1 (readying kind _)
    greater kind s p made (Err e) x = by t _ x.1 (refl, tt)

    top : (p : Parent Id) (at : Stamp Id) (common byte : ℕ) (r : Result Id Refusal) → MadeTop number p at common byte h key r h' t → Tells t
    top p at common byte (Ok c) x = by t _ x.1 (refl, tt)
    top p at common byte (Err e) x = by t _ x.1 (refl, tt)

    beside : (kind : Kind V) (p : Parent Id) (at : Stamp Id) (common byte : ℕ) (above : Id) (r : Result Id Refusal) → MadeBeside number kind p at common byte above h key r h' t → Tells t
    beside kind p at common byte above (Ok c) x = by t _ x.1 (readying kind _)
    beside kind p at common byte above (Err e) x = by t _ x.1 (refl, tt)

    checked_above : (root : Id) (p : Stamp Id) (one : NodeChange Id) (r : Reply V) (b : Bool) → is_taken (h (number p.node)) p.version ≡ b → IsCheckedAbove number root p one r h h' t → Tells t
    checked_above root p one r true e x = by t _ (x.goes_on e).1 (refl, tt)
    checked_above root p one r false e x = by t _ (x.goes_back e).1 (refl, tt)

    upgraded_one : (root : Id) (one : NodeChange Id) (r : Reply V) (u : Upgrade) → UpgradedHere number root one r h u h' t → Tells t
    upgraded_one root one r Locked x = by t _ x.1 (refl, tt)
    upgraded_one root one r Failed x = by t _ x.1 (refl, tt)
    upgraded_one root one r Exhausted x = by t _ x.1 (refl, tt)

    upgraded_above : (root : Id) (two : ParentChange Id) (r : Reply V) (u : Upgrade) → UpgradedAbove number root two r h u h' t → Tells t
    upgraded_above root two r Locked x = by t _ x.1 (refl, tt)
    upgraded_above root two r Failed x = by t _ x.1 (giving_up V root two.top _)
    upgraded_above root two r Exhausted x = by t _ x.1 (giving_up V root two.top _)

    upgraded_top : (root : Id) (first : Parent Id) (two : ParentChange Id) (r : Reply V) (u : Upgrade) → UpgradedTop number root first two r h u h' t → Tells t
    upgraded_top root first two r Locked x = by t _ x.1 (refl, tt)
    upgraded_top root first two r Failed x = by t _ x.1 (refl, tt)
    upgraded_top root first two r Exhausted x = by t _ x.1 (refl, tt)

    lesser : (s : Site Id) (p : Parent Id) (first : Option (Parent Id)) (r : Reply V) (made : Result Id Refusal) → MadeLesser number s p first r h key made h' t → Tells t
    lesser s p None r (Ok c) x = by t _ x.1 (refl, tt)
    lesser s p None r (Err e) x = by t _ x.1 (refl, tt)
    lesser s p (Some g) r (Ok c) x = by t _ x.1 (refl, tt)
    lesser s p (Some g) r (Err e) x = by t _ x.1 (refl, tt)

    upgraded_below : (two : ParentChange Id) (r : Reply V) (u : Upgrade) → UpgradedBelow number two r h u h' t → Tells t
    upgraded_below two r Locked x = by t _ x.1 (refl, tt)
    upgraded_below two r Failed x = by t _ x.1 (refl, tt)
    upgraded_below two r Exhausted x = by t _ x.1 (refl, tt)

  topped : (two : ParentChange Id) (r : Reply V) (top : Option (Parent Id)) → Tells (after_top two r top)
  topped two r None = (refl, tt)
  topped two r (Some g) = (refl, tt)

  handed : (next : Option Id) (last : Id) (r : Reply V) → Tells (after_retire next last r)
  handed None last r = (refl, tt)
  handed (Some n) last r = (refl, tt)

  changed : (two : ParentChange Id) (r : Reply V) (change : Replacement Id) → Tells (after_change two r change)
  changed two r Unlink = (refl, tt)
  changed two r (Shrink c) = (refl, tt)
  changed two r Collapse = topped two r two.top
  changed two r (ShrinkAbove c) = topped two r two.top
  changed two r (Grow c) = (refl, tt)
  changed two r (GrowLink c leaf byte) = (refl, tt)
  changed two r (Split top leaf common byte) = (refl, tt)

module _ {V : Type 0} (number : Id → ℕ) (same : V → V → Bool) (always : Bool) (most : ℕ) (why : NodeType → Refusal → Type 0) (root : Id) (key : List ℕ) (kind : Kind V) (fail : Bool) (answer : Option (Option V)) (new new' : Option V) (h h' : ℕ → Node V) (t : NextPhase Id V) where
  tells : (s : Phase Id V) → IsUnderWay s → IsOnKey s → PhaseStepped number same always most why root key kind fail answer new s h new' t h' → Tells t
  tells New u k x = by t _ x.2 (version V root None root _)
  tells (Version above n) u k x = by t _ x.2 (version V root above n _)
  tells (Read above at) u k x = by t _ x.2.2 (reading root above at x.2.0)
  tells (Check s c) u k x = by_if _ root (IsChecked always same kind new s c) t (checked always same kind new s c t) x.2
  tells (CheckUncopied at) u k x = by_same _ root (refused refusal.Count) t (refl, tt) x.2
  tells (CheckMiss p at common byte) u k x = by_same _ root (after_miss kind p at common byte) t (by_cond (adds kind) (quiet (MakeTop p at common byte)) (answered (absent_reply kind)) (refl, tt) (refl, tt)) x.2
  tells (CheckDown p at c) u k x = by_same _ root (quiet (Version (Some at) c)) t (refl, tt) x.2
  tells (CheckOld p s v) u k x = by_if _ root (IsAtOld always same kind new s v) t (at_old always same kind new s v t) x.2
  tells (MakeLeaf s) u k x = leaf number h h' key t kind s x.1.0 x.1.1
  tells (MakeGreater s p made) u k x = greater number h h' key t kind s p made x.1.0 x.1.1
  tells (MakeTop p at common byte) u k x = top number h h' key t p at common byte x.1.0 x.1.1
  tells (MakeBeside p at common byte above) u k x = beside number h h' key t kind p at common byte above x.1.0 x.1.1
  tells (MakeLesser s p first r) u k x = lesser number h h' key t s p first r x.1.0 x.1.1
  tells (AskOld s v) u k x = given always same kind s v answer new new' t x.1
  tells (AskNew plan) u k x = given_new plan answer new new' t x.1
  tells (Confirm at r) u k x = by_same _ root (answered r) t (refl, tt) x.2
  tells (CheckAbove p one r) u k x = checked_above number h h' key t root p one r _ refl x.1
  tells (UpgradeHere one r) u k x = upgraded_one number h h' key t root one r x.1.0 x.1.2
  tells (ChangeHere one r) u k x = by t _ x.2 (refl, tt)
  tells (UpgradeTop first two r) u k x = upgraded_top number h h' key t root first two r x.1.0 x.1.2
  tells (UpgradeAbove two r) u k x = upgraded_above number h h' key t root two r x.1.0 x.1.2
  tells (UpgradeBelow two r) u k x = upgraded_below number h h' key t two r x.1.0 x.1.2
  tells (ChangeAbove two r) u k x = by t _ x.2 (changed two r two.change)
  tells (Obsolete n next p r) u k x = by t _ x.2 (refl, tt)
  tells (Retire n next p r) u k x = by t _ x.2 (handed next p r)
  tells (UnlockBelow n p r) u k x = by t _ x.2 (refl, tt)
  tells (Unlock n r) u k x = by t _ x.2 (refl, tt)
  tells (Unwind n next e) u k x = by t _ x.2 (going_back V root next e)
  tells (Scan s) u k x = absurd k
  tells Ended u k x = absurd u

-- a step of a call on a key ends it exactly where it reports its end, and leaves no scan
pub step_ends : {V : Type 0} (number : Id → ℕ) (same : V → V → Bool) (always : Bool) (most : ℕ) (why : NodeType → Refusal → Type 0) (m m' : Machine Id V) (h h' : ℕ → Node V) (fail : Bool) (answer : Option (Option V)) (d : Move V)
    → IsUnderWay m.phase → IsOnKey m.phase → Stepped number same always most why m h fail answer m' h' d → (is_over m'.phase ≡ not (goes_on_after d.outcome)) × IsOnKey m'.phase
step_ends number same always most why m m' h h' fail answer d u k x = tells number same always most why m.root _ m.kind fail answer m.given m'.given h h' (record { phase = m'.phase; report = d }) m.phase u k x.step
