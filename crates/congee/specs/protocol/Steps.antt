-- One step of a call on what the store answers: the next phase, and what the step reports.
use Rattle.std.specs.Prelude.{ltb, leb, ◌&&◌, ◌≡◌, ◌≢◌, ℕ, ◌==◌, ◌<◌, ◌≤◌, ◌⊎◌, Bool, true, false, List, slice_index, Option, None, Some, Result, Ok, Err, IfErr, cond}
use Rattle.judge.specs.declared.journal.Reply.{Reply}
use Rattle.judge.specs.declared.journal.Reply.TheVariants as reply
use Rattle.congee.specs.declared.forms.base_node.NodeType.{NodeType}
use Rattle.congee.specs.declared.forms.base_node.NodeType.TheVariants.{N4, N16, N48, N256}
use Rattle.congee.specs.declared.forms.child.Child.{Child}
use Rattle.congee.specs.declared.forms.child.Child.TheVariants as child
use Rattle.congee.specs.declared.protocol.store.Reading.{Reading}
use Rattle.congee.specs.declared.protocol.store.Reading.TheVariants.{Differs, Fits, Uncopied}
use Rattle.congee.specs.declared.protocol.store.Stamp.{Stamp}
use Rattle.congee.specs.declared.protocol.store.Upgrade.{Upgrade}
use Rattle.congee.specs.declared.protocol.store.Upgrade.TheVariants.{Locked, Failed, Exhausted}
use Rattle.congee.specs.declared.protocol.store.Refusal.{Refusal}
use Rattle.congee.specs.declared.protocol.store.Refusal.TheVariants as refusal
use Rattle.congee.specs.declared.protocol.phase.Kind.{Kind}
use Rattle.congee.specs.declared.protocol.phase.Kind.TheVariants.{Get, Insert, Remove, ComputePresent, ComputeInsert, Exchange}
use Rattle.congee.specs.declared.protocol.phase.Parent.{Parent}
use Rattle.congee.specs.declared.protocol.phase.Above.{Above as Over}
use Rattle.congee.specs.declared.protocol.phase.Site.{Site}
use Rattle.congee.specs.declared.protocol.phase.Placement.{Placement}
use Rattle.congee.specs.declared.protocol.phase.Placement.TheVariants.{Set, Link}
use Rattle.congee.specs.declared.protocol.phase.NodeChange.{NodeChange}
use Rattle.congee.specs.declared.protocol.phase.Replacement.{Replacement}
use Rattle.congee.specs.declared.protocol.phase.Replacement.TheVariants.{Unlink, Grow, GrowLink, Split, Shrink, Collapse, ShrinkAbove}
use Rattle.congee.specs.declared.protocol.phase.ParentChange.{ParentChange}
use Rattle.congee.specs.declared.protocol.phase.Plan.{Plan}
use Rattle.congee.specs.declared.protocol.phase.Plan.TheVariants.{Here, Above}
use Rattle.congee.specs.declared.protocol.phase.Phase.{Phase}
use Rattle.congee.specs.declared.protocol.phase.Phase.TheVariants.{New, Version, Read, Check, CheckUncopied, CheckMiss, CheckDown, CheckOld, MakeLeaf, MakeGreater, MakeTop, MakeBeside, MakeLesser, AskOld, AskNew, Confirm, CheckAbove, UpgradeHere, ChangeHere, UpgradeTop, UpgradeAbove, UpgradeBelow, ChangeAbove, Obsolete, Retire, UnlockBelow, Unlock, Unwind, Scan, Ended}
use Rattle.congee.specs.declared.protocol.machine.Outcome.{Outcome}
use Rattle.congee.specs.declared.protocol.machine.Outcome.TheVariants.{Running, Asks, Found, Done, Scanned, Refused}
use Rattle.congee.specs.declared.protocol.scan.ScanState.{ScanState as ScanState}
use Rattle.congee.specs.declared.protocol.scan.ScanReport.{ScanReport}
use Rattle.congee.specs.declared.protocol.scan.ScanReport.TheVariants as scan_report
use Rattle.congee.specs.protocol.ScanSteps.{ScanStepped, MayScan}
use Rattle.congee.specs.declared.protocol.machine.Move.{Move}
use Rattle.congee.specs.declared.protocol.next_phase.NextPhase.{NextPhase}
use Rattle.congee.specs.declared.protocol.machine.Machine.{Machine}
use Rattle.congee.specs.Heap.{Node, Hung, Nothing, Below, Holds, Stands, version_of, is_taken}
use Rattle.congee.specs.protocol.Events.{ReadGives, SameBut, upgrade_gives, MakeGives, MayChange, ChangeGives, TakeOverGives, BackGives, ObsoleteGives, RetireGives, UnlockGives, HoldsAlike, HoldsNodes, IsOther}
use Rattle.congee.specs.Keys.{key_bytes}
use Rattle.congee.specs.declared.forms.prefix.TheConstants.{MAX_PREFIX_LEN}

-- the next step and the report, as one
abbrev pub next_phase_of : {C V : Type 0} → Phase C V → Move V → NextPhase C V
next_phase_of s d = record { phase = s; report = d }

-- what a step leaves that goes on, and decides nothing
abbrev pub quiet : {C V : Type 0} → Phase C V → NextPhase C V
quiet s = record { phase = s; report = record { decided = false; skipped = false; outcome = Running } }

-- what one leaves that begins anew from the root
abbrev pub again : {C V : Type 0} → C → NextPhase C V
again root = quiet (Version None root)

-- what one leaves that takes effect, and is done with this reply
abbrev pub answered : {C V : Type 0} → Reply V → NextPhase C V
answered r = record { phase = Ended; report = record { decided = true; skipped = false; outcome = Done r } }

-- what one leaves that is done with a reply given before
abbrev pub finished : {C V : Type 0} → Reply V → NextPhase C V
finished r = record { phase = Ended; report = record { decided = false; skipped = false; outcome = Done r } }

-- what one leaves that is refused
abbrev pub refused : {C V : Type 0} → Refusal → NextPhase C V
refused e = record { phase = Ended; report = record { decided = false; skipped = false; outcome = Refused e } }

-- what one leaves that takes effect, and goes on
abbrev pub decided : {C V : Type 0} → Phase C V → NextPhase C V
decided s = record { phase = s; report = record { decided = true; skipped = false; outcome = Running } }

-- what one leaves that asks the closure about what stands at the key
abbrev pub asking : {C V : Type 0} → Phase C V → Option V → NextPhase C V
asking s o = record { phase = s; report = record { decided = false; skipped = false; outcome = Asks o } }

-- a node that it wanted wasn't made, and it goes on without it
abbrev pub skipping : {C V : Type 0} → Phase C V → NextPhase C V
skipping s = record { phase = s; report = record { decided = false; skipped = true; outcome = Running } }

-- whether the call puts a value at an absent key
abbrev pub adds : {V : Type 0} → Kind V → Bool
adds Get = false
adds Insert = true
adds Remove = false
adds ComputePresent = false
adds ComputeInsert = true
adds (Exchange old) = false

-- whether the closure is asked for an absent key
abbrev pub asks_new : {V : Type 0} → Kind V → Bool
asks_new Get = false
asks_new Insert = false
asks_new Remove = false
asks_new ComputePresent = false
asks_new ComputeInsert = true
asks_new (Exchange old) = false

-- the reply where the key is absent
abbrev pub absent_reply : {V : Type 0} → Kind V → Reply V
absent_reply Get = reply.Get None
absent_reply Insert = reply.Insert None
absent_reply Remove = reply.Remove None
absent_reply ComputePresent = reply.ComputePresent None
absent_reply ComputeInsert = reply.ComputeInsert None
absent_reply (Exchange old) = reply.Exchange (Err None)

-- the form with a place for more than so many children
abbrev pub form_above : ℕ → NodeType
form_above n = cond (ltb n 4) N4 (cond (ltb n 16) N16 (cond (ltb n 48) N48 N256))

-- the form below
abbrev pub form_below : NodeType → NodeType
form_below N4 = N4
form_below N16 = N4
form_below N48 = N16
form_below N256 = N48

-- whether a node of the form with so many children gives way to a lesser one as it loses one
abbrev pub shrinks : NodeType → ℕ → Bool
shrinks N4 n = false
shrinks N16 n = leb n 4
shrinks N48 n = leb n 13
shrinks N256 n = leb n 41

-- the node above, if there is one
abbrev pub near_of : {C : Type 0} → Option (Over C) → Option (Parent C)
near_of None = None
near_of (Some u) = Some u.near

-- its name
abbrev pub node_of : {C : Type 0} → Option (Parent C) → Option C
node_of None = None
node_of (Some p) = Some p.stamp.node

-- the node at hand, as the one above the next
abbrev pub here_of : {C : Type 0} → Site C → Parent C
here_of s = record { stamp = s.at; byte = s.byte; depth = s.depth; count = s.count; form = s.form }

-- the node above with its version, if there is one
abbrev pub stamp_above : {C : Type 0} → Option (Over C) → Option (Stamp C)
stamp_above None = None
stamp_above (Some u) = Some u.near.stamp

-- a version was read; where there is none, the call begins anew
abbrev pub after_version : {C V : Type 0} → C → Option (Over C) → C → Option ℕ → NextPhase C V
after_version root above n None = again root
after_version root above n (Some v) = quiet (Read above (record { node = n; version = v }))

-- a node was read
abbrev pub after_read : {C V : Type 0} → C → Option (Over C) → Stamp C → Reading C V → NextPhase C V
after_read root None at (Differs common byte) = again root
after_read root (Some u) at (Differs common byte) = quiet (CheckMiss u.near at common byte)
after_read root above at (Fits depth form s) = quiet (Check (record { above = above; at = at; depth = depth; byte = s.byte; count = s.count; full = s.full; form = form }) s.child)
after_read root above at Uncopied = quiet (CheckUncopied at)

-- the two nodes above a child that is followed
abbrev pub below : {C : Type 0} → Site C → Over C
below s = record { near = here_of s; far = near_of s.above }

-- a child is followed; an insertion first checks the node above
abbrev pub down : {C V : Type 0} → Bool → Site C → Option (Over C) → C → NextPhase C V
down false s above c = quiet (Version (Some (below s)) c)
down true s None c = quiet (Version (Some (below s)) c)
down true s (Some u) c = quiet (CheckDown u.near.stamp (below s) c)

-- the nodes are made: what was planned begins, after the closure's answer where one is wanted
abbrev pub started : {C V : Type 0} → Plan C → Reply V → NextPhase C V
started (Here None one) r = quiet (UpgradeHere one r)
started (Here (Some p) one) r = quiet (CheckAbove p one r)
started (Above two) r = quiet (UpgradeAbove two r)

-- a plan begins, or its closure is asked first
abbrev pub ready : {C V : Type 0} → Kind V → Plan C → NextPhase C V
ready kind plan = cond (asks_new kind) (asking (AskNew plan) None) (started plan (absent_reply kind))

-- a plan to change the node at hand alone
abbrev pub plan_here : {C : Type 0} → Site C → Placement C → Plan C
plan_here s change = Here (stamp_above s.above) (record { at = s.at; byte = s.byte; change = change })

-- a full node gives way to a greater one; the root is never full
abbrev pub unless_full : {C V : Type 0} → Kind V → Site C → Bool → Option (Over C) → Option C → Placement C → NextPhase C V
unless_full kind s true (Some u) leaf change = quiet (MakeGreater s u.near leaf)
unless_full kind s true None leaf change = ready kind (plan_here s change)
unless_full kind s false above leaf change = ready kind (plan_here s change)

-- an insertion's key is absent at the node
abbrev pub missing : {C V : Type 0} → Kind V → Site C → NextPhase C V
missing kind s = cond (s.depth == MAX_PREFIX_LEN) (unless_full kind s s.full s.above None Set) (quiet (MakeLeaf s))

-- the key is absent at the node: an insertion goes on there, and any other call answers
abbrev pub absent : {C V : Type 0} → Kind V → Site C → NextPhase C V
absent kind s = cond (adds kind) (missing kind s) (answered (absent_reply kind))

-- the value's copy failed, where copies may
abbrev pub CopyFailed : {C V : Type 0} → Bool → NextPhase C V → Type 0
CopyFailed always t = (always ≡ false) × (t ≡ refused refusal.Count)

-- the closure is asked for a value that stands
abbrev pub IsAsked : {C V : Type 0} → Bool → Site C → V → NextPhase C V → Type 0
IsAsked always s v t = (t ≡ asking (AskOld s v) (Some v)) ⊎ CopyFailed always t

-- the same value again is confirmed, and another one comes in its place
abbrev pub replaced : {C V : Type 0} → Site C → Bool → Reply V → NextPhase C V
replaced s same r = cond same (quiet (Confirm s.at r)) (quiet (UpgradeHere (record { at = s.at; byte = s.byte; change = Set }) r))

-- what the value's going puts into the leaf, and into the node above
abbrev pub set_at : {C : Type 0} → Site C → NodeChange C
set_at s = record { at = s.at; byte = s.byte; change = Set }

-- a change of the node at hand and of the one above it
abbrev pub both : {C : Type 0} → Parent C → Site C → Replacement C → ParentChange C
both p s x = record { top = None; above = p; at = s.at; change = x }

-- the leaf goes with its last value: and with it the node above where that has one child left, but not the root
abbrev pub last_out : {C V : Type 0} → Site C → Parent C → Option (Parent C) → Reply V → NextPhase C V
last_out s p None r = quiet (UpgradeAbove (both p s Unlink) r)
last_out s p (Some g) r = cond (p.count == 2) (quiet (UpgradeTop g (both p s Collapse) r))
    (cond (ltb 2 p.count && shrinks p.form p.count) (quiet (MakeLesser s p (Some g) r)) (quiet (UpgradeAbove (both p s Unlink) r)))

-- the value goes, and with its last value the leaf
abbrev pub taken_out : {C V : Type 0} → Site C → Option (Over C) → Reply V → NextPhase C V
taken_out s None r = quiet (UpgradeHere (set_at s) r)
taken_out s (Some u) r = cond (s.count == 1) (last_out s u.near u.far r)
    (cond (shrinks s.form s.count) (quiet (MakeLesser s u.near None r)) (quiet (UpgradeHere (set_at s) r)))

-- the same of the node at hand
abbrev pub emptied : {C V : Type 0} → Site C → Reply V → NextPhase C V
emptied s r = taken_out s s.above r

-- whether the value that stands is the new one
abbrev pub is_same : {V : Type 0} → (V → V → Bool) → V → Option V → Bool
is_same same v None = false
is_same same v (Some w) = same v w

-- an insertion stands at a value
abbrev pub IsAtOld : {C V : Type 0} → Bool → (V → V → Bool) → Kind V → Option V → Site C → V → NextPhase C V → Type 0
IsAtOld always same Insert new s v t = t ≡ replaced s (is_same same v new) (reply.Insert (Some v))
IsAtOld always same _ new s v t = IsAsked always s v t

-- the same, once the node above was checked, if there is one
abbrev pub IsAdded : {C V : Type 0} → Bool → (V → V → Bool) → Kind V → Option V → Site C → Option (Over C) → V → NextPhase C V → Type 0
IsAdded always same kind new s None v t = IsAtOld always same kind new s v t
IsAdded always same kind new s (Some u) v t = t ≡ quiet (CheckOld u.near.stamp s v)

-- an exchange found the old value, and has a copy of the new one for its reply
abbrev pub IsExchanged : {C V : Type 0} → Bool → (V → V → Bool) → Option V → Site C → V → NextPhase C V → Type 0
IsExchanged always same None s v t = t ≡ emptied s (reply.Exchange (Ok None))
IsExchanged always same (Some w) s v t = (t ≡ replaced s (same v w) (reply.Exchange (Ok (Some w)))) ⊎ CopyFailed always t

-- an exchange compared the value that stands with the old one
abbrev pub IsCompared : {C V : Type 0} → Bool → Bool → (V → V → Bool) → Option V → Site C → V → NextPhase C V → Type 0
IsCompared found always same new s v t = (found ≡ true → IsExchanged always same new s v t) × (found ≡ false → t ≡ quiet (Confirm s.at (reply.Exchange (Err (Some v)))))

-- a call stands at a value
abbrev pub IsPresent : {C V : Type 0} → Bool → (V → V → Bool) → Kind V → Option V → Site C → V → NextPhase C V → Type 0
IsPresent always same Get new s v t = t ≡ answered (reply.Get (Some v))
IsPresent always same Insert new s v t = IsAdded always same Insert new s s.above v t
IsPresent always same Remove new s v t = t ≡ emptied s (reply.Remove (Some v))
IsPresent always same ComputePresent new s v t = IsAsked always s v t
IsPresent always same ComputeInsert new s v t = IsAdded always same ComputeInsert new s s.above v t
IsPresent always same (Exchange old) new s v t = IsCompared (same v old) always same new s v t

-- the check after a read succeeded
abbrev pub IsChecked : {C V : Type 0} → Bool → (V → V → Bool) → Kind V → Option V → Site C → Child C V → NextPhase C V → Type 0
IsChecked always same kind new s child.Blank t = t ≡ absent kind s
IsChecked always same kind new s (child.Node c) t = t ≡ down (adds kind) s s.above c
IsChecked always same kind new s (child.Value v) t = IsPresent always same kind new s v t

-- a check that decides by its outcome: what follows where it succeeds, and else the call begins anew
abbrev pub IsIf : {C V : Type 0} → Bool → C → (NextPhase C V → Type 0) → NextPhase C V → Type 0
IsIf taken root Then t = (taken ≡ true → Then t) × (taken ≡ false → t ≡ again root)

-- the key's way parts from a node within its prefix: an insertion makes a node there, and any other call answers
abbrev pub after_miss : {C V : Type 0} → Kind V → Parent C → Stamp C → ℕ → ℕ → NextPhase C V
after_miss kind p at common byte = cond (adds kind) (quiet (MakeTop p at common byte)) (answered (absent_reply kind))

-- the answer to the closure's question about a value that stands: the new value, and what follows
abbrev pub IsGiven : {C V : Type 0} → Bool → (V → V → Bool) → Kind V → Site C → V → Option (Option V) → Option V → Option V → NextPhase C V → Type 0
IsGiven always same kind s v None new new' t = (new' ≡ new) × IsAsked always s v t
IsGiven always same ComputeInsert s v (Some None) new new' t = (new' ≡ new) × IsAsked always s v t
IsGiven always same ComputeInsert s v (Some (Some x)) new new' t = (new' ≡ Some x) × (t ≡ replaced s (same v x) (reply.ComputeInsert (Some v)))
IsGiven always same _ s v (Some None) new new' t = (new' ≡ None) × (t ≡ emptied s (reply.ComputePresent (Some (v, None))))
IsGiven always same _ s v (Some (Some x)) new new' t = (new' ≡ Some x) × ((t ≡ replaced s (same v x) (reply.ComputePresent (Some (v, Some x)))) ⊎ CopyFailed always t)

-- and about an absent key
abbrev pub IsGivenNew : {C V : Type 0} → Plan C → Option (Option V) → Option V → Option V → NextPhase C V → Type 0
IsGivenNew plan (Some (Some x)) new new' t = (new' ≡ Some x) × (t ≡ started plan (reply.ComputeInsert None))
IsGivenNew plan _ new new' t = (new' ≡ new) × (t ≡ asking (AskNew plan) None)

-- the made nodes of a change go back
abbrev pub BackHere : {C V : Type 0} → (C → ℕ) → (ℕ → Node V) → Placement C → (ℕ → Node V) → Type 0
BackHere number h Set h' = h' ≡ h
BackHere number h (Link leaf) h' = BackGives h (number leaf) h'

-- those of a change of two nodes
abbrev pub BackAbove : {C V : Type 0} → (C → ℕ) → (ℕ → Node V) → Replacement C → (ℕ → Node V) → Type 0
BackAbove number h Unlink h' = h' ≡ h
BackAbove number h (Grow c) h' = BackGives h (number c) h'
BackAbove number h (Shrink c) h' = BackGives h (number c) h'
BackAbove number h Collapse h' = h' ≡ h
BackAbove number h (ShrinkAbove c) h' = BackGives h (number c) h'
BackAbove {C} {V} number h (GrowLink c leaf byte) h' = (h1 : ℕ → Node V) × BackGives h (number leaf) h1 × BackGives h1 (number c) h'
BackAbove {C} {V} number h (Split top leaf common byte) h' = (h1 : ℕ → Node V) × BackGives h (number leaf) h1 × BackGives h1 (number top) h'

-- a made leaf, if there is one
abbrev pub BackLeaf : {C V : Type 0} → (C → ℕ) → (ℕ → Node V) → Option C → (ℕ → Node V) → Type 0
BackLeaf number h None h' = h' ≡ h
BackLeaf number h (Some leaf) h' = BackGives h (number leaf) h'

-- a node was made or not
abbrev pub MadeLeaf : {C V : Type 0} → (C → ℕ) → Kind V → Site C → (ℕ → Node V) → List ℕ → Result C Refusal → (ℕ → Node V) → NextPhase C V → Type 0
MadeLeaf number kind s h key (Ok leaf) h' t = MakeGives number h N4 key MAX_PREFIX_LEN (Ok leaf) h' × (t ≡ unless_full kind s s.full s.above (Some leaf) (Link leaf))
MadeLeaf number kind s h key (Err e) h' t = (h' ≡ h) × (t ≡ refused e)

-- a greater node comes in the place of a full one, with a leaf or without
abbrev pub greater : {C : Type 0} → Site C → Option C → C → Replacement C
greater s None c = Grow c
greater s (Some leaf) c = GrowLink c leaf s.byte

-- the greater one was made, or not
abbrev pub MadeGreater : {C V : Type 0} → (C → ℕ) → Kind V → Site C → Parent C → Option C → (ℕ → Node V) → List ℕ → Result C Refusal → (ℕ → Node V) → NextPhase C V → Type 0
MadeGreater number kind s p leaf h key (Ok c) h' t = MakeGives number h (form_above s.count) key s.depth (Ok c) h'
    × (t ≡ ready kind (Above (both p s (greater s leaf c))))
MadeGreater number kind s p leaf h key (Err e) h' t = BackLeaf number h leaf h' × (t ≡ refused e)

-- the node where ways part was made, or not
abbrev pub MadeTop : {C V : Type 0} → (C → ℕ) → Parent C → Stamp C → ℕ → ℕ → (ℕ → Node V) → List ℕ → Result C Refusal → (ℕ → Node V) → NextPhase C V → Type 0
MadeTop number p at common byte h key (Ok top) h' t = MakeGives number h N4 key common (Ok top) h' × (t ≡ quiet (MakeBeside p at common byte top))
MadeTop number p at common byte h key (Err e) h' t = (h' ≡ h) × (t ≡ refused e)

-- the leaf beside it was made, or not
abbrev pub MadeBeside : {C V : Type 0} → (C → ℕ) → Kind V → Parent C → Stamp C → ℕ → ℕ → C → (ℕ → Node V) → List ℕ → Result C Refusal → (ℕ → Node V) → NextPhase C V → Type 0
MadeBeside number kind p at common byte top h key (Ok leaf) h' t = MakeGives number h N4 key MAX_PREFIX_LEN (Ok leaf) h'
    × (t ≡ ready kind (Above (record { top = None; above = p; at = at; change = Split top leaf common byte })))
MadeBeside number kind p at common byte top h key (Err e) h' t = BackGives h (number top) h' × (t ≡ refused e)

-- a lesser node was made, or not: then the call goes on without it
abbrev pub lesser_form : {C : Type 0} → Site C → Parent C → Option (Parent C) → NodeType
lesser_form s p None = form_below s.form
lesser_form s p (Some g) = form_below p.form

-- it was made, or not
abbrev pub MadeLesser : {C V : Type 0} → (C → ℕ) → Site C → Parent C → Option (Parent C) → Reply V → (ℕ → Node V) → List ℕ → Result C Refusal → (ℕ → Node V) → NextPhase C V → Type 0
MadeLesser number s p None r h key (Ok c) h' t = MakeGives number h (form_below s.form) key s.depth (Ok c) h' × (t ≡ quiet (UpgradeAbove (both p s (Shrink c)) r))
MadeLesser number s p None r h key (Err e) h' t = (h' ≡ h) × (t ≡ skipping (UpgradeHere (set_at s) r))
MadeLesser number s p (Some g) r h key (Ok c) h' t = MakeGives number h (form_below p.form) key p.depth (Ok c) h' × (t ≡ quiet (UpgradeTop g (both p s (ShrinkAbove c)) r))
MadeLesser number s p (Some g) r h key (Err e) h' t = (h' ≡ h) × (t ≡ skipping (UpgradeAbove (both p s Unlink) r))

-- the check before one node is changed: the node made goes back where it fails
pub record IsCheckedAbove {C V : Type 0} (number : C → ℕ) (root : C) (p : Stamp C) (one : NodeChange C) (r : Reply V) (h h' : ℕ → Node V) (t : NextPhase C V) : Type 0 where
  pub goes_on : is_taken (h (number p.node)) p.version ≡ true → (h' ≡ h) × (t ≡ quiet (UpgradeHere one r))
  pub goes_back : is_taken (h (number p.node)) p.version ≡ false → BackHere number h one.change h' × (t ≡ again root)

-- an upgrade's outcome: the nodes made go back where it failed or is refused
abbrev pub UpgradedHere : {C V : Type 0} → (C → ℕ) → C → NodeChange C → Reply V → (ℕ → Node V) → Upgrade → (ℕ → Node V) → NextPhase C V → Type 0
UpgradedHere number root one r h Locked h' t = SameBut h (number one.at.node) (record (h (number one.at.node)) { locked = true }) h' × (t ≡ quiet (ChangeHere one r))
UpgradedHere number root one r h Failed h' t = BackHere number h one.change h' × (t ≡ again root)
UpgradedHere number root one r h Exhausted h' t = BackHere number h one.change h' × (t ≡ refused refusal.Exhausted)

-- the call begins anew, or is refused
abbrev pub unwound : {C V : Type 0} → C → Option Refusal → NextPhase C V
unwound root None = again root
unwound root (Some e) = refused e

-- an attempt is given up with this node locked, or none
abbrev pub given_up : {C V : Type 0} → C → Option (Parent C) → Option Refusal → NextPhase C V
given_up root None e = unwound root e
given_up root (Some g) e = quiet (Unwind g.stamp.node None e)

-- that of the node above both
abbrev pub UpgradedTop : {C V : Type 0} → (C → ℕ) → C → Parent C → ParentChange C → Reply V → (ℕ → Node V) → Upgrade → (ℕ → Node V) → NextPhase C V → Type 0
UpgradedTop number root g two r h Locked h' t = SameBut h (number g.stamp.node) (record (h (number g.stamp.node)) { locked = true }) h' × (t ≡ quiet (UpgradeAbove (record two { top = Some g }) r))
UpgradedTop number root g two r h Failed h' t = BackAbove number h two.change h' × (t ≡ again root)
UpgradedTop number root g two r h Exhausted h' t = BackAbove number h two.change h' × (t ≡ refused refusal.Exhausted)

-- that of the upper one of two
abbrev pub UpgradedAbove : {C V : Type 0} → (C → ℕ) → C → ParentChange C → Reply V → (ℕ → Node V) → Upgrade → (ℕ → Node V) → NextPhase C V → Type 0
UpgradedAbove number root two r h Locked h' t = SameBut h (number two.above.stamp.node) (record (h (number two.above.stamp.node)) { locked = true }) h' × (t ≡ quiet (UpgradeBelow two r))
UpgradedAbove number root two r h Failed h' t = BackAbove number h two.change h' × (t ≡ given_up root two.top None)
UpgradedAbove number root two r h Exhausted h' t = BackAbove number h two.change h' × (t ≡ given_up root two.top (Some refusal.Exhausted))

-- that of the lower one of two
abbrev pub UpgradedBelow : {C V : Type 0} → (C → ℕ) → ParentChange C → Reply V → (ℕ → Node V) → Upgrade → (ℕ → Node V) → NextPhase C V → Type 0
UpgradedBelow number two r h Locked h' t = SameBut h (number two.at.node) (record (h (number two.at.node)) { locked = true }) h' × (t ≡ quiet (ChangeAbove two r))
UpgradedBelow number two r h Failed h' t = BackAbove number h two.change h' × (t ≡ quiet (Unwind two.above.stamp.node (node_of two.top) None))
UpgradedBelow number two r h Exhausted h' t = BackAbove number h two.change h' × (t ≡ quiet (Unwind two.above.stamp.node (node_of two.top) (Some refusal.Exhausted)))

-- the value that the call puts there
abbrev pub value_hung : {V : Type 0} → Option V → Hung V
value_hung None = Nothing
value_hung (Some v) = Holds v

-- the change of one node, and of the node above; a node that comes into reach is filled before
abbrev pub ChangedHere : {C V : Type 0} → (C → ℕ) → List ℕ → Option V → NodeChange C → Placement C → (ℕ → Node V) → (ℕ → Node V) → Type 0
ChangedHere number key new one Set h h' = ChangeGives h (number one.at.node) one.byte (value_hung new) h'
ChangedHere {C} {V} number key new one (Link leaf) h h' = (h1 : ℕ → Node V) × ChangeGives h (number leaf) (slice_index key MAX_PREFIX_LEN) (value_hung new) h1
    × ChangeGives h1 (number one.at.node) one.byte (Below (number leaf)) h'

-- a greater node with one more child comes in the place of the node at hand
abbrev pub PutsGreater : {C V : Type 0} → (C → ℕ) → ParentChange C → C → ℕ → Hung V → (ℕ → Node V) → (ℕ → Node V) → Type 0
PutsGreater {C} {V} number two c byte x h h' = (h1 : ℕ → Node V) × (h2 : ℕ → Node V) × TakeOverGives h (number two.at.node) (number c) h1
    × ChangeGives h1 (number c) byte x h2 × ChangeGives h2 (number two.above.stamp.node) two.above.byte (Below (number c)) h'

-- a node over the one at hand and a new leaf comes in its place
abbrev pub PutsFork : {C V : Type 0} → (C → ℕ) → ParentChange C → C → ℕ → ℕ → C → (ℕ → Node V) → (ℕ → Node V) → Type 0
PutsFork {C} {V} number two top byte new_byte leaf h h' = (h1 : ℕ → Node V) × (h2 : ℕ → Node V) × ChangeGives h (number top) byte (Below (number two.at.node)) h1
    × ChangeGives h1 (number top) new_byte (Below (number leaf)) h2 × ChangeGives h2 (number two.above.stamp.node) two.above.byte (Below (number top)) h'

-- a lesser node with the children of m but for the one at byte b comes in the place of m, at byte `up` of p
abbrev pub PutsLesser : {V : Type 0} → (ℕ → Node V) → (m c b p up : ℕ) → (ℕ → Node V) → Type 0
PutsLesser {V} h m c b p up h' = (h1 : ℕ → Node V) × (h2 : ℕ → Node V) × TakeOverGives h m c h1 × ChangeGives h1 c b Nothing h2 × ChangeGives h2 p up (Below c) h'

-- the other child of the node above comes in its place
abbrev pub Collapses : {C V : Type 0} → (C → ℕ) → ParentChange C → Option (Parent C) → (ℕ → Node V) → (ℕ → Node V) → Type 0
Collapses number two None h h' = ⊥
Collapses number two (Some g) h h' = (o : ℕ) × IsOther (h (number two.above.stamp.node)) two.above.byte o × ChangeGives h (number g.stamp.node) g.byte (Below o) h'

-- a lesser one does
abbrev pub Lessens : {C V : Type 0} → (C → ℕ) → ParentChange C → C → Option (Parent C) → (ℕ → Node V) → (ℕ → Node V) → Type 0
Lessens number two c None h h' = ⊥
Lessens number two c (Some g) h h' = PutsLesser h (number two.above.stamp.node) (number c) two.above.byte (number g.stamp.node) g.byte h'

-- two nodes change, by the kind of change
abbrev pub ChangedAbove : {C V : Type 0} → (C → ℕ) → List ℕ → Option V → ParentChange C → Replacement C → (ℕ → Node V) → (ℕ → Node V) → Type 0
ChangedAbove number key new two Unlink h h' = ChangeGives h (number two.above.stamp.node) two.above.byte Nothing h'
ChangedAbove number key new two (Shrink c) h h' = PutsLesser h (number two.at.node) (number c) (slice_index key MAX_PREFIX_LEN) (number two.above.stamp.node) two.above.byte h'
ChangedAbove number key new two Collapse h h' = Collapses number two two.top h h'
ChangedAbove number key new two (ShrinkAbove c) h h' = Lessens number two c two.top h h'
ChangedAbove {C} {V} number key new two (Grow c) h h' = (h1 : ℕ → Node V) × (h2 : ℕ → Node V) × TakeOverGives h (number two.at.node) (number c) h1
    × ChangeGives h1 (number c) (slice_index key MAX_PREFIX_LEN) (value_hung new) h2 × ChangeGives h2 (number two.above.stamp.node) two.above.byte (Below (number c)) h'
ChangedAbove {C} {V} number key new two (GrowLink c leaf byte) h h' = (h1 : ℕ → Node V) × (h2 : ℕ → Node V) × (h3 : ℕ → Node V)
    × ChangeGives h (number leaf) (slice_index key MAX_PREFIX_LEN) (value_hung new) h1 × TakeOverGives h1 (number two.at.node) (number c) h2
    × ChangeGives h2 (number c) byte (Below (number leaf)) h3 × ChangeGives h3 (number two.above.stamp.node) two.above.byte (Below (number c)) h'
ChangedAbove {C} {V} number key new two (Split top leaf common byte) h h' = (h1 : ℕ → Node V) × (h2 : ℕ → Node V) × (h3 : ℕ → Node V)
    × ChangeGives h (number leaf) (slice_index key MAX_PREFIX_LEN) (value_hung new) h1 × ChangeGives h1 (number top) byte (Below (number two.at.node)) h2
    × ChangeGives h2 (number top) (slice_index key common) (Below (number leaf)) h3 × ChangeGives h3 (number two.above.stamp.node) two.above.byte (Below (number top)) h'

-- what goes then, from below, and the lock that is let go last
abbrev pub after_top : {C V : Type 0} → ParentChange C → Reply V → Option (Parent C) → NextPhase C V
after_top two r None = decided (Unlock two.above.stamp.node r)
after_top two r (Some g) = decided (Obsolete two.at.node (Some two.above.stamp.node) g.stamp.node r)

-- what goes then, by the kind of change
abbrev pub after_change : {C V : Type 0} → ParentChange C → Reply V → Replacement C → NextPhase C V
after_change two r (Split top leaf common byte) = decided (UnlockBelow two.at.node two.above.stamp.node r)
after_change two r Collapse = after_top two r two.top
after_change two r (ShrinkAbove c) = after_top two r two.top
after_change two r Unlink = decided (Obsolete two.at.node None two.above.stamp.node r)
after_change two r (Grow c) = decided (Obsolete two.at.node None two.above.stamp.node r)
after_change two r (GrowLink c leaf byte) = decided (Obsolete two.at.node None two.above.stamp.node r)
after_change two r (Shrink c) = decided (Obsolete two.at.node None two.above.stamp.node r)

-- a node was handed over: the next one goes, or the last lock
abbrev pub after_retire : {C V : Type 0} → Option C → C → Reply V → NextPhase C V
after_retire None last r = quiet (Unlock last r)
after_retire (Some n) last r = quiet (Obsolete n None last r)

-- a lock of an attempt that is given up was let go: the next one goes, or none is left
abbrev pub after_unwind : {C V : Type 0} → C → Option C → Option Refusal → NextPhase C V
after_unwind root None e = unwound root e
after_unwind root (Some n) e = quiet (Unwind n None e)

-- what a scan's step tells, as a report
abbrev pub outcome_of : {V : Type 0} → ScanReport V → Outcome V
outcome_of scan_report.Running = Running
outcome_of (scan_report.Found place key v) = Found place key v
outcome_of (scan_report.Done count) = Scanned count
outcome_of (scan_report.Refused e) = Refused e

-- a scan's step with what it tells
abbrev pub after_scan : {C V : Type 0} → ScanState C V → ScanReport V → NextPhase C V
after_scan s o = record { phase = Scan s; report = record { decided = false; skipped = false; outcome = outcome_of o } }

-- the step of a call in a phase: on the nodes, the closure's answer and the failing of an exchange, it gives the
-- call's new value, what it leaves, and the nodes after it
abbrev pub PhaseStepped : {C V : Type 0} → (C → ℕ) → (V → V → Bool) → Bool → ℕ → (NodeType → Refusal → Type 0) → C → List ℕ → Kind V → Bool → Option (Option V)
    → Option V → Phase C V → (ℕ → Node V) → Option V → NextPhase C V → (ℕ → Node V) → Type 0
PhaseStepped number same always most why root key kind fail answer new New h new' t h' =
    (h' ≡ h) × (new' ≡ new) × (t ≡ after_version root None root (version_of (h (number root))))
PhaseStepped number same always most why root key kind fail answer new (Version above n) h new' t h' =
    (h' ≡ h) × (new' ≡ new) × (t ≡ after_version root above n (version_of (h (number n))))
PhaseStepped {C} {V} number same always most why root key kind fail answer new (Read above at) h new' t h' =
    (h' ≡ h) × (new' ≡ new) × ((r : Reading C V) × ReadGives number always (h (number at.node)) at.version key r × (t ≡ after_read root above at r))
PhaseStepped number same always most why root key kind fail answer new (Check s c) h new' t h' =
    (h' ≡ h) × (new' ≡ new) × IsIf (is_taken (h (number s.at.node)) s.at.version) root (IsChecked always same kind new s c) t
PhaseStepped number same always most why root key kind fail answer new (CheckUncopied at) h new' t h' =
    (h' ≡ h) × (new' ≡ new) × IsIf (is_taken (h (number at.node)) at.version) root (λ u. u ≡ refused refusal.Count) t
PhaseStepped number same always most why root key kind fail answer new (CheckMiss p at common byte) h new' t h' =
    (h' ≡ h) × (new' ≡ new) × IsIf (is_taken (h (number p.stamp.node)) p.stamp.version) root (λ u. u ≡ after_miss kind p at common byte) t
PhaseStepped number same always most why root key kind fail answer new (CheckDown p at c) h new' t h' =
    (h' ≡ h) × (new' ≡ new) × IsIf (is_taken (h (number p.node)) p.version) root (λ u. u ≡ quiet (Version (Some at) c)) t
PhaseStepped number same always most why root key kind fail answer new (CheckOld p s v) h new' t h' =
    (h' ≡ h) × (new' ≡ new) × IsIf (is_taken (h (number p.node)) p.version) root (IsAtOld always same kind new s v) t
PhaseStepped {C} {V} number same always most why root key kind fail answer new (MakeLeaf s) h new' t h' =
    (new' ≡ new) × ((r : Result C Refusal) × MadeLeaf number kind s h key r h' t × IfErr r (why N4))
PhaseStepped {C} {V} number same always most why root key kind fail answer new (MakeGreater s p leaf) h new' t h' =
    (new' ≡ new) × ((r : Result C Refusal) × MadeGreater number kind s p leaf h key r h' t × IfErr r (why (form_above s.count)))
PhaseStepped {C} {V} number same always most why root key kind fail answer new (MakeTop p at common byte) h new' t h' =
    (new' ≡ new) × ((r : Result C Refusal) × MadeTop number p at common byte h key r h' t × IfErr r (why N4))
PhaseStepped {C} {V} number same always most why root key kind fail answer new (MakeBeside p at common byte top) h new' t h' =
    (new' ≡ new) × ((r : Result C Refusal) × MadeBeside number kind p at common byte top h key r h' t × IfErr r (why N4))
PhaseStepped {C} {V} number same always most why root key kind fail answer new (MakeLesser s p g r) h new' t h' =
    (new' ≡ new) × ((x : Result C Refusal) × MadeLesser number s p g r h key x h' t × IfErr x (why (lesser_form s p g)))
PhaseStepped number same always most why root key kind fail answer new (AskOld s v) h new' t h' =
    (h' ≡ h) × IsGiven always same kind s v answer new new' t
PhaseStepped number same always most why root key kind fail answer new (AskNew plan) h new' t h' =
    (h' ≡ h) × IsGivenNew plan answer new new' t
PhaseStepped number same always most why root key kind fail answer new (Confirm at r) h new' t h' =
    (h' ≡ h) × (new' ≡ new) × IsIf (is_taken (h (number at.node)) at.version) root (λ u. u ≡ answered r) t
PhaseStepped number same always most why root key kind fail answer new (CheckAbove p one r) h new' t h' =
    (new' ≡ new) × IsCheckedAbove number root p one r h h' t
PhaseStepped number same always most why root key kind fail answer new (UpgradeHere one r) h new' t h' =
    (new' ≡ new) × ((u : Upgrade) × (u ≡ upgrade_gives most (h (number one.at.node)) one.at.version fail) × UpgradedHere number root one r h u h' t)
PhaseStepped number same always most why root key kind fail answer new (ChangeHere one r) h new' t h' =
    (new' ≡ None) × ChangedHere number key new one one.change h h' × (t ≡ decided (Unlock one.at.node r))
PhaseStepped number same always most why root key kind fail answer new (UpgradeTop g two r) h new' t h' =
    (new' ≡ new) × ((u : Upgrade) × (u ≡ upgrade_gives most (h (number g.stamp.node)) g.stamp.version fail) × UpgradedTop number root g two r h u h' t)
PhaseStepped number same always most why root key kind fail answer new (UpgradeAbove two r) h new' t h' =
    (new' ≡ new) × ((u : Upgrade) × (u ≡ upgrade_gives most (h (number two.above.stamp.node)) two.above.stamp.version fail) × UpgradedAbove number root two r h u h' t)
PhaseStepped number same always most why root key kind fail answer new (UpgradeBelow two r) h new' t h' =
    (new' ≡ new) × ((u : Upgrade) × (u ≡ upgrade_gives most (h (number two.at.node)) two.at.version fail) × UpgradedBelow number two r h u h' t)
PhaseStepped number same always most why root key kind fail answer new (ChangeAbove two r) h new' t h' =
    (new' ≡ None) × ChangedAbove number key new two two.change h h' × (t ≡ after_change two r two.change)
PhaseStepped number same always most why root key kind fail answer new (Obsolete n next p r) h new' t h' =
    (new' ≡ new) × ObsoleteGives h (number n) h' × (t ≡ quiet (Retire n next p r))
PhaseStepped number same always most why root key kind fail answer new (Retire n next p r) h new' t h' =
    (new' ≡ new) × RetireGives h (number n) h' × (t ≡ after_retire next p r)
PhaseStepped number same always most why root key kind fail answer new (UnlockBelow n p r) h new' t h' =
    (new' ≡ new) × UnlockGives h (number n) h' × (t ≡ quiet (Unlock p r))
PhaseStepped number same always most why root key kind fail answer new (Unlock n r) h new' t h' =
    (new' ≡ new) × UnlockGives h (number n) h' × (t ≡ finished r)
PhaseStepped number same always most why root key kind fail answer new (Unwind n next e) h new' t h' =
    (new' ≡ new) × UnlockGives h (number n) h' × (t ≡ after_unwind root next e)
PhaseStepped {C} {V} number same always most why root key kind fail answer new (Scan s) h new' t h' =
    (h' ≡ h) × (new' ≡ new) × ((s' : ScanState C V) × (o : ScanReport V) × ScanStepped number always root s h s' o × (t ≡ after_scan s' o))
PhaseStepped number same always most why root key kind fail answer new Ended h new' t h' =
    (h' ≡ h) × (new' ≡ new) × (t ≡ quiet Ended)

-- the same of a call, which is a record of what a step looks at: its root, key and kind, its new value and its phase
abbrev pub MachineStepped : {C V : Type 0} → (C → ℕ) → (V → V → Bool) → Bool → ℕ → (NodeType → Refusal → Type 0) → Machine C V → (ℕ → Node V) → Bool → Option (Option V)
    → Machine C V → (ℕ → Node V) → Move V → Type 0
MachineStepped number same always most why m h fail answer m' h' d =
    PhaseStepped number same always most why m.root (key_bytes m.key) m.kind fail answer m.given m.phase h m'.given (next_phase_of m'.phase d) h'

-- a step of a call
pub record Stepped {C V : Type 0} (number : C → ℕ) (same : V → V → Bool) (always : Bool) (most : ℕ) (why : NodeType → Refusal → Type 0) (m : Machine C V) (h : ℕ → Node V)
    (fail : Bool) (answer : Option (Option V)) (m' : Machine C V) (h' : ℕ → Node V) (d : Move V) : Type 0 where
  pub root : m'.root ≡ m.root
  pub key : m'.key ≡ m.key
  pub kind : m'.kind ≡ m.kind
  pub step : MachineStepped number same always most why m h fail answer m' h' d

-- a phase in which a call unlocks a node, or has ended
abbrev pub IsUnlocking : {C V : Type 0} → Phase C V → Type 0
IsUnlocking (UnlockBelow n p r) = Unit {0}
IsUnlocking (Unlock n r) = Unit {0}
IsUnlocking (Unwind n next e) = Unit {0}
IsUnlocking Ended = Unit {0}
IsUnlocking _ = ⊥

-- one in which it marks or hands over a node, or one of these
abbrev pub IsReleasing : {C V : Type 0} → Phase C V → Type 0
IsReleasing (Obsolete n next p r) = Unit {0}
IsReleasing (Retire n next p r) = Unit {0}
IsReleasing s = IsUnlocking s

-- one that has the value that stands
abbrev pub HasValue : {C V : Type 0} → Phase C V → Type 0
HasValue (CheckOld p s v) = Unit {0}
HasValue (AskOld s v) = Unit {0}
HasValue _ = ⊥

-- one in which it may lock or change nodes, or one of these
abbrev pub MayLock : {C V : Type 0} → Phase C V → Type 0
MayLock (CheckAbove p one r) = Unit {0}
MayLock (UpgradeHere one r) = Unit {0}
MayLock (ChangeHere one r) = Unit {0}
MayLock (UpgradeTop g two r) = Unit {0}
MayLock (UpgradeAbove two r) = Unit {0}
MayLock (UpgradeBelow two r) = Unit {0}
MayLock (ChangeAbove two r) = Unit {0}
MayLock s = IsReleasing s

-- one in which it may make nodes, or one of these
abbrev pub Acts : {C V : Type 0} → Phase C V → Type 0
Acts (MakeLeaf s) = Unit {0}
Acts (MakeGreater s p leaf) = Unit {0}
Acts (MakeTop p at common byte) = Unit {0}
Acts (MakeBeside p at common byte top) = Unit {0}
Acts (MakeLesser s p g r) = Unit {0}
Acts s = MayLock s

-- one in which it checks once more or takes an answer, or one of these
abbrev pub Settles : {C V : Type 0} → Phase C V → Type 0
Settles (CheckUncopied at) = Unit {0}
Settles (CheckMiss p at common byte) = Unit {0}
Settles (CheckOld p s v) = Unit {0}
Settles (AskOld s v) = Unit {0}
Settles (AskNew plan) = Unit {0}
Settles (Confirm at r) = Unit {0}
Settles s = Acts s

-- what the store wants of the made nodes that may go back
abbrev pub MayBackHere : {C V : Type 0} → (C → ℕ) → (ℕ → Node V) → Placement C → Type 0
MayBackHere number h Set = Unit {0}
MayBackHere number h (Link leaf) = Stands (h (number leaf))

-- those of a change of two nodes
abbrev pub MayBackAbove : {C V : Type 0} → (C → ℕ) → (ℕ → Node V) → Replacement C → Type 0
MayBackAbove number h Unlink = Unit {0}
MayBackAbove number h (Shrink c) = Stands (h (number c))
MayBackAbove number h Collapse = Unit {0}
MayBackAbove number h (ShrinkAbove c) = Stands (h (number c))
MayBackAbove number h (Grow c) = Stands (h (number c))
MayBackAbove number h (GrowLink c leaf byte) = Stands (h (number leaf)) × Stands (h (number c)) × (number c ≢ number leaf)
MayBackAbove number h (Split top leaf common byte) = Stands (h (number leaf)) × Stands (h (number top)) × (number top ≢ number leaf)

-- a made leaf, if there is one
abbrev pub MayBackLeaf : {C V : Type 0} → (C → ℕ) → (ℕ → Node V) → Option C → Type 0
MayBackLeaf number h None = Unit {0}
MayBackLeaf number h (Some leaf) = Stands (h (number leaf))

-- a node that a call may change
pub record Changeable {V : Type 0} (n : Node V) (b : ℕ) (x : Hung V) : Type 0 where
  pub stands : Stands n
  pub locked : n.locked ≡ true
  pub room : MayChange n b x

-- an empty node with so many places at least
pub record Blank {V : Type 0} (n : Node V) (least : ℕ) : Type 0 where
  pub stands : Stands n
  pub empty : n.count ≡ 0
  pub blank : (b : ℕ) → n.children b ≡ Nothing
  pub room : least < n.capacity

-- what it wants of a change of one node
abbrev pub MayChangeHere : {C V : Type 0} → (C → ℕ) → Option V → NodeChange C → Placement C → (ℕ → Node V) → Type 0
MayChangeHere number new one Set h = Changeable (h (number one.at.node)) one.byte (value_hung new)
MayChangeHere number None one (Link leaf) h = ⊥
MayChangeHere number (Some v) one (Link leaf) h = Changeable (h (number one.at.node)) one.byte (Below (number leaf)) × Blank (h (number leaf)) 0 × (number one.at.node ≢ number leaf)

-- what the change by a lesser node wants
pub record MayLessen {V : Type 0} (h : ℕ → Node V) (m c b p up : ℕ) : Type 0 where
  pub above : Changeable (h p) up (Below c)
  pub stands : Stands (h m)
  pub alike : HoldsAlike (h m)
  pub there : (h m).children b ≢ Nothing
  pub blank : Blank (h c) 0
  pub room : (h m).count ≤ (h c).capacity
  pub above_apart : p ≢ c
  pub old_apart : m ≢ c
  pub apart : p ≢ m

-- and the one by the other child of the node above
pub record MayCollapse {V : Type 0} (h : ℕ → Node V) (p up g b : ℕ) : Type 0 where
  pub stands_top : Stands (h g)
  pub locked : (h g).locked ≡ true
  pub hung : (h g).children b ≢ Nothing
  pub stands : Stands (h p)
  pub nodes : HoldsNodes (h p)
  pub two : (h p).count ≡ 2
  pub there : (h p).children up ≢ Nothing

-- what it wants of a change of the node above both
abbrev pub MayTop : {C V : Type 0} → (C → ℕ) → ParentChange C → Replacement C → Option (Parent C) → (ℕ → Node V) → Type 0
MayTop number two Collapse (Some g) h = MayCollapse h (number two.above.stamp.node) two.above.byte (number g.stamp.node) g.byte
MayTop number two (ShrinkAbove c) (Some g) h = MayLessen h (number two.above.stamp.node) (number c) two.above.byte (number g.stamp.node) g.byte
MayTop number two _ top h = ⊥

-- what the change of the node above wants
abbrev pub MayChangeAbove : {C V : Type 0} → (C → ℕ) → List ℕ → Option V → ParentChange C → Replacement C → (ℕ → Node V) → Type 0
MayChangeAbove number key new two Unlink h = Changeable (h (number two.above.stamp.node)) two.above.byte Nothing
MayChangeAbove number key new two (Shrink c) h = MayLessen h (number two.at.node) (number c) (slice_index key MAX_PREFIX_LEN) (number two.above.stamp.node) two.above.byte
MayChangeAbove number key new two Collapse h = MayTop number two Collapse two.top h
MayChangeAbove number key new two (ShrinkAbove c) h = MayTop number two (ShrinkAbove c) two.top h
MayChangeAbove number key None two _ h = ⊥
MayChangeAbove number key (Some v) two (Grow c) h = Changeable (h (number two.above.stamp.node)) two.above.byte (Below (number c))
    × Stands (h (number two.at.node)) × Blank (h (number c)) (h (number two.at.node)).count
    × (number two.above.stamp.node ≢ number c) × (number two.at.node ≢ number c) × (number two.above.stamp.node ≢ number two.at.node)
    × HoldsAlike (h (number two.at.node))
MayChangeAbove number key (Some v) two (GrowLink c leaf byte) h = Changeable (h (number two.above.stamp.node)) two.above.byte (Below (number c))
    × Stands (h (number two.at.node)) × Blank (h (number c)) (h (number two.at.node)).count × Blank (h (number leaf)) 0
    × (number two.above.stamp.node ≢ number c) × (number two.at.node ≢ number c) × (number two.above.stamp.node ≢ number two.at.node)
    × (number two.above.stamp.node ≢ number leaf) × (number two.at.node ≢ number leaf) × (number c ≢ number leaf)
    × HoldsAlike (h (number two.at.node))
MayChangeAbove number key (Some v) two (Split top leaf common byte) h = Changeable (h (number two.above.stamp.node)) two.above.byte (Below (number top))
    × Blank (h (number top)) 1 × Blank (h (number leaf)) 0 × (common < MAX_PREFIX_LEN) × (byte ≢ slice_index key common)
    × (number two.above.stamp.node ≢ number top) × (number two.above.stamp.node ≢ number leaf) × (number top ≢ number leaf)

-- what the store wants of the nodes that the next step names
abbrev pub MayStep : {C V : Type 0} → (C → ℕ) → C → List ℕ → Option V → Phase C V → (ℕ → Node V) → Type 0
MayStep number root key new (Version above n) h = Stands (h (number n))
MayStep number root key new (Read above at) h = Stands (h (number at.node))
MayStep number root key new (Check s c) h = Stands (h (number s.at.node))
MayStep number root key new (CheckUncopied at) h = Stands (h (number at.node))
MayStep number root key new (CheckMiss p at common byte) h = Stands (h (number p.stamp.node))
MayStep number root key new (CheckDown p at c) h = Stands (h (number p.node))
MayStep number root key new (CheckOld p s v) h = Stands (h (number p.node))
MayStep number root key new (MakeGreater s p leaf) h = (s.depth ≤ MAX_PREFIX_LEN) × MayBackLeaf number h leaf
MayStep number root key new (MakeTop p at common byte) h = common < MAX_PREFIX_LEN
MayStep number root key new (MakeBeside p at common byte top) h = Stands (h (number top))
MayStep number root key new (MakeLesser s p g r) h = (s.depth ≤ MAX_PREFIX_LEN) × (p.depth ≤ MAX_PREFIX_LEN)
MayStep number root key new (Confirm at r) h = Stands (h (number at.node))
MayStep number root key new (CheckAbove p one r) h = Stands (h (number p.node)) × MayBackHere number h one.change
MayStep number root key new (UpgradeHere one r) h = Stands (h (number one.at.node)) × MayBackHere number h one.change
MayStep number root key new (ChangeHere one r) h = MayChangeHere number new one one.change h
MayStep number root key new (UpgradeTop g two r) h = Stands (h (number g.stamp.node)) × MayBackAbove number h two.change
MayStep number root key new (UpgradeAbove two r) h = Stands (h (number two.above.stamp.node)) × MayBackAbove number h two.change
MayStep number root key new (UpgradeBelow two r) h = Stands (h (number two.at.node)) × MayBackAbove number h two.change
MayStep number root key new (ChangeAbove two r) h = MayChangeAbove number key new two two.change h
MayStep number root key new (Obsolete n next p r) h = Stands (h (number n)) × ((h (number n)).locked ≡ true)
MayStep number root key new (Retire n next p r) h = Stands (h (number n)) × ((h (number n)).obsolete ≡ true) × ((h (number n)).retired ≡ false)
MayStep number root key new (UnlockBelow n p r) h = Stands (h (number n)) × ((h (number n)).locked ≡ true)
MayStep number root key new (Unlock n r) h = Stands (h (number n)) × ((h (number n)).locked ≡ true)
MayStep number root key new (Unwind n next e) h = Stands (h (number n)) × ((h (number n)).locked ≡ true)
MayStep number root key new New h = Stands (h (number root))
MayStep number root key new (MakeLeaf s) h = Unit {0}
MayStep number root key new (AskOld s v) h = Unit {0}
MayStep number root key new (AskNew plan) h = Unit {0}
MayStep number root key new (Scan s) h = MayScan number root s h
MayStep number root key new Ended h = Unit {0}

-- the same of a call
abbrev pub MachineMayStep : {C V : Type 0} → (C → ℕ) → Machine C V → (ℕ → Node V) → Type 0
MachineMayStep number m h = MayStep number m.root (key_bytes m.key) m.given m.phase h
