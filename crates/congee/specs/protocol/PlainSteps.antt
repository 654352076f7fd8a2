-- One step of a call on nodes that are known by their numbers and never taken away, as a function. It is the same table as
-- that of a step on a store, where nothing is refused: each node that a call wants is made, under the next number, and each
-- value can be copied. A read of a changed node sees what the event says, in which a mark stands for each name.
use Rattle.std.specs.Prelude.{ℕ, zero, suc, ◌+◌, ◌*◌, ◌-◌, ◌==◌, Bool, true, false, List, [], ◌∷◌, length, slice_index, take, Option, None, Some, Ok, Err, cond}
use Rattle.judge.specs.declared.journal.Reply.{Reply}
use Rattle.judge.specs.declared.journal.Reply.TheVariants as reply
use Rattle.congee.specs.declared.forms.base_node.NodeType.{NodeType}
use Rattle.congee.specs.declared.forms.base_node.NodeType.TheVariants.{N4, N16, N48, N256}
use Rattle.congee.specs.declared.forms.child.Child.{Child}
use Rattle.congee.specs.declared.forms.child.Child.TheVariants as child
use Rattle.congee.specs.declared.protocol.store.Least.{Least}
use Rattle.congee.specs.declared.protocol.store.Least.TheVariants as least
use Rattle.congee.specs.declared.protocol.store.Reading.{Reading}
use Rattle.congee.specs.declared.protocol.store.Reading.TheVariants.{Differs, Fits}
use Rattle.congee.specs.declared.protocol.store.Refusal.TheVariants as refusal
use Rattle.congee.specs.declared.protocol.store.Region.{Region}
use Rattle.congee.specs.declared.protocol.store.Stamp.{Stamp}
use Rattle.congee.specs.declared.protocol.store.Seen.{Seen}
use Rattle.congee.specs.declared.protocol.store.Upgrade.{Upgrade}
use Rattle.congee.specs.declared.protocol.store.Upgrade.TheVariants.{Locked, Failed, Exhausted}
use Rattle.congee.specs.declared.protocol.phase.Kind.{Kind}
use Rattle.congee.specs.declared.protocol.phase.Kind.TheVariants.{Get, Insert, Remove, ComputePresent, ComputeInsert, Exchange}
use Rattle.congee.specs.declared.protocol.phase.Parent.{Parent}
use Rattle.congee.specs.declared.protocol.phase.Above.{Above as Over}
use Rattle.congee.specs.declared.protocol.phase.Site.{Site}
use Rattle.congee.specs.declared.protocol.phase.Placement.{Placement}
use Rattle.congee.specs.declared.protocol.phase.Placement.TheVariants.{Set, Link}
use Rattle.congee.specs.declared.protocol.phase.NodeChange.{NodeChange}
use Rattle.congee.specs.declared.protocol.phase.Replacement.{Replacement}
use Rattle.congee.specs.declared.protocol.phase.Replacement.TheVariants.{Unlink, Grow, GrowLink, Split, Shrink, Collapse, ShrinkAbove}
use Rattle.congee.specs.declared.protocol.phase.ParentChange.{ParentChange}
use Rattle.congee.specs.declared.protocol.phase.Plan.{Plan}
use Rattle.congee.specs.declared.protocol.phase.Plan.TheVariants.{Above}
use Rattle.congee.specs.declared.protocol.phase.Phase.{Phase}
use Rattle.congee.specs.declared.protocol.phase.Phase.TheVariants.{New, Version, Read, Check, CheckUncopied, CheckMiss, CheckDown, CheckOld, MakeLeaf, MakeGreater, MakeTop, MakeBeside, MakeLesser, AskOld, AskNew, Confirm, CheckAbove, UpgradeHere, ChangeHere, UpgradeTop, UpgradeAbove, UpgradeBelow, ChangeAbove, Obsolete, Retire, UnlockBelow, Unlock, Unwind, Scan, Ended}
use Rattle.congee.specs.declared.protocol.scan.Rung.{Rung}
use Rattle.congee.specs.declared.protocol.scan.Stage.{Stage}
use Rattle.congee.specs.declared.protocol.scan.Stage.TheVariants as stage
use Rattle.congee.specs.declared.protocol.scan.ScanState.{ScanState as ScanState}
use Rattle.congee.specs.declared.protocol.scan.ScanReport.TheVariants as scan_report
use Rattle.congee.specs.declared.protocol.next_phase.NextPhase.{NextPhase}
use Rattle.congee.specs.declared.protocol.machine.Machine.{Machine}
use Rattle.congee.specs.declared.protocol.machine.Noise.{Noise}
use Rattle.congee.specs.Heap.{Node, Hung, Nothing, Below, Holds, fits, child_for, version_of, is_taken}
use Rattle.congee.specs.Keys.{key_bytes}
use Rattle.congee.specs.protocol.Events.{upgrade_gives, places, weight}
use Rattle.congee.specs.protocol.Regions.{span}
use Rattle.congee.specs.protocol.Seeing.{least_seen}
use Rattle.congee.specs.protocol.Steps.{quiet, again, answered, finished, refused, decided, asking, adds, form_above, form_below, node_of, both, after_version, after_read, down, started, ready, unless_full, absent, replaced, emptied, is_same, after_miss, greater, value_hung, after_change, after_retire, after_unwind, given_up, after_scan}
use Rattle.congee.specs.protocol.ScanSteps.{last_byte, pushed, moved, NextScan, goes, over, anew, left, entered, filled, begins}
use Rattle.congee.specs.declared.forms.prefix.TheConstants.{MAX_PREFIX_LEN}

-- what stands for each name in what an event says of a changed node
abbrev pub Mark : Type 0
Mark = Unit {0}

-- the nodes with one of them changed
abbrev pub put : {V : Type 0} → (ℕ → Node V) → ℕ → Node V → ℕ → Node V
put h n x m = cond (m == n) x (h m)

-- a node is locked
abbrev pub lock : {V : Type 0} → (ℕ → Node V) → ℕ → ℕ → Node V
lock h n = put h n (record (h n) { locked = true })

-- it is unlocked, with the next version
abbrev pub free : {V : Type 0} → (ℕ → Node V) → ℕ → ℕ → Node V
free h n = put h n (record (h n) { version = (h n).version + 1; locked = false })

-- it is marked obsolete
abbrev pub mark : {V : Type 0} → (ℕ → Node V) → ℕ → ℕ → Node V
mark h n = put h n (record (h n) { obsolete = true })

-- it is handed over
abbrev pub hand : {V : Type 0} → (ℕ → Node V) → ℕ → ℕ → Node V
hand h n = put h n (record (h n) { retired = true })

-- it is given back
abbrev pub back : {V : Type 0} → (ℕ → Node V) → ℕ → ℕ → Node V
back h n = put h n (record (h n) { destroyed = true; locked = false })

-- something hangs at the byte of a node, in place of what hung there
abbrev pub with_child : {V : Type 0} → Node V → ℕ → Hung V → Node V
with_child n b x = record n { children = λ c. cond (c == b) x (n.children c); count = n.count + weight x - weight (n.children b) }

-- the same in the nodes
abbrev pub hang : {V : Type 0} → (ℕ → Node V) → ℕ → ℕ → Hung V → ℕ → Node V
hang h n b x = put h n (with_child (h n) b x)

-- node c has the children of node m
abbrev pub copy : {V : Type 0} → (ℕ → Node V) → ℕ → ℕ → ℕ → Node V
copy h m c = put h c (record (h c) { children = (h m).children; count = (h m).count })

-- node m has no children any more
abbrev pub clear : {V : Type 0} → (ℕ → Node V) → ℕ → ℕ → Node V
clear h m = put h m (record (h m) { children = λ b. Nothing; count = 0 })

-- a new node
abbrev pub new_node : {V : Type 0} → NodeType → List ℕ → Node V
new_node form prefix = record {
  prefix = prefix;
  children = λ b. Nothing;
  count = 0;
  capacity = places form;
  version = 0;
  locked = false;
  obsolete = false;
  made = true;
  destroyed = false;
  retired = false;
}

-- how many first bytes of the prefix are the key's
abbrev pub common : List ℕ → List ℕ → ℕ
common [] key = 0
common (x ∷ p) [] = 0
common (x ∷ p) (y ∷ key) = cond (x == y) (suc (common p key)) 0

-- what hangs at a byte, as a child
abbrev pub child_of : {V : Type 0} → Hung V → Child ℕ V
child_of Nothing = child.Blank
child_of (Below c) = child.Node c
child_of (Holds v) = child.Value v

-- the mark is the root's number, which is never followed
abbrev pub unmarked : {V : Type 0} → Child Mark V → Child ℕ V
unmarked child.Blank = child.Blank
unmarked (child.Node m) = child.Node 0
unmarked (child.Value v) = child.Value v

-- what a read finds at a node as it is
abbrev pub looks : {V : Type 0} → Node V → List ℕ → Seen ℕ V
looks n key = record { child = child_of (child_for n key); byte = slice_index key (length n.prefix); full = n.count == n.capacity; count = n.count }

-- what a read finds at a changed node
abbrev pub told_of : {V : Type 0} → ℕ → Option (Seen Mark V) → Seen ℕ V
told_of byte None = record { child = child.Blank; byte = byte; full = false; count = 0 }
told_of byte (Some x) = record { child = unmarked x.child; byte = byte; full = x.full; count = x.count }

-- the form of a node by its places
abbrev pub form_of : ℕ → NodeType
form_of n = cond (n == 4) N4 (cond (n == 16) N16 (cond (n == 48) N48 N256))

-- a read of a node for a key
abbrev pub reading : {V : Type 0} → Node V → ℕ → List ℕ → Option (Seen Mark V) → Reading ℕ V
reading n v key seen = cond (fits n.prefix key)
    (Fits (length n.prefix) (form_of n.capacity) (cond (is_taken n v) (looks n key) (told_of (slice_index key (length n.prefix)) seen)))
    (Differs (common n.prefix key) (slice_index n.prefix (common n.prefix key)))

-- the child of the least byte from one on, of so many bytes
abbrev pub least_or : {V : Type 0} → ℕ → Hung V → Least ℕ V → Least ℕ V
least_or byte Nothing r = r
least_or byte (Below c) r = least.Node byte c
least_or byte (Holds v) r = least.Value byte v

-- the first of so many bytes that has one
abbrev pub least_from : {V : Type 0} → Node V → ℕ → ℕ → Least ℕ V
least_from n zero from = least.Nothing
least_from n (suc f) from = least_or from (n.children from) (least_from n f (from + 1))

-- what was to be seen of it at a changed node
abbrev pub least_told : {V : Type 0} → Option (Seen Mark V) → Least ℕ V
least_told None = least.Nothing
least_told (Some x) = least_seen x.byte (unmarked x.child)

-- the least child from one byte to another, by whether the node is as it was taken
abbrev pub least_of : {V : Type 0} → Node V → ℕ → ℕ → ℕ → Option (Seen Mark V) → Least ℕ V
least_of n v from last seen = cond (is_taken n v) (least_from n (last + 1 - from) from) (least_told seen)

-- the node that hangs at another byte than this one, of so many bytes from one on
abbrev pub name_or : {V : Type 0} → Hung V → ℕ → ℕ
name_or Nothing c = c
name_or (Below d) c = d
name_or (Holds v) c = c

-- the first such node
abbrev pub other_from : {V : Type 0} → Node V → ℕ → ℕ → ℕ → ℕ
other_from n b zero from = 0
other_from n b (suc f) from = cond (from == b) (other_from n b f (from + 1)) (name_or (n.children from) (other_from n b f (from + 1)))

-- the node that hangs at another byte
abbrev pub other_of : {V : Type 0} → Node V → ℕ → ℕ
other_of n b = other_from n b 256 0

-- the keys that begin with a prefix
abbrev pub front : ℕ → List ℕ → ℕ
front q [] = q
front q (b ∷ p) = front (256 * q + b) p

-- they are a region
abbrev pub region_of : List ℕ → Region
region_of p = record { base = front 0 p * span (length p); depth = length p }

-- the step of a scan
abbrev pub followed : {V : Type 0} → (ℕ → Node V) → ScanState ℕ V → Rung ℕ → Least ℕ V → NextScan ℕ V
followed h s r least.Nothing = left s
followed h s r (least.Node byte c) = goes s (pushed s.above (moved r byte)) (stage.Enter c (region_of (h c).prefix))
followed h s r (least.Value byte v) = filled s r byte v
followed h s r least.Uncopied = over s (scan_report.Refused refusal.Count)

-- a scan's step, by its stage
abbrev pub next_scan : {V : Type 0} → ℕ → Option (Seen Mark V) → (ℕ → Node V) → ScanState ℕ V → Stage ℕ V → NextScan ℕ V
next_scan root seen h s stage.New = begins root s (version_of (h root))
next_scan root seen h s (stage.Enter n x) = entered root s n x (version_of (h n))
next_scan root seen h s (stage.Look r) = goes s s.above (stage.Check r (least_of (h r.at.node) r.at.version r.from (last_byte s.last r.region) seen))
next_scan root seen h s (stage.Check r x) = cond (is_taken (h r.at.node) r.at.version) (followed h s r x) (anew root s)
next_scan root seen h s stage.Full = over s (scan_report.Done s.count)
next_scan root seen h s stage.Over = over s scan_report.Running

-- what a call does that stands at a value
abbrev pub asked : {V : Type 0} → Site ℕ → V → NextPhase ℕ V
asked s v = asking (AskOld s v) (Some v)

-- an insertion puts its own value there, and any other call asks
abbrev pub at_old : {V : Type 0} → (V → V → Bool) → Kind V → Option V → Site ℕ → V → NextPhase ℕ V
at_old same Insert new s v = replaced s (is_same same v new) (reply.Insert (Some v))
at_old same _ new s v = asked s v

-- it does so where nothing is above; else the node above is checked first
abbrev pub added : {V : Type 0} → (V → V → Bool) → Kind V → Option V → Site ℕ → Option (Over ℕ) → V → NextPhase ℕ V
added same kind new s None v = at_old same kind new s v
added same kind new s (Some u) v = quiet (CheckOld u.near.stamp s v)

-- an exchange that found its old value
abbrev pub exchanged : {V : Type 0} → (V → V → Bool) → Option V → Site ℕ → V → NextPhase ℕ V
exchanged same None s v = emptied s (reply.Exchange (Ok None))
exchanged same (Some w) s v = replaced s (same v w) (reply.Exchange (Ok (Some w)))

-- what each kind of call does where its key is present
abbrev pub present : {V : Type 0} → (V → V → Bool) → Kind V → Option V → Site ℕ → V → NextPhase ℕ V
present same Get new s v = answered (reply.Get (Some v))
present same Insert new s v = added same Insert new s s.above v
present same Remove new s v = emptied s (reply.Remove (Some v))
present same ComputePresent new s v = asked s v
present same ComputeInsert new s v = added same ComputeInsert new s s.above v
present same (Exchange old) new s v = cond (same v old) (exchanged same new s v) (quiet (Confirm s.at (reply.Exchange (Err (Some v)))))

-- after a check that succeeded
abbrev pub checked : {V : Type 0} → (V → V → Bool) → Kind V → Option V → Site ℕ → Child ℕ V → NextPhase ℕ V
checked same kind new s child.Blank = absent kind s
checked same kind new s (child.Node c) = down (adds kind) s s.above c
checked same kind new s (child.Value v) = present same kind new s v

-- the call's value, and what it does, after its closure's answer about a value that stands, and about an absent key
abbrev pub given_old : {V : Type 0} → (V → V → Bool) → Kind V → Site ℕ → V → Option (Option V) → Option V → Option V × NextPhase ℕ V
given_old same kind s v None new = (new, asked s v)
given_old same ComputeInsert s v (Some None) new = (new, asked s v)
given_old same ComputeInsert s v (Some (Some x)) new = (Some x, replaced s (same v x) (reply.ComputeInsert (Some v)))
given_old same _ s v (Some None) new = (None, emptied s (reply.ComputePresent (Some (v, None))))
given_old same _ s v (Some (Some x)) new = (Some x, replaced s (same v x) (reply.ComputePresent (Some (v, Some x))))

-- the same about an absent key
abbrev pub given_new : {V : Type 0} → Plan ℕ → Option (Option V) → Option V → Option V × NextPhase ℕ V
given_new plan (Some (Some x)) new = (Some x, started plan (reply.ComputeInsert None))
given_new plan _ new = (new, asking (AskNew plan) None)

-- the made nodes of a change go back
abbrev pub back_one : {V : Type 0} → Placement ℕ → (ℕ → Node V) → ℕ → Node V
back_one Set h = h
back_one (Link leaf) h = back h leaf

-- those of a change of two nodes
abbrev pub back_two : {V : Type 0} → Replacement ℕ → (ℕ → Node V) → ℕ → Node V
back_two Unlink h = h
back_two (Grow c) h = back h c
back_two (GrowLink c leaf byte) h = back (back h leaf) c
back_two (Split top leaf common byte) h = back (back h leaf) top
back_two (Shrink c) h = back h c
back_two Collapse h = h
back_two (ShrinkAbove c) h = back h c

-- a change of one node, and of the node above; a node that comes into reach is filled before
abbrev pub change_one : {V : Type 0} → List ℕ → Option V → NodeChange ℕ → Placement ℕ → (ℕ → Node V) → ℕ → Node V
change_one key new one Set h = hang h one.at.node one.byte (value_hung new)
change_one key new one (Link leaf) h = hang (hang h leaf (slice_index key MAX_PREFIX_LEN) (value_hung new)) one.at.node one.byte (Below leaf)

-- the change of the node above both
abbrev pub change_top : {V : Type 0} → ParentChange ℕ → Replacement ℕ → Option (Parent ℕ) → (ℕ → Node V) → ℕ → Node V
change_top two Collapse (Some g) h = hang h g.stamp.node g.byte (Below (other_of (h two.above.stamp.node) two.above.byte))
change_top two (ShrinkAbove c) (Some g) h = hang (hang (copy h two.above.stamp.node c) c two.above.byte Nothing) g.stamp.node g.byte (Below c)
change_top two _ top h = h

-- a change of two nodes
abbrev pub change_two : {V : Type 0} → List ℕ → Option V → ParentChange ℕ → Replacement ℕ → (ℕ → Node V) → ℕ → Node V
change_two key new two Unlink h = hang h two.above.stamp.node two.above.byte Nothing
change_two key new two (Shrink c) h =
    hang (hang (clear (copy h two.at.node c) two.at.node) c (slice_index key MAX_PREFIX_LEN) Nothing) two.above.stamp.node two.above.byte (Below c)
change_two key new two Collapse h = change_top two Collapse two.top h
change_two key new two (ShrinkAbove c) h = change_top two (ShrinkAbove c) two.top h
change_two key new two (Grow c) h =
    hang (hang (clear (copy h two.at.node c) two.at.node) c (slice_index key MAX_PREFIX_LEN) (value_hung new)) two.above.stamp.node two.above.byte (Below c)
change_two key new two (GrowLink c leaf byte) h =
    hang (hang (copy (hang h leaf (slice_index key MAX_PREFIX_LEN) (value_hung new)) two.at.node c) c byte (Below leaf)) two.above.stamp.node two.above.byte (Below c)
change_two key new two (Split top leaf common byte) h =
    hang (hang (hang (hang h leaf (slice_index key MAX_PREFIX_LEN) (value_hung new)) top byte (Below two.at.node)) top (slice_index key common) (Below leaf)) two.above.stamp.node two.above.byte (Below top)

-- what a step leaves: the call's value, its next phase with what the step reports, the nodes, and how many were made
pub record Went (V : Type 0) : Type 0 where
  pub given : Option V
  pub next_phase : NextPhase ℕ V
  pub heap : ℕ → Node V
  pub made : ℕ

-- a step that leaves these
abbrev pub went : {V : Type 0} → Option V → NextPhase ℕ V → (ℕ → Node V) → ℕ → Went V
went new t h k = record { given = new; next_phase = t; heap = h; made = k }

-- a check, and what follows where it succeeds
abbrev pub passes : {V : Type 0} → (ℕ → Node V) → Stamp ℕ → ℕ → NextPhase ℕ V → NextPhase ℕ V
passes h at root t = cond (is_taken (h at.node) at.version) t (again root)

-- a node is made under the next number
abbrev pub making : {V : Type 0} → NodeType → List ℕ → ℕ → Option V → (ℕ → Node V) → ℕ → (ℕ → NextPhase ℕ V) → Went V
making form key size new h k t = went new (t k) (put h k (new_node form (take size key))) (suc k)

-- the one that takes the place of the leaf, or of the node above
abbrev pub made_lesser : {V : Type 0} → List ℕ → Option V → (ℕ → Node V) → ℕ → Site ℕ → Parent ℕ → Option (Parent ℕ) → Reply V → Went V
made_lesser key new h k s p None r = making (form_below s.form) key s.depth new h k (λ c. quiet (UpgradeAbove (both p s (Shrink c)) r))
made_lesser key new h k s p (Some g) r = making (form_below p.form) key p.depth new h k (λ c. quiet (UpgradeTop g (both p s (ShrinkAbove c)) r))

-- an exchange of a lock word, and what follows
abbrev pub upgraded_one : {V : Type 0} → ℕ → Option V → (ℕ → Node V) → ℕ → NodeChange ℕ → Reply V → Upgrade → Went V
upgraded_one root new h k one r Locked = went new (quiet (ChangeHere one r)) (lock h one.at.node) k
upgraded_one root new h k one r Failed = went new (again root) (back_one one.change h) k
upgraded_one root new h k one r Exhausted = went new (refused refusal.Exhausted) (back_one one.change h) k

-- that of the node above both
abbrev pub upgraded_top : {V : Type 0} → ℕ → Option V → (ℕ → Node V) → ℕ → Parent ℕ → ParentChange ℕ → Reply V → Upgrade → Went V
upgraded_top root new h k g two r Locked = went new (quiet (UpgradeAbove (record two { top = Some g }) r)) (lock h g.stamp.node) k
upgraded_top root new h k g two r Failed = went new (again root) (back_two two.change h) k
upgraded_top root new h k g two r Exhausted = went new (refused refusal.Exhausted) (back_two two.change h) k

-- that of the upper one of two
abbrev pub upgraded_above : {V : Type 0} → ℕ → Option V → (ℕ → Node V) → ℕ → ParentChange ℕ → Reply V → Upgrade → Went V
upgraded_above root new h k two r Locked = went new (quiet (UpgradeBelow two r)) (lock h two.above.stamp.node) k
upgraded_above root new h k two r Failed = went new (given_up root two.top None) (back_two two.change h) k
upgraded_above root new h k two r Exhausted = went new (given_up root two.top (Some refusal.Exhausted)) (back_two two.change h) k

-- that of the lower one of two
abbrev pub upgraded_below : {V : Type 0} → Option V → (ℕ → Node V) → ℕ → ParentChange ℕ → Reply V → Upgrade → Went V
upgraded_below new h k two r Locked = went new (quiet (ChangeAbove two r)) (lock h two.at.node) k
upgraded_below new h k two r Failed = went new (quiet (Unwind two.above.stamp.node (node_of two.top) None)) (back_two two.change h) k
upgraded_below new h k two r Exhausted = went new (quiet (Unwind two.above.stamp.node (node_of two.top) (Some refusal.Exhausted))) (back_two two.change h) k

-- the check before one node is changed: the node made goes back where it fails
abbrev pub passed_above : {V : Type 0} → Bool → ℕ → Option V → (ℕ → Node V) → ℕ → NodeChange ℕ → Reply V → Went V
passed_above true root new h k one r = went new (quiet (UpgradeHere one r)) h k
passed_above false root new h k one r = went new (again root) (back_one one.change h) k

-- the step of a phase, of which the first k nodes were made
abbrev pub phase_step : {V : Type 0} → (V → V → Bool) → ℕ → ℕ → List ℕ → Kind V → Bool → Option (Seen Mark V) → Option (Option V) → Option V → Phase ℕ V → (ℕ → Node V) → ℕ → Went V
phase_step same most root key kind fail seen answer new New h k = went new (after_version root None root (version_of (h root))) h k
phase_step same most root key kind fail seen answer new (Version above n) h k = went new (after_version root above n (version_of (h n))) h k
phase_step same most root key kind fail seen answer new (Read above at) h k = went new (after_read root above at (reading (h at.node) at.version key seen)) h k
phase_step same most root key kind fail seen answer new (Check s c) h k = went new (passes h s.at root (checked same kind new s c)) h k
phase_step same most root key kind fail seen answer new (CheckUncopied at) h k = went new (passes h at root (refused refusal.Count)) h k
phase_step same most root key kind fail seen answer new (CheckMiss p at common byte) h k = went new (passes h p.stamp root (after_miss kind p at common byte)) h k
phase_step same most root key kind fail seen answer new (CheckDown p at c) h k = went new (passes h p root (quiet (Version (Some at) c))) h k
phase_step same most root key kind fail seen answer new (CheckOld p s v) h k = went new (passes h p root (at_old same kind new s v)) h k
phase_step same most root key kind fail seen answer new (MakeLeaf s) h k = making N4 key MAX_PREFIX_LEN new h k (λ leaf. unless_full kind s s.full s.above (Some leaf) (Link leaf))
phase_step same most root key kind fail seen answer new (MakeGreater s p leaf) h k = making (form_above s.count) key s.depth new h k (λ c. ready kind (Above (both p s (greater s leaf c))))
phase_step same most root key kind fail seen answer new (MakeTop p at common byte) h k = making N4 key common new h k (λ top. quiet (MakeBeside p at common byte top))
phase_step same most root key kind fail seen answer new (MakeBeside p at common byte top) h k = making N4 key MAX_PREFIX_LEN new h k (λ leaf. ready kind (Above (record { top = None; above = p; at = at; change = Split top leaf common byte })))
phase_step same most root key kind fail seen answer new (MakeLesser s p g r) h k = made_lesser key new h k s p g r
phase_step same most root key kind fail seen answer new (AskOld s v) h k = went (given_old same kind s v answer new).0 (given_old same kind s v answer new).1 h k
phase_step same most root key kind fail seen answer new (AskNew plan) h k = went (given_new plan answer new).0 (given_new plan answer new).1 h k
phase_step same most root key kind fail seen answer new (Confirm at r) h k = went new (passes h at root (answered r)) h k
phase_step same most root key kind fail seen answer new (CheckAbove p one r) h k = passed_above (is_taken (h p.node) p.version) root new h k one r
phase_step same most root key kind fail seen answer new (UpgradeHere one r) h k = upgraded_one root new h k one r (upgrade_gives most (h one.at.node) one.at.version fail)
phase_step same most root key kind fail seen answer new (ChangeHere one r) h k = went None (decided (Unlock one.at.node r)) (change_one key new one one.change h) k
phase_step same most root key kind fail seen answer new (UpgradeTop g two r) h k = upgraded_top root new h k g two r (upgrade_gives most (h g.stamp.node) g.stamp.version fail)
phase_step same most root key kind fail seen answer new (UpgradeAbove two r) h k = upgraded_above root new h k two r (upgrade_gives most (h two.above.stamp.node) two.above.stamp.version fail)
phase_step same most root key kind fail seen answer new (UpgradeBelow two r) h k = upgraded_below new h k two r (upgrade_gives most (h two.at.node) two.at.version fail)
phase_step same most root key kind fail seen answer new (ChangeAbove two r) h k = went None (after_change two r two.change) (change_two key new two two.change h) k
phase_step same most root key kind fail seen answer new (Obsolete n next p r) h k = went new (quiet (Retire n next p r)) (mark h n) k
phase_step same most root key kind fail seen answer new (Retire n next p r) h k = went new (after_retire next p r) (hand h n) k
phase_step same most root key kind fail seen answer new (UnlockBelow n p r) h k = went new (quiet (Unlock p r)) (free h n) k
phase_step same most root key kind fail seen answer new (Unlock n r) h k = went new (finished r) (free h n) k
phase_step same most root key kind fail seen answer new (Unwind n next e) h k = went new (after_unwind root next e) (free h n) k
phase_step same most root key kind fail seen answer new (Scan s) h k = went new (after_scan (next_scan root seen h s s.stage).0 (next_scan root seen h s s.stage).1) h k
phase_step same most root key kind fail seen answer new Ended h k = went new (quiet Ended) h k

-- the next step of a call
abbrev pub plain_step : {V : Type 0} → (V → V → Bool) → ℕ → Machine ℕ V → Noise Mark V → (ℕ → Node V) → ℕ → Went V
plain_step same most m noise h k = phase_step same most m.root (key_bytes m.key) m.kind noise.fail noise.seen noise.answer m.given m.phase h k

-- nodes by their numbers, how many were made, and for each worker its call
pub record Plain (V : Type 0) : Type 0 where
  pub heap : ℕ → Node V
  pub made : ℕ
  pub calls : ℕ → Machine ℕ V

-- the call of one worker is another one
abbrev pub with_call : {V : Type 0} → Plain V → ℕ → Machine ℕ V → Plain V
with_call s i m = record s { calls = λ j. cond (j == i) m (s.calls j) }

-- a worker's call after its next step
abbrev pub call_after : {V : Type 0} → Machine ℕ V → Went V → Machine ℕ V
call_after m w = record m { given = w.given; phase = w.next_phase.phase }
