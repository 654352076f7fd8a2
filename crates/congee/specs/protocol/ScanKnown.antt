-- What a scan knows of the tree between its steps, as long as others may step, and what it has settled.
use Rattle.std.specs.Prelude.{◌≡◌, ℕ, suc, ◌+◌, ◌<◌, ◌≤◌, ◌^◌, Bool, true, List, [], ◌∷◌, length, take}
use Rattle.std.specs.Ordering.{nat_cmp}
use Rattle.std.specs.FinMap.{FinMap}
use Rattle.congee.specs.declared.protocol.store.Region.{Region}
use Rattle.congee.specs.declared.protocol.scan.Rung.{Rung}
use Rattle.congee.specs.declared.protocol.scan.Stage.{Stage}
use Rattle.congee.specs.declared.protocol.scan.Stage.TheVariants as stage
use Rattle.congee.specs.declared.protocol.scan.ScanState.{ScanState}
use Rattle.congee.specs.declared.protocol.scan.ScanReport.{ScanReport}
use Rattle.congee.specs.declared.protocol.scan.ScanReport.TheVariants as scan_report
use Rattle.congee.specs.Heap.{Node}
use Rattle.congee.specs.Notes.{Note, is_published}
use Rattle.congee.specs.protocol.Stamps.{Stamped, Fresh}
use Rattle.congee.specs.protocol.Regions.{span, IsRegion, start_at}
use Rattle.congee.specs.protocol.Scans.{Lacked, IsScan, ScannedTo, written}
use Rattle.congee.specs.protocol.ScanEvents.{IsAny, LeastTruly}
use Rattle.congee.specs.protocol.ScanSteps.{rungs_of, last_byte}
use Rattle.congee.specs.declared.keys.TheConstants.{KEY_BYTES}

-- a node on the way, with so many above it: its keys are those of the region, and the first is at most the range's last
pub record RungKnown {C V : Type 0} (number : C → ℕ) (a : ℕ → Note) (h : ℕ → Node V) (last above : ℕ) (r : Rung C) : Type 0 where
  pub stamped : Stamped a h (number r.at.node) r.at.version
  pub region : IsRegion (h (number r.at.node)).prefix r.region.base r.region.depth
  pub deep : above ≤ r.region.depth
  pub within : r.region.base ≤ last
  pub bound : r.from ≤ 256

-- so is each on the way, from the root down
abbrev pub RungsKnown : {C V : Type 0} → (C → ℕ) → (ℕ → Note) → (ℕ → Node V) → ℕ → ℕ → List (Rung C) → Type 0
RungsKnown number a h last above [] = Unit {0}
RungsKnown number a h last above (r ∷ rest) = RungKnown number a h last above r × RungsKnown number a h last (suc above) rest

-- a scan's range ends with a key, and has one where there is a place
pub record HasRange {C V : Type 0} (s : ScanState C V) : Type 0 where
  pub bound : s.last < 2 ^ 64
  pub range : 0 < s.size → s.start ≤ s.last

-- the way of a scan, with a place for what it finds next
pub record WayKnown {C V : Type 0} (number : C → ℕ) (a : ℕ → Note) (h : ℕ → Node V) (s : ScanState C V) : Type 0 where
  pub range : s.start ≤ s.last
  pub bound : s.last < 2 ^ 64
  pub room : s.count < s.size
  pub fits : s.above.len ≤ KEY_BYTES
  pub rungs : RungsKnown number a h s.last 0 (rungs_of s.above)

-- what the scan knows before each step
abbrev pub ScanKnownAt : {C V : Type 0} → (C → ℕ) → Bool → (ℕ → Note) → (ℕ → Node V) → ScanState C V → Stage C V → Type 0
ScanKnownAt number always a h s stage.New = HasRange s
ScanKnownAt number always a h s (stage.Enter n x) = WayKnown number a h s × (is_published (a (number n)).status ≡ true) × IsRegion (h (number n)).prefix x.base x.depth × (s.above.len ≤ x.depth)
ScanKnownAt number always a h s (stage.Look r) = WayKnown number a h s × RungKnown number a h s.last s.above.len r
ScanKnownAt number always a h s (stage.Check r x) = WayKnown number a h s × RungKnown number a h s.last s.above.len r × IsAny always x
    × Fresh a h (number r.at.node) r.at.version (λ n. LeastTruly number n r.from (last_byte s.last r.region) x)
ScanKnownAt number always a h s stage.Full = Unit {0}
ScanKnownAt number always a h s stage.Over = Unit {0}

-- the same by its own stage
abbrev pub ScanKnown : {C V : Type 0} → (C → ℕ) → Bool → (ℕ → Note) → (ℕ → Node V) → ScanState C V → Type 0
ScanKnown number always a h s = ScanKnownAt number always a h s s.stage

-- the names that it has
abbrev pub names_rungs : {C : Type 0} → (C → ℕ) → List (Rung C) → List ℕ
names_rungs number [] = []
names_rungs number (r ∷ rest) = number r.at.node ∷ names_rungs number rest

-- those of a scan at a stage
abbrev pub names_scan_at : {C V : Type 0} → (C → ℕ) → ScanState C V → Stage C V → List ℕ
names_scan_at number s stage.New = []
names_scan_at number s (stage.Enter n x) = number n ∷ names_rungs number (rungs_of s.above)
names_scan_at number s (stage.Look r) = number r.at.node ∷ names_rungs number (rungs_of s.above)
names_scan_at number s (stage.Check r x) = number r.at.node ∷ names_rungs number (rungs_of s.above)
names_scan_at number s stage.Full = []
names_scan_at number s stage.Over = []

-- those of a scan
abbrev pub names_scan : {C V : Type 0} → (C → ℕ) → ScanState C V → List ℕ
names_scan number s = names_scan_at number s s.stage

-- the first number past the keys below a node
abbrev pub end_of : Region → ℕ
end_of x = x.base + span x.depth

-- the least key that a node on the way has yet to look at
abbrev pub start_of : {C : Type 0} → Rung C → ℕ
start_of r = start_at r.region.base r.region.depth r.from

-- a node was read below another one, and each key of the range between the node's last and the next one that the node
-- above has to look at was lacking in some map
pub record Gap {C V : Type 0} (start end : ℕ) (states : List (FinMap nat_cmp V)) (r : Rung C) (x : Region) : Type 0 where
  pub inside : end_of x ≤ start_of r
  pub aim : start < start_of r
  pub lacked : (k : ℕ) → start ≤ k → k < end → end_of x ≤ k → k < start_of r → Lacked states k

-- the same from node to node along the way
abbrev pub Gaps : {C V : Type 0} → ℕ → ℕ → List (FinMap nat_cmp V) → Rung C → List (Rung C) → Region → Type 0
Gaps start end states r [] x = Gap start end states r x
Gaps start end states r (q ∷ rest) x = Gap start end states r q.region × Gaps start end states q rest x

-- nothing of the range is past the keys of the first node
abbrev pub IsWay : {C V : Type 0} → ℕ → ℕ → List (FinMap nat_cmp V) → List (Rung C) → Region → Type 0
IsWay start end states [] x = end ≤ end_of x
IsWay start end states (r ∷ rest) x = (end ≤ end_of r.region) × Gaps start end states r rest x

-- a scan at a region, with the keys below a number settled by what it found
pub record Under {C V : Type 0} (s : ScanState C V) (states : List (FinMap nat_cmp V)) (places : List (ℕ × V)) (x : Region) (upto : ℕ) : Type 0 where
  pub counted : s.count ≤ length places
  pub way : IsWay s.start (suc s.last) states (rungs_of s.above) x
  pub scanned_to : ScannedTo s.start (suc s.last) s.size upto states (take s.count places)

-- the same at a node: the keys before those of its next byte are settled, and these aren't all before the range
pub record Aimed {C V : Type 0} (s : ScanState C V) (states : List (FinMap nat_cmp V)) (places : List (ℕ × V)) (r : Rung C) : Type 0 where
  pub under : Under s states places r.region (start_of r)
  pub aim : s.start < start_of r + span (r.region.depth + 1)

-- each place is filled, and the keys up to some number are settled
pub record IsFull {C V : Type 0} (s : ScanState C V) (states : List (FinMap nat_cmp V)) (places : List (ℕ × V)) : Type 0 where
  pub counted : s.count ≤ length places
  pub all : s.count ≡ s.size
  pub upto : ℕ
  pub scanned_to : ScannedTo s.start (suc s.last) s.size upto states (take s.count places)

-- what the scan has settled before each step, by the maps that stood at its own steps so far, and what its caller has of
-- the places
abbrev pub TracksAt : {C V : Type 0} → ScanState C V → List (FinMap nat_cmp V) → List (ℕ × V) → Stage C V → Type 0
TracksAt s states places stage.New = Unit {0}
TracksAt s states places (stage.Enter n x) = Under s states places x x.base
TracksAt s states places (stage.Look r) = Aimed s states places r
TracksAt s states places (stage.Check r x) = Aimed s states places r
TracksAt s states places stage.Full = IsFull s states places
TracksAt s states places stage.Over = Unit {0}

-- the same by its own stage
abbrev pub Tracks : {C V : Type 0} → ScanState C V → List (FinMap nat_cmp V) → List (ℕ × V) → Type 0
Tracks s states places = TracksAt s states places s.stage

-- what the caller has after a step
abbrev pub placed : {V : Type 0} → List (ℕ × V) → ScanReport V → List (ℕ × V)
placed places scan_report.Running = places
placed places (scan_report.Found place k v) = written places place (k, v)
placed places (scan_report.Done count) = places
placed places (scan_report.Refused e) = places

-- a scan that is done has told what it promises, and has ended
abbrev pub Tells : {C V : Type 0} → ScanState C V → List (FinMap nat_cmp V) → List (ℕ × V) → Stage C V → ScanReport V → Type 0
Tells s states places x scan_report.Running = Unit {0}
Tells s states places x (scan_report.Found place k v) = place ≤ length places
Tells s states places x (scan_report.Done count) = (count ≤ length places) × IsScan s.start (suc s.last) s.size states (take count places) × (x ≡ stage.Over)
Tells s states places x (scan_report.Refused e) = x ≡ stage.Over

-- the same range and places
pub record SameCall {C V : Type 0} (s s' : ScanState C V) : Type 0 where
  pub start_is : s'.start ≡ s.start
  pub last_is : s'.last ≡ s.last
  pub size_is : s'.size ≡ s.size
