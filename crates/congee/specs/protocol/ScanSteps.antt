-- One step of a scan on what the store answers.
use Rattle.std.specs.Prelude.{ltb, ◌≡◌, ℕ, ◌+◌, ◌*◌, ◌-◌, ◌/◌, ◌^◌, ◌==◌, ◌<◌, ◌≤◌, Bool, true, false, List, [], ◌∷◌, take, Option, None, Some, cond, slice_get}
use Rattle.congee.specs.declared.protocol.store.Region.{Region}
use Rattle.congee.specs.declared.protocol.store.Least.{Least}
use Rattle.congee.specs.declared.protocol.store.Least.TheVariants as least
use Rattle.congee.specs.declared.protocol.store.Refusal.TheVariants as refusal
use Rattle.congee.specs.declared.protocol.scan.Rung.{Rung}
use Rattle.congee.specs.declared.protocol.scan.Path.{Path}
use Rattle.congee.specs.declared.protocol.scan.Stage.{Stage}
use Rattle.congee.specs.declared.protocol.scan.Stage.TheVariants as stage
use Rattle.congee.specs.declared.protocol.scan.ScanState.{ScanState}
use Rattle.congee.specs.declared.protocol.scan.ScanReport.{ScanReport}
use Rattle.congee.specs.declared.protocol.scan.ScanReport.TheVariants as scan_report
use Rattle.congee.specs.Heap.{Node, Stands, version_of, is_taken}
use Rattle.congee.specs.protocol.Regions.{IsRegion}
use Rattle.congee.specs.protocol.ScanEvents.{LeastGives}
use Rattle.congee.specs.declared.keys.TheConstants.{KEY_BYTES}
use Rattle.congee.specs.declared.forms.prefix.TheConstants.{MAX_PREFIX_LEN}

-- how many keys are below each byte of a node
abbrev pub width : ℕ → ℕ
width depth = 2 ^ (8 * (MAX_PREFIX_LEN - depth))

-- the region of all keys
abbrev pub whole : Region
whole = record { base = 0; depth = 0 }

-- no key of the range begins with the prefix
abbrev pub is_outside : ℕ → ℕ → Region → Bool
is_outside start last x = cond (ltb last x.base) true (cond (ltb x.base start) (ltb 255 ((start - x.base) / width x.depth)) false)

-- the least byte that a key of the range has after the prefix
abbrev pub first_byte : ℕ → Region → ℕ
first_byte start x = cond (ltb x.base start) (cond (ltb 255 ((start - x.base) / width x.depth)) 255 ((start - x.base) / width x.depth)) 0

-- the greatest byte that a key of the range has after the prefix
abbrev pub last_byte : ℕ → Region → ℕ
last_byte last x = cond (ltb 255 ((last - x.base) / width x.depth)) 255 ((last - x.base) / width x.depth)

-- the places of the nodes above
abbrev pub slots : {C : Type 0} → Path C → List (Rung C)
slots p = p.first ∷ p.second ∷ p.third ∷ p.fourth ∷ p.fifth ∷ p.sixth ∷ p.seventh ∷ p.eighth ∷ []

-- a node in one of the places
abbrev pub put_rung : {C : Type 0} → ℕ → Rung C → Path C → Path C
put_rung i r p = cond (i == 0) (record p { first = r }) (cond (i == 1) (record p { second = r }) (cond (i == 2) (record p { third = r }) (cond (i == 3) (record p { fourth = r }) (cond (i == 4) (record p { fifth = r }) (cond (i == 5) (record p { sixth = r }) (cond (i == 6) (record p { seventh = r }) (record p { eighth = r })))))))

-- the nodes above
abbrev pub rungs_of : {C : Type 0} → Path C → List (Rung C)
rungs_of p = take p.len (slots p)

-- the nodes above with one more
abbrev pub pushed : {C : Type 0} → Path C → Rung C → Path C
pushed p r = record (put_rung p.len r p) { len = p.len + 1 }

-- with one less
abbrev pub popped : {C : Type 0} → Path C → Path C
popped p = record p { len = p.len - 1 }

-- with none
abbrev pub cleared : {C : Type 0} → Path C → Path C
cleared p = record p { len = 0 }

-- the last of them
abbrev pub last_of : {C : Type 0} → Path C → Option (Rung C)
last_of p = cond (p.len == 0) None (slice_get (slots p) (p.len - 1))

-- the node goes on past a byte
abbrev pub moved : {C : Type 0} → Rung C → ℕ → Rung C
moved r byte = record { at = r.at; region = r.region; from = byte + 1 }

-- a scan with so many places filled, on this way, before this step
abbrev pub scan_at : {C V : Type 0} → ScanState C V → ℕ → Path C → Stage C V → ScanState C V
scan_at s count above x = record { start = s.start; last = s.last; size = s.size; count = count; above = above; stage = x }

-- the root, before it is looked at
abbrev pub root_rung : {C : Type 0} → C → Rung C
root_rung root = record { at = record { node = root; version = 0 }; region = whole; from = 0 }

-- a scan of start <= k <= last before its begin; no place above is taken
abbrev pub new_scan : {C V : Type 0} → C → ℕ → ℕ → ℕ → ScanState C V
new_scan root start last size = record {
  start = start;
  last = last;
  size = size;
  count = 0;
  above = record { first = root_rung root; second = root_rung root; third = root_rung root; fourth = root_rung root; fifth = root_rung root; sixth = root_rung root; seventh = root_rung root; eighth = root_rung root; len = 0 };
  stage = stage.New;
}

-- what a step leaves
abbrev pub NextScan : Type 0 → Type 0 → Type 0
NextScan C V = ScanState C V × ScanReport V

-- a scan goes on
abbrev pub goes : {C V : Type 0} → ScanState C V → Path C → Stage C V → NextScan C V
goes s above x = (scan_at s s.count above x, scan_report.Running)

-- a scan is over
abbrev pub over : {C V : Type 0} → ScanState C V → ScanReport V → NextScan C V
over s t = (scan_at s s.count s.above stage.Over, t)

-- a scan begins anew, with no place filled
abbrev pub anew : {C V : Type 0} → C → ScanState C V → NextScan C V
anew root s = (scan_at s 0 (cleared s.above) (stage.Enter root whole), scan_report.Running)

-- a node is left: the one above goes on, and above the root nothing does
abbrev pub left_to : {C V : Type 0} → ScanState C V → Option (Rung C) → NextScan C V
left_to s None = over s (scan_report.Done s.count)
left_to s (Some r) = goes s (popped s.above) (stage.Look r)

-- the node at hand is left
abbrev pub left : {C V : Type 0} → ScanState C V → NextScan C V
left s = left_to s (last_of s.above)

-- a node is entered, or left at once where its keys are outside the range
abbrev pub entered : {C V : Type 0} → C → ScanState C V → C → Region → Option ℕ → NextScan C V
entered root s n x None = anew root s
entered root s n x (Some v) = cond (is_outside s.start s.last x) (left s)
    (goes s s.above (stage.Look (record { at = record { node = n; version = v }; region = x; from = first_byte s.start x })))

-- a pair is found, and fills a place
abbrev pub filled : {C V : Type 0} → ScanState C V → Rung C → ℕ → V → NextScan C V
filled s r byte v = (
  scan_at s (s.count + 1) s.above (cond (s.count + 1 == s.size) stage.Full (stage.Look (moved r byte))),
  scan_report.Found s.count (r.region.base + byte) v,
)

-- the check after a read succeeded
abbrev pub IsFollowed : {C V : Type 0} → (C → ℕ) → (ℕ → Node V) → ScanState C V → Rung C → Least C V → NextScan C V → Type 0
IsFollowed number h s r least.Nothing u = u ≡ left s
IsFollowed number h s r (least.Node byte c) u = (x : Region) × IsRegion (h (number c)).prefix x.base x.depth × (u ≡ goes s (pushed s.above (moved r byte)) (stage.Enter c x))
IsFollowed number h s r (least.Value byte v) u = u ≡ filled s r byte v
IsFollowed number h s r least.Uncopied u = u ≡ over s (scan_report.Refused refusal.Count)

-- the check succeeded, or the scan begins anew
pub record IsFollowedIf {C V : Type 0} (taken : Bool) (number : C → ℕ) (h : ℕ → Node V) (root : C) (s : ScanState C V) (r : Rung C) (x : Least C V) (u : NextScan C V) : Type 0 where
  pub goes_on : taken ≡ true → IsFollowed number h s r x u
  pub goes_back : taken ≡ false → u ≡ anew root s

-- the root is entered; without a place the scan is over
abbrev pub begins : {C V : Type 0} → C → ScanState C V → Option ℕ → NextScan C V
begins root s o = cond (s.size == 0) (over s (scan_report.Done 0)) (entered root (anew root s).0 root whole o)

-- the step of a scan
abbrev pub ScanSteppedAt : {C V : Type 0} → (C → ℕ) → Bool → C → ScanState C V → Stage C V → (ℕ → Node V) → NextScan C V → Type 0
ScanSteppedAt number always root s stage.New h u = u ≡ begins root s (version_of (h (number root)))
ScanSteppedAt number always root s (stage.Enter n x) h u = u ≡ entered root s n x (version_of (h (number n)))
ScanSteppedAt {C} {V} number always root s (stage.Look r) h u = (x : Least C V) × LeastGives number always (h (number r.at.node)) r.at.version r.from (last_byte s.last r.region) x × (u ≡ goes s s.above (stage.Check r x))
ScanSteppedAt number always root s (stage.Check r x) h u = IsFollowedIf (is_taken (h (number r.at.node)) r.at.version) number h root s r x u
ScanSteppedAt number always root s stage.Full h u = u ≡ over s (scan_report.Done s.count)
ScanSteppedAt number always root s stage.Over h u = u ≡ over s scan_report.Running

-- the same by its own stage
abbrev pub ScanStepped : {C V : Type 0} → (C → ℕ) → Bool → C → ScanState C V → (ℕ → Node V) → ScanState C V → ScanReport V → Type 0
ScanStepped number always root s h s' t = ScanSteppedAt number always root s s.stage h (s', t)

-- what the step wants
abbrev pub MayFollow : {C V : Type 0} → (C → ℕ) → (ℕ → Node V) → Rung C → Least C V → Type 0
MayFollow number h r least.Nothing = Unit {0}
MayFollow number h r (least.Node byte c) = Stands (h (number c)) × (byte < 256)
MayFollow number h r (least.Value byte v) = (r.region.base + byte < 2 ^ 64) × (byte < 256)
MayFollow number h r least.Uncopied = Unit {0}

-- the same by its stage
abbrev pub MayScanAt : {C V : Type 0} → (C → ℕ) → C → ScanState C V → Stage C V → (ℕ → Node V) → Type 0
MayScanAt number root s stage.New h = Stands (h (number root))
MayScanAt number root s (stage.Enter n x) h = Stands (h (number n)) × (x.depth ≤ MAX_PREFIX_LEN) × (s.above.len ≤ KEY_BYTES)
MayScanAt number root s (stage.Look r) h = Stands (h (number r.at.node)) × (r.region.depth ≤ MAX_PREFIX_LEN) × (r.region.base ≤ s.last)
MayScanAt number root s (stage.Check r x) h = Stands (h (number r.at.node)) × (s.above.len < KEY_BYTES) × (s.count < s.size) × (is_taken (h (number r.at.node)) r.at.version ≡ true → MayFollow number h r x)
MayScanAt number root s stage.Full h = Unit {0}
MayScanAt number root s stage.Over h = Unit {0}

-- the same of a scan
abbrev pub MayScan : {C V : Type 0} → (C → ℕ) → C → ScanState C V → (ℕ → Node V) → Type 0
MayScan number root s h = MayScanAt number root s s.stage h
