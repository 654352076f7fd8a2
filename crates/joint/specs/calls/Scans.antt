-- What a scan finds, by the lines of a run: from the one in which it begins to the one in which it is done.
use Rattle.std.specs.Prelude.{◌≡◌, ℕ, ◌==◌, ◌&&◌, ◌≤◌, Bool, true, false, List, [], ◌∷◌, ◌++◌, length, map, take, Some}
use Rattle.congee.specs.protocol.Scans.{IsScan, written}
use Rattle.joint.specs.declared.steps.Done.TheVariants.{Scanned}
use Rattle.joint.specs.declared.steps.Event.{Event}
use Rattle.joint.specs.declared.steps.Event.TheVariants.{Begin, Go}
use Rattle.joint.specs.declared.steps.Op.{Op}
use Rattle.joint.specs.declared.steps.Outcome.{Outcome}
use Rattle.joint.specs.declared.steps.Outcome.TheVariants.{Running, Found, Done}
use Rattle.joint.specs.Reports.{goes_unasked, range_of}
use Rattle.joint.specs.world.MapSteps.{Line}

-- whether an event is a further step of a call in flight
abbrev pub is_go : {V : Type 0} → Event V → Bool
is_go (Go noise) = true
is_go _ = false

-- whether a line is a further step of this worker's call in flight
abbrev pub goes : {V : Type 0} → ℕ → Line V → Bool
goes w l = (l.step.worker == w) && is_go l.step.event

-- the pairs last told for each place: those before, and one more
abbrev pub placed : {V : Type 0} → Bool → Outcome V → List (ℕ × V) → List (ℕ × V)
placed true (Found place key value) places = written places place (key, value)
placed _ _ places = places

-- and after these lines
abbrev pub told_to : {V : Type 0} → ℕ → List (Line V) → List (ℕ × V) → List (ℕ × V)
told_to w [] places = places
told_to w (l ∷ ls) places = told_to w ls (placed (goes w l) l.report.outcome places)

-- a pair comes to a place that one came to before, or to the next
abbrev pub Comes : {V : Type 0} → Bool → Outcome V → List (ℕ × V) → Type 0
Comes true (Found place key value) places = place ≤ length places
Comes _ _ places = Unit {0}

-- so do all pairs that these lines tell
abbrev pub AllCome : {V : Type 0} → ℕ → List (Line V) → List (ℕ × V) → Type 0
AllCome w [] places = Unit {0}
AllCome w (l ∷ ls) places = Comes (goes w l) l.report.outcome places × AllCome w ls (placed (goes w l) l.report.outcome places)

-- the worker begins a scan of start <= k < end into so many places
pub record BeginsScan {V : Type 0} (w start end size : ℕ) (l : Line V) : Type 0 where
  pub op : Op V
  pub range : range_of op ≡ Some (start, end, size)
  pub worker : l.step.worker ≡ w
  pub event : l.step.event ≡ Begin op
  pub accepted : l.report.outcome ≡ Running

-- the worker's call in flight doesn't end in these lines
abbrev pub GoesOn : {V : Type 0} → ℕ → List (Line V) → Type 0
GoesOn w [] = Unit {0}
GoesOn w (l ∷ ls) = (goes w l ≡ true → goes_unasked l.report.outcome ≡ true) × GoesOn w ls

-- and is done in this one, with so many places filled
pub record EndsScan {V : Type 0} (w count : ℕ) (l : Line V) : Type 0 where
  pub goes : goes w l ≡ true
  pub done : l.report.outcome ≡ Done (Scanned count)

-- what it found, told at the places before `count`, is what a scan promises, by the pairs that stood after its begin and
-- after each step up to its end, whoever took it
pub record ScanFinds {V : Type 0} (w start end size count : ℕ) (begin : Line V) (during : List (Line V)) : Type 0 where
  pub in_order : AllCome w during []
  pub filled : count ≤ length (told_to w during [])
  pub scan : IsScan start end size (map (λ l. l.pairs) (begin ∷ during)) (take count (told_to w during []))

-- each scan that begins and is done in these lines
abbrev pub ScansHold : {V : Type 0} → List (Line V) → Type 0
ScansHold {V} lines = (before during after : List (Line V)) (begin end : Line V) (w from to size count : ℕ) → lines ≡ before ++ begin ∷ (during ++ end ∷ after)
    → BeginsScan w from to size begin → GoesOn w during → EndsScan w count end → ScanFinds w from to size count begin during

-- and each that is done as it begins
abbrev pub EmptyScansHold : {V : Type 0} → List (Line V) → Type 0
EmptyScansHold {V} lines = (before after : List (Line V)) (l : Line V) (op : Op V) (from to size count : ℕ) → lines ≡ before ++ l ∷ after
    → l.step.event ≡ Begin op → range_of op ≡ Some (from, to, size) → l.report.outcome ≡ Done (Scanned count) → (count ≡ 0) × IsScan {V = V} from to size (l.pairs ∷ []) []
