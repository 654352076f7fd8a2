-- What a whole scan of one worker's finds, by the pairs that stand.
use Rattle.std.specs.Prelude.{◌≡◌, ◌≤◌, ℕ, Bool, List, [], ◌∷◌, length, take, Option, None, Some}
use Rattle.judge.specs.Answer.{Pairs}
use Rattle.congee.specs.protocol.Scans.{IsScan}
use Rattle.joint.specs.declared.steps.Op.{Op}
use Rattle.joint.specs.declared.steps.Report.{Report}
use Rattle.joint.specs.Reports.{scanned_in}
use Rattle.joint.specs.calls.Calling.{IsCalled}
use Rattle.joint.specs.engine.Engine.{World}

-- how many of its places a scan has filled that has ended, if a report tells it
abbrev pub scanned_of : {V : Type 0} → Option (Report V) → Option ℕ
scanned_of None = None
scanned_of (Some r) = scanned_in r.outcome

-- where a scan of start <= k < end has filled so many of these places, they hold what a scan promises, by the pairs that stood
abbrev pub ScansAs : {V : Type 0} → ℕ → ℕ → Pairs V → Option ℕ → List (ℕ × V) → Type 0
ScansAs start end m None places = Unit {0}
ScansAs {V} start end m (Some n) places = (n ≤ length places) × IsScan {V = V} start end (length places) (m ∷ []) (take n places)

-- a whole call of at most so many steps has filled so many of these places, if its last report says so
abbrev pub IsScanned : {V : Type 0} → (V → V → Bool) → Bool → World V → ℕ → Op V → ℕ → List (ℕ × V) → Option ℕ → List (ℕ × V) → World V → Type 0
IsScanned {V} same always s who op most places result places' s' = (told : Option (Report V)) × IsCalled same always s who op most places told places' s' × (result ≡ scanned_of told)
