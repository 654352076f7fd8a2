-- Lists of steps, and what they make of the map of the tree's pairs.
use Rattle.std.specs.Prelude.{◌≡◌, ◌<◌, Bool, true, false, List, [], ◌∷◌, ◌++◌, map, Option, None, Some, if◌then◌else◌}
use Rattle.judge.specs.declared.journal.Entry.{Entry}
use Rattle.judge.specs.Answer.{Pairs}
use Rattle.judge.specs.Journal.{Legal}
use Rattle.congee.specs.Keys.{IsMapOf}
use Rattle.joint.specs.declared.steps.Report.{Report}
use Rattle.joint.specs.declared.steps.Step.{Step}
use Rattle.joint.specs.engine.Flying.{Flights, AreInFlight}
use Rattle.joint.specs.nodes.Nodes.{nodes}
use Rattle.joint.specs.world.World.{Holds, IsStep}
use Rattle.joint.specs.engine.Engine.{World, SparesUsed}
use Rattle.joint.specs.world.MapSteps.{Line, MapStep, looks_up}

-- a step that was taken, with what it told and the state after it
pub record Taken (V : Type 0) : Type 0 where
  pub step : Step V
  pub report : Report V
  pub after : World V

-- steps taken one after another
abbrev pub AreTaken : {V : Type 0} → (V → V → Bool) → Bool → World V → List (Taken V) → Type 0
AreTaken same always s [] = Unit {0}
AreTaken same always s (t ∷ ts) = IsStep same always s t.step t.report t.after × AreTaken same always t.after ts

-- the state after them
abbrev pub after_all : {V : Type 0} → World V → List (Taken V) → World V
after_all s [] = s
after_all s (t ∷ ts) = after_all t.after ts

-- a run of these steps, which told this, from one state to another
pub record IsRun {V : Type 0} (same : V → V → Bool) (always : Bool) (s : World V) (steps : List (Step V)) (reports : List (Report V)) (s' : World V) : Type 0 where
  pub taken : List (Taken V)
  pub each : AreTaken same always s taken
  pub steps_are : map (λ t. t.step) taken ≡ steps
  pub reports_are : map (λ t. t.report) taken ≡ reports
  pub last : after_all s taken ≡ s'

-- a run is a map's run: at each step that decides the worker's call on one key, which began, has not taken effect and has
-- not ended, gets its entry, and the map answers it; each other step leaves the map; a call that is done has its entry's
-- reply
abbrev pub IsMapRun : {V : Type 0} → (V → V → Bool) → Flights V → Pairs V → List (Line V) → Flights V → Type 0
IsMapRun same fs m [] fs' = fs' ≡ fs
IsMapRun {V} same fs m (l ∷ ls) fs' = (fs1 : Flights V) × MapStep same fs m l fs1 × IsMapRun same fs1 l.pairs ls fs'

-- the entries, in deciding order
abbrev pub with_entry : {V : Type 0} → Option (Entry V) → List (Entry V) → List (Entry V)
with_entry None es = es
with_entry (Some e) es = e ∷ es

-- those of these lines
abbrev pub entries : {V : Type 0} → List (Line V) → List (Entry V)
entries [] = []
entries (l ∷ ls) = with_entry l.entry (entries ls)

-- the pairs at the end
abbrev pub pairs_after : {V : Type 0} → Pairs V → List (Line V) → Pairs V
pairs_after m [] = m
pairs_after m (l ∷ ls) = pairs_after l.pairs ls

-- the lines are of these steps: after each of them its pairs stand in the tree
pub record IsLine {V : Type 0} (t : Taken V) (l : Line V) : Type 0 where
  pub step : l.step ≡ t.step
  pub report : l.report ≡ t.report
  pub stand : IsMapOf (nodes t.after.forest) l.pairs

-- the same of each step and its line, one by one
abbrev pub AreLines : {V : Type 0} → List (Taken V) → List (Line V) → Type 0
AreLines [] [] = Unit {0}
AreLines [] (l ∷ ls) = ⊥
AreLines (t ∷ ts) [] = ⊥
AreLines (t ∷ ts) (l ∷ ls) = IsLine t l × AreLines ts ls

-- what a list of steps makes of the pairs m that stood, to those that stand at its end, and of the calls in flight
pub record PlaysMap {V : Type 0} (same : V → V → Bool) (fs : Flights V) (m : Pairs V) (s : World V) (taken : List (Taken V)) : Type 0 where
  pub lines : List (Line V)
  pub flights : Flights V
  pub are_lines : AreLines taken lines
  pub run : IsMapRun same fs m lines flights
  pub stand : IsMapOf (nodes (after_all s taken).forest) (pairs_after m lines)
  pub in_flight : AreInFlight (after_all s taken) flights

-- each state after a step is one in which this always holds
abbrev pub AllHold : {V : Type 0} → (V → V → Bool) → Bool → List (Taken V) → Type 0
AllHold same always [] = Unit {0}
AllHold same always (t ∷ ts) = Holds same always t.after × AllHold same always ts

-- and no step destroys a node in use
abbrev pub AllSpare : {V : Type 0} → World V → List (Taken V) → Type 0
AllSpare s [] = Unit {0}
AllSpare s (t ∷ ts) = SparesUsed s t.step.worker t.after × AllSpare t.after ts

-- what a run of these steps, which told this, makes of the pairs m that stood and of the calls in flight: it is a map's
-- run, and its entries are legal from m to the pairs that stand at its end
pub record RunsMap {V : Type 0} (same : V → V → Bool) (fs : Flights V) (m : Pairs V) (steps : List (Step V)) (reports : List (Report V)) (s' : World V) : Type 0 where
  pub lines : List (Line V)
  pub flights : Flights V
  pub steps_are : map (λ l. l.step) lines ≡ steps
  pub reports_are : map (λ l. l.report) lines ≡ reports
  pub run : IsMapRun same fs m lines flights
  pub stand : IsMapOf (nodes s'.forest) (pairs_after m lines)
  pub in_flight : AreInFlight s' flights
  pub legal : Legal same m (entries lines) (pairs_after m lines)

-- the entry that the journal keeps of a line
abbrev pub kept_of : {V : Type 0} → Line V → Option (Entry V)
kept_of l = if l.report.kept then l.entry else None

-- those that it keeps of these lines
abbrev pub kept_entries : {V : Type 0} → List (Line V) → List (Entry V)
kept_entries [] = []
kept_entries (l ∷ ls) = with_entry (kept_of l) (kept_entries ls)

-- it keeps the entry of a writing call
abbrev pub KeepsWrite : {V : Type 0} → Line V → Type 0
KeepsWrite {V} l = (e : Entry V) → l.entry ≡ Some e → looks_up e.call ≡ false → l.report.kept ≡ true

-- so it does of these lines
abbrev pub KeepsWrites : {V : Type 0} → List (Line V) → Type 0
KeepsWrites [] = Unit {0}
KeepsWrites (l ∷ ls) = KeepsWrite l × KeepsWrites ls

-- what a run makes of the map and of the journal: that goes on with the entries of the writing calls that took effect in it
-- and of the look-ups that were kept, in deciding order
pub record RunsJournal {V : Type 0} (same : V → V → Bool) (fs : Flights V) (m : Pairs V) (s : World V) (steps : List (Step V)) (reports : List (Report V)) (s' : World V) : Type 0 where
  pub runs : RunsMap same fs m steps reports s'
  pub entries : s'.log.entries ≡ s.log.entries ++ kept_entries runs.lines
  pub writes : 0 < s.log.places → KeepsWrites runs.lines
  pub places : s'.log.places ≡ s.log.places
