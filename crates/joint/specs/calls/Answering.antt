-- How a call on one key runs from its begin to its end: it is refused before it took effect, or takes effect in one step, and
-- is done with the reply of that step's entry.
use Rattle.std.specs.Prelude.{◌≡◌, ℕ, ◌==◌, ◌&&◌, Bool, true, false, List, [], ◌∷◌, None, Some}
use Rattle.judge.specs.declared.journal.Entry.{Entry}
use Rattle.judge.specs.declared.journal.Reply.{Reply}
use Rattle.congee.specs.declared.protocol.op.Op.{Op as Point}
use Rattle.joint.specs.declared.steps.Done.TheVariants as done
use Rattle.joint.specs.declared.steps.Event.TheVariants.{Begin}
use Rattle.joint.specs.declared.steps.Op.{Op}
use Rattle.joint.specs.declared.steps.Outcome.{Outcome}
use Rattle.joint.specs.declared.steps.Outcome.TheVariants.{Running, Asks, Done, Refused}
use Rattle.joint.specs.declared.steps.Target.TheVariants.{Tree}
use Rattle.joint.specs.Reports.{target, is_in_flight}
use Rattle.joint.specs.world.MapSteps.{Line}
use Rattle.joint.specs.world.World.{IsOnKey}
use Rattle.joint.specs.calls.Scans.{is_go}

-- a further step of the worker's call
abbrev pub is_further : {V : Type 0} → ℕ → Line V → Bool
is_further who l = (l.step.worker == who) && is_go l.step.event

-- the first where a test holds, and the second where it doesn't
abbrev pub Either : Bool → Type 0 → Type 0 → Type 0
Either true A B = A
Either false A B = B

-- a call that has taken effect goes on, so that this holds of the rest, or is done with its reply
abbrev pub GoesOrAnswers : {V : Type 0} → Reply V → Outcome V → Type 0 → Type 0
GoesOrAnswers r Running Rest = Rest
GoesOrAnswers r (Done (done.Reply u)) Rest = u ≡ r
GoesOrAnswers r _ Rest = ⊥

-- one that hasn't goes on, asks, or is refused
abbrev pub GoesOrRefused : {V : Type 0} → Outcome V → Type 0 → Type 0
GoesOrRefused Running Rest = Rest
GoesOrRefused (Asks found) Rest = Rest
GoesOrRefused (Refused refusal) Rest = Unit {0}
GoesOrRefused _ Rest = ⊥

-- a step that has no entry and decides nothing
pub record DecidesNothing {V : Type 0} (l : Line V) : Type 0 where
  pub undecided : l.report.decided ≡ false
  pub no_entry : l.entry ≡ None

-- the further steps of the worker's call after it took effect
abbrev pub Answers : {V : Type 0} → ℕ → Reply V → List (Line V) → Type 0
Answers who r [] = Unit {0}
Answers who r (l ∷ ls) = Either (is_further who l) (DecidesNothing l × GoesOrAnswers r l.report.outcome (Answers who r ls)) (Answers who r ls)

-- the step in which it takes effect, with its entry, and those after it
abbrev pub TakesEffectAt : {V : Type 0} → ℕ → Line V → List (Line V) → Type 0
TakesEffectAt {V} who l ls = (e : Entry V) × (l.entry ≡ Some e) × (e.worker ≡ who) × GoesOrAnswers e.reply l.report.outcome (Answers who e.reply ls)

-- its further steps from its begin on
abbrev pub Decides : {V : Type 0} → ℕ → List (Line V) → Type 0
Decides who [] = Unit {0}
Decides who (l ∷ ls) = Either (is_further who l) (Either l.report.decided (TakesEffectAt who l ls) ((l.entry ≡ None) × GoesOrRefused l.report.outcome (Decides who ls))) (Decides who ls)

-- each call on one key that begins among these steps
abbrev pub AllDecide : {V : Type 0} → List (Line V) → Type 0
AllDecide [] = Unit {0}
AllDecide {V} (l ∷ ls) = ((op : Op V) (p : Point V) → l.step.event ≡ Begin op → target op ≡ Tree p → IsOnKey p → is_in_flight l.report.outcome ≡ true → Decides l.step.worker ls) × AllDecide ls
