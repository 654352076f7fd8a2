-- What a whole call on one key makes of the pairs that stand, as a value.
use Rattle.std.specs.Prelude.{◌≡◌, ℕ, Bool, List, [], Option, None, Some}
use Rattle.std.specs.FinMap.{get}
use Rattle.judge.specs.declared.journal.Call.{Call as Entered}
use Rattle.judge.specs.declared.journal.Reply.{Reply}
use Rattle.judge.specs.Answer.{Pairs, answer, key_of, leaves}
use Rattle.joint.specs.declared.steps.Op.{Op}
use Rattle.joint.specs.declared.steps.Report.{Report}
use Rattle.joint.specs.calls.Calling.{IsCalled}
use Rattle.joint.specs.calls.MapCalls.{reply_of}
use Rattle.joint.specs.engine.Engine.{World}

-- where a call on one key that asks no closure has ended with this reply: the map m answers it so, the next map has at the
-- key what the call leaves there, and is what the call makes of m
abbrev pub AnswersAs : {V : Type 0} → (V → V → Bool) → Option (Reply V) → Option (Entered V) → Pairs V → Pairs V → Type 0
AnswersAs same None asked m m' = Unit {0}
AnswersAs same (Some r) None m m' = Unit {0}
AnswersAs same (Some r) (Some c) m m' = (r ≡ (answer same m c).0) × (get m' (key_of c) ≡ leaves same c (get m (key_of c))) × (m' ≡ (answer same m c).1)

-- the reply of a whole call that was given no places, if its last report has one
abbrev pub IsReplied : {V : Type 0} → (V → V → Bool) → Bool → World V → ℕ → Op V → ℕ → Option (Reply V) → World V → Type 0
IsReplied {V} same always s who op most result s' = (told : Option (Report V)) × (places : List (ℕ × V)) × IsCalled same always s who op most [] told places s' × (result ≡ reply_of told)
