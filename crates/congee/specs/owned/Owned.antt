-- What a call on an owned tree answers.
use Rattle.std.specs.Prelude.{◌≡◌, Bool}
use Rattle.judge.specs.Answer.{Pairs, answer}
use Rattle.judge.specs.declared.journal.Call.{Call}
use Rattle.judge.specs.declared.journal.Reply.{Reply}
use Rattle.congee.specs.Keys.{IsMapOf}
use Rattle.congee.specs.owned.Arena.{Nodes, heap_of}

-- the pairs that stand in the nodes are those of the map
abbrev pub HoldsPairs : {P : Type 0} → Nodes P → Pairs P → Type 0
HoldsPairs s m = IsMapOf (heap_of s) m

-- the reply and the pairs after the call are those that the map gives
pub record Answered {P : Type 0} (same : P → P → Bool) (s s' : Nodes P) (call : Call P) (reply : Reply P) : Type 0 where
  pub replies : (m : Pairs P) → HoldsPairs s m → (answer same m call).0 ≡ reply
  pub leaves : (m : Pairs P) → HoldsPairs s m → HoldsPairs s' (answer same m call).1
