-- What is counted of a tree beside its nodes: the pairs that stand in it, and the nodes that calls have taken out of it.
use Rattle.std.specs.Prelude.{◌≡◌, ℕ, Bool, List, [], Option, None, Some, Ok, Err, length, if◌then◌else◌, map, ◌++◌}
use Rattle.std.specs.FinMap.{len}
use Rattle.std.specs.List.{flat_map, sum_by}
use Rattle.judge.specs.declared.journal.Reply.{Reply}
use Rattle.judge.specs.declared.journal.Reply.TheVariants as reply
use Rattle.judge.specs.Answer.{Pairs}
use Rattle.congee.specs.declared.protocol.machine.Machine.{Machine}
use Rattle.congee.specs.declared.protocol.machine.Outcome.{Outcome}
use Rattle.congee.specs.protocol.Answers.{told_or}
use Rattle.congee.specs.protocol.State.{taken}
use Rattle.congee.specs.Keys.{IsMapOf}
use Rattle.joint.specs.declared.engine.census.Census.{Census}
use Rattle.joint.specs.declared.engine.census.Change.{Change}
use Rattle.joint.specs.declared.engine.census.Change.TheVariants.{More, Fewer, Same}
use Rattle.joint.specs.declared.id.Id.{Id}
use Rattle.joint.specs.nodes.Nodes.{Nodes, nodes}
use Rattle.joint.specs.nodes.Listing.{bytes_of, handed_nodes}
use Rattle.joint.specs.engine.Journaling.{reply_at}
use Rattle.joint.specs.nodes.View.{id_number}
use Rattle.joint.specs.engine.Engine.{World}

-- the nodes that a call has taken out of the tree and not yet handed over
abbrev pub taken_by : {V : Type 0} → Machine Id V → List ℕ
taken_by m = map id_number (taken m.phase)

-- the counts are those of the pairs that stand and of the nodes that calls have taken out and not yet handed over
pub record AreCounted {V : Type 0} (k : Census) (s : Nodes V) (ms : List (Machine Id V)) : Type 0 where
  pub pairs : Pairs V
  pub stand : IsMapOf (nodes s) pairs
  pub count : k.pairs ≡ len pairs
  pub taken : k.taken.nodes ≡ length (flat_map taken_by ms)
  pub bytes : k.taken.bytes ≡ sum_by (bytes_of s) (flat_map taken_by ms)

-- what a call that answers so makes of the number of pairs
abbrev pub effect : {V : Type 0} → Reply V → Change
effect (reply.Get found) = Same
effect (reply.Insert None) = More
effect (reply.Insert (Some v)) = Same
effect (reply.Remove None) = Same
effect (reply.Remove (Some v)) = Fewer
effect (reply.ComputePresent None) = Same
effect (reply.ComputePresent (Some (v, None))) = Fewer
effect (reply.ComputePresent (Some (v, Some w))) = Same
effect (reply.ComputeInsert None) = More
effect (reply.ComputeInsert (Some v)) = Same
effect (reply.Exchange (Ok None)) = Fewer
effect (reply.Exchange (Ok (Some v))) = Same
effect (reply.Exchange (Err found)) = Same

-- so many pairs come
abbrev pub more : Change → ℕ
more More = 1
more Fewer = 0
more Same = 0

-- and so many go
abbrev pub fewer : Change → ℕ
fewer More = 0
fewer Fewer = 1
fewer Same = 0

-- a call that has no reply yet has no effect
abbrev pub effect_by : {V : Type 0} → Option (Reply V) → Change
effect_by None = Same
effect_by (Some r) = effect r

-- the effect of a step, by whether it decides, how it leaves its call, and the call after it
abbrev pub effect_of : {V : Type 0} → Bool → Outcome V → Option (Machine Id V) → Change
effect_of decided o m = if decided then effect_by (told_or (reply_at m) o) else Same

-- the nodes that a call has taken out and not yet handed over, where there is a call
abbrev pub taken_at : {V : Type 0} → Option (Machine Id V) → List ℕ
taken_at None = []
taken_at (Some m) = taken_by m

-- the nodes that wait: those that were handed over, and those that calls have taken out and not yet handed over
abbrev pub waiting_nodes : {V : Type 0} → World V → List ℕ
waiting_nodes s = handed_nodes s.forest ++ flat_map taken_by s.machines
