-- What contracts see of the engine: its tree and its calls as a state of the machine that writes nothing down.
use Rattle.std.specs.Prelude.{Bool}
use Rattle.joint.specs.declared.engine.Engine.{Engine}
use Rattle.joint.specs.declared.engine.census.Census.{Census}
use Rattle.joint.specs.engine.Census.{AreCounted}
use Rattle.joint.specs.engine.Engine.{World, without_log}
use Rattle.joint.specs.engine.Intact.{IsIntact}
use Rattle.joint.specs.engine.Safety.{IsSafe}

-- the nodes, the calls on the tree and the calls in flight
abbrev pub state_of : {V A : Type 0} → Engine V A → World V
state_of e = without_log e.nodes e.machines.items e.calls.items

-- the collector is sound, and no call has a node that is destroyed
abbrev pub EngineSafe : {V : Type 0} → (V → V → Bool) → Bool → World V → Type 0
EngineSafe same always s = IsSafe same always s.forest s.machines

-- and each worker's calls fit each other and its place in the collector
abbrev pub EngineIntact : {V : Type 0} → (V → V → Bool) → Bool → World V → Type 0
EngineIntact same always s = IsIntact same always s.forest s.machines s.calls

-- the counts are those of the pairs that stand and of the nodes that calls have taken out
abbrev pub EngineCounted : {V : Type 0} → Census → World V → Type 0
EngineCounted counts s = AreCounted counts s.forest s.machines
