-- How full the nodes of the tree are in a run whose steps have each node that they want.
use Rattle.std.specs.Prelude.{◌≡◌, true, false, List, [], ◌∷◌}
use Rattle.congee.specs.protocol.Filled.{KeepsFilled}
use Rattle.joint.specs.nodes.Nodes.{nodes}
use Rattle.joint.specs.calls.Runs.{Taken}
use Rattle.joint.specs.nodes.View.{id_number}
use Rattle.joint.specs.engine.Engine.{World}

-- each node of the tree but the root is filled, and so it is after what each call in flight is about to do
abbrev pub StaysFilled : {V : Type 0} → World V → Type 0
StaysFilled s = KeepsFilled true id_number (nodes s.forest) s.machines

-- no step went on without a node that it wanted
abbrev pub NoneSkipped : {V : Type 0} → List (Taken V) → Type 0
NoneSkipped [] = Unit {0}
NoneSkipped (t ∷ ts) = (t.report.skipped ≡ false) × NoneSkipped ts
