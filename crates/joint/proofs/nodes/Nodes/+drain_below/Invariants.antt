use Rattle.std.proofs.Common.{◌≡◌, ◌-◌, length}
use Rattle.joint.specs.nodes.Nodes.{nodes, frame}
use Rattle.joint.specs.nodes.Levels.{IsNodeIn}
use Rattle.joint.specs.nodes.View.{id_number}
use Rattle.joint.proofs.lemmas.nodes.DrainWalks.{TakenSoFar}
use Rattle.joint.proofs.nodes.Nodes.+drain_below.Given as goal

abbrev pub decreases-drain_below : goal.decreases-drain_below
decreases-drain_below g l = 8 - length (nodes l.self.now (id_number l.at)).prefix

abbrev pub invariant-loop-byte : goal.invariant-loop-byte
invariant-loop-byte g l = record {
  node : IsNodeIn (nodes l.self) (id_number l.fn.at);
  ready : g.D.Drainer.can_drain l.drainer;
  frame_is : frame l.self ≡ frame l.fn.self;
  so : TakenSoFar g.D.Drainer.drains (nodes l.fn.self) (id_number l.fn.at) l.region l.from l.fn.drainer (nodes l.self) l.drainer;
}

abbrev pub decreases-loop-byte : goal.decreases-loop-byte
decreases-loop-byte g l = 256 - l.from
