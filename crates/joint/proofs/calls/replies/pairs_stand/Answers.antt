use Rattle.std.proofs.Common.{sym}
use Rattle.std.specs.FinMap.{empty}
use Rattle.joint.specs.nodes.Nodes.{nodes}
use Rattle.joint.proofs.lemmas.calls.Replied.{one_stands, map_stands}
use Rattle.joint.proofs.lemmas.calls.Runs.{standing_empty}
use Rattle.joint.proofs.calls.replies.pairs_stand.Goals as goal

pub returns-clause-stands : goal.returns-clause-stands
returns-clause-stands g c = map_stands

pub returns-clause-alone : goal.returns-clause-alone
returns-clause-alone g c = one_stands

pub returns-clause-fresh : goal.returns-clause-fresh
returns-clause-fresh g c s fresh = sym (one_stands (nodes s.forest) empty (standing_empty g.P.Payload.same_as g.P.Payload.always_copies (nodes s.forest) fresh.alone))
