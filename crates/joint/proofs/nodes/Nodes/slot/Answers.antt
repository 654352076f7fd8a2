use Rattle.std.proofs.Common.{◌≡◌, true, false, ap, sym, ◌∙◌}
use Rattle.std.specs.Prelude.{is_some, None}
use Rattle.crossbeam_epoch.specs.world.Store.{value_at}
use Rattle.joint.proofs.lemmas.nodes.NodesInvariant.{there_in, node_in}
use Rattle.joint.proofs.nodes.Nodes.slot.Goals as goal

pub unreachable-requires : goal.unreachable-requires
unreachable-requires g c =
    let there : is_some (value_at c.self.inside.collector.store c.args.at.name) ≡ true = there_in _ _ c.self.view_is c.args.at.name c.requires in
    let gone : None ≡ value_at c.self.inside.collector.store c.args.at.name = c.in-None.ensures.value in
    let no : false ≡ true = ap is_some gone ∙ there in
    cc no

pub returns-clause-node : goal.returns-clause-node
returns-clause-node g c = node_in _ _ c.self.view_is c.args.at.name _ (sym c.in-Some.ensures.value)

pub returns-clause-whole : goal.returns-clause-whole
returns-clause-whole g c = c.self.invariant.whole c.args.at.name _ (sym c.in-Some.ensures.value)
