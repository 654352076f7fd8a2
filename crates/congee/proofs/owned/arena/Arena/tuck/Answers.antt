use Rattle.std.proofs.Common.{rules, ◌≡◌, sym, ap, ◌∙◌, length}
use Rattle.congee.specs.declared.forms.base_node.NodeType.TheVariants.{N4}
use Rattle.congee.proofs.lemmas.owned.Firsts.{first_below}
use Rattle.congee.proofs.lemmas.owned.Moves.{prefix_at}
use Rattle.congee.proofs.lemmas.owned.Hangings.{above_inner, child_there, has_one, hung_stands}
use Rattle.congee.proofs.lemmas.owned.Renaming.{renamed}
use Rattle.congee.proofs.owned.arena.Arena.tuck.Goals as goal

pub node_type-requires : goal.node_type-requires
node_type-requires g c = hung_stands c.args.self.now.nodes c.requires.tree c.args.key.now c.args.above c.args.at c.requires.hangs

pub fold-requires-clause-inner : goal.fold-requires-clause-inner
fold-requires-clause-inner g c = above_inner c.args.self.now.nodes c.requires.tree c.args.key.now c.args.above c.args.at c.requires.hangs.way.stands c.requires.hangs.child

pub fold-requires-clause-present : goal.fold-requires-clause-present
fold-requires-clause-present g c = λ x e. child_there c.args.self.now.nodes c.requires.tree c.args.key.now c.args.above c.args.at c.requires.hangs.way.stands c.requires.hangs.child x e c.byte_at-up.result c.byte_at-up.ensures

pub fold-requires-clause-begins : goal.fold-requires-clause-begins
fold-requires-clause-begins g c = λ x y e h.
    first_below c.args.self.now.nodes c.requires.tree c.args.above c.byte_at-up.result c.args.at x y e h
    (child_there c.args.self.now.nodes c.requires.tree c.args.key.now c.args.above c.args.at c.requires.hangs.way.stands c.requires.hangs.child x e c.byte_at-up.result c.byte_at-up.ensures)

pub fold-requires-clause-lone : goal.fold-requires-clause-lone
fold-requires-clause-lone g c = λ y e.
    let s = c.args.self.now.nodes in
    let form : c.node_type.result ≡ N4 = search rules in
    let one : c.len.result ≡ 1 = search rules in
    has_one s c.requires.tree c.args.at y e (sym (c.node_type.ensures y e) ∙ form) (ap length (sym (prefix_at s c.args.at y e)) ∙ c.requires.leaf) (sym (c.len.ensures.count y e) ∙ one) (c.len.ensures.bytes y e)

pub returns-clause-renamed : goal.returns-clause-renamed
returns-clause-renamed g c = renamed c.args.self.now.nodes c.fold.new.self c.args.above c.byte_at-up.result c.args.at c.fold.ensures.folds.name c.requires.tree c.fold.ensures.folds.renames
