use Rattle.std.proofs.Common.{[], length, sym, ap, ◌∙◌, arith}
use Rattle.congee.proofs.lemmas.owned.Clears.{RootLeft, all_left, root_within}
use Rattle.congee.proofs.lemmas.owned.Keying.{keyed_none}
use Rattle.congee.proofs.lemmas.owned.Counted.{none_counted}
use Rattle.congee.proofs.lemmas.owned.Standing.{Standing, standing_at}
use Rattle.congee.proofs.lemmas.owned.Ways.{prefix_is, root_reached}
use Rattle.congee.proofs.owned.arena.Arena.clear.Given.{Over}
use Rattle.congee.proofs.owned.arena.Arena.clear.Goals.{After-clear}
use Rattle.congee.proofs.owned.arena.Arena.clear.Goals as goal

-- the root before
abbrev Root : (g : Over) → After-clear g → Type 0
Root g c = Standing c.args.self.now.nodes 0

root : (g : Over) (c : After-clear g) → Root g c
root g c = standing_at c.args.self.now.nodes 0 (root_reached c.args.self.now.nodes [] c.requires.tree).way.stands

-- what is left of the tree
abbrev Left : (g : Over) → After-clear g → Type 0
Left g c = RootLeft c.clear.new.self

left : (g : Over) (c : After-clear g) → Left g c
left g c = let x = root g c in all_left c.args.self.now.nodes c.clear.new.self x.node c.requires.tree x.is (c.clear.ensures x.node x.is)

pub overflow_sub-others : goal.overflow_sub-others
overflow_sub-others g c =
    let x = standing_at c.args.self.now.nodes 0 (root_reached c.args.self.now.nodes [] c.requires.tree).way.stands in
    let within = root_within c.args.self.now.nodes x.node c.requires.tree x.is in
    omega (arith, within, c.bytes_charged.ensures, c.size.ensures)

pub clear-requires-clause-root : goal.clear-requires-clause-root
clear-requires-clause-root g c = (root_reached c.args.self.now.nodes [] c.requires.tree).way.stands

pub clear-requires-clause-inner : goal.clear-requires-clause-inner
clear-requires-clause-inner g c = λ x e.
    let none = ap length (sym (prefix_is c.args.self.now.nodes 0 x e) ∙ c.requires.tree.tree.empty) in
    omega (arith, none)

pub returns-clause-tree : goal.returns-clause-tree
returns-clause-tree g c = (left g (goal.at.returns-clause-tree g c).After-clear).tree

pub returns-clause-empty : goal.returns-clause-empty
returns-clause-empty g c = (left g (goal.at.returns-clause-empty g c).After-clear).empty

pub returns-clause-nodes : goal.returns-clause-nodes
returns-clause-nodes g c = (left g (goal.at.returns-clause-nodes g c).After-clear).nodes

pub returns-clause-wants : goal.returns-clause-wants
returns-clause-wants g c = (left g (goal.at.returns-clause-wants g c).After-clear).wants

pub returns-clause-bytes : goal.returns-clause-bytes
returns-clause-bytes g c = (left g (goal.at.returns-clause-bytes g c).After-clear).bytes

pub returns-clause-filled : goal.returns-clause-filled
returns-clause-filled g c = (left g (goal.at.returns-clause-filled g c).After-clear).lacking

pub returns-clause-balance : goal.returns-clause-balance
returns-clause-balance g c =
    let now = (left g (goal.at.returns-clause-balance g c).After-clear).bytes in
    let x = standing_at c.args.self.now.nodes 0 (root_reached c.args.self.now.nodes [] c.requires.tree).way.stands in
    let within = root_within c.args.self.now.nodes x.node c.requires.tree x.is in
    omega (arith, now, within, c.bytes_charged.ensures, c.size.ensures, c.deallocate.ensures.charged)

pub returns-clause-branch : goal.returns-clause-branch
returns-clause-branch g c = (left g (goal.at.returns-clause-branch g c).After-clear).branch

pub returns-clause-keyed : goal.returns-clause-keyed
returns-clause-keyed g c = keyed_none c.clear.new.self (left g (goal.at.returns-clause-keyed g c).After-clear).empty

pub returns-clause-counted : goal.returns-clause-counted
returns-clause-counted g c = none_counted c.clear.new.self (left g (goal.at.returns-clause-counted g c).After-clear).empty
