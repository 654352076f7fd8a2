use Rattle.std.proofs.Common.{refl, ap}
use Rattle.joint.specs.declared.id.Id.{Id}
use Rattle.joint.specs.Names.{number}
use Rattle.joint.proofs.lemmas.nodes.Exchanging.{same_gives, takes_in, kept_exchanged, gives_exchanged}
use Rattle.joint.proofs.lemmas.nodes.NodesInvariant.{there_in}
use Rattle.joint.proofs.nodes.store.NodesStoreId.take_over.Goals as goal

pub move_children-requires-clause-stands_old : goal.move_children-requires-clause-stands_old
move_children-requires-clause-stands_old g c = there_in _ _ c.self.view_is c.args.old.name c.requires.stands_old

pub move_children-requires-clause-stands : goal.move_children-requires-clause-stands
move_children-requires-clause-stands g c = there_in _ _ c.self.view_is c.args.node.name c.requires.stands

pub move_children-requires-clause-room : goal.move_children-requires-clause-room
move_children-requires-clause-room g c = λ a b e f. takes_in _ _ c.self.view_is c.args.old.name c.args.node.name a b e f c.requires.room

pub invariant_of-self : goal.invariant_of-self
invariant_of-self g c = kept_exchanged _ c.move_children.new.collector c.move_children.ensures.beside c.args.old.name c.args.node.name _ _ _ _ c.move_children.ensures.slots.1.1.1.1.0 c.move_children.ensures.slots.1.1.1.1.1 _ c.self.invariant

pub returns-then-not-is-clause-gives : goal.returns-then-not-is-clause-gives
returns-then-not-is-clause-gives g c = gives_exchanged _ c.move_children.new.collector c.move_children.ensures.beside c.args.old.name c.args.node.name _ _ _ _ c.move_children.ensures.slots.1.1.1.1.0 c.move_children.ensures.slots.1.1.1.1.1 _ c.self.view_is

pub returns-else-not-is-clause-gives : goal.returns-else-not-is-clause-gives
returns-else-not-is-clause-gives g c = same_gives c.args.self.now _ _ (ap (λ (i : Id). number i.name) (c.if-not-is.ensures.same refl)) c.requires.room
