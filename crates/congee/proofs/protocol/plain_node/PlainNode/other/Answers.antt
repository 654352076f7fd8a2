use Rattle.congee.proofs.lemmas.protocol.PlainHeaps.{other_of, none_other}
use Rattle.congee.proofs.protocol.plain_node.PlainNode.other.Goals as goal

pub returns-in-Node : goal.returns-in-Node
returns-in-Node c = other_of c.args.self.now c.args.byte c.loop-place.place c.in-Node.node c.child.result c.requires.two c.requires.there c.if-at-byte.false c.loop-place-test.true c.in-Node.is c.child.ensures

pub returns : goal.returns
returns c = absurd (none_other c.args.self.now c.args.byte c.loop-place.place c.requires.two c.loop-place-test.false c.loop-place.invariant)
