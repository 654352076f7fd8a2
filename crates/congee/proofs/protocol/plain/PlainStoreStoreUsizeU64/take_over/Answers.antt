use Rattle.std.proofs.Common.{take, drop, ◌∙◌, ap, arith}
use Rattle.congee.proofs.lemmas.protocol.PlainHeaps.{handed_on, handed_back}
use Rattle.congee.proofs.protocol.plain.PlainStoreStoreUsizeU64.take_over.Goals as goal

pub returns-then-old-node-clause-gives : goal.returns-then-old-node-clause-gives
returns-then-old-node-clause-gives c = handed_on c.args.self.now.nodes.items c.split_at_mut-front.result.0.now c.split_at_mut-front.result.1.now c.args.self.now.nodes.len c.args.old c.args.node c.index-front-old.result c.index-back-0.result
    c.move_to.new.self c.move_to.new.greater (omega (arith, c.args.self.now.nodes.ok.0)) (c.split_at_mut-front.ensures.front ∙ ap (λ v. take c.args.node v) c.deref_mut.ensures.value)
    (c.split_at_mut-front.ensures.back ∙ ap (λ v. drop c.args.node v) c.deref_mut.ensures.value) c.if-old-node.true c.requires.stands_old.made c.requires.stands.made c.move_to.ensures

pub returns-then-node-old-clause-gives : goal.returns-then-node-old-clause-gives
returns-then-node-old-clause-gives c = handed_back c.args.self.now.nodes.items c.split_at_mut-front-then-node-old.result.0.now c.split_at_mut-front-then-node-old.result.1.now c.args.self.now.nodes.len c.args.old c.args.node
    c.index-back-0-then-node-old.result c.index-front-node.result c.move_to-then-node-old.new.self c.move_to-then-node-old.new.greater (omega (arith, c.args.self.now.nodes.ok.0))
    (c.split_at_mut-front-then-node-old.ensures.front ∙ ap (λ v. take c.args.old v) c.deref_mut-then-node-old.ensures.value)
    (c.split_at_mut-front-then-node-old.ensures.back ∙ ap (λ v. drop c.args.old v) c.deref_mut-then-node-old.ensures.value) c.if-node-old.true c.requires.stands_old.made c.requires.stands.made c.move_to-then-node-old.ensures
