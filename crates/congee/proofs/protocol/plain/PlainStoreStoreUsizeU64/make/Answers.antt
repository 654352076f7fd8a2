use Rattle.std.proofs.Common.{[], ◌∷◌, ◌++◌, ◌∙◌, ap, arith}
use Rattle.congee.proofs.lemmas.protocol.PlainHeaps.{new_node}
use Rattle.congee.proofs.protocol.plain.PlainStoreStoreUsizeU64.make.Goals as goal

pub returns-in-Ok-clause-gives : goal.returns-in-Ok-clause-gives
returns-in-Ok-clause-gives c = new_node c.args.self.now.nodes.items c.push_reserved.new.self.items c.len-name.result c.in-Ok.node c.args.form c.args.key.now c.args.length
    (omega (arith, c.len-name.ensures, c.args.self.now.nodes.ok.0)) (c.push_reserved.ensures.items ∙ ap (λ v. v ++ c.in-Ok.node ∷ []) c.reserve.ensures.items) (omega arith) c.in-Ok.ensures
