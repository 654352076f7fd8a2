use Rattle.std.proofs.Common.{arith, sym, ◌∙◌, ap}
use Rattle.std.specs.Prelude.{map, min}
use Rattle.std.proofs.lemmas.List.{length-map}
use Rattle.joint.specs.threads.Threads.{filled}
use Rattle.joint.proofs.threads.replies.filled_at_most.Goals as goal

pub filled-requires : goal.filled-requires
filled-requires g c = omega (arith, c.min.ensures)

pub returns-clause-same : goal.returns-clause-same
returns-clause-same g c =
    let keys = map g.Q.Pair.key_of c.args.found.now in
    c.filled.ensures.same ∙ ap (λ n. filled c.args.range keys n) (c.min.ensures ∙ ap (λ n. min c.args.count n) (sym (length-map c.args.found.now g.Q.Pair.key_of)))
