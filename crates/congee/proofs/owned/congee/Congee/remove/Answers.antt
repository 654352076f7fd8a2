use Rattle.std.proofs.Common.{false, arith}
use Rattle.congee.proofs.lemmas.owned.Contents.{removes}
use Rattle.congee.proofs.lemmas.owned.Keying.{keyed_change}
use Rattle.congee.proofs.owned.congee.Congee.remove.Goals as goal

pub returns-clause-removes : goal.returns-clause-removes
returns-clause-removes g c =
    let told = removes g.A.Allocator.charged_of g.A.Allocator.limit_of c.self.inside.drainer c.self.inside.arena c.remove.new.self (g.K.Word64.word c.args.key.now) c.bytes_of_key-bytes.ensures.small c.bytes_of_key-bytes.result c.bytes_of_key-bytes.ensures.bytes c.remove.result c.remove.ensures.frees in
    (c.remove.result, c.word_of.ensures, rw (← c.self.view_is) told)

pub invariant_of-self : goal.invariant_of-self
invariant_of-self g c = (c.remove.ensures.frees.edits.tree, omega (arith, c.remove.ensures.frees.edits.balance, c.self.invariant.1), c.remove.ensures.frees.filled false c.self.invariant.2 (λ e. absurd (cc e)), keyed_change _ _ _ c.bytes_of_key-bytes.ensures.small _ c.bytes_of_key-bytes.ensures.bytes _ _ c.remove.ensures.frees.edits.change c.self.invariant.3, c.remove.ensures.counted)
