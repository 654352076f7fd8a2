use Rattle.std.proofs.Common.{false, ap, sym, arith}
use Rattle.congee.proofs.lemmas.owned.Contents.{removes}
use Rattle.congee.proofs.lemmas.owned.Keying.{keyed_change}
use Rattle.congee.proofs.owned.congee.Congee.remove_number.Goals as goal

pub returns-clause-pairs : goal.returns-clause-pairs
returns-clause-pairs g c =
    let told = removes g.A.Allocator.charged_of g.A.Allocator.limit_of c.self.inside.drainer c.self.inside.arena c.remove.new.self c.args.key c.bytes_of_key-bytes.ensures.small c.bytes_of_key-bytes.result c.bytes_of_key-bytes.ensures.bytes c.remove.result c.remove.ensures.frees in
    rw (← c.self.view_is) (sym (ap (λ p. p.1) told.answers))

pub returns-clause-lightens : goal.returns-clause-lightens
returns-clause-lightens g c =
    let told = removes g.A.Allocator.charged_of g.A.Allocator.limit_of c.self.inside.drainer c.self.inside.arena c.remove.new.self c.args.key c.bytes_of_key-bytes.ensures.small c.bytes_of_key-bytes.result c.bytes_of_key-bytes.ensures.bytes c.remove.result c.remove.ensures.frees in
    rw (← c.self.view_is) (record { no_more = told.no_more; keeps = told.keeps })

pub invariant_of-self : goal.invariant_of-self
invariant_of-self g c = (c.remove.ensures.frees.edits.tree, omega (arith, c.remove.ensures.frees.edits.balance, c.self.invariant.1), c.remove.ensures.frees.filled false c.self.invariant.2 (λ e. absurd (cc e)), keyed_change _ _ _ c.bytes_of_key-bytes.ensures.small _ c.bytes_of_key-bytes.ensures.bytes _ _ c.remove.ensures.frees.edits.change c.self.invariant.3, c.remove.ensures.counted)
