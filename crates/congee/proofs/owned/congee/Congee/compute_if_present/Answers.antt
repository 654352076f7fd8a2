use Rattle.std.proofs.Common.{rules, ◌≡◌, None, false, sym, ◌∙◌, arith}
use Rattle.congee.proofs.lemmas.owned.Contents.{settles, leaves_absent}
use Rattle.congee.proofs.lemmas.owned.Keying.{keyed_change}
use Rattle.congee.proofs.owned.congee.Congee.compute_if_present.Goals as goal

pub returns-in_default-clause-absent : goal.returns-in_default-clause-absent
returns-in_default-clause-absent g c =
    let none : c.copied.result ≡ None = search rules in
    rw (← c.self.view_is) (leaves_absent g.A.Allocator.charged_of g.A.Allocator.limit_of c.self.inside.drainer c.self.inside.arena (g.K.Word64.word c.args.key.now) c.bytes_of_key-bytes.ensures.small c.bytes_of_key-bytes.result c.bytes_of_key-bytes.ensures.bytes (sym none ∙ (c.copied.ensures ∙ c.get.ensures)))

pub returns-clause-present : goal.returns-clause-present
returns-clause-present g c =
    rw (← c.self.view_is) (settles g.A.Allocator.charged_of g.A.Allocator.limit_of c.self.inside.drainer c.self.inside.arena c.settle.new.self (g.K.Word64.word c.args.key.now) c.bytes_of_key-bytes.ensures.small c.bytes_of_key-bytes.result c.bytes_of_key-bytes.ensures.bytes c.settle.result c.in-Some.old c.f-new.result (c.in-Some.ensures ∙ c.get.ensures) c.settle.ensures.frees)

pub invariant_of-self : goal.invariant_of-self
invariant_of-self g c = (c.settle.ensures.frees.edits.tree, omega (arith, c.settle.ensures.frees.edits.balance, c.self.invariant.1), c.settle.ensures.frees.filled false c.self.invariant.2 (λ e. absurd (cc e)), keyed_change _ _ _ c.bytes_of_key-bytes.ensures.small _ c.bytes_of_key-bytes.ensures.bytes _ _ c.settle.ensures.frees.edits.change c.self.invariant.3, c.settle.ensures.counted)
