use Rattle.std.proofs.Common.{rules, ◌≡◌, Some, None, refl, sym, false, ◌∙◌, arith}
use Rattle.congee.proofs.lemmas.owned.Contents.{found_at, settles}
use Rattle.congee.proofs.lemmas.owned.Keying.{keyed_change}
use Rattle.congee.proofs.owned.congee.Congee.update.Goals as goal

pub returns-in_default-clause-before : goal.returns-in_default-clause-before
returns-in_default-clause-before g c =
    let none : c.copied.result ≡ None = search rules in
    let e = found_at c.self.inside.arena (g.K.Word64.word c.args.key.now) c.bytes_of_key-bytes.ensures.small c.bytes_of_key-bytes.result c.bytes_of_key-bytes.ensures.bytes None (sym none ∙ (c.copied.ensures ∙ c.get.ensures)) in
    rw (← c.self.view_is, ← e) refl

pub returns-in_default-clause-updates : goal.returns-in_default-clause-updates
returns-in_default-clause-updates g c =
    let none : c.copied.result ≡ None = search rules in
    let e = found_at c.self.inside.arena (g.K.Word64.word c.args.key.now) c.bytes_of_key-bytes.ensures.small c.bytes_of_key-bytes.result c.bytes_of_key-bytes.ensures.bytes None (sym none ∙ (c.copied.ensures ∙ c.get.ensures)) in
    rw (← c.self.view_is, ← e) refl

pub returns-clause-before : goal.returns-clause-before
returns-clause-before g c =
    let e = found_at c.self.inside.arena (g.K.Word64.word c.args.key.now) c.bytes_of_key-bytes.ensures.small c.bytes_of_key-bytes.result c.bytes_of_key-bytes.ensures.bytes (Some c.in-Some.old) (c.in-Some.ensures ∙ c.get.ensures) in
    rw (← c.self.view_is, ← e, c.from_word-2.ensures) refl

pub returns-clause-updates : goal.returns-clause-updates
returns-clause-updates g c =
    let e = found_at c.self.inside.arena (g.K.Word64.word c.args.key.now) c.bytes_of_key-bytes.ensures.small c.bytes_of_key-bytes.result c.bytes_of_key-bytes.ensures.bytes (Some c.in-Some.old) (c.in-Some.ensures ∙ c.get.ensures) in
    let told = settles g.A.Allocator.charged_of g.A.Allocator.limit_of c.self.inside.drainer c.self.inside.arena c.settle.new.self (g.K.Word64.word c.args.key.now) c.bytes_of_key-bytes.ensures.small c.bytes_of_key-bytes.result c.bytes_of_key-bytes.ensures.bytes c.settle.result c.in-Some.old (Some c.to_word-word.result) (c.in-Some.ensures ∙ c.get.ensures) c.settle.ensures.frees in
    rw (← c.self.view_is, ← e) (c.f-new.result, rw (← c.from_word.ensures) c.f-new.ensures, rw (← c.to_word-word.ensures.number) told)

pub invariant_of-self : goal.invariant_of-self
invariant_of-self g c = (c.settle.ensures.frees.edits.tree, omega (arith, c.settle.ensures.frees.edits.balance, c.self.invariant.1), c.settle.ensures.frees.filled false c.self.invariant.2 (λ e. absurd (cc e)), keyed_change _ _ _ c.bytes_of_key-bytes.ensures.small _ c.bytes_of_key-bytes.ensures.bytes _ _ c.settle.ensures.frees.edits.change c.self.invariant.3, c.settle.ensures.counted)
