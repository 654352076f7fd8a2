use Rattle.std.proofs.Common.{rules, ◌≡◌, Some, None, Ok, refl, ap, sym, false, ◌∙◌, arith}
use Rattle.congee.proofs.lemmas.owned.Contents.{found_at, inserts, refuses, denied_tree, denied_bytes, denied_branch}
use Rattle.congee.proofs.lemmas.owned.Keying.{denied_keyed, keyed_change}
use Rattle.congee.proofs.owned.congee.Congee.get_or_insert_with.Goals as goal

pub returns-in-Some-clause-fills : goal.returns-in-Some-clause-fills
returns-in-Some-clause-fills g c =
    let e = found_at c.self.inside.arena (g.K.Word64.word c.args.key) c.bytes_of_key-bytes.ensures.small c.bytes_of_key-bytes.result c.bytes_of_key-bytes.ensures.bytes (Some c.in-Some.found) (c.in-Some.ensures ∙ c.get.ensures) in
    rw (← c.self.view_is, ← e) (ap Ok c.from_word.ensures, refl)

pub returns-in-Ok-clause-fills : goal.returns-in-Ok-clause-fills
returns-in-Ok-clause-fills g c =
    let none : c.copied.result ≡ None = search rules in
    let at = sym none ∙ (c.copied.ensures ∙ c.get.ensures) in
    let e = found_at c.self.inside.arena (g.K.Word64.word c.args.key) c.bytes_of_key-bytes.ensures.small c.bytes_of_key-bytes.result c.bytes_of_key-bytes.ensures.bytes None at in
    let was : c.in-Ok.field-0 ≡ None = sym c.in-Ok.ensures.adds.edits.change.was ∙ sym at in
    let told = inserts g.A.Allocator.charged_of g.A.Allocator.limit_of c.self.inside.drainer c.self.inside.arena c.insert.new.self (g.K.Word64.word c.args.key) c.bytes_of_key-bytes.ensures.small c.bytes_of_key-bytes.result c.bytes_of_key-bytes.ensures.bytes None c.to_word-word.result (rw was at c.in-Ok.ensures.adds) in
    let back = c.from_word-in-Ok.ensures ∙ (ap g.V.Word64.of_word c.to_word-word.ensures.number ∙ g.met.V.Word64.comes_back c.f-value.result c.to_word-word.ensures.fits) in
    rw (← c.self.view_is, ← e, back) (c.f-value.ensures, rw (← c.to_word-word.ensures.number) told)

pub invariant_of-self : goal.invariant_of-self
invariant_of-self g c =
    let adds = c.in-Ok.ensures.adds in
    (adds.edits.tree, omega (arith, adds.edits.balance, c.self.invariant.1), adds.filled false c.self.invariant.2, keyed_change _ _ _ c.bytes_of_key-bytes.ensures.small _ c.bytes_of_key-bytes.ensures.bytes _ _ adds.edits.change c.self.invariant.3, c.insert.ensures.counted)

pub invariant_of-self-2 : goal.invariant_of-self-2
invariant_of-self-2 g c = (
  denied_tree _ _ _ _ _ _ _ _ c.self.invariant.0 c.in-Err.ensures.refused,
  omega (arith, denied_bytes _ _ _ _ _ _ _ _ c.in-Err.ensures.refused, c.in-Err.ensures.refused.balance, c.self.invariant.1),
  denied_branch _ _ _ _ _ _ _ _ c.in-Err.ensures.refused c.self.invariant.2,
  denied_keyed _ _ _ _ _ _ _ _ c.in-Err.ensures.refused c.self.invariant.3,
  c.insert.ensures.counted,
)

pub returns-clause-fills : goal.returns-clause-fills
returns-clause-fills g c =
    let none : c.copied.result ≡ None = search rules in
    let at = sym none ∙ (c.copied.ensures ∙ c.get.ensures) in
    let e = found_at c.self.inside.arena (g.K.Word64.word c.args.key) c.bytes_of_key-bytes.ensures.small c.bytes_of_key-bytes.result c.bytes_of_key-bytes.ensures.bytes None at in
    rw (← c.self.view_is, ← e) (refuses g.A.Allocator.charged_of g.A.Allocator.limit_of c.self.inside.drainer c.self.inside.arena c.insert.new.self (g.K.Word64.word c.args.key) c.bytes_of_key-bytes.ensures.small c.bytes_of_key-bytes.result c.bytes_of_key-bytes.ensures.bytes c.to_word-word.result (c.in-Err.e, c.in-Err.field-0-1) c.in-Err.ensures.refused)
