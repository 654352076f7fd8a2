use Rattle.std.proofs.Common.{◌≡◌, Some, false, arith, refl, sym, ◌∙◌}
use Rattle.congee.proofs.lemmas.owned.Contents.{found_at, removes}
use Rattle.congee.proofs.lemmas.owned.Keying.{keyed_change}
use Rattle.congee.proofs.owned.congee.Congee.pop_first.Goals as goal

pub returns-clause-popped : goal.returns-clause-popped
returns-clause-popped g c =
    let is : c.remove.result ≡ Some c.in-Some.value =
    found_at c.self.inside.arena c.in-Some.key c.bytes_of_key-bytes.ensures.small c.bytes_of_key-bytes.result c.bytes_of_key-bytes.ensures.bytes c.remove.result (sym c.remove.ensures.frees.edits.change.was) ∙ c.in-Some.ensures.here in
    let told = removes g.A.Allocator.charged_of g.A.Allocator.limit_of c.self.inside.drainer c.self.inside.arena c.remove.new.self c.in-Some.key c.bytes_of_key-bytes.ensures.small c.bytes_of_key-bytes.result c.bytes_of_key-bytes.ensures.bytes (Some c.in-Some.value)
    (rw is at c.remove.ensures.frees) in
    ((c.in-Some.key, c.in-Some.value), rw (c.from_word.ensures, c.from_word-2.ensures) refl, rw (← c.self.view_is) c.in-Some.ensures, rw (← c.self.view_is) told)

pub invariant_of-self : goal.invariant_of-self
invariant_of-self g c = (c.remove.ensures.frees.edits.tree, omega (arith, c.remove.ensures.frees.edits.balance, c.self.invariant.1), c.remove.ensures.frees.filled false c.self.invariant.2 (λ e. absurd (cc e)), keyed_change _ _ _ c.bytes_of_key-bytes.ensures.small _ c.bytes_of_key-bytes.ensures.bytes _ _ c.remove.ensures.frees.edits.change c.self.invariant.3, c.remove.ensures.counted)
