use Rattle.std.proofs.Common.{rules, ◌≡◌, ◌≢◌, refl, sym, ◌∙◌, Some, true, false, arith}
use Rattle.std.specs.FinMap as map
use Rattle.congee.specs.owned.Going.{goes_of}
use Rattle.congee.proofs.lemmas.owned.Contents.{exchanges, leaves_other}
use Rattle.congee.proofs.lemmas.owned.Goings.{going_map}
use Rattle.congee.proofs.lemmas.owned.Keying.{keyed_change}
use Rattle.congee.proofs.owned.congee.Congee.compare_exchange.Goals as goal

pub returns-then-not-holds-clause-other : goal.returns-then-not-holds-clause-other
returns-then-not-holds-clause-other g c =
    let ne : c.copied-found.result ≢ Some c.to_word-old.result = (λ e. let t : c.holds.result ≡ true = c.holds.ensures.1 e in let f : c.holds.result ≡ false = search rules in let z : true ≡ false = sym t ∙ f in cc) in
    let told = leaves_other g.A.Allocator.charged_of g.A.Allocator.limit_of c.self.inside.drainer c.self.inside.arena (g.K.Word64.word c.args.key.now) c.bytes_of_key-bytes.ensures.small c.bytes_of_key-bytes.result c.bytes_of_key-bytes.ensures.bytes c.to_word-old.result _ c.copied-found.result ne (c.copied-found.ensures ∙ c.get.ensures) in
    (c.copied-found.result, c.word_of.ensures, rw (← c.self.view_is, ← c.to_word-old.ensures.number) told)

pub returns-clause-ok : goal.returns-clause-ok
returns-clause-ok g c =
    let t : c.holds.result ≡ true = search rules in
    let is : c.copied-found.result ≡ Some c.to_word-old.result = c.holds.ensures.0 t in
    let told = exchanges g.A.Allocator.charged_of g.A.Allocator.limit_of c.self.inside.drainer c.self.inside.arena c.settle.new.self (g.K.Word64.word c.args.key.now) c.bytes_of_key-bytes.ensures.small c.bytes_of_key-bytes.result c.bytes_of_key-bytes.ensures.bytes c.settle.result c.to_word-old.result c.number_of-word.result (sym is ∙ (c.copied-found.ensures ∙ c.get.ensures)) c.settle.ensures.frees in
    (c.number_of-word.result, c.number_of-word.ensures, refl, rw (← c.self.view_is, ← c.to_word-old.ensures.number, ← going_map g.V.Word64.word c.args.new (map.get (goes_of c.self.inside.arena.nodes) (g.K.Word64.word c.args.key.now)), ← c.number_of-word.ensures) told)

pub invariant_of-self : goal.invariant_of-self
invariant_of-self g c = (c.settle.ensures.frees.edits.tree, omega (arith, c.settle.ensures.frees.edits.balance, c.self.invariant.1), c.settle.ensures.frees.filled false c.self.invariant.2 (λ e. absurd (cc e)), keyed_change _ _ _ c.bytes_of_key-bytes.ensures.small _ c.bytes_of_key-bytes.ensures.bytes _ _ c.settle.ensures.frees.edits.change c.self.invariant.3, c.settle.ensures.counted)
