use Rattle.std.proofs.Common.{get_or, ap, ◌∙◌, arith}
use Rattle.congee.specs.Keys.{key_bytes}
use Rattle.congee.proofs.lemmas.forms.Prefixes.{fits_every}
use Rattle.congee.proofs.owned.inline_leaf.key_of.Goals as goal

pub returns-clause-begins : goal.returns-clause-begins
returns-clause-begins c =
    fits_every c.args.prefix.now (key_bytes c.key_of_bytes.result) (omega (arith, c.requires))
    (λ j l. ap (λ y. get_or y j 0) c.key_of_bytes.ensures ∙ c.key_from.ensures.bytes j (omega (arith, l, c.requires)))

pub returns-clause-ends : goal.returns-clause-ends
returns-clause-ends c = ap (λ y. get_or y 7 0) c.key_of_bytes.ensures ∙ c.key_from.ensures.last
