use Rattle.std.proofs.Common.{◌≡◌, rules, refl, sym, ◌∙◌, arith}
use Rattle.optimistic.proofs.lemmas.words.Moments.{width_more}
use Rattle.optimistic.proofs.tree.get.Tree.confirm.Goals as goal

pub load-version-requires-clause-at : goal.load-version-requires-clause-at
load-version-requires-clause-at c = c.requires.place.at

pub load-version-requires-clause-inside : goal.load-version-requires-clause-inside
load-version-requires-clause-inside c = let m = width_more c.args.sight.at.form c.requires.place.some c.requires.place.form in omega arith

pub returns-clause-still : goal.returns-clause-still
returns-clause-still c = let same : c.load-version.result ≡ c.args.sight.version = search rules in (refl, sym c.load-version.ensures.found ∙ same)
