use Rattle.std.proofs.Common.{arith}
use Rattle.optimistic.proofs.lemmas.forms.Levels.{where_is}
use Rattle.optimistic.proofs.forms.names.where_word.Goals as goal

pub returns-clause-word : goal.returns-clause-word
returns-clause-word c = where_is c.args.form c.args.level c.args.key c.ranges.key.fits c.requires.level c.requires.form

pub returns-clause-some : goal.returns-clause-some
returns-clause-some c f e = let is = where_is c.args.form c.args.level c.args.key c.ranges.key.fits c.requires.level c.requires.form in omega (arith, is, e, f)
