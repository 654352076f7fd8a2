use Rattle.std.proofs.Common.{refl, arith}
use Rattle.congee.proofs.lemmas.forms.ChainLemmas.{removed}
use Rattle.congee.proofs.forms.index.Index.remove.Goals as goal

pub returns-clause-ok : goal.returns-clause-ok
returns-clause-ok c = removed c.args.self.now c.requires.ok c.args.byte _ (omega arith) c.requires.present (omega (arith, c.requires.some)) refl refl refl
