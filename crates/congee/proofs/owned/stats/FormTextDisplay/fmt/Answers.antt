use Rattle.std.proofs.Output.{has_written_of_eq}
use Rattle.congee.proofs.lemmas.owned.StatsTexts.{form_written}
use Rattle.congee.proofs.owned.stats.FormTextDisplay.fmt.Goals as goal

pub returns-clause-writes : goal.returns-clause-writes
returns-clause-writes g c = λ plain ok.
    has_written_of_eq _ _ _ _ _ (form_written c.args.self.now.form c.args.self.now.info _ (rw c.capacity.ensures at c.load-load.ensures))
    ((rw (c.laid_out.ensures, c.laid_out-2.ensures, c.laid_out-3.ensures) at c.write.ensures.writes) plain ok)
