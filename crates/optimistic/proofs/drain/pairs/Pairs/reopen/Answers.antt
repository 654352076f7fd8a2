use Rattle.std.proofs.Common.{List, sym, subst}
use Rattle.optimistic.specs.declared.words.last.Words.{Words}
use Rattle.optimistic.specs.declared.words.rule.Block.{Block}
use Rattle.optimistic.specs.declared.words.rule.Plot.{Plot}
use Rattle.optimistic.specs.words.Last.{words_in}
use Rattle.optimistic.specs.tree.Nexts.{IsEnd}
use Rattle.optimistic.proofs.drain.pairs.Pairs.reopen.Goals as goal

pub returns-in_err-pairs-clause-log : goal.returns-in_err-pairs-clause-log
returns-in_err-pairs-clause-log g c log has = (c.drain.ensures.pairs log has).0

pub returns-in-Ok-clause-log : goal.returns-in-Ok-clause-log
returns-in-Ok-clause-log g c log has = (c.drain.ensures.pairs log has).0

pub returns-clause-log : goal.returns-clause-log
returns-clause-log g c log has = subst (λ (w : Words). (plots : List Plot) × (calm : List Block) × IsEnd (words_in w) plots calm log) (sym c.go_back.ensures.words) (c.drain.ensures.pairs log has).0
