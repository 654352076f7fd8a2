use Rattle.optimistic.proofs.lemmas.forms.Scans.{last_bound, last_none, last_top}
use Rattle.optimistic.proofs.forms.scan.last_in.Goals as goal

pub returns-clause-bound : goal.returns-clause-bound
returns-clause-bound c = last_bound c.args.mask c.args.to c.requires

pub returns-clause-none : goal.returns-clause-none
returns-clause-none c = last_none c.args.mask c.args.to c.requires

pub returns-clause-set : goal.returns-clause-set
returns-clause-set c some = last_top c.args.mask c.args.to c.requires some
