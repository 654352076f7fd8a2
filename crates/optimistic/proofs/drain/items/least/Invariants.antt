use Rattle.optimistic.specs.words.Last.{node_in}
use Rattle.optimistic.specs.forms.Least.{IsLeast}
use Rattle.optimistic.proofs.drain.items.least.Given as goal

abbrev pub invariant-loop-place : goal.invariant-loop-place
invariant-loop-place l = IsLeast l.form (node_in l.words l.node) l.from l.place l.least
