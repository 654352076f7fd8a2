use Rattle.std.proofs.Common.{◌≢◌, subst}
use Rattle.std.specs.Prelude.{Option, MatchOption}
use Rattle.optimistic.specs.declared.moves.Item.{Item}
use Rattle.optimistic.specs.Moves.{IsItem}
use Rattle.optimistic.specs.forms.Children.{taken_in}
use Rattle.optimistic.proofs.lemmas.drain.Leasts.{least_skip}
use Rattle.optimistic.proofs.drain.items.lower.Goals as goal

pub returns-in-Some : goal.returns-in-Some
returns-in-Some c form w i l item h = c.lower_of_two.ensures form w i l (subst (λ (o : Option Item). MatchOption o (taken_in form w i ≢ 1) (λ e. IsItem form w i e)) c.in-Some.is item) h

pub returns-in-None : goal.returns-in-None
returns-in-None c form w i l item h = least_skip form w c.args.from i c.args.least (subst (λ (o : Option Item). MatchOption o (taken_in form w i ≢ 1) (λ e. IsItem form w i e)) c.in-None.is item) h
