use Rattle.std.proofs.Common.{◌∙◌}
use Rattle.std.proofs.lemmas.Iterator.{items_from_collect}
use Rattle.std.proofs.lemmas.Iterator.Consumers.{YieldsList-from_first}
use Rattle.trial.proofs.Turning.{kept_entries}
use Rattle.trial.proofs.examples.sessions.registry.Registry.close.Goals as goal

pub returns : goal.returns
returns c =
    let listed = rw c.in_ok-collect.was at (items_from_collect c.collect.result c.collect.ensures.ran (YieldsList-from_first (λ x. x) (λ s. s) _ c.iter.ensures)) in
    rw (← c.self.view_is) (record {
      sessions = listed ∙ kept_entries c.self.inside.expiries.pairs c.self.inside.by_expiry.pairs c.self.invariant;
      turned = c.self.inside.by_expiry.pairs;
      agrees = c.self.invariant;
      expiries = c.in_ok-keys.ensures;
    })
