use Rattle.std.proofs.Common.{◌≡◌, ◌∙◌, None, ap, sym}
use Rattle.std.specs.FinMap as map
use Rattle.judge.specs.Answer.{set_at}
use Rattle.judge.proofs.Laws.{set_at-standing}
use Rattle.trial.specs.Sessions.{renewed}
use Rattle.trial.proofs.examples.sessions.registry.Registry.renew.Goals as goal

pub returns-in-None-clause-renewed : goal.returns-in-None-clause-renewed
returns-in-None-clause-renewed c =
    let none : map.get c.args.self.now c.args.session ≡ None = sym c.look_up.ensures ∙ c.in-None.is in
    sym (ap (λ o. set_at c.args.self.now c.args.session (renewed c.args.expiry o)) none ∙ set_at-standing c.args.self.now c.args.session None none)
