use Rattle.std.proofs.Common.{rules, ◌≡◌, ◌∙◌, refl, sym, ap, subst}
use Rattle.joint.specs.engine.Closing.{account_of}
use Rattle.joint.specs.threads.Threads.{IsUnclosed}
use Rattle.joint.specs.world.World.{Holds}
use Rattle.joint.proofs.threads.tree.Tree.close.Goals as goal

pub returns-in-Ok-clause-closed : goal.returns-in-Ok-clause-closed
returns-in-Ok-clause-closed g c = (_, subst (Holds g.P.Payload.same_as g.P.Payload.always_copies) c.world-machine.ensures c.sound.ensures.holds, c.in-Ok.ensures.closed, c.in-Ok.ensures.kept)

pub returns-in-Ok-clause-given_back : goal.returns-in-Ok-clause-given_back
returns-in-Ok-clause-given_back g c =
    let same : account_of c.world-machine.result.now ≡ c.args.self.account = search rules in (
      c.in-Ok.ensures.closed.charge_is ∙ sym (ap (λ s. s.forest.base) c.world-machine.ensures) ∙ ap (λ a. a.charged) same,
      c.in-Ok.ensures.closed.limit_is ∙ sym (ap (λ s. s.forest.limit) c.world-machine.ensures) ∙ ap (λ a. a.limit) same,
    )

pub returns-in-Err-clause-cause : goal.returns-in-Err-clause-cause
returns-in-Err-clause-cause g c =
    let holds = subst (Holds g.P.Payload.same_as g.P.Payload.always_copies) c.world-machine.ensures c.sound.ensures.holds in
    subst (IsUnclosed g.P.Payload.same_as g.P.Payload.always_copies c.args.self.account) (sym c.in-Err.ensures.closed.why) (_, holds, c.in-Err.ensures.closed.workers, refl)
