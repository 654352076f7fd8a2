use Rattle.std.proofs.Common.{rules, inl}
use Rattle.std.specs.Prelude.{IsTrue, nat_eq, true}
use Rattle.joint.proofs.lemmas.threads.Holding.{step_tells}
use Rattle.joint.proofs.threads.locked.Words.take.Goals as goal

pub returns-clause-turn : goal.returns-clause-turn
returns-clause-turn g c =
    let own : IsTrue c.is_own.result = search rules in
    inl (record { own = c.is_own.ensures.0 own; takes = c.step.ensures })

pub returns-clause-told : goal.returns-clause-told
returns-clause-told g c = step_tells nat_eq true c.args.step c.step.result c.requires (_, _, c.step.ensures)
