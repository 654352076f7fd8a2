use Rattle.std.proofs.Common.{rules, ◌≡◌, arith, inl, sym, ◌∙◌}
use Rattle.std.specs.Prelude.{IsTrue, None, nat_eq, false, true}
use Rattle.joint.specs.Changes.{changes}
use Rattle.joint.proofs.lemmas.threads.Holding.{step_tells}
use Rattle.joint.proofs.lemmas.threads.WritingStep.{read_count}
use Rattle.joint.proofs.threads.journaled_world.JournaledWorld.read.Goals as goal

pub invariant_of-self : goal.invariant_of-self
invariant_of-self g c =
    let kept = c.args.self.now in
    let places = c.step_on.ensures.appended.places in
    let reads : changes c.args.op.now ≡ false = search rules in
    let same = read_count kept.world c.step_on.new.world c.args.step.worker c.args.op.now None c.args.step.event g.W.Watch.watched c.step_on.result.1 reads c.step_on.ensures.appended in
    record {
      some = omega (arith, places, kept.some);
      few = omega (arith, places, kept.few);
      counted = kept.counted ∙ sym same;
    }

pub returns-clause-turn : goal.returns-clause-turn
returns-clause-turn g c =
    let may : IsTrue c.may_step.result = search rules in
    inl (record { own = c.may_step.ensures.0 may; takes = c.step_on.ensures.step })

pub returns-clause-told : goal.returns-clause-told
returns-clause-told g c = step_tells nat_eq true c.args.step c.step_on.result.0 c.requires (c.args.self.now.world, c.step_on.new.world, c.step_on.ensures.step)
