use Rattle.std.proofs.Common.{sym, ◌∙◌, subst, Option, IfSome, take}
use Rattle.optimistic.specs.declared.tree.run.Run.{Run}
use Rattle.optimistic.specs.declared.tree.trail.Trail.{Trail}
use Rattle.optimistic.specs.tree.Runs.{IsRun}
use Rattle.optimistic.specs.tree.Trails.{IsTrail}
use Rattle.optimistic.proofs.lemmas.tree.Alone.{run_dated}
use Rattle.optimistic.proofs.lemmas.tree.Reading.{looks_trans}
use Rattle.optimistic.proofs.lemmas.words.Moments.{since_refl}
use Rattle.optimistic.proofs.tree.get.Tree.look_by.Goals.{in-Some+else-is_later, in-None+else-not-go_up}
use Rattle.optimistic.proofs.tree.get.Tree.look_by.Goals as goal

pub look_last-looked-requires-in-loop-clause-trail : goal.look_last-looked-requires-in-loop-clause-trail
look_last-looked-requires-in-loop-clause-trail c =
    let i = c.loop.invariant in
    let u = c.loop.hand.me.0 in
    elim c.match-looked.branch [
      | in-Some+else-is_later b ↦
          let run = subst (λ (o : Option Run). IfSome o (λ r. IsRun r c.args.from c.args.last c.args.places (take r.count c.loop.out) u)) b.in-Some.is i.4 in
          subst (λ (t : Trail). IsTrail t u.seen) (sym b.trail-is) (b.turn.ensures u i.2 run.turn)
      | in-None+else-not-go_up b ↦ subst (λ (t : Trail). IsTrail t u.seen) (sym b.trail-is) (b.go_up.ensures u.seen i.2)
    ]

pub loop-preserved : goal.loop-preserved
loop-preserved c =
    let v = c.args.hand.now.me.0 in
    let u = c.loop.hand.me.0 in
    let w = c.look_last-looked-in-loop.new.hand.me.0 in
    let i = c.loop.invariant in
    let e = c.look_last-looked-in-loop.ensures in
    (e.of, looks_trans v u w i.1 e.looks, e.trail, e.same ∙ i.3, e.run, run_dated c.look_last-looked-in-loop.result v.seen u.seen w.seen w.seen i.1.since e.dated (since_refl w.seen))
