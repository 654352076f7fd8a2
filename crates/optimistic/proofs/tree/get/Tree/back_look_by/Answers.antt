use Rattle.std.proofs.Common.{sym, ◌∙◌, subst, Option, IfSome, take}
use Rattle.optimistic.specs.declared.tree.run.Run.{Run}
use Rattle.optimistic.specs.declared.tree.trail.Trail.{Trail}
use Rattle.optimistic.specs.tree.RunsBack.{IsRunBack}
use Rattle.optimistic.specs.tree.Trails.{IsTrail}
use Rattle.optimistic.proofs.tree.get.Tree.back_look_by.Goals.{in-Some+else-is_earlier, in-None+else-not-go_up}
use Rattle.optimistic.proofs.lemmas.tree.Reading.{looks_trans}
use Rattle.optimistic.proofs.tree.get.Tree.back_look_by.Goals as goal

pub back_look_last-looked-requires-in-loop-clause-trail : goal.back_look_last-looked-requires-in-loop-clause-trail
back_look_last-looked-requires-in-loop-clause-trail c =
    let i = c.loop.invariant in
    let u = c.loop.hand.me.0 in
    elim c.match-looked.branch [
      | in-Some+else-is_earlier b ↦
          let run = subst (λ (o : Option Run). IfSome o (λ r. IsRunBack r c.args.from c.args.first c.args.places (take r.count c.loop.out) u)) b.in-Some.is i.4 in
          subst (λ (t : Trail). IsTrail t u.seen) (sym b.trail-is) (b.turn.ensures u i.2 run.turn)
      | in-None+else-not-go_up b ↦ subst (λ (t : Trail). IsTrail t u.seen) (sym b.trail-is) (b.go_up.ensures u.seen i.2)
    ]

pub loop-preserved : goal.loop-preserved
loop-preserved c =
    let v = c.args.hand.now.me.0 in
    let u = c.loop.hand.me.0 in
    let w = c.back_look_last-looked-in-loop.new.hand.me.0 in
    let i = c.loop.invariant in
    let e = c.back_look_last-looked-in-loop.ensures in
    (e.of, looks_trans v u w i.1 e.looks, e.trail, e.same ∙ i.3, e.run)
