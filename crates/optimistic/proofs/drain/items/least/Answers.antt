use Rattle.std.proofs.Common.{◌≡◌, ℕ, subst, arith}
use Rattle.optimistic.specs.Layout.{room}
use Rattle.optimistic.specs.words.Last.{node_in}
use Rattle.optimistic.specs.forms.Least.{IsLeast}
use Rattle.optimistic.proofs.drain.items.least.Goals as goal

pub loop-place-preserved : goal.loop-place-preserved
loop-place-preserved c = c.lower-least.ensures c.args.form (node_in c.args.words.now c.args.node) c.loop-place.place (omega arith) c.item_at.ensures c.loop-place.invariant

pub returns : goal.returns
returns c =
    let a = c.loop-place-test.false in
    let b = c.loop-place.auto.place-end in
    let r = c.room_of-place-end.ensures in
    let e : c.loop-place.place ≡ room c.args.form = omega arith in
    subst (λ (z : ℕ). IsLeast c.args.form (node_in c.args.words.now c.args.node) c.args.from z c.loop-place.least) e c.loop-place.invariant
