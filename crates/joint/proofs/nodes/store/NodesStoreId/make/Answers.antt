use Rattle.std.proofs.Common.{◌≤◌, length, refl, ap, arith}
use Rattle.std.proofs.lemmas.List.{length-take-le}
use Rattle.congee.proofs.Laws.{front_fits}
use Rattle.joint.proofs.lemmas.nodes.Accounts.{standing_few, kept_filled, new_node}
use Rattle.joint.proofs.lemmas.nodes.NodesInvariant.{orderly_stored}
use Rattle.joint.proofs.nodes.store.NodesStoreId.make.Goals as goal

pub invariant_of-self-in-Ok : goal.invariant_of-self-in-Ok
invariant_of-self-in-Ok g c =
    kept_filled _ _ _ c.self.invariant (orderly_stored c.self.inside.collector c.place-name.new.collector c.place-name.ensures.beside c.self.invariant.orderly) c.place-name.result c.in-Ok.slot c.place-name.ensures.fills c.args.form c.add.new.self
    c.in_ok-charge.ensures.charged refl c.in-Ok.ensures.fresh.size_is (ap (λ w. w.retired) c.in-Ok.ensures.fresh.word) c.in-Ok.ensures.fresh.whole c.add.ensures.cell_marks c.add.ensures.room c.add.ensures.standing c.add.ensures.waiting c.add.ensures.bytes

pub returns-in-Ok-clause-gives : goal.returns-in-Ok-clause-gives
returns-in-Ok-clause-gives g c =
    let l : c.args.length ≤ length c.args.key.now = omega arith in
    new_node _ _ c.self.view_is c.place-name.result c.in-Ok.slot c.place-name.new.collector.store c.args.form _ c.args.key.now c.args.length c.place-name.ensures.fills c.in-Ok.ensures.fresh (front_fits c.args.length c.args.key.now l) (length-take-le c.args.length c.args.key.now l)

pub add-requires-clause-few : goal.add-requires-clause-few
add-requires-clause-few g c = standing_few _ _ c.self.invariant
