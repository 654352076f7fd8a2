use Rattle.std.proofs.Common.{◌∙◌, arith}
use Rattle.joint.proofs.lemmas.nodes.Planting.{is_top, opened_collector, root_is, told_is, resting_is, noted_root}
use Rattle.joint.proofs.nodes.opening.plant.Goals as goal

pub returns : goal.returns
returns g c =
    let told = c.in-Ok.ensures.told c.requires.expiry in
    record {
      collector_is = opened_collector c.args.limits c.in-Ok.collector c.place-name.new.collector c.store.new.self c.place-name.result c.in_ok-root.root c.in-Ok.ensures.state told c.place-name.ensures.beside c.place-name.ensures.fills c.in-Ok-store.ensures.ok (c.order.ensures.opened c.args.limits 1) c.stored.ensures.fits c.stored.ensures.rooted;
      root = (c.in_ok-root.root, (root_is c.args.limits c.in-Ok.collector c.place-name.new.collector c.store.new.self c.place-name.result c.in_ok-root.root c.in-Ok.ensures.state told c.place-name.ensures.beside c.place-name.ensures.fills c.in-Ok-store.ensures.ok (c.order.ensures.opened c.args.limits 1) c.stored.ensures.fits c.stored.ensures.rooted, c.in_ok-root.ensures));
      told = told_is c.args.limits c.in-Ok.collector c.place-name.new.collector c.store.new.self c.place-name.result c.in_ok-root.root c.in-Ok.ensures.state told c.place-name.ensures.beside c.place-name.ensures.fills c.in-Ok-store.ensures.ok (c.order.ensures.opened c.args.limits 1) c.stored.ensures.fits c.stored.ensures.rooted;
      resting = resting_is c.args.limits c.in-Ok.collector c.place-name.new.collector c.store.new.self c.place-name.result c.in_ok-root.root c.in-Ok.ensures.state told c.place-name.ensures.beside c.place-name.ensures.fills c.in-Ok-store.ensures.ok (c.order.ensures.opened c.args.limits 1) c.stored.ensures.fits c.stored.ensures.rooted;
      cell_marks = noted_root _ _ c.place-name.result c.add.ensures.cell_marks c.in_ok-counts.ensures.none (is_top c.args.limits c.in-Ok.collector c.place-name.new.collector c.store.new.self c.place-name.result c.in_ok-root.root c.in-Ok.ensures.state told c.place-name.ensures.beside c.place-name.ensures.fills c.in-Ok-store.ensures.ok (c.order.ensures.opened c.args.limits 1) c.stored.ensures.fits c.stored.ensures.rooted);
      one = omega (arith, c.add.ensures.standing, c.in_ok-counts.ensures.standing);
      none = c.add.ensures.waiting ∙ c.in_ok-counts.ensures.waiting.0;
      no_bytes = c.add.ensures.bytes ∙ c.in_ok-counts.ensures.waiting.1;
      room = omega (arith, c.add.ensures.room, c.in_ok-counts.ensures.room);
      last = omega (arith, c.last_turn-last.ensures.value, c.last_turn-last.ensures.word);
    }
