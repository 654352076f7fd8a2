use Rattle.std.proofs.Common.{refl, ap}
use Rattle.crossbeam_epoch.specs.world.Machine.{inspection}
use Rattle.crossbeam_epoch.proofs.lemmas.world.Held.{placed_at}
use Rattle.crossbeam_epoch.proofs.world.World.inspect.Goals as goal

pub returns : goal.returns
returns g c =
    let old = c.index_mut.result.now in
    record {
      state = placed_at c.args.self.now _ c.args.who (record old { phase = c.after_inspection.result }) old (λ p. record p { phase = inspection c.args.self.now c.args.seen c.args.at }) c.self.view_is c.requires.in_table c.index_mut.ensures.value (ap (λ phase. record old { phase = phase }) c.after_inspection.ensures);
      outcome = refl;
    }
