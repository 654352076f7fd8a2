use Rattle.std.proofs.Common.{◌∙◌, sym, arith}
use Rattle.std.specs.Prelude.{true, false}
use Rattle.crossbeam_epoch.proofs.lemmas.world.Endings.{registered_more}
use Rattle.crossbeam_epoch.proofs.world.World.registered.Goals as goal
use Rattle.crossbeam_epoch.proofs.world.World.registered.Goals.{then-is_registered, else-is_registered}

pub loop-n-preserved : goal.loop-n-preserved
loop-n-preserved g c =
    let s = c.args.self.now in
    let l = c.loop-n in
    elim c.if-is_registered.branch [
      | then-is_registered w ↦ record {
        count = registered_more s l.n _ _ true (omega arith) (sym c.is_registered.ensures.value ∙ w.if-is_registered.true) (omega (arith, l.invariant.count, w.registered-is));
        few = omega (arith, l.invariant.few, w.registered-is);
      }
      | else-is_registered w ↦ record {
        count = registered_more s l.n _ _ false (omega arith) (sym c.is_registered.ensures.value ∙ w.if-is_registered.false) (omega (arith, l.invariant.count, w.registered-is));
        few = omega (arith, l.invariant.few, w.registered-is);
      }
    ]
