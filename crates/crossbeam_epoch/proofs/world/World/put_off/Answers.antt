use Rattle.std.proofs.Common.{◌≡◌, refl, sym, ◌∙◌, length}
use Rattle.crossbeam_epoch.specs.declared.fault.Fault.TheVariants.{Memory}
use Rattle.crossbeam_epoch.specs.world.Machine.{place}
use Rattle.crossbeam_epoch.specs.world.Steps.{defer_fault}
use Rattle.crossbeam_epoch.proofs.lemmas.world.Held.{after_put, after_anew, fault_given, none_given}
use Rattle.crossbeam_epoch.proofs.world.World.put_off.Goals as goal

pub returns-in-Some : goal.returns-in-Some
returns-in-Some g c = record {
  ticket = tt;
  state = tt;
  back = (refl, refl);
  fault = fault_given ((c.in-Some.fault ≡ Memory) × (length (place c.args.self.now c.args.who).bag ≡ 64) × (c.args.self.now.room ≡ 0)) (defer_fault c.args.self.now c.args.who) c.in-Some.fault (sym c.defer_fault.ensures.value ∙ c.in-Some.is);
}

pub returns-then-not-is_bag_full : goal.returns-then-not-is_bag_full
returns-then-not-is_bag_full g c = record {
  ticket = c.put.ensures.ticket;
  state = c.put.ensures.state ∙ after_put c.args.self.now c.args.who c.args.work (sym c.is_bag_full.ensures.value ∙ c.if-not-is_bag_full.true);
  back = tt;
  fault = sym c.defer_fault.ensures.value ∙ c.in_default.is;
}

pub returns-in-Ok : goal.returns-in-Ok
returns-in-Ok g c = record {
  ticket = c.in-Ok.ensures.ok.0;
  state = c.in-Ok.ensures.ok.1 ∙ after_anew c.args.self.now c.args.who c.args.work (sym c.is_bag_full.ensures.value ∙ c.if-not-is_bag_full.false);
  back = tt;
  fault = sym c.defer_fault.ensures.value ∙ c.in_default.is;
}

pub returns-in-Err : goal.returns-in-Err
returns-in-Err g c = record {
  ticket = tt;
  state = tt;
  back = (c.in-Err.ensures.err.1, c.in-Err.ensures.err.0);
  fault = none_given ((Memory ≡ Memory) × (length (place c.args.self.now c.args.who).bag ≡ 64) × (c.args.self.now.room ≡ 0)) (defer_fault c.args.self.now c.args.who) Memory (sym c.defer_fault.ensures.value ∙ c.in_default.is) (refl, c.is_bag_full.ensures.full c.if-not-is_bag_full.false, c.in-Err.ensures.err.2);
}

pub is_bag_full-requires : goal.is_bag_full-requires
is_bag_full-requires g c = record { in_table = c.defer_fault.ensures.inside c.in_default.is }

pub put-requires : goal.put-requires
put-requires g c = record {
  in_table = c.defer_fault.ensures.inside c.in_default.is;
  room = c.is_bag_full.ensures.room c.if-not-is_bag_full.true;
  few = c.defer_fault.ensures.few c.in_default.is;
}

pub put_anew-requires : goal.put_anew-requires
put_anew-requires g c = record {
  in_table = c.defer_fault.ensures.inside c.in_default.is;
  few = c.defer_fault.ensures.few c.in_default.is;
}
