use Rattle.crossbeam_epoch.specs.declared.bag.Work.TheVariants.{Remove}
use Rattle.crossbeam_epoch.proofs.lemmas.world.Told.{tells_deferred, tells_still}
use Rattle.crossbeam_epoch.proofs.world.World.defer_destroy.Goals as goal
use Rattle.crossbeam_epoch.proofs.world.World.defer_destroy.Goals.{in-Ok, in-Err}

pub returns-clause-told : goal.returns-clause-told
returns-clause-told g c = elim c.match-put_off.branch [
  | in-Ok w ↦ rw w.result-is (tells_deferred g.T.Links.names c.args.self.now c.put_off.new.self c.args.who _ (Remove c.args.name) w.in-Ok.ensures.state w.in-Ok.ensures.ticket w.in-Ok.ensures.fault)
  | in-Err w ↦ rw w.result-is (tells_still g.T.Links.names c.args.self.now c.put_off.new.self w.in-Err.ensures.back.0)
]
