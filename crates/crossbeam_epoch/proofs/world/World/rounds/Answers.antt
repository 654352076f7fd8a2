use Rattle.crossbeam_epoch.specs.world.Reach.{marks_of}
use Rattle.crossbeam_epoch.proofs.lemmas.world.Rounds.{quiet_advances, quiet_seals, quiet_bags, quiet_empties}
use Rattle.crossbeam_epoch.proofs.lemmas.world.Takings.{flush_takes}
use Rattle.crossbeam_epoch.proofs.world.World.rounds.Goals as goal

pub returns : goal.returns
returns g c = record {
  advances = λ h s s' who t o i quiet r. quiet_advances s s' who (marks_of h) t.fits t.table o i quiet r;
  seals = λ h s s' who t o i quiet r b m. quiet_seals s s' who (marks_of h) t.fits t.table o i quiet r b m;
  takes = λ h s s' who t o i fin. flush_takes s s' who (marks_of h) t.fits o i fin;
  bags = λ h s s' who t o i quiet r. quiet_bags s s' who (marks_of h) t.fits t.table o i quiet r;
  empties = λ h s s1 s' who n t o i two quiet r rounds enough. quiet_empties s s1 s' who n (marks_of h) t.fits t.table o i two quiet r rounds enough;
}
