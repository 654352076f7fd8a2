-- What crates above cite of this one's lemmas, and nothing else: the others may change.

-- one step keeps what ties a history to its state
pub use Rattle.crossbeam_epoch.proofs.lemmas.world.Runs.{fits_after}
-- so does a participant that registers
pub use Rattle.crossbeam_epoch.proofs.lemmas.world.Runs.{fits_registered}
-- so does any change of the cells and roots
pub use Rattle.crossbeam_epoch.proofs.lemmas.world.Runs.{fits_store}
-- so does a job that is deferred
pub use Rattle.crossbeam_epoch.proofs.lemmas.world.Jobs.{fits_after_deferral}
-- a stretch that an act doesn't turn goes on
pub use Rattle.crossbeam_epoch.proofs.lemmas.world.Reaches.{act_steady}
