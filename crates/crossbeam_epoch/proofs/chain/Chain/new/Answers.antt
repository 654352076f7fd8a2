use Rattle.crossbeam_epoch.proofs.chain.Chain.new.Goals as goal

pub no_block-requires : goal.no_block-requires
no_block-requires g c = g.met.J.Task.fits_sealed

pub no_block-requires-2 : goal.no_block-requires-2
no_block-requires-2 g c = g.met.J.Task.fits_sealed
