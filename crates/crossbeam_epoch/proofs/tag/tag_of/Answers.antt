use Rattle.std.proofs.Math.Facts.{Fits-of_lt}
use Rattle.crossbeam_epoch.proofs.lemmas.Tags.{rest_fits}
use Rattle.crossbeam_epoch.proofs.tag.tag_of.Goals as goal

pub overflow_cast-result : goal.overflow_cast-result
overflow_cast-result g c =
    let a = g.T.Pointable.aligned in
    Fits-of_lt (rw (c.from.ensures, c.ALIGN.ensures) (rest_fits c.args.number g.T.Pointable.ALIGN a.0 a.2 a.1))
