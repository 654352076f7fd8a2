use Rattle.crossbeam_epoch.proofs.lemmas.Tags.{or_below, xor_below}
use Rattle.crossbeam_epoch.proofs.tag.TagCall.changed.Goals as goal

pub returns-in-Or-clause-below : goal.returns-in-Or-clause-below
returns-in-Or-clause-below g c below =
    let a = g.T.Pointable.aligned in
    or_below _ a.0 _ _ a.2 below c.tag_of-bits.ensures.below

pub returns-in-Xor-clause-below : goal.returns-in-Xor-clause-below
returns-in-Xor-clause-below g c below =
    let a = g.T.Pointable.aligned in
    xor_below _ a.0 _ _ a.2 below c.tag_of-bits.ensures.below
