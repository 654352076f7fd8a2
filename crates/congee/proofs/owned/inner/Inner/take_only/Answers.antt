use Rattle.std.proofs.Common.{rules, ◌<◌}
use Rattle.congee.specs.forms.Forms.{children_of}
use Rattle.congee.proofs.lemmas.owned.Takings.{never_bare, only_there}
use Rattle.congee.proofs.owned.inner.Inner.take_only.Goals as goal

pub unreachable-requires : goal.unreachable-requires
unreachable-requires g c = never_bare (children_of c.args.self.now) c.requires.one c.in-None.ensures

pub returns : goal.returns
returns g c =
    let low : c.in-Some.byte < 256 = search rules in
    only_there (children_of c.args.self.now) c.requires.one c.in-Some.byte c.remove.result low c.remove.ensures.before
