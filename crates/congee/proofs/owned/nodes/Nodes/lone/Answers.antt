use Rattle.std.proofs.Common.{rules, refl, ◌<◌}
use Rattle.congee.proofs.lemmas.owned.Stored.{lone_there, lone_value, lone_seen as seen_there}
use Rattle.congee.specs.owned.Entries.{lone_seen}
use Rattle.congee.proofs.owned.nodes.Nodes.lone.Goals as goal

pub index-requires : goal.index-requires
index-requires g c =
    let small : c.args.byte < 256 = search rules in
    let k = lone_there c.self.inside.slab c.args.slot c.args.byte small (rw c.self.view_is c.requires) in
    rw k.stands refl

pub lone-requires : goal.lone-requires
lone-requires g c =
    let small : c.args.byte < 256 = search rules in (
      g.met.P.Stored.fits,
      lone_value c.self.inside.slab c.args.slot c.args.byte (lone_there c.self.inside.slab c.args.slot c.args.byte small (rw c.self.view_is c.requires)) c.index.result.now c.index.ensures,
    )

pub returns : goal.returns
returns g c =
    let small : c.args.byte < 256 = search rules in
    seen_there c.self.inside.slab c.args.self.now c.self.view_is c.args.slot c.args.byte (lone_there c.self.inside.slab c.args.slot c.args.byte small (rw c.self.view_is c.requires)) c.index.result.now (lone_seen c.lone.result) c.index.ensures c.lone.ensures.leaf
