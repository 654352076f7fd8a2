use Rattle.std.proofs.Common.{refl}
use Rattle.congee.proofs.lemmas.owned.Rows.{name_at, sees_row}
use Rattle.congee.proofs.lemmas.owned.Stored.{named_slot}
use Rattle.congee.proofs.lemmas.owned.Sights.{sees_inner}
use Rattle.congee.proofs.owned.nodes.Nodes.row.Goals as goal

pub index-requires : goal.index-requires
index-requires g c = named_slot c.self.inside.slab c.args.self.now c.self.view_is c.args.at c.at.inside.slot c.at.inside.byte c.at.view_is c.in-None.is c.requires

pub returns-else-prefix-eq0-clause-sees : goal.returns-else-prefix-eq0-clause-sees
returns-else-prefix-eq0-clause-sees g c =
    sees_row c.args.self.now c.args.at c.at.inside.slot _ c.in-Inner.n
    (sees_inner c.self.inside.slab c.args.self.now c.self.view_is c.args.at c.at.inside.slot c.at.inside.byte c.at.view_is c.in-None.is c.index.result.now c.in-Inner.n c.index.ensures c.in-Inner.is)
    (name_at c.args.at c.at.inside.slot c.at.inside.byte c.at.view_is c.in-None.is)
    c.prefix-prefix.result.now c.prefix-prefix.ensures.bytes c.if-prefix-eq0.false refl c.args.from c.row.result c.row.ensures
