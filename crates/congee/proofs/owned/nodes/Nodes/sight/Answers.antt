use Rattle.std.proofs.Common.{length, ap, ◌∙◌}
use Rattle.congee.proofs.lemmas.owned.Stored.{named_slot}
use Rattle.congee.proofs.lemmas.owned.Sights.{leaf_seven, sees_inline, sees_inner, sees_leaf}
use Rattle.congee.specs.owned.Entries.{lone_seen}
use Rattle.congee.proofs.owned.nodes.Nodes.sight.Goals as goal

pub index-requires : goal.index-requires
index-requires g c = named_slot c.self.inside.slab c.args.self.now c.self.view_is c.args.at c.at.inside.slot c.at.inside.byte c.at.view_is c.in-None.is c.requires

pub key_of-requires : goal.key_of-requires
key_of-requires g c = ap length c.prefix.ensures.bytes ∙ leaf_seven c.self.inside.slab c.self.inside.inline c.at.inside.slot c.self.invariant c.index.result.now c.in-Leaf.n c.index.ensures c.in-Leaf.is

pub returns-in-Some : goal.returns-in-Some
returns-in-Some g c = sees_inline c.self.inside.slab c.args.self.now c.self.view_is c.args.at c.at.inside.slot c.at.inside.byte c.at.view_is c.in-Some.byte (lone_seen c.lone.result) c.in-Some.is c.lone.ensures

pub returns-in-Inner : goal.returns-in-Inner
returns-in-Inner g c = sees_inner c.self.inside.slab c.args.self.now c.self.view_is c.args.at c.at.inside.slot c.at.inside.byte c.at.view_is c.in-None.is c.index.result.now c.in-Inner.n c.index.ensures c.in-Inner.is

pub returns-in-Leaf : goal.returns-in-Leaf
returns-in-Leaf g c = sees_leaf c.self.inside.slab c.args.self.now c.self.view_is c.args.at c.at.inside.slot c.at.inside.byte c.at.view_is c.in-None.is c.index.result.now c.in-Leaf.n c.index.ensures c.in-Leaf.is c.key_of.result c.prefix.result.now
    (leaf_seven c.self.inside.slab c.self.inside.inline c.at.inside.slot c.self.invariant c.index.result.now c.in-Leaf.n c.index.ensures c.in-Leaf.is) c.prefix.ensures.bytes c.key_of.ensures.begins c.key_of.ensures.ends
