use Rattle.std.proofs.Common.{sym, ap, ◌∙◌}
use Rattle.std.specs.Option.{option_copied}
use Rattle.congee.proofs.lemmas.owned.Keeping.{first_at, held_at, never_gone, none_at}
use Rattle.congee.proofs.owned.leaf_node.LeafNode.first_from.Goals as goal

pub unreachable-requires : goal.unreachable-requires
unreachable-requires g c = never_gone g.P.Stored.value_in c.in-Some.kept.now (option_copied c.look.result) (held_at g.P.Stored.value_in c.self.inside.values c.self.invariant c.in-Some.byte c.in-Some.kept.now c.in-Some.ensures.here) c.look.ensures (ap option_copied c.in-None-look.is)

pub returns-in-None : goal.returns-in-None
returns-in-None g c = λ b l. none_at g.P.Stored.value_in c.self.inside.prefix c.self.inside.values c.args.self.now c.self.view_is b (c.in-None.ensures b l)

pub returns-in-Some-look : goal.returns-in-Some-look
returns-in-Some-look g c = first_at g.P.Stored.value_in c.self.inside.prefix c.self.inside.values c.args.self.now c.self.view_is c.args.from c.in-Some.byte c.in-Some.kept.now c.in-Some-look.value.now (sym c.look.ensures ∙ ap option_copied c.in-Some-look.is) c.in-Some.ensures
