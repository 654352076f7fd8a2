use Rattle.std.proofs.Common.{refl, arith}
use Rattle.congee.proofs.lemmas.protocol.PlainHeaps.{changed}
use Rattle.congee.proofs.protocol.plain.PlainStoreStoreUsizeU64.fill.Goals as goal

pub returns-clause-gives : goal.returns-clause-gives
returns-clause-gives c = changed c.args.self.now.nodes.items c.args.node c.args.byte c.args.child c.index_mut.result.now _ c.requires.stands.made c.index_mut.ensures.value
    (record { prefix_is = refl; form_is = refl; version_is = refl; locked_is = refl; obsolete_is = refl; destroyed_is = refl; retired_is = refl }) refl (omega (arith, c.index_mut.result.now.wide, c.ranges.byte.fits))
