use Rattle.std.proofs.Common.{refl, sym, ◌∙◌}
use Rattle.congee.proofs.lemmas.protocol.PlainHeaps.{not_locked, now_locked}
use Rattle.congee.proofs.protocol.plain.PlainStoreStoreUsizeU64.upgrade.Goals as goal

pub returns-then-not-is_at-clause-gives : goal.returns-then-not-is_at-clause-gives
returns-then-not-is_at-clause-gives c = not_locked c.args.self.now.nodes.items c.args.at.node c.args.at.version _ c.index.result.now c.args.fail c.if-at-eq18446744073709551615.false c.requires.made c.index.ensures (sym c.is_at.ensures ∙ c.if-not-is_at.true)

pub returns-clause-gives : goal.returns-clause-gives
returns-clause-gives c = now_locked c.args.self.now.nodes.items c.args.at.node c.args.at.version _ c.index.result.now c.index_mut.result.now _ c.args.fail c.if-fail.false c.if-at-eq18446744073709551615.false c.requires.made
    c.index.ensures c.index_mut.ensures.value (sym c.is_at.ensures ∙ c.if-not-is_at.false) refl
