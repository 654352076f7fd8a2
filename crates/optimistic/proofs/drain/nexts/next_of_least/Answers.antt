use Rattle.std.proofs.Common.{◌-◌, ◌<◌, ◌≤◌, subst, arith, Option}
use Rattle.optimistic.specs.Layout.{room, byte_at}
use Rattle.optimistic.specs.declared.moves.Item.{Item}
use Rattle.optimistic.specs.forms.Least.{IsLeast}
use Rattle.optimistic.proofs.lemmas.drain.Keys.{reaches}
use Rattle.optimistic.proofs.lemmas.drain.Leasts.{byte_small}
use Rattle.optimistic.proofs.lemmas.drain.Ends.{none_next, item_next}
use Rattle.optimistic.proofs.drain.nexts.next_of_least.Goals as goal

pub returns-then-item-byte-clause-next : goal.returns-then-item-byte-clause-next
returns-then-item-byte-clause-next c w is least =
    let form = c.args.at.form in
    let level = c.args.at.level in
    let item = c.in-Some.item in
    let h = subst (λ (o : Option Item). IsLeast form w (byte_at c.args.from level) (room form) o) c.in-Some.is least in
    let b = byte_small form w h.place h.inside in
    let same = h.item.1 in
    let small : item.byte - 1 < 256 = omega (arith, b, same) in
    let e = c.key_byte-byte.ensures.byte in
    let t = c.if-item-byte.true in
    let low : byte_at c.args.from level ≤ item.byte - 1 = omega (arith, e, t) in
    none_next form level c.args.from w c.requires is c.last_key.result (item.byte - 1) c.last_key.ensures low small (λ i m taken up. omega (arith, h.least i m taken up, t))
    (reaches c.args.from level (item.byte - 1) c.last_key.result c.requires c.last_key.ensures low)

pub returns-else-item-byte-clause-next : goal.returns-else-item-byte-clause-next
returns-else-item-byte-clause-next c w is least =
    let form = c.args.at.form in
    let level = c.args.at.level in
    let item = c.in-Some.item in
    let h = subst (λ (o : Option Item). IsLeast form w (byte_at c.args.from level) (room form) o) c.in-Some.is least in
    let e = c.key_byte-byte.ensures.byte in
    let t = c.if-item-byte.false in
    let above = h.above in
    item_next form level c.args.from w c.requires is item h (omega (arith, e, t, above)) c.next_of_item.result c.next_of_item.ensures.next

pub returns-in-None-clause-next : goal.returns-in-None-clause-next
returns-in-None-clause-next c w is least =
    let form = c.args.at.form in
    let level = c.args.at.level in
    let h = subst (λ (o : Option Item). IsLeast form w (byte_at c.args.from level) (room form) o) c.in-None.is least in
    let low : byte_at c.args.from level ≤ 255 = omega arith in
    none_next form level c.args.from w c.requires is c.last_key-in-None.result 255 c.last_key-in-None.ensures low (omega arith) (λ i m taken up. absurd (omega (arith, h i m taken, up)))
    (reaches c.args.from level 255 c.last_key-in-None.result c.requires c.last_key-in-None.ensures low)

pub returns-then-item-byte-clause-placed : goal.returns-then-item-byte-clause-placed
returns-then-item-byte-clause-placed c =
    let e = c.key_byte-byte.ensures.byte in
    let t = c.if-item-byte.true in
    let low : byte_at c.args.from c.args.at.level ≤ c.in-Some.item.byte - 1 = omega (arith, e, t) in
    reaches c.args.from c.args.at.level (c.in-Some.item.byte - 1) c.last_key.result c.requires c.last_key.ensures low

pub returns-in-None-clause-placed : goal.returns-in-None-clause-placed
returns-in-None-clause-placed c =
    let low : byte_at c.args.from c.args.at.level ≤ 255 = omega arith in
    reaches c.args.from c.args.at.level 255 c.last_key-in-None.result c.requires c.last_key-in-None.ensures low
