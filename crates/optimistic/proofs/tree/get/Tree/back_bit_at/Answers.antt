use Rattle.std.proofs.Common.{◌≡◌, ◌≢◌, ℕ, ◌+◌, ◌-◌, ◌*◌, ◌^◌, ◌<◌, ◌≤◌, None, ap, subst, sym, ◌∙◌, arith}
use Rattle.optimistic.specs.Layout.{byte_at, prefix_of}
use Rattle.optimistic.specs.declared.tree.run.Bit.TheVariants.{Told}
use Rattle.optimistic.specs.forms.Wide.{bit_in}
use Rattle.optimistic.specs.tree.RunsBack.{ShowsBack}
use Rattle.optimistic.specs.tree.Sights.{Lacks}
use Rattle.optimistic.proofs.lemmas.drain.Keys.{precedes}
use Rattle.optimistic.proofs.lemmas.tree.Reading.{looks_trans}
use Rattle.optimistic.proofs.lemmas.tree.Runs.{bytes_since}
use Rattle.optimistic.proofs.lemmas.tree.RunsBack.{ends, back_gap, back_before, back_until}
use Rattle.optimistic.proofs.lemmas.words.Moments.{since_trans}
use Rattle.optimistic.proofs.tree.get.Tree.back_bit_at.Goals as goal

pub back_bit_here-requires-clause-set : goal.back_bit_here-requires-clause-set
back_bit_here-requires-clause-set c n =
    let most = c.byte_to-end.ensures.bound in
    let over = c.if-end-byte.true in
    let e : c.byte_to-end.result - 1 ≡ c.key_byte-byte.result = omega (arith, most, over) in
    subst (λ (z : ℕ). bit_in c.args.bytes.now z ≡ 1) e (c.byte_to-end.ensures.set n (omega (arith, over)))

pub returns-then-end-byte-clause-looks : goal.returns-then-end-byte-clause-looks
returns-then-end-byte-clause-looks c a l = looks_trans a c.byte_to-end.new.hand.me.0 c.back_bit_here.new.hand.me.0 (c.byte_to-end.ensures.looks a l) c.back_bit_here.ensures.looks

pub returns-then-end-byte-clause-since : goal.returns-then-end-byte-clause-since
returns-then-end-byte-clause-since c = since_trans _ _ _ c.byte_to-end.ensures.since c.back_bit_here.ensures.looks.since

pub returns-then-end-byte-clause-shows : goal.returns-then-end-byte-clause-shows
returns-then-end-byte-clause-shows c a l has = c.back_bit_here.ensures.shows a (c.byte_to-end.ensures.looks a l) (bytes_since c.args.at c.args.bytes.now c.args.places.now a c.args.hand.now.me.0 c.byte_to-end.new.hand.me.0 has c.byte_to-end.ensures.since)

-- the first of the keys at which the node has no child up to this one isn't behind it
before : (from level byte end first : ℕ) → level < 8 → byte ≡ byte_at from level → end ≤ byte → first ≡ (prefix_of from level * 256 + end) * 2 ^ (56 - 8 * level) → first ≤ from
before from level byte end first l is low start = precedes from level end first l (omega (arith, is, low)) start (omega (arith, is, low))

pub returns-then-end-eq0-clause-knows : goal.returns-then-end-eq0-clause-knows
returns-then-end-eq0-clause-knows c = before c.args.from c.args.at.level c.key_byte-byte.result c.byte_to-end.result c.first_key-gap.result c.requires.at.level c.key_byte-byte.ensures.byte c.if-end-byte.false c.first_key-gap.ensures

pub returns-then-end-eq0-clause-shows : goal.returns-then-end-eq0-clause-shows
returns-then-end-eq0-clause-shows c a l has =
    let at = c.args.at in
    let end : ℕ = c.byte_to-end.result in
    let w = c.byte_to-end.new.hand.me.0 in
    let e = c.key_byte-byte.ensures.byte in
    let low = c.if-end-byte.false in
    back_gap at c.args.from a w c.requires.at.level end c.first_key-gap.result (subst (λ (z : ℕ). Lacks at.node at.form end (z + 1) a w) e (c.byte_to-end.ensures.lacks a l (λ n. (has n).0)))
    (omega (arith, low, e)) (before c.args.from at.level c.key_byte-byte.result end c.first_key-gap.result c.requires.at.level e low c.first_key-gap.ensures) c.first_key-gap.ensures

pub back_bit_here-requires-2-clause-byte : goal.back_bit_here-requires-2-clause-byte
back_bit_here-requires-2-clause-byte c = let low = c.if-end-byte.false in sym (ends c.args.from c.args.at.level (c.byte_to-end.result - 1) c.last_key-last.result c.requires.at.level (omega (arith, low)) c.last_key-last.ensures).1

pub back_bit_here-requires-2-clause-set : goal.back_bit_here-requires-2-clause-set
back_bit_here-requires-2-clause-set c n = let some = c.if-end-eq0.false in c.byte_to-end.ensures.set n (omega (arith, some))

pub returns-in-Down-clause-looks : goal.returns-in-Down-clause-looks
returns-in-Down-clause-looks c a l = looks_trans a c.byte_to-end.new.hand.me.0 c.back_bit_here-2.new.hand.me.0 (c.byte_to-end.ensures.looks a l) c.back_bit_here-2.ensures.looks

pub returns-in-Down-clause-since : goal.returns-in-Down-clause-since
returns-in-Down-clause-since c = since_trans _ _ _ c.byte_to-end.ensures.since c.back_bit_here-2.ensures.looks.since

pub returns-in-Down-clause-knows : goal.returns-in-Down-clause-knows
returns-in-Down-clause-knows c = before c.args.from c.args.at.level c.key_byte-byte.result c.byte_to-end.result c.first_key-gap.result c.requires.at.level c.key_byte-byte.ensures.byte c.if-end-byte.false c.first_key-gap.ensures

pub returns-in-Down-clause-shows : goal.returns-in-Down-clause-shows
returns-in-Down-clause-shows c a l has =
    let at = c.args.at in
    let end : ℕ = c.byte_to-end.result in
    let u = c.byte_to-end.new.hand.me.0 in
    let e = c.key_byte-byte.ensures.byte in
    let low = c.if-end-byte.false in
    back_until at c.args.from (Told None c.first_key-gap.result) a u c.back_bit_here-2.new.hand.me.0
    (back_gap at c.args.from a u c.requires.at.level end c.first_key-gap.result (subst (λ (z : ℕ). Lacks at.node at.form end (z + 1) a u) e (c.byte_to-end.ensures.lacks a l (λ n. (has n).0)))
    (omega (arith, low, e)) (before c.args.from at.level c.key_byte-byte.result end c.first_key-gap.result c.requires.at.level e low c.first_key-gap.ensures) c.first_key-gap.ensures) c.back_bit_here-2.ensures.looks.since

pub returns-in-Told-clause-looks : goal.returns-in-Told-clause-looks
returns-in-Told-clause-looks c a l = looks_trans a c.byte_to-end.new.hand.me.0 c.back_bit_here-2.new.hand.me.0 (c.byte_to-end.ensures.looks a l) c.back_bit_here-2.ensures.looks

pub returns-in-Told-clause-since : goal.returns-in-Told-clause-since
returns-in-Told-clause-since c = since_trans _ _ _ c.byte_to-end.ensures.since c.back_bit_here-2.ensures.looks.since

-- the last key with the byte before the gap is the one before it
last_before : (p end s last gap : ℕ) → last + 1 ≡ (p * 256 + (end - 1) + 1) * s → gap ≡ (p * 256 + end) * s → end ≢ 0 → last + 1 ≡ gap
last_before p end s last gap a b some =
    let q : p * 256 + (end - 1) + 1 ≡ p * 256 + end = omega (arith, some) in
    a ∙ ap (λ (z : ℕ). z * s) q ∙ sym b

pub returns-in-Told-clause-knows : goal.returns-in-Told-clause-knows
returns-in-Told-clause-knows c =
    let end : ℕ = c.byte_to-end.result in
    let order = before c.args.from c.args.at.level c.key_byte-byte.result end c.first_key-gap.result c.requires.at.level c.key_byte-byte.ensures.byte c.if-end-byte.false c.first_key-gap.ensures in
    let next = last_before (prefix_of c.args.from c.args.at.level) end (2 ^ (56 - 8 * c.args.at.level)) c.last_key-last.result c.first_key-gap.result c.last_key-last.ensures c.first_key-gap.ensures c.if-end-eq0.false in
    let reach = c.in-Told.ensures.knows in
    omega (arith, order, next, reach)

pub returns-in-Told-clause-shows : goal.returns-in-Told-clause-shows
returns-in-Told-clause-shows c a l has =
    let at = c.args.at in
    let from : ℕ = c.args.from in
    let end : ℕ = c.byte_to-end.result in
    let u = c.byte_to-end.new.hand.me.0 in
    let w = c.back_bit_here-2.new.hand.me.0 in
    let gap : ℕ = c.first_key-gap.result in
    let last : ℕ = c.last_key-last.result in
    let e = c.key_byte-byte.ensures.byte in
    let low = c.if-end-byte.false in
    let order = before from at.level c.key_byte-byte.result end gap c.requires.at.level e low c.first_key-gap.ensures in
    let none : ShowsBack at from (Told None gap) a w = back_until at from (Told None gap) a u w
    (back_gap at from a u c.requires.at.level end gap (subst (λ (z : ℕ). Lacks at.node at.form end (z + 1) a u) e (c.byte_to-end.ensures.lacks a l (λ n. (has n).0))) (omega (arith, low, e)) order c.first_key-gap.ensures)
    c.back_bit_here-2.ensures.looks.since in
    let some : ShowsBack at last (Told c.in-Told.pair c.in-Told.first) a w = c.in-Told.ensures.shows a (c.byte_to-end.ensures.looks a l) (bytes_since at c.args.bytes.now c.args.places.now a c.args.hand.now.me.0 u has c.byte_to-end.ensures.since) in
    let next = last_before (prefix_of from at.level) end (2 ^ (56 - 8 * at.level)) last gap c.last_key-last.ensures c.first_key-gap.ensures c.if-end-eq0.false in
    back_before at from a w c.requires.at.level last gap c.in-Told.pair c.in-Told.first none some next (ends from at.level (end - 1) last c.requires.at.level (omega (arith, low)) c.last_key-last.ensures).0 order c.in-Told.ensures.knows
