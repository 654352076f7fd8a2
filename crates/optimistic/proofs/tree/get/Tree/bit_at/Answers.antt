use Rattle.std.proofs.Common.{◌≡◌, ◌≢◌, ℕ, ◌+◌, ◌-◌, ◌*◌, ◌^◌, ◌<◌, ◌≤◌, None, ap, subst, sym, ◌∙◌, arith}
use Rattle.optimistic.specs.Layout.{byte_at, prefix_of}
use Rattle.optimistic.specs.declared.tree.run.Bit.TheVariants.{Told}
use Rattle.optimistic.specs.tree.Runs.{ShowsBit}
use Rattle.optimistic.specs.tree.Sights.{Lacks}
use Rattle.optimistic.proofs.lemmas.drain.Keys.{reaches, starts}
use Rattle.optimistic.proofs.lemmas.tree.Reading.{looks_trans}
use Rattle.optimistic.proofs.lemmas.tree.Runs.{bit_gap, bit_behind, bit_until, bytes_since}
use Rattle.optimistic.proofs.lemmas.words.Moments.{since_trans}
use Rattle.optimistic.proofs.tree.get.Tree.bit_at.Goals as goal

pub returns-then-to-byte-clause-looks : goal.returns-then-to-byte-clause-looks
returns-then-to-byte-clause-looks c a l = looks_trans a c.byte_from-to.new.hand.me.0 c.bit_here.new.hand.me.0 (c.byte_from-to.ensures.looks a l) c.bit_here.ensures.looks

pub returns-then-to-byte-clause-shows : goal.returns-then-to-byte-clause-shows
returns-then-to-byte-clause-shows c a l has = c.bit_here.ensures.shows a (c.byte_from-to.ensures.looks a l) (bytes_since c.args.at c.args.bytes.now c.args.places.now a c.args.hand.now.me.0 c.byte_from-to.new.hand.me.0 has c.byte_from-to.ensures.since)

-- the byte before the next one at which there may be a child isn't before the key's
before : (to byte at : ℕ) → byte ≤ to → to ≢ byte → byte ≡ at → at ≤ to - 1
before to byte at low apart is = omega (arith, low, apart, is)

pub returns-then-to-gt255-clause-knows : goal.returns-then-to-gt255-clause-knows
returns-then-to-gt255-clause-knows c =
    let to : ℕ = c.byte_from-to.result in
    reaches c.args.from c.args.at.level (to - 1) c.last_key-gap.result c.requires.at.level c.last_key-gap.ensures (before to c.key_byte-byte.result (byte_at c.args.from c.args.at.level) c.byte_from-to.ensures.bounds.0 c.if-to-byte.false c.key_byte-byte.ensures.byte)

pub returns-then-to-gt255-clause-shows : goal.returns-then-to-gt255-clause-shows
returns-then-to-gt255-clause-shows c a l has =
    let to : ℕ = c.byte_from-to.result in
    let w = c.byte_from-to.new.hand.me.0 in
    let e = c.key_byte-byte.ensures.byte in
    let b = c.byte_from-to.ensures.bounds in
    let low = b.0 in
    let high = b.1 in
    let apart = c.if-to-byte.false in
    bit_gap c.args.at c.args.from a w c.requires.at.level to c.last_key-gap.result (to - 1) (subst (λ (z : ℕ). Lacks c.args.at.node c.args.at.form z to a w) e (c.byte_from-to.ensures.lacks a l (λ n. (has n).0)))
    (before to c.key_byte-byte.result (byte_at c.args.from c.args.at.level) low apart e) (omega (arith, high, low, apart)) (omega (arith, low, apart)) c.last_key-gap.ensures

pub bit_here-requires-2-clause-byte : goal.bit_here-requires-2-clause-byte
bit_here-requires-2-clause-byte c = let small = c.if-to-gt255.false in sym (starts c.args.from c.args.at.level c.byte_from-to.result c.first_key-first.result c.requires.at.level (omega (arith, small)) c.first_key-first.ensures).1

pub returns-in-Down-clause-looks : goal.returns-in-Down-clause-looks
returns-in-Down-clause-looks c a l = looks_trans a c.byte_from-to.new.hand.me.0 c.bit_here-2.new.hand.me.0 (c.byte_from-to.ensures.looks a l) c.bit_here-2.ensures.looks

pub returns-in-Down-clause-since : goal.returns-in-Down-clause-since
returns-in-Down-clause-since c = since_trans _ _ _ c.byte_from-to.ensures.since c.bit_here-2.ensures.looks.since

pub returns-in-Down-clause-knows : goal.returns-in-Down-clause-knows
returns-in-Down-clause-knows c =
    let to : ℕ = c.byte_from-to.result in
    reaches c.args.from c.args.at.level (to - 1) c.last_key-gap.result c.requires.at.level c.last_key-gap.ensures (before to c.key_byte-byte.result (byte_at c.args.from c.args.at.level) c.byte_from-to.ensures.bounds.0 c.if-to-byte.false c.key_byte-byte.ensures.byte)

pub returns-in-Down-clause-shows : goal.returns-in-Down-clause-shows
returns-in-Down-clause-shows c a l has =
    let to : ℕ = c.byte_from-to.result in
    let u = c.byte_from-to.new.hand.me.0 in
    let w = c.bit_here-2.new.hand.me.0 in
    let e = c.key_byte-byte.ensures.byte in
    let b = c.byte_from-to.ensures.bounds in
    let low = b.0 in
    let high = b.1 in
    let apart = c.if-to-byte.false in
    bit_until c.args.at c.args.from (Told None c.last_key-gap.result) a u w (bit_gap c.args.at c.args.from a u c.requires.at.level to c.last_key-gap.result (to - 1) (subst (λ (z : ℕ). Lacks c.args.at.node c.args.at.form z to a u) e (c.byte_from-to.ensures.lacks a l (λ n. (has n).0)))
    (before to c.key_byte-byte.result (byte_at c.args.from c.args.at.level) low apart e) (omega (arith, high, low, apart)) (omega (arith, low, apart)) c.last_key-gap.ensures) c.bit_here-2.ensures.looks.since

pub returns-in-Told-clause-looks : goal.returns-in-Told-clause-looks
returns-in-Told-clause-looks c a l = looks_trans a c.byte_from-to.new.hand.me.0 c.bit_here-2.new.hand.me.0 (c.byte_from-to.ensures.looks a l) c.bit_here-2.ensures.looks

pub returns-in-Told-clause-since : goal.returns-in-Told-clause-since
returns-in-Told-clause-since c = since_trans _ _ _ c.byte_from-to.ensures.since c.bit_here-2.ensures.looks.since

-- the first key with the byte is behind the gap
next_key : (p to s gap first : ℕ) → gap + 1 ≡ (p * 256 + (to - 1) + 1) * s → first ≡ (p * 256 + to) * s → 0 < to → gap + 1 ≡ first
next_key p to s gap first a b some =
    let q : p * 256 + (to - 1) + 1 ≡ p * 256 + to = omega (arith, some) in
    a ∙ ap (λ (z : ℕ). z * s) q ∙ sym b

pub returns-in-Told-clause-knows : goal.returns-in-Told-clause-knows
returns-in-Told-clause-knows c =
    let to : ℕ = c.byte_from-to.result in
    let low = c.byte_from-to.ensures.bounds.0 in
    let apart = c.if-to-byte.false in
    let order = reaches c.args.from c.args.at.level (to - 1) c.last_key-gap.result c.requires.at.level c.last_key-gap.ensures (before to c.key_byte-byte.result (byte_at c.args.from c.args.at.level) low apart c.key_byte-byte.ensures.byte) in
    let next = next_key (prefix_of c.args.from c.args.at.level) to (2 ^ (56 - 8 * c.args.at.level)) c.last_key-gap.result c.first_key-first.result c.last_key-gap.ensures c.first_key-first.ensures (omega (arith, low, apart)) in
    let reach = c.in-Told.ensures.knows in
    omega (arith, order, next, reach)

pub returns-in-Told-clause-shows : goal.returns-in-Told-clause-shows
returns-in-Told-clause-shows c a l has =
    let to : ℕ = c.byte_from-to.result in
    let from : ℕ = c.args.from in
    let u = c.byte_from-to.new.hand.me.0 in
    let w = c.bit_here-2.new.hand.me.0 in
    let gap : ℕ = c.last_key-gap.result in
    let first : ℕ = c.first_key-first.result in
    let e = c.key_byte-byte.ensures.byte in
    let b = c.byte_from-to.ensures.bounds in
    let low = b.0 in
    let high = b.1 in
    let apart = c.if-to-byte.false in
    let small = c.if-to-gt255.false in
    let up = before to c.key_byte-byte.result (byte_at from c.args.at.level) low apart e in
    let none : ShowsBit c.args.at from (Told None gap) a w = bit_until c.args.at from (Told None gap) a u w (bit_gap c.args.at from a u c.requires.at.level to gap (to - 1)
    (subst (λ (z : ℕ). Lacks c.args.at.node c.args.at.form z to a u) e (c.byte_from-to.ensures.lacks a l (λ n. (has n).0))) up (omega (arith, high, low, apart)) (omega (arith, low, apart)) c.last_key-gap.ensures) c.bit_here-2.ensures.looks.since in
    let some : ShowsBit c.args.at first (Told c.in-Told.pair c.in-Told.end) a w = c.in-Told.ensures.shows a (c.byte_from-to.ensures.looks a l) (bytes_since c.args.at c.args.bytes.now c.args.places.now a c.args.hand.now.me.0 u has c.byte_from-to.ensures.since) in
    let next = next_key (prefix_of from c.args.at.level) to (2 ^ (56 - 8 * c.args.at.level)) gap first c.last_key-gap.ensures c.first_key-first.ensures (omega (arith, low, apart)) in
    bit_behind c.args.at from a w c.requires.at.level first gap c.in-Told.pair c.in-Told.end none some next (starts from c.args.at.level to first c.requires.at.level (omega (arith, small)) c.first_key-first.ensures).0
    (reaches from c.args.at.level (to - 1) gap c.requires.at.level c.last_key-gap.ensures up) c.in-Told.ensures.knows

pub returns-then-to-byte-clause-since : goal.returns-then-to-byte-clause-since
returns-then-to-byte-clause-since c = since_trans c.args.hand.now.me.0.seen c.byte_from-to.new.hand.me.0.seen c.bit_here.new.hand.me.0.seen c.byte_from-to.ensures.since c.bit_here.ensures.looks.since
