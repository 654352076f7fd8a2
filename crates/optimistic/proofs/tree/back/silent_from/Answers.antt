use Rattle.std.proofs.Common.{◌≡◌, ℕ, ◌+◌, ◌<◌, ◌≤◌, le_refl, arith}
use Rattle.optimistic.specs.Layout.{byte_at}
use Rattle.optimistic.proofs.lemmas.drain.Keys.{precedes, near_back}
use Rattle.optimistic.proofs.tree.back.silent_from.Goals as goal

byte_low : (key level byte : ℕ) → byte ≡ byte_at key level → byte < 256
byte_low key level byte e = omega (arith, e)

byte_least : (key level byte : ℕ) → byte ≡ byte_at key level → byte ≤ byte_at key level
byte_least key level byte e = omega (arith, e)

pub returns-then-last-first-clause-before : goal.returns-then-last-first-clause-before
returns-then-last-first-clause-before c =
    let b = c.key_byte.ensures.byte in
    precedes c.args.to c.args.level c.key_byte.result c.first_key-first.result c.requires (byte_low c.args.to c.args.level c.key_byte.result b) c.first_key-first.ensures (byte_least c.args.to c.args.level c.key_byte.result b)

pub returns-then-last-first-clause-near : goal.returns-then-last-first-clause-near
returns-then-last-first-clause-near c =
    let b = c.key_byte.ensures.byte in
    let low = byte_low c.args.to c.args.level c.key_byte.result b in
    near_back c.args.to c.args.level c.key_byte.result c.first_key-first.result c.requires low c.first_key-first.ensures b c.first_key-first.result (le_refl c.first_key-first.result)
    (precedes c.args.to c.args.level c.key_byte.result c.first_key-first.result c.requires low c.first_key-first.ensures (byte_least c.args.to c.args.level c.key_byte.result b))

pub returns-then-last-to-clause-near : goal.returns-then-last-to-clause-near
returns-then-last-to-clause-near c =
    let b = c.key_byte.ensures.byte in
    let before = c.if-last-first.false in
    let after = c.if-last-to.true in
    near_back c.args.to c.args.level c.key_byte.result c.first_key-first.result c.requires (byte_low c.args.to c.args.level c.key_byte.result b) c.first_key-first.ensures b (c.last_of-last.result + 1) (omega (arith, before)) (omega (arith, after))

pub returns-else-last-to-clause-before : goal.returns-else-last-to-clause-before
returns-else-last-to-clause-before c =
    let b = c.key_byte.ensures.byte in
    precedes c.args.to c.args.level c.key_byte.result c.first_key-first.result c.requires (byte_low c.args.to c.args.level c.key_byte.result b) c.first_key-first.ensures (byte_least c.args.to c.args.level c.key_byte.result b)

pub returns-else-last-to-clause-near : goal.returns-else-last-to-clause-near
returns-else-last-to-clause-near c =
    let b = c.key_byte.ensures.byte in
    let low = byte_low c.args.to c.args.level c.key_byte.result b in
    near_back c.args.to c.args.level c.key_byte.result c.first_key-first.result c.requires low c.first_key-first.ensures b c.first_key-first.result (le_refl c.first_key-first.result)
    (precedes c.args.to c.args.level c.key_byte.result c.first_key-first.result c.requires low c.first_key-first.ensures (byte_least c.args.to c.args.level c.key_byte.result b))
