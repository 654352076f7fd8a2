use Rattle.std.proofs.Common.{ℕ, ◌≡◌, ◌+◌, ◌-◌, ◌*◌, ◌^◌, ◌≤◌, ap, sym, ◌∙◌, inr, pow_pos, arith}
use Rattle.optimistic.specs.Layout.{prefix_of}
use Rattle.optimistic.proofs.lemmas.drain.Keys.{starts, reaches}
use Rattle.optimistic.proofs.lemmas.tree.Few.{one_more}
use Rattle.optimistic.proofs.tree.run.first_with.Goals as goal

pub returns-else-low-byte-clause-near : goal.returns-else-low-byte-clause-near
returns-else-low-byte-clause-near c = (starts c.args.from c.args.level c.args.byte c.first_key.result c.requires.level (omega arith) c.first_key.ensures).0

pub returns-else-low-byte-clause-byte : goal.returns-else-low-byte-clause-byte
returns-else-low-byte-clause-byte c = (starts c.args.from c.args.level c.args.byte c.first_key.result c.requires.level (omega arith) c.first_key.ensures).1

pub returns-else-low-byte-clause-first : goal.returns-else-low-byte-clause-first
returns-else-low-byte-clause-first c =
    let from : ℕ = c.args.from in
    let level : ℕ = c.args.level in
    let byte : ℕ = c.args.byte in
    let low = c.requires.order in
    let is = c.requires.low in
    let apart = c.if-low-byte.false in
    let p : ℕ = 2 ^ (56 - 8 * level) in
    let q : ℕ = prefix_of from level * 256 + (byte - 1) in
    let next : q + 1 ≡ prefix_of from level * 256 + byte = omega (arith, low, apart) in
    let end = one_more q p (pow_pos (56 - 8 * level)) in
    let before : from ≤ q * p + (p - 1) = reaches from level (byte - 1) (q * p + (p - 1)) c.requires.level end (omega (arith, low, apart, is)) in
    let first : q * p + (p - 1) + 1 ≡ c.first_key.result = end ∙ ap (λ (z : ℕ). z * p) next ∙ sym c.first_key.ensures in (
      omega (arith, before, first),
      inr c.first_key.ensures,
      λ same. absurd (apart same),
    )
