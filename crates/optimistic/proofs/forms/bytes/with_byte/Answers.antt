use Rattle.std.proofs.Common.{◌*◌, ◌^◌, ◌%◌, ◌∙◌, ap, arith, bit_xor}
use Rattle.std.proofs.lemmas.Nat.{shl_whole, xor_lt}
use Rattle.optimistic.specs.forms.Bytes.{byte_of}
use Rattle.optimistic.proofs.lemmas.forms.ByteLemmas.{byte_put, byte_below}
use Rattle.optimistic.proofs.forms.bytes.with_byte.Goals as goal

pub returns : goal.returns
returns c q =
    let w = c.args.word in
    let p = c.args.place in
    let b = c.args.byte in
    let d = bit_xor (byte_of w p) b in
    let small = xor_lt 8 (byte_of w p) b (byte_below w p) (omega arith) in
    let whole = shl_whole d 8 (8 * p) 64 small (omega arith) in
    ap (λ x. byte_of (bit_xor w (bit_xor x b * 2 ^ (8 * p) % 2 ^ 64)) q) c.byte_at.ensures ∙ ap (λ x. byte_of (bit_xor w x) q) whole ∙ byte_put w p b q (omega arith)
