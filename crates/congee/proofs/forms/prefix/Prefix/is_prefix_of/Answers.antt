use Rattle.std.proofs.Common.{rules, ◌≡◌, ◌∙◌, ap, nat_eq, ◌/◌, ◌^◌, ◌*◌, ◌-◌, length, take, sym}
use Rattle.std.specs.Int.Bits.{bit_xor}
use Rattle.std.specs.List.{slice_index}
use Rattle.congee.specs.Heap.{fits}
use Rattle.congee.proofs.lemmas.forms.PackedPrefixes.{apart_test, packed_fits, read_off}
use Rattle.congee.proofs.forms.prefix.Prefix.is_prefix_of.Goals as goal

pub returns : goal.returns
returns c =
    let word = c.self.inside.bytes in
    let n = slice_index word 7 in
    let k = c.from_be_bytes.result in
    let w = c.from_be_bytes-2.result in
    let size : length c.args.key.now ≡ 8 = search rules in
    let ek = read_off c.args.key.now k size (search rules) c.from_be_bytes.ensures in
    let ew = read_off word w c.self.invariant.0 c.self.invariant.2 c.from_be_bytes-2.ensures in
    let is : c.args.self.now ≡ take n word = sym c.self.view_is in
    let long : c.len.result ≡ n = search rules in
    let test = packed_fits c.args.key.now word k w n size c.self.invariant.0 c.from_be_bytes.type_inv c.from_be_bytes-2.type_inv ek ew c.self.invariant.1 in
    ap (λ m. nat_eq (bit_xor k w / 256 / 2 ^ (8 * (7 - m))) 0) long ∙ apart_test k w (8 * (7 - n)) ∙ test ∙ ap (λ p. fits p c.args.key.now) (sym is)
