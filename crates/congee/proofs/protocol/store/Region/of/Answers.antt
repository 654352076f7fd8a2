use Rattle.std.proofs.Common.{◌≡◌, ◌≤◌, ℕ, ◌∙◌, subst, arith, length, take, get_or}
use Rattle.std.proofs.lemmas.List.{take_all}
use Rattle.congee.proofs.lemmas.protocol.RegionBytes.{region_of}
use Rattle.congee.proofs.protocol.store.Region.of.Goals as goal

pub returns : goal.returns
returns c =
    let all : c.loop-i.i ≡ length c.args.prefix.now = omega (arith, c.loop-i-test.false, c.loop-i.auto.i-end) in
    region_of c.loop-i.bytes c.args.prefix.now c.from_be_bytes.result c.loop-i.invariant.0 c.requires
    (subst (λ n. take n c.loop-i.bytes ≡ take n c.args.prefix.now) all c.loop-i.invariant.1 ∙ take_all (length c.args.prefix.now) c.args.prefix.now (omega arith))
    c.loop-i.invariant.2 (subst (λ n. (j : ℕ) → n ≤ j → get_or c.loop-i.bytes j 0 ≡ 0) all c.loop-i.invariant.3) c.from_be_bytes.ensures c.from_be_bytes.type_inv
