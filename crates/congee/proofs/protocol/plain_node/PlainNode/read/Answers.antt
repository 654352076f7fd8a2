use Rattle.std.proofs.Common.{◌≡◌, refl, sym, arith}
use Rattle.congee.proofs.lemmas.protocol.PlainHeaps.{places_of, seen_truly}
use Rattle.congee.proofs.protocol.plain_node.PlainNode.read.Goals as goal

pub returns-in-None-clause-gives : goal.returns-in-None-clause-gives
returns-in-None-clause-gives c = let e : c.as_slice.result.now ≡ c.args.self.now.prefix = c.as_slice.ensures.bytes in (
  rw (← e) c.in-None.ensures,
  c.len-depth.ensures.count,
  c.len-depth.ensures.fits,
  sym (places_of c.args.self.now.form),
  c.look-seen.ensures.byte,
  λ t. seen_truly c.args.self.now c.args.key.now _ c.len-depth.result c.look-seen.result c.len-depth.ensures.count refl (omega (arith, c.look-seen.ensures.byte, c.look-seen.ensures.fits)) (c.look-seen.ensures.truly t),
)
