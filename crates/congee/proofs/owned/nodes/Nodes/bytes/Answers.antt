use Rattle.std.proofs.Common.{◌≡◌, ◌*◌, ap, ◌∙◌, arith}
use Rattle.slab.specs.Slab.{entries}
use Rattle.congee.proofs.lemmas.owned.SlotBytes.{slots_left, walk_bytes}
use Rattle.congee.proofs.owned.nodes.Nodes.bytes.Goals as goal

pub overflow_mul-bytes : goal.overflow_mul-bytes
overflow_mul-bytes g c =
    let w = walk_bytes c.self.inside.slab c.args.self.now c.self.view_is c.self.inside.inline c.self.invariant in
    let n : c.size.result * c.self.inside.inline ≡ 64 * c.self.inside.inline = ap (λ k. k * c.self.inside.inline) c.size.ensures in
    let r = c.requires in
    omega (arith, w, n, r)

pub loop-slot-init : goal.loop-slot-init
loop-slot-init g c =
    let w = walk_bytes c.self.inside.slab c.args.self.now c.self.view_is c.self.inside.inline c.self.invariant in
    let n : c.size.result * c.self.inside.inline ≡ 64 * c.self.inside.inline = ap (λ k. k * c.self.inside.inline) c.size.ensures in
    let left : slots_left c.into_iter-slot-iterator.result ≡ slots_left (entries c.self.inside.slab) = ap slots_left (c.into_iter-slot-iterator.ensures.into_iter_gives ∙ c.iter-slot-items.ensures.rest) in
    (tt, (tt, omega (arith, w, n, left)))
