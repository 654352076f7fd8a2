use Rattle.std.proofs.Common.{rules, ◌≡◌, ◌+◌, length, sym, ap, subst, ◌∙◌, arith}
use Rattle.std.specs.Prelude.{Some}
use Rattle.congee.specs.forms.Forms.{form_of, size_of}
use Rattle.congee.specs.owned.Arena.{heap_of}
use Rattle.congee.specs.owned.Going.{Went}
use Rattle.congee.specs.owned.Sizes.{bytes_of}
use Rattle.congee.specs.owned.Wanted.{size_by}
use Rattle.congee.proofs.lemmas.owned.FullSteps.{lifted_filled, lost_others}
use Rattle.congee.proofs.lemmas.owned.Lifting.{moved_up}
use Rattle.congee.proofs.lemmas.owned.Moves.{node_at}
use Rattle.congee.proofs.lemmas.owned.Removing.{going_two, hung_not_root, kept_change, lift_ready, lifted_size, seen_count, seen_size, top_stands}
use Rattle.congee.proofs.owned.arena.Arena.collapse.Goals as goal

pub byte_at-up-requires : goal.byte_at-up-requires
byte_at-up-requires g c = top_stands c.args.self.now.nodes c.drop_leaf-value.new.self.nodes c.args.key.now c.args.top c.args.above c.args.at c.requires.tree c.requires.hangs c.requires.higher c.drop_leaf-value.ensures.above

pub lift-requires : goal.lift-requires
lift-requires g c = lift_ready c.args.self.now.nodes c.drop_leaf-value.new.self.nodes c.args.key.now c.args.top c.args.above c.args.at c.requires.tree c.requires.hangs c.requires.higher c.drop_leaf-value.ensures.above c.byte_at-up.result c.drop_leaf-value.ensures.drops.tree c.byte_at-up.ensures c.requires.two

pub deallocate-requires : goal.deallocate-requires
deallocate-requires g c =
    let s = c.args.self.now.nodes in
    let l = node_at s c.args.at c.requires.way.stands in
    let size : c.size-leaf.result ≡ size_by (heap_of s c.args.at).capacity = c.size-leaf.ensures ∙ (ap size_of (c.node_type.ensures l.0 l.1) ∙ sym (seen_size s c.args.at l.0 l.1)) in
    let same : g.A.Allocator.charged_of c.drop_leaf-value.new.self.allocator ≡ g.A.Allocator.charged_of c.args.self.now.allocator = ap g.A.Allocator.charged_of c.drop_leaf-value.ensures.drops.allocator in
    let bytes = c.drop_leaf-value.ensures.drops.bytes in
    let cover = c.requires.covered in
    omega (arith, size, same, bytes, cover)

pub deallocate-requires-2 : goal.deallocate-requires-2
deallocate-requires-2 g c =
    let s = c.args.self.now.nodes in
    let l = node_at s c.args.at c.requires.way.stands in
    let n = node_at s c.args.above c.requires.hangs.way.stands in
    let r = lift_ready s c.drop_leaf-value.new.self.nodes c.args.key.now c.args.top c.args.above c.args.at c.requires.tree c.requires.hangs c.requires.higher c.drop_leaf-value.ensures.above c.byte_at-up.result c.drop_leaf-value.ensures.drops.tree c.byte_at-up.ensures c.requires.two in
    let size : c.size-leaf.result ≡ size_by (heap_of s c.args.at).capacity = c.size-leaf.ensures ∙ (ap size_of (c.node_type.ensures l.0 l.1) ∙ sym (seen_size s c.args.at l.0 l.1)) in
    let node : c.size-node.result ≡ size_of (form_of n.0) = c.size-node.ensures ∙ ap size_of (c.node_type-2.ensures n.0 n.1) in
    let lower = lifted_size s c.drop_leaf-value.new.self.nodes c.args.key.now c.args.top c.args.above c.args.at c.requires.tree c.requires.hangs c.requires.higher c.drop_leaf-value.ensures.above c.byte_at-up.result r n.0 n.1 in
    let lifted = c.lift.ensures.bytes r in
    let same : g.A.Allocator.charged_of c.drop_leaf-value.new.self.allocator ≡ g.A.Allocator.charged_of c.args.self.now.allocator = ap g.A.Allocator.charged_of c.drop_leaf-value.ensures.drops.allocator in
    let bytes = c.drop_leaf-value.ensures.drops.bytes in
    let cover = c.requires.covered in
    let off = c.deallocate.ensures.charged in
    omega (arith, size, node, lower, lifted, same, bytes, cover, off)

pub returns : goal.returns
returns g c =
    let s = c.args.self.now.nodes in
    let mid = c.drop_leaf-value.new.self.nodes in
    let len : length c.args.key.now ≡ 8 = search rules in
    let d = c.drop_leaf-value.ensures.drops in
    let l = node_at s c.args.at c.requires.way.stands in
    let n = node_at s c.args.above c.requires.hangs.way.stands in
    let r = lift_ready s mid c.args.key.now c.args.top c.args.above c.args.at c.requires.tree c.requires.hangs c.requires.higher c.drop_leaf-value.ensures.above c.byte_at-up.result d.tree c.byte_at-up.ensures c.requires.two in
    let m = moved_up mid c.lift.new.self c.args.top c.byte_at-up.result c.args.above d.tree r (c.lift.ensures.lifts r) in
    let size : c.size-leaf.result ≡ size_by (heap_of s c.args.at).capacity = c.size-leaf.ensures ∙ (ap size_of (c.node_type.ensures l.0 l.1) ∙ sym (seen_size s c.args.at l.0 l.1)) in
    let node : c.size-node.result ≡ size_of (form_of n.0) = c.size-node.ensures ∙ ap size_of (c.node_type-2.ensures n.0 n.1) in
    let upper : size_by (heap_of s c.args.above).capacity ≡ size_of (form_of n.0) = seen_size s c.args.above n.0 n.1 in
    let lower = lifted_size s mid c.args.key.now c.args.top c.args.above c.args.at c.requires.tree c.requires.hangs c.requires.higher c.drop_leaf-value.ensures.above c.byte_at-up.result r n.0 n.1 in
    let lifted = c.lift.ensures.bytes r in
    let same : g.A.Allocator.charged_of c.drop_leaf-value.new.self.allocator ≡ g.A.Allocator.charged_of c.args.self.now.allocator = ap g.A.Allocator.charged_of d.allocator in
    let bytes = d.bytes in
    let off = c.deallocate.ensures.charged in
    let off_2 = c.deallocate-2.ensures.charged in
    let two = going_two (heap_of s c.args.at) (heap_of s c.args.above) c.args.above (hung_not_root s c.args.key.now c.args.top c.args.above c.requires.tree c.requires.higher) (seen_count s c.args.above n.0 n.1 ∙ c.requires.two n.0 n.1) in
    let gone : bytes_of c.lift.new.self + (size_by (heap_of s c.args.at).capacity + size_by (heap_of s c.args.above).capacity) ≡ bytes_of s = omega (arith, upper, lower, lifted, bytes) in
    record {
      edits = record {
        tree = m.tree;
        change = kept_change s mid c.lift.new.self c.args.key.now _ _ len d.change m;
        balance = omega (arith, size, node, upper, lower, lifted, same, bytes, off, off_2);
        same_limit = c.deallocate-2.ensures.limit ∙ (c.deallocate.ensures.limit ∙ ap g.A.Allocator.limit_of d.allocator);
      };
      bytes = subst (λ z. Went (g.A.Allocator.charged_of c.args.self.now.allocator) (g.A.Allocator.limit_of c.args.self.now.allocator) (bytes_of s) (bytes_of c.lift.new.self) (Some z)) (sym two) gone;
      filled = λ by_form h _. lifted_filled by_form mid c.lift.new.self c.args.top c.byte_at-up.result c.args.above d.tree r (c.lift.ensures.lifts r)
          (lost_others by_form s mid c.args.key.now c.args.above c.args.at c.drop_leaf-value.ensures.above h);
    }
