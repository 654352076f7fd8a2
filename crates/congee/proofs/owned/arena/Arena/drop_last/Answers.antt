use Rattle.std.proofs.Common.{◌≡◌, sym, ap, subst, ◌∙◌, arith}
use Rattle.congee.specs.forms.Forms.{size_of}
use Rattle.congee.specs.owned.Arena.{Hangs, heap_of}
use Rattle.congee.specs.owned.Wanted.{size_by}
use Rattle.congee.proofs.lemmas.owned.FullSteps.{lost_others}
use Rattle.congee.proofs.lemmas.owned.Moves.{node_at}
use Rattle.congee.proofs.lemmas.owned.Removing.{seen_size}
use Rattle.congee.proofs.owned.arena.Arena.drop_last.Goals as goal

pub drop_leaf-value-requires-clause-hangs : goal.drop_leaf-value-requires-clause-hangs
drop_leaf-value-requires-clause-hangs g c = subst (λ z. Hangs c.args.self.now.nodes c.args.key.now z c.args.at) (sym c.root.ensures) c.requires.hangs

pub deallocate-requires : goal.deallocate-requires
deallocate-requires g c =
    let l = node_at c.args.self.now.nodes c.args.at c.requires.way.stands in
    let size : c.size-leaf.result ≡ size_by (heap_of c.args.self.now.nodes c.args.at).capacity = c.size-leaf.ensures ∙ (ap size_of (c.node_type.ensures l.0 l.1) ∙ sym (seen_size c.args.self.now.nodes c.args.at l.0 l.1)) in
    let same : g.A.Allocator.charged_of c.drop_leaf-value.new.self.allocator ≡ g.A.Allocator.charged_of c.args.self.now.allocator = ap g.A.Allocator.charged_of c.drop_leaf-value.ensures.drops.allocator in
    let bytes = c.drop_leaf-value.ensures.drops.bytes in
    let cover = c.requires.covered in
    omega (arith, size, same, bytes, cover)

pub returns : goal.returns
returns g c =
    let l = node_at c.args.self.now.nodes c.args.at c.requires.way.stands in
    let size : c.size-leaf.result ≡ size_by (heap_of c.args.self.now.nodes c.args.at).capacity = c.size-leaf.ensures ∙ (ap size_of (c.node_type.ensures l.0 l.1) ∙ sym (seen_size c.args.self.now.nodes c.args.at l.0 l.1)) in
    let d = c.drop_leaf-value.ensures.drops in
    let same : g.A.Allocator.charged_of c.drop_leaf-value.new.self.allocator ≡ g.A.Allocator.charged_of c.args.self.now.allocator = ap g.A.Allocator.charged_of d.allocator in
    let bytes = d.bytes in
    let off = c.deallocate.ensures.charged in
    record {
      edits = record {
        tree = d.tree;
        change = d.change;
        balance = omega (arith, size, same, bytes, off);
        same_limit = c.deallocate.ensures.limit ∙ ap g.A.Allocator.limit_of d.allocator;
      };
      bytes = bytes;
      filled = λ by_form h _ n x ne e. lost_others by_form c.args.self.now.nodes c.drop_leaf-value.new.self.nodes c.args.key.now c.root.result c.args.at c.drop_leaf-value.ensures.above h n x ne (λ q. ne (q ∙ c.root.ensures)) e;
    }
