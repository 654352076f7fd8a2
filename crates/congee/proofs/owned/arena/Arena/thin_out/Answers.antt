use Rattle.std.proofs.Common.{rules, ◌≡◌, ◌+◌, ℕ, true, false, length, refl, sym, ap, subst, ◌∙◌, arith}
use Rattle.congee.specs.forms.Forms.{form_of, size_of}
use Rattle.congee.specs.owned.Arena.{heap_of}
use Rattle.congee.specs.owned.Full.{NoneSkipped}
use Rattle.congee.specs.owned.Going.{GaveWay, Went}
use Rattle.congee.specs.owned.Sizes.{bytes_of}
use Rattle.congee.specs.owned.Wanted.{size_by}
use Rattle.congee.specs.protocol.Steps.{form_below, shrinks}
use Rattle.std.specs.Prelude.{Some}
use Rattle.congee.proofs.lemmas.owned.FullSteps.{came_then, less_enough, lesser_enough, lost_others, none_wanted, read_came, read_shrinks}
use Rattle.congee.proofs.lemmas.owned.Fulls.{filled_but}
use Rattle.congee.proofs.lemmas.owned.Hangings.{above_inner}
use Rattle.congee.proofs.lemmas.owned.Moves.{node_at, stands_at}
use Rattle.congee.proofs.lemmas.owned.Removing.{LessensBy, charges_false, charges_more, charges_true, fewer, gave_balance, gave_way, going_more, kept_change, lesser_read, ready_covered, ready_greater, ready_room, seen_count, seen_size, stayed}
use Rattle.congee.proofs.owned.arena.Arena.thin_out.Goals as goal

pub deallocate-requires : goal.deallocate-requires
deallocate-requires g c =
    let l = node_at c.args.self.now.nodes c.args.at c.requires.way.stands in
    let size : c.size-leaf.result ≡ size_by (heap_of c.args.self.now.nodes c.args.at).capacity = c.size-leaf.ensures ∙ (ap size_of (c.node_type.ensures l.0 l.1) ∙ sym (seen_size c.args.self.now.nodes c.args.at l.0 l.1)) in
    let same : g.A.Allocator.charged_of c.drop_leaf-value.new.self.allocator ≡ g.A.Allocator.charged_of c.charges_lesser-lesser.new.allocator = ap g.A.Allocator.charged_of c.drop_leaf-value.ensures.drops.allocator in
    let more = charges_more g.A.Allocator.charged_of g.A.Allocator.limit_of c.args.self.now.allocator c.charges_lesser-lesser.new.allocator (shrinks c.node_type-form.result c.len.result) c.node_type-form.result c.charges_lesser-lesser.result c.charges_lesser-lesser.ensures in
    let bytes = c.drop_leaf-value.ensures.drops.bytes in
    let cover = c.requires.covered in
    omega (arith, size, same, more, bytes, cover)

pub lessen-requires-clause-tree : goal.lessen-requires-clause-tree
lessen-requires-clause-tree g c = c.drop_leaf-value.ensures.drops.tree

pub lessen-requires-clause-stands : goal.lessen-requires-clause-stands
lessen-requires-clause-stands g c = stands_at c.drop_leaf-value.new.self.nodes c.args.above c.drop_leaf-value.ensures.above.new c.drop_leaf-value.ensures.above.now

pub lessen-requires-clause-greater : goal.lessen-requires-clause-greater
lessen-requires-clause-greater g c =
    let is : c.charges_lesser-lesser.result ≡ true = search rules in
    let k = c.drop_leaf-value.ensures.above in
    let less = fewer c.args.self.now.nodes c.drop_leaf-value.new.self.nodes c.args.key.now c.args.above c.args.at c.requires.tree c.requires.hangs k in
    ready_greater g.A.Allocator.charged_of g.A.Allocator.limit_of c.args.self.now.allocator c.charges_lesser-lesser.new.allocator c.drop_leaf-value.new.self.nodes c.args.above k.old k.new c.node_type-form.result c.len.result c.charges_lesser-lesser.result is (c.node_type-form.ensures k.old k.was) (c.len.ensures.count k.old k.was) k.now k.becomes.form (omega (arith, less)) c.charges_lesser-lesser.ensures

pub lessen-requires-clause-room : goal.lessen-requires-clause-room
lessen-requires-clause-room g c =
    let is : c.charges_lesser-lesser.result ≡ true = search rules in
    let k = c.drop_leaf-value.ensures.above in
    let less = fewer c.args.self.now.nodes c.drop_leaf-value.new.self.nodes c.args.key.now c.args.above c.args.at c.requires.tree c.requires.hangs k in
    ready_room g.A.Allocator.charged_of g.A.Allocator.limit_of c.args.self.now.allocator c.charges_lesser-lesser.new.allocator c.drop_leaf-value.new.self.nodes c.args.above k.old k.new c.node_type-form.result c.len.result c.charges_lesser-lesser.result is (c.node_type-form.ensures k.old k.was) (c.len.ensures.count k.old k.was) k.now k.becomes.form (omega (arith, less)) c.charges_lesser-lesser.ensures

pub lessen-requires-clause-covered : goal.lessen-requires-clause-covered
lessen-requires-clause-covered g c =
    let is : c.charges_lesser-lesser.result ≡ true = search rules in
    let k = c.drop_leaf-value.ensures.above in
    let less = fewer c.args.self.now.nodes c.drop_leaf-value.new.self.nodes c.args.key.now c.args.above c.args.at c.requires.tree c.requires.hangs k in
    let l = node_at c.args.self.now.nodes c.args.at c.requires.way.stands in
    let size : c.size-leaf.result ≡ size_by (heap_of c.args.self.now.nodes c.args.at).capacity = c.size-leaf.ensures ∙ (ap size_of (c.node_type.ensures l.0 l.1) ∙ sym (seen_size c.args.self.now.nodes c.args.at l.0 l.1)) in
    let same : g.A.Allocator.charged_of c.drop_leaf-value.new.self.allocator ≡ g.A.Allocator.charged_of c.charges_lesser-lesser.new.allocator = ap g.A.Allocator.charged_of c.drop_leaf-value.ensures.drops.allocator in
    let bytes = c.drop_leaf-value.ensures.drops.bytes in
    let cover = c.requires.covered in
    let off = c.deallocate.ensures.charged in
    ready_covered g.A.Allocator.charged_of g.A.Allocator.limit_of c.args.self.now.allocator c.charges_lesser-lesser.new.allocator c.drop_leaf-value.new.self.nodes c.args.above k.old k.new c.node_type-form.result c.len.result c.charges_lesser-lesser.result is (c.node_type-form.ensures k.old k.was) (c.len.ensures.count k.old k.was) k.now k.becomes.form (omega (arith, less)) c.charges_lesser-lesser.ensures
    _ c.size-leaf.result (omega (arith, off, same)) (omega (arith, size, bytes, cover))

pub returns-then-lesser : goal.returns-then-lesser
returns-then-lesser g c =
    let s = c.args.self.now.nodes in
    let F = c.node_type-form.result in
    let n = c.len.result in
    let is : c.charges_lesser-lesser.result ≡ true = search rules in
    let len : length c.args.key.now ≡ 8 = search rules in
    let k = c.drop_leaf-value.ensures.above in
    let d = c.drop_leaf-value.ensures.drops in
    let l = node_at s c.args.at c.requires.way.stands in
    let gone : ℕ = size_by (heap_of s c.args.at).capacity in
    let size : c.size-leaf.result ≡ gone = c.size-leaf.ensures ∙ (ap size_of (c.node_type.ensures l.0 l.1) ∙ sym (seen_size s c.args.at l.0 l.1)) in
    let same : g.A.Allocator.charged_of c.drop_leaf-value.new.self.allocator ≡ g.A.Allocator.charged_of c.charges_lesser-lesser.new.allocator = ap g.A.Allocator.charged_of d.allocator in
    let off = c.deallocate.ensures.charged in
    let form : form_of k.new ≡ F = k.becomes.form ∙ sym (c.node_type-form.ensures k.old k.was) in
    let lessens = subst (λ f. LessensBy (g.A.Allocator.charged_of c.deallocate.new.self) (bytes_of c.drop_leaf-value.new.self.nodes) (g.A.Allocator.charged_of c.lessen.new.self.allocator) (bytes_of c.lessen.new.self.nodes) f) form (c.lessen.ensures.lessens k.new k.now) in
    let way = gave_way g.A.Allocator.charged_of g.A.Allocator.limit_of c.args.self.now.allocator c.charges_lesser-lesser.new.allocator (g.A.Allocator.charged_of c.deallocate.new.self) (bytes_of c.drop_leaf-value.new.self.nodes) (g.A.Allocator.charged_of c.lessen.new.self.allocator) (bytes_of c.lessen.new.self.nodes) (shrinks F n) F c.charges_lesser-lesser.result (bytes_of s) gone is c.charges_lesser-lesser.ensures d.bytes lessens in
    let more_going = going_more (heap_of s c.args.at) (heap_of s c.args.above) c.args.above c.requires.inner (λ e. c.requires.more k.old k.was (sym (seen_count s c.args.above k.old k.was) ∙ e)) in
    record {
      edits = record {
        tree = c.lessen.ensures.same.tree;
        change = kept_change s c.drop_leaf-value.new.self.nodes c.lessen.new.self.nodes c.args.key.now _ _ len d.change c.lessen.ensures.same;
        balance = gave_balance g.A.Allocator.charged_of g.A.Allocator.limit_of c.args.self.now.allocator c.charges_lesser-lesser.new.allocator (g.A.Allocator.charged_of c.deallocate.new.self) (bytes_of c.drop_leaf-value.new.self.nodes) (g.A.Allocator.charged_of c.lessen.new.self.allocator) (bytes_of c.lessen.new.self.nodes) (shrinks F n) F c.charges_lesser-lesser.result (bytes_of s) gone is c.charges_lesser-lesser.ensures (omega (arith, off, same, size)) d.bytes lessens;
        same_limit = c.lessen.ensures.limit ∙ (c.deallocate.ensures.limit ∙ (ap g.A.Allocator.limit_of d.allocator ∙ c.charges_lesser-lesser.ensures.same_limit));
      };
      bytes = subst (λ z. Went (g.A.Allocator.charged_of c.args.self.now.allocator) (g.A.Allocator.limit_of c.args.self.now.allocator) (bytes_of s) (bytes_of c.lessen.new.self.nodes) (Some z)) (sym more_going)
          (subst (λ z. GaveWay (g.A.Allocator.charged_of c.args.self.now.allocator) (g.A.Allocator.limit_of c.args.self.now.allocator) (bytes_of s) (bytes_of c.lessen.new.self.nodes) gone z)
          (sym (lesser_read s c.args.above k.old F n k.was (c.node_type-form.ensures k.old k.was) (c.len.ensures.count k.old k.was))) way);
      filled = λ by_form h none.
          let enough = h c.args.above k.old c.requires.inner k.was in
          let less = fewer s c.drop_leaf-value.new.self.nodes c.args.key.now c.args.above c.args.at c.requires.tree c.requires.hangs k in
          let more = c.requires.more k.old k.was in
          let inner = above_inner s c.requires.tree c.args.key.now c.args.above c.args.at c.requires.hangs.way.stands c.requires.hangs.child k.old k.was in
          let two = enough.branches inner in
          let lacks = lesser_enough by_form k.old k.new k.becomes.form k.becomes.prefix (omega (arith, less, two)) (omega (arith, less, two)) (λ _. more) enough in
          let small = (charges_true g.A.Allocator.charged_of g.A.Allocator.limit_of c.args.self.now.allocator c.charges_lesser-lesser.new.allocator (shrinks F n) F c.charges_lesser-lesser.result is c.charges_lesser-lesser.ensures).0 in
          let bytes = d.bytes in
          c.lessen.ensures.filled by_form k.new k.now (lost_others by_form s c.drop_leaf-value.new.self.nodes c.args.key.now c.args.above c.args.at k h) lacks
          (λ asked.
          let came = came_then F n (bytes_of s) (bytes_of c.lessen.new.self.nodes) gone small (read_came s c.args.above k.old F n k.was (c.node_type-form.ensures k.old k.was) (c.len.ensures.count k.old k.was) (bytes_of s) (bytes_of c.lessen.new.self.nodes) gone (subst (λ z. NoneSkipped (bytes_of s) (bytes_of c.lessen.new.self.nodes) (Some z)) more_going (none asked))) in
          let moved : bytes_of c.lessen.new.self.nodes + size_of F ≡ bytes_of c.drop_leaf-value.new.self.nodes + size_of (form_below F) = omega (arith, came, bytes) in
          subst (λ f. bytes_of c.lessen.new.self.nodes + size_of f ≡ bytes_of c.drop_leaf-value.new.self.nodes + size_of (form_below f)) (sym form) moved);
    }

pub returns-else-lesser : goal.returns-else-lesser
returns-else-lesser g c =
    let s = c.args.self.now.nodes in
    let F = c.node_type-form.result in
    let n = c.len.result in
    let no : c.charges_lesser-lesser.result ≡ false = search rules in
    let k = c.drop_leaf-value.ensures.above in
    let d = c.drop_leaf-value.ensures.drops in
    let l = node_at s c.args.at c.requires.way.stands in
    let gone : ℕ = size_by (heap_of s c.args.at).capacity in
    let size : c.size-leaf.result ≡ gone = c.size-leaf.ensures ∙ (ap size_of (c.node_type.ensures l.0 l.1) ∙ sym (seen_size s c.args.at l.0 l.1)) in
    let same : g.A.Allocator.charged_of c.drop_leaf-value.new.self.allocator ≡ g.A.Allocator.charged_of c.charges_lesser-lesser.new.allocator = ap g.A.Allocator.charged_of d.allocator in
    let none = charges_false g.A.Allocator.charged_of g.A.Allocator.limit_of c.args.self.now.allocator c.charges_lesser-lesser.new.allocator (shrinks F n) F c.charges_lesser-lesser.result no c.charges_lesser-lesser.ensures in
    let off = c.deallocate.ensures.charged in
    let bytes = d.bytes in
    let more_going = going_more (heap_of s c.args.at) (heap_of s c.args.above) c.args.above c.requires.inner (λ e. c.requires.more k.old k.was (sym (seen_count s c.args.above k.old k.was) ∙ e)) in
    record {
      edits = record {
        tree = d.tree;
        change = d.change;
        balance = omega (arith, size, same, none, off, bytes);
        same_limit = c.deallocate.ensures.limit ∙ (ap g.A.Allocator.limit_of d.allocator ∙ c.charges_lesser-lesser.ensures.same_limit);
      };
      bytes = subst (λ z. Went (g.A.Allocator.charged_of c.args.self.now.allocator) (g.A.Allocator.limit_of c.args.self.now.allocator) (bytes_of s) (bytes_of c.drop_leaf-value.new.self.nodes) (Some z)) (sym more_going)
          (subst (λ z. GaveWay (g.A.Allocator.charged_of c.args.self.now.allocator) (g.A.Allocator.limit_of c.args.self.now.allocator) (bytes_of s) (bytes_of c.drop_leaf-value.new.self.nodes) gone z)
          (sym (lesser_read s c.args.above k.old F n k.was (c.node_type-form.ensures k.old k.was) (c.len.ensures.count k.old k.was)))
          (stayed g.A.Allocator.charged_of g.A.Allocator.limit_of c.args.self.now.allocator c.charges_lesser-lesser.new.allocator (shrinks F n) F c.charges_lesser-lesser.result (bytes_of s) (bytes_of c.drop_leaf-value.new.self.nodes) gone no c.charges_lesser-lesser.ensures bytes));
      filled = λ by_form h none.
          let enough = h c.args.above k.old c.requires.inner k.was in
          let less = fewer s c.drop_leaf-value.new.self.nodes c.args.key.now c.args.above c.args.at c.requires.tree c.requires.hangs k in
          let more = c.requires.more k.old k.was in
          let inner = above_inner s c.requires.tree c.args.key.now c.args.above c.args.at c.requires.hangs.way.stands c.requires.hangs.child k.old k.was in
          let two = enough.branches inner in
          let not_small = λ (asked : by_form ≡ true). none_wanted F n (bytes_of s) (bytes_of c.drop_leaf-value.new.self.nodes) gone bytes (read_came s c.args.above k.old F n k.was (c.node_type-form.ensures k.old k.was) (c.len.ensures.count k.old k.was) (bytes_of s) (bytes_of c.drop_leaf-value.new.self.nodes) gone (subst (λ z. NoneSkipped (bytes_of s) (bytes_of c.drop_leaf-value.new.self.nodes) (Some z)) more_going (none asked))) in
          let spare = less_enough by_form k.old k.new k.becomes.form k.becomes.prefix (omega (arith, less, two)) (omega (arith, less, two)) (λ _. more) enough (λ asked. read_shrinks k.old F n (c.node_type-form.ensures k.old k.was) (c.len.ensures.count k.old k.was) (not_small asked)) in
          filled_but by_form c.drop_leaf-value.new.self.nodes c.drop_leaf-value.new.self.nodes c.args.above k.new (lost_others by_form s c.drop_leaf-value.new.self.nodes c.args.key.now c.args.above c.args.at k h) (λ _. spare) k.now (λ m ne. refl);
    }
