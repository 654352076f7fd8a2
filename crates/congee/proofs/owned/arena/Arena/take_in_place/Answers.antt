use Rattle.std.proofs.Common.{rules, ◌≡◌, ◌+◌, ◌-◌, length, refl, sym, ap, subst, ◌∙◌, arith}
use Rattle.std.specs.FinMap as map
use Rattle.congee.specs.forms.Forms.{children_of, form_of, prefix_of}
use Rattle.congee.specs.owned.Going.{GaveWay, lesser_if}
use Rattle.congee.specs.owned.Sizes.{bytes_of}
use Rattle.congee.specs.declared.forms.child.Child.TheVariants.{Value}
use Rattle.congee.proofs.lemmas.owned.FullSteps.{less_enough}
use Rattle.congee.proofs.lemmas.owned.Fulls.{filled_but, others_filled}
use Rattle.congee.proofs.lemmas.owned.Hangings.{held_value}
use Rattle.congee.proofs.lemmas.owned.Moves.{node_at, prefix_at, taken, held_seven}
use Rattle.congee.proofs.lemmas.owned.Removing.{leaf_not_root, len_fewer, lesser_read}
use Rattle.congee.proofs.owned.arena.Arena.take_in_place.Goals as goal

pub take_value-requires-clause-present : goal.take_value-requires-clause-present
take_value-requires-clause-present g c = held_value c.args.self.now.nodes c.args.key.now c.args.at c.byte_at-byte.result c.requires.held c.byte_at-byte.ensures

pub returns : goal.returns
returns g c =
    let s = c.args.self.now.nodes in
    let after = c.take_value.new.self in
    let len : length c.args.key.now ≡ 8 = search rules in
    let l = node_at s c.args.at c.requires.way.stands in
    let F = form_of l.0 in
    let n = map.len (children_of l.0) in
    let r = taken s after c.args.key.now c.args.at c.byte_at-byte.result c.take_value.result len c.requires.tree c.requires.way c.requires.held c.requires.others c.byte_at-byte.ensures c.take_value.ensures.was c.take_value.ensures.takes in
    let bytes = r.1 in
    let stays = c.requires.stays l.0 l.1 in
    let same : bytes_of after + 0 ≡ bytes_of s = omega (arith, bytes) in
    record {
      edits = record { tree = r.0.0; change = r.0.1; balance = omega (arith, bytes); same_limit = refl };
      bytes = subst (λ z. GaveWay (g.A.Allocator.charged_of c.args.self.now.allocator) (g.A.Allocator.limit_of c.args.self.now.allocator) (bytes_of s) (bytes_of after) 0 z)
          (sym (lesser_read s c.args.at l.0 F n l.1 refl refl ∙ ap (λ b. lesser_if b F) stays)) same;
      filled = λ by_form h _.
          let k = c.take_value.ensures.takes l.0 l.1 in
          let enough = h c.args.at l.0 (leaf_not_root s c.args.at c.requires.tree (held_seven s c.args.key.now c.args.at c.requires.tree c.requires.way c.requires.held)) l.1 in
          let there = sym (c.take_value.ensures.was l.0 l.1) in
          let others = c.requires.others l.0 l.1 in
          let less : map.len (children_of k.node) ≡ n - 1 = ap map.len k.becomes.children ∙ len_fewer (children_of l.0) c.byte_at-byte.result (Value c.take_value.result) there in
          let some = enough.some in
          let seven : length (prefix_of l.0) ≡ 7 = ap length (sym (prefix_at s c.args.at l.0 l.1)) ∙ held_seven s c.args.key.now c.args.at c.requires.tree c.requires.way c.requires.held in
          let spare = less_enough by_form l.0 k.node k.becomes.form k.becomes.prefix (omega (arith, less, some)) (omega (arith, less, some, others)) (λ inner. absurd (omega (arith, inner, seven))) enough (λ _. stays) in
          filled_but by_form s after c.args.at k.node (others_filled by_form s c.args.at h) (λ _. spare) k.updates.changed k.updates.others;
    }
