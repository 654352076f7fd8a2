use Rattle.std.proofs.Common.{rules, ◌≡◌, ◌+◌, ◌-◌, true, false, length, sym, ap, subst, ◌∙◌, arith}
use Rattle.std.specs.FinMap as map
use Rattle.congee.specs.forms.Forms.{children_of, form_of, prefix_of, size_of}
use Rattle.congee.specs.owned.Going.{GaveWay}
use Rattle.congee.specs.owned.Sizes.{bytes_of}
use Rattle.congee.specs.protocol.Steps.{form_below, shrinks}
use Rattle.congee.specs.declared.forms.child.Child.TheVariants.{Value}
use Rattle.congee.proofs.lemmas.owned.FullSteps.{came_then, less_enough, lesser_enough, none_wanted, read_came, read_shrinks}
use Rattle.congee.proofs.lemmas.owned.Fulls.{filled_but, others_filled}
use Rattle.congee.proofs.lemmas.owned.Hangings.{held_value, taken_hangs, taken_prefix}
use Rattle.congee.proofs.lemmas.owned.Moves.{node_at, prefix_at, taken, held_seven, stands_at}
use Rattle.congee.proofs.lemmas.owned.Removing.{LessensBy, charges_false, charges_true, gave_balance, gave_way, kept_change, leaf_not_root, len_fewer, len_left, lesser_read, ready_covered, ready_greater, ready_room, stayed}
use Rattle.congee.proofs.lemmas.owned.Renaming.{renamed_change}
use Rattle.congee.proofs.owned.arena.Arena.take_value.Goals as goal

pub take_value-value-requires-clause-present : goal.take_value-value-requires-clause-present
take_value-value-requires-clause-present g c = held_value c.args.self.now.nodes c.args.key.now c.args.at c.byte_at-byte.result c.requires.held c.byte_at-byte.ensures

pub lessen-requires-clause-tree : goal.lessen-requires-clause-tree
lessen-requires-clause-tree g c =
    let len : length c.args.key.now ≡ 8 = search rules in
    (taken c.args.self.now.nodes c.take_value-value.new.self c.args.key.now c.args.at c.byte_at-byte.result c.take_value-value.result len c.requires.tree c.requires.way c.requires.held c.requires.others c.byte_at-byte.ensures c.take_value-value.ensures.was c.take_value-value.ensures.takes).0.0

pub lessen-requires-clause-stands : goal.lessen-requires-clause-stands
lessen-requires-clause-stands g c =
    let l = node_at c.args.self.now.nodes c.args.at c.requires.way.stands in
    let k = c.take_value-value.ensures.takes l.0 l.1 in
    stands_at c.take_value-value.new.self c.args.at k.node k.updates.changed

pub lessen-requires-clause-below : goal.lessen-requires-clause-below
lessen-requires-clause-below g c = leaf_not_root c.args.self.now.nodes c.args.at c.requires.tree (held_seven c.args.self.now.nodes c.args.key.now c.args.at c.requires.tree c.requires.way c.requires.held)

pub lessen-requires-clause-greater : goal.lessen-requires-clause-greater
lessen-requires-clause-greater g c =
    let is : c.charges_lesser-lesser.result ≡ true = search rules in
    let l = node_at c.args.self.now.nodes c.args.at c.requires.way.stands in
    let k = c.take_value-value.ensures.takes l.0 l.1 in
    let fewer = len_left (children_of l.0) c.byte_at-byte.result in
    ready_greater g.A.Allocator.charged_of g.A.Allocator.limit_of c.args.self.now.allocator c.charges_lesser-lesser.new.allocator c.take_value-value.new.self c.args.at l.0 k.node c.node_type-form.result c.len.result c.charges_lesser-lesser.result is (c.node_type-form.ensures l.0 l.1) (c.len.ensures.count l.0 l.1) k.updates.changed k.becomes.form (let e : map.len (children_of k.node) ≡ map.len (map.remove (children_of l.0) c.byte_at-byte.result) = ap map.len k.becomes.children in omega (arith, e, fewer)) c.charges_lesser-lesser.ensures

pub lessen-requires-clause-room : goal.lessen-requires-clause-room
lessen-requires-clause-room g c =
    let is : c.charges_lesser-lesser.result ≡ true = search rules in
    let l = node_at c.args.self.now.nodes c.args.at c.requires.way.stands in
    let k = c.take_value-value.ensures.takes l.0 l.1 in
    let fewer = len_left (children_of l.0) c.byte_at-byte.result in
    ready_room g.A.Allocator.charged_of g.A.Allocator.limit_of c.args.self.now.allocator c.charges_lesser-lesser.new.allocator c.take_value-value.new.self c.args.at l.0 k.node c.node_type-form.result c.len.result c.charges_lesser-lesser.result is (c.node_type-form.ensures l.0 l.1) (c.len.ensures.count l.0 l.1) k.updates.changed k.becomes.form (let e : map.len (children_of k.node) ≡ map.len (map.remove (children_of l.0) c.byte_at-byte.result) = ap map.len k.becomes.children in omega (arith, e, fewer)) c.charges_lesser-lesser.ensures

pub lessen-requires-clause-covered : goal.lessen-requires-clause-covered
lessen-requires-clause-covered g c =
    let is : c.charges_lesser-lesser.result ≡ true = search rules in
    let len : length c.args.key.now ≡ 8 = search rules in
    let l = node_at c.args.self.now.nodes c.args.at c.requires.way.stands in
    let k = c.take_value-value.ensures.takes l.0 l.1 in
    let fewer = len_left (children_of l.0) c.byte_at-byte.result in
    let bytes = (taken c.args.self.now.nodes c.take_value-value.new.self c.args.key.now c.args.at c.byte_at-byte.result c.take_value-value.result len c.requires.tree c.requires.way c.requires.held c.requires.others c.byte_at-byte.ensures c.take_value-value.ensures.was c.take_value-value.ensures.takes).1 in
    let cover = c.requires.covered in
    ready_covered g.A.Allocator.charged_of g.A.Allocator.limit_of c.args.self.now.allocator c.charges_lesser-lesser.new.allocator c.take_value-value.new.self c.args.at l.0 k.node c.node_type-form.result c.len.result c.charges_lesser-lesser.result is (c.node_type-form.ensures l.0 l.1) (c.len.ensures.count l.0 l.1) k.updates.changed k.becomes.form (let e : map.len (children_of k.node) ≡ map.len (map.remove (children_of l.0) c.byte_at-byte.result) = ap map.len k.becomes.children in omega (arith, e, fewer)) c.charges_lesser-lesser.ensures
    (g.A.Allocator.charged_of c.charges_lesser-lesser.new.allocator) 0 (omega arith) (omega (arith, bytes, cover))

pub returns-then-lesser : goal.returns-then-lesser
returns-then-lesser g c =
    let s = c.args.self.now.nodes in
    let F = c.node_type-form.result in
    let n = c.len.result in
    let is : c.charges_lesser-lesser.result ≡ true = search rules in
    let len : length c.args.key.now ≡ 8 = search rules in
    let l = node_at s c.args.at c.requires.way.stands in
    let k = c.take_value-value.ensures.takes l.0 l.1 in
    let r = taken s c.take_value-value.new.self c.args.key.now c.args.at c.byte_at-byte.result c.take_value-value.result len c.requires.tree c.requires.way c.requires.held c.requires.others c.byte_at-byte.ensures c.take_value-value.ensures.was c.take_value-value.ensures.takes in
    let form : form_of k.node ≡ F = k.becomes.form ∙ sym (c.node_type-form.ensures l.0 l.1) in
    let lessens = subst (λ f. LessensBy (g.A.Allocator.charged_of c.charges_lesser-lesser.new.allocator) (bytes_of c.take_value-value.new.self) (g.A.Allocator.charged_of c.lessen.new.self.allocator) (bytes_of c.lessen.new.self.nodes) f) form (c.lessen.ensures.lessens k.node k.updates.changed) in
    let bytes = r.1 in
    let way = gave_way g.A.Allocator.charged_of g.A.Allocator.limit_of c.args.self.now.allocator c.charges_lesser-lesser.new.allocator (g.A.Allocator.charged_of c.charges_lesser-lesser.new.allocator) (bytes_of c.take_value-value.new.self) (g.A.Allocator.charged_of c.lessen.new.self.allocator) (bytes_of c.lessen.new.self.nodes) (shrinks F n) F c.charges_lesser-lesser.result (bytes_of s) 0 is c.charges_lesser-lesser.ensures (omega (arith, bytes)) lessens in
    record {
      edits = record {
        tree = c.lessen.ensures.same.tree;
        change = kept_change s c.take_value-value.new.self c.lessen.new.self.nodes c.args.key.now _ _ len r.0.1 c.lessen.ensures.same;
        balance = gave_balance g.A.Allocator.charged_of g.A.Allocator.limit_of c.args.self.now.allocator c.charges_lesser-lesser.new.allocator (g.A.Allocator.charged_of c.charges_lesser-lesser.new.allocator) (bytes_of c.take_value-value.new.self) (g.A.Allocator.charged_of c.lessen.new.self.allocator) (bytes_of c.lessen.new.self.nodes) (shrinks F n) F c.charges_lesser-lesser.result (bytes_of s) 0 is c.charges_lesser-lesser.ensures (omega arith) (omega (arith, bytes)) lessens;
        same_limit = c.lessen.ensures.limit ∙ c.charges_lesser-lesser.ensures.same_limit;
      };
      bytes = subst (λ z. GaveWay (g.A.Allocator.charged_of c.args.self.now.allocator) (g.A.Allocator.limit_of c.args.self.now.allocator) (bytes_of s) (bytes_of c.lessen.new.self.nodes) 0 z)
          (sym (lesser_read s c.args.at l.0 F n l.1 (c.node_type-form.ensures l.0 l.1) (c.len.ensures.count l.0 l.1))) way;
      filled = λ by_form h none.
          let enough = h c.args.at l.0 (leaf_not_root s c.args.at c.requires.tree (held_seven s c.args.key.now c.args.at c.requires.tree c.requires.way c.requires.held)) l.1 in
          let there = sym (c.take_value-value.ensures.was l.0 l.1) in
          let others = c.requires.others l.0 l.1 in
          let less : map.len (children_of k.node) ≡ map.len (children_of l.0) - 1 = ap map.len k.becomes.children ∙ len_fewer (children_of l.0) c.byte_at-byte.result (Value c.take_value-value.result) there in
          let some = enough.some in
          let seven : length (prefix_of l.0) ≡ 7 = ap length (sym (prefix_at s c.args.at l.0 l.1)) ∙ held_seven s c.args.key.now c.args.at c.requires.tree c.requires.way c.requires.held in
          let lacks = lesser_enough by_form l.0 k.node k.becomes.form k.becomes.prefix (omega (arith, less, some)) (omega (arith, less, some, others)) (λ inner. absurd (omega (arith, inner, seven))) enough in
          let small = (charges_true g.A.Allocator.charged_of g.A.Allocator.limit_of c.args.self.now.allocator c.charges_lesser-lesser.new.allocator (shrinks F n) F c.charges_lesser-lesser.result is c.charges_lesser-lesser.ensures).0 in
          c.lessen.ensures.filled by_form k.node k.updates.changed (λ m x ne na e. h m x ne (sym (k.updates.others m na) ∙ e)) lacks
          (λ asked.
          let came = came_then F n (bytes_of s) (bytes_of c.lessen.new.self.nodes) 0 small (read_came s c.args.at l.0 F n l.1 (c.node_type-form.ensures l.0 l.1) (c.len.ensures.count l.0 l.1) (bytes_of s) (bytes_of c.lessen.new.self.nodes) 0 (none asked)) in
          let moved : bytes_of c.lessen.new.self.nodes + size_of F ≡ bytes_of c.take_value-value.new.self + size_of (form_below F) = omega (arith, came, bytes) in
          subst (λ f. bytes_of c.lessen.new.self.nodes + size_of f ≡ bytes_of c.take_value-value.new.self + size_of (form_below f)) (sym form) moved);
    }

pub tuck-requires-clause-tree : goal.tuck-requires-clause-tree
tuck-requires-clause-tree g c =
    let len : length c.args.key.now ≡ 8 = search rules in
    (taken c.args.self.now.nodes c.take_value-value.new.self c.args.key.now c.args.at c.byte_at-byte.result c.take_value-value.result len c.requires.tree c.requires.way c.requires.held c.requires.others c.byte_at-byte.ensures c.take_value-value.ensures.was c.take_value-value.ensures.takes).0.0

pub tuck-requires-clause-hangs : goal.tuck-requires-clause-hangs
tuck-requires-clause-hangs g c = taken_hangs c.args.self.now.nodes c.take_value-value.new.self c.args.key.now c.args.above c.args.at c.byte_at-byte.result c.requires.tree c.requires.way c.requires.hangs c.take_value-value.ensures.takes

pub tuck-requires-clause-leaf : goal.tuck-requires-clause-leaf
tuck-requires-clause-leaf g c =
    ap length (taken_prefix c.args.self.now.nodes c.take_value-value.new.self c.args.at c.byte_at-byte.result c.requires.way.stands c.take_value-value.ensures.takes)
    ∙ held_seven c.args.self.now.nodes c.args.key.now c.args.at c.requires.tree c.requires.way c.requires.held

pub returns : goal.returns
returns g c =
    let s = c.args.self.now.nodes in
    let F = c.node_type-form.result in
    let n = c.len.result in
    let no : c.charges_lesser-lesser.result ≡ false = search rules in
    let len : length c.args.key.now ≡ 8 = search rules in
    let l = node_at s c.args.at c.requires.way.stands in
    let r = taken s c.take_value-value.new.self c.args.key.now c.args.at c.byte_at-byte.result c.take_value-value.result len c.requires.tree c.requires.way c.requires.held c.requires.others c.byte_at-byte.ensures c.take_value-value.ensures.was c.take_value-value.ensures.takes in
    let bytes : bytes_of c.tuck.new.self.nodes ≡ bytes_of s = c.tuck.ensures.renamed.bytes ∙ r.1 in
    let same : g.A.Allocator.charged_of c.tuck.new.self.allocator ≡ g.A.Allocator.charged_of c.args.self.now.allocator = ap g.A.Allocator.charged_of c.tuck.ensures.allocator ∙ charges_false g.A.Allocator.charged_of g.A.Allocator.limit_of c.args.self.now.allocator c.charges_lesser-lesser.new.allocator (shrinks F n) F c.charges_lesser-lesser.result no c.charges_lesser-lesser.ensures in
    record {
      edits = record {
        tree = c.tuck.ensures.renamed.tree;
        change = renamed_change s c.take_value-value.new.self c.tuck.new.self.nodes c.args.key.now _ _ r.0.1 c.tuck.ensures.renamed;
        balance = omega (arith, bytes, same);
        same_limit = ap g.A.Allocator.limit_of c.tuck.ensures.allocator ∙ c.charges_lesser-lesser.ensures.same_limit;
      };
      bytes = subst (λ z. GaveWay (g.A.Allocator.charged_of c.args.self.now.allocator) (g.A.Allocator.limit_of c.args.self.now.allocator) (bytes_of s) (bytes_of c.tuck.new.self.nodes) 0 z)
          (sym (lesser_read s c.args.at l.0 F n l.1 (c.node_type-form.ensures l.0 l.1) (c.len.ensures.count l.0 l.1)))
          (stayed g.A.Allocator.charged_of g.A.Allocator.limit_of c.args.self.now.allocator c.charges_lesser-lesser.new.allocator (shrinks F n) F c.charges_lesser-lesser.result (bytes_of s) (bytes_of c.tuck.new.self.nodes) 0 no c.charges_lesser-lesser.ensures (omega (arith, bytes)));
      filled = λ by_form h none.
          let k = c.take_value-value.ensures.takes l.0 l.1 in
          let enough = h c.args.at l.0 (leaf_not_root s c.args.at c.requires.tree (held_seven s c.args.key.now c.args.at c.requires.tree c.requires.way c.requires.held)) l.1 in
          let there = sym (c.take_value-value.ensures.was l.0 l.1) in
          let others = c.requires.others l.0 l.1 in
          let less : map.len (children_of k.node) ≡ map.len (children_of l.0) - 1 = ap map.len k.becomes.children ∙ len_fewer (children_of l.0) c.byte_at-byte.result (Value c.take_value-value.result) there in
          let some = enough.some in
          let seven : length (prefix_of l.0) ≡ 7 = ap length (sym (prefix_at s c.args.at l.0 l.1)) ∙ held_seven s c.args.key.now c.args.at c.requires.tree c.requires.way c.requires.held in
          let not_small = λ (asked : by_form ≡ true). none_wanted F n (bytes_of s) (bytes_of c.tuck.new.self.nodes) 0 (omega (arith, bytes)) (read_came s c.args.at l.0 F n l.1 (c.node_type-form.ensures l.0 l.1) (c.len.ensures.count l.0 l.1) (bytes_of s) (bytes_of c.tuck.new.self.nodes) 0 (none asked)) in
          let spare = less_enough by_form l.0 k.node k.becomes.form k.becomes.prefix (omega (arith, less, some)) (omega (arith, less, some, others)) (λ inner. absurd (omega (arith, inner, seven))) enough (λ asked. read_shrinks l.0 F n (c.node_type-form.ensures l.0 l.1) (c.len.ensures.count l.0 l.1) (not_small asked)) in
          c.tuck.ensures.renamed.filled by_form (filled_but by_form s c.take_value-value.new.self c.args.at k.node (others_filled by_form s c.args.at h) (λ _. spare) k.updates.changed k.updates.others);
    }
