use Rattle.std.proofs.Common.{rules, ◌≡◌, length, sym}
use Rattle.congee.specs.declared.forms.child.Child.TheVariants.{Value}
use Rattle.congee.proofs.lemmas.owned.Fulls.{set_filled}
use Rattle.congee.proofs.lemmas.owned.Moves.{node_at, replaced}
use Rattle.congee.proofs.lemmas.owned.Hangings.{held_value}
use Rattle.congee.proofs.owned.arena.Arena.replace.Goals as goal

pub swap_value-requires-clause-present : goal.swap_value-requires-clause-present
swap_value-requires-clause-present g c = held_value c.args.self.now.nodes c.args.key.now c.args.at c.byte_at-byte.result c.requires.held c.byte_at-byte.ensures

pub returns : goal.returns
returns g c =
    let len : length c.args.key.now ≡ 8 = search rules in
    let r = replaced c.args.self.now.nodes c.swap_value.new.self c.args.key.now c.args.at c.byte_at-byte.result c.swap_value.result c.args.value len c.requires.tree c.requires.way c.requires.held c.byte_at-byte.ensures c.swap_value.ensures.was c.swap_value.ensures.swaps in
    record {
      tree = r.0.0;
      change = r.0.1;
      bytes = r.1;
      filled = λ by_form. (let n = node_at c.args.self.now.nodes c.args.at c.requires.way.stands in
          set_filled by_form c.args.self.now.nodes c.swap_value.new.self c.args.at n.0 c.byte_at-byte.result (Value c.args.value) (Value c.swap_value.result) n.1 (sym (c.swap_value.ensures.was n.0 n.1)) (c.swap_value.ensures.swaps n.0 n.1));
      allocator = search rules;
    }
