use Rattle.std.proofs.Common.{◌≡◌, refl, ap, ◌∙◌, length, arith}
use Rattle.congee.proofs.lemmas.protocol.PlainLemmas.{all_written}
use Rattle.congee.proofs.protocol.plain_node.PlainNode.move_to.Goals as goal

pub returns : goal.returns
returns c =
    let kept : c.deref.result.now ≡ c.args.self.now.children.items = c.deref.ensures.value in
    let full : c.args.greater.now.children.len ≡ length c.copy_names.new.to = omega (arith, c.copy_names.ensures.wide, c.deref_mut.ensures.len, c.args.greater.now.children.ok.0) in
    let names : c.swap.new.x.items ≡ c.copy_names.new.to = ap (λ v. v.items) c.swap.ensures.x_after ∙ all_written c.copy_names.new.to c.args.greater.now.children.items c.args.greater.now.children.len full in
    let wide : length c.copy_names.new.to ≡ length c.args.self.now.children.items = omega (arith, full, c.args.greater.now.children.ok.0, c.args.greater.now.wide, c.args.self.now.wide) in
    record {
      old = record { prefix_is = refl; form_is = refl; version_is = refl; locked_is = refl; obsolete_is = refl; destroyed_is = refl; retired_is = refl };
      new = record { prefix_is = refl; form_is = refl; version_is = refl; locked_is = refl; obsolete_is = refl; destroyed_is = refl; retired_is = refl };
      moved = ap (λ v. v.items) c.swap.ensures.y_after;
      stay = rw (names, ← kept) c.copy_names.ensures.names;
      long = ap length names ∙ wide;
    }
