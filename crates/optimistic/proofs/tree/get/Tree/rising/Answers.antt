use Rattle.std.proofs.Common.{ℕ, subst}
use Rattle.optimistic.specs.Moves.{words_of}
use Rattle.optimistic.specs.forms.Copies.{IsOnly}
use Rattle.optimistic.proofs.lemmas.tree.Raising.{risen_tells}
use Rattle.optimistic.proofs.tree.get.Tree.rising.Goals as goal

pub returns-clause-rises : goal.returns-clause-rises
returns-clause-rises c =
    let n = c.args.old.at in
    record {
      entry = c.in-Some.item;
      only = subst (λ (z : ℕ). IsOnly n.form (words_of c.args.hand.now.me.0 n.node) z c.in-Some.item) c.key_byte-byte.ensures.byte c.in-Some.ensures.only;
      words = c.risen-child.ensures;
      below = c.is_below-below.ensures c.if-not-below.false;
    }

pub returns-clause-tells : goal.returns-clause-tells
returns-clause-tells c = risen_tells c.args.old.at c.in-Some.item c.risen-child.result.first c.risen-child.result.second c.only_other.new.hand.me.0 c.risen-child.ensures c.in-Some.ensures.tells
