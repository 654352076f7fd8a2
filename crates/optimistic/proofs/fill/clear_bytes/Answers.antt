use Rattle.std.proofs.Common.{arith}
use Rattle.optimistic.specs.Moves.{words_of}
use Rattle.optimistic.proofs.lemmas.MoveLemmas.{two_inside, stores_stays, stored_words, no_child, is_inner_of}
use Rattle.optimistic.proofs.lemmas.FillLemmas.{empty_wide}
use Rattle.optimistic.proofs.fill.clear_bytes.Goals as goal

pub store-requires-clause-inside : goal.store-requires-clause-inside
store-requires-clause-inside g c = (omega arith, two_inside c.args.form (omega (arith, c.requires.form)))

pub store-requires-clause-tells : goal.store-requires-clause-tells
store-requires-clause-tells g c = λ _. no_child _

pub returns-then-form-lt5-clause-stays : goal.returns-then-form-lt5-clause-stays
returns-then-form-lt5-clause-stays g c = stores_stays _ c.args.node c.args.form 2 0 _ _ c.requires.at (two_inside c.args.form (omega (arith, c.requires.form))) c.requires.mine c.store.ensures.stored (omega arith)

pub returns-then-form-lt5-clause-empty : goal.returns-then-form-lt5-clause-empty
returns-then-form-lt5-clause-empty g c =
    empty_wide c.args.form (words_of c.args.hand.now.me.0 c.args.node) (words_of c.store.new.hand.me.0 c.args.node) c.requires.form c.if-form-lt5.true (c.requires.cleared (is_inner_of c.args.form c.if-form-lt5.true))
    (stored_words _ c.args.node c.args.form 2 0 _ _ c.requires.at (two_inside c.args.form (omega (arith, c.requires.form))) c.requires.mine c.store.ensures.stored)
