use Rattle.std.proofs.Common.{ℕ, ◌+◌, ◌*◌, ◌/◌, ◌%◌, ap, sym, ◌∙◌, cond, eqb}
use Rattle.std.specs.Int.{bit_at}
use Rattle.optimistic.specs.Moves.{words_of}
use Rattle.optimistic.proofs.lemmas.MoveLemmas.{told_bit, wide_first, wide_mask, wide_taken, values_taken, looks_word}
use Rattle.optimistic.proofs.moves.is_taken_wide.Goals as goal

pub load-first-requires-clause-inside : goal.load-first-requires-clause-inside
load-first-requires-clause-inside g c = wide_first c.args.form c.args.place c.requires.inside.1 c.if-form-lt5.true c.requires.inside.0

pub load-mask-requires-clause-inside : goal.load-mask-requires-clause-inside
load-mask-requires-clause-inside g c = wide_mask c.args.form c.args.place c.requires.inside.1 c.if-form-lt5.false c.requires.inside.0

pub returns-then-form-lt5-clause-taken : goal.returns-then-form-lt5-clause-taken
returns-then-form-lt5-clause-taken g c =
    let v = c.args.hand.now.me.0 in
    told_bit _ _ _ (ap (λ (x : ℕ). cond (eqb x 0) 0 1) (c.load-first.ensures.found ∙ looks_word _ c.args.node c.args.form (8 + 2 * c.args.place) v c.load-first.new.hand.me.0 c.requires.at c.requires.mine
    (wide_first c.args.form c.args.place c.requires.inside.1 c.if-form-lt5.true c.requires.inside.0) c.load-first.ensures.looks)
    ∙ sym (wide_taken c.args.form (words_of v c.args.node) c.args.place c.requires.inside.1 c.if-form-lt5.true)) c.has_child.ensures

pub returns-else-form-lt5-clause-taken : goal.returns-else-form-lt5-clause-taken
returns-else-form-lt5-clause-taken g c =
    let v = c.args.hand.now.me.0 in
    told_bit _ _ _ (ap (λ (x : ℕ). bit_at x (c.args.place % 64)) (c.load-mask.ensures.found ∙ looks_word _ c.args.node c.args.form (2 + c.args.place / 64) v c.load-mask.new.hand.me.0 c.requires.at c.requires.mine
    (wide_mask c.args.form c.args.place c.requires.inside.1 c.if-form-lt5.false c.requires.inside.0) c.load-mask.ensures.looks)
    ∙ sym (values_taken c.args.form (words_of v c.args.node) c.args.place c.requires.inside.1 c.if-form-lt5.false)) c.has_bit.ensures

pub load-first-requires-clause-of : goal.load-first-requires-clause-of
load-first-requires-clause-of g c = c.requires.of

pub load-first-requires-clause-at : goal.load-first-requires-clause-at
load-first-requires-clause-at g c = c.requires.at

pub load-mask-requires-clause-of : goal.load-mask-requires-clause-of
load-mask-requires-clause-of g c = c.requires.of

pub load-mask-requires-clause-at : goal.load-mask-requires-clause-at
load-mask-requires-clause-at g c = c.requires.at

pub returns-then-form-lt5-clause-of : goal.returns-then-form-lt5-clause-of
returns-then-form-lt5-clause-of g c = c.load-first.ensures.of

pub returns-then-form-lt5-clause-at : goal.returns-then-form-lt5-clause-at
returns-then-form-lt5-clause-at g c = c.load-first.ensures.at

pub returns-then-form-lt5-clause-looks : goal.returns-then-form-lt5-clause-looks
returns-then-form-lt5-clause-looks g c = c.load-first.ensures.looks

pub returns-else-form-lt5-clause-of : goal.returns-else-form-lt5-clause-of
returns-else-form-lt5-clause-of g c = c.load-mask.ensures.of

pub returns-else-form-lt5-clause-at : goal.returns-else-form-lt5-clause-at
returns-else-form-lt5-clause-at g c = c.load-mask.ensures.at

pub returns-else-form-lt5-clause-looks : goal.returns-else-form-lt5-clause-looks
returns-else-form-lt5-clause-looks g c = c.load-mask.ensures.looks
