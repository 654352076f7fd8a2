use Rattle.std.proofs.Common.{◌≡◌, ℕ, ◌<◌, true, false, sym, subst, arith, rules}
use Rattle.optimistic.specs.Layout.{room}
use Rattle.optimistic.specs.Moves.{words_of}
use Rattle.optimistic.proofs.lemmas.MoveLemmas.{two_inside, stays_trans, stays_mine, stays_word}
use Rattle.optimistic.specs.forms.Parts.{HasPart}
use Rattle.optimistic.proofs.lemmas.words.Moments.{form_since}
use Rattle.optimistic.proofs.lemmas.forms.FormLemmas.{form_like}
use Rattle.optimistic.proofs.lemmas.forms.PartLemmas.{part_none, part_whole}
use Rattle.optimistic.proofs.fill.fill.Goals as goal

pub loop-place-init : goal.loop-place-init
loop-place-init g c = (
  c.clear_all.ensures.of,
  form_since c.args.node c.args.form c.args.hand.now.me.0 c.clear_all.new.hand.me.0 (omega (arith, two_inside c.args.form c.requires.kind.2)) c.requires.at.0 c.clear_all.ensures.stays.since,
  c.clear_all.ensures.at,
  c.clear_all.ensures.stays,
  c.clear_all.ensures.empty.form_is,
  part_none c.args.form (words_of c.args.hand.now.me.0 c.args.node) c.args.new (words_of c.clear_all.new.hand.me.0 c.args.to) c.clear_all.ensures.empty.none,
)

pub clear_all-requires-clause-mine : goal.clear_all-requires-clause-mine
clear_all-requires-clause-mine g c = c.requires.mine.1

pub move_item-moved-requires-clause-mine : goal.move_item-moved-requires-clause-mine
move_item-moved-requires-clause-mine g c = (stays_mine c.args.to c.args.node _ _ c.loop-place.invariant.3 c.requires.mine.0, stays_mine c.args.to c.args.to _ _ c.loop-place.invariant.3 c.requires.mine.1, c.requires.mine.2)

pub move_item-moved-requires-clause-words : goal.move_item-moved-requires-clause-words
move_item-moved-requires-clause-words g c = (
  form_like c.args.form (words_of c.args.hand.now.me.0 c.args.node) (words_of c.loop-place.hand.me.0 c.args.node) (λ j _ l. stays_word c.args.to c.args.node c.args.form j _ _ c.requires.at.0 c.requires.mine.0 c.requires.mine.2 l c.loop-place.invariant.3)
      (let l : c.loop-place.place < room c.args.form = search rules in omega (arith, l)) c.requires.words,
  c.loop-place.invariant.4,
)

pub loop-place-preserved : goal.loop-place-preserved
loop-place-preserved g c = (
  c.move_item-moved.ensures.of,
  c.move_item-moved.ensures.at.0,
  c.move_item-moved.ensures.at.1,
  stays_trans c.args.to _ _ _ c.loop-place.invariant.3 c.move_item-moved.ensures.stays,
  c.move_item-moved.ensures.form c.if-not-moved.false,
  c.move_item-moved.ensures.moved (words_of c.args.hand.now.me.0 c.args.node) (λ j _ l. sym (stays_word c.args.to c.args.node c.args.form j _ _ c.requires.at.0 c.requires.mine.0 c.requires.mine.2 l c.loop-place.invariant.3)) c.loop-place.invariant.5 c.if-not-moved.false,
)

pub returns-then-not-moved-clause-stays : goal.returns-then-not-moved-clause-stays
returns-then-not-moved-clause-stays g c = stays_trans c.args.to _ _ _ c.loop-place.invariant.3 c.move_item-moved.ensures.stays

pub returns-then-not-moved-clause-alike : goal.returns-then-not-moved-clause-alike
returns-then-not-moved-clause-alike g c = λ (e : false ≡ true). absurd (cc)

pub returns-clause-alike : goal.returns-clause-alike
returns-clause-alike g c = λ _. (
  c.loop-place.invariant.4,
  part_whole c.args.form (words_of c.args.hand.now.me.0 c.args.node) c.args.new (words_of c.loop-place.hand.me.0 c.args.to)
      (let e : c.loop-place.place ≡ room c.args.form = search rules in subst (λ (z : ℕ). HasPart c.args.form (words_of c.args.hand.now.me.0 c.args.node) z c.args.new (words_of c.loop-place.hand.me.0 c.args.to)) e c.loop-place.invariant.5),
)
