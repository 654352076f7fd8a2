use Rattle.std.proofs.Common.{◌≡◌, ℕ, true, rules, ap, ◌∙◌, subst, arith}
use Rattle.optimistic.specs.Layout.{where_of, byte_at, node_of}
use Rattle.optimistic.specs.Moves.{words_of}
use Rattle.optimistic.specs.tree.Levels.{goes_on}
use Rattle.optimistic.specs.tree.Reads.{Found}
use Rattle.optimistic.proofs.lemmas.MoveLemmas.{is_inner_of}
use Rattle.optimistic.proofs.lemmas.tree.Reading.{looks_trans}
use Rattle.optimistic.proofs.lemmas.tree.Holding.{second_word, held_looks, word_now, word_then, locked_shape, found_there}
use Rattle.optimistic.proofs.tree.get.Tree.is_child.Goals as goal

pub read-over-requires-clause-inside : goal.read-over-requires-clause-inside
read-over-requires-clause-inside c = (omega arith, second_word c.args.above.at c.args.hand.now.me.0 c.requires.above.held.place)

pub read-under-requires-clause-at : goal.read-under-requires-clause-at
read-under-requires-clause-at c = (held_looks c.args.old c.args.hand.now.me.0 c.read-over.new.hand.me.0 c.read-over.ensures.looks c.requires.old.held).place.at

pub read-under-requires-clause-inside : goal.read-under-requires-clause-inside
read-under-requires-clause-inside c = (omega arith, second_word c.args.old.at c.args.hand.now.me.0 c.requires.old.held.place)

pub returns-then-above-gt4-clause-looks : goal.returns-then-above-gt4-clause-looks
returns-then-above-gt4-clause-looks c = looks_trans _ _ _ c.read-over.ensures.looks c.read-under.ensures.looks

pub returns-then-over-word-clause-looks : goal.returns-then-over-word-clause-looks
returns-then-over-word-clause-looks c = looks_trans _ _ _ c.read-over.ensures.looks c.read-under.ensures.looks

pub returns-then-under-lower-clause-looks : goal.returns-then-under-lower-clause-looks
returns-then-under-lower-clause-looks c = looks_trans _ _ _ c.read-over.ensures.looks c.read-under.ensures.looks

pub child-child-requires-clause-at : goal.child-child-requires-clause-at
child-child-requires-clause-at c =
    (held_looks c.args.above c.args.hand.now.me.0 c.read-under.new.hand.me.0 (looks_trans _ _ _ c.read-over.ensures.looks c.read-under.ensures.looks) c.requires.above.held).place

pub returns-clause-looks : goal.returns-clause-looks
returns-clause-looks c = looks_trans _ _ _ c.read-over.ensures.looks (looks_trans _ _ _ c.read-under.ensures.looks c.child-child.ensures.looks)

pub returns-clause-hangs : goal.returns-clause-hangs
returns-clause-hangs c = λ (e : c.names.result ≡ true).
    let v = c.args.hand.now.me.0 in
    let u = c.read-over.new.hand.me.0 in
    let x = c.read-under.new.hand.me.0 in
    let w = c.child-child.new.hand.me.0 in
    let a = c.args.above in
    let n = c.args.old in
    let key : ℕ = c.args.key in
    let over : c.read-over.result ≡ c.where_word-word.result = search rules in
    let under : c.read-under.result ≡ c.where_word-lower.result = search rules in
    let looks = looks_trans v u x c.read-over.ensures.looks c.read-under.ensures.looks in
    let above : words_of v a.at.node 1 ≡ where_of a.at.form a.at.level key = word_now a 1 c.read-over.result v u c.requires.above.held c.read-over.ensures.steady ∙ (over ∙ c.where_word-word.ensures.word) in
    let shape = locked_shape a key v u c.requires.above c.read-over.ensures.looks above in
    let found : Found a.at.node a.at.form c.child-child.result.first c.child-child.result.second key (byte_at key a.at.level) x w =
    subst (λ (z : ℕ). Found a.at.node a.at.form c.child-child.result.first c.child-child.result.second key z x w) c.key_byte-byte.ensures.byte c.child-child.ensures.found in
    let there = found_there a key (byte_at key a.at.level) c.child-child.result.first c.child-child.result.second v x w c.requires.above looks shape found in
    let named = c.names.ensures e in
    record {
      inner = is_inner_of a.at.form (let z = c.if-above-gt4.false in omega arith);
      covers = above;
      below = word_then n 1 c.read-under.result v u x c.requires.old.held (second_word n.at v c.requires.old.held.place) c.read-over.ensures.looks c.read-under.ensures.steady ∙ (under ∙ c.where_word-lower.ensures.word);
      on = (λ i. goes_on (there.0 i) (there.1 named.2 i) key) ∙ named.0;
      names = ap node_of there.0 ∙ named.1;
    }
