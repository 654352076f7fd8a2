use Rattle.std.proofs.Common.{◌≡◌, ℕ, ◌<◌, true, rules, refl, arith}
use Rattle.optimistic.specs.Layout.{room}
use Rattle.optimistic.specs.forms.Children.{is_inner, Same}
use Rattle.optimistic.specs.words.Told.{Tells}
use Rattle.optimistic.specs.Moves.{words_of}
use Rattle.optimistic.proofs.lemmas.words.Moments.{tells_since}
use Rattle.optimistic.proofs.lemmas.CopyLemmas.{so_far_none, so_far_next, so_far_all, match_like, next_has, some_has}
use Rattle.optimistic.proofs.lemmas.tree.Setting.{room_some}
use Rattle.optimistic.proofs.lemmas.tree.Holding.{loop_looks, loop_held, loop_same}
use Rattle.optimistic.proofs.tree.get.Tree.only_other.Goals as goal

pub loop-place-init : goal.loop-place-init
loop-place-init c = (c.requires.of, c.requires.at.place.at, (λ _. refl), (λ l. absurd (omega (arith, l))), so_far_none c.args.at.at.form (words_of c.args.hand.now.me.0 c.args.at.at.node) c.args.byte, search rules)

pub load_item-item-requires-clause-mine : goal.load_item-item-requires-clause-mine
load_item-item-requires-clause-mine c =
    let i = c.loop-place.invariant in
    (loop_held c.loop-place.place c.args.hand.now.me.0 c.loop-place.hand.me.0 i.2 i.3 c.args.at c.requires.at).mine

pub loop-place-preserved : goal.loop-place-preserved
loop-place-preserved c =
    let i = c.loop-place.invariant in
    let l = c.args.at in
    let f = l.at.form in
    let v = c.args.hand.now.me.0 in
    let u = c.loop-place.hand.me.0 in
    let w = c.load_item-item.new.hand.me.0 in
    let place : ℕ = c.loop-place.place in
    let byte : ℕ = c.args.byte in
    let item = c.load_item-item.result in
    let low : place < room f = search rules in
    let same : Same f (words_of v l.at.node) (words_of u l.at.node) = loop_same place v u i.2 i.3 l c.requires.at in
    let looks = loop_looks place v u i.2 i.3 w c.load_item-item.ensures.looks in (
      c.load_item-item.ensures.of,
      c.load_item-item.ensures.at,
      (λ z. absurd (omega (arith, z))),
      (λ _. looks),
      so_far_next f (words_of v l.at.node) byte place c.loop-place.found item c.in-Some.next low (match_like f (words_of v l.at.node) (words_of u l.at.node) place item same low c.load_item-item.ensures.item) c.in-Some.ensures i.4,
      next_has (λ e. is_inner f ≡ true → Tells e.first w) c.loop-place.found item c.in-Some.next byte c.in-Some.ensures
          (some_has (λ e. is_inner f ≡ true → Tells e.first u) (λ e. is_inner f ≡ true → Tells e.first w) c.loop-place.found (λ e t k. tells_since e.first u w (t k) c.load_item-item.ensures.looks.since) i.5)
          c.load_item-item.ensures.tells,
    )

pub returns-in-None-clause-looks : goal.returns-in-None-clause-looks
returns-in-None-clause-looks c =
    let i = c.loop-place.invariant in
    loop_looks c.loop-place.place c.args.hand.now.me.0 c.loop-place.hand.me.0 i.2 i.3 c.load_item-item.new.hand.me.0 c.load_item-item.ensures.looks

pub returns-clause-looks : goal.returns-clause-looks
returns-clause-looks c =
    let e : c.loop-place.place ≡ room c.args.at.at.form = search rules in
    c.loop-place.invariant.3 (let s = room_some c.args.at.at.form c.requires.at.place.some c.requires.at.place.form in omega (arith, e, s))

pub returns-clause-only : goal.returns-clause-only
returns-clause-only c =
    let e : c.loop-place.place ≡ room c.args.at.at.form = search rules in
    so_far_all c.args.at.at.form (words_of c.args.hand.now.me.0 c.args.at.at.node) c.args.byte c.loop-place.place c.loop-place.found e c.loop-place.invariant.4
