use Rattle.std.proofs.Common.{◌≡◌, ◌≢◌, ℕ, ◌<◌, get_or, length, rules, ap, sym, ◌∙◌, subst, inl, inr, arith}
use Rattle.std.proofs.lemmas.Bool.{cases_lt}
use Rattle.std.proofs.lemmas.List.{get_or_default}
use Rattle.std.proofs.lemmas.List.Elements.{All-contains_itself}
use Rattle.optimistic.specs.declared.tree.whole.Mark.{Mark}
use Rattle.optimistic.specs.words.Kept.{word_at}
use Rattle.optimistic.proofs.lemmas.tree.Wholes.{went_none, went_looks, steady_then}
use Rattle.optimistic.proofs.lemmas.words.Moments.{form_since, since_trans}
use Rattle.optimistic.proofs.tree.get.Tree.are_still.Goals as goal

abbrev none : Mark
none = record { node = 0; form = 0; version = 0 }

pub loop-i-init : goal.loop-i-init
loop-i-init c = (c.requires.of, went_none c.args.hand.now.me.0, λ k d l. absurd (omega (arith, l)))

pub load-version-requires-clause-at : goal.load-version-requires-clause-at
load-version-requires-clause-at c =
    let m = get_or c.args.marks.now c.loop-i.i none in
    let low : c.loop-i.i < length c.args.marks.now = omega arith in
    let seen = c.requires.seen m (All-contains_itself c.args.marks.now c.loop-i.i none low) in
    form_since m.node m.form c.args.hand.now.me.0 c.loop-i.hand.me.0 seen.1 seen.0 c.loop-i.invariant.1.since

pub load-version-requires-clause-inside : goal.load-version-requires-clause-inside
load-version-requires-clause-inside c =
    let m = get_or c.args.marks.now c.loop-i.i none in
    let low : c.loop-i.i < length c.args.marks.now = omega arith in
    (c.requires.seen m (All-contains_itself c.args.marks.now c.loop-i.i none low)).1

pub returns-then-version-mark-clause-went : goal.returns-then-version-mark-clause-went
returns-then-version-mark-clause-went c = went_looks _ _ _ c.loop-i.invariant.1 c.load-version.ensures.looks

pub loop-i-preserved : goal.loop-i-preserved
loop-i-preserved c =
    let marks = c.args.marks.now in
    let i : ℕ = c.loop-i.i in
    let v = c.args.hand.now.me.0 in
    let u = c.loop-i.hand.me.0 in
    let w = c.load-version.new.hand.me.0 in
    let inv = c.loop-i.invariant in
    let m = get_or marks i none in
    let low : i < length marks = omega arith in
    let seen = c.requires.seen m (All-contains_itself marks i none low) in
    let same : c.load-version.result ≡ m.version = search rules in
    let here : word_at v.seen.words m.node 0 ≡ m.version = steady_then m v w.seen seen.0 seen.1 seen.2 (since_trans v.seen u.seen w.seen inv.1.since c.load-version.ensures.looks.since) (sym c.load-version.ensures.found ∙ same) in (
      c.load-version.ensures.of,
      went_looks v u w inv.1 c.load-version.ensures.looks,
      λ k d l. elim (cases_lt k i) [
        | inl b ↦ inv.2 k d b
        | inr g ↦
            let e : k ≡ i = omega (arith, l, g) in
            let is : get_or marks k d ≡ m = ap (λ (z : ℕ). get_or marks z d) e ∙ get_or_default marks i d none low in
            subst (λ (z : Mark). word_at v.seen.words z.node 0 ≡ z.version) (sym is) here
      ],
    )

pub returns-then-version-mark-clause-moved : goal.returns-then-version-mark-clause-moved
returns-then-version-mark-clause-moved c _ =
    let m = get_or c.args.marks.now c.loop-i.i none in
    let low : c.loop-i.i < length c.args.marks.now = omega arith in
    let ne : c.load-version.result ≢ m.version = search rules in
    (m, All-contains_itself c.args.marks.now c.loop-i.i none low, λ e. ne (c.load-version.ensures.found ∙ e))
