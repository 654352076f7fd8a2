use Rattle.std.proofs.Common.{rules, ◌≡◌, ◌<◌, ◌+◌, inr, sym, subst, arith}
use Rattle.std.specs.Prelude.{IfSome}
use Rattle.std.proofs.iter.Next.{Yields-more}
use Rattle.std.proofs.lemmas.Result.{err_from_is_err_and}
use Rattle.congee.specs.owned.Stats.{capped}
use Rattle.congee.proofs.lemmas.owned.Building.{built_first, built_next, built_unsorted}
use Rattle.congee.proofs.lemmas.owned.Several.{lacks_old}
use Rattle.congee.proofs.owned.building.Congee+K+V+A+NoDrain.from_sorted.Goals as goal

pub loop-pair-init : goal.loop-pair-init
loop-pair-init g c =
    let new = c.in_ok-tree.ensures in
    built_first _ _ _ _ _ _ new.bare new.base new.charged new.limit

pub loop-pair-preserved : goal.loop-pair-preserved
loop-pair-preserved g c =
    let at = c.loop-pair in
    let past : IfSome at.last (λ n. n < c.to_word-number.result) = search rules in
    let next : c.saturating_add-place.result ≡ capped (at.place + 1) = search (rules, arith) in
    built_next g.K.Word64.word g.V.Word64.word _ _ _ at.tree c.insert_number_near.new.self at.last at.place c.saturating_add-place.result at.yielded c.in-Some.pair c.to_word-number.result c.to_word.result at.invariant
    c.to_word-number.ensures.number c.to_word.ensures.number past c.in_ok-near.ensures.pairs c.in_ok-near.ensures.keeps c.in_ok-near.ensures.base next

pub returns-then-not-is_past-clause-refused : goal.returns-then-not-is_past-clause-refused
returns-then-not-is_past-clause-refused g c =
    let at = c.loop-pair in
    let it = c.into_iter-pair-iterator in
    let x = c.in-Some.pair in
    let never : IfSome at.last (λ n. n < g.K.Word64.word x.0) → ⊥ = λ s. (let b = c.is_past.ensures.1 (subst (λ k. IfSome at.last (λ n. n < k)) (sym c.to_word-number.ensures.number) s) in absurd (cc (b, c.if-not-is_past.true))) in
    built_unsorted g.I.IntoIterator.into_iter_gives g.I.IntoIter.Iterator.next_gives g.K.Word64.word g.V.Word64.word _ _ _ at.tree at.last at.place at.yielded x c.args.pairs it.result c.next.new.self at.invariant never
    it.ensures.into_iter_gives (Yields-more g.I.IntoIter.Iterator.next_gives it.result at.yielded at.pair-iterator x c.next.new.self at.yielded_by c.in-Some.ensures.steps)

pub returns-in_err-near-clause-refused : goal.returns-in_err-near-clause-refused
returns-in_err-near-clause-refused g c =
    let p = err_from_is_err_and c.from_residual-in_err-near.result c.from_residual-in_err-near.ensures.1 in
    let at = c.loop-pair in
    let it = c.into_iter-pair-iterator in
    let x = c.in-Some.pair in
    rw (p.1, p.2) (inr (
      at.yielded,
      x,
      at.tree,
      record {
        iterator = it.result;
        after = c.next.new.self;
        begins = it.ensures.into_iter_gives;
        yields = Yields-more g.I.IntoIter.Iterator.next_gives it.result at.yielded at.pair-iterator x c.next.new.self at.yielded_by c.in-Some.ensures.steps;
        ascend = at.invariant.ascend;
      },
      at.invariant.holds,
      record { over = at.invariant.over; cause = rw (← c.to_word-number.ensures.number) (lacks_old _ _ _ _ _ _ c.in_err-near.ensures.refused) },
    ))
