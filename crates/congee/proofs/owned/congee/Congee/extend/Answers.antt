use Rattle.std.proofs.Common.{◌∙◌}
use Rattle.std.proofs.iter.Next.{Yields-more}
use Rattle.std.proofs.lemmas.Result.{err_from_is_err_and}
use Rattle.congee.proofs.lemmas.owned.Several.{keeps_then, lacks_new, put_next}
use Rattle.congee.proofs.owned.congee.Congee.extend.Goals as goal

pub loop-pair-preserved : goal.loop-pair-preserved
loop-pair-preserved g c =
    let at = c.loop-pair in (
      put_next g.K.Word64.word g.V.Word64.word c.args.self.now.pairs at.self.pairs c.insert_number.new.self.pairs at.yielded c.in-Some.pair c.to_word.result c.to_word-in-loop-pair.result at.invariant.0
          c.to_word.ensures.number c.to_word-in-loop-pair.ensures.number c.in_ok-insert_number.ensures.pairs,
      keeps_then _ _ _ _ _ at.invariant.1 c.in_ok-insert_number.ensures.keeps,
      c.in_ok-insert_number.ensures.base ∙ at.invariant.2,
    )

pub returns-in_err-insert_number-clause-refused : goal.returns-in_err-insert_number-clause-refused
returns-in_err-insert_number-clause-refused g c =
    let p = err_from_is_err_and c.from_residual.result c.from_residual.ensures.1 in
    let at = c.loop-pair in
    let refused = c.in_err-insert_number.ensures.refused in
    let it = c.into_iter-pair-iterator in
    rw (p.1, p.2) (record {
      iterator = it.result;
      items = at.yielded;
      refused = c.in-Some.pair;
      after = c.next.new.self;
      begins = it.ensures.into_iter_gives;
      yields = Yields-more g.I.IntoIter.Iterator.next_gives it.result at.yielded at.pair-iterator c.in-Some.pair c.next.new.self at.yielded_by c.in-Some.ensures.steps;
      puts = refused.unchanged.pairs ∙ at.invariant.0;
      cause = rw (← c.to_word.ensures.number) (lacks_new _ _ _ _ _ _ refused);
    })
