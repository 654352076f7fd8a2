use Rattle.std.proofs.Common.{ℕ, ◌<◌, length, subst, arith, Option, Result}
use Rattle.optimistic.specs.declared.face.refusal.Refusal.{Refusal}
use Rattle.optimistic.specs.face.Writes.{IsInserted}
use Rattle.optimistic.proofs.lemmas.face.Many.{put_all_same, put_all_saw, put_words_next, put_words_refused}
use Rattle.optimistic.proofs.face.congee.WordWorker.insert_many.Goals as goal

pub returns-in-Err-clause-inserted : goal.returns-in-Err-clause-inserted
returns-in-Err-clause-inserted g c =
    let n : ℕ = c.loop-place.place in
    let pairs = c.args.pairs.now in
    let p = c.pair_at.result in
    let low : n < length pairs = omega arith in
    let refused = subst (λ (r : Result (Option ℕ) Refusal). IsInserted p.key p.value c.loop-place.self c.insert_pair.new.self r) c.in-Err.is c.insert_pair.ensures.inserted in
    put_words_refused g.K.Word64.word g.V.Word64.word pairs record { place = n; refusal = c.in-Err.refusal } c.args.self.now c.loop-place.self c.insert_pair.new.self low c.loop-place.invariant refused.0.0 refused.1

pub loop-place-preserved : goal.loop-place-preserved
loop-place-preserved g c =
    let n : ℕ = c.loop-place.place in
    let pairs = c.args.pairs.now in
    let p = c.pair_at.result in
    let low : n < length pairs = omega arith in
    let put = subst (λ (r : Result (Option ℕ) Refusal). IsInserted p.key p.value c.loop-place.self c.insert_pair.new.self r) c.in-Ok.is c.insert_pair.ensures.inserted in
    put_words_next g.K.Word64.word g.V.Word64.word pairs n p c.in-Ok.field-0 c.args.self.now c.loop-place.self c.insert_pair.new.self low c.pair_at.ensures c.loop-place.invariant put

pub returns-in-Err-clause-same : goal.returns-in-Err-clause-same
returns-in-Err-clause-same g c =
    let p = c.pair_at.result in
    let refused = subst (λ (r : Result (Option ℕ) Refusal). IsInserted p.key p.value c.loop-place.self c.insert_pair.new.self r) c.in-Err.is c.insert_pair.ensures.inserted in
    put_all_same _ c.args.self.now c.insert_pair.new.self (put_all_saw _ c.args.self.now c.loop-place.self c.insert_pair.new.self c.loop-place.invariant refused.0.0)

pub returns-clause-same : goal.returns-clause-same
returns-clause-same g c = put_all_same _ c.args.self.now c.loop-place.self c.loop-place.invariant
