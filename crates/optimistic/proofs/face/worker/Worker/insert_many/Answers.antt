use Rattle.std.proofs.Common.{ℕ, ◌<◌, length, get_or, subst, arith, Option, Result}
use Rattle.optimistic.specs.declared.drain.nexts.Pair.{Pair}
use Rattle.optimistic.specs.declared.face.refusal.Refusal.{Refusal}
use Rattle.optimistic.specs.face.Writes.{IsInserted}
use Rattle.optimistic.proofs.lemmas.face.Many.{put_all_same, put_all_saw, put_all_next}
use Rattle.optimistic.proofs.face.worker.Worker.insert_many.Goals as goal

abbrev none : Pair
none = record { key = 0; value = 0 }

pub returns-in-Err-clause-inserted : goal.returns-in-Err-clause-inserted
returns-in-Err-clause-inserted g c =
    let n : ℕ = c.loop-place.place in
    let pairs = c.args.pairs.now in
    let p = get_or pairs n none in
    let low : n < length pairs = omega arith in
    let refused = subst (λ (r : Result (Option ℕ) Refusal). IsInserted p.key p.value c.loop-place.self c.insert.new.self r) c.in-Err.is c.insert.ensures.inserted in
    (low, put_all_saw _ c.args.self.now c.loop-place.self c.insert.new.self c.loop-place.invariant refused.0.0, refused.1)

pub loop-place-preserved : goal.loop-place-preserved
loop-place-preserved g c =
    let n : ℕ = c.loop-place.place in
    let pairs = c.args.pairs.now in
    let p = get_or pairs n none in
    let low : n < length pairs = omega arith in
    let put = subst (λ (r : Result (Option ℕ) Refusal). IsInserted p.key p.value c.loop-place.self c.insert.new.self r) c.in-Ok.is c.insert.ensures.inserted in
    put_all_next pairs n none c.in-Ok.field-0 c.args.self.now c.loop-place.self c.insert.new.self low c.loop-place.invariant put

pub returns-in-Err-clause-same : goal.returns-in-Err-clause-same
returns-in-Err-clause-same g c =
    let p = get_or c.args.pairs.now c.loop-place.place none in
    let refused = subst (λ (r : Result (Option ℕ) Refusal). IsInserted p.key p.value c.loop-place.self c.insert.new.self r) c.in-Err.is c.insert.ensures.inserted in
    put_all_same _ c.args.self.now c.insert.new.self (put_all_saw _ c.args.self.now c.loop-place.self c.insert.new.self c.loop-place.invariant refused.0.0)

pub returns-clause-same : goal.returns-clause-same
returns-clause-same g c = put_all_same _ c.args.self.now c.loop-place.self c.loop-place.invariant
