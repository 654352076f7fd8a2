use Rattle.std.proofs.Common.{◌≡◌, ◌-◌, ◌+◌, [], ◌∷◌, inl, inr, refl, sym, ◌∙◌, ap, length, take, drop, append-nil, arith}
use Rattle.std.specs.Vec.{vec_len}
use Rattle.std.specs.Prelude.{vec_capacity}
use Rattle.std.specs.Vec.Iter.{into_iter_items}
use Rattle.std.proofs.Math.Seq.{take-length, drop-append_seam}
use Rattle.std.proofs.lemmas.List.{take-append-le, drop-append-le, length-append}
use Rattle.congee.proofs.lemmas.protocol.ManyCalls.{progress_none, progress_more, progress_end, progress_stops, stops, trace_end}
use Rattle.congee.proofs.lemmas.protocol.Traces.{all_end_alone, fresh_end_alone}
use Rattle.congee.proofs.lemmas.protocol.FillingTraces.{run_branch, run_filled}
use Rattle.congee.proofs.lemmas.protocol.Destroys.{spares}
use Rattle.congee.proofs.protocol.run.play_into.Goals as goal
use Rattle.congee.proofs.protocol.run.play_into.Goals.{in-Some+then-len-capacity, in_default}

pub loop-step-init : goal.loop-step-init
loop-step-init g c = record {
  limit = refl;
  rest = refl;
  within = c.requires.within;
  kept = take-length c.args.moves.now.items;
  longer = omega arith;
  more = omega arith;
  room = refl;
  progress = progress_none _ _ _ _ _ _ _ _ _ _ _ c.into_iter-rest.ensures.rest (omega arith)
      (ap (λ xs. drop (length c.args.moves.now.items) xs) (sym (append-nil c.args.moves.now.items)) ∙ drop-append_seam c.args.moves.now.items []) c.requires.begins;
}

pub loop-step-preserved : goal.loop-step-preserved
loop-step-preserved g c =
    let i = c.loop-step.invariant in
    let before = length c.args.moves.now.items in
    let moves = c.loop-step.moves.items in
    let len : length c.push_reserved.new.self.items ≡ length moves + 1 = ap length c.push_reserved.ensures.items ∙ length-append moves (c.step_of-moved.result ∷ []) in
    record {
      limit = c.step_of-moved.ensures.limit ∙ i.limit;
      rest = c.step_of-moved.ensures.rest ∙ i.rest;
      within = c.step_of-moved.ensures.within;
      kept = ap (take before) c.push_reserved.ensures.items ∙ (take-append-le before moves (c.step_of-moved.result ∷ []) i.longer ∙ i.kept);
      longer = omega (arith, i.longer, len);
      more = omega (arith, i.more, c.push_reserved.ensures.len);
      room = c.push_reserved.ensures.capacity ∙ i.room;
      progress = progress_more _ _ _ _ _ _ _ _ _ _ _ _ _ _ _ _ _ _ _ _ _ _ _ i.progress c.in-Some.ensures.items refl (omega (arith, i.more, c.push_reserved.ensures.len)) refl
          (ap (drop before) c.push_reserved.ensures.items ∙ drop-append-le before moves (c.step_of-moved.result ∷ []) i.longer)
          (λ form e y. (c.loop-step.store, refl, i.limit, i.rest, y)) (rw i.limit at c.step_of-moved.ensures.plays);
    }

pub returns-clause-done : goal.returns-clause-done
returns-clause-done g c =
    let i = c.loop-step.invariant in
    let all = progress_stops _ _ _ _ _ _ _ _ _ _ _ _ _ i.progress in
    let done : c.len-2.result - c.len-before.result ≡ vec_len c.loop-step.moves - vec_len c.args.moves.now = omega (arith, c.len-2.ensures, c.len-before.ensures) in
    let split : length c.args.steps.items ≡ c.len-2.result - c.len-before.result + length (into_iter_items c.loop-step.rest) = omega (arith, all, done) in
    elim c.match-next.branch [
      | in-Some+then-len-capacity w ↦ stops _ _ _ (vec_len c.loop-step.moves) (vec_len c.args.moves.now) (vec_capacity c.args.moves.now) split done i.more (omega (arith, i.room, c.loop-step.moves.ok.1)) (inr (omega (arith, i.room, w.if-len-capacity.true, w.len.ensures, w.capacity.ensures)))
      | in_default w ↦ stops _ _ _ (vec_len c.loop-step.moves) (vec_len c.args.moves.now) (vec_capacity c.args.moves.now) split done i.more (omega (arith, i.room, c.loop-step.moves.ok.1)) (inl (sym c.loop-step.rest.rest.ok.0 ∙ w.in_default.ensures.cases.0))
    ]

pub returns-clause-nexts : goal.returns-clause-nexts
returns-clause-nexts g c = trace_end _ _ _ _ _ _ _ _ _ _ _ _ _ _ _ c.loop-step.invariant.progress (omega (arith, c.len-2.ensures, c.len-before.ensures)) refl

pub returns-clause-run : goal.returns-clause-run
returns-clause-run g c = progress_end _ _ _ _ _ _ _ _ _ _ _ _ _ _ _ c.loop-step.invariant.progress (omega (arith, c.len-2.ensures, c.len-before.ensures)) refl

pub returns-clause-spares : goal.returns-clause-spares
returns-clause-spares g c = spares _ _ _ _ _

pub returns-clause-alone : goal.returns-clause-alone
returns-clause-alone g c trace z = all_end_alone _ _ _ _ _ g.met.P.Payload.same_is_equal _ _ trace.traced z trace.each

pub returns-clause-alone_fresh : goal.returns-clause-alone_fresh
returns-clause-alone_fresh g c trace f = fresh_end_alone _ _ _ _ _ g.met.P.Payload.same_is_equal _ _ trace.traced c.requires.begins f trace.each

pub returns-clause-branch_fresh : goal.returns-clause-branch_fresh
returns-clause-branch_fresh g c f =
    let done : c.len-2.result - c.len-before.result ≡ vec_len c.loop-step.moves - vec_len c.args.moves.now = omega (arith, c.len-2.ensures, c.len-before.ensures) in
    run_branch _ _ _ _ _ g.met.P.Payload.same_is_equal _ _ _ _ _ _ c.requires.begins f (trace_end _ _ _ _ _ _ _ _ _ _ _ _ _ _ _ c.loop-step.invariant.progress done refl)

pub returns-clause-filled_fresh : goal.returns-clause-filled_fresh
returns-clause-filled_fresh g c f n =
    let done : c.len-2.result - c.len-before.result ≡ vec_len c.loop-step.moves - vec_len c.args.moves.now = omega (arith, c.len-2.ensures, c.len-before.ensures) in
    run_filled _ _ _ _ _ g.met.P.Payload.same_is_equal _ _ _ _ _ _ c.requires.begins f (trace_end _ _ _ _ _ _ _ _ _ _ _ _ _ _ _ c.loop-step.invariant.progress done refl) n
