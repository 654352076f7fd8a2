use Rattle.std.proofs.Common.{ℕ, ◌+◌, ◌<◌, List, Option, length, drop, length-set, ap, sym, ◌∙◌, arith}
use Rattle.std.proofs.lemmas.List.{drop-set-lt, drop-drop}
use Rattle.optimistic.proofs.lemmas.face.Knowing.{saw_trans}
use Rattle.optimistic.proofs.lemmas.face.Many.{answered_put}
use Rattle.optimistic.proofs.lemmas.face.Scanning.{starts_trans}
use Rattle.optimistic.proofs.face.worker.Worker.get_many.Goals as goal

pub loop-place-preserved : goal.loop-place-preserved
loop-place-preserved g c =
    let i = c.loop-place.invariant in
    let n : ℕ = c.loop-place.place in
    let keys = c.args.keys.now in
    let out = c.loop-place.out in
    let old = c.args.out.now in
    let v = c.args.self.now in
    let u = c.loop-place.self in
    let m = c.look_ahead.new.self in
    let w = c.get_ahead.new.self in
    let found = c.get_ahead.ensures.found in
    let same = i.2 in
    let here : n < length keys = omega (arith, c.min-count.ensures) in
    let room : n < length out = omega (arith, c.min-count.ensures, same) in (
      answered_put v.seen keys out n 0 u.seen w.seen c.get_ahead.result here room i.0 (starts_trans u.seen m.seen w.seen c.look_ahead.ensures.saw.3 found.0.0.3) found.1,
      saw_trans v m w (saw_trans v u m i.1 c.look_ahead.ensures.saw) found.0.0,
      length-set out n c.get_ahead.result ∙ same,
      drop-set-lt (n + 1) out n c.get_ahead.result (omega arith) ∙ sym (drop-drop 1 n out) ∙ ap (λ (l : List (Option ℕ)). drop 1 l) i.3 ∙ drop-drop 1 n old,
      c.get_ahead.ensures.known,
    )

pub get_ahead-requires-clause-turn : goal.get_ahead-requires-clause-turn
get_ahead-requires-clause-turn g c = omega arith
