use Rattle.std.proofs.Common.{ℕ, ◌+◌, ◌<◌, List, [], Option, refl, length, length-set, drop, ap, sym, ◌∙◌, arith}
use Rattle.std.proofs.lemmas.List.{drop-set-lt, drop-drop}
use Rattle.optimistic.proofs.lemmas.face.Knowing.{saw_refl, saw_trans}
use Rattle.optimistic.proofs.lemmas.face.Many.{answered_none, answered_put_words}
use Rattle.optimistic.proofs.lemmas.face.Scanning.{starts_trans}
use Rattle.optimistic.proofs.face.congee.WordWorker.get_many.Goals as goal

pub loop-place-init : goal.loop-place-init
loop-place-init g c = (([], answered_none c.args.self.now.seen, refl), saw_refl c.args.self.now, refl, refl, c.ahead-ahead.ensures)

pub key_at-requires : goal.key_at-requires
key_at-requires g c = omega (arith, c.min-count.ensures)

pub loop-place-preserved : goal.loop-place-preserved
loop-place-preserved g c =
    let i = c.loop-place.invariant in
    let n : ℕ = c.loop-place.place in
    let keys = c.args.keys.now in
    let out = c.loop-place.out in
    let old = c.args.out.now in
    let v = c.args.self.now in
    let u = c.loop-place.self in
    let m = c.look_ahead.new.self in
    let w = c.get_word.new.self in
    let y = c.get_word.result in
    let same = i.2 in
    let here : n < length keys = omega (arith, c.min-count.ensures) in
    let room : n < length out = omega (arith, c.min-count.ensures, same) in
    let e = c.get_word.ensures.found in (
      answered_put_words g.K.Word64.word g.V.Word64.of_word v.seen keys out n c.key_at.result u.seen w.seen e.0 y here room c.key_at.ensures i.0 (starts_trans u.seen m.seen w.seen c.look_ahead.ensures.saw.3 e.1.0.0.3) e.1.1 e.2,
      saw_trans v m w (saw_trans v u m i.1 c.look_ahead.ensures.saw) e.1.0.0,
      length-set out n y ∙ same,
      drop-set-lt (n + 1) out n y (omega arith) ∙ sym (drop-drop 1 n out) ∙ ap (λ (l : List (Option g.row.V.Denot)). drop 1 l) i.3 ∙ drop-drop 1 n old,
      c.get_word.ensures.known,
    )

pub get_word-requires-clause-turn : goal.get_word-requires-clause-turn
get_word-requires-clause-turn g c = omega arith
