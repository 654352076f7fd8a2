use Rattle.std.proofs.Common.{◌≡◌, ◌+◌, ◌<◌, ◌∷◌, [], ◌++◌, ℕ, List, get_or, length, length-set, map, set, take, drop, arith, sym, ◌∙◌, ap, append_assoc}
use Rattle.std.proofs.lemmas.List.{take_more_set, drop-set-lt, drop-drop, map_more}
use Rattle.optimistic.specs.declared.drain.nexts.Pair.{Pair}
use Rattle.optimistic.proofs.tree.run.put_keys.Goals as goal

abbrev none : Pair
none = record { key = 0; value = 0 }

pub loop-i-preserved : goal.loop-i-preserved
loop-i-preserved c =
    let n : ℕ = c.args.count in
    let i : ℕ = c.loop-i.i in
    let out = c.loop-i.out in
    let old = c.args.out.now in
    let pairs = c.args.pairs.now in
    let inv = c.loop-i.invariant in
    let x : ℕ = (get_or pairs i none).key in
    let room = c.requires.room in
    let more = c.requires.more in
    let test = c.loop-i-test.true in
    let same = inv.1 in
    let low : n + i < length out = omega (arith, room, test, same) in
    let few : i < length pairs = omega (arith, more, test) in
    let e : n + (i + 1) ≡ n + i + 1 = omega arith in (
      ap (λ (z : ℕ). take z (set out (n + i) x)) e ∙ (take_more_set out (n + i) x low ∙ (ap (λ (l : List ℕ). l ++ x ∷ []) inv.0 ∙ (append_assoc (take n old) (map (λ (p : Pair). p.key) (take i pairs)) (x ∷ []) ∙ ap (λ (l : List ℕ). take n old ++ l) (sym (map_more (λ (p : Pair). p.key) pairs i none few))))),
      length-set out (n + i) x ∙ same,
      ap (λ (z : ℕ). drop z (set out (n + i) x)) e ∙ drop-set-lt (n + i + 1) out (n + i) x (omega arith) ∙ sym (drop-drop 1 (n + i) out) ∙ ap (λ (l : List ℕ). drop 1 l) inv.2 ∙ drop-drop 1 (n + i) old ∙ ap (λ (z : ℕ). drop z old) (sym e),
    )
