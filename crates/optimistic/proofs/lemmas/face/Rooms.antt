-- How much room a refused write wants at most.
use Rattle.std.proofs.Common.{ℕ, ◌+◌, ◌<◌, ◌≤◌, eqb, Bool, true, false, if◌then◌else◌, arith}
use Rattle.optimistic.specs.Layout.{width}
use Rattle.optimistic.specs.declared.face.refusal.Refusal.TheVariants.{Full}
use Rattle.optimistic.specs.words.Room.{used}
use Rattle.optimistic.specs.face.Calls.{Known}
use Rattle.optimistic.specs.face.Refusals.{IsRefused}

-- the largest node has 520 words
width_most : (form : ℕ) → width form ≤ 520
unfolding width
width_most form = go (eqb form 1) (eqb form 2) (eqb form 3) (eqb form 4) (eqb form 5) (eqb form 6) (eqb form 7) (eqb form 8)
  where
    go : (a b c d e h i j : Bool) → (if a then 12 else (if b then 40 else (if c then 112 else (if d then 520 else (if e then 8 else (if h then 24 else (if i then 64 else (if j then 264 else 0)))))))) ≤ 520
    go true b c d e h i j = omega arith
    go false true c d e h i j = omega arith
    go false false true d e h i j = omega arith
    go false false false true e h i j = omega arith
    go false false false false true h i j = omega arith
    go false false false false false true i j = omega arith
    go false false false false false false true j = omega arith
    go false false false false false false false true = omega arith
    go false false false false false false false false = omega arith

pub full_wants : (v w : Known) → IsRefused Full v w → w.index.words < used w.moment + 520
full_wants v w t = let m = t.1 in let wide : width m.0 ≤ 520 = width_most m.0 in let less : w.index.words < used w.moment + width m.0 = m.3 in omega arith
