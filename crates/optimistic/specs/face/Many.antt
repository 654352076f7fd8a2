-- What calls tell that stand for many.
use Rattle.std.specs.Prelude.{◌≡◌, ℕ, ◌<◌, List, [], ◌∷◌, length, take, Option, Some, Result, Ok, Err}
use Rattle.optimistic.specs.declared.drain.nexts.Pair.{Pair}
use Rattle.optimistic.specs.declared.face.refusal.Uninserted.{Uninserted}
use Rattle.optimistic.specs.declared.words.rule.Entry.{Entry}
use Rattle.optimistic.specs.words.Kept.{value_of, StartsWith}
use Rattle.optimistic.specs.face.Calls.{Known, Saw, Wrote}
use Rattle.optimistic.specs.face.Refusals.{HasCause}

-- each key had its answer at a moment, and these moments rise, from one log up to another
abbrev pub Answered : List Entry → List ℕ → List (Option ℕ) → List Entry → Type 0
Answered seen [] [] end = StartsWith end seen
Answered seen (k ∷ ks) (x ∷ xs) end = (log : List Entry) × StartsWith log seen × (x ≡ value_of k log) × Answered log ks xs end
Answered seen [] (x ∷ xs) end = ⊥
Answered seen (k ∷ ks) [] end = ⊥

-- each pair's value was put at its key by one decided call, one pair after the other
abbrev pub PutAll : List Pair → Known → Known → Type 0
PutAll [] v w = Saw v w
PutAll (p ∷ ps) v w = (u : Known) × (old : Option ℕ) × Wrote p.key (Some p.value) old v u × PutAll ps u w

-- it is the same worker at the same index, and has seen no less
abbrev pub IsSameWorker : Known → Known → Type 0
IsSameWorker v w = (w.index ≡ v.index) × (w.by ≡ v.by) × StartsWith w.seen v.seen

-- all pairs were put, or those before a place: the one there was refused, and nothing was done of it, for this cause
abbrev pub AreInserted : List Pair → Known → Known → Result (Unit {0}) Uninserted → Type 0
AreInserted pairs v w (Ok done) = PutAll pairs v w
AreInserted pairs v w (Err e) = (e.place < length pairs) × PutAll (take e.place pairs) v w × HasCause e.refusal w
