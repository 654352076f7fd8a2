use Rattle.std.specs.Prelude.{◌≡◌, ℕ, List, Option, length, map, take, drop}
use Rattle.std.specs.Option.{option_map}
use Rattle.optimistic.specs.face.Calls.{Saw}
use Rattle.optimistic.specs.face.Many.{Answered}
use Rattle.optimistic.specs.face.Words.{As}
use Rattle.optimistic.specs.tree.Trails.{AreKnown}
use Rattle.optimistic.proofs.face.congee.WordWorker.get_many.Given as goal

abbrev pub invariant-loop-place : goal.invariant-loop-place
invariant-loop-place g l =
    As (λ (xs : List (Option ℕ)). Answered l.initial.self.seen (map g.K.Word64.word (take l.place l.keys)) xs l.self.seen) (map (option_map g.V.Word64.of_word)) (take l.place l.out) × Saw l.initial.self l.self
    × (length l.out ≡ length l.initial.out) × (drop l.place l.out ≡ drop l.place l.initial.out)
    × AreKnown l.ahead l.self.moment
