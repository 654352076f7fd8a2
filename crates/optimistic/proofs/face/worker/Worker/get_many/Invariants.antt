use Rattle.std.specs.Prelude.{◌≡◌, length, take, drop}
use Rattle.optimistic.specs.face.Calls.{Saw}
use Rattle.optimistic.specs.face.Many.{Answered}
use Rattle.optimistic.specs.tree.Trails.{AreKnown}
use Rattle.optimistic.proofs.face.worker.Worker.get_many.Given as goal

abbrev pub invariant-loop-place : goal.invariant-loop-place
invariant-loop-place g l =
    Answered l.initial.self.seen (take l.place l.keys) (take l.place l.out) l.self.seen × Saw l.initial.self l.self × (length l.out ≡ length l.initial.out)
    × (drop l.place l.out ≡ drop l.place l.initial.out)
    × AreKnown l.ahead l.self.moment
