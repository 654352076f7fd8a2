use Rattle.std.specs.Prelude.{map, take}
use Rattle.optimistic.specs.face.Many.{PutAll}
use Rattle.optimistic.specs.face.Words.{in_words}
use Rattle.optimistic.proofs.face.congee.WordWorker.insert_many.Given as goal

abbrev pub invariant-loop-place : goal.invariant-loop-place
invariant-loop-place g l = PutAll (map (in_words g.K.Word64.word g.V.Word64.word) (take l.place l.pairs)) l.initial.self l.self
