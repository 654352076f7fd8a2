use Rattle.std.proofs.Common.{List, ℕ, length, sym, subst, refl, rules}
use Rattle.std.proofs.Math.Seq.{take-length}
use Rattle.std.specs.Io.KnownBytes.{Appends}
use Rattle.std.proofs.KnownBytes.{Appends-kept}
use Rattle.trial.proofs.output.Output.flush.Goals as goal
use Rattle.trial.proofs.output.Output.flush.Goals.{in-Ok, in-Err}

pub returns-clause-err : goal.returns-clause-err
returns-clause-err g c = elim c.match-flush.branch [
  | in-Ok w ↦ rw w.result-is tt
  | in-Err w ↦
      let held = c.args.self.now in
      let wrote : Appends (g.W.Write.contents c.args.writer.now) (g.W.Write.contents c.write_all.new.writer) held = search rules in
      let P : List ℕ → Type 0 = Appends (g.W.Write.contents c.args.writer.now) (g.W.Write.contents c.flush.new.self) in
      rw w.result-is (refl, length held, subst P (sym (take-length held)) (Appends-kept _ _ _ _ wrote w.in-Err.ensures.bytes))
]
