use Rattle.std.proofs.Common.{List, ℕ, length, sym, subst, refl}
use Rattle.std.proofs.Math.Seq.{take-length}
use Rattle.std.specs.Io.KnownBytes.{Appends}
use Rattle.std.proofs.KnownBytes.{Appends-kept}
use Rattle.trial.proofs.output.print.Goals as goal

pub returns-in-Err-clause-err : goal.returns-in-Err-clause-err
returns-in-Err-clause-err g c =
    let text = c.args.text.now in
    let P : List ℕ → Type 0 = Appends (g.W.Write.contents c.args.writer.now) (g.W.Write.contents c.flush.new.self) in
    (refl, length text, subst P (sym (take-length text)) (Appends-kept _ _ _ _ c.in_ok-write_all.ensures.ok c.in-Err.ensures.bytes))
