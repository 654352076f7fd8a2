use Rattle.std.proofs.Common.{◌-◌, ◌++◌, length, take, drop, sym, ap, subst, ◌∙◌, arith, length-take, take-add}
use Rattle.std.proofs.lemmas.List.{take-take}
use Rattle.std.specs.Io.KnownBytes.{Appends}
use Rattle.std.proofs.KnownBytes.{Appends-trans}
use Rattle.trial.proofs.output.write_all.Goals as goal

pub loop-written-preserved : goal.loop-written-preserved
loop-written-preserved g c =
    let done = c.loop-written.written in
    let n = c.in-Ok.n in
    let bytes = c.args.bytes.now in
    let most = length-take (length bytes - done) (drop done bytes) in
    let fits = c.in-Ok.ensures.bound in
    let joined = ap (λ front. take done bytes ++ front) (take-take n (length bytes - done) (drop done bytes) (omega arith)) ∙ sym (take-add done n bytes) in
    record {
      within = omega (arith, c.loop-written.invariant.within);
      wrote = subst (Appends _ _) joined (Appends-trans _ _ _ _ _ c.loop-written.invariant.wrote c.in-Ok.ensures.bytes);
    }
