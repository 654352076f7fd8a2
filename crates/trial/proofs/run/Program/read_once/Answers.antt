use Rattle.std.proofs.Common.{◌≡◌, ◌++◌, ℕ, List, length, arith, take, drop, sym, subst, refl, rules}
use Rattle.std.specs.Io.KnownBytes.{Consumes}
use Rattle.std.proofs.Math.Seq.{take-append_seam}
use Rattle.trial.specs.declared.end.End.TheVariants.{Reading}
use Rattle.trial.proofs.Ending.{reading_so, gave_nothing, if_some}
use Rattle.trial.proofs.run.Program.read_once.Goals as goal

pub returns-in-Err-clause-ends : goal.returns-in-Err-clause-ends
returns-in-Err-clause-ends g c = λ had held h. reading_so had _ _ held _ c.args.self.now Reading refl h c.in-Err.ensures.bytes

pub returns-in-Ok-eq0-clause-ends : goal.returns-in-Ok-eq0-clause-ends
returns-in-Ok-eq0-clause-ends g c = λ had held h.
    let zero : c.in-Ok-eq0.field-0 ≡ 0 = omega arith in
    let P : ℕ → Type 0 = λ n. Consumes (g.R.Read.remaining c.args.reader.now) (g.R.Read.remaining c.read.new.self) (take n c.read.new.buf) in
    c.last_line.ensures had _ held (c.in-Ok-eq0.ensures.bytes.1 zero (omega (arith, c.requires.room))) (gave_nothing had _ _ held _ c.args.self.now h (subst P zero c.in-Ok-eq0.ensures.bytes.0))

-- a read leaves nothing behind its buffer
whole : (n : ℕ) (buf items : List ℕ) → length buf ≡ n → take n (buf ++ drop (length buf) items) ≡ buf
whole n buf items e =
    let P : ℕ → Type 0 = λ m. take m (buf ++ drop (length buf) items) ≡ buf in
    subst P e (take-append_seam buf (drop (length buf) items))

pub returns-in-Ok-clause-goes : goal.returns-in-Ok-clause-goes
returns-in-Ok-clause-goes g c = λ none had held h.
    let P : List ℕ → Type 0 = λ t. Consumes (g.R.Read.remaining c.args.reader.now) (g.R.Read.remaining c.read.new.self) (take c.in-Ok.n t) in
    let long : length c.read.new.buf ≡ c.args.chunk.now.len = search rules in
    c.accept.ensures.goes none had _ _ held h (subst P (sym c.deref.ensures.value) (subst P (sym (whole _ _ c.args.chunk.now.items long)) c.in-Ok.ensures.bytes.0))

pub returns-in-Ok-clause-ends : goal.returns-in-Ok-clause-ends
returns-in-Ok-clause-ends g c =
    let P : List ℕ → Type 0 = λ t. Consumes (g.R.Read.remaining c.args.reader.now) (g.R.Read.remaining c.read.new.self) (take c.in-Ok.n t) in
    let long : length c.read.new.buf ≡ c.args.chunk.now.len = search rules in
    if_some c.accept.result _ _ c.accept.ensures.ends
    (λ e f had held h. f had _ _ held h (subst P (sym c.deref.ensures.value) (subst P (sym (whole _ _ c.args.chunk.now.items long)) c.in-Ok.ensures.bytes.0)))
