use Rattle.std.proofs.Common.{◌≡◌, ◌<◌, ◌+◌, ◌++◌, ℕ, List, [], ◌∷◌, arith, length, take, drop, sym, subst, ◌∙◌, ap, length-take, length-drop, refl, take-append-drop}
use Rattle.std.specs.List.{remove_range}
use Rattle.trial.specs.Turns.{LinesGo, LinesStop}
use Rattle.trial.proofs.Ending.{memory_end, stops_within, stops_too_long, script_goes_on, in_parts, behind, some_from_false, none_from_true}
use Rattle.trial.proofs.run.Program.accept.Goals as goal

-- what is left without the first
without_front : (xs : List ℕ) (n : ℕ) → remove_range xs 0 n ≡ drop n xs
without_front [] n = refl
without_front (x ∷ xs) n = refl

pub returns-in_default-clause-ends : goal.returns-in_default-clause-ends
returns-in_default-clause-ends g c = λ had mid left held h i. memory_end had mid left held _ _ _ _ _ h i c.requires.read (refl, refl)

pub returns-in-Err-clause-ends : goal.returns-in-Err-clause-ends
returns-in-Err-clause-ends g c = λ had mid left held h i.
    let k = c.min.result in
    let bytes = c.args.bytes.now in
    let old = c.args.self.now in
    let same : c.deref.result.now ≡ c.args.self.now.unread.items ++ take k bytes
    = behind _ _ _ _ _ c.deref.ensures.value c.in-Ok.ensures.items c.split_at.ensures.front in
    let P : List ℕ → Type 0 = λ b. LinesStop old.script (g.W.Write.contents c.args.writer.now) b c.lines.new.self (g.W.Write.contents c.lines.new.writer) c.in-Err.end in
    stops_within had mid left held _ _ (take k bytes) (drop k bytes) old (record old { script = c.lines.new.self; unread = c.extend_from_slice.new.self }) c.in-Err.end h
    (in_parts mid left bytes k i) (omega (arith, ap length (take-append-drop k bytes), c.requires.read)) (subst P same c.in-Err.ensures.err)

pub returns-then-not-is_empty-clause-ends : goal.returns-then-not-is_empty-clause-ends
returns-then-not-is_empty-clause-ends g c = λ had mid left held h i.
    let k = c.min.result in
    let bytes = c.args.bytes.now in
    let old = c.args.self.now in
    let least = c.min.ensures in
    let some : 0 < length (drop k bytes) = some_from_false _ _ (ap length c.split_at.ensures.back) (sym c.is_empty.ensures ∙ c.if-not-is_empty.true) in
    let same : c.deref.result.now ≡ c.args.self.now.unread.items ++ take k bytes
    = behind _ _ _ _ _ c.deref.ensures.value c.in-Ok.ensures.items c.split_at.ensures.front in
    let P : List ℕ → Type 0 = λ b. LinesGo old.script (g.W.Write.contents c.args.writer.now) b c.lines.new.self (g.W.Write.contents c.lines.new.writer)
    (drop c.in-Ok-lines.answered c.deref.result.now) in
    stops_too_long had mid left held _ _ (take k bytes) (drop k bytes) _ old c.lines.new.self h (in_parts mid left bytes k i) (subst P same c.in-Ok-lines.ensures.ok.0)
    c.in-Ok-lines.ensures.ok.1 some (omega (arith, some, length-take k bytes, length-drop k bytes, c.requires.bound))

pub returns-clause-goes : goal.returns-clause-goes
returns-clause-goes g c = λ none had mid left held h i.
    let k = c.min.result in
    let bytes = c.args.bytes.now in
    let old = c.args.self.now in
    let least = c.min.ensures in
    let empty : length (drop k bytes) ≡ 0 = none_from_true _ _ (ap length c.split_at.ensures.back) (sym c.is_empty.ensures ∙ c.if-not-is_empty.false) in
    let same : c.deref.result.now ≡ c.args.self.now.unread.items ++ take k bytes
    = behind _ _ _ _ _ c.deref.ensures.value c.in-Ok.ensures.items c.split_at.ensures.front in
    let P : List ℕ → Type 0 = λ b. LinesGo old.script (g.W.Write.contents c.args.writer.now) b c.lines.new.self (g.W.Write.contents c.lines.new.writer)
    (drop c.in-Ok-lines.answered c.deref.result.now) in
    script_goes_on had mid left held _ _ (take k bytes) (drop k bytes) (drop c.in-Ok-lines.answered c.deref.result.now) old
    (record { script = c.lines.new.self; unread = c.drop-drain.new.self.0; taken = old.taken + length bytes })
    h (in_parts mid left bytes k i) (subst P same c.in-Ok-lines.ensures.ok.0) c.in-Ok-lines.ensures.ok.1 c.in-Ok-lines.ensures.ok.2
    (c.drop-drain.ensures.items ∙ c.drain.ensures.kept ∙ without_front c.extend_from_slice.new.self.items c.in-Ok-lines.answered ∙ ap (drop c.in-Ok-lines.answered) (sym c.deref.ensures.value)) empty
    (omega (arith, length-take k bytes, length-drop k bytes)) (omega (arith, length-drop k bytes, c.requires.bound))
