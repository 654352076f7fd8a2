use Rattle.std.proofs.Common.{ℕ, List, sym, subst, ◌∙◌}
use Rattle.trial.specs.Turns.{LineGoes, LineStops}
use Rattle.trial.proofs.Ending.{done_empty, done_line, stops_last, empty_from_length, none_from_true, some_from_false}
use Rattle.trial.proofs.run.Program.last_line.Goals as goal

pub returns-then-is_empty : goal.returns-then-is_empty
returns-then-is_empty g c = λ had left held h i.
    done_empty had left held _ _ (empty_from_length _ (none_from_true _ _ c.args.self.now.unread.ok.0 (sym c.is_empty.ensures ∙ c.if-is_empty.true))) h i

pub returns-in-Ok : goal.returns-in-Ok
returns-in-Ok g c = λ had left held h i.
    let P : List ℕ → Type 0 = λ b. LineGoes c.args.self.now.script (g.W.Write.contents c.args.writer.now) b c.line.new.self (g.W.Write.contents c.line.new.writer) in
    done_line had left held _ _ c.args.self.now c.line.new.self (some_from_false _ _ c.args.self.now.unread.ok.0 (sym c.is_empty.ensures ∙ c.if-is_empty.false))
    (subst P c.deref.ensures.value c.in-Ok.ensures.ok) h i

pub returns-in-Err : goal.returns-in-Err
returns-in-Err g c = λ had left held h i.
    let old = c.args.self.now in
    let P : List ℕ → Type 0 = λ b. LineStops old.script (g.W.Write.contents c.args.writer.now) b c.line.new.self (g.W.Write.contents c.line.new.writer) c.in-Err.end in
    stops_last had left held _ _ old (record old { script = c.line.new.self }) c.in-Err.end
    (some_from_false _ _ old.unread.ok.0 (sym c.is_empty.ensures ∙ c.if-is_empty.false)) (subst P c.deref.ensures.value c.in-Err.ensures.err) h i
