use Rattle.std.proofs.Common.{◌≡◌, ◌∙◌, sym, ap, None, rules}
use Rattle.trial.specs.declared.line.Line.TheVariants as line
use Rattle.trial.specs.Grammar.{IsSkipped}
use Rattle.trial.specs.Parsing.{command_of}
use Rattle.trial.proofs.Lines.{line_sound, line_complete, no_command_so_long, not_skipped, one_meaning}
use Rattle.trial.proofs.Feeding.{long_is_bad}
use Rattle.trial.proofs.line.read.Goals as goal

pub returns-in_default-clause-line : goal.returns-in_default-clause-line
returns-in_default-clause-line c = record {
  no_command = λ d h. no_command_so_long _ d c.in_default.ensures.none h;
  not_skipped = not_skipped _ (sym c.is_empty.ensures ∙ c.if-is_empty.false) c.if-line-eq35.false;
}

pub returns-in-Some-command-clause-line : goal.returns-in-Some-command-clause-line
returns-in-Some-command-clause-line c =
    let read = c.in-Some.ensures.words in
    line_sound c.args.line.now c.in-Some.words.items c.in-Some-command.command c.if-line-gt-LINE_MAX.false read
    (sym (c.command.ensures ∙ ap command_of c.deref.ensures.0) ∙ c.in-Some-command.is)

pub returns-in-None-clause-line : goal.returns-in-None-clause-line
returns-in-None-clause-line c = record {
  no_command = λ d h.
      let parsed = line_complete c.args.line.now c.in-Some.words.items d c.in-Some.ensures.words h in
      let none : command_of c.in-Some.words.items ≡ None = sym (c.command.ensures ∙ ap command_of c.deref.ensures.0) ∙ c.in-None.is in
      cc;
  not_skipped = not_skipped _ (sym c.is_empty.ensures ∙ c.if-is_empty.false) c.if-line-eq35.false;
}

pub returns-in_default-clause-only : goal.returns-in_default-clause-only
returns-in_default-clause-only c = λ other h. one_meaning _ _ other (returns-in_default-clause-line c) h

pub returns-in-Some-command-clause-only : goal.returns-in-Some-command-clause-only
returns-in-Some-command-clause-only c = λ other h. one_meaning _ _ other (returns-in-Some-command-clause-line c) h

pub returns-in-None-clause-only : goal.returns-in-None-clause-only
returns-in-None-clause-only c = λ other h. one_meaning _ _ other (returns-in-None-clause-line c) h

pub returns-then-line-gt-LINE_MAX-clause-only : goal.returns-then-line-gt-LINE_MAX-clause-only
returns-then-line-gt-LINE_MAX-clause-only c = λ other h. one_meaning _ _ other (long_is_bad _ c.if-line-gt-LINE_MAX.true) h

pub returns-then-is_empty-clause-only : goal.returns-then-is_empty-clause-only
returns-then-is_empty-clause-only c = λ other h.
    let is : IsSkipped c.args.line.now = search rules in
    one_meaning _ line.Skipped other is h
