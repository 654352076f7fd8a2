use Rattle.std.proofs.Common.{subst, sym, ap, ◌∙◌, rules}
use Rattle.trial.specs.VersionsAtOnce.{Shows, shown_by}
use Rattle.trial.proofs.VersionsSpared.{stays, tells}
use Rattle.trial.proofs.examples.versions.at_once.read.Goals as goal

pub returns-clause-shown : goal.returns-clause-shown
returns-clause-shown g c =
    let found = c.at_or_before-found.ensures in
    let once = found.1.1 in
    record {
      log = once.log;
      after = once.after;
      before = once.before;
      holds = subst (λ value. Shows once.log c.args.row c.args.stamp value) (sym (c.shown.ensures ∙ ap (shown_by c.args.row) found.2)) (tells once.log c.args.row c.args.stamp found.0 (search rules) once.holds);
    }

pub returns-clause-stays : goal.returns-clause-stays
returns-clause-stays g c = λ value shows spare. stays _ _ c.args.row c.args.stamp value _ (returns-clause-shown g c) shows spare
