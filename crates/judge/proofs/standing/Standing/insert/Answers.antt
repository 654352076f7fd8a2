use Rattle.std.proofs.Common.{Some, ap, sym, ◌∙◌}
use Rattle.std.specs.FinMap as map
use Rattle.judge.proofs.Replays.{get-kept, updated}
use Rattle.judge.proofs.standing.Standing.insert.Goals as goal

pub returns-clause-before : goal.returns-clause-before
returns-clause-before c =
    c.in_ok-insert.ensures.old
    ∙ sym (get-kept c.self.inside.kept c.args.key)
    ∙ ap (λ m. map.get m c.args.key) c.self.view_is

pub returns-clause-after : goal.returns-clause-after
returns-clause-after c =
    updated c.self.inside.kept c.insert.new.self c.args.key (Some c.args.value) c.in_ok-insert.ensures.updates
    ∙ ap (λ m. map.insert m c.args.key c.args.value) c.self.view_is
