use Rattle.std.proofs.Common.{None, ap, sym, ◌∙◌}
use Rattle.std.specs.FinMap as map
use Rattle.judge.proofs.Replays.{get-kept, updated}
use Rattle.judge.proofs.standing.Standing.remove.Goals as goal

pub returns-clause-before : goal.returns-clause-before
returns-clause-before c =
    c.remove.ensures.value
    ∙ sym (get-kept c.self.inside.kept c.args.key)
    ∙ ap (λ m. map.get m c.args.key) c.self.view_is

pub returns-clause-after : goal.returns-clause-after
returns-clause-after c =
    updated c.self.inside.kept c.remove.new.self c.args.key None c.remove.ensures.updates
    ∙ ap (λ m. map.remove m c.args.key) c.self.view_is
