use Rattle.std.proofs.Common.{ap, sym, ◌∙◌}
use Rattle.std.specs.FinMap as map
use Rattle.judge.proofs.Replays.{get-kept}
use Rattle.judge.proofs.standing.Standing.get.Goals as goal

pub returns : goal.returns
returns c =
    c.copied.ensures
    ∙ c.get.ensures.value
    ∙ sym (get-kept c.self.inside.kept c.args.key)
    ∙ ap (λ m. map.get m c.args.key) c.self.view_is
