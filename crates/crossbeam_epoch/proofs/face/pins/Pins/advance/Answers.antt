use Rattle.std.proofs.Common.{ap, ◌∙◌}
use Rattle.crossbeam_epoch.specs.declared.face.seats.View.{View}
use Rattle.crossbeam_epoch.specs.face.Tokens.{known}
use Rattle.crossbeam_epoch.proofs.lemmas.face.Guards.{read_on}
use Rattle.crossbeam_epoch.proofs.face.pins.Pins.advance.Goals as goal

pub returns-clause-read : goal.returns-clause-read
returns-clause-read c =
    let now = known c.scan.new.token in
    read_on (known c.args.token.now) now c.look-seen.result c.raise.result.0 now.passed (c.scan.ensures.view ∙ ap (λ (v : View). record v { passed = now.passed }) c.look-seen.ensures.view) c.look-seen.ensures.read c.raise.ensures.read
