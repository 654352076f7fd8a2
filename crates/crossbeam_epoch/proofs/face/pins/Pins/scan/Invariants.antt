use Rattle.std.proofs.Common.{◌≡◌}
use Rattle.crossbeam_epoch.specs.face.Tokens.{known, IsOf}
use Rattle.crossbeam_epoch.proofs.face.pins.Pins.scan.Given as goal

abbrev pub invariant-loop-place : goal.invariant-loop-place
invariant-loop-place l = IsOf l.fn.self.words.shared.table_id l.token × (known l.token ≡ record (known l.fn.token) { passed = l.place })
