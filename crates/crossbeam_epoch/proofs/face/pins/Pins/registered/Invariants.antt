use Rattle.std.proofs.Common.{◌≡◌, ◌≤◌}
use Rattle.crossbeam_epoch.specs.face.Tokens.{known, IsOf}
use Rattle.crossbeam_epoch.proofs.face.pins.Pins.registered.Given as goal

abbrev pub invariant-loop-place : goal.invariant-loop-place
invariant-loop-place l = record {
  of : IsOf l.fn.self.words.shared.table_id l.token;
  asked : (known l.token).asked ≡ l.place;
  taken : (known l.token).taken ≡ l.taken;
  few : l.taken ≤ l.place;
}
