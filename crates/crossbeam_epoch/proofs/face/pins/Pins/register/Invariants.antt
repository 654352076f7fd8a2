use Rattle.std.proofs.Common.{◌≡◌}
use Rattle.crossbeam_epoch.specs.face.Tokens.{known, IsOf}
use Rattle.crossbeam_epoch.proofs.lemmas.face.Pins.{refused_view}
use Rattle.crossbeam_epoch.proofs.face.pins.Pins.register.Given as goal

abbrev pub invariant-loop-place : goal.invariant-loop-place
invariant-loop-place l = record {
  of : IsOf l.fn.self.words.shared.table_id l.token;
  view : known l.token ≡ refused_view (known l.token).seen l.place;
  taken : (known l.token).taken ≡ l.place;
}
