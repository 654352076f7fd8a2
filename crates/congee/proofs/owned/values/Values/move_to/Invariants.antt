use Rattle.std.proofs.Common.{◌≡◌, ◌-◌}
use Rattle.congee.specs.owned.Values.{form_in, kept_in}
use Rattle.congee.proofs.lemmas.forms.MoveLemmas.{HavePoured}
use Rattle.congee.proofs.owned.values.Values.move_to.Given as goal

abbrev pub invariant-loop-byte : goal.invariant-loop-byte
invariant-loop-byte g l = record {
  moved_form : form_in l.other ≡ form_in l.fn.other;
  moves : HavePoured (kept_in l.fn.self) (kept_in l.self) (kept_in l.other) l.from;
}

abbrev pub decreases-loop-byte : goal.decreases-loop-byte
decreases-loop-byte g l = 256 - l.from
