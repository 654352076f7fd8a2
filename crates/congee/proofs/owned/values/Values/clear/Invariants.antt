use Rattle.std.proofs.Common.{◌≡◌, ◌-◌, ℕ, ◌<◌, None}
use Rattle.std.specs.FinMap as map
use Rattle.congee.specs.owned.Values.{form_in, kept_in}
use Rattle.congee.proofs.owned.values.Values.clear.Given as goal

abbrev pub invariant-loop-byte : goal.invariant-loop-byte
invariant-loop-byte g l = record {
  form : form_in l.self ≡ form_in l.fn.self;
  gone : (q : ℕ) → q < l.next → map.get (kept_in l.self) q ≡ None;
}

abbrev pub decreases-loop-byte : goal.decreases-loop-byte
decreases-loop-byte g l = 256 - l.next
