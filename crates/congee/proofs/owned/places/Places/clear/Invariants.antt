use Rattle.std.proofs.Common.{◌≡◌, ◌-◌, ℕ, ◌<◌, None}
use Rattle.std.specs.FinMap as map
use Rattle.congee.specs.owned.Entries.{form_in, entries_in}
use Rattle.congee.proofs.owned.places.Places.clear.Given as goal

abbrev pub invariant-loop-byte : goal.invariant-loop-byte
invariant-loop-byte g l = record {
  form : form_in l.self ≡ form_in l.fn.self;
  gone : (q : ℕ) → q < l.next → map.get (entries_in l.self) q ≡ None;
}

abbrev pub decreases-loop-byte : goal.decreases-loop-byte
decreases-loop-byte g l = 256 - l.next
