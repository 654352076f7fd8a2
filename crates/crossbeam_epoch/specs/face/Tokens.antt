-- The token of a participant, which its handle steps with.
use Rattle.std.specs.Prelude.{ℕ, ◌≡◌, nat_lt, if◌then◌else◌, [], None, Some}
use Rattle.atomic_table.specs.Seated.{TableId}
use Rattle.atomic_table.specs.declared.shared.Seat.{Seat}
use Rattle.crossbeam_epoch.specs.declared.face.seats.View.{View}

-- what the token knows
abbrev pub known : {S : Type 0} → Seat S View → View
known t = t.me.0

-- the token is one of these words'
abbrev pub IsOf : {S : Type 0} → TableId → Seat S View → Type 0
IsOf id t = (t.table_id ≡ id) × (t.me.1 ≡ [])

-- what a participant knows that is unpinned and saw this epoch, having passed so many places since then
abbrev pub unpinned_view : ℕ → ℕ → ℕ → View
unpinned_view place seen passed = record { place = Some place; at = None; pin = None; seen = seen; passed = passed; asked = 0; taken = 0 }

-- the same for one that is pinned at an epoch, confirmed by another
abbrev pub pinned_view : ℕ → ℕ → ℕ → ℕ → ℕ → View
pinned_view place at epoch seen passed = record { place = Some place; at = Some at; pin = Some epoch; seen = seen; passed = passed; asked = 0; taken = 0 }

-- what a handle knows that has so many guards out
abbrev pub with_guards : ℕ → ℕ → ℕ → ℕ → ℕ → ℕ → View
with_guards guards place at epoch seen passed = if nat_lt 0 guards then pinned_view place at epoch seen passed else unpinned_view place seen passed
