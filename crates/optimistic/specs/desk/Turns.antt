-- Whether a caller has the value.
use Rattle.std.specs.Prelude.{◌≡◌, [], ◌∷◌, Option, None}
use Rattle.atomic_table.specs.declared.shared.Seat.{Seat}
use Rattle.optimistic.specs.declared.desk.place.Desk.{Desk}

module _ {T K F : Type 0} where
  -- it doesn't have the value
  abbrev pub IsCaller : Desk T K F → Seat (Option T) K → Type 0
  IsCaller d c = (c.table_id ≡ d.table.shared.table_id) × (c.me ≡ (d.table.shared.key, []))

  -- it has the value taken out, and nothing lies in its place
  abbrev pub HasIt : Desk T K F → Seat (Option T) K → Type 0
  HasIt d c = (c.table_id ≡ d.table.shared.table_id) × (c.me ≡ (d.table.shared.key, (0, None) ∷ []))
