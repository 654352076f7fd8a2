-- What holds of a worker between two calls.
use Rattle.std.specs.Prelude.{◌≡◌, ℕ, [], false, length, None, Result, Ok, Err}
use Rattle.atomic_table.specs.Seated.{TableId}
use Rattle.atomic_table.specs.declared.shared.Seat.{Seat}
use Rattle.optimistic.specs.declared.face.refusal.Refusal.{Refusal}
use Rattle.optimistic.specs.declared.face.refusal.Refusal.TheVariants.{Full}
use Rattle.optimistic.specs.declared.face.writes.Written.{Written}
use Rattle.optimistic.specs.declared.face.writes.Written.TheVariants.{Made, Differs}
use Rattle.optimistic.specs.declared.tree.fresh.Free.{Free}
use Rattle.optimistic.specs.declared.tree.write.Write.{Write}
use Rattle.optimistic.specs.declared.words.rule.Note.{Note}
use Rattle.optimistic.specs.declared.words.rule.View.{View}
use Rattle.optimistic.specs.words.Kept.{has, view_of}
use Rattle.optimistic.specs.words.Told.{view, IsNote}
use Rattle.optimistic.specs.tree.Fresh.{IsFreeOf}
use Rattle.optimistic.specs.tree.Sets.{Allows}
use Rattle.optimistic.specs.face.Calls.{Known, Wrote, Found}
use Rattle.optimistic.specs.face.Refusals.{IsRefused}

abbrev pub known : TableId → View → Known
known id v = record { index = id; moment = v.seen; seen = v.seen.log; made = v.made; by = v.by }

-- a hand has no node
abbrev pub HasNone : View → Type 0
HasNone v = (n : ℕ) → has v.mine n ≡ false

-- these are names of nodes at the moment that the note tells
abbrev pub HasNames : TableId → Free → Seat Note View → Type 0
HasNames id free note = IsNote id (view note).told note × (length (view note).told.words ≡ id.words) × IsFreeOf free (view_of (view note).told [] [] 0)

-- what came of a write: it was made where it was to be, or it wasn't to be made, or nothing was done
abbrev pub IsWritten : Write → Known → Known → Result Written Refusal → Type 0
IsWritten write v w (Ok (Made old)) = Wrote write.key write.value old v w × Allows write old
IsWritten write v w (Ok (Differs x)) = Found write.key x v w × (Allows write x → ⊥)
IsWritten write v w (Err e) = IsRefused e v w

-- a write is refused for want of room only where it is to be made at a key that has nothing
abbrev pub WantsRoom : Write → Result Written Refusal → Type 0
WantsRoom write r = r ≡ Err Full → Allows write None
