-- What a read of a node finds whose lock word isn't the one that was taken.
use Rattle.std.specs.Prelude.{◌≡◌, ℕ, true, false, Option, None, Some}
use Rattle.congee.specs.declared.forms.child.Child.{Child}
use Rattle.congee.specs.declared.forms.child.Child.TheVariants as child
use Rattle.congee.specs.declared.protocol.store.Seen.{Seen}
use Rattle.congee.specs.declared.protocol.store.Reading.{Reading}
use Rattle.congee.specs.declared.protocol.store.Reading.TheVariants.{Differs, Fits, Uncopied}
use Rattle.congee.specs.declared.protocol.store.Least.{Least}
use Rattle.congee.specs.declared.protocol.store.Least.TheVariants as least
use Rattle.congee.specs.Heap.{Node, is_taken}

-- what was to be seen; where nothing was, no child, a node that isn't full, and no children
abbrev pub IsSeen : {C V : Type 0} → Option (Seen C V) → Seen C V → Type 0
IsSeen None s = (s.child ≡ child.Blank) × (s.full ≡ false) × (s.count ≡ 0)
IsSeen (Some x) s = (s.child ≡ x.child) × (s.full ≡ x.full) × (s.count ≡ x.count)

-- a copy fails only of a value that stands
abbrev pub ReadSees : {C V : Type 0} → Node V → ℕ → Option (Seen C V) → Reading C V → Type 0
ReadSees n v seen (Differs common byte) = Unit {0}
ReadSees n v seen (Fits depth form s) = is_taken n v ≡ false → IsSeen seen s
ReadSees n v seen Uncopied = is_taken n v ≡ true

-- the same of the least child: what was to be seen at its byte
abbrev pub least_seen : {C V : Type 0} → ℕ → Child C V → Least C V
least_seen byte child.Blank = least.Nothing
least_seen byte (child.Node c) = least.Node byte c
least_seen byte (child.Value v) = least.Value byte v

-- a read finds it, or nothing
abbrev pub LeastSeen : {C V : Type 0} → Option (Seen C V) → Least C V → Type 0
LeastSeen None r = r ≡ least.Nothing
LeastSeen (Some x) r = r ≡ least_seen x.byte x.child

-- so it is where the lock word isn't the one that was taken
abbrev pub LeastSees : {C V : Type 0} → Node V → ℕ → Option (Seen C V) → Least C V → Type 0
LeastSees n v seen r = is_taken n v ≡ false → LeastSeen seen r
