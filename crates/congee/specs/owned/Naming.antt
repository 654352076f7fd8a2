-- Names of nodes as numbers.
use Rattle.std.specs.Prelude.{◌≡◌, ℕ, zero, suc, ◌+◌, ◌%◌, ◌<◌, Option, None, Some}

-- the node has a slot of its own
abbrev pub HasOwnSlot : ℕ → Type 0
HasOwnSlot name = name % 257 ≡ 0

-- a node in a slot comes first among the slot's names, and then the leaves in its places by their bytes
abbrev pub offset_of : Option ℕ → ℕ
offset_of None = 0
offset_of (Some byte) = byte + 1

-- the byte of one of them, none for the slot's own node
abbrev pub byte_of : ℕ → Option ℕ
byte_of zero = None
byte_of (suc byte) = Some byte

-- a byte, if there is one, is below 256
abbrev pub IsByte : Option ℕ → Type 0
IsByte None = Unit {0}
IsByte (Some byte) = byte < 256
