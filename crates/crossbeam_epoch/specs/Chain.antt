-- A queue in blocks.
use Rattle.std.specs.Prelude.{◌≡◌, ◌⊎◌, ℕ, zero, suc, ◌+◌, ◌-◌, ◌==◌, ◌<◌, nat_lt, List, [], ◌∷◌, ◌++◌, if◌then◌else◌}

-- what stands in the queue, the oldest in front, and how many more can be queued before memory is asked for
pub record Chain (B : Type 0) : Type 0 where
  pub items : List B
  pub room : ℕ

-- the places of a block
abbrev pub block_places : ℕ
block_places = 32

-- the items of blocks, one block after the other
abbrev pub joined : {B Q : Type 0} → (Q → List B) → List Q → List B
joined items [] = []
joined items (q ∷ qs) = items q ++ joined items qs

-- no block is empty
abbrev pub AreFilled : {Q : Type 0} → (Q → ℕ) → List Q → Type 0
AreFilled len [] = Unit {0}
AreFilled len (q ∷ qs) = (0 < len q) × AreFilled len qs

-- How a queue stands in blocks: where the first one has nothing it is none, and none stands between it and the last one.
-- A last block has 32 places, or is none too, and behind a first one it isn't
pub record AreBlocks {B Q : Type 0} (items : Q → List B) (len capacity : Q → ℕ) (first : Q) (between : List Q) (last : Q) : Type 0 where
  pub filled : AreFilled len between
  pub alone : items first ≡ [] → between ≡ []
  pub gone : items first ≡ [] → capacity first ≡ 0
  pub whole : (capacity last ≡ 0) ⊎ (capacity last ≡ block_places)
  pub more : (items first ≡ [] → ⊥) → capacity last ≡ block_places

-- the room after a reservation: a block of 32 is made where there is none
abbrev pub refilled : ℕ → ℕ
refilled zero = block_places
refilled (suc n) = suc n

-- the room after one more was queued
abbrev pub room_behind : ℕ → ℕ
room_behind room = refilled room - 1

-- the room after the front one was taken, and so many are left: one more where it stood in the last block
abbrev pub room_freed : ℕ → ℕ → ℕ
room_freed left room = if nat_lt (left + room) block_places then room + 1 else room

-- the same, where a block that has nothing left is given up
abbrev pub room_left : ℕ → ℕ → ℕ
room_left left room = if left == 0 then 0 else room_freed left room
