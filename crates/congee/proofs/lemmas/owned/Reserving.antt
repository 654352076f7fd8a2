-- Room for more nodes.
use Rattle.std.proofs.Common.{◌≡◌, ℕ, ◌+◌, ◌≤◌, arith}
use Rattle.std.specs.Prelude.{Result, Ok, Err, OnOk}
use Rattle.slab.specs.Slab.{Slab, HasRoomFor}
use Rattle.congee.specs.owned.Slots.{nodes_in}
use Rattle.congee.specs.owned.Storage.{IsStored}
use Rattle.congee.specs.declared.owned.slots.Slot.{Slot}
use Rattle.congee.proofs.lemmas.owned.SlotComes.{wider_stored}

-- room for the leaves in their parents' places and for more is room for more
pub reserved_room : {P K U V : Type 0} (s s' : Slab (Slot P K)) (inline : ℕ) → IsStored s inline → s'.slots ≡ s.slots → s.capacity ≤ s'.capacity → (n wanted : ℕ) → wanted ≡ inline + n → (r : Result U V) → OnOk r (HasRoomFor s' wanted) → OnOk r (HasRoomFor (nodes_in s') n)
unfolding nodes_in
reserved_room s s' inline st e cap n wanted w (Ok u) h = let k = (wider_stored s s' inline st e cap).counted in omega (arith, k, w, h)
reserved_room s s' inline st e cap n wanted w (Err x) h = h
