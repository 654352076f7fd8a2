-- What is left of children that went over into another node.
use Rattle.std.proofs.Common.{◌≡◌, ◌≢◌, ℕ, refl}
use Rattle.congee.specs.Heap.{Hung, Nothing, Below, Holds}
use Rattle.congee.specs.protocol.Events.{kept}

-- of nodes all, and of values nothing
pub kept_node : {V : Type 0} (x : Hung V) → ((v : V) → x ≢ Holds v) → kept x ≡ x
kept_node Nothing n = refl
kept_node (Below c) n = refl
kept_node (Holds v) n = absurd (n v refl)

-- nothing is left of what isn't a node
pub kept_value : {V : Type 0} (x : Hung V) → ((c : ℕ) → x ≢ Below c) → kept x ≡ Nothing
kept_value Nothing n = refl
kept_value (Below c) n = absurd (n c refl)
kept_value (Holds v) n = refl
