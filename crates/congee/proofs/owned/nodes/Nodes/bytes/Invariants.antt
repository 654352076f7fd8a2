use Rattle.std.proofs.Common.{◌≡◌, ◌+◌}
use Rattle.congee.specs.owned.Sizes.{bytes_of}
use Rattle.congee.proofs.lemmas.owned.SlotBytes.{slots_left}
use Rattle.congee.proofs.owned.nodes.Nodes.bytes.Given as goal

abbrev pub invariant-loop-slot : goal.invariant-loop-slot
invariant-loop-slot g l =
    (goal.iterator-loop-slot g).can_next l.slot-iterator ×
    ((goal.iterator-loop-slot g).is_finite l.slot-iterator
    × (l.bytes + slots_left l.slot-iterator ≡ bytes_of l.fn.self))
