use Rattle.std.proofs.Common.{◌≡◌, ℕ, ◌-◌, length}
use Rattle.std.specs.Prelude.{Some}
use Rattle.slab.specs.Slab.{get}
use Rattle.congee.specs.owned.Arena.{heap_of}
use Rattle.congee.specs.declared.forms.base_node.Node.{Node as Form}
use Rattle.congee.proofs.lemmas.owned.Surveys.{Counted}
use Rattle.congee.proofs.lemmas.owned.Weights.{BytesPassed}
use Rattle.congee.proofs.owned.arena.Arena.+count_from.Given as goal

abbrev pub decreases-count_from : goal.decreases-count_from
decreases-count_from g l = 8 - length (heap_of l.self.now.nodes l.at).prefix

abbrev pub invariant-loop-byte : goal.invariant-loop-byte
invariant-loop-byte g l =
    (x : Form ℕ _) → get l.self.nodes l.fn.at ≡ Some x → Counted l.self.nodes l.fn.stats l.stats l.fn.level x l.from × BytesPassed l.self.nodes x l.from

abbrev pub decreases-loop-byte : goal.decreases-loop-byte
decreases-loop-byte g l = 256 - l.from
