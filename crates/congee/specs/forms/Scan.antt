-- What is left of a scan of a node's children.
use Rattle.std.specs.Prelude.{ℕ, List}
use Rattle.std.specs.FinMap.{entries}
use Rattle.congee.specs.declared.forms.child.Child.{Child}
use Rattle.congee.specs.declared.forms.base_node.NodeIter.{NodeIter}
use Rattle.congee.specs.forms.Bytes.{between}
use Rattle.congee.specs.forms.Forms.{children_of}

-- the pairs that are still to come
abbrev pub rest : {C P : Type 0} → NodeIter C P → List (ℕ × Child C P)
rest it = between it.from it.end (entries (children_of it.node.now))
