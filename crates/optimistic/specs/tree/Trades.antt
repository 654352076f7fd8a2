-- Names that go from one list of a form to another.
use Rattle.optimistic.specs.declared.tree.fresh.Free.{Free}
use Rattle.optimistic.specs.declared.words.rule.View.{View}
use Rattle.optimistic.specs.tree.Fresh.{IsFreeOf}

-- what are names of nodes of their forms in both lists stay so
abbrev pub Stay : Free → Free → Free → Free → Type 0
Stay a b c d = (v : View) → IsFreeOf a v → IsFreeOf b v → IsFreeOf c v × IsFreeOf d v
