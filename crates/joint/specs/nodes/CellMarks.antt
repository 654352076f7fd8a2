-- The marks of the cells.
use Rattle.std.specs.Prelude.{ℕ, nat_lt, false, List, [], ◌∷◌, ◌++◌, length, slice_set, slice_index_or, if◌then◌else◌}
use Rattle.congee.specs.declared.forms.base_node.NodeType.TheVariants.{N4}
use Rattle.joint.specs.declared.nodes.counts.CellMark.{CellMark}

-- what stands for the mark of a cell that has none
abbrev pub no_mark : CellMark
no_mark = record { form = N4; waits = false }

-- the mark of a cell
abbrev pub mark_at : List CellMark → ℕ → CellMark
mark_at cell_marks cell = slice_index_or cell_marks cell no_mark

-- the marks with another one for a cell that was used, or the next
abbrev pub with_mark : List CellMark → ℕ → CellMark → List CellMark
with_mark cell_marks cell t = if nat_lt cell (length cell_marks) then slice_set cell_marks cell t else cell_marks ++ t ∷ []
