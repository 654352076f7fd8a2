-- The cells as contracts see them.
use Rattle.std.specs.Prelude.{◌≡◌, ◌≢◌, ℕ, ◌+◌, ◌==◌, nat_lt, nat_le, ◌≤◌, Bool, true, List, [], ◌∷◌, ◌++◌, length, Option, Some, None, is_none, if◌then◌else◌, slice_set, slice_index_or, ◌&&◌}
use Rattle.crossbeam_epoch.specs.declared.world.cells.Cell.{Cell}
use Rattle.crossbeam_epoch.specs.declared.names.Name.{Name}

-- the cells, and how many there may be
pub record Store (T : Type 0) : Type 0 where
  -- the cells that were used so far
  pub cells : List (Cell T)
  -- how many there may be
  pub most : ℕ
  -- the last turn that a cell may have
  pub turn_max : ℕ

-- a cell that was never used
abbrev pub fresh : {T : Type 0} → Cell T
fresh = record { turns = 0; value = None }

-- the cell at a place
abbrev pub cell_at : {T : Type 0} → Store T → ℕ → Cell T
cell_at st i = slice_index_or st.cells i fresh

-- the value that stands in a cell under this turn
abbrev pub value_in : {T : Type 0} → Cell T → ℕ → Option T
value_in c turn = if c.turns == turn + 1 then c.value else None

-- the value that a name stands for, if it isn't destroyed
abbrev pub value_at : {T : Type 0} → Store T → Name → Option T
value_at st name = value_in (cell_at st name.cell) name.turn

-- a name that a value was given
abbrev pub was_given : {T : Type 0} → Store T → Name → Bool
was_given st name = nat_lt name.turn (cell_at st name.cell).turns

-- a cell that may take a value: it is empty, and has a turn left
abbrev pub is_usable : {T : Type 0} → Store T → ℕ → Bool
is_usable st i = nat_lt i st.most && is_none (cell_at st i).value && nat_le (cell_at st i).turns st.turn_max

-- the cell at a place is another one, or one more comes
abbrev pub with_cell : {T : Type 0} → Store T → ℕ → Cell T → Store T
with_cell st i c = record st { cells = if nat_lt i (length st.cells) then slice_set st.cells i c else st.cells ++ c ∷ [] }

-- the cell's value is taken out
abbrev pub emptied : {T : Type 0} → Store T → ℕ → Store T
emptied st i = record st { cells = slice_set st.cells i (record { turns = (cell_at st i).turns; value = None }) }

-- the cell's value is another
abbrev pub replaced : {T : Type 0} → Store T → ℕ → T → Store T
replaced st i v = record st { cells = slice_set st.cells i (record { turns = (cell_at st i).turns; value = Some v }) }

-- a name for a value in a usable cell: the cell's next turn
pub record IsNext {T : Type 0} (st : Store T) (name : Name) : Type 0 where
  pub usable : is_usable st name.cell ≡ true
  pub turn : name.turn ≡ (cell_at st name.cell).turns
  -- cells are used in order the first time
  pub near : name.cell ≤ length st.cells

-- a value stands in the cell under its next turn
abbrev pub placed : {T : Type 0} → Store T → Name → T → Store T
placed st name v = with_cell st name.cell (record { turns = name.turn + 1; value = Some v })

-- a new store
abbrev pub opened_store : {T : Type 0} → ℕ → ℕ → Store T
opened_store most turn_max = record { cells = []; most = most; turn_max = turn_max }

-- this name stands for that from now on and is a given one, and every other name is what it was
pub record Sets {T : Type 0} (st : Store T) (n : Name) (v : Option T) (st' : Store T) : Type 0 where
  pub value : value_at st' n ≡ v
  pub used : was_given st' n ≡ true
  pub others : (m : Name) → m ≢ n → value_at st' m ≡ value_at st m
  pub given : (m : Name) → m ≢ n → was_given st' m ≡ was_given st m
