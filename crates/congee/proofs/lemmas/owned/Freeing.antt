-- Edits within a leaf, as insertions and as removals.
use Rattle.std.proofs.Common.{◌≡◌, ℕ, List, refl, ap, arith}
use Rattle.std.specs.Prelude.{Option, None, Some}
use Rattle.congee.specs.Heap.{value_at}
use Rattle.congee.specs.owned.Arena.{IsTree, heap_of}
use Rattle.congee.specs.owned.Edits.{Edits, Swaps, Adds, Frees}
use Rattle.congee.specs.declared.owned.arena.Arena.{Arena}
use Rattle.congee.proofs.lemmas.owned.Answered.{none_change}

module _ {P A K : Type 0} (charged limit : A → ℕ) where
  swap_edits : (old new : Arena P A K) (key : List ℕ) (before after : Option P) → Swaps old new key before after → Edits charged limit old new key before after
  swap_edits old new key before after s =
      let charge : charged new.allocator ≡ charged old.allocator = ap charged s.allocator in
      record { tree = s.tree; change = s.change; balance = omega (arith, charge, s.bytes); same_limit = ap limit s.allocator }

  -- a present key makes no node
  pub swap_adds : (old new : Arena P A K) (key : List ℕ) (before : Option P) (value : P) → Swaps old new key before (Some value) → Adds charged limit old new key before value None
  swap_adds old new key before value s = record { edits = swap_edits old new key before (Some value) s; fits = tt; bytes = omega (arith, s.bytes); filled = s.filled }

  -- where a value takes the place of another, no node goes
  pub swap_frees : (old new : Arena P A K) (key : List ℕ) (before after : Option P) → Swaps old new key before after → Frees charged limit old new key before after None
  swap_frees old new key before after s = record { edits = swap_edits old new key before after s; bytes = s.bytes; filled = λ by_form h _. s.filled by_form h }

  -- an absent key leaves everything
  pub none_frees : (t : Arena P A K) (key : List ℕ) → IsTree t.nodes → value_at (heap_of t.nodes) key ≡ None → Frees charged limit t t key None None None
  none_frees t key tree absent = record {
    edits = record { tree = tree; change = none_change t.nodes key absent; balance = refl; same_limit = refl };
    bytes = refl;
    filled = λ _ h _. h;
  }
