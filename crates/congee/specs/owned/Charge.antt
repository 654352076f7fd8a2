-- An arena's nodes and what its allocator has charged.
use Rattle.std.specs.Prelude.{◌≡◌, ℕ, ◌+◌, ◌≤◌, List}
use Rattle.congee.specs.owned.Sizes.{bytes_of}
use Rattle.congee.specs.owned.Wanted.{AllFit, IsRefusedOf, gain}
use Rattle.congee.specs.declared.allocator.OOMError.{OOMError}
use Rattle.congee.specs.declared.owned.arena.Arena.{Arena}

module _ {P A K : Type 0} where
  -- the charge covers the nodes' sizes
  abbrev pub Covers : (A → ℕ) → Arena P A K → Type 0
  Covers charged t = bytes_of t.nodes ≤ charged t.allocator

  -- the charge moves as the nodes' sizes do
  abbrev pub Balances : (A → ℕ) → Arena P A K → Arena P A K → Type 0
  Balances charged old new = charged new.allocator + bytes_of old.nodes ≡ charged old.allocator + bytes_of new.nodes

  -- the limit stays
  abbrev pub KeepsLimit : (A → ℕ) → Arena P A K → Arena P A K → Type 0
  KeepsLimit limit old new = limit new.allocator ≡ limit old.allocator

  -- nodes of these sizes were made
  abbrev pub Grows : Arena P A K → Arena P A K → List ℕ → Type 0
  Grows old new sizes = bytes_of new.nodes ≡ bytes_of old.nodes + gain sizes

  -- the budget has room for nodes of these sizes
  abbrev pub Affords : (A → ℕ) → (A → ℕ) → Arena P A K → List ℕ → Type 0
  Affords charged limit t sizes = AllFit sizes (charged t.allocator) (limit t.allocator)

  -- why one of these nodes wasn't made
  abbrev pub IsRefusedBy : (A → ℕ) → (A → ℕ) → Arena P A K → List ℕ → OOMError → Type 0
  IsRefusedBy charged limit t sizes e = IsRefusedOf sizes (charged t.allocator) (limit t.allocator) e
