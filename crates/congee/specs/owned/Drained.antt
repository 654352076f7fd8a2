-- What a drainer took from a tree that was closed.
use Rattle.std.specs.Prelude.{ℕ, List}
use Rattle.std.specs.List.{FoldsTo}

-- the drainer took each of these pairs, one after the other
abbrev pub Drained : {K V D : Type 0} → (D → K → V → D → Type 0) → (ℕ → K) → (ℕ → V) → D → List (ℕ × ℕ) → D → Type 0
Drained drains key value before pairs after = FoldsTo (λ d pair e. drains d (key pair.0) (value pair.1) e) before pairs after
