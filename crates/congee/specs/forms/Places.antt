-- How arrays hold a map from bytes to children.
use Rattle.std.specs.Prelude.{◌≡◌, ℕ, ◌<◌, ◌+◌, List, [], ◌∷◌, length, Option, None, Some}
use Rattle.std.specs.Ordering.{nat_cmp}
use Rattle.std.specs.FinMap.{FinMap, from_sorted}

-- each byte beside its child
abbrev pub pairs : {X : Type 0} → List ℕ → List X → List (ℕ × X)
pairs [] xs = []
pairs (b ∷ bs) [] = []
pairs (b ∷ bs) (x ∷ xs) = (b, x) ∷ pairs bs xs

-- P holds of each byte
abbrev pub AllKeys : {X : Type 0} → (ℕ → Type 0) → List (ℕ × X) → Type 0
AllKeys P [] = Unit {0}
AllKeys P ((b, x) ∷ r) = P b × AllKeys P r

-- the bytes rise
abbrev pub Rises : {X : Type 0} → List (ℕ × X) → Type 0
Rises [] = Unit {0}
Rises ((b, x) ∷ r) = AllKeys (λ c. b < c) r × Rises r

-- the map that two arrays side by side hold
abbrev pub sorted_map : {X : Type 0} → List ℕ → List X → FinMap nat_cmp X
sorted_map bs xs = from_sorted (pairs bs xs)

-- the bytes rise, each with its child beside it
pub record IsSorted {X : Type 0} (bs : List ℕ) (xs : List X) : Type 0 where
  pub same : length bs ≡ length xs
  pub rises : Rises (pairs bs xs)
  pub bytes : AllKeys (λ b. b < 256) (pairs bs xs)

-- a byte with its child, if it has one, before other pairs
abbrev pub pair_of : {X : Type 0} → ℕ → Option X → List (ℕ × X) → List (ℕ × X)
pair_of b None r = r
pair_of b (Some x) r = (b, x) ∷ r

-- each place from b on with its child
abbrev pub index_somes : {X : Type 0} → ℕ → List (Option X) → List (ℕ × X)
index_somes b [] = []
index_somes b (o ∷ r) = pair_of b o (index_somes (b + 1) r)

-- the map that has at each byte what stands there
abbrev pub children_by : {X : Type 0} → List (Option X) → FinMap nat_cmp X
children_by os = from_sorted (index_somes 0 os)
