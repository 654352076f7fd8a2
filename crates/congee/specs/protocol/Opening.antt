-- A tree as it begins: a root alone.
use Rattle.std.specs.Prelude.{◌≡◌, ◌≢◌, ℕ, false, []}
use Rattle.congee.specs.Heap.{Node, Nothing, Stands}

-- the root stands, empty, with 256 places, and was neither marked nor handed over
pub record RootAlone {V : Type 0} (h : ℕ → Node V) : Type 0 where
  pub empty : (h 0).prefix ≡ []
  pub bare : (b : ℕ) → (h 0).children b ≡ Nothing
  pub stands : Stands (h 0)
  pub wide : (h 0).capacity ≡ 256
  pub unretired : (h 0).retired ≡ false
  pub live : (h 0).obsolete ≡ false

-- and nobody holds it, and no other node was ever made
pub record FreshRoot {V : Type 0} (h : ℕ → Node V) : Type 0 where
  pub alone : RootAlone h
  pub unlocked : (h 0).locked ≡ false
  pub others : (n : ℕ) → n ≢ 0 → (h n).made ≡ false
