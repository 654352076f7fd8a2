-- The nodes of a tree, as the bound of a scan and as statistics count them.
use Rattle.std.proofs.Common.{◌≡◌, ℕ, zero, suc, ◌+◌, List, length, refl, arith}
use Rattle.std.proofs.lemmas.List.{length-append}
use Rattle.congee.specs.Heap.{Node, Hung, Nothing, Below, Holds}
use Rattle.congee.specs.owned.Levels.{under_byte, under_bytes}
use Rattle.congee.specs.owned.Stats.{Shape}
use Rattle.congee.specs.protocol.Alone.{sum_from, nodes_at, nodes_under, tree_nodes}
use Rattle.congee.proofs.Laws.{term_past}
use Rattle.joint.specs.nodes.Levels.{nodes_from, nodes_of}

module _ {V : Type 0} where
  byte_length : (go : ℕ → List Shape) (x : Hung V) → length (under_byte go x) ≡ nodes_at (λ c. length (go c)) x
  byte_length go Nothing = refl
  byte_length go (Below c) = refl
  byte_length go (Holds v) = refl

  bytes_length : (go : ℕ → List Shape) (children : ℕ → Hung V) (k : ℕ) → length (under_bytes go children k) ≡ sum_from (λ b. nodes_at (λ c. length (go c)) (children b)) 0 k
  unfolding under_bytes sum_from
  bytes_length go children zero = refl
  bytes_length go children (suc b) =
      let l = length-append (under_bytes go children b) (under_byte go (children b)) in
      let r = bytes_length go children b in
      let e = byte_length go (children b) in
      let t = term_past (λ b. nodes_at (λ c. length (go c)) (children b)) 0 b (omega arith) in
      omega (arith, l, r, e, t)

  at_same : (p q : ℕ → ℕ) (x : Hung V) → ((c : ℕ) → p c ≡ q c) → nodes_at p x ≡ nodes_at q x
  at_same p q Nothing e = refl
  at_same p q (Below c) e = e c
  at_same p q (Holds v) e = refl

sum_same : (p q : ℕ → ℕ) (k : ℕ) → ((b : ℕ) → p b ≡ q b) → sum_from p 0 k ≡ sum_from q 0 k
unfolding sum_from
sum_same p q zero e = refl
sum_same p q (suc b) e =
    let r = sum_same p q b e in
    let s = e b in
    let t = term_past p 0 b (omega arith) in
    let u = term_past q 0 b (omega arith) in
    omega (arith, r, s, t, u)

from_length : {V : Type 0} (h : ℕ → Node V) (f level n : ℕ) → length (nodes_from h f level n) ≡ nodes_under h f n
unfolding nodes_from nodes_under
from_length h zero level n = refl
from_length h (suc f) level n =
    let l = bytes_length (λ c. nodes_from h f (level + 1) c) (h n).children 256 in
    let s = sum_same (λ b. nodes_at (λ c. length (nodes_from h f (level + 1) c)) ((h n).children b)) (λ b. nodes_at (λ c. nodes_under h f c) ((h n).children b)) 256 (λ b. at_same _ _ ((h n).children b) (λ c. from_length h f (level + 1) c)) in
    omega (arith, l, s)

-- a tree has as many nodes by the bound of a scan as by statistics
pub nodes_counted : {V : Type 0} (h : ℕ → Node V) → tree_nodes h ≡ length (nodes_of h)
unfolding nodes_of
nodes_counted h = let e = from_length h 8 0 0 in omega (arith, e)
