-- Pairs that a drainer takes, one after the other.
use Rattle.std.proofs.Common.{◌≡◌, ℕ, List, [], ◌∷◌, refl, sym, subst}
use Rattle.congee.specs.owned.Drained.{Drained}

module _ {K V D : Type 0} (drains : D → K → V → D → Type 0) (key : ℕ → K) (value : ℕ → V) where
  -- the first pair, and the others after it
  pub first_drained : (es rest : List (ℕ × ℕ)) (k v : ℕ) (before next after : D) (x : K) (y : V)
      → es ≡ (k, v) ∷ rest → x ≡ key k → y ≡ value v → drains before x y next → Drained drains key value next rest after → Drained drains key value before es after
  first_drained es rest k v before next after x y e ex ey d later =
      let Q : List (ℕ × ℕ) → Type 0 = λ l. Drained drains key value before l after in
      let first : drains before (key k) (value v) next = subst (λ a. drains before a (value v) next) ex (subst (λ b. drains before x b next) ey d) in
      subst Q (sym e) (next, first, later)

  -- no pair
  pub none_drained : (es : List (ℕ × ℕ)) (before : D) → es ≡ [] → Drained drains key value before es before
  none_drained es before e =
      let Q : List (ℕ × ℕ) → Type 0 = λ l. Drained drains key value before l before in
      subst Q (sym e) refl
