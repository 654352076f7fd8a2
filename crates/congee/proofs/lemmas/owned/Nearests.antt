-- A pair that was found, in its finder's words.
use Rattle.std.proofs.Common.{◌≡◌, ℕ, sym, subst}
use Rattle.std.specs.Prelude.{Option, None, Some}
use Rattle.std.specs.Option.{option_map}
use Rattle.std.specs.Ordering.{nat_cmp}
use Rattle.std.specs.FinMap as map
use Rattle.congee.specs.owned.Nearest.{ComesBack, IsGreatest, IsGreatestAs, IsGreatestPair, IsLeast, IsLeastAs, IsLeastPair, pair_by}

module _ {K V : Type 0} (key : K → ℕ) (of_key : ℕ → K) (value : V → ℕ) (of_value : ℕ → V) (back_key : ComesBack key of_key) (back_value : ComesBack value of_value) (m : map.FinMap nat_cmp ℕ) (n : ℕ) where
  least_by : (found : Option (ℕ × ℕ)) → IsLeast m n found → IsLeastAs key value m n (option_map (pair_by of_key of_value) found)
  least_by None h = h
  least_by (Some pair) h =
      let P : ℕ → Type 0 = λ k. IsLeastPair m n k (value (of_value pair.1)) in
      let Q : ℕ → Type 0 = λ v. IsLeastPair m n pair.0 v in
      subst P (sym (back_key pair.0)) (subst Q (sym (back_value pair.1)) h)

  greatest_by : (found : Option (ℕ × ℕ)) → IsGreatest m n found → IsGreatestAs key value m n (option_map (pair_by of_key of_value) found)
  greatest_by None h = h
  greatest_by (Some pair) h =
      let P : ℕ → Type 0 = λ k. IsGreatestPair m n k (value (of_value pair.1)) in
      let Q : ℕ → Type 0 = λ v. IsGreatestPair m n pair.0 v in
      subst P (sym (back_key pair.0)) (subst Q (sym (back_value pair.1)) h)

  -- what stands for the pair of the least key from a number on is that pair
  pub least_as : (result : Option (K × V)) → ((found : Option (ℕ × ℕ)) × (result ≡ option_map (pair_by of_key of_value) found) × IsLeast m n found) → IsLeastAs key value m n result
  least_as result h = subst (IsLeastAs key value m n) (sym h.1) (least_by h.0 h.2)

  -- what stands for the pair of the greatest key below a number is that pair
  pub greatest_as : (result : Option (K × V)) → ((found : Option (ℕ × ℕ)) × (result ≡ option_map (pair_by of_key of_value) found) × IsGreatest m n found) → IsGreatestAs key value m n result
  greatest_as result h = subst (IsGreatestAs key value m n) (sym h.1) (greatest_by h.0 h.2)
