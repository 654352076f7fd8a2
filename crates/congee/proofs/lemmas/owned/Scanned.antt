-- What the pair of the least key tells of a finite map.
use Rattle.std.proofs.Common.{◌≡◌, ◌≢◌, ℕ, ◌≤◌, Bool, true, false, refl, sym, ap, ◌∙◌, arith}
use Rattle.std.specs.Prelude.{Option, None, Some, MatchOption, IsTrue, ◌↔◌, is_some, IsSome, not}
use Rattle.std.specs.Ordering.{nat_cmp}
use Rattle.std.specs.Cmp.{nat_cmp_total}
use Rattle.std.specs.FinMap.{FinMap, get, empty, get-empty, same_map, nat_cmp-IsAntisymmetric}
use Rattle.congee.specs.owned.Nearest.{IsLeastPair}

module _ {V : Type 0} where
  -- a map that has no key from 0 on is empty
  pub nothing_first : (m : FinMap nat_cmp V) → ((q : ℕ) → 0 ≤ q → get m q ≡ None) → m ≡ empty
  nothing_first m h = same_map nat_cmp_total nat_cmp-IsAntisymmetric m empty (λ q. h q (omega arith) ∙ sym (get-empty _ q))

  something_first : (m : FinMap nat_cmp V) (k : ℕ) (v : V) → IsLeastPair m 0 k v → m ≢ empty
  something_first m k v f e = let n : get m k ≡ None = ap (λ x. get x k) e ∙ get-empty _ k in absurd (cc (n, f.here))

  -- whether no least key was found tells whether the map is empty
  pub empty_told : {T : Type 0} (m : FinMap nat_cmp V) (key : T → ℕ) (value : T → V) (o : Option T) (b : Bool) → is_some o ≡ not b
      → MatchOption o ((q : ℕ) → 0 ≤ q → get m q ≡ None) (λ r. IsLeastPair m 0 (key r) (value r)) → IsTrue b ↔ (m ≡ empty)
  empty_told m key value None true e h = (λ t. nothing_first m h, λ e. refl)
  empty_told m key value None false e h = absurd (cc e)
  empty_told m key value (Some r) true e h = absurd (cc e)
  empty_told m key value (Some r) false e h = (λ t. absurd (cc t), λ q. absurd (something_first m (key r) (value r) h q))

  -- what says whether something was found tells whether the same is there
  pub there_told : (o p : Option V) (b : Bool) → b ≡ is_some o → o ≡ p → IsTrue b ↔ IsSome p
  there_told o p b t e = let u : b ≡ is_some p = t ∙ ap is_some e in (λ x. sym u ∙ x, λ x. u ∙ x)
