-- A map from bytes has as many pairs as there are bytes at which it has one.
use Rattle.std.proofs.Common.{◌≡◌, ℕ, zero, suc, ◌<◌, ◌≤◌, ◌+◌, List, refl, sym, ap, subst, ◌∙◌, arith}
use Rattle.std.specs.Prelude.{Option, None, Some, IsSome}
use Rattle.std.specs.Ordering.{nat_cmp}
use Rattle.std.specs.FinMap.{FinMap, get, len, entries, entries_sorted, get-entries, len-entries}
use Rattle.std.specs.FinMap.Entries.{find}
use Rattle.congee.specs.owned.Arena.{hung_in}
use Rattle.congee.specs.protocol.Events.{weight}
use Rattle.congee.specs.declared.forms.child.Child.{Child}
use Rattle.congee.specs.declared.forms.child.Child.TheVariants.{Blank, Node as Sub, Value}
use Rattle.congee.proofs.lemmas.protocol.AlonePairs.{count, parts, none, all, one}
use Rattle.congee.proofs.lemmas.owned.Totals.{total, total_same}

module _ {X : Type 0} where
  -- 1 where something is there
  abbrev one_if : Option X → ℕ
  one_if None = 0
  one_if (Some x) = 1

  module _ (m : FinMap nat_cmp X) where
    abbrev es : List (ℕ × X)
    es = entries m

    here : (b : ℕ) (o : Option X) → find nat_cmp b es ≡ o → count b (suc b) es ≡ one_if o
    here b None e = none b (suc b) es (λ k lo hi. let s : b ≡ k = omega (arith, lo, hi) in subst (λ y. find nat_cmp y es ≡ None) s e)
    here b (Some x) e = ap (λ y. count b y es) (let z : suc b ≡ b + 1 = omega arith in z) ∙ one b x es (entries_sorted m) e

    sums : (n : ℕ) → count 0 n es ≡ total (λ b. one_if (get m b)) n
    unfolding total
    sums zero = none 0 0 es (λ k lo hi. absurd (omega (arith, hi)))
    sums (suc n) =
        let r = sums n in
        let p = parts 0 n (suc n) es (omega arith) (omega arith) in
        let h : count n (suc n) es ≡ one_if (get m n) = here n (get m n) (sym (get-entries m n)) in
        omega (arith, r, p, h)

    nothing_past : (b : ℕ) (o : Option X) → get m b ≡ o → (IsSome (get m b) → b < 256) → 256 ≤ b → o ≡ None
    nothing_past b None e low l = refl
    nothing_past b (Some x) e low l = absurd (let s : IsSome (get m b) = rw e refl in let k = low s in omega (arith, k, l))

    -- as many as there are bytes
    bytes_counted : ((b : ℕ) → IsSome (get m b) → b < 256) → len m ≡ total (λ b. one_if (get m b)) 256
    bytes_counted low =
        len-entries m ∙ (sym (all 256 es (λ k u. sym (get-entries m k) ∙ nothing_past k (get m k) refl (low k) u)) ∙ sums 256)

module _ {P : Type 0} where
  weigh_one : (o : Option (Child ℕ P)) → one_if o ≡ weight (hung_in o)
  weigh_one None = refl
  weigh_one (Some Blank) = refl
  weigh_one (Some (Sub c)) = refl
  weigh_one (Some (Value v)) = refl

  -- a node has as many children as there are bytes at which something hangs
  pub children_counted : (m : FinMap nat_cmp (Child ℕ P)) → ((b : ℕ) → IsSome (get m b) → b < 256) → len m ≡ total (λ b. weight (hung_in (get m b))) 256
  children_counted m low = bytes_counted m low ∙ total_same (λ b. one_if (get m b)) (λ b. weight (hung_in (get m b))) 256 (λ i l. weigh_one (get m i))
