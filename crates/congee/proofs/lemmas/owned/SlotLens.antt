-- How many nodes stand in an arena, by their names.
use Rattle.std.proofs.Common.{◌≡◌, ◌≢◌, ℕ, zero, suc, ◌+◌, ◌≤◌, ◌==◌, cond, inl, inr, List, [], ◌∷◌, length, get_or, refl, sym, ap, subst, ◌∙◌, arith}
use Rattle.std.specs.Prelude.{Option, None, is_some, count_by}
use Rattle.std.proofs.lemmas.List.Sums.{sum_by-cons}
use Rattle.slab.specs.Slab.{Slab, get, Updates, slab_len, SameValues}
use Rattle.congee.proofs.lemmas.Fits.{same_test, other_test}
use Rattle.congee.proofs.lemmas.Tree.{same_or_not}
use Rattle.congee.proofs.lemmas.owned.Totals.{total, total_same, total_first, total_beyond, total_update}

module _ {T : Type 0} where
  -- a name counts where it has a node
  abbrev pub count_if_some : Option T → ℕ
  count_if_some o = cond (is_some o) 1 0

  counted_all : (xs : List (Option T)) → count_by is_some xs ≡ total (λ n. count_if_some (get_or xs n None)) (length xs)
  unfolding total
  counted_all [] = refl
  counted_all (x ∷ xs) = sum_by-cons count_if_some x xs ∙ ap (λ n. count_if_some x + n) (counted_all xs) ∙ sym (total_first (λ n. count_if_some (get_or (x ∷ xs) n None)) (length xs))

  none_past : (xs : List (Option T)) (n : ℕ) → length xs ≤ n → get_or xs n None ≡ None
  none_past [] n l = refl
  none_past (x ∷ xs) zero l = absurd (omega (arith, l))
  none_past (x ∷ xs) (suc n) l = none_past xs n (omega (arith, l))

  -- as many nodes stand as names below any bound past the slots count
  pub len_named : (s : Slab T) (bound : ℕ) → length s.slots ≤ bound → slab_len s ≡ total (λ n. count_if_some (get s n)) bound
  len_named s bound l = counted_all s.slots ∙ sym (total_beyond (λ n. count_if_some (get s n)) (length s.slots) bound l (λ i h. ap count_if_some (none_past s.slots i h)))

  -- where every name has its node as before, as many stand
  pub len_same : (s s' : Slab T) → SameValues s s' → slab_len s' ≡ slab_len s
  len_same s s' e =
      let b = length s.slots + length s'.slots in
      len_named s' b (omega arith) ∙ (total_same _ _ b (λ i l. ap count_if_some (e i)) ∙ sym (len_named s b (omega arith)))

  -- another node or none under a name changes how many stand by what both count
  pub len_update : (s s' : Slab T) (at : ℕ) (o : Option T) → Updates s s' at o → slab_len s' + count_if_some (get s at) ≡ slab_len s + count_if_some o
  len_update s s' at o u =
      let b = length s.slots + length s'.slots + at + 1 in
      let x = len_named s b (omega arith) in
      let y = len_named s' b (omega arith) in
      let t = total_update (λ n. count_if_some (get s n)) (λ n. count_if_some (get s' n)) b at (omega arith) (λ i ne. ap count_if_some (u.others i ne)) in
      let c : count_if_some (get s' at) ≡ count_if_some o = ap count_if_some u.changed in
      omega (arith, x, y, t, c)

  -- two names change
  pub len_two : (s s' : Slab T) (at other : ℕ) → at ≢ other → ((m : ℕ) → m ≢ at → m ≢ other → get s' m ≡ get s m)
      → slab_len s' + (count_if_some (get s at) + count_if_some (get s other)) ≡ slab_len s + (count_if_some (get s' at) + count_if_some (get s' other))
  len_two s s' at other apart same =
      let b = length s.slots + length s'.slots + at + other + 1 in
      let x = len_named s b (omega arith) in
      let y = len_named s' b (omega arith) in
      let f : ℕ → ℕ = λ n. count_if_some (get s n) in
      let h : ℕ → ℕ = λ n. cond (n == at) (count_if_some (get s' at)) (f n) in
      let g : ℕ → ℕ = λ n. count_if_some (get s' n) in
      let first = total_update f h b at (omega arith) (λ i ne. ap (λ t. cond t (count_if_some (get s' at)) (f i)) (other_test i at ne)) in
      let second = total_update h g b other (omega arith) (λ i ne. elim (same_or_not i at) [
        | inl e ↦ (let Q : ℕ → Type 0 = λ k. g k ≡ h k in subst Q (sym e) (sym (ap (λ t. cond t (count_if_some (get s' at)) (f at)) (same_test at at refl))))
        | inr na ↦ ap count_if_some (same i na ne) ∙ sym (ap (λ t. cond t (count_if_some (get s' at)) (f i)) (other_test i at na))
      ]) in
      let ha : h at ≡ count_if_some (get s' at) = ap (λ t. cond t (count_if_some (get s' at)) (f at)) (same_test at at refl) in
      let ho : h other ≡ f other = ap (λ t. cond t (count_if_some (get s' at)) (f other)) (other_test other at (λ e. apart (sym e))) in
      omega (arith, x, y, first, second, ha, ho)
