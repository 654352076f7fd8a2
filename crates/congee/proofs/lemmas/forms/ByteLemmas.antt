-- Children by byte: what stands at each place is what the map has there.
use Rattle.std.proofs.Common.{◌≡◌, ℕ, zero, suc, ◌<◌, ◌≤◌, ◌+◌, eqb, cond, List, [], ◌∷◌, length, get_or, Option, None, Some, IsSome, refl, inl, inr, sym, ◌∙◌, arith}
use Rattle.std.proofs.lemmas.Bool.Decides.{nat_tests}
use Rattle.std.proofs.lemmas.Bool.{cases_lt}
use Rattle.std.proofs.lemmas.List.{get_or_past}
use Rattle.std.specs.Ordering.{nat_cmp}
use Rattle.std.specs.Cmp.{nat_cmp_total}
use Rattle.std.specs.FinMap as map
use Rattle.congee.specs.forms.Places.{AllKeys, Rises, index_somes, children_by}
use Rattle.congee.proofs.lemmas.forms.Entries.{find}
use Rattle.congee.proofs.lemmas.forms.EntryLemmas.{find_below}
use Rattle.congee.proofs.lemmas.forms.MapLemmas.{same_is, get_of, len_of}

module _ {X : Type 0} where
  index_above : (q b : ℕ) (os : List (Option X)) → q < b → AllKeys (λ j. q < j) (index_somes b os)
  index_above q b [] l = tt
  index_above q b (None ∷ os) l = index_above q (b + 1) os (omega arith)
  index_above q b (Some x ∷ os) l = (l, index_above q (b + 1) os (omega arith))

  rises_index : (b : ℕ) (os : List (Option X)) → Rises (index_somes b os)
  rises_index b [] = tt
  rises_index b (None ∷ os) = rises_index (b + 1) os
  rises_index b (Some x ∷ os) = (index_above b (b + 1) os (omega arith), rises_index (b + 1) os)

  find_index : (i q b : ℕ) (os : List (Option X)) → q ≡ b + i → find q (index_somes b os) ≡ get_or os i None
  find_index i q b [] e = refl
  find_index zero q b (None ∷ os) e = find_below q _ (index_above q (b + 1) os (omega arith))
  find_index zero q b (Some x ∷ os) e = grind (arith, nat_tests)
  find_index (suc i) q b (None ∷ os) e = find_index i q (b + 1) os (omega arith)
  find_index (suc i) q b (Some x ∷ os) e = grind (arith, nat_tests, find_index i q (b + 1) os (omega arith))

  length_index : (b : ℕ) (os : List (Option X)) → length (index_somes b os) ≤ length os
  length_index b [] = omega arith
  length_index b (None ∷ os) = omega (arith, length_index (b + 1) os)
  length_index b (Some x ∷ os) = omega (arith, length_index (b + 1) os)

  -- the map has at each byte what stands at its place
  pub get_by : (os : List (Option X)) (q : ℕ) → map.get (children_by os) q ≡ get_or os q None
  get_by os q = get_of (index_somes 0 os) q (rises_index 0 os) ∙ find_index q q 0 os (omega arith)

  -- the map has no more children than there are places
  pub len_by : (os : List (Option X)) → map.len (children_by os) ≤ length os
  len_by os = omega (arith, len_of (index_somes 0 os) (rises_index 0 os), length_index 0 os)

  -- a byte that has a child is one of the places
  pub within_by : (os : List (Option X)) (q : ℕ) → IsSome (map.get (children_by os) q) → q < length os
  within_by os q s = elim (cases_lt q (length os)) [
    | inl l ↦ l
    | inr l ↦ let none : map.get (children_by os) q ≡ None = get_by os q ∙ get_or_past os q None l in absurd (cc (s, none))
  ]

  -- places at which nothing stands hold the empty map
  pub empty_by : (os : List (Option X)) → ((q : ℕ) → get_or os q None ≡ None) → children_by os ≡ map.empty
  empty_by os h = map.same_map nat_cmp_total map.nat_cmp-IsAntisymmetric _ _ (λ q. get_by os q ∙ h q ∙ sym (map.get-empty nat_cmp q))

  -- places that differ at one byte, which has a child now, hold the map with it
  pub insert_by : (os ns : List (Option X)) (b : ℕ) (x : X) → ((q : ℕ) → get_or ns q None ≡ cond (eqb q b) (Some x) (get_or os q None)) → children_by ns ≡ map.insert (children_by os) b x
  insert_by os ns b x h = map.same_map nat_cmp_total map.nat_cmp-IsAntisymmetric _ _ (λ q.
      get_by ns q ∙ h q ∙ sym (map.get-insert nat_cmp_total (children_by os) b x q ∙ rw (same_is q b, get_by os q) refl))

  -- places that differ at one byte, which has none now, hold the map without it
  pub remove_by : (os ns : List (Option X)) (b : ℕ) → ((q : ℕ) → get_or ns q None ≡ cond (eqb q b) None (get_or os q None)) → children_by ns ≡ map.remove (children_by os) b
  remove_by os ns b h = map.same_map nat_cmp_total map.nat_cmp-IsAntisymmetric _ _ (λ q.
      get_by ns q ∙ h q ∙ sym (map.get-remove nat_cmp_total (children_by os) b q ∙ rw (same_is q b, get_by os q) refl))
