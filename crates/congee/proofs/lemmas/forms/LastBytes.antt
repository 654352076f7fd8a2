-- The greatest byte below an end that has a child.
use Rattle.std.proofs.Common.{◌≡◌, ◌≢◌, ℕ, zero, suc, ◌<◌, ◌≤◌, ◌+◌, List, [], ◌∷◌, length, get_or, Option, None, Some, IsSome, refl, inl, inr, sym, ap, ◌∙◌, subst, arith}
use Rattle.std.specs.Prelude.{MatchOption}
use Rattle.std.specs.Option.{option_map}
use Rattle.std.proofs.lemmas.Bool.{cases_lt}
use Rattle.std.specs.Ordering.{nat_cmp}
use Rattle.std.specs.FinMap as map
use Rattle.congee.specs.declared.forms.index.Index.{Index}
use Rattle.congee.specs.forms.Bytes.{IsLast, IsLastBelow}
use Rattle.congee.specs.forms.Index.{IsIndexed, indexed_map, place_of}
use Rattle.congee.specs.forms.Mapped.{mapped}
use Rattle.congee.specs.forms.Mask.{IsMasked, bit_of, masked_map}
use Rattle.congee.specs.forms.Places.{AllKeys, IsSorted, pairs, sorted_map}
use Rattle.congee.specs.forms.Ranks.{IsLastIn, IsRising}
use Rattle.congee.proofs.lemmas.forms.IndexLemmas as index
use Rattle.congee.proofs.lemmas.forms.MappedLemmas.{get_mapped, none_mapped}
use Rattle.congee.proofs.lemmas.forms.MaskLemmas as mask
use Rattle.congee.proofs.lemmas.forms.Ranks.{rising_of}
use Rattle.congee.proofs.lemmas.forms.SortedLemmas as sorted

-- what is something is there
pub some_is : {X : Type 0} (o : Option X) (x : X) → o ≡ Some x → IsSome o
some_is o x e = subst IsSome (sym e) refl

-- each of these is a byte
pub bytes_low : {X : Type 0} (ks : List ℕ) (ys : List X) → IsSorted ks ys → (i : ℕ) → get_or ks i 0 < 256
bytes_low ks ys ok = of ks ys ok.same ok.bytes
  where
    of : {X : Type 0} (ks : List ℕ) (ys : List X) → length ks ≡ length ys → AllKeys (λ b. b < 256) (pairs ks ys) → (i : ℕ) → get_or ks i 0 < 256
    of [] ys e h i = omega arith
    of (k ∷ ks) [] e h i = absurd (omega (arith, e))
    of (k ∷ ks) (y ∷ ys) e h zero = h.0
    of (k ∷ ks) (y ∷ ys) e h (suc i) = of ks ys (omega (arith, e)) h.1 i

-- children in the order of their bytes
module _ {X : Type 0} {ks : List ℕ} {ys : List X} (ok : IsSorted ks ys) (end : ℕ) where
  rising : IsRising ks
  rising = rising_of ks ys ok.same ok.rises

  there : (b p : ℕ) (zs : List X) → zs ≡ ys → p < length ks → get_or ks p 0 ≡ b → sorted.IsPlaceOf b p ks → IsSome (map.get (sorted_map ks ys) b)
  there b p [] e l k s = absurd (omega (arith, ap length e, ok.same, l))
  there b p (z ∷ zs) e l k s = some_is _ (get_or ys p z) (sorted.get_found ok b p z s l k)

  last_found : (b : ℕ) → IsLastIn ks end b → IsLast (sorted_map ks ys) end b
  last_found b i = record {
    below = i.below;
    here = there b i.place ys refl i.within i.is (record {
      within = omega (arith, i.within);
      below = λ j l. omega (arith, rising j i.place l i.within, i.is);
      at = λ l. omega (arith, i.is);
    });
    after = λ q lo hi. sorted.get_absent ok q (i.place + 1) (record {
      within = omega (arith, i.within);
      below = λ j l. elim (cases_lt j i.place) [
        | inl before ↦ omega (arith, rising j i.place before i.within, i.is, lo)
        | inr same ↦ (let e : j ≡ i.place = omega (arith, same, l) in rw e (omega (arith, i.is, lo)))
      ];
      at = λ l. omega (arith, i.after l, hi);
    }) (λ l. omega (arith, i.after l, hi));
  }

  none_found : (0 < length ks → end ≤ get_or ks 0 0) → (b : ℕ) → b < end → map.get (sorted_map ks ys) b ≡ None
  none_found h b l = sorted.get_absent ok b 0 (record {
    within = omega arith;
    below = λ j z. absurd (omega (arith, z));
    at = λ some. omega (arith, h some, l);
  }) (λ some. omega (arith, h some, l))

  -- the greatest of the bytes below an end is the greatest one there with a child
  pub sorted_last : (o : Option ℕ) → MatchOption o (0 < length ks → end ≤ get_or ks 0 0) (IsLastIn ks end) → IsLastBelow (sorted_map ks ys) end o
  sorted_last None h = none_found h
  sorted_last (Some b) h = last_found b h

-- children beside a mask
module _ {X : Type 0} {count : ℕ} {bits : List ℕ} {xs : List X} (ok : IsMasked count bits xs) (end : ℕ) (low : end ≤ 256) where
  abbrev MaskedLast : ℕ → Type 0
  MaskedLast r = (r < end) × (bit_of bits r ≡ 1) × ((b : ℕ) → r < b → b < end → bit_of bits b ≡ 0)

  set_there : (b : ℕ) (zs : List X) → zs ≡ xs → b < 256 → bit_of bits b ≡ 1 → IsSome (map.get (masked_map bits xs) b)
  set_there b [] e l k = absurd (omega (arith, ap length e, ok.places))
  set_there b (z ∷ zs) e l k = some_is _ (get_or xs b z) (mask.get_there ok b z l k)

  clear_there : (b : ℕ) → bit_of bits b ≡ 0 → map.get (masked_map bits xs) b ≡ None
  clear_there b e = mask.get_none ok b (λ one. absurd (omega (arith, e, one)))

  -- the greatest byte below an end whose bit is set is the greatest one there with a child
  pub masked_last : (o : Option ℕ) → MatchOption o ((b : ℕ) → b < end → bit_of bits b ≡ 0) MaskedLast → IsLastBelow (masked_map bits xs) end o
  masked_last None h = λ b l. clear_there b (h b l)
  masked_last (Some r) h = record {
    below = h.0;
    here = set_there r xs refl (omega (arith, h.0, low)) h.1;
    after = λ q lo hi. clear_there q (h.2 q lo hi);
  }

-- children by an index
module _ {X : Type 0} {x : Index} {xs : List X} (ok : IsIndexed x xs) (end : ℕ) (low : end ≤ 256) where
  abbrev IndexedLast : ℕ → Type 0
  IndexedLast r = (r < end) × (place_of x r ≢ 48) × ((b : ℕ) → r < b → b < end → place_of x b ≡ 48)

  placed : (b : ℕ) (zs : List X) → zs ≡ xs → b < 256 → place_of x b ≢ 48 → IsSome (map.get (indexed_map x xs) b)
  placed b [] e l k = absurd (omega (arith, ap length e, ok.places))
  placed b (z ∷ zs) e l k = some_is _ (get_or xs (place_of x b) z) (index.get_there ok b z l k)

  -- the greatest byte below an end that has a place is the greatest one there with a child
  pub indexed_last : (o : Option ℕ) → MatchOption o ((b : ℕ) → b < end → place_of x b ≡ 48) IndexedLast → IsLastBelow (indexed_map x xs) end o
  indexed_last None h = λ b l. index.get_blank ok b (omega (arith, l, low)) (h b l)
  indexed_last (Some r) h = record {
    below = h.0;
    here = placed r xs refl (omega (arith, h.0, low)) h.1;
    after = λ q lo hi. index.get_blank ok q (omega (arith, hi, low)) (h.2 q lo hi);
  }

module _ {X Y : Type 0} (f : ℕ → X → Y) (m : map.FinMap nat_cmp X) (end : ℕ) where
  some_changed : (b : ℕ) (o : Option X) → map.get m b ≡ o → IsSome o → IsSome (map.get (mapped f m) b)
  some_changed b None e h = absurd (cc h)
  some_changed b (Some y) e h = some_is _ (f b y) (get_mapped f m b ∙ ap (option_map (f b)) e)

  -- it is the same where each child is changed by its byte
  pub last_mapped : (o : Option ℕ) → IsLastBelow m end o → IsLastBelow (mapped f m) end o
  last_mapped None h = λ b l. none_mapped f m b (h b l)
  last_mapped (Some b) h = record {
    below = h.below;
    here = some_changed b (map.get m b) refl h.here;
    after = λ q lo hi. none_mapped f m q (h.after q lo hi);
  }
