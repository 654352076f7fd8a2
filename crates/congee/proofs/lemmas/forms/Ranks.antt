-- Bytes in an array that is filled up with 255.
use Rattle.std.proofs.Common.{◌≡◌, ℕ, zero, suc, ◌+◌, ◌-◌, ◌<◌, ◌≤◌, inl, inr, List, [], ◌∷◌, length, None, Some, IsSome, subst, get_or, take, refl, sym, ap, ◌∙◌, arith}
use Rattle.std.proofs.Math.ListN.{set, replicate}
use Rattle.std.specs.List.{insert, remove, CopiedTo, SameBelow, SameFrom}
use Rattle.std.proofs.lemmas.Bool.{cases_lt}
use Rattle.std.proofs.lemmas.List.{same_lists, length-take-le, length-set, get_or-take, get_or-set_same, get_or-set_other, take-set-le, get_or-replicate, get_or_past, length-replicate}
use Rattle.std.proofs.lemmas.List.Edits.{length-insert, get_or-insert_below, get_or-insert_at, get_or-insert_above, length-remove, get_or-remove_below, get_or-remove_above}
use Rattle.std.specs.Prelude.{Option}
use Rattle.std.specs.FinMap as map
use Rattle.congee.specs.forms.Places.{pairs, AllKeys, Rises, IsSorted, sorted_map}
use Rattle.congee.proofs.lemmas.forms.SortedLemmas.{is_byte}
use Rattle.congee.specs.forms.Ranks.{IsPadded, IsOrdered, IsRising}

-- count bytes of the first i are lower than b, and they come first
pub record IsCount (bs : List ℕ) (b count i : ℕ) : Type 0 where
  pub within : count ≤ i
  pub below : (k : ℕ) → k < count → get_or bs k 0 < b
  pub at : count < i → b ≤ get_or bs count 0

module _ (bs : List ℕ) (b : ℕ) where
  -- of no bytes none is lower
  pub count_none : IsCount bs b 0 0
  count_none = record { within = omega arith; below = λ k l. absurd (omega (arith, l)); at = λ l. absurd (omega (arith, l)) }

  -- a byte that isn't lower leaves the count
  pub count_other : (c i : ℕ) → b ≤ get_or bs i 0 → IsCount bs b c i → IsCount bs b c (i + 1)
  count_other c i h k = record {
    within = omega (arith, k.within);
    below = k.below;
    at = λ l. elim (cases_lt c i) [
      | inl less ↦ k.at less
      | inr more ↦ let e : c ≡ i = omega (arith, k.within, more) in rw e h
    ];
  }

  -- a byte that is lower, after ordered ones, is counted
  pub count_lower : IsOrdered bs → (c i : ℕ) → i < length bs → get_or bs i 0 < b → IsCount bs b c i → IsCount bs b (c + 1) (i + 1)
  count_lower o c i l h k =
      let e : c ≡ i = elim (cases_lt c i) [
        | inl less ↦ absurd (omega (arith, k.at less, o c i less l, h))
        | inr more ↦ omega (arith, k.within, more)
      ] in
      record {
        within = omega (arith, k.within);
        below = λ j m. elim (cases_lt j c) [
          | inl less ↦ k.below j less
          | inr more ↦ let q : j ≡ i = omega (arith, e, m, more) in rw q h
        ];
        at = λ m. absurd (omega (arith, e, m));
      }

-- bytes that are all 255 are a row without any that count
pub new_row : (n : ℕ) → n < 256 → IsPadded n (replicate n 255) 0
new_row n l = record {
  narrow = l;
  fits = omega arith;
  low = λ i. elim (cases_lt i n) [
    | inl less ↦ rw (get_or-replicate {A = ℕ} n i 255 0 less) (omega arith)
    | inr more ↦ rw (get_or_past {X = ℕ} (replicate n 255) i 0 (omega (arith, length-replicate {A = ℕ} n 255, more))) (omega arith)
  ];
  padded = λ i a m. get_or-replicate {A = ℕ} n i 255 0 m;
}

-- what a row's place is among those that count
module _ (n : ℕ) (bytes : List ℕ) (len : ℕ) (row : IsPadded n bytes len) (size : length bytes ≡ n) where
  kept : length (take len bytes) ≡ len
  kept = length-take-le len bytes (omega (arith, row.fits, size))

  -- as many of a row's bytes count as it says
  pub row_length : length (take len bytes) ≡ len
  row_length = kept

  -- a row whose bytes that count rise is ordered, with the 255 behind them
  pub row_ordered : IsRising (take len bytes) → IsOrdered bytes
  row_ordered r i j l m = elim (cases_lt j len) [
    | inl less ↦
        let a = r i j l (omega (arith, kept, less)) in
        let x = get_or-take len bytes i 0 (omega (arith, l, less)) in
        let y = get_or-take len bytes j 0 less in
        omega (arith, a, x, y)
    | inr more ↦ omega (arith, row.padded j more (omega (arith, m, size)), row.low i)
  ]

  module _ (b p : ℕ) (small : b < 256) (within : p ≤ n) (below : (i : ℕ) → i < p → get_or bytes i 0 < b) where
    -- so many bytes at the front that are lower than another all count
    pub row_within : p ≤ length (take len bytes)
    row_within = elim (cases_lt len p) [
      | inl less ↦ absurd (omega (arith, below len less, row.padded len (omega arith) (omega (arith, less, within)), small))
      | inr more ↦ omega (arith, kept, more)
    ]

    -- those before its place are lower among the bytes that count
    pub row_below : (i : ℕ) → i < p → get_or (take len bytes) i 0 < b
    row_below i l = rw (get_or-take len bytes i 0 (omega (arith, l, row_within, kept))) (below i l)

    -- the one at its place, if it counts, isn't lower
    pub row_at : (p < n → b ≤ get_or bytes p 0) → p < length (take len bytes) → b ≤ get_or (take len bytes) p 0
    row_at at l = rw (get_or-take len bytes p 0 (omega (arith, l, kept))) (at (omega (arith, l, kept, row.fits)))

-- bytes moved within a row
module _ (n : ℕ) (xs ys : List ℕ) (len from to m : ℕ) (row : IsPadded n xs len) (size : length xs ≡ n) (same : length ys ≡ length xs) (copied : CopiedTo xs ys from to m) (front : SameBelow xs ys to) (back : SameFrom xs ys (to + m)) where
  low_still : (i : ℕ) → get_or ys i 0 < 256
  low_still i = elim (cases_lt i to) [
    | inl less ↦ rw (front i 0 less) (row.low i)
    | inr more ↦ elim (cases_lt i (to + m)) [
      | inl within ↦ rw (copied i 0 more within) (row.low (from + (i - to)))
      | inr past ↦ rw (back i 0 past) (row.low i)
    ]
  ]

  low_set : (p b : ℕ) → b < 256 → p < length ys → (i : ℕ) → get_or (set ys p b) i 0 < 256
  low_set p b l w i = elim (cases_lt i p) [
    | inl less ↦ rw (get_or-set_other ys p i b 0 (λ q. omega (arith, less, q))) (low_still i)
    | inr more ↦ elim (cases_lt p i) [
      | inl past ↦ rw (get_or-set_other ys p i b 0 (λ q. omega (arith, past, q))) (low_still i)
      | inr least ↦ let e : i ≡ p = omega (arith, more, least) in rw (e, get_or-set_same ys p b 0 w) l
    ]
  ]

module _ (n : ℕ) (xs ys : List ℕ) (len p b : ℕ) (row : IsPadded n xs len) (size : length xs ≡ n) (same : length ys ≡ length xs) (small : b < 256) where
  module _ (within : p ≤ len) (room : len < n) (copied : CopiedTo xs ys p (p + 1) (len - p)) (front : SameBelow xs ys (p + 1)) (back : SameFrom xs ys (p + 1 + (len - p))) where
    -- a row with a byte put in its place, the others moved up, is a row with one more
    pub insert_row : IsPadded n (set ys p b) (len + 1)
    insert_row = record {
      narrow = row.narrow;
      fits = omega (arith, room);
      low = low_set n xs ys len p (p + 1) (len - p) row size same copied front back p b small (omega (arith, within, room, size, same));
      padded = λ i l m. get_or-set_other ys p i b 0 (λ q. omega (arith, l, within, q)) ∙ (back i 0 (omega (arith, l, within)) ∙ row.padded i (omega (arith, l)) m);
    }

    -- the bytes that count then are those before, with the byte at its place
    pub insert_list : take (len + 1) (set ys p b) ≡ insert (take len xs) p b
    insert_list =
        let kept : length (take len xs) ≡ len = length-take-le len xs (omega (arith, row.fits, size)) in
        let long : length (take (len + 1) (set ys p b)) ≡ len + 1 = length-take-le (len + 1) (set ys p b) (omega (arith, length-set ys p b, same, size, room)) in
        let place : p ≤ length (take len xs) = omega (arith, kept, within) in
        same_lists _ _ (omega (arith, long, kept, length-insert (take len xs) p b place)) (λ k d h.
        let m : k < len + 1 = omega (arith, long, h) in
        get_or-take (len + 1) (set ys p b) k d m ∙ elim (cases_lt k p) [
          | inl less ↦ get_or-set_other ys p k b d (λ q. omega (arith, less, q)) ∙ (front k d (omega (arith, less)) ∙ (sym (get_or-take len xs k d (omega (arith, less, within))) ∙ sym (get_or-insert_below (take len xs) p b d k less place)))
          | inr more ↦ elim (cases_lt p k) [
            | inl past ↦
                let j = k - 1 in
                let e : p + (k - (p + 1)) ≡ j = omega (arith, past) in
                let f : j + 1 ≡ k = omega (arith, past) in
                get_or-set_other ys p k b d (λ q. omega (arith, past, q)) ∙ (copied k d (omega (arith, past)) (omega (arith, m, within)) ∙ (ap (λ i. get_or xs i d) e ∙ (sym (get_or-take len xs j d (omega (arith, past, m)))
                ∙ (sym (get_or-insert_above (take len xs) p b d j (omega (arith, past)) place) ∙ ap (λ i. get_or (insert (take len xs) p b) i d) f))))
            | inr least ↦
                let e : k ≡ p = omega (arith, more, least) in
                ap (λ i. get_or (set ys p b) i d) e ∙ (get_or-set_same ys p b d (omega (arith, within, room, size, same)) ∙ (sym (get_or-insert_at (take len xs) p b d place) ∙ ap (λ i. get_or (insert (take len xs) p b) i d) (sym e)))
          ]
        ])

  module _ (within : p < len) (copied : CopiedTo xs ys (p + 1) p (len - (p + 1))) (front : SameBelow xs ys p) (back : SameFrom xs ys (p + (len - (p + 1)))) where
    -- a row with a byte moved over, and 255 at the end, is a row with one less
    pub remove_row : b ≡ 255 → IsPadded n (set ys (len - 1) b) (len - 1)
    remove_row full = record {
      narrow = row.narrow;
      fits = omega (arith, row.fits);
      low = low_set n xs ys len (p + 1) p (len - (p + 1)) row size same copied front back (len - 1) b small (omega (arith, within, row.fits, size, same));
      padded = λ i l m. elim (cases_lt (len - 1) i) [
        | inl past ↦ get_or-set_other ys (len - 1) i b 0 (λ q. omega (arith, past, q)) ∙ (back i 0 (omega (arith, past, within)) ∙ row.padded i (omega (arith, past)) m)
        | inr least ↦ let e : i ≡ len - 1 = omega (arith, l, least) in rw (e, get_or-set_same ys (len - 1) b 0 (omega (arith, within, row.fits, size, same))) full
      ];
    }

    -- the bytes that count then are those before, without the one at its place
    pub remove_list : take (len - 1) (set ys (len - 1) b) ≡ remove (take len xs) p
    remove_list =
        let kept : length (take len xs) ≡ len = length-take-le len xs (omega (arith, row.fits, size)) in
        let place : p < length (take len xs) = omega (arith, kept, within) in
        let long : length (take (len - 1) ys) ≡ len - 1 = length-take-le (len - 1) ys (omega (arith, row.fits, size, same)) in
        take-set-le (len - 1) ys (len - 1) b (omega arith) ∙ same_lists _ _ (omega (arith, long, kept, length-remove (take len xs) p place)) (λ k d h.
        let m : k < len - 1 = omega (arith, long, h) in
        get_or-take (len - 1) ys k d m ∙ elim (cases_lt k p) [
          | inl less ↦ front k d less ∙ (sym (get_or-take len xs k d (omega (arith, less, within))) ∙ sym (get_or-remove_below (take len xs) p d k less place))
          | inr more ↦
              let e : p + 1 + (k - p) ≡ k + 1 = omega (arith, more) in
              copied k d more (omega (arith, m, more, within)) ∙ (ap (λ i. get_or xs i d) e ∙ (sym (get_or-take len xs (k + 1) d (omega (arith, m))) ∙ sym (get_or-remove_above (take len xs) p d k more place)))
        ])

-- a property of each byte beside an entry
all_at : {X : Type 0} (P : ℕ → Type 0) (ks : List ℕ) (ys : List X) → length ks ≡ length ys → AllKeys P (pairs ks ys) → (i : ℕ) → i < length ks → P (get_or ks i 0)
all_at P [] ys e a i l = absurd (omega (arith, l))
all_at P (k ∷ ks) [] e a i l = absurd (omega (arith, e))
all_at P (k ∷ ks) (y ∷ ys) e a zero l = a.0
all_at P (k ∷ ks) (y ∷ ys) e a (suc i) l = all_at P ks ys (omega (arith, e)) a.1 i (omega (arith, l))

-- bytes beside their entries rise
pub rising_of : {X : Type 0} (ks : List ℕ) (ys : List X) → length ks ≡ length ys → Rises (pairs ks ys) → IsRising ks
rising_of [] ys e r i j l m = absurd (omega (arith, m))
rising_of (k ∷ ks) [] e r i j l m = absurd (omega (arith, e))
rising_of (k ∷ ks) (y ∷ ys) e r i zero l m = absurd (omega (arith, l))
rising_of (k ∷ ks) (y ∷ ys) e r zero (suc j) l m = all_at (λ c. k < c) ks ys (omega (arith, e)) r.0 j (omega (arith, m))
rising_of (k ∷ ks) (y ∷ ys) e r (suc i) (suc j) l m = rising_of ks ys (omega (arith, e)) r.1 i j (omega (arith, l)) (omega (arith, m))

-- no byte is past the last
pub none_past : {X : Type 0} {ks : List ℕ} {ys : List X} → IsSorted ks ys → (from : ℕ) → 255 < from → (b : ℕ) → from ≤ b → map.get (sorted_map ks ys) b ≡ None
none_past {X} {ks} {ys} ok from past b l = of (map.get (sorted_map ks ys) b) refl
  where
    of : (o : Option X) → map.get (sorted_map ks ys) b ≡ o → map.get (sorted_map ks ys) b ≡ None
    of None e = e
    of (Some y) e = absurd (let low : b < 256 = is_byte ok b (subst IsSome (sym e) refl) in omega (arith, low, past, l))
