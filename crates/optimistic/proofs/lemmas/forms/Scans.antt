-- The next bit that is set.
use Rattle.std.proofs.Common.{◌≡◌, ◌≢◌, ℕ, suc, ◌+◌, ◌-◌, ◌*◌, ◌/◌, ◌%◌, ◌^◌, ◌<◌, ◌≤◌, sym, ap, ◌∙◌, arith, shr-shr, inl, inr, bit_and, pow_pos, pow_mono, pow-add, List, [], ◌∷◌, get_or, set, length, ◌⊎◌}
use native.Mathlib.Numerals.{unary_clauses}
use Rattle.std.proofs.lemmas.List.{get_or-set_other}
use Rattle.std.proofs.lemmas.Grind.{get_or-set_at}
use Rattle.std.proofs.lemmas.Nat.{leading_length, leading_top, div_below, le-div, and_le_r}
use Rattle.std.proofs.lemmas.Nat.Bits.{bit_at-zero, bit_at-lt, bit_at_above, bit_at_and, bit_at_ones}
use Rattle.std.specs.Int.Count.{count_leading_zeros, leading_of_zero}
use Rattle.std.proofs.lemmas.Bool.{cases_lt, cases_eq}
use Rattle.std.specs.Int.{bit_at}
use Rattle.optimistic.specs.declared.forms.scan.Rest.{Rest}
use Rattle.optimistic.specs.forms.Wide.{bit_in, IsNext, IsRest, HasPlace, HasPlaces}
use Rattle.optimistic.specs.forms.Bytes.{with_at}
use Rattle.optimistic.specs.forms.Held.{held, IsNode}
use Rattle.std.specs.FinMap as map
use Rattle.std.proofs.Common.{IsSome, is_some}
use Rattle.optimistic.proofs.lemmas.forms.Maps.{with_here, with_other, get_taken, get_none, look}

pub shifted_bit : (m f k : ℕ) → bit_at (m / 2 ^ f) k ≡ bit_at m (f + k)
shifted_bit m f k = ap (λ x. x % 2) (shr-shr m f k)

bit_from : (m f k : ℕ) → f ≤ k → bit_at m k ≡ bit_at (m / 2 ^ f) (k - f)
bit_from m f k l = let e : k ≡ f + (k - f) = omega arith in ap (bit_at m) e ∙ sym (shifted_bit m f (k - f))

pub none_from : (m f : ℕ) → m / 2 ^ f ≡ 0 → (k : ℕ) → f ≤ k → bit_at m k ≡ 0
none_from m f e k l = bit_from m f k l ∙ ap (λ x. bit_at x (k - f)) e ∙ bit_at-zero (k - f)

-- a bit of a word that is set lies within
set_below : (m k : ℕ) → m < 2 ^ 64 → bit_at m k ≡ 1 → k < 64
set_below m k f e = elim (cases_lt k 64) [
  | inl l ↦ l
  | inr g ↦ let none = bit_at_above m 64 k f g in absurd (omega (arith, none, e))
]

pub first_from : (m f z : ℕ) → m < 2 ^ 64 → bit_at (m / 2 ^ f) z ≡ 1 → ((k : ℕ) → k < z → bit_at (m / 2 ^ f) k ≡ 0) → IsNext (bit_at m) 64 f (f + z)
first_from m f z small is below =
    let here : bit_at m (f + z) ≡ 1 = sym (shifted_bit m f z) ∙ is in
    (omega arith, set_below m (f + z) small here, here, λ k l g. bit_from m f k l ∙ below (k - f) (omega (arith, l, g)))

-- the highest bit of a number
top_bit : (r j : ℕ) → 2 ^ j ≤ r → r < 2 ^ suc j → bit_at r j ≡ 1
top_bit r j low high =
    let above = simp unary_clauses at high in
    let a = div_below r (2 ^ j) 2 (pow_pos j) (omega (arith, above)) in
    let b = le-div 1 r (2 ^ j) (pow_pos j) (omega (arith, low)) in
    let one : r / 2 ^ j ≡ 1 = omega (arith, a, b) in
    ap (λ (z : ℕ). z % 2) one

-- Of a word the bits up to one, and the zeros that lead them
module _ (m to : ℕ) (l : to < 64) where
  abbrev rest : ℕ
  rest = bit_and m ((2 ^ 64 - 1) / 2 ^ (63 - to))

  abbrev zeros : ℕ
  zeros = count_leading_zeros 64 rest

  rest_small : rest < 2 ^ (to + 1)
  rest_small =
      let whole : 2 ^ 64 ≡ 2 ^ (to + 1) * 2 ^ (63 - to) = ap (λ (z : ℕ). 2 ^ z) (let e : 64 ≡ to + 1 + (63 - to) = omega arith in e) ∙ pow-add 2 (to + 1) (63 - to) in
      let above = div_below (2 ^ 64 - 1) (2 ^ (63 - to)) (2 ^ (to + 1)) (pow_pos (63 - to)) (omega (arith, whole)) in
      let most = and_le_r m ((2 ^ 64 - 1) / 2 ^ (63 - to)) in
      omega (arith, above, most)

  rest_word : rest < 2 ^ 64
  rest_word = let s = rest_small in let p = pow_mono {i = to + 1} {j = 64} (omega arith) in omega (arith, s, p)

  pub last_none : (k : ℕ) → 64 - zeros ≤ k → k ≤ to → bit_at m k ≡ 0
  last_none k above below =
      let t = leading_length 64 rest rest_word in
      let sum = t.1 in
      let none : bit_at rest k ≡ 0 = bit_at_above rest t.0 k t.2 (omega (arith, above, sum)) in
      let one : bit_at ((2 ^ 64 - 1) / 2 ^ (63 - to)) k ≡ 1 = shifted_bit (2 ^ 64 - 1) (63 - to) k ∙ bit_at_ones 64 (63 - to + k) (omega (arith, below)) in
      let both = bit_at_and m ((2 ^ 64 - 1) / 2 ^ (63 - to)) k in
      let bit = bit_at-lt m k in
      omega (arith, both, one, bit, none)

  pub last_bound : 64 - zeros ≤ to + 1
  last_bound = elim (cases_eq rest 0) [
    | inl e ↦ let z : zeros ≡ 64 = ap (count_leading_zeros 64) e ∙ leading_of_zero 64 in omega (arith, z)
    | inr ne ↦
        let t = leading_top 64 rest (omega (arith, ne)) rest_word in
        let sum = t.1 in
        elim (cases_lt to t.0) [
          | inl high ↦
              let p : 2 ^ (to + 1) ≤ 2 ^ t.0 = pow_mono {i = to + 1} {j = t.0} (omega (arith, high)) in
              let top = t.2 in
              let s = rest_small in
              absurd (omega (arith, p, top, s))
          | inr low ↦ omega (arith, sum, low)
        ]
  ]

  -- the highest of them is set
  pub last_top : 0 < 64 - zeros → bit_at m (64 - zeros - 1) ≡ 1
  last_top some = elim (cases_eq rest 0) [
    | inl e ↦ let z : zeros ≡ 64 = ap (count_leading_zeros 64) e ∙ leading_of_zero 64 in absurd (omega (arith, z, some))
    | inr ne ↦
        let t = leading_top 64 rest (omega (arith, ne)) rest_word in
        let j : ℕ = t.0 in
        let sum = t.1 in
        let at : 64 - zeros - 1 ≡ j = omega (arith, sum) in
        let here : bit_at rest j ≡ 1 = top_bit rest j t.2 t.3 in
        let both = bit_at_and m ((2 ^ 64 - 1) / 2 ^ (63 - to)) j in
        let bit = bit_at-lt m j in
        ap (bit_at m) at ∙ omega (arith, both, here, bit)
  ]

-- the same in a list of words, from a place in word w on
pub in_word : (masks : List ℕ) (w k : ℕ) → k < 64 → bit_in masks (w * 64 + k) ≡ bit_at (get_or masks w 0) k
in_word masks w k l =
    let d : (w * 64 + k) / 64 ≡ w = omega arith in
    let m : (w * 64 + k) % 64 ≡ k = omega arith in
    ap (λ x. bit_at (get_or masks x 0) ((w * 64 + k) % 64)) d ∙ ap (bit_at (get_or masks w 0)) m

pub rest_none : (masks : List ℕ) (from at : ℕ) → ((k : ℕ) → from ≤ k → k < at → bit_in masks k ≡ 0) → ((k : ℕ) → at % 64 ≤ k → bit_at (get_or masks (at / 64) 0) k ≡ 0) → (k : ℕ) → from ≤ k → k < (at / 64 + 1) * 64 → bit_in masks k ≡ 0
rest_none masks from at before none k l g = elim (cases_lt k at) [
  | inl b ↦ before k l b
  | inr a ↦
      let e : k ≡ at / 64 * 64 + k % 64 = omega arith in
      ap (bit_in masks) e ∙ in_word masks (at / 64) (k % 64) (omega arith) ∙ none (k % 64) (omega arith)
]

pub rest_next : (masks : List ℕ) (from at bit : ℕ) → from ≤ at → at < 256 → ((k : ℕ) → from ≤ k → k < at → bit_in masks k ≡ 0) → IsNext (bit_at (get_or masks (at / 64) 0)) 64 (at % 64) bit → IsNext (bit_in masks) 256 from (at / 64 * 64 + bit)
rest_next masks from at bit le small before next = (
  omega (arith, next.0),
  omega (arith, next.1),
  in_word masks (at / 64) bit next.1 ∙ next.2,
  λ k l g. elim (cases_lt k at) [
    | inl b ↦ before k l b
    | inr a ↦
        let e : k ≡ at / 64 * 64 + k % 64 = omega (arith, g, next.1, a) in
        ap (bit_in masks) e ∙ in_word masks (at / 64) (k % 64) (omega arith) ∙ next.3 (k % 64) (omega (arith, a, g, next.1)) (omega (arith, e, g))
  ],
)

-- the bits of a word from one on are its rest
pub rest_in : (masks : List ℕ) (word at from : ℕ) → word < 4 → word * 64 ≤ at → at < (word + 1) * 64 → from ≤ at → get_or masks word 0 < 2 ^ 64 → ((k : ℕ) → from ≤ k → k < at → bit_in masks k ≡ 0)
    → IsRest masks from record { word = word; at = at; bits = get_or masks word 0 / 2 ^ (at - word * 64) }
rest_in masks word at from few low high order small none = record {
  word = few;
  order = order;
  end = omega (arith, high);
  none = none;
  bits = λ k l.
      let e : at + k ≡ word * 64 + (at - word * 64 + k) = omega (arith, low) in
      shifted_bit (get_or masks word 0) (at - word * 64) k ∙ sym (ap (bit_in masks) e ∙ in_word masks word (at - word * 64 + k) (omega (arith, l, low)));
  within = λ k g. shifted_bit (get_or masks word 0) (at - word * 64) k ∙ bit_at_above (get_or masks word 0) 64 (at - word * 64 + k) small (omega (arith, g, low));
}

pub rest_whole : (masks : List ℕ) (word from : ℕ) → word < 4 → from ≤ word * 64 → get_or masks word 0 < 2 ^ 64 → ((k : ℕ) → from ≤ k → k < word * 64 → bit_in masks k ≡ 0) → IsRest masks from record { word = word; at = word * 64; bits = get_or masks word 0 }
rest_whole masks word from few order small none = record {
  word = few;
  order = order;
  end = omega arith;
  none = none;
  bits = λ k l. sym (in_word masks word k (omega (arith, l)));
  within = λ k g. bit_at_above (get_or masks word 0) 64 k small (omega (arith, g));
}

-- Of a rest
module _ (masks : List ℕ) (from : ℕ) (r : Rest) (is : IsRest masks from r) where
  -- no bit is left of its word
  pub rest_passed : r.bits ≡ 0 → (k : ℕ) → from ≤ k → k < (r.word + 1) * 64 → bit_in masks k ≡ 0
  rest_passed empty k l g = elim (cases_lt k r.at) [
    | inl b ↦ is.none k l b
    | inr a ↦
        let e : r.at + (k - r.at) ≡ k = omega (arith, a) in
        sym (is.bits (k - r.at) (omega (arith, e, g)) ∙ ap (bit_in masks) e) ∙ ap (λ (z : ℕ). bit_at z (k - r.at)) empty ∙ bit_at-zero (k - r.at)
  ]

  -- the first of its bits
  module _ (z : ℕ) (set : bit_at r.bits z ≡ 1) (below : (k : ℕ) → k < z → bit_at r.bits k ≡ 0) where
    pub rest_within : r.at + z < (r.word + 1) * 64
    rest_within = elim (cases_lt (r.at + z) ((r.word + 1) * 64)) [
      | inl l ↦ l
      | inr g ↦ let none = is.within z g in absurd (omega (arith, none, set))
    ]

    pub rest_first : IsNext (bit_in masks) 256 from (r.at + z)
    rest_first =
        let w = rest_within in
        let few = is.word in
        let order = is.order in (
          omega (arith, order),
          omega (arith, w, few),
          sym (is.bits z w) ∙ set,
          λ k l g. elim (cases_lt k r.at) [
            | inl b ↦ is.none k l b
            | inr a ↦
                let e : r.at + (k - r.at) ≡ k = omega (arith, a) in
                sym (is.bits (k - r.at) (omega (arith, e, g, w)) ∙ ap (bit_in masks) e) ∙ below (k - r.at) (omega (arith, a, g))
          ],
        )

    pub rest_less : (bits : ℕ) → bits ≡ r.bits / 2 ^ z / 2 ^ 1 → IsRest masks (r.at + z + 1) record { word = r.word; at = r.at + z + 1; bits = bits }
    rest_less bits e =
        let w = rest_within in
        let moved : (k : ℕ) → bit_at bits k ≡ bit_at r.bits (z + (1 + k)) = λ k. ap (λ (y : ℕ). bit_at y k) e ∙ shifted_bit (r.bits / 2 ^ z) 1 k ∙ shifted_bit r.bits z (1 + k) in
        record {
          word = is.word;
          order = omega arith;
          end = omega (arith, w);
          none = λ k l g. absurd (omega (arith, l, g));
          bits = λ k l.
              let s : r.at + (z + (1 + k)) ≡ r.at + z + 1 + k = omega arith in
              moved k ∙ is.bits (z + (1 + k)) (omega (arith, l)) ∙ ap (bit_in masks) s;
          within = λ k g. moved k ∙ is.within (z + (1 + k)) (omega (arith, g));
        }

-- back from a place in a list of words
pub back_none : (masks : List ℕ) (end last to : ℕ) → 0 < end → ((k : ℕ) → end ≤ k → k < to → bit_in masks k ≡ 0) → ((k : ℕ) → last ≤ k → k ≤ (end - 1) % 64 → bit_at (get_or masks ((end - 1) / 64) 0) k ≡ 0)
    → (k : ℕ) → (end - 1) / 64 * 64 + last ≤ k → k < to → bit_in masks k ≡ 0
back_none masks end last to some before none k l g = elim (cases_lt k end) [
  | inl b ↦
      let e : k ≡ (end - 1) / 64 * 64 + k % 64 = omega (arith, l, b, some) in
      ap (bit_in masks) e ∙ in_word masks ((end - 1) / 64) (k % 64) (omega arith) ∙ none (k % 64) (omega (arith, e, l)) (omega (arith, e, b, some))
  | inr a ↦ before k a g
]

pub back_top : (masks : List ℕ) (w last : ℕ) → 0 < last → last ≤ 64 → bit_at (get_or masks w 0) (last - 1) ≡ 1 → bit_in masks (w * 64 + last - 1) ≡ 1
back_top masks w last some few is =
    let e : w * 64 + last - 1 ≡ w * 64 + (last - 1) = omega (arith, some) in
    ap (bit_in masks) e ∙ in_word masks w (last - 1) (omega (arith, some, few)) ∙ is

-- the bytes of the places that are no more in `rest` are in the masks, and only such
pub record IsCollected (key : ℕ → ℕ) (mask rest : ℕ) (masks : List ℕ) : Type 0 where
  pub inside : (k : ℕ) → bit_at rest k ≡ 1 → bit_at mask k ≡ 1
  pub sound : (b : ℕ) → b < 256 → bit_in masks b ≡ 1 → HasPlace key (bit_at mask) b
  pub complete : (k : ℕ) → bit_at mask k ≡ 1 → bit_at rest k ≢ 1 → bit_in masks (key k) ≡ 1
  pub size : length masks ≡ 4

pub collected_none : (key : ℕ → ℕ) (mask : ℕ) (masks : List ℕ) → length masks ≡ 4 → ((b : ℕ) → b < 256 → bit_in masks b ≡ 0) → IsCollected key mask mask masks
collected_none key mask masks size none = record {
  inside = λ k e. e;
  sound = λ b l e. absurd (omega (arith, none b l, e));
  complete = λ k e d. absurd (d e);
  size = size;
}

pub collected_more : (key : ℕ → ℕ) (mask rest rest' : ℕ) (masks masks' : List ℕ) (p : ℕ) → IsCollected key mask rest masks → bit_at rest p ≡ 1
    → ((q : ℕ) → bit_in masks' q ≡ with_at (bit_in masks) (key p) 1 q) → ((q : ℕ) → bit_at rest' q ≡ with_at (bit_at rest) p 0 q) → length masks' ≡ 4 → IsCollected key mask rest' masks'
collected_more key mask rest rest' masks masks' p c is put take size = record {
  inside = λ k e. elim (cases_eq k p) [
    | inl s ↦ ap (bit_at mask) s ∙ c.inside p is
    | inr d ↦ c.inside k (sym (take k ∙ with_other (bit_at rest) p 0 k d) ∙ e)
  ];
  sound = λ b l e. elim (cases_eq b (key p)) [
    | inl s ↦ record { place = p; taken_there = c.inside p is; byte = sym s }
    | inr d ↦ c.sound b l (sym (put b ∙ with_other (bit_in masks) (key p) 1 b d) ∙ e)
  ];
  complete = λ k e n. elim (cases_eq (key k) (key p)) [
    | inl s ↦ ap (bit_in masks') s ∙ put (key p) ∙ with_here (bit_in masks) (key p) 1
    | inr d ↦
        let apart : k ≢ p = λ s. d (ap key s) in
        put (key k) ∙ with_other (bit_in masks) (key p) 1 (key k) d ∙ c.complete k e (λ f. n (take k ∙ with_other (bit_at rest) p 0 k apart ∙ f))
  ];
  size = size;
}

pub collected_all : (key : ℕ → ℕ) (mask rest : ℕ) (masks : List ℕ) → IsCollected key mask rest masks → rest ≡ 0 → (b : ℕ) → HasPlace key (bit_at mask) b → bit_in masks b ≡ 1
collected_all key mask rest masks c z b h =
    let none : bit_at rest h.place ≡ 0 = ap (λ x. bit_at x h.place) z ∙ bit_at-zero h.place in
    ap (bit_in masks) (sym h.byte) ∙ c.complete h.place h.taken_there (λ e. absurd (omega (arith, none, e)))

pub place_within : (mask n p : ℕ) → mask < 2 ^ n → bit_at mask p ≡ 1 → p < n
place_within mask n p f e = elim (cases_lt p n) [
  | inl l ↦ l
  | inr g ↦ let none = bit_at_above mask n p f g in absurd (omega (arith, none, e))
]

cases_four : (j : ℕ) → j < 4 → (j ≡ 0) ⊎ ((j ≡ 1) ⊎ ((j ≡ 2) ⊎ (j ≡ 3)))
cases_four j l = elim (cases_eq j 0) [
  | inl e ↦ inl e
  | inr a ↦ elim (cases_eq j 1) [
    | inl e ↦ inr (inl e)
    | inr b ↦ elim (cases_eq j 2) [
      | inl e ↦ inr (inr (inl e))
      | inr c ↦ inr (inr (inr (omega (arith, l, a, b, c))))
    ]
  ]
]

pub no_bits : (b : ℕ) → b < 256 → bit_in (0 ∷ 0 ∷ 0 ∷ 0 ∷ []) b ≡ 0
no_bits b l = elim (cases_four (b / 64) (omega arith)) [
  | inl e ↦ ap (λ j. bit_at (get_or (0 ∷ 0 ∷ 0 ∷ 0 ∷ []) j 0) (b % 64)) e ∙ bit_at-zero (b % 64)
  | inr o ↦ elim o [
    | inl e ↦ ap (λ j. bit_at (get_or (0 ∷ 0 ∷ 0 ∷ 0 ∷ []) j 0) (b % 64)) e ∙ bit_at-zero (b % 64)
    | inr p ↦ elim p [
      | inl e ↦ ap (λ j. bit_at (get_or (0 ∷ 0 ∷ 0 ∷ 0 ∷ []) j 0) (b % 64)) e ∙ bit_at-zero (b % 64)
      | inr e ↦ ap (λ j. bit_at (get_or (0 ∷ 0 ∷ 0 ∷ 0 ∷ []) j 0) (b % 64)) e ∙ bit_at-zero (b % 64)
    ]
  ]
]

-- a byte that a taken place has is one that the map has
module _ (n : ℕ) (key entry : ℕ → ℕ) (mask b : ℕ) (node : IsNode key (bit_at mask) n) where
  pub place_is_some : mask < 2 ^ n → HasPlace key (bit_at mask) b → IsSome (map.get (held key (bit_at mask) entry n) b)
  place_is_some f h =
      ap is_some (ap (map.get (held key (bit_at mask) entry n)) (sym h.byte) ∙ get_taken key (bit_at mask) entry n node h.place (place_within mask n h.place f h.taken_there) h.taken_there)

  pub some_has_place : IsSome (map.get (held key (bit_at mask) entry n) b) → HasPlace key (bit_at mask) b
  some_has_place s = elim (look key (bit_at mask) entry n b) [
    | inl f ↦ record { place = f.0; taken_there = f.2; byte = f.3 }
    | inr g ↦ let none = get_none key (bit_at mask) entry n b g in absurd (cc (s, none))
  ]

pub places_more : (key : ℕ → ℕ) (mask : ℕ) (masks masks' places : List ℕ) (b p : ℕ) → HasPlaces key (bit_at mask) masks places → ((q : ℕ) → bit_in masks' q ≡ with_at (bit_in masks) (key p) 1 q) → bit_at mask p ≡ 1 → b ≡ key p → b < length places
    → HasPlaces key (bit_at mask) masks' (set places b p)
places_more key mask masks masks' places b p old put taken is low q l e = elim (cases_eq q (key p)) [
  | inl s ↦
      let at : get_or (set places b p) q 0 ≡ p = get_or-set_at places b q p 0 (s ∙ sym is) low in
      (ap (bit_at mask) at ∙ taken, ap key at ∙ sym s)
  | inr d ↦
      let at : get_or (set places b p) q 0 ≡ get_or places q 0 = get_or-set_other places b q p 0 (λ f. d (f ∙ is)) in
      let t = old q l (sym (put q ∙ with_other (bit_in masks) (key p) 1 q d) ∙ e) in
      (ap (bit_at mask) at ∙ t.0, ap key at ∙ t.1)
]
