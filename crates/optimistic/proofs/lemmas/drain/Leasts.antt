-- The item with the lowest byte from some byte on.
use Rattle.std.proofs.Common.{◌≡◌, ◌≢◌, ℕ, ◌+◌, ◌/◌, ◌%◌, ◌<◌, ◌≤◌, Bool, true, false, arith, ap, sym, ◌∙◌, subst, inl, inr, if◌then◌else◌}
use Rattle.std.specs.Prelude.{Option, None, Some, unwrap_or, is_some}
use Rattle.std.proofs.lemmas.Bool.{cases_eq, cases_lt}
use Rattle.std.specs.FinMap as map
use Rattle.optimistic.specs.Layout.{room, leaf_of}
use Rattle.optimistic.specs.Moves.{IsItem}
use Rattle.optimistic.specs.declared.moves.Item.{Item}
use Rattle.optimistic.specs.forms.Held.{held}
use Rattle.optimistic.specs.forms.Children.{is_inner, byte_in, taken_in, first_word, last_word, firsts, lasts, first_of, second_of, put_first, IsForm}
use Rattle.optimistic.specs.forms.Least.{IsLeast, IsLeastItem}
use Rattle.optimistic.proofs.lemmas.forms.ByteLemmas.{byte_below}
use Rattle.optimistic.proofs.lemmas.forms.PlaceLemmas.{byte_narrow}
use Rattle.optimistic.proofs.lemmas.MoveLemmas.{byte_wide}
use Rattle.optimistic.proofs.lemmas.forms.Maps.{get_taken, get_none, look}
use Rattle.optimistic.proofs.lemmas.forms.ChildLemmas.{either, firsts_are, lasts_are, first_inner, first_values, second_is, first_none}

module _ (form : ℕ) (w : ℕ → ℕ) (from : ℕ) where
  -- one more place, which isn't taken
  pub least_skip : (i : ℕ) (r : Option Item) → taken_in form w i ≢ 1 → IsLeast form w from i r → IsLeast form w from (i + 1) r
  least_skip i None free h = λ j l t. elim (cases_lt j i) [
    | inl m ↦ h j m t
    | inr m ↦ let e : j ≡ i = omega arith in absurd (free (ap (taken_in form w) (sym e) ∙ t))
  ]
  least_skip i (Some e) free h = record {
    place = h.place;
    inside = h.inside;
    item = h.item;
    above = h.above;
    least = λ j l t a. elim (cases_lt j i) [
      | inl m ↦ h.least j m t a
      | inr m ↦ let s : j ≡ i = omega arith in absurd (free (ap (taken_in form w) (sym s) ∙ t))
    ];
  }

  module _ (i : ℕ) (e : Item) (item : IsItem form w i e) where
    -- one more place, of which the byte is too low
    pub least_low : (r : Option Item) → e.byte < from → IsLeast form w from i r → IsLeast form w from (i + 1) r
    least_low None low h = λ j l t. elim (cases_lt j i) [
      | inl m ↦ h j m t
      | inr m ↦ let s : j ≡ i = omega arith in let b : byte_in form w j ≡ e.byte = ap (byte_in form w) s ∙ item.1 in omega (arith, b, low)
    ]
    least_low (Some o) low h = record {
      place = h.place;
      inside = h.inside;
      item = h.item;
      above = h.above;
      least = λ j l t a. elim (cases_lt j i) [
        | inl m ↦ h.least j m t a
        | inr m ↦ let s : j ≡ i = omega arith in let b : byte_in form w j ≡ e.byte = ap (byte_in form w) s ∙ item.1 in absurd (omega (arith, b, low, a))
      ];
    }

    -- one more place, which is the lowest
    pub least_here : i < room form → from ≤ e.byte → ((j : ℕ) → j < i → taken_in form w j ≡ 1 → from ≤ byte_in form w j → e.byte ≤ byte_in form w j) → IsLeastItem form w from (i + 1) e
    least_here inside above lower = record {
      place = i;
      inside = inside;
      item = item;
      above = above;
      least = λ j l t a. elim (cases_lt j i) [
        | inl m ↦ lower j m t a
        | inr m ↦ let s : j ≡ i = omega arith in let b : byte_in form w j ≡ e.byte = ap (byte_in form w) s ∙ item.1 in omega (arith, b)
      ];
    }

    -- one more place, of which the byte is higher than the lowest
    pub least_there : (o : Item) → o.byte ≤ e.byte → IsLeastItem form w from i o → IsLeastItem form w from (i + 1) o
    least_there o high h = record {
      place = h.place;
      inside = h.inside;
      item = h.item;
      above = h.above;
      least = λ j l t a. elim (cases_lt j i) [
        | inl m ↦ h.least j m t a
        | inr m ↦ let s : j ≡ i = omega arith in let b : byte_in form w j ≡ e.byte = ap (byte_in form w) s ∙ item.1 in omega (arith, b, high)
      ];
    }

module _ (form : ℕ) (w : ℕ → ℕ) (is : IsForm form w) where
  -- a byte that no taken place has
  pub none_at : (key b : ℕ) → ((i : ℕ) → i < room form → taken_in form w i ≡ 1 → byte_in form w i ≢ b) → first_of form w key b ≡ 0
  none_at key b none = first_none form w key b (ap (λ m. map.get m b) (firsts_are form w) ∙ get_none (byte_in form w) (taken_in form w) (λ i. w (first_word form i)) (room form) b none)

  -- the child at an item's byte
  module _ (i : ℕ) (e : Item) (inside : i < room form) (item : IsItem form w i e) where
    pub item_first : (key : ℕ) → first_of form w key e.byte ≡ put_first form e.first key
    item_first key =
        let at : map.get (firsts form w) e.byte ≡ Some e.first =
        ap (λ m. map.get m e.byte) (firsts_are form w) ∙ ap (map.get (held (byte_in form w) (taken_in form w) (λ q. w (first_word form q)) (room form))) (sym item.1)
        ∙ get_taken (byte_in form w) (taken_in form w) (λ q. w (first_word form q)) (room form) is.node i inside item.0 ∙ ap (λ (z : ℕ). Some z) item.2 in
        elim (either (is_inner form)) [
          | inl b ↦ first_inner form w key e.byte b ∙ ap (λ (o : Option ℕ). unwrap_or o 0) at ∙ sym (ap (λ (c : Bool). if c then e.first else leaf_of key) b)
          | inr b ↦ first_values form w key e.byte b ∙ ap (λ (o : Option ℕ). if is_some o then leaf_of key else 0) at ∙ sym (ap (λ (c : Bool). if c then e.first else leaf_of key) b)
        ]

    pub item_second : (key : ℕ) → second_of form w key e.byte ≡ e.last
    item_second key =
        let at : map.get (lasts form w) e.byte ≡ Some e.last =
        ap (λ m. map.get m e.byte) (lasts_are form w) ∙ ap (map.get (held (byte_in form w) (taken_in form w) (λ q. w (last_word form q)) (room form))) (sym item.1)
        ∙ get_taken (byte_in form w) (taken_in form w) (λ q. w (last_word form q)) (room form) is.node i inside item.0 ∙ ap (λ (z : ℕ). Some z) item.3 in
        second_is form w key e.byte ∙ ap (λ (o : Option ℕ). unwrap_or o 0) at

  -- a child word is that of some place
  pub child_named : (key b : ℕ) → is_inner form ≡ true → first_of form w key b ≢ 0 → (i : ℕ) × (i < room form) × (w (first_word form i) ≡ first_of form w key b)
  child_named key b inner some = elim (look (byte_in form w) (taken_in form w) (λ i. w (first_word form i)) (room form) b) [
    | inl f ↦ (
      f.0,
      f.1,
      sym (first_inner form w key b inner
          ∙ ap (λ (o : Option ℕ). unwrap_or o 0) (ap (λ m. map.get m b) (firsts_are form w) ∙ ap (map.get (held (byte_in form w) (taken_in form w) (λ q. w (first_word form q)) (room form))) (sym f.3)
          ∙ get_taken (byte_in form w) (taken_in form w) (λ q. w (first_word form q)) (room form) is.node f.0 f.1 f.2)),
    )
    | inr none ↦ absurd (some (none_at key b none))
  ]

-- the child at a byte of a node of values has no form
pub values_tag : (form : ℕ) (w : ℕ → ℕ) (key b : ℕ) → is_inner form ≡ false → 0 < first_of form w key b % 16 → first_of form w key b % 16 < 9 → ⊥
values_tag form w key b e some low =
    let is = first_values form w key b e in
    leaf (is_some (map.get (firsts form w) b)) (subst (λ (z : ℕ). 0 < z % 16) is some) (subst (λ (z : ℕ). z % 16 < 9) is low)
  where
    leaf : (c : Bool) → 0 < (if c then leaf_of key else 0) % 16 → (if c then leaf_of key else 0) % 16 < 9 → ⊥
    leaf true some low = absurd (omega (arith, low))
    leaf false some low = absurd (omega (arith, some))

pub byte_small : (form : ℕ) (w : ℕ → ℕ) (i : ℕ) → i < room form → byte_in form w i < 256
byte_small form w i l = elim (cases_eq (room form) 256) [
  | inl e ↦ let b = byte_wide form w i e in omega (arith, b, l, e)
  | inr d ↦ let b = byte_narrow form w i d in omega (arith, b, byte_below (w (2 + i / 8)) (i % 8))
]
