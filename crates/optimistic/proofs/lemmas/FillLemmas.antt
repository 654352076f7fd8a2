-- A node that is cleared, and filled with another one's entries.
use Rattle.std.proofs.Common.{◌≡◌, ◌≢◌, ℕ, suc, ◌+◌, ◌*◌, ◌/◌, ◌^◌, ◌<◌, ◌≤◌, Bool, true, false, arith, ap, sym, ◌∙◌, subst, inl, inr, MatchBool}
use Rattle.optimistic.specs.Layout.{room, entries, width}
use Rattle.optimistic.specs.forms.Bytes.{with_at}
use Rattle.optimistic.specs.forms.Children.{is_inner, taken_in, mask_of, first_word, last_word, IsForm, Becomes, put_first, Same}
use Rattle.optimistic.specs.forms.Parts.{HasPart, IsEmpty}
use Rattle.optimistic.specs.Moves.{Agree, IsItem}
use Rattle.optimistic.specs.declared.moves.Item.{Item}
use Rattle.optimistic.proofs.lemmas.forms.Maps.{with_here, with_other}
use Rattle.optimistic.proofs.lemmas.forms.FormLemmas.{first_like, second_like, wide_form, values_form, taken_like, byte_like, entries_some, lasts_some}
use Rattle.optimistic.proofs.lemmas.forms.PartLemmas.{empty_form, empty_none, wide_none, values_none, part_skip, part_step}
use Rattle.optimistic.proofs.lemmas.forms.PlaceLemmas.{entries_four, entries_sixteen, entries_forty_eight, first_above, first_inside, last_inside, mask_four, mask_sixteen, mask_forty_eight}
use Rattle.optimistic.proofs.lemmas.MoveLemmas.{two_inside, below_inside, wide_inner, wide_values}

module _ (form : ℕ) (u v : ℕ → ℕ) (none : is_inner form ≡ true → (q : ℕ) → q < room form → u (first_word form q) ≡ 0) where
  empty_lined : (m : ℕ) → room form ≢ 256 → mask_of form v ≡ 0 → m < entries form → Agree form v (with_at u m 0) → IsEmpty form v
  empty_lined m narrow mask low same = record {
    form_is = empty_form form v narrow mask (λ e q l.
        same (first_word form q) (first_inside form q l) ∙ with_other u m 0 (first_word form q) (λ (h : first_word form q ≡ m). absurd (omega (arith, h, low, first_above form q))) ∙ none e q l);
    none = empty_none form v narrow mask;
  }

  pub empty_four : room form ≡ 4 → Agree form v (with_at u 2 0) → IsEmpty form v
  empty_four r same = empty_lined 2 (λ h. absurd (omega (arith, h, r))) (mask_four form v r ∙ ap (λ (z : ℕ). z / 2 ^ 32) (same 2 (two_inside form (omega (arith, r))) ∙ with_here u 2 0)) (omega (arith, entries_four form r)) same

  pub empty_sixteen : room form ≡ 16 → Agree form v (with_at u 4 0) → IsEmpty form v
  empty_sixteen r same =
      let e = entries_sixteen form r in
      empty_lined 4 (λ h. absurd (omega (arith, h, r))) (mask_sixteen form v r ∙ (same 4 (below_inside form 4 (omega (arith, r)) (omega (arith, e))) ∙ with_here u 4 0)) (omega (arith, e)) same

  pub empty_forty_eight : room form ≡ 48 → Agree form v (with_at u 8 0) → IsEmpty form v
  empty_forty_eight r same =
      let e = entries_forty_eight form r in
      empty_lined 8 (λ h. absurd (omega (arith, h, r))) (mask_forty_eight form v r ∙ (same 8 (below_inside form 8 (omega (arith, r)) (omega (arith, e))) ∙ with_here u 8 0)) (omega (arith, e)) same

pub empty_wide : (form : ℕ) (u v : ℕ → ℕ) → room form ≡ 256 → form < 5 → ((q : ℕ) → q < room form → u (first_word form q) ≡ 0) → Agree form v (with_at u 2 0) → IsEmpty form v
unfolding width
empty_wide form u v r l = subst (λ (f : ℕ). ((q : ℕ) → q < room f → u (first_word f q) ≡ 0) → Agree f v (with_at u 2 0) → IsEmpty f v) (sym (wide_inner form r l)) (λ none same. record {
  form_is = wide_form v;
  none = wide_none v (λ q m. same (8 + 2 * q) (omega arith) ∙ with_other u 2 0 (8 + 2 * q) (λ (h : 8 + 2 * q ≡ 2). absurd (omega (arith, h))) ∙ none q m);
})

pub empty_values : (form : ℕ) (v : ℕ → ℕ) → room form ≡ 256 → 5 ≤ form → v 2 ≡ 0 → v 3 ≡ 0 → v 4 ≡ 0 → v 5 ≡ 0 → IsEmpty form v
empty_values form v r l a b c d = subst (λ (f : ℕ). IsEmpty f v) (sym (wide_values form r l)) (record { form_is = values_form v; none = values_none v a b c d })

-- the same words have the same part
pub part_like : (form : ℕ) (w : ℕ → ℕ) (i g : ℕ) (v v' : ℕ → ℕ) → Same g v' v → HasPart form w i g v → HasPart form w i g v'
part_like form w i g v v' same p = record {
  firsts_same = λ key b. first_like g v v' same key b ∙ p.firsts_same key b;
  seconds_same = λ key b. second_like g v v' same key b ∙ p.seconds_same key b;
}

next_place : (i : ℕ) → suc i ≡ i + 1
next_place i = omega arith

module _ (form : ℕ) (w : ℕ → ℕ) (i g : ℕ) (v : ℕ → ℕ) where
  pub part_on : taken_in form w i ≢ 1 → HasPart form w i g v → HasPart form w (i + 1) g v
  part_on free p = subst (λ (z : ℕ). HasPart form w z g v) (next_place i) (part_skip form w g i v free p)

  pub part_more : (e : Item) (v' : ℕ → ℕ) → is_inner g ≡ is_inner form → IsItem form w i e → Becomes g v v' e.byte (put_first g e.first) e.last → HasPart form w i g v → HasPart form w (i + 1) g v'
  part_more e v' kind item b p = subst (λ (z : ℕ). HasPart form w z g v') (next_place i) (part_step form w g i v v' e.first kind item.0 item.2
      (subst (λ (z : ℕ). Becomes g v v' z (put_first g e.first) (w (last_word form i))) (sym item.1) (subst (λ (z : ℕ). Becomes g v v' e.byte (put_first g e.first) z) (sym item.3) b)) p)

-- a taken place's child word isn't 0
pub item_some : (form : ℕ) (w : ℕ → ℕ) (i : ℕ) (e : Item) → IsForm form w → i < room form → is_inner form ≡ true → IsItem form w i e → e.first ≢ 0
item_some form w i e is l inner item z = elim (is.children inner i l) [
  | inl h ↦ h.1 (item.2 ∙ z)
  | inr h ↦ h.0 item.0
]

-- an item of the same words
pub item_like : (form : ℕ) (w v : ℕ → ℕ) (i : ℕ) (e : Item) → Same form w v → i < room form → IsItem form v i e → IsItem form w i e
item_like form w v i e same l h = (
  taken_like form v w same i l ∙ h.0,
  byte_like form v w same i l ∙ h.1,
  same (first_word form i) (entries_some form i l) (first_inside form i l) ∙ h.2,
  same (last_word form i) (lasts_some form i l) (last_inside form i l) ∙ h.3,
)

pub match_true : (b : Bool) (A B : Type 0) → b ≡ true → MatchBool b A B → A
match_true true A B e m = m
match_true false A B e m = absurd (cc)
