-- A node that is made of another's entries, place by place.
use Rattle.std.proofs.Common.{◌≡◌, ◌≢◌, ℕ, suc, ◌^◌, ◌<◌, Bool, true, false, arith, ap, sym, ◌∙◌, refl, subst, inl, inr, if◌then◌else◌, pow_pos}
use Rattle.std.specs.Prelude.{Option, None, Some, unwrap_or, is_some}
use Rattle.std.proofs.lemmas.Bool.{cases_eq}
use Rattle.std.proofs.lemmas.Nat.Bits.{bit_at-zero}
use Rattle.std.specs.Int.{bit_at}
use Rattle.std.specs.Ordering.{nat_cmp}
use Rattle.std.specs.FinMap as map
use Rattle.optimistic.specs.Layout.{room, leaf_of}
use Rattle.optimistic.specs.forms.Children.{is_inner, byte_in, mask_of, taken_in, first_word, last_word, firsts, lasts, first_of, second_of, IsForm, Becomes, put_first, Alike}
use Rattle.optimistic.specs.forms.Parts.{firsts_to, lasts_to, HasPart}
use Rattle.optimistic.proofs.lemmas.forms.Maps.{none_step, taken_step, free_step, insert_at, insert_beside}
use Rattle.optimistic.proofs.lemmas.forms.ChildLemmas.{firsts_are, lasts_are, first_none, second_is}
use Rattle.optimistic.proofs.lemmas.forms.PlaceLemmas.{taken_narrow}
use Rattle.optimistic.proofs.lemmas.forms.FormLemmas.{held_none, wide_empty, values_empty}

-- a node without entries
module _ (form : ℕ) (v : ℕ → ℕ) where
  none_of : firsts form v ≡ map.empty → lasts form v ≡ map.empty → (key b : ℕ) → (first_of form v key b ≡ 0) × (second_of form v key b ≡ 0)
  none_of e l key b = (
    first_none form v key b (ap (λ m. map.get m b) e ∙ map.get-empty nat_cmp b),
    second_is form v key b ∙ ap (λ (o : Option ℕ). unwrap_or o 0) (ap (λ m. map.get m b) l ∙ map.get-empty nat_cmp b),
  )

  module _ (narrow : room form ≢ 256) (mask : mask_of form v ≡ 0) where
    free : (i : ℕ) → taken_in form v i ≡ 0
    free i = taken_narrow form v i narrow ∙ ap (λ (z : ℕ). bit_at z i) mask ∙ bit_at-zero i

    pub empty_form : (is_inner form ≡ true → (q : ℕ) → q < room form → v (first_word form q) ≡ 0) → IsForm form v
    empty_form none = record {
      node = λ i j l m t. absurd (omega (arith, free i, t));
      children = λ e i l. inr (λ t. absurd (omega (arith, free i, t)), none e i l);
      fits = λ d. subst (λ z. z < 2 ^ room form) (sym mask) (pow_pos (room form));
    }

    pub empty_none : (key b : ℕ) → (first_of form v key b ≡ 0) × (second_of form v key b ≡ 0)
    empty_none = none_of
        (firsts_are form v ∙ held_none (room form) (byte_in form v) (taken_in form v) (λ i. v (first_word form i)) (λ i l t. absurd (omega (arith, free i, t))))
        (lasts_are form v ∙ held_none (room form) (byte_in form v) (taken_in form v) (λ i. v (last_word form i)) (λ i l t. absurd (omega (arith, free i, t))))

pub wide_none : (v : ℕ → ℕ) → ((q : ℕ) → q < 256 → v (first_word 4 q) ≡ 0) → (key b : ℕ) → (first_of 4 v key b ≡ 0) × (second_of 4 v key b ≡ 0)
wide_none v none = none_of 4 v (wide_empty v none).0 (wide_empty v none).1

pub values_none : (v : ℕ → ℕ) → v 2 ≡ 0 → v 3 ≡ 0 → v 4 ≡ 0 → v 5 ≡ 0 → (key b : ℕ) → (first_of 8 v key b ≡ 0) × (second_of 8 v key b ≡ 0)
values_none v a b c d = none_of 8 v (values_empty v a b c d).0 (values_empty v a b c d).1

module _ (form : ℕ) (w : ℕ → ℕ) (g : ℕ) where
  nothing : (key : ℕ) (b : Bool) (o : Option ℕ) → o ≡ None → (if b then unwrap_or o 0 else (if is_some o then leaf_of key else 0)) ≡ 0
  nothing key true o e = ap (λ (o : Option ℕ). unwrap_or o 0) e
  nothing key false o e = ap (λ (o : Option ℕ). if is_some o then leaf_of key else 0) e

  pub part_none : (v : ℕ → ℕ) → ((key b : ℕ) → (first_of g v key b ≡ 0) × (second_of g v key b ≡ 0)) → HasPart form w 0 g v
  part_none v none = record {
    firsts_same = λ key b.
        let e : map.get (firsts_to form w 0) b ≡ None = ap (λ m. map.get m b) (none_step (byte_in form w) (taken_in form w) (λ q. w (first_word form q))) ∙ map.get-empty nat_cmp b in
        (none key b).0 ∙ sym (nothing key (is_inner form) (map.get (firsts_to form w 0) b) e);
    seconds_same = λ key b.
        let e : map.get (lasts_to form w 0) b ≡ None = ap (λ m. map.get m b) (none_step (byte_in form w) (taken_in form w) (λ q. w (last_word form q))) ∙ map.get-empty nat_cmp b in
        (none key b).1 ∙ sym (ap (λ (o : Option ℕ). unwrap_or o 0) e);
  }

  pub part_skip : (i : ℕ) (v : ℕ → ℕ) → taken_in form w i ≢ 1 → HasPart form w i g v → HasPart form w (suc i) g v
  part_skip i v free p = record {
    firsts_same = λ key b.
        p.firsts_same key b
        ∙ sym (ap (λ m. if is_inner form then unwrap_or (map.get m b) 0 else (if is_some (map.get m b) then leaf_of key else 0)) (free_step (byte_in form w) (taken_in form w) (λ q. w (first_word form q)) i free));
    seconds_same = λ key b. p.seconds_same key b ∙ sym (ap (λ m. unwrap_or (map.get m b) 0) (free_step (byte_in form w) (taken_in form w) (λ q. w (last_word form q)) i free));
  }

  some_first : (key x : ℕ) (b : Bool) → (if b then x else leaf_of key) ≡ (if b then unwrap_or (Some x) 0 else (if is_some (Some x) then leaf_of key else 0))
  some_first key x true = refl
  some_first key x false = refl

  pub part_step : (i : ℕ) (v v' : ℕ → ℕ) (x : ℕ) → is_inner g ≡ is_inner form → taken_in form w i ≡ 1 → w (first_word form i) ≡ x
      → Becomes g v v' (byte_in form w i) (put_first g x) (w (last_word form i)) → HasPart form w i g v → HasPart form w (suc i) g v'
  part_step i v v' x kind taken is b p =
      let f = taken_step (byte_in form w) (taken_in form w) (λ q. w (first_word form q)) i taken in
      let l = taken_step (byte_in form w) (taken_in form w) (λ q. w (last_word form q)) i taken in
      record {
        firsts_same = λ key q. elim (cases_eq q (byte_in form w i)) [
          | inl e ↦
              let at : map.get (firsts_to form w (suc i)) q ≡ Some x =
              ap (λ m. map.get m q) f ∙ ap (map.get (map.insert (firsts_to form w i) (byte_in form w i) (w (first_word form i)))) e ∙ insert_at (firsts_to form w i) (byte_in form w i) (w (first_word form i)) ∙ ap (λ z. Some z) is in
              ap (first_of g v' key) e ∙ b.first key ∙ ap (λ (c : Bool). if c then x else leaf_of key) kind ∙ some_first key x (is_inner form)
              ∙ sym (ap (λ (o : Option ℕ). if is_inner form then unwrap_or o 0 else (if is_some o then leaf_of key else 0)) at)
          | inr d ↦
              b.other_firsts key q d ∙ p.firsts_same key q
              ∙ sym (ap (λ (o : Option ℕ). if is_inner form then unwrap_or o 0 else (if is_some o then leaf_of key else 0))
              (ap (λ m. map.get m q) f ∙ insert_beside (firsts_to form w i) (byte_in form w i) (w (first_word form i)) q d))
        ];
        seconds_same = λ key q. elim (cases_eq q (byte_in form w i)) [
          | inl e ↦
              let at : map.get (lasts_to form w (suc i)) q ≡ Some (w (last_word form i)) =
              ap (λ m. map.get m q) l ∙ ap (map.get (map.insert (lasts_to form w i) (byte_in form w i) (w (last_word form i)))) e ∙ insert_at (lasts_to form w i) (byte_in form w i) (w (last_word form i)) in
              ap (second_of g v' key) e ∙ b.second key ∙ sym (ap (λ (o : Option ℕ). unwrap_or o 0) at)
          | inr d ↦ b.other_seconds key q d ∙ p.seconds_same key q ∙ sym (ap (λ (o : Option ℕ). unwrap_or o 0) (ap (λ m. map.get m q) l ∙ insert_beside (lasts_to form w i) (byte_in form w i) (w (last_word form i)) q d))
        ];
      }

  pub part_whole : (v : ℕ → ℕ) → HasPart form w (room form) g v → Alike form w g v
  unfolding first_of second_of firsts lasts
  part_whole v p = record { firsts_same = p.firsts_same; seconds_same = p.seconds_same }
