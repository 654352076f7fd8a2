-- A node of four that gets two entries has room for each.
use Rattle.std.proofs.Common.{◌≡◌, ◌≢◌, ℕ, ◌<◌, Bool, arith, ap, sym, ◌∙◌, refl, inl, inr, eq-eqb, if◌then◌else◌, ◌==◌}
use Rattle.std.specs.Prelude.{Some}
use Rattle.std.proofs.lemmas.Bool.{cases_eq}
use Rattle.optimistic.specs.Layout.{room, leaf_of}
use Rattle.optimistic.specs.forms.Children.{is_inner, byte_in, taken_in, first_word, first_of, IsForm, IsFull, Becomes, put_first}
use Rattle.optimistic.specs.forms.Pairs.{HasTwo}
use Rattle.optimistic.specs.forms.Parts.{IsEmpty}
use Rattle.optimistic.proofs.lemmas.forms.ChildLemmas.{either, finds_is}

-- a taken place's byte has a child
taken_some : (form : ℕ) (w : ℕ → ℕ) (i key : ℕ) → IsForm form w → i < room form → taken_in form w i ≡ 1 → first_of form w key (byte_in form w i) ≢ 0
taken_some form w i key is l taken z =
    let find = finds_is form w (byte_in form w i) is (Some i) (l, refl, λ j m. is.node i j m l taken) in
    let e = sym (find.first key) ∙ z in
    elim (either (is_inner form)) [
      | inl y ↦ elim (is.children y i l) [
        | inl h ↦ h.1 (sym (ap (λ (c : Bool). if c then w (first_word form i) else (if taken_in form w i == 1 then leaf_of key else 0)) y) ∙ e)
        | inr h ↦ h.0 taken
      ]
      | inr y ↦
          let q : leaf_of key ≡ 0 = sym (ap (λ (c : Bool). if c then leaf_of key else 0) (eq-eqb (taken_in form w i) 1 taken)) ∙ (sym (ap (λ (c : Bool). if c then w (first_word form i) else (if taken_in form w i == 1 then leaf_of key else 0)) y) ∙ e) in
          absurd (omega (arith, q))
    ]

pub empty_room : (form : ℕ) (w : ℕ → ℕ) (byte : ℕ) → room form ≡ 4 → IsEmpty form w → IsFull form w byte → ⊥
empty_room form w byte four t full =
    let l : 0 < room form = omega (arith, four) in
    taken_some form w 0 0 t.form_is l (full.1 0 l) (t.none 0 (byte_in form w 0)).0

module _ (form : ℕ) (w w' : ℕ → ℕ) (a f x : ℕ) (four : room form ≡ 4) (t : IsEmpty form w) (put : Becomes form w w' a (put_first form f) x) where
  -- each taken place has the entry's byte
  only : (i : ℕ) → i < room form → taken_in form w' i ≡ 1 → byte_in form w' i ≡ a
  only i l taken = elim (cases_eq (byte_in form w' i) a) [
    | inl e ↦ e
    | inr ne ↦ absurd (taken_some form w' i 0 put.form_stays l taken (put.other_firsts 0 (byte_in form w' i) ne ∙ (t.none 0 (byte_in form w' i)).0))
  ]

  pub one_room : (byte : ℕ) → IsFull form w' byte → ⊥
  one_room byte full =
      let l : 1 < room form = omega (arith, four) in
      let m : 0 < room form = omega (arith, four) in
      put.form_stays.node 1 0 (omega arith) l (full.1 1 l) (only 0 m (full.1 0 m) ∙ sym (only 1 l (full.1 1 l)))

  pub two_there : (v : ℕ → ℕ) (b f' x' : ℕ) → a ≢ b → Becomes form w' v b (put_first form f') x' → HasTwo form v a f x b f' x'
  two_there v b f' x' apart more = record {
    form_is = more.form_stays;
    first_there = λ key. more.other_firsts key a apart ∙ put.first key;
    second_there = λ key. more.other_seconds key a apart ∙ put.second key;
    first_here = more.first;
    second_here = more.second;
    none = λ key byte na nb. more.other_firsts key byte nb ∙ (put.other_firsts key byte na ∙ (t.none key byte).0);
  }
