-- A node that is made of another one's children, and a node's only entry beside a byte's.
use Rattle.std.proofs.Common.{◌≡◌, ◌≢◌, ℕ, ◌+◌, ◌<◌, ◌⊎◌, Bool, true, false, arith, ap, sym, ◌∙◌, refl, subst, inl, inr, ⊎_elim, if◌then◌else◌}
use Rattle.std.specs.Prelude.{Option, None, Some, unwrap_or, is_some, MatchOption, IfSome}
use Rattle.std.proofs.lemmas.Bool.{cases_lt}
use Rattle.std.specs.FinMap as map
use Rattle.optimistic.specs.Layout.{room, leaf_of}
use Rattle.optimistic.specs.Moves.{IsItem}
use Rattle.optimistic.specs.declared.moves.Item.{Item}
use Rattle.optimistic.specs.forms.Held.{held}
use Rattle.optimistic.specs.forms.Children.{is_inner, byte_in, taken_in, first_word, last_word, firsts, lasts, first_of, second_of, IsForm, Becomes, Alike, Same, put_first}
use Rattle.optimistic.specs.forms.Copies.{Copies, IsOnly, IsNext}
use Rattle.optimistic.proofs.lemmas.forms.ChildLemmas.{either, firsts_are, lasts_are, first_none, first_inner, first_values, second_is}
use Rattle.optimistic.proofs.lemmas.forms.FormLemmas.{first_like, second_like, form_like, taken_like}
use Rattle.optimistic.proofs.lemmas.FillLemmas.{item_like}
use Rattle.optimistic.proofs.lemmas.forms.Maps.{get_taken, get_none}

-- a change that begins with the same words
pub becomes_from : (form : ℕ) (w v w' : ℕ → ℕ) (b : ℕ) (x : ℕ → ℕ) (y : ℕ) → Same form v w → Becomes form v w' b x y → Becomes form w w' b x y
becomes_from form w v w' b x y s t = record {
  form_stays = t.form_stays;
  first = t.first;
  second = t.second;
  other_firsts = λ key q d. t.other_firsts key q d ∙ first_like form w v s key q;
  other_seconds = λ key q d. t.other_seconds key q d ∙ second_like form w v s key q;
}

-- a copy, and then a change
pub copies_of : (f : ℕ) (w : ℕ → ℕ) (g : ℕ) (v v' : ℕ → ℕ) (b : ℕ) (x : ℕ → ℕ) (y : ℕ) → Alike f w g v → Becomes g v v' b x y → Copies f w g v' b x y
copies_of f w g v v' b x y a t = record {
  form_new = t.form_stays;
  first = t.first;
  second = t.second;
  other_firsts = λ key q d. t.other_firsts key q d ∙ a.firsts_same key q;
  other_seconds = λ key q d. t.other_seconds key q d ∙ a.seconds_same key q;
}

-- a copy of other words that are the same
pub copies_like : (f : ℕ) (w : ℕ → ℕ) (g : ℕ) (v v' : ℕ → ℕ) (b : ℕ) (x : ℕ → ℕ) (y : ℕ) → 0 < room g → Same g v' v → Copies f w g v b x y → Copies f w g v' b x y
copies_like f w g v v' b x y some s t = record {
  form_new = form_like g v v' s some t.form_new;
  first = λ key. first_like g v v' s key b ∙ t.first key;
  second = λ key. second_like g v v' s key b ∙ t.second key;
  other_firsts = λ key q d. first_like g v v' s key q ∙ t.other_firsts key q d;
  other_seconds = λ key q d. second_like g v v' s key q ∙ t.other_seconds key q d;
}

-- what a map of a place's words has at its byte
there : (form : ℕ) (w : ℕ → ℕ) (word : ℕ → ℕ) (p b x : ℕ) → IsForm form w → p < room form → taken_in form w p ≡ 1 → byte_in form w p ≡ b → word p ≡ x → map.get (held (byte_in form w) (taken_in form w) word (room form)) b ≡ Some x
there form w word p b x is low taken at e = subst (λ (z : ℕ × ℕ). map.get (held (byte_in form w) (taken_in form w) word (room form)) z.0 ≡ Some z.1) (λ i. (at i, e i)) (get_taken (byte_in form w) (taken_in form w) word (room form) is.node p low taken)

pub put_inner : (form x k : ℕ) → is_inner form ≡ true → put_first form x k ≡ x
put_inner form x k e = ap (λ (c : Bool). if c then x else leaf_of k) e

pub put_values : (form x k : ℕ) → is_inner form ≡ false → put_first form x k ≡ leaf_of k
put_values form x k e = ap (λ (c : Bool). if c then x else leaf_of k) e

pub becomes_inner : (form : ℕ) (w w' : ℕ → ℕ) (b x y : ℕ) → is_inner form ≡ true → Becomes form w w' b (put_first form x) y → Becomes form w w' b (λ k. x) y
becomes_inner form w w' b x y e t =
    record { form_stays = t.form_stays; first = λ k. t.first k ∙ put_inner form x k e; second = t.second; other_firsts = t.other_firsts; other_seconds = t.other_seconds }

-- the only entry beside a byte's
module _ (form : ℕ) (w : ℕ → ℕ) (byte : ℕ) (e : Item) (is : IsForm form w) (o : IsOnly form w byte e) where
  get_first : map.get (firsts form w) e.byte ≡ Some e.first
  get_first = ap (λ m. map.get m e.byte) (firsts_are form w) ∙ there form w (λ i. w (first_word form i)) o.place e.byte e.first is o.inside o.item.0 o.item.1 o.item.2

  get_last : map.get (lasts form w) e.byte ≡ Some e.last
  get_last = ap (λ m. map.get m e.byte) (lasts_are form w) ∙ there form w (λ i. w (last_word form i)) o.place e.byte e.last is o.inside o.item.0 o.item.1 o.item.3

  pub only_first : (k : ℕ) → first_of form w k e.byte ≡ put_first form e.first k
  only_first k = elim (either (is_inner form)) [
    | inl i ↦ first_inner form w k e.byte i ∙ ap (λ (z : Option ℕ). unwrap_or z 0) get_first ∙ sym (put_inner form e.first k i)
    | inr v ↦ first_values form w k e.byte v ∙ ap (λ (z : Option ℕ). if is_some z then leaf_of k else 0) get_first ∙ sym (put_values form e.first k v)
  ]

  pub only_second : (k : ℕ) → second_of form w k e.byte ≡ e.last
  only_second k = second_is form w k e.byte ∙ ap (λ (z : Option ℕ). unwrap_or z 0) get_last

  -- other bytes have none
  pub only_none : (k b : ℕ) → b ≢ byte → b ≢ e.byte → first_of form w k b ≡ 0
  only_none k b nb ne = first_none form w k b (ap (λ m. map.get m b) (firsts_are form w) ∙ get_none (byte_in form w) (taken_in form w) (λ i. w (first_word form i)) (room form) b
      (λ i l t at. ⊎_elim (λ (q : byte_in form w i ≡ byte). nb (sym at ∙ q)) (λ (q : i ≡ o.place). ne (sym at ∙ (ap (byte_in form w) q ∙ o.item.1))) (o.others i l t)))

-- what is the only entry among the first places of a node, or that there is none
pub record IsSoFar (form : ℕ) (w : ℕ → ℕ) (byte n : ℕ) (found : Option Item) : Type 0 where
  pub none : found ≡ None → (q : ℕ) → q < n → q < room form → taken_in form w q ≡ 1 → byte_in form w q ≡ byte
  pub one : (e : Item) → found ≡ Some e → (p : ℕ) × (p < room form) × IsItem form w p e × (e.byte ≢ byte) × ((q : ℕ) → q < n → q < room form → taken_in form w q ≡ 1 → (byte_in form w q ≡ byte) ⊎ (q ≡ p))

is_none_not : (e : Item) → Some e ≡ None → ⊥
is_none_not e q = let z : true ≡ false = ap (λ (o : Option Item). is_some o) q in grind arith

abbrev unwrapped : Item → Option Item → Item
unwrapped d None = d
unwrapped d (Some e) = e

same_item : (e d : Item) → Some e ≡ Some d → e ≡ d
same_item e d q = ap (unwrapped e) q

here : (form : ℕ) (w : ℕ → ℕ) (byte i : ℕ) (item : Option Item) → MatchOption item (taken_in form w i ≢ 1) (λ e. IsItem form w i e) → ((e : Item) → item ≡ Some e → e.byte ≡ byte) → taken_in form w i ≡ 1 → byte_in form w i ≡ byte
here form w byte i None m all t = absurd (m t)
here form w byte i (Some e) m all t = m.1 ∙ all e refl

there_is : (form : ℕ) (w : ℕ → ℕ) (i : ℕ) (item : Option Item) (e : Item) → item ≡ Some e → MatchOption item (taken_in form w i ≢ 1) (λ e. IsItem form w i e) → IsItem form w i e
there_is form w i item e q m = subst (λ (o : Option Item). MatchOption o (taken_in form w i ≢ 1) (λ e. IsItem form w i e)) q m

below_or : (q i : ℕ) → q < i + 1 → (q < i) ⊎ (q ≡ i)
below_or q i l = elim (cases_lt q i) [
  | inl m ↦ inl m
  | inr m ↦ inr (omega (arith, l, m))
]

pub so_far_none : (form : ℕ) (w : ℕ → ℕ) (byte : ℕ) → IsSoFar form w byte 0 None
so_far_none form w byte = record { none = λ _ q l. absurd (omega (arith, l)); one = λ e q. absurd (is_none_not e (sym q)) }

pub so_far_next : (form : ℕ) (w : ℕ → ℕ) (byte i : ℕ) (found item r : Option Item) → i < room form → MatchOption item (taken_in form w i ≢ 1) (λ e. IsItem form w i e) → IsNext found item byte r → IsSoFar form w byte i found → IsSoFar form w byte (i + 1) r
so_far_next form w byte i found item r low m next t = ⊎_elim
    (λ (s : (r ≡ found) × ((e : Item) → item ≡ Some e → e.byte ≡ byte)).
    let now : taken_in form w i ≡ 1 → byte_in form w i ≡ byte = here form w byte i item m s.1 in
    record {
      none = λ n q l l' taken. ⊎_elim (λ (k : q < i). t.none (sym s.0 ∙ n) q k l' taken) (λ (k : q ≡ i). ap (byte_in form w) k ∙ now (ap (taken_in form w) (sym k) ∙ taken)) (below_or q i l);
      one = λ e is. let o = t.one e (sym s.0 ∙ is) in (o.0, o.1, o.2, o.3, λ q l l' taken. ⊎_elim (λ (k : q < i). o.4 q k l' taken) (λ (k : q ≡ i). inl (ap (byte_in form w) k ∙ now (ap (taken_in form w) (sym k) ∙ taken))) (below_or q i l));
    })
    (λ (s : (found ≡ None) × (e : Item) × (item ≡ Some e) × (e.byte ≢ byte) × (r ≡ Some e)).
    record {
      none = λ n. absurd (is_none_not s.1 (sym s.4 ∙ n));
      one = λ e is. let same : s.1 ≡ e = same_item s.1 e (sym s.4 ∙ is) in (
        i,
        low,
        subst (λ (z : Item). IsItem form w i z) same (there_is form w i item s.1 s.2 m),
        subst (λ (z : Item). z.byte ≢ byte) same s.3,
        λ q l l' taken. ⊎_elim (λ (k : q < i). inl (t.none s.0 q k l' taken)) (λ (k : q ≡ i). inr k) (below_or q i l),
      );
    })
    next

pub so_far_only : (form : ℕ) (w : ℕ → ℕ) (byte : ℕ) (e : Item) → IsSoFar form w byte (room form) (Some e) → IsOnly form w byte e
so_far_only form w byte e t = let o = t.one e refl in record { place = o.0; inside = o.1; item = o.2; apart = o.3; others = λ q l taken. o.4 q l l taken }

-- what a place has, of other words that are the same
pub match_like : (form : ℕ) (w v : ℕ → ℕ) (i : ℕ) (item : Option Item) → Same form w v → i < room form → MatchOption item (taken_in form v i ≢ 1) (λ e. IsItem form v i e) → MatchOption item (taken_in form w i ≢ 1) (λ e. IsItem form w i e)
match_like form w v i None same low m = λ t. m (sym (taken_like form v w same i low) ∙ t)
match_like form w v i (Some e) same low m = item_like form w v i e same low m

pub next_has : (P : Item → Type 0) (found item r : Option Item) (byte : ℕ) → IsNext found item byte r → IfSome found P → IfSome item P → IfSome r P
next_has P found item r byte next p q = ⊎_elim
    (λ (s : (r ≡ found) × ((e : Item) → item ≡ Some e → e.byte ≡ byte)). subst (λ (z : Option Item). IfSome z P) (sym s.0) p)
    (λ (s : (found ≡ None) × (e : Item) × (item ≡ Some e) × (e.byte ≢ byte) × (r ≡ Some e)). subst (λ (z : Option Item). IfSome z P) (s.2 ∙ sym s.4) q)
    next

pub some_has : (P Q : Item → Type 0) (r : Option Item) → ((e : Item) → P e → Q e) → IfSome r P → IfSome r Q
some_has P Q None h p = tt
some_has P Q (Some e) h p = h e p

pub so_far_all : (form : ℕ) (w : ℕ → ℕ) (byte n : ℕ) (found : Option Item) → n ≡ room form → IsSoFar form w byte n found → IfSome found (λ e. IsOnly form w byte e)
so_far_all form w byte n None e t = tt
so_far_all form w byte n (Some d) e t = so_far_only form w byte d (subst (λ (z : ℕ). IsSoFar form w byte z (Some d)) e t)
