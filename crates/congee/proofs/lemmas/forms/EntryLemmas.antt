-- Rising lists of a byte and a child, and what `find`, `put` and `del` leave of them.
use Rattle.std.proofs.Common.{◌≡◌, ℕ, ◌<◌, eqb, ltb, cond, true, false, List, [], ◌∷◌, None, Some, IsSome, refl, subst, arith}
use Rattle.std.proofs.lemmas.Bool.Decides.{nat_tests}
use Rattle.congee.specs.forms.Places.{AllKeys, Rises}
use Rattle.congee.proofs.lemmas.forms.Entries.{find, put, del}

module _ {X : Type 0} where
  -- what holds for each key of a list, and leads to something else, leads there for each
  pub AllKeys-map : (P Q : ℕ → Type 0) → ((k : ℕ) → P k → Q k) → (es : List (ℕ × X)) → AllKeys P es → AllKeys Q es
  AllKeys-map P Q f [] a = tt
  AllKeys-map P Q f ((k, x) ∷ r) a = (f k a.0, AllKeys-map P Q f r a.1)

  -- what holds of every byte and of one more holds of every byte after that one was put in
  pub AllKeys-put : (P : ℕ → Type 0) (q : ℕ) (v : X) (es : List (ℕ × X)) → P q → AllKeys P es → AllKeys P (put q v es)
  AllKeys-put P q v [] p a = (p, tt)
  AllKeys-put P q v ((k, x) ∷ r) p a =
      elim (ltb q k) as (λ b. AllKeys P (cond b ((q, v) ∷ (k, x) ∷ r) (cond (eqb q k) ((q, v) ∷ r) ((k, x) ∷ put q v r)))) [
        | true ↦ (p, a)
        | false ↦ elim (eqb q k) as (λ b. AllKeys P (cond b ((q, v) ∷ r) ((k, x) ∷ put q v r))) [ true ↦ (p, a.1) | false ↦ (a.0, AllKeys-put P q v r p a.1) ]
      ]

  -- what holds of every byte holds of those that are left
  pub AllKeys-del : (P : ℕ → Type 0) (q : ℕ) (es : List (ℕ × X)) → AllKeys P es → AllKeys P (del q es)
  AllKeys-del P q [] a = tt
  AllKeys-del P q ((k, x) ∷ r) a = elim (eqb q k) as (λ b. AllKeys P (cond b (del q r) ((k, x) ∷ del q r))) [ true ↦ AllKeys-del P q r a.1 | false ↦ (a.0, AllKeys-del P q r a.1) ]

  less_up' : (j k : ℕ) (r : List (ℕ × X)) → j < k → AllKeys (λ i. k < i) r → AllKeys (λ i. j < i) r
  less_up' j k r l a = AllKeys-map (λ i. k < i) (λ i. j < i) (λ i h. omega arith) r a

  -- a rising list rises with one byte put in
  pub rises_put : (q : ℕ) (v : X) (es : List (ℕ × X)) → Rises es → Rises (put q v es)
  rises_put q v [] s = (tt, tt)
  rises_put q v ((k, x) ∷ r) s =
      elim (ltb q k) as (λ b. ltb q k ≡ b → Rises (cond b ((q, v) ∷ (k, x) ∷ r) (cond (eqb q k) ((q, v) ∷ r) ((k, x) ∷ put q v r)))) [
        | true ↦ λ e. let l : q < k = grind (arith, nat_tests, e) in ((l, less_up' q k r l s.0), s)
        | false ↦ λ e. elim (eqb q k) as (λ b. eqb q k ≡ b → Rises (cond b ((q, v) ∷ r) ((k, x) ∷ put q v r))) [
          | true ↦ λ f. let same : k ≡ q = grind (arith, nat_tests, f) in (rw same at s.0, s.1)
          | false ↦ λ f. let l : k < q = grind (arith, nat_tests, e, f) in (AllKeys-put (λ i. k < i) q v r l s.0, rises_put q v r s.1)
        ] refl
      ] refl

  -- a rising list rises without a byte
  pub rises_del : (q : ℕ) (es : List (ℕ × X)) → Rises es → Rises (del q es)
  rises_del q [] s = tt
  rises_del q ((k, x) ∷ r) s = elim (eqb q k) as (λ b. Rises (cond b (del q r) ((k, x) ∷ del q r))) [ true ↦ rises_del q r s.1 | false ↦ (AllKeys-del (λ i. k < i) q r s.0, rises_del q r s.1) ]

  -- a byte lower than all of a list isn't in it
  pub find_below : (q : ℕ) (es : List (ℕ × X)) → AllKeys (λ k. q < k) es → find q es ≡ None
  find_below q [] all = refl
  find_below q ((k, x) ∷ r) all = grind (arith, nat_tests, all.0, find_below q r all.1)

  -- a list without a byte has nothing there, and at other bytes what it had
  pub find_del : (b q : ℕ) (es : List (ℕ × X)) → find q (del b es) ≡ cond (eqb q b) None (find q es)
  find_del b q [] = grind (arith, nat_tests)
  find_del b q ((k, x) ∷ r) =
      elim (eqb b k) as (λ t. eqb b k ≡ t → find q (cond t (del b r) ((k, x) ∷ del b r)) ≡ cond (eqb q b) None (cond (eqb q k) (Some x) (find q r))) [
        | true ↦ λ e. grind (arith, nat_tests, e, find_del b q r)
        | false ↦ λ e. grind (arith, nat_tests, e, find_del b q r)
      ] refl

  -- what holds of every byte holds of one that is found
  pub found_all : (P : ℕ → Type 0) (q : ℕ) (es : List (ℕ × X)) → AllKeys P es → IsSome (find q es) → P q
  found_all P q [] a s = absurd (cc s)
  found_all P q ((k, x) ∷ r) a s =
      elim (eqb q k) as (λ t. eqb q k ≡ t → IsSome (cond t (Some x) (find q r)) → P q) [
        | true ↦ λ e h. let same : k ≡ q = grind (arith, nat_tests, e) in subst P same a.0
        | false ↦ λ e h. found_all P q r a.1 h
      ] refl s
