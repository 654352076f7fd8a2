-- Legal lists of entries: joined, cut and lengthened.
use Rattle.std.proofs.Common.{◌≡◌, ℕ, ◌+◌, ◌<◌, ◌≤◌, Bool, List, [], ◌∷◌, ◌++◌, take, drop, length, get_or, refl, sym, ap, subst, ◌∙◌, inl, inr, arith}
use Rattle.std.proofs.lemmas.Bool.{cases_order}
use Rattle.std.proofs.lemmas.List.{take-append-drop, take-take, take_more}
use Rattle.std.specs.FinMap.{empty}
use Rattle.judge.specs.Answer.{Pairs, answer}
use Rattle.judge.specs.Journal.{Answers, Legal, IsLegal, IsWrongAt}
use Rattle.judge.specs.declared.journal.Entry.{Entry}
use Rattle.judge.specs.declared.journal.Reply.{Reply}

module _ {P : Type 0} (same : P → P → Bool) where
  Legal-append : (m between n : Pairs P) (xs ys : List (Entry P)) → Legal same m xs between → Legal same between ys n → Legal same m (xs ++ ys) n
  Legal-append m between n [] ys is rest = subst (λ x. Legal same x ys n) (sym is) rest
  Legal-append m between n (x ∷ xs) ys is rest = (is.0, Legal-append (answer same m x.call).1 between n xs ys is.1 rest)

  -- legal entries, and one more that the map answers, are legal
  pub Legal-push : (m between n : Pairs P) (xs : List (Entry P)) (e : Entry P) → Legal same m xs between → Answers same between e n → Legal same m (xs ++ e ∷ []) n
  Legal-push m between n xs e is step = Legal-append m between n xs (e ∷ []) is (ap (λ p. p.0) step, ap (λ p. p.1) step)

  -- a list's first part is legal as far as it goes
  Legal-first : (m n : Pairs P) (xs ys : List (Entry P)) → Legal same m (xs ++ ys) n → (between : Pairs P) × Legal same m xs between × Legal same between ys n
  Legal-first m n [] ys is = (m, refl, is)
  Legal-first m n (x ∷ xs) ys is =
      let rest = Legal-first (answer same m x.call).1 n xs ys is.1 in
      (rest.0, (is.0, rest.1), rest.2)

  -- entries lead to one map alone
  Legal_once : (m a b : Pairs P) (xs : List (Entry P)) → Legal same m xs a → Legal same m xs b → a ≡ b
  Legal_once m a b [] p q = sym p ∙ q
  Legal_once m a b (x ∷ xs) p q = Legal_once (answer same m x.call).1 a b xs p.1 q.1

  -- the first part of a legal journal is legal
  IsLegal-first : (xs ys : List (Entry P)) → IsLegal same (xs ++ ys) → IsLegal same xs
  IsLegal-first xs ys is = let first = Legal-first empty is.0 xs ys is.1 in (first.0, first.1)

  IsLegal-take : (p : ℕ) (es : List (Entry P)) → IsLegal same es → IsLegal same (take p es)
  IsLegal-take p es is = IsLegal-first (take p es) (drop p es) (subst (IsLegal same) (sym (take-append-drop p es)) is)

  -- one more entry that the map answers
  pub legal_more : (m n next : Pairs P) (es : List (Entry P)) (i : ℕ) (d : Entry P) (r : Reply P) → i < length es → Legal same m (take i es) n → r ≡ (answer same n (get_or es i d).call).0 → next ≡ (answer same n (get_or es i d).call).1 → r ≡ (get_or es i d).reply → Legal same m (take (i + 1) es) next
  legal_more m n next es i d r room is reply goes told =
      let step : Legal same n (get_or es i d ∷ []) next = (sym reply ∙ told, sym goes) in
      subst (λ xs. Legal same m xs next) (sym (take_more es i d room)) (Legal-append m n next (take i es) (get_or es i d ∷ []) is step)

  -- an entry that the map doesn't answer ends what is legal
  not_legal_after : (m n : Pairs P) (xs : List (Entry P)) (e : Entry P) → Legal same m xs n → ((answer same n e.call).0 ≡ e.reply → ⊥) → (end : Pairs P) → Legal same m (xs ++ e ∷ []) end → ⊥
  not_legal_after m n xs e is wrong end all =
      let parts = Legal-first m end xs (e ∷ []) all in
      wrong (subst (λ x. (answer same x e.call).0 ≡ e.reply) (Legal_once m parts.0 n xs parts.1 is) parts.2.0)

  -- a journal that is legal so far is legal at each place before
  legal_up_to : (p q : ℕ) (es : List (Entry P)) → p ≤ q → IsLegal same (take q es) → IsLegal same (take p es)
  legal_up_to p q es below is = subst (IsLegal same) (take-take p q es below) (IsLegal-take p (take q es) is)

  -- a journal is wrong at an entry whose reply isn't the map's, where those before it are legal
  pub wrong_at : (n : Pairs P) (es : List (Entry P)) (i : ℕ) (d : Entry P) (r : Reply P) → i < length es → Legal same empty (take i es) n → r ≡ (answer same n (get_or es i d).call).0 → (r ≡ (get_or es i d).reply → ⊥) → IsWrongAt same es i
  wrong_at n es i d r room is reply other =
      ((n, is), λ all. not_legal_after empty n (take i es) (get_or es i d) is (λ told. other (reply ∙ told)) all.0 (subst (λ xs. Legal same empty xs all.0) (take_more es i d room) all.1))

  -- a legal journal is wrong nowhere
  pub wrong_nowhere : (es : List (Entry P)) (p : ℕ) → IsLegal same es → IsWrongAt same es p → ⊥
  wrong_nowhere es p is wrong = wrong.1 (IsLegal-take (p + 1) es is)

  earlier : (es : List (Entry P)) (p q : ℕ) → IsWrongAt same es p → IsWrongAt same es q → p < q → ⊥
  earlier es p q one two less = one.1 (legal_up_to (p + 1) q es (omega arith) two.0)

  -- a journal is wrong at one place alone
  pub wrong_once : (es : List (Entry P)) (p q : ℕ) → IsWrongAt same es p → IsWrongAt same es q → p ≡ q
  wrong_once es p q one two =
      elim (cases_order p q) [
        | inl same_place ↦ same_place
        | inr (inl less) ↦ absurd (earlier es p q one two less)
        | inr (inr more) ↦ absurd (earlier es q p two one more)
      ]
