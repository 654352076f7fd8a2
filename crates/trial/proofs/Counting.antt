-- How many entries of each kind a journal has that has just the entries which its workers keep.
use Rattle.std.proofs.Common.{◌≡◌, ◌==◌, ◌<◌, ◌≤◌, ◌+◌, ◌*◌, ℕ, zero, suc, Bool, true, false, not, cond, nat_lt, List, [], ◌∷◌, ◌∙◌, All, Some, inl, inr, Vec, ap, arith, filter, length, refl, slice_get, sym}
use Rattle.std.specs.Prelude.{◌&&◌, ◌%◌, if◌then◌else◌}
use Rattle.std.specs.List.{sum_by}
use Rattle.std.specs.declared.alloc.Global.{Global}
use Rattle.std.proofs.lemmas.Bool.Decides.{nat_tests}
use Rattle.std.proofs.lemmas.List.Sums.{sum_by-cons}
use Rattle.std.proofs.lemmas.Option.{slice_get_cases}
use Rattle.judge.specs.declared.journal.Entry.{Entry}
use Rattle.joint.specs.threads.Auditing.{IsAudited, of_worker}
use Rattle.trial.specs.Histories.{AreKept, writes_at, writes_in}

-- the entries of the first workers
abbrev of_first : ℕ → List (Entry ℕ) → List (Entry ℕ)
of_first n journal = filter (λ e. nat_lt e.worker n) journal

one_weighs : (w n x : ℕ) (less same : Bool) → less ≡ nat_lt w n → same ≡ (w == n) → cond (nat_lt w (n + 1)) x 0 ≡ cond less x 0 + cond same x 0
one_weighs w n x true true less same = absurd (grind (arith, nat_tests, less, same))
one_weighs w n x true false less same = let it : nat_lt w (n + 1) ≡ true = grind (arith, nat_tests, less, same) in rw it (omega arith)
one_weighs w n x false true less same = let it : nat_lt w (n + 1) ≡ true = grind (arith, nat_tests, less, same) in rw it (omega arith)
one_weighs w n x false false less same = let it : nat_lt w (n + 1) ≡ false = grind (arith, nat_tests, less, same) in rw it (omega arith)

-- of entries each of which has a weight
module _ (f : Entry ℕ → ℕ) where
  -- one weighs where its test is passed
  weighed : (b : Bool) (e : Entry ℕ) (es : List (Entry ℕ)) → sum_by f (cond b (e ∷ es) es) ≡ cond b (f e) 0 + sum_by f es
  weighed true e es = sum_by-cons f e es
  weighed false e es = omega arith

  one_more : (n : ℕ) (journal : List (Entry ℕ)) → sum_by f (of_first (n + 1) journal) ≡ sum_by f (of_first n journal) + sum_by f (of_worker n journal)
  one_more n [] = refl
  one_more n (e ∷ es) =
      let rest = one_more n es in
      let weight = one_weighs e.worker n (f e) (nat_lt e.worker n) (e.worker == n) refl refl in
      let first = weighed (nat_lt e.worker (n + 1)) e (of_first (n + 1) es) in
      let less = weighed (nat_lt e.worker n) e (of_first n es) in
      let same = weighed (e.worker == n) e (of_worker n es) in
      grind (arith, rest, weight, first, less, same)

  of_none : (journal : List (Entry ℕ)) → sum_by f (of_first 0 journal) ≡ 0
  of_none [] = refl
  of_none (e ∷ es) =
      let past : nat_lt e.worker 0 ≡ false = grind (arith, nat_tests) in
      grind (arith, past, of_none es, weighed (nat_lt e.worker 0) e (of_first 0 es))

  of_all : (n : ℕ) (journal : List (Entry ℕ)) → All (λ e. e.worker < n) journal → sum_by f (of_first n journal) ≡ sum_by f journal
  of_all n [] named = refl
  of_all n (e ∷ es) named =
      let less : e.worker < n = named 0 e (grind (arith)) in
      let first : nat_lt e.worker n ≡ true = grind (arith, nat_tests, less) in
      let rest = of_all n es (λ k d within. named (suc k) d (grind (arith, within))) in
      grind (arith, first, rest, weighed (nat_lt e.worker n) e (of_first n es), sum_by-cons f e es)

  module _ {journal : List (Entry ℕ)} {own : List (Vec (Entry ℕ) Global)} {each : ℕ} (audited : IsAudited journal own) (kept : (i : ℕ) (list : Vec (Entry ℕ) Global) → slice_get own i ≡ Some list → sum_by f list.items ≡ each) where
    of_kept : (n : ℕ) → n ≤ length own → sum_by f (of_first n journal) ≡ n * each
    of_kept zero within = grind (arith, of_none journal)
    of_kept (suc n) within = elim (slice_get_cases own n).1 [
      | inl (list, less, at, it) ↦ (
          let count : sum_by f (of_worker n journal) ≡ each = ap (sum_by f) (sym (audited.lists n list at)) ∙ kept n list at in
          let before = of_kept n (grind (arith, less)) in
          grind (arith, one_more n journal, before, count))
      | inr (past, it) ↦ absurd (grind (arith, past, within))
    ]

    -- where each worker's list weighs as much, the journal that has just these weighs so much
    all_weigh : sum_by f journal ≡ length own * each
    all_weigh = sym (of_all (length own) journal audited.named) ∙ of_kept (length own) (grind (arith))

ones : (es : List (Entry ℕ)) → sum_by (λ e. 1) es ≡ length es
ones [] = refl
ones (e ∷ es) = let rest = ones es in let more = sum_by-cons (λ (d : Entry ℕ). 1) e es in omega (arith, rest, more)

module _ {journal : List (Entry ℕ)} {own : List (Vec (Entry ℕ) Global)} {calls : ℕ} (audited : IsAudited journal own) (kept : AreKept calls own) where
  -- a journal that has just what its workers keep has each call of each worker
  pub all_calls : length journal ≡ length own * calls
  all_calls = sym (ones journal) ∙ all_weigh (λ e. 1) audited (λ i list at. ones list.items ∙ (kept i list at).1)

step_by : (number : ℕ) (b : Bool) → (number % 4 == 1) ≡ b → writes_in number + (if b then 0 else 1) ≡ writes_in (number + 1)
step_by number true e = grind (arith, nat_tests, e)
step_by number false e = grind (arith, nat_tests, e)

-- how many calls write, of one more
pub writes_step : (number : ℕ) → writes_in number + writes_at number ≡ writes_in (number + 1)
writes_step number = step_by number (number % 4 == 1) refl

-- so many workers' calls, and one worker's more
pub times_more : (n w : ℕ) → (n + 1) * w ≡ n * w + w
times_more n w = grind (arith)
