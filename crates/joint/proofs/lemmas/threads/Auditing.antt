-- One worker's entries of a journal, from one place on.
use Rattle.std.proofs.Common.{◌≡◌, ◌==◌, ◌<◌, ◌+◌, ◌↔◌, ℕ, None, Some, Vec, true, false, cond, List, ◌∷◌, ◌∙◌, ap, arith, sym, add-one, drop, get_or, length, slice_get}
use borrow.Author.Count.{below_more}
use Rattle.std.proofs.Math.Seq.{drop-cons}
use Rattle.std.proofs.lemmas.Bool.Decides.{nat_tests}
use Rattle.judge.specs.declared.journal.Entry.{Entry}
use Rattle.judge.specs.declared.journal.Call.TheVariants as call
use Rattle.judge.specs.declared.journal.Reply.TheVariants as reply
use Rattle.joint.specs.threads.Auditing.{of_worker}

-- what stands past the end of a journal
abbrev pub blank : Entry ℕ
blank = record { worker = 0; call = call.Get 0; reply = reply.Get None }

-- an entry of the worker stands at the front of those that are left, another one doesn't
first_own : {V : Type 0} (w : ℕ) (e : Entry V) (es : List (Entry V)) → e.worker ≡ w → of_worker w (e ∷ es) ≡ e ∷ of_worker w es
first_own w e es is = let test : (e.worker == w) ≡ true = grind (arith, nat_tests) in ap (λ b. cond b (e ∷ of_worker w es) (of_worker w es)) test

first_other : {V : Type 0} (w : ℕ) (e : Entry V) (es : List (Entry V)) → (e.worker ≡ w → ⊥) → of_worker w (e ∷ es) ≡ of_worker w es
first_other w e es apart = let test : (e.worker == w) ≡ false = grind (arith, nat_tests) in ap (λ b. cond b (e ∷ of_worker w es) (of_worker w es)) test

drop_next : {V : Type 0} (journal : List (Entry V)) (i : ℕ) (d : Entry V) → i < length journal → drop i journal ≡ get_or journal i d ∷ drop (i + 1) journal
drop_next journal i d inside = rw (add-one, drop-cons journal i d)

-- a list is a worker's entries just where its rest is those from a place on: the same one place on, past one of its own
pub own_next : {V : Type 0} (w : ℕ) (journal : List (Entry V)) (i : ℕ) (d : Entry V) (list rest left : List (Entry V)) → i < length journal → (get_or journal i d).worker ≡ w
    → rest ≡ get_or journal i d ∷ left → (list ≡ of_worker w journal) ↔ (rest ≡ of_worker w (drop i journal)) → (list ≡ of_worker w journal) ↔ (left ≡ of_worker w (drop (i + 1) journal))
own_next w journal i d list rest left inside own front before =
    let e = get_or journal i d in
    let now : of_worker w (drop i journal) ≡ e ∷ of_worker w (drop (i + 1) journal) = ap (of_worker w) (drop_next journal i d inside) ∙ first_own w e (drop (i + 1) journal) own in (
      λ is. let whole : rest ≡ of_worker w (drop i journal) = before.0 is in cc,
      λ is. before.1 (front ∙ ap (λ es. e ∷ es) is ∙ sym now),
    )

-- the same one place on, past another worker's entry
pub other_next : {V : Type 0} (w : ℕ) (journal : List (Entry V)) (i : ℕ) (d : Entry V) (list rest : List (Entry V)) → i < length journal → ((get_or journal i d).worker ≡ w → ⊥)
    → (list ≡ of_worker w journal) ↔ (rest ≡ of_worker w (drop i journal)) → (list ≡ of_worker w journal) ↔ (rest ≡ of_worker w (drop (i + 1) journal))
other_next w journal i d list rest inside other before =
    let now : of_worker w (drop i journal) ≡ of_worker w (drop (i + 1) journal) = ap (of_worker w) (drop_next journal i d inside) ∙ first_other w (get_or journal i d) (drop (i + 1) journal) other in
    (λ is. before.0 is ∙ now, λ is. before.1 (is ∙ sym now))

-- each list below a number is its worker's entries
abbrev pub OwnBelow : {V A : Type 0} → List (Entry V) → List (Vec (Entry V) A) → ℕ → Type 0
OwnBelow {V} {A} journal own n = (i : ℕ) (list : Vec (Entry V) A) → i < n → slice_get own i ≡ Some list → list.items ≡ of_worker i journal

-- where the next list is so too, those below one number more are
pub own_more : {V A : Type 0} (journal : List (Entry V)) (own : List (Vec (Entry V) A)) (n : ℕ) (next : Vec (Entry V) A) → slice_get own n ≡ Some next → next.items ≡ of_worker n journal → OwnBelow journal own n → OwnBelow journal own (n + 1)
own_more {V} {A} journal own n next there is below i list less at =
    let P : ℕ → Type 0 = λ k. (l : Vec (Entry V) A) → slice_get own k ≡ Some l → l.items ≡ of_worker k journal in
    below_more P n (λ k less' l at'. below k l less' at') (λ l at'. let same : l ≡ next = cc in ap (λ (v : Vec (Entry V) A). v.items) same ∙ is) i less list at
