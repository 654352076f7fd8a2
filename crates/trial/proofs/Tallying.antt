-- What is counted of workers whose index takes no lock.
use Rattle.std.proofs.Common.{◌≡◌, ◌==◌, ◌<◌, ◌≤◌, ◌^◌, ℕ, ◌+◌, zero, suc, Bool, true, false, cond, List, [], ◌∷◌, ◌++◌, append_assoc, append-nil, length, drop, refl, sym, ap, ◌∙◌, arith, Ok, Err, Result, Some, None, Option, inl, inr, ◌⊎◌, Vec, Global, subst}
use Rattle.std.specs.Prelude.{◌&&◌, slice_get, if◌then◌else◌}
use Rattle.std.specs.List.{Contains}
use Rattle.std.proofs.lemmas.List.{length_push}
use Rattle.judge.specs.declared.journal.Entry.{Entry}
use Rattle.optimistic.specs.declared.face.refusal.Refusal.{Refusal}
use Rattle.optimistic.specs.declared.drain.nexts.Pair.{Pair}
use Rattle.optimistic.specs.declared.words.rule.Entry.{Entry as Decided}
use Rattle.optimistic.specs.words.Kept.{calls_by, value_of, StartsWith}
use Rattle.optimistic.specs.face.Calls.{Known}
use Rattle.optimistic.specs.tree.Drained.{IsDrained, pair_of}
use Rattle.trial.specs.declared.lockfree.worker.Made.{Made}
use Rattle.trial.specs.declared.lockfree.tallies.Counts.{Counts}
use Rattle.trial.specs.declared.lockfree.tallies.Tally.{Tally}
use Rattle.trial.specs.Lockfree.{AreCounted, AreWorked, Calls, IsCalled, IsCounted, IsWorked, Keeps, own_keys, plus, together}
use Rattle.trial.specs.Lockfree.Calls.{makes, passes, starts}
use Rattle.trial.proofs.Keeping.{get_pushed}

-- a beginning of a beginning is one
pub begins : (a b c : List Decided) → StartsWith b a → StartsWith c b → StartsWith c a
begins a b c first more = (first.0 ++ more.0, more.1 ∙ ap (λ xs. xs ++ more.0) first.1 ∙ append_assoc a first.0 more.0)

pub begins_itself : (a : List Decided) → StartsWith a a
begins_itself a = ([], sym (append-nil a))

-- more of the log
pub worked_later : (calls : ℕ) (made : List Made) (log more : List Decided) → AreWorked calls made log → StartsWith more log → AreWorked calls made more
worked_later calls made log more worked later i m at = let w = worked i m at in (w.0, w.1, begins w.0 log more w.2 later)

-- one worker more
pub worked_pushed : (calls : ℕ) (made : List Made) (m : Made) (seen log : List Decided) → AreWorked calls made log → IsWorked calls (length made) m seen → StartsWith log seen
    → AreWorked calls (made ++ m ∷ []) log
worked_pushed calls made m seen log worked it comes i x at = elim (get_pushed made m x i at) [
  | inl before ↦ worked i x before
  | inr last ↦ (
      let P : ℕ → Made → Type 0 = λ n y. (s : List Decided) × IsWorked calls n y s × StartsWith log s in
      subst (P i) last.1 (subst (λ n. P n m) (sym last.0) (seen, it, comes)))
]

-- the counts of one worker more
pub counted_pushed : (log : List Decided) (made : List Made) (each : List Tally) (m : Made) (one : Tally) → AreCounted log made each → slice_get made (length each) ≡ Some m
    → one.worker ≡ length each → IsCounted log (length each) m one.counts → AreCounted log made (each ++ one ∷ [])
counted_pushed log made each m one counted at named it i x found = elim (get_pushed each one x i found) [
  | inl before ↦ counted i x before
  | inr last ↦ (
      let P : ℕ → Tally → Type 0 = λ n y. (y.worker ≡ n) × ((k : Made) × (slice_get made n ≡ Some k) × IsCounted log n k y.counts) in
      subst (P i) last.1 (subst (λ n. P n one) (sym last.0) (named, (m, at, it))))
]

and_true : (a : Bool) → (a && true) ≡ (true && a)
and_true true = refl
and_true false = refl

and_moves : (a b c : Bool) → (a && (b && c)) ≡ ((a && b) && c)
and_moves true b c = refl
and_moves false b c = refl

plus_moves : (a b c : Counts) → plus a (plus b c) ≡ plus (plus a b) c
plus_moves a b c =
    let made : a.made + (b.made + c.made) ≡ (a.made + b.made) + c.made = omega arith in
    let refused : a.refused + (b.refused + c.refused) ≡ (a.refused + b.refused) + c.refused = omega arith in
    let pairs : a.pairs + (b.pairs + c.pairs) ≡ (a.pairs + b.pairs) + c.pairs = omega arith in
    let audited = and_moves a.audited b.audited c.audited in cc

-- to nothing
plus_none : (a : Counts) → plus a (together []) ≡ plus (together []) a
plus_none a =
    let made : a.made + 0 ≡ 0 + a.made = omega arith in
    let refused : a.refused + 0 ≡ 0 + a.refused = omega arith in
    let pairs : a.pairs + 0 ≡ 0 + a.pairs = omega arith in
    let audited = and_true a.audited in cc

-- the counts together, of one worker more
pub together_pushed : (each : List Tally) (one : Tally) → together (each ++ one ∷ []) ≡ plus (together each) one.counts
together_pushed [] one = plus_none one.counts
together_pushed (t ∷ ts) one = ap (plus t.counts) (together_pushed ts one) ∙ plus_moves t.counts (together ts) one.counts

-- a key that a pair tells has its value
pub value_found : (log : List Decided) (pairs : List Pair) (p : Pair) (key : ℕ) → IsDrained log 0 (2 ^ 64) pairs → Contains pairs p → p.key ≡ key → Some p.value ≡ value_of key log
value_found log pairs p key drained there same = sym ((drained.told p there).2) ∙ ap (λ k. value_of k log) same

-- a key that none tells has nothing
pub value_missed : (log : List Decided) (pairs : List Pair) (key : ℕ) → key < 2 ^ 64 → IsDrained log 0 (2 ^ 64) pairs → ((p : Pair) → Contains pairs p → p.key ≡ key → ⊥) → (x : Option ℕ) → x ≡ value_of key log
    → None ≡ value_of key log
value_missed log pairs key small drained none None is = is
value_missed log pairs key small drained none (Some v) is = absurd (none (pair_of key v) (drained.all key v (omega arith) small (sym is)) refl)

-- no calls
pub calls_none : (calls worker : ℕ) (v : Known) (m : Made) → (m.own.items ≡ []) × (m.refused ≡ 0) → (v.made ≡ []) × (calls_by v.by v.seen ≡ []) → Calls calls worker 0 m.own.items m.refused v
calls_none calls worker v m none new =
    subst (λ (es : List (Entry ℕ)). Calls calls worker 0 es m.refused v) (sym none.0) (subst (λ (n : ℕ). Calls calls worker 0 [] n v) (sym none.1) (starts v new.0 new.1))

-- one call more
pub calls_more : (calls worker n : ℕ) (r : Result (Entry ℕ) Refusal) (v w : Known) (m k : Made) → Calls calls worker n m.own.items m.refused v → IsCalled calls worker n r v w → Keeps r m k
    → Calls calls worker (n + 1) k.own.items k.refused w
calls_more calls worker n (Ok e) v w m k before called kept =
    subst (λ (es : List (Entry ℕ)). Calls calls worker (n + 1) es k.refused w) (sym kept.0)
    (subst (λ (i : ℕ). Calls calls worker (n + 1) (m.own.items ++ e ∷ []) i w) (sym kept.1) (makes n m.refused m.own.items v w e before called.0 called.1))
calls_more calls worker n (Err e) v w m k before called kept =
    subst (λ (es : List (Entry ℕ)). Calls calls worker (n + 1) es k.refused w) (sym kept.0)
    (subst (λ (i : ℕ). Calls calls worker (n + 1) m.own.items i w) (sym kept.1) (passes n m.refused m.own.items v w before called))

pub kept_more : (r : Result (Entry ℕ) Refusal) (m k : Made) → Keeps r m k → length k.own.items + k.refused ≡ length m.own.items + m.refused + 1
kept_more (Ok e) m k kept = let a = ap length kept.0 ∙ length_push m.own.items e in let b = kept.1 in omega (arith, a, b)
kept_more (Err e) m k kept = let a = ap length kept.0 in let b = kept.1 in omega (arith, a, b)

pub keys_are : own_keys ≡ 97
unfolding own_keys
keys_are = refl
