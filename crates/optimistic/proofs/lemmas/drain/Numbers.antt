-- How many pairs a log makes, one after the other.
use Rattle.std.proofs.Common.{◌≡◌, ℕ, ◌+◌, ◌-◌, ◌^◌, ◌≤◌, min, List, [], ◌∷◌, ◌++◌, length, length-append, arith, subst, refl, None, Some}
use Rattle.optimistic.specs.declared.drain.nexts.Pair.{Pair}
use Rattle.optimistic.specs.declared.drain.pairs.Pairs.{Pairs}
use Rattle.optimistic.specs.declared.words.rule.Entry.{Entry}
use Rattle.optimistic.specs.tree.Nexts.{IsFirst}
use Rattle.optimistic.specs.tree.Drained.{rest, HasLog, IsDrained, IsClosed, IsAll, IsNumber}
use Rattle.optimistic.proofs.lemmas.drain.Lists.{drained_none, drained_end, drained_more}

-- so many are of keys below another, whatever the log is
abbrev pub IsNumberTo : Pairs → ℕ → ℕ → Type 0
IsNumberTo p to n = IsNumber (λ pairs. (log : List Entry) → HasLog p log → IsDrained log (rest p) to pairs) n

pub number_none : (p : Pairs) → IsNumberTo p (rest p) 0
number_none p = ([], (λ log has. drained_none log (rest p)), refl)

pub number_more : (p : Pairs) (to n m : ℕ) (pair : Pair) → rest p ≤ to → IsNumberTo p to n → ((log : List Entry) → HasLog p log → IsFirst log to (Some pair)) → m ≡ min (n + 1) (2 ^ 64 - 1) → IsNumberTo p (pair.key + 1) m
number_more p to n m pair order s first one =
    let long : length (s.0 ++ pair ∷ []) ≡ length s.0 + 1 = length-append s.0 (pair ∷ []) in
    let is = s.2 in
    (s.0 ++ pair ∷ [], (λ log has. drained_more log (rest p) to s.0 (s.1 log has) pair order (first log has)), omega (arith, one, is, long))

pub number_end : (p : Pairs) (to n : ℕ) → to ≤ 2 ^ 64 → IsNumberTo p to n → ((log : List Entry) → HasLog p log → IsFirst log to None) → IsNumberTo p (2 ^ 64) n
number_end p to n end s none = (s.0, (λ log has. drained_end log (rest p) to s.0 (s.1 log has) end (none log has)), s.2)

pub number_all : (p : Pairs) (n : ℕ) (seen made : List Entry) (by : ℕ) → IsNumberTo p (2 ^ 64) n → IsClosed seen made by p → IsNumber (IsAll seen made by) n
number_all p n seen made by s closed = (
  s.0,
  record { log = closed.log; told = subst (λ (z : ℕ). IsDrained closed.log z (2 ^ 64) s.0) closed.all (s.1 closed.log closed.has); comes = closed.comes },
  s.2,
)
