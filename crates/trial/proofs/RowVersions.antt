-- What a reader of a store with versions is told, after each change of its pairs.
use Rattle.std.proofs.Common.{◌≡◌, ℕ, ◌+◌, ◌-◌, ◌*◌, ◌^◌, ◌<◌, ◌≤◌, Option, None, Some, List, [], ◌∷◌, ◌++◌, refl, sym, ap, subst, ◌∙◌, arith, inl, inr, cond, true, false, Bool}
use Rattle.std.specs.Prelude.{◌==◌, ◌&&◌, nat_le, IfNone, IsSome}
use Rattle.std.proofs.lemmas.Bool.{cases_lt, cases_eq}
use Rattle.std.proofs.lemmas.Bool.Decides.{nat_tests}
use Rattle.std.specs.FinMap as map
use Rattle.std.specs.Ordering.{nat_cmp}
use Rattle.judge.specs.Answer.{Pairs, set_at}
use Rattle.judge.specs.Words.{joined}
use Rattle.judge.proofs.Laws.{get-insert_here, get-insert_apart, get-set_at_here, get-set_at_apart}
use Rattle.congee.specs.owned.Nearest.{IsGreatestIn, NoneIn}
use Rattle.trial.specs.Versions.{value_in, Reads, Write, last_of, Tells, Lists, fewer_by_one}

-- what is found where no key of the range changed
alike : (m n : Pairs ℕ) (start end : ℕ) (found : Option (ℕ × ℕ)) → ((k : ℕ) → start ≤ k → k < end → map.get n k ≡ map.get m k) → IsGreatestIn m start end found → IsGreatestIn n start end found
alike m n start end None same h = λ k a b. same k a b ∙ h k a b
alike m n start end (Some pair) same h =
    let low : start ≤ pair.0 = h.1 in
    (record { below = h.0.below; here = same pair.0 h.1 h.0.below ∙ h.0.here; after = λ k a b. same k (omega arith) b ∙ h.0.after k a b }, h.1)

-- ---- a write

put_case : (m : Pairs ℕ) (row t word r q : ℕ) (v : Option ℕ) (b : Bool) → (row == r && nat_le t q) ≡ b → t < 2 ^ 32 → q < 2 ^ 32
    → ((s : ℕ) → t ≤ s → s < 2 ^ 32 → map.get m (joined row s) ≡ None) → Reads m r q v → Reads (map.insert m (joined row t) word) r q (cond b (value_in word) v)
put_case m row t word r q v true e few k free h =
    let is : row ≡ r = grind (arith, nat_tests) in
    let l : t ≤ q = grind (arith, nat_tests) in
    let later : (p : ℕ) → joined row t < p → p < joined row q + 1 → map.get (map.insert m (joined row t) word) p ≡ None =
    λ p a b. get-insert_apart m (joined row t) word p (λ same. absurd (omega arith))
    ∙ (let at : joined row (p - row * 2 ^ 32) ≡ p = omega arith in subst (λ x. map.get m x ≡ None) at (free (p - row * 2 ^ 32) (omega arith) (omega arith))) in
    subst (λ x. Reads (map.insert m (joined row t) word) x q (value_in word)) is (record {
      version = Some (joined row t, word);
      last = (record { below = omega arith; here = get-insert_here m (joined row t) word; after = later }, omega arith);
      says = refl;
    })
put_case m row t word r q v false e few k free h = record {
  version = h.version;
  last = alike m _ (joined r 0) (joined r q + 1) h.version (λ p a b. get-insert_apart m (joined row t) word p (λ same.
      let is : row ≡ r = omega arith in
      let l : t ≤ q = omega arith in
      absurd (grind (arith, nat_tests)))) h.last;
  says = h.says;
}

-- what a store tells after a write under a later stamp
pub tells_put : (m n live : Pairs ℕ) (now row t word : ℕ) (value : Option ℕ) (log : List Write) → map.insert m (joined row t) word ≡ n → value_in word ≡ value → now < t → t < 2 ^ 32
    → ((s : ℕ) → now < s → s < 2 ^ 32 → map.get m (joined row s) ≡ None) → Tells m live now log
    → Tells n live t (record { row = row; stamp = t; value = value } ∷ log)
tells_put m n live now row t word value log puts is past few free h = record {
  reads = λ r q k may. subst (λ x. Reads x r q (cond (row == r && nat_le t q) value (last_of log r q))) puts
      (subst (λ x. Reads (map.insert m (joined row t) word) r q (cond (row == r && nat_le t q) x (last_of log r q))) is
      (put_case m row t word r q (last_of log r q) _ refl few k (λ s a b. free s (omega arith) b)
      (h.reads r q k (elim may [ inl live ↦ inl live | inr l ↦ inr (omega arith) ]))));
}

-- the later stamps stay free
pub free_put : (m n : Pairs ℕ) (row t word r s : ℕ) → map.insert m (joined row t) word ≡ n → t < s → s < 2 ^ 32 → map.get m (joined r s) ≡ None → map.get n (joined r s) ≡ None
free_put m n row t word r s puts a b none = subst (λ (x : Pairs ℕ). map.get x (joined r s) ≡ None) puts (get-insert_apart m (joined row t) word (joined r s) (λ same. absurd (omega arith)) ∙ none)

-- ---- snapshots

pub none_bare : (m : Pairs ℕ) (k : ℕ) → m ≡ map.empty → map.get m k ≡ None
none_bare m k is = ap (λ (x : Pairs ℕ). map.get x k) is ∙ map.get-empty nat_cmp k

-- an empty store tells no write
pub tells_bare : (m live : Pairs ℕ) (now : ℕ) → m ≡ map.empty → Tells m live now []
tells_bare m live now is = record { reads = λ row q k may. record { version = None; last = λ p a b. none_bare m p is; says = refl } }

-- what a store tells doesn't change where one more snapshot of its last stamp is counted
pub tells_begin : (m live n : Pairs ℕ) (now count : ℕ) (log : List Write) → map.insert live now count ≡ n → Tells m live now log → Tells m n now log
tells_begin m live n now count log is t = record {
  reads = λ r q k may. t.reads r q k (elim (cases_eq q now) [
    | inl e ↦ inr (omega arith)
    | inr ne ↦ elim may [ inl some ↦ inl (subst IsSome (ap (λ (x : Pairs ℕ). map.get x q) (sym is) ∙ get-insert_apart live now count q ne) some) | inr l ↦ inr l ]
  ]);
}

had : (o : Option ℕ) → IsSome (fewer_by_one o) → IsSome o
had None some = some
had (Some n) some = refl

-- or one fewer
pub tells_end : (m live n : Pairs ℕ) (now s : ℕ) (log : List Write) → n ≡ set_at live s (fewer_by_one (map.get live s)) → Tells m live now log → Tells m n now log
tells_end m live n now s log is t = record {
  reads = λ r q k may. t.reads r q k (elim may [
    | inl some ↦ inl (elim (cases_eq q s) [
      | inl e ↦ subst (λ x. IsSome (map.get live x)) (sym e) (had (map.get live s) (subst IsSome (ap (λ x. map.get n x) e ∙ ap (λ (x : Pairs ℕ). map.get x s) is ∙ get-set_at_here live s (fewer_by_one (map.get live s))) some))
      | inr ne ↦ subst IsSome (ap (λ (x : Pairs ℕ). map.get x q) is ∙ get-set_at_apart live s (fewer_by_one (map.get live s)) q ne) some
    ])
    | inr l ↦ inr l
  ]);
}

-- ---- a scan

-- rows without a version show nothing
pub bare_rows : (m : Pairs ℕ) (a b stamp : ℕ) → stamp < 2 ^ 32 → NoneIn m (joined a 0) (joined b 0) → (row : ℕ) → a ≤ row → row < b → Reads m row stamp None
bare_rows m a b stamp k none row c d = record { version = None; last = λ p e f. none p (omega arith) (omega arith); says = refl }

-- a list goes on over them
pub lists_past : (m : Pairs ℕ) (stamp start a b : ℕ) (rows : List (ℕ × ℕ)) → a ≤ b → ((row : ℕ) → a ≤ row → row < b → Reads m row stamp None) → Lists m stamp start a rows → Lists m stamp start b rows
lists_past m stamp start a b [] l none h = λ row c d. elim (cases_lt row a) [ inl e ↦ h row c e | inr e ↦ none row e d ]
lists_past m stamp start a b (pair ∷ rest) l none h = let low : pair.0 < a = h.1 in (h.0, omega arith, h.2, h.3, lists_past m stamp (pair.0 + 1) a b rest l none h.4)

-- and has the next row that shows something behind the others
pub lists_push : (m : Pairs ℕ) (stamp start row value : ℕ) (rows : List (ℕ × ℕ)) → start ≤ row → Reads m row stamp (Some value) → Lists m stamp start row rows → Lists m stamp start (row + 1) (rows ++ (row, value) ∷ [])
lists_push m stamp start row value [] l here h = (l, omega arith, here, h, λ q c d. absurd (omega arith))
lists_push m stamp start row value (pair ∷ rest) l here h = let low : pair.0 < row = h.1 in (h.0, omega arith, h.2, h.3, lists_push m stamp (pair.0 + 1) row value rest (omega arith) here h.4)

pub at_none : {X : Type 0} (r : Option X) (P : Type 0) → IfNone r P → r ≡ None → P
at_none None P h e = h
at_none (Some x) P h e = absurd cc
