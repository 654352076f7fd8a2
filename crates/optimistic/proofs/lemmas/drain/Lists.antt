-- The pairs that a log makes, one after the other.
use Rattle.std.proofs.Common.{◌≡◌, ℕ, suc, zero, ◌+◌, ◌-◌, ◌^◌, ◌<◌, ◌≤◌, List, [], ◌∷◌, ◌++◌, get_or, length, length-append, arith, ap, sym, ◌∙◌, subst, inl, inr, Option, None, Some, unwrap_or}
use Rattle.std.specs.List.{AllPairs, Contains}
use Rattle.std.proofs.Math.ListN.{get_or-append}
use Rattle.std.proofs.Math.Seq.{get_or-append_seam, get_or-append_right}
use Rattle.std.proofs.lemmas.Bool.{cases_lt}
use Rattle.std.proofs.lemmas.List.Elements.{Contains-append_left, Contains-append_right, Contains-append_cases, All-contains_itself}
use Rattle.optimistic.specs.declared.drain.nexts.Pair.{Pair}
use Rattle.optimistic.specs.declared.words.rule.Entry.{Entry}
use Rattle.optimistic.specs.words.Kept.{value_of}
use Rattle.optimistic.specs.tree.Nexts.{IsFirst, HasNone}
use Rattle.optimistic.specs.tree.Drained.{IsDrained, pair_of}
use Rattle.optimistic.proofs.lemmas.drain.Keys.{no_pair}

pub drained_none : (log : List Entry) (from : ℕ) → IsDrained log from from []
drained_none log from = record {
  ascending = λ i j d l m. absurd (omega arith);
  told = λ p c. let l = c.1 in absurd (omega arith);
  all = λ key value above below is. absurd (omega arith);
}

pub only_one : (p q : Pair) → Contains (p ∷ []) q → p ≡ q
only_one p q c = at c.0 c.1 c.2
  where
    at : (k : ℕ) → k < length (p ∷ []) → get_or (p ∷ []) k q ≡ q → p ≡ q
    at zero l e = e
    at (suc k) l e = absurd (omega arith)

same_value : (x y : ℕ) (o : Option ℕ) → o ≡ Some x → o ≡ Some y → x ≡ y
same_value x y o a b = ap (λ (z : Option ℕ). unwrap_or z 0) (sym a ∙ b)

module _ (log : List Entry) (from to : ℕ) (xs : List Pair) (old : IsDrained log from to xs) where
  pub drained_end : to ≤ 2 ^ 64 → IsFirst log to None → IsDrained log from (2 ^ 64) xs
  drained_end end none = record {
    ascending = old.ascending;
    told = λ p c. let t = old.told p c in let a = t.1 in (t.0, omega arith, t.2);
    all = λ key value above below is. elim (cases_lt key to) [
      | inl m ↦ old.all key value above m is
      | inr m ↦ absurd (no_pair value (value_of key log) is (none key m below))
    ];
  }

  module _ (p : Pair) (order : from ≤ to) (first : IsFirst log to (Some p)) where
    long : length (xs ++ p ∷ []) ≡ length xs + 1
    long = length-append xs (p ∷ [])

    ascends : AllPairs (λ (q r : Pair). q.key < r.key) (xs ++ p ∷ [])
    ascends i j d l m = elim (cases_lt j (length xs)) [
      | inl n ↦
          let k : i < length xs = omega arith in
          subst (λ (z : Pair × Pair). z.0.key < z.1.key) (λ t. (sym (get_or-append xs (p ∷ []) d i k) t, sym (get_or-append xs (p ∷ []) d j n) t)) (old.ascending i j d l n)
      | inr n ↦
          let e : j ≡ length xs = omega (arith, long) in
          let k : i < length xs = omega (arith, e) in
          let there : get_or (xs ++ p ∷ []) j d ≡ p = ap (λ (z : ℕ). get_or (xs ++ p ∷ []) z d) e ∙ get_or-append_seam xs p [] d in
          let before = old.told (get_or xs i d) (All-contains_itself xs i d k) in
          subst (λ (z : Pair × Pair). z.0.key < z.1.key) (λ t. (sym (get_or-append xs (p ∷ []) d i k) t, sym there t)) (let a = before.1 in let b = first.0 in omega arith)
    ]

    pub drained_more : IsDrained log from (p.key + 1) (xs ++ p ∷ [])
    drained_more = record {
      ascending = ascends;
      told = λ q c. elim (Contains-append_cases xs (p ∷ []) q c) [
        | inl o ↦ let t = old.told q o in (t.0, (let a = t.1 in let b = first.0 in omega arith), t.2)
        | inr o ↦ subst (λ (z : Pair). (from ≤ z.key) × (z.key < p.key + 1) × (value_of z.key log ≡ Some z.value)) (only_one p q o) ((let b = first.0 in omega arith), omega arith, first.1)
      ];
      all = λ key value above below is. elim (cases_lt key to) [
        | inl m ↦ Contains-append_left xs (p ∷ []) (pair_of key value) (old.all key value above m is)
        | inr m ↦ elim (cases_lt key p.key) [
          | inl n ↦ absurd (no_pair value (value_of key log) is (first.2 key m n))
          | inr n ↦
              let e : p.key ≡ key = omega arith in
              let v : p.value ≡ value = same_value p.value value (value_of key log) (ap (λ (z : ℕ). value_of z log) (sym e) ∙ first.1) is in
              Contains-append_right xs (p ∷ []) (pair_of key value) (0, omega arith, λ t. pair_of (e t) (v t))
        ]
      ];
    }

-- no key up to a later one has a value
pub drained_pass : (log : List Entry) (from to end : ℕ) (xs : List Pair) → IsDrained log from to xs → to ≤ end → HasNone log to end → IsDrained log from end xs
drained_pass log from to end xs old order none = record {
  ascending = old.ascending;
  told = λ p c. let t = old.told p c in let a = t.1 in (t.0, omega (arith, a, order), t.2);
  all = λ key value above below is. elim (cases_lt key to) [
    | inl m ↦ old.all key value above m is
    | inr m ↦ absurd (no_pair value (value_of key log) is (none key m below))
  ];
}

-- lists of pairs, one behind the other
pub ascends_both : (xs ys : List Pair) → AllPairs (λ (p q : Pair). p.key < q.key) xs → AllPairs (λ (p q : Pair). p.key < q.key) ys → ((p q : Pair) → Contains xs p → Contains ys q → p.key < q.key) → AllPairs (λ (p q : Pair). p.key < q.key) (xs ++ ys)
ascends_both xs ys a b apart i j d l m = elim (cases_lt j (length xs)) [
  | inl n ↦
      let k : i < length xs = omega (arith, l, n) in
      subst (λ (z : Pair × Pair). z.0.key < z.1.key) (λ t. (sym (get_or-append xs ys d i k) t, sym (get_or-append xs ys d j n) t)) (a i j d l n)
  | inr n ↦
      let long : length (xs ++ ys) ≡ length xs + length ys = length-append xs ys in
      let low : j - length xs < length ys = omega (arith, long, m, n) in
      let last : get_or (xs ++ ys) j d ≡ get_or ys (j - length xs) d = get_or-append_right xs ys j d n in
      elim (cases_lt i (length xs)) [
        | inl k ↦
            subst (λ (z : Pair × Pair). z.0.key < z.1.key) (λ t. (sym (get_or-append xs ys d i k) t, sym last t))
            (apart (get_or xs i d) (get_or ys (j - length xs) d) (All-contains_itself xs i d k) (All-contains_itself ys (j - length xs) d low))
        | inr k ↦
            let before : i - length xs < j - length xs = omega (arith, l, k) in
            subst (λ (z : Pair × Pair). z.0.key < z.1.key) (λ t. (sym (get_or-append_right xs ys i d k) t, sym last t)) (b (i - length xs) (j - length xs) d before low)
      ]
]

-- the pairs from one key on, and those behind them
pub drained_append : (log : List Entry) (from mid to : ℕ) (xs ys : List Pair) → from ≤ mid → mid ≤ to → IsDrained log from mid xs → IsDrained log mid to ys → IsDrained log from to (xs ++ ys)
drained_append log from mid to xs ys up down a b = record {
  ascending = ascends_both xs ys a.ascending b.ascending (λ p q c d. let l = (a.told p c).1 in let m = (b.told q d).0 in omega (arith, l, m));
  told = λ p c. elim (Contains-append_cases xs ys p c) [
    | inl o ↦ let t = a.told p o in let l = t.1 in (t.0, omega (arith, l, down), t.2)
    | inr o ↦ let t = b.told p o in let l = t.0 in (omega (arith, l, up), t.1, t.2)
  ];
  all = λ key value above below is. elim (cases_lt key mid) [
    | inl m ↦ Contains-append_left xs ys (pair_of key value) (a.all key value above m is)
    | inr m ↦ Contains-append_right xs ys (pair_of key value) (b.all key value m below is)
  ];
}
