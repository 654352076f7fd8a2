-- Calls that take or put several pairs, one after the other.
use Rattle.std.proofs.Common.{◌≡◌, ◌≢◌, ℕ, zero, suc, ◌<◌, ◌≤◌, ◌+◌, ◌-◌, ◌^◌, ◌⊎◌, Bool, true, false, cond, List, [], ◌∷◌, ◌++◌, length, append-nil, append_assoc, refl, inl, inr, sym, ap, ◌∙◌, subst, arith}
use Rattle.std.specs.Prelude.{Option, None, Some, IsSome}
use Rattle.std.specs.Ordering.{nat_cmp}
use Rattle.std.specs.Cmp.{nat_cmp_total}
use Rattle.std.specs.FinMap as map
use Rattle.std.proofs.lemmas.Bool.{cases_lt}
use Rattle.std.proofs.lemmas.Bool.Decides.{nat_tests}
use Rattle.congee.specs.forms.Places.{AllKeys}
use Rattle.congee.specs.owned.Content.{Content, KeepsCharge, Refuses}
use Rattle.congee.specs.owned.Nearest.{IsGreatestPair, IsLeast, IsLeastPair, NoneFrom}
use Rattle.congee.specs.owned.Ranges.{in_range}
use Rattle.congee.specs.owned.Several.{LacksRoom, Lightens, Sifts, WithoutRange, put_all}
use Rattle.congee.specs.owned.Wanted.{IsRefused}
use Rattle.congee.specs.declared.allocator.OOMError.{OOMError}
use Rattle.congee.proofs.lemmas.forms.BetweenLemmas.{all_found, get_find}
use Rattle.congee.proofs.lemmas.Tree.{same_or_not}
use Rattle.congee.proofs.lemmas.owned.RangeEnds.{range_empty, range_last}
use Rattle.congee.proofs.lemmas.owned.RangeLemmas.{range_all, range_first, range_none}

-- charges that moved as the nodes' sizes did, one call after the other
module _ {A D : Type 0} (charged limit : A → ℕ) (a b c : Content ℕ A D) where
  pub keeps_then : KeepsCharge charged limit a b → KeepsCharge charged limit b c → KeepsCharge charged limit a c
  keeps_then p q = record { balance = (let x = p.balance in let y = q.balance in omega (arith, x, y)); same_limit = q.same_limit ∙ p.same_limit; drainer = q.drainer ∙ p.drainer }

  pub lightens_then : Lightens charged limit a b → Lightens charged limit b c → Lightens charged limit a c
  lightens_then p q = record { no_more = (let x = p.no_more in let y = q.no_more in omega (arith, x, y)); keeps = keeps_then p.keeps q.keeps }

module _ {A D : Type 0} (charged limit : A → ℕ) (a : Content ℕ A D) where
  pub keeps_same : KeepsCharge charged limit a a
  keeps_same = record { balance = omega arith; same_limit = refl; drainer = refl }

  pub lightens_same : Lightens charged limit a a
  lightens_same = record { no_more = omega arith; keeps = keeps_same }

module _ {X : Type 0} where
  gap_list : (start n k : ℕ) (es : List (ℕ × X)) → n ≤ k → AllKeys (λ q. (q < n) ⊎ (k ≤ q)) es → in_range start k es ≡ in_range start n es
  gap_list start n k [] l a = refl
  gap_list start n k ((q, x) ∷ es) l a =
      let rest = gap_list start n k es l a.1 in
      elim (cases_lt q start) [
        | inl low ↦ grind (arith, nat_tests, low, rest)
        | inr from ↦ elim a.0 [
          | inl less ↦ grind (arith, nat_tests, from, less, l, rest)
          | inr more ↦ grind (arith, nat_tests, from, more, l, rest)
        ]
      ]

  skip_list : (start end : ℕ) (es : List (ℕ × X)) → AllKeys (λ q. q ≢ start) es → in_range start end es ≡ in_range (start + 1) end es
  skip_list start end [] a = refl
  skip_list start end ((q, x) ∷ es) a =
      let rest = skip_list start end es a.1 in
      let ne = a.0 in
      elim (cases_lt q start) [
        | inl low ↦ grind (arith, nat_tests, low, rest)
        | inr from ↦ (let more : start + 1 ≤ q = omega (arith, from, ne) in grind (arith, nat_tests, from, more, rest))
      ]

  keys_are : (m : map.FinMap nat_cmp X) (P : ℕ → Type 0) → ((q : ℕ) → IsSome (map.get m q) → P q) → AllKeys P (map.entries m)
  keys_are m P h = all_found P (map.entries m) (λ q s. h q (subst IsSome (sym (get_find m q)) s))

  absent : (m : map.FinMap nat_cmp X) (q : ℕ) → map.get m q ≡ None → IsSome (map.get m q) → ⊥
  absent m q e s = cc (e, s)

  -- a range ends as one does after whose end no key has a value
  pub range_gap : (m : map.FinMap nat_cmp X) (start n k : ℕ) → n ≤ k → ((q : ℕ) → n ≤ q → q < k → map.get m q ≡ None) → in_range start k (map.entries m) ≡ in_range start n (map.entries m)
  range_gap m start n k l none = gap_list start n k (map.entries m) l (keys_are m (λ q. (q < n) ⊎ (k ≤ q)) (λ q s. elim (cases_lt q n) [
    | inl less ↦ inl less
    | inr from ↦ elim (cases_lt q k) [
      | inl under ↦ absurd (absent m q (none q from under) s)
      | inr past ↦ inr past
    ]
  ]))

  range_skip : (m : map.FinMap nat_cmp X) (start end : ℕ) → map.get m start ≡ None → in_range start end (map.entries m) ≡ in_range (start + 1) end (map.entries m)
  range_skip m start end none = skip_list start end (map.entries m) (keys_are m (λ q. q ≢ start) (λ q s e. absent m q (ap (map.get m) e ∙ none) s))

  range_here : (m : map.FinMap nat_cmp X) (start end : ℕ) (x : X) → start < end → map.get m start ≡ Some x → in_range start end (map.entries m) ≡ (start, x) ∷ in_range (start + 1) end (map.entries m)
  range_here m start end x l e = range_first m start end start x (record { past = omega arith; here = e; before = λ q a b. absurd (omega (arith, a, b)) }) l

  same_over : (m n : map.FinMap nat_cmp X) (d start end : ℕ) → start + d ≡ end → ((q : ℕ) → start ≤ q → q < end → map.get m q ≡ map.get n q)
      → in_range start end (map.entries m) ≡ in_range start end (map.entries n)
  same_over m n zero start end e h = range_empty m start end (omega (arith, e)) ∙ sym (range_empty n start end (omega (arith, e)))
  same_over m n (suc d) start end e h =
      let rest = same_over m n d (start + 1) end (omega (arith, e)) (λ q a b. h q (omega (arith, a)) b) in
      let here = h start (omega arith) (omega (arith, e)) in
      either (map.get m start) refl rest here
    where
      either : (o : Option X) → map.get m start ≡ o → in_range (start + 1) end (map.entries m) ≡ in_range (start + 1) end (map.entries n) → map.get m start ≡ map.get n start
          → in_range start end (map.entries m) ≡ in_range start end (map.entries n)
      either None is rest here = range_skip m start end is ∙ (rest ∙ sym (range_skip n start end (sym here ∙ is)))
      either (Some x) is rest here = range_here m start end x (omega (arith, e)) is ∙ (ap (λ r. (start, x) ∷ r) rest ∙ sym (range_here n start end x (omega (arith, e)) (sym here ∙ is)))

  -- maps that have the same in a range have the same pairs there
  pub range_same : (m n : map.FinMap nat_cmp X) (start end : ℕ) → ((q : ℕ) → start ≤ q → q < end → map.get m q ≡ map.get n q)
      → in_range start end (map.entries m) ≡ in_range start end (map.entries n)
  range_same m n start end h = elim (cases_lt start end) [
    | inl l ↦ same_over m n (end - start) start end (omega (arith, l)) h
    | inr g ↦ range_empty m start end g ∙ sym (range_empty n start end g)
  ]

  -- a key that was taken out, and the others
  pub removed_here : (m : map.FinMap nat_cmp X) (k : ℕ) → map.get (map.remove m k) k ≡ None
  removed_here m k = map.get-remove nat_cmp_total m k k ∙ grind (arith, nat_tests)

  pub removed_beside : (m : map.FinMap nat_cmp X) (k q : ℕ) → q ≢ k → map.get (map.remove m k) q ≡ map.get m q
  removed_beside m k q ne = map.get-remove nat_cmp_total m k q ∙ grind (arith, nat_tests, ne)

module _ {F K V : Type 0} (asks : F → K → V → Bool → F → Type 0) (key : ℕ → K) (value : ℕ → V) where
  -- questions about all pairs of old kept what those about the pairs of m from a number on keep, behind the pairs of m below it
  abbrev pub Goes : F → List (ℕ × ℕ) → F → map.FinMap nat_cmp ℕ → ℕ → Type 0
  Goes begin old f m n = (rest : List (ℕ × ℕ)) (last : F) → Sifts asks key value f (in_range n (2 ^ 64) (map.entries m)) rest last
      → Sifts asks key value begin old (in_range 0 n (map.entries m) ++ rest) last

  none_under : (m : map.FinMap nat_cmp ℕ) → in_range 0 0 (map.entries m) ≡ []
  none_under m = range_empty m 0 0 (omega arith)

  -- before the first question
  pub goes_first : (f : F) (m : map.FinMap nat_cmp ℕ) → ((q : ℕ) → 2 ^ 64 ≤ q → map.get m q ≡ None) → Goes f (map.entries m) f m 0
  goes_first f m none rest last s =
      let e = range_all m (2 ^ 64) none in
      subst (λ r. Sifts asks key value f (map.entries m) (r ++ rest) last) (sym (none_under m)) (subst (λ es. Sifts asks key value f es rest last) e s)

  -- after the last
  pub goes_last : (begin f : F) (old : List (ℕ × ℕ)) (m : map.FinMap nat_cmp ℕ) (n : ℕ) → ((q : ℕ) → n ≤ q → map.get m q ≡ None) → Goes begin old f m n → Sifts asks key value begin old (map.entries m) f
  goes_last begin f old m n none g =
      let e : in_range n (2 ^ 64) (map.entries m) ≡ [] = range_none m n (2 ^ 64) (λ q a b. none q a) in
      let all = range_all m n none in
      let s : Sifts asks key value f (in_range n (2 ^ 64) (map.entries m)) [] f = subst (λ es. Sifts asks key value f es [] f) (sym e) (refl, refl) in
      subst (λ r. Sifts asks key value begin old r f) (append-nil (in_range 0 n (map.entries m)) ∙ all) (g [] f s)

module _ {F K V : Type 0} (asks : F → K → V → Bool → F → Type 0) (key : ℕ → K) (value : ℕ → V) (m : map.FinMap nat_cmp ℕ) (n k v : ℕ) (least : IsLeastPair m n k v) (small : k < 2 ^ 64) where
  next_pair : in_range n (2 ^ 64) (map.entries m) ≡ (k, v) ∷ in_range (k + 1) (2 ^ 64) (map.entries m)
  next_pair = range_first m n (2 ^ 64) k v least small

  module _ (f next : F) (rest : List (ℕ × ℕ)) (last : F) where
    -- a pair that a yes came to
    yes_sifts : asks f (key k) (value v) true next → Sifts asks key value next (in_range (k + 1) (2 ^ 64) (map.entries m)) rest last
        → Sifts asks key value f (in_range n (2 ^ 64) (map.entries m)) ((k, v) ∷ rest) last
    yes_sifts a s = subst (λ es. Sifts asks key value f es ((k, v) ∷ rest) last) (sym next_pair) (true, next, rest, a, refl, s)

    -- one that a no came to
    no_sifts : asks f (key k) (value v) false next → Sifts asks key value next (in_range (k + 1) (2 ^ 64) (map.entries (map.remove m k))) rest last
        → Sifts asks key value f (in_range n (2 ^ 64) (map.entries m)) rest last
    no_sifts a s =
        let e = range_same (map.remove m k) m (k + 1) (2 ^ 64) (λ q a b. removed_beside m k q (omega (arith, a))) in
        subst (λ es. Sifts asks key value f es rest last) (sym next_pair) (false, next, rest, a, refl, subst (λ es. Sifts asks key value next es rest last) e s)

  -- what is kept then
  kept_yes : (rest : List (ℕ × ℕ)) → in_range 0 n (map.entries m) ++ ((k, v) ∷ rest) ≡ in_range 0 (k + 1) (map.entries m) ++ rest
  kept_yes rest =
      let past = least.past in
      let greatest : IsGreatestPair m (k + 1) k v = record { below = omega arith; here = least.here; after = λ q a b. absurd (omega (arith, a, b)) } in
      let gap = range_gap m 0 n k past least.before in
      let all : in_range 0 (k + 1) (map.entries m) ≡ in_range 0 n (map.entries m) ++ (k, v) ∷ [] = range_last m 0 (k + 1) k v greatest (omega arith) ∙ ap (λ r. r ++ (k, v) ∷ []) gap in
      sym (append_assoc (in_range 0 n (map.entries m)) ((k, v) ∷ []) rest) ∙ ap (λ r. r ++ rest) (sym all)

  kept_no : in_range 0 n (map.entries m) ≡ in_range 0 (k + 1) (map.entries (map.remove m k))
  kept_no =
      let past = least.past in
      let gap = range_gap (map.remove m k) 0 n (k + 1) (omega (arith, past)) (λ q a b. elim (same_or_not q k) [
        | inl e ↦ ap (map.get (map.remove m k)) e ∙ removed_here m k
        | inr ne ↦ removed_beside m k q ne ∙ least.before q a (omega (arith, b, ne))
      ]) in
      range_same m (map.remove m k) 0 n (λ q a b. sym (removed_beside m k q (omega (arith, b, past)))) ∙ sym gap

  -- after a yes
  pub goes_yes : (begin f next : F) (old : List (ℕ × ℕ)) → asks f (key k) (value v) true next → Goes asks key value begin old f m n → Goes asks key value begin old next m (k + 1)
  goes_yes begin f next old a g rest last s =
      subst (λ r. Sifts asks key value begin old r last) (kept_yes rest) (g ((k, v) ∷ rest) last (yes_sifts f next rest last a s))

  -- after a no
  pub goes_no : (begin f next : F) (old : List (ℕ × ℕ)) → asks f (key k) (value v) false next → Goes asks key value begin old f m n → Goes asks key value begin old next (map.remove m k) (k + 1)
  goes_no begin f next old a g rest last s =
      subst (λ r. Sifts asks key value begin old (r ++ rest) last) kept_no (g rest last (no_sifts f next rest last a s))

  -- after either
  pub goes_on : (begin f next : F) (old : List (ℕ × ℕ)) (yes : Bool) (m' : map.FinMap nat_cmp ℕ) → m' ≡ cond yes m (map.remove m k) → asks f (key k) (value v) yes next
      → Goes asks key value begin old f m n → Goes asks key value begin old next m' (k + 1)
  goes_on begin f next old true m' e a g = subst (λ x. Goes asks key value begin old next x (k + 1)) (sym e) (goes_yes begin f next old a g)
  goes_on begin f next old false m' e a g = subst (λ x. Goes asks key value begin old next x (k + 1)) (sym e) (goes_no begin f next old a g)

-- the numbers from a pair's key on
abbrev pub left_from : Option (ℕ × ℕ) → ℕ
left_from None = 0
left_from (Some pair) = 2 ^ 64 - pair.0

-- a key that has a value is one of 64 bits
pub small_key : (m : map.FinMap nat_cmp ℕ) (n k v : ℕ) → NoneFrom m (2 ^ 64) → IsLeastPair m n k v → k < 2 ^ 64
small_key m n k v beyond least = elim (cases_lt k (2 ^ 64)) [
  | inl l ↦ l
  | inr g ↦ absurd (let none = beyond k g in let here = least.here in cc (none, here))
]

-- the numbers are fewer from a later pair on
pub left_less : (m : map.FinMap nat_cmp ℕ) (k v : ℕ) (next : Option (ℕ × ℕ)) → IsLeast m (k + 1) next → k < 2 ^ 64 → left_from next < left_from (Some (k, v))
left_less m k v None a l = omega (arith, l)
left_less m k v (Some p) a l = let past = a.past in omega (arith, l, past)

-- so many pairs were taken out of a range, up to a number; what comes after is as it was
pub record Cuts (old m : map.FinMap nat_cmp ℕ) (start end from count : ℕ) : Type 0 where
  pub gone : (q : ℕ) → start ≤ q → q < from → q < end → map.get m q ≡ None
  pub stays : (q : ℕ) → (q < start) ⊎ (from ≤ q) → map.get m q ≡ map.get old q
  pub counted : count + length (in_range from end (map.entries old)) ≡ length (in_range start end (map.entries old))
  pub low : count + start ≤ from
  pub within : (from ≤ end) ⊎ (from ≡ start)

-- before the first
pub cuts_first : (old : map.FinMap nat_cmp ℕ) (start end : ℕ) → Cuts old old start end start 0
cuts_first old start end = record { gone = λ q a b _. absurd (omega (arith, a, b)); stays = λ q _. refl; counted = omega arith; low = omega arith; within = inr refl }

module _ (old m : map.FinMap nat_cmp ℕ) (start end from count : ℕ) (cuts : Cuts old m start end from count) where
  -- one more
  pub cuts_next : (k v : ℕ) → IsLeastPair m from k v → k < end → Cuts old (map.remove m k) start end (k + 1) (count + 1)
  cuts_next k v least small =
      let past = least.past in
      let low = cuts.low in
      let first : IsLeastPair old from k v = record {
        past = past;
        here = sym (cuts.stays k (inr past)) ∙ least.here;
        before = λ q a b. sym (cuts.stays q (inr a)) ∙ least.before q a b;
      } in
      let e = ap length (range_first old from end k v first small) in
      let counted = cuts.counted in
      record {
        gone = λ q a b l. elim (same_or_not q k) [
          | inl is ↦ ap (map.get (map.remove m k)) is ∙ removed_here m k
          | inr ne ↦ removed_beside m k q ne ∙ elim (cases_lt q from) [
            | inl under ↦ cuts.gone q a under l
            | inr up ↦ least.before q up (omega (arith, b, ne))
          ]
        ];
        stays = λ q side. elim side [
          | inl under ↦ removed_beside m k q (omega (arith, under, past, low)) ∙ cuts.stays q (inl under)
          | inr up ↦ removed_beside m k q (omega (arith, up)) ∙ cuts.stays q (inr (omega (arith, up, past)))
        ];
        counted = omega (arith, e, counted);
        low = omega (arith, low, past);
        within = inl (omega (arith, small));
      }

  -- where no further key of the range has a value, it is cut out
  pub cuts_last : ((q : ℕ) → from ≤ q → q < end → map.get m q ≡ None) → WithoutRange start end old m × (count ≡ length (in_range start end (map.entries old)))
  cuts_last none =
      let e = ap length (range_none old from end (λ q a b. sym (cuts.stays q (inr a)) ∙ none q a b)) in
      let counted = cuts.counted in (
        record {
          gone = λ q a b. elim (cases_lt q from) [
            | inl under ↦ cuts.gone q a under b
            | inr up ↦ none q up b
          ];
          stays = λ q side. elim side [
            | inl under ↦ cuts.stays q (inl under)
            | inr up ↦ elim (cases_lt q from) [
              | inl low ↦ elim cuts.within [
                | inl short ↦ absurd (omega (arith, low, up, short))
                | inr is ↦ cuts.stays q (inl (omega (arith, low, is)))
              ]
              | inr high ↦ cuts.stays q (inr high)
            ]
          ];
        },
        omega (arith, e, counted),
      )

module _ {K V : Type 0} (key : K → ℕ) (value : V → ℕ) where
  -- one more pair is put in
  pub put_last : (m : map.FinMap nat_cmp ℕ) (xs : List (K × V)) (x : K × V) → put_all key value m (xs ++ x ∷ []) ≡ map.insert (put_all key value m xs) (key x.0) (value x.1)
  put_last m [] x = refl
  put_last m (y ∷ xs) x = put_last (map.insert m (key y.0) (value y.1)) xs x

  -- the same in numbers
  pub put_next : (m s t : map.FinMap nat_cmp ℕ) (xs : List (K × V)) (x : K × V) (k v : ℕ) → s ≡ put_all key value m xs → k ≡ key x.0 → v ≡ value x.1 → t ≡ map.insert s k v → t ≡ put_all key value m (xs ++ x ∷ [])
  put_next m s t xs x k v holds ek ev e =
      e ∙ (ap (λ n. map.insert n k v) holds ∙ (ap (λ j. map.insert (put_all key value m xs) j v) ek ∙ (ap (λ j. map.insert (put_all key value m xs) (key x.0) j) ev ∙ sym (put_last m xs x))))

-- why an insertion was refused, in the tree before it, and in the one after it, which is the same
module _ {A D : Type 0} (charged limit : A → ℕ) (old new : Content ℕ A D) (key : ℕ) (e : OOMError) (r : Refuses charged limit old new key e) where
  pub lacks_old : LacksRoom charged limit old key e
  lacks_old = record { absent = r.absent; cause = r.cause }

  pub lacks_new : LacksRoom charged limit new key e
  lacks_new =
      let balance = r.keeps.balance in
      let bytes = r.unchanged.bytes in
      let same : charged new.allocator ≡ charged old.allocator = omega (arith, balance, bytes) in
      record {
        absent = ap (λ m. map.get m key) r.unchanged.pairs ∙ r.absent;
        cause = subst (λ w. IsRefused (map.get w key) (charged new.allocator) (limit new.allocator) e) (sym r.unchanged.wants)
            (subst (λ n. IsRefused (map.get old.wants key) n (limit new.allocator) e) (sym same) (subst (λ n. IsRefused (map.get old.wants key) (charged old.allocator) n e) (sym r.keeps.same_limit) r.cause));
      }
