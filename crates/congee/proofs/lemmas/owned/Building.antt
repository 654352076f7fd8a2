-- Trees that are made of pairs, one after the other.
use Rattle.std.proofs.Common.{◌≡◌, ◌≢◌, ℕ, ◌<◌, ◌≤◌, ◌+◌, false, List, [], ◌∷◌, ◌++◌, length, map, refl, inl, inr, sym, ap, ◌∙◌, subst, arith}
use Rattle.std.specs.Prelude.{Option, None, Some, IfSome, IsSome, is_some}
use Rattle.std.specs.Ordering.{nat_cmp}
use Rattle.std.specs.Cmp.{nat_cmp_total}
use Rattle.std.specs.declared.cmp.Ordering.TheVariants.{Less}
use Rattle.std.specs.FinMap as fin
use Rattle.std.specs.List.{AllByRecursion}
use Rattle.std.specs.List.Sorted.{IsStrictlySortedBy}
use Rattle.std.proofs.lemmas.Bool.{cases_lt}
use Rattle.std.proofs.lemmas.Bool.Decides.{nat_tests}
use Rattle.std.specs.Iterator.{Yields}
use Rattle.std.proofs.lemmas.List.{length-append}
use Rattle.congee.specs.forms.Forms.{size_of}
use Rattle.congee.specs.declared.forms.base_node.NodeType.TheVariants.{N256}
use Rattle.congee.specs.owned.Building.{Ascend, IsFirstUnsorted, IsOver, StopsShort}
use Rattle.congee.specs.owned.Content.{Content, IsBare, KeepsCharge}
use Rattle.congee.specs.owned.Several.{LacksRoom, put_all}
use Rattle.congee.specs.owned.Stats.{capped}
use Rattle.congee.proofs.lemmas.owned.Several.{put_next}
use Rattle.congee.specs.owned.Nearest.{IsLeast, IsLeastPair, NoneFrom}
use Rattle.congee.specs.declared.allocator.OOMError.{OOMError}
use Rattle.congee.proofs.lemmas.Tree.{same_or_not}

-- the keys of pairs that were put in, up to the last one
abbrev pub UpTo : Option ℕ → List ℕ → Type 0
UpTo None keys = keys ≡ []
UpTo (Some last) keys = AllByRecursion (λ k. k ≤ last) keys

less_cmp : (a b : ℕ) → a < b → nat_cmp a b ≡ Less
less_cmp a b l = grind (arith, nat_tests, l)

weaker : (P Q : ℕ → Type 0) → ((k : ℕ) → P k → Q k) → (ks : List ℕ) → AllByRecursion P ks → AllByRecursion Q ks
weaker P Q f [] a = tt
weaker P Q f (k ∷ ks) a = (f k a.0, weaker P Q f ks a.1)

low_all : (last : Option ℕ) (k : ℕ) (ks : List ℕ) → UpTo last ks → IfSome last (λ n. n < k) → AllByRecursion (λ j. j < k) ks
low_all None k ks u l = subst (λ js. AllByRecursion (λ j. j < k) js) (sym u) tt
low_all (Some n) k ks u l = weaker (λ j. j ≤ n) (λ j. j < k) (λ j a. omega (arith, a, l)) ks u

module _ {K V : Type 0} (key : K → ℕ) where
  abbrev keys : List (K × V) → List ℕ
  keys xs = map (λ p. key p.0) xs

  all_last : (P : ℕ → Type 0) (xs : List (K × V)) (x : K × V) → AllByRecursion P (keys xs) → P (key x.0) → AllByRecursion P (keys (xs ++ x ∷ []))
  all_last P [] x a p = (p, tt)
  all_last P (y ∷ xs) x a p = (a.0, all_last P xs x a.1 p)

  ascend_all : (xs : List (K × V)) (x : K × V) → IsStrictlySortedBy nat_cmp (keys xs) → AllByRecursion (λ j. j < key x.0) (keys xs) → IsStrictlySortedBy nat_cmp (keys (xs ++ x ∷ []))
  unfolding IsStrictlySortedBy
  ascend_all [] x s a = (tt, tt)
  ascend_all (y ∷ xs) x s a = (all_last (λ k. nat_cmp (key y.0) k ≡ Less) xs x s.0 (less_cmp (key y.0) (key x.0) a.0), ascend_all xs x s.1 a.1)

  -- pairs that ascend and one past their last
  pub ascend_last : (last : Option ℕ) (xs : List (K × V)) (x : K × V) → IsStrictlySortedBy nat_cmp (keys xs) → UpTo last (keys xs) → IfSome last (λ n. n < key x.0)
      → IsStrictlySortedBy nat_cmp (keys (xs ++ x ∷ [])) × UpTo (Some (key x.0)) (keys (xs ++ x ∷ []))
  ascend_last last xs x s u l =
      let low = low_all last (key x.0) (keys xs) u l in
      (ascend_all xs x s low, all_last (λ j. j ≤ key x.0) xs x (weaker (λ j. j < key x.0) (λ j. j ≤ key x.0) (λ j a. omega (arith, a)) (keys xs) low) (omega arith))

-- a tree that goes on over its budget
pub over_then : {A D : Type 0} (charged limit : A → ℕ) (allocator : A) (a b : Content ℕ A D) → IsOver charged limit allocator a → KeepsCharge charged limit a b → b.base ≡ a.base → IsOver charged limit allocator b
over_then charged limit allocator a b o k e = record {
  base = e ∙ o.base;
  charge = (let x = o.charge in let y = k.balance in omega (arith, x, y));
  same_limit = k.same_limit ∙ o.same_limit;
}

module _ (m n : fin.FinMap nat_cmp ℕ) where
  -- the least pair from a number on is one alone
  pub least_one : (from : ℕ) (p q : Option (ℕ × ℕ)) → IsLeast m from p → IsLeast m from q → p ≡ q
  least_one from None None a b = refl
  least_one from None (Some y) a b = absurd (let none = a y.0 b.past in let here = b.here in cc (none, here))
  least_one from (Some x) None a b = absurd (let none = b x.0 a.past in let here = a.here in cc (none, here))
  least_one from (Some x) (Some y) a b = elim (cases_lt x.0 y.0) [
    | inl l ↦ absurd (let none = b.before x.0 a.past l in let here = a.here in cc (none, here))
    | inr g ↦ elim (cases_lt y.0 x.0) [
      | inl l ↦ absurd (let none = a.before y.0 b.past l in let here = b.here in cc (none, here))
      | inr h ↦ (let k : x.0 ≡ y.0 = omega (arith, g, h) in
          let v : Some x.1 ≡ Some y.1 = sym a.here ∙ (ap (fin.get m) k ∙ b.here) in
          let w : x.1 ≡ y.1 = cc v in
          ap Some (ap (λ z. (z, x.1)) k ∙ ap (λ z. (y.0, z)) w))
    ]
  ]

  -- two maps that have the same below a number
  abbrev pub AreSame : ℕ → Type 0
  AreSame from = (q : ℕ) → q < from → fin.get m q ≡ fin.get n q

  -- and a least pair in common from there on
  pub same_next : (from k v : ℕ) → AreSame from → IsLeastPair m from k v → IsLeastPair n from k v → AreSame (k + 1)
  same_next from k v same a b q l = elim (cases_lt q from) [
    | inl low ↦ same q low
    | inr up ↦ elim (same_or_not q k) [
      | inl e ↦ ap (fin.get m) e ∙ (a.here ∙ (sym b.here ∙ ap (fin.get n) (sym e)))
      | inr ne ↦ a.before q up (omega (arith, l, ne)) ∙ sym (b.before q up (omega (arith, l, ne)))
    ]
  ]

  -- or none
  pub same_end : (from : ℕ) → AreSame from → NoneFrom m from → NoneFrom n from → m ≡ n
  same_end from same a b = fin.same_map nat_cmp_total fin.nat_cmp-IsAntisymmetric m n (λ q. elim (cases_lt q from) [
    | inl low ↦ same q low
    | inr up ↦ a q up ∙ sym (b q up)
  ])

-- pairs that end with the key of this number, if there is one
abbrev pub EndsAt : {K V : Type 0} (key : K → ℕ) → Option ℕ → List (K × V) → Type 0
EndsAt key None items = items ≡ []
EndsAt {K} {V} key (Some k) items = (front : List (K × V)) × (last : K × V) × (items ≡ front ++ last ∷ []) × (key last.0 ≡ k)

-- a map has the pairs of another one below a number, and no others
pub record Copied (m n : fin.FinMap nat_cmp ℕ) (from : ℕ) : Type 0 where
  pub below : (q : ℕ) → q < from → fin.get n q ≡ fin.get m q
  pub none : (q : ℕ) → from ≤ q → fin.get n q ≡ None

pub copied_first : (m : fin.FinMap nat_cmp ℕ) → Copied m fin.empty 0
copied_first m = record { below = λ q l. absurd (omega (arith, l)); none = λ q l. fin.get-empty _ q }

pub copied_next : (m n : fin.FinMap nat_cmp ℕ) (from k v : ℕ) → Copied m n from → IsLeastPair m from k v → Copied m (fin.insert n k v) (k + 1)
copied_next m n from k v c least = record {
  below = λ q l. elim (same_or_not q k) [
    | inl e ↦ ap (fin.get (fin.insert n k v)) e ∙ (inserted_here n k v ∙ (sym least.here ∙ ap (fin.get m) (sym e)))
    | inr ne ↦ inserted_beside n k q v ne ∙ elim (cases_lt q from) [
      | inl low ↦ c.below q low
      | inr up ↦ c.none q up ∙ sym (least.before q up (omega (arith, l, ne)))
    ]
  ];
  none = λ q l. inserted_beside n k q v (omega (arith, l)) ∙ c.none q (let past = least.past in omega (arith, l, past));
}
  where
    inserted_here : (n : fin.FinMap nat_cmp ℕ) (k v : ℕ) → fin.get (fin.insert n k v) k ≡ Some v
    inserted_here n k v = fin.get-insert nat_cmp_total n k v k ∙ grind (arith, nat_tests)

    inserted_beside : (n : fin.FinMap nat_cmp ℕ) (k q v : ℕ) → q ≢ k → fin.get (fin.insert n k v) q ≡ fin.get n q
    inserted_beside n k q v ne = fin.get-insert nat_cmp_total n k v q ∙ grind (arith, nat_tests, ne)

pub copied_all : (m n : fin.FinMap nat_cmp ℕ) (from : ℕ) → Copied m n from → NoneFrom m from → n ≡ m
copied_all m n from c none = fin.same_map nat_cmp_total fin.nat_cmp-IsAntisymmetric n m (λ q. elim (cases_lt q from) [
  | inl low ↦ c.below q low
  | inr up ↦ c.none q up ∙ sym (none q up)
])

-- what holds of a tree of the first pairs of an iterator, which ascend, before a further one
pub record Built {K V A D : Type 0} (key : K → ℕ) (value : V → ℕ) (charged limit : A → ℕ) (allocator : A) (t : Content ℕ A D) (last : Option ℕ) (place : ℕ) (items : List (K × V)) : Type 0 where
  pub holds : t.pairs ≡ put_all key value fin.empty items
  pub ascend : Ascend key items
  pub up_to : UpTo last (map (λ p. key p.0) items)
  pub ends : EndsAt key last items
  pub counted : place ≡ capped (length items)
  pub over : IsOver charged limit allocator t

none_sorted : IsStrictlySortedBy nat_cmp []
unfolding IsStrictlySortedBy
none_sorted = tt

-- a new tree
pub built_first : {K V A D : Type 0} (key : K → ℕ) (value : V → ℕ) (charged limit : A → ℕ) (allocator : A) (t : Content ℕ A D) → IsBare t → t.base ≡ charged allocator
    → charged t.allocator ≡ charged allocator + size_of N256 → limit t.allocator ≡ limit allocator → Built key value charged limit allocator t None 0 []
built_first key value charged limit allocator t bare base charge limits = record {
  holds = bare.pairs;
  ascend = none_sorted;
  up_to = refl;
  ends = refl;
  counted = refl;
  over = record { base = base; charge = charge ∙ ap (λ n. charged allocator + n) (sym bare.bytes); same_limit = limits };
}

counted_next : {X : Type 0} (place next : ℕ) (items : List X) (x : X) → place ≡ capped (length items) → next ≡ capped (place + 1) → next ≡ capped (length (items ++ x ∷ []))
counted_next place next items x e n =
    let l = length-append items (x ∷ []) in
    let s : capped (capped (length items) + 1) ≡ capped (length items + 1) = omega arith in
    n ∙ (ap (λ p. capped (p + 1)) e ∙ (s ∙ ap capped (sym l)))

-- with one pair more, whose key comes after the last
pub built_next : {K V A D : Type 0} (key : K → ℕ) (value : V → ℕ) (charged limit : A → ℕ) (allocator : A) (s t : Content ℕ A D) (last : Option ℕ) (place next : ℕ) (items : List (K × V)) (x : K × V) (k v : ℕ)
    → Built key value charged limit allocator s last place items → k ≡ key x.0 → v ≡ value x.1 → IfSome last (λ n. n < k) → t.pairs ≡ fin.insert s.pairs k v
    → KeepsCharge charged limit s t → t.base ≡ s.base → next ≡ capped (place + 1) → Built key value charged limit allocator t (Some k) next (items ++ x ∷ [])
built_next key value charged limit allocator s t last place next items x k v b ek ev past e keeps base n =
    let l : IfSome last (λ n. n < key x.0) = subst (λ j. IfSome last (λ n. n < j)) ek past in
    let a = ascend_last key last items x b.ascend b.up_to l in
    record {
      holds = put_next key value fin.empty s.pairs t.pairs items x k v b.holds ek ev e;
      ascend = a.0;
      up_to = subst (λ j. UpTo (Some j) (map (λ p. key p.0) (items ++ x ∷ []))) (sym ek) a.1;
      ends = (items, x, refl, sym ek);
      counted = counted_next place next items x b.counted n;
      over = over_then charged limit allocator s t b.over keeps base;
    }

-- a pair that doesn't come after the last
pub built_unsorted : {U T K V A D : Type 0} (becomes : U → T → Type 0) (steps : T → Option (K × V) → T → Type 0) (key : K → ℕ) (value : V → ℕ) (charged limit : A → ℕ) (allocator : A) (t : Content ℕ A D)
    (last : Option ℕ) (place : ℕ) (items : List (K × V)) (x : K × V) (pairs : U) (iterator after : T) → Built key value charged limit allocator t last place items
    → (IfSome last (λ n. n < key x.0) → ⊥) → becomes pairs iterator → Yields steps iterator (items ++ x ∷ []) after → IsFirstUnsorted becomes steps key value pairs place
built_unsorted becomes steps key value charged limit allocator t None place items x pairs iterator after b stays begins yields = absurd (stays tt)
built_unsorted becomes steps key value charged limit allocator t (Some k) place items x pairs iterator after b stays begins yields =
    let ends = b.ends in
    let front = ends.0 in
    let last = ends.1 in
    let is : items ≡ front ++ last ∷ [] = ends.2 in
    let low : key x.0 ≤ k = elim (cases_lt k (key x.0)) [ inl l ↦ absurd (stays l) | inr g ↦ g ] in
    let e : key last.0 ≡ k = ends.3 in
    record {
      front = front;
      last = last;
      next = x;
      comes = record {
        iterator = iterator;
        after = after;
        begins = begins;
        yields = subst (λ r. Yields steps iterator (r ++ x ∷ []) after) is yields;
        ascend = subst (λ r. Ascend key r) is b.ascend;
      };
      not_greater = omega (arith, low, e);
      counted = b.counted ∙ ap (λ r. capped (length r)) is;
    }

-- a new tree over a budget
pub over_first : {A D : Type 0} (charged limit : A → ℕ) (allocator : A) (t : Content ℕ A D) → IsBare t → t.base ≡ charged allocator → charged t.allocator ≡ charged allocator + size_of N256
    → limit t.allocator ≡ limit allocator → IsOver charged limit allocator t
over_first charged limit allocator t bare base charge limits = record { base = base; charge = charge ∙ ap (λ n. charged allocator + n) (sym bare.bytes); same_limit = limits }

pub copied_bare : (m n : fin.FinMap nat_cmp ℕ) → n ≡ fin.empty → Copied m n 0
copied_bare m n e = subst (λ x. Copied m x 0) (sym e) (copied_first m)

pub copied_more : (m n n' : fin.FinMap nat_cmp ℕ) (from k v : ℕ) → n' ≡ fin.insert n k v → Copied m n from → IsLeastPair m from k v → Copied m n' (k + 1)
copied_more m n n' from k v e c least = subst (λ x. Copied m x (k + 1)) (sym e) (copied_next m n from k v c least)

-- why no node was made for a pair of a copy
pub copy_short : {A B D E : Type 0} (charged limit : B → ℕ) (allocator : B) (whole : Content ℕ A D) (t : Content ℕ B E) (from k v : ℕ) (e : OOMError) → Copied whole.pairs t.pairs from → IsLeastPair whole.pairs from k v
    → IsOver charged limit allocator t → LacksRoom charged limit t k e
    → IsSome (fin.get whole.pairs k) × ((q : ℕ) → IsSome (fin.get t.pairs q) → fin.get t.pairs q ≡ fin.get whole.pairs q) × StopsShort charged limit allocator t k e
copy_short charged limit allocator whole t from k v e c least over lacks = (
  is_some_of (fin.get whole.pairs k) v least.here,
  λ q s. elim (cases_lt q from) [
    | inl low ↦ c.below q low
    | inr up ↦ absurd (let none = c.none q up in cc (s, none))
  ],
  record { over = over; cause = lacks },
)
  where
    is_some_of : (o : Option ℕ) (v : ℕ) → o ≡ Some v → IsSome o
    is_some_of None v e = absurd (cc e)
    is_some_of (Some x) v e = refl

-- maps with another least pair from a number on are others
pub differ : (m n : fin.FinMap nat_cmp ℕ) (from : ℕ) (p q : Option (ℕ × ℕ)) → IsLeast m from p → IsLeast n from q → (p ≡ q → ⊥) → m ≡ n → ⊥
differ m n from p q a b ne e = ne (least_one m n from p q a (subst (λ x. IsLeast x from q) (sym e) b))

-- the next pairs are the same
pub same_on : (m n : fin.FinMap nat_cmp ℕ) (from k v : ℕ) (q : Option (ℕ × ℕ)) → AreSame m n from → IsLeastPair m from k v → IsLeast n from q → Some (k, v) ≡ q → AreSame m n (k + 1)
same_on m n from k v q same a b e = same_next m n from k v same a (subst (λ x. IsLeast n from x) (sym e) b)

-- whether two maps are the same, where one has no pair more
pub end_same : (m n : fin.FinMap nat_cmp ℕ) (from : ℕ) (q : Option (ℕ × ℕ)) → AreSame m n from → NoneFrom m from → IsLeast n from q → (is_some q ≡ false → m ≡ n) × (m ≡ n → is_some q ≡ false)
end_same m n from None same a b = (λ _. same_end m n from same a b, λ _. refl)
end_same m n from (Some p) same a b = (λ z. absurd (cc z), λ e. absurd (differ m n from None (Some p) a b (λ z. absurd (cc z)) e))
