-- What is left of a map's pairs where the first or the last was taken out.
use Rattle.std.proofs.Common.{◌≡◌, ℕ, ◌<◌, ◌≤◌, ◌+◌, ◌^◌, List, [], ◌∷◌, ◌++◌, inl, inr, sym, ap, ◌∙◌, arith}
use Rattle.std.proofs.lemmas.Bool.{cases_lt}
use Rattle.std.proofs.lemmas.List.{map-append}
use Rattle.std.specs.Prelude.{Option, None, Some, IfNone, IfSome, MatchOption, map}
use Rattle.std.specs.Ordering.{nat_cmp}
use Rattle.std.specs.FinMap as fin
use Rattle.judge.specs.declared.journal.Call.TheVariants as call
use Rattle.judge.specs.declared.journal.Reply.TheVariants as reply
use Rattle.congee.specs.owned.Nearest.{IsGreatestPair, IsLeastPair, NoneBelow, NoneFrom}
use Rattle.congee.specs.owned.OwnerCalls.{shared_by}
use Rattle.congee.specs.owned.Owners.{Owners, OwnerModifies}
use Rattle.congee.specs.owned.Ranges.{in_range}
use Rattle.congee.proofs.lemmas.owned.RangeEnds.{range_after, range_last}
use Rattle.congee.proofs.lemmas.owned.RangeLemmas.{range_all, range_first, range_none}
use Rattle.congee.proofs.lemmas.owned.Several.{range_gap, range_same, removed_beside, removed_here}

module _ {X : Type 0} (m : fin.FinMap nat_cmp X) (end k : ℕ) (x : X) (beyond : (q : ℕ) → end ≤ q → fin.get m q ≡ None) where
  abbrev left : fin.FinMap nat_cmp X
  left = fin.remove m k

  small : fin.get m k ≡ Some x → k < end
  small here = elim (cases_lt k end) [
    | inl l ↦ l
    | inr g ↦ (let none = beyond k g in absurd (cc (here, none)))
  ]

  left_beyond : k < end → (q : ℕ) → end ≤ q → fin.get left q ≡ None
  left_beyond l q g = removed_beside m k q (λ e. omega (arith, l, g, e)) ∙ beyond q g

  whole : in_range 0 end (fin.entries m) ≡ fin.entries m
  whole = range_all m end beyond

  -- the least pair is the first
  pub popped_first : IsLeastPair m 0 k x → fin.entries m ≡ (k, x) ∷ fin.entries left
  popped_first f =
      let l : k < end = small f.here in
      let none : (q : ℕ) → 0 ≤ q → q < k + 1 → fin.get left q ≡ None = λ q a b. none_to q b f in
      let rest : in_range (k + 1) end (fin.entries m) ≡ fin.entries left =
      range_same m left (k + 1) end (λ q a b. sym (removed_beside m k q (λ e. omega (arith, a, e)))) ∙ (sym (range_after left 0 (k + 1) end (omega arith) (omega (arith, l)) none) ∙ range_all left end (left_beyond l)) in
      sym whole ∙ (range_first m 0 end k x f l ∙ ap (λ r. (k, x) ∷ r) rest)
    where
      none_to : (q : ℕ) → q < k + 1 → IsLeastPair m 0 k x → fin.get left q ≡ None
      none_to q b f = elim (cases_lt q k) [
        | inl l ↦ removed_beside m k q (λ e. omega (arith, l, e)) ∙ f.before q (omega arith) l
        | inr g ↦ (let e : q ≡ k = omega (arith, b, g) in ap (fin.get left) e ∙ removed_here m k)
      ]

  -- the greatest pair is the last
  pub popped_last : IsGreatestPair m end k x → fin.entries m ≡ fin.entries left ++ (k, x) ∷ []
  popped_last f =
      let l = f.below in
      let none : (q : ℕ) → k ≤ q → q < end → fin.get left q ≡ None = λ q a b. none_from q a b f in
      let rest : in_range 0 k (fin.entries m) ≡ fin.entries left =
      range_same m left 0 k (λ q a b. sym (removed_beside m k q (λ e. omega (arith, b, e)))) ∙ (sym (range_gap left 0 k end (omega (arith, l)) none) ∙ range_all left end (left_beyond l)) in
      sym whole ∙ (range_last m 0 end k x f (omega arith) ∙ ap (λ r. r ++ (k, x) ∷ []) rest)
    where
      none_from : (q : ℕ) → k ≤ q → q < end → IsGreatestPair m end k x → fin.get left q ≡ None
      none_from q a b f = elim (cases_lt k q) [
        | inl l ↦ removed_beside m k q (λ e. omega (arith, l, e)) ∙ f.after q l b
        | inr g ↦ (let e : q ≡ k = omega (arith, a, g) in ap (fin.get left) e ∙ removed_here m k)
      ]

module _ {K V O : Type 0} (key : ℕ → K) (value : O → V) (old new : Owners V) (beyond : NoneFrom old.pairs (2 ^ 64)) where
  -- a tree's pairs, as its iterator gives them
  abbrev rest : Owners V → List (K × V)
  rest t = map (shared_by key) (fin.entries t.pairs)

  left_of : (k : ℕ) (v : V) → OwnerModifies old new (fin.get old.goes k) (call.Remove k) (reply.Remove (Some v)) → new.pairs ≡ fin.remove old.pairs k
  left_of k v modifies = sym (ap (λ p. p.1) modifies.answers)

  none_left : ((q : ℕ) → q < 2 ^ 64 → fin.get old.pairs q ≡ None) → rest old ≡ []
  none_left none = ap (map (shared_by key)) (sym (range_all old.pairs (2 ^ 64) beyond) ∙ range_none old.pairs 0 (2 ^ 64) (λ q a b. none q b))

  -- a pop of the first pair is a step of the iterator
  pub yields_first : (o : Option (K × O))
      → IfSome o (λ r. (k : ℕ) × (r.0 ≡ key k) × IsLeastPair old.pairs 0 k (value r.1) × OwnerModifies old new (fin.get old.goes k) (call.Remove k) (reply.Remove (Some (value r.1))))
      → IfNone o (NoneFrom old.pairs 0 × (new ≡ old)) → MatchOption o ((rest old ≡ []) × (rest new ≡ [])) (λ r. rest old ≡ (r.0, value r.1) ∷ rest new)
  yields_first None some none = let e = none_left (λ q b. none.0 q (omega arith)) in (e, ap rest none.1 ∙ e)
  yields_first (Some r) some none =
      let k = some.0 in
      let v = value r.1 in
      let split = popped_first old.pairs (2 ^ 64) k v beyond some.2 ∙ ap (λ m. (k, v) ∷ fin.entries m) (sym (left_of k v some.3)) in
      ap (map (shared_by key)) split ∙ ap (λ a. (a, v) ∷ rest new) (sym some.1)

  -- and one of the last, from the back
  pub yields_last : (o : Option (K × O))
      → IfSome o (λ r. (k : ℕ) × (r.0 ≡ key k) × IsGreatestPair old.pairs (2 ^ 64) k (value r.1) × OwnerModifies old new (fin.get old.goes k) (call.Remove k) (reply.Remove (Some (value r.1))))
      → IfNone o (NoneBelow old.pairs (2 ^ 64) × (new ≡ old)) → MatchOption o ((rest old ≡ []) × (rest new ≡ [])) (λ r. rest old ≡ rest new ++ (r.0, value r.1) ∷ [])
  yields_last None some none = let e = none_left none.0 in (e, ap rest none.1 ∙ e)
  yields_last (Some r) some none =
      let k = some.0 in
      let v = value r.1 in
      let split = popped_last old.pairs (2 ^ 64) k v beyond some.2 ∙ ap (λ m. fin.entries m ++ (k, v) ∷ []) (sym (left_of k v some.3)) in
      ap (map (shared_by key)) split ∙ (map-append (shared_by key) (fin.entries new.pairs) ((k, v) ∷ []) ∙ ap (λ a. rest new ++ (a, v) ∷ []) (sym some.1))
