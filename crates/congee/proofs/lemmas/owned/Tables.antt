-- The finite map that stands in the nodes.
use Rattle.std.proofs.Common.{◌≡◌, ◌≢◌, ℕ, List, zero, suc, ◌<◌, ◌≤◌, ◌^◌, inl, inr, refl, sym, subst, ◌∙◌, arith}
use Rattle.std.specs.Prelude.{Option, None, Some}
use Rattle.std.specs.Ordering.{nat_cmp}
use Rattle.std.specs.FinMap.{FinMap, get, get-empty, empty}
use Rattle.judge.proofs.Laws.{get-insert_here, get-insert_apart}
use Rattle.congee.specs.Heap.{value_at}
use Rattle.congee.specs.Keys.{key_bytes, IsMapOf}
use Rattle.congee.specs.owned.Arena.{Nodes, heap_of}
use Rattle.congee.specs.owned.Table.{with_pair, table, pairs_of}
use Rattle.congee.proofs.lemmas.Tree.{same_or_not}
use Rattle.std.specs.Prelude.{Bool}
use Rattle.judge.specs.Answer.{answer}
use Rattle.judge.specs.declared.journal.Call.{Call}
use Rattle.judge.specs.declared.journal.Reply.{Reply}
use Rattle.congee.specs.owned.Owned.{Answered}
use Rattle.congee.specs.owned.OwnedSteps.{SameNodes}
use Rattle.congee.proofs.lemmas.owned.Answered.{same_stand}
use Rattle.congee.proofs.lemmas.Keys.{standing_one}

module _ {V : Type 0} where
  with_pair_here : (m : FinMap nat_cmp V) (k : ℕ) (o : Option V) → get m k ≡ None → get (with_pair m k o) k ≡ o
  with_pair_here m k None e = e
  with_pair_here m k (Some v) e = get-insert_here m k v

  with_pair_apart : (m : FinMap nat_cmp V) (k : ℕ) (o : Option V) (q : ℕ) → q ≢ k → get (with_pair m k o) q ≡ get m q
  with_pair_apart m k None q ne = refl
  with_pair_apart m k (Some v) q ne = get-insert_apart m k v q ne

  table_beyond : (f : ℕ → Option V) (n q : ℕ) → n ≤ q → get (table f n) q ≡ None
  unfolding table
  table_beyond f zero q l = get-empty _ q
  table_beyond f (suc n) q l = with_pair_apart (table f n) n (f n) q (omega (arith, l)) ∙ table_beyond f n q (omega (arith, l))

  -- what a table has for a number below its bound is what the function gives
  pub table_below : (f : ℕ → Option V) (n q : ℕ) → q < n → get (table f n) q ≡ f q
  unfolding table
  table_below f zero q l = absurd (omega (arith, l))
  table_below f (suc n) q l = elim (same_or_not q n) [
    | inl e ↦ (let P : ℕ → Type 0 = λ x. get (with_pair (table f n) n (f n)) x ≡ f x in subst P (sym e) (with_pair_here (table f n) n (f n) (table_beyond f n n (omega arith))))
    | inr ne ↦ with_pair_apart (table f n) n (f n) q ne ∙ table_below f n q (omega (arith, l, ne))
  ]

  -- the map of the nodes stands in them
  pub pairs_stand : (s : Nodes V) → IsMapOf (heap_of s) (pairs_of s)
  unfolding pairs_of
  pairs_stand s = record {
    at = λ k l. table_below (λ k. value_at (heap_of s) (key_bytes k)) (2 ^ 64) k l;
    none_beyond = λ k l. table_beyond (λ k. value_at (heap_of s) (key_bytes k)) (2 ^ 64) k l;
  }

  pairs_are : (s : Nodes V) (m : FinMap nat_cmp V) → IsMapOf (heap_of s) m → pairs_of s ≡ m
  pairs_are s m st = standing_one (heap_of s) (pairs_of s) m (pairs_stand s) st

  -- a call that the nodes answer is the call on their map
  pub answer_pairs : (same : V → V → Bool) (s s' : Nodes V) (call : Call V) (reply : Reply V) → Answered same s s' call reply → answer same (pairs_of s) call ≡ (reply, pairs_of s')
  answer_pairs same s s' call reply a =
      let p : (answer same (pairs_of s) call).0 ≡ reply = a.replies (pairs_of s) (pairs_stand s) in
      let q : (answer same (pairs_of s) call).1 ≡ pairs_of s' = sym (pairs_are s' _ (a.leaves (pairs_of s) (pairs_stand s))) in
      λ i. (p i, q i)

  -- what a key's way finds stands in the map
  pub get_pairs : (s : Nodes V) (k : ℕ) → k < 2 ^ 64 → (o : Option V) → o ≡ value_at (heap_of s) (key_bytes k) → o ≡ get (pairs_of s) k
  get_pairs s k small o e = e ∙ sym ((pairs_stand s).at k small)

  -- nodes that are the same have the same pairs
  pub same_pairs : (s s' : Nodes V) → SameNodes s s' → pairs_of s' ≡ pairs_of s
  same_pairs s s' e = pairs_are s' (pairs_of s) (same_stand s s' e (pairs_of s) (pairs_stand s))

  -- nodes in which no key has a value have no pairs
  pub pairs_empty : (s : Nodes V) → ((key : List ℕ) → value_at (heap_of s) key ≡ None) → pairs_of s ≡ empty
  pairs_empty s e = pairs_are s empty (record { at = λ k l. get-empty _ k ∙ sym (e (key_bytes k)); none_beyond = λ k l. get-empty _ k })
