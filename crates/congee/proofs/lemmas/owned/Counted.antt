-- The number of pairs that an arena keeps, after a change at one key.
use Rattle.std.proofs.Common.{◌≡◌, ℕ, zero, suc, ◌+◌, ◌-◌, ◌<◌, ◌≤◌, ◌^◌, Bool, true, false, List, refl, sym, ap, subst, ◌∙◌, arith}
use Rattle.std.specs.Prelude.{Option, None, Some, IsTrue, ◌↔◌, is_some, cond}
use Rattle.std.specs.Cmp.{nat_cmp_total}
use Rattle.std.specs.Ordering.{nat_cmp}
use Rattle.std.specs.FinMap as map
use Rattle.judge.specs.Answer.{set_at}
use Rattle.judge.specs.declared.journal.Call.TheVariants as call
use Rattle.judge.specs.declared.journal.Reply.TheVariants as reply
use Rattle.congee.specs.Heap.{value_at}
use Rattle.congee.specs.Keys.{key_bytes}
use Rattle.congee.specs.owned.Arena.{Nodes, heap_of}
use Rattle.congee.specs.owned.Changes.{MapChange}
use Rattle.congee.specs.owned.Counted.{one_if}
use Rattle.congee.specs.owned.Edits.{Adds, Denies, Frees}
use Rattle.congee.specs.owned.Going.{Going}
use Rattle.congee.specs.owned.OwnedSteps.{settled}
use Rattle.congee.specs.owned.Table.{with_pair, table, pairs_of}
use Rattle.congee.specs.declared.allocator.OOMError.{OOMError}
use Rattle.congee.specs.declared.owned.arena.Arena.{Arena}
use Rattle.congee.proofs.lemmas.owned.Answered.{answered_insert, answered_remove}
use Rattle.congee.proofs.lemmas.owned.Filled.{has_pair}
use Rattle.congee.proofs.lemmas.owned.Tables.{answer_pairs, get_pairs, pairs_empty}

one_more_at_most : (b : Bool) (n : ℕ) → cond b n (n + 1) ≤ suc n
one_more_at_most true n = omega arith
one_more_at_most false n = omega arith

module _ {V : Type 0} where
  -- a map in which a key's value is set
  set_len : (m : map.FinMap nat_cmp V) (k : ℕ) (before after : Option V) → map.get m k ≡ before → map.len (set_at m k after) + one_if before ≡ map.len m + one_if after
  set_len m k None None e = let c : map.contains_key m k ≡ false = ap is_some e in let r : map.len (map.remove m k) ≡ map.len m = map.len-remove nat_cmp_total m k ∙ rw c refl in omega (arith, r)
  set_len m k None (Some w) e = let c : map.contains_key m k ≡ false = ap is_some e in let r : map.len (map.insert m k w) ≡ map.len m + 1 = map.len-insert nat_cmp_total m k w ∙ rw c refl in omega (arith, r)
  set_len m k (Some v) None e =
      let c : map.contains_key m k ≡ true = ap is_some e in
      let r : map.len (map.remove m k) ≡ map.len m - 1 = map.len-remove nat_cmp_total m k ∙ rw c refl in
      let h = has_pair m k v e in
      omega (arith, r, h)
  set_len m k (Some v) (Some w) e = let c : map.contains_key m k ≡ true = ap is_some e in let r : map.len (map.insert m k w) ≡ map.len m = map.len-insert nat_cmp_total m k w ∙ rw c refl in omega (arith, r)

  with_len : (m : map.FinMap nat_cmp V) (k : ℕ) (o : Option V) → map.len (with_pair m k o) ≤ suc (map.len m)
  with_len m k None = omega arith
  with_len m k (Some v) = let r = map.len-insert nat_cmp_total m k v in let b = one_more_at_most (map.contains_key m k) (map.len m) in omega (arith, r, b)

  table_len : (f : ℕ → Option V) (n : ℕ) → map.len (table f n) ≤ n
  unfolding table
  table_len f zero = let e = map.len-empty nat_cmp V in omega (arith, e)
  table_len f (suc n) = let e = with_len (table f n) n (f n) in let i = table_len f n in omega (arith, e, i)

  -- there are no more pairs than keys
  pub few_pairs : (s : Nodes V) → map.len (pairs_of s) ≤ 2 ^ 64
  unfolding pairs_of
  few_pairs s = table_len (λ k. value_at (heap_of s) (key_bytes k)) (2 ^ 64)

  never : V → V → Bool
  never v w = false

  set_pairs : (s s' : Nodes V) (k : ℕ) → k < 2 ^ 64 → (before after : Option V) → MapChange s s' (key_bytes k) before after → pairs_of s' ≡ set_at (pairs_of s) k after
  set_pairs s s' k small before None c = sym (ap (λ p. p.1) (answer_pairs never s s' (call.Remove k) (reply.Remove before) (answered_remove never s s' k small before c)))
  set_pairs s s' k small before (Some v) c = sym (ap (λ p. p.1) (answer_pairs never s s' (call.Insert k v) (reply.Insert before) (answered_insert never s s' k small before v c)))

  -- a change at a key takes its pair before away, and brings the one after
  pub len_changes : (s s' : Nodes V) (k : ℕ) (key : List ℕ) → k < 2 ^ 64 → key_bytes k ≡ key → (before after : Option V) → MapChange s s' key before after
      → map.len (pairs_of s') + one_if before ≡ map.len (pairs_of s) + one_if after
  len_changes s s' k key small is before after c =
      let d : MapChange s s' (key_bytes k) before after = subst (λ y. MapChange s s' y before after) (sym is) c in
      ap (λ m. map.len m + one_if before) (set_pairs s s' k small before after d) ∙ set_len (pairs_of s) k before after (sym (get_pairs s k small before (sym d.was)))

  -- nodes in which no key has a value have no pairs
  pub none_counted : (s : Nodes V) → ((key : List ℕ) → value_at (heap_of s) key ≡ None) → 0 ≡ map.len (pairs_of s)
  none_counted s e = sym (ap map.len (pairs_empty s e) ∙ map.len-empty nat_cmp V)

  -- a map without pairs is the empty one
  pub len_told : (m : map.FinMap nat_cmp V) (b : Bool) → (IsTrue b ↔ (map.len m ≡ 0)) → (IsTrue b ↔ (m ≡ map.empty))
  len_told m b t = (λ x. map.empty_of_len m (t.0 x), λ e. t.1 (ap map.len e ∙ map.len-empty nat_cmp V))

  -- a value in the place of another is no pair more
  pub settled_one : (before : Option V) (v : V) → one_if (settled before (Some v)) ≡ one_if before
  settled_one None v = refl
  settled_one (Some w) v = refl

-- an arena with another number beside its nodes
abbrev pub with_number : {P A K : Type 0} → Arena P A K → ℕ → Arena P A K
with_number t n = record { nodes = t.nodes; allocator = t.allocator; pairs = n }

-- what a call does to an arena is told of its nodes and its budget alone
module _ {P A K : Type 0} (charged limit : A → ℕ) (old new : Arena P A K) (n : ℕ) (key : List ℕ) where
  pub adds_with : (before : Option P) (value : P) (wants : Option (List ℕ)) → Adds charged limit old new key before value wants → Adds charged limit old (with_number new n) key before value wants
  adds_with before value wants a = record {
    edits = record { tree = a.edits.tree; change = a.edits.change; balance = a.edits.balance; same_limit = a.edits.same_limit };
    fits = a.fits;
    bytes = a.bytes;
    filled = a.filled;
  }

  pub denies_with : (value : P) (wants : Option (List ℕ)) (refusal : OOMError × P) → Denies charged limit old new key value wants refusal → Denies charged limit old (with_number new n) key value wants refusal
  denies_with value wants refusal d = record { absent = d.absent; cause = d.cause; back = d.back; same = d.same; balance = d.balance; same_limit = d.same_limit }

  pub frees_with : (before after : Option P) (going : Option Going) → Frees charged limit old new key before after going → Frees charged limit old (with_number new n) key before after going
  frees_with before after going f = record {
    edits = record { tree = f.edits.tree; change = f.edits.change; balance = f.edits.balance; same_limit = f.edits.same_limit };
    bytes = f.bytes;
    filled = f.filled;
  }
