-- A change of the nodes at one key, as a call on the map.
use Rattle.std.proofs.Common.{◌≡◌, ◌≢◌, ℕ, ◌<◌, ◌^◌, Bool, true, false, List, length, refl, sym, ap, subst, ◌∙◌, arith}
use Rattle.std.specs.Prelude.{Option, None, Some, Ok, Err, nat_eq}
use Rattle.congee.proofs.lemmas.Fits.{same_test, other_test}
use Rattle.judge.specs.Answer.{Pairs, set_at}
use Rattle.judge.specs.declared.journal.Call.TheVariants as call
use Rattle.judge.specs.declared.journal.Reply.TheVariants as reply
use Rattle.judge.proofs.Laws.{get-set_at_here, get-set_at_apart, set_at-standing}
use Rattle.congee.specs.Heap.{Holds, Nothing, Below, fits, child_for, value_at}
use Rattle.congee.specs.Keys.{key_bytes}
use Rattle.congee.specs.owned.Arena.{Nodes, node_of, heap_of, IsTree, OnWay, Hangs}
use Rattle.congee.specs.owned.Changes.{MapChange}
use Rattle.congee.specs.owned.Owned.{HoldsPairs, Answered}
use Rattle.congee.specs.owned.Place.{Located, EndsAt}
use Rattle.congee.specs.owned.OwnedSteps.{SameNodes, IsHeld, settled}
use Rattle.congee.specs.declared.owned.place.Place.{Place}
use Rattle.congee.specs.declared.owned.place.Spot.TheVariants.{Held, Free, Apart}
use Rattle.congee.specs.declared.owned.place.Spot.{Spot}
use Rattle.congee.proofs.lemmas.owned.Moves.{held_seven}
use Rattle.congee.proofs.lemmas.Keys.{standing_changed}
use Rattle.congee.proofs.lemmas.Tree.{value_at_linked, value_at_unfit}
use Rattle.congee.proofs.lemmas.owned.Ways.{linked_of}

module _ {P : Type 0} where
  -- what a key's way tells of its value
  pub at_held : (s : Nodes P) (key : List ℕ) (n : ℕ) (v : P) → IsTree s → OnWay s key n → child_for (heap_of s n) key ≡ Holds v → value_at (heap_of s) key ≡ Some v
  at_held s key n v t w e = value_at_linked _ (heap_of s) t.tree n key (Holds v) (linked_of s t.parent n w.stands) w.fitted e

  -- a key whose way ends where nothing hangs has no value
  pub at_free : (s : Nodes P) (key : List ℕ) (n : ℕ) → IsTree s → OnWay s key n → child_for (heap_of s n) key ≡ Nothing → value_at (heap_of s) key ≡ None
  at_free s key n t w e = value_at_linked _ (heap_of s) t.tree n key Nothing (linked_of s t.parent n w.stands) w.fitted e

  -- a key whose way comes to a node with another prefix has no value
  pub at_apart : (s : Nodes P) (key : List ℕ) (n c : ℕ) → IsTree s → OnWay s key n → child_for (heap_of s n) key ≡ Below c → fits (heap_of s c).prefix key ≡ false → value_at (heap_of s) key ≡ None
  at_apart s key n c t w e f = value_at_unfit _ (heap_of s) t.tree n c key (linked_of s t.parent n w.stands) w.fitted e f

  -- a key whose place is free has no value
  pub located_free : (s : Nodes P) (key : List ℕ) (p : Place) → IsTree s → Located s key p → p.spot ≡ Free → value_at (heap_of s) key ≡ None
  located_free s key p t l e = at_free s key p.at t l.reached.way (let E : Spot → Type 0 = λ x. EndsAt s key p.at x in subst E e l.ends)

  -- a key whose place is beside a node with another prefix has no value
  pub located_apart : (s : Nodes P) (key : List ℕ) (p : Place) (c : ℕ) → IsTree s → Located s key p → p.spot ≡ Apart c → value_at (heap_of s) key ≡ None
  located_apart s key p c t l e =
      let E : Spot → Type 0 = λ x. EndsAt s key p.at x in
      let d : EndsAt s key p.at (Apart c) = subst E e l.ends in
      at_apart s key p.at c t l.reached.way d.0 d.1

  -- the node at a key's place that is held has a value for it
  pub located_held : (s : Nodes P) (key : List ℕ) (p : Place) → IsTree s → Located s key p → p.spot ≡ Held → IsHeld s key p.at
  located_held s key p t l e =
      let E : Spot → Type 0 = λ x. EndsAt s key p.at x in
      let d : EndsAt s key p.at Held = subst E e l.ends in
      record { value = d.0; holds = d.1 }

  -- the node at a key's place that is held hangs in the node above it
  pub located_hangs : (s : Nodes P) (key : List ℕ) (p : Place) → IsTree s → Located s key p → p.spot ≡ Held → Hangs s key p.above p.at
  located_hangs s key p t l e =
      let h = located_held s key p t l e in
      let seven : length (heap_of s p.at).prefix ≡ 7 = held_seven s key p.at t l.reached.way h in
      let zero : length (heap_of s 0).prefix ≡ 0 = ap length t.tree.empty in
      l.reached.hangs (λ q. let z : length (heap_of s p.at).prefix ≡ length (heap_of s 0).prefix = ap (λ y. length (heap_of s y).prefix) q in absurd (omega (arith, seven, zero, z)))

  -- a key without a value, in nodes that stay, changes from no value to none
  pub none_change : (s : Nodes P) (key : List ℕ) → value_at (heap_of s) key ≡ None → MapChange s s key None None
  none_change s key e = record { was = e; now = e; others = λ k l ne. refl }

  -- nodes that are the same hold the same pairs
  pub same_stand : (s s' : Nodes P) → SameNodes s s' → (m : Pairs P) → HoldsPairs s m → HoldsPairs s' m
  same_stand s s' e m st =
      let h : heap_of s ≡ heap_of s' = λ i n. ap node_of (sym (e n)) i in
      rw h at st

  module _ (same : P → P → Bool) (s s' : Nodes P) (k : ℕ) (small : k < 2 ^ 64) where
    -- the map with what the change leaves at the key
    changed : (before after : Option P) → MapChange s s' (key_bytes k) before after → (m : Pairs P) → HoldsPairs s m → HoldsPairs s' (set_at m k after)
    changed before after c m st = standing_changed (heap_of s) (heap_of s') m (set_at m k after) k small c.others (get-set_at_here m k after ∙ sym c.now) (λ q ne. get-set_at_apart m k after q ne) st

    -- the map with what stands at the key is the map
    unchanged : (o : Option P) → value_at (heap_of s) (key_bytes k) ≡ o → (m : Pairs P) → HoldsPairs s m → HoldsPairs s (set_at m k o)
    unchanged o e m st = rw (set_at-standing m k o (st.at k small ∙ e)) st

    -- a key's new value, whatever was there, is the map's insertion
    pub answered_insert : (before : Option P) (v : P) → MapChange s s' (key_bytes k) before (Some v) → Answered same s s' (call.Insert k v) (reply.Insert before)
    answered_insert before v c = record { replies = λ m st. ap reply.Insert (st.at k small ∙ c.was); leaves = changed before (Some v) c }

    -- a key's value that goes is the map's removal
    pub answered_remove : (before : Option P) → MapChange s s' (key_bytes k) before None → Answered same s s' (call.Remove k) (reply.Remove before)
    answered_remove before c = record { replies = λ m st. ap reply.Remove (st.at k small ∙ c.was); leaves = changed before None c }

    -- another value or none in the place of a key's is the map's compute if present
    pub answered_present : (old : P) (new : Option P) → MapChange s s' (key_bytes k) (Some old) new → Answered same s s' (call.ComputePresent k new) (reply.ComputePresent (Some (old, new)))
    answered_present old new c = record {
      replies = λ m st. rw (st.at k small ∙ c.was) refl;
      leaves = λ m st. rw (st.at k small ∙ c.was) (changed (Some old) new c m st);
    }

    -- a compute if present of an absent key changes nothing
    pub answered_absent : (new : Option P) → value_at (heap_of s) (key_bytes k) ≡ None → Answered same s s (call.ComputePresent k new) (reply.ComputePresent None)
    answered_absent new e = record {
      replies = λ m st. rw (st.at k small ∙ e) refl;
      leaves = λ m st. rw (st.at k small ∙ e) (unchanged None e m st);
    }

    -- a key's new value is the map's compute or insert
    pub answered_compute : (before : Option P) (v : P) → MapChange s s' (key_bytes k) before (Some v) → Answered same s s' (call.ComputeInsert k v) (reply.ComputeInsert before)
    answered_compute before v c = record { replies = λ m st. ap reply.ComputeInsert (st.at k small ∙ c.was); leaves = changed before (Some v) c }

    -- another value or none in the place of the expected one is the map's exchange
    pub exchanged : (old found : P) (new : Option P) → same found old ≡ true → MapChange s s' (key_bytes k) (Some found) new → Answered same s s' (call.Exchange k old new) (reply.Exchange (Ok new))
    exchanged old found new e c = record {
      replies = λ m st. rw (st.at k small ∙ c.was, e) refl;
      leaves = λ m st. rw (st.at k small ∙ c.was, e) (changed (Some found) new c m st);
    }

    exchange_other : (old found : P) (new : Option P) → same found old ≡ false → value_at (heap_of s) (key_bytes k) ≡ Some found → Answered same s s (call.Exchange k old new) (reply.Exchange (Err (Some found)))
    exchange_other old found new e v = record {
      replies = λ m st. rw (st.at k small ∙ v, e) refl;
      leaves = λ m st. rw (st.at k small ∙ v, e) (unchanged (Some found) v m st);
    }

    exchange_absent : (old : P) (new : Option P) → value_at (heap_of s) (key_bytes k) ≡ None → Answered same s s (call.Exchange k old new) (reply.Exchange (Err None))
    exchange_absent old new v = record {
      replies = λ m st. rw (st.at k small ∙ v) refl;
      leaves = λ m st. rw (st.at k small ∙ v) (unchanged None v m st);
    }

  -- a change by an answer for a present key, at a key that is present
  pub present_change : (s s' : Nodes P) (key : List ℕ) (r : Option P) (old : P) (new : Option P) → MapChange s s' key r (settled r new) → Some old ≡ value_at (heap_of s) key
      → MapChange s s' key (Some old) new
  present_change s s' key r old new c v =
      let e : r ≡ Some old = sym c.was ∙ sym v in
      subst (λ z. MapChange s s' key z (settled z new)) e c

-- an exchange whose old value isn't there
pub exchange_refused : (s : Nodes ℕ) (k : ℕ) → k < 2 ^ 64 → (old : ℕ) (new found : Option ℕ) → found ≢ Some old → found ≡ value_at (heap_of s) (key_bytes k)
    → Answered nat_eq s s (call.Exchange k old new) (reply.Exchange (Err found))
exchange_refused s k small old new None ne v = exchange_absent nat_eq s s k small old new (sym v)
exchange_refused s k small old new (Some w) ne v = exchange_other nat_eq s s k small old w new (other_test w old (λ e. ne (ap (λ z. Some z) e))) (sym v)

-- a change at a key that had the expected value is the map's exchange
pub exchange_done : (s s' : Nodes ℕ) (k : ℕ) → k < 2 ^ 64 → (old : ℕ) (new : Option ℕ) → MapChange s s' (key_bytes k) (Some old) new
    → Answered nat_eq s s' (call.Exchange k old new) (reply.Exchange (Ok new))
exchange_done s s' k small old new c = exchanged nat_eq s s' k small old old new (same_test old old refl) c
