-- The room that all nodes take: that of the nodes in slots, and a least node for each leaf in its parent's place.
use Rattle.std.proofs.Common.{◌≡◌, ◌≢◌, ℕ, zero, suc, ◌+◌, ◌*◌, ◌/◌, ◌%◌, ◌<◌, ◌≤◌, List, [], ◌∷◌, length, get_or, refl, sym, ap, ◌∙◌, arith}
use Rattle.std.specs.Prelude.{Option, None, Some}
use Rattle.std.specs.FinMap as map
use Rattle.std.proofs.lemmas.List.FromFn.{length-map-range_with_len}
use Rattle.slab.specs.Slab.{Slab, get, entries, entries_from}
use Rattle.congee.specs.forms.Forms.{children_of, size_of}
use Rattle.congee.specs.owned.Arena.{Nodes}
use Rattle.congee.specs.owned.Kinds.{form_in}
use Rattle.congee.specs.owned.Sizes.{bytes_at, bytes_of}
use Rattle.congee.specs.owned.Slots.{in_slot, lone_in, node_named, nodes_in}
use Rattle.congee.specs.owned.Storage.{IsStored}
use Rattle.congee.specs.declared.forms.child.Child.{Child}
use Rattle.congee.specs.declared.forms.child.Child.TheVariants.{Blank, Node as Sub, Value}
use Rattle.congee.specs.declared.owned.inline_leaf.Lone.{Lone}
use Rattle.congee.specs.declared.owned.slots.Slot.{Slot}
use Rattle.congee.specs.declared.owned.slots.Slot.TheVariants.{Inner, Leaf}
use Rattle.congee.proofs.lemmas.owned.Sizes.{bytes_named}
use Rattle.congee.proofs.lemmas.owned.SlotLens.{count_if_some, len_named}
use Rattle.congee.proofs.lemmas.owned.Slots.{get_named, get_slot}
use Rattle.congee.proofs.lemmas.owned.Stored.{seen_form}
use Rattle.congee.proofs.lemmas.owned.Totals.{total, total_first, total_same}

-- two functions that agree on a run of numbers
same_run : (f g : ℕ → ℕ) (k j m : ℕ) → k + j ≡ m → ((q : ℕ) → k ≤ q → q < m → f q ≡ g q) → total f m + total g k ≡ total g m + total f k
unfolding total
same_run f g k zero m e h =
    let q : m ≡ k = omega (arith, e) in
    let a : total f m ≡ total f k = ap (total f) q in
    let b : total g m ≡ total g k = ap (total g) q in
    omega (arith, a, b)
same_run f g k (suc j) m e h =
    let q : m ≡ suc (k + j) = omega (arith, e) in
    let r = same_run f g k j (k + j) refl (λ q lo hi. h q lo (omega (arith, hi, e))) in
    let a : total f m ≡ total f (k + j) + f (k + j) = ap (total f) q in
    let b : total g m ≡ total g (k + j) + g (k + j) = ap (total g) q in
    let c = h (k + j) (omega arith) (omega (arith, e)) in
    omega (arith, r, a, b, c)

-- and on all but the first names of slots
same_beside : (f g : ℕ → ℕ) (n : ℕ) → ((q : ℕ) → q % 257 ≢ 0 → f q ≡ g q) → total f (257 * n) + total (λ i. g (257 * i)) n ≡ total g (257 * n) + total (λ i. f (257 * i)) n
unfolding total
same_beside f g zero h = refl
same_beside f g (suc n) h =
    let r = same_beside f g n h in
    let q : 257 * n + 1 ≡ suc (257 * n) = omega arith in
    let a : total f (257 * n + 1) ≡ total f (257 * n) + f (257 * n) = ap (total f) q in
    let b : total g (257 * n + 1) ≡ total g (257 * n) + g (257 * n) = ap (total g) q in
    let run = same_run f g (257 * n + 1) 256 (257 * suc n) (omega arith) (λ q lo hi. h q (λ w. omega (arith, lo, hi, w))) in
    omega (arith, r, a, b, run)

total_least : (f : ℕ → ℕ) (n : ℕ) → total (λ i. 64 * f i) n ≡ 64 * total f n
unfolding total
total_least f zero = refl
total_least f (suc n) = let r = total_least f n in omega (arith, r)

module _ {P : Type 0} where
  -- what a slot's node takes
  abbrev slot_bytes : {K : Type 0} → Option (Slot P K) → ℕ
  slot_bytes None = 0
  slot_bytes (Some x) = size_of (form_in x)

  abbrev slots_in : {K : Type 0} → List (Option (Slot P K)) → ℕ
  slots_in [] = 0
  slots_in (o ∷ rest) = slot_bytes o + slots_in rest

  -- the sizes of the slots' nodes that a walk has still to come to
  abbrev pub slots_left : {K : Type 0} → List (ℕ × Slot P K) → ℕ
  slots_left [] = 0
  slots_left ((key, x) ∷ rest) = size_of (form_in x) + slots_left rest

  left_from : {K : Type 0} (key : ℕ) (slots : List (Option (Slot P K))) → slots_left (entries_from key slots) ≡ slots_in slots
  left_from key [] = refl
  left_from key (None ∷ rest) = let r = left_from (key + 1) rest in omega (arith, r)
  left_from key (Some x ∷ rest) = ap (λ n. size_of (form_in x) + n) (left_from (key + 1) rest)

  slots_total : {K : Type 0} (xs : List (Option (Slot P K))) → slots_in xs ≡ total (λ i. slot_bytes (get_or xs i None)) (length xs)
  unfolding total
  slots_total [] = refl
  slots_total (x ∷ xs) = ap (λ n. slot_bytes x + n) (slots_total xs) ∙ sym (total_first (λ i. slot_bytes (get_or (x ∷ xs) i None)) (length xs))

  lone_bytes : (o : Option (Child ℕ (Lone P))) → bytes_at (lone_in o) ≡ 64 * count_if_some (lone_in o)
  lone_bytes None = refl
  lone_bytes (Some Blank) = refl
  lone_bytes (Some (Sub below)) = refl
  lone_bytes (Some (Value lone)) = refl

  beside_bytes : {K : Type 0} (i b : ℕ) (o : Option (Slot P K)) → bytes_at (in_slot i o (suc b)) ≡ 64 * count_if_some (in_slot i o (suc b))
  beside_bytes i b None = refl
  beside_bytes i b (Some (Inner n)) = lone_bytes (map.get (children_of n) b)
  beside_bytes i b (Some (Leaf n)) = refl

  head_bytes : {K : Type 0} (i : ℕ) (o : Option (Slot P K)) → bytes_at (in_slot i o 0) ≡ slot_bytes o
  head_bytes i None = refl
  head_bytes i (Some x) = ap size_of (seen_form i x)

  head_counted : {K : Type 0} (i : ℕ) (o : Option (Slot P K)) → 64 * count_if_some (in_slot i o 0) ≡ 64 * count_if_some o
  head_counted i None = refl
  head_counted i (Some x) = refl

  inline_bytes : {K : Type 0} (s : Slab (Slot P K)) (q : ℕ) → q % 257 ≢ 0 → bytes_at (get (nodes_in s) q) ≡ 64 * count_if_some (get (nodes_in s) q)
  inline_bytes s q ne = ap bytes_at (get_named s q) ∙ (of (q % 257) refl ∙ ap (λ o. 64 * count_if_some o) (sym (get_named s q)))
    where
      of : (r : ℕ) → q % 257 ≡ r → bytes_at (node_named s.slots q) ≡ 64 * count_if_some (node_named s.slots q)
      of zero e = absurd (ne e)
      of (suc b) e =
          let o = get s (q / 257) in
          ap (λ r. bytes_at (in_slot (q / 257) o r)) e ∙ (beside_bytes (q / 257) b o ∙ ap (λ r. 64 * count_if_some (in_slot (q / 257) o r)) (sym e))

  stored_bytes : {K : Type 0} (s : Slab (Slot P K)) (inline : ℕ) → IsStored s inline → bytes_of (nodes_in s) ≡ 64 * inline + slots_in s.slots
  unfolding nodes_in
  stored_bytes s inline st =
      let n = length s.slots in
      let v = nodes_in s in
      let within : length v.slots ≤ 257 * n = omega (arith, length-map-range_with_len (node_named s.slots) 0 (257 * n)) in
      let b = same_beside (λ q. bytes_at (get v q)) (λ q. 64 * count_if_some (get v q)) n (inline_bytes s) in
      let f = bytes_named v (257 * n) within in
      let g = total_least (λ q. count_if_some (get v q)) (257 * n) in
      let l = len_named v (257 * n) within in
      let h = total_same (λ i. bytes_at (get v (257 * i))) (λ i. slot_bytes (get s i)) n (λ i z. ap bytes_at (get_slot s i) ∙ head_bytes i (get s i)) in
      let k = total_same (λ i. 64 * count_if_some (get v (257 * i))) (λ i. 64 * count_if_some (get s i)) n (λ i z. ap (λ o. 64 * count_if_some o) (get_slot s i) ∙ head_counted i (get s i)) in
      let j = total_least (λ i. count_if_some (get s i)) n in
      let m = len_named s n (omega arith) in
      let t = slots_total s.slots in
      let c = st.counted in
      omega (arith, b, f, g, l, h, k, j, m, t, c)

  -- what a walk over the slots has to come to, and the leaves beside
  pub walk_bytes : {K : Type 0} (s : Slab (Slot P K)) (v : Nodes P) → nodes_in s ≡ v → (inline : ℕ) → IsStored s inline → 64 * inline + slots_left (entries s) ≡ bytes_of v
  walk_bytes s v is inline st =
      let a = stored_bytes s inline st in
      let b : bytes_of (nodes_in s) ≡ bytes_of v = ap bytes_of is in
      let c = left_from 0 s.slots in
      omega (arith, a, b, c)
