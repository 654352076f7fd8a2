-- The nodes in the slots of a slab, by their names.
use Rattle.std.proofs.Common.{◌≡◌, ◌≢◌, ℕ, zero, suc, ◌+◌, ◌*◌, ◌/◌, ◌%◌, ◌<◌, ◌≤◌, inl, inr, List, [], ◌∷◌, length, get_or, refl, sym, ap, ◌∙◌, arith}
use Rattle.std.specs.Prelude.{Option, None}
use Rattle.std.proofs.lemmas.Bool.{cases_lt}
use Rattle.std.proofs.lemmas.List.FromFn.{get_or-map-range_with_len, length-map-range_with_len}
use Rattle.std.specs.FinMap as map
use Rattle.slab.specs.Slab.{Slab, get, Updates}
use Rattle.congee.specs.forms.Forms.{children_of, form_of, prefix_of, is_full_of, Becomes}
use Rattle.congee.specs.forms.Mapped.{mapped}
use Rattle.congee.specs.owned.Slots.{slot_name, inline_name, with_children, in_slot, node_named, nodes_in}
use Rattle.congee.specs.declared.forms.base_node.Node.{Node}
use Rattle.congee.specs.declared.forms.base_node.Node.TheVariants.{N4, N16, N48, N256}
use Rattle.congee.specs.declared.forms.child.Child.{Child}
use Rattle.congee.specs.declared.owned.slots.Slot.{Slot}
use Rattle.congee.proofs.lemmas.forms.MappedLemmas.{len_mapped}

none_past : {X : Type 0} (xs : List (Option X)) (n : ℕ) → length xs ≤ n → get_or xs n None ≡ None
none_past [] n l = refl
none_past (x ∷ xs) zero l = absurd (omega (arith, l))
none_past (x ∷ xs) (suc n) l = none_past xs n (omega (arith, l))

-- a name of a slot is its first name and an offset
pub in_offset : (slot name : ℕ) → name / 257 ≡ slot → name ≡ 257 * slot + name % 257
in_offset slot name e = omega (arith, e)

-- a name's place within its slot's names is below 257
pub low_offset : (name : ℕ) → name % 257 < 257
low_offset name = omega arith

module _ {P K : Type 0} (s : Slab (Slot P K)) where
  -- every name has the node of its slot or place
  pub get_named : (name : ℕ) → get (nodes_in s) name ≡ node_named s.slots name
  unfolding nodes_in
  get_named name = elim (cases_lt name (257 * length s.slots)) [
    | inl l ↦ get_or-map-range_with_len (node_named s.slots) 0 (257 * length s.slots) name name None l (omega arith)
    | inr g ↦
        none_past _ name (omega (arith, length-map-range_with_len (node_named s.slots) 0 (257 * length s.slots), g))
        ∙ sym (ap (λ o. in_slot (name / 257) o (name % 257)) (none_past s.slots (name / 257) (omega (arith, g))))
  ]

  -- under a slot's first name and an offset stands what the slot has there
  pub get_offset : (slot offset : ℕ) → offset < 257 → get (nodes_in s) (257 * slot + offset) ≡ in_slot slot (get s slot) offset
  get_offset slot offset l =
      let q : (257 * slot + offset) / 257 ≡ slot = omega (arith, l) in
      let r : (257 * slot + offset) % 257 ≡ offset = omega (arith, l) in
      get_named (257 * slot + offset) ∙ rw (q, r) refl

  -- under a slot's first name stands the slot's node
  pub get_slot : (slot : ℕ) → get (nodes_in s) (slot_name slot) ≡ in_slot slot (get s slot) 0
  get_slot slot = ap (get (nodes_in s)) (let z : 257 * slot ≡ 257 * slot + 0 = omega arith in z) ∙ get_offset slot 0 (omega arith)

  -- under a byte's name of a slot stands the leaf in the node's place there, if one is
  pub get_inline : (slot byte : ℕ) → byte < 256 → get (nodes_in s) (inline_name slot byte) ≡ in_slot slot (get s slot) (suc byte)
  get_inline slot byte l = ap (λ o. get (nodes_in s) (257 * slot + o)) (let z : byte + 1 ≡ suc byte = omega arith in z) ∙ get_offset slot (suc byte) (omega (arith, l))

module _ {P K : Type 0} where
  -- names of other slots
  pub beside_slot : (s s' : Slab (Slot P K)) (slot : ℕ) (o : Option (Slot P K)) → Updates s s' slot o → (name : ℕ) → name / 257 ≢ slot
      → get (nodes_in s') name ≡ get (nodes_in s) name
  beside_slot s s' slot o u name ne =
      get_named s' name ∙ (ap (λ x. in_slot (name / 257) x (name % 257)) (u.others (name / 257) ne) ∙ sym (get_named s name))

module _ {P Q : Type 0} (f : ℕ → Child ℕ P → Child ℕ Q) where
  -- a node with changed children has the form that it had
  pub with_form : (n : Node ℕ P) → form_of (with_children f n) ≡ form_of n
  with_form (N4 n) = refl
  with_form (N16 n) = refl
  with_form (N48 n) = refl
  with_form (N256 n) = refl

  -- a node with changed children has the prefix that it had
  pub with_prefix : (n : Node ℕ P) → prefix_of (with_children f n) ≡ prefix_of n
  with_prefix (N4 n) = refl
  with_prefix (N16 n) = refl
  with_prefix (N48 n) = refl
  with_prefix (N256 n) = refl

  -- the children of a node with changed children are the changed ones
  pub with_mapped : (n : Node ℕ P) → children_of (with_children f n) ≡ mapped f (children_of n)
  with_mapped (N4 n) = refl
  with_mapped (N16 n) = refl
  with_mapped (N48 n) = refl
  with_mapped (N256 n) = refl

  -- a node with changed children has as many as before
  pub with_len : (n : Node ℕ P) → map.len (children_of (with_children f n)) ≡ map.len (children_of n)
  with_len n = ap map.len (with_mapped n) ∙ len_mapped f (children_of n)

  -- a node with changed children is full exactly where it was
  pub with_full : (n : Node ℕ P) → is_full_of (with_children f n) ≡ is_full_of n
  with_full (N4 n) = rw (len_mapped f n.children) refl
  with_full (N16 n) = rw (len_mapped f n.value.children) refl
  with_full (N48 n) = rw (len_mapped f n.value.children) refl
  with_full (N256 n) = refl

  -- a change of a node's children, as the changed children see it
  pub with_becomes : (n n' : Node ℕ P) (m : map.FinMap _ (Child ℕ P)) → Becomes n n' m → Becomes (with_children f n) (with_children f n') (mapped f m)
  with_becomes n n' m b = record {
    form = with_form n' ∙ (b.form ∙ sym (with_form n));
    prefix = with_prefix n' ∙ (b.prefix ∙ sym (with_prefix n));
    children = with_mapped n' ∙ ap (mapped f) b.children;
  }
