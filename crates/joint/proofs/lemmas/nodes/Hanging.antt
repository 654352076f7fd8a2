-- What hangs at a byte of a node, before and after a change.
use Rattle.std.proofs.Common.{◌≡◌, ◌≢◌, ℕ, ◌+◌, ◌==◌, false, List, Option, None, Some, IsSome, refl, sym, ◌∙◌, ap, subst, inl, inr, arith}
use Rattle.std.specs.Prelude.{Box}
use Rattle.std.specs.Box.{with_value}
use Rattle.std.specs.declared.alloc.Global.{Global}
use Rattle.std.specs.Ordering.{nat_cmp}
use Rattle.std.specs.Cmp.{nat_cmp_total}
use Rattle.std.specs.FinMap as map
use Rattle.std.proofs.lemmas.Bool.{cases_eq, ne_eqb, eq-eqb}
use Rattle.congee.specs.declared.forms.child.Child.{Child}
use Rattle.congee.specs.declared.forms.child.Child.TheVariants.{Blank, Node as Sub, Value}
use Rattle.congee.specs.declared.forms.base_node.Node.{Node as Form}
use Rattle.congee.specs.declared.forms.base_node.Node.TheVariants as form
use Rattle.congee.specs.declared.forms.base_node.NodeType.{NodeType}
use Rattle.congee.specs.protocol.Events.{hung, weight, MayChange}
use Rattle.congee.specs.forms.Forms.{children_of, form_of, prefix_of, capacity_of, size_of, is_full_of, Becomes}
use Rattle.congee.specs.Heap.{Nothing, Below, Holds}
use Rattle.congee.proofs.Laws.{same_is, len_new, len_again, len_less}
use Rattle.joint.specs.declared.id.Id.{Id}
use Rattle.joint.specs.declared.nodes.slot.Slot.{Slot}
use Rattle.joint.specs.declared.nodes.slot.LockWord.{LockWord}
use Rattle.joint.specs.nodes.Altering.{Hangs, IsNewSlot, Pulls}
use Rattle.joint.specs.nodes.Solid.{IsSolid, IsWhole, hang}
use Rattle.joint.specs.nodes.View.{id_number, hung_at, child_at, child_in, shape, node_of}
use Rattle.joint.proofs.lemmas.nodes.ByteLooks.{is_some_of_hung}

-- some lock word
abbrev pub no_word : LockWord
no_word = record { version = 0; locked = false; obsolete = false; retired = false }

abbrev IsThere : {P : Type 0} → Child Id P → Type 0
IsThere Blank = ⊥
IsThere (Sub c) = Unit {0}
IsThere (Value v) = Unit {0}

module _ {X : Type 0} (m : map.FinMap nat_cmp X) (b : ℕ) where
  -- under the key that was put stands what was put
  pub put_here : (x : X) → map.get (map.insert m b x) b ≡ Some x
  put_here x = map.get-insert nat_cmp_total m b x b ∙ rw (same_is b b, eq-eqb b b refl) refl

  -- under another key than the one put stands what stood there
  pub put_beside : (x : X) (c : ℕ) → c ≢ b → map.get (map.insert m b x) c ≡ map.get m c
  put_beside x c ne = map.get-insert nat_cmp_total m b x c ∙ rw (same_is c b, ne_eqb c b ne) refl

  -- under the key that was taken out nothing stands
  pub taken_here : map.get (map.remove m b) b ≡ None
  taken_here = map.get-remove nat_cmp_total m b b ∙ rw (same_is b b, eq-eqb b b refl) refl

  -- under another key than the one taken out stands what stood there
  pub taken_beside : (c : ℕ) → c ≢ b → map.get (map.remove m b) c ≡ map.get m c
  taken_beside c ne = map.get-remove nat_cmp_total m b c ∙ rw (same_is c b, ne_eqb c b ne) refl

module _ {P : Type 0} where
  -- where the child at a byte may be taken out, there is one
  pub present : (n : Form Id P) (b : ℕ) (x : Child Id P) → x ≡ Blank → MayChange (shape n no_word) b (hung id_number x) → IsSome (map.get (children_of n) b)
  present n b x e may = let z : MayChange (shape n no_word) b Nothing = subst (λ y. MayChange (shape n no_word) b (hung id_number y)) e may in is_some_of_hung (map.get (children_of n) b) z

  -- a node that hasn't as many children as places isn't full
  pub full_is : (n : Form Id P) → (map.len (children_of n) == capacity_of (form_of n)) ≡ false → is_full_of n ≡ false
  full_is (form.N4 n) e = e
  full_is (form.N16 n) e = e
  full_is (form.N48 n) e = e
  full_is (form.N256 n) e = refl

  room_for : (n : Form Id P) (b : ℕ) (y : Child Id P) → IsThere y → MayChange (shape n no_word) b (hung id_number y) → map.get (children_of n) b ≡ None → is_full_of n ≡ false
  room_for n b Blank t may none = absurd t
  room_for n b (Sub c) t may none = full_is n (may (ap hung_at none))
  room_for n b (Value v) t may none = full_is n (may (ap hung_at none))

  -- where a child may come to a byte that has none, the node isn't full
  pub room_in : (n : Form Id P) (b : ℕ) (x y : Child Id P) → x ≡ y → IsThere y → MayChange (shape n no_word) b (hung id_number x) → map.get (children_of n) b ≡ None → is_full_of n ≡ false
  room_in n b x y e t may none = room_for n b y t (subst (λ z. MayChange (shape n no_word) b (hung id_number z)) e may) none

  module _ (m : map.FinMap nat_cmp (Child Id P)) (b : ℕ) where
    hang_here : (x : Child Id P) → hung_at (map.get (hang m b x) b) ≡ hung id_number x
    hang_here Blank = ap hung_at (taken_here m b)
    hang_here (Sub c) = ap hung_at (put_here m b (Sub c))
    hang_here (Value v) = ap hung_at (put_here m b (Value v))

    hang_beside : (x : Child Id P) (c : ℕ) → c ≢ b → map.get (hang m b x) c ≡ map.get m c
    hang_beside Blank c ne = taken_beside m b c ne
    hang_beside (Sub d) c ne = put_beside m b (Sub d) c ne
    hang_beside (Value v) c ne = put_beside m b (Value v) c ne

    solid_at : (x : Child Id P) (o : Option (Child Id P)) → hung_at o ≡ hung id_number x → IsThere x → o ≡ Some Blank → ⊥
    solid_at Blank o e t q = absurd t
    solid_at (Sub c) o e t q = (let z : hung_at {P = P} (Some Blank) ≡ Below (id_number c) = ap hung_at (sym q) ∙ e in cc)
    solid_at (Value v) o e t q = (let z : hung_at {P = P} (Some Blank) ≡ Holds v = ap hung_at (sym q) ∙ e in cc)

    hang_solid : (x : Child Id P) → IsSolid m → IsSolid (hang m b x)
    hang_solid Blank solid c q = elim (cases_eq c b) [
      | inl e ↦ (let z : map.get (map.remove m b) c ≡ None = ap (map.get (map.remove m b)) e ∙ taken_here m b in cc)
      | inr ne ↦ solid c (sym (taken_beside m b c ne) ∙ q)
    ]
    hang_solid (Sub d) solid c q = elim (cases_eq c b) [
      | inl e ↦ solid_at (Sub d) (map.get (map.insert m b (Sub d)) b) (hang_here (Sub d)) tt (ap (map.get (map.insert m b (Sub d))) (sym e) ∙ q)
      | inr ne ↦ solid c (sym (put_beside m b (Sub d) c ne) ∙ q)
    ]
    hang_solid (Value v) solid c q = elim (cases_eq c b) [
      | inl e ↦ solid_at (Value v) (map.get (map.insert m b (Value v)) b) (hang_here (Value v)) tt (ap (map.get (map.insert m b (Value v))) (sym e) ∙ q)
      | inr ne ↦ solid c (sym (put_beside m b (Value v) c ne) ∙ q)
    ]

    weight_there : (o : Option (Child Id P)) → IsSome o → (o ≡ Some Blank → ⊥) → weight (hung_at o) ≡ 1
    weight_there None s solid = absurd (cc s)
    weight_there (Some Blank) s solid = absurd (solid refl)
    weight_there (Some (Sub c)) s solid = refl
    weight_there (Some (Value v)) s solid = refl

    put_count : (x : Child Id P) (o : Option (Child Id P)) → map.get m b ≡ o → (o ≡ Some Blank → ⊥) → map.len (map.insert m b x) + weight (hung_at o) ≡ map.len m + 1
    put_count x None e solid = (let z = len_new m b x e in omega (arith, z))
    put_count x (Some y) e solid = (
        let s : IsSome (map.get m b) = subst IsSome (sym e) refl in
        let z = len_again m b x s in
        let o : weight (hung_at (Some y)) ≡ 1 = weight_there (Some y) refl solid in
        omega (arith, z, o))

    hang_count : (x : Child Id P) → IsSolid m → (x ≡ Blank → IsSome (map.get m b)) → map.len (hang m b x) + weight (hung_at (map.get m b)) ≡ map.len m + weight (hung id_number x)
    hang_count Blank solid some = (
        let s : IsSome (map.get m b) = some refl in
        let o : weight (hung_at (map.get m b)) ≡ 1 = weight_there (map.get m b) s (solid b) in
        let z = len_less m b s in
        omega (arith, z, o))
    hang_count (Sub c) solid some = put_count (Sub c) (map.get m b) refl (solid b)
    hang_count (Value v) solid some = put_count (Value v) (map.get m b) refl (solid b)

  some_blank : (n : Form Id P) (w : LockWord) (b : ℕ) (x : Child Id P) → MayChange (shape n w) b (hung id_number x) → x ≡ Blank → IsSome (map.get (children_of n) b)
  some_blank n w b x may e = let z : MayChange (shape n w) b Nothing = subst (λ y. MayChange (shape n w) b (hung id_number y)) e may in is_some_of_hung (map.get (children_of n) b) z

  abbrev slot_with : Slot P → Option (Box (Form Id P) Global) → Slot P
  slot_with s o = record s { node = o }

  -- the node in a whole slot's box is solid
  pub solid_in : (s : Slot P) (n : Box (Form Id P) Global) → s.node ≡ Some n → IsWhole s.node → IsSolid (children_of n.value)
  solid_in s n e whole = subst IsWhole e whole

  -- a child that may come to a slot's node may come to the node in its box under any lock word
  pub room_of : (s : Slot P) (n : Box (Form Id P) Global) (b : ℕ) (x : Child Id P) (w : LockWord) → s.node ≡ Some n → MayChange (node_of s) b (hung id_number x) → MayChange (shape n.value w) b (hung id_number x)
  room_of s n b Blank w e may = subst (λ o. MayChange (node_of (slot_with s o)) b Nothing) e may
  room_of s n b (Sub c) w e may = subst (λ o. MayChange (node_of (slot_with s o)) b (Below (id_number c))) e may
  room_of s n b (Value v) w e may = subst (λ o. MayChange (node_of (slot_with s o)) b (Holds v)) e may

  hangs_box : (n : Box (Form Id P) Global) (w : LockWord) (n' : Form Id P) (b : ℕ) (x : Child Id P) → IsSolid (children_of n.value) → MayChange (shape n.value w) b (hung id_number x)
      → Becomes n.value n' (hang (children_of n.value) b x) → Hangs (record { node = Some n; word = w }) b x (record { node = Some (with_value n n'); word = w })
  hangs_box n w n' b x solid may becomes = record {
    word = refl;
    size_is = ap size_of becomes.form;
    whole = subst IsSolid (sym becomes.children) (hang_solid (children_of n.value) b x solid);
    prefix = becomes.prefix;
    capacity = ap capacity_of becomes.form;
    child_is = ap (λ m. hung_at (map.get m b)) becomes.children ∙ hang_here (children_of n.value) b x;
    beside = λ c ne. ap (λ m. hung_at (map.get m c)) becomes.children ∙ ap hung_at (hang_beside (children_of n.value) b x c ne);
    count = (
        let z = hang_count (children_of n.value) b x solid (some_blank n.value w b x may) in
        let k : map.len (children_of n') ≡ map.len (hang (children_of n.value) b x) = ap map.len becomes.children in
        omega (arith, z, k));
  }

  -- a slot whose node's children changed at one byte has that child there, and nothing else is changed
  pub hangs_slot : (s : Slot P) (n : Box (Form Id P) Global) (n' : Form Id P) (b : ℕ) (x : Child Id P) → s.node ≡ Some n → IsSolid (children_of n.value) → MayChange (node_of s) b (hung id_number x)
      → Becomes n.value n' (hang (children_of n.value) b x) → Hangs s b x (record { node = Some (with_value n n'); word = s.word })
  hangs_slot s n n' b x e solid may becomes =
      subst (λ o. Hangs (slot_with s o) b x (record { node = Some (with_value n n'); word = s.word })) (sym e) (hangs_box n s.word n' b x solid (room_of s n b x s.word e may) becomes)

  -- where a slot's node holds a value at a byte, so does the node in its box
  pub holds_in : (s : Slot P) (n : Box (Form Id P) Global) (b : ℕ) → s.node ≡ Some n → (v : P) × ((node_of s).children b ≡ Holds v) → (v : P) × (child_at n.value b ≡ Holds v)
  holds_in s n b e h = (h.0, sym (ap (λ o. child_in o b) e) ∙ h.1)

  -- a slot whose node lost the value at a byte has it out, and nothing else is changed
  pub pulls_slot : (s : Slot P) (n : Box (Form Id P) Global) (n' : Form Id P) (b : ℕ) (v : P) → s.node ≡ Some n → IsWhole s.node → map.get (children_of n.value) b ≡ Some (Value v)
      → Becomes n.value n' (map.remove (children_of n.value) b) → Pulls s b v (record { node = Some (with_value n n'); word = s.word })
  pulls_slot s n n' b v e whole is_some_of_hung becomes =
      let was : (node_of s).children b ≡ Holds v = ap (λ o. child_in o b) e ∙ ap hung_at is_some_of_hung in
      record { was = was; hangs = hangs_slot s n n' b Blank e (solid_in s n e whole) (λ none. let z : Holds v ≡ Nothing = sym was ∙ none in cc) becomes }

  -- no byte of an empty map has a blank
  pub empty_solid : IsSolid {P = P} map.empty
  empty_solid b e = let z : map.get (map.empty {X = Child Id P} {R = nat_cmp}) b ≡ None = map.get-empty nat_cmp b in let q : None ≡ Some Blank = sym z ∙ e in cc q

  -- an empty node of a form in a box, with a free lock word, is a new slot
  pub fresh_slot : (n : Box (Form Id P) Global) (f : Form Id P) (form : NodeType) (prefix : List ℕ) → n.value ≡ f → form_of f ≡ form → prefix_of f ≡ prefix → children_of f ≡ map.empty
      → IsNewSlot (record { node = Some n; word = no_word }) form prefix
  fresh_slot n f form prefix is e p none =
      let m : children_of n.value ≡ map.empty = ap children_of is ∙ none in
      record {
        whole = subst IsSolid (sym m) empty_solid;
        size_is = ap (λ x. size_of (form_of x)) is ∙ ap size_of e;
        prefix_is = ap prefix_of is ∙ p;
        blank = λ b. ap (λ x. hung_at (map.get x b)) m ∙ ap hung_at (map.get-empty nat_cmp b);
        empty = ap map.len m ∙ map.len-empty nat_cmp (Child Id P);
        capacity = ap (λ x. capacity_of (form_of x)) is ∙ ap capacity_of e;
        word = refl;
      }
