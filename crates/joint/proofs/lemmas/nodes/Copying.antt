-- The children of a node as they are copied or moved into another.
use Rattle.std.proofs.Common.{◌≡◌, ℕ, zero, suc, ◌+◌, ◌<◌, ◌≤◌, true, false, length, Option, None, Some, IsSome, refl, sym, ◌∙◌, ap, subst, inl, inr, arith}
use Rattle.std.specs.Prelude.{Box}
use Rattle.std.specs.Box.{with_value}
use Rattle.std.specs.declared.alloc.Global.{Global}
use Rattle.std.specs.Ordering.{nat_cmp}
use Rattle.std.specs.Cmp.{nat_cmp_total}
use Rattle.std.specs.FinMap as map
use Rattle.std.proofs.lemmas.Bool.{cases_eq, cases_lt, ne_eqb}
use Rattle.congee.specs.declared.forms.child.Child.{Child}
use Rattle.congee.specs.declared.forms.child.Child.TheVariants.{Blank, Node as Sub, Value}
use Rattle.congee.specs.declared.forms.base_node.Node.{Node as Form}
use Rattle.congee.specs.forms.Bytes.{IsFirst}
use Rattle.congee.specs.protocol.Events.{HoldsAlike}
use Rattle.congee.specs.forms.Forms.{children_of, form_of, prefix_of, capacity_of, size_of, is_full_of, Becomes}
use Rattle.congee.specs.Heap.{Below, Holds}
use Rattle.congee.proofs.Laws.{len_less, kept_node, kept_value}
use Rattle.joint.specs.declared.id.Id.{Id}
use Rattle.joint.specs.declared.nodes.slot.Slot.{Slot}
use Rattle.joint.specs.declared.nodes.slot.LockWord.{LockWord}
use Rattle.joint.specs.nodes.Altering.{MovesTo}
use Rattle.joint.specs.nodes.Solid.{AreAlike, IsPoured, IsSolid, IsWhole}
use Rattle.joint.specs.nodes.View.{hung_at, child_at, node_of}
use Rattle.joint.proofs.lemmas.nodes.Hanging.{put_here, put_beside, taken_here, taken_beside, full_is, empty_solid}
use Rattle.joint.proofs.lemmas.nodes.OtherChild.{some_key}
pub use Rattle.joint.proofs.lemmas.nodes.OtherChild.{no_value}

module _ {X : Type 0} where
  abbrev Sub_map : map.FinMap nat_cmp X → map.FinMap nat_cmp X → Type 0
  Sub_map p m = (k : ℕ) → IsSome (map.get p k) → IsSome (map.get m k)

  -- a part of a map is no longer than it
  sub_len : (n : ℕ) (p m : map.FinMap nat_cmp X) → map.len p ≡ n → Sub_map p m → n ≤ map.len m
  sub_len zero p m e s = omega arith
  sub_len (suc n) p m e s =
      let long : length (map.entries p) ≡ suc n = sym (map.len-entries p) ∙ e in
      let key : (k : ℕ) × IsSome (map.get p k) = some_key p (map.entries p) refl (omega (arith, long)) in
      let a = len_less p key.0 key.1 in
      let b = len_less m key.0 (s key.0 key.1) in
      let less : n ≤ map.len (map.remove m key.0) = sub_len n (map.remove p key.0) (map.remove m key.0) (omega (arith, a, e)) (λ j t. elim (cases_eq j key.0) [
        | inl q ↦ (let z : map.get (map.remove p key.0) j ≡ None = ap (map.get (map.remove p key.0)) q ∙ taken_here p key.0 in absurd (cc (t, z)))
        | inr ne ↦ subst IsSome (sym (taken_beside m key.0 j ne)) (s j (subst IsSome (taken_beside p key.0 j ne) t))
      ]) in
      omega (arith, less, b)

-- the children below a byte were copied, and no others
pub record IsCopying {P : Type 0} (n first now : Form Id P) (from : ℕ) : Type 0 where
  pub form : form_of now ≡ form_of first
  pub prefix : prefix_of now ≡ prefix_of first
  pub below : (k : ℕ) → k < from → map.get (children_of now) k ≡ map.get (children_of n) k
  pub above : (k : ℕ) → from ≤ k → map.get (children_of now) k ≡ None

module _ {P : Type 0} where
  -- an empty node has a copy of the children below byte 0
  pub copy_begins : (n first : Form Id P) → children_of first ≡ map.empty → IsCopying n first first 0
  copy_begins n first e = record {
    form = refl;
    prefix = refl;
    below = λ k l. absurd (omega (arith, l));
    above = λ k l. ap (λ m. map.get m k) e ∙ map.get-empty nat_cmp k;
  }

  -- while a child is left to be copied, a copy with places for all children isn't full
  pub copy_room : (n first now : Form Id P) (from byte : ℕ) (x : Child Id P) → IsCopying n first now from → IsFirst (children_of n) from byte x → map.len (children_of n) ≤ capacity_of (form_of first) → is_full_of now ≡ false
  copy_room n first now from byte x copying one room =
      let part : Sub_map (children_of now) (map.remove (children_of n) byte) = λ k s. elim (cases_eq k byte) [
        | inl q ↦ (let z : map.get (children_of now) k ≡ None = ap (map.get (children_of now)) q ∙ copying.above byte one.past in absurd (cc (s, z)))
        | inr ne ↦ subst IsSome (sym (taken_beside (children_of n) byte k ne)) (elim (cases_lt k from) [
          | inl l ↦ subst IsSome (copying.below k l) s
          | inr g ↦ (let z = copying.above k g in absurd (cc (s, z)))
        ])
      ] in
      let l = sub_len (map.len (children_of now)) (children_of now) (map.remove (children_of n) byte) refl part in
      let b = len_less (children_of n) byte (subst IsSome (sym one.here) refl) in
      let c : capacity_of (form_of now) ≡ capacity_of (form_of first) = ap capacity_of copying.form in
      full_is now (ne_eqb (map.len (children_of now)) (capacity_of (form_of now)) (λ e. omega (arith, e, l, b, c, room)))

  -- once the first child from a byte on is copied too, all below the byte after it are
  pub copy_goes : (n first now next : Form Id P) (from byte : ℕ) (x y : Child Id P) → IsCopying n first now from → IsFirst (children_of n) from byte x → x ≡ y → Becomes now next (map.insert (children_of now) byte y) → IsCopying n first next (byte + 1)
  copy_goes n first now next from byte x y copying one e becomes = record {
    form = becomes.form ∙ copying.form;
    prefix = becomes.prefix ∙ copying.prefix;
    below = λ k l. ap (λ m. map.get m k) becomes.children ∙ elim (cases_eq k byte) [
      | inl q ↦ ap (map.get (map.insert (children_of now) byte y)) q ∙ put_here (children_of now) byte y ∙ sym (ap (map.get (children_of n)) q ∙ one.here ∙ ap Some e)
      | inr ne ↦ put_beside (children_of now) byte y k ne ∙ elim (cases_lt k from) [
        | inl b ↦ copying.below k b
        | inr g ↦ copying.above k g ∙ sym (one.before k g (omega (arith, l, ne)))
      ]
    ];
    above = λ k l. ap (λ m. map.get m k) becomes.children ∙ put_beside (children_of now) byte y k (λ q. omega (arith, q, l)) ∙ copying.above k (let p = one.past in omega (arith, p, l));
  }

  -- where no child is left to copy, the copy has all children of the node, and else is as it began
  pub copy_ends : (n first now : Form Id P) (from : ℕ) → IsCopying n first now from → ((b : ℕ) → from ≤ b → map.get (children_of n) b ≡ None) → Becomes first now (children_of n)
  copy_ends n first now from copying none = record {
    form = copying.form;
    prefix = copying.prefix;
    children = map.same_map nat_cmp_total map.nat_cmp-IsAntisymmetric _ _ (λ k. elim (cases_lt k from) [
      | inl l ↦ copying.below k l
      | inr g ↦ copying.above k g ∙ sym (none k g)
    ]);
  }

  -- where the first child is a node, none of the others is a value
  pub names_first : (n : Form Id P) (b : ℕ) (x : Child Id P) (d : Id) → AreAlike n → IsFirst (children_of n) 0 b x → x ≡ Sub d → (k : ℕ) (v : P) → child_at n k ≡ Holds v → ⊥
  names_first n b x d (inl values) one e k v q = values b _ (ap hung_at (one.here ∙ ap Some e))
  names_first n b x d (inr names) one e k v q = names k v q

  -- where the first child is a value, none of the others is a node
  pub values_first : (n : Form Id P) (b : ℕ) (x : Child Id P) (u : P) → AreAlike n → IsFirst (children_of n) 0 b x → x ≡ Value u → (k d : ℕ) → child_at n k ≡ Below d → ⊥
  values_first n b x u (inl values) one e k d q = values k d q
  values_first n b x u (inr names) one e k d q = names b u (ap hung_at (one.here ∙ ap Some e))

  -- a map without a key
  no_key : (m : map.FinMap nat_cmp (Child Id P)) → ((k : ℕ) → map.get m k ≡ None) → map.len m ≡ 0
  no_key m none = elim (cases_eq (map.len m) 0) [
    | inl e ↦ e
    | inr ne ↦ absurd (
        let long : length (map.entries m) ≡ map.len m = sym (map.len-entries m) in
        let key : (k : ℕ) × IsSome (map.get m k) = some_key m (map.entries m) refl (omega (arith, long, ne)) in
        let z : map.get m key.0 ≡ None = none key.0 in
        let q : false ≡ true = subst (λ (o : Option (Child Id P)). IsSome o) z key.1 in
        cc q)
  ]

  -- a node that holds neither nodes nor values
  no_child : (n : Form Id P) → IsSolid (children_of n) → ((k d : ℕ) → child_at n k ≡ Below d → ⊥) → ((k : ℕ) (v : P) → child_at n k ≡ Holds v → ⊥) → map.len (children_of n) ≡ 0
  no_child n solid values names = no_key (children_of n) (λ k. by k (map.get (children_of n) k) refl) where
    by : (k : ℕ) (o : Option (Child Id P)) → map.get (children_of n) k ≡ o → map.get (children_of n) k ≡ None
    by k None e = e
    by k (Some Blank) e = absurd (solid k e)
    by k (Some (Sub c)) e = absurd (values k _ (ap hung_at e))
    by k (Some (Value v)) e = absurd (names k v (ap hung_at e))

  -- what is left of a solid node without values, once its children went over, is the node itself
  pub left_same : (n : Form Id P) → IsSolid (children_of n) → ((k : ℕ) (v : P) → child_at n k ≡ Holds v → ⊥) → IsPoured n n
  left_same n solid names = record {
    form = refl;
    prefix = refl;
    solid = solid;
    left = λ k. sym (kept_node (child_at n k) (names k));
    none_left = λ values. no_child n solid values names;
    all_left = λ _. refl;
  }

  -- what is left of a solid node without nodes, once its children went over, is one without children
  pub left_none : (n n' : Form Id P) → IsSolid (children_of n) → ((k d : ℕ) → child_at n k ≡ Below d → ⊥) → Becomes n n' map.empty → IsPoured n n'
  left_none n n' solid values becomes = record {
    form = becomes.form;
    prefix = becomes.prefix;
    solid = subst IsSolid (sym becomes.children) empty_solid;
    left = λ k. ap (λ m. hung_at (map.get m k)) becomes.children ∙ ap hung_at (map.get-empty nat_cmp k) ∙ sym (kept_value (child_at n k) (values k));
    none_left = λ _. none;
    all_left = λ names. none ∙ sym (no_child n solid values names);
  } where
    none : map.len (children_of n') ≡ 0
    none = ap map.len becomes.children ∙ no_key map.empty (λ k. map.get-empty nat_cmp k)

  -- the slots of two nodes
  abbrev slot_with : Slot P → Option (Box (Form Id P) Global) → Slot P
  slot_with s o = record s { node = o }

  -- a slot whose node counts no child has an empty map of children
  pub empty_in : (s : Slot P) (n : Box (Form Id P) Global) → s.node ≡ Some n → (node_of s).count ≡ 0 → children_of n.value ≡ map.empty
  empty_in s n e none = map.empty_of_len (children_of n.value) (subst (λ o. (node_of (slot_with s o)).count ≡ 0) e none)

  -- where a slot's places are enough for another's count, so are the places of its form for the children
  pub room_in : (a b : Slot P) (n m : Box (Form Id P) Global) → a.node ≡ Some n → b.node ≡ Some m → (node_of a).count ≤ (node_of b).capacity → map.len (children_of n.value) ≤ capacity_of (form_of m.value)
  room_in a b n m e f room = subst (λ o. map.len (children_of n.value) ≤ (node_of (slot_with b o)).capacity) f (subst (λ o. (node_of (slot_with a o)).count ≤ (node_of b).capacity) e room)

  -- where a slot's node holds values alone or nodes alone, so does the node in its box
  pub alike_in : (a : Slot P) (n : Box (Form Id P) Global) → a.node ≡ Some n → HoldsAlike (node_of a) → AreAlike n.value
  alike_in a n e alike = subst (λ o. HoldsAlike (node_of (slot_with a o))) e alike

  hands_box : (n m : Box (Form Id P) Global) (n' m' : Form Id P) (w v : LockWord) → IsSolid (children_of n.value) → Becomes m.value m' (children_of n.value) → IsPoured n.value n'
      → MovesTo (record { node = Some n; word = w }) (record { node = Some m; word = v }) (record { node = Some (with_value n n'); word = w }) (record { node = Some (with_value m m'); word = v })
  hands_box n m n' m' w v solid moved left = record {
    word_old = refl;
    word = refl;
    size_old = ap size_of left.form;
    size_is = ap size_of moved.form;
    whole_old = left.solid;
    whole = subst IsSolid (sym moved.children) solid;
    prefix_old = left.prefix;
    prefix = moved.prefix;
    capacity = ap capacity_of moved.form;
    children = λ k. ap (λ x. hung_at (map.get x k)) moved.children;
    count = ap map.len moved.children;
    capacity_old = ap capacity_of left.form;
    left = left.left;
    none_left = left.none_left;
    all_left = left.all_left;
  }

  -- a slot with its children left and another with them added are one whose children went over into the other
  pub hands_slots : (a b : Slot P) (n m : Box (Form Id P) Global) (n' m' : Form Id P) → a.node ≡ Some n → b.node ≡ Some m → IsWhole a.node → Becomes m.value m' (children_of n.value) → IsPoured n.value n'
      → MovesTo a b (record { node = Some (with_value n n'); word = a.word }) (record { node = Some (with_value m m'); word = b.word })
  hands_slots a b n m n' m' e f whole moved left =
      subst (λ o. MovesTo (slot_with a o) b (record { node = Some (with_value n n'); word = a.word }) (record { node = Some (with_value m m'); word = b.word })) (sym e)
      (subst (λ o. MovesTo (record { node = Some n; word = a.word }) (slot_with b o) (record { node = Some (with_value n n'); word = a.word }) (record { node = Some (with_value m m'); word = b.word })) (sym f)
      (hands_box n m n' m' a.word b.word (subst IsWhole e whole) moved left))
