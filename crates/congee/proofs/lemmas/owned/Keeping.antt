-- What the places of a leaf keep, as its children.
use Rattle.std.proofs.Common.{◌≡◌, ℕ, ◌<◌, Bool, true, false, cond, List, refl, sym, ap, subst, ◌∙◌}
use Rattle.std.specs.Prelude.{Option, None, Some, IsSome}
use Rattle.std.specs.Option.{option_map}
use Rattle.std.specs.Ordering.{eq_by_cmp, nat_cmp}
use Rattle.std.specs.Cmp.{nat_cmp_total}
use Rattle.std.specs.FinMap as map
use Rattle.congee.specs.forms.Bytes.{IsFirst}
use Rattle.congee.specs.forms.Forms.{Becomes, capacity_of, children_of, form_of, is_full_of}
use Rattle.congee.specs.owned.Values.{HoldsValues, KeepsValue, Refills, child_kept, child_with, form_in, full_in, kept_in, node_with}
use Rattle.congee.specs.declared.forms.base_node.Node.{Node}
use Rattle.congee.specs.declared.forms.child.Child.TheVariants.{Value}
use Rattle.congee.specs.declared.owned.values.Values.{Values}
use Rattle.congee.specs.declared.owned.values.Values.TheVariants.{N4, N16, N48, N256}
use Rattle.congee.proofs.lemmas.forms.Full.{full_at}
use Rattle.congee.proofs.lemmas.forms.LaidLemmas as laid
use Rattle.congee.proofs.lemmas.forms.MappedLemmas.{mapped_empty}
use Rattle.congee.specs.forms.Mapped.{mapped}

module _ {K : Type 0} where
  -- a form is full of what it keeps
  pub full_in_at : (v : Values K) → full_in v ≡ full_at (form_in v) (map.len (kept_in v))
  full_in_at (N4 n) = refl
  full_in_at (N16 n) = refl
  full_in_at (N48 n) = refl
  full_in_at (N256 n) = refl

  pub has_room : (v : Values K) → map.len (kept_in v) < capacity_of (form_in v) → full_in v ≡ false
  has_room v l = full_in_at v ∙ laid.less_fills (form_in v) (map.len (kept_in v)) l

-- a value is a child
value_child : {P : Type 0} (o : Option P) → IsSome o → option_map Value o ≡ Some (child_with o)
value_child None h = absurd (cc h)
value_child (Some w) h = refl

module _ {P K : Type 0} (value : K → Option P) where
  -- what is kept stays so, if nothing else comes than values
  pub bare_held : (v : Values K) → kept_in v ≡ map.empty → HoldsValues value v
  bare_held v e b = subst (KeepsValue value) (sym (ap (λ m. map.get m b) e ∙ map.get-empty _ b)) tt

  pub insert_held : (v v' : Values K) (b : ℕ) (k : K) (w : P) → value k ≡ Some w → kept_in v' ≡ map.insert (kept_in v) b k → HoldsValues value v → HoldsValues value v'
  insert_held v v' b k w is e h q =
      subst (KeepsValue value) (sym (ap (λ m. map.get m q) e ∙ map.get-insert nat_cmp_total (kept_in v) b k q)) (of (eq_by_cmp nat_cmp q b))
    where
      of : (t : Bool) → KeepsValue value (cond t (Some k) (map.get (kept_in v) q))
      of true = subst IsSome (sym is) refl
      of false = h q

  pub remove_held : (v v' : Values K) (b : ℕ) → kept_in v' ≡ map.remove (kept_in v) b → HoldsValues value v → HoldsValues value v'
  remove_held v v' b e h q =
      subst (KeepsValue value) (sym (ap (λ m. map.get m q) e ∙ map.get-remove nat_cmp_total (kept_in v) b q)) (of (eq_by_cmp nat_cmp q b))
    where
      of : (t : Bool) → KeepsValue value (cond t None (map.get (kept_in v) q))
      of true = tt
      of false = h q

  -- where a value is kept, it is there to be seen
  pub never_gone : (k : K) (o : Option P) → IsSome (value k) → o ≡ value k → o ≡ None → ⊥
  never_gone k None some e none = let h = subst IsSome (sym e) some in cc h
  never_gone k (Some w) some e none = cc none

  -- what a byte keeps is a value
  pub held_at : (v : Values K) → HoldsValues value v → (b : ℕ) (k : K) → map.get (kept_in v) b ≡ Some k → IsSome (value k)
  held_at v h b k e = subst (KeepsValue value) e (h b)

-- a leaf by its prefix and its values
module _ {P K : Type 0} (value : K → Option P) (x : List ℕ) (v : Values K) (n : Node ℕ P) (is : node_with value x v ≡ n) where
  pub form_at : form_of n ≡ form_in v
  form_at = laid.form_at (child_kept value) (form_in v) x (kept_in v) n is

  pub len_at : map.len (kept_in v) ≡ map.len (children_of n)
  len_at = laid.len_at (child_kept value) (form_in v) x (kept_in v) n is

  pub full_by : full_in v ≡ is_full_of n
  full_by = full_in_at v ∙ sym (laid.full_is (child_kept value) (form_in v) x (kept_in v) n is)

  pub bare_by : kept_in v ≡ map.empty → children_of n ≡ map.empty
  bare_by e = sym (laid.children_at (child_kept value) (form_in v) x (kept_in v) n is) ∙ (ap (mapped (child_kept value)) e ∙ mapped_empty (child_kept value))

  pub none_at : (b : ℕ) → map.get (kept_in v) b ≡ None → map.get (children_of n) b ≡ None
  none_at = laid.none_at (child_kept value) (form_in v) x (kept_in v) n is

  -- a value that is kept is the child there
  pub value_at : (b : ℕ) (k : K) (w : P) → value k ≡ Some w → map.get (kept_in v) b ≡ Some k → map.get (children_of n) b ≡ Some (Value w)
  value_at b k w e h = laid.some_at (child_kept value) (form_in v) x (kept_in v) n is b k h ∙ ap (λ o. Some (child_with o)) e

  pub seen_at : HoldsValues value v → (b : ℕ) (k : K) (o : Option P) → o ≡ value k → map.get (kept_in v) b ≡ Some k → option_map Value o ≡ map.get (children_of n) b
  seen_at held b k o e h =
      value_child o (subst IsSome (sym e) (held_at value v held b k h)) ∙ (ap (λ o. Some (child_with o)) e ∙ sym (laid.some_at (child_kept value) (form_in v) x (kept_in v) n is b k h))

  pub absent_at : (b : ℕ) → map.get (children_of n) b ≡ None → map.get (kept_in v) b ≡ None
  absent_at = laid.absent_at (child_kept value) (form_in v) x (kept_in v) n is

  pub present_at : (b : ℕ) → IsSome (map.get (children_of n) b) → IsSome (map.get (kept_in v) b)
  present_at = laid.present_at (child_kept value) (form_in v) x (kept_in v) n is

  pub first_at : (from b : ℕ) (k : K) (w : P) → value k ≡ Some w → IsFirst (kept_in v) from b k → IsFirst (children_of n) from b (Value w)
  first_at from b k w e f = subst (λ o. IsFirst (children_of n) from b (child_with o)) e (laid.first_at (child_kept value) (form_in v) x (kept_in v) n is from b k f)

  pub room_at : is_full_of n ≡ false → full_in v ≡ false
  room_at e = full_by ∙ e

  -- what the values became
  module _ (v' : Values K) (n' : Node ℕ P) (is' : node_with value x v' ≡ n') where
    pub inserted : (b : ℕ) (k : K) (w : P) → value k ≡ Some w → Refills v v' (map.insert (kept_in v) b k) → Becomes n n' (map.insert (children_of n) b (Value w))
    inserted b k w e r = laid.inserted (child_kept value) (form_in v) x (kept_in v) n is (form_in v') (kept_in v') n' is' r.form b k (Value w) (ap child_with e) r.kept

    pub removed : (b : ℕ) → Refills v v' (map.remove (kept_in v) b) → Becomes n n' (map.remove (children_of n) b)
    removed b r = laid.removed (child_kept value) (form_in v) x (kept_in v) n is (form_in v') (kept_in v') n' is' r.form b r.kept

    pub cleared : Refills v v' map.empty → Becomes n n' map.empty
    cleared r = laid.cleared (child_kept value) (form_in v) x (kept_in v) n is (form_in v') (kept_in v') n' is' r.form r.kept
