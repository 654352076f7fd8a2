-- The names that a slot shows are those of the nodes that hang in its own.
use Rattle.std.proofs.Common.{◌≡◌, ◌≢◌, ℕ, zero, suc, ◌<◌, arith, Bool, true, false, List, [], ◌∷◌, Option, None, Some, cond, refl, sym, ◌∙◌, ap, subst, inl, inr}
use Rattle.std.specs.Prelude.{Box}
use Rattle.std.specs.List.{Contains}
use Rattle.std.specs.FinMap as map
use Rattle.std.proofs.lemmas.Bool.{eq-eqb, ne_eqb, cases_eq}
use Rattle.std.proofs.Math.Dec.{eqb}
use Rattle.crossbeam_epoch.specs.declared.names.Name.{Name}
use Rattle.congee.specs.declared.forms.child.Child.{Child}
use Rattle.congee.specs.declared.forms.child.Child.TheVariants.{Blank, Node as Sub, Value}
use Rattle.congee.specs.declared.forms.base_node.Node.{Node as Form}
use Rattle.congee.specs.forms.Forms.{children_of}
use Rattle.congee.specs.forms.Places.{AllKeys, Rises}
use Rattle.congee.specs.Heap.{Hung, Below, Nothing, Holds}
use Rattle.congee.proofs.Laws.{find, get_find, rises_entries}
use Rattle.joint.specs.declared.id.Id.{Id}
use Rattle.joint.specs.declared.nodes.slot.Slot.{Slot}
use Rattle.joint.specs.Names.{number}
use Rattle.joint.specs.nodes.Heap.{IsView}
use Rattle.joint.specs.nodes.Slots.{and_name, names_in, names_of}
use Rattle.joint.specs.nodes.View.{hung_at, child_in, view}

module _ {X : Type 0} where
  found_past : (k b : ℕ) (x : X) (es : List (ℕ × X)) → AllKeys (λ j. k < j) es → find b es ≡ Some x → b ≢ k
  found_past k b x [] a f = absurd (cc f)
  found_past k b x ((j, y) ∷ es) a f = elim (cases_eq b j) [
    | inl e ↦ (λ q. omega (arith, a.0, e, q))
    | inr ne ↦ found_past k b x es a.1 (sym (ap (λ (c : Bool). cond c (Some y) (find b es)) (ne_eqb b j ne)) ∙ f)
  ]

abbrev from : {A : Type 0} → A → Option A → A
from d None = d
from d (Some y) = y

abbrev number_below : {V : Type 0} → ℕ → Hung V → ℕ
number_below d Nothing = d
number_below d (Below k) = k
number_below d (Holds v) = d

module _ {P : Type 0} where
  -- a name among the children hangs at a byte
  at_byte : (es : List (ℕ × Child Id P)) → Rises es → (c : Name) → Contains (names_in es) c → (b : ℕ) × (id : Id) × (find b es ≡ Some (Sub id)) × (id.name ≡ c)
  at_byte [] r c x = absurd (let bad : x.0 < 0 = x.1 in omega (arith, bad))
  at_byte ((k, Blank) ∷ es) r c x = later (at_byte es r.1 c x)
    where
      later : (b : ℕ) × (id : Id) × (find b es ≡ Some (Sub id)) × (id.name ≡ c) → (b : ℕ) × (id : Id) × (find b ((k, Blank) ∷ es) ≡ Some (Sub id)) × (id.name ≡ c)
      later y = (y.0, y.1, ap (λ (t : Bool). cond t (Some Blank) (find y.0 es)) (ne_eqb y.0 k (found_past k y.0 (Sub y.1) es r.0 y.2)) ∙ y.2, y.3)
  at_byte ((k, Value v) ∷ es) r c x = later (at_byte es r.1 c x)
    where
      later : (b : ℕ) × (id : Id) × (find b es ≡ Some (Sub id)) × (id.name ≡ c) → (b : ℕ) × (id : Id) × (find b ((k, Value v) ∷ es) ≡ Some (Sub id)) × (id.name ≡ c)
      later y = (y.0, y.1, ap (λ (t : Bool). cond t (Some (Value v)) (find y.0 es)) (ne_eqb y.0 k (found_past k y.0 (Sub y.1) es r.0 y.2)) ∙ y.2, y.3)
  at_byte ((k, Sub id) ∷ es) r c (zero, l, e) = (k, id, ap (λ (t : Bool). cond t (Some (Sub id)) (find k es)) (eq-eqb k k refl), e)
  at_byte ((k, Sub id) ∷ es) r c (suc i, l, e) = later (at_byte es r.1 c (i, omega (arith, l), e))
    where
      later : (b : ℕ) × (d : Id) × (find b es ≡ Some (Sub d)) × (d.name ≡ c) → (b : ℕ) × (d : Id) × (find b ((k, Sub id) ∷ es) ≡ Some (Sub d)) × (d.name ≡ c)
      later y = (y.0, y.1, ap (λ (t : Bool). cond t (Some (Sub id)) (find y.0 es)) (ne_eqb y.0 k (found_past k y.0 (Sub y.1) es r.0 y.2)) ∙ y.2, y.3)

  one_later : (x : Child Id P) (xs : List Name) (c : Name) → Contains xs c → Contains (and_name x xs) c
  one_later Blank xs c y = y
  one_later (Value v) xs c y = y
  one_later (Sub d) xs c y = (suc y.0, omega (arith, y.1), y.2)

  -- and what hangs at a byte is among the names
  in_names : (es : List (ℕ × Child Id P)) (b : ℕ) (id : Id) → find b es ≡ Some (Sub id) → Contains (names_in es) id.name
  in_names [] b id f = absurd (cc f)
  in_names ((k, x) ∷ es) b id f = by_test (eqb b k) (in_names es b id) f
    where
      by_test : (t : Bool) → (find b es ≡ Some (Sub id) → Contains (names_in es) id.name) → cond t (Some x) (find b es) ≡ Some (Sub id) → Contains (and_name x (names_in es)) id.name
      by_test true go q = (let e : x ≡ Sub id = ap (from x) q in let Q : Child Id P → Type 0 = λ y. Contains (and_name y (names_in es)) id.name in subst Q (sym e) (0, omega arith, refl))
      by_test false go q = one_later x (names_in es) id.name (go q)

  module _ {A : Type 0} where
    links_node : (n : Option (Box (Form Id P) A)) (c : Name) → Contains (names_of n) c → (b : ℕ) × (child_in n b ≡ Below (number c))
    links_node None c x = absurd (let bad : x.0 < 0 = x.1 in omega (arith, bad))
    links_node (Some n) c x =
        let y : (b : ℕ) × (id : Id) × (find b (map.entries (children_of n.value)) ≡ Some (Sub id)) × (id.name ≡ c) = at_byte (map.entries (children_of n.value)) (rises_entries (children_of n.value)) c x in
        (y.0, ap hung_at (get_find (children_of n.value) y.0 ∙ y.2) ∙ ap (λ z. Below (number z)) y.3)

    hangs_at : (n : Box (Form Id P) A) (b k : ℕ) (o : Option (Child Id P)) → map.get (children_of n.value) b ≡ o → hung_at o ≡ Below k → (c : Name) × Contains (names_in (map.entries (children_of n.value))) c × (number c ≡ k)
    hangs_at n b k None e q = absurd (cc q)
    hangs_at n b k (Some Blank) e q = absurd (cc q)
    hangs_at n b k (Some (Value v)) e q = absurd (cc q)
    hangs_at n b k (Some (Sub id)) e q = (id.name, in_names (map.entries (children_of n.value)) b id (sym (get_find (children_of n.value) b) ∙ e), ap (number_below {V = P} k) q)

    hangs_node : (n : Option (Box (Form Id P) A)) (b k : ℕ) → child_in n b ≡ Below k → (c : Name) × Contains (names_of n) c × (number c ≡ k)
    hangs_node None b k e = absurd (cc e)
    hangs_node (Some n) b k e = hangs_at n b k (map.get (children_of n.value) b) refl e

-- a slot is read as a node that stands, and whose children have just the names in it
pub slot_view : {P : Type 0} → IsView {V = P} (λ (s : Slot P). names_of s.node) view
slot_view {P} = record {
  stands = λ g v. record { made = refl; kept = refl };
  used = refl;
  lost = refl;
  unmade = refl;
  bare = λ g b. refl;
  links = λ g v c x. links_node v.node c x;
  hangs = λ g v b k e. hangs_node v.node b k e;
}
