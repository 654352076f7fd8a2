-- Of two nodes that hang in one, the other.
use Rattle.std.proofs.Common.{◌≡◌, ◌≢◌, ℕ, ◌+◌, ◌<◌, ◌≤◌, List, [], ◌∷◌, length, Option, None, Some, IsSome, refl, sym, ◌∙◌, ap, subst, inl, inr, arith}
use Rattle.std.specs.Ordering.{nat_cmp}
use Rattle.std.specs.FinMap as map
use Rattle.std.proofs.lemmas.Bool.{cases_lt, eq-eqb}
use Rattle.congee.specs.declared.forms.child.Child.{Child}
use Rattle.congee.specs.declared.forms.child.Child.TheVariants.{Node as Sub, Value}
use Rattle.congee.specs.declared.forms.base_node.Node.{Node as Form}
use Rattle.congee.specs.forms.Bytes.{IsFirst}
use Rattle.congee.specs.forms.Forms.{children_of}
use Rattle.congee.specs.Heap.{Nothing, Holds}
use Rattle.congee.specs.protocol.Events.{IsOther}
use Rattle.congee.proofs.Laws.{get_find, find, len_less}
use Rattle.joint.specs.declared.id.Id.{Id}
use Rattle.joint.specs.declared.nodes.slot.LockWord.{LockWord}
use Rattle.joint.specs.nodes.Solid.{IsSolid}
use Rattle.joint.specs.nodes.View.{child_at, hung_at, id_number, shape}
use Rattle.joint.proofs.lemmas.nodes.Hanging.{taken_here, taken_beside}
use Rattle.joint.proofs.lemmas.nodes.ByteLooks.{is_some_of_hung}

module _ {X : Type 0} where
  -- a map of two keys has no third
  two_only : (m : map.FinMap nat_cmp X) (a b x : ℕ) → a ≢ b → IsSome (map.get m a) → IsSome (map.get m b) → map.len m ≡ 2 → x ≢ a → x ≢ b → IsSome (map.get m x) → ⊥
  two_only m a b x ab pa pb two xa xb px =
      let la = len_less m a pa in
      let pb1 : IsSome (map.get (map.remove m a) b) = subst IsSome (sym (taken_beside m a b (λ e. ab (sym e)))) pb in
      let lb = len_less (map.remove m a) b pb1 in
      let px2 : IsSome (map.get (map.remove (map.remove m a) b) x) = subst IsSome (sym (taken_beside (map.remove m a) b x xb ∙ taken_beside m a x xa)) px in
      let lx = len_less (map.remove (map.remove m a) b) x px2 in
      absurd (omega (arith, la, lb, lx, two))

  -- a map that isn't empty has a key
  pub some_key : (m : map.FinMap nat_cmp X) (es : List (ℕ × X)) → map.entries m ≡ es → 0 < length es → (k : ℕ) × IsSome (map.get m k)
  some_key m [] e l = absurd (omega (arith, l))
  some_key m ((k, x) ∷ es) e l = (k, subst IsSome (sym (get_find m k ∙ ap (find k) e ∙ head)) refl)
    where
      head : find k ((k, x) ∷ es) ≡ Some x
      head = rw (eq-eqb k k refl) refl

  -- and beside one of them the other
  second : (m : map.FinMap nat_cmp X) (a : ℕ) → IsSome (map.get m a) → map.len m ≡ 2 → (k : ℕ) × ((k ≢ a) × IsSome (map.get m k))
  second m a pa two =
      let la = len_less m a pa in
      let long : length (map.entries (map.remove m a)) ≡ map.len (map.remove m a) = sym (map.len-entries (map.remove m a)) in
      let key : (k : ℕ) × IsSome (map.get (map.remove m a) k) = some_key (map.remove m a) (map.entries (map.remove m a)) refl (omega (arith, la, long, two)) in
      let apart : key.0 ≢ a = λ e. (let z : map.get (map.remove m a) key.0 ≡ None = ap (map.get (map.remove m a)) e ∙ taken_here m a in let s = key.1 in absurd (cc (s, z))) in
      (key.0, (apart, subst IsSome (taken_beside m a key.0 apart) key.1))

module _ {P : Type 0} (n : Form Id P) (solid : IsSolid (children_of n)) (two : map.len (children_of n) ≡ 2) (byte : ℕ) (there : child_at n byte ≢ Nothing) where
  here : IsSome (map.get (children_of n) byte)
  here = is_some_of_hung (map.get (children_of n) byte) there

  other_is : (w : LockWord) (at : ℕ) (x : Child Id P) (c : Id) → at < 256 → at ≢ byte → map.get (children_of n) at ≡ Some x → x ≡ Sub c → IsOther (shape n w) byte (id_number c)
  other_is w at x c fits apart e q = record {
    at = at;
    fits = fits;
    apart = apart;
    child = ap hung_at (e ∙ ap Some q);
    alone = λ k nb na. none k nb na (map.get (children_of n) k) refl;
  }
    where
      none : (k : ℕ) → k ≢ byte → k ≢ at → (o : Option (Child Id P)) → map.get (children_of n) k ≡ o → child_at n k ≡ Nothing
      none k nb na None g = ap hung_at g
      none k nb na (Some y) g = absurd (two_only (children_of n) byte at k (λ z. apart (sym z)) here (subst IsSome (sym e) refl) two nb na (subst IsSome (sym g) refl))

  -- where the first child isn't the one at the byte, it is the other one
  pub first_other : (w : LockWord) (at : ℕ) (x : Child Id P) (c : Id) → at < 256 → at ≢ byte → IsFirst (children_of n) 0 at x → x ≡ Sub c → IsOther (shape n w) byte (id_number c)
  first_other w at x c fits apart one q = other_is w at x c fits apart one.here q

  -- the first child after the one at the byte is the other one
  pub next_other : (w : LockWord) (at : ℕ) (x : Child Id P) (c : Id) → at < 256 → IsFirst (children_of n) (byte + 1) at x → x ≡ Sub c → IsOther (shape n w) byte (id_number c)
  next_other w at x c fits one q = other_is w at x c fits (λ e. (let p = one.past in omega (arith, p, e))) one.here q

  -- a node with two children has a first one
  pub some_first : ((k : ℕ) → 0 ≤ k → map.get (children_of n) k ≡ None) → ⊥
  some_first none = (let z = none byte (omega arith) in let s = here in absurd (cc (s, z)))

  -- where the first child is the one at the byte, another comes after it
  pub some_next : (at : ℕ) (x : Child Id P) → IsFirst (children_of n) 0 at x → at ≡ byte → ((k : ℕ) → byte + 1 ≤ k → map.get (children_of n) k ≡ None) → ⊥
  some_next at x one e none =
      let key = second (children_of n) byte here two in
      elim (cases_lt key.0 at) [
        | inl l ↦ (let z = one.before key.0 (omega arith) l in let s = key.1.1 in absurd (cc (s, z)))
        | inr g ↦ (let z = none key.0 (let a = key.1.0 in let d : byte ≢ key.0 = λ q. a (sym q) in omega (arith, g, e, d)) in let s = key.1.1 in absurd (cc (s, z)))
      ]

-- where no child is a value, neither is the first one from a byte on
pub no_value : {P : Type 0} (n : Form Id P) (from at : ℕ) (x : Child Id P) (v : P) → ((k : ℕ) (u : P) → child_at n k ≡ Holds u → ⊥) → IsFirst (children_of n) from at x → x ≡ Value v → ⊥
no_value n from at x v nodes one e = nodes at v (ap hung_at (one.here ∙ ap Some e))
