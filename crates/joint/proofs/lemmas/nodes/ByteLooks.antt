-- What a look at a byte finds is what a call is to see.
use Rattle.std.proofs.Common.{◌≡◌, ◌≢◌, ℕ, ◌+◌, ◌-◌, ◌<◌, ◌≤◌, List, [], ◌∷◌, length, Option, None, Some, IsSome, refl, sym, ◌∙◌, ap, subst, inl, inr, arith}
use Rattle.std.specs.Prelude.{slice_index}
use Rattle.std.specs.Ordering.{nat_cmp}
use Rattle.std.specs.Cmp.{nat_cmp_total}
use Rattle.std.specs.FinMap as map
use Rattle.std.proofs.lemmas.Bool.{cases_eq, ne_eqb}
use Rattle.congee.specs.declared.forms.child.Child.{Child}
use Rattle.congee.specs.declared.forms.child.Child.TheVariants.{Blank, Node as Sub, Value}
use Rattle.congee.specs.declared.forms.base_node.Node.{Node as Form}
use Rattle.congee.specs.declared.forms.base_node.NodeType.{NodeType}
use Rattle.congee.specs.declared.forms.base_node.NodeType.TheVariants.{N4, N16, N48, N256}
use Rattle.congee.specs.declared.protocol.store.Seen.{Seen}
use Rattle.congee.specs.protocol.Events.{SeenTruly, places}
use Rattle.congee.specs.forms.Forms.{capacity_of, children_of, prefix_of}
use Rattle.congee.specs.Heap.{Nothing}
use Rattle.congee.specs.forms.Places.{AllKeys, Rises}
use Rattle.congee.proofs.Laws.{get_find, all_found, same_is, rises_entries}
use Rattle.joint.specs.declared.id.Id.{Id}
use Rattle.joint.specs.declared.nodes.slot.LockWord.{LockWord}
use Rattle.joint.specs.nodes.Solid.{IsSolid, IsLook}
use Rattle.joint.specs.nodes.View.{id_number, hung_at, child_at, shape}

-- a form has as many places by the protocol as by its capacity
pub places_of : (form : NodeType) → places form ≡ capacity_of form
places_of N4 = refl
places_of N16 = refl
places_of N48 = refl
places_of N256 = refl

module _ {X : Type 0} where
  -- rising keys from one bound to another are no more than the numbers there
  few : (es : List (ℕ × X)) (low high : ℕ) → Rises es → AllKeys (λ k. low ≤ k) es → AllKeys (λ k. k < high) es → low ≤ high → length es + low ≤ high
  few [] low high r a b l = omega (arith, l)
  few ((k, x) ∷ es) low high r a b l = omega (arith, a.0, b.0, few es (k + 1) high r.1 (up es r.0) b.1 (omega (arith, b.0)))
    where
      up : (es : List (ℕ × X)) → AllKeys (λ j. k < j) es → AllKeys (λ j. k + 1 ≤ j) es
      up [] a = tt
      up ((j, y) ∷ es) a = (omega (arith, a.0), up es a.1)

  any : (es : List (ℕ × X)) → AllKeys (λ k. 0 ≤ k) es
  any [] = tt
  any ((k, x) ∷ es) = (omega arith, any es)

  -- a map of bytes has 256 at most
  len_256 : (m : map.FinMap nat_cmp X) → ((b : ℕ) → IsSome (map.get m b) → b < 256) → map.len m ≤ 256
  len_256 m bytes =
      let found : (b : ℕ) → IsSome (map.get m b) → b < 256 = bytes in
      let all : AllKeys (λ b. b < 256) (map.entries m) = all_found (λ b. b < 256) (map.entries m) (λ b s. bytes b (subst IsSome (sym (get_find m b)) s)) in
      omega (arith, map.len-entries m, few (map.entries m) 0 256 (rises_entries m) (any (map.entries m)) all (omega arith))

  -- a map of bytes that lacks one has fewer than 256
  pub lacking : (m : map.FinMap nat_cmp X) (k : ℕ) (x : X) → ((b : ℕ) → IsSome (map.get m b) → b < 256) → k < 256 → map.get m k ≡ None → map.len m < 256
  lacking m k x bytes small none =
      let grown : map.len (map.insert m k x) ≡ map.len m + 1 = map.len-insert nat_cmp_total m k x ∙ rw none refl in
      let more : map.len (map.insert m k x) ≤ 256 = len_256 (map.insert m k x) (λ b s. elim (cases_eq b k) [
        | inl e ↦ omega (arith, e, small)
        | inr ne ↦ bytes b (subst IsSome (map.get-insert nat_cmp_total m k x b ∙ rw (same_is b k, ne_eqb b k ne) refl) s)
      ]) in
      omega (arith, grown, more)

  -- a map of one has nothing else
  pub alone : (m : map.FinMap nat_cmp X) (k : ℕ) → map.len m ≡ 1 → IsSome (map.get m k) → (b : ℕ) → b ≢ k → map.get m b ≡ None
  alone m k one s b ne =
      let less : map.len (map.remove m k) ≡ map.len m - 1 = map.len-remove nat_cmp_total m k ∙ rw s refl in
      let none : map.remove m k ≡ map.empty = map.empty_of_len (map.remove m k) (omega (arith, less, one)) in
      let other : map.get (map.remove m k) b ≡ map.get m b = map.get-remove nat_cmp_total m k b ∙ rw (same_is b k, ne_eqb b k ne) refl in
      sym other ∙ ap (λ n. map.get n b) none ∙ map.get-empty nat_cmp b

module _ {P : Type 0} where
  -- where something hangs at a byte, there is a child
  pub is_some_of_hung : (o : Option (Child Id P)) → hung_at o ≢ Nothing → IsSome o
  is_some_of_hung None ne = absurd (ne refl)
  is_some_of_hung (Some x) ne = refl

  not_there : (o : Option (Child Id P)) → (o ≡ Some Blank → ⊥) → hung_at o ≡ Nothing → o ≡ None
  not_there None solid e = refl
  not_there (Some Blank) solid e = absurd (solid refl)
  not_there (Some (Sub c)) solid e = absurd (cc e)
  not_there (Some (Value v)) solid e = absurd (cc e)

  -- what a look at a key's byte finds of a solid node is true of that node under any lock word
  pub seen_truly : (n : Form Id P) (w : LockWord) (key : List ℕ) (b : ℕ) (s : Seen Id P) → IsSolid (children_of n) → slice_index key (length (prefix_of n)) ≡ b → IsLook n b s → SeenTruly id_number (shape n w) key s
  seen_truly n w key b s solid at look = record {
    child = look.child ∙ ap (child_at n) (sym at);
    count = look.count;
    full = λ e. look.full ∙ rw look.count refl;
    alone = λ one ne k d. rw (alone (children_of n) b one (is_some_of_hung (map.get (children_of n) b) (λ z. ne (look.child ∙ z))) k (λ z. d (z ∙ sym at)));
    room = λ e. lacking (children_of n) b Blank look.bytes look.small (not_there (map.get (children_of n) b) (solid b) (sym look.child ∙ e));
  }
