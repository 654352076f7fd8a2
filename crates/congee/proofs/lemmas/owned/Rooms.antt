-- A node that gets room for one more child.
use Rattle.std.proofs.Common.{◌≡◌, ℕ, ◌+◌, ◌≤◌, true, false, cond, List, [], ◌∷◌, refl, sym, ap, subst, ◌∙◌, arith, inl}
use Rattle.std.specs.Prelude.{Bool, Some, Result, Ok, Err, OnOk, IfErr}
use Rattle.std.specs.Result.{is_ok}
use Rattle.slab.specs.Slab.{get, ContainsKey, HasRoomFor, SameValues}
use Rattle.congee.specs.forms.Forms.{form_of, is_full_of, next_form, size_of}
use Rattle.congee.specs.owned.Arena.{Nodes, heap_of, node_of}
use Rattle.congee.specs.owned.OwnedSteps.{MakesRoom, IsRefusal}
use Rattle.congee.specs.owned.Sizes.{bytes_at, bytes_of}
use Rattle.congee.specs.owned.Stores.{GrowsTo}
use Rattle.congee.specs.owned.Wanted.{AllFit, IsRefusedOf, gain, net, room_for}
use Rattle.congee.specs.declared.allocator.OOMError.{OOMError}
use Rattle.congee.specs.declared.forms.base_node.Node.{Node as Form}
use Rattle.congee.specs.declared.forms.base_node.NodeType.{NodeType}
use Rattle.congee.proofs.lemmas.forms.Grown.{grown_room, grown_wide}
use Rattle.congee.proofs.lemmas.owned.Hangings.{room_set}
use Rattle.congee.proofs.lemmas.owned.Moves.{node_at}
use Rattle.congee.proofs.lemmas.owned.SlotLens.{len_same}
use Rattle.congee.proofs.lemmas.owned.Sizes.{bytes_update}
use Rattle.congee.proofs.lemmas.owned.Wanting.{full_room, roomy_none, grown_by}

-- nodes that are the same leave the same room
pub same_keeps : {P : Type 0} (s s' : Nodes P) → SameValues s s' → s'.capacity ≡ s.capacity → (n : ℕ) → HasRoomFor s n → HasRoomFor s' n
same_keeps s s' e c n r = let l = len_same s s' e in omega (arith, l, c, r)

module _ {P : Type 0} (s : Nodes P) (at : ℕ) (full : Bool) (stands : ContainsKey s at) (is : (x : Form ℕ P) → get s at ≡ Some x → full ≡ is_full_of x) where
  -- a node that isn't full
  pub roomy_now : full ≡ false → (x : Form ℕ P) → get s at ≡ Some x → MakesRoom s s at x
  roomy_now f x e = record { node = x; prefixed = refl; children = refl; form = sym (ap (λ b. cond b (next_form (form_of x)) (form_of x)) (sym (is x e) ∙ f)); room = sym (is x e) ∙ f; wide = λ w. w; updates = record { changed = e; others = λ m ne. refl } }

  roomy_wants : full ≡ false → room_for (heap_of s at) ≡ []
  roomy_wants f =
      let n = node_at s at stands in
      ap (λ o. room_for (node_of o)) n.1 ∙ roomy_none n.0 (sym (is n.0 n.1) ∙ f)

  -- a node that isn't full makes no other for its room, which fits any limit
  pub roomy_fits : (charged limit : ℕ) → full ≡ false → AllFit (room_for (heap_of s at)) charged limit
  roomy_fits charged limit f = let Q : List ℕ → Type 0 = λ w. AllFit w charged limit in subst Q (sym (roomy_wants f)) tt

  -- for the room of a node that isn't full the sizes grow by nothing
  pub roomy_gain : full ≡ false → bytes_of s ≡ bytes_of s + gain (room_for (heap_of s at))
  roomy_gain f = let g : gain (room_for (heap_of s at)) ≡ 0 = ap gain (roomy_wants f) in omega (arith, g)

  -- a full one
  module _ (f : full ≡ true) (form : NodeType) (form_is : (x : Form ℕ P) → get s at ≡ Some x → form ≡ form_of x) where
    full_wants : room_for (heap_of s at) ≡ size_of (next_form form) ∷ []
    full_wants =
        let n = node_at s at stands in
        let z : form_of n.0 ≡ form = sym (form_is n.0 n.1) in
        ap (λ o. room_for (node_of o)) n.1 ∙ (full_room n.0 (sym (is n.0 n.1) ∙ f) ∙ ap (λ t. size_of (next_form t) ∷ []) z)

    -- a full node makes one of the next form, which fits where the form's size does
    pub full_fits : (charged size limit : ℕ) → size ≡ size_of (next_form form) → charged + size ≤ limit → AllFit (room_for (heap_of s at)) charged limit
    full_fits charged size limit z l =
        let Q : List ℕ → Type 0 = λ w. AllFit w charged limit in
        subst Q (sym full_wants) (omega (arith, l, z), tt)

    -- room in a full node is refused as a node of the next form's size is
    pub full_refused : (charged size limit : ℕ) (e : OOMError) → size ≡ size_of (next_form form) → IsRefusal charged size limit e → IsRefusedOf (room_for (heap_of s at)) charged limit e
    full_refused charged size limit e z r =
        let Q : List ℕ → Type 0 = λ w. IsRefusedOf w charged limit e in
        let R : ℕ → Type 0 = λ w. IsRefusal charged w limit e in
        subst Q (sym full_wants) (inl (subst R z r))

    module _ (s' : Nodes P) (capacity : s'.capacity ≡ s.capacity) (grows : (x : Form ℕ P) → get s at ≡ Some x → GrowsTo s s' at x) where
      -- a full node that took its next form got room
      pub grown_now : (x : Form ℕ P) → get s at ≡ Some x → MakesRoom s s' at x
      grown_now x e =
          let k = grows x e in
          record { node = k.node; prefixed = k.prefix; children = k.children; form = k.form ∙ sym (ap (λ b. cond b (next_form (form_of x)) (form_of x)) (sym (is x e) ∙ f)); room = grown_room x k.node k.form k.children (sym (is x e) ∙ f); wide = grown_wide x k.node k.form; updates = k.updates }

      -- a full node that took its next form changes the sizes by those of the two forms
      pub grown_bytes : bytes_of s' + size_of form ≡ bytes_of s + size_of (next_form form)
      grown_bytes =
          let n = node_at s at stands in
          let k = grows n.0 n.1 in
          let z : form_of n.0 ≡ form = sym (form_is n.0 n.1) in
          let u = bytes_update s s' at (Some k.node) k.updates in
          let a : bytes_at (get s at) ≡ size_of form = ap bytes_at n.1 ∙ ap size_of z in
          let b : bytes_at (Some k.node) ≡ size_of (next_form form) = ap size_of k.form ∙ ap (λ t. size_of (next_form t)) z in
          omega (arith, u, a, b)

      -- the sizes grow by what room in a full node was told to take
      pub grown_gain : bytes_of s' ≡ bytes_of s + gain (room_for (heap_of s at))
      grown_gain =
          let n = node_at s at stands in
          let z : form_of n.0 ≡ form = sym (form_is n.0 n.1) in
          let g : gain (room_for (heap_of s at)) ≡ net (size_of (next_form form)) + 0 = ap gain full_wants in
          let h : size_of form + net (size_of (next_form form)) ≡ size_of (next_form form) = subst (λ t. size_of t + net (size_of (next_form t)) ≡ size_of (next_form t)) z (grown_by n.0 (sym (is n.0 n.1) ∙ f)) in
          let b = grown_bytes in
          omega (arith, g, h, b)

      -- a full node that took its next form leaves room for as many further nodes
      pub grown_keeps : (n : ℕ) → HasRoomFor s n → HasRoomFor s' n
      grown_keeps m r =
          let n = node_at s at stands in
          let k = grows n.0 n.1 in
          room_set s s' at m n.0 k.node n.1 k.updates capacity r

-- what a result tells, by which it is
pub of_ok : {T E A : Type 0} (r : Result T E) → is_ok r ≡ true → OnOk r A → A
of_ok (Ok x) e a = a
of_ok (Err x) e a = absurd (cc)

-- what follows from what is told of an error is told of it too
pub err_in : {T E : Type 0} (A B : E → Type 0) (r : Result T E) → ((e : E) → A e → B e) → IfErr r A → IfErr r B
err_in A B (Ok x) f a = a
err_in A B (Err e) f a = f e a
