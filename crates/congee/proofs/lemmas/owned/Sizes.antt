-- The room that the nodes take, after a change of one of them.
use Rattle.std.proofs.Common.{◌≡◌, ◌≢◌, ℕ, zero, suc, ◌+◌, ◌≤◌, List, [], ◌∷◌, length, get_or, refl, sym, ap, ◌∙◌, arith}
use Rattle.std.specs.Prelude.{Option, None, Some}
use Rattle.slab.specs.Slab.{get, Updates}
use Rattle.congee.proofs.lemmas.owned.Totals.{total, total_first, total_beyond, sum_same}
use Rattle.congee.specs.forms.Forms.{form_of, size_of}
use Rattle.congee.specs.owned.Arena.{Nodes}
use Rattle.congee.specs.owned.Sizes.{bytes_at, bytes_in, bytes_of}
use Rattle.congee.specs.owned.OwnedSteps.{Sets, Makes, SameNodes}
use Rattle.congee.specs.declared.forms.base_node.Node.{Node}

module _ {P : Type 0} where
  bytes_in_same : (xs ys : List (Option (Node ℕ P))) → ((j : ℕ) → get_or ys j None ≡ get_or xs j None) → bytes_in ys ≡ bytes_in xs
  bytes_in_same = sum_same bytes_at bytes_in refl refl (λ x xs. refl)

  bytes_in_update : (xs ys : List (Option (Node ℕ P))) (at : ℕ) → ((j : ℕ) → j ≢ at → get_or ys j None ≡ get_or xs j None)
      → bytes_in ys + bytes_at (get_or xs at None) ≡ bytes_in xs + bytes_at (get_or ys at None)
  bytes_in_update [] [] at e = refl
  bytes_in_update [] (y ∷ ys) zero e =
      let r : bytes_in ys ≡ 0 = bytes_in_same [] ys (λ j. e (suc j) (omega arith)) in
      omega (arith, r)
  bytes_in_update [] (y ∷ ys) (suc at) e =
      let h : bytes_at y ≡ 0 = ap bytes_at (e 0 (omega arith)) in
      let r : bytes_in ys + 0 ≡ 0 + bytes_at (get_or ys at None) = bytes_in_update [] ys at (λ j ne. e (suc j) (omega (arith, ne))) in
      omega (arith, h, r)
  bytes_in_update (x ∷ xs) [] zero e =
      let r : 0 ≡ bytes_in xs = bytes_in_same xs [] (λ j. e (suc j) (omega arith)) in
      omega (arith, r)
  bytes_in_update (x ∷ xs) [] (suc at) e =
      let h : 0 ≡ bytes_at x = ap bytes_at (e 0 (omega arith)) in
      let r : 0 + bytes_at (get_or xs at None) ≡ bytes_in xs + 0 = bytes_in_update xs [] at (λ j ne. e (suc j) (omega (arith, ne))) in
      omega (arith, h, r)
  bytes_in_update (x ∷ xs) (y ∷ ys) zero e =
      let r : bytes_in ys ≡ bytes_in xs = bytes_in_same xs ys (λ j. e (suc j) (omega arith)) in
      omega (arith, r)
  bytes_in_update (x ∷ xs) (y ∷ ys) (suc at) e =
      let h : bytes_at y ≡ bytes_at x = ap bytes_at (e 0 (omega arith)) in
      let r : bytes_in ys + bytes_at (get_or xs at None) ≡ bytes_in xs + bytes_at (get_or ys at None) = bytes_in_update xs ys at (λ j ne. e (suc j) (omega (arith, ne))) in
      omega (arith, h, r)

  -- nodes that are the same take the same room
  pub bytes_same : (s s' : Nodes P) → SameNodes s s' → bytes_of s' ≡ bytes_of s
  bytes_same s s' e = bytes_in_same s.slots s'.slots e

  -- another node under a name changes the sizes by those of both
  pub bytes_update : (s s' : Nodes P) (at : ℕ) (o : Option (Node ℕ P)) → Updates s s' at o → bytes_of s' + bytes_at (get s at) ≡ bytes_of s + bytes_at o
  bytes_update s s' at o u =
      let r : bytes_of s' + bytes_at (get s at) ≡ bytes_of s + bytes_at (get s' at) = bytes_in_update s.slots s'.slots at u.others in
      r ∙ ap (λ z. bytes_of s + bytes_at z) u.changed

  -- a node that gets other children takes the same room
  pub sets_bytes : (s s' : Nodes P) (at : ℕ) (x : Node ℕ P) (m : _) → get s at ≡ Some x → Sets s s' at x m → bytes_of s' ≡ bytes_of s
  sets_bytes s s' at x m e k =
      let u : bytes_of s' + bytes_at (get s at) ≡ bytes_of s + bytes_at (Some k.node) = bytes_update s s' at (Some k.node) k.updates in
      let b : bytes_at (get s at) ≡ size_of (form_of x) = ap bytes_at e in
      let f : size_of (form_of k.node) ≡ size_of (form_of x) = ap size_of k.becomes.form in
      omega (arith, u, b, f)

  -- a least node that comes in takes 64 bytes more
  pub makes_bytes : (s s' : Nodes P) (name : ℕ) (p : List ℕ) → Makes s s' name p → bytes_of s' ≡ bytes_of s + 64
  makes_bytes s s' name p k =
      let u : bytes_of s' + bytes_at (get s name) ≡ bytes_of s + bytes_at (Some k.node) = bytes_update s s' name (Some k.node) k.updates in
      let b : bytes_at (get s name) ≡ 0 = ap bytes_at k.vacant in
      let f : size_of (form_of k.node) ≡ 64 = ap size_of k.form in
      omega (arith, u, b, f)

  -- the sizes by name
  pub bytes_total : (xs : List (Option (Node ℕ P))) → bytes_in xs ≡ total (λ n. bytes_at (get_or xs n None)) (length xs)
  unfolding total
  bytes_total [] = refl
  bytes_total (x ∷ xs) = ap (λ n. bytes_at x + n) (bytes_total xs) ∙ sym (total_first (λ n. bytes_at (get_or (x ∷ xs) n None)) (length xs))

  -- nothing stands past the slots
  pub past_slots : (s : Nodes P) (n : ℕ) → length s.slots ≤ n → get s n ≡ None
  past_slots s n l = of s.slots n l
    where
      of : (xs : List (Option (Node ℕ P))) (n : ℕ) → length xs ≤ n → get_or xs n None ≡ None
      of [] n l = refl
      of (x ∷ xs) zero l = absurd (omega (arith, l))
      of (x ∷ xs) (suc n) l = of xs n (omega (arith, l))

  -- the sizes of the nodes are those of the names below any bound past the slots
  pub bytes_named : (s : Nodes P) (bound : ℕ) → length s.slots ≤ bound → bytes_of s ≡ total (λ n. bytes_at (get s n)) bound
  bytes_named s bound l = bytes_total s.slots ∙ sym (total_beyond (λ n. bytes_at (get s n)) (length s.slots) bound l (λ i h. ap bytes_at (past_slots s i h)))
