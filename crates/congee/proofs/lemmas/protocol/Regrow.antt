-- A full node gives way to a greater one: what the change of the node above leaves, and the map after it.
use Rattle.std.proofs.Common.{◌≡◌, ◌≢◌, ℕ, ◌==◌, ◌&&◌, inl, inr, true, false, cond, List, length, get_or, refl, sym, ◌∙◌, ap, subst, arith}
use Rattle.std.specs.Prelude.{None, Some}
use Rattle.congee.specs.Heap.{Node, Nothing, Below, fits, child_for, value_at}
use Rattle.congee.specs.Notes.{Note, Linked, Gone, is_published, IsChild, Tree, LockWords}
use Rattle.congee.specs.protocol.Protocol.{Made, Holding, TakenOut}
use Rattle.congee.proofs.lemmas.Fits.{both_true, and_true, equal_of_test, same_test}
use Rattle.congee.proofs.lemmas.Tree.{same_or_not}
use Rattle.congee.proofs.lemmas.Graft.{on_test}
use Rattle.congee.proofs.lemmas.protocol.Grow.{Grows, Extra, grow_tree, grow_map}
use Rattle.congee.proofs.lemmas.protocol.Touch.{by_test, Touched, as_it_was, moved, touched_effect}
use Rattle.congee.proofs.lemmas.protocol.Change.{Changed, StaysLocked, under_touch, Live, joined, joined_touch, made_apart}

-- the note of a node that the call took out, and still holds locked
abbrev pub out_note : ℕ → ℕ → Note
out_note i p = record { status = Gone; owner = Some i; parent = p }

-- the note of a node that hangs below c now
abbrev pub below_note : Note → ℕ → Note
below_note x c = record { status = x.status; owner = x.owner; parent = c }

-- the notes of all nodes: of c, of d, of m, of the children of m, and of the others
unfoldable pub regrown : (ℕ → Note) → ℕ → ℕ → ℕ → ℕ → ℕ → ℕ → Note
regrown a i p m c d x = cond (x == c) (joined p) (cond (x == d) (joined c) (cond (x == m) (out_note i p)
    (cond (is_published (a x).status && ((a x).parent == m)) (below_note (a x) c) (a x))))

module _ (a : ℕ → Note) (i p m c d : ℕ) where
  -- the greater node is in the tree, below the node above
  pub regrown_new : regrown a i p m c d c ≡ joined p
  unfolding regrown
  regrown_new = rw (same_test c c refl) refl

  -- the new leaf, where there is one, is in the tree, below the greater node
  pub regrown_leaf : d ≢ c → regrown a i p m c d d ≡ joined c
  unfolding regrown
  regrown_leaf ne = by_test (λ (n : Note). n ≡ joined c) (d == c) _ _ (λ q. absurd (ne (equal_of_test d c q))) (λ _. rw (same_test d d refl) refl)

  -- the full node is out of the tree, and still locked by the call
  pub regrown_old : m ≢ c → m ≢ d → regrown a i p m c d m ≡ out_note i p
  unfolding regrown
  regrown_old nc nd = by_test (λ (n : Note). n ≡ out_note i p) (m == c) _ _ (λ q. absurd (nc (equal_of_test m c q)))
      (λ _. by_test (λ (n : Note). n ≡ out_note i p) (m == d) _ _ (λ q. absurd (nd (equal_of_test m d q))) (λ _. rw (same_test m m refl) refl))

  regrown_rest : (x : ℕ) → x ≢ c → x ≢ d → x ≢ m → regrown a i p m c d x ≡ cond (is_published (a x).status && ((a x).parent == m)) (below_note (a x) c) (a x)
  unfolding regrown
  regrown_rest x nc nd nm =
      let P : Note → Type 0 = λ n. n ≡ cond (is_published (a x).status && ((a x).parent == m)) (below_note (a x) c) (a x) in
      by_test P (x == c) _ _ (λ q. absurd (nc (equal_of_test x c q)))
      (λ _. by_test P (x == d) _ _ (λ q. absurd (nd (equal_of_test x d q)))
      (λ _. by_test P (x == m) _ _ (λ q. absurd (nm (equal_of_test x m q))) (λ _. refl)))

  -- each other node has the status that it had
  pub regrown_status : (x : ℕ) → x ≢ c → x ≢ d → x ≢ m → (regrown a i p m c d x).status ≡ (a x).status
  regrown_status x nc nd nm = rw (regrown_rest x nc nd nm) (by_test (λ (n : Note). n.status ≡ (a x).status) (is_published (a x).status && ((a x).parent == m)) _ _ (λ _. refl) (λ _. refl))

  -- each other node's lock is whose it was
  pub regrown_owner : (x : ℕ) → x ≢ c → x ≢ d → x ≢ m → (regrown a i p m c d x).owner ≡ (a x).owner
  regrown_owner x nc nd nm = rw (regrown_rest x nc nd nm) (by_test (λ (n : Note). n.owner ≡ (a x).owner) (is_published (a x).status && ((a x).parent == m)) _ _ (λ _. refl) (λ _. refl))

  -- each other node that didn't hang below the full one hangs where it did
  pub regrown_same : (x : ℕ) → x ≢ c → x ≢ d → x ≢ m → (a x).parent ≢ m → (regrown a i p m c d x).parent ≡ (a x).parent
  regrown_same x nc nd nm ne = rw (regrown_rest x nc nd nm) (by_test (λ (n : Note). n.parent ≡ (a x).parent) (is_published (a x).status && ((a x).parent == m)) _ _
      (λ q. absurd (ne (equal_of_test (a x).parent m (both_true (is_published (a x).status) _ q).1))) (λ _. refl))

  -- each other node in reach that hung below the full one hangs below the greater one
  pub regrown_moved : (x : ℕ) → x ≢ c → x ≢ d → x ≢ m → is_published (a x).status ≡ true → (a x).parent ≡ m → (regrown a i p m c d x).parent ≡ c
  regrown_moved x nc nd nm pu e = rw (regrown_rest x nc nd nm) (by_test (λ (n : Note). n.parent ≡ c) (is_published (a x).status && ((a x).parent == m)) _ _
      (λ _. refl) (λ q. absurd (let z : is_published (a x).status && ((a x).parent == m) ≡ true = and_true _ _ pu (same_test (a x).parent m e) in cc)))

  -- each other node out of reach has the note that it had
  pub regrown_hidden : (x : ℕ) → x ≢ c → x ≢ d → x ≢ m → is_published (a x).status ≡ false → regrown a i p m c d x ≡ a x
  regrown_hidden x nc nd nm pu = rw (regrown_rest x nc nd nm) (by_test (λ (n : Note). n ≡ a x) (is_published (a x).status && ((a x).parent == m)) _ _
      (λ q. absurd (let z : is_published (a x).status ≡ true = (both_true (is_published (a x).status) _ q).0 in cc)) (λ _. refl))

-- the leaf more: none beside the greater node, or another made node
pub data LeafMore {V : Type 0} (i : ℕ) (a : ℕ → Note) (h : ℕ → Node V) (key : List ℕ) (c d : ℕ) (h' : ℕ → Node V) : Type 0 where
  no_leaf : d ≡ c → LeafMore i a h key c d h'
  new_leaf : d ≢ c → Made i a h key d 7 0 → Live (h' d) → LeafMore i a h key c d h'

-- both nodes locked, the greater node filled and hung in the place of the old one
pub record Regrows {V : Type 0} (i : ℕ) (a : ℕ → Note) (h : ℕ → Node V) (key : List ℕ) (p b m c d : ℕ) (v : V) (h' : ℕ → Node V) : Type 0 where
  pub above : Holding i a p
  pub fitted : fits (h p).prefix key ≡ true
  pub hung : child_for (h p) key ≡ Below m
  pub owner : (a m).owner ≡ Some i
  pub fitted_old : fits (h m).prefix key ≡ true
  pub absent : child_for (h m) key ≡ Nothing
  pub size : ℕ
  pub least : ℕ
  pub made : Made i a h key c size least
  pub more : LeafMore i a h key c d h'
  pub same_prefix : (h' c).prefix ≡ (h m).prefix
  pub copied : (y : ℕ) → y ≢ get_or key (length (h m).prefix) 0 → (h' c).children y ≡ (h m).children y
  pub extra : Extra (regrown a i p m c d) h' c d key v
  pub live : Live (h' c)
  pub under_above : StaysLocked i a h (regrown a i p m c d) h' p
  pub under_old : StaysLocked i a h (regrown a i p m c d) h' m
  pub capacity : (h' p).capacity ≡ (h p).capacity
  pub child : (h' p).children (get_or key (length (h p).prefix) 0) ≡ Below c
  pub beside : (y : ℕ) → y ≢ get_or key (length (h p).prefix) 0 → (h' p).children y ≡ (h p).children y
  pub nodes : (x : ℕ) → x ≢ c → x ≢ d → x ≢ p → x ≢ m → h' x ≡ h x

more_unlinked : {V : Type 0} (i : ℕ) (a : ℕ → Note) (h : ℕ → Node V) (key : List ℕ) (c d size least : ℕ) (h' : ℕ → Node V) → Made i a h key c size least → LeafMore i a h key c d h' → (n : ℕ) → is_published (a n).status ≡ true → n ≢ d
more_unlinked i a h key c d size least h' m (no_leaf e) n p q = made_apart i a h key c size least n m p (sym (q ∙ e))
more_unlinked i a h key c d size least h' m (new_leaf ne k l) n p q = made_apart i a h key d 7 0 n k p (sym q)

more_touch : {V : Type 0} (i : ℕ) (a : ℕ → Note) (h : ℕ → Node V) (key : List ℕ) (p m c d : ℕ) (h' : ℕ → Node V) → LeafMore i a h key c d h' → d ≢ c → Touched i a h (regrown a i p m c d) h' d
more_touch i a h key p m c d h' (no_leaf e) ne = absurd (ne e)
more_touch i a h key p m c d h' (new_leaf ne' k l) ne = joined_touch i a h _ h' key d 7 0 c k (regrown_leaf a i p m c d ne) l

-- a full node that gives way to a greater one changes the map at the key alone, and is taken out under its lock
pub regrow_changed : {V : Type 0} (i : ℕ) (a : ℕ → Note) (h : ℕ → Node V) (key : List ℕ) (p b m c d : ℕ) (v : V) (h' : ℕ → Node V)
    → length key ≡ 8 → Tree a h → LockWords a h → Regrows i a h key p b m c d v h'
    → Changed i a h key None (Some v) (regrown a i p m c d) h' × TakenOut i (regrown a i p m c d) h' p m
regrow_changed {V} i a h key p b m c d v h' len t w r =
    let ch : IsChild a h p (get_or key (length (h p).prefix) 0) m = t.down p _ m r.above.linked r.hung in
    let pm : p ≢ m = (λ e. let z : length (h p).prefix ≡ length (h m).prefix = ap (λ y. length (h y).prefix) e in absurd (omega (arith, ch.longer))) in
    let mp : m ≢ p = (λ e. pm (sym e)) in
    let apart_c : (n : ℕ) → is_published (a n).status ≡ true → n ≢ c = λ n q e. made_apart i a h key c r.size r.least n r.made q (sym e) in
    let apart_d : (n : ℕ) → is_published (a n).status ≡ true → n ≢ d = more_unlinked i a h key c d r.size r.least h' r.made r.more in
    let up : is_published (a p).status ≡ true = ap is_published r.above.linked in
    let um : is_published (a m).status ≡ true = ap is_published ch.linked in
    let old : regrown a i p m c d m ≡ out_note i p = regrown_old a i p m c d (apart_c m um) (apart_d m um) in
    let g : Grows a h (regrown a i p m c d) h' p m c d key v = record {
      linked = r.above.linked;
      fitted = r.fitted;
      hung = r.hung;
      fitted_old = r.fitted_old;
      absent = r.absent;
      same_prefix = r.same_prefix;
      copied = r.copied;
      extra = r.extra;
      unlinked = (λ l. apart_c c (ap is_published l) refl);
      unlinked_leaf = (λ l. apart_d d (ap is_published l) refl);
      prefix = r.under_above.prefix;
      prefix_old = r.under_old.prefix;
      child = r.child;
      beside = r.beside;
      joined = rw (regrown_new a i p m c d) refl;
      parent = rw (regrown_new a i p m c d) refl;
      left = (λ l. let z : Gone ≡ Linked = rw old at l in cc);
      notes = λ x nc nd nm. regrown_status a i p m c d x nc nd nm;
      parents_same = λ x nc nd nm ne. regrown_same a i p m c d x nc nd nm ne;
      parents_moved = λ x l e. regrown_moved a i p m c d x (apart_c x (ap is_published l)) (apart_d x (ap is_published l))
          (λ q. mp (sym (let P : ℕ → Type 0 = λ y. (a y).parent ≡ m in subst P q e) ∙ ch.parent)) (ap is_published l) e;
      nodes = r.nodes;
    } in
    let map : (value_at h key ≡ None) × (value_at h' key ≡ Some v) × ((y : List ℕ) → length y ≡ 8 → y ≢ key → value_at h' y ≡ value_at h y) = grow_map a h _ h' p m c d key v len t g in
    let touch : (x : ℕ) → Touched i a h (regrown a i p m c d) h' x = λ x. elim (same_or_not x c) [
      | inl q ↦ (let P : ℕ → Type 0 = λ y. Touched i a h (regrown a i p m c d) h' y in
          subst P (sym q) (joined_touch i a h _ h' key c r.size r.least p r.made (regrown_new a i p m c d) r.live))
      | inr nc ↦ elim (same_or_not x d) [
        | inl q ↦ (let P : ℕ → Type 0 = λ y. Touched i a h (regrown a i p m c d) h' y in
            subst P (sym q) (more_touch i a h key p m c d h' r.more (λ e. nc (q ∙ e))))
        | inr nd ↦ elim (same_or_not x m) [
          | inl q ↦ (let P : ℕ → Type 0 = λ y. Touched i a h (regrown a i p m c d) h' y in subst P (sym q) (under_touch i a h _ h' m w r.under_old))
          | inr nm ↦ elim (same_or_not x p) [
            | inl q ↦ (let P : ℕ → Type 0 = λ y. Touched i a h (regrown a i p m c d) h' y in subst P (sym q) (under_touch i a h _ h' p w r.under_above))
            | inr np ↦ on_test (is_published (a x).status)
                (λ pu. moved (r.nodes x nc nd np nm) pu (regrown_status a i p m c d x nc nd nm) (regrown_owner a i p m c d x nc nd nm))
                (λ pu. as_it_was (r.nodes x nc nd np nm) (regrown_hidden a i p m c d x nc nd nm pu))
          ]
        ]
      ]
    ] in
    let root : (h' 0).capacity ≡ (h 0).capacity = elim (same_or_not 0 p) [
      | inl q ↦ (let P : ℕ → Type 0 = λ y. (h' y).capacity ≡ (h y).capacity in subst P (sym q) r.capacity)
      | inr np ↦ ap (λ z. z.capacity) (r.nodes 0 (apart_c 0 (ap is_published t.root)) (apart_d 0 (ap is_published t.root)) np
          (λ e. let z : length (h 0).prefix ≡ length (h m).prefix = ap (λ y. length (h y).prefix) e in
          let y : length (h 0).prefix ≡ 0 = ap length t.empty in absurd (omega (arith, ch.longer))))
    ] in (
      record {
        effect = touched_effect i a h _ h' w (grow_tree a h _ h' p m c d key v t g) root touch;
        before = map.0;
        after = map.1;
        rest = map.2;
      },
      record {
        above = record {
          owner = regrown_owner a i p m c d p (apart_c p up) (apart_d p up) pm ∙ r.above.owner;
          linked = regrown_status a i p m c d p (apart_c p up) (apart_d p up) pm ∙ r.above.linked;
        };
        owner = rw old refl;
        gone = rw old refl;
        unretired = r.under_old.retired ∙ (w.each m).unretired ch.linked;
      },
    )
