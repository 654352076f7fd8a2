-- A node whose prefix differs from the key gets one above it: what the change leaves, and the map after it.
use Rattle.std.proofs.Common.{◌≡◌, ◌≢◌, ℕ, suc, ◌<◌, ◌≤◌, ◌==◌, inl, inr, true, false, List, [], ◌∷◌, length, get_or, refl, sym, ◌∙◌, ap, subst, arith}
use Rattle.std.specs.Prelude.{None, Some}
use Rattle.congee.specs.Heap.{Node, Below, Holds, fits, child_for, value_at}
use Rattle.congee.specs.protocol.Events.{ChangeGives, Parts}
use Rattle.congee.specs.Notes.{Note, Held, Linked, is_published, IsChild, Tree, LockWords}
use Rattle.congee.specs.protocol.Protocol.{Made, Holding}
use Rattle.congee.proofs.lemmas.Fits.{both_true, and_true, fits_byte}
use Rattle.congee.proofs.lemmas.Tree.{same_or_not}
use Rattle.congee.proofs.lemmas.Graft.{on_test}
use Rattle.congee.proofs.lemmas.Split.{Splits, split_tree, split_map}
use Rattle.congee.proofs.lemmas.protocol.Touch.{noted, noted_same, noted_other, Touched, as_it_was, moved, touched_effect, but_one}
use Rattle.congee.proofs.lemmas.protocol.Change.{Changed, under_touch, under_change, live_made, live_changed, live_same, joined, joined_touch, leaf_filled, leaf_same, made_apart}

-- a prefix that begins another one of the key's bytes as far as they are alike
fits_alike : (p q key : List ℕ) → fits p key ≡ true → length p ≤ length q → ((i : ℕ) → i < length p → get_or q i 0 ≡ get_or key i 0) → fits p q ≡ true
fits_alike [] q key f l e = refl
fits_alike (x ∷ p) [] key f l e = absurd (omega arith)
fits_alike (x ∷ p) (y ∷ q) [] f l e = absurd cc
fits_alike (x ∷ p) (y ∷ q) (z ∷ key) f l e =
    let f' : (x == z ≡ true) × (fits p key ≡ true) = both_true _ _ f in
    let yz : y ≡ z = e 0 (omega arith) in
    and_true _ _ (let P : ℕ → Type 0 = λ w. x == w ≡ true in subst P (sym yz) f'.0) (fits_alike p q key f'.1 (omega arith) (λ i s. e (suc i) (omega arith)))

-- a prefix that parts from the key isn't its beginning
pub parts_differ : (p key : List ℕ) (common : ℕ) → Parts p key common → fits p key ≡ false
parts_differ p key common k = on_test (fits p key) (λ f. absurd (k.apart (sym (fits_byte p key common f k.short)))) (λ f. f)

-- it parts below what both have
parts_below : (q p key : List ℕ) (common : ℕ) → Parts p key common → fits q p ≡ true → fits q key ≡ true → get_or p (length q) 0 ≡ get_or key (length q) 0 → length q < common
parts_below q p key common k f g e = below (length q) common
    (λ lt. k.apart (fits_byte q p common f lt ∙ sym (fits_byte q key common g lt)))
    (λ eq. k.apart (let P : ℕ → Type 0 = λ y. get_or p y 0 ≡ get_or key y 0 in subst P eq e)) where
      below : (m n : ℕ) → (n < m → ⊥) → (m ≡ n → ⊥) → m < n
      below m n f g = omega (arith, g, f)

-- the notes after a split: c hangs below p, d and the old node m below c
unfoldable pub parted : (ℕ → Note) → ℕ → ℕ → ℕ → ℕ → ℕ → Note
parted a p m c d = noted (noted (noted a m (record { status = (a m).status; owner = (a m).owner; parent = c })) d (joined c)) c (joined p)

module _ (a : ℕ → Note) (p m c d : ℕ) where
  parted_above : parted a p m c d c ≡ joined p
  unfolding parted
  parted_above = noted_same _ c _

  parted_leaf : d ≢ c → parted a p m c d d ≡ joined c
  unfolding parted
  parted_leaf ne = noted_other _ c _ d ne ∙ noted_same _ d _

  parted_old : m ≢ c → m ≢ d → parted a p m c d m ≡ record { status = (a m).status; owner = (a m).owner; parent = c }
  unfolding parted
  parted_old nc nd = noted_other _ c _ m nc ∙ (noted_other _ d _ m nd ∙ noted_same a m _)

  parted_rest : (x : ℕ) → x ≢ c → x ≢ d → x ≢ m → parted a p m c d x ≡ a x
  unfolding parted
  parted_rest x nc nd nm = noted_other _ c _ x nc ∙ (noted_other _ d _ x nd ∙ noted_other a m _ x nm)

-- a split changes the map at the key alone, and its call still holds the locks of both nodes
pub split_changed : {V : Type 0} (i : ℕ) (a : ℕ → Note) (h : ℕ → Node V) (key : List ℕ) (p b m c d common byte : ℕ) (v : V) (h1 h2 h3 h' : ℕ → Node V)
    → length key ≡ 8 → Tree a h → LockWords a h → Holding i a p → fits (h p).prefix key ≡ true → b ≡ get_or key (length (h p).prefix) 0 → child_for (h p) key ≡ Below m
    → (a m).owner ≡ Some i → Parts (h m).prefix key common → byte ≡ get_or (h m).prefix common 0 → Made i a h key c common 1 → Made i a h key d 7 0 → c ≢ d
    → ChangeGives h d (get_or key 7 0) (Holds v) h1 → ChangeGives h1 c byte (Below m) h2 → ChangeGives h2 c (get_or key common 0) (Below d) h3 → ChangeGives h3 p b (Below c) h'
    → Changed i a h key None (Some v) (parted a p m c d) h' × Holding i (parted a p m c d) m × Holding i (parted a p m c d) p
split_changed i a h key p b m c d common byte v h1 h2 h3 h' len t w o fit eb hung om parts ebyte mc md cd k1 k2 k3 k4 =
    let ch : IsChild a h p (get_or key (length (h p).prefix) 0) m = t.down p _ m o.linked hung in
    let pm : p ≢ m = (λ e. let z : length (h p).prefix ≡ length (h m).prefix = ap (λ y. length (h y).prefix) e in absurd (omega (arith, ch.longer))) in
    let mp : m ≢ p = (λ e. pm (sym e)) in
    let up : is_published (a p).status ≡ true = ap is_published o.linked in
    let um : is_published (a m).status ≡ true = ap is_published ch.linked in
    let cp : c ≢ p = made_apart i a h key c common 1 p mc up in
    let pc : p ≢ c = (λ e. cp (sym e)) in
    let dp : d ≢ p = made_apart i a h key d 7 0 p md up in
    let pd : p ≢ d = (λ e. dp (sym e)) in
    let cm : m ≢ c = (λ e. made_apart i a h key c common 1 m mc um (sym e)) in
    let dm : m ≢ d = (λ e. made_apart i a h key d 7 0 m md um (sym e)) in
    let dc : d ≢ c = (λ e. cd (sym e)) in
    let p3 : h3 p ≡ h p = k3.others p pc ∙ (k2.others p pc ∙ k1.others p pd) in
    let em : h' m ≡ h m = k4.others m mp ∙ (k3.others m cm ∙ (k2.others m cm ∙ k1.others m dm)) in
    let ec : h' c ≡ h3 c = k4.others c cp in
    let ed : h' d ≡ h1 d = k4.others d dp ∙ (k3.others d dc ∙ k2.others d dc) in
    let c1 : h1 c ≡ h c = k1.others c cd in
    let pre : (h' c).prefix ≡ (h c).prefix = ap (λ z. z.prefix) ec ∙ (k3.prefix ∙ (k2.prefix ∙ ap (λ z. z.prefix) c1)) in
    let size : length (h' c).prefix ≡ common = ap length pre ∙ mc.long in
    let two : byte ≢ get_or key common 0 = (λ e. parts.apart (sym ebyte ∙ e)) in
    let old_at : (h' c).children byte ≡ Below m = ap (λ z. z.children byte) ec ∙ (k3.beside byte two ∙ k2.child) in
    let new_at : (h' c).children (get_or key common 0) ≡ Below d = ap (λ z. z.children (get_or key common 0)) ec ∙ k3.child in
    let s : Splits a h (parted a p m c d) h' p m c d key v = record {
      linked = o.linked;
      fitted = fit;
      hung = hung;
      differs = parts_differ (h m).prefix key common parts;
      over_key = rw pre mc.fitted;
      over_old = fits_alike (h' c).prefix (h m).prefix key (rw pre mc.fitted) (omega (arith, size, parts.short)) (λ y l. parts.alike y (omega (arith, size)));
      longer = rw size (parts_below (h p).prefix (h m).prefix key common parts ch.fitted fit ch.byte);
      shorter = rw size parts.short;
      apart = (λ e. parts.apart (sym (rw size at e)));
      old_child = (let P : ℕ → Type 0 = λ y. (h' c).children y ≡ Below m in subst P (ebyte ∙ ap (λ y. get_or (h m).prefix y 0) (sym size)) old_at);
      new_child = (let P : ℕ → Type 0 = λ y. (h' c).children (get_or key y 0) ≡ Below d in subst P (sym size) new_at);
      empty = λ x nx ny. ap (λ z. z.children x) ec ∙ (k3.beside x (let P : ℕ → Type 0 = λ y. x ≢ get_or key y 0 in subst P size ny)
          ∙ (k2.beside x (λ e. nx (e ∙ (ebyte ∙ ap (λ y. get_or (h m).prefix y 0) (sym size)))) ∙ (ap (λ z. z.children x) c1 ∙ mc.blank x)));
      leaf = leaf_same h1 h' d key v ed (leaf_filled i a h key d v h1 md k1);
      unlinked_above = (λ l. let z : Held i ≡ Linked = sym mc.held ∙ l in cc);
      unlinked_leaf = (λ l. let z : Held i ≡ Linked = sym md.held ∙ l in cc);
      prefix = k4.prefix ∙ ap (λ z. z.prefix) p3;
      child = rw (← eb) k4.child;
      beside = λ x ne. k4.beside x (let P : ℕ → Type 0 = λ y. x ≢ y in subst P (sym eb) ne) ∙ ap (λ z. z.children x) p3;
      joined_above = rw (parted_above a p m c d) refl;
      parent_above = rw (parted_above a p m c d) refl;
      joined_leaf = rw (parted_leaf a p m c d dc) refl;
      parent_leaf = rw (parted_leaf a p m c d dc) refl;
      stays_old = rw (parted_old a p m c d cm dm) ch.linked;
      parent_old = rw (parted_old a p m c d cm dm) refl;
      notes = parted_rest a p m c d;
      nodes = λ x nc nd np. k4.others x np ∙ (k3.others x nc ∙ (k2.others x nc ∙ k1.others x nd));
    } in
    let map : (value_at h key ≡ None) × (value_at h' key ≡ Some v) × ((y : List ℕ) → length y ≡ 8 → y ≢ key → value_at h' y ≡ value_at h y) = split_map a h _ h' p m c d key v len t s in
    let rest_p : parted a p m c d p ≡ a p = parted_rest a p m c d p pc pd pm in
    let touch : (x : ℕ) → Touched i a h (parted a p m c d) h' x = λ x. elim (same_or_not x c) [
      | inl q ↦ (let P : ℕ → Type 0 = λ y. Touched i a h (parted a p m c d) h' y in
          subst P (sym q) (joined_touch i a h _ h' key c common 1 p mc (parted_above a p m c d)
          (live_same (h3 c) (h' c) ec (live_changed h2 c _ _ h3 k3 (live_changed h1 c _ _ h2 k2 (live_same (h c) (h1 c) c1 (live_made i a h key c common 1 mc)))))))
      | inr nc ↦ elim (same_or_not x d) [
        | inl q ↦ (let P : ℕ → Type 0 = λ y. Touched i a h (parted a p m c d) h' y in
            subst P (sym q) (joined_touch i a h _ h' key d 7 0 c md (parted_leaf a p m c d dc) (live_same (h1 d) (h' d) ed (live_changed h d _ _ h1 k1 (live_made i a h key d 7 0 md)))))
        | inr nd ↦ elim (same_or_not x m) [
          | inl q ↦ (let P : ℕ → Type 0 = λ y. Touched i a h (parted a p m c d) h' y in
              subst P (sym q) (moved em um (rw (parted_old a p m c d cm dm) refl) (rw (parted_old a p m c d cm dm) refl)))
          | inr nm ↦ elim (same_or_not x p) [
            | inl q ↦ (let P : ℕ → Type 0 = λ y. Touched i a h (parted a p m c d) h' y in subst P (sym q) (under_touch i a h _ h' p w (under_change i a h _ h3 h' p b (Below c) o rest_p p3 k4)))
            | inr np ↦ as_it_was (s.nodes x nc nd np) (parted_rest a p m c d x nc nd nm)
          ]
        ]
      ]
    ] in
    let root_c : 0 ≢ c = (λ e. made_apart i a h key c common 1 0 mc (ap is_published t.root) (sym e)) in
    let root_d : 0 ≢ d = (λ e. made_apart i a h key d 7 0 0 md (ap is_published t.root) (sym e)) in (
      record {
        effect = touched_effect i a h _ h' w (split_tree a h _ h' p m c d key v t s)
            (but_one (λ y z. y.capacity ≡ z.capacity) h3 h' p (λ y. refl) k4.others k4.capacity 0
            ∙ ap (λ z. z.capacity) (k3.others 0 root_c ∙ (k2.others 0 root_c ∙ k1.others 0 root_d))) touch;
        before = map.0;
        after = map.1;
        rest = map.2;
      },
      record { owner = rw (parted_old a p m c d cm dm) om; linked = rw (parted_old a p m c d cm dm) ch.linked },
      record { owner = rw rest_p o.owner; linked = rw rest_p o.linked },
    )
