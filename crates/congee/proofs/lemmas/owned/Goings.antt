-- What goes with a key's value, by the last node on the key's way and the one above it.
use Rattle.std.proofs.Common.{◌≡◌, ◌≢◌, ℕ, zero, suc, ◌+◌, ◌<◌, ◌≤◌, ◌^◌, inl, inr, Bool, true, false, cond, List, length, get_or, refl, sym, ap, subst, ◌∙◌, arith}
use Rattle.std.specs.Prelude.{Option, None, Some}
use Rattle.std.specs.Option.{option_map}
use Rattle.std.specs.FinMap as map
use Rattle.congee.specs.Heap.{Hung, Nothing, Below, Holds, Node, fits, child_for}
use Rattle.congee.specs.Notes.{Linked, Note, IsChild, HasParent, Tree}
use Rattle.congee.specs.Keys.{key_bytes}
use Rattle.congee.specs.owned.Arena.{Nodes, heap_of, node_of, IsTree, OnWay, Hangs}
use Rattle.congee.specs.owned.Going.{Going, at_leaf, goes_down, goes_at, goes_of, going_by, going_from}
use Rattle.congee.specs.owned.OwnedSteps.{SameNodes}
use Rattle.congee.specs.owned.Place.{Located, EndsAt}
use Rattle.congee.specs.owned.Table.{table}
use Rattle.congee.specs.declared.owned.place.Place.{Place}
use Rattle.congee.specs.declared.owned.place.Spot.{Spot}
use Rattle.congee.specs.declared.owned.place.Spot.TheVariants.{Held, Free, Apart}
use Rattle.congee.proofs.lemmas.Fits.{fits_trans, fits_byte}
use Rattle.congee.proofs.lemmas.Tree.{same_or_not}
use Rattle.congee.proofs.lemmas.owned.Answered.{located_held, located_hangs}
use Rattle.congee.proofs.lemmas.owned.Tables.{table_below}
use Rattle.congee.proofs.lemmas.owned.Ways.{linked_of, is_child}

pick : (b : Bool) (x y : Option Going) → x ≡ y → cond b x None ≡ cond b y None
pick b x y e = ap (λ z. cond b z None) e

module _ {V : Type 0} where
  end_same : (h : ℕ → Node V) (above n : ℕ) (f g : ℕ → Option Going) (x : Hung V) → ((c : ℕ) → x ≡ Below c → f c ≡ g c) → at_leaf h above n f x ≡ at_leaf h above n g x
  end_same h above n f g Nothing e = refl
  end_same h above n f g (Below c) e = e c refl
  end_same h above n f g (Holds v) e = refl

  stable : (a : ℕ → Note) (h : ℕ → Node V) → Tree a h → (f g above n : ℕ) (key : List ℕ) → (a n).status ≡ Linked
      → 8 ≤ f + length (h n).prefix → 8 ≤ g + length (h n).prefix → goes_down h f above n key ≡ goes_down h g above n key
  stable a h t zero g above n key l p q = absurd (omega (arith, t.short n l))
  stable a h t (suc f) zero above n key l p q = absurd (omega (arith, t.short n l))
  stable a h t (suc f) (suc g) above n key l p q =
      pick (fits (h n).prefix key) _ _ (end_same h above n (λ c. goes_down h f n c key) (λ c. goes_down h g n c key) (child_for (h n) key)
      (λ c e. let i : IsChild a h n (get_or key (length (h n).prefix) 0) c = t.down n _ c l e in
      stable a h t f g n c key i.linked (omega (arith, i.longer)) (omega (arith, i.longer))))

  enter : (h : ℕ → Node V) (f above n : ℕ) (key : List ℕ) (x : Hung V) → fits (h n).prefix key ≡ true → child_for (h n) key ≡ x
      → goes_down h (suc f) above n key ≡ at_leaf h above n (λ c. goes_down h f n c key) x
  enter h f above n key x p e = rw (p, e) refl

  lead_up : (a : ℕ → Note) (h : ℕ → Node V) → Tree a h → (p b n up : ℕ) (key : List ℕ) → (a p).status ≡ Linked → (h p).children b ≡ Below n
      → fits (h n).prefix key ≡ true → (fits (h p).prefix key ≡ true → goes_down h 8 0 0 key ≡ goes_down h 8 up p key) → goes_down h 8 0 0 key ≡ goes_down h 8 p n key
  lead_up a h t p b n up key l e f before =
      let i : IsChild a h p b n = t.down p b n l e in
      let g : fits (h p).prefix key ≡ true = fits_trans (h p).prefix (h n).prefix key i.fitted f in
      let same : get_or key (length (h p).prefix) 0 ≡ b = fits_byte (h n).prefix key (length (h p).prefix) f i.longer ∙ i.byte in
      let x : (h p).children (get_or key (length (h p).prefix) 0) ≡ Below n = rw same e in
      before g ∙ (enter h 7 up p key (Below n) g x ∙ stable a h t 7 8 p n key i.linked (omega (arith, i.longer)) (omega arith))

  -- the way of a key leads through each linked node whose prefix it has, from the node that it hangs in
  lead : (a : ℕ → Note) (h : ℕ → Node V) → Tree a h → (d n : ℕ) (key : List ℕ) → length (h n).prefix ≤ d → (a n).status ≡ Linked
      → fits (h n).prefix key ≡ true → n ≢ 0 → goes_down h 8 0 0 key ≡ goes_down h 8 (a n).parent n key
  lead a h t zero n key d l f ne =
      let u : HasParent a h n = t.up n l ne in
      let i : IsChild a h (a n).parent u.byte n = t.down (a n).parent u.byte n u.linked u.holds in absurd (omega (arith, i.longer))
  lead a h t (suc d) n key le l f ne =
      let u : HasParent a h n = t.up n l ne in
      let i : IsChild a h (a n).parent u.byte n = t.down (a n).parent u.byte n u.linked u.holds in
      let small : length (h (a n).parent).prefix ≤ d = omega (arith, i.longer) in
      elim (same_or_not (a n).parent 0) [
        | inl e ↦ lead_up a h t (a n).parent u.byte n 0 key u.linked u.holds f (λ g. ap (λ z. goes_down h 8 0 z key) (sym e))
        | inr np ↦ lead_up a h t (a n).parent u.byte n (a (a n).parent).parent key u.linked u.holds f (λ g. lead a h t d (a n).parent key small u.linked g np)
      ]

  record Led (h : ℕ → Node V) (n : ℕ) (key : List ℕ) : Type 0 where
    up : ℕ
    same : goes_down h 8 0 0 key ≡ goes_down h 8 up n key

  led : (s : Nodes V) (key : List ℕ) (n : ℕ) → IsTree s → OnWay s key n → Led (heap_of s) n key
  led s key n t w = elim (same_or_not n 0) [
    | inl e ↦ record { up = 0; same = ap (λ z. goes_down (heap_of s) 8 0 z key) (sym e) }
    | inr ne ↦ record { up = t.parent n; same = lead _ (heap_of s) t.tree (length (heap_of s n).prefix) n key (omega arith) (linked_of s t.parent n w.stands) w.fitted ne }
  ]

  goes_free : (s : Nodes V) (key : List ℕ) (n : ℕ) → IsTree s → OnWay s key n → child_for (heap_of s n) key ≡ Nothing → goes_at (heap_of s) key ≡ None
  unfolding goes_at
  goes_free s key n t w e = let k = led s key n t w in k.same ∙ enter (heap_of s) 7 k.up n key Nothing w.fitted e

  goes_apart : (s : Nodes V) (key : List ℕ) (n c : ℕ) → IsTree s → OnWay s key n → child_for (heap_of s n) key ≡ Below c → fits (heap_of s c).prefix key ≡ false → goes_at (heap_of s) key ≡ None
  unfolding goes_at
  goes_apart s key n c t w e f = let k = led s key n t w in k.same ∙ (enter (heap_of s) 7 k.up n key (Below c) w.fitted e ∙ rw f refl)

  goes_held : (s : Nodes V) (key : List ℕ) (above n : ℕ) (v : V) → IsTree s → OnWay s key n → Hangs s key above n → child_for (heap_of s n) key ≡ Holds v
      → goes_at (heap_of s) key ≡ Some (going_from (heap_of s) above n)
  unfolding goes_at
  goes_held s key above n v t w h e =
      let i = is_child s t above n key h.way.stands h.child in
      let ne : n ≢ 0 = (λ q. let z : length (heap_of s n).prefix ≡ length (heap_of s 0).prefix = ap (λ y. length (heap_of s y).prefix) q in
      let y : length (heap_of s 0).prefix ≡ 0 = ap length t.tree.empty in absurd (omega (arith, i.longer, z, y))) in
      let k = lead _ (heap_of s) t.tree (length (heap_of s n).prefix) n key (omega arith) (linked_of s t.parent n w.stands) w.fitted ne in
      k ∙ (ap (λ z. goes_down (heap_of s) 8 z n key) i.parent ∙ enter (heap_of s) 7 above n key (Holds v) w.fitted e)

  -- the same by the end of the way
  pub located_goes_free : (s : Nodes V) (key : List ℕ) (p : Place) → IsTree s → Located s key p → p.spot ≡ Free → goes_at (heap_of s) key ≡ None
  located_goes_free s key p t l e =
      let E : Spot → Type 0 = λ x. EndsAt s key p.at x in
      goes_free s key p.at t l.reached.way (subst E e l.ends)

  -- with a key whose place is beside a node with another prefix nothing goes
  pub located_goes_apart : (s : Nodes V) (key : List ℕ) (p : Place) (c : ℕ) → IsTree s → Located s key p → p.spot ≡ Apart c → goes_at (heap_of s) key ≡ None
  located_goes_apart s key p c t l e =
      let E : Spot → Type 0 = λ x. EndsAt s key p.at x in
      let d : EndsAt s key p.at (Apart c) = subst E e l.ends in
      goes_apart s key p.at c t l.reached.way d.0 d.1

  -- with a key that is held goes what its leaf and the node above tell
  pub located_goes_held : (s : Nodes V) (key : List ℕ) (p : Place) → IsTree s → Located s key p → p.spot ≡ Held → goes_at (heap_of s) key ≡ Some (going_from (heap_of s) p.above p.at)
  located_goes_held s key p t l e =
      let h = located_held s key p t l e in
      goes_held s key p.above p.at h.value t l.reached.way (located_hangs s key p t l e) h.holds

  -- what the map of goings has for a key is what goes with it
  pub get_goes : (s : Nodes V) (k : ℕ) → k < 2 ^ 64 → map.get (goes_of s) k ≡ goes_at (heap_of s) (key_bytes k)
  unfolding goes_of
  get_goes s k small = table_below (λ k. goes_at (heap_of s) (key_bytes k)) (2 ^ 64) k small

  -- from nodes that are the same goes the same with each key
  pub same_goes : (s s' : Nodes V) → SameNodes s s' → goes_of s' ≡ goes_of s
  unfolding goes_of
  same_goes s s' e =
      let h : heap_of s' ≡ heap_of s = λ i n. ap node_of (e n) i in
      ap (λ g. table (λ k. goes_at g (key_bytes k)) (2 ^ 64)) h

-- where nothing goes with a value, nothing goes by any answer
pub going_absent : {Y : Type 0} (o : Option Y) (going : Option Going) → going ≡ None → going_by o going ≡ None
going_absent None going e = e
going_absent (Some y) going e = refl

-- what goes by an answer doesn't depend on the value that it gives
pub going_map : {Y Z : Type 0} (f : Y → Z) (o : Option Y) (going : Option Going) → going_by (option_map f o) going ≡ going_by o going
going_map f None going = refl
going_map f (Some y) going = refl
