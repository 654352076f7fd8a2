-- The entries of an inner node with a prefix, and the pairs below them.
use Rattle.std.proofs.Common.{◌≡◌, ℕ, zero, suc, Bool, false, true, ◌<◌, ◌≤◌, ◌+◌, ◌*◌, ◌^◌, List, [], ◌∷◌, ◌++◌, length, get_or, drop, inl, inr, None, refl, sym, ap, subst, ◌∙◌, arith}
use Rattle.std.specs.Prelude.{Option, Some, IsSome}
use Rattle.std.specs.Ordering.{nat_cmp}
use Rattle.std.specs.FinMap as map
use Rattle.std.proofs.lemmas.Bool.{cases_lt}
use Rattle.std.proofs.lemmas.List.{drop_all, drop_more, length-drop}
use Rattle.slab.specs.Slab.{get, ContainsKey}
use Rattle.congee.specs.Keys.{key_bytes}
use Rattle.congee.specs.forms.Bytes.{IsFirst, Lists}
use Rattle.congee.specs.forms.Forms.{children_of, prefix_of}
use Rattle.congee.specs.forms.Mapped.{mapped}
use Rattle.congee.specs.forms.Places.{IsSorted, sorted_map}
use Rattle.congee.specs.owned.Arena.{Nodes, IsTree, heap_of}
use Rattle.congee.specs.owned.Entries.{child_by, entries_in, first_byte, leaf_by, node_by}
use Rattle.congee.specs.owned.Naming.{offset_of}
use Rattle.congee.specs.owned.Rows.{AreEntries, IsRow, SeesEntries, SeesEntry, SeesList, SeesRow}
use Rattle.congee.specs.owned.Sights.{SeesInner}
use Rattle.congee.specs.owned.Slots.{inner_child}
use Rattle.congee.specs.owned.Writes.{Remains, WritesByte, WritesMore, WritesNode}
use Rattle.congee.specs.declared.forms.base_node.Node.{Node}
use Rattle.congee.specs.declared.forms.child.Child.TheVariants.{Node as SubChild}
use Rattle.congee.specs.declared.owned.entries.Entry.{Entry}
use Rattle.congee.specs.declared.owned.entries.Entry.TheVariants.{Blank, Node as Sub, Leaf}
use Rattle.congee.specs.declared.owned.entries.Tail.{Tail}
use Rattle.congee.specs.declared.owned.inner.Row.{Row}
use Rattle.congee.specs.declared.owned.inner.Row.TheVariants.{Few, Wide}
use Rattle.congee.specs.declared.owned.inline_leaf.Lone.{Lone}
use Rattle.congee.specs.declared.owned.places.Places.{Places}
use Rattle.congee.specs.declared.owned.sight.Stem.{Stem}
use Rattle.congee.specs.declared.owned.writing.Written.{Written}
use Rattle.congee.proofs.lemmas.forms.MappedLemmas.{first_mapped, none_mapped}
use Rattle.congee.proofs.lemmas.forms.SortedLemmas.{IsPlaceOf, is_byte, is_first, none_from}
use Rattle.congee.proofs.lemmas.owned.Cursors.{child_there, nothing_blank, branch_at}
use Rattle.congee.proofs.lemmas.owned.Entering.{children_at, prefix_at}
use Rattle.congee.proofs.lemmas.forms.Ranks.{rising_of}
use Rattle.congee.proofs.lemmas.owned.Sights.{inline_found, inner_first, inner_last}
use Rattle.congee.proofs.lemmas.owned.Standing.{standing_at}
use Rattle.congee.proofs.lemmas.owned.Surveys.{child_stands}
use Rattle.congee.proofs.lemmas.owned.Writings.{SoFar, Wrote, WritesPair, filled_more, fills_nothing, fills_one, so_far_on, sets_out, wrote_leaf, wrote_node}

-- children in the order of their bytes, from a place on
module _ {X : Type 0} {ks : List ℕ} {ys : List X} (ok : IsSorted ks ys) where
  next_place : (p : ℕ) → p < length ks → IsPlaceOf (get_or ks p 0 + 1) (p + 1) ks
  next_place p there = record {
    within = omega (arith, there);
    below = λ i l. elim (cases_lt i p) [
      | inl less ↦ (let r = rising_of ks ys ok.same ok.rises i p less there in omega (arith, r))
      | inr more ↦ (let q : i ≡ p = omega (arith, l, more) in rw q (omega arith))
    ];
    at = λ l. (let r = rising_of ks ys ok.same ok.rises p (p + 1) (omega arith) l in omega (arith, r));
  }

  lists_more : (from p : ℕ) → IsPlaceOf from p ks → p < length ks → Lists (sorted_map ks ys) (get_or ks p 0 + 1) (drop (p + 1) ys) → Lists (sorted_map ks ys) from (drop p ys)
  lists_more from p s there rest = of (drop p ys) refl
    where
      of : (zs : List X) → drop p ys ≡ zs → Lists (sorted_map ks ys) from (drop p ys)
      of [] q = absurd (omega (arith, length-drop p ys, ap length q, ok.same, there))
      of (d ∷ r) q =
          let first = is_first ok from p d s there in
          let low = is_byte ok (get_or ks p 0) (subst IsSome (sym first.here) refl) in
          subst (Lists (sorted_map ks ys) from) (sym (drop_more ys p d (omega (arith, there, ok.same)))) (get_or ks p 0, low, first, rest)

  -- children from a byte's place on are those from the byte on, in order
  pub lists_from : (n from p : ℕ) → IsPlaceOf from p ks → p + n ≡ length ks → Lists (sorted_map ks ys) from (drop p ys)
  lists_from zero from p s e = subst (Lists (sorted_map ks ys) from) (sym (drop_all p ys (omega (arith, e, ok.same)))) (none_from ok from p s (omega (arith, e)))
  lists_from (suc n) from p s e =
      let there : p < length ks = omega (arith, e) in
      lists_more from p s there (lists_from n (get_or ks p 0 + 1) (p + 1) (next_place p there) (omega (arith, e)))

module _ {X : Type 0} (m : map.FinMap nat_cmp X) (byte i : ℕ) (xs : List X) (l : Lists m byte (drop i xs)) where
  list_next : (x : X) → i < length xs → x ≡ get_or xs i x → (b : ℕ) × (b < 256) × IsFirst m byte b x × Lists m (b + 1) (drop (i + 1) xs)
  list_next x h e =
      let z : drop i xs ≡ x ∷ drop (i + 1) xs = drop_more xs i x h ∙ ap (λ y. y ∷ drop (i + 1) xs) (sym e) in
      subst (Lists m byte) z l

  -- past the last child of a list from a byte on there is none
  pub list_end : length xs ≤ i → (b : ℕ) → byte ≤ b → map.get m b ≡ None
  list_end h = subst (Lists m byte) (drop_all i xs h) l

begins_with : (bytes : List ℕ) (first : ℕ) → (length bytes ≡ 0 → ⊥) → first ≡ get_or bytes 0 0 → (rest : List ℕ) × (bytes ≡ first ∷ rest)
begins_with [] first some e = absurd (some refl)
begins_with (x ∷ rest) first some e = (rest, ap (λ y. y ∷ rest) (sym e))

-- a name without a byte is its slot's first one
pub name_at : (at slot : ℕ) (byte : Option ℕ) → 257 * slot + offset_of byte ≡ at → byte ≡ None → 257 * slot ≡ at
name_at at slot byte name e =
    let z : 257 * slot ≡ 257 * slot + offset_of None = omega arith in
    z ∙ (ap (λ b. 257 * slot + offset_of b) (sym e) ∙ name)

module _ {P : Type 0} where
  -- the entries of a node's places
  pub row_at : (prefix : List ℕ) (places : Places P) (n : Node ℕ (Lone P)) → node_by prefix places ≡ n → AreEntries n (entries_in places)
  row_at prefix places n e = sym (children_at prefix places n e) ∙ ap (λ q. mapped (child_by q) (entries_in places)) (sym (prefix_at prefix places n e))

  -- an inner node with a prefix, as it was read
  module _ (s : Nodes P) (at slot first : ℕ) (n : Node ℕ (Lone P)) (sees : SeesInner s at slot n) (name : 257 * slot ≡ at)
      (prefix : List ℕ) (e : prefix ≡ prefix_of n) (some : length prefix ≡ 0 → ⊥) (is : first ≡ get_or prefix 0 0) where
    sees_entries : (entries : map.FinMap nat_cmp (Entry P)) → AreEntries n entries → SeesEntries s (record { slot = slot; first = first }) entries
    sees_entries entries are =
        let b = begins_with prefix first some is in
        record {
          node = n;
          sees = subst (λ m. SeesInner s m slot n) (sym name) sees;
          rest = b.0;
          prefix = sym e ∙ b.1;
          children = are;
        }

    -- the row that was read of the node is that of its stem
    pub sees_row : (from : ℕ) (row : Row P) → IsRow n from row → SeesRow s (record { slot = slot; first = first }) from row
    sees_row from (Few list) r = (record { entries = r.0; sees = sees_entries r.0 r.1; from = from; lists = r.2 }, refl)
    sees_row from (Wide form) r = sees_entries form.now r

module _ {P : Type 0} (s : Nodes P) (stem : Stem) (entries : map.FinMap nat_cmp (Entry P)) (sees : SeesEntries s stem entries) where
  stem_stands : ContainsKey s (257 * stem.slot)
  stem_stands = subst IsSome (sym sees.sees.is) refl

  -- an entry, as a child of the slot's node
  entry_here : (from b : ℕ) (e : Entry P) → IsFirst entries from b e → IsFirst (children_of sees.node) from b (child_by (prefix_of sees.node) b e)
  entry_here from b e f = subst (λ m. IsFirst m from b (child_by (prefix_of sees.node) b e)) (sym sees.children) (first_mapped (child_by (prefix_of sees.node)) entries from b e f)

  -- and of the tree's
  entry_first : (from b : ℕ) (e : Entry P) → IsFirst entries from b e → (x : Node ℕ P) → get s (257 * stem.slot) ≡ Some x
      → IsFirst (children_of x) from b (inner_child stem.slot b (child_by (prefix_of sees.node) b e))
  entry_first from b e f x is = inner_first s (257 * stem.slot) from x is stem.slot sees.node sees.sees b (child_by (prefix_of sees.node) b e) (entry_here from b e f)

  -- where the entries have none from a byte on, the node has no child there for the tree
  pub entry_last : (from : ℕ) → ((b : ℕ) → from ≤ b → map.get entries b ≡ None) → (x : Node ℕ P) → get s (257 * stem.slot) ≡ Some x
      → (b : ℕ) → from ≤ b → map.get (children_of x) b ≡ None
  entry_last from none x is = inner_last s (257 * stem.slot) from x is stem.slot sees.node sees.sees
      (λ b l. ap (λ m. map.get m b) sees.children ∙ none_mapped (child_by (prefix_of sees.node)) entries b (none b l))

  leaf_first_byte : (b : ℕ) → first_byte (prefix_of sees.node) b ≡ stem.first
  leaf_first_byte b = ap (λ q. first_byte q b) sees.prefix

module _ {P : Type 0} (s : Nodes P) (t : IsTree s) (stem : Stem) (entry : Entry P) (h : SeesEntry s stem entry) where
  stands : ContainsKey s (257 * stem.slot)
  stands = stem_stands s stem h.entries h.sees

  there : (e : Entry P) → entry ≡ e → (x : Node ℕ P) → get s (257 * stem.slot) ≡ Some x → IsFirst (children_of x) h.from h.byte (inner_child stem.slot h.byte (child_by (prefix_of h.sees.node) h.byte e))
  there e is = entry_first s stem h.entries h.sees h.from h.byte e (subst (λ y. IsFirst h.entries h.from h.byte y) is h.first)

  -- an entry that is the first from a byte on isn't blank
  pub entry_filled : entry ≡ Blank → ⊥
  entry_filled is =
      let x = standing_at s (257 * stem.slot) stands in
      nothing_blank s t (257 * stem.slot) h.byte stands
      (child_there s (257 * stem.slot) h.byte x.node _ _ x.is (there Blank is x.node x.is).here refl)

  -- a node in an entry stands, with a longer prefix than the one above, of seven bytes at most
  pub entry_below : (below : ℕ) → entry ≡ Sub below
      → ContainsKey s (257 * below) × ((length (heap_of s (257 * stem.slot)).prefix < length (heap_of s (257 * below)).prefix) × (length (heap_of s (257 * below)).prefix ≤ 7))
  entry_below below is =
      let x = standing_at s (257 * stem.slot) stands in
      child_stands s (257 * stem.slot) x.node h.from h.byte (SubChild (257 * below)) (257 * below) t stands x.is (there (Sub below) is x.node x.is) refl

  module _ {E : Type 0} (put : ℕ → P → E) (last count : ℕ) (out : List E) (within : count ≤ length out) where
    -- where an entry is a leaf, its pair, written, is what hangs under the byte, written
    pub entry_leaf : (tail : Tail) (value : P) (key : ℕ) → entry ≡ Leaf tail value → key_bytes key ≡ stem.first ∷ tail.bytes → key < 2 ^ 64
        → (new : List E) (w : Written) → WritesPair s put last key value count out new w → WritesByte s put last (257 * stem.slot) h.from h.byte count out new w
    entry_leaf tail value key is bytes large new w p =
        let lone = leaf_by (first_byte (prefix_of h.sees.node) h.byte) tail value in
        let here = entry_here s stem h.entries h.sees h.from h.byte (Leaf tail value) (subst (λ y. IsFirst h.entries h.from h.byte y) is h.first) in
        let same : lone.key ≡ key_bytes key = ap (λ f. f ∷ tail.bytes) (leaf_first_byte s stem h.entries h.sees h.byte) ∙ sym bytes in
        let leaf = inline_found s (257 * stem.slot) stem.slot h.byte key h.sees.node lone h.sees.sees h.low here.here same in
        (wrote_leaf s put last t (257 * stem.slot) h.from count out h.from count out (sets_out s put last (257 * stem.slot) h.from count out within) h.byte h.low
        key (257 * stem.slot + (h.byte + 1)) value large (there (Leaf tail value) is) leaf new w p).on

    -- where an entry is a node, the pairs below it, written, are what hangs under the byte, written
    pub entry_node : (below : ℕ) → entry ≡ Sub below → (new : List E) (w : Written) → WritesMore count out new w → WritesNode s put last (257 * below) 0 count out new w
        → WritesByte s put last (257 * stem.slot) h.from h.byte count out new w
    entry_node below is new w f writes =
        (wrote_node s put last t (257 * stem.slot) h.from count out h.from count out (sets_out s put last (257 * stem.slot) h.from count out within) h.byte h.low
        (257 * below) (there (Sub below) is) new w f writes).on

-- what a pair does to the slice
pub pair_fills : {P E : Type 0} (s : Nodes P) (put : ℕ → P → E) (last key : ℕ) (value : P) (count : ℕ) (out new : List E) (w : Written) → count ≤ length out
    → WritesPair s put last key value count out new w → WritesMore count out new w
pair_fills s put last key value count out new w within p = of w.over refl
  where
    of : (b : Bool) → w.over ≡ b → WritesMore count out new w
    of true e = fills_nothing count out new w within (p.over e)
    of false e = fills_one count (put key value) out new w (p.written e)

-- the pairs under one byte more are written
module _ {P E : Type 0} (s : Nodes P) (put : ℕ → P → E) (last : ℕ) (t : IsTree s) where
  -- what was written up to a byte, and then of the byte, is written up to and with that byte
  pub wrote_byte : (at start first : ℕ) (old : List E) (byte count : ℕ) (out : List E) → SoFar s put last at start first old byte count out
      → (b : ℕ) (new : List E) (w : Written) → WritesMore count out new w → WritesByte s put last at byte b count out new w → Wrote s put last t at start first old b new w
  wrote_byte at start first old byte count out so b new w f writes = record {
    filled = filled_more first count old out new w so.filled f;
    on = λ above from way here.
        let o = so.on above from way here in
        let r = writes above o.rest.from o.way o.rest.at in
        (r.0, subst (Remains s put last (above ++ branch_at at (b + 1) ∷ []) new w) o.rest.pairs r.1);
  }

-- the pairs below the first entries of a list are written
module _ {P E : Type 0} (s : Nodes P) (put : ℕ → P → E) (last : ℕ) (stem : Stem) (list : List (Entry P)) where
  -- the pairs of a list's first entries are written
  pub record ListSoFar (seen : SeesList s stem list) (first : ℕ) (old : List E) (i count : ℕ) (new : List E) : Type 0 where
    pub byte : ℕ
    pub rest : Lists seen.entries byte (drop i list)
    pub so : SoFar s put last (257 * stem.slot) seen.from first old byte count new

  module _ (seen : SeesList s stem list) (first : ℕ) (old : List E) where
    module _ (i count : ℕ) (new : List E) (l : ListSoFar seen first old i count new) (entry : Entry P) (h : i < length list) (e : entry ≡ get_or list i entry) where
      -- the next entry of the list hangs in the node
      pub list_hangs : SeesEntry s stem entry
      list_hangs =
          let n = list_next seen.entries l.byte i list l.rest entry h e in
          record { entries = seen.entries; sees = seen.sees; from = l.byte; byte = n.0; low = n.1; first = n.2 }

      -- with the pairs below one entry more
      pub record ListWrote (t : IsTree s) (after : List E) (w : Written) : Type 0 where
        pub byte : ℕ
        pub rest : Lists seen.entries (byte + 1) (drop (i + 1) list)
        pub wrote : Wrote s put last t (257 * stem.slot) seen.from first old byte after w

      -- what was written of the next entry, after those before it, is what was written of the list with it
      pub list_wrote : (t : IsTree s) (after : List E) (w : Written) → WritesMore count new after w
          → ((h : SeesEntry s stem entry) → WritesByte s put last (257 * stem.slot) h.from h.byte count new after w) → ListWrote t after w
      list_wrote t after w f writes =
          let n = list_next seen.entries l.byte i list l.rest entry h e in
          let hangs : SeesEntry s stem entry = record { entries = seen.entries; sees = seen.sees; from = l.byte; byte = n.0; low = n.1; first = n.2 } in
          record {
            byte = n.0;
            rest = n.3;
            wrote = wrote_byte s put last t (257 * stem.slot) seen.from first old l.byte count new l.so n.0 after w f (writes hangs);
          }

      -- where what was written with the next entry isn't over, the pairs of so many entries are written
      pub list_on : (t : IsTree s) (after : List E) (w : Written) → ListWrote t after w → w.over ≡ false → ListSoFar seen first old (i + 1) w.count after
      list_on t after w d o = record {
        byte = d.byte + 1;
        rest = d.rest;
        so = so_far_on s put last t (257 * stem.slot) seen.from first old d.byte after w d.wrote o;
      }
