-- Entries of an inner node: two with the same parts are one.
use Rattle.std.specs.Prelude.{◌≡◌, ℕ, ◌<◌, ◌⊎◌, List, length, slice_index, refl}
use Rattle.std.proofs.Common.{ap}
use mathlib.Core.Logic.{inl, inr}
use base.Stored.{coded_unit, coded_via}
use Rattle.std.specs.Coded.{Coded, coded×, coded⊎, coded_ℕ, coded_list, le_prop}
use mathlib.Core.HLevel.{is_prop→PathP}
use native.Mathlib.Nat.{ℕ_set}
use Rattle.congee.specs.declared.owned.entries.Entry.{Entry}
use Rattle.congee.specs.declared.owned.entries.Entry.TheVariants.{Blank, Node, Leaf}
use Rattle.congee.specs.declared.owned.entries.Tail.{Tail}

-- two keys' ends of the same bytes are one
pub tail_same : (x y : Tail) → x.bytes ≡ y.bytes → x ≡ y
tail_same x y b i = record {
  bytes = b i;
  whole = is_prop→PathP (λ j. length (b j) ≡ 7) (λ j. ℕ_set (length (b j)) 7) x.whole y.whole i;
  last = is_prop→PathP (λ j. slice_index (b j) 6 < 256) (λ j. le_prop) x.last y.last i;
}

module _ {P : Type 0} where
  -- an entry's parts: nothing, a slot, or a key's end with a value
  abbrev entry_parts : Entry P → Unit {0} ⊎ (ℕ ⊎ (List ℕ × P))
  entry_parts Blank = inl tt
  entry_parts (Node slot) = inr (inl slot)
  entry_parts (Leaf tail value) = inr (inr (tail.bytes, value))

  -- two entries of the same parts are one
  pub entry_same : (x y : Entry P) → entry_parts x ≡ entry_parts y → x ≡ y
  entry_same Blank Blank e = refl
  entry_same Blank (Node s) e = absurd (cc e)
  entry_same Blank (Leaf t v) e = absurd (cc e)
  entry_same (Node r) Blank e = absurd (cc e)
  entry_same (Node r) (Node s) e = let z : r ≡ s = cc e in ap Node z
  entry_same (Node r) (Leaf t v) e = absurd (cc e)
  entry_same (Leaf u w) Blank e = absurd (cc e)
  entry_same (Leaf u w) (Node s) e = absurd (cc e)
  entry_same (Leaf u w) (Leaf t v) e =
      let p : (u.bytes, w) ≡ (t.bytes, v) = cc e in
      let b : u.bytes ≡ t.bytes = ap (λ (q : List ℕ × P). q.0) p in
      let q : w ≡ v = ap (λ (q : List ℕ × P). q.1) p in
      λ i. Leaf (tail_same u t b i) (q i)

  -- an entry is told by its parts
  abbrev pub entry_code : Coded P → Coded (Entry P)
  entry_code value = coded_via (coded⊎ coded_unit (coded⊎ coded_ℕ (coded× (coded_list coded_ℕ) value))) entry_parts entry_same
