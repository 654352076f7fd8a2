-- Leaves with one value: two of the same key and value are one.
use Rattle.std.specs.Prelude.{◌≡◌, ◌<◌, length, slice_index}
use Rattle.std.specs.Coded.{Coded, coded×, coded_ℕ, coded_list, le_prop}
use base.Stored.{coded_via}
use mathlib.Core.HLevel.{is_prop→PathP}
use native.Mathlib.Nat.{ℕ_set}
use Rattle.congee.specs.declared.owned.inline_leaf.Lone.{Lone}

module _ {P : Type 0} where
  -- two leaves of the same key and value are one
  pub lone_same : (x y : Lone P) → x.key ≡ y.key → x.value ≡ y.value → x ≡ y
  lone_same x y k v i = record {
    key = k i;
    value = v i;
    whole = is_prop→PathP (λ j. length (k j) ≡ 8) (λ j. ℕ_set (length (k j)) 8) x.whole y.whole i;
    last = is_prop→PathP (λ j. slice_index (k j) 7 < 256) (λ j. le_prop) x.last y.last i;
  }

  -- a leaf is told by its key and its value
  abbrev pub lone_code : Coded P → Coded (Lone P)
  lone_code value = coded_via (coded× (coded_list coded_ℕ) value) (λ (l : Lone P). (l.key, l.value)) (λ x y e. lone_same x y (λ i. (e i).0) (λ i. (e i).1))
