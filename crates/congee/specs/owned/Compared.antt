-- When two maps are the same.
use Rattle.std.specs.Prelude.{ℕ, ◌&&◌, Bool, nat_eq}
use Rattle.std.specs.Ordering.{nat_cmp}
use Rattle.std.specs.FinMap as map
use Rattle.std.specs.Cmp.{IsPartialEquivalence, and_per, nat_eq_equiv, on_per, partial_equiv_from_equiv}
use Rattle.std.specs.Cmp.Lexicographic.{lists_per, pointwise}

-- whether two maps have the same pairs
abbrev pub same_pairs : map.FinMap nat_cmp ℕ → map.FinMap nat_cmp ℕ → Bool
same_pairs m n = pointwise (λ p q. nat_eq p.0 q.0 && nat_eq p.1 q.1) (map.entries m) (map.entries n)

-- which goes both ways, and on
pub same_pairs_per : IsPartialEquivalence same_pairs
same_pairs_per = on_per map.entries (lists_per (and_per (on_per (λ p. p.0) (partial_equiv_from_equiv nat_eq_equiv)) (on_per (λ p. p.1) (partial_equiv_from_equiv nat_eq_equiv))))
