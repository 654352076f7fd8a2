-- What a backward scan has found so far, pair by pair.
use Rattle.std.proofs.Common.{◌≡◌, ◌⊎◌, ℕ, ◌<◌, ◌≤◌, List, [], ◌++◌, length, None, Some, sym, le_refl, inl, inr, arith}
use Rattle.std.specs.List.{AllPairs, Contains}
use mathlib.Core.List.{append-nil}
use Rattle.std.proofs.lemmas.Bool.{cases_lt}
use Rattle.std.proofs.lemmas.List.Elements.{Contains-append_right, Contains-append_cases}
use Rattle.optimistic.specs.declared.drain.nexts.Pair.{Pair}
use Rattle.optimistic.specs.words.Kept.{value_of}
use Rattle.optimistic.specs.tree.Drained.{pair_of}
use Rattle.optimistic.specs.tree.Nexts.{HasNone}
use Rattle.optimistic.specs.tree.RunsBack.{IsDrainedBack}
use Rattle.optimistic.specs.face.Calls.{Known, Saw}
use Rattle.optimistic.specs.face.Scans.{Lacked, Once, LastBelow, Rise, StoodThroughout, HasKey}
use Rattle.optimistic.specs.face.ScansBack.{IsScanBack}
use Rattle.optimistic.proofs.lemmas.face.Knowing.{saw_refl, saw_trans}
use Rattle.optimistic.proofs.lemmas.face.Scanning.{once_from, once_here, either_way, rise_at, rise_both, has_value, never}
use Rattle.optimistic.proofs.lemmas.tree.RunsBack.{pairs_both}

-- the keys from one on, down to which all were told, and below another
pub record IsSoFarBack (low to : ℕ) (v w : Known) (pairs : List Pair) : Type 0 where
  pub saw : Saw v w
  pub order : low ≤ to
  pub descending : AllPairs (λ p q. q.key < p.key) pairs
  pub inside : (p : Pair) → Contains pairs p → (low ≤ p.key) × (p.key < to)
  pub stood : Rise v.seen pairs w.seen
  pub passed : (key : ℕ) → low ≤ key → key < to → HasKey pairs key ⊎ Lacked key v w

pub so_far_back_none : (to : ℕ) (v : Known) → IsSoFarBack to to v v []
so_far_back_none to v = record {
  saw = saw_refl v;
  order = le_refl to;
  descending = λ i j d l m. absurd (omega arith);
  inside = λ p c. let l = c.1 in absurd (omega arith);
  stood = ([], sym (append-nil v.seen));
  passed = λ key above below. absurd (omega (arith, above, below));
}

-- what is told of the keys from one on, up to those that were told
pub so_far_back_run : (from low to : ℕ) (v u w : Known) (pairs more : List Pair) → IsSoFarBack low to v u pairs → Saw u w → from ≤ low → Once (λ log. IsDrainedBack log from low more) u w → IsSoFarBack from to v w (pairs ++ more)
so_far_back_run from low to v u w pairs more old later order once = record {
  saw = saw_trans v u w old.saw later;
  order = (let a = old.order in omega (arith, a, order));
  descending = pairs_both (λ p q. q.key < p.key) pairs more old.descending once.holds.descending (λ p q c d. let l = (old.inside p c).0 in let m = (once.holds.told q d).1 in omega (arith, l, m));
  inside = λ p c. elim (Contains-append_cases pairs more p c) [
    | inl o ↦ let t = old.inside p o in let l = t.0 in (omega (arith, l, order), t.1)
    | inr o ↦ let t = once.holds.told p o in let a = old.order in let l = t.1 in (t.0, omega (arith, a, l))
  ];
  stood = rise_both v.seen pairs more u.seen once.log w.seen old.stood once.after (rise_at once.log more w.seen (λ p c. (once.holds.told p c).2) once.before);
  passed = λ key above below. elim (cases_lt key low) [
    | inr m ↦ either_way key v u w pairs more later (old.passed key m below)
    | inl m ↦ elim (has_value (value_of key once.log)) [
      | inl none ↦ inr (once_from (λ log. value_of key log ≡ None) v u w old.saw record { log = once.log; after = once.after; before = once.before; holds = none })
      | inr some ↦ inl (some.0, Contains-append_right pairs more (pair_of key some.0) (once.holds.all key some.0 above m some.1))
    ]
  ];
}

-- the scan ends: all keys were asked for, or the places are filled
module _ (from low to places : ℕ) (v w : Known) (pairs : List Pair) (s : IsSoFarBack low to v w pairs) where
  pick : (key : ℕ) → StoodThroughout key v w → HasKey pairs key ⊎ Lacked key v w → HasKey pairs key ⊎ ((length pairs ≡ places) × ((p : Pair) → Contains pairs p → key < p.key))
  pick key stands o = elim o [
    | inl h ↦ inl h
    | inr l ↦ absurd (never key v w stands l)
  ]

  pub scan_back_full : length pairs ≡ places → from ≤ low → IsScanBack from to places v w pairs
  scan_back_full full order = record {
    few = omega (arith, full);
    descending = s.descending;
    inside = λ p c. let t = s.inside p c in let l = t.0 in (omega (arith, l, order), t.1);
    stood = s.stood;
    all = λ key above below stands. elim (cases_lt key low) [
      | inl m ↦ inr (full, λ p c. let b = (s.inside p c).0 in omega (arith, b, m))
      | inr m ↦ pick key stands (s.passed key m below)
    ];
  }

  pub scan_back_done : low ≡ from → length pairs ≤ places → IsScanBack from to places v w pairs
  scan_back_done end few = record {
    few = few;
    descending = s.descending;
    inside = λ p c. let t = s.inside p c in let l = t.0 in (omega (arith, l, end), t.1);
    stood = s.stood;
    all = λ key above below stands. pick key stands (s.passed key (omega (arith, above, end)) below);
  }

-- a walk back that has ended, and two that end
pub walk_back_ended : (first : ℕ) (v : Known) → Once (λ log. HasNone log first 0) v v
walk_back_ended first v = once_here (λ log. HasNone log first 0) v (λ k above below. absurd (omega (arith, below)))

pub walk_back_none : (first to : ℕ) (v w : Known) → LastBelow to None v w → Once (λ log. HasNone log first to) v w
walk_back_none first to v w l = record { log = l.1.log; after = l.1.after; before = l.1.before; holds = λ k above below. l.1.holds k (omega arith) below }

pub walk_back_past : (first to : ℕ) (p : Pair) (v w : Known) → p.key < first → LastBelow to (Some p) v w → Once (λ log. HasNone log first to) v w
walk_back_past first to p v w past l = record { log = l.1.log; after = l.1.after; before = l.1.before; holds = λ k above below. l.1.holds.2 k (omega (arith, above, past)) below }
