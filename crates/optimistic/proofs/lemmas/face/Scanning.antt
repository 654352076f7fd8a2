-- What a scan has found so far, pair by pair.
use Rattle.std.proofs.Common.{◌≡◌, ℕ, ◌+◌, ◌-◌, ◌^◌, ◌<◌, ◌≤◌, ◌⊎◌, min, List, [], ◌∷◌, ◌++◌, length, length-append, Option, arith, ap, sym, ◌∙◌, refl, inl, inr, true, false, None, Some}
use Rattle.std.specs.List.{Contains}
use mathlib.Core.List.{append-nil, append_assoc}
use Rattle.std.proofs.lemmas.Bool.{cases_lt}
use Rattle.std.proofs.lemmas.List.Elements.{Contains-append_left, Contains-append_right, Contains-append_cases}
use Rattle.optimistic.specs.declared.drain.nexts.Pair.{Pair}
use Rattle.optimistic.specs.declared.words.rule.Entry.{Entry}
use Rattle.optimistic.specs.words.Kept.{value_of, StartsWith}
use Rattle.optimistic.specs.tree.Drained.{IsDrained, pair_of}
use Rattle.optimistic.specs.tree.Nexts.{HasNone}
use Rattle.optimistic.specs.tree.Wholes.{IsRange}
use Rattle.optimistic.specs.face.Calls.{Known, Saw}
use Rattle.optimistic.specs.face.Scans.{Once, FirstFrom, LastBelow, FirstIn, LastIn, Emptiness, Rise, StoodThroughout, HasKey, Lacked, IsSoFar, IsScan, Counts}
use Rattle.optimistic.proofs.lemmas.face.Knowing.{saw_refl, saw_trans}
use Rattle.optimistic.proofs.lemmas.drain.Keys.{no_pair}
use Rattle.optimistic.proofs.lemmas.drain.Lists.{drained_none, ascends_both}

pub starts_trans : (a b c : List Entry) → StartsWith b a → StartsWith c b → StartsWith c a
starts_trans a b c p q = (p.0 ++ q.0, q.1 ∙ (ap (λ (l : List Entry). l ++ q.0) p.1 ∙ append_assoc a p.0 q.0))

pub rise_to : (seen : List Entry) (ps : List Pair) (mid end : List Entry) → Rise seen ps mid → StartsWith end mid → Rise seen ps end
rise_to seen [] mid end r s = starts_trans seen mid end r s
rise_to seen (p ∷ ps) mid end r s = (r.0, r.1, r.2, rise_to r.0 ps mid end r.3 s)

pub once_from : (P : List Entry → Type 0) (u v w : Known) → Saw u v → Once P v w → Once P u w
once_from P u v w s t = record { log = t.log; after = starts_trans u.seen v.seen t.log s.3 t.after; before = t.before; holds = t.holds }

pub once_to : (P : List Entry → Type 0) (u v w : Known) → Once P u v → Saw v w → Once P u w
once_to P u v w t s = record { log = t.log; after = t.after; before = starts_trans t.log v.seen w.seen t.before s.3; holds = t.holds }

pub some_there : (p : Pair) (v w : Known) → FirstFrom 0 (Some p) v w → Emptiness false v w
some_there p v w f = (f.0, record { log = f.1.log; after = f.1.after; before = f.1.before; holds = (p.key, λ e. no_pair p.value (value_of p.key f.1.log) f.1.holds.1 e) })

pub none_there : (v w : Known) → FirstFrom 0 None v w → Emptiness true v w
none_there v w f = (f.0, record { log = f.1.log; after = f.1.after; before = f.1.before; holds = f.1.holds })

pub so_far_none : (from : ℕ) (v : Known) → IsSoFar from from v v []
so_far_none from v = record {
  saw = saw_refl v;
  order = omega arith;
  ascending = λ i j d l m. absurd (omega arith);
  inside = λ p c. let l = c.1 in absurd (omega arith);
  stood = ([], sym (append-nil v.seen));
  passed = λ key above below. absurd (omega arith);
}

pub either_way : (key : ℕ) (u v w : Known) (pairs more : List Pair) → Saw v w → HasKey pairs key ⊎ Lacked key u v → HasKey (pairs ++ more) key ⊎ Lacked key u w
either_way key u v w pairs more s o = elim o [
  | inl h ↦ inl (h.0, Contains-append_left pairs more (pair_of key h.0) h.1)
  | inr l ↦ inr (once_to (λ log. value_of key log ≡ None) u v w l s)
]

-- each pair of a run stood at one moment
pub rise_at : (log : List Entry) (ps : List Pair) (end : List Entry) → ((p : Pair) → Contains ps p → value_of p.key log ≡ Some p.value) → StartsWith end log → Rise log ps end
rise_at log [] end is s = s
rise_at log (p ∷ ps) end is s = (log, ([], sym (append-nil log)), is p (Contains-append_left (p ∷ []) ps p (0, omega arith, refl)), rise_at log ps end (λ q c. is q (Contains-append_right (p ∷ []) ps q c)) s)

pub rise_both : (seen : List Entry) (xs ys : List Pair) (mid log end : List Entry) → Rise seen xs mid → StartsWith log mid → Rise log ys end → Rise seen (xs ++ ys) end
rise_both seen [] ys mid log end r s t = rise_from seen mid log ys end r s t
  where
    rise_from : (seen mid log : List Entry) (ys : List Pair) (end : List Entry) → StartsWith mid seen → StartsWith log mid → Rise log ys end → Rise seen ys end
    rise_from seen mid log [] end r s t = starts_trans seen mid end r (starts_trans mid log end s t)
    rise_from seen mid log (y ∷ ys) end r s t = (t.0, starts_trans seen mid t.0 r (starts_trans mid log t.0 s t.1), t.2, t.3)
rise_both seen (x ∷ xs) ys mid log end r s t = (r.0, r.1, r.2, rise_both r.0 xs ys mid log end r.3 s t)

pub has_value : (o : Option ℕ) → (o ≡ None) ⊎ ((x : ℕ) × (o ≡ Some x))
has_value None = inl refl
has_value (Some x) = inr (x, refl)

-- what is told of the keys from one on and below another
pub so_far_run : (from next to : ℕ) (v u w : Known) (pairs more : List Pair) → IsSoFar from next v u pairs → Saw u w → next ≤ to → Once (λ log. IsDrained log next to more) u w → IsSoFar from to v w (pairs ++ more)
so_far_run from next to v u w pairs more old later order once = record {
  saw = saw_trans v u w old.saw later;
  order = (let a = old.order in omega (arith, a, order));
  ascending = ascends_both pairs more old.ascending once.holds.ascending (λ p q c d. let l = (old.inside p c).1 in let m = (once.holds.told q d).0 in omega (arith, l, m));
  inside = λ p c. elim (Contains-append_cases pairs more p c) [
    | inl o ↦ let t = old.inside p o in let l = t.1 in (t.0, omega (arith, l, order))
    | inr o ↦ let t = once.holds.told p o in let a = old.order in let l = t.0 in (omega (arith, a, l), t.1)
  ];
  stood = rise_both v.seen pairs more u.seen once.log w.seen old.stood once.after (rise_at once.log more w.seen (λ p c. (once.holds.told p c).2) once.before);
  passed = λ key above below. elim (cases_lt key next) [
    | inl m ↦ either_way key v u w pairs more later (old.passed key above m)
    | inr m ↦ elim (has_value (value_of key once.log)) [
      | inl none ↦ inr (once_from (λ log. value_of key log ≡ None) v u w old.saw record { log = once.log; after = once.after; before = once.before; holds = none })
      | inr some ↦ inl (some.0, Contains-append_right pairs more (pair_of key some.0) (once.holds.all key some.0 m below some.1))
    ]
  ];
}

-- what some nodes told behind that
pub so_far_both : (from next to : ℕ) (v u w : Known) (pairs more : List Pair) → IsSoFar from next v u pairs → IsSoFar next to u w more → IsSoFar from to v w (pairs ++ more)
so_far_both from next to v u w pairs more old new = record {
  saw = saw_trans v u w old.saw new.saw;
  order = (let a = old.order in let b = new.order in omega (arith, a, b));
  ascending = ascends_both pairs more old.ascending new.ascending (λ p q c d. let l = (old.inside p c).1 in let m = (new.inside q d).0 in omega (arith, l, m));
  inside = λ p c. elim (Contains-append_cases pairs more p c) [
    | inl o ↦ let t = old.inside p o in let l = t.1 in let b = new.order in (t.0, omega (arith, l, b))
    | inr o ↦ let t = new.inside p o in let a = old.order in let l = t.0 in (omega (arith, a, l), t.1)
  ];
  stood = rise_both v.seen pairs more u.seen u.seen w.seen old.stood ([], sym (append-nil u.seen)) new.stood;
  passed = λ key above below. elim (cases_lt key next) [
    | inl m ↦ either_way key v u w pairs more new.saw (old.passed key above m)
    | inr m ↦ elim (new.passed key m below) [
      | inl h ↦ inl (h.0, Contains-append_right pairs more (pair_of key h.0) h.1)
      | inr l ↦ inr (once_from (λ log. value_of key log ≡ None) v u w old.saw l)
    ]
  ];
}

-- it holds later too
pub so_far_later : (from next : ℕ) (v u w : Known) (pairs : List Pair) → IsSoFar from next v u pairs → Saw u w → IsSoFar from next v w pairs
so_far_later from next v u w pairs old later = record {
  saw = saw_trans v u w old.saw later;
  order = old.order;
  ascending = old.ascending;
  inside = old.inside;
  stood = rise_to v.seen pairs u.seen w.seen old.stood later.3;
  passed = λ key above below. elim (old.passed key above below) [
    | inl h ↦ inl h
    | inr l ↦ inr (once_to (λ log. value_of key log ≡ None) v u w l later)
  ];
}

pub never : (key : ℕ) (v w : Known) → StoodThroughout key v w → Lacked key v w → ⊥
never key v w stands l = stands l.log l.after l.before l.holds

-- the scan ends: all keys were asked for, or the places are filled
pub scan_all : (from next to places : ℕ) (v u w : Known) (pairs : List Pair) → IsSoFar from next v u pairs → Saw u w → length pairs ≤ places → ((p : Pair) → Contains pairs p → p.key < to)
    → ((key : ℕ) → from ≤ key → key < to → HasKey pairs key ⊎ Lacked key v w) → IsScan from to places v w pairs
scan_all from next to places v u w pairs s later few below passed = record {
  few = few;
  ascending = s.ascending;
  inside = λ p c. ((s.inside p c).0, below p c);
  stood = rise_to v.seen pairs u.seen w.seen s.stood later.3;
  all = λ key above low stands. pick key stands (passed key above low);
}
  where
    pick : (key : ℕ) → StoodThroughout key v w → HasKey pairs key ⊎ Lacked key v w → HasKey pairs key ⊎ ((length pairs ≡ places) × ((p : Pair) → Contains pairs p → p.key < key))
    pick key stands o = elim o [
      | inl h ↦ inl h
      | inr l ↦ absurd (never key v w stands l)
    ]

pub scan_full : (from next to places : ℕ) (v w : Known) (pairs : List Pair) → IsSoFar from next v w pairs → length pairs ≡ places → ((p : Pair) → Contains pairs p → p.key < to) → IsScan from to places v w pairs
scan_full from next to places v w pairs s full below = record {
  few = omega (arith, full);
  ascending = s.ascending;
  inside = λ p c. ((s.inside p c).0, below p c);
  stood = s.stood;
  all = λ key above low stands. elim (cases_lt key next) [
    | inl m ↦ pick key stands (s.passed key above m)
    | inr m ↦ inr (full, λ p c. let b = (s.inside p c).1 in omega (arith, b, m))
  ];
}
  where
    pick : (key : ℕ) → StoodThroughout key v w → HasKey pairs key ⊎ Lacked key v w → HasKey pairs key ⊎ ((length pairs ≡ places) × ((p : Pair) → Contains pairs p → p.key < key))
    pick key stands o = elim o [
      | inl h ↦ inl h
      | inr l ↦ absurd (never key v w stands l)
    ]

pub scan_done : (from next to places : ℕ) (v w : Known) (pairs : List Pair) → IsSoFar from next v w pairs → next ≡ to → length pairs ≤ places → IsScan from to places v w pairs
scan_done from next to places v w pairs s end few = scan_all from next to places v w w pairs s (saw_refl w) few (λ p c. let b = (s.inside p c).1 in omega (arith, b, end)) (λ key above below. s.passed key above (omega (arith, below, end)))

-- what holds of what was seen before holds at that moment
pub once_here : (P : List Entry → Type 0) (v : Known) → P v.seen → Once P v v
once_here P v h = record { log = v.seen; after = ([], sym (append-nil v.seen)); before = ([], sym (append-nil v.seen)); holds = h }

-- a range without a key, and one without a place
pub range_empty : (log : List Entry) (from to places : ℕ) → to ≤ from → IsRange log from to places []
range_empty log from to places order = record {
  next = to;
  told = record {
    ascending = λ i j d l m. absurd (omega arith);
    told = λ p c. let l = c.1 in absurd (omega arith);
    all = λ key value above below is. absurd (omega (arith, above, below, order));
  };
  few = omega arith;
  end = inl refl;
}

pub range_placeless : (log : List Entry) (from to : ℕ) → from ≤ to → IsRange log from to 0 []
range_placeless log from to order = record { next = from; told = drained_none log from; few = omega arith; end = inr (order, refl) }

-- a walk that has ended, and two that end
pub walk_ended : (last : ℕ) (v : Known) → last < 2 ^ 64 → Once (λ log. HasNone log (2 ^ 64) (last + 1)) v v
walk_ended last v small = once_here (λ log. HasNone log (2 ^ 64) (last + 1)) v (λ k above below. absurd (omega (arith, above, below, small)))

pub walk_none : (from last : ℕ) (v w : Known) → last < 2 ^ 64 → FirstFrom from None v w → Once (λ log. HasNone log from (last + 1)) v w
walk_none from last v w small f = record { log = f.1.log; after = f.1.after; before = f.1.before; holds = λ k above below. f.1.holds k above (omega (arith, below, small)) }

pub walk_past : (from last : ℕ) (p : Pair) (v w : Known) → last < p.key → FirstFrom from (Some p) v w → Once (λ log. HasNone log from (last + 1)) v w
walk_past from last p v w past f = record { log = f.1.log; after = f.1.after; before = f.1.before; holds = λ k above below. f.1.holds.2 k above (omega (arith, below, past)) }

-- the last pair below a key, told or not, of those from another key on
pub last_none : (from to : ℕ) (v w : Known) → LastBelow to None v w → LastIn from to None v w
last_none from to v w l = (l.0, record { log = l.1.log; after = l.1.after; before = l.1.before; holds = λ k above below. l.1.holds k (omega arith) below })

pub last_past : (from to : ℕ) (p : Pair) (v w : Known) → p.key < from → LastBelow to (Some p) v w → LastIn from to None v w
last_past from to p v w past l = (l.0, record { log = l.1.log; after = l.1.after; before = l.1.before; holds = λ k above below. l.1.holds.2 k (omega (arith, above, past)) below })

pub last_there : (from to : ℕ) (p : Pair) (v w : Known) → from ≤ p.key → LastBelow to (Some p) v w → LastIn from to (Some p) v w
last_there from to p v w there l = (l.0, record { log = l.1.log; after = l.1.after; before = l.1.before; holds = (l.1.holds, there) })

-- the first pair from a key on, of those up to another
pub first_there : (from last : ℕ) (p : Pair) (v w : Known) → p.key ≤ last → FirstFrom from (Some p) v w → FirstIn from (last + 1) (Some p) v w
first_there from last p v w there f = (f.0, record { log = f.1.log; after = f.1.after; before = f.1.before; holds = (f.1.holds, omega (arith, there)) })

-- a scan of no key, and its count
pub scan_none : (from to places : ℕ) (v : Known) → to ≤ from → IsScan from to places v v []
scan_none from to places v order = record {
  few = omega arith;
  ascending = λ i j d l m. absurd (omega arith);
  inside = λ p c. let l = c.1 in absurd (omega arith);
  stood = ([], sym (append-nil v.seen));
  all = λ key above below stands. absurd (omega (arith, above, below, order));
}

pub counts_none : (from to : ℕ) (v : Known) → to ≤ from → Counts from to 0 v v
counts_none from to v order = ([], scan_none from to 1 v order, refl)

-- the keys up to the next that is to be asked for have so many pairs, or more than 64 bits can count
abbrev pub IsCounted : (from next n : ℕ) → Known → Known → Type 0
IsCounted from next n v w = (pairs : List Pair) × IsSoFar from next v w pairs × (n ≡ min (length pairs) (2 ^ 64 - 1))

pub counted_none : (from : ℕ) (v : Known) → IsCounted from from 0 v v
counted_none from v = ([], so_far_none from v, refl)

pub counted_run : (from next to n m k : ℕ) (v u w : Known) (more : List Pair) → IsCounted from next n v u → IsSoFar next to u w more → length more ≡ k → m ≡ min (n + k) (2 ^ 64 - 1) → IsCounted from to m v w
counted_run from next to n m k v u w more s far long e =
    let both : length (s.0 ++ more) ≡ length s.0 + length more = length-append s.0 more in
    let is = s.2 in
    (s.0 ++ more, so_far_both from next to v u w s.0 more s.1 far, omega (arith, e, is, both, long))

pub counts_done : (from next to n : ℕ) (v w : Known) → IsCounted from next n v w → next ≡ to → Counts from to n v w
counts_done from next to n v w s end = (s.0, scan_done from next to (length s.0 + 1) v w s.0 s.1 end (omega arith), s.2)
