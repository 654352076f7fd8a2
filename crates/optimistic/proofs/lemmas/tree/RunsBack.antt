-- What a node tells of the keys up to one, as many as it has, and what its version tells of that later.
use Rattle.std.proofs.Common.{◌≡◌, ◌≢◌, ◌⊎◌, ℕ, ◌+◌, ◌-◌, ◌*◌, ◌/◌, ◌%◌, ◌^◌, ◌<◌, ◌≤◌, leb, true, false, Bool, List, [], ◌∷◌, ◌++◌, get_or, length, length-append, Option, None, Some, IfSome, unwrap_or, arith, ap, sym, ◌∙◌, subst, inl, inr, le_refl, if◌then◌else◌, pow_pos}
use Rattle.std.specs.List.{AllPairs, Contains}
use Rattle.std.proofs.Math.ListN.{get_or-append}
use Rattle.std.proofs.Math.Seq.{get_or-append_right}
use Rattle.std.proofs.lemmas.Bool.{cases_eq, cases_lt}
use Rattle.std.proofs.lemmas.Nat.{div_below, le-div}
use Rattle.std.proofs.lemmas.List.Elements.{Contains-append_left, Contains-append_right, Contains-append_cases, All-contains_itself}
use Rattle.optimistic.specs.Layout.{width, prefix_of, leaf_of, byte_at, where_of}
use Rattle.optimistic.specs.declared.drain.nexts.Next.TheVariants as next
use Rattle.optimistic.specs.declared.drain.nexts.Pair.{Pair}
use Rattle.optimistic.specs.declared.tree.place.Place.{Place}
use Rattle.optimistic.specs.declared.tree.run.Bit.{Bit}
use Rattle.optimistic.specs.declared.tree.run.Bit.TheVariants.{Told}
use Rattle.optimistic.specs.declared.tree.run.Run.{Run}
use Rattle.optimistic.specs.declared.words.rule.Entry.{Entry}
use Rattle.optimistic.specs.declared.words.rule.View.{View}
use Rattle.optimistic.specs.forms.Children.{is_inner, first_of, second_of, put_first, IsForm}
use Rattle.optimistic.specs.words.Kept.{word_at, size, calm_at, value_of, Since}
use Rattle.optimistic.specs.words.Told.{Looks}
use Rattle.optimistic.specs.tree.Drained.{pair_of}
use Rattle.optimistic.specs.tree.Levels.{goes_on, pair_value}
use Rattle.optimistic.specs.tree.Nexts.{IsNear, IsNext}
use Rattle.optimistic.specs.tree.Reads.{Agrees, IsPlace, Steady, Still, Found}
use Rattle.optimistic.specs.tree.Runs.{Gives, ChildMakes}
use Rattle.optimistic.specs.tree.RunsBack.{lowest, not_before, IsDrainedBack, BackHolds, ShowsBack, ShowsRunBack, IsRunBack, WasToldBack}
use Rattle.optimistic.specs.tree.Sights.{Lacks}
use Rattle.optimistic.specs.tree.Trails.{IsTurn}
use Rattle.optimistic.specs.tree.Trees.{IsTree}
use Rattle.optimistic.proofs.lemmas.drain.Ends.{gap_next}
use Rattle.optimistic.proofs.lemmas.drain.Keys.{down_to, between, reaches, starts, near_first, near_less, pair_there, pair_none, no_pair}
use Rattle.optimistic.proofs.lemmas.drain.Lists.{only_one}
use Rattle.optimistic.proofs.lemmas.forms.Gaps.{first_none_each, first_each, second_each}
use Rattle.optimistic.proofs.lemmas.tree.Reading.{agrees_from, agrees_to, still_agrees, tag_ends}
use Rattle.optimistic.proofs.lemmas.tree.Runs.{makes_after, makes_near}
use Rattle.optimistic.proofs.lemmas.tree.Setting.{place_since}
use Rattle.optimistic.proofs.lemmas.tree.Sights.{shape_then, value_then, stood_from}
use Rattle.optimistic.proofs.lemmas.words.Moments.{since_refl, since_trans, width_some, version_word}

-- A lone leaf at the byte of the keys from `low` up to one
module _ (form level first second from key low : ℕ) (log : List Entry) (few : form < 5) (deep : level < 8) (leaf : first % 256 ≡ 9) (near : (k : ℕ) → low ≤ k → k ≤ from → IsNear (level + 1) from k)
    (its : leaf_of key ≡ first) (same : prefix_of key 1 ≡ prefix_of from 1) (makes : ChildMakes form level first second from log) where
  inner : is_inner form ≡ true
  inner = grind arith

  first_is : (k : ℕ) → put_first form first k ≡ first
  first_is k = ap (λ (c : Bool). if c then first else leaf_of k) inner

  off : (k : ℕ) → goes_on (put_first form first k) second k ≡ false
  off k = ap (λ (z : ℕ). goes_on z second k) (first_is k) ∙ tag_ends first second k (λ a b. omega (arith, b, leaf))

  made : (k : ℕ) → low ≤ k → k ≤ from → pair_value first second k ≡ value_of k log
  made k above below = ap (λ (z : ℕ). pair_value z second k) (sym (first_is k)) ∙ makes k (near k above below) (off k)

  lone_none : (k : ℕ) → low ≤ k → k ≤ from → k ≢ key → value_of k log ≡ None
  lone_none k above below apart = sym (made k above below) ∙ pair_none first second k (λ e.
      let top : k / 2 ^ 56 ≡ from / 2 ^ 56 = near_first level from k deep (near k above below) in
      let both : leaf_of key ≡ leaf_of k = its ∙ e in
      apart (whole k key from top same both))
    where
      whole : (k key from : ℕ) → k / 2 ^ 56 ≡ from / 2 ^ 56 → key / 2 ^ 56 ≡ from / 2 ^ 56 → key % 2 ^ 56 * 256 + 9 ≡ k % 2 ^ 56 * 256 + 9 → k ≡ key
      whole k key from a b c = omega (arith, a, b, c)

  pub back_lone_gives : low ≤ key → key ≤ from → Gives log low from (Some (pair_of key second))
  back_lone_gives above below = (above, below, sym (made key above below) ∙ pair_there first second key (sym its), λ k up down apart. lone_none k up down apart)

  pub back_lone_silent : (key < low) ⊎ (from < key) → low ≤ from → Gives log low from None
  back_lone_silent out order = (
    order,
    λ k above below. lone_none k above below (λ e. elim out [
      | inl l ↦ absurd (omega (arith, l, e, above))
      | inr g ↦ absurd (omega (arith, g, e, below))
    ]),
  )

-- what a child says of none from one key on, of those up to another that is near it
pub back_after : (form level first second from low last : ℕ) (log : List Entry) → ChildMakes form level first second from log → IsNear (level + 1) from low → low ≤ from → from ≤ last
    → IsNext (level + 1) (λ k. put_first form first k) (λ k. second) low (next.After last) → Gives log low from None
back_after form level first second from low last log makes near order reach n =
    let all = makes_after (level + 1) (λ k. put_first form first k) (λ k. second) low last log (makes_near (level + 1) (λ k. put_first form first k) (λ k. second) from low log near makes) n in
    (order, λ k above below. all.1 k above (omega (arith, below, reach)))

-- no key from `gap` on up to one has a value, and then this
gives_below : (log : List Entry) (from gap last low : ℕ) (pair : Option Pair) → Gives log gap from None → Gives log low last pair → last + 1 ≡ gap → gap ≤ from → low ≤ last → Gives log low from pair
gives_below log from gap last low None none some next order reach = (
  omega (arith, next, order, reach),
  λ k above below. elim (cases_lt k gap) [
    | inl l ↦ some.1 k above (omega (arith, l, next))
    | inr g ↦ none.1 k g below
  ],
)
gives_below log from gap last low (Some p) none some next order reach = (
  some.0,
  (let a = some.1 in omega (arith, a, next, order)),
  some.2,
  λ k above below apart. elim (cases_lt k gap) [
    | inl l ↦ some.3 k above (omega (arith, l, next)) apart
    | inr g ↦ none.1 k g below
  ],
)

-- the last key with some first bytes
last_byte : (x p : ℕ) → 0 < p → x * p + (p - 1) + 1 ≡ (x + 1) * p
last_byte x p l = omega arith

-- the last of the keys with some first bytes and then this one
pub ends : (key level byte last : ℕ) → level < 8 → byte < 256 → last + 1 ≡ (prefix_of key level * 256 + byte + 1) * 2 ^ (56 - 8 * level) → (prefix_of last level ≡ prefix_of key level) × (byte_at last level ≡ byte)
ends key level byte last l b end =
    let unit = 2 ^ (56 - 8 * level) in
    let top = prefix_of key level * 256 + byte in
    let some : 0 < unit = pow_pos (56 - 8 * level) in
    let whole : top * unit + (unit - 1) + 1 ≡ (top + 1) * unit = last_byte top unit some in
    let up : last / unit < top + 1 = div_below last unit (top + 1) some (omega (arith, end)) in
    let low : top ≤ last / unit = le-div top last unit some (omega (arith, end, whole, some)) in
    let is : prefix_of last level * 256 + byte_at last level ≡ top = sym (down_to last level l) ∙ (let e : last / unit ≡ top = omega (arith, up, low) in e) in
    split (prefix_of last level) (prefix_of key level) (byte_at last level) byte (omega arith) b is
  where
    split : (p q c d : ℕ) → c < 256 → d < 256 → p * 256 + c ≡ q * 256 + d → (p ≡ q) × (c ≡ d)
    split p q c d m n e = (omega arith, omega arith)

-- the keys from the first with a key's first bytes on, up to that one
pub near_down : (key level first : ℕ) → level < 8 → first ≡ (prefix_of key level * 256 + 0) * 2 ^ (56 - 8 * level) → (k : ℕ) → first ≤ k → k ≤ key → IsNear level key k
near_down key level first l start k above below =
    let unit = 2 ^ (56 - 8 * level) in
    let top = prefix_of key level * 256 + 255 in
    let last = top * unit + (unit - 1) in
    let s = starts key level 0 first l (omega arith) start in
    let stop : last + 1 ≡ (top + 1) * unit = last_byte top unit (pow_pos (56 - 8 * level)) in
    let after : key ≤ last = reaches key level 255 last l stop (omega arith) in
    (between first level 255 last l (omega arith) (stop ∙ ap (λ (z : ℕ). (z * 256 + 255 + 1) * unit) (sym s.0)) k above (omega (arith, below, after))).0 ∙ s.0

-- What a node that was read from v to x tells of its children up to one byte
module _ (at : Place) (from : ℕ) (v x : View) (deep : at.level < 8) where
  pub back_gap : (end low : ℕ) → Lacks at.node at.form end (byte_at from at.level + 1) v x → end ≤ byte_at from at.level → low ≤ from → low ≡ (prefix_of from at.level * 256 + end) * 2 ^ (56 - 8 * at.level) → ShowsBack at from (Told None low) v x
  back_gap end low lacks reach order start f ag is log makes =
      let unit = 2 ^ (56 - 8 * at.level) in
      let byte = byte_at from at.level in
      let top = prefix_of from at.level * 256 + byte in
      let last = top * unit + (unit - 1) in
      let small : byte < 256 = omega arith in
      let s = starts from at.level end low deep (omega (arith, reach, small)) start in
      let p = s.0 in
      let b = s.1 in
      let stop : last + 1 ≡ (top + 1) * unit = last_byte top unit (pow_pos (56 - 8 * at.level)) in
      let after : from ≤ last = reaches from at.level byte last deep stop (le_refl byte) in
      let first = λ (k : ℕ). first_of at.form f k (byte_at k at.level) in
      let second = λ (k : ℕ). second_of at.form f k (byte_at k at.level) in
      let n : IsNext at.level first second low (next.After last) =
      gap_next at.form at.level low f deep is last byte (stop ∙ ap (λ (z : ℕ). (z * 256 + byte + 1) * unit) (sym p)) (omega (arith, b, reach)) small
      (λ k c above below. lacks f ag is k c (omega (arith, above, b)) (omega (arith, below))) (omega (arith, order, after)) in
      let all = makes_after at.level first second low last log (makes_near at.level first second from low log p makes) n in
      (order, λ k above below. all.1 k above (omega (arith, below, after)))

  module _ (first second : ℕ) (found : Found at.node at.form first second from (byte_at from at.level) v x) where
    pub back_zero : (low : ℕ) → first ≡ 0 → low ≤ from → low ≡ (prefix_of from at.level * 256 + byte_at from at.level) * 2 ^ (56 - 8 * at.level) → ShowsBack at from (Told None low) v x
    back_zero low none order start = back_gap (byte_at from at.level) low
        (λ f ag is k b above below.
        let e : b ≡ byte_at from at.level = omega (arith, above, below) in
        ap (λ (z : ℕ). first_of at.form f k z) e ∙ first_none_each at.form f from (byte_at from at.level) ((found f ag is).0 ∙ none) k)
        (le_refl (byte_at from at.level)) order start

    pub back_child : (bit : Bit) → first ≢ 0 → ((log : List Entry) → ChildMakes at.form at.level first second from log → BackHolds log from bit) → ShowsBack at from bit v x
    back_child bit some so f ag is log makes =
        let said = found f ag is in
        so log (λ k near off.
        let m = near_less at.level from k deep near in
        let one : first_of at.form f k (byte_at k at.level) ≡ put_first at.form first k = ap (λ (z : ℕ). first_of at.form f k z) m.1 ∙ first_each at.form f from (byte_at from at.level) first said.0 some k in
        let two : second_of at.form f k (byte_at k at.level) ≡ second = ap (λ (z : ℕ). second_of at.form f k z) m.1 ∙ second_each at.form f from (byte_at from at.level) second (said.1 some) k in
        (λ i. pair_value (sym one i) (sym two i) k) ∙ makes k m.0 ((λ i. goes_on (one i) (two i) k) ∙ off))

  -- the entry of a place
  pub back_entry : (first second : ℕ) (bit : Bit) → ((f : ℕ → ℕ) → Agrees at.node at.form v x f → IsForm at.form f → (k : ℕ) → (first_of at.form f k (byte_at from at.level) ≡ put_first at.form first k) × (second_of at.form f k (byte_at from at.level) ≡ second))
      → ((log : List Entry) → ChildMakes at.form at.level first second from log → BackHolds log from bit) → ShowsBack at from bit v x
  back_entry first second bit entry so f ag is log makes = so log (λ k near off.
      let m = near_less at.level from k deep near in
      let e = entry f ag is k in
      let one : first_of at.form f k (byte_at k at.level) ≡ put_first at.form first k = ap (λ (z : ℕ). first_of at.form f k z) m.1 ∙ e.0 in
      let two : second_of at.form f k (byte_at k at.level) ≡ second = ap (λ (z : ℕ). second_of at.form f k z) m.1 ∙ e.1 in
      (λ i. pair_value (sym one i) (sym two i) k) ∙ makes k m.0 ((λ i. goes_on (one i) (two i) k) ∙ off))

  -- the child before a gap
  pub back_before : (last gap : ℕ) (pair : Option Pair) (low : ℕ) → ShowsBack at from (Told None gap) v x → ShowsBack at last (Told pair low) v x → last + 1 ≡ gap → IsNear at.level from last → gap ≤ from → low ≤ last → ShowsBack at from (Told pair low) v x
  back_before last gap pair low none some next near order reach f ag is log makes = gives_below log from gap last low pair (none f ag is log makes) (some f ag is log (λ k n. makes k (n ∙ near))) next order reach

-- what was shown between two views was so between an earlier and a later one
pub back_in : (at : Place) (from : ℕ) (bit : Bit) (v a b w : View) → Looks IsTree v a → ShowsBack at from bit a b → Since b.seen w.seen → ShowsBack at from bit v w
back_in at from bit v a b w looks shows since f ag is = shows f (agrees_to at.node at.form a b w f (agrees_from at.node at.form v a w f ag looks) since) is

pub back_until : (at : Place) (from : ℕ) (bit : Bit) (v b w : View) → ShowsBack at from bit v b → Since b.seen w.seen → ShowsBack at from bit v w
back_until at from bit v b w shows since f ag is = shows f (agrees_to at.node at.form v b w f ag since) is

-- pairs one behind the other, and others behind those
pub pairs_both : (R : Pair → Pair → Type 0) (xs ys : List Pair) → AllPairs R xs → AllPairs R ys → ((p q : Pair) → Contains xs p → Contains ys q → R p q) → AllPairs R (xs ++ ys)
pairs_both R xs ys a b apart i j d l m = elim (cases_lt j (length xs)) [
  | inl n ↦
      let k : i < length xs = omega (arith, l, n) in
      subst (λ (z : Pair × Pair). R z.0 z.1) (λ t. (sym (get_or-append xs ys d i k) t, sym (get_or-append xs ys d j n) t)) (a i j d l n)
  | inr n ↦
      let long : length (xs ++ ys) ≡ length xs + length ys = length-append xs ys in
      let low : j - length xs < length ys = omega (arith, long, m, n) in
      let last : get_or (xs ++ ys) j d ≡ get_or ys (j - length xs) d = get_or-append_right xs ys j d n in
      elim (cases_lt i (length xs)) [
        | inl k ↦
            subst (λ (z : Pair × Pair). R z.0 z.1) (λ t. (sym (get_or-append xs ys d i k) t, sym last t))
            (apart (get_or xs i d) (get_or ys (j - length xs) d) (All-contains_itself xs i d k) (All-contains_itself ys (j - length xs) d low))
        | inr k ↦
            let before : i - length xs < j - length xs = omega (arith, l, k) in
            subst (λ (z : Pair × Pair). R z.0 z.1) (λ t. (sym (get_or-append_right xs ys i d k) t, sym last t)) (b (i - length xs) (j - length xs) d before low)
      ]
]

-- no pair, where no key has a value
pub drained_back_none : (log : List Entry) (from to : ℕ) → ((k : ℕ) → from ≤ k → k < to → value_of k log ≡ None) → IsDrainedBack log from to []
drained_back_none log from to none = record {
  descending = λ i j d l m. absurd (omega arith);
  told = λ p c. let l = c.1 in absurd (omega arith);
  all = λ key value above below is. absurd (no_pair value (value_of key log) is (none key above below));
}

-- one pair, where no other key has a value
drained_back_one : (log : List Entry) (from to : ℕ) (p : Pair) → from ≤ p.key → p.key < to → value_of p.key log ≡ Some p.value → ((k : ℕ) → from ≤ k → k < to → k ≢ p.key → value_of k log ≡ None) → IsDrainedBack log from to (p ∷ [])
drained_back_one log from to p low high is none = record {
  descending = λ i j d l m. absurd (omega arith);
  told = λ q c. subst (λ (z : Pair). (from ≤ z.key) × (z.key < to) × (value_of z.key log ≡ Some z.value)) (only_one p q c) (low, high, is);
  all = λ key value above below has. elim (cases_eq key p.key) [
    | inl e ↦
        let v : p.value ≡ value = ap (λ (z : Option ℕ). unwrap_or z 0) (sym is ∙ (ap (λ (z : ℕ). value_of z log) (sym e) ∙ has)) in
        (0, omega arith, λ t. pair_of (sym e t) (v t))
    | inr d ↦ absurd (no_pair value (value_of key log) has (none key above below d))
  ];
}

-- the pairs of the keys up to one, and those before them
pub drained_back_append : (log : List Entry) (from mid to : ℕ) (xs ys : List Pair) → from ≤ mid → mid ≤ to → IsDrainedBack log mid to xs → IsDrainedBack log from mid ys → IsDrainedBack log from to (xs ++ ys)
drained_back_append log from mid to xs ys up down a b = record {
  descending = pairs_both (λ p q. q.key < p.key) xs ys a.descending b.descending (λ p q c d. let l = (a.told p c).0 in let m = (b.told q d).1 in omega (arith, l, m));
  told = λ p c. elim (Contains-append_cases xs ys p c) [
    | inl o ↦ let t = a.told p o in let l = t.0 in (omega (arith, l, up), t.1, t.2)
    | inr o ↦ let t = b.told p o in let l = t.1 in (t.0, omega (arith, l, down), t.2)
  ];
  all = λ key value above below is. elim (cases_lt key mid) [
    | inl m ↦ Contains-append_right xs ys (pair_of key value) (b.all key value above m is)
    | inr m ↦ Contains-append_left xs ys (pair_of key value) (a.all key value m below is)
  ];
}

-- what one child tells
pub drained_back_gives : (log : List Entry) (first low to from : ℕ) (pair : Option Pair) → low ≤ to → first ≤ to → (to ≡ first) ⊎ (to ≡ low) → Gives log low from pair → IsDrainedBack log to (from + 1) (not_before first pair)
drained_back_gives log first low to from None up few which g = drained_back_none log to (from + 1) (λ k a b. g.1 k (omega (arith, a, up)) (omega (arith, b)))
drained_back_gives log first low to from (Some p) up few which g = elim (cases_lt p.key first) [
  | inl far ↦
      let no : leb first p.key ≡ false = grind (arith, far) in
      let e : not_before first (Some p) ≡ [] = ap (λ (b : Bool). if b then p ∷ [] else []) no in
      subst (λ (l : List Pair). IsDrainedBack log to (from + 1) l) (sym e)
      (drained_back_none log to (from + 1) (λ k a b. g.3 k (omega (arith, a, up)) (omega (arith, b)) (λ same. absurd (omega (arith, same, a, few, far)))))
  | inr near ↦
      let yes : leb first p.key ≡ true = grind (arith, near) in
      let e : not_before first (Some p) ≡ p ∷ [] = ap (λ (b : Bool). if b then p ∷ [] else []) yes in
      let above = g.0 in
      let below = g.1 in
      let inside : to ≤ p.key = elim which [
        | inl s ↦ omega (arith, s, near)
        | inr s ↦ omega (arith, s, above)
      ] in
      subst (λ (l : List Pair). IsDrainedBack log to (from + 1) l) (sym e)
      (drained_back_one log to (from + 1) p inside (omega (arith, below)) g.2 (λ k a b apart. g.3 k (omega (arith, a, up)) (omega (arith, b)) apart))
]

-- A run of a node that was read from v to u, and then to w
module _ (at : Place) (start from : ℕ) (ps : List Pair) (v u w : View) (run : ShowsRunBack at start (from + 1) ps v u) (since : Since u.seen w.seen) (near : IsNear at.level start from) (order : from ≤ start) where
  -- one child more
  pub run_back_more : (to low first : ℕ) (pair : Option Pair) → ShowsBack at from (Told pair low) v w → low ≤ to → to ≤ from → first ≤ to → (to ≡ first) ⊎ (to ≡ low) → ShowsRunBack at start to (ps ++ not_before first pair) v w
  run_back_more to low first pair bit up below few which f ag is log makes =
      drained_back_append log to (from + 1) (start + 1) ps (not_before first pair) (omega (arith, below)) (omega (arith, order)) (run f (agrees_to at.node at.form v u w f ag since) is log makes)
      (drained_back_gives log first low to from pair up few which (bit f ag is log (λ k n. makes k (n ∙ near))))

  -- none
  pub run_back_same : ShowsRunBack at start (from + 1) ps v w
  run_back_same f ag is log makes = run f (agrees_to at.node at.form v u w f ag since) is log makes

pub run_back_none : (at : Place) (start : ℕ) (v w : View) → ShowsRunBack at start (start + 1) [] v w
run_back_none at start v w f ag is log makes = drained_back_none log (start + 1) (start + 1) (λ k above below. absurd (omega (arith, above, below)))

-- What was read of a node under one version: first its version, at a, then which keys it covers, up to u, and then the run, up to w
module _ (r : Run) (from first places : ℕ) (pairs : List Pair) (a u w : View) (place : IsPlace r.at a) (is : r.version ≡ word_at a.seen.words r.at.node 0) (even : r.version % 2 ≡ 0) (looks : Looks IsTree a u) (later : Looks IsTree a w) (until : Since u.seen w.seen)
    (covering : Steady r.at.node r.at.form 1 (where_of r.at.form r.at.level from) a u) (shows : ShowsRunBack r.at from (lowest first r.next) pairs a w) where
  some_there : 0 < size a.seen.plots r.at.node
  some_there = subst (λ (z : ℕ). 0 < width z) (sym place.at.is) (width_some r.at.form place.some place.form)

  least : r.version ≤ word_at w.seen.words r.at.node 0
  least =
      let g = later.since.grows r.at.node some_there in
      let p = version_word a.seen.words r.at.node in
      let q = version_word w.seen.words r.at.node in
      omega (arith, is, g, p, q)

  pub run_back_there : IsTurn r.turn w → r.count ≤ places → lowest first r.next ≤ from + 1 → IfSome r.next (λ k. first ≤ k) → IsRunBack r from first places pairs w
  run_back_there turn few order inside = record {
    place = place_since r.at a w later.since place;
    turn = turn;
    least = least;
    few = few;
    order = order;
    inside = inside;
    holds = λ m since sound same.
        let even' : word_at a.seen.words r.at.node 0 % 2 ≡ 0 = ap (λ (z : ℕ). z % 2) (sym is) ∙ even in
        let same' : word_at m.words r.at.node 0 ≡ word_at a.seen.words r.at.node 0 = same ∙ is in
        let at_first : Still r.at.node r.at.form a u a.seen m = record { before = since_refl a.seen; after = since_trans u.seen w.seen m until since; is = place.at.is; even = even'; same = same' } in
        let over : Still r.at.node r.at.form a w a.seen m = record { before = since_refl a.seen; after = since; is = place.at.is; even = even'; same = same' } in
        let there : calm_at m.calm r.at.node 1 ≡ where_of r.at.form r.at.level from = covering (calm_at m.calm r.at.node) (still_agrees r.at.node r.at.form a u a.seen m at_first) in
        let shape = shape_then m sound r.at.node r.at.form r.at.level from place.some place.form place.level there in
        shows (calm_at m.calm r.at.node) (still_agrees r.at.node r.at.form a w a.seen m over) shape m.log (value_then m sound r.at.node r.at.form r.at.level from place.some place.form place.level there);
  }

pub run_back_made : (r : Run) (at : Place) (version count : ℕ) → r.at ≡ at → r.version ≡ version → r.count ≡ count → (from first places : ℕ) (pairs : List Pair) (w : View) → IsRunBack record { at = at; version = version; next = r.next; count = count; turn = r.turn } from first places pairs w → IsRunBack r from first places pairs w
run_back_made r at version count a b c from first places pairs w run = subst (λ (z : Run). IsRunBack z from first places pairs w) (λ i. record { at = sym a i; version = sym b i; next = r.next; count = sym c i; turn = r.turn }) run

-- what a node told, which then still had its version
pub run_back_told : (r : Run) (from first places : ℕ) (pairs : List Pair) (v u w : View) → Looks IsTree v u → Looks IsTree u w → IsRunBack r from first places pairs u → lowest first r.next ≤ from → word_at w.seen.words r.at.node 0 ≡ r.version → WasToldBack r from first places pairs v w
run_back_told r from first places pairs v u w before looks run later same = record {
  few = run.few;
  later = later;
  inside = run.inside;
  stood = record {
    moment = w.seen;
    after = since_trans v.seen u.seen w.seen before.since looks.since;
    before = since_refl w.seen;
    sound = looks.sound;
    holds = run.holds w.seen looks.since looks.sound same;
  };
}

pub told_back_from : (r : Run) (from first places : ℕ) (pairs : List Pair) (v u w : View) → Since v.seen u.seen → WasToldBack r from first places pairs u w → WasToldBack r from first places pairs v w
told_back_from r from first places pairs v u w since t = record { few = t.few; later = t.later; inside = t.inside; stood = stood_from (λ log. IsDrainedBack log (lowest first r.next) (from + 1) pairs) v u w since t.stood }
