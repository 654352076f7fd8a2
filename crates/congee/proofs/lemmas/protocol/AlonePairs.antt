-- The values that hang in a tree are as many as the pairs of its map.
use Rattle.std.proofs.Common.{◌≡◌, ℕ, zero, suc, ◌<◌, ◌≤◌, ◌+◌, ◌*◌, ◌/◌, ◌^◌, ◌⊎◌, ◌&&◌, Bool, true, false, cond, T, List, [], ◌∷◌, length, get_or, refl, sym, ◌∙◌, ap, subst, inl, inr, arith}
use Rattle.std.specs.Prelude.{Option, None, Some, ltb}
use Rattle.std.specs.Int.{w64, from_be_bytes}
use Rattle.std.specs.Ordering.{nat_cmp, eq_by_cmp}
use Rattle.std.specs.FinMap.{FinMap, get, len, entries, entries_sorted, get-entries, len-entries}
use Rattle.std.specs.FinMap.Entries.{below_all, is_sorted, find}
use Rattle.std.proofs.Math.Nat.{mul-mod_left, mul-div_cancel}
use Rattle.std.proofs.lemmas.Bool.{cases_lt}
use Rattle.std.proofs.lemmas.Bool.Decides.{nat_tests}
use Rattle.std.proofs.lemmas.Nat.{be_bytes_8}
use Rattle.congee.specs.declared.protocol.store.Region.{Region}
use Rattle.congee.specs.Heap.{Node, Hung, Nothing, Below, Holds}
use Rattle.congee.specs.Keys.{key_bytes, IsMapOf}
use Rattle.congee.specs.Notes.{Note, Linked, BeginsKey, Tree, LockWords}
use Rattle.congee.specs.protocol.Alone.{sum_from, pairs_at, pairs_under, tree_pairs}
use Rattle.congee.specs.protocol.Regions.{span, IsRegion, start_at}
use Rattle.congee.specs.protocol.Scans.{Lacked}
use Rattle.congee.specs.protocol.ScanKnown.{end_of}
use Rattle.congee.proofs.lemmas.Fits.{fits_byte}
use Rattle.congee.proofs.lemmas.Orders.{first_bytes, same_bytes, byte_small}
use Rattle.congee.proofs.lemmas.forms.Prefixes.{fits_every}
use Rattle.congee.proofs.lemmas.protocol.AloneScans.{term_past}
use Rattle.congee.proofs.lemmas.protocol.Regions.{span_pos, multiple_bounds, start_at_end, start_mono}
use Rattle.congee.proofs.lemmas.protocol.ScanBytes.{low_yes, low_no, region_top}
use Rattle.congee.proofs.lemmas.protocol.ScanKept.{child_after, child_before, lacks_bytes, lacks_beside, has_value}
use Rattle.congee.proofs.lemmas.forms.BetweenLemmas.{true_of_T, less_of_cmp}

-- 1 where the number is at least `lo` and below `hi`
abbrev pub inside : ℕ → ℕ → ℕ → ℕ
inside lo hi k = cond (ltb k lo) 0 (cond (ltb k hi) 1 0)

in_low : (lo hi k : ℕ) → k < lo → inside lo hi k ≡ 0
in_low lo hi k l = low_yes k lo 0 (cond (ltb k hi) 1 0) l

in_yes : (lo hi k : ℕ) → lo ≤ k → k < hi → inside lo hi k ≡ 1
in_yes lo hi k l u = low_no k lo 0 (cond (ltb k hi) 1 0) l ∙ low_yes k hi 1 0 u

in_high : (lo hi k : ℕ) → hi ≤ k → inside lo hi k ≡ 0
in_high lo hi k u = elim (cases_lt k lo) [
  | inl l ↦ in_low lo hi k l
  | inr l ↦ low_no k lo 0 (cond (ltb k hi) 1 0) l ∙ low_no k hi 1 0 u
]

in_parts : (lo mid hi k : ℕ) → lo ≤ mid → mid ≤ hi → inside lo hi k ≡ inside lo mid k + inside mid hi k
in_parts lo mid hi k a b = elim (cases_lt k mid) [
  | inl l ↦ elim (cases_lt k lo) [
    | inl q ↦ (let x = in_low lo hi k q in let y = in_low lo mid k q in let z = in_low mid hi k l in omega (arith, x, y, z))
    | inr q ↦ (let x = in_yes lo hi k q (omega (arith, l, b)) in let y = in_yes lo mid k q l in let z = in_low mid hi k l in omega (arith, x, y, z))
  ]
  | inr l ↦ elim (cases_lt k hi) [
    | inl q ↦ (let x = in_yes lo hi k (omega (arith, l, a)) q in let y = in_high lo mid k l in let z = in_yes mid hi k l q in omega (arith, x, y, z))
    | inr q ↦ (let x = in_high lo hi k q in let y = in_high lo mid k l in let z = in_high mid hi k q in omega (arith, x, y, z))
  ]
]

both : (a b : Bool) → T (a && b) → T a × T b
both true b t = (tt, t)
both false b t = absurd t

tied : (a b : ℕ) → eq_by_cmp nat_cmp a b ≡ true → a ≡ b
tied a b e = grind (arith, nat_tests, e)

untied : (a b : ℕ) → eq_by_cmp nat_cmp a b ≡ false → a ≡ b → ⊥
untied a b e is = grind (arith, nat_tests, e, is)

-- a number ties with itself
pub ties : (a : ℕ) → eq_by_cmp nat_cmp a a ≡ true
ties a = grind (arith, nat_tests)

module _ {V : Type 0} where
  -- how many entries have a key that is at least `lo` and below `hi`
  abbrev pub count : ℕ → ℕ → List (ℕ × V) → ℕ
  count lo hi [] = 0
  count lo hi (e ∷ es) = inside lo hi e.0 + count lo hi es

  pub parts : (lo mid hi : ℕ) (es : List (ℕ × V)) → lo ≤ mid → mid ≤ hi → count lo hi es ≡ count lo mid es + count mid hi es
  parts lo mid hi [] a b = refl
  parts lo mid hi (e ∷ es) a b = let s = parts lo mid hi es a b in let i = in_parts lo mid hi e.0 a b in omega (arith, s, i)

  not_first : (b : Bool) (v : V) (y : Option V) → cond b (Some v) y ≡ None → y ≡ None
  not_first true v y e = absurd cc
  not_first false v y e = e

  a_first : (b : Bool) (v : V) (y : Option V) → b ≡ true → cond b (Some v) y ≡ None → ⊥
  a_first true v y q e = absurd cc
  a_first false v y q e = absurd cc

  -- none where none is found
  pub none : (lo hi : ℕ) (es : List (ℕ × V)) → ((k : ℕ) → lo ≤ k → k < hi → find nat_cmp k es ≡ None) → count lo hi es ≡ 0
  none lo hi [] f = refl
  none lo hi (e ∷ es) f =
      let s = none lo hi es (λ k l u. not_first (eq_by_cmp nat_cmp k e.0) e.1 (find nat_cmp k es) (f k l u)) in
      let i : inside lo hi e.0 ≡ 0 = elim (cases_lt e.0 lo) [
        | inl l ↦ in_low lo hi e.0 l
        | inr l ↦ elim (cases_lt e.0 hi) [
          | inl u ↦ absurd (a_first (eq_by_cmp nat_cmp e.0 e.0) e.1 (find nat_cmp e.0 es) (ties e.0) (f e.0 l u))
          | inr u ↦ in_high lo hi e.0 u
        ]
      ] in
      omega (arith, s, i)

  -- all where none beyond is found
  pub all : (hi : ℕ) (es : List (ℕ × V)) → ((k : ℕ) → hi ≤ k → find nat_cmp k es ≡ None) → count 0 hi es ≡ length es
  all hi [] f = refl
  all hi (e ∷ es) f =
      let s = all hi es (λ k u. not_first (eq_by_cmp nat_cmp k e.0) e.1 (find nat_cmp k es) (f k u)) in
      let i : inside 0 hi e.0 ≡ 1 = elim (cases_lt e.0 hi) [
        | inl u ↦ in_yes 0 hi e.0 (omega arith) u
        | inr u ↦ absurd (a_first (eq_by_cmp nat_cmp e.0 e.0) e.1 (find nat_cmp e.0 es) (ties e.0) (f e.0 u))
      ] in
      omega (arith, s, i)

  above : (j lo hi : ℕ) (es : List (ℕ × V)) → hi ≤ j + 1 → T (below_all nat_cmp j es) → count lo hi es ≡ 0
  above j lo hi [] l t = refl
  above j lo hi (e ∷ es) l t =
      let b = both _ _ t in
      let q = less_of_cmp j e.0 (true_of_T _ b.0) in
      let s = above j lo hi es l b.1 in
      let i = in_high lo hi e.0 (omega (arith, l, q)) in
      omega (arith, s, i)

  sorted_rest : (e : ℕ × V) (es : List (ℕ × V)) → T (is_sorted nat_cmp (e ∷ es)) → T (below_all nat_cmp e.0 es) × T (is_sorted nat_cmp es)
  sorted_rest e es t = both (below_all nat_cmp e.0 es) (is_sorted nat_cmp es) t

  -- a key that is found stands once
  pub one : (k : ℕ) (v : V) (es : List (ℕ × V)) → T (is_sorted nat_cmp es) → find nat_cmp k es ≡ Some v → count k (k + 1) es ≡ 1
  one k v [] t f = absurd cc
  one k v (e ∷ es) t f = elim (eq_by_cmp nat_cmp k e.0) as (λ b. eq_by_cmp nat_cmp k e.0 ≡ b → cond b (Some e.1) (find nat_cmp k es) ≡ Some v → count k (k + 1) (e ∷ es) ≡ 1) [
    | true ↦ λ q _. (
        let is = tied k e.0 q in
        let i = in_yes k (k + 1) e.0 (omega (arith, is)) (omega (arith, is)) in
        let s : count k (k + 1) es ≡ 0 = above e.0 k (k + 1) es (omega (arith, is)) (sorted_rest e es t).0 in
        omega (arith, i, s))
    | false ↦ λ q g. (
        let s : count k (k + 1) es ≡ 1 = one k v es (sorted_rest e es t).1 g in
        let i : inside k (k + 1) e.0 ≡ 0 = elim (cases_lt e.0 k) [
          | inl l ↦ in_low k (k + 1) e.0 l
          | inr l ↦ elim (cases_lt k e.0) [
            | inl u ↦ in_high k (k + 1) e.0 (omega (arith, u))
            | inr u ↦ absurd (untied k e.0 q (omega (arith, l, u)))
          ]
        ] in
        omega (arith, i, s))
  ] refl f

-- the keys that begin with the first bytes of some key
key_small : (k : ℕ) → from_be_bytes w64 (key_bytes k) < 2 ^ 64
key_small k =
    let b0 = byte_small k 0 (omega arith) in
    let b1 = byte_small k 1 (omega arith) in
    let b2 = byte_small k 2 (omega arith) in
    let b3 = byte_small k 3 (omega arith) in
    let b4 = byte_small k 4 (omega arith) in
    let b5 = byte_small k 5 (omega arith) in
    let b6 = byte_small k 6 (omega arith) in
    let b7 = byte_small k 7 (omega arith) in
    omega (arith, b0, b1, b2, b3, b4, b5, b6, b7)

pub bytes_small : (k i : ℕ) → get_or (key_bytes k) i 0 < 256
bytes_small k i = elim (cases_lt i 8) [
  | inl l ↦ byte_small k i l
  | inr l ↦ omega (arith, get_or_past (key_bytes k) i l)
] where
  get_or_past : (xs : List ℕ) (i : ℕ) → length xs ≤ i → get_or xs i 0 ≡ 0
  get_or_past [] i l = refl
  get_or_past (x ∷ xs) zero l = absurd (omega (arith, l))
  get_or_past (x ∷ xs) (suc i) l = get_or_past xs i (omega (arith, l))

region_in : (p : List ℕ) → length p ≤ 7 → BeginsKey p → (x : Region) × IsRegion p x.base x.depth
unfolding BeginsKey
region_in p short b =
    let d : ℕ = length p in
    let k : ℕ = from_be_bytes w64 (key_bytes b.0) in
    let same : key_bytes k ≡ key_bytes b.0 = be_bytes_8 (key_bytes b.0) k refl (bytes_small b.0) refl in
    let s = multiple_bounds k (span d) (span_pos d) in
    let up : first_bytes (k / span d * span d) d ≡ first_bytes k d = mul-div_cancel (k / span d) (span_pos d) in (
      record { base = k / span d * span d; depth = d },
      record {
        depth_is = refl;
        short = short;
        small = (let l = key_small b.0 in omega (arith, s.0, l));
        fitted = fits_every p (key_bytes (k / span d * span d)) (omega (arith, short)) (λ j l.
            same_bytes (k / span d * span d) k d (omega (arith, short)) up j l ∙ (ap (λ y. get_or y j 0) same ∙ fits_byte p (key_bytes b.0) j b.1 l));
        even = mul-mod_left (k / span d) (span d);
      },
    )

module _ {V : Type 0} (a : ℕ → Note) (h : ℕ → Node V) (t : Tree a h) (keyed : (n : ℕ) → (a n).status ≡ Linked → BeginsKey (h n).prefix) (m : FinMap nat_cmp V) (st : IsMapOf h m) where
  -- the pairs of the map whose keys are at least `lo` and below `hi`
  abbrev pairs : ℕ → ℕ → ℕ
  pairs lo hi = count lo hi (entries m)

  lacks : (k : ℕ) → Lacked (m ∷ []) k → get m k ≡ None
  lacks k (inl e) = e
  lacks k (inr x) = absurd x

  lacking : (lo hi : ℕ) → ((k : ℕ) → lo ≤ k → k < hi → Lacked (m ∷ []) k) → pairs lo hi ≡ 0
  lacking lo hi f = none lo hi (entries m) (λ k l u. sym (get-entries m k) ∙ lacks k (f k l u))

  module _ (n base depth : ℕ) (l : (a n).status ≡ Linked) (r : IsRegion (h n).prefix base depth) (f : ℕ)
      (below : (c : ℕ) (x : Region) → (a c).status ≡ Linked → length (h n).prefix < length (h c).prefix → IsRegion (h c).prefix x.base x.depth → pairs_under h f c ≡ pairs x.base (end_of x)) where
    within : (b k : ℕ) → b < 256 → start_at base depth b ≤ k → k < start_at base depth (b + 1) → (k < 2 ^ 64) × (base ≤ k) × (k < base + span depth)
    within b k small lo hi =
        let up = start_mono (h n).prefix base depth r (b + 1) 256 (omega (arith, small)) in
        let e = start_at_end (h n).prefix base depth r in
        let most = region_top (h n).prefix base depth r in
        (omega (arith, hi, up, e, most), omega (arith, lo), omega (arith, hi, up, e))

    -- the values at and below a byte are the pairs with the keys under it
    at_byte : (b : ℕ) (x : Hung V) → b < 256 → (h n).children b ≡ x → pairs_at (λ c. pairs_under h f c) x ≡ pairs (start_at base depth b) (start_at base depth (b + 1))
    at_byte b Nothing small e = sym (lacking (start_at base depth b) (start_at base depth (b + 1)) (λ k lo hi.
        let i = within b k small lo hi in
        lacks_bytes a h t m st [] n base depth l r b (b + 1) k i.0 i.1 i.2 lo hi (λ q p u. (let s : b ≡ q = omega (arith, p, u) in subst (λ y. (h n).children y ≡ Nothing) s e))))
    at_byte b (Below c) small e =
        let i = t.down n b c l e in
        let y = region_in (h c).prefix (t.short c i.linked) (keyed c i.linked) in
        let x : Region = y.0 in
        let lo : start_at base depth b ≤ x.base = child_after a h t n base depth l r b c x e y.1 in
        let hi : end_of x ≤ start_at base depth (b + 1) = child_before a h t n base depth l r b c x e y.1 in
        let pos = span_pos x.depth in
        let beside : (k : ℕ) → start_at base depth b ≤ k → k < start_at base depth (b + 1) → (k < x.base) ⊎ (end_of x ≤ k) → Lacked (m ∷ []) k =
        (λ k p q ne. lacks_beside a h t m st [] n base depth l r b c x small e y.1 k (within b k small p q).0 p q ne) in
        let first = parts (start_at base depth b) x.base (start_at base depth (b + 1)) (entries m) lo (omega (arith, hi)) in
        let last = parts x.base (end_of x) (start_at base depth (b + 1)) (entries m) (omega arith) hi in
        let before : pairs (start_at base depth b) x.base ≡ 0 = lacking (start_at base depth b) x.base (λ k p q. beside k p (omega (arith, q, hi)) (inl q)) in
        let after : pairs (end_of x) (start_at base depth (b + 1)) ≡ 0 = lacking (end_of x) (start_at base depth (b + 1)) (λ k p q. beside k (omega (arith, p, lo)) q (inr p)) in
        let here = below c x i.linked i.longer y.1 in
        omega (arith, first, last, before, after, here)
    at_byte b (Holds v) small e =
        let o = has_value a h t m st [] n base depth l r b v small e in
        let width : span (depth + 1) ≡ 1 = ap (λ d. span (d + 1)) o.0 in
        let lo : start_at base depth b ≡ base + b = ap (λ y. base + b * y) width ∙ omega arith in
        let hi : start_at base depth (b + 1) ≡ base + b + 1 = ap (λ y. base + (b + 1) * y) width ∙ omega arith in
        let here : pairs (base + b) (base + b + 1) ≡ 1 = one (base + b) v (entries m) (entries_sorted m) (sym (get-entries m (base + b)) ∙ o.2) in
        sym (ap (λ y. pairs y (start_at base depth (b + 1))) lo ∙ (ap (λ y. pairs (base + b) y) hi ∙ here))

    sums : (b : ℕ) → b ≤ 256 → sum_from (λ b. pairs_at (λ c. pairs_under h f c) ((h n).children b)) 0 b ≡ pairs base (start_at base depth b)
    unfolding sum_from
    sums zero u =
        let e : start_at base depth 0 ≡ base = omega arith in
        let z : pairs base base ≡ 0 = none base base (entries m) (λ k lo hi. absurd (omega (arith, lo, hi))) in
        sym (ap (λ y. pairs base y) e ∙ z)
    sums (suc b) u =
        let s = sums b (omega (arith, u)) in
        let p = term_past (λ b. pairs_at (λ c. pairs_under h f c) ((h n).children b)) 0 b (omega arith) in
        let e = at_byte b ((h n).children b) (omega (arith, u)) refl in
        let q = parts base (start_at base depth b) (start_at base depth (b + 1)) (entries m) (omega arith) (start_mono (h n).prefix base depth r b (b + 1) (omega arith)) in
        let g : pairs base (start_at base depth (b + 1)) ≡ pairs base (start_at base depth (suc b)) = ap (λ y. pairs base (start_at base depth y)) (omega arith) in
        omega (arith, s, p, e, q, g)

  under : (f n base depth : ℕ) → (a n).status ≡ Linked → IsRegion (h n).prefix base depth → 8 ≤ f + length (h n).prefix → pairs_under h f n ≡ pairs base (base + span depth)
  unfolding pairs_under
  under zero n base depth l r deep = absurd (let s = t.short n l in omega (arith, s, deep))
  under (suc f) n base depth l r deep =
      sums n base depth l r f (λ c x i longer y. under f c x.base x.depth i y (omega (arith, longer, deep))) 256 (omega arith)
      ∙ ap (λ y. pairs base y) (start_at_end (h n).prefix base depth r)

  root_region : IsRegion (h 0).prefix 0 0
  root_region = record { depth_is = sym (ap length t.empty); short = omega arith; small = omega arith; fitted = rw t.empty refl; even = refl }

  -- the values that hang in a tree are as many as the pairs of its map
  pub pairs_keyed : tree_pairs h ≡ len m
  pairs_keyed =
      let e = under 8 0 0 0 t.root root_region (omega arith) in
      let b : pairs 0 (2 ^ 64) ≡ length (entries m) = all (2 ^ 64) (entries m) (λ k u. sym (get-entries m k) ∙ st.none_beyond k u) in
      let n = len-entries m in
      e ∙ (b ∙ sym n)

-- the same of nodes with lock words
pub pairs_counted : {V : Type 0} (a : ℕ → Note) (h : ℕ → Node V) → Tree a h → LockWords a h → (m : FinMap nat_cmp V) → IsMapOf h m → tree_pairs h ≡ len m
pairs_counted a h t w m st = pairs_keyed a h t (λ n l. (w.each n).keyed l) m st
