-- How a walk goes back from the node that it is in.
use Rattle.std.proofs.Common.{◌≡◌, ℕ, zero, suc, ◌<◌, ◌≤◌, ◌+◌, ◌-◌, ◌*◌, ◌^◌, ◌⊎◌, true, List, [], ◌∷◌, ◌++◌, length, length-append, get_or, inl, inr, refl, sym, ap, ◌∙◌, subst, arith}
use Rattle.std.specs.Prelude.{None, Some, is_some, IsSome}
use Rattle.std.proofs.lemmas.Bool.{cases_lt}
use Rattle.std.proofs.Math.Nat.{pow-suc, mul-le-mul_right}
use Rattle.std.specs.FinMap as map
use Rattle.slab.specs.Slab.{get, ContainsKey}
use Rattle.congee.specs.Heap.{Below, Nothing, Holds, fits, child_for}
use Rattle.congee.specs.Keys.{key_bytes}
use Rattle.congee.specs.owned.Arena.{Nodes, heap_of, IsTree}
use Rattle.congee.specs.owned.Cursor.{HangsBelow, IsDescent, IsCursor, HasAhead, IsAhead, IsAt}
use Rattle.congee.specs.owned.Nearest.{IsGreatestPair}
use Rattle.congee.specs.owned.Stores.{StandsWith}
use Rattle.congee.specs.owned.Table.{pairs_of}
use Rattle.congee.specs.declared.owned.scan.Branch.{Branch}
use Rattle.congee.proofs.lemmas.owned.Answered.{at_held}
use Rattle.congee.proofs.lemmas.Fits.{fits_byte, fits_trans}
use Rattle.congee.proofs.lemmas.Keys.{key_length}
use Rattle.congee.proofs.lemmas.Link.{Leaf}
use Rattle.congee.proofs.lemmas.Orders.{byte_small}
use Rattle.congee.proofs.lemmas.owned.Joins.{leaf_of}
use Rattle.congee.proofs.lemmas.owned.Tables.{pairs_stand}
use Rattle.congee.proofs.lemmas.owned.Ways.{short_prefix}
use Rattle.congee.proofs.lemmas.owned.Cursors.{EndsWay, SameAhead, ahead_left, ahead_right, ahead_split, branch_at, child_of, child_stands, comes_before, cursor_cut, cursor_down, cursor_moved, finds_child, fits_child, last_of, less_at, none_of, one_key, passed_on, root_stands, small}

-- ---- what is left falls with each step

-- no fewer than the steps that are still to come above a walk's last one
unfoldable pub above_left : ℕ → List Branch → ℕ
above_left zero xs = 0
above_left (suc levels) [] = 0
above_left (suc levels) (a ∷ rest) = (a.from - 1) * 258 ^ levels + above_left levels rest

-- and with the last one
unfoldable pub back_left : List Branch → ℕ → ℕ
back_left xs from = above_left 8 xs + from * 258 ^ (7 - length xs) + length xs

power_pos : (k : ℕ) → 0 < 258 ^ k
power_pos zero = omega arith
power_pos (suc k) = let h = power_pos k in let e = pow-suc 258 k in omega (arith, h, e)

above_on : (levels : ℕ) (xs : List Branch) (a : Branch) → length xs < levels → above_left levels (xs ++ a ∷ []) ≡ above_left levels xs + (a.from - 1) * 258 ^ (levels - 1 - length xs)
unfolding above_left
above_on zero xs a l = absurd (omega (arith, l))
above_on (suc levels) [] a l =
    let none : above_left levels [] ≡ 0 = nothing_above levels in
    let e : suc levels - 1 - 0 ≡ levels = omega arith in
    let w : 258 ^ (suc levels - 1 - 0) ≡ 258 ^ levels = ap (λ n. 258 ^ n) e in
    ap (λ n. (a.from - 1) * 258 ^ levels + n) none ∙ omega arith ∙ ap (λ n. 0 + (a.from - 1) * n) (sym w)
  where
    nothing_above : (levels : ℕ) → above_left levels [] ≡ 0
    nothing_above zero = refl
    nothing_above (suc levels) = refl
above_on (suc levels) (b ∷ rest) a l =
    let h = above_on levels rest a (omega (arith, l)) in
    let e : levels - 1 - length rest ≡ suc levels - 1 - suc (length rest) = omega (arith, l) in
    let w : 258 ^ (levels - 1 - length rest) ≡ 258 ^ (suc levels - 1 - suc (length rest)) = ap (λ n. 258 ^ n) e in
    ap (λ n. (b.from - 1) * 258 ^ levels + n) (h ∙ ap (λ n. above_left levels rest + (a.from - 1) * n) w) ∙ omega arith

-- a step goes up to the one above
pub back_popped : (xs : List Branch) (m f from : ℕ) → length xs < 7 → back_left xs (f - 1) < back_left (xs ++ branch_at m f ∷ []) from
unfolding back_left
back_popped xs m f from l =
    let e = above_on 8 xs (branch_at m f) (omega (arith, l)) in
    let g = length-append xs (branch_at m f ∷ []) in
    omega (arith, e, g)

-- and goes down under a byte that it hasn't passed
pub back_entered : (xs : List Branch) (n b from : ℕ) → length xs < 7 → b < from → back_left (xs ++ branch_at n (b + 1) ∷ []) 256 < back_left xs from
unfolding back_left
back_entered xs n b from l lo =
    let e = above_on 8 xs (branch_at n (b + 1)) (omega (arith, l)) in
    let g = length-append xs (branch_at n (b + 1) ∷ []) in
    let lower : 258 ^ (7 - length (xs ++ branch_at n (b + 1) ∷ [])) ≡ 258 ^ (6 - length xs) = ap (λ n. 258 ^ n) (omega (arith, l, g)) in
    let p = power_pos (6 - length xs) in
    let i : 7 - length xs ≡ suc (6 - length xs) = omega (arith, l) in
    let w : 258 ^ (7 - length xs) ≡ 258 ^ (6 - length xs) * 258 = ap (λ n. 258 ^ n) i ∙ pow-suc 258 (6 - length xs) in
    let m = mul-le-mul_right {m = b + 1} {n = from} (258 ^ (7 - length xs)) (omega (arith, lo)) in
    let z : 256 * 258 ^ (7 - length (xs ++ branch_at n (b + 1) ∷ [])) ≡ 256 * 258 ^ (6 - length xs) = ap (λ n. 256 * n) lower in
    let u : (b + 1 - 1) * 258 ^ (8 - 1 - length xs) ≡ b * 258 ^ (7 - length xs) = ap (λ n. n * 258 ^ (7 - length xs)) (omega arith) in
    omega (arith, e, g, p, w, m, z, u)

-- ---- the way

module _ {P : Type 0} (s : Nodes P) where
  on_hangs : (a : Branch) (xs : List Branch) (b c : Branch) → IsDescent s a ((xs ++ b ∷ []) ++ c ∷ []) → HangsBelow s b c
  on_hangs a [] b c h = h.1.0
  on_hangs a (d ∷ rest) b c h = on_hangs d rest b c h.1

  -- a way's last node hangs in the one before
  pub hangs : (xs : List Branch) (b c : Branch) → IsCursor s ((xs ++ b ∷ []) ++ c ∷ []) → HangsBelow s b c
  hangs [] b c h = h.1.0
  hangs (a ∷ rest) b c h = on_hangs a rest b c h.1

module _ {P : Type 0} (s : Nodes P) (t : IsTree s) where
  -- keys with the prefix of a node have that of the node above
  fits_above : (a b : Branch) (key : List ℕ) → ContainsKey s a.node → HangsBelow s a b → fits (heap_of s b.node).prefix key ≡ true → fits (heap_of s a.node).prefix key ≡ true
  fits_above a b key c l f = fits_trans (heap_of s a.node).prefix (heap_of s b.node).prefix key (child_of s t a b c l).fitted f

  -- and then the byte that it hangs under
  byte_above : (a b : Branch) (key : List ℕ) → ContainsKey s a.node → (l : HangsBelow s a b) → fits (heap_of s b.node).prefix key ≡ true
      → get_or key (length (heap_of s a.node).prefix) 0 ≡ l.byte
  byte_above a b key c l f =
      let i = child_of s t a b c l in
      fits_byte (heap_of s b.node).prefix key (length (heap_of s a.node).prefix) f i.longer ∙ i.byte

  root_fits : (a : Branch) (q : ℕ) → a.node ≡ 0 → fits (heap_of s a.node).prefix (key_bytes q) ≡ true
  root_fits a q e = subst (λ n. fits (heap_of s n).prefix (key_bytes q) ≡ true) (sym e) (rw t.tree.empty refl)

  -- a key below a node, or one that comes before those below it
  abbrev AtOrBefore : ℕ → ℕ → Type 0
  AtOrBefore n q = (fits (heap_of s n).prefix (key_bytes q) ≡ true) ⊎ ((k : ℕ) → k < 2 ^ 64 → fits (heap_of s n).prefix (key_bytes k) ≡ true → q < k)

  side : (a d : Branch) (q : ℕ) → ContainsKey s a.node → HangsBelow s a d → IsSome (map.get (pairs_of s) q) → fits (heap_of s a.node).prefix (key_bytes q) ≡ true
      → HasAhead s a (key_bytes q) ⊎ AtOrBefore d.node q
  side a d q c l has f = elim (cases_lt l.byte (get_or (key_bytes q) (length (heap_of s a.node).prefix) 0)) [
    | inl over ↦ inl (record { fitted = f; past = omega (arith, over, l.passed) })
    | inr up ↦ elim (cases_lt (get_or (key_bytes q) (length (heap_of s a.node).prefix) 0) l.byte) [
      | inl under ↦ inr (inr (λ k lk g.
          less_at s t a.node q k c (small s t q has) lk f (fits_above a d (key_bytes k) c l g) (omega (arith, under, byte_above a d (key_bytes k) c l g))))
      | inr low ↦ (let here : l.byte ≡ get_or (key_bytes q) (length (heap_of s a.node).prefix) 0 = omega (arith, up, low) in
          let child : child_for (heap_of s a.node) (key_bytes q) ≡ Below d.node = subst (λ b. (heap_of s a.node).children b ≡ Below d.node) here l.hangs in
          inr (inl (fits_child s t q a.node d.node has c f child)))
    ]
  ]

  on_sides : (a : Branch) (xs : List Branch) (b : Branch) (q : ℕ) → ContainsKey s a.node → IsDescent s a (xs ++ b ∷ []) → IsSome (map.get (pairs_of s) q)
      → fits (heap_of s a.node).prefix (key_bytes q) ≡ true → IsAhead s (a ∷ xs) (key_bytes q) ⊎ AtOrBefore b.node q
  on_sides a [] b q c h has f = elim (side a b q c h.0 has f) [ inl v ↦ inl (inl v) | inr r ↦ inr r ]
  on_sides a (d ∷ rest) b q c h has f = elim (side a d q c h.0 has f) [
    | inl v ↦ inl (inl v)
    | inr r ↦ elim r [
      | inl g ↦ elim (on_sides d rest b q (child_stands s t a d c h.0) h.1 has g) [ inl w ↦ inl (inr w) | inr w ↦ inr w ]
      | inr before ↦ inr (inr (λ k lk g. before k lk (passed_on s t d rest b (key_bytes k) (child_stands s t a d c h.0) h.1 g).0))
    ]
  ]

  -- a pair is ahead of the steps above a way's last one, below its node, or before all that are
  sides : (xs : List Branch) (b : Branch) (q : ℕ) → IsCursor s (xs ++ b ∷ []) → IsSome (map.get (pairs_of s) q) → IsAhead s xs (key_bytes q) ⊎ AtOrBefore b.node q
  sides [] b q h has = inr (inl (root_fits b q h.0))
  sides (a ∷ rest) b q h has = on_sides a rest b q (root_stands s t a h.0) h.1 has (root_fits a q h.0)

  -- a value before the step: its pair is the last of those behind, and is ahead then
  module _ (before xs : List Branch) (n from b k end : ℕ) (x : P) (h : IsCursor s (xs ++ branch_at n from ∷ [])) (lo : b < from) (lk : k < 2 ^ 64)
      (free : (q : ℕ) → b < q → q < from → (heap_of s n).children q ≡ Nothing) (e : (heap_of s n).children b ≡ Holds x)
      (f : fits (heap_of s n).prefix (key_bytes k) ≡ true) (eb : get_or (key_bytes k) (length (heap_of s n).prefix) 0 ≡ b)
      (same : SameAhead s before (xs ++ branch_at n from ∷ [])) (at : IsAt s before end) where
    last : EndsWay s (length xs) (branch_at n from)
    last = last_of s t xs (branch_at n from) h

    here : map.get (pairs_of s) k ≡ Some x
    here =
        let child : child_for (heap_of s n) (key_bytes k) ≡ Holds x = subst (λ c. (heap_of s n).children c ≡ Holds x) (sym eb) e in
        (pairs_stand s).at k lk ∙ at_held s (key_bytes k) n x t (record { stands = last.stands; fitted = f }) child

    has : IsSome (map.get (pairs_of s) k)
    has = ap (λ o. is_some o) here

    not_ahead : (q : ℕ) → IsSome (map.get (pairs_of s) q) → q < end → IsAhead s (xs ++ branch_at n from ∷ []) (key_bytes q) → ⊥
    not_ahead q hq l a = let g = (at.ahead q hq).1 ((same.same q hq).1 a) in absurd (omega (arith, g, l))

    below : k < end
    below = elim (cases_lt k end) [
      | inl l ↦ l
      | inr g ↦ elim (ahead_split s xs (branch_at n from) (key_bytes k) ((same.same k has).0 ((at.ahead k has).0 g))) [
        | inl r ↦ (let l = comes_before s t xs (branch_at n from) k k h lk lk f r in absurd (omega (arith, l)))
        | inr v ↦ absurd (omega (arith, v.past, eb, lo))
      ]
    ]

    at_node : (q : ℕ) → IsSome (map.get (pairs_of s) q) → q < end → fits (heap_of s n).prefix (key_bytes q) ≡ true → (q < k) ⊎ (q ≡ k)
    at_node q hq l g = elim (cases_lt (get_or (key_bytes q) (length (heap_of s n).prefix) 0) from) [
      | inl under ↦ elim (cases_lt (get_or (key_bytes q) (length (heap_of s n).prefix) 0) b) [
        | inl less ↦ inl (less_at s t n q k last.stands (small s t q hq) lk g f (omega (arith, less, eb)))
        | inr up ↦ elim (cases_lt b (get_or (key_bytes q) (length (heap_of s n).prefix) 0)) [
          | inl over ↦ absurd (finds_child s t q n hq last.stands g (free _ over under))
          | inr low ↦ inr (one_key s t n b k q x last.stands lk (small s t q hq) e f g (omega (arith, eb, up, low)))
        ]
      ]
      | inr past ↦ absurd (not_ahead q hq l (ahead_right s xs (branch_at n from) (key_bytes q) (record { fitted = g; past = past })))
    ]

    order : (q : ℕ) → IsSome (map.get (pairs_of s) q) → q < end → (q < k) ⊎ (q ≡ k)
    order q hq l = elim (sides xs (branch_at n from) q h hq) [
      | inl r ↦ absurd (not_ahead q hq l (ahead_left s xs (branch_at n from) (key_bytes q) r))
      | inr w ↦ elim w [ inl g ↦ at_node q hq l g | inr first ↦ inl (first k lk f) ]
    ]

    stays_ahead : (q : ℕ) → IsSome (map.get (pairs_of s) q) → end ≤ q → IsAhead s (xs ++ branch_at n b ∷ []) (key_bytes q)
    stays_ahead q hq over = elim (ahead_split s xs (branch_at n from) (key_bytes q) ((same.same q hq).0 ((at.ahead q hq).0 over))) [
      | inl r ↦ ahead_left s xs (branch_at n b) (key_bytes q) r
      | inr v ↦ ahead_right s xs (branch_at n b) (key_bytes q) (record { fitted = v.fitted; past = omega (arith, v.past, lo) })
    ]

    own_ahead : (q : ℕ) → q ≡ k → IsAhead s (xs ++ branch_at n b ∷ []) (key_bytes q)
    own_ahead q z = subst (λ y. IsAhead s (xs ++ branch_at n b ∷ []) (key_bytes y)) (sym z) (ahead_right s xs (branch_at n b) (key_bytes k) (record { fitted = f; past = omega (arith, eb) }))

    not_less : (q : ℕ) → IsSome (map.get (pairs_of s) q) → IsAhead s (xs ++ branch_at n b ∷ []) (key_bytes q) → k ≤ q
    not_less q hq a = elim (ahead_split s xs (branch_at n b) (key_bytes q) a) [
      | inl r ↦ (let l = comes_before s t xs (branch_at n from) k q h lk (small s t q hq) f r in omega (arith, l))
      | inr v ↦ elim (cases_lt b (get_or (key_bytes q) (length (heap_of s n).prefix) 0)) [
        | inl over ↦ (let l = less_at s t n k q last.stands lk (small s t q hq) f v.fitted (omega (arith, over, eb)) in omega (arith, l))
        | inr low ↦ (let z = one_key s t n b k q x last.stands lk (small s t q hq) e f v.fitted (omega (arith, eb, low, v.past)) in omega (arith, z))
      ]
    ]

    pub found_back : IsGreatestPair (pairs_of s) end k x × IsAt s (xs ++ branch_at n b ∷ []) k
    found_back = (
      record {
        below = below;
        here = here;
        after = λ q up hi. none_of (map.get (pairs_of s) q) (λ hq. elim (order q hq hi) [ inl l ↦ absurd (omega (arith, l, up)) | inr z ↦ absurd (omega (arith, z, up)) ]);
      },
      record {
        ahead = λ q hq. (
          λ l. elim (cases_lt q end) [
            | inl under ↦ elim (order q hq under) [ inl less ↦ absurd (omega (arith, less, l)) | inr z ↦ own_ahead q z ]
            | inr over ↦ stays_ahead q hq over
          ],
          not_less q hq,
        );
      },
    )

  -- a node with nothing before the step: it goes up
  pub popped_back : (before xs : List Branch) (m f n from : ℕ) → IsCursor s ((xs ++ branch_at m f ∷ []) ++ branch_at n from ∷ []) → ((b : ℕ) → b < from → (heap_of s n).children b ≡ Nothing)
      → SameAhead s before ((xs ++ branch_at m f ∷ []) ++ branch_at n from ∷ [])
      → IsCursor s (xs ++ branch_at m (f - 1) ∷ []) × SameAhead s before (xs ++ branch_at m (f - 1) ∷ [])
  popped_back before xs m f n from h free same =
      let l : HangsBelow s (branch_at m f) (branch_at n from) = hangs s xs (branch_at m f) (branch_at n from) h in
      let up : IsCursor s (xs ++ branch_at m f ∷ []) = cursor_cut s (xs ++ branch_at m f ∷ []) (branch_at n from) h in
      let above = (last_of s t xs (branch_at m f) up).stands in
      let low = (last_of s t (xs ++ branch_at m f ∷ []) (branch_at n from) h).stands in
      let one : l.byte + 1 ≡ f = l.passed in (
        cursor_moved s xs m f (f - 1) (omega (arith, l.bound)) up,
        record {
          same = λ q has. (
            λ a. elim (ahead_split s (xs ++ branch_at m f ∷ []) (branch_at n from) (key_bytes q) ((same.same q has).0 a)) [
              | inl r ↦ elim (ahead_split s xs (branch_at m f) (key_bytes q) r) [
                | inl w ↦ ahead_left s xs (branch_at m (f - 1)) (key_bytes q) w
                | inr v ↦ ahead_right s xs (branch_at m (f - 1)) (key_bytes q) (record { fitted = v.fitted; past = omega (arith, v.past) })
              ]
              | inr v ↦ ahead_right s xs (branch_at m (f - 1)) (key_bytes q) (record {
                fitted = fits_above (branch_at m f) (branch_at n from) (key_bytes q) above l v.fitted;
                past = omega (arith, byte_above (branch_at m f) (branch_at n from) (key_bytes q) above l v.fitted, one);
              })
            ],
            λ a. (same.same q has).1 (elim (ahead_split s xs (branch_at m (f - 1)) (key_bytes q) a) [
              | inl w ↦ ahead_left s (xs ++ branch_at m f ∷ []) (branch_at n from) (key_bytes q) (ahead_left s xs (branch_at m f) (key_bytes q) w)
              | inr v ↦ elim (cases_lt l.byte (get_or (key_bytes q) (length (heap_of s m).prefix) 0)) [
                | inl over ↦ ahead_left s (xs ++ branch_at m f ∷ []) (branch_at n from) (key_bytes q)
                    (ahead_right s xs (branch_at m f) (key_bytes q) (record { fitted = v.fitted; past = omega (arith, over, one) }))
                | inr here ↦ (let is : l.byte ≡ get_or (key_bytes q) (length (heap_of s m).prefix) 0 = omega (arith, here, v.past, one) in
                    let child : child_for (heap_of s m) (key_bytes q) ≡ Below n = subst (λ b. (heap_of s m).children b ≡ Below n) is l.hangs in
                    let g = fits_child s t q m n has above v.fitted child in
                    elim (cases_lt (get_or (key_bytes q) (length (heap_of s n).prefix) 0) from) [
                      | inl under ↦ absurd (finds_child s t q n has low g (free _ under))
                      | inr past ↦ ahead_right s (xs ++ branch_at m f ∷ []) (branch_at n from) (key_bytes q) (record { fitted = g; past = past })
                    ])
              ]
            ]),
          );
        },
      )

  -- no byte is 256
  no_byte : (n from q : ℕ) → ContainsKey s n → 256 ≤ from → HasAhead s (branch_at n from) (key_bytes q) → ⊥
  no_byte n from q c l v = absurd (omega (arith, v.past, l, byte_small q (length (heap_of s n).prefix) (omega (arith, short_prefix s t n c))))

  -- a node that leads to one below: it goes down there, behind all that hangs in it
  pub entered_back : (before xs : List Branch) (n from b below : ℕ) → IsCursor s (xs ++ branch_at n from ∷ []) → b < from → b + 1 ≤ 256
      → ((q : ℕ) → b < q → q < from → (heap_of s n).children q ≡ Nothing) → (heap_of s n).children b ≡ Below below → SameAhead s before (xs ++ branch_at n from ∷ [])
      → IsCursor s ((xs ++ branch_at n (b + 1) ∷ []) ++ branch_at below 256 ∷ []) × SameAhead s before ((xs ++ branch_at n (b + 1) ∷ []) ++ branch_at below 256 ∷ [])
  entered_back before xs n from b below h lo hi free e same =
      let down : IsCursor s ((xs ++ branch_at n (b + 1) ∷ []) ++ branch_at below 0 ∷ []) = cursor_down s xs n from b below hi e h in
      let way : IsCursor s ((xs ++ branch_at n (b + 1) ∷ []) ++ branch_at below 256 ∷ []) = cursor_moved s (xs ++ branch_at n (b + 1) ∷ []) below 0 256 (omega arith) down in
      let stands = (last_of s t xs (branch_at n from) h).stands in
      let low = (last_of s t (xs ++ branch_at n (b + 1) ∷ []) (branch_at below 256) way).stands in (
        way,
        record {
          same = λ q has. (
            λ a. ahead_left s (xs ++ branch_at n (b + 1) ∷ []) (branch_at below 256) (key_bytes q) (elim (ahead_split s xs (branch_at n from) (key_bytes q) ((same.same q has).0 a)) [
              | inl r ↦ ahead_left s xs (branch_at n (b + 1)) (key_bytes q) r
              | inr v ↦ ahead_right s xs (branch_at n (b + 1)) (key_bytes q) (record { fitted = v.fitted; past = omega (arith, v.past, lo) })
            ]),
            λ a. (same.same q has).1 (elim (ahead_split s (xs ++ branch_at n (b + 1) ∷ []) (branch_at below 256) (key_bytes q) a) [
              | inl r ↦ elim (ahead_split s xs (branch_at n (b + 1)) (key_bytes q) r) [
                | inl w ↦ ahead_left s xs (branch_at n from) (key_bytes q) w
                | inr v ↦ elim (cases_lt (get_or (key_bytes q) (length (heap_of s n).prefix) 0) from) [
                  | inl under ↦ absurd (finds_child s t q n has stands v.fitted (free _ (omega (arith, v.past)) under))
                  | inr past ↦ ahead_right s xs (branch_at n from) (key_bytes q) (record { fitted = v.fitted; past = past })
                ]
              ]
              | inr v ↦ absurd (no_byte below 256 q low (omega arith) v)
            ]),
          );
        },
      )

  -- nothing is left before the root's step
  pub none_behind : (before : List Branch) (n from end : ℕ) → IsCursor s (branch_at n from ∷ []) → ((b : ℕ) → b < from → (heap_of s n).children b ≡ Nothing)
      → SameAhead s before (branch_at n from ∷ []) → IsAt s before end → (q : ℕ) → q < end → map.get (pairs_of s) q ≡ None
  none_behind before n from end h free same at q l = none_of (map.get (pairs_of s) q) (λ hq.
      let g = root_fits (branch_at n from) q h.0 in
      elim (cases_lt (get_or (key_bytes q) (length (heap_of s n).prefix) 0) from) [
        | inl under ↦ absurd (finds_child s t q n hq (root_stands s t (branch_at n from) h.0) g (free _ under))
        | inr past ↦ (let up = (at.ahead q hq).1 ((same.same q hq).1 (inl (record { fitted = g; past = past }))) in absurd (omega (arith, up, l)))
      ])

  -- after every pair
  pub last_cursor : (steps : List Branch) → steps ≡ branch_at 0 256 ∷ [] → IsCursor s steps × IsAt s steps (2 ^ 64)
  last_cursor steps e = subst (λ xs. IsCursor s xs × IsAt s xs (2 ^ 64)) (sym e) (
    (refl, omega arith),
    record {
      ahead = λ q h. (
        λ l. absurd (omega (arith, l, small s t q h)),
        λ a. elim a [ inl v ↦ absurd (no_byte 0 256 q (root_stands s t (branch_at 0 256) refl) (omega arith) v) | inr none ↦ absurd none ],
      );
    },
  )

  -- a leaf with one value, which lies in its place: it is left as it is, with its pair ahead
  pub inline_back : (before xs : List Branch) (n from b below k end : ℕ) (x : P) → IsCursor s (xs ++ branch_at n from ∷ []) → b < from → b + 1 ≤ 256 → k < 2 ^ 64
      → ((q : ℕ) → b < q → q < from → (heap_of s n).children q ≡ Nothing) → (heap_of s n).children b ≡ Below below → StandsWith s below k x
      → SameAhead s before (xs ++ branch_at n from ∷ []) → IsAt s before end
      → IsGreatestPair (pairs_of s) end k x × IsAt s (xs ++ branch_at n b ∷ []) k
  inline_back before xs n from b below k end x h lo hi lk free e l same at =
      let leaf : Leaf (heap_of s) below (key_bytes k) x = leaf_of s (key_bytes k) below l.leaf x (key_length k) l.is l.has in
      let byte : ℕ = get_or (key_bytes k) (length (heap_of s below).prefix) 0 in
      let down = entered_back before xs n from b below h lo hi free e same in
      let ys : List Branch = xs ++ branch_at n (b + 1) ∷ [] in
      let both = found_back before ys below 256 byte k end x down.0 (byte_small k (length (heap_of s below).prefix) (omega (arith, leaf.seven))) lk
      (λ q a z. leaf.empty q (λ w. absurd (omega (arith, w, a)))) leaf.value leaf.fitted refl down.1 at in
      let beyond : IsCursor s (ys ++ branch_at below byte ∷ []) = cursor_moved s ys below 256 byte (omega (arith, byte_small k (length (heap_of s below).prefix) (omega (arith, leaf.seven)))) down.0 in
      let gone = popped_back (ys ++ branch_at below byte ∷ []) xs n (b + 1) below byte beyond (λ q a. leaf.empty q (λ w. absurd (omega (arith, w, a)))) (record { same = λ q has. (λ a. a, λ a. a) }) in
      let less : b + 1 - 1 ≡ b = omega arith in
      let still : SameAhead s (ys ++ branch_at below byte ∷ []) (xs ++ branch_at n b ∷ []) = subst (λ f. SameAhead s (ys ++ branch_at below byte ∷ []) (xs ++ branch_at n f ∷ [])) less gone.1 in
      (both.0, record { ahead = λ q has. (λ a. (still.same q has).0 ((both.1.ahead q has).0 a), λ a. (both.1.ahead q has).1 ((still.same q has).1 a)) })
