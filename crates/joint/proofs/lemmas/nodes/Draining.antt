-- A value goes out of its leaf, and a drainer takes the pairs of a tree one after the other.
use Rattle.std.proofs.Common.{◌≡◌, ◌≢◌, ℕ, ◌<◌, ◌≤◌, ◌+◌, ◌*◌, ◌^◌, ◌⊎◌, true, List, [], ◌∷◌, length, get_or, refl, sym, ◌∙◌, ap, subst, inl, inr, arith}
use Rattle.std.specs.Prelude.{None, Some}
use Rattle.std.specs.FinMap as map
use Rattle.std.proofs.lemmas.Bool.{cases_lt}
use Rattle.std.proofs.lemmas.Bool.Decides.{nat_tests}
use Rattle.judge.specs.Answer.{Pairs}
use Rattle.congee.specs.owned.Nearest.{IsLeastPair}
use Rattle.congee.specs.forms.Places.{AllKeys}
use Rattle.congee.specs.Heap.{Node, Hung, Nothing, Below, Holds, Stands, fits, value_at}
use Rattle.congee.specs.Keys.{key_bytes, IsMapOf}
use Rattle.congee.specs.Notes.{Note, Tree, Linked}
use Rattle.congee.specs.declared.protocol.store.Region.{Region}
use Rattle.congee.specs.owned.Ranges.{in_range}
use Rattle.congee.specs.protocol.Regions.{IsRegion, span, start_at}
use Rattle.congee.specs.protocol.Events.{ChangeGives}
use Rattle.congee.proofs.Laws.{same_key, Graft, old_down, old_leaves, old_up, key_apart, key_length, same_or_not, value_at_linked, walk_aside, all_found, get_find, within_keys, byte_low, byte_high, region_top, range_none, range_first, range_all}
use Rattle.joint.specs.nodes.Draining.{Takes, AgreesFrom, pairs_from, Drained}
use Rattle.joint.specs.nodes.Levels.{IsNodeIn}
use Rattle.joint.specs.nodes.Survey.{NoneStand}

-- a value goes out of the node where it hung
module _ {V : Type 0} (h : ℕ → Node V) (n b : ℕ) (value : V) (h' : ℕ → Node V) (k : ChangeGives h n b Nothing h') (was : (h n).children b ≡ Holds value) where
  -- every node has the prefix that it had
  pub same_prefix : (m : ℕ) → (h' m).prefix ≡ (h m).prefix
  same_prefix m = elim (same_or_not m n) [
    | inl e ↦ (let P : ℕ → Type 0 = λ x. (h' x).prefix ≡ (h x).prefix in subst P (sym e) k.prefix)
    | inr ne ↦ ap (λ x. x.prefix) (k.others m ne)
  ]

  -- every node that stood stands
  pub stands_still : (m : ℕ) → Stands (h m) → Stands (h' m)
  stands_still m s = elim (same_or_not m n) [
    | inl e ↦ (let P : ℕ → Type 0 = λ x. Stands (h x) → Stands (h' x) in subst P (sym e) (λ t. record { made = k.made ∙ t.made; kept = k.destroyed ∙ t.kept }) s)
    | inr ne ↦ subst Stands (sym (k.others m ne)) s
  ]

  bare : (m c : ℕ) (x : Hung V) → (h' m).children c ≡ x → (x ≡ Nothing → ⊥) → m ≡ n → c ≡ b → ⊥
  bare m c x e some em ec = some (sym e ∙ ap (λ y. (h' y).children c) em ∙ ap (λ y. (h' n).children y) ec ∙ k.child)

  no_node : (m : ℕ) → (h n).children b ≡ Below m → ⊥
  no_node m e = let z : Holds value ≡ Below m = sym was ∙ e in cc

  module _ (a : ℕ → Note) (t : Tree a h) (l : (a n).status ≡ Linked) where
    graft : Graft a h a h' n b
    graft = record {
      prefix = λ m _. same_prefix m;
      others = λ m c _ _ ne. ap (λ x. x.children c) (k.others m ne);
      beside = k.beside;
      stays = λ m s _. s;
      parents = λ m _ _ _. refl;
    }

    -- the nodes are a tree still, where the value's node is linked in it
    pub still_tree : Tree a h'
    still_tree = record {
      root = t.root;
      empty = same_prefix 0 ∙ t.empty;
      short = λ m s. rw (same_prefix m) (t.short m s);
      leaves = λ m c v s e. old_leaves a h a h' n b t graft m c v s s (bare m c (Holds v) e (λ q. cc)) e;
      down = λ m c d s e. old_down a h a h' n b t l graft m c d s s (bare m c (Below d) e (λ q. cc)) e;
      up = λ m s ne. old_up a h a h' n b t l graft m s ne (no_node m) (t.up m s ne).linked;
    }

    -- each key but one stands as it did
    others_stand : (key x : List ℕ) → length key ≡ 8 → length x ≡ 8 → fits (h n).prefix key ≡ true → length (h n).prefix ≡ 7 → b ≡ get_or key (length (h n).prefix) 0 → x ≢ key
        → value_at h' x ≡ value_at h x
    others_stand key x lk lx fit seven eb ne =
        walk_aside a h h' n b t (record { prefix = λ m _. same_prefix m; others = λ m c _ q. ap (λ z. z.children c) (k.others m q); beside = k.beside }) 8 0 x t.root
        (λ fx by. ne (same_key (h n).prefix x key fx fit (omega (arith, lx, seven)) (omega (arith, lk, seven)) (by ∙ eb)))

-- a range without its first keys, which have no pair
module _ {X : Type 0} (start mid end : ℕ) (order : start ≤ mid) where
  skips : (es : List (ℕ × X)) → AllKeys (λ k. (k < start) ⊎ (mid ≤ k)) es → in_range start end es ≡ in_range mid end es
  skips [] a = refl
  skips ((k, x) ∷ r) a =
      let rest = skips r a.1 in
      elim a.0 [
        | inl l ↦ grind (arith, nat_tests, l, order, rest)
        | inr l ↦ grind (arith, nat_tests, l, order, rest)
      ]

  range_skip : (m : Pairs X) → ((q : ℕ) → start ≤ q → q < mid → map.get m q ≡ None) → in_range start end (map.entries m) ≡ in_range mid end (map.entries m)
  range_skip m none = skips (map.entries m) (all_found (λ k. (k < start) ⊎ (mid ≤ k)) (map.entries m) (λ k s. elim (cases_lt k start) [
    | inl l ↦ inl l
    | inr l ↦ elim (cases_lt k mid) [
      | inl u ↦ (let z : map.get m k ≡ None = none k l u in let f = get_find m k in absurd (cc (s, z, f)))
      | inr u ↦ inr u
    ]
  ]))

-- the value under a byte of a leaf
module _ {V : Type 0} (h : ℕ → Node V) (n : ℕ) (i : IsNodeIn h n) (x : Region) (r : IsRegion (h n).prefix x.base x.depth) (b : ℕ) (v : V) (small : b < 256) (was : (h n).children b ≡ Holds v) where
  abbrev key : ℕ
  key = start_at x.base x.depth b

  seven : x.depth ≡ 7
  seven = r.depth_is ∙ i.tree.tree.leaves n b v i.linked was

  one : span (x.depth + 1) ≡ 1
  one = ap (λ d. span (d + 1)) seven

  key_is : key ≡ x.base + b
  key_is = ap (λ w. x.base + b * w) one ∙ omega arith

  next : start_at x.base x.depth (b + 1) ≡ key + 1
  next = ap (λ w. x.base + (b + 1) * w) one ∙ omega (arith, key_is)

  fits_key : (key < 2 ^ 64) × (fits (h n).prefix (key_bytes key) ≡ true)
  fits_key =
      let all : span x.depth ≡ 256 = ap span seven in
      let top = region_top (h n).prefix x.base x.depth r in
      let s : key < 2 ^ 64 = omega (arith, top, all, small, key_is) in
      (s, within_keys (h n).prefix x.base x.depth r key s (omega (arith, key_is)) (omega (arith, all, small, key_is)))

  byte_is : b ≡ get_or (key_bytes key) (length (h n).prefix) 0
  byte_is =
      let lo = byte_low (h n).prefix x.base x.depth r key b fits_key.0 fits_key.1 (omega arith) in
      let hi = byte_high (h n).prefix x.base x.depth r key (b + 1) fits_key.0 fits_key.1 (omega (arith, next)) in
      omega (arith, lo, hi)

  value_is : value_at h (key_bytes key) ≡ Some v
  value_is = value_at_linked i.tree.notes h i.tree.tree n (key_bytes key) (Holds v) i.linked fits_key.1 (ap (λ y. (h n).children y) (sym byte_is) ∙ was)

  first : (m : Pairs V) → AgreesFrom h key m → IsLeastPair m key key v
  first m agrees = record {
    past = omega arith;
    here = agrees key (omega arith) fits_key.0 ∙ value_is;
    before = λ q lo hi. absurd (omega (arith, lo, hi));
  }

  -- the drainer takes its pair
  pub takes_value : (h' : ℕ → Node V) → ChangeGives h n b Nothing h' → {D : Type 0} (drains : D → ℕ → V → D → Type 0) (before after : D) → drains before key v after
      → Takes drains h key before h' (start_at x.base x.depth (b + 1)) after
  takes_value h' k {D} drains before after d =
      let P : ℕ → Type 0 = λ to. Takes drains h key before h' to after in
      subst P (sym next) (record {
        rest = λ q lo s. others_stand h n b v h' k was i.tree.notes i.tree.tree i.linked (key_bytes key) (key_bytes q) (key_length key) (key_length q) fits_key.1 (sym r.depth_is ∙ seven) byte_is
            (key_apart q key s fits_key.0 (λ z. absurd (omega (arith, lo, z))));
        drained = λ m agrees last l.
            let Q : List (ℕ × V) → Type 0 = λ es. Drained drains before es last in
            subst Q (sym (range_first m key (2 ^ 64) key v (first m agrees) fits_key.0)) (after, d, l);
      })

module _ {V D : Type 0} (drains : D → ℕ → V → D → Type 0) where
  -- where no pair stands from a key to before another, a drainer that takes nothing took them all
  pub takes_none : (h : ℕ → Node V) (from to : ℕ) (before : D) → from ≤ to → to ≤ 2 ^ 64 → NoneStand h from to → Takes drains h from before h to before
  takes_none h from to before order small none = record {
    rest = λ q lo s. refl;
    drained = λ m agrees final l.
        let Q : List (ℕ × V) → Type 0 = λ es. Drained drains before es final in
        subst Q (sym (range_skip from to (2 ^ 64) order m (λ q lo hi. agrees q lo (omega (arith, hi, small)) ∙ none q lo hi))) l;
  }

  -- a drainer that took nothing took all pairs from a key to before the same
  pub takes_begin : (h : ℕ → Node V) (from : ℕ) (before : D) → Takes drains h from before h from before
  takes_begin h from before = record { rest = λ q lo s. refl; drained = λ m agrees final l. l }

  -- who took the pairs up to a key and then those from there on took them all
  pub takes_more : (h h1 h2 : ℕ → Node V) (from mid to : ℕ) (before between after : D) → from ≤ mid → mid ≤ to → Takes drains h from before h1 mid between → Takes drains h1 mid between h2 to after
      → Takes drains h from before h2 to after
  takes_more h h1 h2 from mid to before between after l u x y = record {
    rest = λ q lo s. y.rest q lo s ∙ x.rest q (omega (arith, lo, u)) s;
    drained = λ m agrees final d. x.drained m agrees final (y.drained m (λ q lo s. agrees q (omega (arith, lo, l)) s ∙ sym (x.rest q lo s)) final d);
  }

  -- who took the pairs from the first key to the last took all of the map
  pub takes_all : (h h' : ℕ → Node V) (before after : D) → Takes drains h 0 before h' (2 ^ 64) after → (m : Pairs V) → IsMapOf h m → Drained drains before (map.entries m) after
  takes_all h h' before after x m st =
      let Q : List (ℕ × V) → Type 0 = λ es. Drained drains before es after in
      let R : List (ℕ × V) → Type 0 = λ es. Drained drains after es after in
      let none : pairs_from (2 ^ 64) m ≡ [] = range_none m (2 ^ 64) (2 ^ 64) (λ q lo hi. absurd (omega (arith, lo, hi))) in
      subst Q (range_all m (2 ^ 64) st.none_beyond) (x.drained m (λ q lo s. st.at q s) after (subst R (sym none) refl))
