-- The pair of the least key from one on, of those at and below a node.
use Rattle.std.proofs.Common.{◌≡◌, ℕ, ◌+◌, ◌*◌, ◌%◌, ◌^◌, ◌<◌, ◌≤◌, ◌⊎◌, arith, [], ◌∷◌, length, sym, ◌∙◌, ap, subst, inl, inr}
use Rattle.std.specs.Prelude.{None, Some, Option}
use Rattle.std.specs.FinMap.{get}
use Rattle.std.proofs.Math.Nat.{mod-eq_of_lt}
use Rattle.std.proofs.lemmas.Bool.{cases_lt}
use Rattle.judge.specs.Answer.{Pairs}
use Rattle.congee.specs.declared.forms.base_node.Node.{Node as Form}
use Rattle.congee.specs.declared.forms.child.Child.{Child}
use Rattle.congee.specs.declared.forms.child.Child.TheVariants.{Blank, Node as Sub, Value}
use Rattle.congee.specs.declared.protocol.store.Region.{Region}
use Rattle.congee.specs.forms.Bytes.{IsFirst}
use Rattle.congee.specs.forms.Forms.{children_of}
use Rattle.congee.specs.Heap.{Node, Nothing, Below}
use Rattle.congee.specs.Keys.{IsMapOf}
use Rattle.congee.specs.Notes.{Note, Tree}
use Rattle.congee.specs.owned.Nearest.{IsLeast}
use Rattle.congee.specs.protocol.Regions.{IsRegion, span, start_at}
use Rattle.congee.specs.protocol.Scans.{Lacked}
use Rattle.congee.proofs.Laws.{start_at_end, start_mono, child_after, child_before, lacks_bytes, lacks_beside, has_value}
use Rattle.joint.specs.declared.id.Id.{Id}
use Rattle.joint.specs.declared.nodes.slot.LockWord.{LockWord}
use Rattle.joint.specs.nodes.Levels.{IsNodeIn}
use Rattle.joint.specs.nodes.Nearest.{FindsFirst, IsFirstFrom, IsFirstOf, NoneFromBoth}
use Rattle.joint.specs.nodes.Survey.{IsTree}
use Rattle.joint.specs.nodes.View.{id_number, hung_at, shape}
use Rattle.joint.proofs.lemmas.nodes.Surveying.{within}

-- no key from one on under the bytes before this one has a value
pub record NoneSoFar {V : Type 0} (h : ℕ → Node V) (n : ℕ) (x : Region) (start from : ℕ) : Type 0 where
  pub bound : from ≤ 256
  pub region : IsRegion (h n).prefix x.base x.depth
  pub none : (m : Pairs V) → IsMapOf h m → NoneFromBoth m start x.base (start_at x.base x.depth from)

-- so it is before the first byte whose keys may be past that
pub first_begun : {V : Type 0} (h : ℕ → Node V) (n : ℕ) (x : Region) (start from : ℕ) → IsRegion (h n).prefix x.base x.depth → from ≤ 256 → (start_at x.base x.depth from ≤ start) ⊎ (from ≡ 0) → NoneSoFar h n x start from
first_begun h n x start from r small begins = record {
  bound = small;
  region = r;
  none = λ m st q l b hi. elim begins [
    | inl e ↦ absurd (omega (arith, hi, e, l))
    | inr z ↦ (let P : ℕ → Type 0 = λ j. q < start_at x.base x.depth j in let hi0 : q < start_at x.base x.depth 0 = subst P z hi in absurd (omega (arith, hi0, b)))
  ];
}

module _ {V : Type 0} (h : ℕ → Node V) (n : ℕ) (i : IsNodeIn h n) (x : Region) (start from : ℕ) (so : NoneSoFar h n x start from) where
  abbrev a : ℕ → Note
  a = i.tree.notes

  abbrev t : Tree a h
  t = i.tree.tree

  abbrev at : ℕ → ℕ
  at b = start_at x.base x.depth b

  lacks : (m : Pairs V) (k : ℕ) → Lacked (m ∷ []) k → get m k ≡ None
  lacks m k (inl e) = e
  lacks m k (inr z) = absurd z

  -- bytes at which nothing hangs
  bare : (m : Pairs V) → IsMapOf h m → (b c : ℕ) → b ≤ c → c ≤ 256 → ((q : ℕ) → b ≤ q → q < c → (h n).children q ≡ Nothing) → (q : ℕ) → at b ≤ q → q < at c → get m q ≡ None
  bare m st b c l small none q lo hi =
      let w = within h n i x so.region c q small hi in
      lacks m q (lacks_bytes a h t m st [] n x.base x.depth i.linked so.region b c q w.0 (omega (arith, lo)) w.1 lo hi none)

  past : (m : Pairs V) → IsMapOf h m → (b : ℕ) → from ≤ b → b ≤ 256 → ((q : ℕ) → from ≤ q → q < b → (h n).children q ≡ Nothing) → NoneFromBoth m start x.base (at b)
  past m st b l small none q s u hi = elim (cases_lt q (at from)) [
    | inl e ↦ so.none m st q s u e
    | inr e ↦ bare m st from b l small none q e hi
  ]

  last_of : (b : ℕ) → b ≤ 256 → at b ≤ x.base + span x.depth
  last_of b small =
      let up = start_mono (h n).prefix x.base x.depth so.region b 256 small in
      let e = start_at_end (h n).prefix x.base x.depth so.region in
      omega (arith, up, e)

  module _ (y : Form Id V) (w : LockWord) (e : shape y w ≡ h n) where
    hangs : (b : ℕ) (o : Option (Child Id V)) → get (children_of y) b ≡ o → (h n).children b ≡ hung_at o
    hangs b o g = sym (ap (λ (z : Node V). z.children b) e) ∙ ap hung_at g

    module _ (b : ℕ) (child : Child Id V) (first : IsFirst (children_of y) from b child) where
      abbrev here : (h n).children b ≡ hung_at (Some child)
      here = hangs b (Some child) first.here

      before : (q : ℕ) → from ≤ q → q < b → (h n).children q ≡ Nothing
      before q lo hi = hangs q None (first.before q lo hi)

      -- the node at the byte is in the tree, and has a longer prefix, of 7 bytes at most
      pub first_in : (c : Id) → child ≡ Sub c → IsNodeIn h (id_number c) × (length (h n).prefix < length (h (id_number c)).prefix) × (length (h (id_number c)).prefix ≤ 7)
      first_in c is =
          let d = t.down n b (id_number c) i.linked (here ∙ ap (λ z. hung_at (Some z)) is) in
          (record { tree = i.tree; linked = d.linked }, d.longer, t.short (id_number c) d.linked)

      module _ (small : b < 256) where
        upto : (m : Pairs V) → IsMapOf h m → NoneFromBoth m start x.base (at b)
        upto m st = past m st b first.past (omega (arith, small)) before

        module _ (c : Id) (is : child ≡ Sub c) (o : Option (ℕ × V)) (p : FindsFirst h (id_number c) start o) where
          abbrev z : Region
          z = record { base = p.base; depth = p.depth }

          hung : (h n).children b ≡ Below (id_number c)
          hung = here ∙ ap (λ s. hung_at (Some s)) is

          lo : at b ≤ p.base
          lo = child_after a h t n x.base x.depth i.linked so.region b (id_number c) z hung p.region

          hi : p.base + span p.depth ≤ at (b + 1)
          hi = child_before a h t n x.base x.depth i.linked so.region b (id_number c) z hung p.region

          beside : (m : Pairs V) → IsMapOf h m → (q : ℕ) → at b ≤ q → q < at (b + 1) → (q < p.base) ⊎ (p.base + span p.depth ≤ q) → get m q ≡ None
          beside m st q f g ne = lacks m q (lacks_beside a h t m st [] n x.base x.depth i.linked so.region b (id_number c) z small hung p.region q (within h n i x so.region (b + 1) q (omega (arith, small)) g).0 f g ne)

          -- where none is found below the child at a byte, there is none before the next byte
          pub first_passed : o ≡ None → NoneSoFar h n x start (b + 1)
          first_passed q_is = record {
            bound = omega (arith, small);
            region = so.region;
            none = λ m st q s u g. elim (cases_lt q (at b)) [
              | inl l ↦ upto m st q s u l
              | inr l ↦ elim (cases_lt q p.base) [
                | inl k ↦ beside m st q l g (inl k)
                | inr k ↦ elim (cases_lt q (p.base + span p.depth)) [
                  | inl j ↦ (let P : Option (ℕ × V) → Type 0 = λ r. IsFirstFrom m start p.base (p.base + span p.depth) r in let f : NoneFromBoth m start p.base (p.base + span p.depth) = subst P q_is (p.first m st) in f q s k j)
                  | inr j ↦ beside m st q l g (inr j)
                ]
              ]
            ];
          }

          -- what is found below it is what is found at the node
          pub first_below_found : (pair : ℕ × V) → o ≡ Some pair → FindsFirst h n start (Some pair)
          first_below_found pair q_is = record {
            base = x.base;
            depth = x.depth;
            region = so.region;
            first = λ m st.
                let P : Option (ℕ × V) → Type 0 = λ r. IsFirstFrom m start p.base (p.base + span p.depth) r in
                let f : IsFirstOf m start p.base (p.base + span p.depth) pair.0 pair.1 = subst P q_is (p.first m st) in
                let top = last_of (b + 1) (omega (arith, small)) in
                record {
                  past = f.past;
                  inside = omega (arith, lo, f.inside);
                  below = omega (arith, f.below, hi, top);
                  here = f.here;
                  before = λ q s u g. elim (cases_lt q (at b)) [
                    | inl l ↦ upto m st q s u l
                    | inr l ↦ elim (cases_lt q p.base) [
                      | inl k ↦ beside m st q l (omega (arith, g, f.below, hi)) (inl k)
                      | inr k ↦ f.before q s k g
                    ]
                  ];
                };
          }

        module _ (v : V) (is : child ≡ Value v) (key : ℕ) (ek : key ≡ at b) where
          -- the byte has one key, and its value
          one_key : (m : Pairs V) → IsMapOf h m → (at (b + 1) ≡ key + 1) × (get m key ≡ Some v)
          one_key m st =
              let o = has_value a h t m st [] n x.base x.depth i.linked so.region b v small (here ∙ ap (λ s. hung_at (Some s)) is) in
              let one : span (x.depth + 1) ≡ 1 = ap (λ d. span (d + 1)) o.0 in
              let e0 : at b ≡ x.base + b = ap (λ s. x.base + b * s) one ∙ omega arith in
              let e1 : at (b + 1) ≡ x.base + (b + 1) = ap (λ s. x.base + (b + 1) * s) one ∙ omega arith in
              let ks : x.base + b ≡ key = sym (ek ∙ e0) in
              let Q : ℕ → Type 0 = λ q. get m q ≡ Some v in
              (omega (arith, e1, ks), subst Q ks o.2)

          -- where the key of the value at a byte is less, there is none before the next byte
          pub first_lesser : key < start → NoneSoFar h n x start (b + 1)
          first_lesser less = record {
            bound = omega (arith, small);
            region = so.region;
            none = λ m st q s u g. absurd (let o = (one_key m st).0 in omega (arith, o, g, s, less));
          }

          -- and else its pair is found
          pub first_value_found : start ≤ key → FindsFirst h n start (Some (key, v))
          first_value_found l = record {
            base = x.base;
            depth = x.depth;
            region = so.region;
            first = λ m st.
                let o = one_key m st in
                let top = last_of (b + 1) (omega (arith, small)) in
                record {
                  past = l;
                  inside = omega (arith, ek);
                  below = omega (arith, o.0, top);
                  here = o.1;
                  before = λ q s u g. upto m st q s u (omega (arith, g, ek));
                };
          }

        -- with a blank at a byte, there is none before the next byte
        pub first_blank : child ≡ Blank → NoneSoFar h n x start (b + 1)
        first_blank is = record {
          bound = omega (arith, small);
          region = so.region;
          none = λ m st q s u g. elim (cases_lt q (at b)) [
            | inl l ↦ upto m st q s u l
            | inr l ↦ bare m st b (b + 1) (omega arith) (omega (arith, small)) (λ j jl jh.
                let j_is : b ≡ j = omega (arith, jl, jh) in
                let P : ℕ → Type 0 = λ k. (h n).children k ≡ Nothing in
                subst P j_is (here ∙ ap (λ s. hung_at (Some s)) is)) q l g
          ];
        }

    -- where no child is left, none is found
    pub first_ended : ((b : ℕ) → from ≤ b → get (children_of y) b ≡ None) → FindsFirst h n start None
    first_ended none = record {
      base = x.base;
      depth = x.depth;
      region = so.region;
      first = λ m st q s u g. past m st 256 so.bound (omega arith) (λ j lo hi. hangs j None (none j lo)) q s u (let e = start_at_end (h n).prefix x.base x.depth so.region in omega (arith, g, e));
    }

-- what is found at and below the root is that of the map
pub first_of_all : {V : Type 0} (h : ℕ → Node V) → IsTree h → (start : ℕ) (o : Option (ℕ × V)) → FindsFirst h 0 start o → (m : Pairs V) → IsMapOf h m → IsLeast m start o
first_of_all {V} h t start o p m st =
    let d : p.depth ≡ 0 = p.region.depth_is ∙ ap length t.tree.empty in
    let s : span p.depth ≡ 2 ^ 64 = ap span d in
    let z : p.base ≡ 0 = sym (mod-eq_of_lt p.region.small) ∙ ap (λ q. p.base % q) (sym s) ∙ p.region.even in
    let e : p.base + span p.depth ≡ 2 ^ 64 = omega (arith, s, z) in
    let Q : ℕ → ℕ → Type 0 = λ b c. IsFirstFrom m start b c o in
    by o (let P : ℕ → Type 0 = λ c. Q 0 c in subst P e (let R : ℕ → Type 0 = λ b. Q b (p.base + span p.depth) in subst R z (p.first m st))) where
      by : (r : Option (ℕ × V)) → IsFirstFrom m start 0 (2 ^ 64) r → IsLeast m start r
      by None f = λ q l. elim (cases_lt q (2 ^ 64)) [
        | inl u ↦ f q l (omega arith) u
        | inr u ↦ st.none_beyond q u
      ]
      by (Some pair) f = record {
        past = f.past;
        here = f.here;
        before = λ q l g. f.before q l (omega arith) g;
      }
