-- The pair of the greatest key before one, of those at and below a node.
use Rattle.std.proofs.Common.{◌≡◌, ℕ, ◌+◌, ◌*◌, ◌%◌, ◌^◌, ◌<◌, ◌≤◌, ◌⊎◌, arith, [], ◌∷◌, length, sym, ◌∙◌, ap, subst, inl, inr}
use Rattle.std.specs.Prelude.{None, Some, Option}
use Rattle.std.specs.FinMap.{get}
use Rattle.std.proofs.Math.Nat.{mod-eq_of_lt}
use Rattle.std.proofs.lemmas.Bool.{cases_lt}
use Rattle.judge.specs.Answer.{Pairs}
use Rattle.congee.specs.declared.forms.base_node.Node.{Node as Form}
use Rattle.congee.specs.declared.forms.child.Child.{Child}
use Rattle.congee.specs.declared.forms.child.Child.TheVariants.{Blank, Node as Sub, Value}
use Rattle.congee.specs.declared.protocol.store.Region.{Region}
use Rattle.congee.specs.forms.Forms.{children_of}
use Rattle.congee.specs.Heap.{Node, Nothing, Below}
use Rattle.congee.specs.Keys.{IsMapOf}
use Rattle.congee.specs.Notes.{Note, Tree}
use Rattle.congee.specs.owned.Nearest.{IsGreatest}
use Rattle.congee.specs.protocol.Regions.{IsRegion, span, start_at}
use Rattle.congee.specs.protocol.Scans.{Lacked}
use Rattle.congee.proofs.Laws.{start_at_end, start_mono, child_after, child_before, lacks_bytes, lacks_beside, has_value}
use Rattle.joint.specs.declared.id.Id.{Id}
use Rattle.joint.specs.declared.nodes.slot.LockWord.{LockWord}
use Rattle.joint.specs.nodes.Levels.{IsNodeIn}
use Rattle.joint.specs.nodes.Nearest.{FindsLast, IsFinal, IsLastOf, IsLastTo, NoneToBoth}
use Rattle.joint.specs.nodes.Survey.{IsTree}
use Rattle.joint.specs.nodes.View.{id_number, hung_at, shape}
use Rattle.joint.proofs.lemmas.nodes.Surveying.{within}

-- no key before one under the bytes from this one on has a value
pub record NoneYet {V : Type 0} (h : ℕ → Node V) (n : ℕ) (x : Region) (to end : ℕ) : Type 0 where
  pub bound : end ≤ 256
  pub region : IsRegion (h n).prefix x.base x.depth
  pub none : (m : Pairs V) → IsMapOf h m → NoneToBoth m (start_at x.base x.depth end) (x.base + span x.depth) to

-- so it is from the first byte on whose keys are none of those
pub last_begun : {V : Type 0} (h : ℕ → Node V) (n : ℕ) (x : Region) (to end : ℕ) → IsRegion (h n).prefix x.base x.depth → end ≤ 256 → (to ≤ start_at x.base x.depth end) ⊎ (end ≡ 256) → NoneYet h n x to end
last_begun h n x to end r small begins = record {
  bound = small;
  region = r;
  none = λ m st q l u g. elim begins [
    | inl e ↦ absurd (omega (arith, l, e, g))
    | inr z ↦ (
        let P : ℕ → Type 0 = λ j. start_at x.base x.depth j ≤ q in
        let lo : start_at x.base x.depth 256 ≤ q = subst P z l in
        let e = start_at_end (h n).prefix x.base x.depth r in
        absurd (omega (arith, lo, u, e)))
  ];
}

module _ {V : Type 0} (h : ℕ → Node V) (n : ℕ) (i : IsNodeIn h n) (x : Region) (to end : ℕ) (so : NoneYet h n x to end) where
  abbrev a : ℕ → Note
  a = i.tree.notes

  abbrev t : Tree a h
  t = i.tree.tree

  abbrev at : ℕ → ℕ
  at b = start_at x.base x.depth b

  abbrev top : ℕ
  top = x.base + span x.depth

  lacks : (m : Pairs V) (k : ℕ) → Lacked (m ∷ []) k → get m k ≡ None
  lacks m k (inl e) = e
  lacks m k (inr z) = absurd z

  -- bytes at which nothing hangs
  bare : (m : Pairs V) → IsMapOf h m → (b c : ℕ) → b ≤ c → c ≤ 256 → ((q : ℕ) → b ≤ q → q < c → (h n).children q ≡ Nothing) → (q : ℕ) → at b ≤ q → q < at c → get m q ≡ None
  bare m st b c l small none q lo hi =
      let w = within h n i x so.region c q small hi in
      lacks m q (lacks_bytes a h t m st [] n x.base x.depth i.linked so.region b c q w.0 (omega (arith, lo)) w.1 lo hi none)

  past : (m : Pairs V) → IsMapOf h m → (b : ℕ) → b ≤ end → ((q : ℕ) → b ≤ q → q < end → (h n).children q ≡ Nothing) → NoneToBoth m (at b) top to
  past m st b l none q s u g = elim (cases_lt q (at end)) [
    | inl e ↦ bare m st b end l so.bound none q s e
    | inr e ↦ so.none m st q e u g
  ]

  last_of : (b : ℕ) → b ≤ 256 → at b ≤ top
  last_of b small =
      let up = start_mono (h n).prefix x.base x.depth so.region b 256 small in
      let e = start_at_end (h n).prefix x.base x.depth so.region in
      omega (arith, up, e)

  module _ (y : Form Id V) (w : LockWord) (e : shape y w ≡ h n) where
    hangs : (b : ℕ) (o : Option (Child Id V)) → get (children_of y) b ≡ o → (h n).children b ≡ hung_at o
    hangs b o g = sym (ap (λ (z : Node V). z.children b) e) ∙ ap hung_at g

    module _ (b : ℕ) (child : Child Id V) (final : IsFinal (children_of y) end b child) where
      abbrev here : (h n).children b ≡ hung_at (Some child)
      here = hangs b (Some child) final.here

      small : b < 256
      small = let l = final.below in let m = so.bound in omega (arith, l, m)

      after : (q : ℕ) → b + 1 ≤ q → q < end → (h n).children q ≡ Nothing
      after q lo hi = hangs q None (final.after q (omega (arith, lo)) hi)

      -- the node at the byte is in the tree, and has a longer prefix, of 7 bytes at most
      pub last_in : (c : Id) → child ≡ Sub c → IsNodeIn h (id_number c) × (length (h n).prefix < length (h (id_number c)).prefix) × (length (h (id_number c)).prefix ≤ 7)
      last_in c is =
          let d = t.down n b (id_number c) i.linked (here ∙ ap (λ z. hung_at (Some z)) is) in
          (record { tree = i.tree; linked = d.linked }, d.longer, t.short (id_number c) d.linked)

      beyond : (m : Pairs V) → IsMapOf h m → NoneToBoth m (at (b + 1)) top to
      beyond m st = past m st (b + 1) (let l = final.below in omega (arith, l)) after

      module _ (c : Id) (is : child ≡ Sub c) (o : Option (ℕ × V)) (p : FindsLast h (id_number c) to o) where
        abbrev z : Region
        z = record { base = p.base; depth = p.depth }

        hung : (h n).children b ≡ Below (id_number c)
        hung = here ∙ ap (λ s. hung_at (Some s)) is

        lo : at b ≤ p.base
        lo = child_after a h t n x.base x.depth i.linked so.region b (id_number c) z hung p.region

        hi : p.base + span p.depth ≤ at (b + 1)
        hi = child_before a h t n x.base x.depth i.linked so.region b (id_number c) z hung p.region

        beside : (m : Pairs V) → IsMapOf h m → (q : ℕ) → at b ≤ q → q < at (b + 1) → (q < p.base) ⊎ (p.base + span p.depth ≤ q) → get m q ≡ None
        beside m st q f g ne = lacks m q (lacks_beside a h t m st [] n x.base x.depth i.linked so.region b (id_number c) z small hung p.region q (within h n i x so.region (b + 1) q (omega (arith, small)) g).0 f g ne)

        -- where none is found below the child at a byte, there is none from that byte on
        pub last_passed : o ≡ None → NoneYet h n x to b
        last_passed q_is = record {
          bound = omega (arith, small);
          region = so.region;
          none = λ m st q s u g. elim (cases_lt q (at (b + 1))) [
            | inr l ↦ beyond m st q l u g
            | inl l ↦ elim (cases_lt q p.base) [
              | inl k ↦ beside m st q s l (inl k)
              | inr k ↦ elim (cases_lt q (p.base + span p.depth)) [
                | inl j ↦ (let P : Option (ℕ × V) → Type 0 = λ r. IsLastTo m p.base (p.base + span p.depth) to r in let f : NoneToBoth m p.base (p.base + span p.depth) to = subst P q_is (p.last m st) in f q k j g)
                | inr j ↦ beside m st q s l (inr j)
              ]
            ]
          ];
        }

        -- what is found below it is what is found at the node
        pub last_below_found : (pair : ℕ × V) → o ≡ Some pair → FindsLast h n to (Some pair)
        last_below_found pair q_is = record {
          base = x.base;
          depth = x.depth;
          region = so.region;
          last = λ m st.
              let P : Option (ℕ × V) → Type 0 = λ r. IsLastTo m p.base (p.base + span p.depth) to r in
              let f : IsLastOf m p.base (p.base + span p.depth) to pair.0 pair.1 = subst P q_is (p.last m st) in
              let up = last_of (b + 1) (omega (arith, small)) in
              record {
                inside = omega (arith, lo, f.inside);
                below = omega (arith, f.below, hi, up);
                short = f.short;
                here = f.here;
                after = λ q s u g. elim (cases_lt q (at (b + 1))) [
                  | inr l ↦ beyond m st q l u g
                  | inl l ↦ elim (cases_lt q (p.base + span p.depth)) [
                    | inl j ↦ f.after q s j g
                    | inr j ↦ beside m st q (omega (arith, s, f.inside, lo)) l (inr j)
                  ]
                ];
              };
        }

      module _ (v : V) (is : child ≡ Value v) (key : ℕ) (ek : key ≡ at b) where
        -- the byte has one key, and its value
        one_key : (m : Pairs V) → IsMapOf h m → (at (b + 1) ≡ key + 1) × (get m key ≡ Some v)
        one_key m st =
            let o = has_value a h t m st [] n x.base x.depth i.linked so.region b v small (here ∙ ap (λ s. hung_at (Some s)) is) in
            let one : span (x.depth + 1) ≡ 1 = ap (λ d. span (d + 1)) o.0 in
            let e0 : at b ≡ x.base + b = ap (λ s. x.base + b * s) one ∙ omega arith in
            let e1 : at (b + 1) ≡ x.base + (b + 1) = ap (λ s. x.base + (b + 1) * s) one ∙ omega arith in
            let ks : x.base + b ≡ key = sym (ek ∙ e0) in
            let Q : ℕ → Type 0 = λ q. get m q ≡ Some v in
            (omega (arith, e1, ks), subst Q ks o.2)

        -- where the key of the value at a byte isn't before that one, there is none from that byte on
        pub last_greater : to ≤ key → NoneYet h n x to b
        last_greater more = record {
          bound = omega (arith, small);
          region = so.region;
          none = λ m st q s u g. absurd (omega (arith, ek, g, s, more));
        }

        -- and else its pair is found
        pub last_value_found : key < to → FindsLast h n to (Some (key, v))
        last_value_found l = record {
          base = x.base;
          depth = x.depth;
          region = so.region;
          last = λ m st.
              let o = one_key m st in
              let up = last_of (b + 1) (omega (arith, small)) in
              record {
                inside = omega (arith, ek);
                below = omega (arith, o.0, up);
                short = l;
                here = o.1;
                after = λ q s u g. beyond m st q (omega (arith, o.0, s)) u g;
              };
        }

      -- with a blank at a byte, there is none from that byte on
      pub last_blank : child ≡ Blank → NoneYet h n x to b
      last_blank is = record {
        bound = omega (arith, small);
        region = so.region;
        none = λ m st q s u g. elim (cases_lt q (at (b + 1))) [
          | inr l ↦ beyond m st q l u g
          | inl l ↦ bare m st b (b + 1) (omega arith) (omega (arith, small)) (λ j jl jh.
              let j_is : b ≡ j = omega (arith, jl, jh) in
              let P : ℕ → Type 0 = λ k. (h n).children k ≡ Nothing in
              subst P j_is (here ∙ ap (λ s. hung_at (Some s)) is)) q s l
        ];
      }

    -- where no child is left, none is found
    pub last_ended : ((b : ℕ) → b < end → get (children_of y) b ≡ None) → FindsLast h n to None
    last_ended none = record {
      base = x.base;
      depth = x.depth;
      region = so.region;
      last = λ m st q s u g. past m st 0 (omega arith) (λ j lo hi. hangs j None (none j hi)) q (omega (arith, s)) u g;
    }

-- what is found at and below the root is that of the map
pub last_of_all : {V : Type 0} (h : ℕ → Node V) → IsTree h → (to : ℕ) → to ≤ 2 ^ 64 → (o : Option (ℕ × V)) → FindsLast h 0 to o → (m : Pairs V) → IsMapOf h m → IsGreatest m to o
last_of_all {V} h t to small o p m st =
    let d : p.depth ≡ 0 = p.region.depth_is ∙ ap length t.tree.empty in
    let s : span p.depth ≡ 2 ^ 64 = ap span d in
    let z : p.base ≡ 0 = sym (mod-eq_of_lt p.region.small) ∙ ap (λ q. p.base % q) (sym s) ∙ p.region.even in
    let e : p.base + span p.depth ≡ 2 ^ 64 = omega (arith, s, z) in
    let Q : ℕ → ℕ → Type 0 = λ b c. IsLastTo m b c to o in
    by o (let P : ℕ → Type 0 = λ c. Q 0 c in subst P e (let R : ℕ → Type 0 = λ b. Q b (p.base + span p.depth) in subst R z (p.last m st))) where
      by : (r : Option (ℕ × V)) → IsLastTo m 0 (2 ^ 64) to r → IsGreatest m to r
      by None f = λ q g. f q (omega arith) (omega (arith, g, small)) g
      by (Some pair) f = record {
        below = f.short;
        here = f.here;
        after = λ q l g. f.after q (omega (arith, l)) (omega (arith, g, small)) g;
      }
