-- The keys at and below a node, put behind those before it.
use Rattle.std.proofs.Common.{◌≡◌, ℕ, ◌+◌, ◌*◌, ◌%◌, ◌^◌, ◌<◌, ◌≤◌, ◌⊎◌, arith, List, [], ◌∷◌, ◌++◌, length, refl, sym, ◌∙◌, ap, subst, inl, inr}
use Rattle.std.specs.Prelude.{None, Some, IsSome, Option}
use Rattle.std.specs.FinMap.{get}
use Rattle.std.proofs.Math.Nat.{mod-eq_of_lt}
use Rattle.std.proofs.lemmas.Bool.{cases_lt}
use Rattle.judge.specs.Answer.{Pairs}
use Rattle.congee.specs.declared.forms.base_node.Node.{Node as Form}
use Rattle.congee.specs.declared.forms.child.Child.{Child}
use Rattle.congee.specs.declared.forms.child.Child.TheVariants.{Blank, Node as Sub, Value}
use Rattle.congee.specs.declared.protocol.store.Region.{Region}
use Rattle.congee.specs.forms.Bytes.{IsFirst}
use Rattle.congee.specs.forms.Forms.{children_of}
use Rattle.congee.specs.Heap.{Node, Nothing, Below}
use Rattle.congee.specs.Keys.{IsMapOf}
use Rattle.congee.specs.Notes.{Note, Tree}
use Rattle.congee.specs.protocol.Regions.{IsRegion, span, start_at}
use Rattle.congee.specs.protocol.Scans.{Lacked}
use Rattle.congee.specs.protocol.ScanKnown.{end_of}
use Rattle.congee.proofs.Laws.{start_at_end, start_mono, span_pos, child_after, child_before, lacks_bytes, lacks_beside, has_value}
use Rattle.joint.specs.declared.id.Id.{Id}
use Rattle.joint.specs.declared.nodes.slot.LockWord.{LockWord}
use Rattle.joint.specs.nodes.Levels.{IsNodeIn}
use Rattle.joint.specs.nodes.Survey.{IsTree, AllAbove, Ascend, Has, AreKeys, AreKeysBelow, PutsKeys}
use Rattle.joint.specs.nodes.View.{id_number, hung_at, shape}
use Rattle.joint.proofs.lemmas.nodes.Surveying.{within}

is_none : {V : Type 0} (o : Option V) → o ≡ None → IsSome o → ⊥
is_none {V} o e s = let z : IsSome {T = V} None = subst IsSome e s in cc z

above_more : (j k : ℕ) (ks : List ℕ) → j < k → AllAbove j ks → AllAbove j (ks ++ k ∷ [])
above_more j k [] l a = (l, tt)
above_more j k (i ∷ ks) l a = (a.0, above_more j k ks l a.1)

ascend_more : (k : ℕ) (ks : List ℕ) → ((j : ℕ) → Has ks j → j < k) → Ascend ks → Ascend (ks ++ k ∷ [])
ascend_more k [] l a = (tt, tt)
ascend_more k (j ∷ ks) l a = (above_more j k ks (l j (inl refl)) a.0, ascend_more k ks (λ i x. l i (inr x)) a.1)

has_old : (k j : ℕ) (ks : List ℕ) → Has ks j → Has (ks ++ k ∷ []) j
has_old k j [] x = absurd x
has_old k j (i ∷ ks) (inl e) = inl e
has_old k j (i ∷ ks) (inr x) = inr (has_old k j ks x)

has_new : (k : ℕ) (ks : List ℕ) → Has (ks ++ k ∷ []) k
has_new k [] = inl refl
has_new k (i ∷ ks) = inr (has_new k ks)

has_cases : (k j : ℕ) (ks : List ℕ) → Has (ks ++ k ∷ []) j → Has ks j ⊎ (k ≡ j)
has_cases k j [] (inl e) = inr e
has_cases k j [] (inr x) = absurd x
has_cases k j (i ∷ ks) (inl e) = inl (inl e)
has_cases k j (i ∷ ks) (inr x) = elim (has_cases k j ks x) [ inl y ↦ inl (inr y) | inr e ↦ inr e ]

module _ {V : Type 0} (m : Pairs V) where
  keys_none : AreKeysBelow m 0 []
  keys_none = record { ascend = tt; below = λ k x. absurd x; stand = λ k x. absurd x; all = λ k l s. absurd (omega (arith, l)) }

  -- no key from one bound to another
  gap : (b c : ℕ) (ks : List ℕ) → b ≤ c → ((k : ℕ) → b ≤ k → k < c → get m k ≡ None) → AreKeysBelow m b ks → AreKeysBelow m c ks
  gap b c ks l none a = record {
    ascend = a.ascend;
    below = λ k x. let u = a.below k x in omega (arith, l, u);
    stand = a.stand;
    all = λ k u s. elim (cases_lt k b) [
      | inl q ↦ a.all k q s
      | inr q ↦ absurd (is_none (get m k) (none k q u) s)
    ];
  }

  -- the key at the bound
  one_more : (b : ℕ) (ks : List ℕ) → IsSome (get m b) → AreKeysBelow m b ks → AreKeysBelow m (b + 1) (ks ++ b ∷ [])
  one_more b ks here a = record {
    ascend = ascend_more b ks a.below a.ascend;
    below = λ k x. elim (has_cases b k ks x) [
      | inl y ↦ (let l = a.below k y in omega (arith, l))
      | inr e ↦ omega (arith, e)
    ];
    stand = λ k x. elim (has_cases b k ks x) [
      | inl y ↦ a.stand k y
      | inr e ↦ (let P : ℕ → Type 0 = λ y. IsSome (get m y) in subst P e here)
    ];
    all = λ k l s. elim (cases_lt k b) [
      | inl q ↦ has_old b k ks (a.all k q s)
      | inr q ↦ (let e : b ≡ k = omega (arith, l, q) in let P : ℕ → Type 0 = λ y. Has (ks ++ b ∷ []) y in subst P e (has_new b ks))
    ];
  }

  lacks : (k : ℕ) → Lacked (m ∷ []) k → get m k ≡ None
  lacks k (inl e) = e
  lacks k (inr x) = absurd x

  -- the keys below 2 ^ 64 are all keys of the map
  pub keys_all : (h : ℕ → Node V) → IsMapOf h m → (ks : List ℕ) → AreKeysBelow m (2 ^ 64) ks → AreKeys m ks
  keys_all h st ks a = record {
    ascend = a.ascend;
    each = λ k. (
      a.stand k,
      λ s. elim (cases_lt k (2 ^ 64)) [
        | inl l ↦ a.all k l s
        | inr l ↦ absurd (is_none (get m k) (st.none_beyond k l) s)
      ],
    );
  }

-- what was put so far at a node, with the bytes under `from`
pub record PutSoFar {V : Type 0} (h : ℕ → Node V) (n : ℕ) (x : Region) (from : ℕ) (old new : List ℕ) : Type 0 where
  pub bound : from ≤ 256
  pub region : IsRegion (h n).prefix x.base x.depth
  pub keys : (m : Pairs V) → IsMapOf h m → AreKeysBelow m x.base old → AreKeysBelow m (start_at x.base x.depth from) new

module _ {V : Type 0} (h : ℕ → Node V) (n : ℕ) (i : IsNodeIn h n) (x : Region) (r : IsRegion (h n).prefix x.base x.depth) where
  abbrev a : ℕ → Note
  a = i.tree.notes

  abbrev t : Tree a h
  t = i.tree.tree

  abbrev at : ℕ → ℕ
  at b = start_at x.base x.depth b

  -- bytes at which nothing hangs
  past : (m : Pairs V) → IsMapOf h m → (from b : ℕ) (ks : List ℕ) → from ≤ b → b ≤ 256 → ((q : ℕ) → from ≤ q → q < b → (h n).children q ≡ Nothing) → AreKeysBelow m (at from) ks → AreKeysBelow m (at b) ks
  past m st from b ks l small none k =
      gap m (at from) (at b) ks (start_mono (h n).prefix x.base x.depth r from b l) (λ q lo hi.
      let w = within h n i x r b q small hi in
      lacks m q (lacks_bytes a h t m st [] n x.base x.depth i.linked r from b q w.0 (omega (arith, lo)) w.1 lo hi none)) k

  module _ (y : Form Id V) (w : LockWord) (e : shape y w ≡ h n) where
    hangs : (b : ℕ) (o : Option (Child Id V)) → get (children_of y) b ≡ o → (h n).children b ≡ hung_at o
    hangs b o g = sym (ap (λ (z : Node V). z.children b) e) ∙ ap hung_at g

    module _ (from b : ℕ) (child : Child Id V) (first : IsFirst (children_of y) from b child) where
      abbrev here : (h n).children b ≡ hung_at (Some child)
      here = hangs b (Some child) first.here

      before : (q : ℕ) → from ≤ q → q < b → (h n).children q ≡ Nothing
      before q lo hi = hangs q None (first.before q lo hi)

      -- the node at the byte is in the tree, and has a longer prefix, of 7 bytes at most
      pub below_in : (c : Id) → child ≡ Sub c → IsNodeIn h (id_number c) × (length (h n).prefix < length (h (id_number c)).prefix) × (length (h (id_number c)).prefix ≤ 7)
      below_in c is =
          let d = t.down n b (id_number c) i.linked (here ∙ ap (λ z. hung_at (Some z)) is) in
          (record { tree = i.tree; linked = d.linked }, d.longer, t.short (id_number c) d.linked)

      module _ (small : b < 256) (old mid : List ℕ) (so : PutSoFar h n x from old mid) where
        upto : (m : Pairs V) → IsMapOf h m → AreKeysBelow m x.base old → AreKeysBelow m (at b) mid
        upto m st k = past m st from b mid first.past (omega (arith, small)) before (so.keys m st k)

        -- once the keys below the child at a byte are put, so are all before the next byte
        pub put_below : (c : Id) (new : List ℕ) → child ≡ Sub c → PutsKeys h (id_number c) mid new → PutSoFar h n x (b + 1) old new
        put_below c new is p =
            let hung : (h n).children b ≡ Below (id_number c) = here ∙ ap (λ z. hung_at (Some z)) is in
            let z : Region = record { base = p.base; depth = p.depth } in
            let lo : at b ≤ z.base = child_after a h t n x.base x.depth i.linked r b (id_number c) z hung p.region in
            let hi : end_of z ≤ at (b + 1) = child_before a h t n x.base x.depth i.linked r b (id_number c) z hung p.region in
            let pos = span_pos z.depth in
            record {
              bound = omega (arith, small);
              region = r;
              keys = λ m st k.
                  let beside : (q : ℕ) → at b ≤ q → q < at (b + 1) → (q < z.base) ⊎ (end_of z ≤ q) → get m q ≡ None =
                  (λ q f g ne. lacks m q (lacks_beside a h t m st [] n x.base x.depth i.linked r b (id_number c) z small hung p.region q (within h n i x r (b + 1) q (omega (arith, small)) g).0 f g ne)) in
                  let first_part : AreKeysBelow m z.base mid = gap m (at b) z.base mid lo (λ q f g. beside q f (omega (arith, g, hi, pos)) (inl g)) (upto m st k) in
                  gap m (end_of z) (at (b + 1)) new hi (λ q f g. beside q (omega (arith, f, lo)) g (inr f)) (p.keys m st first_part);
            }

        -- once the key of the value at the byte is put, so are all before the next byte
        pub put_key : (v : V) (key : ℕ) → child ≡ Value v → key ≡ at b → PutSoFar h n x (b + 1) old (mid ++ key ∷ [])
        put_key v key is ek = record {
          bound = omega (arith, small);
          region = r;
          keys = λ m st k.
              let o = has_value a h t m st [] n x.base x.depth i.linked r b v small (here ∙ ap (λ z. hung_at (Some z)) is) in
              let one : span (x.depth + 1) ≡ 1 = ap (λ d. span (d + 1)) o.0 in
              let e0 : at b ≡ x.base + b = ap (λ s. x.base + b * s) one ∙ omega arith in
              let e1 : at (b + 1) ≡ x.base + (b + 1) = ap (λ s. x.base + (b + 1) * s) one ∙ omega arith in
              let ks : x.base + b ≡ key = sym (ek ∙ e0) in
              let next : key + 1 ≡ at (b + 1) = omega (arith, e1, ks) in
              let P : ℕ → Type 0 = λ q. AreKeysBelow m q mid in
              let Q : ℕ → Type 0 = λ q. IsSome (get m q) in
              let R : ℕ → Type 0 = λ q. AreKeysBelow m q (mid ++ key ∷ []) in
              let some : IsSome (get m (x.base + b)) = subst IsSome (sym o.2) refl in
              subst R next (one_more m key mid (subst Q ks some) (subst P (sym ek) (upto m st k)));
        }

        -- with a blank at a byte, what was put before it is all before the next byte
        pub put_none : child ≡ Blank → PutSoFar h n x (b + 1) old mid
        put_none is = record {
          bound = omega (arith, small);
          region = r;
          keys = λ m st k. past m st b (b + 1) mid (omega arith) (omega (arith, small)) (λ q lo hi.
              let q_is : b ≡ q = omega (arith, lo, hi) in
              let P : ℕ → Type 0 = λ j. (h n).children j ≡ Nothing in
              subst P q_is (here ∙ ap (λ z. hung_at (Some z)) is)) (upto m st k);
        }

    -- where no child is left, the keys at and below the node are put
    pub keys_put : (from : ℕ) (old new : List ℕ) → PutSoFar h n x from old new → ((b : ℕ) → from ≤ b → get (children_of y) b ≡ None) → PutsKeys h n old new
    keys_put from old new so none = record {
      base = x.base;
      depth = x.depth;
      region = r;
      keys = λ m st k.
          let P : ℕ → Type 0 = λ b. AreKeysBelow m b new in
          subst P (start_at_end (h n).prefix x.base x.depth r) (past m st from 256 new so.bound (omega arith) (λ q lo hi. hangs q None (none q lo)) (so.keys m st k));
    }

-- what is put at and below the root are all keys below 2 ^ 64
pub all_put : {V : Type 0} (h : ℕ → Node V) → IsTree h → (ks : List ℕ) → PutsKeys h 0 [] ks → (m : Pairs V) → IsMapOf h m → AreKeysBelow m (2 ^ 64) ks
all_put h t ks p m st =
    let d : p.depth ≡ 0 = p.region.depth_is ∙ ap length t.tree.empty in
    let s : span p.depth ≡ 2 ^ 64 = ap span d in
    let z : p.base ≡ 0 = sym (mod-eq_of_lt p.region.small) ∙ ap (λ q. p.base % q) (sym s) ∙ p.region.even in
    let P : ℕ → Type 0 = λ b. AreKeysBelow m b [] in
    let Q : ℕ → Type 0 = λ b. AreKeysBelow m b ks in
    let e : p.base + span p.depth ≡ 2 ^ 64 = omega (arith, s, z) in
    subst Q e (p.keys m st (subst P (sym z) (keys_none m)))
