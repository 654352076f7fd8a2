-- A drainer takes the pairs at and below a node.
use Rattle.std.proofs.Common.{◌≡◌, ℕ, ◌+◌, ◌^◌, ◌<◌, ◌≤◌, ◌%◌, arith, length, refl, sym, ◌∙◌, ap, subst, inl, inr}
use Rattle.std.specs.Prelude.{Option, None, Some}
use Rattle.std.specs.FinMap as map
use Rattle.std.proofs.Math.Nat.{mod-eq_of_lt}
use Rattle.std.proofs.lemmas.Bool.{cases_lt}
use Rattle.judge.specs.Answer.{Pairs}
use Rattle.congee.specs.declared.forms.base_node.Node.{Node as Form}
use Rattle.congee.specs.declared.forms.child.Child.{Child}
use Rattle.congee.specs.declared.forms.child.Child.TheVariants.{Blank, Node as Sub, Value}
use Rattle.congee.specs.declared.protocol.store.Region.{Region}
use Rattle.congee.specs.forms.Bytes.{IsFirst}
use Rattle.congee.specs.forms.Forms.{children_of}
use Rattle.congee.specs.Heap.{Node, Nothing, Below, Holds, Stands}
use Rattle.congee.specs.Keys.{IsMapOf}
use Rattle.congee.specs.Notes.{Note, Tree, Linked}
use Rattle.congee.specs.protocol.Events.{ChangeGives}
use Rattle.congee.specs.protocol.Regions.{IsRegion, span, start_at}
use Rattle.congee.specs.protocol.ScanKnown.{end_of}
use Rattle.congee.proofs.Laws.{start_at_end, start_mono, span_pos, region_top, child_after, child_before}
use Rattle.joint.specs.declared.id.Id.{Id}
use Rattle.joint.specs.declared.nodes.slot.LockWord.{LockWord}
use Rattle.joint.specs.nodes.Draining.{TakesBelow, Takes, Drained}
use Rattle.joint.specs.nodes.Levels.{IsNodeIn}
use Rattle.joint.specs.nodes.Survey.{IsTree}
use Rattle.joint.specs.nodes.View.{id_number, hung_at, shape}
use Rattle.joint.proofs.lemmas.nodes.Draining.{same_prefix, stands_still, still_tree, takes_value, takes_none, takes_begin, takes_more, takes_all}
use Rattle.joint.proofs.lemmas.nodes.Surveying.{none_bytes, none_beside}

-- the drainer took those under the bytes before one
pub record TakenSoFar {V D : Type 0} (drains : D → ℕ → V → D → Type 0) (h : ℕ → Node V) (n : ℕ) (x : Region) (from : ℕ) (before : D) (h' : ℕ → Node V) (after : D) : Type 0 where
  pub bound : from ≤ 256
  pub region : IsRegion (h n).prefix x.base x.depth
  pub takes : Takes drains h x.base before h' (start_at x.base x.depth from) after
  pub prefixes : (m : ℕ) → (h' m).prefix ≡ (h m).prefix
  pub stands : (m : ℕ) → Stands (h m) → Stands (h' m)
  pub tree : (a : ℕ → Note) → Tree a h → (a n).status ≡ Linked → Tree a h'

module _ {V D : Type 0} (drains : D → ℕ → V → D → Type 0) (h : ℕ → Node V) (n : ℕ) (i : IsNodeIn h n) (x : Region) (before : D) where
  abbrev at : ℕ → ℕ
  at b = start_at x.base x.depth b

  -- before the first byte of a node nothing is taken
  pub drain_begun : IsRegion (h n).prefix x.base x.depth → TakenSoFar drains h n x 0 before h before
  drain_begun r = record {
    bound = omega arith;
    region = r;
    takes = (let e : x.base ≡ at 0 = omega arith in let P : ℕ → Type 0 = λ b. Takes drains h x.base before h b before in subst P e (takes_begin drains h x.base before));
    prefixes = λ m. refl;
    stands = λ m s. s;
    tree = λ a t l. t;
  }

  module _ (from : ℕ) (h1 : ℕ → Node V) (mid : D) (so : TakenSoFar drains h n x from before h1 mid) where
    -- it is in the tree still
    pub node_in : IsNodeIn h1 n
    node_in = record {
      tree = record { notes = i.tree.notes; tree = so.tree i.tree.notes i.tree.tree i.linked; stands = λ m s. so.stands m (i.tree.stands m s) };
      linked = i.linked;
    }

    r : IsRegion (h1 n).prefix x.base x.depth
    r = subst (λ p. IsRegion p x.base x.depth) (sym (so.prefixes n)) so.region

    top : (b : ℕ) → b ≤ 256 → (at b ≤ 2 ^ 64) × (at b ≤ x.base + span x.depth)
    top b small =
        let up = start_mono (h1 n).prefix x.base x.depth r b 256 small in
        let e = start_at_end (h1 n).prefix x.base x.depth r in
        let most = region_top (h1 n).prefix x.base x.depth r in
        (omega (arith, up, e, most), omega (arith, up, e))

    past : (b : ℕ) → from ≤ b → b ≤ 256 → ((q : ℕ) → from ≤ q → q < b → (h1 n).children q ≡ Nothing) → Takes drains h x.base before h1 (at b) mid
    past b l small none =
        let up = start_mono (h1 n).prefix x.base x.depth r from b l in
        takes_more drains h h1 h1 x.base (at from) (at b) before mid mid (omega arith) up so.takes
        (takes_none drains h1 (at from) (at b) mid up (top b small).0 (none_bytes h1 n node_in x r from b small none))

    module _ (y : Form Id V) (w : LockWord) (e : shape y w ≡ h1 n) where
      hangs : (b : ℕ) (o : Option (Child Id V)) → map.get (children_of y) b ≡ o → (h1 n).children b ≡ hung_at o
      hangs b o g = sym (ap (λ (z : Node V). z.children b) e) ∙ ap hung_at g

      module _ (b : ℕ) (child : Child Id V) (first : IsFirst (children_of y) from b child) where
        abbrev here : (h1 n).children b ≡ hung_at (Some child)
        here = hangs b (Some child) first.here

        -- where the child at a byte is a value, the node holds it there
        pub holds : (v : V) → child ≡ Value v → (h1 n).children b ≡ Holds v
        holds v is = here ∙ ap (λ z. hung_at (Some z)) is

        hung : (c : Id) → child ≡ Sub c → (h1 n).children b ≡ Below (id_number c)
        hung c is = here ∙ ap (λ z. hung_at (Some z)) is

        -- the node at the byte is in the tree, and has a longer prefix, of 7 bytes at most
        pub below_in : (c : Id) → child ≡ Sub c → IsNodeIn h1 (id_number c) × (length (h n).prefix < length (h1 (id_number c)).prefix) × (length (h1 (id_number c)).prefix ≤ 7)
        below_in c is =
            let d = node_in.tree.tree.down n b (id_number c) node_in.linked (hung c is) in
            let same : length (h1 n).prefix ≡ length (h n).prefix = ap length (so.prefixes n) in
            (record { tree = node_in.tree; linked = d.linked }, omega (arith, d.longer, same), node_in.tree.tree.short (id_number c) d.linked)

        module _ (small : b < 256) where
          upto : Takes drains h x.base before h1 (at b) mid
          upto = past b first.past (omega (arith, small)) (λ q lo hi. hangs q None (first.before q lo hi))

          -- once what stands below the child at a byte is taken, so is all before the next byte
          pub went_below : (c : Id) → child ≡ Sub c → (h2 : ℕ → Node V) (after : D) → TakesBelow drains h1 (id_number c) mid h2 after → TakenSoFar drains h n x (b + 1) before h2 after
          went_below c is h2 after p =
              let z : Region = record { base = p.base; depth = p.depth } in
              let lo : at b ≤ z.base = child_after node_in.tree.notes h1 node_in.tree.tree n x.base x.depth node_in.linked r b (id_number c) z (hung c is) p.region in
              let hi : end_of z ≤ at (b + 1) = child_before node_in.tree.notes h1 node_in.tree.tree n x.base x.depth node_in.linked r b (id_number c) z (hung c is) p.region in
              let most = top (b + 1) (omega (arith, small)) in
              let pos = span_pos z.depth in
              let beside = none_beside h1 n node_in x r b (id_number c) z small (hung c is) p.region in
              let first_part : Takes drains h1 (at b) mid h1 z.base mid = takes_none drains h1 (at b) z.base mid lo (omega (arith, hi, most.0)) (λ q f g. beside q f (omega (arith, g, hi, pos)) (inl g)) in
              let last_part : Takes drains h2 (end_of z) after h2 (at (b + 1)) after = takes_none drains h2 (end_of z) (at (b + 1)) after hi most.0
              (λ q f g. p.takes.rest q f (omega (arith, g, most.0)) ∙ beside q (omega (arith, f, lo)) g (inr f)) in
              let to_node = takes_more drains h h1 h1 x.base (at b) z.base before mid mid (omega arith) lo upto first_part in
              let with_node = takes_more drains h h1 h2 x.base z.base (end_of z) before mid after (omega (arith, lo)) (omega arith) to_node p.takes in
              record {
                bound = omega (arith, small);
                region = so.region;
                takes = takes_more drains h h2 h2 x.base (end_of z) (at (b + 1)) before after after (omega (arith, lo)) hi with_node last_part;
                prefixes = λ m. p.prefixes m ∙ so.prefixes m;
                stands = λ m s. p.stands m (so.stands m s);
                tree = λ a t l. (let t1 = so.tree a t l in p.tree a t1 (t1.down n b (id_number c) l (hung c is)).linked);
              }

          -- once the value at the byte is taken, so is all before the next byte
          pub went_value : (v : V) → child ≡ Value v → (value : V) → (h1 n).children b ≡ Holds value → (h2 : ℕ → Node V) → ChangeGives h1 n b Nothing h2 → (key : ℕ) → key ≡ at b → (after : D) → drains mid key value after
              → TakenSoFar drains h n x (b + 1) before h2 after
          went_value v is value was h2 k key ek after d =
              let P : ℕ → Type 0 = λ q. drains mid q value after in
              let up = start_mono (h1 n).prefix x.base x.depth r b (b + 1) (omega arith) in
              record {
                bound = omega (arith, small);
                region = so.region;
                takes = takes_more drains h h1 h2 x.base (at b) (at (b + 1)) before mid after (omega arith) up upto (takes_value h1 n node_in x r b value small was h2 k drains mid after (subst P ek d));
                prefixes = λ m. same_prefix h1 n b value h2 k was m ∙ so.prefixes m;
                stands = λ m s. stands_still h1 n b value h2 k was m (so.stands m s);
                tree = λ a t l. still_tree h1 n b value h2 k was a (so.tree a t l) l;
              }

          -- with a blank at a byte, what was taken before it is all before the next byte
          pub went_blank : child ≡ Blank → TakenSoFar drains h n x (b + 1) before h1 mid
          went_blank is = record {
            bound = omega (arith, small);
            region = so.region;
            takes = past (b + 1) (let l = first.past in omega (arith, l)) (omega (arith, small)) (λ q lo hi. elim (cases_lt q b) [
              | inl u ↦ hangs q None (first.before q lo u)
              | inr u ↦ (
                  let q_is : b ≡ q = omega (arith, u, hi) in
                  let P : ℕ → Type 0 = λ j. (h1 n).children j ≡ Nothing in
                  subst P q_is (here ∙ ap (λ z. hung_at (Some z)) is))
            ]);
            prefixes = so.prefixes;
            stands = so.stands;
            tree = so.tree;
          }

      -- where no child is left, the drainer took the pairs at and below the node
      pub drain_ended : ((b : ℕ) → from ≤ b → map.get (children_of y) b ≡ None) → TakesBelow drains h n before h1 mid
      drain_ended none = record {
        base = x.base;
        depth = x.depth;
        region = so.region;
        takes = (let P : ℕ → Type 0 = λ b. Takes drains h x.base before h1 b mid in subst P (start_at_end (h1 n).prefix x.base x.depth r) (past 256 so.bound (omega arith) (λ q lo hi. hangs q None (none q lo))));
        prefixes = so.prefixes;
        stands = so.stands;
        tree = so.tree;
      }

-- what is taken at and below the root are all pairs, in ascending order of their keys
pub all_taken : {V D : Type 0} (drains : D → ℕ → V → D → Type 0) (h : ℕ → Node V) → IsTree h → (before : D) (h' : ℕ → Node V) (after : D) → TakesBelow drains h 0 before h' after → (m : Pairs V) → IsMapOf h m → Drained drains before (map.entries m) after
all_taken drains h t before h' after p m st =
    let d : p.depth ≡ 0 = p.region.depth_is ∙ ap length t.tree.empty in
    let s : span p.depth ≡ 2 ^ 64 = ap span d in
    let z : p.base ≡ 0 = sym (mod-eq_of_lt p.region.small) ∙ ap (λ q. p.base % q) (sym s) ∙ p.region.even in
    let e : p.base + span p.depth ≡ 2 ^ 64 = omega (arith, s, z) in
    let P : ℕ → Type 0 = λ b. Takes drains h b before h' (p.base + span p.depth) after in
    let Q : ℕ → Type 0 = λ b. Takes drains h 0 before h' b after in
    takes_all drains h h' before after (subst Q e (subst P z p.takes)) m st
