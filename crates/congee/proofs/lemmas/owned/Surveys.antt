-- The nodes of an owned tree, counted from a node down.
use Rattle.std.proofs.Common.{◌≡◌, ℕ, zero, suc, ◌<◌, ◌≤◌, ◌+◌, List, [], ◌∷◌, ◌++◌, length, inl, inr, refl, sym, ap, ◌∙◌, subst, arith}
use Rattle.std.specs.Prelude.{Option, None, Some, IsSome, vec_len}
use Rattle.std.proofs.lemmas.Bool.{cases_lt}
use Rattle.std.proofs.lemmas.List.{append-nil, append_assoc}
use Rattle.std.specs.Ordering.{nat_cmp}
use Rattle.std.specs.FinMap as map
use Rattle.slab.specs.Slab.{get, ContainsKey}
use Rattle.congee.specs.forms.Bytes.{IsFirst}
use Rattle.congee.specs.Heap.{Hung, Nothing, Below, Holds}
use Rattle.congee.specs.Notes.{IsChild}
use Rattle.congee.specs.forms.Forms.{form_of, prefix_of, children_of}
use Rattle.congee.specs.owned.Arena.{Nodes, hung_in, node_of, heap_of, notes_of, IsTree}
use Rattle.congee.specs.owned.Stats.{capped, no_nodes, info_at, Counts, Shape, IsTally, root_alone}
use Rattle.congee.specs.owned.Levels.{shape_of, under_byte, under_bytes, with_node, nodes_from, nodes_of}
use Rattle.congee.specs.owned.OwnedSteps.{SameNodes}
use Rattle.congee.specs.declared.forms.base_node.Node.{Node as Form}
use Rattle.congee.specs.declared.forms.base_node.NodeType.{NodeType}
use Rattle.congee.specs.declared.forms.base_node.NodeType.TheVariants.{N256}
use Rattle.congee.specs.declared.forms.child.Child.{Child}
use Rattle.congee.specs.declared.forms.child.Child.TheVariants.{Blank, Node as Sub, Value}
use Rattle.congee.specs.declared.owned.stats.NodeStats.{NodeStats}
use Rattle.congee.proofs.lemmas.owned.Tallies.{IsTally-counted}
use Rattle.congee.proofs.lemmas.owned.Ways.{linked_of, stands_of, short_prefix}

module _ {P : Type 0} where
  under_same : (go other : ℕ → List Shape) (x : Hung P) → ((c : ℕ) → x ≡ Below c → go c ≡ other c) → under_byte go x ≡ under_byte other x
  under_same go other Nothing e = refl
  under_same go other (Below c) e = e c refl
  under_same go other (Holds v) e = refl

  -- the nodes under two trees' bytes are the same if those under each child are
  pub bytes_same : (go other : ℕ → List Shape) (children : ℕ → Hung P) (n : ℕ) → ((b c : ℕ) → children b ≡ Below c → go c ≡ other c)
      → under_bytes go children n ≡ under_bytes other children n
  unfolding under_bytes
  bytes_same go other children zero e = refl
  bytes_same go other children (suc b) e = λ i. bytes_same go other children b e i ++ under_same go other (children b) (e b) i

  -- nodes that hang at no byte from one on add nothing
  pub none_more : (go : ℕ → List Shape) (children : ℕ → Hung P) (from to : ℕ) → from ≤ to → ((q : ℕ) → from ≤ q → q < to → children q ≡ Nothing)
      → under_bytes go children to ≡ under_bytes go children from
  unfolding under_bytes
  none_more go children from zero l none = ap (under_bytes go children) (let e : 0 ≡ from = omega (arith, l) in e)
  none_more go children from (suc to) l none = elim (cases_lt to from) [
    | inl p ↦ ap (under_bytes go children) (let e : suc to ≡ from = omega (arith, l, p) in e)
    | inr p ↦ ap (λ x. under_bytes go children to ++ under_byte go x) (none to p (omega arith)) ∙ append-nil (under_bytes go children to)
        ∙ none_more go children from to p (λ q a b. none q a (omega (arith, b)))
  ]

  -- the next byte that something hangs at
  pub one_more : (go : ℕ → List Shape) (children : ℕ → Hung P) (from b : ℕ) → from ≤ b → ((q : ℕ) → from ≤ q → q < b → children q ≡ Nothing)
      → under_bytes go children (b + 1) ≡ under_bytes go children from ++ under_byte go (children b)
  unfolding under_bytes
  one_more go children from b l none =
      ap (under_bytes go children) (let e : b + 1 ≡ suc b = omega arith in e) ∙ ap (λ l. l ++ under_byte go (children b)) (none_more go children from b l none)

  no_node_adds : (go : ℕ → List Shape) (h : Hung P) → ((c : ℕ) → h ≡ Below c → ⊥) → under_byte go h ≡ []
  no_node_adds go Nothing none = refl
  no_node_adds go (Below c) none = absurd (none c refl)
  no_node_adds go (Holds v) none = refl

  -- bytes without nodes add nothing
  no_nodes_add : (go : ℕ → List Shape) (children : ℕ → Hung P) (n : ℕ) → ((b c : ℕ) → children b ≡ Below c → ⊥) → under_bytes go children n ≡ under_bytes go children 0
  unfolding under_bytes
  no_nodes_add go children zero none = refl
  no_nodes_add go children (suc b) none =
      ap (λ l. under_bytes go children b ++ l) (no_node_adds go (children b) (none b)) ∙ append-nil (under_bytes go children b) ∙ no_nodes_add go children b none

  none_from : (o : Option (Child ℕ P)) (b : ℕ) → (IsSome o → b < 256) → 256 ≤ b → o ≡ None
  none_from None b low l = refl
  none_from (Some y) b low l = let lt = low refl in absurd (omega (arith, lt, l))

  -- where children hang at bytes, none hangs past them
  pub none_past : (x : Form ℕ P) → ((b : ℕ) → IsSome (map.get (children_of x) b) → b < 256) → (b : ℕ) → 256 ≤ b → map.get (children_of x) b ≡ None
  none_past x low b l = none_from (map.get (children_of x) b) b (low b) l

  with_same : (go other : ℕ → List Shape) (level : ℕ) (o : Option (Form ℕ P))
      → ((x : Form ℕ P) (b c : ℕ) → o ≡ Some x → hung_in (map.get (children_of x) b) ≡ Below c → go c ≡ other c) → with_node go level o ≡ with_node other level o
  with_same go other level None e = refl
  with_same go other level (Some x) e = ap (λ l. shape_of level x ∷ l) (bytes_same go other (λ b. hung_in (map.get (children_of x) b)) 256 (λ b c d. e x b c refl d))

  -- nodes that are the same are as many
  pub same_nodes : (s s' : Nodes P) → SameNodes s s' → nodes_of s' ≡ nodes_of s
  unfolding nodes_of
  same_nodes s s' e = ap (λ h. nodes_from h 8 0 0) (let f : get s' ≡ get s = λ i n. e n i in f)

module _ {P : Type 0} (s : Nodes P) where
  -- what stands below a byte, on the next level
  abbrev pub next : ℕ → ℕ → List Shape
  next level c = nodes_from (get s) 8 (level + 1) c

  abbrev at_bytes : Form ℕ P → ℕ → Hung P
  at_bytes x b = hung_in (map.get (children_of x) b)

  module _ (t : IsTree s) where
    child_of : (n : ℕ) (x : Form ℕ P) (b c : ℕ) → ContainsKey s n → get s n ≡ Some x → at_bytes x b ≡ Below c
        → IsChild (notes_of s t.parent) (heap_of s) n b c
    child_of n x b c h e d = t.tree.down n b c (linked_of s t.parent n h) (rw e d)

    -- any number of levels that is enough gives the same nodes
    stable : (f g level n : ℕ) → ContainsKey s n → 8 ≤ f + length (heap_of s n).prefix → 8 ≤ g + length (heap_of s n).prefix
        → nodes_from (get s) f level n ≡ nodes_from (get s) g level n
    unfolding nodes_from
    stable zero g level n h p q = let l = short_prefix s t n h in absurd (omega (arith, l, p))
    stable (suc f) zero level n h p q = let l = short_prefix s t n h in absurd (omega (arith, l, q))
    stable (suc f) (suc g) level n h p q = with_same _ _ level (get s n) (λ x b c e d.
        let i = child_of n x b c h e d in stable f g (level + 1) c (stands_of s t.parent c i.linked) (omega (arith, p, i.longer)) (omega (arith, q, i.longer)))

    -- a node and those below it
    nodes_at : (level n : ℕ) (x : Form ℕ P) → ContainsKey s n → get s n ≡ Some x
        → nodes_from (get s) 8 level n ≡ shape_of level x ∷ under_bytes (next level) (at_bytes x) 256
    unfolding nodes_from
    nodes_at level n x h e =
        ap (with_node (λ c. nodes_from (get s) 7 (level + 1) c) level) e
        ∙ ap (λ l. shape_of level x ∷ l) (bytes_same _ _ (at_bytes x) 256 (λ b c d.
        let i = child_of n x b c h e d in stable 7 8 (level + 1) c (stands_of s t.parent c i.linked) (omega (arith, i.longer)) (omega arith)))

  -- a node is counted, and what hangs below it at the bytes under `from`
  pub record Counted (old new : NodeStats) (level : ℕ) (x : Form ℕ P) (from : ℕ) : Type 0 where
    pub bound : from ≤ 256
    pub tally : (seen : List Shape) → IsTally old seen 0 → IsTally new (seen ++ shape_of level x ∷ under_bytes (next level) (at_bytes x) from) 0
    pub opened : level < vec_len new.levels
    pub levels : vec_len old.levels ≤ vec_len new.levels

  -- the node alone
  pub node_counted : (old new : NodeStats) (level : ℕ) (x : Form ℕ P) → Counts old new level (form_of x) (map.len (children_of x)) → Counted old new level x 0
  unfolding under_bytes
  node_counted old new level x counts = record {
    bound = omega arith;
    tally = λ seen is. IsTally-counted old new (shape_of level x) counts seen 0 is;
    opened = let e = counts.levels in omega (arith, e);
    levels = let e = counts.levels in omega (arith, e);
  }

  -- a leaf has no nodes below it
  pub none_below : (n : ℕ) (x : Form ℕ P) → IsTree s → ContainsKey s n → get s n ≡ Some x → length (prefix_of x) ≡ 7 → (b c : ℕ) → at_bytes x b ≡ Below c → ⊥
  none_below n x t h e seven b c d =
      let i : IsChild (notes_of s t.parent) (heap_of s) n b c = child_of t n x b c h e d in
      let len : length (heap_of s n).prefix ≡ length (prefix_of x) = ap (λ o. length (node_of o).prefix) e in
      let short : length (heap_of s c).prefix ≤ 7 = t.tree.short c i.linked in
      omega (arith, i.longer, len, seven, short)

  -- so all of its bytes are passed
  pub leaf_counted : (old new : NodeStats) (level : ℕ) (x : Form ℕ P) → ((b c : ℕ) → at_bytes x b ≡ Below c → ⊥) → Counted old new level x 0 → Counted old new level x 256
  leaf_counted old new level x none c = record {
    bound = omega arith;
    tally = λ seen is. subst (λ l. IsTally new (seen ++ shape_of level x ∷ l) 0) (sym (no_nodes_add (next level) (at_bytes x) 256 none)) (c.tally seen is);
    opened = c.opened;
    levels = c.levels;
  }

  -- and the next child
  went_on : (old mid new : NodeStats) (level : ℕ) (x : Form ℕ P) (from b : ℕ) (y : Child ℕ P) → Counted old mid level x from
      → IsFirst (children_of x) from b y → b < 256 → vec_len mid.levels ≤ vec_len new.levels
      → ((seen : List Shape) → IsTally mid seen 0 → IsTally new (seen ++ under_byte (next level) (hung_in (Some y))) 0) → Counted old new level x (b + 1)
  went_on old mid new level x from b y c first small more on = record {
    bound = omega (arith, small);
    tally = λ seen is.
        let here : at_bytes x b ≡ hung_in (Some y) = ap hung_in first.here in
        let grown : under_bytes (next level) (at_bytes x) (b + 1) ≡ under_bytes (next level) (at_bytes x) from ++ under_byte (next level) (hung_in (Some y)) =
        one_more (next level) (at_bytes x) from b first.past (λ q lo hi. ap hung_in (first.before q lo hi)) ∙ ap (λ h. under_bytes (next level) (at_bytes x) from ++ under_byte (next level) h) here in
        let all : (seen ++ shape_of level x ∷ under_bytes (next level) (at_bytes x) from) ++ under_byte (next level) (hung_in (Some y)) ≡ seen ++ shape_of level x ∷ under_bytes (next level) (at_bytes x) (b + 1) =
        append_assoc seen (shape_of level x ∷ under_bytes (next level) (at_bytes x) from) (under_byte (next level) (hung_in (Some y))) ∙ ap (λ l. seen ++ shape_of level x ∷ l) (sym grown) in
        subst (λ l. IsTally new l 0) all (on (seen ++ shape_of level x ∷ under_bytes (next level) (at_bytes x) from) (c.tally seen is));
    opened = let o = c.opened in omega (arith, o, more);
    levels = let o = c.levels in omega (arith, o, more);
  }

  -- the node below a byte
  pub child_stands : (n : ℕ) (x : Form ℕ P) (from b : ℕ) (y : Child ℕ P) (c : ℕ) → IsTree s → ContainsKey s n → get s n ≡ Some x → IsFirst (children_of x) from b y → y ≡ Sub c
      → ContainsKey s c × ((length (heap_of s n).prefix < length (heap_of s c).prefix) × (length (heap_of s c).prefix ≤ 7))
  child_stands n x from b y c t h e first is =
      let i : IsChild (notes_of s t.parent) (heap_of s) n b c = child_of t n x b c h e (ap hung_in first.here ∙ ap (λ z. hung_in (Some z)) is) in
      (stands_of s t.parent c i.linked, (i.longer, t.tree.short c i.linked))

  -- with the nodes below a byte
  pub went_below : (old mid new : NodeStats) (level : ℕ) (x : Form ℕ P) (from b : ℕ) (y : Child ℕ P) (c : ℕ) → Counted old mid level x from
      → IsFirst (children_of x) from b y → b < 256 → y ≡ Sub c → vec_len mid.levels ≤ vec_len new.levels
      → ((seen : List Shape) → IsTally mid seen 0 → IsTally new (seen ++ nodes_from (get s) 8 (level + 1) c) 0) → Counted old new level x (b + 1)
  went_below old mid new level x from b y c so first small is more on =
      went_on old mid new level x from b y so first small more
      (λ seen has. subst (λ z. IsTally new (seen ++ under_byte (next level) (hung_in (Some z))) 0) (sym is) (on seen has))

  value_adds : (n : ℕ) (x : Form ℕ P) (from b : ℕ) (y : Child ℕ P) (level : ℕ) → IsTree s → ContainsKey s n → get s n ≡ Some x → IsFirst (children_of x) from b y
      → ((c : ℕ) → y ≡ Sub c → ⊥) → under_byte (next level) (hung_in (Some y)) ≡ []
  value_adds n x from b Blank level t h e first other =
      let i : IsChild (notes_of s t.parent) (heap_of s) n b 0 = child_of t n x b 0 h e (ap hung_in first.here) in
      let z : length (heap_of s 0).prefix ≡ 0 = ap length t.tree.empty in
      absurd (omega (arith, i.longer, z))
  value_adds n x from b (Sub c) level t h e first other = absurd (other c refl)
  value_adds n x from b (Value v) level t h e first other = refl

  -- a value adds no node
  pub went_past : (old mid : NodeStats) (level n : ℕ) (x : Form ℕ P) (from b : ℕ) (y : Child ℕ P) → IsTree s → ContainsKey s n → get s n ≡ Some x → Counted old mid level x from
      → IsFirst (children_of x) from b y → b < 256 → ((c : ℕ) → y ≡ Sub c → ⊥) → Counted old mid level x (b + 1)
  went_past old mid level n x from b y t h e so first small other =
      went_on old mid mid level x from b y so first small (omega arith)
      (λ seen has. subst (λ l. IsTally mid l 0) (sym (ap (λ l. seen ++ l) (value_adds n x from b y level t h e first other) ∙ append-nil seen)) has)

  -- no child is left
  pub survey_counted : (old new : NodeStats) (level n : ℕ) (x : Form ℕ P) (from : ℕ) → IsTree s → ContainsKey s n → get s n ≡ Some x → Counted old new level x from
      → ((b : ℕ) → from ≤ b → map.get (children_of x) b ≡ None) → (seen : List Shape) → IsTally old seen 0 → IsTally new (seen ++ nodes_from (get s) 8 level n) 0
  survey_counted old new level n x from t h e c none seen is =
      let all : shape_of level x ∷ under_bytes (next level) (at_bytes x) from ≡ nodes_from (get s) 8 level n =
      ap (λ l. shape_of level x ∷ l) (sym (none_more (next level) (at_bytes x) from 256 c.bound (λ q lo hi. ap hung_in (none q lo)))) ∙ sym (nodes_at t level n x h e) in
      subst (λ l. IsTally new (seen ++ l) 0) all (c.tally seen is)

  -- a root without children
  pub root_nodes : (root : Form ℕ P) → IsTree s → get s 0 ≡ Some root → form_of root ≡ N256 → children_of root ≡ map.empty → nodes_of s ≡ root_alone
  unfolding nodes_of under_bytes
  root_nodes root t e f c =
      let empty : prefix_of root ≡ [] = sym (ap (λ o. (node_of o).prefix) e) ∙ t.tree.empty in
      let nothing : (q : ℕ) → at_bytes root q ≡ Nothing = λ q. ap hung_in (ap (λ m. map.get m q) c ∙ map.get-empty _ q) in
      nodes_at t 0 0 root (stands_of s t.parent 0 t.tree.root) e
      ∙ ap (λ l. shape_of 0 root ∷ l) (none_more (next 0) (at_bytes root) 0 256 (omega arith) (λ q lo hi. nothing q))
      ∙ rw (f, c, empty, map.len-empty nat_cmp (Child ℕ P)) refl

  -- statistics of nothing are those of no nodes
  pub none_counted : (stats : NodeStats) → ((level : ℕ) (form : NodeType) → info_at stats level form ≡ no_nodes) → vec_len stats.levels ≡ 0 → stats.kv_pairs ≡ 0 → IsTally stats [] 0
  none_counted stats infos levels pairs = record { infos = infos; levels = levels; kv_pairs = pairs }

  -- the root and all below it, and so many pairs
  pub all_counted : (stats : NodeStats) (pairs count : ℕ) → IsTally stats ([] ++ nodes_from (get s) 8 0 0) 0 → count ≡ capped pairs
      → IsTally (record { levels = stats.levels; kv_pairs = count }) (nodes_of s) pairs
  unfolding nodes_of
  all_counted stats pairs count is e = record { infos = is.infos; levels = is.levels; kv_pairs = e }
