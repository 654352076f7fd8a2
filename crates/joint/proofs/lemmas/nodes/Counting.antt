-- The nodes of a shared tree, counted from a node down.
use Rattle.std.proofs.Common.{◌≡◌, ℕ, zero, suc, ◌<◌, ◌≤◌, ◌+◌, List, [], ◌∷◌, ◌++◌, length, refl, sym, ap, ◌∙◌, subst, arith}
use Rattle.std.specs.Prelude.{Option, None, Some, vec_len}
use Rattle.std.specs.FinMap as map
use Rattle.std.proofs.lemmas.List.{append-nil, append_assoc}
use Rattle.congee.specs.declared.forms.base_node.Node.{Node as Form}
use Rattle.congee.specs.declared.forms.base_node.NodeType.{NodeType}
use Rattle.congee.specs.declared.forms.base_node.NodeType.TheVariants.{N4, N16, N48, N256}
use Rattle.congee.specs.declared.forms.child.Child.{Child}
use Rattle.congee.specs.declared.forms.child.Child.TheVariants.{Blank, Node as Sub, Value}
use Rattle.congee.specs.declared.owned.stats.NodeStats.{NodeStats}
use Rattle.congee.specs.forms.Bytes.{IsFirst}
use Rattle.congee.specs.forms.Forms.{form_of, capacity_of, children_of}
use Rattle.congee.specs.Heap.{Node}
use Rattle.congee.specs.Notes.{Note, Tree, Linked}
use Rattle.congee.specs.owned.Levels.{under_byte, under_bytes}
use Rattle.congee.specs.owned.Stats.{capped, no_nodes, info_at, Counts, Shape, IsTally}
use Rattle.congee.proofs.Laws.{bytes_same, none_more, one_more, IsTally-counted}
use Rattle.joint.specs.declared.id.Id.{Id}
use Rattle.joint.specs.declared.nodes.slot.LockWord.{LockWord}
use Rattle.joint.specs.nodes.Levels.{form_with, shape_of, nodes_from, nodes_of, IsNodeIn}
use Rattle.joint.specs.nodes.View.{id_number, hung_at, shape}

form_back : (form : NodeType) → form_with (capacity_of form) ≡ form
form_back N4 = refl
form_back N16 = refl
form_back N48 = refl
form_back N256 = refl

-- empty statistics count no node and no pair
pub none_counted : (stats : NodeStats) → ((level : ℕ) (form : NodeType) → info_at stats level form ≡ no_nodes) → vec_len stats.levels ≡ 0 → stats.kv_pairs ≡ 0 → IsTally stats [] 0
none_counted stats infos levels pairs = record { infos = infos; levels = levels; kv_pairs = pairs }

module _ {V : Type 0} (h : ℕ → Node V) where
  -- what stands below a byte, on the next level
  abbrev pub next : ℕ → ℕ → List Shape
  next level c = nodes_from h 8 (level + 1) c

  module _ (a : ℕ → Note) (t : Tree a h) where
    -- any number of levels that is enough gives the same nodes
    stable : (f g level n : ℕ) → (a n).status ≡ Linked → 8 ≤ f + length (h n).prefix → 8 ≤ g + length (h n).prefix
        → nodes_from h f level n ≡ nodes_from h g level n
    unfolding nodes_from
    stable zero g level n l p q = let s = t.short n l in absurd (omega (arith, s, p))
    stable (suc f) zero level n l p q = let s = t.short n l in absurd (omega (arith, s, q))
    stable (suc f) (suc g) level n l p q = ap (λ r. shape_of level (h n) ∷ r) (bytes_same _ _ (h n).children 256 (λ b c d.
        let i = t.down n b c l d in stable f g (level + 1) c i.linked (omega (arith, p, i.longer)) (omega (arith, q, i.longer))))

    -- a node and those below it
    nodes_at : (level n : ℕ) → (a n).status ≡ Linked → nodes_from h 8 level n ≡ shape_of level (h n) ∷ under_bytes (next level) (h n).children 256
    unfolding nodes_from
    nodes_at level n l = ap (λ r. shape_of level (h n) ∷ r) (bytes_same _ _ (h n).children 256 (λ b c d.
        let i = t.down n b c l d in stable 7 8 (level + 1) c i.linked (omega (arith, i.longer)) (omega arith)))

  -- a node, and those below it at the bytes under `from`
  abbrev so_far : ℕ → ℕ → ℕ → List Shape
  so_far level n from = shape_of level (h n) ∷ under_bytes (next level) (h n).children from

  -- these are counted
  pub record Counted (old new : NodeStats) (level n from : ℕ) : Type 0 where
    pub bound : from ≤ 256
    pub tally : (seen : List Shape) → IsTally old seen 0 → IsTally new (seen ++ so_far level n from) 0
    pub opened : level < vec_len new.levels
    pub levels : vec_len old.levels ≤ vec_len new.levels

  module _ (n : ℕ) (x : Form Id V) (w : LockWord) (e : shape x w ≡ h n) where
    -- with the node itself counted, so is all before its first byte
    pub node_counted : (old new : NodeStats) (level : ℕ) → Counts old new level (form_of x) (map.len (children_of x)) → Counted old new level n 0
    unfolding under_bytes
    node_counted old new level counts =
        let P : Node V → Type 0 = λ y. Counts old new level (form_with y.capacity) y.count in
        let c : Counts old new level (form_with (h n).capacity) (h n).count = subst P e (subst (λ f. Counts old new level f (map.len (children_of x))) (sym (form_back (form_of x))) counts) in
        record {
          bound = omega arith;
          tally = λ seen is. IsTally-counted old new (shape_of level (h n)) c seen 0 is;
          opened = let l = counts.levels in omega (arith, l);
          levels = let l = counts.levels in omega (arith, l);
        }

    hangs : (b : ℕ) (o : Option (Child Id V)) → map.get (children_of x) b ≡ o → (h n).children b ≡ hung_at o
    hangs b o g = sym (ap (λ (y : Node V). y.children b) e) ∙ ap hung_at g

    module _ (level from b : ℕ) (y : Child Id V) (first : IsFirst (children_of x) from b y) where
      -- and what hangs at the next byte
      went_on : (old mid new : NodeStats) → Counted old mid level n from → b < 256 → vec_len mid.levels ≤ vec_len new.levels
          → ((seen : List Shape) → IsTally mid seen 0 → IsTally new (seen ++ under_byte (next level) (hung_at (Some y))) 0) → Counted old new level n (b + 1)
      went_on old mid new c small more on = record {
        bound = omega (arith, small);
        tally = λ seen is.
            let grown : under_bytes (next level) (h n).children (b + 1) ≡ under_bytes (next level) (h n).children from ++ under_byte (next level) (hung_at (Some y)) =
            one_more (next level) (h n).children from b first.past (λ q lo hi. hangs q None (first.before q lo hi))
            ∙ ap (λ z. under_bytes (next level) (h n).children from ++ under_byte (next level) z) (hangs b (Some y) first.here) in
            let all : (seen ++ so_far level n from) ++ under_byte (next level) (hung_at (Some y)) ≡ seen ++ so_far level n (b + 1) =
            append_assoc seen (so_far level n from) (under_byte (next level) (hung_at (Some y))) ∙ ap (λ l. seen ++ shape_of level (h n) ∷ l) (sym grown) in
            subst (λ l. IsTally new l 0) all (on (seen ++ so_far level n from) (c.tally seen is));
        opened = let o = c.opened in omega (arith, o, more);
        levels = let o = c.levels in omega (arith, o, more);
      }

      -- a node below a byte is in the tree, and has a longer prefix, of 7 bytes at most
      pub child_in : (c : Id) → y ≡ Sub c → (i : IsNodeIn h n) → IsNodeIn h (id_number c) × (length (h n).prefix < length (h (id_number c)).prefix) × (length (h (id_number c)).prefix ≤ 7)
      child_in c is i =
          let d = i.tree.tree.down n b (id_number c) i.linked (hangs b (Some y) first.here ∙ ap (λ z. hung_at (Some z)) is) in
          (record { tree = i.tree; linked = d.linked }, d.longer, i.tree.tree.short (id_number c) d.linked)

      -- with the nodes below a byte counted too, so is all before the next byte
      pub went_below : (old mid new : NodeStats) (c : Id) → y ≡ Sub c → Counted old mid level n from → b < 256 → vec_len mid.levels ≤ vec_len new.levels
          → ((seen : List Shape) → IsTally mid seen 0 → IsTally new (seen ++ nodes_from h 8 (level + 1) (id_number c)) 0) → Counted old new level n (b + 1)
      went_below old mid new c is so small more on = went_on old mid new so small more
          (λ seen has. subst (λ z. IsTally new (seen ++ under_byte (next level) (hung_at (Some z))) 0) (sym is) (on seen has))

      -- a value adds no node
      pub went_past : (old mid : NodeStats) → ((c : Id) → y ≡ Sub c → ⊥) → Counted old mid level n from → b < 256 → Counted old mid level n (b + 1)
      went_past old mid other so small = went_on old mid mid so small (omega arith)
          (λ seen has. subst (λ l. IsTally mid l 0) (sym (ap (λ l. seen ++ l) (nothing_below y other) ∙ append-nil seen)) has)
        where
          nothing_below : (z : Child Id V) → ((c : Id) → z ≡ Sub c → ⊥) → under_byte (next level) (hung_at (Some z)) ≡ []
          nothing_below Blank o = refl
          nothing_below (Sub c) o = absurd (o c refl)
          nothing_below (Value v) o = refl

    -- where no child is left, the node and all below it are counted
    pub survey_counted : (old new : NodeStats) (level from : ℕ) → IsNodeIn h n → Counted old new level n from → ((b : ℕ) → from ≤ b → map.get (children_of x) b ≡ None)
        → (seen : List Shape) → IsTally old seen 0 → IsTally new (seen ++ nodes_from h 8 level n) 0
    survey_counted old new level from i c none seen is =
        let all : so_far level n from ≡ nodes_from h 8 level n =
        ap (λ l. shape_of level (h n) ∷ l) (sym (none_more (next level) (h n).children from 256 c.bound (λ q lo hi. hangs q None (none q lo)))) ∙ sym (nodes_at i.tree.notes i.tree.tree level n i.linked) in
        subst (λ l. IsTally new (seen ++ l) 0) all (c.tally seen is)

  -- with the root and all below it counted, and so many pairs, the statistics are those of the tree
  pub all_counted : (stats : NodeStats) (pairs count : ℕ) → IsTally stats ([] ++ nodes_from h 8 0 0) 0 → count ≡ capped pairs
      → IsTally (record { levels = stats.levels; kv_pairs = count }) (nodes_of h) pairs
  unfolding nodes_of
  all_counted stats pairs count is e = record { infos = is.infos; levels = is.levels; kv_pairs = e }
