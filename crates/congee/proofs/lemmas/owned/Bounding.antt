-- The nodes of a tree take so many bytes at most, by its pairs: a node but the root has two children, or is a leaf with a value, and
-- as many as its form asks for but for those that it lacks. So there are no more leaves than pairs, and fewer inner nodes than leaves;
-- a greater form is no dearer than the least nodes that its children would want.
use Rattle.std.proofs.Common.{◌≡◌, ◌≢◌, ℕ, zero, suc, ◌+◌, ◌*◌, ◌-◌, ◌<◌, ◌≤◌, false, List, [], ◌∷◌, length, drop, get_or, inl, inr, refl, sym, ap, ◌∙◌, arith}
use Rattle.std.specs.Prelude.{Option, None}
use Rattle.std.proofs.lemmas.Bool.{cases_lt}
use Rattle.std.specs.FinMap as map
use Rattle.slab.specs.Slab.{get, ContainsKey}
use Rattle.congee.specs.Heap.{Node as Seen, Hung, Nothing, Below, Holds}
use Rattle.congee.specs.forms.Forms.{children_of, form_of, prefix_of, size_of}
use Rattle.congee.specs.owned.Arena.{Nodes, node_of, heap_of, IsTree}
use Rattle.congee.specs.owned.Bound.{most_bytes}
use Rattle.congee.specs.owned.Full.{NodesFilled, fewest, lacks, lacks_all, lacking_of}
use Rattle.congee.specs.owned.Keyed.{IsKeyed}
use Rattle.congee.specs.owned.Sizes.{bytes_at, bytes_of}
use Rattle.congee.specs.owned.Table.{pairs_of}
use Rattle.congee.specs.protocol.Alone.{sum_from, pairs_at, pairs_under, tree_pairs}
use Rattle.congee.specs.protocol.Events.{weight}
use Rattle.congee.specs.declared.forms.base_node.Node.{Node as Form}
use Rattle.congee.specs.declared.forms.base_node.NodeType.{NodeType}
use Rattle.congee.specs.declared.forms.base_node.NodeType.TheVariants.{N4, N16, N48, N256}
use Rattle.congee.proofs.lemmas.protocol.AlonePairs.{pairs_keyed}
use Rattle.congee.proofs.lemmas.protocol.AloneScans.{term_past}
use Rattle.congee.proofs.lemmas.owned.Clears.{root_form}
use Rattle.congee.proofs.lemmas.owned.Counting.{children_counted}
use Rattle.congee.proofs.lemmas.owned.Keying.{begins_key, bytes_low}
use Rattle.congee.proofs.lemmas.owned.Moves.{node_at}
use Rattle.congee.proofs.lemmas.owned.Sizes.{bytes_total}
use Rattle.congee.proofs.lemmas.owned.Tables.{pairs_stand}
use Rattle.congee.proofs.lemmas.owned.Totals.{total, total_first}
use Rattle.congee.proofs.lemmas.owned.Ways.{hung_child, short_prefix, stands_of}
use Rattle.congee.proofs.lemmas.owned.Weights.{weigh, of_hung, root_weighs}

-- what holds at each byte holds of the sums over the bytes
module _ (f w p l : ℕ → ℕ) where
  sums_inner : (n : ℕ) → ((b : ℕ) → f b + 64 * w b ≤ 128 * p b + 56 * l b) → total f n + 64 * total w n ≤ 128 * total p n + 56 * total l n
  unfolding total
  sums_inner zero e = omega arith
  sums_inner (suc n) e = let r = sums_inner n e in let h = e n in omega (arith, r, h)

  sums_leaf : (n : ℕ) → ((b : ℕ) → f b + 128 * w b ≤ 128 * p b + 56 * l b) → total f n + 128 * total w n ≤ 128 * total p n + 56 * total l n
  unfolding total
  sums_leaf zero e = omega arith
  sums_leaf (suc n) e = let r = sums_leaf n e in let h = e n in omega (arith, r, h)

-- two sums over the bytes
sums_same : (g : ℕ → ℕ) (n : ℕ) → sum_from g 0 n ≡ total g n
unfolding sum_from total
sums_same g zero = refl
sums_same g (suc n) = let r = sums_same g n in let p = term_past g 0 n (omega arith) in omega (arith, r, p)

-- a node's size by its children and those that it lacks, where it holds nodes
inner_size : (form : NodeType) (size count : ℕ) → 2 ≤ count → size_of form + 64 ≤ 64 * count + 56 * (fewest form size - count)
inner_size N4 size count l = omega (arith, l)
inner_size N16 size count l = omega (arith, l)
inner_size N48 size count l = omega (arith, l)
inner_size N256 size count l = omega (arith, l)

-- and where it holds values
leaf_size : (form : NodeType) (size count : ℕ) → 1 ≤ count → size_of form + 64 ≤ 128 * count + 56 * (fewest form size - count)
leaf_size N4 size count l = omega (arith, l)
leaf_size N16 size count l = omega (arith, l)
leaf_size N48 size count l = omega (arith, l)
leaf_size N256 size count l = omega (arith, l)

module _ {P : Type 0} where
  -- a sum over places by the lack of each
  lacks_total : (xs : List (Option (Form ℕ P))) → lacks_all xs ≡ total (λ n. lacks (get_or xs n None)) (length xs)
  unfolding total
  lacks_total [] = refl
  lacks_total (x ∷ xs) = ap (λ n. lacks x + n) (lacks_total xs) ∙ sym (total_first (λ n. lacks (get_or (x ∷ xs) n None)) (length xs))

  lacks_parts : (xs : List (Option (Form ℕ P))) → lacks_all xs ≡ lacks (get_or xs 0 None) + lacks_all (drop 1 xs)
  lacks_parts [] = refl
  lacks_parts (x ∷ xs) = refl

module _ {P : Type 0} (s : Nodes P) (t : IsTree s) (branch : NodesFilled false s) (keyed : IsKeyed s) where
  abbrev h : ℕ → Seen P
  h = heap_of s

  -- the sizes of the nodes from one down, what they lack, and their pairs
  abbrev sizes : ℕ → ℕ → ℕ
  sizes f n = weigh bytes_at (get s) f n

  abbrev lacked : ℕ → ℕ → ℕ
  lacked f n = weigh lacks (get s) f n

  abbrev found : ℕ → ℕ → ℕ
  found f n = pairs_under h f n

  -- the sums over a node's bytes
  abbrev sizes_sum : ℕ → ℕ → ℕ
  sizes_sum f n = total (λ b. of_hung (λ c. sizes f c) ((h n).children b)) 256

  abbrev lacked_sum : ℕ → ℕ → ℕ
  lacked_sum f n = total (λ b. of_hung (λ c. lacked f c) ((h n).children b)) 256

  abbrev found_sum : ℕ → ℕ → ℕ
  found_sum f n = total (λ b. pairs_at (λ c. found f c) ((h n).children b)) 256

  abbrev children_sum : ℕ → ℕ
  children_sum n = total (λ b. weight ((h n).children b)) 256

  abbrev Few : ℕ → ℕ → Type 0
  Few f n = (b c : ℕ) → (h n).children b ≡ Below c → sizes f c + 64 ≤ 128 * found f c + 56 * lacked f c

  inner_at : (f n : ℕ) → Few f n → (b : ℕ) (x : Hung P) → (h n).children b ≡ x
      → of_hung (λ c. sizes f c) x + 64 * weight x ≤ 128 * pairs_at (λ c. found f c) x + 56 * of_hung (λ c. lacked f c) x
  inner_at f n below b Nothing e = omega arith
  inner_at f n below b (Below c) e = below b c e
  inner_at f n below b (Holds v) e = omega arith

  leaf_at : (f n : ℕ) → length (h n).prefix ≡ 7 → (b : ℕ) (x : Hung P) → (h n).children b ≡ x
      → of_hung (λ c. sizes f c) x + 128 * weight x ≤ 128 * pairs_at (λ c. found f c) x + 56 * of_hung (λ c. lacked f c) x
  leaf_at f n seven b Nothing e = omega arith
  leaf_at f n seven b (Below c) e = absurd (
      let i = (hung_child s t n b c e).1 in
      let l = t.tree.short c i.linked in
      omega (arith, i.longer, l, seven))
  leaf_at f n seven b (Holds v) e = omega arith

  inner_sums : (f n : ℕ) → Few f n → sizes_sum f n + 64 * children_sum n ≤ 128 * found_sum f n + 56 * lacked_sum f n
  inner_sums f n below = sums_inner (λ b. of_hung (λ c. sizes f c) ((h n).children b)) (λ b. weight ((h n).children b)) (λ b. pairs_at (λ c. found f c) ((h n).children b)) (λ b. of_hung (λ c. lacked f c) ((h n).children b)) 256 (λ b. inner_at f n below b ((h n).children b) refl)

  leaf_sums : (f n : ℕ) → length (h n).prefix ≡ 7 → sizes_sum f n + 128 * children_sum n ≤ 128 * found_sum f n + 56 * lacked_sum f n
  leaf_sums f n seven = sums_leaf (λ b. of_hung (λ c. sizes f c) ((h n).children b)) (λ b. weight ((h n).children b)) (λ b. pairs_at (λ c. found f c) ((h n).children b)) (λ b. of_hung (λ c. lacked f c) ((h n).children b)) 256 (λ b. leaf_at f n seven b ((h n).children b) refl)

  -- a node with those below it, as its own share and theirs
  sizes_are : (f n : ℕ) → sizes (suc f) n ≡ bytes_at (get s n) + sizes_sum f n
  unfolding weigh
  sizes_are f n = refl

  lacked_are : (f n : ℕ) → lacked (suc f) n ≡ lacks (get s n) + lacked_sum f n
  unfolding weigh
  lacked_are f n = refl

  found_are : (f n : ℕ) → found (suc f) n ≡ found_sum f n
  unfolding pairs_under
  found_are f n = sums_same (λ b. pairs_at (λ c. found f c) ((h n).children b)) 256

  child_not_root : (n b c : ℕ) → (h n).children b ≡ Below c → c ≢ 0
  child_not_root n b c e q =
      let i = (hung_child s t n b c e).1 in
      let z : length (h c).prefix ≡ 0 = ap (λ k. length (h k).prefix) q ∙ ap length t.tree.empty in
      absurd (omega (arith, i.longer, z))

  under : (f n : ℕ) → ContainsKey s n → n ≢ 0 → 8 ≤ f + length (h n).prefix → sizes f n + 64 ≤ 128 * found f n + 56 * lacked f n
  under zero n k ne deep = absurd (let l = short_prefix s t n k in omega (arith, l, deep))
  under (suc f) n k ne deep =
      let below : Few f n = λ b c e. let i = (hung_child s t n b c e).1 in under f c (stands_of s t.parent c i.linked) (child_not_root n b c e) (omega (arith, i.longer, deep)) in
      let x = node_at s n k in
      let own : bytes_at (get s n) ≡ size_of (form_of x.0) = ap bytes_at x.1 in
      let mine : lacks (get s n) ≡ fewest (form_of x.0) (length (prefix_of x.0)) - map.len (children_of x.0) = ap lacks x.1 in
      let count : map.len (children_of x.0) ≡ children_sum n = children_counted (children_of x.0) (bytes_low s t branch keyed n x.0 x.1) ∙ ap (λ o. total (λ b. weight ((node_of o).children b)) 256) (sym x.1) in
      let size : length (h n).prefix ≡ length (prefix_of x.0) = ap (λ o. length (node_of o).prefix) x.1 in
      let enough = branch n x.0 ne x.1 in
      let a = sizes_are f n in
      let b = lacked_are f n in
      let c = found_are f n in
      elim (cases_lt (length (h n).prefix) 7) [
        | inl inner ↦
            (let short : length (prefix_of x.0) < 7 = omega (arith, inner, size) in
            let two = enough.branches short in
            let z = inner_size (form_of x.0) (length (prefix_of x.0)) (map.len (children_of x.0)) two in
            let r = inner_sums f n below in
            omega (arith, own, mine, count, a, b, c, z, r))
        | inr leaf ↦
            (let l = short_prefix s t n k in
            let z = leaf_size (form_of x.0) (length (prefix_of x.0)) (map.len (children_of x.0)) enough.some in
            let r = leaf_sums f n (omega (arith, leaf, l)) in
            omega (arith, own, mine, count, a, b, c, z, r))
      ]

  -- the bytes of all nodes, by the pairs and by what the nodes lack
  pub few_bytes : bytes_of s ≤ most_bytes (map.len (pairs_of s)) (lacking_of s)
  unfolding lacking_of
  few_bytes =
      let stands : ContainsKey s 0 = stands_of s t.parent 0 t.tree.root in
      let x = node_at s 0 stands in
      let own : bytes_at (get s 0) ≡ 2104 = ap bytes_at x.1 ∙ ap size_of (root_form s x.0 t x.1) in
      let low = bytes_low s t branch keyed in
      let whole : sizes 8 0 ≡ bytes_of s = root_weighs bytes_at refl s t low ∙ sym (bytes_total s.slots) in
      let lack : lacked 8 0 ≡ lacks_all s.slots = root_weighs lacks refl s t low ∙ sym (lacks_total s.slots) in
      let apart : lacks_all s.slots ≡ lacks (get s 0) + lacks_all (drop 1 s.slots) = lacks_parts s.slots in
      let pairs : tree_pairs h ≡ map.len (pairs_of s) = pairs_keyed _ h t.tree (λ n l. begins_key s t branch keyed n (stands_of s t.parent n l)) (pairs_of s) (pairs_stand s) in
      let below : Few 7 0 = λ b c e. let i = (hung_child s t 0 b c e).1 in under 7 c (stands_of s t.parent c i.linked) (child_not_root 0 b c e) (omega (arith, i.longer)) in
      let r = inner_sums 7 0 below in
      let a : sizes 8 0 ≡ bytes_at (get s 0) + sizes_sum 7 0 = sizes_are 7 0 in
      let b : lacked 8 0 ≡ lacks (get s 0) + lacked_sum 7 0 = lacked_are 7 0 in
      let c : tree_pairs h ≡ found_sum 7 0 = found_are 7 0 in
      omega (arith, own, whole, lack, apart, pairs, r, a, b, c)
