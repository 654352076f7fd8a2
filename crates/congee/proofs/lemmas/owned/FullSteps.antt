-- What insertions and removals leave of nodes that have enough children.
use Rattle.std.proofs.Common.{◌≡◌, ◌≢◌, ℕ, suc, ◌+◌, ◌<◌, ◌≤◌, inl, inr, Bool, true, false, cond, List, length, get_or, refl, sym, ap, subst, ◌∙◌, arith}
use Rattle.std.specs.Prelude.{None, Some}
use Rattle.std.specs.FinMap as map
use Rattle.std.proofs.lemmas.List.{length-take}
use Rattle.slab.specs.Slab.{get, ContainsKey}
use Rattle.congee.specs.forms.Forms.{Becomes, capacity_of, children_of, form_of, is_full_of, next_form, prefix_of, size_of}
use Rattle.congee.specs.owned.Arena.{Nodes, IsTree, heap_of}
use Rattle.congee.specs.owned.Changes.{IsLeafOf}
use Rattle.congee.specs.owned.Full.{FilledIn, HasEnough, LesserCame, NodesFilled, OthersFilled, places_for}
use Rattle.congee.specs.owned.Going.{lesser_if, lesser_of}
use Rattle.congee.specs.owned.Lesser.{LosesChild}
use Rattle.congee.specs.owned.Lifting.{MayLift, MovesUp}
use Rattle.congee.specs.owned.OwnedSteps.{MakesRoom, SameNodes, Sets}
use Rattle.congee.specs.owned.Stores.{HangsLeaf}
use Rattle.congee.specs.protocol.Filled.{least_in, FilledAs}
use Rattle.congee.specs.protocol.Steps.{form_below, shrinks}
use Rattle.congee.specs.declared.forms.base_node.Node.{Node as Form}
use Rattle.congee.specs.declared.forms.base_node.NodeType.{NodeType}
use Rattle.congee.specs.declared.forms.base_node.NodeType.TheVariants.{N4, N16, N48, N256}
use Rattle.congee.specs.declared.forms.child.Child.{Child}
use Rattle.congee.specs.declared.forms.child.Child.TheVariants.{Node as Sub, Value}
use Rattle.congee.proofs.lemmas.Tree.{same_or_not}
use Rattle.congee.proofs.lemmas.forms.Full.{full_at, full_is}
use Rattle.congee.proofs.lemmas.owned.Filled.{has_pair}
use Rattle.congee.proofs.lemmas.owned.Fulls.{changed_enough, enough_more, filled_as, filled_but, filled_greater, filled_least, filled_less, filled_lesser, filled_then, holds_of_same, least_of, len_more, len_two, others_filled}
use Rattle.congee.proofs.lemmas.owned.Hangings.{Forked, forked_at}
use Rattle.congee.proofs.lemmas.owned.Lifting.{moved_apart}
use Rattle.congee.proofs.lemmas.owned.Moves.{differs_insert, node_at}
use Rattle.congee.proofs.lemmas.owned.Removing.{lesser_read}
use Rattle.congee.proofs.lemmas.Fits.{equal_of_test}

-- a full form has as many children as it can have
full_capacity : (form : NodeType) (n : ℕ) → full_at form n ≡ true → n ≡ capacity_of form
full_capacity N4 n e = equal_of_test n 4 e
full_capacity N16 n e = equal_of_test n 16 e
full_capacity N48 n e = equal_of_test n 48 e
full_capacity N256 n e = absurd (let z : false ≡ true = e in cc)

module _ {P : Type 0} (by_form : Bool) where
  -- a node with one child more, in the next form if it was full
  more_enough : (x z : Form ℕ P) → form_of z ≡ cond (is_full_of x) (next_form (form_of x)) (form_of x) → prefix_of z ≡ prefix_of x → map.len (children_of z) ≡ suc (map.len (children_of x)) → HasEnough by_form x → HasEnough by_form z
  more_enough x z form prefix more f = of (is_full_of x) refl
    where
      of : (b : Bool) → is_full_of x ≡ b → HasEnough by_form z
      of true e =
          let k : map.len (children_of x) ≡ capacity_of (form_of x) = full_capacity (form_of x) (map.len (children_of x)) (sym (full_is x) ∙ e) in
          let g = filled_greater by_form (length (prefix_of x)) (map.len (children_of x)) (form_of x) k f in
          let least = least_of by_form (next_form (form_of x)) (length (prefix_of x)) (suc (map.len (children_of x))) g in
          let same : least_in (form_of z) ≡ least_in (next_form (form_of x)) = ap least_in (form ∙ ap (λ b. cond b (next_form (form_of x)) (form_of x)) e) in
          let size : length (prefix_of z) ≡ length (prefix_of x) = ap length prefix in
          filled_as by_form (form_of z) (length (prefix_of z)) (map.len (children_of z)) (omega (arith, more))
          (λ l. let two = g.branches (omega (arith, l, size)) in omega (arith, two, more)) (λ asked. let k = least asked in omega (arith, k, same, more))
      of false e = enough_more by_form x z (form ∙ ap (λ b. cond b (next_form (form_of x)) (form_of x)) e) prefix (omega (arith, more)) f

  -- a node that got room, and then a child
  room_enough : (s s1 : Nodes P) (at byte : ℕ) (c : Child ℕ P) (x z : Form ℕ P) → (k : MakesRoom s s1 at x) → map.get (children_of k.node) byte ≡ None → Becomes k.node z (map.insert (children_of k.node) byte c) → HasEnough by_form x → HasEnough by_form z
  room_enough s s1 at byte c x z k absent b f =
      let n : map.len (children_of z) ≡ suc (map.len (children_of x)) = ap map.len b.children ∙ (len_more (children_of k.node) byte c absent ∙ ap (λ m. suc (map.len m)) k.children) in
      more_enough x z (b.form ∙ k.form) (b.prefix ∙ k.prefixed) n f

  -- a value comes into a leaf
  pub value_filled : (s s1 s2 : Nodes P) (at byte : ℕ) (v : P) → ContainsKey s at → ((x : Form ℕ P) → get s at ≡ Some x → MakesRoom s s1 at x)
      → ((x : Form ℕ P) → get s1 at ≡ Some x → map.get (children_of x) byte ≡ None)
      → ((x : Form ℕ P) → get s1 at ≡ Some x → Sets s1 s2 at x (map.insert (children_of x) byte (Value v))) → NodesFilled by_form s → NodesFilled by_form s2
  value_filled s s1 s2 at byte v st g absent sets h =
      let n = node_at s at st in
      let k = g n.0 n.1 in
      let now : get s1 at ≡ Some k.node = k.updates.changed in
      let j = sets k.node now in
      filled_but by_form s s2 at j.node (others_filled by_form s at h) (λ ne. room_enough s s1 at byte (Value v) n.0 j.node k (absent k.node now) j.becomes (h at n.0 ne n.1))
      j.updates.changed (λ m ne. j.updates.others m ne ∙ k.updates.others m ne)

  -- a leaf of the least form with a value
  leaf_enough : (made : Form ℕ P) (key : List ℕ) (v : P) → length key ≡ 8 → form_of made ≡ N4 → IsLeafOf made key v → HasEnough by_form made
  leaf_enough made key v len form leaf =
      let one = has_pair (children_of made) (get_or key 7 0) (Value v) leaf.value in
      let size : length (prefix_of made) ≡ 7 = ap length leaf.prefix ∙ omega (arith, length-take 7 key, len) in
      subst (λ f. FilledAs (length (prefix_of made)) (map.len (children_of made)) (places_for by_form f)) (sym form)
      (filled_least by_form (length (prefix_of made)) (map.len (children_of made)) one (λ l. absurd (omega (arith, l, size))))

  -- a leaf of the key's comes in below an inner node
  pub leaf_filled : (s0 s1 s2 s3 : Nodes P) (key : List ℕ) (at byte : ℕ) (v : P) → length key ≡ 8 → ContainsKey s0 at → SameNodes s0 s1
      → ((x : Form ℕ P) → get s1 at ≡ Some x → MakesRoom s1 s2 at x)
      → ((x : Form ℕ P) → get s2 at ≡ Some x → map.get (children_of x) byte ≡ None)
      → ((x : Form ℕ P) → get s2 at ≡ Some x → HangsLeaf s2 s3 at x byte key v) → NodesFilled by_form s0 → NodesFilled by_form s3
  leaf_filled s0 s1 s2 s3 key at byte v len st same g absent hang f =
      let n = node_at s0 at st in
      let k = g n.0 (same at ∙ n.1) in
      let now : get s2 at ≡ Some k.node = k.updates.changed in
      let h = hang k.node now in
      filled_then by_form s0 s3 f (λ m x ne e. elim (same_or_not m at) [
        | inl q ↦ inr (holds_of_same s3 (HasEnough by_form) m at x h.node q e h.now (room_enough s1 s2 at byte (Sub h.leaf) n.0 h.node k (absent k.node now) h.becomes (f at n.0 (λ z. ne (q ∙ z)) n.1)))
        | inr na ↦ elim (same_or_not m h.leaf) [
          | inl q ↦ inr (holds_of_same s3 (HasEnough by_form) m h.leaf x h.made q e h.taken (leaf_enough h.made key v len h.form h.has))
          | inr nl ↦ inl (m, ne, sym (same m) ∙ (sym (k.updates.others m na) ∙ (sym (h.others m na nl) ∙ e)))
        ]
      ])

  -- a node over another comes in, with a leaf for the key
  module _ (s0 s1 s2 s3 s4 : Nodes P) (key : List ℕ) (common over other below at byte : ℕ) (v : P) (f : Forked s0 s1 s2 s3 key common over other below v) (len : length key ≡ 8) (st : ContainsKey s0 at) where
    over_enough : HasEnough by_form f.forks.node
    over_enough =
        let one = differs_insert f.made.node f.hangs.node (get_or key common 0) (Sub f.hangs.leaf) f.hangs.becomes in
        let two = differs_insert f.hangs.node f.forks.node other (Sub below) f.forks.becomes in
        let apart : get_or key common 0 ≢ other = (λ e. f.parts.apart (e ∙ f.other_is)) in
        let n = len_two (children_of f.forks.node) (get_or key common 0) other (Sub f.hangs.leaf) (Sub below) apart (two.beside (get_or key common 0) apart ∙ one.here) two.here in
        let form : form_of f.forks.node ≡ N4 = f.forks.becomes.form ∙ (f.hangs.becomes.form ∙ f.made.form) in
        subst (λ w. FilledAs (length (prefix_of f.forks.node)) (map.len (children_of f.forks.node)) (places_for by_form w)) (sym form)
        (filled_least by_form (length (prefix_of f.forks.node)) (map.len (children_of f.forks.node)) (omega (arith, n)) (λ _. n))

    -- a fork put in its place above leaves the nodes enough children if they had
    pub fork_filled : ((x : Form ℕ P) → get s3 at ≡ Some x → map.get (children_of x) byte ≡ Some (Sub below))
        → ((x : Form ℕ P) → get s3 at ≡ Some x → Sets s3 s4 at x (map.insert (children_of x) byte (Sub over))) → NodesFilled by_form s0 → NodesFilled by_form s4
    fork_filled there sets h =
        let n = node_at s0 at st in
        let e3 : get s3 at ≡ Some n.0 = forked_at s0 s1 s2 s3 key common over other below v f at st ∙ n.1 in
        let k = sets n.0 e3 in
        filled_then by_form s0 s4 h (λ m x ne e. elim (same_or_not m at) [
          | inl q ↦ inr (holds_of_same s4 (HasEnough by_form) m at x k.node q e k.updates.changed (changed_enough by_form n.0 k.node byte (Sub over) (Sub below) (there n.0 e3) k.becomes (h at n.0 (λ z. ne (q ∙ z)) n.1)))
          | inr na ↦ elim (same_or_not m over) [
            | inl q ↦ inr (holds_of_same s3 (HasEnough by_form) m over x f.forks.node q (sym (k.updates.others m na) ∙ e) f.forks.updates.changed over_enough)
            | inr nv ↦ elim (same_or_not m f.hangs.leaf) [
              | inl q ↦ inr (holds_of_same s2 (HasEnough by_form) m f.hangs.leaf x f.hangs.made q (sym (f.forks.updates.others m nv) ∙ (sym (k.updates.others m na) ∙ e)) f.hangs.taken (leaf_enough f.hangs.made key v len f.hangs.form f.hangs.has))
              | inr nl ↦ inl (m, ne, sym (f.made.updates.others m nv) ∙ (sym (f.hangs.others m nv nl) ∙ (sym (f.forks.updates.others m nv) ∙ (sym (k.updates.others m na) ∙ e))))
            ]
          ]
        ])

-- a lesser node that was wanted, and isn't there, was skipped
came_not : (form : NodeType) (n before after gone : ℕ) → shrinks form n ≡ true → after + gone ≡ before → LesserCame before after gone (lesser_if (shrinks form n) form) → ⊥
came_not N4 n before after gone s e c = let z : false ≡ true = s in cc
came_not N16 n before after gone s e c = let k : after + gone + 168 ≡ before + 64 = subst (λ b. LesserCame before after gone (lesser_if b N16)) s c in omega (arith, k, e)
came_not N48 n before after gone s e c = let k : after + gone + 672 ≡ before + 168 = subst (λ b. LesserCame before after gone (lesser_if b N48)) s c in omega (arith, k, e)
came_not N256 n before after gone s e c = let k : after + gone + 2104 ≡ before + 672 = subst (λ b. LesserCame before after gone (lesser_if b N256)) s c in omega (arith, k, e)

-- the sum of the sizes tells whether a node took the form below
pub never_less : (form : NodeType) (before after : ℕ) → form ≢ N4 → after ≡ before → after + size_of form ≡ before + size_of (form_below form) → ⊥
never_less N4 before after ne same e = ne refl
never_less N16 before after ne same e = omega (arith, same, e)
never_less N48 before after ne same e = omega (arith, same, e)
never_less N256 before after ne same e = omega (arith, same, e)

-- so none was wanted
pub none_wanted : (form : NodeType) (n before after gone : ℕ) → after + gone ≡ before → LesserCame before after gone (lesser_if (shrinks form n) form) → shrinks form n ≡ false
none_wanted form n before after gone e c = of (shrinks form n) refl
  where
    of : (b : Bool) → shrinks form n ≡ b → shrinks form n ≡ false
    of true s = absurd (came_not form n before after gone s e c)
    of false s = s

-- and one that is there was
pub came_then : (form : NodeType) (n before after gone : ℕ) → shrinks form n ≡ true → LesserCame before after gone (lesser_if (shrinks form n) form) → after + gone + size_of form ≡ before + size_of (form_below form)
came_then form n before after gone s c = subst (λ b. LesserCame before after gone (lesser_if b form)) s c

module _ {P : Type 0} (by_form : Bool) where
  -- node x lost one of its children, of which some are left
  module _ (x y : Form ℕ P) (form : form_of y ≡ form_of x) (prefix : prefix_of y ≡ prefix_of x) (fewer : suc (map.len (children_of y)) ≡ map.len (children_of x)) (some : 1 ≤ map.len (children_of y))
      (more : length (prefix_of x) < 7 → map.len (children_of x) ≢ 2) (enough : HasEnough by_form x) where
    size : length (prefix_of y) ≡ length (prefix_of x)
    size = ap length prefix

    two_left : length (prefix_of x) < 7 → 2 ≤ map.len (children_of y)
    two_left l = let n = more l in let two = enough.branches l in omega (arith, n, two, fewer)

    before : FilledAs (length (prefix_of x)) (suc (map.len (children_of y))) (places_for by_form (form_of x))
    before = subst (λ n. FilledAs (length (prefix_of x)) n (places_for by_form (form_of x))) (sym fewer) enough

    -- a node that lost a child, and wasn't to give place to a lesser one, has enough children
    pub less_enough : (by_form ≡ true → shrinks (form_of x) (map.len (children_of x)) ≡ false) → HasEnough by_form y
    less_enough s =
        let f = filled_less by_form (length (prefix_of x)) (map.len (children_of y)) (form_of x) (λ asked. ap (shrinks (form_of x)) fewer ∙ s asked) some two_left in
        subst (λ w. FilledAs (length (prefix_of y)) (map.len (children_of y)) (places_for by_form w)) (sym form)
        (subst (λ n. FilledAs n (map.len (children_of y)) (places_for by_form (form_of x))) (sym size) f)

    -- a node that lost a child has enough for the form below
    pub lesser_enough : FilledIn (places_for by_form (form_below (form_of y))) y
    lesser_enough =
        let f = filled_lesser by_form (length (prefix_of x)) (map.len (children_of y)) (form_of x) before some two_left in
        subst (λ w. FilledAs (length (prefix_of y)) (map.len (children_of y)) (places_for by_form (form_below w))) (sym form)
        (subst (λ n. FilledAs n (map.len (children_of y)) (places_for by_form (form_below (form_of x)))) (sym size) f)

module _ {P : Type 0} where
  -- what a call read of a node, as it is
  pub read_came : (s : Nodes P) (at : ℕ) (x : Form ℕ P) (f : NodeType) (n : ℕ) → get s at ≡ Some x → f ≡ form_of x → n ≡ map.len (children_of x) → (before after gone : ℕ)
      → LesserCame before after gone (lesser_of (heap_of s at)) → LesserCame before after gone (lesser_if (shrinks f n) f)
  read_came s at x f n e ef en before after gone c = subst (λ z. LesserCame before after gone z) (lesser_read s at x f n e ef en) c

  -- a form and a count that were read, and want no lesser node, are of a node that wants none
  pub read_shrinks : (x : Form ℕ P) (f : NodeType) (n : ℕ) → f ≡ form_of x → n ≡ map.len (children_of x) → shrinks f n ≡ false → shrinks (form_of x) (map.len (children_of x)) ≡ false
  read_shrinks x f n ef en s = ap (shrinks (form_of x)) (sym en) ∙ (ap (λ t. shrinks t n) (sym ef) ∙ s)

module _ {P : Type 0} (by_form : Bool) where
  -- a node takes the form below, which it has enough children for
  pub lessened_filled : (s s' : Nodes P) (at : ℕ) (x y : Form ℕ P) → OthersFilled by_form s at → FilledIn (places_for by_form (form_below (form_of x))) x → form_of y ≡ form_below (form_of x) → prefix_of y ≡ prefix_of x → children_of y ≡ children_of x
      → get s' at ≡ Some y → ((m : ℕ) → m ≢ at → get s' m ≡ get s m) → NodesFilled by_form s'
  lessened_filled s s' at x y h f form prefix children now others =
      let g : FilledAs (length (prefix_of y)) (map.len (children_of x)) (places_for by_form (form_below (form_of x))) = subst (λ p. FilledAs (length p) (map.len (children_of x)) (places_for by_form (form_below (form_of x)))) (sym prefix) f in
      let k : FilledAs (length (prefix_of y)) (map.len (children_of y)) (places_for by_form (form_below (form_of x))) = subst (λ m. FilledAs (length (prefix_of y)) (map.len m) (places_for by_form (form_below (form_of x)))) (sym children) g in
      let full : HasEnough by_form y = subst (λ w. FilledAs (length (prefix_of y)) (map.len (children_of y)) (places_for by_form w)) (sym form) k in
      filled_but by_form s s' at y h (λ _. full) now others

  -- a node stays, where nothing is asked by its form, as its children are enough by any
  pub stays_filled : (s s' : Nodes P) (at : ℕ) (x : Form ℕ P) → SameNodes s s' → get s at ≡ Some x → OthersFilled by_form s at → FilledIn (places_for by_form (form_below (form_of x))) x → (by_form ≡ true → ⊥) → NodesFilled by_form s'
  stays_filled s s' at x same e h f unasked =
      filled_but by_form s s' at x h (λ _. filled_as by_form (form_of x) (length (prefix_of x)) (map.len (children_of x)) f.some f.branches (λ asked. absurd (unasked asked))) (same at ∙ e) (λ m _. same m)

  -- the nodes beside one that lost a leaf
  pub lost_others : (s s' : Nodes P) (key : List ℕ) (above at : ℕ) → LosesChild s s' key above at → NodesFilled by_form s → OthersFilled by_form s' above
  lost_others s s' key above at k h n x ne na e = elim (same_or_not n at) [
    | inl q ↦ absurd (let z : None ≡ Some x = sym k.left ∙ (ap (λ w. get s' w) (sym q) ∙ e) in cc)
    | inr nt ↦ h n x ne (sym (k.others n na nt) ∙ e)
  ]

  -- a node's only child comes into its place
  pub lifted_filled : (s s' : Nodes P) (g b p : ℕ) (t : IsTree s) (r : MayLift s g b p) (k : MovesUp s s' g b p r) → OthersFilled by_form s p → NodesFilled by_form s'
  lifted_filled s s' g b p t r k h n x ne e = elim (same_or_not n k.name) [
    | inl q ↦ holds_of_same s' (HasEnough by_form) n k.name x r.node q e k.stands (h r.one.child r.node (moved_apart s s' g b p t r k) r.child_apart_below r.child)
    | inr nm ↦ elim (same_or_not n p) [
      | inl q ↦ absurd (let z : None ≡ Some x = sym k.left ∙ (ap (λ w. get s' w) (sym q) ∙ e) in cc)
      | inr np ↦ elim (same_or_not n g) [
        | inl q ↦ holds_of_same s' (HasEnough by_form) n g x k.new q e k.now (changed_enough by_form r.upper k.new b (Sub k.name) (Sub p) r.hung k.becomes (h g r.upper (λ z. ne (q ∙ z)) r.apart r.was))
        | inr ng ↦ elim (same_or_not n r.one.child) [
          | inl q ↦ elim k.named [
            | inl w ↦ absurd (nm (q ∙ sym w))
            | inr w ↦ absurd (let z : None ≡ Some x = sym w.1 ∙ (ap (λ y. get s' y) (sym q) ∙ e) in cc)
          ]
          | inr nv ↦ h n x ne np (sym (k.others n ng np nv nm) ∙ e)
        ]
      ]
    ]
  ]
