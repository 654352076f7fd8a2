-- A leaf that takes a slot, or comes into its parent's place: names alone change.
use Rattle.std.proofs.Common.{◌≡◌, ◌≢◌, ℕ, inl, inr, List, take, get_or, sym, ap, subst, ◌∙◌}
use Rattle.std.specs.Prelude.{None, Some}
use Rattle.std.specs.Ordering.{nat_cmp}
use Rattle.std.specs.FinMap as map
use Rattle.slab.specs.Slab.{get, Updates}
use Rattle.congee.specs.forms.Forms.{children_of, form_of, prefix_of}
use Rattle.congee.specs.owned.Arena.{Nodes}
use Rattle.congee.specs.owned.OwnedSteps.{Sets}
use Rattle.congee.specs.owned.Renames.{Renames}
use Rattle.congee.specs.owned.Stores.{Folds, HangsLeaf, LosesLeaf}
use Rattle.congee.specs.declared.forms.base_node.Node.{Node}
use Rattle.congee.specs.declared.forms.base_node.Node.TheVariants.{N4, N16, N48, N256}
use Rattle.congee.specs.declared.forms.base_node.NodeType.TheVariants.{N4 as T4}
use Rattle.congee.specs.declared.forms.child.Child.{Child}
use Rattle.congee.specs.declared.forms.child.Child.TheVariants.{Node as Sub, Value}
use Rattle.congee.proofs.lemmas.Tree.{same_or_not}
use Rattle.congee.proofs.lemmas.forms.MappedLemmas.{same_answers}
use Rattle.congee.proofs.lemmas.owned.Moves.{apart_of, insert_at, insert_beside, remove_beside}

-- nodes of the least form are told by their prefix and children
pub same_least : {P : Type 0} (x y : Node ℕ P) → form_of x ≡ T4 → form_of y ≡ T4 → prefix_of x ≡ prefix_of y → children_of x ≡ children_of y → x ≡ y
same_least (N4 n) (N4 m) e f p c = λ i. N4 (record { prefix = p i; children = c i })
same_least (N4 n) (N16 m) e f p c = absurd (cc)
same_least (N4 n) (N48 m) e f p c = absurd (cc)
same_least (N4 n) (N256 m) e f p c = absurd (cc)
same_least (N16 n) y e f p c = absurd (cc)
same_least (N48 n) y e f p c = absurd (cc)
same_least (N256 n) y e f p c = absurd (cc)

-- taken out and put in
put_again : {X : Type 0} (m : map.FinMap nat_cmp X) (b : ℕ) (x : X) → map.insert (map.remove m b) b x ≡ map.insert m b x
put_again m b x = same_answers {X = ℕ} {Y = ℕ} (λ k y. y) _ _ (λ q. elim (same_or_not q b) [
  | inl e ↦ (let Q : ℕ → Type 0 = λ k. map.get (map.insert (map.remove m b) b x) k ≡ map.get (map.insert m b x) k in
      subst Q (sym e) (insert_at (map.remove m b) b x ∙ sym (insert_at m b x)))
  | inr ne ↦ insert_beside (map.remove m b) b x q ne ∙ (remove_beside m b q ne ∙ sym (insert_beside m b x q ne))
])

module _ {P : Type 0} where
  -- a leaf's only value, by what it answers
  pub one_child : (m : map.FinMap nat_cmp (Child ℕ P)) (k : ℕ) (c : Child ℕ P) → map.get m k ≡ Some c → ((b : ℕ) → b ≢ k → map.get m b ≡ None) → m ≡ map.insert map.empty k c
  one_child m k c e ne = same_answers {X = ℕ} {Y = ℕ} (λ k y. y) _ _ (λ q. elim (same_or_not q k) [
    | inl w ↦ (let Q : ℕ → Type 0 = λ z. map.get m z ≡ map.get (map.insert {R = nat_cmp} map.empty k c) z in subst Q (sym w) (e ∙ sym (insert_at map.empty k c)))
    | inr w ↦ ne q w ∙ sym (insert_beside map.empty k c q w ∙ map.get-empty _ q)
  ])

  -- a leaf went from its parent's place, stands in a slot that was free, and hangs where it hung
  pub unfold_done : (v v1 v2 v3 : Nodes P) (at b leaf name : ℕ) (y : Node ℕ P) (value : P) → get v at ≡ Some y → map.get (children_of y) b ≡ Some (Sub leaf) → (k : LosesLeaf v v1 at y b value)
      → get v1 name ≡ None → Updates v1 v2 name (Some k.was) → leaf ≢ name → ((x : Node ℕ P) → get v2 at ≡ Some x → Sets v2 v3 at x (map.insert (children_of x) b (Sub name))) → Renames v v3 at b leaf name
  unfold_done v v1 v2 v3 at b leaf name y value e child k free puts ne sets =
      let q : k.leaf ≡ leaf = (let a : Child ℕ P = Sub k.leaf in let d : Child ℕ P = Sub leaf in let z : Some a ≡ Some d = sym k.child ∙ child in cc) in
      let al : at ≢ leaf = (λ w. let z : None ≡ Some k.node = sym k.left ∙ (ap (get v1) (q ∙ sym w) ∙ k.now) in cc) in
      let an : at ≢ name = apart_of v1 at name k.node k.now free in
      let there : get v2 at ≡ Some k.node = puts.others at an ∙ k.now in
      let s = sets k.node there in
      record {
        old = y;
        new = s.node;
        node = k.was;
        was = e;
        child = child;
        stood = ap (get v) (sym q) ∙ k.stood;
        free = sym (k.others name (λ w. an (sym w)) (λ w. ne (sym (w ∙ q)))) ∙ free;
        now = s.updates.changed;
        becomes = record {
          form = s.becomes.form ∙ k.becomes.form;
          prefix = s.becomes.prefix ∙ k.becomes.prefix;
          children = s.becomes.children ∙ (ap (λ m. map.insert m b (Sub name)) k.becomes.children ∙ put_again (children_of y) b (Sub name));
        };
        stands = s.updates.others name (λ w. an (sym w)) ∙ puts.changed;
        left = s.updates.others leaf (λ w. al (sym w)) ∙ (puts.others leaf ne ∙ (ap (get v1) (sym q) ∙ k.left));
        others = λ m na nl nn. s.updates.others m na ∙ (puts.others m nn ∙ k.others m na (λ w. nl (w ∙ q)));
      }

  -- a leaf's value went, then the leaf, and a leaf for the same key lies in its parent's place
  pub fold_done : (v v1 v2 v3 : Nodes P) (at b leaf : ℕ) (y x : Node ℕ P) (key : List ℕ) (value : P) → get v at ≡ Some y → get v leaf ≡ Some x → map.get (children_of y) b ≡ Some (Sub leaf) → at ≢ leaf
      → ((m : ℕ) → m ≢ leaf → get v1 m ≡ get v m) → Updates v1 v2 leaf None → ((z : Node ℕ P) → get v2 at ≡ Some z → HangsLeaf v2 v3 at z b key value) → ((z : Node ℕ P) (h : HangsLeaf v2 v3 at z b key value) → h.leaf ≢ leaf)
      → form_of x ≡ T4 → prefix_of x ≡ take 7 key → children_of x ≡ map.insert map.empty (get_or key 7 0) (Value value) → Folds v v3 at b leaf
  fold_done v v1 v2 v3 at b leaf y x key value e ex child al same gone hangs inline form prefix children =
      let there : get v2 at ≡ Some y = gone.others at al ∙ (same at al ∙ e) in
      let h = hangs y there in
      let nl : h.leaf ≢ leaf = inline y h in
      let na : h.leaf ≢ at = (λ w. apart_of v2 at h.leaf y there h.vacant (sym w)) in
      let made : h.made ≡ x = same_least h.made x h.form form (h.has.prefix ∙ sym prefix) (one_child (children_of h.made) (get_or key 7 0) (Value value) h.has.value h.has.beside ∙ sym children) in
      record {
        name = h.leaf;
        renames = record {
          old = y;
          new = h.node;
          node = x;
          was = e;
          child = child;
          stood = ex;
          free = sym (gone.others h.leaf nl ∙ same h.leaf nl) ∙ h.vacant;
          now = h.now;
          becomes = h.becomes;
          stands = h.taken ∙ ap Some made;
          left = h.others leaf (λ w. al (sym w)) (λ w. nl (sym w)) ∙ gone.changed;
          others = λ m ma ml mn. h.others m ma mn ∙ (gone.others m ml ∙ same m ml);
        };
      }
