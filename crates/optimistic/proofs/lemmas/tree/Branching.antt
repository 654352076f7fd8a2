-- A new node where a key parts from the keys below a child.
use Rattle.std.proofs.Common.{◌≡◌, ◌≢◌, ℕ, ◌+◌, ◌<◌, ◌≤◌, ◌⊎◌, eqb, Bool, true, false, List, [], ◌∷◌, ◌++◌, sym, refl, ap, ◌∙◌, subst, inl, inr, arith, eq-eqb, ne_eqb, if◌then◌else◌, ◌&&◌}
use Rattle.std.specs.Prelude.{None, Some, ltb}
use Rattle.std.proofs.lemmas.Bool.{cases_eq, eqb-true, ltb-true}
use Rattle.optimistic.specs.Layout.{byte_at, child_of, tag_of, level_of, leaf_of, prefix_of, where_of}
use Rattle.optimistic.specs.declared.words.rule.Block.{Block}
use Rattle.optimistic.specs.declared.words.rule.Entry.{Entry}
use Rattle.optimistic.specs.words.Kept.{calm_at}
use Rattle.optimistic.specs.forms.Children.{first_of, second_of, IsForm, put_first}
use Rattle.optimistic.specs.tree.Levels.{form_of, depth, fits, stands, goes_on, pair_value, SameAt, IsSplit}
use Rattle.optimistic.specs.tree.Branches.{Begins, IsBranch, HasNoBranch, Splits}
use Rattle.optimistic.specs.tree.Trees.{where_at, first_in, second_in, first_at, second_at, IsTree}
use Rattle.optimistic.proofs.lemmas.forms.ChildLemmas.{second_is as second_by}
use Rattle.optimistic.proofs.lemmas.forms.Levels.{where_form, where_level, leaf_whole}
use Rattle.optimistic.proofs.lemmas.forms.Prefixes.{prefix_more, prefix_whole, where_head}
use Rattle.optimistic.proofs.lemmas.tree.Between.{split}
use Rattle.optimistic.proofs.lemmas.tree.Nodes.{clash, not_true, same_refl, goes_stands}
use Rattle.optimistic.proofs.lemmas.tree.Puts.{first_inner, first_is, second_is, leaf_ends, leaf_value, leaf_none}
use Rattle.optimistic.proofs.lemmas.tree.Reading.{where_stands, none_ends, none_value}
use Rattle.optimistic.proofs.lemmas.tree.Replaced.{both_left, both_right, where_covers, where_made, none_stands, prefix_less, byte_less, child_node, child_goes, node_value, like}

-- The child f, x goes on only to keys that begin as o does, as far as depth e; and of the keys with o's first byte it has no others' values.
-- At the full depth it is o's lone leaf
record HasPrefix (f x o e : ℕ) : Type 0 where
  some : f ≢ 0
  goes : (k : ℕ) → goes_on f x k ≡ true → (prefix_of k e ≡ prefix_of o e) × (depth x ≡ e)
  value : (k : ℕ) → prefix_of k 1 ≡ prefix_of o 1 → prefix_of k e ≢ prefix_of o e → pair_value f x k ≡ None
  leaf : e ≡ 8 → f ≡ leaf_of o

-- what the keys below a child begin with: a lone leaf, and a node
leaf_prefix : (f x o : ℕ) → leaf_of o ≡ f → HasPrefix f x o 8
leaf_prefix f x o e = record {
  some = λ (z : f ≡ 0). absurd (let q : leaf_of o ≡ 0 = e ∙ z in omega (arith, q));
  goes = λ k on. absurd (clash (goes_on f x k) on (ap (λ (z : ℕ). goes_on z x k) (sym e) ∙ leaf_ends x o k));
  value = λ k top away. ap (λ (z : ℕ). pair_value z x k) (sym e) ∙ leaf_none x o k (λ (q : leaf_of o ≡ leaf_of k). away (ap (λ (z : ℕ). prefix_of z 8) (sym (leaf_whole o k (sym top) q))));
  leaf = λ _. sym e;
}

node_none : (f x k : ℕ) → tag_of f < 9 → pair_value f x k ≡ None
unfolding pair_value
node_none f x k low = ap (λ (b : Bool). if b then Some x else None) (ne_eqb f (leaf_of k) (λ (e : f ≡ leaf_of k). let t : tag_of f ≡ tag_of (leaf_of k) = ap tag_of e in absurd (omega (arith, t, low))))

-- where a child goes on, its two words fit each other
goes_fits : (f x k : ℕ) → goes_on f x k ≡ true → (form_of x ≡ tag_of f) × (depth x ≡ level_of f)
unfolding goes_on
goes_fits f x k on =
    let both = both_right (ltb 0 (tag_of f) && ltb (tag_of f) 9) (eqb (form_of x) (tag_of f) && eqb (depth x) (level_of f)) (both_left (fits f x) (stands x k) on) in
    (eqb-true (form_of x) (tag_of f) (both_left (eqb (form_of x) (tag_of f)) (eqb (depth x) (level_of f)) both), eqb-true (depth x) (level_of f) (both_right (eqb (form_of x) (tag_of f)) (eqb (depth x) (level_of f)) both))

node_prefix : (f x : ℕ) → 0 < tag_of f → tag_of f < 9 → HasPrefix f x x (level_of f)
node_prefix f x tagged low = record {
  some = λ (z : f ≡ 0). absurd (omega (arith, z, tagged));
  goes = λ k on.
      let e = goes_fits f x k on in
      let made : x ≡ where_of (form_of x) (depth x) k = (where_made x k (goes_stands f x k on)).0 in
      let here : x ≡ where_of (form_of x) (level_of f) k = made ∙ ap (λ (z : ℕ). where_of (form_of x) z k) e.1 in
      (sym (ap (λ (z : ℕ). prefix_of z (level_of f)) here ∙ where_head (form_of x) (level_of f) k (omega (arith, e.0, low)) (omega arith)), e.1);
  value = λ k top away. node_none f x k low;
  leaf = λ (q : level_of f ≡ 8). absurd (omega (arith, q));
}

-- where a key parts from the keys that a child has
branches : (f x o e key level g c : ℕ) → HasPrefix f x o e → prefix_of key c ≡ prefix_of o c → byte_at key c ≢ byte_at o c → level < c → c < e → e ≤ 8 → (g ≡ 1) ⊎ ((g ≡ 5) × (c ≡ 7)) → IsBranch f x key level g c (byte_at o c)
branches f x o e key level g c t same apart deep low most form = record {
  some = t.some;
  deep = deep;
  low = omega (arith, low, most);
  form_is = form;
  apart = λ q. apart (sym q);
  goes = λ k on. let p = t.goes k on in (prefix_less e c k o (omega (arith, low)) most p.0 ∙ sym same, byte_less e c k o low most p.0, subst (λ (z : ℕ). c < z) (sym p.1) low);
  value = λ k top away. t.value k (top ∙ prefix_less c 1 key o (omega (arith, deep)) (omega (arith, low, most)) same)
      (λ p. away (prefix_less e c k o (omega (arith, low)) most p ∙ sym same, byte_less e c k o low most p));
  last = λ seven k p b.
      let e8 : e ≡ 8 = omega (arith, seven, low, most) in
      let p' : prefix_of k 7 ≡ prefix_of o 7 = p ∙ subst (λ (z : ℕ). prefix_of key z ≡ prefix_of o z) seven same in
      let b' : byte_at k 7 ≡ byte_at o 7 = b ∙ ap (byte_at o) seven in
      t.leaf e8 ∙ ap leaf_of (sym (prefix_whole k o (prefix_more 7 k o (omega arith) p' b')));
}

begins_prefix : (f x key o e : ℕ) → Begins f x key o e → HasPrefix f x o e
begins_prefix f x key o e t = elim t [
  | inl b ↦ subst (λ (z : ℕ). HasPrefix f x o z) (sym b.2) (leaf_prefix f x o (sym b.0))
  | inr b ↦ subst (λ (z : ℕ × ℕ). HasPrefix f x z.0 z.1) (λ i. (sym b.2 i, sym b.3 i)) (node_prefix f x b.0 b.1)
]

begins_most : (f x key o e : ℕ) → Begins f x key o e → e ≤ 8
begins_most f x key o e t = elim t [
  | inl b ↦ omega (arith, b.2)
  | inr b ↦ let q : e ≡ level_of f = b.3 in omega (arith, q)
]

leaf_tag : (o : ℕ) → tag_of (leaf_of o) ≡ 9
leaf_tag o = omega arith

begins_one : (f x key o e o' e' : ℕ) → Begins f x key o e → Begins f x key o' e' → (o' ≡ o) × (e' ≡ e)
begins_one f x key o e o' e' t t' = elim t [
  | inl b ↦ elim t' [
    | inl b' ↦ (leaf_whole o' o (b'.1 ∙ sym b.1) (sym b'.0 ∙ b.0), b'.2 ∙ sym b.2)
    | inr b' ↦ absurd (let q : tag_of f ≡ 9 = ap tag_of b.0 ∙ leaf_tag o in omega (arith, q, b'.1))
  ]
  | inr b ↦ elim t' [
    | inl b' ↦ absurd (let q : tag_of f ≡ 9 = ap tag_of b'.0 ∙ leaf_tag o' in omega (arith, q, b.1))
    | inr b' ↦ (b'.2 ∙ sym b.2, b'.3 ∙ sym b.3)
  ]
]

-- a branch where the key parts from these keys
pub branch_there : (f x o e key level g c byte : ℕ) → Begins f x key o e → prefix_of key c ≡ prefix_of o c → (c < 8 → byte_at key c ≢ byte_at o c) → level < c → c < e → byte ≡ byte_at o c → (g ≡ 1) ⊎ ((g ≡ 5) × (c ≡ 7)) → IsBranch f x key level g c byte
branch_there f x o e key level g c byte t same apart deep low is form =
    let most = begins_most f x key o e t in
    subst (λ (b : ℕ). IsBranch f x key level g c b) (sym is) (branches f x o e key level g c (begins_prefix f x key o e t) same (apart (omega (arith, low, most))) deep low most form)

-- and where there is none
pub no_branch : (f x o e key level c : ℕ) → level < 8 → Begins f x key o e → c ≤ 8 → prefix_of key c ≡ prefix_of o c → (c < 8 → byte_at key c ≢ byte_at o c) → (c ≤ level) ⊎ (e ≤ c) → HasNoBranch f x key level
no_branch f x o e key level c small t most same apart off o' e' t' =
    let one = begins_one f x key o e o' e' t t' in
    elim off [
      | inl l ↦ inr (λ (q : prefix_of key (level + 1) ≡ prefix_of o' (level + 1)).
          apart (omega (arith, l, small)) (byte_less (level + 1) c key o (omega (arith, l)) (omega (arith, small)) (q ∙ ap (λ (z : ℕ). prefix_of z (level + 1)) one.0)))
      | inr l ↦ inl (ap (prefix_of key) one.1 ∙ (prefix_less c e key o l most same ∙ (λ i. prefix_of (sym one.0 i) (sym one.1 i))))
    ]

pub nothing_begins : (f x key level : ℕ) → ((o e : ℕ) → Begins f x key o e → ⊥) → HasNoBranch f x key level
nothing_begins f x key level none o e t = absurd (none o e t)

-- the child doesn't go on to the key, and has no value of it
pub branch_off : (f x key level g c byte : ℕ) → IsBranch f x key level g c byte → goes_on f x key ≡ false
branch_off f x key level g c byte t = not_true (goes_on f x key) (λ on. t.apart (sym (t.goes key on).1))

pub branch_none : (f x key level g c byte : ℕ) → IsBranch f x key level g c byte → pair_value f x key ≡ None
branch_none f x key level g c byte t = t.value key refl (λ p. t.apart (sym p.1))

-- the second word at a byte, whatever the key
second_any : (form : ℕ) (w : ℕ → ℕ) (key k b : ℕ) → second_of form w key b ≡ second_of form w k b
second_any form w key k b = second_by form w key b ∙ sym (second_by form w k b)

-- what the first words say of a node of four, by its form
put_child : (f k : ℕ) → put_first 1 f k ≡ f
put_child f k = refl

put_value : (f k : ℕ) → put_first 5 f k ≡ leaf_of k
put_value f k = refl

module _ (B C : List Block) (n m form level g c byte f x key val : ℕ) (log : List Entry) (t : IsTree B log)
    (r : Splits form level m g c byte f x key val (calm_at B n) (calm_at C n) (calm_at C m)) (blank : where_at B m ≡ 0) (nm : n ≢ m) (others : (p : ℕ) → p ≢ n → p ≢ m → (j : ℕ) → calm_at C p j ≡ calm_at B p j) where
  abbrev u : ℕ
  u = where_of g c key

  abbrev w : ℕ
  w = child_of g c m

  small : form < 5
  small = ltb-true form 5 r.inner

  new_some : 0 < g
  new_some = elim r.branch.form_is [
    | inl e ↦ omega (arith, e)
    | inr e ↦ omega (arith, e.0)
  ]

  new_low : g < 9
  new_low = elim r.branch.form_is [
    | inl e ↦ omega (arith, e)
    | inr e ↦ omega (arith, e.0)
  ]

  low : form < 9
  low = omega (arith, small)

  -- keys that the node covers, and those that the new one does
  covers_key : (k : ℕ) → stands (where_at B n) k ≡ true → prefix_of key level ≡ prefix_of k level
  covers_key k h = eqb-true (prefix_of key level) (prefix_of k level) (sym (where_covers form level key k r.some low r.low) ∙ (ap (λ (z : ℕ). stands z k) (sym r.covers) ∙ h))

  branch_key : (k : ℕ) → stands u k ≡ true → prefix_of key c ≡ prefix_of k c
  branch_key k h = eqb-true (prefix_of key c) (prefix_of k c) (sym (where_covers g c key k new_some new_low r.branch.low) ∙ h)

  branch_stands : (k : ℕ) → prefix_of k c ≡ prefix_of key c → stands u k ≡ true
  branch_stands k e = where_covers g c key k new_some new_low r.branch.low ∙ eq-eqb (prefix_of key c) (prefix_of k c) (sym e)

  up : (k : ℕ) → stands u k ≡ true → (stands (where_at B n) k ≡ true) × (byte_at k level ≡ byte_at key level)
  up k h =
      let p = branch_key k h in
      let l = r.branch.deep in
      let h8 = r.branch.low in (
        ap (λ (z : ℕ). stands z k) r.covers ∙ (where_covers form level key k r.some low r.low ∙ eq-eqb (prefix_of key level) (prefix_of k level) (prefix_less c level key k (omega (arith, l)) (omega (arith, h8)) p)),
        sym (byte_less c level key k l (omega (arith, h8)) p),
      )

  -- the first bytes of the keys that the node covers at the key's byte
  top : (k : ℕ) → stands (where_at B n) k ≡ true → byte_at k level ≡ byte_at key level → prefix_of k 1 ≡ prefix_of key 1
  top k h b = sym (prefix_less (level + 1) 1 key k (omega arith) (omega (arith, r.low)) (prefix_more level key k r.low (covers_key k h) (sym b)))

  -- the node's child there, before and after
  was : (k : ℕ) → byte_at k level ≡ byte_at key level → (first_at B n k ≡ f) × (second_at B n k ≡ x)
  was k b = (
    first_is form level key r.some low r.low (calm_at B n) (calm_at B n) r.covers (λ j _ _. refl) k
        ∙ (ap (λ (z : ℕ). first_of form (calm_at B n) k z) b ∙ (first_inner form (calm_at B n) k key (byte_at key level) r.inner ∙ r.first)),
    second_is form level key r.some low r.low (calm_at B n) (calm_at B n) r.covers (λ j _ _. refl) k
        ∙ (ap (λ (z : ℕ). second_of form (calm_at B n) k z) b ∙ (second_any form (calm_at B n) k key (byte_at key level) ∙ r.second)),
  )

  now_is : calm_at C n 1 ≡ where_of form level key
  now_is = r.covers_still ∙ r.covers

  now : (k : ℕ) → byte_at k level ≡ byte_at key level → (first_at C n k ≡ w) × (second_at C n k ≡ u)
  now k b = (
    first_is form level key r.some low r.low (calm_at C n) (calm_at C n) now_is (λ j _ _. refl) k
        ∙ (ap (λ (z : ℕ). first_of form (calm_at C n) k z) b ∙ r.becomes.first k),
    second_is form level key r.some low r.low (calm_at C n) (calm_at C n) now_is (λ j _ _. refl) k
        ∙ (ap (λ (z : ℕ). second_of form (calm_at C n) k z) b ∙ r.becomes.second k),
  )

  aside : (k : ℕ) → byte_at k level ≢ byte_at key level → (first_at C n k ≡ first_at B n k) × (second_at C n k ≡ second_at B n k)
  aside k b = (
    first_is form level key r.some low r.low (calm_at C n) (calm_at C n) now_is (λ j _ _. refl) k
        ∙ (r.becomes.other_firsts k (byte_at k level) b ∙ sym (first_is form level key r.some low r.low (calm_at B n) (calm_at B n) r.covers (λ j _ _. refl) k)),
    second_is form level key r.some low r.low (calm_at C n) (calm_at C n) now_is (λ j _ _. refl) k
        ∙ (r.becomes.other_seconds k (byte_at k level) b ∙ sym (second_is form level key r.some low r.low (calm_at B n) (calm_at B n) r.covers (λ j _ _. refl) k)),
  )

  -- the new node's children
  new_first : (k : ℕ) → first_at C m k ≡ first_of g (calm_at C m) k (byte_at k c)
  new_first k = first_is g c key new_some new_low r.branch.low (calm_at C m) (calm_at C m) r.covers_new (λ j _ _. refl) k

  new_second : (k : ℕ) → second_at C m k ≡ second_of g (calm_at C m) k (byte_at k c)
  new_second k = second_is g c key new_some new_low r.branch.low (calm_at C m) (calm_at C m) r.covers_new (λ j _ _. refl) k

  -- keys that the old child says nothing of
  silent : (k : ℕ) → prefix_of k 1 ≡ prefix_of key 1 → ((prefix_of k c ≡ prefix_of key c) × (byte_at k c ≡ byte) → ⊥) → (goes_on f x k ≡ false) × (pair_value f x k ≡ None)
  silent k e away = (not_true (goes_on f x k) (λ on. let b = r.branch.goes k on in away (b.0, b.1)), r.branch.value k e away)

  neither : (k f' x' g' y' : ℕ) → (goes_on f' x' k ≡ false) × (pair_value f' x' k ≡ None) → (goes_on g' y' k ≡ false) × (pair_value g' y' k ≡ None) → SameAt k f' x' g' y'
  neither k f' x' g' y' p q = record {
    goes = q.0 ∙ sym p.0;
    node = λ on. absurd (clash (goes_on f' x' k) on p.0);
    value = q.1 ∙ sym p.1;
  }

  on : (k : ℕ) → goes_on w u k ≡ stands u k
  on k = child_goes g c m key k new_some new_low r.branch.low

  itself : stands u key ≡ true
  itself = where_stands g c key new_some new_low r.branch.low

  beside : (k : ℕ) → stands (where_at B n) k ≡ true → stands u k ≡ false → SameAt k (first_at B n k) (second_at B n k) (first_at C n k) (second_at C n k)
  beside k h out = elim (cases_eq (byte_at k level) (byte_at key level)) [
    | inl b ↦
        let a = was k b in
        let z = now k b in
        let s = silent k (top k h b) (λ p. clash (stands u k) (branch_stands k p.0) out) in
        neither k (first_at B n k) (second_at B n k) (first_at C n k) (second_at C n k) ((λ i. goes_on (a.0 i) (a.1 i) k) ∙ s.0, (λ i. pair_value (a.0 i) (a.1 i) k) ∙ s.1)
        ((λ i. goes_on (z.0 i) (z.1 i) k) ∙ (on k ∙ out), (λ i. pair_value (z.0 i) (z.1 i) k) ∙ node_value w u key k (on key ∙ itself))
    | inr b ↦ let a = aside k b in same_refl k (first_at B n k) (second_at B n k) (first_at C n k) (second_at C n k) a.0 a.1
  ]

  -- what the new node's first words are, by its form
  by_form : (a k : ℕ) → ((g ≡ 1) × (put_first g a k ≡ a)) ⊎ ((c ≡ 7) × (put_first g a k ≡ leaf_of k))
  by_form a k = elim r.branch.form_is [
    | inl e ↦ inl (e, ap (λ (z : ℕ). put_first z a k) e ∙ put_child a k)
    | inr e ↦ inr (e.1, ap (λ (z : ℕ). put_first z a k) e.0 ∙ put_value a k)
  ]

  kept_first : (k : ℕ) → stands u k ≡ true → byte_at k c ≡ byte → first_at C m k ≡ f
  kept_first k h b =
      let e : first_at C m k ≡ put_first g f k = new_first k ∙ (ap (λ (z : ℕ). first_of g (calm_at C m) k z) b ∙ r.two.first_there k) in
      e ∙ elim (by_form f k) [
        | inl p ↦ p.1
        | inr p ↦ p.1 ∙ sym (r.branch.last p.0 k (sym (subst (λ (z : ℕ). prefix_of key z ≡ prefix_of k z) p.0 (branch_key k h))) (subst (λ (z : ℕ). byte_at k z ≡ byte) p.0 b))
      ]

  kept_second : (k : ℕ) → byte_at k c ≡ byte → second_at C m k ≡ x
  kept_second k b = new_second k ∙ (ap (λ (z : ℕ). second_of g (calm_at C m) k z) b ∙ r.two.second_there k)

  -- the key's leaf says nothing of another key
  own_byte : (k : ℕ) → stands u k ≡ true → k ≢ key → byte_at k c ≡ byte_at key c → (goes_on (first_at C m k) (second_at C m k) k ≡ false) × (pair_value (first_at C m k) (second_at C m k) k ≡ None)
  own_byte k h ne b =
      let e : first_at C m k ≡ put_first g (leaf_of key) k = new_first k ∙ (ap (λ (z : ℕ). first_of g (calm_at C m) k z) b ∙ r.two.first_here k) in
      let y : ℕ = second_at C m k in
      let p = branch_key k h in
      elim (by_form (leaf_of key) k) [
        | inl q ↦
            let l : first_at C m k ≡ leaf_of key = e ∙ q.1 in
            let s = up k h in
            let away : leaf_of key ≢ leaf_of k = λ z. ne (sym (leaf_whole key k (sym (top k s.0 s.1)) z)) in
            (ap (λ (z : ℕ). goes_on z y k) l ∙ leaf_ends y key k, ap (λ (z : ℕ). pair_value z y k) l ∙ leaf_none y key k away)
        | inr q ↦ absurd (ne (sym (prefix_whole key k (prefix_more 7 key k (omega arith) (subst (λ (z : ℕ). prefix_of key z ≡ prefix_of k z) q.0 p) (subst (λ (z : ℕ). byte_at key z ≡ byte_at k z) q.0 (sym b))))))
      ]

  nothing : (k : ℕ) → byte_at k c ≢ byte → byte_at k c ≢ byte_at key c → (goes_on (first_at C m k) (second_at C m k) k ≡ false) × (pair_value (first_at C m k) (second_at C m k) k ≡ None)
  nothing k a b =
      let e : first_at C m k ≡ 0 = new_first k ∙ r.two.none k (byte_at k c) a b in
      let y : ℕ = second_at C m k in
      (ap (λ (z : ℕ). goes_on z y k) e ∙ none_ends y k, ap (λ (z : ℕ). pair_value z y k) e ∙ none_value y k)

  below : (k : ℕ) → stands u k ≡ true → k ≢ key → SameAt k f x (first_at C m k) (second_at C m k)
  below k h ne = elim (cases_eq (byte_at k c) byte) [
    | inl b ↦ same_refl k f x (first_at C m k) (second_at C m k) (kept_first k h b) (kept_second k b)
    | inr b ↦
        let s = up k h in
        let o = silent k (top k s.0 s.1) (λ p. b p.1) in
        neither k f x (first_at C m k) (second_at C m k) o (elim (cases_eq (byte_at k c) (byte_at key c)) [
          | inl q ↦ own_byte k h ne q
          | inr q ↦ nothing k b q
        ])
  ]

  leaf_there : first_at C m key ≡ leaf_of key
  leaf_there = new_first key ∙ (r.two.first_here key ∙ elim (by_form (leaf_of key) key) [
    | inl q ↦ q.1
    | inr q ↦ q.1
  ])

  value_there : second_at C m key ≡ val
  value_there = new_second key ∙ r.two.second_here key

  is_split : IsSplit (where_at B) (where_at C) (first_at B) (second_at B) (first_at C) (second_at C) n m u w f x key (Some val)
  is_split = record {
    blank = λ k. none_stands (where_at B m) k blank;
    others = λ p pm. elim (cases_eq p n) [
      | inl e ↦ ap (where_at C) e ∙ (r.covers_still ∙ ap (where_at B) (sym e))
      | inr pn ↦ others p pn pm 1
    ];
    new = r.covers_new;
    apart = nm;
    names = child_node g c m new_low r.branch.low;
    on = λ k h. on k ∙ h;
    elsewhere = λ p k pn pm. let e = like B C p (others p pn pm) in (ap (λ (z : ℕ → ℕ). first_in z k) e, ap (λ (z : ℕ → ℕ). second_in z k) e);
    above = λ k h. let s = up k h in let a = was k s.1 in let z = now k s.1 in (s.0, a.0, a.1, z.0, z.1);
    beside = beside;
    below = below;
    here = itself;
    off = branch_off f x key level g c byte r.branch;
    ended = ap (λ (z : ℕ). goes_on z (second_at C m key) key) leaf_there ∙ leaf_ends (second_at C m key) key key;
    says = (λ i. pair_value (leaf_there i) (value_there i) key) ∙ leaf_value val key;
    deep = subst (λ (z : ℕ × ℕ). z.0 < z.1) (λ i. ((sym (ap depth r.covers ∙ where_level form level key r.low (omega (arith, low)))) i, (sym (where_level g c key r.branch.low (omega (arith, new_low)))) i)) r.branch.deep;
    deeper = λ k h. subst (λ (z : ℕ). z < depth x) (sym (where_level g c key r.branch.low (omega (arith, new_low)))) (r.branch.goes k h).2;
  }

  pub split_tree : (log' : List Entry) (e : Entry) → e.key ≡ key → e.value ≡ Some val → log' ≡ log ++ e ∷ [] → IsTree C log'
  split_tree log' e is_key is_value longer = record {
    nodes = split (where_at B) (where_at C) (first_at B) (second_at B) (first_at C) (second_at C) n m u w f x key (Some val) is_split log log' e is_key is_value longer t.nodes;
    forms = λ p some. elim (cases_eq p m) [
      | inl q ↦ subst (λ (z : ℕ). IsForm (form_of (where_at C z)) (calm_at C z)) (sym q) (subst (λ (z : ℕ). IsForm z (calm_at C m)) (sym (ap form_of r.covers_new ∙ where_form g c key r.branch.low (omega (arith, new_low)))) r.two.form_is)
      | inr pm ↦ elim (cases_eq p n) [
        | inl q ↦ subst (λ (z : ℕ). IsForm (form_of (where_at C z)) (calm_at C z)) (sym q) (subst (λ (z : ℕ). IsForm z (calm_at C n)) (sym (ap form_of now_is ∙ where_form form level key r.low (omega (arith, low)))) r.becomes.form_stays)
        | inr pn ↦ let e' = like B C p (others p pn pm) in subst (λ (z : ℕ → ℕ). IsForm (form_of (z 1)) z) (sym e') (t.forms p (λ z. some (others p pn pm 1 ∙ z)))
      ]
    ];
    top = is_split.others 16 (λ (q : 16 ≡ m). let z : 32 ≡ 0 = sym t.top ∙ (ap (where_at B) q ∙ blank) in omega arith) ∙ t.top;
  }
