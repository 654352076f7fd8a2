-- The tree after a node came in another's place, or after a node's only child went up.
use Rattle.std.proofs.Common.{◌≡◌, ◌≢◌, ℕ, ◌+◌, ◌-◌, ◌*◌, ◌/◌, ◌%◌, ◌^◌, ◌<◌, ◌≤◌, ◌&&◌, eqb, Bool, true, false, List, [], ◌∷◌, ◌++◌, sym, refl, ap, ◌∙◌, subst, inl, inr, arith, eq-eqb, shr-shr, if◌then◌else◌}
use Rattle.std.specs.Prelude.{Option, None, Some, ltb, unwrap_or}
use Rattle.std.proofs.lemmas.Bool.{cases_eq, eqb-true, lt-ltb, ltb-true}
use Rattle.std.specs.FinMap as map
use Rattle.optimistic.specs.Layout.{byte_at, child_of, tag_of, level_of, node_of, where_of, leaf_of, prefix_of}
use Rattle.optimistic.specs.declared.words.rule.Block.{Block}
use Rattle.optimistic.specs.declared.words.rule.Entry.{Entry}
use Rattle.optimistic.specs.words.Kept.{calm_at}
use Rattle.optimistic.specs.forms.Children.{firsts, lasts, first_of, second_of, IsForm}
use Rattle.optimistic.specs.tree.Levels.{form_of, depth, fits, stands, goes_on, pair_value, Passes, Links, SameAt, IsReplaced, IsLifted}
use Rattle.optimistic.specs.tree.Trees.{where_at, first_in, second_in, first_at, second_at, IsTree}
use Rattle.optimistic.specs.tree.Replace.{IsOver, IsLinked, Replaces, Lifts}
use Rattle.optimistic.proofs.lemmas.forms.ByteLemmas.{eqb_other}
use Rattle.optimistic.proofs.lemmas.forms.ChildLemmas.{first_inner, second_is}
use Rattle.optimistic.proofs.lemmas.forms.Levels.{where_form, where_level, where_same}
use Rattle.optimistic.proofs.lemmas.tree.Nodes.{clash, same_refl, goes_like}
use Rattle.optimistic.proofs.lemmas.tree.Instead.{replace, lift}

same_tests : (a b c e : ℕ) → (a ≡ b → c ≡ e) → (c ≡ e → a ≡ b) → eqb a b ≡ eqb c e
same_tests a b c e to from = elim (cases_eq a b) [
  | inl p ↦ eq-eqb a b p ∙ sym (eq-eqb c e (to p))
  | inr d ↦ eqb_other a b d ∙ sym (eqb_other c e (λ q. d (from q)))
]

pub both_left : (p q : Bool) → (p && q) ≡ true → p ≡ true
both_left true q e = refl
both_left false q e = absurd (clash false e refl)

pub both_right : (p q : Bool) → (p && q) ≡ true → q ≡ true
both_right true q e = e
both_right false q e = absurd (clash false e refl)

-- a where covers the keys with its first bytes
pub where_covers : (f d key k : ℕ) → 0 < f → f < 9 → d < 8 → stands (where_of f d key) k ≡ eqb (prefix_of key d) (prefix_of k d)
unfolding stands
where_covers f d key k some low l =
    let wf : form_of (where_of f d key) ≡ f = where_form f d key l (omega arith) in
    let wd : depth (where_of f d key) ≡ d = where_level f d key l (omega arith) in
    ap (λ (z : ℕ). ltb 0 z && eqb (where_of f d key) (where_of z (depth (where_of f d key)) k)) wf
    ∙ ap (λ (z : ℕ). ltb 0 f && eqb (where_of f d key) (where_of f z k)) wd
    ∙ ap (λ (b : Bool). b && eqb (where_of f d key) (where_of f d k)) (lt-ltb 0 f some)
    ∙ same_tests (where_of f d key) (where_of f d k) (prefix_of key d) (prefix_of k d) (where_same f f d key k l (omega arith) (omega arith)) (λ e. ap (λ (p : ℕ). p * 2 ^ (64 - 8 * d) + 8 * f + d) e)

pub none_stands : (w k : ℕ) → w ≡ 0 → stands w k ≡ false
unfolding stands
none_stands w k e = ap (λ (z : ℕ). ltb 0 (form_of z) && eqb z (where_of (form_of z) (depth z) k)) e

-- a where that covers a key is made of it
pub where_made : (w k : ℕ) → stands w k ≡ true → (w ≡ where_of (form_of w) (depth w) k) × (0 < form_of w)
unfolding stands
where_made w k e = (eqb-true w (where_of (form_of w) (depth w) k) (both_right (ltb 0 (form_of w)) (eqb w (where_of (form_of w) (depth w) k)) e), ltb-true 0 (form_of w) (both_left (ltb 0 (form_of w)) (eqb w (where_of (form_of w) (depth w) k)) e))

-- keys with the same first bytes have fewer the same, and each of them
pub prefix_less : (d e key k : ℕ) → e ≤ d → d ≤ 8 → prefix_of key d ≡ prefix_of k d → prefix_of key e ≡ prefix_of k e
prefix_less d e key k le l same =
    let h : (64 - 8 * d) + 8 * (d - e) ≡ 64 - 8 * e = omega arith in
    let step : (i : ℕ) → prefix_of i e ≡ prefix_of i d / 2 ^ (8 * (d - e)) = λ (i : ℕ). ap (λ (z : ℕ). i / 2 ^ z) (sym h) ∙ sym (shr-shr i (64 - 8 * d) (8 * (d - e))) in
    step key ∙ ap (λ (z : ℕ). z / 2 ^ (8 * (d - e))) same ∙ sym (step k)

pub byte_less : (d e key k : ℕ) → e < d → d ≤ 8 → prefix_of key d ≡ prefix_of k d → byte_at key e ≡ byte_at k e
byte_less d e key k le l same =
    let h : 64 - 8 * (e + 1) ≡ 56 - 8 * e = omega arith in
    let step : (i : ℕ) → byte_at i e ≡ prefix_of i (e + 1) % 256 = λ (i : ℕ). ap (λ (z : ℕ). i / 2 ^ z % 256) (sym h) in
    step key ∙ ap (λ (z : ℕ). z % 256) (prefix_less d (e + 1) key k (omega arith) l same) ∙ sym (step k)

-- a child word of a node's form
child_tag : (g d m : ℕ) → g < 9 → d < 8 → tag_of (child_of g d m) ≡ g
child_tag g d m l k = omega arith

child_level : (g d m : ℕ) → g < 9 → d < 8 → level_of (child_of g d m) ≡ d
child_level g d m l k = omega arith

pub child_node : (g d m : ℕ) → g < 9 → d < 8 → node_of (child_of g d m) ≡ m
child_node g d m l k = omega arith

pub child_goes : (g d m key k : ℕ) → 0 < g → g < 9 → d < 8 → goes_on (child_of g d m) (where_of g d key) k ≡ stands (where_of g d key) k
unfolding goes_on
child_goes g d m key k some low l =
    let tag = child_tag g d m low l in
    let level = child_level g d m low l in
    let a : ltb 0 (tag_of (child_of g d m)) ≡ true = lt-ltb 0 (tag_of (child_of g d m)) (omega arith) in
    let b : ltb (tag_of (child_of g d m)) 9 ≡ true = lt-ltb (tag_of (child_of g d m)) 9 (omega arith) in
    let e : eqb (form_of (where_of g d key)) (tag_of (child_of g d m)) ≡ true = eq-eqb _ _ (where_form g d key l (omega arith) ∙ sym tag) in
    let h : eqb (depth (where_of g d key)) (level_of (child_of g d m)) ≡ true = eq-eqb _ _ (where_level g d key l (omega arith) ∙ sym level) in
    λ i. ((a i && b i) && (e i && h i)) && stands (where_of g d key) k

-- a child word of a node is no lone leaf
pub node_value : (f x o k : ℕ) → goes_on f x o ≡ true → pair_value f x k ≡ None
unfolding goes_on pair_value
node_value f x o k on =
    let kind = both_left (ltb 0 (tag_of f)) (ltb (tag_of f) 9) (both_left (ltb 0 (tag_of f) && ltb (tag_of f) 9) (eqb (form_of x) (tag_of f) && eqb (depth x) (level_of f)) (both_left (fits f x) (stands x o) on)) in
    let low = ltb-true (tag_of f) 9 (both_right (ltb 0 (tag_of f)) (ltb (tag_of f) 9) (both_left (ltb 0 (tag_of f) && ltb (tag_of f) 9) (eqb (form_of x) (tag_of f) && eqb (depth x) (level_of f)) (both_left (fits f x) (stands x o) on))) in
    ap (λ (b : Bool). if b then Some x else None) (eqb_other f (leaf_of k) (λ (e : f ≡ leaf_of k). let t : tag_of f ≡ tag_of (leaf_of k) = ap tag_of e in absurd (omega (arith, t, low))))

module _ (B C : List Block) (a n key f d : ℕ) (log : List Entry) (t : IsTree B log) (over : IsOver B a n key f d) where
  abbrev level : ℕ
  level = depth (where_at B a)

  abbrev form : ℕ
  form = form_of (where_at B a)

  form_small : form < 5
  form_small = ltb-true form 5 over.inner

  level_small : level < 8
  level_small = omega arith

  link : Links (where_at B) (first_at B) (second_at B) a key
  link = t.nodes.linked a key (over.covers, over.on)

  pub second_is_where : second_at B a key ≡ where_of f d key
  second_is_where = sym link.0 ∙ (ap (where_at B) over.names ∙ over.where_below)

  deeper : level < d
  deeper = let w = where_level f d key over.depth_low (omega (arith, over.form_low)) in subst (λ (z : ℕ). level < z) (ap depth second_is_where ∙ w) link.1

  -- keys that the lower node covers are on its side
  agree : (k : ℕ) → stands (where_of f d key) k ≡ true → prefix_of key d ≡ prefix_of k d
  agree k h = eqb-true (prefix_of key d) (prefix_of k d) (sym (where_covers f d key k over.form_some over.form_low over.depth_low) ∙ h)

  pub same_side : (k : ℕ) → stands (where_of f d key) k ≡ true → (stands (where_at B a) k ≡ true) × (byte_at k level ≡ byte_at key level)
  same_side k h =
      let p = agree k h in
      let made = where_made (where_at B a) key over.covers in
      let e : prefix_of key level ≡ prefix_of k level = prefix_less d level key k (omega (arith, deeper)) (omega (arith, over.depth_low)) p in (
        ap (λ (z : ℕ). stands z k) made.0 ∙ (where_covers form level key k made.1 (omega (arith, form_small)) level_small ∙ eq-eqb (prefix_of key level) (prefix_of k level) e),
        sym (byte_less d level key k deeper (omega (arith, over.depth_low)) p),
      )

  first_side : (k : ℕ) → byte_at k level ≡ byte_at key level → (first_at B a k ≡ first_at B a key) × (second_at B a k ≡ second_at B a key)
  first_side k e = (
    first_inner form (calm_at B a) k (byte_at k level) over.inner ∙ (ap (λ (z : ℕ). unwrap_or (map.get (firsts form (calm_at B a)) z) 0) e ∙ sym (first_inner form (calm_at B a) key (byte_at key level) over.inner)),
    second_is form (calm_at B a) k (byte_at k level) ∙ (ap (λ (z : ℕ). unwrap_or (map.get (lasts form (calm_at B a)) z) 0) e ∙ sym (second_is form (calm_at B a) key (byte_at key level))),
  )

  -- the way through node a
  pub passes : (k : ℕ) → stands (where_of f d key) k ≡ true → Passes (where_at B) (first_at B) (second_at B) a k × (node_of (first_at B a k) ≡ n)
  passes k h =
      let s = same_side k h in
      let w = first_side k s.1 in
      ((s.0, (λ i. goes_on (w.0 i) (w.1 i) k) ∙ (goes_like (first_at B a key) (second_at B a key) k key over.on ∙ (ap (λ (z : ℕ). stands z k) second_is_where ∙ h))), ap node_of w.0 ∙ over.names)

  -- which keys on that side it doesn't go on to
  stops : (k : ℕ) → byte_at k level ≡ byte_at key level → stands (where_of f d key) k ≡ false → (goes_on (first_at B a k) (second_at B a k) k ≡ false) × (pair_value (first_at B a k) (second_at B a k) k ≡ None)
  stops k e h =
      let w = first_side k e in (
        (λ i. goes_on (w.0 i) (w.1 i) k) ∙ (goes_like (first_at B a key) (second_at B a key) k key over.on ∙ (ap (λ (z : ℕ). stands z k) second_is_where ∙ h)),
        (λ i. pair_value (w.0 i) (w.1 i) k) ∙ node_value (first_at B a key) (second_at B a key) key k over.on,
      )

  module _ (c u : ℕ) (l : IsLinked B C a key c u) where
    pub after_side : (k : ℕ) → byte_at k level ≡ byte_at key level → (first_at C a k ≡ c) × (second_at C a k ≡ u)
    after_side k e = (
      ap (λ (z : ℕ). first_of (form_of z) (calm_at C a) k (byte_at k (depth z))) l.where_stays ∙ (ap (λ (z : ℕ). first_of form (calm_at C a) k z) e ∙ l.becomes.first k),
      ap (λ (z : ℕ). second_of (form_of z) (calm_at C a) k (byte_at k (depth z))) l.where_stays ∙ (ap (λ (z : ℕ). second_of form (calm_at C a) k z) e ∙ l.becomes.second k),
    )

    pub beside_side : (k : ℕ) → byte_at k level ≢ byte_at key level → (first_at C a k ≡ first_at B a k) × (second_at C a k ≡ second_at B a k)
    beside_side k ne = (
      ap (λ (z : ℕ). first_of (form_of z) (calm_at C a) k (byte_at k (depth z))) l.where_stays ∙ l.becomes.other_firsts k (byte_at k level) ne,
      ap (λ (z : ℕ). second_of (form_of z) (calm_at C a) k (byte_at k (depth z))) l.where_stays ∙ l.becomes.other_seconds k (byte_at k level) ne,
    )

-- nodes whose words are the same
pub like : (B C : List Block) (p : ℕ) → ((j : ℕ) → calm_at C p j ≡ calm_at B p j) → calm_at C p ≡ calm_at B p
like B C p e = λ i j. e j i

-- the root hangs below no node
module _ (B : List Block) (a n key f d : ℕ) (log : List Entry) (t : IsTree B log) (over : IsOver B a n key f d) where
  pub not_top : 16 ≢ n
  not_top q =
      let link = t.nodes.linked a key (over.covers, over.on) in
      let at_n : second_at B a key ≡ 32 = sym link.0 ∙ (ap (where_at B) (over.names ∙ sym q) ∙ t.top) in
      let l : depth (where_at B a) < depth (second_at B a key) = link.1 in
      let z : depth (second_at B a key) ≡ 0 = ap depth at_n in
      omega arith

module _ (B C : List Block) (a n m key f g d : ℕ) (value : Option ℕ) (log : List Entry) (t : IsTree B log) (r : Replaces B C a n m key f g d value) where
  covers_same : (k : ℕ) → stands (where_of g d key) k ≡ stands (where_of f d key) k
  covers_same k = where_covers g d key k r.new_some r.new_low r.over.depth_low ∙ sym (where_covers f d key k r.over.form_some r.over.form_low r.over.depth_low)

  goes_new : (k : ℕ) → goes_on (child_of g d m) (where_of g d key) k ≡ stands (where_of f d key) k
  goes_new k = child_goes g d m key k r.new_some r.new_low r.over.depth_low ∙ covers_same k

  itself : stands (where_of g d key) key ≡ true
  itself = where_covers g d key key r.new_some r.new_low r.over.depth_low ∙ eq-eqb (prefix_of key d) (prefix_of key d) refl

  below_n : (k : ℕ) → stands (where_at B n) k ≡ true → stands (where_of f d key) k ≡ true
  below_n k h = ap (λ (z : ℕ). stands z k) (sym r.over.where_below) ∙ h

  beside : (k : ℕ) → stands (where_of f d key) k ≡ false → SameAt k (first_at B a k) (second_at B a k) (first_at C a k) (second_at C a k)
  beside k h = elim (cases_eq (byte_at k (depth (where_at B a))) (byte_at key (depth (where_at B a)))) [
    | inl e ↦
        let s = stops B C a n key f d log t r.over k e h in
        let w = after_side B C a n key f d log t r.over (child_of g d m) (where_of g d key) r.linked k e in
        let off : goes_on (first_at C a k) (second_at C a k) k ≡ false = (λ i. goes_on (w.0 i) (w.1 i) k) ∙ (goes_new k ∙ h) in
        record {
          goes = off ∙ sym s.0;
          node = λ on. absurd (clash (goes_on (first_at B a k) (second_at B a k) k) on s.0);
          value =
              (λ i. pair_value (w.0 i) (w.1 i) k) ∙ (node_value (child_of g d m) (where_of g d key) key k (child_goes g d m key key r.new_some r.new_low r.over.depth_low ∙ itself) ∙ sym s.1);
        }
    | inr ne ↦ let w = beside_side B C a n key f d log t r.over (child_of g d m) (where_of g d key) r.linked k ne in same_refl k (first_at B a k) (second_at B a k) (first_at C a k) (second_at C a k) w.0 w.1
  ]

  is_replaced : IsReplaced (where_at B) (where_at C) (first_at B) (second_at B) (first_at C) (second_at C) a n m key value
  is_replaced = record {
    blank = λ k. none_stands (where_at B m) k r.blank;
    gone = λ k. none_stands (where_at C n) k r.gone;
    cover = λ k. ap (λ (z : ℕ). stands z k) r.where_new ∙ (covers_same k ∙ ap (λ (z : ℕ). stands z k) (sym r.over.where_below));
    deep = ap depth r.where_new ∙ (where_level g d key r.over.depth_low (omega (arith, r.new_low)) ∙ (sym (where_level f d key r.over.depth_low (omega (arith, r.over.form_low))) ∙ ap depth (sym r.over.where_below)));
    others = λ p pn pm. elim (cases_eq p a) [
      | inl e ↦ ap (where_at C) e ∙ (r.linked.where_stays ∙ ap (where_at B) (sym e))
      | inr pa ↦ r.others p pa pn pm 1
    ];
    an = r.over.apart;
    am = r.am;
    nm = r.nm;
    elsewhere = λ p k pa pn pm. let w = like B C p (r.others p pa pn pm) in (ap (λ (x : ℕ → ℕ). first_in x k) w, ap (λ (x : ℕ → ℕ). second_in x k) w);
    above = λ k h.
        let s = below_n k h in
        let p = passes B C a n key f d log t r.over k s in
        let w = after_side B C a n key f d log t r.over (child_of g d m) (where_of g d key) r.linked k (same_side B C a n key f d log t r.over k s).1 in
        (p.0, p.1, (λ i. goes_on (w.0 i) (w.1 i) k) ∙ (goes_new k ∙ s), ap node_of w.0 ∙ child_node g d m r.new_low r.over.depth_low, w.1 ∙ sym r.where_new);
    beside = λ k h no_n. beside k (ap (λ (z : ℕ). stands z k) (sym r.over.where_below) ∙ no_n);
    below = λ k h ne. r.below k (below_n k h) ne;
    here = (ap (λ (z : ℕ). stands z key) r.over.where_below ∙ (sym (covers_same key) ∙ itself), r.off);
    ended = r.ended;
    says = r.says;
  }

  pub replaced : (log' : List Entry) (e : Entry) → e.key ≡ key → e.value ≡ value → log' ≡ log ++ e ∷ [] → IsTree C log'
  replaced log' e is_key is_value longer = record {
    nodes = replace (where_at B) (where_at C) (first_at B) (second_at B) (first_at C) (second_at C) a n m key value is_replaced log log' e is_key is_value longer t.nodes;
    forms = λ p some. elim (cases_eq p m) [
      | inl q ↦ subst (λ (z : ℕ). IsForm (form_of (where_at C z)) (calm_at C z)) (sym q) (subst (λ (z : ℕ). IsForm z (calm_at C m)) (sym (ap form_of r.where_new ∙ where_form g d key r.over.depth_low (omega (arith, r.new_low)))) r.form_new)
      | inr pm ↦ elim (cases_eq p n) [
        | inl q ↦ absurd (some (ap (where_at C) q ∙ r.gone))
        | inr pn ↦ elim (cases_eq p a) [
          | inl q ↦ subst (λ (z : ℕ). IsForm (form_of (where_at C z)) (calm_at C z)) (sym q) (subst (λ (z : ℕ). IsForm (form_of z) (calm_at C a)) (sym r.linked.where_stays) r.linked.becomes.form_stays)
          | inr pa ↦ let w = like B C p (r.others p pa pn pm) in subst (λ (x : ℕ → ℕ). IsForm (form_of (x 1)) x) (sym w) (t.forms p (λ z. some (r.others p pa pn pm 1 ∙ z)))
        ]
      ]
    ];
    top = is_replaced.others 16 (not_top B a n key f d log t r.over) (λ (q : 16 ≡ m). let z : 32 ≡ 0 = sym t.top ∙ (ap (where_at B) q ∙ r.blank) in omega arith) ∙ t.top;
  }

module _ (B C : List Block) (a n key f d byte c x : ℕ) (log : List Entry) (t : IsTree B log) (r : Lifts B C a n key f d byte c x) where
  under_n : (k : ℕ) → stands (where_at B n) k ≡ true → stands (where_of f d key) k ≡ true
  under_n k h = ap (λ (z : ℕ). stands z k) (sym r.over.where_below) ∙ h

  covered : stands (where_of f d key) key ≡ true
  covered = where_covers f d key key r.over.form_some r.over.form_low r.over.depth_low ∙ eq-eqb (prefix_of key d) (prefix_of key d) refl

  neither : (k f' x' g' y' : ℕ) → (goes_on f' x' k ≡ false) × (pair_value f' x' k ≡ None) → (goes_on g' y' k ≡ false) × (pair_value g' y' k ≡ None) → SameAt k f' x' g' y'
  neither k f' x' g' y' p q = record {
    goes = q.0 ∙ sym p.0;
    node = λ on. absurd (clash (goes_on f' x' k) on p.0);
    value = q.1 ∙ sym p.1;
  }

  after : (k : ℕ) → byte_at k (depth (where_at B a)) ≡ byte_at key (depth (where_at B a)) → (first_at C a k ≡ c) × (second_at C a k ≡ x)
  after k e = after_side B C a n key f d log t r.over c x r.linked k e

  off_side : (k : ℕ) → stands (where_at B a) k ≡ true → byte_at k (depth (where_at B a)) ≡ byte_at key (depth (where_at B a)) → (stands (where_of f d key) k ≡ true → byte_at k d ≢ byte)
      → (goes_on (first_at C a k) (second_at C a k) k ≡ false) × (pair_value (first_at C a k) (second_at C a k) k ≡ None)
  off_side k h e away = let w = after k e in let b = r.beyond k h e away in ((λ i. goes_on (w.0 i) (w.1 i) k) ∙ b.0, (λ i. pair_value (w.0 i) (w.1 i) k) ∙ b.1)

  is_lifted : IsLifted (where_at B) (where_at C) (first_at B) (second_at B) (first_at C) (second_at C) a n key None
  is_lifted = record {
    gone = λ k. none_stands (where_at C n) k r.gone;
    others = λ p pn. elim (cases_eq p a) [
      | inl e ↦ ap (where_at C) e ∙ (r.linked.where_stays ∙ ap (where_at B) (sym e))
      | inr pa ↦ r.others p pa pn 1
    ];
    an = r.over.apart;
    elsewhere = λ p k pa pn. let w = like B C p (r.others p pa pn) in (ap (λ (z : ℕ → ℕ). first_in z k) w, ap (λ (z : ℕ → ℕ). second_in z k) w);
    above = λ k h. passes B C a n key f d log t r.over k (under_n k h);
    beside = λ k h no_n.
        let out : stands (where_of f d key) k ≡ false = ap (λ (z : ℕ). stands z k) (sym r.over.where_below) ∙ no_n in
        elim (cases_eq (byte_at k (depth (where_at B a))) (byte_at key (depth (where_at B a)))) [
          | inl e ↦ neither k (first_at B a k) (second_at B a k) (first_at C a k) (second_at C a k) (stops B C a n key f d log t r.over k e out) (off_side k h e (λ on. absurd (clash (stands (where_of f d key) k) on out)))
          | inr ne ↦ let w = beside_side B C a n key f d log t r.over c x r.linked k ne in same_refl k (first_at B a k) (second_at B a k) (first_at C a k) (second_at C a k) w.0 w.1
        ];
    below = λ k h ne.
        let s = under_n k h in
        let side = same_side B C a n key f d log t r.over k s in
        let w = after k side.1 in
        elim (cases_eq (byte_at k d) byte) [
          | inl e ↦ let o = r.child k s e in same_refl k (first_at B n k) (second_at B n k) (first_at C a k) (second_at C a k) (w.0 ∙ sym o.0) (w.1 ∙ sym o.1)
          | inr away ↦ neither k (first_at B n k) (second_at B n k) (first_at C a k) (second_at C a k) (r.only k s ne away) (off_side k side.0 side.1 (λ _. away))
        ];
    here = (ap (λ (z : ℕ). stands z key) r.over.where_below ∙ covered, r.off);
    ended = (off_side key r.over.covers refl (λ _. r.other_byte)).0;
    says = (off_side key r.over.covers refl (λ _. r.other_byte)).1;
  }

  pub lifted : (log' : List Entry) (e : Entry) → e.key ≡ key → e.value ≡ None → log' ≡ log ++ e ∷ [] → IsTree C log'
  lifted log' e is_key is_value longer = record {
    nodes = lift (where_at B) (where_at C) (first_at B) (second_at B) (first_at C) (second_at C) a n key None is_lifted log log' e is_key is_value longer t.nodes;
    forms = λ p some. elim (cases_eq p n) [
      | inl q ↦ absurd (some (ap (where_at C) q ∙ r.gone))
      | inr pn ↦ elim (cases_eq p a) [
        | inl q ↦ subst (λ (z : ℕ). IsForm (form_of (where_at C z)) (calm_at C z)) (sym q) (subst (λ (z : ℕ). IsForm (form_of z) (calm_at C a)) (sym r.linked.where_stays) r.linked.becomes.form_stays)
        | inr pa ↦ let w = like B C p (r.others p pa pn) in subst (λ (z : ℕ → ℕ). IsForm (form_of (z 1)) z) (sym w) (t.forms p (λ z. some (r.others p pa pn 1 ∙ z)))
      ]
    ];
    top = is_lifted.others 16 (not_top B a n key f d log t r.over) ∙ t.top;
  }
