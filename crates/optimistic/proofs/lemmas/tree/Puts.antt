-- A key's leaf is written at its last node, or taken away there.
use Rattle.std.proofs.Common.{◌≡◌, ◌≢◌, ℕ, ◌+◌, ◌-◌, ◌*◌, ◌/◌, ◌^◌, ◌<◌, ◌≤◌, ◌⊎◌, eqb, ltb, ◌&&◌, Bool, true, false, List, [], ◌∷◌, ◌++◌, if◌then◌else◌, sym, refl, ap, ◌∙◌, subst, ⊎_elim, arith, eq-eqb, ne_eqb, shr-shr, Option, None, Some}
use Rattle.std.proofs.lemmas.Bool.{eqb-true}
use mathlib.Core.Logic.{dite}
use native.Mathlib.Decide.{ℕ_discrete}
use Rattle.optimistic.specs.Layout.{room, tag_of, leaf_of, byte_at, where_of, prefix_of}
use Rattle.optimistic.specs.declared.words.rule.Block.{Block}
use Rattle.optimistic.specs.declared.words.rule.Entry.{Entry}
use Rattle.optimistic.specs.words.Kept.{word_at, calm_at, block}
use Rattle.optimistic.specs.forms.Children.{is_inner, first_of, second_of, IsForm, Same, Becomes}
use Rattle.optimistic.specs.tree.Levels.{form_of, depth, stands, goes_on, pair_value, Ends, SameAt}
use Rattle.optimistic.specs.tree.Trees.{IsTree, where_at, first_in, second_in, first_at, second_at}
use Rattle.optimistic.proofs.lemmas.words.Moments.{calm_here, calm_else}
use Rattle.optimistic.proofs.lemmas.forms.FormLemmas.{first_like, second_like, form_like}
use Rattle.optimistic.proofs.lemmas.forms.Levels.{where_level, where_form, where_same, key_step, leaf_whole}
use Rattle.optimistic.proofs.lemmas.tree.Nodes.{clash, same_refl, put}
use Rattle.optimistic.proofs.lemmas.tree.Reading.{where_stands, none_ends, none_value, tag_ends}

-- a lone leaf goes on to no key, and is of its own
pub leaf_ends : (x key k : ℕ) → goes_on (leaf_of key) x k ≡ false
leaf_ends x key k = tag_ends (leaf_of key) x k (λ some low. let t : tag_of (leaf_of key) ≡ 9 = omega arith in omega arith)

pub leaf_value : (x key : ℕ) → pair_value (leaf_of key) x key ≡ Some x
unfolding pair_value
leaf_value x key = ap (λ (b : Bool). if b then Some x else None) (eq-eqb (leaf_of key) (leaf_of key) refl)

pub leaf_none : (x key k : ℕ) → leaf_of key ≢ leaf_of k → pair_value (leaf_of key) x k ≡ None
unfolding pair_value
leaf_none x key k ne = ap (λ (b : Bool). if b then Some x else None) (ne_eqb (leaf_of key) (leaf_of k) ne)

-- a where covers the keys that it is of, and no others
pub stands_where : (w k : ℕ) → stands w k ≡ true → w ≡ where_of (form_of w) (depth w) k
unfolding stands
stands_where w k h = last (ltb 0 (form_of w)) h
  where
    last : (a : Bool) → (a && eqb w (where_of (form_of w) (depth w) k)) ≡ true → w ≡ where_of (form_of w) (depth w) k
    last true e = eqb-true w (where_of (form_of w) (depth w) k) e
    last false e = absurd (clash false e refl)

-- keys with the same first bytes have the same fewer first bytes
pub prefix_up : (a b key k : ℕ) → a ≤ b → b ≤ 8 → prefix_of key b ≡ prefix_of k b → prefix_of key a ≡ prefix_of k a
prefix_up a b key k l m e = let d : 64 - 8 * b + (8 * b - 8 * a) ≡ 64 - 8 * a = omega arith in
    sym (step key d) ∙ (ap (λ (z : ℕ). z / 2 ^ (8 * b - 8 * a)) e ∙ step k d)
  where
    step : (i : ℕ) → 64 - 8 * b + (8 * b - 8 * a) ≡ 64 - 8 * a → prefix_of i b / 2 ^ (8 * b - 8 * a) ≡ prefix_of i a
    step i d = shr-shr i (64 - 8 * b) (8 * b - 8 * a) ∙ ap (λ (z : ℕ). i / 2 ^ z) d

-- keys that a node covers at one byte have the same bytes up to there
pub same_prefix : (form level key k : ℕ) → form < 9 → level < 8 → where_of form level key ≡ where_of form level k → byte_at key level ≡ byte_at k level → prefix_of key (level + 1) ≡ prefix_of k (level + 1)
same_prefix form level key k low deep w b = key_step key level deep ∙ ((λ i. where_same form form level key k deep (omega arith) (omega arith) w i * 256 + b i) ∙ sym (key_step k level deep))

pub same_top : (form level key k : ℕ) → form < 9 → level < 8 → where_of form level key ≡ where_of form level k → byte_at key level ≡ byte_at k level → key / 72057594037927936 ≡ k / 72057594037927936
same_top form level key k low deep w b = prefix_up 1 (level + 1) key k (omega arith) (omega arith) (same_prefix form level key k low deep w b)

pub same_key : (form key k : ℕ) → form < 9 → where_of form 7 key ≡ where_of form 7 k → byte_at key 7 ≡ byte_at k 7 → key ≡ k
same_key form key k low w b = let e : prefix_of key 8 ≡ prefix_of k 8 = same_prefix form 7 key k low (omega arith) w b in let a : prefix_of key 8 ≡ key = omega arith in let c : prefix_of k 8 ≡ k = omega arith in sym a ∙ (e ∙ c)

-- of a form with children the child word doesn't depend on the key but by its byte
pub first_inner : (form : ℕ) (w : ℕ → ℕ) (key k b : ℕ) → is_inner form ≡ true → first_of form w key b ≡ first_of form w k b
unfolding first_of
first_inner form w key k b e = pick (is_inner form) _ _ _ e
  where
    pick : (t : Bool) (x y z : ℕ) → t ≡ true → (if t then x else y) ≡ (if t then x else z)
    pick true x y z q = refl
    pick false x y z q = absurd (clash false q refl)

-- a node's child at a key, where its where is known and its words are those of f
module _ (form level key : ℕ) (some : 0 < form) (low : form < 9) (deep : level < 8) (g f : ℕ → ℕ) (is : g 1 ≡ where_of form level key) (same : Same form g f) where
  form_is : form_of (g 1) ≡ form
  form_is = ap form_of is ∙ where_form form level key deep (omega arith)

  level_is : depth (g 1) ≡ level
  level_is = ap depth is ∙ where_level form level key deep (omega arith)

  pub first_is : (k : ℕ) → first_in g k ≡ first_of form f k (byte_at k level)
  first_is k = (λ i. first_of (form_is i) g k (byte_at k (level_is i))) ∙ first_like form f g same k (byte_at k level)

  pub second_is : (k : ℕ) → second_in g k ≡ second_of form f k (byte_at k level)
  second_is k = (λ i. second_of (form_is i) g k (byte_at k (level_is i))) ∙ second_like form f g same k (byte_at k level)

  pub covers_where : (k : ℕ) → stands (g 1) k ≡ true → where_of form level key ≡ where_of form level k
  covers_where k h = sym is ∙ (stands_where (g 1) k h ∙ (λ i. where_of (form_is i) (level_is i) k))

  pub shape_is : 0 < room form → IsForm form f → IsForm (form_of (g 1)) g
  shape_is r s = subst (λ (z : ℕ). IsForm z g) (sym form_is) (form_like form f g same r s)

-- no child, or a key's leaf, goes on to no key, and is of no other
open_off : (key u z k : ℕ) → (u ≡ 0) ⊎ (u ≡ leaf_of key) → goes_on u z k ≡ false
open_off key u z k = ⊎_elim (λ (q : u ≡ 0). ap (λ (w : ℕ). goes_on w z k) q ∙ none_ends z k) (λ (q : u ≡ leaf_of key). ap (λ (w : ℕ). goes_on w z k) q ∙ leaf_ends z key k)

open_none : (key u z k : ℕ) → leaf_of key ≢ leaf_of k → (u ≡ 0) ⊎ (u ≡ leaf_of key) → pair_value u z k ≡ None
open_none key u z k apart = ⊎_elim (λ (q : u ≡ 0). ap (λ (w : ℕ). pair_value w z k) q ∙ none_value z k) (λ (q : u ≡ leaf_of key). ap (λ (w : ℕ). pair_value w z k) q ∙ leaf_none z key k apart)

-- the block of node n comes before those of B, and its words are those of f', where before they were those of f
module _ (B : List Block) (words : List ℕ) (log log' : List Entry) (n form level key : ℕ) (X : ℕ → ℕ) (y : ℕ) (value : Option ℕ) (e : Entry) (f f' : ℕ → ℕ) where
  abbrev C : List Block
  C = block n words ∷ B

  else_path : (m : ℕ) → m ≢ n → calm_at C m ≡ calm_at B m
  else_path m ne i j = calm_else n m words B j (λ q. ne (sym q)) i

  here_path : calm_at C n ≡ word_at words n
  here_path i j = calm_here n words B j i

  pub put_tree : 0 < form → form < 9 → level < 8 → 0 < room form → e.key ≡ key → e.value ≡ value → log' ≡ log ++ e ∷ [] → Same form (calm_at B n) f → Same form (word_at words n) f' → calm_at B n 1 ≡ where_of form level key → word_at words n 1 ≡ where_of form level key
      → Becomes form f f' (byte_at key level) X y → (first_of form f key (byte_at key level) ≡ 0) ⊎ (first_of form f key (byte_at key level) ≡ leaf_of key) → (X key ≡ 0) ⊎ (X key ≡ leaf_of key) → pair_value (X key) y key ≡ value
      → (is_inner form ≡ true) ⊎ (level ≡ 7) → IsTree B log → IsTree C log'
  put_tree some low deep roomy is_key is_value longer same same' is is' became place after says inner t =
      let W : ℕ → ℕ = where_at B in let W' : ℕ → ℕ = where_at C in
      let b : ℕ = byte_at key level in
      let at_n : W n ≡ where_of form level key = is in
      let at_n' : W' n ≡ where_of form level key = calm_here n words B 1 ∙ is' in
      let wheres : (p : ℕ) → W' p ≡ W p = λ p. dite (ℕ_discrete p n) (λ (q : p ≡ n). ap W' q ∙ (at_n' ∙ (sym at_n ∙ ap W (sym q)))) (λ ne. calm_else n p words B 1 (λ q. ne (sym q))) in
      let F : (k : ℕ) → first_at B n k ≡ first_of form f k (byte_at k level) = first_is form level key some low deep (calm_at B n) f is same in
      let S : (k : ℕ) → second_at B n k ≡ second_of form f k (byte_at k level) = second_is form level key some low deep (calm_at B n) f is same in
      let F' : (k : ℕ) → first_at C n k ≡ first_of form f' k (byte_at k level) = λ k. ap (λ (g : ℕ → ℕ). first_in g k) here_path ∙ first_is form level key some low deep (word_at words n) f' is' same' k in
      let S' : (k : ℕ) → second_at C n k ≡ second_of form f' k (byte_at k level) = λ k. ap (λ (g : ℕ → ℕ). second_in g k) here_path ∙ second_is form level key some low deep (word_at words n) f' is' same' k in
      let old_ends : (k z : ℕ) → (first_of form f key b ≡ 0) ⊎ (first_of form f key b ≡ leaf_of key) → goes_on (first_of form f key b) z k ≡ false = λ k z p. open_off key (first_of form f key b) z k p in
      let mine : Ends W (first_at B) (second_at B) n key = (ap (λ (z : ℕ). stands z key) at_n ∙ where_stands form level key some low deep, ap (λ (z : ℕ). goes_on z (second_at B n key) key) (F key) ∙ old_ends key (second_at B n key) place) in
      let first_now : first_at C n key ≡ X key = F' key ∙ became.first key in
      let second_now : second_at C n key ≡ y = S' key ∙ became.second key in
      let beside : (k : ℕ) → stands (W n) k ≡ true → k ≢ key → SameAt k (first_at B n k) (second_at B n k) (first_at C n k) (second_at C n k) = λ k h ne. dite (ℕ_discrete (byte_at k level) b)
      (λ (q : byte_at k level ≡ b).
      let w : where_of form level key ≡ where_of form level k = covers_where form level key some low deep (calm_at B n) f is same k h in
      ⊎_elim
      (λ (inn : is_inner form ≡ true).
      let apart : leaf_of key ≢ leaf_of k = λ l. ne (sym (leaf_whole key k (same_top form level key k low deep w (sym q)) l)) in
      let was : first_at B n k ≡ first_of form f key b = F k ∙ (ap (λ (z : ℕ). first_of form f k z) q ∙ first_inner form f k key b inn) in
      let now : first_at C n k ≡ X key = F' k ∙ (ap (λ (z : ℕ). first_of form f' k z) q ∙ (first_inner form f' k key b inn ∙ became.first key)) in
      let x1 : ℕ = second_at B n k in let x2 : ℕ = second_at C n k in
      let off : goes_on (first_at B n k) x1 k ≡ false = ap (λ (z : ℕ). goes_on z x1 k) was ∙ old_ends k x1 place in
      let no_value : pair_value (first_at B n k) x1 k ≡ None = ap (λ (z : ℕ). pair_value z x1 k) was ∙ open_none key (first_of form f key b) x1 k apart place in
      record {
        goes = ap (λ (z : ℕ). goes_on z x2 k) now ∙ (open_off key (X key) x2 k after ∙ sym off);
        node = λ on. absurd (clash (goes_on (first_at B n k) x1 k) on off);
        value = ap (λ (z : ℕ). pair_value z x2 k) now ∙ (open_none key (X key) x2 k apart after ∙ sym no_value);
      })
      (λ (seven : level ≡ 7). absurd (ne (sym (same_key form key k low (subst (λ (z : ℕ). where_of form z key ≡ where_of form z k) seven w) (subst (λ (z : ℕ). byte_at key z ≡ byte_at k z) seven (sym q)))))) inner)
      (λ nb. same_refl k (first_at B n k) (second_at B n k) (first_at C n k) (second_at C n k) (F' k ∙ (became.other_firsts k (byte_at k level) nb ∙ sym (F k))) (S' k ∙ (became.other_seconds k (byte_at k level) nb ∙ sym (S k)))) in
      record {
        nodes = put W W' (first_at B) (second_at B) (first_at C) (second_at C) log log' n key value e is_key is_value longer wheres
            (λ p k h other. dite (ℕ_discrete p n)
            (λ (q : p ≡ n). subst (λ (z : ℕ). stands (W z) k ≡ true → SameAt k (first_at B z k) (second_at B z k) (first_at C z k) (second_at C z k)) (sym q) (λ h'. beside k h' (other q)) h)
            (λ ne. same_refl k (first_at B p k) (second_at B p k) (first_at C p k) (second_at C p k) (ap (λ (g : ℕ → ℕ). first_in g k) (else_path p ne)) (ap (λ (g : ℕ → ℕ). second_in g k) (else_path p ne))))
            mine (ap (λ (z : ℕ). goes_on z (second_at C n key) key) first_now ∙ open_off key (X key) (second_at C n key) key after)
            ((λ i. pair_value (first_now i) (second_now i) key) ∙ says) t.nodes;
        forms = λ p nz. dite (ℕ_discrete p n)
            (λ (q : p ≡ n). subst (λ (z : ℕ). IsForm (form_of (where_at C z)) (calm_at C z)) (sym q)
            (subst (λ (g : ℕ → ℕ). IsForm (form_of (g 1)) g) (sym here_path) (shape_is form level key some low deep (word_at words n) f' is' same' roomy became.form_stays)))
            (λ ne. subst (λ (g : ℕ → ℕ). IsForm (form_of (g 1)) g) (sym (else_path p ne)) (t.forms p (λ z. nz (calm_else n p words B 1 (λ q. ne (sym q)) ∙ z))));
        top = wheres 16 ∙ t.top;
      }
