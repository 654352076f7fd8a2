-- Statistics that are counted node by node.
use Rattle.std.proofs.Common.{◌≡◌, ◌≢◌, ℕ, ◌+◌, Bool, true, false, cond, nat_eq, ◌&&◌, List, [], ◌∷◌, ◌++◌, max, refl, sym, ap, subst, ◌∙◌, arith}
use Rattle.std.proofs.lemmas.Bool.Decides.{nat_tests}
use Rattle.congee.specs.declared.forms.base_node.NodeType.{NodeType}
use Rattle.congee.specs.declared.forms.base_node.NodeType.TheVariants.{N4, N16, N48, N256}
use Rattle.congee.specs.declared.owned.stats.NodeInfo.{NodeInfo}
use Rattle.congee.specs.declared.owned.stats.NodeStats.{NodeStats}
use Rattle.congee.specs.owned.Stats.{capped, capped_info, one_more, info_at, Counts, Shape, is_form, is_at, tally, height, IsTally}

same_form : (a b : NodeType) → is_form a b ≡ true → a ≡ b
same_form N4 N4 e = refl
same_form N4 N16 e = absurd (cc)
same_form N4 N48 e = absurd (cc)
same_form N4 N256 e = absurd (cc)
same_form N16 N4 e = absurd (cc)
same_form N16 N16 e = refl
same_form N16 N48 e = absurd (cc)
same_form N16 N256 e = absurd (cc)
same_form N48 N4 e = absurd (cc)
same_form N48 N16 e = absurd (cc)
same_form N48 N48 e = refl
same_form N48 N256 e = absurd (cc)
same_form N256 N4 e = absurd (cc)
same_form N256 N16 e = absurd (cc)
same_form N256 N48 e = absurd (cc)
same_form N256 N256 e = refl

form_itself : (a : NodeType) → is_form a a ≡ true
form_itself N4 = refl
form_itself N16 = refl
form_itself N48 = refl
form_itself N256 = refl

other_form : (a b : NodeType) → is_form a b ≡ false → b ≡ a → ⊥
other_form a b e is = let yes : is_form a b ≡ true = subst (λ x. is_form a x ≡ true) (sym is) (form_itself a) in absurd (cc)

abbrev info : ℕ → ℕ → NodeInfo
info nodes children = record { node_count = nodes; value_count = children }

same_info : (n m c d : ℕ) → n ≡ m → c ≡ d → info n c ≡ info m d
same_info n m c d p q = λ i. info (p i) (q i)

-- in which order two nodes are counted
order : (b d : Bool) (x y : ℕ) (i : NodeInfo) → cond b (one_more x (cond d (one_more y i) i)) (cond d (one_more y i) i) ≡ cond d (one_more y (cond b (one_more x i) i)) (cond b (one_more x i) i)
order true true x y i = same_info _ _ _ _ refl (let e : i.value_count + y + x ≡ i.value_count + x + y = omega arith in e)
order true false x y i = refl
order false true x y i = refl
order false false x y i = refl

tally_last : (nodes : List Shape) (node : Shape) (level : ℕ) (form : NodeType)
    → tally (nodes ++ node ∷ []) level form ≡ cond (is_at node level form) (one_more node.children (tally nodes level form)) (tally nodes level form)
tally_last [] node level form = refl
tally_last (x ∷ nodes) node level form =
    ap (λ i. cond (is_at x level form) (one_more x.children i) i) (tally_last nodes node level form)
    ∙ order (is_at x level form) (is_at node level form) x.children node.children (tally nodes level form)

height_last : (nodes : List Shape) (node : Shape) → height (nodes ++ node ∷ []) ≡ max (height nodes) (node.level + 1)
height_last [] node = omega arith
height_last (x ∷ nodes) node = let e = height_last nodes node in omega (arith, e)

capped_more : (b : Bool) (c : ℕ) (i : NodeInfo) → cond b (capped_info (one_more c (capped_info i))) (capped_info i) ≡ capped_info (cond b (one_more c i) i)
capped_more true c i = same_info _ _ _ _
    (let n : capped (capped i.node_count + 1) ≡ capped (i.node_count + 1) = omega arith in n)
    (let n : capped (capped i.value_count + c) ≡ capped (i.value_count + c) = omega arith in n)
capped_more false c i = refl

module _ (old new : NodeStats) (node : Shape) (counts : Counts old new node.level node.form node.children) where
  -- by whether the level and the form are the node's
  by_form : (b : Bool) (form : NodeType) → is_form node.form form ≡ b → info_at new node.level form ≡ cond b (capped_info (one_more node.children (info_at old node.level form))) (info_at old node.level form)
  by_form true form e = let is : node.form ≡ form = same_form node.form form e in subst (λ f. info_at new node.level f ≡ capped_info (one_more node.children (info_at old node.level f))) is counts.here
  by_form false form e = counts.other_forms form (other_form node.form form e)

  by_level : (b : Bool) (level : ℕ) (form : NodeType) → nat_eq node.level level ≡ b → info_at new level form ≡ cond (b && is_form node.form form) (capped_info (one_more node.children (info_at old level form))) (info_at old level form)
  by_level true level form e =
      let is : node.level ≡ level = grind (arith, nat_tests) in
      subst (λ l. info_at new l form ≡ cond (is_form node.form form) (capped_info (one_more node.children (info_at old l form))) (info_at old l form)) is (by_form (is_form node.form form) form refl)
  by_level false level form e = counts.other_levels level form (let ne : level ≢ node.level = grind (arith, nat_tests) in ne)

  -- one more node that is counted
  pub IsTally-counted : (nodes : List Shape) (pairs : ℕ) → IsTally old nodes pairs → IsTally new (nodes ++ node ∷ []) pairs
  IsTally-counted nodes pairs is = record {
    infos = λ level form. by_level (nat_eq node.level level) level form refl
        ∙ ap (λ info. cond (is_at node level form) (capped_info (one_more node.children info)) info) (is.infos level form)
        ∙ capped_more (is_at node level form) node.children (tally nodes level form)
        ∙ sym (ap capped_info (tally_last nodes node level form));
    levels = counts.levels ∙ ap (λ h. max h (node.level + 1)) is.levels ∙ sym (height_last nodes node);
    kv_pairs = counts.pairs ∙ is.kv_pairs;
  }
