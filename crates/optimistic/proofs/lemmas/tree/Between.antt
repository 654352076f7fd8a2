-- A new node between a node and its child.
use Rattle.std.proofs.Common.{◌≡◌, ◌≢◌, ℕ, ◌/◌, ◌<◌, ◌⊎◌, true, false, List, [], ◌∷◌, ◌++◌, sym, ap, ◌∙◌, subst, inl, inr, ⊎_elim, Option}
use mathlib.Core.Logic.{dite}
use native.Mathlib.Decide.{ℕ_discrete}
use Rattle.optimistic.specs.Layout.{node_of}
use Rattle.optimistic.specs.declared.words.rule.Entry.{Entry}
use Rattle.optimistic.specs.words.Kept.{value_of}
use Rattle.optimistic.specs.tree.Levels.{depth, stands, goes_on, pair_value, Ends, Passes, Means, IsSplit}
use Rattle.optimistic.proofs.lemmas.tree.Nodes.{clash, decide, not_true, goes_stands, value_now, value_other}

module _ (W W' : ℕ → ℕ) (F S F' S' : ℕ → ℕ → ℕ) (n m u c f x key : ℕ) (value : Option ℕ) (s : IsSplit W W' F S F' S' n m u c f x key value) where
  -- no child named the new node
  unnamed : (log : List Entry) → Means W F S log → (p k : ℕ) → Passes W F S p k → node_of (F p k) ≢ m
  unnamed log t p k a e = let l = t.linked p k a in
      clash (stands (W m) k) (ap (λ (z : ℕ). stands z k) (ap W (sym e) ∙ l.0) ∙ goes_stands (F p k) (S p k) k a.1) (s.blank k)

  -- at the child that the new node has come above
  over : (k : ℕ) → stands u k ≡ true → goes_on (F n k) (S n k) k ≡ goes_on f x k
  over k h = let a = s.above k h in λ i. goes_on (a.1 i) (a.2 i) k

  over_value : (k : ℕ) → stands u k ≡ true → pair_value (F n k) (S n k) k ≡ pair_value f x k
  over_value k h = let a = s.above k h in λ i. pair_value (a.1 i) (a.2 i) k

  -- what a key's last node was
  abbrev Was : ℕ → ℕ → Type 0
  Was p k = ((p ≡ m) × Ends W F S n k × (stands u k ≡ true)) ⊎ ((p ≢ m) × Ends W F S p k × (p ≡ n → stands u k ≡ false))

  was : (p k : ℕ) → Ends W' F' S' p k → Was p k
  was p k t = dite (ℕ_discrete p m)
      (λ (q : p ≡ m). let t' : Ends W' F' S' m k = subst (λ (z : ℕ). Ends W' F' S' z k) q t in let h : stands u k ≡ true = ap (λ (z : ℕ). stands z k) (sym s.new) ∙ t'.0 in
      inl (q, ((s.above k h).0, over k h ∙ dite (ℕ_discrete k key) (λ (e : k ≡ key). ap (λ (z : ℕ). goes_on f x z) e ∙ s.off) (λ ne. sym (s.below k h ne).goes ∙ t'.1)), h))
      (λ pm. dite (ℕ_discrete p n)
      (λ (q : p ≡ n). let t' : Ends W' F' S' n k = subst (λ (z : ℕ). Ends W' F' S' z k) q t in let w : stands (W n) k ≡ true = ap (λ (z : ℕ). stands z k) (sym (s.others n s.apart)) ∙ t'.0 in
      let no_u : stands u k ≡ false = not_true (stands u k) (λ h. let a = s.above k h in clash (goes_on (F' n k) (S' n k) k) ((λ i. goes_on (a.3 i) (a.4 i) k) ∙ s.on k h) t'.1) in
      inr (pm, subst (λ (z : ℕ). Ends W F S z k) (sym q) (w, sym (s.beside k w no_u).goes ∙ t'.1), λ _. no_u))
      (λ pn. let e = s.elsewhere p k pn pm in inr (pm, (ap (λ (z : ℕ). stands z k) (sym (s.others p pm)) ∙ t.0, (λ i. goes_on (sym e.0 i) (sym e.1 i) k) ∙ t.1), λ q. absurd (pn q))))

  -- what a node on a key's way, and not the last, was
  abbrev Went : ℕ → ℕ → Type 0
  Went p k = ((p ≡ m) × Passes W F S n k × (F' p k ≡ F n k) × (S' p k ≡ S n k) × (stands u k ≡ true))
      ⊎ (((p ≡ n) × (F' p k ≡ c) × (S' p k ≡ u) × (stands u k ≡ true)) ⊎ ((p ≢ m) × Passes W F S p k × (F' p k ≡ F p k) × (S' p k ≡ S p k) × (p ≡ n → stands u k ≡ false)))

  went : (p k : ℕ) → Passes W' F' S' p k → Went p k
  went p k t = dite (ℕ_discrete p m)
      (λ (q : p ≡ m). let t' : Passes W' F' S' m k = subst (λ (z : ℕ). Passes W' F' S' z k) q t in let h : stands u k ≡ true = ap (λ (z : ℕ). stands z k) (sym s.new) ∙ t'.0 in let a = s.above k h in
      let ne : k ≢ key = λ (e : k ≡ key). clash (goes_on (F' m k) (S' m k) k) t'.1 (ap (λ (z : ℕ). goes_on (F' m z) (S' m z) z) e ∙ s.ended) in
      let b = s.below k h ne in let on : goes_on f x k ≡ true = sym b.goes ∙ t'.1 in let same = b.node on in
      inl (q, (a.0, over k h ∙ on), ap (λ (z : ℕ). F' z k) q ∙ (same.0 ∙ sym a.1), ap (λ (z : ℕ). S' z k) q ∙ (same.1 ∙ sym a.2), h))
      (λ pm. dite (ℕ_discrete p n)
      (λ (q : p ≡ n). let t' : Passes W' F' S' n k = subst (λ (z : ℕ). Passes W' F' S' z k) q t in let w : stands (W n) k ≡ true = ap (λ (z : ℕ). stands z k) (sym (s.others n s.apart)) ∙ t'.0 in
      ⊎_elim (λ (h : stands u k ≡ true). let a = s.above k h in inr (inl (q, ap (λ (z : ℕ). F' z k) q ∙ a.3, ap (λ (z : ℕ). S' z k) q ∙ a.4, h)))
      (λ (no_u : stands u k ≡ false). let b = s.beside k w no_u in let on : goes_on (F n k) (S n k) k ≡ true = sym b.goes ∙ t'.1 in let same = b.node on in
      inr (inr (pm, subst (λ (z : ℕ). Passes W F S z k) (sym q) (w, on), subst (λ (z : ℕ). F' z k ≡ F z k) (sym q) same.0, subst (λ (z : ℕ). S' z k ≡ S z k) (sym q) same.1, λ _. no_u)))
      (decide (stands u k)))
      (λ pn. let e = s.elsewhere p k pn pm in inr (inr (pm, (ap (λ (z : ℕ). stands z k) (sym (s.others p pm)) ∙ t.0, (λ i. goes_on (sym e.0 i) (sym e.1 i) k) ∙ t.1), e.0, e.1, λ q. absurd (pn q)))))

  node_path : (a b : ℕ) → a ≡ b → node_of a ≡ node_of b
  node_path a b e = ap (λ (z : ℕ). z / 256) e

  pub split : (log log' : List Entry) (e : Entry) → e.key ≡ key → e.value ≡ value → log' ≡ log ++ e ∷ [] → Means W F S log → Means W' F' S' log'
  split log log' e is_key is_value longer t =
      let mine : Ends W F S n key = ((s.above key s.here).0, over key s.here ∙ s.off) in
      let un = unnamed log t in
      record {
        one = λ p q k a b. ⊎_elim
            (λ (l : (p ≡ m) × Ends W F S n k × (stands u k ≡ true)). ⊎_elim (λ (r : (q ≡ m) × Ends W F S n k × (stands u k ≡ true)). l.0 ∙ sym r.0)
            (λ (r : (q ≢ m) × Ends W F S q k × (q ≡ n → stands u k ≡ false)). absurd (clash (stands u k) l.2 (r.2 (t.one q n k r.1 l.1)))) (was q k b))
            (λ (l : (p ≢ m) × Ends W F S p k × (p ≡ n → stands u k ≡ false)). ⊎_elim (λ (r : (q ≡ m) × Ends W F S n k × (stands u k ≡ true)). absurd (clash (stands u k) r.2 (l.2 (t.one p n k l.1 r.1))))
            (λ (r : (q ≢ m) × Ends W F S q k × (q ≡ n → stands u k ≡ false)). t.one p q k l.1 r.1) (was q k b)) (was p k a);
        means = λ p k a. ⊎_elim
            (λ (l : (p ≡ m) × Ends W F S n k × (stands u k ≡ true)). subst (λ (z : ℕ). pair_value (F' z k) (S' z k) k ≡ value_of k log') (sym l.0)
            (dite (ℕ_discrete k key)
            (λ (q : k ≡ key). subst (λ (z : ℕ). pair_value (F' m z) (S' m z) z ≡ value_of z log') (sym q) (s.says ∙ sym (value_now log log' e key value is_key is_value longer)))
            (λ ne. (s.below k l.2 ne).value ∙ (sym (over_value k l.2) ∙ (t.means n k l.1 ∙ sym (value_other log log' e key k is_key longer ne))))))
            (λ (r : (p ≢ m) × Ends W F S p k × (p ≡ n → stands u k ≡ false)).
            let ne : k ≢ key = λ (q : k ≡ key). let same : p ≡ n = t.one p n k r.1 (subst (λ (z : ℕ). Ends W F S n z) (sym q) mine) in
            clash (stands u k) (ap (λ (z : ℕ). stands u z) q ∙ s.here) (r.2 same) in
            dite (ℕ_discrete p n)
            (λ (q : p ≡ n). let w : stands (W n) k ≡ true = ap (λ (z : ℕ). stands (W z) k) (sym q) ∙ r.1.0 in let b = s.beside k w (r.2 q) in
            subst (λ (z : ℕ). pair_value (F' z k) (S' z k) k ≡ value_of k log') (sym q) (b.value ∙ (t.means n k (subst (λ (z : ℕ). Ends W F S z k) q r.1) ∙ sym (value_other log log' e key k is_key longer ne))))
            (λ pn. let el = s.elsewhere p k pn r.0 in (λ i. pair_value (el.0 i) (el.1 i) k) ∙ (t.means p k r.1 ∙ sym (value_other log log' e key k is_key longer ne)))) (was p k a);
        alone = λ p q k a b same. ⊎_elim
            (λ (l : (p ≡ m) × Passes W F S n k × (F' p k ≡ F n k) × (S' p k ≡ S n k) × (stands u k ≡ true)). ⊎_elim
            (λ (r : (q ≡ m) × Passes W F S n k × (F' q k ≡ F n k) × (S' q k ≡ S n k) × (stands u k ≡ true)). l.0 ∙ sym r.0)
            (λ r'. ⊎_elim
            (λ (r : (q ≡ n) × (F' q k ≡ c) × (S' q k ≡ u) × (stands u k ≡ true)). absurd (un n k l.1 (node_path (F n k) (F' p k) (sym l.2) ∙ (same ∙ (node_path (F' q k) c r.1 ∙ s.names)))))
            (λ (r : (q ≢ m) × Passes W F S q k × (F' q k ≡ F q k) × (S' q k ≡ S q k) × (q ≡ n → stands u k ≡ false)). absurd (clash (stands u k) l.4 (r.4
            (t.alone q n k r.1 l.1 (node_path (F q k) (F' q k) (sym r.2) ∙ (sym same ∙ node_path (F' p k) (F n k) l.2)))))) r')
            (went q k b))
            (λ l'. ⊎_elim
            (λ (l : (p ≡ n) × (F' p k ≡ c) × (S' p k ≡ u) × (stands u k ≡ true)). ⊎_elim
            (λ (r : (q ≡ m) × Passes W F S n k × (F' q k ≡ F n k) × (S' q k ≡ S n k) × (stands u k ≡ true)). absurd (un n k r.1 (node_path (F n k) (F' q k) (sym r.2) ∙ (sym same ∙ (node_path (F' p k) c l.1 ∙ s.names)))))
            (λ r'. ⊎_elim
            (λ (r : (q ≡ n) × (F' q k ≡ c) × (S' q k ≡ u) × (stands u k ≡ true)). l.0 ∙ sym r.0)
            (λ (r : (q ≢ m) × Passes W F S q k × (F' q k ≡ F q k) × (S' q k ≡ S q k) × (q ≡ n → stands u k ≡ false)). absurd (un q k r.1 (node_path (F q k) (F' q k) (sym r.2) ∙ (sym same ∙ (node_path (F' p k) c l.1 ∙ s.names))))) r')
            (went q k b))
            (λ (l : (p ≢ m) × Passes W F S p k × (F' p k ≡ F p k) × (S' p k ≡ S p k) × (p ≡ n → stands u k ≡ false)). ⊎_elim
            (λ (r : (q ≡ m) × Passes W F S n k × (F' q k ≡ F n k) × (S' q k ≡ S n k) × (stands u k ≡ true)). absurd (clash (stands u k) r.4 (l.4
            (t.alone p n k l.1 r.1 (node_path (F p k) (F' p k) (sym l.2) ∙ (same ∙ node_path (F' q k) (F n k) r.2))))))
            (λ r'. ⊎_elim
            (λ (r : (q ≡ n) × (F' q k ≡ c) × (S' q k ≡ u) × (stands u k ≡ true)). absurd (un p k l.1 (node_path (F p k) (F' p k) (sym l.2) ∙ (same ∙ (node_path (F' q k) c r.1 ∙ s.names)))))
            (λ (r : (q ≢ m) × Passes W F S q k × (F' q k ≡ F q k) × (S' q k ≡ S q k) × (q ≡ n → stands u k ≡ false)).
            t.alone p q k l.1 r.1 (node_path (F p k) (F' p k) (sym l.2) ∙ (same ∙ node_path (F' q k) (F q k) r.2))) r')
            (went q k b)) l')
            (went p k a);
        linked = λ p k a. ⊎_elim
            (λ (l : (p ≡ m) × Passes W F S n k × (F' p k ≡ F n k) × (S' p k ≡ S n k) × (stands u k ≡ true)).
            let on : goes_on f x k ≡ true = sym (over k l.4) ∙ l.1.1 in let x_is : S n k ≡ x = (s.above k l.4).2 in (
              ap (λ (z : ℕ). W' (z / 256)) l.2 ∙ (s.others (F n k / 256) (un n k l.1) ∙ ((t.linked n k l.1).0 ∙ sym l.3)),
              subst (λ (z : ℕ × ℕ). depth z.0 < depth z.1) (λ i. ((sym s.new ∙ ap W' (sym l.0)) i, (sym x_is ∙ sym l.3) i)) (s.deeper k on),
            ))
            (λ l'. ⊎_elim
            (λ (l : (p ≡ n) × (F' p k ≡ c) × (S' p k ≡ u) × (stands u k ≡ true)). (
              ap (λ (z : ℕ). W' (z / 256)) l.1 ∙ (ap W' s.names ∙ (s.new ∙ sym l.2)),
              subst (λ (z : ℕ × ℕ). depth z.0 < depth z.1) (λ i. ((sym (s.others n s.apart) ∙ ap W' (sym l.0)) i, sym l.2 i)) s.deep,
            ))
            (λ (l : (p ≢ m) × Passes W F S p k × (F' p k ≡ F p k) × (S' p k ≡ S p k) × (p ≡ n → stands u k ≡ false)). let old = t.linked p k l.1 in (
              ap (λ (z : ℕ). W' (z / 256)) l.2 ∙ (s.others (F p k / 256) (un p k l.1) ∙ (old.0 ∙ sym l.3)),
              subst (λ (z : ℕ × ℕ). depth z.0 < depth z.1) (λ i. (sym (s.others p l.0) i, sym l.3 i)) old.1,
            )) l')
            (went p k a);
      }
