-- A node in another's place.
use Rattle.std.proofs.Common.{◌≡◌, ◌≢◌, ℕ, ◌/◌, ◌<◌, ◌⊎◌, true, false, List, [], ◌∷◌, ◌++◌, sym, ap, ◌∙◌, subst, inl, inr, ⊎_elim, arith, Option}
use mathlib.Core.Logic.{dite}
use native.Mathlib.Decide.{ℕ_discrete}
use Rattle.optimistic.specs.Layout.{node_of}
use Rattle.optimistic.specs.declared.words.rule.Entry.{Entry}
use Rattle.optimistic.specs.words.Kept.{value_of}
use Rattle.optimistic.specs.tree.Levels.{depth, stands, goes_on, pair_value, Ends, Passes, Links, Means, IsReplaced, IsLifted}
use Rattle.optimistic.proofs.lemmas.tree.Nodes.{clash, decide, not_true, goes_stands, value_now, value_other}

node_path : (a b : ℕ) → a ≡ b → node_of a ≡ node_of b
node_path a b e = ap (λ (z : ℕ). z / 256) e

module _ (W W' : ℕ → ℕ) (F S F' S' : ℕ → ℕ → ℕ) (a n m key : ℕ) (value : Option ℕ) (s : IsReplaced W W' F S F' S' a n m key value) where
  unnamed : (log : List Entry) → Means W F S log → (p k : ℕ) → Passes W F S p k → node_of (F p k) ≢ m
  unnamed log t p k on e = let l = t.linked p k on in
      clash (stands (W m) k) (ap (λ (z : ℕ). stands z k) (ap W (sym e) ∙ l.0) ∙ goes_stands (F p k) (S p k) k on.1) (s.blank k)

  wheres : W' a ≡ W a
  wheres = s.others a s.an s.am

  covered : (p k : ℕ) → p ≡ m → stands (W' p) k ≡ true → stands (W n) k ≡ true
  covered p k q h = sym (s.cover k) ∙ (ap (λ (z : ℕ). stands (W' z) k) (sym q) ∙ h)

  never : (p k : ℕ) → stands (W' p) k ≡ true → p ≢ n
  never p k h q = clash (stands (W' n) k) (ap (λ (z : ℕ). stands (W' z) k) (sym q) ∙ h) (s.gone k)

  abbrev Was : ℕ → ℕ → Type 0
  Was p k = ((p ≡ m) × Ends W F S n k) ⊎ ((p ≢ m) × (p ≢ n) × Ends W F S p k × (p ≡ a → stands (W n) k ≡ false))

  was : (p k : ℕ) → Ends W' F' S' p k → Was p k
  was p k t = dite (ℕ_discrete p m)
      (λ (q : p ≡ m). let h = covered p k q t.0 in let t' : Ends W' F' S' m k = subst (λ (z : ℕ). Ends W' F' S' z k) q t in
      inl (q, (h, dite (ℕ_discrete k key) (λ (e : k ≡ key). ap (λ (z : ℕ). goes_on (F n z) (S n z) z) e ∙ s.here.1) (λ ne. sym (s.below k h ne).goes ∙ t'.1))))
      (λ pm. let pn = never p k t.0 in dite (ℕ_discrete p a)
      (λ (q : p ≡ a). let t' : Ends W' F' S' a k = subst (λ (z : ℕ). Ends W' F' S' z k) q t in let w : stands (W a) k ≡ true = ap (λ (z : ℕ). stands z k) (sym wheres) ∙ t'.0 in
      let no_n : stands (W n) k ≡ false = not_true (stands (W n) k) (λ h. clash (goes_on (F' a k) (S' a k) k) (s.above k h).2 t'.1) in
      inr (pm, pn, subst (λ (z : ℕ). Ends W F S z k) (sym q) (w, sym (s.beside k w no_n).goes ∙ t'.1), λ _. no_n))
      (λ pa. let e = s.elsewhere p k pa pn pm in inr (pm, pn, (ap (λ (z : ℕ). stands z k) (sym (s.others p pn pm)) ∙ t.0, (λ i. goes_on (sym e.0 i) (sym e.1 i) k) ∙ t.1), λ q. absurd (pa q))))

  abbrev Went : ℕ → ℕ → Type 0
  Went p k = ((p ≡ m) × Passes W F S n k × (F' p k ≡ F n k) × (S' p k ≡ S n k))
      ⊎ (((p ≡ a) × (stands (W n) k ≡ true)) ⊎ ((p ≢ m) × (p ≢ n) × Passes W F S p k × (F' p k ≡ F p k) × (S' p k ≡ S p k) × (p ≡ a → stands (W n) k ≡ false)))

  went : (p k : ℕ) → Passes W' F' S' p k → Went p k
  went p k t = dite (ℕ_discrete p m)
      (λ (q : p ≡ m). let h = covered p k q t.0 in let t' : Passes W' F' S' m k = subst (λ (z : ℕ). Passes W' F' S' z k) q t in
      let ne : k ≢ key = λ (e : k ≡ key). clash (goes_on (F' m k) (S' m k) k) t'.1 (ap (λ (z : ℕ). goes_on (F' m z) (S' m z) z) e ∙ s.ended) in
      let b = s.below k h ne in let on : goes_on (F n k) (S n k) k ≡ true = sym b.goes ∙ t'.1 in let same = b.node on in
      inl (q, (h, on), ap (λ (z : ℕ). F' z k) q ∙ same.0, ap (λ (z : ℕ). S' z k) q ∙ same.1))
      (λ pm. let pn = never p k t.0 in dite (ℕ_discrete p a)
      (λ (q : p ≡ a). let t' : Passes W' F' S' a k = subst (λ (z : ℕ). Passes W' F' S' z k) q t in let w : stands (W a) k ≡ true = ap (λ (z : ℕ). stands z k) (sym wheres) ∙ t'.0 in
      ⊎_elim (λ (h : stands (W n) k ≡ true). inr (inl (q, h)))
      (λ (no_n : stands (W n) k ≡ false). let b = s.beside k w no_n in let on : goes_on (F a k) (S a k) k ≡ true = sym b.goes ∙ t'.1 in let same = b.node on in
      inr (inr (pm, pn, subst (λ (z : ℕ). Passes W F S z k) (sym q) (w, on), subst (λ (z : ℕ). F' z k ≡ F z k) (sym q) same.0, subst (λ (z : ℕ). S' z k ≡ S z k) (sym q) same.1, λ _. no_n)))
      (decide (stands (W n) k)))
      (λ pa. let e = s.elsewhere p k pa pn pm in inr (inr (pm, pn, (ap (λ (z : ℕ). stands z k) (sym (s.others p pn pm)) ∙ t.0, (λ i. goes_on (sym e.0 i) (sym e.1 i) k) ∙ t.1), e.0, e.1, λ q. absurd (pa q)))))

  pub replace : (log log' : List Entry) (e : Entry) → e.key ≡ key → e.value ≡ value → log' ≡ log ++ e ∷ [] → Means W F S log → Means W' F' S' log'
  replace log log' e is_key is_value longer t =
      let un = unnamed log t in
      -- the old node's own child, and the child of a node that stays, isn't the old node
      let own : (k : ℕ) → Passes W F S n k → node_of (F n k) ≢ n = λ k on q. let l = t.linked n k on in
      let d : depth (W n) < depth (W (node_of (F n k))) = subst (λ (z : ℕ). depth (W n) < depth z) (sym l.0) l.1 in
      let d' : depth (W n) < depth (W n) = subst (λ (z : ℕ). depth (W n) < depth (W z)) q d in omega arith in
      let stays : (p k : ℕ) → Passes W F S p k → (p ≡ a → stands (W n) k ≡ false) → node_of (F p k) ≢ n = λ p k on beside q. let l = t.linked p k on in
      let h : stands (W n) k ≡ true = ap (λ (z : ℕ). stands z k) (ap W (sym q) ∙ l.0) ∙ goes_stands (F p k) (S p k) k on.1 in
      let ab = s.above k h in clash (stands (W n) k) h (beside (t.alone p a k on ab.0 (q ∙ sym ab.1))) in
      record {
        one = λ p q k x y. ⊎_elim
            (λ (l : (p ≡ m) × Ends W F S n k). ⊎_elim (λ (r : (q ≡ m) × Ends W F S n k). l.0 ∙ sym r.0)
            (λ (r : (q ≢ m) × (q ≢ n) × Ends W F S q k × (q ≡ a → stands (W n) k ≡ false)). absurd (r.1 (t.one q n k r.2 l.1))) (was q k y))
            (λ (l : (p ≢ m) × (p ≢ n) × Ends W F S p k × (p ≡ a → stands (W n) k ≡ false)). ⊎_elim (λ (r : (q ≡ m) × Ends W F S n k). absurd (l.1 (t.one p n k l.2 r.1)))
            (λ (r : (q ≢ m) × (q ≢ n) × Ends W F S q k × (q ≡ a → stands (W n) k ≡ false)). t.one p q k l.2 r.2) (was q k y)) (was p k x);
        means = λ p k x. ⊎_elim
            (λ (l : (p ≡ m) × Ends W F S n k). subst (λ (z : ℕ). pair_value (F' z k) (S' z k) k ≡ value_of k log') (sym l.0)
            (dite (ℕ_discrete k key)
            (λ (q : k ≡ key). subst (λ (z : ℕ). pair_value (F' m z) (S' m z) z ≡ value_of z log') (sym q) (s.says ∙ sym (value_now log log' e key value is_key is_value longer)))
            (λ ne. (s.below k l.1.0 ne).value ∙ (t.means n k l.1 ∙ sym (value_other log log' e key k is_key longer ne)))))
            (λ (r : (p ≢ m) × (p ≢ n) × Ends W F S p k × (p ≡ a → stands (W n) k ≡ false)).
            let ne : k ≢ key = λ (q : k ≡ key). r.1 (t.one p n k r.2 (subst (λ (z : ℕ). Ends W F S n z) (sym q) s.here)) in
            dite (ℕ_discrete p a)
            (λ (q : p ≡ a). let w : stands (W a) k ≡ true = ap (λ (z : ℕ). stands (W z) k) (sym q) ∙ r.2.0 in let b = s.beside k w (r.3 q) in
            subst (λ (z : ℕ). pair_value (F' z k) (S' z k) k ≡ value_of k log') (sym q) (b.value ∙ (t.means a k (subst (λ (z : ℕ). Ends W F S z k) q r.2) ∙ sym (value_other log log' e key k is_key longer ne))))
            (λ pa. let el = s.elsewhere p k pa r.1 r.0 in (λ i. pair_value (el.0 i) (el.1 i) k) ∙ (t.means p k r.2 ∙ sym (value_other log log' e key k is_key longer ne)))) (was p k x);
        alone = λ p q k x y same. ⊎_elim
            (λ (l : (p ≡ m) × Passes W F S n k × (F' p k ≡ F n k) × (S' p k ≡ S n k)). ⊎_elim
            (λ (r : (q ≡ m) × Passes W F S n k × (F' q k ≡ F n k) × (S' q k ≡ S n k)). l.0 ∙ sym r.0)
            (λ r'. ⊎_elim
            (λ (r : (q ≡ a) × (stands (W n) k ≡ true)). absurd (un n k l.1 (node_path (F n k) (F' p k) (sym l.2) ∙ (same ∙ (ap (λ (z : ℕ). F' z k / 256) r.0 ∙ (s.above k r.1).3)))))
            (λ (r : (q ≢ m) × (q ≢ n) × Passes W F S q k × (F' q k ≡ F q k) × (S' q k ≡ S q k) × (q ≡ a → stands (W n) k ≡ false)).
            absurd (r.1 (t.alone q n k r.2 l.1 (node_path (F q k) (F' q k) (sym r.3) ∙ (sym same ∙ node_path (F' p k) (F n k) l.2))))) r')
            (went q k y))
            (λ l'. ⊎_elim
            (λ (l : (p ≡ a) × (stands (W n) k ≡ true)). let to_m : node_of (F' p k) ≡ m = ap (λ (z : ℕ). F' z k / 256) l.0 ∙ (s.above k l.1).3 in ⊎_elim
            (λ (r : (q ≡ m) × Passes W F S n k × (F' q k ≡ F n k) × (S' q k ≡ S n k)). absurd (un n k r.1 (node_path (F n k) (F' q k) (sym r.2) ∙ (sym same ∙ to_m))))
            (λ r'. ⊎_elim
            (λ (r : (q ≡ a) × (stands (W n) k ≡ true)). l.0 ∙ sym r.0)
            (λ (r : (q ≢ m) × (q ≢ n) × Passes W F S q k × (F' q k ≡ F q k) × (S' q k ≡ S q k) × (q ≡ a → stands (W n) k ≡ false)).
            absurd (un q k r.2 (node_path (F q k) (F' q k) (sym r.3) ∙ (sym same ∙ to_m)))) r')
            (went q k y))
            (λ (l : (p ≢ m) × (p ≢ n) × Passes W F S p k × (F' p k ≡ F p k) × (S' p k ≡ S p k) × (p ≡ a → stands (W n) k ≡ false)). ⊎_elim
            (λ (r : (q ≡ m) × Passes W F S n k × (F' q k ≡ F n k) × (S' q k ≡ S n k)). absurd (l.1 (t.alone p n k l.2 r.1 (node_path (F p k) (F' p k) (sym l.3) ∙ (same ∙ node_path (F' q k) (F n k) r.2)))))
            (λ r'. ⊎_elim
            (λ (r : (q ≡ a) × (stands (W n) k ≡ true)). absurd (un p k l.2 (node_path (F p k) (F' p k) (sym l.3) ∙ (same ∙ (ap (λ (z : ℕ). F' z k / 256) r.0 ∙ (s.above k r.1).3)))))
            (λ (r : (q ≢ m) × (q ≢ n) × Passes W F S q k × (F' q k ≡ F q k) × (S' q k ≡ S q k) × (q ≡ a → stands (W n) k ≡ false)).
            t.alone p q k l.2 r.2 (node_path (F p k) (F' p k) (sym l.3) ∙ (same ∙ node_path (F' q k) (F q k) r.3))) r')
            (went q k y)) l')
            (went p k x);
        linked = λ p k x. ⊎_elim
            (λ (l : (p ≡ m) × Passes W F S n k × (F' p k ≡ F n k) × (S' p k ≡ S n k)). let old = t.linked n k l.1 in (
              ap (λ (z : ℕ). W' (z / 256)) l.2 ∙ (s.others (F n k / 256) (own k l.1) (un n k l.1) ∙ (old.0 ∙ sym l.3)),
              subst (λ (z : ℕ × ℕ). z.0 < depth z.1) (λ i. ((sym s.deep ∙ ap (λ (z : ℕ). depth (W' z)) (sym l.0)) i, sym l.3 i)) old.1,
            ))
            (λ l'. ⊎_elim
            (λ (l : (p ≡ a) × (stands (W n) k ≡ true)). let ab = s.above k l.1 in let old = t.linked a k ab.0 in
            subst (λ (z : ℕ). Links W' F' S' z k) (sym l.0) (
              ap W' ab.3 ∙ sym ab.4,
              subst (λ (z : ℕ × ℕ). depth z.0 < z.1) (λ i. (sym wheres i, (ap depth (sym old.0 ∙ ap W ab.1) ∙ (sym s.deep ∙ ap depth (sym ab.4))) i)) old.1,
            ))
            (λ (l : (p ≢ m) × (p ≢ n) × Passes W F S p k × (F' p k ≡ F p k) × (S' p k ≡ S p k) × (p ≡ a → stands (W n) k ≡ false)). let old = t.linked p k l.2 in (
              ap (λ (z : ℕ). W' (z / 256)) l.3 ∙ (s.others (F p k / 256) (stays p k l.2 l.5) (un p k l.2) ∙ (old.0 ∙ sym l.4)),
              subst (λ (z : ℕ × ℕ). depth z.0 < depth z.1) (λ i. (sym (s.others p l.1 l.0) i, sym l.4 i)) old.1,
            )) l')
            (went p k x);
      }

-- a node whose only child goes up
module _ (W W' : ℕ → ℕ) (F S F' S' : ℕ → ℕ → ℕ) (a n key : ℕ) (value : Option ℕ) (s : IsLifted W W' F S F' S' a n key value) where
  where_above : W' a ≡ W a
  where_above = s.others a s.an

  not_gone : (p k : ℕ) → stands (W' p) k ≡ true → p ≢ n
  not_gone p k h q = clash (stands (W' n) k) (ap (λ (z : ℕ). stands (W' z) k) (sym q) ∙ h) (s.gone k)

  abbrev Stood : ℕ → ℕ → Type 0
  Stood p k = ((p ≡ a) × Ends W F S n k) ⊎ ((p ≢ n) × Ends W F S p k × (p ≡ a → stands (W n) k ≡ false))

  stood : (p k : ℕ) → Ends W' F' S' p k → Stood p k
  stood p k t = let pn = not_gone p k t.0 in dite (ℕ_discrete p a)
      (λ (q : p ≡ a). let t' : Ends W' F' S' a k = subst (λ (z : ℕ). Ends W' F' S' z k) q t in let w : stands (W a) k ≡ true = ap (λ (z : ℕ). stands z k) (sym where_above) ∙ t'.0 in
      ⊎_elim (λ (h : stands (W n) k ≡ true). inl (q, (h, dite (ℕ_discrete k key) (λ (e : k ≡ key). ap (λ (z : ℕ). goes_on (F n z) (S n z) z) e ∙ s.here.1) (λ ne. sym (s.below k h ne).goes ∙ t'.1))))
      (λ (no_n : stands (W n) k ≡ false). inr (pn, subst (λ (z : ℕ). Ends W F S z k) (sym q) (w, sym (s.beside k w no_n).goes ∙ t'.1), λ _. no_n))
      (decide (stands (W n) k)))
      (λ pa. let e = s.elsewhere p k pa pn in inr (pn, (ap (λ (z : ℕ). stands z k) (sym (s.others p pn)) ∙ t.0, (λ i. goes_on (sym e.0 i) (sym e.1 i) k) ∙ t.1), λ q. absurd (pa q)))

  abbrev Passed : ℕ → ℕ → Type 0
  Passed p k = ((p ≡ a) × Passes W F S n k × (F' p k ≡ F n k) × (S' p k ≡ S n k)) ⊎ ((p ≢ n) × Passes W F S p k × (F' p k ≡ F p k) × (S' p k ≡ S p k) × (p ≡ a → stands (W n) k ≡ false))

  passed : (p k : ℕ) → Passes W' F' S' p k → Passed p k
  passed p k t = let pn = not_gone p k t.0 in dite (ℕ_discrete p a)
      (λ (q : p ≡ a). let t' : Passes W' F' S' a k = subst (λ (z : ℕ). Passes W' F' S' z k) q t in let w : stands (W a) k ≡ true = ap (λ (z : ℕ). stands z k) (sym where_above) ∙ t'.0 in
      ⊎_elim
      (λ (h : stands (W n) k ≡ true). let ne : k ≢ key = λ (e : k ≡ key). clash (goes_on (F' a k) (S' a k) k) t'.1 (ap (λ (z : ℕ). goes_on (F' a z) (S' a z) z) e ∙ s.ended) in
      let b = s.below k h ne in let on : goes_on (F n k) (S n k) k ≡ true = sym b.goes ∙ t'.1 in let same = b.node on in
      inl (q, (h, on), ap (λ (z : ℕ). F' z k) q ∙ same.0, ap (λ (z : ℕ). S' z k) q ∙ same.1))
      (λ (no_n : stands (W n) k ≡ false). let b = s.beside k w no_n in let on : goes_on (F a k) (S a k) k ≡ true = sym b.goes ∙ t'.1 in let same = b.node on in
      inr (pn, subst (λ (z : ℕ). Passes W F S z k) (sym q) (w, on), subst (λ (z : ℕ). F' z k ≡ F z k) (sym q) same.0, subst (λ (z : ℕ). S' z k ≡ S z k) (sym q) same.1, λ _. no_n))
      (decide (stands (W n) k)))
      (λ pa. let e = s.elsewhere p k pa pn in inr (pn, (ap (λ (z : ℕ). stands z k) (sym (s.others p pn)) ∙ t.0, (λ i. goes_on (sym e.0 i) (sym e.1 i) k) ∙ t.1), e.0, e.1, λ q. absurd (pa q)))

  pub lift : (log log' : List Entry) (e : Entry) → e.key ≡ key → e.value ≡ value → log' ≡ log ++ e ∷ [] → Means W F S log → Means W' F' S' log'
  lift log log' e is_key is_value longer t =
      let own : (k : ℕ) → Passes W F S n k → node_of (F n k) ≢ n = λ k on q. let l = t.linked n k on in
      let d : depth (W n) < depth (W (node_of (F n k))) = subst (λ (z : ℕ). depth (W n) < depth z) (sym l.0) l.1 in
      let d' : depth (W n) < depth (W n) = subst (λ (z : ℕ). depth (W n) < depth (W z)) q d in omega arith in
      let stays : (p k : ℕ) → Passes W F S p k → (p ≡ a → stands (W n) k ≡ false) → node_of (F p k) ≢ n = λ p k on beside q. let l = t.linked p k on in
      let h : stands (W n) k ≡ true = ap (λ (z : ℕ). stands z k) (ap W (sym q) ∙ l.0) ∙ goes_stands (F p k) (S p k) k on.1 in
      let ab = s.above k h in clash (stands (W n) k) h (beside (t.alone p a k on ab.0 (q ∙ sym ab.1))) in
      record {
        one = λ p q k x y. ⊎_elim
            (λ (l : (p ≡ a) × Ends W F S n k). ⊎_elim (λ (r : (q ≡ a) × Ends W F S n k). l.0 ∙ sym r.0)
            (λ (r : (q ≢ n) × Ends W F S q k × (q ≡ a → stands (W n) k ≡ false)). absurd (r.0 (t.one q n k r.1 l.1))) (stood q k y))
            (λ (l : (p ≢ n) × Ends W F S p k × (p ≡ a → stands (W n) k ≡ false)). ⊎_elim (λ (r : (q ≡ a) × Ends W F S n k). absurd (l.0 (t.one p n k l.1 r.1)))
            (λ (r : (q ≢ n) × Ends W F S q k × (q ≡ a → stands (W n) k ≡ false)). t.one p q k l.1 r.1) (stood q k y)) (stood p k x);
        means = λ p k x. ⊎_elim
            (λ (l : (p ≡ a) × Ends W F S n k). subst (λ (z : ℕ). pair_value (F' z k) (S' z k) k ≡ value_of k log') (sym l.0)
            (dite (ℕ_discrete k key)
            (λ (q : k ≡ key). subst (λ (z : ℕ). pair_value (F' a z) (S' a z) z ≡ value_of z log') (sym q) (s.says ∙ sym (value_now log log' e key value is_key is_value longer)))
            (λ ne. (s.below k l.1.0 ne).value ∙ (t.means n k l.1 ∙ sym (value_other log log' e key k is_key longer ne)))))
            (λ (r : (p ≢ n) × Ends W F S p k × (p ≡ a → stands (W n) k ≡ false)).
            let ne : k ≢ key = λ (q : k ≡ key). r.0 (t.one p n k r.1 (subst (λ (z : ℕ). Ends W F S n z) (sym q) s.here)) in
            dite (ℕ_discrete p a)
            (λ (q : p ≡ a). let w : stands (W a) k ≡ true = ap (λ (z : ℕ). stands (W z) k) (sym q) ∙ r.1.0 in let b = s.beside k w (r.2 q) in
            subst (λ (z : ℕ). pair_value (F' z k) (S' z k) k ≡ value_of k log') (sym q) (b.value ∙ (t.means a k (subst (λ (z : ℕ). Ends W F S z k) q r.1) ∙ sym (value_other log log' e key k is_key longer ne))))
            (λ pa. let el = s.elsewhere p k pa r.0 in (λ i. pair_value (el.0 i) (el.1 i) k) ∙ (t.means p k r.1 ∙ sym (value_other log log' e key k is_key longer ne)))) (stood p k x);
        alone = λ p q k x y same. ⊎_elim
            (λ (l : (p ≡ a) × Passes W F S n k × (F' p k ≡ F n k) × (S' p k ≡ S n k)). ⊎_elim
            (λ (r : (q ≡ a) × Passes W F S n k × (F' q k ≡ F n k) × (S' q k ≡ S n k)). l.0 ∙ sym r.0)
            (λ (r : (q ≢ n) × Passes W F S q k × (F' q k ≡ F q k) × (S' q k ≡ S q k) × (q ≡ a → stands (W n) k ≡ false)).
            absurd (r.0 (t.alone q n k r.1 l.1 (node_path (F q k) (F' q k) (sym r.2) ∙ (sym same ∙ node_path (F' p k) (F n k) l.2)))))
            (passed q k y))
            (λ (l : (p ≢ n) × Passes W F S p k × (F' p k ≡ F p k) × (S' p k ≡ S p k) × (p ≡ a → stands (W n) k ≡ false)). ⊎_elim
            (λ (r : (q ≡ a) × Passes W F S n k × (F' q k ≡ F n k) × (S' q k ≡ S n k)). absurd (l.0 (t.alone p n k l.1 r.1 (node_path (F p k) (F' p k) (sym l.2) ∙ (same ∙ node_path (F' q k) (F n k) r.2)))))
            (λ (r : (q ≢ n) × Passes W F S q k × (F' q k ≡ F q k) × (S' q k ≡ S q k) × (q ≡ a → stands (W n) k ≡ false)).
            t.alone p q k l.1 r.1 (node_path (F p k) (F' p k) (sym l.2) ∙ (same ∙ node_path (F' q k) (F q k) r.2)))
            (passed q k y))
            (passed p k x);
        linked = λ p k x. ⊎_elim
            (λ (l : (p ≡ a) × Passes W F S n k × (F' p k ≡ F n k) × (S' p k ≡ S n k)). let old = t.linked n k l.1 in let ab = s.above k l.1.0 in let up = t.linked a k ab.0 in
            let d : depth (W a) < depth (W n) = subst (λ (z : ℕ). depth (W a) < depth z) (sym up.0 ∙ ap W ab.1) up.1 in let d' : depth (W n) < depth (S n k) = old.1 in
            let d'' : depth (W a) < depth (S n k) = omega arith in (
              ap (λ (z : ℕ). W' (z / 256)) l.2 ∙ (s.others (F n k / 256) (own k l.1) ∙ (old.0 ∙ sym l.3)),
              subst (λ (z : ℕ × ℕ). depth z.0 < depth z.1) (λ i. ((sym where_above ∙ ap W' (sym l.0)) i, sym l.3 i)) d'',
            ))
            (λ (l : (p ≢ n) × Passes W F S p k × (F' p k ≡ F p k) × (S' p k ≡ S p k) × (p ≡ a → stands (W n) k ≡ false)). let old = t.linked p k l.1 in (
              ap (λ (z : ℕ). W' (z / 256)) l.2 ∙ (s.others (F p k / 256) (stays p k l.1 l.4) ∙ (old.0 ∙ sym l.3)),
              subst (λ (z : ℕ × ℕ). depth z.0 < depth z.1) (λ i. (sym (s.others p l.0) i, sym l.3 i)) old.1,
            ))
            (passed p k x);
      }
