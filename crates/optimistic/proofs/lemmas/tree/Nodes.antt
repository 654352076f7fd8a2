-- What becomes of the meaning of nodes where some of them change: a key's child alone, a new node between a node and its child, a node in
-- another's place, and a node whose only child goes up.
use Rattle.std.proofs.Common.{◌≡◌, ◌≢◌, ℕ, ◌/◌, ◌<◌, ◌⊎◌, eqb, ltb, ◌&&◌, Bool, true, false, List, [], ◌∷◌, ◌++◌, sym, refl, ap, ◌∙◌, subst, inl, inr, ⊎_elim, arith, Option}
use mathlib.Core.Logic.{dite}
use native.Mathlib.Decide.{ℕ_discrete}
use Rattle.optimistic.specs.Layout.{tag_of, level_of}
use Rattle.optimistic.specs.declared.words.rule.Entry.{Entry}
use Rattle.optimistic.specs.words.Kept.{value_of}
use Rattle.optimistic.specs.tree.Levels.{form_of, depth, stands, goes_on, pair_value, Ends, Passes, Means, SameAt}
use Rattle.optimistic.proofs.lemmas.words.Chains.{value_here, value_else}

pub clash : (b : Bool) → b ≡ true → b ≡ false → ⊥
clash b p q = let e : true ≡ false = sym p ∙ q in grind arith

pub decide : (b : Bool) → (b ≡ true) ⊎ (b ≡ false)
decide true = inl refl
decide false = inr refl

pub not_true : (b : Bool) → (b ≡ true → ⊥) → b ≡ false
not_true true never = absurd (never refl)
not_true false never = refl

pub same_refl : (key f x f' x' : ℕ) → f' ≡ f → x' ≡ x → SameAt key f x f' x'
same_refl key f x f' x' p q = record { goes = λ i. goes_on (p i) (q i) key; node = λ _. (p, q); value = λ i. pair_value (p i) (q i) key }

-- a child that is a node which covers a key has a where that does
pub goes_stands : (f x k : ℕ) → goes_on f x k ≡ true → stands x k ≡ true
unfolding goes_on
goes_stands f x k p = last ((ltb 0 (tag_of f) && ltb (tag_of f) 9) && (eqb (form_of x) (tag_of f) && eqb (depth x) (level_of f))) (stands x k) p
  where
    last : (a b : Bool) → (a && b) ≡ true → b ≡ true
    last true b e = e
    last false b e = absurd (clash false e refl)

-- whether a child is a node that covers a key depends on whether its where does
pub goes_like : (f x k o : ℕ) → goes_on f x o ≡ true → goes_on f x k ≡ stands x k
unfolding goes_on
goes_like f x k o p = first ((ltb 0 (tag_of f) && ltb (tag_of f) 9) && (eqb (form_of x) (tag_of f) && eqb (depth x) (level_of f))) (stands x o) (stands x k) p
  where
    first : (a b c : Bool) → (a && b) ≡ true → (a && c) ≡ c
    first true b c e = refl
    first false b c e = absurd (clash false e refl)

-- the value of a key after a log that has one call more
pub value_now : (log log' : List Entry) (e : Entry) (key : ℕ) (value : Option ℕ) → e.key ≡ key → e.value ≡ value → log' ≡ log ++ e ∷ [] → value_of key log' ≡ value
value_now log log' e key value is_key is_value longer = ap (λ (l : List Entry). value_of key l) longer ∙ (value_here log e key is_key ∙ is_value)

pub value_other : (log log' : List Entry) (e : Entry) (key k : ℕ) → e.key ≡ key → log' ≡ log ++ e ∷ [] → k ≢ key → value_of k log' ≡ value_of k log
value_other log log' e key k is_key longer ne = ap (λ (l : List Entry). value_of k l) longer ∙ value_else log e k (λ q. ne (sym q ∙ is_key))

-- nothing that a key is asked for changed
pub kept : (W W' : ℕ → ℕ) (F S F' S' : ℕ → ℕ → ℕ) (log log' : List Entry) → log' ≡ log → ((p : ℕ) → W' p ≡ W p) → ((p k : ℕ) → stands (W p) k ≡ true → SameAt k (F p k) (S p k) (F' p k) (S' p k)) → Means W F S log → Means W' F' S' log'
kept W W' F S F' S' log log' same_log wheres same t =
    let here : (p k : ℕ) → stands (W' p) k ≡ true → stands (W p) k ≡ true = λ p k h. ap (λ (z : ℕ). stands z k) (sym (wheres p)) ∙ h in
    let ends : (p k : ℕ) → Ends W' F' S' p k → Ends W F S p k = λ p k e. let h = here p k e.0 in (h, sym (same p k h).goes ∙ e.1) in
    let passes : (p k : ℕ) → Passes W' F' S' p k → Passes W F S p k = λ p k e. let h = here p k e.0 in (h, sym (same p k h).goes ∙ e.1) in
    let child : (p k : ℕ) → Passes W' F' S' p k → (F' p k ≡ F p k) × (S' p k ≡ S p k) = λ p k e. let q = passes p k e in (same p k q.0).node q.1 in
    record {
      one = λ n m k p q. t.one n m k (ends n k p) (ends m k q);
      means = λ n k p. let q = ends n k p in (same n k q.0).value ∙ (t.means n k q ∙ ap (λ (l : List Entry). value_of k l) (sym same_log));
      alone = λ n m k p q e. t.alone n m k (passes n k p) (passes m k q) (ap (λ (z : ℕ). z / 256) (sym (child n k p).0) ∙ (e ∙ ap (λ (z : ℕ). z / 256) (child m k q).0));
      linked = λ n k p. let l = t.linked n k (passes n k p) in let c = child n k p in (
        wheres (F' n k / 256) ∙ (ap (λ (z : ℕ). W (z / 256)) c.0 ∙ (l.0 ∙ sym c.1)),
        subst (λ (z : ℕ × ℕ). depth z.0 < depth z.1) (λ i. (sym (wheres n) i, sym c.1 i)) l.1,
      );
    }

-- One key has another value at its last node, and nothing else changed that a key is asked for
module _ (W W' : ℕ → ℕ) (F S F' S' : ℕ → ℕ → ℕ) (log log' : List Entry) (n key : ℕ) (value : Option ℕ) (e : Entry) (is_key : e.key ≡ key) (is_value : e.value ≡ value) (longer : log' ≡ log ++ e ∷ [])
    (wheres : (p : ℕ) → W' p ≡ W p) (same : (p k : ℕ) → stands (W p) k ≡ true → (p ≡ n → k ≢ key) → SameAt k (F p k) (S p k) (F' p k) (S' p k))
    (mine : Ends W F S n key) (ended : goes_on (F' n key) (S' n key) key ≡ false) (says : pair_value (F' n key) (S' n key) key ≡ value) where
  put_here : (p k : ℕ) → stands (W' p) k ≡ true → stands (W p) k ≡ true
  put_here p k h = ap (λ (z : ℕ). stands z k) (sym (wheres p)) ∙ h

  put_cases : (p k : ℕ) → ((p ≡ n) × (k ≡ key)) ⊎ (p ≡ n → k ≢ key)
  put_cases p k = dite (ℕ_discrete p n) (λ (a : p ≡ n). dite (ℕ_discrete k key) (λ (b : k ≡ key). inl (a, b)) (λ nb. inr (λ _. nb))) (λ na. inr (λ a. absurd (na a)))

  put_ends : (p k : ℕ) → Ends W' F' S' p k → Ends W F S p k
  put_ends p k t = ⊎_elim (λ (c : (p ≡ n) × (k ≡ key)). subst (λ (z : ℕ × ℕ). Ends W F S z.0 z.1) (λ i. (sym c.0 i, sym c.1 i)) mine)
      (λ c. let h = put_here p k t.0 in (h, sym (same p k h c).goes ∙ t.1)) (put_cases p k)

  put_passes : (p k : ℕ) → Passes W' F' S' p k → Passes W F S p k × (F' p k ≡ F p k) × (S' p k ≡ S p k)
  put_passes p k t = ⊎_elim (λ (c : (p ≡ n) × (k ≡ key)). absurd (clash (goes_on (F' p k) (S' p k) k) t.1 ((λ i. goes_on (F' (c.0 i) (c.1 i)) (S' (c.0 i) (c.1 i)) (c.1 i)) ∙ ended)))
      (λ c. let h = put_here p k t.0 in let s = same p k h c in let on : goes_on (F p k) (S p k) k ≡ true = sym s.goes ∙ t.1 in let q = s.node on in ((h, on), q.0, q.1)) (put_cases p k)

  pub put : Means W F S log → Means W' F' S' log'
  put t = record {
    one = λ p q k a b. t.one p q k (put_ends p k a) (put_ends q k b);
    means = λ p k a. let old = put_ends p k a in ⊎_elim
        (λ (c : (p ≡ n) × (k ≡ key)). (λ i. pair_value (F' (c.0 i) (c.1 i)) (S' (c.0 i) (c.1 i)) (c.1 i)) ∙ (says ∙ (sym (value_now log log' e key value is_key is_value longer) ∙ ap (λ (z : ℕ). value_of z log') (sym c.1))))
        (λ c. (same p k old.0 c).value ∙ (t.means p k old ∙ sym (value_other log log' e key k is_key longer
        (λ (q : k ≡ key). c (t.one p n k old (subst (λ (z : ℕ). Ends W F S n z) (sym q) mine)) q)))) (put_cases p k);
    alone = λ p q k a b s. let x = put_passes p k a in let y = put_passes q k b in t.alone p q k x.0 y.0 (ap (λ (z : ℕ). z / 256) (sym x.1) ∙ (s ∙ ap (λ (z : ℕ). z / 256) y.1));
    linked = λ p k a. let x = put_passes p k a in let l = t.linked p k x.0 in (
      wheres (F' p k / 256) ∙ (ap (λ (z : ℕ). W (z / 256)) x.1 ∙ (l.0 ∙ sym x.2)),
      subst (λ (z : ℕ × ℕ). depth z.0 < depth z.1) (λ i. (sym (wheres p) i, sym x.2 i)) l.1,
    );
  }
