-- Each step keeps the rule.
use Rattle.std.proofs.Common.{◌≡◌, ◌≢◌, ℕ, ◌<◌, eqb, List, [], ◌∷◌, length, get_or, set, sym, refl, ◌∙◌, subst, ⊎_elim, arith, length-set, get_or-set_same, eq-eqb, ne_eqb, Option, Some}
use mathlib.Core.Logic.{dite}
use mathlib.Core.Option.{some, none, some-ne-none}
use native.Mathlib.Decide.{ℕ_discrete}
use lib.ListN.{get_elem?}
use prog.Atomic.{either}
use Rattle.atomic_table.specs.Table.{State, Me, step, keeps, takes, gives, stepped, Allows, Enters, opening}
use Rattle.atomic_table.proofs.Lists.{at_set, at_snoc, set_here}
use Rattle.optimistic.specs.desk.Lending.{Lent, arrived, taken, given}

module _ {T K : Type 0} (fact : K → T → Type 0) (key : K) where
  abbrev Rule : State (Option T) K → Type 0
  Rule = Lent fact key

  pub opens : (x : T) → fact key x → Rule (opening (0 ∷ []) (Some x ∷ []) key)
  opens x holds = record {
    some_word = omega arith;
    there = λ _. (x, refl, holds);
    each = λ i v e. ⊎_elim (λ (t : get_elem? [] i ≡ some v). absurd (some-ne-none v (sym t))) (λ (t : key ≡ v). sym t) (at_snoc [] key v i e);
  }

  pub enters : (slots i : ℕ) → Enters Rule slots i (λ n w. arrived {T = T} (step slots i 0 0 none) (key, []) n (w, []))
  enters slots i s k _ _ = (
    key,
    record {
      some_word = k.some_word;
      there = k.there;
      each = λ j v e. ⊎_elim (k.each j v) (λ (t : key ≡ v). sym t) (at_snoc s.views key v j e);
    },
    refl,
  )

  still : (s : State (Option T) K) (k : Rule s) (id : ℕ) (v : K) → v ≡ key → (j : ℕ) (u : K) → get_elem? (set s.views id v) j ≡ some u → u ≡ key
  still s k id v same j u e = ⊎_elim (λ (t : (j ≡ id) × (v ≡ u)). sym t.1 ∙ same) (λ (t : (j ≢ id) × (get_elem? s.views j ≡ some u)). k.each j u t.1) (at_set s.views id j v u e)

  pub takes_it : (slots id : ℕ) (me : Me (Option T) K) → Allows Rule slots id me 0 (λ n. either (eqb n 0) 1 n) (taken fact (step slots 0 0 1 none) me)
  takes_it slots id me s k _ at _ = let n : ℕ = get_or s.words 0 0 in let same : me.0 ≡ key = k.each id me.0 at in
      let long : (x : ℕ) → 0 < length (set s.words 0 x) = λ x. let a : length (set s.words 0 x) ≡ length s.words = length-set s.words 0 x in let b = k.some_word in omega arith in
      dite (ℕ_discrete n 0)
      (λ (hit : n ≡ 0). let t = k.there hit in (
        me.0,
        takes 0 (Some t.0),
        t.1,
        subst (λ b. Rule (stepped s 0 (either b 1 n) id me.1 me.0 (takes 0 (Some t.0)))) (sym (eq-eqb n 0 hit)) record {
          some_word = long 1;
          there = λ e. absurd (let a : get_or (set s.words 0 1) 0 0 ≡ 1 = get_or-set_same s.words 0 1 0 k.some_word in let b : get_or (set s.words 0 1) 0 0 ≡ 0 = e in omega arith);
          each = still s k id me.0 same;
        },
        ((λ _. (t.0, refl, subst (λ (z : K). fact z t.0) (sym same) t.2)), (λ miss. absurd (miss hit))),
      ))
      (λ (miss : n ≢ 0). (
        me.0,
        keeps,
        tt,
        subst (λ b. Rule (stepped s 0 (either b 1 n) id me.1 me.0 keeps)) (sym (ne_eqb n 0 miss)) record {
          some_word = long n;
          there = λ e. absurd (miss (sym (get_or-set_same s.words 0 n 0 k.some_word) ∙ e));
          each = still s k id me.0 same;
        },
        ((λ hit. absurd (miss hit)), (λ _. refl)),
      ))

  pub gives_it : (slots id : ℕ) (me : Me (Option T) K) (x : T) → 0 < slots → me.1 ≡ (0, Some x) ∷ [] → fact key x → Allows Rule slots id me 0 (λ _. 0) (λ _. given (step slots 0 0 0 none) me 0)
  gives_it slots id me x some_slot has holds s k wide at _ = let same : me.0 ≡ key = k.each id me.0 at in (
    me.0,
    gives,
    tt,
    subst (λ (c : List (ℕ × Option T)). Rule (stepped s 0 0 id c me.0 gives)) (sym has) record {
      some_word = let a : length (set s.words 0 0) ≡ length s.words = length-set s.words 0 0 in let b = k.some_word in omega arith;
      there = λ _. (x, set_here s.homes 0 (some (Some x)) (let w : length s.homes ≡ slots = wide in omega arith), holds);
      each = still s k id me.0 same;
    },
    refl,
  )
