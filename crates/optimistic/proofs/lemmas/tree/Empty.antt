-- The tree at first: the root alone, without a child.
use Rattle.std.proofs.Common.{◌≡◌, ◌≢◌, ℕ, ◌+◌, ◌*◌, ◌<◌, ◌≤◌, true, false, [], get_or, set, length, length-set, get_or-set_other, get_or-set_same, sym, refl, ap, ◌∙◌, subst, arith}
use Rattle.std.proofs.lemmas.List.{length-replicate}
use mathlib.Core.Logic.{dite}
use native.Mathlib.Decide.{ℕ_discrete}
use Rattle.optimistic.specs.Layout.{byte_at}
use Rattle.optimistic.specs.words.Kept.{calm_at, first_words, first_calm}
use Rattle.optimistic.specs.forms.Children.{first_of, IsForm}
use Rattle.optimistic.specs.tree.Levels.{form_of, depth, stands, goes_on, pair_value}
use Rattle.optimistic.specs.tree.Trees.{IsTree, where_at, first_at, second_at}
use Rattle.optimistic.proofs.lemmas.words.Moments.{zeros, zero_words, calm_here, calm_else}
use Rattle.optimistic.proofs.lemmas.forms.FormLemmas.{wide_form, wide_finds}
use Rattle.optimistic.proofs.lemmas.tree.Nodes.{clash}
use Rattle.optimistic.proofs.lemmas.tree.Reading.{none_ends, none_value}

-- a free node covers no key
pub free_covers : (key : ℕ) → stands 0 key ≡ false
unfolding stands
free_covers key = refl

module _ (count : ℕ) (wide : 536 ≤ count) where
  words_else : (i : ℕ) → i ≢ 0 → i ≢ 17 → get_or (first_words count) i 0 ≡ 0
  words_else i a b = get_or-set_other (set (zero_words count) 0 536) 17 i 32 0 b ∙ (get_or-set_other (zero_words count) 0 i 536 0 a ∙ zeros count i)

  where_root : where_at (first_calm count) 16 ≡ 32
  where_root = let l : length (zero_words count) ≡ count = length-replicate count 0 in let l' : length (set (zero_words count) 0 536) ≡ count = length-set (zero_words count) 0 536 ∙ l in
      calm_here 16 (first_words count) [] 1 ∙ get_or-set_same (set (zero_words count) 0 536) 17 32 0 (omega arith)

  only : (n key : ℕ) → stands (where_at (first_calm count) n) key ≡ true → n ≡ 16
  only n key h = dite (ℕ_discrete n 16) (λ e. e)
      (λ ne. absurd (clash (stands (where_at (first_calm count) n) key) h (ap (λ (z : ℕ). stands z key) (calm_else 16 n (first_words count) [] 1 (λ q. ne (sym q))) ∙ free_covers key)))

  none_there : (key : ℕ) → first_at (first_calm count) 16 key ≡ 0
  none_there key = let w : ℕ → ℕ = calm_at (first_calm count) 16 in let b : ℕ = byte_at key 0 in let low : b < 256 = omega arith in
      (λ i. first_of (form_of (where_root i)) w key (byte_at key (depth (where_root i))))
      ∙ ((wide_finds w b low).first key ∙ (calm_here 16 (first_words count) [] (8 + 2 * b) ∙ words_else (16 + (8 + 2 * b)) (λ (e : 16 + (8 + 2 * b) ≡ 0). omega arith) (λ (e : 16 + (8 + 2 * b) ≡ 17). omega arith)))

  none_at : (n key : ℕ) → stands (where_at (first_calm count) n) key ≡ true → first_at (first_calm count) n key ≡ 0
  none_at n key h = ap (λ (z : ℕ). first_at (first_calm count) z key) (only n key h) ∙ none_there key

  -- the root alone is the tree of no call
  pub empty_tree : IsTree (first_calm count) []
  empty_tree = record {
    nodes = record {
      one = λ n m key p q. only n key p.0 ∙ sym (only m key q.0);
      means = λ n key p. (λ i. pair_value (none_at n key p.0 i) (second_at (first_calm count) n key) key) ∙ none_value (second_at (first_calm count) n key) key;
      alone = λ n m key p q _. only n key p.0 ∙ sym (only m key q.0);
      linked = λ n key p. let x : ℕ = second_at (first_calm count) n key in absurd (clash (goes_on (first_at (first_calm count) n key) x key) p.1 ((λ i. goes_on (none_at n key p.0 i) x key) ∙ none_ends x key));
    };
    forms = λ n some. dite (ℕ_discrete n 16)
        (λ (e : n ≡ 16). subst (λ (z : ℕ). IsForm (form_of (where_at (first_calm count) z)) (calm_at (first_calm count) z)) (sym e) (subst (λ (z : ℕ). IsForm (form_of z) (calm_at (first_calm count) 16)) (sym where_root) (wide_form (calm_at (first_calm count) 16))))
        (λ ne. absurd (some (calm_else 16 n (first_words count) [] 1 (λ q. ne (sym q)))));
    top = where_root;
  }
