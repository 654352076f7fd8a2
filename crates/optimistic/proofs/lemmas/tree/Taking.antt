-- A key's leaf that is taken out of its last node.
use Rattle.std.proofs.Common.{◌≡◌, ◌≢◌, ℕ, ◌∙◌, true, sym, arith}
use Rattle.optimistic.specs.Layout.{leaf_of}
use Rattle.optimistic.specs.declared.words.rule.View.{View}
use Rattle.optimistic.specs.words.Kept.{word_at, has}
use Rattle.optimistic.specs.words.Told.{HasForm, Looks}
use Rattle.optimistic.specs.forms.Children.{first_of}
use Rattle.optimistic.specs.tree.Takes.{HasChild}
use Rattle.optimistic.specs.tree.Trees.{IsTree}
use Rattle.optimistic.proofs.lemmas.forms.FormLemmas.{first_like}
use Rattle.optimistic.proofs.lemmas.tree.Writing.{words_stay}

-- a leaf is a child
pub leaf_there : (n form key byte : ℕ) (v w : View) → HasForm n form v → has v.mine n ≡ true → Looks IsTree v w → first_of form (word_at v.seen.words n) key byte ≡ leaf_of key → HasChild form (word_at w.seen.words n) byte
leaf_there n form key byte v w at own t is = (key, λ e. some (sym is ∙ (sym (first_like form (word_at v.seen.words n) (word_at w.seen.words n) (λ j _ l. words_stay n form j v w at l own t) key byte) ∙ e)))
  where
    some : leaf_of key ≢ 0
    some e = absurd (omega arith)
