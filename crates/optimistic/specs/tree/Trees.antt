-- The nodes as they were settled are a tree, which the log makes.
use Rattle.std.specs.Prelude.{◌≡◌, ◌≢◌, ℕ, List}
use Rattle.optimistic.specs.Layout.{byte_at}
use Rattle.optimistic.specs.declared.words.rule.Block.{Block}
use Rattle.optimistic.specs.declared.words.rule.Entry.{Entry}
use Rattle.optimistic.specs.words.Kept.{calm_at}
use Rattle.optimistic.specs.forms.Children.{first_of, second_of, IsForm}
use Rattle.optimistic.specs.tree.Levels.{form_of, depth, Means}

-- which keys a node covers, and the two words of its child at a key's byte
abbrev pub where_at : List Block → ℕ → ℕ
where_at calm n = calm_at calm n 1

abbrev pub first_in : (ℕ → ℕ) → ℕ → ℕ
first_in w key = first_of (form_of (w 1)) w key (byte_at key (depth (w 1)))

abbrev pub second_in : (ℕ → ℕ) → ℕ → ℕ
second_in w key = second_of (form_of (w 1)) w key (byte_at key (depth (w 1)))

abbrev pub first_at : List Block → ℕ → ℕ → ℕ
first_at calm n key = first_in (calm_at calm n) key

abbrev pub second_at : List Block → ℕ → ℕ → ℕ
second_at calm n key = second_in (calm_at calm n) key

-- The nodes mean what the log makes of them, the words of each that covers a key are those of its form, and the root covers each key
pub record IsTree (calm : List Block) (log : List Entry) : Type 0 where
  pub nodes : Means (where_at calm) (first_at calm) (second_at calm) log
  pub forms : (n : ℕ) → where_at calm n ≢ 0 → IsForm (form_of (where_at calm n)) (calm_at calm n)
  pub top : where_at calm 16 ≡ 32
