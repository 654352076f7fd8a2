-- What a hand's loads and stores leave as it was, and what one place of a node has.
use Rattle.std.specs.Prelude.{◌≡◌, ◌≢◌, ℕ, ◌<◌, true}
use Rattle.optimistic.specs.Layout.{width}
use Rattle.optimistic.specs.declared.words.rule.View.{View}
use Rattle.optimistic.specs.words.Kept.{word_at, size, has, Calm, Since, SameWords}
use Rattle.optimistic.specs.words.Calls.{Later}
use Rattle.optimistic.specs.forms.Children.{byte_in, taken_in, first_word, last_word}
use Rattle.optimistic.specs.declared.moves.Item.{Item}

-- the words of a node, as a hand knows them
abbrev pub words_of : View → ℕ → ℕ → ℕ
words_of v n j = word_at v.seen.words n j

-- The hand went on, made no call, and of the nodes that it has changed at most node n, and there no word below the third
pub record Stays (n : ℕ) (v w : View) : Type 0 where
  pub later : Later v w
  pub since : Since v.seen w.seen
  pub mine : w.mine ≡ v.mine
  pub words : (m : ℕ) → has v.mine m ≡ true → m ≢ n → SameWords m v.seen w.seen
  pub low : has v.mine n ≡ true → (j : ℕ) → j < 2 → j < size v.seen.plots n → word_at w.seen.words n j ≡ word_at v.seen.words n j
  pub calm : (m : ℕ) → has v.mine m ≡ true → Calm m v.seen w.seen

-- two functions of a node's words agree, as far as it goes
abbrev pub Agree : ℕ → (ℕ → ℕ) → (ℕ → ℕ) → Type 0
Agree form w v = (j : ℕ) → j < width form → w j ≡ v j

-- an item is what a place has
abbrev pub IsItem : ℕ → (ℕ → ℕ) → ℕ → Item → Type 0
IsItem form w i e = (taken_in form w i ≡ 1) × (byte_in form w i ≡ e.byte) × (w (first_word form i) ≡ e.first) × (w (last_word form i) ≡ e.last)
