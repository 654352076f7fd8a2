use Rattle.std.proofs.Common.{◌≡◌, ℕ, zero, suc, ◌+◌, List, [], ◌∷◌, get_or, sym}
use mathlib.Core.Option.{some, some-injective, some-ne-none}
use lib.ListN.{get_elem?}
use Rattle.optimistic.specs.words.Last.{words_in}
use Rattle.optimistic.proofs.words.last.Words.word.Goals as goal

index_is : (l : List ℕ) (i x : ℕ) → get_elem? l i ≡ some x → x ≡ get_or l i 0
index_is [] i x e = absurd (some-ne-none x (sym e))
index_is (y ∷ ys) zero x e = sym (some-injective y x e)
index_is (y ∷ ys) (suc i) x e = index_is ys i x e

pub returns : goal.returns
returns c = index_is (words_in c.args.self.now) (c.args.node + c.args.word) c.word.result c.word.ensures
