-- The pairs that a closure was given, one after the other.
use Rattle.std.proofs.Common.{ℕ, ◌+◌, ◌^◌, ◌≤◌, List, [], ◌∷◌, ◌++◌, sym, refl, subst, None, Some}
use Rattle.optimistic.specs.declared.drain.nexts.Pair.{Pair}
use Rattle.optimistic.specs.declared.drain.pairs.Pairs.{Pairs}
use Rattle.optimistic.specs.declared.words.rule.Entry.{Entry}
use Rattle.optimistic.specs.tree.Nexts.{IsFirst}
use Rattle.optimistic.specs.tree.Drained.{rest, HasLog, IsDrained, IsClosed, Given, Gave, GaveAll}
use Rattle.optimistic.proofs.lemmas.drain.Lists.{drained_none, drained_end, drained_more}

module _ {F : Type 0} (step : F → ℕ → ℕ → F → Type 0) where
  given_more : (xs : List Pair) (p : Pair) (f g h : F) → Given step f xs g → step g p.key p.value h → Given step f (xs ++ p ∷ []) h
  given_more [] p f g h t s = (h, subst (λ (z : F). step z p.key p.value h) (sym t) s, refl)
  given_more (x ∷ xs) p f g h t s = (t.0, t.1, given_more xs p t.0 g h t.2 s)

  pub gave_none : (p : Pairs) (f : F) → Gave step p (rest p) f f
  gave_none p f = record { pairs = []; given = refl; told = λ log has. drained_none log (rest p) }

  pub gave_more : (p : Pairs) (to : ℕ) (q : Pair) (f g h : F) → rest p ≤ to → Gave step p to f g → ((log : List Entry) → HasLog p log → IsFirst log to (Some q)) → step g q.key q.value h → Gave step p (q.key + 1) f h
  gave_more p to q f g h order t first s = record {
    pairs = t.pairs ++ q ∷ [];
    given = given_more t.pairs q f g h t.given s;
    told = λ log has. drained_more log (rest p) to t.pairs (t.told log has) q order (first log has);
  }

  pub gave_end : (p : Pairs) (to : ℕ) (f g : F) → to ≤ 2 ^ 64 → Gave step p to f g → ((log : List Entry) → HasLog p log → IsFirst log to None) → Gave step p (2 ^ 64) f g
  gave_end p to f g end t none = record { pairs = t.pairs; given = t.given; told = λ log has. drained_end log (rest p) to t.pairs (t.told log has) end (none log has) }

  pub gave_all : (p : Pairs) (f g : F) (seen made : List Entry) (by : ℕ) → IsClosed seen made by p → Gave step p (2 ^ 64) f g → GaveAll step seen made by f g
  gave_all p f g seen made by closed t = (t.pairs, t.given, record { log = closed.log; told = subst (λ (z : ℕ). IsDrained closed.log z (2 ^ 64) t.pairs) closed.all (t.told closed.log closed.has); comes = closed.comes })
