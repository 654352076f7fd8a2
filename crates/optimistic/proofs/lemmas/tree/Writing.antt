-- What a hand keeps that writes to a node.
use Rattle.std.proofs.Common.{◌≡◌, ℕ, ◌+◌, ◌<◌, true, List, sym, ap, ◌∙◌, subst, arith}
use mathlib.Core.Logic.{dite}
use native.Mathlib.Decide.{ℕ_discrete}
use Rattle.optimistic.specs.Layout.{width}
use Rattle.optimistic.specs.declared.words.rule.Tenure.{Tenure}
use Rattle.optimistic.specs.declared.words.rule.View.{View}
use Rattle.optimistic.specs.words.Kept.{word_at, size, has}
use Rattle.optimistic.specs.words.Told.{HasForm, Looks, Stores}
use Rattle.optimistic.specs.forms.Bytes.{with_at}
use Rattle.optimistic.specs.tree.Trees.{IsTree}
use Rattle.optimistic.specs.tree.Writes.{KeepsBut, IsWritten}
use Rattle.optimistic.proofs.lemmas.words.Moments.{version_word, since_trans, calm_trans, inside_since}
use Rattle.optimistic.proofs.lemmas.words.Chains.{later_trans}
use Rattle.optimistic.proofs.lemmas.forms.Maps.{with_here, with_other}

inside : (n form j : ℕ) (v : View) → HasForm n form v → j < width form → j < size v.seen.plots n
inside n form j v at low = subst (λ (z : ℕ). j < width z) (sym at.is) low

-- a word was written
pub stored_keeps : (n form i x : ℕ) (v w : View) → HasForm n form v → has v.mine n ≡ true → 0 < i → i < width form → Stores IsTree (n + i) x v w → KeepsBut n v w
stored_keeps n form i x v w at own some_word low t = record {
  later = (t.since.log, t.made, t.own.0);
  since = t.since;
  version = version_word w.seen.words n ∙ (t.others n 0 own (inside n form 0 v at (omega arith)) (λ (e : n + 0 ≡ n + i). omega arith) ∙ sym (version_word v.seen.words n));
  mine = t.mine;
  has_it = λ m h. ap (λ (l : List Tenure). has l m) t.mine ∙ h;
  words = λ m h ne j l. t.others m j h l (λ (e : m + j ≡ n + i). ne (t.sound.laid.apart m n j i (inside_since v.seen w.seen t.since m j l) (inside_since v.seen w.seen t.since n i (inside n form i v at low)) e));
  calm = t.calm;
}

pub stored_written : (n form i x : ℕ) (v w : View) → HasForm n form v → has v.mine n ≡ true → Stores IsTree (n + i) x v w → IsWritten n form (with_at (word_at v.seen.words n) i x) w
stored_written n form i x v w at own t j low = dite (ℕ_discrete j i)
    (λ (e : j ≡ i). ap (λ (z : ℕ). word_at w.seen.words n z) e ∙ (t.here ∙ sym (ap (λ (z : ℕ). with_at (word_at v.seen.words n) i x z) e ∙ with_here (word_at v.seen.words n) i x)))
    (λ ne. t.others n j own (inside n form j v at low) (λ (e : n + j ≡ n + i). ne (omega arith)) ∙ sym (with_other (word_at v.seen.words n) i x j ne))

pub but_trans : (n : ℕ) (u v w : View) → KeepsBut n u v → KeepsBut n v w → KeepsBut n u w
but_trans n u v w p q = record {
  later = later_trans u v w p.later q.later;
  since = since_trans u.seen v.seen w.seen p.since q.since;
  version = q.version ∙ p.version;
  mine = q.mine ∙ p.mine;
  has_it = λ m h. q.has_it m (p.has_it m h);
  words = λ m h ne j l. q.words m (p.has_it m h) ne j (inside_since u.seen v.seen p.since m j l) ∙ p.words m h ne j l;
  calm = λ m h. calm_trans m u.seen v.seen w.seen (p.calm m h) (q.calm m (p.has_it m h));
}

pub words_stay : (n form j : ℕ) (v w : View) → HasForm n form v → j < width form → has v.mine n ≡ true → Looks IsTree v w → word_at w.seen.words n j ≡ word_at v.seen.words n j
words_stay n form j v w at low own t = (t.held n own).0 j (inside n form j v at low)
