-- What a hand's entry, put into a node or taken out of it, is for the tree.
use Rattle.std.proofs.Common.{◌≡◌, ℕ, ◌<◌, Bool, true, false, MatchBool, Some, sym, ◌∙◌, subst, arith}
use Rattle.optimistic.specs.Layout.{width, room}
use Rattle.optimistic.specs.declared.words.rule.View.{View}
use Rattle.optimistic.specs.words.Kept.{size, has}
use Rattle.optimistic.specs.words.Told.{HasForm, Looks}
use Rattle.optimistic.specs.forms.Children.{byte_in, taken_in, Finds, Same, Becomes, put_first}
use Rattle.optimistic.specs.tree.Takes.{HasChild, HasTaken}
use Rattle.optimistic.specs.tree.Trees.{IsTree}
use Rattle.optimistic.specs.tree.Writes.{KeepsBut, HasPut}
use Rattle.optimistic.specs.Moves.{words_of, Stays, Agree}
use Rattle.optimistic.proofs.lemmas.words.Moments.{version_word}
use Rattle.optimistic.proofs.lemmas.forms.FormLemmas.{byte_like, taken_like, first_like, second_like}
use Rattle.optimistic.proofs.lemmas.MoveLemmas.{stays_mine, stays_trans}

inside : (n form j : ℕ) (v : View) → HasForm n form v → j < width form → j < size v.seen.plots n
inside n form j v at low = subst (λ (z : ℕ). j < width z) (sym at.is) low

pub stays_but : (n form : ℕ) (v w : View) → HasForm n form v → 0 < width form → has v.mine n ≡ true → Stays n v w → KeepsBut n v w
stays_but n form v w at some own t = record {
  later = t.later;
  since = t.since;
  version = version_word w.seen.words n ∙ (t.low own 0 (omega arith) (inside n form 0 v at some) ∙ sym (version_word v.seen.words n));
  mine = t.mine;
  has_it = λ m h. stays_mine n m v w t h;
  words = t.words;
  calm = t.calm;
}

pub stays_put : (n form byte x y : ℕ) (v w : View) → HasForm n form v → 1 < width form → has v.mine n ≡ true → Stays n v w → Becomes form (words_of v n) (words_of w n) byte (put_first form x) y → HasPut n form byte x y v w
stays_put n form byte x y v w at wide own t p = record {
  keeps = stays_but n form v w at (omega arith) own t;
  put = p;
  covers = t.low own 1 (omega arith) (inside n form 1 v at wide);
}

-- an entry that becomes what it does of words that agree
becomes_from : (form : ℕ) (w u z : ℕ → ℕ) (byte : ℕ) (x : ℕ → ℕ) (y : ℕ) → Same form u w → Becomes form u z byte x y → Becomes form w z byte x y
becomes_from form w u z byte x y same p = record {
  form_stays = p.form_stays;
  first = p.first;
  second = p.second;
  other_firsts = λ key b ne. p.other_firsts key b ne ∙ first_like form w u same key b;
  other_seconds = λ key b ne. p.other_seconds key b ne ∙ second_like form w u same key b;
}

-- the place of a byte that has a child
pub child_place : (form byte p : ℕ) (w u : ℕ → ℕ) → HasChild form w byte → Agree form u w → Finds form w byte (Some p) → (p < room form) × (byte_in form u p ≡ byte) × (taken_in form u p ≡ 1)
child_place form byte p w u there same f = let same' : Same form u w = λ j _ l. same j l in let at = f.place in (
  at.0,
  byte_like form w u same' p at.0 ∙ at.1,
  taken_like form w u same' p at.0 ∙ f.taken there.0 there.1,
)

pub stays_taken : (n form byte place : ℕ) (v u w : View) → HasForm n form v → 1 < width form → has v.mine n ≡ true → Stays n v u → Stays n u w → Agree form (words_of u n) (words_of v n) → byte_in form (words_of u n) place ≡ byte
    → Becomes form (words_of u n) (words_of w n) (byte_in form (words_of u n) place) (λ key. 0) 0 → HasTaken n form byte v w
stays_taken n form byte place v u w at wide own s t same is p = let q = stays_trans n v u w s t in record {
  keeps = stays_but n form v w at (omega arith) own q;
  took = becomes_from form (words_of v n) (words_of u n) (words_of w n) byte (λ key. 0) 0 (λ j _ l. same j l) (subst (λ (z : ℕ). Becomes form (words_of u n) (words_of w n) z (λ key. 0) 0) is p);
  covers = q.low own 1 (omega arith) (inside n form 1 v at wide);
}

-- a put that found room, or none
pub put_or : (r : Bool) (n form byte x y : ℕ) (v w : View) → HasForm n form v → 1 < width form → has v.mine n ≡ true → Stays n v w → MatchBool r (Becomes form (words_of v n) (words_of w n) byte (put_first form x) y) (Looks IsTree v w)
    → MatchBool r (HasPut n form byte x y v w) (Looks IsTree v w)
put_or true n form byte x y v w at wide own t p = stays_put n form byte x y v w at wide own t p
put_or false n form byte x y v w at wide own t p = p

pub stays_rewritten : (n form byte x y : ℕ) (v u w : View) → HasForm n form v → 1 < width form → has v.mine n ≡ true → Stays n v u → Stays n u w → Agree form (words_of u n) (words_of v n) → Becomes form (words_of u n) (words_of w n) byte (put_first form x) y → HasPut n form byte x y v w
stays_rewritten n form byte x y v u w at wide own s t same p = stays_put n form byte x y v w at wide own (stays_trans n v u w s t) (becomes_from form (words_of v n) (words_of u n) (words_of w n) byte (put_first form x) y (λ j _ l. same j l) p)
