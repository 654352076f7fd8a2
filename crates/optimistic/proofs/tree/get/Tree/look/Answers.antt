use Rattle.std.proofs.Common.{◌≡◌, ◌≢◌, ℕ, ◌%◌, ◌<◌, true, false, rules, sym, ap, ◌∙◌, subst, inl, inr, ⊎_elim, arith}
use Rattle.optimistic.specs.Layout.{where_of, byte_at}
use Rattle.optimistic.specs.words.Kept.{calm_at, word_at}
use Rattle.optimistic.specs.tree.Levels.{goes_on}
use Rattle.optimistic.specs.tree.Reads.{Found, Still}
use Rattle.optimistic.specs.tree.Trees.{where_at}
use Rattle.optimistic.proofs.lemmas.words.Moments.{since_refl, since_trans, width_more}
use Rattle.optimistic.specs.tree.Alone.{IsDisturbed}
use Rattle.optimistic.proofs.lemmas.tree.Alone.{other_word, was_odd, two_versions, leads_down}
use Rattle.optimistic.proofs.lemmas.tree.Reading.{still_agrees, reads}
use Rattle.optimistic.proofs.tree.get.Tree.look.Goals as goal

pub load-version-requires-clause-at : goal.load-version-requires-clause-at
load-version-requires-clause-at c = c.requires.at.at

pub load-version-requires-clause-inside : goal.load-version-requires-clause-inside
load-version-requires-clause-inside c = let m = width_more c.args.at.form c.requires.at.some c.requires.at.form in omega arith

pub read-found-requires-clause-inside : goal.read-found-requires-clause-inside
read-found-requires-clause-inside c = let m = width_more c.args.at.form c.requires.at.some c.requires.at.form in (omega arith, omega arith)

pub load-last-requires-clause-inside : goal.load-last-requires-clause-inside
load-last-requires-clause-inside c = let m = width_more c.args.at.form c.requires.at.some c.requires.at.form in omega arith

pub child-child-requires-clause-at : goal.child-child-requires-clause-at
child-child-requires-clause-at c = record { at = c.load-version.ensures.at; some = c.requires.at.some; form = c.requires.at.form; level = c.requires.at.level }

pub returns-clause-look : goal.returns-clause-look
returns-clause-look c =
    let a = c.load-version.new.hand.me.0 in let w = c.child-child.new.hand.me.0 in let u = c.read-found.new.hand.me.0 in let b = c.load-last.new.hand.me.0 in
    let node : ℕ = c.args.at.node in let form : ℕ = c.args.at.form in
    let first : ℕ = c.child-child.result.first in let second : ℕ = c.child-child.result.second in
    let odd : c.load-version.result % 2 ≢ 1 = search rules in
    let last : c.load-last.result ≡ c.load-version.result = search rules in
    let here : c.read-found.result ≡ c.where_word-word.result = search rules in
    let no : c.goes_on-on.result ≡ false = search rules in
    let off : goes_on first second c.args.key ≡ false = sym c.goes_on-on.ensures.on ∙ no in
    let even : word_at a.seen.words node 0 % 2 ≡ 0 = (let e = c.load-version.ensures.found in omega arith) in
    let same : word_at b.seen.words node 0 ≡ word_at a.seen.words node 0 = sym c.load-last.ensures.found ∙ (last ∙ c.load-version.ensures.found) in
    let is = c.load-version.ensures.at.is in
    let wb = since_trans w.seen u.seen b.seen c.read-found.ensures.looks.since c.load-last.ensures.looks.since in
    let over : Still node form a w a.seen b.seen = record { before = since_refl a.seen; after = wb; is = is; even = even; same = same } in
    let then : Still node form w u a.seen b.seen = record { before = c.child-child.ensures.looks.since; after = c.load-last.ensures.looks.since; is = is; even = even; same = same } in
    let place : calm_at b.seen.calm node 1 ≡ where_of form c.args.at.level c.args.key = c.read-found.ensures.steady (calm_at b.seen.calm node) (still_agrees node form w u a.seen b.seen then) ∙ (here ∙ c.where_word-word.ensures.word) in
    let found : Found node form first second c.args.key (byte_at c.args.key c.args.at.level) a w =
    subst (λ (z : ℕ). Found node form first second c.args.key z a w) c.key_byte-byte.ensures.byte c.child-child.ensures.found in
    c.pair_value.ensures ∙ reads a w a.seen b.seen node form c.args.at.level c.args.key first second c.requires.at.some c.requires.at.form c.requires.at.level over place c.load-last.ensures.looks.sound found off

pub returns-then-found-word-clause-since : goal.returns-then-found-word-clause-since
returns-then-found-word-clause-since c = let v = c.args.hand.now.me.0.seen in let a = c.load-version.new.hand.me.0.seen in let w = c.child-child.new.hand.me.0.seen in let u = c.read-found.new.hand.me.0.seen in
    since_trans v a u c.load-version.ensures.looks.since (since_trans a w u c.child-child.ensures.looks.since c.read-found.ensures.looks.since)

pub returns-then-version-eq1-clause-since : goal.returns-then-version-eq1-clause-since
returns-then-version-eq1-clause-since c = let v = c.args.hand.now.me.0.seen in let a = c.load-version.new.hand.me.0.seen in let w = c.child-child.new.hand.me.0.seen in let u = c.read-found.new.hand.me.0.seen in
    since_trans v a u c.load-version.ensures.looks.since (since_trans a w u c.child-child.ensures.looks.since c.read-found.ensures.looks.since)

pub returns-then-last-version-clause-since : goal.returns-then-last-version-clause-since
returns-then-last-version-clause-since c = let v = c.args.hand.now.me.0.seen in let a = c.load-version.new.hand.me.0.seen in let w = c.child-child.new.hand.me.0.seen in let u = c.read-found.new.hand.me.0.seen in let b = c.load-last.new.hand.me.0.seen in
    since_trans v a b c.load-version.ensures.looks.since (since_trans a w b c.child-child.ensures.looks.since (since_trans w u b c.read-found.ensures.looks.since c.load-last.ensures.looks.since))

pub returns-clause-since : goal.returns-clause-since
returns-clause-since c = let v = c.args.hand.now.me.0.seen in let a = c.load-version.new.hand.me.0.seen in let w = c.child-child.new.hand.me.0.seen in let u = c.read-found.new.hand.me.0.seen in let b = c.load-last.new.hand.me.0.seen in
    since_trans v a b c.load-version.ensures.looks.since (since_trans a w b c.child-child.ensures.looks.since (since_trans w u b c.read-found.ensures.looks.since c.load-last.ensures.looks.since))

pub returns-clause-seen : goal.returns-clause-seen
returns-clause-seen c = let v = c.args.hand.now.me.0.seen in let a = c.load-version.new.hand.me.0.seen in let w = c.child-child.new.hand.me.0.seen in let u = c.read-found.new.hand.me.0.seen in let b = c.load-last.new.hand.me.0.seen in record {
  begin = a;
  after = c.load-version.ensures.looks.since;
  before = since_trans a w b c.child-child.ensures.looks.since (since_trans w u b c.read-found.ensures.looks.since c.load-last.ensures.looks.since);
  sound = c.load-version.ensures.looks.sound;
  tells = λ m sound since covers. inr tt;
}

pub returns-then-on-clause-seen : goal.returns-then-on-clause-seen
returns-then-on-clause-seen c =
    let a = c.load-version.new.hand.me.0 in let w = c.child-child.new.hand.me.0 in
    let first : ℕ = c.child-child.result.first in let second : ℕ = c.child-child.result.second in
    let level : ℕ = c.args.at.level in let key : ℕ = c.args.key in
    let yes : c.goes_on-on.result ≡ true = search rules in
    let on : goes_on first second key ≡ true = sym c.goes_on-on.ensures.on ∙ yes in
    let tags = c.goes_on-on.ensures.form yes in
    let found : Found c.args.at.node c.args.at.form first second key (byte_at key level) a w = subst (λ (z : ℕ). Found c.args.at.node c.args.at.form first second key z a w) c.key_byte-byte.ensures.byte c.child-child.ensures.found in
    record {
      begin = a.seen;
      after = c.load-version.ensures.looks.since;
      before = c.child-child.ensures.looks.since;
      sound = c.load-version.ensures.looks.sound;
      tells = λ m sound since covers. ⊎_elim (λ (d : IsDisturbed m w.seen). inl d)
          (λ e. inr (
            subst (λ (z : ℕ). level < z) (sym c.place_below.ensures.same_level) e.0,
            subst (λ (z : ℕ × ℕ × ℕ). where_at m.calm z.0 ≡ where_of z.1 z.2 key) (λ i. (sym c.place_below.ensures.node i, sym c.place_below.ensures.form i, sym c.place_below.ensures.same_level i)) e.1,
          ))
          (leads_down m c.args.at.node c.args.at.form level key c.requires.at.some c.requires.at.form c.requires.at.level sound covers a w first second since c.child-child.ensures.looks.since c.load-version.ensures.at found tags.0 tags.1 on);
    }

pub returns-then-found-word-clause-seen : goal.returns-then-found-word-clause-seen
returns-then-found-word-clause-seen c =
    let a = c.load-version.new.hand.me.0 in let w = c.child-child.new.hand.me.0 in let u = c.read-found.new.hand.me.0 in
    let ne : c.read-found.result ≢ c.where_word-word.result = search rules in
    record {
      begin = a.seen;
      after = c.load-version.ensures.looks.since;
      before = since_trans a.seen w.seen u.seen c.child-child.ensures.looks.since c.read-found.ensures.looks.since;
      sound = c.load-version.ensures.looks.sound;
      tells = λ m sound since covers. inl (other_word m c.args.at.node c.args.at.form c.args.at.level c.args.key c.requires.at.some c.requires.at.form c.requires.at.level sound covers w u c.read-found.result
          (since_trans m a.seen w.seen since c.child-child.ensures.looks.since) c.read-found.ensures.looks.since c.child-child.ensures.at c.read-found.ensures.steady (λ e. ne (e ∙ sym c.where_word-word.ensures.word)));
    }

pub returns-then-version-eq1-clause-seen : goal.returns-then-version-eq1-clause-seen
returns-then-version-eq1-clause-seen c =
    let a = c.load-version.new.hand.me.0 in let w = c.child-child.new.hand.me.0 in let u = c.read-found.new.hand.me.0 in
    let odd : c.load-version.result % 2 ≡ 1 = search rules in
    let rest = since_trans a.seen w.seen u.seen c.child-child.ensures.looks.since c.read-found.ensures.looks.since in
    record {
      begin = a.seen;
      after = c.load-version.ensures.looks.since;
      before = rest;
      sound = c.load-version.ensures.looks.sound;
      tells = λ m sound since covers. inl (was_odd m c.args.at.node c.args.at.form c.args.at.level c.args.key c.requires.at.some c.requires.at.form c.requires.at.level sound covers a.seen u.seen since rest
          (ap (λ (z : ℕ). z % 2) (sym c.load-version.ensures.found) ∙ odd));
    }

pub returns-then-last-version-clause-seen : goal.returns-then-last-version-clause-seen
returns-then-last-version-clause-seen c =
    let a = c.load-version.new.hand.me.0 in let w = c.child-child.new.hand.me.0 in let u = c.read-found.new.hand.me.0 in let b = c.load-last.new.hand.me.0 in
    let ne : c.load-last.result ≢ c.load-version.result = search rules in
    let rest = since_trans a.seen w.seen b.seen c.child-child.ensures.looks.since (since_trans w.seen u.seen b.seen c.read-found.ensures.looks.since c.load-last.ensures.looks.since) in
    record {
      begin = a.seen;
      after = c.load-version.ensures.looks.since;
      before = rest;
      sound = c.load-version.ensures.looks.sound;
      tells = λ m sound since covers. inl (two_versions m c.args.at.node c.args.at.form c.args.at.level c.args.key c.requires.at.some c.requires.at.form c.requires.at.level sound covers a.seen b.seen since rest
          (λ e. ne (c.load-last.ensures.found ∙ (e ∙ sym c.load-version.ensures.found))));
    }

pub returns-then-on-clause-since : goal.returns-then-on-clause-since
returns-then-on-clause-since c = let v = c.args.hand.now.me.0.seen in let a = c.load-version.new.hand.me.0.seen in let w = c.child-child.new.hand.me.0.seen in since_trans v a w c.load-version.ensures.looks.since c.child-child.ensures.looks.since
