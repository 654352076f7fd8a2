use Rattle.std.proofs.Common.{◌≡◌, ◌≢◌, ℕ, ◌+◌, ◌*◌, ◌-◌, ◌^◌, ◌%◌, rules, sym, ap, ◌∙◌, subst, arith}
use Rattle.optimistic.specs.declared.drain.nexts.Next.{Next}
use Rattle.optimistic.specs.Layout.{where_of}
use Rattle.optimistic.specs.tree.Reads.{Steady}
use Rattle.optimistic.specs.tree.Sights.{Reaches}
use Rattle.optimistic.proofs.lemmas.tree.Alone.{asked_other, asked_odd, asked_told}
use Rattle.optimistic.proofs.lemmas.tree.Reading.{looks_trans}
use Rattle.optimistic.proofs.lemmas.tree.Setting.{place_since}
use Rattle.optimistic.proofs.lemmas.tree.Sights.{sight_down, sight_there}
use Rattle.optimistic.proofs.lemmas.words.Moments.{since_refl, width_more}
use Rattle.optimistic.proofs.tree.get.Tree.back_sight_at.Goals as goal

pub load-version-requires-clause-at : goal.load-version-requires-clause-at
load-version-requires-clause-at c = c.requires.at.at

pub load-version-requires-clause-inside : goal.load-version-requires-clause-inside
load-version-requires-clause-inside c = let m = width_more c.args.at.form c.requires.at.some c.requires.at.form in omega arith

pub back_at-back-requires-clause-at : goal.back_at-back-requires-clause-at
back_at-back-requires-clause-at c = place_since c.args.at c.args.hand.now.me.0 c.load-version.new.hand.me.0 c.load-version.ensures.looks.since c.requires.at

pub read-found-requires-clause-at : goal.read-found-requires-clause-at
read-found-requires-clause-at c =
    (place_since c.args.at c.load-version.new.hand.me.0 c.back_at-back.new.hand.me.0 c.back_at-back.ensures.looks.since (place_since c.args.at c.args.hand.now.me.0 c.load-version.new.hand.me.0 c.load-version.ensures.looks.since c.requires.at)).at

pub read-found-requires-clause-inside : goal.read-found-requires-clause-inside
read-found-requires-clause-inside c = let m = width_more c.args.at.form c.requires.at.some c.requires.at.form in (omega arith, omega arith)

pub returns-in-Down-clause-looks : goal.returns-in-Down-clause-looks
returns-in-Down-clause-looks c = looks_trans _ _ _ c.load-version.ensures.looks c.back_at-back.ensures.looks

pub returns-in-Down-clause-sight : goal.returns-in-Down-clause-sight
returns-in-Down-clause-sight c = (
  c.back_at-back.ensures.back,
  sight_down c.args.at c.load-version.result c.back_at-back.result.from c.back_at-back.result.next c.load-version.new.hand.me.0 c.back_at-back.new.hand.me.0 (place_since c.args.at c.args.hand.now.me.0 c.load-version.new.hand.me.0 c.load-version.ensures.looks.since c.requires.at) c.load-version.ensures.found c.back_at-back.ensures.looks
      c.back_at-back.ensures.knows c.in-Down.field-0 c.in-Down.is,
)

pub returns-then-found-word-clause-looks : goal.returns-then-found-word-clause-looks
returns-then-found-word-clause-looks c = looks_trans _ _ _ c.load-version.ensures.looks (looks_trans _ _ _ c.back_at-back.ensures.looks c.read-found.ensures.looks)

pub returns-then-version-eq1-clause-looks : goal.returns-then-version-eq1-clause-looks
returns-then-version-eq1-clause-looks c = looks_trans _ _ _ c.load-version.ensures.looks (looks_trans _ _ _ c.back_at-back.ensures.looks c.read-found.ensures.looks)

pub returns-clause-looks : goal.returns-clause-looks
returns-clause-looks c = looks_trans _ _ _ c.load-version.ensures.looks (looks_trans _ _ _ c.back_at-back.ensures.looks c.read-found.ensures.looks)

pub returns-clause-sight : goal.returns-clause-sight
returns-clause-sight c =
    let at = c.args.at in
    let from : ℕ = c.back_at-back.result.from in
    let a = c.load-version.new.hand.me.0 in
    let u = c.back_at-back.new.hand.me.0 in
    let w = c.read-found.new.hand.me.0 in
    let odd : c.load-version.result % 2 ≢ 1 = search rules in
    let here : c.read-found.result ≡ c.where_word-word.result = search rules in
    let even : c.load-version.result % 2 ≡ 0 = omega (arith, odd) in
    let covers : Steady at.node at.form 1 (where_of at.form at.level from) u w = subst (λ (z : ℕ). Steady at.node at.form 1 z u w) (here ∙ c.where_word-word.ensures.word) c.read-found.ensures.steady in (
      c.back_at-back.ensures.back,
      sight_there at c.load-version.result from c.back_at-back.result.next a u (place_since c.args.at c.args.hand.now.me.0 c.load-version.new.hand.me.0 c.load-version.ensures.looks.since c.requires.at) c.load-version.ensures.found c.back_at-back.ensures.looks c.back_at-back.ensures.knows
          w even c.read-found.ensures.looks c.back_at-back.ensures.shows covers,
    )

pub returns-in-Down-clause-asked : goal.returns-in-Down-clause-asked
returns-in-Down-clause-asked c =
    let x = c.back_at-back.new.hand.me.0 in
    asked_told c.args.at c.args.to c.load-version.result c.args.hand.now.me.0 c.load-version.new.hand.me.0 c.back_at-back.new.hand.me.0 x c.requires.at c.load-version.ensures.looks c.load-version.ensures.at c.load-version.ensures.found c.back_at-back.ensures.looks.since (since_refl x.seen) c.back_at-back.result.from c.back_at-back.result.next (λ p e. subst (λ (n : Next). Reaches c.args.to c.back_at-back.result.from n) e c.back_at-back.ensures.back.1) c.back_at-back.ensures.shows

pub returns-clause-asked : goal.returns-clause-asked
returns-clause-asked c = asked_told c.args.at c.args.to c.load-version.result c.args.hand.now.me.0 c.load-version.new.hand.me.0 c.back_at-back.new.hand.me.0 c.read-found.new.hand.me.0 c.requires.at c.load-version.ensures.looks c.load-version.ensures.at c.load-version.ensures.found c.back_at-back.ensures.looks.since c.read-found.ensures.looks.since c.back_at-back.result.from c.back_at-back.result.next (λ p e. subst (λ (n : Next). Reaches c.args.to c.back_at-back.result.from n) e c.back_at-back.ensures.back.1) c.back_at-back.ensures.shows

pub returns-then-found-word-clause-asked : goal.returns-then-found-word-clause-asked
returns-then-found-word-clause-asked c =
    let at = c.args.at in
    let ne : c.read-found.result ≢ c.where_word-word.result = search rules in
    let near : where_of at.form at.level c.back_at-back.result.from ≡ where_of at.form at.level c.args.to = ap (λ (z : ℕ). z * 2 ^ (64 - 8 * at.level) + 8 * at.form + at.level) c.back_at-back.ensures.near in
    asked_other c.args.at c.args.to c.load-version.result c.args.hand.now.me.0 c.load-version.new.hand.me.0 c.back_at-back.new.hand.me.0 c.read-found.new.hand.me.0 c.requires.at c.load-version.ensures.looks c.load-version.ensures.at c.load-version.ensures.found c.back_at-back.ensures.looks.since c.read-found.ensures.looks.since c.read-found.result c.read-found.ensures.steady (λ e. ne (e ∙ (sym near ∙ sym c.where_word-word.ensures.word)))

pub returns-then-version-eq1-clause-asked : goal.returns-then-version-eq1-clause-asked
returns-then-version-eq1-clause-asked c =
    let odd : c.load-version.result % 2 ≡ 1 = search rules in
    asked_odd c.args.at c.args.to c.load-version.result c.args.hand.now.me.0 c.load-version.new.hand.me.0 c.back_at-back.new.hand.me.0 c.read-found.new.hand.me.0 c.requires.at c.load-version.ensures.looks c.load-version.ensures.at c.load-version.ensures.found c.back_at-back.ensures.looks.since c.read-found.ensures.looks.since odd
