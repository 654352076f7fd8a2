use Rattle.std.proofs.Common.{◌≡◌, ◌≢◌, ℕ, ◌%◌, rules, sym, refl, ◌∙◌, subst, arith}
use Rattle.optimistic.specs.Layout.{where_of}
use Rattle.optimistic.specs.tree.Reads.{Steady}
use Rattle.optimistic.proofs.lemmas.tree.Alone.{asked_other, asked_odd, asked_told, dated}
use Rattle.optimistic.proofs.lemmas.tree.Reading.{looks_trans}
use Rattle.optimistic.proofs.lemmas.tree.Setting.{place_since}
use Rattle.optimistic.proofs.lemmas.tree.Sights.{sight_down, sight_there}
use Rattle.optimistic.proofs.lemmas.words.Moments.{since_refl, since_trans, width_more}
use Rattle.optimistic.proofs.tree.get.Tree.sight_at.Goals as goal

pub load-version-requires-clause-at : goal.load-version-requires-clause-at
load-version-requires-clause-at c = c.requires.at.at

pub load-version-requires-clause-inside : goal.load-version-requires-clause-inside
load-version-requires-clause-inside c = let m = width_more c.args.at.form c.requires.at.some c.requires.at.form in omega arith

pub next_at-next-requires-clause-at : goal.next_at-next-requires-clause-at
next_at-next-requires-clause-at c = place_since c.args.at c.args.hand.now.me.0 c.load-version.new.hand.me.0 c.load-version.ensures.looks.since c.requires.at

pub read-found-requires-clause-at : goal.read-found-requires-clause-at
read-found-requires-clause-at c =
    (place_since c.args.at c.load-version.new.hand.me.0 c.next_at-next.new.hand.me.0 c.next_at-next.ensures.looks.since (place_since c.args.at c.args.hand.now.me.0 c.load-version.new.hand.me.0 c.load-version.ensures.looks.since c.requires.at)).at

pub read-found-requires-clause-inside : goal.read-found-requires-clause-inside
read-found-requires-clause-inside c = let m = width_more c.args.at.form c.requires.at.some c.requires.at.form in (omega arith, omega arith)

pub returns-in-Down-clause-looks : goal.returns-in-Down-clause-looks
returns-in-Down-clause-looks c = looks_trans _ _ _ c.load-version.ensures.looks c.next_at-next.ensures.looks

pub returns-in-Down-clause-sight : goal.returns-in-Down-clause-sight
returns-in-Down-clause-sight c =
    sight_down c.args.at c.load-version.result c.args.from c.next_at-next.result c.load-version.new.hand.me.0 c.next_at-next.new.hand.me.0 (place_since c.args.at c.args.hand.now.me.0 c.load-version.new.hand.me.0 c.load-version.ensures.looks.since c.requires.at) c.load-version.ensures.found c.next_at-next.ensures.looks
    c.next_at-next.ensures.knows c.in-Down.field-0 c.in-Down.is

pub returns-then-found-word-clause-looks : goal.returns-then-found-word-clause-looks
returns-then-found-word-clause-looks c = looks_trans _ _ _ c.load-version.ensures.looks (looks_trans _ _ _ c.next_at-next.ensures.looks c.read-found.ensures.looks)

pub returns-then-version-eq1-clause-looks : goal.returns-then-version-eq1-clause-looks
returns-then-version-eq1-clause-looks c = looks_trans _ _ _ c.load-version.ensures.looks (looks_trans _ _ _ c.next_at-next.ensures.looks c.read-found.ensures.looks)

pub returns-clause-looks : goal.returns-clause-looks
returns-clause-looks c = looks_trans _ _ _ c.load-version.ensures.looks (looks_trans _ _ _ c.next_at-next.ensures.looks c.read-found.ensures.looks)

pub returns-clause-sight : goal.returns-clause-sight
returns-clause-sight c =
    let at = c.args.at in
    let a = c.load-version.new.hand.me.0 in
    let u = c.next_at-next.new.hand.me.0 in
    let w = c.read-found.new.hand.me.0 in
    let odd : c.load-version.result % 2 ≢ 1 = search rules in
    let here : c.read-found.result ≡ c.where_word-word.result = search rules in
    let even : c.load-version.result % 2 ≡ 0 = omega (arith, odd) in
    let covers : Steady at.node at.form 1 (where_of at.form at.level c.args.from) u w =
    subst (λ (z : ℕ). Steady at.node at.form 1 z u w) (here ∙ c.where_word-word.ensures.word) c.read-found.ensures.steady in
    sight_there at c.load-version.result c.args.from c.next_at-next.result a u (place_since c.args.at c.args.hand.now.me.0 c.load-version.new.hand.me.0 c.load-version.ensures.looks.since c.requires.at) c.load-version.ensures.found c.next_at-next.ensures.looks c.next_at-next.ensures.knows
    w even c.read-found.ensures.looks c.next_at-next.ensures.shows covers

pub returns-in-Down-clause-asked : goal.returns-in-Down-clause-asked
returns-in-Down-clause-asked c =
    let x = c.next_at-next.new.hand.me.0 in
    asked_told c.args.at c.args.from c.load-version.result c.args.hand.now.me.0 c.load-version.new.hand.me.0 c.next_at-next.new.hand.me.0 x c.requires.at c.load-version.ensures.looks c.load-version.ensures.at c.load-version.ensures.found c.next_at-next.ensures.looks.since (since_refl x.seen) c.args.from c.next_at-next.result (λ _ _. refl) c.next_at-next.ensures.shows

pub returns-clause-asked : goal.returns-clause-asked
returns-clause-asked c = asked_told c.args.at c.args.from c.load-version.result c.args.hand.now.me.0 c.load-version.new.hand.me.0 c.next_at-next.new.hand.me.0 c.read-found.new.hand.me.0 c.requires.at c.load-version.ensures.looks c.load-version.ensures.at c.load-version.ensures.found c.next_at-next.ensures.looks.since c.read-found.ensures.looks.since c.args.from c.next_at-next.result (λ _ _. refl) c.next_at-next.ensures.shows

pub returns-then-found-word-clause-asked : goal.returns-then-found-word-clause-asked
returns-then-found-word-clause-asked c =
    let ne : c.read-found.result ≢ c.where_word-word.result = search rules in
    asked_other c.args.at c.args.from c.load-version.result c.args.hand.now.me.0 c.load-version.new.hand.me.0 c.next_at-next.new.hand.me.0 c.read-found.new.hand.me.0 c.requires.at c.load-version.ensures.looks c.load-version.ensures.at c.load-version.ensures.found c.next_at-next.ensures.looks.since c.read-found.ensures.looks.since c.read-found.result c.read-found.ensures.steady (λ e. ne (e ∙ sym c.where_word-word.ensures.word))

pub returns-then-version-eq1-clause-asked : goal.returns-then-version-eq1-clause-asked
returns-then-version-eq1-clause-asked c =
    let odd : c.load-version.result % 2 ≡ 1 = search rules in
    asked_odd c.args.at c.args.from c.load-version.result c.args.hand.now.me.0 c.load-version.new.hand.me.0 c.next_at-next.new.hand.me.0 c.read-found.new.hand.me.0 c.requires.at c.load-version.ensures.looks c.load-version.ensures.at c.load-version.ensures.found c.next_at-next.ensures.looks.since c.read-found.ensures.looks.since odd

pub returns-in-Down-clause-dated : goal.returns-in-Down-clause-dated
returns-in-Down-clause-dated c =
    dated c.args.at.node c.args.at.form c.load-version.result c.args.hand.now.me.0.seen c.load-version.new.hand.me.0 c.next_at-next.new.hand.me.0.seen c.requires.at.some c.requires.at.form c.load-version.ensures.at c.load-version.ensures.looks.since c.next_at-next.ensures.looks.since c.load-version.ensures.found

pub returns-clause-dated : goal.returns-clause-dated
returns-clause-dated c =
    dated c.args.at.node c.args.at.form c.load-version.result c.args.hand.now.me.0.seen c.load-version.new.hand.me.0 c.read-found.new.hand.me.0.seen c.requires.at.some c.requires.at.form c.load-version.ensures.at c.load-version.ensures.looks.since
    (since_trans c.load-version.new.hand.me.0.seen c.next_at-next.new.hand.me.0.seen c.read-found.new.hand.me.0.seen c.next_at-next.ensures.looks.since c.read-found.ensures.looks.since) c.load-version.ensures.found
