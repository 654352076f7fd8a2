use Rattle.std.proofs.Common.{sym, ap, ◌∙◌, subst}
use Rattle.optimistic.specs.declared.tree.place.Place.{Place}
use Rattle.optimistic.specs.forms.Children.{is_inner}
use Rattle.optimistic.specs.tree.Exchanges.{LetsPairGo}
use Rattle.optimistic.proofs.lemmas.words.Moments.{since_trans}
use Rattle.optimistic.proofs.lemmas.tree.Blank.{free_since}
use Rattle.optimistic.proofs.lemmas.tree.Holding.{pair_back, tried_later}
use Rattle.optimistic.proofs.tree.get.Tree.try_replace.Goals as goal

pub replace_fresh-requires-clause-form : goal.replace_fresh-requires-clause-form
replace_fresh-requires-clause-form c = (c.requires.form.0, c.requires.form.1, c.requires.form.2 ∙ ap (λ (p : Place). is_inner p.form) (sym c.in-Had.ensures.both.1))

pub replace_fresh-requires-clause-names : goal.replace_fresh-requires-clause-names
replace_fresh-requires-clause-names c = free_since c.args.free.now c.args.hand.now.me.0 c.lock_both.new.hand.me.0 c.requires.names c.in-Had.ensures.both.2.since

pub returns-in-Had-clause-since : goal.returns-in-Had-clause-since
returns-in-Had-clause-since c = since_trans c.args.hand.now.me.0.seen c.lock_both.new.hand.me.0.seen c.replace_fresh.new.hand.me.0.seen c.in-Had.ensures.both.2.since c.replace_fresh.ensures.since

pub returns-in-Had-clause-set : goal.returns-in-Had-clause-set
returns-in-Had-clause-set c =
    tried_later c.args.write.key c.args.write.value c.replace_fresh.result c.args.hand.now.me.0 c.lock_both.new.hand.me.0 c.replace_fresh.new.hand.me.0 c.in-Had.ensures.both.2.keeps.0 c.replace_fresh.ensures.set

pub returns-in-Had-clause-no_more : goal.returns-in-Had-clause-no_more
returns-in-Had-clause-no_more c =
    let b = c.in-Had.ensures.both in
    let w = c.lock_both.new.hand.me.0 in
    let z = c.replace_fresh.new.hand.me.0 in
    pair_back c.args.above.node c.args.old.node c.args.hand.now.me.0 w z b.3
    (subst (λ (p : Place × Place). LetsPairGo p.0.node p.1.node w z) (λ i. (b.0 i, b.1 i)) c.replace_fresh.ensures.lets_go)

pub returns-in-Busy-clause-names : goal.returns-in-Busy-clause-names
returns-in-Busy-clause-names c = free_since c.args.free.now c.args.hand.now.me.0 c.lock_both.new.hand.me.0 c.requires.names c.in-Busy.ensures.both.1

pub returns-in-Exhausted-clause-names : goal.returns-in-Exhausted-clause-names
returns-in-Exhausted-clause-names c = free_since c.args.free.now c.args.hand.now.me.0 c.lock_both.new.hand.me.0 c.requires.names c.in-Exhausted.ensures.both.1
