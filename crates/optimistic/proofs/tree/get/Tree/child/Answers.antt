use Rattle.std.proofs.Common.{◌≡◌, ℕ, rules, sym, subst}
use Rattle.optimistic.specs.tree.Reads.{Found}
use Rattle.optimistic.proofs.tree.get.Tree.child.Goals as goal

pub returns-in-1-clause-found : goal.returns-in-1-clause-found
returns-in-1-clause-found c = subst (λ (z : ℕ). Found c.args.at.node z c.child_of_four.result.first c.child_of_four.result.second c.args.key c.args.byte c.args.hand.now.me.0 c.child_of_four.new.hand.me.0) (sym c.in-1.is) c.child_of_four.ensures.found

pub returns-in-2-clause-found : goal.returns-in-2-clause-found
returns-in-2-clause-found c = subst (λ (z : ℕ). Found c.args.at.node z c.child_of_sixteen.result.first c.child_of_sixteen.result.second c.args.key c.args.byte c.args.hand.now.me.0 c.child_of_sixteen.new.hand.me.0) (sym c.in-2.is) c.child_of_sixteen.ensures.found

pub returns-in-3-clause-found : goal.returns-in-3-clause-found
returns-in-3-clause-found c = subst (λ (z : ℕ). Found c.args.at.node z c.child_of_forty_eight.result.first c.child_of_forty_eight.result.second c.args.key c.args.byte c.args.hand.now.me.0 c.child_of_forty_eight.new.hand.me.0) (sym c.in-3.is) c.child_of_forty_eight.ensures.found

pub returns-in-4-clause-found : goal.returns-in-4-clause-found
returns-in-4-clause-found c = subst (λ (z : ℕ). Found c.args.at.node z c.child_of_wide.result.first c.child_of_wide.result.second c.args.key c.args.byte c.args.hand.now.me.0 c.child_of_wide.new.hand.me.0) (sym c.in-4.is) c.child_of_wide.ensures.found

pub returns-in-5-clause-found : goal.returns-in-5-clause-found
returns-in-5-clause-found c = subst (λ (z : ℕ). Found c.args.at.node z c.value_of_four.result.first c.value_of_four.result.second c.args.key c.args.byte c.args.hand.now.me.0 c.value_of_four.new.hand.me.0) (sym c.in-5.is) c.value_of_four.ensures.found

pub returns-in-6-clause-found : goal.returns-in-6-clause-found
returns-in-6-clause-found c = subst (λ (z : ℕ). Found c.args.at.node z c.value_of_sixteen.result.first c.value_of_sixteen.result.second c.args.key c.args.byte c.args.hand.now.me.0 c.value_of_sixteen.new.hand.me.0) (sym c.in-6.is) c.value_of_sixteen.ensures.found

pub returns-in-7-clause-found : goal.returns-in-7-clause-found
returns-in-7-clause-found c = subst (λ (z : ℕ). Found c.args.at.node z c.value_of_forty_eight.result.first c.value_of_forty_eight.result.second c.args.key c.args.byte c.args.hand.now.me.0 c.value_of_forty_eight.new.hand.me.0) (sym c.in-7.is) c.value_of_forty_eight.ensures.found

pub returns-in_default-clause-found : goal.returns-in_default-clause-found
returns-in_default-clause-found c = let l = c.requires.at.form in let s = c.requires.at.some in let eight : c.args.at.form ≡ 8 = search rules in subst (λ (z : ℕ). Found c.args.at.node z c.value_of_wide.result.first c.value_of_wide.result.second c.args.key c.args.byte c.args.hand.now.me.0 c.value_of_wide.new.hand.me.0) (sym eight) c.value_of_wide.ensures.found
