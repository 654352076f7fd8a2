use Rattle.std.proofs.Common.{ℕ, le_refl, subst, sym}
use Rattle.optimistic.specs.declared.drain.nexts.Next.{Next}
use Rattle.optimistic.specs.declared.tree.place.Place.{Place}
use Rattle.optimistic.specs.tree.Alone.{IsDated}
use Rattle.optimistic.specs.tree.Sights.{Holds, Knows}
use Rattle.optimistic.proofs.lemmas.tree.Alone.{sought_down}
use Rattle.optimistic.proofs.lemmas.tree.Anew.{gives_here}
use Rattle.optimistic.proofs.tree.get.Tree.look_anew.Goals as goal

pub returns-in-Here-clause-run : goal.returns-in-Here-clause-run
returns-in-Here-clause-run c =
    (c.run_of_sight.ensures.run c.args.from c.args.places c.sight.new.hand.me.0 c.requires.order (le_refl c.args.from) c.requires.room.0 c.in-Some.ensures.sight
    (λ log h. gives_here c.args.from c.in-Here.value log (subst (λ (n : Next). Holds log c.args.from n) c.in-Here.is h))).0

pub returns-in-Here-clause-later : goal.returns-in-Here-clause-later
returns-in-Here-clause-later c =
    (c.run_of_sight.ensures.run c.args.from c.args.places c.sight.new.hand.me.0 c.requires.order (le_refl c.args.from) c.requires.room.0 c.in-Some.ensures.sight
    (λ log h. gives_here c.args.from c.in-Here.value log (subst (λ (n : Next). Holds log c.args.from n) c.in-Here.is h))).1

pub returns-in-After-clause-run : goal.returns-in-After-clause-run
returns-in-After-clause-run c =
    let reach = subst (λ (n : Next). Knows c.args.from n c.sight.new.hand.me.0) c.in-After.is c.in-Some.ensures.sight.below in
    (c.run_of_sight-in-After.ensures.run c.args.from c.args.places c.sight.new.hand.me.0 c.requires.order reach c.requires.room.0 c.in-Some.ensures.sight
    (λ log h. subst (λ (n : Next). Holds log c.args.from n) c.in-After.is h)).0

pub returns-in-After-clause-later : goal.returns-in-After-clause-later
returns-in-After-clause-later c =
    let reach = subst (λ (n : Next). Knows c.args.from n c.sight.new.hand.me.0) c.in-After.is c.in-Some.ensures.sight.below in
    (c.run_of_sight-in-After.ensures.run c.args.from c.args.places c.sight.new.hand.me.0 c.requires.order reach c.requires.room.0 c.in-Some.ensures.sight
    (λ log h. subst (λ (n : Next). Holds log c.args.from n) c.in-After.is h)).1

pub returns-in-Here-clause-dated : goal.returns-in-Here-clause-dated
returns-in-Here-clause-dated c = let e = c.run_of_sight.ensures.same in
    subst (λ (z : Place × ℕ). IsDated z.0.node z.1 c.args.hand.now.me.0.seen c.sight.new.hand.me.0.seen) (λ i. (sym e.0 i, sym e.1 i)) c.in-Some.ensures.dated

pub returns-in-After-clause-dated : goal.returns-in-After-clause-dated
returns-in-After-clause-dated c = let e = c.run_of_sight-in-After.ensures.same in
    subst (λ (z : Place × ℕ). IsDated z.0.node z.1 c.args.hand.now.me.0.seen c.sight.new.hand.me.0.seen) (λ i. (sym e.0 i, sym e.1 i)) c.in-Some.ensures.dated

pub returns-in-Down-clause-alone : goal.returns-in-Down-clause-alone
returns-in-Down-clause-alone c = sought_down c.in-Some.sight c.in-Down.field-0 c.args.hand.now.me.0 c.sight.new.hand.me.0 c.in-Down.is c.in-Some.ensures.sought
