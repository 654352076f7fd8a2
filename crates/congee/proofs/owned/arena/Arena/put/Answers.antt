use Rattle.std.proofs.Common.{rules, subst}
use Rattle.congee.specs.owned.Place.{EndsAt}
use Rattle.congee.specs.declared.owned.place.Spot.{Spot}
use Rattle.congee.proofs.lemmas.owned.Appending.{ends_held, ends_parts}
use Rattle.congee.proofs.lemmas.owned.Freeing.{swap_adds}
use Rattle.congee.proofs.lemmas.owned.Wanting.{ends_wants_held, ends_wants_free, ends_wants_apart}
use Rattle.congee.proofs.lemmas.owned.Ways.{below_stands}
use Rattle.congee.proofs.owned.arena.Arena.put.Goals as goal

pub replace-requires-clause-held : goal.replace-requires-clause-held
replace-requires-clause-held g c = ends_held c.args.self.now.nodes c.args.key.now c.args.place c.requires.ends c.in-Held.is

pub add-requires-clause-free : goal.add-requires-clause-free
add-requires-clause-free g c = let E : Spot → Type 0 = λ x. EndsAt c.args.self.now.nodes c.args.key.now c.args.place.at x in subst E c.in-Free.is c.requires.ends.ends

pub split-requires-clause-parts : goal.split-requires-clause-parts
split-requires-clause-parts g c = ends_parts c.args.self.now.nodes c.args.key.now c.args.place c.in-Apart.below c.requires.ends c.in-Apart.is

pub split-requires-clause-stands : goal.split-requires-clause-stands
split-requires-clause-stands g c =
    let p = ends_parts c.args.self.now.nodes c.args.key.now c.args.place c.in-Apart.below c.requires.ends c.in-Apart.is in
    below_stands c.args.self.now.nodes c.requires.tree c.args.place.at c.in-Apart.below c.args.key.now p.way.stands p.hangs

pub returns-in-Held-clause-adds : goal.returns-in-Held-clause-adds
returns-in-Held-clause-adds g c = rw (ends_wants_held c.args.self.now.nodes c.args.key.now c.args.place c.requires.tree c.requires.ends c.in-Held.is) (swap_adds g.A.Allocator.charged_of g.A.Allocator.limit_of c.args.self.now c.replace.new.self c.args.key.now _ c.args.value c.replace.ensures)

pub returns-in_ok-add-in-Free-clause-adds : goal.returns-in_ok-add-in-Free-clause-adds
returns-in_ok-add-in-Free-clause-adds g c = rw (ends_wants_free c.args.self.now.nodes c.args.key.now c.args.place c.requires.tree c.requires.ends c.in-Free.is) (search rules)

pub returns-in_err-add-in-Free-clause-refused : goal.returns-in_err-add-in-Free-clause-refused
returns-in_err-add-in-Free-clause-refused g c = rw (ends_wants_free c.args.self.now.nodes c.args.key.now c.args.place c.requires.tree c.requires.ends c.in-Free.is) (search rules)

pub returns-in_ok-split-in-Apart-clause-adds : goal.returns-in_ok-split-in-Apart-clause-adds
returns-in_ok-split-in-Apart-clause-adds g c = rw (ends_wants_apart c.args.self.now.nodes c.args.key.now c.args.place c.in-Apart.below c.requires.tree c.requires.ends c.in-Apart.is) (search rules)

pub returns-in_err-split-in-Apart-clause-refused : goal.returns-in_err-split-in-Apart-clause-refused
returns-in_err-split-in-Apart-clause-refused g c = rw (ends_wants_apart c.args.self.now.nodes c.args.key.now c.args.place c.in-Apart.below c.requires.tree c.requires.ends c.in-Apart.is) (search rules)
