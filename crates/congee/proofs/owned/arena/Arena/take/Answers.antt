use Rattle.std.proofs.Common.{rules, ◌≡◌, true, false, sym, ap, subst, ◌∙◌, arith}
use Rattle.std.specs.Prelude.{Some, None}
use Rattle.congee.specs.owned.Arena.{Hangs, heap_of}
use Rattle.congee.specs.owned.Edits.{Frees}
use Rattle.congee.specs.owned.Going.{going_last}
use Rattle.congee.proofs.lemmas.owned.FullSteps.{read_shrinks}
use Rattle.congee.proofs.lemmas.owned.Answered.{located_held, located_hangs}
use Rattle.congee.proofs.lemmas.owned.Goings.{located_goes_held}
use Rattle.congee.proofs.lemmas.owned.Moves.{node_at}
use Rattle.congee.proofs.lemmas.owned.Removing.{going_alone, going_beside, seen_count}
use Rattle.congee.proofs.owned.arena.Arena.take.Goals as goal

pub take_in_place-requires-clause-held : goal.take_in_place-requires-clause-held
take_in_place-requires-clause-held g c = located_held c.args.self.now.nodes c.args.key.now c.args.place.now c.requires.tree c.requires.located c.requires.held

pub take_in_place-requires-clause-others : goal.take_in_place-requires-clause-others
take_in_place-requires-clause-others g c = λ x e one.
    let stays : c.stays_as_is.result ≡ true = search rules in
    omega (arith, (c.stays_as_is.ensures.0 stays).0, c.len-count.ensures.count x e, one)

pub take_in_place-requires-clause-stays : goal.take_in_place-requires-clause-stays
take_in_place-requires-clause-stays g c = λ x e.
    let stays : c.stays_as_is.result ≡ true = search rules in
    read_shrinks x c.node_type.result c.len-count.result (c.node_type.ensures x e) (c.len-count.ensures.count x e) (c.stays_as_is.ensures.0 stays).1

pub returns-then-stays_as_is : goal.returns-then-stays_as_is
returns-then-stays_as_is g c =
    let s = c.args.self.now.nodes in
    let p = c.args.place.now in
    let stays : c.stays_as_is.result ≡ true = search rules in
    let x = node_at s p.at c.requires.located.reached.way.stands in
    let beside = going_beside (heap_of s) p.above p.at (λ e. omega (arith, (c.stays_as_is.ensures.0 stays).0, c.len-count.ensures.count x.0 x.1, seen_count s p.at x.0 x.1, e)) in
    let going = located_goes_held s c.args.key.now p c.requires.tree c.requires.located c.requires.held ∙ ap Some beside in
    subst (λ z. Frees g.A.Allocator.charged_of g.A.Allocator.limit_of c.args.self.now c.take_in_place.new.self c.args.key.now (Some c.take_in_place.result) None z) (sym going) c.take_in_place.ensures

pub take_value-requires-clause-held : goal.take_value-requires-clause-held
take_value-requires-clause-held g c = located_held c.args.self.now.nodes c.args.key.now c.args.place.now c.requires.tree c.requires.located c.requires.held

pub take_value-requires-clause-hangs : goal.take_value-requires-clause-hangs
take_value-requires-clause-hangs g c = located_hangs c.args.self.now.nodes c.args.key.now c.args.place.now c.requires.tree c.requires.located c.requires.held

pub take_value-requires-clause-others : goal.take_value-requires-clause-others
take_value-requires-clause-others g c = λ x e one. c.if-count-ne1.true (c.len-count.ensures.count x e ∙ one)

pub returns-then-count-ne1 : goal.returns-then-count-ne1
returns-then-count-ne1 g c =
    let s = c.args.self.now.nodes in
    let p = c.args.place.now in
    let x = node_at s p.at c.requires.located.reached.way.stands in
    let going = located_goes_held s c.args.key.now p c.requires.tree c.requires.located c.requires.held ∙ ap Some (going_beside (heap_of s) p.above p.at (λ e. c.if-count-ne1.true (c.len-count.ensures.count x.0 x.1 ∙ (sym (seen_count s p.at x.0 x.1) ∙ e)))) in
    subst (λ z. Frees g.A.Allocator.charged_of g.A.Allocator.limit_of c.args.self.now c.take_value.new.self c.args.key.now (Some c.take_value.result) None z) (sym going) c.take_value.ensures

pub drop_last-requires-clause-held : goal.drop_last-requires-clause-held
drop_last-requires-clause-held g c = located_held c.args.self.now.nodes c.args.key.now c.args.place.now c.requires.tree c.requires.located c.requires.held

pub drop_last-requires-clause-hangs : goal.drop_last-requires-clause-hangs
drop_last-requires-clause-hangs g c =
    let root : c.is_root.result ≡ true = search rules in
    subst (λ z. Hangs c.args.self.now.nodes c.args.key.now z c.args.place.now.at) (c.is_root.ensures.0 root) (located_hangs c.args.self.now.nodes c.args.key.now c.args.place.now c.requires.tree c.requires.located c.requires.held)

pub drop_last-requires-clause-last : goal.drop_last-requires-clause-last
drop_last-requires-clause-last g c = λ x e. sym (c.len-count.ensures.count x e) ∙ c.if-count-ne1.false

pub returns-then-is_root : goal.returns-then-is_root
returns-then-is_root g c =
    let s = c.args.self.now.nodes in
    let p = c.args.place.now in
    let root : c.is_root.result ≡ true = search rules in
    let x = node_at s p.at c.requires.located.reached.way.stands in
    let alone = going_alone (heap_of s) p.above p.at (seen_count s p.at x.0 x.1 ∙ (sym (c.len-count.ensures.count x.0 x.1) ∙ c.if-count-ne1.false)) in
    let going = located_goes_held s c.args.key.now p c.requires.tree c.requires.located c.requires.held ∙ ap Some (alone ∙ ap (λ z. going_last (heap_of s p.at) z (heap_of s z)) (c.is_root.ensures.0 root)) in
    subst (λ z. Frees g.A.Allocator.charged_of g.A.Allocator.limit_of c.args.self.now c.drop_last.new.self c.args.key.now (Some c.drop_last.result) None z) (sym going) c.drop_last.ensures

pub collapse-requires-clause-held : goal.collapse-requires-clause-held
collapse-requires-clause-held g c = located_held c.args.self.now.nodes c.args.key.now c.args.place.now c.requires.tree c.requires.located c.requires.held

pub collapse-requires-clause-hangs : goal.collapse-requires-clause-hangs
collapse-requires-clause-hangs g c = located_hangs c.args.self.now.nodes c.args.key.now c.args.place.now c.requires.tree c.requires.located c.requires.held

pub collapse-requires-clause-higher : goal.collapse-requires-clause-higher
collapse-requires-clause-higher g c =
    let no : c.is_root.result ≡ false = search rules in
    c.requires.located.higher.hangs (λ e. let z : false ≡ true = sym no ∙ c.is_root.ensures.1 e in cc)

pub collapse-requires-clause-last : goal.collapse-requires-clause-last
collapse-requires-clause-last g c = λ x e. sym (c.len-count.ensures.count x e) ∙ c.if-count-ne1.false

pub collapse-requires-clause-two : goal.collapse-requires-clause-two
collapse-requires-clause-two g c = λ x e. sym (c.len.ensures.count x e) ∙ c.if-len-eq2.true

pub returns-then-len-eq2 : goal.returns-then-len-eq2
returns-then-len-eq2 g c =
    let s = c.args.self.now.nodes in
    let p = c.args.place.now in
    let x = node_at s p.at c.requires.located.reached.way.stands in
    let alone = going_alone (heap_of s) p.above p.at (seen_count s p.at x.0 x.1 ∙ (sym (c.len-count.ensures.count x.0 x.1) ∙ c.if-count-ne1.false)) in
    let going = located_goes_held s c.args.key.now p c.requires.tree c.requires.located c.requires.held ∙ ap Some alone in
    subst (λ z. Frees g.A.Allocator.charged_of g.A.Allocator.limit_of c.args.self.now c.collapse.new.self c.args.key.now (Some c.collapse.result) None z) (sym going) c.collapse.ensures

pub thin_out-requires-clause-held : goal.thin_out-requires-clause-held
thin_out-requires-clause-held g c = located_held c.args.self.now.nodes c.args.key.now c.args.place.now c.requires.tree c.requires.located c.requires.held

pub thin_out-requires-clause-hangs : goal.thin_out-requires-clause-hangs
thin_out-requires-clause-hangs g c = located_hangs c.args.self.now.nodes c.args.key.now c.args.place.now c.requires.tree c.requires.located c.requires.held

pub thin_out-requires-clause-last : goal.thin_out-requires-clause-last
thin_out-requires-clause-last g c = λ x e. sym (c.len-count.ensures.count x e) ∙ c.if-count-ne1.false

pub thin_out-requires-clause-inner : goal.thin_out-requires-clause-inner
thin_out-requires-clause-inner g c =
    let no : c.is_root.result ≡ false = search rules in
    λ e. let z : false ≡ true = sym no ∙ c.is_root.ensures.1 e in cc

pub thin_out-requires-clause-more : goal.thin_out-requires-clause-more
thin_out-requires-clause-more g c = λ x e two. c.if-len-eq2.false (c.len.ensures.count x e ∙ two)

pub returns : goal.returns
returns g c =
    let s = c.args.self.now.nodes in
    let p = c.args.place.now in
    let x = node_at s p.at c.requires.located.reached.way.stands in
    let alone = going_alone (heap_of s) p.above p.at (seen_count s p.at x.0 x.1 ∙ (sym (c.len-count.ensures.count x.0 x.1) ∙ c.if-count-ne1.false)) in
    let going = located_goes_held s c.args.key.now p c.requires.tree c.requires.located c.requires.held ∙ ap Some alone in
    subst (λ z. Frees g.A.Allocator.charged_of g.A.Allocator.limit_of c.args.self.now c.thin_out.new.self c.args.key.now (Some c.thin_out.result) None z) (sym going) c.thin_out.ensures
