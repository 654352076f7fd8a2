use Rattle.std.proofs.Common.{length, ap, ◌∙◌, arith}
use Rattle.std.specs.FinMap as map
use Rattle.congee.proofs.lemmas.forms.IndexLemmas.{absent_place, inserted_map}
use Rattle.congee.proofs.lemmas.forms.SortedLemmas.{refill_set}
use Rattle.congee.proofs.lemmas.forms.OffsetLemmas.{offset_fits}
use Rattle.congee.proofs.forms.indexed.Indexed.insert.Goals as goal

pub insert-place-requires-clause-absent : goal.insert-place-requires-clause-absent
insert-place-requires-clause-absent g c = absent_place c.self.invariant c.args.child c.args.byte (omega arith) (ap (λ m. map.get m c.args.byte) c.self.view_is ∙ c.requires.absent)

pub insert-place-requires-clause-room : goal.insert-place-requires-clause-room
insert-place-requires-clause-room g c = omega (arith, c.self.invariant.index.counted, c.self.invariant.count, ap map.len c.self.view_is, c.requires.room)

pub offset_bounds-deref_mut-place : goal.offset_bounds-deref_mut-place
offset_bounds-deref_mut-place g c = offset_fits _ _ _ (omega (arith, c.insert-place.ensures.within, ap length c.deref_mut.ensures.value, c.self.invariant.places)) c.deref_mut.type_inv.1

pub invariant_of-self : goal.invariant_of-self
invariant_of-self g c =
    let all = inserted_map c.self.invariant c.args.byte c.insert-place.result c.args.child c.insert-place.new.self (omega arith) (ap (λ m. map.get m c.args.byte) c.self.view_is ∙ c.requires.absent) c.insert-place.ensures.within c.insert-place.ensures.places c.insert-place.ensures.fresh c.insert-place.ensures.ok c.insert-place.ensures.len in
    rw (c.deref_mut.ensures.value, refill_set c.self.inside.children.items c.insert-place.result c.args.child) all.0

pub returns : goal.returns
returns g c =
    let all = inserted_map c.self.invariant c.args.byte c.insert-place.result c.args.child c.insert-place.new.self (omega arith) (ap (λ m. map.get m c.args.byte) c.self.view_is ∙ c.requires.absent) c.insert-place.ensures.within c.insert-place.ensures.places c.insert-place.ensures.fresh c.insert-place.ensures.ok c.insert-place.ensures.len in
    rw (c.deref_mut.ensures.value, refill_set c.self.inside.children.items c.insert-place.result c.args.child) all.1 ∙ ap (λ m. map.insert m c.args.byte c.args.child) c.self.view_is
