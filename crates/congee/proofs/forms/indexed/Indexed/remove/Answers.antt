use Rattle.std.proofs.Common.{length, IsSome, sym, ap, ◌∙◌, subst, arith}
use Rattle.std.specs.FinMap as map
use Rattle.std.proofs.lemmas.Option.{slice_get-get_or}
use Rattle.congee.specs.forms.Index.{place_of}
use Rattle.congee.proofs.lemmas.forms.IndexLemmas.{present_place, some_count, get_is, removed_map}
use Rattle.congee.proofs.lemmas.forms.SortedLemmas.{refill_set}
use Rattle.congee.proofs.lemmas.forms.OffsetLemmas.{offset_fits}
use Rattle.congee.proofs.forms.indexed.Indexed.remove.Goals as goal

pub remove-place-requires-clause-present : goal.remove-place-requires-clause-present
remove-place-requires-clause-present g c = present_place c.self.invariant c.args.byte (omega arith) (subst (λ m. IsSome (map.get m c.args.byte)) (sym c.self.view_is) c.requires.present)

pub remove-place-requires-clause-some : goal.remove-place-requires-clause-some
remove-place-requires-clause-some g c = some_count c.self.invariant c.args.byte (subst (λ m. IsSome (map.get m c.args.byte)) (sym c.self.view_is) c.requires.present)

pub offset_bounds-deref_mut-place : goal.offset_bounds-deref_mut-place
offset_bounds-deref_mut-place g c =
    let within = present_place c.self.invariant c.args.byte (omega arith) (subst (λ m. IsSome (map.get m c.args.byte)) (sym c.self.view_is) c.requires.present) in
    offset_fits _ _ _ (omega (arith, within, c.remove-place.ensures.place, ap length c.deref_mut.ensures.value, c.self.invariant.places)) c.deref_mut.type_inv.1

pub bounds-deref_mut-place : goal.bounds-deref_mut-place
bounds-deref_mut-place g c =
    let within = present_place c.self.invariant c.args.byte (omega arith) (subst (λ m. IsSome (map.get m c.args.byte)) (sym c.self.view_is) c.requires.present) in
    omega (arith, within, c.remove-place.ensures.place, ap length c.deref_mut.ensures.value, c.self.invariant.places)

pub invariant_of-self : goal.invariant_of-self
invariant_of-self g c =
    let all = removed_map c.self.invariant c.args.byte c.take.new.dest c.remove-place.new.self (omega arith) (subst (λ m. IsSome (map.get m c.args.byte)) (sym c.self.view_is) c.requires.present) c.remove-place.ensures.places c.remove-place.ensures.ok c.remove-place.ensures.len in
    rw (c.deref_mut.ensures.value, c.remove-place.ensures.place, refill_set c.self.inside.children.items (place_of c.self.inside.index c.args.byte) c.take.new.dest) all.0

pub returns-clause-before : goal.returns-clause-before
returns-clause-before g c =
    let within = present_place c.self.invariant c.args.byte (omega arith) (subst (λ m. IsSome (map.get m c.args.byte)) (sym c.self.view_is) c.requires.present) in
    let e = get_is c.self.invariant c.args.byte (omega arith) in
    let read = slice_get-get_or c.self.inside.children.items (place_of c.self.inside.index c.args.byte) c.index-deref_mut-place.result (omega (arith, within, c.self.invariant.places)) in
    cc (e, read, c.self.view_is, c.remove-place.ensures.place, c.deref_mut.ensures.value, c.take.ensures.value)

pub returns-clause-after : goal.returns-clause-after
returns-clause-after g c =
    let all = removed_map c.self.invariant c.args.byte c.take.new.dest c.remove-place.new.self (omega arith) (subst (λ m. IsSome (map.get m c.args.byte)) (sym c.self.view_is) c.requires.present) c.remove-place.ensures.places c.remove-place.ensures.ok c.remove-place.ensures.len in
    rw (c.deref_mut.ensures.value, c.remove-place.ensures.place, refill_set c.self.inside.children.items (place_of c.self.inside.index c.args.byte) c.take.new.dest) all.1 ∙ ap (λ m. map.remove m c.args.byte) c.self.view_is
