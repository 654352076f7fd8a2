use Rattle.std.proofs.Common.{length, IsSome, sym, ap, ◌∙◌, subst, arith}
use Rattle.std.specs.FinMap as map
use Rattle.std.proofs.lemmas.Option.{slice_get-get_or}
use Rattle.congee.specs.forms.Index.{place_of}
use Rattle.congee.proofs.lemmas.forms.IndexLemmas.{present_place, get_is, changed_map}
use Rattle.congee.proofs.lemmas.forms.SortedLemmas.{refill_set}
use Rattle.congee.proofs.lemmas.forms.OffsetLemmas.{offset_fits}
use Rattle.congee.proofs.forms.indexed.Indexed.change.Goals as goal

pub offset_bounds-deref_mut-place : goal.offset_bounds-deref_mut-place
offset_bounds-deref_mut-place g c =
    let within = present_place c.self.invariant c.args.byte (omega arith) (subst (λ m. IsSome (map.get m c.args.byte)) (sym c.self.view_is) c.requires.present) in
    offset_fits _ _ _ (omega (arith, within, c.place-place.ensures, ap length c.deref_mut.ensures.value, c.self.invariant.places)) c.deref_mut.type_inv.1

pub bounds-deref_mut-place : goal.bounds-deref_mut-place
bounds-deref_mut-place g c =
    let within = present_place c.self.invariant c.args.byte (omega arith) (subst (λ m. IsSome (map.get m c.args.byte)) (sym c.self.view_is) c.requires.present) in
    omega (arith, within, c.place-place.ensures, ap length c.deref_mut.ensures.value, c.self.invariant.places)

pub invariant_of-self : goal.invariant_of-self
invariant_of-self g c =
    let all = changed_map c.self.invariant c.args.byte c.args.child (omega arith) (subst (λ m. IsSome (map.get m c.args.byte)) (sym c.self.view_is) c.requires.present) in
    rw (c.deref_mut.ensures.value, c.replace.ensures.after, c.place-place.ensures, refill_set c.self.inside.children.items (place_of c.self.inside.index c.args.byte) c.args.child) all.0

pub returns-clause-before : goal.returns-clause-before
returns-clause-before g c =
    let within = present_place c.self.invariant c.args.byte (omega arith) (subst (λ m. IsSome (map.get m c.args.byte)) (sym c.self.view_is) c.requires.present) in
    let e = get_is c.self.invariant c.args.byte (omega arith) in
    let read = slice_get-get_or c.self.inside.children.items (place_of c.self.inside.index c.args.byte) c.index-deref_mut-place.result (omega (arith, within, c.self.invariant.places)) in
    cc (e, read, c.self.view_is, c.place-place.ensures, c.deref_mut.ensures.value, c.replace.ensures.value)

pub returns-clause-after : goal.returns-clause-after
returns-clause-after g c =
    let all = changed_map c.self.invariant c.args.byte c.args.child (omega arith) (subst (λ m. IsSome (map.get m c.args.byte)) (sym c.self.view_is) c.requires.present) in
    rw (c.deref_mut.ensures.value, c.replace.ensures.after, c.place-place.ensures, refill_set c.self.inside.children.items (place_of c.self.inside.index c.args.byte) c.args.child) all.1 ∙ ap (λ m. map.insert m c.args.byte c.args.child) c.self.view_is
