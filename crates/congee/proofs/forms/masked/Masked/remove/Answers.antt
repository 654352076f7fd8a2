use Rattle.std.proofs.Common.{IsSome, length, sym, ap, ◌∙◌, subst, arith}
use Rattle.std.specs.FinMap as map
use Rattle.congee.proofs.lemmas.forms.MaskLemmas.{get_there, some_bit, some_count, removed_map}
use Rattle.congee.proofs.lemmas.forms.SortedLemmas.{refill_set}
use Rattle.congee.proofs.lemmas.forms.OffsetLemmas.{offset_fits}
use Rattle.congee.proofs.forms.masked.Masked.remove.Goals as goal

pub overflow_sub-self : goal.overflow_sub-self
overflow_sub-self g c = omega (arith, some_count c.self.invariant c.args.byte (subst (λ m. IsSome (map.get m c.args.byte)) (sym c.self.view_is) c.requires.present))

pub offset_bounds-deref_mut-byte : goal.offset_bounds-deref_mut-byte
offset_bounds-deref_mut-byte g c = offset_fits _ _ _ (omega (arith, ap length c.deref_mut.ensures.value, c.self.invariant.places)) c.deref_mut.type_inv.1

pub invariant_of-self : goal.invariant_of-self
invariant_of-self g c =
    let all = removed_map c.self.invariant c.args.byte c.take.new.dest c.clear.new.self.bytes (omega arith) (subst (λ m. IsSome (map.get m c.args.byte)) (sym c.self.view_is) c.requires.present) c.clear.ensures in
    rw (c.deref_mut.ensures.value, refill_set c.self.inside.children.items c.args.byte c.take.new.dest) all.0

pub returns-clause-before : goal.returns-clause-before
returns-clause-before g c =
    let e = get_there c.self.invariant c.args.byte c.index-deref_mut-byte.result (omega arith) (some_bit c.self.invariant c.args.byte (subst (λ m. IsSome (map.get m c.args.byte)) (sym c.self.view_is) c.requires.present)) in
    cc (e, c.self.view_is, c.deref_mut.ensures.value, c.take.ensures.value)

pub returns-clause-after : goal.returns-clause-after
returns-clause-after g c =
    let all = removed_map c.self.invariant c.args.byte c.take.new.dest c.clear.new.self.bytes (omega arith) (subst (λ m. IsSome (map.get m c.args.byte)) (sym c.self.view_is) c.requires.present) c.clear.ensures in
    rw (c.deref_mut.ensures.value, refill_set c.self.inside.children.items c.args.byte c.take.new.dest) all.1 ∙ ap (λ m. map.remove m c.args.byte) c.self.view_is
