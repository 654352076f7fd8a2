use Rattle.std.proofs.Common.{IsSome, sym, ap, ◌∙◌, subst, arith}
use Rattle.std.specs.FinMap as map
use Rattle.congee.proofs.lemmas.forms.MaskLemmas.{get_there, some_bit, changed_map}
use Rattle.congee.proofs.lemmas.forms.SortedLemmas.{refill_set}
use Rattle.congee.proofs.forms.masked.Masked.change.Goals as goal

pub invariant_of-self : goal.invariant_of-self
invariant_of-self g c =
    let all = changed_map c.self.invariant c.args.byte c.args.child (omega arith) (subst (λ m. IsSome (map.get m c.args.byte)) (sym c.self.view_is) c.requires.present) in
    rw (c.deref_mut.ensures.value, c.replace.ensures.after, refill_set c.self.inside.children.items c.args.byte c.args.child) all.0

pub returns-clause-before : goal.returns-clause-before
returns-clause-before g c =
    let e = get_there c.self.invariant c.args.byte c.index-deref_mut-byte.result (omega arith) (some_bit c.self.invariant c.args.byte (subst (λ m. IsSome (map.get m c.args.byte)) (sym c.self.view_is) c.requires.present)) in
    cc (e, c.self.view_is, c.deref_mut.ensures.value, c.replace.ensures.value)

pub returns-clause-after : goal.returns-clause-after
returns-clause-after g c =
    let all = changed_map c.self.invariant c.args.byte c.args.child (omega arith) (subst (λ m. IsSome (map.get m c.args.byte)) (sym c.self.view_is) c.requires.present) in
    rw (c.deref_mut.ensures.value, c.replace.ensures.after, refill_set c.self.inside.children.items c.args.byte c.args.child) all.1 ∙ ap (λ m. map.insert m c.args.byte c.args.child) c.self.view_is
