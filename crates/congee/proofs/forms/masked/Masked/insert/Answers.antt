use Rattle.std.proofs.Common.{ap, ◌∙◌, arith}
use Rattle.std.specs.FinMap as map
use Rattle.congee.proofs.lemmas.forms.MaskLemmas.{count_fits, inserted_map}
use Rattle.congee.proofs.lemmas.forms.SortedLemmas.{refill_set}
use Rattle.congee.proofs.forms.masked.Masked.insert.Goals as goal

pub overflow_add-self : goal.overflow_add-self
overflow_add-self g c = omega (arith, count_fits c.self.invariant)

pub invariant_of-self : goal.invariant_of-self
invariant_of-self g c =
    let all = inserted_map c.self.invariant c.args.byte c.args.child c.set.new.self.bytes (omega arith) (ap (λ m. map.get m c.args.byte) c.self.view_is ∙ c.requires.absent) c.set.ensures in
    rw (c.deref_mut.ensures.value, refill_set c.self.inside.children.items c.args.byte c.args.child) all.0

pub returns : goal.returns
returns g c =
    let all = inserted_map c.self.invariant c.args.byte c.args.child c.set.new.self.bytes (omega arith) (ap (λ m. map.get m c.args.byte) c.self.view_is ∙ c.requires.absent) c.set.ensures in
    rw (c.deref_mut.ensures.value, refill_set c.self.inside.children.items c.args.byte c.args.child) all.1 ∙ ap (λ m. map.insert m c.args.byte c.args.child) c.self.view_is
