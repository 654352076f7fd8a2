use Rattle.std.proofs.Common.{◌≡◌, ◌-◌, [], sym, ap, ◌∙◌, arith}
use Rattle.std.specs.FinMap as map
use Rattle.std.specs.List.{slice_get}
use Rattle.std.proofs.lemmas.Option.{slice_get_past}
use Rattle.congee.specs.forms.Bytes.{between}
use Rattle.congee.specs.forms.Forms.{children_of}
use Rattle.congee.proofs.lemmas.forms.BetweenLemmas.{between_none, between_all, first_byte, one_passed, first_there}
use Rattle.congee.proofs.forms.base_node.Node.child_at.Goals as goal

pub returns-then-i-len : goal.returns-then-i-len
returns-then-i-len g c = sym (slice_get_past (map.entries (children_of c.args.self.now)) c.args.i (omega (arith, c.if-i-len.true, c.len.ensures.count, map.len-entries (children_of c.args.self.now))))

pub loop-passed-init : goal.loop-passed-init
loop-passed-init g c =
    let e : c.args.i - 0 ≡ c.args.i = omega arith in
    ap (slice_get (between 0 255 (map.entries (children_of c.args.self.now)))) e ∙ ap (λ es. slice_get es c.args.i) (between_all (children_of c.args.self.now) c.len.ensures.bytes)

pub returns-in-None : goal.returns-in-None
returns-in-None g c =
    let none : between c.loop-passed.from 255 (map.entries (children_of c.args.self.now)) ≡ [] = between_none (children_of c.args.self.now) c.loop-passed.from 255 (λ q l m. c.in-None.ensures q l) in
    ap (λ es. slice_get es (c.args.i - c.loop-passed._passed)) (sym none) ∙ c.loop-passed.invariant

pub loop-passed-preserved : goal.loop-passed-preserved
loop-passed-preserved g c = one_passed (children_of c.args.self.now) c.loop-passed.from c.in-Some.byte c.args.i c.loop-passed._passed c.in-Some.field-0-1.now _ c.in-Some.ensures (first_byte _ _ _ _ c.len.ensures.bytes c.in-Some.ensures) c.loop-passed-test.true c.loop-passed.invariant

pub returns : goal.returns
returns g c =
    let e : c.args.i - c.loop-passed._passed ≡ 0 = omega (arith, c.loop-passed-test.false) in
    first_there (λ r. r.0) (λ r. r.1.now) c.first_from-2.result (children_of c.args.self.now) c.loop-passed.from c.len.ensures.bytes c.first_from-2.ensures
    ∙ ap (slice_get (between c.loop-passed.from 255 (map.entries (children_of c.args.self.now)))) (sym e) ∙ c.loop-passed.invariant
