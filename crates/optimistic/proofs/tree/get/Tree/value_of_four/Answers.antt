use Rattle.std.proofs.Common.{◌≡◌, ℕ, ◌+◌, ◌/◌, ◌^◌, eqb, if◌then◌else◌, refl, sym, ap, ◌∙◌, arith}
use Rattle.std.specs.Int.{bit_at}
use Rattle.optimistic.specs.forms.Children.{first_of}
use Rattle.optimistic.specs.Layout.{width, leaf_of}
use Rattle.optimistic.proofs.lemmas.tree.Reading.{looks_trans, agrees_from, agrees_to, taken_first}
use Rattle.optimistic.proofs.tree.get.Tree.value_of_four.Goals as goal

pub read-word-requires-clause-inside : goal.read-word-requires-clause-inside
unfolding width
read-word-requires-clause-inside c = (omega arith, omega arith)

pub lone-requires-clause-inside : goal.lone-requires-clause-inside
unfolding width
lone-requires-clause-inside c = let l = c.in-Some.ensures.inside in (omega arith, omega arith)

pub returns-in-Some-clause-looks : goal.returns-in-Some-clause-looks
returns-in-Some-clause-looks c = (looks_trans c.args.hand.now.me.0 c.read-word.new.hand.me.0 c.lone.new.hand.me.0 c.read-word.ensures.looks c.lone.ensures.looks)

pub returns-in-Some-clause-found : goal.returns-in-Some-clause-found
returns-in-Some-clause-found c f ag is =
    let r0 = c.read-word.ensures.steady f (agrees_to c.args.node 5 c.args.hand.now.me.0 c.read-word.new.hand.me.0 c.lone.new.hand.me.0 f ag c.lone.ensures.looks.since) in
    let s = c.in-Some.ensures.finds 5 f refl r0 is in
    let second : f (3 + c.in-Some.place) ≡ c.lone.result.second = c.lone.ensures.second f (agrees_from c.args.node 5 c.args.hand.now.me.0 c.read-word.new.hand.me.0 c.lone.new.hand.me.0 f ag c.read-word.ensures.looks) in
    let first : first_of 5 f c.args.key c.args.byte ≡ c.lone.result.first = s.first c.args.key ∙ (ap (λ (z : ℕ). if eqb (bit_at (z / 2 ^ 32) c.in-Some.place) 1 then leaf_of c.args.key else 0) r0 ∙ (taken_first (bit_at (c.read-word.result / 2 ^ 32) c.in-Some.place) c.has_bit.result c.args.key c.has_bit.ensures ∙ sym c.lone.ensures.first)) in
    (first, λ ne. s.second c.args.key (λ e. ne (sym first ∙ e)) ∙ second)

pub returns-in-None-clause-found : goal.returns-in-None-clause-found
returns-in-None-clause-found c f ag is =
    let r0 = c.read-word.ensures.steady f ag in
    let s = c.in-None.ensures.finds 5 f refl r0 is in (s.first c.args.key, λ ne. absurd (ne refl))
