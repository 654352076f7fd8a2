use Rattle.std.proofs.Common.{◌≡◌, ◌≢◌, ℕ, get_or, ap, sym, ◌∙◌, arith}
use Rattle.optimistic.specs.Layout.{room, byte_at}
use Rattle.optimistic.specs.forms.Children.{first_of, second_of, byte_in}
use Rattle.optimistic.proofs.lemmas.tree.Reading.{agrees_from, agrees_to}
use Rattle.optimistic.proofs.lemmas.tree.RunsBack.{back_entry, back_in}
use Rattle.optimistic.proofs.lemmas.words.Moments.{since_refl}
use Rattle.optimistic.proofs.tree.get.Tree.back_bit_here.Goals as goal

-- a node that isn't of 256 isn't one of 256 children
narrow_form : (form : ℕ) → room form ≢ 256 → form ≢ 4
narrow_form form narrow e = narrow (ap (λ (z : ℕ). room z) e)

pub entry-child-requires-clause-inside : goal.entry-child-requires-clause-inside
entry-child-requires-clause-inside c =
    let narrow : room c.args.at.form ≢ 256 = λ e. absurd (omega (arith, e, c.if-room_of-eq256.false, c.room_of.ensures)) in
    c.requires.within narrow c.args.byte (omega arith) (c.requires.set (narrow_form c.args.at.form narrow))

pub returns-then-room_of-eq256-clause-shows : goal.returns-then-room_of-eq256-clause-shows
returns-then-room_of-eq256-clause-shows c a l has =
    let w = c.back_bit_wide.new.hand.me.0 in
    back_in c.args.at c.args.from c.back_bit_wide.result a c.args.hand.now.me.0 w w l c.back_bit_wide.ensures.shows (since_refl w.seen)

pub returns-clause-shows : goal.returns-clause-shows
returns-clause-shows c a l has =
    let at = c.args.at in
    let v = c.args.hand.now.me.0 in
    let w = c.entry-child.new.hand.me.0 in
    let byte : ℕ = c.args.byte in
    let narrow : room at.form ≢ 256 = λ e. absurd (omega (arith, e, c.if-room_of-eq256.false, c.room_of.ensures)) in
    let n4 = narrow_form at.form narrow in
    let p : ℕ = get_or c.args.places.now byte 0 in
    back_entry at c.args.from a w c.requires.at.level c.entry-child.result.first c.entry-child.result.second c.back_bit_of.result
    (λ f ag is k.
    let t = (has n4).1 narrow f (agrees_to at.node at.form a v w f ag c.entry-child.ensures.looks.since) is byte (omega arith) (c.requires.set n4) in
    let e = c.entry-child.ensures.found f (agrees_from at.node at.form a v w f ag l) is t.0 k in
    let b : byte_in at.form f p ≡ byte_at c.args.from at.level = t.1 ∙ c.requires.byte in
    (ap (λ (z : ℕ). first_of at.form f k z) (sym b) ∙ e.0, ap (λ (z : ℕ). second_of at.form f k z) (sym b) ∙ e.1))
    c.back_bit_of.ensures.bit
