use Rattle.std.proofs.Common.{◌≡◌, ℕ, ◌<◌, true, false, sym, ◌∙◌, arith}
use Rattle.optimistic.specs.Layout.{room, width}
use Rattle.optimistic.specs.forms.Children.{first_word, last_word}
use Rattle.optimistic.specs.Moves.{words_of}
use Rattle.optimistic.proofs.lemmas.forms.PlaceLemmas.{first_inside, last_inside}
use Rattle.optimistic.proofs.lemmas.MoveLemmas.{byte_wide, looks_word, looks_trans, looks_mine}
use Rattle.optimistic.proofs.lemmas.forms.FormLemmas.{byte_like}
use Rattle.optimistic.proofs.moves.load_item.Goals as goal

pub is_taken-taken-requires-clause-of : goal.is_taken-taken-requires-clause-of
is_taken-taken-requires-clause-of g c = c.requires.of

pub is_taken-taken-requires-clause-at : goal.is_taken-taken-requires-clause-at
is_taken-taken-requires-clause-at g c = c.requires.at

pub is_taken-taken-requires-clause-inside : goal.is_taken-taken-requires-clause-inside
is_taken-taken-requires-clause-inside g c = c.requires.inside

pub is_taken-taken-requires-clause-mine : goal.is_taken-taken-requires-clause-mine
is_taken-taken-requires-clause-mine g c = c.requires.mine

pub returns-then-not-taken-clause-item : goal.returns-then-not-taken-clause-item
returns-then-not-taken-clause-item g c = λ t. let e : true ≡ false = sym (c.is_taken-taken.ensures.taken.1 t) ∙ c.if-not-taken.true in absurd (cc)

pub load_entry-wide-requires-clause-mine : goal.load_entry-wide-requires-clause-mine
load_entry-wide-requires-clause-mine g c = looks_mine _ _ _ c.args.node c.is_taken-taken.ensures.looks c.requires.mine

pub byte_of_place-byte-requires-clause-inside : goal.byte_of_place-byte-requires-clause-inside
byte_of_place-byte-requires-clause-inside g c = (c.requires.inside, λ (e : room c.args.form ≡ 256). absurd (omega (arith, e, c.room_of.ensures)))

pub byte_of_place-byte-requires-clause-mine : goal.byte_of_place-byte-requires-clause-mine
byte_of_place-byte-requires-clause-mine g c = looks_mine _ _ _ c.args.node c.is_taken-taken.ensures.looks c.requires.mine

pub load_entry-entry-requires-clause-mine : goal.load_entry-entry-requires-clause-mine
load_entry-entry-requires-clause-mine g c = looks_mine _ _ _ c.args.node c.byte_of_place-byte.ensures.looks (looks_mine _ _ _ c.args.node c.is_taken-taken.ensures.looks c.requires.mine)

pub returns-then-room_of-eq256-clause-looks : goal.returns-then-room_of-eq256-clause-looks
returns-then-room_of-eq256-clause-looks g c = looks_trans _ _ _ _ c.is_taken-taken.ensures.looks c.load_entry-wide.ensures.looks

pub returns-then-room_of-eq256-clause-item : goal.returns-then-room_of-eq256-clause-item
returns-then-room_of-eq256-clause-item g c =
    let n = c.args.node in
    let f = c.args.form in
    let p = c.args.place in
    let v = c.args.hand.now.me.0 in
    let a = c.is_taken-taken.ensures.looks in
    let r : room f ≡ 256 = omega (arith, c.room_of.ensures) in
    let back = λ (j : ℕ) (l : j < width f). looks_word _ n f j v c.is_taken-taken.new.hand.me.0 c.requires.at c.requires.mine l a in (
      c.is_taken-taken.ensures.taken.0 c.if-not-taken.false,
      byte_wide f (words_of v n) p r ∙ sym c.load_entry-wide.ensures.entry.0,
      sym (back (first_word f p) (first_inside f p c.requires.inside)) ∙ c.load_entry-wide.ensures.entry.1,
      sym (back (last_word f p) (last_inside f p c.requires.inside)) ∙ c.load_entry-wide.ensures.entry.2,
    )

pub returns-then-room_of-eq256-clause-tells : goal.returns-then-room_of-eq256-clause-tells
returns-then-room_of-eq256-clause-tells g c = c.load_entry-wide.ensures.tells

pub returns-clause-looks : goal.returns-clause-looks
returns-clause-looks g c = looks_trans _ _ _ _ (looks_trans _ _ _ _ c.is_taken-taken.ensures.looks c.byte_of_place-byte.ensures.looks) c.load_entry-entry.ensures.looks

pub returns-clause-tells : goal.returns-clause-tells
returns-clause-tells g c = c.load_entry-entry.ensures.tells

pub returns-clause-item : goal.returns-clause-item
returns-clause-item g c =
    let n = c.args.node in
    let f = c.args.form in
    let p = c.args.place in
    let v = c.args.hand.now.me.0 in
    let a = c.is_taken-taken.ensures.looks in
    let b = looks_trans _ _ _ _ a c.byte_of_place-byte.ensures.looks in
    let back = λ (j : ℕ) (l : j < width f). looks_word _ n f j v c.byte_of_place-byte.new.hand.me.0 c.requires.at c.requires.mine l b in (
      c.is_taken-taken.ensures.taken.0 c.if-not-taken.false,
      sym (c.load_entry-entry.ensures.entry.0 ∙ (c.byte_of_place-byte.ensures.byte ∙ byte_like f (words_of v n) (words_of c.is_taken-taken.new.hand.me.0 n) (λ j l m. looks_word _ n f j v c.is_taken-taken.new.hand.me.0 c.requires.at c.requires.mine m a) p c.requires.inside)),
      sym (back (first_word f p) (first_inside f p c.requires.inside)) ∙ c.load_entry-entry.ensures.entry.1,
      sym (back (last_word f p) (last_inside f p c.requires.inside)) ∙ c.load_entry-entry.ensures.entry.2,
    )
