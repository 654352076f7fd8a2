use Rattle.std.proofs.Common.{◌≡◌, ℕ, subst, inl, inr, arith}
use Rattle.std.proofs.lemmas.Bool.{cases_lt}
use Rattle.optimistic.specs.Layout.{room}
use Rattle.optimistic.specs.words.Told.{HasForm}
use Rattle.optimistic.proofs.lemmas.MoveLemmas.{wide_room, wide_inner, wide_values}
use Rattle.optimistic.proofs.lemmas.tree.Setting.{room_some}
use Rattle.optimistic.proofs.tree.get.Tree.bytes.Goals as goal

pub bytes_of_four-requires-clause-form : goal.bytes_of_four-requires-clause-form
bytes_of_four-requires-clause-form c = omega (arith, c.room_of.ensures)

pub bytes_of_sixteen-requires-clause-form : goal.bytes_of_sixteen-requires-clause-form
bytes_of_sixteen-requires-clause-form c = omega (arith, c.room_of.ensures)

pub bytes_of_forty_eight-requires-clause-form : goal.bytes_of_forty_eight-requires-clause-form
bytes_of_forty_eight-requires-clause-form c = omega (arith, c.room_of.ensures)

-- a node of 256 that has no child words
values : (form : ℕ) → room form ≡ 256 → (form ≡ 4 → ⊥) → form ≡ 8
values form wide apart = elim (cases_lt form 5) [
  | inl low ↦ absurd (apart (wide_inner form wide low))
  | inr high ↦ wide_values form wide high
]

pub bytes_of_values-requires-clause-at : goal.bytes_of_values-requires-clause-at
bytes_of_values-requires-clause-at c =
    let wide = wide_room c.args.at.form (room_some c.args.at.form c.requires.at.some c.requires.at.form) (λ (e : room c.args.at.form ≡ 4). absurd (omega (arith, e, c.room_of.ensures))) (λ (e : room c.args.at.form ≡ 16). absurd (omega (arith, e, c.room_of.ensures)))
    (λ (e : room c.args.at.form ≡ 48). absurd (omega (arith, e, c.room_of.ensures))) in
    subst (λ (z : ℕ). HasForm c.args.at.node z c.args.hand.now.me.0) (values c.args.at.form wide c.requires.form) c.requires.at.at
