use Rattle.std.proofs.Common.{◌≡◌, None, false, refl, sym, ◌∙◌, arith}
use Rattle.std.specs.Arc.{arc_value}
use Rattle.congee.proofs.lemmas.owned.Contents.{denied_branch, denied_bytes, denied_tree, found_at}
use Rattle.congee.proofs.lemmas.owned.Keying.{denied_keyed, keyed_change}
use Rattle.congee.proofs.lemmas.owned.OwnerCalls.{mapped_none, owner_computes, owner_refuses}
use Rattle.congee.proofs.owned.congee_arc.CongeeArc.compute_or_insert.Goals as goal

pub returns-in_default-clause-refused : goal.returns-in_default-clause-refused
returns-in_default-clause-refused g c = rw (← c.to_word-word.ensures.number) (c.in_default.ensures.refused, refl)

pub returns-in-Ok-insert-clause-inserts : goal.returns-in-Ok-insert-clause-inserts
returns-in-Ok-insert-clause-inserts g c =
    let k = c.to_word-word.result in
    let bytes = c.bytes_of_key-bytes in
    let adds = c.in-Ok-insert.ensures.adds in
    let was = found_at c.self.inside.arena k bytes.ensures.small bytes.result bytes.ensures.bytes c.in-Ok-insert.before (sym adds.edits.change.was) in
    let told = owner_computes _ _ c.self.inside.arena c.insert.new.self c.self.invariant.1 refl k bytes.ensures.small bytes.result bytes.ensures.bytes c.in-Ok-insert.before c.new.result adds in
    let given = rw (← c.self.view_is) at c.in-Ok.ensures.value in
    rw (← c.self.view_is, ← c.to_word-word.ensures.number, c.owner_of.ensures) (c.in-Ok.given, c.f-value.result, given ∙ sym was, c.f-value.ensures, rw c.new.ensures at told)

pub invariant_of-self : goal.invariant_of-self
invariant_of-self g c =
    let adds = c.in-Ok-insert.ensures.adds in
    (adds.edits.tree, omega (arith, adds.edits.balance, c.self.invariant.1), adds.filled false c.self.invariant.2, keyed_change _ _ _ c.bytes_of_key-bytes.ensures.small _ c.bytes_of_key-bytes.ensures.bytes _ _ adds.edits.change c.self.invariant.3, c.insert.ensures.counted)

pub invariant_of-self-2 : goal.invariant_of-self-2
invariant_of-self-2 g c =
    let refused = c.in-Err.ensures.refused in (
      denied_tree _ _ _ _ _ _ _ _ c.self.invariant.0 refused,
      omega (arith, denied_bytes _ _ _ _ _ _ _ _ refused, refused.balance, c.self.invariant.1),
      denied_branch _ _ _ _ _ _ _ _ refused c.self.invariant.2,
      denied_keyed _ _ _ _ _ _ _ _ refused c.self.invariant.3,
      c.insert.ensures.counted,
    )

pub returns-clause-refused : goal.returns-clause-refused
returns-clause-refused g c =
    let k = c.to_word-word.result in
    let bytes = c.bytes_of_key-bytes in
    let refused = c.in-Err.ensures.refused in
    let told = owner_refuses _ _ c.self.inside.arena c.insert.new.self c.self.invariant.1 refl k bytes.ensures.small bytes.result bytes.ensures.bytes c.new.result (c.in-Err.e, c.in-Err.payload) refused in
    let none : c.in-Ok.given ≡ None = mapped_none arc_value c.in-Ok.given ((rw (← c.self.view_is) at c.in-Ok.ensures.value) ∙ told.absent) in
    let asked = rw none at c.f-value.ensures in
    rw (← c.self.view_is, ← c.to_word-word.ensures.number) (told, c.f-value.result, asked, c.into_arc.ensures ∙ refused.back ∙ c.new.ensures)
