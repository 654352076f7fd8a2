-- No name that can be given has a number past the greatest of 64 bits.
use Rattle.std.proofs.Common.{◌≡◌, ℕ, zero, suc, ◌+◌, ◌-◌, ◌*◌, ◌^◌, ◌<◌, ◌≤◌, Bool, true, false, length, refl, ap, subst, inl, inr, arith}
use Rattle.std.specs.Prelude.{Option, None, Some}
use Rattle.std.proofs.lemmas.Bool.{cases_lt}
use Rattle.std.proofs.lemmas.Bool.Decides.{nat_tests}
use Rattle.std.proofs.lemmas.List.{get_or_past}
use Rattle.std.proofs.Math.Nat.{mul-le-mul}
use Rattle.crossbeam_epoch.specs.declared.names.Name.{Name}
use Rattle.crossbeam_epoch.specs.world.Store.{Store, fresh, cell_at, value_at, was_given}
use Rattle.joint.specs.declared.nodes.counts.Counts.{Counts}
use Rattle.joint.specs.declared.nodes.slot.Slot.{Slot}
use Rattle.joint.specs.nodes.Nodes.{Nodes, nodes, IsKept}
use Rattle.joint.specs.NameLemmas.{number_named}
use Rattle.joint.specs.Names.{tri, number, named}
use Rattle.joint.specs.nodes.View.{view}
use Rattle.joint.proofs.lemmas.nodes.Altering.{given}

product : (s : ℕ) → suc s * suc (suc s) ≡ s * suc s + (suc s + suc s)
product s = omega arith

twice_tri : (s : ℕ) → tri s + tri s ≡ s * suc s
twice_tri zero = refl
twice_tri (suc s) = (let e = twice_tri s in let p = product s in omega (arith, e, p))

grows : (a b c d : ℕ) → a ≤ b → c ≤ d → a * c ≤ b * d
grows a b c d l m = mul-le-mul l m

small_number : (c t : ℕ) → c < 16777216 → t < 4294967297 → tri (c + t) + t < 2 ^ 64 - 1
small_number c t l m =
    let e = twice_tri (c + t) in
    let p : (c + t) * suc (c + t) ≤ 4311744512 * 4311744513 = grows (c + t) 4311744512 (suc (c + t)) 4311744513 (omega (arith, l, m)) (omega (arith, l, m)) in
    omega (arith, e, p, m)

module _ {P : Type 0} (F : Nodes P) (k : Counts) (kept : IsKept k F) where
  abbrev st : Store (Slot P)
  st = F.collector.store

  given_small : (n : Name) → was_given st n ≡ true → number n < 2 ^ 64 - 1
  given_small n g =
      let t : n.turn < (cell_at st n.cell).turns = grind (arith, nat_tests, g) in
      let turns = kept.turns n.cell in
      let here : n.cell < length st.cells = elim (cases_lt n.cell (length st.cells)) [
        | inl l ↦ l
        | inr ge ↦ absurd (let z : (cell_at st n.cell).turns ≡ 0 = ap (λ c. c.turns) (get_or_past st.cells n.cell fresh ge) in omega (arith, t, z))
      ] in
      small_number n.cell n.turn (omega (arith, here, kept.bounded, kept.few)) (omega (arith, t, turns, kept.last))

  made_given : (n : Name) (g : Bool) (v : Option (Slot P)) → was_given st n ≡ g → value_at st n ≡ v → (view g v).made ≡ true → was_given st n ≡ true
  made_given n true v e f m = e
  made_given n false None e f m = absurd (cc m)
  made_given n false (Some s) e f m = given st n s f

  -- the number of a node that was made is below 2 ^ 64 - 1
  pub number_few : (n : ℕ) → (nodes F n).made ≡ true → n < 2 ^ 64 - 1
  number_few n m = subst (λ x. x < 2 ^ 64 - 1) (number_named n) (given_small (named n) (made_given (named n) (was_given st (named n)) (value_at st (named n)) refl refl m))
