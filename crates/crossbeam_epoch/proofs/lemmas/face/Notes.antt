-- A seat takes another one's note in.
use Rattle.std.proofs.Common.{◌≡◌, ◌≢◌, Bool, true, false, ℕ, ◌<◌, ◌≤◌, List, set, sym, refl, ap, ◌∙◌, subst, ⊎_elim, arith}
use Rattle.std.specs.Prelude.{nat_le, if◌then◌else◌}
use Rattle.std.proofs.lemmas.Bool.Decides.{nat_tests}
use mathlib.Core.Option.{some}
use lib.ListN.{get_elem?}
use Rattle.atomic_table.specs.Table.{State, Joins}
use Rattle.atomic_table.proofs.Lists.{at_set, set_again}
use Rattle.crossbeam_epoch.specs.declared.face.seats.View.{View}
use Rattle.crossbeam_epoch.specs.face.Pins.{epoch_of, newcomer, At, IsKept, IsRead, with_seen, noted, with_note}
use Rattle.crossbeam_epoch.proofs.lemmas.face.Pins.{sees, spends}

module _ {S : Type 0} (places last : ℕ) where
  abbrev Rule : State S View → Type 0
  Rule = IsKept places last

  learns : (s : State S View) (r : Rule s) (id : ℕ) (v : View) (e : ℕ) (b : Bool) → At s.views id v → e ≤ epoch_of s.words → Rule record { words = s.words; homes = s.homes; views = set s.views id (if b then v else with_seen v e) }
  learns s r id v e true at low = subst (λ (vs : List View). Rule record { words = s.words; homes = s.homes; views = vs }) (sym (set_again s.views id v at)) r
  learns s r id v e false at low = sees places last s r id v e at low

  -- a seat takes a note in, which is spent
  pub heeds : (id other : ℕ) (v w : View) → w ≡ noted w → Joins Rule id v other w (with_note v w) newcomer
  heeds id other v w is s r at apart there =
      let here : At s.views other w = ⊎_elim (λ (t : (other ≡ id) × (with_note v w ≡ w)). absurd (apart t.0)) (λ (t : (other ≢ id) × (get_elem? s.views other ≡ some w)). t.1) (at_set s.views id other (with_note v w) w there) in
      spends places last record { words = s.words; homes = s.homes; views = set s.views id (with_note v w) } (learns s r id v w.seen (nat_le w.seen v.seen) at (r.seats other w here).seen) other w there (ap (λ (x : View). x.place) is)

-- a seat that took a note in saw both epochs, and knows nothing else
note_in : (v n : View) (b : Bool) → nat_le n.seen v.seen ≡ b
    → (v.seen ≤ (if b then v else with_seen v n.seen).seen) × (n.seen ≤ (if b then v else with_seen v n.seen).seen) × ((if b then v else with_seen v n.seen).pin ≡ v.pin) × ((e : ℕ) → with_seen (if b then v else with_seen v n.seen) e ≡ with_seen v e)
note_in v n true is = (omega arith, grind (arith, nat_tests), refl, λ e. refl)
note_in v n false is = (let later : v.seen < n.seen = grind (arith, nat_tests) in omega arith, omega arith, refl, λ e. refl)

-- what is read after a note was taken in is read after what was seen, and after what the note tells
pub read_after : (v n m : View) (e : ℕ) → m ≡ with_note v n → IsRead m e → IsRead v e × (n.seen ≤ e) × (with_seen m e ≡ with_seen v e)
read_after v n m e is read =
    let t = note_in v n (nat_le n.seen v.seen) refl in
    let r : IsRead (with_note v n) e = subst (λ (x : View). IsRead x e) is read in
    let mine = t.0 in
    let its = t.1 in
    let low = r.0 in
    ((omega arith, r.1, λ q pin. r.2 q (t.2 ∙ pin)), omega arith, ap (λ (x : View). with_seen x e) is ∙ t.3 e)
