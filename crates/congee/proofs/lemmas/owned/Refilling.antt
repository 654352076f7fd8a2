-- Entries that move from one node's places to another's.
use Rattle.std.proofs.Common.{◌≡◌, ℕ, ◌<◌, false, ◌∙◌}
use Rattle.std.specs.FinMap as map
use Rattle.congee.specs.forms.Forms.{capacity_of}
use Rattle.congee.specs.owned.Entries.{form_in, entries_in, full_in}
use Rattle.congee.specs.declared.owned.places.Places.{Places}
use Rattle.congee.proofs.lemmas.forms.LaidLemmas.{less_fills}
use Rattle.congee.proofs.lemmas.forms.MoveLemmas.{HavePoured}
use Rattle.congee.proofs.lemmas.owned.Entering.{full_in_at}

-- what a loop that moves the entries of `old` to `empty` has made of both
pub record IsMoving {P : Type 0} (old empty left moved : Places P) (from : ℕ) : Type 0 where
  pub moved_form : form_in moved ≡ form_in empty
  pub entries : HavePoured (entries_in old) (entries_in left) (entries_in moved) from

-- places that hold fewer than their form can have aren't full
pub full_in_room : {P : Type 0} (n : Places P) → map.len (entries_in n) < capacity_of (form_in n) → full_in n ≡ false
full_in_room n l = full_in_at n ∙ less_fills (form_in n) (map.len (entries_in n)) l
