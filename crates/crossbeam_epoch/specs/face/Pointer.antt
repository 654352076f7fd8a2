-- Where pointers lead.
use Rattle.std.specs.Prelude.{ℕ, Bool, false, not, nat_eq, if◌then◌else◌, Option, None, Some, Result, Ok, Err}
use Rattle.crossbeam_epoch.specs.declared.face.link.Site.{Site}
use Rattle.crossbeam_epoch.specs.declared.names.Name.{Name}
use Rattle.crossbeam_epoch.specs.declared.fault.Fault.{Fault}
use Rattle.crossbeam_epoch.specs.declared.fault.Fault.TheVariants.{Foreign, Unknown}

-- it leads to a cell of another collector than this one
abbrev pub is_foreign : Option Site → ℕ → Bool
is_foreign None id = false
is_foreign (Some s) id = not (nat_eq s.collector id)

-- the name of a site's value
abbrev pub site_name : Site → Name
site_name s = record { cell = s.cell; turn = s.turn }

-- the name in this collector of the value that it leads to
abbrev pub name_in : Option Site → ℕ → Result Name Fault
name_in None id = Err Unknown
name_in (Some s) id = if nat_eq s.collector id then Ok (site_name s) else Err Foreign
