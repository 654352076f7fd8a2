-- The size of a node's name.
use native.Mathlib.Omega.{arith}
use denote.Param.{layout}
use Rattle.congee.specs.forms.Room.{IsSmall}
use Rattle.joint.specs.contracts.id.Id.{the_row}

-- a node's name is small
pub small_id : IsSmall (layout the_row)
small_id = record { bytes = omega arith; aligned = omega arith }
