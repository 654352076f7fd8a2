-- The room that the values of a leaf take, and a slot's node: what stands in a box fits in memory.
use Rattle.std.specs.Prelude.{◌<◌, ◌^◌, []}
use native.Mathlib.Omega.{arith}
use mir.Syntax.{Ty, ty_struct, ty_enum, tnil, tcons, ttnil, ttcons}
use denote.Param.{layout}
use denote.RattleType.{RattleType}
use prog.Memory.{size}
use Rattle.congee.specs.forms.Room.{IsSmall}
use Rattle.congee.specs.forms.RoomLemmas.{FitsIn, prefix_ty}
use Rattle.congee.specs.owned.EntryRoom.{entry_ty}
use Rattle.congee.specs.owned.PlaceRoom.{boxed, boxed_ty, fits, forms, forms_ty, indexed, indexed_ty, masked, masked_ty, places_ty, room, sorted, sorted_ty}

-- a prefix beside a leaf's places
abbrev pub node_ty : Ty → Ty
node_ty τ = ty_struct [] (tcons prefix_ty (tcons (forms_ty τ) tnil))

-- a prefix, and an inner node's places
abbrev inner_ty : Ty → Ty
inner_ty τ = ty_struct [] (tcons prefix_ty (tcons (places_ty τ) tnil))

-- an inner node or a leaf, as code lays it out
abbrev pub slot_ty : Ty → Ty → Ty
slot_ty τ σ = ty_enum [] (ttcons (tcons (inner_ty (entry_ty τ)) tnil) (ttcons (tcons (node_ty σ) tnil) ttnil))

module _ (K : RattleType) (k : IsSmall (layout K)) where
  kept : FitsIn (layout K) 1000000
  kept = let b = k.bytes in record { bytes = omega (arith, b); aligned = k.aligned }

  -- 16 values beside their bytes fit in memory
  pub sorted16_fits : size (sorted_ty 16 (layout K)) < 2 ^ 63
  sorted16_fits = room (sorted kept 16 (omega arith))

  -- 48 by an index do
  pub indexed_fits : size (indexed_ty (layout K)) < 2 ^ 63
  indexed_fits = room (indexed kept)

  -- and 256 behind a mask
  pub masked_fits : size (masked_ty (layout K)) < 2 ^ 63
  masked_fits = room (masked kept)

  -- so do 16 in a box
  pub values16_fits : size (boxed_ty (sorted_ty 16 (layout K))) < 2 ^ 63
  values16_fits = boxed (sorted kept 16 (omega arith))

  -- 48 in one
  pub values48_fits : size (boxed_ty (indexed_ty (layout K))) < 2 ^ 63
  values48_fits = boxed (indexed kept)

  -- and 256 in one
  pub values256_fits : size (boxed_ty (masked_ty (layout K))) < 2 ^ 63
  values256_fits = boxed (masked kept)

  -- the values of any form fit in memory
  pub values_fits : size (forms_ty (layout K)) < 2 ^ 63
  values_fits = fits (forms kept)
