-- The room that the entries of an inner node take: what stands in a box fits in memory.
use Rattle.std.specs.Prelude.{◌<◌, ◌^◌, []}
use native.Mathlib.Omega.{arith}
use mir.Syntax.{Ty, w8, w64, ty_int, ty_array, ty_struct, ty_enum, tnil, tcons, ttnil, ttcons}
use denote.Param.{layout}
use denote.RattleType.{RattleType}
use prog.Memory.{size}
use Rattle.congee.specs.forms.Room.{IsSmall}
use Rattle.congee.specs.forms.RoomLemmas.{FitsIn, no_fields, field, struct, no_cases, case, enum, word, byte, array, array_vec_ty}
use Rattle.congee.specs.owned.PlaceRoom.{boxed, boxed_ty, fits, list, masked, masked_ty, places, places_ty, room}

-- a key's bytes after the first, as code lays them out
abbrev tail_ty : Ty
tail_ty = ty_struct [] (tcons (ty_array (ty_int w8) 7) tnil)

-- an entry, as code lays it out
abbrev pub entry_ty : Ty → Ty
entry_ty σ = ty_enum [] (ttcons tnil (ttcons (tcons (ty_int w64) tnil) (ttcons (tcons tail_ty (tcons σ tnil)) ttnil)))

module _ (P : RattleType) (p : IsSmall (layout P)) where
  -- an entry has few bytes
  pub entry : FitsIn (entry_ty (layout P)) 1000000
  entry =
      let w = enum (case no_fields (case (field word no_fields) (case (field (struct (field (array 7 byte) no_fields)) (field (record { bytes = p.bytes; aligned = p.aligned }) no_fields)) no_cases))) in
      record { bytes = omega (arith, w.bytes); aligned = w.aligned }

  -- 256 entries behind a mask fit in memory
  pub masked_fits : size (masked_ty (entry_ty (layout P))) < 2 ^ 63
  masked_fits = room (masked entry)

  -- so do 16 in a list, in a box
  pub entries16_fits : size (boxed_ty (array_vec_ty (entry_ty (layout P)) 16)) < 2 ^ 63
  entries16_fits = boxed (list entry 16 (omega arith))

  -- 48 in one
  pub entries48_fits : size (boxed_ty (array_vec_ty (entry_ty (layout P)) 48)) < 2 ^ 63
  entries48_fits = boxed (list entry 48 (omega arith))

  -- and 256 in one
  pub places256_fits : size (boxed_ty (masked_ty (entry_ty (layout P)))) < 2 ^ 63
  places256_fits = boxed (masked entry)

  -- the places of any form fit in memory
  pub places_fits : size (places_ty (entry_ty (layout P))) < 2 ^ 63
  places_fits = fits (places entry)
