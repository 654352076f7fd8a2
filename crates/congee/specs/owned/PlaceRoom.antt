-- The room that the places of a node take, in each form: what stands in a box fits in memory.
use Rattle.std.specs.Prelude.{ℕ, ◌≤◌, ◌<◌, ◌+◌, ◌*◌, ◌^◌, []}
use native.Mathlib.Omega.{arith}
use mir.Syntax.{Ty, w16, ty_int, ty_ptr, ty_struct, ty_enum, tnil, tcons, ttnil, ttcons}
use prog.Memory.{size}
use Rattle.congee.specs.forms.RoomLemmas.{FitsIn, no_fields, field, struct, no_cases, case, enum, word, byte, count, pointer, unit, array, array_vec_ty, index_ty, mask_ty, ranks_ty}

-- things in the order of their bytes
abbrev pub sorted_ty : ℕ → Ty → Ty
sorted_ty n τ = ty_struct [] (tcons (ranks_ty n) (tcons (array_vec_ty τ n) tnil))

-- things by an index
abbrev pub indexed_ty : Ty → Ty
indexed_ty τ = ty_struct [] (tcons index_ty (tcons (array_vec_ty τ 48) tnil))

-- things by byte, with a mask
abbrev pub masked_ty : Ty → Ty
masked_ty τ = ty_struct [] (tcons (array_vec_ty τ 256) (tcons mask_ty (tcons (ty_int w16) tnil)))

-- what stands in a box
abbrev pub boxed_ty : Ty → Ty
boxed_ty τ = ty_struct [] (tcons τ tnil)

-- bytes in their order, beside a box
abbrev beside_ty : ℕ → Ty
beside_ty n = ty_struct [] (tcons (ranks_ty n) (tcons ty_ptr tnil))

-- the least form inline, bytes beside a box, or a box
abbrev pub places_ty : Ty → Ty
places_ty τ = ty_enum [] (ttcons (tcons (sorted_ty 4 τ) tnil) (ttcons (tcons (beside_ty 16) tnil) (ttcons (tcons (beside_ty 48) tnil) (ttcons (tcons ty_ptr tnil) ttnil))))

-- the least form inline, or a box
abbrev pub forms_ty : Ty → Ty
forms_ty τ = ty_enum [] (ttcons (tcons (sorted_ty 4 τ) tnil) (ttcons (tcons ty_ptr tnil) (ttcons (tcons ty_ptr tnil) (ttcons (tcons ty_ptr tnil) ttnil))))

module _ {τ : Ty} (thing : FitsIn τ 1000000) where
  things : (n m : ℕ) → n * 1000000 + 655360 ≤ m → FitsIn (array_vec_ty τ n) m
  things n m l =
      let w = struct (field (struct (field (array n thing) no_fields)) (field word (field unit no_fields))) in
      record { bytes = omega (arith, w.bytes); aligned = w.aligned }

  -- so many in the order of their bytes have few bytes
  pub sorted : (n : ℕ) → n ≤ 48 → FitsIn (sorted_ty n τ) 400000000
  sorted n l =
      let ranks = struct (field (array n byte) (field byte no_fields)) in
      let w = struct (field ranks (field (things n 300000000 (omega arith)) no_fields)) in
      record { bytes = omega (arith, w.bytes); aligned = w.aligned }

  -- so have those by an index
  pub indexed : FitsIn (indexed_ty τ) 400000000
  indexed =
      let index = struct (field byte (field byte (field (array 256 byte) (field (array 48 byte) no_fields)))) in
      let w = struct (field index (field (things 48 300000000 (omega arith)) no_fields)) in
      record { bytes = omega (arith, w.bytes); aligned = w.aligned }

  -- and those with a mask
  pub masked : FitsIn (masked_ty τ) 400000000
  masked =
      let w = struct (field (things 256 300000000 (omega arith)) (field (struct (field (array 32 byte) no_fields)) (field count no_fields))) in
      record { bytes = omega (arith, w.bytes); aligned = w.aligned }

  -- so have the forms, of which the least alone lies inline
  pub forms : FitsIn (forms_ty τ) 500000000
  forms =
      let w = enum (case (field (sorted 4 (omega arith)) no_fields) (case (field pointer no_fields) (case (field pointer no_fields) (case (field pointer no_fields) no_cases)))) in
      record { bytes = omega (arith, w.bytes); aligned = w.aligned }

  -- so have those whose bytes stand beside a box
  pub places : FitsIn (places_ty τ) 500000000
  places =
      let few = struct (field (struct (field (array 16 byte) (field byte no_fields))) (field pointer no_fields)) in
      let many = struct (field (struct (field (array 48 byte) (field byte no_fields))) (field pointer no_fields)) in
      let w = enum (case (field (sorted 4 (omega arith)) no_fields) (case (field few no_fields) (case (field many no_fields) (case (field pointer no_fields) no_cases)))) in
      record { bytes = omega (arith, w.bytes); aligned = w.aligned }

  -- and so many things in a list
  pub list : (n : ℕ) → n ≤ 48 → FitsIn (array_vec_ty τ n) 400000000
  list n l = things n 400000000 (omega arith)

-- what has few bytes fits in memory, in a box too
pub fits : {ρ : Ty} → FitsIn ρ 500000000 → size ρ < 2 ^ 63
fits r = omega (arith, r.bytes)

-- the same of less
pub room : {ρ : Ty} → FitsIn ρ 400000000 → size ρ < 2 ^ 63
room r = omega (arith, r.bytes)

-- and in a box
pub boxed : {ρ : Ty} → FitsIn ρ 400000000 → size (boxed_ty ρ) < 2 ^ 63
boxed r = let w = struct (field r no_fields) in omega (arith, w.bytes)
