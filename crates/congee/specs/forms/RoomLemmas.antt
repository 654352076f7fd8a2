-- The room that nodes take: what stands in a box fits in memory.
use Rattle.std.specs.Prelude.{ℕ, zero, suc, ◌≤◌, ◌<◌, ◌+◌, ◌*◌, ◌-◌, ◌%◌, ◌^◌, [], max}
use native.Mathlib.Omega.{arith}
use mir.Syntax.{Ty, Tys, Tyss, w8, w16, w64, ty_int, ty_ptr, ty_unit, ty_array, ty_struct, ty_enum, tnil, tcons, ttnil, ttcons}
use denote.Param.{layout}
use denote.RattleType.{RattleType}
use prog.Memory.{size, align, aligns, alignss, end_of, endss, up}
use Rattle.congee.specs.forms.Room.{IsSmall}

max_le : {a b n : ℕ} → a ≤ n → b ≤ n → max a b ≤ n
max_le p q = omega (arith, p, q)

mod_le : (a k : ℕ) → a % k ≤ a
mod_le a zero = omega arith
mod_le a (suc k) = omega arith

up_le : (k e : ℕ) → k ≤ 65536 → up k e ≤ e + 65536
up_le k e l = let m = mod_le (k - e % k) k in omega arith

-- a type has at most n bytes, and is aligned to 65,536 at most
pub record FitsIn (τ : Ty) (n : ℕ) : Type 0 where
  pub bytes : size τ ≤ n
  pub aligned : align τ ≤ 65536

-- fields end n bytes at most after where they begin
pub record Fields (τs : Tys) (n : ℕ) : Type 0 where
  pub ends : (e : ℕ) → end_of e τs ≤ e + n
  pub aligned : aligns τs ≤ 65536

-- so do the cases of an enum, with their tag
pub record Cases (τss : Tyss) (n : ℕ) : Type 0 where
  pub ends : endss τss ≤ n
  pub aligned : alignss τss ≤ 65536

-- no fields take no bytes
pub no_fields : Fields tnil 0
no_fields = record { ends = λ e. omega arith; aligned = omega arith }

-- one more field
pub field : {τ : Ty} {τs : Tys} {n m : ℕ} → FitsIn τ n → Fields τs m → Fields (tcons τ τs) (65536 + n + m)
field {τ} {τs} {n} {m} w f = record {
  ends = λ e. let u = up_le (align τ) e w.aligned in let r = f.ends (up (align τ) e + size τ) in omega (arith, w.bytes);
  aligned = max_le w.aligned f.aligned;
}

-- a struct has the bytes of its fields, and some to its alignment
pub struct : {τs : Tys} {n : ℕ} → Fields τs n → FitsIn (ty_struct [] τs) (n + 65536)
struct {τs} {n} f = record {
  bytes = let u = up_le (aligns τs) (end_of 0 τs) f.aligned in omega (arith, f.ends 0);
  aligned = f.aligned;
}

-- no cases have the byte of a tag
pub no_cases : Cases ttnil 1
no_cases = record { ends = omega arith; aligned = omega arith }

-- one more case
pub case : {τs : Tys} {τss : Tyss} {n m : ℕ} → Fields τs n → Cases τss m → Cases (ttcons τs τss) (1 + n + m)
case {τs} {τss} {n} {m} f c = record {
  ends = max_le (omega (arith, f.ends 1)) (omega (arith, c.ends));
  aligned = max_le f.aligned c.aligned;
}

-- an enum has the bytes of its cases, and some to its alignment
pub enum : {τss : Tyss} {n : ℕ} → Cases τss n → FitsIn (ty_enum [] τss) (n + 65536)
enum {τss} {n} c = record {
  bytes = let u = up_le (alignss τss) (endss τss) c.aligned in omega (arith, c.ends);
  aligned = c.aligned;
}

-- a word has 8 bytes
pub word : FitsIn (ty_int w64) 8
word = record { bytes = omega arith; aligned = omega arith }

-- a byte is one
pub byte : FitsIn (ty_int w8) 1
byte = record { bytes = omega arith; aligned = omega arith }

-- a count has 2 bytes
pub count : FitsIn (ty_int w16) 2
count = record { bytes = omega arith; aligned = omega arith }

-- a pointer has 8 bytes
pub pointer : FitsIn ty_ptr 8
pointer = record { bytes = omega arith; aligned = omega arith }

-- a unit has none
pub unit : FitsIn ty_unit 0
unit = record { bytes = omega arith; aligned = omega arith }

-- an array has the bytes of its elements
pub array : {τ : Ty} {n : ℕ} (k : ℕ) → FitsIn τ n → FitsIn (ty_array τ k) (k * n)
array {τ} {n} k w = record { bytes = le_mul k (size τ) n w.bytes; aligned = w.aligned }
  where
    le_mul : (k a b : ℕ) → a ≤ b → k * a ≤ k * b
    le_mul zero a b l = omega arith
    le_mul (suc k) a b l = omega (arith, le_mul k a b l)

-- a child, as code lays it out
abbrev child_ty : Ty → Ty → Ty
child_ty τ σ = ty_enum [] (ttcons tnil (ttcons (tcons τ tnil) (ttcons (tcons σ tnil) ttnil)))

-- a list in an array
abbrev pub array_vec_ty : Ty → ℕ → Ty
array_vec_ty τ n = ty_struct [] (tcons (ty_struct [] (tcons (ty_array τ n) tnil)) (tcons (ty_int w64) (tcons ty_unit tnil)))

-- a prefix
abbrev pub prefix_ty : Ty
prefix_ty = ty_struct [] (tcons (ty_array (ty_int w8) 8) tnil)

-- bytes in the order in which they are counted
abbrev pub ranks_ty : ℕ → Ty
ranks_ty n = ty_struct [] (tcons (ty_array (ty_int w8) n) (tcons (ty_int w8) tnil))

-- children in the order of their bytes
abbrev sorted_ty : ℕ → Ty → Ty → Ty
sorted_ty n τ σ = ty_struct [] (tcons (ranks_ty n) (tcons (array_vec_ty (child_ty τ σ) n) tnil))

-- an index
abbrev pub index_ty : Ty
index_ty = ty_struct [] (tcons (ty_int w8) (tcons (ty_int w8) (tcons (ty_array (ty_int w8) 256) (tcons (ty_array (ty_int w8) 48) tnil))))

-- children behind an index
abbrev indexed_ty : Ty → Ty → Ty
indexed_ty τ σ = ty_struct [] (tcons index_ty (tcons (array_vec_ty (child_ty τ σ) 48) tnil))

-- a mask
abbrev pub mask_ty : Ty
mask_ty = ty_struct [] (tcons (ty_array (ty_int w8) 32) tnil)

-- children behind a mask
abbrev masked_ty : Ty → Ty → Ty
masked_ty τ σ = ty_struct [] (tcons (array_vec_ty (child_ty τ σ) 256) (tcons mask_ty (tcons (ty_int w16) tnil)))

-- a node of the given children
abbrev node_ty : Ty → Ty
node_ty τ = ty_struct [] (tcons prefix_ty (tcons τ tnil))

-- a small node inline, or a box
abbrev any_node_ty : Ty → Ty → Ty
any_node_ty τ σ = ty_enum [] (ttcons (tcons (node_ty (sorted_ty 4 τ σ)) tnil) (ttcons (tcons ty_ptr tnil) (ttcons (tcons ty_ptr tnil) (ttcons (tcons ty_ptr tnil) ttnil))))

-- a prefix has few bytes
pub prefix : FitsIn prefix_ty 200000
prefix = let w = struct (field (array 8 byte) no_fields) in record { bytes = omega (arith, w.bytes); aligned = w.aligned }

module _ (C P : RattleType) (c : IsSmall (layout C)) (p : IsSmall (layout P)) where
  child : FitsIn (child_ty (layout C) (layout P)) 327684
  child = enum (case no_fields (case (field (record { bytes = c.bytes; aligned = c.aligned }) no_fields) (case (field (record { bytes = p.bytes; aligned = p.aligned }) no_fields) no_cases)))

  children : (n m : ℕ) → n * 327684 + 655360 ≤ m → FitsIn (array_vec_ty (child_ty (layout C) (layout P)) n) m
  children n m l =
      let w = struct (field (struct (field (array n child) no_fields)) (field word (field unit no_fields))) in
      record { bytes = omega (arith, w.bytes, l); aligned = w.aligned }

  sorted : (n : ℕ) → n ≤ 16 → FitsIn (sorted_ty n (layout C) (layout P)) 200000000
  sorted n l =
      let ranks = struct (field (array n byte) (field byte no_fields)) in
      let w = struct (field ranks (field (children n 100000000 (omega arith)) no_fields)) in
      record { bytes = omega (arith, w.bytes); aligned = w.aligned }

  indexed : FitsIn (indexed_ty (layout C) (layout P)) 200000000
  indexed =
      let index = struct (field byte (field byte (field (array 256 byte) (field (array 48 byte) no_fields)))) in
      let w = struct (field index (field (children 48 100000000 (omega arith)) no_fields)) in
      record { bytes = omega (arith, w.bytes); aligned = w.aligned }

  masked : FitsIn (masked_ty (layout C) (layout P)) 200000000
  masked =
      let w = struct (field (children 256 100000000 (omega arith)) (field (struct (field (array 32 byte) no_fields)) (field count no_fields))) in
      record { bytes = omega (arith, w.bytes); aligned = w.aligned }

  node : {ρ : Ty} → FitsIn ρ 200000000 → size (node_ty ρ) < 2 ^ 63
  node r = let w = struct (field prefix (field r no_fields)) in omega (arith, w.bytes)

  -- the children of a node of 16 fit in memory
  pub sorted_fits : size (sorted_ty 16 (layout C) (layout P)) < 2 ^ 63
  sorted_fits = let w = sorted 16 (omega arith) in omega (arith, w.bytes)

  -- those of a node of 48 do
  pub indexed_fits : size (indexed_ty (layout C) (layout P)) < 2 ^ 63
  indexed_fits = omega (arith, indexed.bytes)

  -- and those of one of 256
  pub masked_fits : size (masked_ty (layout C) (layout P)) < 2 ^ 63
  masked_fits = omega (arith, masked.bytes)

  -- a node of 16 fits in memory
  pub node16_fits : size (node_ty (sorted_ty 16 (layout C) (layout P))) < 2 ^ 63
  node16_fits = node (sorted 16 (omega arith))

  -- one of 48 does
  pub node48_fits : size (node_ty (indexed_ty (layout C) (layout P))) < 2 ^ 63
  node48_fits = node indexed

  -- and one of 256
  pub node256_fits : size (node_ty (masked_ty (layout C) (layout P))) < 2 ^ 63
  node256_fits = node masked

  -- a node of any form fits in memory
  pub any_node_fits : size (any_node_ty (layout C) (layout P)) < 2 ^ 63
  any_node_fits =
      let small = struct (field prefix (field (sorted 4 (omega arith)) no_fields)) in
      let w = enum (case (field small no_fields) (case (field pointer no_fields) (case (field pointer no_fields) (case (field pointer no_fields) no_cases)))) in
      omega (arith, w.bytes)
