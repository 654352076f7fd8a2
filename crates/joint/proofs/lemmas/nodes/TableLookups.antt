-- What a look-up by place finds.
use Rattle.std.proofs.Common.{◌≡◌, ℕ, true, false, List, length, get_or, sym, ◌∙◌, ap}
use Rattle.std.specs.Prelude.{Option, None, Some, IfSome, IsSome, ltb, slice_get}
use Rattle.std.proofs.lemmas.Bool.{ltb-true, ltb-false}
use Rattle.std.proofs.lemmas.Option.{slice_get-get_or, slice_get_past}

-- a look-up below the length of a list finds what stands there
pub found_at : {A : Type 0} (xs : List A) (i : ℕ) (x : A) → true ≡ ltb i (length xs) → x ≡ get_or xs i x → Some x ≡ slice_get xs i
found_at xs i x l e = sym (slice_get-get_or xs i x (ltb-true i (length xs) (sym l)) ∙ ap Some (sym e))

-- one past its end finds nothing
pub found_none : {A : Type 0} (xs : List A) (i : ℕ) → false ≡ ltb i (length xs) → None ≡ slice_get xs i
found_none xs i l = sym (slice_get_past xs i (ltb-false i (length xs) (sym l)))

-- what is there and can only be this is this
pub there_is : {A : Type 0} (o : Option A) (x : A) → IfSome o (λ y. y ≡ x) → IsSome o → o ≡ Some x
there_is None x a b = absurd (cc b)
there_is (Some y) x a b = ap Some a
