-- What a call found at its key, and how it ends then.
use Rattle.std.proofs.Common.{◌≡◌, refl, sym, ap}
use Rattle.std.specs.Prelude.{Option, None, Some, Result, Ok, Err, IsSome, IfSome, OnErr, is_some}

module _ {A : Type 0} where
  -- what is the same as something is something
  pub is_some_of_some : (x : A) (o : Option A) → Some x ≡ o → IsSome o
  is_some_of_some x o e = ap is_some (sym e)

  abbrev or_else : A → Option A → A
  or_else x None = x
  or_else x (Some y) = y

  -- options that have something and are the same have the same
  pub some_injective : (x y : A) → Some x ≡ Some y → x ≡ y
  some_injective x y e = ap (or_else x) e

  -- what follows wherever an option has something is told of the option
  pub if_some : (o : Option A) (P : A → Type 0) → ((x : A) → o ≡ Some x → P x) → IfSome o P
  if_some None P f = tt
  if_some (Some x) P f = f x refl

-- what holds anyway holds where a result is an error
pub on_error : {A E : Type 0} (r : Result A E) (P : Type 0) → P → OnErr r P
on_error (Ok x) P p = tt
on_error (Err e) P p = p
