-- Answers as words.
use Rattle.std.specs.Prelude.{◌≡◌, ℕ, Option, None, Some, Result, Ok, Err}
use Rattle.std.specs.Option.{option_map}
use Rattle.optimistic.specs.declared.drain.nexts.Pair.{Pair}
use Rattle.optimistic.specs.declared.face.refusal.Refusal.{Refusal}

-- r is what some answer is in other words
abbrev pub As : {X Y : Type 0} → (X → Type 0) → (X → Y) → Y → Type 0
As {X} answers f r = (x : X) × answers x × (r ≡ f x)

abbrev pub words : {V : Type 0} → (ℕ → V) → Result (Option ℕ) Refusal → Result (Option V) Refusal
words of (Ok x) = Ok (option_map of x)
words of (Err e) = Err e

abbrev pub either_words : {V : Type 0} → (ℕ → V) → Result (Result (Option ℕ) (Option ℕ)) Refusal → Result (Result (Option V) (Option V)) Refusal
either_words of (Ok (Ok x)) = Ok (Ok (option_map of x))
either_words of (Ok (Err x)) = Ok (Err (option_map of x))
either_words of (Err e) = Err e

abbrev pub pair_words : {K V : Type 0} → (ℕ → K) → (ℕ → V) → Option Pair → Option (K × V)
pair_words key value None = None
pair_words key value (Some p) = Some (key p.key, value p.value)

-- a key and a value as words
abbrev pub in_words : {K V : Type 0} → (K → ℕ) → (V → ℕ) → K × V → Pair
in_words key value p = record { key = key p.0; value = value p.1 }
