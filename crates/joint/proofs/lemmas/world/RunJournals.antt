-- What a journal is in each state.
use Rattle.std.proofs.Common.{◌≡◌, ℕ, ◌+◌, ◌≤◌, arith, Bool, List, [], ◌∷◌, length, refl, subst}
use Rattle.joint.specs.world.World.{Holds}
use Rattle.joint.specs.engine.Engine.{World}

none_in : {A : Type 0} (xs : List A) (n : ℕ) → length xs + n ≤ 0 → xs ≡ []
none_in [] n l = refl
none_in (x ∷ xs) n l = absurd (omega (arith, l))

module _ {V : Type 0} (same : V → V → Bool) (always : Bool) where
  -- where none is kept it is empty
  pub none_kept : (s : World V) → Holds same always s → s.log.places ≡ 0 → s.log.entries ≡ []
  none_kept s h e = none_in s.log.entries s.log.reserved (subst (λ n. length s.log.entries + s.log.reserved ≤ n) e h.2.room)
