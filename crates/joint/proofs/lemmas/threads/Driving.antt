-- The turns of a whole call, one after another.
use Rattle.std.proofs.Common.{◌≡◌, ℕ, List, [], ◌∷◌, Option, Some, ap, refl, sym, subst}
use Rattle.joint.specs.declared.steps.Op.{Op}
use Rattle.joint.specs.declared.steps.Outcome.{Outcome}
use Rattle.joint.specs.declared.steps.Outcome.TheVariants.{Running, Asks, Found, Registered, Done, Refused}
use Rattle.joint.specs.declared.steps.Report.{Report}
use Rattle.joint.specs.declared.steps.Step.{Step}
use Rattle.joint.specs.threads.Driving.{AreTurns, Goes, IsDriven, IsGo, Turn, begin_step, put_by}

-- whatever the next turn and those after it are, they end the call that began at the first state
abbrev pub GoesOn : {V F S Q : Type 0} → (S → Step V → Report V → S → Type 0) → (F → Option V → Option V → F → Type 0) → (ℕ → V → Q) → ℕ → Op V → F → S → List Q → S → Step V → F → List Q → Type 0
GoesOn {V} {F} {S} {Q} gives calls pair who op f0 s0 places0 s step f places = (r : Report V) (s1 : S) (ts : List (Turn V)) (s' : S) (places' : List Q) (o : Outcome V) → gives s step r s1
    → AreTurns gives calls pair who op s1 f (Some r) (put_by pair r.outcome places) ts s' places' o → IsDriven gives calls pair who op f0 s0 places0 s' places' o

module _ {V F S Q : Type 0} (gives : S → Step V → Report V → S → Type 0) (calls : F → Option V → Option V → F → Type 0) (pair : ℕ → V → Q) (who : ℕ) (op : Op V) where
  -- the first turn begins the call
  pub driven_begins : (f : F) (s : S) (places : List Q) (step : Step V) → step ≡ begin_step who op → GoesOn gives calls pair who op f s places s step f places
  driven_begins f s places step is r s1 ts s' places' o given rest = (record { step = step; report = r } ∷ ts, (f, s1, (is, refl), given, rest))

  -- after a turn the next one goes on
  pub driven_goes_on : (f0 : F) (s0 : S) (places0 : List Q) (s : S) (step : Step V) (f : F) (places : List Q) → GoesOn gives calls pair who op f0 s0 places0 s step f places
      → (r : Report V) (s1 : S) (next : Step V) (f1 : F) (places1 : List Q) → gives s step r s1 → Goes calls who r.outcome f next f1 → places1 ≡ put_by pair r.outcome places
      → GoesOn gives calls pair who op f0 s0 places0 s1 next f1 places1
  driven_goes_on f0 s0 places0 s step f places on r s1 next f1 places1 given goes same r2 s2 ts s' places' o given2 rest =
      let rest' = subst (λ (ps : List Q). AreTurns gives calls pair who op s2 f1 (Some r2) (put_by pair r2.outcome ps) ts s' places' o) same rest in
      on r s1 (record { step = next; report = r2 } ∷ ts) s' places' o given (f1, s2, goes, given2, rest')

  -- a turn that ends the call, and finds no pair, makes the turns a whole call
  pub driven_ends : (f0 : F) (s0 : S) (places0 : List Q) (s : S) (step : Step V) (f : F) (places : List Q) → GoesOn gives calls pair who op f0 s0 places0 s step f places
      → (r : Report V) (s1 : S) (o : Outcome V) → gives s step r s1 → put_by pair r.outcome places ≡ places → r.outcome ≡ o → IsDriven gives calls pair who op f0 s0 places0 s1 places o
  driven_ends f0 s0 places0 s step f places on r s1 o given same is = on r s1 [] s1 places o given (refl, sym same, ap Some is)

-- the turn after a report takes the next step of the worker's call
pub goes_is_go : {V F : Type 0} (calls : F → Option V → Option V → F → Type 0) (who : ℕ) (o : Outcome V) (f : F) (step : Step V) (f1 : F) → Goes calls who o f step f1 → IsGo who o step
goes_is_go calls who Running f step f1 g = g.0
goes_is_go calls who (Asks found) f step f1 g = (g.0, g.2)
goes_is_go calls who (Found place key value) f step f1 g = g.0
goes_is_go calls who (Registered n) f step f1 g = g
goes_is_go calls who (Done done) f step f1 g = g
goes_is_go calls who (Refused refusal) f step f1 g = g
