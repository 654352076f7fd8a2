-- What a call of one step tells of the tree, and of the map that stands in it.
use Rattle.std.proofs.Common.{◌≡◌, ℕ, false, refl}
use Rattle.judge.specs.Answer.{Pairs}
use Rattle.congee.specs.Heap.{Node}
use Rattle.congee.specs.Keys.{IsMapOf}
use Rattle.joint.specs.declared.refusal.Refusal.TheVariants.{Memory}
use Rattle.joint.specs.declared.steps.Done.TheVariants as done
use Rattle.joint.specs.declared.steps.Outcome.{Outcome}
use Rattle.joint.specs.declared.steps.Outcome.TheVariants.{Running, Asks, Found, Registered, Done, Refused}
use Rattle.joint.specs.declared.steps.Survey.{Survey}
use Rattle.joint.specs.declared.steps.Survey.TheVariants as survey
use Rattle.joint.specs.Reports.{goes_unasked, is_in_flight}
use Rattle.joint.specs.engine.Surveys.{MapTells, TellsOf}

module _ {V : Type 0} (h : ℕ → Node V) where
  -- a call of one step has ended
  pub survey_ends : (k : Survey) (o : Outcome V) → TellsOf h k o → is_in_flight o ≡ false
  survey_ends survey.Keys (Done (done.Keys keys)) t = refl
  survey_ends survey.Keys (Refused Memory) t = refl
  survey_ends survey.Keys _ t = absurd t
  survey_ends survey.IsEmpty (Done (done.Empty b)) t = refl
  survey_ends survey.IsEmpty _ t = absurd t
  survey_ends survey.Stats (Done (done.Stats stats)) t = refl
  survey_ends survey.Stats (Refused Memory) t = refl
  survey_ends survey.Stats _ t = absurd t

  -- what it tells of the nodes it tells of the pairs that stand in them
  pub map_tells : (m : Pairs V) → IsMapOf h m → (k : Survey) (o : Outcome V) → TellsOf h k o → MapTells m k o
  map_tells m st survey.Keys (Done (done.Keys keys)) t = t m st
  map_tells m st survey.Keys (Refused Memory) t = tt
  map_tells m st survey.Keys _ t = absurd t
  map_tells m st survey.IsEmpty (Done (done.Empty b)) t = t m st
  map_tells m st survey.IsEmpty _ t = absurd t
  map_tells m st survey.Stats (Done (done.Stats stats)) t = (t m st).kv_pairs
  map_tells m st survey.Stats (Refused Memory) t = tt
  map_tells m st survey.Stats _ t = absurd t

module _ {V : Type 0} where
  -- a whole call of one step: it doesn't go on
  pub not_going : (m : Pairs V) (k : Survey) (o : Outcome V) → MapTells m k o → goes_unasked o ≡ false
  not_going m k (Refused e) t = refl
  not_going m k (Done d) t = refl
  not_going m k (Registered n) t = refl
  not_going m survey.Keys Running t = absurd t
  not_going m survey.IsEmpty Running t = absurd t
  not_going m survey.Stats Running t = absurd t
  not_going m survey.Keys (Asks found) t = absurd t
  not_going m survey.IsEmpty (Asks found) t = absurd t
  not_going m survey.Stats (Asks found) t = absurd t
  not_going m survey.Keys (Found place key value) t = absurd t
  not_going m survey.IsEmpty (Found place key value) t = absurd t
  not_going m survey.Stats (Found place key value) t = absurd t
