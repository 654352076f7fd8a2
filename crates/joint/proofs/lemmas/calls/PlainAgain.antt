-- Plain runs of the same steps tell the same.
use Rattle.std.proofs.Common.{◌≡◌, ℕ, Bool, true, false, List, [], ◌∷◌, refl, sym, ◌∙◌, ap, subst}
use Rattle.std.specs.Prelude.{Option, None, Some, IsSome}
use Rattle.std.specs.FinMap.{len}
use Rattle.judge.specs.Answer.{Pairs}
use Rattle.congee.specs.Heap.{Node}
use Rattle.congee.specs.Keys.{IsMapOf}
use Rattle.congee.specs.declared.protocol.machine.Outcome.{Outcome as Moved}
use Rattle.congee.specs.declared.protocol.machine.Outcome.TheVariants as moved
use Rattle.congee.specs.protocol.PlainSteps.{Plain}
use Rattle.joint.specs.engine.Engine.{finds_none}
use Rattle.joint.specs.Reports.{told}
use Rattle.joint.specs.declared.refusal.Refusal.TheVariants.{Exhausted, Memory}
use Rattle.joint.specs.declared.steps.Event.{Event}
use Rattle.joint.specs.declared.steps.Kind.{Kind}
use Rattle.joint.specs.declared.steps.Kind.TheVariants as kind
use Rattle.joint.specs.declared.steps.Done.TheVariants.{Keys, Empty, Stats}
use Rattle.joint.specs.declared.steps.Outcome.{Outcome}
use Rattle.joint.specs.declared.steps.Outcome.TheVariants.{Done, Refused}
use Rattle.joint.specs.declared.steps.Report.{Report}
use Rattle.joint.specs.declared.steps.Step.{Step}
use Rattle.joint.specs.declared.steps.Survey.{Survey}
use Rattle.joint.specs.declared.steps.Survey.TheVariants as survey
use Rattle.joint.specs.nodes.Levels.{nodes_of}
use Rattle.joint.specs.calls.Plain.{TreeEvent, Starts, Tells, Goes, TreeStep, step_at, event_at, projection, start_told, plain_went, step_after, EventTells, AreTold, IsUnrefused, IsUnhindered, AreUnrefused, SameAnswer, AreSame, answers, with_first}
use Rattle.joint.specs.nodes.Survey.{IsEmptiness}
use Rattle.joint.specs.engine.Surveys.{TellsOf, TellsKeys, TellsEmpty, TellsStats}

-- none of these is a refusal, but as Exhausted
abbrev NoneRefused : {V : Type 0} → List (Report V) → Type 0
NoneRefused [] = Unit {0}
NoneRefused (r ∷ rs) = IsUnrefused r.outcome × NoneRefused rs

no_memory : {V : Type 0} {A : Type 0} → IsUnrefused {V = V} (Refused Memory) → A
no_memory {V} un = let z : Memory ≡ Exhausted = un Memory refl in absurd cc

module _ {V : Type 0} (h : ℕ → Node V) (m : Pairs V) (st : IsMapOf h m) where
  keys_same : (a b : Outcome V) → TellsKeys h a → TellsKeys h b → IsUnrefused a → IsUnrefused b → SameAnswer a b
  keys_same (Done (Keys a)) (Done (Keys b)) x y u v = x m st ∙ sym (y m st)
  keys_same (Done (Keys a)) (Refused Memory) x y u v = no_memory v
  keys_same (Done (Keys a)) b x y u v = absurd y
  keys_same (Refused Memory) b x y u v = no_memory u
  keys_same a b x y u v = absurd x

  same_emptiness : (a b : Bool) → IsEmptiness m a → IsEmptiness m b → a ≡ b
  same_emptiness true true x y = refl
  same_emptiness true false x y = absurd (let q : false ≡ true = subst (λ (o : Option V). IsSome o) (x y.0) y.1 in cc q)
  same_emptiness false true x y = absurd (let q : false ≡ true = subst (λ (o : Option V). IsSome o) (y x.0) x.1 in cc q)
  same_emptiness false false x y = refl

  empty_same : (a b : Outcome V) → TellsEmpty h a → TellsEmpty h b → SameAnswer a b
  empty_same (Done (Empty a)) (Done (Empty b)) x y = ap (λ z. Done (Empty z)) (same_emptiness a b (x m st) (y m st))
  empty_same (Done (Empty a)) b x y = absurd y
  empty_same a b x y = absurd x

  stats_same : (a b : Outcome V) → TellsStats h a → TellsStats h b → IsUnrefused a → IsUnrefused b → SameAnswer a b
  stats_same (Done (Stats a)) (Done (Stats b)) x y u v = (nodes_of h, len m, x m st, y m st)
  stats_same (Done (Stats a)) (Refused Memory) x y u v = no_memory v
  stats_same (Done (Stats a)) b x y u v = absurd y
  stats_same (Refused Memory) b x y u v = no_memory u
  stats_same a b x y u v = absurd x

  tells_same : (k : Survey) (a b : Outcome V) → TellsOf h k a → TellsOf h k b → IsUnrefused a → IsUnrefused b → SameAnswer a b
  tells_same survey.Keys a b x y u v = keys_same a b x y u v
  tells_same survey.IsEmpty a b x y u v = empty_same a b x y
  tells_same survey.Stats a b x y u v = stats_same a b x y u v

start_itself : (V : Type 0) (b : Bool) → SameAnswer {V = V} (start_told b) (start_told b)
start_itself V true = refl
start_itself V false = refl

module _ {V : Type 0} where
  told_itself : (o : Moved V) → SameAnswer (told o) (told o)
  told_itself moved.Running = refl
  told_itself (moved.Asks found) = refl
  told_itself (moved.Found place key value) = refl
  told_itself (moved.Done reply) = refl
  told_itself (moved.Scanned count) = refl
  told_itself (moved.Refused cause) = refl

  both : (a b c : Outcome V) → a ≡ c → b ≡ c → SameAnswer c c → SameAnswer a b
  both a b c e f x = let P : Outcome V → Type 0 = λ z. SameAnswer z b in let Q : Outcome V → Type 0 = λ z. SameAnswer c z in subst P (sym e) (subst Q (sym f) x)

module _ {V : Type 0} (same : V → V → Bool) (most : ℕ) where
  step_again : (p : Plain V) (w : ℕ) (t : TreeEvent V) (a b : Report V) → EventTells same most p w t a.decided a.outcome → EventTells same most p w t b.decided b.outcome → IsUnrefused a.outcome → IsUnrefused b.outcome → (a.decided ≡ b.decided) × SameAnswer a.outcome b.outcome
  step_again p w (Starts op) a b x y u v = (x.0 ∙ sym y.0, both a.outcome b.outcome (start_told (finds_none op)) x.1 y.1 (start_itself V (finds_none op)))
  step_again p w (Tells k) a b x y u v = (x.0 ∙ sym y.0, tells_same p.heap x.1.0 x.1.1 k a.outcome b.outcome x.2 y.2 u v)
  step_again p w (Goes noise) a b x y u v =
      (x.0 ∙ sym y.0, both a.outcome b.outcome (told (plain_went same most p w noise).next_phase.report.outcome) x.1 y.1 (told_itself (plain_went same most p w noise).next_phase.report.outcome))

  -- two plain runs of the same steps
  told_again : (p : Plain V) (ts : List (TreeStep V)) (rs qs : List (Report V)) → AreTold same most p ts rs → AreTold same most p ts qs → NoneRefused rs → NoneRefused qs → AreSame rs qs
  told_again p [] [] [] x y u v = tt
  told_again p [] [] (b ∷ qs) x y u v = absurd y
  told_again p [] (a ∷ rs) qs x y u v = absurd x
  told_again p (t ∷ ts) [] qs x y u v = absurd x
  told_again p (t ∷ ts) (a ∷ rs) [] x y u v = absurd y
  told_again p (t ∷ ts) (a ∷ rs) (b ∷ qs) x y u v = (step_again p t.worker t.event a b x.0 y.0 u.0 v.0, told_again (step_after same most p t) ts rs qs x.1 y.1 u.1 v.1)

  -- the answers of a run that refuses nothing on the tree
  first_unrefused : (w : ℕ) (event : Event V) (k : Kind) (r : Report V) (rs : List (Report V)) → r.kind ≡ k → IsUnhindered r → NoneRefused rs → NoneRefused (with_first (step_at w event k) r rs)
  first_unrefused w event kind.Collection r rs e u v = v
  first_unrefused w event kind.Tree r rs e u v = or_unrefused (event_at w event) (u e).0 v
    where
      or_unrefused : (o : Option (TreeStep V)) → IsUnrefused r.outcome → NoneRefused rs → NoneRefused (with_first o r rs)
      or_unrefused None u v = v
      or_unrefused (Some t) u v = (u, v)

  answers_unrefused : (steps : List (Step V)) (reports : List (Report V)) → AreUnrefused reports → NoneRefused (answers steps reports)
  answers_unrefused [] rs u = tt
  answers_unrefused (s ∷ ss) [] u = tt
  answers_unrefused (s ∷ ss) (r ∷ rs) u = first_unrefused s.worker s.event r.kind r (answers ss rs) refl u.0 (answers_unrefused ss rs u.1)

  -- so two runs with equal steps on the tree, each beside the same plain state, tell the same on it
  pub runs_again : (p : Plain V) (a b : List (Step V)) (q r : List (Report V)) → AreTold same most p (projection a q) (answers a q) → AreTold same most p (projection b r) (answers b r) → AreUnrefused q → AreUnrefused r → projection a q ≡ projection b r
      → AreSame (answers a q) (answers b r)
  runs_again p a b q r x y u v e =
      let P : List (TreeStep V) → Type 0 = λ z. AreTold same most p z (answers b r) in
      told_again p (projection a q) (answers a q) (answers b r) x (subst P (sym e) y) (answers_unrefused a q u) (answers_unrefused b r v)
