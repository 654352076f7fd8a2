-- What a step answers, as one map.
use Rattle.std.specs.Prelude.{◌≡◌, ◌≢◌, ℕ, Bool, true, false, List, length, Option, None, Some}
use Rattle.judge.specs.declared.journal.Reply.{Reply}
use Rattle.congee.specs.declared.protocol.phase.Kind.{Kind}
use Rattle.congee.specs.declared.protocol.phase.Phase.{Phase}
use Rattle.congee.specs.declared.protocol.phase.Phase.TheVariants.{Obsolete, Retire, UnlockBelow, Unlock}
use Rattle.congee.specs.declared.protocol.machine.Outcome.{Outcome}
use Rattle.congee.specs.declared.protocol.machine.Outcome.TheVariants.{Done}
use Rattle.congee.specs.declared.protocol.next_phase.NextPhase.{NextPhase}
use Rattle.congee.specs.Heap.{Node, value_at}
use Rattle.congee.specs.Keys.{key_bytes}
use Rattle.congee.specs.declared.protocol.machine.Machine.{Machine}
use Rattle.congee.specs.declared.protocol.machine.Move.{Move}
use Rattle.congee.specs.Notes.{Note, Tree, LockWords}
use Rattle.congee.specs.protocol.Protocol.{Settles, Known, Effect}
use Rattle.congee.specs.declared.keys.TheConstants.{KEY_BYTES}

-- each key has the value that it had
abbrev pub SameMap : {V : Type 0} → (ℕ → Node V) → (ℕ → Node V) → Type 0
SameMap h h' = (x : List ℕ) → length x ≡ KEY_BYTES → value_at h' x ≡ value_at h x

-- the call answers r by what stands at its key, and leaves there what the map's answer leaves
pub record Decides {V : Type 0} (same : V → V → Bool) (k : ℕ) (kind : Kind V) (given : Option V) (h : ℕ → Node V) (r : Reply V) (h' : ℕ → Node V) : Type 0 where
  pub found : Option V
  pub after : Option V
  pub settles : Settles same k kind given found r after
  pub before : value_at h (key_bytes k) ≡ found
  pub now : value_at h' (key_bytes k) ≡ after
  pub rest : (x : List ℕ) → length x ≡ KEY_BYTES → x ≢ key_bytes k → value_at h' x ≡ value_at h x

-- the reply that a call which took effect will give
abbrev pub reply_in : {C V : Type 0} → Phase C V → Option (Reply V)
reply_in (Obsolete n next p r) = Some r
reply_in (Retire n next p r) = Some r
reply_in (UnlockBelow n p r) = Some r
reply_in (Unlock n r) = Some r
reply_in _ = None

-- the reply that a step's report or its next phase gives, or will give
abbrev pub told_or : {V : Type 0} → Option (Reply V) → Outcome V → Option (Reply V)
told_or later (Done r) = Some r
told_or later _ = later

-- the same of a step
abbrev pub told : {C V : Type 0} → NextPhase C V → Option (Reply V)
told t = told_or (reply_in t.phase) t.report.outcome

-- a step that decides answers, and each other step leaves the map
abbrev pub AnswersIf : {C V : Type 0} → Bool → (V → V → Bool) → ℕ → Kind V → Option V → (ℕ → Node V) → NextPhase C V → (ℕ → Node V) → Type 0
AnswersIf {C} {V} true same k kind given h t h' = (r : Reply V) × (told t ≡ Some r) × Decides same k kind given h r h'
AnswersIf false same k kind given h t h' = SameMap h h'

-- the same of a step with its report
abbrev pub StepAnswers : {C V : Type 0} → (V → V → Bool) → ℕ → Kind V → Option V → (ℕ → Node V) → NextPhase C V → (ℕ → Node V) → Type 0
StepAnswers same k kind given h t h' = AnswersIf t.report.decided same k kind given h t h'

-- a step of call i: the tree stands after it, the other calls may count on what they know, this one knows what its
-- next phase says, and the step answers as the map
pub record Keeps {C V : Type 0} (number : C → ℕ) (same : V → V → Bool) (always : Bool) (i : ℕ) (a : ℕ → Note) (m : Machine C V) (h : ℕ → Node V)
    (m' : Machine C V) (h' : ℕ → Node V) (d : Move V) : Type 0 where
  pub notes : ℕ → Note
  pub effect : Effect i a h notes h'
  pub known : Known number same always i notes h' m'.key (key_bytes m'.key) m'.kind m'.given m'.phase
  pub answer : StepAnswers same m.key m.kind m.given h (record { phase = m'.phase; report = d }) h'

-- whichever call it is, and whatever others do in between, as long as they keep what it knows
abbrev pub KeepsProtocol : {C V : Type 0} → (C → ℕ) → (V → V → Bool) → Bool → Machine C V → (ℕ → Node V) → Machine C V → (ℕ → Node V) → Move V → Type 0
KeepsProtocol number same always m h m' h' d = (i : ℕ) (a : ℕ → Note) → number m.root ≡ 0 → Tree a h → LockWords a h
    → Known number same always i a h m.key (key_bytes m.key) m.kind m.given m.phase → Keeps number same always i a m h m' h' d
