-- The steps of a list of calls, with what stood after each; and a call whose steps nobody else's come between.
use Rattle.std.specs.Prelude.{◌≡◌, ℕ, ◌+◌, ◌*◌, ◌<◌, Bool, true, false, List, [], ◌∷◌, length, take, map, Some, slice_get}
use Rattle.congee.specs.declared.forms.base_node.NodeType.{NodeType}
use Rattle.congee.specs.declared.protocol.store.Refusal.{Refusal}
use Rattle.congee.specs.declared.protocol.op.Op.{Op}
use Rattle.congee.specs.declared.protocol.op.Op.TheVariants as op
use Rattle.congee.specs.declared.protocol.phase.Kind.{Kind}
use Rattle.congee.specs.declared.protocol.machine.Outcome.{Outcome}
use Rattle.congee.specs.declared.protocol.machine.Outcome.TheVariants.{Running, Asks, Found, Done, Scanned, Refused}
use Rattle.congee.specs.declared.protocol.machine.Move.{Move}
use Rattle.congee.specs.declared.protocol.machine.Machine.{Machine}
use Rattle.congee.specs.declared.protocol.run.Step.{Step}
use Rattle.congee.specs.Heap.{Node}
use Rattle.congee.specs.protocol.Alone.{NoOtherLocks, IsAnswer, tree_nodes, tree_pairs}
use Rattle.congee.specs.protocol.Play.{parts, begun, NextAt}

-- a step that was done, with what it told, and the nodes and the calls after it
pub record Traced (C V : Type 0) : Type 0 where
  pub step : Step C V
  pub move : Move V
  pub nodes : ℕ → Node V
  pub calls : List (Machine C V)

-- steps done one after another: each is the next one of its call on what the store answers, and refuses for its cause alone
abbrev pub AreTraced : {C V : Type 0} → (C → ℕ) → (V → V → Bool) → Bool → ℕ → ((ℕ → Node V) → NodeType → Refusal → Type 0) → (ℕ → Node V) → List (Machine C V) → List (Traced C V) → Type 0
AreTraced number same always most why h ms [] = Unit {0}
AreTraced number same always most why h ms (t ∷ ts) = NextAt number same always most (why h) h ms (slice_get ms t.step.who) t.step t.move t.nodes t.calls × AreTraced number same always most why t.nodes t.calls ts

-- the nodes, and the calls, after them
abbrev pub nodes_after : {C V : Type 0} → (ℕ → Node V) → List (Traced C V) → (ℕ → Node V)
nodes_after h [] = h
nodes_after h (t ∷ ts) = nodes_after t.nodes ts

-- the calls after them
abbrev pub calls_after : {C V : Type 0} → List (Machine C V) → List (Traced C V) → List (Machine C V)
calls_after ms [] = ms
calls_after ms (t ∷ ts) = calls_after t.calls ts

-- these steps, which told this, from one state to another
pub record IsTrace {C V : Type 0} (number : C → ℕ) (same : V → V → Bool) (always : Bool) (most : ℕ) (why : (ℕ → Node V) → NodeType → Refusal → Type 0) (h : ℕ → Node V) (ms : List (Machine C V)) (steps : List (Step C V)) (moves : List (Move V))
    (h' : ℕ → Node V) (ms' : List (Machine C V)) : Type 0 where
  pub traced : List (Traced C V)
  pub each : AreTraced number same always most why h ms traced
  pub steps_are : map (λ t. t.step) traced ≡ steps
  pub moves_are : map (λ t. t.move) traced ≡ moves
  pub nodes_are : nodes_after h traced ≡ h'
  pub calls_are : calls_after ms traced ≡ ms'

-- the call has not ended
abbrev pub goes_on : {V : Type 0} → Outcome V → Bool
goes_on Running = true
goes_on (Asks o) = true
goes_on (Found place key x) = true
goes_on (Done r) = false
goes_on (Scanned count) = false
goes_on (Refused e) = false

-- its closure's answer is wanted
abbrev pub is_asked : {V : Type 0} → Outcome V → Bool
is_asked (Asks o) = true
is_asked _ = false

-- a step of this call, in which no exchange is to fail, with an answer where the closure was asked
pub record IsNext {C V : Type 0} (who : ℕ) (kind : Kind V) (asked : Bool) (t : Traced C V) : Type 0 where
  pub own : t.step.who ≡ who
  pub unfailed : t.step.noise.fail ≡ false
  pub answered : asked ≡ true → IsAnswer kind t.step.noise.answer

-- such steps one after another
abbrev pub AreNext : {C V : Type 0} → ℕ → Kind V → Bool → List (Traced C V) → Type 0
AreNext who kind asked [] = Unit {0}
AreNext who kind asked (t ∷ ts) = IsNext who kind asked t × AreNext who kind (is_asked t.move.outcome) ts

-- none of them ends its call
abbrev pub AllGoOn : {C V : Type 0} → List (Traced C V) → Type 0
AllGoOn [] = Unit {0}
AllGoOn (t ∷ ts) = (goes_on t.move.outcome ≡ true) × AllGoOn ts

-- within how many steps a call ends that is taken alone: by the nodes and the pairs of the tree for a scan
abbrev pub steps_alone : {V : Type 0} → (ℕ → Node V) → Op V → ℕ
steps_alone h (op.Range start end size) = 5 * tree_nodes h + 2 * tree_pairs h + 2
steps_alone h (op.RangeInclusive start last size) = 5 * tree_nodes h + 2 * tree_pairs h + 2
steps_alone h _ = 60

-- where a call has not begun, no other call holds a lock, and the next n steps are the call's, so many don't leave it in
-- flight
abbrev pub EndsAlone : {C V : Type 0} → (C → ℕ) → (ℕ → Node V) → List (Machine C V) → List (Traced C V) → Type 0
EndsAlone {C} {V} number h ms ts = (who n : ℕ) (root : C) (op : Op V) → slice_get ms who ≡ Some (begun root op) → NoOtherLocks number who ms → AreNext who (parts op).1 false (take n ts) → AllGoOn (take n ts) → length (take n ts) < steps_alone h op

-- at each step
abbrev pub AllEndAlone : {C V : Type 0} → (C → ℕ) → (ℕ → Node V) → List (Machine C V) → List (Traced C V) → Type 0
AllEndAlone number h ms [] = Unit {0}
AllEndAlone number h ms (t ∷ ts) = EndsAlone number h ms (t ∷ ts) × AllEndAlone number t.nodes t.calls ts
