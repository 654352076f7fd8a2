-- Which nodes the steps of calls hand over for destruction: each node once, after it left the tree, and a call two at most.
use Rattle.std.specs.Prelude.{◌≡◌, ◌≢◌, ℕ, ◌<◌, ◌≤◌, ◌⊎◌, ◌&&◌, not, Bool, true, false, List, [], ◌∷◌, ◌++◌, length, None, Some, slice_get}
use Rattle.std.specs.List.{Contains}
use Rattle.congee.specs.declared.protocol.phase.Phase.{Phase}
use Rattle.congee.specs.declared.protocol.phase.Phase.TheVariants.{Obsolete, Retire, Unlock, Ended}
use Rattle.congee.specs.declared.protocol.machine.Machine.{Machine}
use Rattle.congee.specs.declared.protocol.run.Step.{Step}
use Rattle.congee.specs.Heap.{Node, Below, Stands}
use Rattle.congee.specs.protocol.Holdings.{MadeBy, TakenBy}

-- the node was handed over, and isn't destroyed
abbrev pub is_handed_over : {V : Type 0} → Node V → Bool
is_handed_over n = n.retired && (n.made && not n.destroyed)

-- from node n down, these bytes lead to node c
abbrev pub Leads : {V : Type 0} → (ℕ → Node V) → ℕ → List ℕ → ℕ → Type 0
Leads h n [] c = n ≡ c
Leads h n (b ∷ path) c = (d : ℕ) × ((h n).children b ≡ Below d) × Leads h d path c

-- a path from the root leads to the node
abbrev pub InTree : {V : Type 0} → (ℕ → Node V) → ℕ → Type 0
InTree h n = (path : List ℕ) × Leads h 0 path n

-- and none does
abbrev pub IsOut : {V : Type 0} → (ℕ → Node V) → ℕ → Type 0
IsOut h n = (path : List ℕ) → Leads h 0 path n → ⊥

-- what each call has handed over, in order, by the calls' places, before and after a step of call i: nothing more
pub record HandsNothing {V : Type 0} (by : ℕ → List ℕ) (h : ℕ → Node V) (by' : ℕ → List ℕ) (h' : ℕ → Node V) : Type 0 where
  pub calls : (j : ℕ) → by' j ≡ by j
  pub nodes : (m : ℕ) → is_handed_over (h' m) ≡ is_handed_over (h m)

-- or one node: the call of the step had handed over one at most, and nobody had handed over this one, which is marked and
-- out of the tree
pub record HandsNode {V : Type 0} (by : ℕ → List ℕ) (h : ℕ → Node V) (i n : ℕ) (by' : ℕ → List ℕ) (h' : ℕ → Node V) : Type 0 where
  pub few : length (by i) < 2
  pub now : by' i ≡ by i ++ n ∷ []
  pub others : (j : ℕ) → j ≢ i → by' j ≡ by j
  pub marked : (h n).obsolete ≡ true
  pub out : IsOut h n
  pub before : is_handed_over (h n) ≡ false
  pub after : is_handed_over (h' n) ≡ true
  pub nodes : (m : ℕ) → m ≢ n → is_handed_over (h' m) ≡ is_handed_over (h m)

-- a step hands over nothing, or one node
abbrev pub HandsAt : {V : Type 0} → (ℕ → List ℕ) → (ℕ → Node V) → ℕ → (ℕ → List ℕ) → (ℕ → Node V) → Type 0
HandsAt by h i by' h' = HandsNothing by h by' h' ⊎ ((n : ℕ) × HandsNode by h i n by' h')

-- steps, one after another
abbrev pub Hands : {C V : Type 0} → (ℕ → List ℕ) → (ℕ → Node V) → List (Step C V) → (ℕ → List ℕ) → (ℕ → Node V) → Type 0
Hands by h [] by' h' = (by' ≡ by) × (h' ≡ h)
Hands {C} {V} by h (s ∷ steps) by' h' = (by1 : ℕ → List ℕ) × (h1 : ℕ → Node V) × HandsAt by h s.who by1 h1 × Hands by1 h1 steps by' h'

-- a call that handed over so many nodes lets its last lock go, or has ended; or it handed over one, and the second is next
abbrev pub IsLeaving : {C V : Type 0} → Phase C V → ℕ → Type 0
IsLeaving (Obsolete m None p r) k = k ≡ 1
IsLeaving (Retire m None p r) k = k ≡ 1
IsLeaving (Unlock m r) k = Unit {0}
IsLeaving Ended k = Unit {0}
IsLeaving _ k = ⊥

-- so is each call that handed over some
abbrev pub Leaving : {C V : Type 0} → (ℕ → List ℕ) → List (Machine C V) → Type 0
Leaving {C} {V} by ms = (i : ℕ) → by i ≢ [] → (m : Machine C V) × (slice_get ms i ≡ Some m) × IsLeaving m.phase (length (by i))

-- what was handed over stays as it is
abbrev pub Untouched : {V : Type 0} → (ℕ → Node V) → (ℕ → Node V) → Type 0
Untouched h h' = (n : ℕ) → is_handed_over (h n) ≡ true → h' n ≡ h n

-- what the calls of a run handed over, each of them two nodes at most: each node once, by one call, and what waits
-- after the run waited before it or was handed over in it; no path leads to what waits, and nobody changes it
pub record Handing {C V : Type 0} (by : ℕ → List ℕ) (h : ℕ → Node V) (steps : List (Step C V)) (h' : ℕ → Node V) (ms' : List (Machine C V)) : Type 0 where
  pub run : Hands (λ _. []) h steps by h'
  pub leaving : Leaving by ms'
  pub few : (i : ℕ) → length (by i) ≤ 2
  pub once : (i j n k l : ℕ) → slice_get (by i) k ≡ Some n → slice_get (by j) l ≡ Some n → (i ≡ j) × (k ≡ l)
  pub new : (i n : ℕ) → Contains (by i) n → (is_handed_over (h n) ≡ false) × (is_handed_over (h' n) ≡ true)
  pub all : (n : ℕ) → is_handed_over (h' n) ≡ true → (is_handed_over (h n) ≡ true) ⊎ ((i : ℕ) × Contains (by i) n)
  pub out : (n : ℕ) → is_handed_over (h' n) ≡ true → IsOut h' n
  pub untouched : Untouched h h'

-- what each call has taken out of the tree, before and after a step of call i: nothing more, and what was in the
-- tree is in it
pub record TakesNothing {V : Type 0} (took : ℕ → List ℕ) (h : ℕ → Node V) (took' : ℕ → List ℕ) (h' : ℕ → Node V) : Type 0 where
  pub calls : (j : ℕ) → took' j ≡ took j
  pub tree : (m : ℕ) → InTree h m → InTree h' m

-- one node, or two
abbrev pub AreOneOrTwo : List ℕ → Type 0
AreOneOrTwo (m ∷ []) = Unit {0}
AreOneOrTwo (m ∷ n ∷ []) = m ≢ n
AreOneOrTwo _ = ⊥

-- or these: the call of the step had taken out none, and every other node stays in the tree
pub record TakesNodes {V : Type 0} (took : ℕ → List ℕ) (h : ℕ → Node V) (i : ℕ) (nodes : List ℕ) (took' : ℕ → List ℕ) (h' : ℕ → Node V) : Type 0 where
  pub first : took i ≡ []
  pub few : AreOneOrTwo nodes
  pub now : took' i ≡ nodes
  pub others : (j : ℕ) → j ≢ i → took' j ≡ took j
  pub was : (n : ℕ) → Contains nodes n → InTree h n
  pub out : (n : ℕ) → Contains nodes n → IsOut h' n
  pub tree : (m : ℕ) → (Contains nodes m → ⊥) → InTree h m → InTree h' m

-- a step takes out nothing, or these
abbrev pub TakesAt : {V : Type 0} → (ℕ → List ℕ) → (ℕ → Node V) → ℕ → (ℕ → List ℕ) → (ℕ → Node V) → Type 0
TakesAt took h i took' h' = TakesNothing took h took' h' ⊎ ((nodes : List ℕ) × TakesNodes took h i nodes took' h')

-- steps, one after another, on both: what is handed over was taken out at an earlier step
abbrev pub Leaves : {C V : Type 0} → (took by : ℕ → List ℕ) → (ℕ → Node V) → List (Step C V) → (took' by' : ℕ → List ℕ) → (ℕ → Node V) → Type 0
Leaves took by h [] took' by' h' = (took' ≡ took) × (by' ≡ by) × (h' ≡ h)
Leaves {C} {V} took by h (s ∷ steps) took' by' h' = (took1 : ℕ → List ℕ) × (by1 : ℕ → List ℕ) × (h1 : ℕ → Node V) × TakesAt took h s.who took1 h1 × HandsAt by h s.who by1 h1
    × ((i n : ℕ) → Contains (by1 i) n → Contains (took i) n) × Leaves took1 by1 h1 steps took' by' h'

-- a call hands over the nodes that it took out, and nothing else; until then it has them between two of its steps
pub record Due {C V : Type 0} (number : C → ℕ) (by took : ℕ → List ℕ) (ms : List (Machine C V)) : Type 0 where
  pub handed : (i n : ℕ) → Contains (by i) n → Contains (took i) n
  pub due : (i n : ℕ) → Contains (took i) n → Contains (by i) n ⊎ ((m : Machine C V) × (slice_get ms i ≡ Some m) × TakenBy number m.phase n)
  pub held : (i n : ℕ) (m : Machine C V) → slice_get ms i ≡ Some m → TakenBy number m.phase n → Contains (took i) n

-- each node that stands is in the tree, waits for its destruction, or is a call's between two of its steps: made by it
-- and not hung yet, or taken out and not handed over yet
abbrev pub Accounted : {C V : Type 0} → (C → ℕ) → (ℕ → Node V) → List (Machine C V) → Type 0
Accounted {C} {V} number h ms = (n : ℕ) → Stands (h n) → (InTree h n ⊎ (is_handed_over (h n) ≡ true))
    ⊎ ((i : ℕ) × (m : Machine C V) × (slice_get ms i ≡ Some m) × (MadeBy number m.phase n ⊎ TakenBy number m.phase n))

-- what the calls of a run took out of the tree, that they hand it over, and that no node is lost
abbrev pub Unlinking : {C V : Type 0} → (C → ℕ) → (ℕ → List ℕ) → (ℕ → Node V) → List (Step C V) → (ℕ → Node V) → List (Machine C V) → Type 0
Unlinking number by h steps h' ms' = (took : ℕ → List ℕ) × Leaves (λ _. []) (λ _. []) h steps took by h' × Due number by took ms' × Accounted number h' ms'

-- one step of the calls, whatever they have handed over before
abbrev pub StepHands : {C V : Type 0} → (C → ℕ) → (ℕ → Node V) → List (Machine C V) → ℕ → (ℕ → Node V) → List (Machine C V) → Type 0
StepHands {C} {V} number h ms i h' ms' = (by : ℕ → List ℕ) → Leaving by ms → (by' : ℕ → List ℕ) × HandsAt by h i by' h' × Leaving by' ms'
    × ((j n : ℕ) → Contains (by' j) n → Contains (by j) n ⊎ ((m : Machine C V) × (slice_get ms j ≡ Some m) × TakenBy number m.phase n))

-- and taken out
abbrev pub StepTakes : {C V : Type 0} → (number : C → ℕ) → (h : ℕ → Node V) → (ms : List (Machine C V)) → (i : ℕ) → (h' : ℕ → Node V) → (ms' : List (Machine C V)) → StepHands number h ms i h' ms' → Type 0
StepTakes number h ms i h' ms' hands = (by took : ℕ → List ℕ) (l : Leaving by ms) → Due number by took ms → (took' : ℕ → List ℕ) × TakesAt took h i took' h' × Due number (hands by l).0 took' ms'
