-- A call whose steps nobody else's come between: what is sure before each of them, and how many are left at most.
use Rattle.std.specs.Prelude.{ltb, ◌≡◌, ◌≢◌, ℕ, zero, suc, ◌+◌, ◌*◌, ◌-◌, ◌<◌, true, List, [], ◌∷◌, length, slice_get, Option, None, Some, cond}
use Rattle.congee.specs.declared.protocol.store.Stamp.{Stamp}
use Rattle.congee.specs.declared.protocol.store.Least.{Least}
use Rattle.congee.specs.declared.protocol.store.Least.TheVariants as least
use Rattle.congee.specs.declared.protocol.op.Op.{Op}
use Rattle.congee.specs.declared.protocol.op.Op.TheVariants as op
use Rattle.congee.specs.declared.protocol.phase.Kind.{Kind}
use Rattle.congee.specs.declared.protocol.phase.Kind.TheVariants.{ComputeInsert}
use Rattle.congee.specs.declared.protocol.phase.Parent.{Parent}
use Rattle.congee.specs.declared.protocol.phase.Above.{Above as Over}
use Rattle.congee.specs.declared.protocol.phase.Site.{Site}
use Rattle.congee.specs.declared.protocol.phase.Plan.{Plan}
use Rattle.congee.specs.declared.protocol.phase.Plan.TheVariants.{Here, Above}
use Rattle.congee.specs.declared.protocol.phase.Phase.{Phase}
use Rattle.congee.specs.declared.protocol.phase.Phase.TheVariants.{New, Version, Read, Check, CheckUncopied, CheckMiss, CheckDown, CheckOld, MakeLeaf, MakeGreater, MakeTop, MakeBeside, MakeLesser, AskOld, AskNew, Confirm, CheckAbove, UpgradeHere, ChangeHere, UpgradeTop, UpgradeAbove, UpgradeBelow, ChangeAbove, Obsolete, Retire, UnlockBelow, Unlock, Unwind, Scan, Ended}
use Rattle.congee.specs.declared.protocol.machine.Machine.{Machine}
use Rattle.congee.specs.declared.protocol.scan.Rung.{Rung}
use Rattle.congee.specs.declared.protocol.scan.Stage.{Stage}
use Rattle.congee.specs.declared.protocol.scan.Stage.TheVariants as stage
use Rattle.congee.specs.declared.protocol.scan.ScanState.{ScanState as ScanState}
use Rattle.congee.specs.Heap.{Node, Hung, Nothing, Below, Holds, is_free, is_taken}
use Rattle.congee.specs.protocol.Holdings.{LockedBy}
use Rattle.congee.specs.protocol.ScanSteps.{rungs_of}
use Rattle.congee.specs.declared.keys.TheConstants.{KEY_BYTES}
use Rattle.congee.specs.declared.forms.prefix.TheConstants.{MAX_PREFIX_LEN}

-- the nodes whose lock words a call is yet to compare with the ones that it took
abbrev pub stamps_if : {C : Type 0} → Option (Stamp C) → List (Stamp C)
stamps_if None = []
stamps_if (Some p) = p ∷ []

-- that of the node above both, if there is one
abbrev pub stamps_top : {C : Type 0} → Option (Parent C) → List (Stamp C)
stamps_top None = []
stamps_top (Some p) = p.stamp ∷ []

-- those of the nodes above, if there are any
abbrev pub stamps_over : {C : Type 0} → Option (Over C) → List (Stamp C)
stamps_over None = []
stamps_over (Some u) = u.near.stamp ∷ stamps_top u.far

-- those of the node at hand and of the nodes above
abbrev pub stamps_site : {C : Type 0} → Site C → List (Stamp C)
stamps_site s = s.at ∷ stamps_over s.above

-- those of a plan
abbrev pub stamps_plan : {C : Type 0} → Plan C → List (Stamp C)
stamps_plan (Here check one) = one.at ∷ stamps_if check
stamps_plan (Above two) = two.above.stamp ∷ two.at ∷ []

-- those of a scan's way
abbrev pub stamps_rungs : {C : Type 0} → List (Rung C) → List (Stamp C)
stamps_rungs [] = []
stamps_rungs (r ∷ rest) = r.at ∷ stamps_rungs rest

-- those of a scan, by its stage
abbrev pub stamps_scan : {C V : Type 0} → ScanState C V → Stage C V → List (Stamp C)
stamps_scan s stage.New = []
stamps_scan s (stage.Enter n x) = stamps_rungs (rungs_of s.above)
stamps_scan s (stage.Look r) = r.at ∷ stamps_rungs (rungs_of s.above)
stamps_scan s (stage.Check r x) = r.at ∷ stamps_rungs (rungs_of s.above)
stamps_scan s stage.Full = []
stamps_scan s stage.Over = []

-- those of a call, by its phase
abbrev pub stamps : {C V : Type 0} → Phase C V → List (Stamp C)
stamps New = []
stamps (Version above n) = stamps_over above
stamps (Read above at) = at ∷ stamps_over above
stamps (Check s c) = stamps_site s
stamps (CheckUncopied at) = at ∷ []
stamps (CheckMiss p at common byte) = p.stamp ∷ at ∷ []
stamps (CheckDown p at c) = p ∷ at.near.stamp ∷ stamps_top at.far
stamps (CheckOld p s v) = p ∷ stamps_site s
stamps (MakeLeaf s) = stamps_site s
stamps (MakeGreater s p leaf) = p.stamp ∷ s.at ∷ []
stamps (MakeTop p at common byte) = p.stamp ∷ at ∷ []
stamps (MakeBeside p at common byte top) = p.stamp ∷ at ∷ []
stamps (MakeLesser s p g r) = p.stamp ∷ s.at ∷ stamps_top g
stamps (AskOld s v) = stamps_site s
stamps (AskNew plan) = stamps_plan plan
stamps (Confirm at r) = at ∷ []
stamps (CheckAbove p one r) = p ∷ one.at ∷ []
stamps (UpgradeHere one r) = one.at ∷ []
stamps (ChangeHere one r) = []
stamps (UpgradeTop g two r) = g.stamp ∷ two.above.stamp ∷ two.at ∷ []
stamps (UpgradeAbove two r) = two.above.stamp ∷ two.at ∷ []
stamps (UpgradeBelow two r) = two.at ∷ []
stamps (ChangeAbove two r) = []
stamps (Obsolete n next p r) = []
stamps (Retire n next p r) = []
stamps (UnlockBelow n p r) = []
stamps (Unlock n r) = []
stamps (Unwind n next e) = []
stamps (Scan s) = stamps_scan s s.stage
stamps Ended = []

-- each lock word is the one taken
abbrev pub AreTaken : {C V : Type 0} → (C → ℕ) → (ℕ → Node V) → List (Stamp C) → Type 0
AreTaken number h [] = Unit {0}
AreTaken number h (s ∷ rest) = (is_taken (h (number s.node)) s.version ≡ true) × AreTaken number h rest

-- no exchange of a lock word has failed but at the greatest version, and the node that a scan is to enter is free
abbrev pub IsFreeAt : {C V : Type 0} → (C → ℕ) → (ℕ → Node V) → Stage C V → Type 0
IsFreeAt number h (stage.Enter n x) = is_free (h (number n)) ≡ true
IsFreeAt number h _ = Unit {0}

-- the same of a call, by its phase
abbrev pub IsClear : {C V : Type 0} → (C → ℕ) → (ℕ → Node V) → Phase C V → Type 0
IsClear number h (Unwind n next None) = ⊥
IsClear number h (Scan s) = IsFreeAt number h s.stage
IsClear number h _ = Unit {0}

-- nobody has changed what the call is yet to rely on
abbrev pub IsUndisturbed : {C V : Type 0} → (C → ℕ) → (ℕ → Node V) → Phase C V → Type 0
IsUndisturbed number h s = AreTaken number h (stamps s) × IsClear number h s

-- no other call holds a lock
abbrev pub NoOtherLocks : {C V : Type 0} → (C → ℕ) → ℕ → List (Machine C V) → Type 0
NoOtherLocks {C} {V} number i ms = (j n : ℕ) (m : Machine C V) → j ≢ i → slice_get ms j ≡ Some m → LockedBy number m.phase n → ⊥

-- the closure gave an answer to its call's question
abbrev pub IsAnswer : {V : Type 0} → Kind V → Option (Option V) → Type 0
IsAnswer kind None = ⊥
IsAnswer ComputeInsert (Some None) = ⊥
IsAnswer kind (Some o) = Unit {0}

-- where the next step takes one
abbrev pub HasAnswer : {C V : Type 0} → Kind V → Phase C V → Option (Option V) → Type 0
HasAnswer kind (AskOld s v) answer = IsAnswer kind answer
HasAnswer kind (AskNew plan) answer = IsAnswer kind answer
HasAnswer kind _ answer = Unit {0}

-- the call has ended
abbrev pub IsPast : {C V : Type 0} → Phase C V → Type 0
IsPast (Scan s) = s.stage ≡ stage.Over
IsPast Ended = Unit {0}
IsPast _ = ⊥

-- it is one on a key, and has not ended
abbrev pub IsPoint : {C V : Type 0} → Phase C V → Type 0
IsPoint (Scan s) = ⊥
IsPoint Ended = ⊥
IsPoint _ = Unit {0}

-- the sum over the bytes from one on and below another one
unfoldable pub sum_from : (ℕ → ℕ) → ℕ → ℕ → ℕ
sum_from g from zero = 0
sum_from g from (suc b) = sum_from g from b + cond (ltb b from) 0 (g b)

-- a call on one key takes four steps at most at each node that it passes, and this many more from the last one on
abbrev pub steps_down : ℕ → List ℕ → ℕ
steps_down more prefix = more + 4 * (MAX_PREFIX_LEN - length prefix)

-- the steps at a second node that was taken out, or is to be unlocked
abbrev pub steps_next : {C : Type 0} → Option C → ℕ → ℕ
steps_next None k = 0
steps_next (Some c) k = k

module _ {V : Type 0} where
  -- the nodes at and below what hangs at a byte
  abbrev pub nodes_at : (ℕ → ℕ) → Hung V → ℕ
  nodes_at go Nothing = 0
  nodes_at go (Below c) = go c
  nodes_at go (Holds v) = 0

  -- the pairs at and below what hangs at a byte
  abbrev pub pairs_at : (ℕ → ℕ) → Hung V → ℕ
  pairs_at go Nothing = 0
  pairs_at go (Below c) = go c
  pairs_at go (Holds v) = 1

  -- those at and below a node, over so many levels at most
  unfoldable pub nodes_under : (ℕ → Node V) → ℕ → ℕ → ℕ
  nodes_under h zero n = 0
  nodes_under h (suc f) n = 1 + sum_from (λ b. nodes_at (λ c. nodes_under h f c) ((h n).children b)) 0 256

  -- the pairs below a node, over so many levels at most
  unfoldable pub pairs_under : (ℕ → Node V) → ℕ → ℕ → ℕ
  pairs_under h zero n = 0
  pairs_under h (suc f) n = sum_from (λ b. pairs_at (λ c. pairs_under h f c) ((h n).children b)) 0 256

  -- those of a tree
  abbrev pub tree_nodes : (ℕ → Node V) → ℕ
  tree_nodes h = nodes_under h KEY_BYTES 0

  -- the pairs of a tree
  abbrev pub tree_pairs : (ℕ → Node V) → ℕ
  tree_pairs h = pairs_under h KEY_BYTES 0

  -- the steps of a scan at what hangs at a byte: a value is found and told; a node is found, its version is taken, and it
  -- is looked through
  abbrev pub steps_at : (ℕ → ℕ) → Hung V → ℕ
  steps_at go Nothing = 0
  steps_at go (Below c) = 3 + go c
  steps_at go (Holds v) = 2

  -- and at a node from one of its bytes on, until it is left: the last two find nothing more
  unfoldable pub steps_under : (ℕ → Node V) → ℕ → ℕ → ℕ → ℕ
  steps_under h zero n from = 0
  steps_under h (suc f) n from = 2 + sum_from (λ b. steps_at (λ c. steps_under h f c 0) ((h n).children b)) from 256

  -- at the nodes of its way
  abbrev pub steps_way : {C : Type 0} → (C → ℕ) → (ℕ → Node V) → ℕ → List (Rung C) → ℕ
  steps_way number h f [] = 0
  steps_way number h f (r ∷ rest) = steps_under h f (number r.at.node) r.from + steps_way number h (f - 1) rest

  -- at a node in which this was found
  abbrev pub steps_found : {C : Type 0} → (C → ℕ) → (ℕ → Node V) → ℕ → Rung C → Least C V → ℕ
  steps_found number h f r least.Nothing = 1
  steps_found number h f r (least.Node byte c) = 2 + steps_under h (f - 1) (number c) 0 + steps_under h f (number r.at.node) (byte + 1)
  steps_found number h f r (least.Value byte v) = 1 + steps_under h f (number r.at.node) (byte + 1)
  steps_found number h f r least.Uncopied = 1

  -- the steps that a scan takes at most from here on
  abbrev pub steps_scan : {C : Type 0} → (C → ℕ) → (ℕ → Node V) → ScanState C V → Stage C V → ℕ
  steps_scan number h s stage.New = 1 + steps_under h KEY_BYTES 0 0
  steps_scan number h s (stage.Enter n x) = 1 + steps_under h (KEY_BYTES - s.above.len) (number n) 0 + steps_way number h KEY_BYTES (rungs_of s.above)
  steps_scan number h s (stage.Look r) = steps_under h (KEY_BYTES - s.above.len) (number r.at.node) r.from + steps_way number h KEY_BYTES (rungs_of s.above)
  steps_scan number h s (stage.Check r x) = steps_found number h (KEY_BYTES - s.above.len) r x + steps_way number h KEY_BYTES (rungs_of s.above)
  steps_scan number h s stage.Full = 1
  steps_scan number h s stage.Over = 0

  -- the steps that a call takes at most from here on
  abbrev pub steps_left : {C : Type 0} → (C → ℕ) → (ℕ → Node V) → Phase C V → ℕ
  steps_left number h New = steps_down 15 []
  steps_left number h (Version above n) = steps_down 15 (h (number n)).prefix
  steps_left number h (Read above at) = steps_down 14 (h (number at.node)).prefix
  steps_left number h (Check s c) = steps_down 13 (h (number s.at.node)).prefix
  steps_left number h (CheckUncopied at) = 1
  steps_left number h (CheckMiss p at common byte) = 12
  steps_left number h (CheckDown p at c) = steps_down 16 (h (number c)).prefix
  steps_left number h (CheckOld p s v) = 12
  steps_left number h (MakeLeaf s) = 11
  steps_left number h (MakeGreater s p leaf) = 10
  steps_left number h (MakeTop p at common byte) = 11
  steps_left number h (MakeBeside p at common byte top) = 10
  steps_left number h (MakeLesser s p g r) = 10
  steps_left number h (AskOld s v) = 11
  steps_left number h (AskNew plan) = 9
  steps_left number h (Confirm at r) = 1
  steps_left number h (CheckAbove p one r) = 4
  steps_left number h (UpgradeHere one r) = 3
  steps_left number h (ChangeHere one r) = 2
  steps_left number h (UpgradeTop g two r) = 9
  steps_left number h (UpgradeAbove two r) = 8
  steps_left number h (UpgradeBelow two r) = 7
  steps_left number h (ChangeAbove two r) = 6
  steps_left number h (Obsolete n next p r) = 3 + steps_next next 2
  steps_left number h (Retire n next p r) = 2 + steps_next next 2
  steps_left number h (UnlockBelow n p r) = 2
  steps_left number h (Unlock n r) = 1
  steps_left number h (Unwind n next e) = 1 + steps_next next 1
  steps_left number h (Scan s) = steps_scan number h s s.stage
  steps_left number h Ended = 0

-- and a whole call after its begin: on one key, or a scan
abbrev pub steps_whole : {V : Type 0} → (ℕ → Node V) → Op V → ℕ
steps_whole h (op.Range start end size) = 5 * tree_nodes h + 2 * tree_pairs h
steps_whole h (op.RangeInclusive start last size) = 5 * tree_nodes h + 2 * tree_pairs h
steps_whole h _ = 43

-- what a step of a call taken alone leaves: the call is undisturbed, and nearer to its end
pub record StepsOn {C V : Type 0} (number : C → ℕ) (h : ℕ → Node V) (s : Phase C V) (h' : ℕ → Node V) (s' : Phase C V) : Type 0 where
  pub undisturbed : IsUndisturbed number h' s'
  pub nearer : steps_left number h' s' < steps_left number h s
