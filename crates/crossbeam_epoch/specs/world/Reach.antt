-- What a guard may look at: reach over roots and links, and the user's part of the promise.
use Rattle.std.specs.Prelude.{◌≡◌, ℕ, ◌==◌, Bool, true, false, List, [], ◌∷◌, Option, Some, None, is_some, ◌⊎◌}
use Rattle.std.specs.List.{Contains}
use Rattle.crossbeam_epoch.specs.declared.names.Name.{Name}
use Rattle.crossbeam_epoch.specs.declared.names.Ptr.{Ptr}
use Rattle.crossbeam_epoch.specs.declared.world.report.Event.{Event}
use Rattle.crossbeam_epoch.specs.declared.world.report.Report.{Report}
use Rattle.crossbeam_epoch.specs.declared.world.report.Step.{Step}
use Rattle.crossbeam_epoch.specs.world.History.{Mark, Pinned, Repinned, Unpinned, Deferred, Called, WasDeferred}
use Rattle.crossbeam_epoch.specs.world.Machine.{State}
use Rattle.crossbeam_epoch.specs.world.Store.{Store, value_at, was_given}
use Rattle.crossbeam_epoch.specs.world.Steps.{after, marks}
use Rattle.crossbeam_epoch.specs.world.Fits.{Fits, IsTable}

-- what a call or a step did
pub data Act : Type 0 where
  -- nothing that a history marks
  Quiet : Act
  Marked : (mark : Mark) → Act
  -- a cell was given back
  GivenBack : (name : Name) → Act

-- an act, and what the roots and cells hold after it
pub record Moment : Type 0 where
  pub act : Act
  pub roots : List Ptr
  -- the names that a cell's value holds
  pub links : Name → List Name
  -- whether a name isn't destroyed
  pub live : Name → Bool

-- what happened, with the mark of an act
abbrev pub with_act : Act → List Mark → List Mark
with_act Quiet h = h
with_act (Marked mark) h = mark ∷ h
with_act (GivenBack name) h = h

-- what happened in these moments
abbrev pub marks_of : List Moment → List Mark
marks_of [] = []
marks_of (m ∷ h) = with_act m.act (marks_of h)

-- a path leads there from a root
pub data InReach (roots : List Ptr) (links : Name → List Name) : Name → Type 0 where
  from_root : (p : Ptr) → (n : Name) → Contains roots p → p.name ≡ Some n → InReach roots links n
  from_cell : (c n : Name) → InReach roots links c → Contains (links c) n → InReach roots links n

-- the name is in reach at this moment
abbrev pub IsIn : Moment → Name → Type 0
IsIn m n = InReach m.roots m.links n

-- the name was in reach at some moment
abbrev pub WasIn : List Moment → Name → Type 0
WasIn [] n = ⊥
WasIn (m ∷ h) n = IsIn m n ⊎ WasIn h n

-- the name wasn't destroyed at some moment
abbrev pub WasLive : List Moment → Name → Type 0
WasLive [] n = ⊥
WasLive (m ∷ h) n = (m.live n ≡ true) ⊎ WasLive h n

-- the act begins or ends a stretch of p
abbrev pub mark_changes_pin : Mark → ℕ → Bool
mark_changes_pin (Pinned who epoch) p = who == p
mark_changes_pin (Repinned who epoch) p = who == p
mark_changes_pin (Unpinned who) p = who == p
mark_changes_pin (Deferred ticket name) p = false
mark_changes_pin (Called ticket name) p = false

-- the same of an act
abbrev pub changes_pin : Act → ℕ → Bool
changes_pin Quiet p = false
changes_pin (Marked mark) p = mark_changes_pin mark p
changes_pin (GivenBack name) p = false

-- a step of this participant may mark this: a guard of its own comes or goes, or a job is called
abbrev pub mark_by : ℕ → Mark → Type 0
mark_by who (Pinned w epoch) = w ≡ who
mark_by who (Repinned w epoch) = w ≡ who
mark_by who (Unpinned w) = w ≡ who
mark_by who (Deferred ticket name) = ⊥
mark_by who (Called ticket name) = Unit {0}

-- the same of an act
abbrev pub IsBy : ℕ → Act → Type 0
IsBy who Quiet = Unit {0}
IsBy who (Marked mark) = mark_by who mark
IsBy who (GivenBack name) = ⊥

-- the name was in reach at some moment of p's present stretch
abbrev pub Visible : List Moment → ℕ → Name → Type 0
Visible [] p n = ⊥
Visible (m ∷ h) p n = IsIn m n ⊎ ((changes_pin m.act p ≡ false) × Visible h p n)

-- a cell is out of reach from the deferral of its removal on
abbrev pub LeavesFirst : List Moment → Type 0
LeavesFirst [] = Unit {0}
LeavesFirst (m ∷ h) = ((t : ℕ) (n : Name) → WasDeferred (marks_of (m ∷ h)) t n → IsIn m n → ⊥) × LeavesFirst h

-- a name comes into reach only while it isn't destroyed
abbrev pub EntersLive : List Moment → Type 0
EntersLive [] = Unit {0}
EntersLive (m ∷ []) = (n : Name) → IsIn m n → m.live n ≡ true
EntersLive (m ∷ b ∷ h) = ((n : Name) → IsIn m n → (m.live n ≡ true) ⊎ IsIn b n) × EntersLive (b ∷ h)

-- a cell that is given back was never in reach
abbrev pub GivesUnseen : List Moment → Type 0
GivesUnseen [] = Unit {0}
GivesUnseen (m ∷ h) = ((n : Name) → m.act ≡ GivenBack n → WasIn h n → ⊥) × GivesUnseen h

-- a cell that was in reach is in reach, or holds no other names than it held
abbrev pub KeepsLinks : List Moment → Type 0
KeepsLinks [] = Unit {0}
KeepsLinks (m ∷ []) = Unit {0}
KeepsLinks (m ∷ b ∷ h) = ((c : Name) → WasIn (b ∷ h) c → IsIn m c ⊎ ((n : Name) → Contains (m.links c) n → Contains (b.links c) n)) × KeepsLinks (b ∷ h)

-- the user's part
pub record IsCareful (h : List Moment) : Type 0 where
  pub leaves : LeavesFirst h
  pub enters : EntersLive h
  pub gives : GivesUnseen h

-- the act destroys the cell
abbrev pub mark_destroys : Mark → Name → Type 0
mark_destroys (Called ticket name) n = name ≡ Some n
mark_destroys (Pinned who epoch) n = ⊥
mark_destroys (Repinned who epoch) n = ⊥
mark_destroys (Unpinned who) n = ⊥
mark_destroys (Deferred ticket name) n = ⊥

-- the same of an act, which may also give the cell back
abbrev pub IsDestruction : Act → Name → Type 0
IsDestruction Quiet n = ⊥
IsDestruction (Marked mark) n = mark_destroys mark n
IsDestruction (GivenBack name) n = name ≡ n

-- each destruction is told by its act
abbrev pub DestructionsTold : List Moment → Type 0
DestructionsTold [] = Unit {0}
DestructionsTold (m ∷ []) = Unit {0}
DestructionsTold (m ∷ b ∷ h) = ((n : Name) → b.live n ≡ true → m.live n ≡ false → IsDestruction m.act n) × DestructionsTold (b ∷ h)

-- the names in a value, where there is one
abbrev pub links_in : {T : Type 0} → (T → List Name) → Option T → List Name
links_in names None = []
links_in names (Some v) = names v

-- the names that a cell's value holds
abbrev pub links_of : {T : Type 0} → (T → List Name) → Store T → Name → List Name
links_of names st n = links_in names (value_at st n)

-- the moment that shows a state, after an act
abbrev pub moment : {T J : Type 0} → (T → List Name) → Act → State T J → Moment
moment names act s = record { act = act; roots = s.roots; links = links_of names s.store; live = λ n. is_some (value_at s.store n) }

-- the newest moment shows the state
abbrev pub IsNow : {T J : Type 0} → (T → List Name) → List Moment → State T J → Type 0
IsNow names [] s = ⊥
IsNow names (m ∷ h) s = (m.roots ≡ s.roots) × ((n : Name) → m.live n ≡ is_some (value_at s.store n)) × ((n : Name) → m.links n ≡ links_of names s.store n)

-- the moments led to this state
pub record HasMoments {T J : Type 0} (names : T → List Name) (h : List Moment) (s : State T J) : Type 0 where
  pub fits : Fits (marks_of h) s
  pub now : IsNow names h s
  pub ends : DestructionsTold h
  pub table : IsTable s.limits.participants s.table
  pub given : (n : Name) → WasLive h n → was_given s.store n ≡ true

-- whatever moments led to a state lead, by this act, to the next
abbrev pub NextMoment : {T J : Type 0} → (T → List Name) → Act → State T J → State T J → Type 0
NextMoment names act s s' = (h : List Moment) → HasMoments names h s → HasMoments names (moment names act s' ∷ h) s'

-- where a pointer leads every stretch may look
abbrev pub InSight : {T J : Type 0} → (T → List Name) → State T J → Ptr → Type 0
InSight names s ptr = (h : List Moment) (p : ℕ) (n : Name) → HasMoments names h s → ptr.name ≡ Some n → Visible h p n

-- the act of a step: the mark that it adds
abbrev pub newest_act : List Mark → Act
newest_act [] = Quiet
newest_act (mark ∷ h) = Marked mark

-- the same of a step with its report
abbrev pub step_act : {T J : Type 0} → State T J → ℕ → Event → Report → Act
step_act s who event r = newest_act (marks s who event r [])

-- the moments after these steps
abbrev pub moments_after : {T J : Type 0} → (T → List Name) → State T J → List Step → List Report → List Moment → List Moment
moments_after names s [] reports h = h
moments_after names s (step ∷ steps) [] h = h
moments_after names s (step ∷ steps) (r ∷ reports) h =
    moments_after names (after s step.who step.event r.outcome) steps reports
    (moment names (step_act s step.who step.event r) (after s step.who step.event r.outcome) ∷ h)
