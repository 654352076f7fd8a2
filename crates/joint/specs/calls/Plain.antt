-- The plain run: the steps of a run on the tree, taken on nodes that are known by their numbers and never taken away. So it
-- has no cell, no collector and no budget, and nothing of it depends on them.
use Rattle.std.specs.Prelude.{◌≡◌, ℕ, Bool, true, false, List, [], ◌∷◌, length, Option, None, Some, slice_get}
use Rattle.congee.specs.declared.forms.base_node.NodeType.TheVariants.{N256}
use Rattle.congee.specs.declared.forms.child.Child.{Child}
use Rattle.congee.specs.declared.forms.child.Child.TheVariants as child
use Rattle.congee.specs.declared.protocol.machine.Machine.{Machine}
use Rattle.congee.specs.declared.protocol.machine.Noise.{Noise}
use Rattle.congee.specs.declared.protocol.op.Op.{Op as Point}
use Rattle.congee.specs.declared.protocol.store.Seen.{Seen}
use Rattle.congee.specs.Heap.{Node, vacant}
use Rattle.congee.specs.Keys.{IsMapOf}
use Rattle.congee.specs.owned.Stats.{Shape, IsTally}
use Rattle.congee.specs.protocol.Alike.{Ordered, HeapAlike, CallAlike, Longer}
use Rattle.congee.specs.protocol.PlainSteps.{Mark, put, new_node, Plain, with_call, call_after, Went, plain_step}
use Rattle.congee.specs.protocol.Play.{begun}
use Rattle.congee.specs.protocol.State.{ended}
use Rattle.judge.specs.Answer.{Pairs}
use Rattle.joint.specs.declared.engine.in_flight.InFlight.{InFlight}
use Rattle.joint.specs.declared.engine.in_flight.InFlight.TheVariants.{Idle, Collecting, Reserving, Securing, Walking}
use Rattle.joint.specs.declared.id.Id.{Id}
use Rattle.joint.specs.declared.refusal.Refusal.{Refusal}
use Rattle.joint.specs.declared.refusal.Refusal.TheVariants.{Exhausted}
use Rattle.joint.specs.declared.steps.Event.{Event}
use Rattle.joint.specs.declared.steps.Event.TheVariants.{Register, Begin, Go}
use Rattle.joint.specs.declared.steps.Kind.{Kind}
use Rattle.joint.specs.declared.steps.Kind.TheVariants.{Tree, Collection as OfCollector}
use Rattle.joint.specs.declared.steps.Outcome.{Outcome}
use Rattle.joint.specs.declared.steps.Outcome.TheVariants.{Running, Done, Refused}
use Rattle.joint.specs.declared.steps.Done.TheVariants as done
use Rattle.joint.specs.declared.steps.Report.{Report}
use Rattle.joint.specs.declared.steps.Step.{Step}
use Rattle.joint.specs.declared.steps.Survey.{Survey}
use Rattle.joint.specs.declared.steps.Target.{Target}
use Rattle.joint.specs.declared.steps.Target.TheVariants as target
use Rattle.joint.specs.nodes.Nodes.{nodes}
use Rattle.joint.specs.Reports.{target, told}
use Rattle.joint.specs.engine.Surveys.{TellsOf}
use Rattle.joint.specs.nodes.View.{id_number}
use Rattle.joint.specs.engine.Engine.{World, finds_none}

-- what happens in a step on the tree: a call begins, a call of one step tells, or a call goes on. Each name that an event
-- tells of a changed node is one mark, since none is followed
pub data TreeEvent (V : Type 0) : Type 0 where
  Starts : Point V → TreeEvent V
  Tells : Survey → TreeEvent V
  Goes : Noise Mark V → TreeEvent V

-- a step on the tree, with its worker
pub record TreeStep (V : Type 0) : Type 0 where
  pub worker : ℕ
  pub event : TreeEvent V

-- a child without the name of its node
abbrev pub unnamed_child : {V : Type 0} → Child Id V → Child Mark V
unnamed_child child.Blank = child.Blank
unnamed_child (child.Node c) = child.Node tt
unnamed_child (child.Value v) = child.Value v

-- what was seen of a changed node, without names
abbrev pub unnamed_seen : {V : Type 0} → Option (Seen Id V) → Option (Seen Mark V)
unnamed_seen None = None
unnamed_seen (Some s) = Some (record { child = unnamed_child s.child; byte = s.byte; full = s.full; count = s.count })

-- what comes to a step from outside, without names
abbrev pub unnamed : {V : Type 0} → Noise Id V → Noise Mark V
unnamed n = record { fail = n.fail; seen = unnamed_seen n.seen; answer = n.answer }

-- what a begin is on the tree: nothing, where it is of a call on the collector
abbrev pub begin_at : {V : Type 0} → ℕ → Target V → Option (TreeStep V)
begin_at who (target.Collector op) = None
begin_at who (target.Tree op) = Some (record { worker = who; event = Starts op })
begin_at who (target.Survey k) = Some (record { worker = who; event = Tells k })

-- what an event is on the tree
abbrev pub event_at : {V : Type 0} → ℕ → Event V → Option (TreeStep V)
event_at who Register = None
event_at who (Begin op) = begin_at who (target op)
event_at who (Go noise) = Some (record { worker = who; event = Goes (unnamed noise) })

-- a step on the tree, where its report says that it was one
abbrev pub step_at : {V : Type 0} → ℕ → Event V → Kind → Option (TreeStep V)
step_at who event OfCollector = None
step_at who event Tree = event_at who event

-- the same of a step with its report
abbrev pub tree_step : {V : Type 0} → Step V → Report V → Option (TreeStep V)
tree_step s r = step_at s.worker s.event r.kind

-- a list with one more in front, where an option has something
abbrev pub with_first : {A B : Type 0} → Option A → B → List B → List B
with_first None b bs = bs
with_first (Some a) b bs = b ∷ bs

-- a list behind what an option has
abbrev pub with_some : {A : Type 0} → Option A → List A → List A
with_some None bs = bs
with_some (Some a) bs = a ∷ bs

-- a run's steps on the tree, with worker and event
abbrev pub projection : {V : Type 0} → List (Step V) → List (Report V) → List (TreeStep V)
projection [] rs = []
projection (s ∷ ss) [] = []
projection (s ∷ ss) (r ∷ rs) = with_some (tree_step s r) (projection ss rs)

-- what a run's steps on the tree told
abbrev pub answers : {V : Type 0} → List (Step V) → List (Report V) → List (Report V)
answers [] rs = []
answers (s ∷ ss) [] = []
answers (s ∷ ss) (r ∷ rs) = with_first (tree_step s r) r (answers ss rs)

-- a node that isn't made
abbrev pub unmade : {V : Type 0} → Node V
unmade = vacant false false false

-- the plain state in which the root alone was made, and no call is in flight
abbrev pub opened_plain : {V : Type 0} → Plain V
opened_plain = record {
  heap = put (λ n. unmade) 0 (new_node N256 []);
  made = 1;
  calls = λ w. ended 0;
}

-- a call begins; a scan that can find nothing ends as it begins
abbrev pub started : {V : Type 0} → Bool → Plain V → ℕ → Point V → Plain V
started true s who op = s
started false s who op = with_call s who (begun 0 op)

-- what it tells
abbrev pub start_told : {V : Type 0} → Bool → Outcome V
start_told true = Done (done.Scanned 0)
start_told false = Running

module _ {V : Type 0} (same : V → V → Bool) (most : ℕ) where
  -- a further step of a call, in the plain run
  abbrev pub plain_went : Plain V → ℕ → Noise Mark V → Went V
  plain_went s who noise = plain_step same most (s.calls who) noise s.heap s.made

  -- the state after a step
  abbrev pub event_after : Plain V → ℕ → TreeEvent V → Plain V
  event_after s who (Starts op) = started (finds_none op) s who op
  event_after s who (Tells k) = s
  event_after s who (Goes noise) = with_call (record s { heap = (plain_went s who noise).heap; made = (plain_went s who noise).made }) who (call_after (s.calls who) (plain_went s who noise))

  -- the same of a step with its worker
  abbrev pub step_after : Plain V → TreeStep V → Plain V
  step_after s t = event_after s t.worker t.event

  -- the state after these steps
  abbrev pub plain_after : Plain V → List (TreeStep V) → Plain V
  plain_after s [] = s
  plain_after s (t ∷ ts) = plain_after (step_after s t) ts

  -- what a step tells: whether the call took effect, and how it stands; a call of one step tells of the map that stands in the
  -- nodes, and of the nodes
  abbrev pub EventTells : Plain V → ℕ → TreeEvent V → Bool → Outcome V → Type 0
  EventTells s who (Starts op) decided o = (decided ≡ false) × (o ≡ start_told (finds_none op))
  EventTells s who (Tells k) decided o = (decided ≡ false) × ((m : Pairs V) × IsMapOf s.heap m) × TellsOf s.heap k o
  EventTells s who (Goes noise) decided o = (decided ≡ (plain_went s who noise).next_phase.report.decided) × (o ≡ told (plain_went s who noise).next_phase.report.outcome)

  -- the same of a step with its report
  abbrev pub StepTells : Plain V → TreeStep V → Report V → Type 0
  StepTells s t r = EventTells s t.worker t.event r.decided r.outcome

  -- the answers of a plain run of these steps
  abbrev pub AreTold : Plain V → List (TreeStep V) → List (Report V) → Type 0
  AreTold s [] [] = Unit {0}
  AreTold s [] (r ∷ rs) = ⊥
  AreTold s (t ∷ ts) [] = ⊥
  AreTold s (t ∷ ts) (r ∷ rs) = StepTells s t r × AreTold (step_after s t) ts rs

-- an answer that isn't a refusal for memory, budget, cells, journal, a copy or misuse; that no version is left is no such
-- cause, since both runs tell it
abbrev pub IsUnrefused : {V : Type 0} → Outcome V → Type 0
IsUnrefused o = (e : Refusal) → o ≡ Refused e → e ≡ Exhausted

-- a step on the tree wasn't refused so, nor went on without a node for want of memory, budget or cells; what the collector
-- refuses counts for nothing
abbrev pub IsUnhindered : {V : Type 0} → Report V → Type 0
IsUnhindered r = r.kind ≡ Tree → IsUnrefused r.outcome × (r.skipped ≡ false)

-- so are all these reports
abbrev pub AreUnrefused : {V : Type 0} → List (Report V) → Type 0
AreUnrefused [] = Unit {0}
AreUnrefused (r ∷ rs) = IsUnhindered r × AreUnrefused rs

-- a worker's call, and the same one by numbers: a writing call that still makes its places free hasn't begun on the tree
abbrev pub InPlain : {V : Type 0} → List ℕ → (ℕ → Node V) → InFlight V → Machine Id V → Machine ℕ V → Type 0
InPlain order h Idle m q = Unit {0}
InPlain order h (Collecting op) m q = Unit {0}
InPlain order h (Reserving op) m q = q ≡ begun 0 op
InPlain order h (Securing op) m q = q ≡ begun 0 op
InPlain order h Walking m q = CallAlike order id_number h m q

-- the machine's nodes in the order in which they were made; so a state of the plain run agrees with that of the machine: by
-- number on the nodes that aren't destroyed, and on the calls in flight
pub record Agree {V : Type 0} (s : World V) (order : List ℕ) (p : Plain V) : Type 0 where
  pub ordered : Ordered order (nodes s.forest)
  pub root : slice_get order 0 ≡ Some 0
  pub made : p.made ≡ length order
  pub heap : HeapAlike order (nodes s.forest) p.heap
  pub calls : (i : ℕ) (k : InFlight V) (m : Machine Id V) → slice_get s.calls i ≡ Some k → slice_get s.machines i ≡ Some m → InPlain order (nodes s.forest) k m (p.calls i)

-- a step leaves both agreeing: one on the tree moves both and tells what the plain run's tells, any other leaves that as it is
abbrev pub FollowsStep : {V : Type 0} → (V → V → Bool) → ℕ → Option (TreeStep V) → World V → Report V → List ℕ → Plain V → Type 0
FollowsStep same most None s r order p = Agree s order p
FollowsStep same most (Some t) s r order p = StepTells same most p t r × ((now : List ℕ) × Longer order now × Agree s now (step_after same most p t))

-- a run of these steps, which told this, told on the tree what the plain run of its projection tells, and leaves both agreeing
pub record FollowsRun {V : Type 0} (same : V → V → Bool) (most : ℕ) (steps : List (Step V)) (reports : List (Report V)) (s : World V) (order : List ℕ) (p : Plain V) : Type 0 where
  pub told : AreTold same most p (projection steps reports) (answers steps reports)
  pub now : List ℕ
  pub longer : Longer order now
  pub agree : Agree s now (plain_after same most p (projection steps reports))

-- two answers say the same: of lists their elements, of statistics that both are of the same nodes and as many pairs
abbrev pub SameAnswer : {V : Type 0} → Outcome V → Outcome V → Type 0
SameAnswer (Done (done.Keys a)) (Done (done.Keys b)) = a.items ≡ b.items
SameAnswer (Done (done.Stats a)) (Done (done.Stats b)) = (shapes : List Shape) × (pairs : ℕ) × IsTally a shapes pairs × IsTally b shapes pairs
SameAnswer a b = a ≡ b

-- so do these reports, one by one
abbrev pub AreSame : {V : Type 0} → List (Report V) → List (Report V) → Type 0
AreSame [] [] = Unit {0}
AreSame [] (b ∷ qs) = ⊥
AreSame (a ∷ rs) [] = ⊥
AreSame (a ∷ rs) (b ∷ qs) = ((a.decided ≡ b.decided) × SameAnswer a.outcome b.outcome) × AreSame rs qs
