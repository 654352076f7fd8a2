-- A step of a call leaves all sound, where it touches nothing of the collector but the cells.
use Rattle.std.proofs.Common.{◌≡◌, ◌<◌, arith, ℕ, zero, suc, Bool, true, List, [], ◌∷◌, sym, ap, inl, inr, ◌⊎◌}
use Rattle.std.proofs.Math.ListN.{set}
use Rattle.std.specs.Prelude.{Option, None, Some, is_some, slice_get}
use Rattle.std.specs.List.{Contains}
use Rattle.crossbeam_epoch.specs.declared.names.Name.{Name}
use Rattle.crossbeam_epoch.specs.world.Machine.{State, place, with_store}
use Rattle.crossbeam_epoch.specs.world.Store.{Store}
use Rattle.crossbeam_epoch.specs.world.Reach.{Quiet, Moment, WasIn, marks_of, moment}
use Rattle.congee.specs.declared.forms.base_node.NodeType.{NodeType}
use Rattle.congee.specs.declared.protocol.store.Refusal.{Refusal}
use Rattle.congee.specs.declared.protocol.phase.Placement.{Placement}
use Rattle.congee.specs.declared.protocol.phase.Placement.TheVariants.{Set, Link}
use Rattle.congee.specs.declared.protocol.phase.Replacement.{Replacement}
use Rattle.congee.specs.declared.protocol.phase.Replacement.TheVariants.{Unlink, Grow, GrowLink, Split, Shrink, Collapse, ShrinkAbove}
use Rattle.congee.specs.declared.protocol.phase.Plan.{Plan}
use Rattle.congee.specs.declared.protocol.phase.Plan.TheVariants.{Here, Above}
use Rattle.congee.specs.declared.protocol.phase.Phase.{Phase}
use Rattle.congee.specs.declared.protocol.phase.Phase.TheVariants.{MakeGreater, MakeBeside, AskNew, CheckAbove, UpgradeHere, ChangeHere, UpgradeTop, UpgradeAbove, UpgradeBelow, ChangeAbove}
use Rattle.congee.specs.declared.protocol.machine.Machine.{Machine}
use Rattle.congee.specs.declared.protocol.machine.Move.{Move}
use Rattle.congee.specs.protocol.Handing.{Untouched}
use Rattle.congee.specs.protocol.Leaving.{StepLeaves}
use Rattle.congee.specs.Notes.{Note}
use Rattle.congee.specs.protocol.Holdings.{MadeForHere, MadeForAbove, MadeForPlan, IsMade, MadeBy, Holdings}
use Rattle.congee.specs.protocol.Steps.{Stepped}
use Rattle.congee.specs.protocol.Answers.{Keeps, KeepsProtocol}
use Rattle.congee.specs.protocol.Names.{KeepsOrigin}
use Rattle.congee.specs.protocol.Play.{EachKnown, ProtocolAt, Settled}
use Rattle.joint.specs.declared.id.Id.{Id}
use Rattle.joint.specs.declared.nodes.slot.Slot.{Slot}
use Rattle.joint.specs.Names.{number}
use Rattle.joint.specs.engine.Safety.{IsSound}
use Rattle.joint.specs.nodes.Slots.{slot_names}
use Rattle.joint.specs.nodes.View.{view, heap, id_number}
use Rattle.joint.specs.nodes.Ties.{Ties}
use Rattle.joint.specs.engine.Laws.{CellLaws, CallLaws, LeavesLaw}
use Rattle.joint.specs.NameLemmas.{same_name}
use Rattle.joint.specs.engine.Sound.{Guards}
use Rattle.joint.proofs.lemmas.engine.NamesInStretch.{in_stretch}
use Rattle.joint.proofs.lemmas.nodes.Views.{heap_ties}
use Rattle.joint.proofs.lemmas.nodes.SlotViews.{slot_view}
use Rattle.joint.proofs.lemmas.engine.GivenBack.{backs, same_marks, still_in}
use Rattle.joint.proofs.lemmas.engine.SoundCells.{stepped}

-- the nodes that a call has made
abbrev made_one : Placement Id → List Id
made_one Set = []
made_one (Link leaf) = leaf ∷ []

abbrev made_two : Replacement Id → List Id
made_two Unlink = []
made_two (Shrink c) = c ∷ []
made_two Collapse = []
made_two (ShrinkAbove c) = c ∷ []
made_two (Grow c) = c ∷ []
made_two (GrowLink c leaf byte) = c ∷ leaf ∷ []
made_two (Split top leaf common byte) = top ∷ leaf ∷ []

abbrev made_plan : Plan Id → List Id
made_plan (Here check one) = made_one one.change
made_plan (Above two) = made_two two.change

abbrev made_leaf : Option Id → List Id
made_leaf None = []
made_leaf (Some leaf) = leaf ∷ []

-- the nodes that a call in this phase has made and not yet hung
abbrev pub mades : {V : Type 0} → Phase Id V → List Id
mades (MakeGreater s p leaf) = made_leaf leaf
mades (MakeBeside p at common byte top) = top ∷ []
mades (AskNew plan) = made_plan plan
mades (CheckAbove p one r) = made_one one.change
mades (UpgradeHere one r) = made_one one.change
mades (ChangeHere one r) = made_one one.change
mades (UpgradeTop g two r) = made_two two.change
mades (UpgradeAbove two r) = made_two two.change
mades (UpgradeBelow two r) = made_two two.change
mades (ChangeAbove two r) = made_two two.change
mades _ = []

abbrev In : List Id → ℕ → Type 0
In [] n = ⊥
In (c ∷ cs) n = (n ≡ id_number c) ⊎ In cs n

in_one : (change : Placement Id) (n : ℕ) → MadeForHere id_number change n → In (made_one change) n
in_one Set n x = absurd x
in_one (Link leaf) n x = inl x

in_two : (change : Replacement Id) (n : ℕ) → MadeForAbove id_number change n → In (made_two change) n
in_two Unlink n x = absurd x
in_two (Shrink c) n x = inl x
in_two Collapse n x = absurd x
in_two (ShrinkAbove c) n x = inl x
in_two (Grow c) n x = inl x
in_two (GrowLink c leaf byte) n (inl x) = inl x
in_two (GrowLink c leaf byte) n (inr x) = inr (inl x)
in_two (Split top leaf common byte) n (inl x) = inl x
in_two (Split top leaf common byte) n (inr x) = inr (inl x)

in_plan : (plan : Plan Id) (n : ℕ) → MadeForPlan id_number plan n → In (made_plan plan) n
in_plan (Here check one) n x = in_one one.change n x
in_plan (Above two) n x = in_two two.change n x

in_leaf : (leaf : Option Id) (n : ℕ) → IsMade id_number leaf n → In (made_leaf leaf) n
in_leaf None n x = absurd x
in_leaf (Some leaf) n x = inl x

in_made : {V : Type 0} (s : Phase Id V) (n : ℕ) → MadeBy id_number s n → In (mades s) n
in_made (MakeGreater s p leaf) n x = in_leaf leaf n x
in_made (MakeBeside p at common byte top) n x = inl x
in_made (AskNew plan) n x = in_plan plan n x
in_made (CheckAbove p one r) n x = in_one one.change n x
in_made (UpgradeHere one r) n x = in_one one.change n x
in_made (ChangeHere one r) n x = in_one one.change n x
in_made (UpgradeTop g two r) n x = in_two two.change n x
in_made (UpgradeAbove two r) n x = in_two two.change n x
in_made (UpgradeBelow two r) n x = in_two two.change n x
in_made (ChangeAbove two r) n x = in_two two.change n x
in_made _ n x = absurd x

of_one : (change : Placement Id) (n : ℕ) → In (made_one change) n → MadeForHere id_number change n
of_one Set n x = x
of_one (Link leaf) n (inl x) = x
of_one (Link leaf) n (inr x) = absurd x

of_two : (change : Replacement Id) (n : ℕ) → In (made_two change) n → MadeForAbove id_number change n
of_two Unlink n x = x
of_two (Shrink c) n (inl x) = x
of_two (Shrink c) n (inr x) = absurd x
of_two Collapse n x = x
of_two (ShrinkAbove c) n (inl x) = x
of_two (ShrinkAbove c) n (inr x) = absurd x
of_two (Grow c) n (inl x) = x
of_two (Grow c) n (inr x) = absurd x
of_two (GrowLink c leaf byte) n (inl x) = inl x
of_two (GrowLink c leaf byte) n (inr (inl x)) = inr x
of_two (GrowLink c leaf byte) n (inr (inr x)) = absurd x
of_two (Split top leaf common byte) n (inl x) = inl x
of_two (Split top leaf common byte) n (inr (inl x)) = inr x
of_two (Split top leaf common byte) n (inr (inr x)) = absurd x

of_plan : (plan : Plan Id) (n : ℕ) → In (made_plan plan) n → MadeForPlan id_number plan n
of_plan (Here check one) n x = of_one one.change n x
of_plan (Above two) n x = of_two two.change n x

of_leaf : (leaf : Option Id) (n : ℕ) → In (made_leaf leaf) n → IsMade id_number leaf n
of_leaf None n x = x
of_leaf (Some leaf) n (inl x) = x
of_leaf (Some leaf) n (inr x) = absurd x

of_made : {V : Type 0} (s : Phase Id V) (n : ℕ) → In (mades s) n → MadeBy id_number s n
of_made (MakeGreater s p leaf) n x = of_leaf leaf n x
of_made (MakeBeside p at common byte top) n (inl x) = x
of_made (MakeBeside p at common byte top) n (inr x) = absurd x
of_made (AskNew plan) n x = of_plan plan n x
of_made (CheckAbove p one r) n x = of_one one.change n x
of_made (UpgradeHere one r) n x = of_one one.change n x
of_made (ChangeHere one r) n x = of_one one.change n x
of_made (UpgradeTop g two r) n x = of_two two.change n x
of_made (UpgradeAbove two r) n x = of_two two.change n x
of_made (UpgradeBelow two r) n x = of_two two.change n x
of_made (ChangeAbove two r) n x = of_two two.change n x
of_made _ n x = absurd x

-- by their names
abbrev name_list : List Id → List Name
name_list [] = []
name_list (c ∷ cs) = c.name ∷ name_list cs

listed : (cs : List Id) (n : Name) → In cs (number n) → Contains (name_list cs) n
listed [] n x = absurd x
listed (c ∷ cs) n (inl e) = (0, omega arith, sym (same_name n c.name e))
listed (c ∷ cs) n (inr x) = let y : Contains (name_list cs) n = listed cs n x in (suc y.0, omega (arith, y.1), y.2)

of_list : (cs : List Id) (n : Name) → Contains (name_list cs) n → In cs (number n)
of_list [] n x = absurd (let bad : x.0 < 0 = x.1 in omega (arith, bad))
of_list (c ∷ cs) n (zero, l, e) = inl (sym (ap number e))
of_list (c ∷ cs) n (suc k, l, e) = inr (of_list cs n (k, omega (arith, l), e))

-- what a step of a call leaves: all is sound, and what was in reach before it was in reach still
pub record Went {J V : Type 0} (same : V → V → Bool) (always : Bool) (past : List Moment) (s' : State (Slot V) J) (ms' : List (Machine Id V)) : Type 0 where
  pub sound : IsSound same always s' ms'
  pub marks : marks_of sound.past ≡ marks_of past
  pub still : (n : Name) → WasIn past n → WasIn sound.past n

-- the whole step: all that is asked is what a step says, and the frame
pub step_sound : {J V : Type 0} (same : V → V → Bool) (always : Bool) (cells : CellLaws {T = Slot V} J slot_names) (calls : CallLaws {C = Id} {V = V} id_number same always) (most : ℕ) (why : NodeType → Refusal → Type 0)
    (leaves : LeavesLaw {C = Id} {V = V} id_number same always most why) (s : State (Slot V) J) (ms : List (Machine Id V)) (i : IsSound same always s ms) (who : ℕ) (m m' : Machine Id V) (d : Move V) (st' : Store (Slot V)) (fail : Bool) (answer : Option (Option V))
    → slice_get ms who ≡ Some m → is_some (place s who).word ≡ true → Guards (place s who) m'
    → Stepped id_number same always most why m (heap s.store) fail answer m' (heap st') d
    → KeepsProtocol id_number same always m (heap s.store) m' (heap st') d
    → KeepsOrigin id_number same always m (heap s.store) m' (heap st')
    → ((a : ℕ → Note) → ProtocolAt id_number same always a (heap s.store) ms → Holdings id_number a (heap s.store) ms → Settled id_number same always (heap st') (set ms who m'))
    → Untouched (heap s.store) (heap st')
    → Went same always i.past (with_store s st') (set ms who m')
step_sound {J} {V} same always cells calls most why leaves s ms i who m m' d st' fail answer at pin guards st keeps origin settled untouched =
    let a : ℕ → Note = i.sound.settled.0 in
    let p : ProtocolAt id_number same always a (heap s.store) ms = i.sound.settled.1 in
    let known : EachKnown id_number same always a (heap s.store) who m = p.each who m at in
    let k : Keeps id_number same always who a m (heap s.store) m' (heap st') d = keeps who a known.root p.tree p.words known.known in
    let tied : Ties slot_names s.store (heap s.store) = heap_ties slot_names view slot_view s.store in
    let tied' : Ties slot_names st' (heap st') = heap_ties slot_names view slot_view st' in
    let more : StepLeaves id_number who a k.notes (heap s.store) (heap st') m m' = leaves who a (heap s.store) (heap st') ms m m' d fail answer p i.sound.settled.2 at k st in
    let back : List Name = name_list (mades m.phase) in
    let all : IsSound same always (with_store s st') (set ms who m') = record {
      top = i.top;
      past = moment slot_names Quiet (with_store s st') ∷ backs slot_names s i.past back;
      sound = stepped slot_names view slot_view id_number same always cells calls i.top i.past s ms i.sound who m m' at d st' guards (in_stretch (marks_of i.past) s who i.sound.tells.fits pin) k
          (origin who a known.root p.tree p.words known.known) (settled a p i.sound.settled.2) untouched more back
          (λ n live. elim (more.lost (number n) (tied.stands n live)) [
            | inl y ↦ inl (tied'.live n y)
            | inr made ↦ inr (listed (mades m.phase) n (in_made m.phase (number n) made))
          ])
          (λ n c. of_made m.phase (number n) (of_list (mades m.phase) n c));
    } in
    record { sound = all; marks = same_marks slot_names s i.past back; still = λ n w. inr (still_in slot_names s cells i.past i.sound.tells.now back n w) }
