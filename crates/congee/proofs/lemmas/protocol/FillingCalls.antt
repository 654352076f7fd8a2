-- Calls on a tree that stays filled: as they begin, over each step, and where nodes are destroyed.
use Rattle.std.proofs.Common.{◌≡◌, ℕ, Bool, true, false, List, [], ◌∷◌, inl, inr, sym, ◌∙◌, subst}
use Rattle.std.proofs.Math.ListN.{set}
use Rattle.std.specs.Prelude.{Option, Some, slice_get}
use Rattle.congee.specs.declared.forms.base_node.NodeType.{NodeType}
use Rattle.congee.specs.declared.protocol.store.Refusal.{Refusal}
use Rattle.congee.specs.declared.protocol.phase.Kind.{Kind}
use Rattle.congee.specs.declared.protocol.phase.Phase.{Phase}
use Rattle.congee.specs.declared.protocol.phase.Phase.TheVariants.{New, Scan}
use Rattle.congee.specs.declared.protocol.machine.Machine.{Machine}
use Rattle.congee.specs.declared.protocol.machine.Move.{Move}
use Rattle.congee.specs.Heap.{Node, Nothing, Below}
use Rattle.congee.specs.Keys.{key_bytes}
use Rattle.congee.specs.Notes.{Note}
use Rattle.congee.specs.protocol.Answers.{Keeps}
use Rattle.congee.specs.protocol.Destroys.{Destroys}
use Rattle.congee.specs.protocol.Filled.{AllBranch, AllFilledBy, Fills, KeepsFilled}
use Rattle.congee.specs.protocol.Handing.{Leads}
use Rattle.congee.specs.protocol.Holdings.{Holdings}
use Rattle.congee.specs.protocol.Opening.{FreshRoot}
use Rattle.congee.specs.protocol.Play.{IsBegin, IsNew, IsIdle, ProtocolAt}
use Rattle.congee.specs.protocol.Steps.{Stepped}
use Rattle.congee.proofs.lemmas.protocol.Each.{each_any}
use Rattle.congee.proofs.lemmas.protocol.Owners.{get_set}
use Rattle.congee.proofs.lemmas.protocol.Filling.{alike_same, still_filled}
use Rattle.congee.proofs.lemmas.protocol.FillingSteps.{step_next}
use Rattle.congee.proofs.lemmas.protocol.FillingKept.{step_filled, fills_kept}
use Rattle.congee.proofs.lemmas.protocol.Destroys.{spared_named, spared_rely, spared_linked}

begin_fills : {C V : Type 0} (by_form : Bool) (number : C → ℕ) (h : ℕ → Node V) (kind : Kind V) (given : Option V) (s : Phase C V) → IsBegin kind given s → Fills by_form number h given s
begin_fills by_form number h kind given New b = tt
begin_fills by_form number h kind given (Scan s) b = tt
begin_fills by_form number h kind given _ b = absurd b

-- a root alone leads to itself, so no other node is asked for children
root_filled : {V : Type 0} (by_form : Bool) (h : ℕ → Node V) → ((b : ℕ) → (h 0).children b ≡ Nothing) → AllFilledBy by_form h
root_filled by_form h bare n ne r = absurd (by_path r.0 r.1)
  where
    by_path : (path : List ℕ) → Leads h 0 path n → ⊥
    by_path [] e = ne (sym e)
    by_path (b ∷ path) e = let z : Nothing ≡ Below e.0 = sym (bare b) ∙ e.1 in cc

-- a root alone is filled, and calls that have not begun or have ended keep it so
pub filled_opens : {C V : Type 0} (by_form : Bool) (number : C → ℕ) (h : ℕ → Node V) (ms : List (Machine C V)) → FreshRoot h → ((i : ℕ) (m : Machine C V) → slice_get ms i ≡ Some m → IsIdle number m) → KeepsFilled by_form number h ms
filled_opens {C} {V} by_form number h ms r idle = record {
  tree = root_filled by_form h r.alone.bare;
  calls = λ i m e. elim (idle i m e).state [
    | inl new ↦ begin_fills by_form number h m.kind m.given m.phase new.begins
    | inr end ↦ (let P : Phase C V → Type 0 = λ s. Fills by_form number h m.given s in subst P (sym end) tt)
  ];
}

-- a root alone is filled, and calls that have not begun keep it so
pub begun_filled : {C V : Type 0} (by_form : Bool) (number : C → ℕ) (h : ℕ → Node V) (ms : List (Machine C V)) → FreshRoot h → ((i : ℕ) (m : Machine C V) → slice_get ms i ≡ Some m → IsNew m) → KeepsFilled by_form number h ms
begun_filled by_form number h ms r new = record { tree = root_filled by_form h r.alone.bare; calls = λ i m e. begin_fills by_form number h m.kind m.given m.phase (new i m e).begins }

-- with a call that has not begun in one place the tree stays filled, and the calls keep it so
pub filled_begins : {C V : Type 0} (by_form : Bool) (number : C → ℕ) (h : ℕ → Node V) (ms : List (Machine C V)) (i : ℕ) (new : Machine C V) → KeepsFilled by_form number h ms → IsNew new → KeepsFilled by_form number h (set ms i new)
filled_begins {C} {V} by_form number h ms i new f n = record {
  tree = f.tree;
  calls = λ j x g. elim (get_set ms i j new x g) [
    | inl q ↦ (let P : Machine C V → Type 0 = λ y. Fills by_form number h y.given y.phase in subst P q.1 (begin_fills by_form number h new.kind new.given new.phase n.begins))
    | inr q ↦ f.calls j x q.1
  ];
}

-- over a step the tree stays filled, and the calls keep it so; by the nodes' forms, if it skipped no node
pub filled_step : {C V : Type 0} (by_form : Bool) (number : C → ℕ) (same : V → V → Bool) (always : Bool) (most : ℕ) (why : NodeType → Refusal → Type 0) (i : ℕ) (a : ℕ → Note) (h h' : ℕ → Node V) (ms : List (Machine C V)) (m m' : Machine C V) (d : Move V) (fail : Bool) (answer : Option (Option V))
    → ProtocolAt number same always a h ms → slice_get ms i ≡ Some m → Keeps number same always i a m h m' h' d → Stepped number same always most why m h fail answer m' h' d → (by_form ≡ true → d.skipped ≡ false) → KeepsFilled by_form number h ms → KeepsFilled by_form number h' (set ms i m')
filled_step {C} {V} by_form number same always most why i a h h' ms m m' d fail answer p e k s skip f = record {
  tree = step_filled by_form number same always i a h h' m.key m.kind m.given p.tree p.words f.tree most why m.root fail answer m.phase m'.given (record { phase = m'.phase; report = d }) (p.each i m e).known (f.calls i m e) s.step;
  calls = λ j x g. elim (get_set ms i j m' x g) [
    | inl q ↦ (let P : Machine C V → Type 0 = λ y. Fills by_form number h' y.given y.phase in
        subst P q.1 (step_next by_form number same always i a h h' m.key m.kind m.given p.tree p.words f.tree most why m.root fail answer m.phase m'.given (record { phase = m'.phase; report = d }) (p.each i m e).known (f.calls i m e) skip s.step))
    | inr q ↦ fills_kept by_form number (key_bytes x.key) (λ _. Unit {0}) j a h k.notes h' (k.effect.others j q.0) same always x.key x.kind x.given x.phase (each_any _) (p.each j x q.1).known (f.calls j x q.1)
  ];
}

-- where nodes are destroyed that no call names, the tree stays filled, and the calls keep it so
pub filled_spared : {C V : Type 0} (by_form : Bool) (number : C → ℕ) (same : V → V → Bool) (always : Bool) (a : ℕ → Note) (h h' : ℕ → Node V) (ms : List (Machine C V)) → ProtocolAt number same always a h ms → Holdings number a h ms → Destroys number h ms h'
    → KeepsFilled by_form number h ms → KeepsFilled by_form number h' ms
filled_spared by_form number same always a h h' ms p s d f = record {
  tree = still_filled by_form a h p.tree f.tree h' (λ n l. alike_same (h n) (h' n) (spared_linked number same always a h ms h' p s d n l));
  calls = λ i m e. fills_kept by_form number (key_bytes m.key) (λ n. h' n ≡ h n) i a h _ h' (spared_rely number same always a h ms h' p s d i) same always m.key m.kind m.given m.phase (spared_named number same always a h ms h' p s d i m e) (p.each i m e).known (f.calls i m e);
}

-- nodes that have enough children have one, and two where they hold nodes
pub filled_branch : {V : Type 0} (by_form : Bool) (h : ℕ → Node V) → AllFilledBy by_form h → AllBranch h
filled_branch by_form h f n ne r = record { some = (f n ne r).some; branches = (f n ne r).branches }
