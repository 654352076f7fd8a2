-- What a step of a call says of nodes follows from what it says today.
use Rattle.std.proofs.Common.{◌≡◌, ℕ, Bool, List, sym, ◌∙◌, ap, inl, inr}
use Rattle.std.specs.Prelude.{Option, Some, slice_get}
use Rattle.congee.specs.declared.protocol.machine.Machine.{Machine}
use Rattle.congee.specs.declared.protocol.machine.Move.{Move}
use Rattle.congee.specs.Heap.{Node}
use Rattle.congee.specs.Keys.{key_bytes}
use Rattle.congee.specs.Notes.{Note, Linked, Gone, is_published}
use Rattle.congee.specs.protocol.Holdings.{LockedBy, Holdings}
use Rattle.congee.specs.protocol.Steps.{MayStep, Stepped}
use Rattle.congee.specs.protocol.Answers.{Keeps}
use Rattle.congee.specs.protocol.Play.{EachKnown, Protocol, ProtocolAt}
use Rattle.congee.proofs.lemmas.protocol.ManyCalls.{may_step}
use Rattle.congee.proofs.lemmas.protocol.Owners.{made_held}
use Rattle.congee.specs.protocol.Leaving.{StepLeaves}
use Rattle.congee.specs.declared.forms.base_node.NodeType.{NodeType}
use Rattle.congee.specs.declared.protocol.store.Refusal.{Refusal}
use Rattle.congee.proofs.lemmas.protocol.Giving.{step_loses}
use Rattle.congee.proofs.lemmas.protocol.Lasting.{Still, step_still}
use Rattle.congee.proofs.lemmas.protocol.Naming.{named, locked_in}

-- a step leaves destroyed nodes and used names, takes out what was in reach, and destroys its own made nodes alone
pub step_leaves : {C V : Type 0} (number : C → ℕ) (same : V → V → Bool) (always : Bool) (most : ℕ) (why : NodeType → Refusal → Type 0) (i : ℕ) (a : ℕ → Note) (h h' : ℕ → Node V) (ms : List (Machine C V)) (m m' : Machine C V) (d : Move V)
    (fail : Bool) (answer : Option (Option V)) → ProtocolAt number same always a h ms → Holdings number a h ms → slice_get ms i ≡ Some m
    → (k : Keeps number same always i a m h m' h' d) → Stepped number same always most why m h fail answer m' h' d → StepLeaves number i a k.notes h h' m m'
step_leaves {C} {V} number same always most why i a h h' ms m m' d fail answer p hold at k st =
    let whole : Protocol number same always h ms = record { notes = a; tree = p.tree; words = p.words; each = p.each } in
    let may : MayStep number m.root (key_bytes m.key) m.given m.phase h = may_step number same always h ms i m whole at in
    let still : Still h h' = step_still number h h' same always most why m.root (key_bytes m.key) m.kind fail answer m.given m.phase m'.given (record { phase = m'.phase; report = d }) may st.step in
    record {
      dead = λ n made gone. (still n made).dead gone;
      used = λ n made. (still n made).used;
      gone = λ n g. elim ((k.effect.fares n).gone g) [
        | inl o ↦ elim ((k.effect.fares n).owner i o) [
          | inl was ↦ (
              let x : (y : Machine C V) × (slice_get ms i ≡ Some y) × LockedBy number y.phase n = hold.owned n i was in
              let e : EachKnown number same always a h i x.0 = p.each i x.0 x.1 in
              locked_in number same always i a h (key_bytes x.0.key) p.tree x.0.key x.0.kind x.0.given x.0.phase e.known n x.2)
          | inr new ↦ absurd (let z : Linked ≡ Gone = sym new.2 ∙ g in cc)
        ]
        | inr x ↦ ap is_published x.0
      ];
      named = λ n c. named number same always i k.notes h' (key_bytes m'.key) k.effect.tree m'.key m'.kind m'.given m'.phase k.known n c;
      mine = λ n made. made_held number same always i k.notes h' m'.key m'.kind m'.given n m'.phase k.known made;
      lost = step_loses number h h' same always most why m.root (key_bytes m.key) m.kind fail answer m.given m.phase m'.given (record { phase = m'.phase; report = d }) st.step;
    }
