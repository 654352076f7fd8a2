-- A call among others, and the same call by numbers.
use Rattle.std.proofs.Common.{◌≡◌, ℕ, ◌-◌, Bool, false, cond, List, length, refl, sym, ◌∙◌, ap, subst, arith}
use Rattle.std.specs.Prelude.{Option, Some, slice_get, ltb, leb}
use Rattle.congee.specs.declared.forms.base_node.NodeType.{NodeType}
use Rattle.congee.specs.declared.protocol.op.Op.{Op}
use Rattle.congee.specs.declared.protocol.phase.Phase.TheVariants.{Scan}
use Rattle.congee.specs.declared.protocol.op.Op.TheVariants as op
use Rattle.congee.specs.declared.protocol.store.Refusal.{Refusal}
use Rattle.congee.specs.declared.protocol.store.Refusal.TheVariants as refusal
use Rattle.congee.specs.declared.protocol.store.Seen.{Seen}
use Rattle.congee.specs.declared.protocol.machine.Machine.{Machine}
use Rattle.congee.specs.declared.protocol.machine.Move.{Move}
use Rattle.congee.specs.Heap.{Node}
use Rattle.congee.specs.Keys.{key_bytes}
use Rattle.congee.specs.Notes.{Note}
use Rattle.congee.specs.protocol.Alike.{Ordered, HeapAlike, Named, PhaseAlike, CallAlike, IsUnrefused, WentAlike, MovedAlike}
use Rattle.congee.specs.protocol.PlainSteps.{Mark, plain_step}
use Rattle.congee.specs.protocol.Play.{EachKnown, Protocol, ProtocolAt, begun, first_phase}
use Rattle.congee.specs.protocol.Steps.{Stepped}
use Rattle.congee.specs.protocol.ScanSteps.{new_scan}
use Rattle.congee.proofs.lemmas.Keys.{key_length}
use Rattle.congee.proofs.lemmas.protocol.AlikeKnown.{holds_right, longer_place}
use Rattle.congee.proofs.lemmas.protocol.AlikeLater.{named_later}
use Rattle.congee.proofs.lemmas.protocol.AlikeSteps.{phase_alike}
use Rattle.congee.proofs.lemmas.protocol.ManyCalls.{may_step}

module _ {C V : Type 0} (number : C → ℕ) (same : V → V → Bool) (always : Bool) where
  protocol_of : (a : ℕ → Note) (h : ℕ → Node V) (ms : List (Machine C V)) → ProtocolAt number same always a h ms → Protocol number same always h ms
  protocol_of a h ms p = record { notes = a; tree = p.tree; words = p.words; each = p.each }

  -- a step that refuses no node and no copy leaves call and nodes the same as the step by numbers does
  pub step_alike : (most : ℕ) (why : NodeType → Refusal → Type 0) → ((form : NodeType) → why form refusal.Exhausted → ⊥) → (seen : Option (Seen Mark V)) (i : ℕ) (a : ℕ → Note) (h g h' : ℕ → Node V) (ms : List (Machine C V)) (m m' : Machine C V) (d : Move V)
      (fail : Bool) (answer : Option (Option V)) (order : List ℕ) (q : Machine ℕ V) (k : ℕ) → ProtocolAt number same always a h ms → slice_get ms i ≡ Some m → Stepped number same always most why m h fail answer m' h' d → IsUnrefused d.outcome → d.skipped ≡ false
      → Ordered order h → HeapAlike order h g → k ≡ length order → CallAlike order number h m q
      → MovedAlike order number h' m' d q (plain_step same most q (record { fail = fail; seen = seen; answer = answer }) g k)
  step_alike most why never seen i a h g h' ms m m' d fail answer order q k p at s un sk o x e c =
      let known : EachKnown number same always a h i m = p.each i m at in
      let may = may_step number same always h ms i m (protocol_of a h ms p) at in
      let T : Machine ℕ V → Type 0 = λ z. WentAlike order number h' m'.given (record { phase = m'.phase; report = d }) (plain_step same most z (record { fail = fail; seen = seen; answer = answer }) g k) in
      let w : WentAlike order number h' m'.given (record { phase = m'.phase; report = d }) (plain_step same most (record { root = q.root; key = m.key; kind = m.kind; given = m.given; phase = q.phase }) (record { fail = fail; seen = seen; answer = answer }) g k) =
      phase_alike number same always most why never order h g o x k e m.root q.root c.root (key_bytes m.key) (key_length m.key) m.kind fail seen answer m.given m.phase q.phase h' m'.given (record { phase = m'.phase; report = d }) c.phase may
      (holds_right number same always i a h m.key (key_bytes m.key) m.kind m.given p.tree m.phase known.known) un sk s.step in
      let same_call : q ≡ record { root = q.root; key = m.key; kind = m.kind; given = m.given; phase = q.phase } =
      ap (λ z. record { root = q.root; key = z; kind = q.kind; given = q.given; phase = q.phase }) c.key
      ∙ ap (λ z. record { root = q.root; key = m.key; kind = z; given = q.given; phase = q.phase }) c.kind
      ∙ ap (λ z. record { root = q.root; key = m.key; kind = m.kind; given = z; phase = q.phase }) c.given in
      after (subst T (sym same_call) w)
    where
      after : (w : WentAlike order number h' m'.given (record { phase = m'.phase; report = d }) (plain_step same most q (record { fail = fail; seen = seen; answer = answer }) g k))
          → MovedAlike order number h' m' d q (plain_step same most q (record { fail = fail; seen = seen; answer = answer }) g k)
      after w = record {
        went = w;
        call = record {
          root = (let P : C → Type 0 = λ z. Named w.now number z q.root in subst P (sym s.root) (named_later order w.now number (longer_place order w.now w.longer) m.root q.root c.root));
          key = c.key ∙ sym s.key;
          kind = c.kind ∙ sym s.kind;
          given = w.given_is;
          phase = w.next_phase.phase;
        };
      }

-- a call that has not begun
module _ {C V : Type 0} (number : C → ℕ) where
  new_scan_alike : (order : List ℕ) (h : ℕ → Node V) (root : C) (n start last size : ℕ) → PhaseAlike order number h (Scan (new_scan root start last size)) (Scan (new_scan n start last size))
  new_scan_alike order h root n start last size = (new_scan n start last size, refl, record { start = refl; last = refl; size = refl; count = refl; len = refl; way = λ i l. absurd (omega (arith, l)); stage = refl })

  new_call : (order : List ℕ) (h : ℕ → Node V) (root : C) (n : ℕ) (o : Op V) → Named order number root n → PhaseAlike order number h (first_phase root o) (first_phase n o)
  new_call order h root n (op.Range start end size) e = new_scan_alike order h root n start (end - 1) (cond (ltb start end) size 0)
  new_call order h root n (op.RangeInclusive start last size) e = new_scan_alike order h root n start last (cond (leb start last) size 0)
  new_call order h root n _ e = refl

  -- a call that has not begun is the same by numbers
  pub begun_alike : (order : List ℕ) (h : ℕ → Node V) (root : C) (n : ℕ) (o : Op V) → slice_get order n ≡ Some (number root) → CallAlike order number h (begun root o) (begun n o)
  begun_alike order h root n o e = record { root = e; key = refl; kind = refl; given = refl; phase = new_call order h root n o e }
