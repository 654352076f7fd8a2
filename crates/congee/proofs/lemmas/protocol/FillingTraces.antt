-- A run from a new index leaves each node of the tree but the root with a child, with two where it holds nodes; and filled, where
-- nothing is skipped.
use Rattle.std.proofs.Common.{◌≡◌, ℕ, Bool, true, false, List, [], ◌∷◌, refl, sym, subst}
use Rattle.std.specs.Prelude.{Option, None, Some, map, slice_get}
use Rattle.congee.specs.declared.forms.base_node.NodeType.{NodeType}
use Rattle.congee.specs.declared.protocol.store.Refusal.{Refusal}
use Rattle.congee.specs.declared.protocol.machine.Machine.{Machine}
use Rattle.congee.specs.declared.protocol.machine.Move.{Move}
use Rattle.congee.specs.declared.protocol.run.Step.{Step}
use Rattle.congee.specs.Heap.{Node}
use Rattle.congee.specs.protocol.Filled.{AllBranch, AllFilled, AllFilledBy, KeepsFilled, NoneSkipped}
use Rattle.congee.specs.protocol.Opening.{FreshRoot}
use Rattle.congee.specs.protocol.Play.{Begins, Settled, NextAt}
use Rattle.congee.specs.protocol.Trace.{Traced, AreTraced, IsTrace, nodes_after}
use Rattle.congee.proofs.lemmas.protocol.Steps.{stepped_keeps}
use Rattle.congee.proofs.lemmas.protocol.Traces.{settled_next}
use Rattle.congee.proofs.lemmas.protocol.ManyCalls.{plays_none}
use Rattle.congee.proofs.lemmas.protocol.FillingCalls.{begun_filled, filled_branch, filled_step}

module _ {C V : Type 0} (number : C → ℕ) (same : V → V → Bool) (always : Bool) (most : ℕ) (why : (ℕ → Node V) → NodeType → Refusal → Type 0) (law : (p q : V) → same p q ≡ true → p ≡ q) where
  module _ (by_form : Bool) where
    next_filled : (h : ℕ → Node V) (ms : List (Machine C V)) (s : Step C V) (d : Move V) (h' : ℕ → Node V) (ms' : List (Machine C V)) (o : Option (Machine C V)) → slice_get ms s.who ≡ o → Settled number same always h ms → KeepsFilled by_form number h ms
        → NextAt number same always most (why h) h ms o s d h' ms' → (by_form ≡ true → d.skipped ≡ false) → KeepsFilled by_form number h' ms'
    next_filled h ms s d h' ms' None e x f n skip =
        let P : (ℕ → Node V) → Type 0 = λ y. KeepsFilled by_form number y ms' in
        let Q : List (Machine C V) → Type 0 = λ y. KeepsFilled by_form number h y in subst P (sym n.1) (subst Q (sym n.2) f)
    next_filled h ms s d h' ms' (Some m) e x f n skip =
        let Q : List (Machine C V) → Type 0 = λ y. KeepsFilled by_form number h' y in
        let o = x.1.each s.who m e in
        let k = stepped_keeps number same always most (why h) law m h s.noise.fail s.noise.answer n.0 h' d n.1 s.who x.0 o.root x.1.tree x.1.words o.known in
        subst Q (sym n.3) (filled_step by_form number same always most (why h) s.who x.0 h h' ms m n.0 d s.noise.fail s.noise.answer x.1 e k n.1 skip f)

    all_filled : (h : ℕ → Node V) (ms : List (Machine C V)) (ts : List (Traced C V)) → Settled number same always h ms → KeepsFilled by_form number h ms → AreTraced number same always most why h ms ts → (by_form ≡ true → NoneSkipped (map (λ t. t.move) ts)) → AllFilledBy by_form (nodes_after h ts)
    all_filled h ms [] x f e n = f.tree
    all_filled h ms (t ∷ ts) x f e n = all_filled t.nodes t.calls ts (settled_next number same always most why law h ms t.step t.move t.nodes t.calls (slice_get ms t.step.who) refl x e.0)
        (next_filled h ms t.step t.move t.nodes t.calls (slice_get ms t.step.who) refl x f e.0 (λ asked. (n asked).0)) e.1 (λ asked. (n asked).1)

    -- after a run from a new index each node of the tree but the root has enough children
    run_full : (h : ℕ → Node V) (ms : List (Machine C V)) (steps : List (Step C V)) (moves : List (Move V)) (h' : ℕ → Node V) (ms' : List (Machine C V)) → Begins number h ms → FreshRoot h → IsTrace number same always most why h ms steps moves h' ms'
        → (by_form ≡ true → NoneSkipped moves) → AllFilledBy by_form h'
    run_full h ms steps moves h' ms' b f r n =
        let P : (ℕ → Node V) → Type 0 = λ y. AllFilledBy by_form y in
        let Q : List (Move V) → Type 0 = λ y. NoneSkipped y in
        subst P r.nodes_are (all_filled h ms r.traced ((plays_none number same always most why h ms b).settled_fresh f) (begun_filled by_form number h ms f b.new) r.each (λ asked. subst Q (sym r.moves_are) (n asked)))

  -- after a run from a new index in which nothing is skipped, each node of the tree but the root is filled
  pub run_filled : (h : ℕ → Node V) (ms : List (Machine C V)) (steps : List (Step C V)) (moves : List (Move V)) (h' : ℕ → Node V) (ms' : List (Machine C V)) → Begins number h ms → FreshRoot h → IsTrace number same always most why h ms steps moves h' ms'
      → NoneSkipped moves → AllFilled h'
  run_filled h ms steps moves h' ms' b f r n = run_full true h ms steps moves h' ms' b f r (λ _. n)

  -- whatever is skipped, it has a child, and two where it holds nodes
  pub run_branch : (h : ℕ → Node V) (ms : List (Machine C V)) (steps : List (Step C V)) (moves : List (Move V)) (h' : ℕ → Node V) (ms' : List (Machine C V)) → Begins number h ms → FreshRoot h → IsTrace number same always most why h ms steps moves h' ms' → AllBranch h'
  run_branch h ms steps moves h' ms' b f r = filled_branch false h' (run_full false h ms steps moves h' ms' b f r (λ asked. absurd (cc asked)))
