-- Calls that have not begun or have ended, and a call in the place of one that has ended.
use Rattle.std.proofs.Common.{◌≡◌, ℕ, Bool, true, List, sym, ◌∙◌, subst, inl, inr}
use Rattle.std.proofs.Math.ListN.{set}
use Rattle.std.proofs.lemmas.Bool.{cases_eq}
use Rattle.std.specs.Prelude.{Some, slice_get}
use Rattle.congee.specs.declared.protocol.phase.Phase.{Phase}
use Rattle.congee.specs.declared.protocol.phase.Phase.TheVariants.{Ended}
use Rattle.congee.specs.declared.protocol.machine.Machine.{Machine}
use Rattle.congee.specs.protocol.Bounds.{Bounded, Within}
use Rattle.congee.specs.protocol.Destroys.{Destroys}
use Rattle.congee.specs.Heap.{Node, Stands}
use Rattle.congee.specs.Keys.{key_bytes}
use Rattle.congee.specs.Notes.{Note}
use Rattle.congee.specs.protocol.Holdings.{LockedBy, MadeBy, TakenBy, Holdings}
use Rattle.congee.specs.protocol.Opening.{FreshRoot}
use Rattle.congee.specs.protocol.Play.{IsNew, IsIdle, EachKnown, Settled}
use Rattle.congee.specs.protocol.Protocol.{Known}
use Rattle.congee.proofs.lemmas.protocol.Owners.{get_set, set_apart}
use Rattle.congee.proofs.lemmas.protocol.Opening.{opened, opening_tree, opening_words, opening_rests}
use Rattle.congee.proofs.lemmas.protocol.ManyCalls.{begin_known, rested}

-- what the destruction of nodes that were handed over leaves within its limit
pub spared_within : {C V : Type 0} (number : C → ℕ) (most : ℕ) (h : ℕ → Node V) (ms : List (Machine C V)) (h' : ℕ → Node V) → Destroys number h ms h' → Within most h → Within most h'
spared_within number most h ms h' d w n s = elim (d.each n) [
  | inl e ↦ subst (Bounded most) (sym e) (w n (subst Stands e s))
  | inr l ↦ absurd (let z : (h' n).destroyed ≡ true = l.destroyed in let y = s.kept in cc)
]

module _ {C V : Type 0} (number : C → ℕ) (same : V → V → Bool) (always : Bool) (a : ℕ → Note) (h : ℕ → Node V) where
  -- a call that has not begun
  new_known : (i : ℕ) (m : Machine C V) → IsNew m → number m.root ≡ 0 → EachKnown number same always a h i m
  new_known i m new z = record { root = z; key = new.key; known = begin_known number same always i a h m.key m.kind m.given m.phase new.begins }

  idle_known : (i : ℕ) (m : Machine C V) → IsIdle number m → EachKnown number same always a h i m
  idle_known i m idle = elim idle.state [
    | inl new ↦ new_known i m new idle.root
    | inr over ↦ (let P : Phase C V → Type 0 = λ s. Known number same always i a h m.key (key_bytes m.key) m.kind m.given s in
        record { root = idle.root; key = idle.key; known = subst P (sym over) tt })
  ]

  module _ (ms : List (Machine C V)) (i : ℕ) (old new : Machine C V) (at : slice_get ms i ≡ Some old) (over : old.phase ≡ Ended) where
    -- what another call has, it has still
    others : (L : Phase C V → Type 0) → (L Ended → ⊥) → (j : ℕ) → (y : Machine C V) × (slice_get ms j ≡ Some y) × L y.phase → (y : Machine C V) × (slice_get (set ms i new) j ≡ Some y) × L y.phase
    others L none j x = elim (cases_eq j i) [
      | inl e ↦ absurd (
          let P : ℕ → Type 0 = λ k. slice_get ms k ≡ Some x.0 in
          let z : Some old ≡ Some x.0 = sym at ∙ subst P e x.1 in
          let q : old ≡ x.0 = cc in
          let R : Machine C V → Type 0 = λ y. L y.phase in
          none (subst L over (subst R (sym q) x.2)))
      | inr ne ↦ (x.0, set_apart ms i j new x.0 ne x.1, x.2)
    ]

    held_on : Holdings number a h ms → Holdings number a h (set ms i new)
    held_on s = record {
      owned = λ n j o. others (λ x. LockedBy number x n) (λ z. z) j (s.owned n j o);
      held = λ n j o. others (λ x. MadeBy number x n) (λ z. z) j (s.held n j o);
      locked = s.locked;
      gone = λ n g. elim (s.gone n g) [
        | inl r ↦ inl r
        | inr x ↦ inr (let y : (y : Machine C V) × (slice_get (set ms i new) x.0 ≡ Some y) × TakenBy number y.phase n = others (λ z. TakenBy number z n) (λ z. z) x.0 (x.1, x.2, x.3) in (x.0, y.0, y.1, y.2))
      ];
      spent = s.spent;
      unmade = s.unmade;
    }

    each_on : IsNew new → number new.root ≡ 0 → ((j : ℕ) (m : Machine C V) → slice_get ms j ≡ Some m → EachKnown number same always a h j m)
        → (j : ℕ) (x : Machine C V) → slice_get (set ms i new) j ≡ Some x → EachKnown number same always a h j x
    each_on fresh z each j x got = elim (get_set ms i j new x got) [
      | inl e ↦ (
          let P : Machine C V → Type 0 = λ y. EachKnown number same always a h i y in
          let Q : ℕ → Type 0 = λ y. EachKnown number same always a h y x in
          subst Q (sym e.0) (subst P e.1 (new_known i new fresh z)))
      | inr apart ↦ each j x apart.1
    ]

-- what is settled stays so where a call that has not begun comes in the place of one that has ended
pub begun_again : {C V : Type 0} (number : C → ℕ) (same : V → V → Bool) (always : Bool) (h : ℕ → Node V) (ms : List (Machine C V)) (i : ℕ) (old new : Machine C V)
    → Settled number same always h ms → slice_get ms i ≡ Some old → old.phase ≡ Ended → IsNew new → number new.root ≡ 0 → Settled number same always h (set ms i new)
begun_again number same always h ms i old new s at over fresh z = (
  s.0,
  record { tree = s.1.tree; words = s.1.words; each = each_on number same always s.0 h ms i old new at over fresh z s.1.each },
  held_on number same always s.0 h ms i old new at over s.2,
)

-- a root alone, with calls that have not begun or have ended, is settled
pub opened_idle : {C V : Type 0} (number : C → ℕ) (same : V → V → Bool) (always : Bool) (h : ℕ → Node V) (ms : List (Machine C V)) → FreshRoot h
    → ((i : ℕ) (m : Machine C V) → slice_get ms i ≡ Some m → IsIdle number m) → Settled number same always h ms
opened_idle number same always h ms fresh idle = (
  opened,
  record { tree = opening_tree h fresh.alone; words = opening_words h fresh.alone; each = λ i m e. idle_known number same always opened h i m (idle i m e) },
  rested number same always h ms opened (opening_rests number h fresh),
)
