-- Where a call hands its node over for destruction, tree, calls and history stay sound.
use Rattle.std.proofs.Common.{◌≡◌, ℕ, ◌+◌, arith, Bool, true, false, List, ◌∷◌, refl, sym, ◌∙◌, ap, subst, inl, inr}
use Rattle.std.specs.Prelude.{Option, None, Some, is_some, slice_get}
use Rattle.std.proofs.lemmas.Bool.{cases_eq}
use Rattle.crossbeam_epoch.specs.declared.names.Name.{Name}
use Rattle.crossbeam_epoch.specs.declared.names.Ptr.{Ptr}
use Rattle.crossbeam_epoch.specs.world.Machine.{State, place}
use Rattle.crossbeam_epoch.specs.world.History.{Deferred, WasDeferred}
use Rattle.crossbeam_epoch.specs.world.Store.{Store, value_at}
use Rattle.crossbeam_epoch.specs.world.Progress.{Orderly}
use Rattle.crossbeam_epoch.specs.world.Reach.{Act, Quiet, Marked, GivenBack, Moment, marks_of, InReach, IsIn, WasIn, links_of, moment, HasMoments}
use Rattle.congee.specs.declared.protocol.machine.Machine.{Machine}
use Rattle.congee.specs.Heap.{Node}
use Rattle.congee.specs.protocol.Play.{Settled}
use Rattle.joint.specs.Names.{number}
use Rattle.joint.specs.nodes.Heap.{IsView, heap_of}
use Rattle.joint.specs.engine.Laws.{CellLaws, CallLaws}
use Rattle.joint.specs.engine.Sound.{Guards, Sound}
use Rattle.joint.proofs.lemmas.nodes.Views.{heap_ties}
use Rattle.joint.proofs.lemmas.engine.ReachMoments.{Reaches, was_in}
use Rattle.joint.proofs.lemmas.engine.InReach.{in_it}

abbrev name_of : Name → Option Name → Name
name_of d None = d
name_of d (Some n) = n

abbrev is_mark : Act → Type 0
is_mark Quiet = Unit {0}
is_mark (Marked k) = Unit {0}
is_mark (GivenBack n) = ⊥

module _ {T J C V : Type 0} (tnames : T → List Name) (view : Bool → Option T → Node V) (ok : IsView tnames view) (num : C → ℕ) (same : V → V → Bool) (always : Bool) (cells : CellLaws J tnames) (calls : CallLaws {C = C} num same always) (top : Name)
    (past : List Moment) (s : State T J) (ms : List (Machine C V)) (sound : Sound tnames view num same always top past s ms)
    (n : Name) (retired : (heap_of view s.store (number n)).retired ≡ true) (was : WasIn past n)
    (t : ℕ) (s' : State T J) (told : HasMoments tnames (moment tnames (Marked (Deferred t (Some n))) s' ∷ past) s') (orderly : Orderly s') (roots : s'.roots ≡ s.roots) (store : s'.store ≡ s.store) (ticket : t ≡ s.next) (next : s'.next ≡ s.next + 1) (fresh : (u : ℕ) → WasDeferred (marks_of past) u n → ⊥)
    (guards : (i : ℕ) (m : Machine C V) → slice_get ms i ≡ Some m → Guards (place s' i) m) where
  abbrev now : Moment
  now = moment tnames (Marked (Deferred t (Some n))) s'

  abbrev h : ℕ → Node V
  h = heap_of view s.store

  before : (x : Name) → IsIn now x → Reaches tnames s x
  before x i =
      let P : List Ptr → Type 0 = λ r. InReach r (links_of tnames s'.store) x in
      let Q : Store T → Type 0 = λ st. InReach s.roots (links_of tnames st) x in
      subst Q store (subst P roots i)

  -- nothing in reach was handed over
  unhanded : (x : Name) → (h (number x)).retired ≡ true → Reaches tnames s x → ⊥
  unhanded x y r = let u : (h (number x)).retired ≡ false = (sound.settled.1.words.each (number x)).unretired (in_it tnames view ok num same always calls top past s ms sound x r) in cc

  reach_live : (x : Name) → Reaches tnames s x → is_some (value_at s.store x) ≡ true
  reach_live x r = (heap_ties tnames view ok s.store).live x ((sound.settled.1.words.each (number x)).stands (rw (in_it tnames view ok num same always calls top past s ms sound x r) refl))

  same_n : (x : Name) → Some n ≡ Some x → x ≡ n
  same_n x e = sym (ap (name_of n) e)

  at_n : (P : Name → Type 0) (x : Name) → Some n ≡ Some x → P n → P x
  at_n P x e p = subst P (sym (same_n x e)) p

  new_deferred : (u : ℕ) (x : Name) → WasDeferred (marks_of (now ∷ past)) u x → is_some (value_at s.store x) ≡ true → (h (number x)).retired ≡ true
  new_deferred u x w live = elim w [
    | inl e ↦ at_n (λ y. (h (number y)).retired ≡ true) x e.1 retired
    | inr old ↦ sound.deferred u x old live
  ]

  -- tree, calls and history are sound after the deferral
  pub handed : Sound tnames view num same always top (now ∷ past) s' ms
  handed = record {
    orderly = orderly;
    rooted = record { only = roots ∙ sound.rooted.only; first = sound.rooted.first };
    settled = (let P : Store T → Type 0 = λ st. Settled num same always (heap_of view st) ms in subst P (sym store) sound.settled);
    tells = told;
    careful = record {
      leaves = (λ u x w i. unhanded x (new_deferred u x w (reach_live x (before x i))) (before x i), sound.careful.leaves);
      enters = cells.enters_next now past s sound.tells.now (λ x i. inr (before x i)) sound.careful.enters;
      gives = (λ x e w. no_gift x e, sound.careful.gives);
    };
    deferred = λ u x w live. (let P : Store T → Type 0 = λ st. (heap_of view st (number x)).retired ≡ true in subst P (sym store) (new_deferred u x w (ap (λ st. is_some (value_at st x)) (sym store) ∙ live)));
    left = λ u x w. elim w [
      | inl e ↦ inr (at_n (λ y. WasIn past y) x e.1 was)
      | inr old ↦ inr (sound.left u x old)
    ];
    named = λ u l. elim (cases_eq u t) [
      | inl e ↦ (n, inl (sym e, refl))
      | inr ne ↦ (let d : (x : Name) × WasDeferred (marks_of past) u x = sound.named u (omega (arith, l, ne, next, ticket)) in (d.0, inr d.1))
    ];
    once = λ u v x d e. elim d [
      | inl a ↦ elim e [
        | inl b ↦ sym a.0 ∙ b.0
        | inr old ↦ absurd (fresh v (at_this x a.1 v old))
      ]
      | inr old ↦ elim e [
        | inl b ↦ absurd (fresh u (at_this x b.1 u old))
        | inr older ↦ sound.once u v x old older
      ]
    ];
    unseen = λ i m x at made w. elim w [
      | inl r ↦ sound.unseen i m x at made (was_in cells s past sound.tells.now x (before x r))
      | inr old ↦ sound.unseen i m x at made old
    ];
    seen = λ i m x at c. elim (sound.seen i m x at c) [ inl made ↦ inl made | inr v ↦ inr (inr (refl, v)) ];
    guarded = guards;
  }
    where
      at_this : (x : Name) → Some n ≡ Some x → (u : ℕ) → WasDeferred (marks_of past) u x → WasDeferred (marks_of past) u n
      at_this x e u d = subst (λ (y : Name). WasDeferred (marks_of past) u y) (same_n x e) d

      no_gift : (x : Name) → Marked (Deferred t (Some n)) ≡ GivenBack x → ⊥
      no_gift x e = subst is_mark e tt
