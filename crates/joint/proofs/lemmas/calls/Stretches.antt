-- While a stretch lasts, the nodes that it saw stand: it blocks the removal of each.
use Rattle.std.proofs.Common.{◌≡◌, ◌==◌, ◌<◌, ℕ, arith, Bool, true, false, List, [], ◌∷◌, length, refl, sym, ◌∙◌, ap, subst, inl, inr, ◌⊎◌}
use Rattle.std.specs.Prelude.{Option, None, Some, is_some, nat_le, if◌then◌else◌}
use Rattle.std.proofs.lemmas.Bool.{cases_Bool, cases_eq, eqb-true, eqb-false, false≢true}
use Rattle.crossbeam_epoch.specs.Limits.{bag_places}
use Rattle.crossbeam_epoch.specs.declared.bag.Work.TheVariants.{Remove}
use Rattle.crossbeam_epoch.specs.declared.names.Name.{Name}
use Rattle.crossbeam_epoch.specs.declared.world.participant.Participant.{Participant}
use Rattle.crossbeam_epoch.specs.declared.world.participant.Phase.{Phase}
use Rattle.crossbeam_epoch.specs.declared.world.participant.Phase.TheVariants as collector_phase
use Rattle.crossbeam_epoch.specs.declared.world.report.Event.{Event}
use Rattle.crossbeam_epoch.specs.declared.world.report.Event.TheVariants.{Begin, Go}
use Rattle.crossbeam_epoch.specs.declared.world.report.Op.{Op}
use Rattle.crossbeam_epoch.specs.declared.world.report.Op.TheVariants.{Unpin}
use Rattle.crossbeam_epoch.specs.declared.world.report.Outcome.{Outcome}
use Rattle.crossbeam_epoch.specs.declared.world.report.Outcome.TheVariants.{Running, Done, Refused}
use Rattle.crossbeam_epoch.specs.declared.world.report.Report.{Report}
use Rattle.crossbeam_epoch.specs.world.Fits.{Fits}
use Rattle.crossbeam_epoch.specs.world.History.{Mark, Pinned, Repinned, Unpinned, Deferred, Called, began, blocks, WasDeferred}
use Rattle.crossbeam_epoch.specs.world.Machine.{State, place, deferred, deferred_anew, registered, with_store}
use Rattle.crossbeam_epoch.specs.world.Progress.{Moves, Empties, EmptiesAt}
use Rattle.crossbeam_epoch.specs.world.Reach.{Act, Quiet, Marked, GivenBack, Moment, with_act, marks_of, changes_pin, mark_changes_pin, LeavesFirst, Visible}
use Rattle.crossbeam_epoch.specs.world.Steps.{IsReport, after, begin_marks, phase_marks, moved_marks, unless_refused, marks, called_in}
use Rattle.crossbeam_epoch.specs.world.Store.{Sets, value_at, emptied}
use Rattle.crossbeam_epoch.proofs.Laws.{fits_after_deferral, act_steady, fits_after, fits_registered, fits_store}
use Rattle.joint.specs.engine.Laws.{CellLaws}
use Rattle.joint.specs.NameLemmas.{same_name}
use Rattle.joint.specs.Names.{number}
use Rattle.joint.specs.calls.Stretches.{publishes}

steady : {A : Type 0} (b : Bool) (x y : A) → b ≡ false → (if b then x else y) ≡ y
steady false x y e = refl
steady true x y e = absurd (false≢true (sym e))

-- a mark that isn't the stretch's own leaves what it blocks; a deferral under it is blocked
blocked_mark : (k : Mark) (h : List Mark) (p t : ℕ) (n : Name) → mark_changes_pin k p ≡ false → is_some (began h p) ≡ true → WasDeferred (k ∷ h) t n → (WasDeferred h t n → blocks h p t ≡ true) → blocks (k ∷ h) p t ≡ true
blocked_mark (Pinned who epoch) h p t n e pinned d on = steady (who == p) false (blocks h p t) e ∙ on d
blocked_mark (Repinned who epoch) h p t n e pinned d on = steady (who == p) false (blocks h p t) e ∙ on d
blocked_mark (Unpinned who) h p t n e pinned d on = steady (who == p) false (blocks h p t) e ∙ on d
blocked_mark (Deferred ticket name) h p t n e pinned d on = by_place (ticket == t) refl d
  where
    by_place : (b : Bool) → (ticket == t) ≡ b → ((ticket ≡ t) × (name ≡ Some n)) ⊎ WasDeferred h t n → (if b then is_some (began h p) else blocks h p t) ≡ true
    by_place true q x = pinned
    by_place false q x = elim x [ inl here ↦ absurd (eqb-false ticket t q here.0) | inr earlier ↦ on earlier ]
blocked_mark (Called ticket name) h p t n e pinned d on = on d

blocked_act : (a : Act) (h : List Mark) (p t : ℕ) (n : Name) → changes_pin a p ≡ false → is_some (began h p) ≡ true → WasDeferred (with_act a h) t n → (WasDeferred h t n → blocks h p t ≡ true) → blocks (with_act a h) p t ≡ true
blocked_act Quiet h p t n e pinned d on = on d
blocked_act (Marked k) h p t n e pinned d on = blocked_mark k h p t n e pinned d on
blocked_act (GivenBack name) h p t n e pinned d on = on d

-- a stretch blocks the removal of what it saw
pub sees_blocks : (h : List Moment) (p t : ℕ) (n : Name) → LeavesFirst h → is_some (began (marks_of h) p) ≡ true → Visible h p n → WasDeferred (marks_of h) t n → blocks (marks_of h) p t ≡ true
sees_blocks [] p t n leaves pinned seen d = absurd seen
sees_blocks (m ∷ h) p t n leaves pinned seen d = elim seen [
  | inl now ↦ absurd (leaves.0 t n d now)
  | inr before ↦
      let pinned' : is_some (began (marks_of h) p) ≡ true = sym (ap is_some (act_steady m.act (marks_of h) p before.0)) ∙ pinned in
      blocked_act m.act (marks_of h) p t n before.0 pinned' d (λ d'. sees_blocks h p t n leaves.1 pinned' before.1 d')
]

-- the stretch of p lasts, and blocks each removal of the name
pub record IsBlocked {T J : Type 0} (p : ℕ) (n : Name) (h : List Mark) (s : State T J) : Type 0 where
  pub fits : Fits h s
  pub on : is_some (began h p) ≡ true
  pub all : (t : ℕ) → WasDeferred h t n → blocks h p t ≡ true

-- whether a step of a participant ends its stretch
abbrev pub ends_now : {J : Type 0} → Event → Participant J → Bool
ends_now (Begin Unpin) q = nat_le q.guards 1
ends_now (Begin _) q = false
ends_now Go q = publishes q.phase

other : (p who : ℕ) → (who ≡ p → ⊥) → (who == p) ≡ false
other p who n = elim (cases_Bool (who == p)) [
  | inl e ↦ absurd (n (eqb-true who p e))
  | inr e ↦ e
]

module _ {T J : Type 0} (p : ℕ) (n : Name) where
  marked : (k : Mark) (h : List Mark) (s : State T J) (s' : State T J) → mark_changes_pin k p ≡ false → IsBlocked p n h s → Fits (k ∷ h) s' → IsBlocked p n (k ∷ h) s'
  marked k h s s' e b f = record {
    fits = f;
    on = ap is_some (act_steady (Marked k) h p e) ∙ b.on;
    all = λ t d. blocked_mark k h p t n e b.on d (b.all t);
  }

  -- where the cells alone change, what the stretch blocks stays blocked
  pub stored : (h : List Mark) (s s' : State T J) → s' ≡ with_store s s'.store → IsBlocked p n h s → IsBlocked p n h s'
  stored h s s' e b = record { fits = fits_store h s s' e b.fits; on = b.on; all = b.all }

  -- a registration leaves what the stretch blocks
  pub joined : (h : List Mark) (s : State T J) (q : ℕ) → q < length s.table → IsBlocked p n h s → IsBlocked p n h (registered s q)
  joined h s q l b = record { fits = fits_registered h s q l b.fits; on = b.on; all = b.all }

  -- a deferral leaves what the stretch blocks, and is blocked itself where it is of that name
  pub deferring : (h : List Mark) (s : State T J) (who : ℕ) (c : Name) → who < length s.table → (place s who).phase ≡ collector_phase.Idle → length (place s who).bag < bag_places → IsBlocked p n h s → IsBlocked p n (Deferred s.next (Some c) ∷ h) (deferred s who (Remove c))
  deferring h s who c l idle room b = marked (Deferred s.next (Some c)) h s (deferred s who (Remove c)) refl b (by (length (place s who).bag == bag_places) refl (fits_after_deferral h s who (Remove c) l idle b.fits))
    where
      by : (x : Bool) → (length (place s who).bag == bag_places) ≡ x → Fits (Deferred s.next (Some c) ∷ h) (if x then deferred_anew s who (Remove c) else deferred s who (Remove c)) → Fits (Deferred s.next (Some c) ∷ h) (deferred s who (Remove c))
      by false e f = f
      by true e f = absurd (let q : length (place s who).bag ≡ bag_places = eqb-true (length (place s who).bag) bag_places e in omega (arith, q, room))

  marks_begun : (h : List Mark) (s s' : State T J) (who : ℕ) (op : Op) (q : Participant J) → (who ≡ p → ends_now (Begin op) q ≡ false) → IsBlocked p n h s → Fits (begin_marks who q op h) s' → IsBlocked p n (begin_marks who q op h) s'
  marks_begun h s s' who Unpin q calm b f = by (nat_le q.guards 1) refl f
    where
      by : (x : Bool) → nat_le q.guards 1 ≡ x → Fits (if x then Unpinned who ∷ h else h) s' → IsBlocked p n (if x then Unpinned who ∷ h else h) s'
      by false e f = record { fits = f; on = b.on; all = b.all }
      by true e f = marked (Unpinned who) h s s' (other p who (λ z. false≢true (sym (calm z) ∙ e))) b f
  marks_begun h s s' who _ q calm b f = record { fits = f; on = b.on; all = b.all }

  marks_gone : (h : List Mark) (s s' : State T J) (who epoch : ℕ) (x : Phase) (c : Option (ℕ × Option Name)) → (who ≡ p → publishes x ≡ false) → IsBlocked p n h s → Fits (phase_marks epoch who x c h) s' → IsBlocked p n (phase_marks epoch who x c h) s'
  marks_gone h s s' who epoch x (Some c) calm b f = marked (Called c.0 c.1) h s s' refl b f
  marks_gone h s s' who epoch (collector_phase.Publish seen) None calm b f = marked (Pinned who epoch) h s s' (other p who (λ z. false≢true (sym (calm z)))) b f
  marks_gone h s s' who epoch (collector_phase.RepinPublish seen) None calm b f = marked (Repinned who epoch) h s s' (other p who (λ z. false≢true (sym (calm z)))) b f
  marks_gone h s s' who epoch _ None calm b f = record { fits = f; on = b.on; all = b.all }

  marks_moved : (h : List Mark) (s s' : State T J) (who : ℕ) (event : Event) (c : Option (ℕ × Option Name)) → (who ≡ p → ends_now event (place s who) ≡ false) → IsBlocked p n h s → Fits (moved_marks s who event c h) s' → IsBlocked p n (moved_marks s who event c h) s'
  marks_moved h s s' who (Begin op) c calm b f = marks_begun h s s' who op (place s who) calm b f
  marks_moved h s s' who Go c calm b f = marks_gone h s s' who s.epoch (place s who).phase c calm b f

  -- a step of the collector leaves what the stretch blocks, unless it ends the stretch
  pub blocked_after : (h : List Mark) (s : State T J) (who : ℕ) (event : Event) (r : Report) → IsReport s who event r → (who ≡ p → ends_now event (place s who) ≡ false) → IsBlocked p n h s → IsBlocked p n (marks s who event r h) (after s who event r.outcome)
  blocked_after h s who event r is calm b = by r.outcome (fits_after h s who event r is b.fits)
    where
      by : (o : Outcome) → Fits (unless_refused o (moved_marks s who event r.called h) h) (after s who event r.outcome) → IsBlocked p n (unless_refused o (moved_marks s who event r.called h) h) (after s who event r.outcome)
      by (Refused e) f = record { fits = f; on = b.on; all = b.all }
      by Running f = marks_moved h s (after s who event r.outcome) who event r.called calm b f
      by Done f = marks_moved h s (after s who event r.outcome) who event r.called calm b f

  -- and doesn't destroy the name
  uncalled : (h : List Mark) (s s' : State T J) (k : ℕ) → IsBlocked p n h s → Fits (Called k (Some n) ∷ h) s' → ⊥
  uncalled h s s' k b f = false≢true (sym (f.graceful.0 p) ∙ b.all k (f.later.0 n refl))

  called_fits : (h : List Mark) (s : State T J) (who : ℕ) (event : Event) (o : Outcome) (k : ℕ) (s' : State T J) → Some (k, Some n) ≡ called_in s who event o → Fits (unless_refused o (moved_marks s who event (Some (k, Some n)) h) h) s' → Fits (Called k (Some n) ∷ h) s'
  called_fits h s who event (Refused e) k s' q f = absurd (cc q)
  called_fits h s who (Begin op) Running k s' q f = absurd (cc q)
  called_fits h s who (Begin op) Done k s' q f = absurd (cc q)
  called_fits h s who Go Running k s' q f = f
  called_fits h s who Go Done k s' q f = f

  module _ {names : T → List Name} (cells : CellLaws {T = T} J names) where
    -- a step of the collector doesn't take out a value whose removals are blocked
    pub live_on : (h : List Mark) (s s' : State T J) (who : ℕ) (event : Event) (r : Report) → IsReport s who event r → Moves s who r.called s' → IsBlocked p n h s → is_some (value_at s.store n) ≡ true → is_some (value_at s'.store n) ≡ true
    live_on h s s' who event r is m b live = by r.called refl m.cells
      where
        emptied_at : (y : Name) → is_some (value_at s.store y) ≡ true → s'.store ≡ emptied s.store y.cell → (n ≡ y → ⊥) → is_some (value_at s'.store n) ≡ true
        emptied_at y l e ne =
            let z : Sets s.store y None (emptied s.store y.cell) = cells.emptied_sets s.store y l in
            ap (λ st. is_some (value_at st n)) e ∙ ap is_some (z.others n ne) ∙ live

        of_call : (k : ℕ) (o : Option Name) → r.called ≡ Some (k, o) → EmptiesAt s.store o s'.store → is_some (value_at s'.store n) ≡ true
        of_call k None q e = ap (λ st. is_some (value_at st n)) e ∙ live
        of_call k (Some y) q e = elim (cases_eq (number n) (number y)) [
          | inl u ↦ absurd (
              let is_y : n ≡ y = same_name n y u in
              let P : Name → Type 0 = λ v. r.called ≡ Some (k, Some v) in
              let c : r.called ≡ Some (k, Some n) = subst P (sym is_y) q in
              let Q : Option (ℕ × Option Name) → Type 0 = λ v. Fits (unless_refused r.outcome (moved_marks s who event v h) h) (after s who event r.outcome) in
              uncalled h s (after s who event r.outcome) k b (called_fits h s who event r.outcome k (after s who event r.outcome) (sym c ∙ is.job) (subst Q c (fits_after h s who event r is b.fits))))
          | inr u ↦ emptied_at y e.0 e.1 (λ v. u (ap number v))
        ]

        by : (c : Option (ℕ × Option Name)) → r.called ≡ c → Empties s.store c s'.store → is_some (value_at s'.store n) ≡ true
        by None q e = ap (λ st. is_some (value_at st n)) e ∙ live
        by (Some c) q e = of_call c.0 c.1 q e
