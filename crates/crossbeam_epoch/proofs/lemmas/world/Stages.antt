-- A call comes from stage to stage, and takes fewer and fewer steps more.
use Rattle.std.proofs.Common.{◌≡◌, ℕ, ◌+◌, ◌-◌, ◌<◌, ◌≤◌, Bool, true, false, List, [], ◌==◌, ◌&&◌, Option, Some, None, refl, sym, ◌∙◌, ap, subst, length, arith, get_or-set_same, length-set}
use Rattle.std.specs.Prelude.{slice_index_or, slice_set, if◌then◌else◌, nat_lt, nat_le, is_none, remove}
use Rattle.std.proofs.lemmas.Bool.Decides.{nat_tests}
use Rattle.std.proofs.lemmas.List.Elements.{Contains-get_or}
use Rattle.crossbeam_epoch.specs.declared.fault.Fault.{Fault}
use Rattle.crossbeam_epoch.specs.declared.fault.Fault.TheVariants as F
use Rattle.crossbeam_epoch.specs.declared.world.participant.Participant.{Participant}
use Rattle.crossbeam_epoch.specs.declared.world.participant.Phase.{Phase}
use Rattle.crossbeam_epoch.specs.declared.world.participant.Phase.TheVariants.{Idle, Look, Publish, RepinLook, RepinPublish, Seal, Queue, ReleaseSeal, ReleaseQueue, Secure, SecureSeal, SecureQueue, Load, Inspect, Advance, Take, Call}
use Rattle.crossbeam_epoch.specs.declared.world.report.Op.{Op}
use Rattle.crossbeam_epoch.specs.declared.world.report.Op.TheVariants as O
use Rattle.crossbeam_epoch.specs.declared.world.report.Event.TheVariants.{Begin, Go}
use Rattle.crossbeam_epoch.specs.declared.world.report.Outcome.{Outcome}
use Rattle.crossbeam_epoch.specs.declared.world.report.Outcome.TheVariants.{Running, Done, Refused}
use Rattle.crossbeam_epoch.specs.declared.world.report.Report.{Report}
use Rattle.crossbeam_epoch.specs.world.Machine.{State, place, blank, in_phase, published, is_at, relooked, repinned, secured, has_free, inspection, ends_advance, is_due, no_bag, taken, after_call, called_one}
use Rattle.crossbeam_epoch.specs.world.Steps.{fault, event_fault, begin_fault, outcome_at, begun_at, begun, gone, needs_memory, after, IsOutcome, IsReport}
use Rattle.crossbeam_epoch.specs.world.Progress.{Orderly, Stage, Resting, Pinning, Repinning, Flushing, Releasing, Securing, Collecting, stage, comes_by, IsOn, Secures, left_in, refusal, Begins, queues, collects, GoesOn}
use Rattle.crossbeam_epoch.proofs.lemmas.world.Moves.{both_left}
use Rattle.crossbeam_epoch.proofs.lemmas.world.Progress.{one_less}
use Rattle.crossbeam_epoch.proofs.lemmas.world.Runs.{in_table, known_if_faultless, refused_begin}

abbrev securing : Stage → Bool
securing (Securing n) = true
securing _ = false

-- a call that looks at the table collects
pinning_collects : (op : Op) → comes_by Pinning op ≡ true → comes_by Collecting op ≡ true
pinning_collects O.Pin e = refl
pinning_collects O.Unpin e = absurd (cc e)
pinning_collects O.Repin e = absurd (cc e)
pinning_collects O.Flush e = absurd (cc e)
pinning_collects O.Release e = absurd (cc e)
pinning_collects (O.Secure n) e = absurd (cc e)

flushing_collects : (op : Op) → comes_by Flushing op ≡ true → comes_by Collecting op ≡ true
flushing_collects O.Flush e = refl
flushing_collects O.Pin e = absurd (cc e)
flushing_collects O.Unpin e = absurd (cc e)
flushing_collects O.Repin e = absurd (cc e)
flushing_collects O.Release e = absurd (cc e)
flushing_collects (O.Secure n) e = absurd (cc e)

flushing_queues : (op : Op) → comes_by Flushing op ≡ true → queues op ≡ true
flushing_queues O.Flush e = refl
flushing_queues O.Pin e = absurd (cc e)
flushing_queues O.Unpin e = absurd (cc e)
flushing_queues O.Repin e = absurd (cc e)
flushing_queues O.Release e = refl
flushing_queues (O.Secure n) e = refl

releasing_queues : (op : Op) → comes_by Releasing op ≡ true → queues op ≡ true
releasing_queues O.Release e = refl
releasing_queues O.Pin e = absurd (cc e)
releasing_queues O.Unpin e = absurd (cc e)
releasing_queues O.Repin e = absurd (cc e)
releasing_queues O.Flush e = refl
releasing_queues (O.Secure n) e = refl

securing_queues : (op : Op) (m : Option ℕ) → comes_by (Securing m) op ≡ true → queues op ≡ true
securing_queues (O.Secure n) m e = refl
securing_queues O.Pin m e = absurd (cc e)
securing_queues O.Unpin m e = absurd (cc e)
securing_queues O.Repin m e = absurd (cc e)
securing_queues O.Flush m e = refl
securing_queues O.Release m e = refl

memory_queues : (op : Op) (phase : Phase) → needs_memory Go phase ≡ true → comes_by (stage phase) op ≡ true → queues op ≡ true
memory_queues op (Queue seal) m e = flushing_queues op e
memory_queues op (ReleaseQueue seal) m e = releasing_queues op e
memory_queues op (SecureQueue seal) m e = securing_queues op None e
memory_queues op Idle m e = absurd (cc m)
memory_queues op Look m e = absurd (cc m)
memory_queues op (Publish seen) m e = absurd (cc m)
memory_queues op RepinLook m e = absurd (cc m)
memory_queues op (RepinPublish seen) m e = absurd (cc m)
memory_queues op Seal m e = absurd (cc m)
memory_queues op ReleaseSeal m e = absurd (cc m)
memory_queues op (Secure n) m e = absurd (cc m)
memory_queues op SecureSeal m e = absurd (cc m)
memory_queues op Load m e = absurd (cc m)
memory_queues op (Inspect seen at) m e = absurd (cc m)
memory_queues op (Advance seen) m e = absurd (cc m)
memory_queues op (Take answered bags) m e = absurd (cc m)
memory_queues op (Call answered bags seal) m e = absurd (cc m)

memory_first : (phase : Phase) → needs_memory Go phase ≡ true → collects phase ≡ false
memory_first (Queue seal) m = refl
memory_first (ReleaseQueue seal) m = refl
memory_first (SecureQueue seal) m = refl
memory_first Idle m = refl
memory_first Look m = refl
memory_first (Publish seen) m = refl
memory_first RepinLook m = refl
memory_first (RepinPublish seen) m = refl
memory_first Seal m = refl
memory_first ReleaseSeal m = refl
memory_first (Secure n) m = refl
memory_first SecureSeal m = refl
memory_first Load m = absurd (cc m)
memory_first (Inspect seen at) m = absurd (cc m)
memory_first (Advance seen) m = absurd (cc m)
memory_first (Take answered bags) m = absurd (cc m)
memory_first (Call answered bags seal) m = absurd (cc m)

collects_at : (x y : Phase) → x ≡ y → collects y ≡ true → collects x ≡ true
collects_at x y e c = ap collects e ∙ c

inspects_still : (seen at : ℕ) (ends more : Bool) → collects (if ends then Take seen 0 else if more then Inspect seen (at + 1) else Advance seen) ≡ true
inspects_still seen at true more = refl
inspects_still seen at false true = refl
inspects_still seen at false false = refl

calls_still : (answered bags seal : ℕ) (some room : Bool) → outcome_at (if some then Call answered bags seal else if room then Take answered bags else Idle) ≡ Running
    → collects (if some then Call answered bags seal else if room then Take answered bags else Idle) ≡ true
calls_still answered bags seal true room r = refl
calls_still answered bags seal false true r = refl
calls_still answered bags seal false false r = absurd (cc r)

-- a call that ended is between two calls
pub done_idle : (phase : Phase) → outcome_at phase ≡ Done → phase ≡ Idle
done_idle Idle e = refl
done_idle Look e = absurd (cc e)
done_idle (Publish seen) e = absurd (cc e)
done_idle RepinLook e = absurd (cc e)
done_idle (RepinPublish seen) e = absurd (cc e)
done_idle Seal e = absurd (cc e)
done_idle (Queue seal) e = absurd (cc e)
done_idle ReleaseSeal e = absurd (cc e)
done_idle (ReleaseQueue seal) e = absurd (cc e)
done_idle (Secure n) e = absurd (cc e)
done_idle SecureSeal e = absurd (cc e)
done_idle (SecureQueue seal) e = absurd (cc e)
done_idle Load e = absurd (cc e)
done_idle (Inspect seen at) e = absurd (cc e)
done_idle (Advance seen) e = absurd (cc e)
done_idle (Take answered bags) e = absurd (cc e)
done_idle (Call answered bags seal) e = absurd (cc e)

less : (m n : ℕ) → nat_lt m n ≡ true → m < n
less m n h = grind (arith, nat_tests)

at_most : (m n : ℕ) → nat_le m n ≡ true → m ≤ n
at_most m n h = grind (arith, nat_tests)

same : (m n : ℕ) → (m == n) ≡ true → m ≡ n
same m n h = grind (arith, nat_tests)

itself : (n : ℕ) → (n == n) ≡ true
itself n = grind (arith, nat_tests)

right : (a b : Bool) → (a && b) ≡ true → b ≡ true
right true b e = e
right false b e = absurd (cc e)

module _ {J : Type 0} where
  no_fault : (op : Op) (phase : Phase) (p : Participant J) → comes_by (stage phase) op ≡ true → event_fault Go phase p ≡ None
  no_fault op Idle p e = absurd (cc e)
  no_fault op Look p e = refl
  no_fault op (Publish seen) p e = refl
  no_fault op RepinLook p e = refl
  no_fault op (RepinPublish seen) p e = refl
  no_fault op Seal p e = refl
  no_fault op (Queue seal) p e = refl
  no_fault op ReleaseSeal p e = refl
  no_fault op (ReleaseQueue seal) p e = refl
  no_fault op (Secure n) p e = refl
  no_fault op SecureSeal p e = refl
  no_fault op (SecureQueue seal) p e = refl
  no_fault op Load p e = refl
  no_fault op (Inspect seen at) p e = refl
  no_fault op (Advance seen) p e = refl
  no_fault op (Take answered bags) p e = refl
  no_fault op (Call answered bags seal) p e = refl

  by_stage : (n : ℕ) (st : Stage) (p p' : Participant J) → securing st ≡ false → comes_by st (O.Secure n) ≡ true → Secures (O.Secure n) p p'
  by_stage n Resting p p' away e = absurd (cc e)
  by_stage n Pinning p p' away e = absurd (cc e)
  by_stage n Repinning p p' away e = absurd (cc e)
  by_stage n Flushing p p' away e = absurd (cc e)
  by_stage n Releasing p p' away e = absurd (cc e)
  by_stage n (Securing m) p p' away e = absurd (cc away)
  by_stage n Collecting p p' away e = absurd (cc e)

  -- another call than a securing
  unsecured : (op : Op) (st : Stage) (p p' : Participant J) → securing st ≡ false → comes_by st op ≡ true → Secures op p p'
  unsecured O.Pin st p p' away e = tt
  unsecured O.Unpin st p p' away e = tt
  unsecured O.Repin st p p' away e = tt
  unsecured O.Flush st p p' away e = tt
  unsecured O.Release st p p' away e = tt
  unsecured (O.Secure n) st p p' away e = by_stage n st p p' away e

  -- how a call in this phase goes on
  record Next (w : ℕ) (op : Op) (phase : Phase) (p p' : Participant J) : Type 0 where
    pub on : outcome_at p'.phase ≡ Running → IsOn op p'
    pub fewer : left_in w p'.phase (length p'.hand) < left_in w phase (length p.hand)
    pub secures : Secures op p p'

  -- to a phase of the same participant
  to : (w : ℕ) (op : Op) (phase next : Phase) (p : Participant J) → p.registered ≡ true → (outcome_at next ≡ Running → comes_by (stage next) op ≡ true) → left_in w next (length p.hand) < left_in w phase (length p.hand)
      → securing (stage phase) ≡ false → comes_by (stage phase) op ≡ true → Next w op phase p (record p { phase = next })
  to w op phase next p reg on fewer away e = record { on = λ r. (reg, on r); fewer = fewer; secures = unsecured op (stage phase) p (record p { phase = next }) away e }

  published_next : (w : ℕ) (op : Op) (seen : ℕ) (p : Participant J) (b : Bool) (pins : ℕ) → p.registered ≡ true → comes_by Pinning op ≡ true
      → Next w op (Publish seen) p (record p { word = Some seen; guards = 1; pins = pins; phase = if b then Load else Idle })
  published_next w op seen p true pins reg e = record { on = λ r. (reg, pinning_collects op e); fewer = omega arith; secures = unsecured op Pinning p _ refl e }
  published_next w op seen p false pins reg e = record { on = λ r. absurd (cc r); fewer = omega arith; secures = unsecured op Pinning p _ refl e }

  relooked_next : (w : ℕ) (op : Op) (epoch : ℕ) (p : Participant J) (b : Bool) → p.registered ≡ true → comes_by Repinning op ≡ true → Next w op RepinLook p (record p { phase = if b then Idle else RepinPublish epoch })
  relooked_next w op epoch p true reg e = to w op RepinLook Idle p reg (λ r. absurd (cc r)) (omega arith) refl e
  relooked_next w op epoch p false reg e = to w op RepinLook (RepinPublish epoch) p reg (λ r. e) (omega arith) refl e

  secured_next : (w : ℕ) (op : Op) (n : ℕ) (p : Participant J) (b : Bool) → has_free p.bag n ≡ b → p.registered ≡ true → comes_by (Securing (Some n)) op ≡ true → Next w op (Secure n) p (record p { phase = if b then Idle else SecureSeal })
  secured_next w O.Pin n p b is reg e = absurd (cc e)
  secured_next w O.Unpin n p b is reg e = absurd (cc e)
  secured_next w O.Repin n p b is reg e = absurd (cc e)
  secured_next w O.Flush n p b is reg e = absurd (cc e)
  secured_next w O.Release n p b is reg e = absurd (cc e)
  secured_next w (O.Secure m) n p true is reg e = record { on = λ r. absurd (cc r); fewer = omega arith; secures = (refl, refl, λ idle le. let room = at_most _ _ is in omega (arith, same n m e)) }
  secured_next w (O.Secure m) n p false is reg e = record { on = λ r. (reg, refl); fewer = omega arith; secures = (refl, refl, λ idle le. absurd (cc idle)) }

  seals_next : (w : ℕ) (op : Op) (epoch : ℕ) (p : Participant J) → p.registered ≡ true → comes_by (Securing None) op ≡ true → Next w op SecureSeal p (record p { phase = SecureQueue epoch })
  seals_next w O.Pin epoch p reg e = absurd (cc e)
  seals_next w O.Unpin epoch p reg e = absurd (cc e)
  seals_next w O.Repin epoch p reg e = absurd (cc e)
  seals_next w O.Flush epoch p reg e = absurd (cc e)
  seals_next w O.Release epoch p reg e = absurd (cc e)
  seals_next w (O.Secure m) epoch p reg e = record { on = λ r. (reg, refl); fewer = omega arith; secures = (refl, refl, λ idle le. absurd (cc idle)) }

  empties_next : (w : ℕ) (op : Op) (seal : ℕ) (p : Participant J) → p.registered ≡ true → comes_by (Securing None) op ≡ true → Next w op (SecureQueue seal) p (record p { bag = []; phase = Idle })
  empties_next w O.Pin seal p reg e = absurd (cc e)
  empties_next w O.Unpin seal p reg e = absurd (cc e)
  empties_next w O.Repin seal p reg e = absurd (cc e)
  empties_next w O.Flush seal p reg e = absurd (cc e)
  empties_next w O.Release seal p reg e = absurd (cc e)
  empties_next w (O.Secure m) seal p reg e = record { on = λ r. absurd (cc r); fewer = omega arith; secures = (refl, refl, λ idle le. omega (arith, le)) }

  inspected_next : (w : ℕ) (op : Op) (seen at : ℕ) (p : Participant J) (ends more : Bool) → nat_lt (at + 1) w ≡ more → p.registered ≡ true → comes_by Collecting op ≡ true
      → Next w op (Inspect seen at) p (record p { phase = if ends then Take seen 0 else if more then Inspect seen (at + 1) else Advance seen })
  inspected_next w op seen at p true more is reg e = to w op (Inspect seen at) (Take seen 0) p reg (λ r. e) (omega arith) refl e
  inspected_next w op seen at p false true is reg e = let lt = less _ _ is in to w op (Inspect seen at) (Inspect seen (at + 1)) p reg (λ r. e) (omega arith) refl e
  inspected_next w op seen at p false false is reg e = to w op (Inspect seen at) (Advance seen) p reg (λ r. e) (omega arith) refl e

  called_next : (w : ℕ) (op : Op) (answered bags seal : ℕ) (p : Participant J) (some room : Bool) → 0 < length p.hand → p.registered ≡ true → comes_by Collecting op ≡ true
      → Next w op (Call answered bags seal) p (record p { hand = remove p.hand 0; phase = if some then Call answered bags seal else if room then Take answered bags else Idle })
  called_next w op answered bags seal p true room lt reg e = record { on = λ r. (reg, e); fewer = omega (arith, one_less p.hand lt); secures = unsecured op Collecting p _ refl e }
  called_next w op answered bags seal p false true lt reg e = record { on = λ r. (reg, e); fewer = omega arith; secures = unsecured op Collecting p _ refl e }
  called_next w op answered bags seal p false false lt reg e = record { on = λ r. absurd (cc r); fewer = omega arith; secures = unsecured op Collecting p _ refl e }

  -- how a call begins
  begun_secures : (op : Op) (p : Participant J) → Secures op p (begun_at op p)
  begun_secures O.Pin p = tt
  begun_secures O.Unpin p = tt
  begun_secures O.Repin p = tt
  begun_secures O.Flush p = tt
  begun_secures O.Release p = tt
  begun_secures (O.Secure n) p = (refl, refl, λ idle le. absurd (cc idle))

  record First (w : ℕ) (op : Op) (p : Participant J) : Type 0 where
    pub on : outcome_at p.phase ≡ Running → IsOn op p
    pub few : left_in w p.phase (length p.hand) ≤ w + 526

  first_pin : (w : ℕ) (p : Participant J) (b : Bool) → p.registered ≡ true → p.phase ≡ Idle → First w O.Pin (if b then record p { phase = Look } else record p { guards = p.guards + 1 })
  first_pin w p true reg is = record { on = λ r. (reg, refl); few = omega arith }
  first_pin w p false reg is = rw is (record { on = λ r. absurd (cc r); few = omega arith })

  first_unpin : (w : ℕ) (p : Participant J) (b : Bool) → p.phase ≡ Idle → First w O.Unpin (if b then record p { word = None; guards = 0 } else record p { guards = p.guards - 1 })
  first_unpin w p true is = rw is (record { on = λ r. absurd (cc r); few = omega arith })
  first_unpin w p false is = rw is (record { on = λ r. absurd (cc r); few = omega arith })

  first_repin : (w : ℕ) (p : Participant J) (b : Bool) → p.registered ≡ true → First w O.Repin (record p { phase = if b then RepinLook else Idle })
  first_repin w p true reg = record { on = λ r. (reg, refl); few = omega arith }
  first_repin w p false reg = record { on = λ r. absurd (cc r); few = omega arith }

  first_flush : (w : ℕ) (p : Participant J) (b : Bool) → p.registered ≡ true → First w O.Flush (record p { phase = if b then Load else Seal })
  first_flush w p true reg = record { on = λ r. (reg, refl); few = omega arith }
  first_flush w p false reg = record { on = λ r. (reg, refl); few = omega arith }

  first_release : (w : ℕ) (p : Participant J) (b : Bool) → p.registered ≡ true → First w O.Release (if b then blank else record p { phase = ReleaseSeal })
  first_release w p true reg = record { on = λ r. absurd (cc r); few = omega arith }
  first_release w p false reg = record { on = λ r. (reg, refl); few = omega arith }

  first : (w : ℕ) (op : Op) (p : Participant J) → p.registered ≡ true → p.phase ≡ Idle → First w op (begun_at op p)
  first w O.Pin p reg is = first_pin w p (is_none p.word) reg is
  first w O.Unpin p reg is = first_unpin w p (nat_le p.guards 1) is
  first w O.Repin p reg is = first_repin w p (nat_le p.guards 1) reg
  first w O.Flush p reg is = first_flush w p (length p.bag == 0) reg
  first w O.Release p reg is = first_release w p (length p.bag == 0) reg
  first w (O.Secure n) p reg is = record { on = λ r. (reg, itself n); few = omega arith }

module _ {T J : Type 0} where
  -- the acting participant after the step, and the table
  record Lands (s : State T J) (who : ℕ) (op : Op) (phase : Phase) (s' : State T J) : Type 0 where
    pub at : Participant J
    pub is : place s' who ≡ at
    pub table : length s'.table ≡ length s.table
    pub next : Next (length s.table) op phase (place s who) at

  lands : (s : State T J) (who : ℕ) (op : Op) (phase : Phase) (p : Participant J) (s' : State T J) → who < length s.table → s'.table ≡ slice_set s.table who p → Next (length s.table) op phase (place s who) p → Lands s who op phase s'
  lands s who op phase p s' lt e n = record {
    at = p;
    is = ap (λ (t : List (Participant J)). slice_index_or t who blank) e ∙ get_or-set_same s.table who p blank lt;
    table = ap (λ (t : List (Participant J)). length t) e ∙ length-set s.table who p;
    next = n;
  }

  phase_to : (s : State T J) (who : ℕ) (op : Op) (phase next : Phase) → who < length s.table → (place s who).registered ≡ true → (outcome_at next ≡ Running → comes_by (stage next) op ≡ true)
      → left_in (length s.table) next (length (place s who).hand) < left_in (length s.table) phase (length (place s who).hand) → securing (stage phase) ≡ false → comes_by (stage phase) op ≡ true → Lands s who op phase (in_phase s who next)
  phase_to s who op phase next lt reg on fewer away e =
      lands s who op phase (record (place s who) { phase = next }) (in_phase s who next) lt refl (to (length s.table) op phase next (place s who) reg on fewer away e)

  advanced_lands : (s : State T J) (who : ℕ) (op : Op) (seen : ℕ) (b : Bool) → who < length s.table → (place s who).registered ≡ true → comes_by Collecting op ≡ true
      → Lands s who op (Advance seen) (if b then record (in_phase s who (Take (seen + 1) 0)) { epoch = seen + 1 } else in_phase s who (Take seen 0))
  advanced_lands s who op seen true lt reg e =
      lands s who op (Advance seen) (record (place s who) { phase = Take (seen + 1) 0 }) _ lt refl (to (length s.table) op (Advance seen) (Take (seen + 1) 0) (place s who) reg (λ r. e) (omega arith) refl e)
  advanced_lands s who op seen false lt reg e = phase_to s who op (Advance seen) (Take seen 0) lt reg (λ r. e) (omega arith) refl e

  due_front : (s : State T J) (answered : ℕ) → is_due s answered ≡ true → 0 < length s.queue
  due_front s answered due = grind (arith, nat_tests)

  took_lands : (s : State T J) (who : ℕ) (op : Op) (answered bags : ℕ) (b : Bool) → who < length s.table → Orderly s → (place s who).registered ≡ true → comes_by Collecting op ≡ true → (is_due s answered && nat_lt bags 8) ≡ b
      → Lands s who op (Take answered bags) (if b then taken s who answered bags else in_phase s who Idle)
  took_lands s who op answered bags true lt o reg e due =
      let front = slice_index_or s.queue 0 no_bag in
      let p = record (place s who) { hand = front.jobs; phase = Call answered (bags + 1) front.seal } in
      let some = due_front s answered (both_left _ _ due) in
      let few = less bags 8 (right _ _ due) in
      let small = o.sealed front (Contains-get_or s.queue 0 no_bag some) in
      lands s who op (Take answered bags) p _ lt refl (record { on = λ r. (reg, e); fewer = omega arith; secures = unsecured op Collecting (place s who) p refl e })
  took_lands s who op answered bags false lt o reg e due = phase_to s who op (Take answered bags) Idle lt reg (λ r. absurd (cc r)) (omega arith) refl e

  called_lands : (s : State T J) (who : ℕ) (op : Op) (answered bags seal : ℕ) (b : Bool) → who < length s.table → (place s who).registered ≡ true → comes_by Collecting op ≡ true → (length (place s who).hand == 0) ≡ b
      → Lands s who op (Call answered bags seal) (if b then in_phase s who Idle else called_one s who answered bags seal)
  called_lands s who op answered bags seal true lt reg e is = phase_to s who op (Call answered bags seal) Idle lt reg (λ r. absurd (cc r)) (omega arith) refl e
  called_lands s who op answered bags seal false lt reg e is =
      let rest = remove (place s who).hand 0 in
      lands s who op (Call answered bags seal) (record (place s who) { hand = rest; phase = after_call (length rest) answered bags seal }) _ lt refl
      (called_next (length s.table) op answered bags seal (place s who) (nat_lt 0 (length rest)) (nat_lt bags 8) (grind (arith, nat_tests)) reg e)

  going_lands : (s : State T J) (who : ℕ) (op : Op) (phase : Phase) → who < length s.table → Orderly s → (place s who).registered ≡ true → comes_by (stage phase) op ≡ true → Lands s who op phase (gone s who phase)
  going_lands s who op Idle lt o reg e = absurd (cc e)
  going_lands s who op Look lt o reg e = phase_to s who op Look (Publish s.epoch) lt reg (λ r. e) (omega arith) refl e
  going_lands s who op (Publish seen) lt o reg e = lands s who op (Publish seen) (published seen (place s who)) _ lt refl (published_next (length s.table) op seen (place s who) ((place s who).pins == 0) _ reg e)
  going_lands s who op RepinLook lt o reg e = lands s who op RepinLook (relooked s.epoch (place s who)) _ lt refl (relooked_next (length s.table) op s.epoch (place s who) (is_at (place s who).word s.epoch) reg e)
  going_lands s who op (RepinPublish seen) lt o reg e =
      lands s who op (RepinPublish seen) (repinned seen (place s who)) _ lt refl (record { on = λ r. absurd (cc r); fewer = omega arith; secures = unsecured op Repinning (place s who) (repinned seen (place s who)) refl e })
  going_lands s who op Seal lt o reg e = phase_to s who op Seal (Queue s.epoch) lt reg (λ r. e) (omega arith) refl e
  going_lands s who op (Queue seal) lt o reg e =
      let p = record (place s who) { bag = []; phase = Load } in
      lands s who op (Queue seal) p _ lt refl (record { on = λ r. (reg, flushing_collects op e); fewer = omega arith; secures = unsecured op Flushing (place s who) p refl e })
  going_lands s who op ReleaseSeal lt o reg e = phase_to s who op ReleaseSeal (ReleaseQueue s.epoch) lt reg (λ r. e) (omega arith) refl e
  going_lands s who op (ReleaseQueue seal) lt o reg e = lands s who op (ReleaseQueue seal) blank _ lt refl (record { on = λ r. absurd (cc r); fewer = omega arith; secures = unsecured op Releasing (place s who) blank refl e })
  going_lands s who op (Secure n) lt o reg e = lands s who op (Secure n) (secured n (place s who)) _ lt refl (secured_next (length s.table) op n (place s who) (has_free (place s who).bag n) refl reg e)
  going_lands s who op SecureSeal lt o reg e = lands s who op SecureSeal (record (place s who) { phase = SecureQueue s.epoch }) _ lt refl (seals_next (length s.table) op s.epoch (place s who) reg e)
  going_lands s who op (SecureQueue seal) lt o reg e = lands s who op (SecureQueue seal) (record (place s who) { bag = []; phase = Idle }) _ lt refl (empties_next (length s.table) op seal (place s who) reg e)
  going_lands s who op Load lt o reg e = phase_to s who op Load (Inspect s.epoch 0) lt reg (λ r. e) (omega arith) refl e
  going_lands s who op (Inspect seen at) lt o reg e =
      lands s who op (Inspect seen at) (record (place s who) { phase = inspection s seen at }) _ lt refl
      (inspected_next (length s.table) op seen at (place s who) (ends_advance (place s at).word seen) (nat_lt (at + 1) (length s.table)) refl reg e)
  going_lands s who op (Advance seen) lt o reg e = advanced_lands s who op seen (nat_lt seen s.limits.epoch_max) lt reg e
  going_lands s who op (Take answered bags) lt o reg e = took_lands s who op answered bags (is_due s answered && nat_lt bags 8) lt o reg e refl
  going_lands s who op (Call answered bags seal) lt o reg e = called_lands s who op answered bags seal (length (place s who).hand == 0) lt reg e refl

  phase_set : (s : State T J) (who : ℕ) (p : Participant J) → who < length s.table → (slice_index_or (slice_set s.table who p) who blank).phase ≡ p.phase
  phase_set s who p lt = ap (λ (x : Participant J). x.phase) (get_or-set_same s.table who p blank lt)

  advances_still : (s : State T J) (who seen : ℕ) (b : Bool) → who < length s.table → collects (place (if b then record (in_phase s who (Take (seen + 1) 0)) { epoch = seen + 1 } else in_phase s who (Take seen 0)) who).phase ≡ true
  advances_still s who seen true lt = collects_at _ _ (phase_set s who (record (place s who) { phase = Take (seen + 1) 0 }) lt) refl
  advances_still s who seen false lt = collects_at _ _ (phase_set s who (record (place s who) { phase = Take seen 0 }) lt) refl

  takes_still : (s : State T J) (who answered bags : ℕ) (b : Bool) → who < length s.table → outcome_at (place (if b then taken s who answered bags else in_phase s who Idle) who).phase ≡ Running
      → collects (place (if b then taken s who answered bags else in_phase s who Idle) who).phase ≡ true
  takes_still s who answered bags true lt r =
      let b = slice_index_or s.queue 0 no_bag in
      collects_at _ _ (phase_set s who (record (place s who) { hand = b.jobs; phase = Call answered (bags + 1) b.seal }) lt) refl
  takes_still s who answered bags false lt r =
      absurd (let z : Done ≡ Running = sym (ap outcome_at (phase_set s who (record (place s who) { phase = Idle }) lt)) ∙ r in cc z)

  hands_still : (s : State T J) (who answered bags seal : ℕ) (b : Bool) → who < length s.table → outcome_at (place (if b then in_phase s who Idle else called_one s who answered bags seal) who).phase ≡ Running
      → collects (place (if b then in_phase s who Idle else called_one s who answered bags seal) who).phase ≡ true
  hands_still s who answered bags seal true lt r =
      absurd (let z : Done ≡ Running = sym (ap outcome_at (phase_set s who (record (place s who) { phase = Idle }) lt)) ∙ r in cc z)
  hands_still s who answered bags seal false lt r =
      let rest = remove (place s who).hand 0 in
      let e = phase_set s who (record (place s who) { hand = rest; phase = after_call (length rest) answered bags seal }) lt in
      collects_at _ _ e (calls_still answered bags seal (nat_lt 0 (length rest)) (nat_lt bags 8) (ap outcome_at (sym e) ∙ r))

  -- a collection that goes on is one still
  still : (s : State T J) (who : ℕ) (phase : Phase) → who < length s.table → outcome_at (place (gone s who phase) who).phase ≡ Running → collects phase ≡ true → collects (place (gone s who phase) who).phase ≡ true
  still s who Load lt r c = collects_at _ _ (phase_set s who (record (place s who) { phase = Inspect s.epoch 0 }) lt) refl
  still s who (Inspect seen at) lt r c =
      collects_at _ _ (phase_set s who (record (place s who) { phase = inspection s seen at }) lt) (inspects_still seen at (ends_advance (place s at).word seen) (nat_lt (at + 1) (length s.table)))
  still s who (Advance seen) lt r c = advances_still s who seen (nat_lt seen s.limits.epoch_max) lt
  still s who (Take answered bags) lt r c = takes_still s who answered bags (is_due s answered && nat_lt bags 8) lt r
  still s who (Call answered bags seal) lt r c = hands_still s who answered bags seal (length (place s who).hand == 0) lt r
  still s who Idle lt r c = absurd (cc c)
  still s who Look lt r c = absurd (cc c)
  still s who (Publish seen) lt r c = absurd (cc c)
  still s who RepinLook lt r c = absurd (cc c)
  still s who (RepinPublish seen) lt r c = absurd (cc c)
  still s who Seal lt r c = absurd (cc c)
  still s who (Queue seal) lt r c = absurd (cc c)
  still s who ReleaseSeal lt r c = absurd (cc c)
  still s who (ReleaseQueue seal) lt r c = absurd (cc c)
  still s who (Secure n) lt r c = absurd (cc c)
  still s who SecureSeal lt r c = absurd (cc c)
  still s who (SecureQueue seal) lt r c = absurd (cc c)

  landed_on : (s : State T J) (who : ℕ) (op : Op) (phase : Phase) (s' : State T J) → (place s who).phase ≡ phase → Lands s who op phase s' → outcome_at (place s' who).phase ≡ Running
      → (collects (place s who).phase ≡ true → collects (place s' who).phase ≡ true) → GoesOn s who op Running s'
  landed_on s who op phase s' is l runs more =
      let P : Participant J → Type 0 = λ p. IsOn op p in
      let Q : Participant J → Type 0 = λ p. left_in (length s'.table) p.phase (length p.hand) < left_in (length s.table) (place s who).phase (length (place s who).hand) in
      let S : Participant J → Type 0 = λ p. Secures op (place s who) p in
      let R : Participant J → Type 0 = λ p. outcome_at p.phase ≡ Running in
      let fewer : left_in (length s'.table) l.at.phase (length l.at.hand) < left_in (length s.table) (place s who).phase (length (place s who).hand) = rw (l.table, is) l.next.fewer in
      (subst P (sym l.is) (l.next.on (subst R l.is runs)), subst Q (sym l.is) fewer, subst S (sym l.is) l.next.secures, more)

  landed_done : (s : State T J) (who : ℕ) (op : Op) (phase : Phase) (s' : State T J) → Lands s who op phase s' → outcome_at (place s' who).phase ≡ Done → GoesOn s who op Done s'
  landed_done s who op phase s' l done =
      let S : Participant J → Type 0 = λ p. Secures op (place s who) p in
      (done_idle (place s' who).phase done, subst S (sym l.is) l.next.secures)

  given : (s : State T J) (who : ℕ) (b : Bool) → who < length s.table → b ≡ true → (place (if b then in_phase s who Idle else s) who).phase ≡ Idle
  given s who true lt e = ap (λ (p : Participant J). p.phase) (get_or-set_same s.table who (record (place s who) { phase = Idle }) blank lt)
  given s who false lt e = absurd (cc e)

  by_outcome : (s : State T J) (who : ℕ) (op : Op) (outcome : Outcome) → Orderly s → IsOn op (place s who) → IsOutcome s who Go None outcome → GoesOn s who op outcome (after s who Go outcome)
  by_outcome s who op Running o on is = landed_on s who op (place s who).phase (gone s who (place s who).phase) refl (going_lands s who op (place s who).phase (in_table s who on.0) o on.0 on.1) is (still s who (place s who).phase (in_table s who on.0) is)
  by_outcome s who op Done o on is = landed_done s who op (place s who).phase (gone s who (place s who).phase) (going_lands s who op (place s who).phase (in_table s who on.0) o on.0 on.1) is
  by_outcome s who op (Refused F.Memory) o on is = (refl, memory_queues op (place s who).phase is.0 on.1, given s who (needs_memory Go (place s who).phase) (in_table s who on.0) is.0, memory_first (place s who).phase is.0)
  by_outcome s who op (Refused F.TableFull) o on is = absurd is
  by_outcome s who op (Refused F.CellsFull) o on is = absurd is
  by_outcome s who op (Refused F.Unpinned) o on is = absurd is
  by_outcome s who op (Refused F.Busy) o on is = absurd is
  by_outcome s who op (Refused F.Count) o on is = absurd is
  by_outcome s who op (Refused F.GuardOut) o on is = absurd is
  by_outcome s who op (Refused (F.Registered n)) o on is = absurd is
  by_outcome s who op (Refused F.Unknown) o on is = absurd is
  by_outcome s who op (Refused F.Foreign) o on is = absurd is
  by_outcome s who op (Refused F.Idle) o on is = absurd is
  by_outcome s who op (Refused F.Limits) o on is = absurd is
  by_outcome s who op (Refused F.InCall) o on is = absurd is

  faultless : (s : State T J) (who : ℕ) (op : Op) → IsOn op (place s who) → fault s who Go ≡ None
  faultless s who op on = ap (λ b. if b then event_fault Go (place s who).phase (place s who) else Some F.Unknown) on.0 ∙ no_fault op (place s who).phase (place s who) on.1

  -- a step of a call in flight leaves it fewer steps, ends it, or finds no memory for its bag
  pub reported_goes_on : (s : State T J) (who : ℕ) (op : Op) (r : Report) → Orderly s → IsOn op (place s who) → IsReport s who Go r → GoesOn s who op r.outcome (after s who Go r.outcome)
  reported_goes_on s who op r o on is =
      let P : Option Fault → Type 0 = λ f. IsOutcome s who Go f r.outcome in
      by_outcome s who op r.outcome o on (subst P (faultless s who op on) is.outcome)

  refused_why : (s : State T J) (who : ℕ) (op : Op) (e : Option Fault) (f : Fault) → IsOutcome s who (Begin op) e (Refused f) → e ≡ Some f
  refused_why s who op (Some x) f is = sym (ap (λ (o : Outcome). fault_of x o) is)
    where
      fault_of : Fault → Outcome → Option Fault
      fault_of d (Refused x) = Some x
      fault_of d Running = None
      fault_of d Done = None
  refused_why s who op None F.Memory is = absurd (cc is.0)
  refused_why s who op None F.TableFull is = absurd is
  refused_why s who op None F.CellsFull is = absurd is
  refused_why s who op None F.Unpinned is = absurd is
  refused_why s who op None F.Busy is = absurd is
  refused_why s who op None F.Count is = absurd is
  refused_why s who op None F.GuardOut is = absurd is
  refused_why s who op None (F.Registered n) is = absurd is
  refused_why s who op None F.Unknown is = absurd is
  refused_why s who op None F.Foreign is = absurd is
  refused_why s who op None F.Idle is = absurd is
  refused_why s who op None F.Limits is = absurd is
  refused_why s who op None F.InCall is = absurd is

  begun_running : (s : State T J) (who : ℕ) (op : Op) (e : Option Fault) → refusal s who op ≡ e → (place s who).phase ≡ Idle → IsOutcome s who (Begin op) e Running → Begins s who op Running (begun s who op)
  begun_running s who op (Some f) why idle is = absurd (cc is)
  begun_running s who op None why idle is =
      let k = known_if_faultless (place s who).registered (begin_fault op (place s who)) why in
      let lt = in_table s who k.0 in
      let at : place (begun s who op) who ≡ begun_at op (place s who) = get_or-set_same s.table who (begun_at op (place s who)) blank lt in
      let f = first (length s.table) op (place s who) k.0 idle in
      let P : Participant J → Type 0 = λ p. outcome_at p.phase ≡ Running → IsOn op p in
      let Q : Participant J → Type 0 = λ p. left_in (length (begun s who op).table) p.phase (length p.hand) ≤ length s.table + 526 in
      let S : Participant J → Type 0 = λ p. Secures op (place s who) p in
      let few : left_in (length (begun s who op).table) (begun_at op (place s who)).phase (length (begun_at op (place s who)).hand) ≤ length s.table + 526 = rw (length-set s.table who (begun_at op (place s who))) f.few in
      (why, subst P (sym at) f.on is, subst Q (sym at) few, subst S (sym at) (begun_secures op (place s who)))

  begun_done : (s : State T J) (who : ℕ) (op : Op) (e : Option Fault) → refusal s who op ≡ e → IsOutcome s who (Begin op) e Done → Begins s who op Done (begun s who op)
  begun_done s who op (Some f) why is = absurd (cc is)
  begun_done s who op None why is = (why, done_idle (place (begun s who op) who).phase is)

  begins_by : (s : State T J) (who : ℕ) (op : Op) (outcome : Outcome) → (place s who).phase ≡ Idle → IsOutcome s who (Begin op) (refusal s who op) outcome → Begins s who op outcome (after s who (Begin op) outcome)
  begins_by s who op (Refused f) idle is = (refused_why s who op (refusal s who op) f is, refused_begin s who op f)
  begins_by s who op Running idle is = begun_running s who op (refusal s who op) refl idle is
  begins_by s who op Done idle is = begun_done s who op (refusal s who op) refl is

  -- a begin between calls goes on, ends at once, or is refused for its first cause and changes nothing
  pub reported_begins : (s : State T J) (who : ℕ) (op : Op) (r : Report) → (place s who).phase ≡ Idle → IsReport s who (Begin op) r → Begins s who op r.outcome (after s who (Begin op) r.outcome)
  reported_begins s who op r idle is =
      let same : fault s who (Begin op) ≡ refusal s who op = ap (λ ph. if (place s who).registered then event_fault (Begin op) ph (place s who) else Some F.Unknown) idle in
      let P : Option Fault → Type 0 = λ f. IsOutcome s who (Begin op) f r.outcome in
      begins_by s who op r.outcome idle (subst P same is.outcome)
