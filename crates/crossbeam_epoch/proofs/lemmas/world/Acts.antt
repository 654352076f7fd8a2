-- What a step marks, and whose stretch it turns.
use Rattle.std.proofs.Common.{◌≡◌, ◌≢◌, ℕ, ◌==◌, Bool, true, false, List, [], ◌∷◌, refl, sym, ◌∙◌}
use Rattle.std.specs.Prelude.{Option, None, Some, if◌then◌else◌, nat_le}
use Rattle.std.proofs.lemmas.Bool.{ne_eqb}
use Rattle.crossbeam_epoch.specs.declared.names.Name.{Name}
use Rattle.crossbeam_epoch.specs.declared.world.participant.Participant.{Participant}
use Rattle.crossbeam_epoch.specs.declared.world.participant.Phase.{Phase}
use Rattle.crossbeam_epoch.specs.declared.world.participant.Phase.TheVariants as P
use Rattle.crossbeam_epoch.specs.declared.world.report.Op.{Op}
use Rattle.crossbeam_epoch.specs.declared.world.report.Op.TheVariants.{Pin, Unpin, Repin, Flush, Release, Secure}
use Rattle.crossbeam_epoch.specs.declared.world.report.Event.{Event}
use Rattle.crossbeam_epoch.specs.declared.world.report.Event.TheVariants.{Begin, Go}
use Rattle.crossbeam_epoch.specs.declared.world.report.Outcome.{Outcome}
use Rattle.crossbeam_epoch.specs.declared.world.report.Outcome.TheVariants.{Running, Done, Refused}
use Rattle.crossbeam_epoch.specs.declared.world.report.Report.{Report}
use Rattle.crossbeam_epoch.specs.world.Machine.{State, place}
use Rattle.crossbeam_epoch.specs.world.Steps.{begin_marks, phase_marks, moved_marks, unless_refused}
use Rattle.crossbeam_epoch.specs.world.History.{Mark, Pinned, Repinned, Unpinned, Deferred, Called, WasDeferred, AreCalledLater}
use Rattle.crossbeam_epoch.specs.world.Reach.{Act, Quiet, Marked, GivenBack, with_act, changes_pin, IsBy, IsDestruction, newest_act, step_act}

by_unpin : (who : ℕ) (b : Bool) → IsBy who (newest_act (if b then Unpinned who ∷ [] else []))
by_unpin who true = refl
by_unpin who false = tt

by_begin : {J : Type 0} (who : ℕ) (p : Participant J) (op : Op) → IsBy who (newest_act (begin_marks who p op []))
by_begin who p Unpin = by_unpin who (nat_le p.guards 1)
by_begin who p Pin = tt
by_begin who p Repin = tt
by_begin who p Flush = tt
by_begin who p Release = tt
by_begin who p (Secure n) = tt

by_phase : (epoch who : ℕ) (phase : Phase) (called : Option (ℕ × Option Name)) → IsBy who (newest_act (phase_marks epoch who phase called []))
by_phase epoch who phase (Some c) = tt
by_phase epoch who (P.Publish seen) None = refl
by_phase epoch who (P.RepinPublish seen) None = refl
by_phase epoch who _ None = tt

by_outcome : {T J : Type 0} (s : State T J) (who : ℕ) (event : Event) (called : Option (ℕ × Option Name)) (o : Outcome) → IsBy who (newest_act (unless_refused o (moved_marks s who event called []) []))
by_outcome s who event called (Refused f) = tt
by_outcome s who (Begin op) called Running = by_begin who (place s who) op
by_outcome s who (Begin op) called Done = by_begin who (place s who) op
by_outcome s who Go called Running = by_phase s.epoch who (place s who).phase called
by_outcome s who Go called Done = by_phase s.epoch who (place s who).phase called

-- what a step marks is an act of its own participant
pub step_by : {T J : Type 0} (s : State T J) (who : ℕ) (event : Event) (r : Report) → IsBy who (step_act s who event r)
step_by s who event r = by_outcome s who event r.called r.outcome

apart : (who w p : ℕ) → p ≢ who → w ≡ who → (w == p) ≡ false
apart who w p ne e = ne_eqb w p (λ q. ne (sym q ∙ e))

-- such an act turns no other participant's stretch
pub turns_apart : (who p : ℕ) (a : Act) → IsBy who a → p ≢ who → changes_pin a p ≡ false
turns_apart who p Quiet b ne = refl
turns_apart who p (Marked (Pinned w e)) b ne = apart who w p ne b
turns_apart who p (Marked (Repinned w e)) b ne = apart who w p ne b
turns_apart who p (Marked (Unpinned w)) b ne = apart who w p ne b
turns_apart who p (Marked (Deferred t n)) b ne = refl
turns_apart who p (Marked (Called t n)) b ne = refl
turns_apart who p (GivenBack n) b ne = refl

-- nor does it defer
pub deferred_before : (h : List Mark) (who t : ℕ) (n : Name) (a : Act) → IsBy who a → WasDeferred (with_act a h) t n → WasDeferred h t n
deferred_before h who t n Quiet b d = d
deferred_before h who t n (Marked (Pinned w e)) b d = d
deferred_before h who t n (Marked (Repinned w e)) b d = d
deferred_before h who t n (Marked (Unpinned w)) b d = d
deferred_before h who t n (Marked (Deferred u m)) b d = absurd b
deferred_before h who t n (Marked (Called u m)) b d = d
deferred_before h who t n (GivenBack m) b d = absurd b

-- and what it destroys was deferred
pub ended_deferred : (h : List Mark) (who : ℕ) (n : Name) (a : Act) → IsBy who a → IsDestruction a n → AreCalledLater (with_act a h) → (t : ℕ) × WasDeferred h t n
ended_deferred h who n Quiet b e l = absurd e
ended_deferred h who n (Marked (Pinned w x)) b e l = absurd e
ended_deferred h who n (Marked (Repinned w x)) b e l = absurd e
ended_deferred h who n (Marked (Unpinned w)) b e l = absurd e
ended_deferred h who n (Marked (Deferred t m)) b e l = absurd e
ended_deferred h who n (Marked (Called t m)) b e l = (t, l.0 n e)
ended_deferred h who n (GivenBack m) b e l = absurd b
