-- Whether a report says that the journal keeps a call is nothing to the map.
use Rattle.std.proofs.Common.{ℕ, Bool, true, false, inl, inr}
use Rattle.std.specs.Prelude.{Option, None, Some}
use Rattle.judge.specs.Answer.{Pairs}
use Rattle.congee.specs.declared.protocol.op.Op.{Op as Point}
use Rattle.congee.specs.declared.protocol.phase.Kind.{Kind}
use Rattle.congee.specs.protocol.Play.{Flight, Pending, Decided, Over, Unbegun, Scanning, Question, range_of, value_answered, resolved}
use Rattle.joint.specs.declared.steps.Done.{Done as Answer}
use Rattle.joint.specs.declared.steps.Done.TheVariants as done
use Rattle.joint.specs.declared.steps.Event.{Event}
use Rattle.joint.specs.declared.steps.Event.TheVariants.{Register, Begin, Go}
use Rattle.joint.specs.declared.steps.Outcome.{Outcome}
use Rattle.joint.specs.declared.steps.Outcome.TheVariants.{Running, Asks, Found, Registered, Done, Refused}
use Rattle.joint.specs.declared.steps.Target.{Target}
use Rattle.joint.specs.declared.steps.Target.TheVariants as target
use Rattle.joint.specs.Reports.{target}
use Rattle.joint.specs.world.MapSteps.{EventMap, GoMap, PendingStep, BeginMap, BeginsOr, EndsAtOnce, EndsEmpty, BeginsFlight, Stays, Line}
use Rattle.joint.specs.engine.Flying.{Flights}

module _ {V : Type 0} (b : Bool) where
  -- the line with this mark in its report
  abbrev pub rekept : Line V → Line V
  rekept l = record { step = l.step; report = record l.report { kept = b }; entry = l.entry; pairs = l.pairs }

  stays : (fs : Flights V) (m : Pairs V) (l : Line V) (fs' : Flights V) → Stays fs m l fs' → Stays fs m (rekept l) fs'
  stays fs m l fs' x = record { undecided = x.undecided; no_entry = x.no_entry; same_pairs = x.same_pairs; same_flights = x.same_flights }

  begins : (fs : Flights V) (m : Pairs V) (op : Point V) (l : Line V) (fs' : Flights V) → BeginsFlight fs m op l fs' → BeginsFlight fs m op (rekept l) fs'
  begins fs m op l fs' x = record { free = x.free; accepted = x.accepted; undecided = x.undecided; no_entry = x.no_entry; same_pairs = x.same_pairs; begins = x.begins }

  ends_empty : (o : Option (ℕ × ℕ × ℕ)) (count : ℕ) (fs : Flights V) (m : Pairs V) (l : Line V) (fs' : Flights V) → EndsEmpty o count fs m l fs' → EndsEmpty o count fs m (rekept l) fs'
  ends_empty None count fs m l fs' x = x
  ends_empty (Some (start, end, size)) count fs m l fs' x = record { free = x.free; none = x.none; scan = x.scan; stays = stays fs m l fs' x.stays }

  ends : (fs : Flights V) (m : Pairs V) (op : Point V) (d : Answer V) (l : Line V) (fs' : Flights V) → EndsAtOnce fs m op d l fs' → EndsAtOnce fs m op d (rekept l) fs'
  ends fs m op (done.Scanned count) l fs' x = ends_empty (range_of op) count fs m l fs' x
  ends fs m op done.Unit l fs' x = x
  ends fs m op (done.Reply r) l fs' x = x
  ends fs m op (done.Keys keys) l fs' x = x
  ends fs m op (done.Empty e) l fs' x = x
  ends fs m op (done.Stats stats) l fs' x = x

  begins_or : (fs : Flights V) (m : Pairs V) (op : Point V) (o : Outcome V) (l : Line V) (fs' : Flights V) → BeginsOr fs m op o l fs' → BeginsOr fs m op o (rekept l) fs'
  begins_or fs m op (Refused e) l fs' x = stays fs m l fs' x
  begins_or fs m op (Done d) l fs' x = ends fs m op d l fs' x
  begins_or fs m op Running l fs' x = begins fs m op l fs' x
  begins_or fs m op (Asks o) l fs' x = begins fs m op l fs' x
  begins_or fs m op (Found place key value) l fs' x = begins fs m op l fs' x
  begins_or fs m op (Registered n) l fs' x = begins fs m op l fs' x

  begin_map : (fs : Flights V) (m : Pairs V) (t : Target V) (l : Line V) (fs' : Flights V) → BeginMap fs m t l fs' → BeginMap fs m t (rekept l) fs'
  begin_map fs m (target.Collector op) l fs' x = stays fs m l fs' x
  begin_map fs m (target.Tree op) l fs' x = begins_or fs m op l.report.outcome l fs' x
  begin_map fs m (target.Survey k) l fs' x = record { tells = x.tells; stays = stays fs m l fs' x.stays }

  module _ (same : V → V → Bool) where
    pending : (k : ℕ) (kind : Kind V) (v : Option V) (q : Question V) (m : Pairs V) (d : Bool) (l : Line V) (f' : Flight V) → PendingStep same k kind v q m d l f' → PendingStep same k kind v q m d (rekept l) f'
    pending k kind v q m false l f' (inl x) = inl (record { outcome = x.outcome; told_so = x.told_so; undecided = x.undecided; no_entry = x.no_entry; same_pairs = x.same_pairs })
    pending k kind v q m false l f' (inr x) = inr (record { full = x.full; undecided = x.undecided; over = x.over; no_entry = x.no_entry; same_pairs = x.same_pairs })
    pending k kind v q m true l f' x = record { entry = x.entry; is_entry = x.is_entry; worker = x.worker; call = x.call; heeds = x.heeds; answers = x.answers; outcome = x.outcome; told_so = x.told_so; concludes = x.concludes }

    go_map : (fs : Flights V) (f : Flight V) (m : Pairs V) (answer : Option (Option V)) (l : Line V) (fs' : Flights V) → GoMap same fs f m answer l fs' → GoMap same fs f m answer (rekept l) fs'
    go_map fs (Pending k kind v q) m answer l fs' x = record { next = x.next; step = pending k kind (value_answered kind q answer v) (resolved kind q answer) m l.report.decided l x.next x.step; with_next = x.with_next }
    go_map fs (Decided r) m answer l fs' x =
        record { next = x.next; step = record { undecided = x.step.undecided; outcome = x.step.outcome; told_so = x.step.told_so; concludes = x.step.concludes; no_entry = x.step.no_entry; same_pairs = x.step.same_pairs }; with_next = x.with_next }
    go_map fs Over m answer l fs' x = stays fs m l fs' x
    go_map fs (Unbegun start end size) m answer l fs' x =
        record { next = x.next; step = record { undecided = x.step.undecided; outcome = x.step.outcome; told_so = x.step.told_so; tells = x.step.tells; no_entry = x.step.no_entry; same_pairs = x.step.same_pairs }; with_next = x.with_next }
    go_map fs (Scanning start end size states places) m answer l fs' x =
        record { next = x.next; step = record { undecided = x.step.undecided; outcome = x.step.outcome; told_so = x.step.told_so; tells = x.step.tells; no_entry = x.step.no_entry; same_pairs = x.step.same_pairs }; with_next = x.with_next }

    -- a step on the map is one with any mark too
    pub event_map : (fs : Flights V) (m : Pairs V) (event : Event V) (l : Line V) (fs' : Flights V) → EventMap same fs m event l fs' → EventMap same fs m event (rekept l) fs'
    event_map fs m Register l fs' x = stays fs m l fs' x
    event_map fs m (Begin op) l fs' x = begin_map fs m (target op) l fs' x
    event_map fs m (Go noise) l fs' x = go_map fs (fs l.step.worker) m noise.answer l fs' x
