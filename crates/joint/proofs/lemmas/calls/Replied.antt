-- The pairs that stand are one value, and a whole call that ended with a reply answers of it.
use Rattle.std.proofs.Common.{◌≡◌, ◌≢◌, ℕ, zero, suc, ◌<◌, ◌≤◌, ◌^◌, inl, inr, Bool, refl, sym, ◌∙◌, ap, subst, arith}
use Rattle.std.proofs.lemmas.Bool.{cases_eq, cases_lt}
use Rattle.std.specs.Prelude.{Option, None, Some, IsSome}
use Rattle.std.specs.Ordering.{nat_cmp}
use Rattle.std.specs.FinMap.{get, get-empty}
use Rattle.judge.specs.declared.journal.Call.{Call as Entered}
use Rattle.judge.specs.declared.journal.Reply.{Reply}
use Rattle.judge.specs.Answer.{Pairs, answer, key_of, leaves, set_at}
use Rattle.judge.proofs.Laws.{get-set_at_here, get-set_at_apart, same_pairs}
use Rattle.congee.specs.Heap.{Node, value_at}
use Rattle.congee.specs.Keys.{IsMapOf, key_bytes}
use Rattle.congee.specs.declared.protocol.op.Op.{Op as Point}
use Rattle.congee.specs.declared.protocol.op.Op.TheVariants as point
use Rattle.joint.specs.declared.steps.Done.TheVariants as done
use Rattle.joint.specs.declared.steps.Op.{Op}
use Rattle.joint.specs.declared.steps.Op.TheVariants as op
use Rattle.joint.specs.declared.steps.Outcome.{Outcome}
use Rattle.joint.specs.declared.steps.Outcome.TheVariants.{Running, Asks, Found, Registered, Done, Refused}
use Rattle.joint.specs.declared.steps.Report.{Report}
use Rattle.joint.specs.calls.MapCalls.{CallPlays, PlaysKey, PlaysScan}
use Rattle.joint.specs.Reports.{reply_in}
use Rattle.joint.specs.engine.Flying.{AreInFlight, Flights}
use Rattle.joint.specs.engine.Engine.{World}
use Rattle.joint.specs.calls.Standing.{AnswersAs}
use Rattle.joint.specs.engine.Standing.{pairs_below, the_pairs}

module _ {V : Type 0} (at : ℕ → Option V) where
  get_below : (n q : ℕ) → q < n → get (pairs_below at n) q ≡ at q
  unfolding pairs_below
  get_below zero q l = absurd (omega (arith, l))
  get_below (suc n) q l = elim (cases_eq q n) [
    | inl e ↦ (let P : ℕ → Type 0 = λ x. get (set_at (pairs_below at n) n (at n)) x ≡ at x in subst P (sym e) (get-set_at_here (pairs_below at n) n (at n)))
    | inr ne ↦ get-set_at_apart (pairs_below at n) n (at n) q ne ∙ get_below n q (omega (arith, l, ne))
  ]

  none_below : (n q : ℕ) → n ≤ q → get (pairs_below at n) q ≡ None
  unfolding pairs_below
  none_below zero q l = get-empty nat_cmp q
  none_below (suc n) q l =
      let ne : q ≢ n = omega (arith, l) in
      get-set_at_apart (pairs_below at n) n (at n) q ne ∙ none_below n q (omega (arith, l))

-- the pairs of a tree, as a value, are those that stand in it
pub map_stands : {V : Type 0} (h : ℕ → Node V) → IsMapOf h (the_pairs h)
unfolding the_pairs
map_stands h = record {
  at = λ k l. get_below (λ x. value_at h (key_bytes x)) (2 ^ 64) k l;
  none_beyond = λ k l. none_below (λ x. value_at h (key_bytes x)) (2 ^ 64) k l;
}

-- and there are no others
pub one_stands : {V : Type 0} (h : ℕ → Node V) (m : Pairs V) → IsMapOf h m → m ≡ the_pairs h
one_stands h m x = same_pairs m (the_pairs h) (λ q. elim (cases_lt q (2 ^ 64)) [
  | inl l ↦ x.at q l ∙ sym ((map_stands h).at q l)
  | inr l ↦ x.none_beyond q l ∙ sym ((map_stands h).none_beyond q l)
])

-- a call whose reply and next map are the map's answer has ended as the map says
pub answers_as : {V : Type 0} (same : V → V → Bool) (told : Option (Reply V)) (asked : Option (Entered V)) (m m' : Pairs V)
    → ((c : Entered V) (r : Reply V) → asked ≡ Some c → told ≡ Some r → (r ≡ (answer same m c).0) × (m' ≡ (answer same m c).1)) → AnswersAs same told asked m m'
answers_as same None asked m m' x = tt
answers_as same (Some r) None m m' x = tt
answers_as same (Some r) (Some c) m m' x =
    let is = x c r refl refl in
    let k = key_of c in
    (is.0, ap (λ n. get n k) is.1 ∙ get-set_at_here m k (leaves same c (get m k)), is.1)

-- a call that ended with a reply has left the calls in flight
module _ {V : Type 0} (same : V → V → Bool) (fs : Flights V) (m : Pairs V) (s : World V) where
  key_keeps : (who : ℕ) (p : Point V) (o : Outcome V) → IsSome (reply_in o) → PlaysKey same fs m who None p o s → AreInFlight s fs
  key_keeps who p (Done (done.Reply r)) is x = x.1
  key_keeps who p (Done done.Unit) is x = absurd x
  key_keeps who p (Done (done.Scanned n)) is x = absurd x
  key_keeps who p (Done (done.Keys keys)) is x = absurd x
  key_keeps who p (Done (done.Empty b)) is x = absurd x
  key_keeps who p (Done (done.Stats stats)) is x = absurd x
  key_keeps who p Running is x = absurd (cc is)
  key_keeps who p (Asks found) is x = absurd (cc is)
  key_keeps who p (Found place key value) is x = absurd (cc is)
  key_keeps who p (Registered n) is x = absurd (cc is)
  key_keeps who p (Refused e) is x = absurd (cc is)

  scan_keeps : (who : ℕ) (o : Outcome V) → IsSome (reply_in o) → PlaysScan fs m who o s → AreInFlight s fs
  scan_keeps who (Done (done.Reply r)) is x = absurd x
  scan_keeps who (Done done.Unit) is x = absurd x
  scan_keeps who (Done (done.Scanned n)) is x = absurd (cc is)
  scan_keeps who (Done (done.Keys keys)) is x = absurd x
  scan_keeps who (Done (done.Empty b)) is x = absurd x
  scan_keeps who (Done (done.Stats stats)) is x = absurd x
  scan_keeps who Running is x = absurd (cc is)
  scan_keeps who (Asks found) is x = absurd (cc is)
  scan_keeps who (Found place key value) is x = absurd (cc is)
  scan_keeps who (Registered n) is x = absurd (cc is)
  scan_keeps who (Refused e) is x = absurd (cc is)

  -- a whole call that ended with a reply leaves the other calls in flight
  pub replied_keeps : (who : ℕ) (o : Op V) (told : Report V) → IsSome (reply_in told.outcome) → CallPlays same fs m who o (Some told) s → AreInFlight s fs
  replied_keeps who (op.Get k) t is x = key_keeps who (point.Get k) t.outcome is x
  replied_keeps who (op.Insert k v) t is x = key_keeps who (point.Insert k v) t.outcome is x
  replied_keeps who (op.Remove k) t is x = key_keeps who (point.Remove k) t.outcome is x
  replied_keeps who (op.ComputePresent k) t is x = key_keeps who (point.ComputePresent k) t.outcome is x
  replied_keeps who (op.ComputeInsert k) t is x = key_keeps who (point.ComputeInsert k) t.outcome is x
  replied_keeps who (op.Exchange k old new) t is x = key_keeps who (point.Exchange k old new) t.outcome is x
  replied_keeps who (op.Range start end size) t is x = scan_keeps who t.outcome is x
  replied_keeps who (op.RangeInclusive start last size) t is x = scan_keeps who t.outcome is x
  replied_keeps who op.Keys t is x = x.1.1
  replied_keeps who op.IsEmpty t is x = x.1.1
  replied_keeps who op.Stats t is x = x.1.1
  replied_keeps who op.Pin t is x = x.1
  replied_keeps who op.Unpin t is x = x.1
  replied_keeps who op.Repin t is x = x.1
  replied_keeps who op.Flush t is x = x.1
  replied_keeps who op.Release t is x = x.1
