-- A scan that is taken whole, with no other call in flight: its reply is the map's.
use Rattle.std.proofs.Common.{◌≡◌, ◌⊎◌, ℕ, ◌<◌, ◌≤◌, ◌==◌, nat_eq, arith, Bool, true, List, [], length, take, Option, Some, refl, sym, ◌∙◌, ap, subst, inl, inr, if◌then◌else◌}
use Rattle.std.specs.Prelude.{slice_set}
use Rattle.std.specs.FinMap.{entries}
use Rattle.std.proofs.lemmas.Bool.{eqb-false, true_from_ne_false}
use Rattle.std.proofs.lemmas.List.{length-set}
use Rattle.judge.specs.Answer.{Pairs}
use Rattle.congee.specs.owned.Ranges.{in_range}
use Rattle.congee.specs.protocol.Play.{Flight, Over}
use Rattle.joint.specs.declared.steps.Done.TheVariants as done
use Rattle.joint.specs.declared.steps.Op.{Op}
use Rattle.joint.specs.declared.steps.Op.TheVariants as ops
use Rattle.joint.specs.declared.steps.Outcome.{Outcome}
use Rattle.joint.specs.declared.steps.Outcome.TheVariants as outcome
use Rattle.joint.specs.calls.MapCalls.{Answered as Last, IsOfScan, IsScanning, PlaysCall, PlaysScan, told_places}
use Rattle.joint.specs.Reports.{range_of, target, is_in_flight}
use Rattle.joint.specs.engine.Flying.{Flights}
use Rattle.joint.specs.world.World.{Holds}
use Rattle.joint.specs.engine.Engine.{World}
use Rattle.trial.specs.declared.caller.Closure.{Closure}
use Rattle.trial.specs.declared.open_tree.OpenTree.{OpenTree}
use Rattle.trial.specs.declared.reply.Reply.TheVariants as reply
use Rattle.trial.specs.Calling.{Calls}
use Rattle.trial.specs.MapReplies.{IsAnswer}
use Rattle.trial.specs.Places.{places_at, given}
use Rattle.trial.specs.Replies.{reply_of}
use Rattle.trial.proofs.MapSteps.{MapLaws, Rests, rests_after}
use Rattle.trial.proofs.OneMap.{scan_of_one}
use Rattle.trial.proofs.WholeCalls.{Called, called, first_of, plays_call, set_places}

-- the first pairs of the map's range
abbrev pub finds : Pairs ℕ → (start end size : ℕ) → List (ℕ × ℕ)
finds m start end size = take size (in_range start end (entries m))

past_or_within : (n i : ℕ) → (n ≤ i) ⊎ (i < n)
past_or_within n i = grind arith

-- a worker with a scan in flight is one of the tree's
within : (s : World ℕ) (m : Pairs ℕ) (fs : Flights ℕ) (w : ℕ) → Holds nat_eq true s → IsScanning fs m w s → w < 256
within s m fs w h x = elim (past_or_within (length s.calls) w) [
  | inl p ↦ absurd (
      let P : Bool → Type 0 = λ b. (if b then x.flight else fs w) ≡ Over in
      let Q : Flight ℕ → Type 0 = λ f. IsOfScan f in
      let same : (w == w) ≡ true = true_from_ne_false (w == w) (λ e. eqb-false w w e refl) in
      let over : x.flight ≡ Over = subst P same (x.in_flight.beyond w p) in
      subst Q over x.of_scan)
  | inr p ↦ omega (arith, p, h.0.few)
]

scanning : (m : Pairs ℕ) (fs : Flights ℕ) (w : ℕ) (o : Outcome ℕ) (s : World ℕ) → is_in_flight o ≡ true → PlaysScan fs m w o s → IsScanning fs m w s
scanning m fs w outcome.Running s e x = x
scanning m fs w (outcome.Asks found) s e x = absurd x
scanning m fs w (outcome.Found place key value) s e x = x
scanning m fs w (outcome.Registered who) s e x = absurd x
scanning m fs w (outcome.Done d) s e x = absurd (cc e)
scanning m fs w (outcome.Refused r) s e x = absurd (cc e)

-- what a scan makes of the map
plays_scan : (fs : Flights ℕ) (m : Pairs ℕ) (w : ℕ) (last : Last ℕ) (op : Op ℕ) (start end size : ℕ) (told : Outcome ℕ) (s : World ℕ) → range_of op ≡ Some (start, end, size) → PlaysCall nat_eq fs m w last (target op) told s → PlaysScan fs m w told s
plays_scan fs m w last (ops.Range a b n) start end size told s e x = x
plays_scan fs m w last (ops.RangeInclusive a b n) start end size told s e x = x
plays_scan fs m w last ops.Pin start end size told s e x = absurd (cc e)
plays_scan fs m w last ops.Unpin start end size told s e x = absurd (cc e)
plays_scan fs m w last ops.Repin start end size told s e x = absurd (cc e)
plays_scan fs m w last ops.Flush start end size told s e x = absurd (cc e)
plays_scan fs m w last ops.Release start end size told s e x = absurd (cc e)
plays_scan fs m w last (ops.Get k) start end size told s e x = absurd (cc e)
plays_scan fs m w last (ops.Insert k v) start end size told s e x = absurd (cc e)
plays_scan fs m w last (ops.Remove k) start end size told s e x = absurd (cc e)
plays_scan fs m w last (ops.ComputePresent k) start end size told s e x = absurd (cc e)
plays_scan fs m w last (ops.ComputeInsert k) start end size told s e x = absurd (cc e)
plays_scan fs m w last (ops.Exchange k old new) start end size told s e x = absurd (cc e)
plays_scan fs m w last ops.Keys start end size told s e x = absurd (cc e)
plays_scan fs m w last ops.IsEmpty start end size told s e x = absurd (cc e)
plays_scan fs m w last ops.Stats start end size told s e x = absurd (cc e)

module _ (laws : MapLaws) (w start end size : ℕ) (op : Op ℕ) (ranged : range_of op ≡ Some (start, end, size)) (m : Pairs ℕ) (closure : Option Closure) (s s' : OpenTree) (told : Outcome ℕ) (b : Rests s.world m) (all : length s.scans.items ≡ 256) (c : Called w op closure s s' told) where
  -- its first step
  began : PlaysScan b.flights m w c.report.outcome c.mid.world
  began = plays_scan b.flights m w _ op start end size c.report.outcome c.mid.world ranged
      (laws.plays s.world (first_of w op closure s s' told c) [] b.flights m w op b.holds (c.step, tt) b.stand b.in_flight (record { begins = refl; goes_on = tt }))

  cleared : is_in_flight c.report.outcome ≡ true → (w < length c.mid.scans.items) × (places_at c.mid.scans.items w ≡ [])
  cleared on =
      let small : w < 256 = within c.mid.world m b.flights w c.step.holds (scanning m b.flights w c.report.outcome c.mid.world on began) in
      let set : c.mid.scans.items ≡ slice_set s.scans.items w [] = c.scans ∙ ap (λ x. if x then slice_set s.scans.items w [] else s.scans.items) on in
      let few : length c.mid.scans.items ≡ 256 = ap length set ∙ length-set s.scans.items w [] ∙ all in
      (omega (arith, small, few), ap (λ x. places_at x w) set ∙ set_places s.scans.items w [] (omega (arith, small, all)))

  none_taken : (count : ℕ) (xs : List (ℕ × ℕ)) → count ≤ 0 → take count xs ≡ []
  none_taken count xs l =
      let zero_is : count ≡ 0 = omega (arith, l) in
      ap (λ n. take n xs) zero_is

  -- where it is done, its places hold what it told for them
  found : (count : ℕ) → told ≡ outcome.Done (done.Scanned count) → take count (places_at s'.scans.items w) ≡ finds m start end size
  found count e =
      let x = laws.scan s.world (first_of w op closure s s' told c) c.rest.steps b.flights m w op start end size count b.holds (c.step, c.rest.each) b.stand b.in_flight ranged (record { begins = refl; goes_on = c.rest.goes_on }) (c.rest.told_last ∙ e) in
      let is : take count (told_places [] c.rest.steps) ≡ finds m start end size = scan_of_one m start end size (take count (told_places [] c.rest.steps)) x.scan in
      elim c.ran [
        | inl none ↦ (
            let few : count ≤ 0 = (let P : List (_) → Type 0 = λ ts. count ≤ length (told_places [] ts) in subst P none x.filled) in
            none_taken count (places_at s'.scans.items w) few ∙ sym (none_taken count (told_places [] c.rest.steps) few) ∙ is)
        | inr on ↦ (
            let y = cleared on in
            ap (take count) (c.rest.places y.0 ∙ ap (λ p. told_places p c.rest.steps) y.1) ∙ is)
      ]

-- the scan has ended as the map says
pub record FoundAll (m : Pairs ℕ) (start end size w : ℕ) (s : OpenTree) (stands : Outcome ℕ) : Type 0 where
  pub rests : Rests s.world m
  pub reply : reply_of (given stands (places_at s.scans.items w)) stands ≡ reply.Range (finds m start end size)

-- a whole scan
pub scan_finishes : MapLaws → (w start end size : ℕ) (op : Op ℕ) → range_of op ≡ Some (start, end, size) → (m : Pairs ℕ) (closure : Option Closure) (s s' : OpenTree) (last : Outcome ℕ) (ps : List (ℕ × ℕ)) → Rests s.world m
    → length s.scans.items ≡ 256 → Calls s w op closure last s' → IsAnswer (reply_of ps last) → FoundAll m start end size w s' last
scan_finishes laws w start end size op ranged m closure s s' last ps b len g a = by_told last refl (plays_scan b.flights m w _ op start end size last s'.world ranged (plays_call w op closure s s' last c laws m b)) where
  c : Called w op closure s s' last
  c = called w op closure s s' last g

  no_answer : (o : Outcome ℕ) → last ≡ o → (IsAnswer (reply_of ps o) → ⊥) → FoundAll m start end size w s' last
  no_answer o e n = absurd (n (let P : Outcome ℕ → Type 0 = λ x. IsAnswer (reply_of ps x) in subst P e a))

  by_told : (o : Outcome ℕ) → last ≡ o → PlaysScan b.flights m w o s'.world → FoundAll m start end size w s' last
  by_told (outcome.Done (done.Scanned count)) e x = record {
    rests = rests_after m s.world s'.world b c.holds x;
    reply = ap (λ (o : Outcome ℕ). reply_of (given o (places_at s'.scans.items w)) o) e ∙ ap reply.Range (found laws w start end size op ranged m closure s s' last b len c count e);
  }
  by_told (outcome.Done done.Unit) e x = absurd x
  by_told (outcome.Done (done.Reply r)) e x = absurd x
  by_told (outcome.Done (done.Keys keys)) e x = absurd x
  by_told (outcome.Done (done.Empty q)) e x = absurd x
  by_told (outcome.Done (done.Stats stats)) e x = absurd x
  by_told outcome.Running e x = no_answer outcome.Running e (λ y. y)
  by_told (outcome.Asks q) e x = absurd x
  by_told (outcome.Found place key value) e x = no_answer (outcome.Found place key value) e (λ y. y)
  by_told (outcome.Registered who) e x = absurd x
  by_told (outcome.Refused r) e x = no_answer (outcome.Refused r) e (λ y. y)
