-- A whole scan finds what it promises by the pairs that stand, and leaves them.
use Rattle.std.proofs.Common.{◌≡◌, ◌≤◌, ℕ, Bool, List, [], ◌∷◌, length, suc, take, refl, sym, ◌∙◌, ap, subst, arith}
use Rattle.std.proofs.lemmas.List.{length-set}
use Rattle.std.specs.Prelude.{Option, None, Some, IsSome}
use Rattle.judge.specs.Answer.{Pairs}
use Rattle.congee.specs.Keys.{IsMapOf}
use Rattle.congee.specs.protocol.Scans.{IsScan}
use Rattle.joint.specs.declared.steps.Done.TheVariants as done
use Rattle.joint.specs.declared.steps.Op.TheVariants as op
use Rattle.joint.specs.declared.steps.Outcome.{Outcome}
use Rattle.joint.specs.declared.steps.Outcome.TheVariants.{Running, Asks, Found, Registered, Done, Refused}
use Rattle.joint.specs.declared.steps.Report.{Report}
use Rattle.joint.specs.calls.Calling.{FillsPlaces, IsCalled, put, put_all}
use Rattle.joint.specs.calls.MapCalls.{CallPlays, PlaysScan}
use Rattle.joint.specs.Reports.{scanned_in}
use Rattle.joint.specs.calls.Scanned.{ScansAs, scanned_of}
use Rattle.joint.specs.engine.Engine.{World}
use Rattle.joint.specs.engine.Flying.{AreInFlight, Flights}
use Rattle.joint.specs.nodes.Nodes.{nodes}

-- a scan that filled so many of its places has found what it promises there
pub scans_as : {V : Type 0} (start end size : ℕ) (m : Pairs V) (o : Outcome V) (places : List (ℕ × V)) → size ≡ length places
    → ((count : ℕ) → o ≡ Done (done.Scanned count) → size ≤ length places → (count ≤ length places) × IsScan {V = V} start end size (m ∷ []) (take count places)) → ScansAs start end m (scanned_in o) places
scans_as {V} start end size m (Done (done.Scanned n)) places is x =
    let found = x n refl (omega (arith, is)) in
    (found.0, subst (λ q. IsScan {V = V} start end q (m ∷ []) (take n places)) is found.1)
scans_as start end size m (Done (done.Reply r)) places is x = tt
scans_as start end size m (Done done.Unit) places is x = tt
scans_as start end size m (Done (done.Keys keys)) places is x = tt
scans_as start end size m (Done (done.Empty b)) places is x = tt
scans_as start end size m (Done (done.Stats stats)) places is x = tt
scans_as start end size m Running places is x = tt
scans_as start end size m (Asks found) places is x = tt
scans_as start end size m (Found place key value) places is x = tt
scans_as start end size m (Registered n) places is x = tt
scans_as start end size m (Refused e) places is x = tt

put_length : {V : Type 0} (o : Outcome V) (places : List (ℕ × V)) → length (put o places) ≡ length places
put_length (Found place key value) places = length-set places place (key, value)
put_length Running places = refl
put_length (Asks found) places = refl
put_length (Registered n) places = refl
put_length (Done d) places = refl
put_length (Refused e) places = refl

-- there are as many places after reports as before
all_length : {V : Type 0} (reports : List (Report V)) (places : List (ℕ × V)) → length (put_all reports places) ≡ length places
all_length [] places = refl
all_length (r ∷ rs) places = all_length rs (put r.outcome places) ∙ put_length r.outcome places

-- what a whole scan tells and leaves at its places is what it promises there
pub scan_finds : {V : Type 0} (same : V → V → Bool) (always : Bool) (s : World V) (who start last size most : ℕ) (m : Pairs V) (told : Option (Report V)) (places places' : List (ℕ × V)) (s' : World V) → IsCalled same always s who (op.RangeInclusive start last size) most places told places' s' → size ≡ length places
    → FillsPlaces m (op.RangeInclusive start last size) told places' → ScansAs start (suc last) m (scanned_of told) places'
scan_finds same always s who start last size most m None places places' s' x is f = tt
scan_finds same always s who start last size most m (Some r) places places' s' x is f = scans_as start (suc last) size m r.outcome places' (is ∙ sym (ap length x.found ∙ all_length x.reports places)) f

module _ {V : Type 0} (same : V → V → Bool) (fs : Flights V) (m : Pairs V) (s : World V) where
  leaves : (who : ℕ) (o : Outcome V) → PlaysScan fs m who o s → IsMapOf (nodes s.forest) m
  leaves who Running x = x.stand
  leaves who (Found place key value) x = x.stand
  leaves who (Done (done.Scanned n)) x = x.0
  leaves who (Done (done.Reply r)) x = absurd x
  leaves who (Done done.Unit) x = absurd x
  leaves who (Done (done.Keys keys)) x = absurd x
  leaves who (Done (done.Empty b)) x = absurd x
  leaves who (Done (done.Stats stats)) x = absurd x
  leaves who (Refused e) x = x.0
  leaves who (Asks found) x = absurd x
  leaves who (Registered n) x = absurd x

  -- a whole scan leaves the pairs, however it stands
  pub scan_stands : (who start last size : ℕ) (told : Option (Report V)) → CallPlays same fs m who (op.RangeInclusive start last size) told s → IsMapOf (nodes s.forest) m
  scan_stands who start last size None x = x.0
  scan_stands who start last size (Some r) x = leaves who r.outcome x

  done_leaves : (who : ℕ) (o : Outcome V) → IsSome (scanned_in o) → PlaysScan fs m who o s → AreInFlight s fs
  done_leaves who (Done (done.Scanned n)) is x = x.1
  done_leaves who (Done (done.Reply r)) is x = absurd x
  done_leaves who (Done done.Unit) is x = absurd x
  done_leaves who (Done (done.Keys keys)) is x = absurd x
  done_leaves who (Done (done.Empty b)) is x = absurd x
  done_leaves who (Done (done.Stats stats)) is x = absurd x
  done_leaves who Running is x = absurd (cc is)
  done_leaves who (Found place key value) is x = absurd (cc is)
  done_leaves who (Refused e) is x = absurd (cc is)
  done_leaves who (Asks found) is x = absurd x
  done_leaves who (Registered n) is x = absurd x

  -- one that is done leaves the calls in flight
  pub scan_keeps : (who start last size : ℕ) (told : Option (Report V)) → IsSome (scanned_of told) → CallPlays same fs m who (op.RangeInclusive start last size) told s → AreInFlight s fs
  scan_keeps who start last size None is x = absurd (cc is)
  scan_keeps who start last size (Some r) is x = done_leaves who r.outcome is x
