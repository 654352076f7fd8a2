-- A step changes one worker's call alone, and so the count of the calls that have a place of the journal reserved.
use Rattle.std.proofs.Common.{◌≡◌, ◌≢◌, ◌<◌, ℕ, zero, suc, ◌+◌, arith, Bool, true, false, List, [], ◌∷◌, length, refl, sym, ◌∙◌, ap, subst, inl, inr}
use Rattle.std.proofs.Math.ListN.{set}
use Rattle.std.specs.Prelude.{Option, None, Some, slice_get}
use Rattle.std.proofs.lemmas.List.{length-set}
use Rattle.crossbeam_epoch.specs.declared.fault.Fault.{Fault}
use Rattle.crossbeam_epoch.specs.declared.world.report.Outcome.{Outcome as CollectorOutcome}
use Rattle.crossbeam_epoch.specs.declared.world.report.Outcome.TheVariants as collector_outcome
use Rattle.congee.specs.declared.protocol.machine.Machine.{Machine}
use Rattle.congee.specs.declared.protocol.machine.Noise.{Noise}
use Rattle.congee.specs.declared.protocol.op.Op.{Op as Point}
use Rattle.congee.specs.declared.protocol.op.Op.TheVariants as point
use Rattle.joint.specs.declared.engine.in_flight.InFlight.{InFlight}
use Rattle.joint.specs.declared.engine.in_flight.InFlight.TheVariants.{Idle, Collecting, Reserving, Securing, Walking}
use Rattle.joint.specs.declared.id.Id.{Id}
use Rattle.joint.specs.declared.steps.Event.{Event}
use Rattle.joint.specs.declared.steps.Event.TheVariants.{Register, Begin, Go}
use Rattle.joint.specs.declared.steps.Report.{Report}
use Rattle.joint.specs.declared.steps.Target.{Target}
use Rattle.joint.specs.declared.steps.Target.TheVariants as target
use Rattle.joint.specs.engine.Intact.{rested, secured_machines}
use Rattle.joint.specs.engine.Journaling.{has_place, one_where, places_of}
use Rattle.joint.specs.engine.Log.{counted}
use Rattle.joint.specs.Reports.{target}
use Rattle.joint.specs.engine.Engine.{World, EngineHolds, BeginsAt, BeginsOnTree, Does, EntersUnless, GoesAt, GoesOnReserving, Proceeds, Walks, finds_none}
use Rattle.joint.proofs.lemmas.engine.ScanEnds.{cleared_is, set_other}
use Rattle.joint.proofs.lemmas.engine.Collecting.{get_beside}

-- two lists that differ at one place at most
pub record AtOne {A : Type 0} (xs ys : List A) (w : ℕ) : Type 0 where
  pub other : (i : ℕ) → i ≢ w → slice_get ys i ≡ slice_get xs i
  pub long : length ys ≡ length xs

-- a list that stays is one that differs there at most
pub one_same : {A : Type 0} (xs ys : List A) (w : ℕ) → ys ≡ xs → AtOne xs ys w
one_same xs ys w e = record { other = λ i n. ap (λ zs. slice_get zs i) e; long = ap length e }

-- so is one with that place set
pub one_set : {A : Type 0} (xs ys : List A) (w : ℕ) (x : A) → ys ≡ set xs w x → AtOne xs ys w
one_set xs ys w x e = record { other = λ i n. ap (λ zs. slice_get zs i) e ∙ set_other xs w i x n; long = ap length e ∙ length-set xs w x }

-- and one that was changed there twice
one_after : {A : Type 0} (xs ys zs : List A) (w : ℕ) → AtOne xs ys w → AtOne ys zs w → AtOne xs zs w
one_after xs ys zs w a b = record { other = λ i n. b.other i n ∙ a.other i n; long = b.long ∙ a.long }

-- the calls in flight and the machines, but for one worker's, are as before
pub record Apart {V : Type 0} (s s' : World V) (w : ℕ) : Type 0 where
  pub calls : AtOne s.calls s'.calls w
  pub machines : AtOne s.machines s'.machines w

module _ {V : Type 0} where
  secured_one : (o : CollectorOutcome) (k : Option (InFlight V)) (ms : List (Machine Id V)) (w : ℕ) → AtOne ms (secured_machines o k ms w) w
  secured_one collector_outcome.Done (Some (Securing op)) ms w = one_set ms _ w _ refl
  secured_one collector_outcome.Done (Some Idle) ms w = one_same ms ms w refl
  secured_one collector_outcome.Done (Some (Collecting op)) ms w = one_same ms ms w refl
  secured_one collector_outcome.Done (Some (Reserving op)) ms w = one_same ms ms w refl
  secured_one collector_outcome.Done (Some Walking) ms w = one_same ms ms w refl
  secured_one collector_outcome.Done None ms w = one_same ms ms w refl
  secured_one collector_outcome.Running k ms w = one_same ms ms w refl
  secured_one (collector_outcome.Refused f) k ms w = one_same ms ms w refl

module _ {V : Type 0} (same : V → V → Bool) (always : Bool) (s s' : World V) (w : ℕ) (holds : EngineHolds same always s) where
  unchanged : s' ≡ s → Apart s s' w
  unchanged e = record { calls = one_same s.calls s'.calls w (ap (λ y. y.calls) e); machines = one_same s.machines s'.machines w (ap (λ y. y.machines) e) }

  scan_begins : (op : Point V) (r : Report V) (none : Bool) → EntersUnless none s w op r s' → Apart s s' w
  scan_begins op r true x = unchanged x.state
  scan_begins op r false x = record { calls = one_set s.calls s'.calls w _ (ap (λ y. y.calls) x.state); machines = one_set s.machines s'.machines w _ (ap (λ y. y.machines) x.state) }

  begins_tree : (op : Point V) (r : Report V) → BeginsOnTree same always s w op r s' → Apart s s' w
  begins_tree (point.Get k) r x = record { calls = one_set s.calls s'.calls w _ (ap (λ y. y.calls) x.state); machines = one_set s.machines s'.machines w _ (ap (λ y. y.machines) x.state) }
  begins_tree (point.Range start end size) r x = scan_begins (point.Range start end size) r (finds_none {V = V} (point.Range start end size)) x
  begins_tree (point.RangeInclusive start last size) r x = scan_begins (point.RangeInclusive start last size) r (finds_none {V = V} (point.RangeInclusive start last size)) x
  begins_tree (point.Insert k v) r x = record { calls = one_set s.calls s'.calls w _ (ap (λ y. y.calls) x.state); machines = one_same s.machines s'.machines w (ap (λ y. y.machines) x.state) }
  begins_tree (point.Remove k) r x = record { calls = one_set s.calls s'.calls w _ (ap (λ y. y.calls) x.state); machines = one_same s.machines s'.machines w (ap (λ y. y.machines) x.state) }
  begins_tree (point.ComputePresent k) r x = record { calls = one_set s.calls s'.calls w _ (ap (λ y. y.calls) x.state); machines = one_same s.machines s'.machines w (ap (λ y. y.machines) x.state) }
  begins_tree (point.ComputeInsert k) r x = record { calls = one_set s.calls s'.calls w _ (ap (λ y. y.calls) x.state); machines = one_same s.machines s'.machines w (ap (λ y. y.machines) x.state) }
  begins_tree (point.Exchange k old new) r x = record { calls = one_set s.calls s'.calls w _ (ap (λ y. y.calls) x.state); machines = one_same s.machines s'.machines w (ap (λ y. y.machines) x.state) }

  begins : (t : Target V) (r : Report V) → BeginsAt same always s w t r s' → Apart s s' w
  begins (target.Collector op) r x = record { calls = one_set s.calls s'.calls w _ x.calls; machines = one_same s.machines s'.machines w x.machines }
  begins (target.Tree op) r x = begins_tree op r x
  begins (target.Survey k) r x = unchanged x.state

  reserving_on : (b : World V) (r : Report V) → GoesOnReserving same always b w r s' → Apart b s' w
  reserving_on b r x = record {
    calls = one_set b.calls s'.calls w _ x.step.call;
    machines = (let P : List (Machine Id V) → Type 0 = λ ms. AtOne b.machines ms w in subst P (sym x.step.machine) (secured_one x.collector_report.outcome (slice_get b.calls w) b.machines w));
  }

  walks : (noise : Noise Id V) (r : Report V) → slice_get s.calls w ≡ Some Walking → Walks same always s w noise r s' → Apart s s' w
  walks noise r e k =
      let x : (x : Machine Id V) × (slice_get s.machines w ≡ Some x) = get_beside s.machines s.calls w holds.0.machines Walking e in
      let moved = k.step.walked.plays.moved x.0 x.1 in
      record {
        calls = one_set s.calls s'.calls w _ k.calls;
        machines = one_set s.machines s'.machines w (rested moved.now) (k.step.machines ∙ cleared_is s.machines k.step.between w x.0 moved.now x.1 moved.calls);
      }

  goes : (k : Option (InFlight V)) (noise : Noise Id V) (r : Report V) → slice_get s.calls w ≡ k → GoesAt same always s w k noise r s' → Apart s s' w
  goes None noise r e x = absurd x
  goes (Some Idle) noise r e x = absurd x
  goes (Some (Collecting op)) noise r e x = record { calls = one_set s.calls s'.calls w _ x.calls; machines = one_same s.machines s'.machines w x.machines }
  goes (Some (Reserving op)) noise r e x =
      let a : Apart x.between s' w = reserving_on x.between r x.goes in
      record {
        calls = one_after s.calls x.between.calls s'.calls w (one_set s.calls x.between.calls w _ x.begins.call) a.calls;
        machines = one_after s.machines x.between.machines s'.machines w (one_same s.machines x.between.machines w x.begins.machine) a.machines;
      }
  goes (Some (Securing op)) noise r e x = reserving_on s r x
  goes (Some Walking) noise r e x = walks noise r e x

  proceeds : (event : Event V) (r : Report V) → Proceeds same always s w event r s' → Apart s s' w
  proceeds Register r (inl x) = record { calls = one_same s.calls s'.calls w (ap (λ y. y.calls) x.1.state); machines = one_same s.machines s'.machines w (ap (λ y. y.machines) x.1.state) }
  proceeds Register r (inr x) = unchanged x.state
  proceeds (Begin op) r x = begins (target op) r x
  proceeds (Go noise) r x = goes (slice_get s.calls w) noise r refl x

  -- a step changes one worker's call and machine, and no other's
  pub step_apart : (event : Event V) (o : Option Fault) (r : Report V) → Does same always s w event o r s' → Apart s s' w
  step_apart event None r x = proceeds event r x
  step_apart event (Some f) r x = unchanged x.1

-- lists with equal elements are equal
all_same : {A : Type 0} (xs ys : List A) → length ys ≡ length xs → ((i : ℕ) → slice_get ys i ≡ slice_get xs i) → ys ≡ xs
all_same [] [] l e = refl
all_same [] (y ∷ ys) l e = absurd (omega (arith, l))
all_same (x ∷ xs) [] l e = absurd (omega (arith, l))
all_same (x ∷ xs) (y ∷ ys) l e =
    let h : y ≡ x = let q : Some y ≡ Some x = e 0 in cc in
    let t : ys ≡ xs = all_same xs ys (omega (arith, l)) (λ i. e (suc i)) in
    ap (λ z. z ∷ ys) h ∙ ap (λ zs. x ∷ zs) t

tail_one : {A : Type 0} (x y : A) (xs ys : List A) (w : ℕ) → AtOne (x ∷ xs) (y ∷ ys) (suc w) → AtOne xs ys w
tail_one x y xs ys w a = record { other = λ i n. a.other (suc i) (λ e. n (let q : suc i ≡ suc w = e in omega (arith, q))); long = (let l : length (y ∷ ys) ≡ length (x ∷ xs) = a.long in omega (arith, l)) }

tail_same : {A : Type 0} (x y : A) (xs ys : List A) → AtOne (x ∷ xs) (y ∷ ys) 0 → ys ≡ xs
tail_same x y xs ys a = all_same xs ys (let l : length (y ∷ ys) ≡ length (x ∷ xs) = a.long in omega (arith, l)) (λ i. a.other (suc i) (λ e. let q : suc i ≡ 0 = e in omega (arith, q)))

head_same : {A : Type 0} (x y : A) (xs ys : List A) (w : ℕ) → AtOne (x ∷ xs) (y ∷ ys) (suc w) → y ≡ x
head_same x y xs ys w a = let q : Some y ≡ Some x = a.other 0 (λ e. let z : 0 ≡ suc w = e in omega (arith, z)) in cc

module _ {V : Type 0} where
  -- 1 where the worker's call has a place of the journal reserved, and 0 where it has none
  abbrev pub count_at : List (InFlight V) → List (Machine Id V) → ℕ → ℕ
  count_at ks ms w = one_where (has_place (slice_get ks w) (slice_get ms w))

  -- the count after, with the call's part before, is the count before with its part after
  pub places_at : (ks ks' : List (InFlight V)) (ms ms' : List (Machine Id V)) (w : ℕ) → length ms ≡ length ks → AtOne ks ks' w → AtOne ms ms' w → places_of ks' ms' + count_at ks ms w ≡ places_of ks ms + count_at ks' ms' w
  places_at [] [] [] [] w l a b = refl
  places_at [] (k' ∷ ks') ms ms' w l a b = absurd (let n : length (k' ∷ ks') ≡ 0 = a.long in omega (arith, n))
  places_at [] [] (m ∷ ms) ms' w l a b = absurd (omega (arith, l))
  places_at [] [] [] (m' ∷ ms') w l a b = absurd (let n : length (m' ∷ ms') ≡ 0 = b.long in omega (arith, n))
  places_at (k ∷ ks) [] ms ms' w l a b = absurd (let n : 0 ≡ length (k ∷ ks) = a.long in omega (arith, n))
  places_at (k ∷ ks) (k' ∷ ks') [] ms' w l a b = absurd (omega (arith, l))
  places_at (k ∷ ks) (k' ∷ ks') (m ∷ ms) [] w l a b = absurd (let n : 0 ≡ length (m ∷ ms) = b.long in omega (arith, n))
  places_at (k ∷ ks) (k' ∷ ks') (m ∷ ms) (m' ∷ ms') zero l a b =
      let t : places_of ks' ms' ≡ places_of ks ms = ap (λ z. places_of z ms') (tail_same k k' ks ks' a) ∙ ap (places_of ks) (tail_same m m' ms ms' b) in
      swapped (one_where (has_place (Some k) (Some m))) (one_where (has_place (Some k') (Some m'))) (places_of ks ms) (places_of ks' ms') t where
        swapped : (x y n n' : ℕ) → n' ≡ n → y + n' + x ≡ x + n + y
        swapped x y n n' e = omega (arith, e)
  places_at (k ∷ ks) (k' ∷ ks') (m ∷ ms) (m' ∷ ms') (suc w) l a b =
      let n : length ms ≡ length ks = omega (arith, l) in
      let on : places_of ks' ms' + count_at ks ms w ≡ places_of ks ms + count_at ks' ms' w = places_at ks ks' ms ms' w n (tail_one k k' ks ks' w a) (tail_one m m' ms ms' w b) in
      let h : one_where (has_place (Some k') (Some m')) ≡ one_where (has_place (Some k) (Some m)) = ap (λ z. one_where (has_place (Some z) (Some m'))) (head_same k k' ks ks' w a) ∙ ap (λ z. one_where (has_place (Some k) (Some z))) (head_same m m' ms ms' w b) in
      further (one_where (has_place (Some k) (Some m))) (one_where (has_place (Some k') (Some m'))) (places_of ks ms) (places_of ks' ms') (count_at ks ms w) (count_at ks' ms' w) h on where
        further : (x x' n n' c c' : ℕ) → x' ≡ x → n' + c ≡ n + c' → x' + n' + c ≡ x + n + c'
        further x x' n n' c c' e f = omega (arith, e, f)

count_is : (before after : Bool) (n n' : ℕ) → n' + one_where before ≡ n + one_where after → counted before after n ≡ n'
count_is true true n n' e = omega (arith, e)
count_is true false n n' e = omega (arith, e)
count_is false true n n' e = omega (arith, e)
count_is false false n n' e = omega (arith, e)

-- the count after a step is the one before, counted anew for the worker's call
pub places_counted : {V : Type 0} (s s' : World V) (w : ℕ) → length s.machines ≡ length s.calls → Apart s s' w
    → counted (has_place (slice_get s.calls w) (slice_get s.machines w)) (has_place (slice_get s'.calls w) (slice_get s'.machines w)) (places_of s.calls s.machines) ≡ places_of s'.calls s'.machines
places_counted s s' w l a = count_is _ _ _ _ (places_at s.calls s'.calls s.machines s'.machines w l a.calls a.machines)

-- a call that has a place is counted
pub counts_one : {V : Type 0} (ks : List (InFlight V)) (ms : List (Machine Id V)) (w : ℕ) → length ms ≡ length ks → has_place (slice_get ks w) (slice_get ms w) ≡ true → 0 < places_of ks ms
counts_one [] ms w l e = absurd (cc e)
counts_one (k ∷ ks) [] w l e = absurd (omega (arith, l))
counts_one (k ∷ ks) (m ∷ ms) zero l e = let n : one_where (has_place (Some k) (Some m)) ≡ 1 = ap one_where e in omega (arith, n)
counts_one (k ∷ ks) (m ∷ ms) (suc w) l e = let n : 0 < places_of ks ms = counts_one ks ms w (omega (arith, l)) e in omega (arith, n)
