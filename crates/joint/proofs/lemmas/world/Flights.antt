-- The calls on the tree that are in flight, each watched beside its machine.
use Rattle.std.proofs.Common.{◌≡◌, ◌≢◌, ◌<◌, ℕ, zero, suc, ◌+◌, arith, Bool, true, List, [], ◌∷◌, refl, sym, ◌∙◌, ap, subst, inl, inr}
use Rattle.std.proofs.Math.ListN.{set}
use Rattle.std.specs.Prelude.{Option, None, Some, length, slice_get, ◌==◌, if◌then◌else◌}
use Rattle.std.proofs.lemmas.Bool.{cases_Bool, eqb-true, eqb-false, true_from_ne_false}
use Rattle.congee.specs.declared.protocol.machine.Machine.{Machine}
use Rattle.congee.specs.declared.protocol.op.Op.{Op as Point}
use Rattle.congee.specs.declared.protocol.op.Op.TheVariants as point
use Rattle.congee.specs.declared.protocol.phase.Phase.TheVariants.{Ended, Scan}
use Rattle.judge.specs.Answer.{Pairs}
use Rattle.congee.specs.protocol.Play.{Flight, Pending, Over, Unasked, begun, parts, range_of, flight, Follows, Following}
use Rattle.joint.specs.declared.engine.in_flight.InFlight.{InFlight}
use Rattle.joint.specs.declared.engine.in_flight.InFlight.TheVariants.{Idle, Collecting, Reserving, Securing, Walking}
use Rattle.joint.specs.declared.id.Id.{Id}
use Rattle.joint.specs.declared.steps.Done.{Done as Answer}
use Rattle.joint.specs.declared.steps.Done.TheVariants as done
use Rattle.joint.specs.engine.Intact.{writes}
use Rattle.joint.specs.Names.{root}
use Rattle.joint.specs.world.MapSteps.{EndsAtOnce, EndsEmpty, Stays, Line}
use Rattle.joint.specs.engine.Flying.{Flights, with_flight, IsInFlight}
use Rattle.joint.specs.world.World.{IsOnKey}

-- a number passes the test for itself
pub eqb_same : (w : ℕ) → (w == w) ≡ true
eqb_same w = true_from_ne_false (w == w) (λ e. eqb-false w w e refl)

-- what was put in a place below the length of a list stands there
pub set_at : {A : Type 0} (xs : List A) (i : ℕ) (x : A) → i < length xs → slice_get (set xs i x) i ≡ Some x
set_at [] i x l = absurd (omega (arith, l))
set_at (y ∷ xs) zero x l = refl
set_at (y ∷ xs) (suc i) x l = set_at xs i x (omega (arith, l))

module _ {V : Type 0} where
  -- the worker whose call was put has that call
  pub flight_here : (fs : Flights V) (w : ℕ) (f : Flight V) → with_flight fs w f w ≡ f
  flight_here fs w f = let P : Bool → Type 0 = λ b. (if b then f else fs w) ≡ f in subst P (sym (eqb_same w)) refl

  -- each other worker has the call that it had
  pub flight_apart : (fs : Flights V) (w i : ℕ) (f : Flight V) → i ≢ w → with_flight fs w f i ≡ fs i
  flight_apart fs w i f n = elim (cases_Bool (i == w)) [
    | inl e ↦ absurd (n (eqb-true i w e))
    | inr e ↦ (let P : Bool → Type 0 = λ b. (if b then f else fs i) ≡ fs i in subst P (sym e) refl)
  ]

  -- a call on the tree that ends as it begins is a scan, and leaves the map
  empty_stays : (o : Option (ℕ × ℕ × ℕ)) (count : ℕ) (fs : Flights V) (m : Pairs V) (l : Line V) (fs' : Flights V) → EndsEmpty o count fs m l fs' → Stays fs m l fs'
  empty_stays None count fs m l fs' x = absurd x
  empty_stays (Some (start, end, size)) count fs m l fs' x = x.stays

  -- a call that is done as it begins leaves the map, and the calls in flight
  pub ends_stays : (fs : Flights V) (m : Pairs V) (op : Point V) (d : Answer V) (l : Line V) (fs' : Flights V) → EndsAtOnce fs m op d l fs' → Stays fs m l fs'
  ends_stays fs m op (done.Scanned count) l fs' x = empty_stays (range_of op) count fs m l fs' x
  ends_stays fs m op done.Unit l fs' x = absurd x
  ends_stays fs m op (done.Reply r) l fs' x = absurd x
  ends_stays fs m op (done.Keys keys) l fs' x = absurd x
  ends_stays fs m op (done.Empty b) l fs' x = absurd x
  ends_stays fs m op (done.Stats stats) l fs' x = absurd x

  -- a writing call that has not begun is watched as one that has yet to take effect, and hasn't asked
  pub pending : (op : Point V) → writes op ≡ true → flight (begun root op) ≡ Pending (parts op).0 (parts op).1 (parts op).2 Unasked
  pending (point.Get k) p = absurd (cc p)
  pending (point.Insert k v) p = refl
  pending (point.Remove k) p = refl
  pending (point.ComputePresent k) p = refl
  pending (point.ComputeInsert k) p = refl
  pending (point.Exchange k old new) p = refl
  pending (point.Range start end size) p = absurd (cc p)
  pending (point.RangeInclusive start last size) p = absurd (cc p)

  -- a call on one key waits to take effect from its begin on
  pub begins_pending : (p : Point V) → IsOnKey p → flight (begun root p) ≡ Pending (parts p).0 (parts p).1 (parts p).2 Unasked
  begins_pending (point.Get k) u = refl
  begins_pending (point.Insert k v) u = refl
  begins_pending (point.Remove k) u = refl
  begins_pending (point.ComputePresent k) u = refl
  begins_pending (point.ComputeInsert k) u = refl
  begins_pending (point.Exchange k old new) u = refl
  begins_pending (point.Range start end size) u = absurd u
  begins_pending (point.RangeInclusive start last size) u = absurd u

  -- the machine of a call that begins is watched as that call
  pub begun_follows : (op : Point V) → Follows (begun root op) (flight (begun root op))
  begun_follows (point.Get k) = inl (tt, refl)
  begun_follows (point.Insert k v) = inl (tt, refl)
  begun_follows (point.Remove k) = inl (tt, refl)
  begun_follows (point.ComputePresent k) = inl (tt, refl)
  begun_follows (point.ComputeInsert k) = inl (tt, refl)
  begun_follows (point.Exchange k old new) = inl (tt, refl)
  begun_follows (point.Range start end size) = inr (_, refl, inl (refl, refl))
  begun_follows (point.RangeInclusive start last size) = inr (_, refl, inl (refl, refl))

  -- a call that has ended is watched no longer
  pub over_when_ended : (m : Machine Id V) (f : Flight V) → m.phase ≡ Ended → Follows m f → f ≡ Over
  over_when_ended m f e (inl x) = x.1 ∙ (let P : _ → Type 0 = λ p. flight (record m { phase = p }) ≡ Over in subst P (sym e) refl)
  over_when_ended m f e (inr (s, p, x)) = absurd (let q : Ended ≡ Scan s = sym e ∙ p in cc)

  -- each machine's own flight, for those whose call is on the tree
  abbrev pub own : InFlight V → Flight V → Flight V
  own Walking f = f
  own Idle f = Over
  own (Collecting op) f = Over
  own (Reserving op) f = Over
  own (Securing op) f = Over

  -- those of the workers whose calls these are, the first of whom has this number
  abbrev pub listed : List (InFlight V) → Flights V → ℕ → List (Flight V)
  listed [] fs i = []
  listed (k ∷ ks) fs i = own k (fs i) ∷ listed ks fs (suc i)

  -- where a worker's call is on the tree, its place in the list has its flight
  pub listed_at : (ks : List (InFlight V)) (fs : Flights V) (i j : ℕ) → slice_get ks j ≡ Some Walking → slice_get (listed ks fs i) j ≡ Some (fs (i + j))
  listed_at [] fs i j e = absurd cc
  listed_at (k ∷ ks) fs i zero e =
      let q : k ≡ Walking = cc in
      let P : InFlight V → Type 0 = λ x. Some (own x (fs i)) ≡ Some (fs (i + 0)) in
      subst P (sym q) (ap (λ n. Some (fs n)) (omega arith))
  listed_at (k ∷ ks) fs i (suc j) e = listed_at ks fs (suc i) j e ∙ ap (λ n. Some (fs n)) (omega arith)

  ended_follows : (m : Machine Id V) → m.phase ≡ Ended → Follows m Over
  ended_follows m e = inl (tt, (let P : _ → Type 0 = λ p. Over ≡ flight (record m { phase = p }) in subst P (sym e) refl))

  own_follows : (k : InFlight V) (m : Machine Id V) (f : Flight V) → IsInFlight k m f → ((k ≡ Walking → ⊥) → m.phase ≡ Ended) → Follows m (own k f)
  own_follows Idle m f i e = ended_follows m (e (λ q. cc))
  own_follows (Collecting op) m f i e = ended_follows m (e (λ q. cc))
  own_follows (Reserving op) m f i e = ended_follows m (e (λ q. cc))
  own_follows (Securing op) m f i e = ended_follows m (e (λ q. cc))
  own_follows Walking m f i e = i

  -- where each call is watched beside its machine, the list follows the machines
  pub following : (ks : List (InFlight V)) (ms : List (Machine Id V)) (fs : Flights V) (i : ℕ) → length ms ≡ length ks
      → ((j : ℕ) (k : InFlight V) (m : Machine Id V) → slice_get ks j ≡ Some k → slice_get ms j ≡ Some m → IsInFlight k m (fs (i + j)))
      → ((j : ℕ) (k : InFlight V) (m : Machine Id V) → slice_get ks j ≡ Some k → slice_get ms j ≡ Some m → (k ≡ Walking → ⊥) → m.phase ≡ Ended)
      → Following ms (listed ks fs i)
  following [] [] fs i l each rest = tt
  following [] (m ∷ ms) fs i l each rest = absurd (omega (arith, l))
  following (k ∷ ks) [] fs i l each rest = absurd (omega (arith, l))
  following (k ∷ ks) (m ∷ ms) fs i l each rest = (
    own_follows k m (fs i) (let P : ℕ → Type 0 = λ n. IsInFlight k m (fs n) in subst P (omega arith) (each 0 k m refl refl)) (rest 0 k m refl refl),
    following ks ms fs (suc i) (omega (arith, l)) (λ j x y a b. let P : ℕ → Type 0 = λ n. IsInFlight x y (fs n) in subst P (omega arith) (each (suc j) x y a b)) (λ j x y a b. rest (suc j) x y a b),
  )

  -- where a list follows the machines, each machine is watched as its place of the list says
  pub followed : (ms : List (Machine Id V)) (fs : List (Flight V)) (i : ℕ) (m : Machine Id V) (f : Flight V) → Following ms fs → slice_get ms i ≡ Some m → slice_get fs i ≡ Some f → Follows m f
  followed [] [] i m f x a b = absurd cc
  followed [] (g ∷ gs) i m f x a b = absurd x
  followed (y ∷ ms) [] i m f x a b = absurd x
  followed (y ∷ ms) (g ∷ gs) zero m f x a b = let p : y ≡ m = cc in let q : g ≡ f = cc in subst (λ (z : Machine Id V). Follows z f) p (subst (λ (z : Flight V). Follows y z) q x.0)
  followed (y ∷ ms) (g ∷ gs) (suc i) m f x a b = followed ms gs i m f x.1 a b
