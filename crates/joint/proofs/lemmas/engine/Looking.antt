-- Why a worker can't look at the pairs that stand.
use Rattle.std.proofs.Common.{◌≡◌, ℕ, Bool, true, false, refl, sym, ◌∙◌, ap, subst}
use Rattle.std.specs.Prelude.{Option, None, Some, Result, Ok, Err, IsSome, is_none, is_some, slice_get, if◌then◌else◌, IfErr}
use Rattle.crossbeam_epoch.specs.declared.fault.Fault.{Fault}
use Rattle.crossbeam_epoch.specs.declared.fault.Fault.TheVariants as fault
use Rattle.crossbeam_epoch.specs.world.Steps.{when}
use Rattle.judge.specs.Answer.{Pairs}
use Rattle.joint.specs.declared.refusal.Refusal.{Refusal}
use Rattle.joint.specs.declared.refusal.Refusal.TheVariants.{Busy, Unknown, Unpinned}
use Rattle.joint.specs.engine.Engine.{World, is_busy, place_of}
use Rattle.joint.specs.engine.Looks.{Looks, TellsPair, look_fault}
use Rattle.joint.specs.engine.Standing.{pairs_of}
use Rattle.joint.specs.threads.Threads.{IsOfReader}

-- where copies would always be there and one isn't, they aren't
pub no_copy : (A : Type 0) (b : Bool) → (b ≡ true → IsSome {T = A} None) → b ≡ false
no_copy A true f = absurd (let z = f refl in cc z)
no_copy A false f = refl

-- whether a worker is registered, whether it is busy, and its word
abbrev fault_of : (registered busy : Bool) → Option ℕ → Option Fault
fault_of registered busy word = if registered then (if busy then Some fault.Busy else when (is_none word) fault.Unpinned) else Some fault.Unknown

no_word : (w : Option ℕ) → is_some w ≡ false → fault_of true false w ≡ Some fault.Unpinned
no_word None q = refl
no_word (Some y) q = absurd (cc q)

word : (w : Option ℕ) → is_some w ≡ true → fault_of true false w ≡ None
word None q = absurd (cc q)
word (Some y) q = refl

module _ {V : Type 0} (always : Bool) (s : World V) (who : ℕ) (is : Pairs V → Option (ℕ × V) → Type 0) where
  told : (f : Fault) (r : Result (Option (ℕ × V)) Refusal) → look_fault s who ≡ Some f → TellsPair always (pairs_of s) is (Some f) r → Looks always s who is r
  told f r e t = let P : Option Fault → Type 0 = λ o. TellsPair always (pairs_of s) is o r in subst P (sym e) t

  -- one that isn't registered is unknown
  pub look_unknown : (place_of s who).registered ≡ false → Looks always s who is (Err Unknown)
  look_unknown e = told fault.Unknown (Err Unknown) (ap (λ r. fault_of r (is_busy (slice_get s.calls who)) (place_of s who).word) e) refl

  module _ (registered : (place_of s who).registered ≡ true) where
    -- one with a call in flight is busy
    pub look_busy : is_busy (slice_get s.calls who) ≡ true → Looks always s who is (Err Busy)
    look_busy b = told fault.Busy (Err Busy) (ap (λ r. fault_of r (is_busy (slice_get s.calls who)) (place_of s who).word) registered ∙ ap (λ r. fault_of true r (place_of s who).word) b) refl

    module _ (idle : is_busy (slice_get s.calls who) ≡ false) where
      abbrev at_word : look_fault s who ≡ fault_of true false (place_of s who).word
      at_word = ap (λ r. fault_of r (is_busy (slice_get s.calls who)) (place_of s who).word) registered ∙ ap (λ r. fault_of true r (place_of s who).word) idle

      -- one without a guard is unpinned
      pub look_unpinned : is_some (place_of s who).word ≡ false → Looks always s who is (Err Unpinned)
      look_unpinned p = told fault.Unpinned (Err Unpinned) (at_word ∙ no_word (place_of s who).word p) refl

      -- any other may look
      pub look_told : is_some (place_of s who).word ≡ true → (r : Result (Option (ℕ × V)) Refusal) → TellsPair always (pairs_of s) is None r → Looks always s who is r
      look_told p r t = let P : Option Fault → Type 0 = λ o. TellsPair always (pairs_of s) is o r in subst P (sym (at_word ∙ word (place_of s who).word p)) t

  by_word : (registered busy : Bool) (w : Option ℕ) (m : Pairs V) (r : Result (Option (ℕ × V)) Refusal) → TellsPair always m is (fault_of registered busy w) r → IfErr r IsOfReader
  by_word false busy w m r t = subst (λ y. IfErr y IsOfReader) (sym t) tt
  by_word true true w m r t = subst (λ y. IfErr y IsOfReader) (sym t) tt
  by_word true false None m r t = subst (λ y. IfErr y IsOfReader) (sym t) tt
  by_word true false (Some y) m (Ok found) t = tt
  by_word true false (Some y) m (Err e) t = subst IsOfReader (sym t.0) tt

  -- a refused look is refused as a call that only reads
  pub look_refused : (r : Result (Option (ℕ × V)) Refusal) → Looks always s who is r → IfErr r IsOfReader
  look_refused r t = by_word (place_of s who).registered (is_busy (slice_get s.calls who)) (place_of s who).word (pairs_of s) r t
