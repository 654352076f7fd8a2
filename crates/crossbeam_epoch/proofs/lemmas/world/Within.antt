-- What a collector's state gives the calls of a step: an index within the table, room for a bag, a ticket that is left.
use Rattle.std.proofs.Common.{◌≡◌, ℕ, zero, suc, ◌+◌, ◌-◌, ◌^◌, ◌<◌, arith, Bool, true, false, List, Result, Ok, Err, OnOk, OnErr, sym, ◌∙◌, ap, subst, length, get_or}
use Rattle.std.specs.Result.{is_err}
use Rattle.std.proofs.lemmas.List.{get_or_read}
use borrow.Author.Count.{below_more}
use Rattle.crossbeam_epoch.specs.declared.world.participant.Participant.{Participant}
use Rattle.crossbeam_epoch.specs.declared.bag.Sealed.{Sealed}
use Rattle.crossbeam_epoch.specs.Chain.{refilled}
use Rattle.crossbeam_epoch.specs.world.Machine.{State, place, blank}

-- a reservation that didn't fail made room for one more
pub room_made : {A E : Type 0} (r : Result A E) (failed : Bool) (before room : ℕ) → failed ≡ is_err r → failed ≡ false → OnOk r (room ≡ refilled before) → 0 < room
room_made (Ok x) failed zero room is succeeded made = omega (arith, made)
room_made (Ok x) failed (suc n) room is succeeded made = omega (arith, made)
room_made (Err e) failed before room is succeeded made = absurd (cc (is, succeeded))

-- what a call that didn't fail gave, and what one that failed did
pub when_ok : {A E : Type 0} {X : Type 0} (r : Result A E) (failed : Bool) → failed ≡ is_err r → failed ≡ false → OnOk r X → X
when_ok (Ok x) failed is succeeded given = given
when_ok (Err e) failed is succeeded given = absurd (cc (is, succeeded))

-- what a call that failed gave
pub when_err : {A E : Type 0} {X : Type 0} (r : Result A E) (failed : Bool) → failed ≡ is_err r → failed ≡ true → OnErr r X → X
when_err (Ok x) failed is so given = absurd (cc (is, so))
when_err (Err e) failed is so given = given

-- one more place that was looked at is taken
pub taken_next : {A : Type 0} (xs : List (Participant A)) (n : ℕ) (p : Participant A) → n < length xs → p ≡ get_or xs n p → p.registered ≡ true → ((q : ℕ) → q < n → (get_or xs q blank).registered ≡ true) → (q : ℕ) → q < n + 1 → (get_or xs q blank).registered ≡ true
taken_next {A = A} xs n p lt read taken below = below_more (λ q. (get_or xs q blank).registered ≡ true) n below (sym (ap (λ (x : Participant A). x.registered) (get_or_read xs n p lt read blank)) ∙ taken)

module _ {T J : Type 0} where
  -- a place of the table is one of as many as were counted
  pub worker_within : (s v : State T J) (who n : ℕ) → v ≡ s → n ≡ length v.table → who < length s.table → who < n
  worker_within s v who n is long lt = subst (λ m. who < m) (sym (long ∙ ap (λ (x : State T J). length x.table) is)) lt

  -- where a ticket is left in the state, one is left in what was read of it
  pub ticket_left : (s v : State T J) → v ≡ s → s.next < 2 ^ 64 - 1 → v.next < 2 ^ 64 - 1
  ticket_left s v is lt = subst (λ (x : State T J). x.next < 2 ^ 64 - 1) (sym is) lt

  -- a queue that is as it was
  pub same_queue : (s v : State T J) (queue : List (Sealed J)) (room : ℕ) → v ≡ s → queue ≡ v.queue → room ≡ v.room → record v { queue = queue; room = room } ≡ s
  same_queue s v queue room is same free = ap (λ q. record v { queue = q; room = room }) same ∙ ap (λ r. record v { room = r }) free ∙ is

  -- a place of the table that was looked at is free
  pub free_at : (s v : State T J) (xs : List (Participant J)) (n : ℕ) (p : Participant J) → v ≡ s → xs ≡ v.table → n < length xs → p ≡ get_or xs n p → p.registered ≡ false → (n < length s.table) × ((place s n).registered ≡ false)
  free_at s v xs n p is same lt read free =
      let table : xs ≡ s.table = same ∙ ap (λ (x : State T J). x.table) is in (
        subst (λ (ys : List (Participant J)). n < length ys) table lt,
        sym (ap (λ (x : Participant J). x.registered) (get_or_read xs n p lt read blank ∙ ap (λ (ys : List (Participant J)). get_or ys n blank) table)) ∙ free,
      )
