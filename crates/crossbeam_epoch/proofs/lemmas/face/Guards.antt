-- What a handle knows while guards of it are out.
use Rattle.std.proofs.Common.{◌≡◌, ◌≢◌, ℕ, ◌+◌, ◌<◌, ◌≤◌, Bool, true, false, refl, sym, ap, ◌∙◌, subst, arith, Option, Some, None, List, [], length, Result, Ok, Err}
use Rattle.std.specs.Prelude.{nat_lt, nat_le, nat_eq, OnOk, IfErr}
use Rattle.std.specs.Bool.{MatchBool}
use Rattle.std.proofs.lemmas.Bool.{true≢false, eq-eqb, lt-ltb, ltb-true}
use Rattle.std.proofs.lemmas.Bool.Decides.{nat_tests}
use Rattle.std.proofs.lemmas.List.{nil_from_length}
use Rattle.crossbeam_epoch.specs.declared.face.guard.Row.{Row}
use Rattle.crossbeam_epoch.specs.declared.face.queue.Queued.{Queued}
use Rattle.crossbeam_epoch.specs.declared.face.seats.View.{View}
use Rattle.crossbeam_epoch.specs.declared.bag.Deferral.{Deferral}
use Rattle.crossbeam_epoch.specs.face.Handle.{owns, with_room, SealsUnder}
use Rattle.crossbeam_epoch.specs.face.Participant.{IsPinned}
use Rattle.crossbeam_epoch.specs.Limits.{bag_places}
use Rattle.crossbeam_epoch.specs.face.Pins.{with_seen, IsRead}
use Rattle.crossbeam_epoch.specs.face.Tokens.{with_guards, pinned_view}

out_is : (n : ℕ) → 0 < n → nat_lt 0 n ≡ true
out_is n out = lt-ltb 0 n out

-- with a guard out, one more changes nothing that a handle knows
pub more_guards : (n p a e s d : ℕ) → n ≢ 0 → with_guards (n + 1) p a e s d ≡ with_guards n p a e s d
more_guards n p a e s d some = let x = out_is n (omega (arith, some)) in let y = out_is (n + 1) (omega arith) in rw (x, y) refl

-- with guards out a handle's word is pinned by its epoch, and with none it is unpinned
pub with_guards_pinned : (n p a e s d : ℕ) (v : View) → v ≡ with_guards n p a e s d → IsPinned n e v
with_guards_pinned n p a e s d v is = go (nat_lt 0 n) refl
  where
    go : (b : Bool) → nat_lt 0 n ≡ b → IsPinned n e v
    go true h = let i = rw h at is in rw h (ap (λ (w : View). w.pin) i)
    go false h = let i = rw h at is in rw h (ap (λ (w : View). w.at) i, ap (λ (w : View). w.pin) i)

-- a handle owns a guard of its place, with one guard out or more
pub owns_own : (n : ℕ) (mine guard : Row) → guard ≡ mine → owns (n + 1) mine guard ≡ true
owns_own n mine guard is = let out = out_is (n + 1) (omega arith) in
    rw (out, ap (λ (x : Row). x.collector) is, ap (λ (x : Row). x.place) is, eq-eqb mine.collector mine.collector refl, eq-eqb mine.place mine.place refl) refl

-- a scan changes nothing but what was seen and passed
pub scanned_with : (n p a e s d x q : ℕ) (v w : View) → v ≡ with_guards n p a e s d → w ≡ record v { seen = x; passed = q } → w ≡ with_guards n p a e w.seen w.passed
scanned_with n p a e s d x q v w is now = go (nat_lt 0 n) refl
  where
    go : (b : Bool) → nat_lt 0 n ≡ b → w ≡ with_guards n p a e w.seen w.passed
    go true h = let i = rw h at is in rw h (subst (λ (u : View). u ≡ record { place = Some p; at = Some a; pin = Some e; seen = u.seen; passed = u.passed; asked = 0; taken = 0 }) (sym (now ∙ ap (λ (u : View). record u { seen = x; passed = q }) i)) refl)
    go false h = let i = rw h at is in rw h (subst (λ (u : View). u ≡ record { place = Some p; at = None; pin = None; seen = u.seen; passed = u.passed; asked = 0; taken = 0 }) (sym (now ∙ ap (λ (u : View). record u { seen = x; passed = q }) i)) refl)

-- and so does a look
pub looked_with : (n p a e s d x : ℕ) (v w : View) → v ≡ with_guards n p a e s d → w ≡ with_seen v x → w ≡ with_guards n p a e w.seen w.passed
looked_with n p a e s d x v w is now = scanned_with n p a e s d x 0 v w is now

-- with a guard out the epoch that is read is the one that confirmed its pin, or one more
pub read_under : (n p a e s d x m f : ℕ) (v : View) → v ≡ with_guards n p a e s d → IsRead v x → n ≡ m → e ≡ f → 0 < m → (f ≤ x) × (x ≤ f + 1)
read_under n p a e s d x m f v is read same one out = let h = out_is n (omega (arith, same, out)) in let i = rw h at is in let r = read.2 e (ap (λ (w : View). w.pin) i) in let low = r.0 in let high = r.1 in
    (omega (arith, one, low), omega (arith, one, high))

-- a refusal where a guard is out, and another where none is
pub while_out : (n : ℕ) (A B : Type 0) → 0 < n → A → MatchBool (nat_lt 0 n) A B
while_out n A B out a = let h = out_is n out in rw h a

-- what holds where no guard is out
pub with_none_out : (n : ℕ) (A B : Type 0) → ¬ (0 < n) → B → MatchBool (nat_lt 0 n) A B
with_none_out n A B none b = go (nat_lt 0 n) refl
  where
    go : (c : Bool) → nat_lt 0 n ≡ c → MatchBool (nat_lt 0 n) A B
    go true h = absurd (none (ltb-true 0 n h))
    go false h = rw h b

-- what follows from what is told of a success is told of it too
pub on_ok : {A E : Type 0} {P Q : Type 0} (r : Result A E) → (P → Q) → OnOk r P → OnOk r Q
on_ok (Ok a) f p = f p
on_ok (Err e) f p = tt

-- what follows from what is told of an error is told of it too
pub if_err : {A E : Type 0} {P Q : E → Type 0} (r : Result A E) → ((e : E) → P e → Q e) → IfErr r P → IfErr r Q
if_err (Ok a) f p = tt
if_err (Err e) f p = f e p

-- a bag was sealed, with an epoch that was read under the guards that are out
pub sealed_now : (b : Bool) (q r jobs : ℕ) (before : Option Queued) (bag : Queued) → b ≡ true → bag.seal ≡ r → bag.jobs ≡ jobs → (q ≤ r) × (r ≤ q + 1) → SealsUnder b q jobs before (Some bag)
sealed_now b q r jobs before bag sealed same kept within = let low = within.0 in let high = within.1 in rw sealed (omega (arith, low, same), omega (arith, high, same), kept)

-- no bag was sealed, and the last seal is the one before
pub not_sealed : (b : Bool) (q jobs : ℕ) (before : Option Queued) → b ≡ false → SealsUnder b q jobs before before
not_sealed b q jobs before none = rw none refl

-- a full bag is sealed as one that holds a job
pub full_seals : (n m q jobs : ℕ) (before after : Option Queued) → 0 < m → m ≤ n → SealsUnder (nat_lt 0 n) q jobs before after → SealsUnder (nat_le m n) q jobs before after
full_seals n m q jobs before after some full s = let x : nat_lt 0 n ≡ true = grind (arith, nat_tests, some, full) in let y : nat_le m n ≡ true = grind (arith, nat_tests, full) in rw y (rw x at s)

-- a bag that isn't empty holds a job
pub some_job : (n : ℕ) (b : Bool) → b ≡ nat_eq n 0 → b ≡ false → 0 < n
some_job n b is none = let h : nat_eq n 0 ≡ false = sym is ∙ none in grind (arith, nat_tests, h)

-- an empty bag holds none
pub no_job : {J : Type 0} (bag : List (Deferral J)) (b : Bool) → b ≡ nat_eq (length bag) 0 → b ≡ true → bag ≡ []
no_job bag b is none = let h : nat_eq (length bag) 0 ≡ true = sym is ∙ none in nil_from_length bag (grind (arith, nat_tests, h))

-- a bag that isn't full has a free place, and no other bag is made for it
pub with_room_unfull : {J : Type 0} (bag : List (Deferral J)) (b : Bool) → b ≡ nat_eq (length bag) bag_places → length bag ≤ bag_places → b ≡ false → (bag ≡ with_room bag) × (nat_le bag_places (length bag) ≡ false)
with_room_unfull bag b is fits free =
    let h : nat_eq (length bag) bag_places ≡ false = sym is ∙ free in
    let x : nat_lt (length bag) bag_places ≡ true = grind (arith, nat_tests, h, fits) in
    let y : nat_le bag_places (length bag) ≡ false = grind (arith, nat_tests, h, fits) in
    (rw x refl, y)

-- a full bag has no free place, and an empty one is the bag that has
pub has_no_room : {J : Type 0} (bag : List (Deferral J)) (b : Bool) → b ≡ nat_eq (length bag) bag_places → b ≡ true → (bag_places ≤ length bag) × ([] ≡ with_room bag)
has_no_room bag b is full =
    let h : nat_eq (length bag) bag_places ≡ true = sym is ∙ full in
    let low : bag_places ≤ length bag = grind (arith, nat_tests, h) in
    let x : nat_lt (length bag) bag_places ≡ false = grind (arith, nat_tests, low) in
    (low, rw x refl)

-- a participant that was pinned anew, with a guard out
pub pinned_with : (n p a e : ℕ) (v : View) → 0 < n → v ≡ pinned_view p a e e 0 → v ≡ with_guards n p a e v.seen v.passed
pinned_with n p a e v out is = let h = out_is n out in rw h (subst (λ (u : View). u ≡ pinned_view p a e u.seen u.passed) (sym is) refl)

-- what holds where one guard alone is out
pub where_alone : (n : ℕ) (A B : Type 0) → n ≡ 1 → A → MatchBool (nat_eq n 1) A B
where_alone n A B one a = let h : nat_eq n 1 ≡ true = grind (arith, nat_tests, one) in rw h a

-- a guard is a handle's own, or it isn't
pub own_guard : (b : Bool) (A B : Type 0) → b ≡ true → A → MatchBool b A B
own_guard b A B own a = rw own a

-- what holds where a guard isn't the handle's own
pub other_guard : (b : Bool) (A B : Type 0) → b ≡ false → B → MatchBool b A B
other_guard b A B other x = rw other x

-- a guard of a handle is still its own where the handle has the row and the number of guards that it had
pub still_own : (n m : ℕ) (mine was guard : Row) → n ≡ m → mine ≡ was → owns m was guard ≡ true → owns n mine guard ≡ false → ⊥
still_own n m mine was guard same place own other = true≢false (sym own ∙ sym (ap (λ (k : ℕ). owns k was guard) same) ∙ sym (ap (λ (x : Row). owns n x guard) place) ∙ other)

-- the bag that has a free place has one
pub with_place : {J : Type 0} (b w : List (Deferral J)) → w ≡ with_room b → length w < bag_places
with_place {J} b w is = subst (λ (x : List (Deferral J)). length x < bag_places) (sym is) (go (nat_lt (length b) bag_places) refl)
  where
    go : (c : Bool) → nat_lt (length b) bag_places ≡ c → length (with_room b) < bag_places
    go true h = rw h (ltb-true (length b) bag_places h)
    go false h = rw h (omega arith)

-- what is read after a look and a scan was read after what was seen before
pub read_on : (v w : View) (a r d : ℕ) → w ≡ record v { seen = a; passed = d } → IsRead v a → (IsRead w a → IsRead w r) → IsRead v r
read_on v w a r d is first then =
    let later : IsRead (record v { seen = a; passed = d }) a → IsRead (record v { seen = a; passed = d }) r = subst (λ (u : View). IsRead u a → IsRead u r) is then in
    let t = later (omega arith, first.1, first.2) in
    let low = first.0 in
    let high = t.0 in
    (omega (arith, low, high), t.1, t.2)
