-- A collector's state from its parts: what a place holds, and what a write into one makes of it.
use Rattle.std.proofs.Common.{◌≡◌, ℕ, ◌+◌, ◌-◌, ◌<◌, ◌≤◌, arith, ◌++◌, ◌∷◌, [], Bool, true, false, List, Option, Some, None, refl, sym, ◌∙◌, ap, subst, length, get_or}
use Rattle.std.specs.Prelude.{nat_lt, ◌==◌, ◌&&◌, drop, remove, MatchOption, slice_set, if◌then◌else◌}
use Rattle.std.proofs.lemmas.Bool.Decides.{nat_tests}
use Rattle.std.proofs.lemmas.List.{get_or_read, get_or_past, get_or-set_same}
use Rattle.crossbeam_epoch.specs.declared.bag.Work.{Work}
use Rattle.crossbeam_epoch.specs.declared.fault.Fault.{Fault}
use Rattle.crossbeam_epoch.specs.declared.fault.Fault.TheVariants.{Unknown}
use Rattle.crossbeam_epoch.specs.declared.world.participant.Participant.{Participant}
use Rattle.crossbeam_epoch.specs.declared.world.participant.Phase.{Phase}
use Rattle.crossbeam_epoch.specs.declared.world.participant.Phase.TheVariants.{Idle, Take, Call}
use Rattle.crossbeam_epoch.specs.declared.bag.Deferral.{Deferral}
use Rattle.crossbeam_epoch.specs.declared.names.Name.{Name}
use Rattle.crossbeam_epoch.specs.world.Store.{Store}
use Rattle.crossbeam_epoch.specs.declared.bag.Sealed.{Sealed}
use Rattle.crossbeam_epoch.specs.world.Machine.{State, is_due, took, taken, no_bag, no_entry, called, called_one, after_call, after_work, destroys, place, blank, with_place, in_phase, advanced, deferred, deferred_anew, after_deferral}
use Rattle.crossbeam_epoch.specs.world.Steps.{called_by, called_entry, quiet_fault, or_count, defer_fault}
use Rattle.crossbeam_epoch.specs.world.Tickets.{TicketCount}
use Rattle.crossbeam_epoch.specs.Chain.{room_behind, room_left}

is_below : (a b : ℕ) → a < b → nat_lt a b ≡ true
is_below a b lt = grind (arith, nat_tests)

is_past : (a b : ℕ) → b ≤ a → nat_lt a b ≡ false
is_past a b le = grind (arith, nat_tests)

is_within : (a b : ℕ) → true ≡ nat_lt a b → a < b
is_within a b e = grind (arith, nat_tests)

is_some_job : {A : Type 0} (xs : List A) → (length xs == 0) ≡ false → 0 < length xs
is_some_job [] e = absurd (cc e)
is_some_job (x ∷ xs) e = omega arith

-- a bag of at most 64 jobs that isn't full has a place
pub has_place : (n : ℕ) (b : Bool) → b ≡ (n == 64) → n ≤ 64 → b ≡ false → n < 64
has_place n b is le none = let not_64 : (n == 64) ≡ false = sym is ∙ none in grind (arith, nat_tests)

-- a bag that is told to be full has 64 jobs
pub is_full_at : (n : ℕ) (b : Bool) → b ≡ (n == 64) → b ≡ true → n ≡ 64
is_full_at n b is some = let at_64 : (n == 64) ≡ true = sym is ∙ some in grind (arith, nat_tests)

module _ {T J : Type 0} where
  -- what was read at an index of the table is the place
  pub place_read : (s v : State T J) (who : ℕ) (old : Participant J) → v ≡ s → who < length s.table → old ≡ get_or v.table who old → old ≡ place s who
  place_read s v who old is lt read = get_or_read s.table who old lt (subst (λ (x : State T J). old ≡ get_or x.table who old) is read) blank

  -- past the table's end a place is blank
  pub past_end : (s v : State T J) (who : ℕ) → v ≡ s → length v.table ≤ who → place s who ≡ blank
  past_end s v who is past = get_or_past s.table who blank (subst (λ (x : State T J). length x.table ≤ who) is past)

  -- a place that a look at an index of the table found
  pub place_found : (s v : State T J) (xs : List (Participant J)) (at : ℕ) (p : Participant J) → v ≡ s → xs ≡ v.table → true ≡ nat_lt at (length xs) → p ≡ get_or xs at p → p ≡ place s at
  place_found s v xs at p is same inside read = get_or_read xs at p (is_within at (length xs) inside) read blank ∙ ap (λ (ys : List (Participant J)). get_or ys at blank) (same ∙ ap (λ (x : State T J). x.table) is)

  -- a look that found an index in the table was at one of its places
  pub found_within : (s v : State T J) (xs : List (Participant J)) (at : ℕ) → v ≡ s → xs ≡ v.table → true ≡ nat_lt at (length xs) → at < length s.table
  found_within s v xs at is same inside = subst (λ (ys : List (Participant J)). at < length ys) (same ∙ ap (λ (x : State T J). x.table) is) (is_within at (length xs) inside)

  -- and where it found none
  pub none_found : (s v : State T J) (xs : List (Participant J)) (at : ℕ) → v ≡ s → xs ≡ v.table → length xs ≤ at → place s at ≡ blank
  none_found s v xs at is same past = past_end s v at is (subst (λ (ys : List (Participant J)). length ys ≤ at) same past)

  -- every place that was looked at is taken
  pub taken_below : (s v : State T J) (xs : List (Participant J)) (n q : ℕ) → v ≡ s → xs ≡ v.table → q < n → ((i : ℕ) → i < n → (get_or xs i blank).registered ≡ true) → (place s q).registered ≡ true
  taken_below s v xs n q is same lt taken = subst (λ (ys : List (Participant J)). (get_or ys q blank).registered ≡ true) (same ∙ ap (λ (x : State T J). x.table) is) (taken q lt)

  -- and so is every place of the table, after the last one
  pub all_taken : (s v : State T J) (xs : List (Participant J)) (n q : ℕ) → v ≡ s → xs ≡ v.table → length xs ≤ n → q < length s.table → ((i : ℕ) → i < n → (get_or xs i blank).registered ≡ true) → (place s q).registered ≡ true
  all_taken s v xs n q is same past lt taken = taken_below s v xs n q is same (let long = ap (λ (ys : List (Participant J)). length ys) (same ∙ ap (λ (x : State T J). x.table) is) in omega (arith, long, past, lt)) taken

  -- what was read is made another, and nothing else changes
  pub placed_at : (s v : State T J) (who : ℕ) (x old : Participant J) (f : Participant J → Participant J) → v ≡ s → who < length s.table → old ≡ get_or v.table who old → x ≡ f old → with_place v who x ≡ with_place s who (f (place s who))
  placed_at s v who x old f is lt read made = ap (λ (y : State T J). with_place y who x) is ∙ ap (λ (p : Participant J). with_place s who p) (made ∙ ap f (place_read s v who old is lt read))

  -- the same, where the queue has new room
  pub placed_beside : (s v : State T J) (who : ℕ) (x old : Participant J) (f : Participant J → Participant J) (queue : List (Sealed J)) (room : ℕ) → v ≡ s → who < length s.table → old ≡ get_or v.table who old → x ≡ f old → queue ≡ v.queue → room ≡ v.room
      → record v { table = slice_set v.table who x; queue = queue; room = room } ≡ with_place s who (f (place s who))
  placed_beside s v who x old f queue room is lt read made same free =
      ap (λ q. record v { table = slice_set v.table who x; queue = q; room = room }) same
      ∙ ap (λ r. record v { table = slice_set v.table who x; room = r }) free
      ∙ placed_at s v who x old f is lt read made

  -- a bag is queued under a seal, and its place made another
  pub queued_at : (s v : State T J) (who seal : ℕ) (x old : Participant J) (f : Participant J → Participant J) (queue : List (Sealed J)) (room : ℕ) → v ≡ s → who < length s.table → old ≡ get_or v.table who old → x ≡ f old → queue ≡ v.queue ++ record { seal = seal; jobs = old.bag } ∷ [] → room ≡ room_behind v.room
      → record v { table = slice_set v.table who x; queue = queue; room = room } ≡ record s { table = slice_set s.table who (f (place s who)); queue = s.queue ++ record { seal = seal; jobs = (place s who).bag } ∷ []; room = room_behind s.room }
  queued_at s v who seal x old f queue room is lt read made queued behind =
      let at : old ≡ place s who = place_read s v who old is lt read in
      ap (λ r. record v { table = slice_set v.table who x; queue = queue; room = r }) behind
      ∙ ap (λ q. record v { table = slice_set v.table who x; queue = q; room = room_behind v.room }) queued
      ∙ ap (λ (y : State T J). record y { table = slice_set y.table who x; queue = y.queue ++ record { seal = seal; jobs = old.bag } ∷ []; room = room_behind y.room }) is
      ∙ ap (λ (p : Participant J). record s { table = slice_set s.table who x; queue = s.queue ++ record { seal = seal; jobs = p.bag } ∷ []; room = room_behind s.room }) at
      ∙ ap (λ (p : Participant J). record s { table = slice_set s.table who p; queue = s.queue ++ record { seal = seal; jobs = (place s who).bag } ∷ []; room = room_behind s.room }) (made ∙ ap f at)

  -- what stands at a place that was written
  pub written_at : (s v : State T J) (who : ℕ) (x : Participant J) → v ≡ s → who < length s.table → get_or (slice_set v.table who x) who blank ≡ x
  written_at s v who x is lt = get_or-set_same v.table who x blank (subst (λ (y : State T J). who < length y.table) (sym is) lt)

  -- no job is left in hand
  pub called_none : (s v : State T J) (who answered bags seal : ℕ) (old : Participant J) → v ≡ s → who < length s.table → old ≡ get_or v.table who old → (length old.hand == 0) ≡ true
      → (with_place v who (record old { phase = Idle }) ≡ called s who answered bags seal) × (None ≡ called_by s.store (Call answered bags seal) (place s who).hand)
  called_none s v who answered bags seal old is lt read empty =
      let none : (length (place s who).hand == 0) ≡ true = subst (λ (p : Participant J). (length p.hand == 0) ≡ true) (place_read s v who old is lt read) empty in (
        placed_at s v who (record old { phase = Idle }) old (λ p. record p { phase = Idle }) is lt read refl ∙ sym (ap (λ b. if b then in_phase s who Idle else called_one s who answered bags seal) none),
        sym (ap (λ b. if b then None else Some (called_entry s.store (get_or (place s who).hand 0 no_entry))) none),
      )

  -- the first job in hand is called
  pub called_first : (s v : State T J) (who answered bags seal : ℕ) (old : Participant J) (rest : List (Deferral J)) (e : Deferral J) (phase : Phase) (given : TicketCount) (store : Store T) (destroyed : Option Name) → v ≡ s → who < length s.table → old ≡ get_or v.table who old → (length old.hand == 0) ≡ false
      → e ≡ get_or old.hand 0 e → rest ≡ remove old.hand 0 → phase ≡ after_call (length rest) answered bags seal → given ≡ record { next = v.next; waiting = v.waiting - 1 } → store ≡ after_work v.store e.work → destroyed ≡ destroys v.store e.work
      → (record v { table = slice_set v.table who (record old { hand = rest; phase = phase }); next = given.next; waiting = given.waiting; store = store } ≡ called s who answered bags seal)
      × (Some (e.ticket, destroyed) ≡ called_by s.store (Call answered bags seal) (place s who).hand)
  called_first s v who answered bags seal old rest e phase given store destroyed is lt read some first others goes counts works gone =
      let at : old ≡ place s who = place_read s v who old is lt read in
      let full : (length (place s who).hand == 0) ≡ false = subst (λ (p : Participant J). (length p.hand == 0) ≡ false) at some in
      let front : e ≡ get_or (place s who).hand 0 no_entry = subst (λ (p : Participant J). e ≡ get_or p.hand 0 no_entry) at (get_or_read old.hand 0 e (is_some_job old.hand some) first no_entry) in
      let x : Participant J = record old { hand = rest; phase = phase } in
      let made : x ≡ record (place s who) { hand = remove (place s who).hand 0; phase = after_call (length (remove (place s who).hand 0)) answered bags seal } =
      ap (λ ph. record old { hand = rest; phase = ph }) goes
      ∙ ap (λ xs. record old { hand = xs; phase = after_call (length xs) answered bags seal }) others
      ∙ ap (λ (p : Participant J). record p { hand = remove p.hand 0; phase = after_call (length (remove p.hand 0)) answered bags seal }) at in (
        ap (λ (y : TicketCount). record v { table = slice_set v.table who x; next = y.next; waiting = y.waiting; store = store }) counts
            ∙ ap (λ (y : Store T). record v { table = slice_set v.table who x; waiting = v.waiting - 1; store = y }) works
            ∙ ap (λ (y : State T J). record y { table = slice_set y.table who x; waiting = y.waiting - 1; store = after_work y.store e.work }) is
            ∙ ap (λ (y : Deferral J). record s { table = slice_set s.table who x; waiting = s.waiting - 1; store = after_work s.store y.work }) front
            ∙ ap (λ (p : Participant J). record s { table = slice_set s.table who p; waiting = s.waiting - 1; store = after_work s.store (get_or (place s who).hand 0 no_entry).work }) made
            ∙ sym (ap (λ b. if b then in_phase s who Idle else called_one s who answered bags seal) full),
        ap (λ d. Some (e.ticket, d)) gone
            ∙ ap (λ (y : State T J). Some (e.ticket, destroys y.store e.work)) is
            ∙ ap (λ (y : Deferral J). Some (y.ticket, destroys s.store y.work)) front
            ∙ sym (ap (λ b. if b then None else Some (called_entry s.store (get_or (place s who).hand 0 no_entry))) full),
      )

  -- the front bag is taken
  pub took_first : (s v : State T J) (who answered bags : ℕ) (x old : Participant J) (b : Sealed J) (queue : List (Sealed J)) (room : ℕ) → v ≡ s → who < length s.table → old ≡ get_or v.table who old → v.queue ≡ b ∷ queue → room ≡ room_left (length queue) v.room
      → x ≡ record old { hand = b.jobs; phase = Call answered (bags + 1) b.seal } → is_due s answered ≡ true → bags < 8 → record v { table = slice_set v.table who x; queue = queue; room = room } ≡ took s who answered bags
  took_first s v who answered bags x old b queue room is lt read popped freed made due few =
      let front : b ≡ get_or v.queue 0 no_bag = sym (ap (λ (q : List (Sealed J)). get_or q 0 no_bag) popped) in
      let rest : queue ≡ drop 1 v.queue = sym (ap (λ (q : List (Sealed J)). drop 1 q) popped) in
      let below : nat_lt bags 8 ≡ true = is_below bags 8 few in
      ap (λ r. record v { table = slice_set v.table who x; queue = queue; room = r }) freed
      ∙ ap (λ q. record v { table = slice_set v.table who x; queue = q; room = room_left (length q) v.room }) rest
      ∙ ap (λ (p : Participant J). record v { table = slice_set v.table who p; queue = drop 1 v.queue; room = room_left (length (drop 1 v.queue)) v.room }) made
      ∙ ap (λ (y : Sealed J). record v { table = slice_set v.table who (record old { hand = y.jobs; phase = Call answered (bags + 1) y.seal }); queue = drop 1 v.queue; room = room_left (length (drop 1 v.queue)) v.room }) front
      ∙ ap (λ (y : State T J). record y { table = slice_set y.table who (record old { hand = (get_or y.queue 0 no_bag).jobs; phase = Call answered (bags + 1) (get_or y.queue 0 no_bag).seal }); queue = drop 1 y.queue; room = room_left (length (drop 1 y.queue)) y.room }) is
      ∙ ap (λ (p : Participant J). record s { table = slice_set s.table who (record p { hand = (get_or s.queue 0 no_bag).jobs; phase = Call answered (bags + 1) (get_or s.queue 0 no_bag).seal }); queue = drop 1 s.queue; room = room_left (length (drop 1 s.queue)) s.room }) (place_read s v who old is lt read)
      ∙ sym (ap (λ d. if d && nat_lt bags 8 then taken s who answered bags else in_phase s who Idle) due ∙ ap (λ d. if d then taken s who answered bags else in_phase s who Idle) below)

  -- the epoch is set, or is the last one
  pub advanced_at : (s v : State T J) (who seen : ℕ) (x old : Participant J) → v ≡ s → who < length s.table → old ≡ get_or v.table who old → x ≡ record old { phase = Take (seen + 1) 0 } → seen < v.limits.epoch_max → record v { epoch = seen + 1; table = slice_set v.table who x } ≡ advanced s who seen
  advanced_at s v who seen x old is lt read made below =
      ap (λ (y : State T J). record y { epoch = seen + 1 }) (placed_at s v who x old (λ p. record p { phase = Take (seen + 1) 0 }) is lt read made)
      ∙ sym (ap (λ b. if b then record (in_phase s who (Take (seen + 1) 0)) { epoch = seen + 1 } else in_phase s who (Take seen 0)) (is_below seen s.limits.epoch_max (subst (λ (y : State T J). seen < y.limits.epoch_max) is below)))

  -- a collection that passed all places at the greatest epoch leaves it, and goes on to take bags
  pub stayed_at : (s v : State T J) (who seen : ℕ) (x old : Participant J) → v ≡ s → who < length s.table → old ≡ get_or v.table who old → x ≡ record old { phase = Take seen 0 } → v.limits.epoch_max ≤ seen → with_place v who x ≡ advanced s who seen
  stayed_at s v who seen x old is lt read made past =
      placed_at s v who x old (λ p. record p { phase = Take seen 0 }) is lt read made
      ∙ sym (ap (λ b. if b then record (in_phase s who (Take (seen + 1) 0)) { epoch = seen + 1 } else in_phase s who (Take seen 0)) (is_past seen s.limits.epoch_max (subst (λ (y : State T J). y.limits.epoch_max ≤ seen) is past)))

  -- a job in a bag that has a place
  pub deferred_at : (s v : State T J) (who : ℕ) (x old : Participant J) (work : Work J) (ticket : ℕ) (given : TicketCount) → v ≡ s → who < length s.table → old ≡ get_or v.table who old → ticket ≡ v.next → given ≡ record { next = v.next + 1; waiting = v.waiting + 1 }
      → x ≡ record old { bag = old.bag ++ record { ticket = ticket; work = work } ∷ [] } → record v { table = slice_set v.table who x; next = given.next; waiting = given.waiting } ≡ deferred s who work
  deferred_at s v who x old work ticket given is lt read number counts made =
      ap (λ (y : TicketCount). record v { table = slice_set v.table who x; next = y.next; waiting = y.waiting }) counts
      ∙ ap (λ (y : State T J). record y { table = slice_set y.table who x; next = y.next + 1; waiting = y.waiting + 1 }) is
      ∙ ap (λ (p : Participant J). record s { table = slice_set s.table who p; next = s.next + 1; waiting = s.waiting + 1 })
      (made ∙ ap (λ (p : Participant J). record p { bag = p.bag ++ record { ticket = ticket; work = work } ∷ [] }) (place_read s v who old is lt read)
      ∙ ap (λ t. record (place s who) { bag = (place s who).bag ++ record { ticket = t; work = work } ∷ [] }) (number ∙ ap (λ (y : State T J). y.next) is))

  -- a job in a new bag; the old one is queued
  pub anew_at : (s v : State T J) (who : ℕ) (x old : Participant J) (work : Work J) (ticket : ℕ) (given : TicketCount) (queue : List (Sealed J)) (room : ℕ) → v ≡ s → who < length s.table → old ≡ get_or v.table who old → ticket ≡ v.next → given ≡ record { next = v.next + 1; waiting = v.waiting + 1 }
      → x ≡ record old { bag = record { ticket = ticket; work = work } ∷ [] } → queue ≡ v.queue ++ record { seal = v.epoch; jobs = old.bag } ∷ [] → room ≡ room_behind v.room
      → record v { table = slice_set v.table who x; queue = queue; room = room; next = given.next; waiting = given.waiting } ≡ deferred_anew s who work
  anew_at s v who x old work ticket given queue room is lt read number counts made queued behind =
      let at : old ≡ place s who = place_read s v who old is lt read in
      ap (λ (y : TicketCount). record v { table = slice_set v.table who x; queue = queue; room = room; next = y.next; waiting = y.waiting }) counts
      ∙ ap (λ r. record v { table = slice_set v.table who x; queue = queue; room = r; next = v.next + 1; waiting = v.waiting + 1 }) behind
      ∙ ap (λ q. record v { table = slice_set v.table who x; queue = q; room = room_behind v.room; next = v.next + 1; waiting = v.waiting + 1 }) queued
      ∙ ap (λ (y : State T J). record y { table = slice_set y.table who x; queue = y.queue ++ record { seal = y.epoch; jobs = old.bag } ∷ []; room = room_behind y.room; next = y.next + 1; waiting = y.waiting + 1 }) is
      ∙ ap (λ (p : Participant J). record s { table = slice_set s.table who x; queue = s.queue ++ record { seal = s.epoch; jobs = p.bag } ∷ []; room = room_behind s.room; next = s.next + 1; waiting = s.waiting + 1 }) at
      ∙ ap (λ (p : Participant J). record s { table = slice_set s.table who p; queue = s.queue ++ record { seal = s.epoch; jobs = (place s who).bag } ∷ []; room = room_behind s.room; next = s.next + 1; waiting = s.waiting + 1 })
      (made ∙ ap (λ (p : Participant J). record p { bag = record { ticket = ticket; work = work } ∷ [] }) at
      ∙ ap (λ t. record (place s who) { bag = record { ticket = t; work = work } ∷ [] }) (number ∙ ap (λ (y : State T J). y.next) is))

  -- the fault of a deferral of a participant
  pub fault_known : (s v : State T J) (who : ℕ) (quiet fault : Option Fault) → v ≡ s → (place s who).registered ≡ true → quiet ≡ quiet_fault (place s who).phase (place s who) → fault ≡ or_count v.next quiet → fault ≡ defer_fault s who
  fault_known s v who quiet fault is reg at of =
      of ∙ ap (λ (y : State T J). or_count y.next quiet) is ∙ ap (λ q. or_count s.next q) at
      ∙ sym (ap (λ b. if b then or_count s.next (quiet_fault (place s who).phase (place s who)) else Some Unknown) reg)

  -- and where there is no such participant
  pub fault_unknown : (s : State T J) (who : ℕ) → (place s who).registered ≡ false → Some Unknown ≡ defer_fault s who
  fault_unknown s who reg = sym (ap (λ b. if b then or_count s.next (quiet_fault (place s who).phase (place s who)) else Some Unknown) reg)

  -- a bag with a place, and one without
  pub after_put : (s : State T J) (who : ℕ) (work : Work J) → (length (place s who).bag == 64) ≡ false → deferred s who work ≡ after_deferral s who work
  after_put s who work free = sym (ap (λ b. if b then deferred_anew s who work else deferred s who work) free)

  -- a deferral into a full bag is one into a new bag
  pub after_anew : (s : State T J) (who : ℕ) (work : Work J) → (length (place s who).bag == 64) ≡ true → deferred_anew s who work ≡ after_deferral s who work
  after_anew s who work full = sym (ap (λ b. if b then deferred_anew s who work else deferred s who work) full)

-- a refusal of this fault, and one for want of memory
pub fault_given : (A : Type 0) (x : Option Fault) (f : Fault) → x ≡ Some f → MatchOption x A (λ y. f ≡ y)
fault_given A x f is = subst (λ z. MatchOption z A (λ y. f ≡ y)) (sym is) refl

-- what holds where no fault is given
pub none_given : (A : Type 0) (x : Option Fault) (f : Fault) → x ≡ None → A → MatchOption x A (λ y. f ≡ y)
none_given A x f is a = subst (λ z. MatchOption z A (λ y. f ≡ y)) (sym is) a
