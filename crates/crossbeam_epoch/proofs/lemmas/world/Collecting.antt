-- A collection in a round of one participant, while nobody else steps.
use Rattle.std.proofs.Common.{◌≡◌, ◌≢◌, ◌⊎◌, ℕ, ◌+◌, ◌<◌, ◌≤◌, Bool, true, false, List, [], ◌∷◌, ◌++◌, ◌==◌, ◌&&◌, Option, Some, None, refl, sym, ◌∙◌, subst, inl, inr, length, arith, get_or-set_same, append_assoc}
use Rattle.std.specs.Prelude.{slice_index_or, if◌then◌else◌, nat_lt, nat_le, drop, remove, slice_set}
use Rattle.std.specs.List.{Contains}
use Rattle.std.proofs.lemmas.Bool.{cases_eq, cases_lt}
use Rattle.std.proofs.lemmas.Bool.Decides.{nat_tests}
use Rattle.std.proofs.lemmas.List.{length_push}
use Rattle.std.proofs.lemmas.List.Elements.{Contains-push_cases, Contains-get_or}
use Rattle.crossbeam_epoch.specs.declared.bag.Deferral.{Deferral}
use Rattle.crossbeam_epoch.specs.declared.bag.Sealed.{Sealed}
use Rattle.crossbeam_epoch.specs.declared.world.participant.Participant.{Participant}
use Rattle.crossbeam_epoch.specs.declared.world.participant.Phase.{Phase}
use Rattle.crossbeam_epoch.specs.declared.world.participant.Phase.TheVariants.{Idle, Look, Publish, RepinLook, RepinPublish, Seal, Queue, ReleaseSeal, ReleaseQueue, Secure, SecureSeal, SecureQueue, Load, Inspect, Advance, Take, Call}
use Rattle.crossbeam_epoch.specs.world.Machine.{State, place, blank, in_phase, ends_advance, inspection, is_due, no_bag, taken, after_call, called_one}
use Rattle.crossbeam_epoch.specs.world.Steps.{gone}
use Rattle.crossbeam_epoch.specs.world.Rounds.{IsNotDue, TakesOff}
use Rattle.crossbeam_epoch.proofs.lemmas.world.Moves.{none_in}

-- the epoch is the one before the round, or the one after it
abbrev pub IsNear : ℕ → ℕ → ℕ → Type 0
IsNear old new epoch = (epoch ≡ old) ⊎ (epoch ≡ new)

-- the epoch after a round
abbrev pub next_epoch : ℕ → ℕ → ℕ
next_epoch epoch most = if nat_lt epoch most then epoch + 1 else epoch

-- pinned at that epoch by one guard, with this bag
pub record IsHeld {J : Type 0} (epoch : ℕ) (bag : List (Deferral J)) (p : Participant J) : Type 0 where
  pub word : p.word ≡ Some epoch
  pub one : p.guards ≡ 1
  pub jobs : p.bag ≡ bag

-- a collection has taken so many bags
pub record IsTaking {J : Type 0} (expiry answered count : ℕ) (queue queue' : List (Sealed J)) : Type 0 where
  pub taken : List (Sealed J)
  pub front : queue ≡ taken ++ queue'
  pub long : length taken ≡ count
  pub few : count ≤ 8
  pub due : (b : Sealed J) → Contains taken b → b.seal + expiry ≤ answered

-- where a collection stands of a round in which the epoch goes from `old` to `new`, which found this queue and this bag
abbrev pub CollectAt : {J : Type 0} → (old new who expiry : ℕ) → List (Sealed J) → List (Deferral J) → ℕ → List (Sealed J) → Participant J → Phase → Type 0
CollectAt old new who expiry found bag epoch queue p Load = IsHeld old bag p × IsNear old new epoch × (queue ≡ found)
CollectAt old new who expiry found bag epoch queue p (Inspect seen at) = IsHeld old bag p × IsNear old new epoch × (queue ≡ found) × (seen ≡ epoch) × (who < at → seen ≡ old)
CollectAt old new who expiry found bag epoch queue p (Advance seen) = IsHeld old bag p × (queue ≡ found) × (epoch ≡ old) × (seen ≡ old)
CollectAt old new who expiry found bag epoch queue p (Take answered bags) = IsHeld old bag p × (epoch ≡ new) × (answered ≡ new) × IsTaking expiry new bags found queue
CollectAt old new who expiry found bag epoch queue p (Call answered bags seal) = IsHeld old bag p × (epoch ≡ new) × (answered ≡ new) × IsTaking expiry new bags found queue × (0 < length p.hand)
CollectAt old new who expiry found bag epoch queue p Idle = IsHeld old bag p × (epoch ≡ new) × TakesOff expiry new found queue
CollectAt old new who expiry found bag epoch queue p _ = ⊥

-- who is in the way of an advance
blocked : (old : ℕ) (w : Option ℕ) (seen : ℕ) → w ≡ Some old → ends_advance w seen ≡ true → seen ≡ old → ⊥
blocked old w seen is e same = let x = rw is at e in absurd (grind (arith, nat_tests))

passed : (old : ℕ) (w : Option ℕ) (seen : ℕ) → w ≡ Some old → ends_advance w seen ≡ false → seen ≡ old
passed old w seen is e = let x = rw is at e in grind (arith, nat_tests)

free : (w : Option ℕ) (seen : ℕ) → w ≡ None → ends_advance w seen ≡ false
free w seen is = rw is refl

passed_own : (old who at seen : ℕ) (w : Option ℕ) → (at ≡ who → w ≡ Some old) → ends_advance w seen ≡ false → (who < at → seen ≡ old) → who < at + 1 → seen ≡ old
passed_own old who at seen w own e before lt = elim (cases_eq at who) [ inl is ↦ passed old w seen (own is) e | inr ne ↦ before (omega (arith, ne)) ]

on_by_one : (seen old new most : ℕ) → nat_lt seen most ≡ true → seen ≡ old → new ≡ next_epoch old most → seen + 1 ≡ new
on_by_one seen old new most e same is =
    let e' : nat_lt old most ≡ true = subst (λ x. nat_lt x most ≡ true) same e in
    let is' : new ≡ old + 1 = rw e' at is in
    omega arith

on_by_none : (seen old new most : ℕ) → nat_lt seen most ≡ false → seen ≡ old → new ≡ next_epoch old most → seen ≡ new
on_by_none seen old new most e same is =
    let e' : nat_lt old most ≡ false = subst (λ x. nat_lt x most ≡ false) same e in
    let is' : new ≡ old = rw e' at is in
    omega arith

module _ {J : Type 0} where
  held : (epoch : ℕ) (bag : List (Deferral J)) (p : Participant J) (hand : List (Deferral J)) (phase : Phase) → IsHeld epoch bag p → IsHeld epoch bag (record p { hand = hand; phase = phase })
  held epoch bag p hand phase h = record { word = h.word; one = h.one; jobs = h.jobs }

  -- a collection that finds the queue as it was has taken no bag
  pub none_taken : (expiry answered : ℕ) (queue queue' : List (Sealed J)) → queue' ≡ queue → IsTaking expiry answered 0 queue queue'
  none_taken expiry answered queue queue' e = record { taken = []; front = sym e; long = refl; few = omega arith; due = λ b m. absurd (none_in b m) }

  -- one more is taken
  pub one_more : (expiry answered count : ℕ) (queue : List (Sealed J)) (rest : List (Sealed J)) → IsTaking expiry answered count queue rest
      → 0 < length rest → (slice_index_or rest 0 no_bag).seal + expiry ≤ answered → count < 8 → IsTaking expiry answered (count + 1) queue (drop 1 rest)
  one_more expiry answered count queue [] t some due few = absurd (omega arith)
  one_more expiry answered count queue (b ∷ rest) t some due few = record {
    taken = t.taken ++ b ∷ [];
    front = t.front ∙ sym (append_assoc t.taken (b ∷ []) rest);
    long = let long = t.long in omega (arith, length_push t.taken b);
    few = omega arith;
    due = λ c m. elim (Contains-push_cases t.taken b c m) [
      | inl old ↦ t.due c old
      | inr same ↦ subst (λ (d : Sealed J). d.seal + expiry ≤ answered) same due
    ];
  }

  -- no more is taken
  pub no_more : (expiry answered count : ℕ) (queue rest : List (Sealed J)) → IsTaking expiry answered count queue rest → ((count ≡ 8) ⊎ IsNotDue expiry answered rest) → TakesOff expiry answered queue rest
  no_more expiry answered count queue rest t why = record {
    taken = t.taken;
    front = t.front;
    few = let long = t.long in let few = t.few in omega arith;
    due = t.due;
    stops = elim why [ inl all ↦ inl (t.long ∙ all) | inr none ↦ inr none ];
  }

  -- a collection that takes no more bags has taken eight, or the front one isn't due
  pub not_due : (expiry answered bags : ℕ) (rest : List (Sealed J)) → bags ≤ 8 → (nat_lt 0 (length rest) && nat_le ((slice_index_or rest 0 no_bag).seal + expiry) answered && nat_lt bags 8) ≡ false → (bags ≡ 8) ⊎ IsNotDue expiry answered rest
  not_due expiry answered bags [] few e = inr tt
  not_due expiry answered bags (b ∷ rest) few e = elim (cases_lt bags 8) [
    | inl lt ↦ inr (grind (arith, nat_tests))
    | inr ge ↦ inl (omega arith)
  ]

module _ {T J : Type 0} (old new who expiry : ℕ) (found : List (Sealed J)) (bag : List (Deferral J)) where
  -- where the participant's collection stands
  abbrev pub Collects : State T J → Type 0
  Collects now = CollectAt old new who expiry found bag now.epoch now.queue (place now who) (place now who).phase

  put : (now' : State T J) (table : List (Participant J)) (p : Participant J) → now'.table ≡ slice_set table who p → who < length table → CollectAt old new who expiry found bag now'.epoch now'.queue p p.phase → Collects now'
  put now' table p is lt c = rw (is, get_or-set_same table who p blank lt) c

  -- where it goes on after a look at one place
  inspects : (now : State T J) (seen at : ℕ) (w : Option ℕ) (ends more : Bool) → who < length now.table → (at ≢ who → w ≡ None) → (at ≡ who → w ≡ Some old)
      → ends_advance w seen ≡ ends → nat_lt (at + 1) (length now.table) ≡ more → CollectAt old new who expiry found bag now.epoch now.queue (place now who) (Inspect seen at)
      → CollectAt old new who expiry found bag now.epoch now.queue (record (place now who) { phase = if ends then Take seen 0 else if more then Inspect seen (at + 1) else Advance seen }) (if ends then Take seen 0 else if more then Inspect seen (at + 1) else Advance seen)
  inspects now seen at w true more lt other own e m c =
      let ahead : now.epoch ≡ new = elim (cases_eq at who) [
        | inl is ↦ elim c.1 [ inl same ↦ absurd (blocked old w seen (own is) e (c.3 ∙ same)) | inr later ↦ later ]
        | inr ne ↦ absurd (cc (e, free w seen (other ne)))
      ] in
      (held old bag (place now who) (place now who).hand (Take seen 0) c.0, ahead, c.3 ∙ ahead, none_taken expiry new found now.queue c.2)
  inspects now seen at w false true lt other own e m c =
      (held old bag (place now who) (place now who).hand (Inspect seen (at + 1)) c.0, c.1, c.2, c.3, passed_own old who at seen w own e c.4)
  inspects now seen at w false false lt other own e m c =
      let last : who < at + 1 = grind (arith, nat_tests) in
      let same = passed_own old who at seen w own e c.4 last in
      (held old bag (place now who) (place now who).hand (Advance seen) c.0, c.2, sym c.3 ∙ same, same)

  advances : (now : State T J) (seen : ℕ) (b : Bool) → who < length now.table → nat_lt seen now.limits.epoch_max ≡ b → new ≡ next_epoch old now.limits.epoch_max
      → CollectAt old new who expiry found bag now.epoch now.queue (place now who) (Advance seen)
      → Collects (if b then record (in_phase now who (Take (seen + 1) 0)) { epoch = seen + 1 } else in_phase now who (Take seen 0))
  advances now seen true lt e is c =
      let on = on_by_one seen old new now.limits.epoch_max e c.3 is in
      put (record (in_phase now who (Take (seen + 1) 0)) { epoch = seen + 1 }) now.table (record (place now who) { phase = Take (seen + 1) 0 }) refl lt
      (held old bag (place now who) (place now who).hand (Take (seen + 1) 0) c.0, on, on, none_taken expiry new found now.queue c.1)
  advances now seen false lt e is c =
      let on = on_by_none seen old new now.limits.epoch_max e c.3 is in
      put (in_phase now who (Take seen 0)) now.table (record (place now who) { phase = Take seen 0 }) refl lt
      (held old bag (place now who) (place now who).hand (Take seen 0) c.0, c.2 ∙ sym c.3 ∙ on, on, none_taken expiry new found now.queue c.1)

  -- a collection that takes a bag finds a front one that is due, and has taken fewer than eight
  pub due_front : (now : State T J) (answered bags : ℕ) → (is_due now answered && nat_lt bags 8) ≡ true → (0 < length now.queue) × ((slice_index_or now.queue 0 no_bag).seal + now.limits.expiry ≤ answered) × (bags < 8)
  due_front now answered bags due = (grind (arith, nat_tests), grind (arith, nat_tests), grind (arith, nat_tests))

  takes : (now : State T J) (answered bags : ℕ) (b : Bool) → who < length now.table → now.limits.expiry ≡ expiry → ((c : Sealed J) → Contains now.queue c → 0 < length c.jobs)
      → (is_due now answered && nat_lt bags 8) ≡ b → CollectAt old new who expiry found bag now.epoch now.queue (place now who) (Take answered bags)
      → Collects (if b then taken now who answered bags else in_phase now who Idle)
  takes now answered bags true lt same filled e c =
      let front = slice_index_or now.queue 0 no_bag in
      let d = due_front now answered bags e in
      put (taken now who answered bags) now.table (record (place now who) { hand = front.jobs; phase = Call answered (bags + 1) front.seal }) refl lt
      (held old bag (place now who) front.jobs (Call answered (bags + 1) front.seal) c.0, c.1, c.2, one_more expiry new bags found now.queue c.3 d.0 (let due = d.1 in let at = c.2 in omega arith) d.2, filled front (Contains-get_or now.queue 0 no_bag d.0))
  takes now answered bags false lt same filled e c =
      put (in_phase now who Idle) now.table (record (place now who) { phase = Idle }) refl lt
      (held old bag (place now who) (place now who).hand Idle c.0, c.1, no_more expiry new bags found now.queue c.3 (not_due expiry new bags now.queue c.3.few (rw (same, c.2) at e)))

  calls_one : (now : State T J) (answered bags seal : ℕ) (none : Bool) → who < length now.table → (length (place now who).hand == 0) ≡ none
      → CollectAt old new who expiry found bag now.epoch now.queue (place now who) (Call answered bags seal)
      → Collects (if none then in_phase now who Idle else called_one now who answered bags seal)
  calls_one now answered bags seal true lt e c = absurd (let some = c.4 in grind (arith, nat_tests))
  calls_one now answered bags seal false lt e c =
      let rest = remove (place now who).hand 0 in
      put (called_one now who answered bags seal) now.table (record (place now who) { hand = rest; phase = after_call (length rest) answered bags seal }) refl lt
      (after_one rest (nat_lt 0 (length rest)) (nat_lt bags 8) refl refl)
    where
      after_one : (rest : List (Deferral J)) (more room : Bool) → nat_lt 0 (length rest) ≡ more → nat_lt bags 8 ≡ room
          → CollectAt old new who expiry found bag now.epoch now.queue (record (place now who) { hand = rest; phase = if more then Call answered bags seal else if room then Take answered bags else Idle }) (if more then Call answered bags seal else if room then Take answered bags else Idle)
      after_one rest true room m r = (held old bag (place now who) rest (Call answered bags seal) c.0, c.1, c.2, c.3, grind (arith, nat_tests))
      after_one rest false true m r = (held old bag (place now who) rest (Take answered bags) c.0, c.1, c.2, c.3)
      after_one rest false false m r = (held old bag (place now who) rest Idle c.0, c.1, no_more expiry new bags found now.queue c.3 (inl (let few = c.3.few in grind (arith, nat_tests))))

  -- what a step of the participant needs to know of the others and of the queue
  pub record IsAlone (now : State T J) : Type 0 where
    pub others : (q : ℕ) → q ≢ who → (place now q).word ≡ None
    pub expiry_is : now.limits.expiry ≡ expiry
    pub next_is : new ≡ next_epoch old now.limits.epoch_max
    pub filled : (c : Sealed J) → Contains now.queue c → 0 < length c.jobs

  -- while nobody else is pinned, a step of a collection leaves it at one of its places
  pub collect_goes : (now : State T J) (phase : Phase) → who < length now.table → IsAlone now → (place now who).phase ≡ phase → (phase ≡ Idle → ⊥)
      → CollectAt old new who expiry found bag now.epoch now.queue (place now who) phase → Collects (gone now who phase)
  collect_goes now Idle lt alone is busy c = absurd (busy refl)
  collect_goes now Load lt alone is busy c =
      put (in_phase now who (Inspect now.epoch 0)) now.table (record (place now who) { phase = Inspect now.epoch 0 }) refl lt
      (held old bag (place now who) (place now who).hand (Inspect now.epoch 0) c.0, c.1, c.2, refl, λ below. absurd (omega arith))
  collect_goes now (Inspect seen at) lt alone is busy c =
      put (in_phase now who (inspection now seen at)) now.table (record (place now who) { phase = inspection now seen at }) refl lt
      (inspects now seen at (place now at).word (ends_advance (place now at).word seen) (nat_lt (at + 1) (length now.table)) lt (alone.others at) (λ own. rw own c.0.word) refl refl c)
  collect_goes now (Advance seen) lt alone is busy c = advances now seen (nat_lt seen now.limits.epoch_max) lt refl alone.next_is c
  collect_goes now (Take answered bags) lt alone is busy c = takes now answered bags (is_due now answered && nat_lt bags 8) lt alone.expiry_is alone.filled refl c
  collect_goes now (Call answered bags seal) lt alone is busy c = calls_one now answered bags seal (length (place now who).hand == 0) lt refl c
  collect_goes now Look lt alone is busy c = absurd c
  collect_goes now (Publish seen) lt alone is busy c = absurd c
  collect_goes now RepinLook lt alone is busy c = absurd c
  collect_goes now (RepinPublish seen) lt alone is busy c = absurd c
  collect_goes now Seal lt alone is busy c = absurd c
  collect_goes now (Queue seal) lt alone is busy c = absurd c
  collect_goes now ReleaseSeal lt alone is busy c = absurd c
  collect_goes now (ReleaseQueue seal) lt alone is busy c = absurd c
  collect_goes now (Secure n) lt alone is busy c = absurd c
  collect_goes now SecureSeal lt alone is busy c = absurd c
  collect_goes now (SecureQueue seal) lt alone is busy c = absurd c
