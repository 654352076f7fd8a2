-- The order of the bags over a registration and a deferral.
use Rattle.std.proofs.Common.{◌≡◌, ℕ, zero, suc, ◌==◌, ◌<◌, ◌≤◌, Bool, true, false, List, [], ◌∷◌, ◌++◌, length, get_or, refl, sym, ◌∙◌, ap, subst, inl, inr, arith}
use Rattle.std.specs.Prelude.{Result, Ok, Err, MatchResult, OnOk, OnErr, IfOk, slice_set, if◌then◌else◌}
use Rattle.std.proofs.lemmas.Bool.{eqb-false}
use Rattle.std.proofs.lemmas.List.{length_push}
use Rattle.std.proofs.lemmas.List.Elements.{Contains-push_cases}
use Rattle.crossbeam_epoch.specs.declared.bag.Work.{Work}
use Rattle.crossbeam_epoch.specs.declared.fault.Fault.{Fault}
use Rattle.crossbeam_epoch.specs.declared.world.participant.Participant.{Participant}
use Rattle.crossbeam_epoch.specs.declared.bag.Sealed.{Sealed}
use Rattle.crossbeam_epoch.specs.world.Fits.{HandFits}
use Rattle.crossbeam_epoch.specs.world.Machine.{State, place, blank, registered, deferred, deferred_anew, after_deferral}
use Rattle.crossbeam_epoch.specs.world.Progress.{Orderly, KeepsCalls}
use Rattle.crossbeam_epoch.specs.declared.names.Name.{Name}
use Rattle.crossbeam_epoch.specs.world.Reach.{Act, Moment, moment, HasMoments, NextMoment}

-- what holds of each place of a list, and of one that is written, holds of each place then
each_set : {A : Type 0} (Q : A → Type 0) (xs : List A) (i : ℕ) (x d : A) → Q x → ((j : ℕ) → Q (get_or xs j d)) → (j : ℕ) → Q (get_or (slice_set xs i x) j d)
each_set Q [] i x d here all j = all j
each_set Q (y ∷ xs) zero x d here all zero = here
each_set Q (y ∷ xs) zero x d here all (suc j) = all (suc j)
each_set Q (y ∷ xs) (suc i) x d here all zero = all zero
each_set Q (y ∷ xs) (suc i) x d here all (suc j) = each_set Q xs i x d here (λ m. all (suc m)) j

module _ {T J : Type 0} (s : State T J) (orderly : Orderly s) where
  -- an orderly collector stays so over a registration, be it refused or not
  pub registered_orderly : (law : (n : ℕ) → n < length s.table → Orderly s → KeepsCalls s (registered s n) (λ f. 0)) (r : Result ℕ Fault) (s' : State T J)
      → MatchResult r (λ n. s' ≡ registered s n) (λ e. (e ≡ Fault.TableFull) × (s' ≡ s)) → IfOk r (λ n. (n < length s.table) × ((place s n).registered ≡ false)) → Orderly s'
  registered_orderly law (Ok n) s' e free = subst Orderly (sym e) (law n free.0 orderly).orderly
  registered_orderly law (Err f) s' e free = subst Orderly (sym e.1) orderly

  -- a registration leaves the cells as they are
  pub registered_store : (r : Result ℕ Fault) (s' : State T J) → MatchResult r (λ n. s' ≡ registered s n) (λ e. (e ≡ Fault.TableFull) × (s' ≡ s)) → s'.store ≡ s.store
  registered_store (Ok n) s' e = ap (λ x. x.store) e
  registered_store (Err f) s' e = ap (λ x. x.store) e.1

  anew_orderly : (who : ℕ) (work : Work J) → Orderly (deferred_anew s who work)
  anew_orderly who work =
      let p : Participant J = record (place s who) { bag = record { ticket = s.next; work = work } ∷ [] } in
      record {
        hands = each_set (λ q. HandFits q.phase q.hand) s.table who p blank (orderly.hands who) orderly.hands;
        bags = each_set (λ q. length q.bag ≤ 64) s.table who p blank (omega arith) orderly.bags;
        held = each_set (λ q. length q.hand ≤ 64) s.table who p blank (orderly.held who) orderly.held;
        sealed = λ b c. elim (Contains-push_cases s.queue (record { seal = s.epoch; jobs = (place s who).bag }) b c) [
          | inl x ↦ orderly.sealed b x
          | inr e ↦ subst (λ (x : Sealed J). length x.jobs ≤ 64) e (orderly.bags who)
        ];
      }

  more_orderly : (who : ℕ) (work : Work J) → length (place s who).bag < 64 → Orderly (deferred s who work)
  more_orderly who work few =
      let e : Participant J = record (place s who) { bag = (place s who).bag ++ record { ticket = s.next; work = work } ∷ [] } in
      record {
        hands = each_set (λ q. HandFits q.phase q.hand) s.table who e blank (orderly.hands who) orderly.hands;
        bags = each_set (λ q. length q.bag ≤ 64) s.table who e blank (longer (place s who).bag (record { ticket = s.next; work = work }) few) orderly.bags;
        held = each_set (λ q. length q.hand ≤ 64) s.table who e blank (orderly.held who) orderly.held;
        sealed = orderly.sealed;
      }
    where
      longer : {A : Type 0} (xs : List A) (x : A) → length xs < 64 → length (xs ++ x ∷ []) ≤ 64
      longer xs x l = (let z = length_push xs x in omega (arith, z, l))

  by_bag : (who : ℕ) (work : Work J) (b : Bool) → (length (place s who).bag == 64) ≡ b → Orderly (if b then deferred_anew s who work else deferred s who work)
  by_bag who work true e = anew_orderly who work
  by_bag who work false e = more_orderly who work (let a = orderly.bags who in let ne = eqb-false (length (place s who).bag) 64 e in omega (arith, a, ne))

  -- an orderly collector stays so over a deferral, be it refused or not
  pub deferred_orderly : (who : ℕ) (work : Work J) (r : Result ℕ Fault) (s' : State T J) → OnOk r (s' ≡ after_deferral s who work) → OnErr r (s' ≡ s) → Orderly s'
  deferred_orderly who work (Ok t) s' e back = subst Orderly (sym e) (by_bag who work (length (place s who).bag == 64) refl)
  deferred_orderly who work (Err f) s' e back = subst Orderly (sym back) orderly

  store_by : (who : ℕ) (work : Work J) (b : Bool) → (if b then deferred_anew s who work else deferred s who work).store ≡ s.store
  store_by who work true = refl
  store_by who work false = refl

  -- a deferral leaves the cells as they are
  pub deferred_store : (who : ℕ) (work : Work J) (r : Result ℕ Fault) (s' : State T J) → OnOk r (s' ≡ after_deferral s who work) → OnErr r (s' ≡ s) → s'.store ≡ s.store
  deferred_store who work (Ok t) s' e back = ap (λ x. x.store) e ∙ store_by who work (length (place s who).bag == 64)
  deferred_store who work (Err f) s' e back = ap (λ x. x.store) back

-- a history that fits goes on by what was answered
pub told_at : {T J R E : Type 0} (names : T → List Name) (act : R → Act) (none : Act) (s s' : State T J) (r : Result R E) → MatchResult r (λ t. NextMoment names (act t) s s') (λ e. NextMoment names none s s')
    → (h : List Moment) → HasMoments names h s → MatchResult r (λ t. HasMoments names (moment names (act t) s' ∷ h) s') (λ e. HasMoments names (moment names none s' ∷ h) s')
told_at names act none s s' (Ok x) f h a = f h a
told_at names act none s s' (Err e) f h a = f h a
