-- What a call that took effect makes of the number of pairs, by its reply.
use Rattle.std.proofs.Common.{◌≡◌, ℕ, zero, suc, ◌+◌, ◌-◌, ◌^◌, ◌<◌, arith, Bool, true, false, cond, refl, sym, ◌∙◌, ap, subst}
use Rattle.std.specs.Prelude.{Option, None, Some, Ok, Err, is_some, if◌then◌else◌}
use Rattle.std.specs.Cmp.{nat_cmp_total}
use Rattle.std.specs.Ordering.{nat_cmp}
use Rattle.std.specs.FinMap.{get, insert, remove, len, contains_key, empty_of_len, get-empty, len-insert, len-remove}
use Rattle.judge.specs.declared.journal.Call.{Call}
use Rattle.judge.specs.declared.journal.Call.TheVariants as call
use Rattle.judge.specs.declared.journal.Reply.{Reply}
use Rattle.judge.specs.declared.journal.Reply.TheVariants as reply
use Rattle.judge.specs.Answer.{Pairs, leaves, reply_on, set_at}
use Rattle.judge.proofs.Laws.{get-set_at_here, get-set_at_apart}
use Rattle.congee.specs.declared.protocol.phase.Kind.{Kind}
use Rattle.congee.specs.declared.protocol.next_phase.NextPhase.{NextPhase}
use Rattle.congee.specs.Heap.{Node}
use Rattle.congee.specs.Keys.{IsMapOf}
use Rattle.congee.specs.protocol.Answers.{AnswersIf, Decides, told}
use Rattle.congee.proofs.Laws.{standing_same, standing_changed}
use Rattle.joint.specs.declared.engine.census.Change.{Change}
use Rattle.joint.specs.declared.engine.census.Change.TheVariants.{Same}
use Rattle.joint.specs.declared.id.Id.{Id}
use Rattle.joint.specs.engine.Census.{effect, effect_by, fewer, more}

-- the pairs at a key
abbrev here : {V : Type 0} → Option V → ℕ
here None = 0
here (Some v) = 1

module _ {V : Type 0} where
  present : (m : Pairs V) (k : ℕ) (v : V) → get m k ≡ Some v → 0 < len m
  present m k v e = by (len m) refl where
    by : (n : ℕ) → len m ≡ n → 0 < n
    by zero q = absurd (let z : None ≡ Some v = sym (ap (λ (x : Pairs V). get x k) (empty_of_len m q) ∙ get-empty nat_cmp k) ∙ e in cc)
    by (suc n) q = omega arith

  inserted : (m : Pairs V) (k : ℕ) (v : V) (found : Option V) → get m k ≡ found → len (insert m k v) + here found ≡ len m + 1
  inserted m k v None e =
      let l : len (insert m k v) ≡ cond (contains_key m k) (len m) (len m + 1) = len-insert nat_cmp_total m k v in
      let q : cond (contains_key m k) (len m) (len m + 1) ≡ len m + 1 = ap (λ o. cond (is_some o) (len m) (len m + 1)) e in
      omega (arith, l, q)
  inserted m k v (Some w) e =
      let l : len (insert m k v) ≡ cond (contains_key m k) (len m) (len m + 1) = len-insert nat_cmp_total m k v in
      let q : cond (contains_key m k) (len m) (len m + 1) ≡ len m = ap (λ o. cond (is_some o) (len m) (len m + 1)) e in
      omega (arith, l, q)

  removed : (m : Pairs V) (k : ℕ) (found : Option V) → get m k ≡ found → len (remove m k) + here found ≡ len m
  removed m k None e =
      let l : len (remove m k) ≡ cond (contains_key m k) (len m - 1) (len m) = len-remove nat_cmp_total m k in
      let q : cond (contains_key m k) (len m - 1) (len m) ≡ len m = ap (λ o. cond (is_some o) (len m - 1) (len m)) e in
      omega (arith, l, q)
  removed m k (Some w) e =
      let l : len (remove m k) ≡ cond (contains_key m k) (len m - 1) (len m) = len-remove nat_cmp_total m k in
      let q : cond (contains_key m k) (len m - 1) (len m) ≡ len m - 1 = ap (λ o. cond (is_some o) (len m - 1) (len m)) e in
      let p : 0 < len m = present m k w e in
      omega (arith, l, q, p)

  -- the pairs once this stands at the key
  len_set : (m : Pairs V) (k : ℕ) (o found : Option V) → get m k ≡ found → len (set_at m k o) + here found ≡ len m + here o
  len_set m k None found e = let r = removed m k found e in omega (arith, r)
  len_set m k (Some v) found e = inserted m k v found e

  exchanged : (b : Bool) (v : V) (new : Option V) → here (cond b new (Some v)) + fewer (effect (cond b (reply.Exchange (Ok new)) (reply.Exchange (Err (Some v))))) ≡ 1 + more (effect (cond b (reply.Exchange (Ok new)) (reply.Exchange (Err (Some v)))))
  exchanged true v None = refl
  exchanged true v (Some w) = refl
  exchanged false v new = refl

  computed : (v : V) (a : Option V) → here a + fewer (effect (reply.ComputePresent (Some (v, a)))) ≡ 1 + more (effect (reply.ComputePresent (Some (v, a))))
  computed v None = refl
  computed v (Some w) = refl

  -- the reply tells how many come and go
  told_change : (same : V → V → Bool) (c : Call V) (found : Option V) → here (leaves same c found) + fewer (effect (reply_on same c found)) ≡ here found + more (effect (reply_on same c found))
  told_change same (call.Get k) found = refl
  told_change same (call.Insert k v) None = refl
  told_change same (call.Insert k v) (Some w) = refl
  told_change same (call.Remove k) None = refl
  told_change same (call.Remove k) (Some w) = refl
  told_change same (call.ComputePresent k a) None = refl
  told_change same (call.ComputePresent k a) (Some w) = computed w a
  told_change same (call.ComputeInsert k a) None = refl
  told_change same (call.ComputeInsert k a) (Some w) = refl
  told_change same (call.Exchange k old new) None = refl
  told_change same (call.Exchange k old new) (Some w) = exchanged (same w old) w new

-- the pairs that stand after a step, with the change
pub record Counts {V : Type 0} (m : Pairs V) (change : Change) (h' : ℕ → Node V) : Type 0 where
  pub pairs : Pairs V
  pub stand : IsMapOf h' pairs
  pub count : len pairs + fewer change ≡ len m + more change

module _ {V : Type 0} (same : V → V → Bool) (k : ℕ) (kind : Kind V) (given : Option V) (h h' : ℕ → Node V) (m : Pairs V) (small : k < 2 ^ 64) (st : IsMapOf h m) where
  decided : (r : Reply V) → Decides same k kind given h r h' → Counts m (effect r) h'
  decided r d =
      let was : get m k ≡ d.found = st.at k small ∙ d.before in
      let size : len (set_at m k d.after) + here d.found ≡ len m + here d.after = len_set m k d.after d.found was in
      let left : here d.after ≡ here (leaves same d.settles.call d.found) = ap here (sym d.settles.left) in
      let told : here (leaves same d.settles.call d.found) + fewer (effect (reply_on same d.settles.call d.found)) ≡ here d.found + more (effect (reply_on same d.settles.call d.found)) = told_change same d.settles.call d.found in
      let comes : more (effect (reply_on same d.settles.call d.found)) ≡ more (effect r) = ap (λ x. more (effect x)) d.settles.reply in
      let goes : fewer (effect (reply_on same d.settles.call d.found)) ≡ fewer (effect r) = ap (λ x. fewer (effect x)) d.settles.reply in
      record {
        pairs = set_at m k d.after;
        stand = standing_changed h h' m (set_at m k d.after) k small d.rest (get-set_at_here m k d.after ∙ sym d.now) (get-set_at_apart m k d.after) st;
        count = omega (arith, size, left, told, comes, goes);
      }

  -- a step changes the number by what its reply tells, where it decides
  pub answered : (t : NextPhase Id V) (b : Bool) → AnswersIf b same k kind given h t h' → Counts m (if b then effect_by (told t) else Same) h'
  answered t true x =
      let P : Option (Reply V) → Type 0 = λ o. Counts m (effect_by o) h' in
      subst P (sym x.1) (decided x.0 x.2)
  answered t false x = record { pairs = m; stand = standing_same h h' m x st; count = refl }
