-- A writing call that is refused counts nothing: what it answers of its entry is a reply of its own kind.
use Rattle.std.proofs.Common.{◌≡◌, ℕ, Bool, true, false, cond, List, refl, sym, ◌∙◌, subst}
use Rattle.std.specs.Prelude.{Option, None, Some, Result, Ok, Err, IfErr, nat_eq}
use Rattle.std.proofs.lemmas.Bool.{false≢true}
use Rattle.std.specs.declared.alloc.Global.{Global}
use Rattle.std.specs.declared.sync.Arc.{Arc}
use Rattle.judge.specs.declared.journal.Call.{Call as Entered}
use Rattle.judge.specs.declared.journal.Call.TheVariants as call
use Rattle.judge.specs.declared.journal.Entry.{Entry}
use Rattle.judge.specs.declared.journal.Reply.{Reply}
use Rattle.judge.specs.declared.journal.Reply.TheVariants as reply
use Rattle.judge.specs.Answer.{exchange_reply, present_reply, reply_on}
use Rattle.joint.specs.declared.refusal.Refusal.{Refusal}
use Rattle.joint.specs.declared.refusal.Refusal.TheVariants.{Foreign}
use Rattle.joint.specs.declared.steps.Done.TheVariants as done
use Rattle.joint.specs.declared.steps.Op.{Op}
use Rattle.joint.specs.declared.steps.Op.TheVariants as op
use Rattle.joint.specs.threads.Driving.{Turn}
use Rattle.joint.specs.engine.Journaling.{call_of, on_insert, on_present}
use Rattle.joint.specs.threads.Shares.{ShareView}
use Rattle.joint.specs.threads.Threads.{End, Serves, computed, either_words, exchanged, inserted, owned, owned_pair, pair_words, removed, replaced, words}
use Rattle.joint.specs.threads.Writing.{Counts}
use Rattle.joint.proofs.lemmas.nodes.NodesInvariant.{some_injective}

-- a call by the index's own tokens is served as it does
pub serves_done : {B : Type 0} (b : Bool) (does : Result B Refusal → Type 0) (r : Result B Refusal) → b ≡ true → does r → Serves b does r
serves_done true does r q d = d
serves_done false does r q d = absurd (false≢true q)

-- a call by the tokens of another index is refused for that
pub serves_foreign : {B : Type 0} (b : Bool) (does : Result B Refusal → Type 0) → b ≡ false → Serves b does (Err Foreign)
serves_foreign true does q = absurd (false≢true (sym q))
serves_foreign false does q = refl

-- what holds of a refusal holds of it whatever the answer's type
pub words_refused : {B : Type 0} (of : ℕ → B) (P : Refusal → Type 0) (r : Result (Option ℕ) Refusal) → IfErr r P → IfErr (words of r) P
words_refused of P (Ok v) x = x
words_refused of P (Err e) x = x

-- the same of owners of the values
pub owned_refused : {V : Type 0} (P : Refusal → Type 0) (r : Result (Option (Arc V Global)) Refusal) (read : Result (Option V) Refusal) → owned r ≡ read → IfErr read P → IfErr r P
owned_refused P (Ok v) read same x = tt
owned_refused P (Err e) read same x = subst (λ y. IfErr y P) (sym same) x

-- the same of the pair of an answer
pub pair_refused : {K V W : Type 0} (key : ℕ → K) (value : W → V) (P : Refusal → Type 0) (r : Result (Option (ℕ × W)) Refusal) → IfErr r P → IfErr (pair_words key value r) P
pair_refused key value P (Ok v) x = x
pair_refused key value P (Err e) x = x

-- and with the owner of its value
pub owned_pair_refused : {K V : Type 0} (key : ℕ → K) (P : Refusal → Type 0) (r : Result (Option (K × Arc V Global)) Refusal) (read : Result (Option (ℕ × V)) Refusal) → owned_pair r ≡ pair_words key (λ v. v) read → IfErr read P → IfErr r P
owned_pair_refused key P (Ok v) read same x = tt
owned_pair_refused key P (Err e) (Ok v) same x = absurd (cc same)
owned_pair_refused key P (Err e) (Err f) same x = let q : f ≡ e = cc same in subst P q x

-- the same of an exchange's answer
pub either_refused : {B : Type 0} (of : ℕ → B) (P : Refusal → Type 0) (r : Result (Result (Option ℕ) (Option ℕ)) Refusal) → IfErr r P → IfErr (either_words of r) P
either_refused of P (Ok v) x = x
either_refused of P (Err e) x = x

module _ (watched : Entry ℕ → Bool) (who : ℕ) (ts : List (Turn ℕ)) (s s' : ShareView) where
  abbrev Same : Refusal → Type 0
  Same e = s' ≡ s

  -- the end of a call that tells its entry's reply, if it is one of this kind
  by_reply : {B : Type 0} (o : Op ℕ) (reads : End ℕ → Result B Refusal) (IsOwn : Entered ℕ → Type 0) → ((a : Option (Option ℕ)) (r : Reply ℕ) (c : Entered ℕ) → call_of o a r ≡ Some c → IsOwn c)
      → ((c : Entered ℕ) → IsOwn c → (found : Option ℕ) → IfErr (reads (Ok (done.Reply (reply_on nat_eq c found)))) Same) → (r : Reply ℕ) → Counts watched who o ts s s' (Ok (done.Reply r)) → IfErr (reads (Ok (done.Reply r))) Same
  by_reply o reads IsOwn own fits r c =
      let e = c.0 in
      let told : r ≡ reply_on nat_eq e.call c.5.0 = sym c.6 ∙ c.5.1 in
      subst (λ y. IfErr (reads (Ok (done.Reply y))) Same) (sym told) (fits e.call (own _ e.reply e.call c.4.call) c.5.0)

  -- an insertion that answers a refusal counted nothing
  pub insert_refused : (k v : ℕ) (end : End ℕ) → Counts watched who (op.Insert k v) ts s s' end → IfErr (inserted end) Same
  insert_refused k v (Err e) c = c
  insert_refused k v (Ok (done.Reply r)) c =
      by_reply (op.Insert k v) inserted (λ x. x ≡ call.Insert k v) (λ a r x q. sym (some_injective _ _ q)) (λ x q found. subst (λ y. IfErr (inserted (Ok (done.Reply (reply_on nat_eq y found)))) Same) (sym q) (tt {0})) r c
  insert_refused k v (Ok _) c = absurd c

  -- a removal that answers a refusal counted nothing
  pub remove_refused : (k : ℕ) (end : End ℕ) → Counts watched who (op.Remove k) ts s s' end → IfErr (removed end) Same
  remove_refused k (Err e) c = c
  remove_refused k (Ok (done.Reply r)) c =
      by_reply (op.Remove k) removed (λ x. x ≡ call.Remove k) (λ a r x q. sym (some_injective _ _ q)) (λ x q found. subst (λ y. IfErr (removed (Ok (done.Reply (reply_on nat_eq y found)))) Same) (sym q) (tt {0})) r c
  remove_refused k (Ok _) c = absurd c

  present_call : (k : ℕ) (a : Option (Option ℕ)) (r : Reply ℕ) (c : Entered ℕ) → on_present k a r ≡ Some c → (x : Option ℕ) × (c ≡ call.ComputePresent k x)
  present_call k a (reply.ComputePresent None) c q = (_, sym (some_injective _ _ q))
  present_call k a (reply.ComputePresent (Some p)) c q = (_, sym (some_injective _ _ q))
  present_call k a (reply.Get v) c q = (_, sym (some_injective _ _ q))
  present_call k a (reply.Insert v) c q = (_, sym (some_injective _ _ q))
  present_call k a (reply.Remove v) c q = (_, sym (some_injective _ _ q))
  present_call k a (reply.ComputeInsert v) c q = (_, sym (some_injective _ _ q))
  present_call k a (reply.Exchange v) c q = (_, sym (some_injective _ _ q))

  present_fits : (x found : Option ℕ) → IfErr (computed (Ok (done.Reply (present_reply x found)))) Same
  present_fits x None = tt {0}
  present_fits x (Some v) = tt {0}

  -- a call on a present key alone that answers a refusal counted nothing
  pub present_refused : (k : ℕ) (end : End ℕ) → Counts watched who (op.ComputePresent k) ts s s' end → IfErr (computed end) Same
  present_refused k (Err e) c = c
  present_refused k (Ok (done.Reply r)) c =
      by_reply (op.ComputePresent k) computed (λ c. (x : Option ℕ) × (c ≡ call.ComputePresent k x)) (λ a r c q. present_call k a r c q)
      (λ c own found. subst (λ y. IfErr (computed (Ok (done.Reply (reply_on nat_eq y found)))) Same) (sym own.1) (present_fits own.0 found)) r c
  present_refused k (Ok _) c = absurd c

  insert_call : (k : ℕ) (a : Option ℕ) (c : Entered ℕ) → on_insert k a ≡ Some c → (x : ℕ) × (c ≡ call.ComputeInsert k x)
  insert_call k None c q = absurd (cc q)
  insert_call k (Some v) c q = (v, sym (some_injective _ _ q))

  -- a call that computes what to insert and answers a refusal counted nothing
  pub replace_refused : (k : ℕ) (end : End ℕ) → Counts watched who (op.ComputeInsert k) ts s s' end → IfErr (replaced end) Same
  replace_refused k (Err e) c = c
  replace_refused k (Ok (done.Reply r)) c =
      by_reply (op.ComputeInsert k) replaced (λ c. (x : ℕ) × (c ≡ call.ComputeInsert k x)) (λ a r c q. insert_call k _ c q)
      (λ c own found. subst (λ y. IfErr (replaced (Ok (done.Reply (reply_on nat_eq y found)))) Same) (sym own.1) (tt {0})) r c
  replace_refused k (Ok _) c = absurd c

  exchange_by : (b : Bool) (new : Option ℕ) (v : ℕ) → IfErr (exchanged (Ok (done.Reply (cond b (reply.Exchange (Ok new)) (reply.Exchange (Err (Some v))))))) Same
  exchange_by true new v = tt {0}
  exchange_by false new v = tt {0}

  exchange_fits : (old : ℕ) (new found : Option ℕ) → IfErr (exchanged (Ok (done.Reply (exchange_reply nat_eq old new found)))) Same
  exchange_fits old new None = tt {0}
  exchange_fits old new (Some v) = exchange_by (nat_eq v old) new v

  -- an exchange that answers a refusal counted nothing
  pub exchange_refused : (k old : ℕ) (new : Option ℕ) (end : End ℕ) → Counts watched who (op.Exchange k old new) ts s s' end → IfErr (exchanged end) Same
  exchange_refused k old new (Err e) c = c
  exchange_refused k old new (Ok (done.Reply r)) c =
      by_reply (op.Exchange k old new) exchanged (λ x. x ≡ call.Exchange k old new) (λ a r x q. sym (some_injective _ _ q)) (λ x q found. subst (λ y. IfErr (exchanged (Ok (done.Reply (reply_on nat_eq y found)))) Same) (sym q) (exchange_fits old new found)) r c
  exchange_refused k old new (Ok _) c = absurd c
