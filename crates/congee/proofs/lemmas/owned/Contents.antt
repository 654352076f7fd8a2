-- What contracts see of a writing call on an arena.
use Rattle.std.proofs.Common.{◌≡◌, ◌≢◌, ℕ, ◌<◌, ◌≤◌, ◌^◌, ◌+◌, ◌-◌, List, refl, sym, ap, subst, ◌∙◌}
use Rattle.std.specs.Prelude.{Option, None, Some, Ok, Err, Bool, true, false, nat_eq}
use Rattle.std.specs.FinMap as map
use Rattle.judge.specs.Answer.{answer}
use Rattle.judge.specs.declared.journal.Call.{Call}
use Rattle.judge.specs.declared.journal.Reply.{Reply}
use Rattle.judge.specs.declared.journal.Call.TheVariants as call
use Rattle.judge.specs.declared.journal.Reply.TheVariants as reply
use Rattle.congee.specs.Heap.{value_at}
use Rattle.congee.specs.Keys.{key_bytes}
use Rattle.congee.specs.owned.Arena.{IsTree, heap_of}
use Rattle.congee.specs.owned.Changes.{MapChange}
use Rattle.congee.specs.owned.Charge.{Balances, KeepsLimit}
use Rattle.congee.specs.owned.Content.{Content, KeepsCharge, Unchanged, Inserts, Modifies, ChangesNothing, Refuses}
use Rattle.congee.specs.owned.Edits.{Adds, Denies, Frees}
use Rattle.congee.specs.owned.Full.{NodesFilled, NoneSkipped, lacking_of}
use Rattle.congee.specs.owned.Going.{Going, Went, goes_at, goes_of, going_by}
use Rattle.congee.specs.owned.Levels.{nodes_of}
use Rattle.congee.specs.owned.Owned.{Answered}
use Rattle.congee.specs.owned.OwnedSteps.{SameNodes, settled}
use Rattle.congee.specs.owned.Sizes.{bytes_of}
use Rattle.congee.specs.owned.Table.{pairs_of}
use Rattle.congee.specs.owned.Wanted.{InsertionFits, IsRefused, gain_of, wants_at, wants_of}
use Rattle.congee.specs.declared.allocator.OOMError.{OOMError}
use Rattle.congee.specs.declared.owned.arena.Arena.{Arena}
use Rattle.congee.proofs.lemmas.owned.Answered.{answered_insert, answered_compute, answered_remove, answered_present, answered_absent, present_change, exchange_done, exchange_refused}
use Rattle.congee.proofs.lemmas.owned.Fulls.{same_filled, same_lacking, still_none}
use Rattle.congee.proofs.lemmas.owned.Lessers.{at_less, by_less, went_down}
use Rattle.congee.proofs.lemmas.owned.Sizes.{bytes_same}
use Rattle.congee.proofs.lemmas.owned.Surveys.{same_nodes}
use Rattle.congee.proofs.lemmas.owned.Tables.{answer_pairs, get_pairs, same_pairs}
use Rattle.congee.proofs.lemmas.owned.Goings.{get_goes, same_goes}
use Rattle.congee.proofs.lemmas.owned.Wanting.{get_wants, same_wants}
use Rattle.congee.proofs.lemmas.owned.Ways.{same_tree}

module _ {P A K : Type 0} (charged limit : A → ℕ) (old new : Arena P A K) where
  -- a refused insertion leaves a tree, and what its charge covers
  pub denied_tree : (key : List ℕ) (v : P) (wants : Option (List ℕ)) (refusal : OOMError × P) → IsTree old.nodes → Denies charged limit old new key v wants refusal → IsTree new.nodes
  denied_tree key v wants refusal t d = same_tree old.nodes new.nodes d.same t

  -- a refused insertion leaves the sizes of the nodes
  pub denied_bytes : (key : List ℕ) (v : P) (wants : Option (List ℕ)) (refusal : OOMError × P) → Denies charged limit old new key v wants refusal → bytes_of new.nodes ≡ bytes_of old.nodes
  denied_bytes key v wants refusal d = bytes_same old.nodes new.nodes d.same

  -- and nodes with two children where they hold nodes
  pub denied_branch : (key : List ℕ) (v : P) (wants : Option (List ℕ)) (refusal : OOMError × P) → Denies charged limit old new key v wants refusal → NodesFilled false old.nodes → NodesFilled false new.nodes
  denied_branch key v wants refusal d = same_filled false old.nodes new.nodes d.same

-- a key by its number, and the bytes that a call on the arena takes
module _ {P A K : Type 0} (same : P → P → Bool) (charged limit : A → ℕ) (old new : Arena P A K) (k : ℕ) (small : k < 2 ^ 64) (key : List ℕ) (is : key ≡ key_bytes k) where
  -- the call on the pairs
  abbrev Told : Call P → Reply P → Type 0
  Told call reply = answer same (pairs_of old.nodes) call ≡ (reply, pairs_of new.nodes)

  told : (call : Call P) (reply : Reply P) → Answered same old.nodes new.nodes call reply → Told call reply
  told call reply a = answer_pairs same old.nodes new.nodes call reply a

  at_key : (before after : Option P) → MapChange old.nodes new.nodes key before after → MapChange old.nodes new.nodes (key_bytes k) before after
  at_key before after c = subst (λ y. MapChange old.nodes new.nodes y before after) is c

  -- an insertion on the arena is the one on its pairs
  pub insert_told : (before : Option P) (v : P) (wants : Option (List ℕ)) → Adds charged limit old new key before v wants → Told (call.Insert k v) (reply.Insert before)
  insert_told before v wants a = told (call.Insert k v) (reply.Insert before) (answered_insert same old.nodes new.nodes k small before v (at_key before (Some v) a.edits.change))

  -- and what a closure answered, so
  pub compute_told : (before : Option P) (v : P) (wants : Option (List ℕ)) → Adds charged limit old new key before v wants → Told (call.ComputeInsert k v) (reply.ComputeInsert before)
  compute_told before v wants a = told (call.ComputeInsert k v) (reply.ComputeInsert before) (answered_compute same old.nodes new.nodes k small before v (at_key before (Some v) a.edits.change))

  -- a removal on the arena is the one on its pairs
  pub remove_told : (before : Option P) (going : Option Going) → Frees charged limit old new key before None going → Told (call.Remove k) (reply.Remove before)
  remove_told before going f = told (call.Remove k) (reply.Remove before) (answered_remove same old.nodes new.nodes k small before (at_key before None f.edits.change))

  -- a change of a key that is present
  pub present_at : (r : Option P) (v : P) (after : Option P) (going : Option Going) → Some v ≡ value_at (heap_of old.nodes) key → Frees charged limit old new key r (settled r after) going
      → MapChange old.nodes new.nodes (key_bytes k) (Some v) after
  present_at r v after going found f = at_key (Some v) after (present_change old.nodes new.nodes key r v after f.edits.change found)

  -- a compute of a present key on the arena is the one on its pairs
  pub present_told : (r : Option P) (v : P) (after : Option P) (going : Option Going) → Some v ≡ value_at (heap_of old.nodes) key → Frees charged limit old new key r (settled r after) going
      → Told (call.ComputePresent k after) (reply.ComputePresent (Some (v, after)))
  present_told r v after going found f =
      told (call.ComputePresent k after) (reply.ComputePresent (Some (v, after))) (answered_present same old.nodes new.nodes k small v after (present_at r v after going found f))

  -- the sizes of the nodes
  pub grown : (before : Option P) (v : P) → Adds charged limit old new key before v (wants_at (heap_of old.nodes) key) → bytes_of new.nodes ≡ bytes_of old.nodes + gain_of (map.get (wants_of old.nodes) k)
  grown before v a = a.bytes ∙ ap (λ z. bytes_of old.nodes + gain_of z) (ap (wants_at (heap_of old.nodes)) is ∙ sym (get_wants old.nodes k small))

  -- and those that go
  pub frees_going : {Y : Type 0} (by : Option Y) (before after : Option P) → Frees charged limit old new key before after (going_by by (goes_at (heap_of old.nodes) key))
      → Went (charged old.allocator) (limit old.allocator) (bytes_of old.nodes) (bytes_of new.nodes) (going_by by (map.get (goes_of old.nodes) k))
  frees_going by before after f =
      subst (λ z. Went (charged old.allocator) (limit old.allocator) (bytes_of old.nodes) (bytes_of new.nodes) (going_by by z)) (ap (goes_at (heap_of old.nodes)) is ∙ sym (get_goes old.nodes k small)) f.bytes

  -- so that no more is left than before
  pub frees_none : {Y : Type 0} (by : Option Y) (before after : Option P) → Frees charged limit old new key before after (going_by by (goes_at (heap_of old.nodes) key)) → bytes_of new.nodes ≤ bytes_of old.nodes
  frees_none by before after f =
      went_down (charged old.allocator) (limit old.allocator) (bytes_of old.nodes) (bytes_of new.nodes) (going_by by (goes_at (heap_of old.nodes) key)) (by_less by (goes_at (heap_of old.nodes) key) (at_less (heap_of old.nodes) key)) f.bytes

  -- and what is left then, if no lesser node was skipped
  pub filled_still : {Y : Type 0} (by : Option Y) (before after : Option P) → Frees charged limit old new key before after (going_by by (goes_at (heap_of old.nodes) key))
      → lacking_of old.nodes ≡ 0 → NoneSkipped (bytes_of old.nodes) (bytes_of new.nodes) (going_by by (map.get (goes_of old.nodes) k)) → lacking_of new.nodes ≡ 0
  filled_still by before after f e n =
      let none = subst (λ z. NoneSkipped (bytes_of old.nodes) (bytes_of new.nodes) (going_by by z)) (sym (ap (goes_at (heap_of old.nodes)) is ∙ sym (get_goes old.nodes k small))) n in
      still_none old.nodes new.nodes (λ h. f.filled true h (λ _. none)) e

-- what is found at a key stands in the pairs
pub found_at : {P A K : Type 0} (t : Arena P A K) (k : ℕ) → k < 2 ^ 64 → (key : List ℕ) → key ≡ key_bytes k → (o : Option P) → o ≡ value_at (heap_of t.nodes) key → o ≡ map.get (pairs_of t.nodes) k
found_at t k small key is o e = get_pairs t.nodes k small o (e ∙ ap (value_at (heap_of t.nodes)) is)

-- that an insertion fitted
pub fitted_at : {P A K : Type 0} (t : Arena P A K) (k : ℕ) → k < 2 ^ 64 → (key : List ℕ) → key ≡ key_bytes k → (charged limit : ℕ) → InsertionFits (wants_at (heap_of t.nodes) key) charged limit
    → InsertionFits (map.get (wants_of t.nodes) k) charged limit
fitted_at t k small key is charged limit f =
    subst (λ z. InsertionFits z charged limit) (ap (wants_at (heap_of t.nodes)) is ∙ sym (get_wants t.nodes k small)) f

-- why an insertion was refused
pub refused_at : {P A K : Type 0} (t : Arena P A K) (k : ℕ) → k < 2 ^ 64 → (key : List ℕ) → key ≡ key_bytes k → (charged limit : ℕ) (e : OOMError) → IsRefused (wants_at (heap_of t.nodes) key) charged limit e
    → IsRefused (map.get (wants_of t.nodes) k) charged limit e
refused_at t k small key is charged limit e r =
    subst (λ z. IsRefused z charged limit e) (ap (wants_at (heap_of t.nodes)) is ∙ sym (get_wants t.nodes k small)) r

-- an arena with its drainer, as contracts see it
abbrev pub content : {A D : Type 0} → (A → ℕ) → D → Arena ℕ A ℕ → Content ℕ A D
content charged d t = record { pairs = pairs_of t.nodes; nodes = nodes_of t.nodes; bytes = bytes_of t.nodes; lacking = lacking_of t.nodes; base = charged t.allocator - bytes_of t.nodes; wants = wants_of t.nodes; goes = goes_of t.nodes; allocator = t.allocator; drainer = d }

module _ {A D : Type 0} (charged limit : A → ℕ) (d : D) (old new : Arena ℕ A ℕ) where
  keeps : Balances charged old new → KeepsLimit limit old new → KeepsCharge charged limit (content charged d old) (content charged d new)
  keeps b l = record { balance = b; same_limit = l; drainer = refl }

  same_content : SameNodes old.nodes new.nodes → Unchanged (content charged d old) (content charged d new)
  same_content same = record {
    pairs = same_pairs old.nodes new.nodes same;
    nodes = same_nodes old.nodes new.nodes same;
    bytes = bytes_same old.nodes new.nodes same;
    lacking = same_lacking old.nodes new.nodes same;
    wants = same_wants old.nodes new.nodes same;
    goes = same_goes old.nodes new.nodes same;
  }

  module _ (k : ℕ) (small : k < 2 ^ 64) (key : List ℕ) (is : key ≡ key_bytes k) where
    -- an insertion on the arena is one as contracts see it
    pub inserts : (before : Option ℕ) (v : ℕ) → Adds charged limit old new key before v (wants_at (heap_of old.nodes) key)
        → Inserts nat_eq charged limit (content charged d old) (content charged d new) k (call.Insert k v) (reply.Insert before)
    inserts before v a = record {
      answers = insert_told nat_eq charged limit old new k small key is before v _ a;
      fits = fitted_at old k small key is (charged old.allocator) (limit old.allocator) a.fits;
      bytes = grown nat_eq charged limit old new k small key is before v a;
      filled = still_none old.nodes new.nodes (a.filled true);
      keeps = keeps a.edits.balance a.edits.same_limit;
    }

    -- an insertion of what a closure gave for the value that was found
    pub computes : (before found : Option ℕ) (v : ℕ) → found ≡ value_at (heap_of old.nodes) key → Adds charged limit old new key before v (wants_at (heap_of old.nodes) key)
        → (before ≡ found) × Inserts nat_eq charged limit (content charged d old) (content charged d new) k (call.ComputeInsert k v) (reply.ComputeInsert found)
    computes before found v at a =
        let e : before ≡ found = sym a.edits.change.was ∙ sym at in
        let b : Adds charged limit old new key found v (wants_at (heap_of old.nodes) key) = subst (λ o. Adds charged limit old new key o v (wants_at (heap_of old.nodes) key)) e a in (
          e,
          record {
            answers = compute_told nat_eq charged limit old new k small key is found v _ b;
            fits = fitted_at old k small key is (charged old.allocator) (limit old.allocator) a.fits;
            bytes = grown nat_eq charged limit old new k small key is found v b;
            filled = still_none old.nodes new.nodes (a.filled true);
            keeps = keeps a.edits.balance a.edits.same_limit;
          },
        )

    -- a refused insertion is one as contracts see it
    pub refuses : (v : ℕ) (refusal : OOMError × ℕ) → Denies charged limit old new key v (wants_at (heap_of old.nodes) key) refusal
        → Refuses charged limit (content charged d old) (content charged d new) k refusal.0
    refuses v refusal r = record {
      absent = sym (found_at old k small key is None (sym r.absent));
      cause = refused_at old k small key is (charged old.allocator) (limit old.allocator) refusal.0 r.cause;
      unchanged = same_content r.same;
      keeps = keeps r.balance r.same_limit;
    }

    -- a removal on the arena is one as contracts see it
    pub removes : (before : Option ℕ) → Frees charged limit old new key before None (goes_at (heap_of old.nodes) key)
        → Modifies nat_eq charged limit (content charged d old) (content charged d new) (map.get (goes_of old.nodes) k) (call.Remove k) (reply.Remove before)
    removes before f = record {
      answers = remove_told nat_eq charged limit old new k small key is before _ f;
      bytes = frees_going nat_eq charged limit old new k small key is {Y = ℕ} None before None f;
      no_more = frees_none nat_eq charged limit old new k small key is {Y = ℕ} None before None f;
      filled = filled_still nat_eq charged limit old new k small key is {Y = ℕ} None before None f;
      keeps = keeps f.edits.balance f.edits.same_limit;
    }

    -- a compute of a present key on the arena is one as contracts see it
    pub settles : (r : Option ℕ) (v : ℕ) (after : Option ℕ) → Some v ≡ value_at (heap_of old.nodes) key
        → Frees charged limit old new key r (settled r after) (going_by after (goes_at (heap_of old.nodes) key))
        → Modifies nat_eq charged limit (content charged d old) (content charged d new) (going_by after (map.get (goes_of old.nodes) k)) (call.ComputePresent k after) (reply.ComputePresent (Some (v, after)))
    settles r v after found f = record {
      answers = present_told nat_eq charged limit old new k small key is r v after _ found f;
      bytes = frees_going nat_eq charged limit old new k small key is after r (settled r after) f;
      no_more = frees_none nat_eq charged limit old new k small key is after r (settled r after) f;
      filled = filled_still nat_eq charged limit old new k small key is after r (settled r after) f;
      keeps = keeps f.edits.balance f.edits.same_limit;
    }

    -- an exchange whose expected value is there is one as contracts see it
    pub exchanges : (r : Option ℕ) (v : ℕ) (after : Option ℕ) → Some v ≡ value_at (heap_of old.nodes) key
        → Frees charged limit old new key r (settled r after) (going_by after (goes_at (heap_of old.nodes) key))
        → Modifies nat_eq charged limit (content charged d old) (content charged d new) (going_by after (map.get (goes_of old.nodes) k)) (call.Exchange k v after) (reply.Exchange (Ok after))
    exchanges r v after found f = record {
      answers = answer_pairs nat_eq old.nodes new.nodes (call.Exchange k v after) (reply.Exchange (Ok after))
          (exchange_done old.nodes new.nodes k small v after (present_at nat_eq charged limit old new k small key is r v after _ found f));
      bytes = frees_going nat_eq charged limit old new k small key is after r (settled r after) f;
      no_more = frees_none nat_eq charged limit old new k small key is after r (settled r after) f;
      filled = filled_still nat_eq charged limit old new k small key is after r (settled r after) f;
      keeps = keeps f.edits.balance f.edits.same_limit;
    }

module _ {A D : Type 0} (charged limit : A → ℕ) (d : D) (t : Arena ℕ A ℕ) (k : ℕ) (small : k < 2 ^ 64) (key : List ℕ) (is : key ≡ key_bytes k) where
  leaves : (call : Call ℕ) (reply : Reply ℕ) → Answered nat_eq t.nodes t.nodes call reply → ChangesNothing nat_eq charged limit (content charged d t) (content charged d t) call reply
  leaves call reply a = record {
    answers = answer_pairs nat_eq t.nodes t.nodes call reply a;
    unchanged = same_content charged limit d t t (λ n. refl);
    keeps = keeps charged limit d t t refl refl;
  }

  -- a compute if present of an absent key changes nothing
  pub leaves_absent : None ≡ value_at (heap_of t.nodes) key → ChangesNothing nat_eq charged limit (content charged d t) (content charged d t) (call.ComputePresent k None) (reply.ComputePresent None)
  leaves_absent e = leaves (call.ComputePresent k None) (reply.ComputePresent None)
      (answered_absent nat_eq t.nodes t.nodes k small None (sym (e ∙ ap (value_at (heap_of t.nodes)) is)))

  -- an exchange whose expected value isn't there changes nothing
  pub leaves_other : (v : ℕ) (after found : Option ℕ) → found ≢ Some v → found ≡ value_at (heap_of t.nodes) key
      → ChangesNothing nat_eq charged limit (content charged d t) (content charged d t) (call.Exchange k v after) (reply.Exchange (Err found))
  leaves_other v after found ne e = leaves (call.Exchange k v after) (reply.Exchange (Err found))
      (exchange_refused t.nodes k small v after found ne (e ∙ ap (value_at (heap_of t.nodes)) is))
