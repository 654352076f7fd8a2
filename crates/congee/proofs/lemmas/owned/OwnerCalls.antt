-- What contracts see of a writing call on an arena of owners.
use Rattle.std.proofs.Common.{◌≡◌, ℕ, ◌<◌, ◌^◌, ◌-◌, List, refl, sym, subst}
use Rattle.std.specs.Borrow.{Bor}
use Rattle.std.specs.Option.{option_copied, option_map}
use Rattle.std.specs.Prelude.{Option, None, Some, true, is_some}
use Rattle.std.specs.FinMap as map
use Rattle.judge.specs.declared.journal.Call.TheVariants as call
use Rattle.judge.specs.declared.journal.Reply.TheVariants as reply
use Rattle.congee.specs.Keys.{key_bytes}
use Rattle.congee.specs.owned.Arena.{heap_of}
use Rattle.congee.specs.owned.Edits.{Adds, Denies}
use Rattle.congee.specs.owned.Full.{lacking_of}
use Rattle.congee.specs.owned.Going.{goes_of}
use Rattle.congee.specs.owned.Levels.{nodes_of}
use Rattle.congee.specs.owned.Owners.{Owners, OwnerInserts, OwnerRefuses, never_same}
use Rattle.congee.specs.owned.Sizes.{bytes_of}
use Rattle.congee.specs.owned.Table.{pairs_of}
use Rattle.congee.specs.owned.Wanted.{InsertionFits, IsRefused, wants_at, wants_of}
use Rattle.congee.specs.declared.allocator.OOMError.{OOMError}
use Rattle.congee.specs.declared.owned.arena.Arena.{Arena}
use Rattle.congee.proofs.lemmas.owned.Contents.{compute_told, denied_bytes, fitted_at, found_at, grown, refused_at}
use Rattle.congee.proofs.lemmas.owned.Fulls.{same_lacking, still_none}
use Rattle.congee.proofs.lemmas.owned.Goings.{same_goes}
use Rattle.congee.proofs.lemmas.owned.Surveys.{same_nodes}
use Rattle.congee.proofs.lemmas.owned.Tables.{same_pairs}
use Rattle.congee.proofs.lemmas.owned.Wanting.{same_wants}

-- an arena as contracts see it
abbrev pub owners : {P A K : Type 0} → Arena P A K → Owners P
owners t = record { pairs = pairs_of t.nodes; nodes = nodes_of t.nodes; bytes = bytes_of t.nodes; lacking = lacking_of t.nodes; wants = wants_of t.nodes; goes = goes_of t.nodes }

module _ {P A K : Type 0} (charged limit : A → ℕ) (old new : Arena P A K) (covers : bytes_of old.nodes ≡ charged old.allocator) (most : limit old.allocator ≡ 2 ^ 64 - 1) (k : ℕ) (small : k < 2 ^ 64) (key : List ℕ) (is : key ≡ key_bytes k) where
  -- an insertion of what a closure answered is one as contracts see it
  pub owner_computes : (before : Option P) (v : P) → Adds charged limit old new key before v (wants_at (heap_of old.nodes) key) → OwnerInserts (owners old) (owners new) k (call.ComputeInsert k v) (reply.ComputeInsert before)
  owner_computes before v a =
      let Q : ℕ → ℕ → Type 0 = λ n l. InsertionFits (map.get (wants_of old.nodes) k) n l in
      let fits : Q (charged old.allocator) (limit old.allocator) = fitted_at old k small key is (charged old.allocator) (limit old.allocator) a.fits in
      record {
        answers = compute_told never_same charged limit old new k small key is before v _ a;
        fits = subst (λ n. Q n (2 ^ 64 - 1)) (sym covers) (subst (λ l. Q (charged old.allocator) l) most fits);
        bytes = grown never_same charged limit old new k small key is before v a;
        filled = still_none old.nodes new.nodes (a.filled true);
      }

  -- a refused insertion is one as contracts see it
  pub owner_refuses : (v : P) (refusal : OOMError × P) → Denies charged limit old new key v (wants_at (heap_of old.nodes) key) refusal → OwnerRefuses (owners old) (owners new) k refusal.0
  owner_refuses v refusal r =
      let p = same_pairs old.nodes new.nodes r.same in
      let b = denied_bytes charged limit old new key v _ refusal r in
      let n = same_nodes old.nodes new.nodes r.same in
      let m = same_lacking old.nodes new.nodes r.same in
      let w = same_wants old.nodes new.nodes r.same in
      let l = same_goes old.nodes new.nodes r.same in
      let Q : ℕ → ℕ → Type 0 = λ n l. IsRefused (map.get (wants_of old.nodes) k) n l refusal.0 in
      let cause : Q (charged old.allocator) (limit old.allocator) = refused_at old k small key is (charged old.allocator) (limit old.allocator) refusal.0 r.cause in
      record {
        absent = sym (found_at old k small key is None (sym r.absent));
        cause = subst (λ n. Q n (2 ^ 64 - 1)) (sym covers) (subst (λ l. Q (charged old.allocator) l) most cause);
        unchanged = λ i. record { pairs = p i; nodes = n i; bytes = b i; lacking = m i; wants = w i; goes = l i };
      }

-- a reference was found where its value was
pub copied_some : {X : Type 0} (o : Option (Bor X)) → is_some o ≡ is_some (option_copied o)
copied_some None = refl
copied_some (Some x) = refl

-- what has no image is none
pub mapped_none : {X Y : Type 0} (f : X → Y) (o : Option X) → option_map f o ≡ None → o ≡ None
mapped_none f None e = refl
mapped_none f (Some x) e = absurd (cc e)
