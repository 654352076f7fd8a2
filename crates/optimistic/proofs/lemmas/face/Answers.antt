-- What came of a write, as the calls answer it.
use Rattle.std.proofs.Common.{◌≡◌, ◌≢◌, ℕ, sym, refl, ap, ◌∙◌, subst, inl, inr, ⊎_elim, Option, None, Some, Result, Ok, Err}
use Rattle.optimistic.specs.declared.face.refusal.Refusal.{Refusal}
use Rattle.optimistic.specs.declared.face.refusal.Refusal.TheVariants.{Full}
use Rattle.optimistic.specs.declared.face.writes.Written.{Written}
use Rattle.optimistic.specs.declared.face.writes.Written.TheVariants.{Made, Differs}
use Rattle.optimistic.specs.declared.tree.write.Write.{Write}
use Rattle.optimistic.specs.tree.Sets.{Allows}
use Rattle.optimistic.specs.face.Calls.{Known, Saw, Wrote}
use Rattle.optimistic.specs.face.Refusals.{IsRefusedInPlace}
use Rattle.optimistic.specs.face.Workers.{IsWritten, WantsRoom}
use Rattle.optimistic.specs.face.Writes.{before, exchanged, insertion, removal, exchange, IsInserted, IsRemoved, IsExchanged}
use Rattle.optimistic.proofs.lemmas.face.Knowing.{saw_refused}

pub some_none : (x : ℕ) → Some x ≢ None
some_none x e = cc

pub inserted : (key value : ℕ) (v w : Known) (r : Result Written Refusal) → IsWritten (insertion key value) v w r → IsInserted key value v w (before r)
inserted key value v w (Ok (Made old)) t = t.0
inserted key value v w (Ok (Differs x)) t = absurd (t.1 (tt, inl (some_none value)))
inserted key value v w (Err e) t = t

-- a key that has nothing isn't taken out
pub no_removal : (key : ℕ) → Allows (removal key) None → ⊥
no_removal key t = ⊎_elim (λ n. n refl) (λ n. n refl) t.1

abbrev refused : Refusal → Result Written Refusal
refused e = Err e

refused_for : (e : Refusal) → e ≡ Full → refused e ≡ refused Full
refused_for e q = ap refused q

pub removed : (key : ℕ) (v w : Known) (r : Result Written Refusal) → IsWritten (removal key) v w r → WantsRoom (removal key) r → IsRemoved key v w (before r)
removed key v w (Ok (Made (Some x))) t n = t.0
removed key v w (Ok (Made None)) t n = absurd (no_removal key t.1)
removed key v w (Ok (Differs (Some x))) t n = absurd (t.1 (tt, inr (some_none x)))
removed key v w (Ok (Differs None)) t n = t.0
removed key v w (Err e) t n = (t, λ q. no_removal key (n (refused_for e q)))

pub answered : (key old : ℕ) (new : Option ℕ) (v w : Known) (r : Result Written Refusal) → IsWritten (exchange key (Some old) new) v w r → WantsRoom (exchange key (Some old) new) r → IsExchanged key old new v w (exchanged new r)
answered key old new v w (Ok (Made x)) t n = (refl, subst (λ (z : Option ℕ). Wrote key new z v w) (sym t.1.0) t.0)
answered key old new v w (Ok (Differs x)) t n = (t.0, λ (e : x ≡ Some old). t.1 (sym e, inr (λ n. some_none old (sym e ∙ n))))
answered key old new v w (Err e) t n = (t, λ q. some_none old (n (refused_for e q)).0)

-- a write of what stands in an old value's place wants no room
pub exchange_refused : (key old : ℕ) (new : Option ℕ) (write : Write) (u v w : Known) (r : Result Written Refusal) (e : Refusal) → write ≡ exchange key (Some old) new → r ≡ Err e → Saw u v → IsWritten write v w r → WantsRoom write r → IsRefusedInPlace e u w
exchange_refused key old new write u v w r e is err p t n = (saw_refused e u v w p (subst (IsWritten write v w) err t), λ q. some_none old (subst (λ (z : Write). Allows z None) is (n (err ∙ refused_for e q))).0)
