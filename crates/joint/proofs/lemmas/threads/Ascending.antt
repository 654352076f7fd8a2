-- Where the test of a scan's keys says that they ascend, they do.
use Rattle.std.proofs.Common.{◌≡◌, ℕ, suc, Bool, true, false, List, [], ◌∷◌, refl}
use Rattle.std.specs.Prelude.{◌&&◌, leb, ltb}
use Rattle.std.proofs.lemmas.Bool.{false≢true, leb-true, ltb-true}
use Rattle.joint.specs.threads.Threads.{Ascend, ascends}

and_parts : (a b : Bool) → (a && b) ≡ true → (a ≡ true) × (b ≡ true)
and_parts true b e = (refl, e)
and_parts false b e = absurd (false≢true e)

pub ascend_is : (start end : ℕ) (keys : List ℕ) → ascends start end keys ≡ true → Ascend start end keys
ascend_is start end [] e = tt
ascend_is start end (k ∷ keys) e =
    let here = and_parts (leb start k) (ltb k end && ascends (suc k) end keys) e in
    let rest = and_parts (ltb k end) (ascends (suc k) end keys) here.1 in
    (leb-true start k here.0, ltb-true k end rest.0, ascend_is (suc k) end keys rest.1)
