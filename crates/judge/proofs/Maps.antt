-- Look-ups in the map after a call, and maps that look-ups tell apart.
use Rattle.std.proofs.Common.{◌≡◌, ◌≢◌, ℕ, Bool, true, false, cond, Option, None, Some, refl, sym, ap, subst, ◌∙◌, eqb, arith}
use Rattle.std.proofs.lemmas.Bool.Decides.{nat_tests}
use Rattle.std.specs.Ordering.{nat_cmp, eq_by_cmp}
use Rattle.std.specs.Cmp.{nat_cmp_total}
use Rattle.std.specs.FinMap.{get, insert, remove, get-insert, get-remove, same_map, nat_cmp-IsAntisymmetric}
use Rattle.judge.specs.Answer.{Pairs, set_at, key_of, leaves, reply_on, answer}
use Rattle.judge.specs.declared.journal.Call.{Call}

here : (k : ℕ) → eq_by_cmp nat_cmp k k ≡ true
here k = grind (arith, nat_tests)

apart : (q k : ℕ) → q ≢ k → eq_by_cmp nat_cmp q k ≡ false
apart q k ne = grind (arith, nat_tests)

-- two maps that answer alike are equal
pub same_pairs : {P : Type 0} (m n : Pairs P) → ((q : ℕ) → get m q ≡ get n q) → m ≡ n
same_pairs m n alike = same_map nat_cmp_total nat_cmp-IsAntisymmetric m n alike

-- a key that was inserted has its value
pub get-insert_here : {P : Type 0} (m : Pairs P) (k : ℕ) (v : P) → get (insert m k v) k ≡ Some v
get-insert_here m k v = get-insert nat_cmp_total m k v k ∙ ap (λ b. cond b (Some v) (get m k)) (here k)

-- an insertion leaves what stands at each other key
pub get-insert_apart : {P : Type 0} (m : Pairs P) (k : ℕ) (v : P) (q : ℕ) → q ≢ k → get (insert m k v) q ≡ get m q
get-insert_apart m k v q ne = get-insert nat_cmp_total m k v q ∙ ap (λ b. cond b (Some v) (get m q)) (apart q k ne)

-- a key that was removed has no value
get-remove_here : {P : Type 0} (m : Pairs P) (k : ℕ) → get (remove m k) k ≡ None
get-remove_here m k = get-remove nat_cmp_total m k k ∙ ap (λ b. cond b None (get m k)) (here k)

-- a removal leaves what stands at each other key
get-remove_apart : {P : Type 0} (m : Pairs P) (k q : ℕ) → q ≢ k → get (remove m k) q ≡ get m q
get-remove_apart m k q ne = get-remove nat_cmp_total m k q ∙ ap (λ b. cond b None (get m q)) (apart q k ne)

-- what was set at a key stands there
pub get-set_at_here : {P : Type 0} (m : Pairs P) (k : ℕ) (o : Option P) → get (set_at m k o) k ≡ o
get-set_at_here m k None = get-remove_here m k
get-set_at_here m k (Some v) = get-insert_here m k v

-- to set one key leaves what stands at each other one
pub get-set_at_apart : {P : Type 0} (m : Pairs P) (k : ℕ) (o : Option P) (q : ℕ) → q ≢ k → get (set_at m k o) q ≡ get m q
get-set_at_apart m k None q ne = get-remove_apart m k q ne
get-set_at_apart m k (Some v) q ne = get-insert_apart m k v q ne

by_test : {A : Type 0} (b : Bool) (q k : ℕ) → eqb q k ≡ b → (f g : ℕ → A) → f k ≡ g k → (q ≢ k → f q ≡ g q) → f q ≡ g q
by_test true q k e f g at_k other = let is : q ≡ k = grind (arith, nat_tests) in subst (λ x. f x ≡ g x) (sym is) at_k
by_test false q k e f g at_k other = other (let ne : q ≢ k = grind (arith, nat_tests) in ne)

-- two functions that agree at one key and at every other one
by_key : {A : Type 0} (k : ℕ) (f g : ℕ → A) → f k ≡ g k → ((q : ℕ) → q ≢ k → f q ≡ g q) → (q : ℕ) → f q ≡ g q
by_key k f g at_k other q = by_test (eqb q k) q k refl f g at_k (other q)

-- a map that has o at k, and elsewhere what m has, is m with o set at k
pub is_set_at : {P : Type 0} (m n : Pairs P) (k : ℕ) (o : Option P) → get n k ≡ o → ((q : ℕ) → q ≢ k → get n q ≡ get m q) → n ≡ set_at m k o
is_set_at m n k o at_k other =
    same_pairs n (set_at m k o) (by_key k (get n) (get (set_at m k o)) (at_k ∙ sym (get-set_at_here m k o)) (λ q ne. other q ne ∙ sym (get-set_at_apart m k o q ne)))

-- to set what stands there changes nothing
pub set_at-standing : {P : Type 0} (m : Pairs P) (k : ℕ) (o : Option P) → get m k ≡ o → set_at m k o ≡ m
set_at-standing m k o at_k = sym (is_set_at m m k o at_k (λ q ne. refl))

pair_up : {A B : Type 0} (a b : A) (c d : B) → a ≡ b → c ≡ d → ◌≡◌ {A = A × B} (a, c) (b, d)
pair_up a b c d e f = λ i. (e i, f i)

-- a map that differs from m as the call asks, at the call's key alone, is the call's next map
pub answer_at : {P : Type 0} (same : P → P → Bool) (m n : Pairs P) (c : Call P) (found : Option P) → get m (key_of c) ≡ found → get n (key_of c) ≡ leaves same c found → ((q : ℕ) → q ≢ key_of c → get n q ≡ get m q) → answer same m c ≡ (reply_on same c found, n)
answer_at same m n c found was now other =
    pair_up _ _ _ _ (ap (reply_on same c) was) (ap (λ o. set_at m (key_of c) (leaves same c o)) was ∙ sym (is_set_at m n (key_of c) (leaves same c found) now other))
