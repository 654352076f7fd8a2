-- The places of a plain node.
use Rattle.std.proofs.Common.{◌≡◌, ◌≢◌, ℕ, zero, suc, ◌<◌, ◌≤◌, ◌+◌, List, [], ◌∷◌, ◌++◌, length, get_or, set, take, drop, refl, ◌∙◌, ap, subst, arith, inl, inr, cond, sym}
use Rattle.std.proofs.lemmas.List.Sums.{sum_by-cons, sum_by-set, count_by-le-length}
use Rattle.std.proofs.Math.Seq.{take-append_seam}
use Rattle.std.proofs.lemmas.Bool.{cases_lt}
use Rattle.congee.specs.declared.forms.child.Child.{Child}
use Rattle.congee.specs.declared.forms.child.Child.TheVariants.{Blank, Node, Value}
use Rattle.congee.specs.Heap.{Nothing}
use Rattle.congee.specs.protocol.Events.{hung, weight, kept}
use Rattle.congee.specs.protocol.Plain.{is_there, count_of, child_at, NamesStay}

-- nothing hangs past the end of the places
pub past : (xs : List (Child ℕ ℕ)) (b : ℕ) → length xs ≤ b → child_at xs b ≡ Nothing
past [] b l = refl
past (x ∷ xs) zero l = absurd (omega arith)
past (x ∷ xs) (suc b) l = past xs b (omega arith)

-- what is put in a place hangs at its byte
pub child_set : (xs : List (Child ℕ ℕ)) (i : ℕ) (x : Child ℕ ℕ) → i < length xs → child_at (set xs i x) i ≡ hung (λ n. n) x
child_set [] i x l = absurd (omega arith)
child_set (y ∷ xs) zero x l = refl
child_set (y ∷ xs) (suc i) x l = child_set xs i x (omega arith)

-- at every other byte hangs what hung
pub child_beside : (xs : List (Child ℕ ℕ)) (i : ℕ) (x : Child ℕ ℕ) (b : ℕ) → b ≢ i → child_at (set xs i x) b ≡ child_at xs b
child_beside [] i x b ne = refl
child_beside (y ∷ xs) zero x zero ne = absurd (ne refl)
child_beside (y ∷ xs) zero x (suc b) ne = refl
child_beside (y ∷ xs) (suc i) x zero ne = refl
child_beside (y ∷ xs) (suc i) x (suc b) ne = child_beside xs i x b (λ e. ne (ap suc e))

-- what is in a place counts one, and a blank nothing
weight_is : (x : Child ℕ ℕ) → weight (hung (λ n. n) x) ≡ cond (is_there x) 1 0
weight_is Blank = refl
weight_is (Node c) = refl
weight_is (Value v) = refl

-- how many children there are after one place was written
pub count_set : (xs : List (Child ℕ ℕ)) (i : ℕ) (x : Child ℕ ℕ) → i < length xs
    → count_of (set xs i x) + weight (child_at xs i) ≡ count_of xs + weight (hung (λ n. n) x)
count_set xs i x l = rw (weight_is x, weight_is (get_or xs i Blank)) (sum_by-set (λ y. cond (is_there y) 1 0) xs i x Blank l)

count_cons : (x : Child ℕ ℕ) (xs : List (Child ℕ ℕ)) → count_of (x ∷ xs) ≡ weight (hung (λ n. n) x) + count_of xs
count_cons x xs = rw (weight_is x) (sum_by-cons (λ y. cond (is_there y) 1 0) x xs)

there : (x : Child ℕ ℕ) → hung (λ n. n) x ≢ Nothing → weight (hung (λ n. n) x) ≡ 1
there Blank ne = absurd (ne refl)
there (Node c) ne = refl
there (Value v) ne = refl

at_most : (x : Child ℕ ℕ) → weight (hung (λ n. n) x) ≤ 1
at_most Blank = omega arith
at_most (Node c) = omega arith
at_most (Value v) = omega arith

empty_at : (x : Child ℕ ℕ) → weight (hung (λ n. n) x) ≡ 0 → hung (λ n. n) x ≡ Nothing
empty_at Blank e = refl
empty_at (Node c) e = absurd (omega (arith, e))
empty_at (Value v) e = absurd (omega (arith, e))

none_there : (xs : List (Child ℕ ℕ)) → count_of xs ≡ 0 → (b : ℕ) → child_at xs b ≡ Nothing
none_there [] e b = refl
none_there (x ∷ xs) e zero = empty_at x (omega (arith, e, count_cons x xs))
none_there (x ∷ xs) e (suc b) = none_there xs (omega (arith, e, count_cons x xs)) b

some_there : (xs : List (Child ℕ ℕ)) (b : ℕ) → child_at xs b ≢ Nothing → 1 ≤ count_of xs
some_there [] b ne = absurd (ne refl)
some_there (x ∷ xs) zero ne = omega (arith, there x ne, count_cons x xs)
some_there (x ∷ xs) (suc b) ne = omega (arith, some_there xs b ne, count_cons x xs)

-- a node with one child has nothing else
pub none_beside_one : (xs : List (Child ℕ ℕ)) (i : ℕ) → count_of xs ≡ 1 → child_at xs i ≢ Nothing → (b : ℕ) → b ≢ i → child_at xs b ≡ Nothing
none_beside_one [] i e ne b d = refl
none_beside_one (x ∷ xs) zero e ne zero d = absurd (d refl)
none_beside_one (x ∷ xs) zero e ne (suc b) d = none_there xs (omega (arith, e, there x ne, count_cons x xs)) b
none_beside_one (x ∷ xs) (suc i) e ne zero d = empty_at x (omega (arith, e, some_there xs i ne, count_cons x xs))
none_beside_one (x ∷ xs) (suc i) e ne (suc b) d = none_beside_one xs i (omega (arith, e, some_there xs i ne, count_cons x xs, count_by-le-length is_there (x ∷ xs))) ne b (λ q. d (ap suc q))

-- a list of blanks has no child
pub none_left : (xs : List (Child ℕ ℕ)) → ((b : ℕ) → child_at xs b ≡ Nothing) → count_of xs ≡ 0
none_left [] e = refl
none_left (x ∷ xs) e = (let w : weight (hung (λ n. n) x) ≡ 0 = ap weight (e 0) in omega (arith, w, count_cons x xs, none_left xs (λ b. e (suc b))))

two_there : (xs : List (Child ℕ ℕ)) (i j : ℕ) → i ≢ j → child_at xs i ≢ Nothing → child_at xs j ≢ Nothing → 2 ≤ count_of xs
two_there [] i j ne ci cj = absurd (ci refl)
two_there (x ∷ xs) zero zero ne ci cj = absurd (ne refl)
two_there (x ∷ xs) zero (suc j) ne ci cj = omega (arith, there x ci, some_there xs j cj, count_cons x xs)
two_there (x ∷ xs) (suc i) zero ne ci cj = omega (arith, there x cj, some_there xs i ci, count_cons x xs)
two_there (x ∷ xs) (suc i) (suc j) ne ci cj = omega (arith, two_there xs i j (λ q. ne (ap suc q)) ci cj, count_cons x xs)

-- a node with two children has nothing else
pub pair_alone : (xs : List (Child ℕ ℕ)) (i j : ℕ) → count_of xs ≡ 2 → i ≢ j → child_at xs i ≢ Nothing → child_at xs j ≢ Nothing → (b : ℕ) → b ≢ i → b ≢ j → child_at xs b ≡ Nothing
pair_alone [] i j e ne ci cj b di dj = refl
pair_alone (x ∷ xs) zero zero e ne ci cj b di dj = absurd (ne refl)
pair_alone (x ∷ xs) zero (suc j) e ne ci cj zero di dj = absurd (di refl)
pair_alone (x ∷ xs) zero (suc j) e ne ci cj (suc b) di dj = none_beside_one xs j (omega (arith, e, there x ci, count_cons x xs)) cj b (λ q. dj (ap suc q))
pair_alone (x ∷ xs) (suc i) zero e ne ci cj zero di dj = absurd (dj refl)
pair_alone (x ∷ xs) (suc i) zero e ne ci cj (suc b) di dj = none_beside_one xs i (omega (arith, e, there x cj, count_cons x xs)) ci b (λ q. di (ap suc q))
pair_alone (x ∷ xs) (suc i) (suc j) e ne ci cj zero di dj = empty_at x (omega (arith, e, two_there xs i j (λ q. ne (ap suc q)) ci cj, count_cons x xs))
pair_alone (x ∷ xs) (suc i) (suc j) e ne ci cj (suc b) di dj =
    pair_alone xs i j (omega (arith, e, two_there xs i j (λ q. ne (ap suc q)) ci cj, count_cons x xs)) (λ q. ne (ap suc q)) ci cj b (λ q. di (ap suc q)) (λ q. dj (ap suc q))

-- a node that has nothing but one place has at most one child
pub one_left : (xs : List (Child ℕ ℕ)) (i : ℕ) → ((b : ℕ) → b ≢ i → child_at xs b ≡ Nothing) → count_of xs ≤ 1
one_left [] i e = omega arith
one_left (x ∷ xs) zero e = omega (arith, at_most x, none_left xs (λ b. e (suc b) (λ q. absurd (omega (arith, q)))), count_cons x xs)
one_left (x ∷ xs) (suc i) e = (let w : weight (hung (λ n. n) x) ≡ 0 = ap weight (e 0 (λ q. absurd (omega (arith, q)))) in omega (arith, w, count_cons x xs, one_left xs i (λ b ne. e (suc b) (λ q. ne (omega (arith, q))))))

-- a node that lacks a byte has fewer children than places
pub lacking : (xs : List (Child ℕ ℕ)) (i : ℕ) → i < length xs → child_at xs i ≡ Nothing → count_of xs < length xs
lacking [] i l e = absurd (omega arith)
lacking (x ∷ xs) zero l e = (let w : weight (hung (λ n. n) x) ≡ 0 = ap weight e in omega (arith, w, count_cons x xs, count_by-le-length is_there xs))
lacking (x ∷ xs) (suc i) l e = omega (arith, lacking xs i (omega arith) e, at_most x, count_cons x xs)

-- the names below a bound are copied
abbrev NamesBelow : ℕ → List (Child ℕ ℕ) → List (Child ℕ ℕ) → Type 0
NamesBelow i from to = (b : ℕ) → b < i → child_at to b ≡ kept (child_at from b)

-- what hangs at a byte within the places, whatever is read past their end
child_any : (xs : List (Child ℕ ℕ)) (b : ℕ) (z : Child ℕ ℕ) → b < length xs → hung (λ n. n) (get_or xs b z) ≡ child_at xs b
child_any [] b z l = absurd (omega arith)
child_any (y ∷ xs) zero z l = refl
child_any (y ∷ xs) (suc b) z l = child_any xs b z (omega arith)

-- with one more place copied the names below the next bound are
pub names_go : (from to : List (Child ℕ ℕ)) (i : ℕ) (z x : Child ℕ ℕ) → length from ≡ length to → i < length from
    → NamesBelow i from to → hung (λ n. n) x ≡ kept (hung (λ n. n) (get_or from i z)) → NamesBelow (i + 1) from (set to i x)
names_go from to i z x same l before name b bound = elim (cases_lt b i) [
  | inl lt ↦ child_beside to i x b (λ e. absurd (omega (arith, lt, e))) ∙ before b lt
  | inr ge ↦ (let e : i ≡ b = omega (arith, bound, ge) in let P : ℕ → Type 0 = λ y. child_at (set to i x) y ≡ kept (child_at from y) in
      subst P e (child_set to i x (omega (arith, l, same)) ∙ name ∙ ap kept (child_any from i z l)))
]

-- where the names in all places are copied, the same nodes hang at the same bytes
pub names_end : (from to : List (Child ℕ ℕ)) → length from ≡ length to → NamesBelow (length from) from to → NamesStay from to
names_end from to same below b = elim (cases_lt b (length from)) [
  | inl lt ↦ below b lt
  | inr ge ↦ past to b (omega (arith, ge, same)) ∙ ap kept (sym (past from b ge))
]

-- how many are left
pub all_left : (xs ys : List (Child ℕ ℕ)) → length ys ≡ length xs → ((b : ℕ) → child_at ys b ≡ child_at xs b) → count_of ys ≡ count_of xs
all_left [] [] l e = refl
all_left [] (y ∷ ys) l e = absurd (omega (arith, l))
all_left (x ∷ xs) [] l e = absurd (omega (arith, l))
all_left (x ∷ xs) (y ∷ ys) l e =
    (let w : weight (hung (λ n. n) y) ≡ weight (hung (λ n. n) x) = ap weight (e 0) in omega (arith, w, count_cons x xs, count_cons y ys, all_left xs ys (omega (arith, l)) (λ b. e (suc b))))

-- a list that is written over as a whole
pub all_written : (to xs : List (Child ℕ ℕ)) (size : ℕ) → size ≡ length to → take size (to ++ drop (length to) xs) ≡ to
all_written to xs size e = rw e (take-append_seam to (drop (length to) xs))
