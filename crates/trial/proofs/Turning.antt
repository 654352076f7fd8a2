-- One change of a table of sessions and of its second index.
use Rattle.std.proofs.Common.{◌≡◌, ◌≢◌, ◌<◌, ◌≤◌, ◌^◌, ◌%◌, ◌/◌, ◌*◌, ◌+◌, inl, inr, subst, ◌++◌, List, [], ◌∷◌, map, ℕ, Option, None, Some, IsSome, refl, sym, ap, ◌∙◌, arith, Bool, true, false, cond, leb, eqb}
use Rattle.std.proofs.lemmas.Bool.Decides.{nat_tests}
use Rattle.std.proofs.lemmas.Bool.{cases_eq}
use Rattle.std.proofs.lemmas.Grind.{common_steps}
use Rattle.std.proofs.Math.Nat.{mod-eq_of_lt}
use Rattle.std.specs.Option.{option_map, unwrap_or}
use Rattle.std.specs.FinMap.{entries, len, get, insert, remove, empty, gets, get-empty}
use Rattle.std.specs.Ordering.{nat_cmp}
use Rattle.congee.proofs.Laws.{find, get_find, len_less, rises_entries}
use Rattle.congee.specs.forms.Places.{AllKeys, Rises}
use Rattle.congee.specs.owned.Nearest.{IsLeast, IsLeastPair, pair_by}
use Rattle.judge.specs.Answer.{Pairs, set_at}
use Rattle.judge.specs.Words.{joined}
use Rattle.trial.specs.Sessions.{Turned, unexpired, renewed, after, left, IsLeft}
use Rattle.trial.specs.declared.examples.sessions.registry.Change.{Change}
use Rattle.trial.specs.declared.examples.sessions.registry.Change.TheVariants.{Register, Renew}
use Rattle.judge.proofs.Laws.{get-set_at_here, get-set_at_apart}

-- an expiry and a session come back from the key that they make
pub same_expiry : (e s f t : ℕ) → s < 2 ^ 32 → t < 2 ^ 32 → joined e s ≡ joined f t → e ≡ f
same_expiry e s f t small little is = omega arith

pub same_session : (e s f t : ℕ) → s < 2 ^ 32 → t < 2 ^ 32 → joined e s ≡ joined f t → s ≡ t
same_session e s f t small little is = omega arith

pub turned_empty : Turned empty empty
turned_empty = record {
  small = λ s e is. grind (arith, gets, is);
  there = λ s e is. grind (arith, gets, is);
  back = λ e s f small is. grind (arith, gets, is);
}

-- a session that goes
pub turned_taken : (m t : Pairs ℕ) (s e : ℕ) → Turned m t → get m s ≡ Some e → Turned (remove m s) (remove t (joined e s))
turned_taken m t s e h is = record {
  small = λ q f at. grind (arith, gets, common_steps, h.small q f);
  there = λ q f at. grind (arith, gets, common_steps, h.small q f, h.there q f, h.small s e, same_session f q e s);
  back = λ f q v small at. grind (arith, gets, common_steps, h.back f q v, h.small s e, same_session f q e s);
}

-- one that comes
pub turned_put : (m t : Pairs ℕ) (s e : ℕ) → Turned m t → s < 2 ^ 32 → e < 2 ^ 32 → get m s ≡ None → Turned (insert m s e) (insert t (joined e s) s)
turned_put m t s e h few short is = record {
  small = λ q f at. grind (arith, gets, common_steps, h.small q f);
  there = λ q f at. grind (arith, gets, common_steps, h.small q f, h.there q f, same_session f q e s);
  back = λ f q v small at. grind (arith, gets, common_steps, h.back f q v, same_session f q e s, same_expiry f q e s);
}

-- one that gets another expiry
pub turned_moved : (m t : Pairs ℕ) (s old e : ℕ) → Turned m t → s < 2 ^ 32 → e < 2 ^ 32 → get m s ≡ Some old → old ≢ e
    → Turned (insert m s e) (remove (insert t (joined e s) s) (joined old s))
turned_moved m t s old e h few short is ne = record {
  small = λ q f at. grind (arith, gets, common_steps, h.small q f);
  there = λ q f at. grind (arith, gets, common_steps, h.small q f, h.small s old, h.there q f, same_session f q e s, same_session f q old s, same_expiry f q old s);
  back = λ f q v small at. grind (arith, gets, common_steps, h.back f q v, h.small s old, same_session f q e s, same_expiry f q e s, same_session f q old s, same_expiry f q old s);
}

-- a pair that came into the second index alone and goes again
pub turned_undone : (m t : Pairs ℕ) (s e : ℕ) → Turned m t → s < 2 ^ 32 → get m s ≡ None → Turned m (remove (insert t (joined e s) s) (joined e s))
turned_undone m t s e h few is = record {
  small = h.small;
  there = λ q f at.
      let other : q ≢ s = grind (arith, at, is) in
      let apart : joined f q ≢ joined e s = grind (arith, other, same_session f q e s (h.small q f at).0 few) in
      grind (arith, gets, common_steps, apart, h.there q f at);
  back = λ f q v small at. grind (arith, gets, common_steps, h.back f q v);
}

-- where no key of the second index is below one past the time, no session's expiry has come
over_by_test : (m t : Pairs ℕ) (now from s e : ℕ) → Turned m t → now * 2 ^ 32 + 2 ^ 32 ≤ from → ((q : ℕ) → 0 ≤ q → q < from → get t q ≡ None) → get m s ≡ Some e
    → (b : Bool) → leb e now ≡ b → now < e
over_by_test m t now from s e h late none at true is =
    let small = h.small s e at in
    let below : e ≤ now = grind (arith, nat_tests) in
    let least : joined e s < from = omega arith in
    grind (arith, h.there s e at, none (joined e s) (omega arith) least)
over_by_test m t now from s e h late none at false is = grind (arith, nat_tests)

pub none_over : (m t : Pairs ℕ) (now from : ℕ) → Turned m t → now * 2 ^ 32 + 2 ^ 32 ≤ from → ((q : ℕ) → 0 ≤ q → q < from → get t q ≡ None)
    → (s e : ℕ) → get m s ≡ Some e → now < e
none_over m t now from h late none s e at = over_by_test m t now from s e h late none at (leb e now) refl

-- where none stands none has either
pub none_at_all : (m t : Pairs ℕ) → Turned m t → ((q : ℕ) → 0 ≤ q → get t q ≡ None) → (s e now : ℕ) → get m s ≡ Some e → now < e
none_at_all m t h none s e now at = grind (arith, h.there s e at, none (joined e s) (omega arith))

-- a session whose expiry has come is taken out by what is to be left of a map
gone : (now e : ℕ) → e ≤ now → unexpired now (Some e) ≡ None
gone now e over = grind (arith, nat_tests)

pub unexpired_taken : (m n : Pairs ℕ) (now s e q : ℕ) → get m s ≡ Some e → e ≤ now → n ≡ remove m s → unexpired now (get n q) ≡ unexpired now (get m q)
unexpired_taken m n now s e q at over is = elim (cases_eq q s) [
  | inl here ↦
      let none : get n q ≡ None = grind (arith, gets, common_steps, here, is) in
      let found : get m q ≡ Some e = grind (arith, here, at) in
      ap (unexpired now) none ∙ sym (ap (unexpired now) found ∙ gone now e over)
  | inr apart ↦
      let same : get n q ≡ get m q = grind (arith, gets, common_steps, apart, is) in
      ap (unexpired now) same
]

-- what hasn't come stands
unexpired_later : (now : ℕ) (found : Option ℕ) → ((e : ℕ) → found ≡ Some e → now < e) → found ≡ unexpired now found
unexpired_later now None h = refl
unexpired_later now (Some e) h = let later : now < e = h e refl in grind (arith, nat_tests)

pub unexpired_all : (m : Pairs ℕ) (now : ℕ) → ((s e : ℕ) → get m s ≡ Some e → now < e) → (q : ℕ) → get m q ≡ unexpired now (get m q)
unexpired_all m now h q = unexpired_later now (get m q) (h q)

-- a number of 32 bits is its own remainder
kept_of : (found : Option ℕ) → ((e : ℕ) → found ≡ Some e → e < 2 ^ 32) → option_map (λ n. n % 2 ^ 32) found ≡ found
kept_of None h = refl
kept_of (Some e) h = ap Some (mod-eq_of_lt (h e refl))

-- an expiry is read as it stands
pub expiry_kept : (m t : Pairs ℕ) (s : ℕ) → Turned m t → option_map (λ n. n % 2 ^ 32) (get m s) ≡ get m s
expiry_kept m t s h = kept_of (get m s) (λ e at. (h.small s e at).1)

-- the same changes, with what the trees have after them
pub taken_by : (m t m2 t2 : Pairs ℕ) (s e : ℕ) → Turned m t → get m s ≡ Some e → m2 ≡ remove m s → t2 ≡ remove t (joined e s) → Turned m2 t2
taken_by m t m2 t2 s e h at is2 it2 = subst (λ x. Turned x t2) (sym is2) (subst (λ y. Turned (remove m s) y) (sym it2) (turned_taken m t s e h at))

pub put_by : (m t m2 t2 : Pairs ℕ) (s e : ℕ) → Turned m t → s < 2 ^ 32 → e < 2 ^ 32 → get m s ≡ None → m2 ≡ insert m s e → t2 ≡ insert t (joined e s) s → Turned m2 t2
put_by m t m2 t2 s e h few short at is2 it2 = subst (λ x. Turned x t2) (sym is2) (subst (λ y. Turned (insert m s e) y) (sym it2) (turned_put m t s e h few short at))

pub moved_by : (m t m2 t1 t2 : Pairs ℕ) (s old e : ℕ) → Turned m t → s < 2 ^ 32 → e < 2 ^ 32 → get m s ≡ Some old → old ≢ e
    → m2 ≡ insert m s e → t1 ≡ insert t (joined e s) s → t2 ≡ remove t1 (joined old s) → Turned m2 t2
moved_by m t m2 t1 t2 s old e h few short at ne is2 it1 it2 =
    subst (λ x. Turned x t2) (sym is2) (subst (λ y. Turned (insert m s e) y) (sym (it2 ∙ ap (λ y. remove y (joined old s)) it1)) (turned_moved m t s old e h few short at ne))

pub undone_by : (m t m2 t1 t2 : Pairs ℕ) (s e : ℕ) → Turned m t → s < 2 ^ 32 → get m s ≡ None → m2 ≡ m → t1 ≡ insert t (joined e s) s → t2 ≡ remove t1 (joined e s) → Turned m2 t2
undone_by m t m2 t1 t2 s e h few at is2 it1 it2 =
    subst (λ x. Turned x t2) (sym is2) (subst (λ y. Turned m y) (sym (it2 ∙ ap (λ y. remove y (joined e s)) it1)) (turned_undone m t s e h few at))

-- the first pair of the second index, as its key is read
pub first_of : (t : Pairs ℕ) (found : Option (ℕ × ℕ)) (e s v : ℕ) → Some ((e, s), v) ≡ option_map (pair_by {K = ℕ × ℕ} {V = ℕ} (λ n. (n / 2 ^ 32, n % 2 ^ 32)) (λ n. n % 2 ^ 32)) found → IsLeast t 0 found
    → (s < 2 ^ 32) × ((w : ℕ) × IsLeastPair t 0 (joined e s) w)
first_of t None e s v is least = absurd (cc is)
first_of t (Some p) e s v is least =
    let one : ◌≡◌ {A = (ℕ × ℕ) × ℕ} ((e, s), v) ((p.0 / 2 ^ 32, p.0 % 2 ^ 32), p.1 % 2 ^ 32) = ap (λ o. unwrap_or o ((e, s), v)) is in
    let high : e ≡ p.0 / 2 ^ 32 = ap (λ (x : (ℕ × ℕ) × ℕ). x.0.0) one in
    let low : s ≡ p.0 % 2 ^ 32 = ap (λ (x : (ℕ × ℕ) × ℕ). x.0.1) one in
    let key : p.0 ≡ joined e s = omega (arith, high, low) in
    (omega (arith, low), (p.1, subst (λ k. IsLeastPair t 0 k p.1) key least))

-- where there is none no session stands, and where its time hasn't come nobody's has
pub none_due : (m t m0 : Pairs ℕ) (now : ℕ) (found : Option (ℕ × ℕ)) → Turned m t → m ≡ m0 → None ≡ option_map (pair_by {K = ℕ × ℕ} {V = ℕ} (λ n. (n / 2 ^ 32, n % 2 ^ 32)) (λ n. n % 2 ^ 32)) found → IsLeast t 0 found
    → (q : ℕ) → get m0 q ≡ unexpired now (get m0 q)
none_due m t m0 now None h view is least = subst (λ x. (q : ℕ) → get x q ≡ unexpired now (get x q)) view (unexpired_all m now (λ s e at. none_at_all m t h least s e now at))
none_due m t m0 now (Some p) h view is least = absurd (cc is)

pub not_due : (m t m0 : Pairs ℕ) (now e s w : ℕ) → Turned m t → m ≡ m0 → IsLeastPair t 0 (joined e s) w → now < e → (q : ℕ) → get m0 q ≡ unexpired now (get m0 q)
not_due m t m0 now e s w h view least late = subst (λ x. (q : ℕ) → get x q ≡ unexpired now (get x q)) view (unexpired_all m now (none_over m t now (joined e s) h (omega arith) least.before))

-- and where it has come the session goes
pub due_there : (m t : Pairs ℕ) (e s w : ℕ) → Turned m t → s < 2 ^ 32 → IsLeastPair t 0 (joined e s) w → get m s ≡ Some e
due_there m t e s w h few least = h.back e s w few least.here

pub due_gone : (m m0 m2 : Pairs ℕ) (now s e : ℕ) → m ≡ m0 → get m s ≡ Some e → e ≤ now → m2 ≡ remove m s → (q : ℕ) → unexpired now (get m2 q) ≡ unexpired now (get m0 q)
due_gone m m0 m2 now s e view at over is q = unexpired_taken m m2 now s e q at over is ∙ ap (λ x. unexpired now (get x q)) view

pub due_fewer : (m m0 m2 : Pairs ℕ) (s e : ℕ) → m ≡ m0 → get m s ≡ Some e → m2 ≡ remove m s → len m2 < len m0
due_fewer m m0 m2 s e view at is =
    let some : IsSome (get m s) = cc at in
    let one : len (remove m s) + 1 ≡ len m = len_less m s some in
    omega (arith, one, ap len is, ap len view)

-- one change more
pub left_push : (cs : List Change) (c : Change) (q : ℕ) (found : Option ℕ) → left (cs ++ c ∷ []) q found ≡ after c q (left cs q found)
unfolding left
left_push [] c q found = refl
left_push (d ∷ cs) c q found = left_push cs c q (after d q found)

-- a table in which one session was set by what stood there
set_by_test : (m : Pairs ℕ) (k q : ℕ) (f : Option ℕ → Option ℕ) (b : Bool) → eqb q k ≡ b → get (set_at m k (f (get m k))) q ≡ cond b (f (get m q)) (get m q)
set_by_test m k q f true e = let is : k ≡ q = grind (arith, nat_tests) in subst (λ x. get (set_at m k (f (get m k))) x ≡ f (get m x)) is (get-set_at_here m k (f (get m k)))
set_by_test m k q f false e = get-set_at_apart m k (f (get m k)) q (let ne : q ≢ k = grind (arith, nat_tests) in ne)

-- a registration, and a renewal
pub after_register : (m : Pairs ℕ) (s e q : ℕ) → get (insert m s e) q ≡ after (Register s e) q (get m q)
after_register m s e q = set_by_test m s q (λ _. Some e) (eqb q s) refl

pub after_renew : (m : Pairs ℕ) (s e q : ℕ) → get (set_at m s (renewed e (get m s))) q ≡ after (Renew s e) q (get m q)
after_renew m s e q = set_by_test m s q (renewed e) (eqb q s) refl

-- a key below those of a list has nothing there
none_below : (k : ℕ) (es : List (ℕ × ℕ)) → AllKeys (λ j. k < j) es → find k es ≡ None
none_below k [] a = refl
none_below k ((j, v) ∷ es) a = grind (arith, nat_tests, a.0, none_below k es a.1)

-- pairs of numbers of 32 bits are read as they stand
pub kept_pairs : (es : List (ℕ × ℕ)) → Rises es → ((k v : ℕ) → find k es ≡ Some v → (k < 2 ^ 32) × (v < 2 ^ 32)) → map (pair_by (λ n. n % 2 ^ 32) (λ n. n % 2 ^ 32)) es ≡ es
kept_pairs [] r h = refl
kept_pairs ((k, v) ∷ es) r h =
    let here = h k v (let at : find k ((k, v) ∷ es) ≡ Some v = grind (arith, nat_tests) in at) in
    let key : k % 2 ^ 32 ≡ k = mod-eq_of_lt here.0 in
    let value : v % 2 ^ 32 ≡ v = mod-eq_of_lt here.1 in
    let rest = kept_pairs es r.1 (λ q w at. h q w (let on : find q ((k, v) ∷ es) ≡ Some w = grind (arith, nat_tests, at, none_below k es r.0) in on)) in
    λ i. (key i, value i) ∷ rest i

-- and so are those of a table
pub kept_entries : (m t : Pairs ℕ) → Turned m t → map (pair_by (λ n. n % 2 ^ 32) (λ n. n % 2 ^ 32)) (entries m) ≡ entries m
kept_entries m t h = kept_pairs (entries m) (rises_entries m) (λ k v at. h.small k v (get_find m k ∙ at))

-- no changes leave no sessions
pub left_none : (m : Pairs ℕ) → m ≡ empty → IsLeft [] m
unfolding left
left_none m is q = ap (λ t. get t q) is ∙ get-empty nat_cmp q

-- a change more is made of what those before it leave
pub left_more : (cs : List Change) (c : Change) (m n : Pairs ℕ) → IsLeft cs m → ((q : ℕ) → get n q ≡ after c q (get m q)) → IsLeft (cs ++ c ∷ []) n
left_more cs c m n h made q = made q ∙ ap (after c q) (h q) ∙ sym (left_push cs c q None)
