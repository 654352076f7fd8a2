-- How what a scan has settled grows.
use Rattle.std.proofs.Common.{◌≡◌, ℕ, zero, suc, ◌<◌, ◌≤◌, ◌+◌, List, [], ◌∷◌, ◌++◌, length, take, IsSome, inl, inr, refl, ap, subst, arith}
use Rattle.std.specs.Ordering.{nat_cmp}
use Rattle.std.specs.FinMap.{FinMap, get}
use Rattle.std.proofs.lemmas.Bool.{cases_lt}
use Rattle.std.proofs.lemmas.List.{length-append}
use Rattle.congee.specs.forms.Places.{AllKeys, Rises}
use Rattle.congee.specs.protocol.Scans.{HasKey, Stood, AllStood, Lacked, Throughout, IsScan, ScannedTo, written}
use Rattle.congee.proofs.lemmas.forms.EntryLemmas.{AllKeys-map}

module _ {V : Type 0} where
  keys_one_more : (P : ℕ → Type 0) (found : List (ℕ × V)) (k : ℕ) (v : V) → AllKeys P found → P k → AllKeys P (found ++ (k, v) ∷ [])
  keys_one_more P [] k v a p = (p, tt)
  keys_one_more P (x ∷ r) k v a p = (a.0, keys_one_more P r k v a.1 p)

  rises_more : (found : List (ℕ × V)) (k : ℕ) (v : V) → Rises found → AllKeys (λ q. q < k) found → Rises (found ++ (k, v) ∷ [])
  rises_more [] k v r b = (tt, tt)
  rises_more ((q, w) ∷ rest) k v r b = (keys_one_more (λ c. q < c) rest k v r.0 b.0, rises_more rest k v r.1 b.1)

  has_more : (found : List (ℕ × V)) (k : ℕ) (v : V) (q : ℕ) → HasKey found q → HasKey (found ++ (k, v) ∷ []) q
  has_more [] k v q h = absurd h
  has_more ((x, w) ∷ rest) k v q h = elim h [ inl e ↦ inl e | inr r ↦ inr (has_more rest k v q r) ]

  has_last : (found : List (ℕ × V)) (k : ℕ) (v : V) → HasKey (found ++ (k, v) ∷ []) k
  has_last [] k v = inl refl
  has_last (x ∷ rest) k v = inr (has_last rest k v)

  stood_more : (states : List (FinMap nat_cmp V)) (found : List (ℕ × V)) (k : ℕ) (v : V) → AllStood states found → Stood states k v → AllStood states (found ++ (k, v) ∷ [])
  stood_more states [] k v a s = (s, tt)
  stood_more states (x ∷ rest) k v a s = (a.0, stood_more states rest k v a.1 s)

  stood_later : (m : FinMap nat_cmp V) (states : List (FinMap nat_cmp V)) (found : List (ℕ × V)) → AllStood states found → AllStood (m ∷ states) found
  stood_later m states [] a = tt
  stood_later m states (x ∷ rest) a = (inr a.0, stood_later m states rest a.1)

  -- no map that has the key lacks it
  lacked_not : (states : List (FinMap nat_cmp V)) (k : ℕ) → Throughout states k → Lacked states k → ⊥
  lacked_not [] k t l = l
  lacked_not (m ∷ states) k t l = elim l [
    | inl e ↦ (let there : IsSome (get m k) = t.0 in cc (there, e))
    | inr r ↦ lacked_not states k t.1 r
  ]

module _ {V : Type 0} (start end size : ℕ) where
  -- before the first key
  pub scan_none : (upto : ℕ) (states : List (FinMap nat_cmp V)) → upto ≤ start → ScannedTo start end size upto states []
  scan_none upto states l = record {
    rises = tt;
    few = omega arith;
    within = tt;
    below = tt;
    stood = tt;
    settled = λ k lo hi b. absurd (omega (arith, lo, b, l));
  }

  -- one more map stands
  pub scan_later : (upto : ℕ) (m : FinMap nat_cmp V) (states : List (FinMap nat_cmp V)) (found : List (ℕ × V)) → ScannedTo start end size upto states found → ScannedTo start end size upto (m ∷ states) found
  scan_later upto m states found s = record {
    rises = s.rises;
    few = s.few;
    within = s.within;
    below = s.below;
    stood = stood_later m states found s.stood;
    settled = λ k lo hi b. elim (s.settled k lo hi b) [ inl h ↦ inl h | inr l ↦ inr (inr l) ];
  }

  -- the keys from there to here were lacking
  pub scan_on : (upto to : ℕ) (states : List (FinMap nat_cmp V)) (found : List (ℕ × V)) → upto ≤ to → ((k : ℕ) → start ≤ k → k < end → upto ≤ k → k < to → Lacked states k)
      → ScannedTo start end size upto states found → ScannedTo start end size to states found
  scan_on upto to states found l gap s = record {
    rises = s.rises;
    few = s.few;
    within = s.within;
    below = AllKeys-map (λ k. k < upto) (λ k. k < to) (λ k b. omega (arith, b, l)) found s.below;
    stood = s.stood;
    settled = λ k lo hi b. elim (cases_lt k upto) [ inl lt ↦ s.settled k lo hi lt | inr ge ↦ inr (gap k lo hi ge b) ];
  }

  -- a pair is found
  pub scan_found : (upto k : ℕ) (v : V) (states : List (FinMap nat_cmp V)) (found : List (ℕ × V)) → start ≤ k → k < end → upto ≤ k → length found < size → Stood states k v
      → ((q : ℕ) → start ≤ q → q < end → upto ≤ q → q < k → Lacked states q) → ScannedTo start end size upto states found → ScannedTo start end size (k + 1) states (found ++ (k, v) ∷ [])
  scan_found upto k v states found lo hi past room stands gap s = record {
    rises = rises_more found k v s.rises (AllKeys-map (λ q. q < upto) (λ q. q < k) (λ q b. omega (arith, b, past)) found s.below);
    few = let e = length-append found ((k, v) ∷ []) in omega (arith, e, room);
    within = keys_one_more (λ q. (start ≤ q) × (q < end)) found k v s.within (lo, hi);
    below = keys_one_more (λ q. q < k + 1) found k v (AllKeys-map (λ q. q < upto) (λ q. q < k + 1) (λ q b. omega (arith, b, past)) found s.below) (omega arith);
    stood = stood_more states found k v s.stood stands;
    settled = λ q l h b. elim (cases_lt q upto) [
      | inl lt ↦ elim (s.settled q l h lt) [ inl x ↦ inl (has_more found k v q x) | inr x ↦ inr x ]
      | inr ge ↦ elim (cases_lt q k) [
        | inl lt ↦ inr (gap q l h ge lt)
        | inr le ↦ (let e : k ≡ q = omega (arith, le, b) in inl (subst (λ x. HasKey (found ++ (k, v) ∷ []) x) e (has_last found k v)))
      ]
    ];
  }

  -- the range is at its end
  pub scan_ends : (upto : ℕ) (states : List (FinMap nat_cmp V)) (found : List (ℕ × V)) → end ≤ upto → ScannedTo start end size upto states found → IsScan start end size states found
  scan_ends upto states found l s = record {
    rises = s.rises;
    few = s.few;
    within = s.within;
    stood = s.stood;
    complete = λ k lo hi t. elim (s.settled k lo hi (omega (arith, hi, l))) [ inl h ↦ inl h | inr x ↦ absurd (lacked_not states k t x) ];
  }

  -- every place is taken
  pub scan_full : (upto : ℕ) (states : List (FinMap nat_cmp V)) (found : List (ℕ × V)) → length found ≡ size → ScannedTo start end size upto states found → IsScan start end size states found
  scan_full upto states found full s = record {
    rises = s.rises;
    few = s.few;
    within = s.within;
    stood = s.stood;
    complete = λ k lo hi t. elim (cases_lt k upto) [
      | inl lt ↦ elim (s.settled k lo hi lt) [ inl h ↦ inl h | inr x ↦ absurd (lacked_not states k t x) ]
      | inr ge ↦ inr (full, AllKeys-map (λ q. q < upto) (λ q. q < k) (λ q b. omega (arith, b, ge)) found s.below)
    ];
  }

-- a pair written behind those that count
pub written_counts : {V : Type 0} (places : List (ℕ × V)) (count : ℕ) (p : ℕ × V) → count ≤ length places
    → (take (suc count) (written places count p) ≡ take count places ++ p ∷ []) × (suc count ≤ length (written places count p))
written_counts [] zero p l = (refl, omega arith)
written_counts [] (suc count) p l = absurd (omega (arith, l))
written_counts (x ∷ xs) zero p l = (refl, omega arith)
written_counts (x ∷ xs) (suc count) p l = let h = written_counts xs count p (omega (arith, l)) in (ap (λ t. x ∷ t) h.0, (let s = h.1 in omega (arith, s)))
