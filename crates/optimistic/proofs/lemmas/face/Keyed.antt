-- The keys of what a scan has found so far.
use Rattle.std.proofs.Common.{◌≡◌, ℕ, ◌≤◌, List, [], ◌++◌, length, ap, sym, ◌∙◌, refl, arith}
use Rattle.std.proofs.lemmas.List.{map-append, length-map}
use Rattle.optimistic.specs.declared.drain.nexts.Pair.{Pair}
use Rattle.optimistic.specs.face.Calls.{Known}
use Rattle.optimistic.specs.face.Scans.{IsSoFar, keys_of, AreKeys}
use Rattle.optimistic.proofs.lemmas.face.Scanning.{so_far_none, so_far_both, scan_none, scan_full, scan_done}

abbrev pub IsKeyed : (from next : ℕ) → Known → Known → List ℕ → Type 0
IsKeyed from next v w keys = (pairs : List Pair) × IsSoFar from next v w pairs × (keys ≡ keys_of pairs)

pub keyed_none : (from : ℕ) (v : Known) → IsKeyed from from v v []
keyed_none from v = ([], so_far_none from v, refl)

-- the keys of a run behind them
pub keyed_run : (from next to : ℕ) (v u w : Known) (keys : List ℕ) (more : List Pair) → IsKeyed from next v u keys → IsSoFar next to u w more → IsKeyed from to v w (keys ++ keys_of more)
keyed_run from next to v u w keys more s far = (
  s.0 ++ more,
  so_far_both from next to v u w s.0 more s.1 far,
  ap (λ (l : List ℕ). l ++ keys_of more) s.2 ∙ sym (map-append (λ (q : Pair). q.key) s.0 more),
)

many : (keys : List ℕ) (pairs : List Pair) → keys ≡ keys_of pairs → length pairs ≡ length keys
many keys pairs e = sym (length-map pairs (λ (q : Pair). q.key)) ∙ sym (ap (λ (l : List ℕ). length l) e)

-- the scan ends: there was no key to ask for, the places are filled, or all keys were asked for
pub keys_none : (from to places : ℕ) (v : Known) → to ≤ from → AreKeys from to places v v []
keys_none from to places v order = ([], scan_none from to places v order, refl)

pub keys_full : (from next to places : ℕ) (v w : Known) (keys : List ℕ) → IsKeyed from next v w keys → length keys ≡ places → next ≤ to → AreKeys from to places v w keys
keys_full from next to places v w keys s full order = (s.0, scan_full from next to places v w s.0 s.1 (many keys s.0 s.2 ∙ full) (λ q has. let b = (s.1.inside q has).1 in omega (arith, b, order)), s.2)

pub keys_done : (from next to places : ℕ) (v w : Known) (keys : List ℕ) → IsKeyed from next v w keys → next ≡ to → length keys ≤ places → AreKeys from to places v w keys
keys_done from next to places v w keys s end few = (s.0, scan_done from next to places v w s.0 s.1 end (let e = many keys s.0 s.2 in omega (arith, e, few)), s.2)
