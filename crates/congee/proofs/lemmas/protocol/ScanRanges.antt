-- The scan of a call, before its begin, is of the call's range.
use Rattle.std.proofs.Common.{◌≡◌, ℕ, suc, ◌<◌, ◌≤◌, ◌-◌, ◌^◌, inl, inr, cond, List, [], ◌∷◌, refl, sym, ap, ◌∙◌, subst, arith}
use Rattle.std.proofs.Math.Dec.{ltb, leb}
use Rattle.std.proofs.lemmas.Bool.{cases_lt, le-leb, lt-leb}
use Rattle.judge.specs.Answer.{Pairs}
use Rattle.congee.specs.declared.protocol.op.Op.{Op}
use Rattle.congee.specs.declared.protocol.op.Op.TheVariants as op
use Rattle.congee.specs.declared.protocol.scan.ScanState.{ScanState as ScanState}
use Rattle.congee.specs.protocol.Play.{Flight, Unbegun, IsScanOf, IsOfRange, range_of, begun, flight}
use Rattle.congee.specs.protocol.Scans.{IsScan}
use Rattle.congee.specs.protocol.ScanSteps.{new_scan}
use Rattle.congee.specs.protocol.ScanKnown.{HasRange}
use Rattle.congee.proofs.lemmas.protocol.ScanBytes.{low_yes, low_no}

-- the places of a scan, by whether its range has a key
all_places : (start last size : ℕ) → start ≤ last → cond (leb start last) size 0 ≡ size
all_places start last size l = ap (λ b. cond b size 0) (le-leb start last l)

no_places : (start last size : ℕ) → last < start → cond (leb start last) size 0 ≡ 0
no_places start last size l = ap (λ b. cond b size 0) (lt-leb start last l)

module _ {V : Type 0} where
  -- one without a place finds nothing, as one does whose range has no key
  none_found : (start end size from to places : ℕ) (states : List (Pairs V)) (found : List (ℕ × V)) → places ≡ 0 → end ≤ start → IsScan from to places states found → IsScan start end size states found
  none_found start end size from to places states [] z l s = record {
    rises = tt;
    few = omega arith;
    within = tt;
    stood = tt;
    complete = λ k lo hi t. absurd (omega (arith, lo, hi, l));
  }
  none_found start end size from to places states (x ∷ found) z l s = absurd (let f = s.few in omega (arith, f, z))

  no_scan : (start end size from to places : ℕ) → places ≡ 0 → end ≤ start → IsScanOf {V = V} start end size (Unbegun from to places)
  no_scan start end size from to places z l = record { from = from; to = to; places = places; unbegun = refl; promises = λ states found s. none_found start end size from to places states found z l s }

  that_scan : (start end size : ℕ) (f : Flight V) → f ≡ Unbegun start end size → IsScanOf start end size f
  that_scan start end size f e = record { from = start; to = end; places = size; unbegun = e; promises = λ states found s. s }

module _ {C V : Type 0} where
  -- a scan's range has a key where there is a place
  pub range_before : (s : ScanState C V) (root : C) (start end size : ℕ) → s ≡ new_scan root start (end - 1) (cond (ltb start end) size 0) → end < 2 ^ 64 → HasRange s
  range_before s root start end size e b = subst (λ x. HasRange x) (sym e) (record {
    bound = omega (arith, b);
    range = λ p. elim (cases_lt start end) [
      | inl l ↦ omega (arith, l)
      | inr ge ↦ (let z : cond (ltb start end) size 0 ≡ 0 = low_no start end size 0 ge in absurd (omega (arith, p, z)))
    ];
  })

  -- a scan that has no place where its start is past its last key has a range
  pub range_through : (s : ScanState C V) (root : C) (start last size : ℕ) → s ≡ new_scan root start last (cond (leb start last) size 0) → last < 2 ^ 64 → HasRange s
  range_through s root start last size e b = subst (λ x. HasRange x) (sym e) (record {
    bound = b;
    range = λ p. elim (cases_lt last start) [
      | inl l ↦ (let z = no_places start last size l in absurd (omega (arith, p, z)))
      | inr le ↦ le
    ];
  })

  -- a call that has not begun is watched as a scan of its range, or as a call on one key
  pub of_range : (root : C) (o : Op V) → IsOfRange (range_of o) (flight (begun root o))
  of_range root (op.Range start end size) = elim (cases_lt start end) [
    | inl l ↦ (let to : suc (end - 1) ≡ end = omega (arith, l) in
        that_scan start end size _ (ap (λ n. Unbegun start n (cond (ltb start end) size 0)) to ∙ ap (λ n. Unbegun start end n) (low_yes start end size 0 l)))
    | inr ge ↦ no_scan start end size start (suc (end - 1)) _ (low_no start end size 0 ge) ge
  ]
  of_range root (op.RangeInclusive start last size) = elim (cases_lt last start) [
    | inl l ↦ no_scan start (suc last) size start (suc last) _ (no_places start last size l) (omega (arith, l))
    | inr le ↦ that_scan start (suc last) size _ (ap (λ n. Unbegun start (suc last) n) (all_places start last size le))
  ]
  of_range root _ = tt
