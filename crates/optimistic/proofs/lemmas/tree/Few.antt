-- What a node of few children tells.
use Rattle.std.proofs.Common.{◌≡◌, ◌⊎◌, ℕ, ◌+◌, ◌-◌, ◌*◌, ◌^◌, ◌<◌, ◌≤◌, List, ◌++◌, length, take, Option, None, arith, ap, sym, ◌∙◌, refl, subst, inl, inr, le_refl, pow_pos}
use mathlib.Core.List.{append-nil}
use Rattle.std.proofs.Math.Seq.{take-append-add}
use Rattle.std.proofs.lemmas.List.{take-take, length-take-le}
use borrow.Rule.Slice.PartMut.{put_mid}
use Rattle.std.proofs.lemmas.Slice.{take-put_mid}
use Rattle.std.proofs.lemmas.Bool.{cases_eq}
use Rattle.optimistic.specs.Layout.{prefix_of, byte_at}
use Rattle.optimistic.specs.declared.drain.nexts.Pair.{Pair}
use Rattle.optimistic.specs.declared.tree.place.Place.{Place}
use Rattle.optimistic.specs.declared.tree.run.Bit.TheVariants.{Told}
use Rattle.optimistic.specs.declared.words.rule.View.{View}
use Rattle.optimistic.specs.words.Kept.{Since}
use Rattle.optimistic.specs.tree.Nexts.{IsNear}
use Rattle.optimistic.specs.tree.Runs.{ShowsBit, ShowsRun}
use Rattle.optimistic.specs.tree.Sights.{Lacks}
use Rattle.optimistic.proofs.lemmas.drain.Keys.{reaches, starts}
use Rattle.optimistic.proofs.lemmas.drain.Lists.{drained_append}
use Rattle.optimistic.proofs.lemmas.tree.Reading.{agrees_to}
use Rattle.optimistic.proofs.lemmas.tree.Runs.{bit_gap, bit_behind, run_more}
use Rattle.optimistic.proofs.lemmas.words.Moments.{since_refl}

-- the last of a unit of keys
pub one_more : (x p : ℕ) → 0 < p → x * p + (p - 1) + 1 ≡ (x + 1) * p
one_more x p l = omega arith

-- what was written behind what stood
pub take_behind : (a n k : ℕ) (xs ys : List Pair) → a ≤ length xs → n ≤ length ys → take (a + n) (put_mid a k xs ys) ≡ take a xs ++ take n ys
take_behind a n k xs ys low few =
    let e : length (take a xs) ≡ a = length-take-le a xs low in
    sym (take-take (a + n) (a + length ys) (put_mid a k xs ys) (omega (arith, few))) ∙ ap (λ (l : List Pair). take (a + n) l) (take-put_mid a k xs ys (a + length ys) refl low) ∙ ap (λ (z : ℕ). take (z + n) (take a xs ++ ys)) (sym e)
    ∙ take-append-add (take a xs) ys n

-- a run that another one goes on
pub run_append : (at : Place) (start from next : ℕ) (ps qs : List Pair) (v u w : View) → ShowsRun at start from ps v u → Since u.seen w.seen → ShowsRun at from next qs v w → IsNear at.level start from → start ≤ from → from ≤ next → ShowsRun at start next (ps ++ qs) v w
run_append at start from next ps qs v u w run since more near order up f ag is log makes =
    drained_append log start from next ps qs order up (run f (agrees_to at.node at.form v u w f ag since) is log makes) (more f ag is log (λ k n. makes k (n ∙ near)))

-- the child at the next byte that is taken, and none before it
pub bit_few : (at : Place) (from low byte first end : ℕ) (pair : Option Pair) (v x : View) → at.level < 8 → low ≡ byte_at from at.level → byte < 256 → low ≤ byte → (low ≡ byte → first ≡ from) → IsNear at.level from first
    → (low ≡ byte) ⊎ (first ≡ (prefix_of from at.level * 256 + byte) * 2 ^ (56 - 8 * at.level)) → Lacks at.node at.form low byte v x → first ≤ end → ShowsBit at first (Told pair end) v x → ShowsBit at from (Told pair end) v x
bit_few at from low byte first end pair v x deep is small order same near which lacks reach some = elim which [
  | inl e ↦ subst (λ (z : ℕ). ShowsBit at z (Told pair end) v x) (same e) some
  | inr f ↦ elim (cases_eq low byte) [
    | inl e ↦ subst (λ (z : ℕ). ShowsBit at z (Told pair end) v x) (same e) some
    | inr apart ↦
        let p : ℕ = 2 ^ (56 - 8 * at.level) in
        let q : ℕ = prefix_of from at.level * 256 + (byte - 1) in
        let next : q + 1 ≡ prefix_of from at.level * 256 + byte = omega (arith, order, apart) in
        let gap : q * p + (p - 1) + 1 ≡ (q + 1) * p = one_more q p (pow_pos (56 - 8 * at.level)) in
        let up : byte_at from at.level ≤ byte - 1 = omega (arith, order, apart, is) in
        bit_behind at from v x deep first (q * p + (p - 1)) pair end
        (bit_gap at from v x deep byte (q * p + (p - 1)) (byte - 1) (subst (λ (z : ℕ). Lacks at.node at.form z byte v x) is lacks) up (omega (arith, small)) (omega (arith, order, apart)) gap)
        some (gap ∙ ap (λ (z : ℕ). z * p) next ∙ sym f) near (reaches from at.level (byte - 1) (q * p + (p - 1)) deep gap up) reach
  ]
]

-- no byte from one on is taken
pub run_end : (at : Place) (start from low stop : ℕ) (ps : List Pair) (v w : View) → at.level < 8 → low ≡ byte_at from at.level → Lacks at.node at.form low 256 v w → ShowsRun at start from ps v w → IsNear at.level start from → IsNear at.level start stop → start ≤ from → from ≤ stop → ShowsRun at start (stop + 1) ps v w
run_end at start from low stop ps v w deep is lacks run near close order up =
    let p : ℕ = 2 ^ (56 - 8 * at.level) in
    let q : ℕ = prefix_of from at.level * 256 + 255 in
    let gap : q * p + (p - 1) + 1 ≡ (q + 1) * p = one_more q p (pow_pos (56 - 8 * at.level)) in
    let same : prefix_of stop at.level ≡ prefix_of from at.level = close ∙ sym near in
    let high : stop ≤ q * p + (p - 1) = reaches stop at.level 255 (q * p + (p - 1)) deep (gap ∙ ap (λ (z : ℕ). (z * 256 + 255 + 1) * p) (sym same)) (omega arith) in
    subst (λ (l : List Pair). ShowsRun at start (stop + 1) l v w) (append-nil ps)
    (run_more at start from ps v w w run (since_refl w.seen) near order stop (q * p + (p - 1)) stop None
    (bit_gap at from v w deep 256 (q * p + (p - 1)) 255 (subst (λ (z : ℕ). Lacks at.node at.form z 256 v w) is lacks) (omega arith) (omega arith) (omega arith) gap) up high (le_refl stop) (inl refl))

-- behind the last key with a byte comes the first with the next one
pub byte_behind : (at : Place) (start from stop byte end : ℕ) → at.level < 8 → byte < 256 → IsNear at.level start from → IsNear at.level start stop → end + 1 ≡ (prefix_of from at.level * 256 + byte + 1) * 2 ^ (56 - 8 * at.level) → end < stop
    → (byte + 1 < 256) × (IsNear at.level start (end + 1)) × (byte_at (end + 1) at.level ≡ byte + 1)
byte_behind at start from stop byte end deep small near close is short =
    let low : byte + 1 < 256 = elim (cases_eq byte 255) [
      | inl e ↦
          let high : stop ≤ end = reaches stop at.level 255 end deep (is ∙ (λ i. ((near ∙ sym close) i * 256 + e i + 1) * 2 ^ (56 - 8 * at.level))) (omega arith) in
          absurd (omega (arith, high, short))
      | inr n ↦ omega (arith, small, n)
    ] in
    let shape : prefix_of from at.level * 256 + byte + 1 ≡ prefix_of from at.level * 256 + (byte + 1) = omega arith in
    let s = starts from at.level (byte + 1) (end + 1) deep low (is ∙ ap (λ (z : ℕ). z * 2 ^ (56 - 8 * at.level)) shape) in
    (low, s.0 ∙ near, s.1)
