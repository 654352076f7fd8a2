-- The keys under the bytes of a node.
use Rattle.std.proofs.Common.{◌≡◌, ℕ, ◌<◌, ◌≤◌, ◌+◌, ◌-◌, ◌*◌, ◌/◌, ◌^◌, ◌⊎◌, arith, suc, length, get_or, sym, subst, ◌∙◌, ap, inl, inr}
use Rattle.std.specs.Prelude.{None, min}
use Rattle.std.proofs.Math.Nat.{div-eq_of_lt, div-mul-le_self, lt-div-mul-add, min-eq_left, min-eq_right, min-le_left, mul-le-mul_right}
use Rattle.std.proofs.lemmas.Bool.{cases_lt}
use Rattle.congee.specs.declared.protocol.store.Region.{Region}
use Rattle.congee.specs.Heap.{Node, Nothing, Below, fits, value_at}
use Rattle.congee.specs.Keys.{key_bytes}
use Rattle.congee.specs.Notes.{Note, Tree}
use Rattle.congee.specs.protocol.Regions.{span, IsRegion, start_at}
use Rattle.congee.specs.protocol.ScanKnown.{end_of}
use Rattle.congee.specs.protocol.ScanSteps.{width}
use Rattle.congee.proofs.Laws.{on_test, value_at_linked, value_at_unfit, span_pos, span_step, keys_within, within_keys, byte_low, byte_high, start_at_end, start_mono, region_top}
use Rattle.joint.specs.nodes.Levels.{IsNodeIn}
use Rattle.joint.specs.nodes.Survey.{IsRegionOf, NoneStand}

-- the least key under a byte fits 64 bits
pub start_fits : (x : Region) → IsRegionOf x → (byte w : ℕ) → byte < 256 → w ≡ width x.depth → (byte * w < 2 ^ 64) × (x.base + byte * w < 2 ^ 64)
start_fits x r byte w l e =
    let s : width x.depth ≡ span (x.depth + 1) = ap (λ n. 2 ^ (8 * n)) (omega arith) in
    let q : byte * w ≡ byte * span (x.depth + 1) = ap (λ y. byte * y) (e ∙ s) in
    let m : byte * span (x.depth + 1) ≤ 255 * span (x.depth + 1) = mul-le-mul_right {m = byte} {n = 255} (span (x.depth + 1)) (omega (arith, l)) in
    let t : span x.depth ≡ 256 * span (x.depth + 1) = span_step x.depth (omega (arith, r.1.short)) in
    let top : x.base + span x.depth ≤ 2 ^ 64 = region_top r.0 x.base x.depth r.1 in
    let p : 0 < span (x.depth + 1) = span_pos (x.depth + 1) in
    (omega (arith, e, s, q, m, t, top, p), omega (arith, e, s, q, m, t, top, p))

-- the keys under a byte of a node are as many as its form says
pub width_is : (x : Region) → IsRegionOf x → width x.depth ≡ span (x.depth + 1)
width_is x r = ap (λ n. 2 ^ (8 * n)) (omega arith)

-- so there are some
pub width_pos : (x : Region) → IsRegionOf x → 0 < width x.depth
width_pos x r = let s = width_is x r in let p : 0 < span (x.depth + 1) = span_pos (x.depth + 1) in omega (arith, s, p)

-- no byte up to the one that a key has has its first key above that key
pub first_starts : (x : Region) → IsRegionOf x → (from d w b : ℕ) → d ≡ from - x.base → w ≡ width x.depth → b ≡ min (d / w) 256 → (start_at x.base x.depth b ≤ from) ⊎ (b ≡ 0)
first_starts x r from d w b ed e is =
    let s : w ≡ span (x.depth + 1) = e ∙ width_is x r in
    let p : 0 < w = let q = width_pos x r in omega (arith, q, e) in
    let l : b ≤ d / w = let P : ℕ → Type 0 = λ y. y ≤ d / w in subst P (sym is) (min-le_left (d / w) 256) in
    elim (cases_lt from x.base) [
      | inl lt ↦ inr (
          let z : d < w = omega (arith, ed, lt, p) in
          let o : d / w ≡ 0 = div-eq_of_lt z in
          omega (arith, l, o))
      | inr ge ↦ inl (
          let m : b * w ≤ d / w * w = mul-le-mul_right {m = b} {n = d / w} w l in
          let k : d / w * w ≤ d = div-mul-le_self d w in
          let q : b * span (x.depth + 1) ≡ b * w = ap (λ y. b * y) (sym s) in
          omega (arith, m, k, q, ge, ed))
    ]

-- the byte after the one that a key has has its first key above that key, if there is such a byte
pub last_ends : (x : Region) → IsRegionOf x → (last d w b : ℕ) → d ≡ last - x.base → w ≡ width x.depth → x.base ≤ last → b ≡ min (d / w) 255 → (suc last ≤ start_at x.base x.depth (b + 1)) ⊎ (b + 1 ≡ 256)
last_ends x r last d w b ed e ge is =
    let s : w ≡ span (x.depth + 1) = e ∙ width_is x r in
    let p : 0 < w = let q = width_pos x r in omega (arith, q, e) in
    elim (cases_lt (d / w) 256) [
      | inl lt ↦ inl (
          let c : b ≡ d / w = is ∙ min-eq_left (omega (arith, lt)) in
          let k : d < d / w * w + w = lt-div-mul-add p in
          let q : b * w ≡ d / w * w = ap (λ y. y * w) c in
          let t : b * span (x.depth + 1) + span (x.depth + 1) ≡ b * w + w = ap (λ y. b * y + y) (sym s) in
          let u : (b + 1) * span (x.depth + 1) ≡ b * span (x.depth + 1) + span (x.depth + 1) = omega arith in
          omega (arith, k, q, t, u, ge, ed))
      | inr l ↦ inr (let c : b ≡ 255 = is ∙ min-eq_right (omega (arith, l)) in omega (arith, c))
    ]

module _ {V : Type 0} (h : ℕ → Node V) (n : ℕ) (i : IsNodeIn h n) (x : Region) (r : IsRegion (h n).prefix x.base x.depth) where
  abbrev a : ℕ → Note
  a = i.tree.notes

  abbrev t : Tree a h
  t = i.tree.tree

  abbrev at : ℕ → ℕ
  at b = start_at x.base x.depth b

  -- the keys before a byte's first are in the node's range, if its first is
  pub within : (b k : ℕ) → b ≤ 256 → k < at b → (k < 2 ^ 64) × (k < x.base + span x.depth)
  within b k small hi =
      let up = start_mono (h n).prefix x.base x.depth r b 256 small in
      let e = start_at_end (h n).prefix x.base x.depth r in
      let top = region_top (h n).prefix x.base x.depth r in
      (omega (arith, hi, up, e, top), omega (arith, hi, up, e))

  -- no key stands under bytes at which nothing hangs
  pub none_bytes : (from b : ℕ) → b ≤ 256 → ((q : ℕ) → from ≤ q → q < b → (h n).children q ≡ Nothing) → NoneStand h (at from) (at b)
  none_bytes from b small none k lo hi =
      let w = within b k small hi in
      let f = within_keys (h n).prefix x.base x.depth r k w.0 (omega (arith, lo)) w.1 in
      value_at_linked a h t n (key_bytes k) Nothing i.linked f (none _ (byte_low (h n).prefix x.base x.depth r k from w.0 f lo) (byte_high (h n).prefix x.base x.depth r k b w.0 f hi))

  -- no key stands under a byte beside those that begin with the prefix of the node there
  pub none_beside : (b c : ℕ) (z : Region) → b < 256 → (h n).children b ≡ Below c → IsRegion (h c).prefix z.base z.depth
      → (k : ℕ) → at b ≤ k → k < at (b + 1) → (k < z.base) ⊎ (end_of z ≤ k) → value_at h (key_bytes k) ≡ None
  none_beside b c z small e rz k lo hi ne =
      let w = within (b + 1) k (omega (arith, small)) hi in
      let f = within_keys (h n).prefix x.base x.depth r k w.0 (omega (arith, lo)) w.1 in
      let bl = byte_low (h n).prefix x.base x.depth r k b w.0 f lo in
      let bh = byte_high (h n).prefix x.base x.depth r k (b + 1) w.0 f hi in
      let is : get_or (key_bytes k) (length (h n).prefix) 0 ≡ b = omega (arith, bl, bh) in
      value_at_unfit a h t n c (key_bytes k) i.linked f (ap (λ q. (h n).children q) is ∙ e) (on_test (fits (h c).prefix (key_bytes k)) (λ y. absurd (
      let u = keys_within (h c).prefix z.base z.depth rz k w.0 y in
      elim ne [ inl p ↦ omega (arith, p, u.0) | inr p ↦ omega (arith, p, u.1) ])) (λ y. y))
