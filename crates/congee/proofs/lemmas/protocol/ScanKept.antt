-- A scan's step keeps what the scan knows, settles more keys, and at its end tells what the scan promises.
use Rattle.std.proofs.Common.{◌≡◌, ℕ, ◌<◌, ◌≤◌, ◌+◌, ◌*◌, ◌-◌, ◌^◌, ◌⊎◌, inl, inr, true, false, List, ◌∷◌, length, get_or, sym, ap, ◌∙◌, subst, arith}
use Rattle.std.specs.Prelude.{Some}
use Rattle.std.specs.Ordering.{nat_cmp}
use Rattle.std.specs.FinMap.{FinMap, get}
use Rattle.congee.specs.declared.protocol.store.Region.{Region}
use Rattle.congee.specs.Heap.{Node, Nothing, Below, Holds, fits, child_for}
use Rattle.congee.specs.Keys.{key_bytes, IsMapOf}
use Rattle.congee.specs.Notes.{Note, Linked, IsChild, Tree}
use Rattle.congee.specs.protocol.Regions.{span, IsRegion, start_at}
use Rattle.congee.specs.protocol.Scans.{Lacked}
use Rattle.congee.specs.protocol.ScanSteps.{last_byte}
use Rattle.congee.specs.protocol.ScanKnown.{end_of}
use Rattle.congee.proofs.lemmas.Fits.{fits_trans, fits_byte}
use Rattle.congee.proofs.lemmas.Graft.{on_test}
use Rattle.congee.proofs.lemmas.Orders.{byte_small}
use Rattle.congee.proofs.lemmas.Tree.{value_at_linked, value_at_unfit}
use Rattle.congee.proofs.lemmas.protocol.Regions.{span_pos, keys_within, within_keys, byte_within, byte_low, byte_high, start_at_end as all_bytes, start_mono}
use Rattle.congee.proofs.lemmas.protocol.ScanBytes.{region_top, last_covers}

-- the node under a byte of a linked node: its keys are some of the byte's
module _ {V : Type 0} (a : ℕ → Note) (h : ℕ → Node V) (t : Tree a h) (n base depth : ℕ) (l : (a n).status ≡ Linked) (r : IsRegion (h n).prefix base depth)
    (b c : ℕ) (x : Region) (e : (h n).children b ≡ Below c) (rx : IsRegion (h c).prefix x.base x.depth) where
  child : IsChild a h n b c
  child = t.down n b c l e

  under_byte : (k : ℕ) → k < 2 ^ 64 → fits (h c).prefix (key_bytes k) ≡ true → (start_at base depth b ≤ k) × (k < start_at base depth (b + 1))
  under_byte k s f =
      let g = fits_trans (h n).prefix (h c).prefix (key_bytes k) child.fitted f in
      let is : get_or (key_bytes k) (length (h n).prefix) 0 ≡ b = fits_byte (h c).prefix (key_bytes k) (length (h n).prefix) f child.longer ∙ child.byte in
      let w = byte_within (h n).prefix base depth r k s g in
      subst (λ q. (start_at base depth q ≤ k) × (k < start_at base depth (q + 1))) is w

  -- the child is deeper than the node above
  pub child_deeper : depth < x.depth
  child_deeper = let i = child.longer in omega (arith, i, r.depth_is, rx.depth_is)

  -- the child's keys begin no earlier than the byte's
  pub child_after : start_at base depth b ≤ x.base
  child_after = (under_byte x.base rx.small rx.fitted).0

  -- the child's keys end no later than the byte's
  pub child_before : end_of x ≤ start_at base depth (b + 1)
  child_before =
      let top = region_top (h c).prefix x.base x.depth rx in
      let pos = span_pos x.depth in
      let s : x.base + span x.depth - 1 < 2 ^ 64 = omega (arith, top, pos) in
      let f = within_keys (h c).prefix x.base x.depth rx (x.base + span x.depth - 1) s (omega (arith, pos)) (omega (arith, pos)) in
      let u = under_byte (x.base + span x.depth - 1) s f in
      omega (arith, u.1, pos)

-- the keys that a linked node settles now
module _ {V : Type 0} (a : ℕ → Note) (h : ℕ → Node V) (t : Tree a h) (m : FinMap nat_cmp V) (st : IsMapOf h m) (states : List (FinMap nat_cmp V))
    (n base depth : ℕ) (l : (a n).status ≡ Linked) (r : IsRegion (h n).prefix base depth) where
  -- nothing hangs at the key's byte
  lacks_free : (k : ℕ) → k < 2 ^ 64 → fits (h n).prefix (key_bytes k) ≡ true → (h n).children (get_or (key_bytes k) (length (h n).prefix) 0) ≡ Nothing → Lacked (m ∷ states) k
  lacks_free k s f e = inl (st.at k s ∙ value_at_linked a h t n (key_bytes k) Nothing l f e)

  -- a node hangs there whose prefix the key lacks
  lacks_below : (k c : ℕ) → k < 2 ^ 64 → fits (h n).prefix (key_bytes k) ≡ true → (h n).children (get_or (key_bytes k) (length (h n).prefix) 0) ≡ Below c → fits (h c).prefix (key_bytes k) ≡ false → Lacked (m ∷ states) k
  lacks_below k c s f e g = inl (st.at k s ∙ value_at_unfit a h t n c (key_bytes k) l f e g)

  -- from one byte to before another one nothing hangs
  pub lacks_bytes : (from to k : ℕ) → k < 2 ^ 64 → base ≤ k → k < base + span depth → start_at base depth from ≤ k → k < start_at base depth to
      → ((q : ℕ) → from ≤ q → q < to → (h n).children q ≡ Nothing) → Lacked (m ∷ states) k
  lacks_bytes from to k s lo hi past before none =
      let f = within_keys (h n).prefix base depth r k s lo hi in
      lacks_free k s f (none _ (byte_low (h n).prefix base depth r k from s f past) (byte_high (h n).prefix base depth r k to s f before))

  -- no byte of the range from there on has a child
  pub lacks_rest : (x : Region) → x.base ≡ base → x.depth ≡ depth → (from last k : ℕ) → k < 2 ^ 64 → base ≤ k → k < base + span depth → k ≤ last → start_at base depth from ≤ k
      → ((q : ℕ) → from ≤ q → q ≤ last_byte last x → (h n).children q ≡ Nothing) → Lacked (m ∷ states) k
  lacks_rest x eb ed from last k s lo hi less past none =
      let f = within_keys (h n).prefix base depth r k s lo hi in
      let w = byte_within (h n).prefix base depth r k s f in
      let small : get_or (key_bytes k) (length (h n).prefix) 0 < 256 = byte_small k (length (h n).prefix) (omega (arith, r.depth_is, r.short)) in
      let P : ℕ → ℕ → Type 0 = λ u v. start_at u v (get_or (key_bytes k) (length (h n).prefix) 0) ≤ k in
      let at : start_at x.base x.depth (get_or (key_bytes k) (length (h n).prefix) 0) ≤ k = subst (λ u. P u x.depth) (sym eb) (subst (λ v. P base v) (sym ed) w.0) in
      lacks_free k s f (none _ (byte_low (h n).prefix base depth r k from s f past) (last_covers x last k _ (omega (arith, eb, lo)) less small at))

  -- the value under a byte of a leaf
  pub has_value : (b : ℕ) (v : V) → b < 256 → (h n).children b ≡ Holds v → (depth ≡ 7) × (base + b < 2 ^ 64) × (get m (base + b) ≡ Some v)
  has_value b v small e =
      let seven : depth ≡ 7 = r.depth_is ∙ t.leaves n b v l e in
      let one : span (depth + 1) ≡ 1 = ap (λ d. span (d + 1)) seven in
      let part : start_at base depth b ≡ base + b = ap (λ w. base + b * w) one ∙ omega arith in
      let next : start_at base depth (b + 1) ≡ base + b + 1 = ap (λ w. base + (b + 1) * w) one ∙ omega arith in
      let all : span depth ≡ 256 = ap span seven in
      let top = region_top (h n).prefix base depth r in
      let s : base + b < 2 ^ 64 = omega (arith, top, all, small) in
      let f = within_keys (h n).prefix base depth r (base + b) s (omega arith) (omega (arith, all, small)) in
      let lo = byte_low (h n).prefix base depth r (base + b) b s f (omega (arith, part)) in
      let hi = byte_high (h n).prefix base depth r (base + b) (b + 1) s f (omega (arith, next)) in
      let is : get_or (key_bytes (base + b)) (length (h n).prefix) 0 ≡ b = omega (arith, lo, hi) in
      let c : child_for (h n) (key_bytes (base + b)) ≡ Holds v = ap (λ q. (h n).children q) is ∙ e in
      (seven, s, st.at (base + b) s ∙ value_at_linked a h t n (key_bytes (base + b)) (Holds v) l f c)

  -- the other keys of a byte under which a node hangs are lacking
  pub lacks_beside : (b c : ℕ) (x : Region) → b < 256 → (h n).children b ≡ Below c → IsRegion (h c).prefix x.base x.depth → (k : ℕ) → k < 2 ^ 64 → start_at base depth b ≤ k → k < start_at base depth (b + 1) → (k < x.base) ⊎ (end_of x ≤ k) → Lacked (m ∷ states) k
  lacks_beside b c x small e rx k s lo hi ne =
      let w = all_bytes (h n).prefix base depth r in
      let up = start_mono (h n).prefix base depth r (b + 1) 256 (omega (arith, small)) in
      let f = within_keys (h n).prefix base depth r k s (omega (arith, lo)) (omega (arith, hi, w, up)) in
      let bl = byte_low (h n).prefix base depth r k b s f lo in
      let bh = byte_high (h n).prefix base depth r k (b + 1) s f hi in
      let is : get_or (key_bytes k) (length (h n).prefix) 0 ≡ b = omega (arith, bl, bh) in
      lacks_below k c s f (ap (λ q. (h n).children q) is ∙ e) (on_test (fits (h c).prefix (key_bytes k)) (λ y. absurd (
      let z = keys_within (h c).prefix x.base x.depth rx k s y in
      elim ne [ inl p ↦ omega (arith, p, z.0) | inr p ↦ omega (arith, p, z.1) ])) (λ y. y))
