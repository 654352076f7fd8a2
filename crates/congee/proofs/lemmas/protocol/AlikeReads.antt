-- What reads of a node on a store find, and of the same node by its number.
use Rattle.std.proofs.Common.{◌≡◌, ◌≢◌, ℕ, zero, suc, ◌+◌, ◌*◌, ◌-◌, ◌%◌, ◌^◌, ◌<◌, ◌≤◌, ◌==◌, Bool, true, false, cond, List, [], ◌∷◌, length, get_or, refl, sym, ◌∙◌, ap, subst, inl, inr, arith}
use Rattle.std.specs.Prelude.{Option, None, Some, slice_get, slice_index}
use Rattle.congee.specs.declared.forms.base_node.NodeType.{NodeType}
use Rattle.congee.specs.declared.forms.base_node.NodeType.TheVariants.{N4}
use Rattle.congee.specs.declared.forms.child.Child.{Child}
use Rattle.congee.specs.declared.forms.child.Child.TheVariants as child
use Rattle.congee.specs.declared.protocol.store.Least.{Least}
use Rattle.congee.specs.declared.protocol.store.Least.TheVariants as least
use Rattle.congee.specs.declared.protocol.store.Reading.{Reading}
use Rattle.congee.specs.declared.protocol.store.Reading.TheVariants.{Differs, Fits, Uncopied}
use Rattle.congee.specs.declared.protocol.store.Region.{Region}
use Rattle.congee.specs.declared.protocol.store.Stamp.{Stamp}
use Rattle.congee.specs.declared.protocol.store.Seen.{Seen}
use Rattle.congee.specs.declared.protocol.phase.Above.{Above as Over}
use Rattle.congee.specs.declared.protocol.phase.Site.{Site}
use Rattle.congee.specs.declared.protocol.phase.Phase.TheVariants.{Check, CheckUncopied, CheckMiss}
use Rattle.congee.specs.Heap.{Node, Hung, Nothing, Below, Holds, fits, child_for, is_taken, version_of}
use Rattle.congee.specs.Keys.{key_bytes}
use Rattle.congee.specs.protocol.Alike.{HungAlike, NodeAlike, Named, StampAlike, AboveAlike, ChildAlike, SeesAlike, LeastAlike, NextPhaseAlike}
use Rattle.congee.specs.protocol.Events.{hung, places, Parts, SeenTruly, ReadGives}
use Rattle.congee.specs.protocol.PlainSteps.{Mark, form_of, common, child_of, looks, told_of, reading, least_or, least_from, least_told, least_of, front, region_of}
use Rattle.congee.specs.protocol.Regions.{span, IsRegion}
use Rattle.congee.specs.protocol.Steps.{quiet, again, after_read}
use Rattle.congee.specs.protocol.ScanEvents.{LeastTruly, LeastGives}
use Rattle.congee.proofs.lemmas.Fits.{fits_byte, same_test, other_test}
use Rattle.congee.proofs.lemmas.Orders.{first_bytes, top_step}
use Rattle.congee.proofs.lemmas.Tree.{same_or_not}
use Rattle.congee.proofs.lemmas.protocol.Regions.{multiple}
use Rattle.congee.proofs.lemmas.protocol.AlikeNextPhases.{quiet_alike, again_alike, alike_to}
use Rattle.congee.proofs.lemmas.protocol.Parting.{parts_differ}

-- lock words
pub taken_alike : {V : Type 0} (order : List ℕ) (x y : Node V) (v w : ℕ) → NodeAlike order x y → w ≡ v → is_taken y w ≡ is_taken x v
taken_alike order x y v w e f = rw (e.version, e.locked, e.obsolete, f) refl

-- nodes that are alike on both sides tell the same version
pub version_same : {V : Type 0} (order : List ℕ) (x y : Node V) → NodeAlike order x y → version_of y ≡ version_of x
version_same order x y e = rw (e.version, e.locked, e.obsolete) refl

common_is : (p key : List ℕ) (c : ℕ) → c < length p → c < length key → ((i : ℕ) → i < c → get_or p i 0 ≡ get_or key i 0) → get_or p c 0 ≢ get_or key c 0 → common p key ≡ c
common_is [] key c l k a d = absurd (omega (arith, l))
common_is (x ∷ p) [] c l k a d = absurd (omega (arith, k))
common_is (x ∷ p) (y ∷ key) zero l k a d = ap (λ b. cond b (suc (common p key)) 0) (other_test x y d)
common_is (x ∷ p) (y ∷ key) (suc c) l k a d =
    ap (λ b. cond b (suc (common p key)) 0) (same_test x y (a 0 (omega arith))) ∙ ap suc (common_is p key c (omega (arith, l)) (omega (arith, k)) (λ i q. a (suc i) (omega (arith, q))) d)

parts_common : (p key : List ℕ) (c : ℕ) → length key ≡ 8 → Parts p key c → common p key ≡ c
parts_common p key c len x = common_is p key c x.short (let s : c < 7 = x.seventh in omega (arith, s, len)) x.alike x.apart

-- the form of a node with the places of a form
form_back : (f : NodeType) → form_of (places f) ≡ f
form_back N4 = refl
form_back _ = refl

told_byte : {V : Type 0} (byte : ℕ) (seen : Option (Seen Mark V)) → (told_of byte seen).byte ≡ byte
told_byte byte None = refl
told_byte byte (Some x) = refl

module _ {C V : Type 0} (order : List ℕ) (number : C → ℕ) where
  child_alike : (c : Child C V) (a b : Hung V) → hung number c ≡ a → HungAlike order a b → ChildAlike order number c (child_of b)
  child_alike child.Blank a b e x = let P : Hung V → Type 0 = λ z. HungAlike order z b in ap child_of (subst P (sym e) x)
  child_alike (child.Node c) a b e x = let P : Hung V → Type 0 = λ z. HungAlike order z b in let y : (n : ℕ) × (b ≡ Below n) × (slice_get order n ≡ Some (number c)) = subst P (sym e) x in (y.0, ap child_of y.1, y.2)
  child_alike (child.Value v) a b e x = let P : Hung V → Type 0 = λ z. HungAlike order z b in ap child_of (subst P (sym e) x)

  -- what a read finds
  module _ (h g : ℕ → Node V) (root : C) (m : ℕ) (r : Named order number root m) (key : List ℕ) (len : length key ≡ 8) (always : Bool) (above : Option (Over C)) (o : Option (Over ℕ)) (ab : AboveAlike order number above o)
      (at : Stamp C) (a : Stamp ℕ) (st : StampAlike order number at a) (e : NodeAlike order (h (number at.node)) (g a.node)) (seen : Option (Seen Mark V)) where
    abbrev x : Node V
    x = h (number at.node)

    abbrev y : Node V
    y = g a.node

    abbrev finds : Bool → Seen ℕ V
    finds b = cond b (looks y key) (told_of (slice_index key (length y.prefix)) seen)

    abbrev fork : Reading ℕ V
    fork = Differs (common y.prefix key) (slice_index y.prefix (common y.prefix key))

    abbrev reads : Bool → Bool → Reading ℕ V
    reads f b = cond f (Fits (length y.prefix) (form_of y.capacity) (finds b)) (Differs (common y.prefix key) (slice_index y.prefix (common y.prefix key)))

    same_byte : (b : Bool) → (finds b).byte ≡ slice_index key (length y.prefix)
    same_byte true = refl
    same_byte false = told_byte (slice_index key (length y.prefix)) seen

    sees : (depth : ℕ) (form : NodeType) (s : Seen C V) (u : Site ℕ) (d : Child ℕ V) → u.count ≡ (finds (is_taken y a.version)).count → u.full ≡ (finds (is_taken y a.version)).full → d ≡ (finds (is_taken y a.version)).child
        → is_taken x at.version ≡ true → SeenTruly number x key s → SeesAlike order number (record { above = above; at = at; depth = depth; byte = s.byte; count = s.count; full = s.full; form = form }) s.child u d
    sees depth form s u d ec ef ed t k =
        let ty : is_taken y a.version ≡ true = taken_alike order x y at.version a.version e st.version ∙ t in
        let P : Child ℕ V → Type 0 = λ z. ChildAlike order number s.child z in
        let Q : ℕ → Type 0 = λ z. HungAlike order (x.children (slice_index key z)) (y.children (slice_index key (length y.prefix))) in
        let same : HungAlike order (child_for x key) (child_for y key) = subst Q (ap length e.prefix) (e.children (slice_index key (length y.prefix))) in
        record {
          hangs = subst P (sym (ed ∙ ap (λ b. (finds b).child) ty)) (child_alike s.child (child_for x key) (child_for y key) k.child same);
          count = ec ∙ ap (λ b. (finds b).count) ty ∙ e.count ∙ sym k.count;
          full = λ z. ef ∙ ap (λ b. (finds b).full) ty ∙ ap (λ c. c == y.capacity) e.count ∙ ap (λ c. x.count == c) e.capacity ∙ sym (k.full (ap (hung number) z));
        }

    differs : (up : Option (Over C)) (q : Option (Over ℕ)) → AboveAlike order number up q → (c b : ℕ) → c ≡ common y.prefix key → b ≡ slice_index y.prefix (common y.prefix key)
        → NextPhaseAlike order number h (after_read root up at (Differs c b)) (after_read m q a fork)
    differs None q z c b ec eb = alike_to order number h _ (again m) _ (ap (λ w. after_read m w a fork) z) (again_alike order number h root m r)
    differs (Some p) q z c b ec eb =
        alike_to order number h _ (quiet (CheckMiss z.0.near a c b)) _
        (ap (λ w. after_read m w a fork) z.1 ∙ ap (λ w. quiet (CheckMiss z.0.near a w (slice_index y.prefix (common y.prefix key)))) (sym ec) ∙ ap (λ w. quiet (CheckMiss z.0.near a c w)) (sym eb))
        (quiet_alike order number h (CheckMiss p.near at c b) (CheckMiss z.0.near a c b) (z.0.near, a, refl, z.2.near, st))

    abbrev site_of : ℕ → Seen ℕ V → Site ℕ
    site_of depth s = record { above = o; at = a; depth = depth; byte = s.byte; count = s.count; full = s.full; form = form_of y.capacity }

    -- after a read of the same node both sides go on alike
    pub read_alike : (w : Reading C V) → ReadGives number always x at.version key w → NextPhaseAlike order number h (after_read root above at w) (after_read m o a (reading y a.version key seen))
    read_alike (Differs c b) k =
        let no : fits y.prefix key ≡ false = ap (λ z. fits z key) e.prefix ∙ parts_differ x.prefix key c k.0 in
        let here : common y.prefix key ≡ c = ap (λ z. common z key) e.prefix ∙ parts_common x.prefix key c len k.0 in
        alike_to order number h _ (after_read m o a (reads false (is_taken y a.version))) _ (ap (λ f. after_read m o a (reads f (is_taken y a.version))) no)
        (differs above o ab c b (sym here) (k.1 ∙ ap (λ z. slice_index x.prefix z) (sym here) ∙ ap (λ z. slice_index z (common y.prefix key)) (sym e.prefix)))
    read_alike (Fits depth form s) k =
        let yes : fits y.prefix key ≡ true = ap (λ z. fits z key) e.prefix ∙ k.0 in
        let b : Bool = is_taken y a.version in
        alike_to order number h _ (after_read m o a (reads true (is_taken y a.version))) _ (ap (λ f. after_read m o a (reads f (is_taken y a.version))) yes)
        (quiet_alike order number h (Check (record { above = above; at = at; depth = depth; byte = s.byte; count = s.count; full = s.full; form = form }) s.child) (Check (site_of (length y.prefix) (finds (is_taken y a.version))) (finds (is_taken y a.version)).child) (
          site_of (length y.prefix) (finds (is_taken y a.version)),
          (finds (is_taken y a.version)).child,
          refl,
          record {
            above = ab;
            at = st;
            depth = ap length e.prefix ∙ sym k.1;
            byte = same_byte (is_taken y a.version) ∙ ap (λ z. slice_index key (length z)) e.prefix ∙ ap (λ z. slice_index key z) (sym k.1) ∙ sym k.4;
            form = ap form_of (e.capacity ∙ sym k.3) ∙ form_back form;
          },
          λ t. sees depth form s (site_of (length y.prefix) (finds (is_taken y a.version))) (finds (is_taken y a.version)).child refl refl refl t (k.5 t),
        ))
    read_alike Uncopied k =
        let yes : fits y.prefix key ≡ true = ap (λ z. fits z key) e.prefix ∙ k.0 in
        alike_to order number h _ (after_read m o a (reads true (is_taken y a.version))) _ (ap (λ f. after_read m o a (reads f (is_taken y a.version))) yes)
        (quiet_alike order number h (CheckUncopied at) (Check (site_of (length y.prefix) (finds (is_taken y a.version))) (finds (is_taken y a.version)).child)
        (site_of (length y.prefix) (finds (is_taken y a.version)), (finds (is_taken y a.version)).child, refl, st))

  -- the least child
  module _ (x y : Node V) (e : (b : ℕ) → HungAlike order (x.children b) (y.children b)) where
    bare : (b : ℕ) → x.children b ≡ Nothing → y.children b ≡ Nothing
    bare b f = let P : Hung V → Type 0 = λ z. HungAlike order z (y.children b) in subst P f (e b)

    none_from : (f from : ℕ) → ((q : ℕ) → from ≤ q → q < from + f → x.children q ≡ Nothing) → least_from y f from ≡ least.Nothing
    none_from zero from n = refl
    none_from (suc f) from n =
        ap (λ z. least_or from z (least_from y f (from + 1))) (bare from (n from (omega arith) (omega arith))) ∙ none_from f (from + 1) (λ q l k. n q (omega (arith, l)) (omega (arith, k)))

    found_from : (f from byte : ℕ) (r : Least ℕ V) → from ≤ byte → byte < from + f → ((q : ℕ) → from ≤ q → q < byte → x.children q ≡ Nothing) → ((rest : Least ℕ V) → least_or byte (y.children byte) rest ≡ r) → least_from y f from ≡ r
    found_from zero from byte r l k n z = absurd (omega (arith, l, k))
    found_from (suc f) from byte r l k n z = elim (same_or_not byte from) [
      | inl s ↦ (let P : ℕ → Type 0 = λ w. least_or w (y.children w) (least_from y f (from + 1)) ≡ r in subst P s (z (least_from y f (from + 1))))
      | inr ne ↦ (
          let more : from < byte = omega (arith, l, ne) in
          ap (λ w. least_or from w (least_from y f (from + 1))) (bare from (n from (omega arith) more)) ∙ found_from f (from + 1) byte r (omega (arith, more)) (omega (arith, k)) (λ q a b. n q (omega (arith, a)) b) z)
    ]

    fuel : (byte from last : ℕ) → from ≤ byte → byte ≤ last → byte < from + (last + 1 - from)
    fuel byte from last a b = omega (arith, a, b)

    within : (q from last : ℕ) → from ≤ q → q < from + (last + 1 - from) → q ≤ last
    within q from last a b = omega (arith, a, b)

    least_found : (from last : ℕ) (r : Least C V) → LeastTruly number x from last r → LeastAlike order number r (least_from y (last + 1 - from) from)
    least_found from last least.Nothing t = none_from (last + 1 - from) from (λ q a b. t q a (within q from last a b))
    least_found from last (least.Node byte c) t =
        let P : Hung V → Type 0 = λ z. HungAlike order z (y.children byte) in
        let w : (n : ℕ) × (y.children byte ≡ Below n) × (slice_get order n ≡ Some (number c)) = subst P t.here (e byte) in
        (w.0, found_from (last + 1 - from) from byte (least.Node byte w.0) t.past (fuel byte from last t.past t.within) t.before (λ rest. ap (λ z. least_or byte z rest) w.1), w.2)
    least_found from last (least.Value byte v) t =
        let P : Hung V → Type 0 = λ z. HungAlike order z (y.children byte) in
        let w : y.children byte ≡ Holds v = subst P t.here (e byte) in
        found_from (last + 1 - from) from byte (least.Value byte v) t.past (fuel byte from last t.past t.within) t.before (λ rest. ap (λ z. least_or byte z rest) w)
    least_found from last least.Uncopied t = tt

  -- the least child of a node whose word is the one taken is the same on both sides
  pub least_alike : (always : Bool) (x y : Node V) (v w from from' last last' : ℕ) (seen : Option (Seen Mark V)) (r : Least C V) → NodeAlike order x y → w ≡ v → from' ≡ from → last' ≡ last → LeastGives number always x v from last r
      → is_taken x v ≡ true → LeastAlike order number r (least_of y w from' last' seen)
  least_alike always x y v w from from' last last' seen r e f a b k t =
      let P : Least ℕ V → Type 0 = λ z. LeastAlike order number r z in
      let ty : is_taken y w ≡ true = taken_alike order x y v w e f ∙ t in
      let same : least_of y w from' last' seen ≡ least_from y (last + 1 - from) from =
      ap (λ z. cond z (least_from y (last' + 1 - from') from') (least_told seen)) ty ∙ ap (λ z. least_from y (last' + 1 - z) z) a ∙ ap (λ z. least_from y (z + 1 - from) from) b in
      subst P (sym same) (least_found x y e.children from last r (k.1 t))

-- a region is that of its prefix
front_is : (base j : ℕ) (rest : List ℕ) → j + length rest ≤ 8 → ((i : ℕ) → i < length rest → get_or (key_bytes base) (j + i) 0 ≡ get_or rest i 0) → front (first_bytes base j) rest ≡ first_bytes base (j + length rest)
front_is base j [] l s = ap (first_bytes base) (omega arith)
front_is base j (b ∷ rest) l s =
    let step : first_bytes base (j + 1) ≡ 256 * first_bytes base j + get_or (key_bytes base) j 0 = top_step base j (omega (arith, l)) in
    let here : get_or (key_bytes base) j 0 ≡ b = ap (λ z. get_or (key_bytes base) z 0) (let z : j ≡ j + 0 = omega arith in z) ∙ s 0 (omega arith) in
    ap (λ z. front z rest) (ap (λ z. 256 * first_bytes base j + z) (sym here) ∙ sym step)
    ∙ front_is base (j + 1) rest (omega (arith, l)) (λ i k. ap (λ z. get_or (key_bytes base) z 0) (let z : j + 1 + i ≡ j + suc i = omega arith in z) ∙ s (suc i) (omega (arith, k)))
    ∙ ap (first_bytes base) (omega arith)

-- the region of a prefix is the one computed from its bytes
pub region_is : (p : List ℕ) (x : Region) → IsRegion p x.base x.depth → region_of p ≡ x
region_is p x k =
    let zero_top : first_bytes x.base 0 ≡ 0 = (let s : x.base < 2 ^ 64 = k.small in omega (arith, s)) in
    let f : front (first_bytes x.base 0) p ≡ first_bytes x.base (0 + length p) = front_is x.base 0 p (let s : x.depth ≤ 7 = k.short in let d : x.depth ≡ length p = k.depth_is in omega (arith, s, d)) (λ i l. ap (λ z. get_or (key_bytes x.base) z 0) (let z : 0 + i ≡ i = omega arith in z) ∙ fits_byte p (key_bytes x.base) i k.fitted l) in
    let g : front 0 p ≡ first_bytes x.base (length p) = ap (λ z. front z p) (sym zero_top) ∙ f ∙ ap (first_bytes x.base) (let z : 0 + length p ≡ length p = omega arith in z) in
    let even : x.base % span (length p) ≡ 0 = ap (λ z. x.base % span z) (sym k.depth_is) ∙ k.even in
    let b : front 0 p * span (length p) ≡ x.base = ap (λ z. z * span (length p)) g ∙ multiple x.base (span (length p)) even in
    ap (λ z. record { base = z; depth = length p }) b ∙ ap (λ z. record { base = x.base; depth = z }) (sym k.depth_is)
