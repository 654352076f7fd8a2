-- The keys of a tree are numbers, so its nodes' prefixes are of bytes, and what hangs in a node hangs at a byte.
use Rattle.std.proofs.Common.{◌≡◌, ◌≢◌, ℕ, zero, suc, ◌+◌, ◌<◌, ◌≤◌, ◌^◌, ◌⊎◌, Bool, true, false, cond, List, [], ◌∷◌, ◌++◌, length, get_or, inl, inr, refl, sym, ap, subst, ◌∙◌, arith}
use Rattle.std.specs.Prelude.{Option, None, Some, is_some, IsSome}
use Rattle.std.specs.Ordering.{nat_cmp}
use Rattle.std.specs.FinMap as map
use Rattle.std.specs.FinMap.Entries.{find}
use Rattle.slab.specs.Slab.{get, ContainsKey}
use Rattle.congee.specs.Heap.{Hung, Nothing, Below, Holds, fits, child_for, value_at}
use Rattle.congee.specs.Keys.{key_bytes}
use Rattle.congee.specs.Notes.{BeginsKey}
use Rattle.congee.specs.forms.Forms.{children_of}
use Rattle.congee.specs.owned.Arena.{Nodes, hung_in, node_of, heap_of, IsTree, OnWay}
use Rattle.congee.specs.owned.Changes.{MapChange}
use Rattle.congee.specs.owned.Edits.{Denies}
use Rattle.congee.specs.owned.Full.{NodesFilled}
use Rattle.congee.specs.owned.Keyed.{IsNumber, IsKeyed}
use Rattle.congee.specs.owned.OwnedSteps.{SameNodes}
use Rattle.congee.specs.owned.Weights.{HasBytes}
use Rattle.congee.specs.declared.allocator.OOMError.{OOMError}
use Rattle.congee.specs.declared.forms.child.Child.{Child}
use Rattle.congee.specs.declared.forms.child.Child.TheVariants.{Blank, Node as Sub, Value}
use Rattle.congee.specs.declared.owned.arena.Arena.{Arena}
use Rattle.congee.proofs.lemmas.Fits.{and_true, same_test, fits_trans, fits_byte, fits_same}
use Rattle.congee.proofs.lemmas.Tree.{same_or_not}
use Rattle.congee.proofs.lemmas.forms.Prefixes.{fits_every}
use Rattle.congee.proofs.lemmas.protocol.AlonePairs.{bytes_small, ties}
use Rattle.congee.proofs.lemmas.owned.Answered.{at_held}
use Rattle.congee.proofs.lemmas.owned.Moves.{node_at}
use Rattle.congee.proofs.lemmas.owned.Ways.{hung_child, linked_of, short_prefix, stands_of}

-- a list begins itself
fits_self : (p : List ℕ) → fits p p ≡ true
fits_self p = fits_every p p (omega arith) (λ j l. refl)

-- and itself with more behind it
fits_more : (p r : List ℕ) → fits p (p ++ r) ≡ true
fits_more [] r = refl
fits_more (x ∷ p) r = and_true _ _ (same_test x x refl) (fits_more p r)

byte_after : (p : List ℕ) (b : ℕ) → get_or (p ++ b ∷ []) (length p) 0 ≡ b
byte_after [] b = refl
byte_after (x ∷ p) b = byte_after p b

length_after : (p : List ℕ) (b : ℕ) → length (p ++ b ∷ []) ≡ suc (length p)
length_after [] b = refl
length_after (x ∷ p) b = ap suc (length_after p b)

-- two lists of one length are the same or not
same_list : (x y : List ℕ) → length x ≡ length y → (x ≡ y) ⊎ (x ≢ y)
same_list x y l = of (fits x y) refl
  where
    of : (b : Bool) → fits x y ≡ b → (x ≡ y) ⊎ (x ≢ y)
    of true e = inl (fits_same x y y e (fits_self y) l)
    of false e = inr (λ q. let z : fits x y ≡ true = ap (λ k. fits k y) q ∙ fits_self y in let w : true ≡ false = sym z ∙ e in cc)

module _ {X : Type 0} where
  first_found : (k : ℕ) (x : X) (r : List (ℕ × X)) → find nat_cmp k ((k, x) ∷ r) ≡ Some x
  first_found k x r = ap (λ b. cond b (Some x) (find nat_cmp k r)) (ties k)

  -- a map that isn't empty has a pair
  some_entry : (m : map.FinMap nat_cmp X) → 1 ≤ map.len m → (k : ℕ) × (x : X) × (map.get m k ≡ Some x)
  some_entry m l = of (map.entries m) refl
    where
      of : (es : List (ℕ × X)) → map.entries m ≡ es → (k : ℕ) × (x : X) × (map.get m k ≡ Some x)
      of [] e = absurd (let z : map.len m ≡ 0 = map.len-entries m ∙ ap length e in omega (arith, z, l))
      of ((k, x) ∷ r) e = (k, x, map.get-entries m k ∙ (ap (find nat_cmp k) e ∙ first_found k x r))

module _ {P : Type 0} where
  -- nodes of which no key has a value
  pub keyed_none : (s : Nodes P) → ((key : List ℕ) → value_at (heap_of s) key ≡ None) → IsKeyed s
  keyed_none s none key l h = absurd (let z : is_some (value_at (heap_of s) key) ≡ false = ap is_some (none key) in cc (h, z))

  -- nodes that are the same
  keyed_same : (s s' : Nodes P) → SameNodes s s' → IsKeyed s → IsKeyed s'
  keyed_same s s' e h =
      let i : heap_of s ≡ heap_of s' = λ j n. ap node_of (sym (e n)) j in
      λ key l v. h key l (subst (λ z. IsSome (value_at z key)) (sym i) v)

  -- a change at a number's key leaves the keys numbers
  pub keyed_change : (s s' : Nodes P) (k : ℕ) → k < 2 ^ 64 → (key : List ℕ) → key ≡ key_bytes k → (before after : Option P) → MapChange s s' key before after → IsKeyed s → IsKeyed s'
  keyed_change s s' k small key is before after c h y l v = elim (same_list y key (l ∙ sym (ap length is))) [
    | inl e ↦ record { number = k; small = small; bytes = e ∙ is }
    | inr ne ↦ h y l (ap is_some (sym (c.others y l ne)) ∙ v)
  ]

-- a refused insertion leaves the keys numbers
module _ {P A K : Type 0} (charged limit : A → ℕ) (old new : Arena P A K) where
  pub denied_keyed : (key : List ℕ) (v : P) (wants : Option (List ℕ)) (refusal : OOMError × P) → Denies charged limit old new key v wants refusal → IsKeyed old.nodes → IsKeyed new.nodes
  denied_keyed key v wants refusal d = keyed_same old.nodes new.nodes d.same

module _ {P : Type 0} (s : Nodes P) (t : IsTree s) (branch : NodesFilled false s) (keyed : IsKeyed s) where
  -- the key of a value in a leaf
  leaf_key : (n b : ℕ) (v : P) → ContainsKey s n → (heap_of s n).children b ≡ Holds v → IsNumber ((heap_of s n).prefix ++ b ∷ [])
  leaf_key n b v h e =
      let p = (heap_of s n).prefix in
      let seven : length p ≡ 7 = t.tree.leaves n b v (linked_of s t.parent n h) e in
      let key = p ++ b ∷ [] in
      let way : OnWay s key n = record { stands = h; fitted = fits_more p (b ∷ []) } in
      let there : child_for (heap_of s n) key ≡ Holds v = ap (heap_of s n).children (byte_after p b) ∙ e in
      keyed key (length_after p b ∙ ap suc seven) (ap is_some (at_held s key n v t way there))

  -- the bytes of a node that hangs in another
  abbrev Begins : ℕ → Type 0
  Begins n = BeginsKey (heap_of s n).prefix

  leaf_begins : (n b : ℕ) (v : P) → ContainsKey s n → (heap_of s n).children b ≡ Holds v → Begins n
  unfolding BeginsKey
  leaf_begins n b v h e =
      let i = leaf_key n b v h e in
      (i.number, subst (λ y. fits (heap_of s n).prefix y ≡ true) i.bytes (fits_more (heap_of s n).prefix (b ∷ [])))

  upper_begins : (n b c : ℕ) → (heap_of s n).children b ≡ Below c → Begins c → Begins n
  unfolding BeginsKey
  upper_begins n b c e r = (r.0, fits_trans (heap_of s n).prefix (heap_of s c).prefix (key_bytes r.0) (hung_child s t n b c e).1.fitted r.1)

  root_begins : Begins 0
  unfolding BeginsKey
  root_begins = (0, rw t.tree.empty refl)

  -- something hangs in a node
  child_of : (n : ℕ) → ContainsKey s n → n ≢ 0 → (b : ℕ) × ((heap_of s n).children b ≢ Nothing)
  child_of n h ne =
      let x = node_at s n h in
      let one = (branch n x.0 ne x.1).some in
      let k = some_entry (children_of x.0) one in
      let there : (heap_of s n).children k.0 ≡ hung_in (Some k.1) = ap (λ o. (node_of o).children k.0) x.1 ∙ ap hung_in k.2 in
      (k.0, λ z. is_hung k.1 (sym there ∙ z))
    where
      is_hung : (c : Child ℕ P) → hung_in (Some c) ≡ Nothing → ⊥
      is_hung Blank e = absurd (let z : Below 0 ≡ Nothing = e in cc)
      is_hung (Sub c) e = absurd (let z : Below c ≡ Nothing = e in cc)
      is_hung (Value v) e = absurd (let z : Holds v ≡ Nothing = e in cc)

  -- a node's prefix begins a key where those of the nodes below do
  begins_by : (n : ℕ) → ContainsKey s n → ((c : ℕ) → ContainsKey s c → length (heap_of s n).prefix < length (heap_of s c).prefix → c ≢ 0 → Begins c)
      → (b : ℕ) (x : Hung P) → (heap_of s n).children b ≡ x → x ≢ Nothing → Begins n
  begins_by n h below b Nothing e some = absurd (some refl)
  begins_by n h below b (Below c) e some =
      let i = (hung_child s t n b c e).1 in
      upper_begins n b c e (below c (stands_of s t.parent c i.linked) i.longer (λ q.
      let z : length (heap_of s c).prefix ≡ 0 = ap (λ k. length (heap_of s k).prefix) q ∙ ap length t.tree.empty in absurd (omega (arith, i.longer, z))))
  begins_by n h below b (Holds v) e some = leaf_begins n b v h e

  begins_down : (f n : ℕ) → 8 ≤ f + length (heap_of s n).prefix → ContainsKey s n → n ≢ 0 → Begins n
  begins_down zero n deep h ne = absurd (let l = short_prefix s t n h in omega (arith, l, deep))
  begins_down (suc f) n deep h ne =
      let k = child_of n h ne in
      begins_by n h (λ c hc l nc. begins_down f c (omega (arith, l, deep)) hc nc) k.0 ((heap_of s n).children k.0) refl k.1

  -- so does each one of the tree
  pub begins_key : (n : ℕ) → ContainsKey s n → Begins n
  begins_key n h = elim (same_or_not n 0) [
    | inl e ↦ subst Begins (sym e) root_begins
    | inr ne ↦ begins_down 8 n (omega arith) h ne
  ]

  low_byte : (p : List ℕ) (i : ℕ) → i < length p → BeginsKey p → get_or p i 0 < 256
  unfolding BeginsKey
  low_byte p i l b = let e = fits_byte p (key_bytes b.0) i b.1 l in let s = bytes_small b.0 i in omega (arith, e, s)

  hung_low : (n b : ℕ) (x : Hung P) → ContainsKey s n → (heap_of s n).children b ≡ x → x ≢ Nothing → b < 256
  hung_low n b Nothing h e some = absurd (some refl)
  hung_low n b (Below c) h e some =
      let i = (hung_child s t n b c e).1 in
      let l = low_byte (heap_of s c).prefix (length (heap_of s n).prefix) i.longer (begins_key c (stands_of s t.parent c i.linked)) in
      subst (λ k. k < 256) i.byte l
  hung_low n b (Holds v) h e some =
      let i = leaf_key n b v h e in
      let p = (heap_of s n).prefix in
      let at : get_or (key_bytes i.number) (length p) 0 ≡ b = ap (λ y. get_or y (length p) 0) (sym i.bytes) ∙ byte_after p b in
      let l = bytes_small i.number (length p) in
      omega (arith, l, at)

  -- what hangs in a node hangs at a byte
  pub bytes_low : (n : ℕ) → HasBytes (get s n)
  bytes_low n x e b there = hung_low n b ((heap_of s n).children b) (ap is_some e) refl (λ z. is_there (map.get (children_of x) b) there (ap (λ o. (node_of o).children b) (sym e) ∙ z))
    where
      is_there : (o : Option (Child ℕ P)) → IsSome o → hung_in o ≡ Nothing → ⊥
      is_there None h z = absurd (cc h)
      is_there (Some Blank) h z = absurd (let w : Below 0 ≡ Nothing = z in cc)
      is_there (Some (Sub c)) h z = absurd (let w : Below c ≡ Nothing = z in cc)
      is_there (Some (Value v)) h z = absurd (let w : Holds v ≡ Nothing = z in cc)
