-- What a change of locked nodes leaves, and the map after it: a value set, a leaf linked, a leaf taken out.
use Rattle.std.proofs.Common.{◌≡◌, ◌≢◌, ℕ, ◌<◌, true, false, List, length, get_or, refl, sym, ◌∙◌, ap, subst, inl, inr, arith}
use Rattle.std.specs.Prelude.{Option, None, Some}
use Rattle.congee.specs.Heap.{Node, Hung, Nothing, Below, Holds, Stands, fits, child_for, of_child, value_at}
use Rattle.congee.specs.protocol.Events.{ChangeGives, TakeOverGives}
use Rattle.congee.specs.protocol.Steps.{value_hung}
use Rattle.congee.specs.Notes.{Note, Unmade, Held, Linked, Gone, is_published, BeginsKey, IsChild, HasParent, Tree, LockWords}
use Rattle.congee.specs.protocol.Protocol.{Made, Holding, TakenOut, IsValue, value_in, Effect}
use Rattle.congee.proofs.lemmas.Fits.{same_key}
use Rattle.congee.proofs.lemmas.Tree.{same_or_not, value_at_linked, walk_aside}
use Rattle.congee.proofs.lemmas.Link.{Leaf, Links, link_tree, link_map}
use Rattle.congee.proofs.lemmas.Unlink.{Unlinks, unlink_tree, unlink_map}
use Rattle.congee.proofs.lemmas.protocol.Touch.{fares_free, fares_mine, noted, noted_same, noted_other, Touched, as_it_was, under_lock, out_of_reach, touched_effect, not_taken, locked_not_free, owner_locked, but_one, touch_one}

-- a change of the map at one key
pub record Changed {V : Type 0} (i : ℕ) (a : ℕ → Note) (h : ℕ → Node V) (key : List ℕ) (found : Option V) (given : Option V) (a' : ℕ → Note) (h' : ℕ → Node V) : Type 0 where
  pub effect : Effect i a h a' h'
  pub before : value_at h key ≡ found
  pub after : value_at h' key ≡ given
  pub rest : (x : List ℕ) → length x ≡ 8 → x ≢ key → value_at h' x ≡ value_at h x

-- a node that the call has locked before and after
pub record StaysLocked {V : Type 0} (i : ℕ) (a : ℕ → Note) (h : ℕ → Node V) (a' : ℕ → Note) (h' : ℕ → Node V) (n : ℕ) : Type 0 where
  pub owner : (a n).owner ≡ Some i
  pub owner_after : (a' n).owner ≡ Some i
  pub published : is_published (a n).status ≡ true
  pub published_after : is_published (a' n).status ≡ true
  pub linked : (a' n).status ≡ Linked → (a n).status ≡ Linked
  pub prefix : (h' n).prefix ≡ (h n).prefix
  pub version : (h' n).version ≡ (h n).version
  pub locked : (h' n).locked ≡ (h n).locked
  pub made : (h' n).made ≡ (h n).made
  pub destroyed : (h' n).destroyed ≡ (h n).destroyed
  pub retired : (h' n).retired ≡ (h n).retired
  pub obsolete : (h' n).obsolete ≡ (h n).obsolete

-- a node that the call has locked before and after is touched under its lock
pub under_touch : {V : Type 0} (i : ℕ) (a : ℕ → Note) (h : ℕ → Node V) (a' : ℕ → Note) (h' : ℕ → Node V) (n : ℕ) → LockWords a h → StaysLocked i a h a' h' n → Touched i a h a' h' n
under_touch i a h a' h' n w u =
    let lk : (h' n).locked ≡ true = u.locked ∙ owner_locked a h w n i u.owner in
    under_lock u.published u.published_after u.prefix (rw u.version (omega arith)) (λ v _ q. not_taken (h' n) v lk q)
    (λ j ne o. let z : Some i ≡ Some j = sym u.owner ∙ o in ne (sym cc))
    (record {
      free = λ f. absurd cc;
      gone = λ _. locked_not_free (h' n) lk;
      unmade = λ f. let z : (a n).status ≡ Unmade = (w.each n).unmade (sym u.made ∙ f) in let y : is_published (a n).status ≡ false = ap is_published z in absurd (let p : is_published (a n).status ≡ true = u.published in cc);
      stands = λ _. let s : Stands (h n) = (w.each n).stands u.published in record { made = u.made ∙ s.made; kept = u.destroyed ∙ s.kept };
      unretired = λ l. u.retired ∙ (w.each n).unretired (u.linked l);
      live = λ l. u.obsolete ∙ (w.each n).live (u.linked l);
      keyed = λ l. rw u.prefix ((w.each n).keyed (u.linked l));
    })
    (fares_mine i (a n) (a' n) (h n) (h' n) u.owner u.owner_after u.published_after u.retired)

-- the node above, locked before and after, with one of its children changed
pub under_above : {V : Type 0} (i : ℕ) (a : ℕ → Note) (h : ℕ → Node V) (a' : ℕ → Note) (g h' : ℕ → Node V) (n b : ℕ) (x : Hung V) → Holding i a n → (a' n).status ≡ (a n).status → (a' n).owner ≡ (a n).owner → g n ≡ h n → ChangeGives g n b x h' → StaysLocked i a h a' h' n
under_above i a h a' g h' n b x o e eo f k = record {
  owner = o.owner;
  owner_after = eo ∙ o.owner;
  published = ap is_published o.linked;
  published_after = rw e (ap is_published o.linked);
  linked = λ _. o.linked;
  prefix = k.prefix ∙ ap (λ z. z.prefix) f;
  version = k.version ∙ ap (λ z. z.version) f;
  locked = k.locked ∙ ap (λ z. z.locked) f;
  made = k.made ∙ ap (λ z. z.made) f;
  destroyed = k.destroyed ∙ ap (λ z. z.destroyed) f;
  retired = k.retired ∙ ap (λ z. z.retired) f;
  obsolete = k.obsolete ∙ ap (λ z. z.obsolete) f;
}

-- a node whose children a change touched
pub under_change : {V : Type 0} (i : ℕ) (a : ℕ → Note) (h : ℕ → Node V) (a' : ℕ → Note) (h1 h' : ℕ → Node V) (n b : ℕ) (x : Hung V) → Holding i a n → a' n ≡ a n → h1 n ≡ h n → ChangeGives h1 n b x h' → StaysLocked i a h a' h' n
under_change i a h a' h1 h' n b x o e f k = under_above i a h a' h1 h' n b x o (ap (λ z. z.status) e) (ap (λ z. z.owner) e) f k

-- a made node that comes into the tree
pub record Live {V : Type 0} (n : Node V) : Type 0 where
  pub made : n.made ≡ true
  pub kept : n.destroyed ≡ false
  pub unretired : n.retired ≡ false
  pub unlocked : n.locked ≡ false
  pub live : n.obsolete ≡ false
  pub keyed : BeginsKey n.prefix

-- the note of a node that comes into the tree below node p
abbrev pub joined : ℕ → Note
joined p = record { status = Linked; owner = None; parent = p }

-- a made node that comes into the tree is touched out of reach
pub joined_touch : {V : Type 0} (i : ℕ) (a : ℕ → Note) (h : ℕ → Node V) (a' : ℕ → Note) (h' : ℕ → Node V) (key : List ℕ) (c size least p : ℕ) → Made i a h key c size least → a' c ≡ joined p → Live (h' c)
    → Touched i a h a' h' c
joined_touch i a h a' h' key c size least p m e l =
    out_of_reach (ap is_published m.held) (λ j ne s. let z : Held i ≡ Held j = sym m.held ∙ s in ne (sym cc)) m.unowned (record {
      free = λ f. rw e refl;
      gone = λ s. let z : Linked ≡ Gone = rw e at s in cc;
      unmade = λ f. let z : true ≡ false = sym l.made ∙ f in cc;
      stands = λ _. record { made = l.made; kept = l.kept };
      unretired = λ _. l.unretired;
      live = λ _. l.live;
      keyed = λ _. l.keyed;
    })
    (fares_free i (a c) (a' c) (h c) (h' c) (rw e refl) (rw e refl) l.unlocked)

-- a node that the call has made can come into the tree
pub live_made : {V : Type 0} (i : ℕ) (a : ℕ → Note) (h : ℕ → Node V) (key : List ℕ) (c size least : ℕ) → Made i a h key c size least → Live (h c)
live_made i a h key c size least m = record { made = m.made; kept = m.kept; unretired = m.unretired; unlocked = m.unlocked; live = m.live; keyed = m.keyed }

-- so it can after one of its children changed
pub live_changed : {V : Type 0} (h : ℕ → Node V) (c b : ℕ) (x : Hung V) (h' : ℕ → Node V) → ChangeGives h c b x h' → Live (h c) → Live (h' c)
live_changed h c b x h' k l = record { made = k.made ∙ l.made; kept = k.destroyed ∙ l.kept; unretired = k.retired ∙ l.unretired; unlocked = k.locked ∙ l.unlocked; live = k.obsolete ∙ l.live; keyed = rw k.prefix l.keyed }

-- the old node, whose values may have been moved
pub under_taken : {V : Type 0} (i : ℕ) (a : ℕ → Note) (h : ℕ → Node V) (a' : ℕ → Note) (g g1 h' : ℕ → Node V) (m c : ℕ) → (a m).owner ≡ Some i → (a m).status ≡ Linked → is_published (a' m).status ≡ true → (a' m).owner ≡ Some i
    → g m ≡ h m → TakeOverGives g m c g1 → h' m ≡ g1 m → StaysLocked i a h a' h' m
under_taken i a h a' g g1 h' m c o l p po e k f = record {
  owner = o;
  owner_after = po;
  published = ap is_published l;
  published_after = p;
  linked = λ _. l;
  prefix = ap (λ z. z.prefix) f ∙ (k.prefix_old ∙ ap (λ z. z.prefix) e);
  version = ap (λ z. z.version) f ∙ (k.version_old ∙ ap (λ z. z.version) e);
  locked = ap (λ z. z.locked) f ∙ (k.locked_old ∙ ap (λ z. z.locked) e);
  made = ap (λ z. z.made) f ∙ (k.made_old ∙ ap (λ z. z.made) e);
  destroyed = ap (λ z. z.destroyed) f ∙ (k.destroyed_old ∙ ap (λ z. z.destroyed) e);
  retired = ap (λ z. z.retired) f ∙ (k.retired_old ∙ ap (λ z. z.retired) e);
  obsolete = ap (λ z. z.obsolete) f ∙ (k.obsolete_old ∙ ap (λ z. z.obsolete) e);
}

-- a node that can come into the tree still can after it took over another one's children
pub live_taken : {V : Type 0} (h : ℕ → Node V) (m c : ℕ) (h' : ℕ → Node V) → TakeOverGives h m c h' → Live (h c) → Live (h' c)
live_taken h m c h' k l = record { made = k.made ∙ l.made; kept = k.destroyed ∙ l.kept; unretired = k.retired ∙ l.unretired; unlocked = k.locked ∙ l.unlocked; live = k.obsolete ∙ l.live; keyed = rw k.prefix l.keyed }

-- and where it is as it was
pub live_same : {V : Type 0} (n n' : Node V) → n' ≡ n → Live n → Live n'
live_same {V} n n' e l = let P : Node V → Type 0 = λ z. Live z in subst P (sym e) l

-- a made leaf with the key's value
pub leaf_filled : {V : Type 0} (i : ℕ) (a : ℕ → Note) (h : ℕ → Node V) (key : List ℕ) (c : ℕ) (v : V) (h1 : ℕ → Node V) → Made i a h key c 7 0 → ChangeGives h c (get_or key 7 0) (Holds v) h1 → Leaf h1 c key v
leaf_filled i a h key c v h1 m f =
    let seven : length (h1 c).prefix ≡ 7 = ap length f.prefix ∙ m.long in
    record {
      fitted = rw f.prefix m.fitted;
      seven = seven;
      value = (let P : ℕ → Type 0 = λ y. (h1 c).children (get_or key y 0) ≡ Holds v in subst P (sym seven) f.child);
      empty = λ b ne. f.beside b (let P : ℕ → Type 0 = λ y. b ≢ get_or key y 0 in subst P seven ne) ∙ m.blank b;
    }

-- a leaf with one value is one where it is as it was
pub leaf_same : {V : Type 0} (h h' : ℕ → Node V) (c : ℕ) (key : List ℕ) (v : V) → h' c ≡ h c → Leaf h c key v → Leaf h' c key v
leaf_same h h' c key v e l = record {
  fitted = rw e l.fitted;
  seven = rw e l.seven;
  value = rw e l.value;
  empty = λ b ne. rw e (l.empty b (let P : List ℕ → Type 0 = λ y. b ≢ get_or key (length y) 0 in subst P (ap (λ z. z.prefix) e) ne));
}

-- a node that the call has made is none that is or was in reach
pub made_apart : {V : Type 0} (i : ℕ) (a : ℕ → Note) (h : ℕ → Node V) (key : List ℕ) (c size least n : ℕ) → Made i a h key c size least → is_published (a n).status ≡ true → c ≢ n
made_apart i a h key c size least n b p e =
    let z : is_published (a c).status ≡ true = (let P : ℕ → Type 0 = λ x. is_published (a x).status ≡ true in subst P (sym e) p) in
    let y : is_published (a c).status ≡ false = ap is_published b.held in cc

-- a value is set, or taken out, where no node hangs
not_node : {V : Type 0} (x : Hung V) (c : ℕ) → IsValue x → x ≡ Below c → ⊥
not_node Nothing c v e = cc
not_node (Below d) c v e = v
not_node (Holds y) c v e = cc

hung_value : {V : Type 0} (o : Option V) → IsValue (value_hung o)
hung_value None = tt
hung_value (Some v) = tt

set_down : {V : Type 0} (h : ℕ → Node V) (n b : ℕ) (x : Hung V) (h' : ℕ → Node V) → ChangeGives h n b x h' → IsValue x → (m c d : ℕ) → (h' m).children c ≡ Below d → (h m).children c ≡ Below d
set_down h n b x h' k v m c d e = elim (same_or_not m n) [
  | inl q ↦ elim (same_or_not c b) [
    | inl r ↦ (let f : (h' n).children b ≡ Below d = (let P : ℕ → Type 0 = λ z. (h' z).children b ≡ Below d in subst P q (let Q : ℕ → Type 0 = λ z. (h' m).children z ≡ Below d in subst Q r e)) in
        absurd (not_node x d v (sym k.child ∙ f)))
    | inr ne ↦ (let P : ℕ → Type 0 = λ z. (h' z).children c ≡ Below d → (h z).children c ≡ Below d in subst P (sym q) (λ f. sym (k.beside c ne) ∙ f) e)
  ]
  | inr ne ↦ rw (k.others m ne) at e
]

set_up : {V : Type 0} (h : ℕ → Node V) (n b : ℕ) (x : Hung V) (h' : ℕ → Node V) → ChangeGives h n b x h' → IsValue ((h n).children b) → (m c d : ℕ) → (h m).children c ≡ Below d → (h' m).children c ≡ Below d
set_up h n b x h' k v m c d e = elim (same_or_not m n) [
  | inl q ↦ elim (same_or_not c b) [
    | inl r ↦ (let f : (h n).children b ≡ Below d = (let P : ℕ → Type 0 = λ z. (h z).children b ≡ Below d in subst P q (let Q : ℕ → Type 0 = λ z. (h m).children z ≡ Below d in subst Q r e)) in
        absurd (not_node ((h n).children b) d v f))
    | inr ne ↦ (let P : ℕ → Type 0 = λ z. (h z).children c ≡ Below d → (h' z).children c ≡ Below d in subst P (sym q) (λ f. k.beside c ne ∙ f) e)
  ]
  | inr ne ↦ rw (k.others m ne) e
]

set_tree : {V : Type 0} (a : ℕ → Note) (h : ℕ → Node V) (n b : ℕ) (x : Hung V) (h' : ℕ → Node V) → Tree a h → (a n).status ≡ Linked → length (h n).prefix ≡ 7 → IsValue ((h n).children b) → IsValue x → ChangeGives h n b x h' → Tree a h'
set_tree {V} a h n b x h' t l seven v vx k =
    let pr : (m : ℕ) → (h' m).prefix ≡ (h m).prefix = but_one (λ y z. y.prefix ≡ z.prefix) h h' n (λ y. refl) k.others k.prefix in
    record {
      root = t.root;
      empty = pr 0 ∙ t.empty;
      short = λ m q. rw (pr m) (t.short m q);
      leaves = λ m c w q e. rw (pr m) (elim (same_or_not m n) [
        | inl p ↦ (let P : ℕ → Type 0 = λ z. length (h z).prefix ≡ 7 in subst P (sym p) seven)
        | inr ne ↦ t.leaves m c w q (let P : Node V → Type 0 = λ z. z.children c ≡ Holds w in subst P (k.others m ne) e)
      ]);
      down = λ m c d q e. let i : IsChild a h m c d = t.down m c d q (set_down h n b x h' k vx m c d e) in record {
        linked = i.linked;
        parent = i.parent;
        fitted = rw (pr m, pr d) i.fitted;
        longer = rw (pr m, pr d) i.longer;
        byte = rw (pr m, pr d) i.byte;
      };
      up = λ m q ne. let u : HasParent a h m = t.up m q ne in record {
        linked = u.linked;
        byte = u.byte;
        holds = set_up h n b x h' k v (a m).parent u.byte m u.holds;
      };
    }

found_is : {V : Type 0} (go : ℕ → Option V) (x : Hung V) → IsValue x → of_child go x ≡ value_in x
found_is go Nothing v = refl
found_is go (Below c) v = absurd v
found_is go (Holds y) v = refl

given_is : {V : Type 0} (go : ℕ → Option V) (o : Option V) → of_child go (value_hung o) ≡ o
given_is go None = refl
given_is go (Some v) = refl

-- a value that is set or taken out in a leaf changes the map at its key alone
pub set_changed : {V : Type 0} (i : ℕ) (a : ℕ → Note) (h : ℕ → Node V) (key : List ℕ) (n b : ℕ) (x : Hung V) (given : Option V) (h' : ℕ → Node V)
    → length key ≡ 8 → Tree a h → LockWords a h → Holding i a n → fits (h n).prefix key ≡ true → length (h n).prefix ≡ 7 → b ≡ get_or key (length (h n).prefix) 0
    → child_for (h n) key ≡ x → IsValue x → ChangeGives h n b (value_hung given) h' → Changed i a h key (value_in x) given a h'
set_changed i a h key n b x given h' len t w o fit seven eb ex vx k =
    let here : (h n).children b ≡ x = rw eb ex in
    let t' : Tree a h' = set_tree a h n b (value_hung given) h' t o.linked seven (rw here vx) (hung_value given) k in
    let pr : (m : ℕ) → (h' m).prefix ≡ (h m).prefix = but_one (λ y z. y.prefix ≡ z.prefix) h h' n (λ y. refl) k.others k.prefix in
    let there : child_for (h' n) key ≡ value_hung given = rw (pr n) (rw (← eb) k.child) in
    record {
      effect = touched_effect i a h a h' w t' (but_one (λ y z. y.capacity ≡ z.capacity) h h' n (λ y. refl) k.others k.capacity 0)
          (touch_one i a h a h' n k.others (λ m _. refl) (under_touch i a h a h' n w (under_change i a h a h h' n b (value_hung given) o refl refl k)));
      before = value_at_linked a h t n key x o.linked fit ex ∙ found_is _ x vx;
      after = value_at_linked a h' t' n key (value_hung given) o.linked (rw (pr n) fit) there ∙ given_is _ given;
      rest = λ y ly ny. walk_aside a h h' n b t (record { prefix = λ m _. pr m; others = λ m c _ ne. ap (λ z. z.children c) (k.others m ne); beside = k.beside }) 8 0 y t.root
          (λ fy by. ny (same_key (h n).prefix y key fy fit (omega arith) (omega arith) (by ∙ eb)));
    }

-- a leaf comes in
pub link_changed : {V : Type 0} (i : ℕ) (a : ℕ → Note) (h : ℕ → Node V) (key : List ℕ) (n b c : ℕ) (v : V) (h1 h' : ℕ → Node V)
    → length key ≡ 8 → Tree a h → LockWords a h → Holding i a n → fits (h n).prefix key ≡ true → length (h n).prefix < 7 → b ≡ get_or key (length (h n).prefix) 0
    → child_for (h n) key ≡ Nothing → Made i a h key c 7 0 → ChangeGives h c (get_or key 7 0) (Holds v) h1 → ChangeGives h1 n b (Below c) h'
    → Changed i a h key None (Some v) (noted a c (joined n)) h'
link_changed i a h key n b c v h1 h' len t w o fit inner eb none m f k =
    let same : noted a c (joined n) c ≡ joined n = noted_same a c _ in
    let cn : c ≢ n = made_apart i a h key c 7 0 n m (ap is_published o.linked) in
    let nc : n ≢ c = (λ e. cn (sym e)) in
    let n1 : h1 n ≡ h n = f.others n nc in
    let c1 : h' c ≡ h1 c = k.others c cn in
    let other : noted a c (joined n) n ≡ a n = noted_other a c _ n nc in
    let links : Links a h (noted a c (joined n)) h' n c key v = record {
      linked = o.linked;
      fitted = fit;
      inner = inner;
      nothing = none;
      unlinked = (λ l. let z : Held i ≡ Linked = sym m.held ∙ l in cc);
      prefix = k.prefix ∙ ap (λ z. z.prefix) n1;
      child = rw (← eb) k.child;
      beside = λ y ne. k.beside y (let P : ℕ → Type 0 = λ z. y ≢ z in subst P (sym eb) ne) ∙ ap (λ z. z.children y) n1;
      leaf = leaf_same h1 h' c key v c1 (leaf_filled i a h key c v h1 m f);
      joined = rw same refl;
      parent = rw same refl;
      notes = noted_other a c _;
      nodes = λ y ny yn. k.others y yn ∙ f.others y ny;
    } in
    let map : (value_at h key ≡ None) × (value_at h' key ≡ Some v) × ((y : List ℕ) → length y ≡ 8 → y ≢ key → value_at h' y ≡ value_at h y) = link_map a h _ h' n c key v len t links in
    let touch : (x : ℕ) → Touched i a h (noted a c (joined n)) h' x = λ x. elim (same_or_not x c) [
      | inl p ↦ (let P : ℕ → Type 0 = λ y. Touched i a h (noted a c (joined n)) h' y in
          subst P (sym p) (joined_touch i a h _ h' key c 7 0 n m same (live_same (h1 c) (h' c) c1 (live_changed h c _ _ h1 f (live_made i a h key c 7 0 m)))))
      | inr q ↦ elim (same_or_not x n) [
        | inl p ↦ (let P : ℕ → Type 0 = λ y. Touched i a h (noted a c (joined n)) h' y in
            subst P (sym p) (under_touch i a h _ h' n w (under_change i a h _ h1 h' n b (Below c) o other n1 k)))
        | inr r ↦ as_it_was (k.others x r ∙ f.others x q) (noted_other a c _ x q)
      ]
    ] in
    let root : 0 ≢ c = (λ e. let z : (a c).status ≡ Linked = (let P : ℕ → Type 0 = λ y. (a y).status ≡ Linked in subst P e t.root) in let z' : (a c).status ≡ Held i = m.held in cc) in
    record {
      effect = touched_effect i a h _ h' w (link_tree a h _ h' n c key v t links)
          (but_one (λ y z. y.capacity ≡ z.capacity) h1 h' n (λ y. refl) k.others k.capacity 0 ∙ ap (λ z. z.capacity) (f.others 0 root)) touch;
      before = map.0;
      after = map.1;
      rest = map.2;
    }

-- a leaf with one value goes out
abbrev pub left_out : (ℕ → Note) → ℕ → ℕ → ℕ → Note
left_out a i m = noted a m (record { status = Gone; owner = Some i; parent = (a m).parent })

-- a leaf that goes out changes the map at its key alone, and is taken out under the call's lock
pub unlink_changed : {V : Type 0} (i : ℕ) (a : ℕ → Note) (h : ℕ → Node V) (key : List ℕ) (p b m : ℕ) (v : V) (h' : ℕ → Node V)
    → length key ≡ 8 → Tree a h → LockWords a h → Holding i a p → fits (h p).prefix key ≡ true → b ≡ get_or key (length (h p).prefix) 0 → child_for (h p) key ≡ Below m
    → (a m).owner ≡ Some i → Leaf h m key v → ChangeGives h p b Nothing h'
    → Changed i a h key (Some v) None (left_out a i m) h' × TakenOut i (left_out a i m) h' p m
unlink_changed i a h key p b m v h' len t w o fit eb hung om leaf k =
    let ch : IsChild a h p (get_or key (length (h p).prefix) 0) m = t.down p _ m o.linked hung in
    let pm : p ≢ m = (λ e. let z : length (h p).prefix ≡ length (h m).prefix = ap (λ y. length (h y).prefix) e in absurd (omega (arith, ch.longer))) in
    let mp : m ≢ p = (λ e. pm (sym e)) in
    let em : h' m ≡ h m = k.others m mp in
    let same : left_out a i m m ≡ record { status = Gone; owner = Some i; parent = (a m).parent } = noted_same a m _ in
    let other : left_out a i m p ≡ a p = noted_other a m _ p pm in
    let u : Unlinks a h (left_out a i m) h' p m key v = record {
      linked = o.linked;
      fitted = fit;
      hung = hung;
      last = leaf;
      prefix = k.prefix;
      child = rw (← eb) k.child;
      beside = λ y ne. k.beside y (let P : ℕ → Type 0 = λ z. y ≢ z in subst P (sym eb) ne);
      left = (λ l. let z : Gone ≡ Linked = rw same at l in cc);
      notes = noted_other a m _;
      nodes = k.others;
    } in
    let map : (value_at h key ≡ Some v) × (value_at h' key ≡ None) × ((y : List ℕ) → length y ≡ 8 → y ≢ key → value_at h' y ≡ value_at h y) = unlink_map a h _ h' p m key v len t u in
    let touch : (x : ℕ) → Touched i a h (left_out a i m) h' x = λ x. elim (same_or_not x m) [
      | inl q ↦ (let P : ℕ → Type 0 = λ y. Touched i a h (left_out a i m) h' y in
          subst P (sym q) (under_touch i a h _ h' m w (record {
            owner = om;
            owner_after = rw same refl;
            published = ap is_published ch.linked;
            published_after = rw same refl;
            linked = λ _. ch.linked;
            prefix = rw em refl;
            version = rw em refl;
            locked = rw em refl;
            made = rw em refl;
            destroyed = rw em refl;
            retired = rw em refl;
            obsolete = rw em refl;
          })))
      | inr q ↦ elim (same_or_not x p) [
        | inl r ↦ (let P : ℕ → Type 0 = λ y. Touched i a h (left_out a i m) h' y in
            subst P (sym r) (under_touch i a h _ h' p w (under_change i a h _ h h' p b Nothing o other refl k)))
        | inr r ↦ as_it_was (k.others x r) (noted_other a m _ x q)
      ]
    ] in (
      record {
        effect = touched_effect i a h _ h' w (unlink_tree a h _ h' p m key v t u) (but_one (λ y z. y.capacity ≡ z.capacity) h h' p (λ y. refl) k.others k.capacity 0) touch;
        before = map.0;
        after = map.1;
        rest = map.2;
      },
      record {
        above = record { owner = rw other o.owner; linked = rw other o.linked };
        owner = rw same refl;
        gone = rw same refl;
        unretired = rw em ((w.each m).unretired ch.linked);
      },
    )
