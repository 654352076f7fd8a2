-- How one node may fare in a step, and what a step leaves that touches each node in one of these ways.
use Rattle.std.proofs.Common.{◌≡◌, ◌≢◌, ℕ, zero, suc, ◌≤◌, ◌==◌, not, Bool, true, false, cond, List, refl, sym, ◌∙◌, ap, subst, inl, inr, arith}
use Rattle.std.proofs.lemmas.Bool.{true_from_ne_false}
use Rattle.std.specs.Prelude.{Option, None, Some}
use Rattle.congee.specs.Heap.{Node, walk, is_taken, is_free}
use Rattle.congee.specs.Notes.{Note, Status, Unmade, Held, Linked, Gone, Back, Destroyed, is_published, is_spent, IsChild, HasParent, Tree, WordAt, LockWords}
use Rattle.congee.specs.protocol.Protocol.{Fares, Effect}
use Rattle.congee.proofs.lemmas.Fits.{both_true, same_test, other_test}
use Rattle.congee.proofs.lemmas.Tree.{same_or_not, step_same}

-- what holds of each of two, as a test comes out for it, holds of the one that the test picks
pub by_test : {T : Type 0} (P : T → Type 0) (b : Bool) (x y : T) → (b ≡ true → P x) → (b ≡ false → P y) → P (cond b x y)
by_test P true x y p q = p refl
by_test P false x y p q = q refl

-- the note of one node
unfoldable pub noted : (ℕ → Note) → ℕ → Note → ℕ → Note
noted a n x m = cond (m == n) x (a m)

-- the one node has this note
pub noted_same : (a : ℕ → Note) (n : ℕ) (x : Note) → noted a n x n ≡ x
unfolding noted
noted_same a n x = rw (same_test n n refl) refl

-- every other node has the note that it had
pub noted_other : (a : ℕ → Note) (n : ℕ) (x : Note) (m : ℕ) → m ≢ n → noted a n x m ≡ a m
unfolding noted
noted_other a n x m e = rw (other_test m n e) refl

-- the owner of one node
abbrev pub owned : Note → Option ℕ → Note
owned x o = record { status = x.status; owner = o; parent = x.parent }

-- the notes with another owner of one node
abbrev pub with_owner : (ℕ → Note) → ℕ → Option ℕ → ℕ → Note
with_owner a n o = noted a n (owned (a n) o)

-- a node and a note that stay, but for the parent
pub fares_same : {V : Type 0} (i : ℕ) (x y : Note) (p q : Node V) → q ≡ p → y.status ≡ x.status → y.owner ≡ x.owner → Fares i x y p q
fares_same i x y p q e s o = record {
  owner = λ j f. inl (sym o ∙ f);
  handed = λ j f. ap (λ z. z.retired) e;
  held = λ j f. inl (sym s ∙ f, e);
  gone = λ f. inr (sym s ∙ f, (λ r. ap (λ z. z.retired) e ∙ r));
  locked = λ f k. inr (sym s ∙ f, sym (ap (λ z. z.locked) e) ∙ k, o);
  spent = λ f. inr (sym (ap is_spent s) ∙ f, ap (λ z. z.destroyed) e);
  unmade = λ f. (sym s ∙ f, ap (λ z. z.made) e);
}

-- a node that was or is in reach, and that the call has locked before and after
pub fares_mine : {V : Type 0} (i : ℕ) (x y : Note) (p q : Node V) → x.owner ≡ Some i → y.owner ≡ Some i → is_published y.status ≡ true → q.retired ≡ p.retired → Fares i x y p q
fares_mine i x y p q o o' u r = record {
  owner = λ j f. inl (o ∙ (sym o' ∙ f));
  handed = λ j f. r;
  held = λ j f. let z : is_published y.status ≡ false = ap is_published f in absurd cc;
  gone = λ f. inl o';
  locked = λ f k. inl o';
  spent = λ f. absurd (spent_unpublished y.status u f);
  unmade = λ f. let z : is_published y.status ≡ false = ap is_published f in absurd cc;
} where
  spent_unpublished : (s : Status) → is_published s ≡ true → is_spent s ≡ true → ⊥
  spent_unpublished Unmade a b = cc
  spent_unpublished (Held j) a b = cc
  spent_unpublished Linked a b = cc
  spent_unpublished Gone a b = cc
  spent_unpublished Back a b = cc
  spent_unpublished Destroyed a b = cc

-- a node of the tree that the call locks
pub fares_locked : {V : Type 0} (i : ℕ) (x y : Note) (p q : Node V) → p.locked ≡ false → y.owner ≡ Some i → y.status ≡ Linked → q.retired ≡ p.retired → Fares i x y p q
fares_locked i x y p q l o s r = record {
  owner = λ j f. let z : Some i ≡ Some j = sym o ∙ f in inr (sym cc, l, s);
  handed = λ j f. r;
  held = λ j f. let z : Linked ≡ Held j = sym s ∙ f in absurd cc;
  gone = λ f. inl o;
  locked = λ f k. inl o;
  spent = λ f. let z : is_spent y.status ≡ false = ap is_spent s in absurd cc;
  unmade = λ f. let z : Linked ≡ Unmade = sym s ∙ f in absurd cc;
}

-- a node of the tree that is free after the step
pub fares_free : {V : Type 0} (i : ℕ) (x y : Note) (p q : Node V) → y.owner ≡ None → y.status ≡ Linked → q.locked ≡ false → Fares i x y p q
fares_free i x y p q o s l = record {
  owner = λ j f. let z : None ≡ Some j = sym o ∙ f in absurd cc;
  handed = λ j f. let z : None ≡ Some j = sym o ∙ f in absurd cc;
  held = λ j f. let z : Linked ≡ Held j = sym s ∙ f in absurd cc;
  gone = λ f. let z : Linked ≡ Gone = sym s ∙ f in absurd cc;
  locked = λ f k. absurd cc;
  spent = λ f. let z : is_spent y.status ≡ false = ap is_spent s in absurd cc;
  unmade = λ f. let z : Linked ≡ Unmade = sym s ∙ f in absurd cc;
}

-- a node that was taken out, handed over
pub fares_retired : {V : Type 0} (i : ℕ) (x y : Note) (p q : Node V) → x.status ≡ Gone → y.owner ≡ None → y.status ≡ Gone → q.retired ≡ true → Fares i x y p q
fares_retired i x y p q g o s r = record {
  owner = λ j f. let z : None ≡ Some j = sym o ∙ f in absurd cc;
  handed = λ j f. let z : None ≡ Some j = sym o ∙ f in absurd cc;
  held = λ j f. let z : Gone ≡ Held j = sym s ∙ f in absurd cc;
  gone = λ f. inr (g, (λ _. r));
  locked = λ f k. let z : Gone ≡ Linked = sym s ∙ f in absurd cc;
  spent = λ f. let z : is_spent y.status ≡ false = ap is_spent s in absurd cc;
  unmade = λ f. let z : Gone ≡ Unmade = sym s ∙ f in absurd cc;
}

-- a new node
pub fares_made : {V : Type 0} (i : ℕ) (x y : Note) (p q : Node V) → p.made ≡ false → y.owner ≡ None → y.status ≡ Held i → Fares i x y p q
fares_made i x y p q m o s = record {
  owner = λ j f. let z : None ≡ Some j = sym o ∙ f in absurd cc;
  handed = λ j f. let z : None ≡ Some j = sym o ∙ f in absurd cc;
  held = λ j f. let z : Held i ≡ Held j = sym s ∙ f in inr (sym cc, m);
  gone = λ f. let z : Held i ≡ Gone = sym s ∙ f in absurd cc;
  locked = λ f k. let z : Held i ≡ Linked = sym s ∙ f in absurd cc;
  spent = λ f. let z : is_spent y.status ≡ false = ap is_spent s in absurd cc;
  unmade = λ f. let z : Held i ≡ Unmade = sym s ∙ f in absurd cc;
}

-- a made node, given back
pub fares_back : {V : Type 0} (i : ℕ) (x y : Note) (p q : Node V) → y.owner ≡ None → y.status ≡ Back → q.destroyed ≡ true → Fares i x y p q
fares_back i x y p q o s d = record {
  owner = λ j f. let z : None ≡ Some j = sym o ∙ f in absurd cc;
  handed = λ j f. let z : None ≡ Some j = sym o ∙ f in absurd cc;
  held = λ j f. let z : Back ≡ Held j = sym s ∙ f in absurd cc;
  gone = λ f. let z : Back ≡ Gone = sym s ∙ f in absurd cc;
  locked = λ f k. let z : Back ≡ Linked = sym s ∙ f in absurd cc;
  spent = λ f. inl d;
  unmade = λ f. let z : Back ≡ Unmade = sym s ∙ f in absurd cc;
}

-- how a step of call i leaves a node: as it was, below another parent, changed under its lock, or out of reach
pub data Touched {V : Type 0} (i : ℕ) (a : ℕ → Note) (h : ℕ → Node V) (a' : ℕ → Note) (h' : ℕ → Node V) (n : ℕ) : Type 0 where
  as_it_was : h' n ≡ h n → a' n ≡ a n → Touched i a h a' h' n
  moved : h' n ≡ h n → is_published (a n).status ≡ true → (a' n).status ≡ (a n).status → (a' n).owner ≡ (a n).owner → Touched i a h a' h' n
  under_lock : is_published (a n).status ≡ true → is_published (a' n).status ≡ true → (h' n).prefix ≡ (h n).prefix → (h n).version ≤ (h' n).version
      → ((v : ℕ) → v ≤ (h n).version → is_taken (h' n) v ≡ true → ⊥) → ((j : ℕ) → j ≢ i → (a n).owner ≡ Some j → ⊥) → WordAt (a' n) (h' n) → Fares i (a n) (a' n) (h n) (h' n) → Touched i a h a' h' n
  out_of_reach : is_published (a n).status ≡ false → ((j : ℕ) → j ≢ i → (a n).status ≡ Held j → ⊥) → (a n).owner ≡ None → WordAt (a' n) (h' n) → Fares i (a n) (a' n) (h n) (h' n) → Touched i a h a' h' n

word_moved : {V : Type 0} (x y : Note) (n n' : Node V) → n' ≡ n → y.status ≡ x.status → y.owner ≡ x.owner → WordAt x n → WordAt y n'
word_moved {V} x y n n' e s o w =
    let P : Node V → Type 0 = λ z. WordAt y z in
    subst P (sym e) (record {
      free = λ f. o ∙ w.free f;
      gone = λ g. w.gone (sym s ∙ g);
      unmade = λ f. s ∙ w.unmade f;
      stands = λ p. w.stands (sym (ap is_published s) ∙ p);
      unretired = λ l. w.unretired (sym s ∙ l);
      live = λ l. w.live (sym s ∙ l);
      keyed = λ l. w.keyed (sym s ∙ l);
    })

module _ {V : Type 0} (i : ℕ) (a : ℕ → Note) (h : ℕ → Node V) (a' : ℕ → Note) (h' : ℕ → Node V) where
  touch_version : (n : ℕ) → Touched i a h a' h' n → is_published (a n).status ≡ true → (h n).version ≤ (h' n).version
  touch_version n (moved e q f g) p = rw e (omega arith)
  touch_version n (as_it_was e f) p = rw e (omega arith)
  touch_version n (under_lock q q' pre up nt nobody w k) p = up
  touch_version n (out_of_reach q nobody o w k) p = absurd cc

  touch_prefix : (n : ℕ) → Touched i a h a' h' n → is_published (a n).status ≡ true → (h' n).prefix ≡ (h n).prefix
  touch_prefix n (moved e q f g) p = rw e refl
  touch_prefix n (as_it_was e f) p = rw e refl
  touch_prefix n (under_lock q q' pre up nt nobody w k) p = pre
  touch_prefix n (out_of_reach q nobody o w k) p = absurd cc

  touch_published : (n : ℕ) → Touched i a h a' h' n → is_published (a n).status ≡ true → is_published (a' n).status ≡ true
  touch_published n (moved e q f g) p = rw f p
  touch_published n (as_it_was e f) p = rw f p
  touch_published n (under_lock q q' pre up nt nobody w k) p = q'
  touch_published n (out_of_reach q nobody o w k) p = absurd cc

  touch_word : (n : ℕ) → Touched i a h a' h' n → (v : ℕ) → is_published (a n).status ≡ true → v ≤ (h n).version → is_taken (h' n) v ≡ true → h' n ≡ h n
  touch_word n (moved e q f g) v p le t = e
  touch_word n (as_it_was e f) v p le t = e
  touch_word n (under_lock q q' pre up nt nobody w k) v p le t = absurd (nt v le t)
  touch_word n (out_of_reach q nobody o w k) v p le t = absurd cc

  touch_mine : (j n : ℕ) → j ≢ i → Touched i a h a' h' n → (a n).owner ≡ Some j → (h' n ≡ h n) × ((a' n).status ≡ (a n).status) × ((a' n).owner ≡ (a n).owner)
  touch_mine j n ne (moved e q f g) p = (e, f, g)
  touch_mine j n ne (as_it_was e f) p = (e, ap (λ x. x.status) f, ap (λ x. x.owner) f)
  touch_mine j n ne (under_lock q q' pre up nt nobody w k) p = absurd (nobody j ne p)
  touch_mine j n ne (out_of_reach q nobody o w k) p = absurd cc

  touch_held : (j n : ℕ) → j ≢ i → Touched i a h a' h' n → (a n).status ≡ Held j → (h' n ≡ h n) × (a' n ≡ a n)
  touch_held j n ne (moved e q f g) p = let z : is_published (a n).status ≡ false = ap is_published p in absurd cc
  touch_held j n ne (as_it_was e f) p = (e, f)
  touch_held j n ne (under_lock q q' pre up nt nobody w k) p = let z : is_published (a n).status ≡ false = ap is_published p in absurd cc
  touch_held j n ne (out_of_reach q nobody o w k) p = absurd (nobody j ne p)

  touch_at : (n : ℕ) → WordAt (a n) (h n) → Touched i a h a' h' n → WordAt (a' n) (h' n)
  touch_at n x (moved e q f g) = word_moved (a n) (a' n) (h n) (h' n) e f g x
  touch_at n x (as_it_was e f) = word_moved (a n) (a' n) (h n) (h' n) e (ap (λ y. y.status) f) (ap (λ y. y.owner) f) x
  touch_at n x (under_lock q q' pre up nt nobody w k) = w
  touch_at n x (out_of_reach q nobody o w k) = w

  touch_fares : (n : ℕ) → Touched i a h a' h' n → Fares i (a n) (a' n) (h n) (h' n)
  touch_fares n (moved e q f g) = fares_same i (a n) (a' n) (h n) (h' n) e f g
  touch_fares n (as_it_was e f) = fares_same i (a n) (a' n) (h n) (h' n) e (ap (λ z. z.status) f) (ap (λ z. z.owner) f)
  touch_fares n (under_lock q q' pre up nt nobody w k) = k
  touch_fares n (out_of_reach q nobody o w k) = k

  -- a step that leaves a tree and touches each node in one of these ways leaves what other calls count on
  pub touched_effect : LockWords a h → Tree a' h' → (h' 0).capacity ≡ (h 0).capacity → ((n : ℕ) → Touched i a h a' h' n) → Effect i a h a' h'
  touched_effect w t c touch = record {
    tree = t;
    words = record { each = λ n. touch_at n (w.each n) (touch n); wide = c ∙ w.wide };
    others = λ j ne. record {
      version = λ n _ p. touch_version n (touch n) p;
      prefix = λ n _ p. touch_prefix n (touch n) p;
      published = λ n _ p. touch_published n (touch n) p;
      word = λ n v _ p le q. touch_word n (touch n) v p le q;
      mine = λ n p. touch_mine j n ne (touch n) p;
      held = λ n p. touch_held j n ne (touch n) p;
    };
    fares = λ n. touch_fares n (touch n);
  }

-- what a lock word tells
taken_free : {V : Type 0} (n : Node V) (v : ℕ) → is_taken n v ≡ true → is_free n ≡ true
taken_free n v t = (both_true (n.version == v) (is_free n) t).1

-- the word of a locked node is none that was taken
pub not_taken : {V : Type 0} (n : Node V) (v : ℕ) → n.locked ≡ true → is_taken n v ≡ true → ⊥
not_taken n v l t = let f : is_free n ≡ true = taken_free n v t in
    let g : not n.locked ≡ true = (both_true (not n.locked) (not n.obsolete) f).0 in let k : not n.locked ≡ false = ap not l in cc

unlocked : (b : Bool) → not b ≡ true → b ≡ false
unlocked true e = absurd cc
unlocked false e = refl

-- a node whose word is the one taken isn't locked
pub taken_not_locked : {V : Type 0} (n : Node V) (v : ℕ) → is_taken n v ≡ true → n.locked ≡ false
taken_not_locked n v t = unlocked n.locked (both_true (not n.locked) (not n.obsolete) (taken_free n v t)).0

-- a locked node isn't free
pub locked_not_free : {V : Type 0} (n : Node V) → n.locked ≡ true → is_free n ≡ false
locked_not_free n l = rw l refl

-- a node that a call owns is locked
pub owner_locked : {V : Type 0} (a : ℕ → Note) (h : ℕ → Node V) → LockWords a h → (n i : ℕ) → (a n).owner ≡ Some i → (h n).locked ≡ true
owner_locked a h w n i o = true_from_ne_false (h n).locked (λ f. let e : (a n).owner ≡ None = (w.each n).free f in cc)

-- a node that was taken is in the tree
linked_from : (s : Status) → is_published s ≡ true → (s ≡ Gone → ⊥) → s ≡ Linked
linked_from Linked p g = refl
linked_from Gone p g = absurd (g refl)
linked_from _ p g = absurd cc

-- a node that is or was in reach, and whose word is the one taken, is in the tree
pub taken_linked : {V : Type 0} (a : ℕ → Note) (h : ℕ → Node V) → LockWords a h → (n v : ℕ) → is_published (a n).status ≡ true → is_taken (h n) v ≡ true → (a n).status ≡ Linked
taken_linked a h w n v p f = linked_from (a n).status p (λ g. let e : is_free (h n) ≡ false = (w.each n).gone g in let e' : is_free (h n) ≡ true = taken_free (h n) v f in cc)

-- the tree where prefixes, children and places stay
pub tree_same : {V : Type 0} (a : ℕ → Note) (h : ℕ → Node V) (a' : ℕ → Note) (h' : ℕ → Node V) → Tree a h
    → ((m : ℕ) → (a' m).status ≡ (a m).status) → ((m : ℕ) → (a' m).parent ≡ (a m).parent) → ((m : ℕ) → (h' m).prefix ≡ (h m).prefix) → ((m b : ℕ) → (h' m).children b ≡ (h m).children b) → Tree a' h'
tree_same a h a' h' t st pa pr ch = record {
  root = st 0 ∙ t.root;
  empty = pr 0 ∙ t.empty;
  short = λ n l. rw (pr n) (t.short n (sym (st n) ∙ l));
  leaves = λ n b v l e. rw (pr n) (t.leaves n b v (sym (st n) ∙ l) (sym (ch n b) ∙ e));
  down = λ n b c l e. let i : IsChild a h n b c = t.down n b c (sym (st n) ∙ l) (sym (ch n b) ∙ e) in record {
    linked = st c ∙ i.linked;
    parent = pa c ∙ i.parent;
    fitted = rw (pr n, pr c) i.fitted;
    longer = rw (pr n, pr c) i.longer;
    byte = rw (pr n, pr c) i.byte;
  };
  up = λ n l ne. let u : HasParent a h n = t.up n (sym (st n) ∙ l) ne in record {
    linked = rw (pa n) (st (a n).parent ∙ u.linked);
    byte = u.byte;
    holds = rw (pa n) (ch (a n).parent u.byte ∙ u.holds);
  };
}

-- the map where prefixes and children stay
pub same_map : {V : Type 0} (h h' : ℕ → Node V) → ((m : ℕ) → (h' m).prefix ≡ (h m).prefix) → ((m b : ℕ) → (h' m).children b ≡ (h m).children b)
    → (f n : ℕ) (key : List ℕ) → walk h' f n key ≡ walk h f n key
same_map h h' pr ch zero n key = refl
same_map h h' pr ch (suc f) n key = step_same h h' f f n key (pr n) (λ _. ch n _) (λ c _. same_map h h' pr ch f c key)

-- a fact of two nodes that are equal but at n, where it is known
pub but_one : {V : Type 0} (T : Node V → Node V → Type 0) (h h' : ℕ → Node V) (n : ℕ) → ((x : Node V) → T x x) → ((m : ℕ) → m ≢ n → h' m ≡ h m) → T (h' n) (h n) → (m : ℕ) → T (h' m) (h m)
but_one {V} T h h' n id others e m = elim (same_or_not m n) [
  | inl q ↦ (let P : ℕ → Type 0 = λ k. T (h' k) (h k) in subst P (sym q) e)
  | inr ne ↦ (let P : Node V → Type 0 = λ x. T x (h m) in subst P (sym (others m ne)) (id (h m)))
]

-- the same of notes
pub but_note : (T : Note → Note → Type 0) (a a' : ℕ → Note) (n : ℕ) → ((x : Note) → T x x) → ((m : ℕ) → m ≢ n → a' m ≡ a m) → T (a' n) (a n) → (m : ℕ) → T (a' m) (a m)
but_note T a a' n id others e m = elim (same_or_not m n) [
  | inl q ↦ (let P : ℕ → Type 0 = λ k. T (a' k) (a k) in subst P (sym q) e)
  | inr ne ↦ (let P : Note → Type 0 = λ x. T x (a m) in subst P (sym (others m ne)) (id (a m)))
]

-- each node as it was but one, which is touched
pub touch_one : {V : Type 0} (i : ℕ) (a : ℕ → Note) (h : ℕ → Node V) (a' : ℕ → Note) (h' : ℕ → Node V) (n : ℕ)
    → ((m : ℕ) → m ≢ n → h' m ≡ h m) → ((m : ℕ) → m ≢ n → a' m ≡ a m) → Touched i a h a' h' n → (m : ℕ) → Touched i a h a' h' m
touch_one i a h a' h' n sh sa t m = elim (same_or_not m n) [
  | inl q ↦ (let P : ℕ → Type 0 = λ k. Touched i a h a' h' k in subst P (sym q) t)
  | inr ne ↦ as_it_was (sh m ne) (sa m ne)
]
