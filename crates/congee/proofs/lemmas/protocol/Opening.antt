-- Where a tree begins, with a root alone, calls may begin.
use Rattle.std.proofs.Common.{◌≡◌, ◌≢◌, ℕ, zero, suc, ◌==◌, true, false, cond, List, [], ◌∷◌, ◌++◌, ◌⊎◌, inl, inr, refl, sym, ◌∙◌, subst, arith}
use Rattle.std.specs.Prelude.{Option, None, Some, slice_get}
use Rattle.std.specs.FinMap.{empty, get-empty}
use Rattle.std.specs.Ordering.{nat_cmp}
use Rattle.congee.specs.declared.protocol.machine.Machine.{Machine}
use Rattle.congee.specs.Heap.{Node, Hung, Nothing, Below, Holds, Stands, fits, of_child, walk, value_at}
use Rattle.congee.specs.Keys.{key_bytes, IsMapOf}
use Rattle.congee.specs.Notes.{Note, Unmade, Held, Linked, Gone, is_published, is_spent, Tree, LockWords}
use Rattle.congee.specs.protocol.Opening.{RootAlone, FreshRoot}
use Rattle.congee.specs.protocol.Holdings.{Rests}
use Rattle.congee.specs.protocol.Play.{IsNew, Begins}
use Rattle.congee.proofs.lemmas.Fits.{equal_of_test}
use Rattle.congee.proofs.lemmas.protocol.Touch.{by_test}
use Rattle.congee.proofs.lemmas.protocol.Keyed.{begins_key}

-- the notes of a tree that begins: the root is in the tree, and no other node was made
unfoldable pub opened : ℕ → Note
opened n = cond (n == 0) (record { status = Linked; owner = None; parent = 0 }) (record { status = Unmade; owner = None; parent = 0 })

opened_linked : (n : ℕ) → (opened n).status ≡ Linked → n ≡ 0
unfolding opened
opened_linked n = by_test (λ (x : Note). x.status ≡ Linked → n ≡ 0) (n == 0) _ _ (λ t _. equal_of_test n 0 t) (λ _ l. let z : Unmade ≡ Linked = l in cc)

opened_published : (n : ℕ) → is_published (opened n).status ≡ true → n ≡ 0
unfolding opened
opened_published n = by_test (λ (x : Note). is_published x.status ≡ true → n ≡ 0) (n == 0) _ _ (λ t _. equal_of_test n 0 t) (λ _ l. let z : false ≡ true = l in cc)

opened_owner : (n : ℕ) → (opened n).owner ≡ None
unfolding opened
opened_owner n = by_test (λ (x : Note). x.owner ≡ None) (n == 0) _ _ (λ _. refl) (λ _. refl)

opened_gone : (n : ℕ) → (opened n).status ≡ Gone → ⊥
unfolding opened
opened_gone n = by_test (λ (x : Note). x.status ≡ Gone → ⊥) (n == 0) _ _ (λ _ l. let z : Linked ≡ Gone = l in cc) (λ _ l. let z : Unmade ≡ Gone = l in cc)

opened_unmade : (n : ℕ) → n ≢ 0 → (opened n).status ≡ Unmade
unfolding opened
opened_unmade n ne = by_test (λ (x : Note). x.status ≡ Unmade) (n == 0) _ _ (λ t. absurd (ne (equal_of_test n 0 t))) (λ _. refl)

opened_root : (opened 0).status ≡ Linked
unfolding opened
opened_root = refl

module _ {V : Type 0} (h : ℕ → Node V) (r : RootAlone h) where
  -- a root alone is a tree
  pub opening_tree : Tree opened h
  opening_tree = record {
    root = opened_root;
    empty = r.empty;
    short = λ n l. rw (opened_linked n l, r.empty) (omega arith);
    leaves = λ n b v l e. absurd (let z : Nothing ≡ Holds v = sym (r.bare b) ∙ (let P : ℕ → Type 0 = λ x. (h x).children b ≡ Holds v in subst P (opened_linked n l) e) in cc);
    down = λ n b c l e. absurd (let z : Nothing ≡ Below c = sym (r.bare b) ∙ (let P : ℕ → Type 0 = λ x. (h x).children b ≡ Below c in subst P (opened_linked n l) e) in cc);
    up = λ n l ne. absurd (ne (opened_linked n l));
  }

  -- where the root stands alone, each node's lock word and life agree with its note
  pub opening_words : LockWords opened h
  opening_words = record {
    each = λ n. record {
      free = λ _. opened_owner n;
      gone = λ g. absurd (opened_gone n g);
      unmade = λ e. opened_unmade n (λ z. let f : (h 0).made ≡ false = (let P : ℕ → Type 0 = λ x. (h x).made ≡ false in subst P z e) in let g : (h 0).made ≡ true = r.stands.made in cc);
      stands = λ p. let P : ℕ → Type 0 = λ x. Stands (h x) in subst P (sym (opened_published n p)) r.stands;
      unretired = λ l. let P : ℕ → Type 0 = λ x. (h x).retired ≡ false in subst P (sym (opened_linked n l)) r.unretired;
      live = λ l. let P : ℕ → Type 0 = λ x. (h x).obsolete ≡ false in subst P (sym (opened_linked n l)) r.live;
      keyed = λ l. begins_key (h n).prefix 0 (rw (opened_linked n l, r.empty) refl);
    };
    wide = r.wide;
  }

  -- no key stands in it
  pub standing_none : IsMapOf h empty
  standing_none = record {
    at = λ k p. get-empty nat_cmp k ∙ sym (no_value k);
    none_beyond = λ k p. get-empty nat_cmp k;
  } where
    none_at : (f : ℕ) (key : List ℕ) (x : Hung V) → x ≡ Nothing → of_child (λ c. walk h f c key) x ≡ None
    none_at f key x e = rw e refl

    no_value : (k : ℕ) → value_at h (key_bytes k) ≡ None
    no_value k = by_test (λ (o : Option V). o ≡ None) (fits (h 0).prefix (key_bytes k)) _ _ (λ _. none_at 7 (key_bytes k) _ (r.bare _)) (λ _. refl)

opened_held : (n i : ℕ) → (opened n).status ≡ Held i → ⊥
unfolding opened
opened_held n i = by_test (λ (x : Note). x.status ≡ Held i → ⊥) (n == 0) _ _ (λ _ l. let z : Linked ≡ Held i = l in cc) (λ _ l. let z : Unmade ≡ Held i = l in cc)

opened_spent : (n : ℕ) → is_spent (opened n).status ≡ true → ⊥
unfolding opened
opened_spent n = by_test (λ (x : Note). is_spent x.status ≡ true → ⊥) (n == 0) _ _ (λ _ l. let z : false ≡ true = l in cc) (λ _ l. let z : false ≡ true = l in cc)

-- nobody holds anything in it
pub opening_rests : {C V : Type 0} (number : C → ℕ) (h : ℕ → Node V) → FreshRoot h → Rests {V = V} number opened h
opening_rests number h r = record {
  owned = λ n i o. let z : None ≡ Some i = sym (opened_owner n) ∙ o in absurd cc;
  held = λ n i o. absurd (opened_held n i o);
  locked = λ n l o. absurd (let y : (h 0).locked ≡ true = (let P : ℕ → Type 0 = λ x. (h x).locked ≡ true in subst P (opened_linked n l) o) in let z : true ≡ false = sym y ∙ r.unlocked in cc);
  gone = λ n g. absurd (opened_gone n g);
  spent = λ n g. absurd (opened_spent n g);
  unmade = λ n u. r.others n (λ e. let y : (opened 0).status ≡ Unmade = (let P : ℕ → Type 0 = λ x. (opened x).status ≡ Unmade in subst P e u) in let z : Linked ≡ Unmade = sym opened_root ∙ y in cc);
}

-- one new call on such a tree
pub opening_one : {C V : Type 0} (number : C → ℕ) (h : ℕ → Node V) (m : Machine C V) → RootAlone h → number m.root ≡ 0 → IsNew m → Begins number h (m ∷ [])
opening_one {C} {V} number h m r z n = record {
  notes = opened;
  tree = opening_tree h r;
  words = opening_words h r;
  root = λ i x e. (let P : Machine C V → Type 0 = λ y. number y.root ≡ 0 in subst P (only i x e) z);
  new = λ i x e. (let P : Machine C V → Type 0 = λ y. IsNew y in subst P (only i x e) n);
} where
  only : (i : ℕ) (x : Machine C V) → slice_get (m ∷ []) i ≡ Some x → m ≡ x
  only zero x e = cc
  only (suc i) x e = absurd cc

-- no call yet
pub opening_none : {C V : Type 0} (number : C → ℕ) (h : ℕ → Node V) → RootAlone h → Begins {C = C} number h []
opening_none number h r = record {
  notes = opened;
  tree = opening_tree h r;
  words = opening_words h r;
  root = λ i m e. absurd cc;
  new = λ i m e. absurd cc;
}

-- one more new call beside others
pub opening_more : {C V : Type 0} (number : C → ℕ) (h : ℕ → Node V) (ms : List (Machine C V)) (m : Machine C V) → Begins number h ms → number m.root ≡ 0 → IsNew m → Begins number h (ms ++ m ∷ [])
opening_more {C} {V} number h ms m b z n = record {
  notes = b.notes;
  tree = b.tree;
  words = b.words;
  root = λ i x e. elim (among ms i x e) [
    | inl y ↦ b.root i x y
    | inr y ↦ (let P : Machine C V → Type 0 = λ y. number y.root ≡ 0 in subst P y z)
  ];
  new = λ i x e. elim (among ms i x e) [
    | inl y ↦ b.new i x y
    | inr y ↦ (let P : Machine C V → Type 0 = λ y. IsNew y in subst P y n)
  ];
} where
  among : (xs : List (Machine C V)) (i : ℕ) (x : Machine C V) → slice_get (xs ++ m ∷ []) i ≡ Some x → (slice_get xs i ≡ Some x) ⊎ (m ≡ x)
  among [] zero x e = inr cc
  among [] (suc i) x e = absurd cc
  among (y ∷ xs) zero x e = inl e
  among (y ∷ xs) (suc i) x e = among xs i x e
