-- Moments, and what is looked up in lists of plots, blocks, tenures and calls.
use Rattle.std.proofs.Common.{◌≡◌, ◌≢◌, ℕ, zero, suc, ◌+◌, ◌/◌, ◌%◌, ◌<◌, ◌≤◌, ◌⊎◌, eqb, Bool, true, false, List, [], ◌∷◌, ◌++◌, length, get_or, replicate, if◌then◌else◌, sym, refl, ap, ◌∙◌, subst, inl, inr, ⊎_elim, arith, le_refl, le_trans, eq-eqb, ne_eqb, Option, None, Some}
use mathlib.Core.Option.{some, some-injective, some-ne-none}
use mathlib.Core.List.{append-nil, append_assoc}
use lib.ListN.{get_elem?}
use Rattle.optimistic.specs.Layout.{width, is_link}
use Rattle.optimistic.specs.declared.words.nodes.Uncarved.{Uncarved}
use Rattle.optimistic.specs.declared.words.nodes.Uncarved.TheVariants as uncarved
use Rattle.optimistic.specs.declared.words.rule.Block.{Block}
use Rattle.optimistic.specs.declared.words.rule.Entry.{Entry}
use Rattle.optimistic.specs.declared.words.rule.Moment.{Moment}
use Rattle.optimistic.specs.declared.words.rule.Plot.{Plot}
use Rattle.optimistic.specs.declared.words.rule.Tenure.{Tenure}
use Rattle.optimistic.specs.declared.words.rule.View.{View}
use Rattle.optimistic.specs.words.Kept.{word_at, version_at, form_at, size, calm_at, has, calls_by, value_after, Calm, Since, Follows, Held, Names, nothing, plot, block}
use Rattle.optimistic.specs.words.Room.{IsUncarved}
use Rattle.optimistic.specs.words.Told.{tenure, signed, decided, also, HasAlso, HasForm, Tells}

-- how many words a node of each form has
pub width_more : (f : ℕ) → 0 < f → f < 9 → 7 < width f
unfolding width
width_more f l l' = go (eqb f 1) (eqb f 2) (eqb f 3) (eqb f 4) (eqb f 5) (eqb f 6) (eqb f 7) (eqb f 8) refl refl refl refl refl refl refl refl
  where
    none : (x : ℕ) → eqb f x ≡ false → f ≢ x
    none x e q = let t : eqb f x ≡ true = eq-eqb f x q in let b : true ≡ false = sym t ∙ e in grind arith

    go : (a b c d e h i j : Bool) → eqb f 1 ≡ a → eqb f 2 ≡ b → eqb f 3 ≡ c → eqb f 4 ≡ d → eqb f 5 ≡ e → eqb f 6 ≡ h → eqb f 7 ≡ i → eqb f 8 ≡ j
        → 7 < (if a then 12 else (if b then 40 else (if c then 112 else (if d then 520 else (if e then 8 else (if h then 24 else (if i then 64 else (if j then 264 else 0))))))))
    go true b c d e h i j p q r s t u v w = omega arith
    go false true c d e h i j p q r s t u v w = omega arith
    go false false true d e h i j p q r s t u v w = omega arith
    go false false false true e h i j p q r s t u v w = omega arith
    go false false false false true h i j p q r s t u v w = omega arith
    go false false false false false true i j p q r s t u v w = omega arith
    go false false false false false false true j p q r s t u v w = omega arith
    go false false false false false false false true p q r s t u v w = omega arith
    go false false false false false false false false p q r s t u v w =
        let n1 = none 1 p in let n2 = none 2 q in let n3 = none 3 r in let n4 = none 4 s in let n5 = none 5 t in let n6 = none 6 u in let n7 = none 7 v in let n8 = none 8 w in absurd (omega arith)

pub width_some : (f : ℕ) → 0 < f → f < 9 → 0 < width f
width_some f l l' = let m = width_more f l l' in omega arith

pub width_four : width 4 ≡ 520
unfolding width
width_four = refl

pub no_width : width 0 ≡ 0
unfolding width
no_width = refl

-- a version is no child word
pub version_no_link : (f : ℕ) → is_link f 0 ≡ false
unfolding is_link
version_no_link f = go (eqb f 1) (eqb f 2) (eqb f 3) (eqb f 4)
  where
    go : (a b c d : Bool) → (if a then false else (if b then false else (if c then false else (if d then false else false)))) ≡ false
    go true b c d = refl
    go false true c d = refl
    go false false true d = refl
    go false false false true = refl
    go false false false false = refl

pub not_false : (b : Bool) → b ≡ true → b ≡ false → ⊥
not_false b p q = let e : true ≡ false = sym p ∙ q in grind arith

pub link_some : (f j : ℕ) → is_link f j ≡ true → j ≢ 0
link_some f j p e = not_false (is_link f 0) (ap (λ (z : ℕ). is_link f z) (sym e) ∙ p) (version_no_link f)

-- a version is its node's word 0
pub version_word : (words : List ℕ) (n : ℕ) → version_at words n ≡ word_at words n 0
version_word words n = ap (λ (i : ℕ). get_or words i 0) (omega arith)

pub sandwich : (x y z : ℕ) → x ≤ y → y ≤ z → x ≡ z → (x ≡ y) × (y ≡ z)
sandwich x y z l m e = (omega arith, omega arith)

abbrev pub zero_words : ℕ → List ℕ
zero_words n = replicate n 0

pub zeros : (n i : ℕ) → get_or (zero_words n) i 0 ≡ 0
zeros zero i = refl
zeros (suc n) zero = refl
zeros (suc n) (suc i) = zeros n i

module _ {A : Type 0} where
  pub at_inside : (l : List A) (i : ℕ) (a : A) → get_elem? l i ≡ some a → i < length l
  at_inside [] i a e = absurd (some-ne-none a (sym e))
  at_inside (x ∷ xs) zero a e = omega arith
  at_inside (x ∷ xs) (suc i) a e = let r = at_inside xs i a e in omega arith

  pub at_end : (l : List A) (a b : A) (j : ℕ) → get_elem? (l ++ a ∷ []) j ≡ some b → (get_elem? l j ≡ some b) ⊎ ((j ≡ length l) × (a ≡ b))
  at_end [] a b zero e = inr (refl, some-injective a b e)
  at_end [] a b (suc j) e = absurd (some-ne-none b (sym e))
  at_end (x ∷ xs) a b zero e = inl e
  at_end (x ∷ xs) a b (suc j) e = ⊎_elim (λ t. inl t) (λ t. inr (ap suc t.0, t.1)) (at_end xs a b j e)

-- what is looked up where a list is longer by one
pub has_here : (n : ℕ) (b : Bool) (ts : List Tenure) → has (tenure n b ∷ ts) n ≡ b
has_here n b ts = ap (λ (z : Bool). if z then b else has ts n) (eq-eqb n n refl)

pub has_else : (n p : ℕ) (b : Bool) (ts : List Tenure) → n ≢ p → has (tenure n b ∷ ts) p ≡ has ts p
has_else n p b ts ne = ap (λ (z : Bool). if z then b else has ts p) (ne_eqb n p ne)

pub calm_here : (n : ℕ) (words : List ℕ) (bs : List Block) (j : ℕ) → calm_at (block n words ∷ bs) n j ≡ word_at words n j
calm_here n words bs j = ap (λ (z : Bool). if z then word_at words n j else calm_at bs n j) (eq-eqb n n refl)

pub calm_else : (n q : ℕ) (words : List ℕ) (bs : List Block) (j : ℕ) → n ≢ q → calm_at (block n words ∷ bs) q j ≡ calm_at bs q j
calm_else n q words bs j ne = ap (λ (z : Bool). if z then word_at words q j else calm_at bs q j) (ne_eqb n q ne)

pub form_here : (n f : ℕ) (ps : List Plot) → form_at (plot n f ∷ ps) n ≡ f
form_here n f ps = ap (λ (z : Bool). if z then f else form_at ps n) (eq-eqb n n refl)

pub form_else : (n f q : ℕ) (ps : List Plot) → n ≢ q → form_at (plot n f ∷ ps) q ≡ form_at ps q
form_else n f q ps ne = ap (λ (z : Bool). if z then f else form_at ps q) (ne_eqb n q ne)

-- the calls of one thread, of a log that goes on
pub calls_on : (by : ℕ) (xs ys : List Entry) → calls_by by (xs ++ ys) ≡ calls_by by xs ++ calls_by by ys
calls_on by [] ys = refl
calls_on by (x ∷ xs) ys = go (eqb x.by by) (calls_on by xs ys)
  where
    go : (b : Bool) → calls_by by (xs ++ ys) ≡ calls_by by xs ++ calls_by by ys → (if b then x ∷ calls_by by (xs ++ ys) else calls_by by (xs ++ ys)) ≡ (if b then x ∷ calls_by by xs else calls_by by xs) ++ calls_by by ys
    go true e = ap (λ (l : List Entry). x ∷ l) e
    go false e = e

pub own_calls : (by : ℕ) (e : Option Entry) → calls_by by (decided by e) ≡ decided by e
own_calls by None = refl
own_calls by (Some e) = ap (λ (z : Bool). if z then signed by e ∷ [] else []) (eq-eqb by by refl)

pub other_calls : (by who : ℕ) (e : Option Entry) → by ≢ who → calls_by who (decided by e) ≡ []
other_calls by who None ne = refl
other_calls by who (Some e) ne = ap (λ (z : Bool). if z then signed by e ∷ [] else []) (ne_eqb by who ne)

-- what a key has after a log that goes on
pub value_on : (x : Option ℕ) (key : ℕ) (xs ys : List Entry) → value_after x key (xs ++ ys) ≡ value_after (value_after x key xs) key ys
value_on x key [] ys = refl
value_on x key (e ∷ es) ys = value_on (if eqb e.key key then e.value else x) key es ys

pub calm_refl : (n : ℕ) (m : Moment) → Calm n m m
calm_refl n m j = refl

pub calm_trans : (n : ℕ) (a b c : Moment) → Calm n a b → Calm n b c → Calm n a c
calm_trans n a b c f g j = g j ∙ f j

-- what is settled beside a node is none that a thread doesn't have
pub also_else : (mine : List Tenure) (o : Option ℕ) (words : List ℕ) (bs : List Block) (p : ℕ) → HasAlso mine o → (has mine p ≡ true → ⊥) → (j : ℕ) → calm_at (also o words bs) p j ≡ calm_at bs p j
also_else mine None words bs p it not j = refl
also_else mine (Some s) words bs p it not j = calm_else s p words bs j (λ e. not (ap (λ (z : ℕ). has mine z) (sym e) ∙ it))

-- a node of one moment is one later
pub size_since : (a b : Moment) → Since a b → (n j : ℕ) → j < size a.plots n → size b.plots n ≡ size a.plots n
size_since a b s n j l = ap width (s.plots n (omega arith))

pub inside_since : (a b : Moment) → Since a b → (n j : ℕ) → j < size a.plots n → j < size b.plots n
inside_since a b s n j l = let e : size b.plots n ≡ size a.plots n = size_since a b s n j l in omega arith

pub since_refl : (m : Moment) → Since m m
since_refl m = record { log = ([], sym (append-nil m.log)); wide = refl; plots = λ n _. refl; end = le_refl (get_or m.words 0 0); grows = λ n _. le_refl (version_at m.words n); still = λ n _ _ _ j. refl }

pub since_trans : (a b c : Moment) → Since a b → Since b c → Since a c
since_trans a b c p q = record {
  log = (p.log.0 ++ q.log.0, q.log.1 ∙ (ap (λ (l : List Entry). l ++ q.log.0) p.log.1 ∙ append_assoc a.log p.log.0 q.log.0));
  wide = q.wide ∙ p.wide;
  plots = λ n l. q.plots n (inside_since a b p n 0 l) ∙ p.plots n l;
  end = le_trans p.end q.end;
  grows = λ n l. le_trans (p.grows n l) (q.grows n (inside_since a b p n 0 l));
  still = λ n l even e. let l' = inside_since a b p n 0 l in let t = sandwich (version_at a.words n) (version_at b.words n) (version_at c.words n) (p.grows n l) (q.grows n l') e in
      calm_trans n a b c (p.still n l even t.0) (q.still n l' (ap (λ (z : ℕ). z % 2) (sym t.0) ∙ even) t.1);
}

-- a moment that follows another is followed by what is since
pub since_follows : (a b : Moment) → Since a b → Follows a b
since_follows a b s = record { log = s.log; plots = s.plots }

pub follows_since : (a b c : Moment) → Follows a b → Since b c → Follows a c
follows_since a b c p q = record {
  log = (p.log.0 ++ q.log.0, q.log.1 ∙ (ap (λ (l : List Entry). l ++ q.log.0) p.log.1 ∙ append_assoc a.log p.log.0 q.log.0));
  plots = λ n l. let e : form_at b.plots n ≡ form_at a.plots n = p.plots n l in q.plots n (subst (λ (z : ℕ). 0 < width z) (sym e) l) ∙ e;
}

pub follows_nothing : (m : Moment) → Follows nothing m
follows_nothing m = record { log = (m.log, refl); plots = λ n l. absurd (let e : width 0 ≡ 0 = no_width in omega arith) }

-- what a hand has, over a chain of moments
pub held_trans : (mine : List Tenure) (a b c : Moment) → Since a b → Held mine a b → Held mine b c → Held mine a c
held_trans mine a b c s p q n h = let f = p n h in let g = q n h in ((λ j l. g.0 j (inside_since a b s n j l) ∙ f.0 j l), calm_trans n a b c f.1 g.1)

pub held_version : (mine : List Tenure) (a b : Moment) → Held mine a b → (n : ℕ) → 0 < size a.plots n → has mine n ≡ true → version_at b.words n ≡ version_at a.words n
held_version mine a b p n some_word h = version_word b.words n ∙ ((p n h).0 0 some_word ∙ sym (version_word a.words n))

pub at_nothing : (u : View) (i : ℕ) → get_elem? [] i ≡ some u → ⊥
at_nothing u i e = some-ne-none u (sym e)

-- where no room was left, none is later
pub uncarved_since : (words form : ℕ) (e : Uncarved) (a b : Moment) → Since a b → IsUncarved words form e a → IsUncarved words form e b
uncarved_since words form uncarved.Full a b s t = let l : get_or a.words 0 0 ≤ get_or b.words 0 0 = s.end in let k : words < get_or a.words 0 0 + width form = t in omega arith
uncarved_since words form uncarved.Again a b s t = tt

-- a node's name stays
pub names_since : (a b : Moment) (x : ℕ) → Since a b → Names a.plots x → Names b.plots x
names_since a b x s names l l' = let e : form_at a.plots (x / 256) ≡ x % 16 = names l l' in s.plots (x / 256) (subst (λ (z : ℕ). 0 < width z) (sym e) (width_some (x % 16) l l')) ∙ e

pub form_since : (n f : ℕ) (v w : View) → 0 < width f → HasForm n f v → Since v.seen w.seen → HasForm n f w
form_since n f v w some_word t s = record {
  is = s.plots n (subst (λ (z : ℕ). 0 < width z) (sym t.is) some_word) ∙ t.is;
  ends = subst (λ (z : ℕ). n + width f ≤ z) (sym s.wide) t.ends;
  above = t.above;
}

pub tells_since : (x : ℕ) (v w : View) → Tells x v → Since v.seen w.seen → Tells x w
tells_since x v w t s l l' = form_since (x / 256) (x % 16) v w (width_some (x % 16) l l') (t l l') s

pub root_since : (v w : View) → HasForm 16 4 v → Since v.seen w.seen → HasForm 16 4 w
root_since v w t s = form_since 16 4 v w (width_some 4 (omega arith) (omega arith)) t s
