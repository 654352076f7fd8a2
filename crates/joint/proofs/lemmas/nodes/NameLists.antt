-- The names among the children from one on.
use Rattle.std.proofs.Common.{◌≡◌, ℕ, zero, suc, ◌+◌, ◌≤◌, arith, List, [], ◌∷◌, length, drop, refl, sym, ◌∙◌, ap}
use Rattle.std.specs.Prelude.{Option, None, Some, slice_get}
use Rattle.crossbeam_epoch.specs.declared.names.Name.{Name}
use Rattle.congee.specs.declared.forms.child.Child.{Child}
use Rattle.congee.specs.declared.forms.child.Child.TheVariants.{Node as Sub}
use Rattle.joint.specs.declared.id.Id.{Id}
use Rattle.joint.specs.nodes.Slots.{and_name, names_in}

abbrev from : {A : Type 0} → A → Option A → A
from d None = d
from d (Some y) = y

-- the names from a child on: its own, if it is a node, and those after it
pub drop_next : {P : Type 0} (es : List (ℕ × Child Id P)) (k : ℕ) (e : ℕ × Child Id P) → slice_get es k ≡ Some e → names_in (drop k es) ≡ and_name e.1 (names_in (drop (k + 1) es))
drop_next [] zero e q = absurd (cc q)
drop_next [] (suc k) e q = absurd (cc q)
drop_next {P} (x ∷ es) zero e q = let z : x ≡ e = ap (from x) q in ap (λ y. and_name y.1 (names_in es)) z
drop_next {P} (x ∷ es) (suc k) e q = (let z : suc k + 1 ≡ suc (k + 1) = omega arith in drop_next es k e q ∙ ap (λ j. and_name e.1 (names_in (drop j (x ∷ es)))) (sym z))

-- past the last child there are no names
drop_end : {P : Type 0} (es : List (ℕ × Child Id P)) (k : ℕ) → length es ≤ k → names_in (drop k es) ≡ []
drop_end [] zero l = refl
drop_end [] (suc k) l = refl
drop_end (x ∷ es) zero l = absurd (omega (arith, l))
drop_end (x ∷ es) (suc k) l = drop_end es k (omega (arith, l))

-- the first name from a child on that is a node is its own
pub name_here : {P : Type 0} (es : List (ℕ × Child Id P)) (k left b : ℕ) (c : Child Id P) (id : Id) (r : Option Name) → Some (b, c) ≡ slice_get es k → c ≡ Sub id → left ≡ 0
    → slice_get (names_in (drop k es)) left ≡ r → Some id.name ≡ r
name_here es k left b c id r q e z v =
    let n : names_in (drop k es) ≡ id.name ∷ names_in (drop (k + 1) es) = drop_next es k (b, c) (sym q) ∙ ap (λ x. and_name x (names_in (drop (k + 1) es))) e in
    ap (λ (i : ℕ). slice_get (id.name ∷ names_in (drop (k + 1) es)) i) (sym z) ∙ ap (λ xs. slice_get xs left) (sym n) ∙ v

-- a name that is looked for behind a child that is a node is one place nearer after it
pub name_later : {P : Type 0} (es : List (ℕ × Child Id P)) (k left less b : ℕ) (c : Child Id P) (id : Id) (r : Option Name) → Some (b, c) ≡ slice_get es k → c ≡ Sub id → left ≡ suc less
    → slice_get (names_in (drop k es)) left ≡ r → slice_get (names_in (drop (k + 1) es)) less ≡ r
name_later es k left less b c id r q e z v =
    let n : names_in (drop k es) ≡ id.name ∷ names_in (drop (k + 1) es) = drop_next es k (b, c) (sym q) ∙ ap (λ x. and_name x (names_in (drop (k + 1) es))) e in
    ap (λ (i : ℕ). slice_get (id.name ∷ names_in (drop (k + 1) es)) i) (sym z) ∙ ap (λ xs. slice_get xs left) (sym n) ∙ v

-- behind a child that isn't a node it is at the same place
pub no_name : {P : Type 0} (es : List (ℕ × Child Id P)) (k left b : ℕ) (c : Child Id P) (r : Option Name) → Some (b, c) ≡ slice_get es k → ((xs : List Name) → and_name c xs ≡ xs)
    → slice_get (names_in (drop k es)) left ≡ r → slice_get (names_in (drop (k + 1) es)) left ≡ r
no_name es k left b c r q e v = ap (λ xs. slice_get xs left) (sym (drop_next es k (b, c) (sym q) ∙ e (names_in (drop (k + 1) es)))) ∙ v

-- and so it is where there is no child
pub past_name : {P : Type 0} (es : List (ℕ × Child Id P)) (k left : ℕ) (r : Option Name) → None ≡ slice_get es k → slice_get (names_in (drop k es)) left ≡ r → slice_get (names_in (drop (k + 1) es)) left ≡ r
past_name {P} es k left r q v = ap (λ xs. slice_get xs left) (nothing es k q) ∙ v
  where
    nothing : (es : List (ℕ × Child Id P)) (k : ℕ) → None ≡ slice_get es k → names_in (drop (k + 1) es) ≡ names_in (drop k es)
    nothing [] zero q = refl
    nothing [] (suc k) q = (let z : suc k + 1 ≡ suc (k + 1) = omega arith in ap (λ j. names_in {P = P} (drop j [])) z)
    nothing (x ∷ es) zero q = absurd (cc q)
    nothing (x ∷ es) (suc k) q = let z : suc k + 1 ≡ suc (k + 1) = omega arith in ap (λ j. names_in (drop j (x ∷ es))) z ∙ nothing es k q

-- past the last child no name is found
pub last_name : {P : Type 0} (es : List (ℕ × Child Id P)) (k left : ℕ) (r : Option Name) → length es ≤ k → slice_get (names_in (drop k es)) left ≡ r → None ≡ r
last_name es k left r l v = ap (λ (xs : List Name). slice_get xs left) (sym (drop_end es k l)) ∙ v
