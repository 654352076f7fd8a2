-- The steps of a call that make nodes, and those in which made nodes go back.
use Rattle.std.proofs.Common.{◌≡◌, ◌≢◌, ℕ, ◌<◌, inl, inr, true, false, List, refl, sym, ◌∙◌, ap, subst, arith}
use Rattle.std.specs.Prelude.{None}
use Rattle.congee.specs.declared.forms.base_node.NodeType.{NodeType}
use Rattle.congee.specs.declared.protocol.phase.Placement.{Placement}
use Rattle.congee.specs.declared.protocol.phase.Placement.TheVariants.{Set, Link}
use Rattle.congee.specs.declared.protocol.phase.Parent.{Parent}
use Rattle.congee.specs.declared.protocol.phase.Replacement.{Replacement}
use Rattle.congee.specs.declared.protocol.phase.Replacement.TheVariants.{Unlink, Grow, GrowLink, Split, Shrink, Collapse, ShrinkAbove}
use Rattle.congee.specs.Heap.{Node, is_taken}
use Rattle.congee.specs.Keys.{key_bytes}
use Rattle.congee.specs.protocol.Events.{NewNode, BackGives, places}
use Rattle.congee.specs.protocol.Steps.{BackHere, BackAbove}
use Rattle.congee.specs.Notes.{Note, Held, Back, is_published, Tree, LockWords}
use Rattle.congee.specs.protocol.Protocol.{Rely, Made, MadeHere, MadeAbove, Fares}
use Rattle.congee.proofs.lemmas.Tree.{same_or_not}
use Rattle.congee.proofs.lemmas.protocol.Touch.{fares_same, fares_back, noted_same, noted_other, as_it_was, touched_effect}
use Rattle.congee.proofs.lemmas.protocol.Words.{KeepsMap, making, backed, back_still}
use Rattle.congee.proofs.lemmas.protocol.Change.{made_apart}
use Rattle.congee.proofs.lemmas.protocol.Locks.{made_same}
use Rattle.congee.proofs.lemmas.protocol.Keyed.{begins_key}

-- two steps of one call, one after the other
rely_then : {V : Type 0} (j : ℕ) (a : ℕ → Note) (h : ℕ → Node V) (a1 : ℕ → Note) (h1 : ℕ → Node V) (a2 : ℕ → Note) (h2 : ℕ → Node V)
    → Rely (λ _. Unit {0}) j a h a1 h1 → Rely (λ _. Unit {0}) j a1 h1 a2 h2 → Rely (λ _. Unit {0}) j a h a2 h2
rely_then {V} j a h a1 h1 a2 h2 r s = record {
  version = λ n k p. omega (arith, r.version n k p, s.version n k (r.published n k p));
  prefix = λ n k p. s.prefix n k (r.published n k p) ∙ r.prefix n k p;
  published = λ n k p. s.published n k (r.published n k p);
  word = λ n v k p le q. let e : h2 n ≡ h1 n = s.word n v k (r.published n k p) (omega (arith, le, r.version n k p)) q in
      e ∙ r.word n v k p le (let P : Node V → Type 0 = λ x. is_taken x v ≡ true in subst P e q);
  mine = λ n o. let e : (h1 n ≡ h n) × ((a1 n).status ≡ (a n).status) × ((a1 n).owner ≡ (a n).owner) = r.mine n o in
      let f : (h2 n ≡ h1 n) × ((a2 n).status ≡ (a1 n).status) × ((a2 n).owner ≡ (a1 n).owner) = s.mine n (e.2 ∙ o) in (f.0 ∙ e.0, f.1 ∙ e.1, f.2 ∙ e.2);
  held = λ n o. let e : (h1 n ≡ h n) × (a1 n ≡ a n) = r.held n o in
      let f : (h2 n ≡ h1 n) × (a2 n ≡ a1 n) = s.held n (ap (λ x. x.status) e.1 ∙ o) in (f.0 ∙ e.0, f.1 ∙ e.1);
}

still_then : {V : Type 0} (i : ℕ) (a : ℕ → Note) (h : ℕ → Node V) (a1 : ℕ → Note) (h1 : ℕ → Node V) (a2 : ℕ → Note) (h2 : ℕ → Node V) → KeepsMap i a h a1 h1 → KeepsMap i a1 h1 a2 h2 → ((n : ℕ) → Fares i (a n) (a2 n) (h n) (h2 n)) → KeepsMap i a h a2 h2
still_then i a h a1 h1 a2 h2 r s f = record {
  effect = record {
    tree = s.effect.tree;
    words = s.effect.words;
    others = λ j ne. rely_then j a h a1 h1 a2 h2 (r.effect.others j ne) (s.effect.others j ne);
    fares = f;
  };
  map = λ x l. s.map x l ∙ r.map x l;
}

-- made nodes have gone back, and nothing else changed
pub record Backed {V : Type 0} (i : ℕ) (a : ℕ → Note) (h : ℕ → Node V) (h' : ℕ → Node V) : Type 0 where
  pub notes : ℕ → Note
  pub still : KeepsMap i a h notes h'
  pub keeps : (n : ℕ) → is_published (a n).status ≡ true → notes n ≡ a n

-- where all nodes are as they were, none went back
pub back_none : {V : Type 0} (i : ℕ) (a : ℕ → Note) (h : ℕ → Node V) (h' : ℕ → Node V) → Tree a h → LockWords a h → h' ≡ h → Backed i a h h'
back_none {V} i a h h' t w e =
    let P : (ℕ → Node V) → Type 0 = λ g. Backed i a h g in
    subst P (sym e) (record { notes = a; still = record { effect = touched_effect i a h a h w t refl (λ n. as_it_was refl refl); map = λ x _. refl }; keeps = λ n _. refl })

-- one made node goes back
pub back_node : {V : Type 0} (i : ℕ) (a : ℕ → Note) (h : ℕ → Node V) (key : List ℕ) (c size least : ℕ) (h' : ℕ → Node V) → Tree a h → LockWords a h → Made i a h key c size least → BackGives h c h' → Backed i a h h'
back_node i a h key c size least h' t w m g = record {
  notes = backed a c;
  still = back_still i a h key c size least h' t w m g;
  keeps = λ n p. noted_other a c _ n (λ e. made_apart i a h key c size least n m p (sym e));
}

-- two made nodes go back, one after the other
pub back_nodes : {V : Type 0} (i : ℕ) (a : ℕ → Note) (h : ℕ → Node V) (key : List ℕ) (c size least d : ℕ) (h1 h' : ℕ → Node V) → Tree a h → LockWords a h → Made i a h key c size least → Made i a h key d 7 0 → c ≢ d
    → BackGives h d h1 → BackGives h1 c h' → Backed i a h h'
back_nodes i a h key c size least d h1 h' t w mc md ne g k =
    let s : KeepsMap i a h (backed a d) h1 = back_still i a h key d 7 0 h1 t w md g in
    let mc' : Made i (backed a d) h1 key c size least = made_same i a h (backed a d) h1 key c size least (g.others c ne) (noted_other a d _ c ne) mc in
    let s' : KeepsMap i (backed a d) h1 (backed (backed a d) c) h' = back_still i (backed a d) h1 key c size least h' s.effect.tree s.effect.words mc' k in
    let last : backed (backed a d) c c ≡ record { status = Back; owner = None; parent = 0 } = noted_same (backed a d) c _ in
    let first : backed (backed a d) c d ≡ record { status = Back; owner = None; parent = 0 } = noted_other (backed a d) c _ d (λ e. ne (sym e)) ∙ noted_same a d _ in
    let fares : (n : ℕ) → Fares i (a n) (backed (backed a d) c n) (h n) (h' n) = λ n. elim (same_or_not n c) [
      | inl q ↦ (let P : ℕ → Type 0 = λ y. Fares i (a y) (backed (backed a d) c y) (h y) (h' y) in
          subst P (sym q) (fares_back i (a c) _ (h c) (h' c) (rw last refl) (rw last refl) k.gone))
      | inr nc ↦ elim (same_or_not n d) [
        | inl q ↦ (let P : ℕ → Type 0 = λ y. Fares i (a y) (backed (backed a d) c y) (h y) (h' y) in
            subst P (sym q) (fares_back i (a d) _ (h d) (h' d) (rw first refl) (rw first refl) (rw (k.others d (λ e. ne (sym e))) g.gone)))
        | inr nd ↦ (let e : backed (backed a d) c n ≡ a n = noted_other (backed a d) c _ n nc ∙ noted_other a d _ n nd in
            fares_same i (a n) _ (h n) (h' n) (k.others n nc ∙ g.others n nd) (ap (λ z. z.status) e) (ap (λ z. z.owner) e))
      ]
    ] in
    record {
      notes = backed (backed a d) c;
      still = still_then i a h (backed a d) h1 (backed (backed a d) c) h' s s' fares;
      keeps = λ n p. noted_other (backed a d) c _ n (λ e. made_apart i a h key c size least n mc p (sym e)) ∙ noted_other a d _ n (λ e. made_apart i a h key d 7 0 n md p (sym e));
    }

-- what was made for a change of one node goes back
pub back_one : {C V : Type 0} (number : C → ℕ) (i : ℕ) (a : ℕ → Note) (h : ℕ → Node V) (key : List ℕ) (change : Placement C) (h' : ℕ → Node V) → Tree a h → LockWords a h → MadeHere number i a h key change → BackHere number h change h' → Backed i a h h'
back_one number i a h key Set h' t w m g = back_none i a h h' t w g
back_one number i a h key (Link leaf) h' t w m g = back_node i a h key (number leaf) 7 0 h' t w m g

-- what was made for a change of two nodes goes back
pub back_two : {C V : Type 0} (number : C → ℕ) (i : ℕ) (a : ℕ → Note) (h : ℕ → Node V) (key : List ℕ) (p : Parent C) (change : Replacement C) (size q : ℕ) (h' : ℕ → Node V) → Tree a h → LockWords a h → MadeAbove number i a h key p change size q → BackAbove number h change h' → Backed i a h h'
back_two number i a h key p Unlink size q h' t w m g = back_none i a h h' t w g
back_two number i a h key p Collapse size q h' t w m g = back_none i a h h' t w g
back_two number i a h key p (Shrink c) size q h' t w m g = back_node i a h key (number c) size q h' t w m g
back_two number i a h key p (ShrinkAbove c) size q h' t w m g = back_node i a h key (number c) p.depth q h' t w m.0 g
back_two number i a h key p (Grow c) size q h' t w m g = back_node i a h key (number c) size q h' t w m g
back_two number i a h key p (GrowLink c leaf byte) size q h' t w m g = back_nodes i a h key (number c) size q (number leaf) g.0 h' t w m.0 m.1 m.2 g.1 g.2
back_two number i a h key p (Split top leaf common byte) size q h' t w m g = back_nodes i a h key (number top) common 1 (number leaf) g.0 h' t w m.0 m.1 m.2 g.1 g.2

-- a new node, made
pub made_new : {V : Type 0} (i : ℕ) (a : ℕ → Note) (h : ℕ → Node V) (c : ℕ) (form : NodeType) (k size least : ℕ) (h' : ℕ → Node V) → NewNode h c form (key_bytes k) size h' → least < places form → Made i (making a i c) h' (key_bytes k) c size least
made_new i a h c form k size least h' g room =
    let same : making a i c c ≡ record { status = Held i; owner = None; parent = 0 } = noted_same a c _ in
    record {
      held = rw same refl;
      unowned = rw same refl;
      fitted = g.fitted;
      long = g.long;
      blank = g.blank;
      empty = g.empty;
      room = rw g.capacity room;
      made = g.made;
      kept = g.kept;
      unretired = g.unretired;
      unlocked = g.free;
      live = g.live;
      keyed = begins_key _ k g.fitted;
    }

-- and one that was made before
pub made_before : {V : Type 0} (i : ℕ) (a : ℕ → Note) (h : ℕ → Node V) (c : ℕ) (form : NodeType) (key : List ℕ) (size : ℕ) (h' : ℕ → Node V) → NewNode h c form key size h'
    → (d size' least : ℕ) → Made i a h key d size' least → (d ≢ c) × Made i (making a i c) h' key d size' least
made_before i a h c form key size h' g d size' least m =
    let ne : d ≢ c = (λ e. let z : (h c).made ≡ true = (let P : ℕ → Type 0 = λ x. (h x).made ≡ true in subst P e m.made) in let y : (h c).made ≡ false = g.unmade in cc) in
    (ne, made_same i a h (making a i c) h' key d size' least (g.others d ne) (noted_other a c _ d ne) m)
