-- A step of a call on a store is that of the same call by numbers.
use Rattle.std.proofs.Common.{◌≡◌, ℕ, suc, Bool, true, false, cond, List, [], ◌∷◌, ◌++◌, length, take, refl, sym, ◌∙◌, ap, subst, inl, inr}
use Rattle.std.specs.Prelude.{Option, None, Some, Result, Ok, Err, IfErr, slice_get}
use Rattle.std.proofs.lemmas.Bool.{cases_Bool}
use Rattle.std.proofs.lemmas.List.{append-nil}
use Rattle.judge.specs.declared.journal.Reply.{Reply}
use Rattle.congee.specs.declared.forms.base_node.NodeType.{NodeType}
use Rattle.congee.specs.declared.forms.base_node.NodeType.TheVariants.{N4}
use Rattle.congee.specs.declared.protocol.store.Refusal.{Refusal}
use Rattle.congee.specs.declared.protocol.store.Refusal.TheVariants as refusal
use Rattle.congee.specs.declared.protocol.store.Stamp.{Stamp}
use Rattle.congee.specs.declared.protocol.store.Seen.{Seen}
use Rattle.congee.specs.declared.protocol.store.Upgrade.{Upgrade}
use Rattle.congee.specs.declared.protocol.store.Upgrade.TheVariants.{Locked, Failed, Exhausted}
use Rattle.congee.specs.declared.protocol.phase.Kind.{Kind}
use Rattle.congee.specs.declared.protocol.phase.Parent.{Parent}
use Rattle.congee.specs.declared.protocol.phase.Site.{Site}
use Rattle.congee.specs.declared.protocol.phase.Placement.TheVariants.{Link}
use Rattle.congee.specs.declared.protocol.phase.NodeChange.{NodeChange}
use Rattle.congee.specs.declared.protocol.phase.Replacement.TheVariants.{Unlink, Split, Shrink, ShrinkAbove}
use Rattle.congee.specs.declared.protocol.phase.ParentChange.{ParentChange}
use Rattle.congee.specs.declared.protocol.phase.Plan.TheVariants.{Above}
use Rattle.congee.specs.declared.protocol.phase.Phase.{Phase}
use Rattle.congee.specs.declared.protocol.phase.Phase.TheVariants.{New, Version, Read, Check, CheckUncopied, CheckMiss, CheckDown, CheckOld, MakeLeaf, MakeGreater, MakeTop, MakeBeside, MakeLesser, AskOld, AskNew, Confirm, CheckAbove, UpgradeHere, ChangeHere, UpgradeTop, UpgradeAbove, UpgradeBelow, ChangeAbove, Obsolete, Retire, UnlockBelow, Unlock, Unwind, Scan, Ended}
use Rattle.congee.specs.declared.protocol.next_phase.NextPhase.{NextPhase}
use Rattle.congee.specs.Heap.{Node, Stands, is_taken, version_of}
use Rattle.congee.specs.protocol.Alike.{Ordered, NodeAlike, HeapAlike, Named, StampAlike, ParentAlike, TopAlike, MadeAlike, ReadAlike, NodeChangeAlike, ParentChangeAlike, PhaseAlike, NextPhaseAlike, IsUnrefused, WentAlike}
use Rattle.congee.specs.protocol.Events.{upgrade_gives, NewNode}
use Rattle.congee.specs.protocol.PlainSteps.{Mark, made_lesser, upgraded_top, put, lock, new_node, reading, next_scan, checked, at_old, given_old, given_new, back_one, back_two, Went, went, passes, making, upgraded_one, upgraded_above, upgraded_below, passed_above, phase_step}
use Rattle.congee.specs.protocol.Steps.{quiet, skipping, set_at, both, form_below, node_of, given_up, again, answered, refused, form_above, after_version, after_read, after_miss, ready, unless_full, IsIf, IsChecked, IsAtOld, MadeLeaf, greater, MadeGreater, MadeTop, MadeBeside, MadeLesser, IsCheckedAbove, UpgradedHere, UpgradedTop, UpgradedAbove, UpgradedBelow, outcome_of, after_scan, PhaseStepped, MayBackHere, MayBackAbove, MayStep}
use Rattle.congee.specs.declared.forms.prefix.TheConstants.{MAX_PREFIX_LEN}
use Rattle.congee.proofs.lemmas.protocol.AlikeChanges.{HoldsRight, back_one_pair, back_two_pair, change_one_pair, change_two_pair}
use Rattle.congee.proofs.lemmas.protocol.AlikeHeaps.{Pair, pair_same, ordered_still, pair_locked, pair_freed, pair_marked, pair_handed, later_place, new_place, new_ordered, new_alike}
use Rattle.congee.proofs.lemmas.protocol.AlikeLater.{named_later, stamp_later, parent_later, made_later, read_later}
use Rattle.congee.proofs.lemmas.protocol.AlikeReads.{taken_alike, version_same, read_alike}
use Rattle.congee.proofs.lemmas.protocol.AlikeScans.{NextScanAlike, next_scan_alike}
use Rattle.congee.proofs.lemmas.protocol.AlikeNextPhases.{quiet_alike, answered_alike, refused_alike, finished_alike, decided_alike, alike_at, alike_to, again_alike, version_alike, checked_alike, miss_alike, old_alike, full_alike, greater_alike, ready_alike, GivenAlike, given_alike, change_alike, node_alike, retired_alike, left_alike, given_up_alike}
use Rattle.congee.proofs.lemmas.protocol.AlikeNextPhases.{new_alike as answer_alike}

length_one : (order : List ℕ) (c : ℕ) → length (order ++ c ∷ []) ≡ suc (length order)
length_one [] c = refl
length_one (x ∷ xs) c = ap suc (length_one xs c)

module _ {C V : Type 0} (number : C → ℕ) (same : V → V → Bool) (always : Bool) (most : ℕ) (why : NodeType → Refusal → Type 0) (never : (form : NodeType) → why form refusal.Exhausted → ⊥)
    (order : List ℕ) (h g : ℕ → Node V) (o : Ordered order h) (x : HeapAlike order h g) (k : ℕ) (count : k ≡ length order)
    (root : C) (m : ℕ) (r : Named order number root m) (key : List ℕ) (len : length key ≡ 8) (kind : Kind V) (fail : Bool) (seen : Option (Seen Mark V)) (answer : Option (Option V)) (new : Option V) where
  abbrev Goal : Option V → NextPhase C V → (ℕ → Node V) → Went V → Type 0
  Goal new' t h' w = WentAlike order number h' new' t w

  paired : (h' g' : ℕ → Node V) (new' own : Option V) (t : NextPhase C V) (u : NextPhase ℕ V) → Pair order h h' g' → new' ≡ own → NextPhaseAlike order number h' t u → Goal new' t h' (went own u g' k)
  paired h' g' new' own t u p e a = record {
    now = order;
    longer = ([], sym (append-nil order));
    ordered = ordered_still order h h' p.made o;
    made = count;
    given_is = sym e;
    next_phase = a;
    heap = p.alike;
  }

  still : (h' : ℕ → Node V) (new' own : Option V) (t : NextPhase C V) (u : NextPhase ℕ V) → h' ≡ h → new' ≡ own → NextPhaseAlike order number h' t u → Goal new' t h' (went own u g k)
  still h' new' own t u e f a = paired h' g new' own t u (pair_same order h h' g e x) f a

  node : (c : C) (n : ℕ) → Named order number c n → Stands (h (number c)) → NodeAlike order (h (number c)) (g n)
  node c n e s = x n (number c) e s

  -- a check
  passed : (h' : ℕ → Node V) (at : Stamp C) (a : Stamp ℕ) (Then : NextPhase C V → Type 0) (t : NextPhase C V) (u : NextPhase ℕ V) → StampAlike order number at a → Stands (h (number at.node)) → IsIf (is_taken (h (number at.node)) at.version) root Then t
      → (is_taken (h (number at.node)) at.version ≡ true → Then t → NextPhaseAlike order number h' t u) → NextPhaseAlike order number h' t (passes g a m u)
  passed h' at a Then t u e s i f =
      let same_word : is_taken (g a.node) a.version ≡ is_taken (h (number at.node)) at.version = taken_alike order (h (number at.node)) (g a.node) at.version a.version (node at.node a.node e.node s) e.version in
      elim (cases_Bool (is_taken (h (number at.node)) at.version)) [
        | inl y ↦ alike_to order number h' t u _ (ap (λ b. cond b u (again m)) (same_word ∙ y)) (f y (i.0 y))
        | inr n ↦ alike_to order number h' t (again m) _ (ap (λ b. cond b u (again m)) (same_word ∙ n)) (alike_at order number h' t (again root) (again m) (i.1 n) (again_alike order number h' root m r))
      ]

  -- a node is made
  module _ (c : C) (form : NodeType) (size : ℕ) (h' : ℕ → Node V) (new' : Option V) (t : NextPhase C V) (u : ℕ → NextPhase ℕ V) (made : NewNode h (number c) form key size h') (e : new' ≡ new) where
    abbrev now : List ℕ
    now = order ++ number c ∷ []

    later : (n d : ℕ) → slice_get order n ≡ Some d → slice_get now n ≡ Some d
    later n d z = later_place order (number c ∷ []) n d z

    named : Named now number c k
    named = let P : ℕ → Type 0 = λ z. slice_get now z ≡ Some (number c) in subst P (sym count) (new_place order (number c))

    makes : NextPhaseAlike now number h' t (u k) → Goal new' t h' (making form key size new g k u)
    makes a =
        let P : ℕ → Type 0 = λ z. HeapAlike now h' (put g z (new_node form (take size key))) in
        record {
          now = now;
          longer = (number c ∷ [], refl);
          ordered = new_ordered order h g o x (number c) form key size h' made;
          made = ap suc count ∙ sym (length_one order (number c));
          given_is = sym e;
          next_phase = a;
          heap = subst P (sym count) (new_alike order h g o x (number c) form key size h' made);
        }

  -- a copy that failed would have been told
  uncounted : (t : NextPhase C V) → IsUnrefused t.report.outcome → t ≡ refused refusal.Count → ⊥
  uncounted t un e =
      let z : refusal.Count ≡ refusal.Exhausted = un refusal.Count (ap (λ (w : NextPhase C V). w.report.outcome) e) in
      cc

  -- none was
  unmade : (form : NodeType) (e : Refusal) (t : NextPhase C V) → IsUnrefused t.report.outcome → t ≡ refused e → why form e → ⊥
  unmade form e t un q w =
      let z : e ≡ refusal.Exhausted = un e (ap (λ y. y.report.outcome) q) in
      let P : Refusal → Type 0 = λ y. why form y in
      never form (subst P z w)

  leaf_made : (s : Site C) (u : Site ℕ) (h' : ℕ → Node V) (new' : Option V) (t : NextPhase C V) (y : Result C Refusal) → ReadAlike order number s u → u.full ≡ s.full → IsUnrefused t.report.outcome → new' ≡ new
      → MadeLeaf number kind s h key y h' t → IfErr y (why N4) → Goal new' t h' (making N4 key MAX_PREFIX_LEN new g k (λ leaf. unless_full kind u u.full u.above (Some leaf) (Link leaf)))
  leaf_made s u h' new' t (Ok c) a f un e i w =
      let now : List ℕ = order ++ number c ∷ [] in
      let site = read_later order (order ++ number c ∷ []) number (later c N4 MAX_PREFIX_LEN h' new' t (λ leaf. unless_full kind u u.full u.above (Some leaf) (Link leaf)) i.0 e) s u a in
      makes c N4 MAX_PREFIX_LEN h' new' t (λ leaf. unless_full kind u u.full u.above (Some leaf) (Link leaf)) i.0 e
      (alike_at (order ++ number c ∷ []) number h' t (unless_full kind s s.full s.above (Some c) (Link c)) _ i.1
      (alike_to (order ++ number c ∷ []) number h' _ (unless_full kind u s.full u.above (Some k) (Link k)) _ (ap (λ b. unless_full kind u b u.above (Some k) (Link k)) f)
      (full_alike (order ++ number c ∷ []) number h' kind s u s.full s.above u.above (Some c) (Some k) (Link c) (Link k) site site.site.above
      (k, refl, named c N4 MAX_PREFIX_LEN h' new' t (λ leaf. unless_full kind u u.full u.above (Some leaf) (Link leaf)) i.0 e) (k, refl, named c N4 MAX_PREFIX_LEN h' new' t (λ leaf. unless_full kind u u.full u.above (Some leaf) (Link leaf)) i.0 e))))
  leaf_made s u h' new' t (Err z) a f un e i w = absurd (unmade N4 z t un i.1 w)

  greater_made : (s : Site C) (p : Parent C) (leaf : Option C) (u : Site ℕ) (q : Parent ℕ) (l : Option ℕ) (h' : ℕ → Node V) (new' : Option V) (t : NextPhase C V) (y : Result C Refusal) → ReadAlike order number s u → ParentAlike order number p q → MadeAlike order number leaf l
      → IsUnrefused t.report.outcome → new' ≡ new → MadeGreater number kind s p leaf h key y h' t → IfErr y (why (form_above s.count))
      → Goal new' t h' (making (form_above u.count) key u.depth new g k (λ c. ready kind (Above (both q u (greater u l c)))))
  greater_made s p leaf u q l h' new' t (Ok c) a b d un e i w =
      let w' : ℕ → NextPhase ℕ V = λ z. ready kind (Above (both q u (greater u l z))) in
      let P : ℕ → Type 0 = λ z. Goal new' t h' (making (form_above z) key u.depth new g k (λ c. ready kind (Above (both q u (greater u l c))))) in
      let Q : ℕ → Type 0 = λ z. Goal new' t h' (making (form_above s.count) key z new g k (λ c. ready kind (Above (both q u (greater u l c))))) in
      let f = later c (form_above s.count) s.depth h' new' t (λ c. ready kind (Above (both q u (greater u l c)))) i.0 e in
      let site = read_later order (order ++ number c ∷ []) number f s u a in
      subst P (sym a.count) (subst Q (sym a.site.depth) (makes c (form_above s.count) s.depth h' new' t (λ c. ready kind (Above (both q u (greater u l c)))) i.0 e
      (alike_at (order ++ number c ∷ []) number h' t (ready kind (Above (both p s (greater s leaf c)))) _ i.1
      (ready_alike (order ++ number c ∷ []) number h' kind (Above (both p s (greater s leaf c))) (Above (both q u (greater u l k))) (
        both q u (greater u l k),
        refl,
        record {
          top = refl;
          above = parent_later order (order ++ number c ∷ []) number f p q b;
          at = site.site.at;
          change = greater_alike (order ++ number c ∷ []) number h' s u leaf l c k site.site (made_later order (order ++ number c ∷ []) number f leaf l d) (named c (form_above s.count) s.depth h' new' t (λ c. ready kind (Above (both q u (greater u l c)))) i.0 e);
        },
      )))))
  greater_made s p leaf u q l h' new' t (Err z) a b d un e i w = absurd (unmade (form_above s.count) z t un i.1 w)

  top_made : (p : Parent C) (at : Stamp C) (common byte : ℕ) (q : Parent ℕ) (a : Stamp ℕ) (h' : ℕ → Node V) (new' : Option V) (t : NextPhase C V) (y : Result C Refusal) → ParentAlike order number p q → StampAlike order number at a
      → IsUnrefused t.report.outcome → new' ≡ new → MadeTop number p at common byte h key y h' t → IfErr y (why N4) → Goal new' t h' (making N4 key common new g k (λ top. quiet (MakeBeside q a common byte top)))
  top_made p at common byte q a h' new' t (Ok c) b d un e i w =
      let f = later c N4 common h' new' t (λ top. quiet (MakeBeside q a common byte top)) i.0 e in
      makes c N4 common h' new' t (λ top. quiet (MakeBeside q a common byte top)) i.0 e
      (alike_at (order ++ number c ∷ []) number h' t (quiet (MakeBeside p at common byte c)) _ i.1
      (quiet_alike (order ++ number c ∷ []) number h' (MakeBeside p at common byte c) (MakeBeside q a common byte k)
      (q, a, k, refl, parent_later order (order ++ number c ∷ []) number f p q b, stamp_later order (order ++ number c ∷ []) number f at a d, named c N4 common h' new' t (λ top. quiet (MakeBeside q a common byte top)) i.0 e)))
  top_made p at common byte q a h' new' t (Err z) b d un e i w = absurd (unmade N4 z t un i.1 w)

  beside_made : (p : Parent C) (at : Stamp C) (common byte : ℕ) (top : C) (q : Parent ℕ) (a : Stamp ℕ) (n : ℕ) (h' : ℕ → Node V) (new' : Option V) (t : NextPhase C V) (y : Result C Refusal) → ParentAlike order number p q → StampAlike order number at a → Named order number top n
      → IsUnrefused t.report.outcome → new' ≡ new → MadeBeside number kind p at common byte top h key y h' t → IfErr y (why N4)
      → Goal new' t h' (making N4 key MAX_PREFIX_LEN new g k (λ leaf. ready kind (Above (record { top = None; above = q; at = a; change = Split n leaf common byte }))))
  beside_made p at common byte top q a n h' new' t (Ok c) b d nm un e i w =
      let f = later c N4 MAX_PREFIX_LEN h' new' t (λ leaf. ready kind (Above (record { top = None; above = q; at = a; change = Split n leaf common byte }))) i.0 e in
      makes c N4 MAX_PREFIX_LEN h' new' t (λ leaf. ready kind (Above (record { top = None; above = q; at = a; change = Split n leaf common byte }))) i.0 e
      (alike_at (order ++ number c ∷ []) number h' t (ready kind (Above (record { top = None; above = p; at = at; change = Split top c common byte }))) _ i.1
      (ready_alike (order ++ number c ∷ []) number h' kind (Above (record { top = None; above = p; at = at; change = Split top c common byte })) (Above (record { top = None; above = q; at = a; change = Split n k common byte })) (
        record { top = None; above = q; at = a; change = Split n k common byte },
        refl,
        record {
          top = refl;
          above = parent_later order (order ++ number c ∷ []) number f p q b;
          at = stamp_later order (order ++ number c ∷ []) number f at a d;
          change = (n, k, refl, named_later order (order ++ number c ∷ []) number f top n nm, named c N4 MAX_PREFIX_LEN h' new' t (λ leaf. ready kind (Above (record { top = None; above = q; at = a; change = Split n leaf common byte }))) i.0 e);
        },
      )))
  beside_made p at common byte top q a n h' new' t (Err z) b d nm un e i w = absurd (unmade N4 z t un i.1 w)

  -- one that wasn't made would have been told too
  unskipped : (p : Phase C V) (t : NextPhase C V) → t.report.skipped ≡ false → t ≡ skipping p → ⊥
  unskipped p t sk e = let z : true ≡ false = sym (ap (λ (w : NextPhase C V). w.report.skipped) e) ∙ sk in cc

  lesser_made : (s : Site C) (p : Parent C) (top : Option (Parent C)) (u : Site ℕ) (q : Parent ℕ) (l : Option (Parent ℕ)) (y : Reply V) (h' : ℕ → Node V) (new' : Option V) (t : NextPhase C V) (z : Result C Refusal)
      → ReadAlike order number s u → ParentAlike order number p q → TopAlike order number top l → t.report.skipped ≡ false → new' ≡ new → MadeLesser number s p top y h key z h' t → Goal new' t h' (made_lesser key new g k u q l y)
  lesser_made s p None u q l y h' new' t (Err z) a b d sk e i = absurd (unskipped (UpgradeHere (set_at s) y) t sk i.1)
  lesser_made s p (Some top) u q l y h' new' t (Err z) a b d sk e i = absurd (unskipped (UpgradeAbove (both p s Unlink) y) t sk i.1)
  lesser_made s p None u q l y h' new' t (Ok c) a b d sk e i =
      let w : ℕ → NextPhase ℕ V = λ n. quiet (UpgradeAbove (both q u (Shrink n)) y) in
      let L : Option (Parent ℕ) → Type 0 = λ z. Goal new' t h' (made_lesser key new g k u q z y) in
      let P : NodeType → Type 0 = λ z. Goal new' t h' (making (form_below z) key u.depth new g k (λ n. quiet (UpgradeAbove (both q u (Shrink n)) y))) in
      let Q : ℕ → Type 0 = λ z. Goal new' t h' (making (form_below s.form) key z new g k (λ n. quiet (UpgradeAbove (both q u (Shrink n)) y))) in
      let f = later c (form_below s.form) s.depth h' new' t (λ n. quiet (UpgradeAbove (both q u (Shrink n)) y)) i.0 e in
      let site = read_later order (order ++ number c ∷ []) number f s u a in
      subst L (sym d) (subst P (sym a.site.form) (subst Q (sym a.site.depth) (makes c (form_below s.form) s.depth h' new' t (λ n. quiet (UpgradeAbove (both q u (Shrink n)) y)) i.0 e
      (alike_at (order ++ number c ∷ []) number h' t (quiet (UpgradeAbove (both p s (Shrink c)) y)) _ i.1
      (quiet_alike (order ++ number c ∷ []) number h' (UpgradeAbove (both p s (Shrink c)) y) (UpgradeAbove (both q u (Shrink k)) y) (
        both q u (Shrink k),
        refl,
        record {
          top = refl;
          above = parent_later order (order ++ number c ∷ []) number f p q b;
          at = site.site.at;
          change = (k, refl, named c (form_below s.form) s.depth h' new' t (λ n. quiet (UpgradeAbove (both q u (Shrink n)) y)) i.0 e);
        },
      ))))))
  lesser_made s p (Some top) u q l y h' new' t (Ok c) a b d sk e i =
      let L : Option (Parent ℕ) → Type 0 = λ z. Goal new' t h' (made_lesser key new g k u q z y) in
      let P : NodeType → Type 0 = λ z. Goal new' t h' (making (form_below z) key q.depth new g k (λ n. quiet (UpgradeTop d.0 (both q u (ShrinkAbove n)) y))) in
      let Q : ℕ → Type 0 = λ z. Goal new' t h' (making (form_below p.form) key z new g k (λ n. quiet (UpgradeTop d.0 (both q u (ShrinkAbove n)) y))) in
      let f = later c (form_below p.form) p.depth h' new' t (λ n. quiet (UpgradeTop d.0 (both q u (ShrinkAbove n)) y)) i.0 e in
      let site = read_later order (order ++ number c ∷ []) number f s u a in
      subst L (sym d.1) (subst P (sym b.form) (subst Q (sym b.depth) (makes c (form_below p.form) p.depth h' new' t (λ n. quiet (UpgradeTop d.0 (both q u (ShrinkAbove n)) y)) i.0 e
      (alike_at (order ++ number c ∷ []) number h' t (quiet (UpgradeTop top (both p s (ShrinkAbove c)) y)) _ i.1
      (quiet_alike (order ++ number c ∷ []) number h' (UpgradeTop top (both p s (ShrinkAbove c)) y) (UpgradeTop d.0 (both q u (ShrinkAbove k)) y) (
        d.0,
        both q u (ShrinkAbove k),
        refl,
        parent_later order (order ++ number c ∷ []) number f top d.0 d.2,
        record {
          top = refl;
          above = parent_later order (order ++ number c ∷ []) number f p q b;
          at = site.site.at;
          change = (k, refl, named c (form_below p.form) p.depth h' new' t (λ n. quiet (UpgradeTop d.0 (both q u (ShrinkAbove n)) y)) i.0 e);
        },
      ))))))

  -- an exchange of a lock word
  upgrade_same : (c : C) (n v w : ℕ) → Named order number c n → Stands (h (number c)) → w ≡ v → upgrade_gives most (g n) w fail ≡ upgrade_gives most (h (number c)) v fail
  upgrade_same c n v w e s f =
      let z : NodeAlike order (h (number c)) (g n) = node c n e s in
      rw (z.version, z.locked, z.obsolete, f) refl

  one_upgraded : (one : NodeChange C) (u : NodeChange ℕ) (y : Reply V) (h' : ℕ → Node V) (new' : Option V) (t : NextPhase C V) (a : Upgrade) → NodeChangeAlike order number one u → Stands (h (number one.at.node)) → MayBackHere number h one.change → new' ≡ new
      → UpgradedHere number root one y h a h' t → Goal new' t h' (upgraded_one m new g k u y a)
  one_upgraded one u y h' new' t Locked z s may e i =
      paired h' (lock g u.at.node) new' new t (quiet (ChangeHere u y)) (pair_locked order h g o x (number one.at.node) u.at.node h' z.at.node s i.0) e
      (alike_at order number h' t _ _ i.1 (quiet_alike order number h' (ChangeHere one y) (ChangeHere u y) (u, refl, z)))
  one_upgraded one u y h' new' t Failed z s may e i =
      paired h' (back_one u.change g) new' new t (again m) (back_one_pair order number h g o x h' one.change u.change z.change may i.0) e (alike_at order number h' t _ _ i.1 (again_alike order number h' root m r))
  one_upgraded one u y h' new' t Exhausted z s may e i =
      paired h' (back_one u.change g) new' new t (refused refusal.Exhausted) (back_one_pair order number h g o x h' one.change u.change z.change may i.0) e (alike_at order number h' t _ _ i.1 (refused_alike order number h' refusal.Exhausted))

  above_upgraded : (two : ParentChange C) (u : ParentChange ℕ) (y : Reply V) (h' : ℕ → Node V) (new' : Option V) (t : NextPhase C V) (a : Upgrade) → ParentChangeAlike order number two u → Stands (h (number two.above.stamp.node)) → MayBackAbove number h two.change → new' ≡ new
      → UpgradedAbove number root two y h a h' t → Goal new' t h' (upgraded_above m new g k u y a)
  above_upgraded two u y h' new' t Locked z s may e i =
      paired h' (lock g u.above.stamp.node) new' new t (quiet (UpgradeBelow u y)) (pair_locked order h g o x (number two.above.stamp.node) u.above.stamp.node h' z.above.stamp.node s i.0) e
      (alike_at order number h' t _ _ i.1 (quiet_alike order number h' (UpgradeBelow two y) (UpgradeBelow u y) (u, refl, z)))
  above_upgraded two u y h' new' t Failed z s may e i =
      paired h' (back_two u.change g) new' new t (given_up m u.top None) (back_two_pair order number h g o x h' two.change u.change z.change may i.0) e (alike_at order number h' t _ _ i.1 (given_up_alike order number h' root m two.top u.top None r z.top))
  above_upgraded two u y h' new' t Exhausted z s may e i =
      paired h' (back_two u.change g) new' new t (given_up m u.top (Some refusal.Exhausted)) (back_two_pair order number h g o x h' two.change u.change z.change may i.0) e
      (alike_at order number h' t _ _ i.1 (given_up_alike order number h' root m two.top u.top (Some refusal.Exhausted) r z.top))

  top_upgraded : (top : Parent C) (q : Parent ℕ) (two : ParentChange C) (u : ParentChange ℕ) (y : Reply V) (h' : ℕ → Node V) (new' : Option V) (t : NextPhase C V) (a : Upgrade) → ParentAlike order number top q → ParentChangeAlike order number two u → Stands (h (number top.stamp.node)) → MayBackAbove number h two.change → new' ≡ new
      → UpgradedTop number root top two y h a h' t → Goal new' t h' (upgraded_top m new g k q u y a)
  top_upgraded top q two u y h' new' t Locked b z s may e i =
      paired h' (lock g q.stamp.node) new' new t (quiet (UpgradeAbove (record u { top = Some q }) y)) (pair_locked order h g o x (number top.stamp.node) q.stamp.node h' b.stamp.node s i.0) e
      (alike_at order number h' t _ _ i.1 (quiet_alike order number h' (UpgradeAbove (record two { top = Some top }) y) (UpgradeAbove (record u { top = Some q }) y)
      (record u { top = Some q }, refl, record { top = (q, refl, b); above = z.above; at = z.at; change = z.change })))
  top_upgraded top q two u y h' new' t Failed b z s may e i =
      paired h' (back_two u.change g) new' new t (again m) (back_two_pair order number h g o x h' two.change u.change z.change may i.0) e (alike_at order number h' t _ _ i.1 (again_alike order number h' root m r))
  top_upgraded top q two u y h' new' t Exhausted b z s may e i =
      paired h' (back_two u.change g) new' new t (refused refusal.Exhausted) (back_two_pair order number h g o x h' two.change u.change z.change may i.0) e (alike_at order number h' t _ _ i.1 (refused_alike order number h' refusal.Exhausted))

  below_upgraded : (two : ParentChange C) (u : ParentChange ℕ) (y : Reply V) (h' : ℕ → Node V) (new' : Option V) (t : NextPhase C V) (a : Upgrade) → ParentChangeAlike order number two u → Stands (h (number two.at.node)) → MayBackAbove number h two.change → new' ≡ new
      → UpgradedBelow number two y h a h' t → Goal new' t h' (upgraded_below new g k u y a)
  below_upgraded two u y h' new' t Locked z s may e i =
      paired h' (lock g u.at.node) new' new t (quiet (ChangeAbove u y)) (pair_locked order h g o x (number two.at.node) u.at.node h' z.at.node s i.0) e
      (alike_at order number h' t _ _ i.1 (quiet_alike order number h' (ChangeAbove two y) (ChangeAbove u y) (u, refl, z)))
  below_upgraded two u y h' new' t Failed z s may e i =
      paired h' (back_two u.change g) new' new t (quiet (Unwind u.above.stamp.node (node_of u.top) None)) (back_two_pair order number h g o x h' two.change u.change z.change may i.0) e
      (alike_at order number h' t _ _ i.1 (quiet_alike order number h' (Unwind two.above.stamp.node (node_of two.top) None) (Unwind u.above.stamp.node (node_of u.top) None)
      (u.above.stamp.node, node_of u.top, refl, z.above.stamp.node, node_alike order number h' two.top u.top z.top)))
  below_upgraded two u y h' new' t Exhausted z s may e i =
      paired h' (back_two u.change g) new' new t (quiet (Unwind u.above.stamp.node (node_of u.top) (Some refusal.Exhausted))) (back_two_pair order number h g o x h' two.change u.change z.change may i.0) e
      (alike_at order number h' t _ _ i.1 (quiet_alike order number h' (Unwind two.above.stamp.node (node_of two.top) (Some refusal.Exhausted)) (Unwind u.above.stamp.node (node_of u.top) (Some refusal.Exhausted))
      (u.above.stamp.node, node_of u.top, refl, z.above.stamp.node, node_alike order number h' two.top u.top z.top)))

  above_passed : (p : Stamp C) (q : Stamp ℕ) (one : NodeChange C) (u : NodeChange ℕ) (y : Reply V) (h' : ℕ → Node V) (new' : Option V) (t : NextPhase C V) → StampAlike order number p q → NodeChangeAlike order number one u → Stands (h (number p.node)) → MayBackHere number h one.change → new' ≡ new
      → IsCheckedAbove number root p one y h h' t → Goal new' t h' (passed_above (is_taken (g q.node) q.version) m new g k u y)
  above_passed p q one u y h' new' t a z s may e i =
      let same_word : is_taken (g q.node) q.version ≡ is_taken (h (number p.node)) p.version = taken_alike order (h (number p.node)) (g q.node) p.version q.version (node p.node q.node a.node s) a.version in
      let P : Bool → Type 0 = λ b. Goal new' t h' (passed_above b m new g k u y) in
      elim (cases_Bool (is_taken (h (number p.node)) p.version)) [
        | inl met ↦ subst P (sym (same_word ∙ met)) (still h' new' new t (quiet (UpgradeHere u y)) (i.goes_on met).0 e (alike_at order number h' t _ _ (i.goes_on met).1 (quiet_alike order number h' (UpgradeHere one y) (UpgradeHere u y) (u, refl, z))))
        | inr lost ↦ subst P (sym (same_word ∙ lost)) (paired h' (back_one u.change g) new' new t (again m) (back_one_pair order number h g o x h' one.change u.change z.change may (i.goes_back lost).0) e (alike_at order number h' t _ _ (i.goes_back lost).1 (again_alike order number h' root m r)))
      ]

  abbrev steps : Phase ℕ V → Went V
  steps q = phase_step same most m key kind fail seen answer new q g k

  -- the step of a phase
  pub phase_alike : (p : Phase C V) (q : Phase ℕ V) (h' : ℕ → Node V) (new' : Option V) (t : NextPhase C V) → PhaseAlike order number h p q → MayStep number root key new p h → HoldsRight number h p → IsUnrefused t.report.outcome → t.report.skipped ≡ false
      → PhaseStepped number same always most why root key kind fail answer new p h new' t h' → Goal new' t h' (steps q)
  phase_alike New q h' new' t e may holds un sk i =
      let P : Phase ℕ V → Type 0 = λ z. Goal new' t h' (steps z) in
      subst P (sym e) (still h' new' new t _ i.0 i.1 (alike_at order number h' t _ _ i.2 (alike_to order number h' _ (after_version m None m (version_of (h (number root)))) _ (ap (after_version m None m) (version_same order (h (number root)) (g m) (node root m r may)))
      (version_alike order number h' root m None None root m (version_of (h (number root))) r refl r))))
  phase_alike (Version above c) q h' new' t e may holds un sk i =
      let P : Phase ℕ V → Type 0 = λ z. Goal new' t h' (steps z) in
      subst P (sym e.2) (still h' new' new t _ i.0 i.1 (alike_at order number h' t _ _ i.2 (alike_to order number h' _ (after_version m e.0 e.1 (version_of (h (number c)))) _ (ap (after_version m e.0 e.1) (version_same order (h (number c)) (g e.1) (node c e.1 e.4 may)))
      (version_alike order number h' root m above e.0 c e.1 (version_of (h (number c))) r e.3 e.4))))
  phase_alike (Read above at) q h' new' t e may holds un sk i =
      let P : Phase ℕ V → Type 0 = λ z. Goal new' t h' (steps z) in
      let Q : (ℕ → Node V) → Type 0 = λ z. NextPhaseAlike order number z t (after_read m e.0 e.1 (reading (g e.1.node) e.1.version key seen)) in
      subst P (sym e.2) (still h' new' new t _ i.0 i.1 (subst Q (sym i.0) (alike_at order number h t _ _ i.2.2
      (read_alike order number h g root m r key len always above e.0 e.3 at e.1 e.4 (node at.node e.1.node e.4.node may) seen i.2.0 i.2.1))))
  phase_alike (Check s c) q h' new' t e may holds un sk i =
      let P : Phase ℕ V → Type 0 = λ z. Goal new' t h' (steps z) in
      subst P (sym e.2) (still h' new' new t _ i.0 i.1 (passed h' s.at e.0.at (IsChecked always same kind new s c) t (checked same kind new e.0 e.1) e.3.at may i.2 (λ y z. checked_alike order number h' always same kind new s c e.0 e.1 t e.3 (e.4 y) un z)))
  phase_alike (CheckUncopied at) q h' new' t e may holds un sk i =
      let P : Phase ℕ V → Type 0 = λ z. Goal new' t h' (steps z) in
      subst P (sym e.2) (still h' new' new t _ i.0 i.1 (passed h' at e.0.at (λ (w : NextPhase C V). w ≡ refused refusal.Count) t (checked same kind new e.0 e.1) e.3 may i.2 (λ y z. absurd (uncounted t un z))))
  phase_alike (CheckMiss p at common byte) q h' new' t e may holds un sk i =
      let P : Phase ℕ V → Type 0 = λ z. Goal new' t h' (steps z) in
      subst P (sym e.2) (still h' new' new t _ i.0 i.1 (passed h' p.stamp e.0.stamp (λ (w : NextPhase C V). w ≡ after_miss kind p at common byte) t (after_miss kind e.0 e.1 common byte) e.3.stamp may i.2 (λ y z. alike_at order number h' t _ _ z (miss_alike order number h' kind p e.0 at e.1 common byte e.3 e.4))))
  phase_alike (CheckDown p at c) q h' new' t e may holds un sk i =
      let P : Phase ℕ V → Type 0 = λ z. Goal new' t h' (steps z) in
      subst P (sym e.3) (still h' new' new t _ i.0 i.1 (passed h' p e.0 (λ (w : NextPhase C V). w ≡ quiet (Version (Some at) c)) t (quiet (Version (Some e.1) e.2)) e.4 may i.2
      (λ y z. alike_at order number h' t _ _ z (quiet_alike order number h' (Version (Some at) c) (Version (Some e.1) e.2) (Some e.1, e.2, refl, (e.1, refl, e.5), e.6)))))
  phase_alike (CheckOld p s v) q h' new' t e may holds un sk i =
      let P : Phase ℕ V → Type 0 = λ z. Goal new' t h' (steps z) in
      subst P (sym e.2) (still h' new' new t _ i.0 i.1 (passed h' p e.0 (IsAtOld always same kind new s v) t (at_old same kind new e.1 v) e.3 may i.2 (λ y z. old_alike order number h' always same kind new s e.1 v t e.4 un z)))
  phase_alike (MakeLeaf s) q h' new' t e may holds un sk i =
      let P : Phase ℕ V → Type 0 = λ z. Goal new' t h' (steps z) in
      subst P (sym e.1) (leaf_made s e.0 h' new' t i.1.0 e.2 e.3 un i.0 i.1.1 i.1.2)
  phase_alike (MakeGreater s p leaf) q h' new' t e may holds un sk i =
      let P : Phase ℕ V → Type 0 = λ z. Goal new' t h' (steps z) in
      subst P (sym e.3) (greater_made s p leaf e.0 e.1 e.2 h' new' t i.1.0 e.4 e.5 e.6 un i.0 i.1.1 i.1.2)
  phase_alike (MakeTop p at common byte) q h' new' t e may holds un sk i =
      let P : Phase ℕ V → Type 0 = λ z. Goal new' t h' (steps z) in
      subst P (sym e.2) (top_made p at common byte e.0 e.1 h' new' t i.1.0 e.3 e.4 un i.0 i.1.1 i.1.2)
  phase_alike (MakeBeside p at common byte top) q h' new' t e may holds un sk i =
      let P : Phase ℕ V → Type 0 = λ z. Goal new' t h' (steps z) in
      subst P (sym e.3) (beside_made p at common byte top e.0 e.1 e.2 h' new' t i.1.0 e.4 e.5 e.6 un i.0 i.1.1 i.1.2)
  phase_alike (MakeLesser s p top y) q h' new' t e may holds un sk i =
      let P : Phase ℕ V → Type 0 = λ z. Goal new' t h' (steps z) in
      subst P (sym e.3) (lesser_made s p top e.0 e.1 e.2 y h' new' t i.1.0 e.4 e.5 e.6 sk i.0 i.1.1)
  phase_alike (AskOld s v) q h' new' t e may holds un sk i =
      let P : Phase ℕ V → Type 0 = λ z. Goal new' t h' (steps z) in
      let a : GivenAlike order number h' new' t (given_old same kind e.0 v answer new) = given_alike order number h' always same kind s e.0 v answer new new' t e.2 un i.1 in
      subst P (sym e.1) (still h' new' _ t _ i.0 (sym a.given) a.next_phase)
  phase_alike (AskNew plan) q h' new' t e may holds un sk i =
      let P : Phase ℕ V → Type 0 = λ z. Goal new' t h' (steps z) in
      let a : GivenAlike order number h' new' t (given_new e.0 answer new) = answer_alike order number h' plan e.0 answer new new' t e.2 i.1 in
      subst P (sym e.1) (still h' new' _ t _ i.0 (sym a.given) a.next_phase)
  phase_alike (Confirm at y) q h' new' t e may holds un sk i =
      let P : Phase ℕ V → Type 0 = λ z. Goal new' t h' (steps z) in
      subst P (sym e.1) (still h' new' new t _ i.0 i.1 (passed h' at e.0 (λ (w : NextPhase C V). w ≡ answered y) t (answered y) e.2 may i.2 (λ w z. alike_at order number h' t _ _ z (answered_alike order number h' y))))
  phase_alike (CheckAbove p one y) q h' new' t e may holds un sk i =
      let P : Phase ℕ V → Type 0 = λ z. Goal new' t h' (steps z) in
      subst P (sym e.2) (above_passed p e.0 one e.1 y h' new' t e.3 e.4 may.0 may.1 i.0 i.1)
  phase_alike (UpgradeHere one y) q h' new' t e may holds un sk i =
      let P : Phase ℕ V → Type 0 = λ z. Goal new' t h' (steps z) in
      let Q : Upgrade → Type 0 = λ z. Goal new' t h' (upgraded_one m new g k e.0 y z) in
      subst P (sym e.1) (subst Q (i.1.1 ∙ sym (upgrade_same one.at.node e.0.at.node one.at.version e.0.at.version e.2.at.node may.0 e.2.at.version)) (one_upgraded one e.0 y h' new' t i.1.0 e.2 may.0 may.1 i.0 i.1.2))
  phase_alike (ChangeHere one y) q h' new' t e may holds un sk i =
      let P : Phase ℕ V → Type 0 = λ z. Goal new' t h' (steps z) in
      subst P (sym e.1) (paired h' _ new' None t _ (change_one_pair order number h g o x h' key new one e.0 e.2.at e.2.byte one.change e.0.change e.2.change may i.1) i.0
      (alike_at order number h' t _ _ i.2 (decided_alike order number h' (Unlock one.at.node y) (Unlock e.0.at.node y) (e.0.at.node, refl, e.2.at.node))))
  phase_alike (UpgradeTop top two y) q h' new' t e may holds un sk i =
      let P : Phase ℕ V → Type 0 = λ z. Goal new' t h' (steps z) in
      let Q : Upgrade → Type 0 = λ z. Goal new' t h' (upgraded_top m new g k e.0 e.1 y z) in
      subst P (sym e.2) (subst Q (i.1.1 ∙ sym (upgrade_same top.stamp.node e.0.stamp.node top.stamp.version e.0.stamp.version e.3.stamp.node may.0 e.3.stamp.version))
      (top_upgraded top e.0 two e.1 y h' new' t i.1.0 e.3 e.4 may.0 may.1 i.0 i.1.2))
  phase_alike (UpgradeAbove two y) q h' new' t e may holds un sk i =
      let P : Phase ℕ V → Type 0 = λ z. Goal new' t h' (steps z) in
      let Q : Upgrade → Type 0 = λ z. Goal new' t h' (upgraded_above m new g k e.0 y z) in
      subst P (sym e.1) (subst Q (i.1.1 ∙ sym (upgrade_same two.above.stamp.node e.0.above.stamp.node two.above.stamp.version e.0.above.stamp.version e.2.above.stamp.node may.0 e.2.above.stamp.version))
      (above_upgraded two e.0 y h' new' t i.1.0 e.2 may.0 may.1 i.0 i.1.2))
  phase_alike (UpgradeBelow two y) q h' new' t e may holds un sk i =
      let P : Phase ℕ V → Type 0 = λ z. Goal new' t h' (steps z) in
      let Q : Upgrade → Type 0 = λ z. Goal new' t h' (upgraded_below new g k e.0 y z) in
      subst P (sym e.1) (subst Q (i.1.1 ∙ sym (upgrade_same two.at.node e.0.at.node two.at.version e.0.at.version e.2.at.node may.0 e.2.at.version)) (below_upgraded two e.0 y h' new' t i.1.0 e.2 may.0 may.1 i.0 i.1.2))
  phase_alike (ChangeAbove two y) q h' new' t e may holds un sk i =
      let P : Phase ℕ V → Type 0 = λ z. Goal new' t h' (steps z) in
      subst P (sym e.1) (paired h' _ new' None t _ (change_two_pair order number h g o x h' key two e.0 e.2 new two.change e.0.change e.2.change holds may i.1) i.0
      (alike_at order number h' t _ _ i.2 (change_alike order number h' two e.0 y e.2 two.change e.0.change e.2.change)))
  phase_alike (Obsolete c next p y) q h' new' t e may holds un sk i =
      let P : Phase ℕ V → Type 0 = λ z. Goal new' t h' (steps z) in
      subst P (sym e.3) (paired h' _ new' new t _ (pair_marked order h g o x (number c) e.0 h' e.4 may.0 i.1) i.0
      (alike_at order number h' t _ _ i.2 (quiet_alike order number h' (Retire c next p y) (Retire e.0 e.1 e.2 y) (e.0, e.1, e.2, refl, e.4, e.5, e.6))))
  phase_alike (Retire c next p y) q h' new' t e may holds un sk i =
      let P : Phase ℕ V → Type 0 = λ z. Goal new' t h' (steps z) in
      subst P (sym e.3) (paired h' _ new' new t _ (pair_handed order h g o x (number c) e.0 h' e.4 may.0 i.1) i.0 (alike_at order number h' t _ _ i.2 (retired_alike order number h' next e.1 p e.2 y e.5 e.6)))
  phase_alike (UnlockBelow c p y) q h' new' t e may holds un sk i =
      let P : Phase ℕ V → Type 0 = λ z. Goal new' t h' (steps z) in
      subst P (sym e.2) (paired h' _ new' new t _ (pair_freed order h g o x (number c) e.0 h' e.3 may.0 i.1) i.0 (alike_at order number h' t _ _ i.2 (quiet_alike order number h' (Unlock p y) (Unlock e.1 y) (e.1, refl, e.4))))
  phase_alike (Unlock c y) q h' new' t e may holds un sk i =
      let P : Phase ℕ V → Type 0 = λ z. Goal new' t h' (steps z) in
      subst P (sym e.1) (paired h' _ new' new t _ (pair_freed order h g o x (number c) e.0 h' e.2 may.0 i.1) i.0 (alike_at order number h' t _ _ i.2 (finished_alike order number h' y)))
  phase_alike (Unwind c next z) q h' new' t e may holds un sk i =
      let P : Phase ℕ V → Type 0 = λ z. Goal new' t h' (steps z) in
      subst P (sym e.2) (paired h' _ new' new t _ (pair_freed order h g o x (number c) e.0 h' e.3 may.0 i.1) i.0 (alike_at order number h' t _ _ i.2 (left_alike order number h' root m next e.1 z r e.4)))
  phase_alike (Scan s) q h' new' t e may holds un sk i =
      let P : Phase ℕ V → Type 0 = λ z. Goal new' t h' (steps z) in
      let Q : (ℕ → Node V) → Type 0 = λ z. NextPhaseAlike order number z t (after_scan (next_scan m seen g e.0 e.0.stage).0 (next_scan m seen g e.0 e.0.stage).1) in
      let R : NextPhase C V → Type 0 = λ z. IsUnrefused z.report.outcome in
      let a : NextScanAlike order number h (i.2.0, i.2.1) (next_scan m seen g e.0 e.0.stage) = next_scan_alike order number h g x always root m r seen s e.0 (i.2.0, i.2.1) e.2 may (subst R i.2.3 un) i.2.2 in
      subst P (sym e.1) (still h' new' new t _ i.0 i.1 (subst Q (sym i.0) (alike_at order number h t _ _ i.2.3 (record {
        report = ap (λ y. record { decided = false; skipped = false; outcome = outcome_of y }) a.told;
        phase = ((next_scan m seen g e.0 e.0.stage).0, refl, a.scan);
      }))))
  phase_alike Ended q h' new' t e may holds un sk i =
      let P : Phase ℕ V → Type 0 = λ z. Goal new' t h' (steps z) in
      subst P (sym e) (still h' new' new t _ i.0 i.1 (alike_at order number h' t _ _ i.2 (quiet_alike order number h' Ended Ended refl)))
