-- Each step of a call hands over no node, or one that the call took out.
use Rattle.std.proofs.Common.{◌≡◌, ◌≢◌, ℕ, zero, suc, ◌+◌, ◌<◌, ◌≤◌, ◌==◌, ◌⊎◌, inl, inr, ◌&&◌, Bool, true, false, cond, List, [], ◌∷◌, ◌++◌, length, arith, refl, sym, ◌∙◌, ap, subst}
use Rattle.std.proofs.Math.ListN.{set}
use Rattle.std.specs.List.{Contains}
use Rattle.std.proofs.lemmas.List.{length-append}
use Rattle.std.proofs.lemmas.List.Elements.{Contains-append_left, Contains-push, Contains-push_cases}
use Rattle.std.proofs.lemmas.Option.{slice_get_within, get_or_from_slice_get}
use Rattle.std.specs.Prelude.{Option, None, Some, Result, Ok, Err, slice_get}
use Rattle.judge.specs.declared.journal.Reply.{Reply}
use Rattle.congee.specs.declared.forms.base_node.NodeType.{NodeType}
use Rattle.congee.specs.declared.protocol.store.Stamp.{Stamp}
use Rattle.congee.specs.declared.protocol.store.Refusal.{Refusal}
use Rattle.congee.specs.declared.protocol.store.Upgrade.{Upgrade}
use Rattle.congee.specs.declared.protocol.store.Upgrade.TheVariants.{Locked, Failed, Exhausted}
use Rattle.congee.specs.declared.protocol.phase.Kind.{Kind}
use Rattle.congee.specs.declared.protocol.phase.Parent.{Parent}
use Rattle.congee.specs.declared.protocol.phase.Site.{Site}
use Rattle.congee.specs.declared.protocol.phase.Placement.{Placement}
use Rattle.congee.specs.declared.protocol.phase.Placement.TheVariants.{Set, Link}
use Rattle.congee.specs.declared.protocol.phase.NodeChange.{NodeChange}
use Rattle.congee.specs.declared.protocol.phase.Replacement.{Replacement}
use Rattle.congee.specs.declared.protocol.phase.Replacement.TheVariants.{Unlink, Grow, GrowLink, Split, Shrink, Collapse, ShrinkAbove}
use Rattle.congee.specs.declared.protocol.phase.ParentChange.{ParentChange}
use Rattle.congee.specs.declared.protocol.phase.Phase.{Phase}
use Rattle.congee.specs.declared.protocol.phase.Phase.TheVariants.{MakeLeaf, MakeGreater, MakeTop, MakeBeside, MakeLesser, CheckAbove, UpgradeHere, ChangeHere, UpgradeTop, UpgradeAbove, UpgradeBelow, ChangeAbove, Obsolete, Retire, UnlockBelow, Unlock, Unwind, Ended}
use Rattle.congee.specs.declared.protocol.next_phase.NextPhase.{NextPhase}
use Rattle.congee.specs.declared.protocol.machine.Machine.{Machine}
use Rattle.congee.specs.declared.protocol.run.Step.{Step}
use Rattle.congee.specs.Heap.{Node, Hung, Stands, is_taken}
use Rattle.congee.specs.protocol.Events.{SameBut, upgrade_gives, NewNode, ChangeGives, TakeOverGives, BackGives}
use Rattle.congee.specs.protocol.Steps.{BackHere, BackAbove, BackLeaf, MadeLeaf, MadeGreater, MadeTop, MadeBeside, MadeLesser, UpgradedHere, UpgradedTop, UpgradedAbove, UpgradedBelow, PutsLesser, Collapses, Lessens, after_retire, ChangedHere, ChangedAbove, PhaseStepped}
use Rattle.congee.specs.Keys.{key_bytes}
use Rattle.congee.specs.Notes.{Note, Linked, Gone, is_published, Tree, LockWords}
use Rattle.congee.specs.protocol.Protocol.{TopLocked, Made, MadeHere, MadeAbove, MadeLeafFor, Known}
use Rattle.congee.specs.protocol.Holdings.{TakenBy}
use Rattle.congee.specs.protocol.Handing.{is_handed_over, Leads, IsOut, HandsNothing, HandsNode, HandsAt, Hands, IsLeaving, Leaving, Untouched, Handing, StepHands}
use Rattle.congee.proofs.lemmas.Graft.{on_test}
use Rattle.congee.proofs.lemmas.Fits.{same_test, other_test}
use Rattle.congee.proofs.lemmas.Tree.{same_or_not}
use Rattle.congee.proofs.lemmas.protocol.Touch.{taken_linked}
use Rattle.congee.proofs.lemmas.protocol.Locks.{locked_taken}
use Rattle.congee.proofs.lemmas.protocol.Owners.{set_here, set_apart}

-- what no path leads to
pub leads_linked : {V : Type 0} (a : ℕ → Note) (h : ℕ → Node V) → Tree a h → (path : List ℕ) (n c : ℕ) → (a n).status ≡ Linked → Leads h n path c → (a c).status ≡ Linked
leads_linked a h t [] n c l e = let P : ℕ → Type 0 = λ x. (a x).status ≡ Linked in subst P e l
leads_linked a h t (b ∷ path) n c l e = leads_linked a h t path e.0 c (t.down n b e.0 l e.1).linked e.2

-- no path leads to a node that isn't noted in the tree
pub unlinked_out : {V : Type 0} (a : ℕ → Note) (h : ℕ → Node V) (n : ℕ) → Tree a h → ((a n).status ≡ Linked → ⊥) → IsOut h n
unlinked_out a h n t u path e = u (leads_linked a h t path 0 n t.root e)

-- whether a node waits
and_not : (b c : Bool) → c ≡ false → (b && c) ≡ false
and_not true c e = e
and_not false c e = refl

module _ {V : Type 0} where
  unretired_idle : (n : Node V) → n.retired ≡ false → is_handed_over n ≡ false
  unretired_idle n e = rw e refl

  unmade_idle : (n : Node V) → n.made ≡ false → is_handed_over n ≡ false
  unmade_idle n e = and_not n.retired _ (rw e refl)

  destroyed_idle : (n : Node V) → n.destroyed ≡ true → is_handed_over n ≡ false
  destroyed_idle n e = and_not n.retired _ (and_not n.made _ (rw e refl))

  alike : (n m : Node V) → n.retired ≡ m.retired → n.made ≡ m.made → n.destroyed ≡ m.destroyed → is_handed_over n ≡ is_handed_over m
  alike n m r e d = rw (r, e, d) refl

-- what waits in reach of the calls: nothing
linked_idle : {V : Type 0} (a : ℕ → Note) (h : ℕ → Node V) (n : ℕ) → LockWords a h → (a n).status ≡ Linked → is_handed_over (h n) ≡ false
linked_idle a h n w l = unretired_idle (h n) ((w.each n).unretired l)

made_idle : {V : Type 0} (i : ℕ) (a : ℕ → Note) (h : ℕ → Node V) (key : List ℕ) (c size least : ℕ) → Made i a h key c size least → is_handed_over (h c) ≡ false
made_idle i a h key c size least m = unretired_idle (h c) m.unretired

-- what a call hands over has left the tree, so no path leads to what waits
waiting_out : {V : Type 0} (a : ℕ → Note) (h : ℕ → Node V) (n : ℕ) → Tree a h → LockWords a h → is_handed_over (h n) ≡ true → IsOut h n
waiting_out a h n t w e = unlinked_out a h n t (λ l. let z : true ≡ false = sym e ∙ linked_idle a h n w l in cc)

-- each node is as it was, or doesn't wait, before and after
abbrev pub SparesWaiting : {V : Type 0} → (ℕ → Node V) → (ℕ → Node V) → Type 0
SparesWaiting h h' = (n : ℕ) → (h' n ≡ h n) ⊎ ((is_handed_over (h n) ≡ false) × (is_handed_over (h' n) ≡ false))

module _ {V : Type 0} where
  still_idle : (h h' : ℕ → Node V) (n : ℕ) → SparesWaiting h h' → is_handed_over (h n) ≡ false → is_handed_over (h' n) ≡ false
  still_idle h h' n s e = elim (s n) [
    | inl q ↦ ap is_handed_over q ∙ e
    | inr q ↦ q.1
  ]

  spares_same : (h h' : ℕ → Node V) → h' ≡ h → SparesWaiting h h'
  spares_same h h' e = let P : (ℕ → Node V) → Type 0 = λ g. SparesWaiting h g in subst P (sym e) (λ n. inl refl)

  spares_then : (h h1 h2 : ℕ → Node V) → SparesWaiting h h1 → SparesWaiting h1 h2 → SparesWaiting h h2
  spares_then h h1 h2 f g n = elim (f n) [
    | inl p ↦ elim (g n) [
      | inl q ↦ inl (q ∙ p)
      | inr q ↦ inr (sym (ap is_handed_over p) ∙ q.0, q.1)
    ]
    | inr p ↦ inr (p.0, still_idle h1 h2 n g p.1)
  ]

  spares_one : (h h' : ℕ → Node V) (c : ℕ) → is_handed_over (h c) ≡ false → is_handed_over (h' c) ≡ false → ((n : ℕ) → n ≢ c → h' n ≡ h n) → SparesWaiting h h'
  spares_one h h' c b e o n = elim (same_or_not n c) [
    | inl q ↦ (let P : ℕ → Type 0 = λ y. (is_handed_over (h y) ≡ false) × (is_handed_over (h' y) ≡ false) in inr (subst P (sym q) (b, e)))
    | inr ne ↦ inl (o n ne)
  ]

  spares_but : (h h' : ℕ → Node V) (c : ℕ) (x : Node V) → is_handed_over (h c) ≡ false → is_handed_over x ≡ false → SameBut h c x h' → SparesWaiting h h'
  spares_but h h' c x b e g = spares_one h h' c b (ap is_handed_over g.after ∙ e) g.others

  spares_back : (h h' : ℕ → Node V) (c : ℕ) → is_handed_over (h c) ≡ false → BackGives h c h' → SparesWaiting h h'
  spares_back h h' c b g = spares_one h h' c b (destroyed_idle (h' c) g.gone) g.others

  spares_new : (h h' : ℕ → Node V) (c : ℕ) (form : NodeType) (key : List ℕ) (size : ℕ) → NewNode h c form key size h' → SparesWaiting h h'
  spares_new h h' c form key size g = spares_one h h' c (unmade_idle (h c) g.unmade) (unretired_idle (h' c) g.unretired) g.others

  spares_change : (h h' : ℕ → Node V) (c b : ℕ) (x : Hung V) → is_handed_over (h c) ≡ false → ChangeGives h c b x h' → SparesWaiting h h'
  spares_change h h' c b x e g = spares_one h h' c e (alike (h' c) (h c) g.retired g.made g.destroyed ∙ e) g.others

  spares_take : (h h' : ℕ → Node V) (m c : ℕ) → is_handed_over (h m) ≡ false → is_handed_over (h c) ≡ false → TakeOverGives h m c h' → SparesWaiting h h'
  spares_take h h' m c em ec g n = elim (same_or_not n c) [
    | inl q ↦ (let P : ℕ → Type 0 = λ y. (is_handed_over (h y) ≡ false) × (is_handed_over (h' y) ≡ false) in inr (subst P (sym q) (ec, alike (h' c) (h c) g.retired g.made g.destroyed ∙ ec)))
    | inr nc ↦ elim (same_or_not n m) [
      | inl q ↦ (let P : ℕ → Type 0 = λ y. (is_handed_over (h y) ≡ false) × (is_handed_over (h' y) ≡ false) in inr (subst P (sym q) (em, alike (h' m) (h m) g.retired_old g.made_old g.destroyed_old ∙ em)))
      | inr nm ↦ inl (g.others n nc nm)
    ]
  ]

module _ {C V : Type 0} (number : C → ℕ) (i : ℕ) (a : ℕ → Note) (h : ℕ → Node V) (h' : ℕ → Node V) (key : List ℕ) where
  idle_made : (c size least : ℕ) → Made i a h key c size least → is_handed_over (h c) ≡ false
  idle_made c size least m = made_idle i a h key c size least m

  -- made nodes go back
  back_one : (change : Placement C) → MadeHere number i a h key change → BackHere number h change h' → SparesWaiting h h'
  back_one Set m g = spares_same h h' g
  back_one (Link leaf) m g = spares_back h h' (number leaf) (idle_made (number leaf) 7 0 m) g

  back_leaf : (leaf : Option C) (s : Site C) → MadeLeafFor number i a h key s leaf → BackLeaf number h leaf h' → SparesWaiting h h'
  back_leaf None s m g = spares_same h h' g
  back_leaf (Some leaf) s m g = spares_back h h' (number leaf) (idle_made (number leaf) 7 0 m.1) g

  back_both : (c size least d : ℕ) (h1 : ℕ → Node V) → Made i a h key c size least → Made i a h key d 7 0 → BackGives h d h1 → BackGives h1 c h' → SparesWaiting h h'
  back_both c size least d h1 mc md g k =
      let s : SparesWaiting h h1 = spares_back h h1 d (idle_made d 7 0 md) g in
      spares_then h h1 h' s (spares_back h1 h' c (still_idle h h1 c s (idle_made c size least mc)) k)

  back_two : (p : Parent C) (change : Replacement C) (size q : ℕ) → MadeAbove number i a h key p change size q → BackAbove number h change h' → SparesWaiting h h'
  back_two p Unlink size q m g = spares_same h h' g
  back_two p Collapse size q m g = spares_same h h' g
  back_two p (Shrink c) size q m g = spares_back h h' (number c) (idle_made (number c) size q m) g
  back_two p (ShrinkAbove c) size q m g = spares_back h h' (number c) (idle_made (number c) p.depth q m.0) g
  back_two p (Grow c) size q m g = spares_back h h' (number c) (idle_made (number c) size q m) g
  back_two p (GrowLink c leaf byte) size q m g = back_both (number c) size q (number leaf) g.0 m.0 m.1 g.1 g.2
  back_two p (Split top leaf common byte) size q m g = back_both (number top) common 1 (number leaf) g.0 m.0 m.1 g.1 g.2

  -- nodes are changed
  changed_one : (new : Option V) (one : NodeChange C) (change : Placement C) → is_handed_over (h (number one.at.node)) ≡ false → MadeHere number i a h key change → ChangedHere number key new one change h h' → SparesWaiting h h'
  changed_one new one Set e m g = spares_change h h' _ _ _ e g
  changed_one new one (Link leaf) e m g =
      let s : SparesWaiting h g.0 = spares_change h g.0 (number leaf) _ _ (idle_made (number leaf) 7 0 m) g.1 in
      spares_then h g.0 h' s (spares_change g.0 h' (number one.at.node) _ _ (still_idle h g.0 (number one.at.node) s e) g.2)

  lessened : (m c b p up size q : ℕ) → is_handed_over (h p) ≡ false → is_handed_over (h m) ≡ false → Made i a h key c size q → PutsLesser h m c b p up h' → SparesWaiting h h'
  lessened m c b p up size q e f made g =
      let ec : is_handed_over (h c) ≡ false = idle_made c size q made in
      let s1 : SparesWaiting h g.0 = spares_take h g.0 m c f ec g.2 in
      let s2 : SparesWaiting h g.1 = spares_then h g.0 g.1 s1 (spares_change g.0 g.1 c _ _ (still_idle h g.0 c s1 ec) g.3) in
      spares_then h g.1 h' s2 (spares_change g.1 h' p _ _ (still_idle h g.1 p s2 e) g.4)

  -- the node above both doesn't wait
  abbrev TopIdle : Option (Parent C) → Type 0
  TopIdle None = Unit {0}
  TopIdle (Some top) = is_handed_over (h (number top.stamp.node)) ≡ false

  collapsed : (two : ParentChange C) (top : Option (Parent C)) → TopIdle top → Collapses number two top h h' → SparesWaiting h h'
  collapsed two None e g = absurd g
  collapsed two (Some top) e g = spares_change h h' (number top.stamp.node) _ _ e g.2

  lessened_top : (two : ParentChange C) (c : C) (size q : ℕ) (top : Option (Parent C)) → TopIdle top → is_handed_over (h (number two.above.stamp.node)) ≡ false → Made i a h key (number c) size q → Lessens number two c top h h' → SparesWaiting h h'
  lessened_top two c size q None e f made g = absurd g
  lessened_top two c size q (Some top) e f made g = lessened _ _ _ _ _ size q e f made g

  changed_two : (new : Option V) (two : ParentChange C) (change : Replacement C) (size q : ℕ) → TopIdle two.top → is_handed_over (h (number two.above.stamp.node)) ≡ false → is_handed_over (h (number two.at.node)) ≡ false → MadeAbove number i a h key two.above change size q
      → ChangedAbove number key new two change h h' → SparesWaiting h h'
  changed_two new two Unlink size q u e f m g = spares_change h h' _ _ _ e g
  changed_two new two (Shrink c) size q u e f m g = lessened _ _ _ _ _ size q e f m g
  changed_two new two Collapse size q u e f m g = collapsed two two.top u g
  changed_two new two (ShrinkAbove c) size q u e f m g = lessened_top two c _ q two.top u e m.0 g
  changed_two new two (Grow c) size q u e f m g =
      let p : ℕ = number two.above.stamp.node in
      let ec : is_handed_over (h (number c)) ≡ false = idle_made (number c) size q m in
      let s1 : SparesWaiting h g.0 = spares_take h g.0 (number two.at.node) (number c) f ec g.2 in
      let s2 : SparesWaiting h g.1 = spares_then h g.0 g.1 s1 (spares_change g.0 g.1 (number c) _ _ (still_idle h g.0 (number c) s1 ec) g.3) in
      spares_then h g.1 h' s2 (spares_change g.1 h' (number two.above.stamp.node) _ _ (still_idle h g.1 (number two.above.stamp.node) s2 e) g.4)
  changed_two new two (GrowLink c leaf byte) size q u e f m g =
      let ec : is_handed_over (h (number c)) ≡ false = idle_made (number c) size q m.0 in
      let s1 : SparesWaiting h g.0 = spares_change h g.0 (number leaf) _ _ (idle_made (number leaf) 7 0 m.1) g.3 in
      let s2 : SparesWaiting h g.1 = spares_then h g.0 g.1 s1 (spares_take g.0 g.1 (number two.at.node) (number c) (still_idle h g.0 (number two.at.node) s1 f) (still_idle h g.0 (number c) s1 ec) g.4) in
      let s3 : SparesWaiting h g.2 = spares_then h g.1 g.2 s2 (spares_change g.1 g.2 (number c) _ _ (still_idle h g.1 (number c) s2 ec) g.5) in
      spares_then h g.2 h' s3 (spares_change g.2 h' (number two.above.stamp.node) _ _ (still_idle h g.2 (number two.above.stamp.node) s3 e) g.6)
  changed_two new two (Split top leaf common byte) size q u e f m g =
      let ec : is_handed_over (h (number top)) ≡ false = idle_made (number top) common 1 m.0 in
      let s1 : SparesWaiting h g.0 = spares_change h g.0 (number leaf) _ _ (idle_made (number leaf) 7 0 m.1) g.3 in
      let s2 : SparesWaiting h g.1 = spares_then h g.0 g.1 s1 (spares_change g.0 g.1 (number top) _ _ (still_idle h g.0 (number top) s1 ec) g.4) in
      let s3 : SparesWaiting h g.2 = spares_then h g.1 g.2 s2 (spares_change g.1 g.2 (number top) _ _ (still_idle h g.1 (number top) s2 ec) g.5) in
      spares_then h g.2 h' s3 (spares_change g.2 h' (number two.above.stamp.node) _ _ (still_idle h g.2 (number two.above.stamp.node) s3 e) g.6)

  -- nodes are made
  leaf_made : (kind : Kind V) (s : Site C) (r : Result C Refusal) (next_phase : NextPhase C V) → MadeLeaf number kind s h key r h' next_phase → SparesWaiting h h'
  leaf_made kind s (Ok leaf) next_phase g = spares_new h h' _ _ _ _ g.0
  leaf_made kind s (Err e) next_phase g = spares_same h h' g.0

  greater_made : (kind : Kind V) (s : Site C) (p : Parent C) (leaf : Option C) (r : Result C Refusal) (next_phase : NextPhase C V) → MadeLeafFor number i a h key s leaf → MadeGreater number kind s p leaf h key r h' next_phase → SparesWaiting h h'
  greater_made kind s p leaf (Ok c) next_phase m g = spares_new h h' _ _ _ _ g.0
  greater_made kind s p leaf (Err e) next_phase m g = back_leaf leaf s m g.0

  top_made : (p : Parent C) (at : Stamp C) (common byte : ℕ) (r : Result C Refusal) (next_phase : NextPhase C V) → MadeTop number p at common byte h key r h' next_phase → SparesWaiting h h'
  top_made p at common byte (Ok top) next_phase g = spares_new h h' _ _ _ _ g.0
  top_made p at common byte (Err e) next_phase g = spares_same h h' g.0

  beside_made : (kind : Kind V) (p : Parent C) (at : Stamp C) (common byte : ℕ) (top : C) (r : Result C Refusal) (next_phase : NextPhase C V) → Made i a h key (number top) common 1 → MadeBeside number kind p at common byte top h key r h' next_phase → SparesWaiting h h'
  beside_made kind p at common byte top (Ok leaf) next_phase m g = spares_new h h' _ _ _ _ g.0
  beside_made kind p at common byte top (Err e) next_phase m g = spares_back h h' (number top) (idle_made (number top) common 1 m) g.0

  lesser_made : (s : Site C) (p : Parent C) (top : Option (Parent C)) (r : Reply V) (x : Result C Refusal) (next_phase : NextPhase C V) → MadeLesser number s p top r h key x h' next_phase → SparesWaiting h h'
  lesser_made s p None r (Ok c) next_phase g = spares_new h h' _ _ _ _ g.0
  lesser_made s p None r (Err e) next_phase g = spares_same h h' g.0
  lesser_made s p (Some top) r (Ok c) next_phase g = spares_new h h' _ _ _ _ g.0
  lesser_made s p (Some top) r (Err e) next_phase g = spares_same h h' g.0

  -- a node is locked
  locked_spares : (most n v : ℕ) (fail : Bool) → LockWords a h → is_published (a n).status ≡ true → Locked ≡ upgrade_gives most (h n) v fail → SameBut h n (record (h n) { locked = true }) h' → SparesWaiting h h'
  locked_spares most n v fail w p e g =
      let q : is_handed_over (h n) ≡ false = linked_idle a h n w (taken_linked a h w n v p (locked_taken most (h n) v fail e)) in spares_but h h' n _ q q g

  one_upgraded : (root : C) (one : NodeChange C) (r : Reply V) (most : ℕ) (fail : Bool) (u : Upgrade) (next_phase : NextPhase C V) → LockWords a h → is_published (a (number one.at.node)).status ≡ true → MadeHere number i a h key one.change
      → u ≡ upgrade_gives most (h (number one.at.node)) one.at.version fail → UpgradedHere number root one r h u h' next_phase → SparesWaiting h h'
  one_upgraded root one r most fail Locked next_phase w p m e g = locked_spares most (number one.at.node) one.at.version fail w p e g.0
  one_upgraded root one r most fail Failed next_phase w p m e g = back_one one.change m g.0
  one_upgraded root one r most fail Exhausted next_phase w p m e g = back_one one.change m g.0

  top_upgraded : (root : C) (top : Parent C) (two : ParentChange C) (r : Reply V) (size q most : ℕ) (fail : Bool) (u : Upgrade) (next_phase : NextPhase C V) → LockWords a h → is_published (a (number top.stamp.node)).status ≡ true → MadeAbove number i a h key two.above two.change size q
      → u ≡ upgrade_gives most (h (number top.stamp.node)) top.stamp.version fail → UpgradedTop number root top two r h u h' next_phase → SparesWaiting h h'
  top_upgraded root top two r size q most fail Locked next_phase w p m e g = locked_spares most (number top.stamp.node) top.stamp.version fail w p e g.0
  top_upgraded root top two r size q most fail Failed next_phase w p m e g = back_two two.above two.change size q m g.0
  top_upgraded root top two r size q most fail Exhausted next_phase w p m e g = back_two two.above two.change size q m g.0

  above_upgraded : (root : C) (two : ParentChange C) (r : Reply V) (size q most : ℕ) (fail : Bool) (u : Upgrade) (next_phase : NextPhase C V) → LockWords a h → is_published (a (number two.above.stamp.node)).status ≡ true → MadeAbove number i a h key two.above two.change size q
      → u ≡ upgrade_gives most (h (number two.above.stamp.node)) two.above.stamp.version fail → UpgradedAbove number root two r h u h' next_phase → SparesWaiting h h'
  above_upgraded root two r size q most fail Locked next_phase w p m e g = locked_spares most (number two.above.stamp.node) two.above.stamp.version fail w p e g.0
  above_upgraded root two r size q most fail Failed next_phase w p m e g = back_two two.above two.change size q m g.0
  above_upgraded root two r size q most fail Exhausted next_phase w p m e g = back_two two.above two.change size q m g.0

  both_upgraded : (two : ParentChange C) (r : Reply V) (size q most : ℕ) (fail : Bool) (u : Upgrade) (next_phase : NextPhase C V) → LockWords a h → is_published (a (number two.at.node)).status ≡ true → MadeAbove number i a h key two.above two.change size q
      → u ≡ upgrade_gives most (h (number two.at.node)) two.at.version fail → UpgradedBelow number two r h u h' next_phase → SparesWaiting h h'
  both_upgraded two r size q most fail Locked next_phase w p m e g = locked_spares most (number two.at.node) two.at.version fail w p e g.0
  both_upgraded two r size q most fail Failed next_phase w p m e g = back_two two.above two.change size q m g.0
  both_upgraded two r size q most fail Exhausted next_phase w p m e g = back_two two.above two.change size q m g.0

-- the call hands node n over: it had handed over none, or one and this is the second
pub record Gives {C V : Type 0} (number : C → ℕ) (h : ℕ → Node V) (s : Phase C V) (n : ℕ) (h' : ℕ → Node V) (s' : Phase C V) : Type 0 where
  pub taken : TakenBy number s n
  pub was : (k : ℕ) → IsLeaving s k → k ≡ 1
  pub is : (k : ℕ) → (k ≡ 0) ⊎ IsLeaving s k → IsLeaving s' (suc k)
  pub marked : (h n).obsolete ≡ true
  pub out : IsOut h n
  pub before : is_handed_over (h n) ≡ false
  pub after : is_handed_over (h' n) ≡ true
  pub others : (m : ℕ) → m ≢ n → h' m ≡ h m

module _ {C V : Type 0} (number : C → ℕ) (same : V → V → Bool) (always : Bool) (i : ℕ) (a : ℕ → Note) (h : ℕ → Node V) (h' : ℕ → Node V) (k : ℕ)
    (w : LockWords a h) (t : Tree a h) where
  unlock_spares : (n : ℕ) → (a n).status ≡ Linked → SameBut h n (record (h n) { version = (h n).version + 1; locked = false }) h' → SparesWaiting h h'
  unlock_spares n l g = let q : is_handed_over (h n) ≡ false = linked_idle a h n w l in spares_but h h' n _ q q g

  top_idle : (top : Option (Parent C)) (n : ℕ) → TopLocked number i a h (key_bytes k) top n → TopIdle number i a h h' (key_bytes k) top
  top_idle None n o = tt
  top_idle (Some top) n o = linked_idle a h (number top.stamp.node) w o.holding.linked

  -- every step
  pub step_hands : (most : ℕ) (why : NodeType → Refusal → Type 0) (root : C) (kind : Kind V) (fail : Bool) (answer : Option (Option V)) (given : Option V) (s : Phase C V) (given' : Option V) (next_phase : NextPhase C V)
      → Known number same always i a h k (key_bytes k) kind given s → PhaseStepped number same always most why root (key_bytes k) kind fail answer given s h given' next_phase h'
      → SparesWaiting h h' ⊎ ((n : ℕ) × Gives number h s n h' next_phase.phase)
  step_hands most why root kind fail answer given (MakeLeaf s) given' next_phase x g = inl (leaf_made number i a h h' (key_bytes k) kind s g.1.0 next_phase g.1.1)
  step_hands most why root kind fail answer given (MakeGreater s p leaf) given' next_phase x g = inl (greater_made number i a h h' (key_bytes k) kind s p leaf g.1.0 next_phase x.3 g.1.1)
  step_hands most why root kind fail answer given (MakeTop p at common byte) given' next_phase x g = inl (top_made number i a h h' (key_bytes k) p at common byte g.1.0 next_phase g.1.1)
  step_hands most why root kind fail answer given (MakeBeside p at common byte top) given' next_phase x g = inl (beside_made number i a h h' (key_bytes k) kind p at common byte top g.1.0 next_phase x.6 g.1.1)
  step_hands most why root kind fail answer given (MakeLesser s p top r) given' next_phase x g = inl (lesser_made number i a h h' (key_bytes k) s p top r g.1.0 next_phase g.1.1)
  step_hands most why root kind fail answer given (CheckAbove p one r) given' next_phase x g = inl (on_test (is_taken (h (number p.node)) p.version)
      (λ y. spares_same h h' (g.1.goes_on y).0)
      (λ y. back_one number i a h h' (key_bytes k) one.change x.2.made (g.1.goes_back y).0))
  step_hands most why root kind fail answer given (UpgradeHere one r) given' next_phase x g =
      inl (one_upgraded number i a h h' (key_bytes k) root one r most fail g.1.0 next_phase w x.1.1.fresh.stamped.published x.1.1.made g.1.1 g.1.2)
  step_hands most why root kind fail answer given (ChangeHere one r) given' next_phase x g =
      inl (changed_one number i a h h' (key_bytes k) given one one.change (linked_idle a h (number one.at.node) w x.1.holding.linked) x.1.made g.1)
  step_hands most why root kind fail answer given (UpgradeTop top two r) given' next_phase x g =
      inl (top_upgraded number i a h h' (key_bytes k) root top two r _ _ most fail g.1.0 next_phase w x.2.fresh.stamped.published x.1.2.made g.1.1 g.1.2)
  step_hands most why root kind fail answer given (UpgradeAbove two r) given' next_phase x g =
      inl (above_upgraded number i a h h' (key_bytes k) root two r _ _ most fail g.1.0 next_phase w x.1.2.above.fresh.stamped.published x.1.2.made g.1.1 g.1.2)
  step_hands most why root kind fail answer given (UpgradeBelow two r) given' next_phase x g =
      inl (both_upgraded number i a h h' (key_bytes k) two r _ _ most fail g.1.0 next_phase w x.1.2.fresh.stamped.published x.1.2.made g.1.1 g.1.2)
  step_hands most why root kind fail answer given (ChangeAbove two r) given' next_phase x g =
      inl (changed_two number i a h h' (key_bytes k) given two two.change _ _ (top_idle two.top _ x.2.top) (linked_idle a h (number two.above.stamp.node) w x.2.above.holding.linked)
      (linked_idle a h (number two.at.node) w (t.down (number two.above.stamp.node) _ (number two.at.node) x.2.above.holding.linked x.2.above.child).linked) x.2.made g.1)
  step_hands most why root kind fail answer given (Obsolete n next p r) given' next_phase x g =
      let q : is_handed_over (h (number n)) ≡ false = unretired_idle (h (number n)) x.0.unretired in inl (spares_but h h' (number n) _ q q g.1)
  step_hands most why root kind fail answer given (Retire n next p r) given' next_phase x g = inr (
    number n,
    record {
      taken = inl refl;
      was = was next;
      is = λ c l. let P : NextPhase C V → Type 0 = λ z. IsLeaving z.phase (suc c) in subst P (sym g.2) (is next c l);
      marked = x.2;
      out = unlinked_out a h (number n) t (λ l. let z : Linked ≡ Gone = sym l ∙ x.0.gone in cc);
      before = unretired_idle (h (number n)) x.0.unretired;
      after = (let s : Stands (h (number n)) = (w.each (number n)).stands (ap is_published x.0.gone) in rw (g.1.after, s.made, s.kept) refl);
      others = g.1.others;
    },
  ) where
    was : (next : Option C) (c : ℕ) → IsLeaving (Retire n next p r) c → c ≡ 1
    was None c l = l
    was (Some d) c l = absurd l

    is : (next : Option C) (c : ℕ) → (c ≡ 0) ⊎ IsLeaving (Retire n next p r) c → IsLeaving (after_retire next p r).phase (suc c)
    is None c l = tt
    is (Some d) c (inl e) = ap suc e
    is (Some d) c (inr l) = absurd l
  step_hands most why root kind fail answer given (UnlockBelow n p r) given' next_phase x g = inl (unlock_spares (number n) x.0.linked g.1)
  step_hands most why root kind fail answer given (Unlock n r) given' next_phase x g = inl (unlock_spares (number n) x.linked g.1)
  step_hands most why root kind fail answer given (Unwind n next e) given' next_phase x g = inl (unlock_spares (number n) x.1.linked g.1)
  step_hands most why root kind fail answer given _ given' next_phase x g = inl (spares_same h h' g.0)

  -- a call that is leaving goes on to leave
  pub leaves_on : (most : ℕ) (why : NodeType → Refusal → Type 0) (root : C) (kind : Kind V) (fail : Bool) (answer : Option (Option V)) (given : Option V) (s : Phase C V) (given' : Option V) (next_phase : NextPhase C V)
      → PhaseStepped number same always most why root (key_bytes k) kind fail answer given s h given' next_phase h' → (c : ℕ) → IsLeaving s c → IsLeaving next_phase.phase c
  leaves_on most why root kind fail answer given (Obsolete n None p r) given' next_phase g c l = let P : NextPhase C V → Type 0 = λ z. IsLeaving z.phase c in subst P (sym g.2) l
  leaves_on most why root kind fail answer given (Retire n None p r) given' next_phase g c l = let P : NextPhase C V → Type 0 = λ z. IsLeaving z.phase c in subst P (sym g.2) tt
  leaves_on most why root kind fail answer given (Unlock n r) given' next_phase g c l = let P : NextPhase C V → Type 0 = λ z. IsLeaving z.phase c in subst P (sym g.2) tt
  leaves_on most why root kind fail answer given Ended given' next_phase g c l = let P : NextPhase C V → Type 0 = λ z. IsLeaving z.phase c in subst P (sym g.2) tt
  leaves_on most why root kind fail answer given _ given' next_phase g c l = absurd l

-- what the calls have handed over, or taken out, with these of one call
unfoldable pub giving : (ℕ → List ℕ) → ℕ → List ℕ → ℕ → List ℕ
giving by i xs j = cond (j == i) xs (by j)

-- the one call has these
pub giving_here : (by : ℕ → List ℕ) (i : ℕ) (xs : List ℕ) → giving by i xs i ≡ xs
unfolding giving
giving_here by i xs = rw (same_test i i refl) refl

-- every other call has what it had
pub giving_apart : (by : ℕ → List ℕ) (i : ℕ) (xs : List ℕ) (j : ℕ) → j ≢ i → giving by i xs j ≡ by j
unfolding giving
giving_apart by i xs j e = rw (other_test j i e) refl

-- a list that has something isn't empty
pub some_of : (xs : List ℕ) (n : ℕ) → Contains xs n → xs ≢ []
some_of xs n c e = let P : List ℕ → Type 0 = λ y. Contains y n in let z : Contains [] n = subst P e c in absurd (omega (arith, z.1))

-- a list that has nothing is empty
pub none_if : (xs : List ℕ) → ((n : ℕ) → Contains xs n → ⊥) → xs ≡ []
none_if [] f = refl
none_if (x ∷ xs) f = absurd (f x (0, omega arith, refl))

empty_or : (xs : List ℕ) → (xs ≡ []) ⊎ (xs ≢ [])
empty_or [] = inl refl
empty_or (x ∷ xs) = inr (λ e. cc)

-- what stands in a place of a list is in the list
pub at_place : (xs : List ℕ) (k n : ℕ) → slice_get xs k ≡ Some n → Contains xs n
at_place xs k n e = (k, slice_get_within xs k n e, get_or_from_slice_get xs k n n e)

push_at : (xs : List ℕ) (y k n : ℕ) → slice_get (xs ++ y ∷ []) k ≡ Some n → (slice_get xs k ≡ Some n) ⊎ ((k ≡ length xs) × (y ≡ n))
push_at [] y zero n e = inr (refl, cc)
push_at [] y (suc k) n e = absurd cc
push_at (x ∷ xs) y zero n e = inl e
push_at (x ∷ xs) y (suc k) n e = elim (push_at xs y k n e) [
  | inl z ↦ inl z
  | inr z ↦ inr (ap suc z.0, z.1)
]

-- one step of the calls
module _ {C V : Type 0} (number : C → ℕ) (h : ℕ → Node V) (ms : List (Machine C V)) (i : ℕ) (m m' : Machine C V) (h' : ℕ → Node V) (e : slice_get ms i ≡ Some m) where
  leaves_at : (by : ℕ → List ℕ) → Leaving by ms → by i ≢ [] → IsLeaving m.phase (length (by i))
  leaves_at by l q =
      let x : (k : Machine C V) × (slice_get ms i ≡ Some k) × IsLeaving k.phase (length (by i)) = l i q in
      let z : x.0 ≡ m = (let y : Some x.0 ≡ Some m = sym x.1 ∙ e in cc) in
      let P : Machine C V → Type 0 = λ y. IsLeaving y.phase (length (by i)) in subst P z x.2

  abbrev At : ℕ → ℕ → Type 0
  At j c = (k : Machine C V) × (slice_get (set ms i m') j ≡ Some k) × IsLeaving k.phase c

  leaves_here : (j c : ℕ) → j ≡ i → IsLeaving m'.phase c → At j c
  leaves_here j c q x = let P : ℕ → Type 0 = λ y. At y c in subst P (sym q) (m', set_here ms i m' m e, x)

  leaves_apart : (by : ℕ → List ℕ) → Leaving by ms → (j : ℕ) → j ≢ i → by j ≢ [] → At j (length (by j))
  leaves_apart by l j ne q = let x : (k : Machine C V) × (slice_get ms j ≡ Some k) × IsLeaving k.phase (length (by j)) = l j q in (x.0, set_apart ms i j m' x.0 ne x.1, x.2)

  hands_nothing : ((c : ℕ) → IsLeaving m.phase c → IsLeaving m'.phase c) → SparesWaiting h h' → StepHands number h ms i h' (set ms i m')
  hands_nothing f s by l = (
    by,
    inl (record {
      calls = λ j. refl;
      nodes = λ n. elim (s n) [
        | inl q ↦ ap is_handed_over q
        | inr q ↦ q.1 ∙ sym q.0
      ];
    }),
    (λ j q. elim (same_or_not j i) [
      | inl y ↦ leaves_here j (length (by j)) y
          (let P : ℕ → Type 0 = λ z. IsLeaving m'.phase (length (by z)) in subst P (sym y) (f (length (by i)) (leaves_at by l (let Q : ℕ → Type 0 = λ z. by z ≢ [] in subst Q y q))))
      | inr ne ↦ leaves_apart by l j ne q
    ]),
    (λ j n q. inl q),
  )

  hands_node : (n : ℕ) → Gives number h m.phase n h' m'.phase → StepHands number h ms i h' (set ms i m')
  hands_node n g by l = (
    giving by i (by i ++ n ∷ []),
    inr (
      n,
      record {
        few = few n g by l;
        now = giving_here by i (by i ++ n ∷ []);
        others = λ j ne. giving_apart by i (by i ++ n ∷ []) j ne;
        marked = g.marked;
        out = g.out;
        before = g.before;
        after = g.after;
        nodes = λ c ne. ap is_handed_over (g.others c ne);
      },
    ),
    (λ j q. elim (same_or_not j i) [
      | inl y ↦ leaves_here j _ y (is_now n g by l j y)
      | inr ne ↦ (let z : giving by i (by i ++ n ∷ []) j ≡ by j = giving_apart by i (by i ++ n ∷ []) j ne in
          let P : List ℕ → Type 0 = λ u. At j (length u) in subst P (sym z) (leaves_apart by l j ne (λ u. q (z ∙ u))))
    ]),
    (λ j c q. elim (same_or_not j i) [
      | inl y ↦ taker n g by j c y q
      | inr ne ↦ inl (let P : List ℕ → Type 0 = λ u. Contains u c in subst P (giving_apart by i (by i ++ n ∷ []) j ne) q)
    ]),
  ) where
    before : (n : ℕ) → Gives number h m.phase n h' m'.phase → (by : ℕ → List ℕ) → Leaving by ms → (length (by i) ≡ 0) ⊎ IsLeaving m.phase (length (by i))
    before n g by l = elim (empty_or (by i)) [
      | inl z ↦ inl (ap length z)
      | inr z ↦ inr (leaves_at by l z)
    ]

    few : (n : ℕ) → Gives number h m.phase n h' m'.phase → (by : ℕ → List ℕ) → Leaving by ms → length (by i) < 2
    few n g by l = elim (before n g by l) [
      | inl z ↦ omega (arith, z)
      | inr z ↦ (let u : length (by i) ≡ 1 = g.was (length (by i)) z in omega (arith, u))
    ]

    is_now : (n : ℕ) → Gives number h m.phase n h' m'.phase → (by : ℕ → List ℕ) → Leaving by ms → (j : ℕ) → j ≡ i → IsLeaving m'.phase (length (giving by i (by i ++ n ∷ []) j))
    is_now n g by l j y =
        let z : length (by i ++ n ∷ []) ≡ suc (length (by i)) = (let u : length (by i ++ n ∷ []) ≡ length (by i) + 1 = length-append (by i) (n ∷ []) in omega (arith, u)) in
        let P : ℕ → Type 0 = λ u. IsLeaving m'.phase u in
        let Q : ℕ → Type 0 = λ u. IsLeaving m'.phase (length (giving by i (by i ++ n ∷ []) u)) in
        let R : List ℕ → Type 0 = λ u. IsLeaving m'.phase (length u) in
        subst Q (sym y) (subst R (sym (giving_here by i (by i ++ n ∷ []))) (subst P (sym z) (g.is (length (by i)) (before n g by l))))

    taker : (n : ℕ) → Gives number h m.phase n h' m'.phase → (by : ℕ → List ℕ) → (j c : ℕ) → j ≡ i → Contains (giving by i (by i ++ n ∷ []) j) c → Contains (by j) c ⊎ ((k : Machine C V) × (slice_get ms j ≡ Some k) × TakenBy number k.phase c)
    taker n g by j c y q =
        let P : ℕ → Type 0 = λ z. Contains (giving by i (by i ++ n ∷ []) z) c in
        let R : List ℕ → Type 0 = λ z. Contains z c in
        elim (Contains-push_cases (by i) n c (subst R (giving_here by i (by i ++ n ∷ [])) (subst P y q))) [
          | inl z ↦ inl (let Q : ℕ → Type 0 = λ u. Contains (by u) c in subst Q (sym y) z)
          | inr z ↦ inr (let Q : ℕ → Type 0 = λ u. TakenBy number m.phase u in let S : ℕ → Type 0 = λ u. slice_get ms u ≡ Some m in (m, subst S (sym y) e, subst Q z g.taken))
        ]

  -- what waits is left alone
  spared : SparesWaiting h h' → Untouched h h'
  spared s n x = elim (s n) [
    | inl q ↦ q
    | inr q ↦ absurd (let z : true ≡ false = sym x ∙ q.0 in cc)
  ]

  given_apart : (n : ℕ) → Gives number h m.phase n h' m'.phase → Untouched h h'
  given_apart n g c x = g.others c (λ q. let y : is_handed_over (h c) ≡ false = (let P : ℕ → Type 0 = λ z. is_handed_over (h z) ≡ false in subst P (sym q) g.before) in let z : true ≡ false = sym x ∙ y in cc)

  -- a call's step hands over nothing, or one node that the call took out
  pub stepped_hands : ((c : ℕ) → IsLeaving m.phase c → IsLeaving m'.phase c) → SparesWaiting h h' ⊎ ((n : ℕ) × Gives number h m.phase n h' m'.phase) → StepHands number h ms i h' (set ms i m')
  stepped_hands f (inl s) = hands_nothing f s
  stepped_hands f (inr g) = hands_node g.0 g.1

  -- a call's step leaves what was handed over as it is
  pub stepped_apart : SparesWaiting h h' ⊎ ((n : ℕ) × Gives number h m.phase n h' m'.phase) → Untouched h h'
  stepped_apart (inl s) = spared s
  stepped_apart (inr g) = given_apart g.0 g.1

-- a call that isn't there hands nothing over
abbrev pub idle_hands : {C V : Type 0} (number : C → ℕ) (h : ℕ → Node V) (ms : List (Machine C V)) (i : ℕ) → StepHands number h ms i h ms
idle_hands number h ms i = λ by l. (by, inl (record { calls = λ j. refl; nodes = λ n. refl }), l, (λ j n q. inl q))

-- steps, one after another
hands_more : {C V : Type 0} (by : ℕ → List ℕ) (h : ℕ → Node V) (ss : List (Step C V)) (by1 : ℕ → List ℕ) (h1 : ℕ → Node V) (s : Step C V) (by2 : ℕ → List ℕ) (h2 : ℕ → Node V)
    → Hands by h ss by1 h1 → HandsAt by1 h1 s.who by2 h2 → Hands by h (ss ++ s ∷ []) by2 h2
hands_more by h [] by1 h1 s by2 h2 r q =
    let P : (ℕ → List ℕ) → Type 0 = λ x. HandsAt x h s.who by2 h2 in
    let Q : (ℕ → Node _) → Type 0 = λ x. HandsAt by1 x s.who by2 h2 in
    (by2, h2, subst P r.0 (subst Q r.1 q), (refl, refl))
hands_more by h (x ∷ ss) by1 h1 s by2 h2 r q = (r.0, r.1, r.2, hands_more r.0 r.1 ss by1 h1 s by2 h2 r.3 q)

-- over no steps nothing is handed over
pub handing_none : {C V : Type 0} (h : ℕ → Node V) (ms : List (Machine C V)) (a : ℕ → Note) → Tree a h → LockWords a h → Handing (λ _. []) h [] h ms
handing_none h ms a t w = record {
  run = (refl, refl);
  leaving = λ i q. absurd (q refl);
  few = λ i. omega arith;
  once = λ i j n k l q r. absurd cc;
  new = λ i n q. absurd (some_of [] n q refl);
  all = λ n x. inl x;
  out = λ n x. waiting_out a h n t w x;
  untouched = λ n x. refl;
}

module _ {C V : Type 0} (by : ℕ → List ℕ) (h0 : ℕ → Node V) (ss : List (Step C V)) (h : ℕ → Node V) (ms : List (Machine C V)) (s : Step C V) (by' : ℕ → List ℕ) (h' : ℕ → Node V) (ms' : List (Machine C V))
    (p : Handing by h0 ss h ms) (a' : ℕ → Note) (t : Tree a' h') (w : LockWords a' h') (u : Untouched h h') (l : Leaving by' ms') where
  more_nothing : HandsNothing by h by' h' → Handing by' h0 (ss ++ s ∷ []) h' ms'
  more_nothing x = record {
    run = hands_more (λ _. []) h0 ss by h s by' h' p.run (inl x);
    leaving = l;
    few = λ i. rw (x.calls i) (p.few i);
    once = λ i j n k m q r. p.once i j n k m (rw (x.calls i) at q) (rw (x.calls j) at r);
    new = λ i n q. let y : (is_handed_over (h0 n) ≡ false) × (is_handed_over (h n) ≡ true) = p.new i n (rw (x.calls i) at q) in (y.0, x.nodes n ∙ y.1);
    all = λ n q. elim (p.all n (sym (x.nodes n) ∙ q)) [
      | inl y ↦ inl y
      | inr y ↦ inr (y.0, rw (x.calls y.0) y.1)
    ];
    out = λ n y. waiting_out a' h' n t w y;
    untouched = λ n y. u n (ap is_handed_over (p.untouched n y) ∙ y) ∙ p.untouched n y;
  }

  module _ (n : ℕ) (x : HandsNode by h s.who n by' h') where
    -- who hands over one node more
    one_more : (i c : ℕ) → Contains (by' i) c → ((i ≡ s.who) × (c ≡ n)) ⊎ Contains (by i) c
    one_more i c q = elim (same_or_not i s.who) [
      | inl y ↦ (let P : ℕ → Type 0 = λ z. Contains (by' z) c in
          let R : List ℕ → Type 0 = λ z. Contains z c in elim (Contains-push_cases (by s.who) n c (subst R x.now (subst P y q))) [
            | inl z ↦ inr (let Q : ℕ → Type 0 = λ v. Contains (by v) c in subst Q (sym y) z)
            | inr z ↦ inl (y, sym z)
          ])
      | inr ne ↦ inr (let R : List ℕ → Type 0 = λ z. Contains z c in subst R (x.others i ne) q)
    ]

    -- at which place
    one_at : (i c k : ℕ) → slice_get (by' i) k ≡ Some c → ((i ≡ s.who) × (c ≡ n) × (k ≡ length (by s.who))) ⊎ (slice_get (by i) k ≡ Some c)
    one_at i c k q = elim (same_or_not i s.who) [
      | inl y ↦ (let P : ℕ → Type 0 = λ z. slice_get (by' z) k ≡ Some c in
          let R : List ℕ → Type 0 = λ z. slice_get z k ≡ Some c in elim (push_at (by s.who) n k c (subst R x.now (subst P y q))) [
            | inl z ↦ inr (let Q : ℕ → Type 0 = λ v. slice_get (by v) k ≡ Some c in subst Q (sym y) z)
            | inr z ↦ inl (y, sym z.1, z.0)
          ])
      | inr ne ↦ inr (let R : List ℕ → Type 0 = λ z. slice_get z k ≡ Some c in subst R (x.others i ne) q)
    ]

    -- what was handed over stays so
    kept_on : (i c : ℕ) → Contains (by i) c → Contains (by' i) c
    kept_on i c q = elim (same_or_not i s.who) [
      | inl y ↦ (let P : ℕ → Type 0 = λ z. Contains (by z) c in
          let R : List ℕ → Type 0 = λ z. Contains z c in
          let Q : ℕ → Type 0 = λ v. Contains (by' v) c in subst Q (sym y) (subst R (sym x.now) (Contains-append_left (by s.who) (n ∷ []) c (subst P y q))))
      | inr ne ↦ (let R : List ℕ → Type 0 = λ z. Contains z c in subst R (sym (x.others i ne)) q)
    ]

    -- nobody handed it over before
    not_yet : (i c : ℕ) → Contains (by i) c → c ≡ n → ⊥
    not_yet i c q y =
        let z : is_handed_over (h c) ≡ true = (p.new i c q).1 in
        let b : is_handed_over (h c) ≡ false = (let P : ℕ → Type 0 = λ v. is_handed_over (h v) ≡ false in subst P (sym y) x.before) in
        let v : true ≡ false = sym z ∙ b in cc

    -- it didn't wait at first, else it would still wait
    at_first : (b : Bool) → is_handed_over (h0 n) ≡ b → is_handed_over (h0 n) ≡ false
    at_first false e = e
    at_first true e = absurd (let y : is_handed_over (h n) ≡ true = ap is_handed_over (p.untouched n e) ∙ e in let z : true ≡ false = sym y ∙ x.before in cc)

    fresh : (c : ℕ) → c ≡ n → (is_handed_over (h0 c) ≡ false) × (is_handed_over (h' c) ≡ true)
    fresh c y = let P : ℕ → Type 0 = λ z. (is_handed_over (h0 z) ≡ false) × (is_handed_over (h' z) ≡ true) in subst P (sym y) (at_first (is_handed_over (h0 n)) refl, x.after)

    few_now : (i : ℕ) → length (by' i) ≤ 2
    few_now i = elim (same_or_not i s.who) [
      | inl y ↦ (let z : length (by' s.who) ≡ length (by s.who) + 1 = ap length x.now ∙ length-append (by s.who) (n ∷ []) in
          let P : ℕ → Type 0 = λ v. length (by' v) ≤ 2 in subst P (sym y) (omega (arith, x.few, z)))
      | inr ne ↦ rw (x.others i ne) (p.few i)
    ]

    more_node : Handing by' h0 (ss ++ s ∷ []) h' ms'
    more_node = record {
      run = hands_more (λ _. []) h0 ss by h s by' h' p.run (inr (n, x));
      leaving = l;
      few = few_now;
      once = λ i j c k m q r. elim (one_at i c k q) [
        | inl y ↦ elim (one_at j c m r) [
          | inl z ↦ (y.0 ∙ sym z.0, y.2 ∙ sym z.2)
          | inr z ↦ absurd (not_yet j c (at_place (by j) m c z) y.1)
        ]
        | inr y ↦ elim (one_at j c m r) [
          | inl z ↦ absurd (not_yet i c (at_place (by i) k c y) z.1)
          | inr z ↦ p.once i j c k m y z
        ]
      ];
      new = λ i c q. elim (one_more i c q) [
        | inl y ↦ fresh c y.1
        | inr y ↦ (let z : (is_handed_over (h0 c) ≡ false) × (is_handed_over (h c) ≡ true) = p.new i c y in (z.0, ap is_handed_over (u c z.1) ∙ z.1))
      ];
      all = λ c q. elim (same_or_not c n) [
        | inl y ↦ inr (s.who, (let P : ℕ → Type 0 = λ z. Contains (by' s.who) z in let R : List ℕ → Type 0 = λ z. Contains z n in subst P (sym y) (subst R (sym x.now) (Contains-push (by s.who) n))))
        | inr ne ↦ elim (p.all c (sym (x.nodes c ne) ∙ q)) [
          | inl y ↦ inl y
          | inr y ↦ inr (y.0, kept_on y.0 c y.1)
        ]
      ];
      out = λ c y. waiting_out a' h' c t w y;
      untouched = λ c y. u c (ap is_handed_over (p.untouched c y) ∙ y) ∙ p.untouched c y;
    }

  -- what a run handed over, with one step more: each node once, by one call, and out of the tree
  pub handing_more : HandsAt by h s.who by' h' → Handing by' h0 (ss ++ s ∷ []) h' ms'
  handing_more (inl x) = more_nothing x
  handing_more (inr x) = more_node x.0 x.1
