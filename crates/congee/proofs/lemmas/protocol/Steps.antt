-- Every step of a call keeps the tree, what the call and the others know, and answers as the map.
use Rattle.std.proofs.Common.{◌≡◌, ℕ, Bool, true, false, refl, sym, ap, subst}
use Rattle.std.specs.Prelude.{Option, None, Some}
use Rattle.judge.specs.declared.journal.Reply.{Reply}
use Rattle.congee.specs.declared.forms.base_node.NodeType.{NodeType}
use Rattle.congee.specs.declared.protocol.store.Refusal.{Refusal}
use Rattle.congee.specs.declared.protocol.store.Refusal.TheVariants as refusal
use Rattle.congee.specs.declared.protocol.store.Upgrade.{Upgrade}
use Rattle.congee.specs.declared.protocol.store.Upgrade.TheVariants.{Locked, Failed, Exhausted}
use Rattle.congee.specs.declared.protocol.phase.Kind.{Kind}
use Rattle.congee.specs.declared.protocol.phase.Parent.{Parent}
use Rattle.congee.specs.declared.protocol.phase.NodeChange.{NodeChange}
use Rattle.congee.specs.declared.protocol.phase.ParentChange.{ParentChange}
use Rattle.congee.specs.declared.protocol.phase.Phase.{Phase}
use Rattle.congee.specs.declared.protocol.phase.Phase.TheVariants.{New, Version, Read, Check, CheckUncopied, CheckMiss, CheckDown, CheckOld, MakeLeaf, MakeGreater, MakeTop, MakeBeside, MakeLesser, AskOld, AskNew, Confirm, CheckAbove, UpgradeHere, ChangeHere, UpgradeTop, UpgradeAbove, UpgradeBelow, ChangeAbove, Obsolete, Retire, UnlockBelow, Unlock, Unwind, Scan, Ended}
use Rattle.congee.specs.declared.protocol.next_phase.NextPhase.{NextPhase}
use Rattle.congee.specs.Heap.{Node, Nothing, Holds, child_for, is_taken, is_free}
use Rattle.congee.specs.protocol.Events.{upgrade_gives}
use Rattle.congee.specs.protocol.Steps.{quiet, after_scan, again, refused, node_of, given_up, adds, absent_reply, UpgradedHere, UpgradedTop, UpgradedAbove, UpgradedBelow, PhaseStepped, Stepped}
use Rattle.congee.specs.Keys.{key_bytes}
use Rattle.congee.specs.Notes.{Note, is_published, Tree, LockWords}
use Rattle.congee.specs.declared.protocol.machine.Machine.{Machine}
use Rattle.congee.specs.declared.protocol.machine.Move.{Move}
use Rattle.congee.specs.protocol.Answers.{KeepsProtocol}
use Rattle.congee.specs.protocol.Protocol.{HasGift, Holding, AlsoHolding, TopLocked, Known, IsFailure}
use Rattle.congee.proofs.lemmas.Graft.{on_test}
use Rattle.congee.proofs.lemmas.protocol.Touch.{by_test}
use Rattle.congee.proofs.lemmas.protocol.Sound.{Sound, same_effect, settle_absent, quiet_sound, begins_anew, answers_now, version_sound, read_sound, stands_at, miss_value}
use Rattle.congee.proofs.lemmas.protocol.Plans.{next_phase_at}
use Rattle.congee.proofs.lemmas.protocol.Values.{at_old_sound, checked_sound, given_sound, given_new_sound}
use Rattle.congee.proofs.lemmas.protocol.Locks.{Kept, locked_taken, above_longer, lock_one, lock_top, lock_above, lock_both, marked, handed_over, unlocked_below, unlocked_last, unwinds}
use Rattle.congee.proofs.lemmas.protocol.Makes.{Backed, back_one, back_two}
use Rattle.congee.proofs.lemmas.protocol.Building.{kept_at, refused_back, leaf_made, greater_made, top_made, beside_made, lesser_made}
use Rattle.congee.proofs.lemmas.protocol.ScanStays.{scan_stays}
use Rattle.congee.proofs.lemmas.protocol.Settling.{changed_one, changed_two}
use Rattle.congee.proofs.lemmas.Tree.{by_length}

module _ {C V : Type 0} (number : C → ℕ) (same : V → V → Bool) (always : Bool) (i : ℕ) (a : ℕ → Note) (h : ℕ → Node V) (k : ℕ) (kind : Kind V) (given : Option V)
    (t : Tree a h) (w : LockWords a h) where
  -- a step that leaves the nodes, and the call's value
  quiet_kept : (given' : Option V) (next_phase : NextPhase C V) (h' : ℕ → Node V) → h' ≡ h → Sound number same always i k kind given h given' next_phase a h → Kept number same always i a h k kind given given' next_phase h'
  quiet_kept given' next_phase h' e s =
      let P : (ℕ → Node V) → Type 0 = λ g. Kept number same always i a h k kind given given' next_phase g in
      subst P (sym e) (record { notes = a; effect = same_effect i a h t w; sound = s })

  given_at : (given' : Option V) (next_phase : NextPhase C V) (h' : ℕ → Node V) → given' ≡ given → Kept number same always i a h k kind given given next_phase h' → Kept number same always i a h k kind given given' next_phase h'
  given_at given' next_phase h' e m = let P : Option V → Type 0 = λ o. Kept number same always i a h k kind given o next_phase h' in subst P (sym e) m

  sound_kept : (given' : Option V) (next_phase : NextPhase C V) (h' : ℕ → Node V) → h' ≡ h → given' ≡ given → Sound number same always i k kind given h given next_phase a h → Kept number same always i a h k kind given given' next_phase h'
  sound_kept given' next_phase h' e f s = given_at given' next_phase h' f (quiet_kept given next_phase h' e s)

  at_next_phase : (x y : NextPhase C V) → y ≡ x → Sound number same always i k kind given h given x a h → Sound number same always i k kind given h given y a h
  at_next_phase x y e s = next_phase_at number same always i a h k t w kind given given x y e s

  if_sound : (taken : Bool) (root : C) → number root ≡ 0 → (T : Type 0) (next_phase : NextPhase C V) → (taken ≡ true → T) × (taken ≡ false → next_phase ≡ again root) → HasGift kind given
      → (taken ≡ true → T → Sound number same always i k kind given h given next_phase a h) → Sound number same always i k kind given h given next_phase a h
  if_sound taken root z T next_phase x g f = on_test taken (λ q. f q (x.0 q)) (λ q. at_next_phase _ next_phase (x.1 q) (begins_anew number same always i a h k kind given t w root z g))

  again_back : (root : C) → number root ≡ 0 → (h' : ℕ → Node V) → HasGift kind given → Backed i a h h' → Kept number same always i a h k kind given given (again root) h'
  again_back root z h' g b = record {
    notes = b.notes;
    effect = b.still.effect;
    sound = record {
      known = (g, z, (let P : ℕ → Type 0 = λ x. is_published (b.notes x).status ≡ true in subst P (sym z) (ap is_published b.still.effect.tree.root)));
      answer = b.still.map;
    };
  }

  -- a locked node, over the giving back of made ones
  held_back : (n : ℕ) → Holding i a n → (h' : ℕ → Node V) (b : Backed i a h h') → Holding i b.notes n
  held_back n o h' b = let e : b.notes n ≡ a n = b.keeps n (ap is_published o.linked) in record { owner = rw e o.owner; linked = rw e o.linked }

  also_back : (n : ℕ) (next : Option C) → AlsoHolding number i a n next → (h' : ℕ → Node V) (b : Backed i a h h') → AlsoHolding number i b.notes n next
  also_back n None o h' b = tt
  also_back n (Some c) o h' b = (held_back (number c) o.0 h' b, o.1)

  unwind_back : (p : C) (next : Option C) (e : Option Refusal) (h' : ℕ → Node V) → IsFailure e → HasGift kind given → Holding i a (number p) → AlsoHolding number i a (number p) next → Backed i a h h'
      → Kept number same always i a h k kind given given (quiet (Unwind p next e)) h'
  unwind_back p next e h' f g o also b = record {
    notes = b.notes;
    effect = b.still.effect;
    sound = record { known = (g, held_back (number p) o h' b, also_back (number p) next also h' b, f); answer = b.still.map };
  }

  -- the node above both is locked, where there is one, and is another one than the node above
  also_top : (top : Option (Parent C)) (p : C) → TopLocked number i a h (key_bytes k) top (number p) → AlsoHolding number i a (number p) (node_of top)
  also_top None p o = tt
  also_top (Some g) p o = (o.holding, by_length h _ _ (above_longer number same always i a h k kind given t w g (number p) o))

  -- an attempt is given up with that one locked, or none
  gives_up : (root : C) → number root ≡ 0 → (top : Option (Parent C)) (n : ℕ) (e : Option Refusal) (h' : ℕ → Node V) → IsFailure e → HasGift kind given → TopLocked number i a h (key_bytes k) top n → Backed i a h h'
      → Kept number same always i a h k kind given given (given_up root top e) h'
  gives_up root z None n None h' f g o b = again_back root z h' g b
  gives_up root z None n (Some e) h' f g o b = refused_back number same always i a h k kind given h' e b
  gives_up root z (Some top) n e h' f g o b = unwind_back top.stamp.node None e h' f g o.holding tt b

  upgraded_one : (root : C) → number root ≡ 0 → (most : ℕ) (fail : Bool) (one : NodeChange C) (r : Reply V) (next_phase : NextPhase C V) (h' : ℕ → Node V) (u : Upgrade) → Known number same always i a h k (key_bytes k) kind given (UpgradeHere one r)
      → u ≡ upgrade_gives most (h (number one.at.node)) one.at.version fail → UpgradedHere number root one r h u h' next_phase → Kept number same always i a h k kind given given next_phase h'
  upgraded_one root z most fail one r next_phase h' Locked m e g = kept_at number same always i a h k kind given given _ next_phase h' g.1
      (lock_one number same always i a h k kind given t w one r h' m (locked_taken most (h (number one.at.node)) one.at.version fail e) g.0)
  upgraded_one root z most fail one r next_phase h' Failed m e g = kept_at number same always i a h k kind given given _ next_phase h' g.1
      (again_back root z h' m.0 (back_one number i a h (key_bytes k) one.change h' t w m.1.1.made g.0))
  upgraded_one root z most fail one r next_phase h' Exhausted m e g = kept_at number same always i a h k kind given given _ next_phase h' g.1
      (refused_back number same always i a h k kind given h' refusal.Exhausted (back_one number i a h (key_bytes k) one.change h' t w m.1.1.made g.0))

  upgraded_above : (root : C) → number root ≡ 0 → (most : ℕ) (fail : Bool) (two : ParentChange C) (r : Reply V) (next_phase : NextPhase C V) (h' : ℕ → Node V) (u : Upgrade) → Known number same always i a h k (key_bytes k) kind given (UpgradeAbove two r)
      → u ≡ upgrade_gives most (h (number two.above.stamp.node)) two.above.stamp.version fail → UpgradedAbove number root two r h u h' next_phase → Kept number same always i a h k kind given given next_phase h'
  upgraded_above root z most fail two r next_phase h' Locked m e g = kept_at number same always i a h k kind given given _ next_phase h' g.1
      (lock_above number same always i a h k kind given t w two r h' m (locked_taken most (h (number two.above.stamp.node)) two.above.stamp.version fail e) g.0)
  upgraded_above root z most fail two r next_phase h' Failed m e g = kept_at number same always i a h k kind given given _ next_phase h' g.1
      (gives_up root z two.top (number two.above.stamp.node) None h' tt m.0 m.1.2.top (back_two number i a h (key_bytes k) two.above two.change _ _ h' t w m.1.2.made g.0))
  upgraded_above root z most fail two r next_phase h' Exhausted m e g = kept_at number same always i a h k kind given given _ next_phase h' g.1
      (gives_up root z two.top (number two.above.stamp.node) (Some refusal.Exhausted) h' refl m.0 m.1.2.top (back_two number i a h (key_bytes k) two.above two.change _ _ h' t w m.1.2.made g.0))

  upgraded_top : (root : C) → number root ≡ 0 → (most : ℕ) (fail : Bool) (top : Parent C) (two : ParentChange C) (r : Reply V) (next_phase : NextPhase C V) (h' : ℕ → Node V) (u : Upgrade) → Known number same always i a h k (key_bytes k) kind given (UpgradeTop top two r)
      → u ≡ upgrade_gives most (h (number top.stamp.node)) top.stamp.version fail → UpgradedTop number root top two r h u h' next_phase → Kept number same always i a h k kind given given next_phase h'
  upgraded_top root z most fail top two r next_phase h' Locked m e g = kept_at number same always i a h k kind given given _ next_phase h' g.1
      (lock_top number same always i a h k kind given t w top two r h' m (locked_taken most (h (number top.stamp.node)) top.stamp.version fail e) g.0)
  upgraded_top root z most fail top two r next_phase h' Failed m e g = kept_at number same always i a h k kind given given _ next_phase h' g.1
      (again_back root z h' m.0 (back_two number i a h (key_bytes k) two.above two.change _ _ h' t w m.1.2.made g.0))
  upgraded_top root z most fail top two r next_phase h' Exhausted m e g = kept_at number same always i a h k kind given given _ next_phase h' g.1
      (refused_back number same always i a h k kind given h' refusal.Exhausted (back_two number i a h (key_bytes k) two.above two.change _ _ h' t w m.1.2.made g.0))

  upgraded_both : (most : ℕ) (fail : Bool) (two : ParentChange C) (r : Reply V) (next_phase : NextPhase C V) (h' : ℕ → Node V) (u : Upgrade) → Known number same always i a h k (key_bytes k) kind given (UpgradeBelow two r)
      → u ≡ upgrade_gives most (h (number two.at.node)) two.at.version fail → UpgradedBelow number two r h u h' next_phase → Kept number same always i a h k kind given given next_phase h'
  upgraded_both most fail two r next_phase h' Locked m e g = kept_at number same always i a h k kind given given _ next_phase h' g.1
      (lock_both number same always i a h k kind given t w two r h' m (locked_taken most (h (number two.at.node)) two.at.version fail e) g.0)
  upgraded_both most fail two r next_phase h' Failed m e g = kept_at number same always i a h k kind given given _ next_phase h' g.1
      (unwind_back two.above.stamp.node (node_of two.top) None h' tt m.0 m.1.2.above.holding (also_top two.top two.above.stamp.node m.1.2.top) (back_two number i a h (key_bytes k) two.above two.change _ _ h' t w m.1.2.made g.0))
  upgraded_both most fail two r next_phase h' Exhausted m e g = kept_at number same always i a h k kind given given _ next_phase h' g.1
      (unwind_back two.above.stamp.node (node_of two.top) (Some refusal.Exhausted) h' refl m.0 m.1.2.above.holding (also_top two.top two.above.stamp.node m.1.2.top) (back_two number i a h (key_bytes k) two.above two.change _ _ h' t w m.1.2.made g.0))

-- every step
step_kept : {C V : Type 0} (number : C → ℕ) (same : V → V → Bool) (always : Bool) (most : ℕ) (why : NodeType → Refusal → Type 0) → ((p q : V) → same p q ≡ true → p ≡ q)
    → (i : ℕ) (a : ℕ → Note) (h : ℕ → Node V) (root : C) → number root ≡ 0 → (k : ℕ) (kind : Kind V) (fail : Bool) (answer : Option (Option V)) (given : Option V) (s : Phase C V) (given' : Option V) (next_phase : NextPhase C V) (h' : ℕ → Node V)
    → Tree a h → LockWords a h → Known number same always i a h k (key_bytes k) kind given s → PhaseStepped number same always most why root (key_bytes k) kind fail answer given s h given' next_phase h'
    → Kept number same always i a h k kind given given' next_phase h'
step_kept number same always most why law i a h root z k kind fail answer given New given' next_phase h' t w m g = sound_kept number same always i a h k kind given t w given' next_phase h' g.0 g.1
    (at_next_phase number same always i a h k kind given t w _ next_phase g.2 (version_sound number same always i a h k kind given t w root z None root m z (let P : ℕ → Type 0 = λ x. is_published (a x).status ≡ true in subst P (sym z) (ap is_published t.root)) (is_free (h (number root)))))
step_kept number same always most why law i a h root z k kind fail answer given (Version p n) given' next_phase h' t w m g = sound_kept number same always i a h k kind given t w given' next_phase h' g.0 g.1
    (at_next_phase number same always i a h k kind given t w _ next_phase g.2 (version_sound number same always i a h k kind given t w root z p n m.0 m.1 m.2 (is_free (h (number n)))))
step_kept number same always most why law i a h root z k kind fail answer given (Read p at) given' next_phase h' t w m g = sound_kept number same always i a h k kind given t w given' next_phase h' g.0 g.1
    (at_next_phase number same always i a h k kind given t w _ next_phase g.2.2 (read_sound number same always i a h k kind given t w root z p at m.0 m.1 m.2 g.2.0 g.2.1))
step_kept number same always most why law i a h root z k kind fail answer given (Check s c) given' next_phase h' t w m g = sound_kept number same always i a h k kind given t w given' next_phase h' g.0 g.1
    (if_sound number same always i a h k kind given t w _ root z _ next_phase g.2 m.0 (λ q x. checked_sound number same always i a h k t w law kind given s c next_phase x m.0 m.1 q))
step_kept number same always most why law i a h root z k kind fail answer given (CheckUncopied at) given' next_phase h' t w m g = sound_kept number same always i a h k kind given t w given' next_phase h' g.0 g.1
    (if_sound number same always i a h k kind given t w _ root z _ next_phase g.2 m.0 (λ q x. at_next_phase number same always i a h k kind given t w (refused refusal.Count) next_phase x (record { known = tt; answer = λ y _. refl })))
step_kept {C} {V} number same always most why law i a h root z k kind fail answer given (CheckMiss p at common byte) given' next_phase h' t w m g = sound_kept number same always i a h k kind given t w given' next_phase h' g.0 g.1
    (if_sound number same always i a h k kind given t w _ root z _ next_phase g.2 m.0 (λ q x. at_next_phase number same always i a h k kind given t w _ next_phase x
    (by_test (λ (y : NextPhase C V). Sound number same always i k kind given h given y a h) (adds kind) _ _
    (λ e. quiet_sound number same always i a h k kind given t w (MakeTop p at common byte) (m.0, m.1, m.2, m.3, m.4, e))
    (λ e. answers_now number same always i a h k kind given t w (absent_reply kind) None (settle_absent same k kind given e) (miss_value number same always i a h k kind given t w p (number at.node) common m.1 m.3 q)))))
step_kept number same always most why law i a h root z k kind fail answer given (CheckDown p at c) given' next_phase h' t w m g = sound_kept number same always i a h k kind given t w given' next_phase h' g.0 g.1
    (if_sound number same always i a h k kind given t w _ root z _ next_phase g.2 m.0 (λ q x. at_next_phase number same always i a h k kind given t w _ next_phase x (quiet_sound number same always i a h k kind given t w (Version (Some at) c) (m.0, m.2, m.3))))
step_kept number same always most why law i a h root z k kind fail answer given (CheckOld p s v) given' next_phase h' t w m g = sound_kept number same always i a h k kind given t w given' next_phase h' g.0 g.1
    (if_sound number same always i a h k kind given t w _ root z _ next_phase g.2 m.0 (λ q x. at_old_sound number same always i a h k t w law kind given s v next_phase x m.3 m.0 m.2 m.4))
step_kept number same always most why law i a h root z k kind fail answer given (MakeLeaf s) given' next_phase h' t w m g = given_at number same always i a h k kind given t w given' next_phase h' g.0
    (leaf_made number same always i a h k kind given t w s next_phase h' g.1.0 m g.1.1)
step_kept number same always most why law i a h root z k kind fail answer given (MakeGreater s p leaf) given' next_phase h' t w m g = given_at number same always i a h k kind given t w given' next_phase h' g.0
    (greater_made number same always i a h k kind given t w s p leaf next_phase h' g.1.0 m g.1.1)
step_kept number same always most why law i a h root z k kind fail answer given (MakeTop p at common byte) given' next_phase h' t w m g = given_at number same always i a h k kind given t w given' next_phase h' g.0
    (top_made number same always i a h k kind given t w p at common byte next_phase h' g.1.0 m g.1.1)
step_kept number same always most why law i a h root z k kind fail answer given (MakeBeside p at common byte top) given' next_phase h' t w m g = given_at number same always i a h k kind given t w given' next_phase h' g.0
    (beside_made number same always i a h k kind given t w p at common byte top next_phase h' g.1.0 m g.1.1)
step_kept number same always most why law i a h root z k kind fail answer given (MakeLesser s p top r) given' next_phase h' t w m g = given_at number same always i a h k kind given t w given' next_phase h' g.0
    (lesser_made number same always i a h k kind given t w s p top r next_phase h' g.1.0 m g.1.1)
step_kept number same always most why law i a h root z k kind fail answer given (AskOld s v) given' next_phase h' t w m g = quiet_kept number same always i a h k kind given t w given' next_phase h' g.0
    (given_sound number same always i a h k t w law kind given given' answer s v next_phase g.1 m.0 m.2 m.1 m.3)
step_kept number same always most why law i a h root z k kind fail answer given (AskNew plan) given' next_phase h' t w m g = quiet_kept number same always i a h k kind given t w given' next_phase h' g.0
    (given_new_sound number same always i a h k t w law kind given given' answer plan next_phase g.1 m.0 m.1)
step_kept {C} {V} number same always most why law i a h root z k kind fail answer given (Confirm at r) given' next_phase h' t w m g =
    let Q : Node V → Type 0 = λ y. child_for y (key_bytes k) ≡ Holds m.1.0 in
    sound_kept number same always i a h k kind given t w given' next_phase h' g.0 g.1
    (if_sound number same always i a h k kind given t w _ root z _ next_phase g.2 m.0 (λ q x. at_next_phase number same always i a h k kind given t w _ next_phase x
    (answers_now number same always i a h k kind given t w r (Some m.1.0) m.1.2
    (stands_at number same always i a h k kind given t w (number at.node) at.version (Holds m.1.0) Q m.1.1.fresh (λ y. y) m.1.1.fitted q))))
step_kept number same always most why law i a h root z k kind fail answer given (CheckAbove p one r) given' next_phase h' t w m g = given_at number same always i a h k kind given t w given' next_phase h' g.0
    (on_test (is_taken (h (number p.node)) p.version)
    (λ q. quiet_kept number same always i a h k kind given t w given next_phase h' (g.1.goes_on q).0
    (at_next_phase number same always i a h k kind given t w _ next_phase (g.1.goes_on q).1 (quiet_sound number same always i a h k kind given t w (UpgradeHere one r) (m.0, (Nothing, m.2, m.3, m.4)))))
    (λ q. kept_at number same always i a h k kind given given _ next_phase h' (g.1.goes_back q).1
    (again_back number same always i a h k kind given t w root z h' m.0 (back_one number i a h (key_bytes k) one.change h' t w m.2.made (g.1.goes_back q).0))))
step_kept number same always most why law i a h root z k kind fail answer given (UpgradeHere one r) given' next_phase h' t w m g = given_at number same always i a h k kind given t w given' next_phase h' g.0
    (upgraded_one number same always i a h k kind given t w root z most fail one r next_phase h' g.1.0 m g.1.1 g.1.2)
step_kept number same always most why law i a h root z k kind fail answer given (ChangeHere one r) given' next_phase h' t w m g = kept_at number same always i a h k kind given given' _ next_phase h' g.2
    (changed_one number same always i a h k kind t w one r given given' h' m g.1)
step_kept number same always most why law i a h root z k kind fail answer given (UpgradeTop top two r) given' next_phase h' t w m g = given_at number same always i a h k kind given t w given' next_phase h' g.0
    (upgraded_top number same always i a h k kind given t w root z most fail top two r next_phase h' g.1.0 m g.1.1 g.1.2)
step_kept number same always most why law i a h root z k kind fail answer given (UpgradeAbove two r) given' next_phase h' t w m g = given_at number same always i a h k kind given t w given' next_phase h' g.0
    (upgraded_above number same always i a h k kind given t w root z most fail two r next_phase h' g.1.0 m g.1.1 g.1.2)
step_kept number same always most why law i a h root z k kind fail answer given (UpgradeBelow two r) given' next_phase h' t w m g = given_at number same always i a h k kind given t w given' next_phase h' g.0
    (upgraded_both number same always i a h k kind given t w most fail two r next_phase h' g.1.0 m g.1.1 g.1.2)
step_kept number same always most why law i a h root z k kind fail answer given (ChangeAbove two r) given' next_phase h' t w m g = kept_at number same always i a h k kind given given' _ next_phase h' g.2
    (changed_two number same always i a h k kind t w two r given given' h' m g.1)
step_kept number same always most why law i a h root z k kind fail answer given (Obsolete n next p r) given' next_phase h' t w m g = given_at number same always i a h k kind given t w given' next_phase h' g.0
    (kept_at number same always i a h k kind given given _ next_phase h' g.2 (marked number same always i a h k kind given t w n next p r h' m g.1))
step_kept number same always most why law i a h root z k kind fail answer given (Retire n next p r) given' next_phase h' t w m g = given_at number same always i a h k kind given t w given' next_phase h' g.0
    (kept_at number same always i a h k kind given given _ next_phase h' g.2 (handed_over number same always i a h k kind given t w n next p r h' m g.1))
step_kept number same always most why law i a h root z k kind fail answer given (UnlockBelow n p r) given' next_phase h' t w m g = given_at number same always i a h k kind given t w given' next_phase h' g.0
    (kept_at number same always i a h k kind given given _ next_phase h' g.2 (unlocked_below number same always i a h k kind given t w n p r h' m g.1))
step_kept number same always most why law i a h root z k kind fail answer given (Unlock n r) given' next_phase h' t w m g = given_at number same always i a h k kind given t w given' next_phase h' g.0
    (kept_at number same always i a h k kind given given _ next_phase h' g.2 (unlocked_last number same always i a h k kind given t w n r h' m g.1))
step_kept number same always most why law i a h root z k kind fail answer given (Unwind n next e) given' next_phase h' t w m g = given_at number same always i a h k kind given t w given' next_phase h' g.0
    (kept_at number same always i a h k kind given given _ next_phase h' g.2 (unwinds number same always i a h k kind given t w root z n next e h' m g.1))
step_kept number same always most why law i a h root z k kind fail answer given (Scan s) given' next_phase h' t w m g = sound_kept number same always i a h k kind given t w given' next_phase h' g.0 g.1
    (at_next_phase number same always i a h k kind given t w (after_scan g.2.0 g.2.1) next_phase g.2.3 (record { known = scan_stays number always a h t w root z s (g.2.0, g.2.1) m g.2.2; answer = λ y _. refl }))
step_kept number same always most why law i a h root z k kind fail answer given Ended given' next_phase h' t w m g = sound_kept number same always i a h k kind given t w given' next_phase h' g.0 g.1
    (at_next_phase number same always i a h k kind given t w (quiet Ended) next_phase g.2 (record { known = tt; answer = λ y _. refl }))

-- a step by the table keeps the protocol, and answers as the map
pub stepped_keeps : {C V : Type 0} (number : C → ℕ) (same : V → V → Bool) (always : Bool) (most : ℕ) (why : NodeType → Refusal → Type 0) → ((p q : V) → same p q ≡ true → p ≡ q)
    → (m : Machine C V) (h : ℕ → Node V) (fail : Bool) (answer : Option (Option V)) (m' : Machine C V) (h' : ℕ → Node V) (d : Move V)
    → Stepped number same always most why m h fail answer m' h' d → KeepsProtocol number same always m h m' h' d
stepped_keeps {C} {V} number same always most why law m h fail answer m' h' d s i a z t w known =
    let r : Kept number same always i a h m.key m.kind m.given m'.given (record { phase = m'.phase; report = d }) h'
    = step_kept number same always most why law i a h m.root z m.key m.kind fail answer m.given m.phase m'.given (record { phase = m'.phase; report = d }) h' t w known s.step in
    let P : ℕ → Kind V → Type 0 = λ x y. Known number same always i r.notes h' x (key_bytes x) y m'.given m'.phase in
    let Q : ℕ → Type 0 = λ x. P x m.kind in
    let R : Kind V → Type 0 = λ y. P m'.key y in
    record {
      notes = r.notes;
      effect = r.effect;
      known = subst R (sym s.kind) (subst Q (sym s.key) r.sound.known);
      answer = r.sound.answer;
    }
