-- The steps of a call that lock, mark, hand over and unlock.
use Rattle.std.proofs.Common.{◌≡◌, ◌≢◌, ℕ, suc, ◌==◌, ◌&&◌, ◌<◌, not, Bool, true, false, cond, List, length, get_or, refl, sym, ap, subst, arith}
use Rattle.std.specs.Prelude.{Option, None, Some}
use Rattle.judge.specs.declared.journal.Reply.{Reply}
use Rattle.congee.specs.declared.protocol.store.Refusal.{Refusal}
use Rattle.congee.specs.declared.protocol.store.Upgrade.TheVariants.{Locked, Failed, Exhausted}
use Rattle.congee.specs.declared.protocol.phase.Kind.{Kind}
use Rattle.congee.specs.declared.protocol.phase.Parent.{Parent}
use Rattle.congee.specs.declared.protocol.phase.Placement.{Placement}
use Rattle.congee.specs.declared.protocol.phase.NodeChange.{NodeChange}
use Rattle.congee.specs.declared.protocol.phase.Replacement.{Replacement}
use Rattle.congee.specs.declared.protocol.phase.Replacement.TheVariants.{Unlink, Grow, GrowLink, Split, Shrink, Collapse, ShrinkAbove}
use Rattle.congee.specs.declared.protocol.phase.ParentChange.{ParentChange}
use Rattle.congee.specs.declared.protocol.phase.Phase.{Phase}
use Rattle.congee.specs.declared.protocol.phase.Phase.TheVariants.{UpgradeHere, ChangeHere, UpgradeTop, UpgradeAbove, UpgradeBelow, ChangeAbove, Obsolete, Retire, UnlockBelow, Unlock, Unwind}
use Rattle.congee.specs.declared.protocol.next_phase.NextPhase.{NextPhase}
use Rattle.congee.specs.Heap.{Node, Below, child_for, is_taken}
use Rattle.congee.specs.protocol.Events.{places, SameBut, upgrade_gives, ObsoleteGives, RetireGives, UnlockGives}
use Rattle.congee.specs.protocol.Steps.{quiet, finished, after_retire, after_unwind}
use Rattle.congee.specs.Keys.{key_bytes}
use Rattle.congee.specs.Notes.{Note, Linked, Gone, is_published, IsChild, Tree, LockWords}
use Rattle.congee.specs.protocol.Protocol.{Rely, Holding, Fresh, ChildOf, Made, PlacedHere, WantedHere, MadeHere, PlacedAbove, WantedAbove, MadeAbove, AboveKnown, AboveLocked, TopLocked, AlsoOut, HalfLocked, Known, Effect}
use Rattle.congee.proofs.lemmas.Fits.{both_true}
use Rattle.congee.proofs.lemmas.protocol.Rely.{fresh_kept, child_kept, made_one_kept, made_two_kept}
use Rattle.congee.proofs.lemmas.protocol.Touch.{noted_same, noted_other, with_owner, owned, taken_linked}
use Rattle.congee.proofs.lemmas.protocol.Words.{KeepsMap, lock_still, unlock_still, obsolete_still, retire_still}
use Rattle.congee.proofs.lemmas.protocol.Change.{made_apart}
use Rattle.congee.proofs.lemmas.protocol.Sound.{Sound}
use Rattle.congee.proofs.lemmas.Tree.{by_length}

-- a step of the call, with the notes after it
pub record Kept {C V : Type 0} (number : C → ℕ) (same : V → V → Bool) (always : Bool) (i : ℕ) (a : ℕ → Note) (h : ℕ → Node V) (k : ℕ) (kind : Kind V) (given : Option V)
    (given' : Option V) (t : NextPhase C V) (h' : ℕ → Node V) : Type 0 where
  pub notes : ℕ → Note
  pub effect : Effect i a h notes h'
  pub sound : Sound number same always i k kind given h given' t notes h'

-- what the call knows of nodes that it has neither made nor locked is kept by its own steps as by another's
pub own_rely : {V : Type 0} (i : ℕ) (a : ℕ → Note) (h : ℕ → Node V) (a' : ℕ → Note) (h' : ℕ → Node V) → Effect i a h a' h' → Rely (λ _. Unit {0}) (suc i) a h a' h'
own_rely i a h a' h' e = e.others (suc i) (λ z. omega (arith, z))

-- what is true of a node as long as its word is the one taken stays so over the call's own step
own_fresh : {V : Type 0} (i : ℕ) (a : ℕ → Note) (h : ℕ → Node V) (a' : ℕ → Note) (h' : ℕ → Node V) → Effect i a h a' h' → (n v : ℕ) (Q : Node V → Type 0) → Fresh a h n v Q → Fresh a' h' n v Q
own_fresh i a h a' h' e n v Q f = fresh_kept (λ _. Unit {0}) (suc i) a h a' h' (own_rely i a h a' h' e) n v Q tt f

-- a node that is or was in reach keeps its prefix over a call's own step
own_prefix : {V : Type 0} (i : ℕ) (a : ℕ → Note) (h : ℕ → Node V) (a' : ℕ → Note) (h' : ℕ → Node V) → Effect i a h a' h' → (n : ℕ) → is_published (a n).status ≡ true → (h' n).prefix ≡ (h n).prefix
own_prefix i a h a' h' e n p = (own_rely i a h a' h' e).prefix n tt p

-- a made node that the step leaves alone
pub made_same : {V : Type 0} (i : ℕ) (a : ℕ → Note) (h : ℕ → Node V) (a' : ℕ → Note) (h' : ℕ → Node V) (key : List ℕ) (c size least : ℕ) → h' c ≡ h c → a' c ≡ a c → Made i a h key c size least → Made i a' h' key c size least
made_same i a h a' h' key c size least e f x = record {
  held = rw f x.held;
  unowned = rw f x.unowned;
  fitted = rw e x.fitted;
  long = rw e x.long;
  blank = λ b. rw e (x.blank b);
  empty = rw e x.empty;
  room = rw e x.room;
  made = rw e x.made;
  kept = rw e x.kept;
  unretired = rw e x.unretired;
  unlocked = rw e x.unlocked;
  live = rw e x.live;
  keyed = rw e x.keyed;
}

-- a step on one published node leaves the made ones
pub record OnOne {V : Type 0} (a : ℕ → Note) (h : ℕ → Node V) (a' : ℕ → Note) (h' : ℕ → Node V) (n : ℕ) : Type 0 where
  pub published : is_published (a n).status ≡ true
  pub nodes : (m : ℕ) → m ≢ n → h' m ≡ h m
  pub notes : (m : ℕ) → m ≢ n → a' m ≡ a m

module _ {C V : Type 0} (number : C → ℕ) (i : ℕ) (a : ℕ → Note) (h : ℕ → Node V) (a' : ℕ → Note) (h' : ℕ → Node V) (key : List ℕ) (n : ℕ) (o : OnOne a h a' h' n) where
  made_on : (c size least : ℕ) → Made i a h key c size least → Made i a' h' key c size least
  made_on c size least m = let ne : c ≢ n = made_apart i a h key c size least n m o.published in made_same i a h a' h' key c size least (o.nodes c ne) (o.notes c ne) m

  made_one_on : (change : Placement C) → MadeHere number i a h key change → MadeHere number i a' h' key change
  made_one_on = made_one_kept number i a h a' h' key made_on

  made_two_on : (p : Parent C) (change : Replacement C) (size size' q : ℕ) → size' ≡ size → MadeAbove number i a h key p change size q → MadeAbove number i a' h' key p change size' q
  made_two_on = made_two_kept number i a h a' h' key made_on

  -- a locked node, but for this one, and what it holds
  above_on : (p : Parent C) (m : ℕ) → number p.stamp.node ≢ n → AboveLocked number i a h key p m → AboveLocked number i a' h' key p m
  above_on p m ne x =
      let e : h' (number p.stamp.node) ≡ h (number p.stamp.node) = o.nodes (number p.stamp.node) ne in
      let f : a' (number p.stamp.node) ≡ a (number p.stamp.node) = o.notes (number p.stamp.node) ne in
      record {
        holding = record { owner = rw f x.holding.owner; linked = rw f x.holding.linked };
        fitted = rw e x.fitted;
        byte = rw e x.byte;
        child = rw e x.child;
        depth = rw e x.depth;
        count = rw e x.count;
        form = rw e x.form;
      }

  top_on : (top : Option (Parent C)) (m : ℕ) → ((p : Parent C) → AboveLocked number i a h key p m → number p.stamp.node ≢ n) → TopLocked number i a h key top m → TopLocked number i a' h' key top m
  top_on None m ne x = tt
  top_on (Some p) m ne x = above_on p m (ne p x) x

-- an upgrade that locked found the word that was taken
pub locked_taken : {V : Type 0} (most : ℕ) (n : Node V) (v : ℕ) (fail : Bool) → Locked ≡ upgrade_gives most n v fail → is_taken n v ≡ true
locked_taken most n v fail e = by_limit (v == most) e where
  by_word : (b : Bool) → Locked ≡ cond b Locked Failed → b ≡ true
  by_word true e = refl
  by_word false e = absurd cc

  by_limit : (b : Bool) → Locked ≡ cond b Exhausted (cond (is_taken n v && not fail) Locked Failed) → is_taken n v ≡ true
  by_limit true e = absurd cc
  by_limit false e = (both_true (is_taken n v) (not fail) (by_word (is_taken n v && not fail) e)).0

module _ {C V : Type 0} (number : C → ℕ) (same : V → V → Bool) (always : Bool) (i : ℕ) (a : ℕ → Note) (h : ℕ → Node V) (k : ℕ) (kind : Kind V) (given : Option V)
    (t : Tree a h) (w : LockWords a h) where
  -- a still step after which the call knows what its next phase says
  still_kept : (a' : ℕ → Note) (h' : ℕ → Node V) (s : Phase C V) → KeepsMap i a h a' h' → Known number same always i a' h' k (key_bytes k) kind given s → Kept number same always i a h k kind given given (quiet s) h'
  still_kept a' h' s e m = record { notes = a'; effect = e.effect; sound = record { known = m; answer = e.map } }

  -- once its one node is locked, a call knows what its change of it wants
  pub lock_one : (one : NodeChange C) (r : Reply V) (h' : ℕ → Node V) → Known number same always i a h k (key_bytes k) kind given (UpgradeHere one r) → is_taken (h (number one.at.node)) one.at.version ≡ true
      → SameBut h (number one.at.node) (record (h (number one.at.node)) { locked = true }) h' → Kept number same always i a h k kind given given (quiet (ChangeHere one r)) h'
  lock_one one r h' m q g =
      let n : ℕ = number one.at.node in
      let f : Fresh a h (number one.at.node) one.at.version (WantedHere (key_bytes k) m.1.0) = m.1.1.fresh in
      let a' : ℕ → Note = with_owner a (number one.at.node) (Some i) in
      let same_note : with_owner a (number one.at.node) (Some i) (number one.at.node) ≡ owned (a (number one.at.node)) (Some i) = noted_same a (number one.at.node) _ in
      let l : (a (number one.at.node)).status ≡ Linked = taken_linked a h w (number one.at.node) one.at.version f.stamped.published q in
      let e : KeepsMap i a h (with_owner a (number one.at.node) (Some i)) h' = lock_still i a h (number one.at.node) one.at.version h' t w f.stamped q g in
      let on : OnOne a h (with_owner a (number one.at.node) (Some i)) h' (number one.at.node) = record { published = f.stamped.published; nodes = g.others; notes = noted_other a (number one.at.node) _ } in
      let pre : (h' (number one.at.node)).prefix ≡ (h (number one.at.node)).prefix = rw g.after refl in
      let wanted : WantedHere (key_bytes k) m.1.0 (h (number one.at.node)) = f.holds q in
      still_kept (with_owner a (number one.at.node) (Some i)) h' (ChangeHere one r) e (
        m.1.0,
        record {
          holding = record { owner = rw same_note refl; linked = rw same_note l };
          placed = (let P : List ℕ → Type 0 = λ y. PlacedHere (key_bytes k) one.change one.byte y in subst P (sym pre) m.1.1.placed);
          wanted = record { child = rw g.after wanted.child; room = λ z. rw g.after (wanted.room z) };
          made = made_one_on number i a h (with_owner a (number one.at.node) (Some i)) h' (key_bytes k) (number one.at.node) on one.change m.1.1.made;
        },
        m.1.2,
        m.1.3,
      )

  -- a locked node is another one than what it holds, and than what that holds
  pub above_longer : (p : Parent C) (m : ℕ) → AboveLocked number i a h (key_bytes k) p m → length (h (number p.stamp.node)).prefix < length (h m).prefix
  above_longer p m x = (t.down (number p.stamp.node) _ m x.holding.linked x.child).longer

  -- once the node above both is locked, a call knows what the lock of the upper one wants
  pub lock_top : (top : Parent C) (two : ParentChange C) (r : Reply V) (h' : ℕ → Node V) → Known number same always i a h k (key_bytes k) kind given (UpgradeTop top two r) → is_taken (h (number top.stamp.node)) top.stamp.version ≡ true
      → SameBut h (number top.stamp.node) (record (h (number top.stamp.node)) { locked = true }) h' → Kept number same always i a h k kind given given (quiet (UpgradeAbove (record two { top = Some top }) r)) h'
  lock_top top two r h' m q g =
      let x : AboveKnown number i a h (key_bytes k) two m.1.0 m.1.1 = m.1.2 in
      let c : ChildOf number a h (key_bytes k) top (number two.above.stamp.node) = m.2 in
      let same_note : with_owner a (number top.stamp.node) (Some i) (number top.stamp.node) ≡ owned (a (number top.stamp.node)) (Some i) = noted_same a (number top.stamp.node) _ in
      let l : (a (number top.stamp.node)).status ≡ Linked = taken_linked a h w (number top.stamp.node) top.stamp.version c.fresh.stamped.published q in
      let e : KeepsMap i a h (with_owner a (number top.stamp.node) (Some i)) h' = lock_still i a h (number top.stamp.node) top.stamp.version h' t w c.fresh.stamped q g in
      let on : OnOne a h (with_owner a (number top.stamp.node) (Some i)) h' (number top.stamp.node) = record { published = c.fresh.stamped.published; nodes = g.others; notes = noted_other a (number top.stamp.node) _ } in
      let pre : (h' (number two.at.node)).prefix ≡ (h (number two.at.node)).prefix = own_prefix i a h _ h' e.effect (number two.at.node) x.fresh.stamped.published in
      let hung : (child_for (h (number top.stamp.node)) (key_bytes k) ≡ Below (number two.above.stamp.node)) × ((h (number top.stamp.node)).count ≡ top.count) × ((h (number top.stamp.node)).capacity ≡ places top.form) = c.fresh.holds q in
      still_kept (with_owner a (number top.stamp.node) (Some i)) h' (UpgradeAbove (record two { top = Some top }) r) e (
        m.0,
        (
          m.1.0,
          m.1.1,
          record {
            top = record {
              holding = record { owner = rw same_note refl; linked = rw same_note l };
              fitted = rw g.after c.fitted;
              byte = rw g.after c.byte;
              child = rw g.after hung.0;
              depth = rw g.after c.depth;
              count = rw g.after hung.1;
              form = rw g.after hung.2;
            };
            above = child_kept number (key_bytes k) (λ _. Unit {0}) (suc i) a h _ h' (own_rely i a h _ h' e.effect) two.above (number two.at.node) tt x.above;
            placed = (let P : List ℕ → Type 0 = λ y. PlacedAbove (key_bytes k) two.change y in subst P (sym pre) x.placed);
            fresh = own_fresh i a h _ h' e.effect (number two.at.node) two.at.version _ x.fresh;
            made = made_two_on number i a h (with_owner a (number top.stamp.node) (Some i)) h' (key_bytes k) (number top.stamp.node) on two.above two.change _ _ m.1.1 (ap length pre) x.made;
          },
          m.3,
          m.1.3,
          m.1.4,
        ),
      )

  -- once the upper node is locked, a call knows what the lock of the lower one wants
  pub lock_above : (two : ParentChange C) (r : Reply V) (h' : ℕ → Node V) → Known number same always i a h k (key_bytes k) kind given (UpgradeAbove two r) → is_taken (h (number two.above.stamp.node)) two.above.stamp.version ≡ true
      → SameBut h (number two.above.stamp.node) (record (h (number two.above.stamp.node)) { locked = true }) h' → Kept number same always i a h k kind given given (quiet (UpgradeBelow two r)) h'
  lock_above two r h' m q g =
      let x : AboveKnown number i a h (key_bytes k) two m.1.0 m.1.1 = m.1.2 in
      let c : ChildOf number a h (key_bytes k) two.above (number two.at.node) = x.above in
      let same_note : with_owner a (number two.above.stamp.node) (Some i) (number two.above.stamp.node) ≡ owned (a (number two.above.stamp.node)) (Some i) = noted_same a (number two.above.stamp.node) _ in
      let l : (a (number two.above.stamp.node)).status ≡ Linked = taken_linked a h w (number two.above.stamp.node) two.above.stamp.version c.fresh.stamped.published q in
      let e : KeepsMap i a h (with_owner a (number two.above.stamp.node) (Some i)) h' = lock_still i a h (number two.above.stamp.node) two.above.stamp.version h' t w c.fresh.stamped q g in
      let on : OnOne a h (with_owner a (number two.above.stamp.node) (Some i)) h' (number two.above.stamp.node) = record { published = c.fresh.stamped.published; nodes = g.others; notes = noted_other a (number two.above.stamp.node) _ } in
      let pre : (h' (number two.at.node)).prefix ≡ (h (number two.at.node)).prefix = own_prefix i a h _ h' e.effect (number two.at.node) x.fresh.stamped.published in
      let hung : (child_for (h (number two.above.stamp.node)) (key_bytes k) ≡ Below (number two.at.node)) × ((h (number two.above.stamp.node)).count ≡ two.above.count) × ((h (number two.above.stamp.node)).capacity ≡ places two.above.form) = c.fresh.holds q in
      still_kept (with_owner a (number two.above.stamp.node) (Some i)) h' (UpgradeBelow two r) e (
        m.0,
        (
          m.1.0,
          m.1.1,
          record {
            top = top_on number i a h _ h' (key_bytes k) (number two.above.stamp.node) on two.top (number two.above.stamp.node) (λ p y. by_length h _ _ (above_longer p (number two.above.stamp.node) y)) x.top;
            above = record {
              holding = record { owner = rw same_note refl; linked = rw same_note l };
              fitted = rw g.after c.fitted;
              byte = rw g.after c.byte;
              child = rw g.after hung.0;
              depth = rw g.after c.depth;
              count = rw g.after hung.1;
              form = rw g.after hung.2;
            };
            placed = (let P : List ℕ → Type 0 = λ y. PlacedAbove (key_bytes k) two.change y in subst P (sym pre) x.placed);
            fresh = own_fresh i a h _ h' e.effect (number two.at.node) two.at.version _ x.fresh;
            made = made_two_on number i a h (with_owner a (number two.above.stamp.node) (Some i)) h' (key_bytes k) (number two.above.stamp.node) on two.above two.change _ _ m.1.1 (ap length pre) x.made;
          },
          m.1.3,
          m.1.4,
          m.1.5,
        ),
      )

  -- the node above and the node at hand are two
  pub above_apart : (p n : ℕ) → (a p).status ≡ Linked → child_for (h p) (key_bytes k) ≡ Below n → p ≢ n
  above_apart p n l e q =
      let c : IsChild a h p (get_or (key_bytes k) (length (h p).prefix) 0) n = t.down p _ n l e in
      let z : length (h p).prefix ≡ length (h n).prefix = ap (λ y. length (h y).prefix) q in absurd (omega (arith, c.longer))

  -- once both nodes are locked, a call knows what its change of them wants
  pub lock_both : (two : ParentChange C) (r : Reply V) (h' : ℕ → Node V) → Known number same always i a h k (key_bytes k) kind given (UpgradeBelow two r) → is_taken (h (number two.at.node)) two.at.version ≡ true
      → SameBut h (number two.at.node) (record (h (number two.at.node)) { locked = true }) h' → Kept number same always i a h k kind given given (quiet (ChangeAbove two r)) h'
  lock_both two r h' m q g =
      let x : HalfLocked number i a h (key_bytes k) two m.1.0 m.1.1 = m.1.2 in
      let same_note : with_owner a (number two.at.node) (Some i) (number two.at.node) ≡ owned (a (number two.at.node)) (Some i) = noted_same a (number two.at.node) _ in
      let e : KeepsMap i a h (with_owner a (number two.at.node) (Some i)) h' = lock_still i a h (number two.at.node) two.at.version h' t w x.fresh.stamped q g in
      let on : OnOne a h (with_owner a (number two.at.node) (Some i)) h' (number two.at.node) = record { published = x.fresh.stamped.published; nodes = g.others; notes = noted_other a (number two.at.node) _ } in
      let pn : number two.above.stamp.node ≢ number two.at.node = above_apart (number two.above.stamp.node) (number two.at.node) x.above.holding.linked x.above.child in
      let pre : (h' (number two.at.node)).prefix ≡ (h (number two.at.node)).prefix = rw g.after refl in
      let wanted : WantedAbove (key_bytes k) two.change m.1.0 m.1.1 (h (number two.at.node)) = x.fresh.holds q in
      still_kept (with_owner a (number two.at.node) (Some i)) h' (ChangeAbove two r) e (
        m.1.0,
        m.1.1,
        record {
          top = top_on number i a h _ h' (key_bytes k) (number two.at.node) on two.top (number two.above.stamp.node)
              (λ p y. by_length h _ _ (further _ _ _ (above_longer p (number two.above.stamp.node) y) (above_longer two.above (number two.at.node) x.above))) x.top;
          above = above_on number i a h _ h' (key_bytes k) (number two.at.node) on two.above (number two.at.node) pn x.above;
          owner = rw same_note refl;
          placed = (let P : List ℕ → Type 0 = λ y. PlacedAbove (key_bytes k) two.change y in subst P (sym pre) x.placed);
          wanted = wanted_locked two.change m.1.0 m.1.1 wanted;
          made = made_two_on number i a h (with_owner a (number two.at.node) (Some i)) h' (key_bytes k) (number two.at.node) on two.above two.change _ _ m.1.1 (ap length pre) x.made;
        },
        m.1.3,
        m.1.4,
        m.1.5,
      )
    where
      further : (x y z : ℕ) → x < y → y < z → x < z
      further x y z l m = omega (arith, l, m)

      wanted_locked : (change : Replacement C) (found : Option V) (q : ℕ) → WantedAbove (key_bytes k) change found q (h (number two.at.node)) → WantedAbove (key_bytes k) change found q (h' (number two.at.node))
      wanted_locked Unlink None q z = absurd z
      wanted_locked Unlink (Some v) q z = rw g.after z
      wanted_locked Collapse None q z = absurd z
      wanted_locked Collapse (Some v) q z = rw g.after z
      wanted_locked (Shrink c) None q z = absurd z
      wanted_locked (Shrink c) (Some v) q z = rw g.after z
      wanted_locked (ShrinkAbove c) None q z = absurd z
      wanted_locked (ShrinkAbove c) (Some v) q z = rw g.after z
      wanted_locked (Grow c) found q z = rw g.after z
      wanted_locked (GrowLink c leaf byte) found q z = rw g.after z
      wanted_locked (Split top leaf common byte) found q z = tt

  -- another node that was taken out, over a step on one
  out_on : (a' : ℕ → Note) (h' : ℕ → Node V) (n : ℕ) (next : Option C) → ((m : ℕ) → m ≢ n → h' m ≡ h m) → ((m : ℕ) → m ≢ n → a' m ≡ a m) → AlsoOut number i a h n next → AlsoOut number i a' h' n next
  out_on a' h' n None nodes notes x = tt
  out_on a' h' n (Some c) nodes notes x = (rw (notes (number c) x.3) x.0, rw (notes (number c) x.3) x.1, rw (nodes (number c) x.3) x.2, x.3)

  -- once a node that it took out is marked, a call knows what handing it over wants
  pub marked : (n : C) (next : Option C) (p : C) (r : Reply V) (h' : ℕ → Node V) → Known number same always i a h k (key_bytes k) kind given (Obsolete n next p r) → ObsoleteGives h (number n) h'
      → Kept number same always i a h k kind given given (quiet (Retire n next p r)) h'
  marked n next p r h' m g = still_kept a h' (Retire n next p r) (obsolete_still i a h (number p) (number n) h' t w m.0 g)
      (record { above = m.0.above; owner = m.0.owner; gone = m.0.gone; unretired = rw g.after m.0.unretired }, out_on a h' (number n) next g.others (λ x _. refl) m.1, rw g.after refl)

  -- once a node is handed over, a call knows what marking the next one wants, or letting the last lock go
  pub handed_over : (n : C) (next : Option C) (p : C) (r : Reply V) (h' : ℕ → Node V) → Known number same always i a h k (key_bytes k) kind given (Retire n next p r) → RetireGives h (number n) h'
      → Kept number same always i a h k kind given given (after_retire next p r) h'
  handed_over n next p r h' m g =
      let ne : number p ≢ number n = (λ e. let z : (a (number n)).status ≡ Linked = (let P : ℕ → Type 0 = λ y. (a y).status ≡ Linked in subst P e m.0.above.linked) in let y : (a (number n)).status ≡ Gone = m.0.gone in cc) in
      let np : with_owner a (number n) None (number p) ≡ a (number p) = noted_other a (number n) _ (number p) ne in
      let e : KeepsMap i a h (with_owner a (number n) None) h' = retire_still i a h (number p) (number n) h' t w m.0 g in
      let held : Holding i (with_owner a (number n) None) (number p) = record { owner = rw np m.0.above.owner; linked = rw np m.0.above.linked } in
      by_next next e held (out_on _ h' (number n) next g.others (noted_other a (number n) _) m.1)
    where
      by_next : (next : Option C) → KeepsMap i a h (with_owner a (number n) None) h' → Holding i (with_owner a (number n) None) (number p) → AlsoOut number i (with_owner a (number n) None) h' (number n) next
          → Kept number same always i a h k kind given given (after_retire next p r) h'
      by_next None e held o = still_kept (with_owner a (number n) None) h' (Unlock p r) e held
      by_next (Some c) e held o = still_kept (with_owner a (number n) None) h' (Obsolete c None p r) e (record { above = held; owner = o.0; gone = o.1; unretired = o.2 }, tt)

  -- once the lower node is unlocked, a call still holds the upper one
  pub unlocked_below : (n p : C) (r : Reply V) (h' : ℕ → Node V) → Known number same always i a h k (key_bytes k) kind given (UnlockBelow n p r) → UnlockGives h (number n) h' → Kept number same always i a h k kind given given (quiet (Unlock p r)) h'
  unlocked_below n p r h' m g =
      let np : with_owner a (number n) None (number p) ≡ a (number p) = noted_other a (number n) _ (number p) (λ e. m.2 (sym e)) in
      still_kept (with_owner a (number n) None) h' (Unlock p r) (unlock_still i a h (number n) h' t w m.0 g) (record { owner = rw np m.1.owner; linked = rw np m.1.linked })

  -- a call that lets its last lock go has ended, and the map is as it was
  pub unlocked_last : (n : C) (r : Reply V) (h' : ℕ → Node V) → Known number same always i a h k (key_bytes k) kind given (Unlock n r) → UnlockGives h (number n) h' → Kept number same always i a h k kind given given (finished r) h'
  unlocked_last n r h' m g =
      let e : KeepsMap i a h (with_owner a (number n) None) h' = unlock_still i a h (number n) h' t w m g in
      record { notes = with_owner a (number n) None; effect = e.effect; sound = record { known = tt; answer = e.map } }

  -- once a lock of a given-up attempt is let go, the map is as it was, and a call knows what its next step wants
  pub unwinds : (root : C) → number root ≡ 0 → (n : C) (next : Option C) (refusal : Option Refusal) (h' : ℕ → Node V) → Known number same always i a h k (key_bytes k) kind given (Unwind n next refusal) → UnlockGives h (number n) h'
      → Kept number same always i a h k kind given given (after_unwind root next refusal) h'
  unwinds root z n (Some c) refusal h' m g =
      let nc : with_owner a (number n) None (number c) ≡ a (number c) = noted_other a (number n) _ (number c) m.2.1 in
      still_kept (with_owner a (number n) None) h' (Unwind c None refusal) (unlock_still i a h (number n) h' t w m.1 g)
      (m.0, record { owner = rw nc m.2.0.owner; linked = rw nc m.2.0.linked }, tt, m.3)
  unwinds root z n None None h' m g =
      let e : KeepsMap i a h (with_owner a (number n) None) h' = unlock_still i a h (number n) h' t w m.1 g in
      record {
        notes = with_owner a (number n) None;
        effect = e.effect;
        sound = record {
          known = (m.0, z, (let P : ℕ → Type 0 = λ x. is_published (with_owner a (number n) None x).status ≡ true in subst P (sym z) (ap is_published e.effect.tree.root)));
          answer = e.map;
        };
      }
  unwinds root z n None (Some refusal) h' m g =
      let e : KeepsMap i a h (with_owner a (number n) None) h' = unlock_still i a h (number n) h' t w m.1 g in
      record { notes = with_owner a (number n) None; effect = e.effect; sound = record { known = tt; answer = e.map } }
