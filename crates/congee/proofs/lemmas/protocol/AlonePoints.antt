-- A step of a call on one key that is taken alone brings it nearer to its end.
use Rattle.std.proofs.Common.{◌≡◌, ◌≢◌, ℕ, ◌+◌, ◌<◌, ◌≤◌, ◌==◌, ◌&&◌, not, ◌⊎◌, Bool, true, false, cond, List, [], ◌∷◌, length, refl, sym, ◌∙◌, ap, subst, inl, inr, arith}
use Rattle.std.proofs.Math.Dec.{ltb}
use Rattle.std.specs.Prelude.{Option, None, Some, Result, Ok, Err}
use Rattle.judge.specs.declared.journal.Reply.{Reply}
use Rattle.judge.specs.declared.journal.Reply.TheVariants as reply
use Rattle.congee.specs.declared.forms.base_node.NodeType.{NodeType}
use Rattle.congee.specs.declared.forms.child.Child.{Child}
use Rattle.congee.specs.declared.forms.child.Child.TheVariants as child
use Rattle.congee.specs.declared.protocol.store.Reading.{Reading}
use Rattle.congee.specs.declared.protocol.store.Reading.TheVariants.{Differs, Fits, Uncopied}
use Rattle.congee.specs.declared.protocol.store.Refusal.{Refusal}
use Rattle.congee.specs.declared.protocol.store.Refusal.TheVariants as refusal
use Rattle.congee.specs.declared.protocol.store.Stamp.{Stamp}
use Rattle.congee.specs.declared.protocol.store.Upgrade.{Upgrade}
use Rattle.congee.specs.declared.protocol.store.Upgrade.TheVariants.{Locked, Failed, Exhausted}
use Rattle.congee.specs.declared.protocol.phase.Kind.{Kind}
use Rattle.congee.specs.declared.protocol.phase.Kind.TheVariants.{Get, Insert, Remove, ComputePresent, ComputeInsert, Exchange}
use Rattle.congee.specs.declared.protocol.phase.Parent.{Parent}
use Rattle.congee.specs.declared.protocol.phase.Above.{Above as Over}
use Rattle.congee.specs.declared.protocol.phase.Site.{Site}
use Rattle.congee.specs.declared.protocol.phase.Placement.{Placement}
use Rattle.congee.specs.declared.protocol.phase.Placement.TheVariants.{Set, Link}
use Rattle.congee.specs.declared.protocol.phase.NodeChange.{NodeChange}
use Rattle.congee.specs.declared.protocol.phase.Replacement.{Replacement}
use Rattle.congee.specs.declared.protocol.phase.Replacement.TheVariants.{Unlink, Split, Collapse, ShrinkAbove}
use Rattle.congee.specs.declared.protocol.phase.ParentChange.{ParentChange}
use Rattle.congee.specs.declared.protocol.phase.Plan.{Plan}
use Rattle.congee.specs.declared.protocol.phase.Plan.TheVariants.{Here, Above}
use Rattle.congee.specs.declared.protocol.phase.Phase.{Phase}
use Rattle.congee.specs.declared.protocol.phase.Phase.TheVariants.{New, Version, Read, Check, CheckUncopied, CheckMiss, CheckDown, CheckOld, MakeLeaf, MakeGreater, MakeTop, MakeBeside, MakeLesser, AskOld, AskNew, Confirm, CheckAbove, UpgradeHere, ChangeHere, UpgradeTop, UpgradeAbove, UpgradeBelow, ChangeAbove, Obsolete, Retire, UnlockBelow, Unlock, Unwind, Scan, Ended}
use Rattle.congee.specs.declared.protocol.machine.Outcome.{Outcome}
use Rattle.congee.specs.declared.protocol.scan.Stage.TheVariants as stage
use Rattle.congee.specs.declared.protocol.next_phase.NextPhase.{NextPhase}
use Rattle.congee.specs.Heap.{Node, Nothing, is_free, is_taken, version_of}
use Rattle.congee.specs.Keys.{key_bytes}
use Rattle.congee.specs.Notes.{Note, Linked, is_published, IsChild, Tree, LockWords}
use Rattle.congee.specs.protocol.Events.{hung, NewNode, ReadGives, upgrade_gives}
use Rattle.congee.specs.protocol.Holdings.{LockedBy}
use Rattle.congee.specs.protocol.Protocol.{ChildOf, IsFar, IsAbove, IsLesser, Knows, Known}
use Rattle.congee.specs.protocol.Steps.{skipping, shrinks, set_at, both as both_of, last_out, near_of, node_of, given_up, after_top, after_retire, again, answered, refused, CopyFailed, adds, asks_new, absent_reply, greater, stamp_above, after_version, after_read, down, started, ready, plan_here, unless_full, absent, IsAsked, replaced, taken_out, is_same, IsAtOld, IsAdded, IsExchanged, IsPresent, IsChecked, after_miss, IsGiven, IsGivenNew, MadeLeaf, MadeGreater, MadeTop, MadeBeside, MadeLesser, UpgradedHere, UpgradedTop, UpgradedAbove, UpgradedBelow, after_change, PhaseStepped}
use Rattle.congee.specs.protocol.Alone.{IsPoint, stamps_if, stamps_top, stamps_over, stamps_site, stamps_plan, AreTaken, IsUndisturbed, IsAnswer, HasAnswer, steps_down, steps_next, steps_left}
use Rattle.congee.specs.protocol.Trace.{goes_on, is_asked}
use Rattle.congee.proofs.lemmas.Fits.{and_true, same_test}
use Rattle.congee.proofs.lemmas.Graft.{on_test}
use Rattle.congee.proofs.lemmas.protocol.Touch.{by_test, taken_linked}
use Rattle.congee.proofs.lemmas.protocol.ScanWays.{pick_true}

-- a version that is taken of a free node is the one that stands
pub version_free : {V : Type 0} (n : Node V) → is_free n ≡ true → version_of n ≡ Some n.version
version_free n f = pick_true (is_free n) (Some n.version) None f

-- a free node's word is the one taken at its present version
pub taken_now : {V : Type 0} (n : Node V) → is_free n ≡ true → is_taken n n.version ≡ true
taken_now n f = and_true (n.version == n.version) (is_free n) (same_test n.version n.version refl) f

-- the lock of a node that is as it was taken is had, but at the greatest version
gives : {V : Type 0} (most : ℕ) (n : Node V) (v : ℕ) → is_taken n v ≡ true → upgrade_gives most n v false ≢ Failed
gives most n v taken e = by_limit (v == most) (by_word (is_taken n v) taken) e where
  by_word : (b : Bool) → b ≡ true → ◌≡◌ {A = Upgrade} (cond (b && not false) Locked Failed) Failed → ⊥
  by_word true p x = absurd cc
  by_word false p x = absurd cc

  by_limit : (b : Bool) {x : Upgrade} → (x ≡ Failed → ⊥) → ◌≡◌ {A = Upgrade} (cond b Exhausted x) Failed → ⊥
  by_limit true f y = absurd cc
  by_limit false f y = f y

-- a step that ends the call tells so, and one after which it waits for its closure's answer asks for it
abbrev pub Tells : {C V : Type 0} → Phase C V → Outcome V → Type 0
Tells (AskOld s v) o = is_asked o ≡ true
Tells (AskNew plan) o = is_asked o ≡ true
Tells (Scan s) o = s.stage ≡ stage.Over → goes_on o ≡ false
Tells Ended o = goes_on o ≡ false
Tells _ o = Unit {0}

-- so many steps and fewer at each longer prefix
deeper : (more k : ℕ) (p q : List ℕ) → length p < length q → length q ≤ 7 → more < k + 4 → steps_down more q < steps_down k p
deeper more k p q l short m = omega (arith, l, short, m)

module _ {C V : Type 0} (number : C → ℕ) (h : ℕ → Node V) (n : ℕ) where
  -- a next phase that leaves fewer than n steps, and tells an end and a question
  abbrev pub Nearer : NextPhase C V → Type 0
  Nearer t = IsUndisturbed number h t.phase × (steps_left number h t.phase < n) × Tells t.phase t.report.outcome

  -- a next phase by another name is as near to the end
  pub near_to : (x y : NextPhase C V) → y ≡ x → Nearer x → Nearer y
  near_to x y p f = subst Nearer (sym p) f

  ends : 0 < n → (r : Reply V) → Nearer (answered r)
  ends l r = ((tt, tt), l, refl)

  stops : 0 < n → (e : Refusal) → Nearer (refused e)
  stops l e = ((tt, tt), l, refl)

  starts : 8 < n → (plan : Plan C) (r : Reply V) → AreTaken number h (stamps_plan plan) → Nearer (started plan r)
  starts l (Here None one) r t = ((t, tt), omega (arith, l), tt)
  starts l (Here (Some p) one) r t = (((t.1.0, (t.0, tt)), tt), omega (arith, l), tt)
  starts l (Above two) r t = ((t, tt), omega (arith, l), tt)

  readies : 9 < n → (kind : Kind V) (plan : Plan C) → AreTaken number h (stamps_plan plan) → Nearer (ready kind plan)
  readies l kind plan t = by_test (λ (z : NextPhase C V). Nearer z) (asks_new kind) _ _ (λ _. ((t, tt), l, refl)) (λ _. starts (omega (arith, l)) plan (absent_reply kind) t)

  -- the node above, and what is checked of a plan
  near_taken : (above : Option (Over C)) → AreTaken number h (stamps_over above) → AreTaken number h (stamps_top (near_of above))
  near_taken None t = tt
  near_taken (Some u) t = (t.0, tt)

  check_taken : (above : Option (Over C)) → AreTaken number h (stamps_over above) → AreTaken number h (stamps_if (stamp_above above))
  check_taken None t = tt
  check_taken (Some u) t = (t.0, tt)

  unless : 10 < n → (kind : Kind V) (s : Site C) (full : Bool) (above : Option (Over C)) (leaf : Option C) (change : Placement C) → AreTaken number h (stamps_site s) → AreTaken number h (stamps_over above) → Nearer (unless_full kind s full above leaf change)
  unless l kind s true (Some p) leaf change t u = (((u.0, (t.0, tt)), tt), l, tt)
  unless l kind s true None leaf change t u = readies (omega (arith, l)) kind (plan_here s change) (t.0, check_taken s.above t.1)
  unless l kind s false above leaf change t u = readies (omega (arith, l)) kind (plan_here s change) (t.0, check_taken s.above t.1)

  absents : 11 < n → (kind : Kind V) (s : Site C) → AreTaken number h (stamps_site s) → Nearer (absent kind s)
  absents l kind s t = by_test (λ (z : NextPhase C V). Nearer z) (adds kind) _ _
      (λ _. by_test (λ (z : NextPhase C V). Nearer z) (s.depth == 7) _ _ (λ _. unless (omega (arith, l)) kind s s.full s.above None Set t t.1) (λ _. ((t, tt), l, tt)))
      (λ _. ends (omega (arith, l)) (absent_reply kind))

  replaces : 3 < n → (s : Site C) (b : Bool) (r : Reply V) → AreTaken number h (stamps_site s) → Nearer (replaced s b r)
  replaces l s b r t = by_test (λ (z : NextPhase C V). Nearer z) b _ _ (λ _. (((t.0, tt), tt), omega (arith, l), tt)) (λ _. (((t.0, tt), tt), l, tt))

  -- a value's going
  last : 10 < n → (s : Site C) (p : Parent C) (top : Option (Parent C)) (r : Reply V) → AreTaken number h (stamps_site s) → AreTaken number h (p.stamp ∷ stamps_top top) → Nearer (last_out s p top r)
  last l s p None r t u = (((u.0, (t.0, tt)), tt), omega (arith, l), tt)
  last l s p (Some top) r t u = by_test (λ (z : NextPhase C V). Nearer z) (p.count == 2) _ _ (λ _. (((u.1.0, (u.0, (t.0, tt))), tt), omega (arith, l), tt))
      (λ _. by_test (λ (z : NextPhase C V). Nearer z) (ltb 2 p.count && shrinks p.form p.count) _ _ (λ _. (((u.0, (t.0, (u.1.0, tt))), tt), l, tt)) (λ _. (((u.0, (t.0, tt)), tt), omega (arith, l), tt)))

  takes_out : 10 < n → (s : Site C) (above : Option (Over C)) (r : Reply V) → AreTaken number h (stamps_site s) → AreTaken number h (stamps_over above) → Nearer (taken_out s above r)
  takes_out l s None r t u = (((t.0, tt), tt), omega (arith, l), tt)
  takes_out l s (Some y) r t u = by_test (λ (z : NextPhase C V). Nearer z) (s.count == 1) _ _ (λ _. last l s y.near y.far r t u)
      (λ _. by_test (λ (z : NextPhase C V). Nearer z) (shrinks s.form s.count) _ _ (λ _. (((u.0, (t.0, tt)), tt), l, tt)) (λ _. (((t.0, tt), tt), omega (arith, l), tt)))

  tops : 5 < n → (two : ParentChange C) (r : Reply V) (top : Option (Parent C)) → Nearer (after_top two r top)
  tops l two r None = ((tt, tt), omega (arith, l), tt)
  tops l two r (Some top) = ((tt, tt), l, tt)

  changes : 5 < n → (two : ParentChange C) (r : Reply V) (change : Replacement C) → Nearer (after_change two r change)
  changes l two r Collapse = tops l two r two.top
  changes l two r (ShrinkAbove c) = tops l two r two.top
  changes l two r _ = ((tt, tt), omega (arith, l), tt)

  misses : 11 < n → (kind : Kind V) (p : Parent C) (stamp : Stamp C) (common byte : ℕ) → AreTaken number h (p.stamp ∷ stamp ∷ []) → Nearer (after_miss kind p stamp common byte)
  misses l kind p stamp common byte t = by_test (λ (z : NextPhase C V). Nearer z) (adds kind) _ _ (λ _. ((t, tt), l, tt)) (λ _. ends (omega (arith, l)) (absent_reply kind))

  copies : (always : Bool) (x t : NextPhase C V) → 0 < n → (t ≡ x) ⊎ CopyFailed always t → Nearer x → Nearer t
  copies always x t l (inl p) f = near_to x t p f
  copies always x t l (inr p) f = near_to (refused refusal.Count) t p.1 (stops l refusal.Count)

  module _ (always : Bool) (same : V → V → Bool) where
    asks : 11 < n → (s : Site C) (old : V) (t : NextPhase C V) → AreTaken number h (stamps_site s) → IsAsked always s old t → Nearer t
    asks l s old t u x = copies always _ t (omega (arith, l)) x ((u, tt), l, refl)

    at_old : 11 < n → (kind : Kind V) (new : Option V) (s : Site C) (old : V) (t : NextPhase C V) → AreTaken number h (stamps_site s) → IsAtOld always same kind new s old t → Nearer t
    at_old l Insert new s old t u x = near_to _ t x (replaces (omega (arith, l)) s (is_same same old new) (reply.Insert (Some old)) u)
    at_old l _ new s old t u x = asks l s old t u x

    adds_at : 12 < n → (kind : Kind V) (new : Option V) (s : Site C) (above : Option (Over C)) (old : V) (t : NextPhase C V) → AreTaken number h (stamps_site s) → AreTaken number h (stamps_over above) → IsAdded always same kind new s above old t → Nearer t
    adds_at l kind new s None old t u y x = at_old (omega (arith, l)) kind new s old t u x
    adds_at l kind new s (Some p) old t u y x = near_to _ t x (((y.0, u), tt), l, tt)

    exchanges : 10 < n → (new : Option V) (s : Site C) (old : V) (t : NextPhase C V) → AreTaken number h (stamps_site s) → IsExchanged always same new s old t → Nearer t
    exchanges l None s old t u x = near_to _ t x (takes_out l s s.above (reply.Exchange (Ok None)) u u.1)
    exchanges l (Some w) s old t u x = copies always _ t (omega (arith, l)) x (replaces (omega (arith, l)) s (same old w) (reply.Exchange (Ok (Some w))) u)

    presents : 12 < n → (kind : Kind V) (new : Option V) (s : Site C) (old : V) (t : NextPhase C V) → AreTaken number h (stamps_site s) → IsPresent always same kind new s old t → Nearer t
    presents l Get new s old t u x = near_to _ t x (ends (omega (arith, l)) (reply.Get (Some old)))
    presents l Insert new s old t u x = adds_at l Insert new s s.above old t u u.1 x
    presents l Remove new s old t u x = near_to _ t x (takes_out (omega (arith, l)) s s.above (reply.Remove (Some old)) u u.1)
    presents l ComputePresent new s old t u x = asks (omega (arith, l)) s old t u x
    presents l ComputeInsert new s old t u x = adds_at l ComputeInsert new s s.above old t u u.1 x
    presents l (Exchange w) new s old t u x = on_test (same old w) (λ p. exchanges (omega (arith, l)) new s old t u (x.0 p)) (λ p. near_to _ t (x.1 p) (((u.0, tt), tt), omega (arith, l), tt))

    given : 10 < n → (kind : Kind V) (s : Site C) (old : V) (answer : Option (Option V)) (v v' : Option V) (t : NextPhase C V) → AreTaken number h (stamps_site s) → IsAnswer kind answer → IsGiven always same kind s old answer v v' t → Nearer t
    given l kind s old None v v' t u a x = absurd a
    given l ComputeInsert s old (Some None) v v' t u a x = absurd a
    given l ComputeInsert s old (Some (Some y)) v v' t u a x = near_to _ t x.1 (replaces (omega (arith, l)) s (same old y) (reply.ComputeInsert (Some old)) u)
    given l Get s old (Some None) v v' t u a x = near_to _ t x.1 (takes_out l s s.above (reply.ComputePresent (Some (old, None))) u u.1)
    given l Insert s old (Some None) v v' t u a x = near_to _ t x.1 (takes_out l s s.above (reply.ComputePresent (Some (old, None))) u u.1)
    given l Remove s old (Some None) v v' t u a x = near_to _ t x.1 (takes_out l s s.above (reply.ComputePresent (Some (old, None))) u u.1)
    given l ComputePresent s old (Some None) v v' t u a x = near_to _ t x.1 (takes_out l s s.above (reply.ComputePresent (Some (old, None))) u u.1)
    given l (Exchange w) s old (Some None) v v' t u a x = near_to _ t x.1 (takes_out l s s.above (reply.ComputePresent (Some (old, None))) u u.1)
    given l Get s old (Some (Some y)) v v' t u a x = copies always _ t (omega (arith, l)) x.1 (replaces (omega (arith, l)) s (same old y) (reply.ComputePresent (Some (old, Some y))) u)
    given l Insert s old (Some (Some y)) v v' t u a x = copies always _ t (omega (arith, l)) x.1 (replaces (omega (arith, l)) s (same old y) (reply.ComputePresent (Some (old, Some y))) u)
    given l Remove s old (Some (Some y)) v v' t u a x = copies always _ t (omega (arith, l)) x.1 (replaces (omega (arith, l)) s (same old y) (reply.ComputePresent (Some (old, Some y))) u)
    given l ComputePresent s old (Some (Some y)) v v' t u a x = copies always _ t (omega (arith, l)) x.1 (replaces (omega (arith, l)) s (same old y) (reply.ComputePresent (Some (old, Some y))) u)
    given l (Exchange w) s old (Some (Some y)) v v' t u a x = copies always _ t (omega (arith, l)) x.1 (replaces (omega (arith, l)) s (same old y) (reply.ComputePresent (Some (old, Some y))) u)

  given_new : 8 < n → (kind : Kind V) (plan : Plan C) (answer : Option (Option V)) (v v' : Option V) (t : NextPhase C V) → kind ≡ ComputeInsert → AreTaken number h (stamps_plan plan) → IsAnswer kind answer → IsGivenNew plan answer v v' t → Nearer t
  given_new l kind plan None v v' t e u a x = absurd a
  given_new l kind plan (Some None) v v' t e u a x = absurd (let P : Kind V → Type 0 = λ z. IsAnswer z (Some None) in subst P e a)
  given_new l kind plan (Some (Some y)) v v' t e u a x = near_to _ t x.1 (starts l plan (reply.ComputeInsert None) u)

-- a made node is none of those that were taken
still : {V : Type 0} (a : ℕ → Note) (h : ℕ → Node V) (c : ℕ) (form : NodeType) (key : List ℕ) (size : ℕ) (h' : ℕ → Node V) → LockWords a h → NewNode h c form key size h'
    → (n v : ℕ) → is_published (a n).status ≡ true → is_taken (h n) v ≡ true → is_taken (h' n) v ≡ true
still {V} a h c form key size h' w g n v p taken =
    let ne : n ≢ c = (λ e. let x : (h c).made ≡ true = (let P : ℕ → Type 0 = λ y. (h y).made ≡ true in subst P e ((w.each n).stands p).made) in let y : (h c).made ≡ false = g.unmade in absurd (let z : true ≡ false = sym x ∙ y in cc)) in
    let P : Node V → Type 0 = λ y. is_taken y v ≡ true in subst P (sym (g.others n ne)) taken

module _ {C V : Type 0} (number : C → ℕ) (same : V → V → Bool) (always : Bool) (most : ℕ) (why : NodeType → Refusal → Type 0) (i : ℕ) (a : ℕ → Note) (h h' : ℕ → Node V) (tr : Tree a h) (w : LockWords a h)
    (k : ℕ) (root : C) (z : number root ≡ 0) (kind : Kind V) where
  -- the child at the key's byte of a node that is as it was taken
  child_in : (p : Parent C) (n : ℕ) → ChildOf number a h (key_bytes k) p n → is_taken (h (number p.stamp.node)) p.stamp.version ≡ true → IsChild a h (number p.stamp.node) p.byte n
  child_in p n c taken =
      let l = taken_linked a h w (number p.stamp.node) p.stamp.version c.fresh.stamped.published taken in
      let x = tr.down (number p.stamp.node) _ n l (c.fresh.holds taken).0 in
      record { linked = x.linked; parent = x.parent; fitted = x.fitted; longer = x.longer; byte = x.byte ∙ sym c.byte }

  linked_at : (above : Option (Over C)) (n : ℕ) → IsAbove number a h (key_bytes k) above n → AreTaken number h (stamps_over above) → (a n).status ≡ Linked
  linked_at None n e t = let P : ℕ → Type 0 = λ y. (a y).status ≡ Linked in subst P (sym e) tr.root
  linked_at (Some u) n c t = (child_in u.near n c.0 t.0).linked

  abbrev Near : ℕ → NextPhase C V → Type 0
  Near n t = Nearer number h n t

  abbrev Near' : ℕ → NextPhase C V → Type 0
  Near' n t = Nearer number h' n t

  versions : (above : Option (Over C)) (c : C) (n : ℕ) → is_free (h (number c)) ≡ true → AreTaken number h (stamps_over above) → steps_down 14 (h (number c)).prefix < n → Near n (after_version root above c (version_of (h (number c))))
  versions above c n f t l = near_to number h n (after_version root above c (Some (h (number c)).version)) (after_version root above c (version_of (h (number c)))) (ap (after_version root above c) (version_free (h (number c)) f)) (((taken_now (h (number c)) f, t), tt), l, tt)

  reads : (above : Option (Over C)) (at : Stamp C) (r : Reading C V) (t : NextPhase C V) → IsAbove number a h (key_bytes k) above (number at.node) → ReadGives number always (h (number at.node)) at.version (key_bytes k) r
      → AreTaken number h (at ∷ stamps_over above) → t ≡ after_read root above at r → Near (steps_down 14 (h (number at.node)).prefix) t
  reads None at (Differs common byte) t e g u q = absurd (
      let s : common < length (h (number at.node)).prefix = g.0.short in
      let P : ℕ → Type 0 = λ y. length (h y).prefix ≡ 0 in
      let n : length (h (number at.node)).prefix ≡ 0 = subst P (sym e) (ap length tr.empty) in omega (arith, s, n))
  reads (Some p) at (Differs common byte) t e g u q = near_to number h _ _ t q (((u.1.0, (u.0, tt)), tt), omega arith, tt)
  reads None at (Fits depth form s) t e g u q = near_to number h _ _ t q ((u, tt), omega arith, tt)
  reads (Some p) at (Fits depth form s) t e g u q = near_to number h _ _ t q ((u, tt), omega arith, tt)
  reads None at Uncopied t e g u q = near_to number h _ _ t q (((u.0, tt), tt), omega arith, tt)
  reads (Some p) at Uncopied t e g u q = near_to number h _ _ t q (((u.0, tt), tt), omega arith, tt)

  downs : (b : Bool) (s : Site C) (above : Option (Over C)) (c : C) → AreTaken number h (stamps_site s) → AreTaken number h (stamps_over above) → length (h (number s.at.node)).prefix < length (h (number c)).prefix → length (h (number c)).prefix ≤ 7
      → Near (steps_down 13 (h (number s.at.node)).prefix) (down b s above c)
  downs false s above c t u l short = (((t.0, near_taken number h 0 s.above t.1), tt), deeper 15 13 (h (number s.at.node)).prefix (h (number c)).prefix l short (omega arith), tt)
  downs true s None c t u l short = (((t.0, near_taken number h 0 s.above t.1), tt), deeper 15 13 (h (number s.at.node)).prefix (h (number c)).prefix l short (omega arith), tt)
  downs true s (Some y) c t u l short = (((u.0, (t.0, near_taken number h 0 s.above t.1)), tt), deeper 16 13 (h (number s.at.node)).prefix (h (number c)).prefix l short (omega arith), tt)

  checks : (new : Option V) (s : Site C) (c : Child C V) (t : NextPhase C V) → Knows number a h (key_bytes k) s (hung number c) → AreTaken number h (stamps_site s) → IsChecked always same kind new s c t → Near (steps_down 13 (h (number s.at.node)).prefix) t
  checks new s child.Blank t x u y = near_to number h _ _ t y (absents number h _ (omega arith) kind s u)
  checks new s (child.Node c) t x u y =
      let l = taken_linked a h w (number s.at.node) s.at.version x.fresh.stamped.published u.0 in
      let d = tr.down (number s.at.node) _ (number c) l (x.fresh.holds u.0).child in
      near_to number h _ _ t y (downs (adds kind) s s.above c u u.1 d.longer (tr.short (number c) d.linked))
  checks new s (child.Value v) t x u y = presents number h _ always same (omega arith) kind new s v t u y

  if_taken : (taken : Bool) (T : Type 0) (n : ℕ) (t : NextPhase C V) → taken ≡ true → (taken ≡ true → T) × (taken ≡ false → t ≡ again root) → (T → Near n t) → Near n t
  if_taken taken T n t e x f = f (x.0 e)

  -- the nodes that were taken, where one was made
  made_taken : (c : ℕ) (form : NodeType) (key : List ℕ) (size : ℕ) → NewNode h c form key size h' → (s : Stamp C) → is_published (a (number s.node)).status ≡ true → is_taken (h (number s.node)) s.version ≡ true → is_taken (h' (number s.node)) s.version ≡ true
  made_taken c form key size g s p taken = still a h c form key size h' w g (number s.node) s.version p taken

  far_taken : (c : ℕ) (form : NodeType) (key : List ℕ) (size : ℕ) → NewNode h c form key size h' → (top : Option (Parent C)) (n : ℕ) → IsFar number a h (key_bytes k) top n → AreTaken number h (stamps_top top) → AreTaken number h' (stamps_top top)
  far_taken c form key size g None n x t = tt
  far_taken c form key size g (Some p) n x t = (made_taken c form key size g p.stamp x.fresh.stamped.published t.0, tt)

  above_taken : (c : ℕ) (form : NodeType) (key : List ℕ) (size : ℕ) → NewNode h c form key size h' → (above : Option (Over C)) (n : ℕ) → IsAbove number a h (key_bytes k) above n → AreTaken number h (stamps_over above) → AreTaken number h' (stamps_over above)
  above_taken c form key size g None n x t = tt
  above_taken c form key size g (Some u) n x t = (made_taken c form key size g u.near.stamp x.0.fresh.stamped.published t.0, far_taken c form key size g u.far (number u.near.stamp.node) x.1 t.1)

  leaf_made : (s : Site C) (x : Knows number a h (key_bytes k) s Nothing) (r : Result C Refusal) (t : NextPhase C V) → AreTaken number h (stamps_site s) → MadeLeaf number kind s h (key_bytes k) r h' t → Near' 11 t
  leaf_made s x (Ok leaf) t u g =
      let p = above_taken (number leaf) _ (key_bytes k) 7 g.0 s.above (number s.at.node) x.above u.1 in
      near_to number h' 11 _ t g.1 (unless number h' 11 (omega arith) kind s s.full s.above (Some leaf) (Link leaf) (made_taken (number leaf) _ (key_bytes k) 7 g.0 s.at x.fresh.stamped.published u.0, p) p)
  leaf_made s x (Err e) t u g = near_to number h' 11 _ t g.1 (stops number h' 11 (omega arith) e)

  greater_made : (s : Site C) (p : Parent C) (leaf : Option C) (r : Result C Refusal) (t : NextPhase C V) → is_published (a (number p.stamp.node)).status ≡ true → is_published (a (number s.at.node)).status ≡ true
      → AreTaken number h (p.stamp ∷ s.at ∷ []) → MadeGreater number kind s p leaf h (key_bytes k) r h' t → Near' 10 t
  greater_made s p leaf (Ok c) t pp ps u g =
      near_to number h' 10 _ t g.1 (readies number h' 10 (omega arith) kind (Above (both_of p s (greater s leaf c)))
      (made_taken (number c) _ (key_bytes k) s.depth g.0 p.stamp pp u.0, (made_taken (number c) _ (key_bytes k) s.depth g.0 s.at ps u.1.0, tt)))
  greater_made s p leaf (Err e) t pp ps u g = near_to number h' 10 _ t g.1 (stops number h' 10 (omega arith) e)

  top_made : (p : Parent C) (at : Stamp C) (common byte : ℕ) (r : Result C Refusal) (t : NextPhase C V) → is_published (a (number p.stamp.node)).status ≡ true → is_published (a (number at.node)).status ≡ true
      → AreTaken number h (p.stamp ∷ at ∷ []) → MadeTop number p at common byte h (key_bytes k) r h' t → Near' 11 t
  top_made p at common byte (Ok top) t pp ps u g =
      near_to number h' 11 _ t g.1 (((made_taken (number top) _ (key_bytes k) common g.0 p.stamp pp u.0, (made_taken (number top) _ (key_bytes k) common g.0 at ps u.1.0, tt)), tt), omega arith, tt)
  top_made p at common byte (Err e) t pp ps u g = near_to number h' 11 _ t g.1 (stops number h' 11 (omega arith) e)

  beside_made : (p : Parent C) (at : Stamp C) (common byte : ℕ) (top : C) (r : Result C Refusal) (t : NextPhase C V) → is_published (a (number p.stamp.node)).status ≡ true → is_published (a (number at.node)).status ≡ true
      → AreTaken number h (p.stamp ∷ at ∷ []) → MadeBeside number kind p at common byte top h (key_bytes k) r h' t → Near' 10 t
  beside_made p at common byte top (Ok leaf) t pp ps u g =
      near_to number h' 10 _ t g.1 (readies number h' 10 (omega arith) kind (Above (record { top = None; above = p; at = at; change = Split top leaf common byte }))
      (made_taken (number leaf) _ (key_bytes k) 7 g.0 p.stamp pp u.0, (made_taken (number leaf) _ (key_bytes k) 7 g.0 at ps u.1.0, tt)))
  beside_made p at common byte top (Err e) t pp ps u g = near_to number h' 10 _ t g.1 (stops number h' 10 (omega arith) e)

  stays : (n : ℕ) (t : NextPhase C V) → h' ≡ h → Near n t → Near' n t
  stays n t e f = let P : (ℕ → Node V) → Type 0 = λ y. Nearer number y n t in subst P (sym e) f

  lesser_made : (s : Site C) (p : Parent C) (top : Option (Parent C)) (r : Reply V) (x : Result C Refusal) (t : NextPhase C V) → is_published (a (number p.stamp.node)).status ≡ true → is_published (a (number s.at.node)).status ≡ true
      → IsLesser number a h (key_bytes k) s p top → AreTaken number h (p.stamp ∷ s.at ∷ stamps_top top) → MadeLesser number s p top r h (key_bytes k) x h' t → Near' 10 t
  lesser_made s p None r (Ok c) t pp ps y u g =
      near_to number h' 10 _ t g.1 (((made_taken (number c) _ (key_bytes k) s.depth g.0 p.stamp pp u.0, (made_taken (number c) _ (key_bytes k) s.depth g.0 s.at ps u.1.0, tt)), tt), omega arith, tt)
  lesser_made s p None r (Err e) t pp ps y u g = stays 10 t g.0 (near_to number h 10 (skipping (UpgradeHere (set_at s) r)) t g.1 (((u.1.0, tt), tt), omega arith, tt))
  lesser_made s p (Some top) r (Ok c) t pp ps y u g =
      near_to number h' 10 _ t g.1 (
        (
          (
            made_taken (number c) _ (key_bytes k) p.depth g.0 top.stamp y.0.fresh.stamped.published u.1.1.0,
            (made_taken (number c) _ (key_bytes k) p.depth g.0 p.stamp pp u.0, (made_taken (number c) _ (key_bytes k) p.depth g.0 s.at ps u.1.0, tt)),
          ),
          tt,
        ),
        omega arith,
        tt,
      )
  lesser_made s p (Some top) r (Err e) t pp ps y u g = stays 10 t g.0 (near_to number h 10 (skipping (UpgradeAbove (both_of p s Unlink) r)) t g.1 (((u.0, (u.1.0, tt)), tt), omega arith, tt))

  one_upgraded : (one : NodeChange C) (r : Reply V) (u : Upgrade) (t : NextPhase C V) → u ≢ Failed → UpgradedHere number root one r h u h' t → Near' 3 t
  one_upgraded one r Locked t f g = near_to number h' 3 _ t g.1 ((tt, tt), omega arith, tt)
  one_upgraded one r Failed t f g = absurd (f refl)
  one_upgraded one r Exhausted t f g = near_to number h' 3 _ t g.1 (stops number h' 3 (omega arith) refusal.Exhausted)

  top_upgraded : (top : Parent C) (two : ParentChange C) (r : Reply V) (u : Upgrade) (t : NextPhase C V) → u ≢ Failed → number two.above.stamp.node ≢ number top.stamp.node → number two.at.node ≢ number top.stamp.node
      → is_taken (h (number two.above.stamp.node)) two.above.stamp.version ≡ true → is_taken (h (number two.at.node)) two.at.version ≡ true → UpgradedTop number root top two r h u h' t → Near' 9 t
  top_upgraded top two r Locked t f np na taken low g =
      let P : Node V → Type 0 = λ y. is_taken y two.above.stamp.version ≡ true in
      let Q : Node V → Type 0 = λ y. is_taken y two.at.version ≡ true in
      near_to number h' 9 _ t g.1 (((subst P (sym (g.0.others (number two.above.stamp.node) np)) taken, (subst Q (sym (g.0.others (number two.at.node) na)) low, tt)), tt), omega arith, tt)
  top_upgraded top two r Failed t f np na taken low g = absurd (f refl)
  top_upgraded top two r Exhausted t f np na taken low g = near_to number h' 9 _ t g.1 (stops number h' 9 (omega arith) refusal.Exhausted)

  gives_up : (top : Option (Parent C)) → Near' 8 (given_up root top (Some refusal.Exhausted))
  gives_up None = stops number h' 8 (omega arith) refusal.Exhausted
  gives_up (Some top) = ((tt, tt), omega arith, tt)

  above_upgraded : (two : ParentChange C) (r : Reply V) (u : Upgrade) (t : NextPhase C V) → u ≢ Failed → number two.at.node ≢ number two.above.stamp.node → is_taken (h (number two.at.node)) two.at.version ≡ true → UpgradedAbove number root two r h u h' t → Near' 8 t
  above_upgraded two r Locked t f ne taken g =
      let P : Node V → Type 0 = λ y. is_taken y two.at.version ≡ true in
      near_to number h' 8 _ t g.1 (((subst P (sym (g.0.others (number two.at.node) ne)) taken, tt), tt), omega arith, tt)
  above_upgraded two r Failed t f ne taken g = absurd (f refl)
  above_upgraded two r Exhausted t f ne taken g = near_to number h' 8 _ t g.1 (gives_up two.top)

  both_upgraded : (two : ParentChange C) (r : Reply V) (u : Upgrade) (t : NextPhase C V) → u ≢ Failed → UpgradedBelow number two r h u h' t → Near' 7 t
  both_upgraded two r Locked t f g = near_to number h' 7 _ t g.1 ((tt, tt), omega arith, tt)
  both_upgraded two r Failed t f g = absurd (f refl)
  both_upgraded two r Exhausted t f g = near_to number h' 7 _ t g.1 ((tt, tt), unwinds (node_of two.top), tt)
    where
      unwinds : (next : Option C) → 1 + steps_next next 1 < 7
      unwinds None = omega arith
      unwinds (Some c) = omega arith

  -- a step of a call on one key, as long as the nodes of the tree are free where it holds no lock itself
  pub points_on : (new : Option V) (s : Phase C V) (answer : Option (Option V)) (new' : Option V) (t : NextPhase C V) → Known number same always i a h k (key_bytes k) kind new s → IsUndisturbed number h s
      → (((n : ℕ) → LockedBy number s n → ⊥) → (n : ℕ) → (a n).status ≡ Linked → is_free (h n) ≡ true) → HasAnswer kind s answer → IsPoint s
      → PhaseStepped number same always most why root (key_bytes k) kind false answer new s h new' t h' → Near' (steps_left number h s) t
  points_on new New answer new' t x u free ask p g = stays _ t g.0 (near_to number h _ _ t g.2
      (versions None root _ (free (λ n y. y) (number root) (let P : ℕ → Type 0 = λ y. (a y).status ≡ Linked in subst P (sym z) tr.root)) tt (omega arith)))
  points_on new (Version above n) answer new' t x u free ask p g = stays _ t g.0 (near_to number h _ _ t g.2 (versions above n _ (free (λ m y. y) (number n) (linked_at above (number n) x.1 u.0)) u.0 (omega arith)))
  points_on new (Read above stamp) answer new' t x u free ask p g = stays _ t g.0 (reads above stamp g.2.0 t x.1 g.2.1 u.0 g.2.2)
  points_on new (Check s c) answer new' t x u free ask p g = stays _ t g.0 (if_taken _ _ _ t u.0.0 g.2 (λ y. checks new s c t x.1 u.0 y))
  points_on new (CheckUncopied stamp) answer new' t x u free ask p g = stays _ t g.0 (if_taken _ _ _ t u.0.0 g.2 (λ y. near_to number h 1 _ t y (stops number h 1 (omega arith) refusal.Count)))
  points_on new (CheckMiss q stamp common byte) answer new' t x u free ask p g = stays _ t g.0 (if_taken _ _ _ t u.0.0 g.2 (λ y. near_to number h 12 _ t y (misses number h 12 (omega arith) kind q stamp common byte u.0)))
  points_on new (CheckDown q stamp c) answer new' t x u free ask p g = stays _ t g.0 (if_taken _ _ _ t u.0.0 g.2 (λ y. near_to number h _ _ t y ((u.0.1, tt), omega arith, tt)))
  points_on new (CheckOld q s v) answer new' t x u free ask p g = stays _ t g.0 (if_taken _ _ _ t u.0.0 g.2 (λ y. at_old number h 12 always same (omega arith) kind new s v t u.0.1 y))
  points_on new (MakeLeaf s) answer new' t x u free ask p g = leaf_made s x.1 g.1.0 t u.0 g.1.1
  points_on new (MakeGreater s q leaf) answer new' t x u free ask p g = greater_made s q leaf g.1.0 t x.2.fresh.stamped.published x.1.fresh.stamped.published u.0 g.1.1
  points_on new (MakeTop q stamp common byte) answer new' t x u free ask p g = top_made q stamp common byte g.1.0 t x.1.fresh.stamped.published x.2.published u.0 g.1.1
  points_on new (MakeBeside q stamp common byte top) answer new' t x u free ask p g = beside_made q stamp common byte top g.1.0 t x.1.fresh.stamped.published x.2.published u.0 g.1.1
  points_on new (MakeLesser s q top r) answer new' t x u free ask p g = lesser_made s q top r g.1.0 t x.4.fresh.stamped.published x.1.1.fresh.stamped.published x.5 u.0 g.1.1
  points_on new (AskOld s v) answer new' t x u free ask p g = stays _ t g.0 (given number h 11 always same (omega arith) kind s v answer new new' t u.0 ask g.1)
  points_on new (AskNew plan) answer new' t x u free ask p g = stays _ t g.0 (given_new number h 9 (omega arith) kind plan answer new new' t x.1 u.0 ask g.1)
  points_on new (Confirm stamp r) answer new' t x u free ask p g = stays _ t g.0 (if_taken _ _ _ t u.0.0 g.2 (λ y. near_to number h 1 _ t y (ends number h 1 (omega arith) r)))
  points_on new (CheckAbove q one r) answer new' t x u free ask p g = let y = g.1.goes_on u.0.0 in stays _ t y.0 (near_to number h 4 _ t y.1 ((u.0.1, tt), omega arith, tt))
  points_on new (UpgradeHere one r) answer new' t x u free ask p g = one_upgraded one r g.1.0 t (λ e. gives most (h (number one.at.node)) one.at.version u.0.0 (sym g.1.1 ∙ e)) g.1.2
  points_on new (ChangeHere one r) answer new' t x u free ask p g = near_to number h' 2 _ t g.2 ((tt, tt), omega arith, tt)
  points_on new (UpgradeTop top two r) answer new' t x u free ask p g =
      let upper = child_in top (number two.above.stamp.node) x.2 u.0.0 in
      let lower = child_in two.above (number two.at.node) x.1.2.above u.0.1.0 in
      top_upgraded top two r g.1.0 t (λ e. gives most (h (number top.stamp.node)) top.stamp.version u.0.0 (sym g.1.1 ∙ e))
      (λ e. let l = upper.longer in let q : length (h (number two.above.stamp.node)).prefix ≡ length (h (number top.stamp.node)).prefix = ap (λ y. length (h y).prefix) e in omega (arith, l, q))
      (λ e. let l = upper.longer in let m = lower.longer in let q : length (h (number two.at.node)).prefix ≡ length (h (number top.stamp.node)).prefix = ap (λ y. length (h y).prefix) e in omega (arith, l, m, q)) u.0.1.0 u.0.1.1.0 g.1.2
  points_on new (UpgradeAbove two r) answer new' t x u free ask p g =
      let below = child_in two.above (number two.at.node) x.1.2.above u.0.0 in
      above_upgraded two r g.1.0 t (λ e. gives most (h (number two.above.stamp.node)) two.above.stamp.version u.0.0 (sym g.1.1 ∙ e))
      (λ e. let l = below.longer in let q : length (h (number two.at.node)).prefix ≡ length (h (number two.above.stamp.node)).prefix = ap (λ y. length (h y).prefix) e in omega (arith, l, q)) u.0.1.0 g.1.2
  points_on new (UpgradeBelow two r) answer new' t x u free ask p g = both_upgraded two r g.1.0 t (λ e. gives most (h (number two.at.node)) two.at.version u.0.0 (sym g.1.1 ∙ e)) g.1.2
  points_on new (ChangeAbove two r) answer new' t x u free ask p g = near_to number h' 6 _ t g.2 (changes number h' 6 (omega arith) two r two.change)
  points_on new (Obsolete n next q r) answer new' t x u free ask p g = near_to number h' _ _ t g.2 ((tt, tt), omega arith, tt)
  points_on new (Retire n next q r) answer new' t x u free ask p g = near_to number h' _ _ t g.2 (handed next)
    where
      handed : (next : Option C) → Nearer number h' (2 + steps_next next 2) (after_retire next q r)
      handed None = ((tt, tt), omega arith, tt)
      handed (Some c) = ((tt, tt), omega arith, tt)
  points_on new (UnlockBelow n q r) answer new' t x u free ask p g = near_to number h' 2 _ t g.2 ((tt, tt), omega arith, tt)
  points_on new (Unlock n r) answer new' t x u free ask p g = near_to number h' 1 _ t g.2 ((tt, tt), omega arith, refl)
  points_on new (Unwind n next None) answer new' t x u free ask p g = absurd u.1
  points_on new (Unwind n None (Some e)) answer new' t x u free ask p g = near_to number h' 1 _ t g.2 (stops number h' 1 (omega arith) e)
  points_on new (Unwind n (Some c) (Some e)) answer new' t x u free ask p g = near_to number h' 2 _ t g.2 ((tt, tt), omega arith, tt)
  points_on new (Scan s) answer new' t x u free ask p g = absurd p
  points_on new Ended answer new' t x u free ask p g = absurd p
