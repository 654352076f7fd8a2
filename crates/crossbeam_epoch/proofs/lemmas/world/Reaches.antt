-- What a guard may look at isn't destroyed.
use Rattle.std.proofs.Common.{◌≡◌, ℕ, ◌+◌, ◌≤◌, ◌==◌, Bool, true, false, List, [], ◌∷◌, Some, None, refl, sym, ◌∙◌, ap, subst, inl, inr, ◌⊎◌, arith}
use Rattle.std.specs.Prelude.{is_some, nat_lt, slice_get, if◌then◌else◌}
use Rattle.std.specs.List.{Contains}
use Rattle.std.proofs.lemmas.Bool.{eq-eqb}
use Rattle.std.proofs.lemmas.List.Elements.{Contains-get_or}
use Rattle.std.proofs.lemmas.Option.{get_or_from_slice_get, slice_get_within}
use Rattle.crossbeam_epoch.specs.declared.names.Name.{Name}
use Rattle.crossbeam_epoch.specs.declared.names.Ptr.{Ptr}
use Rattle.crossbeam_epoch.specs.world.History.{Mark, Pinned, Repinned, Unpinned, Deferred, Called, began, blocks, deferrals, IsGraceful, WasDeferred, AreCalledLater}
use Rattle.crossbeam_epoch.specs.world.Reach.{Act, Quiet, Marked, GivenBack, Moment, with_act, marks_of, InReach, from_cell, from_root, links_of, IsIn, WasIn, WasLive, mark_changes_pin, changes_pin, Visible, LeavesFirst, EntersLive, GivesUnseen, KeepsLinks, mark_destroys, IsDestruction, DestructionsTold, IsNow, IsCareful, HasMoments, InSight}
use Rattle.crossbeam_epoch.specs.world.Machine.{State, null}
use Rattle.crossbeam_epoch.specs.world.Store.{value_at}

steady : {A : Type 0} (c : Bool) (a y : A) → c ≡ false → (if c then a else y) ≡ y
steady true a y e = absurd (cc e)
steady false a y e = refl

-- no ticket was given twice
abbrev pub OneTicket : List Mark → Type 0
OneTicket h = (t : ℕ) → deferrals h t ≤ 1

deferrals_before : (k : Mark) (h : List Mark) (t : ℕ) → deferrals h t ≤ deferrals (k ∷ h) t
deferrals_before (Pinned who epoch) h t = omega arith
deferrals_before (Repinned who epoch) h t = omega arith
deferrals_before (Unpinned who) h t = omega arith
deferrals_before (Deferred ticket name) h t = omega arith
deferrals_before (Called ticket name) h t = omega arith

one_before : (a : Act) (h : List Mark) → OneTicket (with_act a h) → OneTicket h
one_before Quiet h one = one
one_before (Marked k) h one = λ t. let le = deferrals_before k h t in let few = one t in omega arith
one_before (GivenBack name) h one = one

began_steady : (k : Mark) (h : List Mark) (p : ℕ) → mark_changes_pin k p ≡ false → began (k ∷ h) p ≡ began h p
began_steady (Pinned who epoch) h p e = steady (who == p) (Some epoch) (began h p) e
began_steady (Repinned who epoch) h p e = steady (who == p) (Some epoch) (began h p) e
began_steady (Unpinned who) h p e = steady (who == p) None (began h p) e
began_steady (Deferred ticket name) h p e = refl
began_steady (Called ticket name) h p e = refl

-- a stretch that an act doesn't turn goes on
pub act_steady : (a : Act) (h : List Mark) (p : ℕ) → changes_pin a p ≡ false → began (with_act a h) p ≡ began h p
act_steady Quiet h p e = refl
act_steady (Marked k) h p e = began_steady k h p e
act_steady (GivenBack name) h p e = refl

-- a stretch that saw a cell blocks its removal
blocked_mark : (k : Mark) (h : List Mark) (p t : ℕ) (n : Name) → mark_changes_pin k p ≡ false → deferrals (k ∷ h) t ≤ 1 → is_some (began h p) ≡ true → WasDeferred (k ∷ h) t n
    → (WasDeferred h t n → blocks h p t ≡ true) → blocks (k ∷ h) p t ≡ true
blocked_mark (Pinned who epoch) h p t n e one pinned d on = steady (who == p) false (blocks h p t) e ∙ on d
blocked_mark (Repinned who epoch) h p t n e one pinned d on = steady (who == p) false (blocks h p t) e ∙ on d
blocked_mark (Unpinned who) h p t n e one pinned d on = steady (who == p) false (blocks h p t) e ∙ on d
blocked_mark (Deferred ticket name) h p t n e one pinned d on = by_place (ticket == t) (eq-eqb ticket t) one d
  where
    by_place : (b : Bool) → (ticket ≡ t → b ≡ true) → (if b then 1 else 0) + deferrals h t ≤ 1 → ((ticket ≡ t) × (name ≡ Some n)) ⊎ WasDeferred h t n → (if b then is_some (began h p) else blocks h p t) ≡ true
    by_place true same few d = pinned
    by_place false same few d = elim d [ inl here ↦ absurd (cc (same here.0)) | inr earlier ↦ on earlier ]
blocked_mark (Called ticket name) h p t n e one pinned d on = on d

blocked_act : (a : Act) (h : List Mark) (p t : ℕ) (n : Name) → changes_pin a p ≡ false → OneTicket (with_act a h) → is_some (began h p) ≡ true → WasDeferred (with_act a h) t n
    → (WasDeferred h t n → blocks h p t ≡ true) → blocks (with_act a h) p t ≡ true
blocked_act Quiet h p t n e one pinned d on = on d
blocked_act (Marked k) h p t n e one pinned d on = blocked_mark k h p t n e (one t) pinned d on
blocked_act (GivenBack name) h p t n e one pinned d on = on d

blocked : (h : List Moment) (p t : ℕ) (n : Name) → LeavesFirst h → OneTicket (marks_of h) → is_some (began (marks_of h) p) ≡ true → Visible h p n → WasDeferred (marks_of h) t n → blocks (marks_of h) p t ≡ true
blocked [] p t n leaves one pinned seen d = absurd seen
blocked (m ∷ h) p t n leaves one pinned seen d = elim seen [
  | inl now ↦ absurd (leaves.0 t n d now)
  | inr before ↦
      let pinned' : is_some (began (marks_of h) p) ≡ true = sym (ap is_some (act_steady m.act (marks_of h) p before.0)) ∙ pinned in
      blocked_act m.act (marks_of h) p t n before.0 one pinned' d (λ d'. blocked h p t n leaves.1 (one_before m.act (marks_of h) one) pinned' before.1 d')
]

-- an act that destroys a cell calls its removal, or gives it back
record Called_now (a : Act) (h : List Mark) (n : Name) : Type 0 where
  ticket : ℕ
  before : WasDeferred h ticket n
  still : WasDeferred (with_act a h) ticket n
  free : (q : ℕ) → blocks h q ticket ≡ false

ended_mark : (k : Mark) (h : List Mark) (n : Name) → mark_destroys k n → IsGraceful (k ∷ h) → AreCalledLater (k ∷ h) → Called_now (Marked k) h n
ended_mark (Called ticket name) h n e g later = record { ticket = ticket; before = later.0 n e; still = later.0 n e; free = g.0 }
ended_mark (Pinned who epoch) h n e g later = absurd e
ended_mark (Repinned who epoch) h n e g later = absurd e
ended_mark (Unpinned who) h n e g later = absurd e
ended_mark (Deferred ticket name) h n e g later = absurd e

ended : (a : Act) (h : List Mark) (n : Name) → IsDestruction a n → IsGraceful (with_act a h) → AreCalledLater (with_act a h) → Called_now a h n ⊎ (a ≡ GivenBack n)
ended Quiet h n e g later = absurd e
ended (Marked k) h n e g later = inl (ended_mark k h n e g later)
ended (GivenBack name) h n e g later = inr (ap GivenBack e)

mark_graceful : (k : Mark) (h : List Mark) → IsGraceful (k ∷ h) → IsGraceful h
mark_graceful (Pinned who epoch) h g = g
mark_graceful (Repinned who epoch) h g = g
mark_graceful (Unpinned who) h g = g
mark_graceful (Deferred t name) h g = g
mark_graceful (Called t name) h g = g.1

graceful_before : (a : Act) (h : List Mark) → IsGraceful (with_act a h) → IsGraceful h
graceful_before Quiet h g = g
graceful_before (Marked k) h g = mark_graceful k h g
graceful_before (GivenBack name) h g = g

mark_later : (k : Mark) (h : List Mark) → AreCalledLater (k ∷ h) → AreCalledLater h
mark_later (Pinned who epoch) h l = l
mark_later (Repinned who epoch) h l = l
mark_later (Unpinned who) h l = l
mark_later (Deferred t name) h l = l
mark_later (Called t name) h l = l.1

later_before : (a : Act) (h : List Mark) → AreCalledLater (with_act a h) → AreCalledLater h
later_before Quiet h l = l
later_before (Marked k) h l = mark_later k h l
later_before (GivenBack name) h l = l

unless_ended : (live : Bool) → (live ≡ false → ⊥) → live ≡ true
unless_ended true never = refl
unless_ended false never = absurd (never refl)

-- what a stretch saw was in reach
pub visible_was : (h : List Moment) (p : ℕ) (n : Name) → Visible h p n → WasIn h n
visible_was [] p n seen = seen
visible_was (m ∷ h) p n seen = elim seen [ inl now ↦ inl now | inr before ↦ inr (visible_was h p n before.1) ]

-- what is in reach isn't destroyed
in_live : (m : Moment) (h : List Moment) (n : Name) → LeavesFirst (m ∷ h) → EntersLive (m ∷ h) → GivesUnseen (m ∷ h) → DestructionsTold (m ∷ h) → IsGraceful (marks_of (m ∷ h)) → AreCalledLater (marks_of (m ∷ h)) → IsIn m n → m.live n ≡ true
in_live m [] n leaves enters gives ends g later is = enters n is
in_live m (b ∷ h) n leaves enters gives ends g later is = elim (enters.0 n is) [
  | inl live ↦ live
  | inr was ↦
      let live = in_live b h n leaves.1 enters.1 gives.1 ends.1 (graceful_before m.act (marks_of (b ∷ h)) g) (later_before m.act (marks_of (b ∷ h)) later) was in
      unless_ended (m.live n) (λ gone. elim (ended m.act (marks_of (b ∷ h)) n (ends.0 n live gone) g later) [
        | inl called ↦ leaves.0 called.ticket n called.still is
        | inr back ↦ gives.0 n back (inl was)
      ])
]

-- what a stretch saw in reach isn't destroyed while it lasts
visible_live : (m : Moment) (h : List Moment) (p : ℕ) (n : Name) → LeavesFirst (m ∷ h) → EntersLive (m ∷ h) → GivesUnseen (m ∷ h) → DestructionsTold (m ∷ h) → IsGraceful (marks_of (m ∷ h)) → AreCalledLater (marks_of (m ∷ h)) → OneTicket (marks_of (m ∷ h))
    → is_some (began (marks_of (m ∷ h)) p) ≡ true → Visible (m ∷ h) p n → m.live n ≡ true
visible_live m [] p n leaves enters gives ends g later one pinned seen = elim seen [
  | inl now ↦ in_live m [] n leaves enters gives ends g later now
  | inr before ↦ absurd before.1
]
visible_live m (b ∷ h) p n leaves enters gives ends g later one pinned seen = elim seen [
  | inl now ↦ in_live m (b ∷ h) n leaves enters gives ends g later now
  | inr before ↦
      let old = marks_of (b ∷ h) in
      let pinned' : is_some (began old p) ≡ true = sym (ap is_some (act_steady m.act old p before.0)) ∙ pinned in
      let one' = one_before m.act old one in
      let live = visible_live b h p n leaves.1 enters.1 gives.1 ends.1 (graceful_before m.act old g) (later_before m.act old later) one' pinned' before.1 in
      unless_ended (m.live n) (λ gone. elim (ended m.act old n (ends.0 n live gone) g later) [
        | inl called ↦
            let held = blocked (b ∷ h) p called.ticket n leaves.1 one' pinned' before.1 called.before in
            absurd (cc (held, called.free p))
        | inr back ↦ gives.0 n back (visible_was (b ∷ h) p n before.1)
      ])
]

-- a name that a visible cell holds is visible
pub visible_link : (m : Moment) (h : List Moment) (p : ℕ) (c n : Name) → KeepsLinks (m ∷ h) → Visible (m ∷ h) p c → Contains (m.links c) n → Visible (m ∷ h) p n
visible_link m [] p c n keeps seen holds = elim seen [
  | inl now ↦ inl (from_cell c n now holds)
  | inr before ↦ absurd before.1
]
visible_link m (b ∷ h) p c n keeps seen holds = elim seen [
  | inl now ↦ inl (from_cell c n now holds)
  | inr before ↦ elim (keeps.0 c (visible_was (b ∷ h) p c before.1)) [
    | inl now ↦ inl (from_cell c n now holds)
    | inr less ↦ inr (before.0, visible_link b h p c n keeps.1 before.1 (less n holds))
  ]
]

at_most_one : (b : Bool) → (if b then 1 else 0) ≤ 1
at_most_one true = omega arith
at_most_one false = omega arith

-- the theorem over moments that led to a state
pub seen_stands : {T J : Type 0} (names : T → List Name) (h : List Moment) (s : State T J) (p : ℕ) (n : Name) → HasMoments names h s → IsCareful h → is_some (began (marks_of h) p) ≡ true → Visible h p n → is_some (value_at s.store n) ≡ true
seen_stands names [] s p n t u pinned seen = absurd seen
seen_stands names (m ∷ h) s p n t u pinned seen =
    sym (t.now.1 n) ∙ visible_live m h p n u.leaves u.enters u.gives t.ends t.fits.graceful t.fits.later (λ k. let one = t.fits.once.tickets k in let le = at_most_one (nat_lt k s.next) in omega (arith, one, le)) pinned seen

-- a name that a cell holds which a stretch saw was seen too
pub seen_link : {T J : Type 0} (names : T → List Name) (h : List Moment) (s : State T J) (p : ℕ) (c n : Name) → HasMoments names h s → KeepsLinks h → Visible h p c → Contains (links_of names s.store c) n → Visible h p n
seen_link names [] s p c n t keeps seen holds = absurd seen
seen_link names (m ∷ h) s p c n t keeps seen holds = visible_link m h p c n keeps seen (subst (λ (l : List Name). Contains l n) (sym (t.now.2 c)) holds)

-- a name that a root holds is seen by every stretch
root_seen : {T J : Type 0} (names : T → List Name) (h : List Moment) (s : State T J) (p : ℕ) (n : Name) (ptr : Ptr) → HasMoments names h s → Contains s.roots ptr → ptr.name ≡ Some n → Visible h p n
root_seen names [] s p n ptr t holds is = absurd t.now
root_seen names (m ∷ h) s p n ptr t holds is = inl (from_root ptr n (subst (λ (l : List Ptr). Contains l ptr) (sym t.now.0) holds) is)

-- where a root leads every stretch may look
pub root_sight : {T J : Type 0} (names : T → List Name) (s : State T J) (root : ℕ) (ptr : Ptr) → slice_get s.roots root ≡ Some ptr → InSight names s ptr
root_sight names s root ptr is = λ h p n t named.
    let lt = slice_get_within s.roots root ptr is in
    let holds = subst (λ (x : Ptr). Contains s.roots x) (get_or_from_slice_get s.roots root ptr null is) (Contains-get_or s.roots root null lt) in
    root_seen names h s p n ptr t holds named

-- fewer links lead no further
pub less_reach : (roots : List Ptr) (links less : Name → List Name) → ((c m : Name) → Contains (less c) m → Contains (links c) m) → {n : Name} → InReach roots less n → InReach roots links n
less_reach roots links less all (from_root p n is e) = from_root p n is e
less_reach roots links less all (from_cell c n is holds) = from_cell c n (less_reach roots links less all is) (all c n holds)

same_reach : (roots roots' : List Ptr) (links links' : Name → List Name) → roots' ≡ roots → ((c : Name) → links' c ≡ links c) → {n : Name} → InReach roots links n → InReach roots' links' n
same_reach roots roots' links links' r l (from_root p n is e) = from_root p n (subst (λ (xs : List Ptr). Contains xs p) (sym r) is) e
same_reach roots roots' links links' r l (from_cell c n is holds) = from_cell c n (same_reach roots roots' links links' r l is) (subst (λ (xs : List Name). Contains xs n) (sym (l c)) holds)

-- what is in reach in a state is in reach at its newest moment
pub reach_now : {T J : Type 0} (names : T → List Name) (m : Moment) (h : List Moment) (s : State T J) (n : Name) → IsNow names (m ∷ h) s → InReach s.roots (links_of names s.store) n → IsIn m n
reach_now names m h s n now is = same_reach s.roots m.roots (links_of names s.store) m.links now.0 now.2 is

-- so every stretch sees it
pub reach_seen : {T J : Type 0} (names : T → List Name) (h : List Moment) (s : State T J) (p : ℕ) (n : Name) → IsNow names h s → InReach s.roots (links_of names s.store) n → Visible h p n
reach_seen names [] s p n now is = absurd now
reach_seen names (m ∷ h) s p n now is = inl (reach_now names m h s n now is)

-- a moment after which each name in reach isn't destroyed, or was in reach before
pub enters_next : {T J : Type 0} (names : T → List Name) (m : Moment) (h : List Moment) (s : State T J) → IsNow names h s → ((n : Name) → IsIn m n → (m.live n ≡ true) ⊎ InReach s.roots (links_of names s.store) n) → EntersLive h → EntersLive (m ∷ h)
enters_next names m [] s now each e = absurd now
enters_next names m (b ∷ h) s now each e = (λ n is. elim (each n is) [ inl live ↦ inl live | inr was ↦ inr (reach_now names b h s n now was) ], e)

-- what stood and is destroyed at the next moment was destroyed by its act
pub ended_by : {T J : Type 0} (names : T → List Name) (m : Moment) (h : List Moment) (s : State T J) (n : Name) → IsNow names h s → DestructionsTold (m ∷ h) → is_some (value_at s.store n) ≡ true → m.live n ≡ false → IsDestruction m.act n
ended_by names m [] s n now ends live gone = absurd now
ended_by names m (b ∷ h) s n now ends live gone = ends.0 n (now.1 n ∙ live) gone

-- a name that isn't destroyed now wasn't so at some moment
pub live_was : {T J : Type 0} (names : T → List Name) (h : List Moment) (s : State T J) (n : Name) → IsNow names h s → is_some (value_at s.store n) ≡ true → WasLive h n
live_was names [] s n now live = absurd now
live_was names (m ∷ h) s n now live = inl (now.1 n ∙ live)
