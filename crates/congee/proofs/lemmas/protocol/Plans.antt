-- Where a check that succeeded leads: an absent key, a value, the closure's answer.
use Rattle.std.proofs.Common.{◌≡◌, ◌≢◌, ℕ, ◌<◌, ◌≤◌, ◌==◌, ◌&&◌, inl, inr, Bool, true, false, List, refl, sym, ◌∙◌, subst, arith}
use Rattle.std.proofs.Math.Dec.{ltb}
use Rattle.std.proofs.lemmas.Bool.Decides.{nat_tests}
use Rattle.std.specs.Prelude.{Option, None, Some}
use Rattle.judge.specs.declared.journal.Call.TheVariants as call
use Rattle.judge.specs.declared.journal.Reply.{Reply}
use Rattle.judge.specs.declared.journal.Reply.TheVariants as reply
use Rattle.congee.specs.declared.protocol.phase.Kind.{Kind}
use Rattle.congee.specs.declared.protocol.phase.Kind.TheVariants.{Insert, ComputeInsert}
use Rattle.congee.specs.declared.protocol.phase.Parent.{Parent}
use Rattle.congee.specs.declared.protocol.phase.Above.{Above as Over}
use Rattle.congee.specs.declared.protocol.phase.Site.{Site}
use Rattle.congee.specs.declared.protocol.phase.Placement.{Placement}
use Rattle.congee.specs.declared.protocol.phase.Placement.TheVariants.{Set, Link}
use Rattle.congee.specs.declared.protocol.phase.Replacement.{Replacement}
use Rattle.congee.specs.declared.protocol.phase.Replacement.TheVariants.{Unlink, Grow, GrowLink, Split, Collapse, ShrinkAbove}
use Rattle.congee.specs.declared.protocol.phase.Plan.{Plan}
use Rattle.congee.specs.declared.protocol.phase.Plan.TheVariants.{Here, Above}
use Rattle.congee.specs.declared.protocol.phase.Phase.TheVariants.{UpgradeHere, UpgradeAbove}
use Rattle.congee.specs.declared.protocol.next_phase.NextPhase.{NextPhase}
use Rattle.congee.specs.Heap.{Node, Nothing, Holds, is_taken}
use Rattle.congee.specs.protocol.Steps.{quiet, shrinks, set_at, both, last_out, adds, absent_reply, stamp_above, started, ready, plan_here, unless_full, missing, absent, IsAsked, replaced, taken_out, emptied}
use Rattle.congee.specs.Keys.{key_bytes}
use Rattle.congee.specs.Notes.{Note, Tree, LockWords}
use Rattle.congee.specs.protocol.Protocol.{Fresh, ChildOf, IsFar, IsAbove, IsAlone, HasTop, Sees, Knows, WantedHere, MadeHere, IsLeafAt, FitsHere, HereKnown, FitsAbove, HasGift, Asking, Adding, StampedIf, PlanKnown, MadeLeafFor, Settles}
use Rattle.congee.proofs.lemmas.Fits.{equal_of_test, same_test, both_true}
use Rattle.congee.proofs.lemmas.protocol.Touch.{by_test, taken_linked}
use Rattle.congee.proofs.lemmas.Graft.{on_test}
use Rattle.congee.proofs.lemmas.protocol.Sound.{Sound, fresh_map, settle_absent, answers_now, stands_at}

fits_one_new : {C V : Type 0} (change : Placement C) (v : V) → FitsHere change Nothing (Some v)
fits_one_new Set v = tt
fits_one_new (Link leaf) v = refl

fits_two_new : {C V : Type 0} (change : Replacement C) (v : V) → Adding change → FitsAbove change None (Some v)
fits_two_new (Grow c) v d = tt
fits_two_new (GrowLink c leaf byte) v d = tt
fits_two_new (Split top leaf common byte) v d = tt
fits_two_new _ v d = absurd d

has_no_top : {C : Type 0} (change : Replacement C) (top : Option (Parent C)) → Adding change → top ≡ None → HasTop change top
has_no_top Collapse top d e = absurd d
has_no_top (ShrinkAbove c) top d e = absurd d
has_no_top _ top d e = e

stamped_if : {C V : Type 0} (number : C → ℕ) (a : ℕ → Note) (h : ℕ → Node V) (key : List ℕ) (p : Option (Over C)) (n : ℕ) → IsAbove number a h key p n → StampedIf number a h (stamp_above p)
stamped_if number a h key None n m = tt
stamped_if number a h key (Some p) n m = m.0.fresh.stamped

settle_insert : {V : Type 0} (same : V → V → Bool) (k : ℕ) (v : V) → Settles same k Insert (Some v) None (reply.Insert None) (Some v)
settle_insert same k v = record { call = call.Insert k v; is_call = refl; reply = refl; left = refl }

module _ {C V : Type 0} (number : C → ℕ) (same : V → V → Bool) (always : Bool) (i : ℕ) (a : ℕ → Note) (h : ℕ → Node V) (k : ℕ) (t : Tree a h) (w : LockWords a h) where
  -- a call that begins on its plan knows what its next step wants
  pub started_sound : (kind : Kind V) (given : Option V) (v : V) (plan : Plan C) (r : Reply V) → HasGift kind (Some v) → PlanKnown number i a h (key_bytes k) plan → Settles same k kind (Some v) None r (Some v)
      → Sound number same always i k kind given h (Some v) (started plan r) a h
  started_sound kind given v (Here None one) r g p s = record { known = (g, (Nothing, p.1, fits_one_new one.change v, s)); answer = λ x _. refl }
  started_sound kind given v (Here (Some q) one) r g p s = record { known = (g, p.0, p.1, fits_one_new one.change v, s); answer = λ x _. refl }
  started_sound kind given v (Above two) r g p s = record { known = (g, (None, p.0.0, p.0.1, has_no_top two.change two.top p.1 p.2, fits_two_new two.change v p.1, s)); answer = λ x _. refl }

  -- a call that begins on its plan, or asks its closure first, knows what its next step wants
  pub ready_sound : (kind : Kind V) (given : Option V) (plan : Plan C) → adds kind ≡ true → HasGift kind given → PlanKnown number i a h (key_bytes k) plan → Sound number same always i k kind given h given (ready kind plan) a h
  ready_sound ComputeInsert given plan e g p = record { known = (p, refl); answer = λ x _. refl }
  ready_sound Insert given plan e g p =
      let P : Option V → Type 0 = λ o. Sound number same always i k Insert o h o (started plan (reply.Insert None)) a h in
      subst P (sym g.1) (started_sound Insert (Some g.0) g.0 plan (reply.Insert None) (g.0, refl) p (settle_insert same k g.0))
  ready_sound _ given plan e g p = absurd cc

  here_known : (s : Site C) (change : Placement C) → Knows number a h (key_bytes k) s Nothing → (is_taken (h (number s.at.node)) s.at.version ≡ true → ((h (number s.at.node)).count == (h (number s.at.node)).capacity) ≡ false)
      → IsLeafAt change s.depth → MadeHere number i a h (key_bytes k) change → PlanKnown number i a h (key_bytes k) (plan_here s change)
  here_known s change m room size made = (
    stamped_if number a h (key_bytes k) s.above (number s.at.node) m.above,
    record {
      placed = record { fitted = m.fitted; byte = m.byte; size = (let P : ℕ → Type 0 = λ x. IsLeafAt change x in subst P m.depth size) };
      fresh = record { stamped = m.fresh.stamped; holds = λ q. record { child = (m.fresh.holds q).child; room = λ _. room q } };
      made = made;
    },
  )

  -- a node that isn't full, or the root
  pub unless_full_sound : (kind : Kind V) (given : Option V) (s : Site C) (leaf : Option C) (change : Placement C) (full : Bool) (p : Option (Over C)) → s.full ≡ full → s.above ≡ p → adds kind ≡ true → s.count < 256 → HasGift kind given
      → Knows number a h (key_bytes k) s Nothing → MadeLeafFor number i a h (key_bytes k) s leaf → IsLeafAt change s.depth → MadeHere number i a h (key_bytes k) change
      → Sound number same always i k kind given h given (unless_full kind s full p leaf change) a h
  unless_full_sound kind given s leaf change true (Some p) ef ep e few g m made size one =
      let ab : IsAbove number a h (key_bytes k) (Some p) (number s.at.node) = (let P : Option (Over C) → Type 0 = λ x. IsAbove number a h (key_bytes k) x (number s.at.node) in subst P ep m.above) in
      record { known = (g, m, ab.0, made, e, few); answer = λ x _. refl }
  unless_full_sound kind given s leaf change true None ef ep e few g m made size one = ready_sound kind given (plan_here s change) e g (here_known s change m
      (λ q. let y : Sees (key_bytes k) s Nothing (h (number s.at.node)) = m.fresh.holds q in
      let z : number s.at.node ≡ 0 = (let P : Option (Over C) → Type 0 = λ x. IsAbove number a h (key_bytes k) x (number s.at.node) in subst P ep m.above) in
      let wide : (h (number s.at.node)).capacity ≡ 256 = (let P : ℕ → Type 0 = λ x. (h x).capacity ≡ 256 in subst P (sym z) w.wide) in
      on_test ((h (number s.at.node)).count == (h (number s.at.node)).capacity)
      (λ b. let c : (h (number s.at.node)).count ≡ (h (number s.at.node)).capacity = equal_of_test _ _ b in absurd (omega (arith, y.room refl, wide, c))) (λ b. b)) size one)
  unless_full_sound kind given s leaf change false p ef ep e few g m made size one = ready_sound kind given (plan_here s change) e g (here_known s change m
      (λ q. let y : Sees (key_bytes k) s Nothing (h (number s.at.node)) = m.fresh.holds q in sym (y.full refl) ∙ ef) size one)

  missing_sound : (kind : Kind V) (given : Option V) (s : Site C) → adds kind ≡ true → s.count < 256 → HasGift kind given → Knows number a h (key_bytes k) s Nothing → Sound number same always i k kind given h given (missing kind s) a h
  missing_sound kind given s e few g m = by_test (λ (x : NextPhase C V). Sound number same always i k kind given h given x a h) (s.depth == 7) _ _
      (λ q. let z : s.depth ≡ 7 = equal_of_test s.depth 7 q in unless_full_sound kind given s None Set s.full s.above refl refl e few g m z z tt)
      (λ q. record { known = (g, m, less s.depth m.short (λ z. let y : s.depth == 7 ≡ true = same_test s.depth 7 z in cc), e, few); answer = λ x _. refl })
    where
      less : (n : ℕ) → n ≤ 7 → n ≢ 7 → n < 7
      less n l ne = omega (arith, l, ne)

  -- a call whose key is absent answers as the map, or knows what its insertion wants
  pub absent_sound : (kind : Kind V) (given : Option V) (s : Site C) → HasGift kind given → Knows number a h (key_bytes k) s Nothing → is_taken (h (number s.at.node)) s.at.version ≡ true
      → Sound number same always i k kind given h given (absent kind s) a h
  absent_sound kind given s g m q = by_test (λ (x : NextPhase C V). Sound number same always i k kind given h given x a h) (adds kind) _ _
      (λ e. missing_sound kind given s e (let y : Sees (key_bytes k) s Nothing (h (number s.at.node)) = m.fresh.holds q in omega (arith, y.room refl, y.count)) g m)
      (λ e. answers_now number same always i a h k kind given t w (absent_reply kind) None (settle_absent same k kind given e)
      (stands_at number same always i a h k kind given t w (number s.at.node) s.at.version Nothing (Sees (key_bytes k) s Nothing) m.fresh (λ z. z.child) m.fitted q))

  -- a value that stands in a node is in a leaf
  pub at_leaf : (s : Site C) (v : V) → Knows number a h (key_bytes k) s (Holds v) → is_taken (h (number s.at.node)) s.at.version ≡ true → s.depth ≡ 7
  at_leaf s v m q = m.depth ∙ t.leaves (number s.at.node) _ v (taken_linked a h w (number s.at.node) s.at.version m.fresh.stamped.published q) (m.fresh.holds q).child

  -- at a leaf that holds the key's value, a call knows what putting another one there wants
  pub one_set : (s : Site C) (v : V) → Knows number a h (key_bytes k) s (Holds v) → s.depth ≡ 7 → HereKnown number i a h (key_bytes k) (record { at = s.at; byte = s.byte; change = Set }) (Holds v)
  one_set s v m d = record {
    placed = record { fitted = m.fitted; byte = m.byte; size = sym m.depth ∙ d };
    fresh = fresh_map a h (number s.at.node) s.at.version (Sees (key_bytes k) s (Holds v)) (WantedHere (key_bytes k) (Holds v)) (λ z. record { child = z.child; room = λ e. absurd cc }) m.fresh;
    made = tt;
  }

  -- another value is put there, or the same one confirmed
  pub replaced_sound : (kind : Kind V) (given : Option V) (x : V) (s : Site C) (v : V) (r : Reply V) → ((p q : V) → same p q ≡ true → p ≡ q) → HasGift kind (Some x) → Knows number a h (key_bytes k) s (Holds v) → s.depth ≡ 7
      → Settles same k kind (Some x) (Some v) r (Some x) → Sound number same always i k kind given h (Some x) (replaced s (same v x) r) a h
  replaced_sound kind given x s v r law g m d z = by_test (λ (y : NextPhase C V). Sound number same always i k kind given h (Some x) y a h) (same v x) _ _
      (λ q. record {
        known = (
          g,
          (
            v,
            record { fitted = m.fitted; fresh = fresh_map a h (number s.at.node) s.at.version (Sees (key_bytes k) s (Holds v)) _ (λ y. y.child) m.fresh },
            (let e : x ≡ v = sym (law v x q) in let P : V → Type 0 = λ y. Settles same k kind (Some x) (Some v) r (Some y) in subst P e z),
          ),
        );
        answer = λ y _. refl;
      })
      (λ q. record { known = (g, (Holds v, one_set s v m d, tt, z)); answer = λ y _. refl })

  -- the value is taken out of the leaf
  set_out : (kind : Kind V) (given : Option V) (s : Site C) (v : V) (r : Reply V) → HasGift kind None → Knows number a h (key_bytes k) s (Holds v) → s.depth ≡ 7
      → Settles same k kind None (Some v) r None → Sound number same always i k kind given h None (quiet (UpgradeHere (set_at s) r)) a h
  set_out kind given s v r g m d z = record { known = (g, (Holds v, one_set s v m d, (tt, (λ e. cc)), z)); answer = λ y _. refl }

  -- the leaf has this value alone
  pub left_alone : (s : Site C) (v : V) → s.count ≡ 1 → Knows number a h (key_bytes k) s (Holds v) → Fresh a h (number s.at.node) s.at.version (IsAlone (key_bytes k) (Some v))
  left_alone s v e m = fresh_map a h (number s.at.node) s.at.version (Sees (key_bytes k) s (Holds v)) _ (λ y. (y.child, y.alone (y.count ∙ e) (λ f. cc))) m.fresh

  -- the leaf is taken out of the node above
  leaf_out : (kind : Kind V) (given : Option V) (s : Site C) (v : V) (r : Reply V) (p : Parent C) → ChildOf number a h (key_bytes k) p (number s.at.node) → s.count ≡ 1 → HasGift kind None → Knows number a h (key_bytes k) s (Holds v)
      → s.depth ≡ 7 → Settles same k kind None (Some v) r None → Sound number same always i k kind given h None (quiet (UpgradeAbove (both p s Unlink) r)) a h
  leaf_out kind given s v r p c one g m d z = record {
    known = (g, (Some v, 0, record { top = tt; above = c; placed = (m.fitted, sym m.depth ∙ d); fresh = left_alone s v one m; made = tt }, refl, tt, z));
    answer = λ y _. refl;
  }

  -- and with it the node above, or that one gives way to a lesser node
  last_sound : (kind : Kind V) (given : Option V) (s : Site C) (v : V) (r : Reply V) (p : Parent C) (f : Option (Parent C)) → ChildOf number a h (key_bytes k) p (number s.at.node) → IsFar number a h (key_bytes k) f (number p.stamp.node) → s.count ≡ 1
      → HasGift kind None → Knows number a h (key_bytes k) s (Holds v) → s.depth ≡ 7 → Settles same k kind None (Some v) r None → Sound number same always i k kind given h None (last_out s p f r) a h
  last_sound kind given s v r p None c f one g m d z = leaf_out kind given s v r p c one g m d z
  last_sound kind given s v r p (Some top) c f one g m d z = by_test (λ (x : NextPhase C V). Sound number same always i k kind given h None x a h) (p.count == 2) _ _
      (λ q. record {
        known = (
          g,
          (Some v, 0, record { top = tt; above = c; placed = (m.fitted, sym m.depth ∙ d); fresh = left_alone s v one m; made = equal_of_test p.count 2 q }, tt, z),
          f,
          tt,
          refl,
        );
        answer = λ y _. refl;
      })
      (λ _. by_test (λ (x : NextPhase C V). Sound number same always i k kind given h None x a h) (ltb 2 p.count && shrinks p.form p.count) _ _
      (λ q. let b : (ltb 2 p.count ≡ true) × (shrinks p.form p.count ≡ true) = both_true (ltb 2 p.count) (shrinks p.form p.count) q in
      record { known = (g, (v, m, z), d, refl, c, (f, one, more p.count b.0, b.1)); answer = λ y _. refl })
      (λ _. leaf_out kind given s v r p c one g m d z))
    where
      more : (n : ℕ) → ltb 2 n ≡ true → 2 < n
      more n e = grind (arith, nat_tests)

  -- the value goes, and with its last value the leaf
  taken_sound : (kind : Kind V) (given : Option V) (s : Site C) (v : V) (r : Reply V) (p : Option (Over C)) → IsAbove number a h (key_bytes k) p (number s.at.node) → HasGift kind None → Knows number a h (key_bytes k) s (Holds v) → s.depth ≡ 7
      → Settles same k kind None (Some v) r None → Sound number same always i k kind given h None (taken_out s p r) a h
  taken_sound kind given s v r None ab g m d z = set_out kind given s v r g m d z
  taken_sound kind given s v r (Some u) ab g m d z = by_test (λ (x : NextPhase C V). Sound number same always i k kind given h None x a h) (s.count == 1) _ _
      (λ q. last_sound kind given s v r u.near u.far ab.0 ab.1 (equal_of_test s.count 1 q) g m d z)
      (λ _. by_test (λ (x : NextPhase C V). Sound number same always i k kind given h None x a h) (shrinks s.form s.count) _ _
      (λ q. record { known = (g, (v, m, z), d, refl, ab.0, q); answer = λ y _. refl })
      (λ _. set_out kind given s v r g m d z))

  -- a call that takes the value out of its leaf knows what its next step wants
  pub emptied_sound : (kind : Kind V) (given : Option V) (s : Site C) (v : V) (r : Reply V) → HasGift kind None → Knows number a h (key_bytes k) s (Holds v) → s.depth ≡ 7
      → Settles same k kind None (Some v) r None → Sound number same always i k kind given h None (emptied s r) a h
  emptied_sound kind given s v r g m d z = taken_sound kind given s v r s.above m.above g m d z

  -- a next phase by another name is sound where the next phase is
  pub next_phase_at : (kind : Kind V) (given given' : Option V) (x y : NextPhase C V) → y ≡ x → Sound number same always i k kind given h given' x a h → Sound number same always i k kind given h given' y a h
  next_phase_at kind given given' x y e s = let P : NextPhase C V → Type 0 = λ z. Sound number same always i k kind given h given' z a h in subst P (sym e) s

  -- a call that asks about a value that stands, or couldn't copy it, knows what its next step wants
  pub asked_sound : (kind : Kind V) (given : Option V) (s : Site C) (v : V) (next_phase : NextPhase C V) → IsAsked always s v next_phase → HasGift kind given → Asking kind → Knows number a h (key_bytes k) s (Holds v) → s.depth ≡ 7
      → Sound number same always i k kind given h given next_phase a h
  asked_sound kind given s v next_phase (inl e) g ask m d = next_phase_at kind given given _ next_phase e (record { known = (g, m, ask, d); answer = λ y _. refl })
  asked_sound kind given s v next_phase (inr e) g ask m d = next_phase_at kind given given _ next_phase e.1 (record { known = tt; answer = λ y _. refl })
