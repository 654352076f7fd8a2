-- A call stands at a value, or takes the closure's answer.
use Rattle.std.proofs.Common.{◌≡◌, ℕ, inl, inr, Bool, true, refl, sym, subst}
use Rattle.std.specs.Prelude.{Option, None, Some}
use Rattle.judge.specs.declared.journal.Call.TheVariants as call
use Rattle.judge.specs.declared.journal.Reply.TheVariants as reply
use Rattle.congee.specs.declared.forms.child.Child.{Child}
use Rattle.congee.specs.declared.forms.child.Child.TheVariants as child
use Rattle.congee.specs.declared.protocol.phase.Kind.{Kind}
use Rattle.congee.specs.declared.protocol.phase.Kind.TheVariants.{Get, Insert, Remove, ComputePresent, ComputeInsert, Exchange}
use Rattle.congee.specs.declared.protocol.phase.Above.{Above as Over}
use Rattle.congee.specs.declared.protocol.phase.Site.{Site}
use Rattle.congee.specs.declared.protocol.phase.Plan.{Plan}
use Rattle.congee.specs.declared.protocol.next_phase.NextPhase.{NextPhase}
use Rattle.congee.specs.Heap.{Node, Holds, is_taken}
use Rattle.congee.specs.protocol.Events.{hung}
use Rattle.congee.specs.protocol.Steps.{adds, IsAsked, replaced, is_same, IsAtOld, IsAdded, IsExchanged, IsCompared, IsPresent, IsChecked, IsGiven, IsGivenNew}
use Rattle.congee.specs.Keys.{key_bytes}
use Rattle.congee.specs.Notes.{Note, Tree, LockWords}
use Rattle.congee.specs.protocol.Protocol.{IsAbove, Sees, Knows, HasGift, Asking, PlanKnown}
use Rattle.congee.proofs.lemmas.Graft.{on_test}
use Rattle.congee.proofs.lemmas.protocol.Sound.{Sound, fresh_map, answers_now, stands_at, down_sound}
use Rattle.congee.proofs.lemmas.protocol.Plans.{next_phase_at, absent_sound, at_leaf, replaced_sound, emptied_sound, asked_sound, started_sound}

module _ {C V : Type 0} (number : C → ℕ) (same : V → V → Bool) (always : Bool) (i : ℕ) (a : ℕ → Note) (h : ℕ → Node V) (k : ℕ) (t : Tree a h) (w : LockWords a h)
    (law : (p q : V) → same p q ≡ true → p ≡ q) where
  -- a call that adds and stands at a value answers as the map, or knows what its next step wants
  pub at_old_sound : (kind : Kind V) (given : Option V) (s : Site C) (v : V) (next_phase : NextPhase C V) → IsAtOld always same kind given s v next_phase → adds kind ≡ true → HasGift kind given → Knows number a h (key_bytes k) s (Holds v) → s.depth ≡ 7
      → Sound number same always i k kind given h given next_phase a h
  at_old_sound ComputeInsert given s v next_phase e z g m d = asked_sound number same always i a h k t w ComputeInsert given s v next_phase e g tt m d
  at_old_sound Insert given s v next_phase e z g m d =
      let P : Option V → Type 0 = λ o. next_phase ≡ replaced s (is_same same v o) (reply.Insert (Some v)) → Sound number same always i k Insert o h o next_phase a h in
      subst P (sym g.1) (λ f. next_phase_at number same always i a h k t w Insert _ _ _ next_phase f
      (replaced_sound number same always i a h k t w Insert (Some g.0) g.0 s v _ law (g.0, refl) m d (record { call = call.Insert k g.0; is_call = refl; reply = refl; left = refl }))) e
  at_old_sound _ given s v next_phase e z g m d = absurd cc

  added_sound : (kind : Kind V) (given : Option V) (s : Site C) (p : Option (Over C)) (v : V) (next_phase : NextPhase C V) → IsAdded always same kind given s p v next_phase → s.above ≡ p → adds kind ≡ true → HasGift kind given → Knows number a h (key_bytes k) s (Holds v) → s.depth ≡ 7
      → Sound number same always i k kind given h given next_phase a h
  added_sound kind given s None v next_phase e ep z g m d = at_old_sound kind given s v next_phase e z g m d
  added_sound kind given s (Some p) v next_phase e ep z g m d =
      let ab : IsAbove number a h (key_bytes k) (Some p) (number s.at.node) = (let P : Option (Over C) → Type 0 = λ x. IsAbove number a h (key_bytes k) x (number s.at.node) in subst P ep m.above) in
      next_phase_at number same always i a h k t w kind given given _ next_phase e (record { known = (g, ab.0.fresh.stamped, m, z, d); answer = λ y _. refl })

  exchanged_sound : (old : V) (given : Option V) (s : Site C) (v : V) (next_phase : NextPhase C V) → same v old ≡ true → IsExchanged always same given s v next_phase → Knows number a h (key_bytes k) s (Holds v) → s.depth ≡ 7
      → Sound number same always i k (Exchange old) given h given next_phase a h
  exchanged_sound old None s v next_phase e f m d = next_phase_at number same always i a h k t w (Exchange old) None None _ next_phase f
      (emptied_sound number same always i a h k t w (Exchange old) None s v _ tt m d (record { call = call.Exchange k old None; is_call = refl; reply = rw e refl; left = rw e refl }))
  exchanged_sound old (Some x) s v next_phase e (inl f) m d = next_phase_at number same always i a h k t w (Exchange old) (Some x) (Some x) _ next_phase f
      (replaced_sound number same always i a h k t w (Exchange old) (Some x) x s v _ law tt m d (record { call = call.Exchange k old (Some x); is_call = refl; reply = rw e refl; left = rw e refl }))
  exchanged_sound old (Some x) s v next_phase e (inr f) m d = next_phase_at number same always i a h k t w (Exchange old) (Some x) (Some x) _ next_phase f.1 (record { known = tt; answer = λ y _. refl })

  compared_sound : (old : V) (given : Option V) (s : Site C) (v : V) (next_phase : NextPhase C V) → IsCompared (same v old) always same given s v next_phase → Knows number a h (key_bytes k) s (Holds v) → s.depth ≡ 7
      → Sound number same always i k (Exchange old) given h given next_phase a h
  compared_sound old given s v next_phase e m d = on_test (same v old)
      (λ q. exchanged_sound old given s v next_phase q (e.0 q) m d)
      (λ q. next_phase_at number same always i a h k t w (Exchange old) given given _ next_phase (e.1 q) (record {
        known = (
          tt,
          (
            v,
            record { fitted = m.fitted; fresh = fresh_map a h (number s.at.node) s.at.version (Sees (key_bytes k) s (Holds v)) _ (λ y. y.child) m.fresh },
            record { call = call.Exchange k old given; is_call = refl; reply = rw q refl; left = rw q refl },
          ),
        );
        answer = λ y _. refl;
      }))

  present_sound : (kind : Kind V) (given : Option V) (s : Site C) (v : V) (next_phase : NextPhase C V) → IsPresent always same kind given s v next_phase → HasGift kind given → Knows number a h (key_bytes k) s (Holds v)
      → is_taken (h (number s.at.node)) s.at.version ≡ true → Sound number same always i k kind given h given next_phase a h
  present_sound Get given s v next_phase e g m q = next_phase_at number same always i a h k t w Get given given _ next_phase e
      (answers_now number same always i a h k Get given t w (reply.Get (Some v)) (Some v) (record { call = call.Get k; is_call = refl; reply = refl; left = refl })
      (stands_at number same always i a h k Get given t w (number s.at.node) s.at.version (Holds v) (Sees (key_bytes k) s (Holds v)) m.fresh (λ z. z.child) m.fitted q))
  present_sound Insert given s v next_phase e g m q = added_sound Insert given s s.above v next_phase e refl refl g m (at_leaf number same always i a h k t w s v m q)
  present_sound ComputeInsert given s v next_phase e g m q = added_sound ComputeInsert given s s.above v next_phase e refl refl g m (at_leaf number same always i a h k t w s v m q)
  present_sound ComputePresent given s v next_phase e g m q = asked_sound number same always i a h k t w ComputePresent given s v next_phase e g tt m (at_leaf number same always i a h k t w s v m q)
  present_sound (Exchange old) given s v next_phase e g m q = compared_sound old given s v next_phase e m (at_leaf number same always i a h k t w s v m q)
  present_sound Remove given s v next_phase e g m q =
      let P : Option V → Type 0 = λ o. Sound number same always i k Remove o h o next_phase a h in
      subst P (sym g) (next_phase_at number same always i a h k t w Remove None None _ next_phase e
      (emptied_sound number same always i a h k t w Remove None s v _ refl m (at_leaf number same always i a h k t w s v m q) (record { call = call.Remove k; is_call = refl; reply = refl; left = refl })))

  -- after a check that succeeded a call answers as the map, or knows what its next step wants
  pub checked_sound : (kind : Kind V) (given : Option V) (s : Site C) (c : Child C V) (next_phase : NextPhase C V) → IsChecked always same kind given s c next_phase → HasGift kind given → Knows number a h (key_bytes k) s (hung number c)
      → is_taken (h (number s.at.node)) s.at.version ≡ true → Sound number same always i k kind given h given next_phase a h
  checked_sound kind given s child.Blank next_phase e g m q = next_phase_at number same always i a h k t w kind given given _ next_phase e (absent_sound number same always i a h k t w kind given s g m q)
  checked_sound kind given s (child.Node c) next_phase e g m q = next_phase_at number same always i a h k t w kind given given _ next_phase e
      (down_sound number same always i a h k kind given t w s c g m q (adds kind) s.above m.above)
  checked_sound kind given s (child.Value v) next_phase e g m q = present_sound kind given s v next_phase e g m q

  still_asked : (kind : Kind V) (given given' : Option V) (s : Site C) (v : V) (next_phase : NextPhase C V) → given' ≡ given → IsAsked always s v next_phase → HasGift kind given → Asking kind → Knows number a h (key_bytes k) s (Holds v) → s.depth ≡ 7
      → Sound number same always i k kind given h given' next_phase a h
  still_asked kind given given' s v next_phase z e g ask m d =
      let P : Option V → Type 0 = λ o. Sound number same always i k kind given h o next_phase a h in
      subst P (sym z) (asked_sound number same always i a h k t w kind given s v next_phase e g ask m d)

  -- the closure's answer for a value that stands
  pub given_sound : (kind : Kind V) (given given' : Option V) (answer : Option (Option V)) (s : Site C) (v : V) (next_phase : NextPhase C V) → IsGiven always same kind s v answer given given' next_phase → HasGift kind given → Asking kind
      → Knows number a h (key_bytes k) s (Holds v) → s.depth ≡ 7 → Sound number same always i k kind given h given' next_phase a h
  given_sound ComputeInsert given given' None s v next_phase e g ask m d = still_asked ComputeInsert given given' s v next_phase e.0 e.1 g ask m d
  given_sound ComputeInsert given given' (Some None) s v next_phase e g ask m d = still_asked ComputeInsert given given' s v next_phase e.0 e.1 g ask m d
  given_sound ComputeInsert given given' (Some (Some x)) s v next_phase e g ask m d =
      let P : Option V → Type 0 = λ o. Sound number same always i k ComputeInsert given h o next_phase a h in
      subst P (sym e.0) (next_phase_at number same always i a h k t w ComputeInsert given (Some x) _ next_phase e.1
      (replaced_sound number same always i a h k t w ComputeInsert given x s v _ law tt m d (record { call = call.ComputeInsert k x; is_call = refl; reply = refl; left = refl })))
  given_sound ComputePresent given given' None s v next_phase e g ask m d = still_asked ComputePresent given given' s v next_phase e.0 e.1 g ask m d
  given_sound ComputePresent given given' (Some None) s v next_phase e g ask m d =
      let P : Option V → Type 0 = λ o. Sound number same always i k ComputePresent given h o next_phase a h in
      subst P (sym e.0) (next_phase_at number same always i a h k t w ComputePresent given None _ next_phase e.1
      (emptied_sound number same always i a h k t w ComputePresent given s v _ tt m d (record { call = call.ComputePresent k None; is_call = refl; reply = refl; left = refl })))
  given_sound ComputePresent given given' (Some (Some x)) s v next_phase e g ask m d =
      let P : Option V → Type 0 = λ o. Sound number same always i k ComputePresent given h o next_phase a h in
      subst P (sym e.0) (elim e.1 [
        | inl f ↦ next_phase_at number same always i a h k t w ComputePresent given (Some x) _ next_phase f
            (replaced_sound number same always i a h k t w ComputePresent given x s v _ law tt m d (record { call = call.ComputePresent k (Some x); is_call = refl; reply = refl; left = refl }))
        | inr f ↦ next_phase_at number same always i a h k t w ComputePresent given (Some x) _ next_phase f.1 (record { known = tt; answer = λ y _. refl })
      ])
  given_sound _ given given' answer s v next_phase e g ask m d = absurd ask

  -- and for an absent key
  pub given_new_sound : (kind : Kind V) (given given' : Option V) (answer : Option (Option V)) (plan : Plan C) (next_phase : NextPhase C V) → IsGivenNew plan answer given given' next_phase → PlanKnown number i a h (key_bytes k) plan → kind ≡ ComputeInsert
      → Sound number same always i k kind given h given' next_phase a h
  given_new_sound kind given given' (Some (Some x)) plan next_phase e p z =
      let P : Option V → Type 0 = λ o. Sound number same always i k kind given h o next_phase a h in
      let Q : Kind V → Type 0 = λ y. Sound number same always i k y given h (Some x) next_phase a h in
      subst P (sym e.0) (subst Q (sym z) (next_phase_at number same always i a h k t w ComputeInsert given (Some x) _ next_phase e.1
      (started_sound number same always i a h k t w ComputeInsert given x plan _ tt p (record { call = call.ComputeInsert k x; is_call = refl; reply = refl; left = refl }))))
  given_new_sound kind given given' (Some None) plan next_phase e p z = next_phase_at number same always i a h k t w kind given given' _ next_phase e.1 (record { known = (p, z); answer = λ y _. refl })
  given_new_sound kind given given' None plan next_phase e p z = next_phase_at number same always i a h k t w kind given given' _ next_phase e.1 (record { known = (p, z); answer = λ y _. refl })
