-- What a call knows after it made a node.
use Rattle.std.proofs.Common.{◌≡◌, ◌≢◌, ℕ, suc, ◌-◌, ◌<◌, ◌≤◌, Bool, true, false, List, length, get_or, refl, sym, ◌∙◌, ap, subst, arith}
use Rattle.std.proofs.Math.Dec.{ltb}
use Rattle.std.proofs.lemmas.Bool.Decides.{nat_tests}
use Rattle.std.specs.Prelude.{Option, None, Some, Result, Ok, Err}
use Rattle.congee.specs.declared.forms.base_node.NodeType.{NodeType}
use Rattle.congee.specs.declared.forms.base_node.NodeType.TheVariants.{N4, N16, N48, N256}
use Rattle.judge.specs.declared.journal.Reply.{Reply}
use Rattle.congee.specs.declared.protocol.store.Stamp.{Stamp}
use Rattle.congee.specs.declared.protocol.store.Refusal.{Refusal}
use Rattle.congee.specs.declared.protocol.phase.Kind.{Kind}
use Rattle.congee.specs.declared.protocol.phase.Parent.{Parent}
use Rattle.congee.specs.declared.protocol.phase.Site.{Site}
use Rattle.congee.specs.declared.protocol.phase.Placement.TheVariants.{Set, Link}
use Rattle.congee.specs.declared.protocol.phase.Plan.TheVariants.{Above}
use Rattle.congee.specs.declared.protocol.phase.Phase.TheVariants.{MakeLeaf, MakeGreater, MakeTop, MakeBeside, MakeLesser}
use Rattle.congee.specs.declared.protocol.next_phase.NextPhase.{NextPhase}
use Rattle.congee.specs.Heap.{Node, Hung, Nothing, Holds, fits}
use Rattle.congee.specs.protocol.Events.{NewNode, Parts, places}
use Rattle.congee.specs.protocol.Steps.{shrinks, form_below, both, refused, form_above, greater, MadeLeaf, MadeGreater, MadeTop, MadeBeside, MadeLesser}
use Rattle.congee.specs.Keys.{key_bytes}
use Rattle.congee.specs.Notes.{Note, is_published, Tree, LockWords}
use Rattle.congee.specs.protocol.Protocol.{Stamped, ChildOf, Sees, Knows, Made, FitsHere, Goes, Settles, MadeLeafFor, PlanKnown, Known, Effect}
use Rattle.congee.specs.protocol.Answers.{SameMap, AnswersIf}
use Rattle.congee.proofs.lemmas.protocol.Rely.{knows_kept, child_kept, stamped_kept}
use Rattle.congee.specs.protocol.Names.{names_over}
use Rattle.congee.proofs.lemmas.protocol.Each.{each_any}
use Rattle.congee.proofs.lemmas.protocol.Touch.{by_test}
use Rattle.congee.proofs.lemmas.protocol.Words.{KeepsMap, making, make_still}
use Rattle.congee.proofs.lemmas.protocol.Locks.{Kept, own_rely}
use Rattle.congee.proofs.lemmas.protocol.Makes.{Backed, back_none, back_node, made_new, made_before}
use Rattle.congee.proofs.lemmas.protocol.Sound.{Sound, fresh_map}
use Rattle.congee.proofs.lemmas.protocol.Plans.{ready_sound, unless_full_sound, one_set, left_alone}

-- the form below has a place for each child that is left, and for the one that goes
room_below : (f : NodeType) (n : ℕ) → shrinks f n ≡ true → n ≤ places (form_below f)
room_below N4 n e = absurd cc
room_below _ n e = grind (arith, nat_tests)

room_above : (n : ℕ) → n < 256 → n < places (form_above n)
room_above n l = by_test (λ (f : NodeType). n < places f) (ltb n 4) _ _ (λ q. grind (arith, nat_tests))
    (λ _. by_test (λ (f : NodeType). n < places f) (ltb n 16) _ _ (λ q. grind (arith, nat_tests))
    (λ _. by_test (λ (f : NodeType). n < places f) (ltb n 48) _ _ (λ q. grind (arith, nat_tests)) (λ _. l)))

module _ {C V : Type 0} (number : C → ℕ) (same : V → V → Bool) (always : Bool) (i : ℕ) (a : ℕ → Note) (h : ℕ → Node V) (k : ℕ) (kind : Kind V) (given : Option V) where
  answers_after : (b : Bool) (next_phase : NextPhase C V) (h' h'' : ℕ → Node V) → SameMap h h' → AnswersIf b same k kind given h' next_phase h'' → AnswersIf b same k kind given h next_phase h''
  answers_after true next_phase h' h'' e x = (
    x.0,
    x.1,
    record {
      found = x.2.found;
      after = x.2.after;
      settles = x.2.settles;
      before = sym (e (key_bytes k) refl) ∙ x.2.before;
      now = x.2.now;
      rest = λ y l ne. x.2.rest y l ne ∙ e y l;
    },
  )
  answers_after false next_phase h' h'' e x = λ y l. x y l ∙ e y l

  -- a next phase after a step that left the map
  kept_after : (given' : Option V) (next_phase : NextPhase C V) (a' : ℕ → Note) (h' : ℕ → Node V) → KeepsMap i a h a' h' → Sound number same always i k kind given h' given' next_phase a' h' → Kept number same always i a h k kind given given' next_phase h'
  kept_after given' next_phase a' h' e s = record { notes = a'; effect = e.effect; sound = record { known = s.known; answer = answers_after next_phase.report.decided next_phase h' h' e.map s.answer } }

  -- a next phase by another name keeps notes, tree and knowledge where the next phase does
  pub kept_at : (given' : Option V) (x y : NextPhase C V) (h' : ℕ → Node V) → y ≡ x → Kept number same always i a h k kind given given' x h' → Kept number same always i a h k kind given given' y h'
  kept_at given' x y h' e m = let P : NextPhase C V → Type 0 = λ z. Kept number same always i a h k kind given given' z h' in subst P (sym e) m

  -- a call that is refused once its made nodes went back leaves tree and map as they were
  pub refused_back : (h' : ℕ → Node V) (e : Refusal) → Backed i a h h' → Kept number same always i a h k kind given given (refused e) h'
  refused_back h' e b = record { notes = b.notes; effect = b.still.effect; sound = record { known = tt; answer = b.still.map } }

module _ {C V : Type 0} (number : C → ℕ) (same : V → V → Bool) (always : Bool) (i : ℕ) (a : ℕ → Note) (h : ℕ → Node V) (k : ℕ) (kind : Kind V) (given : Option V)
    (t : Tree a h) (w : LockWords a h) where
  knows_after : (a' : ℕ → Note) (h' : ℕ → Node V) → Effect i a h a' h' → (s : Site C) (x : Hung V) → Knows number a h (key_bytes k) s x → Knows number a' h' (key_bytes k) s x
  knows_after a' h' e s x m = knows_kept number (key_bytes k) (λ _. Unit {0}) (suc i) a h a' h' (own_rely i a h a' h' e) s x (each_any (names_over number s.above)) tt m

  child_after : (a' : ℕ → Note) (h' : ℕ → Node V) → Effect i a h a' h' → (p : Parent C) (n : ℕ) → ChildOf number a h (key_bytes k) p n → ChildOf number a' h' (key_bytes k) p n
  child_after a' h' e p n m = child_kept number (key_bytes k) (λ _. Unit {0}) (suc i) a h a' h' (own_rely i a h a' h' e) p n tt m

  stamped_after : (a' : ℕ → Note) (h' : ℕ → Node V) → Effect i a h a' h' → (n v : ℕ) → Stamped a h n v → Stamped a' h' n v
  stamped_after a' h' e n v m = stamped_kept (λ _. Unit {0}) (suc i) a h a' h' (own_rely i a h a' h' e) n v tt m

  -- once its leaf was made or refused, a call knows what its next step wants
  pub leaf_made : (s : Site C) (next_phase : NextPhase C V) (h' : ℕ → Node V) (r : Result C Refusal) → Known number same always i a h k (key_bytes k) kind given (MakeLeaf s) → MadeLeaf number kind s h (key_bytes k) r h' next_phase
      → Kept number same always i a h k kind given given next_phase h'
  leaf_made s next_phase h' (Err e) m g = kept_at number same always i a h k kind given given _ next_phase h' g.1 (refused_back number same always i a h k kind given h' e (back_none i a h h' t w g.0))
  leaf_made s next_phase h' (Ok c) m g =
      let e : KeepsMap i a h (making a i (number c)) h' = make_still i a h (number c) N4 (key_bytes k) 7 h' t w g.0 in
      let leaf : Made i (making a i (number c)) h' (key_bytes k) (number c) 7 0 = made_new i a h (number c) N4 k 7 0 h' g.0 (omega arith) in
      kept_at number same always i a h k kind given given _ next_phase h' g.1
      (kept_after number same always i a h k kind given given _ (making a i (number c)) h' e
      (unless_full_sound number same always i (making a i (number c)) h' k e.effect.tree e.effect.words kind given s (Some c) (Link c) s.full s.above refl refl m.3 m.4 m.0
      (knows_after _ h' e.effect s Nothing m.1) (m.2, leaf) m.2 leaf))

  greater_known : (a' : ℕ → Note) (h' : ℕ → Node V) (s : Site C) (p : Parent C) (leaf : Option C) (c : C) → ChildOf number a' h' (key_bytes k) p (number s.at.node) → Knows number a' h' (key_bytes k) s Nothing → MadeLeafFor number i a' h' (key_bytes k) s leaf
      → ((d : C) → leaf ≡ Some d → number c ≢ number d) → Made i a' h' (key_bytes k) (number c) s.depth s.count → PlanKnown number i a' h' (key_bytes k) (Above (both p s (greater s leaf c)))
  greater_known a' h' s p None c ep m l ne made = (
    (
      s.count,
      record {
        top = tt;
        above = ep;
        placed = (m.fitted, sym m.depth ∙ l);
        fresh = fresh_map a' h' (number s.at.node) s.at.version (Sees (key_bytes k) s Nothing) _ (λ z. (z.child, z.count)) m.fresh;
        made = (let P : ℕ → Type 0 = λ x. Made i a' h' (key_bytes k) (number c) x s.count in subst P m.depth made);
      },
    ),
    tt,
    refl,
  )
  greater_known a' h' s p (Some leaf) c ep m l ne made = (
    (
      s.count,
      record {
        top = tt;
        above = ep;
        placed = (m.fitted, (let P : ℕ → Type 0 = λ x. x < 7 in subst P m.depth l.0), m.byte);
        fresh = fresh_map a' h' (number s.at.node) s.at.version (Sees (key_bytes k) s Nothing) _ (λ z. (z.child, z.count)) m.fresh;
        made = ((let P : ℕ → Type 0 = λ x. Made i a' h' (key_bytes k) (number c) x s.count in subst P m.depth made), l.1, ne leaf refl);
      },
    ),
    tt,
    refl,
  )

  leaf_before : (c : C) (form : NodeType) (size : ℕ) (h' : ℕ → Node V) (s : Site C) (leaf : Option C) → NewNode h (number c) form (key_bytes k) size h' → MadeLeafFor number i a h (key_bytes k) s leaf
      → MadeLeafFor number i (making a i (number c)) h' (key_bytes k) s leaf
  leaf_before c form size h' s None g l = l
  leaf_before c form size h' s (Some leaf) g l = (l.0, (made_before i a h (number c) form (key_bytes k) size h' g (number leaf) 7 0 l.1).1)

  leaf_other : (c : C) (form : NodeType) (size : ℕ) (h' : ℕ → Node V) (s : Site C) (leaf : Option C) → NewNode h (number c) form (key_bytes k) size h' → MadeLeafFor number i a h (key_bytes k) s leaf
      → (d : C) → leaf ≡ Some d → number c ≢ number d
  leaf_other c form size h' s None g l d e = absurd cc
  leaf_other c form size h' s (Some leaf) g l d e = λ q.
      let z : leaf ≡ d = cc in
      (made_before i a h (number c) form (key_bytes k) size h' g (number leaf) 7 0 l.1).0 (ap number z ∙ sym q)

  -- once its greater node was made or refused, a call knows what its next step wants
  pub greater_made : (s : Site C) (p : Parent C) (leaf : Option C) (next_phase : NextPhase C V) (h' : ℕ → Node V) (r : Result C Refusal) → Known number same always i a h k (key_bytes k) kind given (MakeGreater s p leaf)
      → MadeGreater number kind s p leaf h (key_bytes k) r h' next_phase → Kept number same always i a h k kind given given next_phase h'
  greater_made s p None next_phase h' (Err e) m g = kept_at number same always i a h k kind given given _ next_phase h' g.1 (refused_back number same always i a h k kind given h' e (back_none i a h h' t w g.0))
  greater_made s p (Some leaf) next_phase h' (Err e) m g = kept_at number same always i a h k kind given given _ next_phase h' g.1 (refused_back number same always i a h k kind given h' e (back_node i a h (key_bytes k) (number leaf) 7 0 h' t w m.3.1 g.0))
  greater_made s p leaf next_phase h' (Ok c) m g =
      let e : KeepsMap i a h (making a i (number c)) h' = make_still i a h (number c) (form_above s.count) (key_bytes k) s.depth h' t w g.0 in
      let new : Made i (making a i (number c)) h' (key_bytes k) (number c) s.depth s.count = made_new i a h (number c) (form_above s.count) k s.depth s.count h' g.0 (room_above s.count m.5) in
      kept_at number same always i a h k kind given given _ next_phase h' g.1
      (kept_after number same always i a h k kind given given _ (making a i (number c)) h' e
      (ready_sound number same always i (making a i (number c)) h' k e.effect.tree e.effect.words kind given _ m.4 m.0
      (greater_known _ h' s p leaf c (child_after _ h' e.effect p (number s.at.node) m.2) (knows_after _ h' e.effect s Nothing m.1) (leaf_before c _ s.depth h' s leaf g.0 m.3) (leaf_other c _ s.depth h' s leaf g.0 m.3) new)))

  parts_after : (a' : ℕ → Note) (h' : ℕ → Node V) → Effect i a h a' h' → (n common : ℕ) → is_published (a n).status ≡ true → Parts (h n).prefix (key_bytes k) common → Parts (h' n).prefix (key_bytes k) common
  parts_after a' h' e n common pu q = let P : List ℕ → Type 0 = λ y. Parts y (key_bytes k) common in subst P (sym ((own_rely i a h a' h' e).prefix n tt pu)) q

  byte_after : (a' : ℕ → Note) (h' : ℕ → Node V) → Effect i a h a' h' → (n common byte : ℕ) → is_published (a n).status ≡ true → byte ≡ get_or (h n).prefix common 0 → byte ≡ get_or (h' n).prefix common 0
  byte_after a' h' e n common byte pu q = let P : List ℕ → Type 0 = λ y. byte ≡ get_or y common 0 in subst P (sym ((own_rely i a h a' h' e).prefix n tt pu)) q

  -- once the node where ways part was made or refused, a call knows what its next step wants
  pub top_made : (p : Parent C) (at : Stamp C) (common byte : ℕ) (next_phase : NextPhase C V) (h' : ℕ → Node V) (r : Result C Refusal) → Known number same always i a h k (key_bytes k) kind given (MakeTop p at common byte)
      → MadeTop number p at common byte h (key_bytes k) r h' next_phase → Kept number same always i a h k kind given given next_phase h'
  top_made p at common byte next_phase h' (Err e) m g = kept_at number same always i a h k kind given given _ next_phase h' g.1 (refused_back number same always i a h k kind given h' e (back_none i a h h' t w g.0))
  top_made p at common byte next_phase h' (Ok c) m g =
      let e : KeepsMap i a h (making a i (number c)) h' = make_still i a h (number c) N4 (key_bytes k) common h' t w g.0 in
      kept_at number same always i a h k kind given given _ next_phase h' g.1 (record {
        notes = making a i (number c);
        effect = e.effect;
        sound = record {
          known = (
            m.0,
            child_after _ h' e.effect p (number at.node) m.1,
            stamped_after _ h' e.effect (number at.node) at.version m.2,
            parts_after _ h' e.effect (number at.node) common m.2.published m.3,
            byte_after _ h' e.effect (number at.node) common byte m.2.published m.4,
            m.5,
            made_new i a h (number c) N4 k common 1 h' g.0 (omega arith),
          );
          answer = e.map;
        };
      })

  -- once the leaf beside was made or refused, a call knows what its next step wants
  pub beside_made : (p : Parent C) (at : Stamp C) (common byte : ℕ) (top : C) (next_phase : NextPhase C V) (h' : ℕ → Node V) (r : Result C Refusal) → Known number same always i a h k (key_bytes k) kind given (MakeBeside p at common byte top)
      → MadeBeside number kind p at common byte top h (key_bytes k) r h' next_phase → Kept number same always i a h k kind given given next_phase h'
  beside_made p at common byte top next_phase h' (Err e) m g = kept_at number same always i a h k kind given given _ next_phase h' g.1 (refused_back number same always i a h k kind given h' e (back_node i a h (key_bytes k) (number top) common 1 h' t w m.6 g.0))
  beside_made p at common byte top next_phase h' (Ok c) m g =
      let e : KeepsMap i a h (making a i (number c)) h' = make_still i a h (number c) N4 (key_bytes k) 7 h' t w g.0 in
      let old : (number top ≢ number c) × Made i (making a i (number c)) h' (key_bytes k) (number top) common 1 = made_before i a h (number c) N4 (key_bytes k) 7 h' g.0 (number top) common 1 m.6 in
      let stamp : Stamped (making a i (number c)) h' (number at.node) at.version = stamped_after _ h' e.effect (number at.node) at.version m.2 in
      kept_at number same always i a h k kind given given _ next_phase h' g.1
      (kept_after number same always i a h k kind given given _ (making a i (number c)) h' e
      (ready_sound number same always i (making a i (number c)) h' k e.effect.tree e.effect.words kind given _ m.5 m.0 (
        (
          0,
          record {
            top = tt;
            above = child_after _ h' e.effect p (number at.node) m.1;
            placed = (parts_after _ h' e.effect (number at.node) common m.2.published m.3, byte_after _ h' e.effect (number at.node) common byte m.2.published m.4);
            fresh = record { stamped = stamp; holds = λ _. tt };
            made = (old.1, made_new i a h (number c) N4 k 7 0 h' g.0 (omega arith), old.0);
          },
        ),
        tt,
        refl,
      )))

  at_depth : {a' : ℕ → Note} {h' : ℕ → Node V} {s : Site C} {v : V} → Knows number a' h' (key_bytes k) s (Holds v) → s.depth ≡ 7 → (fits (h' (number s.at.node)).prefix (key_bytes k) ≡ true) × (length (h' (number s.at.node)).prefix ≡ 7)
  at_depth m d = (m.fitted, sym m.depth ∙ d)

  by_count : (n m : ℕ) → n ≡ m → n ≤ suc (m - 1)
  by_count n m e = omega (arith, e)

  less : (f : NodeType) (n : ℕ) → shrinks f n ≡ true → n - 1 < places (form_below f)
  less f n e = omega (arith, room_below f n e, some_place (form_below f))
    where
      some_place : (f : NodeType) → 0 < places f
      some_place N4 = omega arith
      some_place N16 = omega arith
      some_place N48 = omega arith
      some_place N256 = omega arith

  -- the lesser node was made, or the call goes on without it
  pub lesser_made : (s : Site C) (p : Parent C) (top : Option (Parent C)) (r : Reply V) (next_phase : NextPhase C V) (h' : ℕ → Node V) (x : Result C Refusal) → Known number same always i a h k (key_bytes k) kind given (MakeLesser s p top r)
      → MadeLesser number s p top r h (key_bytes k) x h' next_phase → Kept number same always i a h k kind given given next_phase h'
  lesser_made s p None r next_phase h' (Err e) m g =
      let b : Backed i a h h' = back_none i a h h' t w g.0 in
      kept_at number same always i a h k kind given given _ next_phase h' g.1 (record {
        notes = b.notes;
        effect = b.still.effect;
        sound = record {
          known = (
            m.0,
            (
              Holds m.1.0,
              one_set number same always i b.notes h' k b.still.effect.tree b.still.effect.words s m.1.0 (knows_after _ h' b.still.effect s (Holds m.1.0) m.1.1) m.2,
              (let P : Option V → Type 0 = λ o. FitsHere {C = C} Set (Holds m.1.0) o in subst P (sym m.3) (tt, (λ e. cc))),
              (let P : Option V → Type 0 = λ o. Settles same k kind given (Some m.1.0) r o in subst P (sym m.3) m.1.2),
            ),
          );
          answer = b.still.map;
        };
      })
  lesser_made s p (Some top) r next_phase h' (Err e) m g =
      let b : Backed i a h h' = back_none i a h h' t w g.0 in
      kept_at number same always i a h k kind given given _ next_phase h' g.1 (record {
        notes = b.notes;
        effect = b.still.effect;
        sound = record {
          known = (
            m.0,
            (
              Some m.1.0,
              0,
              record {
                top = tt;
                above = child_after _ h' b.still.effect p (number s.at.node) m.4;
                placed = at_depth (knows_after _ h' b.still.effect s (Holds m.1.0) m.1.1) m.2;
                fresh = left_alone number same always i b.notes h' k b.still.effect.tree b.still.effect.words s m.1.0 m.5.1 (knows_after _ h' b.still.effect s (Holds m.1.0) m.1.1);
                made = tt;
              },
              refl,
              (let P : Option V → Type 0 = λ o. Goes (Some m.1.0) o in subst P (sym m.3) tt),
              (let P : Option V → Type 0 = λ o. Settles same k kind given (Some m.1.0) r o in subst P (sym m.3) m.1.2),
            ),
          );
          answer = b.still.map;
        };
      })
  lesser_made s p None r next_phase h' (Ok c) m g =
      let e : KeepsMap i a h (making a i (number c)) h' = make_still i a h (number c) (form_below s.form) (key_bytes k) s.depth h' t w g.0 in
      let s' : Knows number (making a i (number c)) h' (key_bytes k) s (Holds m.1.0) = knows_after _ h' e.effect s (Holds m.1.0) m.1.1 in
      let new : Made i (making a i (number c)) h' (key_bytes k) (number c) s.depth (s.count - 1) = made_new i a h (number c) (form_below s.form) k s.depth (s.count - 1) h' g.0 (less s.form s.count m.5) in
      kept_at number same always i a h k kind given given _ next_phase h' g.1 (record {
        notes = making a i (number c);
        effect = e.effect;
        sound = record {
          known = (
            m.0,
            (
              Some m.1.0,
              s.count - 1,
              record {
                top = tt;
                above = child_after _ h' e.effect p (number s.at.node) m.4;
                placed = at_depth s' m.2;
                fresh = fresh_map _ h' (number s.at.node) s.at.version (Sees (key_bytes k) s (Holds m.1.0)) _ (λ z. (z.child, by_count _ s.count z.count)) s'.fresh;
                made = (let P : ℕ → Type 0 = λ x. Made i (making a i (number c)) h' (key_bytes k) (number c) x (s.count - 1) in subst P s'.depth new);
              },
              refl,
              (let P : Option V → Type 0 = λ o. Goes (Some m.1.0) o in subst P (sym m.3) tt),
              (let P : Option V → Type 0 = λ o. Settles same k kind given (Some m.1.0) r o in subst P (sym m.3) m.1.2),
            ),
          );
          answer = e.map;
        };
      })
  lesser_made s p (Some top) r next_phase h' (Ok c) m g =
      let e : KeepsMap i a h (making a i (number c)) h' = make_still i a h (number c) (form_below p.form) (key_bytes k) p.depth h' t w g.0 in
      let s' : Knows number (making a i (number c)) h' (key_bytes k) s (Holds m.1.0) = knows_after _ h' e.effect s (Holds m.1.0) m.1.1 in
      let new : Made i (making a i (number c)) h' (key_bytes k) (number c) p.depth (p.count - 1) = made_new i a h (number c) (form_below p.form) k p.depth (p.count - 1) h' g.0 (less p.form p.count m.5.3) in
      kept_at number same always i a h k kind given given _ next_phase h' g.1 (record {
        notes = making a i (number c);
        effect = e.effect;
        sound = record {
          known = (
            m.0,
            (
              Some m.1.0,
              p.count - 1,
              record {
                top = tt;
                above = child_after _ h' e.effect p (number s.at.node) m.4;
                placed = at_depth s' m.2;
                fresh = left_alone number same always i _ h' k e.effect.tree e.effect.words s m.1.0 m.5.1 s';
                made = (new, by_count p.count p.count refl);
              },
              (let P : Option V → Type 0 = λ o. Goes (Some m.1.0) o in subst P (sym m.3) tt),
              (let P : Option V → Type 0 = λ o. Settles same k kind given (Some m.1.0) r o in subst P (sym m.3) m.1.2),
            ),
            child_after _ h' e.effect top (number p.stamp.node) m.5.0,
            tt,
            refl,
          );
          answer = e.map;
        };
      })
