-- Each step of a call answers as the map, and leaves the call what its next phase says that it knows: the steps
-- that change no node.
use Rattle.std.proofs.Common.{◌≡◌, ℕ, Bool, true, false, cond, refl, sym, ap, subst, arith}
use Rattle.std.specs.Prelude.{Option, None, Some}
use Rattle.judge.specs.declared.journal.Call.TheVariants as call
use Rattle.judge.specs.declared.journal.Reply.{Reply}
use Rattle.congee.specs.declared.protocol.store.Reading.{Reading}
use Rattle.congee.specs.declared.protocol.store.Reading.TheVariants.{Differs, Fits, Uncopied}
use Rattle.congee.specs.declared.protocol.store.Stamp.{Stamp}
use Rattle.congee.specs.declared.protocol.store.Seen.{Seen}
use Rattle.congee.specs.declared.protocol.phase.Kind.{Kind}
use Rattle.congee.specs.declared.protocol.phase.Kind.TheVariants.{Get, Insert, Remove, ComputePresent, ComputeInsert, Exchange}
use Rattle.congee.specs.declared.protocol.phase.Parent.{Parent}
use Rattle.congee.specs.declared.protocol.phase.Above.{Above as Over}
use Rattle.congee.specs.declared.forms.base_node.NodeType.{NodeType}
use Rattle.congee.specs.declared.protocol.phase.Site.{Site}
use Rattle.congee.specs.declared.protocol.phase.Phase.{Phase}
use Rattle.congee.specs.declared.protocol.phase.Phase.TheVariants.{Version, Read, CheckUncopied, CheckMiss, CheckDown}
use Rattle.congee.specs.declared.protocol.next_phase.NextPhase.{NextPhase}
use Rattle.congee.specs.Heap.{Node, Hung, Below, fits, child_for, of_child, walk, value_at, is_taken}
use Rattle.congee.specs.protocol.Events.{hung, Parts, ReadGives, SeenTruly}
use Rattle.congee.specs.protocol.Steps.{quiet, again, answered, adds, absent_reply, near_of, here_of, below, after_version, after_read, down}
use Rattle.congee.specs.Keys.{key_bytes}
use Rattle.congee.specs.Notes.{Note, Linked, is_published, Tree, LockWords}
use Rattle.congee.specs.protocol.Protocol.{Stamped, Fresh, ChildOf, IsFar, IsAbove, Knows, HasGift, Settles, Known, Effect}
use Rattle.congee.specs.protocol.Answers.{StepAnswers}
use Rattle.congee.proofs.lemmas.Tree.{value_at_linked, value_at_unfit}
use Rattle.congee.proofs.lemmas.protocol.Parting.{parts_differ}
use Rattle.congee.proofs.lemmas.protocol.Touch.{taken_linked, as_it_was, touched_effect}

-- what a step leaves the call
pub record Sound {C V : Type 0} (number : C → ℕ) (same : V → V → Bool) (always : Bool) (i k : ℕ) (kind : Kind V) (given : Option V) (h : ℕ → Node V)
    (given' : Option V) (t : NextPhase C V) (a' : ℕ → Note) (h' : ℕ → Node V) : Type 0 where
  pub known : Known number same always i a' h' k (key_bytes k) kind given' t.phase
  pub answer : StepAnswers same k kind given h t h'

-- a step that changes nothing has its effect
pub same_effect : {V : Type 0} (i : ℕ) (a : ℕ → Note) (h : ℕ → Node V) → Tree a h → LockWords a h → Effect i a h a h
same_effect i a h t w = touched_effect i a h a h w t refl (λ n. as_it_was refl refl)

-- what follows from what is true of a node as long as its word is the one taken is so too
pub fresh_map : {V : Type 0} (a : ℕ → Note) (h : ℕ → Node V) (n v : ℕ) (Q R : Node V → Type 0) → (Q (h n) → R (h n)) → Fresh a h n v Q → Fresh a h n v R
fresh_map a h n v Q R f s = record { stamped = s.stamped; holds = λ q. f (s.holds q) }

-- a key found absent, by a call that puts no value there
pub settle_absent : {V : Type 0} (same : V → V → Bool) (k : ℕ) (kind : Kind V) (given : Option V) → adds kind ≡ false → Settles same k kind given None (absent_reply kind) None
settle_absent same k Get given e = record { call = call.Get k; is_call = refl; reply = refl; left = refl }
settle_absent same k Insert given e = absurd cc
settle_absent same k Remove given e = record { call = call.Remove k; is_call = refl; reply = refl; left = refl }
settle_absent same k ComputePresent given e = record { call = call.ComputePresent k None; is_call = refl; reply = refl; left = refl }
settle_absent same k ComputeInsert given e = absurd cc
settle_absent same k (Exchange old) given e = record { call = call.Exchange k old given; is_call = refl; reply = refl; left = refl }

module _ {C V : Type 0} (number : C → ℕ) (same : V → V → Bool) (always : Bool) (i : ℕ) (a : ℕ → Note) (h : ℕ → Node V) (k : ℕ) (kind : Kind V) (given : Option V)
    (t : Tree a h) (w : LockWords a h) where
  -- the call goes on
  pub quiet_sound : (s : Phase C V) → Known number same always i a h k (key_bytes k) kind given s → Sound number same always i k kind given h given (quiet s) a h
  quiet_sound s m = record { known = m; answer = λ x _. refl }

  -- a call that begins anew at the root knows what its next step wants
  pub begins_anew : (root : C) → number root ≡ 0 → HasGift kind given → Sound number same always i k kind given h given (again root) a h
  begins_anew root e g = quiet_sound (Version None root) (g, e, (let P : ℕ → Type 0 = λ x. is_published (a x).status ≡ true in subst P (sym e) (ap is_published t.root)))

  -- it answers and changes nothing
  pub answers_now : (r : Reply V) (found : Option V) → Settles same k kind given found r found → value_at h (key_bytes k) ≡ found → Sound number same always i k kind given h given (answered r) a h
  answers_now r found s e = record { known = tt; answer = (r, refl, record { found = found; after = found; settles = s; before = e; now = e; rest = λ x _ _. refl }) }

  -- a call that took a node's version, or found none, knows what its next step wants
  pub version_sound : (root : C) → number root ≡ 0 → (p : Option (Over C)) (n : C) → HasGift kind given → IsAbove number a h (key_bytes k) p (number n) → is_published (a (number n)).status ≡ true
      → (b : Bool) → Sound number same always i k kind given h given (after_version root p n (cond b (Some (h (number n)).version) None)) a h
  version_sound root e p n g m pu true = quiet_sound (Read p (record { node = n; version = (h (number n)).version })) (g, m, record { published = pu; up = omega arith })
  version_sound root e p n g m pu false = begins_anew root e g

  -- what a read of a node on the key's way saw
  saw : (p : Option (Over C)) (at : Stamp C) → IsAbove number a h (key_bytes k) p (number at.node) → Stamped a h (number at.node) at.version → (depth : ℕ) (form : NodeType) (x : Seen C V) → ReadGives number always (h (number at.node)) at.version (key_bytes k) (Fits depth form x)
      → Knows number a h (key_bytes k) (record { above = p; at = at; depth = depth; byte = x.byte; count = x.count; full = x.full; form = form }) (hung number x.child)
  saw p at m s depth form x q = record {
    above = m;
    fitted = q.0;
    depth = q.1;
    short = q.2;
    byte = rw (← q.1) q.4;
    fresh = record {
      stamped = s;
      holds = λ z. let y : SeenTruly number (h (number at.node)) (key_bytes k) x = q.5 z in
          record { child = sym y.child; count = sym y.count; full = y.full; form = sym q.3; alone = y.alone; room = y.room };
    };
  }

  -- a call that read a node knows what its next step wants
  pub read_sound : (root : C) → number root ≡ 0 → (p : Option (Over C)) (at : Stamp C) → HasGift kind given → IsAbove number a h (key_bytes k) p (number at.node) → Stamped a h (number at.node) at.version
      → (r : Reading C V) → ReadGives number always (h (number at.node)) at.version (key_bytes k) r → Sound number same always i k kind given h given (after_read root p at r) a h
  read_sound root e None at g m s (Differs common byte) q = begins_anew root e g
  read_sound root e (Some p) at g m s (Differs common byte) q = quiet_sound (CheckMiss p.near at common byte) (g, m.0, s, q.0, q.1)
  read_sound root e None at g m s (Fits depth form x) q = quiet_sound _ (g, saw None at m s depth form x q)
  read_sound root e (Some p) at g m s (Fits depth form x) q = quiet_sound _ (g, saw (Some p) at m s depth form x q)
  read_sound root e None at g m s Uncopied q = quiet_sound (CheckUncopied at) (g, s, q.1)
  read_sound root e (Some p) at g m s Uncopied q = quiet_sound (CheckUncopied at) (g, s, q.1)

  -- the value at the key by what was read of a node whose lock word is the one taken
  pub stands_at : (n v : ℕ) (x : Hung V) (Q : Node V → Type 0) → Fresh a h n v Q → (Q (h n) → child_for (h n) (key_bytes k) ≡ x) → fits (h n).prefix (key_bytes k) ≡ true → is_taken (h n) v ≡ true
      → value_at h (key_bytes k) ≡ of_child (λ c. walk h 7 c (key_bytes k)) x
  stands_at n v x Q f c fit q = value_at_linked a h t n (key_bytes k) x (taken_linked a h w n v f.stamped.published q) fit (c (f.holds q))

  -- where the key's way parts within the prefix of a child, no value stands at the key
  pub miss_value : (p : Parent C) (n common : ℕ) → ChildOf number a h (key_bytes k) p n → Parts (h n).prefix (key_bytes k) common → is_taken (h (number p.stamp.node)) p.stamp.version ≡ true → value_at h (key_bytes k) ≡ None
  miss_value p n common c q z = value_at_unfit a h t (number p.stamp.node) n (key_bytes k) (taken_linked a h w (number p.stamp.node) p.stamp.version c.fresh.stamped.published z) c.fitted (c.fresh.holds z).0 (parts_differ (h n).prefix (key_bytes k) common q)

  -- the node at hand as the one above its child
  here_child : (s : Site C) (c : ℕ) → Knows number a h (key_bytes k) s (Below c) → ChildOf number a h (key_bytes k) (here_of s) c
  here_child s c m = record {
    fitted = m.fitted;
    byte = m.byte;
    depth = m.depth;
    short = m.short;
    fresh = fresh_map a h (number s.at.node) s.at.version _ _ (λ z. (z.child, z.count, z.form)) m.fresh;
  }

  far_above : (p : Option (Over C)) (n : ℕ) → IsAbove number a h (key_bytes k) p n → IsFar number a h (key_bytes k) (near_of p) n
  far_above None n m = m
  far_above (Some u) n m = m.0

  -- a child that was read in a node whose lock word is the one taken is in the tree
  pub down_sound : (s : Site C) (c : C) → HasGift kind given → Knows number a h (key_bytes k) s (Below (number c)) → is_taken (h (number s.at.node)) s.at.version ≡ true
      → (b : Bool) (p : Option (Over C)) → IsAbove number a h (key_bytes k) p (number s.at.node) → Sound number same always i k kind given h given (down b s p c) a h
  down_sound s c g m q b p ab =
      let l : (a (number s.at.node)).status ≡ Linked = taken_linked a h w (number s.at.node) s.at.version m.fresh.stamped.published q in
      let ch : child_for (h (number s.at.node)) (key_bytes k) ≡ Below (number c) = (m.fresh.holds q).child in
      let pu : is_published (a (number c)).status ≡ true = ap is_published (t.down (number s.at.node) _ (number c) l ch).linked in
      by_above b p ab pu (here_child s (number c) m, far_above s.above (number s.at.node) m.above)
    where
      by_above : (b : Bool) (p : Option (Over C)) → IsAbove number a h (key_bytes k) p (number s.at.node) → is_published (a (number c)).status ≡ true → IsAbove number a h (key_bytes k) (Some (below s)) (number c)
          → Sound number same always i k kind given h given (down b s p c) a h
      by_above false p ab pu z = quiet_sound (Version (Some (below s)) c) (g, z, pu)
      by_above true None ab pu z = quiet_sound (Version (Some (below s)) c) (g, z, pu)
      by_above true (Some p) ab pu z = quiet_sound (CheckDown p.near.stamp (below s) c) (g, ab.0.fresh.stamped, z, pu)
