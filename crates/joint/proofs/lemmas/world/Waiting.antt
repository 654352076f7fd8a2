-- The nodes that wait are those that were handed over and those that a call has taken out, each listed once.
use Rattle.std.proofs.Common.{◌≡◌, ◌≢◌, ℕ, ◌+◌, ◌&&◌, not, Bool, true, false, List, length, arith, refl, sym, ◌∙◌, ap, subst, inl, inr}
use Rattle.std.specs.Prelude.{Option, None, Some, IfSome, is_some, slice_get, ◌<◌, zero, suc, [], ◌∷◌, ◌⊎◌, map}
use Rattle.std.specs.List.{All, AllPairs, Contains, flat_map, sum_by}
use Rattle.std.proofs.lemmas.Bool.{false≢true}
use Rattle.std.proofs.lemmas.List.Kept.{AllPairs-cons}
use Rattle.std.proofs.lemmas.List.Elements.{Contains-append_cases, Contains-append_left, Contains-append_right}
use Rattle.congee.specs.declared.protocol.machine.Machine.{Machine}
use Rattle.congee.specs.declared.protocol.phase.Kind.{Kind}
use Rattle.congee.specs.declared.protocol.phase.Phase.{Phase}
use Rattle.congee.specs.declared.protocol.phase.Phase.TheVariants.{Obsolete, Retire}
use Rattle.congee.specs.Heap.{Node, Stands}
use Rattle.congee.specs.Keys.{key_bytes}
use Rattle.congee.specs.Notes.{Note, Status, Unmade, Held, Linked, Gone, Back, Destroyed, is_published, is_spent}
use Rattle.congee.specs.protocol.Handing.{is_handed_over}
use Rattle.congee.specs.protocol.Holdings.{Holdings, IsMade, MadeBy, TakenBy}
use Rattle.congee.specs.protocol.Play.{EachKnown, ProtocolAt, Settled}
use Rattle.congee.specs.protocol.Protocol.{AlsoOut, Known}
use Rattle.congee.proofs.Laws.{IsTaken, made_known, taken_known}
use Rattle.joint.specs.declared.id.Id.{Id}
use Rattle.joint.specs.declared.nodes.slot.Slot.{Slot}
use Rattle.crossbeam_epoch.specs.declared.names.Name.{Name}
use Rattle.crossbeam_epoch.specs.world.Store.{value_at}
use Rattle.congee.specs.forms.Forms.{size_of}
use Rattle.congee.specs.protocol.State.{taken}
use Rattle.joint.specs.declared.engine.in_flight.InFlight.{InFlight}
use Rattle.joint.specs.declared.nodes.counts.Counts.{Counts}
use Rattle.joint.specs.engine.Intact.{IsIntact}
use Rattle.joint.specs.Names.{number}
use Rattle.joint.specs.nodes.CellMarks.{mark_at}
use Rattle.joint.specs.nodes.Nodes.{Nodes, nodes, sizes, IsKept}
use Rattle.std.specs.Option.{option_to_list}
use Rattle.joint.specs.engine.Laws.{CallLaws}
use Rattle.joint.specs.nodes.Listing.{IsListOf, bytes_of, is_standing, standing_nodes, handed_nodes}
use Rattle.joint.specs.engine.Census.{waiting_nodes, taken_by}
use Rattle.joint.specs.nodes.View.{view, id_number}
use Rattle.joint.specs.world.Whereabouts.{IsWaiting, IsTakenBy}
use Rattle.joint.specs.world.World.{Holds}
use Rattle.joint.specs.engine.Engine.{World}
use Rattle.joint.proofs.lemmas.nodes.Listing.{pairs_append, gives, given, once, nodes_once, counted_nodes, weighed_nodes, bytes_are, listed, unlisted}
use Rattle.joint.proofs.lemmas.world.Whereabouts.{gone_waits, node_somewhere}

-- what doesn't stand doesn't wait
pub none_waits : (P : Type 0) (g : Bool) → is_handed_over (view {P = P} g None) ≡ false
none_waits P g = refl

with_true : (b : Bool) → b && (true && not false) ≡ b
with_true true = refl
with_true false = refl

-- a node in a cell waits just where it was handed over
pub some_waits : {P : Type 0} (g : Bool) (v : Slot P) → is_handed_over (view g (Some v)) ≡ v.word.retired
some_waits g v = with_true v.word.retired

none_stands : (P : Type 0) (g : Bool) → is_standing (view {P = P} g None) ≡ false
none_stands P true = refl
none_stands P false = refl

some_stands : {P : Type 0} (g : Bool) (v : Slot P) → is_standing (view g (Some v)) ≡ true
some_stands g v = refl

both : (m d : Bool) → m && not d ≡ true → (m ≡ true) × (d ≡ false)
both true false e = (refl, refl)
both true true e = absurd (cc e)
both false d e = absurd (cc e)

of_both : (m d : Bool) → m ≡ true → d ≡ false → m && not d ≡ true
of_both true false a b = refl
of_both true true a b = absurd (cc b)
of_both false d a b = absurd (cc a)

-- the list of the nodes that stand has each of them once, and no other
pub standing_listed : {V : Type 0} (F : Nodes V) → IsListOf (λ n. Stands (nodes F n)) (standing_nodes F)
standing_listed {V} F = record {
  once = nodes_once is_standing (λ v. true) (none_stands V) some_stands F;
  those = λ n. (
    λ c. (let x = both (nodes F n).made (nodes F n).destroyed (unlisted is_standing (λ v. true) (none_stands V) some_stands F n c) in record { made = x.0; kept = x.1 }),
    λ x. listed is_standing (λ v. true) (none_stands V) some_stands F n (of_both (nodes F n).made (nodes F n).destroyed x.made x.kept),
  );
}

-- as many as are counted in the cells, and as many bytes
module _ {P : Type 0} (F : Nodes P) (k : Counts) (kept : IsKept k F) where
  -- the charge is the base and the bytes of the nodes that stand
  pub standing_weight : F.charge ≡ F.base + sum_by (bytes_of F) (standing_nodes F)
  standing_weight =
      let c : F.charge ≡ F.base + sizes F.collector.store = kept.charged in
      let w : sum_by (bytes_of F) (standing_nodes F) ≡ sizes F.collector.store = weighed_nodes is_standing (λ v. true) (none_stands P) some_stands F kept.used in
      omega (arith, c, w)

  -- so many nodes are counted as waiting as stand and were handed over
  pub handed_count : k.waiting ≡ length (handed_nodes F)
  handed_count = kept.count_is ∙ sym (counted_nodes is_handed_over (λ v. v.word.retired) (none_waits P) some_waits F kept.used)

  -- so many bytes are counted as waiting as these have
  pub handed_weight : k.waiting_bytes ≡ sum_by (bytes_of F) (handed_nodes F)
  handed_weight = kept.bytes_is ∙ sym (weighed_nodes is_handed_over (λ v. v.word.retired) (none_waits P) some_waits F kept.used)

  -- a cell's mark tells what is charged
  pub marked_bytes : (n : Name) → is_some (value_at F.collector.store n) ≡ true → size_of (mark_at k.cell_marks.items n.cell).form ≡ bytes_of F (number n)
  marked_bytes n e = go (value_at F.collector.store n) refl e
    where
      go : (o : Option (Slot P)) → value_at F.collector.store n ≡ o → is_some o ≡ true → size_of (mark_at k.cell_marks.items n.cell).form ≡ bytes_of F (number n)
      go None q t = absurd (cc t)
      go (Some v) q t = sym (kept.marks_are n v q).size_is ∙ sym (bytes_are F n v q)

-- what waits was handed over, and stands
parts_of : (r m d : Bool) → r && (m && not d) ≡ true → (r ≡ true) × (m ≡ true) × (d ≡ false)
parts_of true true false e = (refl, refl, refl)
parts_of true true true e = absurd (cc e)
parts_of true false d e = absurd (cc e)
parts_of false m d e = absurd (cc e)

joined : (r m d : Bool) → r ≡ true → m ≡ true → d ≡ false → r && (m && not d) ≡ true
joined true true false a b c = refl
joined true true true a b c = absurd (cc c)
joined true false d a b c = absurd (cc b)
joined false m d a b c = absurd (cc a)

-- a node, and another one where there is one, as a list
listed_out : (m : Id) (next : Option Id) (n : ℕ) → Contains (map id_number (m ∷ option_to_list next)) n → (n ≡ id_number m) ⊎ IsMade id_number next n
listed_out m None n (zero, l, e) = inl (sym e)
listed_out m None n (suc k, l, e) = absurd (let z : suc k < 1 = l in omega (arith, z))
listed_out m (Some c) n (zero, l, e) = inl (sym e)
listed_out m (Some c) n (suc zero, l, e) = inr (sym e)
listed_out m (Some c) n (suc (suc k), l, e) = absurd (let z : suc (suc k) < 2 = l in omega (arith, z))

out_listed : (m : Id) (next : Option Id) (n : ℕ) → (n ≡ id_number m) ⊎ IsMade id_number next n → Contains (map id_number (m ∷ option_to_list next)) n
out_listed m next n (inl e) = (0, (let l : 0 < suc (length (map id_number (option_to_list next))) = omega arith in l), sym e)
out_listed m None n (inr e) = absurd e
out_listed m (Some c) n (inr e) = (1, (let l : 1 < 2 = omega arith in l), sym e)

-- what a call has taken out is what its phase tells
pub taken_is : {V : Type 0} (x : Phase Id V) (n : ℕ) → Contains (map id_number (taken x)) n → TakenBy id_number x n
taken_is (Obsolete m next p r) n c = listed_out m next n c
taken_is (Retire m next p r) n c = listed_out m next n c
taken_is _ n c = absurd (let z : c.0 < 0 = c.1 in omega (arith, z))

-- and all of what it has taken out is told
pub is_taken : {V : Type 0} (x : Phase Id V) (n : ℕ) → TakenBy id_number x n → Contains (map id_number (taken x)) n
is_taken (Obsolete m next p r) n t = out_listed m next n t
is_taken (Retire m next p r) n t = out_listed m next n t
is_taken _ n t = absurd t

-- a call has taken out the one, and the other where there is one, that it tells
pub told_taken : {V : Type 0} (x : Phase Id V) (m : Id) (next : Option Id) → taken x ≡ m ∷ option_to_list next → (n : ℕ) → (n ≡ id_number m) ⊎ IsMade id_number next n → TakenBy id_number x n
told_taken x m next e n t = let P : List Id → Type 0 = λ ts. Contains (map id_number ts) n in taken_is x n (subst P (sym e) (out_listed m next n t))

-- each once
lone : (x : ℕ) → AllPairs (λ m n. m ≢ n) (x ∷ [])
lone x i j d l m = absurd (let z : j < 1 = m in omega (arith, l, z))

beside : (x y : ℕ) → (y ≢ x) → All (λ n. x ≢ n) (y ∷ [])
beside x y ne zero d l e = ne (sym e)
beside x y ne (suc k) d l e = absurd (let z : suc k < 1 = l in omega (arith, z))

out_once : {V : Type 0} (i : ℕ) (a : ℕ → Note) (h : ℕ → Node V) (m : Id) (next : Option Id) → AlsoOut id_number i a h (id_number m) next → AllPairs (λ m n. m ≢ n) (map id_number (m ∷ option_to_list next))
out_once i a h m None x = lone (id_number m)
out_once i a h m (Some c) x = AllPairs-cons (λ m n. m ≢ n) (id_number m) (id_number c ∷ []) (beside (id_number m) (id_number c) x.3) (lone (id_number c))

phase_once : {V : Type 0} (same : V → V → Bool) (always : Bool) (i : ℕ) (a : ℕ → Note) (h : ℕ → Node V) (k : ℕ) (kind : Kind V) (given : Option V) (x : Phase Id V) → Known id_number same always i a h k (key_bytes k) kind given x → AllPairs (λ m n. m ≢ n) (map id_number (taken x))
phase_once same always i a h k kind given (Obsolete m next p r) x = out_once i a h m next x.1
phase_once same always i a h k kind given (Retire m next p r) x = out_once i a h m next x.1
phase_once same always i a h k kind given _ x = λ i j d l m. absurd (let z : j < 0 = m in omega (arith, z))

module _ {V : Type 0} (same : V → V → Bool) (always : Bool) (s : Nodes V) (ms : List (Machine Id V)) (calls : List (InFlight V)) (intact : IsIntact same always s ms calls) where
  -- what a call has taken out stands
  pub taken_stands : (i : ℕ) (m : Machine Id V) (n : ℕ) → slice_get ms i ≡ Some m → TakenBy id_number m.phase n → Stands (nodes s n)
  taken_stands i m n at t =
      let settled : Settled id_number same always (nodes s) ms = intact.safe.sound.sound.settled in
      let k : EachKnown id_number same always settled.0 (nodes s) i m = settled.1.each i m at in
      let x : IsTaken i settled.0 (nodes s) n = taken_known id_number same always i settled.0 (nodes s) m.key (key_bytes m.key) m.kind m.given n m.phase k.known t in
      (settled.1.words.each n).stands (ap is_published x.gone)

  -- and so does another one beside it
  pub both_stand : (i : ℕ) (m : Machine Id V) (n : Id) (next : Option Id) → slice_get ms i ≡ Some m → ((k : ℕ) → (k ≡ id_number n) ⊎ IsMade id_number next k → TakenBy id_number m.phase k) → Stands (nodes s (id_number n)) × IfSome next (λ c. Stands (nodes s (id_number c)))
  both_stand i m n None at t = (taken_stands i m (id_number n) at (t (id_number n) (inl refl)), tt)
  both_stand i m n (Some c) at t = (taken_stands i m (id_number n) at (t (id_number n) (inl refl)), taken_stands i m (id_number c) at (t (id_number c) (inr refl)))

module _ {V : Type 0} (same : V → V → Bool) (always : Bool) (laws : CallLaws {C = Id} {V = V} id_number same always) (s : World V) (holds : Holds same always s) where
  abbrev settled : Settled id_number same always (nodes s.forest) s.machines
  settled = holds.0.safe.sound.sound.settled

  abbrev notes : ℕ → Note
  notes = settled.0

  protocol : ProtocolAt id_number same always notes (nodes s.forest) s.machines
  protocol = settled.1

  holdings : Holdings id_number notes (nodes s.forest) s.machines
  holdings = settled.2

  known : (i : ℕ) (m : Machine Id V) → slice_get s.machines i ≡ Some m → EachKnown id_number same always notes (nodes s.forest) i m
  known i m at = protocol.each i m at

  -- a node that was handed over and stands
  marked_waits : (n : ℕ) (x : Status) → (notes n).status ≡ x → ((nodes s.forest n).retired ≡ true) × ((nodes s.forest n).made ≡ true) × ((nodes s.forest n).destroyed ≡ false) → IsWaiting s n
  marked_waits n Unmade e w = absurd (let q : false ≡ true = sym (holdings.unmade n e) ∙ w.1 in false≢true q)
  marked_waits n (Held i) e w = absurd (
      let h : (m : Machine Id V) × (slice_get s.machines i ≡ Some m) × MadeBy id_number m.phase n = holdings.held n i e in
      let k = known i h.0 h.1 in
      let free : (nodes s.forest n).retired ≡ false = (made_known id_number same always i notes (nodes s.forest) h.0.key (key_bytes h.0.key) h.0.kind h.0.given n h.0.phase k.known h.2).2.unretired in
      let q : false ≡ true = sym free ∙ w.0 in false≢true q)
  marked_waits n Linked e w = absurd (let q : false ≡ true = sym ((protocol.words.each n).unretired e) ∙ w.0 in false≢true q)
  marked_waits n Gone e w = gone_waits same always laws s holds n w.1 e (record { made = w.1; kept = w.2 })
  marked_waits n Back e w = absurd (let q : false ≡ true = sym w.2 ∙ holdings.spent n (ap is_spent e) in false≢true q)
  marked_waits n Destroyed e w = absurd (let q : false ≡ true = sym w.2 ∙ holdings.spent n (ap is_spent e) in false≢true q)

  -- a node that was handed over and stands waits
  pub handed_waits : (n : ℕ) → is_handed_over (nodes s.forest n) ≡ true → IsWaiting s n
  handed_waits n w = marked_waits n (notes n).status refl (parts_of (nodes s.forest n).retired (nodes s.forest n).made (nodes s.forest n).destroyed w)

  -- one that a call has taken out
  out_of : (n i : ℕ) → (t : IsTakenBy s i n) → IsTaken i notes (nodes s.forest) n
  out_of n i t = taken_known id_number same always i notes (nodes s.forest) t.0.key (key_bytes t.0.key) t.0.kind t.0.given n t.0.phase (known i t.0 t.1).known t.2

  taken_waits : (n i : ℕ) → IsTakenBy s i n → IsWaiting s n
  taken_waits n i t =
      let x : IsTaken i notes (nodes s.forest) n = out_of n i t in
      let st : Stands (nodes s.forest n) = (protocol.words.each n).stands (ap is_published x.gone) in
      gone_waits same always laws s holds n st.made x.gone st

  by_machine : (n : ℕ) → Contains (flat_map taken_by s.machines) n → (i : ℕ) × IsTakenBy s i n
  by_machine n c =
      let w = given taken_by s.machines n c in
      (w.0, (w.1, w.2, taken_is w.1.phase n w.3))

  -- the list of the nodes that wait has each of them once, and no other
  pub waiting_listed : IsListOf (IsWaiting s) (waiting_nodes s)
  waiting_listed = record {
    once = pairs_append (λ m n. m ≢ n) (handed_nodes s.forest) (flat_map taken_by s.machines) (nodes_once is_handed_over (λ v. v.word.retired) (none_waits V) some_waits s.forest)
        (once taken_by s.machines (λ i j m k n a b p q.
        let x = out_of n i (m, a, taken_is m.phase n p) in
        let y = out_of n j (k, b, taken_is k.phase n q) in
        let e : Some i ≡ Some j = sym x.owner ∙ y.owner in cc)
        (λ i m a. phase_once same always i notes (nodes s.forest) m.key m.kind m.given m.phase (known i m a).known))
        (λ x y m n e.
        let r = parts_of (nodes s.forest x).retired (nodes s.forest x).made (nodes s.forest x).destroyed (unlisted is_handed_over (λ v. v.word.retired) (none_waits V) some_waits s.forest x m) in
        let t : (i : ℕ) × IsTakenBy s i y = by_machine y n in
        let free : (nodes s.forest y).retired ≡ false = (out_of y t.0 t.1).unretired in
        let q : false ≡ true = sym free ∙ ap (λ k. (nodes s.forest k).retired) (sym e) ∙ r.0 in false≢true q);
    those = λ n. (
      λ c. elim (Contains-append_cases (handed_nodes s.forest) (flat_map taken_by s.machines) n c) [
        | inl x ↦ handed_waits n (unlisted is_handed_over (λ v. v.word.retired) (none_waits V) some_waits s.forest n x)
        | inr x ↦ (let t : (i : ℕ) × IsTakenBy s i n = by_machine n x in taken_waits n t.0 t.1)
      ],
      λ w. elim ((node_somewhere same always laws s holds n w.stands.made).handed w) [
        | inl r ↦ Contains-append_left (handed_nodes s.forest) (flat_map taken_by s.machines) n (listed is_handed_over (λ v. v.word.retired) (none_waits V) some_waits s.forest n (joined _ _ _ r w.stands.made w.stands.kept))
        | inr t ↦ Contains-append_right (handed_nodes s.forest) (flat_map taken_by s.machines) n (gives taken_by s.machines t.0 t.1.0 n t.1.1 (is_taken t.1.0.phase n t.1.2))
      ],
    );
  }
