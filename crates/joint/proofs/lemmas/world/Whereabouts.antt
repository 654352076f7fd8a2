-- Each node that was made is in one place, by the notes of the calls.
use Rattle.std.proofs.Common.{◌≡◌, ℕ, Bool, true, false, refl, sym, ◌∙◌, ap, inl, inr, ◌⊎◌}
use Rattle.std.specs.Prelude.{Some, slice_get}
use Rattle.std.proofs.lemmas.Bool.{cases_Bool, false≢true}
use Rattle.congee.specs.declared.protocol.machine.Machine.{Machine}
use Rattle.congee.specs.protocol.Handing.{InTree}
use Rattle.congee.specs.Heap.{Stands}
use Rattle.congee.specs.protocol.Holdings.{Holdings, MadeBy}
use Rattle.congee.specs.Notes.{Note, Status, Unmade, Held, Linked, Gone, Back, Destroyed, is_published, is_spent}
use Rattle.congee.specs.protocol.Play.{EachKnown, ProtocolAt, Settled}
use Rattle.joint.specs.declared.id.Id.{Id}
use Rattle.joint.specs.nodes.Nodes.{nodes}
use Rattle.joint.specs.engine.Laws.{CallLaws}
use Rattle.joint.specs.nodes.View.{id_number}
use Rattle.joint.specs.world.Whereabouts.{IsHeld, IsInTree, IsWaiting, IsDestroyed, IsSomewhere, IsTakenBy}
use Rattle.joint.specs.world.World.{Holds}
use Rattle.joint.specs.engine.Engine.{World, IsHeldBy}

module _ {V : Type 0} (same : V → V → Bool) (always : Bool) (laws : CallLaws {C = Id} {V = V} id_number same always) (s : World V) (holds : Holds same always s) (n : ℕ) (made : (nodes s.forest n).made ≡ true) where
  -- locks and nodes are held by calls alone that are between their steps
  abbrev pub settled : Settled id_number same always (nodes s.forest) s.machines
  settled = holds.0.safe.sound.sound.settled

  abbrev notes : ℕ → Note
  notes = settled.0

  abbrev status : Status
  status = (notes n).status

  protocol : ProtocolAt id_number same always notes (nodes s.forest) s.machines
  protocol = settled.1

  holdings : Holdings id_number notes (nodes s.forest) s.machines
  holdings = settled.2

  by_call : (i : ℕ) → IsHeldBy s i n → status ≡ Held i
  by_call i x =
      let k : EachKnown id_number same always notes (nodes s.forest) i x.0 = protocol.each i x.0 x.1 in
      laws.held i notes (nodes s.forest) x.0.key x.0.kind x.0.given n x.0.phase k.known x.2

  linked : IsInTree s n → status ≡ Linked
  linked x = laws.leads notes (nodes s.forest) protocol.tree x.path.0 0 n protocol.tree.root x.path.1

  is_linked : status ≡ Linked → IsInTree s n
  is_linked e = record { path = laws.linked notes (nodes s.forest) n protocol.tree e }

  published : is_published status ≡ true → Stands (nodes s.forest n)
  published e = (protocol.words.each n).stands e

  standing : Stands (nodes s.forest n) → IsDestroyed s n → ⊥
  standing x d = let q : false ≡ true = sym x.kept ∙ d.gone in false≢true q

  -- what left the tree and stands waits
  pub gone_waits : status ≡ Gone → Stands (nodes s.forest n) → IsWaiting s n
  gone_waits e st = record {
    stands = st;
    out = λ path leads. let q : Gone ≡ Linked = sym e ∙ linked (record { path = (path, leads) }) in cc;
    unheld = λ i x. let q : Gone ≡ Held i = sym e ∙ by_call i x in cc;
  }

  -- what stands, by its status
  by_status : (x : Status) → status ≡ x → Stands (nodes s.forest n) → (IsHeld s n ⊎ IsInTree s n) ⊎ IsWaiting s n
  by_status Unmade e st = absurd (let q : false ≡ true = sym (holdings.unmade n e) ∙ made in false≢true q)
  by_status (Held i) e st =
      let h : (m : Machine Id V) × (slice_get s.machines i ≡ Some m) × MadeBy id_number m.phase n = holdings.held n i e in
      inl (inl (record { stands = st; worker = i; held = h }))
  by_status Linked e st = inl (inr (is_linked e))
  by_status Gone e st = inr (gone_waits e st)
  by_status Back e st = absurd (standing st (record { gone = holdings.spent n (ap is_spent e) }))
  by_status Destroyed e st = absurd (standing st (record { gone = holdings.spent n (ap is_spent e) }))

  one : (IsHeld s n ⊎ IsInTree s n) ⊎ (IsWaiting s n ⊎ IsDestroyed s n)
  one = elim (cases_Bool (nodes s.forest n).destroyed) [
    | inl e ↦ inr (inr (record { gone = e }))
    | inr e ↦ elim (by_status status refl (record { made = made; kept = e })) [
      | inl x ↦ inl x
      | inr x ↦ inr (inl x)
    ]
  ]

  -- what waits left the tree
  handed : (x : Status) → status ≡ x → IsWaiting s n → ((nodes s.forest n).retired ≡ true) ⊎ ((i : ℕ) × IsTakenBy s i n)
  handed Unmade e w = absurd (let q : false ≡ true = sym (holdings.unmade n e) ∙ made in false≢true q)
  handed (Held i) e w = absurd (w.unheld i (holdings.held n i e))
  handed Linked e w = absurd (let p : InTree (nodes s.forest) n = (is_linked e).path in w.out p.0 p.1)
  handed Gone e w = elim (holdings.gone n e) [
    | inl r ↦ inl r
    | inr t ↦ inr (t.0, (t.1, t.2, t.3))
  ]
  handed Back e w = absurd (standing w.stands (record { gone = holdings.spent n (ap is_spent e) }))
  handed Destroyed e w = absurd (standing w.stands (record { gone = holdings.spent n (ap is_spent e) }))

  -- the node is in exactly one of the four places
  pub node_somewhere : IsSomewhere s n
  node_somewhere = record {
    one = one;
    held_or_hung = λ h t. let q : Held h.worker ≡ Linked = sym (by_call h.worker h.held) ∙ linked t in cc;
    held_or_waiting = λ h w. w.unheld h.worker h.held;
    held_or_destroyed = λ h d. standing h.stands d;
    hung_or_waiting = λ t w. w.out t.path.0 t.path.1;
    hung_or_destroyed = λ t d. standing (published (ap is_published (linked t))) d;
    waiting_or_destroyed = λ w d. standing w.stands d;
    holder = λ i j x y. let q : Held i ≡ Held j = sym (by_call i x) ∙ by_call j y in cc;
    handed = handed status refl;
  }
