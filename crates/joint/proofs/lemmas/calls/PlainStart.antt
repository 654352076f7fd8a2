-- An index as it opens agrees with the plain run's first state.
use Rattle.std.proofs.Common.{◌≡◌, ℕ, zero, suc, false, [], ◌∷◌, refl, sym, ◌∙◌, ap, subst, inl, inr}
use Rattle.std.specs.Prelude.{Some, slice_get}
use Rattle.std.proofs.lemmas.Bool.{cases_eq}
use Rattle.congee.specs.declared.forms.base_node.NodeType.TheVariants.{N256}
use Rattle.congee.specs.Heap.{Hung, Nothing}
use Rattle.congee.specs.protocol.Alike.{Ordered, HungAlike, NodeAlike, HeapAlike}
use Rattle.congee.specs.protocol.PlainSteps.{new_node}
use Rattle.joint.specs.declared.engine.in_flight.InFlight.{InFlight}
use Rattle.joint.specs.declared.limits.Limits.{Limits}
use Rattle.joint.specs.nodes.Nodes.{nodes}
use Rattle.joint.specs.nodes.Opening.{IsOpened}
use Rattle.joint.specs.calls.Plain.{opened_plain, InPlain, Agree}
use Rattle.joint.specs.engine.Engine.{IsFresh, World}

only_root : (n c : ℕ) → slice_get (0 ∷ []) n ≡ Some c → (n ≡ 0) × (0 ≡ c)
only_root zero c e = (refl, cc)
only_root (suc n) c e = absurd cc

module _ {V : Type 0} (limits : Limits) (charge limit : ℕ) (s : World V) (opened : IsOpened limits charge limit s.forest) (fresh : IsFresh s) where
  root_alike : NodeAlike (0 ∷ []) (nodes s.forest 0) (new_node N256 [])
  root_alike = record {
    stands = record { made = refl; kept = refl };
    prefix = sym opened.fresh.alone.empty;
    count = sym opened.bare.childless;
    capacity = sym opened.fresh.alone.wide;
    version = sym opened.bare.first;
    locked = sym opened.fresh.unlocked;
    obsolete = sym opened.bare.live;
    retired = sym opened.fresh.alone.unretired;
    children = λ b. (let P : Hung V → Type 0 = λ w. HungAlike (0 ∷ []) w Nothing in subst P (sym (opened.fresh.alone.bare b)) refl);
  }

  heap_alike : HeapAlike (0 ∷ []) (nodes s.forest) opened_plain.heap
  heap_alike n c e st =
      let q : (n ≡ 0) × (0 ≡ c) = only_root n c e in
      let P : ℕ → Type 0 = λ z. NodeAlike (0 ∷ []) (nodes s.forest c) (opened_plain.heap z) in
      let Q : ℕ → Type 0 = λ z. NodeAlike (0 ∷ []) (nodes s.forest z) (new_node N256 []) in
      subst P (sym q.0) (subst Q q.1 root_alike)

  ordered : Ordered (0 ∷ []) (nodes s.forest)
  ordered = record {
    made = λ n c e. ap (λ z. (nodes s.forest z).made) (sym (only_root n c e).1) ∙ opened.fresh.alone.stands.made;
    each = λ c e. elim (cases_eq c 0) [
      | inl q ↦ (0, ap Some (sym q))
      | inr ne ↦ absurd (let z : (nodes s.forest c).made ≡ false = opened.fresh.others c ne in cc)
    ];
    once = λ m n c e f. (only_root m c e).0 ∙ sym (only_root n c f).0;
  }

  -- an index as it opens agrees with the plain state in which the root alone was made
  pub opens_plain : Agree s (0 ∷ []) opened_plain
  opens_plain = record {
    ordered = ordered;
    root = refl;
    made = refl;
    heap = heap_alike;
    calls = λ i k m a b. (let P : InFlight V → Type 0 = λ z. InPlain (0 ∷ []) (nodes s.forest) z m (opened_plain.calls i) in subst P (sym (fresh.idle i k a)) tt);
  }
