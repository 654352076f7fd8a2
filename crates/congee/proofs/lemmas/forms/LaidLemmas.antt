-- A node whose children are other things, each seen by its byte.
use Rattle.std.proofs.Common.{◌≡◌, ℕ, ◌<◌, false, List, refl, sym, ap, subst, ◌∙◌, arith}
use Rattle.std.proofs.lemmas.Bool.Decides.{nat_tests}
use Rattle.std.specs.Prelude.{Option, None, Some, IsSome}
use Rattle.std.specs.Option.{option_map}
use Rattle.std.specs.Ordering.{nat_cmp}
use Rattle.std.specs.FinMap as map
use Rattle.congee.specs.forms.Bytes.{IsFirst}
use Rattle.congee.specs.forms.Forms.{Becomes, capacity_of, children_of, form_of, is_full_of, prefix_of}
use Rattle.congee.specs.forms.Laid.{laid_node}
use Rattle.congee.specs.forms.Mapped.{mapped}
use Rattle.congee.specs.declared.forms.base_node.Node.{Node}
use Rattle.congee.specs.declared.forms.base_node.NodeType.{NodeType}
use Rattle.congee.specs.declared.forms.base_node.NodeType.TheVariants.{N4, N16, N48, N256}
use Rattle.congee.specs.declared.forms.child.Child.{Child}
use Rattle.congee.proofs.lemmas.forms.Full.{full_at}
use Rattle.congee.proofs.lemmas.forms.MappedLemmas.{first_mapped, get_mapped, len_mapped, mapped_empty, mapped_insert, mapped_none, mapped_remove}

-- fewer than a form can have don't fill it
pub less_fills : (t : NodeType) (n : ℕ) → n < capacity_of t → full_at t n ≡ false
less_fills N4 n l = grind (arith, nat_tests, l)
less_fills N16 n l = grind (arith, nat_tests, l)
less_fills N48 n l = grind (arith, nat_tests, l)
less_fills N256 n l = refl

-- a node that was laid has the form, the prefix, the children and the fullness that it was laid with
module _ {P : Type 0} (t : NodeType) (x : List ℕ) (m : map.FinMap nat_cmp (Child ℕ P)) where
  pub form_laid : form_of (laid_node t x m) ≡ t
  form_laid = of t
    where
      of : (t : NodeType) → form_of (laid_node t x m) ≡ t
      of N4 = refl
      of N16 = refl
      of N48 = refl
      of N256 = refl

  pub prefix_laid : prefix_of (laid_node t x m) ≡ x
  prefix_laid = of t
    where
      of : (t : NodeType) → prefix_of (laid_node t x m) ≡ x
      of N4 = refl
      of N16 = refl
      of N48 = refl
      of N256 = refl

  pub children_laid : children_of (laid_node t x m) ≡ m
  children_laid = of t
    where
      of : (t : NodeType) → children_of (laid_node t x m) ≡ m
      of N4 = refl
      of N16 = refl
      of N48 = refl
      of N256 = refl

  pub full_laid : is_full_of (laid_node t x m) ≡ full_at t (map.len m)
  full_laid = of t
    where
      of : (t : NodeType) → is_full_of (laid_node t x m) ≡ full_at t (map.len m)
      of N4 = refl
      of N16 = refl
      of N48 = refl
      of N256 = refl

-- a node by its form, its prefix and the things that its children are seen of
module _ {X P : Type 0} (f : ℕ → X → Child ℕ P) (t : NodeType) (x : List ℕ) (m : map.FinMap nat_cmp X) (n : Node ℕ P) (is : laid_node t x (mapped f m) ≡ n) where
  pub form_at : form_of n ≡ t
  form_at = ap form_of (sym is) ∙ form_laid t x (mapped f m)

  pub prefix_at : prefix_of n ≡ x
  prefix_at = ap prefix_of (sym is) ∙ prefix_laid t x (mapped f m)

  pub children_at : mapped f m ≡ children_of n
  children_at = sym (children_laid t x (mapped f m)) ∙ ap children_of is

  pub len_at : map.len m ≡ map.len (children_of n)
  len_at = sym (len_mapped f m) ∙ ap map.len children_at

  pub full_is : is_full_of n ≡ full_at t (map.len m)
  full_is = ap is_full_of (sym is) ∙ (full_laid t x (mapped f m) ∙ ap (full_at t) (len_mapped f m))

  get_at : (b : ℕ) → map.get (children_of n) b ≡ option_map (f b) (map.get m b)
  get_at b = ap (λ m. map.get m b) (sym children_at) ∙ get_mapped f m b

  pub none_at : (b : ℕ) → map.get m b ≡ None → map.get (children_of n) b ≡ None
  none_at b e = get_at b ∙ ap (option_map (f b)) e

  pub some_at : (b : ℕ) (e : X) → map.get m b ≡ Some e → map.get (children_of n) b ≡ Some (f b e)
  some_at b e h = get_at b ∙ ap (option_map (f b)) h

  pub absent_at : (b : ℕ) → map.get (children_of n) b ≡ None → map.get m b ≡ None
  absent_at b e = mapped_none f m b (ap (λ m. map.get m b) children_at ∙ e)

  pub present_at : (b : ℕ) → IsSome (map.get (children_of n) b) → IsSome (map.get m b)
  present_at b h = of (map.get m b) (subst IsSome (get_at b) h)
    where
      of : (o : Option X) → IsSome (option_map (f b) o) → IsSome o
      of None h = h
      of (Some e) h = refl

  pub first_at : (from b : ℕ) (e : X) → IsFirst m from b e → IsFirst (children_of n) from b (f b e)
  first_at from b e k = subst (λ m. IsFirst m from b (f b e)) children_at (first_mapped f m from b e k)

  -- what it became
  module _ (t' : NodeType) (m' : map.FinMap nat_cmp X) (n' : Node ℕ P) (is' : laid_node t' x (mapped f m') ≡ n') (same : t' ≡ t) where
    became : (k : map.FinMap nat_cmp (Child ℕ P)) → mapped f m' ≡ k → Becomes n n' k
    became k e = record {
      form = ap form_of (sym is') ∙ (form_laid t' x (mapped f m') ∙ (same ∙ sym form_at));
      prefix = ap prefix_of (sym is') ∙ (prefix_laid t' x (mapped f m') ∙ sym prefix_at);
      children = ap children_of (sym is') ∙ (children_laid t' x (mapped f m') ∙ e);
    }

    pub inserted : (b : ℕ) (e : X) (c : Child ℕ P) → f b e ≡ c → m' ≡ map.insert m b e → Becomes n n' (map.insert (children_of n) b c)
    inserted b e c k r =
        became (map.insert (children_of n) b c) (ap (mapped f) r ∙ (mapped_insert f m b e ∙ (ap (λ m. map.insert m b (f b e)) children_at ∙ ap (map.insert (children_of n) b) k)))

    pub removed : (b : ℕ) → m' ≡ map.remove m b → Becomes n n' (map.remove (children_of n) b)
    removed b r = became (map.remove (children_of n) b) (ap (mapped f) r ∙ (mapped_remove f m b ∙ ap (λ m. map.remove m b) children_at))

    pub cleared : m' ≡ map.empty → Becomes n n' map.empty
    cleared r = became map.empty (ap (mapped f) r ∙ mapped_empty f)
