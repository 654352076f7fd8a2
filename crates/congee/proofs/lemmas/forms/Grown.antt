-- A form that has grown has room.
use Rattle.std.proofs.Common.{◌≡◌, ℕ, true, false, sym, ap, ◌∙◌, arith, refl}
use Rattle.std.proofs.lemmas.Bool.Decides.{nat_tests}
use Rattle.std.specs.FinMap as map
use Rattle.congee.specs.forms.Forms.{capacity_of, form_of, children_of, next_form, is_full_of}
use Rattle.congee.specs.declared.forms.base_node.Node.{Node}
use Rattle.congee.specs.declared.forms.base_node.NodeType.{NodeType}
use Rattle.congee.specs.declared.forms.base_node.NodeType.TheVariants.{N4, N16, N48, N256}
use Rattle.congee.proofs.lemmas.forms.Full.{full_at, full_is}

grown_full : (f : NodeType) (n : ℕ) → full_at f n ≡ true → full_at (next_form f) n ≡ false
grown_full N4 n e = grind (arith, nat_tests)
grown_full N16 n e = grind (arith, nat_tests)
grown_full N48 n e = refl
grown_full N256 n e = refl

grown_places : (f : NodeType) → capacity_of f ≡ 256 → capacity_of (next_form f) ≡ 256
grown_places N4 e = absurd (omega (arith, e))
grown_places N16 e = absurd (omega (arith, e))
grown_places N48 e = refl
grown_places N256 e = refl

module _ {P : Type 0} where
  -- a node of 256 places keeps them
  pub grown_wide : (x y : Node ℕ P) → form_of y ≡ next_form (form_of x) → capacity_of (form_of x) ≡ 256 → capacity_of (form_of y) ≡ 256
  grown_wide x y f e = ap capacity_of f ∙ grown_places (form_of x) e

  -- a full node's children in the form above leave room
  pub grown_room : (x y : Node ℕ P) → form_of y ≡ next_form (form_of x) → children_of y ≡ children_of x → is_full_of x ≡ true → is_full_of y ≡ false
  grown_room x y f c e =
      full_is y ∙ (ap (λ t. full_at t (map.len (children_of y))) f
      ∙ (ap (λ m. full_at (next_form (form_of x)) (map.len m)) c ∙ grown_full (form_of x) (map.len (children_of x)) (sym (full_is x) ∙ e)))
