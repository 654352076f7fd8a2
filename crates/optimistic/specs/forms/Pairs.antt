-- A node that has two children.
use Rattle.std.specs.Prelude.{◌≡◌, ◌≢◌, ℕ}
use Rattle.optimistic.specs.forms.Children.{first_of, second_of, IsForm, put_first}

-- a node of these words has the children f, x and f', x' at the bytes a and b, and no others
pub record HasTwo (form : ℕ) (w : ℕ → ℕ) (a f x b f' x' : ℕ) : Type 0 where
  pub form_is : IsForm form w
  pub first_there : (key : ℕ) → first_of form w key a ≡ put_first form f key
  pub second_there : (key : ℕ) → second_of form w key a ≡ x
  pub first_here : (key : ℕ) → first_of form w key b ≡ put_first form f' key
  pub second_here : (key : ℕ) → second_of form w key b ≡ x'
  pub none : (key byte : ℕ) → byte ≢ a → byte ≢ b → first_of form w key byte ≡ 0
