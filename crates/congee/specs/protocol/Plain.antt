-- What hangs in the places of a plain node.
use Rattle.std.specs.Prelude.{◌≡◌, ℕ, List, count_by, Bool, true, false, get_or}
use Rattle.congee.specs.declared.forms.child.Child.{Child}
use Rattle.congee.specs.declared.forms.child.Child.TheVariants.{Blank, Node, Value}
use Rattle.congee.specs.Heap.{Hung}
use Rattle.congee.specs.protocol.Events.{hung, kept}

-- whether something hangs there
abbrev pub is_there : Child ℕ ℕ → Bool
is_there Blank = false
is_there (Node c) = true
is_there (Value v) = true

-- how many children there are
abbrev pub count_of : List (Child ℕ ℕ) → ℕ
count_of children = count_by is_there children

-- what hangs at the byte
abbrev pub child_at : List (Child ℕ ℕ) → ℕ → Hung ℕ
child_at children b = hung (λ n. n) (get_or children b Blank)

-- the same nodes hang at the same bytes, and nothing else does
abbrev pub NamesStay : List (Child ℕ ℕ) → List (Child ℕ ℕ) → Type 0
NamesStay before after = (b : ℕ) → child_at after b ≡ kept (child_at before b)
