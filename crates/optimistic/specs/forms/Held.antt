-- What the places of a node hold: a finite map from bytes to words.
use Rattle.std.specs.Prelude.{◌≡◌, ◌≢◌, ℕ, zero, suc, ◌<◌, ◌⊎◌, cond, eqb, Option, None, Some}
use Rattle.std.specs.Ordering.{nat_cmp}
use Rattle.std.specs.FinMap as map
use Rattle.optimistic.specs.forms.Bytes.{HasNone, IsLowest, with_at}

-- the map of the first n places: each taken one's byte has its word
unfoldable pub held : (key taken word : ℕ → ℕ) → ℕ → map.FinMap nat_cmp ℕ
held key taken word zero = map.empty
held key taken word (suc k) = cond (eqb (taken k) 1) (map.insert (held key taken word k) (key k) (word k)) (held key taken word k)

-- a taken place is the lowest that has its byte
abbrev pub IsNode : (key taken : ℕ → ℕ) → ℕ → Type 0
IsNode key taken n = (i j : ℕ) → j < i → i < n → taken i ≡ 1 → key j ≢ key i

-- what a look-up answers that found this place
abbrev pub answer : (taken word : ℕ → ℕ) → Option ℕ → Option ℕ
answer taken word None = None
answer taken word (Some p) = cond (eqb (taken p) 1) (Some (word p)) None

-- the byte goes to the lowest place that has it, or else to one that isn't taken
abbrev pub IsPlaceFor : (n : ℕ) (key taken : ℕ → ℕ) → ℕ → ℕ → Type 0
IsPlaceFor n key taken b p = (p < n) × (((key p ≡ b) × HasNone p key b) ⊎ (HasNone n key b × (taken p ≢ 1)))

-- f is g, but x at p, as far as place n
abbrev pub IsWith : ℕ → (ℕ → ℕ) → ℕ → ℕ → (ℕ → ℕ) → Type 0
IsWith n f p x g = (q : ℕ) → q < n → g q ≡ with_at f p x q

-- the words of the taken places are those that aren't 0
abbrev pub HasChildren : (n : ℕ) → (taken word : ℕ → ℕ) → Type 0
HasChildren n taken word = (i : ℕ) → i < n → ((taken i ≡ 1) × (word i ≢ 0)) ⊎ ((taken i ≢ 1) × (word i ≡ 0))

-- the map after a byte was put in at its place
pub record IsPut (n : ℕ) (key taken : ℕ → ℕ) (p b : ℕ) (key' taken' : ℕ → ℕ) : Type 0 where
  pub keys : IsWith n key p b key'
  pub takes : IsWith n taken p 1 taken'
  pub node : IsNode key taken n → IsPlaceFor n key taken b p → IsNode key' taken' n
  pub children : (word : ℕ → ℕ) (x : ℕ) → HasChildren n taken word → x ≢ 0 → HasChildren n taken' (with_at word p x)
  pub holds : (word : ℕ → ℕ) (x : ℕ) → IsNode key taken n → IsPlaceFor n key taken b p → held key' taken' (with_at word p x) n ≡ map.insert (held key taken word n) b x

-- the map after the byte of a taken place was taken out; the word there may be any
pub record IsTaken (n : ℕ) (key taken : ℕ → ℕ) (p : ℕ) (key' taken' : ℕ → ℕ) : Type 0 where
  pub keys : (i : ℕ) → i < n → key' i ≡ key i
  pub takes : IsWith n taken p 0 taken'
  pub node : IsNode key taken n → p < n → taken p ≡ 1 → IsNode key' taken' n
  pub children : (word : ℕ → ℕ) → HasChildren n taken word → HasChildren n taken' (with_at word p 0)
  pub holds : (word : ℕ → ℕ) (x : ℕ) → IsNode key taken n → p < n → taken p ≡ 1 → held key' taken' (with_at word p x) n ≡ map.remove (held key taken word n) (key p)

-- what a look-up answers by the words alone, where 0 is none
abbrev pub nonzero : ℕ → Option ℕ
nonzero w = cond (eqb w 0) None (Some w)

abbrev pub answer_by_word : (word : ℕ → ℕ) → Option ℕ → Option ℕ
answer_by_word word None = None
answer_by_word word (Some p) = nonzero (word p)

-- what a look-up finds is what the map has
pub record IsFound (n : ℕ) (key : ℕ → ℕ) (b : ℕ) (r : Option ℕ) : Type 0 where
  pub lowest : IsLowest n key b r
  pub values : (taken word : ℕ → ℕ) → IsNode key taken n → map.get (held key taken word n) b ≡ answer taken word r
  pub children : (taken word : ℕ → ℕ) → IsNode key taken n → HasChildren n taken word → map.get (held key taken word n) b ≡ answer_by_word word r
