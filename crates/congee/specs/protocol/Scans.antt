-- What a scan of a tree answers that others change meanwhile, by the maps that stood during it.
use Rattle.std.specs.Prelude.{◌≡◌, ℕ, ◌<◌, ◌≤◌, ◌⊎◌, zero, suc, List, [], ◌∷◌, length, IsSome, None, Some}
use Rattle.std.specs.Ordering.{nat_cmp}
use Rattle.std.specs.FinMap.{FinMap, get}
use Rattle.congee.specs.forms.Places.{AllKeys, Rises}

-- the key is one of the pairs'
abbrev pub HasKey : {V : Type 0} → List (ℕ × V) → ℕ → Type 0
HasKey [] k = ⊥
HasKey ((q, v) ∷ found) k = (q ≡ k) ⊎ HasKey found k

-- one of the maps has the pair
abbrev pub Stood : {V : Type 0} → List (FinMap nat_cmp V) → ℕ → V → Type 0
Stood [] k v = ⊥
Stood (m ∷ states) k v = (get m k ≡ Some v) ⊎ Stood states k v

-- each pair stands in one of the maps
abbrev pub AllStood : {V : Type 0} → List (FinMap nat_cmp V) → List (ℕ × V) → Type 0
AllStood states [] = Unit {0}
AllStood states ((k, v) ∷ found) = Stood states k v × AllStood states found

-- one of the maps lacks the key
abbrev pub Lacked : {V : Type 0} → List (FinMap nat_cmp V) → ℕ → Type 0
Lacked [] k = ⊥
Lacked (m ∷ states) k = (get m k ≡ None) ⊎ Lacked states k

-- each of the maps has the key, with whatever value
abbrev pub Throughout : {V : Type 0} → List (FinMap nat_cmp V) → ℕ → Type 0
Throughout [] k = Unit {0}
Throughout (m ∷ states) k = IsSome (get m k) × Throughout states k

-- the pairs that a scan of start <= k < end into so many places found, by the maps that stood from its begin to its
-- end: they rise, they are as many as the places at most, each has a key of the range and stood at some state, and each
-- key of the range that stood throughout is among them, or they are as many as the places, with smaller keys
pub record IsScan {V : Type 0} (start end size : ℕ) (states : List (FinMap nat_cmp V)) (found : List (ℕ × V)) : Type 0 where
  pub rises : Rises found
  pub few : length found ≤ size
  pub within : AllKeys (λ k. (start ≤ k) × (k < end)) found
  pub stood : AllStood states found
  pub complete : (k : ℕ) → start ≤ k → k < end → Throughout states k → HasKey found k ⊎ ((length found ≡ size) × AllKeys (λ q. q < k) found)

-- a scan under way, which has settled the keys below a number: those that it found are below it, and each other key of
-- the range below it was lacking in one of the maps
pub record ScannedTo {V : Type 0} (start end size upto : ℕ) (states : List (FinMap nat_cmp V)) (found : List (ℕ × V)) : Type 0 where
  pub rises : Rises found
  pub few : length found ≤ size
  pub within : AllKeys (λ k. (start ≤ k) × (k < end)) found
  pub below : AllKeys (λ k. k < upto) found
  pub stood : AllStood states found
  pub settled : (k : ℕ) → start ≤ k → k < end → k < upto → HasKey found k ⊎ Lacked states k

-- what a caller has of the places: each pair that is told is written to its place
abbrev pub written : {V : Type 0} → List (ℕ × V) → ℕ → ℕ × V → List (ℕ × V)
written [] place p = p ∷ []
written (x ∷ xs) zero p = p ∷ xs
written (x ∷ xs) (suc place) p = x ∷ written xs place p
