-- The pair next to a key, of a map and of the nodes that stand.
use Rattle.std.specs.Prelude.{◌≡◌, ℕ, suc, ◌+◌, ◌<◌, ◌≤◌, Option, None, Some}
use Rattle.std.specs.FinMap.{FinMap, get}
use Rattle.std.specs.Ordering.{nat_cmp}
use Rattle.judge.specs.Answer.{Pairs}
use Rattle.congee.specs.Heap.{Node}
use Rattle.congee.specs.Keys.{IsMapOf}
use Rattle.congee.specs.owned.Nearest.{IsGreatest, IsLeast}
use Rattle.congee.specs.protocol.Regions.{IsRegion, span}
use Rattle.joint.specs.declared.nodes.nearest.Near.{Near}
use Rattle.joint.specs.declared.nodes.nearest.Near.TheVariants.{From, After, UpTo, Before}

-- the pair that is looked for, if there is one
abbrev pub IsNearest : {V : Type 0} → Pairs V → Near → Option (ℕ × V) → Type 0
IsNearest m (From k) pair = IsLeast m k pair
IsNearest m (After k) pair = IsLeast m (suc k) pair
IsNearest m (UpTo k) pair = IsGreatest m (suc k) pair
IsNearest m (Before k) pair = IsGreatest m k pair

-- no key from both bounds on to before an end has a value
abbrev pub NoneFromBoth : {V : Type 0} → Pairs V → (from base end : ℕ) → Type 0
NoneFromBoth m from base end = (q : ℕ) → from ≤ q → base ≤ q → q < end → get m q ≡ None

-- no key from one on to before both ends has a value
abbrev pub NoneToBoth : {V : Type 0} → Pairs V → (base end to : ℕ) → Type 0
NoneToBoth m base end to = (q : ℕ) → base ≤ q → q < end → q < to → get m q ≡ None

-- the pair of the least key there, if there is one
pub record IsFirstOf {V : Type 0} (m : Pairs V) (from base end k : ℕ) (v : V) : Type 0 where
  pub past : from ≤ k
  pub inside : base ≤ k
  pub below : k < end
  pub here : get m k ≡ Some v
  pub before : NoneFromBoth m from base k

abbrev pub IsFirstFrom : {V : Type 0} → Pairs V → (from base end : ℕ) → Option (ℕ × V) → Type 0
IsFirstFrom m from base end None = NoneFromBoth m from base end
IsFirstFrom m from base end (Some pair) = IsFirstOf m from base end pair.0 pair.1

-- the pair of the greatest key there, if there is one
pub record IsLastOf {V : Type 0} (m : Pairs V) (base end to k : ℕ) (v : V) : Type 0 where
  pub inside : base ≤ k
  pub below : k < end
  pub short : k < to
  pub here : get m k ≡ Some v
  pub after : NoneToBoth m (suc k) end to

abbrev pub IsLastTo : {V : Type 0} → Pairs V → (base end to : ℕ) → Option (ℕ × V) → Type 0
IsLastTo m base end to None = NoneToBoth m base end to
IsLastTo m base end to (Some pair) = IsLastOf m base end to pair.0 pair.1

-- x is the child of b, the greatest byte before `end` that has one
pub record IsFinal {X : Type 0} (m : FinMap nat_cmp X) (end b : ℕ) (x : X) : Type 0 where
  pub below : b < end
  pub here : get m b ≡ Some x
  pub after : (q : ℕ) → b < q → q < end → get m q ≡ None

-- found at and below a node, whose keys are those that its prefix begins: the pair of the least key from one on
pub record FindsFirst {V : Type 0} (h : ℕ → Node V) (n from : ℕ) (found : Option (ℕ × V)) : Type 0 where
  pub base : ℕ
  pub depth : ℕ
  pub region : IsRegion (h n).prefix base depth
  pub first : (m : Pairs V) → IsMapOf h m → IsFirstFrom m from base (base + span depth) found

-- and the pair of the greatest key before one
pub record FindsLast {V : Type 0} (h : ℕ → Node V) (n to : ℕ) (found : Option (ℕ × V)) : Type 0 where
  pub base : ℕ
  pub depth : ℕ
  pub region : IsRegion (h n).prefix base depth
  pub last : (m : Pairs V) → IsMapOf h m → IsLastTo m base (base + span depth) to found
