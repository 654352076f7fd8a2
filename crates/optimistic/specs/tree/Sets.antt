-- What came of a write.
use Rattle.std.specs.Prelude.{◌≡◌, ◌≢◌, ℕ, ◌++◌, ◌⊎◌, true, Option, None}
use Rattle.optimistic.specs.declared.tree.set.Set.{Set}
use Rattle.optimistic.specs.declared.tree.set.Set.TheVariants.{Done, Differs, Again, Full, Taken, Exhausted}
use Rattle.optimistic.specs.declared.tree.write.Condition.{Condition}
use Rattle.optimistic.specs.declared.tree.write.Condition.TheVariants.{Always, Has}
use Rattle.optimistic.specs.declared.tree.write.Write.{Write}
use Rattle.optimistic.specs.declared.words.rule.View.{View}
use Rattle.optimistic.specs.words.Calls.{Keeps, Puts}
use Rattle.optimistic.specs.words.Kept.{has, value_of}
use Rattle.optimistic.specs.tree.Locks.{HasEnded}

-- a write was made, right before which the key had this
abbrev pub Replaces : ℕ → Option ℕ → Option ℕ → View → View → Type 0
Replaces key value old v w = (p : Puts key value v w) × (old ≡ value_of key (v.seen.log ++ p.0))

-- it was made, or else nothing was
abbrev pub IsSet : ℕ → Option ℕ → Set → View → View → Type 0
IsSet key value (Done old) v w = Replaces key value old v w
IsSet key value (Differs x) v w = Keeps v w × (x ≡ value_of key w.seen.log)
IsSet key value Again v w = Keeps v w
IsSet key value Full v w = Keeps v w
IsSet key value Taken v w = Keeps v w
IsSet key value Exhausted v w = Keeps v w × HasEnded w.seen

-- the condition holds of a key that has x
abbrev pub Meets : Condition → Option ℕ → Type 0
Meets Always x = Unit {0}
Meets (Has y) x = y ≡ x

-- a key that has x is to be written
abbrev pub Allows : Write → Option ℕ → Type 0
Allows write x = Meets write.only x × ((write.value ≢ None) ⊎ (x ≢ None))

-- a key is written only where it is to be, and where it isn't, this is told
abbrev pub Minds : Write → Set → Type 0
Minds write (Done old) = Allows write old
Minds write (Differs x) = Allows write x → ⊥
Minds write Again = Unit {0}
Minds write Full = Allows write None
Minds write Taken = Allows write None
Minds write Exhausted = Unit {0}

-- a hand has no node more than before
abbrev pub HasNoMore : View → View → Type 0
HasNoMore v w = (m : ℕ) → has w.mine m ≡ true → has v.mine m ≡ true

-- nor node n, which it may have had
abbrev pub LetsGo : ℕ → View → View → Type 0
LetsGo n v w = (m : ℕ) → has w.mine m ≡ true → (m ≢ n) × (has v.mine m ≡ true)
