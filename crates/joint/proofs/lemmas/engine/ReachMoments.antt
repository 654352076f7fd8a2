-- What is in reach in a state was in reach at a moment of its history.
use Rattle.std.proofs.Common.{List, [], ◌∷◌, inl, inr}
use Rattle.crossbeam_epoch.specs.declared.names.Name.{Name}
use Rattle.crossbeam_epoch.specs.world.Machine.{State}
use Rattle.crossbeam_epoch.specs.world.Reach.{Moment, InReach, WasIn, WasLive, EntersLive, links_of, IsNow}
use Rattle.joint.specs.engine.Laws.{CellLaws}

-- the name is in reach from the roots of a state
abbrev pub Reaches : {T J : Type 0} → (T → List Name) → State T J → Name → Type 0
Reaches names s n = InReach s.roots (links_of names s.store) n

-- what is in reach in the state was in reach at a moment of the history that led to it
pub was_in : {T J : Type 0} {names : T → List Name} → CellLaws J names → (s : State T J) (h : List Moment) → IsNow names h s → (n : Name) → Reaches names s n → WasIn h n
was_in laws s h now n r = laws.visible_was h 0 n (laws.seen_now h s 0 n now r)

-- what was in reach stood
pub entered_live : (h : List Moment) → EntersLive h → (n : Name) → WasIn h n → WasLive h n
entered_live [] e n w = w
entered_live (m ∷ []) e n w = elim w [ inl y ↦ inl (e n y) | inr y ↦ absurd y ]
entered_live (m ∷ b ∷ h) e n w = elim w [
  | inl y ↦ elim (e.0 n y) [ inl l ↦ inl l | inr z ↦ inr (entered_live (b ∷ h) e.1 n (inl z)) ]
  | inr y ↦ inr (entered_live (b ∷ h) e.1 n y)
]
