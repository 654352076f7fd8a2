-- A history without its epochs has the same stretches, deferrals and calls.
use Rattle.std.proofs.Common.{◌≡◌, ℕ, ◌+◌, Bool, true, false, List, [], ◌∷◌, ◌==◌, Option, Some, None, refl, ◌∙◌, ap, inl, inr}
use Rattle.std.specs.Prelude.{if◌then◌else◌, is_some}
use Rattle.crossbeam_epoch.specs.declared.names.Name.{Name}
use Rattle.crossbeam_epoch.specs.world.History.{Mark, Pinned, Repinned, Unpinned, Deferred, Called, began, blocks, times_called, deferrals, IsGraceful, WasDeferred, AreCalledLater}
use Rattle.crossbeam_epoch.specs.world.Log.{untold, undated}

some_by : (b : Bool) (m n : ℕ) (x y : Option ℕ) → is_some x ≡ is_some y → is_some (if b then Some m else x) ≡ is_some (if b then Some n else y)
some_by true m n x y e = refl
some_by false m n x y e = e

none_by : (b : Bool) (x y : Option ℕ) → is_some x ≡ is_some y → is_some (if b then None else x) ≡ is_some (if b then None else y)
none_by true x y e = refl
none_by false x y e = e

-- without its epochs a history has a participant in a stretch exactly where it has it with them
pub undated_began : (h : List Mark) (q : ℕ) → is_some (began (undated h) q) ≡ is_some (began h q)
undated_began [] q = refl
undated_began (Pinned who epoch ∷ h) q = some_by (who == q) untold epoch (began (undated h) q) (began h q) (undated_began h q)
undated_began (Repinned who epoch ∷ h) q = some_by (who == q) untold epoch (began (undated h) q) (began h q) (undated_began h q)
undated_began (Unpinned who ∷ h) q = none_by (who == q) (began (undated h) q) (began h q) (undated_began h q)
undated_began (Deferred ticket name ∷ h) q = undated_began h q
undated_began (Called ticket name ∷ h) q = undated_began h q

-- without its epochs a history has the same participants block a job
undated_blocks : (h : List Mark) (q t : ℕ) → blocks (undated h) q t ≡ blocks h q t
undated_blocks [] q t = refl
undated_blocks (Pinned who epoch ∷ h) q t = ap (λ b. if who == q then false else b) (undated_blocks h q t)
undated_blocks (Repinned who epoch ∷ h) q t = ap (λ b. if who == q then false else b) (undated_blocks h q t)
undated_blocks (Unpinned who ∷ h) q t = ap (λ b. if who == q then false else b) (undated_blocks h q t)
undated_blocks (Deferred ticket name ∷ h) q t = ap (λ a. if ticket == t then a else blocks (undated h) q t) (undated_began h q) ∙ ap (λ b. if ticket == t then is_some (began h q) else b) (undated_blocks h q t)
undated_blocks (Called ticket name ∷ h) q t = undated_blocks h q t

-- a graceful history is so without its epochs
pub undated_graceful : (h : List Mark) → IsGraceful h → IsGraceful (undated h)
undated_graceful [] g = tt
undated_graceful (Pinned who epoch ∷ h) g = undated_graceful h g
undated_graceful (Repinned who epoch ∷ h) g = undated_graceful h g
undated_graceful (Unpinned who ∷ h) g = undated_graceful h g
undated_graceful (Deferred ticket name ∷ h) g = undated_graceful h g
undated_graceful (Called ticket name ∷ h) g = ((λ q. undated_blocks h q ticket ∙ g.0 q), undated_graceful h g.1)

-- without its epochs a history calls each job as often
pub undated_calls : (h : List Mark) (t : ℕ) → times_called (undated h) t ≡ times_called h t
undated_calls [] t = refl
undated_calls (Pinned who epoch ∷ h) t = undated_calls h t
undated_calls (Repinned who epoch ∷ h) t = undated_calls h t
undated_calls (Unpinned who ∷ h) t = undated_calls h t
undated_calls (Deferred ticket name ∷ h) t = undated_calls h t
undated_calls (Called ticket name ∷ h) t = ap (λ n. (if ticket == t then 1 else 0) + n) (undated_calls h t)

-- without its epochs a history accepts each job as often
pub undated_deferrals : (h : List Mark) (t : ℕ) → deferrals (undated h) t ≡ deferrals h t
undated_deferrals [] t = refl
undated_deferrals (Pinned who epoch ∷ h) t = undated_deferrals h t
undated_deferrals (Repinned who epoch ∷ h) t = undated_deferrals h t
undated_deferrals (Unpinned who ∷ h) t = undated_deferrals h t
undated_deferrals (Deferred ticket name ∷ h) t = ap (λ n. (if ticket == t then 1 else 0) + n) (undated_deferrals h t)
undated_deferrals (Called ticket name ∷ h) t = undated_deferrals h t

-- a removal that a history accepted is accepted without its epochs
undated_deferred : (h : List Mark) (t : ℕ) (n : Name) → WasDeferred h t n → WasDeferred (undated h) t n
undated_deferred [] t n d = absurd d
undated_deferred (Pinned who epoch ∷ h) t n d = undated_deferred h t n d
undated_deferred (Repinned who epoch ∷ h) t n d = undated_deferred h t n d
undated_deferred (Unpinned who ∷ h) t n d = undated_deferred h t n d
undated_deferred (Deferred ticket name ∷ h) t n d = elim d [ inl now ↦ inl now | inr before ↦ inr (undated_deferred h t n before) ]
undated_deferred (Called ticket name ∷ h) t n d = undated_deferred h t n d

-- only accepted removals destroy a cell in a history without its epochs, where it is so with them
pub undated_later : (h : List Mark) → AreCalledLater h → AreCalledLater (undated h)
undated_later [] l = tt
undated_later (Pinned who epoch ∷ h) l = undated_later h l
undated_later (Repinned who epoch ∷ h) l = undated_later h l
undated_later (Unpinned who ∷ h) l = undated_later h l
undated_later (Deferred ticket name ∷ h) l = undated_later h l
undated_later (Called ticket name ∷ h) l = ((λ n e. undated_deferred h ticket n (l.0 n e)), undated_later h l.1)
