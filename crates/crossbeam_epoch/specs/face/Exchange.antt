-- What a compare-and-exchange answers, and an update.
use Rattle.std.specs.Prelude.{◌≡◌, ◌≢◌, ◌<◌, ◌%◌, ℕ, Bool, true, false, Option, Some, IfSome, Result, IfErr, IsErr, MatchResult}
use Rattle.std.specs.Bool.{MatchBool}
use Rattle.crossbeam_epoch.specs.declared.face.atomic.CompareExchangeError.{CompareExchangeError}
use Rattle.crossbeam_epoch.specs.declared.face.link.Link.{Link}
use Rattle.crossbeam_epoch.specs.declared.face.pointer.Pointer as pointer
use Rattle.crossbeam_epoch.specs.declared.face.shared.Shared.{Shared}
use Rattle.crossbeam_epoch.specs.declared.fault.Fault.{Fault}
use Rattle.crossbeam_epoch.specs.declared.fault.Fault.TheVariants.{Foreign}

-- refused for the one cause of what was to be written, which comes back
abbrev pub IsRefused : {T P : Type 0} → pointer.Ghosts P T → (collector : ℕ) → (new : P) → Fault × P → Type 0
IsRefused g collector new e = (e.0 ≡ g.refused_as) × (g.is_refusable new collector ≡ true) × (e.1 ≡ new)

-- refused, as Foreign, where what was to be written leads to another collector
abbrev pub RefusesForeign : {A T P : Type 0} → pointer.Ghosts P T → (collector : ℕ) → (new : P) → Result A (Fault × P) → Type 0
RefusesForeign g collector new r = g.leads_elsewhere new collector ≡ true → IfErr r (λ e. e.0 ≡ Foreign) × IsErr r

-- it wrote a pointer with this tag that leads where the new one does; or it found another pointer than the one before, whose
-- tag is below the alignment; or it was refused, as Foreign where the new pointer leads to another collector. What it didn't
-- write comes back
abbrev pub IsExchange : {T P : Type 0} → pointer.Ghosts P T → (align collector : ℕ) → (before : Link) → (new : P) → Result (Result (Shared T) (CompareExchangeError T P)) (Fault × P) → Type 0
IsExchange g align collector before new r =
    MatchResult r
    (λ x. MatchResult x
    (λ s. (s.link.tag ≡ g.tag_bits new % align) × g.leads_to new collector s.link.site)
    (λ e. (e.current.link ≢ before) × (e.current.link.tag < align) × (e.new ≡ new)))
    (λ e. (e.1 ≡ new) × MatchBool (g.leads_elsewhere new collector) (e.0 ≡ Foreign) ((e.0 ≡ g.refused_as) × (g.is_refusable new collector ≡ true)))

-- the closure gave a pointer to write for this one
abbrev pub GaveNext : {F S : Type 0} → (F → S → Option S → F → Type 0) → (S → Bool) → S → Type 0
GaveNext {F} {S} step elsewhere s = (before : F) × (after : F) × (next : S) × step before s (Some next) after × (elsewhere next ≡ false)

-- it gave none for this one, or one that leads to another collector
abbrev pub GaveNone : {F S : Type 0} → (F → S → Option S → F → Type 0) → (S → Bool) → S → Type 0
GaveNone {F} {S} step elsewhere s = (before : F) × (after : F) × (given : Option S) × step before s given after × IfSome given (λ n. elsewhere n ≡ true)

-- the closure gave a pointer for this one that leads to no other collector, which is this link
abbrev pub Gave : {F T : Type 0} → (F → Shared T → Option (Shared T) → F → Type 0) → (Shared T → Bool) → Shared T → Link → Type 0
Gave {F} {T} step elsewhere s l = (before : F) × (after : F) × (next : Shared T) × step before s (Some next) after × (elsewhere next ≡ false) × (next.link ≡ l)

-- what was written in the place of this pointer is what the closure gave for it, its tag modulo the alignment
abbrev pub Updates : {F T : Type 0} → (F → Shared T → Option (Shared T) → F → Type 0) → (Shared T → Bool) → (align : ℕ) → Shared T → Link → Type 0
Updates {F} {T} step elsewhere align s written = (l : Link) × Gave step elsewhere s l × (written.site ≡ l.site) × (written.tag ≡ l.tag % align)
