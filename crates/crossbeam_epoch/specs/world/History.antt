-- What happened to the collector's guards and jobs, the newest first.
use Rattle.std.specs.Prelude.{◌≡◌, ℕ, ◌+◌, ◌==◌, Bool, false, List, [], ◌∷◌, Option, Some, None, is_some, if◌then◌else◌, ◌⊎◌}
use Rattle.crossbeam_epoch.specs.declared.names.Name.{Name}

-- what happened to a guard or to a job
pub data Mark : Type 0 where
  -- a stretch begins: a first-level pin publishes, while the epoch is this
  Pinned : (who epoch : ℕ) → Mark
  -- a stretch begins again: a repin publishes, while the epoch is this
  Repinned : (who epoch : ℕ) → Mark
  -- a stretch ends: the last guard goes
  Unpinned : (who : ℕ) → Mark
  -- a job is accepted, with the name of the cell that it is to destroy
  Deferred : (ticket : ℕ) → (name : Option Name) → Mark
  -- a job is called, with the name of the cell that it destroyed
  Called : (ticket : ℕ) → (name : Option Name) → Mark

-- the epoch when the present stretch of q began, if there is one
abbrev pub began : List Mark → ℕ → Option ℕ
began [] q = None
began (Pinned who epoch ∷ h) q = if who == q then Some epoch else began h q
began (Repinned who epoch ∷ h) q = if who == q then Some epoch else began h q
began (Unpinned who ∷ h) q = if who == q then None else began h q
began (Deferred ticket name ∷ h) q = began h q
began (Called ticket name ∷ h) q = began h q

-- the present stretch of q began before the job was deferred
abbrev pub blocks : List Mark → ℕ → ℕ → Bool
blocks [] q t = false
blocks (Pinned who epoch ∷ h) q t = if who == q then false else blocks h q t
blocks (Repinned who epoch ∷ h) q t = if who == q then false else blocks h q t
blocks (Unpinned who ∷ h) q t = if who == q then false else blocks h q t
blocks (Deferred ticket name ∷ h) q t = if ticket == t then is_some (began h q) else blocks h q t
blocks (Called ticket name ∷ h) q t = blocks h q t

-- no job was called while a participant blocked it
abbrev pub IsGraceful : List Mark → Type 0
IsGraceful [] = Unit {0}
IsGraceful (Pinned who epoch ∷ h) = IsGraceful h
IsGraceful (Repinned who epoch ∷ h) = IsGraceful h
IsGraceful (Unpinned who ∷ h) = IsGraceful h
IsGraceful (Deferred ticket name ∷ h) = IsGraceful h
IsGraceful (Called ticket name ∷ h) = ((q : ℕ) → blocks h q ticket ≡ false) × IsGraceful h

-- how often a job was called
abbrev pub times_called : List Mark → ℕ → ℕ
times_called [] t = 0
times_called (Pinned who epoch ∷ h) t = times_called h t
times_called (Repinned who epoch ∷ h) t = times_called h t
times_called (Unpinned who ∷ h) t = times_called h t
times_called (Deferred ticket name ∷ h) t = times_called h t
times_called (Called ticket name ∷ h) t = (if ticket == t then 1 else 0) + times_called h t

-- how often a job was accepted
abbrev pub deferrals : List Mark → ℕ → ℕ
deferrals [] t = 0
deferrals (Pinned who epoch ∷ h) t = deferrals h t
deferrals (Repinned who epoch ∷ h) t = deferrals h t
deferrals (Unpinned who ∷ h) t = deferrals h t
deferrals (Deferred ticket name ∷ h) t = (if ticket == t then 1 else 0) + deferrals h t
deferrals (Called ticket name ∷ h) t = deferrals h t

-- the removal of a name was accepted under this ticket
abbrev pub WasDeferred : List Mark → ℕ → Name → Type 0
WasDeferred [] t n = ⊥
WasDeferred (Pinned who epoch ∷ h) t n = WasDeferred h t n
WasDeferred (Repinned who epoch ∷ h) t n = WasDeferred h t n
WasDeferred (Unpinned who ∷ h) t n = WasDeferred h t n
WasDeferred (Deferred ticket name ∷ h) t n = ((ticket ≡ t) × (name ≡ Some n)) ⊎ WasDeferred h t n
WasDeferred (Called ticket name ∷ h) t n = WasDeferred h t n

-- only removals that were accepted destroy a cell
abbrev pub AreCalledLater : List Mark → Type 0
AreCalledLater [] = Unit {0}
AreCalledLater (Pinned who epoch ∷ h) = AreCalledLater h
AreCalledLater (Repinned who epoch ∷ h) = AreCalledLater h
AreCalledLater (Unpinned who ∷ h) = AreCalledLater h
AreCalledLater (Deferred ticket name ∷ h) = AreCalledLater h
AreCalledLater (Called ticket name ∷ h) = ((n : Name) → name ≡ Some n → WasDeferred h ticket n) × AreCalledLater h
