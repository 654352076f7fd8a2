-- What the program's arguments ask for.
use Rattle.std.specs.Prelude.{◌≡◌, ◌≤◌, ◌⊎◌, ℕ, List, [], ◌∷◌, decimal, codes, string_bytes, take}
use Rattle.std.specs.declared.alloc.Global.{Global}
use Rattle.std.specs.declared.string.String.{String}
use Rattle.trial.specs.declared.arguments.Mode.{Mode}
use Rattle.trial.specs.declared.arguments.Mode.TheVariants as mode

-- the numbers of workers and of calls that may be asked for
pub record AreAllowed (workers calls : ℕ) : Type 0 where
  pub some_workers : 1 ≤ workers
  pub few_workers : workers ≤ 16
  pub some_calls : 1 ≤ calls
  pub few_calls : calls ≤ 10000

-- two words that are the decimals of such numbers
abbrev pub AreNumbers : List ℕ → List ℕ → ℕ → ℕ → Type 0
AreNumbers first second workers calls = (first ≡ decimal workers) × (second ≡ decimal calls) × AreAllowed workers calls

-- what a word asks for with two others behind it
abbrev pub AsksCalls : List ℕ → List ℕ → List ℕ → Mode → Type 0
AsksCalls word first second mode.Script = ⊥
AsksCalls word first second (mode.Threads workers calls) = (word ≡ codes "threads") × AreNumbers first second workers calls
AsksCalls word first second (mode.Lockfree workers calls) = (word ≡ codes "lockfree") × AreNumbers first second workers calls
AsksCalls word first second mode.Sessions = ⊥
AsksCalls word first second mode.Versions = ⊥

-- what a word asks for alone
abbrev pub AsksAlone : List ℕ → Mode → Type 0
AsksAlone word mode.Sessions = word ≡ codes "sessions"
AsksAlone word mode.Versions = word ≡ codes "versions"
AsksAlone word _ = ⊥

-- no words ask for a script, `sessions` alone for changes of a table of sessions, `versions` alone for
-- calls on a store of versions, and `threads` or `lockfree` with two such decimals for
-- calls of threads
abbrev pub Asks : List (String Global) → Mode → Type 0
Asks [] asked = asked ≡ mode.Script
Asks (word ∷ []) asked = AsksAlone (string_bytes word) asked
Asks (word ∷ first ∷ second ∷ []) asked = AsksCalls (string_bytes word) (string_bytes first) (string_bytes second) asked
Asks _ asked = ⊥

-- what is printed where they ask for nothing that the program does
abbrev pub usage_text : List ℕ
usage_text = codes "usage: trial [threads N M | lockfree N M | sessions | versions], where 1 <= N <= 16 and 1 <= M <= 10000\n"

-- the status is 2 where it was printed, and 1 where the writer failed
abbrev pub TellsUsage : ℕ → List ℕ → Type 0
TellsUsage status text = ((status ≡ 2) × (text ≡ usage_text)) ⊎ ((status ≡ 1) × (n : ℕ) × (text ≡ take n usage_text))
