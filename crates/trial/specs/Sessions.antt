-- A table of sessions with a second index by expiry, and what calls leave of it.
use Rattle.std.specs.Prelude.{◌≡◌, ◌<◌, ◌^◌, ◌==◌, ◌/◌, ◌%◌, ℕ, List, [], ◌∷◌, Option, None, Some, cond, leb}
use Rattle.std.specs.FinMap.{entries, get}
use Rattle.judge.specs.Answer.{Pairs}
use Rattle.judge.specs.Words.{joined}
use Rattle.trial.specs.declared.examples.sessions.registry.Change.{Change}
use Rattle.trial.specs.declared.examples.sessions.registry.Change.TheVariants.{Register, Renew, Expire}
use Rattle.trial.specs.declared.examples.sessions.registry.Closed.{Closed}
use Rattle.congee.specs.owned.Ranges.{keys_by}

-- The second index is the first's pairs turned around: sessions and expiries are numbers of 32 bits, each session stands in it under
-- its expiry and itself, and what stands there is a session with that expiry
pub record Turned (expiries by_expiry : Pairs ℕ) : Type 0 where
  pub small : (session expiry : ℕ) → get expiries session ≡ Some expiry → (session < 2 ^ 32) × (expiry < 2 ^ 32)
  pub there : (session expiry : ℕ) → get expiries session ≡ Some expiry → get by_expiry (joined expiry session) ≡ Some session
  pub back : (expiry session found : ℕ) → session < 2 ^ 32 → get by_expiry (joined expiry session) ≡ Some found → get expiries session ≡ Some expiry

-- what stands of a session at a time: nothing where its expiry has come
abbrev pub unexpired : ℕ → Option ℕ → Option ℕ
unexpired now None = None
unexpired now (Some expiry) = cond (leb expiry now) None (Some expiry)

-- a renewal changes what stands
abbrev pub renewed : ℕ → Option ℕ → Option ℕ
renewed expiry None = None
renewed expiry (Some old) = Some expiry

-- what a change leaves of a session
abbrev pub after : Change → ℕ → Option ℕ → Option ℕ
after (Register session expiry) q found = cond (q == session) (Some expiry) found
after (Renew session expiry) q found = cond (q == session) (renewed expiry found) found
after (Expire now) q found = unexpired now found

-- and what all of these changes leave, one after the other
unfoldable pub left : List Change → ℕ → Option ℕ → Option ℕ
left [] q found = found
left (c ∷ cs) q found = left cs q (after c q found)

-- a table has what these changes leave of no sessions
abbrev pub IsLeft : List Change → Pairs ℕ → Type 0
IsLeft changes m = (session : ℕ) → get m session ≡ left changes session None

-- The pairs of both indexes as a registry is closed: the sessions with their expiries, ascending, and the same turned around
pub record IsClosed (m : Pairs ℕ) (c : Closed) : Type 0 where
  pub sessions : c.by_session.items ≡ entries m
  pub turned : Pairs ℕ
  pub agrees : Turned m turned
  pub expiries : c.by_expiry.items ≡ keys_by (λ n. (n / 2 ^ 32, n % 2 ^ 32)) (entries turned)

-- these changes of no sessions ended with these pairs
abbrev pub Ends : List Change → Closed → Type 0
Ends changes c = (m : Pairs ℕ) × IsLeft changes m × IsClosed m c
