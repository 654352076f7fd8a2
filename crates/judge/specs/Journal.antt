-- Which lists of entries are legal.
use Rattle.std.specs.Prelude.{◌≡◌, ℕ, ◌+◌, Bool, List, [], ◌∷◌, take}
use Rattle.std.specs.FinMap.{empty}
use Rattle.judge.specs.Answer.{Pairs, answer}
use Rattle.judge.specs.declared.journal.Entry.{Entry}
use Rattle.judge.specs.declared.journal.Reply.{Reply}

-- the entry's call answers its reply, and takes the map m to n
abbrev pub Answers : {P : Type 0} → (P → P → Bool) → Pairs P → Entry P → Pairs P → Type 0
Answers {P} same m e n = ◌≡◌ {A = Reply P × Pairs P} (answer same m e.call) (e.reply, n)

-- the calls, one after the other from the map m on, answer the entries' replies and end in the map n
abbrev pub Legal : {P : Type 0} → (P → P → Bool) → Pairs P → List (Entry P) → Pairs P → Type 0
Legal same m [] n = m ≡ n
Legal same m (e ∷ es) n = ((answer same m e.call).0 ≡ e.reply) × Legal same (answer same m e.call).1 es n

-- a journal is legal where its entries are, from the empty map on
abbrev pub IsLegal : {P : Type 0} → (P → P → Bool) → List (Entry P) → Type 0
IsLegal {P} same journal = (n : Pairs P) × Legal same empty journal n

-- the first p entries of a journal are legal, and the first p + 1 aren't
abbrev pub IsWrongAt : {P : Type 0} → (P → P → Bool) → List (Entry P) → ℕ → Type 0
IsWrongAt same journal p = IsLegal same (take p journal) × ¬ (IsLegal same (take (p + 1) journal))
