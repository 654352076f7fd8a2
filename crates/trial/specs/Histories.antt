-- What the program prints of workers that called at once.
use Rattle.std.specs.Prelude.{◌≡◌, ◌==◌, ◌⊎◌, ◌↔◌, ◌||◌, ◌&&◌, Bool, nat_lt, ℕ, ◌+◌, ◌-◌, ◌*◌, ◌/◌, ◌%◌, true, IfOk, IsOk, IsTrue, if◌then◌else◌, List, ◌++◌, Option, Some, Result, Ok, Err, Vec, codes, decimal, length, slice_get, take}
use Rattle.std.specs.declared.alloc.Global.{Global}
use Rattle.std.specs.Io.KnownBytes.{Appends}
use Rattle.judge.specs.declared.checker.Verdict.TheVariants.{Legal}
use Rattle.judge.specs.declared.journal.Call.{Call}
use Rattle.judge.specs.declared.journal.Call.TheVariants.{Get, Insert, Remove}
use Rattle.judge.specs.declared.journal.Entry.{Entry}
use Rattle.joint.specs.threads.Auditing.{IsAudited}
use Rattle.joint.specs.threads.Journals.{IsJournal, count_watched}
use Rattle.joint.specs.declared.refusal.Refusal.{Refusal}
use Rattle.trial.specs.declared.history.History.{History}
use Rattle.trial.specs.declared.reply.Refused.TheVariants as refused
use Rattle.trial.specs.declared.reply.Reply.TheVariants as reply
use Rattle.trial.specs.Texts.{printed, reply_text, truth_text}

-- the keys on which workers call, by numbers below 97: sixty side by side in one leaf, the others in leaves of their own at three depths
abbrev pub key_of : ℕ → ℕ
key_of n = if nat_lt n 60 then n else (n - 59) * (if n % 3 == 0 then 256 else if n % 3 == 1 then 65536 else 16777216)

-- the key of a worker's call, by the numbers of both
abbrev pub key_at : ℕ → ℕ → ℕ
key_at worker number = key_of ((7 * worker + number / 2) % 97)

-- whether a call is a removal: of each four the last is, and in every second run of 512 the first as well
abbrev pub takes_out : ℕ → Bool
takes_out number = (number % 4 == 3) || ((number % 4 == 0) && (number / 512 % 2 == 1))

-- a worker's call, of so many
abbrev pub call_at : ℕ → ℕ → ℕ → Call ℕ
call_at calls worker number =
    if number % 4 == 1 then Get (key_at worker number)
    else if takes_out number then Remove (key_at worker number)
    else Insert (key_at worker number) (worker * calls + number)

-- the entries are of a worker's first calls, in their order
abbrev pub AreCalls : ℕ → ℕ → List (Entry ℕ) → Type 0
AreCalls calls worker own = (i : ℕ) (e : Entry ℕ) → slice_get own i ≡ Some e → e.call ≡ call_at calls worker i

-- each of the first workers keeps the entries of all its calls
abbrev pub AreKept : ℕ → List (Vec (Entry ℕ) Global) → Type 0
AreKept calls own = (worker : ℕ) (list : Vec (Entry ℕ) Global) → slice_get own worker ≡ Some list → AreCalls calls worker list.items × (length list.items ≡ calls)

-- how many of a worker's first calls write: all but the numbers 1, 5, 9, ..
abbrev pub writes_in : ℕ → ℕ
writes_in calls = calls - (calls + 2) / 4

-- whether a worker's call writes, as a number
abbrev pub writes_at : ℕ → ℕ
writes_at number = if number % 4 == 1 then 0 else 1

-- So many workers made so many calls each: the index tells a journal, which is legal; the ledger counts its writing calls, which are
-- all that the workers were to make; the audit is of the entries that the workers kept, and where it finds just these, they are all
-- calls of all workers.
pub record IsHistory (workers calls : ℕ) (h : History) : Type 0 where
  pub journal : List (Entry ℕ)
  pub own : List (Vec (Entry ℕ) Global)
  pub stood : IsJournal journal
  pub entries : h.entries ≡ length journal
  pub ledger : h.ledger ≡ count_watched (λ _. true) journal
  pub verdict : h.verdict ≡ Legal
  pub all : length own ≡ workers
  pub kept : AreKept calls own
  pub audited : IsTrue h.audited ↔ IsAudited journal own
  pub whole : IsTrue h.audited → h.entries ≡ workers * calls
  pub counted : h.ledger ≡ workers * writes_in calls

-- its text, on three lines
abbrev pub history_text : History → List ℕ
history_text h = reply_text (reply.Journal h.entries h.verdict) ++ codes "\naudit " ++ truth_text h.audited ++ codes "\nledger " ++ decimal h.ledger ++ codes "\n"

-- what is told of a history, or of a refusal in its place
abbrev pub told_text : Result History Refusal → List ℕ
told_text (Ok h) = history_text h
told_text (Err e) = printed (reply.Refused (refused.Tree e))

-- The status is 0 where a history of so many calls is told; and 1 where a refusal is, or where a front of what was due was
-- written, since the writer failed or memory was refused.
abbrev pub Tells : ℕ → ℕ → ℕ → List ℕ → Type 0
Tells workers calls status text = (told : Result History Refusal) × IfOk told (IsHistory workers calls)
    × (((status ≡ 0) × IsOk told × (text ≡ told_text told)) ⊎ ((status ≡ 1) × (n : ℕ) × (text ≡ take n (told_text told))))

-- the writer took a text of this kind
abbrev pub Takes : (List ℕ → Type 0) → Option (List ℕ) → Option (List ℕ) → Type 0
Takes Text held holds = (text : List ℕ) × Text text × Appends held holds text
