-- The same of whole lines: the words of a command are parsed as that command, and nothing else is.
use Rattle.std.proofs.Common.{◌≡◌, ℕ, ◌<◌, ◌≤◌, ◌^◌, ◌&&◌, nat_lt, nat_le, List, [], ◌∷◌, ◌++◌, refl, ap, sym, subst, ◌∙◌, Bool, true, false, cond, Option, Some, None, IfSome, arith, if◌then◌else◌, append_assoc, append-nil}
use Rattle.std.specs.Option.{option_map}
use Rattle.std.proofs.lemmas.Bool.Decides.{nat_tests}
use Rattle.trial.specs.declared.command.LineCall.{LineCall}
use Rattle.trial.specs.declared.command.LineCall.TheVariants as call
use Rattle.trial.specs.declared.command.Command.{Command}
use Rattle.trial.specs.declared.command.Command.TheVariants as command
use Rattle.trial.specs.declared.keyword.Keyword.{Keyword}
use Rattle.trial.specs.declared.keyword.Keyword.TheVariants as key
use Rattle.trial.specs.declared.word.Word.{Word}
use Rattle.trial.specs.declared.word.Word.TheVariants.{Key, Number}
use Rattle.trial.specs.Grammar.{option_words, call_words, command_words, IsNumber, IsCount, CallFits, CommandFits}
use Rattle.trial.specs.Parsing.{call_of, counted, worker_command_of, limit_of, version_of, journal_of, opening_if_done, opening_of, plain_command_of, command_of}
use Rattle.trial.proofs.Calls.{Small, call_sound, found_so, passed, at_most_of_test}

-- these words are a command within its bounds
abbrev IsCommand : List Word → Command → Type 0
IsCommand ws c = (ws ≡ command_words c) × CommandFits c

-- what an option that is mapped was
mapped : {A B : Type 0} (f : A → B) (o : Option A) (y : B) → option_map f o ≡ Some y → (x : A) × (o ≡ Some x) × (f x ≡ y)
mapped f None y e = absurd (cc)
mapped f (Some x) y e = (x, refl, cc)

both_true : (a b : Bool) → (a && b) ≡ true → (a ≡ true) × (b ≡ true)
both_true true b h = (refl, h)
both_true false b h = absurd (cc)

counted_sound : (n : ℕ) (x c : Command) → counted n x ≡ Some c → IsCount n × (x ≡ c)
counted_sound n x c e =
    let parts = passed (nat_le 1 n && nat_le n 1000000) x c e in
    let tests = both_true (nat_le 1 n) (nat_le n 1000000) parts.0 in
    ((at_most_of_test 1 n tests.0, at_most_of_test n 1000000 tests.1), parts.1)

call_of_worker : (w : ℕ) (ws : List Word) (c : Command) → w < 2 ^ 32 → Small ws → option_map (command.Call w) (call_of ws) ≡ Some c → IsCommand (Number w ∷ ws) c
call_of_worker w ws c h s e =
    let found = mapped (command.Call w) (call_of ws) c e in
    let sound = call_sound ws found.0 s found.1 in
    subst (IsCommand (Number w ∷ ws)) found.2 (ap (λ xs. Number w ∷ xs) sound.0, (h, sound.1))

begin_of_worker : (w : ℕ) (ws : List Word) (c : Command) → w < 2 ^ 32 → Small ws → option_map (command.Begin w) (call_of ws) ≡ Some c → IsCommand (Number w ∷ Key key.Begin ∷ ws) c
begin_of_worker w ws c h s e =
    let found = mapped (command.Begin w) (call_of ws) c e in
    let sound = call_sound ws found.0 s found.1 in
    subst (IsCommand (Number w ∷ Key key.Begin ∷ ws)) found.2 (ap (λ xs. Number w ∷ Key key.Begin ∷ xs) sound.0, (h, sound.1))

go_of_worker : (w n : ℕ) (c : Command) → w < 2 ^ 32 → counted n (command.Go w n) ≡ Some c → IsCommand (Number w ∷ Key key.Go ∷ Number n ∷ []) c
go_of_worker w n c h e =
    let parts = counted_sound n (command.Go w n) c e in
    subst (IsCommand (Number w ∷ Key key.Go ∷ Number n ∷ [])) parts.1 (refl, (h, parts.0))

round_of_worker : (w n : ℕ) (c : Command) → w < 2 ^ 32 → counted n (command.Round w n) ≡ Some c → IsCommand (Number w ∷ Key key.Round ∷ Number n ∷ []) c
round_of_worker w n c h e =
    let parts = counted_sound n (command.Round w n) c e in
    subst (IsCommand (Number w ∷ Key key.Round ∷ Number n ∷ [])) parts.1 (refl, (h, parts.0))

worker_sound : (w : ℕ) (ws : List Word) (c : Command) → w < 2 ^ 32 → Small ws → worker_command_of w ws ≡ Some c → IsCommand (Number w ∷ ws) c
worker_sound w (Key key.Begin ∷ ws) c h s e = begin_of_worker w ws c h s e
worker_sound w (Key key.Go ∷ Number n ∷ []) c h s e = go_of_worker w n c h e
worker_sound w (Key key.Round ∷ Number n ∷ []) c h s e = round_of_worker w n c h e
worker_sound w (Key key.Fail ∷ []) c h s e = found_so (IsCommand (Number w ∷ Key key.Fail ∷ [])) (command.Fail w) c (refl, h) e
worker_sound w ws c h s e = call_of_worker w ws c h s e

-- an option's words, and what is left after them
abbrev Takes : List Word → Keyword → Option ℕ × List Word → Type 0
Takes ws k found = (ws ≡ option_words k found.0 ++ found.1) × IfSome found.0 IsNumber × Small found.1

limit_takes : (ws : List Word) → Small ws → Takes ws key.Limit (limit_of ws)
limit_takes (Key key.Limit ∷ Number n ∷ ws) s = (refl, s.0, s.1)
limit_takes ws s = (refl, tt, s)

version_takes : (ws : List Word) → Small ws → Takes ws key.Version (version_of ws)
version_takes (Key key.Version ∷ Number n ∷ ws) s = (refl, s.0, s.1)
version_takes ws s = (refl, tt, s)

journal_takes : (ws : List Word) → Small ws → Takes ws key.Journal (journal_of ws)
journal_takes (Key key.Journal ∷ Number n ∷ ws) s = (refl, s.0, s.1)
journal_takes ws s = (refl, tt, s)

done_sound : (p d : ℕ) (limit version journal : Option ℕ) (ws : List Word) (c : Command) → opening_if_done p d limit version journal ws ≡ Some c
    → (ws ≡ []) × (command.New (record { participants = p; cells = d; limit = limit; version = version; journal = journal }) ≡ c)
done_sound p d limit version journal [] c e = (refl, cc)
done_sound p d limit version journal (w ∷ ws) c e = absurd (cc)

in_a_row : (ws l ls v vs j js : List Word) → ws ≡ l ++ ls → ls ≡ v ++ vs → vs ≡ j ++ js → js ≡ [] → ws ≡ (l ++ v) ++ j
in_a_row ws l ls v vs j js a b d e =
    a ∙ ap (λ x. l ++ x) (b ∙ ap (λ x. v ++ x) (d ∙ ap (λ x. j ++ x) e ∙ append-nil j)) ∙ sym (append_assoc l v j)

opening_sound : (p d : ℕ) (ws : List Word) (c : Command) → p < 2 ^ 64 → d < 2 ^ 64 → Small ws → opening_of p d ws ≡ Some c
    → IsCommand (Key key.New ∷ Number p ∷ Number d ∷ ws) c
unfolding opening_of
opening_sound p d ws c hp hd s e =
    let limit = limit_takes ws s in
    let version = version_takes (limit_of ws).1 limit.2 in
    let journal = journal_takes (version_of (limit_of ws).1).1 version.2 in
    let done = done_sound p d (limit_of ws).0 (version_of (limit_of ws).1).0 (journal_of (version_of (limit_of ws).1).1).0 _ c e in
    subst (IsCommand (Key key.New ∷ Number p ∷ Number d ∷ ws)) done.1 (
      ap (λ xs. Key key.New ∷ Number p ∷ Number d ∷ xs) (in_a_row _ _ _ _ _ _ _ limit.0 version.0 journal.0 done.0),
      (hp, hd, limit.1, version.1, journal.1),
    )

plain_sound : (k : Keyword) (c : Command) → plain_command_of k ≡ Some c → IsCommand (Key k ∷ []) c
plain_sound key.Reg c e = found_so (IsCommand (Key key.Reg ∷ [])) command.Register c (refl, tt) e
plain_sound key.Charged c e = found_so (IsCommand (Key key.Charged ∷ [])) command.Charged c (refl, tt) e
plain_sound key.Waiting c e = found_so (IsCommand (Key key.Waiting ∷ [])) command.Waiting c (refl, tt) e
plain_sound key.Journal c e = found_so (IsCommand (Key key.Journal ∷ [])) command.Journal c (refl, tt) e
plain_sound key.Close c e = found_so (IsCommand (Key key.Close ∷ [])) command.Close c (refl, tt) e
plain_sound _ c e = absurd (cc)

below : (n m : ℕ) → nat_lt n m ≡ true → n < m
below n m h = grind (arith, nat_tests)

kept : {A : Type 0} (b : Bool) (o : Option A) (x : A) → cond b o None ≡ Some x → (b ≡ true) × (o ≡ Some x)
kept true o x e = (refl, e)
kept false o x e = absurd (cc)

number_sound : (w : ℕ) (ws : List Word) (c : Command) → Small ws → (if nat_lt w (2 ^ 32) then worker_command_of w ws else None) ≡ Some c → IsCommand (Number w ∷ ws) c
number_sound w ws c s e =
    let parts = kept (nat_lt w (2 ^ 32)) (worker_command_of w ws) c e in
    worker_sound w ws c (below w (2 ^ 32) parts.0) s parts.1

-- what is parsed has the words of the command
pub command_sound : (ws : List Word) (c : Command) → Small ws → command_of ws ≡ Some c → IsCommand ws c
command_sound (Key k ∷ []) c s e = plain_sound k c e
command_sound (Key key.New ∷ Number p ∷ Number d ∷ ws) c s e = opening_sound p d ws c s.0 s.1.0 s.1.1 e
command_sound (Number w ∷ ws) c s e = number_sound w ws c s.1 e
command_sound _ c s e = absurd (cc)

le_true : (n m : ℕ) → n ≤ m → nat_le n m ≡ true
le_true n m h = grind (arith, nat_tests)

lt_true : (n m : ℕ) → n < m → nat_lt n m ≡ true
lt_true n m h = grind (arith, nat_tests)

-- the words of a call are parsed as that call
call_complete : (c : LineCall) → CallFits c → call_of (call_words c) ≡ Some c
call_complete call.Pin h = refl
call_complete call.Unpin h = refl
call_complete call.Repin h = refl
call_complete call.Flush h = refl
call_complete call.Release h = refl
call_complete call.Keys h = refl
call_complete call.Empty h = refl
call_complete call.Stats h = refl
call_complete (call.Get k) h = refl
call_complete (call.Remove k) h = refl
call_complete (call.Insert k v) h = refl
call_complete (call.PresentAdd k n) h = refl
call_complete (call.PresentDrop k) h = refl
call_complete (call.OrInsert k n) h = refl
call_complete (call.Exchange k old new) h = refl
call_complete (call.ExchangeDrop k old) h = refl
call_complete (call.Range a b n) h = ap (λ t. cond t (Some (call.Range a b n)) None) (le_true n 10000 h.2)
call_complete (call.Through a b n) h = ap (λ t. cond t (Some (call.Through a b n)) None) (le_true n 10000 h.2)

counted_complete : (n : ℕ) (x : Command) → IsCount n → counted n x ≡ Some x
counted_complete n x h =
    let test : (nat_le 1 n && nat_le n 1000000) ≡ true = rw (le_true 1 n h.0, le_true n 1000000 h.1) refl in
    ap (λ t. cond t (Some x) None) test

worker_complete : (w : ℕ) (ws : List Word) (c : Command) → w < 2 ^ 32 → worker_command_of w ws ≡ Some c → command_of (Number w ∷ ws) ≡ Some c
worker_complete w ws c h e = ap (λ t. cond t (worker_command_of w ws) None) (lt_true w (2 ^ 32) h) ∙ e

-- a call's words are no other command of a worker
not_other : (w : ℕ) (c : LineCall) → worker_command_of w (call_words c) ≡ option_map (command.Call w) (call_of (call_words c))
not_other w call.Pin = refl
not_other w call.Unpin = refl
not_other w call.Repin = refl
not_other w call.Flush = refl
not_other w call.Release = refl
not_other w call.Keys = refl
not_other w call.Empty = refl
not_other w call.Stats = refl
not_other w (call.Get k) = refl
not_other w (call.Remove k) = refl
not_other w (call.Insert k v) = refl
not_other w (call.PresentAdd k n) = refl
not_other w (call.PresentDrop k) = refl
not_other w (call.OrInsert k n) = refl
not_other w (call.Exchange k o n) = refl
not_other w (call.ExchangeDrop k o) = refl
not_other w (call.Range a b n) = refl
not_other w (call.Through a b n) = refl

opening_complete : (p d : ℕ) (limit version journal : Option ℕ)
    → opening_of p d (option_words key.Limit limit ++ option_words key.Version version ++ option_words key.Journal journal)
    ≡ Some (command.New (record { participants = p; cells = d; limit = limit; version = version; journal = journal }))
unfolding opening_of
opening_complete p d None None None = refl
opening_complete p d None None (Some j) = refl
opening_complete p d None (Some v) None = refl
opening_complete p d None (Some v) (Some j) = refl
opening_complete p d (Some l) None None = refl
opening_complete p d (Some l) None (Some j) = refl
opening_complete p d (Some l) (Some v) None = refl
opening_complete p d (Some l) (Some v) (Some j) = refl

-- the words of a command are parsed as that command
pub command_complete : (c : Command) → CommandFits c → command_of (command_words c) ≡ Some c
command_complete (command.New o) h = opening_complete o.participants o.cells o.limit o.version o.journal
command_complete command.Register h = refl
command_complete command.Charged h = refl
command_complete command.Waiting h = refl
command_complete command.Journal h = refl
command_complete command.Close h = refl
command_complete (command.Call w c) h = worker_complete w (call_words c) _ h.0 (not_other w c ∙ ap (option_map (command.Call w)) (call_complete c h.1))
command_complete (command.Begin w c) h = worker_complete w (Key key.Begin ∷ call_words c) _ h.0 (ap (option_map (command.Begin w)) (call_complete c h.1))
command_complete (command.Go w n) h = worker_complete w (Key key.Go ∷ Number n ∷ []) _ h.0 (counted_complete n _ h.1)
command_complete (command.Fail w) h = worker_complete w (Key key.Fail ∷ []) _ h refl
command_complete (command.Round w n) h = worker_complete w (Key key.Round ∷ Number n ∷ []) _ h.0 (counted_complete n _ h.1)
