-- The words of a line are those that it is spelled by.
use Rattle.std.proofs.Common.{◌≡◌, ℕ, ◌<◌, ◌≤◌, ◌^◌, List, [], ◌∷◌, ◌++◌, map, refl, ap, sym, ◌∙◌, Bool, true, false, not, ◌&&◌, zero, suc, arith, length, get_or, decimal, IfSome, Option, Some, None, length-append}
use Rattle.std.specs.List.{slice_split, AllZip, All, list_all}
use Rattle.std.specs.Str.Parse.{AllDigits}
use Rattle.std.proofs.lemmas.Bool.{true≢false}
use Rattle.std.proofs.lemmas.List.Splits.{slice_split_at, slice_split_none}
use Rattle.std.proofs.lemmas.List.{get_or_default}
use Rattle.std.proofs.lemmas.Fmt.{decimal_is_IsNumeral, decimal_injective}
use Rattle.std.proofs.lemmas.Str.Parse.{digit_at}
use Rattle.trial.specs.declared.command.LineCall.{LineCall}
use Rattle.trial.specs.declared.command.LineCall.TheVariants as call
use Rattle.trial.specs.declared.command.Command.{Command}
use Rattle.trial.specs.declared.command.Command.TheVariants as command
use Rattle.trial.specs.declared.keyword.Keyword.{Keyword}
use Rattle.trial.specs.declared.keyword.Keyword.TheVariants as key
use Rattle.trial.specs.declared.word.Word.{Word}
use Rattle.trial.specs.declared.word.Word.TheVariants.{Key, Number, Other}
use Rattle.trial.specs.Words.{text_of, spelled, Reads}
use Rattle.trial.specs.Grammar.{option_words, call_words, command_words, CallFits, CommandFits, spelling, IsNumber}
use Rattle.trial.proofs.Calls.{Small}
use Rattle.trial.proofs.Decimals.{first_is_digit}
use Rattle.trial.proofs.Keywords.{one_spelling, begins_with_letter}
use Rattle.trial.proofs.Splitting.{is_space, false_from_unequal}

-- keywords and numbers below 2 ^ 64 alone
abbrev pub IsPlain : Word → Type 0
IsPlain (Key k) = Unit {0}
IsPlain (Number n) = n < 2 ^ 64
IsPlain Other = ⊥

-- each word is so
abbrev pub ArePlain : List Word → Type 0
ArePlain [] = Unit {0}
ArePlain (w ∷ ws) = IsPlain w × ArePlain ws

-- what is read holds numbers below 2 ^ 64
pub small_from_read : (parts : List (List ℕ)) (ws : List Word) → AllZip Reads parts ws → Small ws
small_from_read [] [] h = tt
small_from_read [] (w ∷ ws) h = absurd h
small_from_read (x ∷ xs) [] h = absurd h
small_from_read (x ∷ xs) (Key k ∷ ws) h = small_from_read xs ws h.1
small_from_read (x ∷ xs) (Number n ∷ ws) h = (h.0.1, small_from_read xs ws h.1)
small_from_read (x ∷ xs) (Other ∷ ws) h = small_from_read xs ws h.1

-- plain words that were read are spelled so
pub spelled_from_read : (parts : List (List ℕ)) (ws : List Word) → AllZip Reads parts ws → ArePlain ws → parts ≡ map spelled ws
spelled_from_read [] [] h p = refl
spelled_from_read [] (w ∷ ws) h p = absurd h
spelled_from_read (x ∷ xs) [] h p = absurd h
spelled_from_read (x ∷ xs) (Key k ∷ ws) h p = ap (λ y. y ∷ xs) h.0 ∙ ap (λ ys. text_of k ∷ ys) (spelled_from_read xs ws h.1 p.1)
spelled_from_read (x ∷ xs) (Number n ∷ ws) h p = ap (λ y. y ∷ xs) h.0.0 ∙ ap (λ ys. decimal n ∷ ys) (spelled_from_read xs ws h.1 p.1)
spelled_from_read (x ∷ xs) (Other ∷ ws) h p = absurd p.0

-- no keyword is a decimal
not_both : (k : Keyword) (n : ℕ) → n < 2 ^ 64 → text_of k ≡ decimal n → ⊥
not_both k n h e =
    let letter = begins_with_letter k in
    let digit = first_is_digit n h in
    let same : get_or (text_of k) 0 0 ≡ get_or (decimal n) 0 0 = ap (λ bs. get_or bs 0 0) e in
    omega arith

-- a word that is spelled as a plain one is read as that one
one_reading : (u w : Word) → IsPlain u → Reads (spelled u) w → w ≡ u
one_reading (Key j) (Key k) p r = ap Key (sym (one_spelling j k r))
one_reading (Key j) (Number n) p r = absurd (not_both j n r.1 r.0)
one_reading (Key j) Other p r = absurd (r.0 j refl)
one_reading (Number m) (Key k) p r = absurd (not_both k m p (sym r))
one_reading (Number m) (Number n) p r = ap Number (sym (decimal_injective m n p r.1 r.0))
one_reading (Number m) Other p r = absurd (r.1 m p refl)
one_reading Other w p r = absurd p

-- the spelling of plain words is read as these words alone
pub words_from_spelled : (us ws : List Word) → ArePlain us → AllZip Reads (map spelled us) ws → ws ≡ us
words_from_spelled [] [] p h = refl
words_from_spelled [] (w ∷ ws) p h = absurd h
words_from_spelled (u ∷ us) [] p h = absurd h
words_from_spelled (u ∷ us) (w ∷ ws) p h =
    ap (λ x. x ∷ ws) (one_reading u w p.0 h.0) ∙ ap (λ xs. u ∷ xs) (words_from_spelled us ws p.1 h.1)

-- plain words are read from their own spelling
pub reads_spelled : (ws : List Word) → ArePlain ws → AllZip Reads (map spelled ws) ws
reads_spelled [] h = tt
reads_spelled (Key k ∷ ws) h = (refl, reads_spelled ws h.1)
reads_spelled (Number n ∷ ws) h = ((refl, h.0), reads_spelled ws h.1)
reads_spelled (Other ∷ ws) h = absurd h.0

-- a plain word begins with a digit or a letter
word_begins : (w : Word) → IsPlain w → 47 < get_or (spelled w) 0 0
word_begins (Key k) h = omega (arith, begins_with_letter k)
word_begins (Number n) h = omega (arith, first_is_digit n h)
word_begins Other h = absurd h

-- plain words begin with a byte above 47: neither a space nor a comment
pub first_begins : (ws : List Word) → 0 < length ws → ArePlain ws → 47 < get_or (get_or (map spelled ws) 0 []) 0 0
first_begins [] some h = absurd (omega arith)
first_begins (w ∷ ws) some h = word_begins w h.0

-- no space stands in a plain word
abbrev has_no_space : List ℕ → Bool
has_no_space bs = list_all (λ b. not (is_space b)) bs

and_left : (a b : Bool) → (a && b) ≡ true → (a ≡ true) × (b ≡ true)
and_left true b h = (refl, h)
and_left false b h = absurd (true≢false (sym h))

not_true : (b : Bool) → not b ≡ true → b ≡ false
not_true true h = absurd (true≢false (sym h))
not_true false h = refl

plain_at : (bs : List ℕ) → has_no_space bs ≡ true → (k d : ℕ) → k < length bs → is_space (get_or bs k d) ≡ false
plain_at [] h k d below = absurd (omega arith)
plain_at (b ∷ bs) h zero d below = not_true (is_space b) (and_left (not (is_space b)) (has_no_space bs) h).0
plain_at (b ∷ bs) h (suc k) d below = plain_at bs (and_left (not (is_space b)) (has_no_space bs) h).1 k d (omega arith)

plain_from_test : (bs : List ℕ) → has_no_space bs ≡ true → All (λ x. is_space x ≡ false) bs
plain_from_test bs h = plain_at bs h

key_plain : (k : Keyword) → has_no_space (text_of k) ≡ true
key_plain key.New = refl
key_plain key.Limit = refl
key_plain key.Version = refl
key_plain key.Journal = refl
key_plain key.Reg = refl
key_plain key.Pin = refl
key_plain key.Unpin = refl
key_plain key.Repin = refl
key_plain key.Flush = refl
key_plain key.Release = refl
key_plain key.Round = refl
key_plain key.Get = refl
key_plain key.Remove = refl
key_plain key.Insert = refl
key_plain key.Present = refl
key_plain key.Add = refl
key_plain key.Drop = refl
key_plain key.OrInsert = refl
key_plain key.Cas = refl
key_plain key.Range = refl
key_plain key.Through = refl
key_plain key.Keys = refl
key_plain key.Empty = refl
key_plain key.Stats = refl
key_plain key.Begin = refl
key_plain key.Go = refl
key_plain key.Fail = refl
key_plain key.Charged = refl
key_plain key.Waiting = refl
key_plain key.Close = refl

digits_plain : (bs : List ℕ) → AllDigits 10 bs → All (λ x. is_space x ≡ false) bs
digits_plain bs h = λ k d below.
    let digit = digit_at bs k h below in
    let same : get_or bs k d ≡ get_or bs k 0 = get_or_default bs k d 0 below in
    false_from_unequal (get_or bs k d) 32 (λ e. omega arith)

word_plain : (w : Word) → IsPlain w → All (λ x. is_space x ≡ false) (spelled w)
word_plain (Key k) p = plain_from_test (text_of k) (key_plain k)
word_plain (Number n) p = digits_plain (decimal n) (decimal_is_IsNumeral n p).0.1
word_plain Other p = absurd p

-- a line that is spelled by plain words splits into them
split_spelling : (w : Word) (ws : List Word) → ArePlain (w ∷ ws) → slice_split is_space (spelling (w ∷ ws)) ≡ map spelled (w ∷ ws)
split_spelling w [] p = slice_split_none is_space (spelled w) (word_plain w p.0)
split_spelling w (v ∷ vs) p =
    slice_split_at is_space (spelled w) 32 (spelling (v ∷ vs)) (word_plain w p.0) refl ∙ ap (λ xs. spelled w ∷ xs) (split_spelling v vs p.1)

-- the words of a command within its bounds are plain
append_plain : (us ws : List Word) → ArePlain us → ArePlain ws → ArePlain (us ++ ws)
append_plain [] ws h i = i
append_plain (u ∷ us) ws h i = (h.0, append_plain us ws h.1 i)

option_plain : (k : Keyword) (o : Option ℕ) → IfSome o IsNumber → ArePlain (option_words k o)
option_plain k None h = tt
option_plain k (Some n) h = (tt, (h, tt))

call_plain : (c : LineCall) → CallFits c → ArePlain (call_words c)
call_plain call.Pin h = (tt, tt)
call_plain call.Unpin h = (tt, tt)
call_plain call.Repin h = (tt, tt)
call_plain call.Flush h = (tt, tt)
call_plain call.Release h = (tt, tt)
call_plain call.Keys h = (tt, tt)
call_plain call.Empty h = (tt, tt)
call_plain call.Stats h = (tt, tt)
call_plain (call.Get k) h = (tt, (h, tt))
call_plain (call.Remove k) h = (tt, (h, tt))
call_plain (call.Insert k v) h = (tt, (h.0, (h.1, tt)))
call_plain (call.PresentAdd k n) h = (tt, (h.0, (tt, (h.1, tt))))
call_plain (call.PresentDrop k) h = (tt, (h, (tt, tt)))
call_plain (call.OrInsert k n) h = (tt, (h.0, (h.1, tt)))
call_plain (call.Exchange k old new) h = (tt, (h.0, (h.1, (h.2, tt))))
call_plain (call.ExchangeDrop k old) h = (tt, (h.0, (h.1, (tt, tt))))
call_plain (call.Range a b n) h = (tt, (h.0, (h.1, (omega (arith, h.2), tt))))
call_plain (call.Through a b n) h = (tt, (h.0, (h.1, (omega (arith, h.2), tt))))

-- the words of a command are plain where its numbers are within its bounds
pub command_plain : (c : Command) → CommandFits c → ArePlain (command_words c)
command_plain (command.New o) h = (tt, (h.0, (h.1, append_plain _ _ (append_plain _ _ (option_plain key.Limit o.limit h.2) (option_plain key.Version o.version h.3)) (option_plain key.Journal o.journal h.4))))
command_plain command.Register h = (tt, tt)
command_plain command.Charged h = (tt, tt)
command_plain command.Waiting h = (tt, tt)
command_plain command.Journal h = (tt, tt)
command_plain command.Close h = (tt, tt)
command_plain (command.Call w c) h = (omega (arith, h.0), call_plain c h.1)
command_plain (command.Begin w c) h = (omega (arith, h.0), (tt, call_plain c h.1))
command_plain (command.Go w n) h = (omega (arith, h.0), (tt, (omega (arith, h.1.1), tt)))
command_plain (command.Fail w) h = (omega (arith, h), (tt, tt))
command_plain (command.Round w n) h = (omega (arith, h.0), (tt, (omega (arith, h.1.1), tt)))

-- a command has a word
pub command_some : (c : Command) → 0 < length (command_words c)
command_some (command.New o) = omega arith
command_some command.Register = omega arith
command_some command.Charged = omega arith
command_some command.Waiting = omega arith
command_some command.Journal = omega arith
command_some command.Close = omega arith
command_some (command.Call w c) = omega arith
command_some (command.Begin w c) = omega arith
command_some (command.Go w n) = omega arith
command_some (command.Fail w) = omega arith
command_some (command.Round w n) = omega arith

split_words : (ws : List Word) → 0 < length ws → ArePlain ws → slice_split is_space (spelling ws) ≡ map spelled ws
split_words [] h p = absurd (omega arith)
split_words (w ∷ ws) h p = split_spelling w ws p

-- a command's words are those that its line splits into
pub split_command : (c : Command) → CommandFits c → slice_split is_space (spelling (command_words c)) ≡ map spelled (command_words c)
split_command c h = split_words (command_words c) (command_some c) (command_plain c h)

-- a command has nine words at most
option_few : (k : Keyword) (o : Option ℕ) → length (option_words k o) ≤ 2
option_few k None = omega arith
option_few k (Some n) = omega arith

call_few : (c : LineCall) → length (call_words c) ≤ 4
call_few call.Pin = omega arith
call_few call.Unpin = omega arith
call_few call.Repin = omega arith
call_few call.Flush = omega arith
call_few call.Release = omega arith
call_few call.Keys = omega arith
call_few call.Empty = omega arith
call_few call.Stats = omega arith
call_few (call.Get k) = omega arith
call_few (call.Remove k) = omega arith
call_few (call.Insert k v) = omega arith
call_few (call.PresentAdd k n) = omega arith
call_few (call.PresentDrop k) = omega arith
call_few (call.OrInsert k n) = omega arith
call_few (call.Exchange k o n) = omega arith
call_few (call.ExchangeDrop k o) = omega arith
call_few (call.Range a b n) = omega arith
call_few (call.Through a b n) = omega arith

-- a command has at most nine words
pub command_few : (c : Command) → length (command_words c) ≤ 9
command_few (command.New o) = omega (
  arith,
  option_few key.Limit o.limit,
  option_few key.Version o.version,
  option_few key.Journal o.journal,
  length-append (option_words key.Limit o.limit ++ option_words key.Version o.version) (option_words key.Journal o.journal),
  length-append (option_words key.Limit o.limit) (option_words key.Version o.version),
)
command_few command.Register = omega arith
command_few command.Charged = omega arith
command_few command.Waiting = omega arith
command_few command.Journal = omega arith
command_few command.Close = omega arith
command_few (command.Call w c) = omega (arith, call_few c)
command_few (command.Begin w c) = omega (arith, call_few c)
command_few (command.Go w n) = omega arith
command_few (command.Fail w) = omega arith
command_few (command.Round w n) = omega arith
