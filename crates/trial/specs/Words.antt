-- The words of the script's language.
use Rattle.std.specs.Prelude.{◌≡◌, ◌<◌, ◌^◌, ℕ, List, [], decimal, codes}
use Rattle.trial.specs.declared.keyword.Keyword.{Keyword}
use Rattle.trial.specs.declared.keyword.Keyword.TheVariants as key
use Rattle.trial.specs.declared.word.Word.{Word}
use Rattle.trial.specs.declared.word.Word.TheVariants as word

-- how a keyword is spelled
abbrev pub text_of : Keyword → List ℕ
text_of key.New = codes "new"
text_of key.Limit = codes "limit"
text_of key.Version = codes "version"
text_of key.Journal = codes "journal"
text_of key.Reg = codes "reg"
text_of key.Pin = codes "pin"
text_of key.Unpin = codes "unpin"
text_of key.Repin = codes "repin"
text_of key.Flush = codes "flush"
text_of key.Release = codes "release"
text_of key.Round = codes "round"
text_of key.Get = codes "get"
text_of key.Remove = codes "remove"
text_of key.Insert = codes "insert"
text_of key.Present = codes "present"
text_of key.Add = codes "add"
text_of key.Drop = codes "drop"
text_of key.OrInsert = codes "orinsert"
text_of key.Cas = codes "cas"
text_of key.Range = codes "range"
text_of key.Through = codes "through"
text_of key.Keys = codes "keys"
text_of key.Empty = codes "empty"
text_of key.Stats = codes "stats"
text_of key.Begin = codes "begin"
text_of key.Go = codes "go"
text_of key.Fail = codes "fail"
text_of key.Charged = codes "charged"
text_of key.Waiting = codes "waiting"
text_of key.Close = codes "close"

-- how a word is spelled: a keyword by its text, a number by its decimal
abbrev pub spelled : Word → List ℕ
spelled (word.Key k) = text_of k
spelled (word.Number n) = decimal n
spelled word.Other = []

-- what the bytes of a word are read as
abbrev pub Reads : List ℕ → Word → Type 0
Reads bytes (word.Key k) = bytes ≡ text_of k
Reads bytes (word.Number n) = (bytes ≡ decimal n) × (n < 2 ^ 64)
Reads bytes word.Other = ((k : Keyword) → bytes ≡ text_of k → ⊥) × ((n : ℕ) → n < 2 ^ 64 → bytes ≡ decimal n → ⊥)
