-- Each keyword stands in the table, and no two are spelled alike.
use Rattle.std.proofs.Common.{◌≡◌, ℕ, ◌<◌, List, [], ◌∷◌, refl, ap, sym, ◌∙◌, Option, Some, get_or, lit<, find}
use Rattle.std.specs.Str.{bytes_eq}
use Rattle.trial.specs.declared.keyword.Keyword.{Keyword}
use Rattle.trial.specs.declared.keyword.Keyword.TheVariants as key
use Rattle.trial.specs.Words.{text_of}

-- the table in its order
abbrev pub all : List Keyword
all = key.Get ∷ key.Insert ∷ key.Remove ∷ key.Pin ∷ key.Unpin ∷ key.Round ∷ key.Flush ∷ key.Repin ∷ key.OrInsert
    ∷ key.Present ∷ key.Add ∷ key.Drop ∷ key.Cas ∷ key.Range ∷ key.Through ∷ key.Keys ∷ key.Empty ∷ key.Stats
    ∷ key.Begin ∷ key.Go ∷ key.Fail ∷ key.Reg ∷ key.Release ∷ key.New ∷ key.Limit ∷ key.Version ∷ key.Journal
    ∷ key.Charged ∷ key.Waiting ∷ key.Close ∷ []

-- a keyword's place in the table
abbrev pub place_of : Keyword → ℕ
place_of key.New = 23
place_of key.Limit = 24
place_of key.Version = 25
place_of key.Journal = 26
place_of key.Reg = 21
place_of key.Pin = 3
place_of key.Unpin = 4
place_of key.Repin = 7
place_of key.Flush = 6
place_of key.Release = 22
place_of key.Round = 5
place_of key.Get = 0
place_of key.Remove = 2
place_of key.Insert = 1
place_of key.Present = 9
place_of key.Add = 10
place_of key.Drop = 11
place_of key.OrInsert = 8
place_of key.Cas = 12
place_of key.Range = 13
place_of key.Through = 14
place_of key.Keys = 15
place_of key.Empty = 16
place_of key.Stats = 17
place_of key.Begin = 18
place_of key.Go = 19
place_of key.Fail = 20
place_of key.Charged = 27
place_of key.Waiting = 28
place_of key.Close = 29

-- each keyword stands at its place in the list of all
pub at_place : (k d : Keyword) → get_or all (place_of k) d ≡ k
at_place key.New d = refl
at_place key.Limit d = refl
at_place key.Version d = refl
at_place key.Journal d = refl
at_place key.Reg d = refl
at_place key.Pin d = refl
at_place key.Unpin d = refl
at_place key.Repin d = refl
at_place key.Flush d = refl
at_place key.Release d = refl
at_place key.Round d = refl
at_place key.Get d = refl
at_place key.Remove d = refl
at_place key.Insert d = refl
at_place key.Present d = refl
at_place key.Add d = refl
at_place key.Drop d = refl
at_place key.OrInsert d = refl
at_place key.Cas d = refl
at_place key.Range d = refl
at_place key.Through d = refl
at_place key.Keys d = refl
at_place key.Empty d = refl
at_place key.Stats d = refl
at_place key.Begin d = refl
at_place key.Go d = refl
at_place key.Fail d = refl
at_place key.Charged d = refl
at_place key.Waiting d = refl
at_place key.Close d = refl

-- there are 30 places
pub place_below : (k : Keyword) → place_of k < 30
place_below key.New = lit< tt
place_below key.Limit = lit< tt
place_below key.Version = lit< tt
place_below key.Journal = lit< tt
place_below key.Reg = lit< tt
place_below key.Pin = lit< tt
place_below key.Unpin = lit< tt
place_below key.Repin = lit< tt
place_below key.Flush = lit< tt
place_below key.Release = lit< tt
place_below key.Round = lit< tt
place_below key.Get = lit< tt
place_below key.Remove = lit< tt
place_below key.Insert = lit< tt
place_below key.Present = lit< tt
place_below key.Add = lit< tt
place_below key.Drop = lit< tt
place_below key.OrInsert = lit< tt
place_below key.Cas = lit< tt
place_below key.Range = lit< tt
place_below key.Through = lit< tt
place_below key.Keys = lit< tt
place_below key.Empty = lit< tt
place_below key.Stats = lit< tt
place_below key.Begin = lit< tt
place_below key.Go = lit< tt
place_below key.Fail = lit< tt
place_below key.Charged = lit< tt
place_below key.Waiting = lit< tt
place_below key.Close = lit< tt

-- the keyword that a text spells
abbrev pub named : List ℕ → Option Keyword
named bytes = find (λ k. bytes_eq (text_of k) bytes) all

-- each keyword's text spells that keyword
named_text : (k : Keyword) → named (text_of k) ≡ Some k
named_text key.New = refl
named_text key.Limit = refl
named_text key.Version = refl
named_text key.Journal = refl
named_text key.Reg = refl
named_text key.Pin = refl
named_text key.Unpin = refl
named_text key.Repin = refl
named_text key.Flush = refl
named_text key.Release = refl
named_text key.Round = refl
named_text key.Get = refl
named_text key.Remove = refl
named_text key.Insert = refl
named_text key.Present = refl
named_text key.Add = refl
named_text key.Drop = refl
named_text key.OrInsert = refl
named_text key.Cas = refl
named_text key.Range = refl
named_text key.Through = refl
named_text key.Keys = refl
named_text key.Empty = refl
named_text key.Stats = refl
named_text key.Begin = refl
named_text key.Go = refl
named_text key.Fail = refl
named_text key.Charged = refl
named_text key.Waiting = refl
named_text key.Close = refl

-- no two keywords are spelled alike
pub one_spelling : (j k : Keyword) → text_of j ≡ text_of k → j ≡ k
one_spelling j k e =
    let same : Some j ≡ Some k = sym (named_text j) ∙ ap named e ∙ named_text k in
    cc

-- a keyword begins with a letter
pub begins_with_letter : (k : Keyword) → 57 < get_or (text_of k) 0 0
begins_with_letter key.New = lit< tt
begins_with_letter key.Limit = lit< tt
begins_with_letter key.Version = lit< tt
begins_with_letter key.Journal = lit< tt
begins_with_letter key.Reg = lit< tt
begins_with_letter key.Pin = lit< tt
begins_with_letter key.Unpin = lit< tt
begins_with_letter key.Repin = lit< tt
begins_with_letter key.Flush = lit< tt
begins_with_letter key.Release = lit< tt
begins_with_letter key.Round = lit< tt
begins_with_letter key.Get = lit< tt
begins_with_letter key.Remove = lit< tt
begins_with_letter key.Insert = lit< tt
begins_with_letter key.Present = lit< tt
begins_with_letter key.Add = lit< tt
begins_with_letter key.Drop = lit< tt
begins_with_letter key.OrInsert = lit< tt
begins_with_letter key.Cas = lit< tt
begins_with_letter key.Range = lit< tt
begins_with_letter key.Through = lit< tt
begins_with_letter key.Keys = lit< tt
begins_with_letter key.Empty = lit< tt
begins_with_letter key.Stats = lit< tt
begins_with_letter key.Begin = lit< tt
begins_with_letter key.Go = lit< tt
begins_with_letter key.Fail = lit< tt
begins_with_letter key.Charged = lit< tt
begins_with_letter key.Waiting = lit< tt
begins_with_letter key.Close = lit< tt
