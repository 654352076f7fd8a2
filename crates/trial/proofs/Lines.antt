-- What a line is, from the words that were read of it.
use Rattle.std.proofs.Common.{◌≡◌, ◌≢◌, ℕ, ◌<◌, ◌≤◌, List, [], ◌∷◌, map, get_or, refl, ap, sym, subst, ◌∙◌, arith, length, Some, false, ◌==◌}
use Rattle.std.proofs.lemmas.List.{length-map}
use Rattle.std.specs.List.{slice_split, onto_first, join_with_byte, AllZip}
use Rattle.std.proofs.lemmas.Bool.{true≢false}
use Rattle.std.proofs.lemmas.List.Splits.{join_with_byte-slice_split}
use Rattle.trial.specs.declared.command.Command.{Command}
use Rattle.trial.specs.declared.word.Word.{Word}
use Rattle.trial.specs.Words.{spelled, Reads}
use Rattle.trial.specs.declared.line.Line.{Line}
use Rattle.trial.specs.declared.line.Line.TheVariants as line
use Rattle.trial.specs.Line.{IsLine}
use Rattle.trial.specs.Grammar.{command_words, spelling, Spells, IsSkipped}
use Rattle.trial.specs.Parsing.{command_of}
use Rattle.trial.proofs.Commands.{command_sound, command_complete}
use Rattle.trial.proofs.Spelling.{ArePlain, small_from_read, spelled_from_read, words_from_spelled, reads_spelled, first_begins, command_plain, command_some, split_command, command_few}
use Rattle.trial.proofs.Splitting.{is_space}

-- what is parsed from a line's words is spelled by the line
pub line_sound : (line : List ℕ) (ws : List Word) (c : Command) → length line ≤ 1000 → AllZip Reads (slice_split is_space line) ws
    → command_of ws ≡ Some c → Spells line c
line_sound line ws c short read e =
    let sound = command_sound ws c (small_from_read _ ws read) e in
    let plain : ArePlain ws = subst ArePlain (sym sound.0) (command_plain c sound.1) in
    let parts : slice_split is_space line ≡ map spelled ws = spelled_from_read _ ws read plain in
    record {
      short = short;
      fits = sound.1;
      spelt = sym (join_with_byte-slice_split 32 line) ∙ ap (join_with_byte 32) parts ∙ ap spelling sound.0;
    }

-- the parts of a line that spells a command
parts_of : (line : List ℕ) (c : Command) → Spells line c → slice_split is_space line ≡ map spelled (command_words c)
parts_of line c h = ap (slice_split is_space) h.spelt ∙ split_command c h.fits

-- the words of a line that spells a command are parsed as that command
pub line_complete : (line : List ℕ) (ws : List Word) (c : Command) → AllZip Reads (slice_split is_space line) ws → Spells line c → command_of ws ≡ Some c
line_complete line ws c read h =
    let P : List (List ℕ) → Type 0 = λ parts. AllZip Reads parts ws in
    ap command_of (words_from_spelled (command_words c) ws (command_plain c h.fits) (subst P (parts_of line c h) read)) ∙ command_complete c h.fits

-- a line of more than nine words spells no command
pub no_command_so_long : (line : List ℕ) (c : Command) → 9 < length (slice_split is_space line) → Spells line c → ⊥
no_command_so_long line c long h =
    let same = ap length (parts_of line c h) in
    omega (arith, command_few c, length-map (command_words c) spelled)

-- what isn't empty and doesn't begin with `#` isn't skipped
pub not_skipped : (line : List ℕ) → (length line == 0) ≡ false → get_or line 0 0 ≢ 35 → IsSkipped line → ⊥
not_skipped [] e f h = true≢false e
not_skipped (b ∷ bs) e f h = f h.0

-- the first byte of the first part
part_begins : (b : ℕ) (parts : List (List ℕ)) → get_or (get_or (onto_first b parts) 0 []) 0 0 ≡ b
part_begins b [] = refl
part_begins b (part ∷ parts) = refl

-- a command's line is not empty and no comment
command_begins : (bytes : List ℕ) (c : Command) → Spells bytes c → 47 < get_or (get_or (slice_split is_space bytes) 0 []) 0 0
command_begins bytes c h =
    let same = ap (λ parts. get_or (get_or parts 0 []) 0 0) (parts_of bytes c h) in
    omega (arith, same, first_begins (command_words c) (command_some c) (command_plain c h.fits))

no_comment : (bytes : List ℕ) (c : Command) → IsSkipped bytes → Spells bytes c → ⊥
no_comment [] c s h = absurd (omega (arith, command_begins [] c h))
no_comment (b ∷ bs) c s h =
    let P : ℕ → Type 0 = λ x. Spells (x ∷ bs) c in
    absurd (omega (arith, part_begins 35 (slice_split is_space bs), command_begins (35 ∷ bs) c (subst P s.0 h)))

one_command : (bytes : List ℕ) (c d : Command) → Spells bytes c → Spells bytes d → d ≡ c
one_command bytes c d h i =
    let P : List (List ℕ) → Type 0 = λ parts. AllZip Reads parts (command_words d) in
    let read : AllZip Reads (slice_split is_space bytes) (command_words d)
    = subst P (sym (parts_of bytes d i)) (reads_spelled (command_words d) (command_plain d i.fits)) in
    let parsed : Some d ≡ Some c = sym (command_complete d i.fits) ∙ line_complete bytes (command_words d) c read h in
    cc

-- a line has one meaning
pub one_meaning : (bytes : List ℕ) (l other : Line) → IsLine bytes l → IsLine bytes other → other ≡ l
one_meaning bytes line.Skipped line.Skipped h i = refl
one_meaning bytes line.Skipped (line.Command d) h i = absurd (no_comment bytes d h i)
one_meaning bytes line.Skipped line.Bad h i = absurd (i.not_skipped h)
one_meaning bytes (line.Command c) line.Skipped h i = absurd (no_comment bytes c i h)
one_meaning bytes (line.Command c) (line.Command d) h i = ap line.Command (one_command bytes c d h i)
one_meaning bytes (line.Command c) line.Bad h i = absurd (i.no_command c h)
one_meaning bytes line.Bad line.Skipped h i = absurd (h.not_skipped i)
one_meaning bytes line.Bad (line.Command d) h i = absurd (h.no_command d i)
one_meaning bytes line.Bad line.Bad h i = refl
