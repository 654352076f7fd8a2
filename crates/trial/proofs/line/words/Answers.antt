use Rattle.std.proofs.Common.{◌≡◌, ℕ, List, sym, ◌∙◌, ap, subst}
use Rattle.std.specs.List.{slice_split, AllZip}
use Rattle.trial.specs.Words.{Reads}
use Rattle.trial.specs.declared.word.Word.{Word}
use Rattle.trial.proofs.Splitting.{Lexed, is_space, at_space, at_other, at_end, too_many, equal_from_true, false_from_unequal}
use Rattle.trial.proofs.line.words.Goals as goal
use Rattle.trial.proofs.line.words.Goals.{then-byte-eq32+else-is_full, else-byte-eq32}

pub returns-then-is_full-clause-none : goal.returns-then-is_full-clause-none
returns-then-is_full-clause-none c =
    too_many _ _ _ _ c.loop-i.invariant (equal_from_true _ _ (sym c.is_full.ensures.value ∙ c.if-is_full.true))

-- the invariant at other names of the same values
moved : (line : List ℕ) (start start' i : ℕ) (words words' : List Word) → start' ≡ start → words' ≡ words → Lexed line start i words → Lexed line start' i words'
moved line start start' i words words' s w h =
    let P : List Word → Type 0 = λ ws. Lexed line start' i ws in
    let Q : ℕ → Type 0 = λ n. Lexed line n i words in
    subst P (sym w) (subst Q (sym s) h)

pub loop-i-preserved : goal.loop-i-preserved
loop-i-preserved c = elim c.if-byte-eq32.branch [
  | then-byte-eq32+else-is_full w ↦ moved _ _ _ _ _ _ w.start-is (ap (λ v. v.items) w.words-is ∙ w.push.ensures.items)
      (at_space _ _ _ _ _ c.loop-i.invariant c.loop-i-test.true (ap is_space w.if-byte-eq32.true) w.of.ensures)
  | else-byte-eq32 w ↦ moved _ _ _ _ _ _ w.start-is (ap (λ v. v.items) w.words-is)
      (at_other _ _ _ _ c.loop-i.invariant (false_from_unequal _ 32 w.if-byte-eq32.false))
]

pub returns-then-is_full-2-clause-none : goal.returns-then-is_full-2-clause-none
returns-then-is_full-2-clause-none c =
    too_many _ _ _ _ c.loop-i.invariant (equal_from_true _ _ (sym c.is_full-2.ensures.value ∙ c.if-is_full-2.true))

pub returns-clause-words : goal.returns-clause-words
returns-clause-words c =
    let P : List Word → Type 0 = λ ws. AllZip Reads (slice_split is_space c.args.line.now) ws in
    subst P (sym c.push-2.ensures.items)
    (at_end _ _ _ _ _ c.loop-i.invariant c.loop-i-test.false c.of-2.ensures)
