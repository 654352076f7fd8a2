-- Texts that pass through the buffer one after the other.
use Rattle.std.proofs.Common.{◌≡◌, ℕ, ◌+◌, ◌<◌, List, [], ◌∷◌, ◌++◌, length, get_or, take, drop, ap, sym, ◌∙◌, append_assoc, append-nil, take-append-drop, subst, Option, Result, Ok, Err, OnOk, IfErr}
use Rattle.std.specs.Io.KnownBytes.{Appends}
use Rattle.std.specs.List.{flat_map}
use Rattle.std.proofs.lemmas.List.{take_more}
use Rattle.std.proofs.lemmas.Grind.{flat_map-append}
use Rattle.std.proofs.KnownBytes.{Appends-trans}
use Rattle.trial.specs.declared.end.End.{End}
use Rattle.trial.specs.declared.end.End.TheVariants as end
use Rattle.trial.specs.Output.{Passes, Breaks}

-- a text that is held back alone
pub passes_alone : (had has : Option (List ℕ)) (old new text : List ℕ) → Appends had has old → new ≡ text → Passes had old has new text
passes_alone had has old new text a e = record { out = old; wrote = a; rest = ap (λ t. old ++ t) (sym e) }

-- a text that is written too
pub passes_by : (had has mid : Option (List ℕ)) (old new text : List ℕ) → Appends had mid old → Appends mid has text → new ≡ [] → Passes had old has new text
passes_by had has mid old new text a b e = record {
  out = old ++ text;
  wrote = Appends-trans _ _ _ _ _ a b;
  rest = sym (append-nil (old ++ text)) ∙ ap (λ t. (old ++ text) ++ t) (sym e);
}

-- what was held back goes out in part
pub breaks_before : (had has : Option (List ℕ)) (old text : List ℕ) (n : ℕ) → Appends had has (take n old) → Breaks had old has text
breaks_before had has old text n a = record {
  out = take n old;
  lost = drop n old ++ text;
  wrote = a;
  rest = ap (λ t. t ++ text) (sym (take-append-drop n old)) ∙ append_assoc (take n old) (drop n old) text;
}

-- a text that is written too goes out in part
pub breaks_within : (had has mid : Option (List ℕ)) (old text : List ℕ) (n : ℕ) → Appends had mid old → Appends mid has (take n text) → Breaks had old has text
breaks_within had has mid old text n a b = record {
  out = old ++ take n text;
  lost = drop n text;
  wrote = Appends-trans _ _ _ _ _ a b;
  rest = ap (λ t. old ++ t) (sym (take-append-drop n text)) ∙ sym (append_assoc old (take n text) (drop n text));
}

-- two texts
pub passes_both : (had mid has : Option (List ℕ)) (old between new first second : List ℕ) → Passes had old mid between first → Passes mid between has new second
    → Passes had old has new (first ++ second)
passes_both had mid has old between new first second p q = record {
  out = p.out ++ q.out;
  wrote = Appends-trans _ _ _ _ _ p.wrote q.wrote;
  rest = sym (append_assoc old first second) ∙ ap (λ t. t ++ second) p.rest ∙ append_assoc p.out between second ∙ ap (λ t. p.out ++ t) q.rest
      ∙ sym (append_assoc p.out q.out new);
}

-- the second of three texts is cut
pub breaks_between : (had mid has : Option (List ℕ)) (old between first second third : List ℕ) → Passes had old mid between first → Breaks mid between has second
    → Breaks had old has ((first ++ second) ++ third)
breaks_between had mid has old between first second third p b = record {
  out = p.out ++ b.out;
  lost = b.lost ++ third;
  wrote = Appends-trans _ _ _ _ _ p.wrote b.wrote;
  rest = ap (λ t. old ++ t) (append_assoc first second third) ∙ sym (append_assoc old first (second ++ third)) ∙ ap (λ t. t ++ (second ++ third)) p.rest
      ∙ append_assoc p.out between (second ++ third) ∙ ap (λ t. p.out ++ t) (sym (append_assoc between second third) ∙ ap (λ t. t ++ third) b.rest ∙ append_assoc b.out b.lost third)
      ∙ sym (append_assoc p.out b.out (b.lost ++ third));
}

-- the first of two
pub breaks_first : (had has : Option (List ℕ)) (old first second : List ℕ) → Breaks had old has first → Breaks had old has (first ++ second)
breaks_first had has old first second b = record {
  out = b.out;
  lost = b.lost ++ second;
  wrote = b.wrote;
  rest = sym (append_assoc old first second) ∙ ap (λ t. t ++ second) b.rest ∙ append_assoc b.out b.lost second;
}

-- the last of two
pub breaks_last : (had mid has : Option (List ℕ)) (old between first second : List ℕ) → Passes had old mid between first → Breaks mid between has second
    → Breaks had old has (first ++ second)
breaks_last had mid has old between first second p b =
    let P : List ℕ → Type 0 = Breaks had old has in
    subst P (append-nil (first ++ second)) (breaks_between had mid has old between first second [] p b)

-- a call that puts the last of two texts
pub puts_last : (r : Result (Unit {0}) End) (had mid has : Option (List ℕ)) (old between new first second : List ℕ) → Passes had old mid between first
    → OnOk r (Passes mid between has new second) → OnOk r (Passes had old has new (first ++ second))
puts_last (Ok u) had mid has old between new first second p q = passes_both had mid has old between new first second p q
puts_last (Err e) had mid has old between new first second p q = tt

-- a call by which the writer fails at the last of them: it took a front of both
pub stops_last : (r : Result (Unit {0}) End) (had mid has : Option (List ℕ)) (old between first second : List ℕ) → Passes had old mid between first
    → IfErr r (λ e. (e ≡ end.Writing) × Breaks mid between has second) → IfErr r (λ e. (e ≡ end.Writing) × Breaks had old has (first ++ second))
stops_last (Ok u) had mid has old between first second p b = tt
stops_last (Err e) had mid has old between first second p b = (b.0, breaks_last had mid has old between first second p b.1)

-- what the first elements print, and one more
pub texts_more : {X : Type 0} (text : X → List ℕ) (xs : List X) (i : ℕ) (d : X) → i < length xs → flat_map text (take (i + 1) xs) ≡ flat_map text (take i xs) ++ text (get_or xs i d)
texts_more text xs i d h =
    ap (flat_map text) (take_more xs i d h) ∙ flat_map-append text (take i xs) (get_or xs i d ∷ []) ∙ ap (λ t. flat_map text (take i xs) ++ t) (append-nil (text (get_or xs i d)))

-- and those after it
pub texts_around : {X : Type 0} (text : X → List ℕ) (xs : List X) (i : ℕ) (d : X) → i < length xs
    → flat_map text xs ≡ (flat_map text (take i xs) ++ text (get_or xs i d)) ++ flat_map text (drop (i + 1) xs)
texts_around text xs i d h =
    ap (flat_map text) (sym (take-append-drop (i + 1) xs)) ∙ flat_map-append text (take (i + 1) xs) (drop (i + 1) xs)
    ∙ ap (λ t. t ++ flat_map text (drop (i + 1) xs)) (texts_more text xs i d h)
