-- The words of a line, as far as it has been read.
use Rattle.std.proofs.Common.{◌≡◌, ◌≢◌, ℕ, ◌+◌, ◌-◌, ◌<◌, ◌≤◌, ◌==◌, List, [], ◌∷◌, ◌++◌, length, take, drop, get_or, subst, inl, inr, ◌⊎◌, length-drop, take_all, length-take, drop-drop, ap, sym, ◌∙◌, append_assoc, arith, true, false, Bool, length-append}
use Rattle.std.specs.List.{slice_split, AllZip, All}
use Rattle.std.proofs.lemmas.List.Splits.{slice_split_at, slice_split_none, length-slice_split}
use Rattle.std.proofs.lemmas.Slice.Zip.{AllZip-long}
use Rattle.std.proofs.lemmas.List.{get_or-take, get_or-drop, get_or_default, take-append-drop, drop_more}
use Rattle.std.proofs.lemmas.Bool.Decides.{eqb_tells}
use Rattle.std.proofs.lemmas.Bool.{true≢false}
use Rattle.std.proofs.Math.Dec.{eqb}
use Rattle.trial.specs.declared.word.Word.{Word}
use Rattle.trial.specs.Words.{Reads}

-- the byte is a space
abbrev pub is_space : ℕ → Bool
is_space b = b == 32

-- The words are those before start, and from there to i no space stands.
pub record Lexed (line : List ℕ) (start i : ℕ) (words : List Word) : Type 0 where
  pub parts : List (List ℕ)
  pub read : AllZip Reads parts words
  pub split : slice_split is_space line ≡ parts ++ slice_split is_space (drop start line)
  pub below : start ≤ i
  pub plain : (k : ℕ) → start ≤ k → k < i → is_space (get_or line k 0) ≡ false

-- no space in a part of the line
part_plain : (line : List ℕ) (start i : ℕ) → i ≤ length line → ((k : ℕ) → start ≤ k → k < i → is_space (get_or line k 0) ≡ false)
    → All (λ x. is_space x ≡ false) (take (i - start) (drop start line))
part_plain line start i h plain = λ k d below.
    let short : k < i - start = omega (arith, length-take (i - start) (drop start line)) in
    let here : get_or (take (i - start) (drop start line)) k d ≡ get_or line (start + k) d
    = get_or-take (i - start) (drop start line) k d short ∙ get_or-drop start line k d in
    let there : get_or line (start + k) d ≡ get_or line (start + k) 0 = get_or_default line (start + k) d 0 (omega arith) in
    ap is_space (here ∙ there) ∙ plain (start + k) (omega arith) (omega arith)

-- one word more
zip_push : (xs : List (List ℕ)) (ys : List Word) (x : List ℕ) (y : Word) → AllZip Reads xs ys → Reads x y → AllZip Reads (xs ++ x ∷ []) (ys ++ y ∷ [])
zip_push [] [] x y h r = (r, tt)
zip_push [] (w ∷ ws) x y h r = absurd h
zip_push (z ∷ zs) [] x y h r = absurd h
zip_push (z ∷ zs) (w ∷ ws) x y h r = (h.0, zip_push zs ws x y h.1 r)

-- the rest of the line from start on, cut at i
pub cut_at : (line : List ℕ) (start i : ℕ) → start ≤ i → i < length line
    → drop start line ≡ take (i - start) (drop start line) ++ get_or line i 0 ∷ drop (i + 1) line
cut_at line start i h below =
    let onwards : drop (i - start) (drop start line) ≡ drop i line = drop-drop (i - start) start line ∙ ap (λ n. drop n line) (omega arith) in
    sym (take-append-drop (i - start) (drop start line))
    ∙ ap (λ xs. take (i - start) (drop start line) ++ xs) (onwards ∙ drop_more line i 0 below)

-- a number below i + 1 is below i, or i
pub trichotomy : (k i : ℕ) → k < i + 1 → (k < i) ⊎ (k ≡ i)
trichotomy k i h = grind arith

-- at a space the part before it is a word
pub at_space : (line : List ℕ) (start i : ℕ) (words : List Word) (w : Word) → Lexed line start i words → i < length line
    → is_space (get_or line i 0) ≡ true → Reads (take (i - start) (drop start line)) w → Lexed line (i + 1) (i + 1) (words ++ w ∷ [])
at_space line start i words w l h space r =
    let front = take (i - start) (drop start line) in
    let cut = cut_at line start i l.below h in
    record {
      parts = l.parts ++ front ∷ [];
      read = zip_push _ _ _ _ l.read r;
      split = l.split ∙ ap (λ xs. l.parts ++ slice_split is_space xs) cut
          ∙ ap (λ xs. l.parts ++ xs) (slice_split_at is_space front _ _ (part_plain line start i (omega arith) l.plain) space)
          ∙ sym (append_assoc l.parts (front ∷ []) _);
      below = omega arith;
      plain = λ k a b. absurd (omega arith);
    }

-- at another byte the part goes on
pub at_other : (line : List ℕ) (start i : ℕ) (words : List Word) → Lexed line start i words → is_space (get_or line i 0) ≡ false → Lexed line start (i + 1) words
at_other line start i words l h = record {
  parts = l.parts;
  read = l.read;
  split = l.split;
  below = omega (arith, l.below);
  plain = λ k a b. elim (trichotomy k i b) [ inl below ↦ l.plain k a below | inr at ↦ ap (λ j. is_space (get_or line j 0)) at ∙ h ];
}

-- the whole line is split
pub at_end : (line : List ℕ) (start i : ℕ) (words : List Word) (w : Word) → Lexed line start i words → length line ≤ i
    → Reads (take (length line - start) (drop start line)) w → AllZip Reads (slice_split is_space line) (words ++ w ∷ [])
at_end line start i words w l end read =
    let all : take (length line - start) (drop start line) ≡ drop start line =
    take_all (length line - start) (drop start line) (omega (arith, length-drop start line)) in
    let R : List ℕ → Type 0 = λ xs. Reads xs w in
    let r : Reads (drop start line) w = subst R all read in
    let plain : All (λ x. is_space x ≡ false) (drop start line) = λ k d below.
    ap is_space (get_or-drop start line k d ∙ get_or_default line (start + k) d 0 (omega (arith, length-drop start line)))
    ∙ l.plain (start + k) (omega arith) (omega (arith, length-drop start line)) in
    let whole : slice_split is_space line ≡ l.parts ++ drop start line ∷ [] =
    l.split ∙ ap (λ xs. l.parts ++ xs) (slice_split_none is_space (drop start line) plain) in
    let P : List (List ℕ) → Type 0 = λ xs. AllZip Reads xs (words ++ w ∷ []) in
    subst P (sym whole) (zip_push l.parts words (drop start line) w l.read r)

-- a word more than there was room for
pub too_many : (line : List ℕ) (start i : ℕ) (words : List Word) → Lexed line start i words → length words ≡ 9 → 9 < length (slice_split is_space line)
too_many line start i words l h = omega (
  arith,
  AllZip-long Reads l.parts words l.read,
  ap length l.split,
  length-append l.parts (slice_split is_space (drop start line)),
  length-slice_split is_space (drop start line),
)

-- a test by equality, as a fact
pub equal_from_true : (m n : ℕ) → eqb m n ≡ true → m ≡ n
equal_from_true m n h = elim (eqb_tells m n) [ inl p ↦ p.1 | inr p ↦ absurd (true≢false (sym h ∙ p.0)) ]

-- and its failure, of numbers that differ
pub false_from_unequal : (m n : ℕ) → m ≢ n → eqb m n ≡ false
false_from_unequal m n h = elim (eqb_tells m n) [ inl p ↦ absurd (h p.1) | inr p ↦ p.0 ]
