-- What was printed of a script that is under way, as a front of what its lines print.
use Rattle.std.proofs.Common.{◌≡◌, ◌≢◌, ℕ, ◌+◌, ◌<◌, ◌≤◌, List, [], ◌∷◌, ◌++◌, length, take, drop, refl, ap, sym, subst, ◌∙◌, append_assoc, append-nil, arith, length-append, take-append-drop, inl, inr, ◌⊎◌, suc, Option, None, Some, IfSome, true, false}
use Rattle.std.specs.List.{AllByRecursion, onto_first}
use Rattle.std.specs.Io.KnownBytes.{Consumes, Appends, IsAtEnd, Keeps}
use Rattle.std.proofs.KnownBytes.{Appends-nil, Appends-trans, Consumes-nil, Consumes-trans, Consumes-kept, Keeps-refl}
use Rattle.std.proofs.Math.Seq.{take-append_seam}
use Rattle.trial.specs.declared.end.End.{End}
use Rattle.trial.specs.declared.end.End.TheVariants as end
use Rattle.trial.specs.declared.script.Script.{Script}
use Rattle.trial.specs.declared.run.Program.{Program}
use Rattle.trial.specs.Line.{IsBad}
use Rattle.trial.specs.Session.{Session}
use Rattle.trial.specs.Script.{LinesAnswer, AreAnswered, lines_of, NoFeed, fed, WholeLines, AllWhole, FirstLines, SomeLines, AllLines, UpToBad, Prints, input_max, read_max}
use Rattle.trial.specs.Texts.{bad_line_text}
use Rattle.trial.specs.Output.{Passes, Breaks}
use Rattle.trial.specs.Turns.{LineGoes, LineStops, LinesGo, LinesStop, FirstStops, IsDue, IsDueFirst, BeginsBad}
use Rattle.trial.specs.Going.{Going, Ends, EndsBy, Ran, IsWritten}
use Rattle.trial.proofs.Feeding.{answers_more, long_is_bad}
use Rattle.trial.proofs.Passing.{passes_both, breaks_last}
use Rattle.trial.proofs.Splitting.{false_from_unequal, equal_from_true}
use Rattle.std.proofs.Math.Dec.{eqb}
use Rattle.std.proofs.lemmas.Bool.{true≢false}

-- the rest of bytes without a line feed has none
unfed_rest : (b : ℕ) (bs : List ℕ) → NoFeed (b ∷ bs) → NoFeed bs
unfed_rest b bs h = λ k d below. h (suc k) d (omega arith)

not_feed : (b : ℕ) (bs : List ℕ) → NoFeed (b ∷ bs) → (b ≢ 10)
not_feed b bs h = h 0 0 (omega arith)

-- the first line ends at the first line feed
lines_line : (line rest : List ℕ) → NoFeed line → lines_of (line ++ 10 ∷ rest) ≡ line ∷ lines_of rest
lines_line [] rest h = refl
lines_line (b ∷ bs) rest h = rw (false_from_unequal b 10 (not_feed b bs h)) (ap (onto_first b) (lines_line bs rest (unfed_rest b bs h)))

-- what has no line feed is one line
lines_last : (b : ℕ) (line : List ℕ) → NoFeed (b ∷ line) → lines_of (b ∷ line) ≡ (b ∷ line) ∷ []
lines_last b [] h = rw (false_from_unequal b 10 (not_feed b [] h)) refl
lines_last b (c ∷ line) h = rw (false_from_unequal b 10 (not_feed b (c ∷ line) h)) (ap (onto_first b) (lines_last c line (unfed_rest b (c ∷ line) h)))

-- the lines of bytes that begin with whole ones are these, and then those of the rest
lines_fed : (before : List (List ℕ)) (rest : List ℕ) → AllByRecursion NoFeed before → lines_of (fed before ++ rest) ≡ before ++ lines_of rest
lines_fed [] rest h = refl
lines_fed (l ∷ ls) rest h =
    ap lines_of (append_assoc l (10 ∷ fed ls) rest) ∙ lines_line l (fed ls ++ rest) h.0 ∙ ap (λ xs. l ∷ xs) (lines_fed ls rest h.1)

fed_append : (xs ys : List (List ℕ)) → fed (xs ++ ys) ≡ fed xs ++ fed ys
fed_append [] ys = refl
fed_append (x ∷ xs) ys = ap (λ zs. x ++ 10 ∷ zs) (fed_append xs ys) ∙ sym (append_assoc x (10 ∷ fed xs) (fed ys))

feeds_append : (xs ys : List (List ℕ)) → AllByRecursion NoFeed xs → AllByRecursion NoFeed ys → AllByRecursion NoFeed (xs ++ ys)
feeds_append [] ys h i = i
feeds_append (x ∷ xs) ys h i = (h.0, feeds_append xs ys h.1 i)

answers_append : (old mid new : Session) (xs ys : List (List ℕ)) (t u : List ℕ) → LinesAnswer old xs mid t → LinesAnswer mid ys new u → LinesAnswer old (xs ++ ys) new (t ++ u)
answers_append old mid new [] ys t u h i =
    let P : Session → Type 0 = λ s. LinesAnswer s ys new u in
    let Q : List ℕ → Type 0 = λ x. LinesAnswer old ys new (x ++ u) in
    subst Q (sym h.1) (subst P h.0 i)
answers_append old mid new (x ∷ xs) ys t u h i =
    (h.0, h.1, h.2 ++ u, h.3, answers_append h.0 mid new xs ys h.2 u h.4 i, ap (λ z. z ++ u) h.5 ∙ append_assoc h.1 h.2 u)

few : (before : List (List ℕ)) → length before ≤ length (fed before)
few [] = omega arith
few (l ∷ ls) = omega (arith, few ls, length-append l (10 ∷ fed ls))

-- fewer lines than bytes were taken
pub few_lines : (had left held holds : Option (List ℕ)) (p : Program) → Going had left held holds p → p.script.lines ≤ input_max
few_lines had left held holds p g = omega (arith, g.lines, few g.before, ap length g.whole, length-append (fed g.before) p.unread.items, g.taken, g.bound)

-- the first lines of an input that begins with them
first_lines : (input tail text : List ℕ) (before : List (List ℕ)) (new : Session) → input ≡ fed before ++ tail → AllByRecursion NoFeed before
    → LinesAnswer None before new text → FirstLines AreAnswered input before (lines_of tail) text
first_lines input tail text before new e f a = (ap lines_of e ∙ lines_fed before tail f, (new, a))

-- what was given is a front of the input
given_front : (input : List ℕ) (left : Option (List ℕ)) (given : List ℕ) → Consumes (Some input) left given → (x : List ℕ) × (input ≡ given ++ x)
given_front input None given c = absurd c
given_front input (Some x) given c = (x, c)

-- the lines that end within a front of the input are first lines of it
some_lines : (input front tail text : List ℕ) → input ≡ front ++ tail → AllWhole AreAnswered front text → SomeLines AreAnswered input text
some_lines input front tail text e a =
    let w = a.1 in (
      a.0,
      lines_of (w.rest ++ tail),
      first_lines input (w.rest ++ tail) text a.0 a.2.0 (e ∙ ap (λ t. t ++ tail) w.whole ∙ append_assoc (fed a.0) w.rest tail) w.feeds a.2.1,
    )

no_more : (input text : List ℕ) (before after : List (List ℕ)) → FirstLines AreAnswered input before after text → FirstLines AreAnswered input (before ++ []) after text
no_more input text before after f = let P : List (List ℕ) → Type 0 = λ ls. FirstLines AreAnswered input ls after text in subst P (sym (append-nil before)) f

-- the input of a script that is under way
input_is : (input : List ℕ) (left held holds : Option (List ℕ)) (p : Program) → (g : Going (Some input) left held holds p)
    → (rest : List ℕ) × (left ≡ Some rest) × (input ≡ fed g.before ++ (p.unread.items ++ rest))
input_is input None held holds p g = absurd g.read
input_is input (Some rest) held holds p g = (rest, refl, g.read ∙ ap (λ t. t ++ rest) g.whole ∙ append_assoc (fed g.before) p.unread.items rest)

whole_lines : (had left held holds : Option (List ℕ)) (p : Program) → (g : Going had left held holds p) → WholeLines g.given g.before
whole_lines had left held holds p g = record { rest = p.unread.items; whole = g.whole; feeds = g.feeds; unfed = g.unfed }

-- the lines that were whole are answered
reading_end : (had mid left held holds : Option (List ℕ)) (p : Program) → Going had mid held holds p → Keeps mid left → Ends had left held holds p end.Reading
reading_end None mid left held holds p g k = tt
reading_end (Some input) mid left held holds p g k =
    (g.given, g.text, Consumes-kept (Some input) mid left g.given g.read k, (g.before, whole_lines (Some input) mid held holds p g, (p.script.session, g.answers)), g.passes)

-- a growth was refused before a line of the last read was answered
pub memory_end : (had mid left held holds holds' : Option (List ℕ)) (last back : List ℕ) (p : Program) → Going had mid held holds p → Consumes mid left last → length last ≤ read_max
    → (holds' ≡ holds) × (back ≡ p.script.output) → EndsBy had left held holds' back end.Memory
memory_end None mid left held holds holds' last back p g c short same = tt
memory_end (Some input) mid left held holds holds' last back p g c short same =
    let i = input_is input mid held holds p g in
    let P : Option (List ℕ) → Type 0 = λ h. Passes held [] h back g.text in
    let Q : List ℕ → Type 0 = λ b. Passes held [] holds b g.text in (
      g.given ++ last,
      g.text,
      Consumes-trans (Some input) mid left g.given last g.read c,
      record {
        before = g.given;
        last = last;
        reads = refl;
        bound = short;
        lines = g.before;
        more = [];
        after = lines_of (p.unread.items ++ i.0);
        whole = whole_lines (Some input) mid held holds p g;
        first = no_more input _ g.before _ (first_lines input (p.unread.items ++ i.0) _ g.before p.script.session i.2 g.feeds g.answers);
      },
      subst P (sym same.0) (subst Q (sym same.1) g.passes),
    )

at_end_rest : (left : Option (List ℕ)) (rest : List ℕ) → left ≡ Some rest → IsAtEnd left → rest ≡ []
at_end_rest left rest e h = subst IsAtEnd e h

all_lines : (input text : List ℕ) (lines : List (List ℕ)) (new : Session) → length input ≤ input_max → lines_of input ≡ lines → LinesAnswer None lines new text → AllLines AreAnswered input text
all_lines input text lines new h e a =
    let P : List (List ℕ) → Type 0 = λ ls. LinesAnswer None ls new text in
    (h, (sym (append-nil (lines_of input)), (new, subst P (sym e) a)))

-- at the end of the input the bytes that are left are its last line
last_is : (input : List ℕ) (left held holds : Option (List ℕ)) (p : Program) → IsAtEnd left → (g : Going (Some input) left held holds p)
    → input ≡ fed g.before ++ p.unread.items
last_is input left held holds p h g =
    let i = input_is input left held holds p g in
    i.2 ∙ ap (λ t. fed g.before ++ (p.unread.items ++ t)) (at_end_rest left i.0 i.1 h) ∙ ap (λ t. fed g.before ++ t) (append-nil p.unread.items)

input_short : (input : List ℕ) (left held holds : Option (List ℕ)) (p : Program) → IsAtEnd left → (g : Going (Some input) left held holds p) → length input ≤ input_max
input_short input left held holds p h g =
    omega (arith, ap length (last_is input left held holds p h g), ap length g.whole, g.taken, g.bound)

-- a script with no bytes left at the end of its input is done
pub done_empty : (had left held holds : Option (List ℕ)) (p : Program) → p.unread.items ≡ [] → IsAtEnd left → Going had left held holds p → Ends had left held holds p end.Done
done_empty None left held holds p e h g = tt
done_empty (Some input) left held holds p e h g =
    let is : input ≡ fed g.before ++ [] = last_is input left held holds p h g ∙ ap (λ t. fed g.before ++ t) e in
    let lines : lines_of input ≡ g.before = ap lines_of is ∙ lines_fed g.before [] g.feeds ∙ append-nil g.before in
    (g.given, g.text, g.read, all_lines input _ g.before p.script.session (input_short input left held holds p h g) lines g.answers, g.passes)

last_line_of : (line : List ℕ) → NoFeed line → 0 < length line → lines_of line ≡ line ∷ []
last_line_of [] h i = absurd (omega arith)
last_line_of (b ∷ line) h i = lines_last b line h

lines_with_last : (input : List ℕ) (left held holds : Option (List ℕ)) (p : Program) → 0 < length p.unread.items → IsAtEnd left → (g : Going (Some input) left held holds p)
    → lines_of input ≡ g.before ++ p.unread.items ∷ []
lines_with_last input left held holds p some h g =
    ap lines_of (last_is input left held holds p h g) ∙ lines_fed g.before p.unread.items g.feeds ∙ ap (λ ls. g.before ++ ls) (last_line_of p.unread.items g.unfed some)

-- where the last line, which no line feed ends, is answered, the script is done
pub done_line : (had left held holds holds' : Option (List ℕ)) (p : Program) (new : Script) → 0 < length p.unread.items → LineGoes p.script holds p.unread.items new holds'
    → IsAtEnd left → Going had left held holds p → EndsBy had left held holds' new.output end.Done
done_line None left held holds holds' p new some l h g = tt
done_line (Some input) left held holds holds' p new some l h g = (
  g.given,
  g.text ++ l.text,
  g.read,
  all_lines input _ (g.before ++ p.unread.items ∷ []) new.session (input_short input left held holds p h g) (lines_with_last input left held holds p some h g)
      (answers_more None p.script.session new.session g.before p.unread.items g.text l.text g.answers l.answers),
  passes_both _ _ _ _ _ _ _ _ g.passes l.passes,
)

up_to_bad : (input replies : List ℕ) (before after : List (List ℕ)) (bad : List ℕ) (new : Session) (n : ℕ) → lines_of input ≡ before ++ bad ∷ after
    → LinesAnswer None before new replies → IsBad bad → n ≡ length before → UpToBad AreAnswered input (replies ++ bad_line_text (n + 1))
up_to_bad input replies before after bad new n e a b m =
    (before, after, bad, replies, (e, (new, a)), b, ap (λ k. replies ++ bad_line_text (k + 1)) m)

-- the writer took a front of what was due
cut_short : (input : List ℕ) (left held holds holds' : Option (List ℕ)) (given text due out : List ℕ) → Consumes (Some input) left given → Passes held [] holds out text
    → Breaks holds out holds' due → SomeLines AreAnswered input (text ++ due) ⊎ UpToBad AreAnswered input (text ++ due) → Ran AreAnswered (Some input) left held holds' end.Writing
cut_short input left held holds holds' given text due out c p b d =
    let all = breaks_last _ _ _ _ _ _ _ p b in
    (given, all.out, c, (text ++ due, all.lost, all.rest, d), all.wrote)

-- what is due for the last line
due_last : (input : List ℕ) (left held holds : Option (List ℕ)) (due : List ℕ) (p : Program) → 0 < length p.unread.items → IsAtEnd left → (g : Going (Some input) left held holds p)
    → IsDue p.script p.unread.items due → SomeLines AreAnswered input (g.text ++ due) ⊎ UpToBad AreAnswered input (g.text ++ due)
due_last input left held holds due p some h g (inl a) =
    let lines = lines_with_last input left held holds p some h g ∙ sym (append-nil (g.before ++ p.unread.items ∷ [])) in
    inl (g.before ++ p.unread.items ∷ [], [], (lines, (a.0, answers_more None p.script.session a.0 g.before p.unread.items g.text due g.answers a.1)))
due_last input left held holds due p some h g (inr b) =
    let P : List ℕ → Type 0 = λ t. UpToBad AreAnswered input (g.text ++ t) in
    inr (subst P (sym b.1) (up_to_bad input g.text g.before [] p.unread.items p.script.session p.script.lines (lines_with_last input left held holds p some h g) g.answers b.0 g.lines))

-- the script stops at that last line
pub stops_last : (had left held holds holds' : Option (List ℕ)) (p new : Program) (e : End) → 0 < length p.unread.items → LineStops p.script holds p.unread.items new.script holds' e
    → IsAtEnd left → Going had left held holds p → Ends had left held holds' new e
stops_last None left held holds holds' p new end.BadLine some s h g = tt
stops_last (Some input) left held holds holds' p new end.BadLine some s h g = (
  g.given,
  g.text ++ bad_line_text (p.script.lines + 1),
  g.read,
  up_to_bad input g.text g.before [] p.unread.items p.script.session p.script.lines (lines_with_last input left held holds p some h g) g.answers s.0 g.lines,
  passes_both _ _ _ _ _ _ _ _ g.passes s.1,
)
stops_last had left held holds holds' p new end.Memory some s h g = memory_end had left left held holds holds' [] _ p g (Consumes-nil left) (omega arith) s
stops_last None left held holds holds' p new end.Writing some s h g = tt
stops_last (Some input) left held holds holds' p new end.Writing some s h g =
    cut_short input left held holds holds' g.given g.text s.0 p.script.output g.read g.passes s.2 (due_last input left held holds s.0 p some h g s.1)
stops_last had left held holds holds' p new _ some s h g = absurd s

-- a list of length 0 is empty
pub empty_from_length : (xs : List ℕ) → length xs ≡ 0 → xs ≡ []
empty_from_length [] h = refl
empty_from_length (x ∷ xs) h = absurd (omega arith)

-- The input, once more bytes came and their lines were answered: over are those that were left out.
record Further (input : List ℕ) (held holds : Option (List ℕ)) (before more : List (List ℕ)) (s : Script) (text rest over : List ℕ) : Type 0 where
  tail : List ℕ
  is : input ≡ fed (before ++ more) ++ (rest ++ tail)
  feeds : AllByRecursion NoFeed (before ++ more)
  answers : LinesAnswer None (before ++ more) s.session text
  passes : Passes held [] holds s.output text
  lines : s.lines ≡ length (before ++ more)

regroup : (b u f o x : List ℕ) → (b ++ u) ++ ((f ++ o) ++ x) ≡ b ++ ((u ++ f) ++ (o ++ x))
regroup b u f o x = simp append_assoc

regroup_fed : (b m r t : List ℕ) → b ++ ((m ++ r) ++ t) ≡ (b ++ m) ++ (r ++ t)
regroup_fed b m r t = simp append_assoc

further : (input : List ℕ) (mid left held between holds : Option (List ℕ)) (fresh over rest : List ℕ) (p : Program) (s : Script) → (g : Going (Some input) mid held between p)
    → Consumes mid left (fresh ++ over) → (l : LinesGo p.script between (p.unread.items ++ fresh) s holds rest)
    → Further input held holds g.before l.before s (g.text ++ l.text) rest over
further input None left held between holds fresh over rest p s g c l = absurd g.read
further input (Some m) None held between holds fresh over rest p s g c l = absurd c
further input (Some m) (Some x) held between holds fresh over rest p s g c l = record {
  tail = over ++ x;
  is = g.read ∙ ap (λ t. g.given ++ t) c ∙ ap (λ t. t ++ ((fresh ++ over) ++ x)) g.whole
      ∙ regroup (fed g.before) p.unread.items fresh over x
      ∙ ap (λ t. fed g.before ++ (t ++ (over ++ x))) l.whole
      ∙ regroup_fed (fed g.before) (fed l.before) rest (over ++ x)
      ∙ ap (λ t. t ++ (rest ++ (over ++ x))) (sym (fed_append g.before l.before));
  feeds = feeds_append g.before l.before g.feeds l.feeds;
  answers = answers_append None p.script.session s.session g.before l.before g.text l.text g.answers l.answers;
  passes = passes_both _ _ _ _ _ _ _ _ g.passes l.passes;
  lines = omega (arith, l.lines, g.lines, length-append g.before l.before);
}

onto : (b : ℕ) (ls : List (List ℕ)) → (line : List ℕ) × (after : List (List ℕ)) × (onto_first b ls ≡ line ∷ after) × (1 ≤ length line)
onto b [] = (b ∷ [], [], refl, omega arith)
onto b (l ∷ ls) = (b ∷ l, ls, refl, omega arith)

-- a long front is the front of a long first line
long_first : (b : ℕ) (bs tail : List ℕ) → NoFeed (b ∷ bs) → (line : List ℕ) × (after : List (List ℕ)) × (lines_of ((b ∷ bs) ++ tail) ≡ line ∷ after) × (length (b ∷ bs) ≤ length line)
long_first b [] tail h = rw (false_from_unequal b 10 (not_feed b [] h)) (onto b (lines_of tail))
long_first b (c ∷ cs) tail h =
    let m = long_first c cs tail (unfed_rest b (c ∷ cs) h) in
    (b ∷ m.0, m.1, rw (false_from_unequal b 10 (not_feed b (c ∷ cs) h)) (ap (onto_first b) m.2), omega (arith, m.3))

-- what begins with a bad line has a bad first line, however it goes on
first_is_bad : (rest tail : List ℕ) → BeginsBad rest → (line : List ℕ) × (after : List (List ℕ)) × (lines_of (rest ++ tail) ≡ line ∷ after) × IsBad line
first_is_bad rest tail ([], more, h, bad, inl e) = absurd (bad.not_skipped tt)
first_is_bad rest tail ([], more, h, bad, inr e) = absurd (bad.not_skipped tt)
first_is_bad rest tail (b ∷ bs, more, h, bad, inl e) =
    (b ∷ bs, lines_of (more ++ tail), ap (λ t. lines_of (t ++ tail)) e ∙ ap lines_of (append_assoc (b ∷ bs) (10 ∷ more) tail) ∙ lines_line (b ∷ bs) (more ++ tail) h, bad)
first_is_bad rest tail (b ∷ bs, more, h, bad, inr e) =
    let m = long_first b bs tail h in
    (m.0, m.1, ap (λ t. lines_of (t ++ tail)) e.0 ∙ m.2, long_is_bad m.0 (omega (arith, m.3, e.1)))

-- the lines of the input, where the first of those that are left is outside the grammar
lines_to_bad : (input rest tail : List ℕ) (before : List (List ℕ)) → input ≡ fed before ++ (rest ++ tail) → AllByRecursion NoFeed before → BeginsBad rest
    → (line : List ℕ) × (after : List (List ℕ)) × (lines_of input ≡ before ++ line ∷ after) × IsBad line
lines_to_bad input rest tail before is feeds begins =
    let first = first_is_bad rest tail begins in
    (first.0, first.1, ap lines_of is ∙ lines_fed before (rest ++ tail) feeds ∙ ap (λ ls. before ++ ls) first.2, first.3)

-- what is due for the first of the lines that are left
due_next : (input rest tail text due : List ℕ) (before : List (List ℕ)) (s : Script) → input ≡ fed before ++ (rest ++ tail) → AllByRecursion NoFeed before
    → LinesAnswer None before s.session text → s.lines ≡ length before → IsDueFirst s rest due → SomeLines AreAnswered input (text ++ due) ⊎ UpToBad AreAnswered input (text ++ due)
due_next input rest tail text due before s is feeds answers lines (inl (line, more, plain, cut, new, a)) =
    let parted : lines_of input ≡ before ++ line ∷ lines_of (more ++ tail)
    = ap lines_of is ∙ lines_fed before (rest ++ tail) feeds
    ∙ ap (λ t. before ++ lines_of t) (ap (λ t. t ++ tail) cut ∙ append_assoc line (10 ∷ more) tail) ∙ ap (λ ls. before ++ ls) (lines_line line (more ++ tail) plain) in
    inl (
      before ++ line ∷ [],
      lines_of (more ++ tail),
      (parted ∙ sym (append_assoc before (line ∷ []) (lines_of (more ++ tail))), (new, answers_more None s.session new before line text due answers a)),
    )
due_next input rest tail text due before s is feeds answers lines (inr b) =
    let P : List ℕ → Type 0 = λ t. UpToBad AreAnswered input (text ++ t) in
    let first = lines_to_bad input rest tail before is feeds b.0 in
    inr (subst P (sym b.1) (up_to_bad input text before first.1 first.0 s.session s.lines first.2 answers first.3 lines))

stops_so : (had mid left held between now holds : Option (List ℕ)) (fresh over rest : List ℕ) (p new : Program) (s : Script) (e : End) → Going had mid held between p
    → Consumes mid left (fresh ++ over) → length (fresh ++ over) ≤ read_max → LinesGo p.script between (p.unread.items ++ fresh) s now rest
    → FirstStops s now rest new.script holds e → Ends had left held holds new e
stops_so None mid left held between now holds fresh over rest p new s end.BadLine g c short l w = tt
stops_so None mid left held between now holds fresh over rest p new s end.Memory g c short l w = tt
stops_so None mid left held between now holds fresh over rest p new s end.Writing g c short l w = tt
stops_so (Some input) mid left held between now holds fresh over rest p new s end.BadLine g c short l w =
    let f = further input mid left held between now fresh over rest p s g c l in
    let first = lines_to_bad input rest f.tail (g.before ++ l.before) f.is f.feeds w.0 in (
      g.given ++ (fresh ++ over),
      (g.text ++ l.text) ++ bad_line_text (s.lines + 1),
      Consumes-trans (Some input) mid left g.given (fresh ++ over) g.read c,
      up_to_bad input (g.text ++ l.text) (g.before ++ l.before) first.1 first.0 s.session s.lines first.2 f.answers first.3 f.lines,
      passes_both _ _ _ _ _ _ _ _ f.passes w.1,
    )
stops_so (Some input) mid left held between now holds fresh over rest p new s end.Memory g c short l w =
    let f = further input mid left held between now fresh over rest p s g c l in
    let P : Option (List ℕ) → Type 0 = λ h. Passes held [] h new.script.output (g.text ++ l.text) in
    let Q : List ℕ → Type 0 = λ b. Passes held [] now b (g.text ++ l.text) in (
      g.given ++ (fresh ++ over),
      g.text ++ l.text,
      Consumes-trans (Some input) mid left g.given (fresh ++ over) g.read c,
      record {
        before = g.given;
        last = fresh ++ over;
        reads = refl;
        bound = short;
        lines = g.before;
        more = l.before;
        after = lines_of (rest ++ f.tail);
        whole = whole_lines (Some input) mid held between p g;
        first = first_lines input (rest ++ f.tail) _ (g.before ++ l.before) s.session f.is f.feeds f.answers;
      },
      subst P (sym w.0) (subst Q (sym w.1) f.passes),
    )
stops_so (Some input) mid left held between now holds fresh over rest p new s end.Writing g c short l w =
    let f = further input mid left held between now fresh over rest p s g c l in
    cut_short input left held now holds (g.given ++ (fresh ++ over)) (g.text ++ l.text) w.0 s.output (Consumes-trans (Some input) mid left g.given (fresh ++ over) g.read c) f.passes w.2
    (due_next input rest f.tail (g.text ++ l.text) w.0 (g.before ++ l.before) s f.is f.feeds f.answers f.lines w.1)
stops_so had mid left held between now holds fresh over rest p new s _ g c short l w = absurd w

-- the script stopped at one of the lines
pub stops_within : (had mid left held between holds : Option (List ℕ)) (fresh over : List ℕ) (p new : Program) (e : End) → Going had mid held between p → Consumes mid left (fresh ++ over)
    → length (fresh ++ over) ≤ read_max → LinesStop p.script between (p.unread.items ++ fresh) new.script holds e → Ends had left held holds new e
stops_within had mid left held between holds fresh over p new e g c short s =
    stops_so had mid left held between s.between holds fresh over s.rest p new s.mid e g c short s.goes s.stops

long_input : (input : List ℕ) (left : Option (List ℕ)) (given fresh over : List ℕ) → Consumes (Some input) left (given ++ (fresh ++ over)) → input_max < length given + (length fresh + length over) → input_max < length input
long_input input None given fresh over c h = absurd c
long_input input (Some x) given fresh over c h =
    omega (arith, ap length c, length-append (given ++ (fresh ++ over)) x, length-append given (fresh ++ over), length-append fresh over)

-- the bytes that were given so far, as lines and a rest
given_lines : (had mid held between holds : Option (List ℕ)) (fresh rest : List ℕ) (p : Program) (s : Script) → (g : Going had mid held between p)
    → (l : LinesGo p.script between (p.unread.items ++ fresh) s holds rest) → g.given ++ fresh ≡ fed (g.before ++ l.before) ++ rest
given_lines had mid held between holds fresh rest p s g l =
    ap (λ t. t ++ fresh) g.whole ∙ append_assoc (fed g.before) p.unread.items fresh ∙ ap (λ t. fed g.before ++ t) l.whole
    ∙ sym (append_assoc (fed g.before) (fed l.before) rest) ∙ ap (λ t. t ++ rest) (sym (fed_append g.before l.before))

-- the front of the input that a script may have
front_is : (input : List ℕ) (left : Option (List ℕ)) (given fresh over : List ℕ) → Consumes (Some input) left (given ++ (fresh ++ over)) → length given + length fresh ≡ input_max
    → take input_max input ≡ given ++ fresh
front_is input None given fresh over c h = absurd c
front_is input (Some x) given fresh over c h =
    let is : input ≡ (given ++ fresh) ++ (over ++ x) = c ∙ simp append_assoc in
    let n : input_max ≡ length (given ++ fresh) = omega (arith, h, length-append given fresh) in
    ap (take input_max) is ∙ ap (λ k. take k ((given ++ fresh) ++ (over ++ x))) n ∙ take-append_seam (given ++ fresh) (over ++ x)

-- more bytes came than a script may have
pub stops_too_long : (had mid left held between holds : Option (List ℕ)) (fresh over rest : List ℕ) (p : Program) (s : Script) → Going had mid held between p → Consumes mid left (fresh ++ over)
    → LinesGo p.script between (p.unread.items ++ fresh) s holds rest → NoFeed rest → 0 < length over → p.taken + length fresh ≡ input_max
    → EndsBy had left held holds s.output end.TooLong
stops_too_long None mid left held between holds fresh over rest p s g c l unfed some full = tt
stops_too_long (Some input) mid left held between holds fresh over rest p s g c l unfed some full =
    let f = further input mid left held between holds fresh over rest p s g c l in
    let all = Consumes-trans (Some input) mid left g.given (fresh ++ over) g.read c in
    let front = front_is input left g.given fresh over all (omega (arith, g.taken, full)) in
    let whole : WholeLines (take input_max input) (g.before ++ l.before)
    = record { rest = rest; whole = front ∙ given_lines (Some input) mid held between holds fresh rest p s g l; feeds = f.feeds; unfed = unfed } in (
      g.given ++ (fresh ++ over),
      g.text ++ l.text,
      all,
      (long_input input left g.given fresh over all (omega (arith, g.taken, full, some)), (g.before ++ l.before, whole, (s.session, f.answers))),
      f.passes,
    )

-- the script goes on
pub script_goes_on : (had mid left held between holds : Option (List ℕ)) (fresh over rest : List ℕ) (p new : Program) → Going had mid held between p → Consumes mid left (fresh ++ over)
    → (l : LinesGo p.script between (p.unread.items ++ fresh) new.script holds rest) → NoFeed rest → length rest ≤ 1000 → new.unread.items ≡ rest → length over ≡ 0
    → new.taken ≡ p.taken + length fresh → new.taken ≤ input_max → Going had left held holds new
script_goes_on had mid left held between holds fresh over rest p new g c l unfed short u none taken bound =
    let N : List ℕ → Type 0 = NoFeed in
    let L : List ℕ → Type 0 = λ r. length r ≤ 1000 in
    record {
      given = g.given ++ fresh;
      before = g.before ++ l.before;
      text = g.text ++ l.text;
      read =
          let D : List ℕ → Type 0 = λ o. Consumes mid left (fresh ++ o) in
          let E : List ℕ → Type 0 = λ f. Consumes mid left f in
          Consumes-trans had mid left g.given fresh g.read (subst E (append-nil fresh) (subst D (empty_from_length over none) c));
      whole = given_lines had mid held between holds fresh rest p new.script g l ∙ ap (λ t. fed (g.before ++ l.before) ++ t) (sym u);
      feeds = feeds_append g.before l.before g.feeds l.feeds;
      unfed = subst N (sym u) unfed;
      answers = answers_append None p.script.session new.script.session g.before l.before g.text l.text g.answers l.answers;
      passes = passes_both _ _ _ _ _ _ _ _ g.passes l.passes;
      lines = omega (arith, l.lines, g.lines, length-append g.before l.before);
      taken = omega (arith, g.taken, taken, length-append g.given fresh);
      bound = bound;
      short = subst L (sym u) short;
    }

-- what a test for no bytes says
pub none_from_true : (n m : ℕ) → n ≡ m → eqb n 0 ≡ true → m ≡ 0
none_from_true n m e t = sym e ∙ equal_from_true n 0 t

-- and what it says where it fails: there are some
pub some_from_false : (n m : ℕ) → n ≡ m → eqb n 0 ≡ false → 0 < m
some_from_false n m e t =
    let unlike : (n ≡ 0) → ⊥ = λ z. true≢false (sym (ap (λ k. eqb k 0) z) ∙ t) in
    omega arith

-- bytes behind those that were unread
pub behind : (all joined unread fresh front : List ℕ) → all ≡ joined → joined ≡ unread ++ fresh → fresh ≡ front → all ≡ unread ++ front
behind all joined unread fresh front p q r = p ∙ q ∙ ap (λ t. unread ++ t) r

-- nothing was given
pub gave_nothing : (had mid left held holds : Option (List ℕ)) (p : Program) → Going had mid held holds p → Consumes mid left [] → Going had left held holds p
gave_nothing had mid left held holds p g c =
    let P : List ℕ → Type 0 = λ t. Consumes had left t in
    record {
      given = g.given;
      before = g.before;
      text = g.text;
      read = subst P (append-nil g.given) (Consumes-trans had mid left g.given [] g.read c);
      whole = g.whole;
      feeds = g.feeds;
      unfed = g.unfed;
      answers = g.answers;
      passes = g.passes;
      lines = g.lines;
      taken = g.taken;
      bound = g.bound;
      short = g.short;
    }

-- what follows of any end follows of the one that there is, if any
pub if_some : (r : Option End) (P Q : End → Type 0) → IfSome r P → ((e : End) → P e → Q e) → IfSome r Q
if_some None P Q h f = tt
if_some (Some e) P Q h f = f e h

-- the bytes in two parts
pub in_parts : (mid left : Option (List ℕ)) (bytes : List ℕ) (k : ℕ) → Consumes mid left bytes → Consumes mid left (take k bytes ++ drop k bytes)
in_parts mid left bytes k c = let P : List ℕ → Type 0 = λ t. Consumes mid left t in subst P (sym (take-append-drop k bytes)) c

-- what a script ended by that isn't the writer's failure
pub ended_by : (had left held holds : Option (List ℕ)) (p : Program) (e : End) → e ≢ end.Writing → Ends had left held holds p e → EndsBy had left held holds p.script.output e
ended_by had left held holds p end.Done n h = h
ended_by had left held holds p end.BadLine n h = h
ended_by had left held holds p end.Reading n h = h
ended_by had left held holds p end.Writing n h = absurd (n refl)
ended_by had left held holds p end.Memory n h = h
ended_by had left held holds p end.TooLong n h = h

-- what was held back goes out too
pub all_written : (had left held between holds : Option (List ℕ)) (back : List ℕ) (e : End) → EndsBy had left held between back e → Appends between holds back → Ran AreAnswered had left held holds e
all_written None left held between holds back e h a = tt
all_written (Some input) left held between holds back e h a =
    let passed = h.4 in
    let P : List ℕ → Type 0 = Appends held holds in
    (h.0, h.1, h.2, h.3, subst P (sym passed.rest) (Appends-trans _ _ _ _ _ passed.wrote a))

front_of : (input given rest due text more : List ℕ) (e : End) → input ≡ given ++ rest → e ≢ end.Writing → Prints AreAnswered input given e due → due ≡ text ++ more → Prints AreAnswered input given end.Writing text
front_of input given rest due text more end.Done i h p e = (due, more, e, inl (lines_of input, [], p.1))
front_of input given rest due text more end.BadLine i h p e = (due, more, e, inr p)
front_of input given rest due text more end.Reading i h p e = (due, more, e, inl (some_lines input given rest due i p))
front_of input given rest due text more end.Memory i h p e = (due, more, e, inl (p.lines ++ p.more, p.after, p.first))
front_of input given rest due text more end.TooLong i h p e =
    (due, more, e, inl (some_lines input (take input_max input) (drop input_max input) due (sym (take-append-drop input_max input)) p.1))
front_of input given rest due text more end.Writing i h p e = absurd (h refl)

-- a front of it does
pub partly_written : (had left held between holds : Option (List ℕ)) (back : List ℕ) (n : ℕ) (e : End) → e ≢ end.Writing → EndsBy had left held between back e
    → Appends between holds (take n back) → Ran AreAnswered had left held holds end.Writing
partly_written None left held between holds back n e w h a = tt
partly_written (Some input) left held between holds back n e w h a =
    let front = given_front input left h.0 h.2 in
    let passed = h.4 in
    let whole : h.1 ≡ (passed.out ++ take n back) ++ drop n back
    = passed.rest ∙ ap (λ t. passed.out ++ t) (sym (take-append-drop n back)) ∙ sym (append_assoc passed.out (take n back) (drop n back)) in
    (h.0, passed.out ++ take n back, h.2, front_of input h.0 front.0 _ _ (drop n back) e front.1 w h.3 whole, Appends-trans _ _ _ _ _ passed.wrote a)

-- the same of a script that hasn't ended
pub going_partly : (had left held between holds : Option (List ℕ)) (n : ℕ) (p : Program) → Going had left held between p → Appends between holds (take n p.script.output)
    → Ran AreAnswered had left held holds end.Writing
going_partly had left held between holds n p g a =
    partly_written had left held between holds p.script.output n end.Reading (λ w. cc) (reading_end had left left held between p g (Keeps-refl left)) a

-- what was held back is written
pub going_written : (had left held between holds : Option (List ℕ)) (old new : Program) → Going had left held between old → IsWritten old new → Appends between holds old.script.output
    → Going had left held holds new
going_written had left held between holds old new g w a =
    let N : List ℕ → Type 0 = NoFeed in
    record {
      given = g.given;
      before = g.before;
      text = g.text;
      read = g.read;
      whole = g.whole ∙ ap (λ t. fed g.before ++ t) (sym w.unread);
      feeds = g.feeds;
      unfed = subst N (sym w.unread) g.unfed;
      answers = let P : Session → Type 0 = λ s. LinesAnswer None g.before s g.text in subst P (sym w.session) g.answers;
      passes = record {
        out = g.text;
        wrote = let P : List ℕ → Type 0 = Appends held holds in subst P (sym g.passes.rest) (Appends-trans _ _ _ _ _ g.passes.wrote a);
        rest = sym (append-nil g.text) ∙ ap (λ t. g.text ++ t) (sym w.output);
      };
      lines = w.lines ∙ g.lines;
      taken = g.taken ∙ sym w.taken;
      bound = omega (arith, w.taken, g.bound);
      short = omega (arith, ap length w.unread, g.short);
    }

-- at an end that is a failed read, the lines that were whole are answered
pub reading_so : (had mid left held holds : Option (List ℕ)) (p : Program) (e : End) → e ≡ end.Reading → Going had mid held holds p → Keeps mid left → Ends had left held holds p e
reading_so had mid left held holds p e same g k =
    let P : End → Type 0 = λ x. Ends had left held holds p x in
    subst P (sym same) (reading_end had mid left held holds p g k)

-- an end that is the writer's failure: it took what a script prints that ends so
pub ran_so : (had left held holds : Option (List ℕ)) (e : End) → e ≡ end.Writing → Ran AreAnswered had left held holds end.Writing → Ran AreAnswered had left held holds e
ran_so had left held holds e same h = let P : End → Type 0 = λ x. Ran AreAnswered had left held holds x in subst P (sym same) h

-- memory was refused before anything was read
pub ran_nothing : (had held : Option (List ℕ)) → Ran AreAnswered had had held held end.Memory
ran_nothing None held = tt
ran_nothing (Some input) held = (
  [],
  [],
  Consumes-nil (Some input),
  record {
    before = [];
    last = [];
    reads = refl;
    bound = omega arith;
    lines = [];
    more = [];
    after = lines_of input;
    whole = record { rest = []; whole = refl; feeds = tt; unfed = λ k d below. absurd (omega arith) };
    first = (refl, (None, (refl, refl)));
  },
  Appends-nil held,
)
