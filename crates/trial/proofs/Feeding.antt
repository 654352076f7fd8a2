-- The lines at the front of some bytes, as far as they have been answered.
use Rattle.std.proofs.Common.{◌≡◌, ◌≢◌, ℕ, ◌+◌, ◌-◌, ◌<◌, ◌≤◌, List, [], ◌∷◌, ◌++◌, length, take, drop, get_or, Option, Result, Ok, Err, IfErr, refl, ap, sym, subst, ◌∙◌, append_assoc, append-nil, arith, length-append, length-drop, length-take, inl, inr}
use Rattle.std.specs.List.{AllByRecursion}
use Rattle.std.proofs.lemmas.List.{get_or-take, get_or-drop, get_or_default}
use Rattle.trial.specs.declared.end.End.{End}
use Rattle.trial.specs.declared.end.End.TheVariants as end
use Rattle.trial.specs.declared.script.Script.{Script}
use Rattle.trial.specs.declared.line.Line.TheVariants as kind
use Rattle.trial.specs.Line.{IsBad}
use Rattle.trial.specs.Output.{PutStops}
use Rattle.trial.specs.Session.{Session}
use Rattle.trial.specs.Script.{LineAnswers, LinesAnswer, NoFeed, fed}
use Rattle.trial.specs.Turns.{LineGoes, LineStops, LinesGo, LinesStop, BeginsBad, IsDue, IsDueFirst}
use Rattle.trial.proofs.Passing.{passes_both}
use Rattle.trial.proofs.Splitting.{cut_at, trichotomy}

-- The lines before start were answered, and from there to i no line feed stands.
pub record Reached (old : Script) (held : Option (List ℕ)) (bytes : List ℕ) (start i : ℕ) (new : Script) (holds : Option (List ℕ)) : Type 0 where
  pub goes : LinesGo old held bytes new holds (drop start bytes)
  pub below : start ≤ i
  pub plain : (k : ℕ) → start ≤ k → k < i → get_or bytes k 0 ≢ 10
  pub few : new.lines ≤ old.lines + start

-- no line feed in a part of the bytes
pub part_plain : (bytes : List ℕ) (start i : ℕ) → i ≤ length bytes → ((k : ℕ) → start ≤ k → k < i → get_or bytes k 0 ≢ 10) → NoFeed (take (i - start) (drop start bytes))
part_plain bytes start i h plain = λ k d below e.
    let short : k < i - start = omega (arith, length-take (i - start) (drop start bytes)) in
    let here : get_or (take (i - start) (drop start bytes)) k d ≡ get_or bytes (start + k) d
    = get_or-take (i - start) (drop start bytes) k d short ∙ get_or-drop start bytes k d in
    let there : get_or bytes (start + k) d ≡ get_or bytes (start + k) 0 = get_or_default bytes (start + k) d 0 (omega arith) in
    plain (start + k) (omega arith) (omega arith) (sym (here ∙ there) ∙ e)

-- the bytes from one on have no line feed where none stands up to their end
pub rest_plain : (bytes : List ℕ) (start i : ℕ) → length bytes ≤ i → ((k : ℕ) → start ≤ k → k < i → get_or bytes k 0 ≢ 10) → NoFeed (drop start bytes)
rest_plain bytes start i h plain = λ k d below e.
    let here : get_or (drop start bytes) k d ≡ get_or bytes (start + k) 0
    = get_or-drop start bytes k d ∙ get_or_default bytes (start + k) d 0 (omega (arith, length-drop start bytes)) in
    plain (start + k) (omega arith) (omega (arith, length-drop start bytes)) (sym here ∙ e)

fed_more : (lines : List (List ℕ)) (line rest : List ℕ) → fed (lines ++ line ∷ []) ++ rest ≡ fed lines ++ (line ++ 10 ∷ rest)
fed_more [] line rest = append_assoc line (10 ∷ []) rest
fed_more (l ∷ ls) line rest =
    append_assoc l (10 ∷ fed (ls ++ line ∷ [])) rest
    ∙ ap (λ xs. l ++ 10 ∷ xs) (fed_more ls line rest)
    ∙ sym (append_assoc l (10 ∷ fed ls) (line ++ 10 ∷ rest))

feeds_more : (lines : List (List ℕ)) (line : List ℕ) → AllByRecursion NoFeed lines → NoFeed line → AllByRecursion NoFeed (lines ++ line ∷ [])
feeds_more [] line h i = (i, tt)
feeds_more (l ∷ ls) line h i = (h.0, feeds_more ls line h.1 i)

-- lines that were answered, with one more behind them
pub answers_more : (old mid new : Session) (lines : List (List ℕ)) (line text more : List ℕ) → LinesAnswer old lines mid text → LineAnswers mid line new more
    → LinesAnswer old (lines ++ line ∷ []) new (text ++ more)
answers_more old mid new [] line text more h i =
    let P : Session → Type 0 = λ s. LineAnswers s line new more in
    (new, more, [], subst P h.0 i, (refl, refl), ap (λ t. t ++ more) h.1 ∙ sym (append-nil more))
answers_more old mid new (l ∷ ls) line text more h i =
    (h.0, h.1, h.2 ++ more, h.3, answers_more h.0 mid new ls line h.2 more h.4 i, ap (λ t. t ++ more) h.5 ∙ append_assoc h.1 h.2 more)

-- a line that was answered is one more
pub at_feed : (old mid new : Script) (held between holds : Option (List ℕ)) (bytes : List ℕ) (start i : ℕ) → Reached old held bytes start i mid between → i < length bytes
    → get_or bytes i 0 ≡ 10 → LineGoes mid between (take (i - start) (drop start bytes)) new holds
    → Reached old held bytes (i + 1) (i + 1) (record new { lines = new.lines + 1 }) holds
at_feed old mid new held between holds bytes start i r h feed line =
    let front = take (i - start) (drop start bytes) in
    let cut : drop start bytes ≡ front ++ 10 ∷ drop (i + 1) bytes = cut_at bytes start i r.below h ∙ ap (λ b. front ++ b ∷ drop (i + 1) bytes) feed in
    record {
      goes = record {
        before = r.goes.before ++ front ∷ [];
        text = r.goes.text ++ line.text;
        whole = r.goes.whole ∙ ap (λ xs. fed r.goes.before ++ xs) cut ∙ sym (fed_more r.goes.before front (drop (i + 1) bytes));
        feeds = feeds_more r.goes.before front r.goes.feeds (part_plain bytes start i (omega arith) r.plain);
        answers = answers_more _ _ _ r.goes.before front _ _ r.goes.answers line.answers;
        passes = passes_both _ _ _ _ _ _ _ _ r.goes.passes line.passes;
        lines = omega (arith, line.lines, r.goes.lines, length-append r.goes.before (front ∷ []));
      };
      below = omega arith;
      plain = λ k a b. absurd (omega arith);
      few = omega (arith, line.lines, r.few, r.below);
    }

-- at another byte the line goes on
pub at_byte : (old new : Script) (held holds : Option (List ℕ)) (bytes : List ℕ) (start i : ℕ) → Reached old held bytes start i new holds → get_or bytes i 0 ≢ 10
    → Reached old held bytes start (i + 1) new holds
at_byte old new held holds bytes start i r h = record {
  goes = r.goes;
  below = omega (arith, r.below);
  plain = λ k a b. elim (trichotomy k i b) [ inl below ↦ r.plain k a below | inr at ↦ λ e. h (ap (λ j. get_or bytes j 0) (sym at) ∙ e) ];
  few = r.few;
}

-- why a reply wasn't put is why the script stopped at its line
pub reply_stops : (r : Result (Unit {0}) End) (old new : Script) (held holds : Option (List ℕ)) (bytes text : List ℕ) (session : Session) → LineAnswers old.session bytes session text
    → IfErr r (λ e. PutStops held old.output holds new.output text e) → IfErr r (λ e. LineStops old held bytes new holds e)
reply_stops (Ok u) old new held holds bytes text session a s = tt
reply_stops (Err end.Memory) old new held holds bytes text session a s = s
reply_stops (Err end.Writing) old new held holds bytes text session a s = (text, inl (session, a), s)
reply_stops (Err _) old new held holds bytes text session a s = absurd s

-- what is due for a line that ends there is due for the first of the bytes that are left
due_at : (old mid : Script) (held between : Option (List ℕ)) (bytes due : List ℕ) (start i : ℕ) → Reached old held bytes start i mid between → i < length bytes
    → get_or bytes i 0 ≡ 10 → IsDue mid (take (i - start) (drop start bytes)) due → IsDueFirst mid (drop start bytes) due
due_at old mid held between bytes due start i r h feed d =
    let front = take (i - start) (drop start bytes) in
    let cut : drop start bytes ≡ front ++ 10 ∷ drop (i + 1) bytes = cut_at bytes start i r.below h ∙ ap (λ b. front ++ b ∷ drop (i + 1) bytes) feed in
    let plain = part_plain bytes start i (omega arith) r.plain in
    elim d [
      | inl a ↦ inl (front, drop (i + 1) bytes, plain, cut, a.0, a.1)
      | inr b ↦ inr ((front, drop (i + 1) bytes, plain, b.0, inl cut), b.1)
    ]

-- the script stops at a line
pub stops_at : (old mid new : Script) (held between holds : Option (List ℕ)) (bytes : List ℕ) (start i : ℕ) (e : End) → Reached old held bytes start i mid between → i < length bytes
    → get_or bytes i 0 ≡ 10 → LineStops mid between (take (i - start) (drop start bytes)) new holds e → LinesStop old held bytes new holds e
stops_at old mid new held between holds bytes start i end.BadLine r h feed s =
    let front = take (i - start) (drop start bytes) in
    let cut : drop start bytes ≡ front ++ 10 ∷ drop (i + 1) bytes = cut_at bytes start i r.below h ∙ ap (λ b. front ++ b ∷ drop (i + 1) bytes) feed in
    record {
      mid = mid;
      between = between;
      rest = drop start bytes;
      goes = r.goes;
      stops = ((front, drop (i + 1) bytes, part_plain bytes start i (omega arith) r.plain, s.0, inl cut), s.1);
    }
stops_at old mid new held between holds bytes start i end.Memory r h feed s =
    record { mid = mid; between = between; rest = drop start bytes; goes = r.goes; stops = s }
stops_at old mid new held between holds bytes start i end.Writing r h feed s =
    record { mid = mid; between = between; rest = drop start bytes; goes = r.goes; stops = (s.0, due_at _ _ _ _ _ _ _ _ r h feed s.1, s.2) }
stops_at old mid new held between holds bytes start i _ r h feed s = absurd s

-- a line of more than 1,000 bytes is bad
pub long_is_bad : (bytes : List ℕ) → 1000 < length bytes → IsBad bytes
long_is_bad [] h = absurd (omega arith)
long_is_bad (b ∷ bs) h = record { no_command = λ c s. absurd (omega (arith, s.short)); not_skipped = λ s. absurd (omega (arith, s.1)) }

-- the rest of the bytes is a line that is too long
begins_long : (old mid : Script) (held between : Option (List ℕ)) (bytes : List ℕ) (start i : ℕ) → Reached old held bytes start i mid between → length bytes ≤ i
    → 1000 < length bytes - start → BeginsBad (drop start bytes)
begins_long old mid held between bytes start i r h long =
    let more : 1000 < length (drop start bytes) = omega (arith, length-drop start bytes) in
    (drop start bytes, [], rest_plain bytes start i h r.plain, long_is_bad (drop start bytes) more, inr (refl, more))

-- what is due for such a line, which has no reply
due_long : (mid : Script) (rest due : List ℕ) → BeginsBad rest → IsBad rest → IsDue mid rest due → IsDueFirst mid rest due
due_long mid rest due begins bad (inl (new, (kind.Skipped, is, does))) = absurd (bad.not_skipped is)
due_long mid rest due begins bad (inl (new, (kind.Command c, is, does))) = absurd (bad.no_command c is)
due_long mid rest due begins bad (inl (new, (kind.Bad, is, does))) = absurd does
due_long mid rest due begins bad (inr d) = inr (begins, d.1)

-- the script stops at it
pub stops_long : (old mid new : Script) (held between holds : Option (List ℕ)) (bytes : List ℕ) (start i : ℕ) (e : End) → Reached old held bytes start i mid between → length bytes ≤ i
    → 1000 < length bytes - start → LineStops mid between (drop start bytes) new holds e → LinesStop old held bytes new holds e
stops_long old mid new held between holds bytes start i end.BadLine r h long s = record {
  mid = mid;
  between = between;
  rest = drop start bytes;
  goes = r.goes;
  stops = (begins_long _ _ _ _ _ _ _ r h long, s.1);
}
stops_long old mid new held between holds bytes start i end.Memory r h long s =
    record { mid = mid; between = between; rest = drop start bytes; goes = r.goes; stops = s }
stops_long old mid new held between holds bytes start i end.Writing r h long s =
    let bad = long_is_bad (drop start bytes) (omega (arith, length-drop start bytes)) in
    record { mid = mid; between = between; rest = drop start bytes; goes = r.goes; stops = (s.0, due_long mid _ _ (begins_long _ _ _ _ _ _ _ r h long) bad s.1, s.2) }
stops_long old mid new held between holds bytes start i _ r h long s = absurd s

-- the same at other names of the same values
pub reached_so : (old new new' : Script) (held holds holds' : Option (List ℕ)) (bytes : List ℕ) (start start' i : ℕ) → start' ≡ start → new' ≡ new → holds' ≡ holds
    → Reached old held bytes start i new holds → Reached old held bytes start' i new' holds'
reached_so old new new' held holds holds' bytes start start' i s w o h =
    let P : Script → Type 0 = λ x. Reached old held bytes start' i x holds' in
    let Q : ℕ → Type 0 = λ n. Reached old held bytes n i new holds' in
    let R : Option (List ℕ) → Type 0 = λ k. Reached old held bytes start i new k in
    subst P (sym w) (subst Q (sym s) (subst R (sym o) h))
