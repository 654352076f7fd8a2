-- The turns of a writing call on an index with a journal: what its share counts.
use Rattle.std.proofs.Common.{◌≡◌, ℕ, arith, Bool, true, List, [], ◌∷◌, ◌++◌, length, refl, sym, ◌∙◌, ap, subst, inl, inr}
use Rattle.std.specs.Prelude.{◌⊎◌, Option, None, Some, Ok, Err, nat_eq, option_map}
use Rattle.std.specs.FinMap.{empty, get}
use Rattle.judge.specs.declared.journal.Entry.{Entry}
use Rattle.judge.specs.Answer.{Pairs, answer, key_of}
use Rattle.judge.specs.Journal.{IsLegal, Legal}
use Rattle.joint.specs.declared.steps.Done.{Done as Answered}
use Rattle.joint.specs.declared.steps.Done.TheVariants as done
use Rattle.joint.specs.declared.steps.Op.{Op}
use Rattle.joint.specs.declared.steps.Outcome.{Outcome}
use Rattle.joint.specs.declared.steps.Outcome.TheVariants.{Running, Asks, Found, Registered, Done, Refused}
use Rattle.joint.specs.declared.steps.Report.{Report}
use Rattle.joint.specs.declared.steps.Step.{Step}
use Rattle.joint.specs.threads.Driving.{AreTurns, Turn, Turns, ended}
use Rattle.joint.specs.engine.Journaling.{in_list, one_where}
use Rattle.joint.specs.threads.Shares.{ShareView, counts_more}
use Rattle.joint.specs.threads.Threads.{End}
use Rattle.joint.specs.engine.Engine.{World}
use Rattle.joint.specs.threads.Writing.{Appends, Counts, HoldsWriting, IsAnswered, IsEntryOf, IsWritingTurn, Progress, WritingTurn, given_after, given_by_turns, settled, told_with, unwritten}
use Rattle.joint.proofs.lemmas.calls.WorldSteps.{journal_legal}

-- a list of length 0 has no items
pub none_of : {A : Type 0} (xs : List A) → length xs ≡ 0 → xs ≡ []
none_of [] q = refl
none_of (x ∷ xs) q = absurd (omega (arith, q))

-- the last entry of a legal journal tells what a map answers
last_answered : (m n : Pairs ℕ) (xs : List (Entry ℕ)) (e : Entry ℕ) → Legal nat_eq m (xs ++ e ∷ []) n → IsAnswered e
last_answered m n [] e l = (get m (key_of e.call), sym l.0)
last_answered m n (x ∷ xs) e l = last_answered (answer nat_eq m x.call).1 n xs e l.1

-- how an outcome fits what the call has of its entry
abbrev Fits : Option (Entry ℕ) → Outcome ℕ → Type 0
Fits e Running = Unit {0}
Fits e (Asks found) = Unit {0}
Fits None (Refused refusal) = Unit {0}
Fits (Some e) (Done (done.Reply reply)) = e.reply ≡ reply
Fits _ _ = ⊥

settled_fits : (e : Option (Entry ℕ)) → Fits e (settled e)
settled_fits None = tt {0}
settled_fits (Some e) = refl

told_fits : (e : Option (Entry ℕ)) (o : Outcome ℕ) → Fits e (told_with e o)
told_fits None Running = tt {0}
told_fits None (Asks found) = tt {0}
told_fits None (Refused refusal) = tt {0}
told_fits None (Found place key value) = tt {0}
told_fits None (Registered n) = tt {0}
told_fits None (Done d) = tt {0}
told_fits (Some e) Running = tt {0}
told_fits (Some e) (Asks found) = tt {0}
told_fits (Some e) (Refused refusal) = refl
told_fits (Some e) (Found place key value) = refl
told_fits (Some e) (Registered n) = refl
told_fits (Some e) (Done d) = refl

module _ (watched : Entry ℕ → Bool) (who : ℕ) (o : Op ℕ) where
  turn_fits : (p : Progress) (s : World ℕ) (step : Step ℕ) (r : Report ℕ) (p' : Progress) (s' : World ℕ) → WritingTurn watched who o p s step r p' s' → Fits p'.entry r.outcome
  turn_fits p s step r p' s' (inl x) = subst (λ y. Fits p'.entry y) (sym (ap (λ y. y.outcome) x.tells)) (told_fits p'.entry x.told.outcome)
  turn_fits p s step r p' s' (inr x) = subst (λ y. Fits p'.entry y) (sym x.ends) (subst (λ y. Fits y (settled p.entry)) (sym (ap (λ y. y.entry) x.same)) (settled_fits p.entry))

  -- what the call comes to in some turns: once it has an entry, nothing is counted any more
  record Counted (p : Progress) (ts : List (Turn ℕ)) (p' : Progress) : Type 0 where
    pub entry : Entry ℕ
    pub has : p'.entry ≡ Some entry
    pub before : List (Turn ℕ)
    pub after : List (Turn ℕ)
    pub turns : ts ≡ before ++ after
    pub of : IsEntryOf who o (given_by_turns o p.given before) entry
    pub answered : IsAnswered entry
    pub share : p'.share ≡ counts_more p.share (one_where (watched entry))

  record Stays (p p' : Progress) : Type 0 where
    pub entry : p'.entry ≡ p.entry
    pub share : p'.share ≡ p.share

  abbrev Comes : Option (Entry ℕ) → Progress → List (Turn ℕ) → Progress → Type 0
  Comes (Some e) p ts p' = Stays p p'
  Comes None p ts p' = Stays p p' ⊎ Counted p ts p'

  stays : (e : Option (Entry ℕ)) (p : Progress) (ts : List (Turn ℕ)) (p' : Progress) → Stays p p' → Comes e p ts p'
  stays None p ts p' s = inl s
  stays (Some e) p ts p' s = s

  -- no turn follows an end
  over : {F : Type 0} (calls : F → Option ℕ → Option ℕ → F → Type 0) (e : Option (Entry ℕ)) (r : Report ℕ) (f : F) (step : Step ℕ) (f1 : F) → r.outcome ≡ settled e → Turns calls who o (Some r) f step f1 → ⊥
  over calls None r f step f1 q t = let P : Outcome ℕ → Type 0 = λ y. Turns calls who o (Some (record r { outcome = y })) f step f1 in subst P q t
  over calls (Some e) r f step f1 q t = let P : Outcome ℕ → Type 0 = λ y. Turns calls who o (Some (record r { outcome = y })) f step f1 in subst P q t

  module _ {F Q : Type 0} (calls : F → Option ℕ → Option ℕ → F → Type 0) (pair : ℕ → ℕ → Q) where
    abbrev Are : Progress → F → Option (Report ℕ) → List Q → List (Turn ℕ) → Progress → List Q → Outcome ℕ → Type 0
    Are p f last places ts p' places' out = AreTurns (IsWritingTurn watched who o) calls pair who o p f last places ts p' places' out

    fits_last : (p : Progress) (last : Option (Report ℕ)) (out : Outcome ℕ) → ((r : Report ℕ) → last ≡ Some r → Fits p.entry r.outcome) → option_map (λ r. r.outcome) last ≡ Some out → Fits p.entry out
    fits_last p None out l q = absurd (cc q)
    fits_last p (Some r) out l q = let same : r.outcome ≡ out = cc in subst (Fits p.entry) same (l r refl)

    ends_fit : (ts : List (Turn ℕ)) (p : Progress) (f : F) (last : Option (Report ℕ)) (places : List Q) (p' : Progress) (places' : List Q) (out : Outcome ℕ) → ((r : Report ℕ) → last ≡ Some r → Fits p.entry r.outcome) → Are p f last places ts p' places' out → Fits p'.entry out
    ends_fit [] p f last places p' places' out l x = subst (λ (y : Progress). Fits y.entry out) (sym x.0) (fits_last p last out l x.2)
    ends_fit (t ∷ ts) p f last places p' places' out l x =
        ends_fit ts x.1 x.0 (Some t.report) _ p' places' out (λ r q. let same : t.report ≡ r = cc in subst (λ (y : Report ℕ). Fits x.1.entry y.outcome) same (turn_fits p x.3.0 t.step t.report x.1 x.3.1 x.3.2)) x.4

    -- the turns after one that ended the call
    none_follow : (e : Option (Entry ℕ)) (r : Report ℕ) (ts : List (Turn ℕ)) (p : Progress) (f : F) (places : List Q) (p' : Progress) (places' : List Q) (out : Outcome ℕ) → r.outcome ≡ settled e → Are p f (Some r) places ts p' places' out → p' ≡ p
    none_follow e r [] p f places p' places' out q x = x.0
    none_follow e r (t ∷ ts) p f places p' places' out q x = absurd (over calls e r f t.step x.0 q x.2)

    module _ (t : Turn ℕ) (ts : List (Turn ℕ)) (p p1 p' : Progress) (rest : (e : Option (Entry ℕ)) → p1.entry ≡ e → Comes e p1 ts p') where
      after_entry : (e : Option (Entry ℕ)) (n : Entry ℕ) (b c : World ℕ) → p.entry ≡ e → (h : HoldsWriting watched who o p b t.step t.report p1 c) → h.appended ≡ Some n → Comes e p (t ∷ ts) p'
      after_entry e n b c q h w =
          let a : Appends watched who o (given_after o p.given t.step.event) p (Some n) p1 = subst (λ y. Appends watched who o (given_after o p.given t.step.event) p y p1) w h.appends in
          let none : e ≡ None = sym q ∙ a.0 in
          let s : Stays p1 p' = rest (Some n) (ap (λ y. y.entry) a.2) in
          let legal : IsLegal nat_eq (b.log.entries ++ n ∷ []) = subst (λ es. IsLegal nat_eq es) (h.entries ∙ ap (λ y. b.log.entries ++ in_list y) w) (journal_legal nat_eq true c h.takes.holds) in
          subst (λ y. Comes y p (t ∷ ts) p') (sym none) (inr (record {
            entry = n;
            has = s.entry ∙ ap (λ y. y.entry) a.2;
            before = t ∷ [];
            after = ts;
            turns = refl;
            of = a.1;
            answered = last_answered empty legal.0 b.log.entries n legal.1;
            share = s.share ∙ ap (λ y. y.share) a.2;
          }))

      after_none : (e : Option (Entry ℕ)) → p.entry ≡ e → p1 ≡ record p { given = given_after o p.given t.step.event } → Comes e p (t ∷ ts) p'
      after_none e q a = later e (rest e (ap (λ y. y.entry) a ∙ q)) where
        on : Stays p1 p' → Stays p p'
        on s = record { entry = s.entry ∙ ap (λ y. y.entry) a; share = s.share ∙ ap (λ y. y.share) a }

        later : (e : Option (Entry ℕ)) → Comes e p1 ts p' → Comes e p (t ∷ ts) p'
        later (Some n) s = on s
        later None (inl s) = inl (on s)
        later None (inr c) = inr (record {
          entry = c.entry;
          has = c.has;
          before = t ∷ c.before;
          after = c.after;
          turns = ap (λ ys. t ∷ ys) c.turns;
          of = subst (λ g. IsEntryOf who o (given_by_turns o g c.before) c.entry) (ap (λ y. y.given) a) c.of;
          answered = c.answered;
          share = c.share ∙ ap (λ y. counts_more y.share (one_where (watched c.entry))) a;
        })

      after_hold : (e a : Option (Entry ℕ)) (b c : World ℕ) → p.entry ≡ e → (h : HoldsWriting watched who o p b t.step t.report p1 c) → h.appended ≡ a → Comes e p (t ∷ ts) p'
      after_hold e (Some n) b c q h w = after_entry e n b c q h w
      after_hold e None b c q h w = after_none e q (subst (λ y. Appends watched who o (given_after o p.given t.step.event) p y p1) w h.appends)

    after_turn : (t : Turn ℕ) (ts : List (Turn ℕ)) (p p1 p' : Progress) (f : F) (places places' : List Q) (out : Outcome ℕ) (e : Option (Entry ℕ)) → ((e : Option (Entry ℕ)) → p1.entry ≡ e → Comes e p1 ts p') → (b c : World ℕ) → p.entry ≡ e → WritingTurn watched who o p b t.step t.report p1 c
        → Are p1 f (Some t.report) places ts p' places' out → Comes e p (t ∷ ts) p'
    after_turn t ts p p1 p' f places places' out e rest b c q (inl h) x = after_hold t ts p p1 p' rest e h.appended b c q h refl
    after_turn t ts p p1 p' f places places' out e rest b c q (inr s) x =
        let same : p' ≡ p = none_follow p.entry t.report ts p1 f places p' places' out s.ends x ∙ s.same in
        stays e p (t ∷ ts) p' (record { entry = ap (λ y. y.entry) same; share = ap (λ y. y.share) same })

    comes : (ts : List (Turn ℕ)) (p : Progress) (f : F) (last : Option (Report ℕ)) (places : List Q) (p' : Progress) (places' : List Q) (out : Outcome ℕ) (e : Option (Entry ℕ)) → p.entry ≡ e → Are p f last places ts p' places' out → Comes e p ts p'
    comes [] p f last places p' places' out e q x = stays e p [] p' (record { entry = ap (λ y. y.entry) x.0; share = ap (λ y. y.share) x.0 })
    comes (t ∷ ts) p f last places p' places' out e q x = after_turn t ts p x.1 p' x.0 _ places' out e (λ e1 q1. comes ts x.1 x.0 (Some t.report) _ p' places' out e1 q1 x.4) x.3.0 x.3.1 q x.3.2 x.4

    -- what a whole call counts on its share
    counts_by : (ts : List (Turn ℕ)) (share : ShareView) (p' : Progress) (end : End ℕ) → Fits p'.entry (ended end) → Stays (unwritten share) p' ⊎ Counted (unwritten share) ts p' → Counts watched who o ts share p'.share end
    counts_by ts share p' (Err refusal) fit (inl s) = s.share
    counts_by ts share p' (Err refusal) fit (inr c) = absurd (subst (λ y. Fits y (Refused refusal)) c.has fit)
    counts_by ts share p' (Ok d) fit (inl s) = absurd (none_done d (subst (λ y. Fits y (Done d)) s.entry fit)) where
      none_done : (d : Answered ℕ) → Fits None (Done d) → ⊥
      none_done d f = f
    counts_by ts share p' (Ok d) fit (inr c) = by d (subst (λ y. Fits y (Done d)) c.has fit) where
      by : (d : Answered ℕ) → Fits (Some c.entry) (Done d) → Counts watched who o ts share p'.share (Ok d)
      by (done.Reply reply) same = (c.entry, c.before, c.after, c.turns, c.of, c.answered, same, c.share)
      by done.Unit f = absurd f
      by (done.Scanned n) f = absurd f
      by (done.Keys keys) f = absurd f
      by (done.Empty b) f = absurd f
      by (done.Stats stats) f = absurd f

    -- a whole writing call answers its entry's reply, and its share counts that entry where it is watched
    pub counts : (ts : List (Turn ℕ)) (share : ShareView) (f : F) (places : List Q) (p' : Progress) (places' : List Q) (end : End ℕ) → Are (unwritten share) f None places ts p' places' (ended end) → Counts watched who o ts share p'.share end
    counts ts share f places p' places' end x =
        counts_by ts share p' end (ends_fit ts (unwritten share) f None places p' places' (ended end) (λ r q. absurd (cc q)) x) (comes ts (unwritten share) f None places p' places' (ended end) None refl x)

    -- the turns, whoever gave them
    module _ {S : Type 0} (worker : S → ℕ) (oper : S → Op ℕ) (call : S → Progress) where
      abbrev Gives : S → Step ℕ → Report ℕ → S → Type 0
      Gives s step r s' = IsWritingTurn watched (worker s) (oper s) (call s) step r (call s') × (worker s' ≡ worker s) × (oper s' ≡ oper s)

      by_anyone : (ts : List (Turn ℕ)) (s : S) (f : F) (last : Option (Report ℕ)) (places : List Q) (s' : S) (places' : List Q) (out : Outcome ℕ) → worker s ≡ who → oper s ≡ o → AreTurns Gives calls pair who o s f last places ts s' places' out
          → Are (call s) f last places ts (call s') places' out
      by_anyone [] s f last places s' places' out w q x = (ap call x.0, x.1, x.2)
      by_anyone (t ∷ ts) s f last places s' places' out w q x =
          let turn : IsWritingTurn watched who o (call s) t.step t.report (call x.1) = subst (λ y. IsWritingTurn watched who y (call s) t.step t.report (call x.1)) q (subst (λ y. IsWritingTurn watched y (oper s) (call s) t.step t.report (call x.1)) w x.3.0) in
          (x.0, call x.1, x.2, turn, by_anyone ts x.1 x.0 (Some t.report) _ s' places' out (x.3.1 ∙ w) (x.3.2 ∙ q) x.4)

      -- turns given by a state are turns of the call, from what that had come to before the first
      pub from_start : (p : Progress) (ts : List (Turn ℕ)) (s : S) (f : F) (last : Option (Report ℕ)) (places : List Q) (s' : S) (places' placed : List Q) (out : Outcome ℕ) → worker s ≡ who → oper s ≡ o → call s ≡ p → places' ≡ placed → AreTurns Gives calls pair who o s f last places ts s' places' out
          → Are p f last places ts (call s') placed out
      from_start p ts s f last places s' places' placed out w q c e x = subst (λ y. Are p f last places ts (call s') y out) e (subst (λ y. Are y f last places ts (call s') places' out) c (by_anyone ts s f last places s' places' out w q x))
