-- How many entries of a journal are of writing calls and watched.
use Rattle.std.proofs.Common.{◌≡◌, ℕ, ◌+◌, ◌≤◌, arith, Bool, true, false, not, List, [], ◌∷◌, ◌++◌, length, refl, sym, ◌∙◌, ap, subst}
use Rattle.std.specs.Prelude.{Option, None, Some, Result, Ok, Err, ◌&&◌, nat_eq}
use Rattle.std.proofs.lemmas.List.{append-nil}
use Rattle.std.specs.FinMap.{empty}
use Rattle.judge.specs.Journal.{Legal}
use Rattle.judge.specs.declared.journal.Entry.{Entry}
use Rattle.joint.specs.declared.refusal.Refusal.{Refusal}
use Rattle.joint.specs.engine.Closing.{IsClosed}
use Rattle.joint.specs.engine.Journaling.{in_list, one_where}
use Rattle.joint.specs.threads.Journals.{ClosesJournal, IsJournal, IsJournaled, count_watched, is_watched}
use Rattle.joint.specs.threads.Shares.{GathersBook, ShareView}
use Rattle.joint.specs.threads.Writing.{Gathers, GathersOf}
use Rattle.joint.specs.nodes.Opening.{HasPlaces}
use Rattle.joint.specs.world.MapSteps.{looks_up}
use Rattle.joint.specs.world.World.{Holds}
use Rattle.joint.specs.engine.Engine.{World}
use Rattle.joint.proofs.lemmas.calls.WorldSteps.{journal_legal, journal_replays}

module _ (watched : Entry ℕ → Bool) where
  one_more : (xs : List (Entry ℕ)) (e : Entry ℕ) → count_watched watched (xs ++ e ∷ []) ≡ count_watched watched xs + one_where (is_watched watched e)
  one_more [] e = omega arith
  one_more (x ∷ xs) e = let rest = one_more xs e in omega (arith, rest)

  -- a step that appends nothing leaves the number of watched entries
  pub none_watched : (xs ys : List (Entry ℕ)) (o : Option (Entry ℕ)) → ys ≡ xs ++ in_list o → o ≡ None → count_watched watched ys ≡ count_watched watched xs
  none_watched xs ys o q n = ap (count_watched watched) (q ∙ ap (λ y. xs ++ in_list y) n ∙ append-nil xs)

  -- a step that appends nothing but a look-up leaves the number of watched entries
  pub look_up_watched : (xs ys : List (Entry ℕ)) (o : Option (Entry ℕ)) → ys ≡ xs ++ in_list o → ((e : Entry ℕ) → o ≡ Some e → looks_up e.call ≡ true) → count_watched watched ys ≡ count_watched watched xs
  look_up_watched xs ys None q l = none_watched xs ys None q refl
  look_up_watched xs ys (Some e) q l =
      let none : one_where (is_watched watched e) ≡ 0 = ap (λ b. one_where (not b && watched e)) (l e refl) in
      let more = one_more xs e in
      ap (count_watched watched) q ∙ omega (arith, more, none)

  -- a step that appends a writing call's entry makes it one more where that is watched
  pub write_watched : (xs ys : List (Entry ℕ)) (e : Entry ℕ) → ys ≡ xs ++ in_list (Some e) → looks_up e.call ≡ false → count_watched watched ys ≡ count_watched watched xs + one_where (watched e)
  write_watched xs ys e q l = ap (count_watched watched) q ∙ one_more xs e ∙ ap (λ b. count_watched watched xs + one_where (not b && watched e)) l

  one_or_none : (b : Bool) → one_where b ≤ 1
  one_or_none true = omega arith
  one_or_none false = omega arith

  -- no more entries are watched than there are
  pub count_bounded : (xs : List (Entry ℕ)) → count_watched watched xs ≤ length xs
  count_bounded [] = omega arith
  count_bounded (x ∷ xs) = let rest = count_bounded xs in let one = one_or_none (is_watched watched x) in omega (arith, rest, one)

  -- what a share gathers by a book that counts the watched entries is their number
  pub gathers_of : (parts total : ℕ) (xs : List (Entry ℕ)) (share : ShareView) (r : Result ℕ Refusal) → GathersBook parts total share r → total ≡ count_watched watched xs → length xs ≤ 4294967295 → GathersOf watched parts xs share r
  gathers_of parts total xs share (Ok n) x same few =
      let bound = count_bounded xs in
      let told : n ≡ share.count = x.2 (omega (arith, same, bound, few)) in
      (x.0, told, told ∙ x.1 ∙ same)
  gathers_of parts total xs share (Err e) x same few = x

  -- and it is that of a journal such as the lock keeps
  pub gathers_some : (parts : ℕ) (xs : List (Entry ℕ)) (share : ShareView) (r : Result ℕ Refusal) → IsJournal xs → GathersOf watched parts xs share r → Gathers watched parts share r
  gathers_some parts xs share (Ok n) j x = (x.0, x.1, (xs, j, x.2))
  gathers_some parts xs share (Err e) j x = x

-- where a journal has places, it is legal and replays to the pairs that stand
pub journaled : (s : World ℕ) → Holds nat_eq true s → HasPlaces s.log.places → IsJournaled s
journaled s h p = record {
  places = p;
  long = let room = h.2.room in omega (arith, room);
  legal = journal_legal nat_eq true s h;
  replays = λ m st. journal_replays nat_eq true s h m (omega (arith, p.0)) st;
}

-- a machine that was closed leaves its entries as a journal that replays to the pairs which were drained
pub closes_journal : {D : Type 0} (drains : D → ℕ → ℕ → D → Type 0) (before : D) (charge limit : ℕ) (after : D) (entries : List (Entry ℕ)) (s : World ℕ) → Holds nat_eq true s → HasPlaces s.log.places → IsClosed drains s before charge limit after → entries ≡ s.log.entries
    → ClosesJournal drains before charge limit after entries
closes_journal drains before charge limit after entries s h p x e = record {
  state = s;
  holds = h;
  closed = x;
  journaled = journaled s h p;
  journal_is = e;
  pairs = h.2.pairs;
  replays = subst (λ es. Legal nat_eq empty es h.2.pairs) (sym e) ((journaled s h p).replays h.2.pairs h.2.stand);
  drained = x.drained h.2.pairs h.2.stand;
}
