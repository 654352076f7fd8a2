-- A run from an index's opening keeps every promise: each is proved elsewhere, of any list of steps, and here they are of one.
use Rattle.std.proofs.Common.{◌≡◌, ℕ, ◌≤◌, Bool, List, [], ◌∷◌, ◌++◌, ap, sym, subst, ◌∙◌}
use Rattle.std.specs.Prelude.{length}
use Rattle.joint.specs.declared.limits.Limits.{Limits}
use Rattle.joint.specs.declared.steps.Report.{Report}
use Rattle.joint.specs.declared.steps.Step.{Step}
use Rattle.joint.specs.calls.Alone.{AllEndAlone}
use Rattle.joint.specs.engine.Census.{waiting_nodes}
use Rattle.congee.specs.protocol.PlainSteps.{Plain}
use Rattle.joint.specs.calls.Plain.{AreTold, AreUnrefused, answers, opened_plain, projection, AreSame}
use Rattle.joint.specs.calls.Promises.{KeepsPromises}
use Rattle.joint.specs.world.World.{IsNew, Holds}
use Rattle.joint.specs.calls.Rounds.{IsQuiet, Round, AreRounds, steps_in, bags_left, rounds_wanted, CameBack}
use Rattle.joint.specs.calls.Runs.{Taken, AreTaken, after_all, IsRun, AllHold, AllSpare}
use Rattle.joint.specs.engine.Engine.{World}
use Rattle.joint.proofs.lemmas.calls.Rounds.{split, after_both}
use Rattle.joint.proofs.lemmas.calls.Running.{run_fresh}
use Rattle.joint.proofs.lemmas.calls.Runs.{all_hold}
use Rattle.joint.proofs.lemmas.calls.Scans.{scans_hold, empty_scans_hold}

module _ {V : Type 0} (same : V → V → Bool) (always : Bool) where
  -- what always holds does after the first of some steps
  holds_on : (s : World V) (before rest : List (Taken V)) → Holds same always s → AllHold same always (before ++ rest) → Holds same always (after_all s before)
  holds_on s [] rest h all = h
  holds_on s (t ∷ ts) rest h all = holds_on t.after ts rest all.0 all.1

  -- what rounds from a quiet state on leave, by this number of bags or nodes
  abbrev pub Back : (World V → List (Round V) → ℕ) → Type 0
  Back wanted = (s : World V) (who : ℕ) (rounds : List (Round V)) → Holds same always s → IsQuiet s → AreRounds who rounds → AreTaken same always s (steps_in rounds) → rounds_wanted (wanted s rounds) ≤ length rounds → CameBack (after_all s (steps_in rounds)) who

  -- and so within a run
  within : (wanted : World V → List (Round V) → ℕ) → Back wanted → (s : World V) (taken before after : List (Taken V)) (who : ℕ) (rounds : List (Round V)) → Holds same always s → AreTaken same always s taken
      → taken ≡ before ++ (steps_in rounds ++ after) → IsQuiet (after_all s before) → AreRounds who rounds → rounds_wanted (wanted (after_all s before) rounds) ≤ length rounds → CameBack (after_all (after_all s before) (steps_in rounds)) who
  within wanted back s taken before after who rounds h each is quiet are enough =
      let P : List (Taken V) → Type 0 = λ z. AreTaken same always s z in
      let all = subst P is each in
      let rest = (split same always s before (steps_in rounds ++ after) all).1 in
      let first = (split same always (after_all s before) (steps_in rounds) after rest).0 in
      back (after_all s before) who rounds (holds_on s before (steps_in rounds ++ after) h (all_hold same always s (before ++ (steps_in rounds ++ after)) all)) quiet are first enough

  -- and at its end
  at_end : (wanted : World V → List (Round V) → ℕ) → Back wanted → (s : World V) (taken before : List (Taken V)) (who : ℕ) (rounds : List (Round V)) → Holds same always s → AreTaken same always s taken
      → taken ≡ before ++ steps_in rounds → IsQuiet (after_all s before) → AreRounds who rounds → rounds_wanted (wanted (after_all s before) rounds) ≤ length rounds → CameBack (after_all s taken) who
  at_end wanted back s taken before who rounds h each is quiet are enough =
      let P : List (Taken V) → Type 0 = λ z. AreTaken same always s z in
      let Q : World V → Type 0 = λ z. CameBack z who in
      let all = subst P is each in
      let rest = (split same always s before (steps_in rounds) all).1 in
      let e : after_all s taken ≡ after_all (after_all s before) (steps_in rounds) = ap (after_all s) is ∙ after_both same always s before (steps_in rounds) in
      subst Q (sym e) (back (after_all s before) who rounds (holds_on s before (steps_in rounds) h (all_hold same always s (before ++ steps_in rounds) all)) quiet are rest enough)

  module _ (limits : Limits) (s s' : World V) (steps : List (Step V)) (reports : List (Report V)) (opening : IsNew limits s) (h : Holds same always s) (run : IsRun same always s steps reports s') where
    -- a run from the opening keeps all that is promised, where it keeps the promises that are given here
    pub keeps : Back bags_left → Back (λ x rounds. length (waiting_nodes x)) → AllSpare s run.taken → AllEndAlone s run.taken → (AreUnrefused reports → AreTold same s.forest.version_max opened_plain (projection steps reports) (answers steps reports))
        → KeepsPromises same always limits steps reports s'
    keeps bags nodes spares alone told =
        let plays = run_fresh same always s steps reports s' opening.fresh h run in
        let P : ℕ → Type 0 = λ z. AreTold same z opened_plain (projection steps reports) (answers steps reports) in
        let Q : World V → ℕ → Type 0 = λ z who. CameBack z who in
        record {
          opened = s;
          is_new = opening;
          one_map = plays;
          scans = scans_hold same _ _ plays.lines plays.flights plays.run;
          empty_scans = empty_scans_hold same _ _ plays.lines plays.flights plays.run;
          unseen = λ u. subst P opening.opened.2.versions (told u);
          run = run;
          spares = spares;
          comes_back = λ before after who rounds. within (λ x r. length (waiting_nodes x)) nodes s run.taken before after who rounds h run.each;
          bags_come_back = λ before after who rounds. within bags_left bags s run.taken before after who rounds h run.each;
          ends_so = λ before who rounds is quiet are enough. subst (λ z. Q z who) run.last (at_end (λ x r. length (waiting_nodes x)) nodes s run.taken before who rounds h run.each is quiet are enough);
          alone = alone;
        }

  -- two runs of equal steps on the tree tell the same
  pub alike : (limits others : Limits) (s q : World V) (a b : List (Step V)) (told again : List (Report V))
      → ((most : ℕ) (p : Plain V) (a b : List (Step V)) (q r : List (Report V)) → AreTold same most p (projection a q) (answers a q) → AreTold same most p (projection b r) (answers b r) → AreUnrefused q → AreUnrefused r → projection a q ≡ projection b r → AreSame (answers a q) (answers b r))
      → limits.version_max ≡ others.version_max → KeepsPromises same always limits a told s → KeepsPromises same always others b again q → AreUnrefused told → AreUnrefused again → projection a told ≡ projection b again → AreSame (answers a told) (answers b again)
  alike limits others s q a b told again law e first second u v is =
      let P : ℕ → Type 0 = λ z. AreTold same z opened_plain (projection b again) (answers b again) in
      law limits.version_max opened_plain a b told again (first.unseen u) (subst P (sym e) (second.unseen v)) u v is
