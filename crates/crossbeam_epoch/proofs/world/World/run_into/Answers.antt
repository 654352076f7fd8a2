use Rattle.std.proofs.Common.{rules, ◌≡◌, ℕ, zero, suc, ◌+◌, ◌-◌, ◌<◌, ◌≤◌, arith, ap, sym, subst, ◌∙◌, ◌∷◌, [], ◌++◌, length, take, drop, vec_capacity, vec_len}
use Rattle.std.specs.Prelude.{min}
use Rattle.std.proofs.lemmas.List.{length_push, length-drop, drop-append-le, take-append-le}
use Rattle.crossbeam_epoch.specs.world.Steps.{state_after, AreReports}
use Rattle.crossbeam_epoch.proofs.lemmas.world.Runs.{fits_run, run_more}
use Rattle.crossbeam_epoch.proofs.lemmas.world.Logs.{shows_run}
use Rattle.crossbeam_epoch.proofs.lemmas.world.Told.{tells_run}
use Rattle.crossbeam_epoch.proofs.lemmas.world.WaitFree.{in_time, all_in_time}
use Rattle.crossbeam_epoch.proofs.world.World.run_into.Goals as goal
use Rattle.crossbeam_epoch.proofs.world.World.run_into.Goals.{else-loop-step-test, then-loop-step-test+then-len-capacity}

-- every step was taken, with room for each
every : (k all room was : ℕ) → all ≤ k → k ≤ all → (0 < k → was + k ≤ room) → k ≡ min all (room - was)
every zero all room was end low fits = omega (arith, end)
every (suc k) all room was end low fits = let r = fits (omega arith) in omega (arith, end, low, r)

-- the steps that were taken have all the room
full : (k all room was : ℕ) → k ≤ all → room ≤ was + k → (0 < k → was + k ≤ room) → k ≡ min all (room - was)
full zero all room was low none fits = omega (arith, none)
full (suc k) all room was low none fits = let r = fits (omega arith) in omega (arith, none, low, r)

pub loop-step-preserved : goal.loop-step-preserved
loop-step-preserved g c =
    let l = c.loop-step in
    let i = l.invariant in
    let n = length c.args.reports.now.items in
    let r = c.step-report.result in
    let more : c.push_reserved.new.self.items ≡ l.reports.items ++ r ∷ [] = c.push_reserved.ensures.items in
    let counted = i.count in
    let long : n ≤ length l.reports.items = omega (arith, counted) in
    let behind : drop n c.push_reserved.new.self.items ≡ drop n l.reports.items ++ r ∷ [] = ap (λ xs. drop n xs) more ∙ drop-append-le n l.reports.items (r ∷ []) long in
    let even : length (drop n l.reports.items) ≡ l.step-index = length-drop n l.reports.items ∙ omega (arith, counted) in
    let on = run_more c.args.self.now c.args.steps.now l.step-index _ (drop n l.reports.items) (drop n c.push_reserved.new.self.items) r l.self c.step-report.new.self
    (omega arith) even i.legal i.state c.step-report.ensures.report c.step-report.ensures.state behind in
    record {
      count = rw more (omega (arith, counted, length_push l.reports.items r));
      room = λ _. search rules;
      capacity = c.push_reserved.ensures.capacity ∙ i.capacity;
      before = rw more (take-append-le n l.reports.items (r ∷ []) long ∙ i.before);
      legal = on.0;
      state = on.1;
    }

pub returns : goal.returns
returns g c =
    let l = c.loop-step in
    let i = l.invariant in
    let counted = i.count in
    let all = length c.args.steps.now in
    let was = length c.args.reports.now.items in
    let room = vec_capacity c.args.reports.now in
    let told = drop was l.reports.items in
    let low : l.step-index ≤ all = l.auto.step-index-end in
    let now : c.len-2.result ≡ length l.reports.items = search rules in
    let then : c.len-before.result ≡ was = search rules in
    let long : l.step-index ≡ c.len-2.result - c.len-before.result = omega (arith, counted, now, then) in
    let steps = take (c.len-2.result - c.len-before.result) c.args.steps.now in
    let legal : AreReports c.args.self.now steps told = subst (λ k. AreReports c.args.self.now (take k c.args.steps.now) told) long i.legal in
    let state : l.self ≡ state_after c.args.self.now steps told = i.state ∙ ap (λ k. state_after c.args.self.now (take k c.args.steps.now) told) long in
    let done : l.step-index ≡ min all (room - was) = elim c.loop-step-test.branch [
      | else-loop-step-test w ↦ every l.step-index all room was (omega (arith, w.loop-step-test)) low i.room
      | then-loop-step-test+then-len-capacity w ↦ let over : vec_capacity l.reports ≤ length l.reports.items = search rules in let same = i.capacity in full l.step-index all room was low (omega (arith, over, same, counted)) i.room
    ] in
    let before : vec_len c.args.reports.now ≡ was = search rules in
    record {
      done = sym long ∙ (done ∙ ap (λ k. min all (room - k)) (sym before));
      before = i.before;
      count = omega (arith, counted, now, then);
      capacity = i.capacity;
      legal = legal;
      state = state;
      kept = λ h f. rw state (fits_run h c.args.self.now steps told legal f);
      told = λ h t. rw state (tells_run g.T.Links.names h c.args.self.now steps told legal t);
      ends = λ o. all_in_time c.args.self.now steps told o legal;
      ends_on = λ who op o on. in_time c.args.self.now who op steps told o on legal;
      shown = λ log h w. rw state (shows_run log h c.args.self.now steps told legal w);
    }
