-- A step of the machine leaves it agreeing with the plain run.
use Rattle.std.proofs.Common.{◌≡◌, ℕ, Bool, true, false, List, [], ◌∷◌, ◌++◌, map, refl, sym, ◌∙◌, ap, subst, inl, inr}
use Rattle.std.proofs.Math.ListN.{set}
use Rattle.std.specs.Prelude.{Option, None, Some, slice_get}
use Rattle.std.proofs.lemmas.List.{append-nil, append_assoc}
use Rattle.crossbeam_epoch.specs.declared.fault.Fault.{Fault}
use Rattle.crossbeam_epoch.specs.declared.world.report.Event.TheVariants as collector_event
use Rattle.crossbeam_epoch.specs.declared.world.report.Op.TheVariants.{Secure}
use Rattle.congee.specs.declared.protocol.machine.Machine.{Machine}
use Rattle.congee.specs.declared.protocol.machine.Noise.{Noise}
use Rattle.congee.specs.declared.protocol.op.Op.{Op as Point}
use Rattle.congee.specs.declared.protocol.op.Op.TheVariants as point
use Rattle.congee.specs.protocol.Alike.{Longer}
use Rattle.congee.specs.protocol.PlainSteps.{Plain, with_call}
use Rattle.congee.specs.protocol.Play.{begun}
use Rattle.joint.specs.declared.engine.in_flight.InFlight.{InFlight}
use Rattle.joint.specs.declared.engine.in_flight.InFlight.TheVariants.{Idle, Collecting, Reserving, Securing, Walking}
use Rattle.joint.specs.declared.id.Id.{Id}
use Rattle.joint.specs.declared.steps.Event.{Event}
use Rattle.joint.specs.declared.steps.Event.TheVariants.{Register, Begin, Go}
use Rattle.joint.specs.declared.steps.Kind.{Kind}
use Rattle.joint.specs.declared.steps.Kind.TheVariants as kind
use Rattle.joint.specs.declared.steps.Done.TheVariants.{Scanned}
use Rattle.joint.specs.declared.steps.Outcome.{Outcome}
use Rattle.joint.specs.declared.steps.Outcome.TheVariants.{Running, Done, Refused}
use Rattle.joint.specs.declared.steps.Report.{Report}
use Rattle.joint.specs.declared.steps.Step.{Step}
use Rattle.joint.specs.declared.steps.Target.{Target}
use Rattle.joint.specs.declared.steps.Target.TheVariants as target
use Rattle.joint.specs.nodes.Nodes.{Nodes, nodes, Refuses, IsBeside}
use Rattle.joint.specs.engine.Intact.{securing_of}
use Rattle.joint.specs.engine.Laws.{NumberLaws}
use Rattle.joint.specs.calls.Plain.{TreeStep, Starts, begin_at, step_at, tree_step, started, start_told, step_after, plain_after, AreTold, projection, answers, with_some, with_first, IsUnhindered, AreUnrefused, Agree, FollowsStep, FollowsRun}
use Rattle.joint.specs.Refusals.{of_fault}
use Rattle.joint.specs.Reports.{target, told}
use Rattle.joint.specs.calls.Runs.{Taken, AreTaken, IsRun, after_all}
use Rattle.joint.specs.nodes.View.{id_number}
use Rattle.joint.specs.world.World.{Holds, IsStep, StepsUnless, finds_journal_full}
use Rattle.joint.specs.engine.Engine.{World, engine_of, kind_at, misuse, quiet, finds_none, EntersUnless, Reserves, BeginsOnTree, BeginsAt, GoesAt, Proceeds, Does}
use Rattle.joint.proofs.lemmas.calls.Beside.{steps_unless_beside}
use Rattle.joint.proofs.lemmas.engine.Collecting.{get_beside}
use Rattle.joint.proofs.lemmas.calls.PlainCalls.{fault_apart, collects, collected_agrees, secures, idles, enters, reserves, moved_alike, walked_agrees}
use Rattle.joint.proofs.lemmas.engine.PlainTells.{map_here, tells_alike}
use Rattle.congee.proofs.Laws.{set_here}

-- where no node is made the list of the made ones stays
same_longer : (order : List ℕ) → Longer order order
same_longer order = ([], sym (append-nil order))

-- what is made in two steps comes behind what was made before both
then_longer : (a b c : List ℕ) → Longer a b → Longer b c → Longer a c
then_longer a b c x y = (x.0 ++ y.0, y.1 ∙ ap (λ z. z ++ y.0) x.1 ∙ append_assoc a x.0 y.0)

module _ {V : Type 0} (same : V → V → Bool) (always : Bool) (laws : (f : Nodes V) → NumberLaws {C = Id} {V = V} id_number same always f.version_max (Refuses f)) where
  module _ (s s' : World V) (w : ℕ) (order : List ℕ) (p : Plain V) (holds : Holds same always s) (whole_agrees : Agree s order p) where
    abbrev e : World V
    e = engine_of s

    abbrev most : ℕ
    most = s.forest.version_max

    a : Agree (engine_of s) order p
    a = record { ordered = whole_agrees.ordered; root = whole_agrees.root; made = whole_agrees.made; heap = whole_agrees.heap; calls = whole_agrees.calls }

    law : NumberLaws {C = Id} {V = V} id_number same always s.forest.version_max (Refuses s.forest)
    law = laws s.forest

    abbrev Goal : Option (TreeStep V) → Report V → Type 0
    Goal o r = FollowsStep same most o (engine_of s') r order p

    -- what a call on the tree begins with
    abbrev start : Point V → Option (TreeStep V)
    start op = Some (record { worker = w; event = Starts op })

    begun_at : (op : Point V) (r : Report V) → r ≡ quiet kind.Tree Running → finds_none op ≡ false → Agree (engine_of s') order (with_call p w (begun 0 op)) → Goal (start op) r
    begun_at op r er none x =
        let P : Report V → Type 0 = λ z. Goal (start op) z in
        let Q : Bool → Type 0 = λ b. ((false ≡ false) × ◌≡◌ {A = Outcome V} Running (start_told b)) × ((now : List ℕ) × Longer order now × Agree (engine_of s') now (started b p w op)) in
        subst P (sym er) (subst Q (sym none) ((refl, refl), (order, same_longer order, x)))

    scan_at : (op : Point V) (r : Report V) (b : Bool) → finds_none op ≡ b → EntersUnless b (engine_of s) w op r (engine_of s') → Goal (start op) r
    scan_at op r false none x = begun_at op r x.report none (enters same always (engine_of s) law order p w (engine_of s') op r a x)
    scan_at op r true none x =
        let P : Report V → Type 0 = λ z. Goal (start op) z in
        let Q : Bool → Type 0 = λ b. ((false ≡ false) × ◌≡◌ {A = Outcome V} (Done (Scanned 0)) (start_told b)) × ((now : List ℕ) × Longer order now × Agree (engine_of s') now (started b p w op)) in
        let R : World V → Type 0 = λ z. Agree z order p in
        subst P (sym x.report) (subst Q (sym none) ((refl, refl), (order, same_longer order, subst R (sym x.state) a)))

    reserves_at : (op : Point V) (r : Report V) → finds_none op ≡ false → Reserves (engine_of s) w op r (engine_of s') → Goal (start op) r
    reserves_at op r none x = begun_at op r x.report none (reserves same always (engine_of s) law order p w (engine_of s') op r a x)

    point_at : (op : Point V) (r : Report V) → BeginsOnTree same always (engine_of s) w op r (engine_of s') → Goal (start op) r
    point_at (point.Get k) r x = begun_at (point.Get k) r x.report refl (enters same always (engine_of s) law order p w (engine_of s') (point.Get k) r a x)
    point_at (point.Range from to size) r x = scan_at (point.Range from to size) r (finds_none {V = V} (point.Range from to size)) refl x
    point_at (point.RangeInclusive from to size) r x = scan_at (point.RangeInclusive from to size) r (finds_none {V = V} (point.RangeInclusive from to size)) refl x
    point_at (point.Insert k v) r x = reserves_at (point.Insert k v) r refl x
    point_at (point.Remove k) r x = reserves_at (point.Remove k) r refl x
    point_at (point.ComputePresent k) r x = reserves_at (point.ComputePresent k) r refl x
    point_at (point.ComputeInsert k) r x = reserves_at (point.ComputeInsert k) r refl x
    point_at (point.Exchange k old new) r x = reserves_at (point.Exchange k old new) r refl x

    abbrev begin_of : Target V → Kind → Option (TreeStep V)
    begin_of t kind.Collection = None
    begin_of t kind.Tree = begin_at w t

    scan_kind : (op : Point V) (r : Report V) (b : Bool) → EntersUnless b (engine_of s) w op r (engine_of s') → r.kind ≡ kind.Tree
    scan_kind op r true x = ap (λ z. z.kind) x.report
    scan_kind op r false x = ap (λ z. z.kind) x.report

    begin_kind : (op : Point V) (r : Report V) → BeginsOnTree same always (engine_of s) w op r (engine_of s') → r.kind ≡ kind.Tree
    begin_kind (point.Get k) r x = ap (λ z. z.kind) x.report
    begin_kind (point.Range from to size) r x = scan_kind (point.Range from to size) r (finds_none {V = V} (point.Range from to size)) x
    begin_kind (point.RangeInclusive from to size) r x = scan_kind (point.RangeInclusive from to size) r (finds_none {V = V} (point.RangeInclusive from to size)) x
    begin_kind (point.Insert k v) r x = ap (λ z. z.kind) x.report
    begin_kind (point.Remove k) r x = ap (λ z. z.kind) x.report
    begin_kind (point.ComputePresent k) r x = ap (λ z. z.kind) x.report
    begin_kind (point.ComputeInsert k) r x = ap (λ z. z.kind) x.report
    begin_kind (point.Exchange k old new) r x = ap (λ z. z.kind) x.report

    target_at : (t : Target V) (r : Report V) → BeginsAt same always (engine_of s) w t r (engine_of s') → Goal (begin_of t r.kind) r
    target_at (target.Collector op) r x =
        let P : Report V → Type 0 = λ z. Goal (begin_of (target.Collector op) z.kind) z in
        subst P (sym x.report) (collects same always (engine_of s) law order p w (engine_of s') (collector_event.Begin op) op r a x)
    target_at (target.Tree op) r x = let P : Kind → Type 0 = λ z. Goal (begin_of (target.Tree op) z) r in subst P (sym (begin_kind op r x)) (point_at op r x)
    target_at (target.Survey k) r x =
        let P : Report V → Type 0 = λ z. Goal (begin_of (target.Survey k) z.kind) z in
        let R : World V → Type 0 = λ z. Agree z order p in
        let known = holds.0.safe.sound.sound.settled in
        let stand = holds.2.stand in
        subst P (sym x.report) (
          (
            refl,
            (holds.2.pairs, map_here order (nodes s.forest) p.heap whole_agrees.heap holds.0.safe.sound.sound.settled.0 holds.0.safe.sound.sound.settled.1.tree holds.0.safe.sound.sound.settled.1.words whole_agrees.root holds.2.pairs holds.2.stand),
            tells_alike order (nodes s.forest) p.heap whole_agrees.heap holds.0.safe.sound.sound.settled.0 holds.0.safe.sound.sound.settled.1.tree holds.0.safe.sound.sound.settled.1.words whole_agrees.root k x.outcome x.tells,
          ),
          (order, same_longer order, subst R (sym x.state) a),
        )

    -- a call goes on
    abbrev go_of : Noise Id V → Kind → Option (TreeStep V)
    go_of noise k = step_at w (Go noise) k

    call_at : (k : Option (InFlight V)) (noise : Noise Id V) (r : Report V) → slice_get s.calls w ≡ k → IsUnhindered r → GoesAt same always (engine_of s) w k noise r (engine_of s') → Goal (go_of noise r.kind) r
    call_at None noise r q un x = absurd x
    call_at (Some Idle) noise r q un x = absurd x
    call_at (Some (Collecting op)) noise r q un x =
        let P : Report V → Type 0 = λ z. Goal (go_of noise z.kind) z in
        subst P (sym x.report) (collects same always (engine_of s) law order p w (engine_of s') collector_event.Go op r a x)
    call_at (Some (Securing op)) noise r q un x =
        let P : Report V → Type 0 = λ z. Goal (go_of noise z.kind) z in
        subst P (sym x.report) (secures same always (engine_of s) law order p w op q a (engine_of s') r x.collector_report.outcome x refl (λ m b. get_beside s.machines s.calls w holds.0.machines (Securing op) q))
    call_at (Some (Reserving op)) noise r q un x =
        let P : Report V → Type 0 = λ z. Goal (go_of noise z.kind) z in
        let calls : x.between.calls ≡ set s.calls w (Securing op) = x.begins.call ∙ ap (λ (k : Option (InFlight V)). set s.calls w (securing_of k)) q in
        let here : slice_get x.between.calls w ≡ Some (Securing op) = ap (λ (ks : List (InFlight V)). slice_get ks w) calls ∙ set_here s.calls w (Securing op) (Reserving op) q in
        let T : List (Machine Id V) → Type 0 = λ ms. (n : Machine Id V) × (slice_get ms w ≡ Some n) in
        let middle : Agree x.between order p = collected_agrees same always (engine_of s) law order p w x.between (collector_event.Begin (Secure 2)) x.begins.collector_report x.begins.collected a (Securing op) calls
        (λ i m n b. let R : List (Machine Id V) → Type 0 = λ ms. slice_get ms i ≡ Some m in subst R x.begins.machine b)
        (λ m b. let R : List (Machine Id V) → Type 0 = λ ms. slice_get ms w ≡ Some m in whole_agrees.calls w (Reserving op) m q (subst R x.begins.machine b)) in
        subst P (sym x.goes.report) (secures same always x.between (laws x.between.forest) order p w op here middle (engine_of s') r x.goes.collector_report.outcome x.goes refl (λ m b. subst T (sym x.begins.machine) (get_beside s.machines s.calls w holds.0.machines (Reserving op) q)))
    call_at (Some Walking) noise r q un x =
        let m = get_beside s.machines s.calls w holds.0.machines Walking q in
        let P : Report V → Type 0 = λ z. Goal (go_of noise z.kind) z in
        let went = moved_alike same always (engine_of s) law order p w (engine_of s') noise r m.0 q m.1 holds.0.safe a x un in
        subst P (sym x.report) (
          (ap (λ z. z.decided) (sym went.went.next_phase.report), ap (λ z. told z.outcome) (sym went.went.next_phase.report)),
          (went.went.now, went.went.longer, walked_agrees same always (engine_of s) law order p w (engine_of s') noise r m.0 q m.1 holds.0.safe a x un),
        )

    -- any step that isn't misused
    same_begin : (op : _) (k : Kind) → begin_of (target op) k ≡ step_at w (Begin op) k
    same_begin op kind.Collection = refl
    same_begin op kind.Tree = refl

    proceeds_at : (event : Event V) (r : Report V) → IsUnhindered r → Proceeds same always (engine_of s) w event r (engine_of s') → Goal (step_at w event r.kind) r
    proceeds_at Register r un (inl x) =
        let P : Report V → Type 0 = λ z. Goal (step_at w Register z.kind) z in
        let R : World V → Type 0 = λ z. Agree z order p in
        subst P (sym x.1.report) (subst R (sym x.1.state) (record { ordered = a.ordered; root = a.root; made = a.made; heap = a.heap; calls = a.calls }))
    proceeds_at Register r un (inr x) =
        let P : Report V → Type 0 = λ z. Goal (step_at w Register z.kind) z in
        let R : World V → Type 0 = λ z. Agree z order p in
        subst P (sym x.report) (subst R (sym x.state) a)
    proceeds_at (Begin op) r un x = let P : Option (TreeStep V) → Type 0 = λ o. Goal o r in subst P (same_begin op r.kind) (target_at (target op) r x)
    proceeds_at (Go noise) r un x = call_at (slice_get s.calls w) noise r refl un x

    -- one that is, is refused and changes nothing; on the tree it isn't in a run that refuses nothing there
    misused_at : (event : Event V) (f : Fault) (k : Kind) → IsUnhindered {V = V} (quiet k (Refused (of_fault f))) → engine_of s' ≡ engine_of s → Goal (step_at w event k) (quiet k (Refused (of_fault f)))
    misused_at event f kind.Collection un e = let R : World V → Type 0 = λ z. Agree z order p in subst R (sym e) a
    misused_at event f kind.Tree un e = absurd (fault_apart f ((un refl).0 (of_fault f) refl))

    does_at : (event : Event V) (o : Option Fault) (r : Report V) → IsUnhindered r → Does same always (engine_of s) w event o r (engine_of s') → Goal (step_at w event r.kind) r
    does_at event None r un x = proceeds_at event r un x
    does_at event (Some f) r un x =
        let P : Report V → Type 0 = λ z. Goal (step_at w event z.kind) z in
        let U : Report V → Type 0 = λ z. IsUnhindered z in
        subst P (sym x.0) (misused_at event f (kind_at event) (subst U x.0 un) x.1)

    whole_again : (n : List ℕ) (q : Plain V) → Agree (engine_of s') n q → Agree s' n q
    whole_again n q x = record { ordered = x.ordered; root = x.root; made = x.made; heap = x.heap; calls = x.calls }

    again : (o : Option (TreeStep V)) (r : Report V) → Goal o r → FollowsStep same most o s' r order p
    again None r x = whole_again order p x
    again (Some t) r x = (x.0, (x.1.0, x.1.1, whole_again x.1.0 (step_after same most p t) x.1.2))

    kept_too : (o : Option (TreeStep V)) (r : Report V) (k : Bool) → FollowsStep same most o s' r order p → FollowsStep same most o s' (record r { kept = k }) order p
    kept_too None r k x = x
    kept_too (Some t) r k x = x

    unless_at : (event : Event V) (b : Bool) (r : Report V) → IsUnhindered r → StepsUnless same always b s (record { worker = w; event = event }) r s' → FollowsStep same most (step_at w event r.kind) s' r order p
    unless_at event true r un x =
        let P : Report V → Type 0 = λ z. FollowsStep same most (step_at w event z.kind) s' z order p in
        let R : World V → Type 0 = λ z. Agree z order p in
        subst P (sym x.report) (subst R (sym x.state) (idles same always s (laws s.forest) order p w (record s.log { requests = set s.log.requests w None }) whole_agrees))
    unless_at event false r un x =
        let P : Report V → Type 0 = λ z. FollowsStep same most (step_at w event z.kind) s' z order p in
        let Q : Report V → Type 0 = λ z. IsUnhindered z in
        subst P (sym x.report) (kept_too (step_at w event x.told.kind) x.told _ (again (step_at w event x.told.kind) x.told (does_at event (misuse (engine_of s) w event) x.told (subst Q x.report un) x.engine.does)))

  -- a step of the machine
  step_follows : (s s' : World V) (step : Step V) (r : Report V) (order : List ℕ) (p : Plain V) → Holds same always s → IsStep same always s step r s' → IsUnhindered r → Agree s order p
      → FollowsStep same s.forest.version_max (tree_step step r) s' r order p
  step_follows s s' step r order p holds x un a = unless_at s s' step.worker order p holds a step.event (finds_journal_full s step.worker step.event) r un x.does

  -- and a list of them
  put_first : (top : ℕ) (o : Option (TreeStep V)) (s s' : World V) (r : Report V) (order : List ℕ) (p : Plain V) (steps : List (Step V)) (reports : List (Report V)) → FollowsStep same top o s r order p
      → ((order' : List ℕ) (p' : Plain V) → Agree s order' p' → FollowsRun same top steps reports s' order' p')
      → (AreTold same top p (with_some o (projection steps reports)) (with_first o r (answers steps reports))) × ((now : List ℕ) × Longer order now × Agree s' now (plain_after same top p (with_some o (projection steps reports))))
  put_first top None s s' r order p steps reports x go =
      let f : FollowsRun same top steps reports s' order p = go order p x in
      (f.told, (f.now, f.longer, f.agree))
  put_first top (Some t) s s' r order p steps reports x go =
      let f : FollowsRun same top steps reports s' x.1.0 (step_after same top p t) = go x.1.0 (step_after same top p t) x.1.2 in
      ((x.0, f.told), (f.now, then_longer order x.1.0 f.now x.1.1 f.longer, f.agree))

  all_follow : (top : ℕ) (s : World V) (taken : List (Taken V)) (order : List ℕ) (p : Plain V) → s.forest.version_max ≡ top → Holds same always s → AreTaken same always s taken → AreUnrefused (map (λ t. t.report) taken) → Agree s order p
      → FollowsRun same top (map (λ t. t.step) taken) (map (λ t. t.report) taken) (after_all s taken) order p
  all_follow top s [] order p e holds x un a = record { told = tt; now = order; longer = same_longer order; agree = a }
  all_follow top s (t ∷ ts) order p e holds x un a =
      let P : ℕ → Type 0 = λ m. FollowsStep same m (tree_step t.step t.report) t.after t.report order p in
      let one : FollowsStep same top (tree_step t.step t.report) t.after t.report order p = subst P e (step_follows s t.after t.step t.report order p holds x.0 un.0 a) in
      let beside : IsBeside s.forest t.after.forest = steps_unless_beside same always s t.step t.report t.after (finds_journal_full s t.step.worker t.step.event) x.0.does in
      let f = put_first top (tree_step t.step t.report) t.after (after_all t.after ts) t.report order p (map (λ t. t.step) ts) (map (λ t. t.report) ts) one
      (λ order' p' a'. all_follow top t.after ts order' p' (beside.versions ∙ e) x.0.holds x.1 un.1 a') in
      record { told = f.0; now = f.1.0; longer = f.1.1; agree = f.1.2 }

  -- a run that refuses nothing on the tree tells there what the plain run tells, and leaves both agreeing
  pub run_follows : (s s' : World V) (steps : List (Step V)) (reports : List (Report V)) (order : List ℕ) (p : Plain V) → Holds same always s → IsRun same always s steps reports s' → AreUnrefused reports → Agree s order p
      → FollowsRun same s.forest.version_max steps reports s' order p
  run_follows s s' steps reports order p holds run un a =
      let P : List (Step V) → Type 0 = λ z. FollowsRun same s.forest.version_max z reports s' order p in
      let Q : List (Report V) → Type 0 = λ z. FollowsRun same s.forest.version_max (map (λ t. t.step) run.taken) z s' order p in
      let R : World V → Type 0 = λ z. FollowsRun same s.forest.version_max (map (λ t. t.step) run.taken) (map (λ t. t.report) run.taken) z order p in
      let U : List (Report V) → Type 0 = λ z. AreUnrefused z in
      subst P run.steps_are (subst Q run.reports_are (subst R run.last (all_follow s.forest.version_max s run.taken order p refl holds run.each (subst U (sym run.reports_are) un) a)))
