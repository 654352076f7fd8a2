-- A call that is taken whole, with no other call in flight: what the tree says of it, and the map's reply to one on one key.
use Rattle.std.proofs.Common.{◌≡◌, ◌⊎◌, ℕ, ◌<◌, zero, suc, nat_eq, arith, Bool, true, false, List, [], ◌∷◌, length, Option, None, Some, refl, sym, ◌∙◌, ap, subst, inl, inr, if◌then◌else◌}
use Rattle.std.specs.Prelude.{slice_set}
use Rattle.std.proofs.lemmas.List.{length-set}
use Rattle.judge.specs.Answer.{Pairs, answer}
use Rattle.judge.specs.declared.journal.Call.{Call as Point}
use Rattle.judge.specs.declared.journal.Reply.{Reply as MapReply}
use Rattle.congee.specs.declared.protocol.op.Op.{Op as TreeOp}
use Rattle.congee.specs.declared.protocol.op.Op.TheVariants as tree_op
use Rattle.congee.specs.Keys.{IsMapOf}
use Rattle.joint.specs.declared.steps.Done.TheVariants as done
use Rattle.joint.specs.declared.steps.Event.TheVariants.{Begin, Go}
use Rattle.joint.specs.declared.steps.Op.{Op}
use Rattle.joint.specs.declared.steps.Outcome.{Outcome}
use Rattle.joint.specs.declared.steps.Outcome.TheVariants as outcome
use Rattle.joint.specs.declared.steps.Report.{Report}
use Rattle.joint.specs.declared.steps.Target.{Target}
use Rattle.joint.specs.declared.steps.Target.TheVariants as target
use Rattle.joint.specs.nodes.Nodes.{nodes}
use Rattle.joint.specs.calls.MapCalls.{AllGoOn, Answered as Last, answered_by, answered_after, IsOnMap, TookEffect, PlaysKey, PlaysCall, told_after, told_places}
use Rattle.joint.specs.Reports.{target, is_in_flight}
use Rattle.joint.specs.calls.Runs.{Taken, AreTaken, after_all}
use Rattle.joint.specs.engine.Flying.{Flights, AreInFlight}
use Rattle.joint.specs.calls.Scans.{placed}
use Rattle.joint.specs.world.World.{Holds, IsOnKey, IsStep}
use Rattle.joint.specs.engine.Engine.{World}
use Rattle.trial.specs.declared.caller.Caller.{Caller}
use Rattle.trial.specs.declared.caller.Closure.{Closure}
use Rattle.trial.specs.declared.open_tree.OpenTree.{OpenTree}
use Rattle.trial.specs.declared.reply.Reply.{Reply}
use Rattle.trial.specs.Callers.{answer_of, fresh, noise_of, after_step, caller_at}
use Rattle.trial.specs.Calling.{Begins, Goes, GoesOn, stays, ends, goes, Calls}
use Rattle.trial.specs.MapReplies.{IsAnswer}
use Rattle.trial.specs.Places.{places_at, filled}
use Rattle.trial.specs.Replies.{reply_to, reply_of}
use Rattle.trial.proofs.MapSteps.{MapLaws, Rests, rests_after}

-- the answer to the closure's last question, where one was answered, is what the closure gives for it
abbrev pub ByClosure : Option Closure → Last ℕ → Type 0
ByClosure closure None = Unit {0}
ByClosure None (Some q) = ⊥
ByClosure (Some f) (Some q) = q.1 ≡ answer_of f q.0

-- an answer that stands ready is to the question that was just asked
abbrev Answers : Option Closure → Outcome ℕ → Option (Option ℕ) → Type 0
Answers closure stands None = Unit {0}
Answers closure (outcome.Asks found) (Some a) = (f : Closure) × (closure ≡ Some f) × (a ≡ answer_of f found)
Answers closure stands (Some a) = ⊥

-- what stands behind a call; of a worker past the last there is no closure
abbrev Behind : Option Closure → Outcome ℕ → Caller → Type 0
Behind closure stands c = Answers closure stands c.answer × ((c.closure ≡ closure) ⊎ (c.closure ≡ None))

behind_nothing : (closure : Option Closure) (stands : Outcome ℕ) → Behind closure stands (fresh None)
behind_nothing closure stands = (tt, inr refl)

behind_answered : (closure own : Option Closure) (found : Option ℕ) → (own ≡ closure) ⊎ (own ≡ None) → Behind closure (outcome.Asks found) (after_step (record { closure = own; answer = None }) (outcome.Asks found))
behind_answered closure None found k = (tt, inr refl)
behind_answered closure (Some f) found (inl e) = ((f, sym e, refl), inl e)
behind_answered closure (Some f) found (inr e) = absurd (cc e)

behind_after : (closure : Option Closure) (stands next : Outcome ℕ) (c : Caller) → Behind closure stands c → Behind closure next (after_step c next)
behind_after closure stands outcome.Running c b = (tt, b.1)
behind_after closure stands (outcome.Asks found) c b = behind_answered closure c.closure found b.1
behind_after closure stands (outcome.Found place key value) c b = (tt, b.1)
behind_after closure stands (outcome.Registered who) c b = (tt, b.1)
behind_after closure stands (outcome.Done d) c b = (tt, b.1)
behind_after closure stands (outcome.Refused e) c b = (tt, b.1)

behind_set : (closure : Option Closure) (stands : Outcome ℕ) (callers : List Caller) (w : ℕ) (c : Caller) → Behind closure stands c → Behind closure stands (caller_at (slice_set callers w c) w)
behind_set closure stands [] w c b = behind_nothing closure stands
behind_set closure stands (x ∷ callers) zero c b = b
behind_set closure stands (x ∷ callers) (suc w) c b = behind_set closure stands callers w c b

by_answer : (closure : Option Closure) (stands : Outcome ℕ) (a : Option (Option ℕ)) (last : Last ℕ) → Answers closure stands a → ByClosure closure last → ByClosure closure (answered_by a stands last)
by_answer closure stands None last a b = b
by_answer closure (outcome.Asks found) (Some x) last a b =
    let P : Option Closure → Type 0 = λ y. ByClosure y (Some (found, x)) in
    subst P (sym a.1) a.2
by_answer closure outcome.Running (Some x) last a b = absurd a
by_answer closure (outcome.Found place key value) (Some x) last a b = absurd a
by_answer closure (outcome.Registered who) (Some x) last a b = absurd a
by_answer closure (outcome.Done d) (Some x) last a b = absurd a
by_answer closure (outcome.Refused e) (Some x) last a b = absurd a

-- after a step as many workers have places as before
pub filled_length : (scans : List (List (ℕ × ℕ))) (w : ℕ) (o : Outcome ℕ) → length (filled scans w o) ≡ length scans
filled_length scans w outcome.Running = refl
filled_length scans w (outcome.Asks found) = refl
filled_length scans w (outcome.Found place key value) = length-set scans w _
filled_length scans w (outcome.Registered who) = refl
filled_length scans w (outcome.Done d) = refl
filled_length scans w (outcome.Refused r) = refl

-- the places that were set for a worker are the worker's
pub set_places : (scans : List (List (ℕ × ℕ))) (w : ℕ) (places : List (ℕ × ℕ)) → w < length scans → places_at (slice_set scans w places) w ≡ places
set_places [] w places l = absurd (omega (arith, l))
set_places (x ∷ scans) zero places l = refl
set_places (x ∷ scans) (suc w) places l = set_places scans w places (omega (arith, l))

filled_places : (scans : List (List (ℕ × ℕ))) (w : ℕ) (o : Outcome ℕ) → w < length scans → places_at (filled scans w o) w ≡ placed true o (places_at scans w)
filled_places scans w outcome.Running l = refl
filled_places scans w (outcome.Asks found) l = refl
filled_places scans w (outcome.Found place key value) l = set_places scans w _ l
filled_places scans w (outcome.Registered who) l = refl
filled_places scans w (outcome.Done d) l = refl
filled_places scans w (outcome.Refused r) l = refl

-- further steps of a call as the tree took them, and the places that they filled
pub record Went (w : ℕ) (closure : Option Closure) (s : OpenTree) (stands : Outcome ℕ) (s' : OpenTree) (told : Outcome ℕ) : Type 0 where
  pub steps : List (Taken ℕ)
  pub each : AreTaken nat_eq true s.world steps
  pub goes_on : AllGoOn w stands steps
  pub told_last : told_after stands steps ≡ told
  pub after : after_all s.world steps ≡ s'.world
  pub answers : (last : Last ℕ) → ByClosure closure last → ByClosure closure (answered_after stands last steps)
  pub places : w < length s.scans.items → places_at s'.scans.items w ≡ told_places (places_at s.scans.items w) steps

abbrev went_none : (w : ℕ) (closure : Option Closure) (s : OpenTree) (stands : Outcome ℕ) → Went w closure s stands s stands
went_none w closure s stands = record { steps = []; each = tt; goes_on = tt; told_last = refl; after = refl; answers = λ last b. b; places = λ l. refl }

went_more : (w : ℕ) (closure : Option Closure) (s mid s' : OpenTree) (stands next told : Outcome ℕ) → is_in_flight stands ≡ true → Behind closure stands (caller_at s.callers.items w) → Goes s w false next mid
    → Went w closure mid next s' told → Went w closure s stands s' told
went_more w closure s mid s' stands next told on b g more =
    let P : Outcome ℕ → Type 0 = λ o. Went w closure mid o s' told in
    let rest : Went w closure mid g.0.0.outcome s' told = subst P g.0.2 more in
    let few : length mid.scans.items ≡ length s.scans.items = ap length g.2 ∙ filled_length s.scans.items w next in
    record {
      steps = record { step = record { worker = w; event = Go (noise_of (caller_at s.callers.items w) false) }; report = g.0.0; after = mid.world } ∷ rest.steps;
      each = (g.0.1, rest.each);
      goes_on = (record { in_flight = on; noise = noise_of (caller_at s.callers.items w) false; step = refl }, rest.goes_on);
      told_last = rest.told_last;
      after = rest.after;
      answers = λ last c. rest.answers _ (by_answer closure stands (caller_at s.callers.items w).answer last b.0 c);
      places = λ l. rest.places (omega (arith, few, l))
          ∙ ap (λ p. told_places p rest.steps) (ap (λ x. places_at x w) g.2 ∙ filled_places s.scans.items w next l ∙ ap (λ o. placed true o (places_at s.scans.items w)) g.0.2);
    }

went : (w : ℕ) (closure : Option Closure) (left : ℕ) (s : OpenTree) (stands told : Outcome ℕ) (s' : OpenTree) → Behind closure stands (caller_at s.callers.items w) → GoesOn w left s stands told s'
    → Went w closure s stands s' told
went w closure left s stands told s' b (stays s1 t1) = went_none w closure s stands
went w closure left s stands told s' b (ends n s1 t1 e) = went_none w closure s stands
went w closure left s stands told s' b (goes n s1 mid s2 st next t1 on step more) =
    let P : List Caller → Type 0 = λ callers. Behind closure next (caller_at callers w) in
    let c : Behind closure next (caller_at mid.callers.items w) =
    subst P (sym step.1) (behind_set closure next s.callers.items w _ (behind_after closure stands next (caller_at s.callers.items w) b)) in
    went_more w closure s mid s' stands next told on b step (went w closure n mid next told s' c more)

begun_behind : (w : ℕ) (closure : Option Closure) (callers callers' : List Caller) (first : Outcome ℕ) (b : Bool) → b ≡ true → callers' ≡ (if b then slice_set callers w (fresh closure) else callers)
    → Behind closure first (caller_at callers' w)
begun_behind w closure callers callers' first b on e =
    let P : Bool → Type 0 = λ x. callers' ≡ (if x then slice_set callers w (fresh closure) else callers) in
    let Q : List Caller → Type 0 = λ x. Behind closure first (caller_at x w) in
    subst Q (sym (subst P on e)) (behind_set closure first callers w (fresh closure) (tt, inl refl))

-- the steps after the first one; a call that ended as it began has none
first_then : (w left : ℕ) (closure : Option Closure) (op : Op ℕ) (s mid : OpenTree) (first told : Outcome ℕ) (s' : OpenTree) (b : Bool) → is_in_flight first ≡ b → Begins s w op closure first mid → GoesOn w left mid first told s'
    → (x : Went w closure mid first s' told) × ((x.steps ≡ []) ⊎ (b ≡ true))
first_then w left closure op s mid first told s' true run g more = (went w closure left mid first told s' (begun_behind w closure s.callers.items mid.callers.items first (is_in_flight first) run g.1) more, inr refl)
first_then w left closure op s mid first told s' false run g (stays s1 t1) = (went_none w closure mid first, inl refl)
first_then w left closure op s mid first told s' false run g (ends n s1 t1 e) = (went_none w closure mid first, inl refl)
first_then w left closure op s mid first told s' false run g (goes n s1 mid2 s2 st next t1 on step more) = absurd (let f : true ≡ false = sym on ∙ run in cc f)

-- what always holds, after it
holds_after : (w left : ℕ) (s : OpenTree) (stands told : Outcome ℕ) (s' : OpenTree) → Holds nat_eq true s.world → GoesOn w left s stands told s' → Holds nat_eq true s'.world
holds_after w left s stands told s' h (stays s1 t1) = h
holds_after w left s stands told s' h (ends n s1 t1 e) = h
holds_after w left s stands told s' h (goes n s1 mid s2 st next t1 on step more) = holds_after w n mid next told s' step.0.1.holds more

-- a whole call: its first step, and the others
pub record Called (w : ℕ) (op : Op ℕ) (closure : Option Closure) (s s' : OpenTree) (told : Outcome ℕ) : Type 0 where
  pub mid : OpenTree
  pub report : Report ℕ
  pub step : IsStep nat_eq true s.world (record { worker = w; event = Begin op }) report mid.world
  pub scans : mid.scans.items ≡ (if is_in_flight report.outcome then slice_set s.scans.items w [] else s.scans.items)
  pub rest : Went w closure mid report.outcome s' told
  pub ran : (rest.steps ≡ []) ⊎ (is_in_flight report.outcome ≡ true)
  pub holds : Holds nat_eq true s'.world

-- what a line takes of a call is such a whole call
pub called : (w : ℕ) (op : Op ℕ) (closure : Option Closure) (s s' : OpenTree) (told : Outcome ℕ) → Calls s w op closure told s' → Called w op closure s s' told
called w op closure s s' told g =
    let P : Outcome ℕ → Type 0 = λ o. (x : Went w closure g.0 o s' told) × ((x.steps ≡ []) ⊎ (is_in_flight o ≡ true)) in
    let more = subst P g.2.0.2 (first_then w 9999 closure op s g.0 g.1 told s' (is_in_flight g.1) refl g.2 g.3) in
    record {
      mid = g.0;
      report = g.2.0.0;
      step = g.2.0.1;
      scans = g.2.2 ∙ ap (λ (o : Outcome ℕ). if is_in_flight o then slice_set s.scans.items w [] else s.scans.items) g.2.0.2;
      rest = more.0;
      ran = more.1;
      holds = holds_after w 9999 g.0 g.1 told s' g.2.0.1.holds g.3;
    }

module _ (w : ℕ) (op : Op ℕ) (closure : Option Closure) (s s' : OpenTree) (told : Outcome ℕ) (c : Called w op closure s s' told) where
  -- the call's first step, as the tree took it
  abbrev pub first_of : Taken ℕ
  first_of = record { step = record { worker = w; event = Begin op }; report = c.report; after = c.mid.world }

  -- the last question of the call that was answered, with its answer
  abbrev pub last_of : Last ℕ
  last_of = answered_after c.report.outcome None c.rest.steps

  -- what the machine says of it
  pub plays_call : MapLaws → (m : Pairs ℕ) (b : Rests s.world m) → PlaysCall nat_eq b.flights m w last_of (target op) told s'.world
  plays_call laws m b =
      let x = laws.plays s.world first_of c.rest.steps b.flights m w op b.holds (c.step, c.rest.each) b.stand b.in_flight (record { begins = refl; goes_on = c.rest.goes_on }) in
      let P : Outcome ℕ → Type 0 = λ o. PlaysCall nat_eq b.flights m w last_of (target op) o (after_all c.mid.world c.rest.steps) in
      let Q : World ℕ → Type 0 = λ y. PlaysCall nat_eq b.flights m w last_of (target op) told y in
      subst Q c.rest.after (subst P c.rest.told_last x)

-- a call on the collector leaves the pairs
pub rests_beside : MapLaws → (w : ℕ) (op : Op ℕ) (t : _) (closure : Option Closure) (m : Pairs ℕ) (s s' : OpenTree) (told : Outcome ℕ) → target op ≡ target.Collector t → Rests s.world m → Calls s w op closure told s' → Rests s'.world m
rests_beside laws w op t closure m s s' told e b g =
    let c = called w op closure s s' told g in
    let P : Target ℕ → Type 0 = λ y. PlaysCall nat_eq b.flights m w (last_of w op closure s s' told c) y told s'.world in
    rests_after m s.world s'.world b c.holds (subst P e (plays_call w op closure s s' told c laws m b))

-- the call has ended as the map says
pub record Finished (m : Pairs ℕ) (p : Point ℕ) (s : OpenTree) (r : Reply) : Type 0 where
  pub rests : Rests s.world (answer nat_eq m p).1
  pub reply : r ≡ reply_to (answer nat_eq m p).0

-- the call that takes effect, with its closure's answer
abbrev pub Decides : Pairs ℕ → TreeOp ℕ → Option Closure → Point ℕ → Type 0
Decides m a closure p = (last : Last ℕ) (c : Point ℕ) → ByClosure closure last → IsOnMap m last a c → c ≡ p

module _ (w : ℕ) (m : Pairs ℕ) where
  took_effect : (a : TreeOp ℕ) (closure : Option Closure) (p : Point ℕ) (last : Last ℕ) (r : MapReply ℕ) (s : OpenTree) (b : Rests s.world m) (s' : OpenTree) → Decides m a closure p → ByClosure closure last
      → Holds nat_eq true s'.world → TookEffect nat_eq m last a r s'.world × AreInFlight s'.world b.flights → Finished m p s' (reply_to r)
  took_effect a closure p last r s b s' d c h x =
      let e : x.0.call ≡ p = d last x.0.call c x.0.on_map in
      let P : Point ℕ → Type 0 = λ q. IsMapOf (nodes s'.world.forest) (answer nat_eq m q).1 in
      record {
        rests = record { holds = h; flights = b.flights; stand = subst P e x.0.stand; in_flight = x.1; over = b.over };
        reply = ap reply_to (sym x.0.answers) ∙ ap (λ q. reply_to (answer nat_eq m q).0) e;
      }

  by_told : (a : TreeOp ℕ) (closure : Option Closure) (p : Point ℕ) (last : Last ℕ) (told : Outcome ℕ) (ps : List (ℕ × ℕ)) (s : OpenTree) (b : Rests s.world m) (s' : OpenTree) → Decides m a closure p → ByClosure closure last
      → Holds nat_eq true s'.world → PlaysKey nat_eq b.flights m w last a told s'.world → IsAnswer (reply_of ps told) → Finished m p s' (reply_of ps told)
  by_told a closure p last (outcome.Done (done.Reply r)) ps s b s' d c h x i = took_effect a closure p last r s b s' d c h x
  by_told a closure p last (outcome.Done done.Unit) ps s b s' d c h x i = absurd x
  by_told a closure p last (outcome.Done (done.Scanned n)) ps s b s' d c h x i = absurd x
  by_told a closure p last (outcome.Done (done.Keys keys)) ps s b s' d c h x i = absurd x
  by_told a closure p last (outcome.Done (done.Empty e)) ps s b s' d c h x i = absurd x
  by_told a closure p last (outcome.Done (done.Stats stats)) ps s b s' d c h x i = absurd x
  by_told a closure p last outcome.Running ps s b s' d c h x i = absurd i
  by_told a closure p last (outcome.Asks found) ps s b s' d c h x i = absurd i
  by_told a closure p last (outcome.Found place key value) ps s b s' d c h x i = absurd i
  by_told a closure p last (outcome.Registered who) ps s b s' d c h x i = absurd x
  by_told a closure p last (outcome.Refused e) ps s b s' d c h x i = absurd i

  plays_key : (fs : Flights ℕ) (last : Last ℕ) (a : TreeOp ℕ) (told : Outcome ℕ) (s : World ℕ) → IsOnKey a → PlaysCall nat_eq fs m w last (target.Tree a) told s → PlaysKey nat_eq fs m w last a told s
  plays_key fs last (tree_op.Get k) told s u x = x
  plays_key fs last (tree_op.Insert k v) told s u x = x
  plays_key fs last (tree_op.Remove k) told s u x = x
  plays_key fs last (tree_op.ComputePresent k) told s u x = x
  plays_key fs last (tree_op.ComputeInsert k) told s u x = x
  plays_key fs last (tree_op.Exchange k old new) told s u x = x
  plays_key fs last (tree_op.Range start end size) told s u x = absurd u
  plays_key fs last (tree_op.RangeInclusive start greatest size) told s u x = absurd u

-- a whole call
pub call_finishes : MapLaws → (w : ℕ) (op : Op ℕ) (a : TreeOp ℕ) (closure : Option Closure) (m : Pairs ℕ) (p : Point ℕ) (s s' : OpenTree) (told : Outcome ℕ) (ps : List (ℕ × ℕ)) → target op ≡ target.Tree a → IsOnKey a
    → Decides m a closure p → Rests s.world m → Calls s w op closure told s' → IsAnswer (reply_of ps told) → Finished m p s' (reply_of ps told)
call_finishes laws w op a closure m p s s' told ps on_tree on_key d b g i =
    let c = called w op closure s s' told g in
    let last = last_of w op closure s s' told c in
    let P : Target ℕ → Type 0 = λ t. PlaysCall nat_eq b.flights m w last t told s'.world in
    by_told w m a closure p last told ps s b s' d (c.rest.answers None tt) c.holds (plays_key w m b.flights last a told s'.world on_key (subst P on_tree (plays_call w op closure s s' told c laws m b))) i
