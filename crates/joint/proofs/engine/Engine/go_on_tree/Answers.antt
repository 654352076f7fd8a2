use Rattle.std.proofs.Common.{◌≡◌, ◌+◌, ◌-◌, ◌<◌, ℕ, false, arith, length, refl, sym, ◌∙◌, ap, subst}
use Rattle.std.specs.Prelude.{slice_set, if◌then◌else◌}
use Rattle.std.proofs.lemmas.List.{length-set}
use Rattle.joint.specs.declared.engine.in_flight.InFlight.TheVariants.{Idle, Walking}
use Rattle.joint.specs.Reports.{told, is_in_flight}
use Rattle.joint.specs.engine.Census.{more}
use Rattle.joint.specs.declared.steps.Kind.TheVariants.{Tree}
use Rattle.joint.specs.engine.Engine.{standing}
use Rattle.joint.proofs.lemmas.engine.Collecting.{call_inside, inside_machines}
use Rattle.joint.proofs.lemmas.calls.CensusSteps.{bytes_small, counted_walk, few_machines, had, had_bytes, pairs_room, pairs_there, taken_few}
use Rattle.joint.proofs.lemmas.engine.PuttingAway.{calls_put, still_intact, walked_on}
use Rattle.joint.proofs.lemmas.engine.Walking.{final_is, long_walk, runs}
use Rattle.joint.proofs.engine.Engine.go_on_tree.Goals as goal

pub taken-before-requires-clause-inside : goal.taken-before-requires-clause-inside
taken-before-requires-clause-inside g c = inside_machines g.P.Payload.same_as g.P.Payload.always_copies c.args.self.now.nodes c.args.self.now.machines.items c.args.self.now.calls.items c.requires.intact c.args.who Walking c.requires.on

pub walk-moved-requires-clause-runs : goal.walk-moved-requires-clause-runs
walk-moved-requires-clause-runs g c = runs g.P.Payload.same_as g.P.Payload.always_copies c.call_laws.ensures c.args.self.now.nodes c.args.self.now.machines.items c.args.self.now.calls.items c.requires.intact (record { who = c.args.who; noise = c.args.noise }) c.requires.on

pub put_away-requires-clause-machines : goal.put_away-requires-clause-machines
put_away-requires-clause-machines g c = rw (long_walk g.P.Payload.same_as g.P.Payload.always_copies c.call_laws.ensures c.args.self.now.nodes c.args.self.now.machines.items c.args.self.now.calls.items c.requires.intact (record { who = c.args.who; noise = c.args.noise }) c.requires.on c.walk-moved.result c.walk-moved.new.self.nodes c.walk-moved.new.self.machines.items c.walk-moved.ensures.walked) (inside_machines g.P.Payload.same_as g.P.Payload.always_copies c.args.self.now.nodes c.args.self.now.machines.items c.args.self.now.calls.items c.requires.intact c.args.who Walking c.requires.on)

pub put_away-requires-clause-calls : goal.put_away-requires-clause-calls
put_away-requires-clause-calls g c =
    let P : ℕ → Type 0 = λ n. c.args.who < n in
    subst P (sym (ap (λ v. length v.items) c.walk-moved.ensures.calls)) (call_inside g.P.Payload.same_as g.P.Payload.always_copies c.args.self.now.nodes c.args.self.now.machines.items c.args.self.now.calls.items c.requires.intact c.args.who Walking c.requires.on)

pub taken-after-requires-clause-intact : goal.taken-after-requires-clause-intact
taken-after-requires-clause-intact g c = still_intact g.P.Payload.same_as g.P.Payload.always_copies c.call_laws.ensures c.args.self.now.nodes c.args.self.now.machines.items c.args.self.now.calls.items c.requires.intact (record { who = c.args.who; noise = c.args.noise }) c.requires.on c.walk-moved.result c.walk-moved.new.self.nodes c.walk-moved.new.self.machines.items c.walk-moved.ensures.walked c.put_away.new.self.nodes c.put_away.new.self.machines.items c.put_away.new.self.calls.items c.put_away.ensures.nodes c.put_away.ensures.machines (c.put_away.ensures.calls ∙ ap (λ v. if is_in_flight (told c.walk-moved.result.outcome) then v.items else slice_set v.items c.args.who Idle) c.walk-moved.ensures.calls)

pub taken-after-requires-clause-inside : goal.taken-after-requires-clause-inside
taken-after-requires-clause-inside g c =
    let w = walked_on g.P.Payload.same_as g.P.Payload.always_copies c.call_laws.ensures c.args.self.now.nodes c.args.self.now.machines.items c.args.self.now.calls.items c.requires.intact (record { who = c.args.who; noise = c.args.noise }) c.requires.on c.walk-moved.result c.walk-moved.new.self.nodes c.walk-moved.new.self.machines.items c.walk-moved.ensures.walked c.put_away.new.self.nodes c.put_away.new.self.machines.items c.put_away.new.self.calls.items c.put_away.ensures.nodes c.put_away.ensures.machines (c.put_away.ensures.calls ∙ ap (λ v. if is_in_flight (told c.walk-moved.result.outcome) then v.items else slice_set v.items c.args.who Idle) c.walk-moved.ensures.calls) in
    let P : ℕ → Type 0 = λ n. c.args.who < n in
    subst P (sym (ap length (final_is g.P.Payload.same_as g.P.Payload.always_copies c.call_laws.ensures c.args.self.now.nodes c.args.self.now.machines.items c.args.self.now.calls.items c.requires.intact (record { who = c.args.who; noise = c.args.noise }) c.requires.on c.walk-moved.result c.put_away.new.self.nodes c.put_away.new.self.machines.items w) ∙ length-set _ _ _)) (inside_machines g.P.Payload.same_as g.P.Payload.always_copies c.args.self.now.nodes c.args.self.now.machines.items c.args.self.now.calls.items c.requires.intact c.args.who Walking c.requires.on)

pub change_by-change-requires : goal.change_by-change-requires
change_by-change-requires g c =
    let w = walked_on g.P.Payload.same_as g.P.Payload.always_copies c.call_laws.ensures c.args.self.now.nodes c.args.self.now.machines.items c.args.self.now.calls.items c.requires.intact (record { who = c.args.who; noise = c.args.noise }) c.requires.on c.walk-moved.result c.walk-moved.new.self.nodes c.walk-moved.new.self.machines.items c.walk-moved.ensures.walked c.put_away.new.self.nodes c.put_away.new.self.machines.items c.put_away.new.self.calls.items c.put_away.ensures.nodes c.put_away.ensures.machines (c.put_away.ensures.calls ∙ ap (λ v. if is_in_flight (told c.walk-moved.result.outcome) then v.items else slice_set v.items c.args.who Idle) c.walk-moved.ensures.calls) in
    let P : ℕ → Type 0 = λ n. c.args.who < n in
    subst P (sym (ap length (final_is g.P.Payload.same_as g.P.Payload.always_copies c.call_laws.ensures c.args.self.now.nodes c.args.self.now.machines.items c.args.self.now.calls.items c.requires.intact (record { who = c.args.who; noise = c.args.noise }) c.requires.on c.walk-moved.result c.put_away.new.self.nodes c.put_away.new.self.machines.items w) ∙ length-set _ _ _)) (inside_machines g.P.Payload.same_as g.P.Payload.always_copies c.args.self.now.nodes c.args.self.now.machines.items c.args.self.now.calls.items c.requires.intact c.args.who Walking c.requires.on)

pub count-requires-clause-had : goal.count-requires-clause-had
count-requires-clause-had g c =
    let q : c.put_away.new.self.census ≡ c.args.self.now.census = c.put_away.ensures.census ∙ c.walk-moved.ensures.census in
    let h = had g.P.Payload.same_as g.P.Payload.always_copies c.call_laws.ensures c.args.self.now.nodes c.args.self.now.machines.items c.args.self.now.calls.items c.requires.intact (record { who = c.args.who; noise = c.args.noise }) c.requires.on c.args.self.now.census c.requires.counted c.taken-before.result c.taken-before.ensures.nodes c.taken-before.ensures.bytes in
    omega (arith, h, ap (λ x. x.taken.nodes) q)

pub count-requires-clause-had_bytes : goal.count-requires-clause-had_bytes
count-requires-clause-had_bytes g c =
    let q : c.put_away.new.self.census ≡ c.args.self.now.census = c.put_away.ensures.census ∙ c.walk-moved.ensures.census in
    let h = had_bytes g.P.Payload.same_as g.P.Payload.always_copies c.call_laws.ensures c.args.self.now.nodes c.args.self.now.machines.items c.args.self.now.calls.items c.requires.intact (record { who = c.args.who; noise = c.args.noise }) c.requires.on c.args.self.now.census c.requires.counted c.taken-before.result c.taken-before.ensures.nodes c.taken-before.ensures.bytes in
    omega (arith, h, ap (λ x. x.taken.bytes) q)

pub count-requires-clause-few : goal.count-requires-clause-few
count-requires-clause-few g c =
    let q : c.put_away.new.self.census ≡ c.args.self.now.census = c.put_away.ensures.census ∙ c.walk-moved.ensures.census in
    let h = taken_few c.args.self.now.census c.args.self.now.nodes c.args.self.now.machines.items c.requires.counted (few_machines g.P.Payload.same_as g.P.Payload.always_copies c.args.self.now.nodes c.args.self.now.machines.items c.args.self.now.calls.items c.requires.intact) in
    omega (arith, h, ap (λ x. x.taken.nodes) q)

pub count-requires-clause-small : goal.count-requires-clause-small
count-requires-clause-small g c =
    let q : c.put_away.new.self.census ≡ c.args.self.now.census = c.put_away.ensures.census ∙ c.walk-moved.ensures.census in
    let h = bytes_small c.args.self.now.census c.args.self.now.nodes c.args.self.now.machines.items c.requires.counted (few_machines g.P.Payload.same_as g.P.Payload.always_copies c.args.self.now.nodes c.args.self.now.machines.items c.args.self.now.calls.items c.requires.intact) in
    omega (arith, h, ap (λ x. x.taken.bytes) q)

pub count-requires-clause-two : goal.count-requires-clause-two
count-requires-clause-two g c = c.taken-after.ensures.few

pub count-requires-clause-size : goal.count-requires-clause-size
count-requires-clause-size g c = c.taken-after.ensures.small

pub count-requires-clause-few_pairs : goal.count-requires-clause-few_pairs
count-requires-clause-few_pairs g c =
    let w = walked_on g.P.Payload.same_as g.P.Payload.always_copies c.call_laws.ensures c.args.self.now.nodes c.args.self.now.machines.items c.args.self.now.calls.items c.requires.intact (record { who = c.args.who; noise = c.args.noise }) c.requires.on c.walk-moved.result c.walk-moved.new.self.nodes c.walk-moved.new.self.machines.items c.walk-moved.ensures.walked c.put_away.new.self.nodes c.put_away.new.self.machines.items c.put_away.new.self.calls.items c.put_away.ensures.nodes c.put_away.ensures.machines (c.put_away.ensures.calls ∙ ap (λ v. if is_in_flight (told c.walk-moved.result.outcome) then v.items else slice_set v.items c.args.who Idle) c.walk-moved.ensures.calls) in
    pairs_room g.P.Payload.same_as g.P.Payload.always_copies c.call_laws.ensures c.args.self.now.nodes c.args.self.now.machines.items c.args.self.now.calls.items c.requires.intact (record { who = c.args.who; noise = c.args.noise }) c.requires.on c.args.self.now.census c.requires.counted c.taken-before.result c.taken-before.ensures.nodes c.taken-before.ensures.bytes c.walk-moved.result c.put_away.new.self.nodes c.put_away.new.self.machines.items w c.taken-after.result c.taken-after.ensures.nodes c.taken-after.ensures.bytes c.put_away.new.self.census (ap (λ x. x.pairs) (c.put_away.ensures.census ∙ c.walk-moved.ensures.census))

pub count-requires-clause-there : goal.count-requires-clause-there
count-requires-clause-there g c =
    let w = walked_on g.P.Payload.same_as g.P.Payload.always_copies c.call_laws.ensures c.args.self.now.nodes c.args.self.now.machines.items c.args.self.now.calls.items c.requires.intact (record { who = c.args.who; noise = c.args.noise }) c.requires.on c.walk-moved.result c.walk-moved.new.self.nodes c.walk-moved.new.self.machines.items c.walk-moved.ensures.walked c.put_away.new.self.nodes c.put_away.new.self.machines.items c.put_away.new.self.calls.items c.put_away.ensures.nodes c.put_away.ensures.machines (c.put_away.ensures.calls ∙ ap (λ v. if is_in_flight (told c.walk-moved.result.outcome) then v.items else slice_set v.items c.args.who Idle) c.walk-moved.ensures.calls) in
    pairs_there g.P.Payload.same_as g.P.Payload.always_copies c.call_laws.ensures c.args.self.now.nodes c.args.self.now.machines.items c.args.self.now.calls.items c.requires.intact (record { who = c.args.who; noise = c.args.noise }) c.requires.on c.args.self.now.census c.requires.counted c.taken-before.result c.taken-before.ensures.nodes c.taken-before.ensures.bytes c.walk-moved.result c.put_away.new.self.nodes c.put_away.new.self.machines.items w c.taken-after.result c.taken-after.ensures.nodes c.taken-after.ensures.bytes c.put_away.new.self.census (ap (λ x. x.pairs) (c.put_away.ensures.census ∙ c.walk-moved.ensures.census)) c.change_by-change.result c.change_by-change.ensures

pub returns-clause-intact : goal.returns-clause-intact
returns-clause-intact g c = still_intact g.P.Payload.same_as g.P.Payload.always_copies c.call_laws.ensures c.args.self.now.nodes c.args.self.now.machines.items c.args.self.now.calls.items c.requires.intact (record { who = c.args.who; noise = c.args.noise }) c.requires.on c.walk-moved.result c.walk-moved.new.self.nodes c.walk-moved.new.self.machines.items c.walk-moved.ensures.walked c.put_away.new.self.nodes c.put_away.new.self.machines.items c.put_away.new.self.calls.items c.put_away.ensures.nodes c.put_away.ensures.machines (c.put_away.ensures.calls ∙ ap (λ v. if is_in_flight (told c.walk-moved.result.outcome) then v.items else slice_set v.items c.args.who Idle) c.walk-moved.ensures.calls)

pub returns-clause-walks : goal.returns-clause-walks
returns-clause-walks g c = record {
  move = c.walk-moved.result;
  step = walked_on g.P.Payload.same_as g.P.Payload.always_copies c.call_laws.ensures c.args.self.now.nodes c.args.self.now.machines.items c.args.self.now.calls.items c.requires.intact (record { who = c.args.who; noise = c.args.noise }) c.requires.on c.walk-moved.result c.walk-moved.new.self.nodes c.walk-moved.new.self.machines.items c.walk-moved.ensures.walked c.put_away.new.self.nodes c.put_away.new.self.machines.items c.put_away.new.self.calls.items c.put_away.ensures.nodes c.put_away.ensures.machines (c.put_away.ensures.calls ∙ ap (λ v. if is_in_flight (told c.walk-moved.result.outcome) then v.items else slice_set v.items c.args.who Idle) c.walk-moved.ensures.calls);
  calls = calls_put g.P.Payload.same_as g.P.Payload.always_copies c.call_laws.ensures c.args.self.now.nodes c.args.self.now.machines.items c.args.self.now.calls.items c.requires.intact (record { who = c.args.who; noise = c.args.noise }) c.requires.on c.walk-moved.result c.walk-moved.new.self.nodes c.walk-moved.new.self.machines.items c.walk-moved.ensures.walked c.put_away.new.self.nodes c.put_away.new.self.machines.items c.put_away.new.self.calls.items c.put_away.ensures.nodes c.put_away.ensures.machines (c.put_away.ensures.calls ∙ ap (λ v. if is_in_flight (told c.walk-moved.result.outcome) then v.items else slice_set v.items c.args.who Idle) c.walk-moved.ensures.calls);
  report = ap (λ n. record { kind = Tree; decided = c.walk-moved.result.decided; kept = false; skipped = c.walk-moved.result.skipped; destroyed = n; outcome = c.of_tree.result }) (c.saturating_sub.ensures ∙ ap (λ n. n - c.standing.result) c.standing-stood.ensures.value ∙ ap (λ n. standing c.args.self.now.nodes - n) c.standing.ensures.value)
      ∙ ap (λ o. record { kind = Tree; decided = c.walk-moved.result.decided; kept = false; skipped = c.walk-moved.result.skipped; destroyed = (standing c.args.self.now.nodes - standing c.put_away.new.self.nodes); outcome = o }) c.of_tree.ensures;
}

pub returns-clause-counted : goal.returns-clause-counted
returns-clause-counted g c =
    let w = walked_on g.P.Payload.same_as g.P.Payload.always_copies c.call_laws.ensures c.args.self.now.nodes c.args.self.now.machines.items c.args.self.now.calls.items c.requires.intact (record { who = c.args.who; noise = c.args.noise }) c.requires.on c.walk-moved.result c.walk-moved.new.self.nodes c.walk-moved.new.self.machines.items c.walk-moved.ensures.walked c.put_away.new.self.nodes c.put_away.new.self.machines.items c.put_away.new.self.calls.items c.put_away.ensures.nodes c.put_away.ensures.machines (c.put_away.ensures.calls ∙ ap (λ v. if is_in_flight (told c.walk-moved.result.outcome) then v.items else slice_set v.items c.args.who Idle) c.walk-moved.ensures.calls) in
    let q : c.put_away.new.self.census ≡ c.args.self.now.census = c.put_away.ensures.census ∙ c.walk-moved.ensures.census in
    let t : c.count.new.self.taken.nodes + c.taken-before.result.nodes ≡ c.args.self.now.census.taken.nodes + c.taken-after.result.nodes = omega (arith, ap (λ x. x.taken.nodes) q, c.count.ensures.nodes) in
    let b : c.count.new.self.taken.bytes + c.taken-before.result.bytes ≡ c.args.self.now.census.taken.bytes + c.taken-after.result.bytes = omega (arith, ap (λ x. x.taken.bytes) q, c.count.ensures.bytes) in
    counted_walk g.P.Payload.same_as g.P.Payload.always_copies c.call_laws.ensures c.args.self.now.nodes c.args.self.now.machines.items c.args.self.now.calls.items c.requires.intact (record { who = c.args.who; noise = c.args.noise }) c.requires.on c.args.self.now.census c.requires.counted c.taken-before.result c.taken-before.ensures.nodes c.taken-before.ensures.bytes c.walk-moved.result c.put_away.new.self.nodes c.put_away.new.self.machines.items w c.taken-after.result c.taken-after.ensures.nodes c.taken-after.ensures.bytes (record { pairs = c.args.self.now.census.pairs; taken = c.count.new.self.taken }) refl
    t b c.change_by-change.result c.change_by-change.ensures c.count.new.self (c.count.ensures.pairs ∙ ap (λ x. x.pairs + more c.change_by-change.result) q) refl

pub returns-clause-charged : goal.returns-clause-charged
returns-clause-charged g c = c.standing.ensures.sum
