use Rattle.std.proofs.Common.{rules, ◌≡◌, ℕ, List, ◌∷◌, sym, ◌∙◌, true, ◌<◌, length}
use Rattle.crossbeam_epoch.specs.world.History.{Mark}
use Rattle.crossbeam_epoch.specs.world.Log.{LogLine, Stepped, Shows}
use Rattle.crossbeam_epoch.specs.world.Machine.{State, place}
use Rattle.crossbeam_epoch.specs.world.Reach.{NextMoment, step_act}
use Rattle.crossbeam_epoch.specs.world.Steps.{after, marks, IsReport}
use Rattle.crossbeam_epoch.specs.declared.names.Name.{Name}
use Rattle.crossbeam_epoch.specs.declared.world.report.Event.{Event}
use Rattle.crossbeam_epoch.specs.declared.world.report.Report.{Report}
use Rattle.crossbeam_epoch.specs.declared.world.participant.Phase.TheVariants as P
use Rattle.crossbeam_epoch.proofs.lemmas.world.Goes.{begin_steps, refuses}
use Rattle.crossbeam_epoch.proofs.lemmas.world.Logs.{shows_step}
use Rattle.crossbeam_epoch.proofs.lemmas.world.Told.{tells_after}
use Rattle.crossbeam_epoch.proofs.world.World.step.Goals as goal

-- a step leads the moments on, and the log
leads : {T J : Type 0} (names : T → List Name) (s s' : State T J) (who : ℕ) (event : Event) (r : Report) → IsReport s who event r → s' ≡ after s who event r.outcome
    → NextMoment names (step_act s who event r) s s' × ((log : List LogLine) (h : List Mark) → Shows log h s → Shows (Stepped (record { who = who; event = event }) r ∷ log) (marks s who event r h) s')
leads names s s' who event r report state = (λ h t. rw state (tells_after names h s who event r report t), λ log h w. rw state (shows_step log h s (record { who = who; event = event }) r report w))

pub returns-in-Idle : goal.returns-in-Idle
returns-in-Idle g c =
    let registered : (place c.args.self.now c.args.who).registered ≡ true = sym c.is_registered.ensures.value ∙ c.if-not-is_registered.false in
    let inside : c.args.who < length c.args.self.now.table = search rules in
    let step = begin_steps c.args.self.now c.begin.new.self c.args.who c.in-Begin.op c.begin.result c.silent.result registered (sym c.phase_of-phase.ensures ∙ c.in-Idle.is) inside c.begin.ensures.outcome c.begin.ensures.state c.silent.ensures in
    let report : IsReport c.args.self.now c.args.who c.args.event c.silent.result = rw c.in-Begin.is step.0 in
    let state : c.begin.new.self ≡ after c.args.self.now c.args.who c.args.event c.silent.result.outcome = rw c.in-Begin.is step.1 in
    let on = leads g.T.Links.names c.args.self.now c.begin.new.self c.args.who c.args.event c.silent.result report state in
    record { report = report; state = state; told = on.0; shown = on.1 }

pub returns-in_default : goal.returns-in_default
returns-in_default g c =
    let registered : (place c.args.self.now c.args.who).registered ≡ true = sym c.is_registered.ensures.value ∙ c.if-not-is_registered.false in
    let busy : (place c.args.self.now c.args.who).phase ≡ P.Idle → ⊥ = λ e. c.in_default.not-Idle (c.phase_of-phase.ensures ∙ e) in
    let step = refuses c.args.self.now c.args.who c.in-Begin.op c.busy_fault.result c.refused-in_default.result registered busy c.busy_fault.ensures c.refused-in_default.ensures in
    let report : IsReport c.args.self.now c.args.who c.args.event c.refused-in_default.result = rw c.in-Begin.is step.0 in
    let state : c.args.self.now ≡ after c.args.self.now c.args.who c.args.event c.refused-in_default.result.outcome = rw c.in-Begin.is step.1 in
    let on = leads g.T.Links.names c.args.self.now c.args.self.now c.args.who c.args.event c.refused-in_default.result report state in
    record { report = report; state = state; told = on.0; shown = on.1 }

pub returns-in-Go : goal.returns-in-Go
returns-in-Go g c =
    let report : IsReport c.args.self.now c.args.who c.args.event c.go.result = rw c.in-Go.is c.go.ensures.step.0 in
    let state : c.go.new.self ≡ after c.args.self.now c.args.who c.args.event c.go.result.outcome = rw c.in-Go.is c.go.ensures.step.1 in
    let on = leads g.T.Links.names c.args.self.now c.go.new.self c.args.who c.args.event c.go.result report state in
    record { report = report; state = state; told = on.0; shown = on.1 }
