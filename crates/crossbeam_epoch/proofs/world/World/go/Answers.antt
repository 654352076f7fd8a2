use Rattle.std.proofs.Common.{◌≡◌, ℕ, refl, ◌∙◌, ap, []}
use Rattle.std.proofs.lemmas.List.{get_or-set_same}
use Rattle.crossbeam_epoch.specs.world.Machine.{place, in_phase, published, relooked, repinned, secured, blank, queued, released}
use Rattle.crossbeam_epoch.specs.declared.world.participant.Phase.TheVariants as P
use Rattle.crossbeam_epoch.proofs.lemmas.world.Goes.{goes_to, goes_queueing}
use Rattle.crossbeam_epoch.proofs.world.World.go.Goals as goal

pub returns-in-Look : goal.returns-in-Look
returns-in-Look g c =
    let same : c.self.inside.epoch ≡ c.args.self.now.epoch = ap (λ s. s.epoch) c.self.view_is in
    record { step = goes_to c.args.self.now c.look.new.self c.args.who (P.Look) (record (place c.args.self.now c.args.who) { phase = P.Publish c.args.self.now.epoch }) c.look.result c.silent.result c.requires.registered (c.requires.phase ∙ c.in-Look.is) c.requires.in_table refl refl refl c.look.ensures.outcome (c.look.ensures.state ∙ ap (λ (e : ℕ). in_phase c.args.self.now c.args.who (P.Publish e)) same) c.silent.ensures }

pub returns-in-Publish : goal.returns-in-Publish
returns-in-Publish g c = record { step = goes_to c.args.self.now c.publish.new.self c.args.who (P.Publish c.in-Publish.seen) (published c.in-Publish.seen (place c.args.self.now c.args.who)) c.publish.result c.silent-in-Publish.result c.requires.registered (c.requires.phase ∙ c.in-Publish.is) c.requires.in_table refl refl refl c.publish.ensures.outcome c.publish.ensures.state c.silent-in-Publish.ensures }

pub returns-in-RepinLook : goal.returns-in-RepinLook
returns-in-RepinLook g c = record { step = goes_to c.args.self.now c.look_again.new.self c.args.who (P.RepinLook) (relooked c.args.self.now.epoch (place c.args.self.now c.args.who)) c.look_again.result c.silent-in-RepinLook.result c.requires.registered (c.requires.phase ∙ c.in-RepinLook.is) c.requires.in_table refl refl refl c.look_again.ensures.outcome c.look_again.ensures.state c.silent-in-RepinLook.ensures }

pub returns-in-RepinPublish : goal.returns-in-RepinPublish
returns-in-RepinPublish g c = record { step = goes_to c.args.self.now c.publish_again.new.self c.args.who (P.RepinPublish c.in-RepinPublish.seen) (repinned c.in-RepinPublish.seen (place c.args.self.now c.args.who)) c.publish_again.result c.silent-in-RepinPublish.result c.requires.registered (c.requires.phase ∙ c.in-RepinPublish.is) c.requires.in_table refl refl refl c.publish_again.ensures.outcome c.publish_again.ensures.state c.silent-in-RepinPublish.ensures }

pub returns-in-Seal : goal.returns-in-Seal
returns-in-Seal g c =
    let same : c.self.inside.epoch ≡ c.args.self.now.epoch = ap (λ s. s.epoch) c.self.view_is in
    record { step = goes_to c.args.self.now c.look-in-Seal.new.self c.args.who (P.Seal) (record (place c.args.self.now c.args.who) { phase = P.Queue c.args.self.now.epoch }) c.look-in-Seal.result c.silent-in-Seal.result c.requires.registered (c.requires.phase ∙ c.in-Seal.is) c.requires.in_table refl refl refl c.look-in-Seal.ensures.outcome (c.look-in-Seal.ensures.state ∙ ap (λ (e : ℕ). in_phase c.args.self.now c.args.who (P.Queue e)) same) c.silent-in-Seal.ensures }

pub returns-in-ReleaseSeal : goal.returns-in-ReleaseSeal
returns-in-ReleaseSeal g c =
    let same : c.self.inside.epoch ≡ c.args.self.now.epoch = ap (λ s. s.epoch) c.self.view_is in
    record { step = goes_to c.args.self.now c.look-in-ReleaseSeal.new.self c.args.who (P.ReleaseSeal) (record (place c.args.self.now c.args.who) { phase = P.ReleaseQueue c.args.self.now.epoch }) c.look-in-ReleaseSeal.result c.silent-in-ReleaseSeal.result c.requires.registered (c.requires.phase ∙ c.in-ReleaseSeal.is) c.requires.in_table refl refl refl c.look-in-ReleaseSeal.ensures.outcome (c.look-in-ReleaseSeal.ensures.state ∙ ap (λ (e : ℕ). in_phase c.args.self.now c.args.who (P.ReleaseQueue e)) same) c.silent-in-ReleaseSeal.ensures }

pub returns-in-Secure : goal.returns-in-Secure
returns-in-Secure g c = record { step = goes_to c.args.self.now c.secure.new.self c.args.who (P.Secure c.in-Secure.n) (secured c.in-Secure.n (place c.args.self.now c.args.who)) c.secure.result c.silent-in-Secure.result c.requires.registered (c.requires.phase ∙ c.in-Secure.is) c.requires.in_table refl refl refl c.secure.ensures.outcome c.secure.ensures.state c.silent-in-Secure.ensures }

pub returns-in-SecureSeal : goal.returns-in-SecureSeal
returns-in-SecureSeal g c =
    let same : c.self.inside.epoch ≡ c.args.self.now.epoch = ap (λ s. s.epoch) c.self.view_is in
    record { step = goes_to c.args.self.now c.look-in-SecureSeal.new.self c.args.who (P.SecureSeal) (record (place c.args.self.now c.args.who) { phase = P.SecureQueue c.args.self.now.epoch }) c.look-in-SecureSeal.result c.silent-in-SecureSeal.result c.requires.registered (c.requires.phase ∙ c.in-SecureSeal.is) c.requires.in_table refl refl refl c.look-in-SecureSeal.ensures.outcome (c.look-in-SecureSeal.ensures.state ∙ ap (λ (e : ℕ). in_phase c.args.self.now c.args.who (P.SecureQueue e)) same) c.silent-in-SecureSeal.ensures }

pub returns-in-Load : goal.returns-in-Load
returns-in-Load g c =
    let same : c.self.inside.epoch ≡ c.args.self.now.epoch = ap (λ s. s.epoch) c.self.view_is in
    record { step = goes_to c.args.self.now c.look-in-Load.new.self c.args.who (P.Load) (record (place c.args.self.now c.args.who) { phase = P.Inspect c.args.self.now.epoch 0 }) c.look-in-Load.result c.silent-in-Load.result c.requires.registered (c.requires.phase ∙ c.in-Load.is) c.requires.in_table refl refl refl c.look-in-Load.ensures.outcome (c.look-in-Load.ensures.state ∙ ap (λ (e : ℕ). in_phase c.args.self.now c.args.who (P.Inspect e 0)) same) c.silent-in-Load.ensures }

pub returns-in-Queue : goal.returns-in-Queue
returns-in-Queue g c = record { step = goes_queueing c.args.self.now c.queue.new.self (queued c.args.self.now c.args.who c.in-Queue.seal P.Load) c.args.who (P.Queue c.in-Queue.seal) (record (place c.args.self.now c.args.who) { bag = []; phase = P.Load }) c.queue.result c.silent-in-Queue.result c.requires.registered (c.requires.phase ∙ c.in-Queue.is) refl refl refl refl (get_or-set_same c.args.self.now.table c.args.who (record (place c.args.self.now c.args.who) { bag = []; phase = P.Load }) blank c.requires.in_table) c.queue.ensures.outcome c.queue.ensures.done c.queue.ensures.refused c.silent-in-Queue.ensures }

pub returns-in-SecureQueue : goal.returns-in-SecureQueue
returns-in-SecureQueue g c = record { step = goes_queueing c.args.self.now c.queue-in-SecureQueue.new.self (queued c.args.self.now c.args.who c.in-SecureQueue.seal P.Idle) c.args.who (P.SecureQueue c.in-SecureQueue.seal) (record (place c.args.self.now c.args.who) { bag = []; phase = P.Idle }) c.queue-in-SecureQueue.result c.silent-in-SecureQueue.result c.requires.registered (c.requires.phase ∙ c.in-SecureQueue.is) refl refl refl refl (get_or-set_same c.args.self.now.table c.args.who (record (place c.args.self.now c.args.who) { bag = []; phase = P.Idle }) blank c.requires.in_table) c.queue-in-SecureQueue.ensures.outcome c.queue-in-SecureQueue.ensures.done c.queue-in-SecureQueue.ensures.refused c.silent-in-SecureQueue.ensures }

pub returns-in-ReleaseQueue : goal.returns-in-ReleaseQueue
returns-in-ReleaseQueue g c = record { step = goes_queueing c.args.self.now c.leave.new.self (released c.args.self.now c.args.who c.in-ReleaseQueue.seal) c.args.who (P.ReleaseQueue c.in-ReleaseQueue.seal) (blank) c.leave.result c.silent-in-ReleaseQueue.result c.requires.registered (c.requires.phase ∙ c.in-ReleaseQueue.is) refl refl refl refl (get_or-set_same c.args.self.now.table c.args.who (blank) blank c.requires.in_table) c.leave.ensures.outcome c.leave.ensures.done c.leave.ensures.refused c.silent-in-ReleaseQueue.ensures }
