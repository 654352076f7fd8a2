use Rattle.std.proofs.Common.{not, sym, ap, ◌∙◌, length}
use Rattle.std.specs.Prelude.{◌==◌, ◌&&◌}
use Rattle.crossbeam_epoch.specs.world.Machine.{place}
use Rattle.crossbeam_epoch.proofs.lemmas.world.Held.{place_read}
use Rattle.crossbeam_epoch.proofs.lemmas.world.Within.{worker_within}
use Rattle.crossbeam_epoch.proofs.world.World.has_place.Goals as goal

pub index-requires : goal.index-requires
index-requires g c = worker_within c.args.self.now _ c.args.who _ c.self.view_is c.self.inside.participants.ok.0 (c.is_registered.ensures.inside c.if-is_registered.true)

pub returns-then-is_registered : goal.returns-then-is_registered
returns-then-is_registered g c =
    let at = place_read c.args.self.now _ c.args.who c.index.result.now c.self.view_is (c.is_registered.ensures.inside c.if-is_registered.true) c.index.ensures in
    ap (λ b. not b) c.is_full.ensures.value
    ∙ ap (λ p. not (length p.bag == 64)) at
    ∙ sym (ap (λ b. b && not (length (place c.args.self.now c.args.who).bag == 64)) (sym c.is_registered.ensures.value ∙ c.if-is_registered.true))

pub returns-else-is_registered : goal.returns-else-is_registered
returns-else-is_registered g c = c.if-is_registered.false ∙ sym (ap (λ b. b && not (length (place c.args.self.now c.args.who).bag == 64)) (sym c.is_registered.ensures.value ∙ c.if-is_registered.false))
