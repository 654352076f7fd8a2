use Rattle.std.proofs.Common.{sym, ap, ◌∙◌}
use Rattle.crossbeam_epoch.specs.world.Machine.{ends_advance}
use Rattle.crossbeam_epoch.proofs.lemmas.world.Held.{place_found, none_found}
use Rattle.crossbeam_epoch.proofs.world.World.ends_at.Goals as goal

pub returns-in-Some : goal.returns-in-Some
returns-in-Some g c =
    let at = c.in-Some.ensures.lookup in
    c.is_elsewhere.ensures ∙ ap (λ p. ends_advance p.word c.args.seen) (place_found c.args.self.now _ c.deref.result.now c.args.at c.in-Some.place.now c.self.view_is c.deref.ensures.value at.0 at.1)

pub returns-in-None : goal.returns-in-None
returns-in-None g c = sym (ap (λ p. ends_advance p.word c.args.seen) (none_found c.args.self.now _ c.deref.result.now c.args.at c.self.view_is c.deref.ensures.value c.in-None.ensures.lookup.3))
