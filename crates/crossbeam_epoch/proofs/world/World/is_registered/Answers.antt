use Rattle.std.proofs.Common.{sym, ap}
use Rattle.crossbeam_epoch.proofs.lemmas.world.Held.{place_found, found_within, none_found}
use Rattle.crossbeam_epoch.proofs.world.World.is_registered.Goals as goal

pub returns-in-Some : goal.returns-in-Some
returns-in-Some g c =
    let at = c.in-Some.ensures.lookup in
    record {
      value = ap (λ p. p.registered) (place_found c.args.self.now _ c.deref.result.now c.args.who c.in-Some.place.now c.self.view_is c.deref.ensures.value at.0 at.1);
      inside = λ _. found_within c.args.self.now _ c.deref.result.now c.args.who c.self.view_is c.deref.ensures.value at.0;
    }

pub returns-in-None-clause-value : goal.returns-in-None-clause-value
returns-in-None-clause-value g c = sym (ap (λ p. p.registered) (none_found c.args.self.now _ c.deref.result.now c.args.who c.self.view_is c.deref.ensures.value c.in-None.ensures.lookup.3))
