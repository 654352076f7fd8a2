use Rattle.std.proofs.Common.{rules, ◌≡◌, ◌<◌, ◌^◌, ◌-◌, true, length, subst, sym, ◌∙◌}
use Rattle.crossbeam_epoch.specs.world.Machine.{place}
use Rattle.crossbeam_epoch.proofs.lemmas.world.Held.{fault_known, fault_unknown}
use Rattle.crossbeam_epoch.proofs.world.World.defer_fault.Goals as goal

pub returns : goal.returns
returns g c =
    let registered : (place c.args.self.now c.args.who).registered ≡ true = sym c.is_registered.ensures.value ∙ c.if-not-is_registered.false in
    let inside : c.args.who < length c.args.self.now.table = search rules in
    record {
      value = fault_known c.args.self.now _ c.args.who c.quiet_fault.result c.or_count.result c.self.view_is registered c.quiet_fault.ensures c.or_count.ensures.value;
      inside = λ none. inside;
      few = λ none. subst (λ s. s.next < 2 ^ 64 - 1) c.self.view_is (c.or_count.ensures.few none);
    }

pub returns-then-not-is_registered : goal.returns-then-not-is_registered
returns-then-not-is_registered g c = record {
  value = fault_unknown c.args.self.now c.args.who (sym c.is_registered.ensures.value ∙ c.if-not-is_registered.true);
  inside = λ none. absurd (cc none);
  few = λ none. absurd (cc none);
}
