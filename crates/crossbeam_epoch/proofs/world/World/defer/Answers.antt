use Rattle.std.proofs.Common.{◌≡◌, sym, ◌∙◌}
use Rattle.crossbeam_epoch.specs.declared.bag.Work.{Work}
use Rattle.crossbeam_epoch.specs.declared.bag.Work.TheVariants.{Blank, Remove, Run}
use Rattle.crossbeam_epoch.specs.declared.names.Name.{Name}
use Rattle.crossbeam_epoch.proofs.lemmas.world.Told.{tells_deferred, tells_still}
use Rattle.crossbeam_epoch.proofs.world.World.defer.Goals as goal

not_blank : {A : Type 0} (work : Work A) (job : A) → work ≡ Blank → work ≡ Run job → ⊥
not_blank work job blank run = cc (sym blank ∙ run)

no_removal : {A : Type 0} (work : Work A) (name : Name) (job : A) → work ≡ Remove name → work ≡ Run job → ⊥
no_removal work name job remove run = cc (sym remove ∙ run)

same_job : {A : Type 0} (work : Work A) (a b : A) → work ≡ Run a → work ≡ Run b → a ≡ b
same_job work a b is run = cc (sym is ∙ run)

pub unreachable-requires : goal.unreachable-requires
unreachable-requires g c = not_blank c.in-Err.work c.args.job c.in-Blank.is c.in-Err.ensures.back.1

pub unreachable-requires-in-Remove : goal.unreachable-requires-in-Remove
unreachable-requires-in-Remove g c = no_removal c.in-Err.work _ c.args.job c.in-Remove.is c.in-Err.ensures.back.1

pub returns-in-Ok : goal.returns-in-Ok
returns-in-Ok g c = record {
  ticket = c.in-Ok.ensures.ticket;
  state = c.in-Ok.ensures.state;
  back = tt;
  fault = c.in-Ok.ensures.fault;
  told = tells_deferred g.T.Links.names c.args.self.now _ c.args.who _ (Run c.args.job) c.in-Ok.ensures.state c.in-Ok.ensures.ticket c.in-Ok.ensures.fault;
}

pub returns-in-Run : goal.returns-in-Run
returns-in-Run g c = record {
  ticket = tt;
  state = tt;
  back = (c.in-Err.ensures.back.0, same_job c.in-Err.work c.in-Run.job c.args.job c.in-Run.is c.in-Err.ensures.back.1);
  fault = c.in-Err.ensures.fault;
  told = tells_still g.T.Links.names c.args.self.now _ c.in-Err.ensures.back.0;
}
