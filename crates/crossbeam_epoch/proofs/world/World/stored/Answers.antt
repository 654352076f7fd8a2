use Rattle.std.proofs.Common.{refl, sym, subst, List}
use Rattle.crossbeam_epoch.specs.world.Fits.{Fits}
use Rattle.crossbeam_epoch.specs.world.History.{Mark}
use Rattle.crossbeam_epoch.specs.world.Machine.{with_store, with_roots}
use Rattle.crossbeam_epoch.specs.world.Reach.{marks_of}
use Rattle.crossbeam_epoch.proofs.lemmas.world.Progress.{orderly_beside}
use Rattle.crossbeam_epoch.proofs.lemmas.world.Runs.{fits_store, fits_roots}
use Rattle.crossbeam_epoch.proofs.lemmas.world.Told.{tells_act}
use Rattle.crossbeam_epoch.proofs.world.World.stored.Goals as goal

pub returns : goal.returns
returns g c = record {
  fits = λ h s st f. fits_store h s (with_store s st) refl f;
  rooted = λ h s roots f. fits_roots h s roots f;
  orderly = λ s st roots o. orderly_beside s (with_roots (with_store s st) roots) refl refl o;
  told = λ h s st act t same ends keeps. tells_act g.T.Links.names h s (with_store s st) act t (subst (λ (x : List Mark). Fits x (with_store s st)) (sym same) (fits_store (marks_of h) s (with_store s st) refl t.fits)) ends t.table keeps;
}
