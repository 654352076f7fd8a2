use Rattle.crossbeam_epoch.proofs.lemmas.world.Moves.{top_now}
use Rattle.crossbeam_epoch.proofs.world.World.grace.Goals as goal

pub returns : goal.returns
returns g c = record { called = λ h s f. f.graceful; epoch = λ h s q e f is. top_now h s q e f is }
