use Rattle.std.proofs.Common.{◌≡◌, ◌≤◌, ◌==◌, ◌∙◌, ap, subst, length}
use Rattle.crossbeam_epoch.specs.world.Machine.{place}
use Rattle.crossbeam_epoch.proofs.lemmas.world.Held.{place_read, has_place, is_full_at}
use Rattle.crossbeam_epoch.proofs.world.World.is_bag_full.Goals as goal

pub returns : goal.returns
returns g c =
    let at = place_read c.args.self.now _ c.args.who c.index.result.now c.self.view_is c.requires.in_table c.index.ensures in
    let is : c.is_full.result ≡ (length (place c.args.self.now c.args.who).bag == 64) = c.is_full.ensures.value ∙ ap (λ p. length p.bag == 64) at in
    let fits : length (place c.args.self.now c.args.who).bag ≤ 64 = subst (λ p. length p.bag ≤ 64) at c.is_full.ensures.fits in
    record {
      value = is;
      room = λ none. has_place (length (place c.args.self.now c.args.who).bag) c.is_full.result is fits none;
      full = λ some. is_full_at (length (place c.args.self.now c.args.who).bag) c.is_full.result is some;
    }
