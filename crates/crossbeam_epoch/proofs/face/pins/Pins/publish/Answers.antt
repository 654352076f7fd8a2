use Rattle.std.proofs.Common.{arith, ap, ◌∙◌}
use Rattle.crossbeam_epoch.proofs.lemmas.face.Pins.{publishes, confirms, pinned_after}
use Rattle.crossbeam_epoch.proofs.face.pins.Pins.publish.Goals as goal

pub store-requires : goal.store-requires
store-requires c = let inside = c.requires.own.0 in (c.requires.of.0, omega (arith, c.word_of.ensures, c.args.self.now.sized, inside), rw (c.word_of.ensures, c.pinned.ensures) (publishes _ _ _ _ _ _ _ c.requires.own.1 (omega (arith, c.requires.seen.0))))

pub load-epoch-requires : goal.load-epoch-requires
load-epoch-requires c = let now = c.store.ensures.2 _ c.pinned.ensures in (
  c.store.ensures.0 ∙ c.requires.of.0,
  omega (arith, c.args.self.now.sized),
  confirms _ _ _ _ _ _ _ (ap (λ m. m.0.place) now ∙ c.requires.own.1) (ap (λ m. m.0.at) now),
)

pub returns-clause-of : goal.returns-clause-of
returns-clause-of c = let now = c.store.ensures.2 _ c.pinned.ensures in (
  c.load-epoch.ensures.0 ∙ (c.store.ensures.0 ∙ c.requires.of.0),
  ap (λ m. m.1) c.load-epoch.ensures.2.0 ∙ (ap (λ m. m.1) now ∙ c.requires.of.1),
)

pub returns-clause-view : goal.returns-clause-view
returns-clause-view c = let now = c.store.ensures.2 _ c.pinned.ensures in
    ap (λ m. m.0) c.load-epoch.ensures.2.0 ∙ pinned_after c.args.token.now.me.0 c.store.new.seat.me.0 c.args.place c.args.at c.load-epoch.result c.requires.own.1 (ap (λ m. m.0) now)

pub invariant_of-result : goal.invariant_of-result
invariant_of-result c = let now = c.store.ensures.2 _ c.pinned.ensures in let later = c.load-epoch.ensures.2.1 in record { later = omega (arith, c.requires.seen.0, ap (λ m. m.0.seen) now, later) }
