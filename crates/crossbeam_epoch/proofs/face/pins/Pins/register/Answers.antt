use Rattle.std.proofs.Common.{rules, arith, ap, ◌∙◌, ◌<◌}
use Rattle.crossbeam_epoch.proofs.lemmas.face.Pins.{arrives, claims, placed_after, refused_after}
use Rattle.crossbeam_epoch.proofs.face.pins.Pins.register.Goals as goal

pub load_new_seat-requires : goal.load_new_seat-requires
load_new_seat-requires c = (omega (arith, c.args.self.now.sized), arrives _ _ _)

pub compare_exchange-found-requires : goal.compare_exchange-found-requires
compare_exchange-found-requires c = let i = c.loop-place.invariant in let inside : c.loop-place.place < c.args.self.now.places = search rules in (
  i.of.0,
  omega (arith, c.word_of.ensures, c.args.self.now.sized, inside),
  rw c.word_of.ensures (claims _ _ _ _ _ _ (omega (arith, inside, c.args.self.now.places_are)) (ap (λ v. v.place) i.view) (ap (λ v. v.at) i.view)),
)

pub returns-then-found-eq-FREE : goal.returns-then-found-eq-FREE
returns-then-found-eq-FREE c = let i = c.loop-place.invariant in let did = c.compare_exchange-found.ensures in let took = did.2.0 (search rules) c.loop-place.place c.word_of.ensures in record {
  ok = (
    search rules,
    (did.0 ∙ i.of.0, ap (λ m. m.1) took ∙ i.of.1),
    placed_after _ _ _ _ i.view (ap (λ m. m.0) took),
  );
  full = tt;
}

pub loop-place-preserved : goal.loop-place-preserved
loop-place-preserved c = let i = c.loop-place.invariant in let did = c.compare_exchange-found.ensures in let missed = did.2.1 (search rules) in let seen = refused_after _ _ _ i.view (ap (λ m. m.0) missed) in record {
  of = (did.0 ∙ i.of.0, ap (λ m. m.1) missed ∙ i.of.1);
  view = seen;
  taken = ap (λ v. v.taken) seen;
}
