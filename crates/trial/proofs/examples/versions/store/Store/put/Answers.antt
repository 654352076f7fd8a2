use Rattle.std.proofs.Common.{◌≡◌, ◌+◌, ap, rules}
use Rattle.trial.specs.VersionWords.{value_back}
use Rattle.trial.proofs.RowVersions.{free_put, tells_put}
use Rattle.trial.proofs.examples.versions.store.Store.put.Goals as goal

pub invariant_of-self-2 : goal.invariant_of-self-2
invariant_of-self-2 g c = record {
  free = λ row stamp a b.
      let next : c.in-Some.stamp ≡ c.args.self.now.last + 1 = search rules in
      free_put _ _ c.args.row c.in-Some.stamp _ row stamp (ap (λ p. p.1) c.in-Ok.ensures.inserts.2.answers) a b (c.args.self.now.free row stamp (search rules) b);
}

pub returns-clause-tells : goal.returns-clause-tells
returns-clause-tells g c = λ log t.
    tells_put _ _ _ c.args.self.now.last c.args.row c.in-Some.stamp _ c.args.value log (ap (λ p. p.1) c.in-Ok.ensures.inserts.2.answers) (value_back c.args.value (search rules)) (search rules) (search rules) (c.args.self.now.free c.args.row) t
