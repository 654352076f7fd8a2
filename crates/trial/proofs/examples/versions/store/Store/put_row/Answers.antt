use Rattle.std.proofs.Common.{◌≡◌, ◌+◌, None, subst, sym, arith, rules}
use Rattle.trial.specs.Versions.{Lists, Reads}
use Rattle.trial.proofs.RowVersions.{lists_past, lists_push}
use Rattle.trial.proofs.examples.versions.store.Store.put_row.Goals as goal

pub returns : goal.returns
returns g c = λ start l h.
    subst (λ x. Lists c.args.self.now.versions.pairs c.args.snapshot.now.stamp start (c.args.row + 1) x) (sym c.in_ok-push.ensures.items)
    (lists_push _ _ start c.args.row c.in-Some.value _ l (subst (λ x. Reads c.args.self.now.versions.pairs c.args.row c.args.snapshot.now.stamp x) c.in-Some.is c.read.ensures.shown) h)

pub returns-in_default : goal.returns-in_default
returns-in_default g c = λ start l h.
    lists_past _ _ start c.args.row (c.args.row + 1) _ (omega arith) (λ r a b. let is : c.args.row ≡ r = omega arith in subst (λ x. Reads c.args.self.now.versions.pairs x c.args.snapshot.now.stamp None) is (let shown : Reads c.args.self.now.versions.pairs c.args.row c.args.snapshot.now.stamp None = search rules in shown)) h
