use Rattle.std.proofs.Common.{subst}
use Rattle.congee.specs.owned.Entries.{entries_in}
use Rattle.congee.specs.owned.Rows.{AreEntries}
use Rattle.congee.proofs.lemmas.owned.Rows.{row_at}
use Rattle.congee.proofs.owned.inner.Inner.row.Goals as goal

pub returns-in-N4 : goal.returns-in-N4
returns-in-N4 g c = (c.in-N4.n, subst (λ p. AreEntries c.args.self.now (entries_in p)) c.in-N4.is (row_at c.self.inside.prefix c.self.inside.places c.args.self.now c.self.view_is), c.children_from.ensures)

pub returns-in-N16 : goal.returns-in-N16
returns-in-N16 g c = (c.in-N16.n, subst (λ p. AreEntries c.args.self.now (entries_in p)) c.in-N16.is (row_at c.self.inside.prefix c.self.inside.places c.args.self.now c.self.view_is), c.children_from-in-N16.ensures)

pub returns-in-N48 : goal.returns-in-N48
returns-in-N48 g c = (c.in-N48.n, subst (λ p. AreEntries c.args.self.now (entries_in p)) c.in-N48.is (row_at c.self.inside.prefix c.self.inside.places c.args.self.now c.self.view_is), c.children_from-in-N48.ensures)

pub returns-in-N256 : goal.returns-in-N256
returns-in-N256 g c = rw c.deref.ensures (subst (λ p. AreEntries c.args.self.now (entries_in p)) c.in-N256.is (row_at c.self.inside.prefix c.self.inside.places c.args.self.now c.self.view_is))
