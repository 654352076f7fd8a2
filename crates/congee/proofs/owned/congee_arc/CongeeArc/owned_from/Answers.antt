use Rattle.congee.proofs.lemmas.owned.OwnerLemmas.{on_error}
use Rattle.congee.proofs.owned.congee_arc.CongeeArc.owned_from.Goals as goal

pub returns-in_err-another_owner-in-Some-clause-refused : goal.returns-in_err-another_owner-in-Some-clause-refused
returns-in_err-another_owner-in-Some-clause-refused g c = on_error c.from_residual.result _ (rw (← c.self.view_is) (c.in-Some.key, c.in-Some.payload.now, c.in-Some.ensures))
