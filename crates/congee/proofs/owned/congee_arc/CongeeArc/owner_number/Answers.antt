use Rattle.std.specs.Prelude.{Some, None}
use Rattle.congee.proofs.lemmas.owned.Contents.{found_at}
use Rattle.congee.proofs.lemmas.owned.OwnerLemmas.{is_some_of_some, on_error}
use Rattle.congee.proofs.owned.congee_arc.CongeeArc.owner_number.Goals as goal

pub returns-in_err-another_owner-in-Some-clause-refused : goal.returns-in_err-another_owner-in-Some-clause-refused
returns-in_err-another_owner-in-Some-clause-refused g c =
    let found = found_at c.self.inside.arena c.args.key c.bytes_of_key-bytes.ensures.small c.bytes_of_key-bytes.result c.bytes_of_key-bytes.ensures.bytes (Some c.in-Some.payload.now) c.in-Some.ensures in
    on_error c.from_residual.result _ (rw (← c.self.view_is) (is_some_of_some c.in-Some.payload.now _ found))

pub returns-in_ok-another_owner-in-Some-clause-value : goal.returns-in_ok-another_owner-in-Some-clause-value
returns-in_ok-another_owner-in-Some-clause-value g c = rw (← c.self.view_is, c.in_ok-another_owner-in-Some.ensures) (found_at c.self.inside.arena c.args.key c.bytes_of_key-bytes.ensures.small c.bytes_of_key-bytes.result c.bytes_of_key-bytes.ensures.bytes (Some c.in-Some.payload.now) c.in-Some.ensures)

pub returns-in-None-clause-value : goal.returns-in-None-clause-value
returns-in-None-clause-value g c = rw (← c.self.view_is) (found_at c.self.inside.arena c.args.key c.bytes_of_key-bytes.ensures.small c.bytes_of_key-bytes.result c.bytes_of_key-bytes.ensures.bytes None c.in-None.ensures)
