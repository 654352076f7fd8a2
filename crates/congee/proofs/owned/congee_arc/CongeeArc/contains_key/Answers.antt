use Rattle.std.proofs.Common.{◌≡◌, ◌∙◌}
use Rattle.std.specs.Option.{option_copied}
use Rattle.congee.proofs.lemmas.owned.Contents.{found_at}
use Rattle.congee.proofs.lemmas.owned.OwnerCalls.{copied_some}
use Rattle.congee.proofs.lemmas.owned.Scanned.{there_told}
use Rattle.std.specs.Prelude.{is_some}
use Rattle.congee.proofs.owned.congee_arc.CongeeArc.contains_key.Goals as goal

pub returns : goal.returns
returns g c =
    let t : c.is_some.result ≡ is_some (option_copied c.get-found.result) = c.is_some.ensures ∙ copied_some c.get-found.result in
    rw (← c.self.view_is) (there_told (option_copied c.get-found.result) _ c.is_some.result t (found_at c.self.inside.arena (g.K.Word64.word c.args.key) c.bytes_of_key-bytes.ensures.small c.bytes_of_key-bytes.result c.bytes_of_key-bytes.ensures.bytes (option_copied c.get-found.result) c.get-found.ensures))
