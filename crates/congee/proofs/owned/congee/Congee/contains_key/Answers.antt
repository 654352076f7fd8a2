use Rattle.std.proofs.Common.{rules, ◌≡◌, ◌∙◌}
use Rattle.std.specs.Prelude.{is_some}
use Rattle.congee.proofs.lemmas.owned.Contents.{found_at}
use Rattle.congee.proofs.lemmas.owned.Scanned.{there_told}
use Rattle.congee.proofs.owned.congee.Congee.contains_key.Goals as goal

pub returns : goal.returns
returns g c =
    let t : c.is_some.result ≡ is_some c.copied-found.result = search rules in
    rw (← c.self.view_is) (there_told c.copied-found.result _ c.is_some.result t (found_at c.self.inside.arena (g.K.Word64.word c.args.key.now) c.bytes_of_key-bytes.ensures.small c.bytes_of_key-bytes.result c.bytes_of_key-bytes.ensures.bytes c.copied-found.result (c.copied-found.ensures ∙ c.get.ensures)))
