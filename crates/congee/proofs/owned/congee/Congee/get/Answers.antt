use Rattle.std.proofs.Common.{ap, ◌∙◌}
use Rattle.std.specs.Option.{option_map}
use Rattle.congee.proofs.lemmas.owned.Contents.{found_at}
use Rattle.congee.proofs.owned.congee.Congee.get.Goals as goal

pub returns : goal.returns
returns g c =
    rw (← c.self.view_is, c.word_of.ensures) (ap (option_map g.V.Word64.of_word) (found_at c.self.inside.arena (g.K.Word64.word c.args.key.now) c.bytes_of_key-bytes.ensures.small c.bytes_of_key-bytes.result c.bytes_of_key-bytes.ensures.bytes c.copied.result (c.copied.ensures ∙ c.get.ensures)))
