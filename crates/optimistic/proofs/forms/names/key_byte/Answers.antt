use Rattle.std.proofs.Common.{◌+◌, ◌*◌, ap, sym, ◌∙◌}
use Rattle.optimistic.specs.Layout.{prefix_of}
use Rattle.optimistic.proofs.lemmas.forms.Levels.{key_step, key_byte_is}
use Rattle.optimistic.proofs.forms.names.key_byte.Goals as goal

pub returns-clause-byte : goal.returns-clause-byte
returns-clause-byte c = key_byte_is c.args.key c.args.level

pub returns-clause-prefix : goal.returns-clause-prefix
returns-clause-prefix c = key_step c.args.key c.args.level c.requires ∙ ap (λ x. prefix_of c.args.key c.args.level * 256 + x) (sym (key_byte_is c.args.key c.args.level))
