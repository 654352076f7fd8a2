use Rattle.std.proofs.Common.{◌≡◌, length, sym, ap, ◌∙◌}
use Rattle.std.specs.Prelude.{slice_index}
use Rattle.congee.specs.forms.Forms.{capacity_of, prefix_of}
use Rattle.joint.proofs.lemmas.nodes.ByteLooks.{places_of, seen_truly}
use Rattle.joint.proofs.nodes.reading.read.Goals as goal

pub returns-in-Some-look-clause-gives : goal.returns-in-Some-look-clause-gives
returns-in-Some-look-clause-gives g c = let e : c.prefix-prefix.result.now ≡ prefix_of c.args.node.now = c.prefix-prefix.ensures.bytes in (
  rw (← e) c.in_default.ensures,
  ap length e,
  c.prefix-prefix.ensures.fits,
  places_of c.node_type-form.result ∙ ap capacity_of c.node_type-form.ensures,
  c.in-Some-look.ensures.byte,
  λ t. seen_truly c.args.node.now c.args.word c.args.key.now _ c.in-Some-look.seen c.requires (ap (λ p. slice_index c.args.key.now (length p)) (sym e)) c.in-Some-look.ensures,
)
