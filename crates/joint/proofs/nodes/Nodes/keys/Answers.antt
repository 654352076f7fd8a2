use Rattle.std.proofs.Common.{List, rules, subst}
use Rattle.joint.specs.nodes.Nodes.{nodes}
use Rattle.joint.specs.nodes.Survey.{PutsKeys}
use Rattle.joint.proofs.lemmas.nodes.Keyed.{keys_are}
use Rattle.joint.proofs.lemmas.nodes.KeyWalks.{all_put, keys_all}
use Rattle.joint.proofs.nodes.Nodes.keys.Goals as goal

pub keys_below-requires : goal.keys_below-requires
keys_below-requires g c = rw c.root.ensures (search rules)

pub returns : goal.returns
returns g c m st =
    let P : List _ → Type 0 = λ ks. PutsKeys (nodes c.args.self.now) 0 ks c.keys_below.new.keys.items in
    keys_are m c.keys_below.new.keys.items (keys_all m (nodes c.args.self.now) st c.keys_below.new.keys.items (all_put (nodes c.args.self.now) c.requires c.keys_below.new.keys.items (subst P c.in_ok-keys.ensures.items (rw c.root.ensures at c.in_ok-keys_below.ensures)) m st))
