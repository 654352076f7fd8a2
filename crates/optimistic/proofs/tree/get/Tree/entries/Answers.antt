use Rattle.std.proofs.Common.{◌≡◌, arith}
use Rattle.optimistic.specs.Layout.{room}
use Rattle.optimistic.proofs.lemmas.forms.PlaceLemmas.{entries_sixteen, entries_forty_eight}
use Rattle.optimistic.proofs.lemmas.MoveLemmas.{below_inside, two_inside}
use Rattle.optimistic.proofs.lemmas.tree.Setting.{room_some}
use Rattle.optimistic.proofs.tree.get.Tree.entries.Goals as goal

pub read-word-requires-clause-inside : goal.read-word-requires-clause-inside
read-word-requires-clause-inside c = (omega arith, two_inside c.args.at.form (room_some c.args.at.form c.requires.at.some c.requires.at.form))

pub read-mask-requires-clause-inside : goal.read-mask-requires-clause-inside
read-mask-requires-clause-inside c =
    let r : room c.args.at.form ≡ 16 = omega (arith, c.room_of.ensures) in
    (omega arith, below_inside c.args.at.form 4 (omega (arith, r)) (omega (arith, entries_sixteen c.args.at.form r)))

pub read-line-requires-clause-inside : goal.read-line-requires-clause-inside
read-line-requires-clause-inside c =
    let r : room c.args.at.form ≡ 48 = omega (arith, c.room_of.ensures) in
    (omega arith, below_inside c.args.at.form 8 (omega (arith, r)) (omega (arith, entries_forty_eight c.args.at.form r)))
