use Rattle.std.proofs.Common.{◌≡◌, length, arith, rules}
use Rattle.congee.proofs.lemmas.forms.Ranks.{count_none, count_other, count_lower}
use Rattle.congee.proofs.forms.ranks.count_lower.Goals as goal

pub loop-i-init : goal.loop-i-init
loop-i-init g c = count_none c.args.bytes.now c.args.byte

pub loop-i-preserved : goal.loop-i-preserved
loop-i-preserved g c =
    let size : length c.args.bytes.now ≡ g.row.N = search rules in
    elim c.if-bytes-i.branch [
      | goal.then-bytes-i w ↦ rw w.count-is (count_lower c.args.bytes.now c.args.byte c.requires.ordered c.loop-i.count c.loop-i.i (omega (arith, size, c.loop-i-test.true)) w.if-bytes-i.true c.loop-i.invariant)
      | goal.else-bytes-i w ↦ rw w.count-is (count_other c.args.bytes.now c.args.byte c.loop-i.count c.loop-i.i w.if-bytes-i.false c.loop-i.invariant)
    ]
