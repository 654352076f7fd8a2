use Rattle.std.proofs.Common.{ℕ, subst}
use Rattle.optimistic.specs.Layout.{room}
use Rattle.optimistic.specs.words.Last.{words_in, node_in}
use Rattle.optimistic.specs.forms.Least.{IsLeast}
use Rattle.optimistic.proofs.lemmas.FillLemmas.{match_true}
use Rattle.optimistic.proofs.lemmas.drain.Ends.{match_false, inside, locked, shape_here, next_is}
use Rattle.optimistic.proofs.drain.nexts.next_at.Goals as goal

pub returns-then-not-unlocked-clause-next : goal.returns-then-not-unlocked-clause-next
returns-then-not-unlocked-clause-next c plots calm log end leads =
    locked (words_in c.args.words.now) plots calm log end c.args.at c.args.from leads c.requires.form.0 c.requires.form.1 c.requires.level
    (match_false _ _ _ c.if-not-unlocked.true c.is_unlocked-unlocked.ensures (inside (words_in c.args.words.now) plots calm log end c.args.at c.args.from leads c.requires.form.0 c.requires.form.1 c.requires.level))

pub returns-clause-next : goal.returns-clause-next
returns-clause-next c plots calm log end leads =
    let unlocked = match_true _ _ _ c.if-not-unlocked.false c.is_unlocked-unlocked.ensures in
    let shape = shape_here (words_in c.args.words.now) plots calm log end c.args.at c.args.from leads c.requires.form.0 c.requires.form.1 c.requires.level unlocked.1 in
    next_is (words_in c.args.words.now) plots calm log end c.args.at c.args.from leads c.requires.form.0 c.requires.form.1 c.requires.level unlocked.1 c.next_of_least.result
    (c.next_of_least.ensures.next (node_in c.args.words.now c.args.at.node) shape
    (subst (λ (z : ℕ). IsLeast c.args.at.form (node_in c.args.words.now c.args.at.node) z (room c.args.at.form) c.least-item.result) c.key_byte-byte.ensures.byte c.least-item.ensures))
