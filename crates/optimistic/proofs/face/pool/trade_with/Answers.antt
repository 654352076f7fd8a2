use Rattle.std.proofs.Common.{sym, subst}
use Rattle.atomic_table.specs.declared.shared.Seat.{Seat}
use Rattle.optimistic.specs.declared.words.rule.Note.{Note}
use Rattle.optimistic.specs.declared.words.rule.View.{View}
use Rattle.optimistic.specs.tree.Fresh.{IsFreeOf}
use Rattle.optimistic.specs.face.Workers.{HasNames}
use Rattle.optimistic.proofs.lemmas.tree.Blank.{free_since}
use Rattle.optimistic.proofs.lemmas.face.Knowing.{has_names, names_at, names_of}
use Rattle.optimistic.proofs.face.pool.trade_with.Goals as goal

pub returns-clause-names : goal.returns-clause-names
returns-clause-names c =
    let id = c.args.tree.now.nodes.table.shared.table_id in let u : View = c.heed.new.hand.me.0 in let w : View = c.heed-2.new.hand.me.0 in
    let mine : HasNames id c.args.free.now c.replace-mine.result = subst (λ (h : Seat Note View). HasNames id c.args.free.now h) (sym c.replace-mine.ensures.value) c.requires.mine in
    let a : IsFreeOf c.args.free.now w = free_since c.args.free.now u w (names_at id c.args.free.now c.replace-mine.result u mine c.heed.ensures.heeds c.heed.ensures.of.2) c.heed-2.ensures.looks.since in
    let b : IsFreeOf c.args.shelf.free w = names_at id c.args.shelf.free c.args.shelf.names w c.requires.shelf c.heed-2.ensures.heeds c.heed-2.ensures.of.2 in
    let t = c.trade.ensures.names w a b in
    has_names id w.seen c.trade.new.self c.note.result c.note.ensures.note c.heed-2.ensures.of.2 (names_of c.trade.new.self w t.0)

pub returns-clause-shelf : goal.returns-clause-shelf
returns-clause-shelf c =
    let id = c.args.tree.now.nodes.table.shared.table_id in let u : View = c.heed.new.hand.me.0 in let w : View = c.heed-2.new.hand.me.0 in
    let mine : HasNames id c.args.free.now c.replace-mine.result = subst (λ (h : Seat Note View). HasNames id c.args.free.now h) (sym c.replace-mine.ensures.value) c.requires.mine in
    let a : IsFreeOf c.args.free.now w = free_since c.args.free.now u w (names_at id c.args.free.now c.replace-mine.result u mine c.heed.ensures.heeds c.heed.ensures.of.2) c.heed-2.ensures.looks.since in
    let b : IsFreeOf c.args.shelf.free w = names_at id c.args.shelf.free c.args.shelf.names w c.requires.shelf c.heed-2.ensures.heeds c.heed-2.ensures.of.2 in
    let t = c.trade.ensures.names w a b in
    let n : View = c.note.new.hand.me.0 in
    has_names id n.seen c.trade.new.other c.note-seen.result c.note-seen.ensures.note c.note.ensures.of.2 (names_of c.trade.new.other n (subst (IsFreeOf c.trade.new.other) (sym c.note.ensures.same) t.1))
