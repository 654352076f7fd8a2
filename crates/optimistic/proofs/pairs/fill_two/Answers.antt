use Rattle.optimistic.specs.Moves.{words_of}
use Rattle.optimistic.proofs.lemmas.words.Moments.{tells_since}
use Rattle.optimistic.proofs.lemmas.MoveLemmas.{stays_trans}
use Rattle.optimistic.proofs.lemmas.PairLemmas.{empty_room, one_room, two_there}
use Rattle.optimistic.proofs.pairs.fill_two.Goals as goal

pub put_where_room-requires-clause-tells : goal.put_where_room-requires-clause-tells
put_where_room-requires-clause-tells g c = λ e. tells_since c.args.a.first c.args.hand.now.me.0 c.clear_all.new.hand.me.0 (c.requires.tells e).0 c.clear_all.ensures.stays.since

pub put_where_room-requires-clause-room : goal.put_where_room-requires-clause-room
put_where_room-requires-clause-room g c = empty_room c.args.form (words_of c.clear_all.new.hand.me.0 c.args.node) c.args.a.byte c.requires.form c.clear_all.ensures.empty

pub put_where_room-requires-2-clause-tells : goal.put_where_room-requires-2-clause-tells
put_where_room-requires-2-clause-tells g c = λ e. tells_since c.args.b.first c.clear_all.new.hand.me.0 c.put_where_room.new.hand.me.0
    (tells_since c.args.b.first c.args.hand.now.me.0 c.clear_all.new.hand.me.0 (c.requires.tells e).1 c.clear_all.ensures.stays.since) c.put_where_room.ensures.stays.since

pub put_where_room-requires-2-clause-room : goal.put_where_room-requires-2-clause-room
put_where_room-requires-2-clause-room g c =
    let n = c.args.node in
    one_room c.args.form (words_of c.clear_all.new.hand.me.0 n) (words_of c.put_where_room.new.hand.me.0 n) c.args.a.byte c.args.a.first c.args.a.last c.requires.form c.clear_all.ensures.empty c.put_where_room.ensures.put c.args.b.byte

pub returns-clause-stays : goal.returns-clause-stays
returns-clause-stays g c =
    let n = c.args.node in
    stays_trans n _ _ _ c.clear_all.ensures.stays (stays_trans n _ _ _ c.put_where_room.ensures.stays c.put_where_room-2.ensures.stays)

pub returns-clause-two : goal.returns-clause-two
returns-clause-two g c =
    let n = c.args.node in
    two_there c.args.form (words_of c.clear_all.new.hand.me.0 n) (words_of c.put_where_room.new.hand.me.0 n) c.args.a.byte c.args.a.first c.args.a.last c.requires.form c.clear_all.ensures.empty c.put_where_room.ensures.put
    (words_of c.put_where_room-2.new.hand.me.0 n) c.args.b.byte c.args.b.first c.args.b.last c.requires.apart c.put_where_room-2.ensures.put
