use Rattle.std.proofs.Common.{rules, ◌≡◌, length, arith, refl, ◌∙◌}
use Rattle.congee.proofs.lemmas.owned.Answered.{at_free}
use Rattle.congee.proofs.lemmas.owned.FullSteps.{value_filled}
use Rattle.congee.proofs.lemmas.owned.Moves.{grown_roomy, roomy_stands, roomy_absent, roomy_room, value_added}
use Rattle.congee.proofs.lemmas.owned.Hangings.{roomy_leaf}
use Rattle.congee.proofs.owned.arena.Arena.add_beside.Goals as goal

pub byte_at-byte-requires : goal.byte_at-byte-requires
byte_at-byte-requires g c = roomy_stands c.args.self.now.nodes c.make_room.new.self.nodes c.args.at (grown_roomy c.args.self.now.nodes c.make_room.new.self.nodes c.args.at c.requires.way.stands c.in_default.ensures.grows)

pub hang_value-requires-clause-stands : goal.hang_value-requires-clause-stands
hang_value-requires-clause-stands g c = roomy_stands c.args.self.now.nodes c.make_room.new.self.nodes c.args.at (grown_roomy c.args.self.now.nodes c.make_room.new.self.nodes c.args.at c.requires.way.stands c.in_default.ensures.grows)

pub hang_value-requires-clause-leaf : goal.hang_value-requires-clause-leaf
hang_value-requires-clause-leaf g c = roomy_leaf c.args.self.now.nodes c.make_room.new.self.nodes c.args.at (grown_roomy c.args.self.now.nodes c.make_room.new.self.nodes c.args.at c.requires.way.stands c.in_default.ensures.grows) c.requires.leaf

pub hang_value-requires-clause-absent : goal.hang_value-requires-clause-absent
hang_value-requires-clause-absent g c = roomy_absent c.args.self.now.nodes c.make_room.new.self.nodes c.args.key.now c.args.at c.byte_at-byte.result (grown_roomy c.args.self.now.nodes c.make_room.new.self.nodes c.args.at c.requires.way.stands c.in_default.ensures.grows) c.requires.free c.byte_at-byte.ensures

pub hang_value-requires-clause-room : goal.hang_value-requires-clause-room
hang_value-requires-clause-room g c = roomy_room c.args.self.now.nodes c.make_room.new.self.nodes c.args.at (grown_roomy c.args.self.now.nodes c.make_room.new.self.nodes c.args.at c.requires.way.stands c.in_default.ensures.grows)

pub returns-in-Err-clause-refused : goal.returns-in-Err-clause-refused
returns-in-Err-clause-refused g c = record {
  absent = at_free c.args.self.now.nodes c.args.key.now c.args.at c.requires.tree c.requires.way c.requires.free;
  cause = c.in-Err.ensures.refused;
  back = refl;
  same = c.in-Err.ensures.same;
  balance = c.make_room.ensures.balance;
  same_limit = c.make_room.ensures.limit;
}

pub returns-clause-adds : goal.returns-clause-adds
returns-clause-adds g c =
    let len : length c.args.key.now ≡ 8 = search rules in
    let added = value_added c.args.self.now.nodes c.make_room.new.self.nodes c.hang_value.new.self c.args.key.now c.args.at c.byte_at-byte.result c.args.value len c.requires.tree c.requires.way c.requires.free c.requires.leaf c.in_default.ensures.grows c.byte_at-byte.ensures c.hang_value.ensures.hangs in
    record {
      edits = record {
        tree = added.0.0;
        change = added.0.1;
        balance = omega (arith, added.1, c.make_room.ensures.balance);
        same_limit = c.make_room.ensures.limit;
      };
      fits = c.in_default.ensures.fits;
      bytes = added.1 ∙ c.in_default.ensures.grown;
      filled = λ by_form. value_filled by_form c.args.self.now.nodes c.make_room.new.self.nodes c.hang_value.new.self c.args.at c.byte_at-byte.result c.args.value c.requires.way.stands c.in_default.ensures.grows
          (roomy_absent c.args.self.now.nodes c.make_room.new.self.nodes c.args.key.now c.args.at c.byte_at-byte.result (grown_roomy c.args.self.now.nodes c.make_room.new.self.nodes c.args.at c.requires.way.stands c.in_default.ensures.grows) c.requires.free c.byte_at-byte.ensures)
          c.hang_value.ensures.hangs;
    }
