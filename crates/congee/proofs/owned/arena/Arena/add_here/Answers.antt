use Rattle.std.proofs.Common.{rules, ◌≡◌, length, get_or, refl, arith}
use Rattle.congee.proofs.lemmas.owned.Appending.{has_room, last_byte}
use Rattle.congee.proofs.lemmas.owned.Hangings.{roomy_leaf}
use Rattle.congee.proofs.lemmas.owned.FullSteps.{value_filled}
use Rattle.congee.proofs.lemmas.owned.Moves.{grown_roomy, roomy_absent, value_added}
use Rattle.congee.proofs.lemmas.owned.Wanting.{open_wants}
use Rattle.congee.proofs.owned.arena.Arena.add_here.Goals as goal

pub hang_value-requires-clause-leaf : goal.hang_value-requires-clause-leaf
hang_value-requires-clause-leaf g c = λ x e. roomy_leaf c.args.self.now.nodes c.args.self.now.nodes c.args.at (grown_roomy c.args.self.now.nodes c.args.self.now.nodes c.args.at c.requires.open.way.stands (has_room c.args.self.now.nodes c.args.at c.requires.open.room)) c.requires.open.leaf x e

pub hang_value-requires-clause-absent : goal.hang_value-requires-clause-absent
hang_value-requires-clause-absent g c = roomy_absent c.args.self.now.nodes c.args.self.now.nodes c.args.key.now c.args.at (get_or c.args.key.now 7 0) (grown_roomy c.args.self.now.nodes c.args.self.now.nodes c.args.at c.requires.open.way.stands (has_room c.args.self.now.nodes c.args.at c.requires.open.room)) c.requires.open.free (last_byte c.args.self.now.nodes c.args.key.now c.args.at c.requires.open)

pub returns : goal.returns
returns g c =
    let len : length c.args.key.now ≡ 8 = search rules in
    let old = c.args.self.now.nodes in
    let new = c.hang_value.new.self in
    let room = has_room old c.args.at c.requires.open.room in
    let absent = roomy_absent old old c.args.key.now c.args.at (get_or c.args.key.now 7 0) (grown_roomy old old c.args.at c.requires.open.way.stands room) c.requires.open.free (last_byte c.args.self.now.nodes c.args.key.now c.args.at c.requires.open) in
    let added = value_added old old new c.args.key.now c.args.at (get_or c.args.key.now 7 0) c.args.value len c.requires.tree c.requires.open.way c.requires.open.free c.requires.open.leaf room (last_byte c.args.self.now.nodes c.args.key.now c.args.at c.requires.open) c.hang_value.ensures.hangs in
    rw (open_wants old c.args.key.now c.args.at c.requires.tree c.requires.open) (record {
      edits = record {
        tree = added.0.0;
        change = added.0.1;
        balance = omega (arith, added.1);
        same_limit = refl;
      };
      fits = tt;
      bytes = omega (arith, added.1);
      filled = λ by_form. value_filled by_form old old new c.args.at (get_or c.args.key.now 7 0) c.args.value c.requires.open.way.stands room absent c.hang_value.ensures.hangs;
    })
