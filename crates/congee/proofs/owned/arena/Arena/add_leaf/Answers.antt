use Rattle.std.proofs.Common.{rules, ◌≡◌, length, get_or, arith, refl, sym, ap, ◌∙◌, inl}
use Rattle.congee.proofs.lemmas.owned.Answered.{at_free}
use Rattle.congee.proofs.lemmas.owned.FullSteps.{leaf_filled}
use Rattle.congee.proofs.lemmas.owned.Sizes.{bytes_same}
use Rattle.congee.proofs.lemmas.owned.Moves.{prefix_at, roomy_stands, roomy_absent, roomy_room}
use Rattle.congee.proofs.lemmas.owned.Hangings.{hung_roomy, roomy_inner, roomy_prefix, leaf_hung, same_stands, same_heap}
use Rattle.congee.specs.Heap.{fits}
use Rattle.congee.specs.forms.Forms.{prefix_of}
use Rattle.congee.specs.owned.Arena.{heap_of}
use Rattle.congee.specs.owned.Entries.{first_byte}
use Rattle.congee.proofs.lemmas.owned.Firsts.{first_of_key}
use Rattle.congee.specs.owned.Wanted.{gain, room_for}
use Rattle.congee.proofs.lemmas.owned.Wanting.{fit_after, refused_after}
use Rattle.congee.proofs.owned.arena.Arena.add_leaf.Goals as goal

pub make_room-requires-clause-stands : goal.make_room-requires-clause-stands
make_room-requires-clause-stands g c = same_stands c.args.self.now.nodes c.ready.new.self.nodes c.args.at c.ready.ensures.same c.requires.way.stands

pub make_room-requires-clause-covered : goal.make_room-requires-clause-covered
make_room-requires-clause-covered g c = omega (arith, bytes_same c.args.self.now.nodes c.ready.new.self.nodes c.ready.ensures.same, c.in_default.ensures.charge, c.requires.covered)

pub deallocate-requires : goal.deallocate-requires
deallocate-requires g c = omega (arith, bytes_same c.ready.new.self.nodes c.make_room.new.self.nodes c.in-Err-make_room.ensures.same, c.make_room.ensures.balance, c.in_default.ensures.charge)

pub byte_at-byte-requires : goal.byte_at-byte-requires
byte_at-byte-requires g c =
    let r = hung_roomy c.args.self.now.nodes c.ready.new.self.nodes c.make_room.new.self.nodes c.args.at c.requires.way.stands c.ready.ensures.same c.in_default-make_room.ensures.grows in
    roomy_stands c.args.self.now.nodes c.make_room.new.self.nodes c.args.at r

pub hang_leaf-requires-clause-stands : goal.hang_leaf-requires-clause-stands
hang_leaf-requires-clause-stands g c =
    let r = hung_roomy c.args.self.now.nodes c.ready.new.self.nodes c.make_room.new.self.nodes c.args.at c.requires.way.stands c.ready.ensures.same c.in_default-make_room.ensures.grows in
    roomy_stands c.args.self.now.nodes c.make_room.new.self.nodes c.args.at r

pub hang_leaf-requires-clause-inner : goal.hang_leaf-requires-clause-inner
hang_leaf-requires-clause-inner g c =
    let r = hung_roomy c.args.self.now.nodes c.ready.new.self.nodes c.make_room.new.self.nodes c.args.at c.requires.way.stands c.ready.ensures.same c.in_default-make_room.ensures.grows in
    roomy_inner c.args.self.now.nodes c.make_room.new.self.nodes c.args.at r c.requires.inner

pub hang_leaf-requires-clause-absent : goal.hang_leaf-requires-clause-absent
hang_leaf-requires-clause-absent g c =
    let r = hung_roomy c.args.self.now.nodes c.ready.new.self.nodes c.make_room.new.self.nodes c.args.at c.requires.way.stands c.ready.ensures.same c.in_default-make_room.ensures.grows in
    roomy_absent c.args.self.now.nodes c.make_room.new.self.nodes c.args.key.now c.args.at c.byte_at-byte.result r c.requires.free c.byte_at-byte.ensures

pub hang_leaf-requires-clause-room : goal.hang_leaf-requires-clause-room
hang_leaf-requires-clause-room g c =
    let r = hung_roomy c.args.self.now.nodes c.ready.new.self.nodes c.make_room.new.self.nodes c.args.at c.requires.way.stands c.ready.ensures.same c.in_default-make_room.ensures.grows in
    roomy_room c.args.self.now.nodes c.make_room.new.self.nodes c.args.at r

pub hang_leaf-requires-clause-spare : goal.hang_leaf-requires-clause-spare
hang_leaf-requires-clause-spare g c = c.make_room.ensures.keeps 1 c.in_default.ensures.room

pub hang_leaf-requires-clause-begins : goal.hang_leaf-requires-clause-begins
hang_leaf-requires-clause-begins g c = λ x e.
    let s = c.args.self.now.nodes in
    let s2 = c.make_room.new.self.nodes in
    let r = hung_roomy s c.ready.new.self.nodes s2 c.args.at c.requires.way.stands c.ready.ensures.same c.in_default-make_room.ensures.grows in
    let p : prefix_of x ≡ (heap_of s c.args.at).prefix = roomy_prefix s s2 c.args.at r x e in
    first_of_key (prefix_of x) c.args.key.now (ap (λ q. fits q c.args.key.now) p ∙ c.requires.way.fitted)
    ∙ ap (first_byte (prefix_of x)) (ap (λ q. get_or c.args.key.now (length q) 0) (sym (prefix_at s2 c.args.at x e)) ∙ sym c.byte_at-byte.ensures)

pub returns-in-Err-clause-refused : goal.returns-in-Err-clause-refused
returns-in-Err-clause-refused g c = record {
  absent = at_free c.args.self.now.nodes c.args.key.now c.args.at c.requires.tree c.requires.way c.requires.free;
  cause = inl c.in-Err.ensures.refused;
  back = refl;
  same = c.ready.ensures.same;
  balance = omega (arith, bytes_same c.args.self.now.nodes c.ready.new.self.nodes c.ready.ensures.same, c.in-Err.ensures.unchanged);
  same_limit = c.ready.ensures.limit;
}

pub returns-in-Err-make_room-clause-refused : goal.returns-in-Err-make_room-clause-refused
returns-in-Err-make_room-clause-refused g c =
    let first = bytes_same c.args.self.now.nodes c.ready.new.self.nodes c.ready.ensures.same in
    let second = bytes_same c.ready.new.self.nodes c.make_room.new.self.nodes c.in-Err-make_room.ensures.same in
    record {
      absent = at_free c.args.self.now.nodes c.args.key.now c.args.at c.requires.tree c.requires.way c.requires.free;
      cause = refused_after (heap_of c.args.self.now.nodes c.args.at) (heap_of c.ready.new.self.nodes c.args.at) _ _ _ _ c.in-Err-make_room.e
          (same_heap c.args.self.now.nodes c.ready.new.self.nodes c.args.at c.ready.ensures.same)
          c.in_default.ensures.charge c.ready.ensures.limit c.in_default.ensures.fits c.in-Err-make_room.ensures.refused;
      back = refl;
      same = λ n. c.in-Err-make_room.ensures.same n ∙ c.ready.ensures.same n;
      balance = omega (arith, first, second, c.make_room.ensures.balance, c.in_default.ensures.charge, c.deallocate.ensures.charged);
      same_limit = c.deallocate.ensures.limit ∙ (c.make_room.ensures.limit ∙ c.ready.ensures.limit);
    }

pub returns-clause-adds : goal.returns-clause-adds
returns-clause-adds g c =
    let len : length c.args.key.now ≡ 8 = search rules in
    let added = leaf_hung c.args.self.now.nodes c.ready.new.self.nodes c.make_room.new.self.nodes c.hang_leaf.new.self c.args.key.now c.args.at c.byte_at-byte.result c.args.value len c.requires.tree c.requires.way c.requires.free c.requires.inner c.ready.ensures.same c.in_default-make_room.ensures.grows c.byte_at-byte.ensures c.hang_leaf.ensures.hangs in
    let same = bytes_same c.args.self.now.nodes c.ready.new.self.nodes c.ready.ensures.same in
    let room : gain (room_for (heap_of c.ready.new.self.nodes c.args.at)) ≡ gain (room_for (heap_of c.args.self.now.nodes c.args.at)) =
    ap (λ n. gain (room_for n)) (same_heap c.args.self.now.nodes c.ready.new.self.nodes c.args.at c.ready.ensures.same) in
    record {
      edits = record {
        tree = added.0.0;
        change = added.0.1;
        balance = omega (arith, added.1, same, c.in_default.ensures.charge, c.make_room.ensures.balance);
        same_limit = c.make_room.ensures.limit ∙ c.ready.ensures.limit;
      };
      fits = fit_after (heap_of c.args.self.now.nodes c.args.at) (heap_of c.ready.new.self.nodes c.args.at) _ _ _ _
          (same_heap c.args.self.now.nodes c.ready.new.self.nodes c.args.at c.ready.ensures.same)
          c.in_default.ensures.charge c.ready.ensures.limit c.in_default.ensures.fits c.in_default-make_room.ensures.fits;
      bytes = omega (arith, added.1, same, room, c.in_default-make_room.ensures.grown);
      filled = λ by_form. leaf_filled by_form c.args.self.now.nodes c.ready.new.self.nodes c.make_room.new.self.nodes c.hang_leaf.new.self c.args.key.now c.args.at c.byte_at-byte.result c.args.value len c.requires.way.stands c.ready.ensures.same c.in_default-make_room.ensures.grows
          (roomy_absent c.args.self.now.nodes c.make_room.new.self.nodes c.args.key.now c.args.at c.byte_at-byte.result
          (hung_roomy c.args.self.now.nodes c.ready.new.self.nodes c.make_room.new.self.nodes c.args.at c.requires.way.stands c.ready.ensures.same c.in_default-make_room.ensures.grows) c.requires.free c.byte_at-byte.ensures)
          c.hang_leaf.ensures.hangs;
    }
