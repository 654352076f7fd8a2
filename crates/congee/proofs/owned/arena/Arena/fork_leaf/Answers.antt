use Rattle.std.proofs.Common.{rules, ◌≡◌, ◌≢◌, ◌<◌, length, take, get_or, refl, sym, ap, subst, ◌∙◌, arith, IsSome}
use Rattle.congee.specs.Heap.{fits}
use Rattle.congee.specs.forms.Forms.{prefix_of}
use Rattle.congee.specs.owned.Entries.{first_byte}
use Rattle.congee.proofs.lemmas.owned.Covers.{cover_at, cover_stands, cover_inner, cover_absent, cover_full, cover_room, cover_begins, cover_tree, cover_change, cover_bytes, cover_filled}
use Rattle.congee.proofs.lemmas.owned.Firsts.{first_taken}
use Rattle.congee.proofs.lemmas.owned.Moves.{node_at, one_node, prefix_at, stands_at, fresh_absent, fresh_room, fresh_made}
use Rattle.congee.proofs.lemmas.owned.Ways.{below_stands}
use Rattle.congee.proofs.lemmas.owned.Hangings.{above_inner, child_inline, made_inner, room_made, short_take}
use Rattle.congee.proofs.owned.arena.Arena.fork_leaf.Given.{Over}
use Rattle.congee.proofs.owned.arena.Arena.fork_leaf.Goals.{After-parting-place}
use Rattle.congee.proofs.owned.arena.Arena.fork_leaf.Goals as goal

pub parting-place-requires-clause-stands : goal.parting-place-requires-clause-stands
parting-place-requires-clause-stands g c = below_stands c.args.self.now.nodes c.requires.tree c.args.at c.args.below c.args.key.now c.requires.parts.way.stands c.requires.parts.hangs

pub parting-place-requires-clause-differs : goal.parting-place-requires-clause-differs
parting-place-requires-clause-differs g c = λ x e. ap (λ p. fits p c.args.key.now) (sym (prefix_at c.args.self.now.nodes c.args.below x e)) ∙ c.requires.parts.differs

-- the other byte is another one
abbrev Apart : (g : Over) → After-parting-place g → Type 0
Apart g c = get_or c.args.key.now c.parting-place.result.place 0 ≢ c.parting-place.result.other

apart : (g : Over) (c : After-parting-place g) → Apart g c
apart g c =
    let n = node_at c.args.self.now.nodes c.args.below (below_stands c.args.self.now.nodes c.requires.tree c.args.at c.args.below c.args.key.now c.requires.parts.way.stands c.requires.parts.hangs) in
    λ q. (c.parting-place.ensures.place n.0 n.1).apart (q ∙ c.parting-place.ensures.other n.0 n.1)

pub make-over-requires-clause-inner : goal.make-over-requires-clause-inner
make-over-requires-clause-inner g c = short_take c.parting-place.result.place c.args.key.now c.parting-place.ensures.within

pub make-over-requires-clause-room : goal.make-over-requires-clause-room
make-over-requires-clause-room g c = omega (arith, c.requires.room)

pub hang_leaf-requires-clause-stands : goal.hang_leaf-requires-clause-stands
hang_leaf-requires-clause-stands g c = stands_at c.make-over.new.self c.make-over.result c.make-over.ensures.made.node c.make-over.ensures.made.updates.changed

pub hang_leaf-requires-clause-inner : goal.hang_leaf-requires-clause-inner
hang_leaf-requires-clause-inner g c = made_inner c.args.self.now.nodes c.make-over.new.self c.make-over.result _ c.make-over.ensures.made
    (short_take c.parting-place.result.place c.args.key.now c.parting-place.ensures.within)

pub hang_leaf-requires-clause-absent : goal.hang_leaf-requires-clause-absent
hang_leaf-requires-clause-absent g c = λ x e. fresh_absent c.make-over.new.self c.make-over.result _ (fresh_made c.args.self.now.nodes c.make-over.new.self c.make-over.new.self c.make-over.result _ c.make-over.ensures.made refl) x e _

pub hang_leaf-requires-clause-room : goal.hang_leaf-requires-clause-room
hang_leaf-requires-clause-room g c = λ x e. fresh_room c.make-over.new.self c.make-over.result _ (fresh_made c.args.self.now.nodes c.make-over.new.self c.make-over.new.self c.make-over.result _ c.make-over.ensures.made refl) x e

pub hang_leaf-requires-clause-begins : goal.hang_leaf-requires-clause-begins
hang_leaf-requires-clause-begins g c = λ x e.
    let m = c.make-over.ensures.made in
    let len : length c.args.key.now ≡ 8 = search rules in
    let p : prefix_of x ≡ take c.parting-place.result.place c.args.key.now = ap prefix_of (one_node c.make-over.new.self c.make-over.result x m.node e m.updates.changed) ∙ m.prefixed in
    first_taken c.parting-place.result.place c.args.key.now (omega (arith, len, c.parting-place.ensures.within)) ∙ ap (λ q. first_byte q (get_or c.args.key.now c.parting-place.result.place 0)) (sym p)

pub hang_leaf-requires-clause-spare : goal.hang_leaf-requires-clause-spare
hang_leaf-requires-clause-spare g c = room_made c.args.self.now.nodes c.make-over.new.self c.make-over.result 1 _ c.make-over.ensures.made c.make-over.ensures.capacity c.requires.room

pub cover_leaf-held-requires-clause-stands : goal.cover_leaf-held-requires-clause-stands
cover_leaf-held-requires-clause-stands g c = subst IsSome (sym (cover_at c.args.self.now.nodes c.make-over.new.self c.hang_leaf.new.self c.args.key.now c.parting-place.result.place c.make-over.result c.parting-place.result.other c.args.below c.args.value c.args.at c.byte_at-up.result c.requires.tree c.requires.parts.way c.requires.parts.hangs c.byte_at-up.ensures c.parting-place.ensures.place c.parting-place.ensures.other c.make-over.ensures.made (c.hang_leaf.ensures.hangs c.make-over.ensures.made.node c.make-over.ensures.made.updates.changed))) c.requires.parts.way.stands

pub cover_leaf-held-requires-clause-inner : goal.cover_leaf-held-requires-clause-inner
cover_leaf-held-requires-clause-inner g c = λ x e. above_inner c.args.self.now.nodes c.requires.tree c.args.key.now c.args.at c.args.below c.requires.parts.way.stands c.requires.parts.hangs x (sym (cover_at c.args.self.now.nodes c.make-over.new.self c.hang_leaf.new.self c.args.key.now c.parting-place.result.place c.make-over.result c.parting-place.result.other c.args.below c.args.value c.args.at c.byte_at-up.result c.requires.tree c.requires.parts.way c.requires.parts.hangs c.byte_at-up.ensures c.parting-place.ensures.place c.parting-place.ensures.other c.make-over.ensures.made (c.hang_leaf.ensures.hangs c.make-over.ensures.made.node c.make-over.ensures.made.updates.changed)) ∙ e)

pub cover_leaf-held-requires-clause-present : goal.cover_leaf-held-requires-clause-present
cover_leaf-held-requires-clause-present g c = λ x e. child_inline c.args.self.now.nodes c.requires.tree c.args.key.now c.args.at c.args.below c.byte_at-up.result c.requires.parts.way.stands c.requires.parts.hangs c.requires.inline c.byte_at-up.ensures x (sym (cover_at c.args.self.now.nodes c.make-over.new.self c.hang_leaf.new.self c.args.key.now c.parting-place.result.place c.make-over.result c.parting-place.result.other c.args.below c.args.value c.args.at c.byte_at-up.result c.requires.tree c.requires.parts.way c.requires.parts.hangs c.byte_at-up.ensures c.parting-place.ensures.place c.parting-place.ensures.other c.make-over.ensures.made (c.hang_leaf.ensures.hangs c.make-over.ensures.made.node c.make-over.ensures.made.updates.changed)) ∙ e)

pub hang_leaf-requires-2-clause-stands : goal.hang_leaf-requires-2-clause-stands
hang_leaf-requires-2-clause-stands g c = cover_stands c.args.self.now.nodes c.make-over.new.self c.hang_leaf.new.self c.args.key.now c.parting-place.result.place c.make-over.result c.parting-place.result.other c.args.below c.args.value c.args.at c.byte_at-up.result c.requires.tree c.requires.parts.way c.requires.parts.hangs c.byte_at-up.ensures c.parting-place.ensures.place c.parting-place.ensures.other c.make-over.ensures.made (c.hang_leaf.ensures.hangs c.make-over.ensures.made.node c.make-over.ensures.made.updates.changed) c.cover_leaf-held.new.self c.cover_leaf-held.result.key c.cover_leaf-held.result.value c.cover_leaf-held.ensures.covers

pub hang_leaf-requires-2-clause-inner : goal.hang_leaf-requires-2-clause-inner
hang_leaf-requires-2-clause-inner g c = cover_inner c.args.self.now.nodes c.make-over.new.self c.hang_leaf.new.self c.args.key.now c.parting-place.result.place c.make-over.result c.parting-place.result.other c.args.below c.args.value c.args.at c.byte_at-up.result c.requires.tree c.requires.parts.way c.requires.parts.hangs c.byte_at-up.ensures c.parting-place.ensures.place c.parting-place.ensures.other c.make-over.ensures.made (c.hang_leaf.ensures.hangs c.make-over.ensures.made.node c.make-over.ensures.made.updates.changed) c.cover_leaf-held.new.self c.cover_leaf-held.result.key c.cover_leaf-held.result.value c.cover_leaf-held.ensures.covers (short_take c.parting-place.result.place c.args.key.now c.parting-place.ensures.within)

pub hang_leaf-requires-2-clause-absent : goal.hang_leaf-requires-2-clause-absent
hang_leaf-requires-2-clause-absent g c = cover_absent c.args.self.now.nodes c.make-over.new.self c.hang_leaf.new.self c.args.key.now c.parting-place.result.place c.make-over.result c.parting-place.result.other c.args.below c.args.value c.args.at c.byte_at-up.result c.requires.tree c.requires.parts.way c.requires.parts.hangs c.byte_at-up.ensures c.parting-place.ensures.place c.parting-place.ensures.other c.make-over.ensures.made (c.hang_leaf.ensures.hangs c.make-over.ensures.made.node c.make-over.ensures.made.updates.changed) c.cover_leaf-held.new.self c.cover_leaf-held.result.key c.cover_leaf-held.result.value c.cover_leaf-held.ensures.covers (apart g (goal.at.hang_leaf-requires-2-clause-absent g c).After-parting-place)

pub hang_leaf-requires-2-clause-room : goal.hang_leaf-requires-2-clause-room
hang_leaf-requires-2-clause-room g c = cover_full c.args.self.now.nodes c.make-over.new.self c.hang_leaf.new.self c.args.key.now c.parting-place.result.place c.make-over.result c.parting-place.result.other c.args.below c.args.value c.args.at c.byte_at-up.result c.requires.tree c.requires.parts.way c.requires.parts.hangs c.byte_at-up.ensures c.parting-place.ensures.place c.parting-place.ensures.other c.make-over.ensures.made (c.hang_leaf.ensures.hangs c.make-over.ensures.made.node c.make-over.ensures.made.updates.changed) c.cover_leaf-held.new.self c.cover_leaf-held.result.key c.cover_leaf-held.result.value c.cover_leaf-held.ensures.covers

pub hang_leaf-requires-2-clause-spare : goal.hang_leaf-requires-2-clause-spare
hang_leaf-requires-2-clause-spare g c =
    cover_room c.args.self.now.nodes c.make-over.new.self c.hang_leaf.new.self c.args.key.now c.parting-place.result.place c.make-over.result c.parting-place.result.other c.args.below c.args.value c.args.at c.byte_at-up.result c.requires.tree c.requires.parts.way c.requires.parts.hangs c.byte_at-up.ensures c.parting-place.ensures.place c.parting-place.ensures.other c.make-over.ensures.made (c.hang_leaf.ensures.hangs c.make-over.ensures.made.node c.make-over.ensures.made.updates.changed) c.cover_leaf-held.new.self c.cover_leaf-held.result.key c.cover_leaf-held.result.value c.cover_leaf-held.ensures.covers c.hang_leaf.ensures.capacity c.cover_leaf-held.ensures.capacity
    (room_made c.args.self.now.nodes c.make-over.new.self c.make-over.result 1 _ c.make-over.ensures.made c.make-over.ensures.capacity c.requires.room)

pub hang_leaf-requires-2-clause-begins : goal.hang_leaf-requires-2-clause-begins
hang_leaf-requires-2-clause-begins g c =
    let len : length c.args.key.now ≡ 8 = search rules in
    cover_begins c.args.self.now.nodes c.make-over.new.self c.hang_leaf.new.self c.args.key.now c.parting-place.result.place c.make-over.result c.parting-place.result.other c.args.below c.args.value c.args.at c.byte_at-up.result c.requires.tree c.requires.parts.way c.requires.parts.hangs c.byte_at-up.ensures c.parting-place.ensures.place c.parting-place.ensures.other c.make-over.ensures.made (c.hang_leaf.ensures.hangs c.make-over.ensures.made.node c.make-over.ensures.made.updates.changed) c.cover_leaf-held.new.self c.cover_leaf-held.result.key c.cover_leaf-held.result.value c.cover_leaf-held.ensures.covers len c.requires.parts.differs

pub returns : goal.returns
returns g c =
    let len : length c.args.key.now ≡ 8 = search rules in
    let low : c.byte_at-up.result < 256 = search rules in
    let low_other : c.parting-place.result.other < 256 = search rules in
    let bytes = cover_bytes c.args.self.now.nodes c.make-over.new.self c.hang_leaf.new.self c.args.key.now c.parting-place.result.place c.make-over.result c.parting-place.result.other c.args.below c.args.value c.args.at c.byte_at-up.result c.requires.tree c.requires.parts.way c.requires.parts.hangs c.byte_at-up.ensures c.parting-place.ensures.place c.parting-place.ensures.other c.make-over.ensures.made (c.hang_leaf.ensures.hangs c.make-over.ensures.made.node c.make-over.ensures.made.updates.changed) c.cover_leaf-held.new.self c.cover_leaf-held.result.key c.cover_leaf-held.result.value c.cover_leaf-held.ensures.covers len c.requires.parts.differs c.hang_leaf-2.new.self c.make-over.ensures.own low low_other c.hang_leaf-2.ensures.hangs in
    record {
      tree = cover_tree c.args.self.now.nodes c.make-over.new.self c.hang_leaf.new.self c.args.key.now c.parting-place.result.place c.make-over.result c.parting-place.result.other c.args.below c.args.value c.args.at c.byte_at-up.result c.requires.tree c.requires.parts.way c.requires.parts.hangs c.byte_at-up.ensures c.parting-place.ensures.place c.parting-place.ensures.other c.make-over.ensures.made (c.hang_leaf.ensures.hangs c.make-over.ensures.made.node c.make-over.ensures.made.updates.changed) c.cover_leaf-held.new.self c.cover_leaf-held.result.key c.cover_leaf-held.result.value c.cover_leaf-held.ensures.covers len c.requires.parts.differs c.hang_leaf-2.new.self c.make-over.ensures.own low low_other c.hang_leaf-2.ensures.hangs;
      change = cover_change c.args.self.now.nodes c.make-over.new.self c.hang_leaf.new.self c.args.key.now c.parting-place.result.place c.make-over.result c.parting-place.result.other c.args.below c.args.value c.args.at c.byte_at-up.result c.requires.tree c.requires.parts.way c.requires.parts.hangs c.byte_at-up.ensures c.parting-place.ensures.place c.parting-place.ensures.other c.make-over.ensures.made (c.hang_leaf.ensures.hangs c.make-over.ensures.made.node c.make-over.ensures.made.updates.changed) c.cover_leaf-held.new.self c.cover_leaf-held.result.key c.cover_leaf-held.result.value c.cover_leaf-held.ensures.covers len c.requires.parts.differs c.hang_leaf-2.new.self c.make-over.ensures.own low low_other c.hang_leaf-2.ensures.hangs;
      bytes = omega (arith, bytes);
      filled = cover_filled c.args.self.now.nodes c.make-over.new.self c.hang_leaf.new.self c.args.key.now c.parting-place.result.place c.make-over.result c.parting-place.result.other c.args.below c.args.value c.args.at c.byte_at-up.result c.requires.tree c.requires.parts.way c.requires.parts.hangs c.byte_at-up.ensures c.parting-place.ensures.place c.parting-place.ensures.other c.make-over.ensures.made (c.hang_leaf.ensures.hangs c.make-over.ensures.made.node c.make-over.ensures.made.updates.changed) c.cover_leaf-held.new.self c.cover_leaf-held.result.key c.cover_leaf-held.result.value c.cover_leaf-held.ensures.covers len c.requires.parts.differs c.hang_leaf-2.new.self c.make-over.ensures.own low low_other c.hang_leaf-2.ensures.hangs;
      allocator = refl;
    }
