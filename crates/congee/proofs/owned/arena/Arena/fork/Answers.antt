use Rattle.std.proofs.Common.{rules, ◌≡◌, ◌≢◌, length, take, get_or, refl, sym, ap, subst, ◌∙◌, arith, IsSome}
use Rattle.slab.specs.Slab.{get}
use Rattle.congee.specs.Heap.{fits}
use Rattle.congee.specs.forms.Forms.{prefix_of}
use Rattle.congee.specs.owned.Arena.{node_of}
use Rattle.congee.specs.owned.Entries.{first_byte}
use Rattle.congee.proofs.lemmas.owned.Firsts.{first_taken}
use Rattle.congee.proofs.lemmas.owned.FullSteps.{fork_filled}
use Rattle.congee.proofs.lemmas.owned.Moves.{node_at, one_node, prefix_at, stands_at, fresh_absent, fresh_room, fresh_made}
use Rattle.congee.proofs.lemmas.owned.Ways.{below_stands}
use Rattle.congee.proofs.lemmas.owned.Hangings.{child_there, Forked, forked_at, fork_hung, fork_hangs, made_inner, hung_inner, hung_absent, hung_room, room_made, up_inner, up_node, short_take}
use Rattle.congee.proofs.owned.arena.Arena.fork.Given.{Over}
use Rattle.congee.proofs.owned.arena.Arena.fork.Goals.{After-parting-place, After-hang_node}
use Rattle.congee.proofs.owned.arena.Arena.fork.Goals as goal

pub parting-place-requires-clause-stands : goal.parting-place-requires-clause-stands
parting-place-requires-clause-stands g c = below_stands c.args.self.now.nodes c.requires.tree c.args.at c.args.below c.args.key.now c.requires.parts.way.stands c.requires.parts.hangs

pub parting-place-requires-clause-differs : goal.parting-place-requires-clause-differs
parting-place-requires-clause-differs g c = λ x e. ap (λ p. fits p c.args.key.now) (sym (prefix_at c.args.self.now.nodes c.args.below x e)) ∙ c.requires.parts.differs

-- the other byte is another one
abbrev Apart : (g : Over) → After-parting-place g → Type 0
Apart g c = get_or c.args.key.now c.parting-place.result.place 0 ≢ c.parting-place.result.other

apart : (g : Over) (c : After-parting-place g) → Apart g c
apart g c =
    let n = node_at c.args.self.now.nodes c.args.below (below_stands c.args.self.now.nodes c.requires.tree c.args.at c.args.below c.args.key.now c.requires.parts.way.stands c.requires.parts.hangs) in
    λ q. (c.parting-place.ensures.place n.0 n.1).apart (q ∙ c.parting-place.ensures.other n.0 n.1)

pub make-over-requires-clause-inner : goal.make-over-requires-clause-inner
make-over-requires-clause-inner g c = short_take c.parting-place.result.place c.args.key.now c.parting-place.ensures.within

pub make-over-requires-clause-room : goal.make-over-requires-clause-room
make-over-requires-clause-room g c = omega (arith, c.requires.room)

pub hang_leaf-requires-clause-stands : goal.hang_leaf-requires-clause-stands
hang_leaf-requires-clause-stands g c = stands_at c.make-over.new.self c.make-over.result c.make-over.ensures.made.node c.make-over.ensures.made.updates.changed

pub hang_leaf-requires-clause-inner : goal.hang_leaf-requires-clause-inner
hang_leaf-requires-clause-inner g c = made_inner c.args.self.now.nodes c.make-over.new.self c.make-over.result _ c.make-over.ensures.made
    (short_take c.parting-place.result.place c.args.key.now c.parting-place.ensures.within)

pub hang_leaf-requires-clause-absent : goal.hang_leaf-requires-clause-absent
hang_leaf-requires-clause-absent g c = λ x e. fresh_absent c.make-over.new.self c.make-over.result _ (fresh_made c.args.self.now.nodes c.make-over.new.self c.make-over.new.self c.make-over.result _ c.make-over.ensures.made refl) x e _

pub hang_leaf-requires-clause-room : goal.hang_leaf-requires-clause-room
hang_leaf-requires-clause-room g c = λ x e. fresh_room c.make-over.new.self c.make-over.result _ (fresh_made c.args.self.now.nodes c.make-over.new.self c.make-over.new.self c.make-over.result _ c.make-over.ensures.made refl) x e

pub hang_leaf-requires-clause-begins : goal.hang_leaf-requires-clause-begins
hang_leaf-requires-clause-begins g c = λ x e.
    let m = c.make-over.ensures.made in
    let len : length c.args.key.now ≡ 8 = search rules in
    let p : prefix_of x ≡ take c.parting-place.result.place c.args.key.now = ap prefix_of (one_node c.make-over.new.self c.make-over.result x m.node e m.updates.changed) ∙ m.prefixed in
    first_taken c.parting-place.result.place c.args.key.now (omega (arith, len, c.parting-place.ensures.within)) ∙ ap (λ q. first_byte q (get_or c.args.key.now c.parting-place.result.place 0)) (sym p)

pub hang_leaf-requires-clause-spare : goal.hang_leaf-requires-clause-spare
hang_leaf-requires-clause-spare g c = room_made c.args.self.now.nodes c.make-over.new.self c.make-over.result 1 _ c.make-over.ensures.made c.make-over.ensures.capacity c.requires.room

pub hang_node-requires-clause-stands : goal.hang_node-requires-clause-stands
hang_node-requires-clause-stands g c =
    let m = c.make-over.ensures.made in
    let h = c.hang_leaf.ensures.hangs m.node m.updates.changed in
    stands_at c.hang_leaf.new.self c.make-over.result h.node h.now

pub hang_node-requires-clause-inner : goal.hang_node-requires-clause-inner
hang_node-requires-clause-inner g c =
    let m = c.make-over.ensures.made in
    hung_inner c.args.self.now.nodes c.make-over.new.self c.hang_leaf.new.self c.make-over.result _ _ _ c.args.value m (c.hang_leaf.ensures.hangs m.node m.updates.changed)
    (short_take c.parting-place.result.place c.args.key.now c.parting-place.ensures.within)

pub hang_node-requires-clause-absent : goal.hang_node-requires-clause-absent
hang_node-requires-clause-absent g c =
    let m = c.make-over.ensures.made in
    hung_absent c.args.self.now.nodes c.make-over.new.self c.hang_leaf.new.self c.make-over.result _ _ _ c.args.value m (c.hang_leaf.ensures.hangs m.node m.updates.changed) _ (apart g (goal.at.hang_node-requires-clause-absent g c).After-parting-place)

pub hang_node-requires-clause-room : goal.hang_node-requires-clause-room
hang_node-requires-clause-room g c =
    let m = c.make-over.ensures.made in
    hung_room c.args.self.now.nodes c.make-over.new.self c.hang_leaf.new.self c.make-over.result _ _ _ c.args.value m (c.hang_leaf.ensures.hangs m.node m.updates.changed)

-- the node over the other one, as it was made and filled
abbrev IsForked : (g : Over) → After-hang_node g → Type 0
IsForked g c = Forked c.args.self.now.nodes c.make-over.new.self c.hang_leaf.new.self c.hang_node.new.self c.args.key.now c.parting-place.result.place c.make-over.result c.parting-place.result.other c.args.below c.args.value

forked : (g : Over) (c : After-hang_node g) → IsForked g c
forked g c =
    let n = node_at c.args.self.now.nodes c.args.below (below_stands c.args.self.now.nodes c.requires.tree c.args.at c.args.below c.args.key.now c.requires.parts.way.stands c.requires.parts.hangs) in
    let m = c.make-over.ensures.made in
    let h = c.hang_leaf.ensures.hangs m.node m.updates.changed in
    record {
      lower = n.0;
      stands = n.1;
      parts = c.parting-place.ensures.place n.0 n.1;
      other_is = c.parting-place.ensures.other n.0 n.1;
      made = m;
      hangs = h;
      forks = c.hang_node.ensures.hangs h.node h.now;
    }

-- the node at hand is as it was
abbrev IsThere : (g : Over) → After-hang_node g → Type 0
IsThere g c = get c.hang_node.new.self c.args.at ≡ get c.args.self.now.nodes c.args.at

there : (g : Over) (c : After-hang_node g) → IsThere g c
there g c = forked_at c.args.self.now.nodes c.make-over.new.self c.hang_leaf.new.self c.hang_node.new.self c.args.key.now c.parting-place.result.place c.make-over.result _ c.args.below c.args.value (forked g c) c.args.at c.requires.parts.way.stands

pub byte_at-up-requires : goal.byte_at-up-requires
byte_at-up-requires g c = subst IsSome (sym (there g c)) c.requires.parts.way.stands

pub swap_node-requires-clause-stands : goal.swap_node-requires-clause-stands
swap_node-requires-clause-stands g c = subst IsSome (sym (there g (goal.at.swap_node-requires-clause-stands g c).After-hang_node)) c.requires.parts.way.stands

pub swap_node-requires-clause-inner : goal.swap_node-requires-clause-inner
swap_node-requires-clause-inner g c =
    up_inner c.args.self.now.nodes c.hang_node.new.self c.requires.tree c.args.key.now c.args.at c.args.below (there g (goal.at.swap_node-requires-clause-inner g c).After-hang_node)
    (fork_hangs c.args.self.now.nodes c.args.key.now c.args.at c.args.below c.requires.parts.way c.requires.parts.hangs)

pub swap_node-requires-clause-present : goal.swap_node-requires-clause-present
swap_node-requires-clause-present g c =
    up_node c.args.self.now.nodes c.hang_node.new.self c.requires.tree c.args.key.now c.args.at c.args.below (there g (goal.at.swap_node-requires-clause-present g c).After-hang_node)
    (fork_hangs c.args.self.now.nodes c.args.key.now c.args.at c.args.below c.requires.parts.way c.requires.parts.hangs) c.byte_at-up.result c.requires.own c.byte_at-up.ensures

pub returns : goal.returns
returns g c =
    let len : length c.args.key.now ≡ 8 = search rules in
    let f = forked g (goal.at.returns g c).After-hang_node in
    let same = there g (goal.at.returns g c).After-hang_node in
    let r = fork_hung c.args.self.now.nodes c.make-over.new.self c.hang_leaf.new.self c.hang_node.new.self c.args.key.now c.parting-place.result.place c.make-over.result _ c.args.below c.args.value f
    c.swap_node.new.self c.args.at c.byte_at-up.result len c.requires.tree c.requires.parts.way c.requires.parts.hangs c.requires.parts.differs c.byte_at-up.ensures c.swap_node.ensures.swaps in
    record {
      tree = r.0.0;
      change = r.0.1;
      bytes = omega (arith, r.1);
      filled = λ by_form. fork_filled by_form c.args.self.now.nodes c.make-over.new.self c.hang_leaf.new.self c.hang_node.new.self c.swap_node.new.self c.args.key.now c.parting-place.result.place c.make-over.result _ c.args.below c.args.at c.byte_at-up.result c.args.value f len c.requires.parts.way.stands
          (λ x e. child_there c.args.self.now.nodes c.requires.tree c.args.key.now c.args.at c.args.below c.requires.parts.way.stands c.requires.parts.hangs x (sym same ∙ e) c.byte_at-up.result
          (c.byte_at-up.ensures ∙ ap (λ o. get_or c.args.key.now (length (node_of o).prefix) 0) same))
          c.swap_node.ensures.swaps;
      allocator = refl;
    }
