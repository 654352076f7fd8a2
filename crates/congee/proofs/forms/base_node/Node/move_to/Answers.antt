use Rattle.std.proofs.Common.{refl, sym, ap, ◌∙◌, subst, arith}
use Rattle.congee.specs.forms.Bytes.{IsFirst}
use Rattle.congee.specs.forms.Forms.{capacity_of, children_of}
use Rattle.congee.proofs.lemmas.forms.MoveLemmas.{HaveMoved, none_moved, one_moved, room_left, all_moved, is_full_of_room}
use Rattle.congee.specs.forms.RoomLemmas.{any_node_fits}
use Rattle.congee.proofs.forms.base_node.Node.move_to.Goals as goal

pub loop-byte-init : goal.loop-byte-init
loop-byte-init g c = record {
  kept_form = refl;
  kept_prefix = refl;
  moved_form = refl;
  moved_prefix = refl;
  children = subst (λ m. HaveMoved (children_of c.args.self.now) (children_of c.args.self.now) m 0) (sym c.requires.empty) (none_moved (children_of c.args.self.now));
}

pub insert-requires : goal.insert-requires
insert-requires g c =
    let first : IsFirst (children_of c.loop-byte.self) c.loop-byte.from c.in-Some.byte c.remove-child.result = record { past = c.in-Some.ensures.past; here = c.remove-child.ensures.before; before = c.in-Some.ensures.before } in
    let left = room_left c.loop-byte.invariant.children first in
    (any_node_fits g.row.C g.row.P g.met.C.Small.small g.met.P.Small.small, (c.loop-byte.invariant.children.free c.in-Some.byte c.in-Some.ensures.past, is_full_of_room c.loop-byte.greater (omega (arith, left, c.requires.room, ap capacity_of c.loop-byte.invariant.moved_form))))

pub loop-byte-preserved : goal.loop-byte-preserved
loop-byte-preserved g c =
    let first : IsFirst (children_of c.loop-byte.self) c.loop-byte.from c.in-Some.byte c.remove-child.result = record { past = c.in-Some.ensures.past; here = c.remove-child.ensures.before; before = c.in-Some.ensures.before } in
    record {
      kept_form = c.remove-child.ensures.after.form ∙ c.loop-byte.invariant.kept_form;
      kept_prefix = c.remove-child.ensures.after.prefix ∙ c.loop-byte.invariant.kept_prefix;
      moved_form = c.insert.ensures.form ∙ c.loop-byte.invariant.moved_form;
      moved_prefix = c.insert.ensures.prefix ∙ c.loop-byte.invariant.moved_prefix;
      children = rw (c.remove-child.ensures.after.children, c.insert.ensures.children) (one_moved c.loop-byte.invariant.children first);
    }

pub returns-clause-left : goal.returns-clause-left
returns-clause-left g c = record {
  form = c.loop-byte.invariant.kept_form;
  prefix = c.loop-byte.invariant.kept_prefix;
  children = (all_moved _ _ _ c.loop-byte.from c.loop-byte.invariant.children c.in_default.ensures).0;
}

pub returns-clause-moved : goal.returns-clause-moved
returns-clause-moved g c = record {
  form = c.loop-byte.invariant.moved_form;
  prefix = c.loop-byte.invariant.moved_prefix;
  children = (all_moved _ _ _ c.loop-byte.from c.loop-byte.invariant.children c.in_default.ensures).1;
}
