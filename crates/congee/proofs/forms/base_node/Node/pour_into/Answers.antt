use Rattle.std.proofs.Common.{refl, sym, ap, ◌∙◌, subst, arith}
use Rattle.congee.specs.forms.Bytes.{IsFirst}
use Rattle.congee.specs.forms.Forms.{capacity_of, children_of}
use Rattle.congee.proofs.lemmas.forms.MoveLemmas.{HavePoured, none_poured, one_poured, room_poured, all_poured, is_full_of_room}
use Rattle.congee.specs.forms.RoomLemmas.{any_node_fits}
use Rattle.congee.proofs.forms.base_node.Node.pour_into.Goals as goal

pub loop-first-init : goal.loop-first-init
loop-first-init g c = record {
  moved_form = refl;
  moved_prefix = refl;
  children = subst (λ m. HavePoured (children_of c.args.self.now) (children_of c.args.self.now) m 0) (sym c.requires.empty) (none_poured (children_of c.args.self.now));
}

pub insert-requires : goal.insert-requires
insert-requires g c =
    let first : IsFirst (children_of c.loop-first.self) c.loop-first.from c.in-Some.first c.change-child.result = record { past = c.in-Some.ensures.past; here = c.change-child.ensures.before; before = c.in-Some.ensures.before } in
    let less = room_poured c.loop-first.invariant.children first in
    (any_node_fits g.row.C g.row.P g.met.C.Small.small g.met.P.Small.small, (c.loop-first.invariant.children.moves.free c.in-Some.first c.in-Some.ensures.past, is_full_of_room c.loop-first.other (omega (arith, less, c.requires.room, ap capacity_of c.loop-first.invariant.moved_form))))

pub loop-first-preserved : goal.loop-first-preserved
loop-first-preserved g c =
    let first : IsFirst (children_of c.loop-first.self) c.loop-first.from c.in-Some.first c.change-child.result = record { past = c.in-Some.ensures.past; here = c.change-child.ensures.before; before = c.in-Some.ensures.before } in
    record {
      moved_form = c.insert.ensures.form ∙ c.loop-first.invariant.moved_form;
      moved_prefix = c.insert.ensures.prefix ∙ c.loop-first.invariant.moved_prefix;
      children = rw (c.change-child.ensures.after.children, c.insert.ensures.children) (one_poured c.loop-first.invariant.children first _);
    }

pub returns : goal.returns
returns g c = record {
  moved = record {
    form = c.loop-first.invariant.moved_form;
    prefix = c.loop-first.invariant.moved_prefix;
    children = all_poured _ _ _ c.loop-first.from c.loop-first.invariant.children c.in_default.ensures;
  };
}
