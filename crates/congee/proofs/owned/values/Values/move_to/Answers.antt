use Rattle.std.proofs.Common.{refl, sym, ap, ◌∙◌, subst, arith}
use Rattle.congee.specs.forms.Bytes.{IsFirst}
use Rattle.congee.specs.forms.Forms.{capacity_of}
use Rattle.congee.specs.owned.Values.{kept_in}
use Rattle.congee.proofs.lemmas.forms.MoveLemmas.{HavePoured, none_poured, one_poured, room_poured, all_poured}
use Rattle.congee.proofs.lemmas.owned.Keeping.{has_room}
use Rattle.congee.specs.owned.ValueRoom.{values_fits}
use Rattle.congee.proofs.owned.values.Values.move_to.Goals as goal

pub loop-byte-init : goal.loop-byte-init
loop-byte-init g c = record {
  moved_form = refl;
  moves = subst (λ m. HavePoured (kept_in c.args.self.now) (kept_in c.args.self.now) m 0) (sym c.requires.empty) (none_poured (kept_in c.args.self.now));
}

pub insert-requires : goal.insert-requires
insert-requires g c =
    let first : IsFirst (kept_in c.loop-byte.self) c.loop-byte.from c.in-Some.byte c.change-value.result = record { past = c.in-Some.ensures.past; here = c.change-value.ensures.before; before = c.in-Some.ensures.before } in
    let less = room_poured c.loop-byte.invariant.moves first in
    (values_fits g.row.X g.met.X.Small.small, (c.loop-byte.invariant.moves.moves.free c.in-Some.byte c.in-Some.ensures.past, has_room c.loop-byte.other (omega (arith, less, c.requires.room, ap capacity_of c.loop-byte.invariant.moved_form))))

pub loop-byte-preserved : goal.loop-byte-preserved
loop-byte-preserved g c =
    let first : IsFirst (kept_in c.loop-byte.self) c.loop-byte.from c.in-Some.byte c.change-value.result = record { past = c.in-Some.ensures.past; here = c.change-value.ensures.before; before = c.in-Some.ensures.before } in
    record {
      moved_form = c.insert.ensures.form ∙ c.loop-byte.invariant.moved_form;
      moves = rw (c.change-value.ensures.after.kept, c.insert.ensures.kept) (one_poured c.loop-byte.invariant.moves first _);
    }

pub returns : goal.returns
returns g c = record {
  moved = record {
    form = c.loop-byte.invariant.moved_form;
    kept = all_poured _ _ _ c.loop-byte.from c.loop-byte.invariant.moves c.in_default.ensures;
  };
}
