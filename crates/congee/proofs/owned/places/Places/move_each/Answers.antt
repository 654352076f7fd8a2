use Rattle.std.proofs.Common.{refl, sym, ap, ◌∙◌, subst, arith}
use Rattle.congee.specs.forms.Bytes.{IsFirst}
use Rattle.congee.specs.forms.Forms.{capacity_of}
use Rattle.congee.specs.owned.Entries.{entries_in}
use Rattle.congee.proofs.lemmas.forms.MoveLemmas.{HavePoured, none_poured, one_poured, room_poured, all_poured}
use Rattle.congee.proofs.lemmas.owned.Refilling.{full_in_room}
use Rattle.congee.specs.owned.EntryRoom.{places_fits}
use Rattle.congee.proofs.owned.places.Places.move_each.Goals as goal

pub loop-byte-init : goal.loop-byte-init
loop-byte-init g c = record {
  moved_form = refl;
  entries = subst (λ m. HavePoured (entries_in c.args.self.now) (entries_in c.args.self.now) m 0) (sym c.requires.empty) (none_poured (entries_in c.args.self.now));
}

pub insert-requires : goal.insert-requires
insert-requires g c =
    let first : IsFirst (entries_in c.loop-byte.self) c.loop-byte.from c.in-Some.byte c.change-entry.result = record { past = c.in-Some.ensures.past; here = c.change-entry.ensures.before; before = c.in-Some.ensures.before } in
    let less = room_poured c.loop-byte.invariant.entries first in
    (places_fits g.row.P g.met.P.Small.small, (c.loop-byte.invariant.entries.moves.free c.in-Some.byte c.in-Some.ensures.past, full_in_room c.loop-byte.other (omega (arith, less, c.requires.room, ap capacity_of c.loop-byte.invariant.moved_form))))

pub loop-byte-preserved : goal.loop-byte-preserved
loop-byte-preserved g c =
    let first : IsFirst (entries_in c.loop-byte.self) c.loop-byte.from c.in-Some.byte c.change-entry.result = record { past = c.in-Some.ensures.past; here = c.change-entry.ensures.before; before = c.in-Some.ensures.before } in
    record {
      moved_form = c.insert.ensures.form ∙ c.loop-byte.invariant.moved_form;
      entries = rw (c.change-entry.ensures.after.entries, c.insert.ensures.entries) (one_poured c.loop-byte.invariant.entries first _);
    }

pub returns : goal.returns
returns g c = record {
  moved = record {
    form = c.loop-byte.invariant.moved_form;
    entries = all_poured _ _ _ c.loop-byte.from c.loop-byte.invariant.entries c.in_default.ensures;
  };
}
