use Rattle.std.proofs.Common.{arith, ap, sym, subst, ◌∙◌}
use Rattle.crossbeam_epoch.specs.face.Tokens.{IsOf}
use Rattle.crossbeam_epoch.proofs.lemmas.face.Guards.{looked_with, read_under}
use Rattle.crossbeam_epoch.proofs.face.handle.LocalHandle.heed.Goals as goal

pub heed-requires : goal.heed-requires
heed-requires g c = record {
  of = (c.self.invariant.0, subst (λ x. IsOf x.pins.words.shared.table_id c.args.note.token) (c.requires ∙ sym (ap (λ h. h.collector.now) c.self.view_is)) c.args.note.of);
  note = c.args.note.is;
}

pub invariant_of-self : goal.invariant_of-self
invariant_of-self g c = let i = c.self.invariant in (c.heed.ensures.of, i.1, looked_with c.self.inside.guards _ _ _ _ _ _ _ _ i.2 c.heed.ensures.view)

pub returns-clause-saw : goal.returns-clause-saw
returns-clause-saw g c out =
    let t = read_under c.self.inside.guards _ _ _ _ _ _ _ _ _ c.self.invariant.2 c.heed.ensures.read (ap (λ h. h.guards) c.self.view_is) (ap (λ h. h.epoch) c.self.view_is) out in
    let low = t.0 in
    let high = t.1 in
    let seen = ap (λ v. v.seen) c.heed.ensures.view in
    (omega (arith, low, seen), omega (arith, high, seen))

pub returns-clause-before : goal.returns-clause-before
returns-clause-before g c out seal behind =
    let t = read_under c.self.inside.guards _ _ _ _ _ _ _ _ _ c.self.invariant.2 c.heed.ensures.read (ap (λ h. h.guards) c.self.view_is) (ap (λ h. h.epoch) c.self.view_is) out in
    let high = t.1 in
    let later = c.heed.ensures.later in
    omega (arith, high, later, behind)
