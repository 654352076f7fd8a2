use Rattle.std.proofs.Common.{◌≡◌, ℕ, ◌≤◌, ◌+◌, true, false, length, sym, ◌∙◌, ap, subst}
use Rattle.joint.specs.engine.Log.{Log, is_full, recounted}
use Rattle.joint.proofs.lemmas.engine.Recounting.{recounted_room, fewer}
use Rattle.joint.proofs.world.log.Log.recount.Goals as goal

pub recounted-self-inside-requires : goal.recounted-self-inside-requires
recounted-self-inside-requires g c =
    let P : Log g.row.P.Denot → Type 0 = λ l. c.args.before ≡ false → c.args.after ≡ true → is_full l ≡ false in
    fewer (record { entries = c.self.inside.entries.items; places = c.self.inside.places; reserved = c.self.inside.reserved; requests = c.self.inside.requests.items }) c.args.before c.args.after (subst P (sym c.self.view_is) c.requires)

pub invariant_of-self : goal.invariant_of-self
invariant_of-self g c =
    let P : Log g.row.P.Denot → Type 0 = λ l. c.args.before ≡ false → c.args.after ≡ true → is_full l ≡ false in
    let Q : ℕ → Type 0 = λ n. length c.self.inside.entries.items + n ≤ c.self.inside.places in
    (c.self.invariant.0, subst Q (sym c.recounted-self-inside.ensures) (recounted_room (record { entries = c.self.inside.entries.items; places = c.self.inside.places; reserved = c.self.inside.reserved; requests = c.self.inside.requests.items }) c.args.before c.args.after c.self.invariant.1 (subst P (sym c.self.view_is) c.requires)))

pub returns : goal.returns
returns g c =
    ap (λ n. record { entries = c.self.inside.entries.items; places = c.self.inside.places; reserved = n; requests = c.self.inside.requests.items }) c.recounted-self-inside.ensures
    ∙ ap (λ (l : Log g.row.P.Denot). record l { reserved = recounted l.places c.args.before c.args.after l.reserved }) c.self.view_is
