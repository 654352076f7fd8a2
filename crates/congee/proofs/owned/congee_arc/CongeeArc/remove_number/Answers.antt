use Rattle.std.proofs.Common.{◌^◌, ◌-◌, false, sym, subst, arith}
use Rattle.std.specs.FinMap as map
use Rattle.std.specs.Prelude.{None, ℕ}
use Rattle.congee.specs.owned.Going.{Went, goes_of}
use Rattle.congee.specs.owned.Owners.{never_same}
use Rattle.congee.specs.owned.Sizes.{bytes_of}
use Rattle.congee.proofs.lemmas.owned.Contents.{filled_still, remove_told, frees_going, frees_none, found_at}
use Rattle.congee.proofs.lemmas.owned.Keying.{keyed_change}
use Rattle.congee.proofs.owned.congee_arc.CongeeArc.remove_number.Goals as goal

pub returns-clause-removes : goal.returns-clause-removes
returns-clause-removes g c =
    let answers = remove_told never_same _ _ c.self.inside.arena c.remove.new.self c.args.key c.bytes_of_key-bytes.ensures.small c.bytes_of_key-bytes.result c.bytes_of_key-bytes.ensures.bytes c.remove.result _ c.remove.ensures.frees in
    let Q : ℕ → Type 0 = λ n. Went n (2 ^ 64 - 1) (bytes_of c.self.inside.arena.nodes) (bytes_of c.remove.new.self.nodes) (map.get (goes_of c.self.inside.arena.nodes) c.args.key) in
    let bytes = subst Q (sym c.self.invariant.1) (frees_going never_same _ _ c.self.inside.arena c.remove.new.self c.args.key c.bytes_of_key-bytes.ensures.small c.bytes_of_key-bytes.result c.bytes_of_key-bytes.ensures.bytes {Y = ℕ} None c.remove.result None c.remove.ensures.frees) in
    let no_more = frees_none never_same _ _ c.self.inside.arena c.remove.new.self c.args.key c.bytes_of_key-bytes.ensures.small c.bytes_of_key-bytes.result c.bytes_of_key-bytes.ensures.bytes {Y = ℕ} None c.remove.result None c.remove.ensures.frees in
    let filled = filled_still never_same _ _ c.self.inside.arena c.remove.new.self c.args.key c.bytes_of_key-bytes.ensures.small c.bytes_of_key-bytes.result c.bytes_of_key-bytes.ensures.bytes {Y = ℕ} None c.remove.result None c.remove.ensures.frees in
    rw (← c.self.view_is, c.owner_of.ensures) (record { answers = answers; bytes = bytes; no_more = no_more; filled = filled })

pub invariant_of-self : goal.invariant_of-self
invariant_of-self g c = (c.remove.ensures.frees.edits.tree, omega (arith, c.remove.ensures.frees.edits.balance, c.self.invariant.1), c.remove.ensures.frees.filled false c.self.invariant.2 (λ e. absurd (cc e)), keyed_change _ _ _ c.bytes_of_key-bytes.ensures.small _ c.bytes_of_key-bytes.ensures.bytes _ _ c.remove.ensures.frees.edits.change c.self.invariant.3, c.remove.ensures.counted)

pub returns-clause-value : goal.returns-clause-value
returns-clause-value g c = rw (← c.self.view_is, c.owner_of.ensures) (found_at c.self.inside.arena c.args.key c.bytes_of_key-bytes.ensures.small c.bytes_of_key-bytes.result c.bytes_of_key-bytes.ensures.bytes c.remove.result (sym c.remove.ensures.frees.edits.change.was))
