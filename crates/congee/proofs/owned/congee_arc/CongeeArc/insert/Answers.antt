use Rattle.std.proofs.Common.{◌^◌, ◌-◌, true, false, sym, subst, ℕ, None, arith}
use Rattle.std.specs.FinMap as map
use Rattle.congee.specs.owned.Owners.{never_same}
use Rattle.congee.specs.owned.Wanted.{wants_of, InsertionFits, IsRefused}
use Rattle.congee.proofs.lemmas.owned.Contents.{insert_told, grown, found_at, fitted_at, refused_at, denied_tree, denied_bytes, denied_branch}
use Rattle.congee.proofs.lemmas.owned.Fulls.{same_lacking, still_none}
use Rattle.congee.proofs.lemmas.owned.Surveys.{same_nodes}
use Rattle.congee.proofs.lemmas.owned.Tables.{same_pairs}
use Rattle.congee.proofs.lemmas.owned.Goings.{same_goes}
use Rattle.congee.proofs.lemmas.owned.Wanting.{same_wants}
use Rattle.congee.proofs.lemmas.owned.Keying.{denied_keyed, keyed_change}
use Rattle.congee.proofs.owned.congee_arc.CongeeArc.insert.Goals as goal

pub returns-in-Ok-clause-inserts : goal.returns-in-Ok-clause-inserts
returns-in-Ok-clause-inserts g c =
    let adds = c.in-Ok.ensures.adds in
    let answers = insert_told never_same _ _ c.self.inside.arena c.insert.new.self (g.K.Word64.word c.args.key) c.bytes_of_key-bytes.ensures.small c.bytes_of_key-bytes.result c.bytes_of_key-bytes.ensures.bytes c.in-Ok.before c.new.result _ adds in
    let bytes = grown never_same _ _ c.self.inside.arena c.insert.new.self (g.K.Word64.word c.args.key) c.bytes_of_key-bytes.ensures.small c.bytes_of_key-bytes.result c.bytes_of_key-bytes.ensures.bytes c.in-Ok.before c.new.result adds in
    let Q : ℕ → Type 0 = λ n. InsertionFits (map.get (wants_of c.self.inside.arena.nodes) (g.K.Word64.word c.args.key)) n (2 ^ 64 - 1) in
    let fits = subst Q (sym c.self.invariant.1) (fitted_at c.self.inside.arena (g.K.Word64.word c.args.key) c.bytes_of_key-bytes.ensures.small c.bytes_of_key-bytes.result c.bytes_of_key-bytes.ensures.bytes _ _ adds.fits) in
    rw (← c.self.view_is, c.owner_of.ensures, ← c.new.ensures) (record { answers = answers; fits = fits; bytes = bytes; filled = still_none c.self.inside.arena.nodes c.insert.new.self.nodes (adds.filled true) })

pub invariant_of-self : goal.invariant_of-self
invariant_of-self g c =
    let adds = c.in-Ok.ensures.adds in
    (adds.edits.tree, omega (arith, adds.edits.balance, c.self.invariant.1), adds.filled false c.self.invariant.2, keyed_change _ _ _ c.bytes_of_key-bytes.ensures.small _ c.bytes_of_key-bytes.ensures.bytes _ _ adds.edits.change c.self.invariant.3, c.insert.ensures.counted)

pub invariant_of-self-2 : goal.invariant_of-self-2
invariant_of-self-2 g c = (
  denied_tree _ _ _ _ _ _ _ _ c.self.invariant.0 c.in-Err.ensures.refused,
  omega (arith, denied_bytes _ _ _ _ _ _ _ _ c.in-Err.ensures.refused, c.in-Err.ensures.refused.balance, c.self.invariant.1),
  denied_branch _ _ _ _ _ _ _ _ c.in-Err.ensures.refused c.self.invariant.2,
  denied_keyed _ _ _ _ _ _ _ _ c.in-Err.ensures.refused c.self.invariant.3,
  c.insert.ensures.counted,
)

pub returns-clause-refused : goal.returns-clause-refused
returns-clause-refused g c =
    let refused = c.in-Err.ensures.refused in
    let p = same_pairs c.self.inside.arena.nodes c.insert.new.self.nodes refused.same in
    let b = denied_bytes _ _ _ _ _ _ _ _ refused in
    let n = same_nodes c.self.inside.arena.nodes c.insert.new.self.nodes refused.same in
    let k = same_lacking c.self.inside.arena.nodes c.insert.new.self.nodes refused.same in
    let w = same_wants c.self.inside.arena.nodes c.insert.new.self.nodes refused.same in
    let l = same_goes c.self.inside.arena.nodes c.insert.new.self.nodes refused.same in
    let Q : ℕ → Type 0 = λ n. IsRefused (map.get (wants_of c.self.inside.arena.nodes) (g.K.Word64.word c.args.key)) n (2 ^ 64 - 1) c.in-Err.e in
    rw (← c.self.view_is) (record {
      absent = sym (found_at c.self.inside.arena (g.K.Word64.word c.args.key) c.bytes_of_key-bytes.ensures.small c.bytes_of_key-bytes.result c.bytes_of_key-bytes.ensures.bytes None (sym refused.absent));
      cause = subst Q (sym c.self.invariant.1) (refused_at c.self.inside.arena (g.K.Word64.word c.args.key) c.bytes_of_key-bytes.ensures.small c.bytes_of_key-bytes.result c.bytes_of_key-bytes.ensures.bytes _ _ c.in-Err.e refused.cause);
      unchanged = λ i. record { pairs = p i; nodes = n i; bytes = b i; lacking = k i; wants = w i; goes = l i };
    })
