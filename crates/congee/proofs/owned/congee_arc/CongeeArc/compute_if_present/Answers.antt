use Rattle.std.proofs.Common.{◌≡◌, ◌^◌, ◌-◌, ℕ, false, refl, ap, sym, subst, ◌∙◌, arith}
use Rattle.std.specs.FinMap as map
use Rattle.std.specs.Prelude.{None, Some}
use Rattle.std.specs.Arc.{arc_value}
use Rattle.std.specs.Option.{option_map}
use Rattle.judge.specs.declared.journal.Call.TheVariants as call
use Rattle.judge.specs.declared.journal.Reply.TheVariants as reply
use Rattle.congee.specs.Heap.{value_at}
use Rattle.congee.specs.owned.Arena.{heap_of}
use Rattle.congee.specs.owned.Owners.{never_same}
use Rattle.congee.specs.owned.Sizes.{bytes_of}
use Rattle.congee.specs.owned.Going.{Went, goes_of, going_by}
use Rattle.congee.proofs.lemmas.owned.Answered.{answered_absent}
use Rattle.congee.proofs.lemmas.owned.Contents.{filled_still, present_told, frees_going, frees_none, found_at}
use Rattle.congee.proofs.lemmas.owned.OwnerLemmas.{if_some, is_some_of_some, on_error, some_injective}
use Rattle.congee.proofs.lemmas.owned.Tables.{answer_pairs}
use Rattle.congee.proofs.lemmas.owned.Goings.{going_map}
use Rattle.congee.proofs.lemmas.owned.Keying.{keyed_change}
use Rattle.congee.proofs.owned.congee_arc.CongeeArc.compute_if_present.Goals as goal

pub returns-in_err-given-in-Some-clause-refused : goal.returns-in_err-given-in-Some-clause-refused
returns-in_err-given-in-Some-clause-refused g c =
    let found = found_at c.self.inside.arena (g.K.Word64.word c.args.key) c.bytes_of_key-bytes.ensures.small c.bytes_of_key-bytes.result c.bytes_of_key-bytes.ensures.bytes (Some c.in-Some.payload.now) c.in-Some.ensures in
    on_error c.from_residual.result _ (rw (← c.self.view_is) (is_some_of_some c.in-Some.payload.now _ found))

pub returns-in-None-clause-absent : goal.returns-in-None-clause-absent
returns-in-None-clause-absent g c =
    let nodes = c.self.inside.arena.nodes in
    let none = c.in-None.ensures ∙ ap (value_at (heap_of nodes)) c.bytes_of_key-bytes.ensures.bytes in
    let told = answer_pairs never_same nodes nodes (call.ComputePresent (g.K.Word64.word c.args.key) None) (reply.ComputePresent None)
    (answered_absent never_same nodes nodes (g.K.Word64.word c.args.key) c.bytes_of_key-bytes.ensures.small None (sym none)) in
    rw (← c.self.view_is) (told, refl)

pub returns-clause-present : goal.returns-clause-present
returns-clause-present g c =
    let old = c.in-Some.payload.now in
    let new = c.payload_of-new.result in
    let answers = present_told never_same _ _ c.self.inside.arena c.settle.new.self (g.K.Word64.word c.args.key) c.bytes_of_key-bytes.ensures.small c.bytes_of_key-bytes.result c.bytes_of_key-bytes.ensures.bytes c.settle.result old new _ c.in-Some.ensures c.settle.ensures.frees in
    let Q : ℕ → Type 0 = λ n. Went n (2 ^ 64 - 1) (bytes_of c.self.inside.arena.nodes) (bytes_of c.settle.new.self.nodes) (going_by new (map.get (goes_of c.self.inside.arena.nodes) (g.K.Word64.word c.args.key))) in
    let bytes = subst Q (sym c.self.invariant.1) (frees_going never_same _ _ c.self.inside.arena c.settle.new.self (g.K.Word64.word c.args.key) c.bytes_of_key-bytes.ensures.small c.bytes_of_key-bytes.result c.bytes_of_key-bytes.ensures.bytes new c.settle.result _ c.settle.ensures.frees) in
    let no_more = frees_none never_same _ _ c.self.inside.arena c.settle.new.self (g.K.Word64.word c.args.key) c.bytes_of_key-bytes.ensures.small c.bytes_of_key-bytes.result c.bytes_of_key-bytes.ensures.bytes new c.settle.result _ c.settle.ensures.frees in
    let filled = filled_still never_same _ _ c.self.inside.arena c.settle.new.self (g.K.Word64.word c.args.key) c.bytes_of_key-bytes.ensures.small c.bytes_of_key-bytes.result c.bytes_of_key-bytes.ensures.bytes new c.settle.result _ c.settle.ensures.frees in
    if_some c.owner_of.result _ (λ x is.
    let r : c.settle.result ≡ Some (arc_value x) = sym c.owner_of.ensures ∙ ap (option_map arc_value) is in
    let same : old ≡ arc_value x = some_injective old (arc_value x) (c.in-Some.ensures ∙ c.settle.ensures.frees.edits.change.was ∙ r) in (
      c.in_ok-given-in-Some.given,
      c.f.result,
      c.in_ok-given-in-Some.ensures ∙ same,
      c.f.ensures,
      rw (← c.self.view_is, ← going_map arc_value c.f.result (map.get (goes_of c.self.inside.arena.nodes) (g.K.Word64.word c.args.key)), ← c.payload_of-new.ensures, ← same) (record { answers = answers; bytes = bytes; no_more = no_more; filled = filled }),
    ))

pub invariant_of-self : goal.invariant_of-self
invariant_of-self g c = (c.settle.ensures.frees.edits.tree, omega (arith, c.settle.ensures.frees.edits.balance, c.self.invariant.1), c.settle.ensures.frees.filled false c.self.invariant.2 (λ e. absurd (cc e)), keyed_change _ _ _ c.bytes_of_key-bytes.ensures.small _ c.bytes_of_key-bytes.ensures.bytes _ _ c.settle.ensures.frees.edits.change c.self.invariant.3, c.settle.ensures.counted)
