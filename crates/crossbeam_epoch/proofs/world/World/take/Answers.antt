use Rattle.std.proofs.Common.{rules, ◌≡◌, ℕ, ◌+◌, ◌<◌, ◌≤◌, arith, Bool, true, false, sym, refl, ap, ◌∙◌, length, get_or}
use Rattle.std.specs.Prelude.{nat_lt, ◌&&◌, if◌then◌else◌}
use Rattle.std.proofs.lemmas.Bool.Decides.{nat_tests}
use Rattle.crossbeam_epoch.specs.world.Machine.{State, in_phase, is_due, taken, took, with_place}
use Rattle.crossbeam_epoch.specs.declared.world.participant.Participant.{Participant}
use Rattle.crossbeam_epoch.specs.declared.world.participant.Phase.TheVariants as P
use Rattle.crossbeam_epoch.specs.world.Steps.{outcome_at}
use Rattle.crossbeam_epoch.proofs.lemmas.world.Held.{placed_at, took_first, written_at}
use Rattle.crossbeam_epoch.proofs.lemmas.world.Within.{worker_within}
use Rattle.crossbeam_epoch.proofs.world.World.take.Goals as goal
use Rattle.crossbeam_epoch.proofs.world.World.take.Goals.{then-bags-ge-BAGS-via-then-bags-ge-BAGS, then-bags-ge-BAGS-via-else-bags-ge-BAGS+then-not-is_due}

one_bag_more : (n : ℕ) → n < 8 → n + 1 < 256
one_bag_more n lt = omega (arith, lt)

no_turn : (due : Bool) (n : ℕ) → 8 ≤ n → (due && nat_lt n 8) ≡ false
no_turn true n le = grind (arith, nat_tests)
no_turn false n le = refl

none_due : (due few : Bool) → due ≡ false → (due && few) ≡ false
none_due due few is = ap (λ b. b && few) is

took_none : {A B : Type 0} (s v : State A B) (who answered bags : ℕ) (old : Participant B) → v ≡ s → who < length s.table → old ≡ get_or v.table who old → (is_due s answered && nat_lt bags 8) ≡ false → with_place v who (record old { phase = P.Idle }) ≡ took s who answered bags
took_none s v who answered bags old is lt read none =
    placed_at s v who (record old { phase = P.Idle }) old (λ p. record p { phase = P.Idle }) is lt read refl ∙ sym (ap (λ b. if b then taken s who answered bags else in_phase s who P.Idle) none)

pub returns : goal.returns
returns g c = record {
  state = took_first c.args.self.now _ c.args.who c.args.answered c.args.bags c.call_from.new.self c.index_mut-2.result.now c.in-Some.field-0 c.pop_front.new.self.items c.pop_front.new.self.room c.self.view_is c.requires.in_table c.index_mut-2.ensures.value c.in-Some.ensures.items c.in-Some.ensures.room c.call_from.ensures (sym c.is_due.ensures ∙ c.if-not-is_due.false) c.if-bags-ge-BAGS.false;
  outcome = sym (ap (λ p. outcome_at p.phase) (written_at c.args.self.now _ c.args.who c.call_from.new.self c.self.view_is c.requires.in_table) ∙ ap (λ p. outcome_at p.phase) c.call_from.ensures);
}

pub index_mut-requires : goal.index_mut-requires
index_mut-requires g c = worker_within c.args.self.now _ c.args.who _ c.self.view_is c.self.inside.participants.ok.0 c.requires.in_table

pub index_mut-requires-2 : goal.index_mut-requires-2
index_mut-requires-2 g c = worker_within c.args.self.now _ c.args.who _ c.self.view_is c.self.inside.participants.ok.0 c.requires.in_table

pub overflow_add-bags : goal.overflow_add-bags
overflow_add-bags g c =
    let fits : c.args.bags + 1 < 256 = one_bag_more c.args.bags c.if-bags-ge-BAGS.false in
    search (rules, fits)

pub returns-then-bags-ge-BAGS : goal.returns-then-bags-ge-BAGS
returns-then-bags-ge-BAGS g c =
    let none : (is_due c.args.self.now c.args.answered && nat_lt c.args.bags 8) ≡ false = elim c.then-bags-ge-BAGS.branch [
      | then-bags-ge-BAGS-via-then-bags-ge-BAGS w ↦ no_turn (is_due c.args.self.now c.args.answered) c.args.bags w.if-bags-ge-BAGS.true
      | then-bags-ge-BAGS-via-else-bags-ge-BAGS+then-not-is_due w ↦ none_due (is_due c.args.self.now c.args.answered) (nat_lt c.args.bags 8) (sym w.is_due.ensures ∙ w.if-not-is_due.true)
    ] in
    let old = c.index_mut.result.now in
    record {
      state = took_none c.args.self.now _ c.args.who c.args.answered c.args.bags old c.self.view_is c.requires.in_table c.index_mut.ensures.value none;
      outcome = sym (ap (λ p. outcome_at p.phase) (written_at c.args.self.now _ c.args.who (record old { phase = P.Idle }) c.self.view_is c.requires.in_table));
    }
