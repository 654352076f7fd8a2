use Rattle.std.proofs.Common.{◌∷◌, sym, ap, ◌∙◌, length}
use Rattle.crossbeam_epoch.specs.Chain.{room_left}
use Rattle.crossbeam_epoch.proofs.lemmas.world.Chains.{nothing_left, left_none, left_some}
use Rattle.crossbeam_epoch.proofs.chain.Chain.pop_front.Goals as goal
use Rattle.crossbeam_epoch.proofs.chain.Chain.pop_front.Goals.{then-is_empty, else-is_empty}

pub give_up-requires : goal.give_up-requires
give_up-requires g c = nothing_left c.take_front.new.self.items _ c.is_empty.ensures c.if-is_empty.true

pub returns : goal.returns
returns g c = record {
  items = elim c.if-is_empty.branch [
    | then-is_empty w ↦ c.in_ok-bag.ensures.items ∙ ap (λ q. c.in_ok-bag.bag ∷ q) (nothing_left c.take_front.new.self.items _ c.is_empty.ensures w.if-is_empty.true ∙ sym w.give_up.ensures.items) ∙ ap (λ v. c.in_ok-bag.bag ∷ v.items) (sym w.self-is)
    | else-is_empty w ↦ c.in_ok-bag.ensures.items ∙ ap (λ v. c.in_ok-bag.bag ∷ v.items) (sym w.self-is)
  ];
  room = elim c.if-is_empty.branch [
    | then-is_empty w ↦ ap (λ v. v.room) w.self-is ∙ w.give_up.ensures.room ∙ left_none c.if-is_empty.self.items _ (ap (λ v. v.items) w.self-is ∙ w.give_up.ensures.items)
    | else-is_empty w ↦ ap (λ v. v.room) w.self-is ∙ c.in_ok-bag.ensures.room ∙ left_some c.take_front.new.self.items _ (sym c.is_empty.ensures ∙ w.if-is_empty.false) ∙ ap (λ v. room_left (length v.items) c.args.self.now.room) (sym w.self-is)
  ];
}
