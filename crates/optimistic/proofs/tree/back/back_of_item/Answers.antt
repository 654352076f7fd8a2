use Rattle.std.proofs.Common.{le_refl}
use Rattle.optimistic.proofs.lemmas.tree.Backs.{placed_reaches}
use Rattle.optimistic.proofs.tree.back.back_of_item.Goals as goal

pub returns-else-last-to-clause-back : goal.returns-else-last-to-clause-back
returns-else-last-to-clause-back c = (le_refl c.args.to, placed_reaches c.args.to c.next_of_item-next.result c.next_of_item-next.ensures.placed)

pub returns-in_default-earlier-clause-back : goal.returns-in_default-earlier-clause-back
returns-in_default-earlier-clause-back c = (le_refl c.args.to, placed_reaches c.args.to c.next_of_item-next.result c.next_of_item-next.ensures.placed)

pub returns-in_default-clause-back : goal.returns-in_default-clause-back
returns-in_default-clause-back c = (le_refl c.args.to, placed_reaches c.args.to c.next_of_item-next.result c.next_of_item-next.ensures.placed)
