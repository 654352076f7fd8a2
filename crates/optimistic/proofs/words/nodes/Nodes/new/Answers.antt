use Rattle.std.proofs.Common.{◌≡◌, ℕ, [], rules, ap, sym, ◌∙◌, subst, List, set, replicate}
use Rattle.optimistic.specs.words.Kept.{Kept, newcomer, first_words}
use Rattle.atomic_table.specs.Table.{opening}
use Rattle.optimistic.proofs.lemmas.words.Steps.{opens}
use Rattle.optimistic.proofs.words.nodes.Nodes.new.Goals as goal

pub of_words-requires : goal.of_words-requires
of_words-requires g c = let items : c.in_ok-words.words.items ≡ replicate c.args.count 0 = search rules in
    let same : c.as_slice.result.now ≡ first_words c.args.count = c.as_slice.ensures.value ∙ ap (λ (l : List ℕ). set (set l 0 536) 17 32) items in
    subst (λ (l : List ℕ). Kept _ c.args.count (opening l [] (newcomer c.args.count))) (sym same) (opens _ c.args.count c.requires.count.0 c.requires.empty)
