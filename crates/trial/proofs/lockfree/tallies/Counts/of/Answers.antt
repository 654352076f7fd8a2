use Rattle.std.proofs.Common.{◌≡◌, ◌++◌, nat_eq, List, ℕ, refl, rules, subst, sym, ◌∙◌}
use Rattle.std.specs.Prelude.{◌↔◌, IsTrue}
use Rattle.judge.specs.Journal.{IsLegal}
use Rattle.judge.specs.declared.journal.Entry.{Entry}
use Rattle.trial.proofs.lockfree.tallies.Counts.of.Goals as goal

pub returns-clause-counted : goal.returns-clause-counted
returns-clause-counted c = λ log drained.
    let looked = c.in_ok-pairs.ensures.looks log drained in
    let found = c.in_ok-pairs.ensures.found log drained in
    let read = c.deref.ensures.value in record {
      made = search rules;
      refused = refl;
      audited = subst (λ (es : List (Entry ℕ)). IsTrue c.in_ok-is_legal.field-0 ↔ IsLegal nat_eq es) looked (subst (λ (es : List (Entry ℕ)). IsTrue c.in_ok-is_legal.field-0 ↔ IsLegal nat_eq es) read c.in_ok-is_legal.ensures);
      pairs = found;
    }
