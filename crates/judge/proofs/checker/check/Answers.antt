use Rattle.std.proofs.Common.{◌≡◌, nat_eq, subst, refl, ap, rules, arith}
use Rattle.std.proofs.lemmas.List.{take_all}
use Rattle.judge.specs.Journal.{IsLegal, IsWrongAt}
use Rattle.judge.specs.declared.checker.Verdict.TheVariants.{Wrong}
use Rattle.judge.proofs.Journals.{legal_more, wrong_at, wrong_nowhere, wrong_once}
use Rattle.judge.proofs.checker.check.Goals as goal

wrong_here : (c : goal.After-drop-standing-inside-then-ne) → IsWrongAt nat_eq c.args.journal.now c.loop-place.place
wrong_here c =
    wrong_at
    nat_eq
    c.loop-place.standing
    c.args.journal.now
    c.loop-place.place
    _
    c.in_ok-reply_to.field-0
    (search rules)
    c.loop-place.invariant
    c.in_ok-reply_to.ensures.reply
    (search rules)

whole : (c : goal.After-drop-standing-inside-2) → IsLegal nat_eq c.args.journal.now
whole c =
    subst
    (IsLegal nat_eq)
    (take_all c.loop-place.place c.args.journal.now (omega arith))
    (c.loop-place.standing, c.loop-place.invariant)

pub returns-then-ne-clause-legal : goal.returns-then-ne-clause-legal
returns-then-ne-clause-legal c =
    (λ e. absurd (cc), λ is. absurd (wrong_nowhere nat_eq c.args.journal.now c.loop-place.place is (wrong_here c)))

pub returns-then-ne-clause-wrong : goal.returns-then-ne-clause-wrong
returns-then-ne-clause-wrong c p = (
  λ e. let same_place : c.loop-place.place ≡ p = cc in subst (IsWrongAt nat_eq c.args.journal.now) same_place (wrong_here c),
  λ other. ap Wrong (wrong_once nat_eq c.args.journal.now c.loop-place.place p (wrong_here c) other),
)

pub loop-place-preserved : goal.loop-place-preserved
loop-place-preserved c =
    legal_more
    nat_eq
    _
    c.loop-place.standing
    c.reply_to.new.standing
    c.args.journal.now
    c.loop-place.place
    _
    c.in_ok-reply_to.field-0
    (search rules)
    c.loop-place.invariant
    c.in_ok-reply_to.ensures.reply
    c.in_ok-reply_to.ensures.next
    (search rules)

pub returns-clause-legal : goal.returns-clause-legal
returns-clause-legal c = (λ e. whole c, λ is. refl)

pub returns-clause-wrong : goal.returns-clause-wrong
returns-clause-wrong c p =
    (λ e. absurd (cc), λ other. absurd (wrong_nowhere nat_eq c.args.journal.now p (whole c) other))
