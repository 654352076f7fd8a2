use Rattle.std.proofs.Common.{◌≡◌, ◌+◌, ◌<◌, ◌*◌, ℕ, Ok, Some, IfOk, ap, arith, length, nat_eq, rules, sym, ◌∙◌, subst, slice_index_or}
use Rattle.std.specs.Prelude.{slice_get}
use Rattle.std.proofs.lemmas.Option.{get_or_from_slice_get, slice_get_within, slice_get-get_or}
use Rattle.judge.specs.Journal.{IsLegal}
use Rattle.joint.specs.threads.Auditing.{IsAudited}
use Rattle.trial.specs.Histories.{AreCalls, writes_in}
use Rattle.trial.proofs.Counting.{all_calls}
use Rattle.trial.proofs.threads.history_by.Goals as goal

pub own-requires : goal.own-requires
own-requires g c =
    let ws = c.in_ok-worked.worked.items in
    let cs = c.in_ok-callers.callers.items in
    let lens : length ws ≡ length cs = search rules in
    let each : (i : ℕ) (w : _) → slice_get ws i ≡ Some (Ok w) → AreCalls c.args.calls i w.own.items × (length w.own.items ≡ c.args.calls) × (w.share.parts ≡ 1) × (w.share.count ≡ writes_in c.args.calls) =
    λ i w e.
    let read = get_or_from_slice_get ws i (Ok w) (Ok w) e in
    let within : i < length ws = slice_get_within ws i (Ok w) e in
    let lt : i < length cs = subst (λ n. i < n) lens within in
    let given = (c.in_ok-worked.ensures.each i (Ok w) lt).1 in
    let post : IfOk (slice_index_or ws i (Ok w)) (λ v. AreCalls c.args.calls given.job.place v.own.items × (length v.own.items ≡ c.args.calls) × (v.share.parts ≡ given.job.share.parts) × (v.share.count ≡ given.job.share.count + writes_in c.args.calls)) = given.call.met in
    let made = subst (λ r. IfOk r (λ v. AreCalls c.args.calls given.job.place v.own.items × (length v.own.items ≡ c.args.calls) × (v.share.parts ≡ given.job.share.parts) × (v.share.count ≡ given.job.share.count + writes_in c.args.calls))) read post in
    let at = c.in_ok-callers.ensures.each i given.job (slice_get-get_or cs i given.job lt ∙ ap Some (given.job_is given.job)) in
    let count = made.3 in
    let none = at.2 in
    (subst (λ p. AreCalls c.args.calls p w.own.items) at.0 made.0, made.1, made.2 ∙ at.1, omega (arith, count, none)) in record {
      worked = λ i w e. let it = each i w e in (it.0, it.1);
      shares = λ i w e. let it = each i w e in (it.2, it.3);
    }

pub returns : goal.returns
returns g c =
    let stood = c.in_ok-gathered.ensures.gathers.0 in
    let journal = c.in_ok-gathered.gathered.1.items in
    let all : length c.in_ok-own.own.items ≡ c.args.workers = search rules in
    let told = c.in_ok-gathered.ensures.gathers.2 in
    let counts = c.in_ok-own.ensures.count in
    let left = c.in_ok-callers.ensures.left.1 in
    let none = c.in_ok-index.ensures.1 in
    let lens : length c.in_ok-worked.worked.items ≡ c.args.workers = search rules in
    let times = ap (λ n. n * writes_in c.args.calls) lens in record {
      journal = journal;
      own = c.in_ok-own.own.items;
      stood = stood;
      entries = search rules;
      ledger = c.in_ok-gathered.ensures.gathers.3;
      counted = omega (arith, told, counts, left, none, times);
      verdict = c.in_ok-verdict.ensures.legal.1 (subst (λ l. IsLegal nat_eq l) (sym stood.2 ∙ (let e : journal ≡ c.deref.result.now = search rules in e)) stood.1.legal);
      all = all;
      kept = c.in_ok-own.ensures.kept;
      audited = search rules;
      whole = λ found.
          let is : IsAudited journal c.in_ok-own.own.items = search (rules, found) in
          let count = all_calls is c.in_ok-own.ensures.kept in
          search (rules, count);
    }
