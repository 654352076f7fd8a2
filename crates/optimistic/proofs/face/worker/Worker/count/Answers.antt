use Rattle.std.proofs.Common.{◌≡◌, ℕ, ◌+◌, ◌-◌, ◌^◌, ◌≤◌, min, Option, IfSome, take, ap, ◌∙◌, subst, rules, arith}
use Rattle.std.proofs.lemmas.List.{length-take-le}
use Rattle.optimistic.specs.face.Calls.{Known}
use Rattle.optimistic.specs.tree.Runs.{behind}
use Rattle.optimistic.specs.tree.Trails.{IsTrail}
use Rattle.optimistic.proofs.lemmas.face.Scanning.{IsCounted, counted_none, counted_run, counts_done}
use Rattle.optimistic.proofs.face.worker.Worker.count.Goals as goal

pub loop-next-init : goal.loop-next-init
loop-next-init g c = let test = c.if-start-last.false in (counted_none c.args.start c.args.self.now, omega (arith, test), subst (λ (z : Known). IsTrail c.trail-trail.result z.moment) c.self.view_is c.trail-trail.ensures, search rules)

pub loop-next-preserved : goal.loop-next-preserved
loop-next-preserved g c =
    let i = c.loop-next.invariant in
    let last : ℕ = c.args.last in
    let r = c.fill-filled.result in
    let told = c.fill-filled.ensures.filled in
    let few = told.few in
    let same = c.fill-filled.ensures.same in
    let size = i.3 in
    let is : behind last r.next ≡ c.in-Some.next = ap (λ (o : Option ℕ). behind last o) c.in-Some.is in
    let m : ℕ = c.saturating_add-count.result in
    let sum : m ≡ min (c.loop-next.count + r.count) (2 ^ 64 - 1) = c.saturating_add-count.ensures in
    let long = length-take-le r.count c.fill-filled.new.pairs (omega (arith, few, same, size)) in (
      subst (λ (z : ℕ). IsCounted c.args.start z m c.args.self.now c.fill-filled.new.self) is
          (counted_run c.args.start c.loop-next.from (behind last r.next) c.loop-next.count m r.count c.args.self.now c.loop-next.self c.fill-filled.new.self (take r.count c.fill-filled.new.pairs) i.0 told.far long sum),
      subst (λ (o : Option ℕ). IfSome o (λ k. k ≤ last)) c.in-Some.is told.inside,
      c.fill-filled.ensures.trail,
      same ∙ size,
    )

pub returns-in-None-clause-count : goal.returns-in-None-clause-count
returns-in-None-clause-count g c =
    let i = c.loop-next.invariant in
    let last : ℕ = c.args.last in
    let r = c.fill-filled.result in
    let told = c.fill-filled.ensures.filled in
    let few = told.few in
    let same = c.fill-filled.ensures.same in
    let size = i.3 in
    let is : behind last r.next ≡ last + 1 = ap (λ (o : Option ℕ). behind last o) c.in-None.is in
    let m : ℕ = c.saturating_add-count.result in
    let sum : m ≡ min (c.loop-next.count + r.count) (2 ^ 64 - 1) = c.saturating_add-count.ensures in
    let long = length-take-le r.count c.fill-filled.new.pairs (omega (arith, few, same, size)) in
    counts_done c.args.start (behind last r.next) (last + 1) m c.args.self.now c.fill-filled.new.self
    (counted_run c.args.start c.loop-next.from (behind last r.next) c.loop-next.count m r.count c.args.self.now c.loop-next.self c.fill-filled.new.self (take r.count c.fill-filled.new.pairs) i.0 told.far long sum) is
