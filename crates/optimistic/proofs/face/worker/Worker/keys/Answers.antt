use Rattle.std.proofs.Common.{◌≡◌, ℕ, ◌+◌, ◌++◌, ◌≤◌, List, Option, IfSome, length, take, drop, ap, sym, ◌∙◌, subst, refl, arith, rules}
use Rattle.std.proofs.lemmas.List.{length-take-le, drop-drop}
use Rattle.optimistic.specs.face.Scans.{keys_of}
use Rattle.optimistic.specs.face.Calls.{Known}
use Rattle.optimistic.specs.tree.Runs.{behind}
use Rattle.optimistic.specs.tree.Trails.{IsTrail}
use Rattle.optimistic.proofs.lemmas.face.Keyed.{IsKeyed, keyed_run, keys_none, keyed_none, keys_full, keys_done}
use Rattle.optimistic.proofs.face.worker.Worker.keys.Goals as goal

-- as many as are taken, and no more than there are places
few : (n : ℕ) (out old : List ℕ) → n ≤ length out → length out ≡ length old → length (take n out) ≤ length old
few n out old low same = let e = length-take-le n out low in omega (arith, e, low, same)

-- what is behind the places that are written stays
past : (n k : ℕ) (new out old : List ℕ) → drop (n + k) new ≡ drop (n + k) out → drop n out ≡ drop n old → drop (n + k) new ≡ drop (n + k) old
past n k new out old a b = a ∙ sym (drop-drop k n out) ∙ ap (λ (l : List ℕ). drop k l) b ∙ drop-drop k n old

pub returns-then-start-last-clause-keys : goal.returns-then-start-last-clause-keys
returns-then-start-last-clause-keys g c = let test = c.if-start-last.true in keys_none c.args.start (c.args.last + 1) (length c.args.out.now) c.args.self.now (omega (arith, test))

pub loop-count-init : goal.loop-count-init
loop-count-init g c =
    let test = c.if-start-last.false in (
      keyed_none c.args.start c.args.self.now,
      omega (arith, test),
      omega arith,
      refl {a = length c.args.out.now},
      refl {a = drop 0 c.args.out.now},
      subst (λ (z : Known). IsTrail c.trail-trail.result z.moment) c.self.view_is c.trail-trail.ensures,
      search rules,
    )

pub loop-count-preserved : goal.loop-count-preserved
loop-count-preserved g c =
    let i = c.loop-count.invariant in
    let n : ℕ = c.loop-count.count in
    let out = c.loop-count.out in
    let old = c.args.out.now in
    let from : ℕ = c.loop-count.from in
    let last : ℕ = c.args.last in
    let r = c.fill-filled.result in
    let told = c.fill-filled.ensures.filled in
    let next : ℕ = c.in-Some.next in
    let v = c.args.self.now in
    let u = c.loop-count.self in
    let w = c.fill-filled.new.self in
    let more = take r.count c.fill-filled.new.pairs in
    let is : behind last r.next ≡ next = ap (λ (o : Option ℕ). behind last o) c.in-Some.is in
    let all : IsKeyed c.args.start (behind last r.next) v w (take n out ++ keys_of more) = keyed_run c.args.start from (behind last r.next) v u w (take n out) more i.0 told.far in
    let inside : next ≤ last = subst (λ (o : Option ℕ). IfSome o (λ k. k ≤ last)) c.in-Some.is told.inside in
    let few = told.few in
    let room = c.fewer-places.ensures.0 in
    let low = i.2 in
    let same = c.put_keys.ensures.same in (
      subst (λ (z : ℕ × List ℕ). IsKeyed c.args.start z.0 v w z.1) (λ t. (is t, sym c.put_keys.ensures.keys t)) all,
      inside,
      omega (arith, few, room, low, same),
      same ∙ i.3,
      past n r.count c.put_keys.new.out out old c.put_keys.ensures.past i.4,
      c.fill-filled.ensures.trail,
      c.fill-filled.ensures.same ∙ i.6,
    )

pub returns-in-None-clause-keys : goal.returns-in-None-clause-keys
returns-in-None-clause-keys g c =
    let i = c.loop-count.invariant in
    let n : ℕ = c.loop-count.count in
    let out = c.loop-count.out in
    let from : ℕ = c.loop-count.from in
    let last : ℕ = c.args.last in
    let r = c.fill-filled.result in
    let told = c.fill-filled.ensures.filled in
    let v = c.args.self.now in
    let u = c.loop-count.self in
    let w = c.fill-filled.new.self in
    let more = take r.count c.fill-filled.new.pairs in
    let is : behind last r.next ≡ last + 1 = ap (λ (o : Option ℕ). behind last o) c.in-None.is in
    let all : IsKeyed c.args.start (behind last r.next) v w (take n out ++ keys_of more) = keyed_run c.args.start from (behind last r.next) v u w (take n out) more i.0 told.far in
    let few' = told.few in
    let room = c.fewer-places.ensures.0 in
    let low = i.2 in
    let same = c.put_keys.ensures.same in
    keys_done c.args.start (behind last r.next) (last + 1) (length c.args.out.now) v w (take (n + r.count) c.put_keys.new.out)
    (subst (λ (l : List ℕ). IsKeyed c.args.start (behind last r.next) v w l) (sym c.put_keys.ensures.keys) all) is
    (few (n + r.count) c.put_keys.new.out c.args.out.now (omega (arith, few', room, low, same)) (same ∙ i.3))

pub returns-in-None-clause-past : goal.returns-in-None-clause-past
returns-in-None-clause-past g c = past c.loop-count.count c.fill-filled.result.count c.put_keys.new.out c.loop-count.out c.args.out.now c.put_keys.ensures.past c.loop-count.invariant.4

pub returns-clause-keys : goal.returns-clause-keys
returns-clause-keys g c =
    let i = c.loop-count.invariant in
    let n : ℕ = c.loop-count.count in
    let out = c.loop-count.out in
    let over = c.loop-count-test.false in
    let most = i.2 in
    let all : n ≡ length out = omega (arith, over, most) in
    let order = i.1 in
    let full : length (take n out) ≡ length c.args.out.now = length-take-le n out most ∙ all ∙ i.3 in
    keys_full c.args.start c.loop-count.from (c.args.last + 1) (length c.args.out.now) c.args.self.now c.loop-count.self (take n out) i.0 full (omega (arith, order))
