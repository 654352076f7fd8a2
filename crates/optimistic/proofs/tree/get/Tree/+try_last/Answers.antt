use Rattle.std.proofs.Common.{◌≡◌, ℕ, ◌+◌, ◌-◌, ◌≤◌, List, Option, None, Some, subst, arith}
use Rattle.optimistic.specs.declared.drain.nexts.Next.{Next}
use Rattle.optimistic.specs.declared.drain.nexts.Pair.{Pair}
use Rattle.optimistic.specs.declared.words.rule.Entry.{Entry}
use Rattle.optimistic.specs.words.Kept.{word_at, value_of}
use Rattle.optimistic.specs.tree.Drained.{pair_of}
use Rattle.optimistic.specs.tree.Nexts.{IsLast, UpTo}
use Rattle.optimistic.specs.tree.Sights.{Holds, Reaches}
use Rattle.optimistic.proofs.lemmas.tree.Alone.{sought_down, sought_moved, none_map, disturbed_in}
use Rattle.optimistic.proofs.lemmas.words.Moments.{since_refl, since_trans}
use Rattle.optimistic.proofs.lemmas.tree.Backs.{last_here, last_none, last_before}
use Rattle.optimistic.proofs.lemmas.tree.Reading.{looks_trans}
use Rattle.optimistic.proofs.lemmas.tree.Setting.{place_since}
use Rattle.optimistic.proofs.lemmas.tree.Sights.{confirmed, stood_from, stood_now, stood_after}
use Rattle.optimistic.proofs.tree.get.Tree.+try_last.Goals as goal

-- the last pair below a key, by a log
abbrev Last : ℕ → Option Pair → List Entry → Type 0
Last to r log = IsLast log to r

pub returns-in-Here-clause-looks : goal.returns-in-Here-clause-looks
returns-in-Here-clause-looks t c = looks_trans _ _ _ c.back_sight.ensures.looks c.confirm.ensures.looks

pub returns-in-Here-clause-last : goal.returns-in-Here-clause-last
returns-in-Here-clause-last t c =
    let b = c.in-Some.back in
    let s = b.sight in
    let to : ℕ = c.args.to in
    let x : ℕ = c.in-Here.value in
    let v = c.args.hand.now.me.0 in
    let u = c.back_sight.new.hand.me.0 in
    let w = c.confirm.new.hand.me.0 in
    let here : b.from ≡ to = subst (λ (n : Next). Reaches to b.from n) c.in-Here.is c.in-Some.ensures.sight.0.1 in
    confirmed (Last (to + 1)) c.confirm.result (Some (pair_of to x)) (word_at w.seen.words s.at.node 0 ≡ s.version) v w c.confirm.ensures.still
    (λ same. stood_from (Last (to + 1) (Some (pair_of to x))) v u w c.back_sight.ensures.looks.since
    (stood_now s b.from u w c.in-Some.ensures.sight.1 same (Last (to + 1) (Some (pair_of to x))) c.confirm.ensures.looks
    (λ log h. last_here to x log (subst (λ (k : ℕ). value_of k log ≡ Some x) here (subst (λ (n : Next). Holds log b.from n) c.in-Here.is h)))))

pub returns-then-back-eq0-clause-last : goal.returns-then-back-eq0-clause-last
returns-then-back-eq0-clause-last t c =
    let b = c.in-Some.back in
    let s = b.sight in
    let to : ℕ = c.args.to in
    let last : ℕ = c.in-After.field-0 in
    let v = c.args.hand.now.me.0 in
    let u = c.back_sight.new.hand.me.0 in
    let w = c.confirm-then-back-eq0.new.hand.me.0 in
    let end : to ≤ last = subst (λ (n : Next). Reaches to b.from n) c.in-After.is c.in-Some.ensures.sight.0.1 in
    confirmed (Last (to + 1)) c.confirm-then-back-eq0.result None (word_at w.seen.words s.at.node 0 ≡ s.version) v w c.confirm-then-back-eq0.ensures.still
    (λ same. stood_from (Last (to + 1) None) v u w c.back_sight.ensures.looks.since
    (stood_now s b.from u w c.in-Some.ensures.sight.1 same (Last (to + 1) None) c.confirm-then-back-eq0.ensures.looks
    (λ log h. last_none to last log end (subst (λ (z : ℕ). UpTo z last (λ k. value_of k log ≡ None)) c.if-back-eq0.true (subst (λ (n : Next). Holds log b.from n) c.in-After.is h)))))

pub confirm-requires-in-Some-try_last-clause-place : goal.confirm-requires-in-Some-try_last-clause-place
confirm-requires-in-Some-try_last-clause-place t c = place_since c.in-Some.back.sight.at c.back_sight.new.hand.me.0 c.try_last.new.hand.me.0 c.try_last.ensures.looks.since c.in-Some.ensures.sight.1.place

pub returns-in-Some-try_last-clause-looks : goal.returns-in-Some-try_last-clause-looks
returns-in-Some-try_last-clause-looks t c = looks_trans _ _ _ c.back_sight.ensures.looks (looks_trans _ _ _ c.try_last.ensures.looks c.confirm-in-Some-try_last.ensures.looks)

pub returns-in-Some-try_last-clause-last : goal.returns-in-Some-try_last-clause-last
returns-in-Some-try_last-clause-last t c =
    let b = c.in-Some.back in
    let s = b.sight in
    let to : ℕ = c.args.to in
    let last : ℕ = c.in-After.field-0 in
    let found = c.in-Some-try_last.last in
    let v = c.args.hand.now.me.0 in
    let u = c.back_sight.new.hand.me.0 in
    let x = c.try_last.new.hand.me.0 in
    let w = c.confirm-in-Some-try_last.new.hand.me.0 in
    let order = c.in-Some.ensures.sight.0.0 in
    let end : to ≤ last = subst (λ (n : Next). Reaches to b.from n) c.in-After.is c.in-Some.ensures.sight.0.1 in
    let some = c.if-back-eq0.false in
    confirmed (Last (to + 1)) c.confirm-in-Some-try_last.result found (word_at w.seen.words s.at.node 0 ≡ s.version) v w c.confirm-in-Some-try_last.ensures.still
    (λ same. stood_from (Last (to + 1) found) v u w c.back_sight.ensures.looks.since
    (stood_after s b.from u w c.in-Some.ensures.sight.1 same (Last (b.from - 1 + 1) found) (Last (to + 1) found) x c.in-Some-try_last.ensures.last c.confirm-in-Some-try_last.ensures.looks.since
    (λ log h f. last_before to b.from last (b.from - 1 + 1) log found (omega (arith, some)) order end (subst (λ (n : Next). Holds log b.from n) c.in-After.is h) f)))

pub returns-in-None-clause-looks : goal.returns-in-None-clause-looks
returns-in-None-clause-looks t c = looks_trans _ _ _ c.back_sight.ensures.looks c.try_last.ensures.looks

pub returns-then-back-eq0-clause-looks : goal.returns-then-back-eq0-clause-looks
returns-then-back-eq0-clause-looks t c = looks_trans _ _ _ c.back_sight.ensures.looks c.confirm-then-back-eq0.ensures.looks

pub returns-then-back-eq0-clause-alone : goal.returns-then-back-eq0-clause-alone
returns-then-back-eq0-clause-alone t c = none_map c.confirm-then-back-eq0.result _ _ (sought_moved c.in-Some.back.sight c.args.hand.now.me.0 c.back_sight.new.hand.me.0 c.confirm-then-back-eq0.new.hand.me.0 c.in-Some.ensures.sought c.confirm-then-back-eq0.ensures.looks.since) c.confirm-then-back-eq0.ensures.moved

pub returns-in-Here-clause-alone : goal.returns-in-Here-clause-alone
returns-in-Here-clause-alone t c = none_map c.confirm.result _ _ (sought_moved c.in-Some.back.sight c.args.hand.now.me.0 c.back_sight.new.hand.me.0 c.confirm.new.hand.me.0 c.in-Some.ensures.sought c.confirm.ensures.looks.since) c.confirm.ensures.moved

pub returns-in-Down-clause-alone : goal.returns-in-Down-clause-alone
returns-in-Down-clause-alone t c = sought_down c.in-Some.back.sight c.in-Down.field-0 c.args.hand.now.me.0 c.back_sight.new.hand.me.0 c.in-Down.is c.in-Some.ensures.sought

pub returns-in-Some-try_last-clause-alone : goal.returns-in-Some-try_last-clause-alone
returns-in-Some-try_last-clause-alone t c =
    let u = c.back_sight.new.hand.me.0 in
    let x = c.try_last.new.hand.me.0 in
    let w = c.confirm-in-Some-try_last.new.hand.me.0 in
    none_map c.confirm-in-Some-try_last.result _ _
    (sought_moved c.in-Some.back.sight c.args.hand.now.me.0 u w c.in-Some.ensures.sought (since_trans u.seen x.seen w.seen c.try_last.ensures.looks.since c.confirm-in-Some-try_last.ensures.looks.since)) c.confirm-in-Some-try_last.ensures.moved

pub returns-in-None-clause-alone : goal.returns-in-None-clause-alone
returns-in-None-clause-alone t c =
    let u = c.back_sight.new.hand.me.0 in
    let x = c.try_last.new.hand.me.0 in
    disturbed_in c.args.hand.now.me.0.seen u.seen x.seen x.seen c.back_sight.ensures.looks.since c.in-None.ensures.alone (since_refl x.seen)
