use Rattle.std.proofs.Common.{◌≡◌, ℕ, ◌+◌, ◌^◌, List, Option, None, Some, subst, arith}
use Rattle.optimistic.specs.declared.drain.nexts.Next.{Next}
use Rattle.optimistic.specs.declared.drain.nexts.Pair.{Pair}
use Rattle.optimistic.specs.declared.words.rule.Entry.{Entry}
use Rattle.optimistic.specs.words.Kept.{word_at}
use Rattle.optimistic.specs.tree.Drained.{pair_of}
use Rattle.optimistic.specs.tree.Nexts.{IsFirst}
use Rattle.optimistic.specs.tree.Sights.{Holds}
use Rattle.optimistic.proofs.lemmas.tree.Alone.{sought_down, sought_moved, none_map, disturbed_in}
use Rattle.optimistic.proofs.lemmas.words.Moments.{since_refl, since_trans}
use Rattle.optimistic.proofs.lemmas.tree.Reading.{looks_trans}
use Rattle.optimistic.proofs.lemmas.tree.Setting.{place_since}
use Rattle.optimistic.proofs.lemmas.tree.Sights.{confirmed, stood_from, stood_now, stood_after, first_here, first_none, first_after}
use Rattle.optimistic.proofs.tree.get.Tree.+try_next.Goals as goal

-- the first pair from a key on, by a log
abbrev First : ℕ → Option Pair → List Entry → Type 0
First from r log = IsFirst log from r

pub returns-in-Here-clause-looks : goal.returns-in-Here-clause-looks
returns-in-Here-clause-looks t c = looks_trans _ _ _ c.sight.ensures.looks c.confirm.ensures.looks

pub returns-in-Here-clause-first : goal.returns-in-Here-clause-first
returns-in-Here-clause-first t c =
    let s = c.in-Some.sight in
    let from : ℕ = c.args.from in
    let v = c.args.hand.now.me.0 in
    let u = c.sight.new.hand.me.0 in
    let w = c.confirm.new.hand.me.0 in
    let pair = pair_of from c.in-Here.value in
    confirmed (First from) c.confirm.result (Some pair) (word_at w.seen.words s.at.node 0 ≡ s.version) v w c.confirm.ensures.still
    (λ same. stood_from (First from (Some pair)) v u w c.sight.ensures.looks.since
    (stood_now s from u w c.in-Some.ensures.sight same (First from (Some pair)) c.confirm.ensures.looks (λ log h. first_here from c.in-Here.value log (subst (λ (n : Next). Holds log from n) c.in-Here.is h))))

pub returns-then-last-clause-first : goal.returns-then-last-clause-first
returns-then-last-clause-first t c =
    let s = c.in-Some.sight in
    let from : ℕ = c.args.from in
    let last : ℕ = c.in-After.last in
    let v = c.args.hand.now.me.0 in
    let u = c.sight.new.hand.me.0 in
    let w = c.confirm-then-last.new.hand.me.0 in
    let most = c.if-last.true in
    let end : last + 1 ≡ 2 ^ 64 = omega (arith, most) in
    confirmed (First from) c.confirm-then-last.result None (word_at w.seen.words s.at.node 0 ≡ s.version) v w c.confirm-then-last.ensures.still
    (λ same. stood_from (First from None) v u w c.sight.ensures.looks.since
    (stood_now s from u w c.in-Some.ensures.sight same (First from None) c.confirm-then-last.ensures.looks (λ log h. first_none from last log end (subst (λ (n : Next). Holds log from n) c.in-After.is h))))

pub confirm-requires-in-Some-try_next-clause-place : goal.confirm-requires-in-Some-try_next-clause-place
confirm-requires-in-Some-try_next-clause-place t c = place_since c.in-Some.sight.at c.sight.new.hand.me.0 c.try_next.new.hand.me.0 c.try_next.ensures.looks.since c.in-Some.ensures.sight.place

pub returns-in-Some-try_next-clause-looks : goal.returns-in-Some-try_next-clause-looks
returns-in-Some-try_next-clause-looks t c = looks_trans _ _ _ c.sight.ensures.looks (looks_trans _ _ _ c.try_next.ensures.looks c.confirm-in-Some-try_next.ensures.looks)

pub returns-in-Some-try_next-clause-first : goal.returns-in-Some-try_next-clause-first
returns-in-Some-try_next-clause-first t c =
    let s = c.in-Some.sight in
    let from : ℕ = c.args.from in
    let last : ℕ = c.in-After.last in
    let first = c.in-Some-try_next.first in
    let v = c.args.hand.now.me.0 in
    let u = c.sight.new.hand.me.0 in
    let x = c.try_next.new.hand.me.0 in
    let w = c.confirm-in-Some-try_next.new.hand.me.0 in
    confirmed (First from) c.confirm-in-Some-try_next.result first (word_at w.seen.words s.at.node 0 ≡ s.version) v w c.confirm-in-Some-try_next.ensures.still
    (λ same. stood_from (First from first) v u w c.sight.ensures.looks.since
    (stood_after s from u w c.in-Some.ensures.sight same (First (last + 1) first) (First from first) x c.in-Some-try_next.ensures.first c.confirm-in-Some-try_next.ensures.looks.since
    (λ log h f. first_after from last log first (subst (λ (n : Next). Holds log from n) c.in-After.is h) f)))

pub returns-in-None-clause-looks : goal.returns-in-None-clause-looks
returns-in-None-clause-looks t c = looks_trans _ _ _ c.sight.ensures.looks c.try_next.ensures.looks

pub returns-then-last-clause-looks : goal.returns-then-last-clause-looks
returns-then-last-clause-looks t c = looks_trans _ _ _ c.sight.ensures.looks c.confirm-then-last.ensures.looks

pub returns-then-last-clause-alone : goal.returns-then-last-clause-alone
returns-then-last-clause-alone t c = none_map c.confirm-then-last.result _ _ (sought_moved c.in-Some.sight c.args.hand.now.me.0 c.sight.new.hand.me.0 c.confirm-then-last.new.hand.me.0 c.in-Some.ensures.sought c.confirm-then-last.ensures.looks.since) c.confirm-then-last.ensures.moved

pub returns-in-Here-clause-alone : goal.returns-in-Here-clause-alone
returns-in-Here-clause-alone t c = none_map c.confirm.result _ _ (sought_moved c.in-Some.sight c.args.hand.now.me.0 c.sight.new.hand.me.0 c.confirm.new.hand.me.0 c.in-Some.ensures.sought c.confirm.ensures.looks.since) c.confirm.ensures.moved

pub returns-in-Down-clause-alone : goal.returns-in-Down-clause-alone
returns-in-Down-clause-alone t c = sought_down c.in-Some.sight c.in-Down.field-0 c.args.hand.now.me.0 c.sight.new.hand.me.0 c.in-Down.is c.in-Some.ensures.sought

pub returns-in-Some-try_next-clause-alone : goal.returns-in-Some-try_next-clause-alone
returns-in-Some-try_next-clause-alone t c =
    let u = c.sight.new.hand.me.0 in
    let x = c.try_next.new.hand.me.0 in
    let w = c.confirm-in-Some-try_next.new.hand.me.0 in
    none_map c.confirm-in-Some-try_next.result _ _
    (sought_moved c.in-Some.sight c.args.hand.now.me.0 u w c.in-Some.ensures.sought (since_trans u.seen x.seen w.seen c.try_next.ensures.looks.since c.confirm-in-Some-try_next.ensures.looks.since)) c.confirm-in-Some-try_next.ensures.moved

pub returns-in-None-clause-alone : goal.returns-in-None-clause-alone
returns-in-None-clause-alone t c =
    let u = c.sight.new.hand.me.0 in
    let x = c.try_next.new.hand.me.0 in
    disturbed_in c.args.hand.now.me.0.seen u.seen x.seen x.seen c.sight.ensures.looks.since c.in-None.ensures.alone (since_refl x.seen)
