use Rattle.std.proofs.Common.{ℕ, sym, subst, None}
use Rattle.optimistic.specs.Moves.{words_of}
use Rattle.optimistic.specs.tree.Trees.{IsTree}
use Rattle.optimistic.proofs.lemmas.words.Chains.{later_trans, looks_keeps}
use Rattle.optimistic.proofs.lemmas.forms.FormLemmas.{form_like}
use Rattle.optimistic.proofs.lemmas.tree.Reading.{looks_trans}
use Rattle.optimistic.proofs.lemmas.tree.Setting.{room_some, set_later}
use Rattle.optimistic.proofs.lemmas.tree.Holding.{held_looks, locked_looks, locked_shape, looks_same}
use Rattle.optimistic.proofs.lemmas.tree.Exchanging.{hangs_looks, owns_looks, hangs_some}
use Rattle.optimistic.proofs.lemmas.tree.Raising.{rises_some, may_lift, lifts_value}
use Rattle.optimistic.specs.declared.tree.set.Set.{Set}
use Rattle.optimistic.specs.tree.Sets.{Minds}
use Rattle.optimistic.proofs.lemmas.words.Moments.{since_trans}
use Rattle.optimistic.proofs.tree.get.Tree.lift_with.Goals as goal

pub let_two_go-requires-clause-above : goal.let_two_go-requires-clause-above
let_two_go-requires-clause-above c = locked_looks c.args.above c.args.hand.now.me.0 c.is_child-hangs.new.hand.me.0 c.is_child-hangs.ensures.looks c.requires.above

pub let_two_go-requires-clause-old : goal.let_two_go-requires-clause-old
let_two_go-requires-clause-old c = locked_looks c.args.old c.args.hand.now.me.0 c.is_child-hangs.new.hand.me.0 c.is_child-hangs.ensures.looks c.requires.old

pub own_leaf-requires-clause-old : goal.own_leaf-requires-clause-old
own_leaf-requires-clause-old c = locked_looks c.args.old c.args.hand.now.me.0 c.is_child-hangs.new.hand.me.0 c.is_child-hangs.ensures.looks c.requires.old

pub own_leaf-requires-clause-covers : goal.own_leaf-requires-clause-covers
own_leaf-requires-clause-covers c =
    (hangs_looks c.args.above c.args.old c.args.write.key c.args.hand.now.me.0 c.is_child-hangs.new.hand.me.0 c.requires.above c.requires.old c.is_child-hangs.ensures.looks (c.is_child-hangs.ensures.hangs c.if-not-hangs.false)).below

pub let_two_go-requires-in_default-clause-above : goal.let_two_go-requires-in_default-clause-above
let_two_go-requires-in_default-clause-above c = locked_looks c.args.above c.args.hand.now.me.0 c.own_leaf.new.hand.me.0 (looks_trans _ _ _ c.is_child-hangs.ensures.looks c.own_leaf.ensures.looks) c.requires.above

pub let_two_go-requires-in_default-clause-old : goal.let_two_go-requires-in_default-clause-old
let_two_go-requires-in_default-clause-old c = locked_looks c.args.old c.args.hand.now.me.0 c.own_leaf.new.hand.me.0 (looks_trans _ _ _ c.is_child-hangs.ensures.looks c.own_leaf.ensures.looks) c.requires.old

pub rising-requires-clause-old : goal.rising-requires-clause-old
rising-requires-clause-old c = locked_looks c.args.old c.args.hand.now.me.0 c.own_leaf.new.hand.me.0 (looks_trans _ _ _ c.is_child-hangs.ensures.looks c.own_leaf.ensures.looks) c.requires.old

pub let_two_go-requires-in_default-rising-clause-above : goal.let_two_go-requires-in_default-rising-clause-above
let_two_go-requires-in_default-rising-clause-above c =
    locked_looks c.args.above c.args.hand.now.me.0 c.rising.new.hand.me.0 (looks_trans _ _ _ (looks_trans _ _ _ c.is_child-hangs.ensures.looks c.own_leaf.ensures.looks) c.rising.ensures.looks) c.requires.above

pub let_two_go-requires-in_default-rising-clause-old : goal.let_two_go-requires-in_default-rising-clause-old
let_two_go-requires-in_default-rising-clause-old c =
    locked_looks c.args.old c.args.hand.now.me.0 c.rising.new.hand.me.0 (looks_trans _ _ _ (looks_trans _ _ _ c.is_child-hangs.ensures.looks c.own_leaf.ensures.looks) c.rising.ensures.looks) c.requires.old

pub hang-requires-clause-above : goal.hang-requires-clause-above
hang-requires-clause-above c =
    held_looks c.args.above c.args.hand.now.me.0 c.rising.new.hand.me.0 (looks_trans _ _ _ (looks_trans _ _ _ c.is_child-hangs.ensures.looks c.own_leaf.ensures.looks) c.rising.ensures.looks) c.requires.above.held

pub hang-requires-clause-old : goal.hang-requires-clause-old
hang-requires-clause-old c =
    held_looks c.args.old c.args.hand.now.me.0 c.rising.new.hand.me.0 (looks_trans _ _ _ (looks_trans _ _ _ c.is_child-hangs.ensures.looks c.own_leaf.ensures.looks) c.rising.ensures.looks) c.requires.old.held

pub hang-requires-clause-shape : goal.hang-requires-clause-shape
hang-requires-clause-shape c =
    let a = c.args.above in
    let v = c.args.hand.now.me.0 in
    let y = c.rising.new.hand.me.0 in
    let looks = looks_trans v c.own_leaf.new.hand.me.0 y (looks_trans _ _ _ c.is_child-hangs.ensures.looks c.own_leaf.ensures.looks) c.rising.ensures.looks in
    let p = c.requires.above.held in
    form_like a.at.form (words_of v a.at.node) (words_of y a.at.node) (looks_same a v y p looks) (room_some a.at.form p.place.some p.place.form)
    (locked_shape a c.args.write.key v y c.requires.above looks (c.is_child-hangs.ensures.hangs c.if-not-hangs.false).covers)

pub hang-requires-clause-inner : goal.hang-requires-clause-inner
hang-requires-clause-inner c = (c.is_child-hangs.ensures.hangs c.if-not-hangs.false).inner

pub hang-requires-clause-there : goal.hang-requires-clause-there
hang-requires-clause-there c =
    let a = c.args.above in
    let v = c.args.hand.now.me.0 in
    let y = c.rising.new.hand.me.0 in
    let looks = looks_trans v c.own_leaf.new.hand.me.0 y (looks_trans _ _ _ c.is_child-hangs.ensures.looks c.own_leaf.ensures.looks) c.rising.ensures.looks in
    hangs_some a.at c.args.old.at c.args.write.key y (hangs_looks a c.args.old c.args.write.key v y c.requires.above c.requires.old looks (c.is_child-hangs.ensures.hangs c.if-not-hangs.false))

pub hang-requires-clause-some : goal.hang-requires-clause-some
hang-requires-clause-some c = rises_some c.args.old.at c.args.write.key c.in-Some-rising.child.first c.in-Some-rising.child.second c.own_leaf.new.hand.me.0 c.in-Some-rising.ensures.rises

pub settle_lift-requires-clause-may : goal.settle_lift-requires-clause-may
settle_lift-requires-clause-may c =
    let a = c.args.above in
    let n = c.args.old in
    let key : ℕ = c.args.write.key in
    let v = c.args.hand.now.me.0 in
    let x = c.own_leaf.new.hand.me.0 in
    let y = c.rising.new.hand.me.0 in
    let w = c.hang.new.hand.me.0 in
    let looks = looks_trans v c.is_child-hangs.new.hand.me.0 x c.is_child-hangs.ensures.looks c.own_leaf.ensures.looks in
    let above = locked_looks a v x looks c.requires.above in
    let old = locked_looks n v x looks c.requires.old in
    let hangs = hangs_looks a n key v x c.requires.above c.requires.old looks (c.is_child-hangs.ensures.hangs c.if-not-hangs.false) in
    let held_old = held_looks n v c.is_child-hangs.new.hand.me.0 c.is_child-hangs.ensures.looks c.requires.old.held in
    let owns = owns_looks n key c.in-Some.before c.is_child-hangs.new.hand.me.0 x held_old c.own_leaf.ensures.looks c.in-Some.ensures.owns in
    let shape = locked_shape n key x y old c.rising.ensures.looks hangs.below in
    may_lift a n key c.in-Some-rising.child.first c.in-Some-rising.child.second c.in-Some.before x y w above old c.requires.apart hangs owns shape c.in-Some-rising.ensures.rises c.rising.ensures.looks c.hang.ensures.hung c.hang.ensures.held.0 c.hang.ensures.held.1

pub settle_lift-requires-clause-before : goal.settle_lift-requires-clause-before
settle_lift-requires-clause-before c =
    let a = c.args.above in
    let n = c.args.old in
    let key : ℕ = c.args.write.key in
    let v = c.args.hand.now.me.0 in
    let x = c.own_leaf.new.hand.me.0 in
    let y = c.rising.new.hand.me.0 in
    let w = c.hang.new.hand.me.0 in
    let looks = looks_trans v c.is_child-hangs.new.hand.me.0 x c.is_child-hangs.ensures.looks c.own_leaf.ensures.looks in
    let above = locked_looks a v x looks c.requires.above in
    let old = locked_looks n v x looks c.requires.old in
    let hangs = hangs_looks a n key v x c.requires.above c.requires.old looks (c.is_child-hangs.ensures.hangs c.if-not-hangs.false) in
    let held_old = held_looks n v c.is_child-hangs.new.hand.me.0 c.is_child-hangs.ensures.looks c.requires.old.held in
    let owns = owns_looks n key c.in-Some.before c.is_child-hangs.new.hand.me.0 x held_old c.own_leaf.ensures.looks c.in-Some.ensures.owns in
    let shape = locked_shape n key x y old c.rising.ensures.looks hangs.below in
    lifts_value a n key c.in-Some-rising.child.first c.in-Some-rising.child.second c.in-Some.before x y w above old c.requires.apart hangs owns shape c.in-Some-rising.ensures.rises c.rising.ensures.looks c.hang.ensures.hung c.hang.ensures.held.0 c.hang.ensures.held.1

pub returns-clause-set : goal.returns-clause-set
returns-clause-set c =
    let v = c.args.hand.now.me.0 in
    let y = c.rising.new.hand.me.0 in
    let w = c.hang.new.hand.me.0 in
    let looks = looks_trans v c.own_leaf.new.hand.me.0 y (looks_trans _ _ _ c.is_child-hangs.ensures.looks c.own_leaf.ensures.looks) c.rising.ensures.looks in
    set_later c.args.write.key None c.settle_lift.result v w c.settle_lift.new.hand.me.0 (later_trans v y w (looks_keeps IsTree v y looks).0 c.hang.ensures.hung.goes.later) c.settle_lift.ensures.set

pub let_two_go-requires-then-not-allowed-clause-above : goal.let_two_go-requires-then-not-allowed-clause-above
let_two_go-requires-then-not-allowed-clause-above c = locked_looks c.args.above c.args.hand.now.me.0 c.own_leaf.new.hand.me.0 (looks_trans _ _ _ c.is_child-hangs.ensures.looks c.own_leaf.ensures.looks) c.requires.above

pub let_two_go-requires-then-not-allowed-clause-old : goal.let_two_go-requires-then-not-allowed-clause-old
let_two_go-requires-then-not-allowed-clause-old c = locked_looks c.args.old c.args.hand.now.me.0 c.own_leaf.new.hand.me.0 (looks_trans _ _ _ c.is_child-hangs.ensures.looks c.own_leaf.ensures.looks) c.requires.old

pub returns-clause-minds : goal.returns-clause-minds
returns-clause-minds c = subst (λ (s : Set). Minds c.args.write s) (sym c.settle_lift.ensures.done) c.if-not-allowed.ensures

pub returns-then-not-hangs-clause-since : goal.returns-then-not-hangs-clause-since
returns-then-not-hangs-clause-since c = since_trans c.args.hand.now.me.0.seen c.is_child-hangs.new.hand.me.0.seen c.let_two_go.new.hand.me.0.seen c.is_child-hangs.ensures.looks.since c.let_two_go.ensures.since

pub returns-in_default-clause-since : goal.returns-in_default-clause-since
returns-in_default-clause-since c =
    let v = c.args.hand.now.me.0 in
    let x = c.own_leaf.new.hand.me.0 in
    since_trans v.seen x.seen c.let_two_go-in_default.new.hand.me.0.seen (looks_trans v c.is_child-hangs.new.hand.me.0 x c.is_child-hangs.ensures.looks c.own_leaf.ensures.looks).since c.let_two_go-in_default.ensures.since

pub returns-then-not-allowed-clause-since : goal.returns-then-not-allowed-clause-since
returns-then-not-allowed-clause-since c =
    let v = c.args.hand.now.me.0 in
    let x = c.own_leaf.new.hand.me.0 in
    since_trans v.seen x.seen c.let_two_go-then-not-allowed.new.hand.me.0.seen (looks_trans v c.is_child-hangs.new.hand.me.0 x c.is_child-hangs.ensures.looks c.own_leaf.ensures.looks).since c.let_two_go-then-not-allowed.ensures.since

pub returns-in_default-rising-clause-since : goal.returns-in_default-rising-clause-since
returns-in_default-rising-clause-since c =
    let v = c.args.hand.now.me.0 in
    let x = c.own_leaf.new.hand.me.0 in
    let y = c.rising.new.hand.me.0 in
    since_trans v.seen y.seen c.let_two_go-in_default-rising.new.hand.me.0.seen (looks_trans v x y (looks_trans v c.is_child-hangs.new.hand.me.0 x c.is_child-hangs.ensures.looks c.own_leaf.ensures.looks) c.rising.ensures.looks).since c.let_two_go-in_default-rising.ensures.since

pub returns-clause-since : goal.returns-clause-since
returns-clause-since c =
    let v = c.args.hand.now.me.0 in
    let x = c.own_leaf.new.hand.me.0 in
    let y = c.rising.new.hand.me.0 in
    let w = c.hang.new.hand.me.0 in
    let z = c.settle_lift.new.hand.me.0 in
    since_trans v.seen y.seen z.seen (looks_trans v x y (looks_trans v c.is_child-hangs.new.hand.me.0 x c.is_child-hangs.ensures.looks c.own_leaf.ensures.looks) c.rising.ensures.looks).since
    (since_trans y.seen w.seen z.seen c.hang.ensures.hung.goes.since c.settle_lift.ensures.since)
