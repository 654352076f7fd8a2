use Rattle.std.proofs.Common.{sym, ◌∙◌, subst, arith}
use Rattle.optimistic.specs.Layout.{byte_at}
use Rattle.optimistic.specs.forms.Children.{Same}
use Rattle.optimistic.specs.Moves.{words_of}
use Rattle.optimistic.specs.tree.Trees.{IsTree}
use Rattle.optimistic.proofs.lemmas.words.Chains.{later_trans, looks_keeps}
use Rattle.optimistic.proofs.lemmas.words.Moments.{since_trans}
use Rattle.optimistic.proofs.lemmas.forms.FormLemmas.{form_like, first_like}
use Rattle.optimistic.proofs.lemmas.tree.Reading.{looks_trans}
use Rattle.optimistic.proofs.lemmas.tree.Rebuilding.{may_rebuild}
use Rattle.optimistic.proofs.lemmas.tree.Setting.{room_some, set_later}
use Rattle.optimistic.proofs.lemmas.tree.Holding.{inside, second_word, held_looks, held_stays, held_changed, locked_looks, locked_stays, locked_shape, looks_same}
use Rattle.optimistic.proofs.lemmas.tree.Exchanging.{ready_looks, hangs_looks, owns_looks, hangs_some, rebuilt, had_before}
use Rattle.optimistic.specs.declared.tree.set.Set.{Set}
use Rattle.optimistic.specs.tree.Sets.{Minds}
use Rattle.optimistic.proofs.tree.get.Tree.replace_with.Goals as goal

pub give_back-requires-clause-ready : goal.give_back-requires-clause-ready
give_back-requires-clause-ready c = ready_looks c.args.nodes c.args.hand.now.me.0 c.is_child-hangs.new.hand.me.0 c.is_child-hangs.ensures.looks c.requires.ready

pub own_leaf-requires-clause-old : goal.own_leaf-requires-clause-old
own_leaf-requires-clause-old c = locked_looks c.args.nodes.old c.args.hand.now.me.0 c.is_child-hangs.new.hand.me.0 c.is_child-hangs.ensures.looks c.requires.ready.old

pub own_leaf-requires-clause-covers : goal.own_leaf-requires-clause-covers
own_leaf-requires-clause-covers c =
    let e = c.args.nodes in
    (hangs_looks e.above e.old e.write.key c.args.hand.now.me.0 c.is_child-hangs.new.hand.me.0 c.requires.ready.above c.requires.ready.old c.is_child-hangs.ensures.looks (c.is_child-hangs.ensures.hangs c.if-not-hangs.false)).below

pub give_back-requires-in_default-clause-ready : goal.give_back-requires-in_default-clause-ready
give_back-requires-in_default-clause-ready c = ready_looks c.args.nodes c.args.hand.now.me.0 c.own_leaf.new.hand.me.0 (looks_trans _ _ _ c.is_child-hangs.ensures.looks c.own_leaf.ensures.looks) c.requires.ready

pub copy-copied-requires-clause-old : goal.copy-copied-requires-clause-old
copy-copied-requires-clause-old c = locked_looks c.args.nodes.old c.args.hand.now.me.0 c.own_leaf.new.hand.me.0 (looks_trans _ _ _ c.is_child-hangs.ensures.looks c.own_leaf.ensures.looks) c.requires.ready.old

pub copy-copied-requires-clause-new : goal.copy-copied-requires-clause-new
copy-copied-requires-clause-new c = locked_looks c.args.nodes.new c.args.hand.now.me.0 c.own_leaf.new.hand.me.0 (looks_trans _ _ _ c.is_child-hangs.ensures.looks c.own_leaf.ensures.looks) c.requires.ready.new

pub copy-copied-requires-clause-shape : goal.copy-copied-requires-clause-shape
copy-copied-requires-clause-shape c =
    let e = c.args.nodes in
    let n = e.old in
    let v = c.args.hand.now.me.0 in
    let x = c.own_leaf.new.hand.me.0 in
    let looks = looks_trans v c.is_child-hangs.new.hand.me.0 x c.is_child-hangs.ensures.looks c.own_leaf.ensures.looks in
    let p = c.requires.ready.old.held in
    form_like n.at.form (words_of v n.at.node) (words_of x n.at.node) (looks_same n v x p looks) (room_some n.at.form p.place.some p.place.form)
    (locked_shape n e.write.key v x c.requires.ready.old looks (c.is_child-hangs.ensures.hangs c.if-not-hangs.false).below)

pub abandon-requires-clause-above : goal.abandon-requires-clause-above
abandon-requires-clause-above c =
    let e = c.args.nodes in
    let x = c.own_leaf.new.hand.me.0 in
    let r = ready_looks e c.args.hand.now.me.0 x (looks_trans _ _ _ c.is_child-hangs.ensures.looks c.own_leaf.ensures.looks) c.requires.ready in
    locked_stays e.above x c.copy-copied.new.hand.me.0 e.new.at.node c.copy-copied.ensures.stays r.am r.above

pub abandon-requires-clause-old : goal.abandon-requires-clause-old
abandon-requires-clause-old c =
    let e = c.args.nodes in
    let x = c.own_leaf.new.hand.me.0 in
    let r = ready_looks e c.args.hand.now.me.0 x (looks_trans _ _ _ c.is_child-hangs.ensures.looks c.own_leaf.ensures.looks) c.requires.ready in
    locked_stays e.old x c.copy-copied.new.hand.me.0 e.new.at.node c.copy-copied.ensures.stays r.nm r.old

pub abandon-requires-clause-new : goal.abandon-requires-clause-new
abandon-requires-clause-new c =
    let e = c.args.nodes in
    let x = c.own_leaf.new.hand.me.0 in
    let r = ready_looks e c.args.hand.now.me.0 x (looks_trans _ _ _ c.is_child-hangs.ensures.looks c.own_leaf.ensures.looks) c.requires.ready in
    held_changed e.new x c.copy-copied.new.hand.me.0 c.copy-copied.ensures.stays r.new.held

pub abandon-requires-clause-blank : goal.abandon-requires-clause-blank
abandon-requires-clause-blank c =
    let e = c.args.nodes in
    let x = c.own_leaf.new.hand.me.0 in
    let r = ready_looks e c.args.hand.now.me.0 x (looks_trans _ _ _ c.is_child-hangs.ensures.looks c.own_leaf.ensures.looks) c.requires.ready in
    let wide = second_word e.new.at x r.new.held.place in
    let s = c.copy-copied.ensures.stays in
    (s.low r.new.held.mine 1 (omega arith) (inside e.new.at x 1 r.new.held.place wide) ∙ (r.new.settled 1 (omega arith) wide ∙ r.blank), s.calm e.new.at.node r.new.held.mine 1 ∙ r.blank)

pub exchange-requires-clause-above : goal.exchange-requires-clause-above
exchange-requires-clause-above c =
    let e = c.args.nodes in
    let x = c.own_leaf.new.hand.me.0 in
    let r = ready_looks e c.args.hand.now.me.0 x (looks_trans _ _ _ c.is_child-hangs.ensures.looks c.own_leaf.ensures.looks) c.requires.ready in
    held_stays e.above x c.copy-copied.new.hand.me.0 e.new.at.node c.copy-copied.ensures.stays r.am r.above.held

pub exchange-requires-clause-old : goal.exchange-requires-clause-old
exchange-requires-clause-old c =
    let e = c.args.nodes in
    let x = c.own_leaf.new.hand.me.0 in
    let r = ready_looks e c.args.hand.now.me.0 x (looks_trans _ _ _ c.is_child-hangs.ensures.looks c.own_leaf.ensures.looks) c.requires.ready in
    held_stays e.old x c.copy-copied.new.hand.me.0 e.new.at.node c.copy-copied.ensures.stays r.nm r.old.held

pub exchange-requires-clause-new : goal.exchange-requires-clause-new
exchange-requires-clause-new c =
    let e = c.args.nodes in
    let x = c.own_leaf.new.hand.me.0 in
    let r = ready_looks e c.args.hand.now.me.0 x (looks_trans _ _ _ c.is_child-hangs.ensures.looks c.own_leaf.ensures.looks) c.requires.ready in
    held_changed e.new x c.copy-copied.new.hand.me.0 c.copy-copied.ensures.stays r.new.held

pub exchange-requires-clause-shape : goal.exchange-requires-clause-shape
exchange-requires-clause-shape c =
    let e = c.args.nodes in
    let a = e.above in
    let v = c.args.hand.now.me.0 in
    let x = c.own_leaf.new.hand.me.0 in
    let y = c.copy-copied.new.hand.me.0 in
    let looks = looks_trans v c.is_child-hangs.new.hand.me.0 x c.is_child-hangs.ensures.looks c.own_leaf.ensures.looks in
    let r = ready_looks e v x looks c.requires.ready in
    let p = c.requires.ready.above.held in
    let same : Same a.at.form (words_of y a.at.node) (words_of v a.at.node) = λ j s l. c.copy-copied.ensures.stays.words a.at.node r.above.held.mine r.am j (inside a.at x j r.above.held.place l) ∙ looks_same a v x p looks j s l in
    form_like a.at.form (words_of v a.at.node) (words_of y a.at.node) same (room_some a.at.form p.place.some p.place.form)
    (locked_shape a e.write.key v x c.requires.ready.above looks (c.is_child-hangs.ensures.hangs c.if-not-hangs.false).covers)

pub exchange-requires-clause-there : goal.exchange-requires-clause-there
exchange-requires-clause-there c =
    let e = c.args.nodes in
    let a = e.above in
    let v = c.args.hand.now.me.0 in
    let x = c.own_leaf.new.hand.me.0 in
    let y = c.copy-copied.new.hand.me.0 in
    let looks = looks_trans v c.is_child-hangs.new.hand.me.0 x c.is_child-hangs.ensures.looks c.own_leaf.ensures.looks in
    let r = ready_looks e v x looks c.requires.ready in
    let same : Same a.at.form (words_of y a.at.node) (words_of x a.at.node) = λ j s l. c.copy-copied.ensures.stays.words a.at.node r.above.held.mine r.am j (inside a.at x j r.above.held.place l) in
    λ z. hangs_some a.at e.old.at e.write.key x (hangs_looks a e.old e.write.key v x c.requires.ready.above c.requires.ready.old looks (c.is_child-hangs.ensures.hangs c.if-not-hangs.false))
    (sym (first_like a.at.form (words_of x a.at.node) (words_of y a.at.node) same e.write.key (byte_at e.write.key a.at.level)) ∙ z)

pub settle-requires-clause-may : goal.settle-requires-clause-may
settle-requires-clause-may c =
    let e = c.args.nodes in
    let v = c.args.hand.now.me.0 in
    let x = c.own_leaf.new.hand.me.0 in
    let y = c.copy-copied.new.hand.me.0 in
    let w = c.exchange.new.hand.me.0 in
    let looks = looks_trans v c.is_child-hangs.new.hand.me.0 x c.is_child-hangs.ensures.looks c.own_leaf.ensures.looks in
    let r = ready_looks e v x looks c.requires.ready in
    let hangs = hangs_looks e.above e.old e.write.key v x c.requires.ready.above c.requires.ready.old looks (c.is_child-hangs.ensures.hangs c.if-not-hangs.false) in
    let held_old = held_looks e.old v c.is_child-hangs.new.hand.me.0 c.is_child-hangs.ensures.looks c.requires.ready.old.held in
    let owns = owns_looks e.old e.write.key c.in-Some.before c.is_child-hangs.new.hand.me.0 x held_old c.own_leaf.ensures.looks c.in-Some.ensures.owns in
    let h = c.exchange.ensures.held in
    may_rebuild e.above.at.node e.old.at.node e.new.at.node e.above.at.form e.old.at.form e.new.at.form e.write.key e.old.at.level c.args.nodes.write.value x w
    (rebuilt e c.args.nodes.write.value c.in-Some.before x y w r hangs owns c.copy-copied.ensures.stays (c.copy-copied.ensures.copies c.if-not-copied.false) c.exchange.ensures.exchanged h.0 h.1 h.2)

pub settle-requires-clause-before : goal.settle-requires-clause-before
settle-requires-clause-before c =
    let e = c.args.nodes in
    let v = c.args.hand.now.me.0 in
    let x = c.own_leaf.new.hand.me.0 in
    let y = c.copy-copied.new.hand.me.0 in
    let w = c.exchange.new.hand.me.0 in
    let looks = looks_trans v c.is_child-hangs.new.hand.me.0 x c.is_child-hangs.ensures.looks c.own_leaf.ensures.looks in
    let r = ready_looks e v x looks c.requires.ready in
    let hangs = hangs_looks e.above e.old e.write.key v x c.requires.ready.above c.requires.ready.old looks (c.is_child-hangs.ensures.hangs c.if-not-hangs.false) in
    let held_old = held_looks e.old v c.is_child-hangs.new.hand.me.0 c.is_child-hangs.ensures.looks c.requires.ready.old.held in
    let owns = owns_looks e.old e.write.key c.in-Some.before c.is_child-hangs.new.hand.me.0 x held_old c.own_leaf.ensures.looks c.in-Some.ensures.owns in
    had_before e c.args.nodes.write.value c.in-Some.before x y w r hangs owns c.copy-copied.ensures.stays (c.copy-copied.ensures.copies c.if-not-copied.false) c.exchange.ensures.exchanged c.exchange.ensures.held.1.mine

pub returns-clause-set : goal.returns-clause-set
returns-clause-set c =
    let e = c.args.nodes in
    let v = c.args.hand.now.me.0 in
    let x = c.own_leaf.new.hand.me.0 in
    let y = c.copy-copied.new.hand.me.0 in
    let w = c.exchange.new.hand.me.0 in
    let looks = looks_trans v c.is_child-hangs.new.hand.me.0 x c.is_child-hangs.ensures.looks c.own_leaf.ensures.looks in
    set_later e.write.key c.args.nodes.write.value c.settle.result v w c.settle.new.hand.me.0
    (later_trans v x w (looks_keeps IsTree v x looks).0 (later_trans x y w c.copy-copied.ensures.stays.later c.exchange.ensures.exchanged.goes.later)) c.settle.ensures.set

pub give_back-requires-then-not-allowed-clause-ready : goal.give_back-requires-then-not-allowed-clause-ready
give_back-requires-then-not-allowed-clause-ready c = ready_looks c.args.nodes c.args.hand.now.me.0 c.own_leaf.new.hand.me.0 (looks_trans _ _ _ c.is_child-hangs.ensures.looks c.own_leaf.ensures.looks) c.requires.ready

pub returns-then-not-hangs-clause-since : goal.returns-then-not-hangs-clause-since
returns-then-not-hangs-clause-since c = since_trans c.args.hand.now.me.0.seen c.is_child-hangs.new.hand.me.0.seen c.give_back.new.hand.me.0.seen c.is_child-hangs.ensures.looks.since c.give_back.ensures.since

pub returns-in_default-clause-since : goal.returns-in_default-clause-since
returns-in_default-clause-since c =
    let v = c.args.hand.now.me.0 in
    let u = c.is_child-hangs.new.hand.me.0 in
    let x = c.own_leaf.new.hand.me.0 in
    since_trans v.seen x.seen c.give_back-in_default.new.hand.me.0.seen (since_trans v.seen u.seen x.seen c.is_child-hangs.ensures.looks.since c.own_leaf.ensures.looks.since) c.give_back-in_default.ensures.since

pub returns-then-not-allowed-clause-since : goal.returns-then-not-allowed-clause-since
returns-then-not-allowed-clause-since c =
    let v = c.args.hand.now.me.0 in
    let u = c.is_child-hangs.new.hand.me.0 in
    let x = c.own_leaf.new.hand.me.0 in
    since_trans v.seen x.seen c.give_back-then-not-allowed.new.hand.me.0.seen (since_trans v.seen u.seen x.seen c.is_child-hangs.ensures.looks.since c.own_leaf.ensures.looks.since) c.give_back-then-not-allowed.ensures.since

pub returns-then-not-copied-clause-since : goal.returns-then-not-copied-clause-since
returns-then-not-copied-clause-since c =
    let v = c.args.hand.now.me.0 in
    let u = c.is_child-hangs.new.hand.me.0 in
    let x = c.own_leaf.new.hand.me.0 in
    let y = c.copy-copied.new.hand.me.0 in
    since_trans v.seen x.seen c.abandon.new.hand.me.0.seen (since_trans v.seen u.seen x.seen c.is_child-hangs.ensures.looks.since c.own_leaf.ensures.looks.since)
    (since_trans x.seen y.seen c.abandon.new.hand.me.0.seen c.copy-copied.ensures.stays.since c.abandon.ensures.since)

pub returns-clause-since : goal.returns-clause-since
returns-clause-since c =
    let v = c.args.hand.now.me.0 in
    let u = c.is_child-hangs.new.hand.me.0 in
    let x = c.own_leaf.new.hand.me.0 in
    let y = c.copy-copied.new.hand.me.0 in
    let w = c.exchange.new.hand.me.0 in
    let z = c.settle.new.hand.me.0 in
    since_trans v.seen x.seen z.seen (since_trans v.seen u.seen x.seen c.is_child-hangs.ensures.looks.since c.own_leaf.ensures.looks.since)
    (since_trans x.seen y.seen z.seen c.copy-copied.ensures.stays.since (since_trans y.seen w.seen z.seen c.exchange.ensures.exchanged.goes.since c.settle.ensures.since))

pub returns-clause-minds : goal.returns-clause-minds
returns-clause-minds c = subst (λ (s : Set). Minds c.args.nodes.write s) (sym c.settle.ensures.done) c.if-not-allowed.ensures
