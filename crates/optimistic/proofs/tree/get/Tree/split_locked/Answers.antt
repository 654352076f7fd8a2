use Rattle.std.proofs.Common.{ℕ, Some, ◌∙◌, subst, arith}
use Rattle.optimistic.specs.tree.Reads.{Found}
use Rattle.optimistic.specs.tree.Trees.{IsTree}
use Rattle.optimistic.proofs.lemmas.words.Chains.{looks_keeps}
use Rattle.optimistic.proofs.lemmas.words.Moments.{width_some, width_more, since_trans}
use Rattle.optimistic.proofs.lemmas.tree.Blank.{free_since}
use Rattle.optimistic.proofs.lemmas.tree.Reading.{looks_trans}
use Rattle.optimistic.proofs.lemmas.tree.Sets.{looks_drafted}
use Rattle.optimistic.proofs.lemmas.tree.Setting.{held_word}
use Rattle.optimistic.proofs.lemmas.tree.Splitting.{outcome_later, shape_read, covers_read, first_read, second_read}
use Rattle.optimistic.proofs.tree.get.Tree.split_locked.Goals as goal

pub read-found-requires-clause-inside : goal.read-found-requires-clause-inside
read-found-requires-clause-inside c = (omega arith, omega (arith, width_more c.args.at.form c.requires.at.some c.requires.at.form))

pub release-requires-clause-some : goal.release-requires-clause-some
release-requires-clause-some c = width_some c.args.at.form c.requires.at.some c.requires.at.form

pub release-requires-clause-drafted : goal.release-requires-clause-drafted
release-requires-clause-drafted c =
    let r = c.requires.at in
    looks_drafted c.args.at.node c.args.at.form c.args.version c.args.hand.now.me.0 c.read-found.new.hand.me.0 r.at (width_some c.args.at.form r.some r.form) c.read-found.ensures.at c.requires.drafted c.read-found.ensures.looks

pub returns-then-not-fits-clause-since : goal.returns-then-not-fits-clause-since
returns-then-not-fits-clause-since c = since_trans c.args.hand.now.me.0.seen c.read-found.new.hand.me.0.seen c.release.new.hand.me.0.seen c.read-found.ensures.looks.since c.release.ensures.released.since

pub returns-then-not-fits-clause-names : goal.returns-then-not-fits-clause-names
returns-then-not-fits-clause-names c = free_since c.args.free.now c.read-found.new.hand.me.0 c.release.new.hand.me.0 (free_since c.args.free.now c.args.hand.now.me.0 c.read-found.new.hand.me.0 c.requires.names c.read-found.ensures.looks.since) c.release.ensures.released.since

pub split_by-requires-clause-drafted : goal.split_by-requires-clause-drafted
split_by-requires-clause-drafted c =
    let r = c.requires.at in
    let v = c.args.hand.now.me.0 in
    let b = c.child-child.new.hand.me.0 in
    looks_drafted c.args.at.node c.args.at.form c.args.version v b r.at (width_some c.args.at.form r.some r.form) c.child-child.ensures.at c.requires.drafted
    (looks_trans v c.read-found.new.hand.me.0 b c.read-found.ensures.looks c.child-child.ensures.looks)

pub split_by-requires-clause-shape : goal.split_by-requires-clause-shape
split_by-requires-clause-shape c =
    let r = c.requires.at in
    let n = c.args.at.node in
    let f = c.args.at.form in
    let v = c.args.hand.now.me.0 in
    let a = c.read-found.new.hand.me.0 in
    let draft = looks_drafted n f c.args.version v a r.at (width_some f r.some r.form) c.read-found.ensures.at c.requires.drafted c.read-found.ensures.looks in
    let is = held_word n f 1 c.read-found.result v a r.at (omega (arith, width_more f r.some r.form)) c.requires.drafted.0 c.read-found.ensures.looks c.read-found.ensures.steady ∙ (c.has_children-fits.ensures c.if-not-fits.false).0 in
    let found = subst (λ (z : ℕ). Found n f c.child-child.result.first c.child-child.result.second c.args.key z a c.child-child.new.hand.me.0) c.key_byte-byte.ensures.byte c.child-child.ensures.found in
    shape_read n f c.args.at.level c.args.key c.args.version c.child-child.result.first c.child-child.result.second a c.child-child.new.hand.me.0 r.some r.form r.level c.read-found.ensures.at draft is c.child-child.ensures.looks found

pub split_by-requires-clause-covers : goal.split_by-requires-clause-covers
split_by-requires-clause-covers c =
    let r = c.requires.at in
    let n = c.args.at.node in
    let f = c.args.at.form in
    let v = c.args.hand.now.me.0 in
    let a = c.read-found.new.hand.me.0 in
    let draft = looks_drafted n f c.args.version v a r.at (width_some f r.some r.form) c.read-found.ensures.at c.requires.drafted c.read-found.ensures.looks in
    let is = held_word n f 1 c.read-found.result v a r.at (omega (arith, width_more f r.some r.form)) c.requires.drafted.0 c.read-found.ensures.looks c.read-found.ensures.steady ∙ (c.has_children-fits.ensures c.if-not-fits.false).0 in
    let found = subst (λ (z : ℕ). Found n f c.child-child.result.first c.child-child.result.second c.args.key z a c.child-child.new.hand.me.0) c.key_byte-byte.ensures.byte c.child-child.ensures.found in
    covers_read n f c.args.at.level c.args.key c.args.version c.child-child.result.first c.child-child.result.second a c.child-child.new.hand.me.0 r.some r.form r.level c.read-found.ensures.at draft is c.child-child.ensures.looks found

pub split_by-requires-clause-first : goal.split_by-requires-clause-first
split_by-requires-clause-first c =
    let r = c.requires.at in
    let n = c.args.at.node in
    let f = c.args.at.form in
    let v = c.args.hand.now.me.0 in
    let a = c.read-found.new.hand.me.0 in
    let draft = looks_drafted n f c.args.version v a r.at (width_some f r.some r.form) c.read-found.ensures.at c.requires.drafted c.read-found.ensures.looks in
    let is = held_word n f 1 c.read-found.result v a r.at (omega (arith, width_more f r.some r.form)) c.requires.drafted.0 c.read-found.ensures.looks c.read-found.ensures.steady ∙ (c.has_children-fits.ensures c.if-not-fits.false).0 in
    let found = subst (λ (z : ℕ). Found n f c.child-child.result.first c.child-child.result.second c.args.key z a c.child-child.new.hand.me.0) c.key_byte-byte.ensures.byte c.child-child.ensures.found in
    first_read n f c.args.at.level c.args.key c.args.version c.child-child.result.first c.child-child.result.second a c.child-child.new.hand.me.0 r.some r.form r.level c.read-found.ensures.at draft is c.child-child.ensures.looks found

pub split_by-requires-clause-second : goal.split_by-requires-clause-second
split_by-requires-clause-second c =
    let r = c.requires.at in
    let n = c.args.at.node in
    let f = c.args.at.form in
    let v = c.args.hand.now.me.0 in
    let a = c.read-found.new.hand.me.0 in
    let draft = looks_drafted n f c.args.version v a r.at (width_some f r.some r.form) c.read-found.ensures.at c.requires.drafted c.read-found.ensures.looks in
    let is = held_word n f 1 c.read-found.result v a r.at (omega (arith, width_more f r.some r.form)) c.requires.drafted.0 c.read-found.ensures.looks c.read-found.ensures.steady ∙ (c.has_children-fits.ensures c.if-not-fits.false).0 in
    let found = subst (λ (z : ℕ). Found n f c.child-child.result.first c.child-child.result.second c.args.key z a c.child-child.new.hand.me.0) c.key_byte-byte.ensures.byte c.child-child.ensures.found in
    second_read n f c.args.at.level c.args.key c.args.version c.child-child.result.first c.child-child.result.second a c.child-child.new.hand.me.0 r.some r.form r.level c.read-found.ensures.at draft is c.child-child.ensures.looks found c.in-Some.ensures.some

pub split_by-requires-clause-names : goal.split_by-requires-clause-names
split_by-requires-clause-names c =
    let a = c.read-found.new.hand.me.0 in
    free_since c.args.free.now a c.child-child.new.hand.me.0 (free_since c.args.free.now c.args.hand.now.me.0 a c.requires.names c.read-found.ensures.looks.since) c.child-child.ensures.looks.since

pub release-requires-in-None-clause-some : goal.release-requires-in-None-clause-some
release-requires-in-None-clause-some c = width_some c.args.at.form c.requires.at.some c.requires.at.form

pub release-requires-in-None-clause-drafted : goal.release-requires-in-None-clause-drafted
release-requires-in-None-clause-drafted c =
    let r = c.requires.at in
    let v = c.args.hand.now.me.0 in
    let b = c.child-child.new.hand.me.0 in
    looks_drafted c.args.at.node c.args.at.form c.args.version v b r.at (width_some c.args.at.form r.some r.form) c.child-child.ensures.at c.requires.drafted
    (looks_trans v c.read-found.new.hand.me.0 b c.read-found.ensures.looks c.child-child.ensures.looks)

pub returns-in-Some-clause-since : goal.returns-in-Some-clause-since
returns-in-Some-clause-since c =
    let v = c.args.hand.now.me.0 in
    let b = c.child-child.new.hand.me.0 in
    since_trans v.seen b.seen c.split_by.new.hand.me.0.seen (looks_trans v c.read-found.new.hand.me.0 b c.read-found.ensures.looks c.child-child.ensures.looks).since c.split_by.ensures.since

pub returns-in-Some-clause-set : goal.returns-in-Some-clause-set
returns-in-Some-clause-set c =
    let v = c.args.hand.now.me.0 in
    let b = c.child-child.new.hand.me.0 in
    outcome_later c.split_by.result c.args.key (Some c.args.value) v b c.split_by.new.hand.me.0 (looks_keeps IsTree v b (looks_trans v c.read-found.new.hand.me.0 b c.read-found.ensures.looks c.child-child.ensures.looks)).0 c.split_by.ensures.set

pub returns-in-None-clause-since : goal.returns-in-None-clause-since
returns-in-None-clause-since c =
    let v = c.args.hand.now.me.0 in
    let b = c.child-child.new.hand.me.0 in
    since_trans v.seen b.seen c.release-in-None.new.hand.me.0.seen (looks_trans v c.read-found.new.hand.me.0 b c.read-found.ensures.looks c.child-child.ensures.looks).since c.release-in-None.ensures.released.since

pub returns-in-None-clause-names : goal.returns-in-None-clause-names
returns-in-None-clause-names c =
    let v = c.args.hand.now.me.0 in
    let b = c.child-child.new.hand.me.0 in
    free_since c.args.free.now b c.release-in-None.new.hand.me.0
    (free_since c.args.free.now v b c.requires.names (looks_trans v c.read-found.new.hand.me.0 b c.read-found.ensures.looks c.child-child.ensures.looks).since) c.release-in-None.ensures.released.since
