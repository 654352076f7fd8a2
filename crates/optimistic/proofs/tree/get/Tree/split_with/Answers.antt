use Rattle.std.proofs.Common.{ℕ, ◌<◌, None, sym, ◌∙◌, subst}
use Rattle.optimistic.specs.Layout.{width, byte_at}
use Rattle.optimistic.specs.Moves.{words_of}
use Rattle.optimistic.specs.tree.Trees.{IsTree}
use Rattle.optimistic.proofs.lemmas.words.Chains.{later_trans, releases_keeps}
use Rattle.optimistic.proofs.lemmas.words.Moments.{width_some, form_since, since_trans}
use Rattle.optimistic.proofs.lemmas.forms.FormLemmas.{first_like, form_like}
use Rattle.optimistic.proofs.lemmas.tree.Setting.{room_some}
use Rattle.optimistic.proofs.lemmas.tree.Splitting.{four_is, settled_drafted, split_replaces, both_gone, at_m_y, own_m_y, version_n, version_m, may_let_go, had_none}
use Rattle.optimistic.proofs.tree.get.Tree.split_with.Goals as goal

pub hang_branch-requires-clause-at : goal.hang_branch-requires-clause-at
hang_branch-requires-clause-at c = let r = c.requires.at in
    record { at = form_since c.args.at.node c.args.at.form c.args.hand.now.me.0 c.fill_branch.new.hand.me.0 (width_some c.args.at.form r.some r.form) r.at c.fill_branch.ensures.keeps.since; some = r.some; form = r.form; level = r.level }

pub hang_branch-requires-clause-shape : goal.hang_branch-requires-clause-shape
hang_branch-requires-clause-shape c =
    let r = c.requires.at in
    let n = c.args.at.node in
    let f = c.args.at.form in
    let g = four_is c.args.branch.form c.args.branch.level c.requires.branch.form_is in
    form_like f (words_of c.args.hand.now.me.0 n) (words_of c.fill_branch.new.hand.me.0 n)
    (λ j _ l. c.fill_branch.ensures.keeps.words n c.requires.drafted.0 c.requires.apart j (subst (λ (z : ℕ). j < width z) (sym r.at.is) l)) (room_some f r.some r.form) c.requires.shape

pub hang_branch-requires-clause-there : goal.hang_branch-requires-clause-there
hang_branch-requires-clause-there c z =
    let r = c.requires.at in
    let n = c.args.at.node in
    let f = c.args.at.form in
    c.requires.branch.some (sym c.requires.first ∙ (sym (first_like f (words_of c.args.hand.now.me.0 n) (words_of c.fill_branch.new.hand.me.0 n)
    (λ j _ l. c.fill_branch.ensures.keeps.words n c.requires.drafted.0 c.requires.apart j (subst (λ (s : ℕ). j < width s) (sym r.at.is) l)) c.args.key (byte_at c.args.key c.args.at.level)) ∙ z))

pub unlock-requires-clause-some : goal.unlock-requires-clause-some
unlock-requires-clause-some c = width_some c.args.at.form c.requires.at.some c.requires.at.form

pub unlock-requires-clause-version : goal.unlock-requires-clause-version
unlock-requires-clause-version c =
    let r = c.requires.at in
    let g = four_is c.args.branch.form c.args.branch.level c.requires.branch.form_is in (
      version_n c.args.at.node c.args.new.node c.args.at.form c.args.branch.form c.args.version c.args.new.version c.args.hand.now.me.0 c.fill_branch.new.hand.me.0 c.hang_branch.new.hand.me.0 r.some r.form g.0 g.1 c.requires.apart r.at c.requires.new.at c.requires.drafted
          c.requires.new.drafted c.fill_branch.ensures.keeps c.hang_branch.ensures.stays,
      c.requires.version,
    )

pub unlock-requires-clause-may : goal.unlock-requires-clause-may
unlock-requires-clause-may c =
    let r = c.requires.at in
    let g = four_is c.args.branch.form c.args.branch.level c.requires.branch.form_is in
    may_let_go c.args.at.node c.args.new.node c.args.at.form c.args.branch.form c.args.version c.args.new.version c.args.hand.now.me.0 c.fill_branch.new.hand.me.0 c.hang_branch.new.hand.me.0 r.some r.form g.0 g.1 c.requires.apart r.at c.requires.new.at c.requires.drafted
    c.requires.new.drafted c.fill_branch.ensures.keeps c.hang_branch.ensures.stays c.args.at.level c.args.branch.level c.args.branch.byte c.args.child.first c.args.child.second c.args.key c.args.value c.requires.inner r.level c.requires.new.blank c.requires.covers
    c.requires.first c.requires.second c.requires.branch c.fill_branch.ensures.covers c.fill_branch.ensures.two c.hang_branch.ensures.hung

pub release-requires-clause-at : goal.release-requires-clause-at
release-requires-clause-at c =
    let r = c.requires.at in
    let g = four_is c.args.branch.form c.args.branch.level c.requires.branch.form_is in
    form_since c.args.new.node c.args.branch.form c.hang_branch.new.hand.me.0 c.unlock.new.hand.me.0 (width_some c.args.branch.form g.0 g.1)
    (at_m_y c.args.at.node c.args.new.node c.args.at.form c.args.branch.form c.args.version c.args.new.version c.args.hand.now.me.0 c.fill_branch.new.hand.me.0 c.hang_branch.new.hand.me.0 r.some r.form g.0 g.1 c.requires.apart r.at c.requires.new.at c.requires.drafted
    c.requires.new.drafted c.fill_branch.ensures.keeps c.hang_branch.ensures.stays) c.unlock.ensures.unlocked.after

pub release-requires-clause-some : goal.release-requires-clause-some
release-requires-clause-some c = let g = four_is c.args.branch.form c.args.branch.level c.requires.branch.form_is in width_some c.args.branch.form g.0 g.1

pub release-requires-clause-drafted : goal.release-requires-clause-drafted
release-requires-clause-drafted c =
    let r = c.requires.at in
    let n = c.args.at.node in
    let m = c.args.new.node in
    let f = c.args.at.form in
    let h = c.args.branch.form in
    let v = c.args.hand.now.me.0 in
    let w = c.fill_branch.new.hand.me.0 in
    let y = c.hang_branch.new.hand.me.0 in
    let g = four_is h c.args.branch.level c.requires.branch.form_is in
    let at = at_m_y n m f h c.args.version c.args.new.version v w y r.some r.form g.0 g.1 c.requires.apart r.at c.requires.new.at c.requires.drafted c.requires.new.drafted c.fill_branch.ensures.keeps c.hang_branch.ensures.stays in
    let own = own_m_y n m f h c.args.version c.args.new.version v w y r.some r.form g.0 g.1 c.requires.apart r.at c.requires.new.at c.requires.drafted c.requires.new.drafted c.fill_branch.ensures.keeps c.hang_branch.ensures.stays in
    let is = version_m n m f h c.args.version c.args.new.version v w y r.some r.form g.0 g.1 c.requires.apart r.at c.requires.new.at c.requires.drafted c.requires.new.drafted c.fill_branch.ensures.keeps c.hang_branch.ensures.stays in
    settled_drafted n m h c.args.new.version c.args.key c.args.value y c.unlock.new.hand.me.0 c.requires.apart at (width_some h g.0 g.1) own is c.unlock.ensures.unlocked
    (form_since m h y c.unlock.new.hand.me.0 (width_some h g.0 g.1) at c.unlock.ensures.unlocked.after)

pub returns-clause-set : goal.returns-clause-set
returns-clause-set c =
    let r = c.requires.at in
    let n = c.args.at.node in
    let m = c.args.new.node in
    let v = c.args.hand.now.me.0 in
    let w = c.fill_branch.new.hand.me.0 in
    let y = c.hang_branch.new.hand.me.0 in
    let u = c.unlock.ensures.unlocked in
    let g = four_is c.args.branch.form c.args.branch.level c.requires.branch.form_is in
    split_replaces n m c.args.key c.args.value None v y c.unlock.new.hand.me.0 c.release.new.hand.me.0 (later_trans v w y c.fill_branch.ensures.keeps.later c.hang_branch.ensures.stays.later) u
    (had_none n m c.args.at.form c.args.branch.form c.args.version c.args.new.version v w y r.some r.form g.0 g.1 c.requires.apart r.at c.requires.new.at c.requires.drafted
    c.requires.new.drafted c.fill_branch.ensures.keeps c.hang_branch.ensures.stays c.args.at.level c.args.branch.level c.args.branch.byte c.args.child.first c.args.child.second c.args.key c.args.value c.requires.inner r.level c.requires.new.blank c.requires.covers
    c.requires.first c.requires.second c.requires.branch c.fill_branch.ensures.covers c.fill_branch.ensures.two c.hang_branch.ensures.hung u.b u.held u.was)
    (releases_keeps IsTree m c.unlock.new.hand.me.0 c.release.new.hand.me.0 c.release.ensures.released)

pub returns-clause-lets_go : goal.returns-clause-lets_go
returns-clause-lets_go c =
    both_gone c.args.at.node c.args.new.node c.args.hand.now.me.0 c.hang_branch.new.hand.me.0 c.unlock.new.hand.me.0 c.release.new.hand.me.0 (c.hang_branch.ensures.stays.mine ∙ c.fill_branch.ensures.keeps.mine) c.unlock.ensures.unlocked.mine c.release.ensures.released.mine

pub returns-clause-since : goal.returns-clause-since
returns-clause-since c =
    let v = c.args.hand.now.me.0 in
    let w = c.fill_branch.new.hand.me.0 in
    let y = c.hang_branch.new.hand.me.0 in
    let z = c.unlock.new.hand.me.0 in
    since_trans v.seen w.seen c.release.new.hand.me.0.seen c.fill_branch.ensures.keeps.since
    (since_trans w.seen y.seen c.release.new.hand.me.0.seen c.hang_branch.ensures.stays.since (since_trans y.seen z.seen c.release.new.hand.me.0.seen c.unlock.ensures.unlocked.after c.release.ensures.released.since))
