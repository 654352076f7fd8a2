use Rattle.std.proofs.Common.{◌≡◌, ◌<◌, None, Some, ◌∙◌, ⊎_elim, arith}
use Rattle.optimistic.specs.Layout.{byte_at}
use Rattle.optimistic.specs.Moves.{words_of}
use Rattle.optimistic.specs.tree.Trees.{IsTree}
use Rattle.optimistic.proofs.lemmas.words.Chains.{later_keeps, looks_keeps, releases_keeps}
use Rattle.optimistic.proofs.lemmas.words.Moments.{width_some, width_more, form_since, since_trans, tells_since, uncarved_since}
use Rattle.optimistic.proofs.lemmas.forms.FormLemmas.{first_like, second_like, form_like}
use Rattle.optimistic.proofs.lemmas.tree.Blank.{free_since}
use Rattle.optimistic.proofs.lemmas.tree.Sets.{looks_drafted}
use Rattle.optimistic.proofs.lemmas.tree.Setting.{room_some, later_replaces, gone}
use Rattle.optimistic.proofs.lemmas.tree.Splitting.{other_node, still_form, still_words, still_drafted, made_spare, one_gone}
use Rattle.optimistic.proofs.tree.get.Tree.split_by.Goals as goal

pub split_with-requires-clause-at : goal.split_with-requires-clause-at
split_with-requires-clause-at c = let r = c.requires.at in
    record { at = still_form c.in-Ok.new c.args.at.node c.args.at.form c.args.at.level c.args.version c.args.branch.form c.args.hand.now.me.0 c.fresh.new.hand.me.0 r.some r.form r.at c.requires.drafted c.in-Ok.ensures.fresh; some = r.some; form = r.form; level = r.level }

pub split_with-requires-clause-drafted : goal.split_with-requires-clause-drafted
split_with-requires-clause-drafted c = let r = c.requires.at in
    still_drafted c.in-Ok.new c.args.at.node c.args.at.form c.args.at.level c.args.version c.args.branch.form c.args.hand.now.me.0 c.fresh.new.hand.me.0 r.some r.form r.at c.requires.drafted c.in-Ok.ensures.fresh

pub split_with-requires-clause-shape : goal.split_with-requires-clause-shape
split_with-requires-clause-shape c =
    let r = c.requires.at in
    let n = c.args.at.node in
    form_like c.args.at.form (words_of c.args.hand.now.me.0 n) (words_of c.fresh.new.hand.me.0 n)
    (λ j _ l. still_words c.in-Ok.new n c.args.at.form c.args.at.level c.args.version c.args.branch.form c.args.hand.now.me.0 c.fresh.new.hand.me.0 r.some r.form r.at c.requires.drafted c.in-Ok.ensures.fresh j l) (room_some c.args.at.form r.some r.form) c.requires.shape

pub split_with-requires-clause-covers : goal.split_with-requires-clause-covers
split_with-requires-clause-covers c =
    let r = c.requires.at in
    still_words c.in-Ok.new c.args.at.node c.args.at.form c.args.at.level c.args.version c.args.branch.form c.args.hand.now.me.0 c.fresh.new.hand.me.0 r.some r.form r.at c.requires.drafted c.in-Ok.ensures.fresh 1 (omega (arith, width_more c.args.at.form r.some r.form))
    ∙ c.requires.covers

pub split_with-requires-clause-first : goal.split_with-requires-clause-first
split_with-requires-clause-first c =
    let r = c.requires.at in
    let n = c.args.at.node in
    first_like c.args.at.form (words_of c.args.hand.now.me.0 n) (words_of c.fresh.new.hand.me.0 n)
    (λ j _ l. still_words c.in-Ok.new n c.args.at.form c.args.at.level c.args.version c.args.branch.form c.args.hand.now.me.0 c.fresh.new.hand.me.0 r.some r.form r.at c.requires.drafted c.in-Ok.ensures.fresh j l) c.args.key (byte_at c.args.key c.args.at.level)
    ∙ c.requires.first

pub split_with-requires-clause-second : goal.split_with-requires-clause-second
split_with-requires-clause-second c =
    let r = c.requires.at in
    let n = c.args.at.node in
    second_like c.args.at.form (words_of c.args.hand.now.me.0 n) (words_of c.fresh.new.hand.me.0 n)
    (λ j _ l. still_words c.in-Ok.new n c.args.at.form c.args.at.level c.args.version c.args.branch.form c.args.hand.now.me.0 c.fresh.new.hand.me.0 r.some r.form r.at c.requires.drafted c.in-Ok.ensures.fresh j l) c.args.key (byte_at c.args.key c.args.at.level)
    ∙ c.requires.second

pub split_with-requires-clause-tells : goal.split_with-requires-clause-tells
split_with-requires-clause-tells c = tells_since c.args.child.first c.args.hand.now.me.0 c.fresh.new.hand.me.0 c.requires.tells c.in-Ok.ensures.fresh.since

pub split_with-requires-clause-new : goal.split_with-requires-clause-new
split_with-requires-clause-new c = let r = c.requires.at in
    made_spare c.in-Ok.new c.args.at.node c.args.at.form c.args.at.level c.args.version c.args.branch.form c.args.hand.now.me.0 c.fresh.new.hand.me.0 r.some r.form r.at c.requires.drafted c.in-Ok.ensures.fresh

pub split_with-requires-clause-apart : goal.split_with-requires-clause-apart
split_with-requires-clause-apart c = let r = c.requires.at in
    other_node c.in-Ok.new c.args.at.node c.args.at.form c.args.at.level c.args.version c.args.branch.form c.args.hand.now.me.0 c.fresh.new.hand.me.0 r.some r.form r.at c.requires.drafted c.in-Ok.ensures.fresh

pub release-requires-clause-at : goal.release-requires-clause-at
release-requires-clause-at c = let r = c.requires.at in form_since c.args.at.node c.args.at.form c.args.hand.now.me.0 c.fresh.new.hand.me.0 (width_some c.args.at.form r.some r.form) r.at c.in-Err.ensures.fresh.since

pub release-requires-clause-some : goal.release-requires-clause-some
release-requires-clause-some c = width_some c.args.at.form c.requires.at.some c.requires.at.form

pub release-requires-clause-drafted : goal.release-requires-clause-drafted
release-requires-clause-drafted c =
    let r = c.requires.at in
    let some = width_some c.args.at.form r.some r.form in
    let v = c.args.hand.now.me.0 in
    let w = c.fresh.new.hand.me.0 in
    looks_drafted c.args.at.node c.args.at.form c.args.version v w r.at some (form_since c.args.at.node c.args.at.form v w some r.at c.in-Err.ensures.fresh.since) c.requires.drafted c.in-Err.ensures.fresh

pub returns-in-Ok-clause-since : goal.returns-in-Ok-clause-since
returns-in-Ok-clause-since c = since_trans c.args.hand.now.me.0.seen c.fresh.new.hand.me.0.seen c.split_with.new.hand.me.0.seen c.in-Ok.ensures.fresh.since c.split_with.ensures.since

pub returns-in-Ok-clause-names : goal.returns-in-Ok-clause-names
returns-in-Ok-clause-names c = free_since c.fresh.new.free c.fresh.new.hand.me.0 c.split_with.new.hand.me.0 c.fresh.ensures.names c.split_with.ensures.since

pub returns-in-Ok-clause-set : goal.returns-in-Ok-clause-set
returns-in-Ok-clause-set c = later_replaces c.args.key (Some c.args.value) None c.args.hand.now.me.0 c.fresh.new.hand.me.0 c.split_with.new.hand.me.0 c.in-Ok.ensures.fresh.keeps.0 c.split_with.ensures.set

pub returns-in-Ok-clause-lets_go : goal.returns-in-Ok-clause-lets_go
returns-in-Ok-clause-lets_go c = let r = c.requires.at in
    one_gone c.in-Ok.new c.args.at.node c.args.at.form c.args.at.level c.args.version c.args.branch.form c.args.hand.now.me.0 c.fresh.new.hand.me.0 r.some r.form r.at c.requires.drafted c.in-Ok.ensures.fresh c.split_with.new.hand.me.0 c.split_with.ensures.lets_go

pub returns-in-Err-clause-since : goal.returns-in-Err-clause-since
returns-in-Err-clause-since c = since_trans c.args.hand.now.me.0.seen c.fresh.new.hand.me.0.seen c.release.new.hand.me.0.seen c.in-Err.ensures.fresh.since c.release.ensures.released.since

pub returns-in-Err-clause-names : goal.returns-in-Err-clause-names
returns-in-Err-clause-names c = free_since c.fresh.new.free c.fresh.new.hand.me.0 c.release.new.hand.me.0 c.fresh.ensures.names c.release.ensures.released.since

pub returns-in-Err-clause-set : goal.returns-in-Err-clause-set
returns-in-Err-clause-set c =
    later_keeps c.args.hand.now.me.0 c.fresh.new.hand.me.0 c.release.new.hand.me.0 (looks_keeps IsTree c.args.hand.now.me.0 c.fresh.new.hand.me.0 c.in-Err.ensures.fresh).0
    (releases_keeps IsTree c.args.at.node c.fresh.new.hand.me.0 c.release.new.hand.me.0 c.release.ensures.released)

pub returns-in-Err-clause-lets_go : goal.returns-in-Err-clause-lets_go
returns-in-Err-clause-lets_go c = gone c.args.at.node c.args.hand.now.me.0 c.fresh.new.hand.me.0 c.release.new.hand.me.0 c.in-Err.ensures.fresh.mine c.release.ensures.released.mine

pub returns-in-Err-clause-cause : goal.returns-in-Err-clause-cause
returns-in-Err-clause-cause c =
    let g = c.args.branch.form in
    let bounds : (0 < g) × (g < 9) = ⊎_elim
    (λ (e : g ≡ 1). let r : (0 < g) × (g < 9) = (omega arith, omega arith) in r)
    (λ (e : (g ≡ 5) × (c.args.branch.level ≡ 7)). let q : g ≡ 5 = e.0 in let r : (0 < g) × (g < 9) = (omega arith, omega arith) in r)
    c.requires.branch.form_is in
    (g, bounds.0, bounds.1, uncarved_since _ c.args.branch.form c.in-Err.error c.fresh.new.hand.me.0.seen c.release.new.hand.me.0.seen c.release.ensures.released.since c.in-Err.ensures.cause)
