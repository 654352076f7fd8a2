use Rattle.optimistic.proofs.lemmas.words.Moments.{since_trans}
use Rattle.optimistic.proofs.tree.get.Tree.run_there.Goals as goal

pub returns-then-at-lt4-clause-looks : goal.returns-then-at-lt4-clause-looks
returns-then-at-lt4-clause-looks c a l = c.run_few.ensures.looks a (c.bytes_there-bytes.ensures.looks a l)

pub returns-then-at-lt4-clause-since : goal.returns-then-at-lt4-clause-since
returns-then-at-lt4-clause-since c = since_trans _ _ _ c.bytes_there-bytes.ensures.since c.run_few.ensures.since

pub returns-then-at-lt4-clause-shows : goal.returns-then-at-lt4-clause-shows
returns-then-at-lt4-clause-shows c a l = c.run_few.ensures.shows a (c.bytes_there-bytes.ensures.looks a l) (c.bytes_there-bytes.ensures.bytes a l)

pub returns-clause-looks : goal.returns-clause-looks
returns-clause-looks c a l = c.run_in.ensures.looks a (c.bytes_there-bytes.ensures.looks a l)

pub returns-clause-since : goal.returns-clause-since
returns-clause-since c = since_trans _ _ _ c.bytes_there-bytes.ensures.since c.run_in.ensures.since

pub returns-clause-shows : goal.returns-clause-shows
returns-clause-shows c a l = c.run_in.ensures.shows a (c.bytes_there-bytes.ensures.looks a l) (c.bytes_there-bytes.ensures.bytes a l)
