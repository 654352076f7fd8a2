use Rattle.std.proofs.Common.{rules, ◌≡◌, ℕ, zero, suc, ◌+◌, ◌<◌, List, [], ◌∷◌, ◌++◌, length, take, drop, set, get_or, refl, sym, ap, ◌∙◌, arith}
use Rattle.std.specs.List.{insert}
use Rattle.std.proofs.lemmas.List.{length-set, length-take-le, take_all, take_more, get_or-drop}
use Rattle.congee.proofs.lemmas.forms.SortedLemmas.{refill_set}
use Rattle.congee.proofs.lemmas.owned.RangeLemmas.{rest_kept}
use Rattle.congee.proofs.forms.ranks.Ranks.move_children.Goals as goal

-- what is put in behind all others stands at the end
insert_last : {X : Type 0} (xs : List X) (i : ℕ) (y : X) → length xs ≡ i → insert xs i y ≡ xs ++ y ∷ []
insert_last [] zero y l = refl
insert_last [] (suc i) y l = absurd (omega (arith, l))
insert_last (x ∷ xs) zero y l = absurd (omega (arith, l))
insert_last (x ∷ xs) (suc i) y l = ap (λ zs. x ∷ zs) (insert_last xs i y (omega (arith, l)))

-- lists that are the same from a place on are so there
first_same : {X : Type 0} (xs ys : List X) (i : ℕ) (d : X) → drop i xs ≡ drop i ys → get_or xs i d ≡ get_or ys i d
first_same xs ys i d rest = sym (at xs) ∙ (ap (λ zs. get_or zs 0 d) rest ∙ at ys)
  where
    at : (zs : List _) → get_or (drop i zs) 0 d ≡ get_or zs i d
    at zs = get_or-drop i zs 0 d ∙ (let e : i + 0 ≡ i = omega arith in ap (λ k. get_or zs k d) e)

pub loop-place-init : goal.loop-place-init
loop-place-init g c = record { bytes = c.requires.no_bytes; moved = c.requires.no_children; rest = refl; stays = refl }

pub insert-requires : goal.insert-requires
insert-requires g c =
    let l : c.loop-place.place < length c.args.self.now = omega (arith, c.loop-place-test.true, c.len-place-end.ensures.count) in
    let long : length c.loop-place.others ≡ c.loop-place.place = ap length c.loop-place.invariant.bytes ∙ length-take-le c.loop-place.place c.args.self.now (omega (arith, l)) in
    let r : length c.loop-place.others < g.row.M = omega (arith, long, l, c.requires.room) in
    (search rules, (omega (arith, long), r))

pub bounds-deref_mut-place : goal.bounds-deref_mut-place
bounds-deref_mut-place g c = omega (arith, c.loop-place-test.true, c.len-place-end.ensures.count, c.requires.same, c.loop-place.invariant.stays, ap length c.deref_mut.ensures.value)

pub push-requires : goal.push-requires
push-requires g c =
    let l : c.loop-place.place < length c.args.self.now = omega (arith, c.loop-place-test.true, c.len-place-end.ensures.count) in
    let long : length c.loop-place.moved.items ≡ c.loop-place.place = ap length c.loop-place.invariant.moved ∙ length-take-le c.loop-place.place c.args.children.now.items (omega (arith, l, c.requires.same)) in
    let r : length c.loop-place.moved.items < g.row.M = omega (arith, long, l, c.requires.room) in
    (search rules, r)

pub loop-place-preserved : goal.loop-place-preserved
loop-place-preserved g c =
    let i = c.loop-place.place in
    let xs = c.loop-place.children.items in
    let ys = c.args.children.now.items in
    let l : i < length c.args.self.now = omega (arith, c.loop-place-test.true, c.len-place-end.ensures.count) in
    let k : i < length ys = omega (arith, l, c.requires.same) in
    let long : length c.loop-place.others ≡ i = ap length c.loop-place.invariant.bytes ∙ length-take-le i c.args.self.now (omega (arith, l)) in
    let written = ap (λ zs. set zs i c.take.new.dest) c.deref_mut.ensures.value in
    let child : c.take.result ≡ get_or ys i c.index-deref_mut-place.result =
    c.take.ensures.value ∙ (ap (λ zs. get_or zs i c.index-deref_mut-place.result) c.deref_mut.ensures.value ∙ first_same xs ys i c.index-deref_mut-place.result c.loop-place.invariant.rest) in
    record {
      bytes = c.insert.ensures ∙ (insert_last c.loop-place.others i c.at.result long ∙ (ap (λ zs. zs ++ c.at.result ∷ []) c.loop-place.invariant.bytes ∙ (ap (λ b. take i c.args.self.now ++ b ∷ []) c.at.ensures ∙ sym (take_more c.args.self.now i 0 l))));
      moved = c.push.ensures.items ∙ (ap (λ zs. zs ++ c.take.result ∷ []) c.loop-place.invariant.moved ∙ (ap (λ y. take i ys ++ y ∷ []) child ∙ sym (take_more ys i c.index-deref_mut-place.result k)));
      rest = rw (c.deref_mut.ensures.value, refill_set xs i c.take.new.dest) (rest_kept xs ys i c.take.new.dest (omega (arith, k, c.loop-place.invariant.stays)) c.loop-place.invariant.rest);
      stays = rw (c.deref_mut.ensures.value, refill_set xs i c.take.new.dest) (length-set xs i c.take.new.dest ∙ c.loop-place.invariant.stays);
    }

pub returns-clause-bytes : goal.returns-clause-bytes
returns-clause-bytes g c = c.loop-place.invariant.bytes ∙ take_all c.loop-place.place c.args.self.now (omega (arith, c.loop-place-test.false, c.len-place-end.ensures.count))

pub returns-clause-children : goal.returns-clause-children
returns-clause-children g c = c.loop-place.invariant.moved ∙ take_all c.loop-place.place c.args.children.now.items (omega (arith, c.loop-place-test.false, c.len-place-end.ensures.count, c.requires.same))
