use Rattle.std.proofs.Common.{◌≡◌, ℕ, List, [], ◌∷◌, ◌++◌, map, length, refl, sym, ◌∙◌, append_assoc, append-nil, arith}
use Rattle.std.specs.Vec.Iter.{into_iter_items}
use Rattle.std.proofs.lemmas.Grind.{common_steps}
use Rattle.congee.specs.declared.protocol.machine.Machine.{Machine}
use Rattle.congee.specs.declared.protocol.op.Op.{Op}
use Rattle.congee.specs.protocol.Play.{begun}
use Rattle.congee.proofs.lemmas.protocol.Opening.{opening_none}
use Rattle.congee.proofs.protocol.plain.PlainStore.calls.Goals as goal

-- one call more of those in turn
one_more : (done new all : List (Machine ℕ ℕ)) (left rest : List (Op ℕ)) (m : Machine ℕ ℕ) (o : Op ℕ) → new ≡ done ++ m ∷ [] → m ≡ begun 0 o → left ≡ o ∷ rest
    → done ++ map (begun 0) left ≡ all → new ++ map (begun 0) rest ≡ all
one_more done new all left rest m o n b l e = let q : done ++ (begun 0 o ∷ []) ++ map (begun 0) rest ≡ all = append_assoc done (begun 0 o ∷ []) (map (begun 0) rest) ∙ rw l at e in rw (n, b) q

nothing_left : (xs : List (Op ℕ)) → length xs ≡ 0 → xs ≡ []
nothing_left [] n = refl
nothing_left (x ∷ xs) n = absurd (omega arith)

-- and no call more
no_more : (done all : List (Machine ℕ ℕ)) (left : List (Op ℕ)) → length left ≡ 0 → done ++ map (begun 0) left ≡ all → done ≡ all
no_more done all left n e = sym (append-nil done) ∙ rw (nothing_left left n) at e

pub loop-op-init : goal.loop-op-init
loop-op-init c = record {
  begins = rw c.in_ok-calls.ensures.items (λ h r. opening_none (λ n. n) h r);
  each = rw (c.in_ok-calls.ensures.items, c.into_iter-rest.ensures.rest) refl;
  count = grind (arith, common_steps);
  room = grind (arith, common_steps);
}

pub loop-op-preserved : goal.loop-op-preserved
loop-op-preserved c = record {
  begins = λ h r. rw c.push_reserved.ensures.items (c.new.ensures.joins h c.loop-op.calls.items (c.loop-op.invariant.begins h r) refl);
  each = one_more c.loop-op.calls.items c.push_reserved.new.self.items _ (into_iter_items c.loop-op.rest) (into_iter_items c.next.new.self) c.new.result c.in-Some.op c.push_reserved.ensures.items c.new.ensures.call c.in-Some.ensures.items c.loop-op.invariant.each;
  count = grind (arith, common_steps);
  room = grind (arith, common_steps);
}

pub returns-clause-each : goal.returns-clause-each
returns-clause-each c = no_more c.loop-op.calls.items _ (into_iter_items c.loop-op.rest) (sym c.loop-op.rest.rest.ok.0 ∙ c.in_default.ensures.cases.0) c.loop-op.invariant.each
