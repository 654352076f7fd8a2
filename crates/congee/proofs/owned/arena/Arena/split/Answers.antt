use Rattle.std.proofs.Common.{rules, refl, inl, ◌≡◌, ◌+◌, ℕ, List, [], ◌∷◌, ap, sym, subst, ◌∙◌, arith}
use Rattle.std.specs.Prelude.{None, Some}
use Rattle.congee.specs.Heap.{fits, child_for}
use Rattle.congee.specs.owned.Arena.{IsTree, Nodes}
use Rattle.congee.specs.owned.Edits.{Adds, ForksOff}
use Rattle.congee.specs.owned.OwnedSteps.{SameNodes}
use Rattle.congee.specs.owned.Place.{PartsAt}
use Rattle.congee.specs.owned.Wanted.{AllFit}
use Rattle.congee.specs.declared.owned.arena.Arena.{Arena}
use Rattle.congee.proofs.lemmas.owned.Answered.{at_apart}
use Rattle.congee.proofs.lemmas.owned.Renaming.{change_renamed}
use Rattle.congee.proofs.lemmas.owned.Sizes.{bytes_same}
use Rattle.congee.proofs.lemmas.owned.Hangings.{same_heap, same_way, same_renamed, own_of, inline_of}
use Rattle.congee.proofs.lemmas.owned.Wanting.{both_fit, refused_second}
use Rattle.congee.proofs.owned.arena.Arena.split.Goals.{then-is_inline, else-is_inline}
use Rattle.congee.proofs.owned.arena.Arena.split.Goals as goal

-- the key's way ends where it did
same_parts : {P : Type 0} (s s' : Nodes P) (key : List ℕ) (at below : ℕ) → SameNodes s s' → PartsAt s key at below → PartsAt s' key at below
same_parts s s' key at below e p = record {
  way = same_way s s' key at e p.way;
  hangs = ap (λ n. child_for n key) (same_heap s s' at e) ∙ p.hangs;
  differs = ap (λ n. fits n.prefix key) (same_heap s s' below e) ∙ p.differs;
}

-- a leaf that forks off once both nodes are charged for is an insertion
forks_adds : {P A K : Type 0} (charged limit : A → ℕ) (old ready new : Arena P A K) (key : List ℕ) (value : P) → IsTree old.nodes → SameNodes old.nodes ready.nodes
    → charged ready.allocator ≡ charged old.allocator + 128 → limit ready.allocator ≡ limit old.allocator → AllFit (64 ∷ 64 ∷ []) (charged old.allocator) (limit old.allocator)
    → ForksOff ready new key value → Adds charged limit old new key None value (Some (64 ∷ 64 ∷ []))
forks_adds charged limit old ready new key value tree same charge stays fit f =
    let r = same_renamed old.nodes ready.nodes same tree in
    let kept : charged new.allocator ≡ charged ready.allocator = ap charged f.allocator in
    record {
      edits = record {
        tree = f.tree;
        change = change_renamed old.nodes ready.nodes new.nodes key None (Some value) r f.change;
        balance = omega (arith, kept, r.bytes, f.bytes, charge);
        same_limit = ap limit f.allocator ∙ stays;
      };
      fits = fit;
      bytes = omega (arith, r.bytes, f.bytes);
      filled = λ by_form h. f.filled by_form (r.filled by_form h);
    }

pub returns-in-Err-clause-refused : goal.returns-in-Err-clause-refused
returns-in-Err-clause-refused g c = record {
  absent = at_apart c.args.self.now.nodes c.args.key.now c.args.at c.args.below c.requires.tree c.requires.parts.way c.requires.parts.hangs c.requires.parts.differs;
  cause = inl c.in-Err.ensures.refused;
  back = refl;
  same = c.ready.ensures.same;
  balance = omega (arith, bytes_same c.args.self.now.nodes c.ready.new.self.nodes c.ready.ensures.same, c.in-Err.ensures.unchanged);
  same_limit = c.ready.ensures.limit;
}

pub returns-in-Err-ready-clause-refused : goal.returns-in-Err-ready-clause-refused
returns-in-Err-ready-clause-refused g c =
    let first = bytes_same c.args.self.now.nodes c.ready.new.self.nodes c.ready.ensures.same in
    let second = bytes_same c.ready.new.self.nodes c.ready-2.new.self.nodes c.ready-2.ensures.same in
    record {
      absent = at_apart c.args.self.now.nodes c.args.key.now c.args.at c.args.below c.requires.tree c.requires.parts.way c.requires.parts.hangs c.requires.parts.differs;
      cause = refused_second _ _ _ _ c.in-Err-ready.e c.in_default.ensures.charge c.ready.ensures.limit c.in_default.ensures.fits c.in-Err-ready.ensures.refused;
      back = refl;
      same = λ n. c.ready-2.ensures.same n ∙ c.ready.ensures.same n;
      balance = omega (arith, first, second, c.in-Err-ready.ensures.unchanged, c.in_default.ensures.charge, c.deallocate.ensures.charged);
      same_limit = c.deallocate.ensures.limit ∙ (c.ready-2.ensures.limit ∙ c.ready.ensures.limit);
    }

pub fork_leaf-requires-clause-tree : goal.fork_leaf-requires-clause-tree
fork_leaf-requires-clause-tree g c = (same_renamed c.args.self.now.nodes c.ready-2.new.self.nodes (λ n. c.ready-2.ensures.same n ∙ c.ready.ensures.same n) c.requires.tree).tree

pub fork_leaf-requires-clause-parts : goal.fork_leaf-requires-clause-parts
fork_leaf-requires-clause-parts g c = same_parts c.args.self.now.nodes c.ready-2.new.self.nodes c.args.key.now c.args.at c.args.below (λ n. c.ready-2.ensures.same n ∙ c.ready.ensures.same n) c.requires.parts

pub fork_leaf-requires-clause-inline : goal.fork_leaf-requires-clause-inline
fork_leaf-requires-clause-inline g c = inline_of c.is_inline.result c.args.below c.is_inline.ensures (search rules)

pub fork-requires-clause-tree : goal.fork-requires-clause-tree
fork-requires-clause-tree g c = (same_renamed c.args.self.now.nodes c.ready-2.new.self.nodes (λ n. c.ready-2.ensures.same n ∙ c.ready.ensures.same n) c.requires.tree).tree

pub fork-requires-clause-parts : goal.fork-requires-clause-parts
fork-requires-clause-parts g c = same_parts c.args.self.now.nodes c.ready-2.new.self.nodes c.args.key.now c.args.at c.args.below (λ n. c.ready-2.ensures.same n ∙ c.ready.ensures.same n) c.requires.parts

pub fork-requires-clause-own : goal.fork-requires-clause-own
fork-requires-clause-own g c = own_of c.is_inline.result c.args.below c.is_inline.ensures (search rules)

pub returns-clause-adds : goal.returns-clause-adds
returns-clause-adds g c =
    let forks : ForksOff c.ready-2.new.self c.if-is_inline.self c.args.key.now c.args.value = elim c.if-is_inline.branch [
      | then-is_inline w ↦ subst (λ new. ForksOff c.ready-2.new.self new c.args.key.now c.args.value) (sym w.self-is) w.fork_leaf.ensures
      | else-is_inline w ↦ subst (λ new. ForksOff c.ready-2.new.self new c.args.key.now c.args.value) (sym w.self-is) w.fork.ensures
    ] in
    forks_adds g.A.Allocator.charged_of g.A.Allocator.limit_of c.args.self.now c.ready-2.new.self c.if-is_inline.self c.args.key.now c.args.value c.requires.tree (λ n. c.ready-2.ensures.same n ∙ c.ready.ensures.same n)
    (omega (arith, c.in_default.ensures.charge, c.in_default-ready.ensures.charge)) (c.ready-2.ensures.limit ∙ c.ready.ensures.limit)
    (both_fit _ _ _ _ c.in_default.ensures.charge c.ready.ensures.limit c.in_default.ensures.fits c.in_default-ready.ensures.fits) forks
