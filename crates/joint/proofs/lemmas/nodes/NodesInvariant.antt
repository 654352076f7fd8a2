-- What always holds of the nodes in their cells stays where one of them is changed.
use Rattle.std.proofs.Common.{◌≡◌, ◌≢◌, ℕ, ◌+◌, Bool, true, false, refl, sym, ◌∙◌, ap, subst, inl, inr, arith}
use Rattle.std.specs.Prelude.{Option, None, Some, is_some, if◌then◌else◌}
use Rattle.crossbeam_epoch.specs.declared.names.Name.{Name}
use Rattle.crossbeam_epoch.specs.world.Machine.{State, with_store}
use Rattle.crossbeam_epoch.specs.world.Progress.{Orderly}
use Rattle.crossbeam_epoch.specs.world.Store.{Store, value_at, was_given, replaced}
use Rattle.congee.specs.protocol.Events.{SameBut, ChangeGives, hung, weight}
use Rattle.congee.specs.Heap.{Node, Holds, Nothing, Stands}
use Rattle.congee.specs.declared.forms.child.Child.{Child}
use Rattle.congee.specs.declared.forms.child.Child.TheVariants.{Blank}
use Rattle.joint.specs.declared.id.Id.{Id}
use Rattle.joint.specs.declared.nodes.slot.Slot.{Slot}
use Rattle.joint.specs.declared.nodes.counts.Counts.{Counts}
use Rattle.joint.specs.nodes.Altering.{Alters, Hangs, Pulls}
use Rattle.joint.specs.nodes.Nodes.{Nodes, nodes, with_collector, frame, size, waits, waiting_size, sizes, waiting, waiting_bytes, IsMark, IsKept}
use Rattle.joint.specs.NameLemmas.{number_named, named_number}
use Rattle.joint.specs.Names.{number, named}
use Rattle.joint.specs.nodes.Solid.{IsWhole}
use Rattle.joint.specs.nodes.CellMarks.{mark_at}
use Rattle.joint.specs.nodes.View.{heap, view, node_of, id_number, out}
use Rattle.joint.proofs.lemmas.nodes.Altering.{same_or, swapped, ReplacedSets}

-- two values are the same where the options with them are
pub some_injective : {A : Type 0} (x y : A) → Some x ≡ Some y → x ≡ y
some_injective x y e = cc

module _ {P : Type 0} (st : Store (Slot P)) (n : Name) where
  -- the node of a name's number is read off what was given and what stands under that name
  pub node_here : heap st (number n) ≡ view (was_given st n) (value_at st n)
  node_here = ap (λ x. view (was_given st x) (value_at st x)) (named_number n)

  -- the node of a name under which a slot stands is that slot's
  pub node_is : (s : Slot P) → value_at st n ≡ Some s → heap st (number n) ≡ node_of s
  node_is s e = node_here ∙ ap (λ v. view (was_given st n) v) e

  stands_in : (g : Bool) (v : Option (Slot P)) → Stands (view g v) → is_some v ≡ true
  stands_in g (Some s) x = refl
  stands_in true None x = absurd (let k : true ≡ false = x.kept in cc)
  stands_in false None x = absurd (let k : false ≡ true = x.made in cc)

  -- a node that stands has its slot
  pub is_there : Stands (heap st (number n)) → is_some (value_at st n) ≡ true
  is_there x = stands_in (was_given st n) (value_at st n) (subst Stands node_here x)

module _ {P : Type 0} (st : Store (Slot P)) (n : Name) (s s' : Slot P) (st' : Store (Slot P)) (alters : Alters st n s s' st') where
  node_new : heap st' (number n) ≡ node_of s'
  node_new = node_is st' n s' alters.sets.value

  nodes_apart : (k : ℕ) → k ≢ number n → heap st' k ≡ heap st k
  nodes_apart k ne =
      let apart : named k ≢ n = λ e. ne (sym (number_named k) ∙ ap number e) in
      ap (λ g. view g (value_at st' (named k))) (alters.sets.given (named k) apart) ∙ ap (λ v. view (was_given st (named k)) v) (alters.sets.others (named k) apart)

-- a collector stays orderly where its cells alone change
pub orderly_stored : {P : Type 0} (s c' : State (Slot P) (Unit {0})) → c' ≡ with_store s c'.store → Orderly s → Orderly c'
orderly_stored s c' beside o = let x : Orderly (with_store s c'.store) = record { hands = o.hands; bags = o.bags; held = o.held; sealed = o.sealed } in subst Orderly (sym beside) x

module _ {P : Type 0} (F : Nodes P) (c' : State (Slot P) (Unit {0})) (beside : c' ≡ with_store F.collector c'.store) where
  -- a collector of which the cells alone changed is orderly where it was
  pub orderly_beside : Orderly F.collector → Orderly c'
  orderly_beside o = orderly_stored F.collector c' beside o

  -- with as many cells and turns at most, all but the cells and the charge is as it was
  pub same_frame : c'.store.most ≡ F.collector.store.most → c'.store.turn_max ≡ F.collector.store.turn_max → frame (with_collector F c') ≡ frame F
  same_frame m t =
      let G : State (Slot P) (Unit {0}) → Nodes P = λ c. frame (with_collector F (with_store c c'.store)) in
      ap G beside
      ∙ ap (λ x. frame (with_collector F (with_store F.collector (record c'.store { most = x })))) m
      ∙ ap (λ x. frame (with_collector F (with_store F.collector (record F.collector.store { turn_max = x })))) t

  module _ (n : Name) (s s' : Slot P) (alters : Alters F.collector.store n s s' c'.store) (k : Counts) (kept : IsKept k F) where
    -- where its size and its mark are as before, the counts are those of the cells
    kept_altered : size s' ≡ size s → s'.word.retired ≡ s.word.retired → IsWhole s'.node → IsKept k (with_collector F c')
    kept_altered sz mark whole =
        let e0 : sizes c'.store + size s ≡ sizes F.collector.store + size s' = alters.sums size in
        let e1 : waiting c'.store + waits s ≡ waiting F.collector.store + waits s' = alters.sums waits in
        let e2 : waiting_bytes c'.store + waiting_size s ≡ waiting_bytes F.collector.store + waiting_size s' = alters.sums waiting_size in
        let w1 : waits s' ≡ waits s = ap (λ (b : Bool). if b then 1 else 0) mark in
        let w2 : waiting_size s' ≡ waiting_size s = ap (λ (b : Bool). if b then size s' else 0) mark ∙ ap (λ (x : ℕ). if s.word.retired then x else 0) sz in
        record {
          orderly = orderly_beside kept.orderly;
          charged = (let p : F.charge ≡ F.base + sizes F.collector.store = kept.charged in omega (arith, p, e0, sz));
          standing_is = (let p = kept.standing_is in let e3 = alters.sums (λ x. 1) in omega (arith, p, e3));
          count_is = (let p = kept.count_is in omega (arith, p, e1, w1));
          bytes_is = (let p = kept.bytes_is in omega (arith, p, e2, w2));
          whole = λ m x e. elim (same_or m n) [
            | inl q ↦ (let z : s' ≡ x = some_injective s' x (sym alters.sets.value ∙ ap (value_at c'.store) (sym q) ∙ e) in subst (λ (y : Slot P). IsWhole y.node) z whole)
            | inr ne ↦ kept.whole m x (sym (alters.sets.others m ne) ∙ e)
          ];
          marks_are = λ m x e. elim (same_or m n) [
            | inl q ↦ (
                let z : s' ≡ x = some_injective s' x (sym alters.sets.value ∙ ap (value_at c'.store) (sym q) ∙ e) in
                let T : IsMark s (mark_at k.cell_marks.items n.cell) = kept.marks_are n s alters.was in
                let U : IsMark s' (mark_at k.cell_marks.items n.cell) = record { size_is = sz ∙ T.size_is; waits_is = mark ∙ T.waits_is } in
                subst (λ (y : Slot P). IsMark y (mark_at k.cell_marks.items m.cell)) z (subst (λ (y : Name). IsMark s' (mark_at k.cell_marks.items y.cell)) (sym q) U))
            | inr ne ↦ kept.marks_are m x (sym (alters.sets.others m ne) ∙ e)
          ];
          wide = kept.wide ∙ sym alters.wide;
          bounded = (let p = kept.bounded in omega (arith, p, alters.wide, alters.most));
          few = (let p = kept.few in omega (arith, p, alters.most));
          used = λ i l. (let p = kept.used i (omega (arith, l, alters.wide)) in omega (arith, p, alters.turns i));
          turns = λ i. (let p = kept.turns i in omega (arith, p, alters.turns i, alters.turn_max));
          last = (let p = kept.last in omega (arith, p, alters.turn_max));
          roomy = (let p = kept.roomy in omega (arith, p, alters.most));
        }

-- in the words of a function's clauses, whose fields are seen as a forest
module _ {P : Type 0} (F G : Nodes P) (view_is : F ≡ G) (n : Name) where
  -- a node that stands in the forest has a slot in the cells
  pub there_in : Stands (nodes G (number n)) → is_some (value_at F.collector.store n) ≡ true
  there_in s = is_there F.collector.store n (subst (λ x. Stands (nodes x (number n))) (sym view_is) s)

  -- the node of a name in the forest is that of the slot under it in the cells
  pub node_in : (s : Slot P) → value_at F.collector.store n ≡ Some s → nodes G (number n) ≡ node_of s
  node_in s e = ap (λ x. nodes x (number n)) (sym view_is) ∙ node_is F.collector.store n s e

  -- its slot is taken out, and put back as another
  module _ (law : ReplacedSets (Slot P)) (s s' : Slot P) (c c' : State (Slot P) (Unit {0})) (was : value_at F.collector.store n ≡ Some s)
      (away : c ≡ with_store F.collector (replaced F.collector.store n.cell out)) (back : c' ≡ with_store c (replaced c.store n.cell s')) where
    beside : c' ≡ with_store F.collector c'.store
    beside = rw (back, away)

    -- the slot under the name is another, and no other value is
    pub altered_in : Alters F.collector.store n s s' c'.store
    altered_in = rw (back, away) (swapped law F.collector.store n s out s' was)

    -- the collector is orderly where it was
    pub orderly_in : Orderly F.collector → Orderly c'
    orderly_in = orderly_stored F.collector c' beside

    -- all but the cells and the charge is as it was
    pub frame_in : frame (with_collector F c') ≡ frame G
    frame_in = same_frame F c' beside altered_in.most altered_in.turn_max ∙ ap frame view_is

    others_in : (k : ℕ) → k ≢ number n → nodes (with_collector F c') k ≡ nodes G k
    others_in k ne = nodes_apart F.collector.store n s s' c'.store altered_in k ne ∙ ap (λ x. nodes x k) view_is

    after_in : nodes (with_collector F c') (number n) ≡ node_of s'
    after_in = node_new F.collector.store n s s' c'.store altered_in

    -- where the slot's node is told by the one before, so is the node in the forest, and no other changes
    pub same_in : (f : Node P → Node P) → node_of s' ≡ f (node_of s) → SameBut (nodes G) (number n) (f (nodes G (number n))) (nodes (with_collector F c'))
    same_in f e = record { after = after_in ∙ e ∙ ap f (sym (node_in s was)); others = others_in }

    -- where its size and its mark are as before, the counts are those of the cells
    pub kept_in : (k : Counts) → IsKept k F → size s' ≡ size s → s'.word.retired ≡ s.word.retired → IsWhole s'.node → IsKept k (with_collector F c')
    kept_in = kept_altered F c' beside n s s' altered_in

    -- another child
    module _ (b : ℕ) (x : Child Id P) (hangs : Hangs s b x s') where
      -- the nodes then are those that a change of that child at that byte gives
      pub changed_in : ChangeGives (nodes G) (number n) b (hung id_number x) (nodes (with_collector F c'))
      changed_in =
          let new : nodes (with_collector F c') (number n) ≡ node_of s' = after_in in
          let old : nodes G (number n) ≡ node_of s = node_in s was in
          let word : s'.word ≡ s.word = hangs.word in
          let count_new : (nodes (with_collector F c') (number n)).count ≡ (node_of s').count = ap (λ y. y.count) new in
          let count_old : (nodes G (number n)).count ≡ (node_of s).count = ap (λ y. y.count) old in
          let weight_old : weight ((nodes G (number n)).children b) ≡ weight ((node_of s).children b) = ap (λ y. weight (y.children b)) old in
          let count = hangs.count in
          record {
            prefix = ap (λ y. y.prefix) new ∙ hangs.prefix ∙ sym (ap (λ y. y.prefix) old);
            capacity = ap (λ y. y.capacity) new ∙ hangs.capacity ∙ sym (ap (λ y. y.capacity) old);
            version = ap (λ y. y.version) new ∙ ap (λ y. y.version) word ∙ sym (ap (λ y. y.version) old);
            locked = ap (λ y. y.locked) new ∙ ap (λ y. y.locked) word ∙ sym (ap (λ y. y.locked) old);
            obsolete = ap (λ y. y.obsolete) new ∙ ap (λ y. y.obsolete) word ∙ sym (ap (λ y. y.obsolete) old);
            made = ap (λ y. y.made) new ∙ sym (ap (λ y. y.made) old);
            destroyed = ap (λ y. y.destroyed) new ∙ sym (ap (λ y. y.destroyed) old);
            retired = ap (λ y. y.retired) new ∙ ap (λ y. y.retired) word ∙ sym (ap (λ y. y.retired) old);
            child = ap (λ y. y.children b) new ∙ hangs.child_is;
            beside = λ k ne. ap (λ y. y.children k) new ∙ hangs.beside k ne ∙ sym (ap (λ y. y.children k) old);
            count = omega (arith, count_new, count_old, weight_old, count);
            others = others_in;
          }

      -- with the other child, the counts are those of the cells still
      pub kept_changed : (k : Counts) → IsKept k F → IsKept k (with_collector F c')
      kept_changed k kept = kept_in k kept hangs.size_is (ap (λ y. y.retired) hangs.word) hangs.whole

    -- a value goes out
    module _ (b : ℕ) (value : P) (pulls : Pulls s b value s') where
      -- the node holds the value at the byte before
      pub value_in : (nodes G (number n)).children b ≡ Holds value
      value_in = ap (λ y. y.children b) (node_in s was) ∙ pulls.was

      -- the nodes then are those with nothing at that byte
      pub pulled_in : ChangeGives (nodes G) (number n) b Nothing (nodes (with_collector F c'))
      pulled_in = changed_in b Blank pulls.hangs

      -- without the value, the counts are those of the cells still
      pub kept_pulled : (k : Counts) → IsKept k F → IsKept k (with_collector F c')
      kept_pulled = kept_changed b Blank pulls.hangs
