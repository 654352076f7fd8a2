-- What always holds stays where the children of one node go over into another.
use Rattle.std.proofs.Common.{◌≡◌, ◌≢◌, ℕ, ◌+◌, Bool, refl, sym, ◌∙◌, ap, subst, inl, inr, arith}
use Rattle.std.specs.Prelude.{Option, None, Some, Box, if◌then◌else◌}
use Rattle.std.specs.declared.alloc.Global.{Global}
use Rattle.crossbeam_epoch.specs.declared.names.Name.{Name}
use Rattle.crossbeam_epoch.specs.world.Machine.{State, with_store}
use Rattle.crossbeam_epoch.specs.world.Store.{Store, value_at, was_given}
use Rattle.std.specs.Ordering.{nat_cmp}
use Rattle.std.specs.FinMap as map
use Rattle.congee.specs.forms.Forms.{children_of}
use Rattle.congee.specs.protocol.Events.{kept, HoldsValues, HoldsNodes, TakesOver, TakeOverGives}
use Rattle.congee.specs.Heap.{Nothing}
use Rattle.joint.specs.declared.nodes.counts.Counts.{Counts}
use Rattle.congee.specs.declared.forms.base_node.Node.{Node as Form}
use Rattle.joint.specs.declared.id.Id.{Id}
use Rattle.joint.specs.declared.nodes.slot.Slot.{Slot}
use Rattle.joint.specs.nodes.Altering.{Exchanges, MovesTo}
use Rattle.joint.specs.nodes.Nodes.{Nodes, nodes, with_collector, size, waits, waiting_size, sizes, waiting, waiting_bytes, IsMark, IsKept}
use Rattle.joint.specs.NameLemmas.{number_named}
use Rattle.joint.specs.Names.{number, named}
use Rattle.joint.specs.nodes.Solid.{IsWhole}
use Rattle.joint.specs.nodes.CellMarks.{mark_at}
use Rattle.joint.specs.nodes.View.{heap, view, hung_at, count_in, child_in, node_of}
use Rattle.joint.proofs.lemmas.nodes.Altering.{same_or}
use Rattle.joint.proofs.lemmas.nodes.NodesInvariant.{some_injective, node_is, node_in, orderly_stored}

-- an empty node has no children
bare_view : {P : Type 0} (g : Bool) (v : Option (Slot P)) → (view g v).count ≡ 0 → (b : ℕ) → (view g v).children b ≡ Nothing
bare_view {P} g None e b = refl
bare_view {P} g (Some s) e b = by s.node e where
  by : (o : Option (Box (Form Id P) Global)) → count_in o ≡ 0 → child_in o b ≡ Nothing
  by None e = refl
  by (Some n) e = ap (λ m. hung_at (map.get m b)) (map.empty_of_len (children_of n.value) e) ∙ ap hung_at (map.get-empty nat_cmp b)

-- where a node may take over from itself, the nodes are as such a take-over gives them
pub same_gives : {P : Type 0} (F : Nodes P) (m n : ℕ) → m ≡ n → TakesOver (nodes F m) (nodes F n) → TakeOverGives (nodes F) m n (nodes F)
same_gives F m n q t = subst (λ k. TakeOverGives (nodes F) m k (nodes F)) q (itself (subst (λ k. TakesOver (nodes F m) (nodes F k)) (sym q) t)) where
  itself : TakesOver (nodes F m) (nodes F m) → TakeOverGives (nodes F) m m (nodes F)
  itself t = record {
    children = λ b. refl;
    count = refl;
    prefix = refl;
    capacity = refl;
    version = refl;
    made = refl;
    destroyed = refl;
    locked = refl;
    obsolete = refl;
    retired = refl;
    left = λ b. (let z : (nodes F m).children b ≡ Nothing = bare_view _ _ t.empty b in z ∙ ap kept (sym z));
    none_left = λ v. t.empty;
    all_left = λ v. refl;
    prefix_old = refl;
    capacity_old = refl;
    version_old = refl;
    locked_old = refl;
    obsolete_old = refl;
    made_old = refl;
    destroyed_old = refl;
    retired_old = refl;
    others = λ x nc nm. refl;
  }

module _ {P : Type 0} (F : Nodes P) (c' : State (Slot P) (Unit {0})) (beside : c' ≡ with_store F.collector c'.store) (m n : Name) (a b a' b' : Slot P) (ex : Exchanges F.collector.store m n a b a' b' c'.store) (hands : MovesTo a b a' b') where
  abbrev st : Store (Slot P)
  st = F.collector.store

  mark_old : a'.word.retired ≡ a.word.retired
  mark_old = ap (λ w. w.retired) hands.word_old

  mark : b'.word.retired ≡ b.word.retired
  mark = ap (λ w. w.retired) hands.word

  same_waits : (s s' : Slot P) → s'.word.retired ≡ s.word.retired → waits s' ≡ waits s
  same_waits s s' e = ap (λ (t : Bool). if t then 1 else 0) e

  same_waiting : (s s' : Slot P) → s'.word.retired ≡ s.word.retired → size s' ≡ size s → waiting_size s' ≡ waiting_size s
  same_waiting s s' e z = ap (λ (t : Bool). if t then size s' else 0) e ∙ ap (λ (x : ℕ). if s.word.retired then x else 0) z

  -- the counts are those of the cells where one slot's children went over into another
  pub kept_exchanged : (k : Counts) → IsKept k F → IsKept k (with_collector F c')
  kept_exchanged k kept =
      let e0 : sizes c'.store + size a + size b ≡ sizes st + size a' + size b' = ex.sums size in
      let e1 : waiting c'.store + waits a + waits b ≡ waiting st + waits a' + waits b' = ex.sums waits in
      let e2 : waiting_bytes c'.store + waiting_size a + waiting_size b ≡ waiting_bytes st + waiting_size a' + waiting_size b' = ex.sums waiting_size in
      let w1 = same_waits a a' mark_old in
      let w2 = same_waits b b' mark in
      let z1 = same_waiting a a' mark_old hands.size_old in
      let z2 = same_waiting b b' mark hands.size_is in
      let c : F.charge ≡ F.base + sizes st = kept.charged in
      let p : IsMark a (mark_at k.cell_marks.items m.cell) = kept.marks_are m a ex.was_old in
      let q : IsMark b (mark_at k.cell_marks.items n.cell) = kept.marks_are n b ex.was in
      let p' : IsMark a' (mark_at k.cell_marks.items m.cell) = record { size_is = hands.size_old ∙ p.size_is; waits_is = mark_old ∙ p.waits_is } in
      let q' : IsMark b' (mark_at k.cell_marks.items n.cell) = record { size_is = hands.size_is ∙ q.size_is; waits_is = mark ∙ q.waits_is } in
      record {
        orderly = orderly_stored F.collector c' beside kept.orderly;
        charged = omega (arith, c, e0, hands.size_old, hands.size_is);
        standing_is = (let e3 = ex.sums (λ x. 1) in omega (arith, e3, kept.standing_is));
        count_is = omega (arith, e1, w1, w2, kept.count_is);
        bytes_is = omega (arith, e2, z1, z2, kept.bytes_is);
        whole = λ x s e. elim (same_or x m) [
          | inl y ↦ (let z : a' ≡ s = some_injective a' s (sym ex.is_old ∙ ap (value_at c'.store) (sym y) ∙ e) in subst (λ (t : Slot P). IsWhole t.node) z hands.whole_old)
          | inr nm ↦ elim (same_or x n) [
            | inl y ↦ (let z : b' ≡ s = some_injective b' s (sym ex.is ∙ ap (value_at c'.store) (sym y) ∙ e) in subst (λ (t : Slot P). IsWhole t.node) z hands.whole)
            | inr nn ↦ kept.whole x s (sym (ex.others x nm nn) ∙ e)
          ]
        ];
        marks_are = λ x s e. elim (same_or x m) [
          | inl y ↦ (let z : a' ≡ s = some_injective a' s (sym ex.is_old ∙ ap (value_at c'.store) (sym y) ∙ e) in subst (λ (t : Slot P). IsMark t (mark_at k.cell_marks.items x.cell)) z (subst (λ (t : Name). IsMark a' (mark_at k.cell_marks.items t.cell)) (sym y) p'))
          | inr nm ↦ elim (same_or x n) [
            | inl y ↦ (let z : b' ≡ s = some_injective b' s (sym ex.is ∙ ap (value_at c'.store) (sym y) ∙ e) in subst (λ (t : Slot P). IsMark t (mark_at k.cell_marks.items x.cell)) z (subst (λ (t : Name). IsMark b' (mark_at k.cell_marks.items t.cell)) (sym y) q'))
            | inr nn ↦ kept.marks_are x s (sym (ex.others x nm nn) ∙ e)
          ]
        ];
        wide = kept.wide ∙ sym ex.wide;
        bounded = omega (arith, kept.bounded, ex.wide, ex.most);
        few = omega (arith, kept.few, ex.most);
        used = λ i l. (let p = kept.used i (omega (arith, l, ex.wide)) in omega (arith, p, ex.turns i));
        turns = λ i. (let t = kept.turns i in omega (arith, t, ex.turns i, ex.turn_max));
        last = omega (arith, kept.last, ex.turn_max);
        roomy = omega (arith, kept.roomy, ex.most);
      }

  module _ (G : Nodes P) (view_is : F ≡ G) where
    -- the nodes then are those that a take-over of the first node's children by the second gives
    pub gives_exchanged : TakeOverGives (nodes G) (number m) (number n) (heap c'.store)
    gives_exchanged =
        let oa : nodes G (number m) ≡ node_of a = node_in F G view_is m a ex.was_old in
        let ob : nodes G (number n) ≡ node_of b = node_in F G view_is n b ex.was in
        let na : heap c'.store (number m) ≡ node_of a' = node_is c'.store m a' ex.is_old in
        let nb : heap c'.store (number n) ≡ node_of b' = node_is c'.store n b' ex.is in
        record {
          children = λ k. ap (λ x. x.children k) nb ∙ hands.children k ∙ sym (ap (λ x. x.children k) oa);
          count = ap (λ x. x.count) nb ∙ hands.count ∙ sym (ap (λ x. x.count) oa);
          prefix = ap (λ x. x.prefix) nb ∙ hands.prefix ∙ sym (ap (λ x. x.prefix) ob);
          capacity = ap (λ x. x.capacity) nb ∙ hands.capacity ∙ sym (ap (λ x. x.capacity) ob);
          version = ap (λ x. x.version) nb ∙ ap (λ x. x.version) hands.word ∙ sym (ap (λ x. x.version) ob);
          made = ap (λ x. x.made) nb ∙ sym (ap (λ x. x.made) ob);
          destroyed = ap (λ x. x.destroyed) nb ∙ sym (ap (λ x. x.destroyed) ob);
          locked = ap (λ x. x.locked) nb ∙ ap (λ x. x.locked) hands.word ∙ sym (ap (λ x. x.locked) ob);
          obsolete = ap (λ x. x.obsolete) nb ∙ ap (λ x. x.obsolete) hands.word ∙ sym (ap (λ x. x.obsolete) ob);
          retired = ap (λ x. x.retired) nb ∙ ap (λ x. x.retired) hands.word ∙ sym (ap (λ x. x.retired) ob);
          left = λ k. ap (λ x. x.children k) na ∙ hands.left k ∙ ap kept (sym (ap (λ x. x.children k) oa));
          none_left = λ v. ap (λ x. x.count) na ∙ hands.none_left (subst (λ x. HoldsValues x) oa v);
          all_left = λ v. ap (λ x. x.count) na ∙ hands.all_left (subst (λ x. HoldsNodes x) oa v) ∙ sym (ap (λ x. x.count) oa);
          capacity_old = ap (λ x. x.capacity) na ∙ hands.capacity_old ∙ sym (ap (λ x. x.capacity) oa);
          prefix_old = ap (λ x. x.prefix) na ∙ hands.prefix_old ∙ sym (ap (λ x. x.prefix) oa);
          version_old = ap (λ x. x.version) na ∙ ap (λ x. x.version) hands.word_old ∙ sym (ap (λ x. x.version) oa);
          locked_old = ap (λ x. x.locked) na ∙ ap (λ x. x.locked) hands.word_old ∙ sym (ap (λ x. x.locked) oa);
          obsolete_old = ap (λ x. x.obsolete) na ∙ ap (λ x. x.obsolete) hands.word_old ∙ sym (ap (λ x. x.obsolete) oa);
          made_old = ap (λ x. x.made) na ∙ sym (ap (λ x. x.made) oa);
          destroyed_old = ap (λ x. x.destroyed) na ∙ sym (ap (λ x. x.destroyed) oa);
          retired_old = ap (λ x. x.retired) na ∙ ap (λ x. x.retired) hands.word_old ∙ sym (ap (λ x. x.retired) oa);
          others = λ x nc nm.
              let am : named x ≢ m = λ e. nm (sym (number_named x) ∙ ap number e) in
              let an : named x ≢ n = λ e. nc (sym (number_named x) ∙ ap number e) in
              ap (λ g. view g (value_at c'.store (named x))) (ex.given (named x)) ∙ ap (λ v. view (was_given st (named x)) v) (ex.others (named x) am an) ∙ ap (λ y. nodes y x) view_is;
        }

-- where one node may take over from another, so may the nodes that their slots show
pub takes_in : {P : Type 0} (F G : Nodes P) (view_is : F ≡ G) (m n : Name) (x y : Slot P) → value_at F.collector.store m ≡ Some x → value_at F.collector.store n ≡ Some y → TakesOver (nodes G (number m)) (nodes G (number n)) → TakesOver (node_of x) (node_of y)
takes_in F G view_is m n x y e f takes = subst (λ z. TakesOver z (node_of y)) (node_in F G view_is m x e) (subst (λ z. TakesOver (nodes G (number m)) z) (node_in F G view_is n y f) takes)
