-- A root alone in the collector's cells.
use Rattle.std.proofs.Common.{◌≡◌, ◌≢◌, ℕ, zero, suc, ◌+◌, ◌==◌, ◌<◌, ◌≤◌, Bool, true, false, List, [], ◌∷◌, length, get_or, refl, sym, ◌∙◌, ap, subst, inl, inr, arith}
use Rattle.std.specs.Prelude.{Option, None, Some, is_some, nat_lt, slice_set, if◌then◌else◌}
use Rattle.std.proofs.lemmas.Bool.{cases_eq}
use Rattle.std.proofs.lemmas.Bool.Decides.{nat_tests}
use Rattle.std.proofs.lemmas.List.{get_or_past}
use Rattle.std.proofs.lemmas.List.Sums.{sum_by-cons}
use Rattle.crossbeam_epoch.specs.declared.world.cells.Cell.{Cell}
use Rattle.crossbeam_epoch.specs.declared.limits.Limits.{Limits as EpochLimits}
use Rattle.crossbeam_epoch.specs.declared.names.Name.{Name}
use Rattle.crossbeam_epoch.specs.declared.names.Ptr.{Ptr}
use Rattle.crossbeam_epoch.specs.world.Fits.{Fits, IsTable}
use Rattle.crossbeam_epoch.specs.world.History.{Mark}
use Rattle.crossbeam_epoch.specs.world.Machine.{State, opened, with_store, with_roots}
use Rattle.crossbeam_epoch.specs.world.Progress.{IsResting}
use Rattle.crossbeam_epoch.specs.world.Reach.{Quiet, moment, HasMoments}
use Rattle.crossbeam_epoch.specs.world.Store.{Store, IsNext, fresh, cell_at, value_in, value_at, was_given, opened_store}
use Rattle.congee.specs.declared.forms.base_node.NodeType.TheVariants.{N256}
use Rattle.congee.specs.protocol.Bounds.{Within}
use Rattle.congee.specs.protocol.Opening.{FreshRoot}
use Rattle.joint.specs.declared.nodes.counts.Counts.{Counts}
use Rattle.joint.specs.declared.nodes.counts.CellMark.{CellMark}
use Rattle.joint.specs.declared.limits.Limits.{Limits}
use Rattle.joint.specs.declared.nodes.slot.Slot.{Slot}
use Rattle.joint.specs.nodes.Altering.{Fills, IsNewSlot}
use Rattle.joint.specs.nodes.Nodes.{Nodes, nodes, of_cell, total, size, waits, waiting_size, sizes, waiting, waiting_bytes, IsMark, IsKept}
use Rattle.joint.specs.Limits.{AreAllowed}
use Rattle.joint.specs.nodes.Slots.{slot_names}
use Rattle.joint.specs.NameLemmas.{number_named}
use Rattle.joint.specs.Names.{number, named}
use Rattle.joint.specs.nodes.Opening.{top, top_roots, IsPlanted, IsOpened}
use Rattle.joint.specs.nodes.Solid.{IsWhole}
use Rattle.joint.specs.nodes.CellMarks.{mark_at, with_mark}
use Rattle.joint.specs.nodes.View.{view, node_of}
use Rattle.joint.proofs.lemmas.nodes.Altering.{cell_of, given}
use Rattle.joint.proofs.lemmas.nodes.NodesInvariant.{some_injective}

next_top : {T : Type 0} (most last : ℕ) (n : Name) → IsNext (opened_store {T = T} most last) n → n ≡ top
next_top {T} most last n next =
    let c : n.cell ≡ 0 = (let l = next.near in omega (arith, l)) in
    let f : get_or {A = Cell T} [] n.cell fresh ≡ fresh = get_or_past [] n.cell fresh (omega arith) in
    let t : n.turn ≡ 0 = next.turn ∙ ap (λ x. x.turns) f in
    ap (λ x. record { cell = x; turn = n.turn }) c ∙ ap (λ x. record { cell = 0; turn = x }) t

live_given : {T : Type 0} (st : Store T) (n : Name) → is_some (value_at st n) ≡ true → was_given st n ≡ true
live_given {T} st n e = go (value_at st n) refl
  where
    go : (o : Option T) → value_at st n ≡ o → was_given st n ≡ true
    go None z = (let b : false ≡ true = sym (ap is_some z) ∙ e in absurd (cc b))
    go (Some v) z = given st n v z

module _ {P : Type 0} (limits : EpochLimits) (s0 c1 c2 : State (Slot P) (Unit {0})) (name : Name) (slot : Slot P)
    (opens : s0 ≡ opened limits 1) (told0 : HasMoments slot_names (moment slot_names Quiet s0 ∷ []) s0)
    (beside : c1 ≡ with_store s0 c1.store) (fills : Fills s0.store name slot c1.store)
    (stored : c2 ≡ with_roots c1 (slice_set c1.roots 0 (record { name = Some name; tag = 0 })))
    (resting : IsResting (opened {T = Slot P} {J = Unit {0}} limits 1))
    (law_fits : (h : List Mark) (s : State (Slot P) (Unit {0})) (st : Store (Slot P)) → Fits h s → Fits h (with_store s st))
    (law_rooted : (h : List Mark) (s : State (Slot P) (Unit {0})) (roots : List Ptr) → Fits h s → Fits h (with_roots s roots)) where
  abbrev o : State (Slot P) (Unit {0})
  o = opened limits 1

  abbrev pointer : Ptr
  pointer = record { name = Some name; tag = 0 }

  -- the first name that is given is the root's
  pub is_top : name ≡ top
  is_top = next_top limits.cells limits.turn_max name (subst (λ x. IsNext x.store name) opens fills.next)

  same_store : c2.store ≡ c1.store
  same_store = ap (λ x. x.store) stored

  came : c2 ≡ with_roots (with_store o c1.store) (pointer ∷ [])
  came = stored ∙ ap (λ x. with_roots x (slice_set x.roots 0 pointer)) (beside ∙ ap (λ x. with_store x c1.store) opens)

  -- the collector is a fresh one but for its cells and its root
  pub opened_collector : c2 ≡ with_roots (with_store o c2.store) top_roots
  opened_collector = came ∙ ap (λ n. with_roots (with_store o c1.store) (record { name = Some n; tag = 0 } ∷ [])) is_top ∙ ap (λ st. with_roots (with_store o st) top_roots) (sym same_store)

  -- the root's slot is put under the first name of empty cells
  pub root_is : Fills (opened_store limits.cells limits.turn_max) top slot c2.store
  root_is =
      subst (λ st. Fills (opened_store limits.cells limits.turn_max) top slot st) (sym same_store)
      (subst (λ n. Fills (opened_store limits.cells limits.turn_max) n slot c1.store) is_top
      (subst (λ x. Fills x.store name slot c1.store) opens fills))

  -- this one moment, at which nothing is done, leads to the collector as it stands
  pub told_is : HasMoments slot_names (moment slot_names Quiet c2 ∷ []) c2
  told_is =
      let told : HasMoments slot_names (moment slot_names Quiet o ∷ []) o = subst (λ x. HasMoments slot_names (moment slot_names Quiet x ∷ []) x) opens told0 in
      let f : Fits [] (with_roots (with_store o c1.store) (pointer ∷ [])) = law_rooted [] (with_store o c1.store) (pointer ∷ []) (law_fits [] o c1.store told.fits) in
      record {
        fits = subst (Fits []) (sym came) f;
        now = (refl, λ n. refl, λ n. refl);
        ends = tt;
        table = subst (λ (x : State (Slot P) (Unit {0})). IsTable x.limits.participants x.table) (sym came) told.table;
        given = λ n w. elim w [ inl l ↦ live_given c2.store n l | inr x ↦ absurd x ];
      }

  -- no call on the collector is in flight
  pub resting_is : IsResting c2
  resting_is =
      let r : IsResting (with_roots (with_store o c1.store) (pointer ∷ [])) = record {
        orderly = record { hands = resting.orderly.hands; bags = resting.orderly.bags; held = resting.orderly.held; sealed = resting.orderly.sealed };
        idle = resting.idle;
      } in
      subst IsResting (sym came) r

abbrev root_mark : CellMark
root_mark = record { form = N256; waits = false }

-- the root's mark is the only one where no cell had one before
pub noted_root : (ts : List CellMark) (old : List CellMark) (n : Name) → ts ≡ with_mark old n.cell root_mark → old ≡ [] → n ≡ top → ts ≡ root_mark ∷ []
noted_root ts old n e none is = e ∙ ap (λ x. with_mark x n.cell root_mark) none ∙ ap (λ (x : Name). with_mark [] x.cell root_mark) is

-- the cells with a root alone
module _ {P : Type 0} (limits : Limits) (F : Nodes P) (k : Counts) (planted : IsPlanted limits.epoch F.collector k) (allowed : AreAllowed limits) where
  abbrev s : Slot P
  s = planted.root.0

  abbrev st : Store (Slot P)
  st = F.collector.store

  abbrev st0 : Store (Slot P)
  st0 = opened_store limits.epoch.cells limits.epoch.turn_max

  abbrev one : Store (Slot P)
  one = record { cells = record { turns = 1; value = Some s } ∷ []; most = limits.epoch.cells; turn_max = limits.epoch.turn_max }

  fills : Fills st0 top s st
  fills = planted.root.1.0

  new : IsNewSlot s N256 []
  new = planted.root.1.1

  store_is : st ≡ one
  store_is = fills.state

  in_one : (i : ℕ) (x : Slot P) → (cell_at one i).value ≡ Some x → (i ≡ 0) × (s ≡ x)
  in_one zero x e = (refl, some_injective s x e)
  in_one (suc i) x e = (let f : get_or {A = Cell (Slot P)} [] i fresh ≡ fresh = get_or_past [] i fresh (omega arith) in let z : None ≡ Some x = sym (ap (λ y. y.value) f) ∙ e in absurd (cc z))

  of_one : (n : Name) (x : Slot P) → value_at st n ≡ Some x → (n.cell ≡ 0) × (s ≡ x)
  of_one n x e = in_one n.cell x (cell_of (cell_at one n.cell) n.turn x (ap (λ y. value_at y n) (sym store_is) ∙ e)).1

  turns_one : (i : ℕ) → (cell_at one i).turns ≤ limits.epoch.turn_max + 1
  turns_one zero = omega arith
  turns_one (suc i) = (let f : (get_or {A = Cell (Slot P)} [] i fresh).turns ≡ 0 = (let q : get_or {A = Cell (Slot P)} [] i fresh ≡ fresh = get_or_past [] i fresh (omega arith) in ap (λ y. y.turns) q) in omega (arith, f))

  used_one : (i : ℕ) → i < 1 → 1 ≤ (cell_at st i).turns
  used_one i l = (let z : i ≡ 0 = omega (arith, l) in let q : (cell_at st i).turns ≡ 1 = ap (λ j. (cell_at st j).turns) z ∙ ap (λ y. (cell_at y 0).turns) store_is in omega (arith, q))

  one_total : (f : Slot P → ℕ) → total f one ≡ f s
  one_total f = (let e = sum_by-cons (of_cell f) (record { turns = 1; value = Some s }) [] in omega (arith, e))

  free : s.word.retired ≡ false
  free = ap (λ w. w.retired) new.word

  -- where the root alone is charged, the counts are those of the cells
  pub kept_planted : F.charge ≡ F.base + 2104 → IsKept k F
  kept_planted charge =
      let w1 : waits s ≡ 0 = ap (λ (b : Bool). if b then 1 else 0) free in
      let w2 : waiting_size s ≡ 0 = ap (λ (b : Bool). if b then size s else 0) free in
      let z : size s ≡ 2104 = new.size_is in
      let e0 : sizes st ≡ size s = ap sizes store_is ∙ one_total size in
      let e1 : waiting st ≡ waits s = ap waiting store_is ∙ one_total waits in
      let e2 : waiting_bytes st ≡ waiting_size s = ap waiting_bytes store_is ∙ one_total waiting_size in
      let most : st.most ≡ limits.epoch.cells = ap (λ y. y.most) store_is in
      let last : st.turn_max ≡ limits.epoch.turn_max = ap (λ y. y.turn_max) store_is in
      let long : length st.cells ≡ 1 = ap (λ y. length y.cells) store_is in
      let cell_mark : IsMark s (mark_at k.cell_marks.items 0) = subst (λ ts. IsMark s (mark_at ts 0)) (sym planted.cell_marks) (record { size_is = new.size_is; waits_is = free }) in
      record {
        orderly = planted.resting.orderly;
        charged = omega (arith, charge, e0, z);
        standing_is = planted.one ∙ sym (ap (total (λ x. 1)) store_is ∙ one_total (λ x. 1));
        count_is = omega (arith, planted.none, e1, w1);
        bytes_is = omega (arith, planted.no_bytes, e2, w2);
        whole = λ n x e. subst (λ (y : Slot P). IsWhole y.node) (of_one n x e).1 new.whole;
        marks_are = λ n x e. subst (λ (y : Slot P). IsMark y (mark_at k.cell_marks.items n.cell)) (of_one n x e).1 (subst (λ i. IsMark s (mark_at k.cell_marks.items i)) (sym (of_one n x e).0) cell_mark);
        wide = ap length planted.cell_marks ∙ sym long;
        bounded = omega (arith, long, most, allowed.some_cell);
        few = omega (arith, most, allowed.cells);
        used = λ i l. used_one i (omega (arith, l, long));
        turns = λ i. (let a : (cell_at st i).turns ≡ (cell_at one i).turns = ap (λ y. (cell_at y i).turns) store_is in let b = turns_one i in omega (arith, a, b, last));
        last = omega (arith, last, planted.last);
        roomy = omega (arith, most, planted.room);
      }

  either : {T : Type 0} (b : Bool) → ◌≡◌ {A = Option T} (if b then None else None) None
  either true = refl
  either false = refl

  empty_value : (n : Name) → value_at st0 n ≡ None
  empty_value n = ap (λ c. value_in c n.turn) (get_or_past [] n.cell fresh (omega arith)) ∙ either (0 == n.turn + 1)

  empty_given : (n : Name) → was_given st0 n ≡ false
  empty_given n = ap (λ (c : Cell (Slot P)). nat_lt n.turn c.turns) (get_or_past [] n.cell fresh (omega arith)) ∙ (let z : nat_lt n.turn 0 ≡ false = grind (arith, nat_tests) in z)

  root_node : nodes F 0 ≡ node_of s
  root_node = ap (λ g. view g (value_at st top)) fills.sets.used ∙ ap (λ v. view true v) fills.sets.value

  other_node : (n : ℕ) → n ≢ 0 → nodes F n ≡ view {P = P} false None
  other_node n ne =
      let apart : named n ≢ top = λ e. ne (sym (number_named n) ∙ ap number e) in
      ap (λ g. view g (value_at st (named n))) (fills.sets.given (named n) apart ∙ empty_given (named n)) ∙ ap (λ v. view false v) (fills.sets.others (named n) apart ∙ empty_value (named n))

  fresh_root : FreshRoot (nodes F)
  fresh_root = record {
    alone = record {
      empty = ap (λ x. x.prefix) root_node ∙ new.prefix_is;
      bare = λ b. ap (λ x. x.children b) root_node ∙ new.blank b;
      stands = record { made = ap (λ x. x.made) root_node; kept = ap (λ x. x.destroyed) root_node };
      wide = ap (λ x. x.capacity) root_node ∙ new.capacity;
      unretired = ap (λ x. x.retired) root_node ∙ free;
      live = ap (λ x. x.obsolete) root_node ∙ ap (λ w. w.obsolete) new.word;
    };
    unlocked = ap (λ x. x.locked) root_node ∙ ap (λ w. w.locked) new.word;
    others = λ n ne. ap (λ x. x.made) (other_node n ne);
  }

  within_root : (most : ℕ) → Within most (nodes F)
  within_root most n stands = elim (cases_eq n 0) [
    | inl e ↦ (
        let v : (nodes F n).version ≡ 0 = ap (λ i. (nodes F i).version) e ∙ ap (λ x. x.version) root_node ∙ ap (λ w. w.version) new.word in
        let l : (nodes F n).locked ≡ false = ap (λ i. (nodes F i).locked) e ∙ fresh_root.unlocked in
        record { low = omega (arith, v); locked = λ t. (let bad : true ≡ false = sym t ∙ l in absurd (cc bad)) })
    | inr ne ↦ (let bad : true ≡ false = sym stands.made ∙ ap (λ x. x.made) (other_node n ne) in absurd (cc bad))
  ]

  -- with the root charged within the limit, the nodes are opened: a root alone
  pub is_opened : (charge limit : ℕ) → charge + 2104 ≤ limit → F.base ≡ charge → F.charge ≡ charge + 2104 → F.limit ≡ limit → F.version_max ≡ limits.version_max → IsOpened limits charge limit F
  is_opened charge limit fits base charged limit_is versions = record {
    allowed = allowed;
    fresh = fresh_root;
    bare = record {
      childless = ap (λ x. x.count) root_node ∙ new.empty;
      first = ap (λ x. x.version) root_node ∙ ap (λ w. w.version) new.word;
      live = ap (λ x. x.obsolete) root_node ∙ ap (λ w. w.obsolete) new.word;
    };
    within = within_root limits.version_max;
    rooted = record { only = ap (λ x. x.roots) planted.collector_is; first = refl };
    resting = planted.resting;
    collector_is = planted.collector_is;
    told = planted.told;
    base = base;
    fits = fits;
    charged = charged;
    limit_is = limit_is;
    versions = versions;
  }
