-- The steps that change a lock word, a life or a mark: lock, unlock, marks, making and giving back.
use Rattle.std.proofs.Common.{◌≡◌, ◌≢◌, ℕ, zero, suc, ◌+◌, ◌≤◌, ◌==◌, true, false, List, length, refl, sym, ◌∙◌, ap, subst, arith}
use Rattle.std.specs.Prelude.{None, Some}
use Rattle.congee.specs.declared.forms.base_node.NodeType.{NodeType}
use Rattle.congee.specs.Heap.{Node, Stands, walk, value_at, is_taken}
use Rattle.congee.specs.protocol.Events.{SameBut, NewNode, BackGives, ObsoleteGives, RetireGives, UnlockGives}
use Rattle.congee.specs.Notes.{Note, Unmade, Held, Linked, Gone, Back, is_published, IsChild, HasParent, Tree, WordAt, LockWords}
use Rattle.congee.specs.protocol.Protocol.{Stamped, Made, Holding, TakenOut, Fares, Effect}
use Rattle.congee.proofs.lemmas.Fits.{both_true, equal_of_test}
use Rattle.congee.proofs.lemmas.Tree.{step_same}
use Rattle.congee.proofs.lemmas.protocol.Touch.{fares_locked, fares_free, fares_mine, fares_retired, fares_made, fares_back, noted, noted_same, noted_other, with_owner, owned, under_lock, out_of_reach, touched_effect, not_taken, taken_linked, taken_not_locked, locked_not_free, owner_locked, tree_same, same_map, but_one, but_note, touch_one}

-- a step that leaves the map
pub record KeepsMap {V : Type 0} (i : ℕ) (a : ℕ → Note) (h : ℕ → Node V) (a' : ℕ → Note) (h' : ℕ → Node V) : Type 0 where
  pub effect : Effect i a h a' h'
  pub map : (x : List ℕ) → length x ≡ 8 → value_at h' x ≡ value_at h x

-- a change of the owner, the lock word and the marks of one published node
pub record Reworded {V : Type 0} (i : ℕ) (a : ℕ → Note) (h : ℕ → Node V) (a' : ℕ → Note) (h' : ℕ → Node V) (n : ℕ) : Type 0 where
  pub nodes : (m : ℕ) → m ≢ n → h' m ≡ h m
  pub notes : (m : ℕ) → m ≢ n → a' m ≡ a m
  pub status : (a' n).status ≡ (a n).status
  pub parent : (a' n).parent ≡ (a n).parent
  pub prefix : (h' n).prefix ≡ (h n).prefix
  pub children : (b : ℕ) → (h' n).children b ≡ (h n).children b
  pub capacity : (h' n).capacity ≡ (h n).capacity
  pub published : is_published (a n).status ≡ true
  pub version : (h n).version ≤ (h' n).version
  pub untaken : (v : ℕ) → v ≤ (h n).version → is_taken (h' n) v ≡ true → ⊥
  pub nobody : (j : ℕ) → j ≢ i → (a n).owner ≡ Some j → ⊥
  pub word : WordAt (a' n) (h' n)
  pub fares : Fares i (a n) (a' n) (h n) (h' n)

-- another owner, lock word or mark of one published node leaves the map
reworded : {V : Type 0} (i : ℕ) (a : ℕ → Note) (h : ℕ → Node V) (a' : ℕ → Note) (h' : ℕ → Node V) (n : ℕ) → Tree a h → LockWords a h → Reworded i a h a' h' n → KeepsMap i a h a' h'
reworded {V} i a h a' h' n t w r =
    let pr : (m : ℕ) → (h' m).prefix ≡ (h m).prefix = but_one (λ y z. y.prefix ≡ z.prefix) h h' n (λ x. refl) r.nodes r.prefix in
    let ch : (m b : ℕ) → (h' m).children b ≡ (h m).children b = λ m b. but_one (λ y z. y.children b ≡ z.children b) h h' n (λ x. refl) r.nodes (r.children b) m in
    let st : (m : ℕ) → (a' m).status ≡ (a m).status = but_note (λ y z. y.status ≡ z.status) a a' n (λ x. refl) r.notes r.status in
    let pa : (m : ℕ) → (a' m).parent ≡ (a m).parent = but_note (λ y z. y.parent ≡ z.parent) a a' n (λ x. refl) r.notes r.parent in
    record {
      effect = touched_effect i a h a' h' w (tree_same a h a' h' t st pa pr ch) (but_one (λ y z. y.capacity ≡ z.capacity) h h' n (λ x. refl) r.nodes r.capacity 0)
          (touch_one i a h a' h' n r.nodes r.notes (under_lock r.published (rw r.status r.published) r.prefix r.version r.untaken r.nobody r.word r.fares));
      map = λ x _. same_map h h' pr ch 8 0 x;
    }

-- the lock of a node that was taken
pub lock_still : {V : Type 0} (i : ℕ) (a : ℕ → Note) (h : ℕ → Node V) (n v : ℕ) (h' : ℕ → Node V) → Tree a h → LockWords a h → Stamped a h n v → is_taken (h n) v ≡ true
    → SameBut h n (record (h n) { locked = true }) h' → KeepsMap i a h (with_owner a n (Some i)) h'
lock_still i a h n v h' t w s k g =
    let l : (a n).status ≡ Linked = taken_linked a h w n v s.published k in
    let o : (a n).owner ≡ None = (w.each n).free (taken_not_locked (h n) v k) in
    let same : with_owner a n (Some i) n ≡ owned (a n) (Some i) = noted_same a n _ in
    let lk : (h' n).locked ≡ true = rw g.after refl in
    reworded i a h (with_owner a n (Some i)) h' n t w (record {
      nodes = g.others;
      notes = noted_other a n _;
      status = rw same refl;
      parent = rw same refl;
      prefix = rw g.after refl;
      children = λ b. rw g.after refl;
      capacity = rw g.after refl;
      published = s.published;
      version = rw g.after (omega arith);
      untaken = λ u _ q. not_taken (h' n) u lk q;
      nobody = λ j _ e. let z : Some j ≡ None = sym e ∙ o in cc;
      word = record {
        free = λ f. absurd cc;
        gone = λ e. locked_not_free (h' n) lk;
        unmade = λ f. rw same ((w.each n).unmade (rw g.after at f));
        stands = λ p. let q : Stands (h n) = (w.each n).stands s.published in record { made = rw g.after q.made; kept = rw g.after q.kept };
        unretired = λ e. rw g.after ((w.each n).unretired l);
        live = λ e. rw g.after ((w.each n).live l);
        keyed = λ e. rw g.after ((w.each n).keyed l);
      };
      fares = fares_locked i (a n) _ (h n) (h' n) (taken_not_locked (h n) v k) (rw same refl) (rw same l) (rw g.after refl);
    })

-- the lock goes
pub unlock_still : {V : Type 0} (i : ℕ) (a : ℕ → Note) (h : ℕ → Node V) (n : ℕ) (h' : ℕ → Node V) → Tree a h → LockWords a h → Holding i a n → UnlockGives h n h'
    → KeepsMap i a h (with_owner a n None) h'
unlock_still i a h n h' t w o g =
    let same : with_owner a n None n ≡ owned (a n) None = noted_same a n _ in
    reworded i a h (with_owner a n None) h' n t w (record {
      nodes = g.others;
      notes = noted_other a n _;
      status = rw same refl;
      parent = rw same refl;
      prefix = rw g.after refl;
      children = λ b. rw g.after refl;
      capacity = rw g.after refl;
      published = ap is_published o.linked;
      version = rw g.after (omega arith);
      untaken = λ u le q. let e : (h n).version + 1 ≡ u = equal_of_test _ u (both_true ((h n).version + 1 == u) _ (rw g.after at q)).0 in absurd (omega arith);
      nobody = λ j ne e. let z : Some i ≡ Some j = sym o.owner ∙ e in ne (sym cc);
      word = record {
        free = λ f. rw same refl;
        gone = λ e. let z : Linked ≡ Gone = sym o.linked ∙ (rw same at e) in cc;
        unmade = λ f. rw same ((w.each n).unmade (rw g.after at f));
        stands = λ p. let q : Stands (h n) = (w.each n).stands (ap is_published o.linked) in record { made = rw g.after q.made; kept = rw g.after q.kept };
        unretired = λ e. rw g.after ((w.each n).unretired o.linked);
        live = λ e. rw g.after ((w.each n).live o.linked);
        keyed = λ e. rw g.after ((w.each n).keyed o.linked);
      };
      fares = fares_free i (a n) _ (h n) (h' n) (rw same refl) (rw same o.linked) (rw g.after refl);
    })

-- the node that was taken out is marked
pub obsolete_still : {V : Type 0} (i : ℕ) (a : ℕ → Note) (h : ℕ → Node V) (p n : ℕ) (h' : ℕ → Node V) → Tree a h → LockWords a h → TakenOut i a h p n → ObsoleteGives h n h' → KeepsMap i a h a h'
obsolete_still i a h p n h' t w o g =
    let lk : (h n).locked ≡ true = owner_locked a h w n i o.owner in
    let lk' : (h' n).locked ≡ true = rw g.after lk in
    reworded i a h a h' n t w (record {
      nodes = g.others;
      notes = λ m _. refl;
      status = refl;
      parent = refl;
      prefix = rw g.after refl;
      children = λ b. rw g.after refl;
      capacity = rw g.after refl;
      published = ap is_published o.gone;
      version = rw g.after (omega arith);
      untaken = λ u _ q. not_taken (h' n) u lk' q;
      nobody = λ j ne e. let z : Some i ≡ Some j = sym o.owner ∙ e in ne (sym cc);
      word = record {
        free = λ f. absurd cc;
        gone = λ e. locked_not_free (h' n) lk';
        unmade = λ f. (w.each n).unmade (rw g.after at f);
        stands = λ q. let s : Stands (h n) = (w.each n).stands q in record { made = rw g.after s.made; kept = rw g.after s.kept };
        unretired = λ e. let z : Gone ≡ Linked = sym o.gone ∙ e in cc;
        live = λ e. let z : Gone ≡ Linked = sym o.gone ∙ e in cc;
        keyed = λ e. let z : Gone ≡ Linked = sym o.gone ∙ e in cc;
      };
      fares = fares_mine i (a n) (a n) (h n) (h' n) o.owner o.owner (ap is_published o.gone) (rw g.after refl);
    })

-- and handed over
pub retire_still : {V : Type 0} (i : ℕ) (a : ℕ → Note) (h : ℕ → Node V) (p n : ℕ) (h' : ℕ → Node V) → Tree a h → LockWords a h → TakenOut i a h p n → RetireGives h n h'
    → KeepsMap i a h (with_owner a n None) h'
retire_still i a h p n h' t w o g =
    let same : with_owner a n None n ≡ owned (a n) None = noted_same a n _ in
    let lk : (h n).locked ≡ true = owner_locked a h w n i o.owner in
    let lk' : (h' n).locked ≡ true = rw g.after lk in
    reworded i a h (with_owner a n None) h' n t w (record {
      nodes = g.others;
      notes = noted_other a n _;
      status = rw same refl;
      parent = rw same refl;
      prefix = rw g.after refl;
      children = λ b. rw g.after refl;
      capacity = rw g.after refl;
      published = ap is_published o.gone;
      version = rw g.after (omega arith);
      untaken = λ u _ q. not_taken (h' n) u lk' q;
      nobody = λ j ne e. let z : Some i ≡ Some j = sym o.owner ∙ e in ne (sym cc);
      word = record {
        free = λ f. absurd cc;
        gone = λ e. locked_not_free (h' n) lk';
        unmade = λ f. rw same ((w.each n).unmade (rw g.after at f));
        stands = λ q. let s : Stands (h n) = (w.each n).stands (ap is_published o.gone) in record { made = rw g.after s.made; kept = rw g.after s.kept };
        unretired = λ e. let z : Gone ≡ Linked = sym o.gone ∙ (rw same at e) in cc;
        live = λ e. let z : Gone ≡ Linked = sym o.gone ∙ (rw same at e) in cc;
        keyed = λ e. let z : Gone ≡ Linked = sym o.gone ∙ (rw same at e) in cc;
      };
      fares = fares_retired i (a n) _ (h n) (h' n) o.gone (rw same refl) (rw same o.gone) (rw g.after refl);
    })

-- a change of one node that isn't in reach
pub record Off {V : Type 0} (i : ℕ) (a : ℕ → Note) (h : ℕ → Node V) (a' : ℕ → Note) (h' : ℕ → Node V) (c : ℕ) : Type 0 where
  pub nodes : (m : ℕ) → m ≢ c → h' m ≡ h m
  pub notes : (m : ℕ) → m ≢ c → a' m ≡ a m
  pub before : is_published (a c).status ≡ false
  pub after : (a' c).status ≢ Linked
  pub nobody : (j : ℕ) → j ≢ i → (a c).status ≡ Held j → ⊥
  pub unowned : (a c).owner ≡ None
  pub word : WordAt (a' c) (h' c)
  pub fares : Fares i (a c) (a' c) (h c) (h' c)

off_other : (a : ℕ → Note) (c m : ℕ) → is_published (a c).status ≡ false → (a m).status ≡ Linked → m ≢ c
off_other a c m u l e = let z : is_published (a c).status ≡ true = ap is_published (let P : ℕ → Type 0 = λ x. (a x).status ≡ Linked in subst P e l) in cc

off_map : {V : Type 0} (i : ℕ) (a : ℕ → Note) (h : ℕ → Node V) (a' : ℕ → Note) (h' : ℕ → Node V) (c : ℕ) → Tree a h → Off i a h a' h' c → (f m : ℕ) (key : List ℕ) → (a m).status ≡ Linked → walk h' f m key ≡ walk h f m key
off_map i a h a' h' c t o zero m key l = refl
off_map i a h a' h' c t o (suc f) m key l =
    let e : h' m ≡ h m = o.nodes m (off_other a c m o.before l) in
    step_same h h' f f m key (rw e refl) (λ _. rw e refl) (λ d x. off_map i a h a' h' c t o f d key (t.down m _ d l x).linked)

off_after : (a : ℕ → Note) (c m : ℕ) → (a c).status ≢ Linked → (a m).status ≡ Linked → m ≢ c
off_after a c m u l e = u (let P : ℕ → Type 0 = λ x. (a x).status ≡ Linked in subst P e l)

off_tree : {V : Type 0} (i : ℕ) (a : ℕ → Note) (h : ℕ → Node V) (a' : ℕ → Note) (h' : ℕ → Node V) (c : ℕ) → Tree a h → Off i a h a' h' c → Tree a' h'
off_tree i a h a' h' c t o =
    let was : (m : ℕ) → (a' m).status ≡ Linked → (a m).status ≡ Linked = λ m l. rw (o.notes m (off_after a' c m o.after l)) at l in
    let node : (m : ℕ) → (a m).status ≡ Linked → h' m ≡ h m = λ m l. o.nodes m (off_other a c m o.before l) in
    let note : (m : ℕ) → (a m).status ≡ Linked → a' m ≡ a m = λ m l. o.notes m (off_other a c m o.before l) in
    record {
      root = rw (note 0 t.root) t.root;
      empty = rw (node 0 t.root) t.empty;
      short = λ m l. rw (node m (was m l)) (t.short m (was m l));
      leaves = λ m b v l e. rw (node m (was m l)) (t.leaves m b v (was m l) (rw (node m (was m l)) at e));
      down = λ m b d l e. let k : IsChild a h m b d = t.down m b d (was m l) (rw (node m (was m l)) at e) in record {
        linked = rw (note d k.linked) k.linked;
        parent = rw (note d k.linked) k.parent;
        fitted = rw (node m (was m l), node d k.linked) k.fitted;
        longer = rw (node m (was m l), node d k.linked) k.longer;
        byte = rw (node m (was m l), node d k.linked) k.byte;
      };
      up = λ m l ne. let u : HasParent a h m = t.up m (was m l) ne in record {
        linked = rw (note m (was m l)) (rw (note (a m).parent u.linked) u.linked);
        byte = u.byte;
        holds = rw (note m (was m l)) (rw (node (a m).parent u.linked) u.holds);
      };
    }

-- a change of a node that isn't in reach leaves the map
off_still : {V : Type 0} (i : ℕ) (a : ℕ → Note) (h : ℕ → Node V) (a' : ℕ → Note) (h' : ℕ → Node V) (c : ℕ) → Tree a h → LockWords a h → Off i a h a' h' c → KeepsMap i a h a' h'
off_still i a h a' h' c t w o = record {
  effect = touched_effect i a h a' h' w (off_tree i a h a' h' c t o)
      (ap (λ z. z.capacity) (o.nodes 0 (off_other a c 0 o.before t.root)))
      (touch_one i a h a' h' c o.nodes o.notes (out_of_reach o.before o.nobody o.unowned o.word o.fares));
  map = λ x _. off_map i a h a' h' c t o 8 0 x t.root;
}

-- a node is made
abbrev pub making : (ℕ → Note) → ℕ → ℕ → ℕ → Note
making a i c = noted a c (record { status = Held i; owner = None; parent = 0 })

-- a node that is made leaves the map
pub make_still : {V : Type 0} (i : ℕ) (a : ℕ → Note) (h : ℕ → Node V) (c : ℕ) (form : NodeType) (key : List ℕ) (size : ℕ) (h' : ℕ → Node V) → Tree a h → LockWords a h → NewNode h c form key size h'
    → KeepsMap i a h (making a i c) h'
make_still i a h c form key size h' t w g =
    let un : (a c).status ≡ Unmade = (w.each c).unmade g.unmade in
    let same : making a i c c ≡ record { status = Held i; owner = None; parent = 0 } = noted_same a c _ in
    off_still i a h (making a i c) h' c t w (record {
      nodes = g.others;
      notes = noted_other a c _;
      before = ap is_published un;
      after = λ l. let z : Held i ≡ Linked = rw same at l in cc;
      nobody = λ j _ e. let z : Unmade ≡ Held j = sym un ∙ e in cc;
      unowned = (w.each c).free g.unlocked;
      word = record {
        free = λ f. rw same refl;
        gone = λ e. let z : Held i ≡ Gone = rw same at e in cc;
        unmade = λ f. let z : true ≡ false = sym g.made ∙ f in cc;
        stands = λ p. let z : false ≡ true = rw same at p in cc;
        unretired = λ e. let z : Held i ≡ Linked = rw same at e in cc;
        live = λ e. let z : Held i ≡ Linked = rw same at e in cc;
        keyed = λ e. let z : Held i ≡ Linked = rw same at e in cc;
      };
      fares = fares_made i (a c) _ (h c) (h' c) g.unmade (rw same refl) (rw same refl);
    })

-- a made node goes back
abbrev pub backed : (ℕ → Note) → ℕ → ℕ → Note
backed a c = noted a c (record { status = Back; owner = None; parent = 0 })

-- a made node that goes back leaves the map
pub back_still : {V : Type 0} (i : ℕ) (a : ℕ → Note) (h : ℕ → Node V) (key : List ℕ) (c size least : ℕ) (h' : ℕ → Node V) → Tree a h → LockWords a h → Made i a h key c size least → BackGives h c h'
    → KeepsMap i a h (backed a c) h'
back_still i a h key c size least h' t w m g =
    let same : backed a c c ≡ record { status = Back; owner = None; parent = 0 } = noted_same a c _ in
    off_still i a h (backed a c) h' c t w (record {
      nodes = g.others;
      notes = noted_other a c _;
      before = ap is_published m.held;
      after = λ l. let z : Back ≡ Linked = rw same at l in cc;
      nobody = λ j ne e. let z : Held i ≡ Held j = sym m.held ∙ e in ne (sym cc);
      unowned = m.unowned;
      word = record {
        free = λ f. rw same refl;
        gone = λ e. let z : Back ≡ Gone = rw same at e in cc;
        unmade = λ f. let z : true ≡ false = sym g.made ∙ f in cc;
        stands = λ p. let z : false ≡ true = rw same at p in cc;
        unretired = λ e. let z : Back ≡ Linked = rw same at e in cc;
        live = λ e. let z : Back ≡ Linked = rw same at e in cc;
        keyed = λ e. let z : Back ≡ Linked = rw same at e in cc;
      };
      fares = fares_back i (a c) _ (h c) (h' c) (rw same refl) (rw same refl) g.gone;
    })
