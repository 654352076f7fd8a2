-- The counts that are kept beside the machine, over its steps.
use Rattle.std.proofs.Common.{◌≡◌, ◌≢◌, ℕ, zero, suc, ◌+◌, ◌*◌, ◌^◌, ◌==◌, ◌<◌, ◌≤◌, arith, Bool, true, false, cond, List, [], ◌∷◌, length, refl, sym, ◌∙◌, ap, subst, inl, inr}
use Rattle.std.proofs.Math.ListN.{set}
use Rattle.std.specs.Prelude.{Option, None, Some, Box, map, nat_eq, replicate, slice_get, if◌then◌else◌}
use Rattle.std.specs.FinMap.{empty, get, len, empty_of_len, get-empty, len-empty}
use Rattle.std.specs.Ordering.{nat_cmp}
use Rattle.std.specs.List.{Contains, flat_map, sum_by}
use Rattle.std.proofs.lemmas.Bool.{eqb-true}
use Rattle.std.proofs.lemmas.List.Elements.{All-contains}
use Rattle.std.proofs.lemmas.List.Concat.{length-flat_map}
use Rattle.std.proofs.lemmas.List.Sums.{sum_by-append, sum_by-cons}
use Rattle.std.proofs.lemmas.Option.{slice_get_within}
use Rattle.judge.specs.declared.journal.Reply.{Reply}
use Rattle.judge.specs.Answer.{Pairs}
use Rattle.crossbeam_epoch.specs.declared.fault.Fault.{Fault}
use Rattle.crossbeam_epoch.specs.declared.world.report.Outcome.{Outcome as CollectorOutcome}
use Rattle.crossbeam_epoch.specs.declared.world.report.Outcome.TheVariants as collector_outcome
use Rattle.crossbeam_epoch.specs.declared.world.report.Report.{Report as Collection}
use Rattle.congee.specs.declared.forms.base_node.Node.{Node as Form}
use Rattle.congee.specs.declared.forms.base_node.NodeType.{NodeType}
use Rattle.congee.specs.declared.forms.base_node.NodeType.TheVariants.{N4, N16, N48, N256}
use Rattle.congee.specs.declared.protocol.machine.Machine.{Machine}
use Rattle.congee.specs.declared.protocol.machine.Move.{Move}
use Rattle.congee.specs.declared.protocol.op.Op.{Op as Point}
use Rattle.congee.specs.declared.protocol.op.Op.TheVariants as point
use Rattle.congee.specs.declared.protocol.phase.Phase.{Phase}
use Rattle.congee.specs.declared.protocol.phase.Phase.TheVariants.{Obsolete, Retire, Scan, Ended}
use Rattle.congee.specs.declared.protocol.run.Step.{Step}
use Rattle.congee.specs.forms.Forms.{capacity_of, form_of, size_of}
use Rattle.congee.specs.Heap.{Node}
use Rattle.congee.specs.Keys.{IsMapOf, key_bytes}
use Rattle.congee.specs.protocol.Answers.{Keeps, SameMap, reply_in, told_or}
use Rattle.congee.specs.protocol.Destroys.{Destroys}
use Rattle.congee.specs.protocol.Holdings.{TakenBy}
use Rattle.congee.specs.protocol.Names.{name_made, names}
use Rattle.congee.specs.protocol.Play.{EachKnown, IsMoved, Settled, begun}
use Rattle.congee.specs.protocol.State.{taken, is_done}
use Rattle.congee.proofs.Laws.{standing_same, IsTaken, taken_known}
use Rattle.joint.specs.declared.engine.in_flight.InFlight.{InFlight}
use Rattle.joint.specs.declared.engine.in_flight.InFlight.TheVariants.{Idle, Collecting, Reserving, Securing, Walking}
use Rattle.joint.specs.declared.engine.census.Census.{Census}
use Rattle.joint.specs.declared.engine.census.Change.{Change}
use Rattle.joint.specs.declared.engine.census.Change.TheVariants.{More, Fewer, Same}
use Rattle.joint.specs.declared.engine.census.Taken.{Taken}
use Rattle.joint.specs.declared.id.Id.{Id}
use Rattle.joint.specs.declared.nodes.slot.Slot.{Slot}
use Rattle.joint.specs.declared.steps.Event.TheVariants.{Register}
use Rattle.joint.specs.declared.steps.Report.{Report}
use Rattle.joint.specs.declared.steps.Target.{Target}
use Rattle.joint.specs.declared.steps.Target.TheVariants as target
use Rattle.joint.specs.engine.Beginning.{BeginsUnless, Begun}
use Rattle.joint.specs.engine.Census.{AreCounted, effect_by, effect_of, fewer, more, taken_at, taken_by}
use Rattle.joint.specs.nodes.Nodes.{Nodes, nodes, of_value, size, size_in, Refuses}
use Rattle.joint.specs.engine.Intact.{IsIntact, Secured, WalkedOn, rested, resting, secured_machines}
use Rattle.joint.specs.Names.{root}
use Rattle.joint.specs.engine.Journaling.{reply_at}
use Rattle.joint.specs.engine.Laws.{CallLaws}
use Rattle.joint.specs.nodes.Levels.{form_with}
use Rattle.joint.specs.nodes.Listing.{bytes_of}
use Rattle.joint.specs.nodes.Survey.{IsEmptiness}
use Rattle.joint.specs.nodes.View.{capacity_in, id_number, view}
use Rattle.joint.specs.engine.Engine.{World, BeginsAt, BeginsOnTree, EntersUnless, Proceeds, begin_misuse, finds_none, is_busy, place_of}
use Rattle.joint.proofs.lemmas.calls.WorldSteps.{one_map}
use Rattle.joint.proofs.lemmas.engine.Changing.{Counts, answered}
use Rattle.joint.proofs.lemmas.engine.Collecting.{inside_machines, get_inside}
use Rattle.joint.proofs.lemmas.nodes.Keyed.{len_few, some_key}
use Rattle.joint.proofs.lemmas.nodes.Totals.{size_bound, times_suc}
use Rattle.joint.proofs.lemmas.world.Waiting.{taken_is}
use Rattle.joint.proofs.lemmas.engine.Walking.{final_is, now_here}

-- what is charged for a node of so many places
abbrev by_places : ℕ → ℕ
by_places c = cond (nat_eq c 0) 0 (size_of (form_with c))

by_form : (f : NodeType) → size_of f ≡ by_places (capacity_of f)
by_form N4 = refl
by_form N16 = refl
by_form N48 = refl
by_form N256 = refl

weight_same : (f g : ℕ → ℕ) (ns : List ℕ) → ((n : ℕ) → Contains ns n → g n ≡ f n) → sum_by g ns ≡ sum_by f ns
weight_same f g [] e = refl
weight_same f g (n ∷ ns) e =
    let a = sum_by-cons f n ns in
    let b = sum_by-cons g n ns in
    let h = e n (0, (let l : 0 < suc (length ns) = omega arith in l), refl) in
    let r = weight_same f g ns (λ m c. e m (suc c.0, (let l : c.0 < length ns = c.1 in omega (arith, l)), c.2)) in
    omega (arith, a, b, h, r)

-- a sum of so many, each so great at most
few_each : (f : ℕ → ℕ) (b : ℕ) → ((n : ℕ) → f n ≤ b) → (ns : List ℕ) → length ns ≤ 2 → sum_by f ns ≤ b * 2
few_each f b h [] l = omega arith
few_each f b h (m ∷ []) l =
    let a = sum_by-cons f m [] in
    let x = h m in
    let t : b * 2 ≡ b + b = omega arith in
    omega (arith, a, x, t)
few_each f b h (m ∷ n ∷ []) l =
    let a = sum_by-cons f m (n ∷ []) in
    let d = sum_by-cons f n [] in
    let x = h m in
    let y = h n in
    let t : b * 2 ≡ b + b = omega arith in
    omega (arith, a, d, x, y, t)
few_each f b h (m ∷ n ∷ o ∷ ns) l = absurd (omega (arith, l))

-- sums over lists that differ in one place at most
module _ {X : Type 0} where
  sum_alike : (f g : X → ℕ) (xs : List X) → ((j : ℕ) (z : X) → slice_get xs j ≡ Some z → g z ≡ f z) → sum_by g xs ≡ sum_by f xs
  sum_alike f g [] e = refl
  sum_alike f g (x ∷ xs) e =
      let a = sum_by-cons f x xs in
      let b = sum_by-cons g x xs in
      let r = sum_alike f g xs (λ j z q. e (suc j) z q) in
      let h = e 0 x refl in
      omega (arith, a, b, r, h)

  sum_set : (f g : X → ℕ) (xs : List X) (i : ℕ) (x y : X) → slice_get xs i ≡ Some x → ((j : ℕ) (z : X) → j ≢ i → slice_get xs j ≡ Some z → g z ≡ f z) → sum_by g (set xs i y) + f x ≡ sum_by f xs + g y
  sum_set f g [] i x y at e = absurd (cc at)
  sum_set f g (z ∷ xs) zero x y at e =
      let is : z ≡ x = cc in
      let a = sum_by-cons f z xs in
      let b = sum_by-cons g y xs in
      let r = sum_alike f g xs (λ j w q. e (suc j) w (λ d. absurd (omega (arith, d))) q) in
      let h : f z ≡ f x = ap f is in
      omega (arith, a, b, r, h)
  sum_set f g (z ∷ xs) (suc i) x y at e =
      let a = sum_by-cons f z xs in
      let b = sum_by-cons g z (set xs i y) in
      let r = sum_set f g xs i x y at (λ j w n q. e (suc j) w (λ d. n (omega (arith, d))) q) in
      let h = e 0 z (λ d. absurd (omega (arith, d))) refl in
      omega (arith, a, b, r, h)

  term_in : (f : X → ℕ) (xs : List X) (i : ℕ) (x : X) → slice_get xs i ≡ Some x → f x ≤ sum_by f xs
  term_in f [] i x at = absurd (cc at)
  term_in f (z ∷ xs) zero x at =
      let is : z ≡ x = cc in
      let a = sum_by-cons f z xs in
      let h : f z ≡ f x = ap f is in
      omega (arith, a, h)
  term_in f (z ∷ xs) (suc i) x at =
      let a = sum_by-cons f z xs in
      let r = term_in f xs i x at in
      omega (arith, a, r)

  sum_few : (f : X → ℕ) (b : ℕ) → ((x : X) → f x ≤ b) → (xs : List X) → sum_by f xs ≤ b * length xs
  sum_few f b h [] = omega arith
  sum_few f b h (x ∷ xs) =
      let a = sum_by-cons f x xs in
      let r = sum_few f b h xs in
      let l = h x in
      let t : b * length (x ∷ xs) ≡ b * length xs + b = times_suc b (length xs) in
      omega (arith, a, r, l, t)

-- sums over what was taken out are sums over the calls
module _ {V : Type 0} where
  abbrev weigh : (ℕ → ℕ) → Machine Id V → ℕ
  weigh f m = sum_by f (taken_by m)

  abbrev count : Machine Id V → ℕ
  count m = length (taken_by m)

  weighed : (f : ℕ → ℕ) (ms : List (Machine Id V)) → sum_by f (flat_map taken_by ms) ≡ sum_by (weigh f) ms
  weighed f [] = refl
  weighed f (m ∷ ms) =
      let a = sum_by-append f (taken_by m) (flat_map taken_by ms) in
      let b = sum_by-cons (weigh f) m ms in
      let r = weighed f ms in
      omega (arith, a, b, r)

  numbered : (ms : List (Machine Id V)) → length (flat_map taken_by ms) ≡ sum_by count ms
  numbered ms = length-flat_map taken_by ms

  -- two at most
  two_taken : (p : Phase Id V) → length (map id_number (taken p)) ≤ 2
  two_taken (Obsolete m None q r) = omega arith
  two_taken (Obsolete m (Some c) q r) = omega arith
  two_taken (Retire m None q r) = omega arith
  two_taken (Retire m (Some c) q r) = omega arith
  two_taken _ = omega arith

  -- what is charged for a node that stays as it is stays
  size_few : {A : Type 0} (o : Option (Box (Form Id V) A)) → size_in o ≤ 2104
  size_few None = omega arith
  size_few (Some n) = size_bound (form_of n.value)

  value_few : (o : Option (Slot V)) → of_value size o ≤ 2104
  value_few None = omega arith
  value_few (Some v) = size_few v.node

  bytes_few : (s : Nodes V) (n : ℕ) → bytes_of s n ≤ 2104
  bytes_few s n = value_few _

  size_by : {A : Type 0} (o : Option (Box (Form Id V) A)) → size_in o ≡ by_places (capacity_in o)
  size_by None = refl
  size_by (Some n) = by_form (form_of n.value)

  seen_size : (g : Bool) (o : Option (Slot V)) → of_value size o ≡ by_places (view g o).capacity
  seen_size g None = refl
  seen_size g (Some v) = size_by v.node

  bytes_seen : (s : Nodes V) (n : ℕ) → bytes_of s n ≡ by_places (nodes s n).capacity
  bytes_seen s n = seen_size _ _

  bytes_same : (s s' : Nodes V) (n : ℕ) → nodes s' n ≡ nodes s n → bytes_of s' n ≡ bytes_of s n
  bytes_same s s' n e = bytes_seen s' n ∙ ap (λ (x : Node V). by_places x.capacity) e ∙ sym (bytes_seen s n)

  -- a call names what it has taken out
  named_of : (p : Phase Id V) (n : ℕ) → TakenBy id_number p n → Contains (names id_number p) n
  named_of (Obsolete m next q r) n (inl e) = (0, (let l : 0 < suc (suc (length (name_made id_number next))) = omega arith in l), sym e)
  named_of (Obsolete m None q r) n (inr e) = absurd e
  named_of (Obsolete m (Some c) q r) n (inr e) = (2, (let l : 2 < 3 = omega arith in l), sym e)
  named_of (Retire m next q r) n (inl e) = (0, (let l : 0 < suc (suc (length (name_made id_number next))) = omega arith in l), sym e)
  named_of (Retire m None q r) n (inr e) = absurd e
  named_of (Retire m (Some c) q r) n (inr e) = (2, (let l : 2 < 3 = omega arith in l), sym e)
  named_of _ n e = absurd e

  taken_named : (p : Phase Id V) (n : ℕ) → Contains (map id_number (taken p)) n → Contains (names id_number p) n
  taken_named p n c = named_of p n (taken_is p n c)

  begun_none : (op : Point V) → taken_by (begun root op) ≡ []
  begun_none (point.Get k) = refl
  begun_none (point.Insert k v) = refl
  begun_none (point.Remove k) = refl
  begun_none (point.ComputePresent k) = refl
  begun_none (point.ComputeInsert k) = refl
  begun_none (point.Exchange k old new) = refl
  begun_none (point.Range start end size) = refl
  begun_none (point.RangeInclusive start last size) = refl

  ended_none : (m : Machine Id V) → m.phase ≡ Ended → taken_by m ≡ []
  ended_none m e = ap (λ p. map id_number (taken p)) e

  resting_none : (n : ℕ) (ms : List (Machine Id V)) → ms ≡ replicate n resting → flat_map taken_by ms ≡ []
  resting_none zero ms e = ap (flat_map taken_by) e
  resting_none (suc n) ms e = ap (flat_map taken_by) e ∙ resting_none n (replicate n resting) refl

  -- a root alone has no pair, and nothing is taken out
  pub counted_first : (s : Nodes V) (n : ℕ) → IsMapOf (nodes s) empty → (k : Census) → k ≡ record { pairs = 0; taken = record { nodes = 0; bytes = 0 } } → AreCounted k s (replicate n resting)
  counted_first s n st k e = record {
    pairs = empty;
    stand = st;
    count = ap (λ (x : Census). x.pairs) e ∙ sym (len-empty nat_cmp V);
    taken = ap (λ (x : Census). x.taken.nodes) e ∙ sym (ap length (resting_none n (replicate n resting) refl));
    bytes = ap (λ (x : Census). x.taken.bytes) e ∙ sym (ap (sum_by (bytes_of s)) (resting_none n (replicate n resting) refl));
  }

  -- counts of the same nodes and calls under other names are right
  pub counted_at : (k k' : Census) (s s' : Nodes V) (ms ms' : List (Machine Id V)) → k' ≡ k → s' ≡ s → ms' ≡ ms → AreCounted k s ms → AreCounted k' s' ms'
  counted_at k k' s s' ms ms' ek es em c =
      let P : Census → Type 0 = λ x. AreCounted x s' ms' in
      let Q : Nodes V → Type 0 = λ x. AreCounted k x ms' in
      let R : List (Machine Id V) → Type 0 = λ x. AreCounted k s x in
      subst P (sym ek) (subst Q (sym es) (subst R (sym em) c))

  -- whether there is a pair
  emptiness : (m : Pairs V) (n : ℕ) → len m ≡ n → (b : Bool) → (n == 0) ≡ b → IsEmptiness m b
  emptiness m zero e true t = λ k. ap (λ (x : Pairs V). get x k) (empty_of_len m e) ∙ get-empty nat_cmp k
  emptiness m zero e false t = absurd (cc t)
  emptiness m (suc n) e true t = absurd (let z : suc n ≡ 0 = eqb-true (suc n) 0 t in omega (arith, z))
  emptiness m (suc n) e false t = some_key m n e

module _ {V : Type 0} (k : Census) (s : Nodes V) (ms : List (Machine Id V)) (c : AreCounted k s ms) where
  -- as many pairs are counted as stand
  pub count_of : (m : Pairs V) → IsMapOf (nodes s) m → k.pairs ≡ len m
  count_of m st = c.count ∙ ap len (one_map (λ (x y : V). true) true (nodes s) c.pairs m c.stand st)

  -- the test for no counted pair tells whether any pair stands
  pub is_empty : (b : Bool) → b ≡ (k.pairs == 0) → (m : Pairs V) → IsMapOf (nodes s) m → IsEmptiness m b
  is_empty b e m st = emptiness m k.pairs (sym (count_of m st)) b (sym e)

  pairs_few : k.pairs ≤ 2 ^ 64
  pairs_few = let l = len_few c.pairs c.stand.none_beyond in omega (arith, l, c.count)

  -- of 256 workers at most, the calls have taken out 512 nodes at most
  pub taken_few : length ms ≤ 256 → k.taken.nodes ≤ 512
  taken_few l =
      let a = numbered ms in
      let b = sum_few count 2 (λ m. two_taken m.phase) ms in
      omega (arith, l, a, b, c.taken)

  -- and these have at most 2,104 bytes each
  pub bytes_small : length ms ≤ 256 → k.taken.bytes ≤ 2104 * 512
  bytes_small l =
      let a = weighed (bytes_of s) ms in
      let b = sum_few (weigh (bytes_of s)) (2104 * 2) (λ m. few_each (bytes_of s) 2104 (bytes_few s) (taken_by m) (two_taken m.phase)) ms in
      omega (arith, l, a, b, c.bytes)

  -- the nodes change, but for those that were taken out
  counted_on : (s' : Nodes V) → SameMap (nodes s) (nodes s') → ((j : ℕ) (m : Machine Id V) (n : ℕ) → slice_get ms j ≡ Some m → Contains (taken_by m) n → nodes s' n ≡ nodes s n) → AreCounted k s' ms
  counted_on s' same kept =
      let a = weighed (bytes_of s) ms in
      let b = weighed (bytes_of s') ms in
      let e = sum_alike (weigh (bytes_of s)) (weigh (bytes_of s')) ms (λ j m at. weight_same (bytes_of s) (bytes_of s') (taken_by m) (λ n t. bytes_same s s' n (kept j m n at t))) in
      record {
        pairs = c.pairs;
        stand = standing_same (nodes s) (nodes s') c.pairs same c.stand;
        count = c.count;
        taken = c.taken;
        bytes = omega (arith, a, b, e, c.bytes);
      }

  counted_same : (s' : Nodes V) → nodes s' ≡ nodes s → AreCounted k s' ms
  counted_same s' e = counted_on s' (let P : (ℕ → Node V) → Type 0 = λ h. SameMap (nodes s) h in subst P (sym e) (λ x l. refl)) (λ j m n at t. ap (λ h. h n) e)

  -- a step of the collector leaves the counts right
  pub counted_collected : (s' : Nodes V) → SameMap (nodes s) (nodes s') → Destroys id_number (nodes s) ms (nodes s') → AreCounted k s' ms
  counted_collected s' same d = counted_on s' same (λ j m n at t.
      let P : ℕ → Type 0 = λ x. nodes s' x ≡ nodes s x in
      All-contains P (names id_number m.phase) n (d.named j m at) (taken_named m.phase n t))

  -- a call that has taken nothing out comes in place of another
  counted_set : (i : ℕ) (y : Machine Id V) → ((x : Machine Id V) → slice_get ms i ≡ Some x → taken_by x ≡ []) → taken_by y ≡ [] → AreCounted k s (set ms i y)
  counted_set i y old none = by (slice_get ms i) refl where
    by : (o : Option (Machine Id V)) → slice_get ms i ≡ o → AreCounted k s (set ms i y)
    by None e = let R : List (Machine Id V) → Type 0 = λ x. AreCounted k s x in subst R (sym (set_none ms i e)) c
      where
        set_none : (xs : List (Machine Id V)) (j : ℕ) → slice_get xs j ≡ None → set xs j y ≡ xs
        set_none [] j q = refl
        set_none (x ∷ xs) zero q = absurd (cc q)
        set_none (x ∷ xs) (suc j) q = ap (λ zs. x ∷ zs) (set_none xs j q)
    by (Some x) e =
        let t : taken_by x ≡ [] = old x e in
        let a = numbered ms in
        let b = numbered (set ms i y) in
        let d = sum_set count count ms i x y e (λ j z n q. refl) in
        let p = weighed (bytes_of s) ms in
        let q = weighed (bytes_of s) (set ms i y) in
        let r = sum_set (weigh (bytes_of s)) (weigh (bytes_of s)) ms i x y e (λ j z n q. refl) in
        let x1 : count x ≡ 0 = ap length t in
        let y1 : count y ≡ 0 = ap length none in
        let x2 : weigh (bytes_of s) x ≡ 0 = ap (sum_by (bytes_of s)) t in
        let y2 : weigh (bytes_of s) y ≡ 0 = ap (sum_by (bytes_of s)) none in
        record {
          pairs = c.pairs;
          stand = c.stand;
          count = c.count;
          taken = omega (arith, a, b, d, x1, y1, c.taken);
          bytes = omega (arith, p, q, r, x2, y2, c.bytes);
        }

-- what goes was there
goes_of : (x : Change) (n l : ℕ) → n + fewer x ≡ l + more x → fewer x ≤ l
goes_of More n l e = omega arith
goes_of Fewer n l e = omega (arith, e)
goes_of Same n l e = omega arith

-- a scan that is done has no reply
done_none : {V : Type 0} (p : Phase Id V) → is_done p ≡ true → reply_in p ≡ None
done_none (Scan s) e = refl
done_none _ e = absurd (cc e)

rested_reply : {V : Type 0} (m : Machine Id V) → reply_in (rested m).phase ≡ reply_in m.phase
rested_reply {V} m = by (is_done m.phase) refl where
  by : (b : Bool) → is_done m.phase ≡ b → reply_in (if b then resting else m).phase ≡ reply_in m.phase
  by true e = sym (done_none m.phase e)
  by false e = refl

module _ {V : Type 0} (same : V → V → Bool) (always : Bool) where
  module _ (s : Nodes V) (ms : List (Machine Id V)) (calls : List (InFlight V)) (intact : IsIntact same always s ms calls) where
    -- there are 256 workers at most
    pub few_machines : length ms ≤ 256
    few_machines = let e = intact.machines in let l = intact.few in omega (arith, e, l)

    module _ (k : Census) (c : AreCounted k s ms) where
      -- the next step of a call that makes its places free leaves the counts right
      pub counted_secured : (who : ℕ) (op : Point V) → slice_get calls who ≡ Some (Securing op) → (r : Collection) (s' : Nodes V) (ms' : List (Machine Id V)) (calls' : List (InFlight V)) → Secured same always s ms calls who r s' ms' calls' → AreCounted k s' ms'
      counted_secured who op at r s' ms' calls' x =
          let d : AreCounted k s' ms = counted_collected k s ms c s' x.collected.map x.collected.destroys in
          let R : List (Machine Id V) → Type 0 = λ y. AreCounted k s' y in
          subst R (sym (x.machine ∙ ap (λ o. secured_machines r.outcome o ms who) at)) (by r.outcome d)
        where
          by : (o : CollectorOutcome) → AreCounted k s' ms → AreCounted k s' (secured_machines o (Some (Securing op)) ms who)
          by collector_outcome.Running d = d
          by collector_outcome.Done d = counted_set k s' ms d who (begun root op) (λ m here. ended_none m ((intact.each who (Securing op) m at here).2)) (begun_none op)
          by (collector_outcome.Refused f) d = d

  -- a registration leaves the counts right
  pub counted_registered : (s s' : World V) (k : Census) → AreCounted k s.forest s.machines → (r : Report V) → Proceeds same always s 0 Register r s' → AreCounted k s'.forest s'.machines
  counted_registered s s' k c r (inl x) = let P : World V → Type 0 = λ y. AreCounted k y.forest y.machines in subst P (sym x.1.state) (counted_same k s.forest s.machines c _ refl)
  counted_registered s s' k c r (inr x) = let P : World V → Type 0 = λ y. AreCounted k y.forest y.machines in subst P (sym x.state) c

  -- a begin of a worker
  module _ (s s' : World V) (who : ℕ) (intact : IsIntact same always s.forest s.machines s.calls) (k : Census) (c : AreCounted k s.forest s.machines) where
    over : (k : Option (InFlight V)) → slice_get s.calls who ≡ k → is_busy k ≡ false → (m : Machine Id V) → slice_get s.machines who ≡ Some m → taken_by m ≡ []
    over None e b m at = absurd (
        let l : who < length s.machines = slice_get_within s.machines who m at in
        let z : who < length s.calls = (let q = intact.machines in omega (arith, l, q)) in
        let t = get_inside s.calls who z in
        let q : Some t.0 ≡ None = sym t.1 ∙ e in cc)
    over (Some Idle) e b m at = ended_none m (intact.each who Idle m e at).1
    over (Some (Collecting op)) e b m at = absurd (cc b)
    over (Some (Reserving op)) e b m at = absurd (cc b)
    over (Some (Securing op)) e b m at = absurd (cc b)
    over (Some Walking) e b m at = absurd (cc b)

    enters : (op : Point V) → is_busy (slice_get s.calls who) ≡ false → s'.machines ≡ set s.machines who (begun root op) → s'.forest ≡ s.forest → AreCounted k s'.forest s'.machines
    enters op b em ef = counted_at k k s.forest s'.forest (set s.machines who (begun root op)) s'.machines refl ef em (counted_set k s.forest s.machines c who (begun root op) (over (slice_get s.calls who) refl b) (begun_none op))

    stays : s'.machines ≡ s.machines → s'.forest ≡ s.forest → AreCounted k s'.forest s'.machines
    stays em ef = counted_at k k s.forest s'.forest s.machines s'.machines refl ef em c

    scan_begins : (op : Point V) (r : Report V) (none : Bool) → is_busy (slice_get s.calls who) ≡ false → EntersUnless none s who op r s' → AreCounted k s'.forest s'.machines
    scan_begins op r true b x = stays (ap (λ (y : World V). y.machines) x.state) (ap (λ (y : World V). y.forest) x.state)
    scan_begins op r false b x = enters op b (ap (λ (y : World V). y.machines) x.state) (ap (λ (y : World V). y.forest) x.state)

    begins_tree : (op : Point V) (r : Report V) → is_busy (slice_get s.calls who) ≡ false → BeginsOnTree same always s who op r s' → AreCounted k s'.forest s'.machines
    begins_tree (point.Get q) r b x = enters (point.Get q) b (ap (λ (y : World V). y.machines) x.state) (ap (λ (y : World V). y.forest) x.state)
    begins_tree (point.Range start end size) r b x = scan_begins (point.Range start end size) r (finds_none {V = V} (point.Range start end size)) b x
    begins_tree (point.RangeInclusive start last size) r b x = scan_begins (point.RangeInclusive start last size) r (finds_none {V = V} (point.RangeInclusive start last size)) b x
    begins_tree (point.Insert q v) r b x = stays (ap (λ (y : World V). y.machines) x.state) (ap (λ (y : World V). y.forest) x.state)
    begins_tree (point.Remove q) r b x = stays (ap (λ (y : World V). y.machines) x.state) (ap (λ (y : World V). y.forest) x.state)
    begins_tree (point.ComputePresent q) r b x = stays (ap (λ (y : World V). y.machines) x.state) (ap (λ (y : World V). y.forest) x.state)
    begins_tree (point.ComputeInsert q) r b x = stays (ap (λ (y : World V). y.machines) x.state) (ap (λ (y : World V). y.forest) x.state)
    begins_tree (point.Exchange q old new) r b x = stays (ap (λ (y : World V). y.machines) x.state) (ap (λ (y : World V). y.forest) x.state)

    begins : (t : Target V) (r : Report V) → is_busy (slice_get s.calls who) ≡ false → BeginsAt same always s who t r s' → AreCounted k s'.forest s'.machines
    begins (target.Collector op) r b x = counted_at k k s'.forest s'.forest s.machines s'.machines refl refl x.machines (counted_collected k s.forest s.machines c s'.forest x.step.map x.step.destroys)
    begins (target.Tree op) r b x = begins_tree op r b x
    begins (target.Survey y) r b x = stays (ap (λ (y : World V). y.machines) x.state) (ap (λ (y : World V). y.forest) x.state)

    not_misused : (reg busy : Bool) (f u : Fault) (o : Option Fault) → (if reg then (if busy then Some f else o) else Some u) ≡ None → busy ≡ false
    not_misused true true f u o e = absurd (cc e)
    not_misused true false f u o e = refl
    not_misused false busy f u o e = absurd (cc e)

    -- the begin of a call leaves the counts right
    pub counted_begun : (t : Target V) (r : Report V) → Begun same always s who t r s' → AreCounted k s'.forest s'.machines
    counted_begun t r x = by (begin_misuse t (slice_get s.calls who) (place_of s who)) refl x where
      by : (o : Option Fault) → begin_misuse t (slice_get s.calls who) (place_of s who) ≡ o → BeginsUnless same always s who t o r s' → AreCounted k s'.forest s'.machines
      by (Some f) e y = stays (ap (λ (z : World V). z.machines) y.1) (ap (λ (z : World V). z.forest) y.1)
      by None e y = begins t r (not_misused (place_of s who).registered (is_busy (slice_get s.calls who)) _ _ _ e) y

  -- a step of a call on the tree
  module _ (laws : CallLaws {C = Id} {V = V} id_number same always) (s : Nodes V) (ms : List (Machine Id V)) (calls : List (InFlight V)) (intact : IsIntact same always s ms calls) (step : Step Id V) (on : slice_get calls step.who ≡ Some Walking)
      (k : Census) (c : AreCounted k s ms) (b : Taken) (b_nodes : b.nodes ≡ length (taken_at (slice_get ms step.who))) (b_bytes : b.bytes ≡ sum_by (bytes_of s) (taken_at (slice_get ms step.who))) where
    abbrev old : (x : Machine Id V) × (slice_get ms step.who ≡ Some x)
    old = get_inside ms step.who (inside_machines same always s ms calls intact step.who Walking on)

    nodes_before : b.nodes ≡ count old.0
    nodes_before = b_nodes ∙ ap (λ o. length (taken_at o)) old.1

    bytes_before : b.bytes ≡ weigh (bytes_of s) old.0
    bytes_before = b_bytes ∙ ap (λ o. sum_by (bytes_of s) (taken_at o)) old.1

    -- the nodes that the worker's call had taken out are among those counted
    pub had : b.nodes ≤ k.taken.nodes
    had =
        let a = numbered ms in
        let t = term_in count ms step.who old.0 old.1 in
        let e = nodes_before in
        omega (arith, a, t, e, c.taken)

    -- and their bytes are among those counted
    pub had_bytes : b.bytes ≤ k.taken.bytes
    had_bytes =
        let a = weighed (bytes_of s) ms in
        let t = term_in (weigh (bytes_of s)) ms step.who old.0 old.1 in
        let e = bytes_before in
        omega (arith, a, t, e, c.bytes)

    module _ (d : Move V) (s' : Nodes V) (ms' : List (Machine Id V)) (w : WalkedOn same always s ms step d s' ms') (a : Taken) (a_nodes : a.nodes ≡ length (taken_at (slice_get ms' step.who))) (a_bytes : a.bytes ≡ sum_by (bytes_of s') (taken_at (slice_get ms' step.who))) where
      abbrev moved : IsMoved id_number same always s.version_max (Refuses s) (nodes s) ms old.0 step d (nodes s') w.between
      moved = w.walked.plays.moved old.0 old.1

      abbrev final : Machine Id V
      final = rested moved.now

      here : slice_get ms' step.who ≡ Some final
      here = now_here same always laws s ms calls intact step on d s' ms' w

      all : ms' ≡ set ms step.who final
      all = final_is same always laws s ms calls intact step on d s' ms' w

      abbrev settled : Settled id_number same always (nodes s) ms
      settled = intact.safe.sound.sound.settled

      known : EachKnown id_number same always settled.0 (nodes s) step.who old.0
      known = settled.1.each step.who old.0 old.1

      keeps : Keeps id_number same always step.who settled.0 old.0 (nodes s) moved.now (nodes s') d
      keeps = moved.keeps step.who settled.0 known.root settled.1.tree settled.1.words known.known

      -- the nodes that other calls have taken out stay as they are
      others : (j : ℕ) (m : Machine Id V) → j ≢ step.who → slice_get ms j ≡ Some m → (n : ℕ) → Contains (taken_by m) n → nodes s' n ≡ nodes s n
      others j m apart at n e =
          let x : IsTaken j settled.0 (nodes s) n = taken_known id_number same always j settled.0 (nodes s) m.key (key_bytes m.key) m.kind m.given n m.phase (settled.1.each j m at).known (taken_is m.phase n e) in
          ((keeps.effect.others j apart).mine n x.owner).0

      nodes_after : a.nodes ≡ count final
      nodes_after = a_nodes ∙ ap (λ o. length (taken_at o)) here

      bytes_after : a.bytes ≡ weigh (bytes_of s') final
      bytes_after = a_bytes ∙ ap (λ o. sum_by (bytes_of s') (taken_at o)) here

      abbrev change : Change
      change = effect_of d.decided d.outcome (slice_get ms' step.who)

      pairs_after : Counts c.pairs change (nodes s')
      pairs_after =
          let x : Counts c.pairs (if d.decided then effect_by (told_or (reply_in moved.now.phase) d.outcome) else Same) (nodes s') =
          answered same old.0.key old.0.kind old.0.given (nodes s) (nodes s') c.pairs known.key c.stand (record { phase = moved.now.phase; report = d }) d.decided keeps.answer in
          let e : reply_at (slice_get ms' step.who) ≡ reply_in moved.now.phase = ap reply_at here ∙ rested_reply moved.now in
          let P : Option (Reply V) → Type 0 = λ o. Counts c.pairs (if d.decided then effect_by (told_or o d.outcome) else Same) (nodes s') in
          subst P (sym e) x

      module _ (k1 : Census) (same_pairs : k1.pairs ≡ k.pairs) where
        -- the pairs that are counted are 2 ^ 64 at most
        pub pairs_room : k1.pairs ≤ 2 ^ 64
        pairs_room = let l = pairs_few k s ms c in omega (arith, l, same_pairs)

        -- where a pair goes, there was one
        pub pairs_there : (x : Change) → x ≡ change → fewer x ≤ k1.pairs
        pairs_there x e =
            let l : fewer change ≤ len c.pairs = goes_of change (len pairs_after.pairs) (len c.pairs) pairs_after.count in
            let q : fewer x ≡ fewer change = ap fewer e in
            omega (arith, l, q, same_pairs, c.count)

        -- the counts with this step's pairs and the call's nodes put in place of those before are right
        pub counted_walk : k1.taken.nodes + b.nodes ≡ k.taken.nodes + a.nodes → k1.taken.bytes + b.bytes ≡ k.taken.bytes + a.bytes
            → (x : Change) → x ≡ change → (k2 : Census) → k2.pairs + fewer x ≡ k1.pairs + more x → k2.taken ≡ k1.taken → AreCounted k2 s' ms'
        counted_walk et eb x ex k2 ep et2 =
            let n0 = numbered ms in
            let n1 = numbered (set ms step.who final) in
            let n2 = sum_set count count ms step.who old.0 final old.1 (λ j z ne q. refl) in
            let n3 : length (flat_map taken_by ms') ≡ length (flat_map taken_by (set ms step.who final)) = ap (λ xs. length (flat_map taken_by xs)) all in
            let n4 = nodes_before in
            let n5 = nodes_after in
            let n6 : k2.taken.nodes ≡ k1.taken.nodes = ap (λ t. t.nodes) et2 in
            let w0 = weighed (bytes_of s) ms in
            let w1 = weighed (bytes_of s') (set ms step.who final) in
            let w2 = sum_set (weigh (bytes_of s)) (weigh (bytes_of s')) ms step.who old.0 final old.1 (λ j z ne q. weight_same (bytes_of s) (bytes_of s') (taken_by z) (λ n t. bytes_same s s' n (others j z ne q n t))) in
            let w3 : sum_by (bytes_of s') (flat_map taken_by ms') ≡ sum_by (bytes_of s') (flat_map taken_by (set ms step.who final)) = ap (λ xs. sum_by (bytes_of s') (flat_map taken_by xs)) all in
            let w4 = bytes_before in
            let w5 = bytes_after in
            let w6 : k2.taken.bytes ≡ k1.taken.bytes = ap (λ t. t.bytes) et2 in
            let p0 = pairs_after.count in
            let p1 : more x ≡ more change = ap more ex in
            let p2 : fewer x ≡ fewer change = ap fewer ex in
            record {
              pairs = pairs_after.pairs;
              stand = pairs_after.stand;
              count = omega (arith, p0, p1, p2, ep, same_pairs, c.count);
              taken = omega (arith, n0, n1, n2, n3, n4, n5, n6, et, c.taken);
              bytes = omega (arith, w0, w1, w2, w3, w4, w5, w6, eb, c.bytes);
            }
