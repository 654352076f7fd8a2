-- Pairs of a node, written one after the other.
use Rattle.std.proofs.Common.{◌≡◌, ℕ, ◌<◌, ◌≤◌, ◌+◌, ◌-◌, ◌^◌, true, false, Bool, List, [], ◌∷◌, ◌++◌, length, get_or, take, drop, set, inl, inr, refl, sym, ap, ◌∙◌, subst, arith}
use Rattle.std.proofs.lemmas.Bool.{cases_lt}
use Rattle.std.proofs.lemmas.List.{drop-drop, length-set}
use Rattle.std.specs.FinMap as map
use Rattle.std.specs.Prelude.{Some, None}
use Rattle.slab.specs.Slab.{get}
use Rattle.congee.specs.Heap.{fits}
use Rattle.congee.specs.Keys.{key_bytes}
use Rattle.congee.specs.forms.Bytes.{IsFirst}
use Rattle.congee.specs.forms.Forms.{children_of}
use Rattle.congee.specs.owned.Arena.{Nodes, IsTree, heap_of}
use Rattle.congee.specs.owned.Cursor.{IsCursor, IsAt}
use Rattle.congee.specs.owned.Nearest.{IsLeastPair}
use Rattle.congee.specs.owned.Ranges.{entries_by, in_range}
use Rattle.congee.specs.owned.Stores.{StandsWith}
use Rattle.congee.specs.owned.Table.{pairs_of}
use Rattle.congee.specs.owned.Writes.{PutsNothing, PutsOne, with_pairs, Continues, Remains, WritesMore, WritesNode}
use Rattle.congee.specs.declared.forms.base_node.Node.{Node as Form}
use Rattle.congee.specs.declared.forms.child.Child.{Child}
use Rattle.congee.specs.declared.forms.child.Child.TheVariants.{Node as Sub, Value}
use Rattle.congee.specs.declared.owned.scan.Branch.{Branch}
use Rattle.congee.specs.declared.owned.writing.Written.{Written}
use Rattle.congee.proofs.lemmas.owned.Cursors.{SameAhead, branch_at, cursor_cut, none_ahead}
use Rattle.congee.proofs.lemmas.owned.EntryRanges.{count_entries, no_room_left, take_entries}
use Rattle.congee.proofs.lemmas.owned.RangeLemmas.{counted, range_none, range_first, pair_written, rest_kept, range_ended}
use Rattle.congee.proofs.lemmas.owned.Walks.{Passes, goes_down, goes_up, passes_leaf, passes_value}

-- so far so many places are written
pub record Filled {E : Type 0} (first count : ℕ) (old new : List E) : Type 0 where
  pub more : first ≤ count
  pub within : count ≤ length new
  pub long : length new ≡ length old
  pub past : drop count new ≡ drop count old

module _ {E : Type 0} where
  drop_more : (a b : ℕ) (xs ys : List E) → a ≤ b → drop a xs ≡ drop a ys → drop b xs ≡ drop b ys
  drop_more a b xs ys l e =
      let n : a + (b - a) ≡ b = omega (arith, l) in
      sym (ap (λ k. drop k xs) n) ∙ (sym (drop-drop (b - a) a xs) ∙ (ap (drop (b - a)) e ∙ (drop-drop (b - a) a ys ∙ ap (λ k. drop k ys) n)))

  -- before anything is written no place is
  pub filled_none : (count : ℕ) (out : List E) → count ≤ length out → Filled count count out out
  filled_none count out l = record { more = omega arith; within = l; long = refl; past = refl }

  -- a node below wrote its pairs, and a pair came
  pub filled_more : (first count : ℕ) (old out new : List E) (w : Written) → Filled first count old out → WritesMore count out new w → Filled first w.count old new
  filled_more first count old out new w f m = record {
    more = omega (arith, f.more, m.more);
    within = m.within;
    long = m.long ∙ f.long;
    past = m.past ∙ drop_more count w.count out old m.more f.past;
  }

  -- what is written so far is written, and it isn't over
  pub filled_fills : (first count : ℕ) (old new : List E) → Filled first count old new → WritesMore first old new (record { count = count; over = false })
  filled_fills first count old new f = record { more = f.more; within = f.within; long = f.long; past = f.past }

  -- what two writings one after the other write is written
  pub fills_on : (first : ℕ) (old out new : List E) (w now : Written) → WritesMore first old out w → WritesMore w.count out new now → WritesMore first old new now
  fills_on first old out new w now f m = record {
    more = omega (arith, f.more, m.more);
    within = m.within;
    long = m.long ∙ f.long;
    past = m.past ∙ drop_more w.count now.count out old m.more f.past;
  }

  -- a pair alone
  pub fills_one : (count : ℕ) (entry : E) (old new : List E) (w : Written) → PutsOne count entry old new w → WritesMore count old new w
  fills_one count entry old new w p =
      let long : length new ≡ length old = ap length p.set_is ∙ length-set old count entry in
      record {
        more = omega (arith, p.count_is);
        within = omega (arith, p.count_is, p.room, long);
        long = long;
        past = ap (drop w.count) p.set_is ∙ (ap (λ k. drop k (set old count entry)) p.count_is ∙ (rest_kept old old count entry p.room refl ∙ ap (λ k. drop k old) (sym p.count_is)));
      }

  -- where nothing is written, the places are as they were
  pub fills_nothing : (count : ℕ) (old new : List E) (w : Written) → count ≤ length old → PutsNothing count old new w → WritesMore count old new w
  fills_nothing count old new w l p = record {
    more = omega (arith, p.count_is);
    within = omega (arith, p.count_is, ap length p.same, l);
    long = ap length p.same;
    past = ap (drop w.count) p.same;
  }

-- the pairs ahead of other steps are the same
same_at : {P : Type 0} (s : Nodes P) (before after : List Branch) (from : ℕ) → SameAhead s before after → IsAt s before from → IsAt s after from
same_at s before after from same at = record {
  ahead = λ q h. (λ l. (same.same q h).0 ((at.ahead q h).0 l), λ a. (at.ahead q h).1 ((same.same q h).1 a));
}

same_ahead : {P : Type 0} (s : Nodes P) (steps : List Branch) → SameAhead s steps steps
same_ahead s steps = record { same = λ q h. (λ a. a, λ a. a) }

module _ {P E : Type 0} (s : Nodes P) (entry : ℕ → P → E) (last : ℕ) where
  -- the way to a node, with the pairs of its bytes below `byte` written
  pub record Ongoing (above : List Branch) (at byte count : ℕ) (out all : List E) : Type 0 where
    pub way : IsCursor s (above ++ branch_at at byte ∷ [])
    pub rest : Continues s entry last (above ++ branch_at at byte ∷ []) out count all

  -- the pairs of a node's bytes from `start` to `byte` are written
  pub record SoFar (at start first : ℕ) (old : List E) (byte count : ℕ) (new : List E) : Type 0 where
    pub filled : Filled first count old new
    pub on : (above : List Branch) (from : ℕ) → IsCursor s (above ++ branch_at at start ∷ []) → IsAt s (above ++ branch_at at start ∷ []) from
        → Ongoing above at byte count new (with_pairs s entry last old first from)

  -- before the first of the bytes the pairs of none are written
  pub sets_out : (at start first : ℕ) (old : List E) → first ≤ length old → SoFar at start first old start first old
  sets_out at start first old l = record {
    filled = filled_none first old l;
    on = λ above from way here. record { way = way; rest = record { from = from; at = here; pairs = refl } };
  }

  -- no other pair comes
  pub none_more : (out all : List E) (count from : ℕ) → ((q : ℕ) → from ≤ q → q < last + 1 → map.get (pairs_of s) q ≡ None) → with_pairs s entry last out count from ≡ all → take count out ≡ all
  none_more out all count from none h =
      range_ended out (entries_by entry (in_range from (last + 1) (map.entries (pairs_of s)))) all count (length out - count) h
      (ap (entries_by entry) (range_none (pairs_of s) from (last + 1) none))

  -- where no place is left, the places written are all that were to be
  pub no_place : (out all : List E) (count from : ℕ) → length out ≤ count → with_pairs s entry last out count from ≡ all → take count out ≡ all
  no_place out all count from full h =
      no_room_left out (entries_by entry (in_range from (last + 1) (map.entries (pairs_of s)))) all count (length out - count) (omega (arith, full)) h

  -- the first of the pairs ahead, written in the next place, leaves those after it
  pub one_more : (out all : List E) (count from key : ℕ) (v : P) → IsLeastPair (pairs_of s) from key v → key ≤ last → count < length out
      → with_pairs s entry last out count from ≡ all → with_pairs s entry last (set out count (entry key v)) (count + 1) (key + 1) ≡ all
  one_more out all count from key v first l room h =
      let es = map.entries (pairs_of s) in
      let ranges = range_first (pairs_of s) from (last + 1) key v first (omega (arith, l)) in
      let pairs : take count out ++ take (length out - count) (entry key v ∷ entries_by entry (in_range (key + 1) (last + 1) es)) ≡ all =
      ap (λ r. take count out ++ take (length out - count) (entries_by entry r)) (sym ranges) ∙ h in
      ap (λ n. take (count + 1) (set out count (entry key v)) ++ take (n - (count + 1)) (entries_by entry (in_range (key + 1) (last + 1) es))) (length-set out count (entry key v))
      ∙ pair_written out count (length out) (entry key v) (entries_by entry (in_range (key + 1) (last + 1) es)) all room refl pairs

  -- what a pair does to the slice
  pub record WritesPair (key : ℕ) (v : P) (count : ℕ) (old new : List E) (w : Written) : Type 0 where
    pub over : w.over ≡ true → PutsNothing count old new w
    pub reason : w.over ≡ true → key ≤ last → length old ≤ count
    pub within : w.over ≡ false → key ≤ last
    pub written : w.over ≡ false → PutsOne count (entry key v) old new w

  module _ (t : IsTree s) where
    -- a pair that a walk passes
    passed : (before now after : List Branch) (key : ℕ) (v : P) (count : ℕ) (out all new : List E) (w : Written) → Passes s before now after key v
        → Continues s entry last before out count all → WritesPair key v count out new w → Remains s entry last after new w all
    passed before now after key v count out all new w p c wp =
        let first = p.first c.from c.at in
        record {
          over = λ o.
              let n = wp.over o in
              let done : take count out ≡ all = elim (cases_lt last key) [
                | inl past ↦ none_more out all count c.from (λ q lo hi. first.0.before q lo (omega (arith, hi, past))) c.pairs
                | inr l ↦ no_place out all count c.from (wp.reason o l) c.pairs
              ] in
              ap (take w.count) n.same ∙ (ap (λ k. take k out) n.count_is ∙ done);
          next = λ o.
              let y = wp.written o in
              record {
                from = key + 1;
                at = first.1;
                pairs = rw (y.count_is, y.set_is) (one_more out all count c.from key v first.0 (wp.within o) y.room c.pairs);
              };
        }

    -- what hangs in a node under a byte is written
    pub record Wrote (at start first : ℕ) (old : List E) (b : ℕ) (new : List E) (w : Written) : Type 0 where
      pub filled : Filled first w.count old new
      pub on : (above : List Branch) (from : ℕ) → IsCursor s (above ++ branch_at at start ∷ []) → IsAt s (above ++ branch_at at start ∷ []) from
          → IsCursor s (above ++ branch_at at (b + 1) ∷ []) × Remains s entry last (above ++ branch_at at (b + 1) ∷ []) new w (with_pairs s entry last old first from)

    module _ (at start first : ℕ) (old : List E) (byte count : ℕ) (out : List E) (so : SoFar at start first old byte count out) where
      -- a pair
      fills_pair : (key : ℕ) (v : P) (new : List E) (w : Written) → WritesPair key v count out new w → WritesMore count out new w
      fills_pair key v new w p = of w.over refl
        where
          of : (b : Bool) → w.over ≡ b → WritesMore count out new w
          of true e = fills_nothing count out new w so.filled.within (p.over e)
          of false e = fills_one count (entry key v) out new w (p.written e)

      module _ (b : ℕ) (low : b < 256) where
        -- what hangs under the next byte that has something
        abbrev pub HangsNext : Child ℕ P → Type 0
        HangsNext c = (x : Form ℕ P) → get s at ≡ Some x → IsFirst (children_of x) byte b c

        -- a value's pair, written next, is what hangs under its byte, written
        pub wrote_value : (key : ℕ) (v : P) → key < 2 ^ 64 → HangsNext (Value v)
            → (fits (heap_of s at).prefix (key_bytes key) ≡ true) × (get_or (key_bytes key) (length (heap_of s at).prefix) 0 ≡ b)
            → (new : List E) (w : Written) → WritesPair key v count out new w → Wrote at start first old b new w
        wrote_value key v large next has new w p = record {
          filled = filled_more first count old out new w so.filled (fills_pair key v new w p);
          on = λ above from way here.
              let o = so.on above from way here in
              let steps = above ++ branch_at at byte ∷ [] in
              let passes = passes_value s t above at byte o.way steps (same_ahead s steps) b low key v large next has in
              (passes.way, passed steps steps (above ++ branch_at at (b + 1) ∷ []) key v count out (with_pairs s entry last old first from) new w passes o.rest p);
        }

        -- the pair of a leaf in its parent's place, written next, is what hangs under its byte, written
        pub wrote_leaf : (key below : ℕ) (v : P) → key < 2 ^ 64 → HangsNext (Sub below) → StandsWith s below key v
            → (new : List E) (w : Written) → WritesPair key v count out new w → Wrote at start first old b new w
        wrote_leaf key below v large next leaf new w p = record {
          filled = filled_more first count old out new w so.filled (fills_pair key v new w p);
          on = λ above from way here.
              let o = so.on above from way here in
              let steps = above ++ branch_at at byte ∷ [] in
              let passes = passes_leaf s t above at byte o.way steps (same_ahead s steps) b low key below v large next leaf in
              (passes.way, passed steps steps (above ++ branch_at at (b + 1) ∷ []) key v count out (with_pairs s entry last old first from) new w passes o.rest p);
        }

        -- a node with a slot of its own
        pub wrote_node : (below : ℕ) → HangsNext (Sub below) → (new : List E) (w : Written) → WritesMore count out new w → WritesNode s entry last below 0 count out new w
            → Wrote at start first old b new w
        wrote_node below next new w f writes = record {
          filled = filled_more first count old out new w so.filled f;
          on = λ above from way here.
              let o = so.on above from way here in
              let steps = above ++ branch_at at byte ∷ [] in
              let passed_by = above ++ branch_at at (b + 1) ∷ [] in
              let down = goes_down s t above at byte o.way steps (same_ahead s steps) b low below next in
              let rest = writes passed_by o.rest.from down.on.way (same_at s steps (passed_by ++ branch_at below 0 ∷ []) o.rest.from down.on.same o.rest.at) in
              (cursor_cut s passed_by (branch_at below 0) down.on.way, subst (Remains s entry last passed_by new w) o.rest.pairs rest);
        }

      -- nothing is left in the node
      pub wrote_all : ((x : Form ℕ P) → get s at ≡ Some x → (b : ℕ) → byte ≤ b → map.get (children_of x) b ≡ None)
          → WritesNode s entry last at start first old out (record { count = count; over = false })
      wrote_all none above from way here =
          let o = so.on above from way here in
          let steps = above ++ branch_at at byte ∷ [] in
          let up = goes_up s t above at byte o.way steps (same_ahead s steps) none in
          record {
            over = λ e. absurd (cc e);
            next = λ e. record { from = o.rest.from; at = same_at s steps above o.rest.from up.same o.rest.at; pairs = o.rest.pairs };
          }

    module _ (at start first : ℕ) (old : List E) (b : ℕ) (new : List E) (w : Written) (did : Wrote at start first old b new w) where
      -- no other pair comes
      pub ends_fills : WritesMore first old new w
      ends_fills = record { more = did.filled.more; within = did.filled.within; long = did.filled.long; past = did.filled.past }

      -- where it is over then, the node's pairs are written
      pub ends_writes : w.over ≡ true → WritesNode s entry last at start first old new w
      ends_writes o above from way here =
          let both = did.on above from way here in
          record { over = λ e. both.1.over e; next = λ e. absurd (cc (o, e)) }

      -- or some may
      pub so_far_on : w.over ≡ false → SoFar at start first old (b + 1) w.count new
      so_far_on o = record {
        filled = did.filled;
        on = λ above from way here.
            let both = did.on above from way here in
            record { way = both.0; rest = both.1.next o };
      }

    -- the node of the last step is written, then the steps above are left
    pub up_from : (steps above : List Branch) (node byte : ℕ) (out new all : List E) (w now : Written) → steps ≡ above ++ branch_at node byte ∷ [] → IsCursor s steps
        → w.over ≡ false → Remains s entry last steps out w all → WritesNode s entry last node byte w.count out new now → Remains s entry last above new now all
    up_from steps above node byte out new all w now e way o rest writes =
        let c = rest.next o in
        let there : IsAt s (above ++ branch_at node byte ∷ []) c.from = subst (λ xs. IsAt s xs c.from) e c.at in
        subst (Remains s entry last above new now) c.pairs (writes above c.from (subst (IsCursor s) e way) there)

    -- where no step is above, the places written are all that were to be
    pub none_above : (steps : List Branch) (out all : List E) (w : Written) → steps ≡ [] → w.over ≡ false → Remains s entry last steps out w all → take w.count out ≡ all
    none_above steps out all w e o rest =
        let c = rest.next o in
        let there : IsAt s [] c.from = subst (λ xs. IsAt s xs c.from) e c.at in
        none_more out all w.count c.from (λ q lo hi. none_ahead s t [] c.from (same_ahead s []) there q lo) c.pairs

  -- a slice that nothing is written to yet is to have these pairs
  pub whole : (old : List E) (start : ℕ) → with_pairs s entry last old 0 start ≡ entries_by entry (take (length old) (in_range start (last + 1) (map.entries (pairs_of s))))
  whole old start =
      let n : length old - 0 ≡ length old = omega arith in
      let rest = entries_by entry (in_range start (last + 1) (map.entries (pairs_of s))) in
      ap (λ xs. xs ++ take (length old - 0) rest) (nothing old) ∙ (ap (λ k. take k rest) n ∙ take_entries entry (length old) (in_range start (last + 1) (map.entries (pairs_of s))))
    where
      nothing : (xs : List E) → take 0 xs ≡ []
      nothing [] = refl
      nothing (x ∷ xs) = refl

  -- as many places are written as the range has pairs that the slice has room for
  pub whole_count : (old new : List E) (start count : ℕ) → count ≤ length new → take count new ≡ with_pairs s entry last old 0 start
      → count ≡ length (take (length old) (in_range start (last + 1) (map.entries (pairs_of s))))
  whole_count old new start count l e =
      counted new (entries_by entry (take (length old) (in_range start (last + 1) (map.entries (pairs_of s))))) count l (e ∙ whole old start)
      ∙ count_entries entry (take (length old) (in_range start (last + 1) (map.entries (pairs_of s))))
