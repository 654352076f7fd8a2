-- What the last node on a way told of a key, as a run; and what was told of a range by nodes of which one has another version now.
use Rattle.std.proofs.Common.{◌≡◌, ◌⊎◌, ℕ, ◌+◌, ◌≤◌, List, [], Option, Some, IfSome, Err, arith, sym, subst, ⊎_elim, le_refl}
use Rattle.std.specs.List.{Contains}
use Rattle.optimistic.specs.declared.drain.nexts.Next.TheVariants.{Here}
use Rattle.optimistic.specs.declared.drain.nexts.Pair.{Pair}
use Rattle.optimistic.specs.declared.tree.next.Sight.{Sight}
use Rattle.optimistic.specs.declared.tree.run.Run.{Run}
use Rattle.optimistic.specs.declared.tree.trail.Turn.{Turn}
use Rattle.optimistic.specs.declared.tree.whole.Mark.{Mark}
use Rattle.optimistic.specs.declared.tree.whole.Unscanned.{Unscanned}
use Rattle.optimistic.specs.declared.tree.whole.Unscanned.TheVariants.{Again, Memory}
use Rattle.optimistic.specs.declared.words.rule.Entry.{Entry}
use Rattle.optimistic.specs.declared.words.rule.View.{View}
use Rattle.optimistic.specs.words.Kept.{Since}
use Rattle.optimistic.specs.tree.Alone.{IsDated, IsDisturbedFrom}
use Rattle.optimistic.specs.tree.Drained.{IsDrained, pair_of}
use Rattle.optimistic.specs.tree.Runs.{behind, within, Gives, IsRun}
use Rattle.optimistic.specs.tree.Sights.{Holds, IsSight}
use Rattle.optimistic.specs.tree.Trails.{IsTurn}
use Rattle.optimistic.specs.tree.Wholes.{AreDated, HasMore, HasMoved, IfAgain, mark_of}
use Rattle.optimistic.proofs.lemmas.drain.Lists.{drained_none}
use Rattle.optimistic.proofs.lemmas.tree.Alone.{dated_in, dated_moved}
use Rattle.optimistic.proofs.lemmas.tree.Runs.{drained_gives}
use Rattle.optimistic.proofs.lemmas.words.Moments.{since_refl}

-- a value is that of its key alone
pub gives_here : (from x : ℕ) (log : List Entry) → Holds log from (Here x) → Gives log from from (Some (pair_of from x))
gives_here from x log h = (le_refl from, le_refl from, h, λ k above below apart. absurd (apart (omega arith)))

-- what the last node on a way told of the keys from one on up to another, of which those up to a last one are wanted
module _ (s : Sight) (pair : Option Pair) (from end last stop : ℕ) (w : View) (sight : IsSight s from w) (order : from ≤ last) (reach : from ≤ end) (low : stop ≤ last) (below : stop ≤ end) (which : (stop ≡ last) ⊎ (stop ≡ end)) where
  pub sight_up : from ≤ stop
  sight_up = ⊎_elim (λ (e : stop ≡ last). let z : from ≤ stop = omega arith in z) (λ (e : stop ≡ end). omega arith) which

  pub sight_run : (next : Option ℕ) (turn : Turn) (count places : ℕ) (pairs : List Pair) → IsTurn turn w → count ≤ places → behind last next ≡ stop + 1 → IfSome next (λ k. k ≤ last) → pairs ≡ within last pair → ((log : List Entry) → Holds log from s.next → Gives log from end pair)
      → IsRun record { at = s.at; version = s.version; next = next; count = count; turn = turn } from last places pairs w
  sight_run next turn count places pairs turns few is inside told gives = record {
    place = sight.place;
    turn = turns;
    least = sight.least;
    few = few;
    order = (let u = sight_up in omega (arith, u, is));
    inside = inside;
    holds = λ m since sound same. subst (λ (z : ℕ × List Pair). IsDrained m.log from z.0 z.1) (λ i. (sym is i, sym told i))
        (drained_gives m.log from from stop end last [] pair (drained_none m.log from) (le_refl from) sight_up below low which (gives m.log (sight.holds m since sound same)));
  }

-- nodes that told of a range, and one more
pub dated_more : (old new : List Mark) (r : Run) (v u w : View) → Since v.seen u.seen → Since u.seen w.seen → AreDated old v u → IsDated r.at.node r.version u.seen w.seen → HasMore old (mark_of r) new → AreDated new v w
dated_more old new r v u w s t all one more m c = ⊎_elim (λ (o : Contains old m). dated_in m.node m.version v.seen v.seen u.seen w.seen (since_refl v.seen) (all m o) t)
    (λ (e : mark_of r ≡ m). subst (λ (z : Mark). IsDated z.node z.version v.seen w.seen) e (dated_in r.at.node r.version v.seen u.seen w.seen w.seen s one (since_refl w.seen))) (more.only m c)

pub dated_none : (v : View) → AreDated [] v v
dated_none v m c = let l = c.1 in absurd (omega arith)

-- one of them moved
pub marks_moved : (marks : List Mark) (v u w : View) → AreDated marks v u → Since u.seen w.seen → HasMoved marks w → IsDisturbedFrom v w
marks_moved marks v u w all s moved = dated_moved moved.0.node moved.0.version v.seen u.seen w.seen (all moved.0 moved.1) s moved.2

-- what came of a part comes of the whole
pub again_map : (e : Unscanned) (P Q : Type 0) → (P → Q) → IfAgain {A = ℕ} (Err e) P → IfAgain {A = ℕ} (Err e) Q
again_map Again P Q f p = f p
again_map Memory P Q f p = tt

pub again_memory : (e : Unscanned) (P : Type 0) → e ≡ Memory → IfAgain {A = ℕ} (Err e) P
again_memory e P is = subst (λ (z : Unscanned). IfAgain {A = ℕ} (Err z) P) (sym is) tt

pub again_is : (e : Unscanned) (P : Type 0) → e ≡ Again → IfAgain {A = ℕ} (Err e) P → P
again_is e P is p = subst (λ (z : Unscanned). IfAgain {A = ℕ} (Err z) P) is p
