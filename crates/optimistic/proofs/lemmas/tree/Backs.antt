-- What a node tells of the last pair up to a key, as it was read word by word.
use Rattle.std.proofs.Common.{◌≡◌, ◌≢◌, ◌⊎◌, ℕ, ◌+◌, ◌-◌, ◌*◌, ◌^◌, ◌<◌, ◌≤◌, List, Option, None, Some, arith, ap, sym, ◌∙◌, refl, inl, inr}
use Rattle.std.proofs.lemmas.Bool.{cases_lt}
use Rattle.optimistic.specs.Layout.{prefix_of, byte_at}
use Rattle.optimistic.specs.declared.drain.nexts.Next.{Next}
use Rattle.optimistic.specs.declared.drain.nexts.Next.TheVariants.{Here, Down, After}
use Rattle.optimistic.specs.declared.drain.nexts.Pair.{Pair}
use Rattle.optimistic.specs.declared.moves.Item.{Item}
use Rattle.optimistic.specs.declared.tree.place.Place.{Place}
use Rattle.optimistic.specs.declared.words.rule.Entry.{Entry}
use Rattle.optimistic.specs.declared.words.rule.View.{View}
use Rattle.optimistic.specs.forms.Children.{first_of, second_of, put_first}
use Rattle.optimistic.specs.words.Kept.{value_of, Since}
use Rattle.optimistic.specs.words.Told.{Looks}
use Rattle.optimistic.specs.tree.Drained.{pair_of}
use Rattle.optimistic.specs.tree.Nexts.{IsNear, IsNext, IsPlaced, UpTo, IsLast}
use Rattle.optimistic.specs.tree.Reads.{Found}
use Rattle.optimistic.specs.tree.Sights.{Lacks, Shows, Reaches}
use Rattle.optimistic.specs.tree.Trees.{IsTree}
use Rattle.optimistic.proofs.lemmas.drain.Ends.{gap_next, child_next}
use Rattle.optimistic.proofs.lemmas.drain.Keys.{near_less, reaches, starts, precedes}
use Rattle.optimistic.proofs.lemmas.forms.Gaps.{first_none_each, first_each, second_each}
use Rattle.optimistic.proofs.lemmas.tree.Reading.{agrees_from, agrees_to}

-- what is told from a key on goes up to that key
pub placed_reaches : (to : ℕ) (next : Next) → IsPlaced to next → Reaches to to next
placed_reaches to (Here x) p = refl
placed_reaches to (Down q) p = refl
placed_reaches to (After last) p = p

-- what a child that is there tells of the keys from one on that are near the key, and what it tells that there is none, of a node that was
-- read
module _ (at : Place) (to from first second : ℕ) (v w : View) (deep : at.level < 8) (found : Found at.node at.form first second to (byte_at to at.level) v w) where
  pub shows_back_child : (e : Item) (next : Next) (x : View) → e.first ≡ first → e.last ≡ second → first ≢ 0 → Since w.seen x.seen → IsNear (at.level + 1) to from → IsNext (at.level + 1) (λ k. put_first at.form e.first k) (λ k. e.last) from next
      → Shows at from next v x
  shows_back_child e next x one two some since near n f ag is =
      let said = found f (agrees_to at.node at.form v w x f ag since) is in
      let same : byte_at from at.level ≡ byte_at to at.level = (near_less at.level to from deep near).1 in
      let there : (k : ℕ) → first_of at.form f k (byte_at to at.level) ≡ put_first at.form e.first k = λ k. first_each at.form f to (byte_at to at.level) e.first (said.0 ∙ sym one) (λ z. some (sym one ∙ z)) k in
      let last : (k : ℕ) → second_of at.form f k (byte_at to at.level) ≡ e.last = λ k. second_each at.form f to (byte_at to at.level) e.last (said.1 some ∙ sym two) k in
      child_next at.form at.level from f deep is e
      (λ k b. ap (λ (z : ℕ). first_of at.form f k z) (b ∙ same) ∙ there k)
      (λ k b. ap (λ (z : ℕ). second_of at.form f k z) (b ∙ same) ∙ last k)
      next n

  pub shows_back_gap : (end least last : ℕ) (x : View) → first ≡ 0 → Looks IsTree v w → Since w.seen x.seen → Lacks at.node at.form end (byte_at to at.level + 1) w x → least ≤ byte_at to at.level → (least ≡ byte_at to at.level) ⊎ (end ≤ least)
      → from ≡ (prefix_of to at.level * 256 + least) * 2 ^ (56 - 8 * at.level) → last + 1 ≡ (prefix_of to at.level * 256 + byte_at to at.level + 1) * 2 ^ (56 - 8 * at.level) → Shows at from (After last) v x
  shows_back_gap end least last x none looks since lacks low behind start stop f ag is =
      let said = found f (agrees_to at.node at.form v w x f ag since) is in
      let here : (k : ℕ) → first_of at.form f k (byte_at to at.level) ≡ 0 = first_none_each at.form f to (byte_at to at.level) (said.0 ∙ none) in
      let gap = lacks f (agrees_from at.node at.form v w x f ag looks) is in
      let small : byte_at to at.level < 256 = omega arith in
      let s = starts to at.level least from deep (omega (arith, low, small)) start in
      let p = s.0 in
      let b = s.1 in
      let before : from ≤ to = precedes to at.level least from deep (omega (arith, low, small)) start low in
      let after : to ≤ last = reaches to at.level (byte_at to at.level) last deep stop (omega arith) in
      gap_next at.form at.level from f deep is last (byte_at to at.level) (stop ∙ ap (λ (z : ℕ). (z * 256 + byte_at to at.level + 1) * 2 ^ (56 - 8 * at.level)) (sym p)) (omega (arith, b, low)) small
      (λ k c above below. elim (cases_lt c (byte_at to at.level)) [
        | inl m ↦ gap k c (elim behind [
          | inl same ↦ absurd (omega (arith, same, b, above, m))
          | inr far ↦ omega (arith, far, b, above)
        ]) (omega (arith, below))
        | inr m ↦ let e : c ≡ byte_at to at.level = omega (arith, m, below) in ap (λ (z : ℕ). first_of at.form f k z) e ∙ here k
      ])
      (omega (arith, before, after))

-- the last pair up to a key
pub last_here : (to x : ℕ) (log : List Entry) → value_of to log ≡ Some x → IsLast log (to + 1) (Some (pair_of to x))
last_here to x log is = (omega arith, is, λ k above below. absurd (omega (arith, above, below)))

pub last_none : (to last : ℕ) (log : List Entry) → to ≤ last → UpTo 0 last (λ k. value_of k log ≡ None) → IsLast log (to + 1) None
last_none to last log end up = λ k above below. up.1 k above (omega (arith, end, below))

pub last_before : (to from last before : ℕ) (log : List Entry) (r : Option Pair) → before ≡ from → from ≤ to → to ≤ last → UpTo from last (λ k. value_of k log ≡ None) → IsLast log before r → IsLast log (to + 1) r
last_before to from last before log None same order end up f = λ k above below. elim (cases_lt k before) [
  | inl l ↦ f k above l
  | inr g ↦ up.1 k (omega (arith, g, same)) (omega (arith, end, below))
]
last_before to from last before log (Some p) same order end up f = (
  (let a = f.0 in omega (arith, a, same, order)),
  f.1,
  λ k above below. elim (cases_lt k before) [
    | inl l ↦ f.2 k above l
    | inr g ↦ up.1 k (omega (arith, g, same)) (omega (arith, end, below))
  ],
)
