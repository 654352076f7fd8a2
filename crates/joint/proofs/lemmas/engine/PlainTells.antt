-- The map that stands in nodes, and how they are spread, is the same in the same nodes by numbers.
use Rattle.std.proofs.Common.{◌≡◌, ℕ, zero, suc, ◌+◌, cond, List, ◌∷◌, ◌++◌, length, refl, sym, ◌∙◌, ap, subst}
use Rattle.std.specs.Prelude.{None, Some, slice_get, slice_index}
use Rattle.std.specs.FinMap.{len}
use Rattle.judge.specs.Answer.{Pairs}
use Rattle.congee.specs.Heap.{Node, Hung, Nothing, Below, Holds, fits, child_for, of_child, walk, value_at}
use Rattle.congee.specs.Keys.{IsMapOf, key_bytes}
use Rattle.congee.specs.Notes.{Note, Linked, Tree, LockWords, is_published}
use Rattle.congee.specs.owned.Levels.{under_byte, under_bytes}
use Rattle.congee.specs.owned.Stats.{Shape, IsTally}
use Rattle.congee.specs.protocol.Alike.{HungAlike, NodeAlike, HeapAlike}
use Rattle.joint.specs.declared.steps.Done.TheVariants.{Keys, Empty, Stats}
use Rattle.joint.specs.declared.steps.Outcome.{Outcome}
use Rattle.joint.specs.declared.steps.Outcome.TheVariants.{Done, Refused}
use Rattle.joint.specs.declared.refusal.Refusal.TheVariants.{Memory}
use Rattle.joint.specs.declared.steps.Survey.{Survey}
use Rattle.joint.specs.declared.steps.Survey.TheVariants as survey
use Rattle.joint.specs.nodes.Levels.{form_with, shape_of, nodes_from, nodes_of}
use Rattle.joint.specs.engine.Surveys.{TellsOf, TellsKeys, TellsEmpty, TellsStats}

module _ {V : Type 0} (order : List ℕ) (h g : ℕ → Node V) (x : HeapAlike order h g) (a : ℕ → Note) (t : Tree a h) (w : LockWords a h) (root : slice_get order 0 ≡ Some 0) where
  abbrev At : ℕ → ℕ → Type 0
  At n c = slice_get order n ≡ Some c

  node : (n c : ℕ) → At n c → (a c).status ≡ Linked → NodeAlike order (h c) (g n)
  node n c e l = x n c e ((w.each c).stands (ap is_published l))

  -- below one child
  child_walk : (key : List ℕ) (f : ℕ) (y z : Hung V) → HungAlike order y z → ((d m : ℕ) → y ≡ Below d → At m d → walk g f m key ≡ walk h f d key) → of_child (λ c. walk g f c key) z ≡ of_child (λ c. walk h f c key) y
  child_walk key f Nothing z e go = ap (of_child (λ c. walk g f c key)) e
  child_walk key f (Below d) z e go = ap (of_child (λ c. walk g f c key)) e.1 ∙ go d e.0 refl e.2
  child_walk key f (Holds v) z e go = ap (of_child (λ c. walk g f c key)) e

  walk_alike : (key : List ℕ) (f n c : ℕ) → At n c → (a c).status ≡ Linked → walk g f n key ≡ walk h f c key
  walk_alike key zero n c e l = refl
  walk_alike key (suc f) n c e l =
      let q : NodeAlike order (h c) (g n) = node n c e l in
      let below : of_child (λ d. walk g f d key) ((g n).children (slice_index key (length (h c).prefix))) ≡ of_child (λ d. walk h f d key) (child_for (h c) key) =
      child_walk key f (child_for (h c) key) ((g n).children (slice_index key (length (h c).prefix))) (q.children (slice_index key (length (h c).prefix))) (λ d m z at. walk_alike key f m d at (t.down c _ d l z).linked) in
      ap (λ p. cond (fits p key) (of_child (λ d. walk g f d key) ((g n).children (slice_index key (length p)))) None) q.prefix ∙ ap (λ o. cond (fits (h c).prefix key) o None) below

  -- under each key stands the same value
  pub value_alike : (key : List ℕ) → value_at g key ≡ value_at h key
  value_alike key = walk_alike key 8 0 0 root t.root

  -- the pairs that stand in the one stand in the other
  pub map_here : (m : Pairs V) → IsMapOf h m → IsMapOf g m
  map_here m s = record { at = λ k l. s.at k l ∙ sym (value_alike (key_bytes k)); none_beyond = s.none_beyond }

  map_there : (m : Pairs V) → IsMapOf g m → IsMapOf h m
  map_there m s = record { at = λ k l. s.at k l ∙ value_alike (key_bytes k); none_beyond = s.none_beyond }

  -- the nodes by levels
  child_spread : (y z : Hung V) (up low : ℕ → List Shape) → HungAlike order y z → ((d m : ℕ) → y ≡ Below d → At m d → up m ≡ low d) → under_byte up z ≡ under_byte low y
  child_spread Nothing z up low e go = ap (under_byte up) e
  child_spread (Below d) z up low e go = ap (under_byte up) e.1 ∙ go d e.0 refl e.2
  child_spread (Holds v) z up low e go = ap (under_byte up) e

  all_spread : (y z : ℕ → Hung V) (up low : ℕ → List Shape) (k : ℕ) → ((b : ℕ) → HungAlike order (y b) (z b)) → ((b d m : ℕ) → y b ≡ Below d → At m d → up m ≡ low d) → under_bytes up z k ≡ under_bytes low y k
  unfolding under_bytes
  all_spread y z up low zero e go = refl
  all_spread y z up low (suc k) e go =
      ap (λ s. s ++ under_byte up (z k)) (all_spread y z up low k e go) ∙ ap (λ s. under_bytes low y k ++ s) (child_spread (y k) (z k) up low (e k) (go k))

  shape_alike : (level : ℕ) (p q : Node V) → NodeAlike order p q → shape_of level q ≡ shape_of level p
  shape_alike level p q e =
      ap (λ z. record { level = level; form = form_with z; prefix = length q.prefix; children = q.count }) e.capacity
      ∙ ap (λ z. record { level = level; form = form_with p.capacity; prefix = length z; children = q.count }) e.prefix
      ∙ ap (λ z. record { level = level; form = form_with p.capacity; prefix = length p.prefix; children = z }) e.count

  spread : (f level n c : ℕ) → At n c → (a c).status ≡ Linked → nodes_from g f level n ≡ nodes_from h f level c
  unfolding nodes_from
  spread zero level n c e l = refl
  spread (suc f) level n c e l =
      let q : NodeAlike order (h c) (g n) = node n c e l in
      ap (λ s. s ∷ under_bytes (λ d. nodes_from g f (level + 1) d) (g n).children 256) (shape_alike level (h c) (g n) q)
      ∙ ap (λ s. shape_of level (h c) ∷ s) (all_spread (h c).children (g n).children (λ d. nodes_from g f (level + 1) d) (λ d. nodes_from h f (level + 1) d) 256 q.children (λ b d m z at. spread f (level + 1) m d at (t.down c b d l z).linked))

  nodes_alike : nodes_of g ≡ nodes_of h
  unfolding nodes_of
  nodes_alike = spread 8 0 0 0 root t.root

  -- what a call of one step tells
  keys_alike : (o : Outcome V) → TellsKeys h o → TellsKeys g o
  keys_alike (Done (Keys keys)) e = λ m s. e m (map_there m s)
  keys_alike (Refused Memory) e = e
  keys_alike o e = absurd e

  empty_alike : (o : Outcome V) → TellsEmpty h o → TellsEmpty g o
  empty_alike (Done (Empty b)) e = λ m s. e m (map_there m s)
  empty_alike o e = absurd e

  stats_alike : (o : Outcome V) → TellsStats h o → TellsStats g o
  stats_alike (Done (Stats stats)) e = λ m s. subst (λ (z : List Shape). IsTally stats z (len m)) (sym nodes_alike) (e m (map_there m s))
  stats_alike (Refused Memory) e = e
  stats_alike o e = absurd e

  -- what a call of one step tells of the one it tells of the other
  pub tells_alike : (k : Survey) (o : Outcome V) → TellsOf h k o → TellsOf g k o
  tells_alike survey.Keys o e = keys_alike o e
  tells_alike survey.IsEmpty o e = empty_alike o e
  tells_alike survey.Stats o e = stats_alike o e
