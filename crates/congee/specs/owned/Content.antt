-- What contracts see of an owned tree.
use Rattle.std.specs.Prelude.{◌≡◌, ℕ, ◌+◌, ◌≤◌, Bool, List, Option, None, refl}
use Rattle.std.specs.Ordering.{nat_cmp}
use Rattle.std.specs.FinMap as map
use Rattle.std.specs.Coded.{Coded, code_by, coded×, coded_ℕ, coded_list}
use Rattle.congee.specs.forms.Forms.{size_of}
use Rattle.congee.specs.declared.forms.base_node.NodeType.TheVariants.{N256}
use Rattle.congee.specs.owned.Full.{NoneSkipped}
use Rattle.congee.specs.owned.Going.{Going, Went, going_code}
use Rattle.congee.specs.owned.Stats.{Shape, root_alone, shape_code}
use Rattle.congee.specs.owned.Wanted.{InsertionFits, IsRefused, WantsLeaf, gain_of}
use Rattle.congee.specs.declared.allocator.OOMError.{OOMError}
use Rattle.judge.specs.Answer.{answer}
use Rattle.judge.specs.declared.journal.Call.{Call}
use Rattle.judge.specs.declared.journal.Reply.{Reply}

-- the pairs, the nodes, the sum of their sizes in bytes, how many children the nodes but the root lack, what the budget had
-- charged before the root, for each absent key the sizes of the nodes that its insertion makes, what goes with each key's value
-- where it is taken out, the budget that the nodes are charged to, and the drainer
pub record Content (V A D : Type 0) : Type 0 where
  pub pairs : map.FinMap nat_cmp V
  pub nodes : List Shape
  pub bytes : ℕ
  pub lacking : ℕ
  pub base : ℕ
  pub wants : map.FinMap nat_cmp (List ℕ)
  pub goes : map.FinMap nat_cmp Going
  pub allocator : A
  pub drainer : D

-- its code, by those of values, allocators and drainers
abbrev pub content_code : {V A D : Type 0} → Coded V → Coded A → Coded D → Coded (Content V A D)
content_code {V} {A} {D} v a d =
    code_by
    (map.FinMap nat_cmp V × (List Shape × (ℕ × (ℕ × (ℕ × (map.FinMap nat_cmp (List ℕ) × (map.FinMap nat_cmp Going × (A × D))))))))
    (coded× (map.code coded_ℕ v) (coded× (coded_list shape_code) (coded× coded_ℕ (coded× coded_ℕ (coded× coded_ℕ (coded× (map.code coded_ℕ (coded_list coded_ℕ)) (coded× (map.code coded_ℕ going_code) (coded× a d))))))))
    (λ c. (c.pairs, (c.nodes, (c.bytes, (c.lacking, (c.base, (c.wants, (c.goes, (c.allocator, c.drainer)))))))))
    (λ p. record { pairs = p.0; nodes = p.1.0; bytes = p.1.1.0; lacking = p.1.1.1.0; base = p.1.1.1.1.0; wants = p.1.1.1.1.1.0; goes = p.1.1.1.1.1.1.0; allocator = p.1.1.1.1.1.1.1.0; drainer = p.1.1.1.1.1.1.1.1 })
    (λ _. refl)

-- a tree with no pairs: its root alone stands, and the insertion of any key makes a leaf alone
pub record IsBare {V A D : Type 0} (t : Content V A D) : Type 0 where
  pub pairs : t.pairs ≡ map.empty
  pub nodes : t.nodes ≡ root_alone
  pub wants : WantsLeaf t.wants
  pub bytes : t.bytes ≡ size_of N256
  pub filled : t.lacking ≡ 0

-- the call on the tree is the one on its map
abbrev pub AnswersAsMap : {V A D : Type 0} → (V → V → Bool) → Content V A D → Content V A D → Call V → Reply V → Type 0
AnswersAsMap same old new call reply = answer same old.pairs call ≡ (reply, new.pairs)

-- the charge moved as the nodes' sizes did; limit and drainer are as before
pub record KeepsCharge {V A D : Type 0} (charged limit : A → ℕ) (old new : Content V A D) : Type 0 where
  pub balance : charged new.allocator + old.bytes ≡ charged old.allocator + new.bytes
  pub same_limit : limit new.allocator ≡ limit old.allocator
  pub drainer : new.drainer ≡ old.drainer

-- a refused call leaves the pairs, the nodes, their sizes, what they lack, and what later calls make and take
pub record Unchanged {V A D : Type 0} (old new : Content V A D) : Type 0 where
  pub pairs : new.pairs ≡ old.pairs
  pub nodes : new.nodes ≡ old.nodes
  pub bytes : new.bytes ≡ old.bytes
  pub lacking : new.lacking ≡ old.lacking
  pub wants : new.wants ≡ old.wants
  pub goes : new.goes ≡ old.goes

module _ {V A D : Type 0} (same : V → V → Bool) (charged limit : A → ℕ) (old new : Content V A D) where
  -- an insertion: the call is the one on the map, the nodes that it makes fitted the budget, the sum of the nodes' sizes grows by
  -- theirs, and no node lacks a child where none did
  pub record Inserts (key : ℕ) (call : Call V) (reply : Reply V) : Type 0 where
    pub answers : AnswersAsMap same old new call reply
    pub fits : InsertionFits (map.get old.wants key) (charged old.allocator) (limit old.allocator)
    pub bytes : new.bytes ≡ old.bytes + gain_of (map.get old.wants key)
    pub filled : old.lacking ≡ 0 → new.lacking ≡ 0
    pub keeps : KeepsCharge charged limit old new

  -- a call that inserts no key: it is the one on the map, these nodes go, so that the nodes take no more bytes than before, and no
  -- node lacks a child where none did, if the call skipped no lesser node that it wanted
  pub record Modifies (going : Option Going) (call : Call V) (reply : Reply V) : Type 0 where
    pub answers : AnswersAsMap same old new call reply
    pub bytes : Went (charged old.allocator) (limit old.allocator) old.bytes new.bytes going
    pub no_more : new.bytes ≤ old.bytes
    pub filled : old.lacking ≡ 0 → NoneSkipped old.bytes new.bytes going → new.lacking ≡ 0
    pub keeps : KeepsCharge charged limit old new

  -- a call that changes nothing: it is the one on the map
  pub record ChangesNothing (call : Call V) (reply : Reply V) : Type 0 where
    pub answers : AnswersAsMap same old new call reply
    pub unchanged : Unchanged old new
    pub keeps : KeepsCharge charged limit old new

-- a refused insertion: the key is absent, one of the nodes that it makes wasn't made, and it leaves all as it was
pub record Refuses {V A D : Type 0} (charged limit : A → ℕ) (old new : Content V A D) (key : ℕ) (e : OOMError) : Type 0 where
  pub absent : map.get old.pairs key ≡ None
  pub cause : IsRefused (map.get old.wants key) (charged old.allocator) (limit old.allocator) e
  pub unchanged : Unchanged old new
  pub keeps : KeepsCharge charged limit old new
