-- What contracts see of a tree of owners.
use Rattle.std.specs.Prelude.{◌≡◌, ℕ, ◌+◌, ◌-◌, ◌^◌, ◌≤◌, Bool, false, List, Option, None, refl}
use Rattle.std.specs.Ordering.{nat_cmp}
use Rattle.std.specs.FinMap as map
use Rattle.std.specs.Coded.{Coded, code_by, coded×, coded_ℕ, coded_list}
use Rattle.congee.specs.owned.Full.{NoneSkipped}
use Rattle.congee.specs.owned.Going.{Going, Went, going_code}
use Rattle.congee.specs.owned.Stats.{Shape, shape_code}
use Rattle.congee.specs.owned.Wanted.{InsertionFits, IsRefused, gain_of}
use Rattle.congee.specs.declared.allocator.OOMError.{OOMError}
use Rattle.judge.specs.Answer.{answer}
use Rattle.judge.specs.declared.journal.Call.{Call}
use Rattle.judge.specs.declared.journal.Reply.{Reply}

-- each key's number with the value that its owner shares, the nodes, the sum of their sizes in bytes, which is what is charged,
-- how many children the nodes but the root lack, for each absent key the sizes of the nodes that its insertion makes, and what
-- goes with each key's value where it is taken out
pub record Owners (V : Type 0) : Type 0 where
  pub pairs : map.FinMap nat_cmp V
  pub nodes : List Shape
  pub bytes : ℕ
  pub lacking : ℕ
  pub wants : map.FinMap nat_cmp (List ℕ)
  pub goes : map.FinMap nat_cmp Going

-- its code, by that of values
abbrev pub owners_code : {V : Type 0} → Coded V → Coded (Owners V)
owners_code {V} v =
    code_by
    (map.FinMap nat_cmp V × (List Shape × (ℕ × (ℕ × (map.FinMap nat_cmp (List ℕ) × map.FinMap nat_cmp Going)))))
    (coded× (map.code coded_ℕ v) (coded× (coded_list shape_code) (coded× coded_ℕ (coded× coded_ℕ (coded× (map.code coded_ℕ (coded_list coded_ℕ)) (map.code coded_ℕ going_code))))))
    (λ c. (c.pairs, (c.nodes, (c.bytes, (c.lacking, (c.wants, c.goes))))))
    (λ p. record { pairs = p.0; nodes = p.1.0; bytes = p.1.1.0; lacking = p.1.1.1.0; wants = p.1.1.1.1.0; goes = p.1.1.1.1.1 })
    (λ _. refl)

-- no two owners are known to share equal values
abbrev pub never_same : {V : Type 0} → V → V → Bool
never_same v w = false

-- the call on the tree is the one on its map
abbrev pub OwnerAnswers : {V : Type 0} → Owners V → Owners V → Call V → Reply V → Type 0
OwnerAnswers old new call reply = answer never_same old.pairs call ≡ (reply, new.pairs)

module _ {V : Type 0} (old new : Owners V) where
  -- an insertion: the call is the one on the map, the nodes that it makes fitted, the sum of the nodes' sizes grows by theirs, and
  -- no node lacks a child where none did
  pub record OwnerInserts (key : ℕ) (call : Call V) (reply : Reply V) : Type 0 where
    pub answers : OwnerAnswers old new call reply
    pub fits : InsertionFits (map.get old.wants key) old.bytes (2 ^ 64 - 1)
    pub bytes : new.bytes ≡ old.bytes + gain_of (map.get old.wants key)
    pub filled : old.lacking ≡ 0 → new.lacking ≡ 0

  -- a refused insertion: the key is absent, one of the nodes that it makes wasn't made, and it leaves all as it was
  pub record OwnerRefuses (key : ℕ) (e : OOMError) : Type 0 where
    pub absent : map.get old.pairs key ≡ None
    pub cause : IsRefused (map.get old.wants key) old.bytes (2 ^ 64 - 1) e
    pub unchanged : new ≡ old

  -- a call that inserts no key: it is the one on the map, these nodes go, so that the nodes take no more bytes than before, and no
  -- node lacks a child where none did, if the call skipped no lesser node that it wanted
  pub record OwnerModifies (going : Option Going) (call : Call V) (reply : Reply V) : Type 0 where
    pub answers : OwnerAnswers old new call reply
    pub bytes : Went old.bytes (2 ^ 64 - 1) old.bytes new.bytes going
    pub no_more : new.bytes ≤ old.bytes
    pub filled : old.lacking ≡ 0 → NoneSkipped old.bytes new.bytes going → new.lacking ≡ 0
