-- A node of which a version was taken, over the steps of others.
use Rattle.std.proofs.Common.{◌≡◌, ℕ, Bool, true, List, length, sym, ◌∙◌, subst, arith}
use Rattle.std.specs.Prelude.{None}
use Rattle.congee.specs.Heap.{Node, fits, is_taken}
use Rattle.congee.specs.Notes.{Note, Held, is_published}
use Rattle.congee.specs.protocol.Protocol.{Stamped, Fresh, Made, Holding, Rely}

module _ {V : Type 0} (K : ℕ → Type 0) (i : ℕ) (a : ℕ → Note) (h : ℕ → Node V) (a' : ℕ → Note) (h' : ℕ → Node V) (r : Rely K i a h a' h') where
  -- a node of which a version was taken stays one over the steps of others
  pub stamped_kept : (n v : ℕ) → K n → Stamped a h n v → Stamped a' h' n v
  stamped_kept n v k s = record { published = r.published n k s.published; up = omega (arith, s.up, r.version n k s.published) }

  -- what is true of a node as long as its word is the one taken stays so over the steps of others
  pub fresh_kept : (n v : ℕ) (Q : Node V → Type 0) → K n → Fresh a h n v Q → Fresh a' h' n v Q
  fresh_kept n v Q k f = record {
    stamped = stamped_kept n v k f.stamped;
    holds = λ t. let e : h' n ≡ h n = r.word n v k f.stamped.published f.stamped.up t in
        subst Q (sym e) (f.holds (let P : Node V → Type 0 = λ x. is_taken x v ≡ true in subst P e t));
  }

  -- whether the prefix of a node in reach fits a key stays so over the steps of others
  pub fits_kept : (n : ℕ) (key : List ℕ) (b : Bool) → K n → is_published (a n).status ≡ true → fits (h n).prefix key ≡ b → fits (h' n).prefix key ≡ b
  fits_kept n key b k p e = rw (r.prefix n k p) e

  -- a node of the tree that the call has locked stays so over the steps of others
  pub holding_kept : (n : ℕ) → Holding i a n → Holding i a' n
  holding_kept n x = let e : (h' n ≡ h n) × ((a' n).status ≡ (a n).status) × ((a' n).owner ≡ (a n).owner) = r.mine n x.owner in
      record { owner = e.2 ∙ x.owner; linked = e.1 ∙ x.linked }

  -- a node that the call has made stays so over the steps of others
  pub made_kept : (key : List ℕ) (c size least : ℕ) → Made i a h key c size least → Made i a' h' key c size least
  made_kept key c size least x = let e : (h' c ≡ h c) × (a' c ≡ a c) = r.held c x.held in
      let P : Note → Node V → Type 0 = λ y z. (y.status ≡ Held i) × (y.owner ≡ None) × (fits z.prefix key ≡ true) × (length z.prefix ≡ size) in
      record {
        held = rw e.1 x.held;
        unowned = rw e.1 x.unowned;
        fitted = rw e.0 x.fitted;
        long = rw e.0 x.long;
        blank = λ b. rw e.0 (x.blank b);
        empty = rw e.0 x.empty;
        room = rw e.0 x.room;
        made = rw e.0 x.made;
        kept = rw e.0 x.kept;
        unretired = rw e.0 x.unretired;
        unlocked = rw e.0 x.unlocked;
        live = rw e.0 x.live;
        keyed = rw e.0 x.keyed;
      }
