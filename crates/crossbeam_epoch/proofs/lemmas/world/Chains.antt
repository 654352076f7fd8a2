-- A queue in blocks: what its parts hold as one list.
use Rattle.std.proofs.Common.{◌≡◌, ◌⊎◌, inl, inr, ℕ, zero, suc, ◌+◌, ◌-◌, ◌<◌, ◌≤◌, Bool, true, false, List, [], ◌∷◌, ◌++◌, ◌==◌, Option, None, Some, refl, sym, ap, subst, ◌∙◌, arith, length}
use Rattle.std.specs.Prelude.{◌↔◌, MatchOption, IfSome, IsSome, drop, nat_lt, slice_index_or}
use Rattle.std.specs.Option.{option_to_list}
use Rattle.std.proofs.lemmas.Bool.Decides.{nat_tests}
use Rattle.std.proofs.lemmas.List.{append_assoc, append-nil, nil_from_length, length-append}
use Rattle.crossbeam_epoch.specs.Chain.{joined, AreFilled, AreBlocks, refilled, room_freed, room_left}

-- a length below a capacity leaves room
pub refilled_same : (len capacity n m room : ℕ) → len ≡ n → capacity ≡ m → len < capacity → m - n ≡ room → room ≡ refilled room
refilled_same len capacity n m zero is same lt free = absurd (omega (arith, is, same, lt, free))
refilled_same len capacity n m (suc room) is same lt free = refl

-- what is read at the front of a list, if it has one
pub seen_first : {B R : Type 0} (now : R → B) (r : Option R) (xs : List B) (n : ℕ) → n ≡ length xs → IsSome r ↔ (0 < n) → IfSome r (λ b. now b ≡ slice_index_or xs 0 (now b))
    → MatchOption r (xs ≡ []) (λ b. (0 < length xs) × (now b ≡ slice_index_or xs 0 (now b)))
seen_first now None xs n long some is = nil_from_length xs (let bare : (0 < n) → ⊥ = λ lt. absurd (cc (some.1 lt)) in omega (arith, long, bare))
seen_first now (Some b) xs n long some is = (let lt : 0 < n = some.0 refl in omega (arith, long, lt), is)

-- what was seen to be empty is
pub nothing_in : {B : Type 0} (xs : List B) (empty : Bool) (n : ℕ) → n ≡ length xs → empty ≡ (n == 0) → empty ≡ true → xs ≡ []
nothing_in xs empty n long seen is = nil_from_length xs (grind (arith, nat_tests))

-- what was seen not to be empty isn't
pub something_in : (empty : Bool) (n : ℕ) → empty ≡ (n == 0) → empty ≡ false → 0 < n
something_in empty n seen isnt = grind (arith, nat_tests)

-- a list of some length isn't empty
pub not_nothing : {B : Type 0} (xs : List B) (n : ℕ) → n ≡ length xs → 0 < n → xs ≡ [] → ⊥
not_nothing [] n long some is = omega (arith, long, some)
not_nothing (x ∷ xs) n long some is = absurd (cc is)

module _ {B Q : Type 0} (items : Q → List B) where
  -- the first block has nothing, so there are none between: the last one is all
  pub last_alone : (first last : List B) (between : List Q) → first ≡ [] → between ≡ [] → first ++ (joined items between ++ last) ≡ last
  last_alone first last between none bare = ap (λ f. f ++ (joined items between ++ last)) none ∙ ap (λ b. joined items b ++ last) bare

  -- the last block becomes the first one
  pub moved : (first last to block : List B) (between : List Q) → first ≡ [] → between ≡ [] → to ≡ last → block ≡ [] → to ++ (joined items between ++ block) ≡ first ++ (joined items between ++ last)
  moved first last to block between none bare same fresh =
      ap (λ b. to ++ (joined items b ++ block)) bare ∙ ap (λ l. to ++ l) fresh ∙ append-nil to ∙ same ∙ sym (last_alone first last between none bare)

  -- the first of them is taken where the first block holds nothing
  pub taken_last : (r : Option B) (first first' last last' all : List B) (between : List Q) → first ++ (joined items between ++ last) ≡ all → first ≡ [] → first' ≡ [] → between ≡ []
      → MatchOption r ((last ≡ []) × (last' ≡ [])) (λ b. last ≡ b ∷ last')
      → MatchOption r ((all ≡ []) × (first' ++ (joined items between ++ last') ≡ [])) (λ b. all ≡ b ∷ (first' ++ (joined items between ++ last')))
  taken_last None first first' last last' all between are none none' bare took = (
    sym are ∙ last_alone first last between none bare ∙ took.0,
    last_alone first' last' between none' bare ∙ took.1,
  )
  taken_last (Some b) first first' last last' all between are none none' bare took =
      sym are ∙ last_alone first last between none bare ∙ took ∙ ap (λ l. b ∷ l) (sym (last_alone first' last' between none' bare))

  -- the first of them is taken from the first block
  pub taken_first : (first first' last all : List B) (b : B) (between : List Q) → first ++ (joined items between ++ last) ≡ all → first ≡ b ∷ first' → all ≡ b ∷ (first' ++ (joined items between ++ last))
  taken_first first first' last all b between are took = sym are ∙ ap (λ f. f ++ (joined items between ++ last)) took

  -- and the next block becomes the first one where it holds nothing any more
  pub taken_over : (first first' next last all : List B) (b : B) (between rest : List Q) → first ++ (joined items between ++ last) ≡ all → first ≡ b ∷ first' → first' ≡ [] → joined items between ≡ next ++ joined items rest
      → all ≡ b ∷ (next ++ (joined items rest ++ last))
  taken_over first first' next last all b between rest are took none opened =
      taken_first first first' last all b between are took
      ∙ ap (λ f. b ∷ (f ++ (joined items between ++ last))) none
      ∙ ap (λ l. b ∷ (l ++ last)) opened
      ∙ ap (λ l. b ∷ l) (append_assoc next (joined items rest) last)

-- one more block that isn't empty
pub all_filled : {Q : Type 0} (len : Q → ℕ) (qs : List Q) (q : Q) → AreFilled len qs → 0 < len q → AreFilled len (qs ++ q ∷ [])
all_filled len [] q are some = (some, tt)
all_filled len (p ∷ ps) q are some = (are.0, all_filled len ps q are.1 some)

-- the first of two lists that have nothing together has nothing
pub nothing_first : {B : Type 0} (xs ys : List B) → xs ++ ys ≡ [] → xs ≡ []
nothing_first [] ys none = refl
nothing_first (x ∷ xs) ys none = absurd (cc none)

-- what is taken off the front of a block
pub taken_off : {B : Type 0} (r : Option B) (xs ys : List B) → xs ≡ option_to_list r ++ ys → ys ≡ drop 1 xs → MatchOption r ((xs ≡ []) × (ys ≡ [])) (λ b. xs ≡ b ∷ ys)
taken_off None [] ys is rest = (refl, sym is)
taken_off None (x ∷ xs) ys is rest = let more = ap (λ (l : List _). length l) (is ∙ rest) in absurd (omega (arith, more))
taken_off (Some b) xs ys is rest = is

-- whether there is a bag, by the front one
pub some_seen : (n : ℕ) → 0 < n → false ≡ (n == 0)
some_seen n some = grind (arith, nat_tests)

-- a list without a bag is seen to be empty
pub none_seen : {B : Type 0} (xs : List B) → xs ≡ [] → true ≡ (length xs == 0)
none_seen xs none = rw none refl

-- what was seen to hold nothing
pub nothing_left : {B : Type 0} (xs : List B) (empty : Bool) → empty ≡ (length xs == 0) → empty ≡ true → xs ≡ []
nothing_left xs empty seen is = nothing_in xs empty (length xs) refl seen is

-- a bag that was taken from the last block leaves room for one more in it
pub freed_last : {B : Type 0} (r : Option B) (cap cap' len len' left room : ℕ) → (cap ≡ 0) ⊎ (cap ≡ 32) → len ≤ cap → cap' ≡ cap → MatchOption r ((len ≡ 0) × (len' ≡ 0)) (λ _. len' + 1 ≡ len) → left ≡ len' → cap - len ≡ room
    → IfSome r (λ _. cap' - len' ≡ room_freed left room)
freed_last None cap cap' len len' left room whole fits same one is free = tt
freed_last (Some b) cap cap' len len' left room (inl none) fits same one is free = absurd (omega (arith, none, fits, one))
freed_last (Some b) cap cap' len len' left room (inr whole) fits same one is free =
    let below : nat_lt (left + room) 32 ≡ true = (let sum : left + room < 32 = omega (arith, whole, fits, one, is, free) in grind (arith, nat_tests)) in
    rw below (omega (arith, whole, fits, same, one, is, free))

-- one that was taken before the last block leaves as much room as there was
pub freed_first : (cap len left room : ℕ) → cap ≡ 32 → len ≤ cap → cap - len ≡ room → len ≤ left → room ≡ room_freed left room
freed_first cap len left room whole fits free within =
    let past : nat_lt (left + room) 32 ≡ false = (let sum : 32 ≤ left + room = omega (arith, whole, fits, free, within) in grind (arith, nat_tests)) in
    rw past refl

-- with nothing left there is no room, and else there is what was freed
pub left_none : {B : Type 0} (xs : List B) (room : ℕ) → xs ≡ [] → 0 ≡ room_left (length xs) room
left_none xs room none = rw none refl

-- with something left there is the room that was freed
pub left_some : {B : Type 0} (xs : List B) (room : ℕ) → (length xs == 0) ≡ false → room_freed (length xs) room ≡ room_left (length xs) room
left_some xs room some = rw some refl

-- a length is within that of a longer list
pub within : {B : Type 0} {xs ys : List B} (last : List B) (n : ℕ) → xs ≡ ys → length last ≤ length xs → n ≡ length last → n ≤ length ys
within last n same le long = let e = ap (λ (l : List _). length l) same in omega (arith, e, le, long)

module _ {B Q : Type 0} (items : Q → List B) where
  -- the last block is no longer than the whole
  pub last_within : (first last : List B) (between : List Q) → length last ≤ length (first ++ (joined items between ++ last))
  last_within first last between = omega (arith, length-append first (joined items between ++ last), length-append (joined items between) last)

  module _ (len capacity : Q → ℕ) where
    abbrev Blocks : Q → List Q → Q → Type 0
    Blocks first between last = AreBlocks items len capacity first between last

    -- another bag in the last block
    pub blocks_with : (first last last' : Q) (between : List Q) → Blocks first between last → capacity last' ≡ capacity last → Blocks first between last'
    blocks_with first last last' between a same = record {
      filled = a.filled;
      alone = a.alone;
      gone = a.gone;
      whole = subst (λ (n : ℕ). (n ≡ 0) ⊎ (n ≡ 32)) (sym same) a.whole;
      more = λ some. same ∙ a.more some;
    }

    -- a bag of the last block is taken, where it is the only one
    pub blocks_last : (first first' last last' : Q) (between : List Q) → Blocks first between last → items first ≡ [] → items first' ≡ [] → capacity first' ≡ capacity first → capacity last' ≡ capacity last → Blocks first' between last'
    blocks_last first first' last last' between a none none' same stays = record {
      filled = a.filled;
      alone = λ _. a.alone none;
      gone = λ _. same ∙ a.gone none;
      whole = subst (λ (n : ℕ). (n ≡ 0) ⊎ (n ≡ 32)) (sym stays) a.whole;
      more = λ some. absurd (some none');
    }

    -- a bag of the first block is taken, and others are left in it
    pub blocks_first : (first first' last : Q) (between : List Q) → Blocks first between last → (items first ≡ [] → ⊥) → (items first' ≡ [] → ⊥) → Blocks first' between last
    blocks_first first first' last between a some some' = record {
      filled = a.filled;
      alone = λ none. absurd (some' none);
      gone = λ none. absurd (some' none);
      whole = a.whole;
      more = λ _. a.more some;
    }

    -- or the next block comes first
    pub blocks_next : (first next last : Q) (between rest : List Q) → Blocks first between last → (items first ≡ [] → ⊥) → AreFilled len rest → (items next ≡ [] → (rest ≡ []) × (capacity next ≡ 0)) → Blocks next rest last
    blocks_next first next last between rest a some filled none = record {
      filled = filled;
      alone = λ e. (none e).0;
      gone = λ e. (none e).1;
      whole = a.whole;
      more = λ _. a.more some;
    }

    -- a block is made, or given up, where there is no bag in the last one
    pub blocks_made : (first last block : Q) (between : List Q) → Blocks first between last → capacity block ≡ 32 → Blocks first between block
    blocks_made first last block between a made = record { filled = a.filled; alone = a.alone; gone = a.gone; whole = inr made; more = λ _. made }

    -- behind a first block that has nothing the last one may be none
    pub blocks_none : (first last block : Q) (between : List Q) → Blocks first between last → items first ≡ [] → capacity block ≡ 0 → Blocks first between block
    blocks_none first last block between a none given = record { filled = a.filled; alone = a.alone; gone = a.gone; whole = inl given; more = λ some. absurd (some none) }

    -- a block is made behind the last one
    pub blocks_moved : (first to last block : Q) (between : List Q) → Blocks first between last → items first ≡ [] → (items to ≡ [] → ⊥) → capacity block ≡ 32 → Blocks to between block
    blocks_moved first to last block between a none some made = record {
      filled = a.filled;
      alone = λ _. a.alone none;
      gone = λ e. absurd (some e);
      whole = inr made;
      more = λ _. made;
    }

    -- behind a first block that has something, filled ones may stand between, and a made one last
    pub blocks_added : (first last block : Q) (between between' : List Q) → Blocks first between last → (items first ≡ [] → ⊥) → AreFilled len between' → capacity block ≡ 32 → Blocks first between' block
    blocks_added first last block between between' a some filled made = record {
      filled = filled;
      alone = λ none. absurd (some none);
      gone = λ none. absurd (some none);
      whole = inr made;
      more = λ _. made;
    }
