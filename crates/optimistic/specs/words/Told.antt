-- What each step tells the thread that makes it.
use Rattle.std.specs.Prelude.{◌≡◌, ◌≢◌, ℕ, ◌+◌, ◌%◌, ◌/◌, ◌<◌, ◌≤◌, Bool, true, false, List, [], ◌∷◌, ◌++◌, length, slice_index, Option, None, Some}
use mathlib.Core.Option.{some}
use Rattle.atomic_table.specs.Table.{Me, Step}
use Rattle.atomic_table.specs.Seated.{TableId}
use Rattle.atomic_table.specs.declared.shared.Seat.{Seat}
use Rattle.optimistic.specs.Layout.{width}
use Rattle.optimistic.specs.declared.words.rule.Block.{Block}
use Rattle.optimistic.specs.declared.words.rule.Entry.{Entry}
use Rattle.optimistic.specs.declared.words.rule.Moment.{Moment}
use Rattle.optimistic.specs.declared.words.rule.Note.{Note}
use Rattle.optimistic.specs.declared.words.rule.Tenure.{Tenure}
use Rattle.optimistic.specs.declared.words.rule.View.{View}
use Rattle.optimistic.specs.words.Kept.{word_at, version_at, form_at, size, calm_at, has, calls_by, Calm, Since, SameWords, Follows, Held, Sound, block, nothing}

abbrev pub Good : Type 1
Good = List Block → List Entry → Type 0

abbrev Sitter : Type 0
Sitter = Me Note View

-- what a hand knows
abbrev pub view : Seat Note View → View
view h = h.me.0

-- there is a node n of this form, within the words
pub record HasForm (n form : ℕ) (v : View) : Type 0 where
  pub is : form_at v.seen.plots n ≡ form
  pub ends : n + width form ≤ length v.seen.words
  pub above : 0 < n

-- a hand is a thread's at these words, and knows their root
abbrev pub IsOf : TableId → Seat Note View → Type 0
IsOf id h = (h.table_id ≡ id) × (h.me.1 ≡ []) × (length h.me.0.seen.words ≡ id.words) × HasForm 16 4 h.me.0 × (0 < h.me.0.by)

-- a hand that makes no step, and was told this moment
abbrev pub noted : Moment → View
noted m = record { seen = nothing; mine = []; made = []; by = 0; told = m }

abbrev pub IsNote : TableId → Moment → Seat Note View → Type 0
IsNote id m h = (h.table_id ≡ id) × (h.me ≡ (noted m, []))

-- a hand that was told what another one was
abbrev pub with_told : View → View → View
with_told v w = record v { told = w.told }

-- a word that has the tag of a form names a node of that form, which the thread knows
abbrev pub Tells : ℕ → View → Type 0
Tells x v = 0 < x % 16 → x % 16 < 9 → HasForm (x / 256) (x % 16) v

abbrev pub tenure : ℕ → Bool → Tenure
tenure n b = record { node = n; held = b }

-- the nodes as they are settled where a note lets node n go: it, and up to three more that the thread has
abbrev pub also : Option ℕ → List ℕ → List Block → List Block
also None words bs = bs
also (Some n) words bs = block n words ∷ bs

abbrev pub settled : ℕ → Note → List ℕ → List Block → List Block
settled n note words bs = block n words ∷ also note.first words (also note.second words (also note.third words bs))

-- a thread has what it settles beside the node that it lets go
abbrev pub HasAlso : List Tenure → Option ℕ → Type 0
HasAlso mine None = Unit {0}
HasAlso mine (Some n) = has mine n ≡ true

-- the calls that a note decides, by this thread
abbrev pub signed : ℕ → Entry → Entry
signed by e = record e { by = by }

abbrev pub decided : ℕ → Option Entry → List Entry
decided by None = []
decided by (Some e) = signed by e ∷ []

-- the thread is the same, and the log has its calls and no others of it
abbrev pub IsOwn : View → View → Type 0
IsOwn v w = (w.by ≡ v.by) × (calls_by w.by w.seen.log ≡ w.made)

-- The thread saw a later moment, and nothing else changed
pub record Looks (good : Good) (v w : View) : Type 0 where
  pub since : Since v.seen w.seen
  pub held : Held v.mine v.seen w.seen
  pub sound : Sound good w.seen
  pub mine : w.mine ≡ v.mine
  pub made : w.made ≡ v.made
  pub own : IsOwn v w

-- The thread has node n from now on, which was let go at the version `ver`
pub record Locks (good : Good) (n ver : ℕ) (v w : View) : Type 0 where
  pub since : Since v.seen w.seen
  pub held : Held v.mine v.seen w.seen
  pub sound : Sound good w.seen
  pub mine : w.mine ≡ tenure n true ∷ v.mine
  pub made : w.made ≡ v.made
  pub own : IsOwn v w
  pub version : version_at w.seen.words n ≡ ver + 1
  pub before : version_at v.seen.words n ≤ ver
  pub taken : version_at v.seen.words n ≡ ver → Calm n v.seen w.seen
  pub rests : (j : ℕ) → 0 < j → j < size w.seen.plots n → word_at w.seen.words n j ≡ calm_at w.seen.calm n j

-- Word i of all words is x from now on, and nothing else changed of what the thread has
pub record Stores (good : Good) (i x : ℕ) (v w : View) : Type 0 where
  pub since : Since v.seen w.seen
  pub sound : Sound good w.seen
  pub mine : w.mine ≡ v.mine
  pub made : w.made ≡ v.made
  pub own : IsOwn v w
  pub here : slice_index w.seen.words i ≡ x
  pub others : (n j : ℕ) → has v.mine n ≡ true → j < size v.seen.plots n → n + j ≢ i → word_at w.seen.words n j ≡ word_at v.seen.words n j
  pub calm : (n : ℕ) → has v.mine n ≡ true → Calm n v.seen w.seen

-- Node n is let go, the note's nodes are settled, and so its call is decided, right after the moment b
pub record Unlocks (good : Good) (n : ℕ) (note : Note) (v w : View) : Type 0 where
  pub b : Moment
  pub since : Since v.seen b
  pub held : Held v.mine v.seen b
  pub after : Since v.seen w.seen
  pub was : Sound good b
  pub sound : Sound good w.seen
  pub mine : w.mine ≡ tenure n false ∷ v.mine
  pub made : w.made ≡ v.made ++ decided v.by note.entry
  pub own : IsOwn v w
  pub log : w.seen.log ≡ b.log ++ decided v.by note.entry
  pub calm : w.seen.calm ≡ settled n note b.words b.calm
  pub others : (m : ℕ) → has w.mine m ≡ true → SameWords m v.seen w.seen

-- Node n is let go as it was settled, and nothing else changed
pub record Releases (good : Good) (n : ℕ) (v w : View) : Type 0 where
  pub since : Since v.seen w.seen
  pub sound : Sound good w.seen
  pub mine : w.mine ≡ tenure n false ∷ v.mine
  pub made : w.made ≡ v.made
  pub own : IsOwn v w
  pub others : (m : ℕ) → has w.mine m ≡ true → SameWords m v.seen w.seen × Calm m v.seen w.seen

-- What the author of a structure shows where a node is let go: whatever the moment is, the structure means what the log
-- makes of it
abbrev pub MayUnlock : Good → ℕ → Note → View → Type 0
MayUnlock good n note v =
    (b : Moment) → Since v.seen b → Held v.mine v.seen b → Sound good b → good (settled n note b.words b.calm) (b.log ++ decided v.by note.entry)

-- the thread has the node n, at this version, and its words are as they were settled
abbrev pub IsDrafted : ℕ → ℕ → View → Type 0
IsDrafted n ver v = (has v.mine n ≡ true) × (version_at v.seen.words n ≡ ver) × ((j : ℕ) → 0 < j → j < size v.seen.plots n → word_at v.seen.words n j ≡ calm_at v.seen.calm n j)

abbrev pub IsFresh : Good → View → Type 0
IsFresh good w = Sound good w.seen × (w.mine ≡ []) × (w.made ≡ []) × (calls_by w.by w.seen.log ≡ [])

abbrev pub arrived : Good → Step Note → Sitter → ℕ → Sitter → Type 0
arrived good st m found m' = (m'.1 ≡ m.1) × (length m'.0.seen.words ≡ length m.0.seen.words) × IsFresh good m'.0 × (0 < m'.0.by)

abbrev pub looked : Good → Step Note → Sitter → ℕ → Sitter → Type 0
looked good st m found m' = (m'.1 ≡ m.1) × Looks good m.0 m'.0 × (found ≡ slice_index m'.0.seen.words st.word)

abbrev pub locked : Good → Step Note → Sitter → ℕ → Sitter → Type 0
locked good st m found m' = (m'.1 ≡ m.1) × Since m.0.seen m'.0.seen × (found ≡ st.first → Locks good st.word st.first m.0 m'.0) × (found ≢ st.first → Looks good m.0 m'.0) × (m'.0.by ≡ m.0.by)

abbrev pub stored : Good → Step Note → Sitter → ℕ → Sitter → Type 0
stored good st m found m' = (m'.1 ≡ m.1) × Stores good st.word found m.0 m'.0

abbrev pub unlocked : Good → Step Note → Sitter → ℕ → Sitter → Type 0
unlocked good st m found m' = (m'.1 ≡ m.1) × ((note : Note) → st.said ≡ some note → Unlocks good st.word note m.0 m'.0)

abbrev pub released : Good → Step Note → Sitter → ℕ → Sitter → Type 0
released good st m found m' = (m'.1 ≡ m.1) × Releases good st.word m.0 m'.0

-- the node that was carved lies where the end was
abbrev pub carved : Good → Step Note → Sitter → ℕ → Sitter → Type 0
carved good st m found m' =
    (m'.1 ≡ m.1) × Looks good m.0 m'.0 × ((note : Note) → st.said ≡ some note → found ≡ st.first → HasForm st.first note.form m'.0)

abbrev pub heeded : Good → Step Note → Sitter → ℕ → Sitter → Type 0
heeded good st m found m' = (m'.1 ≡ m.1) × Looks good m.0 m'.0 × Follows m.0.told m'.0.seen
