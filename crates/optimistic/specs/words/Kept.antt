-- The rule of the versioned nodes. A node is a plot: a range of words, of which the first is its version, and a form, which tells how many
-- words it has. Word 0 of all is the end: the plots lie below it, and the words from there on are 0.
use Rattle.std.specs.Prelude.{◌≡◌, ℕ, ◌+◌, ◌/◌, ◌%◌, ◌<◌, ◌≤◌, ◌==◌, Bool, true, false, List, [], ◌∷◌, ◌++◌, length, slice_index, slice_set, replicate, if◌then◌else◌, Option, None}
use mathlib.Core.Option.{some}
use lib.ListN.{get_elem?}
use Rattle.atomic_table.specs.Table.{State}
use Rattle.optimistic.specs.Layout.{width, is_link}
use Rattle.optimistic.specs.declared.words.rule.Block.{Block}
use Rattle.optimistic.specs.declared.words.rule.Entry.{Entry}
use Rattle.optimistic.specs.declared.words.rule.Moment.{Moment}
use Rattle.optimistic.specs.declared.words.rule.Note.{Note}
use Rattle.optimistic.specs.declared.words.rule.Plot.{Plot}
use Rattle.optimistic.specs.declared.words.rule.Tenure.{Tenure}
use Rattle.optimistic.specs.declared.words.rule.View.{View}

-- word j of node n; word 0 is its version
abbrev pub word_at : List ℕ → ℕ → ℕ → ℕ
word_at words n j = slice_index words (n + j)

abbrev pub version_at : List ℕ → ℕ → ℕ
version_at words n = slice_index words n

-- the form of node n, or 0 where there is no such node, and how many words it has
abbrev pub form_at : List Plot → ℕ → ℕ
form_at [] n = 0
form_at (p ∷ ps) n = if p.node == n then p.form else form_at ps n

abbrev pub size : List Plot → ℕ → ℕ
size plots n = width (form_at plots n)

-- word j of node n as it was last settled; 0 where it never was
abbrev pub calm_at : List Block → ℕ → ℕ → ℕ
calm_at [] n j = 0
calm_at (b ∷ bs) n j = if b.node == n then slice_index b.words (n + j) else calm_at bs n j

-- whether a thread has node n
abbrev pub has : List Tenure → ℕ → Bool
has [] n = false
has (t ∷ ts) n = if t.node == n then t.held else has ts n

-- the calls of one thread
abbrev pub calls_by : ℕ → List Entry → List Entry
calls_by by [] = []
calls_by by (e ∷ es) = if e.by == by then e ∷ calls_by by es else calls_by by es

-- what a key has after these calls, where it had x before
abbrev pub value_after : Option ℕ → ℕ → List Entry → Option ℕ
value_after x key [] = x
value_after x key (e ∷ es) = value_after (if e.key == key then e.value else x) key es

abbrev pub value_of : ℕ → List Entry → Option ℕ
value_of key log = value_after None key log

abbrev pub StartsWith : List Entry → List Entry → Type 0
StartsWith log seen = (rest : List Entry) × (log ≡ seen ++ rest)

-- a node is settled at b as at a
abbrev pub Calm : ℕ → Moment → Moment → Type 0
Calm n a b = (j : ℕ) → calm_at b.calm n j ≡ calm_at a.calm n j

-- What was seen at the moment a is a beginning of what there is at b: of the log, of the nodes, of the words in use, and of each node's
-- versions. A node that nobody had, and that has the same version at both, was not settled anew in between
pub record Since (a b : Moment) : Type 0 where
  pub log : StartsWith b.log a.log
  pub wide : length b.words ≡ length a.words
  pub plots : (n : ℕ) → 0 < size a.plots n → form_at b.plots n ≡ form_at a.plots n
  pub end : slice_index a.words 0 ≤ slice_index b.words 0
  pub grows : (n : ℕ) → 0 < size a.plots n → version_at a.words n ≤ version_at b.words n
  pub still : (n : ℕ) → 0 < size a.plots n → version_at a.words n % 2 ≡ 0 → version_at a.words n ≡ version_at b.words n → Calm n a b

-- the log of the moment a is a beginning of that of b, and each node of a is one of b
pub record Follows (a b : Moment) : Type 0 where
  pub log : StartsWith b.log a.log
  pub plots : (n : ℕ) → 0 < size a.plots n → form_at b.plots n ≡ form_at a.plots n

-- a node's words are at b as at a
abbrev pub SameWords : ℕ → Moment → Moment → Type 0
SameWords n a b = (j : ℕ) → j < size a.plots n → word_at b.words n j ≡ word_at a.words n j

-- the nodes that a thread has are at b as at a
abbrev pub Held : List Tenure → Moment → Moment → Type 0
Held mine a b = (n : ℕ) → has mine n ≡ true → SameWords n a b × Calm n a b

-- a word that has the tag of a form names a node of that form
abbrev pub Names : List Plot → ℕ → Type 0
Names plots x = 0 < x % 16 → x % 16 < 9 → form_at plots (x / 256) ≡ x % 16

-- Nodes lie apart, below the end, and the end is no node's; what is behind it is 0. What is no node was never settled
pub record Laid (m : Moment) : Type 0 where
  pub apart : (n p i j : ℕ) → i < size m.plots n → j < size m.plots p → n + i ≡ p + j → n ≡ p
  pub above : (n : ℕ) → 0 < size m.plots n → 0 < n
  pub below : (n j : ℕ) → j < size m.plots n → n + j < slice_index m.words 0
  pub bound : slice_index m.words 0 ≤ length m.words
  pub clear : (i : ℕ) → slice_index m.words 0 ≤ i → slice_index m.words i ≡ 0
  pub new : (n j : ℕ) → size m.plots n ≡ 0 → calm_at m.calm n j ≡ 0

-- A node that nobody has is as it was settled, and the nodes as they were settled are what the log makes of them. A child word names a
-- node of the form that it says, whoever has the node that it stands in
pub record Sound (good : List Block → List Entry → Type 0) (m : Moment) : Type 0 where
  pub rests : (n j : ℕ) → 0 < j → j < size m.plots n → version_at m.words n % 2 ≡ 0 → calm_at m.calm n j ≡ word_at m.words n j
  pub means : good m.calm m.log
  pub laid : Laid m
  pub root : form_at m.plots 16 ≡ 4
  pub links : (n j : ℕ) → j < size m.plots n → is_link (form_at m.plots n) j ≡ true → Names m.plots (word_at m.words n j)

-- What the view of the thread of this number says of the moment m
pub record Fits (good : List Block → List Entry → Type 0) (by : ℕ) (v : View) (m : Moment) : Type 0 where
  pub sound : Sound good v.seen
  pub since : Since v.seen m
  pub held : Held v.mine v.seen m
  pub odd : (n : ℕ) → has v.mine n ≡ true → (0 < size v.seen.plots n) × (version_at v.seen.words n % 2 ≡ 1)
  pub calls : calls_by by m.log ≡ v.made
  pub named : v.by ≡ by

abbrev pub moment : List ℕ → List Plot → List Block → List Entry → Moment
moment words plots calm log = record { words = words; plots = plots; calm = calm; log = log }

abbrev pub nothing : Moment
nothing = moment [] [] [] []

abbrev pub view_of : Moment → List Tenure → List Entry → ℕ → View
view_of m mine made by = record { seen = m; mine = mine; made = made; by = by; told = nothing }

abbrev pub plot : ℕ → ℕ → Plot
plot n form = record { node = n; form = form }

abbrev pub block : ℕ → List ℕ → Block
block n words = record { node = n; words = words }

-- At first the words are 0, but that the end lies behind the root, which is node 16, of 256 places, and says that it covers each key
abbrev pub first_words : ℕ → List ℕ
first_words count = slice_set (slice_set (replicate count 0) 0 536) 17 32

abbrev pub first_calm : ℕ → List Block
first_calm count = block 16 (first_words count) ∷ []

abbrev pub first_moment : ℕ → Moment
first_moment count = moment (first_words count) (plot 16 4 ∷ []) (first_calm count) []

-- the view of the seat that a table is made with
abbrev pub newcomer : ℕ → View
newcomer count = view_of (first_moment count) [] [] 0

abbrev pub At : List View → ℕ → View → Type 0
At views i v = get_elem? views i ≡ some v

-- The rule
pub record Kept (good : List Block → List Entry → Type 0) (count : ℕ) (s : State Note View) : Type 0 where
  pub plots : List Plot
  pub calm : List Block
  pub log : List Entry
  pub wide : length s.words ≡ count
  pub sound : Sound good (moment s.words plots calm log)
  pub some : 0 < length s.views
  pub each : (i : ℕ) (v : View) → At s.views i v → 0 < v.by → Fits good i v (moment s.words plots calm log)
  pub idle : (i : ℕ) (v : View) → At s.views i v → v.by ≡ 0 → v.mine ≡ []
  pub told : (i : ℕ) (v : View) → At s.views i v → Follows v.told (moment s.words plots calm log)
  pub alone : (i k : ℕ) (v u : View) (n : ℕ) → At s.views i v → At s.views k u → has v.mine n ≡ true → has u.mine n ≡ true → i ≡ k
  pub strangers : (by : ℕ) → length s.views ≤ by → calls_by by log ≡ []
