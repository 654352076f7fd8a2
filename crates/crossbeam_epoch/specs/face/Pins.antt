-- The epoch and the participants' words, on which every thread steps, and what a seat knows of them.
use Rattle.std.specs.Prelude.{ℕ, ◌≡◌, ◌≢◌, ◌+◌, ◌*◌, ◌^◌, ◌<◌, ◌≤◌, ◌⊎◌, List, [], length, slice_index, nat_le, if◌then◌else◌, Option, None, Some, IfSome}
use mathlib.Core.Option.{some}
use lib.ListN.{get_elem?}
use Rattle.atomic_table.specs.Table.{State, Me, Step}
use Rattle.crossbeam_epoch.specs.declared.face.seats.View.{View}

-- the index of a place's word
abbrev pub word_of : ℕ → ℕ
word_of p = 16 * p + 16

-- the word of the epoch
abbrev pub epoch_of : List ℕ → ℕ
epoch_of words = slice_index words 0

-- the number in the word of a participant that is unpinned, or pinned at an epoch
abbrev pub number_of : Option ℕ → ℕ
number_of None = 1
number_of (Some e) = e + 2

-- what a seat with no word of its own knows, which has seen nothing
abbrev pub newcomer : View
newcomer = record { place = None; at = None; pin = None; seen = 0; passed = 0; asked = 0; taken = 0 }

-- What holds of a seat: the epoch that it saw last is at most the epoch, and so is the one that it published. The word of its
-- place has the number that it wrote there. Where its pin is confirmed by q, it published q or an earlier epoch, and the epoch is q or q + 1
pub record ViewHolds (places : ℕ) (words : List ℕ) (v : View) : Type 0 where
  pub seen : v.seen ≤ epoch_of words
  pub own : (p : ℕ) → v.place ≡ Some p → (p < places) × (slice_index words (word_of p) ≡ number_of v.at)
  pub published : (e : ℕ) → v.at ≡ Some e → e ≤ epoch_of words
  pub confirmed : (q : ℕ) → v.pin ≡ Some q → (e : ℕ) × (v.at ≡ Some e) × (e ≤ q) × (q ≤ epoch_of words) × (epoch_of words ≤ q + 1)
  pub placed : (q : ℕ) → v.pin ≡ Some q → (p : ℕ) × (v.place ≡ Some p)

-- the seat j has the view v
abbrev pub At : List View → ℕ → View → Type 0
At views j v = get_elem? views j ≡ some v

-- The rule. A word that isn't free is one seat's own, and a free one is nobody's. Who saw the epoch E has since then passed no
-- participant that is pinned by an epoch before E
pub record IsKept {S : Type 0} (places last : ℕ) (s : State S View) : Type 0 where
  pub wide : length s.words ≡ word_of places
  pub bounded : (epoch_of s.words ≤ last) × (last ≤ 2 ^ 62)
  pub seats : (j : ℕ) (v : View) → At s.views j v → ViewHolds places s.words v
  pub owned : (p : ℕ) → p < places → 0 < slice_index s.words (word_of p) → (j : ℕ) × (v : View) × At s.views j v × (v.place ≡ Some p)
  pub alone : (j k : ℕ) (v u : View) (p : ℕ) → At s.views j v → At s.views k u → v.place ≡ Some p → u.place ≡ Some p → j ≡ k
  pub passed : (j k : ℕ) (v u : View) (p q : ℕ) → At s.views j v → At s.views k u → u.place ≡ Some p → u.pin ≡ Some q → p < v.passed → v.seen ≤ q

-- what a seat knows, and what it holds
abbrev pub Sitter : Type 0 → Type 0
Sitter S = Me S View

-- the seat saw this epoch, and has passed nobody since then
abbrev pub with_seen : View → ℕ → View
with_seen v e = record v { seen = e; passed = 0 }

-- a note of a seat: it saw the same epoch
abbrev pub noted : View → View
noted v = with_seen newcomer v.seen

-- a seat that took a note in saw the later epoch of the two
abbrev pub with_note : View → View → View
with_note v note = if nat_le note.seen v.seen then v else with_seen v note.seen

-- An epoch that a seat reads isn't before one that it saw. Under a pin that is confirmed by q it is q or q + 1
abbrev pub IsRead : View → ℕ → Type 0
IsRead v e = (v.seen ≤ e) × (e ≤ 2 ^ 62) × ((q : ℕ) → v.pin ≡ Some q → (q ≤ e) × (e ≤ q + 1))

-- a seal, if there is one, is at least two behind the epoch that was seen
abbrev pub IsDue : ℕ → Option ℕ → Type 0
IsDue seen seal = IfSome seal (λ s. s + 2 ≤ seen)

-- A place is passed where it is nobody's, or its participant is unpinned or pinned at the epoch that was seen
abbrev pub Passes : ℕ → ℕ → Type 0
Passes seen found = (found < 2) ⊎ (found ≡ seen + 2)

-- What the steps tell. Each is one operation on one word, and changes what the seat that steps knows.
module _ {S : Type 0} where
  -- a new seat looked at the epoch
  abbrev pub seat_arrived : Step S → Sitter S → ℕ → Sitter S → Type 0
  seat_arrived st m found m' = (m' ≡ (with_seen newcomer found, [])) × IsRead newcomer found

  -- the place's word is the seat's own where it was found free, and else one more is taken
  abbrev pub seat_claimed : Step S → Sitter S → ℕ → Sitter S → Type 0
  seat_claimed st m found m' =
      (found ≡ 0 → (p : ℕ) → st.word ≡ word_of p → m' ≡ (record m.0 { place = Some p; asked = 0; taken = 0 }, m.1))
      × (found ≢ 0 → m' ≡ (record m.0 { asked = m.0.asked + 1; taken = m.0.taken + 1 }, m.1))

  -- one place more was looked at, which is free, or taken
  abbrev pub seat_counted : Step S → Sitter S → ℕ → Sitter S → Type 0
  seat_counted st m found m' =
      (found ≡ 0 → m' ≡ (record m.0 { asked = m.0.asked + 1 }, m.1)) × (found ≢ 0 → m' ≡ (record m.0 { asked = m.0.asked + 1; taken = m.0.taken + 1 }, m.1))

  -- the epoch was looked at
  abbrev pub seat_looked : Step S → Sitter S → ℕ → Sitter S → Type 0
  seat_looked st m found m' = (m' ≡ (with_seen m.0 found, m.1)) × IsRead m.0 found

  -- the word publishes that its participant is pinned at this epoch, which isn't confirmed yet
  abbrev pub seat_published : Step S → Sitter S → ℕ → Sitter S → Type 0
  seat_published st m stored m' = (e : ℕ) → stored ≡ e + 2 → m' ≡ (record m.0 { at = Some e; pin = None; asked = 0; taken = 0 }, m.1)

  -- the epoch that was read confirms the pin
  abbrev pub seat_confirmed : Step S → Sitter S → ℕ → Sitter S → Type 0
  seat_confirmed st m found m' = (m' ≡ (record m.0 { pin = Some found; seen = found; passed = 0 }, m.1)) × (m.0.seen ≤ found) × (found ≤ 2 ^ 62)

  -- the participant is unpinned
  abbrev pub seat_left : Step S → Sitter S → ℕ → Sitter S → Type 0
  seat_left st m stored m' = m' ≡ (record m.0 { at = None; pin = None; asked = 0; taken = 0 }, m.1)

  -- the place is nobody's
  abbrev pub seat_released : Step S → Sitter S → ℕ → Sitter S → Type 0
  seat_released st m stored m' = m' ≡ (record m.0 { place = None; at = None; pin = None }, m.1)

  -- one more place was passed, or not
  abbrev pub seat_inspected : Step S → Sitter S → ℕ → Sitter S → Type 0
  seat_inspected st m found m' = (Passes m.0.seen found → m' ≡ (record m.0 { passed = m.0.passed + 1 }, m.1)) × (¬ Passes m.0.seen found → m' ≡ m)

  -- the epoch that was seen went on by one, where it was still the epoch
  abbrev pub seat_advanced : Step S → Sitter S → ℕ → Sitter S → Type 0
  seat_advanced st m found m' =
      (found ≡ m.0.seen → (m' ≡ (with_seen m.0 (m.0.seen + 1), m.1)) × IsRead m.0 (m.0.seen + 1))
      × (found ≢ m.0.seen → m' ≡ m)

-- While a pin is confirmed by q the epoch is q or q + 1, no seat has seen a later one, and a seal of q or later isn't two behind
-- what any seat has seen
abbrev pub PinsHoldEpoch : Type 0
PinsHoldEpoch = (places last : ℕ) (s : State (Unit {0}) View) (j k q seal : ℕ) (v u : View) → IsKept places last s → At s.views j v → At s.views k u → v.pin ≡ Some q
    → (q ≤ epoch_of s.words) × (epoch_of s.words ≤ q + 1) × (u.seen ≤ q + 1) × (q ≤ seal → ¬ (seal + 2 ≤ u.seen))
