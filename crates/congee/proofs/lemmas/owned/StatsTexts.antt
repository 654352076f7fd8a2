-- Sums over levels, and the text of statistics as it is written part by part.
use Rattle.std.proofs.Common.{◌≡◌, ℕ, zero, suc, ◌+◌, ◌-◌, ◌*◌, ◌/◌, ◌%◌, ◌^◌, ◌<◌, ◌≤◌, ◌↔◌, false, cond, nat_lt, List, [], ◌∷◌, ◌++◌, length, get_or, take, replicate, codes, inl, inr, refl, ap, ◌∙◌, sym, arith}
use Rattle.std.proofs.lemmas.Bool.{cases_lt, cases_eq, ne_eqb, lt-ltb, le-ltb}
use Rattle.std.proofs.lemmas.List.{append_assoc, append-nil, length-append, take_more, take_all, flat_map_more}
use Rattle.std.proofs.lemmas.List.FromFn.{length-enumerate_from, get_or-enumerate_from}
use Rattle.std.proofs.lemmas.Str.{encode_ascii}
use Rattle.std.proofs.Math.Utf8.{encode}
use Rattle.std.proofs.lemmas.Fmt.{decimal_digit, decimal_step}
use Rattle.std.proofs.Math.Nat.{div-lt_iff_lt-mul}
use Rattle.std.specs.Fmt.{decimal, padded_integral, styled_decimal, char_count, format_spec}
use Rattle.std.specs.List.{repeat, flat_map, enumerate_from}
use Rattle.congee.specs.forms.Forms.{capacity_of}
use Rattle.congee.specs.declared.forms.base_node.NodeType.{NodeType}
use Rattle.congee.specs.declared.owned.stats.NodeInfo.{NodeInfo}
use Rattle.congee.specs.declared.owned.stats.LevelStats.{LevelStats}
use Rattle.congee.specs.owned.StatsText.{right_in, hundredths, quotient_text, is_below_half, form_text, filled_in, nodes_in, entries_in, bytes_in, load_text, count_line, load_line, memory_line, pairs_line, whole_text, level_line, newline}

spaces : (n : ℕ) → repeat n (encode 32) ≡ replicate n 32
spaces zero = refl
spaces (suc n) = λ i. encode_ascii 32 (omega arith) i ++ spaces n i

-- a number that stands right in so many places
number_right : (places : ℕ) (numeral : List ℕ) → padded_integral (format_spec 32 0 0 places (2 ^ 64 - 1)) false [] numeral ≡ right_in places numeral
unfolding padded_integral char_count right_in
number_right places numeral =
    let short = places - length numeral - 0 - 0 in
    let same : short ≡ places - length numeral = omega arith in
    let none : short - short ≡ 0 = omega arith in
    rw (none, same, append-nil numeral, spaces (places - length numeral)) (simp append-nil)

two_digits : (n : ℕ) → n < 100 → padded_integral (format_spec 32 0 4 2 (2 ^ 64 - 1)) false [] (decimal n) ≡ decimal (n / 10) ++ decimal (n % 10)
unfolding padded_integral char_count
two_digits n small = elim (cases_lt n 10) [
  | inl one ↦
      let high : n / 10 ≡ 0 = omega arith in
      let low : n % 10 ≡ n = omega arith in
      rw (high, low, decimal_digit 0 (omega arith), decimal_digit n one) refl
  | inr two ↦ rw (decimal_step n two (omega arith), decimal_digit (n / 10) (omega arith), decimal_digit (n % 10) (omega arith)) refl
]

-- the two digits behind the point
digits_behind : (h : ℕ) → padded_integral (format_spec 32 0 4 2 (2 ^ 64 - 1)) false [] (decimal (h % 100)) ≡ decimal (h / 10 % 10) ++ decimal (h % 10)
digits_behind h =
    let high : h % 100 / 10 ≡ h / 10 % 10 = omega arith in
    let low : h % 100 % 10 ≡ h % 10 = omega arith in
    two_digits (h % 100) (omega arith) ∙ ap (λ n. decimal n ++ decimal (h % 100 % 10)) high ∙ ap (λ n. decimal (h / 10 % 10) ++ decimal n) low

length_behind : (h : ℕ) → length (decimal (h / 10 % 10) ++ decimal (h % 10)) ≡ 2
length_behind h = rw (decimal_digit (h / 10 % 10) (omega arith), decimal_digit (h % 10) (omega arith)) refl

-- a quotient as it is written
abbrev written : ℕ → List ℕ
written h = decimal (h / 100) ++ 46 ∷ (decimal (h / 10 % 10) ++ decimal (h % 10))

quotient_written : (n d h : ℕ) → h ≡ hundredths n d → written h ≡ quotient_text n d
unfolding quotient_text
quotient_written n d h e = rw (← e) (sym (append_assoc (decimal (h / 100) ++ 46 ∷ []) (decimal (h / 10 % 10)) (decimal (h % 10))
    ∙ append_assoc (decimal (h / 100)) (46 ∷ []) (decimal (h / 10 % 10) ++ decimal (h % 10))))

-- the same in eight places
written_right : (h : ℕ) → right_in 5 (decimal (h / 100)) ++ 46 ∷ (decimal (h / 10 % 10) ++ decimal (h % 10)) ≡ right_in 8 (written h)
unfolding right_in
written_right h =
    let behind = decimal (h / 10 % 10) ++ decimal (h % 10) in
    let long : length (written h) ≡ length (decimal (h / 100)) + 3 =
    length-append (decimal (h / 100)) (46 ∷ behind) ∙ ap (λ l. length (decimal (h / 100)) + suc l) (length_behind h) in
    let room : 5 - length (decimal (h / 100)) ≡ 8 - length (written h) = omega (arith, long) in
    append_assoc (replicate (5 - length (decimal (h / 100))) 32) (decimal (h / 100)) (46 ∷ behind) ∙ ap (λ k. replicate k 32 ++ written h) room

-- the nodes of a form and their load as they are written
pub form_written : (form : NodeType) (info : NodeInfo) (h : ℕ) → h ≡ hundredths info.value_count (info.node_count * capacity_of form)
    → styled_decimal (format_spec 32 0 0 8 (2 ^ 64 - 1)) info.node_count ++ 44 ∷ 32 ∷ (styled_decimal (format_spec 32 0 0 5 (2 ^ 64 - 1)) (h / 100)
    ++ 46 ∷ styled_decimal (format_spec 32 0 4 2 (2 ^ 64 - 1)) (h % 100)) ≡ form_text form info
unfolding form_text
form_written form info h e =
    rw (number_right 8 (decimal info.node_count), number_right 5 (decimal (h / 100)), digits_behind h, written_right h, quotient_written _ _ h e)
    (sym (append_assoc (right_in 8 (decimal info.node_count)) (44 ∷ 32 ∷ []) (right_in 8 (quotient_text info.value_count (info.node_count * capacity_of form)))))

at_least : (n d : ℕ) → (n * 100 / d < 50) ↔ (n * 100 < 50 * d) → 50 ≤ n * 100 / d → d ≤ 2 * n
at_least n d at above = elim (cases_lt (2 * n) d) [
  | inl less ↦ let below = at.1 (omega (arith, less)) in absurd (omega (arith, below, above))
  | inr more ↦ more
]

-- a quotient is below one half just where its hundredths are below fifty
half : (n d : ℕ) → is_below_half n d ≡ nat_lt (hundredths n d) 50
half n d = elim (cases_eq d 0) [
  | inl none ↦ rw none refl
  | inr some ↦
      let at : (n * 100 / d < 50) ↔ (n * 100 < 50 * d) = div-lt_iff_lt-mul (omega (arith, some)) in
      rw (ne_eqb d 0 some)
      elim (cases_lt (n * 100 / d) 50) [
        | inl below ↦ let less = at.0 below in lt-ltb (2 * n) d (omega (arith, less)) ∙ sym (lt-ltb (n * 100 / d) 50 below)
        | inr above ↦ le-ltb (2 * n) d (at_least n d at above) ∙ sym (le-ltb (n * 100 / d) 50 above)
      ]
]

-- a load with its remark as it is written
pub load_written : (n d h : ℕ) (remark : List ℕ) → h ≡ hundredths n d → remark ≡ cond (nat_lt h 50) (codes " (too low)") []
    → decimal (h / 100) ++ 46 ∷ (styled_decimal (format_spec 32 0 4 2 (2 ^ 64 - 1)) (h % 100) ++ remark) ≡ load_text n d
unfolding load_text
load_written n d h remark e r =
    rw (digits_behind h, half n d, ← e, r)
    (sym (append_assoc (decimal (h / 100)) (46 ∷ (decimal (h / 10 % 10) ++ decimal (h % 10))) (cond (nat_lt h 50) (codes " (too low)") []))
    ∙ ap (λ t. t ++ cond (nat_lt h 50) (codes " (too low)") []) (quotient_written n d h e))

-- one more line
pub lines_more : (levels : List LevelStats) (i : ℕ) (d : LevelStats) → i < length levels
    → flat_map level_line (take i (enumerate_from 0 levels)) ++ level_line (i, get_or levels i d) ≡ flat_map level_line (take (i + 1) (enumerate_from 0 levels))
lines_more levels i d l =
    let long : i < length (enumerate_from 0 levels) = omega (arith, length-enumerate_from 0 levels, l) in
    let here : get_or (enumerate_from 0 levels) i (i, d) ≡ (i, get_or levels i d) =
    get_or-enumerate_from 0 levels i (i, d) l ∙ ap (λ j. (j, get_or levels i d)) (omega arith) in
    rw (take_more (enumerate_from 0 levels) i (i, d) long, here)
    (flat_map_more level_line [] (take i (enumerate_from 0 levels)) (i, get_or levels i d))

-- all lines
pub lines_all : (levels : List LevelStats) (i : ℕ) → length levels ≤ i
    → flat_map level_line (take i (enumerate_from 0 levels)) ≡ flat_map level_line (enumerate_from 0 levels)
lines_all levels i l = ap (flat_map level_line) (take_all i (enumerate_from 0 levels) (omega (arith, length-enumerate_from 0 levels, l)))

-- the lines for the whole as they are written
module _ (all : LevelStats) where
  -- the line of counts, as it is written part by part
  pub count_written : codes "Overall node count: " ++ (decimal (nodes_in all) ++ (codes ", entry count: " ++ (decimal (entries_in all) ++ newline))) ≡ count_line all
  unfolding count_line
  count_written = simp append_assoc

  -- the line of the load, as it is written part by part
  pub load_line_written : codes "Load factor: " ++ (load_text (filled_in all) (768 * nodes_in all) ++ newline) ≡ load_line all
  unfolding load_line
  load_line_written = simp append_assoc

  -- the line of the memory, as it is written part by part
  pub memory_written : codes "Active memory usage: " ++ (decimal (bytes_in all / 1048576) ++ (codes " Mb" ++ newline)) ≡ memory_line all
  unfolding memory_line
  memory_written = simp append_assoc

  -- the lines for the whole, one after the other, are the text for the whole
  pub whole_written : (pairs : ℕ) → count_line all ++ (load_line all ++ (memory_line all ++ (codes "KV count: " ++ (decimal pairs ++ newline)))) ≡ whole_text all pairs
  unfolding whole_text pairs_line
  whole_written pairs = simp append_assoc
