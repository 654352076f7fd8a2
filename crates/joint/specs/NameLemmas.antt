-- A name is told by its number.
use Rattle.std.proofs.Common.{◌≡◌, ℕ, zero, suc, ◌+◌, refl, sym, ◌∙◌, ap, arith}
use Rattle.crossbeam_epoch.specs.declared.names.Name.{Name}
use Rattle.joint.specs.declared.id.Id.{Id}
use Rattle.joint.specs.Names.{tri, number, after_in, after, named}

along : (s : ℕ) → named (tri s) ≡ record { cell = s; turn = 0 } → (t c : ℕ) → c + t ≡ s → named (tri s + t) ≡ record { cell = c; turn = t }
along s h zero c e =
    let q : c ≡ s = omega (arith, e) in
    let z : tri s + 0 ≡ tri s = omega arith in
    ap named z ∙ h ∙ ap (λ x. record { cell = x; turn = 0 }) (sym q)
along s h (suc t) c e =
    let z : tri s + suc t ≡ suc (tri s + t) = omega arith in
    let up : suc c + t ≡ s = omega (arith, e) in
    ap named z ∙ ap after (along s h t (suc c) up)

start : (s : ℕ) → named (tri s) ≡ record { cell = s; turn = 0 }
start zero = refl
start (suc s) =
    let z : tri s + suc s ≡ suc (tri s + s) = omega arith in
    ap named z ∙ ap after (along s (start s) s 0 (omega arith))

-- the name of a name's number is that name
pub named_number : (n : Name) → named (number n) ≡ n
named_number n = along (n.cell + n.turn) (start (n.cell + n.turn)) n.turn n.cell refl

-- two names with one number are the same
pub same_name : (m n : Name) → number m ≡ number n → m ≡ n
same_name m n e = sym (named_number m) ∙ ap named e ∙ named_number n

number_after : (cell turn : ℕ) → number (after_in cell turn) ≡ suc (number (record { cell = cell; turn = turn }))
number_after zero t =
    let p : tri (suc t + 0) ≡ tri (suc t) = ap tri (let z : suc t + 0 ≡ suc t = omega arith in z) in
    let q : tri (0 + t) ≡ tri t = ap tri (let z : 0 + t ≡ t = omega arith in z) in
    omega (arith, p, q)
number_after (suc c) t =
    let q : tri (suc c + t) ≡ tri (c + suc t) = ap tri (let z : suc c + t ≡ c + suc t = omega arith in z) in
    omega (arith, q)

-- the number of a number's name is that number
pub number_named : (k : ℕ) → number (named k) ≡ k
number_named zero = refl
number_named (suc k) = number_after (named k).cell (named k).turn ∙ ap suc (number_named k)

-- so are the names of two nodes
pub tells : (c d : Id) → number c.name ≡ number d.name → c ≡ d
tells c d e = ap (λ n. record { name = n }) (same_name c.name d.name e)
