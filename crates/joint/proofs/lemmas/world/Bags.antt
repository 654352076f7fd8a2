-- No more jobs stand in the collector's bags than nodes wait for their destruction.
use Rattle.std.proofs.Common.{◌≡◌, ◌+◌, ◌<◌, ◌≤◌, ℕ, arith, Bool, true, false, List, [], ◌∷◌, length, refl, ◌∙◌, ap, subst, inl, inr}
use Rattle.std.specs.Prelude.{Option, None, Some, is_some, nat_lt, if◌then◌else◌}
use Rattle.std.specs.List.{Contains, flat_map, sum_by}
use Rattle.std.proofs.lemmas.Bool.{cases_lt}
use Rattle.std.proofs.lemmas.Bool.Decides.{nat_tests}
use Rattle.std.proofs.lemmas.List.{length-append}
use Rattle.std.proofs.lemmas.List.Sums.{get_or-le-sum_by, sum_by-cons, sum_by-le-sum_by}
use Rattle.crossbeam_epoch.specs.declared.bag.Deferral.{Deferral}
use Rattle.crossbeam_epoch.specs.declared.bag.Sealed.{Sealed}
use Rattle.crossbeam_epoch.specs.declared.names.Name.{Name}
use Rattle.crossbeam_epoch.specs.declared.world.participant.Participant.{Participant}
use Rattle.crossbeam_epoch.specs.world.Fits.{at_place, in_bag, job_count, one, weight}
use Rattle.crossbeam_epoch.specs.world.Machine.{State, name_of}
use Rattle.crossbeam_epoch.specs.world.Sealing.{bit, counts_name}
use Rattle.congee.specs.protocol.Handing.{is_handed_over}
use Rattle.joint.specs.engine.Filed.{IsFiled, others, removes}
use Rattle.joint.specs.nodes.Nodes.{Nodes, nodes}
use Rattle.joint.specs.nodes.Listing.{handed_nodes}
use Rattle.joint.specs.engine.Census.{waiting_nodes, taken_by}
use Rattle.joint.specs.NameLemmas.{named_number}
use Rattle.joint.specs.Names.{number, named}
use Rattle.joint.specs.engine.Engine.{World}
use Rattle.joint.proofs.lemmas.engine.Filing.{is_name_itself}
use Rattle.joint.proofs.lemmas.nodes.Listing.{listed, ones}
use Rattle.joint.proofs.lemmas.world.Waiting.{none_waits, some_waits}

module _ {X : Type 0} where
  sum_by_add : (f g : X → ℕ) (xs : List X) → sum_by (λ x. f x + g x) xs ≡ sum_by f xs + sum_by g xs
  sum_by_add f g [] = refl
  sum_by_add f g (x ∷ xs) = let rest = sum_by_add f g xs in omega (arith, rest, sum_by-cons (λ y. f y + g y) x xs, sum_by-cons f x xs, sum_by-cons g x xs)

  sum_by_same : (f g : X → ℕ) → ((x : X) → f x ≡ g x) → (xs : List X) → sum_by f xs ≡ sum_by g xs
  sum_by_same f g e [] = refl
  sum_by_same f g e (x ∷ xs) = let rest = sum_by_same f g e xs in let here = e x in omega (arith, rest, here, sum_by-cons f x xs, sum_by-cons g x xs)

  sum_by_none : (xs : List X) → sum_by (λ x. 0) xs ≡ 0
  sum_by_none [] = refl
  sum_by_none (x ∷ xs) = let rest = sum_by_none xs in omega (arith, rest, sum_by-cons (λ y. 0) x xs)

  -- a sum above none has a term above none, and each term is within its sum
  some_term : (f : X → ℕ) (xs : List X) → 1 ≤ sum_by f xs → (x : X) × (1 ≤ f x) × ((g : X → ℕ) → g x ≤ sum_by g xs)
  some_term f [] le = absurd (omega arith)
  some_term f (x ∷ xs) le = elim (cases_lt 0 (f x)) [
    | inl lt ↦ (x, omega arith, λ g. omega (arith, sum_by-cons g x xs))
    | inr ge ↦ (
        let r = some_term f xs (let e = sum_by-cons f x xs in omega (arith, e, le, ge)) in
        (r.0, r.1, λ g. (let y = r.2 g in omega (arith, y, sum_by-cons g x xs))))
  ]

  term_within : (f : X → ℕ) (xs : List X) (x : X) → Contains xs x → f x ≤ sum_by f xs
  term_within f xs x m = let le = get_or-le-sum_by f xs m.0 x m.1 in subst (λ (y : X). f y ≤ sum_by f xs) m.2 le

module _ {T J : Type 0} (c : State T J) where
  weight_add : (f g : Deferral J → ℕ) → weight (λ e. f e + g e) c ≡ weight f c + weight g c
  weight_add f g =
      let places = sum_by_same (at_place (λ e. f e + g e)) (λ (p : Participant J). at_place f p + at_place g p) (λ p. omega (arith, sum_by_add f g p.bag, sum_by_add f g p.hand)) c.table in
      let bags = sum_by_same (in_bag (λ e. f e + g e)) (λ (b : Sealed J). in_bag f b + in_bag g b) (λ b. sum_by_add f g b.jobs) c.queue in
      omega (arith, places, bags, sum_by_add (at_place f) (at_place g) c.table, sum_by_add (in_bag f) (in_bag g) c.queue)

  weight_none : weight (λ e. 0) c ≡ 0
  weight_none =
      let places = sum_by_same (at_place (λ (e : Deferral J). 0)) (λ (p : Participant J). 0) (λ p. omega (arith, sum_by_none p.bag, sum_by_none p.hand)) c.table in
      let bags = sum_by_same (in_bag (λ (e : Deferral J). 0)) (λ (b : Sealed J). 0) (λ b. sum_by_none b.jobs) c.queue in
      omega (arith, places, bags, sum_by_none c.table, sum_by_none c.queue)

  weight_le : (f g : Deferral J → ℕ) → ((e : Deferral J) → f e ≤ g e) → weight f c ≤ weight g c
  weight_le f g le =
      let places = sum_by-le-sum_by (at_place f) (at_place g) c.table (λ p. (let x = sum_by-le-sum_by f g p.bag le in let y = sum_by-le-sum_by f g p.hand le in omega (arith, x, y))) in
      let bags = sum_by-le-sum_by (in_bag f) (in_bag g) c.queue (λ b. sum_by-le-sum_by f g b.jobs le) in
      omega (arith, places, bags)

  weight_same : (f g : Deferral J → ℕ) → ((e : Deferral J) → f e ≡ g e) → weight f c ≡ weight g c
  weight_same f g e =
      let places = sum_by_same (at_place f) (at_place g) (λ p. (let x = sum_by_same f g e p.bag in let y = sum_by_same f g e p.hand in omega (arith, x, y))) c.table in
      let bags = sum_by_same (in_bag f) (in_bag g) (λ b. sum_by_same f g e b.jobs) c.queue in
      omega (arith, places, bags)

  -- some job stands there
  some_job : (f : Deferral J → ℕ) → 1 ≤ weight f c → (e : Deferral J) × (1 ≤ f e) × ((g : Deferral J → ℕ) → g e ≤ weight g c)
  some_job f le = elim (cases_lt 0 (sum_by (at_place f) c.table)) [
    | inl lt ↦ (
        let p = some_term (at_place f) c.table (omega arith) in
        elim (cases_lt 0 (sum_by f p.0.bag)) [
          | inl held ↦ (let e = some_term f p.0.bag (omega arith) in (e.0, e.1, λ g. (let x = p.2 (at_place g) in let y = e.2 g in omega (arith, x, y))))
          | inr ge ↦ (
              let some = p.1 in
              let e = some_term f p.0.hand (omega (arith, some, ge)) in
              (e.0, e.1, λ g. (let x = p.2 (at_place g) in let y = e.2 g in omega (arith, x, y))))
        ])
    | inr ge ↦ (
        let b = some_term (in_bag f) c.queue (omega (arith, le, ge)) in
        let e = some_term f b.0.jobs b.1 in
        (e.0, e.1, λ g. (let x = b.2 (in_bag g) in let y = e.2 g in omega (arith, x, y))))
  ]

  -- how often a job is the removal of one of these nodes
  abbrev cover : List ℕ → Deferral J → ℕ
  cover ns e = sum_by (λ k. removes (named k) e) ns

  weight_cover : (ns : List ℕ) → weight (cover ns) c ≡ sum_by (λ k. weight (removes (named k)) c) ns
  weight_cover [] = weight_none
  weight_cover (n ∷ ns) =
      let rest = weight_cover ns in
      let a = weight_same (cover (n ∷ ns)) (λ e. removes (named n) e + cover ns e) (λ e. sum_by-cons (λ k. removes (named k) e) n ns) in
      let b = weight_add (removes (named n)) (cover ns) in
      omega (arith, rest, a, b, sum_by-cons (λ k. weight (removes (named k)) c) n ns)

bit_few : (b : Bool) → bit b ≤ 1
bit_few true = omega arith
bit_few false = omega arith

bit_true : (b : Bool) (n : ℕ) → n ≤ bit b → 1 ≤ n → b ≡ true
bit_true true n a b = refl
bit_true false n a b = absurd (omega (arith, a, b))

-- each job is the removal of a node of the list, where the list has every node that waits
module _ {V : Type 0} (s : Nodes V) (f : IsFiled s) (ns : List ℕ) (all : (n : ℕ) → is_handed_over (nodes s n) ≡ true → Contains ns n) where
  abbrev bare : Deferral (Unit {0}) → ℕ
  bare e = if nat_lt 0 (cover s.collector ns e) then 0 else 1

  covered_or_bare : (e : Deferral (Unit {0})) → one e ≤ cover s.collector ns e + bare e
  covered_or_bare e = by (nat_lt 0 (cover s.collector ns e)) refl
    where
      by : (b : Bool) → nat_lt 0 (cover s.collector ns e) ≡ b → 1 ≤ cover s.collector ns e + (if b then 0 else 1)
      by true lt = grind (arith, nat_tests)
      by false ge = omega arith

  is_covered : (e : Deferral (Unit {0})) (o : Option Name) → name_of e.work ≡ o → ((g : Deferral (Unit {0}) → ℕ) → g e ≤ weight g s.collector) → 0 < cover s.collector ns e
  is_covered e None is within = absurd (
      let here = within others in
      let none = f.only in
      let q : others e ≡ 1 = ap (λ (x : Option Name). if is_some x then 0 else 1) is in
      omega (arith, here, none, q))
  is_covered e (Some m) is within =
      let here = within (removes m) in
      let q : removes m e ≡ 1 = ap (λ (x : Option Name). counts_name x m) is ∙ rw (is_name_itself m) refl in
      let waits = bit_true (is_handed_over (nodes s (number m))) (removes m e) (let z = f.filed m in omega (arith, here, z)) (omega (arith, q)) in
      let least = term_within (λ k. removes (named k) e) ns (number m) (all (number m) waits) in
      let same : removes (named (number m)) e ≡ removes m e = ap (λ (x : Name). removes x e) (named_number m) in
      omega (arith, least, same, q)

  none_bare : weight bare s.collector ≡ 0
  none_bare = elim (cases_lt 0 (weight bare s.collector)) [
    | inl lt ↦ absurd (
        let j = some_job s.collector bare (omega arith) in
        let yes = is_covered j.0 (name_of j.0.work) refl j.2 in
        let le = j.1 in
        by j.0 (nat_lt 0 (cover s.collector ns j.0)) refl le yes)
    | inr ge ↦ omega arith
  ]
    where
      by : (e : Deferral (Unit {0})) (b : Bool) → nat_lt 0 (cover s.collector ns e) ≡ b → 1 ≤ (if b then 0 else 1) → 0 < cover s.collector ns e → ⊥
      by e true lt le some = omega arith
      by e false ge le some = absurd (grind (arith, nat_tests))

  jobs_few : job_count s.collector ≤ length ns
  jobs_few =
      let a = weight_le s.collector one (λ e. cover s.collector ns e + bare e) covered_or_bare in
      let b = weight_add s.collector (cover s.collector ns) bare in
      let c = weight_cover s.collector ns in
      let d = sum_by-le-sum_by (λ k. weight (removes (named k)) s.collector) (λ k. 1) ns (λ k. (let x = f.filed (named k) in let y = bit_few (is_handed_over (nodes s (number (named k)))) in omega (arith, x, y))) in
      omega (arith, a, b, c, none_bare, d, ones ns)

-- no more jobs stand in bags than nodes wait
pub jobs_waiting : {V : Type 0} (s : World V) → IsFiled s.forest → job_count s.forest.collector ≤ length (waiting_nodes s)
jobs_waiting {V} s f =
    let few = jobs_few s.forest f (handed_nodes s.forest) (λ n w. listed is_handed_over (λ v. v.word.retired) (none_waits V) some_waits s.forest n w) in
    let more = length-append (handed_nodes s.forest) (flat_map taken_by s.machines) in
    omega (arith, few, more)
