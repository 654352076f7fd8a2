use Rattle.std.proofs.Common.{rules, ℕ, ◌≡◌, ◌-◌, length, take, drop, ap, sym, subst, ◌∙◌, arith}
use Rattle.std.proofs.lemmas.List.{drop_all, take_rest}
use Rattle.congee.specs.forms.Bytes.{Lists}
use Rattle.congee.specs.forms.Places.{sorted_map}
use Rattle.congee.proofs.lemmas.forms.SortedLemmas.{IsPlaceOf}
use Rattle.congee.proofs.lemmas.forms.Ranks.{rising_of, none_past}
use Rattle.congee.proofs.lemmas.owned.Rows.{lists_from}
use Rattle.congee.proofs.forms.ranks.Ranks.children_from.Goals as goal

pub place_of-requires : goal.place_of-requires
place_of-requires g c = (search rules, rising_of _ _ c.requires.same c.requires.rises)

pub returns-then-from-gt255 : goal.returns-then-from-gt255
returns-then-from-gt255 g c =
    let cs = c.as_slice-children.result.now in
    let all : c.len-len.result ≡ length cs = c.len-len.ensures.count ∙ (c.requires.same ∙ ap length (sym c.as_slice-children.ensures.value)) in
    let none = subst (Lists (sorted_map c.args.self.now c.args.children.now.items) c.args.from) (sym (take_rest cs (length cs) ∙ drop_all (length cs) cs (omega arith))) (none_past c.requires c.args.from (omega arith)) in
    subst (λ (n : ℕ). Lists (sorted_map c.args.self.now c.args.children.now.items) c.args.from (take (length cs - n) (drop n cs))) (sym all) none

pub returns : goal.returns
returns g c =
    let cs = c.as_slice-children.result.now in
    let place = c.place_of.result in
    let s : IsPlaceOf c.args.from place c.args.self.now = record { within = c.place_of.ensures.within; below = c.place_of.ensures.below; at = c.place_of.ensures.at } in
    let there : Lists (sorted_map c.args.self.now c.args.children.now.items) c.args.from (drop place c.args.children.now.items) =
    lists_from c.requires (length c.args.self.now - place) c.args.from place s (omega (arith, s.within)) in
    let all : c.len-len.result ≡ length cs = c.len-len.ensures.count ∙ (c.requires.same ∙ ap length (sym c.as_slice-children.ensures.value)) in
    let rest = subst (Lists (sorted_map c.args.self.now c.args.children.now.items) c.args.from) (sym (take_rest cs place))
    (subst (λ xs. Lists (sorted_map c.args.self.now c.args.children.now.items) c.args.from (drop place xs)) (sym c.as_slice-children.ensures.value) there) in
    subst (λ (n : ℕ). Lists (sorted_map c.args.self.now c.args.children.now.items) c.args.from (take (n - place) (drop place cs))) (sym all) rest
