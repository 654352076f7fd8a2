use Rattle.std.proofs.Common.{◌≡◌, ℕ, ◌<◌, sym, ap, ◌∙◌, subst, length, get_or}
use Rattle.std.specs.Prelude.{slice_set}
use Rattle.std.proofs.lemmas.List.{get_or_read}
use Rattle.crossbeam_epoch.specs.declared.names.Ptr.{Ptr}
use Rattle.crossbeam_epoch.specs.world.Machine.{State, null}
use Rattle.crossbeam_epoch.specs.world.Roots.{with_tag_at}
use Rattle.crossbeam_epoch.proofs.world.World.set_tag.Goals as goal

within : {A B : Type 0} (s v : State A B) (root n : ℕ) → v ≡ s → n ≡ length v.roots → root < length s.roots → root < n
within {A = A} {B = B} s v root n is long lt = subst (λ m. root < m) (sym (long ∙ ap (λ (x : State A B). length x.roots) is)) lt

tag_written : {A B : Type 0} (s v : State A B) (root tag : ℕ) (old : Ptr) → v ≡ s → root < length s.roots → old ≡ get_or v.roots root old → record v { roots = slice_set v.roots root (record old { tag = tag }) } ≡ with_tag_at s root tag
tag_written {A = A} {B = B} s v root tag old is lt read =
    ap (λ (x : State A B). record x { roots = slice_set x.roots root (record old { tag = tag }) }) is
    ∙ ap (λ (p : Ptr). record s { roots = slice_set s.roots root (record p { tag = tag }) }) (get_or_read s.roots root old lt (subst (λ (x : State A B). old ≡ get_or x.roots root old) is read) null)

pub index_mut-requires : goal.index_mut-requires
index_mut-requires g c = within c.args.self.now _ c.args.root _ c.self.view_is c.self.inside.roots.ok.0 c.requires

pub returns : goal.returns
returns g c = tag_written c.args.self.now _ c.args.root c.args.tag c.index_mut.result.now c.self.view_is c.requires c.index_mut.ensures.value
