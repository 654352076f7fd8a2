use Rattle.std.proofs.Common.{◌≡◌, length, take, drop}
use Rattle.congee.proofs.forms.ranks.Ranks.move_children.Given as goal

abbrev pub invariant-loop-place : goal.invariant-loop-place
invariant-loop-place g l = record {
  bytes : l.others ≡ take l.place l.self;
  moved : l.moved.items ≡ take l.place l.fn.children.items;
  rest : drop l.place l.children.items ≡ drop l.place l.fn.children.items;
  stays : length l.children.items ≡ length l.fn.children.items;
}
