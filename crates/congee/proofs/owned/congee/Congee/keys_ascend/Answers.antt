use Rattle.congee.proofs.lemmas.owned.KeyOrders.{keys_in_order}
use Rattle.congee.proofs.owned.congee.Congee.keys_ascend.Goals as goal

pub returns : goal.returns
returns g c = λ h. keys_in_order g.K.Word64.fits g.K.Word64.word g.K.Word64.of_word g.K.Ord.cmp g.met.K.Word64.comes_back g.met.K.Ordered64.in_order _ h
