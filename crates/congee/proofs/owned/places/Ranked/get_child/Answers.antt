use Rattle.congee.proofs.owned.places.Ranked.get_child.Goals as goal

pub returns : goal.returns
returns g c = cc (c.get_child.ensures, c.deref.ensures, c.self.view_is)
