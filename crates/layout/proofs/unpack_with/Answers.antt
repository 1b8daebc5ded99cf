-- Each part of the state is read from its place.
use Rattle.layout.proofs.LayoutLaws.{unpack_parts}
use Rattle.layout.proofs.unpack_with.Goals as goal

pub returns : goal.returns
returns c = unpack_parts _ _ c.get_all.ensures c.get_all-2.ensures c.get.ensures c.get-2.ensures c.get-3.ensures c.get-4.ensures
