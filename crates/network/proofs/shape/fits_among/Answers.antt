-- `network::shape::fits_among` meets its contract, clause by clause. Assumes nothing.
use mathlib.Core.Path.{◌∙◌}
use mathlib.Core.Bool.{◌&&◌}
use lib.Dec.{leb}
use Rattle.network.proofs.Clauses.{node-read}
use Rattle.network.proofs.Places.{same-element}
use Rattle.network.proofs.shape.fits_among.Goals as goal

pub returns : goal.returns
returns c =
    (λ i. c.key_is_new.ensures i && leb c.args.exchanges (c.exchanges_allowed.ensures i))
    ∙ node-read c.args.nodes.now c.args.exchanges c.args.number _ (same-element c.args.nodes.now c.args.number _ _ c.requires)
