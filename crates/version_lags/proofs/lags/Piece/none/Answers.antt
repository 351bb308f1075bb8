use Rattle.version_lags.proofs.Parts.{counts-none}
use Rattle.version_lags.proofs.lags.Piece.none.Goals as goal

pub returns : goal.returns
returns g c = (λ at. rw c.in_ok-from_slice.ensures.items (counts-none _ c.requires at), tt)
