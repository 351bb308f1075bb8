use contract.BorrowLft.{⊑_static}
use Rattle.std.proofs.Common.{rules}
use Rattle.crew.proofs.Turns.{all_empty, of_labels}
use Rattle.crew.proofs.trays.Trays.new.Goals as goal

pub vacant-requires-whole : goal.vacant-requires-whole
vacant-requires-whole g c κs w =
    (w.0, of_labels w.1 (⊑_static _, all_empty (g.P.Label.keeps c.of-key.result.value) _ _ _ (search rules)))
