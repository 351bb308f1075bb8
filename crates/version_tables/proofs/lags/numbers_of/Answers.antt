use Rattle.version_tables.proofs.Standing.{may-be-counted, numbers-of}
use Rattle.version_tables.proofs.lags.numbers_of.Goals as goal

-- what is handed on are the numbers of the tables, beside the histories as they were read
pub returns : goal.returns
returns g c views end cells =
    let h = c.args.histories.now in let known = c.lists.ensures.known in let lists = c.lists.ensures.value in let keys = c.keys.ensures.value in
    let ends = c.ends.ensures in record {
      histories = rw (lists, keys, ends.rounds);
      cells = cells;
      are = record {
        may = rw (lists, keys, ends.rounds) (may-be-counted g.H.Written.lists views h end c.keys.ensures.limits known.writes);
        few = λ r. rw lists (known.so_far r).few;
        are = rw (lists, keys, ends.rounds) (numbers-of g.H.Written.lists views h end (λ r. (known.so_far r).begins) g.N.Number.number c.args.cells.now cells
            c.bases.ensures.each c.lasts.ensures);
        ends = record { size = rw (lists, ends.rounds) ends.size; are_ends = rw (lists, ends.rounds) ends.parts };
      };
    }
