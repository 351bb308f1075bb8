use Rattle.delta_plans.proofs.rounds.Rounds.weighed.Goals as goal

pub left_of-requires : goal.left_of-requires
left_of-requires g c = let mark = c.requires.mark in let is = mark.is_asked.too_large.is_offer in record {
  marks = record { is_offer = is; each_low = is.low; each_high = mark.size };
  count = rw c.in-Oldest.is at c.requires.count;
}

pub left_of-requires-in-Newest : goal.left_of-requires-in-Newest
left_of-requires-in-Newest g c = let mark = c.requires.mark in let is = mark.is_asked.too_large.is_offer in record {
  marks = record { is_offer = is; each_low = mark.size; each_high = is.high };
  count = rw c.in-Newest.is at c.requires.count;
}
