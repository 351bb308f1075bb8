use Rattle.model.proofs.ExchangeLaws.{initiator_either, responder_either}
use Rattle.model.proofs.laws.entries_come_from_either.Goals as goal

pub returns : goal.returns
returns c rules e p q meet = (initiator_either rules e p q meet, responder_either rules e p q meet)
