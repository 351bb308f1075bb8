use Rattle.model.proofs.ExchangeLaws.{initiator_newer, responder_newer}
use Rattle.model.proofs.laws.whole_precise_exchanges_give_the_newer.Goals as goal

pub returns : goal.returns
returns c rules e p q meet precise whole = (initiator_newer rules e p q meet precise whole, responder_newer rules e p q meet precise whole)
