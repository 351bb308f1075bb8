-- What an exchange makes of a table, whatever its fate is.
-- Serves `ExchangeLaws` and `Owns`.
use Rattle.model.proofs.Common.{Fate}
use Rattle.bench_types.specs.declared.exchanges.Fate.TheVariants as fate
use Rattle.model.specs.Table.{Table, applied}
use Rattle.model.specs.Deltas.{DeltaView}
use Rattle.model.specs.Exchanged.{initiator_after, responder_after}

-- what holds of a table before an exchange and with what it receives holds after the exchange
pub initiator_after-either : (P : Table → Type 0) (f : Fate) (p : Table) (back : DeltaView) → P p → P (applied p back.items) → P (initiator_after f p back)
initiator_after-either P fate.Lost1 p back old new = old
initiator_after-either P fate.Lost2 p back old new = old
initiator_after-either P fate.Lost3 p back old new = new
initiator_after-either P fate.Ok p back old new = new

pub responder_after-either : (P : Table → Type 0) (f : Fate) (q : Table) (forth : DeltaView) → P q → P (applied q forth.items) → P (responder_after f q forth)
responder_after-either P fate.Lost1 q forth old new = old
responder_after-either P fate.Lost2 q forth old new = old
responder_after-either P fate.Lost3 q forth old new = old
responder_after-either P fate.Ok q forth old new = new
