-- One exchange of p, the initiator, and q, the responder. It has three messages: the digest of p; the digest
-- of q with the delta from q to p; the delta from p to q. Both deltas are computed from the tables before the
-- exchange. Where the first message is lost nothing further is sent; where the second is, neither side changes
-- and the third isn't sent; where the third is, only p changes. The fate is that of the first lost message.
-- The record counts what was sent. Source: the LADIS 2008 paper; losses and records are this project's.
use Rattle.std.specs.Prelude.{ℕ, Bool, length, if◌then◌else◌}
use Rattle.bench_types.specs.declared.exchanges.Exchange.{Exchange}
use Rattle.bench_types.specs.declared.exchanges.Fate.{Fate}
use Rattle.bench_types.specs.declared.exchanges.Fate.TheVariants as fate
use Rattle.bench_types.specs.declared.exchanges.Record.{Record}
use Rattle.bench_types.specs.declared.exchanges.Rules.{Rules}
use Rattle.bench_types.specs.Mode.{digest_kind}
use Rattle.model.specs.Table.{Table, applied}
use Rattle.model.specs.Digests.{digest_size}
use Rattle.model.specs.Deltas.{DeltaView, delta_between}

-- both tables after an exchange, and its record
pub record Exchanged : Type 0 where
  pub initiator : Table
  pub responder : Table
  pub sent : Record

-- where the third message was sent
abbrev pub last_fate : Bool → Fate
last_fate lost = if lost then fate.Lost3 else fate.Ok

-- the fate is that of the first message that is lost
abbrev pub fate_of : Exchange → Fate
fate_of e = if e.lost1 then fate.Lost1 else (if e.lost2 then fate.Lost2 else last_fate e.lost3)

-- both deltas were sent
abbrev pub both_sent : Fate → ℕ → ℕ → DeltaView → DeltaView → Record
both_sent fate d1 d2 b f = record {
  digest1 = d1;
  digest2 = d2;
  back = length b.items;
  forth = length f.items;
  back_cut = b.cut;
  forth_cut = f.cut;
  fate = fate;
}

-- what was sent up to the first lost message
abbrev pub sent_until : Fate → ℕ → ℕ → DeltaView → DeltaView → Record
sent_until fate.Lost1 d1 d2 b f = record {
  digest1 = d1;
  digest2 = 0;
  back = 0;
  forth = 0;
  back_cut = 0;
  forth_cut = 0;
  fate = fate.Lost1;
}
sent_until fate.Lost2 d1 d2 b f = record {
  digest1 = d1;
  digest2 = d2;
  back = length b.items;
  forth = 0;
  back_cut = b.cut;
  forth_cut = 0;
  fate = fate.Lost2;
}
sent_until fate.Lost3 d1 d2 b f = both_sent fate.Lost3 d1 d2 b f
sent_until fate.Ok d1 d2 b f = both_sent fate.Ok d1 d2 b f

-- the initiator changes where the second message came
abbrev pub initiator_after : Fate → Table → DeltaView → Table
initiator_after fate.Lost1 p back = p
initiator_after fate.Lost2 p back = p
initiator_after fate.Lost3 p back = applied p back.items
initiator_after fate.Ok p back = applied p back.items

-- and the responder where the third did
abbrev pub responder_after : Fate → Table → DeltaView → Table
responder_after fate.Lost1 q forth = q
responder_after fate.Lost2 q forth = q
responder_after fate.Lost3 q forth = q
responder_after fate.Ok q forth = applied q forth.items

-- an exchange of the tables p and q by the rules of a run
abbrev pub exchanged : Rules → Exchange → Table → Table → Exchanged
exchanged rules e p q =
    let back = delta_between rules.mode e.rotation rules.budget q p in
    let forth = delta_between rules.mode e.rotation rules.budget p q in
    let kind = digest_kind rules.mode in
    record {
      initiator = initiator_after (fate_of e) p back;
      responder = responder_after (fate_of e) q forth;
      sent = sent_until (fate_of e) (digest_size kind p) (digest_size kind q) back forth;
    }
