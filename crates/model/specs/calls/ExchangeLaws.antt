-- What holds of every exchange that no law of runs needs: each entry stood in one of the two tables, and in a precise
-- mode, where nothing is lost or cut, both sides come to have what is newer. Source: the LADIS 2008 paper, whose
-- reconciliation keeps the entry with the greater version; generations are this project's.
use Rattle.std.specs.Prelude.{◌≡◌, ◌≢◌, ℕ, ◌<◌, ◌⊎◌, ◌==◌, max, Some, if◌then◌else◌}
use Rattle.bench_types.specs.declared.entries.Entry.{Entry}
use Rattle.bench_types.specs.declared.exchanges.Exchange.{Exchange}
use Rattle.bench_types.specs.declared.exchanges.Fate.TheVariants as fate
use Rattle.bench_types.specs.declared.exchanges.Mode.{Mode}
use Rattle.bench_types.specs.declared.exchanges.Record.{Record}
use Rattle.bench_types.specs.declared.exchanges.Rules.{Rules}
use Rattle.bench_types.specs.declared.exchanges.DigestKind.TheVariants.{Precise}
use Rattle.bench_types.specs.Mode.{digest_kind}
use Rattle.model.specs.Table.{Table, entry_at, mark_at, generation_held, IsProper}
use Rattle.model.specs.Candidates.{candidates}
use Rattle.model.specs.calls.DeltaLaws.{AreWithin}
use Rattle.model.specs.Exchanged.{exchanged}
use Rattle.model.specs.ExchangeLaws.{LosesNothing}

-- the tables that may meet in an exchange
pub record MayMeet (e : Exchange) (p q : Table) : Type 0 where
  pub initiator : IsProper p
  pub responder : IsProper q
  pub nodes : p.nodes ≡ q.nodes
  pub keys : p.keys ≡ q.keys
  pub rotation : e.rotation < p.nodes

-- each entry stood at its place in one of two tables
abbrev pub StoodInEither : Table → Table → Table → Type 0
StoodInEither p q new =
    (owner key : ℕ) (e : Entry) → entry_at new owner key ≡ Some e
    → (entry_at p owner key ≡ Some e) ⊎ (entry_at q owner key ≡ Some e)

-- and so in both tables after an exchange
abbrev pub EntriesComeFromEither : Type 0
EntriesComeFromEither =
    (rules : Rules) (e : Exchange) (p q : Table) → MayMeet e p q
    → StoodInEither p q (exchanged rules e p q).initiator × StoodInEither p q (exchanged rules e p q).responder

-- the modes that send exactly what is newer than the receiver's entry
abbrev pub IsPreciseMode : Mode → Type 0
IsPreciseMode mode = digest_kind mode ≡ Precise

-- no message was lost and nothing was cut
pub record LosesAndCutsNothing (r : Record) : Type 0 where
  pub fate : r.fate ≡ fate.Ok
  pub back : r.back_cut ≡ 0
  pub forth : r.forth_cut ≡ 0

-- the version of a key in a generation, 0 where the copy of its owner is of another one
abbrev pub version_in : ℕ → Table → ℕ → ℕ → ℕ
version_in generation t owner key = if generation_held t owner == generation then (mark_at t owner key).version else 0

-- the newer of the generations that two tables hold of an owner
abbrev pub newer_generation : Table → Table → ℕ → ℕ
newer_generation p q owner = max (generation_held p owner) (generation_held q owner)

-- of each owner but the table's own node it has the newer of the generations that two tables have, and in it, at each
-- key, the greater of their versions
pub record HasTheNewer (p q new : Table) : Type 0 where
  pub generation : (owner : ℕ) → owner ≢ new.node → generation_held new owner ≡ newer_generation p q owner
  pub versions : (owner key : ℕ) → owner ≢ new.node
      → (mark_at new owner key).version
      ≡ max (version_in (newer_generation p q owner) p owner key) (version_in (newer_generation p q owner) q owner key)

-- and so have both tables after an exchange in a precise mode, where nothing is lost or cut
abbrev pub WholePreciseExchangesGiveTheNewer : Type 0
WholePreciseExchangesGiveTheNewer =
    (rules : Rules) (e : Exchange) (p q : Table) → MayMeet e p q → IsPreciseMode rules.mode
    → LosesAndCutsNothing (exchanged rules e p q).sent
    → HasTheNewer p q (exchanged rules e p q).initiator × HasTheNewer p q (exchanged rules e p q).responder

-- all candidates from one table to another fit into a delta
abbrev pub AllFit : Rules → Table → Table → Type 0
AllFit rules from to = AreWithin rules.budget (candidates rules.mode from to)

-- where no message is lost, a budget for all candidates of both sides cuts nothing
abbrev pub EnoughBudgetCutsNothing : Type 0
EnoughBudgetCutsNothing =
    (rules : Rules) (e : Exchange) (p q : Table) → LosesNothing e → AllFit rules q p → AllFit rules p q
    → LosesAndCutsNothing (exchanged rules e p q).sent
