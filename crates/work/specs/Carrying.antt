-- Carrying out a list of exchanges on tables in memory, whatever their representation is: it comes to the tables and
-- the records of list order, with any number of workers. Source: this project.
use Rattle.std.specs.Prelude.{◌≡◌, ℕ, List, map}
use Rattle.bench_types.specs.declared.exchanges.Exchange.{Exchange}
use Rattle.bench_types.specs.declared.exchanges.Record.{Record}
use Rattle.bench_types.specs.declared.exchanges.Rules.{Rules}
use Rattle.bench_types.specs.calls.Budget.{IsLawfulBudget}
use Rattle.model.specs.Table.{Table}
use Rattle.model.specs.Folds.{fold_of}
use Rattle.model.specs.Tables.{HoldsOfEach}
use Rattle.model.specs.calls.Tables.{IsCluster}
use Rattle.work.specs.declared.works.Batch.{Batch}
use Rattle.work.specs.declared.works.Done.{Done}
use Rattle.work.specs.declared.works.Work.{Work}

-- the tables of so many nodes, each of which fits what all read, and rules: exchanges of the nodes may be carried out
pub record MayCarryOut (fits : Table → Type 0) (rules : Rules) (nodes : ℕ) (tables : List Table) : Type 0 where
  pub cluster : IsCluster nodes tables
  pub each_fits : HoldsOfEach fits tables
  pub budget : IsLawfulBudget rules.budget

-- these are the tables and the records of list order
abbrev pub AreExchanged : {T : Type 0} → (T → Table) → Rules → List Exchange → List T → List T → List Record → Type 0
AreExchanged table rules es old new records =
    fold_of rules (map table old) es ≡ record { tables = map table new; records = records }

-- work may be done on these tables
abbrev pub MayWorkOn : {T X G : Type 0} → (T → Table) → (X → Table → Type 0) → Work X G → List T → Type 0
MayWorkOn table fits work tables =
    MayCarryOut (fits work.shared.now) work.rules.now work.list.now.nodes (map table tables)

-- it was done
abbrev pub HasWorkedOn : {T X G : Type 0} → (T → Table) → Work X G → List T → List T → List Record → Type 0
HasWorkedOn table work old new records = AreExchanged table work.rules.now work.list.now.exchanges old new records

-- a batch was carried out: so it is, what its workers shared comes back, and the call meanwhile gave what it may give
pub record IsBatchDone {T X G M : Type 0} (table : T → Table) (batch : Batch X G) (tables : List T) (gives : M → Type 0) (done : Done T X M) : Type 0 where
  pub exchanged : AreExchanged table batch.rules.now batch.list.now.exchanges tables done.tables.items done.records.items
  pub shared : done.shared ≡ batch.shared
  pub made : gives done.made
