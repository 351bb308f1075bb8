-- What the workers of one list are lent. Source: this project.
use Rattle.std.specs.Prelude.{map}
use Rattle.model.specs.Table.{Table}
use Rattle.work.specs.Carrying.{IsBatchDone, MayCarryOut}
use Rattle.work.specs.declared.works.Done.{Done}
use Rattle.pool.specs.declared.runs.Loan.{Loan}

-- its batch may be carried out on its tables, and the call be made meanwhile
pub record MayBeLent {T X G F : Type 0} (table : T → Table) (fits : X → Table → Type 0) (may : F → Type 0)
    (loan : Loan T X G F) : Type 0 where
  pub batch : MayCarryOut (fits loan.batch.shared) loan.batch.rules.now loan.batch.list.now.nodes
      (map table loan.tables.items)
  pub meanwhile : may loan.meanwhile

-- that was done
pub record IsLoanDone {T X G F M : Type 0} (table : T → Table) (gives : F → M → Type 0) (loan : Loan T X G F)
    (done : Done T X M) : Type 0 where
  pub carried_out : IsBatchDone table loan.batch loan.tables.items (gives loan.meanwhile) done
