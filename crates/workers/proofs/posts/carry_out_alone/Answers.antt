use Rattle.workers.proofs.Common.{refl, sym, subst, ◌∙◌}
use Rattle.std.proofs.lemmas.List.{with_items_is}
use Rattle.work.specs.Carrying.{AreExchanged}
use Rattle.workers.specs.inner.Works.{MayShareOut}
use Rattle.workers.proofs.posts.carry_out_alone.Goals as goal

pub exchange_all-requires-clause-tables : goal.exchange_all-requires-clause-tables
exchange_all-requires-clause-tables g c _ _ =
    subst (MayShareOut g.T.MemoryTable.table g.X.Exchanging.fits c.args.batch) (sym c.deref_mut.ensures.value) c.requires.tables

pub returns : goal.returns
returns g c =
    let Exchanged = AreExchanged g.T.MemoryTable.table c.args.batch.rules.now c.args.batch.list.now.exchanges in
    let new = c.exchange_all.new.tables in
    let records = c.in_ok-records.records.items in
    let is = with_items_is c.args.tables new (c.exchange_all.auto.tables ∙ c.deref_mut.ensures.len) in
    let from_old = subst (λ l. Exchanged l new records) c.deref_mut.ensures.value c.in_ok-records.ensures.exchanged in
    let exchanged = subst (λ l. Exchanged c.args.tables.items l records) (sym is) from_old in
    record { exchanged = exchanged; shared = refl; made = c.meanwhile-made.ensures }
