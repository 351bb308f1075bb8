-- Two runs that have cut nothing, by whatever modes and budgets: their tables and rows are the same.
-- Serves `uncut_modes_are_alike`.
use Rattle.run_laws.proofs.Common.{◌≡◌, ℕ, ◌+◌, ◌-◌, ◌<◌, ◌≤◌, cond, List, [], ◌∷◌, ◌++◌, length, fold, All, refl, sym, ap, ◌∙◌, subst, arith, All-head, All-tail, sum_by-append, sum_by-cons, Exchange, Fate, Record, Rules, IsPlanned, digest_kind, Settings, Table, table_of_node, AreCopiesOf, WritesBy, DeltaView, delta_between, digest_size, exchanged, fate_of, sent_until, figures_of, Folded, exchange_in, RoundListView, lengths-alike, same_tables, round_list_of, planned_list}
use Rattle.bench_types.specs.declared.exchanges.Fate.TheVariants as fate
use Rattle.run_laws.specs.Floors.{with_rules, CutsNothingUpTo}
use Rattle.played_rounds.specs.Outcomes.{figures_in, row_in}
use Rattle.cluster.specs.Rounds.{begun, rules_of, tables_after, records_in}
use Rattle.played_rounds.specs.Rows.{has_lost, lost_count, entry_count, cut_total}
use Rattle.played_rounds.specs.Soundness.{writes_by}
use Rattle.run_laws.proofs.Best.{same_writes, begun_beside, beside_after}
use Rattle.run_laws.proofs.Floors.{uncut_round}
use Rattle.run_laws.proofs.Modes.{same_list, same_lists}
use Rattle.run_laws.proofs.StateFolds.{CutsNothing, CutNothing, MissNone, AreBeside, next_recorded, step_beside, same_held}

-- two tables that stand beside each other both ways are one
module _ (writes : WritesBy) (nodes keys : ℕ) (ts us : List Table) (to : AreBeside writes nodes keys ts us) (from : AreBeside writes nodes keys us ts) where
  pub alike_at : (n : ℕ) → n < nodes → table_of_node ts n ≡ table_of_node us n
  alike_at n lt =
      same_held writes nodes (table_of_node ts n) (table_of_node us n) (to.first.proper n (omega (arith, lt, to.first.tables.size))) (to.second.proper n (omega (arith, lt, to.second.tables.size))) (to.first.tables.tables n lt).nodes (to.second.tables.tables n lt).nodes
      (λ owner owner_in. (to.first.last owner owner_in).apart) (to.first.holds n lt) (to.second.holds n lt)
      (λ owner owner_in. to.as_much n owner lt owner_in) (λ owner owner_in. from.as_much n owner lt owner_in)
      ((to.first.tables.tables n lt).node ∙ sym (to.second.tables.tables n lt).node) ((to.first.tables.tables n lt).keys ∙ sym (to.second.tables.tables n lt).keys) (to.generations n lt)

  pub alike_tables : ts ≡ us
  alike_tables = same_tables ts us (to.first.tables.size ∙ sym to.second.tables.size) (λ n lt. alike_at n (omega (arith, lt, to.first.tables.size)))

-- whether a record lost a message, as a number, and how many entries it sent
abbrev lost_of : Record → ℕ
lost_of r = cond (has_lost r.fate) 1 0

abbrev entries_of : Record → ℕ
entries_of r = r.back + r.forth

-- what two records count alike
abbrev CountAlike : Record → Record → Type 0
CountAlike r s = (lost_of r ≡ lost_of s) × (entries_of r ≡ entries_of s)

sent_alike : (f : Fate) (d1 d2 c1 c2 : ℕ) (b h b' h' : DeltaView) → CutsNothing (sent_until f d1 d2 b h) → CutsNothing (sent_until f c1 c2 b' h') → (b.cut ≡ 0 → b'.cut ≡ 0 → length b.items ≡ length b'.items) → (h.cut ≡ 0 → h'.cut ≡ 0 → length h.items ≡ length h'.items) → CountAlike (sent_until f d1 d2 b h) (sent_until f c1 c2 b' h')
sent_alike fate.Lost1 d1 d2 c1 c2 b h b' h' none none' backs forths = (refl, refl)
sent_alike fate.Lost2 d1 d2 c1 c2 b h b' h' none none' backs forths = (refl, omega (arith, backs none.0 none'.0))
sent_alike fate.Lost3 d1 d2 c1 c2 b h b' h' none none' backs forths = (refl, omega (arith, backs none.0 none'.0, forths none.1 none'.1))
sent_alike fate.Ok d1 d2 c1 c2 b h b' h' none none' backs forths = (refl, omega (arith, backs none.0 none'.0, forths none.1 none'.1))

-- an exchange of the same tables that cuts nothing by either rules
module _ (rules rules' : Rules) (nodes keys : ℕ) (writes : WritesBy) (ts : List Table) (copies : AreCopiesOf writes nodes keys ts) (states : MissNone nodes writes ts) (e : Exchange) (planned : IsPlanned nodes e) where
  abbrev at : ℕ → Table
  at n = table_of_node ts n

  as_long : (from to : ℕ) → from < nodes → to < nodes → (delta_between rules.mode e.rotation rules.budget (at from) (at to)).cut ≡ 0 → (delta_between rules'.mode e.rotation rules'.budget (at from) (at to)).cut ≡ 0 → length (delta_between rules.mode e.rotation rules.budget (at from) (at to)).items ≡ length (delta_between rules'.mode e.rotation rules'.budget (at from) (at to)).items
  as_long from to from_in to_in =
      lengths-alike (at from) (at to) (copies.proper from (omega (arith, from_in, copies.tables.size))) (copies.proper to (omega (arith, to_in, copies.tables.size))) writes (copies.holds from from_in)
      ((copies.tables.tables from from_in).keys ∙ sym (copies.tables.tables to to_in).keys)
      (λ owner lt. states to owner to_in (omega (arith, lt, (copies.tables.tables from from_in).nodes))) e.rotation
      (omega (arith, planned.rotation, (copies.tables.tables from from_in).nodes)) rules.mode rules'.mode rules.budget rules'.budget

  counted_alike : CutsNothing (exchanged rules e (at e.initiator) (at e.responder)).sent → CutsNothing (exchanged rules' e (at e.initiator) (at e.responder)).sent → CountAlike (exchanged rules e (at e.initiator) (at e.responder)).sent (exchanged rules' e (at e.initiator) (at e.responder)).sent
  counted_alike none none' =
      sent_alike (fate_of e) (digest_size (digest_kind rules.mode) (at e.initiator)) (digest_size (digest_kind rules.mode) (at e.responder)) (digest_size (digest_kind rules'.mode) (at e.initiator)) (digest_size (digest_kind rules'.mode) (at e.responder))
      (delta_between rules.mode e.rotation rules.budget (at e.responder) (at e.initiator)) (delta_between rules.mode e.rotation rules.budget (at e.initiator) (at e.responder))
      (delta_between rules'.mode e.rotation rules'.budget (at e.responder) (at e.initiator)) (delta_between rules'.mode e.rotation rules'.budget (at e.initiator) (at e.responder)) none none'
      (as_long e.responder e.initiator planned.responder planned.initiator) (as_long e.initiator e.responder planned.initiator planned.responder)

-- the exchanges of a list
abbrev CountsAlike : List Record → List Record → Type 0
CountsAlike rs ss = (lost_count rs ≡ lost_count ss) × (entry_count rs ≡ entry_count ss)

counts_more : (rs ss : List Record) (r s : Record) → CountsAlike rs ss → CountAlike r s → CountsAlike (rs ++ r ∷ []) (ss ++ s ∷ [])
counts_more rs ss r s before this = (
  omega (arith, before.0, this.0, sum_by-append lost_of rs (r ∷ []), sum_by-append lost_of ss (s ∷ []), sum_by-cons lost_of r [], sum_by-cons lost_of s []),
  omega (arith, before.1, this.1, sum_by-append entries_of rs (r ∷ []), sum_by-append entries_of ss (s ∷ []), sum_by-cons entries_of r [], sum_by-cons entries_of s []),
)

module _ (rules rules' : Rules) (nodes keys : ℕ) (writes : WritesBy) where
  -- the records of one exchange
  step_counts : (f g : Folded) (e : Exchange) → IsPlanned nodes e → AreBeside writes nodes keys f.tables g.tables → AreBeside writes nodes keys g.tables f.tables → CutsNothing (exchanged rules e (table_of_node f.tables e.initiator) (table_of_node f.tables e.responder)).sent → CutsNothing (exchanged rules' e (table_of_node g.tables e.initiator) (table_of_node g.tables e.responder)).sent → CountAlike (exchanged rules e (table_of_node f.tables e.initiator) (table_of_node f.tables e.responder)).sent (exchanged rules' e (table_of_node g.tables e.initiator) (table_of_node g.tables e.responder)).sent
  step_counts f g e planned to from =
      subst (λ us. CutsNothing (exchanged rules e (table_of_node f.tables e.initiator) (table_of_node f.tables e.responder)).sent → CutsNothing (exchanged rules' e (table_of_node us e.initiator) (table_of_node us e.responder)).sent → CountAlike (exchanged rules e (table_of_node f.tables e.initiator) (table_of_node f.tables e.responder)).sent (exchanged rules' e (table_of_node us e.initiator) (table_of_node us e.responder)).sent)
      (alike_tables writes nodes keys f.tables g.tables to from)
      (counted_alike rules rules' nodes keys writes f.tables to.first from.states e planned)

  fold_counts : (es : List Exchange) (f g : Folded) → All (IsPlanned nodes) es → AreBeside writes nodes keys f.tables g.tables → AreBeside writes nodes keys g.tables f.tables → CutNothing (fold (exchange_in rules) f es).records → CutNothing (fold (exchange_in rules') g es).records → CountsAlike f.records g.records → CountsAlike (fold (exchange_in rules) f es).records (fold (exchange_in rules') g es).records
  fold_counts [] f g planned to from none none' counts = counts
  fold_counts (e ∷ es) f g planned to from none none' counts =
      let this = All-head (IsPlanned nodes) e es planned in
      let uncut = none (exchanged rules e (table_of_node f.tables e.initiator) (table_of_node f.tables e.responder)).sent (next_recorded rules f e es) in
      let uncut' = none' (exchanged rules' e (table_of_node g.tables e.initiator) (table_of_node g.tables e.responder)).sent (next_recorded rules' g e es) in
      fold_counts es (exchange_in rules f e) (exchange_in rules' g e) (All-tail (IsPlanned nodes) e es planned)
      (step_beside rules rules' nodes keys writes f g e this to uncut') (step_beside rules' rules nodes keys writes g f e this from uncut) none none'
      (counts_more f.records g.records (exchanged rules e (table_of_node f.tables e.initiator) (table_of_node f.tables e.responder)).sent (exchanged rules' e (table_of_node g.tables e.initiator) (table_of_node g.tables e.responder)).sent counts (step_counts f g e this to from uncut uncut'))

module _ (s : Settings) (some : 2 ≤ s.nodes) (most : s.nodes ≤ 4096) (some_key : 1 ≤ s.keys) (few_keys : s.keys ≤ 64) (rules : Rules) where
  abbrev other : Settings
  other = with_rules s rules

  -- the first is to the second as the second to the first
  turned : with_rules other (rules_of s) ≡ s
  turned = refl

  back_after : (round : ℕ) → CutsNothingUpTo other round → AreBeside (writes_by s round) s.nodes s.keys (tables_after s round) (tables_after other round)
  back_after round none = subst (λ w. AreBeside w s.nodes s.keys (tables_after s round) (tables_after other round)) (same_writes s rules round) (beside_after other some most some_key few_keys (rules_of s) round none)

  module _ (round : ℕ) (first : 1 ≤ round) (none : CutsNothingUpTo s round) (none' : CutsNothingUpTo other round) where
    pub tables_alike : tables_after other round ≡ tables_after s round
    tables_alike = alike_tables (writes_by s round) s.nodes s.keys (tables_after other round) (tables_after s round) (beside_after s some most some_key few_keys rules round none) (back_after round none')

    abbrev ts : List Table
    ts = begun other round (tables_after other (round - 1))

    abbrev us : List Table
    us = begun s round (tables_after s (round - 1))

    earlier : (t : Settings) → CutsNothingUpTo t round → CutsNothingUpTo t (round - 1)
    earlier t uncut r some_round le = uncut r some_round (omega (arith, le))

    to : AreBeside (writes_by s round) s.nodes s.keys ts us
    to = begun_beside s some most some_key few_keys rules round first none (beside_after s some most some_key few_keys rules (round - 1) (earlier s none))

    from : AreBeside (writes_by s round) s.nodes s.keys us ts
    from = subst (λ w. AreBeside w s.nodes s.keys us ts) (same_writes s rules round) (begun_beside other some most some_key few_keys (rules_of s) round first none' (beside_after other some most some_key few_keys (rules_of s) (round - 1) (earlier other none')))

    counts_alike : CountsAlike (records_in other round) (records_in s round)
    counts_alike =
        subst (λ es. CutNothing (fold (exchange_in rules) (record { tables = ts; records = [] }) es).records → CountsAlike (fold (exchange_in rules) (record { tables = ts; records = [] }) es).records (records_in s round)) (sym (ap (λ (l : RoundListView). l.exchanges) (same_list s s.format rules round)))
        (λ uncut. fold_counts rules (rules_of s) s.nodes s.keys (writes_by s round) (round_list_of s round).exchanges (record { tables = ts; records = [] }) (record { tables = us; records = [] }) (planned_list s round some) to from uncut (uncut_round s some most some_key few_keys round (none round first (omega arith))) (refl, refl))
        (uncut_round other some most some_key few_keys round (none' round first (omega arith)))

    figures_alike : figures_in other round ≡ figures_in s round
    figures_alike = λ i. figures_of round (tables_alike i) (same_lists s s.format rules round i)

    cuts_alike : cut_total (records_in other round) ≡ cut_total (records_in s round)
    cuts_alike = none' round first (omega arith) ∙ sym (none round first (omega arith))

    pub rows_alike : row_in other round ≡ row_in s round
    rows_alike = λ i. record {
      round = round;
      exchanges = length (same_list s s.format rules round i).exchanges;
      unreached = (same_list s s.format rules round i).unreached;
      lost = counts_alike.0 i;
      entries = counts_alike.1 i;
      cut = cuts_alike i;
      stale = (figures_alike i).stale;
      greatest = (figures_alike i).greatest;
      leftover = (figures_alike i).leftover;
    }
