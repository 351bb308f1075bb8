-- A node's writes of a round, as they are lent: that they may be made, and what they leave.
-- Serves `begin_node`.
use Rattle.cluster.proofs.Common.{All, ◌≡◌, ◌+◌, ◌-◌, ◌<◌, ◌≤◌, ◌^◌, ℕ, List, [], length, map, get_or, ap, sym, ◌∙◌, subst, arith, Entry, Table, HistoriesView, OwnWrite, own_writes, born_in, generation_upto, Settings, written, list_of_owner, AreBornBy, born-later, AreWritesOf, writes_before}
use Rattle.cluster.specs.calls.Clusters.{IsRoundOf}
use Rattle.cluster.specs.calls.Plans.{AreWritesOfAll}
use Rattle.cluster.specs.inner.InMemory.{IsBeforeRound, IsOwnerIn, IsRestartedIn, IsWritten, MayWriteNow, WritesIn}
use Rattle.cluster.specs.inner.Steps.{LeavesOthers, MayWriteOwn}
use Rattle.cluster.proofs.Standing.{beside_own, next_own, next_round, may_write_own, owner_written, still_ended}

-- what was worked out beforehand
pub planned_now : {s : Settings} {round n : ℕ} {items : List (List OwnWrite)} {writes : List OwnWrite} {current : List Entry} → AreWritesOfAll s round items
    → n < s.nodes → current ≡ writes_before s n round → get_or items n [] ≡ writes → AreWritesOf s n round (length current) writes
planned_now {s = s} {round = round} {n = n} {items = items} {current = current} all below is at =
    subst (AreWritesOf s n round (length current)) at (subst (λ k. AreWritesOf s n round k (get_or items n [])) (sym (ap length is)) (all.each n below))

-- a node that has restarted
pub writes_now : {T K : Type 0} (table : T → Table) (kept : K → HistoriesView) (s : Settings) (round n : ℕ) (t₀ t : T) (h₀ h : K) (writes : List OwnWrite)
    → IsBeforeRound table kept s round n t₀ h₀ → LeavesOthers n (kept h₀) (kept h) → IsRestartedIn table kept s round n t h
    → AreWritesOf s n round (length (list_of_owner (kept h).lists n).current) writes → MayWriteNow table kept s round n t h writes
writes_now table kept s round n t₀ t h₀ h writes before others restarted made = record {
  node = before.node.node;
  one_each = others.others.count ∙ before.node.one_each;
  ended = still_ended others.beside before.ended;
  restarted = restarted;
  made = made;
}

module _
    {T K : Type 0} (table : T → Table) (kept : K → HistoriesView) (s : Settings) (round n : ℕ) (t : T) (h : K) (lent writes : List OwnWrite)
    (now : MayWriteNow table kept s round n t h writes) (same : lent ≡ writes) (few : length lent ≤ 8) where
  made : map (born_in round (generation_upto s n round)) lent ≡ own_writes s n round (length (list_of_owner (kept h).lists n).current)
  made = ap (map (born_in round (generation_upto s n round))) same ∙ now.made.value

  pub may_write_lent : (May : ℕ → ℕ → Entry → Type 0) → IsRoundOf May s round → MayWriteOwn May ((kept h).rounds + 1) lent (table t) (kept h)
  may_write_lent May of_run =
      let owner = now.restarted in
      let lists = (kept h).lists in
      subst (λ r. MayWriteOwn May r lent (table t) (kept h)) (sym (next_round of_run.first now.ended)) (record {
        owner = omega (arith, owner.table.node, now.one_each, now.node);
        as_many_keys = owner.table.keys ∙ sym now.ended.keys;
        proper = owner.proper;
        keys = subst (All (λ (w : OwnWrite). w.key < (table t).keys)) (sym same)
            (subst (λ keys. All (λ (w : OwnWrite). w.key < keys) writes) (sym owner.table.keys) now.made.keys);
        next = next_own s round n (table t) lists lent owner made;
        may = may_write_own s round n (table t) lists lent owner made May of_run.may_write now.node of_run.first of_run.within;
        fits = subst (λ m. length (list_of_owner lists m).current + length lent + 1 < 2 ^ 32) (sym owner.table.node)
            (omega (arith, owner.few, few, of_run.last));
        beside = beside_own s n _ _ _ _ (table t) lists owner;
        born = subst (λ m. AreBornBy round (written (list_of_owner lists m))) (sym owner.table.node)
            (born-later (round - 1) round (written (list_of_owner lists n)) (omega arith) owner.born);
      })

  pub lent_written : (t' : T) (h' : K) → 1 ≤ round → WritesIn table kept lent t t' h h'
      → IsOwnerIn table kept s round n t' h' × IsWritten table s round n t t'
  lent_written t' h' first is =
      owner_written s round n (table t) (table t') (kept h) (kept h') lent first few (next_round first now.ended) now.restarted is made
