-- What a round leaves is what the definitions say.
-- Serves `Exchanged`.
use Rattle.played_rounds.proofs.Common.{◌≡◌, ℕ, ◌<◌, ◌≤◌, List, [], length, map, get_or, sym, ◌∙◌, arith, suc, ◌+◌, ◌-◌, refl, ap, ext_get_or, get_or-map-range_with_len, length-map-range_with_len, Table, Settings, OwnerListView, no_writes, lists_in, write_of_entry, length-lists_in, list_read, figures_of, Folded, Record}
use Rattle.cluster.specs.Rounds.{tables_after, round_of}
use Rattle.played_rounds.specs.Lists.{list_after, lists_after}
use Rattle.played_rounds.specs.Outcomes.{figures_in}
use Rattle.cluster.specs.calls.Standing.{StandAfterRound}

-- the lists and the figures are those of the definition
lists_are : (s : Settings) (round : ℕ) (ts : List Table) (lists : List OwnerListView) → StandAfterRound s round ts lists → lists_in lists ≡ lists_after s round
lists_are s round ts lists standing =
    ext_get_or [] (lists_in lists) (lists_after s round) (length-lists_in lists ∙ standing.list_count ∙ sym there) at_each
  where
    there : length (lists_after s round) ≡ s.nodes
    there = length-map-range_with_len (list_after s round) 0 s.nodes

    at_each : (n : ℕ) → n < length (lists_in lists) → get_or (lists_in lists) n [] ≡ get_or (lists_after s round) n []
    at_each n lt =
        let below : n < s.nodes = omega (arith, lt, length-lists_in lists, standing.list_count) in
        list_read lists n no_writes [] (omega (arith, lt, length-lists_in lists)) ∙ ap (map write_of_entry) (standing.owners n below).writes ∙ sym
        (get_or-map-range_with_len (list_after s round) 0 s.nodes n n [] below (omega arith))

pub figures_are : (s : Settings) (round : ℕ) (ts : List Table) (lists : List OwnerListView) → StandAfterRound s round ts lists → ts ≡ tables_after s round
    → figures_of round ts (lists_in lists) ≡ figures_in s round
figures_are s round ts lists standing is = λ i. figures_of round (is i) (lists_are s round ts lists standing i)

unfolded : (s : Settings) (done : ℕ) → tables_after s (suc done) ≡ (round_of s (suc done) (tables_after s done)).tables
unfolding tables_after
unfolded s done = refl

pub tables_after-more : (s : Settings) (done : ℕ) → tables_after s (done + 1) ≡ (round_of s (done + 1) (tables_after s done)).tables
tables_after-more s done =
    let next : done + 1 ≡ suc done = omega arith in
    ap (tables_after s) next ∙ unfolded s done ∙ ap (λ n. (round_of s n (tables_after s done)).tables) (sym next)

-- the tables that a round leaves
pub left_after : (s : Settings) (round : ℕ) (new : List Table) (records : List Record) → 1 ≤ round
    → round_of s round (tables_after s (round - 1)) ≡ record { tables = new; records = records } → new ≡ tables_after s round
left_after s round new records first round_was =
    let next : round - 1 + 1 ≡ round = omega (arith, first) in
    sym (ap (λ (f : Folded). f.tables) round_was)
    ∙ (λ i. (round_of s (sym next i) (tables_after s (round - 1))).tables)
    ∙ sym (tables_after-more s (round - 1))
    ∙ ap (tables_after s) next
