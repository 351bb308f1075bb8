-- Laws of the sending orders, and of what a budget lets through in them.
-- Serves the functions of `laws`, `ExchangeLaws`, `Received`, `StateDeltas`, `delta_plans`, `run_laws` and
-- `version_tables`.
use Rattle.model.proofs.Common.{◌≡◌, ℕ, ◌<◌, ◌≤◌, Bool, not, ◌&&◌, eqb, List, length, get_or, inl, inr, sym, ap, ◌∙◌, arith, count_by, Equal, IsTotalOrder, cases_lt, get_or_default, All-filter, IsPermutation-refl, Budget, amount_of, Item, Mode, mark_of, is_before, digest_kind}
use Rattle.std.specs.Prelude.{Contains}
use Rattle.model.specs.Table.{Table, items_of, IsProper}
use Rattle.model.proofs.Proper.{items_sound}
use Rattle.model.specs.Candidates.{IsScuttleMode, known_mark, candidates}
use Rattle.model.specs.Order.{sending_order}
use Rattle.model.specs.Deltas.{item_share, delta_of}
use Rattle.model.specs.calls.DeltaLaws.{AreWithin}
use Rattle.model.specs.Picks.{fits}
use Rattle.model.specs.inner.Items.{no_item}
use Rattle.model.proofs.Levels.{sending_total, sending_apart, sending_order-ascending}
use Rattle.model.proofs.Places.{Contains-first_places, before_count-lt, before_count-places, cut_count-none, uncut-Contains, first_places-before}
use Rattle.model.proofs.Sending.{owners_below}

-- each mode's order is total
pub sending_order-total : (mode : Mode) (nodes rotation : ℕ) (cs : List Item) → IsTotalOrder (sending_order mode nodes rotation cs)
sending_order-total mode nodes rotation cs = sending_total nodes rotation cs mode

-- and strict: of the candidates of a proper table each ties with itself alone
pub sending_order-strict : (mode : Mode) (from to : Table) (rotation : ℕ) → IsProper from → rotation < from.nodes → (c d : Item) → Contains (candidates mode from to) c → Contains (candidates mode from to) d → sending_order mode from.nodes rotation (candidates mode from to) c d ≡ Equal → c ≡ d
sending_order-strict mode from to rotation proper in_nodes c d (j, in_j, is_c) (k, in_k, is_d) e =
    let q : Item → Bool = λ i. not (eqb i.owner to.node) && is_before (known_mark (digest_kind mode) to i) (mark_of i.entry) in
    let cs = candidates mode from to in
    let at_j = get_or_default cs j no_item c in_j ∙ is_c in
    let at_k = get_or_default cs k no_item d in_k ∙ is_d in
    let same = sending_apart mode q (items_of from) cs from.nodes rotation (items_sound from proper).rising (All-filter q (λ (i : Item). i.owner < from.nodes) (items_of from) (owners_below from proper)) in_nodes (IsPermutation-refl cs) j k in_j in_k
    ((λ i. sending_order mode from.nodes rotation cs (at_j i) (at_k i)) ∙ e) in
    sym at_j ∙ ap (λ n. get_or cs n no_item) same ∙ at_k

module _ (mode : Mode) (from to : Table) (rotation : ℕ) (budget : Budget) where
  -- what is sent under the budget
  abbrev pub sent_items : List Item
  sent_items = (delta_of mode from.nodes rotation budget (candidates mode from to)).items

  -- how many places there are in what is sent
  abbrev sent_places : ℕ
  sent_places = count_by (fits (sending_order mode from.nodes rotation (candidates mode from to)) (candidates mode from to) (item_share budget) (amount_of budget)) (candidates mode from to)

  -- what is sent is a candidate
  pub sent-candidate : (c : Item) → Contains sent_items c → Contains (candidates mode from to) c
  sent-candidate c there = (Contains-first_places (sending_order mode from.nodes rotation (candidates mode from to)) (sending_total from.nodes rotation (candidates mode from to) mode) (candidates mode from to) sent_places c there).0

  -- in a scuttle mode what is sent of one owner ascends in version
  pub sent-ascending : IsScuttleMode mode → (j k : ℕ) (d : Item) → j < k → k < length sent_items → (get_or sent_items j d).owner ≡ (get_or sent_items k d).owner → (get_or sent_items j d).entry.version ≤ (get_or sent_items k d).entry.version
  sent-ascending is j k d lt in_range owners =
      let cs = candidates mode from to in
      let order = sending_order mode from.nodes rotation cs in
      let total = sending_total from.nodes rotation cs mode in
      let x = get_or sent_items j d in
      let y = get_or sent_items k d in
      elim (cases_lt y.entry.version x.entry.version) [
        | inl falls ↦
            let stands = sent-candidate y (k, in_range, get_or_default sent_items k y d in_range) in
            absurd (omega (arith, before_count-places order total cs sent_places j k d lt in_range, before_count-lt order total cs y x stands (sending_order-ascending mode is from.nodes rotation cs y x stands (sym owners) falls)))
        | inr rises ↦ rises
      ]

  -- with none left out in between: with a candidate all older ones of its owner are sent
  pub sent-no_gap : IsScuttleMode mode → IsProper from → rotation < from.nodes → (c d : Item) → Contains (candidates mode from to) c → Contains sent_items d → c.owner ≡ d.owner → c.entry.version < d.entry.version → Contains sent_items c
  sent-no_gap is proper in_nodes c d stands there owners older =
      let cs = candidates mode from to in
      first_places-before (sending_order mode from.nodes rotation cs) (sending_total from.nodes rotation cs mode) cs (sending_order-strict mode from to rotation proper in_nodes) sent_places c d stands there
      (sending_order-ascending mode is from.nodes rotation cs c d stands owners older)

  -- in every mode a delta that cuts nothing sends each candidate
  pub sent-uncut : IsProper from → rotation < from.nodes → (delta_of mode from.nodes rotation budget (candidates mode from to)).cut ≡ 0 → (c : Item) → Contains (candidates mode from to) c → Contains sent_items c
  sent-uncut proper in_nodes none c stands =
      let cs = candidates mode from to in
      let order = sending_order mode from.nodes rotation cs in
      uncut-Contains order (sending_total from.nodes rotation cs mode) cs (sending_order-strict mode from to rotation proper in_nodes) (item_share budget) (amount_of budget) none c stands

  -- and a budget for all candidates cuts none
  pub cut-none : AreWithin budget (candidates mode from to) → (delta_of mode from.nodes rotation budget (candidates mode from to)).cut ≡ 0
  cut-none enough =
      cut_count-none (sending_order mode from.nodes rotation (candidates mode from to)) (sending_total from.nodes rotation (candidates mode from to) mode) (candidates mode from to) (item_share budget) (amount_of budget) enough
