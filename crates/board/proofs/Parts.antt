-- What a claim, a move of tables, a finish and a release make of the parts of the rule. Here the lists of all seats stand
-- as counts by index.
-- Serves most of the crate.
use Rattle.board.proofs.Common.{◌≡◌, ◌≢◌, ℕ, zero, suc, ◌+◌, ◌<◌, ◌≤◌, ◌⊎◌, true, false, List, length, None, Some, inl, inr, sym, ap, ◌∙◌, subst, arith, cases_Bool, cases_eq, cases_lt, false≢true, some, get_elem?, Exchange, takes_part, share_node, predecessors, pending_of, share_from, table_still, Table}
use Rattle.board.specs.Weights.{only, times}
use Rattle.board.specs.Plan.{BoardPlan, table_at}
use Rattle.board.specs.inner.Plays.{successor_list}
use Rattle.board.specs.Rule.{IsInOrder, TAKEN, exchange_word, CountsPredecessors, NamesFreed, Home, HasTable, AreFinishedBelow, NoneIsClaimedFrom, HasTables}
use Rattle.board.proofs.Sums.{only-same, only-other, total_sum, total_same}
use Rattle.board.proofs.Releases.{releases_meet, predecessor_shares}

-- a node's table stays where no exchange of it stands
pub table_quiet : (plan : BoardPlan) (node i k : ℕ) → i ≤ k → k ≤ length plan.list.exchanges → ((j : ℕ) → i ≤ j → j < k → takes_part plan.list.exchanges node j ≡ false) → table_at plan node k ≡ table_at plan node i
table_quiet plan node i zero from within none = let same : zero ≡ i = omega (arith, from) in ap (table_at plan node) same
table_quiet plan node i (suc k) from within none = elim (cases_eq i (suc k)) [
  | inl same ↦ ap (table_at plan node) (sym same)
  | inr other ↦
      let next : suc k ≡ k + 1 = omega arith in
      ap (table_at plan node) next
      ∙ table_still plan.rules plan.tables plan.list.exchanges node k (omega (arith, within)) (none k (omega (arith, from, other)) (omega arith))
      ∙ table_quiet plan node i k (omega (arith, from, other)) (omega (arith, within)) (λ j after less. none j after (omega (arith, less)))
]

module _ (es : List Exchange) (made running made' running' : ℕ → ℕ) (order : IsInOrder es made running) where
  -- two that run share no node
  pub apart : (i k node : ℕ) → i ≢ k → 0 < running i → 0 < running k → takes_part es node i ≡ true → takes_part es node k ≡ true → ⊥
  apart i k node other runs_i runs_k part_i part_k = elim (cases_lt i k) [
    | inl less ↦ omega (arith, order.free k i (omega (arith, runs_k)) less (share_from es node k i part_k part_i), order.once i, runs_i)
    | inr more ↦ omega (arith, order.free i k (omega (arith, runs_i)) (omega (arith, more, other)) (share_from es node i k part_i part_k), order.once k, runs_k)
  ]

  -- finished ones are no fewer, and as many are claimed
  pub order_kept : ((i : ℕ) → made i ≤ made' i) → ((i : ℕ) → made' i + running' i ≡ made i + running i) → IsInOrder es made' running'
  order_kept more same = record {
    within = λ i past. same i ∙ order.within i past;
    once = λ i. omega (arith, same i, order.once i);
    free = λ i j claimed less shared. omega (arith, order.free i j (omega (arith, same i, claimed)) less shared, more j, same j, order.once j);
  }

  pub order_claimed : (k : ℕ) → ((i : ℕ) → made' i ≡ made i) → ((i : ℕ) → running' i ≡ running i + only k i) → k < length es → made k + running k ≡ 0 → ((j : ℕ) → j < k → share_node es k j ≡ true → made j ≡ 1) → IsInOrder es made' running'
  order_claimed k same more within fresh earlier = record {
    within = λ i past. omega (arith, same i, more i, order.within i past, only-other k i (λ e. omega (arith, e, past, within)));
    once = λ i. elim (cases_eq i k) [
      | inl here ↦ subst (λ n. made' n + running' n ≤ 1) (sym here) (omega (arith, same k, more k, fresh, only-same k))
      | inr other ↦ omega (arith, same i, more i, only-other k i other, order.once i)
    ];
    free = λ i j claimed less shared. same j ∙ elim (cases_eq i k) [
      | inl here ↦ earlier j (omega (arith, less, here)) (subst (λ n. share_node es n j ≡ true) here shared)
      | inr other ↦ order.free i j (omega (arith, same i, more i, only-other k i other, claimed)) less shared
    ];
  }

  module _ (owed owed' : ℕ → ℕ) (words words' : List ℕ) (counts : CountsPredecessors es made running owed words) where
    -- nothing that the words count has changed
    pub words_kept : length words' ≡ length words → ((i : ℕ) → exchange_word words' i ≡ exchange_word words i) → ((i : ℕ) → made' i ≡ made i) → ((i : ℕ) → running' i ≡ running i) → ((i : ℕ) → owed' i ≡ owed i) → CountsPredecessors es made' running' owed' words'
    words_kept long word same runs owes = record {
      size = long ∙ counts.size;
      taken = λ i claimed. let was = counts.taken i (omega (arith, same i, runs i, claimed)) in (word i ∙ was.0, owes i ∙ was.1);
      waits = λ i within waiting. omega (arith, word i, owes i, total_same made' made (predecessors es i) same, counts.waits i within (omega (arith, same i, runs i, waiting)));
      bounded = λ i within waiting. omega (arith, word i, counts.bounded i within (omega (arith, same i, runs i, waiting)));
    }

    pub words_claimed : (k : ℕ) → length words' ≡ length words → ((i : ℕ) → i ≢ k → exchange_word words' i ≡ exchange_word words i) → exchange_word words' k ≡ TAKEN → ((i : ℕ) → made' i ≡ made i) → ((i : ℕ) → running' i ≡ running i + only k i)
        → ((i : ℕ) → owed' i ≡ owed i) → owed k ≡ 0 → CountsPredecessors es made' running' owed' words'
    words_claimed k long word here same more owes none = record {
      size = long ∙ counts.size;
      taken = λ i claimed. elim (cases_eq i k) [
        | inl at ↦ subst (λ n. (exchange_word words' n ≡ TAKEN) × (owed' n ≡ 0)) (sym at) (here, owes k ∙ none)
        | inr other ↦ let was = counts.taken i (omega (arith, same i, more i, only-other k i other, claimed)) in (word i other ∙ was.0, owes i ∙ was.1)
      ];
      waits = λ i within waiting. let other : i ≢ k = λ at. omega (arith, more i, waiting, ap (only k) at, only-same k) in
          omega (arith, word i other, owes i, total_same made' made (predecessors es i) same, counts.waits i within (omega (arith, same i, more i, waiting)));
      bounded = λ i within waiting. let other : i ≢ k = λ at. omega (arith, more i, waiting, ap (only k) at, only-same k) in
          omega (arith, word i other, counts.bounded i within (omega (arith, same i, more i, waiting)));
    }

    pub words_finished : (k : ℕ) → length words' ≡ length words → ((i : ℕ) → exchange_word words' i ≡ exchange_word words i) → ((i : ℕ) → made' i ≡ made i + only k i) → ((i : ℕ) → made' i + running' i ≡ made i + running i)
        → ((i : ℕ) → owed' i ≡ owed i + times i (successor_list es k)) → 0 < running k → k < length es → CountsPredecessors es made' running' owed' words'
    words_finished k long word more same owes runs in_list = record {
      size = long ∙ counts.size;
      taken = λ i claimed.
          let was_claimed : 0 < made i + running i = omega (arith, same i, claimed) in
          let was = counts.taken i was_claimed in (
            word i ∙ was.0,
            elim (cases_lt 0 (times i (successor_list es k))) [
              | inr none ↦ omega (arith, owes i, was.1, none)
              | inl some_owed ↦ elim (cases_lt i (length es)) [
                | inl in_i ↦ absurd (
                    let t = predecessor_shares es k i (omega (arith, releases_meet es k i in_i, some_owed)) in
                    omega (arith, order.free i k was_claimed t.0 t.1, order.once k, runs)
                    )
                | inr past ↦ absurd (omega (arith, order.within i past, was_claimed))
              ]
            ],
          );
      waits = λ i within waiting. omega (
        arith,
        word i,
        owes i,
        releases_meet es k i within,
        total_sum made (only k) made' (predecessors es i) more,
        counts.waits i within (omega (arith, same i, waiting)),
      );
      bounded = λ i within waiting. omega (arith, word i, counts.bounded i within (omega (arith, same i, waiting)));
    }

    pub words_released : (k : ℕ) → length words' ≡ length words → ((i : ℕ) → i ≢ k → exchange_word words' i ≡ exchange_word words i) → exchange_word words' k + 1 ≡ exchange_word words k → ((i : ℕ) → made' i ≡ made i) → ((i : ℕ) → running' i ≡ running i)
        → ((i : ℕ) → owed' i + only k i ≡ owed i) → CountsPredecessors es made' running' owed' words'
    words_released k long word here same runs owes = record {
      size = long ∙ counts.size;
      taken = λ i claimed.
          let was = counts.taken i (omega (arith, same i, runs i, claimed)) in
          let other : i ≢ k = λ at. omega (arith, owes i, was.1, ap (only k) at, only-same k) in
          (word i other ∙ was.0, omega (arith, owes i, was.1));
      waits = λ i within waiting. let was = counts.waits i within (omega (arith, same i, runs i, waiting)) in let sums = total_same made' made (predecessors es i) same in elim (cases_eq i k) [
        | inl at ↦ omega (arith, ap (exchange_word words') at, ap (exchange_word words) at, here, ap (only k) at, only-same k, owes i, sums, was)
        | inr other ↦ omega (arith, word i other, only-other k i other, owes i, sums, was)
      ];
      bounded = λ i within waiting. let was = counts.bounded i within (omega (arith, same i, runs i, waiting)) in elim (cases_eq i k) [
        | inl at ↦ omega (arith, ap (exchange_word words') at, ap (exchange_word words) at, here, was)
        | inr other ↦ omega (arith, word i other, was)
      ];
    }

module _ (es : List Exchange) (freed freed' : ℕ → ℕ) (words words' : List ℕ) (names : NamesFreed es freed words) where
  -- a word stays, or an exchange that was ready is claimed
  pub freed_kept : ((i : ℕ) → freed' i ≡ freed i) → ((i : ℕ) → (exchange_word words' i ≡ exchange_word words i) ⊎ ((exchange_word words i ≡ 0) × (exchange_word words' i ≡ TAKEN))) → NamesFreed es freed' words'
  freed_kept same word = record {
    ready = λ i within waits is. same i ∙ names.ready i within waits (elim (word i) [
      | inl as_it_was ↦ elim is [
        | inl none ↦ inl (sym as_it_was ∙ none)
        | inr taken ↦ inr (sym as_it_was ∙ taken)
      ]
      | inr claimed ↦ inl claimed.0
    ]);
    waiting = λ i within low high. same i ∙ elim (word i) [
      | inl as_it_was ↦ names.waiting i within (omega (arith, as_it_was, low)) (omega (arith, as_it_was, high))
      | inr claimed ↦ absurd (omega (arith, claimed.1, high))
    ];
    first = λ i is. same i ∙ names.first i is;
  }

  -- a release that isn't the last
  pub freed_waits : (k : ℕ) → ((i : ℕ) → freed' i ≡ freed i) → ((i : ℕ) → i ≢ k → exchange_word words' i ≡ exchange_word words i) → exchange_word words' k + 1 ≡ exchange_word words k → 0 < exchange_word words' k → exchange_word words k < TAKEN → k < length es → NamesFreed es freed' words'
  freed_waits k same word here some_left few in_list = record {
    ready = λ i within waits is. elim (cases_eq i k) [
      | inl at ↦ elim is [
        | inl none ↦ absurd (omega (arith, ap (exchange_word words') at, none, some_left))
        | inr taken ↦ absurd (omega (arith, ap (exchange_word words') at, taken, here, few))
      ]
      | inr other ↦ same i ∙ names.ready i within waits (elim is [
        | inl none ↦ inl (sym (word i other) ∙ none)
        | inr taken ↦ inr (sym (word i other) ∙ taken)
      ])
    ];
    waiting = λ i within low high. same i ∙ elim (cases_eq i k) [
      | inl at ↦ names.waiting i within (omega (arith, ap (exchange_word words) at, here, some_left)) (omega (arith, ap (exchange_word words) at, few))
      | inr other ↦ names.waiting i within (omega (arith, word i other, low)) (omega (arith, word i other, high))
    ];
    first = λ i is. same i ∙ names.first i is;
  }

  -- the last release
  pub freed_last : (k : ℕ) → ((i : ℕ) → freed' i ≡ freed i + only k i) → ((i : ℕ) → i ≢ k → exchange_word words' i ≡ exchange_word words i) → exchange_word words' k ≡ 0 → exchange_word words k ≡ 1 → k < length es → 0 < pending_of es k → NamesFreed es freed' words'
  freed_last k more word here was in_list waits_k = record {
    ready = λ i within waits is. elim (cases_eq i k) [
      | inl at ↦ omega (arith, more i, ap freed at, ap (only k) at, only-same k, names.waiting k in_list (omega (arith, was)) (omega (arith, was)))
      | inr other ↦ omega (
        arith,
        more i,
        only-other k i other,
        names.ready i within waits (elim is [
          | inl none ↦ inl (sym (word i other) ∙ none)
          | inr taken ↦ inr (sym (word i other) ∙ taken)
        ]),
      )
    ];
    waiting = λ i within low high. elim (cases_eq i k) [
      | inl at ↦ absurd (omega (arith, ap (exchange_word words') at, here, low))
      | inr other ↦ omega (arith, more i, only-other k i other, names.waiting i within (omega (arith, word i other, low)) (omega (arith, word i other, high)))
    ];
    first = λ i is. elim (cases_eq i k) [
      | inl at ↦ elim is [
        | inl past ↦ absurd (omega (arith, at, past, in_list))
        | inr none ↦ absurd (omega (arith, ap (pending_of es) at, none, waits_k))
      ]
      | inr other ↦ omega (arith, more i, only-other k i other, names.first i is)
    ];
  }

module _ (plan : BoardPlan) (made running held made' running' held' : ℕ → ℕ) (homes homes' : List Home) (order : IsInOrder plan.list.exchanges made running) (tables : HasTables plan made running held homes) (runs : (i : ℕ) → held i ≤ running i) where
  abbrev es : List Exchange
  es = plan.list.exchanges

  -- no table has moved
  pub tables_kept : ((i : ℕ) → made' i ≡ made i) → ((i : ℕ) → running' i ≡ running i) → ((i : ℕ) → held' i ≡ held i) → homes' ≡ homes → HasTables plan made' running' held' homes'
  tables_kept same as_running as_held still = record {
    size = ap length still ∙ tables.size;
    home = λ node k in_node in_k below none. subst (λ hs. HasTable hs node (table_at plan node k)) (sym still) (tables.home node k in_node in_k (λ j less part. sym (same j) ∙ below j less part) (λ j from part. omega (arith, same j, as_running j, none j from part)));
    away = λ i node holds part. ap (λ hs. get_elem? hs node) still ∙ tables.away i node (omega (arith, as_held i, holds)) part;
  }

  module _ (k : ℕ) (size : length homes' ≡ length homes) (others : (node : ℕ) → takes_part es node k ≡ false → get_elem? homes' node ≡ get_elem? homes node) where
    -- where k is claimed and not finished, no table of its nodes is looked for
    not_ends : (node m : ℕ) → made' k ≡ 0 → 0 < made' k + running' k → AreFinishedBelow es made' node m → NoneIsClaimedFrom es made' running' node m → takes_part es node k ≡ false
    not_ends node m unfinished claimed below none = elim (cases_Bool (takes_part es node k)) [
      | inr out ↦ out
      | inl part ↦ elim (cases_lt k m) [
        | inl less ↦ absurd (omega (arith, below k less part, unfinished))
        | inr from ↦ absurd (omega (arith, none k from part, claimed))
      ]
    ]

    other_home : (node m : ℕ) → node < plan.list.nodes → m ≤ length es → takes_part es node k ≡ false → AreFinishedBelow es made node m → NoneIsClaimedFrom es made running node m → HasTable homes' node (table_at plan node m)
    other_home node m in_node in_m out below none = others node out ∙ tables.home node m in_node in_m below none

    pub tables_claimed : ((i : ℕ) → made' i ≡ made i) → ((i : ℕ) → running' i ≡ running i + only k i) → ((i : ℕ) → held' i ≡ held i) → made k + running k ≡ 0 → ((j : ℕ) → j < k → share_node es k j ≡ true → made j ≡ 1) → HasTables plan made' running' held' homes'
    tables_claimed same more as_held fresh earlier = record {
      size = size ∙ tables.size;
      home = λ node m in_node in_m below none.
          other_home node m in_node in_m (not_ends node m (omega (arith, same k, fresh)) (omega (arith, more k, only-same k)) below none) (λ j less part. sym (same j) ∙ below j less part) (λ j from part. omega (arith, same j, more j, none j from part));
      away = λ i node holds part.
          let was_held : 0 < held i = omega (arith, as_held i, holds) in
          let out : takes_part es node k ≡ false = elim (cases_Bool (takes_part es node k)) [
            | inr none ↦ none
            | inl in_k ↦ elim (cases_eq i k) [
              | inl here ↦ absurd (omega (arith, was_held, runs i, ap running here, fresh))
              | inr other ↦ elim (cases_lt i k) [
                | inl less ↦ absurd (omega (arith, earlier i less (share_from es node k i in_k part), order.once i, runs i, was_held))
                | inr from ↦ absurd (omega (arith, order.free i k (omega (arith, runs i, was_held)) (omega (arith, from, other)) (share_from es node i k part in_k), fresh))
              ]
            ]
          ] in
          others node out ∙ tables.away i node was_held part;
    }

    module _ (unfinished : made k ≡ 0) (runs_k : 0 < running k) where
      out_of : (i node : ℕ) → i ≢ k → 0 < held i → takes_part es node i ≡ true → takes_part es node k ≡ false
      out_of i node other holds part = elim (cases_Bool (takes_part es node k)) [
        | inr none ↦ none
        | inl in_k ↦ absurd (apart es made running made running order i k node other (omega (arith, runs i, holds)) runs_k part in_k)
      ]

      pub tables_emptied : ((i : ℕ) → made' i ≡ made i) → ((i : ℕ) → running' i ≡ running i) → ((i : ℕ) → held' i ≡ held i + only k i) → ((node : ℕ) → takes_part es node k ≡ true → get_elem? homes' node ≡ some (some None)) → HasTables plan made' running' held' homes'
      tables_emptied same as_running more here = record {
        size = size ∙ tables.size;
        home = λ node m in_node in_m below none.
            other_home node m in_node in_m (not_ends node m (same k ∙ unfinished) (omega (arith, same k, as_running k, runs_k)) below none) (λ j less part. sym (same j) ∙ below j less part) (λ j from part. omega (arith, same j, as_running j, none j from part));
        away = λ i node holds part. elim (cases_eq i k) [
          | inl at ↦ here node (subst (λ n. takes_part es node n ≡ true) at part)
          | inr other ↦
              let was_held : 0 < held i = omega (arith, more i, only-other k i other, holds) in
              others node (out_of i node other was_held part) ∙ tables.away i node was_held part
        ];
      }

      pub tables_retaken : ((i : ℕ) → made' i ≡ made i) → ((i : ℕ) → running' i ≡ running i) → ((i : ℕ) → held' i + only k i ≡ held i) → HasTables plan made' running' held' homes'
      tables_retaken same as_running less_held = record {
        size = size ∙ tables.size;
        home = λ node m in_node in_m below none.
            other_home node m in_node in_m (not_ends node m (same k ∙ unfinished) (omega (arith, same k, as_running k, runs_k)) below none) (λ j less part. sym (same j) ∙ below j less part) (λ j from part. omega (arith, same j, as_running j, none j from part));
        away = λ i node holds part.
            let was_held : 0 < held i = omega (arith, less_held i, holds) in
            let other : i ≢ k = λ at. omega (arith, less_held i, ap (only k) at, only-same k, runs i, order.once i, holds) in
            others node (out_of i node other was_held part) ∙ tables.away i node was_held part;
      }

      pub tables_finished : ((i : ℕ) → made' i ≡ made i + only k i) → ((i : ℕ) → made' i + running' i ≡ made i + running i) → ((i : ℕ) → held' i ≡ held i) → held k ≡ 0
          → ((node : ℕ) → takes_part es node k ≡ true → HasTable homes' node (table_at plan node (k + 1))) → HasTables plan made' running' held' homes'
      tables_finished more same as_held none_held here = record {
        size = size ∙ tables.size;
        home = λ node m in_node in_m below none. elim (cases_Bool (takes_part es node k)) [
          | inl part ↦ elim (cases_lt k m) [
            | inr from ↦ absurd (omega (arith, none k from part, same k, runs_k))
            | inl less ↦
                here node part
                ∙ ap (λ (t : Table). some (some (Some t))) (sym (table_quiet plan node (k + 1) m (omega (arith, less)) in_m (λ j after before. elim (cases_Bool (takes_part es node j)) [
                  | inr out ↦ out
                  | inl in_j ↦
                      let made_j : made j ≡ 1 = omega (arith, below j before in_j, more j, only-other k j (λ e. omega (arith, e, after))) in
                      absurd (omega (arith, order.free j k (omega (arith, made_j)) (omega (arith, after)) (share_from es node j k in_j part), unfinished))
                ])))
          ]
          | inr out ↦ other_home node m in_node in_m out (λ j less part. omega (arith, below j less part, more j, only-other k j (λ e. false≢true (sym out ∙ subst (λ n. takes_part es node n ≡ true) e part)))) (λ j from part. omega (arith, same j, none j from part))
        ];
        away = λ i node holds part.
            let was_held : 0 < held i = omega (arith, as_held i, holds) in
            let other : i ≢ k = λ at. omega (arith, ap held at, none_held, was_held) in
            others node (out_of i node other was_held part) ∙ tables.away i node was_held part;
      }
