-- Which exchanges of a list share a node. An exchange is named by its place in the list, from 0.
-- Source: this project.
use Rattle.std.specs.Prelude.{ℕ, Bool, false, ◌==◌, ◌||◌, List, slice_index_or}
use Rattle.bench_types.specs.declared.exchanges.Exchange.{Exchange}

-- past the end of a list
abbrev pub no_exchange : Exchange
no_exchange = record { initiator = 0; responder = 0; lost1 = false; lost2 = false; lost3 = false; rotation = 0 }

abbrev pub exchange_at : List Exchange → ℕ → Exchange
exchange_at es i = slice_index_or es i no_exchange

-- whether a node takes part in an exchange
abbrev pub takes_part : List Exchange → ℕ → ℕ → Bool
takes_part es node i = (exchange_at es i).initiator == node || (exchange_at es i).responder == node

-- whether two exchanges share a node
abbrev pub share_node : List Exchange → ℕ → ℕ → Bool
share_node es i j = takes_part es (exchange_at es i).initiator j || takes_part es (exchange_at es i).responder j
