-- The lines of the trace: its header names the columns, and each exchange of a round has one line, with its place
-- in the round's list, from 0, the two nodes, its fate, and what it sent and cut. Source: this project.
use Rattle.std.specs.Prelude.{ℕ, suc, List, [], ◌∷◌, ◌++◌, codes, decimal, map}
use Rattle.bench_types.specs.declared.exchanges.Exchange.{Exchange}
use Rattle.bench_types.specs.declared.exchanges.Fate.{Fate}
use Rattle.bench_types.specs.declared.exchanges.Fate.TheVariants.{Ok, Lost1, Lost2, Lost3}
use Rattle.bench_types.specs.declared.exchanges.Record.{Record}
use Rattle.report.specs.Line.{line_of}

unfoldable pub trace_header_line : List ℕ
trace_header_line = codes "round,index,initiator,responder,fate,digest1,digest2,back,forth,back_cut,forth_cut\n"

abbrev pub fate_name : Fate → List ℕ
fate_name Ok = codes "ok"
fate_name Lost1 = codes "lost1"
fate_name Lost2 = codes "lost2"
fate_name Lost3 = codes "lost3"

-- what stands before the fate
abbrev pub trace_ends : ℕ → ℕ → Exchange → List ℕ
trace_ends round index e = round ∷ index ∷ e.initiator ∷ e.responder ∷ []

-- what stands behind it
abbrev pub trace_counts : Record → List ℕ
trace_counts r = r.digest1 ∷ r.digest2 ∷ r.back ∷ r.forth ∷ r.back_cut ∷ r.forth_cut ∷ []

unfoldable pub trace_line : ℕ → ℕ → Exchange → Record → List ℕ
trace_line round index e r =
    line_of (map decimal (trace_ends round index e) ++ (fate_name r.fate ∷ map decimal (trace_counts r)))

-- the lines of these exchanges with their records, the first of which stands at this place of the round's list
abbrev pub trace_lines_from : ℕ → ℕ → List Exchange → List Record → List ℕ
trace_lines_from round index [] rs = []
trace_lines_from round index (e ∷ es) [] = []
trace_lines_from round index (e ∷ es) (r ∷ rs) = trace_line round index e r ++ trace_lines_from round (suc index) es rs

-- the lines of a round
abbrev pub trace_lines : ℕ → List Exchange → List Record → List ℕ
trace_lines round es rs = trace_lines_from round 0 es rs
