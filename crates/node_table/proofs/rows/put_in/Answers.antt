use Rattle.node_table.proofs.Common.{◌≡◌, ◌-◌, ◌<◌, ◌≤◌, ℕ, List, ◌++◌, [], ◌∷◌, All, length, get_or, take, sym, ap, ◌∙◌, subst, arith, length-take-le, length-set, get_or-take, take_more_set, Entry}
use Rattle.node_table.specs.inner.Layouts.{IsPut, IsRow}
use Rattle.node_table.proofs.InRow.{no_entry}
use Rattle.node_table.proofs.Newest.{lower_from_last, put_newest, newest_fits}
use Rattle.node_table.proofs.rows.put_in.Goals as goal

-- an entry that is newer than the last of a row is newer than each
newest : (block : List Entry) (len version : ℕ) → len ≤ length block → IsRow (length block) (take len block) → 0 < len → (get_or block (len - 1) no_entry).version < version → All (λ (e : Entry). e.version < version) (take len block)
newest block len version within row some newer =
    let front : length (take len block) ≡ len = length-take-le len block within in
    let last : get_or (take len block) (length (take len block) - 1) no_entry ≡ get_or block (len - 1) no_entry =
    ap (λ n. get_or (take len block) (n - 1) no_entry) front ∙ get_or-take len block (len - 1) no_entry (omega arith) in
    lower_from_last (length block) (take len block) version no_entry row (omega (arith, ap (λ (e : Entry). e.version) last, newer))

pub bounds-block-kept : goal.bounds-block-kept
bounds-block-kept c =
    let newer = newest c.args.block.now c.args.len c.args.entry.version c.requires.row.within c.requires.row.row (omega (arith, c.if-len-gt0.true)) c.if-block-len.true in
    let fits = newest_fits _ _ c.args.entry c.requires.row.row newer c.requires.entry.key c.requires.entry.written in
    let kept = length-take-le c.keep_others-kept.result c.keep_others-kept.new.block (omega (arith, c.keep_others-kept.ensures.few, c.keep_others-kept.ensures.len, c.requires.row.within)) in
    omega (arith, fits, kept, ap length c.keep_others-kept.ensures.kept, c.keep_others-kept.ensures.len)

pub returns-then-block-len : goal.returns-then-block-len
returns-then-block-len c =
    let newer = newest c.args.block.now c.args.len c.args.entry.version c.requires.row.within c.requires.row.row (omega (arith, c.if-len-gt0.true)) c.if-block-len.true in
    let fits = newest_fits _ _ c.args.entry c.requires.row.row newer c.requires.entry.key c.requires.entry.written in
    let kept = length-take-le c.keep_others-kept.result c.keep_others-kept.new.block (omega (arith, c.keep_others-kept.ensures.few, c.keep_others-kept.ensures.len, c.requires.row.within)) in
    let as_long = length-set c.keep_others-kept.new.block c.keep_others-kept.result c.args.entry in
    let done = take_more_set c.keep_others-kept.new.block c.keep_others-kept.result c.args.entry (omega (arith, fits, kept, ap length c.keep_others-kept.ensures.kept, c.keep_others-kept.ensures.len))
    ∙ ap (λ xs. xs ++ c.args.entry ∷ []) c.keep_others-kept.ensures.kept in
    record {
      as_long = as_long ∙ c.keep_others-kept.ensures.len;
      within = omega (arith, fits, kept, ap length c.keep_others-kept.ensures.kept, c.keep_others-kept.ensures.len, as_long);
      put = subst (IsPut (length c.args.block.now) c.args.entry (take c.args.len c.args.block.now)) (sym done)
          (put_newest _ _ c.args.entry c.requires.row.row newer c.requires.entry.key c.requires.entry.written);
    }
