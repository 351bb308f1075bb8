use Rattle.node_table.proofs.Common.{◌≡◌, ◌+◌, ◌-◌, take, drop, refl, sym, ◌∙◌, subst, arith, rules, put_mid, take-take}
use Rattle.node_table.specs.inner.Layouts.{entries_in_row, IsPut}
use Rattle.node_table.proofs.Blocks.{take-block, take-outside, length-block}
use Rattle.node_table.proofs.Laid.{len-le-keys}
use Rattle.node_table.proofs.layouts.put_among.Goals as goal

pub put_in-len-requires-clause-row : goal.put_in-len-requires-clause-row
put_in-len-requires-clause-row c =
    let len = length-block c.args.row.start c.args.keys c.args.slots.now (c.requires.row.block c.requires.held) in
    let fits = len-le-keys c.args.keys c.args.slots.now c.args.row c.requires.row in
    let front = take-take c.args.row.len (c.args.row.start + c.args.keys - c.args.row.start) (drop c.args.row.start c.args.slots.now) (omega arith) in
    record { within = omega (arith, len, fits); row = rw (len, front) c.requires.row.row }

pub returns : goal.returns
returns c =
    let len = length-block c.args.row.start c.args.keys c.args.slots.now (c.requires.row.block c.requires.held) in
    let fits = len-le-keys c.args.keys c.args.slots.now c.args.row c.requires.row in
    let front = take-take c.args.row.len (c.args.row.start + c.args.keys - c.args.row.start) (drop c.args.row.start c.args.slots.now) (omega arith) in
    let now = take-block c.args.row.start (c.args.row.start + c.args.keys - c.args.row.start) c.put_in-len.result c.args.slots.now c.put_in-len.new.block (omega (arith, c.requires.row.within)) c.put_in-len.ensures.within in
    let put : IsPut c.args.keys c.args.entry (entries_in_row c.args.slots.now c.args.row) (take c.put_in-len.result c.put_in-len.new.block) = rw (len, front) at c.put_in-len.ensures.put in
    let keys_is : c.args.keys ≡ c.args.row.start + c.args.keys - c.args.row.start = omega arith in
    record {
      start = refl;
      within = omega (arith, len, c.put_in-len.ensures.within, c.put_in-len.ensures.as_long);
      put = subst (IsPut c.args.keys c.args.entry (entries_in_row c.args.slots.now c.args.row)) (sym now) put;
      as_long = search rules;
      others = λ r outside.
          subst (λ k. take r.len (drop r.start (put_mid c.args.row.start k c.args.slots.now c.put_in-len.new.block)) ≡ entries_in_row c.args.slots.now r) keys_is
          (take-outside c.args.row.start c.args.keys r.start r.len c.args.slots.now c.put_in-len.new.block (c.requires.row.block c.requires.held) (c.put_in-len.ensures.as_long ∙ len) outside);
    }
