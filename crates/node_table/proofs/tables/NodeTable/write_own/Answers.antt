use Rattle.node_table.proofs.Common.{◌≡◌, true, false, ◌+◌, ◌-◌, ◌/◌, ◌<◌, ◌≤◌, Result, Ok, Err, OnErr, sym, ap, ◌∙◌, subst, arith, vec_len, vec_capacity, IsOk, mul-le-mul_right, get_or_read, div-add-mod', greatest_version, taken, with_own_write}
use Rattle.node_table.specs.inner.Layouts.{table_laid}
use Rattle.node_table.proofs.Taking.{taken-own_write}
use Rattle.node_table.proofs.Room.{div-le-div}
use Rattle.node_table.proofs.tables.NodeTable.write_own.Goals as goal

-- a fact that holds whatever the result is
on_err : {T E : Type 0} (r : Result T E) (P : Type 0) → P → OnErr r P
on_err (Ok x) P p = tt
on_err (Err e) P p = p

pub returns-in_err-take-clause-keeps_room : goal.returns-in_err-take-clause-keeps_room
returns-in_err-take-clause-keeps_room c =
    let l = c.self.inside.layout in
    let keys : c.take.new.self.keys ≡ l.keys = ap (λ t. t.keys) c.in_err-take.ensures.err in
    let more = div-le-div (vec_capacity l.slots - vec_len l.slots) (vec_capacity c.take.new.self.slots - vec_len c.take.new.self.slots) l.keys (omega (arith, c.self.invariant.proper.some_key)) (omega (arith, c.in_err-take.ensures.keeps_slots, c.take.ensures.capacity)) in
    on_err c.from_residual.result _ (subst (λ n. c.args.self.now.room ≤ (vec_capacity c.take.new.self.slots - vec_len c.take.new.self.slots) / n) (sym keys) (omega (arith, more, ap (λ k. k.room) c.self.view_is)))

pub returns-in_err-take-clause-succeeds : goal.returns-in_err-take-clause-succeeds
returns-in_err-take-clause-succeeds c = λ some.
    let l = c.self.inside.layout in
    let one : 1 ≤ (vec_capacity l.slots - vec_len l.slots) / l.keys = omega (arith, some, ap (λ k. k.room) c.self.view_is) in
    let left : vec_len l.slots + l.keys ≤ vec_capacity l.slots = omega (arith, mul-le-mul_right l.keys one, div-add-mod' (vec_capacity l.slots - vec_len l.slots) l.keys, c.self.invariant.proper.some_key) in
    let contrary : false ≡ true = subst IsOk c.in_err-take.was (c.take.ensures.succeeds left) in
    cc

pub returns-clause-ok : goal.returns-clause-ok
returns-clause-ok c =
    let l = c.self.inside.layout in
    let version : c.index.result.now + 1 ≡ greatest_version (table_laid l) l.node + 1 =
    ap (λ n. n + 1) (get_or_read l.greatest.items l.node c.index.result.now (omega (arith, c.self.invariant.greatest.count, c.self.invariant.proper.node_below)) c.index.ensures 0 ∙ c.self.invariant.greatest.greatest l.node c.self.invariant.proper.node_below) in
    c.in_ok-take.ensures.ok
    ∙ ap (λ n. taken (table_laid l) (record { owner = l.node; entry = record { key = c.args.key; generation = l.generation; version = n; value = c.args.value; born = c.args.born } })) version
    ∙ taken-own_write (table_laid l) c.args.key c.args.value c.args.born c.self.invariant.proper (subst (λ k. c.args.key < k.table.keys) (sym c.self.view_is) c.requires.key)
    ∙ ap (λ k. with_own_write k.table c.args.key c.args.value c.args.born) c.self.view_is
