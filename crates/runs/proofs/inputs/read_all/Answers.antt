use Rattle.std.proofs.lemmas.Grind.{common_steps}
use Rattle.runs.proofs.Common.{arith, ◌≡◌, ◌≤◌, ◌<◌, ◌+◌, length, subst, length-take, OutOfMemory, MOST_BYTES}
use Rattle.runs.specs.Inputs.{Gave}
use Rattle.runs.proofs.InputFacts.{at_fault, ended, gave_more, gave_up_to, had_more, never_failed, pushed, was_sound}
use Rattle.runs.proofs.inputs.read_all.Goals as goal

pub returns-then-count-space-clause-fault : goal.returns-then-count-space-clause-fault
returns-then-count-space-clause-fault g c =
    let more = gave_more g.R.Source _ _ _ c.loop-count.text.items c.pull.new.buf c.in-Ok.count c.loop-count.invariant.given c.in-Ok.ensures.bytes
    c.in-Ok.ensures.bound in
    let room : length c.pull.new.buf ≤ c.min-room.result = rw (c.pull.auto.buf, length-take) (omega arith) in
    let all : length c.loop-count.text.items + c.in-Ok.count ≡ MOST_BYTES + 1 = omega (arith, c.loop-count.text.ok.0, c.in-Ok.ensures.bound) in
    let gave = subst (Gave g.R.Source _ _) all more in
    record {
      given = gave;
      longer = had_more _ _ gave.0 MOST_BYTES gave.1 gave.2;
      sound = c.in-Ok.ensures.fails;
      was_sound = was_sound g.R.Source _ _ c.loop-count.invariant.stays (λ failed. (c.in-Ok.ensures.stays failed).0);
    }

pub returns-in_err-extend_from_slice-clause-fault :
    goal.returns-in_err-extend_from_slice-clause-fault
returns-in_err-extend_from_slice-clause-fault g c =
    let more = gave_more g.R.Source _ _ _ c.loop-count.text.items c.pull.new.buf c.in-Ok.count c.loop-count.invariant.given c.in-Ok.ensures.bytes
    c.in-Ok.ensures.bound in
    let bound : length c.loop-count.text.items + c.in-Ok.count ≤ MOST_BYTES = omega (arith, c.loop-count.text.ok.0) in
    at_fault c.from_residual.result OutOfMemory _ c.from_residual.ensures.1
    (record {
      given = gave_up_to g.R.Source _ _ _ _ more bound;
      sound = c.in-Ok.ensures.fails;
      was_sound = was_sound g.R.Source _ _ c.loop-count.invariant.stays (λ failed. (c.in-Ok.ensures.stays failed).0);
    })

pub loop-count-preserved : goal.loop-count-preserved
loop-count-preserved g c =
    let more = pushed g.R.Source _ _ _ c.loop-count.text.items c.extend_from_slice.new.self.items c.pull.new.buf _ c.in-Ok.count
    c.loop-count.invariant.given c.in-Ok.ensures.bytes c.in-Ok.ensures.bound c.in_ok-extend_from_slice.ensures.items in
    record {
      given = more.0;
      within = omega (arith, more.1, c.if-count-space.false, c.len-space.ensures, c.loop-count.text.ok.0, c.loop-count.invariant.within);
      stays = λ failed. absurd (never_failed g.R.Source _ _ c.loop-count.invariant.stays (λ failed. (c.in-Ok.ensures.stays failed).0) failed);
    }

pub loop-count-smaller : goal.loop-count-smaller
loop-count-smaller g c =
    let more = pushed g.R.Source _ _ _ c.loop-count.text.items c.extend_from_slice.new.self.items c.pull.new.buf _ c.in-Ok.count
    c.loop-count.invariant.given c.in-Ok.ensures.bytes c.in-Ok.ensures.bound c.in_ok-extend_from_slice.ensures.items in
    omega (arith, more.1, c.if-count-eq0.false, c.if-count-space.false, c.len-space.ensures, c.loop-count.text.ok.0, c.loop-count.invariant.within)

pub returns-then-count-eq0-clause-whole : goal.returns-then-count-eq0-clause-whole
returns-then-count-eq0-clause-whole g c =
    let some : 0 < length c.pull.new.buf = rw (c.pull.auto.buf, length-take) (omega (arith, c.min-room.ensures)) in
    let at_end = c.in-Ok.ensures.end c.if-count-eq0.true some in
    let all = ended g.R.Source _ _ _ c.loop-count.text.items c.pull.new.buf c.in-Ok.count c.loop-count.invariant.given c.in-Ok.ensures.bytes
    c.if-count-eq0.true at_end in
    record {
      given = all.0;
      end = at_end;
      all = all.1;
      within = c.loop-count.invariant.within;
      sound = c.in-Ok.ensures.fails;
      was_sound = was_sound g.R.Source _ _ c.loop-count.invariant.stays (λ failed. (c.in-Ok.ensures.stays failed).0);
    }

pub slice_bounds-extend_from_slice-end : goal.slice_bounds-extend_from_slice-end
slice_bounds-extend_from_slice-end g c = grind (arith, common_steps)

pub slice_bounds-chunk-end-in-loop-count : goal.slice_bounds-chunk-end-in-loop-count
slice_bounds-chunk-end-in-loop-count g c = grind (arith, common_steps)
