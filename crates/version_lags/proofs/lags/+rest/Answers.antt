use Rattle.version_lags.proofs.Common.{◌+◌, ◌*◌, ◌-◌, ◌≤◌, length, arith, rules}
use Rattle.version_lags.proofs.lags.+rest.Goals as goal

pub join-first-requires-after_bounds : goal.join-first-requires-after_bounds
join-first-requires-after_bounds g t c _ _ =
    let within : c.args.from + c.args.size ≤ length c.args.numbers.now.lists.now = omega arith in (
      (c.requires.0, record { rises = omega arith; within = within }),
      (omega (arith, c.decreases), ((λ a m. m), ((λ a m. m), ((c.requires.0, c.requires.1, within), search rules)))),
    )

pub fn::rest_from::others+FnOnce::call_once-others-requires : goal.fn::rest_from::others+FnOnce::call_once-others-requires
fn::rest_from::others+FnOnce::call_once-others-requires g t c _ b = (omega (arith, c.decreases), (b.0, (b.1, search rules)))
