use Rattle.simulation.proofs.apart.fn.play_apart.with_threads+FnOnce.call_once.Goals as goal

pub with_threads-requires-whole : goal.with_threads-requires-whole
with_threads-requires-whole g c κs w =
    let r = c.requires.1.1.1.1.1 in
    (w.0, (w.1.0, (w.1.1.0, (w.1.1.1.0, (w.1.1.1.1, (r.1.0, (r.1.1, (r.1.2, (r.1.3, (r.1.4, (r.1.5, (r.1.6, (r.1.7, r.0)))))))))))))
