use Rattle.simulation.proofs.sims.Sim.new.Goals as goal

pub of-requires-after_bounds : goal.of-requires-after_bounds
of-requires-after_bounds g c _ _ owner number e _ _ =
    (g.met.K.TakesAll g.world.𝓛 g.world.𝓜 g.world.𝓡 ((λ s x. x), (λ x. x), (λ x. x), λ x. x)).takes_all owner number e
