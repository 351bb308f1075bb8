-- What a worker has put on its deque, and indices that are dealt to workers in turn. Source: this project.
use Rattle.std.specs.Prelude.{ℕ, ◌<◌, ◌%◌, List, [], length, get_or, Contains}
use Rattle.crossbeam_deque.specs.Handles.{worker_view}
use Rattle.work.specs.declared.tasks.Tasks.{Tasks}

abbrev pub pushed : Tasks → List ℕ
pushed tasks = (worker_view tasks.own).indices

-- of these indices the first few stand each in the pushes of the worker whose turn it is
abbrev pub AreDealt : List ℕ → List (List ℕ) → ℕ → Type 0
AreDealt indices pushes few =
    (place : ℕ) → place < few → Contains (get_or pushes (place % length pushes) []) (get_or indices place 0)
