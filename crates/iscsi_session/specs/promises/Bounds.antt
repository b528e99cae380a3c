-- How many effects an event may give.
use Rattle.std.specs.Prelude.{ℕ, ◌+◌, ◌*◌, length, is_some, count_by}
use Rattle.std.specs.List.{range_with_len}
use Rattle.iscsi_rules.specs.rules.Settings.{Setting}
use Rattle.iscsi_rules.specs.rules.Trace.{Trace, waiting, held, live}
use Rattle.iscsi_rules.specs.rules.Execution.{exp_of}

-- how many requests are held
abbrev pub held_count : Setting → Trace → ℕ
held_count o t = count_by (λ n. is_some (held t n)) (range_with_len (exp_of o t) o.window)

-- the most effects of the next event
abbrev pub effect_bound_of : Setting → Trace → ℕ
effect_bound_of o t = 12 * (held_count o t + length (waiting t) + 1) + 2 * length (live t)

-- what no bound is above: each place of the window may hold a request and each connection four functions that wait, and as many
-- commands are live as the window has places, and eight immediate ones of each connection
abbrev pub most_effects : Setting → ℕ
most_effects o = 12 * (o.window + 4 * length o.conns + 1) + 2 * (o.window + 8 * length o.conns)
