-- Delivery: the requests that a log delivers, against those received without a gap.
use Rattle.std.specs.Prelude.{ℕ, ◌-◌, List, [], ◌∷◌, Option, Some, None, option_map, if◌then◌else◌}
use Rattle.std.specs.List.{flat_map, filter_map, range_with_len}
use Rattle.iscsi_wire.specs.declared.request.Request.{Request}
use Rattle.iscsi_wire.specs.Serial.{number_of_first}
use Rattle.iscsi_rules.specs.declared.effect.Effect.{Effect}
use Rattle.iscsi_rules.specs.declared.effect.Effect.TheVariants.{Deliver}
use Rattle.iscsi_rules.specs.declared.event.Event.{Event}
use Rattle.iscsi_rules.specs.declared.entry.Entry.{Entry}
use Rattle.iscsi_rules.specs.rules.Settings.{Setting}
use Rattle.iscsi_rules.specs.rules.Trace.{Arrival, Mark, Delivers, Trace, admitted, is_emptied}
use Rattle.iscsi_rules.specs.rules.Execution.{exp_of}
use Rattle.iscsi_rules.specs.rules.Run.{trace_of}

-- the request that was admitted at a number, and not taken out
abbrev pub request_at : Trace → ℕ → Option Request
request_at t n = if is_emptied t n then None else option_map (λ (a : Arrival). a.request) (admitted t n)

-- those from the first CmdSN on, before n, in the order of their numbers
abbrev pub executed_below : Setting → Trace → ℕ → List Request
executed_below o t n = filter_map (request_at t) (range_with_len (number_of_first o.first) (n - number_of_first o.first))

-- the numbered requests from the first CmdSN on without a gap, in the order of their numbers, each once
abbrev pub executed : Setting → List Event → List Request
executed o h = let t = trace_of o h in executed_below o t (exp_of o t)

-- what a mark delivers
abbrev pub delivers : Mark → Option Request
delivers (Delivers a) = Some a.request
delivers _ = None

abbrev pub delivered_by : Effect → List Request
delivered_by (Deliver r) = r ∷ []
delivered_by _ = []

-- the requests of a log's deliveries, in order
abbrev pub delivered : List Entry → List Request
delivered log = flat_map (λ (e : Entry). flat_map delivered_by e.effects) log
