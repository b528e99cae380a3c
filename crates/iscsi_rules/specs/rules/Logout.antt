-- Logout, and the closing of connections and of the session (RFC 7143 sections 11.14 and 11.15).
use Rattle.std.specs.Prelude.{ℕ, ◌+◌, ◌-◌, ◌==◌, ◌&&◌, ◌||◌, not, Bool, true, List, [], ◌∷◌, ◌++◌, map, if◌then◌else◌, filter}
use Rattle.std.specs.List.{list_all, flat_map, range_with_len}
use Rattle.iscsi_wire.specs.Serial.{number_of_first}
use Rattle.iscsi_wire.specs.Fields.{connection_of}
use Rattle.iscsi_rules.specs.declared.deed.Answer.TheVariants.{LogOut}
use Rattle.iscsi_rules.specs.rules.Settings.{Setting, is_known}
use Rattle.iscsi_rules.specs.rules.Trace.{Arrival, Command, Mark, Empties, Leaves, ClosesConn, ClosesSession, Trace, held_among, live_in, is_closed}
use Rattle.iscsi_rules.specs.rules.Execution.{exp_of, reply_of, reply_on}

-- a connection of the session that isn't closed
abbrev pub is_open : Setting → Trace → ℕ → Bool
is_open o t conn = is_known conn o.conns && not (is_closed conn t)

-- all others are closed
abbrev pub is_last_open : Setting → Trace → ℕ → Bool
is_last_open o t conn = list_all (λ c. (c.0 == conn) || is_closed c.0 t) o.conns

-- the live commands, units ascending, oldest first
abbrev pub live_of_units : Setting → Trace → List Command
live_of_units o t = flat_map (λ unit. live_in unit t) (range_with_len 0 o.units)

-- the requests that are held, in the order of their numbers. In the agenda those are held too whose turn is still to come
abbrev pub all_held : Setting → Trace → List Arrival
all_held o t = held_among t (range_with_len (number_of_first o.first) (exp_of o t + o.window - number_of_first o.first))

-- the commands and the held requests of these connections are taken out. The functions of a connection that wait are dropped
-- when it is closed
abbrev pub taken_out : Setting → Trace → (ℕ → Bool) → List Mark
taken_out o t of_these =
    map Leaves (filter (λ (c : Command). of_these (connection_of c.arrival.request)) (live_of_units o t))
    ++ map Empties (filter (λ (a : Arrival). of_these (connection_of a.request)) (all_held o t))

abbrev pub parting : Arrival → ℕ → List Mark
parting a response = reply_on a (reply_of a.request (LogOut response))

-- the session is closed
abbrev pub end_session : Setting → Trace → Arrival → List Mark
end_session o t a = taken_out o t (λ conn. true) ++ parting a 0 ++ ClosesSession ∷ []

-- the connection is closed, and with the last one the session
abbrev pub close_conn : Setting → Trace → Arrival → ℕ → List Mark
close_conn o t a closing =
    taken_out o t (λ conn. conn == closing) ++ parting a 0
    ++ ClosesConn closing ∷ (if is_last_open o t closing then ClosesSession ∷ [] else [])
