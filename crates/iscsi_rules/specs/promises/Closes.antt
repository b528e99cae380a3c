-- Close: nothing goes on in a session that is closed, nor on a connection that is (RFC 7143 section 11.14).
use Rattle.std.specs.Prelude.{◌≡◌, ℕ, ◌==◌, Bool, true, false, List, ◌∷◌, ◌++◌}
use Rattle.std.specs.List.{list_all, list_any}
use Rattle.iscsi_wire.specs.Fields.{connection_of}
use Rattle.iscsi_rules.specs.declared.effect.Effect.{Effect}
use Rattle.iscsi_rules.specs.declared.effect.Effect.TheVariants.{Deliver, Immediate, Wait, Send, CloseConn, CloseSession, Ignore}
use Rattle.iscsi_rules.specs.declared.event.Event.{Event}
use Rattle.iscsi_rules.specs.declared.entry.Entry.{Entry}
use Rattle.iscsi_rules.specs.rules.Settings.{Setting}
use Rattle.iscsi_rules.specs.rules.Trace.{Mark, Trace}
use Rattle.iscsi_rules.specs.rules.Run.{trace_of, effects_of_item}
use Rattle.iscsi_rules.specs.promises.Enabling.{effects_so_far, effects_in}

abbrev pub is_session_close : Effect → Bool
is_session_close CloseSession = true
is_session_close _ = false

abbrev pub is_close_of : ℕ → Effect → Bool
is_close_of conn (CloseConn c) = c == conn
is_close_of conn _ = false

-- an event is passed over
abbrev pub is_ignored : Effect → Bool
is_ignored (Ignore why) = true
is_ignored _ = false

-- a request of the connection executes or waits, or a reply goes out on it
abbrev pub is_on : ℕ → Effect → Bool
is_on conn (Deliver r) = connection_of r == conn
is_on conn (Immediate r) = connection_of r == conn
is_on conn (Wait r) = connection_of r == conn
is_on conn (Send c stat_sn reply) = c == conn
is_on conn _ = false

pub record ClosesHold (o : Setting) (t : Trace) : Type 0 where
  -- in each item after the one that closes the session events are passed over, and nothing else happens
  pub session : (later before : Trace) (item : List Mark) → later ++ item ∷ before ≡ t → list_any is_session_close (effects_so_far o before) ≡ true
      → list_all is_ignored (effects_of_item o before item) ≡ true
  -- in each item after the one that closes a connection nothing happens on it
  pub conns : (conn : ℕ) (later before : Trace) (item : List Mark) → later ++ item ∷ before ≡ t → list_any (is_close_of conn) (effects_so_far o before) ≡ true
      → list_any (is_on conn) (effects_of_item o before item) ≡ false

pub record ClosesHoldIn (o : Setting) (h : List Event) (log : List Entry) : Type 0 where
  -- the log has the effects of all items, one after the other
  pub whole : effects_in log ≡ effects_so_far o (trace_of o h)
  pub hold : ClosesHold o (trace_of o h)
