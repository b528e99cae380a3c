-- The response fence by what waits and what is under way on all open connections (RFC 7143 section 4.2.2.3).
use Rattle.std.specs.Prelude.{◌≡◌, ℕ, ◌==◌, ◌&&◌, ◌||◌, not, nat_lt, Bool, false, List, ◌∷◌, ◌++◌, filter, sum_by, count_by}
use Rattle.std.specs.List.{list_any}
use Rattle.iscsi_outbox_rules.specs.rules.Calls.{Opening}
use Rattle.iscsi_outbox_rules.specs.rules.Boxes.{Outgoing, Link, Box}
use Rattle.iscsi_outbox_rules.specs.rules.Words.{is_open, looks_for_arrival, unarrived, under_way}
use Rattle.iscsi_outbox_rules.specs.rules.Handing.{takes_handed, fenced_handed}

abbrev pub fenced_before : ℕ → Outgoing → Bool
fenced_before time out = out.fenced && nat_lt out.time time

abbrev pub takes_before : ℕ → Outgoing → Bool
takes_before time out = out.takes && nat_lt out.time time

-- something like this waits on one of these connections
abbrev pub any_waits : (Outgoing → Bool) → List Link → Bool
any_waits test links = list_any (λ (m : Link). list_any test m.queue) links

-- how many like this wait on these connections
abbrev pub count_waits : (Outgoing → Bool) → List Link → ℕ
count_waits test links = sum_by (λ (m : Link). count_by test m.queue) links

-- a fenced answer went out on one of them, and isn't known to have arrived
abbrev pub is_fence_out : List Link → Bool
is_fence_out links = list_any (λ (m : Link). list_any fenced_handed (unarrived m)) links

-- something that takes a StatSN is under way on a connection
abbrev pub is_busy_on : Opening → Link → Bool
is_busy_on o m = list_any takes_handed (under_way o m)

-- a PDU that takes a StatSN passes by these other connections
abbrev pub passes_by : Opening → List Link → Outgoing → Bool
passes_by o links out =
    not (any_waits (fenced_before out.time) links) && not (looks_for_arrival o && is_fence_out links)
    && (not out.fenced || (not (any_waits (takes_before out.time) links) && not (list_any (is_busy_on o) links)))

abbrev pub open_links : Box → List Link
open_links b = filter is_open b.links

-- it is one of these connections, and no other one has its CID
pub record Among (l : Link) (links : List Link) : Type 0 where
  pub before : List Link
  pub after : List Link
  pub whole : before ++ l ∷ after ≡ links
  pub apart_before : list_any (λ (m : Link). m.conn == l.conn) before ≡ false
  pub apart_after : list_any (λ (m : Link). m.conn == l.conn) after ≡ false
