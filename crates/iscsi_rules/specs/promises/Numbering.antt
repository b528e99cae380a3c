-- The numbering of replies (RFC 7143 section 4.2.2.2): the StatSN of each connection counts its replies.
use Rattle.std.specs.Prelude.{◌≡◌, ℕ, ◌+◌, ◌==◌, List, length, map, filter_map, Option, Some, None, if◌then◌else◌}
use Rattle.std.specs.List.{range_with_len}
use Rattle.iscsi_wire.specs.Serial.{wire}
use Rattle.iscsi_rules.specs.declared.effect.Effect.{Effect}
use Rattle.iscsi_rules.specs.declared.effect.Effect.TheVariants.{Send}
use Rattle.iscsi_rules.specs.declared.entry.Entry.{Entry}
use Rattle.iscsi_rules.specs.rules.Settings.{Setting}
use Rattle.iscsi_rules.specs.rules.Run.{first_stat_sn}
use Rattle.iscsi_rules.specs.promises.Enabling.{effects_in}

-- the StatSN of a reply on this connection
abbrev pub stat_sn_shown : ℕ → Effect → Option ℕ
stat_sn_shown conn (Send c stat_sn reply) = if c == conn then Some stat_sn else None
stat_sn_shown conn _ = None

-- those of all replies on it, in order
abbrev pub stat_sns_on : ℕ → List Effect → List ℕ
stat_sns_on conn es = filter_map (stat_sn_shown conn) es

-- on each connection, the k-th reply, from 0, shows the connection's first StatSN and k
abbrev pub CountsReplies : Setting → List Entry → Type 0
CountsReplies o log = (conn : ℕ) → let sns = stat_sns_on conn (effects_in log) in sns ≡ map (λ k. wire (first_stat_sn o conn + k)) (range_with_len 0 (length sns))
