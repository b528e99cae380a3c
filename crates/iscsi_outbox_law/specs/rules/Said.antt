-- What the rules answer, as the steps say it.
use Rattle.std.specs.Prelude.{◌≡◌, ℕ, ◌%◌, ◌^◌, List, map, Option, Some, None}
use Rattle.iscsi_outbox_rules.specs.rules.Boxes.{Pdu as RulesPdu, Replies, Owns, Pings, Notices, Handed as RulesHanded}
use Rattle.iscsi_outbox_rules.specs.rules.Calls.{Opening, Call}
use Rattle.iscsi_outbox_rules.specs.rules.Handing.{Given as RulesGiven, Hands as RulesHands, Nothing as RulesNothing, IsOver as RulesIsOver}
use Rattle.iscsi_outbox_rules.specs.rules.Run.{Answered as RulesAnswered, Silent as RulesSilent, Put as RulesPut, Stopped as RulesStopped, Gives as RulesGives, Joined as RulesJoined, answered_by as answered_by_rules}
use Rattle.iscsi_outbox_steps.specs.declared.given.Given.{Given}
use Rattle.iscsi_outbox_steps.specs.declared.given.Given.TheVariants.{Hands, Nothing, IsOver}
use Rattle.iscsi_outbox_steps.specs.declared.given.Handed.{Handed}
use Rattle.iscsi_outbox_steps.specs.declared.given.Pdu.{Pdu}
use Rattle.iscsi_outbox_steps.specs.declared.given.Pdu.TheVariants.{Reply, Own, Ping, Notice}
use Rattle.iscsi_outbox_steps.specs.Run.{Answered, Silent, Put, Stopped, Gives, Joined, answered_by}

-- so many replies were before it in the session's log, modulo 2^64. Each reply that goes out has a place there
abbrev pub place_said : Option ℕ → ℕ
place_said (Some place) = place % 2 ^ 64
place_said None = 0

-- a reply is said with its place
abbrev pub pdu_said : RulesPdu → Option ℕ → Pdu
pdu_said (Replies reply) sent = Reply (record { reply = reply; place = place_said sent })
pdu_said (Owns own) sent = Own own
pdu_said (Pings tag) sent = Ping tag
pdu_said Notices sent = Notice

abbrev pub handed_said : RulesHanded → Handed
handed_said h = record { pdu = pdu_said h.out.pdu h.out.sent; stat_sn = h.stat_sn; exp = h.exp; max = h.max }

abbrev pub given_said : RulesGiven → Given
given_said (RulesHands h) = Hands (handed_said h)
given_said RulesNothing = Nothing
given_said RulesIsOver = IsOver

abbrev pub said : RulesAnswered → Answered
said RulesSilent = Silent
said (RulesPut refusal) = Put refusal
said (RulesStopped was) = Stopped was
said (RulesGives given) = Gives (given_said given)
said (RulesJoined may) = Joined may

-- the steps answer what the rules answer
abbrev pub AnswersAlike : Opening → List Call → Type 0
AnswersAlike o calls = answered_by o calls ≡ map said (answered_by_rules o calls)
