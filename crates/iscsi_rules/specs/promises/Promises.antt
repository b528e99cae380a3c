-- The promises: what holds of the log of every list of events that a session takes.
use Rattle.std.specs.Prelude.{◌≡◌, List}
use Rattle.iscsi_rules.specs.declared.event.Event.{Event}
use Rattle.iscsi_rules.specs.declared.entry.Entry.{Entry}
use Rattle.iscsi_rules.specs.rules.Settings.{Setting}
use Rattle.iscsi_rules.specs.promises.Executed.{delivered, executed}
use Rattle.iscsi_rules.specs.promises.Flow.{FlowsThrough}
use Rattle.iscsi_rules.specs.promises.Enabling.{EnablesByTheRule}
use Rattle.iscsi_rules.specs.promises.Aborts.{AbortsHoldIn}
use Rattle.iscsi_rules.specs.promises.Closes.{ClosesHoldIn}
use Rattle.iscsi_rules.specs.promises.Lives.{StartsOnce}
use Rattle.iscsi_rules.specs.promises.Answers.{AnswersOnceIn}
use Rattle.iscsi_rules.specs.promises.Numbering.{CountsReplies}
use Rattle.iscsi_rules.specs.promises.Order.{KeepsOrder}
use Rattle.iscsi_rules.specs.promises.Meaning.{MeansWhatItSays}
use Rattle.iscsi_rules.specs.rules.Run.{trace_of}

pub record KeepsPromises (o : Setting) (h : List Event) (log : List Entry) : Type 0 where
  -- the numbered requests delivered are those received from the first CmdSN on without a gap, in CmdSN order, each once
  pub delivery : delivered log ≡ executed o h
  -- at each moment the commands with an Enable and no Leave are those that the rules of task sets enable
  pub enabling : EnablesByTheRule o h log
  -- what a completed abort covers is over
  pub aborts : AbortsHoldIn o h log
  -- nothing goes on in a session or on a connection that was closed
  pub closes : ClosesHoldIn o h log
  -- received numbers, ExpCmdSN, MaxCmdSN and unfinished commands, from event to event
  pub flow : FlowsThrough o h
  -- each command is started at most once
  pub started_once : StartsOnce log
  -- each request is answered at most once
  pub answered_once : AnswersOnceIn o h log
  -- the StatSNs of each connection count its replies
  pub stat_sns : CountsReplies o log
  -- the effects of an item stand in order
  pub in_order : KeepsOrder log
  -- and the definitions mean what they say
  pub meaning : MeansWhatItSays o (trace_of o h)
