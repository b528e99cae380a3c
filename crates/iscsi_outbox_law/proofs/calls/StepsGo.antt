-- What follows a session is answered alike by the steps and the rules, where each item goes in both.
use Rattle.std.proofs.Common.{◌≡◌, true, List}
use Rattle.iscsi_rules.specs.declared.effect.Effect.{Effect}
use Rattle.iscsi_rules.specs.rules.Settings.{are_distinct}
use Rattle.iscsi_outbox_rules.specs.promises.Room.{HasRoom}
use Rattle.iscsi_outbox_rules.specs.promises.Deeds.{FollowsKnown}
use Rattle.iscsi_outbox_rules.specs.rules.Calls.{Opening, Call}
use Rattle.iscsi_outbox_rules.specs.rules.Boxes.{Box}
use Rattle.iscsi_outbox_rules.specs.rules.Items.{after_item as box_after_item}
use Rattle.iscsi_outbox_rules.specs.rules.Run.{opened}
use Rattle.iscsi_outbox_steps.specs.State.{State}
use Rattle.iscsi_outbox_steps.specs.Run.{begun}
use Rattle.iscsi_outbox_steps.specs.Steps.{after_item}
use Rattle.iscsi_outbox_law.specs.rules.Room.{IsShort}
use Rattle.iscsi_outbox_law.specs.private.Stands.{Stands}
use Rattle.iscsi_outbox_law.proofs.arrivals.Hearing.{hears_stands, writes_stands}
use Rattle.iscsi_outbox_law.proofs.connections.Losing.{loses_stands}
use Rattle.iscsi_outbox_law.proofs.invariants.SoundRuns.{follows_sound}
use Rattle.iscsi_outbox_law.proofs.calls.CallsGo.{AllGo, GoSilently, run_goes}
use Rattle.iscsi_outbox_law.proofs.calls.EventGoes.{FindsItem, event_goes}

abbrev pub ItemsGo : Opening → Type 0
ItemsGo o = (s : State) (b : Box) (item : List Effect) → FindsItem o s b item → Stands o (after_item item s) (box_after_item o b item)

silent_calls : (o : Opening) → are_distinct o.session.conns ≡ true → ItemsGo o → GoSilently o
silent_calls o distinct items = record {
  takes = λ s b effects n k. event_goes o items s b effects n k;
  writes = λ s b cid k. writes_stands o s b k.stands k.sound distinct k.fit.fits cid k.short.time;
  hears = λ s b cid exp_stat_sn tag k. hears_stands o s b k.stands k.sound distinct k.fit.fits cid exp_stat_sn tag k.short.time;
  loses = λ s b cid k. loses_stands o s b k.stands k.sound distinct k.fit.fits cid k.short.time;
}

pub steps_go : (o : Opening) → ItemsGo o → (distinct : are_distinct o.session.conns ≡ true) (calls : List Call) → FollowsKnown o calls → HasRoom o calls → IsShort o calls → AllGo o calls (begun o) (opened o)
steps_go o items distinct calls follows room short = run_goes o distinct (silent_calls o distinct items) calls (follows_sound o calls follows distinct) room short
