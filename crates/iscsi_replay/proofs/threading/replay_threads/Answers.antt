use Rattle.std.proofs.Common.{◌≡◌, ◌∙◌, true, sym, subst}
use Rattle.std.specs.List.{list_all}
use Rattle.iscsi_recording.specs.Recorded.{belongs_to}
use Rattle.iscsi_recording.proofs.OrderLemmas.{settings_at_first}
use Rattle.iscsi_replay.proofs.ThreadLemmas.{sources_known}
use Rattle.iscsi_replay.proofs.threading.replay_threads.Goals as goal

pub returns-then-not-are_valid-clause-order : goal.returns-then-not-are_valid-clause-order
returns-then-not-are_valid-clause-order g c = settings_at_first _

pub write_report-requires-clause-known : goal.write_report-requires-clause-known
write_report-requires-clause-known g c =
    let j = c.in_ok-conns.field-0 in
    let of = c.in_ok-conns.ensures.ok in
    let known = subst (λ conns. list_all (belongs_to conns) j.events.items ≡ true) (sym of.conns) (sources_known _ c.args.settings.now.units j.events.items of.sources of.ran.sourced) in
    subst (λ events. list_all (belongs_to j.conns.items) events ≡ true) (sym (c.new.ensures ∙ c.deref.ensures.value)) known
