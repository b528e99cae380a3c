-- All calls of a list.
use Rattle.std.proofs.Common.{⊎_elim, List, [], ◌∷◌}
use Rattle.iscsi_outbox_rules.specs.rules.Calls as outbox
use Rattle.iscsi_outbox_rules.specs.rules.Run.{after_call as after_box_call}
use Rattle.iscsi_ffi_rules.specs.rules.Calls.{Interface, Call, Arrives, Completes, Stops, Nexts, Puts, Writes, Hears, Joins, Loses, Clears, Cleared}
use Rattle.iscsi_ffi_rules.specs.rules.Run.{after_call}
use Rattle.iscsi_ffi_rules.specs.rules.Sides.{Side, opened}
use Rattle.iscsi_ffi_steps.specs.Steps.{Side as StepsSide, after, begun, called, ended}
use Rattle.iscsi_ffi_law.specs.Alike.{GoesAlike}
use Rattle.iscsi_ffi_law.specs.Lists.{AreAlike, MeetFrom, Meets}
use Rattle.iscsi_ffi_law.specs.Stands.{Stands}
use Rattle.iscsi_ffi_law.proofs.arrivals.Arrivals.{arrives_alike}
use Rattle.iscsi_ffi_law.proofs.completions.DoneCalls.{done_alike, stopped_alike}
use Rattle.iscsi_ffi_law.proofs.calls.Ends.{found_fit}
use Rattle.iscsi_ffi_law.proofs.losses.Losing.{loses_closed}
use Rattle.iscsi_ffi_law.proofs.losses.LossLaw.{loses_open}
use Rattle.iscsi_ffi_law.proofs.sending.NextCalls.{nexts_alike}
use Rattle.iscsi_ffi_law.proofs.calls.Opened.{stands_begun}
use Rattle.iscsi_ffi_law.proofs.own_pdus.Putting.{puts_alike}
use Rattle.iscsi_ffi_law.proofs.calls.Quiet.{cleared_alike, hears_alike, joins_alike}
use Rattle.iscsi_ffi_law.proofs.arrivals.Refusing.{arrives_refused, loses_lost, loses_unknown}
use Rattle.iscsi_ffi_law.proofs.resets.Resetting.{clears_alike}
use Rattle.iscsi_ffi_law.proofs.commands.Stopping.{completes_alike, stops_alike}
use Rattle.iscsi_ffi_law.proofs.sending.Writing.{writes_alike}

module _ (i : Interface) where
  pub goes : (s : StepsSide) (r : Side) (c : Call) → Stands i s r → Meets i s r c → GoesAlike i s r c
  goes s r (Arrives cid header cookie) h m =
      ⊎_elim
      (λ k. arrives_refused i s r h (found_fit i r.both.box (after_box_call i.outbox r.both.box (outbox.Hears cid 0 0)) k.0) cid header cookie k.1.0 k.1.1)
      (λ k. arrives_alike i s r h cid header cookie k.fit k.taken k.room k.placed k.behind) m
  goes s r (Completes ticket status) h m = ⊎_elim (λ k. completes_alike i s r h ticket k.0 status k.1) (λ k. done_alike i s r h ticket status k.0 k.1) m
  goes s r (Stops ticket) h m = ⊎_elim (λ k. stops_alike i s r h ticket k.0 k.1) (λ k. stopped_alike i s r h ticket k.0 k.1) m
  goes s r (Nexts cid) h m = nexts_alike i s r h cid m.0 m.1 m.2
  goes s r (Puts p cookie) h m = puts_alike i s r h p cookie m.0 m.1 m.2
  goes s r (Writes cid) h m = writes_alike i s r h cid m
  goes s r (Hears cid exp_stat_sn tag) h m = hears_alike i s r h cid exp_stat_sn tag m
  goes s r (Joins cid stat_sn) h m = joins_alike i s r h cid stat_sn m
  goes s r (Loses cid) h m =
      ⊎_elim
      (λ k. ⊎_elim
      (λ unknown. loses_unknown i s r h (found_fit i r.both.box (after_box_call i.outbox r.both.box (outbox.Hears cid 0 0)) k.0) cid unknown)
      (λ lost. loses_lost i s r h (found_fit i r.both.box (after_box_call i.outbox r.both.box (outbox.Hears cid 0 0)) k.0) cid lost) k.1)
      (λ m'. ⊎_elim (λ k. loses_closed i s r h cid k.leaves k.orderly k.closed k.known k.kept) (λ k. loses_open i s r h cid k) m') m
  goes s r (Clears unit) h m = clears_alike i s r h unit m.fit m.room
  goes s r (Cleared unit) h m = cleared_alike i s r h unit m

  all_go : (cs : List Call) (s : StepsSide) (r : Side) → Stands i s r → MeetFrom i s r cs → AreAlike i s r cs
  all_go [] s r h m = tt
  all_go (c ∷ cs) s r h m =
      let g : GoesAlike i s r c = goes s r c h m.0 in
      (g.answer, g.tells, all_go cs (after (ended (called i c s).going)) (after_call i r c).told.side g.stands m.1)

  pub calls_alike : (cs : List Call) → MeetFrom i (begun i) (opened i) cs → AreAlike i (begun i) (opened i) cs
  calls_alike cs m = all_go cs (begun i) (opened i) (stands_begun i) m
