-- The calls of a session and its outbox take what the session gives.
use Rattle.std.proofs.Common.{◌≡◌, true, List, [], ◌∷◌, ◌++◌, refl, ap, ◌∙◌}
use Rattle.std.specs.List.{list_all, flat_map}
use Rattle.iscsi_rules.specs.declared.event.Event.{Event}
use Rattle.iscsi_rules.specs.declared.event.Event.TheVariants.{Arrive, Done}
use Rattle.iscsi_rules.specs.rules.Settings.{is_known}
use Rattle.iscsi_rules.specs.rules.Agenda.{belongs}
use Rattle.iscsi_rules.specs.rules.Run.{entries_from, entry_of}
use Rattle.iscsi_rules.specs.promises.Flow.{FlowsThrough}
use Rattle.iscsi_rules.proofs.general.BoolLemmas.{and_both, and_parts}
use Rattle.iscsi_wire.specs.Fields.{request_of}
use Rattle.std.proofs.Common.{◌||◌, ◌≤◌}
use Rattle.iscsi_outbox_rules.specs.rules.Calls.{Opening}
use Rattle.iscsi_outbox_rules.specs.rules.Words.{may_take}
use Rattle.iscsi_outbox_rules.specs.promises.Deeds.{entry_taken, FollowsFlow, FollowsKnown}
use Rattle.iscsi_outbox_rules.specs.promises.Room.{Step, Happens, Other, Both, after_step, begun, is_parting, is_read_with_room, all_are, calls_of, events_of}
use Rattle.iscsi_outbox_rules.proofs.room.RoomKeeps.{none_taken}

module _ (o : Opening) where
  taken_are : (s : Both) (steps : List Step) → all_are (is_read_with_room o) o s steps ≡ true → flat_map entry_taken (calls_of o s steps) ≡ entries_from o.session s.event s.trace (events_of steps)
  taken_are s [] all = refl
  taken_are s (Happens e ∷ steps) all =
      let parts = and_parts (is_read_with_room o s (Happens e)) (all_are (is_read_with_room o) o (after_step o s (Happens e)) steps) all in
      ap (λ es. entry_of o.session s.event s.trace e ∷ es) (taken_are (after_step o s (Happens e)) steps parts.1)
  taken_are s (Other c ∷ steps) all =
      let parts = and_parts (is_read_with_room o s (Other c)) (all_are (is_read_with_room o) o (after_step o s (Other c)) steps) all in
      ap (λ es. es ++ flat_map entry_taken (calls_of o (after_step o s (Other c)) steps)) (none_taken c parts.0)
      ∙ taken_are (after_step o s (Other c)) steps parts.1

  read_belongs : (s : Both) (e : Event) → is_read_with_room o s (Happens e) ≡ true → belongs o.session e ≡ true
  read_belongs s (Arrive conn header) read = (and_parts (is_known conn o.session.conns) (may_take o s.box || is_parting s (request_of conn header)) read).0
  read_belongs s (Done ticket status) read = refl

  all_belong : (s : Both) (steps : List Step) → all_are (is_read_with_room o) o s steps ≡ true → list_all (belongs o.session) (events_of steps) ≡ true
  all_belong s [] all = refl
  all_belong s (Happens e ∷ steps) all =
      let parts = and_parts (is_read_with_room o s (Happens e)) (all_are (is_read_with_room o) o (after_step o s (Happens e)) steps) all in
      and_both (belongs o.session e) (list_all (belongs o.session) (events_of steps)) (read_belongs s e parts.0) (all_belong (after_step o s (Happens e)) steps parts.1)
  all_belong s (Other c ∷ steps) all =
      let parts = and_parts (is_read_with_room o s (Other c)) (all_are (is_read_with_room o) o (after_step o s (Other c)) steps) all in
      all_belong (after_step o s (Other c)) steps parts.1

  pub follows_known : (steps : List Step) → all_are (is_read_with_room o) o (begun o) steps ≡ true → FollowsKnown o (calls_of o (begun o) steps)
  follows_known steps all = record { events = events_of steps; follows = taken_are (begun o) steps all; known = all_belong (begun o) steps all }

  pub follows_flow : (steps : List Step) → all_are (is_read_with_room o) o (begun o) steps ≡ true → FlowsThrough o.session (events_of steps) → o.session.window ≤ 1024 → FollowsFlow o (calls_of o (begun o) steps)
  follows_flow steps all flows window = record { events = events_of steps; follows = taken_are (begun o) steps all; flows = flows; window = window }
