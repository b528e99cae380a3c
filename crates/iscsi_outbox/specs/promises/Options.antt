-- What an outbox is opened with, and the limits of it.
use Rattle.std.specs.Prelude.{◌≡◌, ℕ, ◌==◌, ◌&&◌, not, nat_le, nat_lt, Bool, true, List, [], ◌∷◌, length, Option, Some, None, Result, Ok, Err, ⊤, if◌then◌else◌}
use Rattle.std.specs.List.{list_any}
use Rattle.iscsi_links.specs.Links.{Links, opened as no_links}
use Rattle.iscsi_outbox_state.specs.Lane.{Lane, opened as no_lane}
use Rattle.iscsi_outbox_state.specs.Waits.{Waits, opened as no_waits}
use Rattle.iscsi_outbox_steps.specs.State.{Limits, places, waiting_room}
use Rattle.iscsi_tracked.specs.Tracked.{Tracked, opened as no_commands}
use Rattle.iscsi_outbox.specs.declared.options.OutboxOptions.{OutboxOptions}
use Rattle.iscsi_outbox.specs.declared.fault.OutboxFault.{OutboxFault}
use Rattle.iscsi_outbox.specs.declared.fault.OutboxFault.TheVariants.{BadOptions, NoMemory}

-- from 1 to the most
abbrev pub is_within : ℕ → ℕ → Bool
is_within n most = nat_le 1 n && nat_le n most

-- one of the connections has this CID
abbrev pub is_known : ℕ → List ℕ → Bool
is_known cid cids = list_any (λ (c : ℕ). c == cid) cids

-- no CID stands twice
abbrev pub are_distinct : List ℕ → Bool
are_distinct [] = true
are_distinct (cid ∷ cids) = not (is_known cid cids) && are_distinct cids

-- every option is within its limits
abbrev pub is_valid : OutboxOptions → Bool
is_valid o = is_within o.window 1024 && is_within o.units 256 && is_within o.own 1024 && is_within (length o.conns.items) 64 && are_distinct o.conns.items

-- with one connection written is enough
abbrev pub limits_of : OutboxOptions → Limits
limits_of o = record {
  cids = o.conns.items;
  window = o.window;
  units = o.units;
  own = o.own;
  looks = o.acknowledged && nat_lt 1 (length o.conns.items);
  shared = o.shared;
}

-- why the options are refused
abbrev pub refusal_of : OutboxOptions → Option OutboxFault
refusal_of o = if is_valid o then None else Some BadOptions

-- the answer is refused just as it must be; where it mustn't, only for want of memory
abbrev pub RefusesAs : {A : Type 0} → Option OutboxFault → Result A OutboxFault → Type 0
RefusesAs None (Ok x) = ⊤
RefusesAs None (Err e) = e ≡ NoMemory
RefusesAs (Some fault) (Ok x) = ⊥
RefusesAs (Some fault) (Err e) = e ≡ fault

-- ---- the parts of an outbox that is opened. For private contracts alone

abbrev pub links_of : OutboxOptions → Links
links_of o = no_links (length o.conns.items) (limits_of o).looks

abbrev pub waits_of : OutboxOptions → Waits
waits_of o = no_waits (length o.conns.items) (places (limits_of o)) (waiting_room (limits_of o))

abbrev pub lane_of : OutboxOptions → Lane
lane_of o = no_lane (length o.conns.items) (places (limits_of o)) (places (limits_of o))

abbrev pub tracked_of : OutboxOptions → Tracked
tracked_of o = no_commands (length o.conns.items) (places (limits_of o))
