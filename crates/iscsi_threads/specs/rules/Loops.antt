-- What a contract sees of a loop.
use Rattle.std.specs.Prelude.{◌≡◌, ℕ, List, [], ◌∷◌, ◌++◌, length, map, replicate}
use Rattle.std.specs.declared.alloc.Global.{Global}
use Rattle.iscsi_rules.specs.declared.event.Event.{Event}
use Rattle.iscsi_rules.specs.declared.effect.Effect.{Effect}
use Rattle.iscsi_rules.specs.rules.Settings.{Setting}
use Rattle.iscsi_session.specs.promises.Settings.{setting_of}
use Rattle.iscsi_rules.specs.rules.Run.{next_entry}
use Rattle.iscsi_threads.specs.rules.Rings.{Ring}
use Rattle.iscsi_threads.specs.rules.Ports.{posted, taken, answered, port_ring, unit_rings}
use Rattle.iscsi_threads.specs.rules.Outlets.{inlet_ring, outlet_rings}
use Rattle.iscsi_threads.specs.declared.port.Port.{Port}
use Rattle.iscsi_threads.specs.declared.port.UnitPort.{UnitPort}
use Rattle.iscsi_threads.specs.declared.session_loop.Loop.{Loop}
use Rattle.iscsi_threads.specs.declared.turn.Turn.{Turn}
use Rattle.iscsi_threads.specs.declared.turn.Turn.TheVariants.{Idle, Took}

-- the events that the loop's turns took, oldest first
abbrev pub journal : Loop → List Event
journal l = l.journal.items

-- the place of each event's port or unit port
abbrev pub sources : Loop → List ℕ
sources l = l.from.items

-- the options with which it was opened
abbrev pub setting : Loop → Setting
setting l = setting_of l.options

-- the rings of the loop's connections and of its units
abbrev pub loop_rings : Loop → List (Ring Global) × List (Ring Global × Ring Global)
loop_rings l = (map inlet_ring l.inlets.items, map outlet_rings l.outlets.items)

-- these are the ports and unit ports that open gave with the loop, all of them, in that order
abbrev pub Belong : Loop → List Port → List UnitPort → Type 0
Belong l ports unit_ports = (map port_ring ports ≡ (loop_rings l).0) × (map unit_rings unit_ports ≡ (loop_rings l).1)

-- the loop of the same rings and options
pub record SameLoop (a b : Loop) : Type 0 where
  pub rings : loop_rings b ≡ loop_rings a
  pub setting : setting b ≡ setting a

-- what a turn does to the journal and to out
abbrev pub Turned : Turn → Loop → Loop → List Effect → List Effect → Type 0
Turned Idle a b out out' = (journal b ≡ journal a) × (sources b ≡ sources a) × (out' ≡ out)
Turned (Took e n) a b out out' = (journal b ≡ journal a ++ e ∷ []) × ((f : ℕ) × (sources b ≡ sources a ++ f ∷ [])) × (n ≡ (next_entry (setting a) (journal a) e).numbers) × (out' ≡ out ++ (next_entry (setting a) (journal a) e).effects)

-- a loop with its ports and unit ports, through which nothing went yet
pub record Opened (o : Setting) (l : Loop) (ports : List Port) (unit_ports : List UnitPort) : Type 0 where
  pub setting_is : setting l ≡ o
  pub belong : Belong l ports unit_ports
  pub journal_is : journal l ≡ []
  pub sources_are : sources l ≡ []
  pub posted_are : map posted ports ≡ replicate (length o.conns) []
  pub taken_are : map taken unit_ports ≡ replicate o.units []
  pub answered_are : map answered unit_ports ≡ replicate o.units []
