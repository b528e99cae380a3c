-- Still before: when an abort, a reset or a Logout is acknowledged, no command that is over by it touches the medium any more,
-- and nothing of one is on its way on another connection (RFC 7143 section 4.2.3.3, SAM-5 section 7).
use Rattle.std.specs.Prelude.{◌≡◌, ◌≢◌, ℕ, ◌==◌, ◌||◌, Bool, true, false, List, ◌∷◌, ◌++◌, Some, None, Contains}
use Rattle.std.specs.List.{list_any}
use Rattle.iscsi_rules.specs.declared.effect.Effect.{Effect}
use Rattle.iscsi_rules.specs.declared.effect.Effect.TheVariants.{Enable, Leave}
use Rattle.iscsi_outbox_rules.specs.rules.Calls.{Opening, Stops}
use Rattle.iscsi_outbox_rules.specs.rules.Boxes.{Handed, Aim, AtConns}
use Rattle.iscsi_outbox_rules.specs.rules.Run.{Stopped}
use Rattle.iscsi_outbox_rules.specs.promises.Deeds.{Deed, handed_in_deed, items_in, effects_taken}
use Rattle.iscsi_outbox_rules.specs.promises.Arrived.{is_through}
use Rattle.iscsi_outbox_rules.specs.promises.Scope.{sent_as, aim_of_sent, cut_by, says_taken_out, says_past}
use Rattle.iscsi_outbox_rules.specs.promises.Silent.{ticket_of}

abbrev pub enables : ℕ → Effect → Bool
enables ticket (Enable t unit) = t == ticket
enables ticket _ = false

abbrev pub leaves : ℕ → Effect → Bool
leaves ticket (Leave t unit) = t == ticket
leaves ticket _ = false

abbrev pub enabled_in : ℕ → Deed → Bool
enabled_in ticket d = list_any (enables ticket) (effects_taken d.0)

abbrev pub left_in : ℕ → Deed → Bool
left_in ticket d = list_any (leaves ticket) (effects_taken d.0)

-- the answer is one to an abort, and not to a Logout
abbrev pub is_abort : Aim → Bool
is_abort AtConns = false
is_abort _ = true

abbrev pub answers_abort : Opening → List (List Effect) → Handed → Bool
answers_abort o items h = elim (sent_as items h.out) [
  | Some s ↦ elim (aim_of_sent o s) [ Some about ↦ is_abort about | None ↦ false ]
  | None ↦ false
]

-- a command that was told to its unit by an event before the one in which it left was reported stopped since
abbrev pub StopsBefore : Opening → List Deed → Type 0
StopsBefore o ds = (before after : List Deed) (answer : Deed) (c : ℕ) (h : Handed) (ticket : ℕ)
    → before ++ answer ∷ after ≡ ds → handed_in_deed answer ≡ Some (c, h) → says_taken_out o (items_in before) h.out ticket ≡ true
    → (earlier since : List Deed) (leaving : Deed) → earlier ++ leaving ∷ since ≡ before → left_in ticket leaving ≡ true
    → list_any (enabled_in ticket) earlier ≡ true
    → Contains since (Stops ticket, Stopped true)

-- what was handed out of it on another connection is known to have arrived, or was written where that is enough
abbrev pub ArrivesBefore : Opening → List Deed → Type 0
ArrivesBefore o ds = (before after : List Deed) (answer : Deed) (c : ℕ) (h : Handed) (ticket : ℕ)
    → before ++ answer ∷ after ≡ ds → handed_in_deed answer ≡ Some (c, h)
    → answers_abort o (items_in before) h ≡ true → says_taken_out o (items_in before) h.out ticket ≡ true
    → (earlier since : List Deed) (handing : Deed) (d : ℕ) (g : Handed) → earlier ++ handing ∷ since ≡ before
    → handed_in_deed handing ≡ Some (d, g) → d ≢ c → ticket_of (items_in earlier) g.out ≡ Some ticket
    → is_through o d earlier handing g since ≡ true

-- nor is what was handed out on another connection of a command that completed before under way any more: its data, its status. But
-- for a connection that another one's Logout closed: what lies there isn't read
abbrev pub CompletesBefore : Opening → List Deed → Type 0
CompletesBefore o ds = (before after : List Deed) (answer : Deed) (c : ℕ) (h : Handed) (ticket : ℕ)
    → before ++ answer ∷ after ≡ ds → handed_in_deed answer ≡ Some (c, h) → says_past o (items_in before) h.out ticket ≡ true
    → (earlier since : List Deed) (handing : Deed) (d : ℕ) (g : Handed) → earlier ++ handing ∷ since ≡ before
    → handed_in_deed handing ≡ Some (d, g) → d ≢ c → ticket_of (items_in earlier) g.out ≡ Some ticket
    → is_through o d earlier handing g since || cut_by (items_in before) d ≡ true

pub record StillBefore (o : Opening) (ds : List Deed) : Type 0 where
  pub stopped : StopsBefore o ds
  pub through : ArrivesBefore o ds
  pub completed : CompletesBefore o ds
