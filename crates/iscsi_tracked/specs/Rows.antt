-- Worked commands, computed: three on two connections.
use Rattle.std.specs.Prelude.{◌≡◌, ℕ, true, false, [], ◌∷◌, Some, None, refl}
use Rattle.iscsi_arrivals.specs.declared.stamp.Stamp.{Stamp}
use Rattle.iscsi_tracked.specs.declared.command.Command.{Command}
use Rattle.iscsi_tracked.specs.declared.command.Entering.{Entering}
use Rattle.iscsi_tracked.specs.declared.command.Phase.TheVariants.{Dormant, Started}
use Rattle.iscsi_tracked.specs.Tracked.{Tracked, arrived, entered, find_place, find_ticket, first_out, handed_out, has_place, in_phase, opened, removed}

abbrev pub entering : ℕ → ℕ → Entering
entering ticket conn = record { ticket = ticket; conn = conn; unit = 0; tag = 7; numbered = true }

-- tickets 4 and 9 come on the first connection, and 10 on the second
abbrev pub three : Tracked
three = entered (entering 10 1) 1 (entered (entering 9 0) 2 (entered (entering 4 0) 3 (opened 2 3)))

abbrev pub kept : ℕ → ℕ → ℕ → Command
kept ticket place conn = record { ticket = ticket; place = place; conn = conn; unit = 0; tag = 7; numbered = true; phase = Dormant; last_out = None }

pub in_order : three.commands ≡ kept 4 3 0 ∷ kept 9 2 0 ∷ kept 10 1 1 ∷ []
in_order = refl

pub by_ticket : find_ticket 9 three ≡ Some (kept 9 2 0)
by_ticket = refl

pub by_place : find_place 1 three ≡ Some (kept 10 1 1)
by_place = refl

pub none_with : find_ticket 5 three ≡ None
none_with = refl

pub started : find_ticket 4 (in_phase Started 3 three) ≡ Some (record { ticket = 4; place = 3; conn = 0; unit = 0; tag = 7; numbered = true; phase = Started; last_out = None })
started = refl

abbrev pub stamp : ℕ → Stamp
stamp place = record { stat_sn = 0; pings = 0; place = place }

-- first a PDU of ticket 4 goes out, then one of 9, and then again one of 4
abbrev pub went : Tracked
went = handed_out 3 (stamp 2) (handed_out 2 (stamp 1) (handed_out 3 (stamp 0) three))

pub nine_first : went.trails ≡ (2 ∷ 3 ∷ []) ∷ [] ∷ []
nine_first = refl

pub is_first : first_out 0 went ≡ Some 2
is_first = refl

pub none_elsewhere : first_out 1 went ≡ None
none_elsewhere = refl

pub last_one : find_place 3 went ≡ Some (record { ticket = 4; place = 3; conn = 0; unit = 0; tag = 7; numbered = true; phase = Dormant; last_out = Some (stamp 2) })
last_one = refl

pub four_next : first_out 0 (arrived 2 went) ≡ Some 3
four_next = refl

-- one that isn't kept any more leaves the trail, too
pub gone : (removed 3 went).trails ≡ (2 ∷ []) ∷ [] ∷ []
gone = refl

pub no_place : has_place 3 (removed 3 went) ≡ false
no_place = refl
