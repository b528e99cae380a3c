-- Worked values by ticket, computed: room for three, of which two are there.
use Rattle.std.specs.Prelude.{◌≡◌, true, false, [], ◌∷◌, Some, None, refl}
use Rattle.iscsi_tickets.specs.Tickets.{Known, known, live_in, value_of, without_ticket}

-- ticket 4 has 40, and ticket 9 has 90
abbrev pub two : Known
two = known ((4, 40) ∷ (9, 90) ∷ []) 9 3

pub older_found : value_of 4 two.entries ≡ Some 40
older_found = refl

pub newer_found : value_of 9 two.entries ≡ Some 90
newer_found = refl

-- no ticket between them, below or above
pub none_between : value_of 5 two.entries ≡ None
none_between = refl

pub none_below : value_of 3 two.entries ≡ None
none_below = refl

pub none_above : value_of 10 two.entries ≡ None
none_above = refl

-- one is taken out, and the other stays
pub older_taken : without_ticket 4 two.entries ≡ (9, 90) ∷ []
older_taken = refl

pub newer_taken : without_ticket 9 two.entries ≡ (4, 40) ∷ []
newer_taken = refl

-- a ticket that isn't there takes nothing
pub none_taken : without_ticket 5 two.entries ≡ two.entries
none_taken = refl

-- in the log ticket 7 stands between them still, which was taken out
pub logged :
    live_in (record { ticket = 4; value = 40; is_live = true } ∷ record { ticket = 7; value = 70; is_live = false } ∷ record { ticket = 9; value = 90; is_live = true } ∷ [])
    ≡ two.entries
logged = refl
