-- For each call of a window, what it shows without events and stands for.
use Rattle.iscsi_window.proofs.HistoryLemmas.{StandsFor-finished, StandsFor-started}
use Rattle.iscsi_window.proofs.SinceLemmas.{StandsFor-advance, StandsFor-empty, StandsFor-pass, StandsFor-take, StandsFor-void, emptied_since, taken_since, turned_since, voided_since}
use Rattle.iscsi_window.proofs.LowestLemmas.{TookLowest-drop}
use Rattle.iscsi_window.proofs.ShownLemmas.{advanced_shown, dropped_shown, emptied_shown, first_shown, from_shown, held_shown, next_shown, none_shown, passed_shown, received_same, room_beneath, room_shown, taken_shown, turn_shown, voided_shown}

pub ruleset void_steps = (voided_shown, received_same, voided_since, StandsFor-void)

pub ruleset empty_steps = (held_shown, emptied_shown, emptied_since, StandsFor-empty)

pub ruleset drop_first_steps = (first_shown, dropped_shown, TookLowest-drop)

pub ruleset drop_at_steps = (from_shown, taken_shown, taken_since, StandsFor-take)

pub ruleset advance_steps = (turn_shown, none_shown, advanced_shown, room_shown, turned_since, StandsFor-advance)

pub ruleset pass_steps = (next_shown, passed_shown, room_shown, StandsFor-pass)

pub ruleset start_one_steps = (room_beneath, StandsFor-started)

pub ruleset finish_one_steps = (StandsFor-finished)
