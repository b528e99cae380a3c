-- What stands beside the places stays right as the first one turns.
use Rattle.std.proofs.Common.{◌≡◌, ℕ, ◌+◌, ◌-◌, ◌<◌, ◌++◌, List, [], ◌∷◌, length, drop, get_or, true, is_some, Option, None, arith}
use Rattle.std.proofs.lemmas.Bool.Decides.{nat_tests}
use Rattle.iscsi_window.specs.declared.held_request.HeldRequest.{HeldRequest}
use Rattle.iscsi_window.specs.Received.{is_held}
use Rattle.iscsi_window.specs.Tags.{group_of, lowered}
use Rattle.iscsi_window.specs.FilledSlots.{IsSlotSet}
use Rattle.iscsi_window.specs.PlaceTags.{ArePlacesFound}
use Rattle.iscsi_window.proofs.ReceivedLemmas.{one, turned_sound, turns_into_itself}
use Rattle.iscsi_window.proofs.FilledLemmas.{filled_passed, filled_turned}
use Rattle.iscsi_window.proofs.LabelLemmas.{labels_turned}

module _ (counts bounds tags words : List ℕ) (turned received held : ℕ) (xs : List (Option (Option HeldRequest))) (found : ArePlacesFound counts bounds tags words turned received held xs) (some : 0 < length xs) where
  -- where its number wasn't received
  pub free_turned : get_or xs 0 None ≡ None → ArePlacesFound counts bounds tags words (turned + 1) received held (drop 1 xs ++ None ∷ [])
  free_turned free = record {
    sound = let t = turned_sound counts bounds turned received held xs found.sound some in record {
      tags = rw free at t.tags;
      lowest = t.lowest;
      as_many = grind (arith, nat_tests, t.as_many, free);
      held_are = grind (arith, nat_tests, t.held_are, free);
    };
    labels = labels_turned tags turned xs found.labels;
    filled = filled_passed words turned xs found.filled;
  }

  -- where no number was received
  pub alike_turned : received ≡ 0 → get_or xs 0 None ≡ None → ArePlacesFound counts bounds tags words (turned + 1) received held xs
  alike_turned none free = rw (turns_into_itself xs some (omega (arith, none, found.sound.as_many))) at (free_turned free)

  -- where it was
  pub first_turned : (first : Option (Option HeldRequest)) (new : List ℕ) → first ≡ get_or xs 0 None → is_some first ≡ true → IsSlotSet words new turned 0
      → ArePlacesFound (lowered counts (group_of first)) bounds tags new (turned + 1) (received - 1) (held - one is_held first) (drop 1 xs ++ None ∷ [])
  first_turned first new is there cleared = let t = turned_sound counts bounds turned received held xs found.sound some in record {
    sound = record {
      tags = rw is t.tags;
      lowest = t.lowest;
      as_many = grind (arith, nat_tests, t.as_many, is, there);
      held_are = rw is t.held_are;
    };
    labels = labels_turned tags turned xs found.labels;
    filled = filled_turned words new turned xs found.filled cleared found.sound.tags.few;
  }
