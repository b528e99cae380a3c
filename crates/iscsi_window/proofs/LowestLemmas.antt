-- The first place that passes has the lowest number that fits.
use Rattle.std.proofs.Common.{◌≡◌, ℕ, ◌+◌, ◌-◌, ◌<◌, cond, Bool, false, List, take, get_or, position, Option, Some, None, option_map, nat_lt, refl, sym, subst, ◌∙◌, arith}
use Rattle.std.proofs.lemmas.Bool.Decides.{nat_tests}
use Rattle.std.proofs.lemmas.List.{get_or_past, get_or-take, length-take}
use Rattle.std.proofs.lemmas.List.Quantifiers.{position-Some}
use Rattle.std.proofs.lemmas.List.Sums.{fails_before_first}
use Rattle.iscsi_wire.specs.declared.request.Request.{Request}
use Rattle.iscsi_wire.specs.Serial.{wire, lift}
use Rattle.iscsi_window.specs.Received.{Received, number_expected}
use Rattle.iscsi_window.specs.Windows.{is_command, is_held_from, number_shown, find_command, first_from, dropped_at}
use Rattle.iscsi_window.specs.History.{Change, StandsFor, number_of, after_emptying, is_command_below, is_held_at, IsLowest, ShowsLowest, TookLowest}
use Rattle.iscsi_window.proofs.HistoryLemmas.{unheld_below, place_shows}
use Rattle.iscsi_window.proofs.SinceLemmas.{expected_is, test_held, held_from_here, StandsFor-take}

-- no place passes
none_passes : {A : Type 0} (f : Option A → Bool) (xs : List (Option A)) (k : ℕ) → f None ≡ false → position f xs ≡ None → f (get_or xs k None) ≡ false
none_passes f xs k missing none = grind (arith, nat_tests, fails_before_first, get_or_past)

lowest_at : (f : Option (Option Request) → Bool) (xs : List (Option (Option Request))) (e : ℕ) (fits : ℕ → Bool) → f None ≡ false
    → ((k : ℕ) → f (get_or xs k None) ≡ fits (e + k)) → ((n : ℕ) → n < e → fits n ≡ false) → (x : Option ℕ) → position f xs ≡ x → IsLowest fits (option_map (λ k. e + k) x)
lowest_at f xs e fits missing same below None is = λ n. grind (arith, below n, same (n - e), none_passes f xs (n - e) missing is)
lowest_at f xs e fits missing same below (Some k) is =
    let first = position-Some f xs k None is in
    (sym (same k) ∙ first.1, λ n lower. grind (arith, below n, same (n - e), first.2 (n - e)))

shown_by : (s : Received) (x : Option ℕ) → option_map (number_shown s) x ≡ option_map wire (option_map (λ k. number_expected s + k) x)
shown_by s x = grind (arith, nat_tests)

-- ---- a SCSI Command with a tag

read_front : {A : Type 0} (xs : List (Option A)) (m k : ℕ) → get_or (take m xs) k None ≡ cond (nat_lt k m) (get_or xs k None) None
read_front xs m k = grind (arith, nat_tests, get_or-take, get_or_past, length-take)

pub find_since : (s : Received) (tag unit w : ℕ) (h : List Change) → StandsFor s h → ShowsLowest (is_command_below h tag unit (number_of s.first h w)) (option_map (number_shown s) (find_command s tag unit w))
find_since s tag unit w h st =
    let e : ℕ = number_expected s in
    let below : ℕ = lift e w in
    let f : Option (Option Request) → Bool = is_command tag unit in
    record {
      number = option_map (λ k. e + k) (find_command s tag unit w);
      lowest = subst (λ x. IsLowest (is_command_below h tag unit (lift x w)) (option_map (λ k. e + k) (find_command s tag unit w))) (expected_is s h st)
          (lowest_at f (take (below - e) s.places) e (is_command_below h tag unit below) refl
          (λ k. grind (arith, nat_tests, read_front s.places (below - e) k, place_shows s h k st, test_held f h (e + k) refl refl))
          (λ n lt. grind (arith, unheld_below s h n st lt)) (find_command s tag unit w) refl);
      shown = shown_by s (find_command s tag unit w);
    }

-- ---- a request of a connection

dropped : (s : Received) (conn : Option ℕ) (x : Option ℕ) (now : Received) (h : List Change) → StandsFor s h → first_from s conn ≡ x → now ≡ dropped_at s x → StandsFor now (after_emptying (option_map (λ k. number_expected s + k) x) h)
dropped s conn None now h st is state = grind arith
dropped s conn (Some k) now h st is state =
    grind (arith, nat_tests, position-Some (is_held_from conn) s.places k None is, held_from_here, expected_is s h st, StandsFor-take s k conn now h st)

pub TookLowest-drop : (s : Received) (conn answer : Option ℕ) (now : Received) (h : List Change) → StandsFor s h → answer ≡ option_map (number_shown s) (first_from s conn) → now ≡ dropped_at s (first_from s conn) → TookLowest (is_held_at h conn) answer now h
TookLowest-drop s conn answer now h st told state = record {
  shows = record {
    number = option_map (λ k. number_expected s + k) (first_from s conn);
    lowest = lowest_at (is_held_from conn) s.places (number_expected s) (is_held_at h conn) refl (λ k. held_from_here s k conn h st)
        (λ n lt. grind (arith, unheld_below s h n st lt)) (first_from s conn) refl;
    shown = told ∙ shown_by s (first_from s conn);
  };
  stands = dropped s conn (first_from s conn) now h st refl state;
}
