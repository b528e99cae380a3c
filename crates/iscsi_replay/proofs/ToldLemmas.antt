-- The settings that words give are within their limits, and what a replay with them keeps is what the words tell.
use Rattle.std.proofs.Common.{◌≡◌, ◌∙◌, ℕ, Bool, true, false, List, [], Option, Some, None, Result, Ok, Err, refl, sym, le-leb}
use Rattle.std.specs.Prelude.{IfSome, OnOk, IsErrOf}
use Rattle.std.proofs.lemmas.Bool.{false≢true}
use Rattle.clap.specs.Words.{Row, Text, fault_of, matches_of}
use Rattle.iscsi_rules.specs.rules.Settings.{is_within}
use Rattle.iscsi_settings.specs.Command.{replay_app, IsNumberIn, HasValues, SettingsAre}
use Rattle.iscsi_settings.specs.Limits.{are_valid}
use Rattle.iscsi_recording.specs.Order.{ReadsInOrder}
use Rattle.iscsi_recording.specs.Recorded.{read_of}
use Rattle.iscsi_replay.specs.promises.Told.{AnswersBy, FrontBy, IsReplayAsTold, KeepsWordBy, ReportedBy}
use Rattle.iscsi_recording.specs.declared.fault.ReplayFault.{ReplayFault}
use Rattle.iscsi_recording.specs.declared.fault.ReplayFault.TheVariants.{BadSettings}
use Rattle.iscsi_settings.specs.declared.settings.Settings.{Settings}

within_limits : (text : Option Text) (high n : ℕ) → IsNumberIn text high n → is_within n high ≡ true
within_limits None high n h = absurd h
within_limits (Some text) high n h = rw (le-leb _ _ h.1, le-leb _ _ h.2) refl

pub values_valid : (rows : List Row) (s : Settings) → HasValues rows s → are_valid s ≡ true
values_valid rows s h =
    rw (
      within_limits _ 1024 s.window h.window,
      within_limits _ 256 s.units h.units,
      within_limits _ 1024 s.depth h.depth,
      within_limits _ 2 s.level h.level,
    ) refl

-- what a replay keeps, in threads or event by event
pub record Replays (threads : Bool) (s : Settings) (answer : Result (Unit {0}) ReplayFault) (given left old new : Option (List ℕ)) : Type 0 where
  pub bad : IsErrOf answer BadSettings → are_valid s ≡ false
  pub report : OnOk answer (IfSome given (λ bytes. ReportedBy threads s (read_of bytes) old new))
  pub promises : OnOk answer (IfSome given (λ bytes. KeepsWordBy threads s (read_of bytes) old new))
  pub fault : are_valid s ≡ true → IfSome given (λ bytes. AnswersBy threads s (read_of bytes) answer)
  pub front : IfSome given (λ bytes. FrontBy threads s (read_of bytes) old new)
  pub order : ReadsInOrder read_of answer given left

-- of the promises of threads nothing is said
pub nothing_said : (answer : Result (Unit {0}) ReplayFault) (given : Option (List ℕ)) → OnOk answer (IfSome given (λ bytes. Unit {0}))
nothing_said (Ok x) None = tt
nothing_said (Ok x) (Some bytes) = tt
nothing_said (Err e) given = tt

-- a replay with the settings of words is as they tell
pub replays_as_told : (words : List Text) (s : Settings) (threads : Bool) (answer : Result (Unit {0}) ReplayFault) (given left old new : Option (List ℕ))
    → fault_of replay_app words ≡ [] → SettingsAre (matches_of replay_app words) (Some (s, threads)) → Replays threads s answer given left old new
    → IsReplayAsTold words answer given left old new
replays_as_told words s threads answer given left old new taken are replays =
    let valid : are_valid s ≡ true = values_valid (matches_of replay_app words) s are.0 in
    record {
      taken = taken;
      settings = s;
      values = are.0;
      threads = threads;
      flag = are.1;
      valid = λ bad. absurd (false≢true (sym (replays.bad bad) ∙ valid));
      report = replays.report;
      promises = replays.promises;
      fault = replays.fault valid;
      front = replays.front;
      order = replays.order;
    }
