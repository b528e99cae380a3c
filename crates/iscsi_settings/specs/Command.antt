-- The command line of `iscsi-replay`.
use Rattle.std.specs.Prelude.{◌≡◌, ◌≤◌, ℕ, Bool, List, [], ◌∷◌, Option, Some, None, IsSome, codes, option_map, option_and_then}
use Rattle.std.specs.Result.{result_ok}
use Rattle.std.specs.Int.{w32, from_be_bytes}
use Rattle.std.specs.Str.Parse.{digits_value, without_leading_plus}
use Rattle.hex.specs.Hex.{decode_sized}
use Rattle.clap.specs.Takes.{is_given}
use Rattle.clap.specs.Words.{App, Rule, Text, new_app, new_rule, with_rule, Row, first_of, IsUnsignedIn}
use Rattle.clap.specs.declared.builder.value_parser.ValueParser.TheVariants as vp
use Rattle.clap.specs.declared.builder.action.ArgAction.TheVariants.{Set, SetTrue}
use Rattle.iscsi_settings.specs.declared.settings.Settings.{Settings}

-- the option `--first`, which takes any text
abbrev pub first_rule : Rule
first_rule = record (new_rule (codes "first")) { long = Some (codes "first"); action = Some Set; defaults = codes "00000001" ∷ [] }

-- an option that takes a number from 1 to high, and without it has the number that is given
abbrev pub number_rule : Text → ℕ → Text → Rule
number_rule name high given = record (new_rule name) { long = Some name; action = Some Set; parser = Some (vp.Unsigned 1 high); defaults = given ∷ [] }

-- the option `--threads`, a flag
abbrev pub threads_rule : Rule
threads_rule = record (new_rule (codes "threads")) { long = Some (codes "threads"); action = Some SetTrue }

-- the command line with its first three options
abbrev pub begun_app : App
begun_app =
    with_rule (with_rule (with_rule (new_app (codes "iscsi-replay")) first_rule) (number_rule (codes "window") 1024 (codes "32")))
    (number_rule (codes "units") 256 (codes "1"))

-- the command line with its options
unfoldable pub replay_app : App
replay_app =
    with_rule (with_rule (with_rule begun_app (number_rule (codes "depth") 1024 (codes "64"))) (number_rule (codes "level") 2 (codes "1")))
    threads_rule

-- the number that eight hexadecimal digits, of either case, stand for
abbrev pub number_of_digits : Text → Option ℕ
number_of_digits text = option_map (from_be_bytes w32) (result_ok (decode_sized text 4))

-- the number that `--first` gives
abbrev pub first_number : List Row → Option ℕ
first_number rows = option_and_then number_of_digits (first_of (codes "first") rows)

-- the text is there, and is a number from 1 to high in decimal digits
abbrev pub HasNumber : ℕ → Option Text → Type 0
HasNumber high None = ⊥
HasNumber high (Some text) = IsUnsignedIn 1 high text

-- t is true exactly where the words gave `--threads`
abbrev pub HasFlag : List Row → Bool → Type 0
HasFlag rows t = is_given (codes "threads") rows ≡ t

-- each option has a value, those that take a number one within its limits
pub record AreChecked (rows : List Row) : Type 0 where
  pub first : IsSome (first_of (codes "first") rows)
  pub window : HasNumber 1024 (first_of (codes "window") rows)
  pub units : HasNumber 256 (first_of (codes "units") rows)
  pub depth : HasNumber 1024 (first_of (codes "depth") rows)
  pub level : HasNumber 2 (first_of (codes "level") rows)

-- the text is there, and is n in decimal digits, from 1 to high
abbrev pub IsNumberIn : Option Text → ℕ → ℕ → Type 0
IsNumberIn None high n = ⊥
IsNumberIn (Some text) high n = (n ≡ digits_value 10 (without_leading_plus text)) × (1 ≤ n) × (n ≤ high)

-- option by option, the setting is the value in the matches of the words
pub record HasValues (rows : List Row) (s : Settings) : Type 0 where
  pub first : first_number rows ≡ Some s.first
  pub window : IsNumberIn (first_of (codes "window") rows) 1024 s.window
  pub units : IsNumberIn (first_of (codes "units") rows) 256 s.units
  pub depth : IsNumberIn (first_of (codes "depth") rows) 1024 s.depth
  pub level : IsNumberIn (first_of (codes "level") rows) 2 s.level

-- the settings of the matches and whether `--threads` was given, or none where `--first` isn't eight hexadecimal digits
abbrev pub SettingsAre : List Row → Option (Settings × Bool) → Type 0
SettingsAre rows None = first_number rows ≡ None
SettingsAre rows (Some (s, t)) = HasValues rows s × HasFlag rows t
