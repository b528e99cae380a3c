use Rattle.std.proofs.Common.{◌≡◌, ◌∙◌, ap, true, false, Option, option_map, option_and_then, is_some, arith}
use Rattle.std.specs.Prelude.{find}
use Rattle.std.specs.Str.{bytes_eq}
use Rattle.std.proofs.lemmas.Bool.{false≢true}
use Rattle.std.specs.Option.{option_map_or}
use Rattle.std.proofs.lemmas.Bool.Decides.{nat_tests}
use Rattle.std.proofs.lemmas.Grind.{common_steps}
use Rattle.clap.specs.declared.parser.matches.Found.{Found}
use Rattle.clap.specs.declared.parser.matches.MatchedArg.{MatchedArg}
use Rattle.clap.specs.declared.parser.matches.ValueSource.{ValueSource}
use Rattle.clap.specs.Facts.{explicit_source}
use Rattle.clap.specs.Matches.{matched_of}
use Rattle.clap.specs.Takes.{is_given}
use Rattle.clap.specs.Walk.{Row, row_of, rows_of}
use Rattle.clap.specs.Words.{Text}
use Rattle.clap.specs.Facts.{Entry}
use Rattle.clap.proofs.WalkLemmas.{find_row}
use Rattle.iscsi_settings.proofs.command_line.has_flag.Goals as goal
use Rattle.iscsi_settings.proofs.command_line.has_flag.Goals.{in-Some-DefaultValue, in_default, in_default-2}

-- what is given, by what was found of an id
given_by_found : (f : Found) (id : Text) → is_given id (rows_of f) ≡ option_map_or (λ (a : MatchedArg). explicit_source a.source) (matched_of f id) false
given_by_found f id = ap (λ (o : Option Row). option_map_or (λ r. explicit_source r.source) o false) (find_row f.entries.items id) ∙ go (find (λ (e : Entry). bytes_eq e.0.now id) f.entries.items)
  where
    go : (o : Option Entry) → option_map_or (λ r. explicit_source r.source) (option_map row_of o) false ≡ option_map_or (λ (a : MatchedArg). explicit_source a.source) (option_map (λ e. e.1) o) false
    go o = grind (arith, nat_tests)

by_source : (x : Option MatchedArg) (v : Option ValueSource) → true ≡ is_some x → v ≡ option_and_then (λ a. a.source) x → explicit_source v ≡ option_map_or (λ a. explicit_source a.source) x false
by_source x v there is = grind (arith, nat_tests, false≢true)

absent : (x : Option MatchedArg) → false ≡ is_some x → false ≡ option_map_or (λ a. explicit_source a.source) x false
absent x gone = grind (arith, nat_tests, false≢true)

pub returns-else-contains_id : goal.returns-else-contains_id
returns-else-contains_id c = grind (arith, common_steps, absent, given_by_found)

pub returns-after-matches : goal.returns-after-matches
returns-after-matches c = grind (arith, common_steps, by_source, given_by_found)
