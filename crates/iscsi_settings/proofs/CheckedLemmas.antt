-- What a parse gives an option that has a default: a value, which passed its parser.
use Rattle.std.proofs.Common.{zero, suc, ◌≡◌, ◌∙◌, subst, ◌<◌, ◌≤◌, ap, ◌&&◌, ℕ, Bool, true, false, not, true≢false, List, [], ◌∷◌, map, length, Option, Some, None, refl, sym, inl, inr, arith, codes}
use Rattle.std.specs.List.{All, slice_index_or, list_any, list_all}
use Rattle.std.specs.Str.{bytes_eq}
use Rattle.std.specs.Prelude.{find, option_map}
use Rattle.std.specs.Borrow.{Bor}
use Rattle.std.proofs.lemmas.List.{length-map, get_or-map}
use Rattle.std.proofs.lemmas.List.Elements.{All-get_or}
use Rattle.std.proofs.lemmas.List.Folds.{list_any_at}
use Rattle.std.proofs.lemmas.Slice.Eq.{bytes_eq-Decides}
use Rattle.std.proofs.lemmas.Bool.Decides.{nat_tests}
use Rattle.clap.specs.Texts.{items_of}
use Rattle.clap.specs.Facts.{Entry, EntryPasses, EntryValuesPass, IsFilledEntry, IsGroupEntry, PassesArg, ValuesPass, WantsDefault, args_of, groups_of, least_values, parser_of, unwrap_or_range}
use Rattle.clap.specs.Built.{IsAuto, IsParsedFrom, NamesNoGroup, SameRules}
use Rattle.clap.specs.Matches.{found_of, first_value, matched_of}
use Rattle.clap.specs.Simple.{App, HasReadyLeaves, IsSimple, IsSimpleArg, app_of, is_ready, is_ready_leaf, shape_of}
use Rattle.clap.specs.Values.{Accepts}
use Rattle.clap.specs.Walk.{Rule, Text, first_of, rows_of, rule_of, rules_of}
use Rattle.clap.specs.declared.builder.action.ArgAction.TheVariants.{Set}
use Rattle.clap.specs.declared.builder.arg.Arg.{Arg}
use Rattle.clap.specs.declared.builder.range.ValueRange.{ValueRange}
use Rattle.clap.specs.declared.builder.command.Command.{Command}
use Rattle.clap.specs.declared.builder.command.Command.TheViews.{out-Command}
use Rattle.clap.specs.declared.builder.value_parser.ValueParser.{ValueParser}
use Rattle.clap.specs.declared.builder.value_parser.ValueParser.TheVariants as vp
use Rattle.clap.specs.declared.parser.matches.ArgMatches.{ArgMatches}
use Rattle.clap.specs.declared.parser.matches.MatchedArg.{MatchedArg}
use Rattle.clap.proofs.CallerLemmas.{default_present, entry_by_id, same_rules_by_id}
use Rattle.clap.proofs.SimpleLemmas.{is_false, ready_simple, simple_groups}
use Rattle.clap.proofs.WalkLemmas.{both, first_value-rows}
use Rattle.iscsi_settings.specs.Command.{AreChecked, HasNumber, first_rule, number_rule, replay_app}

-- no two rules have one id
abbrev all_differ : List Rule → Bool
all_differ [] = true
all_differ (r ∷ rs) = not (list_any (λ x. bytes_eq x.id r.id) rs) && all_differ rs

clash : (r : Rule) (rs : List Rule) (k : ℕ) (d : Rule) → not (list_any (λ x. bytes_eq x.id r.id) rs) ≡ true → k < length rs
    → bytes_eq (slice_index_or rs k d).id r.id ≡ true → ⊥
clash r rs k d none lt hit = grind (arith, nat_tests, list_any_at, is_false)

-- an id stands in one place
one_place : (rs : List Rule) (j k : ℕ) (d e : Rule) → all_differ rs ≡ true → j < length rs → k < length rs
    → bytes_eq (slice_index_or rs j e).id (slice_index_or rs k d).id ≡ true → j ≡ k
one_place [] j k d e all low high same = absurd (omega arith)
one_place (r ∷ rs) zero zero d e all low high same = refl
one_place (r ∷ rs) zero (suc k) d e all low high same = grind (arith, nat_tests, bytes_eq-Decides, clash, both)
one_place (r ∷ rs) (suc j) zero d e all low high same = absurd (clash r rs j e (both _ _ all).0 (omega arith) same)
one_place (r ∷ rs) (suc j) (suc k) d e all low high same = ap suc (one_place rs j k d e (both _ _ all).1 (omega arith) (omega arith) same)

-- what has an entry is found
found_some : (xs : List Entry) (id : Text) (i : ℕ) → i < length xs → ((d : Entry) → bytes_eq (slice_index_or xs i d).0.now id ≡ true)
    → (a : MatchedArg) × (option_map (λ e. e.1) (find (λ e. bytes_eq e.0.now id) xs) ≡ Some a)
found_some [] id i lt hit = absurd (omega arith)
found_some (x ∷ xs) id zero lt hit = (x.1, rw (hit x) refl)
found_some (x ∷ xs) id (suc i) lt hit = go (found_some xs id i (omega arith) hit) (bytes_eq x.0.now id) refl
  where
    go : ((a : MatchedArg) × (option_map (λ e. e.1) (find (λ e. bytes_eq e.0.now id) xs) ≡ Some a)) → (b : Bool) → bytes_eq x.0.now id ≡ b
        → (a : MatchedArg) × (option_map (λ e. e.1) (find (λ e. bytes_eq e.0.now id) (x ∷ xs)) ≡ Some a)
    go rest true e = (x.1, rw e refl)
    go rest false e = (rest.0, rw e rest.1)

-- an option that takes one value, and has a default
record IsOption (a : Arg) : Type 0 where
  pub action : a.action ≡ Some Set
  pub least : 1 ≤ least_values a
  pub val_delim : a.val_delim ≡ None
  pub default : WantsDefault a
  pub own : IsAuto a → ⊥
  pub named : a.id.now ≡ [] → ⊥

-- what is asked of a command
record IsOptions (c : Command) : Type 0 where
  pub globals : (out-Command c).has_globals ≡ false
  pub groups : groups_of c ≡ []
  pub no_names : NamesNoGroup c
  pub differ : all_differ (rules_of c) ≡ true

same_place : (c : Command) → IsOptions c → (j k : ℕ) (d e : Arg) → j < length (args_of c) → k < length (args_of c)
    → bytes_eq (slice_index_or (args_of c) j e).id.now (slice_index_or (args_of c) k d).id.now ≡ true → j ≡ k
same_place c is j k d e low high same =
    let args : List Arg = args_of c in
    let at_j : slice_index_or (map rule_of args) j (rule_of e) ≡ rule_of (slice_index_or args j e) = get_or-map rule_of args j e (rule_of e) low in
    let at_k : slice_index_or (map rule_of args) k (rule_of d) ≡ rule_of (slice_index_or args k d) = get_or-map rule_of args k d (rule_of d) high in
    one_place (map rule_of args) j k (rule_of d) (rule_of e) is.differ
    (rw (length-map args rule_of) low) (rw (length-map args rule_of) high) (rw (at_j, at_k) same)

-- what the option's value is, and that its parser took it
abbrev Value : ArgMatches → Arg → Type 0
Value m a = (v : Bor Text) × (first_value (found_of m) a.id.now ≡ Some v.now)
    × ((q : ValueParser) → a.value_parser ≡ Some q → Accepts a.ignore_case q v.now)

head_value : (m : ArgMatches) (a : Arg) (x : MatchedArg) (P : Bor Text → Type 0) (vs : List (Bor Text)) → x.vals.items ≡ vs
    → matched_of (found_of m) a.id.now ≡ Some x → 0 < length vs → All P vs
    → ((v : Bor Text) → P v → (q : ValueParser) → a.value_parser ≡ Some q → Accepts a.ignore_case q v.now) → Value m a
head_value m a x P [] is found some all passes = absurd (omega arith)
head_value m a x P (v ∷ vs) is found some all passes =
    (v, rw (found, is) refl, passes v (All-get_or P (v ∷ vs) 0 v (omega arith) all))

accepted : (a y : Arg) (q : ValueParser) (t : Text) → SameRules a y → a.value_parser ≡ Some q → Accepts y.ignore_case (parser_of y) t → Accepts a.ignore_case q t
accepted a y q t s parser read = grind (arith, nat_tests)

-- each argument with this id keeps the rules of a
abbrev Keeps : Command → Arg → Text → Type 0
Keeps built a id = (j : ℕ) (y : Arg) → j < length (args_of built) → slice_index_or (args_of built) j y ≡ y → bytes_eq y.id.now id ≡ true → SameRules a y

-- an option's entry has a value
entry_filled : (built : Command) (a : Arg) (e : Entry) → Keeps built a e.0.now → a.action ≡ Some Set → 1 ≤ least_values a → a.val_delim ≡ None
    → (e.1.is_group ≡ true → ⊥) → IsFilledEntry built e → 0 < length e.1.vals.items
entry_filled built a e same action least delim no_group (inl h) = absurd (no_group h.0)
entry_filled built a e same action least delim no_group (inr (inl v)) = v
entry_filled built a e same action least delim no_group (inr (inr (inl h))) = grind (arith, nat_tests)
entry_filled built a e same action least delim no_group (inr (inr (inr h))) = grind (arith, nat_tests)

-- the values of an option's entry passed its parser
entry_passed : (built : Command) (e : Entry) → (e.1.is_group ≡ true → ⊥) → EntryValuesPass built e → All (λ v. PassesArg built e.0.now v.now) e.1.vals.items
entry_passed built e no_group (inl g) = absurd (no_group g)
entry_passed built e no_group (inr all) = all

entry_value : (built : Command) (m : ArgMatches) (a : Arg) (e : Entry) → Keeps built a e.0.now → a.action ≡ Some Set → 1 ≤ least_values a → a.val_delim ≡ None
    → (e.1.is_group ≡ true → ⊥) → matched_of (found_of m) a.id.now ≡ Some e.1 → EntryPasses built e → Value m a
entry_value built m a e same action least delim no_group found pass =
    head_value m a e.1 (λ v. PassesArg built e.0.now v.now) e.1.vals.items refl found
    (entry_filled built a e same action least delim no_group pass.1) (entry_passed built e no_group pass.0)
    (λ v h q parser. accepted a h.1 q v.now (same h.0 h.1 h.2 h.3 h.4.0) parser h.4.1)

-- no entry is a group's
not_group : (built : Command) (e : Entry) → groups_of built ≡ [] → (e.0.now ≡ [] → ⊥) → IsGroupEntry built e → e.1.is_group ≡ true → ⊥
not_group built e none named known g = grind (arith, nat_tests)

option_value : (c : Command) (m : ArgMatches) → IsParsedFrom c m → IsOptions c → (k : ℕ) (d : Arg) → k < length (args_of c)
    → IsOption (slice_index_or (args_of c) k d) → Value m (slice_index_or (args_of c) k d)
option_value c m p is k d lt option =
    let a : Arg = slice_index_or (args_of c) k d in
    let passed : ValuesPass p.built (found_of m) = (p.parsed (p.from.globals ∙ is.globals)).values in
    let has = default_present c m p is.globals k d lt option.default in
    let found = found_some (found_of m).entries.items a.id.now has.0 has.1 has.2 in
    let got = entry_by_id (EntryPasses p.built) (found_of m).entries.items a.id.now found.0 passed found.1 in
    let key : got.0.0.now ≡ a.id.now = (bytes_eq-Decides _ _).0 got.2 in
    let no_groups : groups_of p.built ≡ [] = (p.from.same_groups is.no_names).1 ∙ is.groups in
    let same : Keeps p.built a got.0.0.now = λ j y low at hit.
    same_rules_by_id c m p k d lt (λ i e small twin. same_place c is i k d e small lt twin) option.own j y low at
    (subst (λ (t : Text). bytes_eq y.id.now t ≡ true) key hit) in
    entry_value p.built m a got.0 same option.action option.least option.val_delim
    (not_group p.built got.0 no_groups (λ empty. option.named (sym key ∙ empty)) got.3.3)
    (found.1 ∙ ap Some (sym got.1)) got.3

-- an option, by the rule that it has
option_by_rule : (c : Command) (k : ℕ) (d : Arg) (r : Rule) → IsSimple c → k < length (args_of c) → rule_of (slice_index_or (args_of c) k d) ≡ r
    → r.action ≡ Some Set → r.range ≡ None → 0 < length r.defaults → 0 < length r.id
    → bytes_eq r.id (codes "help") ≡ false → bytes_eq r.id (codes "version") ≡ false → IsOption (slice_index_or (args_of c) k d)
option_by_rule c k d r simple lt is action range default named help version =
    let a : Arg = slice_index_or (args_of c) k d in
    let arg = All-get_or IsSimpleArg (args_of c) k d lt simple.args in
    let id : a.id.now ≡ r.id = ap (λ (x : Rule). x.id) is in
    let no_range : a.num_vals ≡ None = ap (λ (x : Rule). x.range) is ∙ range in
    let as_many : length (items_of a.default_vals) ≡ length r.defaults =
    sym (length-map (items_of a.default_vals) (λ (s : Bor Text). s.now)) ∙ ap (λ (x : Rule). length x.defaults) is in
    record {
      action = ap (λ (x : Rule). x.action) is ∙ action;
      least = subst (λ (r : Option ValueRange). 1 ≤ (unwrap_or_range r).start_inclusive) (sym no_range) (omega arith);
      val_delim = arg.delimiter;
      default = (arg.default_ifs, omega arith);
      own = λ auto. elim auto [
        | inl h ↦ true≢false (sym ((bytes_eq-Decides _ _).1 (sym id ∙ h)) ∙ help)
        | inr h ↦ true≢false (sym ((bytes_eq-Decides _ _).1 (sym id ∙ h)) ∙ version)
      ];
      named = λ empty.
          let none : length r.id ≡ 0 = ap length (sym id ∙ empty) in
          omega arith;
    }

some_arg : (xs : List Arg) → 0 < length xs → Arg
some_arg [] lt = absurd (omega arith)
some_arg (x ∷ xs) lt = x

-- what is asked of the command
record IsReplay (c : Command) : Type 0 where
  pub simple : IsSimple c
  pub options : IsOptions c
  pub rules : rules_of c ≡ replay_app.top.rules

replay_options : (c : Command) → app_of c ≡ replay_app → IsReplay c
unfolding replay_app
replay_options c is =
    let ready : is_ready (shape_of c) ≡ true = ap (λ (a : App). is_ready a.top) is in
    let leaves : HasReadyLeaves c = ap (λ (a : App). list_all is_ready_leaf a.subs) is in
    let simple = ready_simple c ready leaves in
    record {
      simple = simple;
      options = record {
        globals = simple.globals;
        groups = simple.groups;
        no_names = simple_groups c (ap (λ (a : App). list_all (λ (r : Rule). r.is_simple) a.top.rules) is);
        differ = ap (λ (a : App). all_differ a.top.rules) is;
      };
      rules = ap (λ (a : App). a.top.rules) is;
    }

-- the value of the option at k
value_at : (c : Command) (m : ArgMatches) → IsParsedFrom c m → IsReplay c → (k : ℕ) (r : Rule)
    → k < length (rules_of c) → ((d : Rule) → slice_index_or (rules_of c) k d ≡ r)
    → r.action ≡ Some Set → r.range ≡ None → 0 < length r.defaults → 0 < length r.id
    → bytes_eq r.id (codes "help") ≡ false → bytes_eq r.id (codes "version") ≡ false
    → (v : Bor Text) × (first_of r.id (rows_of (found_of m)) ≡ Some v.now)
    × ((q : ValueParser) → r.parser ≡ Some q → Accepts r.ignore_case q v.now)
value_at c m p replay k r lt at action range default named help version =
    let args : List Arg = args_of c in
    let low : k < length args = rw (sym (length-map args rule_of)) lt in
    let d : Arg = some_arg args (omega arith) in
    let a : Arg = slice_index_or args k d in
    let is : rule_of a ≡ r = sym (get_or-map rule_of args k d (rule_of d) low) ∙ at (rule_of d) in
    let v = option_value c m p replay.options k d low (option_by_rule c k d r replay.simple low is action range default named help version) in (
      v.0,
      sym (first_value-rows (found_of m) r.id) ∙ ap (first_value (found_of m)) (sym (ap (λ (x : Rule). x.id) is)) ∙ v.1,
      λ q parser. subst (λ (b : Bool). Accepts b q v.0.now) (ap (λ (x : Rule). x.ignore_case) is) (v.2 q (ap (λ (x : Rule). x.parser) is ∙ parser)),
    )

number_at : (c : Command) (m : ArgMatches) → IsParsedFrom c m → IsReplay c → (k : ℕ) (name : Text) (high : ℕ) (given : Text)
    → k < length (rules_of c) → ((d : Rule) → slice_index_or (rules_of c) k d ≡ number_rule name high given) → 0 < length name
    → bytes_eq name (codes "help") ≡ false → bytes_eq name (codes "version") ≡ false
    → HasNumber high (first_of name (rows_of (found_of m)))
number_at c m p replay k name high given lt at named help version =
    let v = value_at c m p replay k (number_rule name high given) lt at refl refl (omega arith) named help version in
    rw v.1 (v.2 (vp.Unsigned 1 high) refl)

-- what a parse of the command line gives
pub values_checked : (c : Command) (m : ArgMatches) → app_of c ≡ replay_app → IsParsedFrom c m → AreChecked (rows_of (found_of m))
unfolding replay_app
values_checked c m is p =
    let replay = replay_options c is in
    let six : length (rules_of c) ≡ 6 = ap length replay.rules in
    let at : (k : ℕ) (d : Rule) → slice_index_or (rules_of c) k d ≡ slice_index_or replay_app.top.rules k d =
    λ k d. ap (λ (rs : List Rule). slice_index_or rs k d) replay.rules in
    let first = value_at c m p replay 0 first_rule (omega arith) (at 0) refl refl (omega arith) (omega arith) refl refl in
    record {
      first = rw first.1 refl;
      window = number_at c m p replay 1 (codes "window") 1024 (codes "32") (omega arith) (at 1) (omega arith) refl refl;
      units = number_at c m p replay 2 (codes "units") 256 (codes "1") (omega arith) (at 2) (omega arith) refl refl;
      depth = number_at c m p replay 3 (codes "depth") 1024 (codes "64") (omega arith) (at 3) (omega arith) refl refl;
      level = number_at c m p replay 4 (codes "level") 2 (codes "1") (omega arith) (at 4) (omega arith) refl refl;
    }
