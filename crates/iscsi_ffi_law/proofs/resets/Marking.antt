-- What another session's reset marks, and tells to stop, by the steps and by the rules.
use Rattle.std.proofs.Common.{◌≡◌, ℕ, ◌==◌, ◌&&◌, ◌||◌, inl, inr, not, cond, Bool, true, false, List, [], ◌∷◌, ◌++◌, map, filter, Some, refl, ap, sym, ◌∙◌}
use Rattle.std.specs.List.{list_any}
use Rattle.std.proofs.lemmas.Bool.{false≢true, eqb-true, eq-eqb, and_from}
use Rattle.std.proofs.lemmas.List.Folds.{list_any-append}
use Rattle.iscsi_rules.specs.rules.Trace.{Command as RulesCommand, Trace, are_apart, entered, has, leaves_ticket, live, live_in}
use Rattle.iscsi_rules.proofs.general.BoolLemmas.{and_parts}
use Rattle.iscsi_rules.proofs.general.ElementLemmas.{In, filter-in, in-filter}
use Rattle.iscsi_outbox_rules.specs.rules.Words.{contains}
use Rattle.iscsi_outbox_law.specs.private.Pairs.{EachOf, PairsOf}
use Rattle.iscsi_requests.specs.Cookies.{Cookies, cookie_at}
use Rattle.iscsi_ffi_commands.specs.declared.command.Command.{Command}
use Rattle.iscsi_ffi_commands.specs.declared.command.Stage.{Stage}
use Rattle.iscsi_ffi_commands.specs.declared.command.Stage.TheVariants.{Entered, Marked, Started, Cleared, Over}
use Rattle.iscsi_ffi_commands.specs.Commands.{in_stage, is_going, is_live, is_marked}
use Rattle.iscsi_ffi_rules.specs.declared.action.Action.{Action}
use Rattle.iscsi_ffi_rules.specs.declared.action.Action.TheVariants.{Stop}
use Rattle.iscsi_ffi_rules.specs.declared.action.StopReason.TheVariants.{Cleared as ClearedReason}
use Rattle.iscsi_ffi_rules.specs.rules.Calls.{Interface}
use Rattle.iscsi_ffi_rules.specs.rules.Clearing.{is_marked as is_marked_there}
use Rattle.iscsi_ffi_rules.specs.rules.Happening.{is_started, stop}
use Rattle.iscsi_ffi_rules.specs.rules.Sides.{Side}
use Rattle.iscsi_ffi_steps.specs.Steps.{Side as StepsSide}
use Rattle.iscsi_ffi_law.specs.Names.{Name}
use Rattle.iscsi_ffi_law.specs.Parts.{IsCommand, IsLiveNamed, is_named}
use Rattle.iscsi_ffi_law.specs.Stands.{Stands}
use Rattle.iscsi_ffi_law.proofs.resets.Clearing.{marked_in, marked_next, next_as, same_attr, same_request, same_ticket, same_unit, stop_as, stop_told, stops_told}
use Rattle.iscsi_ffi_law.proofs.commands.Commands.{one_command}
use Rattle.iscsi_ffi_law.proofs.general.Members.{Passing, any_in, in_any}
use Rattle.iscsi_ffi_law.proofs.requests.NameLemmas.{found_named}
use Rattle.iscsi_ffi_law.proofs.sending.Sources.{cookie_named}

-- ---- a command

pub next_live : (c : Command) → is_live (marked_next c) ≡ is_live c
next_live c = by_stage (c.stage) refl
  where
    by_stage : (g : Stage) → c.stage ≡ g → is_live (next_as c g) ≡ is_live c
    by_stage Entered is = ap (λ (k : Stage). is_live (in_stage k c)) (sym is)
    by_stage Started is = ap (λ (k : Stage). is_live (in_stage k c)) (sym is)
    by_stage Marked is = refl
    by_stage Cleared is = refl
    by_stage Over is = refl

next_going : (c : Command) → is_going (marked_next c) ≡ is_going c
next_going c = by_stage (c.stage) refl
  where
    by_stage : (g : Stage) → c.stage ≡ g → is_going (next_as c g) ≡ is_going c
    by_stage Entered is = ap (λ (k : Stage). is_going (in_stage k c)) (sym is)
    by_stage Started is = ap (λ (k : Stage). is_going (in_stage k c)) (sym is)
    by_stage Marked is = refl
    by_stage Cleared is = refl
    by_stage Over is = refl

next_marked : (c : Command) → is_marked (marked_next c) ≡ is_live c
next_marked c = by_stage (c.stage) refl
  where
    by_stage : (g : Stage) → c.stage ≡ g → is_marked (next_as c g) ≡ is_live c
    by_stage Entered is = ap (λ (k : Stage). is_live (in_stage k c)) (sym is)
    by_stage Started is = ap (λ (k : Stage). is_live (in_stage k c)) (sym is)
    by_stage Marked is = ap (λ (k : Stage). is_marked (in_stage k c)) is ∙ ap (λ (k : Stage). is_live (in_stage k c)) (sym is)
    by_stage Cleared is = ap (λ (k : Stage). is_marked (in_stage k c)) is ∙ ap (λ (k : Stage). is_live (in_stage k c)) (sym is)
    by_stage Over is = ap (λ (k : Stage). is_marked (in_stage k c)) is ∙ ap (λ (k : Stage). is_live (in_stage k c)) (sym is)

-- it is told to stop if it goes on, and isn't marked
stop_is : (v : Cookies) (c : Command) → stop_told v c ≡ cond (is_going c && not (is_marked c)) (Stop c.ticket (cookie_at c.request v) ClearedReason ∷ []) []
stop_is v c = by_stage (c.stage)
  where
    by_stage : (g : Stage) → stop_as v c g ≡ cond (is_going (in_stage g c) && not (is_marked (in_stage g c))) (Stop c.ticket (cookie_at c.request v) ClearedReason ∷ []) []
    by_stage Entered = refl
    by_stage Started = refl
    by_stage Marked = refl
    by_stage Cleared = refl
    by_stage Over = refl

-- ---- lists

any_mapped : {A B : Type 0} (f : A → B) (p : B → Bool) (xs : List A) → list_any p (map f xs) ≡ list_any (λ x. p (f x)) xs
any_mapped f p [] = refl
any_mapped f p (x ∷ xs) = ap (λ v. p (f x) || v) (any_mapped f p xs)

pub pairs_mapped : {A B : Type 0} (R S : A → B → Type 0) (f : A → A) (xs : List A) (ys : List B) → ((x : A) (y : B) → In y ys → R x y → S (f x) y) → PairsOf R xs ys → PairsOf S (map f xs) ys
pairs_mapped R S f [] [] k h = tt
pairs_mapped R S f (x ∷ xs) (y ∷ ys) k h = (k x y (inl refl) h.0, pairs_mapped R S f xs ys (λ a b there. k a b (inr there)) h.1)
pairs_mapped R S f [] (y ∷ ys) k h = absurd h
pairs_mapped R S f (x ∷ xs) [] k h = absurd h

-- ---- by the rules

module _ (r : Side) (unit : ℕ) where
  abbrev is_there : RulesCommand → Bool
  is_there d = not (has (leaves_ticket d.ticket) r.both.trace)

  -- those that are marked now
  abbrev pub these : List RulesCommand
  these = filter (λ (d : RulesCommand). not (is_marked_there r d)) (live_in unit r.both.trace)

  abbrev pub marked_side : Side
  marked_side = record r { marked = r.marked ++ map (λ (d : RulesCommand). d.ticket) these }

  abbrev is_new : RulesCommand → Bool
  is_new d = not (contains r.marked d.ticket) && ((d.unit == unit) && is_there d)

  module _ (apart : are_apart (entered r.both.trace) ≡ true) where
    newly_marked : (d : RulesCommand) → In d (entered r.both.trace) → contains (map (λ (x : RulesCommand). x.ticket) these) d.ticket ≡ is_new d
    newly_marked d there = any_mapped (λ (x : RulesCommand). x.ticket) (λ k. k == d.ticket) these ∙ by_tests (list_any (λ (x : RulesCommand). x.ticket == d.ticket) these) (is_new d) refl refl
      where
        by_tests : (v w : Bool) → list_any (λ (x : RulesCommand). x.ticket == d.ticket) these ≡ v → is_new d ≡ w → v ≡ w
        by_tests true true is new = refl
        by_tests false false is new = refl
        by_tests false true is new =
            let parts = and_parts (not (contains r.marked d.ticket)) ((d.unit == unit) && is_there d) new in
            let more = and_parts (d.unit == unit) (is_there d) parts.1 in
            let at : In d these = filter-in (λ (x : RulesCommand). not (is_marked_there r x)) (live_in unit r.both.trace) d (filter-in (λ (x : RulesCommand). x.unit == unit) (live r.both.trace) d (filter-in is_there (entered r.both.trace) d there more.1) more.0) parts.0 in
            sym is ∙ in_any (λ (x : RulesCommand). x.ticket == d.ticket) these d at (eq-eqb d.ticket d.ticket refl)
        by_tests true false is new =
            let x : Passing (λ (x : RulesCommand). x.ticket == d.ticket) these = any_in (λ (x : RulesCommand). x.ticket == d.ticket) these is in
            let f = in-filter (λ (y : RulesCommand). not (is_marked_there r y)) (live_in unit r.both.trace) x.x x.there in
            let g = in-filter (λ (y : RulesCommand). y.unit == unit) (live r.both.trace) x.x f.0 in
            let k = in-filter is_there (entered r.both.trace) x.x g.0 in
            let same : x.x ≡ d = one_command (entered r.both.trace) x.x d apart k.0 there (eqb-true x.x.ticket d.ticket x.passes) in
            let all : is_new x.x ≡ true = and_from (not (contains r.marked x.x.ticket)) ((x.x.unit == unit) && is_there x.x) f.1 (and_from (x.x.unit == unit) (is_there x.x) g.1 k.1) in
            sym all ∙ ap is_new same ∙ new

    marked_now : (d : RulesCommand) → In d (entered r.both.trace) → contains marked_side.marked d.ticket ≡ (contains r.marked d.ticket || is_new d)
    marked_now d there = list_any-append (λ k. k == d.ticket) r.marked (map (λ (x : RulesCommand). x.ticket) these) ∙ ap (λ v. contains r.marked d.ticket || v) (newly_marked d there)

    -- the two of a command after it
    pub command_marked : (names : List Name) (c : Command) (d : RulesCommand) → In d (entered r.both.trace) → IsCommand names r c d → IsCommand names marked_side (marked_in unit c) d
    command_marked names c d there k = by_unit (c.unit == unit) refl
      where
        now : contains marked_side.marked d.ticket ≡ (contains r.marked d.ticket || (not (contains r.marked d.ticket) && ((c.unit == unit) && is_live c)))
        now = marked_now d there ∙ ap (λ v. contains r.marked d.ticket || (not (contains r.marked d.ticket) && ((v == unit) && is_there d))) (sym k.unit) ∙ ap (λ v. contains r.marked d.ticket || (not (contains r.marked d.ticket) && ((c.unit == unit) && v))) (sym k.live)

        inside : (l m : Bool) → l ≡ (l && (m || (not m && (true && l))))
        inside true true = refl
        inside true false = refl
        inside false m = refl

        outside : (l m : Bool) → (l && m) ≡ (l && (m || (not m && (false && l))))
        outside true true = refl
        outside true false = refl
        outside false m = refl

        by_unit : (v : Bool) → (c.unit == unit) ≡ v → IsCommand names marked_side (cond v (marked_next c) c) d
        by_unit true is = record {
          ticket = same_ticket c ∙ k.ticket;
          unit = same_unit c ∙ k.unit;
          attr = same_attr c ∙ k.attr;
          request = k.request ∙ ap (λ n. Some n) (sym (same_request c));
          live = next_live c ∙ k.live;
          going = next_going c ∙ k.going ∙ ap (λ v. v && contains r.told d.ticket) (sym (next_live c));
          marked =
              next_marked c ∙ inside (is_live c) (contains r.marked d.ticket)
              ∙ ap (λ v. is_live c && (contains r.marked d.ticket || (not (contains r.marked d.ticket) && (v && is_live c)))) (sym is)
              ∙ ap (λ v. is_live c && v) (sym now) ∙ ap (λ v. v && contains marked_side.marked d.ticket) (sym (next_live c));
          freed = k.freed;
        }
        by_unit false is = record {
          ticket = k.ticket;
          unit = k.unit;
          attr = k.attr;
          request = k.request;
          live = k.live;
          going = k.going;
          marked =
              k.marked ∙ outside (is_live c) (contains r.marked d.ticket)
              ∙ ap (λ v. is_live c && (contains r.marked d.ticket || (not (contains r.marked d.ticket) && (v && is_live c)))) (sym is)
              ∙ ap (λ v. is_live c && v) (sym now);
          freed = k.freed;
        }

-- ---- what is told

-- those that are live are named
pub named_first : (names : List Name) (t : Trace) (ds : List RulesCommand) → EachOf (IsLiveNamed names t) ds
    → filter (λ (d : RulesCommand). not (has (leaves_ticket d.ticket) t)) (filter (is_named names) ds) ≡ filter (λ (d : RulesCommand). not (has (leaves_ticket d.ticket) t)) ds
named_first names t [] each = refl
named_first names t (d ∷ ds) each = by_tests (named_first names t ds each.1) (is_named names d) (has (leaves_ticket d.ticket) t) refl refl each.0
  where
    by_tests : filter (λ (d : RulesCommand). not (has (leaves_ticket d.ticket) t)) (filter (is_named names) ds) ≡ filter (λ (d : RulesCommand). not (has (leaves_ticket d.ticket) t)) ds
        → (v w : Bool) → is_named names d ≡ v → has (leaves_ticket d.ticket) t ≡ w → IsLiveNamed names t d
        → filter (λ (d : RulesCommand). not (has (leaves_ticket d.ticket) t)) (cond v (d ∷ filter (is_named names) ds) (filter (is_named names) ds)) ≡ cond (not w) (d ∷ filter (λ (d : RulesCommand). not (has (leaves_ticket d.ticket) t)) ds) (filter (λ (d : RulesCommand). not (has (leaves_ticket d.ticket) t)) ds)
    by_tests rest true w named gone known =
        ap (λ u. cond (not u) (d ∷ filter (λ (d : RulesCommand). not (has (leaves_ticket d.ticket) t)) (filter (is_named names) ds)) (filter (λ (d : RulesCommand). not (has (leaves_ticket d.ticket) t)) (filter (is_named names) ds))) gone
        ∙ ap (λ xs. cond (not w) (d ∷ xs) xs) rest
    by_tests rest false true named gone known = rest
    by_tests rest false false named gone known = absurd (false≢true (sym named ∙ known gone))

module _ (i : Interface) (s : StepsSide) (r : Side) (h : Stands i s r) (unit : ℕ) where
  abbrev marked_of : List RulesCommand → List RulesCommand
  marked_of ds = filter (is_started r) (filter (λ (d : RulesCommand). not (is_marked_there r d)) (filter (λ (d : RulesCommand). d.unit == unit) (filter (λ (d : RulesCommand). not (has (leaves_ticket d.ticket) r.both.trace)) ds)))

  -- the first of them
  first_of_them : (d : RulesCommand) (ds : List RulesCommand)
      → marked_of (d ∷ ds) ≡ cond (not (has (leaves_ticket d.ticket) r.both.trace) && ((d.unit == unit) && (not (is_marked_there r d) && is_started r d))) (d ∷ marked_of ds) (marked_of ds)
  first_of_them d ds = by_tests (not (has (leaves_ticket d.ticket) r.both.trace)) (d.unit == unit) (not (is_marked_there r d)) (is_started r d) refl refl refl refl
    where
      live_of : List RulesCommand
      live_of = filter (λ (d : RulesCommand). not (has (leaves_ticket d.ticket) r.both.trace)) ds

      by_tests : (a b c e : Bool) → not (has (leaves_ticket d.ticket) r.both.trace) ≡ a → (d.unit == unit) ≡ b → not (is_marked_there r d) ≡ c → is_started r d ≡ e
          → filter (is_started r) (filter (λ (d : RulesCommand). not (is_marked_there r d)) (filter (λ (d : RulesCommand). d.unit == unit) (cond a (d ∷ live_of) live_of))) ≡ cond (a && (b && (c && e))) (d ∷ marked_of ds) (marked_of ds)
      by_tests false b c e here at marked started = refl
      by_tests true false c e here at marked started = ap (λ v. filter (is_started r) (filter (λ (d : RulesCommand). not (is_marked_there r d)) (cond v (d ∷ filter (λ (d : RulesCommand). d.unit == unit) live_of) (filter (λ (d : RulesCommand). d.unit == unit) live_of)))) at
      by_tests true true c e here at marked started =
          ap (λ v. filter (is_started r) (filter (λ (d : RulesCommand). not (is_marked_there r d)) (cond v (d ∷ filter (λ (d : RulesCommand). d.unit == unit) live_of) (filter (λ (d : RulesCommand). d.unit == unit) live_of)))) at
          ∙ ap (λ v. filter (is_started r) (cond v (d ∷ filter (λ (d : RulesCommand). not (is_marked_there r d)) (filter (λ (d : RulesCommand). d.unit == unit) live_of)) (filter (λ (d : RulesCommand). not (is_marked_there r d)) (filter (λ (d : RulesCommand). d.unit == unit) live_of)))) marked
          ∙ by_marked c
        where
          by_marked : (c : Bool) → filter (is_started r) (cond c (d ∷ filter (λ (d : RulesCommand). not (is_marked_there r d)) (filter (λ (d : RulesCommand). d.unit == unit) live_of)) (filter (λ (d : RulesCommand). not (is_marked_there r d)) (filter (λ (d : RulesCommand). d.unit == unit) live_of))) ≡ cond (c && e) (d ∷ marked_of ds) (marked_of ds)
          by_marked true = ap (λ v. cond v (d ∷ marked_of ds) (marked_of ds)) started
          by_marked false = refl

  -- they tell the same of a command
  one_told : (c : Command) (d : RulesCommand) → IsCommand h.names r c d → (xs : List Action) (ds : List RulesCommand) → xs ≡ map (stop r ClearedReason) (marked_of ds)
      → cond (c.unit == unit) (stop_told s.state.cookies c) [] ++ xs ≡ map (stop r ClearedReason) (marked_of (d ∷ ds))
  one_told c d k xs ds rest =
      ap (λ (ys : List Action). cond (c.unit == unit) ys [] ++ xs) (stop_is s.state.cookies c)
      ∙ ap (λ (a : Action). cond (c.unit == unit) (cond (is_going c && not (is_marked c)) (a ∷ []) []) [] ++ xs) stop_same
      ∙ ap (λ v. cond (c.unit == unit) (cond (v && not (is_marked c)) (stop r ClearedReason d ∷ []) []) [] ++ xs) k.going
      ∙ ap (λ v. cond (c.unit == unit) (cond ((is_live c && contains r.told d.ticket) && not v) (stop r ClearedReason d ∷ []) []) [] ++ xs) k.marked
      ∙ ap (λ (ys : List Action). cond (c.unit == unit) (cond ((is_live c && contains r.told d.ticket) && not (is_live c && contains r.marked d.ticket)) (stop r ClearedReason d ∷ []) []) [] ++ ys) rest
      ∙ by_tests (c.unit == unit) (is_live c) (contains r.told d.ticket) (contains r.marked d.ticket)
      ∙ ap (λ v. map (stop r ClearedReason) (cond (v && ((c.unit == unit) && (not (is_marked_there r d) && is_started r d))) (d ∷ marked_of ds) (marked_of ds))) k.live
      ∙ ap (λ v. map (stop r ClearedReason) (cond (not (has (leaves_ticket d.ticket) r.both.trace) && ((v == unit) && (not (is_marked_there r d) && is_started r d))) (d ∷ marked_of ds) (marked_of ds))) k.unit
      ∙ ap (map (stop r ClearedReason)) (sym (first_of_them d ds))
    where
      stop_same : Stop c.ticket (cookie_at c.request s.state.cookies) ClearedReason ≡ stop r ClearedReason d
      stop_same =
          ap (λ n. Stop n (cookie_at c.request s.state.cookies) ClearedReason) k.ticket
          ∙ ap (λ w. Stop d.ticket w ClearedReason) (sym (cookie_named h.names h.notes s.state.cookies r.asked h.requests.apart h.requests.kept h.requests.counted h.requests.asked d.arrival.event c.request (found_named h.names d.arrival.event c.request k.request)))

      by_tests : (u l g m : Bool) → cond u (cond ((l && g) && not (l && m)) (stop r ClearedReason d ∷ []) []) [] ++ map (stop r ClearedReason) (marked_of ds)
          ≡ map (stop r ClearedReason) (cond (l && (u && (not m && (g && not m)))) (d ∷ marked_of ds) (marked_of ds))
      by_tests false false g m = refl
      by_tests false true g m = refl
      by_tests true false g m = refl
      by_tests true true false true = refl
      by_tests true true false false = refl
      by_tests true true true true = refl
      by_tests true true true false = refl

  told_each : (cs : List Command) (ds : List RulesCommand) → PairsOf (IsCommand h.names r) cs ds → stops_told s.state.cookies (filter (λ (c : Command). c.unit == unit) cs) ≡ map (stop r ClearedReason) (marked_of ds)
  told_each [] [] are = refl
  told_each (c ∷ cs) (d ∷ ds) are = first_told (c.unit == unit) ∙ one_told c d are.0 (stops_told s.state.cookies (filter (λ (c : Command). c.unit == unit) cs)) ds (told_each cs ds are.1)
    where
      first_told : (v : Bool) → stops_told s.state.cookies (cond v (c ∷ filter (λ (c : Command). c.unit == unit) cs) (filter (λ (c : Command). c.unit == unit) cs)) ≡ cond v (stop_told s.state.cookies c) [] ++ stops_told s.state.cookies (filter (λ (c : Command). c.unit == unit) cs)
      first_told true = refl
      first_told false = refl
  told_each [] (d ∷ ds) are = absurd are
  told_each (c ∷ cs) [] are = absurd are

  pub stops_alike : stops_told s.state.cookies (filter (λ (c : Command). c.unit == unit) s.state.commands.items) ≡ map (stop r ClearedReason) (filter (is_started r) (these r unit))
  stops_alike =
      told_each s.state.commands.items (filter (is_named h.names) (entered r.both.trace)) h.requests.commands
      ∙ ap (λ (ds : List RulesCommand). map (stop r ClearedReason) (filter (is_started r) (filter (λ (d : RulesCommand). not (is_marked_there r d)) (filter (λ (d : RulesCommand). d.unit == unit) ds)))) (named_first h.names r.both.trace (entered r.both.trace) h.requests.live_named)
