-- Commands leave by a request: what is kept of them, by the steps and by the rules.
use Rattle.std.proofs.Common.{◌≡◌, ℕ, ◌+◌, ◌≤◌, ◌==◌, ◌&&◌, ◌||◌, inl, inr, not, cond, Bool, true, false, List, [], ◌∷◌, ◌++◌, map, count_by, filter, filter_map, Option, Some, refl, ap, sym, ◌∙◌, arith}
use Rattle.std.specs.List.{list_any}
use Rattle.std.proofs.lemmas.Bool.{and_from, eq-eqb, eqb-true, false≢true, or_right}
use Rattle.std.proofs.lemmas.List.{append-nil}
use Rattle.iscsi_rules.specs.rules.Trace.{Command as RulesCommand, Mark, Trace, entered, enters, has, is_among, is_free_at, leaves_ticket, live, was_free}
use Rattle.iscsi_rules.proofs.general.BoolLemmas.{and_parts}
use Rattle.iscsi_rules.proofs.general.CountLemmas.{one, count-cons, count-weaker}
use Rattle.iscsi_rules.proofs.general.ElementLemmas.{In, in-filter}
use Rattle.iscsi_rules.proofs.general.ListLemmas.{list_any-map}
use Rattle.iscsi_outbox_rules.specs.rules.Words.{contains}
use Rattle.iscsi_outbox_law.specs.private.Pairs.{EachOf}
use Rattle.iscsi_ffi_commands.specs.declared.command.Command.{Command}
use Rattle.iscsi_ffi_commands.specs.declared.command.Stage.TheVariants.{Over}
use Rattle.iscsi_ffi_commands.specs.Commands.{has_ticket, in_stage, is_going, is_live, is_marked}
use Rattle.iscsi_ffi_rules.specs.rules.Sides.{Side}
use Rattle.iscsi_ffi_law.specs.Names.{Name, place_named}
use Rattle.iscsi_ffi_law.specs.Parts.{AreCommands, IsLiveNamed, is_live_ticket}
use Rattle.iscsi_ffi_law.proofs.completions.DoneShape.{tickets_of}
use Rattle.iscsi_ffi_law.proofs.requests.Kept.{count_nothing}
use Rattle.iscsi_ffi_law.proofs.general.Members.{Passing, any_in, counted_in, in_counted, two_counted}
use Rattle.iscsi_ffi_law.proofs.requests.Releases.{endings}
use Rattle.iscsi_ffi_law.proofs.requests.Releasing.{ending}
use Rattle.iscsi_ffi_law.proofs.commands.Staging.{Both, both_of}
use Rattle.iscsi_ffi_law.proofs.commands.Stopping.{count_sum}

-- the command with its ticket is over
abbrev pub gone_by : List RulesCommand → Command → Command
gone_by cs c = cond (is_among c.ticket cs) (in_stage Over c) c

pub gone_ticket : (cs : List RulesCommand) (c : Command) → (gone_by cs c).ticket ≡ c.ticket
gone_ticket cs c = by_test (is_among c.ticket cs)
  where
    by_test : (v : Bool) → (cond v (in_stage Over c) c).ticket ≡ c.ticket
    by_test true = refl
    by_test false = refl

pub gone_request : (cs : List RulesCommand) (c : Command) → (gone_by cs c).request ≡ c.request
gone_request cs c = by_test (is_among c.ticket cs)
  where
    by_test : (v : Bool) → (cond v (in_stage Over c) c).request ≡ c.request
    by_test true = refl
    by_test false = refl

pub among_tickets : (cs : List RulesCommand) (k : ℕ) → contains (tickets_of cs) k ≡ is_among k cs
among_tickets cs k = list_any-map (λ (n : ℕ). n == k) (λ (d : RulesCommand). d.ticket) cs

-- ---- in the session

module _ (t : Trace) (item : List Mark) (cs : List RulesCommand) (none_enters : filter_map enters item ≡ []) (left_by : (k : ℕ) → list_any (leaves_ticket k) item ≡ is_among k cs) where
  pub entered_left : entered (item ∷ t) ≡ entered t
  entered_left = ap (λ xs. entered t ++ xs) none_enters ∙ append-nil (entered t)

  pub left_now : (k : ℕ) → has (leaves_ticket k) (item ∷ t) ≡ (is_among k cs || has (leaves_ticket k) t)
  left_now k = ap (λ v. v || has (leaves_ticket k) t) (left_by k)

  pub free_left : (c : RulesCommand) → was_free c t ≡ true → was_free c (item ∷ t) ≡ true
  free_left c was = or_right (is_free_at c (item ∷ t)) (was_free c t) was

  -- another ticket is live as before
  pub live_ticket_left : (k : ℕ) → is_among k cs ≡ false → is_live_ticket (item ∷ t) k ≡ is_live_ticket t k
  live_ticket_left k other =
      ap (list_any (λ (d : RulesCommand). d.ticket == k && not (has (leaves_ticket d.ticket) (item ∷ t)))) entered_left
      ∙ all_same (entered t)
    where
      one_same : (d : RulesCommand) (v : Bool) → (d.ticket == k) ≡ v → (v && not (has (leaves_ticket d.ticket) (item ∷ t))) ≡ (v && not (has (leaves_ticket d.ticket) t))
      one_same d false is = refl
      one_same d true is = ap not (left_now d.ticket ∙ ap (λ v. v || has (leaves_ticket d.ticket) t) (ap (λ n. is_among n cs) (eqb-true d.ticket k is) ∙ other))

      all_same : (ds : List RulesCommand) → list_any (λ (d : RulesCommand). d.ticket == k && not (has (leaves_ticket d.ticket) (item ∷ t))) ds ≡ list_any (λ (d : RulesCommand). d.ticket == k && not (has (leaves_ticket d.ticket) t)) ds
      all_same [] = refl
      all_same (d ∷ ds) =
          ap (λ v. v || list_any (λ (e : RulesCommand). e.ticket == k && not (has (leaves_ticket e.ticket) (item ∷ t))) ds) (one_same d (d.ticket == k) refl)
          ∙ ap (λ v. (d.ticket == k && not (has (leaves_ticket d.ticket) t)) || v) (all_same ds)

-- ---- by both

-- one that leaves was live: the session has it, with this ticket, of this request
pub record WasLive (t : Trace) (d : RulesCommand) : Type 0 where
  pub e : RulesCommand
  pub there : In e (live t)
  pub ticket : e.ticket ≡ d.ticket
  pub event : e.arrival.event ≡ d.arrival.event

pub was_entered : (t : Trace) (d : RulesCommand) (w : WasLive t d) → In w.e (entered t) × (has (leaves_ticket w.e.ticket) t ≡ false)
was_entered t d w =
    let x = in-filter (λ (c : RulesCommand). not (has (leaves_ticket c.ticket) t)) (entered t) w.e w.there in
    (x.0, flipped (has (leaves_ticket w.e.ticket) t) x.1)
  where
    flipped : (v : Bool) → not v ≡ true → v ≡ false
    flipped false is = refl
    flipped true is = absurd (false≢true is)

-- those of these that leave are live, each once
pub all_live : (t : Trace) (cs : List RulesCommand) → ((p : RulesCommand → Bool) → count_by p cs ≤ count_by p (live t)) → (d : RulesCommand) → In d cs → WasLive t d
all_live t cs each d there =
    let test : RulesCommand → Bool = λ (c : RulesCommand). c.ticket == d.ticket && c.arrival.event == d.arrival.event in
    let some : 1 ≤ count_by test cs = in_counted test cs d there (and_from (d.ticket == d.ticket) (d.arrival.event == d.arrival.event) (eq-eqb d.ticket d.ticket refl) (eq-eqb d.arrival.event d.arrival.event refl)) in
    let x : Passing test (live t) = counted_in test (live t) (let few = each test in omega (arith, some, few)) in
    let parts = and_parts (x.x.ticket == d.ticket) (x.x.arrival.event == d.arrival.event) x.passes in
    record { e = x.x; there = x.there; ticket = eqb-true x.x.ticket d.ticket parts.0; event = eqb-true x.x.arrival.event d.arrival.event parts.1 }

-- one that leaves, by the steps
pub record IsLeaver (names : List Name) (r : Side) (items : List Command) (d : RulesCommand) : Type 0 where
  pub c : Command
  pub there : In c items
  pub ticket : c.ticket ≡ d.ticket
  pub lives : is_live c ≡ true
  pub going : is_going c ≡ contains r.told d.ticket
  pub marked : is_marked c ≡ contains r.marked d.ticket
  pub named : place_named names d.arrival.event ≡ Some c.request

pub leaver_of : (names : List Name) (r : Side) (items : List Command) → AreCommands names r items → ((ticket : ℕ) → count_by (has_ticket ticket) items ≤ 1) → EachOf (IsLiveNamed names r.both.trace) (entered r.both.trace) → (d : RulesCommand) → WasLive r.both.trace d → IsLeaver names r items d
leaver_of names r items are numbered live_named d w =
    let x = was_entered r.both.trace d w in
    let b : Both names r items w.e = both_of names r items are numbered live_named w.e x.0 x.1 in
    record {
      c = b.c;
      there = b.there;
      ticket = b.is.ticket ∙ w.ticket;
      lives = b.lives;
      going = b.is.going ∙ ap (λ v. v && contains r.told w.e.ticket) b.lives ∙ ap (contains r.told) w.ticket;
      marked = b.is.marked ∙ ap (λ v. v && contains r.marked w.e.ticket) b.lives ∙ ap (contains r.marked) w.ticket;
      named = ap (place_named names) (sym w.event) ∙ b.is.request;
    }

-- ---- uses that end

-- the requests of those that weren't told to start
abbrev pub ended_by : List Name → Side → List RulesCommand → List (Option ℕ)
ended_by names r cs = map (λ (d : RulesCommand). place_named names d.arrival.event) (filter (λ (d : RulesCommand). not (contains r.told d.ticket)) cs)

-- no two have one ticket
abbrev pub AreOnce : List RulesCommand → Type 0
AreOnce cs = (k : ℕ) → count_by (λ (d : RulesCommand). d.ticket == k) cs ≤ 1

pub once_later : (d : RulesCommand) (cs : List RulesCommand) → AreOnce (d ∷ cs) → AreOnce cs
once_later d cs once k = let all = once k in omega (arith, all, count-cons (λ (e : RulesCommand). e.ticket == k) d cs)

pub once_apart : (d : RulesCommand) (cs : List RulesCommand) → AreOnce (d ∷ cs) → is_among d.ticket cs ≡ false
once_apart d cs once = by_test (is_among d.ticket cs) refl
  where
    by_test : (v : Bool) → is_among d.ticket cs ≡ v → v ≡ false
    by_test false is = refl
    by_test true is = absurd (
        let x = any_in (λ (e : RulesCommand). e.ticket == d.ticket) cs is in
        let some : 1 ≤ count_by (λ (e : RulesCommand). e.ticket == d.ticket) cs = in_counted (λ (e : RulesCommand). e.ticket == d.ticket) cs x.x x.there x.passes in
        let here : one (d.ticket == d.ticket) ≡ 1 = ap one (eq-eqb d.ticket d.ticket refl) in
        let all = once d.ticket in
        let no : ⊥ = omega (arith, some, here, all, count-cons (λ (e : RulesCommand). e.ticket == d.ticket) d cs) in
        no
        )

module _ (names : List Name) (r : Side) (items : List Command) (numbered : (ticket : ℕ) → count_by (has_ticket ticket) items ≤ 1) (place : ℕ) where
  abbrev ends : Command → Bool
  ends c = not (is_going c) && c.request == place

  abbrev ends_in : List RulesCommand → Command → Bool
  ends_in cs c = is_among c.ticket cs && ends c

  -- the one with this ticket
  one_ends : (d : RulesCommand) (l : IsLeaver names r items d) → count_by (λ (c : Command). (d.ticket == c.ticket) && ends c) items ≡ one (ends l.c)
  one_ends d l = by_test (ends l.c) refl
    where
      by_test : (v : Bool) → ends l.c ≡ v → count_by (λ (c : Command). (d.ticket == c.ticket) && ends c) items ≡ one v
      by_test true is =
          let some : 1 ≤ count_by (λ (c : Command). (d.ticket == c.ticket) && ends c) items = in_counted (λ (c : Command). (d.ticket == c.ticket) && ends c) items l.c l.there (and_from (d.ticket == l.c.ticket) (ends l.c) (eq-eqb d.ticket l.c.ticket (sym l.ticket)) is) in
          let few : count_by (λ (c : Command). (d.ticket == c.ticket) && ends c) items ≤ count_by (has_ticket d.ticket) items
          = count-weaker (λ (c : Command). (d.ticket == c.ticket) && ends c) (has_ticket d.ticket) items (λ c both. eq-eqb c.ticket d.ticket (sym (eqb-true d.ticket c.ticket (and_parts (d.ticket == c.ticket) (ends c) both).0))) in
          let most = numbered d.ticket in
          omega (arith, some, few, most)
      by_test false is = count_nothing (λ (c : Command). (d.ticket == c.ticket) && ends c) items (λ c at. other c at (d.ticket == c.ticket) refl)
        where
          other : (c : Command) → In c items → (v : Bool) → (d.ticket == c.ticket) ≡ v → ((d.ticket == c.ticket) && ends c) ≡ false
          other c at false has_it = ap (λ v. v && ends c) has_it
          other c at true has_it =
              let same : c ≡ l.c = two_counted (has_ticket d.ticket) items c l.c (numbered d.ticket) at l.there (eq-eqb c.ticket d.ticket (sym (eqb-true d.ticket c.ticket has_it))) (eq-eqb l.c.ticket d.ticket l.ticket) in
              ap (λ v. v && ends c) has_it ∙ ap ends same ∙ is

  -- as many uses of the place end as the steps count
  pub endings_left : (cs : List RulesCommand) → ((d : RulesCommand) → In d cs → IsLeaver names r items d) → AreOnce cs → count_by (ends_in cs) items ≡ endings (ended_by names r cs) place
  endings_left [] leavers once = count_nothing (ends_in []) items (λ c at. refl)
  endings_left (d ∷ cs) leavers once =
      let l : IsLeaver names r items d = leavers d (inl refl) in
      let rest : count_by (ends_in cs) items ≡ endings (ended_by names r cs) place = endings_left cs (λ e at. leavers e (inr at)) (once_later d cs once) in
      let split = count_sum (ends_in (d ∷ cs)) (λ (c : Command). (d.ticket == c.ticket) && ends c) (ends_in cs) items (λ c at. parted c (d.ticket == c.ticket) refl) in
      let first = one_ends d l in
      let last = by_told l (contains r.told d.ticket) refl in
      omega (arith, rest, split, first, last)
    where
      parted : (c : Command) (v : Bool) → (d.ticket == c.ticket) ≡ v → one (ends_in (d ∷ cs) c) ≡ one ((d.ticket == c.ticket) && ends c) + one (ends_in cs c)
      parted c false is =
          let x : one (ends_in (d ∷ cs) c) ≡ one (ends_in cs c) = ap (λ v. one ((v || is_among c.ticket cs) && ends c)) is in
          let y : one ((d.ticket == c.ticket) && ends c) ≡ 0 = ap (λ v. one (v && ends c)) is in
          omega (arith, x, y)
      parted c true is =
          let apart : is_among c.ticket cs ≡ false = ap (λ n. is_among n cs) (sym (eqb-true d.ticket c.ticket is)) ∙ once_apart d cs once in
          let x : one (ends_in (d ∷ cs) c) ≡ one (ends c) = ap (λ v. one ((v || is_among c.ticket cs) && ends c)) is in
          let y : one ((d.ticket == c.ticket) && ends c) ≡ one (ends c) = ap (λ v. one (v && ends c)) is in
          let z : one (ends_in cs c) ≡ 0 = ap (λ v. one (v && ends c)) apart in
          omega (arith, x, y, z)

      by_told : (l : IsLeaver names r items d) (v : Bool) → contains r.told d.ticket ≡ v → endings (ended_by names r (d ∷ cs)) place ≡ one (ends l.c) + endings (ended_by names r cs) place
      by_told l true is =
          let x : one (ends l.c) ≡ 0 = ap (λ v. one (not v && l.c.request == place)) (l.going ∙ is) in
          let y : endings (ended_by names r (d ∷ cs)) place ≡ endings (ended_by names r cs) place
          = ap (λ v. endings (map (λ (e : RulesCommand). place_named names e.arrival.event) (cond (not v) (d ∷ filter (λ (e : RulesCommand). not (contains r.told e.ticket)) cs) (filter (λ (e : RulesCommand). not (contains r.told e.ticket)) cs))) place) is in
          omega (arith, x, y)
      by_told l false is =
          let x : one (ends l.c) ≡ one (l.c.request == place) = ap (λ v. one (not v && l.c.request == place)) (l.going ∙ is) in
          let y : endings (ended_by names r (d ∷ cs)) place ≡ ending (place_named names d.arrival.event) place + endings (ended_by names r cs) place
          = ap (λ v. endings (map (λ (e : RulesCommand). place_named names e.arrival.event) (cond (not v) (d ∷ filter (λ (e : RulesCommand). not (contains r.told e.ticket)) cs) (filter (λ (e : RulesCommand). not (contains r.told e.ticket)) cs))) place) is in
          let z : ending (place_named names d.arrival.event) place ≡ one (l.c.request == place) = ap (λ x'. ending x' place) l.named in
          omega (arith, x, y, z)
